use Rattle.std.proofs.Common.{rules}
use Rattle.isa_resolution.proofs.Joining.{instantiated_base}
use Rattle.isa_resolution.proofs.stating.instance.Goals as goal

pub returns-in-Ok : goal.returns-in-Ok
returns-in-Ok c = instantiated_base c.args.inst.now c.args.th.now c.in-Ok.made (search rules)
