use Rattle.isa_net.proofs.Netting.{missed_unmatched}
use Rattle.isa_net.specs.declared.mode.Mode.TheVariants.{Matching}
use Rattle.isa_net.proofs.net.Net.matching.Goals as goal

pub returns-clause-unmatched : goal.returns-clause-unmatched
returns-clause-unmatched g c = missed_unmatched Matching c.args.t.now c.args.self.now c.look_up.result c.look_up.ensures.missed
