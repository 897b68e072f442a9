use Rattle.std.proofs.Common.{rules}
use Rattle.isa_resolution.proofs.Joining.{composed_is}
use Rattle.isa_resolution.proofs.compose.compose_under.Goals as goal

pub returns : goal.returns
returns c = composed_is c.args.inst.now c.args.r.now c.args.s.now c.in_ok-th.th c.args.before.now c.args.behind.now c.in_ok-others.others c.args.premise.now c.in_ok-wanted.wanted c.stated.result (search rules) (search rules) (search rules) c.stated.ensures
