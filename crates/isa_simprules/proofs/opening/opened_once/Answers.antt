use Rattle.std.proofs.Common.{rules}
use Rattle.isa_simprules.proofs.Granting.{once_is_granted}
use Rattle.isa_simprules.proofs.opening.opened_once.Goals as goal

pub returns : goal.returns
returns c =
    once_is_granted c.args.th.now c.in-Some.typ.now c.in-Some.predicate.now c.in_ok-unknown.unknown c.forall_elim-answer.result c.if_granted.result (search rules) (first_of (search rules, cc)) c.forall_elim-answer.ensures c.if_granted.ensures
