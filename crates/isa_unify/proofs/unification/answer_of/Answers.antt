use Rattle.std.proofs.Common.{rules}
use Rattle.isa_unify.specs.Calls.{equations_of}
use Rattle.isa_unify.proofs.Loops.{answered}
use Rattle.isa_unify.proofs.unification.answer_of.Goals as goal

pub returns-in_ok-retyped_state-in-Some : goal.returns-in_ok-retyped_state-in-Some
returns-in_ok-retyped_state-in-Some c =
    answered c.unless_clash.result (equations_of c.args.pairs.now) c.args.next c.in-Some.types.items c.in_ok-retyped_state-in-Some.field-0 c.unless_clash.ensures (search rules) (search rules)
