use Rattle.std.proofs.Common.{sym, subst, arith}
use Rattle.std.proofs.lemmas.Grind.{common_steps}
use Rattle.isa_unify.specs.TypeUnification.{IsTypeUnifier}
use Rattle.isa_unify.proofs.TypeAnswers.{type_unifier}
use Rattle.isa_unify.proofs.types.unify_types.Goals as goal

pub returns-in_ok-instance_of_types-in-Some-clause-found : goal.returns-in_ok-instance_of_types-in-Some-clause-found
returns-in_ok-instance_of_types-in-Some-clause-found c =
    subst (IsTypeUnifier c.args.left.now c.args.right.now) (sym c.in_ok-instance_of_types-in-Some.ensures)
    (type_unifier c.args.left.now c.args.right.now c.in-Some.entries.items (grind (arith, common_steps)))
