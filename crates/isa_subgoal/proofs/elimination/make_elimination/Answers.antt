use Rattle.std.proofs.Common.{rules, ◌++◌, ◌∷◌, [], refl}
use Rattle.isa_subgoal.proofs.Eliminating.{eliminates}
use Rattle.isa_subgoal.proofs.elimination.make_elimination.Goals as goal

pub returns : goal.returns
returns c =
    eliminates c.args.number c.args.rule.now c.in_ok-parts.parts.premises c.in_ok-parts.parts.conclusion c.in_ok-goal.goal c.in_ok-case.case (c.in_ok-parts.parts.premises ++ c.in_ok-case.case ∷ []) c.eliminate_into.result c.is_derived.ensures c.requires (search rules) (search rules) (search rules) (search rules) refl (search rules)
