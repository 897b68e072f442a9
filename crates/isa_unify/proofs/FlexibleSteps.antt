-- The step of an equation with an unknown at both heads.
use Rattle.std.proofs.Common.{◌≡◌, ℕ, List, Option, Some, Result, IfOk, ap, ◌∙◌}
use Rattle.std.proofs.lemmas.Result.{IfOk-weaker}
use Rattle.isa_terms.specs.Types.{Ty}
use Rattle.isa_terms.specs.Terms.{Unknown}
use Rattle.isa_unify.specs.declared.equation.Equation.{Equation}
use Rattle.isa_unify.specs.declared.progress.State.{State}
use Rattle.isa_unify.specs.declared.progress.Progress.{Progress}
use Rattle.isa_unify.specs.Spines.{args_of, distinct_bounds}
use Rattle.isa_unify.specs.Steps.{taken}
use Rattle.isa_unify.specs.Unification.{on_pattern, solve_unknowns, flexible_step}

pub flexible_both : {E : Type 0} (r : Result Progress E) (st : State) (e : Equation) (f : List ℕ) (k : ℕ) (S : Ty) (g : List ℕ) (i : ℕ) (T : Ty) (xs ys : List ℕ)
    → Some xs ≡ distinct_bounds (args_of e.left) → Some ys ≡ distinct_bounds (args_of e.right)
    → IfOk r (λ p. p ≡ taken (solve_unknowns st e f k S xs g i T ys)) → IfOk r (λ p. p ≡ taken (flexible_step st e (Unknown f k S) (Unknown g i T)))
flexible_both r st e f k S g i T xs ys l m d = IfOk-weaker r (λ p. p ≡ taken (solve_unknowns st e f k S xs g i T ys)) (λ p. p ≡ taken (flexible_step st e (Unknown f k S) (Unknown g i T))) (λ p q. q ∙ ap taken same) d
  where
    same : solve_unknowns st e f k S xs g i T ys ≡ flexible_step st e (Unknown f k S) (Unknown g i T)
    same =
        ap (λ (o : Option (List ℕ)). on_pattern o (λ us. solve_unknowns st e f k S xs g i T us)) m
        ∙ ap (λ (o : Option (List ℕ)). on_pattern o (λ ts. on_pattern (distinct_bounds (args_of e.right)) (λ us. solve_unknowns st e f k S ts g i T us))) l
