-- What the answer of unification is, by the test of its instance.
use Rattle.std.proofs.Common.{◌≡◌, ℕ, List, true, false, cond, refl, sym, ap, ◌∙◌}
use Rattle.isa_terms.specs.Instance.{Instance}
use Rattle.isa_unify.specs.declared.unification.TermPair.{TermPair}
use Rattle.isa_unify.specs.declared.unification.Unified.{Unified}
use Rattle.isa_unify.specs.declared.unification.Unified.TheVariants.{Yes, No, Outside}
use Rattle.isa_unify.specs.declared.progress.Answer.TheVariants as answer
use Rattle.isa_unify.specs.Calls.{equations_of}
use Rattle.isa_unify.specs.Unification.{unify}
use Rattle.isa_resolution.specs.Unifiers.{is_unifier, checked, answer_of}

pub yes_is : (ps : List TermPair) (k n : ℕ) (s : Instance) → unify (equations_of ps) k ≡ answer.Yes s.types s.terms n → true ≡ is_unifier s ps → Yes s ≡ answer_of ps k
yes_is ps k n s e h = sym (ap (checked ps) e ∙ ap (λ b. cond b (Yes s) No) (sym h))

pub yes_is_none : (ps : List TermPair) (k n : ℕ) (s : Instance) → unify (equations_of ps) k ≡ answer.Yes s.types s.terms n → false ≡ is_unifier s ps → No ≡ answer_of ps k
yes_is_none ps k n s e h = sym (ap (checked ps) e ∙ ap (λ b. cond b (Yes s) No) (sym h))

pub no_is : (ps : List TermPair) (k : ℕ) → unify (equations_of ps) k ≡ answer.No → No ≡ answer_of ps k
no_is ps k e = sym (ap (checked ps) e)

pub outside_is : (ps : List TermPair) (k : ℕ) → unify (equations_of ps) k ≡ answer.Outside → Outside ≡ answer_of ps k
outside_is ps k e = sym (ap (checked ps) e)
