-- The instance that unification finds for pairs of terms.
-- Source: unification of higher-order patterns (Miller, 1991; Nipkow, "Functional unification of higher-order patterns", 1993).
use Rattle.std.specs.Prelude.{◌≡◌, ℕ, List, [], ◌∷◌, Bool, true, ◌&&◌, if◌then◌else◌, Option, Some, None}
use Rattle.isa_terms.specs.Terms.{Tm}
use Rattle.isa_terms.specs.Equal.{tm_eq}
use Rattle.isa_terms.specs.Instance.{Instance, instance_of}
use Rattle.isa_kernel.specs.Inferences.{keeps}
use Rattle.isa_unify.specs.declared.unification.TermPair.{TermPair}
use Rattle.isa_unify.specs.declared.unification.Unified.{Unified}
use Rattle.isa_unify.specs.declared.unification.Unified.TheVariants.{Yes, No, Outside}
use Rattle.isa_unify.specs.declared.progress.Answer.{Answer}
use Rattle.isa_unify.specs.declared.progress.Answer.TheVariants as answer
use Rattle.isa_unify.specs.Calls.{equations_of}
use Rattle.isa_unify.specs.Unification.{unify}

-- whether the instance makes both sides of each pair equal
abbrev pub makes_equal : Instance → List TermPair → Bool
makes_equal s [] = true
makes_equal s (p ∷ ps) = tm_eq (instance_of s p.left) (instance_of s p.right) && makes_equal s ps

-- whether the instance keeps types and makes both sides of each pair equal
abbrev pub is_unifier : Instance → List TermPair → Bool
is_unifier s ps = keeps s.types s.terms && makes_equal s ps

-- Yes counts with such an instance alone. Of terms whose unknowns stand at one type each, unification finds no other.
abbrev pub checked : List TermPair → Answer → Unified
checked ps (answer.Yes ts fs n) = if is_unifier (record { types = ts; terms = fs }) ps then Yes (record { types = ts; terms = fs }) else No
checked ps answer.No = No
checked ps answer.Outside = Outside

-- the answer of unification for the pairs, with new unknowns numbered from k
abbrev pub answer_of : List TermPair → ℕ → Unified
answer_of ps k = checked ps (unify (equations_of ps) k)

-- the instance of the answer Yes
abbrev pub instance_if_yes : Unified → Option Instance
instance_if_yes (Yes s) = Some s
instance_if_yes No = None
instance_if_yes Outside = None

-- the two terms as a pair
abbrev pub pair : Tm → Tm → List TermPair
pair t u = record { left = t; right = u } ∷ []

-- the instance of the answer Yes keeps types
abbrev pub IsKept : Unified → Type 0
IsKept (Yes s) = keeps s.types s.terms ≡ true
IsKept No = Unit {0}
IsKept Outside = Unit {0}
