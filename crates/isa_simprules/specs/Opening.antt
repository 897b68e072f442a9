-- Theorems whose outer quantifiers are opened into unknowns.
-- Source: `Drule.forall_elim_vars` of Isabelle; that the least number is taken is this project's.
use Rattle.std.specs.Prelude.{◌≡◌, ℕ, zero, suc, ◌+◌, List, [], ◌∷◌, Option, Some, None, is_some, codes, if◌then◌else◌}
use Rattle.isa_terms.specs.Terms.{Tm, Const, Free, Unknown, Bound, Abs, App}
use Rattle.isa_terms.specs.Unknowns.{unknowns_of}
use Rattle.isa_kernel.specs.Forms.{◌>>=◌, const_type, quantifier_parts}
use Rattle.isa_kernel.specs.Theorem.{Theorem}
use Rattle.isa_kernel.specs.Inferences.{forall_eliminated}
use Rattle.isa_simprules.specs.Numbers.{least_number}

-- how often `!!` stands in a term
abbrev pub quantifiers : Tm → ℕ
quantifiers (Const x T) = if is_some (const_type (codes "Pure.all") (Const x T)) then 1 else 0
quantifiers (Abs x T b) = quantifiers b
quantifiers (App f a) = quantifiers f + quantifiers a
quantifiers t = 0

-- the name of the variable of `!!` over that predicate: one that is no abstraction names none
abbrev pub variable_of : Tm → List ℕ
variable_of (Abs x T b) = x
variable_of t = codes "x"

-- `B` of `!!x. B` at the unknown `?x` with the least number that no unknown of that name in the theorem has
abbrev pub opened_once : Theorem → Option Theorem
opened_once th = do
  parts ← quantifier_parts th.prop
  forall_eliminated (Unknown (variable_of parts.1) (least_number (unknowns_of (th.prop ∷ th.hyps)) (variable_of parts.1)) parts.0) th

-- the same again and again, as long as `!!` stands in front, but at most n times
abbrev pub opened_often : ℕ → Theorem → Theorem
opened_often zero th = th
opened_often (suc n) th = elim (opened_once th) [ None ↦ th | Some x ↦ opened_often n x ]

-- the theorem without `!!` in front: each time there is one `!!` less in it
abbrev pub opened : Theorem → Theorem
opened th = opened_often (quantifiers th.prop) th

-- no `!!` stands in front of what is opened
abbrev pub OpenedHasNoQuantifier : Type 0
OpenedHasNoQuantifier = (th : Theorem) → quantifier_parts (opened th).prop ≡ None
