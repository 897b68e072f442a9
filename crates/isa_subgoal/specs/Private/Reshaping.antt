-- The inferences that bring a subgoal into its form.
-- Source: Isabelle's normal form of rules with nested `!!`s and `==>`s, as by its `norm_hhf` (The Isabelle/Isar Implementation Manual, "Object-level rules"); here each subgoal is met by the rule that it follows from what is in the form.
use Rattle.std.specs.Prelude.{ℕ, zero, suc, ◌+◌, ◌-◌, nat_lt, List, [], ◌∷◌, ◌++◌, slice_get, unwrap_or, length, map, Bool, true, ◌&&◌, if◌then◌else◌, Option, Some, None}
use Rattle.isa_terms.specs.Terms.{Tm, Const, Free, Unknown, Bound, Abs, App}
use Rattle.isa_kernel.specs.Forms.{◌>>=◌, imp_parts, quantifier_parts}
use Rattle.isa_kernel.specs.Theorem.{Theorem}
use Rattle.isa_kernel.specs.Inferences.{assumed, implies_introduced, implies_eliminated, forall_introduced, forall_eliminated, instantiated}
use Rattle.isa_subgoal.specs.Private.Steps.{eliminated, introduced}
use Rattle.isa_subgoal.specs.Shape.{is_in_form, spelled, moved, shaped}

-- the terms vs, the innermost first, in the place of the binders round k binders
abbrev pub opened : List Tm → ℕ → Tm → Tm
opened vs k (Const x T) = Const x T
opened vs k (Free x T) = Free x T
opened vs k (Unknown x i T) = Unknown x i T
opened vs k (Bound i) = if nat_lt i k then Bound i else unwrap_or (slice_get vs (i - k)) (Bound i)
opened vs k (Abs x T b) = Abs x T (opened vs (k + 1) b)
opened vs k (App f a) = App (opened vs k f) (opened vs k a)

-- the lengths of the names of the free variables, added up: a longer name is new
abbrev pub name_lengths : Tm → ℕ
name_lengths (Const x T) = 0
name_lengths (Free x T) = length x
name_lengths (Unknown x i T) = 0
name_lengths (Bound i) = 0
name_lengths (Abs x T b) = name_lengths b
name_lengths (App f a) = name_lengths f + name_lengths a

-- a name of that length
abbrev pub colons : ℕ → List ℕ
colons zero = []
colons (suc n) = colons n ++ 58 ∷ []

-- the proposition t with vs for its binders, from its parts, which th says behind all `!!`s of t and behind the assumptions hs; names of length n on are new
unfoldable pub regained : ℕ → List Tm → List Tm → Tm → Theorem → Option Theorem
regained n vs hs (App f (Abs x T b)) th = elim (quantifier_parts (App f (Abs x T b))) [
  | None ↦ eliminated hs th
  | Some q ↦ do
    inner ← forall_eliminated (Free (colons n) T) th
    whole ← regained (n + 1) (Free (colons n) T ∷ vs) hs b inner
    forall_introduced (Free (colons n) T) whole
]
regained n vs hs (App f a) th = elim (imp_parts (App f a)) [
  | None ↦ eliminated hs th
  | Some p ↦ do
    inner ← regained n vs (hs ++ opened vs 0 p.0 ∷ []) a th
    implies_introduced (opened vs 0 p.0) inner
]
regained n vs hs t th = eliminated hs th

-- that the subgoal follows from what is in the form
unfoldable pub regaining : Tm → Option Theorem
regaining t = do
  form ← assumed (moved t)
  whole ← regained (name_lengths (moved t) + name_lengths (spelled t) + 1) [] [] (spelled t) form
  rule ← implies_introduced (moved t) whole
  instantiated (record { types = []; terms = [] }) rule

-- the subgoal under the one hypothesis that is what it is brought into
unfoldable pub met_form : Tm → Option Theorem
met_form s = if is_in_form s then assumed s else do
  rule ← regaining s
  eliminated (shaped s ∷ []) rule

-- what is behind the premises, each of which is met by what it is brought into
unfoldable pub met_forms : List Tm → Theorem → Option Theorem
met_forms [] th = Some th
met_forms (s ∷ ss) th = do
  met ← met_form s
  next ← implies_eliminated th met
  met_forms ss next

-- the theorem with each of its premises brought into the form
unfoldable pub reshaped_by : List Tm → Theorem → Option Theorem
reshaped_by ss th = do
  core ← met_forms ss th
  introduced (map shaped ss) core

-- whether each has the form
abbrev pub are_in_form : List Tm → Bool
are_in_form [] = true
are_in_form (s ∷ ss) = is_in_form s && are_in_form ss
