-- The inferences that lift a rule over the parameters and the assumptions of a subgoal.
-- Source: lifting (Paulson, "The foundation of a generic theorem prover", 1989), here by primitive inferences with variables in the place of the parameters.
use Rattle.std.specs.Prelude.{ℕ, ◌+◌, max, length, List, [], ◌∷◌, map, Option, Some}
use Rattle.isa_terms.specs.Terms.{Tm, Const, Free, Unknown, Bound, Abs, App}
use Rattle.isa_terms.specs.Instance.{set_term}
use Rattle.isa_terms.specs.declared.inst.TermEntry.{TermEntry}
use Rattle.isa_kernel.specs.Forms.{◌>>=◌}
use Rattle.isa_kernel.specs.Theorem.{Theorem}
use Rattle.isa_kernel.specs.Inferences.{assumed, implies_eliminated, forall_introduced, forall_eliminated, instantiated}
use Rattle.isa_subgoal.specs.declared.lift.Parameter.{Parameter}
use Rattle.isa_subgoal.specs.Premises.{premises, rule_form}
use Rattle.isa_kernel.specs.Derived.{renamed}
use Rattle.isa_subgoal.specs.Private.Steps.{introduced, raised_by}
use Rattle.isa_subgoal.specs.Private.Reshaping.{opened, colons}
use Rattle.isa_subgoal.specs.Lift.{lift}

-- the greatest length of the name of a free variable
abbrev pub longest_name : Tm → ℕ
longest_name (Const x T) = 0
longest_name (Free x T) = length x
longest_name (Unknown x i T) = 0
longest_name (Bound i) = 0
longest_name (Abs x T b) = longest_name b
longest_name (App f a) = max (longest_name f) (longest_name a)

-- free variables for the parameters, whose names have the length n and more
abbrev pub variables_from : ℕ → List Parameter → List Tm
variables_from n [] = []
variables_from n (x ∷ xs) = Free (colons n) x.typ ∷ variables_from (n + 1) xs

-- the terms in the other order, before those of the second list
abbrev pub turned : List Tm → List Tm → List Tm
turned [] us = us
turned (t ∷ ts) us = turned ts (t ∷ us)

-- the entries with one for each unknown of the term: it is lifted, and at the variables vs, the innermost first
abbrev pub lifted_entries : List Parameter → List Tm → Tm → List TermEntry → List TermEntry
lifted_entries xs vs (Unknown x i T) fs = set_term (record { name = x; number = i; typ = T; term = opened vs 0 (lift xs 0 (Unknown x i T)) }) fs
lifted_entries xs vs (Abs x T b) fs = lifted_entries xs vs b fs
lifted_entries xs vs (App f a) fs = lifted_entries xs vs a (lifted_entries xs vs f fs)
lifted_entries xs vs _ fs = fs

-- the rule with its unknowns at the variables, under the assumptions at these
unfoldable pub raised_at : List Parameter → List Tm → List Tm → Theorem → Option Theorem
raised_at xs vs hs th = do
  rule ← instantiated (record { types = []; terms = lifted_entries xs vs th.prop [] }) th
  parts ← rule_form (length (premises th.prop)) rule
  raised_by (map (opened vs 0) hs) parts.0 rule

-- from `!!x1 .. xk. P`, P at the terms vs in their order
unfoldable pub specialized : List Tm → Theorem → Option Theorem
specialized [] th = Some th
specialized (v ∷ vs) th = do
  next ← forall_eliminated v th
  specialized vs next

-- `!!x1 .. xk. P` for the variables vs in their order
unfoldable pub quantified_over : List Tm → Theorem → Option Theorem
quantified_over [] th = Some th
quantified_over (v ∷ vs) th = do
  inner ← quantified_over vs th
  forall_introduced v inner

-- what is behind the premises, each of which is met by one of the propositions ps at the variables vs
unfoldable pub met_over : List Tm → List Tm → Theorem → Option Theorem
met_over vs [] th = Some th
met_over vs (p ∷ ps) th = do
  a ← assumed p
  met ← specialized vs a
  next ← implies_eliminated th met
  met_over vs ps next

-- of a rule with the premises of ps at the variables vs: the ps themselves before the rest under `!!`s
unfoldable pub lifted_over : List Tm → List Tm → Theorem → Option Theorem
lifted_over vs ps th = do
  core ← met_over vs ps th
  whole ← quantified_over vs core
  introduced ps whole

-- the rule lifted, from its propositions qs for the premises and w for the whole, and variables in both orders
unfoldable pub lifted_by : List Parameter → List Tm → List Tm → List Tm → List Tm → Tm → Theorem → Option Theorem
lifted_by xs hs outer inner qs w th = do
  rule ← raised_at xs inner hs th
  lifted ← lifted_over outer qs rule
  renamed w lifted
