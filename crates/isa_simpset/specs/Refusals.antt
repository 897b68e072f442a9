-- When a simpset refuses a fact.
-- Source: simpsets of Isabelle's Simplifier (the Isabelle/Isar Reference Manual, "The Simplifier", "Simplifier declarations"); the order of the tests is this project's.
use Rattle.std.specs.Prelude.{ℕ, nat_eq, List, [], ◌∷◌, ◌++◌, length, Bool, true, false, ◌&&◌, Option, Some, None, option_map, if◌then◌else◌}
use Rattle.std.specs.Option.{option_or}
use Rattle.isa_terms.specs.Terms.{Tm, Unknown, App}
use Rattle.isa_terms.specs.Sets.{missing}
use Rattle.isa_terms.specs.Order.{head_of}
use Rattle.isa_terms.specs.Pattern.{is_pattern}
use Rattle.isa_terms.specs.Spines.{args_of}
use Rattle.isa_terms.specs.Unknowns.{unknowns_of}
use Rattle.isa_kernel.specs.Forms.{◌>>=◌}
use Rattle.isa_kernel.specs.Theorem.{Theorem}
use Rattle.isa_kernel.specs.declared.logic.Logic.{Logic}
use Rattle.isa_simprules.specs.RulesOf.{rules_of}
use Rattle.isa_simprules.specs.Rules.{Rule, rules_in}
use Rattle.isa_simprules.specs.Congruences.{are_distinct_unknowns, is_constant}
use Rattle.isa_simpset.specs.declared.fail.SimpFail.{SimpFail}
use Rattle.isa_simpset.specs.declared.fail.SimpFail.TheVariants.{NotEquation, NotPattern, ExtraVar, NotSplit}
use Rattle.isa_simpset.specs.declared.procs.Proc.{Proc}
use Rattle.isa_simpset.specs.declared.procs.Proc.TheVariants.{Neq}

-- the name of an unknown
abbrev pub name_of : Tm → List ℕ
name_of (Unknown x i T) = x
name_of t = []

abbrev pub first_name : List Tm → Option (List ℕ)
first_name [] = None
first_name (u ∷ us) = Some (name_of u)

-- the first unknown of the terms, from left to right, that is none of the known terms'
abbrev pub first_extra : List Tm → List Tm → Option (List ℕ)
first_extra known ts = first_name (missing (unknowns_of known) (unknowns_of ts))

-- one of the right side that is neither on the left side nor in a condition
abbrev pub extra_on_right : Rule → Option (List ℕ)
extra_on_right r = first_extra (r.left ∷ r.conditions) (r.right ∷ [])

-- one of the conditions or the right side that is not on the left side
abbrev pub extra : Rule → Option (List ℕ)
extra r = first_extra (r.left ∷ []) (r.conditions ++ r.right ∷ [])

-- the first such unknown of one of the rules
abbrev pub first_extra_of : List Rule → Option (List ℕ)
first_extra_of [] = None
first_extra_of (r ∷ rs) = option_or (extra_on_right r) (first_extra_of rs)

-- whether each left side is a pattern
abbrev pub are_patterns : List Rule → Bool
are_patterns [] = true
are_patterns (r ∷ rs) = is_pattern r.left && are_patterns rs

-- the refusals are tested in their order, each over all the rules
abbrev pub rules_refusal : List Rule → Option SimpFail
rules_refusal [] = Some NotEquation
rules_refusal (r ∷ rs) = if are_patterns (r ∷ rs) then option_map ExtraVar (first_extra_of (r ∷ rs)) else Some NotPattern

-- whether the left side is `P (c x1 .. xn)`, P and the xi being distinct unknowns
abbrev pub is_split_side : Tm → Bool
is_split_side (App f a) = is_constant (head_of a) && are_distinct_unknowns (f ∷ args_of a)
is_split_side _ = false

abbrev pub has_none : List Tm → Bool
has_none [] = true
has_none (t ∷ ts) = false

abbrev pub is_split : Rule → Bool
is_split r = has_none r.conditions && is_split_side r.left

-- the rule, where there is just one
abbrev pub only_rule : List Rule → Option Rule
only_rule (r ∷ []) = Some r
only_rule _ = None

-- the split rule that the fact is
abbrev pub split_of : Logic → Theorem → Option Rule
split_of logic fact = do
  r ← only_rule (rules_in (rules_of logic fact))
  if is_split r then Some r else None

-- why a split rule is refused
abbrev pub split_refusal : Option Rule → Option SimpFail
split_refusal None = Some NotSplit
split_refusal (Some r) = option_map ExtraVar (extra r)

-- how many conditions the fact of a simproc has
abbrev pub conditions_of : Proc → ℕ
conditions_of Neq = 1
conditions_of _ = 0

-- the rule that the fact of a simplification procedure is
abbrev pub proc_of : Proc → Logic → Theorem → Option Rule
proc_of k logic fact = do
  r ← only_rule (rules_in (rules_of logic fact))
  if nat_eq (length r.conditions) (conditions_of k) then Some r else None

-- why it is refused
abbrev pub proc_refusal : Option Rule → Option SimpFail
proc_refusal None = Some NotEquation
proc_refusal (Some r) = if is_pattern r.left then option_map ExtraVar (extra r) else Some NotPattern
