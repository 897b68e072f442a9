-- Simplification procedures: inequalities that a premise states, and binders over a variable that an equation fixes.
-- Source: simplification procedures of Isabelle's Simplifier (the Isabelle/Isar Reference Manual, "Simplification procedures"), those of Isabelle/HOL for `neq` and for quantifiers over an equation (`Quantifier1`); the order of the steps is this project's.
use Rattle.std.specs.Prelude.{ℕ, List, [], ◌∷◌, map, Bool, true, false, not, ◌&&◌, ◌||◌, Option, Some, None, if◌then◌else◌}
use Rattle.std.specs.Option.{option_map_or}
use Rattle.isa_terms.specs.Types.{Ty}
use Rattle.isa_terms.specs.Terms.{Tm, Const, Free, Abs, App}
use Rattle.isa_terms.specs.Typing.{function_parts, function_of}
use Rattle.isa_terms.specs.Equal.{name_eq, ty_eq, tm_eq}
use Rattle.isa_terms.specs.Sets.{has}
use Rattle.isa_terms.specs.Order.{head_of}
use Rattle.isa_terms.specs.Binding.{occurs}
use Rattle.isa_terms.specs.Instance.{instance_of}
use Rattle.isa_kernel.specs.Forms.{◌>>=◌, app_parts, imp_parts}
use Rattle.isa_kernel.specs.declared.logic.Logic.{Logic}
use Rattle.isa_unify.specs.Matching.{match_of}
use Rattle.isa_simprules.specs.Rules.{Rule}
use Rattle.isa_rewrite.specs.Simpsets.{Procedure, Place}
use Rattle.isa_rewrite.specs.Opening.{fresh, opened, closed}
use Rattle.isa_rewrite.specs.Simplification.{if_improving}

-- ---- inequalities

-- whether each of the terms equals one of the second
abbrev pub are_in : List Tm → List Tm → Bool
are_in [] us = true
are_in (t ∷ ts) us = has us t && are_in ts us

-- the rule is used where its condition's instance is a premise
abbrev pub by_inequality : Rule → Procedure
by_inequality rule p t = do
  s ← match_of rule.left t
  if are_in (map (instance_of s) rule.conditions) p.premises then if_improving rule t (instance_of s rule.right) else None

-- ---- binders over a variable that an equation fixes

-- the facts in declared order, each kind by itself
pub record Facts : Type 0 where
  -- `Q (%x. x = t & P x) == ..`
  pub one_point : List Rule
  -- `(e & L) & R == e & (L & R)`
  pub pull_assoc : List Rule
  -- `L & (e & R) == e & (L & R)`
  pub pull_left : List Rule
  -- `L & e == e & L`
  pub pull_swap : List Rule

abbrev pub constant_name : Tm → Option (List ℕ)
constant_name (Const c T) = Some c
constant_name t = None

-- the constant E of the fact `J (E a b) ==> J (P a) ==> J (P b)` of the role `subst`
abbrev pub equality : Logic → Option (List ℕ)
equality logic = do
  fact ← logic.subst
  premise ← imp_parts fact.prop
  judgment ← app_parts premise.0
  constant_name (head_of judgment.1)

-- whether the type is `T => T => T`
abbrev pub is_operation : Ty → Bool
is_operation F = option_map_or (λ parts. ty_eq parts.1 (function_of parts.0 parts.0)) (function_parts F) false

-- the constant other than E that heads t, where it is applied to two terms at such a type
abbrev pub junction : List ℕ → Tm → Option Tm
junction E (App (App (Const c F) l) r) = if not (name_eq c E) && is_operation F then Some (Const c F) else None
junction E t = None

-- whether t is `x = u` or `u = x` for the variable x of type T, which is not in u
abbrev pub fixes_variable : List ℕ → List ℕ → Ty → Tm → Bool
fixes_variable E x T (App (App (Const c F) a) b) =
    name_eq c E && ((tm_eq a (Free x T) && not (occurs x T b)) || (tm_eq b (Free x T) && not (occurs x T a)))
fixes_variable E x T t = false

abbrev pub is_constant_of : Option Tm → Tm → Bool
is_constant_of None t = false
is_constant_of (Some c) t = tm_eq c t

-- whether t is a conjunction under the constant
abbrev pub is_junction : Option Tm → Tm → Bool
is_junction c (App (App h l) r) = is_constant_of c h
is_junction c t = false

-- whether one of the conjuncts of t fixes the variable
abbrev pub has_fixing : List ℕ → Option Tm → List ℕ → Ty → Tm → Bool
has_fixing E c x T (App (App h l) r) =
    if is_constant_of c h then has_fixing E c x T l || has_fixing E c x T r else fixes_variable E x T (App (App h l) r)
has_fixing E c x T t = false

-- what the first of the rules that match makes of t
abbrev pub by_first : List Rule → Tm → Option Tm
by_first [] t = None
by_first (rule ∷ rules) t = elim (match_of rule.left t) [ None ↦ by_first rules t | Some s ↦ Some (instance_of s rule.right) ]

-- t with its first conjunct that fixes the variable in front, which is brought there from the inside out
abbrev pub in_front : Facts → List ℕ → Option Tm → List ℕ → Ty → Tm → Option Tm
in_front facts E c x T (App (App h l) r) =
    if not (is_constant_of c h) then (if fixes_variable E x T (App (App h l) r) then Some (App (App h l) r) else None)
    else if has_fixing E c x T l
    then (if is_junction c l then (in_front facts E c x T l >>= (λ moved. by_first facts.pull_assoc (App (App h moved) r))) else Some (App (App h l) r))
    else if is_junction c r then (in_front facts E c x T r >>= (λ moved. by_first facts.pull_left (App (App h l) moved)))
    else if fixes_variable E x T r then by_first facts.pull_swap (App (App h l) r) else None
in_front facts E c x T t = None

-- what the first of the facts that match the whole makes of it, where this improves t
abbrev pub by_whole : List Rule → Tm → Tm → Option Tm
by_whole [] t whole = None
by_whole (rule ∷ rules) t whole = elim (match_of rule.left whole) [ None ↦ by_whole rules t whole | Some s ↦ if_improving rule t (instance_of s rule.right) ]

-- the body of a binder, opened with the variable `:k`, with its first conjunct that fixes the variable in front
abbrev pub rearranged : Facts → List ℕ → ℕ → Ty → Tm → Option Tm
rearranged facts E k T body = in_front facts E (junction E body) (fresh k) T body

-- of `Q (%x. B)`: the first conjunct of B that fixes x is brought to the front, and then a fact for the whole is used
abbrev pub by_one_point : Logic → Facts → Procedure
by_one_point logic facts p (App Q (Abs x T b)) = do
  E ← equality logic
  moved ← rearranged facts E p.level T (opened p.level T b)
  by_whole facts.one_point (App Q (Abs x T b)) (App Q (closed p.level x T moved))
by_one_point logic facts p t = None
