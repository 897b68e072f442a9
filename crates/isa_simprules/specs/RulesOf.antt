-- The rewrite rules of a fact, under the facts that the roles of an object logic have.
-- Source: the Simplifier's preparation of rewrite rules (the Isabelle/Isar Reference Manual, "The Simplifier", "Simplifier declarations"; `Simplifier.set_mksimps`, and `mk_atomize` and `mk_meta_eq` of the object logics); the order and the depth are this project's.
use Rattle.std.specs.Prelude.{◌≡◌, ℕ, zero, suc, List, [], ◌∷◌, ◌++◌, map, Bool, true, option_map, Option, Some, None, is_some, if◌then◌else◌}
use Rattle.isa_terms.specs.Terms.{Tm}
use Rattle.isa_terms.specs.Sets.{has}
use Rattle.isa_kernel.specs.Forms.{◌>>=◌, eq_parts}
use Rattle.isa_kernel.specs.Theorem.{Theorem}
use Rattle.isa_kernel.specs.declared.logic.Logic.{Logic}
use Rattle.isa_subgoal.specs.Premises.{conclusion}
use Rattle.isa_simprules.specs.Roles.{normal, by_fact, by_facts}
use Rattle.isa_simprules.specs.Opening.{opened}

-- what next gives of each theorem, one after the other
abbrev pub each : (Theorem → List Theorem) → List Theorem → List Theorem
each next [] = []
each next (th ∷ ths) = next th ++ each next ths

-- the branches of what a theorem is taken apart into, or itself where it isn't
abbrev pub parts_or_itself : (Theorem → List Theorem) → Theorem → List Theorem → List Theorem
parts_or_itself next th [] = th ∷ []
parts_or_itself next th (x ∷ xs) = each next (x ∷ xs)

-- The theorem is taken apart by the facts, and so is what they make of it, depth first. What has been taken apart as often as is allowed is taken as it stands.
unfoldable pub branches : ℕ → List Theorem → Theorem → List Theorem
branches zero facts th = th ∷ []
branches (suc n) facts th = parts_or_itself (branches n facts) th (by_facts facts th)

-- whether it is `As ==> l == r`
abbrev pub is_equation : Theorem → Bool
is_equation th = is_some (eq_parts (conclusion th.prop))

-- what the first of the facts makes of the theorem whose premise matches
abbrev pub by_first : List Theorem → Theorem → Option Theorem
by_first [] th = None
by_first (fact ∷ facts) th = elim (by_fact fact th) [ None ↦ by_first facts th | Some x ↦ Some x ]

abbrev pub if_equation : Option Theorem → List Theorem
if_equation None = []
if_equation (Some th) = if is_equation th then (th ∷ []) else []

-- an equation stays, and another theorem is turned into one by the first fact that can
abbrev pub turned : List Theorem → Theorem → Option Theorem
turned facts th = if is_equation th then Some th else by_first facts th

-- the same in normal form, where it is an equation
abbrev pub equation_of : List Theorem → Theorem → List Theorem
equation_of facts th = if_equation (option_map normal (turned facts th))

-- how often a theorem may be taken apart
abbrev pub depth : ℕ
depth = 100

-- The rules of a fact, as theorems `conditions ==> left == right`: its `!!`s are opened, it is taken apart by the facts of the role `atomize`, and each branch is turned into an equation by the facts of the role `meta`. Facts and rules count in normal form.
unfoldable pub rules_of : Logic → Theorem → List Theorem
rules_of logic fact = each (equation_of logic.meta) (branches depth logic.atomize (opened (normal fact)))

-- each of the first terms equals one of the second
abbrev pub AreIn : List Tm → List Tm → Type 0
AreIn [] us = Unit {0}
AreIn (t ∷ ts) us = (has us t ≡ true) × AreIn ts us

-- each is an equation, and its hypotheses are among those
abbrev pub AreEquationsUnder : List Tm → List Theorem → Type 0
AreEquationsUnder hs [] = Unit {0}
AreEquationsUnder hs (th ∷ ths) = ((is_equation th ≡ true) × AreIn th.hyps hs) × AreEquationsUnder hs ths

-- the rules of a fact are equations under its own hypotheses
abbrev pub RulesAreEquations : Type 0
RulesAreEquations = (logic : Logic) (fact : Theorem) → AreEquationsUnder fact.hyps (rules_of logic fact)
