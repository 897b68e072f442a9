-- An attempt at a root, cut before a rule, at a condition, behind one, and at a premise for an open condition.
-- Source: backtracking over the choices that were made, the latest first (this project's steps).
use Rattle.std.specs.Prelude.{◌≡◌, ℕ, ◌+◌, nat_eq, List, [], ◌∷◌, ◌++◌, map, Bool, true, false, Option, Some, None, if◌then◌else◌}
use Rattle.isa_terms.specs.Terms.{Tm}
use Rattle.isa_terms.specs.Instance.{Instance, instance_of}
use Rattle.isa_unify.specs.Matching.{match_from}
use Rattle.isa_unify.specs.Constants.{constants_of}
use Rattle.isa_simprules.specs.Rules.{Rule}
use Rattle.isa_rewrite.specs.Ticking.{Spent, Ticking, now, then_do, tick, choose, or_else}
use Rattle.isa_rewrite.specs.Simpsets.{Simpset, Place}
use Rattle.isa_rewrite.specs.Unknowns.{apart, has_nothing_open, fixes}
use Rattle.isa_rewrite.specs.Simplification.{after, deeper, holds, at_premises, conds, improves, left_match, by_rules, go_on_with, simp}

-- ---- rules whose unknowns are all on the left side

-- the instance of each condition has nothing open
abbrev pub AreClosed : List Tm → Instance → List Tm → Type 0
AreClosed known s [] = Unit {0}
AreClosed known s (c ∷ cs) = (has_nothing_open known (instance_of s c) ≡ true) × AreClosed known s cs

pub record IsClosedRule (rule : Rule) : Type 0 where
  pub fixed : (t : Tm) (s : Instance) → left_match rule t ≡ Some s → (known : List Tm) → apart known (rule.left ∷ rule.conditions ++ rule.right ∷ []) s ≡ s
  pub settled : (t : Tm) (s : Instance) → left_match rule t ≡ Some s → fixes s rule.right ≡ true
  pub closed : (t : Tm) (s : Instance) → left_match rule t ≡ Some s → (known : List Tm) → AreClosed (t ∷ known) s rule.conditions

abbrev pub AreClosedRules : List Rule → Type 0
AreClosedRules [] = Unit {0}
AreClosedRules (rule ∷ rules) = IsClosedRule rule × AreClosedRules rules

-- the instances of a rule's conditions and of its right side
pub record Candidate : Type 0 where
  pub conditions : List Tm
  pub right : Tm

-- the rule at t, where its left side matches and the instance improves t
abbrev pub candidate : Rule → Tm → Option Candidate
candidate rule t = elim (left_match rule t) [
  | None ↦ None
  | Some s ↦ if improves rule t (instance_of s rule.right) then Some (record { conditions = map (instance_of s) rule.conditions; right = instance_of s rule.right }) else None
]

-- what is left of an attempt before the rules that are yet to be tried
abbrev pub trying : Simpset → Place → Tm → List Rule → Ticking Tm
trying ss p t rules = then_do (by_rules ss (simp ss) p t rules) (go_on_with (simp ss p) t)

-- what is left with these conditions of a rule whose right side is u, and with the later rules
abbrev pub conditions_left : Simpset → Place → Tm → Tm → List Rule → List Tm → Ticking Tm
conditions_left ss p t u rules [] = simp ss p u
conditions_left ss p t u rules (c ∷ cs) =
    if nat_eq p.depth ss.limit then trying ss p t rules
    else then_do (simp ss (deeper p) c) (λ r. if holds ss p r then conditions_left ss p t u rules cs else trying ss p t rules)

-- what the frame of a condition makes of the condition's result
abbrev pub holding : Simpset → Place → Tm → Tm → List Rule → List Tm → Tm → Ticking Tm
holding ss p t u rules cs r = if holds ss p r then conditions_left ss p t u rules cs else trying ss p t rules

abbrev pub trying_one : Simpset → Place → Tm → List Rule → Option Candidate → Ticking Tm
trying_one ss p t rules None = trying ss p t rules
trying_one ss p t rules (Some x) = conditions_left ss p t x.right rules x.conditions

-- The steps of an attempt by rules whose unknowns are all on the left side, for each number n of ticks.
pub record TriesInTurn : Type 0 where
  -- no rule is left
  pub none : (ss : Simpset) (p : Place) (t : Tm) (n : ℕ) → trying ss p t [] n ≡ now t n
  -- the next rule: it is no candidate, or its conditions come
  pub next : (ss : Simpset) (p : Place) (t : Tm) (rule : Rule) (rules : List Rule) (n : ℕ) → IsClosedRule rule → trying ss p t (rule ∷ rules) n ≡ trying_one ss p t rules (candidate rule t) n

-- ---- any rules: conditions with unknowns that are open

-- a choice that was made for an open condition: the premises that are yet to be tried for it
pub record Choice : Type 0 where
  pub matches : Tm → Option Instance
  pub conditions : List Tm
  pub instances : List Instance
  pub premises : List Tm

-- the instances that conditions hold at, or else those after the choices that were made, the latest first
abbrev pub with_choices : Simpset → Place → List Tm → List Choice → Ticking (Option (List Instance)) → Ticking (Option (List Instance))
with_choices ss p known [] m = m
with_choices ss p known (x ∷ xs) m =
    with_choices ss p known xs (or_else m (at_premises x.matches (λ r. conds ss (simp ss) p known x.conditions (x.instances ++ r ∷ [])) x.premises))

abbrev pub choice_of : List Tm → List Tm → List Instance → Tm → List Tm → Choice
choice_of known cs s c qs = record { matches = match_from (constants_of known) (after s c); conditions = cs; instances = s; premises = qs }

-- the next premise for an open condition, in the choices that were made before
abbrev pub at_premise : Simpset → Place → List Tm → List Choice → Choice → Tm → List Tm → Option Instance → Ticking (Option (List Instance))
at_premise ss p known xs x q qs None = with_choices ss p known xs (at_premises x.matches (λ r. conds ss (simp ss) p known x.conditions (x.instances ++ r ∷ [])) qs)
at_premise ss p known xs x q qs (Some r) = tick (with_choices ss p known (record x { premises = qs } ∷ xs) (conds ss (simp ss) p known x.conditions (x.instances ++ r ∷ [])))

-- The steps of backtracking.
pub record ChoosesInTurn : Type 0 where
  -- conditions that hold end it, whatever was chosen
  pub found : (ss : Simpset) (p : Place) (known : List Tm) (xs : List Choice) (s : List Instance) (n : ℕ) → with_choices ss p known xs (now (Some s)) n ≡ now (Some s) n
  -- a condition that fails goes back to the latest choice, and then on with its premises
  pub back : (ss : Simpset) (p : Place) (known : List Tm) (x : Choice) (xs : List Choice) (n : ℕ) →
      with_choices ss p known (x ∷ xs) (now None) n ≡ with_choices ss p known xs (at_premises x.matches (λ r. conds ss (simp ss) p known x.conditions (x.instances ++ r ∷ [])) x.premises) n
  -- each premise in turn: one that matches ticks and is remembered
  pub premise : (ss : Simpset) (p : Place) (known : List Tm) (x : Choice) (xs : List Choice) (q : Tm) (qs : List Tm) (n : ℕ) →
      with_choices ss p known xs (at_premises x.matches (λ r. conds ss (simp ss) p known x.conditions (x.instances ++ r ∷ [])) (q ∷ qs)) n ≡ at_premise ss p known xs x q qs (x.matches q) n
  -- no premise is left
  pub none : (ss : Simpset) (p : Place) (known : List Tm) (x : Choice) (xs : List Choice) (n : ℕ) →
      with_choices ss p known xs (at_premises x.matches (λ r. conds ss (simp ss) p known x.conditions (x.instances ++ r ∷ [])) []) n ≡ with_choices ss p known xs (now None) n
