-- The steps of an attempt.
use Rattle.std.proofs.Common.{◌≡◌, ℕ, zero, suc, ◌+◌, nat_eq, Bool, true, false, cond, List, [], ◌∷◌, ◌++◌, Option, Some, None, refl, sym, ap, ◌∙◌, subst}
use Rattle.std.specs.Prelude.{map, not, ◌&&◌}
use Rattle.isa_terms.specs.Terms.{Tm}
use Rattle.isa_terms.specs.Instance.{Instance, instance_of}
use Rattle.isa_unify.specs.Matching.{match_from, is_pattern_from}
use Rattle.isa_unify.specs.Constants.{constants_of}
use Rattle.isa_simprules.specs.Rules.{Rule}
use Rattle.isa_rewrite.specs.Ticking.{Spent, Past, Gives, Ticking, now, go_on, then_do, tick, choose, or_else}
use Rattle.isa_rewrite.specs.Simpsets.{Simpset, Place}
use Rattle.isa_rewrite.specs.Unknowns.{apart, has_nothing_open, fixes}
use Rattle.isa_rewrite.specs.Simplification.{Simplifier, after, deeper, holds, at_premises, conds, improves, if_improving, by_instance, left_match, by_rule, by_rules, go_on_with, simp}
use Rattle.isa_rewrite.specs.Turns.{AreClosed, IsClosedRule, Candidate, candidate, trying, conditions_left, holding, trying_one, TriesInTurn, Choice, with_choices, at_premise, ChoosesInTurn}
use Rattle.isa_rewrite.proofs.Ticks.{go_now, go_same, go_assoc}

module _ (ss : Simpset) (p : Place) (t : Tm) (rules : List Rule) where
  -- what follows an attempt by one rule
  abbrev later : Option Tm → Ticking Tm
  later o = then_do (choose o (by_rules ss (simp ss) p t rules)) (go_on_with (simp ss p) t)

  abbrev decided : Rule → Option (List Instance) → Ticking (Option Tm)
  decided rule o = elim o [ None ↦ now None | Some is ↦ now (if_improving rule t (after is rule.right)) ]

  -- the conditions of a rule, and what follows
  conditions_go : (rule : Rule) (s : Instance) → improves rule t (instance_of s rule.right) ≡ true → (cs : List Tm) → AreClosed (t ∷ p.premises) s cs → (n : ℕ)
      → go_on (go_on (conds ss (simp ss) p (t ∷ p.premises) cs (s ∷ []) n) (decided rule)) later ≡ conditions_left ss p t (instance_of s rule.right) rules (map (instance_of s) cs) n
  conditions_go rule s e [] c n = ap (λ b. go_on (choose (cond b (Some (instance_of s rule.right)) None) (by_rules ss (simp ss) p t rules) n) (go_on_with (simp ss p) t)) e
  conditions_go rule s e (a ∷ as1) c n = go (nat_eq p.depth ss.limit) (conditions_go rule s e as1 c.1)
    where
      -- the condition's result, and what follows
      holds_go : ((m : ℕ) → go_on (go_on (conds ss (simp ss) p (t ∷ p.premises) as1 (s ∷ []) m) (decided rule)) later ≡ conditions_left ss p t (instance_of s rule.right) rules (map (instance_of s) as1) m)
          → (b : Bool) (m : ℕ) → go_on (go_on (cond b (conds ss (simp ss) p (t ∷ p.premises) as1 (s ∷ [])) (now None) m) (decided rule)) later
          ≡ cond b (conditions_left ss p t (instance_of s rule.right) rules (map (instance_of s) as1)) (trying ss p t rules) m
      holds_go h true m = h m
      holds_go h false m = refl

      open_test : (b : Bool) → b ≡ true → (x y : Ticking (Option (List Instance))) → cond b x y n ≡ x n
      open_test b q x y = ap (λ b. cond b x y n) q

      go : (b : Bool) → ((m : ℕ) → go_on (go_on (conds ss (simp ss) p (t ∷ p.premises) as1 (s ∷ []) m) (decided rule)) later ≡ conditions_left ss p t (instance_of s rule.right) rules (map (instance_of s) as1) m)
          → go_on (go_on (cond b (now None) (cond (has_nothing_open (t ∷ p.premises) (instance_of s a))
          (then_do (simp ss (deeper p) (instance_of s a)) (λ r. cond (holds ss p r) (conds ss (simp ss) p (t ∷ p.premises) as1 (s ∷ [])) (now None)))
          (cond (is_pattern_from (constants_of (t ∷ p.premises)) (instance_of s a)) (at_premises (λ q. match_from (constants_of (t ∷ p.premises)) (instance_of s a) q) (λ r. conds ss (simp ss) p (t ∷ p.premises) as1 ((s ∷ []) ++ r ∷ [])) p.premises) (now None))) n) (decided rule)) later
          ≡ cond b (trying ss p t rules) (then_do (simp ss (deeper p) (instance_of s a)) (λ r. cond (holds ss p r) (conditions_left ss p t (instance_of s rule.right) rules (map (instance_of s) as1)) (trying ss p t rules))) n
      go true h = refl
      go false h =
          let next : Tm → Ticking (Option (List Instance)) = λ r. cond (holds ss p r) (conds ss (simp ss) p (t ∷ p.premises) as1 (s ∷ [])) (now None) in
          let at : Spent Tm = simp ss (deeper p) (instance_of s a) n in
          ap (λ x. go_on (go_on x (decided rule)) later) (open_test (has_nothing_open (t ∷ p.premises) (instance_of s a)) c.0 (then_do (simp ss (deeper p) (instance_of s a)) next) _)
          ∙ ap (λ x. go_on x later) (go_assoc at next (decided rule)) ∙ go_assoc at (λ r. then_do (next r) (decided rule)) later
          ∙ go_same at (λ r. then_do (then_do (next r) (decided rule)) later) (λ r. cond (holds ss p r) (conditions_left ss p t (instance_of s rule.right) rules (map (instance_of s) as1)) (trying ss p t rules)) (λ r m. holds_go h (holds ss p r) m)

  abbrev tests : Rule → Instance → Instance → Ticking (Option Tm)
  tests rule s r = cond (fixes s rule.right && not (improves rule t (instance_of r rule.right))) (now None) (then_do (conds ss (simp ss) p (t ∷ p.premises) rule.conditions (r ∷ [])) (decided rule))

  -- a rule whose instance doesn't improve t leads on to the later rules, without ticks; else its conditions come
  instance_go : (rule : Rule) → IsClosedRule rule → (s : Instance) → left_match rule t ≡ Some s → (n : ℕ)
      → go_on (by_instance ss (simp ss) p t rule s n) later
      ≡ trying_one ss p t rules (cond (improves rule t (instance_of s rule.right)) (Some (record { conditions = map (instance_of s) rule.conditions; right = instance_of s rule.right })) None) n
  instance_go rule k s e n =
      ap (λ r. go_on (tests rule s r n) later) (k.fixed t s e (t ∷ p.premises)) ∙ go (fixes s rule.right) (improves rule t (instance_of s rule.right)) (k.settled t s e) refl
    where
      go : (b c : Bool) → b ≡ true → improves rule t (instance_of s rule.right) ≡ c
          → go_on (cond (b && not c) (now None) (then_do (conds ss (simp ss) p (t ∷ p.premises) rule.conditions (s ∷ [])) (decided rule)) n) later
          ≡ trying_one ss p t rules (cond c (Some (record { conditions = map (instance_of s) rule.conditions; right = instance_of s rule.right })) None) n
      go true true d q = conditions_go rule s q rule.conditions (k.closed t s e p.premises) n
      go true false d q = refl
      go false c d q = cc

  rule_go : (rule : Rule) → IsClosedRule rule → (n : ℕ) → go_on (by_rule ss (simp ss) p t rule n) later ≡ trying_one ss p t rules (candidate rule t) n
  rule_go rule k n = go (left_match rule t) refl
    where
      go : (o : Option Instance) → left_match rule t ≡ o
          → go_on ((elim o as (λ o. Ticking (Option Tm)) [ None ↦ now None | Some s ↦ by_instance ss (simp ss) p t rule s ]) n) later
          ≡ trying_one ss p t rules (elim o as (λ o. Option Candidate) [ None ↦ None | Some s ↦ cond (improves rule t (instance_of s rule.right)) (Some (record { conditions = map (instance_of s) rule.conditions; right = instance_of s rule.right })) None ]) n
      go None e = refl
      go (Some s) e = instance_go rule k s e n

  pub trying_next : (rule : Rule) (n : ℕ) → IsClosedRule rule → trying ss p t (rule ∷ rules) n ≡ trying_one ss p t rules (candidate rule t) n
  trying_next rule n k = go_assoc (by_rule ss (simp ss) p t rule n) (λ o. choose o (by_rules ss (simp ss) p t rules)) (go_on_with (simp ss p) t) ∙ rule_go rule k n

pub tries_in_turn : TriesInTurn
tries_in_turn = record { none = λ ss p t n. refl; next = λ ss p t rule rules n k. trying_next ss p t rules rule n k }

-- ---- choices

module _ (ss : Simpset) (p : Place) (known : List Tm) where
  same_choices : (xs : List Choice) (m o : Ticking (Option (List Instance))) (n k : ℕ) → m n ≡ o k → with_choices ss p known xs m n ≡ with_choices ss p known xs o k
  same_choices [] m o n k e = e
  same_choices (x ∷ xs) m o n k e =
      let other : Ticking (Option (List Instance)) = at_premises x.matches (λ r. conds ss (simp ss) p known x.conditions (x.instances ++ r ∷ [])) x.premises in
      same_choices xs (or_else m other) (or_else o other) n k (ap (λ a. go_on a (λ o. choose o other)) e)

  found_choices : (xs : List Choice) (s : List Instance) (n : ℕ) → with_choices ss p known xs (now (Some s)) n ≡ now (Some s) n
  found_choices [] s n = refl
  found_choices (x ∷ xs) s n = found_choices xs s n

  past_choices : (xs : List Choice) (m : Ticking (Option (List Instance))) (n : ℕ) → m n ≡ Past → with_choices ss p known xs m n ≡ Past
  past_choices [] m n e = e
  past_choices (x ∷ xs) m n e =
      let other : Ticking (Option (List Instance)) = at_premises x.matches (λ r. conds ss (simp ss) p known x.conditions (x.instances ++ r ∷ [])) x.premises in
      past_choices xs (or_else m other) n (ap (λ a. go_on a (λ o. choose o other)) e)

  -- a tick comes out of choices
  ticked_choices : (xs : List Choice) (m : Ticking (Option (List Instance))) (n : ℕ) → with_choices ss p known xs (tick m) n ≡ tick (with_choices ss p known xs m) n
  ticked_choices xs m zero = past_choices xs (tick m) zero refl
  ticked_choices xs m (suc n) = same_choices xs (tick m) m (suc n) n refl

  premise_choices : (x : Choice) (xs : List Choice) (q : Tm) (qs : List Tm) (n : ℕ) →
      with_choices ss p known xs (at_premises x.matches (λ r. conds ss (simp ss) p known x.conditions (x.instances ++ r ∷ [])) (q ∷ qs)) n ≡ at_premise ss p known xs x q qs (x.matches q) n
  premise_choices x xs q qs n = go (x.matches q)
    where
      go : (o : Option Instance) → with_choices ss p known xs (elim o [ None ↦ at_premises x.matches (λ r. conds ss (simp ss) p known x.conditions (x.instances ++ r ∷ [])) qs | Some r ↦ tick (or_else (conds ss (simp ss) p known x.conditions (x.instances ++ r ∷ [])) (at_premises x.matches (λ r. conds ss (simp ss) p known x.conditions (x.instances ++ r ∷ [])) qs)) ]) n
          ≡ at_premise ss p known xs x q qs o n
      go None = refl
      go (Some r) = ticked_choices xs (or_else (conds ss (simp ss) p known x.conditions (x.instances ++ r ∷ [])) (at_premises x.matches (λ r. conds ss (simp ss) p known x.conditions (x.instances ++ r ∷ [])) qs)) n

pub chooses_in_turn : ChoosesInTurn
chooses_in_turn = record {
  found = found_choices;
  back = λ ss p known x xs n. same_choices ss p known xs (or_else (now None) (at_premises x.matches (λ r. conds ss (simp ss) p known x.conditions (x.instances ++ r ∷ [])) x.premises)) (at_premises x.matches (λ r. conds ss (simp ss) p known x.conditions (x.instances ++ r ∷ [])) x.premises) n n refl;
  premise = premise_choices;
  none = λ ss p known x xs n. refl;
}
