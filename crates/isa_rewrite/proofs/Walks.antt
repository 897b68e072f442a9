-- Simplification goes by its four steps, whatever numbers bound the recursion.
use Rattle.std.proofs.Common.{◌≡◌, ℕ, zero, suc, ◌+◌, ◌≤◌, ◌<◌, nat_eq, nat_lt, Bool, true, false, cond, List, [], ◌∷◌, ◌++◌, Option, Some, None, refl, sym, ap, ◌∙◌, arith}
use Rattle.std.specs.Prelude.{◌&&◌, not}
use Rattle.std.proofs.lemmas.Bool.Decides.{nat_tests}
use Rattle.isa_terms.specs.Types.{Ty}
use Rattle.isa_terms.specs.Terms.{Tm, Const, Free, Unknown, Bound, Abs, App}
use Rattle.isa_terms.specs.Norm.{norm}
use Rattle.isa_terms.specs.Normal.{IsHead}
use Rattle.isa_terms.specs.Instance.{Instance, instance_of}
use Rattle.isa_unify.specs.Matching.{match_of, match_from, is_pattern_from}
use Rattle.isa_unify.specs.Constants.{constants_of}
use Rattle.isa_simprules.specs.Rules.{Rule}
use Rattle.isa_simprules.specs.Congruences.{Premise, Cong}
use Rattle.isa_rewrite.specs.Ticking.{Spent, Past, Gives, Ticking, now, go_on, then_do, tick, or_else}
use Rattle.isa_rewrite.specs.Simpsets.{Simpset, Place}
use Rattle.isa_rewrite.specs.Unknowns.{apart, has_nothing_open, fixes}
use Rattle.isa_rewrite.specs.Opening.{opened, closed}
use Rattle.isa_rewrite.specs.Weight.{weight_at, weight}
use Rattle.isa_rewrite.specs.Simplification.{Simplifier, after, deeper, holds, at_premises, conds, improves, if_improving, by_instance, left_match, by_rule, by_rules, by_procs, candidates, by_candidates, Found, opened_at, inside, with_result, by_premises, all_lighter, cong_at, under, by_parts, walk, go_on_with, at_root, attempts, root, simp}
use Rattle.isa_rewrite.proofs.Ticks.{Left, left_more, Like, like_less, like_now, like_past, like_then, like_tick, like_choose, like_or, like_if}
use Rattle.isa_rewrite.proofs.Weights.{weight_positive, weight_opened}

-- two simplifiers do the same up to m ticks
pub record Alike (m : ℕ) (S U : Simplifier) : Type 0 where
  pub at : (p : Place) (t : Tm) → Like Tm m (S p t) (U p t)

module _ (ss : Simpset) (m : ℕ) (S U : Simplifier) (h : Alike m S U) where
  premises_like : (match : Tm → Option Instance) (f g : Instance → ℕ → Spent (Option (List Instance))) → ((r : Instance) → Like (Option (List Instance)) m (f r) (g r)) → (qs : List Tm) → Like (Option (List Instance)) m (at_premises match f qs) (at_premises match g qs)
  premises_like match f g k [] = like_now m None
  premises_like match f g k (q ∷ qs) = go (match q) (premises_like match f g k qs)
    where
      go : (o : Option Instance) → Like (Option (List Instance)) m (at_premises match f qs) (at_premises match g qs) → Like (Option (List Instance)) m (elim o [ None ↦ at_premises match f qs | Some r ↦ tick (or_else (f r) (at_premises match f qs)) ]) (elim o [ None ↦ at_premises match g qs | Some r ↦ tick (or_else (g r) (at_premises match g qs)) ])
      go None d = d
      go (Some r) d =
          like_less m (suc m) (tick (or_else (f r) (at_premises match f qs))) (tick (or_else (g r) (at_premises match g qs)))
          (like_tick m (or_else (f r) (at_premises match f qs)) (or_else (g r) (at_premises match g qs)) (like_or m (f r) (g r) (at_premises match f qs) (at_premises match g qs) (k r) d)) (omega arith)

  conds_like : (p : Place) (known cs : List Tm) (s : List Instance) → Like (Option (List Instance)) m (conds ss S p known cs s) (conds ss U p known cs s)
  conds_like p known [] s = like_now m (Some s)
  conds_like p known (c ∷ cs) s =
      like_if m (nat_eq p.depth ss.limit) (now None) (now None) _ _ (like_now m None)
      (like_if m (has_nothing_open known (after s c)) _ _ _ _
      (like_then m (S (deeper p) (after s c)) (U (deeper p) (after s c)) _ _ (h.at (deeper p) (after s c)) (λ r. like_if m (holds ss p r) (conds ss S p known cs s) (conds ss U p known cs s) (now None) (now None) (conds_like p known cs s) (like_now m None)))
      (like_if m (is_pattern_from (constants_of known) (after s c)) _ _ _ _
      (premises_like (λ q. match_from (constants_of known) (after s c) q) (λ r. conds ss S p known cs (s ++ r ∷ [])) (λ r. conds ss U p known cs (s ++ r ∷ [])) (λ r. conds_like p known cs (s ++ r ∷ [])) p.premises)
      (like_now m None)))

  instance_like : (p : Place) (t : Tm) (rule : Rule) (s : Instance) → Like (Option Tm) m (by_instance ss S p t rule s) (by_instance ss U p t rule s)
  instance_like p t rule s =
      let known = t ∷ p.premises in
      let r = apart known (rule.left ∷ rule.conditions ++ rule.right ∷ []) s in
      like_if m (fixes s rule.right && not (improves rule t (instance_of r rule.right))) (now None) (now None) _ _ (like_now m None)
      (like_then m (conds ss S p known rule.conditions (r ∷ [])) (conds ss U p known rule.conditions (r ∷ [])) _ _ (conds_like p known rule.conditions (r ∷ []))
      (λ o. elim o as (λ o. Like (Option Tm) m (elim o [ None ↦ now None | Some is ↦ now (if_improving rule t (after is rule.right)) ]) (elim o [ None ↦ now None | Some is ↦ now (if_improving rule t (after is rule.right)) ])) [
        | None ↦ like_now m None
        | Some is ↦ like_now m (if_improving rule t (after is rule.right))
      ]))

  rule_like : (p : Place) (t : Tm) (rule : Rule) → Like (Option Tm) m (by_rule ss S p t rule) (by_rule ss U p t rule)
  rule_like p t rule = go (left_match rule t)
    where
      go : (o : Option Instance) → Like (Option Tm) m (elim o [ None ↦ now None | Some s ↦ by_instance ss S p t rule s ]) (elim o [ None ↦ now None | Some s ↦ by_instance ss U p t rule s ])
      go None = like_now m None
      go (Some s) = instance_like p t rule s

  rules_like : (p : Place) (t : Tm) (rules : List Rule) → Like (Option Tm) m (by_rules ss S p t rules) (by_rules ss U p t rules)
  rules_like p t [] = like_now m None
  rules_like p t (rule ∷ rules) = like_or m (by_rule ss S p t rule) (by_rule ss U p t rule) (by_rules ss S p t rules) (by_rules ss U p t rules) (rule_like p t rule) (rules_like p t rules)

  with_like : (p : Place) (t : Tm) (o : Option Tm) → Like Tm m (go_on_with (S p) t o) (go_on_with (U p) t o)
  with_like p t None = like_now m t
  with_like p t (Some u) = h.at p u

  pub root_like : (p : Place) (t : Tm) → Like Tm (suc m) (at_root ss S p t) (at_root ss U p t)
  root_like p t =
      like_tick m (then_do (by_candidates ss S p t) (go_on_with (S p) t)) (then_do (by_candidates ss U p t) (go_on_with (U p) t))
      (like_then m (by_candidates ss S p t) (by_candidates ss U p t) (go_on_with (S p) t) (go_on_with (U p) t)
      (like_choose m (by_procs ss.procs p t) (by_rules ss S p t (candidates ss p)) (by_rules ss U p t (candidates ss p)) (rules_like p t (candidates ss p))) (with_like p t))

-- what is lighter than t
abbrev pub LikeBelow : ℕ → Simplifier → Simplifier → Tm → Type 0
LikeBelow m S U t = (p : Place) (u : Tm) → weight u < weight t → Like Tm m (S p u) (U p u)

and_true : (a b : Bool) → (a && b) ≡ true → (a ≡ true) × (b ≡ true)
and_true true b e = (refl, e)
and_true false b e = cc

lt_true : (i k : ℕ) → nat_lt i k ≡ true → i < k
lt_true i k e = grind (arith, nat_tests, e)

premises_of_like : (m : ℕ) (S U : Simplifier) (p : Place) (t : Tm) (i : Instance) (rs : List Premise) → all_lighter p t i rs ≡ true → LikeBelow m S U t → (s : Instance) → Like Instance m (by_premises S p i rs s) (by_premises U p i rs s)
premises_of_like m S U p t i [] e h s = like_now m s
premises_of_like m S U p t i (a ∷ rs) e h s =
    let b = and_true (nat_lt (weight (opened_at p i a a.left)) (weight t)) (all_lighter p t i rs) e in
    like_then m (S (inside p s a) (opened_at p i a a.left)) (U (inside p s a) (opened_at p i a a.left)) (λ r. by_premises S p i rs (with_result p s a r)) (λ r. by_premises U p i rs (with_result p s a r))
    (h (inside p s a) (opened_at p i a a.left) (lt_true _ _ b.0)) (λ r. premises_of_like m S U p t i rs b.1 h (with_result p s a r))

-- the premises' left sides are lighter than t
abbrev pub IsLight : Place → Tm → Option Found → Type 0
IsLight p t None = Unit {0}
IsLight p t (Some found) = all_lighter p t found.instance found.cong.premises ≡ true

pub cong_light : (p : Place) (t : Tm) (cs : List Cong) → IsLight p t (cong_at p t cs)
cong_light p t [] = tt
cong_light p t (c ∷ cs) = go (match_of c.left t) (cong_light p t cs)
  where
    light : IsLight p t (cong_at p t cs) → (s : Instance) (b : Bool) → all_lighter p t s c.premises ≡ b → IsLight p t (cond b (Some (record { cong = c; instance = s })) (cong_at p t cs))
    light d s true e = e
    light d s false e = d

    go : (o : Option Instance) → IsLight p t (cong_at p t cs) → IsLight p t (elim o [ None ↦ cong_at p t cs | Some s ↦ cond (all_lighter p t s c.premises) (Some (record { cong = c; instance = s })) (cong_at p t cs) ])
    go None d = d
    go (Some s) d = light d s (all_lighter p t s c.premises) refl

parts_like : (m : ℕ) (S U : Simplifier) (p : Place) (t : Tm) (o : Option Found) → IsLight p t o → LikeBelow m S U t → Like Tm m (by_parts S p t o) (by_parts U p t o)
parts_like m S U p t (Some found) l h =
    like_then m (by_premises S p found.instance found.cong.premises found.instance) (by_premises U p found.instance found.cong.premises found.instance) (λ s. now (instance_of s found.cong.right)) (λ s. now (instance_of s found.cong.right))
    (premises_of_like m S U p t found.instance found.cong.premises l h found.instance) (λ s. like_now m (instance_of s found.cong.right))
parts_like m S U p (App f a) None l h =
    let e = weight_positive [] f in
    let d = weight_positive [] a in
    like_then m (S p f) (U p f) (λ g. then_do (S p a) (λ b. now (norm (App g b)))) (λ g. then_do (U p a) (λ b. now (norm (App g b)))) (h p f (omega (arith, d)))
    (λ g. like_then m (S p a) (U p a) (λ b. now (norm (App g b))) (λ b. now (norm (App g b))) (h p a (omega (arith, e))) (λ b. like_now m (norm (App g b))))
parts_like m S U p (Const x T) None l h = like_now m (Const x T)
parts_like m S U p (Free x T) None l h = like_now m (Free x T)
parts_like m S U p (Unknown x i T) None l h = like_now m (Unknown x i T)
parts_like m S U p (Bound i) None l h = like_now m (Bound i)
parts_like m S U p (Abs x T b) None l h = like_now m (Abs x T b)

-- t by its parts, and then at its root
abbrev pub in_parts : Simpset → Simplifier → Simplifier → Simplifier
in_parts ss S root p t = then_do (by_parts S p t (cong_at p t ss.congs)) (root p)

in_parts_like : (ss : Simpset) (m : ℕ) (S U r s : Simplifier) → Alike m r s → (p : Place) (t : Tm) → LikeBelow m S U t → Like Tm m (in_parts ss S r p t) (in_parts ss U s p t)
in_parts_like ss m S U r s h p t k =
    like_then m (by_parts S p t (cong_at p t ss.congs)) (by_parts U p t (cong_at p t ss.congs)) (r p) (s p) (parts_like m S U p t (cong_at p t ss.congs) (cong_light p t ss.congs) k) (h.at p)

walk_like : (ss : Simpset) (m : ℕ) (r s : Simplifier) → Alike m r s → (h j : ℕ) (p : Place) (t : Tm) → weight t < h → weight t < j → Like Tm m (walk ss r h p t) (walk ss s j p t)
unfolding walk
walk_like ss m r s k zero j p t d e = absurd (omega (arith, d))
walk_like ss m r s k (suc h) zero p t d e = absurd (omega (arith, e))
walk_like ss m r s k (suc h) (suc j) p (Abs x T b) d e =
    let w = weight_opened p.level T b in
    like_then m (walk ss r h (under p) (opened p.level T b)) (walk ss s j (under p) (opened p.level T b)) (λ c. now (closed p.level x T c)) (λ c. now (closed p.level x T c))
    (walk_like ss m r s k h j (under p) (opened p.level T b) (omega (arith, w, d)) (omega (arith, w, e))) (λ c. like_now m (closed p.level x T c))
walk_like ss m r s k (suc h) (suc j) p (Const x T) d e =
    in_parts_like ss m (walk ss r h) (walk ss s j) r s k p (Const x T) (λ q u w. walk_like ss m r s k h j q u (omega (arith, w, d)) (omega (arith, w, e)))
walk_like ss m r s k (suc h) (suc j) p (Free x T) d e =
    in_parts_like ss m (walk ss r h) (walk ss s j) r s k p (Free x T) (λ q u w. walk_like ss m r s k h j q u (omega (arith, w, d)) (omega (arith, w, e)))
walk_like ss m r s k (suc h) (suc j) p (Unknown x i T) d e =
    in_parts_like ss m (walk ss r h) (walk ss s j) r s k p (Unknown x i T) (λ q u w. walk_like ss m r s k h j q u (omega (arith, w, d)) (omega (arith, w, e)))
walk_like ss m r s k (suc h) (suc j) p (Bound i) d e =
    in_parts_like ss m (walk ss r h) (walk ss s j) r s k p (Bound i) (λ q u w. walk_like ss m r s k h j q u (omega (arith, w, d)) (omega (arith, w, e)))
walk_like ss m r s k (suc h) (suc j) p (App f a) d e =
    in_parts_like ss m (walk ss r h) (walk ss s j) r s k p (App f a) (λ q u w. walk_like ss m r s k h j q u (omega (arith, w, d)) (omega (arith, w, e)))

again : Simpset → ℕ → Simplifier
again ss m q u = walk ss (attempts ss m) (suc (weight u)) q u

-- enough is enough: the number of attempts doesn't matter where it is no less than the ticks
pub attempts_like : (ss : Simpset) (m j l : ℕ) → l ≤ m → l ≤ j → Alike l (attempts ss m) (attempts ss j)
unfolding attempts again
attempts_like ss m j zero d e = record { at = λ p t. record { same = λ n i. none m j p t n i; left = λ n i. nothing m p t n i } }
  where
    none : (m j : ℕ) (p : Place) (t : Tm) (n : ℕ) → n ≤ 0 → attempts ss m p t n ≡ attempts ss j p t n
    none zero zero p t zero i = refl
    none zero (suc j) p t zero i = refl
    none (suc m) zero p t zero i = refl
    none (suc m) (suc j) p t zero i = refl
    none m j p t (suc n) i = absurd (omega (arith, i))

    nothing : (m : ℕ) (p : Place) (t : Tm) (n : ℕ) → n ≤ 0 → Left n (attempts ss m p t n)
    nothing zero p t zero i = tt
    nothing (suc m) p t zero i = tt
    nothing m p t (suc n) i = absurd (omega (arith, i))
attempts_like ss zero j (suc l) d e = absurd (omega (arith, d))
attempts_like ss (suc m) zero (suc l) d e = absurd (omega (arith, e))
attempts_like ss (suc m) (suc j) (suc l) d e = record {
  at = λ p t. root_like ss l (again ss m) (again ss j)
      (record { at = λ q u. walk_like ss l (attempts ss m) (attempts ss j) (attempts_like ss m j l (omega (arith, d)) (omega (arith, e))) (suc (weight u)) (suc (weight u)) q u (omega arith) (omega arith) }) p t;
}

attempts_root : (ss : Simpset) (m : ℕ) → Alike m (attempts ss m) (root ss)
unfolding root
attempts_root ss m = record {
  at = λ p t. record {
    same = λ n e. ((attempts_like ss m n n e (omega arith)).at p t).same n (omega arith);
    left = λ n e. ((attempts_like ss m m m (omega arith) (omega arith)).at p t).left n e;
  };
}

walk_simp : (ss : Simpset) (m h : ℕ) (p : Place) (t : Tm) → weight t < h → Like Tm m (walk ss (attempts ss m) h p t) (simp ss p t)
unfolding simp
walk_simp ss m h p t d = record {
  same = λ n e. (walk_like ss n (attempts ss m) (attempts ss n) (attempts_like ss m n n e (omega arith)) h (suc (weight t)) p t d (omega arith)).same n (omega arith);
  left = λ n e. (walk_like ss m (attempts ss m) (attempts ss m) (attempts_like ss m m m (omega arith) (omega arith)) h h p t d d).left n e;
}

-- The four steps.

pub simp_abs : (ss : Simpset) (p : Place) (x : List ℕ) (T : Ty) (b : Tm) (n : ℕ) → simp ss p (Abs x T b) n ≡ then_do (simp ss (under p) (opened p.level T b)) (λ c. now (closed p.level x T c)) n
unfolding walk
simp_abs ss p x T b n =
    let w = weight_opened p.level T b in
    let h = weight (Abs x T b) in
    sym ((walk_simp ss n (suc h) p (Abs x T b) (omega arith)).same n (omega arith))
    ∙ (like_then n (walk ss (attempts ss n) h (under p) (opened p.level T b)) (simp ss (under p) (opened p.level T b)) (λ c. now (closed p.level x T c)) (λ c. now (closed p.level x T c))
    (walk_simp ss n h (under p) (opened p.level T b) (omega (arith, w))) (λ c. like_now n (closed p.level x T c))).same n (omega arith)

by_in_parts : (ss : Simpset) (p : Place) (t : Tm) (n : ℕ) → walk ss (attempts ss n) (suc (weight t)) p t n ≡ in_parts ss (walk ss (attempts ss n) (weight t)) (attempts ss n) p t n → simp ss p t n ≡ in_parts ss (simp ss) (root ss) p t n
by_in_parts ss p t n e =
    sym ((walk_simp ss n (suc (weight t)) p t (omega arith)).same n (omega arith)) ∙ e
    ∙ (in_parts_like ss n (walk ss (attempts ss n) (weight t)) (simp ss) (attempts ss n) (root ss) (attempts_root ss n) p t (λ q u w. walk_simp ss n (weight t) q u w)).same n (omega arith)

pub simp_parts : (ss : Simpset) (p : Place) (t : Tm) (n : ℕ) → IsHead t → simp ss p t n ≡ then_do (by_parts (simp ss) p t (cong_at p t ss.congs)) (root ss p) n
unfolding walk
simp_parts ss p (Const x T) n h = by_in_parts ss p (Const x T) n refl
simp_parts ss p (Free x T) n h = by_in_parts ss p (Free x T) n refl
simp_parts ss p (Unknown x i T) n h = by_in_parts ss p (Unknown x i T) n refl
simp_parts ss p (Bound i) n h = by_in_parts ss p (Bound i) n refl
simp_parts ss p (App f a) n h = by_in_parts ss p (App f a) n refl
simp_parts ss p (Abs x T b) n h = absurd h

pub root_is : (ss : Simpset) (p : Place) (t : Tm) (n : ℕ) → root ss p t n ≡ at_root ss (simp ss) p t n
unfolding root attempts
root_is ss p t zero = refl
root_is ss p t (suc n) =
    (root_like ss n (λ q u. walk ss (attempts ss n) (suc (weight u)) q u) (simp ss) (record { at = λ q u. walk_simp ss n (suc (weight u)) q u (omega arith) }) p t).same (suc n) (omega arith)
