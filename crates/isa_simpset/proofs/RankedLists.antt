-- Rules that are put in and taken out by place.
use Rattle.std.proofs.Common.{◌≡◌, ℕ, zero, suc, ◌+◌, ◌<◌, ◌≤◌, nat_lt, List, [], ◌∷◌, ◌++◌, length, take, drop, Bool, true, false, cond, Option, Some, None, refl, sym, ap, ◌∙◌, arith}
use Rattle.std.specs.Prelude.{◌||◌}
use Rattle.std.specs.List.{insert, remove}
use Rattle.isa_terms.specs.Terms.{Tm}
use Rattle.isa_terms.specs.Equal.{tm_eq}
use Rattle.isa_simprules.specs.Rules.{Rule}
use Rattle.isa_simprules.specs.Congruences.{Cong}
use Rattle.isa_simpset.specs.Lists.{is_stated_by, place_of_cong, without_cong, is_stated, ranked, rank_place, place_of, without_rule}

pub rank_within : (n : ℕ) (rs : List Rule) → rank_place n rs ≤ length rs
rank_within n [] = omega arith
rank_within n (q ∷ qs) = go (nat_lt (length q.conditions) n) (rank_within n qs)
  where
    go : (b : Bool) → rank_place n qs ≤ length qs → cond b (suc (rank_place n qs)) 0 ≤ length (q ∷ qs)
    go true h = omega (arith, h)
    go false h = omega arith

pub inserted_is : (r : Rule) (rs : List Rule) → insert rs (rank_place (length r.conditions) rs) r ≡ ranked r rs
inserted_is r [] = refl
inserted_is r (q ∷ qs) = go (nat_lt (length q.conditions) (length r.conditions)) (inserted_is r qs)
  where
    go : (b : Bool) → insert qs (rank_place (length r.conditions) qs) r ≡ ranked r qs → insert (q ∷ qs) (cond b (suc (rank_place (length r.conditions) qs)) 0) r ≡ cond b (q ∷ ranked r qs) (r ∷ q ∷ qs)
    go true h = ap (λ xs. q ∷ xs) h
    go false h = refl

pub removed_is : (r : Rule) (rs : List Rule) → remove (ranked r rs) (rank_place (length r.conditions) rs) ≡ rs
removed_is r [] = refl
removed_is r (q ∷ qs) = go (nat_lt (length q.conditions) (length r.conditions)) (removed_is r qs)
  where
    go : (b : Bool) → remove (ranked r qs) (rank_place (length r.conditions) qs) ≡ qs → remove (cond b (q ∷ ranked r qs) (r ∷ q ∷ qs)) (cond b (suc (rank_place (length r.conditions) qs)) 0) ≡ q ∷ qs
    go true h = ap (λ xs. q ∷ xs) h
    go false h = refl

-- the first rule that states the proposition stands at n, k being the number of the first
pub record StandsAt (p : Tm) (k n : ℕ) (rs : List Rule) : Type 0 where
  pub place : ℕ
  pub is : n ≡ k + place
  pub within : place < length rs
  pub left : remove rs place ≡ without_rule p rs
  pub there : is_stated rs p ≡ true

place_found : (p : Tm) (k n : ℕ) (rs : List Rule) → place_of p k rs ≡ Some n → StandsAt p k n rs
place_found p k n [] e = cc
place_found p k n (r ∷ rs) e = go (tm_eq r.thm.prop p) refl (λ d. place_found p (k + 1) n rs d) e
  where
    go : (b : Bool) → tm_eq r.thm.prop p ≡ b → (place_of p (k + 1) rs ≡ Some n → StandsAt p (k + 1) n rs) → cond b (Some k) (place_of p (k + 1) rs) ≡ Some n → StandsAt p k n (r ∷ rs)
    go true t f d =
        let q : k ≡ n = cc d in
        record {
          place = 0;
          is = omega (arith, q);
          within = omega arith;
          left = sym (ap (λ b. cond b rs (r ∷ without_rule p rs)) t);
          there = ap (λ b. b || is_stated rs p) t;
        }
    go false t f d =
        let h = f d in
        let i = h.is in
        let w = h.within in
        record {
          place = suc h.place;
          is = omega (arith, i);
          within = omega (arith, w);
          left = ap (λ xs. r ∷ xs) h.left ∙ sym (ap (λ b. cond b rs (r ∷ without_rule p rs)) t);
          there = ap (λ b. b || is_stated rs p) t ∙ h.there;
        }

pub record Taken (p : Tm) (n : ℕ) (rs : List Rule) : Type 0 where
  pub within : n < length rs
  pub left : remove rs n ≡ without_rule p rs
  pub there : is_stated rs p ≡ true

pub taken_at : (p : Tm) (n : ℕ) (rs : List Rule) → place_of p 0 rs ≡ Some n → Taken p n rs
taken_at p n rs e =
    let h = place_found p 0 n rs e in
    let q : h.place ≡ n = let i = h.is in omega (arith, i) in
    let w = h.within in
    record { within = omega (arith, w, q); left = ap (λ k. remove rs k) (sym q) ∙ h.left; there = h.there }

pub record Untaken (p : Tm) (rs : List Rule) : Type 0 where
  pub left : rs ≡ without_rule p rs
  pub there : false ≡ is_stated rs p

pub none_at : (p : Tm) (k : ℕ) (rs : List Rule) → place_of p k rs ≡ None → Untaken p rs
none_at p k [] e = record { left = refl; there = refl }
none_at p k (r ∷ rs) e = go (tm_eq r.thm.prop p) refl (λ d. none_at p (k + 1) rs d) e
  where
    go : (b : Bool) → tm_eq r.thm.prop p ≡ b → (place_of p (k + 1) rs ≡ None → Untaken p rs) → cond b (Some k) (place_of p (k + 1) rs) ≡ None → Untaken p (r ∷ rs)
    go true t f d = cc
    go false t f d =
        let h = f d in
        record { left = ap (λ xs. r ∷ xs) h.left ∙ sym (ap (λ b. cond b rs (r ∷ without_rule p rs)) t); there = h.there ∙ sym (ap (λ b. b || is_stated rs p) t) }

-- the same of congruence rules
pub record CongAt (p : Tm) (k n : ℕ) (cs : List Cong) : Type 0 where
  pub place : ℕ
  pub is : n ≡ k + place
  pub within : place < length cs
  pub left : remove cs place ≡ without_cong p cs
  pub there : is_stated_by cs p ≡ true

cong_found : (p : Tm) (k n : ℕ) (cs : List Cong) → place_of_cong p k cs ≡ Some n → CongAt p k n cs
cong_found p k n [] e = cc
cong_found p k n (r ∷ cs) e = go (tm_eq r.thm.prop p) refl (λ d. cong_found p (k + 1) n cs d) e
  where
    go : (b : Bool) → tm_eq r.thm.prop p ≡ b → (place_of_cong p (k + 1) cs ≡ Some n → CongAt p (k + 1) n cs) → cond b (Some k) (place_of_cong p (k + 1) cs) ≡ Some n → CongAt p k n (r ∷ cs)
    go true t f d =
        let q : k ≡ n = cc d in
        record {
          place = 0;
          is = omega (arith, q);
          within = omega arith;
          left = sym (ap (λ b. cond b cs (r ∷ without_cong p cs)) t);
          there = ap (λ b. b || is_stated_by cs p) t;
        }
    go false t f d =
        let h = f d in
        let i = h.is in
        let w = h.within in
        record {
          place = suc h.place;
          is = omega (arith, i);
          within = omega (arith, w);
          left = ap (λ xs. r ∷ xs) h.left ∙ sym (ap (λ b. cond b cs (r ∷ without_cong p cs)) t);
          there = ap (λ b. b || is_stated_by cs p) t ∙ h.there;
        }

pub record CongTaken (p : Tm) (n : ℕ) (cs : List Cong) : Type 0 where
  pub within : n < length cs
  pub left : remove cs n ≡ without_cong p cs
  pub there : is_stated_by cs p ≡ true

pub cong_taken_at : (p : Tm) (n : ℕ) (cs : List Cong) → place_of_cong p 0 cs ≡ Some n → CongTaken p n cs
cong_taken_at p n cs e =
    let h = cong_found p 0 n cs e in
    let q : h.place ≡ n = let i = h.is in omega (arith, i) in
    let w = h.within in
    record { within = omega (arith, w, q); left = ap (λ k. remove cs k) (sym q) ∙ h.left; there = h.there }

pub record CongUntaken (p : Tm) (cs : List Cong) : Type 0 where
  pub left : cs ≡ without_cong p cs
  pub there : false ≡ is_stated_by cs p

pub no_cong_at : (p : Tm) (k : ℕ) (cs : List Cong) → place_of_cong p k cs ≡ None → CongUntaken p cs
no_cong_at p k [] e = record { left = refl; there = refl }
no_cong_at p k (r ∷ cs) e = go (tm_eq r.thm.prop p) refl (λ d. no_cong_at p (k + 1) cs d) e
  where
    go : (b : Bool) → tm_eq r.thm.prop p ≡ b → (place_of_cong p (k + 1) cs ≡ None → CongUntaken p cs) → cond b (Some k) (place_of_cong p (k + 1) cs) ≡ None → CongUntaken p (r ∷ cs)
    go true t f d = cc
    go false t f d =
        let h = f d in
        record { left = ap (λ xs. r ∷ xs) h.left ∙ sym (ap (λ b. cond b cs (r ∷ without_cong p cs)) t); there = h.there ∙ sym (ap (λ b. b || is_stated_by cs p) t) }

pub taken_within : (p : Tm) (n : ℕ) (rs : List Rule) → place_of p 0 rs ≡ Some n → n < length rs
taken_within p n rs e = (taken_at p n rs e).within

pub taken_left : (p : Tm) (n : ℕ) (rs : List Rule) → place_of p 0 rs ≡ Some n → remove rs n ≡ without_rule p rs
taken_left p n rs e = (taken_at p n rs e).left

pub untaken_left : (p : Tm) (rs : List Rule) → place_of p 0 rs ≡ None → rs ≡ without_rule p rs
untaken_left p rs e = (none_at p 0 rs e).left

pub cong_within : (p : Tm) (n : ℕ) (cs : List Cong) → place_of_cong p 0 cs ≡ Some n → n < length cs
cong_within p n cs e = (cong_taken_at p n cs e).within

pub cong_left : (p : Tm) (n : ℕ) (cs : List Cong) → place_of_cong p 0 cs ≡ Some n → remove cs n ≡ without_cong p cs
cong_left p n cs e = (cong_taken_at p n cs e).left

pub no_cong_left : (p : Tm) (cs : List Cong) → place_of_cong p 0 cs ≡ None → cs ≡ without_cong p cs
no_cong_left p cs e = (no_cong_at p 0 cs e).left

pub inserted_first : (c : Cong) (cs : List Cong) → insert cs 0 c ≡ c ∷ cs
inserted_first c cs = refl
