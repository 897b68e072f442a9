-- Lists without doubles: each item is noted at its first occurrence.
use Rattle.std.proofs.Common.{◌≡◌, ℕ, ◌+◌, ◌≤◌, arith, List, [], ◌∷◌, ◌++◌, map, length, length-append, Bool, true, false, cond, ◌||◌, refl, ap, ◌∙◌, sym, subst}
use Rattle.std.proofs.lemmas.List.{map-append}
use Rattle.isa_terms.specs.Types.{Ty}
use Rattle.isa_terms.specs.Terms.{Tm}
use Rattle.isa_terms.specs.Equal.{ty_eq, tm_eq}
use Rattle.isa_terms.specs.Sets.{has}
use Rattle.isa_terms.specs.Unknowns.{noted, all_noted, has_ty, ty_noted, tys_noted}

-- it holds of each item
abbrev pub EachOf : {A : Type 0} → (A → Type 0) → List A → Type 0
EachOf P [] = Unit {0}
EachOf P (a ∷ xs) = P a × EachOf P xs

-- whether one of the items passes for the same xs another, by a test
abbrev pub holds : {A : Type 0} → (A → A → Bool) → List A → A → Bool
holds same [] a = false
holds same (b ∷ ys) a = same b a || holds same ys a

abbrev pub noted_one : {A : Type 0} → (A → A → Bool) → List A → A → List A
noted_one same seen a = cond (holds same seen a) seen (seen ++ a ∷ [])

abbrev pub noted_all : {A : Type 0} → (A → A → Bool) → List A → List A → List A
noted_all same seen [] = seen
noted_all same seen (a ∷ xs) = noted_all same (noted_one same seen a) xs

-- none of the items stands twice
abbrev pub Distinct : {A : Type 0} → (A → A → Bool) → List A → Type 0
Distinct same [] = Unit {0}
Distinct same (a ∷ xs) = (holds same xs a ≡ false) × Distinct same xs

pub or_right : (a b : Bool) → a ≡ false → b ≡ false → (a || b) ≡ false
or_right a b p q = λ i. p i || q i

pub neither : (a b : Bool) → (a || b) ≡ false → (a ≡ false) × (b ≡ false)
neither true b e = cc
neither false b e = (refl, e)

pub each_more : {A : Type 0} (P : A → Type 0) (xs : List A) (a : A) → EachOf P xs → P a → EachOf P (xs ++ a ∷ [])
each_more P [] a h k = (k, tt)
each_more P (b ∷ xs) a h k = (h.0, each_more P xs a h.1 k)

pub each_join : {A : Type 0} (P : A → Type 0) (xs ys : List A) → EachOf P xs → EachOf P ys → EachOf P (xs ++ ys)
each_join P [] ys h k = k
each_join P (a ∷ xs) ys h k = (h.0, each_join P xs ys h.1 k)

pub each_split : {A : Type 0} (P : A → Type 0) (xs ys : List A) → EachOf P (xs ++ ys) → EachOf P xs × EachOf P ys
each_split P [] ys h = (tt, h)
each_split P (a ∷ xs) ys h = let r = each_split P xs ys h.1 in ((h.0, r.0), r.1)

pub each_map : {A : Type 0} (P Q : A → Type 0) (xs : List A) → ((a : A) → P a → Q a) → EachOf P xs → EachOf Q xs
each_map P Q [] f h = tt
each_map P Q (a ∷ xs) f h = (f a h.0, each_map P Q xs f h.1)

pub each_both : {A : Type 0} (P Q : A → Type 0) (xs : List A) → EachOf P xs → EachOf Q xs → EachOf (λ a. P a × Q a) xs
each_both P Q [] h k = tt
each_both P Q (a ∷ xs) h k = ((h.0, k.0), each_both P Q xs h.1 k.1)

-- ---- the lists of isa_terms
pub has_is : (us : List Tm) (t : Tm) → has us t ≡ holds tm_eq us t
has_is [] t = refl
has_is (u ∷ us) t = ap (λ b. tm_eq u t || b) (has_is us t)

pub has_ty_is : (Ss : List Ty) (T : Ty) → has_ty Ss T ≡ holds ty_eq Ss T
has_ty_is [] T = refl
has_ty_is (S ∷ Ss) T = ap (λ b. ty_eq S T || b) (has_ty_is Ss T)

pub all_noted_is : (seen ts : List Tm) → all_noted seen ts ≡ noted_all tm_eq seen ts
all_noted_is seen [] = refl
all_noted_is seen (t ∷ ts) = all_noted_is (noted seen t) ts ∙ ap (λ us. noted_all tm_eq us ts) (ap (λ b. cond b seen (seen ++ t ∷ [])) (has_is seen t))

pub tys_noted_is : (seen Ts : List Ty) → tys_noted seen Ts ≡ noted_all ty_eq seen Ts
tys_noted_is seen [] = refl
tys_noted_is seen (T ∷ Ts) = tys_noted_is (ty_noted seen T) Ts ∙ ap (λ us. noted_all ty_eq us Ts) (ap (λ b. cond b seen (seen ++ T ∷ [])) (has_ty_is seen T))

-- ---- how many are noted
pub noted_length : {A : Type 0} (same : A → A → Bool) (seen xs : List A) → length (noted_all same seen xs) ≤ length seen + length xs
noted_length same seen [] = omega arith
noted_length same seen (a ∷ xs) = omega (arith, noted_length same (noted_one same seen a) xs, one (holds same seen a))
  where
    one : (b : Bool) → length (cond b seen (seen ++ a ∷ [])) ≤ length seen + 1
    one true = omega arith
    one false = omega (arith, length-append seen (a ∷ []))

-- what each item has, each noted one has
pub noted_each : {A : Type 0} (same : A → A → Bool) (P : A → Type 0) (seen xs : List A) → EachOf P seen → EachOf P xs → EachOf P (noted_all same seen xs)
noted_each same P seen [] h k = h
noted_each same P seen (a ∷ xs) h k = noted_each same P (noted_one same seen a) xs (one (holds same seen a)) k.1
  where
    one : (b : Bool) → EachOf P (cond b seen (seen ++ a ∷ []))
    one true = h
    one false = each_more P seen a h k.0

-- ---- a test that decides sameness among the items of a kind
module _ {A : Type 0} (same : A → A → Bool) (K : A → Type 0) (yes : (a b : A) → K a → K b → same a b ≡ true → a ≡ b) (itself : (a : A) → K a → same a a ≡ true) where
  pub differ : (a b : A) → K a → K b → same a b ≡ false → same b a ≡ false
  differ a b k l e = go (same b a) refl
    where
      go : (v : Bool) → same b a ≡ v → v ≡ false
      go false s = refl
      go true s = let q : b ≡ a = yes b a l k s in let r : same a b ≡ true = subst (λ c. same c b ≡ true) q (itself b l) in cc

  holds_more : (seen : List A) (a b : A) → holds same (seen ++ a ∷ []) b ≡ (holds same seen b || same a b)
  holds_more [] a b = last (same a b)
    where
      last : (v : Bool) → (v || false) ≡ v
      last true = refl
      last false = refl
  holds_more (s ∷ seen) a b = ap (λ v. same s b || v) (holds_more seen a b) ∙ assoc (same s b)
    where
      assoc : (v : Bool) → (v || (holds same seen b || same a b)) ≡ ((v || holds same seen b) || same a b)
      assoc true = refl
      assoc false = refl

  kept_one : (seen : List A) (a b : A) → holds same seen b ≡ true → holds same (noted_one same seen a) b ≡ true
  kept_one seen a b h = go (holds same seen a)
    where
      go : (v : Bool) → holds same (cond v seen (seen ++ a ∷ [])) b ≡ true
      go true = h
      go false = holds_more seen a b ∙ ap (λ v. v || same a b) h

  here_one : (seen : List A) (a : A) → K a → holds same (noted_one same seen a) a ≡ true
  here_one seen a k = go (holds same seen a) refl
    where
      or_true : (v : Bool) → (v || true) ≡ true
      or_true true = refl
      or_true false = refl

      go : (v : Bool) → holds same seen a ≡ v → holds same (cond v seen (seen ++ a ∷ [])) a ≡ true
      go true s = s
      go false s = holds_more seen a a ∙ ap (λ v. holds same seen a || v) (itself a k) ∙ or_true (holds same seen a)

  kept_all : (seen xs : List A) (b : A) → holds same seen b ≡ true → holds same (noted_all same seen xs) b ≡ true
  kept_all seen [] b h = h
  kept_all seen (a ∷ xs) b h = kept_all (noted_one same seen a) xs b (kept_one seen a b h)

  -- each item is among the noted ones
  pub are_noted : (seen xs : List A) → EachOf K xs → EachOf (λ a. holds same (noted_all same seen xs) a ≡ true) xs
  are_noted seen [] k = tt
  are_noted seen (a ∷ xs) k = (kept_all (noted_one same seen a) xs a (here_one seen a k.0), are_noted (noted_one same seen a) xs k.1)

  distinct_more : (seen : List A) (a : A) → EachOf K seen → K a → Distinct same seen → holds same seen a ≡ false → Distinct same (seen ++ a ∷ [])
  distinct_more [] a k l d h = (refl, tt)
  distinct_more (s ∷ seen) a k l d h =
      let n = neither (same s a) (holds same seen a) h in
      (holds_more seen a s ∙ or_right (holds same seen s) (same a s) d.0 (differ s a k.0 l n.0), distinct_more seen a k.1 l d.1 n.1)

  -- none of the noted ones stands twice
  pub noted_distinct : (seen xs : List A) → EachOf K seen → EachOf K xs → Distinct same seen → Distinct same (noted_all same seen xs)
  noted_distinct seen [] k l d = d
  noted_distinct seen (a ∷ xs) k l d = go (holds same seen a) refl (λ us m e. noted_distinct us xs m l.1 e)
    where
      go : (v : Bool) → holds same seen a ≡ v → ((us : List A) → EachOf K us → Distinct same us → Distinct same (noted_all same us xs)) → Distinct same (noted_all same (cond v seen (seen ++ a ∷ [])) xs)
      go true s r = r seen k d
      go false s r = r (seen ++ a ∷ []) (each_more K seen a k l.0) (distinct_more seen a k l.0 d s)

  -- ---- items that a map tells apart
  module _ (f : A → A) (P : A → Type 0) (kind : (a : A) → P a → K a) (kind_f : (a : A) → P a → K (f a)) (apart : (a b : A) → P a → P b → f a ≡ f b → a ≡ b) where
    same_mapped : (a b : A) → P a → P b → same (f a) (f b) ≡ same a b
    same_mapped a b p q = go (same a b) (same (f a) (f b)) refl refl
      where
        go : (u v : Bool) → same a b ≡ u → same (f a) (f b) ≡ v → v ≡ u
        go true true s t = refl
        go false false s t = refl
        go true false s t =
            let e : a ≡ b = yes a b (kind a p) (kind b q) s in
            let r : same (f a) (f b) ≡ true = subst (λ c. same (f a) (f c) ≡ true) e (itself (f a) (kind_f a p)) in
            cc
        go false true s t =
            let e : a ≡ b = apart a b p q (yes (f a) (f b) (kind_f a p) (kind_f b q) t) in
            let r : same a b ≡ true = subst (λ c. same a c ≡ true) e (itself a (kind a p)) in
            cc

    holds_mapped : (seen : List A) (a : A) → EachOf P seen → P a → holds same (map f seen) (f a) ≡ holds same seen a
    holds_mapped [] a h p = refl
    holds_mapped (s ∷ seen) a h p = λ i. same_mapped s a h.0 p i || holds_mapped seen a h.1 p i

    -- noting goes through the map
    pub noted_mapped : (seen xs : List A) → EachOf P seen → EachOf P xs → noted_all same (map f seen) (map f xs) ≡ map f (noted_all same seen xs)
    noted_mapped seen [] h k = refl
    noted_mapped seen (a ∷ xs) h k =
        ap (λ v. noted_all same (cond v (map f seen) (map f seen ++ f a ∷ [])) (map f xs)) (holds_mapped seen a h k.0) ∙ go (holds same seen a) (λ us m. noted_mapped us xs m k.1)
      where
        go : (v : Bool) → ((us : List A) → EachOf P us → noted_all same (map f us) (map f xs) ≡ map f (noted_all same us xs)) → noted_all same (cond v (map f seen) (map f seen ++ f a ∷ [])) (map f xs) ≡ map f (noted_all same (cond v seen (seen ++ a ∷ [])) xs)
        go true r = r seen h
        go false r = ap (λ us. noted_all same us (map f xs)) (sym (map-append f seen (a ∷ []))) ∙ r (seen ++ a ∷ []) (each_more P seen a h k.0)
