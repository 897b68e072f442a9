-- Hypotheses as sets of terms, and what is left of them without some.
use Rattle.std.proofs.Common.{◌≡◌, inl, inr, List, [], ◌∷◌, ◌++◌, append-nil, Bool, true, false, cond, ◌||◌, refl, sym, ap, ◌∙◌}
use Rattle.isa_terms.specs.Terms.{Tm, bare}
use Rattle.isa_terms.specs.Equal.{tm_eq}
use Rattle.isa_terms.specs.Sets.{has, missing, joined}
use Rattle.isa_terms.proofs.Bare.{tm_decides, tm_eq_bare}
use Rattle.isa_kernel.specs.Derivation.{Member}
use Rattle.isa_kernel.specs.Derived.{with_premises}

or_right : (a b : Bool) → b ≡ true → (a || b) ≡ true
or_right true b e = refl
or_right false b e = e

or_more : (a b c : Bool) → (a || (b || c)) ≡ ((a || b) || c)
or_more true b c = refl
or_more false b c = refl

or_swap : (a b : Bool) → (a || b) ≡ (b || a)
or_swap true true = refl
or_swap true false = refl
or_swap false true = refl
or_swap false false = refl

-- ---- members
same_right : (v t u : Tm) → bare t ≡ bare u → tm_eq v t ≡ tm_eq v u
same_right v t u e = sym (tm_eq_bare v t) ∙ ap (tm_eq (bare v)) e ∙ tm_eq_bare v u

has_bare : (us : List Tm) (t u : Tm) → bare t ≡ bare u → has us t ≡ has us u
has_bare [] t u e = refl
has_bare (v ∷ us) t u e = λ i. same_right v t u e i || has_bare us t u e i

pub member_has : (t : Tm) (us : List Tm) → Member t us → has us t ≡ true
member_has t [] m = absurd m
member_has t (u ∷ us) (inl e) = ap (λ b. b || has us t) (ap (λ x. tm_eq x t) (sym e) ∙ (tm_decides t t).1 refl)
member_has t (u ∷ us) (inr m) = or_right (tm_eq u t) (has us t) (member_has t us m)

has_append : (us vs : List Tm) (t : Tm) → has (us ++ vs) t ≡ (has us t || has vs t)
has_append [] vs t = refl
has_append (u ∷ us) vs t = ap (λ b. tm_eq u t || b) (has_append us vs t) ∙ or_more (tm_eq u t) (has us t) (has vs t)

-- ---- what is missing
missing_append : (S xs ys : List Tm) → missing S (xs ++ ys) ≡ missing S xs ++ missing S ys
missing_append S [] ys = refl
missing_append S (x ∷ xs) ys = go (has S x) (missing_append S xs ys)
  where
    go : (b : Bool) → missing S (xs ++ ys) ≡ missing S xs ++ missing S ys → cond b (missing S (xs ++ ys)) (x ∷ missing S (xs ++ ys)) ≡ cond b (missing S xs) (x ∷ missing S xs) ++ missing S ys
    go true h = h
    go false h = ap (λ r. x ∷ r) h

pub missing_twice : (S T xs : List Tm) → missing S (missing T xs) ≡ missing (S ++ T) xs
missing_twice S T [] = refl
missing_twice S T (x ∷ xs) = go (has S x) (has T x) refl (missing_twice S T xs) ∙ ap (λ b. cond b (missing (S ++ T) xs) (x ∷ missing (S ++ T) xs)) (sym (has_append S T x))
  where
    go : (c b : Bool) → has S x ≡ c → missing S (missing T xs) ≡ missing (S ++ T) xs → missing S (cond b (missing T xs) (x ∷ missing T xs)) ≡ cond (c || b) (missing (S ++ T) xs) (x ∷ missing (S ++ T) xs)
    go true true e h = h
    go true false e h = ap (λ d. cond d (missing S (missing T xs)) (x ∷ missing S (missing T xs))) e ∙ h
    go false true e h = h
    go false false e h = ap (λ d. cond d (missing S (missing T xs)) (x ∷ missing S (missing T xs))) e ∙ ap (λ r. x ∷ r) h

missing_same : (S T xs : List Tm) → ((t : Tm) → has S t ≡ has T t) → missing S xs ≡ missing T xs
missing_same S T [] h = refl
missing_same S T (x ∷ xs) h = λ i. cond (h x i) (missing_same S T xs h i) (x ∷ missing_same S T xs h i)

pub missing_swap : (S T xs : List Tm) → missing S (missing T xs) ≡ missing T (missing S xs)
missing_swap S T xs =
    missing_twice S T xs
    ∙ missing_same (S ++ T) (T ++ S) xs (λ t. has_append S T t ∙ or_swap (has S t) (has T t) ∙ sym (has_append T S t))
    ∙ sym (missing_twice T S xs)

-- behind S, only those known terms count that are not in S
has_less : (S X : List Tm) (t : Tm) → (has X t || has S t) ≡ (has (missing S X) t || has S t)
has_less S [] t = refl
has_less S (x ∷ X) t = go (has S x) (tm_eq x t) refl refl (has_less S X t)
  where
    go : (b a : Bool) → has S x ≡ b → tm_eq x t ≡ a → (has X t || has S t) ≡ (has (missing S X) t || has S t) → ((a || has X t) || has S t) ≡ (has (cond b (missing S X) (x ∷ missing S X)) t || has S t)
    go true true e k h = sym (or_right (has (missing S X) t) (has S t) (sym (has_bare S x t ((tm_decides x t).0 k)) ∙ e))
    go true false e k h = h
    go false true e k h = sym (ap (λ d. (d || has (missing S X) t) || has S t) k)
    go false false e k h = h ∙ sym (ap (λ d. (d || has (missing S X) t) || has S t) k)

missing_less : (S X xs : List Tm) → missing X (missing S xs) ≡ missing (missing S X) (missing S xs)
missing_less S X xs =
    missing_twice X S xs
    ∙ missing_same (X ++ S) (missing S X ++ S) xs (λ t. has_append X S t ∙ has_less S X t ∙ sym (has_append (missing S X) S t))
    ∙ sym (missing_twice (missing S X) S xs)

-- ---- lists that are joined
joined_parts : (S X Y : List Tm) → missing S (joined X Y) ≡ missing S X ++ missing (missing S X) (missing S Y)
joined_parts S X Y = missing_append S X (missing X Y) ∙ ap (λ r. missing S X ++ r) (missing_swap S X Y ∙ missing_less S X Y)

-- without S, two joined lists are as two others that are the same without S
pub joined_alike : (S X Y H K : List Tm) → missing S X ≡ missing S H → missing S Y ≡ missing S K → missing S (joined X Y) ≡ missing S (joined H K)
joined_alike S X Y H K e f = joined_parts S X Y ∙ (λ i. e i ++ missing (e i) (f i)) ∙ sym (joined_parts S H K)

pub joined_nothing : (S X Y : List Tm) → missing S Y ≡ [] → missing S (joined X Y) ≡ missing S X
joined_nothing S X Y e = joined_alike S X Y X [] refl e ∙ ap (missing S) (append-nil X)

-- without S, premises that are in S add nothing
pub premises_add_nothing : (S H ps : List Tm) → ((t : Tm) → Member t ps → has S t ≡ true) → missing S (with_premises H ps) ≡ missing S H
premises_add_nothing S H [] h = refl
premises_add_nothing S H (p ∷ ps) h =
    premises_add_nothing S (joined H (p ∷ [])) ps (λ t m. h t (inr m))
    ∙ joined_nothing S H (p ∷ []) (ap (λ b. cond b [] (p ∷ [])) (h p (inl refl)))
