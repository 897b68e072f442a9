-- Where an unknown stands, and what keeps it from new places.
use Rattle.std.proofs.Common.{◌≡◌, ℕ, zero, suc, ◌+◌, ◌-◌, List, Bool, true, false, cond, ◌&&◌, ◌||◌, nat_eq, nat_lt, refl, sym, ◌∙◌, ◌⊎◌, inl, inr}
use Rattle.std.proofs.lemmas.Bool.Decides.{Decides-eqb}
use Rattle.std.specs.Cmp.Lexicographic.{bytes_decides}
use Rattle.isa_terms.specs.Types.{Ty}
use Rattle.isa_terms.specs.Terms.{Tm, Const, Free, Unknown, Bound, Abs, App}
use Rattle.isa_terms.specs.Equal.{name_eq, ty_eq}
use Rattle.isa_terms.specs.Replace.{raise, put, replace}
use Rattle.isa_terms.specs.Norm.{loose, eta_at, eta, put_normal, apply, levels, norm}
use Rattle.isa_terms.proofs.Equal.{ty_decides}

pub both_true : (a b : Bool) → (a && b) ≡ true → (a ≡ true) × (b ≡ true)
both_true true b h = (refl, h)
both_true false b h = (h, absurd (cc))

pub and_true : (a b : Bool) → a ≡ true → b ≡ true → (a && b) ≡ true
and_true true b h k = k
and_true false b h k = h

pub either_true : (a b : Bool) → (a || b) ≡ true → (a ≡ true) ⊎ (b ≡ true)
either_true true b h = inl refl
either_true false b h = inr h

pub or_left : (a b : Bool) → a ≡ true → (a || b) ≡ true
or_left true b h = refl
or_left false b h = absurd (cc)

pub or_right : (a b : Bool) → b ≡ true → (a || b) ≡ true
or_right true b h = refl
or_right false b h = h

-- an unknown: a name, a number and a type
pub record Key : Type 0 where
  pub name : List ℕ
  pub number : ℕ
  pub typ : Ty

abbrev pub key : List ℕ → ℕ → Ty → Key
key x i T = record { name = x; number = i; typ = T }

abbrev pub key_eq : Key → Key → Bool
key_eq k l = name_eq k.name l.name && (nat_eq k.number l.number && ty_eq k.typ l.typ)

pub key_eq-true : (k l : Key) → key_eq k l ≡ true → k ≡ l
key_eq-true k l h =
    let one = both_true (name_eq k.name l.name) (nat_eq k.number l.number && ty_eq k.typ l.typ) h in
    let two = both_true (nat_eq k.number l.number) (ty_eq k.typ l.typ) one.1 in
    λ i. record { name = (bytes_decides k.name l.name).0 one.0 i; number = (Decides-eqb k.number l.number).0 two.0 i; typ = (ty_decides k.typ l.typ).0 two.1 i }

pub key_eq_self : (k : Key) → key_eq k k ≡ true
key_eq_self k =
    and_true (name_eq k.name k.name) (nat_eq k.number k.number && ty_eq k.typ k.typ) ((bytes_decides k.name k.name).1 refl)
    (and_true (nat_eq k.number k.number) (ty_eq k.typ k.typ) ((Decides-eqb k.number k.number).1 refl) ((ty_decides k.typ k.typ).1 refl))

-- whether an unknown stands in a term
abbrev pub stands : Key → Tm → Bool
stands k (Const x T) = false
stands k (Free x T) = false
stands k (Unknown x i T) = key_eq k (key x i T)
stands k (Bound n) = false
stands k (Abs x T b) = stands k b
stands k (App f a) = stands k f || stands k a

pub stands-raise : (k : Key) (n j : ℕ) (t : Tm) → stands k (raise n j t) ≡ stands k t
stands-raise k n j (Const x T) = refl
stands-raise k n j (Free x T) = refl
stands-raise k n j (Unknown x i T) = refl
stands-raise k n j (Bound m) = elim (nat_lt m j) as (λ c. stands k (cond c (Bound m) (Bound (m + n))) ≡ false) [ true ↦ refl | false ↦ refl ]
stands-raise k n j (Abs x T b) = stands-raise k n (j + 1) b
stands-raise k n j (App f a) = λ i. stands-raise k n j f i || stands-raise k n j a i

-- no unknown comes in
abbrev pub StandsIn : Key → Tm → Tm → Tm → Type 0
StandsIn k t u v = stands k v ≡ true → (stands k t ≡ true) ⊎ (stands k u ≡ true)

-- the variable that is replaced by t, or another
stands-variable : (k : Key) (t : Tm) (n : ℕ) (c d : Bool) → stands k (cond c t (cond d (Bound (n - 1)) (Bound n))) ≡ true → stands k t ≡ true
stands-variable k t n true d h = h
stands-variable k t n false true h = absurd (cc)
stands-variable k t n false false h = absurd (cc)

stands-lowered : (k : Key) (n j : ℕ) (c d : Bool) → stands k (cond c (raise j 0 (Bound 0)) (cond d (Bound (n - 1)) (Bound n))) ≡ false
stands-lowered k n j true d = stands-raise k j 0 (Bound 0)
stands-lowered k n j false true = refl
stands-lowered k n j false false = refl

-- a body without its variable has no other unknowns
stands-lower : (k : Key) (j : ℕ) (t : Tm) → stands k (put (Bound 0) j t) ≡ stands k t
stands-lower k j (Const x T) = refl
stands-lower k j (Free x T) = refl
stands-lower k j (Unknown x i T) = refl
stands-lower k j (Bound n) = stands-lowered k n j (nat_eq n j) (nat_lt j n)
stands-lower k j (Abs x T b) = stands-lower k (j + 1) b
stands-lower k j (App f a) = λ i. stands-lower k j f i || stands-lower k j a i

shortened : (k : Key) (x : List ℕ) (T : Ty) (f : Tm) (i : ℕ) (c d : Bool) → stands k (cond c (cond d (Abs x T (App f (Bound i))) (replace f (Bound 0))) (Abs x T (App f (Bound i)))) ≡ true → (stands k f || false) ≡ true
shortened k x T f i true true h = h
shortened k x T f i true false h = or_left (stands k f) false (sym (stands-lower k 0 f) ∙ h)
shortened k x T f i false d h = h

stands-eta_at : (k : Key) (x : List ℕ) (T : Ty) (f a : Tm) → stands k (eta_at x T f a) ≡ true → stands k (App f a) ≡ true
stands-eta_at k x T f (Bound i) h = shortened k x T f i (nat_eq i 0) (loose 0 f) h
stands-eta_at k x T f (Const y S) h = h
stands-eta_at k x T f (Free y S) h = h
stands-eta_at k x T f (Unknown y n S) h = h
stands-eta_at k x T f (Abs y S t) h = h
stands-eta_at k x T f (App g t) h = h

pub stands-eta : (k : Key) (x : List ℕ) (T : Ty) (b : Tm) → stands k (eta x T b) ≡ true → stands k b ≡ true
stands-eta k x T (App f a) h = stands-eta_at k x T f a h
stands-eta k x T (Bound n) h = h
stands-eta k x T (Const y S) h = h
stands-eta k x T (Free y S) h = h
stands-eta k x T (Unknown y n S) h = h
stands-eta k x T (Abs y S t) h = h

abbrev pub BringsNone : Key → (Tm → Tm → Tm) → Type 0
BringsNone k f = (t u : Tm) → StandsIn k t u (f t u)

joined_case : (k : Key) (t g a u v w : Tm) → StandsIn k u v w → StandsIn k t g u → StandsIn k t a v → stands k w ≡ true → (stands k t ≡ true) ⊎ ((stands k g || stands k a) ≡ true)
joined_case k t g a u v w r p q h = from (r h)
  where
    at_fun : (stands k t ≡ true) ⊎ (stands k g ≡ true) → (stands k t ≡ true) ⊎ ((stands k g || stands k a) ≡ true)
    at_fun (inl d) = inl d
    at_fun (inr d) = inr (or_left (stands k g) (stands k a) d)

    at_arg : (stands k t ≡ true) ⊎ (stands k a ≡ true) → (stands k t ≡ true) ⊎ ((stands k g || stands k a) ≡ true)
    at_arg (inl d) = inl d
    at_arg (inr d) = inr (or_right (stands k g) (stands k a) d)

    from : (stands k u ≡ true) ⊎ (stands k v ≡ true) → (stands k t ≡ true) ⊎ ((stands k g || stands k a) ≡ true)
    from (inl d) = at_fun (p d)
    from (inr d) = at_arg (q d)

pub stands-put : (k : Key) (f : Tm → Tm → Tm) → BringsNone k f → (t : Tm) (j : ℕ) (b : Tm) → StandsIn k t b (put_normal f t j b)
stands-put k f h t j (Bound n) e = inl (sym (stands-raise k j 0 t) ∙ stands-variable k (raise j 0 t) n (nat_eq n j) (nat_lt j n) e)
stands-put k f h t j (Const x T) e = inr e
stands-put k f h t j (Free x T) e = inr e
stands-put k f h t j (Unknown x i T) e = inr e
stands-put k f h t j (Abs x T b) e = stands-put k f h t (j + 1) b (stands-eta k x T (put_normal f t (j + 1) b) e)
stands-put k f h t j (App g a) e =
    joined_case k t g a (put_normal f t j g) (put_normal f t j a) (f (put_normal f t j g) (put_normal f t j a)) (h (put_normal f t j g) (put_normal f t j a)) (stands-put k f h t j g) (stands-put k f h t j a) e

swapped : {A B : Type 0} → A ⊎ B → B ⊎ A
swapped (inl a) = inr a
swapped (inr b) = inl b

pub stands-apply : (k : Key) (n : ℕ) → BringsNone k (apply n)
stands-apply k zero t u h = either_true (stands k t) (stands k u) h
stands-apply k (suc n) (Abs x T b) u h = swapped (stands-put k (apply n) (stands-apply k n) u 0 b h)
stands-apply k (suc n) (Bound m) u h = either_true false (stands k u) h
stands-apply k (suc n) (Const x T) u h = either_true false (stands k u) h
stands-apply k (suc n) (Free x T) u h = either_true false (stands k u) h
stands-apply k (suc n) (Unknown x m T) u h = either_true (stands k (Unknown x m T)) (stands k u) h
stands-apply k (suc n) (App f t) u h = either_true (stands k (App f t)) (stands k u) h

-- normalising brings no unknown in
pub stands-norm : (k : Key) (t : Tm) → stands k (norm t) ≡ true → stands k t ≡ true
stands-norm k (Abs x T b) h = stands-norm k b (stands-eta k x T (norm b) h)
stands-norm k (App f u) h = go (stands-apply k (levels (norm f)) (norm f) (norm u) h) (stands-norm k f) (stands-norm k u)
  where
    go : (stands k (norm f) ≡ true) ⊎ (stands k (norm u) ≡ true) → (stands k (norm f) ≡ true → stands k f ≡ true) → (stands k (norm u) ≡ true → stands k u ≡ true) → stands k (App f u) ≡ true
    go (inl d) p q = or_left (stands k f) (stands k u) (p d)
    go (inr d) p q = or_right (stands k f) (stands k u) (q d)
stands-norm k (Bound n) h = h
stands-norm k (Const x T) h = h
stands-norm k (Free x T) h = h
stands-norm k (Unknown x i T) h = h
