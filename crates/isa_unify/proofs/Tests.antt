-- Tests, and what they show.
use Rattle.std.proofs.Common.{◌≡◌, ℕ, List, Bool, true, false, ◌&&◌, ◌||◌, nat_eq, refl, sym, ◌⊎◌, inl, inr, Option, Some, None, is_some}
use Rattle.std.proofs.lemmas.Bool.Decides.{Decides-eqb}
use Rattle.std.specs.Cmp.Lexicographic.{bytes_decides}
use Rattle.isa_terms.specs.Equal.{name_eq}

pub both_true : (a b : Bool) → (a && b) ≡ true → (a ≡ true) × (b ≡ true)
both_true true b h = (refl, h)
both_true false b h = (h, absurd (cc))

pub and_true : (a b : Bool) → a ≡ true → b ≡ true → (a && b) ≡ true
and_true true b h k = k
and_true false b h k = h

pub or_left : (a b : Bool) → a ≡ true → (a || b) ≡ true
or_left true b h = refl
or_left false b h = absurd (cc)

pub or_right : (a b : Bool) → b ≡ true → (a || b) ≡ true
or_right true b h = refl
or_right false b h = h

pub either_true : (a b : Bool) → (a || b) ≡ true → (a ≡ true) ⊎ (b ≡ true)
either_true true b h = inl refl
either_true false b h = inr h

pub neither : (a b : Bool) → a ≡ false → b ≡ false → (a || b) ≡ false
neither true b h k = absurd (cc)
neither false b h k = k

pub neither_true : (a b : Bool) → (a || b) ≡ false → (a ≡ false) × (b ≡ false)
neither_true true b k = absurd (cc)
neither_true false b k = (refl, k)

pub or_mono : (a b c d : Bool) → (a ≡ true → c ≡ true) → (b ≡ true → d ≡ true) → (a || b) ≡ true → (c || d) ≡ true
or_mono true b c d f g h = or_left c d (f refl)
or_mono false b c d f g h = or_right c d (g h)

pub same_test : (a b : Bool) → (a ≡ true → b ≡ true) → (b ≡ true → a ≡ true) → a ≡ b
same_test true b f g = sym (f refl)
same_test false true f g = g refl
same_test false false f g = refl

pub some_same : {A : Type 0} {x y : A} → Some x ≡ Some y → x ≡ y
some_same h = cc

-- the value that is there
pub value_of : {A : Type 0} (o : Option A) → is_some o ≡ true → (u : A) × (o ≡ Some u)
value_of None h = absurd (cc)
value_of (Some u) h = (u, refl)

pub name_self : (x : List ℕ) → name_eq x x ≡ true
name_self x = (bytes_decides x x).1 refl

pub name_true : (x y : List ℕ) → name_eq x y ≡ true → x ≡ y
name_true x y h = (bytes_decides x y).0 h

pub number_self : (n : ℕ) → nat_eq n n ≡ true
number_self n = (Decides-eqb n n).1 refl

pub number_true : (m n : ℕ) → nat_eq m n ≡ true → m ≡ n
number_true m n h = (Decides-eqb m n).0 h

-- a name and a number that are the same
pub key_self : (x : List ℕ) (i : ℕ) → (name_eq x x && nat_eq i i) ≡ true
key_self x i = and_true (name_eq x x) (nat_eq i i) (name_self x) (number_self i)

pub key_true : (x : List ℕ) (i : ℕ) (y : List ℕ) (j : ℕ) → (name_eq x y && nat_eq i j) ≡ true → (x ≡ y) × (i ≡ j)
key_true x i y j h = let both = both_true (name_eq x y) (nat_eq i j) h in (name_true x y both.0, number_true i j both.1)

pub key_turned : (x : List ℕ) (i : ℕ) (y : List ℕ) (j : ℕ) → (name_eq x y && nat_eq i j) ≡ true → (name_eq y x && nat_eq j i) ≡ true
key_turned x i y j h =
    let k = key_true x i y j h in
    and_true (name_eq y x) (nat_eq j i) ((bytes_decides y x).1 (sym k.0)) ((Decides-eqb j i).1 (sym k.1))

-- the first of two, if it is there
abbrev pub either : {A : Type 0} → Option A → Option A → Option A
either None o = o
either (Some t) o = Some t
