-- Closed functions at distinct variables, and the variables on which they depend.
use Rattle.std.proofs.Common.{◌≡◌, ◌≢◌, ◌⊎◌, inl, inr, ℕ, suc, ◌+◌, List, [], ◌∷◌, map, Bool, true, false, cond, ◌||◌, nat_eq, Some, refl, sym, ap, ◌∙◌, subst, arith}
use Rattle.std.specs.List.{slice_get}
use Rattle.std.proofs.lemmas.Bool.Decides.{nat_tests}
use Rattle.isa_terms.specs.Types.{Ty}
use Rattle.isa_terms.specs.Terms.{Tm, Const, Free, Unknown, Bound, Abs, App, bare}
use Rattle.isa_terms.specs.Norm.{loose, norm}
use Rattle.isa_terms.specs.Typed.{Typed}
use Rattle.isa_terms.specs.Conversion.{Conv, CSym, CTrans}
use Rattle.isa_terms.proofs.Conv.{right_typed, norm_conv}
use Rattle.isa_terms.proofs.NormalForms.{norm_normal}
use Rattle.isa_terms.proofs.Unique.{normal_unique}
use Rattle.isa_terms.proofs.Erased.{up}
use Rattle.isa_terms.proofs.Renames.{rename}
use Rattle.isa_terms.proofs.Instances.{closed_anywhere}
use Rattle.isa_terms.proofs.Loose.{beyond_misses, norm_misses, neither}
use Rattle.isa_terms.proofs.Opening.{IsRenaming, rename_conv, rename_closed}
use Rattle.isa_terms.proofs.RenamedNormal.{rename_normal}
use Rattle.isa_terms.proofs.Abstracting.{on_bounds, Absent, AreDistinct, AreMissing, Among, arrow, AreKnown, tower, tower_applied, tower_only, tower_closed, on_bounds_typed}

pub closed_missing : {v : Tm} {T : Ty} → Typed [] v T → (ns : List ℕ) → AreMissing ns v
closed_missing d [] = tt
closed_missing d (n ∷ ns) = (beyond_misses d n (omega arith), closed_missing d ns)

-- whether the number is one of these
pub among_or_not : (j : ℕ) (ns : List ℕ) → Among j ns ⊎ (Among j ns → ⊥)
among_or_not j [] = inr (λ h. h)
among_or_not j (n ∷ ns) = choice (nat_eq j n) refl (among_or_not j ns)
  where
    choice : (b : Bool) → nat_eq j n ≡ b → Among j ns ⊎ (Among j ns → ⊥) → Among j (n ∷ ns) ⊎ (Among j (n ∷ ns) → ⊥)
    choice true e r = let q : j ≡ n = grind (arith, nat_tests) in inl (inl q)
    choice false e (inl h) = inl (inr h)
    choice false e (inr h) = let ne : j ≢ n = grind (arith, nat_tests) in inr (λ g. elim g [ inl q ↦ ne q | inr k ↦ h k ])

-- ---- loose variables of a closed function at variables
pub on_bounds_misses : (v : Tm) (ns : List ℕ) (j : ℕ) → loose j v ≡ false → (Among j ns → ⊥) → loose j (on_bounds v ns) ≡ false
on_bounds_misses v [] j l h = l
on_bounds_misses v (n ∷ ns) j l h =
    let ne : nat_eq n j ≡ false = choice (nat_eq n j) refl in
    on_bounds_misses (App v (Bound n)) ns j (neither (loose j v) (nat_eq n j) l ne) (λ k. h (inr k))
  where
    choice : (b : Bool) → nat_eq n j ≡ b → b ≡ false
    choice true e = let q : j ≡ n = grind (arith, nat_tests) in absurd (h (inl q))
    choice false e = refl

-- loose in the term are these alone
abbrev pub IsWithin : List ℕ → Tm → Type 0
IsWithin ns t = (j : ℕ) → Among j ns ⊎ (loose j t ≡ false)

module _ (N : ℕ → List ℕ) (Y : ℕ → Ty) where
  pub applied_within : (G : List Ty) (ns : List ℕ) {v : Tm} (T : Ty) → AreKnown N Y G ns → Typed [] v (arrow N Y ns T) → IsWithin ns (norm (on_bounds v ns))
  applied_within G ns {v} T k d j =
      let e = on_bounds_typed N Y ns k (closed_anywhere G d) in
      elim (among_or_not j ns) [
        | inl h ↦ inl h
        | inr h ↦ inr (norm_misses e j (on_bounds_misses v ns j (beyond_misses d j (omega arith)) h))
      ]

  -- what gives t at distinct variables is `%ns. t`
  pub closed_only : {G : List Ty} (ns : List ℕ) {v t : Tm} (T : Ty) → AreKnown N Y G ns → AreDistinct ns → Typed [] v (arrow N Y ns T) → Conv G T (on_bounds v ns) t → Conv G (arrow N Y ns T) v (tower N Y ns t)
  closed_only {G} ns T k a d c = tower_only N Y ns T k a (closed_missing d ns) (closed_anywhere G d) c

  -- a function whose value at the variables has some of them only, `kept`, factors through them
  pub record Factors (G : List Ty) (ns kept : List ℕ) (v : Tm) (T : Ty) : Type 0 where
    pub through : Tm
    pub closed : Typed [] through (arrow N Y kept T)
    pub gives : Conv G T (on_bounds through kept) (on_bounds v ns)
    pub is : Conv G (arrow N Y ns T) v (tower N Y ns (on_bounds through kept))

  pub factors : {G : List Ty} (ns kept : List ℕ) {v : Tm} (T : Ty) → AreKnown N Y G ns → AreDistinct ns → AreKnown N Y G kept → Typed [] v (arrow N Y ns T) → IsWithin kept (norm (on_bounds v ns)) → Factors G ns kept v T
  factors {G} ns kept {v} T k a kk d w =
      let e = on_bounds_typed N Y ns k (closed_anywhere G d) in
      let n = norm_conv e in
      let h = tower N Y kept (norm (on_bounds v ns)) in
      let gives : Conv G T (on_bounds h kept) (on_bounds v ns) = CTrans (tower_applied N Y kept kk (right_typed n)) (CSym n) in
      record {
        through = h;
        closed = tower_closed N Y kept kk (right_typed n) w;
        gives = gives;
        is = closed_only ns T k a d (CSym gives);
      }

-- ---- the same function at two lists of variables
-- the variables xs go to the variables ys
abbrev pub taking : List ℕ → List ℕ → ℕ → ℕ
taking (x ∷ xs) (y ∷ ys) j = cond (nat_eq x j) y (taking xs ys j)
taking _ _ j = j

-- the variables at the places where both lists agree
abbrev pub agreeing : List ℕ → List ℕ → List ℕ
agreeing (x ∷ xs) (y ∷ ys) = cond (nat_eq x y) (x ∷ agreeing xs ys) (agreeing xs ys)
agreeing _ _ = []

abbrev pub PairTypes : (ℕ → Ty) → List ℕ → List ℕ → Type 0
PairTypes Y [] [] = Unit {0}
PairTypes Y (x ∷ xs) (y ∷ ys) = (Y x ≡ Y y) × PairTypes Y xs ys
PairTypes Y [] (y ∷ ys) = ⊥
PairTypes Y (x ∷ xs) [] = ⊥

pub rename_on_bounds : (r : ℕ → ℕ) (v : Tm) (ns : List ℕ) → rename r (on_bounds v ns) ≡ on_bounds (rename r v) (map r ns)
rename_on_bounds r v [] = refl
rename_on_bounds r v (n ∷ ns) = rename_on_bounds r (App v (Bound n)) ns

pub taking_absent : (x y : ℕ) (xs ys : List ℕ) (ns : List ℕ) → Absent x ns → map (taking (x ∷ xs) (y ∷ ys)) ns ≡ map (taking xs ys) ns
taking_absent x y xs ys [] a = refl
taking_absent x y xs ys (n ∷ ns) a = λ i. cond (a.0 i) y (taking xs ys n) ∷ taking_absent x y xs ys ns a.1 i

pub taking_all : (Y : ℕ → Ty) (xs ys : List ℕ) → AreDistinct xs → PairTypes Y xs ys → map (taking xs ys) xs ≡ ys
taking_all Y [] [] d p = refl
taking_all Y [] (y ∷ ys) d p = absurd p
taking_all Y (x ∷ xs) [] d p = absurd p
taking_all Y (x ∷ xs) (y ∷ ys) d p =
    let t : nat_eq x x ≡ true = grind (arith, nat_tests) in
    let r = taking_absent x y xs ys xs d.0 ∙ taking_all Y xs ys d.1 p.1 in
    λ i. cond (t i) y (taking xs ys x) ∷ r i

pub taking_known : (N : ℕ → List ℕ) (Y : ℕ → Ty) (G : List Ty) (xs ys : List ℕ) → AreKnown N Y G xs → AreKnown N Y G ys → PairTypes Y xs ys → IsRenaming (taking xs ys) G G
taking_known N Y G [] [] k l p j T e = e
taking_known N Y G [] (y ∷ ys) k l p j T e = e
taking_known N Y G (x ∷ xs) [] k l p j T e = e
taking_known N Y G (x ∷ xs) (y ∷ ys) k l p j T e = choice (nat_eq x j) refl (taking_known N Y G xs ys k.1 l.1 p.1 j T e)
  where
    choice : (b : Bool) → nat_eq x j ≡ b → slice_get G (taking xs ys j) ≡ Some T → slice_get G (cond b y (taking xs ys j)) ≡ Some T
    choice true h r =
        let q : x ≡ j = grind (arith, nat_tests) in
        l.0 ∙ ap Some (sym p.0) ∙ sym k.0 ∙ ap (slice_get G) q ∙ e
    choice false h r = r

pub taking_conv : (N : ℕ → List ℕ) (Y : ℕ → Ty) {G : List Ty} (xs ys : List ℕ) {v t : Tm} (T : Ty) {U : Ty} → AreKnown N Y G xs → AreKnown N Y G ys → AreDistinct xs → PairTypes Y xs ys → Typed [] v U → Conv G T (on_bounds v xs) t → Conv G T (on_bounds v ys) (rename (taking xs ys) t)
taking_conv N Y {G} xs ys {v} {t} T k l d p c w =
    let r = taking xs ys in
    let e : rename r (on_bounds v xs) ≡ on_bounds v ys =
    rename_on_bounds r v xs ∙ (λ i. on_bounds (rename_closed c r (λ j lt. absurd (omega arith)) i) (taking_all Y xs ys d p i)) in
    subst (λ u. Conv G T u (rename r t)) e (rename_conv r G w (taking_known N Y G xs ys k l p))

-- what a renaming leaves as it is has only variables that it leaves
pub fixed : (r : ℕ → ℕ) (t : Tm) → bare t ≡ bare (rename r t) → (j : ℕ) → loose j t ≡ true → r j ≡ j
fixed r (Const x T) e j h = cc
fixed r (Free x T) e j h = cc
fixed r (Unknown x i T) e j h = cc
fixed r (Bound n) e j h =
    let q : n ≡ j = grind (arith, nat_tests, h) in
    let s : n ≡ r n = number e in
    ap r (sym q) ∙ sym s ∙ q
  where
    number : {m k : ℕ} → Bound m ≡ Bound k → m ≡ k
    number e = cc
fixed r (Abs x T b) e j h =
    let s : j + 1 ≡ suc j = omega arith in
    let q : suc (r j) ≡ suc j = fixed (up r) b (body e) (suc j) (ap (λ i. loose i b) (sym s) ∙ h) in
    omega (arith, q)
  where
    body : {c d : Tm} → Abs [] T c ≡ Abs [] T d → c ≡ d
    body e = cc
fixed r (App f a) e j h = choice (loose j f) refl (λ g. fixed r f (left e) j g) (λ g. fixed r a (right e) j g) h
  where
    left : {f g a b : Tm} → App f a ≡ App g b → f ≡ g
    left e = cc

    right : {f g a b : Tm} → App f a ≡ App g b → a ≡ b
    right e = cc

    choice : (b : Bool) → loose j f ≡ b → (loose j f ≡ true → r j ≡ j) → (loose j a ≡ true → r j ≡ j) → (b || loose j a) ≡ true → r j ≡ j
    choice true g p q h = p g
    choice false g p q h = q h

pub in_agreeing : (xs ys : List ℕ) (Y : ℕ → Ty) → PairTypes Y xs ys → (j : ℕ) → Among j xs → taking xs ys j ≡ j → Among j (agreeing xs ys)
in_agreeing [] ys Y p j h e = absurd h
in_agreeing (x ∷ xs) [] Y p j h e = absurd p
in_agreeing (x ∷ xs) (y ∷ ys) Y p j h e = choice (nat_eq x j) refl (nat_eq x y) refl h e (λ g q. in_agreeing xs ys Y p.1 j g q)
  where
    choice : (b : Bool) → nat_eq x j ≡ b → (c : Bool) → nat_eq x y ≡ c → Among j (x ∷ xs) → cond b y (taking xs ys j) ≡ j → (Among j xs → taking xs ys j ≡ j → Among j (agreeing xs ys)) → Among j (cond c (x ∷ agreeing xs ys) (agreeing xs ys))
    choice true t true u h q r = let s : j ≡ x = grind (arith, nat_tests) in inl s
    choice true t false u h q r = let s : x ≡ j = grind (arith, nat_tests) in let n : x ≢ y = grind (arith, nat_tests) in absurd (n (s ∙ sym q))
    choice false t c u (inl s) q r = let n : x ≢ j = grind (arith, nat_tests) in absurd (n (sym s))
    choice false t true u (inr g) q r = inr (r g q)
    choice false t false u (inr g) q r = r g q

-- a closed function that gives the same at two lists of variables depends on those alone where they agree
pub agreeing_within : (N : ℕ → List ℕ) (Y : ℕ → Ty) {G : List Ty} (xs ys : List ℕ) {v : Tm} (T : Ty) → AreKnown N Y G xs → AreKnown N Y G ys → AreDistinct xs → PairTypes Y xs ys → Typed [] v (arrow N Y xs T) → Conv G T (on_bounds v xs) (on_bounds v ys) → IsWithin (agreeing xs ys) (norm (on_bounds v xs))
agreeing_within N Y {G} xs ys {v} T k l d p c w j =
    let e = on_bounds_typed N Y xs k (closed_anywhere G c) in
    let n = norm_conv e in
    let r = taking xs ys in
    let q : Conv G T (on_bounds v ys) (rename r (norm (on_bounds v xs))) = taking_conv N Y xs ys T k l d p c n in
    let same : bare (norm (on_bounds v xs)) ≡ bare (rename r (norm (on_bounds v xs))) = normal_unique (CTrans (CSym n) (CTrans w q)) (norm_normal e) (rename_normal r (norm (on_bounds v xs)) (norm_normal e)) in
    choice (loose j (norm (on_bounds v xs))) refl (applied_within N Y G xs T k c j) (λ g h. in_agreeing xs ys Y p j h (fixed r (norm (on_bounds v xs)) same j g))
  where
    choice : (b : Bool) → loose j (norm (on_bounds v xs)) ≡ b → Among j xs ⊎ (loose j (norm (on_bounds v xs)) ≡ false) → (loose j (norm (on_bounds v xs)) ≡ true → Among j xs → Among j (agreeing xs ys)) → Among j (agreeing xs ys) ⊎ (loose j (norm (on_bounds v xs)) ≡ false)
    choice false g a r = inr g
    choice true g (inr f) r = inr f
    choice true g (inl h) r = inl (r g h)

-- ---- lists of variables
pub known_at : (N : ℕ → List ℕ) (Y : ℕ → Ty) (G : List Ty) (ns : List ℕ) → AreKnown N Y G ns → (j : ℕ) → Among j ns → slice_get G j ≡ Some (Y j)
known_at N Y G [] k j h = absurd h
known_at N Y G (n ∷ ns) k j (inl e) = ap (slice_get G) e ∙ k.0 ∙ ap (λ m. Some (Y m)) (sym e)
known_at N Y G (n ∷ ns) k j (inr h) = known_at N Y G ns k.1 j h

pub known_all : (N : ℕ → List ℕ) (Y : ℕ → Ty) (G : List Ty) (ns : List ℕ) → ((j : ℕ) → Among j ns → slice_get G j ≡ Some (Y j)) → AreKnown N Y G ns
known_all N Y G [] h = tt
known_all N Y G (n ∷ ns) h = (h n (inl refl), known_all N Y G ns (λ j g. h j (inr g)))

pub agreeing_front : (xs ys : List ℕ) (j : ℕ) → Among j (agreeing xs ys) → Among j xs
agreeing_front [] ys j h = absurd h
agreeing_front (x ∷ xs) [] j h = absurd h
agreeing_front (x ∷ xs) (y ∷ ys) j h = choice (nat_eq x y) h (λ g. agreeing_front xs ys j g)
  where
    choice : (b : Bool) → Among j (cond b (x ∷ agreeing xs ys) (agreeing xs ys)) → (Among j (agreeing xs ys) → Among j xs) → Among j (x ∷ xs)
    choice true (inl e) r = inl e
    choice true (inr g) r = inr (r g)
    choice false g r = inr (r g)

-- agreeing variables stay
pub taking_agreeing : (xs ys : List ℕ) → AreDistinct xs → (j : ℕ) → Among j (agreeing xs ys) → taking xs ys j ≡ j
taking_agreeing [] ys d j h = absurd h
taking_agreeing (x ∷ xs) [] d j h = absurd h
taking_agreeing (x ∷ xs) (y ∷ ys) d j h = choice (nat_eq x y) refl (nat_eq x j) refl h (λ g. taking_agreeing xs ys d.1 j g)
  where
    absent : (ns : List ℕ) → Absent x ns → Among j ns → x ≡ j → ⊥
    absent [] a g e = g
    absent (n ∷ ns) a (inl q) e = let ne : x ≢ n = grind (arith, nat_tests, a.0) in ne (e ∙ q)
    absent (n ∷ ns) a (inr g) e = absent ns a.1 g e

    choice : (b : Bool) → nat_eq x y ≡ b → (c : Bool) → nat_eq x j ≡ c → Among j (cond b (x ∷ agreeing xs ys) (agreeing xs ys)) → (Among j (agreeing xs ys) → taking xs ys j ≡ j) → cond c y (taking xs ys j) ≡ j
    choice true t true u g r = let p : y ≡ j = grind (arith, nat_tests) in p
    choice true t false u (inl e) r = let n : x ≢ j = grind (arith, nat_tests) in absurd (n (sym e))
    choice true t false u (inr g) r = r g
    choice false t true u g r = let p : x ≡ j = grind (arith, nat_tests) in absurd (absent xs d.0 (agreeing_front xs ys j g) p)
    choice false t false u g r = r g
