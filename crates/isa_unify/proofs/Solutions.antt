-- The solution `%xs. t` of `?F xs` against t.
use Rattle.std.proofs.Common.{◌≡◌, ◌≢◌, ℕ, zero, suc, ◌+◌, ◌<◌, ◌≤◌, List, [], ◌∷◌, map, length, Bool, true, false, ◌&&◌, ◌||◌, not, nat_eq, nat_lt, refl, sym, ap, subst, ◌∙◌, inl, inr, Option, Some, None, arith}
use Rattle.std.specs.List.{slice_get}
use Rattle.std.proofs.lemmas.Bool.Decides.{nat_tests}
use Rattle.isa_terms.specs.Types.{Ty}
use Rattle.isa_terms.specs.Terms.{Tm, Const, Free, Unknown, Bound, Abs, App, bare}
use Rattle.isa_terms.specs.Typing.{function_of}
use Rattle.isa_terms.specs.Norm.{loose, eta, norm}
use Rattle.isa_terms.specs.Normal.{IsNormal}
use Rattle.isa_terms.specs.Instance.{inst_ty}
use Rattle.isa_terms.specs.declared.inst.TypeEntry.{TypeEntry}
use Rattle.isa_terms.specs.Typed.{Typed, TConst, TFree, TUnknown, TBound, TAbs, TApp}
use Rattle.isa_terms.specs.Conversion.{Conv, CRefl, CSym, CTrans, CApp}
use Rattle.isa_terms.proofs.Conv.{right_typed, eta_conv, norm_conv}
use Rattle.isa_terms.proofs.NormalForms.{eta_normal, norm_same}
use Rattle.isa_terms.proofs.RenamedNormal.{over_normal}
use Rattle.isa_terms.proofs.Opening.{over_typed, over_applied, over_only}
use Rattle.isa_terms.proofs.Loose.{beyond_misses}
use Rattle.isa_terms.proofs.Unique.{conv_norm, domain_same, range_same}
use Rattle.isa_unify.specs.TypeUnification.{ty_has}
use Rattle.isa_unify.specs.Matching.{Binder, over, solution, is_closed, ◌>>=◌}
use Rattle.isa_unify.proofs.Tests.{both_true, and_true, or_left, or_right, either_true, some_same}
use Rattle.isa_unify.proofs.TypeMatches.{TypesWithin, Fit, fit_more}
use Rattle.isa_unify.proofs.Flexible.{Spined, apps, has_number, are_distinct}

-- ---- the types of a pattern's binders and those of the term's
abbrev pub types_of : List Binder → List Ty
types_of [] = []
types_of (b ∷ D) = b.typ ∷ types_of D

abbrev pub Fits : List TypeEntry → List Ty → List Binder → Type 0
Fits es [] [] = Unit {0}
Fits es (A ∷ G) (b ∷ D) = Fit es A b.typ × Fits es G D
Fits es [] (b ∷ D) = ⊥
Fits es (A ∷ G) [] = ⊥

pub fits_more : {es fs : List TypeEntry} (G : List Ty) (D : List Binder) → TypesWithin es fs → Fits es G D → Fits fs G D
fits_more [] [] w f = tt
fits_more (A ∷ G) (b ∷ D) w f = (fit_more w f.0, fits_more G D w f.1)
fits_more [] (b ∷ D) w f = absurd f
fits_more (A ∷ G) [] w f = absurd f

pub fits_map : {es : List TypeEntry} (fs : List TypeEntry) (G : List Ty) (D : List Binder) → TypesWithin es fs → Fits es G D → map (inst_ty fs) G ≡ types_of D
fits_map fs [] [] w f = refl
fits_map fs (A ∷ G) (b ∷ D) w f = λ i. (f.0.gives fs w i) ∷ (fits_map fs G D w f.1 i)
fits_map fs [] (b ∷ D) w f = absurd f
fits_map fs (A ∷ G) [] w f = absurd f

pub record FitsAt (es : List TypeEntry) (D : List Binder) (n : ℕ) (A : Ty) : Type 0 where
  pub binder : Binder
  pub at : slice_get D n ≡ Some binder
  pub fit : Fit es A binder.typ

pub fits_get : {es : List TypeEntry} (G : List Ty) (D : List Binder) (n : ℕ) (A : Ty) → Fits es G D → slice_get G n ≡ Some A → FitsAt es D n A
fits_get {es} (B ∷ G) (b ∷ D) zero A f e = record { binder = b; at = refl; fit = subst (λ U. Fit es U b.typ) (some_same e) f.0 }
fits_get (B ∷ G) (b ∷ D) (suc n) A f e = let r = fits_get G D n A f.1 e in record { binder = r.binder; at = r.at; fit = r.fit }
fits_get [] [] n A f e = absurd (cc)
fits_get [] (b ∷ D) n A f e = absurd f
fits_get (B ∷ G) [] n A f e = absurd f

pub types_get : (D : List Binder) (n : ℕ) (b : Binder) → slice_get D n ≡ Some b → slice_get (types_of D) n ≡ Some b.typ
types_get [] n b e = absurd (cc)
types_get (c ∷ D) zero b e = ap (λ (d : Binder). Some d.typ) (some_same e)
types_get (c ∷ D) (suc n) b e = types_get D n b e

-- ---- types of functions
fun_has : (x : List ℕ) (i : ℕ) (S R : Ty) → ty_has x i (function_of S R) ≡ (ty_has x i S || (ty_has x i R || false))
fun_has x i S R = refl

or_none : (b : Bool) → b ≡ true → (b || false) ≡ true
or_none b h = or_left b false h

none_or : (b : Bool) → (b || false) ≡ true → b ≡ true
none_or true h = refl
none_or false h = h

pub fit_function : {es : List TypeEntry} {S R U V : Ty} → Fit es S U → Fit es R V → Fit es (function_of S R) (function_of U V)
fit_function {es} {S} {R} {U} {V} f g = record {
  gives = λ fs w. λ l. function_of (f.gives fs w l) (g.gives fs w l);
  covers = λ x i h. elim (either_true (ty_has x i S) (ty_has x i R || false) h) [ inl k ↦ f.covers x i k | inr k ↦ g.covers x i (none_or (ty_has x i R) k) ];
}

pub fit_domain : {es : List TypeEntry} {S R U V : Ty} → Fit es (function_of S R) (function_of U V) → Fit es S U
fit_domain {es} {S} {R} {U} {V} f = record {
  gives = λ fs w. domain_same (f.gives fs w);
  covers = λ x i h. f.covers x i (or_left (ty_has x i S) (ty_has x i R || false) h);
}

pub fit_range : {es : List TypeEntry} {S R U V : Ty} → Fit es (function_of S R) (function_of U V) → Fit es R V
fit_range {es} {S} {R} {U} {V} f = record {
  gives = λ fs w. range_same (f.gives fs w);
  covers = λ x i h. f.covers x i (or_right (ty_has x i S) (ty_has x i R || false) (or_none (ty_has x i R) h));
}

-- ---- applications to variables
pub apps_conv : (K : List Ty) (ns : List ℕ) (C B : Ty) {f g : Tm} → Spined K C ns B → Conv K C f g → Conv K B (apps f ns) (apps g ns)
apps_conv K [] C B {f} {g} p c = subst (λ U. Conv K U f g) p c
apps_conv K (n ∷ ns) C B {f} {g} p c =
    apps_conv K ns p.1 B p.4 (CApp (subst (λ U. Conv K U f g) p.3 c) (CRefl (TBound p.2)))

pub apps_typed : (K : List Ty) (ns : List ℕ) (C B : Ty) {f : Tm} → Spined K C ns B → Typed K f C → Typed K (apps f ns) B
apps_typed K [] C B {f} p d = subst (λ U. Typed K f U) p d
apps_typed K (n ∷ ns) C B {f} p d = apps_typed K ns p.1 B p.4 (TApp (subst (λ U. Typed K f U) p.3 d) (TBound p.2))

-- ---- what the solution is
pub record IsSolution (es : List TypeEntry) (D : List Binder) (ns : List ℕ) (T B : Ty) (t u : Tm) : Type 0 where
  pub typ : Ty
  pub fit : Fit es T typ
  pub spined : Spined (types_of D) typ ns B
  pub typed : Typed (types_of D) u typ
  pub gives : Conv (types_of D) B (apps u ns) t
  pub normal : IsNormal u

pub solution_exists : (es : List TypeEntry) (G : List Ty) (D : List Binder) (ns : List ℕ) (T A : Ty) (t : Tm) → Fits es G D → Spined G T ns A → (u : Tm) × (solution D ns t ≡ Some u)
solution_exists es G D [] T A t f p = (t, refl)
solution_exists es G D (n ∷ ns) T A t f p =
    let b = fits_get G D n p.0 f p.2 in
    let r = solution_exists es G D ns p.1 A t f p.4 in (
      eta b.binder.name b.binder.typ (over n 0 r.0),
      ap (λ o. o >>= λ (x : Binder). (solution D ns t >>= λ u. Some (eta x.name x.typ (over n 0 u)))) b.at ∙ ap (λ o. o >>= λ u. Some (eta b.binder.name b.binder.typ (over n 0 u))) r.1,
    )

solved_more : (es : List TypeEntry) (D : List Binder) (n : ℕ) (ns : List ℕ) (S R T B : Ty) (b : Binder) (t w : Tm) → slice_get D n ≡ Some b → Fit es S b.typ → T ≡ function_of S R → IsSolution es D ns R B t w → IsSolution es D (n ∷ ns) T B t (eta b.name b.typ (over n 0 w))
solved_more es D n ns S R T B b t w at f e i =
    let K = types_of D in
    let g : slice_get K n ≡ Some b.typ = types_get D n b at in
    let body = over_typed n g i.typed in
    let short = eta_conv K b.name b.typ i.typ (over n 0 w) body in
    let u = eta b.name b.typ (over n 0 w) in
    let applied : Conv K i.typ (App u (Bound n)) w = CTrans (CSym (CApp short (CRefl (TBound g)))) (over_applied b.name n g i.typed) in
    record {
      typ = function_of b.typ i.typ;
      fit = subst (λ U. Fit es U (function_of b.typ i.typ)) (sym e) (fit_function f i.fit);
      spined = (b.typ, i.typ, g, refl, i.spined);
      typed = right_typed short;
      gives = CTrans (apps_conv K ns i.typ B i.spined applied) i.gives;
      normal = eta_normal b.name b.typ (over n 0 w) (over_normal n 0 w i.normal);
    }

pub solution_is : (es : List TypeEntry) (G : List Ty) (D : List Binder) (ns : List ℕ) (T A B : Ty) (t u : Tm) → Fits es G D → Spined G T ns A → Fit es A B → Typed (types_of D) t B → IsNormal t → solution D ns t ≡ Some u → IsSolution es D ns T B t u
solution_is es G D [] T A B t u f p a d n e =
    subst (λ v. IsSolution es D [] T B t v) (some_same e) (record { typ = B; fit = subst (λ U. Fit es U B) (sym p) a; spined = refl; typed = d; gives = CRefl d; normal = n })
solution_is es G D (m ∷ ns) T A B t u f p a d n e =
    let b = fits_get G D m p.0 f p.2 in
    let r = solution_exists es G D ns p.1 A t f p.4 in
    let i = solution_is es G D ns p.1 A B t r.0 f p.4 a d n r.1 in
    let made : solution D (m ∷ ns) t ≡ Some (eta b.binder.name b.binder.typ (over m 0 r.0)) =
    ap (λ o. o >>= λ (x : Binder). (solution D ns t >>= λ u. Some (eta x.name x.typ (over m 0 u)))) b.at ∙ ap (λ o. o >>= λ u. Some (eta b.binder.name b.binder.typ (over m 0 u))) r.1 in
    subst (λ v. IsSolution es D (m ∷ ns) T B t v) (some_same (sym made ∙ e)) (solved_more es D m ns p.0 p.1 T B b.binder t r.0 b.at b.fit p.3 i)

-- ---- nothing else is one
abbrev pub Misses : List ℕ → Tm → Type 0
Misses [] v = Unit {0}
Misses (n ∷ ns) v = (loose n v ≡ false) × Misses ns v

other_number : (m n : ℕ) → nat_eq m n ≡ false → nat_eq n m ≡ false
other_number m n h = grind (arith, nat_tests)

neither : (a b : Bool) → a ≡ false → b ≡ false → (a || b) ≡ false
neither true b h k = absurd (cc)
neither false b h k = k

neither_true : (a b : Bool) → (a || b) ≡ false → (a ≡ false) × (b ≡ false)
neither_true true b k = absurd (cc)
neither_true false b k = (refl, k)

not_true : (b : Bool) → not b ≡ true → b ≡ false
not_true true h = absurd (cc)
not_true false h = refl

misses_app : (ns : List ℕ) (n : ℕ) (v : Tm) → Misses ns v → has_number ns n ≡ false → Misses ns (App v (Bound n))
misses_app [] n v m h = tt
misses_app (k ∷ ns) n v m h =
    let p = neither_true (nat_eq k n) (has_number ns n) h in
    (neither (loose k v) (nat_eq n k) m.0 (other_number k n p.0), misses_app ns n v m.1 p.1)

pub solution_only : (D : List Binder) (ns : List ℕ) (C B : Ty) (v t u : Tm) → are_distinct ns ≡ true → Misses ns v → Spined (types_of D) C ns B → Typed (types_of D) v C → Conv (types_of D) B (apps v ns) t → solution D ns t ≡ Some u → Conv (types_of D) C v u
solution_only D [] C B v t u a m p d c e = subst (λ w. Conv (types_of D) C v w) (some_same e) (subst (λ U. Conv (types_of D) U v t) (sym p) c)
solution_only D (n ∷ ns) C B v t u a m p d c e =
    let K = types_of D in
    let two = both_true (not (has_number ns n)) (are_distinct ns) a in
    let f : Typed K v (function_of p.0 p.1) = subst (λ U. Typed K v U) p.3 d in
    let fn : Typed K (App v (Bound n)) p.1 = TApp f (TBound p.2) in
    let missed = misses_app ns n v m.1 (not_true (has_number ns n) two.0) in
    with_binder (λ w h. solution_only D ns p.1 B (App v (Bound n)) t w two.1 missed p.4 fn c h) (slice_get D n) refl (solution D ns t) refl e f
  where
    with_binder : ((w : Tm) → solution D ns t ≡ Some w → Conv (types_of D) p.1 (App v (Bound n)) w) → (o : Option Binder) → slice_get D n ≡ o → (q : Option Tm) → solution D ns t ≡ q → (o >>= λ (x : Binder). (q >>= λ w. Some (eta x.name x.typ (over n 0 w)))) ≡ Some u → Typed (types_of D) v (function_of p.0 p.1) → Conv (types_of D) C v u
    with_binder ih None g q h k f = absurd (cc)
    with_binder ih (Some b) g None h k f = absurd (cc)
    with_binder ih (Some b) g (Some w) h k f =
        let K = types_of D in
        let found : Conv K p.1 (App v (Bound n)) w = ih w h in
        let same : p.0 ≡ b.typ = some_same (sym p.2 ∙ types_get D n b g) in
        let abs : Conv K (function_of p.0 p.1) v (Abs b.name p.0 (over n 0 w)) = over_only b.name n p.2 m.0 f found in
        let at : Conv K (function_of b.typ p.1) v (Abs b.name b.typ (over n 0 w)) = subst (λ U. Conv K (function_of U p.1) v (Abs b.name U (over n 0 w))) same abs in
        let body : Typed (b.typ ∷ K) (over n 0 w) p.1 = over_typed n (types_get D n b g) (right_typed found) in
        let whole : Conv K (function_of b.typ p.1) v u = subst (λ x. Conv K (function_of b.typ p.1) v x) (some_same k) (CTrans at (eta_conv K b.name b.typ p.1 (over n 0 w) body)) in
        subst (λ U. Conv K U v u) (sym (p.3 ∙ ap (λ U. function_of U p.1) same)) whole

-- ---- terms without loose variables
closed_bound : (k j n : ℕ) → nat_lt n k ≡ true → k ≤ j → nat_eq n j ≡ false
closed_bound k j n h le = let lt : n < k = grind (arith, nat_tests) in differ n j (λ e. omega arith)
  where
    differ : (n j : ℕ) → n ≢ j → nat_eq n j ≡ false
    differ n j h = grind (arith, nat_tests)

pub closed_misses : (k : ℕ) (t : Tm) → is_closed k t ≡ true → (j : ℕ) → k ≤ j → loose j t ≡ false
closed_misses k (Const c T) h j le = refl
closed_misses k (Free x T) h j le = refl
closed_misses k (Unknown x i T) h j le = refl
closed_misses k (Bound n) h j le = closed_bound k j n h le
closed_misses k (Abs x T b) h j le = closed_misses (k + 1) b h (j + 1) (omega arith)
closed_misses k (App f a) h j le =
    let p = both_true (is_closed k f) (is_closed k a) h in
    neither (loose j f) (loose j a) (closed_misses k f p.0 j le) (closed_misses k a p.1 j le)

pub closed_bare : (k : ℕ) (t : Tm) → is_closed k (bare t) ≡ is_closed k t
closed_bare k (Const c T) = refl
closed_bare k (Free x T) = refl
closed_bare k (Unknown x i T) = refl
closed_bare k (Bound n) = refl
closed_bare k (Abs x T b) = closed_bare (k + 1) b
closed_bare k (App f a) = λ i. closed_bare k f i && closed_bare k a i

below : (G : List Ty) (n : ℕ) (T : Ty) → slice_get G n ≡ Some T → n < length G
below [] n T e = absurd (cc)
below (S ∷ G) zero T e = omega arith
below (S ∷ G) (suc n) T e = let lt = below G n T e in omega (arith, lt)

lt_true : (n k : ℕ) → n < k → nat_lt n k ≡ true
lt_true n k h = grind (arith, nat_tests)

pub typed_closed : {G : List Ty} {t : Tm} {T : Ty} → Typed G t T → (k : ℕ) → length G ≤ k → is_closed k t ≡ true
typed_closed TConst k le = refl
typed_closed TFree k le = refl
typed_closed TUnknown k le = refl
typed_closed (TBound {G} {n} {T} h) k le = let lt = below G n T h in lt_true n k (omega (arith, lt))
typed_closed (TAbs d) k le = typed_closed d (k + 1) (omega arith)
typed_closed (TApp {f} {a} d e) k le = and_true (is_closed k f) (is_closed k a) (typed_closed d k le) (typed_closed e k le)

pub misses_all : (ns : List ℕ) {v : Tm} {C : Ty} → Typed [] v C → Misses ns v
misses_all [] d = tt
misses_all (n ∷ ns) d = (beyond_misses d n (omega arith), misses_all ns d)

-- what a closed term without redexes converts to, without redexes, is closed
pub conv_closed : (K : List Ty) (C : Ty) (v u : Tm) → Typed [] v C → Conv K C v u → IsNormal u → (is_closed 0 u ≡ true) × (bare (norm v) ≡ bare u)
conv_closed K C v u d c n =
    let same : bare (norm v) ≡ bare u = conv_norm c ∙ ap bare (norm_same u n) in
    let closed : is_closed 0 (norm v) ≡ true = typed_closed (right_typed (norm_conv d)) 0 (omega arith) in
    (sym (closed_bare 0 u) ∙ ap (is_closed 0) (sym same) ∙ closed_bare 0 (norm v) ∙ closed, same)
