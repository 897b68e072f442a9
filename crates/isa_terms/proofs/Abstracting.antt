-- Terms abstracted over several variables of the binders, and applied to them.
use Rattle.std.proofs.Common.{◌≡◌, ◌≢◌, ◌⊎◌, inl, inr, ℕ, suc, ◌+◌, ◌-◌, ◌<◌, ◌≤◌, List, [], ◌∷◌, length, Bool, true, false, cond, ◌||◌, nat_eq, nat_lt, Some, refl, sym, ap, ◌∙◌, subst, arith}
use Rattle.std.specs.List.{slice_get}
use Rattle.std.proofs.lemmas.Bool.Decides.{nat_tests}
use Rattle.isa_terms.specs.Types.{Ty}
use Rattle.isa_terms.specs.Terms.{Tm, Const, Free, Unknown, Bound, Abs, App}
use Rattle.isa_terms.specs.Typing.{function_of}
use Rattle.isa_terms.specs.Norm.{loose, eta}
use Rattle.isa_terms.specs.Normal.{IsNormal}
use Rattle.isa_terms.specs.Instance.{inst_ty, inst_tm}
use Rattle.isa_terms.specs.declared.inst.TypeEntry.{TypeEntry}
use Rattle.isa_terms.specs.declared.inst.TermEntry.{TermEntry}
use Rattle.isa_terms.specs.Typed.{Typed, TBound, TAbs, TApp}
use Rattle.isa_terms.specs.Conversion.{Conv, CRefl, CSym, CTrans, CApp, CAbs}
use Rattle.isa_terms.specs.Instances.{IsKept}
use Rattle.isa_terms.proofs.Conv.{right_typed, eta_conv}
use Rattle.isa_terms.proofs.NormalForms.{eta_normal}
use Rattle.isa_terms.proofs.Loose.{closed_has_type, conv_misses}
use Rattle.isa_terms.proofs.Unique.{abs_typed}
use Rattle.isa_terms.proofs.Opening.{over, over_typed, over_conv, over_applied, over_application, inst_over}
use Rattle.isa_terms.proofs.RenamedNormal.{over_normal}

-- f applied to the variables
abbrev pub on_bounds : Tm → List ℕ → Tm
on_bounds f [] = f
on_bounds f (n ∷ ns) = on_bounds (App f (Bound n)) ns

-- no two of the numbers are the same
abbrev pub Absent : ℕ → List ℕ → Type 0
Absent n [] = Unit {0}
Absent n (m ∷ ms) = (nat_eq n m ≡ false) × Absent n ms

abbrev pub AreDistinct : List ℕ → Type 0
AreDistinct [] = Unit {0}
AreDistinct (n ∷ ns) = Absent n ns × AreDistinct ns

-- none of the variables is in the term
abbrev pub AreMissing : List ℕ → Tm → Type 0
AreMissing [] t = Unit {0}
AreMissing (n ∷ ns) t = (loose n t ≡ false) × AreMissing ns t

-- the number is one of these
abbrev pub Among : ℕ → List ℕ → Type 0
Among n [] = ⊥
Among n (m ∷ ms) = (n ≡ m) ⊎ Among n ms

pub neither : (a b : Bool) → a ≡ false → b ≡ false → (a || b) ≡ false
neither true b h k = cc
neither false b h k = k

pub eq_swap : (n m : ℕ) → nat_eq n m ≡ false → nat_eq m n ≡ false
eq_swap n m h = grind (arith, nat_tests)

pub missing_more : (n : ℕ) (v : Tm) (ns : List ℕ) → Absent n ns → AreMissing ns v → AreMissing ns (App v (Bound n))
missing_more n v [] a m = tt
missing_more n v (k ∷ ks) a m = (neither (loose k v) (nat_eq n k) m.0 a.0, missing_more n v ks a.1 m.1)

-- the variable that is abstracted is not loose, and no other comes
pub over_own_bound : (n k i : ℕ) (b c : Bool) → nat_lt i k ≡ b → nat_eq i (n + k) ≡ c → loose (n + k + 1) (cond b (Bound i) (cond c (Bound k) (Bound (i + 1)))) ≡ false
over_own_bound n k i true c h l = grind (arith, nat_tests)
over_own_bound n k i false true h l = grind (arith, nat_tests)
over_own_bound n k i false false h l = grind (arith, nat_tests)

pub over_own : (n k : ℕ) (t : Tm) → loose (n + k + 1) (over n k t) ≡ false
over_own n k (Const x T) = refl
over_own n k (Free x T) = refl
over_own n k (Unknown x i T) = refl
over_own n k (Bound i) = over_own_bound n k i (nat_lt i k) (nat_eq i (n + k)) refl refl
over_own n k (Abs x T b) = let e : n + k + 1 + 1 ≡ n + (k + 1) + 1 = omega arith in ap (λ j. loose j (over n (k + 1) b)) e ∙ over_own n (k + 1) b
over_own n k (App f a) = neither (loose (n + k + 1) (over n k f)) (loose (n + k + 1) (over n k a)) (over_own n k f) (over_own n k a)

pub or_false : (a b : Bool) → (a || b) ≡ false → (a ≡ false) × (b ≡ false)
or_false true b e = cc
or_false false b e = (refl, e)

pub over_other_bound : (n j k i : ℕ) (b c : Bool) → nat_lt i k ≡ b → nat_eq i (n + k) ≡ c → nat_eq i (j + k) ≡ false → loose (j + k + 1) (cond b (Bound i) (cond c (Bound k) (Bound (i + 1)))) ≡ false
over_other_bound n j k i true c h l m = grind (arith, nat_tests)
over_other_bound n j k i false true h l m = grind (arith, nat_tests)
over_other_bound n j k i false false h l m = grind (arith, nat_tests)

pub over_other : (n j k : ℕ) (t : Tm) → loose (j + k) t ≡ false → loose (j + k + 1) (over n k t) ≡ false
over_other n j k (Const x T) m = refl
over_other n j k (Free x T) m = refl
over_other n j k (Unknown x i T) m = refl
over_other n j k (Bound i) m = over_other_bound n j k i (nat_lt i k) (nat_eq i (n + k)) refl refl m
over_other n j k (Abs x T b) m =
    let e : j + k + 1 + 1 ≡ j + (k + 1) + 1 = omega arith in
    let f : j + (k + 1) ≡ j + k + 1 = omega arith in
    ap (λ i. loose i (over n (k + 1) b)) e ∙ over_other n j (k + 1) b (ap (λ i. loose i b) f ∙ m)
over_other n j k (App f a) m =
    let o = or_false (loose (j + k) f) (loose (j + k) a) m in
    neither (loose (j + k + 1) (over n k f)) (loose (j + k + 1) (over n k a)) (over_other n j k f o.0) (over_other n j k a o.1)

-- ---- one variable after the other, and all at once
-- the variables ns of t take the places of binders, the last of them the innermost; here under k more
abbrev pub chain : List ℕ → ℕ → Tm → Tm
chain [] k t = t
chain (n ∷ ns) k t = over n (length ns + k) (chain ns k t)

-- the number of the variable n under binders over xs, the first of them the outermost
abbrev pub place_behind : List ℕ → ℕ → ℕ
place_behind [] n = 0
place_behind (x ∷ xs) n = cond (nat_eq x n) (length xs) (place_behind xs n)

-- the term, whose loose variables are among xs, under binders over xs
abbrev pub moved : List ℕ → ℕ → Tm → Tm
moved xs k (Const x T) = Const x T
moved xs k (Free x T) = Free x T
moved xs k (Unknown x i T) = Unknown x i T
moved xs k (Bound n) = cond (nat_lt n k) (Bound n) (Bound (k + place_behind xs (n - k)))
moved xs k (Abs x T b) = Abs x T (moved xs (k + 1) b)
moved xs k (App f a) = App (moved xs k f) (moved xs k a)

pub over_low : (n k i : ℕ) → i < k → over n k (Bound i) ≡ Bound i
over_low n k i h = let t : nat_lt i k ≡ true = grind (arith, nat_tests) in ap (λ b. cond b (Bound i) (cond (nat_eq i (n + k)) (Bound k) (Bound (i + 1)))) t

pub over_high : (n k i : ℕ) → k ≤ i → i ≢ n + k → over n k (Bound i) ≡ Bound (i + 1)
over_high n k i h ne =
    let t : nat_lt i k ≡ false = grind (arith, nat_tests) in
    let e : nat_eq i (n + k) ≡ false = grind (arith, nat_tests) in
    ap (λ b. cond b (Bound i) (cond (nat_eq i (n + k)) (Bound k) (Bound (i + 1)))) t ∙ ap (λ b. cond b (Bound k) (Bound (i + 1))) e

pub over_hit : (n k i : ℕ) → i ≡ n + k → over n k (Bound i) ≡ Bound k
over_hit n k i q =
    let t : nat_lt i k ≡ false = grind (arith, nat_tests) in
    let e : nat_eq i (n + k) ≡ true = grind (arith, nat_tests) in
    ap (λ b. cond b (Bound i) (cond (nat_eq i (n + k)) (Bound k) (Bound (i + 1)))) t ∙ ap (λ b. cond b (Bound k) (Bound (i + 1))) e

pub chain_low : (ns : List ℕ) (k i : ℕ) → i < k → chain ns k (Bound i) ≡ Bound i
chain_low [] k i h = refl
chain_low (n ∷ ns) k i h = ap (over n (length ns + k)) (chain_low ns k i h) ∙ over_low n (length ns + k) i (omega arith)

-- the variable j of the outer binders
pub chain_absent : (ns : List ℕ) (k j : ℕ) → Absent j ns → chain ns k (Bound (j + k)) ≡ Bound (j + k + length ns)
chain_absent [] k j a = let e : j + k ≡ j + k + 0 = omega arith in ap Bound e
chain_absent (n ∷ ns) k j a =
    let ne : j ≢ n = grind (arith, nat_tests, a.0) in
    let e : j + k + length ns + 1 ≡ j + k + suc (length ns) = omega arith in
    ap (over n (length ns + k)) (chain_absent ns k j a.1) ∙ over_high n (length ns + k) (j + k + length ns) (omega arith) (λ q. ne (omega (arith, q))) ∙ ap Bound e

pub place_less : (ns : List ℕ) (j : ℕ) → Among j ns → place_behind ns j < length ns
place_less [] j h = absurd h
place_less (n ∷ ns) j (inl e) = let t : nat_eq n j ≡ true = grind (arith, nat_tests) in subst (λ b. cond b (length ns) (place_behind ns j) < suc (length ns)) (sym t) (omega arith)
place_less (n ∷ ns) j (inr h) = choice (nat_eq n j) (place_less ns j h)
  where
    choice : (b : Bool) → place_behind ns j < length ns → cond b (length ns) (place_behind ns j) < suc (length ns)
    choice true r = omega arith
    choice false r = omega arith

pub absent_same : (n j : ℕ) (ns : List ℕ) → nat_eq n j ≡ true → Absent n ns → Absent j ns
absent_same n j ns h a = let e : n ≡ j = grind (arith, nat_tests) in subst (λ m. Absent m ns) e a

pub chain_among : (ns : List ℕ) → AreDistinct ns → (k j : ℕ) → Among j ns → chain ns k (Bound (j + k)) ≡ Bound (k + place_behind ns j)
chain_among [] d k j h = absurd h
chain_among (n ∷ ns) d k j h = choice (nat_eq n j) refl h (λ g. chain_among ns d.1 k j g)
  where
    choice : (b : Bool) → nat_eq n j ≡ b → Among j (n ∷ ns) → (Among j ns → chain ns k (Bound (j + k)) ≡ Bound (k + place_behind ns j)) → over n (length ns + k) (chain ns k (Bound (j + k))) ≡ Bound (k + cond b (length ns) (place_behind ns j))
    choice true e h r =
        let q : n ≡ j = grind (arith, nat_tests) in
        let s : length ns + k ≡ k + length ns = omega arith in
        ap (over n (length ns + k)) (chain_absent ns k j (absent_same n j ns e d.0)) ∙ over_hit n (length ns + k) (j + k + length ns) (omega arith) ∙ ap Bound s
    choice false e (inl q) r = let ne : n ≢ j = grind (arith, nat_tests) in absurd (ne (sym q))
    choice false e (inr h) r =
        let lt = place_less ns j h in
        ap (over n (length ns + k)) (r h) ∙ over_low n (length ns + k) (k + place_behind ns j) (omega arith)

pub chain_app : (ns : List ℕ) (k : ℕ) (f a : Tm) → chain ns k (App f a) ≡ App (chain ns k f) (chain ns k a)
chain_app [] k f a = refl
chain_app (n ∷ ns) k f a = ap (over n (length ns + k)) (chain_app ns k f a)

pub chain_abs : (ns : List ℕ) (k : ℕ) (x : List ℕ) (T : Ty) (b : Tm) → chain ns k (Abs x T b) ≡ Abs x T (chain ns (k + 1) b)
chain_abs [] k x T b = refl
chain_abs (n ∷ ns) k x T b =
    let e : length ns + k + 1 ≡ length ns + (k + 1) = omega arith in
    ap (over n (length ns + k)) (chain_abs ns k x T b) ∙ ap (λ j. Abs x T (over n j (chain ns (k + 1) b))) e

pub chain_const : (ns : List ℕ) (k : ℕ) (x : List ℕ) (T : Ty) → chain ns k (Const x T) ≡ Const x T
chain_const [] k x T = refl
chain_const (n ∷ ns) k x T = ap (over n (length ns + k)) (chain_const ns k x T)

pub chain_free : (ns : List ℕ) (k : ℕ) (x : List ℕ) (T : Ty) → chain ns k (Free x T) ≡ Free x T
chain_free [] k x T = refl
chain_free (n ∷ ns) k x T = ap (over n (length ns + k)) (chain_free ns k x T)

pub chain_unknown : (ns : List ℕ) (k : ℕ) (x : List ℕ) (i : ℕ) (T : Ty) → chain ns k (Unknown x i T) ≡ Unknown x i T
chain_unknown [] k x i T = refl
chain_unknown (n ∷ ns) k x i T = ap (over n (length ns + k)) (chain_unknown ns k x i T)

pub chain_bound : (ns : List ℕ) → AreDistinct ns → (k i : ℕ) (b : Bool) → nat_lt i k ≡ b → ((j : ℕ) → Among j ns ⊎ (nat_eq i (j + k) ≡ false)) → chain ns k (Bound i) ≡ cond b (Bound i) (Bound (k + place_behind ns (i - k)))
chain_bound ns d k i true h m = let lt : i < k = grind (arith, nat_tests) in chain_low ns k i lt
chain_bound ns d k i false h m = choice (m (i - k))
  where
    choice : Among (i - k) ns ⊎ (nat_eq i (i - k + k) ≡ false) → chain ns k (Bound i) ≡ Bound (k + place_behind ns (i - k))
    choice (inl g) =
        let le : k ≤ i = grind (arith, nat_tests) in
        let e : i ≡ i - k + k = omega arith in
        ap (λ n. chain ns k (Bound n)) e ∙ chain_among ns d k (i - k) g
    choice (inr g) =
        let le : k ≤ i = grind (arith, nat_tests) in
        let ne : i ≢ i - k + k = grind (arith, nat_tests) in
        absurd (ne (omega arith))

pub chain_moved : (ns : List ℕ) → AreDistinct ns → (k : ℕ) (t : Tm) → ((j : ℕ) → Among j ns ⊎ (loose (j + k) t ≡ false)) → chain ns k t ≡ moved ns k t
chain_moved ns d k (Const x T) m = chain_const ns k x T
chain_moved ns d k (Free x T) m = chain_free ns k x T
chain_moved ns d k (Unknown x i T) m = chain_unknown ns k x i T
chain_moved ns d k (Bound i) m = chain_bound ns d k i (nat_lt i k) refl m
chain_moved ns d k (Abs x T b) m = chain_abs ns k x T b ∙ ap (Abs x T) (chain_moved ns d (k + 1) b (λ j. elim (m j) [ inl h ↦ inl h | inr h ↦ inr (deeper j h) ]))
  where
    deeper : (j : ℕ) → loose (j + k + 1) b ≡ false → loose (j + (k + 1)) b ≡ false
    deeper j h = let e : j + (k + 1) ≡ j + k + 1 = omega arith in ap (λ i. loose i b) e ∙ h
chain_moved ns d k (App f a) m =
    chain_app ns k f a
    ∙ (λ i. App
    (chain_moved ns d k f (λ j. elim (m j) [ inl h ↦ inl h | inr h ↦ inr ((or_false (loose (j + k) f) (loose (j + k) a) h).0) ]) i)
    (chain_moved ns d k a (λ j. elim (m j) [ inl h ↦ inl h | inr h ↦ inr ((or_false (loose (j + k) f) (loose (j + k) a) h).1) ]) i))

-- the binders' names and types, by number
module _ (name_at : ℕ → List ℕ) (typ_at : ℕ → Ty) where
  -- the type of functions from the variables' types to T
  abbrev pub arrow : List ℕ → Ty → Ty
  arrow [] T = T
  arrow (n ∷ ns) T = function_of (typ_at n) (arrow ns T)

  -- the variables have these types
  abbrev pub AreKnown : List Ty → List ℕ → Type 0
  AreKnown G [] = Unit {0}
  AreKnown G (n ∷ ns) = (slice_get G n ≡ Some (typ_at n)) × AreKnown G ns

  -- %ns. t
  abbrev pub tower : List ℕ → Tm → Tm
  tower [] t = t
  tower (n ∷ ns) t = Abs (name_at n) (typ_at n) (over n 0 (tower ns t))

  -- the same, eta short
  abbrev pub eta_tower : List ℕ → Tm → Tm
  eta_tower [] t = t
  eta_tower (n ∷ ns) t = eta (name_at n) (typ_at n) (over n 0 (eta_tower ns t))

  pub tower_typed : {G : List Ty} (ns : List ℕ) {t : Tm} {T : Ty} → AreKnown G ns → Typed G t T → Typed G (tower ns t) (arrow ns T)
  tower_typed [] k d = d
  tower_typed (n ∷ ns) k d = TAbs (over_typed n k.0 (tower_typed ns k.1 d))

  pub tower_conv : {G : List Ty} (ns : List ℕ) {t u : Tm} {T : Ty} → AreKnown G ns → Conv G T t u → Conv G (arrow ns T) (tower ns t) (tower ns u)
  tower_conv [] k c = c
  tower_conv (n ∷ ns) k c = CAbs (over_conv n k.0 (tower_conv ns k.1 c))

  pub eta_tower_conv : {G : List Ty} (ns : List ℕ) {t : Tm} {T : Ty} → AreKnown G ns → Typed G t T → Conv G (arrow ns T) (tower ns t) (eta_tower ns t)
  eta_tower_conv [] k d = CRefl d
  eta_tower_conv {G} (n ∷ ns) {t} {T} k d =
      let c = over_conv n k.0 (eta_tower_conv ns k.1 d) in
      CTrans (CAbs c) (eta_conv G (name_at n) (typ_at n) (arrow ns T) (over n 0 (eta_tower ns t)) (right_typed c))

  pub eta_tower_normal : (ns : List ℕ) (t : Tm) → IsNormal t → IsNormal (eta_tower ns t)
  eta_tower_normal [] t h = h
  eta_tower_normal (n ∷ ns) t h = eta_normal (name_at n) (typ_at n) (over n 0 (eta_tower ns t)) (over_normal n 0 (eta_tower ns t) (eta_tower_normal ns t h))

  pub on_bounds_typed : {G : List Ty} (ns : List ℕ) {f : Tm} {T : Ty} → AreKnown G ns → Typed G f (arrow ns T) → Typed G (on_bounds f ns) T
  on_bounds_typed [] k d = d
  on_bounds_typed (n ∷ ns) k d = on_bounds_typed ns k.1 (TApp d (TBound k.0))

  pub on_bounds_conv : {G : List Ty} (ns : List ℕ) {f g : Tm} {T : Ty} → AreKnown G ns → Conv G (arrow ns T) f g → Conv G T (on_bounds f ns) (on_bounds g ns)
  on_bounds_conv [] k c = c
  on_bounds_conv (n ∷ ns) k c = on_bounds_conv ns k.1 (CApp c (CRefl (TBound k.0)))

  -- abstracting and applying: `(%ns. t) ns` is t
  pub tower_applied : {G : List Ty} (ns : List ℕ) {t : Tm} {T : Ty} → AreKnown G ns → Typed G t T → Conv G T (on_bounds (tower ns t) ns) t
  tower_applied [] k d = CRefl d
  tower_applied (n ∷ ns) k d = CTrans (on_bounds_conv ns k.1 (over_applied (name_at n) n k.0 (tower_typed ns k.1 d))) (tower_applied ns k.1 d)

  pub eta_tower_applied : {G : List Ty} (ns : List ℕ) {t : Tm} {T : Ty} → AreKnown G ns → Typed G t T → Conv G T (on_bounds (eta_tower ns t) ns) t
  eta_tower_applied ns k d = CTrans (on_bounds_conv ns k (CSym (eta_tower_conv ns k d))) (tower_applied ns k d)

  -- applying and abstracting: `%ns. v ns`, with distinct ns that are not in v, is v
  pub tower_application : {G : List Ty} (ns : List ℕ) {v : Tm} (T : Ty) → AreKnown G ns → AreDistinct ns → AreMissing ns v → Typed G v (arrow ns T) → Conv G (arrow ns T) (tower ns (on_bounds v ns)) v
  tower_application [] T k a m d = CRefl d
  tower_application (n ∷ ns) {v} T k a m d =
      let c = tower_application ns T k.1 a.1 (missing_more n v ns a.0 m.1) (TApp d (TBound k.0)) in
      CTrans (CAbs (over_conv n k.0 c)) (over_application (name_at n) n m.0 d)

  -- a term that gives t at distinct variables, and has none of them itself, is `%ns. t`
  pub tower_only : {G : List Ty} (ns : List ℕ) {v t : Tm} (T : Ty) → AreKnown G ns → AreDistinct ns → AreMissing ns v → Typed G v (arrow ns T) → Conv G T (on_bounds v ns) t → Conv G (arrow ns T) v (tower ns t)
  tower_only ns T k a m d c = CTrans (CSym (tower_application ns T k a m d)) (tower_conv ns k c)

  pub eta_tower_only : {G : List Ty} (ns : List ℕ) {v t : Tm} (T : Ty) → AreKnown G ns → AreDistinct ns → AreMissing ns v → Typed G v (arrow ns T) → Conv G T (on_bounds v ns) t → Conv G (arrow ns T) v (eta_tower ns t)
  eta_tower_only ns T k a m d c = CTrans (tower_only ns T k a m d c) (eta_tower_conv ns k (right_typed c))

  -- ---- what is loose in `%ns. t`
  pub other_misses : (n : ℕ) (ns : List ℕ) (t : Tm) (j : ℕ) → loose j (tower ns t) ≡ false → loose (j + 1) (over n 0 (tower ns t)) ≡ false
  other_misses n ns t j h =
      let e : j + 1 ≡ j + 0 + 1 = omega arith in
      let f : j + 0 ≡ j = omega arith in
      ap (λ i. loose i (over n 0 (tower ns t))) e ∙ over_other n j 0 (tower ns t) (ap (λ i. loose i (tower ns t)) f ∙ h)

  pub tower_misses : (ns : List ℕ) (t : Tm) (j : ℕ) → Among j ns ⊎ (loose j t ≡ false) → loose j (tower ns t) ≡ false
  tower_misses [] t j (inl h) = absurd h
  tower_misses [] t j (inr h) = h
  tower_misses (n ∷ ns) t j (inl (inl e)) =
      let f : j + 1 ≡ n + 0 + 1 = omega arith in
      ap (λ i. loose i (over n 0 (tower ns t))) f ∙ over_own n 0 (tower ns t)
  tower_misses (n ∷ ns) t j (inl (inr h)) = other_misses n ns t j (tower_misses ns t j (inl h))
  tower_misses (n ∷ ns) t j (inr h) = other_misses n ns t j (tower_misses ns t j (inr h))

  -- where its own variables are all that is loose in t, `%ns. t` is typed under no binders
  pub tower_closed : {G : List Ty} (ns : List ℕ) {t : Tm} {T : Ty} → AreKnown G ns → Typed G t T → ((j : ℕ) → Among j ns ⊎ (loose j t ≡ false)) → Typed [] (tower ns t) (arrow ns T)
  tower_closed ns {t} k d m = closed_has_type (tower_typed ns k d) (λ j. tower_misses ns t j (m j))

  pub eta_tower_closed : {G : List Ty} (ns : List ℕ) {t : Tm} {T : Ty} → AreKnown G ns → Typed G t T → IsNormal t → ((j : ℕ) → Among j ns ⊎ (loose j t ≡ false)) → Typed [] (eta_tower ns t) (arrow ns T)
  eta_tower_closed ns {t} k d h m =
      let c = eta_tower_conv ns k d in
      closed_has_type (right_typed c) (λ j. conv_misses c (eta_tower_normal ns t h) j (tower_misses ns t j (m j)))

  -- ---- all variables at once
  -- abstractions over b, which has their variables
  abbrev pub plain : List ℕ → Tm → Tm
  plain [] b = b
  plain (n ∷ ns) b = Abs (name_at n) (typ_at n) (plain ns b)

  abbrev pub eta_plain : List ℕ → Tm → Tm
  eta_plain [] b = b
  eta_plain (n ∷ ns) b = eta (name_at n) (typ_at n) (eta_plain ns b)

  pub eta_plain_conv : (ns : List ℕ) (b : Tm) {G : List Ty} {U : Ty} → Typed G (plain ns b) U → Conv G U (plain ns b) (eta_plain ns b)
  eta_plain_conv [] b d = CRefl d
  eta_plain_conv (n ∷ ns) b {G} {U} d =
      let p = abs_typed d in
      let c = eta_plain_conv ns b p.2 in
      subst (λ V. Conv G V (plain (n ∷ ns) b) (eta_plain (n ∷ ns) b)) (sym p.1) (CTrans (CAbs c) (eta_conv G (name_at n) (typ_at n) p.0 (eta_plain ns b) (right_typed c)))

  pub over_plain : (n k : ℕ) (ns : List ℕ) (b : Tm) → over n k (plain ns b) ≡ plain ns (over n (k + length ns) b)
  over_plain n k [] b = let e : k ≡ k + 0 = omega arith in ap (λ j. over n j b) e
  over_plain n k (m ∷ ns) b =
      let e : k + 1 + length ns ≡ k + suc (length ns) = omega arith in
      ap (Abs (name_at m) (typ_at m)) (over_plain n (k + 1) ns b ∙ ap (λ j. plain ns (over n j b)) e)

  pub tower_plain : (ns : List ℕ) (t : Tm) → tower ns t ≡ plain ns (chain ns 0 t)
  tower_plain [] t = refl
  tower_plain (n ∷ ns) t =
      let e : 0 + length ns ≡ length ns + 0 = omega arith in
      ap (Abs (name_at n) (typ_at n)) (ap (over n 0) (tower_plain ns t) ∙ over_plain n 0 ns (chain ns 0 t) ∙ ap (λ j. plain ns (over n j (chain ns 0 t))) e)

  pub tower_moved : (ns : List ℕ) (t : Tm) → AreDistinct ns → ((j : ℕ) → Among j ns ⊎ (loose j t ≡ false)) → tower ns t ≡ plain ns (moved ns 0 t)
  tower_moved ns t d m = tower_plain ns t ∙ ap (plain ns) (chain_moved ns d 0 t (λ j. elim (m j) [ inl h ↦ inl h | inr h ↦ inr (at_zero j h) ]))
    where
      at_zero : (j : ℕ) → loose j t ≡ false → loose (j + 0) t ≡ false
      at_zero j h = let e : j + 0 ≡ j = omega arith in ap (λ i. loose i t) e ∙ h

  pub eta_moved_conv : {G : List Ty} (ns : List ℕ) {t : Tm} {T : Ty} → AreKnown G ns → AreDistinct ns → ((j : ℕ) → Among j ns ⊎ (loose j t ≡ false)) → Typed G t T → Conv G (arrow ns T) (tower ns t) (eta_plain ns (moved ns 0 t))
  eta_moved_conv {G} ns {t} {T} k d m e =
      let q = tower_moved ns t d m in
      subst (λ u. Conv G (arrow ns T) u (eta_plain ns (moved ns 0 t))) (sym q) (eta_plain_conv ns (moved ns 0 t) (subst (λ u. Typed G u (arrow ns T)) q (tower_typed ns k e)))

-- ---- instances
abbrev pub inst_typs : List TypeEntry → (ℕ → Ty) → ℕ → Ty
inst_typs es Y n = inst_ty es (Y n)

pub inst_arrow : (es : List TypeEntry) (N : ℕ → List ℕ) (Y : ℕ → Ty) (ns : List ℕ) (T : Ty) → inst_ty es (arrow N Y ns T) ≡ arrow N (inst_typs es Y) ns (inst_ty es T)
inst_arrow es N Y [] T = refl
inst_arrow es N Y (n ∷ ns) T = ap (function_of (inst_ty es (Y n))) (inst_arrow es N Y ns T)

pub inst_on_bounds : (es : List TypeEntry) (fs : List TermEntry) (f : Tm) (ns : List ℕ) → inst_tm es fs (on_bounds f ns) ≡ on_bounds (inst_tm es fs f) ns
inst_on_bounds es fs f [] = refl
inst_on_bounds es fs f (n ∷ ns) = inst_on_bounds es fs (App f (Bound n)) ns

pub inst_tower : (es : List TypeEntry) (fs : List TermEntry) → IsKept es fs → (N : ℕ → List ℕ) (Y : ℕ → Ty) (ns : List ℕ) (t : Tm) → inst_tm es fs (tower N Y ns t) ≡ tower N (inst_typs es Y) ns (inst_tm es fs t)
inst_tower es fs k N Y [] t = refl
inst_tower es fs k N Y (n ∷ ns) t = ap (Abs (N n) (inst_ty es (Y n))) (inst_over es fs k n 0 (tower N Y ns t) ∙ ap (over n 0) (inst_tower es fs k N Y ns t))
