-- The steps that solve an unknown: the outcome after them is that before.
use Rattle.std.proofs.Common.{◌≡◌, ℕ, List, [], ◌∷◌, map, Bool, true, false, ◌||◌, refl, sym, ap, ◌∙◌, subst}
use Rattle.isa_terms.specs.Types.{Ty}
use Rattle.isa_terms.specs.Terms.{Tm, Const, Free, Unknown, Bound, Abs, App}
use Rattle.isa_terms.specs.Normal.{IsNormal}
use Rattle.isa_terms.specs.Instance.{inst_ty, inst_tm}
use Rattle.isa_terms.specs.declared.inst.TypeEntry.{TypeEntry}
use Rattle.isa_terms.specs.declared.inst.TermEntry.{TermEntry}
use Rattle.isa_terms.specs.Typed.{Typed}
use Rattle.isa_terms.specs.Conversion.{Conv, CSym, CTrans, CRefl}
use Rattle.isa_terms.proofs.Conv.{right_typed}
use Rattle.isa_terms.proofs.FreeNames.{norm_same_conv}
use Rattle.isa_terms.proofs.Unique.{conv_norm}
use Rattle.isa_terms.proofs.Instances.{get_inst}
use Rattle.isa_terms.proofs.Heads.{one_type}
use Rattle.isa_terms.proofs.Loose.{or_false}
use Rattle.isa_unify.proofs.TypeInstances.{inst_nothing}
use Rattle.isa_terms.proofs.Abstracting as abstracting
use Rattle.isa_terms.proofs.Abstracting.{AreDistinct, Among, AreKnown, arrow, tower, inst_typs, inst_arrow, on_bounds_typed, on_bounds_conv}
use Rattle.isa_terms.proofs.Pruning.{IsWithin, closed_only}
use Rattle.isa_terms.proofs.Valuations.{Values, val, AreFit, val_typed, val_conv, val_tower, val_on_bounds}
use Rattle.isa_unify.specs.declared.equation.Variable.{Variable}
use Rattle.isa_unify.specs.declared.equation.Equation.{Equation}
use Rattle.isa_unify.specs.declared.progress.State.{State}
use Rattle.isa_unify.specs.Unification.{types_in, abstracted, filled_state, with_first}
use Rattle.isa_unify.proofs.Unknowns.{Key, key, key_eq, key_eq-true, key_eq_self, stands, or_left, or_right}
use Rattle.isa_unify.proofs.Measure.{occurs}
use Rattle.isa_unify.proofs.Assigned.{stands-abstracted}
use Rattle.isa_unify.proofs.Meaning.{Holds}
use Rattle.isa_unify.proofs.Changing.{Sig, KnownKey, value, val_under, before, filled_back, Ready}
use Rattle.isa_unify.proofs.Outcomes.{Outcome, Extension, Assignment, extended_holds, assigned_outcome}
use Rattle.isa_unify.proofs.Deciding.{unknown}
use Rattle.isa_unify.proofs.AbstractedTerms.{names, typs, bounds_known, unknown_type, Abstracted, abstracts, abstracted_applied, hit, find_hit, find_missed, find_nothing, hit_kept}

-- ---- closed terms
pub conv_closed : {G : List Ty} {T U : Ty} {t u : Tm} → Typed [] t T → Typed [] u T → Conv G U t u → Conv [] T t u
conv_closed d e c = norm_same_conv d e (conv_norm c)

pub known_inst : (r : List TypeEntry) (N : ℕ → List ℕ) (Y : ℕ → Ty) (G : List Ty) (ns : List ℕ) → AreKnown N Y G ns → AreKnown N (inst_typs r Y) (map (inst_ty r) G) ns
known_inst r N Y G [] k = tt
known_inst r N Y G (n ∷ ns) k = (get_inst r G n (Y n) k.0, known_inst r N Y G ns k.1)

-- ---- one unknown becomes a term
pub hit_agree : (sig : Sig) (next : ℕ) (u : Key) (A : Tm) (r : List TypeEntry) (v plus : Values) → AreFit r v → ((k : Key) → KnownKey sig next k → value plus k ≡ value v k) → Conv [] (inst_ty r u.typ) (value v u) (val r plus A) → (k : Key) → KnownKey sig next k → Conv [] (inst_ty r k.typ) (value v k) (val r plus (inst_tm [] (hit u A) (unknown k)))
hit_agree sig next u A r v plus f same c k h = go (key_eq k u) refl
  where
    go : (b : Bool) → key_eq k u ≡ b → Conv [] (inst_ty r k.typ) (value v k) (val r plus (inst_tm [] (hit u A) (unknown k)))
    go true e =
        let m : Conv [] (inst_ty r u.typ) (value v u) (val r plus (inst_tm [] (hit u A) (unknown u))) = subst (λ t. Conv [] (inst_ty r u.typ) (value v u) (val r plus t)) (sym (find_hit u A)) c in
        subst (λ l. Conv [] (inst_ty r l.typ) (value v l) (val r plus (inst_tm [] (hit u A) (unknown l)))) (sym (key_eq-true k u e)) m
    go false e =
        let q : inst_tm [] (hit u A) (unknown k) ≡ unknown k = find_missed u k A [] e ∙ find_nothing k in
        let d : Conv [] (inst_ty r k.typ) (value v k) (value plus k) = subst (λ t. Conv [] (inst_ty r k.typ) (value v k) t) (sym (same k h)) (CRefl (f k.name k.number k.typ)) in
        subst (λ t. Conv [] (inst_ty r k.typ) (value v k) (val r plus t)) (sym q) d

pub hit_extension : (sig : Sig) (next : ℕ) (u : Key) (A : Tm) (r : List TypeEntry) (v plus : Values) → AreFit r v → AreFit r plus → ((k : Key) → KnownKey sig next k → value plus k ≡ value v k) → Conv [] (inst_ty r u.typ) (value v u) (val r plus A) → Extension sig next (hit u A) r v
hit_extension sig next u A r v plus f g same c = record { plus = plus; fit = g; agree = hit_agree sig next u A r v plus f same c }

-- an equation that holds of the terms with what was put in held before
pub front_holds : (s : List TermEntry) (r : List TypeEntry) (w : Values) → AreFit r w → (bs : List Variable) (t u : Tm) (U : Ty) → Conv (types_in bs) U (inst_tm [] s t) (inst_tm [] s u) → Holds r (before s r w) bs t u
front_holds s r w f bs t u U c =
    let G = map (inst_ty r) (types_in bs) in
    record {
      typ = inst_ty r U;
      equal = subst (λ a. Conv G (inst_ty r U) a (val r (before s r w) u)) (val_under [] s r w t) (subst (λ b. Conv G (inst_ty r U) (val r w (inst_tm [] s t)) b) (val_under [] s r w u) (val_conv r w f c));
    }

pub inst_on_bounds_nothing : (s : List TermEntry) (h : Tm) (ns : List ℕ) → inst_tm [] s (abstracting.on_bounds h ns) ≡ abstracting.on_bounds (inst_tm [] s h) ns
inst_on_bounds_nothing s h [] = refl
inst_on_bounds_nothing s h (n ∷ ns) = inst_on_bounds_nothing s (App h (Bound n)) ns

-- ---- the first equation, as an unknown on variables against a term
pub record Front (sig : Sig) (next : ℕ) (e : Equation) (u : Key) (xs : List ℕ) (t : Tm) : Type 0 where
  pub typ : Ty
  pub place : Typed (types_in e.binders) (abstracting.on_bounds (unknown u) xs) typ
  pub other : Typed (types_in e.binders) t typ
  pub distinct : AreDistinct xs
  pub normal : IsNormal t
  pub there : (r : List TypeEntry) (v : Values) → Holds r v e.binders e.left e.right → Holds r v e.binders (abstracting.on_bounds (unknown u) xs) t
  pub back : (r : List TypeEntry) (v : Values) → Holds r v e.binders (abstracting.on_bounds (unknown u) xs) t → Holds r v e.binders e.left e.right
  pub known : KnownKey sig next u
  pub others : (k : Key) → stands k t ≡ true → KnownKey sig next k

pub stands_on_bounds : (k : Key) (h : Tm) (ns : List ℕ) → stands k h ≡ true → stands k (abstracting.on_bounds h ns) ≡ true
stands_on_bounds k h [] s = s
stands_on_bounds k h (n ∷ ns) s = stands_on_bounds k (App h (Bound n)) ns (or_left (stands k h) false s)

pub front_left : (sig : Sig) (st : State) (e : Equation) → Ready sig (with_first e st) → (u : Key) (xs : List ℕ) → e.left ≡ abstracting.on_bounds (unknown u) xs → AreDistinct xs → Front sig st.next e u xs e.right
front_left sig st e ready u xs is d =
    let s = ready.typed.0 in
    record {
      typ = s.typ;
      place = subst (λ t. Typed (types_in e.binders) t s.typ) is s.left;
      other = s.right;
      distinct = d;
      normal = ready.normal.0.1;
      there = λ r v h. subst (λ t. Holds r v e.binders t e.right) is h;
      back = λ r v h. subst (λ t. Holds r v e.binders t e.right) (sym is) h;
      known = ready.known u (or_left (stands u e.left) (stands u e.right || occurs u st.equations) (ap (stands u) is ∙ stands_on_bounds u (unknown u) xs (key_eq_self u)));
      others = λ k h. ready.known k (or_right (stands k e.left) (stands k e.right || occurs k st.equations) (or_left (stands k e.right) (occurs k st.equations) h));
    }

turn : (r : List TypeEntry) (v : Values) (bs : List Variable) (t u : Tm) → Holds r v bs t u → Holds r v bs u t
turn r v bs t u h = record { typ = h.typ; equal = CSym h.equal }

pub front_right : (sig : Sig) (st : State) (e : Equation) → Ready sig (with_first e st) → (u : Key) (xs : List ℕ) → e.right ≡ abstracting.on_bounds (unknown u) xs → AreDistinct xs → Front sig st.next e u xs e.left
front_right sig st e ready u xs is d =
    let s = ready.typed.0 in
    record {
      typ = s.typ;
      place = subst (λ t. Typed (types_in e.binders) t s.typ) is s.right;
      other = s.left;
      distinct = d;
      normal = ready.normal.0.0;
      there = λ r v h. subst (λ t. Holds r v e.binders t e.left) is (turn r v e.binders e.left e.right h);
      back = λ r v h. turn r v e.binders e.right e.left (subst (λ t. Holds r v e.binders t e.left) (sym is) h);
      known = ready.known u (or_right (stands u e.left) (stands u e.right || occurs u st.equations) (or_left (stands u e.right) (occurs u st.equations) (ap (stands u) is ∙ stands_on_bounds u (unknown u) xs (key_eq_self u))));
      others = λ k h. ready.known k (or_left (stands k e.left) (stands k e.right || occurs k st.equations) h);
    }

-- a term without the unknown stays
unassigned : (u : Key) (A : Tm) (t : Tm) → stands u t ≡ false → inst_tm [] (hit u A) t ≡ inst_tm [] [] t
unassigned u A (Const x T) h = refl
unassigned u A (Free x T) h = refl
unassigned u A (Unknown x i T) h = find_missed u (key x i T) A [] (flipped (key_eq (key x i T) u) refl)
  where
    flipped : (b : Bool) → key_eq (key x i T) u ≡ b → key_eq (key x i T) u ≡ false
    flipped true e =
        let q : key_eq u (key x i T) ≡ true = ap (key_eq u) (key_eq-true (key x i T) u e) ∙ key_eq_self u in
        absurd (cc)
    flipped false e = e
unassigned u A (Bound n) h = refl
unassigned u A (Abs x T b) h = ap (Abs x (inst_ty [] T)) (unassigned u A b h)
unassigned u A (App f a) h = let o = or_false (stands u f) (stands u a) h in λ i. App (unassigned u A f o.0 i) (unassigned u A a o.1 i)

pub inst_nothing_tm : (t : Tm) → inst_tm [] [] t ≡ t
inst_nothing_tm (Const x T) = ap (Const x) (inst_nothing T)
inst_nothing_tm (Free x T) = ap (Free x) (inst_nothing T)
inst_nothing_tm (Unknown x i T) = ap (Unknown x i) (inst_nothing T)
inst_nothing_tm (Bound n) = refl
inst_nothing_tm (Abs x T b) = λ i. Abs x (inst_nothing T i) (inst_nothing_tm b i)
inst_nothing_tm (App f a) = λ i. App (inst_nothing_tm f i) (inst_nothing_tm a i)

-- ---- `?F xs` becomes a term that has xs alone
module _ (sig : Sig) (st : State) (e : Equation) (ready : Ready sig (with_first e st)) (u : Key) (xs : List ℕ) (t : Tm) (front : Front sig st.next e u xs t) (within : IsWithin xs t) (without : stands u t ≡ false) where
  abbrev Term : Tm
  Term = abstracted e.binders xs t

  abbrev Known : Type 0
  Known = AreKnown (names e.binders) (typs e.binders) (types_in e.binders) xs

  places : AreKnown (names e.binders) (typs e.binders) (types_in e.binders) xs × Typed (types_in e.binders) (unknown u) (arrow (names e.binders) (typs e.binders) xs front.typ)
  places = bounds_known e.binders (unknown u) xs front.place

  typ_is : u.typ ≡ arrow (names e.binders) (typs e.binders) xs front.typ
  typ_is = unknown_type places.1

  made : Abstracted e.binders xs t front.typ
  made = abstracts e.binders xs t front.typ places.0 front.distinct within front.other

  term_typed : Typed [] Term u.typ
  term_typed = subst (λ T. Typed [] Term T) (sym typ_is) made.closed

  -- the unknown's term is the abstraction
  is_abstraction : (r : List TypeEntry) (v : Values) → AreFit r v → Holds r v e.binders (abstracting.on_bounds (unknown u) xs) t → Conv [] (inst_ty r u.typ) (value v u) (val r v Term)
  is_abstraction r v f h =
      let G = map (inst_ty r) (types_in e.binders) in
      let N = names e.binders in
      let Y = inst_typs r (typs e.binders) in
      let q : inst_ty r u.typ ≡ arrow N Y xs (inst_ty r front.typ) = ap (inst_ty r) typ_is ∙ inst_arrow r N (typs e.binders) xs front.typ in
      let d : Typed [] (value v u) (arrow N Y xs (inst_ty r front.typ)) = subst (λ T. Typed [] (value v u) T) q (f u.name u.number u.typ) in
      let o : h.typ ≡ inst_ty r front.typ = one_type (right_typed h.equal) (val_typed r v f front.other) refl in
      let c : Conv G (inst_ty r front.typ) (abstracting.on_bounds (value v u) xs) (val r v t) = subst (λ a. Conv G (inst_ty r front.typ) a (val r v t)) (val_on_bounds r v (unknown u) xs) (subst (λ T. Conv G T (val r v (abstracting.on_bounds (unknown u) xs)) (val r v t)) o h.equal) in
      let m : Conv G (arrow N Y xs (inst_ty r front.typ)) (value v u) (tower N Y xs (val r v t)) = closed_only N Y xs (inst_ty r front.typ) (known_inst r N (typs e.binders) (types_in e.binders) xs places.0) front.distinct d c in
      let n : Conv G (inst_ty r (arrow N (typs e.binders) xs front.typ)) (tower N Y xs (val r v t)) (val r v Term) = subst (λ a. Conv G (inst_ty r (arrow N (typs e.binders) xs front.typ)) a (val r v Term)) (val_tower r v f N (typs e.binders) xs t) (val_conv r v f made.is) in
      let n' : Conv G (arrow N Y xs (inst_ty r front.typ)) (tower N Y xs (val r v t)) (val r v Term) = subst (λ T. Conv G T (tower N Y xs (val r v t)) (val r v Term)) (inst_arrow r N (typs e.binders) xs front.typ) n in
      conv_closed (f u.name u.number u.typ) (val_typed r v f term_typed) (CTrans m n')

  pub solving_assignment : Assignment sig (with_first e st) sig (filled_state (hit u Term) st) (hit u Term)
  solving_assignment = record {
    kept = hit_kept u Term term_typed;
    more = λ k h. h;
    known = λ k h. front.others k (stands-abstracted k e.binders xs t (only (stands k Term) h));
    extend = λ r v f h. hit_extension sig st.next u Term r v v f f (λ k g. refl) (is_abstraction r v f (front.there r v h.0));
  }
    where
      only : (b : Bool) → (b || false) ≡ true → b ≡ true
      only true e = refl
      only false e = e

  -- the front equation holds of what is put in
  put_in : Conv (types_in e.binders) front.typ (inst_tm [] (hit u Term) (abstracting.on_bounds (unknown u) xs)) (inst_tm [] (hit u Term) t)
  put_in =
      let s = hit u Term in
      let left : inst_tm [] s (abstracting.on_bounds (unknown u) xs) ≡ abstracting.on_bounds Term xs = inst_on_bounds_nothing s (unknown u) xs ∙ ap (λ a. abstracting.on_bounds a xs) (find_hit u Term) in
      let right : inst_tm [] s t ≡ t = unassigned u Term t without ∙ inst_nothing_tm t in
      subst (λ a. Conv (types_in e.binders) front.typ a (inst_tm [] s t)) (sym left) (subst (λ b. Conv (types_in e.binders) front.typ (abstracting.on_bounds Term xs) b) (sym right) (abstracted_applied e.binders xs t front.typ places.0 front.other made))

  pub solving_outcome : (ts : List TypeEntry) (fs : List TermEntry) → Outcome sig (filled_state (hit u Term) st) ts fs → Outcome sig (with_first e st) ts fs
  solving_outcome ts fs o =
      let a = solving_assignment in
      let s = hit u Term in
      assigned_outcome sig (with_first e st) ready sig (filled_state s st) s a ts fs refl refl o
      (λ r v f h x. extended_holds sig (with_first e st) ready sig (filled_state s st) s a r v f x st.equations (λ k p. ready.known k (or_right (stands k e.left) (stands k e.right || occurs k st.equations) (or_right (stands k e.right) (occurs k st.equations) p))) ready.typed.1 h.1)
      (front.back o.by_types (before s o.by_types o.by) (front_holds s o.by_types o.by o.fit e.binders (abstracting.on_bounds (unknown u) xs) t front.typ put_in), filled_back s a.kept o.by_types o.by o.fit st.equations ready.typed.1 o.solves)
