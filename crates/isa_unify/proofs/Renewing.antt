-- The steps that give an unknown a new unknown over fewer variables.
use Rattle.std.proofs.Common.{◌≡◌, ◌⊎◌, inl, inr, ℕ, suc, ◌+◌, ◌<◌, ◌≤◌, List, [], ◌∷◌, map, length, Bool, true, false, cond, ◌&&◌, ◌||◌, nat_eq, refl, sym, ap, ◌∙◌, subst, arith}
use Rattle.std.specs.Cmp.Lexicographic.{bytes_decides}
use Rattle.std.proofs.lemmas.Bool.Decides.{nat_tests}
use Rattle.isa_terms.specs.Types.{Ty}
use Rattle.isa_terms.specs.Terms.{Tm, Unknown, Bound, App}
use Rattle.isa_terms.specs.Equal.{name_eq, ty_eq}
use Rattle.isa_terms.specs.Norm.{loose, norm}
use Rattle.isa_terms.specs.Instance.{inst_ty, inst_tm}
use Rattle.isa_terms.specs.declared.inst.TypeEntry.{TypeEntry}
use Rattle.isa_terms.specs.declared.inst.TermEntry.{TermEntry}
use Rattle.isa_terms.proofs.Equal.{ty_decides}
use Rattle.isa_terms.specs.Typed.{Typed, TUnknown}
use Rattle.isa_terms.specs.Conversion.{Conv, CSym, CTrans}
use Rattle.isa_terms.proofs.Conv.{left_typed}
use Rattle.isa_terms.proofs.Heads.{one_type}
use Rattle.isa_terms.proofs.Renames.{rename}
use Rattle.isa_terms.proofs.Abstracting as abstracting
use Rattle.isa_terms.proofs.Abstracting.{AreDistinct, Among, AreKnown, arrow, tower, inst_typs, inst_arrow, on_bounds_typed}
use Rattle.isa_terms.proofs.Pruning as pruning
use Rattle.isa_terms.proofs.Pruning.{IsWithin, known_at, known_all, among_or_not, on_bounds_misses, applied_within, closed_only, Factors, factors, PairTypes, taking, taking_agreeing, taking_conv, rename_on_bounds, agreeing_within, agreeing_front}
use Rattle.isa_terms.proofs.Valuations.{Values, val, AreFit, val_typed, val_conv, val_tower, val_on_bounds}
use Rattle.isa_unify.specs.declared.equation.Variable.{Variable}
use Rattle.isa_unify.specs.declared.equation.Equation.{Equation}
use Rattle.isa_unify.specs.declared.progress.State.{State}
use Rattle.isa_unify.specs.Unification.{types_in, abstracted, arrows, range_behind, over, filled_state, with_first, after_new, agreeing}
use Rattle.isa_unify.proofs.Unknowns.{Key, key, key_eq, key_eq-true, stands, both_true, or_right}
use Rattle.isa_unify.proofs.Measure.{occurs}
use Rattle.isa_unify.proofs.Assigned.{stands-abstracted}
use Rattle.isa_unify.proofs.Meaning.{Holds, EachHolds}
use Rattle.isa_unify.proofs.Changing.{Sig, KnownKey, value, filled_back, Ready}
use Rattle.isa_unify.proofs.Outcomes.{Outcome, Assignment, extended_holds, assigned_outcome}
use Rattle.isa_unify.proofs.Deciding.{unknown}
use Rattle.isa_unify.proofs.AbstractedTerms.{names, typs, on_bounds_same, arrows_same, bounds_known, unknown_type, range_of_arrow, Abstracted, abstracts, abstracted_applied, hit, find_hit, hit_kept, arrows_pair}
use Rattle.isa_unify.proofs.Solving.{conv_closed, known_inst, hit_extension, front_holds, inst_on_bounds_nothing}

-- ---- a new unknown
abbrev pub with_sig : List ℕ → ℕ → Ty → Sig → Sig
with_sig x n T sig y j = cond (name_eq y x && nat_eq j n) T (sig y j)

abbrev pub with_value : List ℕ → ℕ → Ty → Tm → Values → Values
with_value x n T h v y j U = cond (name_eq y x && (nat_eq j n && ty_eq U T)) h (v y j U)

name_self : (x : List ℕ) → name_eq x x ≡ true
name_self x = (bytes_decides x x).1 refl

number_self : (n : ℕ) → nat_eq n n ≡ true
number_self n = grind (arith, nat_tests)

pub sig_at : (x : List ℕ) (n : ℕ) (T : Ty) (sig : Sig) → with_sig x n T sig x n ≡ T
sig_at x n T sig = λ i. cond (name_self x i && number_self n i) T (sig x n)

and_false : (a b : Bool) → b ≡ false → (a && b) ≡ false
and_false true b e = e
and_false false b e = refl

below_other : (j n : ℕ) → j < n → nat_eq j n ≡ false
below_other j n h = grind (arith, nat_tests)

pub sig_below : (x : List ℕ) (n : ℕ) (T : Ty) (sig : Sig) (y : List ℕ) (j : ℕ) → j < n → with_sig x n T sig y j ≡ sig y j
sig_below x n T sig y j h = ap (λ b. cond b T (sig y j)) (and_false (name_eq y x) (nat_eq j n) (below_other j n h))

pub value_at : (x : List ℕ) (n : ℕ) (T : Ty) (h : Tm) (v : Values) → with_value x n T h v x n T ≡ h
value_at x n T h v =
    let t : ty_eq T T ≡ true = (ty_decides T T).1 refl in
    λ i. cond (name_self x i && (number_self n i && t i)) h (v x n T)

pub value_below : (x : List ℕ) (n : ℕ) (T : Ty) (h : Tm) (v : Values) (k : Key) → k.number < n → value (with_value x n T h v) k ≡ value v k
value_below x n T h v k l = ap (λ b. cond b h (value v k)) (and_false (name_eq k.name x) (nat_eq k.number n && ty_eq k.typ T) (ap (λ b. b && ty_eq k.typ T) (below_other k.number n l)))

pub value_fit : (r : List TypeEntry) (x : List ℕ) (n : ℕ) (T : Ty) (h : Tm) (v : Values) → AreFit r v → Typed [] h (inst_ty r T) → AreFit r (with_value x n T h v)
value_fit r x n T h v f d y j U = go (name_eq y x && (nat_eq j n && ty_eq U T)) refl
  where
    go : (b : Bool) → (name_eq y x && (nat_eq j n && ty_eq U T)) ≡ b → Typed [] (cond b h (v y j U)) (inst_ty r U)
    go true e =
        let p = both_true (name_eq y x) (nat_eq j n && ty_eq U T) e in
        let q = both_true (nat_eq j n) (ty_eq U T) p.1 in
        subst (λ V. Typed [] h (inst_ty r V)) (sym ((ty_decides U T).0 q.1)) d
    go false e = f y j U

-- what was known is known, and the new unknown is
pub more_known : (x : List ℕ) (n : ℕ) (T : Ty) (sig : Sig) (k : Key) → KnownKey sig n k → KnownKey (with_sig x n T sig) (n + 1) k
more_known x n T sig k h = (h.0 ∙ sym (sig_below x n T sig k.name k.number h.1), (let l = h.1 in omega (arith, l)))

pub new_known : (x : List ℕ) (n : ℕ) (T : Ty) (sig : Sig) → KnownKey (with_sig x n T sig) (n + 1) (key x n T)
new_known x n T sig = (sym (sig_at x n T sig), omega arith)

-- ---- an unknown on variables gets a new one over some of them
-- the place, in any binders
pub record Place (bs : List Variable) (u : Key) (ys kept : List ℕ) : Type 0 where
  pub typ : Ty
  pub typed : Typed (types_in bs) (abstracting.on_bounds (unknown u) ys) typ
  pub distinct : AreDistinct ys
  pub kept_distinct : AreDistinct kept
  pub kept_front : (j : ℕ) → Among j kept → Among j ys

-- the term over the new unknown, at variables zs (those of the place, or others)
module _ (bs : List Variable) (x : List ℕ) (n : ℕ) (kept : List ℕ) (V : Ty) where
  abbrev pub New : Key
  New = key x n (arrows bs kept V)

  abbrev pub Applied : Tm
  Applied = abstracting.on_bounds (unknown New) kept

  pub new_typed : Typed (types_in bs) (unknown New) (arrow (names bs) (typs bs) kept V)
  new_typed = subst (λ T. Typed (types_in bs) (unknown New) T) (arrows_same bs kept V) TUnknown

  pub applied_typed : AreKnown (names bs) (typs bs) (types_in bs) kept → Typed (types_in bs) Applied V
  applied_typed k = on_bounds_typed (names bs) (typs bs) kept k new_typed

  pub applied_only : (zs : List ℕ) → ((j : ℕ) → Among j kept → Among j zs) → IsWithin zs Applied
  applied_only zs f j = go (among_or_not j kept)
    where
      go : Among j kept ⊎ (Among j kept → ⊥) → Among j zs ⊎ (loose j Applied ≡ false)
      go (inl h) = inl (f j h)
      go (inr h) = inr (on_bounds_misses (unknown New) kept j refl h)

module _ (bs : List Variable) (u : Key) (ys kept : List ℕ) (p : Place bs u ys kept) (n : ℕ) where
  abbrev N : ℕ → List ℕ
  N = names bs

  abbrev Y : ℕ → Ty
  Y = typs bs

  pub places : AreKnown (names bs) (typs bs) (types_in bs) ys × Typed (types_in bs) (unknown u) (arrow (names bs) (typs bs) ys p.typ)
  places = bounds_known bs (unknown u) ys p.typed

  pub kept_known : AreKnown (names bs) (typs bs) (types_in bs) kept
  kept_known = known_all N Y (types_in bs) kept (λ j h. known_at N Y (types_in bs) ys places.0 j (p.kept_front j h))

  pub typ_is : u.typ ≡ arrow (names bs) (typs bs) ys p.typ
  typ_is = unknown_type places.1

  abbrev pub Fresh : Key
  Fresh = New bs u.name n kept p.typ

  abbrev pub Body : Tm
  Body = Applied bs u.name n kept p.typ

  pub over_is : over bs u.name n kept (range_behind ys u.typ) ≡ Body
  over_is =
      let q : range_behind ys u.typ ≡ p.typ = ap (range_behind ys) typ_is ∙ range_of_arrow N Y ys p.typ in
      on_bounds_same (Unknown u.name n (arrows bs kept (range_behind ys u.typ))) kept ∙ ap (λ V. abstracting.on_bounds (Unknown u.name n (arrows bs kept V)) kept) q

  abbrev pub Renewed : Tm
  Renewed = abstracted bs ys Body

  pub renewed_made : Abstracted bs ys Body p.typ
  renewed_made = abstracts bs ys Body p.typ places.0 p.distinct (applied_only bs u.name n kept p.typ ys p.kept_front) (applied_typed bs u.name n kept p.typ kept_known)

  pub renewed_typed : Typed [] Renewed u.typ
  renewed_typed = subst (λ T. Typed [] Renewed T) (sym typ_is) renewed_made.closed

  -- where the unknown's value depends on the kept variables alone, it goes through a value of the new unknown
  module _ (r : List TypeEntry) (v : Values) (f : AreFit r v) where
    abbrev G : List Ty
    G = map (inst_ty r) (types_in bs)

    pub value_typed : Typed [] (value v u) (arrow N (inst_typs r Y) ys (inst_ty r p.typ))
    value_typed = subst (λ T. Typed [] (value v u) T) (ap (inst_ty r) typ_is ∙ inst_arrow r N Y ys p.typ) (f u.name u.number u.typ)

    pub through : IsWithin kept (norm (abstracting.on_bounds (value v u) ys)) → Factors N (inst_typs r Y) G ys kept (value v u) (inst_ty r p.typ)
    through w = factors N (inst_typs r Y) ys kept (inst_ty r p.typ) (known_inst r N Y (types_in bs) ys places.0) p.distinct (known_inst r N Y (types_in bs) kept kept_known) value_typed w

    module _ (w : IsWithin kept (norm (abstracting.on_bounds (value v u) ys))) where
      abbrev pub Plus : Values
      Plus = with_value u.name n Fresh.typ (through w).through v

      pub through_typed : Typed [] (through w).through (inst_ty r Fresh.typ)
      through_typed = subst (λ T. Typed [] (through w).through T) (sym (ap (inst_ty r) (arrows_same bs kept p.typ) ∙ inst_arrow r N Y kept p.typ)) (through w).closed

      pub plus_fit : AreFit r Plus
      plus_fit = value_fit r u.name n Fresh.typ (through w).through v f through_typed

      pub body_value : val r Plus Body ≡ abstracting.on_bounds (through w).through kept
      body_value = val_on_bounds r Plus (unknown Fresh) kept ∙ ap (λ a. abstracting.on_bounds a kept) (value_at u.name n Fresh.typ (through w).through v)

      -- a term abstracted over zs from the body has the tower's value
      pub tower_value : (zs : List ℕ) (T : Ty) → Abstracted bs zs Body T → Conv G (arrow N (inst_typs r Y) zs (inst_ty r T)) (tower N (inst_typs r Y) zs (abstracting.on_bounds (through w).through kept)) (val r Plus (abstracted bs zs Body))
      tower_value zs T a =
          let A = arrow N Y zs T in
          let c : Conv G (inst_ty r A) (val r Plus (tower N Y zs Body)) (val r Plus (abstracted bs zs Body)) = val_conv r Plus plus_fit a.is in
          let e : val r Plus (tower N Y zs Body) ≡ tower N (inst_typs r Y) zs (abstracting.on_bounds (through w).through kept) = val_tower r Plus plus_fit N Y zs Body ∙ ap (tower N (inst_typs r Y) zs) body_value in
          subst (λ U. Conv G U (tower N (inst_typs r Y) zs (abstracting.on_bounds (through w).through kept)) (val r Plus (abstracted bs zs Body))) (inst_arrow r N Y zs T) (subst (λ t. Conv G (inst_ty r A) t (val r Plus (abstracted bs zs Body))) e c)

      pub renewed_value : Conv [] (inst_ty r u.typ) (value v u) (val r Plus Renewed)
      renewed_value = conv_closed (f u.name u.number u.typ) (val_typed r Plus plus_fit renewed_typed) (CTrans (through w).is (tower_value ys p.typ renewed_made))

pub stands_from : (k : Key) (h : Tm) (ns : List ℕ) → stands k (abstracting.on_bounds h ns) ≡ true → stands k h ≡ true
stands_from k h [] s = s
stands_from k h (n ∷ ns) s = only (stands k h) (stands_from k (App h (Bound n)) ns s)
  where
    only : (b : Bool) → (b || false) ≡ true → b ≡ true
    only true e = refl
    only false e = e

-- the unknown gets the new one
pub renewing_assignment : (sig : Sig) (st : State) (bs : List Variable) (u : Key) (ys kept : List ℕ) (p : Place bs u ys kept) (new : State)
    → new.next ≡ st.next + 1
    → ((r : List TypeEntry) (v : Values) → AreFit r v → EachHolds r v st.equations → IsWithin kept (norm (abstracting.on_bounds (value v u) ys)))
    → Assignment sig st (with_sig u.name st.next (Fresh bs u ys kept p st.next).typ sig) new (hit u (Renewed bs u ys kept p st.next))
renewing_assignment sig st bs u ys kept p new e within =
    let n = st.next in
    let A = Renewed bs u ys kept p n in
    let F = Fresh bs u ys kept p n in
    let sig' = with_sig u.name n F.typ sig in
    record {
      kept = hit_kept u A (renewed_typed bs u ys kept p n);
      more = λ k h. subst (λ m. KnownKey sig' m k) (sym e) (more_known u.name n F.typ sig k h);
      known = λ k h. subst (λ m. KnownKey sig' m k) (sym e) (from k (stands_from k (unknown F) kept (stands-abstracted k bs ys (Body bs u ys kept p n) (only (stands k A) h))));
      extend = λ r v f h.
          let w = within r v f h in
          let P = Plus bs u ys kept p n r v f w in
          hit_extension sig n u A r v P f (plus_fit bs u ys kept p n r v f w) (λ k g. value_below u.name n F.typ (through bs u ys kept p n r v f w).through v k g.1) (renewed_value bs u ys kept p n r v f w);
    }
  where
    only : (b : Bool) → (b || false) ≡ true → b ≡ true
    only true e = refl
    only false e = e

    from : (k : Key) → key_eq k (Fresh bs u ys kept p st.next) ≡ true → KnownKey (with_sig u.name st.next (Fresh bs u ys kept p st.next).typ sig) (st.next + 1) k
    from k h = subst (λ l. KnownKey (with_sig u.name st.next (Fresh bs u ys kept p st.next).typ sig) (st.next + 1) l) (sym (key_eq-true k (Fresh bs u ys kept p st.next) h)) (new_known u.name st.next (Fresh bs u ys kept p st.next).typ sig)

-- ---- an unknown of the term loses variables, and the equation stays
pub pruning_outcome : (sig : Sig) (st : State) → Ready sig st → (bs : List Variable) (u : Key) (ys kept : List ℕ) (p : Place bs u ys kept)
    → ((r : List TypeEntry) (v : Values) → AreFit r v → EachHolds r v st.equations → IsWithin kept (norm (abstracting.on_bounds (value v u) ys)))
    → (ts : List TypeEntry) (fs : List TermEntry)
    → Outcome (with_sig u.name st.next (Fresh bs u ys kept p st.next).typ sig) (filled_state (hit u (Renewed bs u ys kept p st.next)) (after_new st)) ts fs
    → Outcome sig st ts fs
pruning_outcome sig st ready bs u ys kept p within ts fs o =
    let s = hit u (Renewed bs u ys kept p st.next) in
    let sig' = with_sig u.name st.next (Fresh bs u ys kept p st.next).typ sig in
    let new = filled_state s (after_new st) in
    let a = renewing_assignment sig st bs u ys kept p new refl within in
    assigned_outcome sig st ready sig' new s a ts fs refl refl o
    (λ r v f h x. extended_holds sig st ready sig' new s a r v f x st.equations ready.known ready.typed h)
    (filled_back s a.kept o.by_types o.by o.fit st.equations ready.typed o.solves)

-- ---- `?F xs` against `?F ys`
pub agreeing_same : (xs ys : List ℕ) → agreeing xs ys ≡ pruning.agreeing xs ys
agreeing_same [] [] = refl
agreeing_same [] (y ∷ ys) = refl
agreeing_same (x ∷ xs) [] = refl
agreeing_same (x ∷ xs) (y ∷ ys) = ap (λ zs. cond (nat_eq x y) (x ∷ zs) zs) (agreeing_same xs ys)

agreeing_le : (xs ys : List ℕ) → length (agreeing xs ys) ≤ length xs
agreeing_le [] [] = omega arith
agreeing_le [] (y ∷ ys) = omega arith
agreeing_le (x ∷ xs) [] = omega arith
agreeing_le (x ∷ xs) (y ∷ ys) = go (nat_eq x y) (agreeing_le xs ys)
  where
    go : (b : Bool) → length (agreeing xs ys) ≤ length xs → length (cond b (x ∷ agreeing xs ys) (agreeing xs ys)) ≤ suc (length xs)
    go true h = omega arith
    go false h = omega arith

-- where all agree the lists are the same
pub agreeing_all : (Z : ℕ → Ty) (xs ys : List ℕ) → PairTypes Z xs ys → length (agreeing xs ys) ≡ length xs → xs ≡ ys
agreeing_all Z [] [] p e = refl
agreeing_all Z [] (y ∷ ys) p e = absurd p
agreeing_all Z (x ∷ xs) [] p e = absurd p
agreeing_all Z (x ∷ xs) (y ∷ ys) p e = go (nat_eq x y) refl e (agreeing_le xs ys) (λ h. agreeing_all Z xs ys p.1 h)
  where
    go : (b : Bool) → nat_eq x y ≡ b → length (cond b (x ∷ agreeing xs ys) (agreeing xs ys)) ≡ suc (length xs) → length (agreeing xs ys) ≤ length xs → (length (agreeing xs ys) ≡ length xs → xs ≡ ys) → x ∷ xs ≡ y ∷ ys
    go true q h le r = let s : x ≡ y = grind (arith, nat_tests) in let t = r (omega arith) in λ i. s i ∷ t i
    go false q h le r = absurd (omega arith)

agreeing_absent : (n : ℕ) (xs ys : List ℕ) → abstracting.Absent n xs → abstracting.Absent n (agreeing xs ys)
agreeing_absent n [] [] h = tt
agreeing_absent n [] (y ∷ ys) h = tt
agreeing_absent n (x ∷ xs) [] h = tt
agreeing_absent n (x ∷ xs) (y ∷ ys) h = go (nat_eq x y) (agreeing_absent n xs ys h.1)
  where
    go : (b : Bool) → abstracting.Absent n (agreeing xs ys) → abstracting.Absent n (cond b (x ∷ agreeing xs ys) (agreeing xs ys))
    go true k = (h.0, k)
    go false k = k

pub agreeing_distinct : (xs ys : List ℕ) → AreDistinct xs → AreDistinct (agreeing xs ys)
agreeing_distinct [] [] d = tt
agreeing_distinct [] (y ∷ ys) d = tt
agreeing_distinct (x ∷ xs) [] d = tt
agreeing_distinct (x ∷ xs) (y ∷ ys) d = go (nat_eq x y) (agreeing_distinct xs ys d.1)
  where
    go : (b : Bool) → AreDistinct (agreeing xs ys) → AreDistinct (cond b (x ∷ agreeing xs ys) (agreeing xs ys))
    go true k = (agreeing_absent x xs ys d.0, k)
    go false k = k

-- both sides are the unknown on variables
pub record Twice (sig : Sig) (next : ℕ) (e : Equation) (u : Key) (xs ys : List ℕ) : Type 0 where
  pub typ : Ty
  pub left_is : e.left ≡ abstracting.on_bounds (unknown u) xs
  pub right_is : e.right ≡ abstracting.on_bounds (unknown u) ys
  pub left : Typed (types_in e.binders) (abstracting.on_bounds (unknown u) xs) typ
  pub right : Typed (types_in e.binders) (abstracting.on_bounds (unknown u) ys) typ
  pub left_distinct : AreDistinct xs
  pub right_distinct : AreDistinct ys

module _ (sig : Sig) (st : State) (e : Equation) (ready : Ready sig (with_first e st)) (u : Key) (xs ys : List ℕ) (t : Twice sig st.next e u xs ys) where
  abbrev M : ℕ → List ℕ
  M = names e.binders

  abbrev Z : ℕ → Ty
  Z = typs e.binders

  left_places : AreKnown (names e.binders) (typs e.binders) (types_in e.binders) xs × Typed (types_in e.binders) (unknown u) (arrow (names e.binders) (typs e.binders) xs t.typ)
  left_places = bounds_known e.binders (unknown u) xs t.left

  right_places : AreKnown (names e.binders) (typs e.binders) (types_in e.binders) ys × Typed (types_in e.binders) (unknown u) (arrow (names e.binders) (typs e.binders) ys t.typ)
  right_places = bounds_known e.binders (unknown u) ys t.right

  pub pair_types : PairTypes (typs e.binders) xs ys
  pair_types = arrows_pair M Z xs ys t.typ (sym (unknown_type left_places.1) ∙ unknown_type right_places.1)

  abbrev pub Kept : List ℕ
  Kept = agreeing xs ys

  abbrev pub same_place : Place e.binders u xs Kept
  same_place = record {
    typ = t.typ;
    typed = t.left;
    distinct = t.left_distinct;
    kept_distinct = agreeing_distinct xs ys t.left_distinct;
    kept_front = λ j h. agreeing_front xs ys j (subst (λ zs. Among j zs) (agreeing_same xs ys) h);
  }

  pair_inst : (r : List TypeEntry) (ms ns : List ℕ) → PairTypes Z ms ns → PairTypes (inst_typs r Z) ms ns
  pair_inst r [] [] p = tt
  pair_inst r (a ∷ ms) (b ∷ ns) p = (ap (inst_ty r) p.0, pair_inst r ms ns p.1)
  pair_inst r [] (b ∷ ns) p = absurd p
  pair_inst r (a ∷ ms) [] p = absurd p

  pub same_within : (r : List TypeEntry) (v : Values) → AreFit r v → Holds r v e.binders e.left e.right → IsWithin Kept (norm (abstracting.on_bounds (value v u) xs))
  same_within r v f h =
      let G = map (inst_ty r) (types_in e.binders) in
      let U = inst_ty r t.typ in
      let a : val r v e.left ≡ abstracting.on_bounds (value v u) xs = ap (val r v) t.left_is ∙ val_on_bounds r v (unknown u) xs in
      let b : val r v e.right ≡ abstracting.on_bounds (value v u) ys = ap (val r v) t.right_is ∙ val_on_bounds r v (unknown u) ys in
      let d : Typed G (val r v e.left) U = subst (λ w. Typed G (val r v w) U) (sym t.left_is) (val_typed r v f t.left) in
      let o : h.typ ≡ U = one_type (left_typed h.equal) d refl in
      let c0 : Conv G U (val r v e.left) (val r v e.right) = subst (λ T. Conv G T (val r v e.left) (val r v e.right)) o h.equal in
      let c : Conv G U (abstracting.on_bounds (value v u) xs) (abstracting.on_bounds (value v u) ys) = subst (λ w. Conv G U w (abstracting.on_bounds (value v u) ys)) a (subst (λ w. Conv G U (val r v e.left) w) b c0) in
      let w = agreeing_within M (inst_typs r Z) xs ys U (known_inst r M Z (types_in e.binders) xs left_places.0) (known_inst r M Z (types_in e.binders) ys right_places.0) t.left_distinct (pair_inst r xs ys pair_types) (value_typed e.binders u xs Kept same_place st.next r v f) c in
      subst (λ zs. IsWithin zs (norm (abstracting.on_bounds (value v u) xs))) (sym (agreeing_same xs ys)) w

  abbrev pub Same_term : Tm
  Same_term = Renewed e.binders u xs Kept same_place st.next

  kept_stay : (ns : List ℕ) → ((j : ℕ) → Among j ns → taking xs ys j ≡ j) → map (taking xs ys) ns ≡ ns
  kept_stay [] h = refl
  kept_stay (n ∷ ns) h = λ i. h n (inl refl) i ∷ kept_stay ns (λ j g. h j (inr g)) i

  same_put_in : Conv (types_in e.binders) t.typ (inst_tm [] (hit u Same_term) e.left) (inst_tm [] (hit u Same_term) e.right)
  same_put_in =
      let G = types_in e.binders in
      let s = hit u Same_term in
      let B = Body e.binders u xs Kept same_place st.next in
      let made = renewed_made e.binders u xs Kept same_place st.next in
      let bt = applied_typed e.binders u.name st.next Kept t.typ (kept_known e.binders u xs Kept same_place st.next) in
      let a : inst_tm [] s e.left ≡ abstracting.on_bounds Same_term xs = ap (inst_tm [] s) t.left_is ∙ inst_on_bounds_nothing s (unknown u) xs ∙ ap (λ w. abstracting.on_bounds w xs) (find_hit u Same_term) in
      let b : inst_tm [] s e.right ≡ abstracting.on_bounds Same_term ys = ap (inst_tm [] s) t.right_is ∙ inst_on_bounds_nothing s (unknown u) ys ∙ ap (λ w. abstracting.on_bounds w ys) (find_hit u Same_term) in
      let c : Conv G t.typ (abstracting.on_bounds Same_term xs) B = abstracted_applied e.binders xs B t.typ left_places.0 bt made in
      let r = taking xs ys in
      let d : Conv G t.typ (abstracting.on_bounds Same_term ys) (rename r B) = taking_conv M Z xs ys t.typ left_places.0 right_places.0 t.left_distinct pair_types (renewed_typed e.binders u xs Kept same_place st.next) c in
      let stay : rename r B ≡ B = rename_on_bounds r (unknown (Fresh e.binders u xs Kept same_place st.next)) Kept
      ∙ ap (abstracting.on_bounds (unknown (Fresh e.binders u xs Kept same_place st.next))) (kept_stay Kept (λ j g. taking_agreeing xs ys t.left_distinct j (subst (λ zs. Among j zs) (agreeing_same xs ys) g))) in
      let d' : Conv G t.typ (abstracting.on_bounds Same_term ys) B = subst (λ w. Conv G t.typ (abstracting.on_bounds Same_term ys) w) stay d in
      subst (λ w. Conv G t.typ w (inst_tm [] s e.right)) (sym a) (subst (λ w. Conv G t.typ (abstracting.on_bounds Same_term xs) w) (sym b) (CTrans c (CSym d')))

  pub same_outcome : (ts : List TypeEntry) (fs : List TermEntry)
      → Outcome (with_sig u.name st.next (Fresh e.binders u xs Kept same_place st.next).typ sig) (filled_state (hit u Same_term) (after_new st)) ts fs
      → Outcome sig (with_first e st) ts fs
  same_outcome ts fs o =
      let s = hit u Same_term in
      let sig' = with_sig u.name st.next (Fresh e.binders u xs Kept same_place st.next).typ sig in
      let whole = with_first e st in
      let new = filled_state s (after_new st) in
      let a = renewing_assignment sig whole e.binders u xs Kept same_place new refl (λ r v f h. same_within r v f h.0) in
      assigned_outcome sig whole ready sig' new s a ts fs refl refl o
      (λ r v f h x. extended_holds sig whole ready sig' new s a r v f x st.equations (λ k q. ready.known k (or_right (stands k e.left) (stands k e.right || occurs k st.equations) (or_right (stands k e.right) (occurs k st.equations) q))) ready.typed.1 h.1)
      (front_holds s o.by_types o.by o.fit e.binders e.left e.right t.typ same_put_in, filled_back s a.kept o.by_types o.by o.fit st.equations ready.typed.1 o.solves)
