-- The names that type unknowns get: each gets the one of its number, and no two get the same.
use Rattle.std.proofs.Common.{◌≡◌, ℕ, zero, suc, ◌+◌, ◌^◌, ◌<◌, ◌≤◌, arith, List, [], ◌∷◌, ◌++◌, map, drop, length, Bool, true, false, cond, ◌&&◌, ◌||◌, nat_eq, Option, Some, None, unwrap_or, refl, ap, ◌∙◌, sym, subst}
use Rattle.std.proofs.lemmas.Bool.Decides.{Decides-eqb}
use Rattle.std.proofs.lemmas.Fmt.{decimal_injective}
use Rattle.std.specs.Cmp.Lexicographic.{bytes_decides}
use Rattle.isa_terms.specs.Types.{Ty, Tys, TyCon, TyFixed, TyUnknown, NoTys, MoreTys}
use Rattle.isa_terms.specs.Equal.{name_eq, ty_eq}
use Rattle.isa_terms.specs.Generalize.{is_named}
use Rattle.isa_terms.specs.Instance.{find_type, inst_ty, inst_tys, set_type, same_type_unknown}
use Rattle.isa_terms.specs.Unknowns.{ty_unknown_places, tys_unknown_places, tys_noted}
use Rattle.isa_terms.specs.declared.inst.TypeEntry.{TypeEntry}
use Rattle.isa_terms.proofs.Equal.{ty_decides}
use Rattle.std.proofs.lemmas.List.{map-append}
use Rattle.isa_goal.specs.Names.{next_among, next_type_number, type_numbered, type_entries, set_types, ty_fixed_places, tys_fixed_places}
use Rattle.isa_goal.specs.Private.Numbers.{StayTypes, TypeNumbersFit}
use Rattle.isa_goal.proofs.Unknowns.{IsTypeUnknown, RenamesTypes, type_renamed}
use Rattle.isa_goal.proofs.Noting.{EachOf, holds, neither, Distinct, noted_all, tys_noted_is, noted_distinct, noted_each, are_noted, noted_mapped, each_join, each_both}

pub among_least : (k : ℕ) (taken : ℕ → Bool) (n : ℕ) → n ≤ next_among k taken n
among_least zero taken n = omega arith
among_least (suc k) taken n = go (taken n) (among_least k taken (n + 1))
  where
    go : (b : Bool) → n + 1 ≤ next_among k taken (n + 1) → n ≤ cond b (next_among k taken (n + 1)) n
    go true h = omega (arith, h)
    go false h = omega arith

type_least : (names : List (List ℕ)) (n : ℕ) → n ≤ next_type_number names n
unfolding next_type_number
type_least names n = among_least (length names) (λ m. is_named names (type_numbered m)) n

pub type_number_same : (m n : ℕ) → m < 2 ^ 64 → n < 2 ^ 64 → type_numbered m ≡ type_numbered n → m ≡ n
unfolding type_numbered
type_number_same m n l k e = decimal_injective m n l k (ap (drop 2) e)

-- ---- one entry
key_self : (e : TypeEntry) → (name_eq e.name e.name && nat_eq e.number e.number) ≡ true
key_self e = λ j. (bytes_decides e.name e.name).1 refl j && (Decides-eqb e.number e.number).1 refl j

set_here : (e : TypeEntry) (es : List TypeEntry) → find_type e.name e.number (set_type e es) ≡ Some e.typ
set_here e [] = ap (λ b. cond b (Some e.typ) None) (key_self e)
set_here e (d ∷ ds) = go (same_type_unknown e d) refl (set_here e ds)
  where
    go : (b : Bool) → same_type_unknown e d ≡ b → find_type e.name e.number (set_type e ds) ≡ Some e.typ → find_type e.name e.number (cond b (e ∷ ds) (d ∷ set_type e ds)) ≡ Some e.typ
    go true s r = ap (λ b. cond b (Some e.typ) (find_type e.name e.number ds)) (key_self e)
    go false s r = ap (λ b. cond b (Some d.typ) (find_type e.name e.number (set_type e ds))) s ∙ r

set_apart : (x : List ℕ) (i : ℕ) (e : TypeEntry) (es : List TypeEntry) → (name_eq x e.name && nat_eq i e.number) ≡ false → find_type x i (set_type e es) ≡ find_type x i es
set_apart x i e [] k = ap (λ b. cond b (Some e.typ) None) k
set_apart x i e (d ∷ ds) k = go (same_type_unknown e d) refl (set_apart x i e ds k)
  where
    go : (b : Bool) → same_type_unknown e d ≡ b → find_type x i (set_type e ds) ≡ find_type x i ds → find_type x i (cond b (e ∷ ds) (d ∷ set_type e ds)) ≡ cond (name_eq x d.name && nat_eq i d.number) (Some d.typ) (find_type x i ds)
    go true s r =
        let same : TyUnknown e.name e.number ≡ TyUnknown d.name d.number = (ty_decides (TyUnknown e.name e.number) (TyUnknown d.name d.number)).0 s in
        let other : ty_eq (TyUnknown x i) (TyUnknown d.name d.number) ≡ false = subst (λ T. ty_eq (TyUnknown x i) T ≡ false) same k in
        ap (λ b. cond b (Some e.typ) (find_type x i ds)) k ∙ sym (ap (λ b. cond b (Some d.typ) (find_type x i ds)) other)
    go false s r = ap (λ o. cond (name_eq x d.name && nat_eq i d.number) (Some d.typ) o) r

-- ---- the entries in their order
pub ty_yes : (S T : Ty) → IsTypeUnknown S → IsTypeUnknown T → ty_eq S T ≡ true → S ≡ T
ty_yes S T k l e = (ty_decides S T).0 e

pub ty_itself : (T : Ty) → IsTypeUnknown T → ty_eq T T ≡ true
ty_itself T k = (ty_decides T T).1 refl

ty_turned : (S T : Ty) → ty_eq S T ≡ false → ty_eq T S ≡ false
ty_turned S T e = go (ty_eq T S) refl
  where
    go : (v : Bool) → ty_eq T S ≡ v → v ≡ false
    go false s = refl
    go true s = let q : T ≡ S = (ty_decides T S).0 s in let r : ty_eq S T ≡ true = (ty_decides S T).1 (sym q) in cc

sets_apart : (x : List ℕ) (i : ℕ) (names : List (List ℕ)) (n : ℕ) (us : List Ty) (es : List TypeEntry) → holds ty_eq us (TyUnknown x i) ≡ false → find_type x i (set_types (type_entries names n us) es) ≡ find_type x i es
unfolding type_entries
sets_apart x i names n [] es h = refl
sets_apart x i names n (TyUnknown y j ∷ us) es h =
    let k = neither (ty_eq (TyUnknown y j) (TyUnknown x i)) (holds ty_eq us (TyUnknown x i)) h in
    let m : ℕ = next_type_number names n in
    let e : TypeEntry = record { name = y; number = j; typ = TyUnknown (type_numbered m) 0 } in
    sets_apart x i names (m + 1) us (set_type e es) k.1 ∙ set_apart x i e es (ty_turned (TyUnknown y j) (TyUnknown x i) k.0)
sets_apart x i names n (TyCon y Ts ∷ us) es h = sets_apart x i names n us es h
sets_apart x i names n (TyFixed y ∷ us) es h = sets_apart x i names n us es h

-- each of the type unknowns gets the name of its number
abbrev pub TypesFrom : List TypeEntry → List (List ℕ) → ℕ → List Ty → Type 0
TypesFrom es names n [] = Unit {0}
TypesFrom es names n (u ∷ us) = (inst_ty es u ≡ TyUnknown (type_numbered (next_type_number names n)) 0) × TypesFrom es names (next_type_number names n + 1) us

-- the numbers are below 2 ^ 64
abbrev pub TypesFit : List (List ℕ) → ℕ → List Ty → Type 0
TypesFit names n [] = Unit {0}
TypesFit names n (u ∷ us) = (next_type_number names n < 2 ^ 64) × TypesFit names (next_type_number names n + 1) us

pub types_from : (names : List (List ℕ)) (n : ℕ) (us : List Ty) (es : List TypeEntry) → EachOf IsTypeUnknown us → Distinct ty_eq us → TypesFrom (set_types (type_entries names n us) es) names n us
unfolding type_entries
types_from names n [] es k d = tt
types_from names n (TyUnknown x i ∷ us) es k d =
    let m : ℕ = next_type_number names n in
    let e : TypeEntry = record { name = x; number = i; typ = TyUnknown (type_numbered m) 0 } in
    (ap (λ o. unwrap_or o (TyUnknown x i)) (sets_apart x i names (m + 1) us (set_type e es) d.0 ∙ set_here e es), types_from names (m + 1) us (set_type e es) k.1 d.1)
types_from names n (TyCon x Ts ∷ us) es k d = absurd (k.0)
types_from names n (TyFixed x ∷ us) es k d = absurd (k.0)

pub types_fit : (names : List (List ℕ)) (n : ℕ) (us : List Ty) → EachOf IsTypeUnknown us → TypeNumbersFit names n us → TypesFit names n us
types_fit names n [] k l = tt
types_fit names n (TyUnknown x i ∷ us) k l = (l.0, types_fit names (next_type_number names n + 1) us k.1 l.1)
types_fit names n (TyCon x Ts ∷ us) k l = absurd (k.0)
types_fit names n (TyFixed x ∷ us) k l = absurd (k.0)

pub record Numbered (es : List TypeEntry) (n : ℕ) (T : Ty) : Type 0 where
  pub number : ℕ
  pub least : n ≤ number
  pub fits : number < 2 ^ 64
  pub gives : inst_ty es T ≡ TyUnknown (type_numbered number) 0

pub type_number : (es : List TypeEntry) (names : List (List ℕ)) (n : ℕ) (us : List Ty) (T : Ty) → TypesFrom es names n us → TypesFit names n us → holds ty_eq us T ≡ true → Numbered es n T
type_number es names n [] T f l h = absurd (cc)
type_number es names n (u ∷ us) T f l h = go (ty_eq u T) refl h (λ r. type_number es names (next_type_number names n + 1) us T f.1 l.1 r)
  where
    go : (b : Bool) → ty_eq u T ≡ b → (b || holds ty_eq us T) ≡ true → (holds ty_eq us T ≡ true → Numbered es (next_type_number names n + 1) T) → Numbered es n T
    go true s r q = record { number = next_type_number names n; least = type_least names n; fits = l.0; gives = subst (λ S. inst_ty es S ≡ TyUnknown (type_numbered (next_type_number names n)) 0) ((ty_decides u T).0 s) f.0 }
    go false s r q = let k = q r in let le : n ≤ next_type_number names n = type_least names n in record { number = k.number; least = omega (arith, le, k.least); fits = k.fits; gives = k.gives }

abbrev name_in : Ty → List ℕ
name_in (TyUnknown x i) = x
name_in _ = []

types_clash : (es : List TypeEntry) (n : ℕ) (S T : Ty) (m : ℕ) → m < 2 ^ 64 → m < n → inst_ty es S ≡ TyUnknown (type_numbered m) 0 → Numbered es n T → inst_ty es S ≡ inst_ty es T → ⊥
types_clash es n S T m l lt g k e =
    let q : type_numbered m ≡ type_numbered k.number = ap name_in (sym g ∙ e ∙ k.gives) in
    let r : m ≡ k.number = type_number_same m k.number l k.fits q in
    omega (arith, r, k.least, lt)

-- no two of them get the same name
pub types_apart : (es : List TypeEntry) (names : List (List ℕ)) (n : ℕ) (us : List Ty) (S T : Ty) → TypesFrom es names n us → TypesFit names n us → holds ty_eq us S ≡ true → holds ty_eq us T ≡ true → inst_ty es S ≡ inst_ty es T → S ≡ T
types_apart es names n [] S T f l h k e = absurd (cc)
types_apart es names n (u ∷ us) S T f l h k e = go (ty_eq u S) (ty_eq u T) refl refl h k (λ p q. types_apart es names (next_type_number names n + 1) us S T f.1 l.1 p q e)
  where
    go : (a b : Bool) → ty_eq u S ≡ a → ty_eq u T ≡ b → (a || holds ty_eq us S) ≡ true → (b || holds ty_eq us T) ≡ true → (holds ty_eq us S ≡ true → holds ty_eq us T ≡ true → S ≡ T) → S ≡ T
    go true true s t p q r = sym ((ty_decides u S).0 s) ∙ (ty_decides u T).0 t
    go true false s t p q r = absurd (types_clash es (next_type_number names n + 1) S T (next_type_number names n) l.0 (omega arith) (subst (λ U. inst_ty es U ≡ TyUnknown (type_numbered (next_type_number names n)) 0) ((ty_decides u S).0 s) f.0) (type_number es names (next_type_number names n + 1) us T f.1 l.1 q) e)
    go false true s t p q r = absurd (types_clash es (next_type_number names n + 1) T S (next_type_number names n) l.0 (omega arith) (subst (λ U. inst_ty es U ≡ TyUnknown (type_numbered (next_type_number names n)) 0) ((ty_decides u T).0 t) f.0) (type_number es names (next_type_number names n + 1) us S f.1 l.1 p) (sym e))
    go false false s t p q r = r p q

-- ---- what is named so keeps its name
pub named_stay : (es : List TypeEntry) (names : List (List ℕ)) (n : ℕ) (us : List Ty) → TypesFrom es names n us → StayTypes (type_entries names n (map (inst_ty es) us))
unfolding type_entries
named_stay es names n [] f = tt
named_stay es names n (u ∷ us) f = subst (λ T. StayTypes (type_entries names n (T ∷ map (inst_ty es) us))) (sym f.0) (refl, named_stay es names (next_type_number names n + 1) us f.1)

set_stay : (e : TypeEntry) (es : List TypeEntry) → e.typ ≡ TyUnknown e.name e.number → StayTypes es → StayTypes (set_type e es)
set_stay e [] h k = (h, tt)
set_stay e (d ∷ ds) h k = go (same_type_unknown e d) (set_stay e ds h k.1)
  where
    go : (b : Bool) → StayTypes (set_type e ds) → StayTypes (cond b (e ∷ ds) (d ∷ set_type e ds))
    go true r = (h, k.1)
    go false r = (k.0, r)

pub sets_types_stay : (ds es : List TypeEntry) → StayTypes ds → StayTypes es → StayTypes (set_types ds es)
sets_types_stay [] es h k = k
sets_types_stay (d ∷ ds) es h k = sets_types_stay ds (set_type d es) h.1 (set_stay d es h.0 k)

module _ (es : List TypeEntry) (st : StayTypes es) where
  pub unknown_stays : (x : List ℕ) (i : ℕ) → inst_ty es (TyUnknown x i) ≡ TyUnknown x i
  unknown_stays x i = go es st
    where
      one : (e : TypeEntry) (o : Option Ty) (b : Bool) → (name_eq x e.name && nat_eq i e.number) ≡ b → e.typ ≡ TyUnknown e.name e.number → unwrap_or o (TyUnknown x i) ≡ TyUnknown x i → unwrap_or (cond b (Some e.typ) o) (TyUnknown x i) ≡ TyUnknown x i
      one e o true s h r = h ∙ sym ((ty_decides (TyUnknown x i) (TyUnknown e.name e.number)).0 s)
      one e o false s h r = r

      go : (ds : List TypeEntry) → StayTypes ds → inst_ty ds (TyUnknown x i) ≡ TyUnknown x i
      go [] h = refl
      go (e ∷ ds) h = one e (find_type x i ds) (name_eq x e.name && nat_eq i e.number) refl h.0 (go ds h.1)

  mutual
    pub type_stays : (T : Ty) → inst_ty es T ≡ T
    type_stays (TyCon x Ts) = ap (TyCon x) (types_stay Ts)
    type_stays (TyFixed x) = refl
    type_stays (TyUnknown x i) = unknown_stays x i

    types_stay : (Ts : Tys) → inst_tys es Ts ≡ Ts
    types_stay NoTys = refl
    types_stay (MoreTys T Ts) = λ i. MoreTys (type_stays T i) (types_stay Ts i)

-- ---- the places of the instance of a type
module _ (es : List TypeEntry) (hs : RenamesTypes es) where
  of_unknown : (U : Ty) → IsTypeUnknown U → (ty_unknown_places U ≡ U ∷ []) × (ty_fixed_places U ≡ [])
  of_unknown (TyUnknown x i) h = (refl, refl)
  of_unknown (TyCon x Ts) h = absurd h
  of_unknown (TyFixed x) h = absurd h

  mutual
    pub type_places : (T : Ty) → ty_unknown_places (inst_ty es T) ≡ map (inst_ty es) (ty_unknown_places T)
    type_places (TyCon x Ts) = types_places Ts
    type_places (TyFixed x) = refl
    type_places (TyUnknown x i) = (of_unknown (inst_ty es (TyUnknown x i)) (type_renamed es hs x i)).0

    types_places : (Ts : Tys) → tys_unknown_places (inst_tys es Ts) ≡ map (inst_ty es) (tys_unknown_places Ts)
    types_places NoTys = refl
    types_places (MoreTys T Ts) = (λ i. type_places T i ++ types_places Ts i) ∙ sym (map-append (inst_ty es) (ty_unknown_places T) (tys_unknown_places Ts))

  mutual
    pub fixed_renamed : (T : Ty) → ty_fixed_places (inst_ty es T) ≡ ty_fixed_places T
    fixed_renamed (TyCon x Ts) = all_fixed_renamed Ts
    fixed_renamed (TyFixed x) = refl
    fixed_renamed (TyUnknown x i) = (of_unknown (inst_ty es (TyUnknown x i)) (type_renamed es hs x i)).1

    all_fixed_renamed : (Ts : Tys) → tys_fixed_places (inst_tys es Ts) ≡ tys_fixed_places Ts
    all_fixed_renamed NoTys = refl
    all_fixed_renamed (MoreTys T Ts) = λ i. fixed_renamed T i ++ all_fixed_renamed Ts i

-- renaming gives type unknowns
pub type_kind : (es : List TypeEntry) → RenamesTypes es → (T : Ty) → IsTypeUnknown T → IsTypeUnknown (inst_ty es T)
type_kind es hs (TyUnknown x i) k = type_renamed es hs x i
type_kind es hs (TyCon x Ts) k = absurd k
type_kind es hs (TyFixed x) k = absurd k

-- each place of a type's unknowns is a type unknown
mutual
  pub type_kinds : (T : Ty) → EachOf IsTypeUnknown (ty_unknown_places T)
  type_kinds (TyCon x Ts) = types_kinds Ts
  type_kinds (TyFixed x) = tt
  type_kinds (TyUnknown x i) = (tt, tt)

  types_kinds : (Ts : Tys) → EachOf IsTypeUnknown (tys_unknown_places Ts)
  types_kinds NoTys = tt
  types_kinds (MoreTys T Ts) = each_join IsTypeUnknown (ty_unknown_places T) (tys_unknown_places Ts) (type_kinds T) (types_kinds Ts)

-- ---- the type unknowns of places, noted
module _ (ps : List Ty) (kinds : EachOf IsTypeUnknown ps) where
  abbrev us : List Ty
  us = tys_noted [] ps

  pub types_noted_are : EachOf (λ T. holds ty_eq us T ≡ true) ps
  types_noted_are = subst (λ vs. EachOf (λ T. holds ty_eq vs T ≡ true) ps) (sym (tys_noted_is [] ps)) (are_noted ty_eq IsTypeUnknown ty_yes ty_itself [] ps kinds)

  pub types_noted_kinds : EachOf IsTypeUnknown us
  types_noted_kinds = subst (λ vs. EachOf IsTypeUnknown vs) (sym (tys_noted_is [] ps)) (noted_each ty_eq IsTypeUnknown [] ps tt kinds)

  pub types_noted_once : Distinct ty_eq us
  types_noted_once = subst (λ vs. Distinct ty_eq vs) (sym (tys_noted_is [] ps)) (noted_distinct ty_eq IsTypeUnknown ty_yes ty_itself [] ps tt kinds tt)

  -- named apart, they are noted in the same order
  pub named_types_noted : (es : List TypeEntry) (names : List (List ℕ)) (n : ℕ) → RenamesTypes es → TypesFrom es names n us → TypesFit names n us → tys_noted [] (map (inst_ty es) ps) ≡ map (inst_ty es) us
  named_types_noted es names n hs f l =
      tys_noted_is [] (map (inst_ty es) ps)
      ∙ noted_mapped ty_eq IsTypeUnknown ty_yes ty_itself (inst_ty es) (λ T. IsTypeUnknown T × (holds ty_eq us T ≡ true)) (λ T p. p.0) (λ T p. type_kind es hs T p.0) (λ S T p q e. types_apart es names n us S T f l p.1 q.1 e) [] ps tt (each_both IsTypeUnknown (λ T. holds ty_eq us T ≡ true) ps kinds types_noted_are)
      ∙ ap (map (inst_ty es)) (sym (tys_noted_is [] ps))
