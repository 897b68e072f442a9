-- Types and terms under what is found.
use Rattle.std.proofs.Common.{◌≡◌, ℕ, List, [], ◌∷◌, ◌++◌, length, reverse, Bool, true, false, cond, ◌&&◌, nat_eq, Option, Some, None, refl, sym, ap, ◌∙◌, subst, append_assoc, unwrap_or}
use Rattle.std.proofs.lemmas.List.{append-nil}
use Rattle.isa_terms.specs.Types.{Ty, Tys, TyCon, TyFixed, TyUnknown, NoTys, MoreTys, tys_of, list_of}
use Rattle.isa_terms.specs.Terms.{Tm, Const, Free, Unknown, Bound, Abs, App}
use Rattle.isa_terms.specs.Equal.{name_eq}
use Rattle.isa_terms.specs.Facts.{ty_open}
use Rattle.isa_terms.specs.Instance.{inst_ty, inst_tys, inst_tm, find_type}
use Rattle.isa_terms.specs.declared.inst.TypeEntry.{TypeEntry}
use Rattle.isa_terms.proofs.Types.{tys_of_list}
use Rattle.isa_terms.proofs.Shared.{inst_ty_same}
use Rattle.isa_unify.proofs.Tests.{key_true}
use Rattle.isa_typing.specs.Found.{Found, found_in, Binds, Agrees, IsMeaning, found_at, MeansType, MeansTypes, MeansTerm, Keeps, IsUnifier}
use Rattle.isa_typing.specs.Indexes.{IndexesEntries}
use Rattle.isa_terms.specs.Unknowns.{type_unknowns_of}
use Rattle.isa_unify.specs.TypeUnification.{Unifies, IsMostGeneral}
use Rattle.isa_raw.specs.RawTerms.{Raw}
use Rattle.isa_typing.specs.Scopes.{Declared}
use Rattle.isa_typing.specs.Inference.{term_of, equations_of}
use Rattle.isa_typing.specs.NewNames.{AreFirstFree}
use Rattle.isa_typing.specs.Naming.{entries_for, IsNamed, IsSolved}
use Rattle.isa_typing.specs.Marks.{kept_variable, spelled, retyped, thawed}
use Rattle.isa_typing.proofs.Solved.{equal_found, unifies_reversed}
use Rattle.isa_typing.proofs.MostGeneral.{general_of_reversed}

pub means_closed : (F : Found) (S T : Ty) → ty_open S ≡ false → T ≡ S → MeansType F S T
means_closed F S T o e = record { means = λ q m. e ∙ sym (inst_ty_same q S o) }

pub means_fixed : (F : Found) (S T : Ty) (a : List ℕ) → S ≡ TyFixed a → T ≡ S → MeansType F S T
means_fixed F S T a f e = record { means = λ q m. e ∙ (f ∙ sym (ap (inst_ty q) f)) }

pub means_open : (F : Found) (S T : Ty) (x : List ℕ) (i : ℕ) → found_at F S ≡ None → S ≡ TyUnknown x i → T ≡ S → MeansType F S T
means_open F S T x i o v e =
    let open_one : F x i ≡ None = subst (λ U. found_at F U ≡ None) v o in
    record { means = λ q m. e ∙ (v ∙ (sym (m.leaves x i open_one) ∙ sym (ap (inst_ty q) v))) }

pub means_kept : (F K : Found) (S T : Ty) → Keeps F K → found_at K S ≡ Some T → MeansType F S T
means_kept F K (TyUnknown x i) T k e = k.keeps x i T e
means_kept F K (TyCon c Ts) T k e = absurd (cc)
means_kept F K (TyFixed a) T k e = absurd (cc)

pub means_bound : (F : Found) (S U T : Ty) → found_at F S ≡ Some U → MeansType F U T → MeansType F S T
means_bound F S U T e h = record { means = λ q m. h.means q m ∙ (equal_found F S U e).equal q m.agrees }

pub means_constructor : (F : Found) (S T : Ty) (c : List ℕ) (Ss : Tys) (Ts : List Ty) → S ≡ TyCon c Ss → MeansTypes F Ss [] Ts → T ≡ TyCon c (tys_of Ts) → MeansType F S T
means_constructor F S T c Ss Ts s h t = record {
  means = λ q m. t ∙ (ap (λ Us. TyCon c (tys_of Us)) (h.means q m) ∙ (ap (TyCon c) (tys_of_list (inst_tys q Ss)) ∙ sym (ap (inst_ty q) s)));
}

pub means_made : (F : Found) (S T : Ty) (c d : List ℕ) (args slice others Ts : List Ty) → S ≡ TyCon c (tys_of args) → slice ≡ args → others ≡ [] → MeansTypes F (tys_of slice) others Ts → d ≡ c → T ≡ TyCon d (tys_of Ts) → MeansType F S T
means_made F S T c d args slice others Ts s a o h n t =
    means_constructor F S T c (tys_of args) Ts s (subst (λ z. MeansTypes F (tys_of z) [] Ts) a (subst (λ z. MeansTypes F (tys_of slice) z Ts) o h)) (t ∙ ap (λ z. TyCon z (tys_of Ts)) n)

pub means_no_types : (F : Found) (others : List Ty) → MeansTypes F NoTys others others
means_no_types F others = record { means = λ q m. sym (append-nil others) }

pub means_more_types : (F : Found) (S T : Ty) (Ss : Tys) (others more all : List Ty) → MeansType F S T → more ≡ others ++ T ∷ [] → MeansTypes F Ss more all → MeansTypes F (MoreTys S Ss) others all
means_more_types F S T Ss others more all h e k = record {
  means = λ q m. k.means q m ∙ (ap (λ Us. Us ++ list_of (inst_tys q Ss)) e ∙ (append_assoc others (T ∷ []) (list_of (inst_tys q Ss)) ∙ ap (λ U. others ++ U ∷ list_of (inst_tys q Ss)) (h.means q m)));
}

-- one more type is kept
pub keeps_more : (F K L : Found) (x : List ℕ) (i : ℕ) (T : Ty) → Keeps F K → MeansType F (TyUnknown x i) T → Binds K x i T L → Keeps F L
keeps_more F K L x i T k h b = record { keeps = λ y j U e. at y j U (name_eq x y && nat_eq i j) refl (sym (b y j) ∙ e) } where
  at : (y : List ℕ) (j : ℕ) (U : Ty) (c : Bool) → (name_eq x y && nat_eq i j) ≡ c → cond c (Some T) (K y j) ≡ Some U → MeansType F (TyUnknown y j) U
  at y j U false w e = k.keeps y j U e
  at y j U true w e =
      let s = key_true x i y j w in
      let is : T ≡ U = cc in
      subst (MeansType F (TyUnknown y j)) is (subst (λ z. MeansType F z T) (λ l. TyUnknown (s.0 l) (s.1 l)) h)

pub keeps_nothing : (F K : Found) → ((x : List ℕ) (i : ℕ) → K x i ≡ None) → Keeps F K
keeps_nothing F K n = record { keeps = λ x i T e. absurd (nowhere x i T e) } where
  nowhere : (x : List ℕ) (i : ℕ) (T : Ty) → K x i ≡ Some T → ⊥
  nowhere x i T e = let none = n x i in cc

pub keeps_empty : (F : Found) (es : List ((List ℕ × ℕ) × Ty)) → es ≡ [] → Keeps F (found_in es)
keeps_empty F es e = subst (λ z. Keeps F (found_in z)) (sym e) (keeps_nothing F (found_in []) (λ x i. refl))

-- terms

pub means_const : (F : Found) (t u : Tm) (c : List ℕ) (S T : Ty) → t ≡ Const c S → MeansType F S T → u ≡ Const c T → MeansTerm F t u
means_const F t u c S T s h e = record { means = λ q m. e ∙ (ap (Const c) (h.means q m) ∙ sym (ap (inst_tm q []) s)) }

pub means_free : (F : Found) (t u : Tm) (x : List ℕ) (S T : Ty) → t ≡ Free x S → MeansType F S T → u ≡ Free x T → MeansTerm F t u
means_free F t u x S T s h e = record { means = λ q m. e ∙ (ap (Free x) (h.means q m) ∙ sym (ap (inst_tm q []) s)) }

pub means_unknown : (F : Found) (t u : Tm) (x : List ℕ) (i : ℕ) (S T : Ty) → t ≡ Unknown x i S → MeansType F S T → u ≡ Unknown x i T → MeansTerm F t u
means_unknown F t u x i S T s h e = record { means = λ q m. e ∙ (ap (Unknown x i) (h.means q m) ∙ sym (ap (inst_tm q []) s)) }

pub means_variable : (F : Found) (t u : Tm) (n : ℕ) → t ≡ Bound n → u ≡ Bound n → MeansTerm F t u
means_variable F t u n s e = record { means = λ q m. e ∙ sym (ap (inst_tm q []) s) }

pub means_abstraction : (F : Found) (t u : Tm) (x : List ℕ) (S T : Ty) (b c : Tm) → t ≡ Abs x S b → MeansType F S T → MeansTerm F b c → u ≡ Abs x T c → MeansTerm F t u
means_abstraction F t u x S T b c s h k e = record { means = λ q m. e ∙ ((λ l. Abs x (h.means q m l) (k.means q m l)) ∙ sym (ap (inst_tm q []) s)) }

pub means_application : (F : Found) (t u f g a b : Tm) → t ≡ App f a → MeansTerm F f g → MeansTerm F a b → u ≡ App g b → MeansTerm F t u
means_application F t u f g a b s h k e = record { means = λ q m. e ∙ ((λ l. App (h.means q m l) (k.means q m l)) ∙ sym (ap (inst_tm q []) s)) }

-- entries of new names mean themselves

fixed_entry : (Us : List Ty) (ns : List (List ℕ)) (x : List ℕ) (i : ℕ) (T : Ty) → find_type x i (entries_for Us ns) ≡ Some T → (a : List ℕ) × (T ≡ TyFixed a)
fixed_entry [] ns x i T e = absurd (cc)
fixed_entry (U ∷ Us) [] x i T e = absurd (cc)
fixed_entry (TyCon c Ts ∷ Us) (n ∷ ns) x i T e = fixed_entry Us ns x i T e
fixed_entry (TyFixed c ∷ Us) (n ∷ ns) x i T e = fixed_entry Us ns x i T e
fixed_entry (TyUnknown y j ∷ Us) (n ∷ ns) x i T e = at (λ w. fixed_entry Us ns x i T w) (name_eq x y && nat_eq i j) e where
  at : (find_type x i (entries_for Us ns) ≡ Some T → (a : List ℕ) × (T ≡ TyFixed a)) → (c : Bool) → cond c (Some (kept_variable n)) (find_type x i (entries_for Us ns)) ≡ Some T → (a : List ℕ) × (T ≡ TyFixed a)
  at ih true w = let is : T ≡ kept_variable n = cc in (spelled 0 n, is)
  at ih false w = ih w

unknown_general : (F : Found) (es r : List TypeEntry) → IndexesEntries F es → Agrees r F → (x : List ℕ) (i : ℕ) (o : Option Ty) → find_type x i es ≡ o → inst_ty r (unwrap_or o (TyUnknown x i)) ≡ inst_ty r (TyUnknown x i)
unknown_general F es r h a x i None e = refl
unknown_general F es r h a x i (Some T) e = sym (a x i T (h x i ∙ e))

mutual
  entries_general : (F : Found) (es r : List TypeEntry) → IndexesEntries F es → Agrees r F → (U : Ty) → inst_ty r (inst_ty es U) ≡ inst_ty r U
  entries_general F es r h a (TyCon c Us) = ap (TyCon c) (all_entries_general F es r h a Us)
  entries_general F es r h a (TyFixed c) = refl
  entries_general F es r h a (TyUnknown x i) = unknown_general F es r h a x i (find_type x i es) refl

  all_entries_general : (F : Found) (es r : List TypeEntry) → IndexesEntries F es → Agrees r F → (Us : Tys) → inst_tys r (inst_tys es Us) ≡ inst_tys r Us
  all_entries_general F es r h a NoTys = refl
  all_entries_general F es r h a (MoreTys U Us) = λ l. MoreTys (entries_general F es r h a U l) (all_entries_general F es r h a Us l)

entries_mean : (F : Found) (Us : List Ty) (ns : List (List ℕ)) → IndexesEntries F (entries_for Us ns) → IsMeaning F (entries_for Us ns)
entries_mean F Us ns h = record {
  agrees = λ x i T e.
      let there : find_type x i (entries_for Us ns) ≡ Some T = sym (h x i) ∙ e in
      let f = fixed_entry Us ns x i T there in
      ap (λ o. unwrap_or o (TyUnknown x i)) there ∙ (f.1 ∙ sym (ap (inst_ty (entries_for Us ns)) f.1));
  is_general = λ r a. entries_general F (entries_for Us ns) r h a;
  leaves = λ x i e. ap (λ o. unwrap_or o (TyUnknown x i)) (sym (h x i) ∙ e);
}

pub means_instance : (F : Found) (es : List TypeEntry) (Us : List Ty) (ns : List (List ℕ)) (t u : Tm) → es ≡ entries_for Us ns → IndexesEntries F es → MeansTerm F t u → u ≡ inst_tm es [] t
means_instance F es Us ns t u e h m =
    let h' : IndexesEntries F (entries_for Us ns) = subst (IndexesEntries F) e h in
    m.means (entries_for Us ns) (entries_mean F Us ns h') ∙ ap (λ z. inst_tm z [] t) (sym e)

-- the parts of a named term
pub named_parts : (taken : List (List ℕ)) (solved t p : Tm) (Us : List Ty) (names : List (List ℕ)) (es : List TypeEntry) (F : Found) → Us ≡ type_unknowns_of (solved ∷ []) → AreFirstFree taken names → length names ≡ length Us → es ≡ entries_for Us names → IndexesEntries F es → MeansTerm F solved t → p ≡ retyped thawed t → IsNamed taken solved p
named_parts taken solved t p Us names es F u f l e h m d = record {
  names = names;
  are_new = f;
  are_all = l ∙ ap length u;
  term = d ∙ (ap (retyped thawed) (means_instance F es Us names solved t e h m) ∙ (ap (λ z. retyped thawed (inst_tm z [] solved)) e ∙ ap (λ Vs. retyped thawed (inst_tm (entries_for Vs names) [] solved)) u));
}

-- the term that was inferred, under what is found of its equations
pub solved_by_found : (declared : Declared) (u : Raw) (es : List (Ty × Ty)) (F : Found) (t solved : Tm) → es ≡ reverse (equations_of declared u) → t ≡ term_of declared u → IsUnifier es F → MeansTerm F t solved → IsSolved declared u solved
solved_by_found declared u es F t solved e h k m = record {
  unifier = k.unifier;
  is_most_general = general_of_reversed (equations_of declared u) k.unifier (subst (λ ds. IsMostGeneral ds k.unifier) e k.is_most_general);
  term = m.means k.unifier k.is_meaning ∙ ap (inst_tm k.unifier []) h;
}

pub none_of_reversed : (es ds : List (Ty × Ty)) → ds ≡ reverse es → ((q : List TypeEntry) → Unifies q ds → ⊥) → (q : List TypeEntry) → Unifies q es → ⊥
none_of_reversed es ds e none q u = none q (subst (Unifies q) (sym e) (unifies_reversed q es u))
