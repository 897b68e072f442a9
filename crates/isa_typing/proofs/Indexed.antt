-- Indexes grow with the lists beside which they stand.
use Rattle.std.proofs.Common.{◌≡◌, ℕ, List, [], ◌∷◌, ◌++◌, Bool, true, false, cond, ◌&&◌, ◌||◌, nat_eq, Option, Some, None, refl, sym, ap, ◌∙◌, subst, unwrap_or}
use Rattle.std.specs.Prelude.{is_some}
use Rattle.std.specs.List.{list_any}
use Rattle.std.specs.Option.{option_or}
use Rattle.std.proofs.lemmas.List.{append-nil}
use Rattle.isa_terms.specs.Types.{Ty, TyUnknown}
use Rattle.isa_terms.specs.Terms.{Tm}
use Rattle.isa_terms.specs.Equal.{name_eq, ty_eq}
use Rattle.isa_terms.specs.Generalize.{is_named}
use Rattle.isa_terms.specs.Unknowns.{has_ty, ty_noted, tys_noted, type_unknown_places, type_unknowns_of}
use Rattle.isa_terms.specs.Instance.{find_type, inst_ty}
use Rattle.isa_terms.specs.declared.inst.TypeEntry.{TypeEntry}
use Rattle.isa_unify.proofs.Tests.{same_test, name_true, name_self, key_true, key_turned, either, value_of}
use Rattle.isa_unify.proofs.TypeInstances.{find_append}
use Rattle.isa_typing.specs.Found.{Found, Binds}
use Rattle.isa_typing.specs.Indexes.{AreIndexed, AreNamed, IndexesEntries, PutsFirst}

has_ty_behind : (Us : List Ty) (U V : Ty) → has_ty (Us ++ U ∷ []) V ≡ (has_ty Us V || ty_eq U V)
has_ty_behind [] U V = at (ty_eq U V) where
  at : (b : Bool) → (b || false) ≡ b
  at true = refl
  at false = refl
has_ty_behind (S ∷ Us) U V = at (ty_eq S V) (has_ty_behind Us U V) where
  at : (b : Bool) → has_ty (Us ++ U ∷ []) V ≡ (has_ty Us V || ty_eq U V) → (b || has_ty (Us ++ U ∷ []) V) ≡ ((b || has_ty Us V) || ty_eq U V)
  at true e = refl
  at false e = e

either_way : (b c : Bool) → cond c true b ≡ (b || c)
either_way true true = refl
either_way true false = refl
either_way false true = refl
either_way false false = refl

pub nothing_indexed : (ks : List (List ℕ × ℕ)) → ks ≡ [] → AreIndexed ks []
nothing_indexed ks e x i = ap (list_any (λ (k : List ℕ × ℕ). name_eq x k.0 && nat_eq i k.1)) e

-- one more variable
pub indexed_more : (ks ls : List (List ℕ × ℕ)) (Us : List Ty) (y : List ℕ) (j : ℕ) (U : Ty) → U ≡ TyUnknown y j → AreIndexed ks Us → ((q : List ℕ × ℕ) → list_any (λ (k : List ℕ × ℕ). name_eq q.0 k.0 && nat_eq q.1 k.1) ls ≡ cond (name_eq y q.0 && nat_eq j q.1) true (list_any (λ (k : List ℕ × ℕ). name_eq q.0 k.0 && nat_eq q.1 k.1) ks)) → AreIndexed ls (Us ++ U ∷ [])
indexed_more ks ls Us y j U is a h x i =
    let same : ty_eq U (TyUnknown x i) ≡ (name_eq y x && nat_eq j i) = ap (λ V. ty_eq V (TyUnknown x i)) is in
    h (x, i) ∙ (ap (λ b. cond (name_eq y x && nat_eq j i) true b) (a x i) ∙ (either_way (has_ty Us (TyUnknown x i)) (name_eq y x && nat_eq j i) ∙ (ap (λ b. has_ty Us (TyUnknown x i) || b) (sym same) ∙ sym (has_ty_behind Us U (TyUnknown x i)))))

pub indexed_pushed : (ks ls : List (List ℕ × ℕ)) (Us Vs : List Ty) (y : List ℕ) (j : ℕ) (U V : Ty) → U ≡ TyUnknown y j → V ≡ U → Vs ≡ Us ++ V ∷ [] → AreIndexed ks Us → ((q : List ℕ × ℕ) → list_any (λ (k : List ℕ × ℕ). name_eq q.0 k.0 && nat_eq q.1 k.1) ls ≡ cond (name_eq y q.0 && nat_eq j q.1) true (list_any (λ (k : List ℕ × ℕ). name_eq q.0 k.0 && nat_eq q.1 k.1) ks)) → AreIndexed ls Vs
indexed_pushed ks ls Us Vs y j U V is e p a h = subst (AreIndexed ls) (sym p) (indexed_more ks ls Us y j V (e ∙ is) a h)

pub unknowns_of_one : (t : Tm) (Us : List Ty) → Us ≡ tys_noted [] (type_unknown_places t) → Us ≡ type_unknowns_of (t ∷ [])
unknowns_of_one t Us e = e ∙ ap (tys_noted []) (sym (append-nil (type_unknown_places t)))

-- names

name_turned : (x y : List ℕ) → name_eq x y ≡ name_eq y x
name_turned x y = same_test (name_eq x y) (name_eq y x) (λ e. subst (λ z. name_eq z x ≡ true) (name_true x y e) (name_self x)) (λ e. subst (λ z. name_eq z y ≡ true) (name_true y x e) (name_self y))

named_behind : (ns : List (List ℕ)) (n x : List ℕ) → is_named (ns ++ n ∷ []) x ≡ (is_named ns x || name_eq x n)
named_behind [] n x = at (name_eq x n) where
  at : (b : Bool) → (b || false) ≡ b
  at true = refl
  at false = refl
named_behind (m ∷ ns) n x = at (name_eq x m) (named_behind ns n x) where
  at : (b : Bool) → is_named (ns ++ n ∷ []) x ≡ (is_named ns x || name_eq x n) → (b || is_named (ns ++ n ∷ []) x) ≡ ((b || is_named ns x) || name_eq x n)
  at true e = refl
  at false e = e

pub nothing_named : (ks : List (List ℕ)) → ks ≡ [] → AreNamed ks []
nothing_named ks e x = ap (list_any (name_eq x)) e

pub named_more : (ks ls ns : List (List ℕ)) (n : List ℕ) → AreNamed ks ns → ((q : List ℕ) → list_any (name_eq q) ls ≡ cond (name_eq n q) true (list_any (name_eq q) ks)) → AreNamed ls (ns ++ n ∷ [])
named_more ks ls ns n a h x =
    h x ∙ (ap (λ b. cond (name_eq n x) true b) (a x) ∙ (either_way (is_named ns x) (name_eq n x) ∙ (ap (λ b. is_named ns x || b) (name_turned n x) ∙ sym (named_behind ns n x))))

-- entries

either_or : (o p : Option Ty) → either o p ≡ option_or o p
either_or None p = refl
either_or (Some T) p = refl

put_case : (F G : Found) (x : List ℕ) (i : ℕ) (T : Ty) → PutsFirst F x i T G → (es : List TypeEntry) (e : TypeEntry) → IndexesEntries F es → e.name ≡ x → e.number ≡ i → e.typ ≡ T → (y : List ℕ) (j : ℕ) → G y j ≡ find_type y j (es ++ e ∷ [])
put_case F G x i T p es e a n m t y j =
    let last : find_type y j (e ∷ []) ≡ cond (name_eq y x && nat_eq j i) (Some T) None = λ l. cond (name_eq y (n l) && nat_eq j (m l)) (Some (t l)) None in
    p y j ∙ (ap (λ o. option_or o (cond (name_eq y x && nat_eq j i) (Some T) None)) (a y j) ∙ (ap (option_or (find_type y j es)) (sym last) ∙ sym (find_append es (e ∷ []) y j ∙ either_or (find_type y j es) (find_type y j (e ∷ [])))))

-- one more entry
pub first_put : (F G : Found) (es : List TypeEntry) (e : TypeEntry) → IndexesEntries F es → PutsFirst F e.name e.number e.typ G → IndexesEntries G (es ++ e ∷ [])
first_put F G es e a p = put_case F G e.name e.number e.typ p es e a refl refl refl

both_found : (F : Found) (x : List ℕ) (i : ℕ) (y : List ℕ) (j : ℕ) → (name_eq y x && nat_eq j i) ≡ true → F y j ≡ F x i
both_found F x i y j e = let k = key_true y j x i e in λ l. F (k.0 l) (k.1 l)

-- a variable that is there stays
pub put_there : (F : Found) (x : List ℕ) (i : ℕ) (T U : Ty) → F x i ≡ Some U → PutsFirst F x i T F
put_there F x i T U h y j = at (name_eq y x && nat_eq j i) refl where
  none : (o : Option Ty) → o ≡ option_or o None
  none None = refl
  none (Some V) = refl

  some : (o : Option Ty) → o ≡ Some U → o ≡ option_or o (Some T)
  some None e = absurd (cc)
  some (Some V) e = refl

  at : (c : Bool) → (name_eq y x && nat_eq j i) ≡ c → F y j ≡ option_or (F y j) (cond c (Some T) None)
  at false e = none (F y j)
  at true e = some (F y j) (both_found F x i y j e ∙ h)

-- a variable that is not there is put
pub put_new : (F G : Found) (x : List ℕ) (i : ℕ) (T : Ty) → F x i ≡ None → Binds F x i T G → PutsFirst F x i T G
put_new F G x i T h b y j = b y j ∙ at (name_eq x y && nat_eq i j) (name_eq y x && nat_eq j i) refl refl where
  none : (o : Option Ty) → o ≡ option_or o None
  none None = refl
  none (Some V) = refl

  some : (o : Option Ty) → o ≡ None → Some T ≡ option_or o (Some T)
  some None e = refl
  some (Some V) e = absurd (cc)

  at : (c d : Bool) → (name_eq x y && nat_eq i j) ≡ c → (name_eq y x && nat_eq j i) ≡ d → cond c (Some T) (F y j) ≡ option_or (F y j) (cond d (Some T) None)
  at true true v w = some (F y j) (both_found F x i y j w ∙ h)
  at false false v w = none (F y j)
  at true false v w = let t : (name_eq y x && nat_eq j i) ≡ true = key_turned x i y j v in absurd (cc)
  at false true v w = let t : (name_eq x y && nat_eq i j) ≡ true = key_turned y j x i w in absurd (cc)

-- what the index finds is the instance
pub by_index : (F : Found) (x : List ℕ) (i : ℕ) (T : Ty) → F x i ≡ Some T → (es : List TypeEntry) → IndexesEntries F es → T ≡ inst_ty es (TyUnknown x i)
by_index F x i T e es a = ap (λ o. unwrap_or o (TyUnknown x i)) (sym e ∙ a x i)

pub by_no_index : (F : Found) (x : List ℕ) (i : ℕ) → F x i ≡ None → (es : List TypeEntry) → IndexesEntries F es → TyUnknown x i ≡ inst_ty es (TyUnknown x i)
by_no_index F x i e es a = ap (λ o. unwrap_or o (TyUnknown x i)) (sym e ∙ a x i)

none_if : (o : Option Ty) → is_some o ≡ false → o ≡ None
none_if None e = refl
none_if (Some T) e = absurd (cc)

pub put_if_there : (F : Found) (x : List ℕ) (i : ℕ) (T : Ty) → is_some (F x i) ≡ true → PutsFirst F x i T F
put_if_there F x i T e = let v = value_of (F x i) e in put_there F x i T v.0 v.1

pub put_if_new : (F G : Found) (x : List ℕ) (i : ℕ) (T : Ty) → is_some (F x i) ≡ false → Binds F x i T G → PutsFirst F x i T G
put_if_new F G x i T e b = put_new F G x i T (none_if (F x i) e) b
