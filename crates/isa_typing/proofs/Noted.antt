-- New names, and the open types that get them.
use Rattle.std.proofs.Common.{◌≡◌, ℕ, List, [], ◌∷◌, ◌++◌, Bool, true, false, cond, ◌||◌, refl, sym, ap, ◌∙◌, subst}
use Rattle.isa_terms.specs.Types.{Ty}
use Rattle.isa_terms.specs.Terms.{Tm, Const, Free, Unknown, Bound, Abs, App}
use Rattle.isa_terms.specs.Equal.{name_eq, ty_eq}
use Rattle.isa_terms.specs.Generalize.{is_named}
use Rattle.isa_terms.specs.Unknowns.{ty_unknown_places, type_unknown_places, has_ty, ty_noted, tys_noted, type_unknowns_of}
use Rattle.isa_terms.proofs.Equal.{ty_decides}
use Rattle.isa_unify.proofs.Tests.{name_true}
use Rattle.isa_typing.specs.NewNames.{variable_name, AreFirstFree}
use Rattle.isa_typing.proofs.Lacking.{not_left, not_named_left, not_named_right, OfTypes}

pub or_last : (a b : Bool) → b ≡ true → (a || b) ≡ true
or_last true b h = refl
or_last false b h = h

pub or_first : (a b : Bool) → a ≡ true → (a || b) ≡ true
or_first true b h = refl
or_first false b h = absurd (cc)

-- a new name is not among those that were taken
pub new_not_taken : (taken ns : List (List ℕ)) → AreFirstFree taken ns → (a : List ℕ) → is_named ns a ≡ true → is_named taken a ≡ false
new_not_taken taken [] f a h = absurd (cc)
new_not_taken taken (n ∷ ns) f a h = at (λ w. new_not_taken (taken ++ n ∷ []) ns f.1 a w) (name_eq a n) refl h where
  at : (is_named ns a ≡ true → is_named (taken ++ n ∷ []) a ≡ false) → (v : Bool) → name_eq a n ≡ v → (v || is_named ns a) ≡ true → is_named taken a ≡ false
  at ih true e w = subst (λ b. is_named taken b ≡ false) (sym (name_true a n e)) f.0.is_free
  at ih false e w = not_named_left taken (n ∷ []) a (ih w)

pub new_other : (taken ns : List (List ℕ)) (n : List ℕ) → AreFirstFree (taken ++ n ∷ []) ns → (a : List ℕ) → is_named ns a ≡ true → name_eq a n ≡ false
new_other taken ns n f a h =
    not_left (name_eq a n) false (not_named_right taken (n ∷ []) a (new_not_taken (taken ++ n ∷ []) ns f a h))

pub new_not_empty : (taken ns : List (List ℕ)) → AreFirstFree taken ns → (a : List ℕ) → is_named ns a ≡ true → name_eq a [] ≡ false
new_not_empty taken [] f a h = absurd (cc)
new_not_empty taken (n ∷ ns) f a h = at (λ w. new_not_empty (taken ++ n ∷ []) ns f.1 a w) (name_eq a n) refl h where
  at : (is_named ns a ≡ true → name_eq a [] ≡ false) → (v : Bool) → name_eq a n ≡ v → (v || is_named ns a) ≡ true → name_eq a [] ≡ false
  at ih true e w =
      let is : a ≡ variable_name f.0.number = name_true a n e ∙ f.0.name in
      subst (λ b. name_eq b [] ≡ false) (sym is) refl
  at ih false e w = ih w

-- each of the types has one of the same
abbrev pub AllNoted : List Ty → List Ty → Type 0
AllNoted Us [] = Unit {0}
AllNoted Us (T ∷ Ts) = (has_ty Us T ≡ true) × AllNoted Us Ts

pub has_before : (Us : List Ty) (S T : Ty) → has_ty Us T ≡ true → has_ty (Us ++ S ∷ []) T ≡ true
has_before [] S T h = absurd (cc)
has_before (U ∷ Us) S T h = at (λ w. has_before Us S T w) (ty_eq U T) h where
  at : (has_ty Us T ≡ true → has_ty (Us ++ S ∷ []) T ≡ true) → (v : Bool) → (v || has_ty Us T) ≡ true → (v || has_ty (Us ++ S ∷ []) T) ≡ true
  at ih true w = refl
  at ih false w = ih w

pub has_last : (Us : List Ty) (T : Ty) → has_ty (Us ++ T ∷ []) T ≡ true
has_last [] T = or_first (ty_eq T T) false ((ty_decides T T).1 refl)
has_last (U ∷ Us) T = or_last (ty_eq U T) (has_ty (Us ++ T ∷ []) T) (has_last Us T)

pub noted_keeps : (Us : List Ty) (S T : Ty) → has_ty Us T ≡ true → has_ty (ty_noted Us S) T ≡ true
noted_keeps Us S T h = at (has_ty Us S) where
  at : (v : Bool) → has_ty (cond v Us (Us ++ S ∷ [])) T ≡ true
  at true = h
  at false = has_before Us S T h

pub noted_has : (Us : List Ty) (T : Ty) → has_ty (ty_noted Us T) T ≡ true
noted_has Us T = at (has_ty Us T) refl where
  at : (v : Bool) → has_ty Us T ≡ v → has_ty (cond v Us (Us ++ T ∷ [])) T ≡ true
  at true e = e
  at false e = has_last Us T

pub all_noted_keep : (Us Ts : List Ty) (T : Ty) → has_ty Us T ≡ true → has_ty (tys_noted Us Ts) T ≡ true
all_noted_keep Us [] T h = h
all_noted_keep Us (S ∷ Ts) T h = all_noted_keep (ty_noted Us S) Ts T (noted_keeps Us S T h)

pub all_noted : (Us Ts : List Ty) → AllNoted (tys_noted Us Ts) Ts
all_noted Us [] = tt
all_noted Us (T ∷ Ts) = (all_noted_keep (ty_noted Us T) Ts T (noted_has Us T), all_noted (ty_noted Us T) Ts)

pub noted_left : (Us Ss Ts : List Ty) → AllNoted Us (Ss ++ Ts) → AllNoted Us Ss
noted_left Us [] Ts h = tt
noted_left Us (S ∷ Ss) Ts h = (h.0, noted_left Us Ss Ts h.1)

pub noted_right : (Us Ss Ts : List Ty) → AllNoted Us (Ss ++ Ts) → AllNoted Us Ts
noted_right Us [] Ts h = h
noted_right Us (S ∷ Ss) Ts h = noted_right Us Ss Ts h.1

pub types_noted : (Us : List Ty) (t : Tm) → AllNoted Us (type_unknown_places t) → OfTypes (λ T. AllNoted Us (ty_unknown_places T)) t
types_noted Us (Const c T) h = h
types_noted Us (Free x T) h = h
types_noted Us (Unknown x i T) h = h
types_noted Us (Bound n) h = tt
types_noted Us (Abs x T b) h = (noted_left Us (ty_unknown_places T) (type_unknown_places b) h, types_noted Us b (noted_right Us (ty_unknown_places T) (type_unknown_places b) h))
types_noted Us (App f a) h = (types_noted Us f (noted_left Us (type_unknown_places f) (type_unknown_places a) h), types_noted Us a (noted_right Us (type_unknown_places f) (type_unknown_places a) h))

pub own_noted : (t : Tm) → AllNoted (type_unknowns_of (t ∷ [])) (type_unknown_places t)
own_noted t = noted_left (type_unknowns_of (t ∷ [])) (type_unknown_places t) [] (all_noted [] (type_unknown_places t ++ []))
