-- A text has one principal term at most: two most general typings are each other's instances, so they differ by a renaming
-- of their new type variables, and these stand in one order.
use Rattle.std.proofs.Common.{◌≡◌, ◌≢◌, ℕ, zero, suc, ◌+◌, ◌<◌, ◌≤◌, List, [], ◌∷◌, ◌++◌, length, Bool, true, false, cond, ◌||◌, Option, Some, None, ◌⊎◌, inl, inr, refl, sym, ap, ◌∙◌, subst, arith}
use Rattle.std.specs.Prelude.{option_map, IfSome}
use Rattle.std.specs.Cmp.Lexicographic.{bytes_decides}
use Rattle.std.proofs.lemmas.Bool.{cases_lt}
use Rattle.isa_terms.specs.Types.{Ty, Tys, TyCon, TyFixed, TyUnknown, NoTys, MoreTys}
use Rattle.isa_terms.specs.Terms.{Tm, Const, Free, Unknown, Bound, Abs, App}
use Rattle.isa_terms.specs.Typing.{function_of}
use Rattle.isa_terms.specs.Equal.{name_eq}
use Rattle.isa_terms.specs.Generalize.{is_named}
use Rattle.isa_terms.specs.Norm.{norm}
use Rattle.isa_raw.specs.RawTerms.{Raw, RawName, RawUnknown, RawConst, RawTyped, RawAbs, RawApp}
use Rattle.isa_typing.specs.Scopes.{Declared, Scope, bound_at}
use Rattle.isa_typing.specs.Marks.{ty_with, tys_with, retyped}
use Rattle.isa_typing.specs.TextNames.{names_in_ty, names_in_tys, names_if_any, names_in}
use Rattle.isa_typing.specs.NewNames.{IsFirstFree, AreFirstFree, variable_name}
use Rattle.isa_typing.specs.Typings.{Variables, IsTyped, IsBound, IsConstant, IsFree, IsUnknown, IsNotation, IsAnnotated, IsAbstraction, IsApplication, instance_at}
use Rattle.isa_typing.specs.Principal.{IsTyping, IsMostGeneralTyping, IsPrincipal, type_beside, with_types, names_of, variable_places, noted_name, first_occurrences}
use Rattle.isa_typing.proofs.Lacking.{not_named_left, not_named_right}
use Rattle.isa_typing.proofs.Noted.{new_not_taken}
use Rattle.isa_typing.proofs.Replacing.{retyped_nothing, retyped_same}

-- ---- types for type variables that a text has not: its typings stay typings
-- the names stay
abbrev Fixes : (List ℕ → Ty) → List (List ℕ) → Type 0
Fixes f [] = Unit {0}
Fixes f (a ∷ as_) = (f a ≡ TyFixed a) × Fixes f as_

fixes_left : (f : List ℕ → Ty) (xs ys : List (List ℕ)) → Fixes f (xs ++ ys) → Fixes f xs
fixes_left f [] ys h = tt
fixes_left f (x ∷ xs) ys h = (h.0, fixes_left f xs ys h.1)

fixes_right : (f : List ℕ → Ty) (xs ys : List (List ℕ)) → Fixes f (xs ++ ys) → Fixes f ys
fixes_right f [] ys h = h
fixes_right f (x ∷ xs) ys h = fixes_right f xs ys h.1

abbrev under : (List ℕ → Ty) → Ty → Ty
under f T = ty_with f TyUnknown T

mutual
  type_stays : (f : List ℕ → Ty) (T : Ty) → Fixes f (names_in_ty true T) → under f T ≡ T
  type_stays f (TyCon c Ts) h = ap (TyCon c) (types_stay f Ts h)
  type_stays f (TyFixed a) h = h.0
  type_stays f (TyUnknown x i) h = refl

  types_stay : (f : List ℕ → Ty) (Ts : Tys) → Fixes f (names_in_tys true Ts) → tys_with f TyUnknown Ts ≡ Ts
  types_stay f NoTys h = refl
  types_stay f (MoreTys T Ts) h =
      let p = type_stays f T (fixes_left f (names_in_ty true T) (names_in_tys true Ts) h) in
      let q = types_stay f Ts (fixes_right f (names_in_ty true T) (names_in_tys true Ts) h) in
      λ i. MoreTys (p i) (q i)

mutual
  instance_under : (f : List ℕ → Ty) (s : List ℕ → ℕ → Ty) (D : Ty) → Fixes f (names_in_ty false D) → under f (instance_at s D) ≡ instance_at (λ x i. under f (s x i)) D
  instance_under f s (TyCon c Ts) h = ap (TyCon c) (instances_under f s Ts h)
  instance_under f s (TyFixed a) h = h.0
  instance_under f s (TyUnknown x i) h = refl

  instances_under : (f : List ℕ → Ty) (s : List ℕ → ℕ → Ty) (Ts : Tys) → Fixes f (names_in_tys false Ts) → tys_with f TyUnknown (tys_with TyFixed s Ts) ≡ tys_with TyFixed (λ x i. under f (s x i)) Ts
  instances_under f s NoTys h = refl
  instances_under f s (MoreTys T Ts) h =
      let p = instance_under f s T (fixes_left f (names_in_ty false T) (names_in_tys false Ts) h) in
      let q = instances_under f s Ts (fixes_right f (names_in_ty false T) (names_in_tys false Ts) h) in
      λ i. MoreTys (p i) (q i)

abbrev scope_under : (List ℕ → Ty) → Scope → Scope
scope_under f [] = []
scope_under f (b ∷ bs) = (b.0, under f b.1) ∷ scope_under f bs

abbrev place_under : (List ℕ → Ty) → Option (ℕ × Ty) → Option (ℕ × Ty)
place_under f None = None
place_under f (Some p) = Some (p.0, under f p.1)

place_next : (f : List ℕ → Ty) (o : Option (ℕ × Ty)) → option_map (λ (p : ℕ × Ty). (p.0 + 1, p.1)) (place_under f o) ≡ place_under f (option_map (λ (p : ℕ × Ty). (p.0 + 1, p.1)) o)
place_next f None = refl
place_next f (Some p) = refl

bound_under : (f : List ℕ → Ty) (x : List ℕ) (G : Scope) → bound_at x (scope_under f G) ≡ place_under f (bound_at x G)
bound_under f x [] = refl
bound_under f x (b ∷ bs) = at (bound_under f x bs) (name_eq x b.0)
  where
    at : bound_at x (scope_under f bs) ≡ place_under f (bound_at x bs) → (t : Bool) → cond t (Some (0, under f b.1)) (option_map (λ (p : ℕ × Ty). (p.0 + 1, p.1)) (bound_at x (scope_under f bs))) ≡ place_under f (cond t (Some (0, b.1)) (option_map (λ (p : ℕ × Ty). (p.0 + 1, p.1)) (bound_at x bs)))
    at ih true = refl
    at ih false = ap (option_map (λ (p : ℕ × Ty). (p.0 + 1, p.1))) ih ∙ place_next f (bound_at x bs)

variables_under : (List ℕ → Ty) → Variables → Variables
variables_under f v = record { free = λ x. under f (v.free x); unknown = λ x. under f (v.unknown x) }

given_under : (f : List ℕ → Ty) (o : Option Ty) (S : Ty) → Fixes f (names_if_any true o) → IfSome o (λ A. A ≡ S) → IfSome o (λ A. A ≡ under f S)
given_under f None S h e = tt
given_under f (Some A) S h e = sym (type_stays f A h) ∙ ap (under f) e

typed_under : (f : List ℕ → Ty) (declared : Declared) (v : Variables) (G : Scope) (u : Raw) (t : Tm) (T : Ty) → Fixes f (names_in declared u) → IsTyped declared v G u t T → IsTyped declared (variables_under f v) (scope_under f G) u (retyped (under f) t) (under f T)
unfolding variables_under
typed_under f declared v _ _ _ _ h (IsBound {G = G} {x = x} {k = k} {T = T} e) = IsBound (bound_under f x G ∙ ap (place_under f) e)
typed_under f declared v _ _ _ _ h (IsConstant {G = G} {x = x} {D = D} s e d) =
    let i : under f (instance_at s D) ≡ instance_at (λ y j. under f (s y j)) D = instance_under f s D (subst (λ (o : Option Ty). Fixes f (names_if_any false o)) d h) in
    subst (λ (S : Ty). IsTyped declared (variables_under f v) (scope_under f G) (RawName x) (Const x S) S) (sym i) (IsConstant (λ y j. under f (s y j)) (bound_under f x G ∙ ap (place_under f) e) d)
typed_under f declared v _ _ _ _ h (IsFree {G = G} {x = x} e d) = IsFree (bound_under f x G ∙ ap (place_under f) e) d
typed_under f declared v _ _ _ _ h (IsUnknown {G = G} {x = x}) = IsUnknown
typed_under f declared v _ _ _ _ h (IsNotation {G = G} {c = c} {D = D} s d) =
    let i : under f (instance_at s D) ≡ instance_at (λ y j. under f (s y j)) D = instance_under f s D (subst (λ (o : Option Ty). Fixes f (names_if_any false o)) d h) in
    subst (λ (S : Ty). IsTyped declared (variables_under f v) (scope_under f G) (RawConst c) (Const c S) S) (sym i) (IsNotation (λ y j. under f (s y j)) d)
typed_under f declared v _ _ _ _ h (IsAnnotated {G = G} {r = r} {t = t} {T = T} p) =
    let e : under f T ≡ T = type_stays f T (fixes_right f (names_in declared r) (names_in_ty true T) h) in
    let q = typed_under f declared v G r t T (fixes_left f (names_in declared r) (names_in_ty true T) h) p in
    subst (λ (S : Ty). IsTyped declared (variables_under f v) (scope_under f G) (RawTyped r T) (retyped (under f) t) S) (sym e)
    (IsAnnotated (subst (λ (S : Ty). IsTyped declared (variables_under f v) (scope_under f G) r (retyped (under f) t) S) e q))
typed_under f declared v _ _ _ _ h (IsAbstraction {G = G} {x = x} {o = o} {r = r} {t = t} {S = S} {T = T} e p) =
    IsAbstraction (given_under f o S (fixes_left f (names_if_any true o) (names_in declared r) h) e) (typed_under f declared v ((x, S) ∷ G) r t T (fixes_right f (names_if_any true o) (names_in declared r) h) p)
typed_under f declared v _ _ _ _ h (IsApplication {G = G} {f = g} {a = a} {t = t} {u = u} {S = S} {T = T} p q) =
    IsApplication (typed_under f declared v G g t (function_of S T) (fixes_left f (names_in declared g) (names_in declared a) h) p) (typed_under f declared v G a u S (fixes_right f (names_in declared g) (names_in declared a) h) q)

typing_under : (f : List ℕ → Ty) (declared : Declared) (u : Raw) (t : Tm) → Fixes f (names_in declared u) → IsTyping declared u t → IsTyping declared u (retyped (under f) t)
typing_under f declared u t h p = record { variables = variables_under f p.variables; typ = under f p.typ; typed = typed_under f declared p.variables [] u t p.typ h p.typed }

-- ---- what two changes of types that agree on a term say of its type variables
abbrev Each : (List ℕ → Type 0) → List (List ℕ) → Type 0
Each P [] = Unit {0}
Each P (a ∷ as_) = P a × Each P as_

each_append : (P : List ℕ → Type 0) (xs ys : List (List ℕ)) → Each P xs → Each P ys → Each P (xs ++ ys)
each_append P [] ys h k = k
each_append P (x ∷ xs) ys h k = (h.0, each_append P xs ys h.1 k)

abbrev Agree : (List ℕ → Ty) → (List ℕ → Ty) → List ℕ → Type 0
Agree f g a = f a ≡ g a

mutual
  type_agrees : (f g : List ℕ → Ty) (T : Ty) → under f T ≡ under g T → Each (Agree f g) (names_in_ty false T)
  type_agrees f g (TyCon c Ts) e = types_agree f g Ts (cc)
  type_agrees f g (TyFixed a) e = (e, tt)
  type_agrees f g (TyUnknown x i) e = tt

  types_agree : (f g : List ℕ → Ty) (Ts : Tys) → tys_with f TyUnknown Ts ≡ tys_with g TyUnknown Ts → Each (Agree f g) (names_in_tys false Ts)
  types_agree f g NoTys e = tt
  types_agree f g (MoreTys T Ts) e = each_append (Agree f g) (names_in_ty false T) (names_in_tys false Ts) (type_agrees f g T (cc)) (types_agree f g Ts (cc))

term_agrees : (f g : List ℕ → Ty) (t : Tm) → retyped (under f) t ≡ retyped (under g) t → Each (Agree f g) (variable_places t)
term_agrees f g (Const c T) e = type_agrees f g T (cc)
term_agrees f g (Free x T) e = type_agrees f g T (cc)
term_agrees f g (Unknown x i T) e = type_agrees f g T (cc)
term_agrees f g (Bound n) e = tt
term_agrees f g (Abs x T b) e = each_append (Agree f g) (names_in_ty false T) (variable_places b) (type_agrees f g T (cc)) (term_agrees f g b (cc))
term_agrees f g (App a b) e = each_append (Agree f g) (variable_places a) (variable_places b) (term_agrees f g a (cc)) (term_agrees f g b (cc))

-- ---- a most general typing has no type variables but the text's and the new ones
-- one name gets another
one_changed : List ℕ → List ℕ → List ℕ → Ty
one_changed b c a = cond (name_eq a b) (TyFixed c) (TyFixed a)

longer_differs : (b : List ℕ) → TyFixed (0 ∷ b) ≡ TyFixed b → ⊥
longer_differs b e = let l : 0 ∷ b ≡ b = cc in absurd (omega (arith, ap length l))

changed_here : (b c : List ℕ) → one_changed b c b ≡ TyFixed c
unfolding one_changed
changed_here b c = ap (λ (t : Bool). cond t (TyFixed c) (TyFixed b)) ((bytes_decides b b).1 refl)

not_changed : (b c a : List ℕ) → name_eq a b ≡ false → one_changed b c a ≡ TyFixed a
unfolding one_changed
not_changed b c a e = ap (λ (t : Bool). cond t (TyFixed c) (TyFixed a)) e

not_beside : (es : List (List ℕ × Ty)) (a : List ℕ) → is_named (names_of es) a ≡ false → type_beside es a ≡ TyFixed a
not_beside [] a h = refl
not_beside (e ∷ es) a h = at (λ k. not_beside es a k) (name_eq a e.0) h
  where
    at : (is_named (names_of es) a ≡ false → type_beside es a ≡ TyFixed a) → (t : Bool) → (t || is_named (names_of es) a) ≡ false → cond t e.1 (type_beside es a) ≡ TyFixed a
    at ih true h = absurd cc
    at ih false h = ih h

-- a text without the name stays under its change
fixes_others : (b c : List ℕ) (ns : List (List ℕ)) → is_named ns b ≡ false → Fixes (one_changed b c) ns
fixes_others b c [] h = tt
fixes_others b c (n ∷ ns) h = at (λ k. fixes_others b c ns k) (name_eq b n) refl h
  where
    other : name_eq b n ≡ false → name_eq n b ≡ false
    other e = by (name_eq n b) refl
      where
        by : (t : Bool) → name_eq n b ≡ t → name_eq n b ≡ false
        by false f = f
        by true f = absurd (let p : n ≡ b = (bytes_decides n b).0 f in let q : name_eq b n ≡ true = (bytes_decides b n).1 (sym p) in cc)

    at : (is_named ns b ≡ false → Fixes (one_changed b c) ns) → (t : Bool) → name_eq b n ≡ t → (t || is_named ns b) ≡ false → Fixes (one_changed b c) (n ∷ ns)
    at ih true e h = absurd cc
    at ih false e h = (not_changed b c n (other e), ih h)

each_at : (P : List ℕ → Type 0) (b : List ℕ) (xs : List (List ℕ)) → Each P xs → is_named xs b ≡ true → P b
each_at P b [] h m = absurd cc
each_at P b (x ∷ xs) h m = at (λ k. each_at P b xs h.1 k) (name_eq b x) refl m
  where
    at : (is_named xs b ≡ true → P b) → (t : Bool) → name_eq b x ≡ t → (t || is_named xs b) ≡ true → P b
    at ih true e m = subst P (sym ((bytes_decides b x).0 e)) h.0
    at ih false e m = ih m

-- a type variable of the typing that the text has not is one of the new ones
is_new : (declared : Declared) (u : Raw) (ns : List (List ℕ)) (p : Tm) → IsMostGeneralTyping declared u ns p → (b : List ℕ) → is_named (variable_places p) b ≡ true → is_named (names_in declared u) b ≡ false → is_named ns b ≡ false → ⊥
is_new declared u ns p g b here free none =
    let other = retyped (under (one_changed b (0 ∷ b))) p in
    let typing = typing_under (one_changed b (0 ∷ b)) declared u p (fixes_others b (0 ∷ b) (names_in declared u) free) g.is_typing in
    let i = g.is_general other typing in
    let agrees = each_at (Agree (one_changed b (0 ∷ b)) (type_beside i.0)) b (variable_places p) (term_agrees (one_changed b (0 ∷ b)) (type_beside i.0) p i.1.1) here in
    let stays : type_beside i.0 b ≡ TyFixed b = not_beside i.0 b (ap (λ (ms : List (List ℕ)). is_named ms b) i.1.0 ∙ none) in
    longer_differs b (sym (changed_here b (0 ∷ b)) ∙ agrees ∙ stays)

-- ---- type variables that become one another
abbrev Pair : List (List ℕ × Ty) → List (List ℕ × Ty) → List ℕ → List ℕ → Type 0
Pair es fs a b = (type_beside es a ≡ TyFixed b) × (type_beside fs b ≡ TyFixed a)

abbrev Pairs : (List ℕ → List ℕ → Type 0) → List (List ℕ) → List (List ℕ) → Type 0
Pairs P [] [] = Unit {0}
Pairs P [] (b ∷ bs) = ⊥
Pairs P (a ∷ as_) [] = ⊥
Pairs P (a ∷ as_) (b ∷ bs) = P a b × Pairs P as_ bs

pairs_append : (P : List ℕ → List ℕ → Type 0) (as_ bs cs ds : List (List ℕ)) → Pairs P as_ bs → Pairs P cs ds → Pairs P (as_ ++ cs) (bs ++ ds)
pairs_append P [] [] cs ds h k = k
pairs_append P [] (b ∷ bs) cs ds h k = absurd h
pairs_append P (a ∷ as_) [] cs ds h k = absurd h
pairs_append P (a ∷ as_) (b ∷ bs) cs ds h k = (h.0, pairs_append P as_ bs cs ds h.1 k)

fixed_back : (es fs : List (List ℕ × Ty)) (a : List ℕ) (X : Ty) → type_beside es a ≡ X → with_types fs X ≡ TyFixed a → Pairs (Pair es fs) (a ∷ []) (names_in_ty false X)
fixed_back es fs a (TyFixed b) e f = ((e, f), tt)
fixed_back es fs a (TyCon c Ts) e f = absurd cc
fixed_back es fs a (TyUnknown x i) e f = absurd cc

mutual
  type_pairs : (es fs : List (List ℕ × Ty)) (T : Ty) → with_types fs (with_types es T) ≡ T → Pairs (Pair es fs) (names_in_ty false T) (names_in_ty false (with_types es T))
  type_pairs es fs (TyCon c Ts) e = types_pairs es fs Ts (cc)
  type_pairs es fs (TyFixed a) e = fixed_back es fs a (type_beside es a) refl e
  type_pairs es fs (TyUnknown x i) e = tt

  types_pairs : (es fs : List (List ℕ × Ty)) (Ts : Tys) → tys_with (type_beside fs) TyUnknown (tys_with (type_beside es) TyUnknown Ts) ≡ Ts → Pairs (Pair es fs) (names_in_tys false Ts) (names_in_tys false (tys_with (type_beside es) TyUnknown Ts))
  types_pairs es fs NoTys e = tt
  types_pairs es fs (MoreTys T Ts) e =
      pairs_append (Pair es fs) (names_in_ty false T) (names_in_ty false (with_types es T)) (names_in_tys false Ts) (names_in_tys false (tys_with (type_beside es) TyUnknown Ts)) (type_pairs es fs T (cc)) (types_pairs es fs Ts (cc))

term_pairs : (es fs : List (List ℕ × Ty)) (t : Tm) → retyped (with_types fs) (retyped (with_types es) t) ≡ t → Pairs (Pair es fs) (variable_places t) (variable_places (retyped (with_types es) t))
term_pairs es fs (Const c T) e = type_pairs es fs T (cc)
term_pairs es fs (Free x T) e = type_pairs es fs T (cc)
term_pairs es fs (Unknown x i T) e = type_pairs es fs T (cc)
term_pairs es fs (Bound n) e = tt
term_pairs es fs (Abs x T b) e = pairs_append (Pair es fs) (names_in_ty false T) (names_in_ty false (with_types es T)) (variable_places b) (variable_places (retyped (with_types es) b)) (type_pairs es fs T (cc)) (term_pairs es fs b (cc))
term_pairs es fs (App a b) e = pairs_append (Pair es fs) (variable_places a) (variable_places (retyped (with_types es) a)) (variable_places b) (variable_places (retyped (with_types es) b)) (term_pairs es fs a (cc)) (term_pairs es fs b (cc))

-- what is the same on one side is the same on the other
same_partner : (es fs : List (List ℕ × Ty)) (a b c d : List ℕ) → Pair es fs a b → Pair es fs c d → name_eq a c ≡ name_eq b d
same_partner es fs a b c d p q = by (name_eq a c) (name_eq b d) refl refl
  where
    by : (s t : Bool) → name_eq a c ≡ s → name_eq b d ≡ t → s ≡ t
    by true true e f = refl
    by false false e f = refl
    by true false e f =
        let m : a ≡ c = (bytes_decides a c).0 e in
        let n : TyFixed b ≡ TyFixed d = sym p.0 ∙ ap (type_beside es) m ∙ q.0 in
        let o : b ≡ d = cc in
        let r : name_eq b d ≡ true = (bytes_decides b d).1 o in
        cc
    by false true e f =
        let m : b ≡ d = (bytes_decides b d).0 f in
        let n : TyFixed a ≡ TyFixed c = sym p.1 ∙ ap (type_beside fs) m ∙ q.1 in
        let o : a ≡ c = cc in
        let r : name_eq a c ≡ true = (bytes_decides a c).1 o in
        cc

same_named : (es fs : List (List ℕ × Ty)) (a b : List ℕ) (as_ bs : List (List ℕ)) → Pair es fs a b → Pairs (Pair es fs) as_ bs → is_named as_ a ≡ is_named bs b
same_named es fs a b [] [] p h = refl
same_named es fs a b [] (d ∷ ds) p h = absurd h
same_named es fs a b (c ∷ cs) [] p h = absurd h
same_named es fs a b (c ∷ cs) (d ∷ ds) p h =
    let e = same_partner es fs a b c d p h.0 in
    let f = same_named es fs a b cs ds p h.1 in
    λ i. e i || f i

-- both are new, or neither is
abbrev BothNew : List (List ℕ) → List (List ℕ) → List (List ℕ × Ty) → List (List ℕ × Ty) → List ℕ → List ℕ → Type 0
BothNew ns ms es fs a b = Pair es fs a b × (is_named ns a ≡ is_named ms b)

noted_pairs : (es fs : List (List ℕ × Ty)) (a b : List ℕ) (as_ bs : List (List ℕ)) → Pair es fs a b → Pairs (Pair es fs) as_ bs → Pairs (Pair es fs) (noted_name as_ a) (noted_name bs b)
noted_pairs es fs a b as_ bs p h = by (is_named as_ a) (is_named bs b) (same_named es fs a b as_ bs p h)
  where
    by : (s t : Bool) → s ≡ t → Pairs (Pair es fs) (cond s as_ (as_ ++ a ∷ [])) (cond t bs (bs ++ b ∷ []))
    by true true e = h
    by false false e = pairs_append (Pair es fs) as_ bs (a ∷ []) (b ∷ []) h (p, tt)
    by true false e = absurd cc
    by false true e = absurd cc

occurrence_pairs : (ns ms : List (List ℕ)) (es fs : List (List ℕ × Ty)) (seen seen' xs ys : List (List ℕ)) → Pairs (Pair es fs) seen seen' → Pairs (BothNew ns ms es fs) xs ys → Pairs (Pair es fs) (first_occurrences ns seen xs) (first_occurrences ms seen' ys)
occurrence_pairs ns ms es fs seen seen' [] [] s h = s
occurrence_pairs ns ms es fs seen seen' [] (y ∷ ys) s h = absurd h
occurrence_pairs ns ms es fs seen seen' (x ∷ xs) [] s h = absurd h
occurrence_pairs ns ms es fs seen seen' (x ∷ xs) (y ∷ ys) s h = occurrence_pairs ns ms es fs (cond (is_named ns x) (noted_name seen x) seen) (cond (is_named ms y) (noted_name seen' y) seen') xs ys (by (is_named ns x) (is_named ms y) h.0.1) h.1
  where
    by : (t v : Bool) → t ≡ v → Pairs (Pair es fs) (cond t (noted_name seen x) seen) (cond v (noted_name seen' y) seen')
    by true true e = noted_pairs es fs x y seen seen' h.0.0 s
    by false false e = s
    by true false e = absurd cc
    by false true e = absurd cc

-- ---- new names of one number are the same
not_both : (b : Bool) → b ≡ true → b ≡ false → ⊥
not_both b e f = cc

one_first : (taken : List (List ℕ)) (x y : List ℕ) → IsFirstFree taken x → IsFirstFree taken y → x ≡ y
one_first taken x y p q = by (cases_lt p.number q.number)
  where
    taken_by : (m : ℕ) (z : List ℕ) → z ≡ variable_name m → is_named taken z ≡ false → is_named taken (variable_name m) ≡ true → ⊥
    taken_by m z e f t = not_both (is_named taken (variable_name m)) t (subst (λ (w : List ℕ). is_named taken w ≡ false) e f)

    same : (q.number < p.number) ⊎ (p.number ≤ q.number) → q.number ≤ p.number → x ≡ y
    same (inl h) k = absurd (taken_by q.number y q.name q.is_free (p.is_first q.number h))
    same (inr h) k = let e : p.number ≡ q.number = omega (arith, h, k) in p.name ∙ ap variable_name e ∙ sym q.name

    by : (p.number < q.number) ⊎ (q.number ≤ p.number) → x ≡ y
    by (inl h) = absurd (taken_by p.number x p.name p.is_free (q.is_first p.number h))
    by (inr h) = same (cases_lt q.number p.number) h

same_names : (taken ns ms : List (List ℕ)) → AreFirstFree taken ns → AreFirstFree taken ms → length ns ≡ length ms → ns ≡ ms
same_names taken [] [] f g e = refl
same_names taken [] (m ∷ ms) f g e = absurd (omega (arith, e))
same_names taken (n ∷ ns) [] f g e = absurd (omega (arith, e))
same_names taken (n ∷ ns) (m ∷ ms) f g e =
    let first : n ≡ m = one_first taken n m f.0 g.0 in
    let rest : ns ≡ ms = same_names (taken ++ n ∷ []) ns ms f.1 (subst (λ (a : List ℕ). AreFirstFree (taken ++ a ∷ []) ms) (sym first) g.1) (omega (arith, e)) in
    λ i. first i ∷ rest i

pairs_length : (P : List ℕ → List ℕ → Type 0) (as_ bs : List (List ℕ)) → Pairs P as_ bs → length as_ ≡ length bs
pairs_length P [] [] h = refl
pairs_length P [] (b ∷ bs) h = absurd h
pairs_length P (a ∷ as_) [] h = absurd h
pairs_length P (a ∷ as_) (b ∷ bs) h = ap suc (pairs_length P as_ bs h.1)

-- ---- both are new, or neither is
-- a type variable that neither the text nor the new names have does not stand there
abbrev Within : List (List ℕ) → List (List ℕ) → List ℕ → Type 0
Within taken ns a = is_named taken a ≡ false → is_named ns a ≡ false → ⊥

own_name : (x : List ℕ) (xs : List (List ℕ)) → is_named (x ∷ xs) x ≡ true
own_name x xs = ap (λ (t : Bool). t || is_named xs x) ((bytes_decides x x).1 refl)

more_named : (b c : Bool) → c ≡ true → (b || c) ≡ true
more_named true c e = refl
more_named false c e = e

both_new : (taken ns ms : List (List ℕ)) (es fs : List (List ℕ × Ty)) → AreFirstFree taken ns → AreFirstFree taken ms → names_of es ≡ ns → names_of fs ≡ ms → (xs ys : List (List ℕ)) → ((a : List ℕ) → is_named xs a ≡ true → Within taken ns a) → ((b : List ℕ) → is_named ys b ≡ true → Within taken ms b) → Pairs (Pair es fs) xs ys → Pairs (BothNew ns ms es fs) xs ys
both_new taken ns ms es fs f g e k [] [] p q h = tt
both_new taken ns ms es fs f g e k [] (y ∷ ys) p q h = absurd h
both_new taken ns ms es fs f g e k (x ∷ xs) [] p q h = absurd h
both_new taken ns ms es fs f g e k (x ∷ xs) (y ∷ ys) p q h = ((h.0, by (is_named ns x) (is_named ms y) refl refl), both_new taken ns ms es fs f g e k xs ys (λ a m. p a (more_named (name_eq a x) (is_named xs a) m)) (λ b m. q b (more_named (name_eq b y) (is_named ys b) m)) h.1)
  where
    by : (s t : Bool) → is_named ns x ≡ s → is_named ms y ≡ t → s ≡ t
    by true true a b = refl
    by false false a b = refl
    by true false a b =
        let stays : type_beside fs y ≡ TyFixed y = not_beside fs y (ap (λ (l : List (List ℕ)). is_named l y) k ∙ b) in
        let there : TyFixed y ≡ TyFixed x = sym stays ∙ h.0.1 in
        let same : y ≡ x = cc in
        absurd (q y (own_name y ys) (subst (λ (z : List ℕ). is_named taken z ≡ false) (sym same) (new_not_taken taken ns f x a)) b)
    by false true a b =
        let stays : type_beside es x ≡ TyFixed x = not_beside es x (ap (λ (l : List (List ℕ)). is_named l x) e ∙ a) in
        let there : TyFixed x ≡ TyFixed y = sym stays ∙ h.0.0 in
        let same : x ≡ y = cc in
        absurd (p x (own_name x xs) (subst (λ (z : List ℕ). is_named taken z ≡ false) (sym same) (new_not_taken taken ms g y b)) a)

-- ---- one most general typing
self_paired : (es fs : List (List ℕ × Ty)) (ns : List (List ℕ)) → Pairs (Pair es fs) ns ns → (a : List ℕ) → is_named ns a ≡ true → type_beside es a ≡ TyFixed a
self_paired es fs [] h a m = absurd cc
self_paired es fs (n ∷ ns) h a m = at (λ k. self_paired es fs ns h.1 a k) (name_eq a n) refl m
  where
    at : (is_named ns a ≡ true → type_beside es a ≡ TyFixed a) → (t : Bool) → name_eq a n ≡ t → (t || is_named ns a) ≡ true → type_beside es a ≡ TyFixed a
    at ih true e m = subst (λ (b : List ℕ). type_beside es b ≡ TyFixed b) (sym ((bytes_decides a n).0 e)) h.0.0
    at ih false e m = ih m

mutual
  type_same : (f : List ℕ → Ty) → ((a : List ℕ) → f a ≡ TyFixed a) → (T : Ty) → under f T ≡ T
  type_same f h (TyCon c Ts) = ap (TyCon c) (types_same f h Ts)
  type_same f h (TyFixed a) = h a
  type_same f h (TyUnknown x i) = refl

  types_same : (f : List ℕ → Ty) → ((a : List ℕ) → f a ≡ TyFixed a) → (Ts : Tys) → tys_with f TyUnknown Ts ≡ Ts
  types_same f h NoTys = refl
  types_same f h (MoreTys T Ts) = let p = type_same f h T in let q = types_same f h Ts in λ i. MoreTys (p i) (q i)

one_typing : (declared : Declared) (u : Raw) (ns ms : List (List ℕ)) (p q : Tm) → IsMostGeneralTyping declared u ns p → IsMostGeneralTyping declared u ms q → p ≡ q
one_typing declared u ns ms p q g h =
    let to = g.is_general q h.is_typing in
    let fro = h.is_general p g.is_typing in
    let es = to.0 in
    let fs = fro.0 in
    let back : retyped (with_types fs) (retyped (with_types es) p) ≡ p = ap (retyped (with_types fs)) (sym to.1.1) ∙ sym fro.1.1 in
    let paired : Pairs (Pair es fs) (variable_places p) (variable_places q) = subst (λ (t : Tm). Pairs (Pair es fs) (variable_places p) (variable_places t)) (sym to.1.1) (term_pairs es fs p back) in
    let new : Pairs (BothNew ns ms es fs) (variable_places p) (variable_places q) =
    both_new (names_in declared u) ns ms es fs g.are_new h.are_new to.1.0 fro.1.0 (variable_places p) (variable_places q) (λ a m. is_new declared u ns p g a m) (λ b m. is_new declared u ms q h b m) paired in
    let occur : Pairs (Pair es fs) (first_occurrences ns [] (variable_places p)) (first_occurrences ms [] (variable_places q)) = occurrence_pairs ns ms es fs [] [] (variable_places p) (variable_places q) tt new in
    let names : Pairs (Pair es fs) ns ms = subst (λ (l : List (List ℕ)). Pairs (Pair es fs) l ms) g.in_order (subst (λ (l : List (List ℕ)). Pairs (Pair es fs) (first_occurrences ns [] (variable_places p)) l) h.in_order occur) in
    let same : ns ≡ ms = same_names (names_in declared u) ns ms g.are_new h.are_new (pairs_length (Pair es fs) ns ms names) in
    let own : Pairs (Pair es fs) ns ns = subst (λ (l : List (List ℕ)). Pairs (Pair es fs) ns l) (sym same) names in
    let stays : (a : List ℕ) → type_beside es a ≡ TyFixed a = λ a. each_name es fs ns own to.1.0 a in
    sym (retyped_nothing p) ∙ sym (retyped_same (with_types es) (λ T. T) (type_same (type_beside es) stays) p) ∙ sym to.1.1
  where
    each_name : (es fs : List (List ℕ × Ty)) (ns : List (List ℕ)) → Pairs (Pair es fs) ns ns → names_of es ≡ ns → (a : List ℕ) → type_beside es a ≡ TyFixed a
    each_name es fs ns own e a = at (is_named ns a) refl
      where
        at : (t : Bool) → is_named ns a ≡ t → type_beside es a ≡ TyFixed a
        at true m = self_paired es fs ns own a m
        at false m = not_beside es a (ap (λ (l : List (List ℕ)). is_named l a) e ∙ m)

-- a text has one principal term at most
pub one_principal : (declared : Declared) (u : Raw) (t s : Tm) → IsPrincipal declared u t → IsPrincipal declared u s → t ≡ s
one_principal declared u t s p q = p.is_normal_form ∙ ap norm (one_typing declared u p.names q.names p.typing q.typing p.is_most_general q.is_most_general) ∙ sym q.is_normal_form

-- and none where it has no typing
pub typed_or_not : (declared : Declared) (u : Raw) (t : Tm) → IsPrincipal declared u t → ((s : Tm) → IsTyping declared u s → ⊥) → ⊥
typed_or_not declared u t p n = n p.typing p.is_most_general.is_typing
