-- Typings are well typed, and normal forms keep the types of variables.
use Rattle.std.proofs.Common.{◌≡◌, ℕ, zero, suc, ◌+◌, ◌-◌, List, [], ◌∷◌, map, Bool, true, false, cond, nat_eq, nat_lt, Option, Some, None, refl, sym, ap, ◌∙◌, subst, arith}
use Rattle.std.specs.Prelude.{option_map, slice_get}
use Rattle.isa_terms.specs.Types.{Ty}
use Rattle.isa_terms.specs.Terms.{Tm, Const, Free, Unknown, Bound, Abs, App}
use Rattle.isa_terms.specs.Equal.{name_eq}
use Rattle.isa_terms.specs.Typing.{HasType}
use Rattle.isa_terms.specs.Typed.{Typed, TConst, TFree, TUnknown, TBound, TAbs, TApp}
use Rattle.isa_terms.specs.Replace.{raise, put, replace}
use Rattle.isa_terms.specs.Norm.{norm, loose, eta, eta_at, put_normal, beta, apply, levels}
use Rattle.isa_terms.specs.Normal.{IsNormal}
use Rattle.isa_terms.proofs.Typed.{type_of_typed, get_at, get_after}
use Rattle.isa_terms.proofs.Loose.{one_more}
use Rattle.isa_terms.proofs.ConversionLaws.{normal_forms_are_normal_law}
use Rattle.isa_raw.specs.RawTerms.{Raw, RawTyped}
use Rattle.isa_typing.specs.Scopes.{Declared, Scope, bound_at}
use Rattle.isa_typing.specs.Typings.{Variables, IsTyped, IsBound, IsConstant, IsFree, IsUnknown, IsNotation, IsAnnotated, IsAbstraction, IsApplication}
use Rattle.isa_typing.specs.Principal.{IsPrincipal}
use Rattle.isa_typing.specs.WellTyped.{HaveTypes, PrincipalTermsAreTyped, AnnotationsHold, VariablesHaveOneType}

-- the types of the binders round a place
abbrev types_in : Scope → List Ty
types_in G = map (λ (b : List ℕ × Ty). b.1) G

bound_there : (x : List ℕ) (G : Scope) (p : ℕ × Ty) → bound_at x G ≡ Some p → slice_get (types_in G) p.0 ≡ Some p.1
bound_there x [] p e = absurd (cc)
bound_there x (b ∷ bs) p e = at (λ q w. bound_there x bs q w) (name_eq x b.0) e where
  inner : ((q : ℕ × Ty) → bound_at x bs ≡ Some q → slice_get (types_in bs) q.0 ≡ Some q.1) → (o : Option (ℕ × Ty)) → bound_at x bs ≡ o → option_map (λ (q : ℕ × Ty). (q.0 + 1, q.1)) o ≡ Some p → slice_get (types_in (b ∷ bs)) p.0 ≡ Some p.1
  inner ih None w h = absurd (cc)
  inner ih (Some q) w h =
      let c : (q.0 + 1, q.1) ≡ p = cc in
      let there : slice_get (types_in (b ∷ bs)) (suc q.0) ≡ Some q.1 = get_after [] (types_in bs) b.1 q.0 (omega arith) ∙ ih q w in
      subst (λ (z : ℕ × Ty). slice_get (types_in (b ∷ bs)) z.0 ≡ Some z.1) c (subst (λ m. slice_get (types_in (b ∷ bs)) m ≡ Some q.1) (one_more q.0) there)

  at : ((q : ℕ × Ty) → bound_at x bs ≡ Some q → slice_get (types_in bs) q.0 ≡ Some q.1) → (v : Bool) → cond v (Some (0, b.1)) (option_map (λ (q : ℕ × Ty). (q.0 + 1, q.1)) (bound_at x bs)) ≡ Some p → slice_get (types_in (b ∷ bs)) p.0 ≡ Some p.1
  at ih true h =
      let c : (0, b.1) ≡ p = cc in
      subst (λ (z : ℕ × Ty). slice_get (types_in (b ∷ bs)) z.0 ≡ Some z.1) c (get_at [] (types_in bs) b.1)
  at ih false h = inner ih (bound_at x bs) refl h

typing_typed : {declared : Declared} {v : Variables} {G : Scope} {u : Raw} {t : Tm} {T : Ty} → IsTyped declared v G u t T → Typed (types_in G) t T
typing_typed (IsBound {G} {x} {k} {T} e) = TBound (bound_there x G (k, T) e)
typing_typed (IsConstant s e d) = TConst
typing_typed (IsFree e d) = TFree
typing_typed IsUnknown = TUnknown
typing_typed (IsNotation s d) = TConst
typing_typed (IsAnnotated h) = typing_typed h
typing_typed (IsAbstraction e h) = TAbs (typing_typed h)
typing_typed (IsApplication f a) = TApp (typing_typed f) (typing_typed a)

typing_variables : {declared : Declared} {v : Variables} {G : Scope} {u : Raw} {t : Tm} {T : Ty} → IsTyped declared v G u t T → HaveTypes v t
typing_variables (IsBound e) = tt
typing_variables (IsConstant s e d) = tt
typing_variables (IsFree e d) = refl
typing_variables IsUnknown = (refl, refl)
typing_variables (IsNotation s d) = tt
typing_variables (IsAnnotated h) = typing_variables h
typing_variables (IsAbstraction e h) = typing_variables h
typing_variables (IsApplication f a) = (typing_variables f, typing_variables a)

annotated_type : {declared : Declared} {v : Variables} {G : Scope} {u : Raw} {S : Ty} {t : Tm} {T : Ty} → IsTyped declared v G (RawTyped u S) t T → T ≡ S
annotated_type (IsAnnotated h) = refl

-- variables under replacement and normalising

either_bound : (v : Variables) (b : Bool) (i j : ℕ) → HaveTypes v (cond b (Bound i) (Bound j))
either_bound v true i j = tt
either_bound v false i j = tt

raise_keeps : (v : Variables) (n k : ℕ) (t : Tm) → HaveTypes v t → HaveTypes v (raise n k t)
raise_keeps v n k (Const x T) h = tt
raise_keeps v n k (Free x T) h = h
raise_keeps v n k (Unknown x i T) h = h
raise_keeps v n k (Bound i) h = either_bound v (nat_lt i k) i (i + n)
raise_keeps v n k (Abs x T b) h = raise_keeps v n (k + 1) b h
raise_keeps v n k (App f a) h = (raise_keeps v n k f h.0, raise_keeps v n k a h.1)

put_bound : (v : Variables) (a : Tm) (b c : Bool) (i j : ℕ) → HaveTypes v a → HaveTypes v (cond b a (cond c (Bound i) (Bound j)))
put_bound v a true c i j h = h
put_bound v a false c i j h = either_bound v c i j

put_keeps : (v : Variables) (a : Tm) (k : ℕ) (t : Tm) → HaveTypes v a → HaveTypes v t → HaveTypes v (put a k t)
put_keeps v a k (Const x T) g h = tt
put_keeps v a k (Free x T) g h = h
put_keeps v a k (Unknown x i T) g h = h
put_keeps v a k (Bound i) g h = put_bound v (raise k 0 a) (nat_eq i k) (nat_lt k i) (i - 1) i (raise_keeps v k 0 a g)
put_keeps v a k (Abs x T b) g h = put_keeps v a (k + 1) b g h
put_keeps v a k (App f b) g h = (put_keeps v a k f g h.0, put_keeps v a k b g h.1)

eta_choice : (v : Variables) (b c : Bool) (t u : Tm) → HaveTypes v t → HaveTypes v u → HaveTypes v (cond b (cond c t u) t)
eta_choice v true true t u g h = g
eta_choice v true false t u g h = h
eta_choice v false c t u g h = g

eta_at_keeps : (v : Variables) (x : List ℕ) (T : Ty) (f a : Tm) → HaveTypes v f → HaveTypes v a → HaveTypes v (eta_at x T f a)
eta_at_keeps v x T f (Const y S) g h = (g, h)
eta_at_keeps v x T f (Free y S) g h = (g, h)
eta_at_keeps v x T f (Unknown y i S) g h = (g, h)
eta_at_keeps v x T f (Bound i) g h = eta_choice v (nat_eq i 0) (loose 0 f) (Abs x T (App f (Bound i))) (replace f (Bound 0)) (g, tt) (put_keeps v (Bound 0) 0 f tt g)
eta_at_keeps v x T f (Abs y S b) g h = (g, h)
eta_at_keeps v x T f (App c d) g h = (g, h)

eta_keeps : (v : Variables) (x : List ℕ) (T : Ty) (b : Tm) → HaveTypes v b → HaveTypes v (eta x T b)
eta_keeps v x T (Const y S) h = h
eta_keeps v x T (Free y S) h = h
eta_keeps v x T (Unknown y i S) h = h
eta_keeps v x T (Bound i) h = h
eta_keeps v x T (Abs y S b) h = h
eta_keeps v x T (App f a) h = eta_at_keeps v x T f a h.0 h.1

-- an application that keeps the types of variables
abbrev Keeps : Variables → (Tm → Tm → Tm) → Type 0
Keeps v app = (f a : Tm) → HaveTypes v f → HaveTypes v a → HaveTypes v (app f a)

put_normal_keeps : (v : Variables) (app : Tm → Tm → Tm) → Keeps v app → (a : Tm) (k : ℕ) (t : Tm) → HaveTypes v a → HaveTypes v t → HaveTypes v (put_normal app a k t)
put_normal_keeps v app s a k (Const x T) g h = tt
put_normal_keeps v app s a k (Free x T) g h = h
put_normal_keeps v app s a k (Unknown x i T) g h = h
put_normal_keeps v app s a k (Bound i) g h = put_bound v (raise k 0 a) (nat_eq i k) (nat_lt k i) (i - 1) i (raise_keeps v k 0 a g)
put_normal_keeps v app s a k (Abs x T b) g h = eta_keeps v x T (put_normal app a (k + 1) b) (put_normal_keeps v app s a (k + 1) b g h)
put_normal_keeps v app s a k (App f b) g h = s (put_normal app a k f) (put_normal app a k b) (put_normal_keeps v app s a k f g h.0) (put_normal_keeps v app s a k b g h.1)

beta_keeps : (v : Variables) (app : Tm → Tm → Tm) → Keeps v app → Keeps v (beta app)
beta_keeps v app s (Const x T) a g h = (g, h)
beta_keeps v app s (Free x T) a g h = (g, h)
beta_keeps v app s (Unknown x i T) a g h = (g, h)
beta_keeps v app s (Bound i) a g h = (g, h)
beta_keeps v app s (Abs x T b) a g h = put_normal_keeps v app s a 0 b h g
beta_keeps v app s (App f b) a g h = (g, h)

apply_keeps : (v : Variables) (n : ℕ) → Keeps v (apply n)
apply_keeps v zero f a g h = (g, h)
apply_keeps v (suc n) f a g h = beta_keeps v (apply n) (apply_keeps v n) f a g h

norm_keeps : (v : Variables) (t : Tm) → HaveTypes v t → HaveTypes v (norm t)
norm_keeps v (Const x T) h = tt
norm_keeps v (Free x T) h = h
norm_keeps v (Unknown x i T) h = h
norm_keeps v (Bound i) h = tt
norm_keeps v (Abs x T b) h = eta_keeps v x T (norm b) (norm_keeps v b h)
norm_keeps v (App f a) h = apply_keeps v (levels (norm f)) (norm f) (norm a) (norm_keeps v f h.0) (norm_keeps v a h.1)

-- the laws

pub principal_terms_are_typed_law : PrincipalTermsAreTyped
principal_terms_are_typed_law declared u t p =
    let m = p.is_most_general.is_typing in
    let n = normal_forms_are_normal_law p.typing m.typ (type_of_typed (typing_typed m.typed)) in
    (m.typ, subst (λ z. HasType z m.typ × IsNormal z) (sym p.is_normal_form) n)

pub annotations_hold_law : AnnotationsHold
annotations_hold_law declared u T t p =
    let m = p.is_most_general.is_typing in
    let h = (normal_forms_are_normal_law p.typing m.typ (type_of_typed (typing_typed m.typed))).0 in
    let e : HasType t m.typ = subst (λ z. HasType z m.typ) (sym p.is_normal_form) h in
    subst (HasType t) (annotated_type m.typed) e

pub variables_have_one_type_law : VariablesHaveOneType
variables_have_one_type_law declared u t p =
    let m = p.is_most_general.is_typing in
    (m.variables, subst (HaveTypes m.variables) (sym p.is_normal_form) (norm_keeps m.variables p.typing (typing_variables m.typed)))
