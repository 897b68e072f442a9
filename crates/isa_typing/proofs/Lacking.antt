-- Type variables that a text lacks: its principal typing lacks them too.
use Rattle.std.proofs.Common.{◌≡◌, ℕ, zero, suc, ◌+◌, List, [], ◌∷◌, ◌++◌, Bool, true, false, cond, ◌||◌, Option, Some, None, refl, sym, ap, ◌∙◌, subst}
use Rattle.isa_terms.specs.Types.{Ty, Tys, TyCon, TyFixed, TyUnknown, NoTys, MoreTys}
use Rattle.isa_terms.specs.Terms.{Tm, Const, Free, Unknown, Bound, Abs, App}
use Rattle.isa_terms.specs.Typing.{function_of}
use Rattle.isa_terms.specs.Equal.{name_eq}
use Rattle.isa_terms.specs.Generalize.{is_named}
use Rattle.isa_terms.specs.Instance.{inst_ty, inst_tys}
use Rattle.isa_terms.specs.declared.inst.TypeEntry.{TypeEntry}
use Rattle.std.specs.Prelude.{option_map}
use Rattle.isa_unify.specs.TypeUnification.{Unifies, IsMostGeneral}
use Rattle.isa_typing.specs.Marks.{ty_with, tys_with, retyped, spelled, named, kept, kept_variable, kept_unknown, constant_unknown, constant_type_at, node_type, free_type, unknown_type}
use Rattle.isa_typing.specs.Typings.{instance_at}
use Rattle.isa_typing.specs.TextNames.{names_in_ty, names_in_tys, names_if_any, names_in}
use Rattle.isa_raw.specs.RawTerms.{Raw, RawName, RawUnknown, RawConst, RawTyped, RawAbs, RawApp, raw_size}
use Rattle.isa_typing.specs.Scopes.{Declared, Scope, bound_at}
use Rattle.isa_typing.specs.Inference.{Inferred, atom, constant_inferred, impossible, undeclared, notation_inferred, global_inferred, name_inferred, binder_type, annotated, abstracted, applied, inferred}
use Rattle.isa_typing.proofs.Replacing.{named-spelled}
use Rattle.isa_typing.proofs.Solutions.{Solution, Solves, wanted}
use Rattle.isa_typing.proofs.Unifiers.{solution_of, inst_ty_at, unifier_solves, most_general_at}

pub not_left : (a b : Bool) → (a || b) ≡ false → a ≡ false
not_left false b e = refl
not_left true b e = e

pub not_right : (a b : Bool) → (a || b) ≡ false → b ≡ false
not_right false b e = e
not_right true b e = absurd (cc)

pub not_named_left : (ns ms : List (List ℕ)) (a : List ℕ) → is_named (ns ++ ms) a ≡ false → is_named ns a ≡ false
not_named_left [] ms a h = refl
not_named_left (n ∷ ns) ms a h = at (λ w. not_named_left ns ms a w) (name_eq a n) h where
  at : (is_named (ns ++ ms) a ≡ false → is_named ns a ≡ false) → (v : Bool) → (v || is_named (ns ++ ms) a) ≡ false → (v || is_named ns a) ≡ false
  at ih true w = w
  at ih false w = ih w

pub not_named_right : (ns ms : List (List ℕ)) (a : List ℕ) → is_named (ns ++ ms) a ≡ false → is_named ms a ≡ false
not_named_right [] ms a h = h
not_named_right (n ∷ ns) ms a h = not_named_right ns ms a (not_right (name_eq a n) (is_named (ns ++ ms) a) h)

-- no type variable of the type stands for a type variable or type unknown a of the text
abbrev mutual
  pub Lacks : List ℕ → Ty → Type 0
  Lacks a (TyCon c Ts) = AllLack a Ts
  Lacks a (TyFixed y) = name_eq a (named y) ≡ false
  Lacks a (TyUnknown x i) = Unit {0}

  pub AllLack : List ℕ → Tys → Type 0
  AllLack a NoTys = Unit {0}
  AllLack a (MoreTys T Ts) = Lacks a T × AllLack a Ts

-- it holds of each type of the term
abbrev pub OfTypes : (Ty → Type 0) → Tm → Type 0
OfTypes P (Const c T) = P T
OfTypes P (Free x T) = P T
OfTypes P (Unknown x i T) = P T
OfTypes P (Bound n) = Unit {0}
OfTypes P (Abs x T b) = P T × OfTypes P b
OfTypes P (App f a) = OfTypes P f × OfTypes P a

abbrev EquationsLack : List ℕ → List (Ty × Ty) → Type 0
EquationsLack a [] = Unit {0}
EquationsLack a (e ∷ es) = Lacks a e.0 × (Lacks a e.1 × EquationsLack a es)

equations_lack : (a : List ℕ) (ds es : List (Ty × Ty)) → EquationsLack a ds → EquationsLack a es → EquationsLack a (ds ++ es)
equations_lack a [] es p q = q
equations_lack a (d ∷ ds) es p q = (p.0, (p.1.0, equations_lack a ds es p.1.1 q))

abbrev ScopeLacks : List ℕ → Scope → Type 0
ScopeLacks a [] = Unit {0}
ScopeLacks a (b ∷ bs) = Lacks a b.1 × ScopeLacks a bs

pub record InferredLacks (a : List ℕ) (p : Inferred) : Type 0 where
  pub term : OfTypes (Lacks a) p.term
  pub typ : Lacks a p.typ
  pub equations : EquationsLack a p.equations

-- the types of the text
mutual
  kept_lacks : (a : List ℕ) (T : Ty) → is_named (names_in_ty true T) a ≡ false → Lacks a (kept T)
  kept_lacks a (TyCon c Ts) h = all_kept_lack a Ts h
  kept_lacks a (TyFixed b) h = not_left (name_eq a b) false h
  kept_lacks a (TyUnknown x i) h = subst (λ y. name_eq a y ≡ false) (sym (named-spelled (suc i) x)) (not_left (name_eq a x) false h)

  all_kept_lack : (a : List ℕ) (Ts : Tys) → is_named (names_in_tys true Ts) a ≡ false → AllLack a (tys_with kept_variable kept_unknown Ts)
  all_kept_lack a NoTys h = tt
  all_kept_lack a (MoreTys T Ts) h = (kept_lacks a T (not_named_left (names_in_ty true T) (names_in_tys true Ts) a h), all_kept_lack a Ts (not_named_right (names_in_ty true T) (names_in_tys true Ts) a h))

mutual
  constant_lacks : (a : List ℕ) (n : ℕ) (D : Ty) → is_named (names_in_ty false D) a ≡ false → Lacks a (constant_type_at n D)
  constant_lacks a n (TyCon c Ts) h = all_constant_lack a n Ts h
  constant_lacks a n (TyFixed b) h = not_left (name_eq a b) false h
  constant_lacks a n (TyUnknown x i) h = tt

  all_constant_lack : (a : List ℕ) (n : ℕ) (Ts : Tys) → is_named (names_in_tys false Ts) a ≡ false → AllLack a (tys_with kept_variable (constant_unknown n) Ts)
  all_constant_lack a n NoTys h = tt
  all_constant_lack a n (MoreTys T Ts) h = (constant_lacks a n T (not_named_left (names_in_ty false T) (names_in_tys false Ts) a h), all_constant_lack a n Ts (not_named_right (names_in_ty false T) (names_in_tys false Ts) a h))

bound_lacks : (a x : List ℕ) (G : Scope) → ScopeLacks a G → (p : ℕ × Ty) → bound_at x G ≡ Some p → Lacks a p.1
bound_lacks a x [] h p e = absurd (cc)
bound_lacks a x (b ∷ bs) h p e = at (λ q w. bound_lacks a x bs h.1 q w) (name_eq x b.0) e where
  inner : ((q : ℕ × Ty) → bound_at x bs ≡ Some q → Lacks a q.1) → (o : Option (ℕ × Ty)) → bound_at x bs ≡ o → option_map (λ (q : ℕ × Ty). (q.0 + 1, q.1)) o ≡ Some p → Lacks a p.1
  inner ih None w e = absurd (cc)
  inner ih (Some q) w e =
      let c : (q.0 + 1, q.1) ≡ p = cc in
      subst (λ (z : ℕ × Ty). Lacks a z.1) c (ih q w)

  at : ((q : ℕ × Ty) → bound_at x bs ≡ Some q → Lacks a q.1) → (v : Bool) → cond v (Some (0, b.1)) (option_map (λ (q : ℕ × Ty). (q.0 + 1, q.1)) (bound_at x bs)) ≡ Some p → Lacks a p.1
  at ih true e =
      let c : (0, b.1) ≡ p = cc in
      subst (λ (z : ℕ × Ty). Lacks a z.1) c h.0
  at ih false e = inner ih (bound_at x bs) refl e

name_lacks : (a : List ℕ) (n : ℕ) (x : List ℕ) (o : Option (ℕ × Ty)) → ((p : ℕ × Ty) → o ≡ Some p → Lacks a p.1) → (d : Option Ty) → is_named (names_if_any false d) a ≡ false → InferredLacks a (name_inferred n x o d)
name_lacks a n x (Some p) b d h = record { term = tt; typ = b p refl; equations = tt }
name_lacks a n x None b None h = record { term = tt; typ = tt; equations = tt }
name_lacks a n x None b (Some D) h = record { term = constant_lacks a n D h; typ = constant_lacks a n D h; equations = tt }

notation_lacks : (a : List ℕ) (n : ℕ) (c : List ℕ) (d : Option Ty) → is_named (names_if_any false d) a ≡ false → name_eq a [] ≡ false → InferredLacks a (notation_inferred n c d)
notation_lacks a n c None h e = record { term = tt; typ = tt; equations = (e, (tt, tt)) }
notation_lacks a n c (Some D) h e = record { term = constant_lacks a n D h; typ = constant_lacks a n D h; equations = tt }

binder_lacks : (a : List ℕ) (n : ℕ) (o : Option Ty) → is_named (names_if_any true o) a ≡ false → Lacks a (binder_type n o)
binder_lacks a n None h = tt
binder_lacks a n (Some T) h = kept_lacks a T h

-- what is inferred of a text that lacks a name lacks it
inferred_lacks : (declared : Declared) (a : List ℕ) → name_eq a [] ≡ false → (u : Raw) (G : Scope) (n : ℕ) → ScopeLacks a G → is_named (names_in declared u) a ≡ false → InferredLacks a (inferred declared G n u)
inferred_lacks declared a z (RawName x) G n g h = name_lacks a n x (bound_at x G) (bound_lacks a x G g) (declared x) h
inferred_lacks declared a z (RawUnknown x) G n g h = record { term = tt; typ = tt; equations = tt }
inferred_lacks declared a z (RawConst c) G n g h = notation_lacks a n c (declared c) h z
inferred_lacks declared a z (RawTyped u T) G n g h =
    let p = inferred declared G (n + 1) u in
    let l = inferred_lacks declared a z u G (n + 1) g (not_named_left (names_in declared u) (names_in_ty true T) a h) in
    let k = kept_lacks a T (not_named_right (names_in declared u) (names_in_ty true T) a h) in
    record { term = l.term; typ = k; equations = equations_lack a p.equations ((p.typ, kept T) ∷ []) l.equations (l.typ, (k, tt)) }
inferred_lacks declared a z (RawAbs x o u) G n g h =
    let b = binder_lacks a n o (not_named_left (names_if_any true o) (names_in declared u) a h) in
    let l = inferred_lacks declared a z u ((x, binder_type n o) ∷ G) (n + 1) (b, g) (not_named_right (names_if_any true o) (names_in declared u) a h) in
    record { term = (b, l.term); typ = (b, (l.typ, tt)); equations = l.equations }
inferred_lacks declared a z (RawApp f w) G n g h =
    let p = inferred declared G (n + 1) f in
    let q = inferred declared G (n + 1 + raw_size f) w in
    let l = inferred_lacks declared a z f G (n + 1) g (not_named_left (names_in declared f) (names_in declared w) a h) in
    let m = inferred_lacks declared a z w G (n + 1 + raw_size f) g (not_named_right (names_in declared f) (names_in declared w) a h) in
    record { term = (l.term, m.term); typ = tt; equations = equations_lack a (p.equations ++ q.equations) (wanted n p q ∷ []) (equations_lack a p.equations q.equations l.equations m.equations) (l.typ, ((m.typ, (tt, tt)), tt)) }

-- another type in the place of that type variable
abbrev swapped_variable : List ℕ → List ℕ → Ty
swapped_variable a y = cond (name_eq a (named y)) (TyCon [] NoTys) (TyFixed y)

abbrev swapped : List ℕ → Ty → Ty
swapped a T = ty_with (swapped_variable a) TyUnknown T

abbrev swapping : List ℕ → List TypeEntry → Solution
swapping a q x i = swapped a (inst_ty q (TyUnknown x i))

mutual
  lacking_swapped : (a : List ℕ) (q : List TypeEntry) (T : Ty) → Lacks a T → instance_at (swapping a q) T ≡ swapped a (inst_ty q T)
  lacking_swapped a q (TyCon c Ts) h = ap (TyCon c) (all_lacking_swapped a q Ts h)
  lacking_swapped a q (TyFixed y) h = sym (ap (λ v. cond v (TyCon [] NoTys) (TyFixed y)) h)
  lacking_swapped a q (TyUnknown x i) h = refl

  all_lacking_swapped : (a : List ℕ) (q : List TypeEntry) (Ts : Tys) → AllLack a Ts → tys_with TyFixed (swapping a q) Ts ≡ tys_with (swapped_variable a) TyUnknown (inst_tys q Ts)
  all_lacking_swapped a q NoTys h = refl
  all_lacking_swapped a q (MoreTys T Ts) h = λ i. MoreTys (lacking_swapped a q T h.0 i) (all_lacking_swapped a q Ts h.1 i)

swapping_solves : (a : List ℕ) (q : List TypeEntry) (es : List (Ty × Ty)) → EquationsLack a es → Unifies q es → Solves (swapping a q) es
swapping_solves a q [] h u = tt
swapping_solves a q (e ∷ es) h u =
    (lacking_swapped a q e.0 h.0 ∙ (ap (swapped a) u.0 ∙ sym (lacking_swapped a q e.1 h.1.0)), swapping_solves a q es h.1.1 u.1)

first_same : {S T : Ty} {Ss Ts : Tys} → MoreTys S Ss ≡ MoreTys T Ts → S ≡ T
first_same e = cc

rest_same : {S T : Ty} {Ss Ts : Tys} → MoreTys S Ss ≡ MoreTys T Ts → Ss ≡ Ts
rest_same e = cc

args_same : {c d : List ℕ} {Ss Ts : Tys} → TyCon c Ss ≡ TyCon d Ts → Ss ≡ Ts
args_same e = cc

mutual
  swapped_lacks : (a : List ℕ) (r : Solution) (T : Ty) → instance_at r T ≡ swapped a T → Lacks a T
  swapped_lacks a r (TyCon c Ts) e = all_swapped_lack a r Ts (args_same e)
  swapped_lacks a r (TyFixed y) e = at (name_eq a (named y)) e where
    at : (v : Bool) → TyFixed y ≡ cond v (TyCon [] NoTys) (TyFixed y) → v ≡ false
    at true w = absurd (cc)
    at false w = refl
  swapped_lacks a r (TyUnknown x i) e = tt

  all_swapped_lack : (a : List ℕ) (r : Solution) (Ts : Tys) → tys_with TyFixed r Ts ≡ tys_with (swapped_variable a) TyUnknown Ts → AllLack a Ts
  all_swapped_lack a r NoTys e = tt
  all_swapped_lack a r (MoreTys T Ts) e = (swapped_lacks a r T (first_same e), all_swapped_lack a r Ts (rest_same e))

-- a most general unifier brings in no type variable
instance_lacks : (a : List ℕ) (es : List (Ty × Ty)) (q : List TypeEntry) → EquationsLack a es → IsMostGeneral es q → (T : Ty) → Lacks a T → Lacks a (inst_ty q T)
instance_lacks a es q h g T l =
    swapped_lacks a (swapping a q) (inst_ty q T) (most_general_at es q g (swapping a q) (swapping_solves a q es h g.unifies) T ∙ lacking_swapped a q T l)

pub of_types_under : (P Q : Ty → Type 0) (g : Ty → Ty) → ((T : Ty) → P T → Q (g T)) → (t : Tm) → OfTypes P t → OfTypes Q (retyped g t)
of_types_under P Q g k (Const c T) h = k T h
of_types_under P Q g k (Free x T) h = k T h
of_types_under P Q g k (Unknown x i T) h = k T h
of_types_under P Q g k (Bound n) h = tt
of_types_under P Q g k (Abs x T b) h = (k T h.0, of_types_under P Q g k b h.1)
of_types_under P Q g k (App f a) h = (of_types_under P Q g k f h.0, of_types_under P Q g k a h.1)

-- the inferred term under a most general unifier has no type variable of a name that the text lacks
pub solved_lacks : (declared : Declared) (u : Raw) (q : List TypeEntry) → IsMostGeneral (inferred declared [] 1 u).equations q → (a : List ℕ) → name_eq a [] ≡ false → is_named (names_in declared u) a ≡ false → OfTypes (Lacks a) (retyped (inst_ty q) (inferred declared [] 1 u).term)
solved_lacks declared u q g a z h =
    let l = inferred_lacks declared a z u [] 1 tt h in
    of_types_under (Lacks a) (Lacks a) (inst_ty q) (instance_lacks a (inferred declared [] 1 u).equations q l.equations g) (inferred declared [] 1 u).term l.term
