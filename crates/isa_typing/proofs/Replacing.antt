-- Types whose leaves are replaced.
use Rattle.std.proofs.Common.{◌≡◌, ℕ, zero, suc, ◌+◌, List, [], ◌∷◌, ◌++◌, replicate, Bool, true, false, ◌||◌, refl, sym, ap, ◌∙◌}
use Rattle.isa_terms.specs.Types.{Ty, Tys, TyCon, TyFixed, TyUnknown, NoTys, MoreTys}
use Rattle.isa_terms.specs.Terms.{Tm, Const, Free, Unknown, Bound, Abs, App}
use Rattle.isa_terms.specs.Facts.{ty_open, tys_open, ty_named, tys_named}
use Rattle.isa_typing.specs.Marks.{ty_with, tys_with, retyped, spelled, kept, kept_variable, kept_unknown, constant_unknown, constant_type_at, named, numbered, of_text, thawed_name, thawed}
use Rattle.isa_typing.specs.Typings.{instance_at}

or_left : (a b : Bool) → (a || b) ≡ false → a ≡ false
or_left false b e = refl
or_left true b e = e

or_right : (a b : Bool) → (a || b) ≡ false → b ≡ false
or_right false b e = e
or_right true b e = absurd (cc)

-- a type without type variables and type unknowns stays
mutual
  pub ty_with_closed : (f : List ℕ → Ty) (u : List ℕ → ℕ → Ty) (T : Ty) → ty_open T ≡ false → ty_named T ≡ false → ty_with f u T ≡ T
  ty_with_closed f u (TyCon c Ts) o n = ap (TyCon c) (tys_with_closed f u Ts o n)
  ty_with_closed f u (TyFixed a) o n = absurd (cc)
  ty_with_closed f u (TyUnknown x i) o n = absurd (cc)

  pub tys_with_closed : (f : List ℕ → Ty) (u : List ℕ → ℕ → Ty) (Ts : Tys) → tys_open Ts ≡ false → tys_named Ts ≡ false → tys_with f u Ts ≡ Ts
  tys_with_closed f u NoTys o n = refl
  tys_with_closed f u (MoreTys T Ts) o n = λ i. MoreTys (ty_with_closed f u T (or_left (ty_open T) (tys_open Ts) o) (or_left (ty_named T) (tys_named Ts) n) i) (tys_with_closed f u Ts (or_right (ty_open T) (tys_open Ts) o) (or_right (ty_named T) (tys_named Ts) n) i)

-- one replacement after another
mutual
  pub ty_with-ty_with : (f g : List ℕ → Ty) (u v : List ℕ → ℕ → Ty) (T : Ty) → ty_with f u (ty_with g v T) ≡ ty_with (λ a. ty_with f u (g a)) (λ x i. ty_with f u (v x i)) T
  ty_with-ty_with f g u v (TyCon c Ts) = ap (TyCon c) (tys_with-tys_with f g u v Ts)
  ty_with-ty_with f g u v (TyFixed a) = refl
  ty_with-ty_with f g u v (TyUnknown x i) = refl

  pub tys_with-tys_with : (f g : List ℕ → Ty) (u v : List ℕ → ℕ → Ty) (Ts : Tys) → tys_with f u (tys_with g v Ts) ≡ tys_with (λ a. ty_with f u (g a)) (λ x i. ty_with f u (v x i)) Ts
  tys_with-tys_with f g u v NoTys = refl
  tys_with-tys_with f g u v (MoreTys T Ts) = λ i. MoreTys (ty_with-ty_with f g u v T i) (tys_with-tys_with f g u v Ts i)

-- replacements that agree on all leaves
mutual
  pub ty_with_same : (f g : List ℕ → Ty) (u v : List ℕ → ℕ → Ty) → ((a : List ℕ) → f a ≡ g a) → ((x : List ℕ) (i : ℕ) → u x i ≡ v x i) → (T : Ty) → ty_with f u T ≡ ty_with g v T
  ty_with_same f g u v p q (TyCon c Ts) = ap (TyCon c) (tys_with_same f g u v p q Ts)
  ty_with_same f g u v p q (TyFixed a) = p a
  ty_with_same f g u v p q (TyUnknown x i) = q x i

  pub tys_with_same : (f g : List ℕ → Ty) (u v : List ℕ → ℕ → Ty) → ((a : List ℕ) → f a ≡ g a) → ((x : List ℕ) (i : ℕ) → u x i ≡ v x i) → (Ts : Tys) → tys_with f u Ts ≡ tys_with g v Ts
  tys_with_same f g u v p q NoTys = refl
  tys_with_same f g u v p q (MoreTys T Ts) = λ i. MoreTys (ty_with_same f g u v p q T i) (tys_with_same f g u v p q Ts i)

-- leaves that stay
mutual
  pub ty_with_leaves : (T : Ty) → ty_with TyFixed TyUnknown T ≡ T
  ty_with_leaves (TyCon c Ts) = ap (TyCon c) (tys_with_leaves Ts)
  ty_with_leaves (TyFixed a) = refl
  ty_with_leaves (TyUnknown x i) = refl

  pub tys_with_leaves : (Ts : Tys) → tys_with TyFixed TyUnknown Ts ≡ Ts
  tys_with_leaves NoTys = refl
  tys_with_leaves (MoreTys T Ts) = λ i. MoreTys (ty_with_leaves T i) (tys_with_leaves Ts i)

-- a type of the text has none of inference's variables
pub instance_kept : (r : List ℕ → ℕ → Ty) (T : Ty) → instance_at r (kept T) ≡ kept T
instance_kept r T = ty_with-ty_with TyFixed kept_variable r kept_unknown T

pub named-spelled : (i : ℕ) (x : List ℕ) → named (spelled i x) ≡ x
named-spelled zero x = refl
named-spelled (suc i) x = named-spelled i x

pub numbered-spelled : (i : ℕ) (x : List ℕ) → numbered (spelled i x) ≡ i
numbered-spelled zero x = refl
numbered-spelled (suc i) x = ap suc (numbered-spelled i x)

pub thawed-kept_unknown : (x : List ℕ) (i : ℕ) → thawed (kept_unknown x i) ≡ TyUnknown x i
thawed-kept_unknown x i = λ j. of_text (named-spelled i x j) (suc (numbered-spelled i x j))

pub thawed-kept : (T : Ty) → thawed (kept T) ≡ T
thawed-kept T =
    ty_with-ty_with thawed_name kept_variable TyUnknown kept_unknown T ∙ (ty_with_same (λ a. thawed (kept_variable a)) TyFixed (λ x i. thawed (kept_unknown x i)) TyUnknown (λ a. refl) thawed-kept_unknown T ∙ ty_with_leaves T)

-- terms
pub retyped-retyped : (g h : Ty → Ty) (t : Tm) → retyped g (retyped h t) ≡ retyped (λ T. g (h T)) t
retyped-retyped g h (Const c T) = refl
retyped-retyped g h (Free x T) = refl
retyped-retyped g h (Unknown x i T) = refl
retyped-retyped g h (Bound n) = refl
retyped-retyped g h (Abs x T b) = ap (Abs x (g (h T))) (retyped-retyped g h b)
retyped-retyped g h (App f a) = λ i. App (retyped-retyped g h f i) (retyped-retyped g h a i)

pub retyped_same : (g h : Ty → Ty) → ((T : Ty) → g T ≡ h T) → (t : Tm) → retyped g t ≡ retyped h t
retyped_same g h e (Const c T) = ap (Const c) (e T)
retyped_same g h e (Free x T) = ap (Free x) (e T)
retyped_same g h e (Unknown x i T) = ap (Unknown x i) (e T)
retyped_same g h e (Bound n) = refl
retyped_same g h e (Abs x T b) = λ i. Abs x (e T i) (retyped_same g h e b i)
retyped_same g h e (App f a) = λ i. App (retyped_same g h e f i) (retyped_same g h e a i)

pub retyped_nothing : (t : Tm) → retyped (λ T. T) t ≡ t
retyped_nothing (Const c T) = refl
retyped_nothing (Free x T) = refl
retyped_nothing (Unknown x i T) = refl
retyped_nothing (Bound n) = refl
retyped_nothing (Abs x T b) = ap (Abs x T) (retyped_nothing b)
retyped_nothing (App f a) = λ i. App (retyped_nothing f i) (retyped_nothing a i)
