-- Unification of types: the equations are taken from the front, and each solution is substituted at once (Robinson;
-- Martelli and Montanari).
use Rattle.std.specs.Prelude.{◌≡◌, ℕ, suc, ◌+◌, Bool, false, cond, ◌&&◌, ◌||◌, nat_eq, List, [], ◌∷◌, ◌++◌, map, length, Option, Some, None}
use Rattle.isa_terms.specs.Types.{Ty, Tys, TyCon, TyFixed, TyUnknown, NoTys, MoreTys, ty_depth}
use Rattle.isa_terms.specs.Equal.{name_eq, ty_eq}
use Rattle.isa_terms.specs.Instance.{Instance, inst_ty}
use Rattle.isa_terms.specs.declared.inst.TypeEntry.{TypeEntry}
use Rattle.isa_unify.specs.Descent.{Step, Done, Lighter, Solved, descend}

-- r makes the sides of each equation equal
abbrev pub Unifies : List TypeEntry → List (Ty × Ty) → Type 0
Unifies r [] = Unit {0}
Unifies r (e ∷ es) = (inst_ty r e.0 ≡ inst_ty r e.1) × Unifies r es

-- s unifies the equations, and every unifier is s followed by it
pub record IsMostGeneral (es : List (Ty × Ty)) (s : List TypeEntry) : Type 0 where
  pub unifies : Unifies s es
  pub general : (r : List TypeEntry) → Unifies r es → (T : Ty) → inst_ty r (inst_ty s T) ≡ inst_ty r T

-- s has no terms, and its types are a most general unifier of S and T
pub record IsTypeUnifier (S T : Ty) (s : Instance) : Type 0 where
  pub types : IsMostGeneral ((S, T) ∷ []) s.types
  pub terms : s.terms ≡ []

-- whether the type unknown stands in the type
abbrev mutual
  pub ty_has : List ℕ → ℕ → Ty → Bool
  ty_has x i (TyCon c Ts) = tys_have x i Ts
  ty_has x i (TyFixed a) = false
  ty_has x i (TyUnknown y j) = name_eq y x && nat_eq j i

  pub tys_have : List ℕ → ℕ → Tys → Bool
  tys_have x i NoTys = false
  tys_have x i (MoreTys T Ts) = ty_has x i T || tys_have x i Ts

-- one type unknown with its type
abbrev pub one : List ℕ → ℕ → Ty → List TypeEntry
one x i T = record { name = x; number = i; typ = T } ∷ []

-- the entries es with their types under s
abbrev pub entries_under : List TypeEntry → List TypeEntry → List TypeEntry
entries_under s es = map (λ (e : TypeEntry). record e { typ = inst_ty s e.typ }) es

-- s, and then r
abbrev pub followed_by : List TypeEntry → List TypeEntry → List TypeEntry
followed_by s r = entries_under r s ++ r

abbrev pub equations_under : List TypeEntry → List (Ty × Ty) → List (Ty × Ty)
equations_under s es = map (λ (e : Ty × Ty). (inst_ty s e.0, inst_ty s e.1)) es

-- the equations that are left, and what has been found
pub record TypeState : Type 0 where
  pub equations : List (Ty × Ty)
  pub solution : List TypeEntry

abbrev pub type_state : List (Ty × Ty) → List TypeEntry → TypeState
type_state es s = record { equations = es; solution = s }

abbrev pub TypeStep : Type 0
TypeStep = Step TypeState (Option (List TypeEntry))

-- the type unknown becomes T in all else
abbrev pub solved_by : List ℕ → ℕ → Ty → List (Ty × Ty) → List TypeEntry → TypeState
solved_by x i T es s = type_state (equations_under (one x i T) es) (followed_by s (one x i T))

-- a type unknown against another type: none where it stands in it
abbrev pub solve : List ℕ → ℕ → Ty → List (Ty × Ty) → List TypeEntry → TypeStep
solve x i T es s = cond (ty_has x i T) (Done None) (Solved (solved_by x i T es s))

-- the arguments of two constructors, where there are as many
abbrev pub paired : Tys → Tys → Option (List (Ty × Ty))
paired NoTys NoTys = Some []
paired (MoreTys S Ss) (MoreTys T Ts) = elim (paired Ss Ts) [ None ↦ None | Some es ↦ Some ((S, T) ∷ es) ]
paired _ _ = None

abbrev pub split : Bool → Option (List (Ty × Ty)) → List (Ty × Ty) → List TypeEntry → TypeStep
split same parts es s = cond same (elim parts [ None ↦ Done None | Some ps ↦ Lighter (type_state (ps ++ es) s) ]) (Done None)

-- the front equation S, T before the others
abbrev pub type_step_at : Ty → Ty → List (Ty × Ty) → List TypeEntry → TypeStep
type_step_at (TyUnknown x i) T es s = cond (ty_eq (TyUnknown x i) T) (Lighter (type_state es s)) (solve x i T es s)
type_step_at S (TyUnknown y j) es s = solve y j S es s
type_step_at (TyFixed a) (TyFixed b) es s = cond (name_eq a b) (Lighter (type_state es s)) (Done None)
type_step_at (TyCon c Ss) (TyCon d Ts) es s = split (name_eq c d) (paired Ss Ts) es s
type_step_at S T es s = Done None

abbrev pub type_step : TypeState → TypeStep
type_step s = elim s.equations [
  | [] ↦ Done (Some s.solution)
  | e ∷ es ↦ type_step_at e.0 e.1 es s.solution
]

abbrev pub types_weight : List (Ty × Ty) → ℕ
types_weight [] = 0
types_weight (e ∷ es) = suc (ty_depth e.0 + ty_depth e.1 + types_weight es)

-- the type unknowns, as often as they stand there
abbrev mutual
  pub ty_keys : Ty → List (List ℕ × ℕ)
  ty_keys (TyCon c Ts) = tys_keys Ts
  ty_keys (TyFixed a) = []
  ty_keys (TyUnknown x i) = (x, i) ∷ []

  pub tys_keys : Tys → List (List ℕ × ℕ)
  tys_keys NoTys = []
  tys_keys (MoreTys T Ts) = ty_keys T ++ tys_keys Ts

abbrev pub all_ty_keys : List (Ty × Ty) → List (List ℕ × ℕ)
all_ty_keys [] = []
all_ty_keys (e ∷ es) = ty_keys e.0 ++ (ty_keys e.1 ++ all_ty_keys es)

-- the end of the unification from a state: each type unknown is solved at most once
unfoldable pub types_unified : TypeState → Option (List TypeEntry)
unfolding descend
types_unified s = descend type_step (λ t. types_weight t.equations) None (suc (length (all_ty_keys s.equations))) s

-- a most general unifier of the equations, the type unknown on the left being the one that is solved, or none
unfoldable pub unify_typs : List (Ty × Ty) → Option (List TypeEntry)
unfolding types_unified
unify_typs es = types_unified (type_state es [])
