-- What is found of variables while equations of types are solved.
-- Source: unification by bindings that are followed late (Robinson; Martelli and Montanari, "An efficient unification algorithm", 1982).
use Rattle.std.specs.Prelude.{◌≡◌, ℕ, Bool, true, false, ◌&&◌, nat_eq, if◌then◌else◌, List, [], ◌∷◌, ◌++◌, reverse, Option, Some, None}
use Rattle.std.specs.Map.{lookup}
use Rattle.isa_terms.specs.Types.{Ty, Tys, TyCon, TyFixed, TyUnknown, list_of}
use Rattle.isa_terms.specs.Terms.{Tm}
use Rattle.isa_terms.specs.Equal.{name_eq}
use Rattle.isa_terms.specs.Instance.{inst_ty, inst_tys, inst_tm}
use Rattle.isa_terms.specs.declared.inst.TypeEntry.{TypeEntry}
use Rattle.isa_unify.specs.TypeUnification.{Unifies, IsMostGeneral, ty_has, tys_have, paired}

-- the types that are found, by the variables' names and numbers
abbrev pub Found : Type 0
Found = List ℕ → ℕ → Option Ty

abbrev pub found_in : List ((List ℕ × ℕ) × Ty) → Found
found_in entries x i = lookup (λ (k : List ℕ × ℕ). name_eq x k.0 && nat_eq i k.1) entries

-- nothing is found
abbrev pub nothing : Found
nothing = λ x i. None

-- G is F with that type for that variable
abbrev pub Binds : Found → List ℕ → ℕ → Ty → Found → Type 0
Binds F x i T G = (y : List ℕ) (j : ℕ) → G y j ≡ (if name_eq x y && nat_eq i j then Some T else F y j)

-- the instance makes each variable and the type that was found for it equal
abbrev pub Agrees : List TypeEntry → Found → Type 0
Agrees r F = (x : List ℕ) (i : ℕ) (T : Ty) → F x i ≡ Some T → inst_ty r (TyUnknown x i) ≡ inst_ty r T

-- q is a most general one of these instances, and leaves the other variables as they are
pub record IsMeaning (F : Found) (q : List TypeEntry) : Type 0 where
  pub agrees : Agrees q F
  pub is_general : (r : List TypeEntry) → Agrees r F → (T : Ty) → inst_ty r (inst_ty q T) ≡ inst_ty r T
  pub leaves : (x : List ℕ) (i : ℕ) → F x i ≡ None → inst_ty q (TyUnknown x i) ≡ TyUnknown x i

-- F and G find the same of the same variables
pub record FindsSame (F G : Found) : Type 0 where
  pub there : (r : List TypeEntry) → Agrees r F → Agrees r G
  pub back : (r : List TypeEntry) → Agrees r G → Agrees r F
  pub unfound : (x : List ℕ) (i : ℕ) → G x i ≡ None → F x i ≡ None
  pub unfound_back : (x : List ℕ) (i : ℕ) → F x i ≡ None → G x i ≡ None

-- what is found of the type, if it is a variable
abbrev pub found_at : Found → Ty → Option Ty
found_at F (TyUnknown x i) = F x i
found_at F (TyCon c Ts) = None
found_at F (TyFixed a) = None

-- S and T are equal under each instance that agrees with F
pub record EqualUnder (F : Found) (S T : Ty) : Type 0 where
  pub equal : (r : List TypeEntry) → Agrees r F → inst_ty r S ≡ inst_ty r T

-- the test tells whether the variable stands in the type, or in the types, under what F means
pub record TellsStanding (F : Found) (x : List ℕ) (i : ℕ) (T : Ty) (b : Bool) : Type 0 where
  pub tells : (q : List TypeEntry) → IsMeaning F q → b ≡ ty_has x i (inst_ty q T)

pub record TellStanding (F : Found) (x : List ℕ) (i : ℕ) (Ts : Tys) (b : Bool) : Type 0 where
  pub tell : (q : List TypeEntry) → IsMeaning F q → b ≡ tys_have x i (inst_tys q Ts)

-- the equations es with F come to the equations ds with G: the same instances agree, and G means something where F does
pub record Leads (es : List (Ty × Ty)) (F : Found) (ds : List (Ty × Ty)) (G : Found) : Type 0 where
  pub there : (r : List TypeEntry) → Unifies r es → Agrees r F → Unifies r ds × Agrees r G
  pub back : (r : List TypeEntry) → Unifies r ds → Agrees r G → Unifies r es × Agrees r F
  pub meaning : (q : List TypeEntry) → IsMeaning F q → (p : List TypeEntry) × IsMeaning G p

-- where F means something, no instance that agrees with it unifies the equations
pub record HasNone (es : List (Ty × Ty)) (F : Found) : Type 0 where
  pub none : (q : List TypeEntry) → IsMeaning F q → (r : List TypeEntry) → Unifies r es → Agrees r F → ⊥

abbrev pub Steps : Bool → List (Ty × Ty) → Found → List (Ty × Ty) → Found → Type 0
Steps true es F ds G = Leads es F ds G
Steps false es F ds G = HasNone es F

-- the equations between the arguments stand behind the others
pub record PairsBehind (Ss Ts : Tys) (old new : List (Ty × Ty)) : Type 0 where
  pub pairs : List (Ty × Ty)
  pub are : paired Ss Ts ≡ Some pairs
  pub stack : new ≡ old ++ reverse pairs

-- they do, where there are as many arguments on both sides
abbrev pub Pairs : Bool → Tys → Tys → List (Ty × Ty) → List (Ty × Ty) → Type 0
Pairs true Ss Ts old new = PairsBehind Ss Ts old new
Pairs false Ss Ts old new = paired Ss Ts ≡ None

-- q is a most general unifier of the equations, and what F means
pub record IsUnifier (es : List (Ty × Ty)) (F : Found) : Type 0 where
  pub unifier : List TypeEntry
  pub is_most_general : IsMostGeneral es unifier
  pub is_meaning : IsMeaning F unifier

-- the variable is bound to the type, or stands in it under what F means
abbrev pub Solves : Bool → Found → List ℕ → ℕ → Ty → Found → Type 0
Solves true F x i T G = Binds F x i T G × TellsStanding F x i T false
Solves false F x i T G = TellsStanding F x i T true

-- an equation of the two types, behind others, is a step
pub record Meets (b : Bool) (F : Found) (S T : Ty) (G : Found) : Type 0 where
  pub step : (w : List (Ty × Ty)) → Steps b (w ++ (S, T) ∷ []) F w G

-- T is the type S under what F means
pub record MeansType (F : Found) (S T : Ty) : Type 0 where
  pub means : (q : List TypeEntry) → IsMeaning F q → T ≡ inst_ty q S

-- all are the types Ss under what F means, behind others
pub record MeansTypes (F : Found) (Ss : Tys) (others all : List Ty) : Type 0 where
  pub means : (q : List TypeEntry) → IsMeaning F q → all ≡ others ++ list_of (inst_tys q Ss)

-- u is the term t under what F means
pub record MeansTerm (F : Found) (t u : Tm) : Type 0 where
  pub means : (q : List TypeEntry) → IsMeaning F q → u ≡ inst_tm q [] t

-- the types that are kept are those of their variables under what F means
pub record Keeps (F K : Found) : Type 0 where
  pub keeps : (x : List ℕ) (i : ℕ) (T : Ty) → K x i ≡ Some T → MeansType F (TyUnknown x i) T
