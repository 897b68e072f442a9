-- Types whose leaves are replaced, and names that keep apart what inference must not mix: the type variables and type
-- unknowns of the text, which stay, and its own variables.
use Rattle.std.specs.Prelude.{ℕ, zero, suc, List, [], ◌∷◌, ◌++◌, replicate, Option, Some, None}
use Rattle.isa_terms.specs.Types.{Ty, Tys, TyCon, TyFixed, TyUnknown, NoTys, MoreTys}
use Rattle.isa_terms.specs.Terms.{Tm, Const, Free, Unknown, Bound, Abs, App}

-- the type with others in the place of its type variables and type unknowns
abbrev mutual
  pub ty_with : (List ℕ → Ty) → (List ℕ → ℕ → Ty) → Ty → Ty
  ty_with f u (TyCon c Ts) = TyCon c (tys_with f u Ts)
  ty_with f u (TyFixed a) = f a
  ty_with f u (TyUnknown x i) = u x i

  pub tys_with : (List ℕ → Ty) → (List ℕ → ℕ → Ty) → Tys → Tys
  tys_with f u NoTys = NoTys
  tys_with f u (MoreTys T Ts) = MoreTys (ty_with f u T) (tys_with f u Ts)

-- the term with each of its types changed
abbrev pub retyped : (Ty → Ty) → Tm → Tm
retyped g (Const c T) = Const c (g T)
retyped g (Free x T) = Free x (g T)
retyped g (Unknown x i T) = Unknown x i (g T)
retyped g (Bound n) = Bound n
retyped g (Abs x T b) = Abs x (g T) (retyped g b)
retyped g (App f a) = App (retyped g f) (retyped g a)

-- a number and a name as one name
abbrev pub spelled : ℕ → List ℕ → List ℕ
spelled i x = replicate i 1 ++ (0 ∷ x)

-- a type variable of the text, and a type unknown of the text, as type variables
abbrev pub kept_variable : List ℕ → Ty
kept_variable a = TyFixed (spelled 0 a)

abbrev pub kept_unknown : List ℕ → ℕ → Ty
kept_unknown x i = TyFixed (spelled (suc i) x)

-- a type of the text: its type variables and type unknowns stay
abbrev pub kept : Ty → Ty
kept T = ty_with kept_variable kept_unknown T

-- inference's variables: for a node, for a free variable and an unknown of the text, and for a type unknown of the
-- declared type of the constant at a node; nodes are numbered from 1
abbrev pub node_type : ℕ → Ty
node_type n = TyUnknown [] n

abbrev pub free_type : List ℕ → Ty
free_type x = TyUnknown (0 ∷ x) 0

abbrev pub unknown_type : List ℕ → Ty
unknown_type x = TyUnknown (1 ∷ x) 0

abbrev pub constant_unknown : ℕ → List ℕ → ℕ → Ty
constant_unknown n x i = TyUnknown (2 ∷ spelled i x) n

-- the declared type D of the constant at the node n
abbrev pub constant_type_at : ℕ → Ty → Ty
constant_type_at n D = ty_with kept_variable (constant_unknown n) D

-- the type unknowns of a type of the text, or of the declared type of the constant at a node
abbrev pub unknown_mark : Option ℕ → List ℕ → ℕ → Ty
unknown_mark None x i = kept_unknown x i
unknown_mark (Some n) x i = constant_unknown n x i

abbrev pub marked : Option ℕ → Ty → Ty
marked o T = ty_with kept_variable (unknown_mark o) T

abbrev pub marked_tys : Option ℕ → Tys → Tys
marked_tys o Ts = tys_with kept_variable (unknown_mark o) Ts

-- the name and the number that are spelled
abbrev pub named : List ℕ → List ℕ
named [] = []
named (zero ∷ x) = x
named (suc k ∷ x) = named x

abbrev pub numbered : List ℕ → ℕ
numbered [] = 0
numbered (zero ∷ x) = 0
numbered (suc k ∷ x) = suc (numbered x)

-- a type variable, or a type unknown, by name and number
abbrev pub of_text : List ℕ → ℕ → Ty
of_text x zero = TyFixed x
of_text x (suc i) = TyUnknown x i

-- the text's type variables and type unknowns again
abbrev pub thawed_name : List ℕ → Ty
thawed_name a = of_text (named a) (numbered a)

abbrev pub thawed : Ty → Ty
thawed T = ty_with thawed_name TyUnknown T

abbrev pub thawed_tys : Tys → Tys
thawed_tys Ts = tys_with thawed_name TyUnknown Ts
