-- The term order: sizes, then heads, then the number of arguments, then the arguments from left to right.
-- Source: the term order of ordered rewriting (the Isabelle/Isar Reference Manual, "The Simplifier", "Ordered rewriting"): the order by size, head and arguments; the order among heads is this project's.
use Rattle.std.specs.Prelude.{ℕ, ◌+◌, ◌-◌, ◌^◌, min, List, [], ◌∷◌, length, Bool, true, false, ◌&&◌, not, nat_eq, nat_lt, if◌then◌else◌}
use Rattle.std.specs.declared.cmp.Ordering.{Ordering}
use Rattle.std.specs.declared.cmp.Ordering.TheVariants.{Equal}
use Rattle.std.specs.Ordering.{ordering_then, nat_cmp}
use Rattle.std.specs.Cmp.Lexicographic.{slice_cmp}
use Rattle.isa_terms.specs.Types.{Ty, Tys, TyCon, TyFixed, TyUnknown, NoTys, MoreTys}
use Rattle.isa_terms.specs.Terms.{Tm, Const, Free, Unknown, Bound, Abs, App, tm_size}

-- names by their bytes
abbrev pub name_cmp : List ℕ → List ℕ → Ordering
name_cmp x y = slice_cmp nat_cmp x y

abbrev pub are_digits : List ℕ → Bool
are_digits [] = true
are_digits (b ∷ bs) = (not (nat_lt b 48) && nat_lt b 58) && are_digits bs

-- whether the name is `:` and digits
abbrev pub is_counted : List ℕ → Bool
is_counted [] = false
is_counted (b ∷ []) = false
is_counted (b ∷ c ∷ cs) = nat_eq b 58 && are_digits (c ∷ cs)

-- free variables named `:` and digits come before the others, and among themselves the shorter name comes first
abbrev pub free_class : List ℕ → ℕ
free_class x = if is_counted x then 0 else 1

abbrev pub free_length : List ℕ → ℕ
free_length x = if is_counted x then length x else 0

abbrev pub free_cmp : List ℕ → List ℕ → Ordering
free_cmp x y = ordering_then (nat_cmp (free_class x) (free_class y)) (ordering_then (nat_cmp (free_length x) (free_length y)) (name_cmp x y))

-- the kinds of types in their order
abbrev pub ty_kind : Ty → ℕ
ty_kind (TyCon x Ts) = 0
ty_kind (TyFixed x) = 1
ty_kind (TyUnknown x i) = 2

abbrev pub tys_count : Tys → ℕ
tys_count NoTys = 0
tys_count (MoreTys T Ts) = tys_count Ts + 1

-- types by kind, name, number, number of arguments, arguments
abbrev mutual
  pub ty_cmp : Ty → Ty → Ordering
  ty_cmp (TyCon x Ss) (TyCon y Ts) = ordering_then (name_cmp x y) (ordering_then (nat_cmp (tys_count Ss) (tys_count Ts)) (tys_cmp Ss Ts))
  ty_cmp (TyFixed x) (TyFixed y) = name_cmp x y
  ty_cmp (TyUnknown x i) (TyUnknown y j) = ordering_then (name_cmp x y) (nat_cmp i j)
  ty_cmp S T = nat_cmp (ty_kind S) (ty_kind T)

  -- of as many types
  pub tys_cmp : Tys → Tys → Ordering
  tys_cmp (MoreTys S Ss) (MoreTys T Ts) = ordering_then (ty_cmp S T) (tys_cmp Ss Ts)
  tys_cmp _ _ = Equal

-- the head of a term, which is no application
abbrev pub head_of : Tm → Tm
head_of (App f a) = head_of f
head_of t = t

-- to how many arguments the head is applied
abbrev pub arity : Tm → ℕ
arity (App f a) = arity f + 1
arity _ = 0

-- the kinds of heads in their order
abbrev pub kind : Tm → ℕ
kind (Const x T) = 0
kind (Free x T) = 1
kind (Unknown x i T) = 2
kind (Bound i) = 3
kind (Abs x T b) = 4
kind (App f a) = 5

-- the size, which stops at the greatest u64
abbrev pub counted_size : Tm → ℕ
counted_size t = min (tm_size t) (2 ^ 64 - 1)

abbrev pub const_cmp : List ℕ → Ty → Tm → Ordering
const_cmp x S (Const y T) = ordering_then (name_cmp x y) (ty_cmp S T)
const_cmp x S h = nat_cmp 0 (kind h)

abbrev pub var_cmp : List ℕ → Ty → Tm → Ordering
var_cmp x S (Free y T) = ordering_then (free_cmp x y) (ty_cmp S T)
var_cmp x S h = nat_cmp 1 (kind h)

abbrev pub unknown_cmp : List ℕ → ℕ → Ty → Tm → Ordering
unknown_cmp x i S (Unknown y j T) = ordering_then (name_cmp x y) (ordering_then (nat_cmp i j) (ty_cmp S T))
unknown_cmp x i S h = nat_cmp 2 (kind h)

abbrev pub bound_cmp : ℕ → Tm → Ordering
bound_cmp i (Bound j) = nat_cmp i j
bound_cmp i h = nat_cmp 3 (kind h)

-- abstractions by the variable's type, then the body
abbrev pub abs_cmp : Ty → (Tm → Ordering) → Tm → Ordering
abs_cmp S bodies (Abs y T c) = ordering_then (ty_cmp S T) (bodies c)
abs_cmp S bodies h = nat_cmp 4 (kind h)

-- two terms whose heads and arguments compare so
abbrev pub by_size : Tm → Tm → Ordering → Ordering → Ordering
by_size t u heads args = ordering_then (nat_cmp (counted_size t) (counted_size u)) (ordering_then heads (ordering_then (nat_cmp (arity t) (arity u)) args))

abbrev mutual
  -- heads by kind, then by what a head of that kind has
  pub head_cmp : Tm → Tm → Ordering
  head_cmp (Const x S) u = const_cmp x S (head_of u)
  head_cmp (Free x S) u = var_cmp x S (head_of u)
  head_cmp (Unknown x i S) u = unknown_cmp x i S (head_of u)
  head_cmp (Bound i) u = bound_cmp i (head_of u)
  head_cmp (Abs x S b) u = abs_cmp S (λ c. by_size b c (head_cmp b c) (args_cmp b c)) (head_of u)
  head_cmp (App f a) u = head_cmp f u

  -- as many arguments, from left to right
  pub args_cmp : Tm → Tm → Ordering
  args_cmp (App f a) (App g b) = ordering_then (args_cmp f g) (by_size a b (head_cmp a b) (args_cmp a b))
  args_cmp _ _ = Equal

abbrev pub tm_cmp : Tm → Tm → Ordering
tm_cmp t u = by_size t u (head_cmp t u) (args_cmp t u)
