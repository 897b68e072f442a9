-- What a node of a type or a term keeps, so that no part need be gone through that stays as it is.
use Rattle.std.specs.Prelude.{◌≡◌, ℕ, ◌+◌, ◌-◌, max, Bool, true, false, ◌||◌, ◌&&◌, not}
use Rattle.isa_terms.specs.Types.{Ty, Tys, TyCon, TyFixed, TyUnknown, NoTys, MoreTys}
use Rattle.isa_terms.specs.Terms.{Tm, Const, Free, Unknown, Bound, Abs, App}
use Rattle.isa_terms.specs.Norm.{ty_height}
use Rattle.isa_terms.specs.Normal.{redex}
use Rattle.isa_terms.specs.Order.{counted_size}
use Rattle.isa_terms.specs.declared.facts.TypFacts.{TypFacts}
use Rattle.isa_terms.specs.declared.facts.TermFacts.{TermFacts}

-- whether a type unknown is in the type
abbrev mutual
  pub ty_open : Ty → Bool
  ty_open (TyCon x Ts) = tys_open Ts
  ty_open (TyFixed x) = false
  ty_open (TyUnknown x i) = true

  pub tys_open : Tys → Bool
  tys_open NoTys = false
  tys_open (MoreTys T Ts) = ty_open T || tys_open Ts

-- whether a type variable is in the type
abbrev mutual
  pub ty_named : Ty → Bool
  ty_named (TyCon x Ts) = tys_named Ts
  ty_named (TyFixed x) = true
  ty_named (TyUnknown x i) = false

  pub tys_named : Tys → Bool
  tys_named NoTys = false
  tys_named (MoreTys T Ts) = ty_named T || tys_named Ts

-- one more than the greatest number that is loose in the term, and 0 where none is
abbrev pub loose_end : Tm → ℕ
loose_end (Bound i) = i + 1
loose_end (Abs x T b) = loose_end b - 1
loose_end (App f a) = max (loose_end f) (loose_end a)
loose_end _ = 0

-- whether an unknown is in the term
abbrev pub has_unknown : Tm → Bool
has_unknown (Unknown x i T) = true
has_unknown (Abs x T b) = has_unknown b
has_unknown (App f a) = has_unknown f || has_unknown a
has_unknown _ = false

-- whether a type unknown is in a type of the term
abbrev pub tm_open : Tm → Bool
tm_open (Const x T) = ty_open T
tm_open (Free x T) = ty_open T
tm_open (Unknown x i T) = ty_open T
tm_open (Bound i) = false
tm_open (Abs x T b) = ty_open T || tm_open b
tm_open (App f a) = tm_open f || tm_open a

-- whether a free variable is in the term
abbrev pub has_free : Tm → Bool
has_free (Free x T) = true
has_free (Abs x T b) = has_free b
has_free (App f a) = has_free f || has_free a
has_free _ = false

-- whether a type variable is in a type of the term
abbrev pub tm_named : Tm → Bool
tm_named (Const x T) = ty_named T
tm_named (Free x T) = ty_named T
tm_named (Unknown x i T) = ty_named T
tm_named (Bound i) = false
tm_named (Abs x T b) = ty_named T || tm_named b
tm_named (App f a) = tm_named f || tm_named a

-- whether the term is an abstraction
abbrev pub is_abs : Tm → Bool
is_abs (Abs x T b) = true
is_abs _ = false

-- whether no abstraction is applied, and none is `%x. f x`, x not in f
abbrev pub is_normal : Tm → Bool
is_normal (Abs x T b) = is_normal b && not (redex b)
is_normal (App f a) = not (is_abs f) && (is_normal f && is_normal a)
is_normal _ = true

pub record KnownTyp (T : Ty) (f : TypFacts) : Type 0 where
  pub height : f.height ≡ ty_height T
  pub open_is : f.is_open ≡ ty_open T
  pub named : f.is_named ≡ ty_named T

pub record KnownTerm (t : Tm) (f : TermFacts) : Type 0 where
  pub size : f.size ≡ counted_size t
  pub loose_end : f.loose_end ≡ loose_end t
  pub unknown : f.has_unknown ≡ has_unknown t
  pub open_is : f.is_open ≡ tm_open t
  pub free : f.has_free ≡ has_free t
  pub named : f.is_named ≡ tm_named t
  pub normal : f.is_normal ≡ is_normal t
