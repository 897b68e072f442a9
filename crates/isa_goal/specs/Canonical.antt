-- What is known of a state in canonical form.
-- Source: a schematic goal state in a standard form of its unknowns, as by Isabelle's `Drule.export_without_context` and `zero_var_indexes`: the unknowns are renamed apart and have the index 0. Which names they get then is a rule of our own (`Names`).
use Rattle.std.specs.Prelude.{◌≡◌, ℕ, List, Bool, true, ◌&&◌, nat_eq}
use Rattle.isa_terms.specs.Types.{Ty, Tys, TyCon, TyFixed, TyUnknown, NoTys, MoreTys}
use Rattle.isa_terms.specs.Terms.{Tm, Const, Free, Unknown, Bound, Abs, App}
use Rattle.isa_terms.specs.Unknowns.{all_unknown_places}
use Rattle.isa_kernel.specs.Derivation.{Member}
use Rattle.isa_goal.specs.Goals.{Goals}
use Rattle.isa_terms.specs.Instances.{Each}
use Rattle.isa_subgoal.specs.Shape.{is_in_form}

-- a state each of whose subgoals is in the form
pub record IsFormedState (s : Goals) : Type 0 where
  pub subgoals : Each (λ t. is_in_form t ≡ true) s.subgoals

-- whether each type unknown of the type has the number 0
abbrev mutual
  pub is_unnumbered_type : Ty → Bool
  is_unnumbered_type (TyCon x Ts) = are_unnumbered_types Ts
  is_unnumbered_type (TyFixed x) = true
  is_unnumbered_type (TyUnknown x i) = nat_eq i 0

  pub are_unnumbered_types : Tys → Bool
  are_unnumbered_types NoTys = true
  are_unnumbered_types (MoreTys T Ts) = is_unnumbered_type T && are_unnumbered_types Ts

-- whether each unknown and each type unknown of the term has the number 0
abbrev pub is_unnumbered : Tm → Bool
is_unnumbered (Const x T) = is_unnumbered_type T
is_unnumbered (Free x T) = is_unnumbered_type T
is_unnumbered (Unknown x i T) = nat_eq i 0 && is_unnumbered_type T
is_unnumbered (Bound i) = true
is_unnumbered (Abs x T b) = is_unnumbered_type T && is_unnumbered b
is_unnumbered (App f a) = is_unnumbered f && is_unnumbered a

-- a state whose unknowns and type unknowns all have the number 0
pub record IsUnnumberedState (s : Goals) : Type 0 where
  pub subgoals : Each (λ t. is_unnumbered t ≡ true) s.subgoals
  pub goal : is_unnumbered s.goal ≡ true

-- an unknown's name and number stand with one type in the terms
pub record HasOneType (ts : List Tm) : Type 0 where
  pub same : (x : List ℕ) (i : ℕ) (S T : Ty) → Member (Unknown x i S) (all_unknown_places ts) → Member (Unknown x i T) (all_unknown_places ts) → S ≡ T
