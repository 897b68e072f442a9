-- Rules whose unknowns have other numbers, so that they share none with a state.
-- Source: renaming a rule apart by the indices of its unknowns, as Isabelle's `incr_indexes` (Paulson, "The foundation of a generic theorem prover", 1989).
use Rattle.std.specs.Prelude.{◌≡◌, ℕ, ◌+◌, [], Some, Result}
use Rattle.isa_terms.specs.Types.{Ty, Tys, TyCon, TyFixed, TyUnknown, NoTys, MoreTys}
use Rattle.isa_terms.specs.Terms.{Tm, Const, Free, Unknown, Bound, Abs, App}
use Rattle.isa_terms.specs.Normal.{IsNormal}
use Rattle.isa_kernel.specs.declared.inference.InferenceError.{InferenceError}
use Rattle.isa_kernel.specs.Inferences.{Answers}
use Rattle.isa_kernel.specs.Theorem.{Theorem, IsDerived}

-- the type with the numbers of its type unknowns raised by n
abbrev mutual
  pub renumbered_type : ℕ → Ty → Ty
  renumbered_type n (TyCon x Ts) = TyCon x (renumbered_types n Ts)
  renumbered_type n (TyFixed x) = TyFixed x
  renumbered_type n (TyUnknown x i) = TyUnknown x (i + n)

  pub renumbered_types : ℕ → Tys → Tys
  renumbered_types n NoTys = NoTys
  renumbered_types n (MoreTys T Ts) = MoreTys (renumbered_type n T) (renumbered_types n Ts)

-- the term with the numbers of its unknowns and type unknowns raised by n
abbrev pub renumbered : ℕ → Tm → Tm
renumbered n (Const x T) = Const x (renumbered_type n T)
renumbered n (Free x T) = Free x (renumbered_type n T)
renumbered n (Unknown x i T) = Unknown x (i + n) (renumbered_type n T)
renumbered n (Bound i) = Bound i
renumbered n (Abs x T b) = Abs x (renumbered_type n T) (renumbered n b)
renumbered n (App f a) = App (renumbered n f) (renumbered n a)

-- the rule with the numbers of its unknowns and type unknowns raised by n
abbrev pub renumbered_rule : ℕ → Theorem → Theorem
renumbered_rule n th = record { hyps = []; prop = renumbered n th.prop; base = th.base }

-- a normal rule without hypotheses
pub record IsBareRule (th : Theorem) : Type 0 where
  pub hyps : th.hyps ≡ []
  pub normal : IsNormal th.prop

-- no refusal comes for a normal rule without hypotheses
abbrev pub Renumbers : ℕ → Theorem → Result Theorem InferenceError → Type 0
Renumbers n th answer = th.hyps ≡ [] → IsNormal th.prop → Answers answer (Some (renumbered_rule n th))

-- with other numbers it has a derivation where the rule has one
abbrev pub RenumberedIsDerived : Type 0
RenumberedIsDerived = (n : ℕ) (th : Theorem) → IsBareRule th → IsDerived th → IsDerived (renumbered_rule n th)
