-- Type variables in the place of the variables that unification leaves open.
use Rattle.std.specs.Prelude.{◌≡◌, ℕ, List, [], ◌∷◌, length}
use Rattle.isa_unify.specs.TypeUnification.{IsMostGeneral}
use Rattle.isa_raw.specs.RawTerms.{Raw}
use Rattle.isa_typing.specs.Scopes.{Declared}
use Rattle.isa_typing.specs.Inference.{term_of, equations_of}
use Rattle.isa_terms.specs.Terms.{Tm}
use Rattle.isa_terms.specs.Instance.{inst_tm}
use Rattle.isa_terms.specs.Unknowns.{type_unknowns_of}
use Rattle.isa_terms.specs.Types.{Ty, TyCon, TyFixed, TyUnknown}
use Rattle.isa_terms.specs.declared.inst.TypeEntry.{TypeEntry}
use Rattle.isa_typing.specs.Marks.{kept_variable, retyped, thawed}
use Rattle.isa_typing.specs.NewNames.{AreFirstFree}

-- each variable with the type variable of the name at its place
abbrev pub entries_for : List Ty → List (List ℕ) → List TypeEntry
entries_for [] ns = []
entries_for (U ∷ Us) [] = []
entries_for (TyUnknown x i ∷ Us) (n ∷ ns) = record { name = x; number = i; typ = kept_variable n } ∷ entries_for Us ns
entries_for (TyFixed a ∷ Us) (n ∷ ns) = entries_for Us ns
entries_for (TyCon c Ts ∷ Us) (n ∷ ns) = entries_for Us ns

-- p is the term with its open types named, by names that aren't taken, and as the text has it
pub record IsNamed (taken : List (List ℕ)) (solved p : Tm) : Type 0 where
  pub names : List (List ℕ)
  pub are_new : AreFirstFree taken names
  pub are_all : length names ≡ length (type_unknowns_of (solved ∷ []))
  pub term : p ≡ retyped thawed (inst_tm (entries_for (type_unknowns_of (solved ∷ [])) names) [] solved)

-- the term is the one that inference found, under a most general unifier of its equations
pub record IsSolved (declared : Declared) (u : Raw) (solved : Tm) : Type 0 where
  pub unifier : List TypeEntry
  pub is_most_general : IsMostGeneral (equations_of declared u) unifier
  pub term : solved ≡ inst_tm unifier [] (term_of declared u)
