-- What the calls of unification answer.
use Rattle.std.specs.Prelude.{◌≡◌, ℕ, ◌+◌, max, List, [], ◌∷◌, Option, Some, None, Result, Ok, Err}
use Rattle.std.specs.declared.alloc.AllocError.{AllocError}
use Rattle.isa_terms.specs.Types.{Ty}
use Rattle.isa_terms.specs.Terms.{Tm, Const, Free, Unknown, Bound, Abs, App}
use Rattle.isa_terms.specs.Typing.{TypeFault, type_at}
use Rattle.isa_unify.specs.declared.equation.Equation.{Equation}
use Rattle.isa_unify.specs.declared.unification.TermPair.{TermPair}
use Rattle.isa_unify.specs.declared.unification.Unified.{Unified}
use Rattle.isa_unify.specs.declared.unification.Unified.TheVariants.{Yes, No, Outside}
use Rattle.isa_unify.specs.declared.progress.Answer.{Answer}
use Rattle.isa_unify.specs.UnifyLaw.{IsMostGeneralFor, HaveNone, GoesOn}
use Rattle.isa_unify.specs.PatternLaw.{NeedsMore}
use Rattle.isa_unify.specs.declared.progress.Answer.TheVariants as answer
use Rattle.isa_terms.specs.Entries.{Once}
use Rattle.isa_terms.specs.Instance.{same_type_unknown, same_unknown}
use Rattle.isa_terms.specs.declared.inst.TypeEntry.{TypeEntry}
use Rattle.isa_terms.specs.declared.inst.TermEntry.{TermEntry}

-- the least number past those of the unknowns of a term
abbrev pub past : Tm → ℕ
past (Const x T) = 0
past (Free x T) = 0
past (Unknown x i T) = i + 1
past (Bound n) = 0
past (Abs x T b) = past b
past (App f a) = max (past f) (past a)

abbrev pub past_all : List Tm → ℕ
past_all [] = 0
past_all (t ∷ ts) = max (past t) (past_all ts)

-- the equations of the pairs, under no binder
abbrev pub equations_of : List TermPair → List Equation
equations_of [] = []
equations_of (p ∷ ps) = record { binders = []; left = p.left; right = p.right } ∷ equations_of ps

abbrev pub if_ok : Result Ty TypeFault → Option Ty
if_ok (Ok T) = Some T
if_ok (Err fault) = None

-- the type of a term without loose bound variables, where it has one
abbrev pub type_if_any : Tm → Option Ty
type_if_any t = if_ok (type_at [] t)

-- one equation, under no binder
abbrev pub equation : Tm → Tm → List Equation
equation t u = record { binders = []; left = t; right = u } ∷ []

-- each type unknown and each unknown has one entry
pub record AreOnce (ts : List TypeEntry) (fs : List TermEntry) : Type 0 where
  pub types : Once same_type_unknown ts
  pub terms : Once same_unknown fs

-- The answer is the wanted one, where there was memory. The number of the next new unknown goes on at Yes, and stays else.
abbrev pub Answers : Result Unified AllocError → ℕ → ℕ → Answer → Type 0
Answers (Ok (Yes s)) old new wanted = wanted ≡ answer.Yes s.types s.terms new
Answers (Ok No) old new wanted = (wanted ≡ answer.No) × (new ≡ old)
Answers (Ok Outside) old new wanted = (wanted ≡ answer.Outside) × (new ≡ old)
Answers (Err memory) old new wanted = new ≡ old

-- The answer is right: at Yes the instance makes the sides equal, and each instance that does is it, followed by
-- another; at No no instance does.
abbrev pub IsRight : Result Unified AllocError → List Equation → Type 0
IsRight (Ok (Yes s)) es = IsMostGeneralFor es s
IsRight (Ok No) es = HaveNone es
IsRight (Ok Outside) es = Unit {0}
IsRight (Err memory) es = Unit {0}

-- At Yes another unification may follow, with new unknowns numbered from new on.
abbrev pub MayFollow : Result Unified AllocError → (List ℕ → ℕ → Ty) → ℕ → ℕ → List Equation → Type 0
MayFollow (Ok (Yes s)) typ old new es = GoesOn typ old new es s
MayFollow (Ok No) typ old new es = Unit {0}
MayFollow (Ok Outside) typ old new es = Unit {0}
MayFollow (Err memory) typ old new es = Unit {0}

-- The answer is Outside only where more new unknowns are needed than there may be.
abbrev pub IsInside : Result Unified AllocError → ℕ → List Equation → Type 0
IsInside (Ok (Yes s)) old es = Unit {0}
IsInside (Ok No) old es = Unit {0}
IsInside (Ok Outside) old es = NeedsMore es old
IsInside (Err memory) old es = Unit {0}
