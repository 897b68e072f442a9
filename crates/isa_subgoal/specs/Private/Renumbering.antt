-- The inferences that raise the numbers of a rule's unknowns: the entries of the instance, and the steps.
-- Source: renaming a rule apart by the indices of its unknowns, as Isabelle's `incr_indexes` (Paulson, "The foundation of a generic theorem prover", 1989).
use Rattle.std.specs.Prelude.{ℕ, ◌+◌, List, [], Option}
use Rattle.isa_terms.specs.Types.{Ty, Tys, TyCon, TyFixed, TyUnknown, NoTys, MoreTys}
use Rattle.isa_terms.specs.Terms.{Tm, Const, Free, Unknown, Bound, Abs, App}
use Rattle.isa_terms.specs.Instance.{set_type, set_term}
use Rattle.isa_terms.specs.declared.inst.TypeEntry.{TypeEntry}
use Rattle.isa_terms.specs.declared.inst.TermEntry.{TermEntry}
use Rattle.isa_kernel.specs.Forms.{◌>>=◌}
use Rattle.isa_kernel.specs.Inferences.{instantiated}
use Rattle.isa_kernel.specs.Derived.{renamed}
use Rattle.isa_kernel.specs.Theorem.{Theorem}
use Rattle.isa_subgoal.specs.Renumbering.{renumbered_type, renumbered}

-- the entries with one for each type unknown of the type, or of the types of the term, its number raised by n
abbrev mutual
  pub type_numbers : ℕ → Ty → List TypeEntry → List TypeEntry
  type_numbers n (TyCon x Ts) es = all_type_numbers n Ts es
  type_numbers n (TyFixed x) es = es
  type_numbers n (TyUnknown x i) es = set_type (record { name = x; number = i; typ = TyUnknown x (i + n) }) es

  pub all_type_numbers : ℕ → Tys → List TypeEntry → List TypeEntry
  all_type_numbers n NoTys es = es
  all_type_numbers n (MoreTys T Ts) es = all_type_numbers n Ts (type_numbers n T es)

abbrev pub numbers_in_types : ℕ → Tm → List TypeEntry → List TypeEntry
numbers_in_types n (Const x T) es = type_numbers n T es
numbers_in_types n (Free x T) es = type_numbers n T es
numbers_in_types n (Unknown x i T) es = type_numbers n T es
numbers_in_types n (Bound i) es = es
numbers_in_types n (Abs x T b) es = numbers_in_types n b (type_numbers n T es)
numbers_in_types n (App f a) es = numbers_in_types n a (numbers_in_types n f es)

-- the entries with one for each unknown of the term, its number raised by n
abbrev pub numbers_in : ℕ → Tm → List TermEntry → List TermEntry
numbers_in n (Unknown x i T) fs = set_term (record { name = x; number = i; typ = T; term = Unknown x (i + n) (renumbered_type n T) }) fs
numbers_in n (Abs x T b) fs = numbers_in n b fs
numbers_in n (App f a) fs = numbers_in n a (numbers_in n f fs)
numbers_in n _ fs = fs

-- the inferences: the instance by these entries, stated as the proposition with other numbers
unfoldable pub renumbered_by : ℕ → Theorem → Option Theorem
renumbered_by n th = do
  rule ← instantiated (record { types = numbers_in_types n th.prop []; terms = numbers_in n th.prop [] }) th
  renamed (renumbered n th.prop) rule
