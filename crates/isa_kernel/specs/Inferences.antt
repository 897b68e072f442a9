-- What the inferences answer, each for its own form of arguments, and None for any other. They are those of Isabelle/Pure (The Isabelle/Isar Implementation Manual, "Primitive logic").
use Rattle.std.specs.Prelude.{◌≡◌, ℕ, List, [], ◌∷◌, Option, Some, None, Bool, true, false, ◌&&◌, not, if◌then◌else◌, Result, Ok, Err}
use Rattle.isa_terms.specs.Types.{Ty}
use Rattle.isa_terms.specs.Terms.{Tm, Abs, App}
use Rattle.isa_terms.specs.Equal.{ty_eq, tm_eq}
use Rattle.isa_terms.specs.Typing.{TypeFault, type_at, function_of, function_parts}
use Rattle.isa_terms.specs.Replace.{replace}
use Rattle.isa_terms.specs.Binding.{occurs_in, close}
use Rattle.isa_terms.specs.Instance.{Instance, inst_ty, in_tms, instance_of}
use Rattle.isa_terms.specs.declared.inst.TypeEntry.{TypeEntry}
use Rattle.isa_terms.specs.declared.inst.TermEntry.{TermEntry}
use Rattle.isa_terms.specs.Generalize.{gen_tm, named_in}
use Rattle.isa_terms.specs.Sets.{joined, without}
use Rattle.isa_kernel.specs.Logic.{prop, imp, eq, all}
use Rattle.isa_kernel.specs.Forms.{◌>>=◌, app_parts, abs_parts, is_last, imp_parts, eq_parts, quantifier_parts, at, free_parts}
use Rattle.isa_kernel.specs.Axioms.{joined_bases}
use Rattle.isa_kernel.specs.Theorem.{Theorem}
use Rattle.isa_kernel.specs.declared.inference.InferenceError.{InferenceError}
use Rattle.isa_kernel.specs.declared.inference.InferenceError.TheVariants.{Shape, Memory}

-- whether a term of that type, if it is well typed, has the type T
abbrev pub typed_as : Result Ty TypeFault → Ty → Bool
typed_as (Ok S) T = ty_eq S T
typed_as (Err fault) T = false

-- whether t is well typed with the type T
abbrev pub has_type : Tm → Ty → Bool
has_type t T = typed_as (type_at [] t) T

-- the type of a well-typed term
abbrev pub well_typed : Result Ty TypeFault → Option Ty
well_typed (Ok T) = Some T
well_typed (Err fault) = None

-- the answer of an inference is the theorem that its table gives, and Shape comes exactly where it gives none
abbrev pub Answers : Result Theorem InferenceError → Option Theorem → Type 0
Answers (Ok th) wanted = wanted ≡ Some th
Answers (Err Shape) wanted = wanted ≡ None
Answers (Err Memory) wanted = Unit {0}

-- the answer of a step that asks for a type
abbrev pub TypedAs : Result Ty InferenceError → Result Ty TypeFault → Type 0
TypedAs (Ok T) wanted = wanted ≡ Ok T
TypedAs (Err Shape) wanted = well_typed wanted ≡ None
TypedAs (Err Memory) wanted = Unit {0}

-- the answer of a step that asks for a test
abbrev pub IsChecked : Result (Unit {0}) InferenceError → Bool → Type 0
IsChecked (Ok done) wanted = wanted ≡ true
IsChecked (Err Shape) wanted = wanted ≡ false
IsChecked (Err Memory) wanted = Unit {0}

-- `a` under the hypothesis `a`, for a proposition a
abbrev pub assumed : Tm → Option Theorem
assumed a = if has_type a prop then Some (record { hyps = a ∷ []; prop = a; base = [] }) else None

-- `a ==> B` without the hypothesis a, for a proposition a
abbrev pub implies_introduced : Tm → Theorem → Option Theorem
implies_introduced a th = if has_type a prop then Some (record { hyps = without a th.hyps; prop = imp a th.prop; base = th.base }) else None

-- B, from `A ==> B` and A
abbrev pub implies_eliminated : Theorem → Theorem → Option Theorem
implies_eliminated ab a = do
  parts ← imp_parts ab.prop
  if tm_eq parts.0 a.prop then Some (record { hyps = joined ab.hyps a.hyps; prop = parts.1; base = joined_bases ab.base a.base }) else None

-- `!!x. B`, for a free variable x that is not in the hypotheses
abbrev pub forall_introduced : Tm → Theorem → Option Theorem
forall_introduced x th = do
  var ← free_parts x
  if occurs_in var.0 var.1 th.hyps then None else Some (record { hyps = th.hyps; prop = all var.0 var.1 (close var.0 var.1 th.prop); base = th.base })

-- B at t, from `!!x. B` for a t of the type of x; from `!!` over a predicate that is no abstraction, the predicate applied to t
abbrev pub forall_eliminated : Tm → Theorem → Option Theorem
forall_eliminated t th = do
  parts ← quantifier_parts th.prop
  if has_type t parts.0 then Some (record { hyps = th.hyps; prop = at parts.1 t; base = th.base }) else None

-- `t == t`, for a well-typed t
abbrev pub reflexive_at : Tm → Option Theorem
reflexive_at t = do
  T ← well_typed (type_at [] t)
  Some (record { hyps = []; prop = eq T t t; base = [] })

-- `u == t`, from `t == u`
abbrev pub turned : Theorem → Option Theorem
turned th = do
  parts ← eq_parts th.prop
  Some (record { hyps = th.hyps; prop = eq parts.0 parts.2 parts.1; base = th.base })

-- `t == v`, from `t == u` and `u == v`
abbrev pub chained : Theorem → Theorem → Option Theorem
chained a b = do
  left ← eq_parts a.prop
  right ← eq_parts b.prop
  if ty_eq left.0 right.0 && tm_eq left.2 right.1 then Some (record { hyps = joined a.hyps b.hyps; prop = eq left.0 left.1 right.2; base = joined_bases a.base b.base }) else None

-- `f a == g b`, from `f == g` and `a == b` whose types fit
abbrev pub combined : Theorem → Theorem → Option Theorem
combined f a = do
  funs ← eq_parts f.prop
  args ← eq_parts a.prop
  types ← function_parts funs.0
  if ty_eq types.0 args.0 then Some (record { hyps = joined f.hyps a.hyps; prop = eq types.1 (App funs.1 args.1) (App funs.2 args.2); base = joined_bases f.base a.base }) else None

-- `(%x. t) == (%x. u)`, from `t == u` for a free variable x that is not in the hypotheses
abbrev pub abstracted : Tm → Theorem → Option Theorem
abstracted x th = do
  var ← free_parts x
  parts ← eq_parts th.prop
  if occurs_in var.0 var.1 th.hyps then None else Some (record { hyps = th.hyps; prop = eq (function_of var.1 parts.0) (Abs var.0 var.1 (close var.0 var.1 parts.1)) (Abs var.0 var.1 (close var.0 var.1 parts.2)); base = th.base })

-- `t == b[a]`, for a well-typed t that is `(%x. b) a`
abbrev pub contracted : Tm → Option Theorem
contracted t = do
  outer ← app_parts t
  fun ← abs_parts outer.0
  T ← well_typed (type_at [] t)
  Some (record { hyps = []; prop = eq T t (replace fun.2 outer.1); base = [] })

-- `t == f`, for a t that is `%x. f x`, f being well typed, so that x is not in f
abbrev pub shortened : Tm → Option Theorem
shortened t = do
  fun ← abs_parts t
  body ← app_parts fun.2
  F ← well_typed (type_at [] body.0)
  types ← function_parts F
  if is_last body.1 && ty_eq fun.1 types.0 then Some (record { hyps = []; prop = eq F t body.0; base = [] }) else None

-- `A == B`, from `A ==> B` and `B ==> A`
abbrev pub equal_introduced : Theorem → Theorem → Option Theorem
equal_introduced ab ba = do
  there ← imp_parts ab.prop
  back ← imp_parts ba.prop
  if tm_eq there.0 back.1 && tm_eq there.1 back.0 then Some (record { hyps = joined ab.hyps ba.hyps; prop = eq prop there.0 there.1; base = joined_bases ab.base ba.base }) else None

-- B, from `A == B` and A
abbrev pub equal_eliminated : Theorem → Theorem → Option Theorem
equal_eliminated e a = do
  parts ← eq_parts e.prop
  if ty_eq parts.0 prop && tm_eq parts.1 a.prop then Some (record { hyps = joined e.hyps a.hyps; prop = parts.2; base = joined_bases e.base a.base }) else None

-- whether each term has the instance of the type of its unknown, and no loose bound variables
abbrev pub keeps : List TypeEntry → List TermEntry → Bool
keeps es [] = true
keeps es (f ∷ fs) = has_type f.term (inst_ty es f.typ) && keeps es fs

-- the instance in normal form, where types are kept and no instantiated unknown is in the hypotheses
abbrev pub instantiated : Instance → Theorem → Option Theorem
instantiated s th = if keeps s.types s.terms && not (in_tms s.types s.terms th.hyps) then Some (record { hyps = th.hyps; prop = instance_of s th.prop; base = th.base }) else None

-- unknowns of number 0 for the named free and type variables, where none of them is in the hypotheses
abbrev pub generalized : List (List ℕ) → Theorem → Option Theorem
generalized names th = if named_in names th.hyps then None else Some (record { hyps = th.hyps; prop = gen_tm names th.prop; base = th.base })
