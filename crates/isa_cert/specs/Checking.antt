-- What a certificate proves, or the first line that is refused.
-- Source: proof terms that a small kernel checks (Harrison, "Towards self-verification of HOL Light", 2006; Berghofer and Nipkow, "Proof terms for simply typed higher order logic", 2000); the format is this project's.
use Rattle.std.specs.Prelude.{◌≡◌, ℕ, ◌+◌, Bool, true, false, not, ◌&&◌, nat_eq, if◌then◌else◌, List, [], ◌∷◌, ◌++◌, map, length, slice_get, Option, Some, None, is_some, Result, Ok, Err, codes}
use Rattle.std.specs.List.{slice_split}
use Rattle.isa_terms.specs.Types.{Ty, TyCon, TyFixed, TyUnknown, tys_of}
use Rattle.isa_terms.specs.Terms.{Tm, Const, Free, Unknown, Bound, Abs, App, bare}
use Rattle.isa_terms.specs.Equal.{name_eq}
use Rattle.std.specs.declared.cmp.Ordering.TheVariants.{Less, Equal, Greater}
use Rattle.isa_terms.specs.Order.{name_cmp}
use Rattle.isa_terms.specs.Entries.{passes}
use Rattle.isa_terms.specs.Instance.{same_type_unknown, same_unknown}
use Rattle.isa_terms.specs.Typing.{type_at}
use Rattle.isa_terms.specs.declared.inst.TypeEntry.{TypeEntry}
use Rattle.isa_terms.specs.declared.inst.TermEntry.{TermEntry}
use Rattle.isa_kernel.specs.Derivation.{Derives}
use Rattle.isa_kernel.specs.Theorem.{Theorem}
use Rattle.isa_kernel.specs.Axioms.{axioms_of}
use Rattle.isa_kernel.specs.Theories.{any_type, arity_of, constant_type, axiom_prop, axiom_refusal, axiom_theorem}
use Rattle.isa_kernel.specs.Inferences.{well_typed, assumed, implies_introduced, implies_eliminated, forall_introduced, forall_eliminated, reflexive_at, turned, chained, combined, abstracted, contracted, shortened, equal_introduced, equal_eliminated, instantiated, generalized}
use Rattle.isa_kernel.specs.declared.axioms.NamedProp.{NamedProp}
use Rattle.isa_kernel.specs.declared.declarations.Declaration.{Declaration}
use Rattle.isa_kernel.specs.declared.declarations.Declaration.TheVariants.{Constructor, Constant, Axiom}
use Rattle.isa_cert.specs.declared.certs.Accepted.{Accepted}
use Rattle.isa_cert.specs.declared.table.End.{End}
use Rattle.isa_cert.specs.declared.table.Table.{Table}
use Rattle.isa_cert.specs.declared.line.Line.{Line}
use Rattle.isa_cert.specs.declared.line.Line.TheVariants as line
use Rattle.isa_cert.specs.declared.line.Rule.{Rule}
use Rattle.isa_cert.specs.declared.line.Rule.TheVariants.{ByAxiom, Assume, ImpliesIntr, ImpliesElim, ForallIntr, ForallElim, Reflexive, Symmetric, Transitive, Combination, AbstractRule, Beta, Eta, EqualIntr, EqualElim, InstantiateThm, Generalize, Cite}
use Rattle.isa_cert.specs.Words.{words_of}
use Rattle.isa_cert.specs.Lines.{any_number, line_of}
use Rattle.isa_kernel.specs.Forms.{◌>>=◌}

-- why a line is refused: it has none of the forms, or names what isn't there; a term has no type, or an axiom is no proposition; an inference's condition fails
pub data Fault : Type 0 where
  Form : Fault
  Typed : Fault
  Step : Fault

-- What earlier lines have given is a table. What they declare is a theory of its own, where each constant but those of Pure has the type `?'a`.
abbrev pub empty : Table
empty = record { declared = []; types = []; terms = []; axioms = []; steps = []; ends = [] }

-- what earlier lines have at these numbers
abbrev pub all_at : {A : Type 0} → List A → List ℕ → Option (List A)
all_at xs [] = Some []
all_at xs (n ∷ ns) = do
  x ← slice_get xs n
  rest ← all_at xs ns
  Some (x ∷ rest)

-- a line that names what isn't there has none of the forms
abbrev pub or_form : {A B : Type 0} → Option A → (A → Result B Fault) → Result B Fault
or_form None go = Err Form
or_form (Some a) go = go a

-- what has no fault goes on
abbrev pub and_then : {A B : Type 0} → Result A Fault → (A → Result B Fault) → Result B Fault
and_then (Err fault) go = Err fault
and_then (Ok a) go = go a

-- ---- types, terms and axioms
abbrev pub with_type : Table → Ty → Table
with_type t T = record t { types = t.types ++ T ∷ [] }

abbrev pub with_term : Table → Tm → Table
with_term t e = record t { terms = t.terms ++ e ∷ [] }

-- a constructor is declared where it comes first, and has this number of arguments from then on
abbrev pub with_constructed : Table → List ℕ → List Ty → Option ℕ → Result Table Fault
with_constructed t c Ts None = Ok (with_type (record t { declared = t.declared ++ Constructor c (length Ts) ∷ [] }) (TyCon c (tys_of Ts)))
with_constructed t c Ts (Some n) = if nat_eq n (length Ts) then Ok (with_type t (TyCon c (tys_of Ts))) else Err Form

-- a constant is declared where it comes first
abbrev pub with_constant : Table → List ℕ → Option Ty → Table
with_constant t c None = record t { declared = t.declared ++ Constant c any_type ∷ [] }
with_constant t c (Some T) = t

-- an axiom has a new name, and the theory takes it
abbrev pub with_axiom : Table → List ℕ → Tm → Result Table Fault
with_axiom t x p =
    if is_some (axiom_prop t.declared x) then Err Form
    else (if is_some (axiom_refusal t.declared x p) then Err Typed
    else Ok (record t { declared = t.declared ++ Axiom x p ∷ []; axioms = t.axioms ++ axiom_theorem x p ∷ [] }))

-- ---- inferences
-- whether each of the terms has a type
abbrev pub all_typed : List Tm → Bool
all_typed [] = true
all_typed (u ∷ us) = is_some (well_typed (type_at [] u)) && all_typed us

abbrev pub or_step : Option Theorem → Result Theorem Fault
or_step None = Err Step
or_step (Some th) = Ok th

-- the theorem of a line that names these terms, where they are typed and the inference's condition holds
abbrev pub theorem_on : List Tm → Option Theorem → Result Theorem Fault
theorem_on us th = if all_typed us then or_step th else Err Typed

-- by a rule on a term
abbrev pub on_term : Table → (Tm → Option Theorem) → ℕ → Result Theorem Fault
on_term t rule e = or_form (slice_get t.terms e) (λ u. theorem_on (u ∷ []) (rule u))

-- by a rule on a step
abbrev pub on_step : Table → (Theorem → Option Theorem) → ℕ → Result Theorem Fault
on_step t rule s = or_form (slice_get t.steps s) (λ th. theorem_on [] (rule th))

-- by a rule on a term and a step
abbrev pub on_both : Table → (Tm → Theorem → Option Theorem) → ℕ → ℕ → Result Theorem Fault
on_both t rule e s = or_form (slice_get t.terms e) (λ u. or_form (slice_get t.steps s) (λ th. theorem_on (u ∷ []) (rule u th)))

-- by a rule on two steps
abbrev pub on_steps : Table → (Theorem → Theorem → Option Theorem) → ℕ → ℕ → Result Theorem Fault
on_steps t rule r s = or_form (slice_get t.steps r) (λ a. or_form (slice_get t.steps s) (λ b. theorem_on [] (rule a b)))

-- a type unknown with its type
abbrev pub type_entry : Ty → Ty → Option TypeEntry
type_entry (TyUnknown x i) T = Some (record { name = x; number = i; typ = T })
type_entry _ T = None

-- an unknown with its term
abbrev pub term_entry : Tm → Tm → Option TermEntry
term_entry (Unknown x i T) u = Some (record { name = x; number = i; typ = T; term = u })
term_entry _ u = None

-- the entries and one more, where none of them is for the same unknown
abbrev pub with_entry : {A : Type 0} → (A → A → Bool) → List A → A → Result (List A) Fault
with_entry same es e = if passes (same e) es then Err Form else Ok (es ++ e ∷ [])

abbrev pub type_pair : Table → List TypeEntry → ℕ × ℕ → Result (List TypeEntry) Fault
type_pair t es p = or_form (slice_get t.types p.0) (λ S. or_form (slice_get t.types p.1) (λ T. or_form (type_entry S T) (with_entry same_type_unknown es)))

abbrev pub term_pair : Table → List TermEntry → ℕ × ℕ → Result (List TermEntry) Fault
term_pair t es p = or_form (slice_get t.terms p.0) (λ u. or_form (slice_get t.terms p.1) (λ v. or_form (term_entry u v) (with_entry same_unknown es)))

-- the entries, and those of the pairs behind them
abbrev pub type_entries : Table → List TypeEntry → List (ℕ × ℕ) → Result (List TypeEntry) Fault
type_entries t es [] = Ok es
type_entries t es (p ∷ ps) = and_then (type_pair t es p) (λ more. type_entries t more ps)

abbrev pub term_entries : Table → List TermEntry → List (ℕ × ℕ) → Result (List TermEntry) Fault
term_entries t es [] = Ok es
term_entries t es (p ∷ ps) = and_then (term_pair t es p) (λ more. term_entries t more ps)

abbrev pub terms_of : List TermEntry → List Tm
terms_of es = map (λ (e : TermEntry). e.term) es

abbrev pub instance_on : Table → ℕ → List (ℕ × ℕ) → List (ℕ × ℕ) → Result Theorem Fault
instance_on t s types terms = or_form (slice_get t.steps s) (λ th.
    and_then (type_entries t [] types) (λ es. and_then (term_entries t [] terms) (λ fs. theorem_on (terms_of fs) (instantiated (record { types = es; terms = fs }) th))))

-- the theorem of a line by its inference, in the kernel's order
abbrev pub inferred : Table → Rule → Result Theorem Fault
inferred t (ByAxiom a) = or_form (slice_get t.axioms a) Ok
inferred t (Assume e) = on_term t assumed e
inferred t (ImpliesIntr e s) = on_both t implies_introduced e s
inferred t (ImpliesElim r s) = on_steps t implies_eliminated r s
inferred t (ForallIntr e s) = on_both t forall_introduced e s
inferred t (ForallElim e s) = on_both t forall_eliminated e s
inferred t (Reflexive e) = on_term t reflexive_at e
inferred t (Symmetric s) = on_step t turned s
inferred t (Transitive r s) = on_steps t chained r s
inferred t (Combination r s) = on_steps t combined r s
inferred t (AbstractRule e s) = on_both t abstracted e s
inferred t (Beta e) = on_term t contracted e
inferred t (Eta e) = on_term t shortened e
inferred t (EqualIntr r s) = on_steps t equal_introduced r s
inferred t (EqualElim r s) = on_steps t equal_eliminated r s
inferred t (InstantiateThm s types terms) = instance_on t s types terms
inferred t (Generalize s xs) = on_step t (generalized xs) s
inferred t (Cite digits) = or_form (any_number digits) (λ n. or_form (slice_get t.ends n) (λ e. Ok e.theorem))

abbrev pub with_step : Table → Theorem → Table
with_step t th = record t { steps = t.steps ++ th ∷ [] }

-- the end of a theorem without hypotheses
abbrev pub with_end : Table → List ℕ → Theorem → List Tm → Result Table Fault
with_end t x th [] = Ok (record t { ends = t.ends ++ record { name = x; theorem = th } ∷ [] })
with_end t x th (h ∷ hs) = Err Step

-- ---- lines
-- what a line adds
abbrev pub taken : Table → Line → Result Table Fault
taken t (line.TypeCon c ns) = or_form (all_at t.types ns) (λ Ts. with_constructed t c Ts (arity_of t.declared c))
taken t (line.TypeFixed x) = Ok (with_type t (TyFixed x))
taken t (line.TypeUnknown x i) = Ok (with_type t (TyUnknown x i))
taken t (line.TermConst c n) = or_form (slice_get t.types n) (λ T. Ok (with_term (with_constant t c (constant_type t.declared c)) (Const c T)))
taken t (line.TermFree x n) = or_form (slice_get t.types n) (λ T. Ok (with_term t (Free x T)))
taken t (line.TermUnknown x i n) = or_form (slice_get t.types n) (λ T. Ok (with_term t (Unknown x i T)))
taken t (line.TermBound i) = Ok (with_term t (Bound i))
taken t (line.TermAbs x n e) = or_form (slice_get t.types n) (λ T. or_form (slice_get t.terms e) (λ b. Ok (with_term t (Abs x T b))))
taken t (line.TermApp f a) = or_form (slice_get t.terms f) (λ u. or_form (slice_get t.terms a) (λ v. Ok (with_term t (App u v))))
taken t (line.Axiom x e) = or_form (slice_get t.terms e) (with_axiom t x)
taken t (line.Step r) = and_then (inferred t r) (λ th. Ok (with_step t th))
taken t (line.End s x) = or_form (slice_get t.steps s) (λ th. with_end t x th th.hyps)

-- ---- the text
-- the first line that is refused, counted from 1; or that the text doesn't close with an end
pub data Refusal : Type 0 where
  FormAt : (number : ℕ) → Refusal
  TypedAt : (number : ℕ) → Refusal
  StepAt : (number : ℕ) → Refusal
  NoEnd : Refusal

abbrev pub at : ℕ → Fault → Refusal
at n Form = FormAt n
at n Typed = TypedAt n
at n Step = StepAt n

abbrev pub is_end : Line → Bool
is_end (line.End s x) = true
is_end _ = false

-- what the words of a line add, and whether the line is an end
abbrev pub read_line : Table → List ℕ → Result (Table × Bool) Fault
read_line t text = or_form (line_of (words_of text)) (λ l. and_then (taken t l) (λ later. Ok (later, is_end l)))

-- a fault is that of line n
abbrev pub at_line : {A B : Type 0} → ℕ → Result A Fault → (A → Result B Refusal) → Result B Refusal
at_line n (Err fault) go = Err (at n fault)
at_line n (Ok a) go = go a

-- Where the text ends: nothing stands behind the last line feed, and the last line is an end.
abbrev pub closed : ℕ → Table → Bool → List ℕ → Result Table Refusal
closed n t ended (b ∷ bs) = Err (FormAt n)
closed n t true [] = Ok t
closed n t false [] = Err NoEnd

-- What parts between line feeds add, the first one being line n; whether the line before it is an end. The last part stands behind the last line feed.
abbrev pub taken_from : ℕ → Table → Bool → List (List ℕ) → Result Table Refusal
taken_from n t ended [] = Ok t
taken_from n t ended (part ∷ []) = closed n t ended part
taken_from n t ended (part ∷ next ∷ parts) = at_line n (read_line t part) (λ r. taken_from (n + 1) r.0 r.1 (next ∷ parts))

-- the axioms by the bytes of their names
abbrev pub put_axiom : NamedProp → List NamedProp → List NamedProp
put_axiom a [] = a ∷ []
put_axiom a (b ∷ bs) = elim (name_cmp b.name a.name) [ Less ↦ b ∷ put_axiom a bs | Equal ↦ a ∷ b ∷ bs | Greater ↦ a ∷ b ∷ bs ]

abbrev pub by_name : List NamedProp → List NamedProp
by_name [] = []
by_name (a ∷ rest) = put_axiom a (by_name rest)

abbrev pub accepted : End → Accepted
accepted e = record { name = e.name; axioms = by_name (axioms_of e.theorem.base); prop = e.theorem.prop }

abbrev pub accepted_of : Result Table Refusal → Result (List Accepted) Refusal
accepted_of (Ok t) = Ok (map accepted t.ends)
accepted_of (Err refusal) = Err refusal

-- behind the header
abbrev pub checked_lines : List (List ℕ) → Result (List Accepted) Refusal
checked_lines (header ∷ part ∷ parts) = if name_eq header (codes "isacert 1") then accepted_of (taken_from 2 empty false (part ∷ parts)) else Err (FormAt 1)
checked_lines _ = Err (FormAt 1)

-- the theorems of a text of certificates, in their order, or the first refusal; an empty text has none
abbrev pub checked : List ℕ → Result (List Accepted) Refusal
checked [] = Ok []
checked (b ∷ bs) = checked_lines (slice_split (λ x. nat_eq x 10) (b ∷ bs))

-- the text is accepted, and these are its theorems
abbrev pub CertOk : List ℕ → List Accepted → Type 0
CertOk text list = checked text ≡ Ok list

-- it has a derivation from the axioms that it lists
pub record IsProved (a : Accepted) : Type 0 where
  pub derivation : Derives (map (λ x. bare x.prop) a.axioms) [] (bare a.prop)

abbrev pub AreProved : List Accepted → Type 0
AreProved [] = Unit {0}
AreProved (a ∷ rest) = IsProved a × AreProved rest

-- each accepted theorem is proved
abbrev pub AcceptedAreProved : Type 0
AcceptedAreProved = (text : List ℕ) (list : List Accepted) → CertOk text list → AreProved list
