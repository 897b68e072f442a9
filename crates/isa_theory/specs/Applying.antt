-- What each command that stands outside of proofs does to the context, or its first refusal.
-- Source: the Isabelle/Isar Reference Manual, chapter "Specifications" (`typedecl`, `judgment`, `consts`, `axiomatization`, `lemmas`,
-- `declare`) and "Proofs" (`lemma`); which cause counts first is this project's own: the first in reading order.
use Rattle.std.specs.Prelude.{◌≡◌, ◌≢◌, ℕ, Bool, true, false, if◌then◌else◌, List, [], ◌∷◌, ◌++◌, length, Option, Some, None, Result, Ok, Err, is_some, option_map}
use Rattle.isa_terms.specs.Types.{Ty}
use Rattle.isa_terms.specs.Terms.{Tm}
use Rattle.isa_kernel.specs.Forms.{predicate_of}
use Rattle.isa_kernel.specs.Theorem.{Theorem}
use Rattle.isa_kernel.specs.Theories.{constant_type, type_refusal, constant_refusal, axiom_refusal, axiom_prop, axiom_theorem}
use Rattle.isa_kernel.specs.declared.declarations.Declaration.{Declaration as TheoryDeclaration}
use Rattle.isa_kernel.specs.declared.declarations.Declaration.TheVariants.{Constructor, Constant, Axiom}
use Rattle.isa_kernel.specs.declared.logic.Logic.{Logic}
use Rattle.isa_kernel.specs.declared.declarations.TheoryFail.{TheoryFail}
use Rattle.isa_kernel.specs.declared.declarations.TheoryFail.TheVariants as fail
use Rattle.isa_outer.specs.declared.refusal.Kind.{Kind}
use Rattle.isa_outer.specs.declared.refusal.Kind.TheVariants as kind
use Rattle.isa_outer.specs.declared.refusal.Refused.{Refused}
use Rattle.isa_outer.specs.declared.refusal.Sort.{Sort}
use Rattle.isa_outer.specs.declared.refusal.Sort.TheVariants as sort
use Rattle.isa_outer.specs.declared.command.Inner.{Inner}
use Rattle.isa_outer.specs.declared.command.Constant.{Constant as NewConstant}
use Rattle.isa_outer.specs.declared.command.Label.{Label}
use Rattle.isa_outer.specs.declared.command.Axiom.{Axiom as NewAxiom}
use Rattle.isa_outer.specs.declared.command.Declaration.{Declaration}
use Rattle.isa_outer.specs.declared.command.Attribute.{Attribute}
use Rattle.isa_outer.specs.declared.command.Attribute.TheVariants as attribute
use Rattle.isa_outer.specs.declared.command.Setting.{Setting}
use Rattle.isa_outer.specs.declared.command.Command.{Command}
use Rattle.isa_outer.specs.declared.command.Command.TheVariants as command
use Rattle.isa_outer.specs.declared.command.Notation.{Notation}
use Rattle.isa_syntax.specs.Syntaxes.{SyntaxSeen}
use Rattle.isa_syntax.specs.Syntaxes as syntax
use Rattle.isa_syntax.specs.Notations as notations
use Rattle.isa_theory.specs.Contexts.{ContextSeen, fact_of, judgment_name}
use Rattle.isa_theory.specs.General.{general_type, general_prop}
use Rattle.isa_theory.specs.declared.lemma.Lemma.{Lemma}
use Rattle.isa_theory.specs.MethodFacts.{method_facts}
use Rattle.isa_theory.specs.Reading.{IsTypeOf, IsPropOf}
use Rattle.isa_theory.specs.Options.{with_setting}
use Rattle.isa_theory.specs.Results.{◌>>=◌, each, or_refused}
use Rattle.isa_theory.specs.Told.{Reading, Each, Then}
use Rattle.isa_theory.specs.Roles.{has_form, with_role, role_name}

-- ---- what the theory refuses
-- the refusal of a declaration of this sort; a text that is read names no undeclared constant
abbrev pub kind_of : Sort → TheoryFail → Kind
kind_of s (fail.Duplicate x) = kind.Duplicate s x
kind_of s (fail.Unknown x) = kind.Unknown sort.Type x
kind_of s (fail.Misfit x) = kind.Arity x
kind_of s (fail.IllTyped fault) = kind.Types
kind_of s (fail.NotProp T) = kind.Types
kind_of s fail.Memory = kind.Memory

-- the declaration stands last, if nothing refuses it
abbrev pub declared : Sort → TheoryDeclaration → Option TheoryFail → ContextSeen → Result ContextSeen Kind
declared s d None c = Ok (record c { theory = c.theory ++ d ∷ [] })
declared s d (Some fault) c = Err (kind_of s fault)

-- a name of this sort that is new
abbrev pub new_name : Sort → List ℕ → Bool → Result (Unit {0}) Kind
new_name s x there = if there then Err (kind.Duplicate s x) else Ok tt

-- the syntax is the next one, if there is one
abbrev pub in_syntax : ContextSeen → Result SyntaxSeen Kind → Result ContextSeen Kind
in_syntax c next = next >>= (λ s. Ok (record c { syntax = s }))

-- ---- types and constants
unfoldable pub with_type : ContextSeen → List ℕ → ℕ → Result ContextSeen Kind
with_type c x n = declared sort.Type (Constructor x n) (type_refusal c.theory x) c >>= (λ d. in_syntax d (syntax.with_type d.syntax x n))

unfoldable pub with_constant : ContextSeen → List ℕ → Ty → Result ContextSeen Kind
with_constant c x T = declared sort.Constant (Constant x T) (constant_refusal c.theory x T) c >>= (λ d. in_syntax d (syntax.with_constant d.syntax x T))

-- whether the name is that of a constant
unfoldable pub new_constant : ContextSeen → List ℕ → Result (Unit {0}) Kind
new_constant c x = new_name sort.Constant x (is_some (constant_type c.theory x))

-- the constant's notation, where it has one
unfoldable pub with_notation : ContextSeen → List ℕ → Option Notation → Result ContextSeen Kind
with_notation c x None = Ok c
with_notation c x (Some n) = in_syntax c (notations.with_notation c.syntax x n)

-- a constant of the type of its text, whose type variables become unknowns
unfoldable pub constant_of : ContextSeen → NewConstant → Ty → Result ContextSeen Kind
constant_of c k T = with_constant c k.name (general_type T) >>= (λ d. with_notation d k.name k.notation)

-- NAME :: TYPE NOTE
abbrev pub WithNewConstant : ContextSeen → NewConstant → Result ContextSeen Kind → Type 0
WithNewConstant c k r = Reading (new_constant c k.name) (IsTypeOf c k.typ) (constant_of c k) r

-- constants, one after the other
abbrev pub WithConstants : ContextSeen → List NewConstant → Result ContextSeen Kind → Type 0
WithConstants c ks r = Each WithNewConstant c ks r

-- The judgment comes once; it is a constant of a type `T => prop`.
unfoldable pub new_judgment : ContextSeen → List ℕ → Result (Unit {0}) Kind
new_judgment c x = new_constant c x >>= (λ u. new_name sort.Judgment x (is_some c.syntax.signature.judgment))

abbrev pub predicate_type : Ty → Result (Unit {0}) Kind
predicate_type T = if is_some (predicate_of T) then Ok tt else Err kind.Types

unfoldable pub judgment_of : ContextSeen → List ℕ → Ty → Result ContextSeen Kind
judgment_of c x T = do
  u ← predicate_type T
  d ← with_constant c x (general_type T)
  in_syntax d (syntax.with_judgment d.syntax x)

abbrev pub WithJudgment : ContextSeen → List ℕ → Inner → Result ContextSeen Kind → Type 0
WithJudgment c x text r = Reading (new_judgment c x) (IsTypeOf c text) (judgment_of c x) r

-- ---- facts
-- the fact stands last
abbrev pub with_fact : ContextSeen → List ℕ → List Theorem → ContextSeen
with_fact c x ths = record c { facts = c.facts ++ (x, ths) ∷ [] }

unfoldable pub new_fact : ContextSeen → List ℕ → Result (Unit {0}) Kind
new_fact c x = new_name sort.Fact x (is_some (fact_of c x))

unfoldable pub known_fact : ContextSeen → List ℕ → Result (List Theorem) Kind
known_fact c x = or_refused (kind.Unknown sort.Fact x) (fact_of c x)

-- the theorems of facts, in order
abbrev pub known_facts : ContextSeen → List (List ℕ) → Result (List Theorem) Kind
known_facts c [] = Ok []
known_facts c (x ∷ xs) = do
  ths ← known_fact c x
  more ← known_facts c xs
  Ok (ths ++ more)

-- whether all of the facts are there
abbrev pub all_known : ContextSeen → List (List ℕ) → Result (Unit {0}) Kind
all_known c [] = Ok tt
all_known c (x ∷ xs) = known_fact c x >>= (λ ths. all_known c xs)

-- the theorem of a declared axiom
unfoldable pub axiom_fact : ContextSeen → List ℕ → Result Theorem Kind
axiom_fact c x = or_refused (kind.Unknown sort.Fact x) (option_map (axiom_theorem x) (axiom_prop c.theory x))

-- the axiom of the proposition of its text, whose variables become unknowns, is declared, and is a fact
unfoldable pub axiom_of : ContextSeen → List ℕ → Tm → Result ContextSeen Kind
axiom_of c x p = do
  d ← declared sort.Fact (Axiom x (general_prop p)) (axiom_refusal c.theory x (general_prop p)) c
  th ← axiom_fact d x
  Ok (with_fact d x (th ∷ []))

-- NAME: PROP, of a new name
abbrev pub WithAxiom : ContextSeen → NewAxiom → Result ContextSeen Kind → Type 0
WithAxiom c a r = Reading (new_fact c a.label.name) (IsPropOf c false a.prop) (axiom_of c a.label.name) r

-- axioms, one after the other
abbrev pub WithAxioms : ContextSeen → List NewAxiom → Result ContextSeen Kind → Type 0
WithAxioms c axioms r = Each WithAxiom c axioms r

-- ---- attributes
-- the facts with a role after an attribute, which asks for the role's form; j is the judgment's name
unfoldable pub logic_with : List ℕ → Logic → Attribute → Theorem → Result Logic Kind
logic_with j l (attribute.Logic r) th = if has_form j r th.prop then Ok (with_role l r th) else Err (kind.Role (role_name r))
logic_with j l _ th = Ok l

-- The theorem is declared by the attribute. What it is for the simplifier and the classical reasoner is kept and not looked at.
unfoldable pub with_attribute : ContextSeen → Attribute → Theorem → Result ContextSeen Kind
with_attribute c a th = do
  l ← logic_with (judgment_name c) c.logic a th
  Ok (record c { declarations = c.declarations ++ record { attribute = a; thm = th } ∷ []; logic = l })

-- an attribute acts on each of the theorems
unfoldable pub with_attribute_on : ContextSeen → List Theorem → Attribute → Result ContextSeen Kind
with_attribute_on c ths a = each (λ d th. with_attribute d a th) c ths

-- attributes act one after the other
unfoldable pub with_attributes : ContextSeen → List Attribute → List Theorem → Result ContextSeen Kind
with_attributes c attributes ths = each (λ d a. with_attribute_on d ths a) c attributes

-- the attributes of a fact act
unfoldable pub with_declared : ContextSeen → List ℕ → List Attribute → Result ContextSeen Kind
with_declared c x attributes = known_fact c x >>= (λ ths. with_attributes c attributes ths)

-- all of the axioms are declared before their attributes act
abbrev pub with_labels : ContextSeen → List NewAxiom → Result ContextSeen Kind
with_labels c axioms = each (λ d a. with_declared d a.label.name a.label.attributes) c axioms

abbrev pub WithAxiomatization : ContextSeen → List NewAxiom → Result ContextSeen Kind → Type 0
WithAxiomatization c axioms r = Then (WithAxioms c axioms) (λ d. with_labels d axioms) r

unfoldable pub with_lemmas : ContextSeen → Label → List (List ℕ) → Result ContextSeen Kind
with_lemmas c label xs = do
  u ← new_fact c label.name
  ths ← known_facts c xs
  with_attributes (with_fact c label.name ths) label.attributes ths

-- facts whose attributes act once all of the facts were found
abbrev pub declared_facts : List Declaration → List (List ℕ)
declared_facts [] = []
declared_facts (d ∷ ds) = d.fact ∷ declared_facts ds

abbrev pub with_each_declared : ContextSeen → List Declaration → Result ContextSeen Kind
with_each_declared c ds = each (λ e d. with_declared e d.fact d.attributes) c ds

unfoldable pub with_declarations : ContextSeen → List Declaration → Result ContextSeen Kind
with_declarations c ds = all_known c (declared_facts ds) >>= (λ u. with_each_declared c ds)

-- ---- options
unfoldable pub with_option : ContextSeen → Setting → Result ContextSeen Kind
with_option c s = with_setting c.options s >>= (λ o. Ok (record c { options = o }))

-- the facts of its method are there
unfoldable pub with_wrapper : ContextSeen → List (List ℕ) → Result ContextSeen Kind
with_wrapper c xs = all_known c xs >>= (λ u. Err kind.NotBuilt)

-- ---- lemmas
abbrev pub label_name : Option Label → Option (List ℕ)
label_name None = None
label_name (Some label) = Some label.name

abbrev pub new_label : ContextSeen → Option Label → Result (Unit {0}) Kind
new_label c None = Ok tt
new_label c (Some label) = new_fact c label.name

abbrev pub label_attributes : Option Label → List Attribute
label_attributes None = []
label_attributes (Some label) = label.attributes

-- the proposition that a lemma of a new name is about
abbrev pub IsGoalOf : ContextSeen → Bool → Option Label → Inner → Result Tm Kind → Type 0
IsGoalOf c schematic label text r = Reading (new_label c label) (IsPropOf c schematic text) (λ p. Ok p) r

-- the lemma that is begun
abbrev pub IsLemmaOf : ContextSeen → Bool → Option Label → Inner → Result Lemma Kind → Type 0
IsLemmaOf c schematic label text r = Then (IsGoalOf c schematic label text) (λ p. Ok (record { line = text.line; name = label_name label; attributes = label_attributes label; goal = p })) r

-- a lemma changes nothing until it is stored
abbrev pub WithGoal : ContextSeen → Bool → Option Label → Inner → Result ContextSeen Kind → Type 0
WithGoal c schematic label text r = Then (IsGoalOf c schematic label text) (λ p. Ok c) r

-- ---- all commands
-- The next context or the first refusal; the commands of a proof have none.
unfoldable pub Applied : ContextSeen → Command → Result ContextSeen Kind → Type 0
Applied c (command.Typedecl line xs x) r = with_type c x (length xs) ≡ r
Applied c (command.Judgment line x text) r = WithJudgment c x text r
Applied c (command.Consts line ks) r = WithConstants c ks r
Applied c (command.Axiomatization line axioms) r = WithAxiomatization c axioms r
Applied c (command.Lemma line label text) r = WithGoal c false label text r
Applied c (command.SchematicGoal line label text) r = WithGoal c true label text r
Applied c (command.Lemmas line label xs) r = with_lemmas c label xs ≡ r
Applied c (command.Declare line ds) r = with_declarations c ds ≡ r
Applied c (command.DeclareOption line setting) r = with_option c setting ≡ r
Applied c (command.Wrapper line safe before x m) r = with_wrapper c (method_facts m) ≡ r
Applied c (command.Apply line m) r = Err kind.NoProof ≡ r
Applied c (command.By line m) r = Err kind.NoProof ≡ r
Applied c (command.Done line) r = Err kind.NoProof ≡ r
Applied c (command.Back line) r = Err kind.NoProof ≡ r
Applied c (command.Oops line) r = Err kind.NoProof ≡ r
Applied c (command.Print line count) r = Err kind.NoProof ≡ r

-- the line of a command's first word
abbrev pub line_of : Command → ℕ
line_of (command.Typedecl line xs x) = line
line_of (command.Judgment line x text) = line
line_of (command.Consts line ks) = line
line_of (command.Axiomatization line axioms) = line
line_of (command.Lemma line label text) = line
line_of (command.SchematicGoal line label text) = line
line_of (command.Lemmas line label xs) = line
line_of (command.Declare line ds) = line
line_of (command.DeclareOption line setting) = line
line_of (command.Wrapper line safe before x m) = line
line_of (command.Apply line m) = line
line_of (command.By line m) = line
line_of (command.Done line) = line
line_of (command.Back line) = line
line_of (command.Oops line) = line
line_of (command.Print line count) = line

-- The context that is left is the next one. A refusal, want of memory aside, is the first one, at the command's line, and leaves the context as it was.
abbrev pub Applies : Command → ContextSeen → Result (Unit {0}) Refused → ContextSeen → Type 0
Applies command old (Ok done) new = Applied old command (Ok new)
Applies command old (Err refused) new = (new ≡ old) × (refused.kind ≢ kind.Memory → (refused.line ≡ line_of command) × Applied old command (Err refused.kind))
