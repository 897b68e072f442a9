-- The language of theory files: words, attributes, methods and commands, as forms. What a line of the table has stands in the
-- order of the text; a part before `▸` or behind `◂` is read and gives no value.
-- Source: the Isabelle/Isar Reference Manual, chapters "Outer syntax", "Specifications", "Proofs" and "Generic tools and packages"; the exact
-- forms, `logic`, `simproc`, `wrapper`, `match`, `prefix` and `weight` are this project's own.
use Prim.Native.String.{String}
use Rattle.std.specs.Prelude.{ℕ, zero, suc, Bool, true, false, ◌||◌, not, if◌then◌else◌, List, [], ◌∷◌, Option, Some, None, codes, fold}
use Rattle.std.specs.List.{list_any, list_all}
use Rattle.isa_terms.specs.Equal.{name_eq}
use Rattle.isa_tokens.specs.declared.token.Token.{Token}
use Rattle.isa_tokens.specs.declared.token.Lexeme.{Lexeme}
use Rattle.isa_tokens.specs.declared.token.Lexeme.TheVariants as lexeme
use Rattle.isa_tokens.specs.Tokens.{is_blank}
use Rattle.isa_outer.specs.declared.refusal.Sort.TheVariants as sort
use Rattle.isa_outer.specs.declared.command.Inner.{Inner}
use Rattle.isa_outer.specs.declared.command.SimprocKind.{SimprocKind}
use Rattle.isa_outer.specs.declared.command.SimprocKind.TheVariants.{Neq, OnePoint, PullAssoc, PullLeft, PullSwap}
use Rattle.isa_outer.specs.declared.command.Role.{Role}
use Rattle.isa_outer.specs.declared.command.Role.TheVariants as roles
use Rattle.isa_outer.specs.declared.command.Attribute.{Attribute}
use Rattle.isa_outer.specs.declared.command.Attribute.TheVariants as attr
use Rattle.isa_outer.specs.declared.command.Setting.{Setting}
use Rattle.isa_outer.specs.declared.command.Setting.TheVariants as setting
use Rattle.isa_outer.specs.declared.command.NotationKind.{NotationKind}
use Rattle.isa_outer.specs.declared.command.NotationKind.TheVariants.{Infix, Infixl, Infixr, Binder, Prefix}
use Rattle.isa_outer.specs.declared.command.Notation.{Notation}
use Rattle.isa_outer.specs.declared.command.Constant.{Constant}
use Rattle.isa_outer.specs.declared.command.Label.{Label}
use Rattle.isa_outer.specs.declared.command.Axiom.{Axiom}
use Rattle.isa_outer.specs.declared.command.Declaration.{Declaration}
use Rattle.isa_outer.specs.declared.command.Command.{Command}
use Rattle.isa_outer.specs.declared.command.Command.TheVariants as commands
use Rattle.isa_outer.specs.declared.method.SimpMode.{SimpMode}
use Rattle.isa_outer.specs.declared.method.SimpMode.TheVariants.{NoAsm, NoAsmSimp, NoAsmUse, AsmLr}
use Rattle.isa_outer.specs.declared.method.Modifier.{Modifier}
use Rattle.isa_outer.specs.declared.method.Modifier.TheVariants as modifiers
use Rattle.isa_outer.specs.Methods as methods
use Rattle.isa_outer.specs.Methods.{Method, Node, At}
use Rattle.isa_outer.specs.Forms.{Form, one, number, pair, value, maybe, many, or, at, known, parens, is_number, is_sign, takes_sign, read, Reading, Got, Refuses}

-- Words, signs, names and texts

abbrev pub takes_word : List ℕ → Lexeme → Option (Unit {0})
takes_word word (lexeme.Name bytes) = if name_eq bytes word then Some tt else None
takes_word word _ = None

abbrev pub takes_colons : Lexeme → Option (Unit {0})
takes_colons lexeme.Colons = Some tt
takes_colons _ = None

abbrev pub takes_name : Lexeme → Option (List ℕ)
takes_name (lexeme.Name bytes) = Some bytes
takes_name _ = None

-- a text stands in quotes; a single identifier may stand without
abbrev pub takes_text : Lexeme → Option (List ℕ)
takes_text (lexeme.Text bytes) = Some bytes
takes_text (lexeme.Name bytes) = Some bytes
takes_text _ = None

abbrev pub takes_type_variable : Lexeme → Option (List ℕ)
takes_type_variable (lexeme.TypeVariable bytes) = Some bytes
takes_type_variable _ = None

-- the identifier of these bytes
abbrev pub word : List ℕ → Form (Unit {0})
word bytes = one bytes (takes_word bytes)

abbrev pub w : String → Form (Unit {0})
w text = word (codes text)

-- a byte that is a token by itself
abbrev pub sign : ℕ → Form (Unit {0})
sign byte = one (byte ∷ []) (takes_sign byte)

abbrev pub bang_sign : Form (Unit {0})
bang_sign = sign 33

abbrev pub opening : Form (Unit {0})
opening = sign 40

abbrev pub closing : Form (Unit {0})
closing = sign 41

abbrev pub plus : Form (Unit {0})
plus = sign 43

abbrev pub comma : Form (Unit {0})
comma = sign 44

abbrev pub colon : Form (Unit {0})
colon = sign 58

abbrev pub equals : Form (Unit {0})
equals = sign 61

abbrev pub question : Form (Unit {0})
question = sign 63

abbrev pub opening_bracket : Form (Unit {0})
opening_bracket = sign 91

abbrev pub closing_bracket : Form (Unit {0})
closing_bracket = sign 93

abbrev pub bar : Form (Unit {0})
bar = sign 124

abbrev pub colons : Form (Unit {0})
colons = one (codes "::") takes_colons

abbrev pub name : Form (List ℕ)
name = one (codes "name") takes_name

-- where a fact is due, any identifier is that fact
abbrev pub fact : Form (List ℕ)
fact = one (codes "fact") takes_name

-- a text of the command on this line
abbrev pub inner : ℕ → List ℕ → Form Inner
inner line what = value (λ bytes. record { line = line; bytes = bytes }) (one what takes_text)

abbrev pub typ : ℕ → Form Inner
typ line = inner line (codes "type")

abbrev pub proposition : ℕ → Form Inner
proposition line = inner line (codes "proposition")

-- How forms are joined

infixr 6 ◌&◌
abbrev pub ◌&◌ : {A B : Type 0} → Form A → Form B → Form (A × B)
f & g = pair f g

infixr 7 ◌▸◌
abbrev pub ◌▸◌ : {A : Type 0} → Form (Unit {0}) → Form A → Form A
f ▸ g = value (λ p. p.1) (pair f g)

infixl 8 ◌◂◌
abbrev pub ◌◂◌ : {A : Type 0} → Form A → Form (Unit {0}) → Form A
f ◂ g = value (λ p. p.0) (pair f g)

infixr 5 ◌∣◌
abbrev pub ◌∣◌ : {A : Type 0} → Form A → Form A → Form A
f ∣ g = or f g

infixl 9 ◌⇒◌
abbrev pub ◌⇒◌ : {A : Type 0} → Form (Unit {0}) → A → Form A
f ⇒ a = value (λ u. a) f

-- one or more, between which the separator stands
abbrev pub separated : {A : Type 0} → Form (Unit {0}) → Form A → Form (List A)
separated by f = value (λ p. p.0 ∷ p.1) (f & many (by ▸ f))

-- one or more, of which the second and each further one has a form of its own
abbrev pub some : {A : Type 0} → Form A → Form A → Form (List A)
some first next = value (λ p. p.0 ∷ p.1) (first & many next)

abbrev pub given : {A : Type 0} → A → Option A → A
given a None = a
given a (Some b) = b

abbrev pub is_there : Option (Unit {0}) → Bool
is_there None = false
is_there (Some u) = true

-- whether the form is there
abbrev pub flag : Form (Unit {0}) → Form Bool
flag f = value is_there (maybe f)

abbrev pub unless : {A : Type 0} → (List Token → Bool) → Form A → Form A
unless test f = at (λ ts. not (test ts)) f

-- What follows here?

-- the name of a lemma is followed by `[` or `:`
abbrev pub is_labelled : List Token → Bool
is_labelled [] = false
is_labelled (t ∷ []) = false
is_labelled (t ∷ u ∷ us) = is_sign 58 u.lexeme || is_sign 91 u.lexeme

-- the second token is a number
abbrev pub is_numbered : List Token → Bool
is_numbered [] = false
is_numbered (t ∷ []) = false
is_numbered (t ∷ u ∷ us) = is_number u.lexeme

abbrev pub is_got : {A : Type 0} → Reading A → Bool
is_got (Got a rest) = true
is_got (Refuses cause) = false

-- the form can be read here
abbrev pub stands : {A : Type 0} → Form A → List Token → Bool
stands f ts = is_got (read f ts)

abbrev pub command_words : List (List ℕ)
command_words = codes "typedecl" ∷ codes "judgment" ∷ codes "consts" ∷ codes "axiomatization" ∷ codes "lemma" ∷ codes "theorem"
    ∷ codes "schematic_goal" ∷ codes "lemmas" ∷ codes "declare" ∷ codes "wrapper" ∷ codes "apply" ∷ codes "by" ∷ codes "done"
    ∷ codes "back" ∷ codes "oops" ∷ codes "pr" ∷ []

abbrev pub is_among : List (List ℕ) → Lexeme → Bool
is_among words (lexeme.Name bytes) = list_any (name_eq bytes) words
is_among words _ = false

-- Where a list may go on, a command word begins a command.
unfoldable pub command_stands : List Token → Bool
command_stands [] = false
command_stands (t ∷ ts) = is_among command_words t.lexeme

-- Inside a method's parentheses it does not.
abbrev pub nothing_stands : List Token → Bool
nothing_stands ts = false

-- FACT ..
abbrev pub facts : (List Token → Bool) → Form (List (List ℕ))
facts stops = some fact (unless stops fact)

-- Attributes

unfoldable pub deletion : Form Bool
deletion = flag (w "del")

unfoldable pub bang : Form Bool
bang = flag bang_sign

-- [!] [weight N]
unfoldable pub weight : Form (Bool × ℕ)
weight = bang & value (given 0) (maybe (w "weight" ▸ number 0 1000))

-- WORD or `WORD del`
abbrev pub deletable : String → Attribute → Attribute → Form Attribute
deletable text add del = value (λ b. if b then del else add) (w text ▸ deletion)

abbrev pub weighted : String → (ℕ → Attribute) → (ℕ → Attribute) → Form Attribute
weighted text plain safe = value (λ p. if p.0 then safe p.1 else plain p.1) (w text ▸ weight)

unfoldable pub simproc_kind : Form SimprocKind
simproc_kind = w "neq" ⇒ Neq ∣ w "one_point" ⇒ OnePoint ∣ w "pull_assoc" ⇒ PullAssoc ∣ w "pull_left" ⇒ PullLeft ∣ w "pull_swap" ⇒ PullSwap

unfoldable pub role : Form Role
role = known sort.Role (codes "close") []
    (w "close" ⇒ roles.Close ∣ w "close_asm" ⇒ roles.CloseAsm ∣ w "atomize" ⇒ roles.Atomize ∣ w "meta" ⇒ roles.Meta
    ∣ w "swap" ⇒ roles.Swap ∣ w "classical" ⇒ roles.Classical ∣ w "not_elim" ⇒ roles.NotElim ∣ w "mp" ⇒ roles.Mp
    ∣ w "subst" ⇒ roles.Subst ∣ w "sym" ⇒ roles.Sym ∣ w "iff_d1" ⇒ roles.IffD1 ∣ w "iff_d2" ⇒ roles.IffD2)

unfoldable pub attribute : Form Attribute
attribute = known sort.Attribute (codes "simp") []
    (deletable "simp" attr.Simp attr.SimpDel
    ∣ deletable "cong" attr.Cong attr.CongDel
    ∣ deletable "split" attr.Split attr.SplitDel
    ∣ weighted "intro" attr.Intro attr.SafeIntro
    ∣ weighted "elim" attr.Elim attr.SafeElim
    ∣ weighted "dest" attr.Dest attr.SafeDest
    ∣ w "rule" ▸ w "del" ⇒ attr.RuleDel
    ∣ deletable "iff" attr.Iff attr.IffDel
    ∣ value attr.Simproc (w "simproc" ▸ simproc_kind)
    ∣ value attr.Logic (w "logic" ▸ role))

-- [ATTRS]
unfoldable pub attributes : Form (List Attribute)
attributes = value (given []) (maybe (opening_bracket ▸ separated comma attribute ◂ closing_bracket))

-- Modifiers of methods: a word with `:`, and then facts.

-- what a modifier is, given its facts
abbrev pub Head : Type 1
Head = Form (List (List ℕ) → Modifier)

unfoldable pub simp_head : Head
simp_head = (w "add" ⇒ modifiers.SimpAdd ∣ w "del" ⇒ modifiers.SimpDel ∣ w "only" ⇒ modifiers.SimpOnly ∣ w "cong" ⇒ modifiers.Cong ∣ w "split" ⇒ modifiers.Split) ◂ colon

abbrev pub banged : String → (List (List ℕ) → Modifier) → (List (List ℕ) → Modifier) → Head
banged text plain safe = value (λ b. if b then safe else plain) (w text ▸ bang)

unfoldable pub claset_word : Head
claset_word = banged "intro" modifiers.Intro modifiers.SafeIntro ∣ banged "elim" modifiers.Elim modifiers.SafeElim
    ∣ banged "dest" modifiers.Dest modifiers.SafeDest ∣ w "del" ⇒ modifiers.RuleDel

unfoldable pub claset_head : Head
claset_head = claset_word ◂ colon

unfoldable pub auto_word : Head
auto_word = claset_word ∣ w "simp" ▸ (w "add" ⇒ modifiers.SimpAdd ∣ w "del" ⇒ modifiers.SimpDel ∣ w "only" ⇒ modifiers.SimpOnly)
    ∣ w "cong" ⇒ modifiers.Cong ∣ w "split" ⇒ modifiers.Split ∣ w "iff" ⇒ modifiers.Iff

unfoldable pub auto_head : Head
auto_head = auto_word ◂ colon

-- a modifier's facts go on up to the next modifier
unfoldable pub modifier : Head → (List Token → Bool) → Form Modifier
modifier head stops = value (λ p. p.0 p.1) (head & facts (λ ts. stops ts || stands head ts))

abbrev pub modifier_list : Head → (List Token → Bool) → Form (List Modifier)
modifier_list head stops = many (modifier head stops)

-- Methods of the command on a line. Of a method's parentheses and a mode's, 500 nest; `deep` says that no more may be opened.

-- a method that takes facts
abbrev pub with_facts : (List (List ℕ) → Node) → String → ℕ → (List Token → Bool) → Form Method
with_facts make text line stops = value (λ names. At line (make names)) (w text ▸ facts stops)

unfoldable pub mode : Form SimpMode
mode = w "no_asm" ⇒ NoAsm ∣ w "no_asm_simp" ⇒ NoAsmSimp ∣ w "no_asm_use" ⇒ NoAsmUse ∣ w "asm_lr" ⇒ AsmLr

-- the methods that a wrapper takes
unfoldable pub plain_method : ℕ → Bool → (List Token → Bool) → Form Method
plain_method line deep stops =
    w "assumption" ⇒ At line methods.Assumption
    ∣ with_facts methods.Rule "rule" line stops ∣ with_facts methods.Erule "erule" line stops
    ∣ with_facts methods.Drule "drule" line stops ∣ with_facts methods.Frule "frule" line stops
    ∣ value (λ p. At line (methods.Simp p.0 p.1)) (w "simp" ▸ (maybe (parens deep mode) & modifier_list simp_head stops))
    ∣ with_facts methods.Split "split" line stops

-- [(asm)]
unfoldable pub assumptions_part : Bool → Form Bool
assumptions_part deep = flag (unless is_numbered (parens deep (w "asm")))

-- [(N)]
unfoldable pub position_part : Bool → Form (Option ℕ)
position_part deep = maybe (parens deep (number 1 1000))

unfoldable pub subst_method : ℕ → Bool → Form Method
subst_method line deep = value (λ p. At line (methods.Subst p.0 p.1.0 p.1.1)) (w "subst" ▸ (assumptions_part deep & position_part deep & fact))

-- the methods that take the modifiers of the claset
unfoldable pub claset_method : Form (List Modifier → Node)
claset_method = w "hypsubst" ⇒ methods.Hypsubst ∣ w "safe_step" ⇒ methods.SafeStep ∣ w "clarify_step" ⇒ methods.ClarifyStep
    ∣ w "inst_step" ⇒ methods.InstStep ∣ w "step" ⇒ methods.Step ∣ w "slow_step" ⇒ methods.SlowStep
    ∣ w "clarify" ⇒ methods.Clarify ∣ w "safe" ⇒ methods.Safe ∣ w "fast" ⇒ methods.Fast ∣ w "slow" ⇒ methods.Slow
    ∣ w "best" ⇒ methods.Best ∣ w "blast" ⇒ methods.Blast ∣ w "iprover" ⇒ methods.Iprover

unfoldable pub simple_method : ℕ → Bool → (List Token → Bool) → Form Method
simple_method line deep stops = with_facts methods.Match "match" line stops
    ∣ plain_method line deep stops
    ∣ subst_method line deep
    ∣ value (λ p. At line (p.0 p.1)) (claset_method & modifier_list claset_head stops)
    ∣ value (λ l. At line (methods.Auto l)) (w "auto" ▸ modifier_list auto_head stops)

-- operands, and operators between them, which associate to the left
abbrev pub chain : {A : Type 0} → (A → A → A) → Form (Unit {0}) → Form A → Form A
chain join by f = value (λ p. fold join p.0 p.1) (f & many (by ▸ f))

unfoldable pub postfix_sign : Form (Method → Node)
postfix_sign = question ⇒ methods.Try ∣ plus ⇒ methods.Plus

-- m? and m+ bind most
unfoldable pub postfix : ℕ → Form Method → Form Method
postfix line f = value (λ p. fold (λ m op. At line (op m)) p.0 p.1) (f & many postfix_sign)

-- m, n
unfoldable pub sequence : ℕ → Form Method → Form Method
sequence line f = chain (λ m n. At line (methods.Then m n)) comma (postfix line f)

-- m | n
unfoldable pub choice : ℕ → Form Method → Form Method
choice line f = chain (λ m n. At line (methods.OrElse m n)) bar (sequence line f)

-- a method in parentheses, or by its word
unfoldable pub layer : ℕ → Bool → (List Token → Bool) → Form Method → Form Method
layer line deep stops inside = known sort.Method (codes "method") [] (parens deep inside ∣ simple_method line deep stops)

-- an operand in which so many more parentheses may be opened
unfoldable pub operand : ℕ → ℕ → (List Token → Bool) → Form Method
operand line zero stops = layer line true stops (simple_method line true stops)
operand line (suc n) stops = layer line false stops (choice line (operand line n nothing_stands))

unfoldable pub any_method : ℕ → Form Method
any_method line = choice line (operand line 500 command_stands)

-- the methods that no wrapper takes
abbrev pub method_words : List (List ℕ)
method_words = codes "match" ∷ codes "subst" ∷ codes "hypsubst" ∷ codes "safe_step" ∷ codes "clarify_step" ∷ codes "inst_step" ∷ codes "step"
    ∷ codes "slow_step" ∷ codes "clarify" ∷ codes "safe" ∷ codes "fast" ∷ codes "slow" ∷ codes "best" ∷ codes "blast" ∷ codes "iprover"
    ∷ codes "auto" ∷ []

unfoldable pub wrapped : ℕ → Form Method
wrapped line = known sort.Method (codes "method") method_words (plain_method line false command_stands)

-- Parts of commands

-- NAME [ATTRS]
unfoldable pub label : Form Label
label = value (λ p. record { name = p.0; attributes = p.1 }) (name & attributes)

abbrev pub variable : Form (List ℕ)
variable = one (codes "type") takes_type_variable

-- 'a or ('a, 'b)
unfoldable pub variables : Form (List (List ℕ))
variables = value (given []) (maybe (value (λ v. v ∷ []) variable ∣ opening ▸ separated comma variable ◂ closing))

-- without the blanks at both ends
abbrev pub trimmed_end : List ℕ → List ℕ
trimmed_end [] = []
trimmed_end (b ∷ bs) = if list_all is_blank (b ∷ bs) then [] else b ∷ trimmed_end bs

abbrev pub trimmed : List ℕ → List ℕ
trimmed [] = []
trimmed (b ∷ bs) = if is_blank b then trimmed bs else trimmed_end (b ∷ bs)

unfoldable pub token : Form (List ℕ)
token = value trimmed (one (codes "name") takes_text)

-- "t" p
unfoldable pub token_with_priority : ℕ → Form (List ℕ × ℕ)
token_with_priority high = token & number 0 high

abbrev pub notation_of : NotationKind × (List ℕ × ℕ) → Notation
notation_of p = record { kind = p.0; token = p.1.0; priority = p.1.1 }

-- KIND "t" p
unfoldable pub notation_inside : Form Notation
notation_inside = value notation_of ((w "infix" ⇒ Infix ∣ w "infixl" ⇒ Infixl ∣ w "infixr" ⇒ Infixr) & token_with_priority 999)
    ∣ value notation_of ((w "binder" ⇒ Binder ∣ w "prefix" ⇒ Prefix) & token_with_priority 1000)

unfoldable pub notation : Form Notation
notation = opening ▸ notation_inside ◂ closing

-- NAME :: TYPE [NOTE]
unfoldable pub constant : ℕ → Form (List ℕ) → Form Constant
constant line first = value (λ p. record { name = p.0; typ = p.1.0; notation = p.1.1 }) (first & colons ▸ typ line & maybe notation)

unfoldable pub axiom_form : ℕ → Form Axiom
axiom_form line = value (λ p. record { label = p.0; prop = p.1 }) (label & colon ▸ proposition line)

-- [NAME [ATTRS]:] PROP
unfoldable pub goal_form : ℕ → Form (Option Label × Inner)
goal_form line = maybe (at is_labelled label ◂ colon) & proposition line

unfoldable pub declaration : Form Declaration
declaration = value (λ p. record { fact = p.0; attributes = p.1 }) (fact & attributes)

abbrev pub limit : String → ℕ → ℕ → (ℕ → Setting) → Form Setting
limit text low high make = value make (w text ▸ equals ▸ number low high)

unfoldable pub setting_form : Form Setting
setting_form = known sort.Option (codes "simp_depth_limit") []
    (limit "simp_depth_limit" 0 200 setting.SimpDepthLimit
    ∣ limit "blast_depth_limit" 0 100 setting.BlastDepthLimit
    ∣ limit "step_budget" 1 2000000 setting.StepBudget
    ∣ value (λ b. setting.ShowTypes (given true b)) (w "show_types" ▸ maybe (equals ▸ (w "true" ⇒ true ∣ w "false" ⇒ false))))

-- [[OPTION = VALUE]]
unfoldable pub option_form : Form Setting
option_form = opening_bracket ▸ opening_bracket ▸ setting_form ◂ closing_bracket ◂ closing_bracket

unfoldable pub safe_word : Form Bool
safe_word = w "safe" ⇒ true ∣ w "unsafe" ⇒ false

unfoldable pub before_word : Form Bool
before_word = w "before" ⇒ true ∣ w "after" ⇒ false

-- Commands whose first word stands on a line, here without it

unfoldable pub typedecl_form : ℕ → Form Command
typedecl_form line = value (λ p. commands.Typedecl line p.0 p.1) (variables & name)

unfoldable pub judgment_form : ℕ → Form Command
judgment_form line = value (λ p. commands.Judgment line p.0 p.1) (name & colons ▸ typ line)

unfoldable pub constants_form : ℕ → Form (List Constant)
constants_form line = some (constant line name) (constant line (unless command_stands name))

unfoldable pub axioms_form : ℕ → Form (List Axiom)
axioms_form line = w "where" ▸ separated (w "and") (axiom_form line)

unfoldable pub lemmas_form : ℕ → Form Command
lemmas_form line = value (λ p. commands.Lemmas line p.0 p.1) (label & equals ▸ facts command_stands)

unfoldable pub declare_form : ℕ → Form Command
declare_form line = value (commands.Declare line) (separated (w "and") declaration) ∣ value (commands.DeclareOption line) option_form

unfoldable pub wrapper_form : ℕ → Form Command
wrapper_form line = value (λ p. commands.Wrapper line p.0 p.1.0 p.1.1.0 p.1.1.1) (safe_word & before_word & name & equals ▸ wrapped line)

unfoldable pub print_form : ℕ → Form Command
print_form line = value (commands.Print line) (maybe (number 1 1000))

-- Commands

abbrev pub lemma : ℕ → (Option Label × Inner → Command) → String → Form Command
lemma line make text = value make (w text ▸ goal_form line)

-- the commands of a theory
unfoldable pub theory_command : ℕ → Form Command
theory_command line = w "typedecl" ▸ typedecl_form line
    ∣ w "judgment" ▸ judgment_form line
    ∣ value (commands.Consts line) (w "consts" ▸ constants_form line)
    ∣ value (commands.Axiomatization line) (w "axiomatization" ▸ axioms_form line)
    ∣ lemma line (λ p. commands.Lemma line p.0 p.1) "lemma"
    ∣ lemma line (λ p. commands.Lemma line p.0 p.1) "theorem"
    ∣ lemma line (λ p. commands.SchematicGoal line p.0 p.1) "schematic_goal"
    ∣ w "lemmas" ▸ lemmas_form line
    ∣ w "declare" ▸ declare_form line
    ∣ w "wrapper" ▸ wrapper_form line

-- the commands of a proof
unfoldable pub proof_command : ℕ → Form Command
proof_command line = value (commands.Apply line) (w "apply" ▸ any_method line)
    ∣ value (commands.By line) (w "by" ▸ any_method line)
    ∣ w "done" ⇒ commands.Done line
    ∣ w "back" ⇒ commands.Back line
    ∣ w "oops" ⇒ commands.Oops line
    ∣ w "pr" ▸ print_form line

unfoldable pub command : ℕ → Form Command
command line = known sort.Command (codes "command") [] (theory_command line ∣ proof_command line)
