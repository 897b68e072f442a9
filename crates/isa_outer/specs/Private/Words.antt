-- What the words of methods, modifiers and marks make, of which the code keeps only which word it was.
use Rattle.std.specs.Prelude.{◌≡◌, ◌<◌, ℕ, true, false, List, length, Option, Some, None, Result, Ok, Err}
use Rattle.std.specs.Borrow.{Bor}
use Rattle.isa_tokens.specs.declared.token.Token.{Token}
use Rattle.isa_outer.specs.declared.refusal.Kind.{Kind}
use Rattle.isa_outer.specs.declared.method.Modifier.{Modifier}
use Rattle.isa_outer.specs.declared.method.Modifier.TheVariants as modifiers
use Rattle.isa_outer.specs.declared.facts.ModifierWord.{ModifierWord}
use Rattle.isa_outer.specs.declared.facts.ModifierWord.TheVariants as words
use Rattle.isa_outer.specs.declared.methods.FactMethod.{FactMethod}
use Rattle.isa_outer.specs.declared.methods.FactMethod.TheVariants as fact_methods
use Rattle.isa_outer.specs.declared.methods.ClasetMethod.{ClasetMethod}
use Rattle.isa_outer.specs.declared.methods.ClasetMethod.TheVariants as claset_methods
use Rattle.isa_outer.specs.declared.methods.Mark.{Mark}
use Rattle.isa_outer.specs.declared.methods.Mark.TheVariants as marks
use Rattle.isa_outer.specs.Methods as methods
use Rattle.isa_outer.specs.Methods.{Method, Node}
use Rattle.isa_outer.specs.Forms.{Form, Got, Refuses, begins, read}

abbrev pub modifier_of : ModifierWord → List (List ℕ) → Modifier
modifier_of words.SimpAdd = modifiers.SimpAdd
modifier_of words.SimpDel = modifiers.SimpDel
modifier_of words.SimpOnly = modifiers.SimpOnly
modifier_of words.Cong = modifiers.Cong
modifier_of words.Split = modifiers.Split
modifier_of words.Intro = modifiers.Intro
modifier_of words.SafeIntro = modifiers.SafeIntro
modifier_of words.Elim = modifiers.Elim
modifier_of words.SafeElim = modifiers.SafeElim
modifier_of words.Dest = modifiers.Dest
modifier_of words.SafeDest = modifiers.SafeDest
modifier_of words.RuleDel = modifiers.RuleDel
modifier_of words.Iff = modifiers.Iff

abbrev pub fact_node : FactMethod → List (List ℕ) → Node
fact_node fact_methods.Match = methods.Match
fact_node fact_methods.Rule = methods.Rule
fact_node fact_methods.Erule = methods.Erule
fact_node fact_methods.Drule = methods.Drule
fact_node fact_methods.Frule = methods.Frule
fact_node fact_methods.Split = methods.Split

abbrev pub claset_node : ClasetMethod → List Modifier → Node
claset_node claset_methods.Hypsubst = methods.Hypsubst
claset_node claset_methods.SafeStep = methods.SafeStep
claset_node claset_methods.ClarifyStep = methods.ClarifyStep
claset_node claset_methods.InstStep = methods.InstStep
claset_node claset_methods.Step = methods.Step
claset_node claset_methods.SlowStep = methods.SlowStep
claset_node claset_methods.Clarify = methods.Clarify
claset_node claset_methods.Safe = methods.Safe
claset_node claset_methods.Fast = methods.Fast
claset_node claset_methods.Slow = methods.Slow
claset_node claset_methods.Best = methods.Best
claset_node claset_methods.Blast = methods.Blast
claset_node claset_methods.Iprover = methods.Iprover

abbrev pub mark_node : Mark → Method → Node
mark_node marks.Try = methods.Try
mark_node marks.Plus = methods.Plus

-- the modifier's word that stands here, or the refusal
abbrev pub AnswersWord : Result (ModifierWord × Bor (List Token)) Kind → Form (List (List ℕ) → Modifier) → List Token → Type 0
AnswersWord (Ok p) form tokens = (read form tokens ≡ Got (modifier_of p.0) p.1.now) × (length p.1.now < length tokens)
AnswersWord (Err cause) form tokens = read form tokens ≡ Refuses cause

-- the method's word, where one stands here
abbrev pub OffersMethod : Option (ClasetMethod × Bor (List Token)) → Form (List Modifier → Node) → List Token → Type 0
OffersMethod (Some p) form tokens = (begins form tokens ≡ true) × (read form tokens ≡ Got (claset_node p.0) p.1.now) × (length p.1.now < length tokens)
OffersMethod None form tokens = begins form tokens ≡ false

-- the mark, where one stands here
abbrev pub OffersMark : Option (Mark × Bor (List Token)) → Form (Method → Node) → List Token → Type 0
OffersMark (Some p) form tokens = (begins form tokens ≡ true) × (read form tokens ≡ Got (mark_node p.0) p.1.now) × (length p.1.now < length tokens)
OffersMark None form tokens = begins form tokens ≡ false
