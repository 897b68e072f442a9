-- What a text gives: the answer for its bytes.
use Rattle.std.specs.Prelude.{◌≡◌, ◌≢◌, ℕ, Bool, List, [], ◌∷◌, Result, Ok, Err}
use Rattle.isa_terms.specs.Types.{Ty}
use Rattle.isa_inner_tokens.specs.declared.cutting.Word.{Word}
use Rattle.isa_inner_tokens.specs.Cutting.{Cuts}
use Rattle.isa_inner_types.specs.declared.token.TypeRefusal.{TypeRefusal}
use Rattle.isa_inner_types.specs.declared.token.TextToken.{TextToken}
use Rattle.isa_inner_types.specs.TypeReading as types
use Rattle.isa_inner_text.specs.declared.refusal.Refusal.{Refusal}
use Rattle.isa_inner_text.specs.declared.refusal.Refusal.TheVariants as refusal
use Rattle.isa_raw.specs.RawTerms.{Raw}
use Rattle.isa_inner_text.specs.Signatures.{SignatureSeen}
use Rattle.isa_inner_text.specs.declared.part.Part.{Part}
use Rattle.isa_inner_text.specs.Signature.{tokens_of}
use Rattle.isa_inner_text.specs.Reading.{Outcome, Read, Refused, Runs, text, type_why}

-- what comes of the words of a text
abbrev pub Gives : SignatureSeen → Bool → List ℕ → Outcome → Type 0
Gives sig schematic bytes o = (words : List Word) × Cuts sig.signs bytes words × Runs sig (text sig (tokens_of sig schematic words)) o

-- the term of a text that is a proposition, or the first cause for which it is refused
abbrev pub Answers : SignatureSeen → Bool → List ℕ → Result Raw Refusal → Type 0
Answers sig schematic bytes (Ok t) = (part : Part) × (part.term ≡ t) × Gives sig schematic bytes (Read part [])
Answers sig schematic bytes (Err why) = why ≢ refusal.Memory → Gives sig schematic bytes (Refused why)

-- what comes of the words of a text that is a type
abbrev pub GivesType : SignatureSeen → Bool → List ℕ → types.Outcome → Type 0
GivesType sig schematic bytes o = (words : List Word) × Cuts sig.signs bytes words × types.Runs (types.type_text (tokens_of sig schematic words)) o

-- the type of a text, or the first cause for which it is refused
abbrev pub AnswersType : SignatureSeen → Bool → List ℕ → Result Ty Refusal → Type 0
AnswersType sig schematic bytes (Ok T) = (height : ℕ) × GivesType sig schematic bytes (types.Read T height [])
AnswersType sig schematic bytes (Err why) = why ≢ refusal.Memory → (w : TypeRefusal) × (at : List TextToken) × (why ≡ type_why w at) × GivesType sig schematic bytes (types.Refused w at)

-- A text has one outcome at most.
abbrev pub OneReading : Type 0
OneReading = (sig : SignatureSeen) (schematic : Bool) (bytes : List ℕ) (o u : Outcome) → Gives sig schematic bytes o → Gives sig schematic bytes u → o ≡ u
