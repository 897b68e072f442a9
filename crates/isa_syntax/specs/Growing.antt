-- What was declared may be taken back.
use Rattle.std.specs.Prelude.{◌≡◌, ◌≢◌, ℕ, Bool, true, false, List, ◌++◌, Option, Some, None, Result, Ok, Err, take, length, is_some, if◌then◌else◌}
use Rattle.isa_terms.specs.Types.{Ty}
use Rattle.isa_inner_text.specs.Signatures.{SignatureSeen, first_part}
use Rattle.isa_outer.specs.declared.refusal.Kind.{Kind}
use Rattle.isa_outer.specs.declared.refusal.Kind.TheVariants as kind
use Rattle.isa_syntax.specs.declared.syntax.Mark.{Mark}
use Rattle.isa_syntax.specs.Syntaxes.{SyntaxSeen}

-- the syntax is the wanted one, or is as it was and the refusal is the wanted one, want of memory aside
abbrev pub Becomes : SyntaxSeen → SyntaxSeen → Result SyntaxSeen Kind → Result (Unit {0}) Kind → Type 0
Becomes old new wanted (Ok u) = wanted ≡ Ok new
Becomes old new wanted (Err k) = (new ≡ old) × (k ≢ kind.Memory → wanted ≡ Err k)

-- how much is declared
abbrev pub mark_of : SyntaxSeen → Mark
mark_of s = record {
  types = length s.signature.arities;
  signs = length s.signature.signs;
  notated = length s.signature.notated;
  constants = length s.constants;
  has_judgment = is_some s.signature.judgment;
}

-- as much as there was
abbrev pub undone : Mark → SyntaxSeen → SyntaxSeen
undone m s = record { signature = first_part m.types m.signs m.notated m.has_judgment s.signature; constants = take m.constants s.constants }

-- more may stand behind the first list
pub record Goes {A : Type 0} (old new : List A) : Type 0 where
  pub more : List A
  pub is : new ≡ old ++ more

-- a judgment stays
abbrev pub Stays : Option (List ℕ) → Option (List ℕ) → Type 0
Stays None new = Unit {0}
Stays (Some x) new = new ≡ Some x

-- more may be declared behind what was
pub record Grows (old new : SyntaxSeen) : Type 0 where
  pub types : Goes old.signature.arities new.signature.arities
  pub signs : Goes old.signature.signs new.signature.signs
  pub notated : Goes old.signature.notated new.signature.notated
  pub judgment : Stays old.signature.judgment new.signature.judgment
  pub constants : Goes old.constants new.constants

-- What was declared behind a mark is taken back.
abbrev pub TakesBack : Type 0
TakesBack = (old new : SyntaxSeen) → Grows old new → undone (mark_of old) new ≡ old
