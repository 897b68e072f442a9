-- What the functions that read answer.
use Rattle.std.specs.Prelude.{◌≡◌, ◌≢◌, ℕ, List, [], ◌∷◌, Option, Some, None}
use Rattle.isa_inner.specs.declared.token.InfixSign.{InfixSign}
use Rattle.isa_inner_types.specs.declared.token.TermToken.TheVariants as term
use Rattle.isa_inner_types.specs.declared.token.TextToken.{TextToken}
use Rattle.isa_inner_types.specs.declared.token.TextToken.TheVariants as token
use Rattle.isa_inner_types.specs.declared.reading.Fail.{Fail}
use Rattle.isa_inner_types.specs.declared.reading.Fail.TheVariants as fail
use Rattle.isa_inner_text.specs.declared.refusal.Refusal.{Refusal}
use Rattle.isa_inner_text.specs.declared.refusal.Refusal.TheVariants as refusal
use Rattle.isa_inner_text.specs.Signatures.{SignatureSeen}
use Rattle.isa_inner_text.specs.Reading.{Outcome, Refused, Step, Runs, type_why}

-- the cause is this one, or want of memory
abbrev pub IsThe : Refusal → Refusal → Type 0
IsThe wanted cause = cause ≢ refusal.Memory → wanted ≡ cause

-- the cause is the one that comes of the step
abbrev pub FailsBy : SignatureSeen → Refusal → Step → Type 0
FailsBy sig cause s = cause ≢ refusal.Memory → Runs sig s (Refused cause)

-- what comes of the later step comes of the first
abbrev pub Leads : SignatureSeen → Step → Step → Type 0
Leads sig s later = (o : Outcome) → Runs sig later o → Runs sig s o

-- no infix comes next
abbrev pub IsNoInfix : List TextToken → Type 0
IsNoInfix (token.Other (term.Infix s) ∷ ts) = ⊥
IsNoInfix ts = Unit {0}

-- the cause of a type that is not read
abbrev pub IsTypeCause : Fail → Refusal → Type 0
IsTypeCause fail.Memory cause = cause ≡ refusal.Memory
IsTypeCause (fail.Refused w at) cause = IsThe (type_why w at.now) cause
