-- A proved lemma as a fact.
-- Source: the Isabelle/Isar Reference Manual, chapter "Proofs": the variables of a lemma are fixed in its proof, and unknowns in its theorem.
use Rattle.std.specs.Prelude.{◌≡◌, ◌≢◌, ℕ, List, [], ◌∷◌, ◌++◌, length, Option, Some, None, Result, Ok, Err}
use Rattle.isa_kernel.specs.Theorem.{Theorem}
use Rattle.isa_kernel.specs.Citing.{cited}
use Rattle.isa_outer.specs.declared.command.Attribute.{Attribute}
use Rattle.isa_outer.specs.declared.refusal.Kind.{Kind}
use Rattle.isa_outer.specs.declared.refusal.Kind.TheVariants as kind
use Rattle.isa_outer.specs.declared.refusal.Refused.{Refused}
use Rattle.isa_theory.specs.declared.lemma.Lemma.{Lemma}
use Rattle.isa_theory.specs.Contexts.{ContextSeen, fact_of}
use Rattle.isa_theory.specs.General.{general_prop}
use Rattle.isa_theory.specs.Applying.{with_fact, with_attributes}
use Rattle.isa_theory.specs.Results.{◌>>=◌}

-- the theorem with unknowns for its variables
abbrev pub general_of : Theorem → Theorem
general_of th = record { hyps = th.hyps; prop = general_prop th.prop; base = th.base }

-- the context with the theorem under the name, where there is one
abbrev pub with_named : ContextSeen → Option (List ℕ) → Theorem → ContextSeen
with_named c None th = c
with_named c (Some x) th = with_fact c x (th ∷ [])

-- the context with one more closed lemma
abbrev pub with_closed : ContextSeen → Theorem → ContextSeen
with_closed c th = record c { lemmas = c.lemmas ++ th ∷ [] }

-- the theorem that is kept of a closed lemma: it is cited by the number of lemmas closed before
abbrev pub kept : ContextSeen → Theorem → Theorem
kept c th = cited (length c.lemmas) (general_of th)

-- a theorem is stored under its name, and then its attributes act
unfoldable pub named_with : ContextSeen → Option (List ℕ) → List Attribute → Theorem → Result ContextSeen Kind
named_with c name attributes th = with_attributes (with_named c name th) attributes (th ∷ [])

-- a lemma is closed with the theorem that is kept of it
unfoldable pub closed_with : ContextSeen → Option (List ℕ) → List Attribute → Theorem → Result ContextSeen Kind
closed_with c name attributes th = named_with c name attributes th >>= (λ d. Ok (with_closed d th))

-- no fact has the name
abbrev pub IsNewName : ContextSeen → Option (List ℕ) → Type 0
IsNewName c None = Unit {0}
IsNewName c (Some x) = fact_of c x ≡ None

-- The lemma is closed, and its theorem with unknowns for its variables is answered. A refusal, want of memory aside, is the first one, at the lemma's line, and leaves the context as it was.
abbrev pub Stores : Lemma → Theorem → ContextSeen → Result Theorem Refused → ContextSeen → Type 0
Stores lemma th old (Ok answer) new = (answer ≡ general_of th) × (closed_with old lemma.name lemma.attributes (kept old th) ≡ Ok new)
Stores lemma th old (Err refused) new = (new ≡ old) × (refused.kind ≢ kind.Memory → (refused.line ≡ lemma.line) × (closed_with old lemma.name lemma.attributes (kept old th) ≡ Err refused.kind))
