use Rattle.std.proofs.Common.{◌≡◌, ◌++◌, [], drop}
use Rattle.isa_unify.proofs.unification.inst_of.Given as goal

-- the types so far, and those that are left
abbrev pub invariant-loop-entry : goal.invariant-loop-entry
invariant-loop-entry l = record { types : l.inst.types ++ drop l.entry-index l.entry-items ≡ l.types; terms : l.inst.terms ≡ [] }

-- likewise the terms
abbrev pub invariant-loop-entry-2 : goal.invariant-loop-entry-2
invariant-loop-entry-2 l = record { types : l.inst.types ≡ l.types; terms : l.inst.terms ++ drop l.entry-index l.entry-items ≡ l.terms }
