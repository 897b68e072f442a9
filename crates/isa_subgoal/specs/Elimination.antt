-- Rules for elimination made of rules for destruction.
-- Source: `make_elim` and destruct-resolution in Isabelle (The Isabelle/Isar Reference Manual, "Rules and tactics"; Paulson, "The foundation of a generic theorem prover", 1989).
use Rattle.std.specs.Prelude.{◌≡◌, ℕ, [], ◌∷◌, ◌++◌, codes}
use Rattle.isa_terms.specs.Terms.{Tm, Unknown}
use Rattle.isa_kernel.specs.Logic.{prop, imp}
use Rattle.isa_kernel.specs.Theorem.{Theorem, IsDerived}
use Rattle.isa_subgoal.specs.Premises.{premises, conclusion, rule_of}

-- the unknown `R` of that number, a proposition
abbrev pub conclusion_unknown : ℕ → Tm
conclusion_unknown n = Unknown (codes "R") n prop

-- `A1 ==> .. ==> An ==> (B ==> R) ==> R` of a rule `A1 ==> .. ==> An ==> B`, for the unknown R of number n
abbrev pub elimination_of : ℕ → Theorem → Theorem
elimination_of n th = rule_of (premises th.prop ++ imp (conclusion th.prop) (conclusion_unknown n) ∷ []) (conclusion_unknown n) th.base

-- it has a derivation where the rule has one
abbrev pub EliminationIsDerived : Type 0
EliminationIsDerived = (n : ℕ) (th : Theorem) → th.hyps ≡ [] → IsDerived th → IsDerived (elimination_of n th)
