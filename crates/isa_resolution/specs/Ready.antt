-- Rules made ready for resolution: in normal form, and with numbers of their own.
-- Source: renaming a rule apart by the greatest index of an unknown, as Isabelle's `incr_indexes` and `maxidx` (Paulson, "The foundation of a generic theorem prover", 1989).
use Rattle.std.specs.Prelude.{ℕ, ◌+◌, [], Option, Some, None}
use Rattle.isa_terms.specs.Terms.{Tm}
use Rattle.isa_terms.specs.Norm.{norm}
use Rattle.isa_terms.specs.Unknowns.{greatest_number}
use Rattle.isa_kernel.specs.Theorem.{Theorem}

-- a theorem without hypotheses, in normal form
abbrev pub normal : Theorem → Theorem
normal th = record { hyps = []; prop = norm th.prop; base = th.base }

-- one more than the number, and 0 where there is none
abbrev pub behind : Option ℕ → ℕ
behind None = 0
behind (Some n) = n + 1

-- one more than the greatest number of an unknown or a type unknown of the term, or 0 where it has none
abbrev pub numbers_end : Tm → ℕ
numbers_end t = behind (greatest_number t)
