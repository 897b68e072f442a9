use Rattle.isa_unify.proofs.Adequacy.{clashes_reached, unified_reached}
use Rattle.isa_unify.proofs.laws.unification_ends.Goals as goal

pub returns : goal.returns
returns c = record { unification = unified_reached; clashes = clashes_reached }
