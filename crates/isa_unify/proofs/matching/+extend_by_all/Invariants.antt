use Rattle.std.proofs.Common.{length}
use Rattle.isa_unify.proofs.matching.+extend_by_all.Given as goal

abbrev pub decreases-extend_by_all : goal.decreases-extend_by_all
decreases-extend_by_all l = length l.patterns.now
