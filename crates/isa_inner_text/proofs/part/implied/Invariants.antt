use Rattle.std.proofs.Common.{◌≡◌, length}
use Rattle.isa_inner_text.specs.Parts.{implied}
use Rattle.isa_inner_text.proofs.part.implied.Given as goal

abbrev pub invariant-loop-premise : goal.invariant-loop-premise
invariant-loop-premise l = implied l.sig l.premises.items l.term ≡ implied l.sig l.fn.premises.items l.fn.conclusion

abbrev pub decreases-loop-premise : goal.decreases-loop-premise
decreases-loop-premise l = length l.premises.items
