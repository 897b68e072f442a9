use Rattle.std.proofs.Common.{◌≡◌, ◌++◌, length}
use Rattle.isa_inner_text.specs.Signature.{tokens_of}
use Rattle.isa_inner_text.proofs.tokens.tokens.Given as goal

abbrev pub invariant-loop-word : goal.invariant-loop-word
invariant-loop-word l = (l.tokens.items ++ tokens_of l.sig l.schematic l.rest) ≡ tokens_of l.sig l.schematic l.words

abbrev pub decreases-loop-word : goal.decreases-loop-word
decreases-loop-word l = length l.rest
