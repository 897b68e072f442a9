use Rattle.std.proofs.Common.{List, ◌++◌, length}
use Rattle.isa_inner_tokens.specs.declared.cutting.Word.{Word}
use Rattle.isa_inner_tokens.specs.Cutting.{Cuts}
use Rattle.isa_inner_tokens.proofs.cutting.words.Given as goal

abbrev pub invariant-loop-first : goal.invariant-loop-first
invariant-loop-first l = (ws : List Word) → Cuts l.signs l.rest ws → Cuts l.signs l.text (l.words.items ++ ws)

abbrev pub decreases-loop-first : goal.decreases-loop-first
decreases-loop-first l = length l.rest
