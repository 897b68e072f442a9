use Rattle.std.proofs.Common.{length}
use Rattle.isa_terms.proofs.unknowns.+note_all_unknowns.Given as goal

abbrev pub decreases-note_all_unknowns : goal.decreases-note_all_unknowns
decreases-note_all_unknowns l = length l.terms.now
