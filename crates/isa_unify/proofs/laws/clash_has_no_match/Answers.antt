use Rattle.isa_unify.proofs.MatchClashes as lemmas
use Rattle.isa_unify.proofs.laws.clash_has_no_match.Goals as goal

pub returns : goal.returns
returns c = lemmas.clash_has_no_match
