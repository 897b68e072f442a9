use Rattle.isa_unify.proofs.StartMatches.{found_answer}
use Rattle.isa_unify.proofs.matching.match_patterns_from.Goals as goal

pub returns-clause-found : goal.returns-clause-found
returns-clause-found c = found_answer c.args.start.now c.args.patterns.now c.args.terms.now c.find_match_from.result c.find_match_from.ensures
