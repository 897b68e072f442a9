use Rattle.std.proofs.Common.{rules}
use Rattle.std.proofs.lemmas.Fn.{filter_same}
use Rattle.isa_net.proofs.ranks.drop_rank.Goals as goal

pub returns-clause-ranks : goal.returns-clause-ranks
returns-clause-ranks c = filter_same _ _ _ (λ x b f' k. search rules) _ _ c.retain.ensures.filtered
