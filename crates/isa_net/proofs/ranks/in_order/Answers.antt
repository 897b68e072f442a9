use Rattle.isa_net.specs.contracts.rank.RankEq.TheImpl.Laws as eq
use Rattle.isa_net.specs.contracts.rank.RankOrd.TheImpl.Laws as ord
use Rattle.isa_net.proofs.Sorting.{rising_once, same_once}
use Rattle.isa_net.proofs.ranks.in_order.Goals as goal

pub returns-clause-rising : goal.returns-clause-rising
returns-clause-rising c = rising_once _ eq.laws-law ord.matches_eq-law c.args.ranks.items c.sort.new.self.items c.dedup.new.self.items c.sort.ensures.permutation c.in_ok-sort.ensures.sorted c.dedup.ensures.filtered

pub returns-clause-same : goal.returns-clause-same
returns-clause-same c = same_once _ eq.laws-law ord.matches_eq-law c.args.ranks.items c.sort.new.self.items c.dedup.new.self.items c.sort.ensures.permutation c.in_ok-sort.ensures.sorted c.dedup.ensures.filtered
