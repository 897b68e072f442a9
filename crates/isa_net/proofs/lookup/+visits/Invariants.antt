use Rattle.std.proofs.Common.{◌≡◌, ◌+◌, ◌*◌, ◌≤◌, ◌++◌, length}
use Rattle.isa_net.specs.Inside.Lists.{items_in}
use Rattle.isa_net.specs.Inside.Trails.{trail, along_all, ranks_at}
use Rattle.isa_net.proofs.lookup.+visits.Given as goal

abbrev pub decreases-visit : goal.decreases-visit
decreases-visit l = 4 * l.left

abbrev pub decreases-visit_along : goal.decreases-visit_along
decreases-visit_along l = 4 * l.left + 3

abbrev pub decreases-visit_all : goal.decreases-visit_all
decreases-visit_all l = 4 * l.left + 1

abbrev pub decreases-visit_two : goal.decreases-visit_two
decreases-visit_two l = 4 * l.left + 2

abbrev pub decreases-visit_one : goal.decreases-visit_one
decreases-visit_one l = 4 * l.left + 1

-- what was found, with what the edges that are left give, is what all edges give
abbrev pub invariant-visit_all-loop-symbol : goal.invariant-visit_all-loop-symbol
invariant-visit_all-loop-symbol l = record {
  found : l.found.ranks.items ++ ranks_at l.look.nodes.now (along_all (trail l.look.mode l.look.nodes.now l.left) (items_in l.rest) l.symbol-iterator) ≡ l.initial.found.ranks.items ++ ranks_at l.look.nodes.now (along_all (trail l.look.mode l.look.nodes.now l.left) (items_in l.rest) l.edges.entries);
  visited : l.found.visited + length (along_all (trail l.look.mode l.look.nodes.now l.left) (items_in l.rest) l.symbol-iterator) ≤ l.initial.found.visited + length (along_all (trail l.look.mode l.look.nodes.now l.left) (items_in l.rest) l.edges.entries);
}
