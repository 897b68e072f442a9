use Rattle.std.proofs.Common.{◌++◌, [], ◌∷◌, ap, ◌∙◌}
use Rattle.isa_net.specs.Words.{Along}
use Rattle.isa_net.specs.Inside.Trails.{trail, ranks_at}
use Rattle.isa_net.proofs.Answering.{are_given, are_counted}
use Rattle.isa_net.proofs.lookup.given.Goals as goal

pub returns-clause-given : goal.returns-clause-given
returns-clause-given c =
    let nodes = c.args.look.now.nodes.now in
    are_given c.args.look.now.mode nodes c.args.root c.args.deep c.args.t.now c.visit.new.found.ranks.items (c.in_ok-visit.ensures.found ∙ ap (λ v. v ++ ranks_at nodes (trail c.args.look.now.mode nodes c.args.deep c.args.root (Along c.args.t.now ∷ []))) c.new.ensures.items)

pub returns-clause-visited : goal.returns-clause-visited
returns-clause-visited c = are_counted c.args.look.now.mode c.args.look.now.nodes.now c.args.root c.args.deep c.args.t.now 0 c.visit.new.found.visited c.in_ok-visit.ensures.visited
