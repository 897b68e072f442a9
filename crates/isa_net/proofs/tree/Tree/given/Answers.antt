use Rattle.isa_net.proofs.Turns.{if_ok}
use Rattle.isa_net.proofs.Rooting.{given_some, counted_some}
use Rattle.isa_net.specs.Inside.Index.{AreGiven, AreCounted}
use Rattle.isa_net.specs.Inside.Holding.{GivesAll, GivesFew}
use Rattle.isa_net.specs.declared.lookup.Found.{Found}
use Rattle.isa_net.proofs.tree.Tree.given.Goals as goal

pub returns-in-Some-clause-given : goal.returns-in-Some-clause-given
returns-in-Some-clause-given c =
    let self = c.args.self.now in
    if_ok c.given.result (λ (found : Found). AreGiven c.args.mode self.nodes c.in-Some.root self.deep c.args.t.now found.ranks.items) (λ (found : Found). GivesAll self c.args.mode c.args.t.now found.ranks.items) (λ found. given_some self.root self.nodes c.in-Some.root self.deep c.args.mode c.args.t.now found.ranks.items c.in-Some.is) c.given.ensures.given

pub returns-in-Some-clause-visited : goal.returns-in-Some-clause-visited
returns-in-Some-clause-visited c =
    let self = c.args.self.now in
    if_ok c.given.result (λ (found : Found). AreCounted c.args.mode self.nodes c.in-Some.root self.deep c.args.t.now 0 found.visited) (λ (found : Found). GivesFew self c.args.mode c.args.t.now found.visited) (λ found. counted_some self.root self.nodes c.in-Some.root self.deep c.args.mode c.args.t.now found.visited c.in-Some.is) c.given.ensures.visited
