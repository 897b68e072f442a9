use Rattle.isa_net.proofs.Rooting.{unplaces_at}
use Rattle.isa_net.proofs.tree.Tree.remove.Goals as goal

pub returns-in-Some : goal.returns-in-Some
returns-in-Some c = unplaces_at c.args.self.now.root c.args.self.now.nodes c.unplace.new.nodes c.in-Some.root c.args.self.now.deep c.args.word.now c.args.rank c.in-Some.is c.unplace.ensures
