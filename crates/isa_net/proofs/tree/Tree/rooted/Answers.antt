use Rattle.std.proofs.Common.{refl}
use Rattle.isa_net.proofs.Rooting.{first_root}
use Rattle.isa_net.proofs.tree.Tree.rooted.Goals as goal

pub returns-in_ok-root-in-None-clause-ok : goal.returns-in_ok-root-in-None-clause-ok
returns-in_ok-root-in-None-clause-ok c = record {
  is = refl;
  deep = refl;
  keeps = first_root c.args.self.now.root c.args.self.now.root c.args.self.now.nodes c.insert.new.self c.in_ok-root-in-None.root _ c.args.self.now.deep c.in-None.is c.in_ok-root-in-None.ensures.updates c.new.ensures.empty c.new-in-None.ensures.items c.requires;
}
