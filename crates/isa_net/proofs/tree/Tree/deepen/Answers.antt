use Rattle.std.proofs.Common.{◌≤◌, arith}
use Rattle.isa_net.proofs.Rooting.{holds_deeper}
use Rattle.isa_net.proofs.tree.Tree.deepen.Goals as goal

pub returns-clause-keeps : goal.returns-clause-keeps
returns-clause-keeps c = holds_deeper c.args.self.now.root c.args.self.now.nodes c.args.self.now.deep _ (omega arith)
