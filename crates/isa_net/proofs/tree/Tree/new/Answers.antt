use Rattle.isa_net.proofs.Rooting.{holds_nothing}
use Rattle.isa_net.proofs.tree.Tree.new.Goals as goal

pub returns : goal.returns
returns c word_at h = holds_nothing c.new.result 0 c.new.ensures.empty word_at h
