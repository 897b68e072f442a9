use Rattle.std.proofs.Common.{refl}
use Rattle.isa_outer.specs.Grammar.{attributes, attribute, deletion}
use Rattle.isa_outer.proofs.samples.Goals as goal

pub returns : goal.returns
unfolding attributes attribute deletion
returns c = (refl, refl, refl)
