use Rattle.isa_syntax.proofs.OneThing.{one_prop, one_type}
use Rattle.isa_syntax.proofs.laws.texts_tell_one_thing.Goals as goal

pub returns : goal.returns
returns c = record { prop = one_prop; typ = one_type }
