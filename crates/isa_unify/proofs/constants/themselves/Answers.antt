use Rattle.isa_unify.proofs.ConstantLaws.{constants_once}
use Rattle.isa_unify.proofs.constants.themselves.Goals as goal

pub inst_of-requires : goal.inst_of-requires
inst_of-requires c = constants_once c.args.terms.now c.in_ok-types.types c.in_ok-unknowns.unknowns c.in_ok-types.ensures c.in_ok-unknowns.ensures
