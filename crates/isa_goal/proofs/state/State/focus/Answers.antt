use Rattle.std.proofs.Common.{rules}
use Rattle.isa_goal.proofs.Returning.{returned_ok}
use Rattle.isa_goal.proofs.UncountedStates.{focused_uncounted}
use Rattle.isa_goal.proofs.state.State.focus.Goals as goal

pub returns-clause-back : goal.returns-clause-back
returns-clause-back c =
    returned_ok c.args.i c.args.self.now c.in_ok-alone.alone c.canonical.result c.is_standing.ensures (search rules) (search rules) c.canonical.ensures.form c.canonical.ensures.fit

pub canonical-requires : goal.canonical-requires
canonical-requires c = focused_uncounted c.args.i c.args.self.now c.in_ok-alone.alone (search rules) c.is_uncounted.ensures
