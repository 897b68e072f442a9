use Rattle.std.proofs.Common.{rules, ◌-◌}
use Rattle.isa_goal.proofs.UncountedStates.{put_back_uncounted}
use Rattle.isa_goal.proofs.state.State.unfocus.Goals as goal

pub canonical-requires : goal.canonical-requires
canonical-requires c = put_back_uncounted c.saturating_sub-others.result (c.args.i - 1) c.args.inner.now c.in_ok-back.back (search rules) c.is_uncounted.ensures
