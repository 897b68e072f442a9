use Rattle.std.proofs.Common.{rules}
use Rattle.isa_resolution.proofs.Joining.{joined_in_turn}
use Rattle.isa_resolution.proofs.compose.join.Goals as goal

pub returns : goal.returns
returns c = joined_in_turn c.args.before.now c.args.premises.now c.args.behind.now c.args.all.now c.args.th.now c.args.rule.now c.in_ok-front.front c.in_ok-met.met c.in_ok-middle.middle c.in_ok-last.last c.in_ok-whole.whole (search rules) (search rules) (search rules) (search rules) (search rules)
