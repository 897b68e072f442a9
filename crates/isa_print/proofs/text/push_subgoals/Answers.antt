use Rattle.std.proofs.Common.{arith, rules}
use Rattle.isa_print.proofs.TextLemmas.{subgoals_more, subgoals_end}
use Rattle.isa_print.proofs.text.push_subgoals.Goals as goal

pub loop-i-preserved : goal.loop-i-preserved
loop-i-preserved c =
    subgoals_more c.args.judgment.now c.args.subgoals.now c.loop-i.i c.index-subgoals-i.result _ c.loop-i.text.items _ (omega arith) c.index-subgoals-i.is c.loop-i.invariant (search rules)

pub returns : goal.returns
returns c = subgoals_end c.args.judgment.now c.args.subgoals.now c.loop-i.i _ c.loop-i.text.items (omega arith) c.loop-i.invariant
