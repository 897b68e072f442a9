use Rattle.std.proofs.Common.{sym, arith}
use Rattle.isaprove.proofs.AskLemmas.{opening_copied, opening_no_more}
use Rattle.isaprove.proofs.asking.ask_opening.Goals as goal

pub returns-in_ok-copy : goal.returns-in_ok-copy
returns-in_ok-copy c = opening_copied c.args.state.now c.in_ok-copy.field-0 c.args.rank c.in_ok-copy.ensures (omega arith)

pub returns-else-rank-eq0 : goal.returns-else-rank-eq0
returns-else-rank-eq0 c = sym (opening_no_more c.args.state.now c.args.rank (omega arith))
