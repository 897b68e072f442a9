use Rattle.isaprove.proofs.AskLemmas.{answer_found, answer_ended}
use Rattle.isaprove.proofs.asking.ask_matching.Goals as goal

pub returns-then-left-eq0 : goal.returns-then-left-eq0
returns-then-left-eq0 c =
    answer_found c.args.rules.now c.args.state.now c.args.rank c.loop-search.search c.next.new.self c.loop-search.left c.loop-search.outside c.in-Res.next c.in-Some.found c.in_ok-found.field-0
    c.in_ok-found.ensures.answer c.in-Some.is c.in-Res.is c.if-left-eq0.true c.loop-search.invariant

pub returns : goal.returns
returns c =
    answer_ended c.args.rules.now c.args.state.now c.args.rank c.loop-search.search c.next.new.self c.loop-search.left c.loop-search.outside c.no_more.result c.in_ok-found.field-0
    c.in_ok-found.ensures.answer c.in_default.is c.no_more.ensures c.loop-search.invariant
