use Rattle.std.proofs.Common.{rules, arith, ◌≡◌, ◌∙◌, false}
use Rattle.std.specs.Prelude.{is_some}
use Rattle.isa_goal.proofs.Searching.{next_step, found_in, first_none}
use Rattle.isa_goal.proofs.resolving.next_found.Goals as goal

pub returns-then-is_some-clause-found : goal.returns-then-is_some-clause-found
returns-then-is_some-clause-found c = c.loop-next.invariant.same ∙ next_step c.args.place c.args.rules.now c.args.state.now c.loop-next.next c.index-rules-next.result c.in_ok-found.found c.loop-next-test.true c.index-rules-next.is c.in_ok-found.ensures.found

pub returns-then-is_some-clause-follows : goal.returns-then-is_some-clause-follows
returns-then-is_some-clause-follows c = found_in c.args.rules.now c.loop-next.next c.index-rules-next.result c.args.state.now c.in_ok-found.found c.loop-next-test.true c.index-rules-next.is c.in_ok-found.ensures.follows

pub loop-next-preserved : goal.loop-next-preserved
loop-next-preserved c =
    let none : is_some c.in_ok-found.found ≡ false = search rules in
    record {
      within = omega (arith, c.loop-next-test.true);
      same = c.loop-next.invariant.same ∙ next_step c.args.place c.args.rules.now c.args.state.now c.loop-next.next c.index-rules-next.result c.in_ok-found.found c.loop-next-test.true c.index-rules-next.is c.in_ok-found.ensures.found ∙ first_none c.in_ok-found.found _ none;
    }
