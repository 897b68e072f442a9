use Rattle.std.proofs.Common.{sym, ◌∙◌}
use Rattle.isa_outer.specs.Grammar.{fact, unless}
use Rattle.isa_outer.specs.Private.Heads.{stops_at}
use Rattle.isa_outer.proofs.Lists.{list_next, list_end}
use Rattle.isa_outer.proofs.facts.facts.Goals as goal

pub loop-alloc-preserved : goal.loop-alloc-preserved
loop-alloc-preserved c =
    list_next fact (unless (stops_at c.args.inside c.args.heads) fact) _ _ _ _ _ c.in_ok-next.next c.loop-alloc.invariant
    (sym c.goes_on.ensures ∙ c.loop-alloc-test.true) c.in_ok-next.ensures.0 c.in_ok-next.ensures.1 c.in_ok-push-2.ensures.ok

pub returns : goal.returns
returns c = list_end fact (unless (stops_at c.args.inside c.args.heads) fact) _ _ _ c.loop-alloc.invariant (sym c.goes_on.ensures ∙ c.loop-alloc-test.false)
