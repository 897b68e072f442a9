use Rattle.std.proofs.Common.{◌++◌, length, sym, ap, ◌∙◌, arith}
use Rattle.isa_simprules.specs.Roles.{by_facts}
use Rattle.isa_simprules.proofs.Counted.{branches_behind}
use Rattle.isa_simprules.proofs.rewrite_rules.+branches.Goals as goal

pub returns : goal.returns
returns t c =
    branches_behind c.args.depth c.loop-part.part-index c.args.facts.now c.args.th.now c.as_slice-items.result.now c.loop-part.all c.args.done (omega arith)
    (sym (c.as_slice-items.ensures ∙ c.in_ok-parts.ensures ∙ ap (λ ys. ys ++ by_facts c.args.facts.now c.args.th.now) c.new.ensures))
    (omega (arith, ap length c.as_slice-items.ensures)) (omega arith) c.loop-part.invariant
