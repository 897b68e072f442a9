use Rattle.std.proofs.Common.{arith, ◌<◌, length}
use Rattle.isa_theory.specs.Applying.{with_attribute_on}
use Rattle.isa_theory.proofs.Growing.{grows_on}
use Rattle.isa_theory.proofs.Steps.{becomes_refused}
use Rattle.isa_theory.proofs.Loops.{each_start, each_next, each_refused, each_end}
use Rattle.isa_theory.proofs.context.Context.act_on_each.Goals as goal

pub loop-thm-init : goal.loop-thm-init
loop-thm-init c = each_start _ c.args.self.now c.args.thms.now

pub returns-in_err-declare_theorem-clause-becomes : goal.returns-in_err-declare_theorem-clause-becomes
unfolding with_attribute_on
returns-in_err-declare_theorem-clause-becomes c =
    let inside : c.loop-thm.thm-index < length c.args.thms.now = omega arith in
    becomes_refused _ (with_attribute_on c.args.self.now c.args.thms.now c.args.attribute) _ _ c.from_residual.ensures.1
    (λ n. each_refused _ c.args.self.now _ c.args.thms.now c.loop-thm.thm-index c.thm-item.result _ inside c.thm-item.is c.loop-thm.invariant (c.in_err-declare_theorem.ensures.becomes n))

pub returns-in_err-declare_theorem-clause-grows : goal.returns-in_err-declare_theorem-clause-grows
returns-in_err-declare_theorem-clause-grows c = grows_on _ _ _ c.loop-thm.invariant.grows c.in_err-declare_theorem.ensures.grows

pub loop-thm-preserved : goal.loop-thm-preserved
loop-thm-preserved c =
    let inside : c.loop-thm.thm-index < length c.args.thms.now = omega arith in
    each_next _ c.args.self.now _ _ c.args.thms.now c.loop-thm.thm-index c.thm-item.result inside c.thm-item.is c.loop-thm.invariant c.in_ok-declare_theorem.ensures.becomes c.in_ok-declare_theorem.ensures.grows

pub returns-clause-becomes : goal.returns-clause-becomes
unfolding with_attribute_on
returns-clause-becomes c = each_end _ c.args.self.now _ c.args.thms.now c.loop-thm.thm-index (omega arith) c.loop-thm.invariant

pub returns-clause-grows : goal.returns-clause-grows
returns-clause-grows c = c.loop-thm.invariant.grows
