use Rattle.std.proofs.Common.{arith, ◌<◌, length}
use Rattle.isa_theory.specs.Applying.{WithNewConstant, WithConstants}
use Rattle.isa_theory.proofs.Growing.{grows_on}
use Rattle.isa_theory.proofs.Steps.{may_become_refused}
use Rattle.isa_theory.proofs.Loops.{told_start, told_next, told_refused, told_end}
use Rattle.isa_theory.proofs.context.Context.declare_constants.Goals as goal

pub loop-constant-init : goal.loop-constant-init
loop-constant-init c = told_start WithNewConstant c.args.self.now c.args.constants.now

pub returns-in_err-declare_new_constant-clause-becomes : goal.returns-in_err-declare_new_constant-clause-becomes
returns-in_err-declare_new_constant-clause-becomes c =
    let inside : c.loop-constant.constant-index < length c.args.constants.now = omega arith in
    may_become_refused _ (WithConstants c.args.self.now c.args.constants.now) _ _ c.from_residual.ensures.1
    (λ n. told_refused WithNewConstant c.args.self.now _ c.args.constants.now c.loop-constant.constant-index c.constant-item.result _ inside c.constant-item.is c.loop-constant.invariant (c.in_err-declare_new_constant.ensures.becomes n))

pub returns-in_err-declare_new_constant-clause-grows : goal.returns-in_err-declare_new_constant-clause-grows
returns-in_err-declare_new_constant-clause-grows c = grows_on _ _ _ c.loop-constant.invariant.grows c.in_err-declare_new_constant.ensures.grows

pub loop-constant-preserved : goal.loop-constant-preserved
loop-constant-preserved c =
    let inside : c.loop-constant.constant-index < length c.args.constants.now = omega arith in
    told_next WithNewConstant c.args.self.now _ _ c.args.constants.now c.loop-constant.constant-index c.constant-item.result inside c.constant-item.is c.loop-constant.invariant c.in_ok-declare_new_constant.ensures.becomes c.in_ok-declare_new_constant.ensures.grows

pub returns-clause-becomes : goal.returns-clause-becomes
returns-clause-becomes c = told_end WithNewConstant c.args.self.now _ c.args.constants.now c.loop-constant.constant-index (omega arith) c.loop-constant.invariant

pub returns-clause-grows : goal.returns-clause-grows
returns-clause-grows c = c.loop-constant.invariant.grows
