use Rattle.std.proofs.Common.{arith, ◌<◌, length}
use Rattle.isa_theory.specs.Applying.{all_known, declared_facts}
use Rattle.isa_theory.proofs.Steps.{answers_refused}
use Rattle.isa_theory.proofs.Loops.{declared_passed, declared_refused, declared_end}
use Rattle.isa_theory.proofs.context.Context.check_declared.Goals as goal

pub returns-in_err-known_fact : goal.returns-in_err-known_fact
returns-in_err-known_fact c =
    let inside : c.loop-declaration.declaration-index < length c.args.declarations.now = omega arith in
    answers_refused (all_known c.args.self.now (declared_facts c.args.declarations.now)) _ _ c.from_residual.ensures.1
    (λ n. declared_refused c.args.self.now c.args.declarations.now c.loop-declaration.declaration-index c.declaration-item.result _ inside c.declaration-item.is c.loop-declaration.invariant (c.in_err-known_fact.ensures n))

pub loop-declaration-preserved : goal.loop-declaration-preserved
loop-declaration-preserved c =
    let inside : c.loop-declaration.declaration-index < length c.args.declarations.now = omega arith in
    declared_passed c.args.self.now c.args.declarations.now c.loop-declaration.declaration-index c.declaration-item.result _ inside c.declaration-item.is c.loop-declaration.invariant c.in_ok-known_fact.ensures

pub returns : goal.returns
returns c = declared_end c.args.self.now c.args.declarations.now c.loop-declaration.declaration-index (omega arith) c.loop-declaration.invariant
