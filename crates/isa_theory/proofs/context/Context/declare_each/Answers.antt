use Rattle.std.proofs.Common.{arith, ◌<◌, length}
use Rattle.isa_theory.specs.Applying.{with_each_declared}
use Rattle.isa_theory.proofs.Growing.{grows_on}
use Rattle.isa_theory.proofs.Steps.{becomes_refused}
use Rattle.isa_theory.proofs.Loops.{each_start, each_next, each_refused, each_end}
use Rattle.isa_theory.proofs.context.Context.declare_each.Goals as goal

pub loop-declaration-init : goal.loop-declaration-init
loop-declaration-init c = each_start _ c.args.self.now c.args.declarations.now

pub returns-in_err-declare_fact-clause-becomes : goal.returns-in_err-declare_fact-clause-becomes
returns-in_err-declare_fact-clause-becomes c =
    let inside : c.loop-declaration.declaration-index < length c.args.declarations.now = omega arith in
    becomes_refused _ (with_each_declared c.args.self.now c.args.declarations.now) _ _ c.from_residual.ensures.1
    (λ n. each_refused _ c.args.self.now _ c.args.declarations.now c.loop-declaration.declaration-index c.declaration-item.result _ inside c.declaration-item.is c.loop-declaration.invariant (c.in_err-declare_fact.ensures.becomes n))

pub returns-in_err-declare_fact-clause-grows : goal.returns-in_err-declare_fact-clause-grows
returns-in_err-declare_fact-clause-grows c = grows_on _ _ _ c.loop-declaration.invariant.grows c.in_err-declare_fact.ensures.grows

pub loop-declaration-preserved : goal.loop-declaration-preserved
loop-declaration-preserved c =
    let inside : c.loop-declaration.declaration-index < length c.args.declarations.now = omega arith in
    each_next _ c.args.self.now _ _ c.args.declarations.now c.loop-declaration.declaration-index c.declaration-item.result inside c.declaration-item.is c.loop-declaration.invariant c.in_ok-declare_fact.ensures.becomes c.in_ok-declare_fact.ensures.grows

pub returns-clause-becomes : goal.returns-clause-becomes
returns-clause-becomes c = each_end _ c.args.self.now _ c.args.declarations.now c.loop-declaration.declaration-index (omega arith) c.loop-declaration.invariant

pub returns-clause-grows : goal.returns-clause-grows
returns-clause-grows c = c.loop-declaration.invariant.grows
