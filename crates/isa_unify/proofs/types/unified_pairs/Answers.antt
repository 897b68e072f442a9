use Rattle.std.proofs.Common.{Some, sym, ap, ◌∙◌, ◌∷◌, arith}
use Rattle.isa_unify.specs.TypeUnification.{type_state, types_unified}
use Rattle.isa_unify.specs.TypeStacks.{pair_of, stack_of, resolved}
use Rattle.isa_unify.proofs.Stacks.{loop_same, loop_falls, loop_refused, state_popped, unified_finished, started}
use Rattle.isa_unify.proofs.types.unified_pairs.Goals as goal

pub loop-pair-init : goal.loop-pair-init
loop-pair-init c = ap (λ s. types_unified (type_state (stack_of c.args.work.items) (resolved s))) c.new-solution.ensures.items ∙ started (stack_of c.args.work.items)

pub returns-then-not-branch : goal.returns-then-not-branch
returns-then-not-branch c =
    sym (sym c.loop-pair.invariant ∙
    loop_refused (type_state (stack_of c.loop-pair.work.items) (resolved c.loop-pair.solution.items)) (type_state (pair_of c.in-Some.pair ∷ stack_of c.pop.new.self.items) (resolved c.loop-pair.solution.items))
    (type_state (stack_of c.advance.new.work.items) (resolved c.advance.new.solution.items)) c.in_ok-advance.field-0
    (state_popped c.loop-pair.work.items c.pop.new.self.items c.in-Some.pair (resolved c.loop-pair.solution.items) c.in-Some.ensures.items) c.if-not-branch.true (c.in_ok-advance.ensures {u = tt}))

pub loop-pair-smaller : goal.loop-pair-smaller
loop-pair-smaller c =
    loop_falls (type_state (stack_of c.loop-pair.work.items) (resolved c.loop-pair.solution.items)) (type_state (pair_of c.in-Some.pair ∷ stack_of c.pop.new.self.items) (resolved c.loop-pair.solution.items))
    (type_state (stack_of c.advance.new.work.items) (resolved c.advance.new.solution.items)) c.in_ok-advance.field-0
    (state_popped c.loop-pair.work.items c.pop.new.self.items c.in-Some.pair (resolved c.loop-pair.solution.items) c.in-Some.ensures.items) c.if-not-branch.false (c.in_ok-advance.ensures {u = tt})

pub loop-pair-preserved : goal.loop-pair-preserved
loop-pair-preserved c =
    loop_same (type_state (stack_of c.loop-pair.work.items) (resolved c.loop-pair.solution.items)) (type_state (pair_of c.in-Some.pair ∷ stack_of c.pop.new.self.items) (resolved c.loop-pair.solution.items))
    (type_state (stack_of c.advance.new.work.items) (resolved c.advance.new.solution.items)) c.in_ok-advance.field-0
    (state_popped c.loop-pair.work.items c.pop.new.self.items c.in-Some.pair (resolved c.loop-pair.solution.items) c.in-Some.ensures.items) c.if-not-branch.false (c.in_ok-advance.ensures {u = tt})
    ∙ c.loop-pair.invariant

pub returns : goal.returns
returns c = ap Some c.in_ok-resolve.ensures ∙ sym (unified_finished c.loop-pair.work.items (omega (arith, c.in_default.ensures {u = tt})) (resolved c.loop-pair.solution.items)) ∙ c.loop-pair.invariant
