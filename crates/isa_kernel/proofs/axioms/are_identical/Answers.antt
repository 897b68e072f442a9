use Rattle.std.proofs.Common.{◌≤◌, length, drop, arith}
use Rattle.std.proofs.lemmas.List.{drop_all}
use Rattle.isa_kernel.proofs.Prefixes.{empty_is, all_gone}
use Rattle.isa_kernel.proofs.axioms.are_identical.Goals as goal

pub returns : goal.returns
returns c =
    let first = c.args.first.now in
    let i = c.loop-one.one-index in
    let end : length first ≤ i = omega arith in
    λ h. all_gone first c.args.second.now c.loop-one.rest.now (drop i first) (drop_all i first end) c.loop-one.invariant (empty_is c.loop-one.rest.now c.is_empty.result c.is_empty.ensures h)
