use Rattle.std.proofs.Common.{◌≤◌, length, drop, arith}
use Rattle.std.proofs.lemmas.List.{drop_all}
use Rattle.isa_kernel.proofs.Prefixes.{first_gone}
use Rattle.isa_kernel.proofs.base.is_prefix.Goals as goal

pub returns : goal.returns
returns c =
    let first = c.args.first.now in
    let i = c.loop-one.one-index in
    let end : length first ≤ i = omega arith in
    λ h. first_gone first c.args.second.now c.loop-one.rest.now (drop i first) (drop_all i first end) c.loop-one.invariant
