use Rattle.std.proofs.Common.{◌≡◌, ◌<◌, ◌+◌, ◌∷◌, ◌++◌, length, drop, sym, ap, ◌∙◌, arith}
use Rattle.std.proofs.lemmas.List.{drop_more}
use Rattle.isa_kernel.specs.Axioms.{has_entry}
use Rattle.isa_kernel.proofs.Distinct.{append_next, distinct_front}
use Rattle.isa_kernel.proofs.base.appended.Goals as goal

pub push-requires : goal.push-requires
push-requires c =
    let first = c.args.first.now in
    let i = c.loop-one.one-index in
    let e = c.one-item.result in
    let lt : i < length first = omega arith in
    let next : drop i first ≡ e ∷ drop (i + 1) first = drop_more first i e lt ∙ ap (λ x. x ∷ drop (i + 1) first) (sym c.one-item.is) in
    record { new = ap (has_entry c.loop-one.all) c.in_ok-copy.ensures ∙ append_next first c.loop-one.all (drop i first) (drop (i + 1) first) e (distinct_front first c.args.second.now c.requires) c.loop-one.invariant next }

pub push-requires-in-loop-one-2 : goal.push-requires-in-loop-one-2
push-requires-in-loop-one-2 c =
    let second = c.args.second.now in
    let i = c.loop-one-2.one-index in
    let e = c.one-item-in-loop-one-2.result in
    let lt : i < length second = omega arith in
    let next : drop i second ≡ e ∷ drop (i + 1) second = drop_more second i e lt ∙ ap (λ x. x ∷ drop (i + 1) second) (sym c.one-item-in-loop-one-2.is) in
    record { new = ap (has_entry c.loop-one-2.all) c.in_ok-copy-2.ensures ∙ append_next (c.args.first.now ++ second) c.loop-one-2.all (drop i second) (drop (i + 1) second) e c.requires c.loop-one-2.invariant next }
