use Rattle.std.proofs.Common.{◌≡◌, ◌<◌, ◌≤◌, ◌+◌, ◌∷◌, length, drop, sym, ap, ◌∙◌, subst, arith}
use Rattle.std.proofs.lemmas.List.{drop_more, drop_all}
use Rattle.isa_kernel.specs.Axioms.{has_entry}
use Rattle.isa_kernel.specs.declared.base.BaseEntry.TheVariants.{Axiom}
use Rattle.isa_kernel.proofs.Distinct.{cite_next, cite_last}
use Rattle.isa_kernel.proofs.base.cite_base.Goals as goal

pub push_axiom-requires : goal.push_axiom-requires
push_axiom-requires c =
    let axioms = c.args.axioms.now in
    let i = c.loop-one.one-index in
    let a = c.one-item.result in
    let items = c.as_slice-one-items.result.now in
    let lt : i < length items = omega arith in
    let there : drop i items ≡ a ∷ drop (i + 1) items = drop_more items i a lt ∙ ap (λ x. x ∷ drop (i + 1) items) (sym c.one-item.is) in
    let next : drop i axioms ≡ a ∷ drop (i + 1) axioms = subst (λ xs. drop i xs ≡ a ∷ drop (i + 1) xs) c.as_slice-one-items.ensures there in
    record { new = ap (λ x. has_entry c.loop-one.base (Axiom x)) c.in_ok-copy.ensures ∙ cite_next axioms (drop i axioms) (drop (i + 1) axioms) c.loop-one.base a c.requires c.loop-one.invariant next }

pub push-requires : goal.push-requires
push-requires c =
    let axioms = c.args.axioms.now in
    let i = c.loop-one.one-index in
    let left : length c.as_slice-one-items.result.now ≤ i = omega arith in
    let end : length axioms ≤ i = subst (λ xs. length xs ≤ i) c.as_slice-one-items.ensures left in
    record { new = cite_last axioms (drop i axioms) c.loop-one.base _ _ _ (drop_all i axioms end) c.loop-one.invariant }
