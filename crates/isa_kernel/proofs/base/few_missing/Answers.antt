use Rattle.std.proofs.Common.{◌≡◌, ◌<◌, ◌+◌, ◌∷◌, length, drop, sym, ap, ◌∙◌, arith}
use Rattle.std.proofs.lemmas.List.{drop_more}
use Rattle.isa_kernel.specs.Axioms.{has_entry}
use Rattle.isa_kernel.proofs.Distinct.{missing_next}
use Rattle.isa_kernel.proofs.base.few_missing.Goals as goal

pub push-requires : goal.push-requires
push-requires c =
    let entries = c.args.entries.now in
    let i = c.loop-one.one-index in
    let e = c.one-item.result in
    let lt : i < length entries = omega arith in
    let next : drop i entries ≡ e ∷ drop (i + 1) entries = drop_more entries i e lt ∙ ap (λ x. x ∷ drop (i + 1) entries) (sym c.one-item.is) in
    record {
      new = ap (has_entry c.loop-one.missing) c.in_ok-copy.ensures
          ∙ missing_next c.args.known.now entries c.loop-one.missing (drop i entries) (drop (i + 1) entries) e c.requires c.loop-one.invariant next (sym c.has_entry.ensures ∙ c.if-not-has_entry.true);
    }
