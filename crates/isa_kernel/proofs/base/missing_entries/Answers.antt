use Rattle.std.proofs.Common.{◌≡◌, ◌<◌, ◌+◌, ◌∷◌, length, drop, sym, ap, ◌∙◌, arith}
use Rattle.std.proofs.lemmas.List.{drop_more}
use Rattle.isa_kernel.specs.Axioms.{has_entry}
use Rattle.isa_kernel.proofs.Distinct.{missing_next, missing_put, missing_passed}
use Rattle.isa_kernel.proofs.base.missing_entries.Goals.{then-not-has+in_ok-copy+in_ok-push, else-not-has}
use Rattle.isa_kernel.proofs.base.missing_entries.Goals as goal

pub push-requires : goal.push-requires
push-requires c =
    let entries = c.args.entries.now in
    let i = c.loop-one.one-index in
    let e = c.one-item.result in
    let lt : i < length entries = omega arith in
    let next : drop i entries ≡ e ∷ drop (i + 1) entries = drop_more entries i e lt ∙ ap (λ x. x ∷ drop (i + 1) entries) (sym c.one-item.is) in
    record {
      new = ap (has_entry c.loop-one.missing) c.in_ok-copy.ensures
          ∙ missing_next c.args.known.now entries c.loop-one.missing (drop i entries) (drop (i + 1) entries) e c.requires c.loop-one.invariant next (sym c.has.ensures ∙ c.if-not-has.true);
    }

pub loop-one-preserved : goal.loop-one-preserved
loop-one-preserved c =
    let known = c.args.known.now in
    let entries = c.args.entries.now in
    let xs = c.loop-one.missing in
    let i = c.loop-one.one-index in
    let e = c.one-item.result in
    let lt : i < length entries = omega arith in
    let next : drop i entries ≡ e ∷ drop (i + 1) entries = drop_more entries i e lt ∙ ap (λ x. x ∷ drop (i + 1) entries) (sym c.one-item.is) in
    elim c.if-not-has.branch [
      | then-not-has+in_ok-copy+in_ok-push w ↦ missing_put known entries xs (drop i entries) (drop (i + 1) entries) c.if-not-has.missing e w.in_ok-copy.field-0 c.loop-one.invariant next (sym c.has.ensures ∙ w.if-not-has.true) w.in_ok-copy.ensures (w.missing-is ∙ w.in_ok-push.ensures.ok)
      | else-not-has w ↦ missing_passed known entries xs (drop i entries) (drop (i + 1) entries) c.if-not-has.missing e c.loop-one.invariant next (sym c.has.ensures ∙ w.if-not-has.false) w.missing-is
    ]
