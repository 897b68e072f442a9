use Rattle.std.proofs.Common.{rules, ◌≡◌}
use Rattle.isa_goal.specs.Names.{canon, normalised, reshaped}
use Rattle.isa_goal.proofs.Chaining.{canon_normal}
use Rattle.isa_goal.proofs.Forming.{canon_formed}
use Rattle.isa_goal.specs.Private.Numbers.{NumbersFit}
use Rattle.isa_goal.proofs.Canon.{canon_unnumbered, canon_one_type, canon_again}
use Rattle.isa_goal.proofs.UncountedStates.{canon_uncounted}
use Rattle.isa_goal.proofs.state.canonical.Goals as goal

pub invariant_of-result : goal.invariant_of-result
invariant_of-result c =
    let e : c.in_ok-form.form ≡ canon c.args.draft.now = search rules in
    let d = c.is_standing.ensures in
    let l : NumbersFit (reshaped (normalised c.args.draft.now)) = search rules in
    (canon_normal c.args.draft.now c.in_ok-form.form d e, canon_formed c.args.draft.now c.in_ok-form.form d e, canon_unnumbered c.args.draft.now c.in_ok-form.form d l e, canon_one_type c.args.draft.now c.in_ok-form.form d l e, canon_again c.args.draft.now c.in_ok-form.form d l e, canon_uncounted c.args.draft.now c.in_ok-form.form e c.requires)
