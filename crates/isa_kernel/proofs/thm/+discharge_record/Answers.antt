use Rattle.std.proofs.Common.{◌≡◌, [], ◌∷◌, sym, subst, rules}
use Rattle.isa_kernel.specs.Derived.{behind_premises}
use Rattle.isa_kernel.specs.Theorem.{Theorem}
use Rattle.isa_kernel.specs.Replay.{IsRecorded}
use Rattle.isa_kernel.proofs.Derived.{none_left, discharged_none, discharged_recorded}
use Rattle.isa_kernel.proofs.thm.+discharge_record.Goals as goal

pub returns-in_ok-record-in-None-clause-recorded : goal.returns-in_ok-record-in-None-clause-recorded
returns-in_ok-record-in-None-clause-recorded t c =
    let e : c.args.premises.now ≡ [] = none_left c.args.premises.now c.in-None.ensures.cases in
    subst (λ ps. IsRecorded (behind_premises ps c.args.th.now) c.in_ok-record-in-None.field-0) (sym e) (subst (λ (x : Theorem). IsRecorded x c.in_ok-record-in-None.field-0) (sym (discharged_none c.args.th.now)) c.in_ok-record-in-None.ensures)

pub returns-in_ok-new-in-Some-clause-recorded : goal.returns-in_ok-new-in-Some-clause-recorded
returns-in_ok-new-in-Some-clause-recorded t c =
    let e : c.args.premises.now ≡ c.in-Some.first.now ∷ c.in-Some.rest.now = search rules in
    subst
    (λ ps. IsRecorded (behind_premises ps c.args.th.now) c.in_ok-new-in-Some.field-0)
    (sym e)
    (discharged_recorded c.in-Some.first.now c.in_ok-copy-in-Some.field-0 c.in-Some.rest.now c.args.th.now c.in_ok-new-in-Some.field-0 c.in_ok-inner-in-Some.inner c.in_ok-new-in-Some.ensures c.in_ok-copy-in-Some.ensures c.in_ok-check_prop-in-Some.ensures c.in_ok-inner-in-Some.ensures.recorded)
