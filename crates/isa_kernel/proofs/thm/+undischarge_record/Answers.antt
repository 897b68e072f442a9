use Rattle.std.proofs.Common.{◌≡◌, ◌∷◌, sym, ap, ◌∙◌, rules}
use Rattle.isa_kernel.specs.Derived.{undischarged}
use Rattle.isa_kernel.proofs.Derived.{if_ok_more, undischarged_more}
use Rattle.isa_kernel.proofs.thm.+undischarge_record.Goals as goal

pub returns-in_ok-step-in-Some : goal.returns-in_ok-step-in-Some
returns-in_ok-step-in-Some t c =
    let e : c.args.premises.now ≡ c.in-Some.first.now ∷ c.in-Some.rest.now = search rules in
    if_ok_more
    c.undischarge_record.result
    (λ r more th out recorded h.
    undischarged_more c.in-Some.first.now c.in_ok-copy-in-Some.field-0 c.in-Some.rest.now th out c.args.log c.in_ok-assumption-in-Some.assumption c.in_ok-step-in-Some.step r c.in_ok-assumption-in-Some.ensures c.in_ok-copy-in-Some.ensures c.in_ok-step-in-Some.ensures more recorded (ap (λ ps. undischarged ps th) (sym e) ∙ h))
    c.undischarge_record.ensures
