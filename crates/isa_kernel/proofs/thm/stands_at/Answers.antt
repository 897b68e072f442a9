use Rattle.std.proofs.Common.{◌≡◌, Some, slice_get, sym, ap, ◌∙◌}
use Rattle.std.proofs.lemmas.Option.{slice_get-get_or}
use Rattle.isa_kernel.proofs.Derived.{has_there}
use Rattle.isa_kernel.proofs.thm.stands_at.Goals as goal

pub returns-in-Some : goal.returns-in-Some
returns-in-Some c = λ h.
    let found = c.in-Some.ensures.lookup in
    let there : slice_get c.args.terms.now c.args.place ≡ Some c.in-Some.other.now = slice_get-get_or c.args.terms.now c.args.place c.in-Some.other.now found.3.0 ∙ ap Some (sym found.1) in
    has_there c.args.terms.now c.args.place c.in-Some.other.now c.args.t.now there (sym c.same_term.ensures.test ∙ h)
