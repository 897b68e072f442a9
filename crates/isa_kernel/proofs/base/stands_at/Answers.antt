use Rattle.std.proofs.Common.{◌≡◌, Some, slice_get, sym, ap, ◌∙◌}
use Rattle.std.proofs.lemmas.Option.{slice_get-get_or}
use Rattle.isa_kernel.proofs.Indexes.{stands_there}
use Rattle.isa_kernel.proofs.base.stands_at.Goals as goal

pub returns-in-Some : goal.returns-in-Some
returns-in-Some c = λ h.
    let found = c.in-Some.ensures.lookup in
    let there : slice_get c.args.entries.now c.args.place ≡ Some c.in-Some.other.now = slice_get-get_or c.args.entries.now c.args.place c.in-Some.other.now found.3.0 ∙ ap Some (sym found.1) in
    stands_there c.args.entries.now c.args.place c.in-Some.other.now c.args.one.now there (sym c.same.ensures ∙ h)
