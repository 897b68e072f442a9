use Rattle.std.proofs.Common.{sym, ap, ◌∙◌}
use Rattle.isa_terms.specs.Layers.{typ_of}
use Rattle.isa_typing.specs.Found.{found_in}
use Rattle.isa_typing.proofs.Meant.{means_made}
use Rattle.isa_typing.proofs.resolving.+resolved.Goals as goal

pub resolved_typ-returns-in_ok-new-in-Con-clause-typ :
    goal.resolved_typ-returns-in_ok-new-in-Con-clause-typ
resolved_typ-returns-in_ok-new-in-Con-clause-typ t c =
    means_made (found_in c.args.found.now.entries) c.args.typ.now c.in_ok-new-in-Con.field-0 _ c.in_ok-copy-in-Con.field-0 _ c.as_slice.result.now c.new.result c.in_ok-args-in-Con.args (sym c.view.ensures ∙ ap typ_of c.in-Con.is) c.as_slice.ensures c.new.ensures c.in_ok-args-in-Con.ensures.typs c.in_ok-copy-in-Con.ensures c.in_ok-new-in-Con.ensures
