use Rattle.std.proofs.Common.{sym, ap, ◌∙◌}
use Rattle.isa_terms.specs.Layers.{typ_of}
use Rattle.isa_typing.specs.Found.{found_in}
use Rattle.isa_typing.proofs.Solved.{shortened_at}
use Rattle.isa_typing.proofs.solving.shorten.Goals as goal

pub returns-in_ok-bind-in-Unknown : goal.returns-in_ok-bind-in-Unknown
returns-in_ok-bind-in-Unknown c =
    shortened_at (found_in c.args.found.now.entries) (found_in c.bind.new.found.entries) c.args.from.now c.args.next.now c.args.end.now _ _ (sym c.view.ensures ∙ ap typ_of c.in-Unknown.is) c.requires.first c.requires.second c.in_ok-bind-in-Unknown.ensures
