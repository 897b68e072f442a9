use Rattle.std.proofs.Common.{sym, ap, ◌∙◌}
use Rattle.isa_terms.specs.Types.{TyUnknown}
use Rattle.isa_typing.proofs.Indexed.{indexed_pushed}
use Rattle.isa_typing.proofs.open_types.note.Goals as goal

pub returns-clause-indexed : goal.returns-clause-indexed
returns-clause-indexed c =
    indexed_pushed c.args.index.now.keys c.insert.new.self.keys c.args.seen.now c.push.new.self c.in_ok-variable-2.variable c.args.number c.args.typ.now c.in_ok-copy.field-0 (c.requires.is ∙ ap (λ z. TyUnknown z c.args.number) (sym c.in_ok-variable-2.ensures)) c.in_ok-copy.ensures c.in_ok-push.ensures.ok c.requires.indexed c.in_ok-insert.ensures.updates.0
