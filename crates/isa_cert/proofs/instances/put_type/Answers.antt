use Rattle.std.proofs.Common.{rules, sym, ap, ◌∙◌}
use Rattle.isa_terms.specs.Layers.{typ_of}
use Rattle.isa_cert.proofs.Adding.{type_twice, type_put}
use Rattle.isa_cert.proofs.instances.put_type.Goals as goal

pub returns-then-has_type-clause-types : goal.returns-then-has_type-clause-types
returns-then-has_type-clause-types c = type_twice c.args.table.now c.args.inst.now.types c.args.unknown c.args.typ c.in-Unknown.name c.in-Unknown.number c.in_ok-unknown.unknown.now c.in_ok-typ.typ.now c.in_ok-unknown.ensures (sym c.view.ensures ∙ ap typ_of c.in-Unknown.is) c.in_ok-typ.ensures (search rules)

pub returns-clause-types : goal.returns-clause-types
returns-clause-types c = type_put c.args.table.now c.args.inst.now _ c.args.unknown c.args.typ c.in-Unknown.name _ c.in-Unknown.number c.in_ok-unknown.unknown.now c.in_ok-typ.typ.now _ c.in_ok-unknown.ensures (sym c.view.ensures ∙ ap typ_of c.in-Unknown.is) c.in_ok-typ.ensures (search rules) c.in_ok-name.ensures c.in_ok-value.ensures c.in_ok-put_type.ensures.ok
