use Rattle.std.proofs.Common.{rules, sym, ap, ◌∙◌}
use Rattle.isa_terms.specs.TermLayers.{term_of}
use Rattle.isa_cert.proofs.Adding.{term_twice, term_put}
use Rattle.isa_cert.proofs.instances.put_term.Goals as goal

pub returns-then-has_term-clause-terms : goal.returns-then-has_term-clause-terms
returns-then-has_term-clause-terms c = term_twice c.args.table.now c.args.inst.now.terms c.args.unknown c.args.term c.in-Unknown.name c.in-Unknown.number c.in-Unknown.typ c.in_ok-unknown.unknown.now c.in_ok-term.term.now c.in_ok-unknown.ensures (sym c.view.ensures ∙ ap term_of c.in-Unknown.is) c.in_ok-term.ensures (search rules)

pub returns-clause-terms : goal.returns-clause-terms
returns-clause-terms c = term_put c.args.table.now c.args.inst.now _ c.args.unknown c.args.term c.in-Unknown.name _ c.in-Unknown.number c.in-Unknown.typ _ c.in_ok-unknown.unknown.now c.in_ok-term.term.now _ c.in_ok-unknown.ensures (sym c.view.ensures ∙ ap term_of c.in-Unknown.is) c.in_ok-term.ensures (search rules) c.in_ok-name.ensures c.in_ok-at.ensures c.in_ok-value.ensures c.in_ok-put_term.ensures.ok
