use Rattle.std.proofs.Common.{◌≡◌, ◌-◌, take, drop, length, sym, ap, ◌∙◌, subst, arith, rules}
use Rattle.isa_kernel.specs.Theories.{types_in, constants_in, axioms_in}
use Rattle.isa_kernel.proofs.Theories.{Indexed, first_left, types_behind, constants_behind, axioms_behind}
use Rattle.isa_kernel.proofs.theory.Theory.undo_to.Goals as goal

pub overflow_sub-len : goal.overflow_sub-len
overflow_sub-len c =
    let b : c.behind.result.now ≡ drop c.args.mark c.self.inside.declarations.items = search rules in
    omega (arith, types_behind c.self.inside.types.entries c.self.inside.declarations.items c.args.mark c.self.invariant.0, ap (λ r. r.0) c.counts-types.ensures, ap (λ ds. length (types_in ds)) b, c.len.ensures.len)

pub overflow_sub-len-2 : goal.overflow_sub-len-2
overflow_sub-len-2 c =
    let b : c.behind.result.now ≡ drop c.args.mark c.self.inside.declarations.items = search rules in
    omega (arith, constants_behind c.self.inside.constants.entries c.self.inside.declarations.items c.args.mark c.self.invariant.1, ap (λ r. r.1) c.counts-types.ensures, ap (λ ds. length (constants_in ds)) b, c.len-2.ensures.len)

pub overflow_sub-len-3 : goal.overflow_sub-len-3
overflow_sub-len-3 c =
    let b : c.behind.result.now ≡ drop c.args.mark c.self.inside.declarations.items = search rules in
    omega (arith, axioms_behind c.self.inside.axioms.entries c.self.inside.declarations.items c.args.mark c.self.invariant.2, ap (λ r. r.2) c.counts-types.ensures, ap (λ ds. length (axioms_in ds)) b, c.len-3.ensures.len)

pub invariant_of-self : goal.invariant_of-self
invariant_of-self c =
    let s = c.self.inside in
    let b : c.behind.result.now ≡ drop c.args.mark s.declarations.items = search rules in
    let n = c.counts-types.ensures ∙ (λ i. (length (types_in (b i)), length (constants_in (b i)), length (axioms_in (b i)))) in
    let left = first_left s.types.entries c.truncate.new.self.entries s.constants.entries c.truncate-2.new.self.entries s.axioms.entries c.truncate-3.new.self.entries s.declarations.items c.args.mark c.self.invariant
    (c.truncate.ensures.entries ∙ (λ i. take (c.len.ensures.len i - (n i).0) s.types.entries))
    (c.truncate-2.ensures.entries ∙ (λ i. take (c.len-2.ensures.len i - (n i).1) s.constants.entries))
    (c.truncate-3.ensures.entries ∙ (λ i. take (c.len-3.ensures.len i - (n i).2) s.axioms.entries)) in
    subst (λ ds. Indexed c.truncate.new.self.entries c.truncate-2.new.self.entries c.truncate-3.new.self.entries ds) (sym c.truncate-4.ensures.items) left
