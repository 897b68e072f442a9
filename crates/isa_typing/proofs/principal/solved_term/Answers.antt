use Rattle.std.proofs.Common.{◌≡◌, ◌++◌, reverse, ap, ◌∙◌}
use Rattle.isa_typing.specs.Scopes.{declared_in}
use Rattle.isa_typing.specs.Inference.{equations_of}
use Rattle.isa_typing.specs.Found.{found_in}
use Rattle.isa_typing.proofs.Meant.{none_of_reversed, solved_by_found}
use Rattle.isa_typing.proofs.principal.solved_term.Goals as goal

pub returns-in-None-clause-none : goal.returns-in-None-clause-none
returns-in-None-clause-none c =
    let es = equations_of (declared_in c.args.constants.now.entries) c.args.raw.now in
    let all : c.inferred.new.equations.items ≡ es = c.in_ok-term.ensures.equations ∙ ap (λ z. z ++ es) c.new-equations.ensures.items in
    let turned : c.reverse.new.self.items ≡ reverse es = c.reverse.ensures.items ∙ ap reverse all in
    let none = rw c.in-None.is at c.in_ok-solution_of.ensures.none in
    none_of_reversed es c.reverse.new.self.items turned none

pub returns-clause-found : goal.returns-clause-found
returns-clause-found c =
    let declared = declared_in c.args.constants.now.entries in
    let es = equations_of declared c.args.raw.now in
    let all : c.inferred.new.equations.items ≡ es = c.in_ok-term.ensures.equations ∙ ap (λ z. z ++ es) c.new-equations.ensures.items in
    let turned : c.reverse.new.self.items ≡ reverse es = c.reverse.ensures.items ∙ ap reverse all in
    let found = rw c.in-Some.is at c.in_ok-solution_of.ensures.found in
    solved_by_found declared c.args.raw.now c.reverse.new.self.items (found_in c.in-Some.found.entries) c.in_ok-term.term c.in_ok-solved-in-Some.solved turned c.in_ok-term.ensures.term found c.in_ok-solved-in-Some.ensures
