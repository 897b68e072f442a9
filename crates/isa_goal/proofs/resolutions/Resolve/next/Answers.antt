use Rattle.std.proofs.Common.{rules, ◌≡◌, drop, length, false, subst}
use Rattle.std.specs.Prelude.{Ok, IfNone}
use Rattle.isa_goal.specs.Resolving.{Search, Steps, results, with_first}
use Rattle.isa_goal.proofs.Searching.{steps_is}
use Rattle.isa_goal.proofs.resolutions.Resolve.next.Goals as goal

pub returns-in-Ok-clause-answer : goal.returns-in-Ok-clause-answer
returns-in-Ok-clause-answer c =
    let old : Search = record { rules = c.self.inside.rules; state = c.self.inside.state; place = c.self.inside.place; tried = c.self.inside.tried; failed = c.self.inside.failed } in
    let new : Search = record { rules = c.self.inside.rules; state = c.self.inside.state; place = c.self.inside.place; tried = c.in-Ok.tried; failed = c.self.inside.failed } in
    let f : c.self.inside.failed ≡ false = search rules in
    let e : results c.self.inside.place (drop c.self.inside.tried c.self.inside.rules) c.self.inside.state ≡ with_first c.in-Ok.found (results c.self.inside.place (drop c.in-Ok.tried c.self.inside.rules) c.self.inside.state) = search rules in
    let n : IfNone c.in-Ok.found (c.in-Ok.tried ≡ length c.self.inside.rules) = search rules in
    let same : old ≡ c.args.self.now = search rules in
    subst (λ (x : Search). Steps x (Ok c.in-Ok.found) new) same (steps_is old new c.in-Ok.found f f e n)
