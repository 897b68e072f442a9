use Rattle.std.proofs.Common.{sym, ◌∙◌}
use Rattle.isa_typing.specs.Found.{found_in, EqualUnder}
use Rattle.isa_typing.proofs.Solved.{same_after, next_equal}
use Rattle.isa_typing.proofs.solving.followed.Goals as goal

pub loop-step-preserved : goal.loop-step-preserved
loop-step-preserved c =
    let F = found_in c.args.found.now.entries in
    let G = found_in c.loop-step.found.entries in
    let next : EqualUnder F c.in-Some.next c.args.typ.now = next_equal F G c.loop-step.at c.in-Some.next c.args.typ.now c.loop-step.invariant.same c.loop-step.invariant.equal (sym c.in_ok-next.ensures ∙ c.in-Some.is) in
    record {
      same = same_after F G (found_in c.shorten.new.found.entries) c.loop-step.invariant.same c.in_ok-shorten.ensures;
      equal = next_equal F G c.in-Some.next c.in-Some-2.end c.args.typ.now c.loop-step.invariant.same next (sym c.in_ok-end.ensures ∙ c.in-Some-2.is);
    }
