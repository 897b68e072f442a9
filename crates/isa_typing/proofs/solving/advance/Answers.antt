use Rattle.isa_typing.specs.Found.{found_in}
use Rattle.isa_typing.proofs.Solved.{same_after, equal_there, steps_followed}
use Rattle.isa_typing.proofs.solving.advance.Goals as goal

pub returns : goal.returns
returns c =
    let F = found_in c.args.found.now.entries in
    let G = found_in c.followed.new.found.entries in
    let H = found_in c.followed-2.new.found.entries in
    let same = c.in_ok-left_end.ensures.same in
    steps_followed F H (found_in c.meet.new.found.entries) c.args.work.now.items c.meet.new.work.items c.args.left.now c.args.right.now c.in_ok-left_end.left_end c.in_ok-right_end.right_end c.in_ok-going.going (same_after F G H same c.in_ok-right_end.ensures.same) c.in_ok-left_end.ensures.equal (equal_there F G c.in_ok-right_end.right_end c.args.right.now same c.in_ok-right_end.ensures.equal) c.in_ok-going.ensures
