use Rattle.std.proofs.Common.{◌<◌, length, arith}
use Rattle.isa_net.proofs.Turns.{on_ok, on_err}
use Rattle.isa_net.proofs.Rooting.{puts_by, keeps_by}
use Rattle.isa_net.proofs.tree.Tree.insert.Goals as goal

pub returns-clause-ok : goal.returns-clause-ok
returns-clause-ok c =
    let l : length c.args.word.now < c.deepen.new.self.deep = omega (arith, c.deepen.ensures.long) in
    on_ok _ _ _ (puts_by c.args.self.now c.deepen.new.self c.rooted.new.self c.in_ok-root.root c.place_whole.new.nodes c.args.word.now c.args.rank c.deepen.ensures.keeps c.in_ok-root.ensures.ok l) c.place_whole.ensures.placed

pub returns-clause-err : goal.returns-clause-err
returns-clause-err c =
    let l : length c.args.word.now < c.deepen.new.self.deep = omega (arith, c.deepen.ensures.long) in
    on_err _ _ _ (keeps_by c.args.self.now c.deepen.new.self c.rooted.new.self c.in_ok-root.root c.place_whole.new.nodes c.args.word.now c.args.rank c.deepen.ensures.keeps c.in_ok-root.ensures.ok l) c.place_whole.ensures.err
