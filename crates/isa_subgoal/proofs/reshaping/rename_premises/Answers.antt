use Rattle.std.proofs.Common.{rules}
use Rattle.isa_subgoal.proofs.Answering.{rename_answers}
use Rattle.isa_subgoal.proofs.reshaping.rename_premises.Goals as goal

pub returns : goal.returns
returns c =
    rename_answers c.args.subgoals.now c.args.th.now c.args.conclusion.now c.in_ok-prop.prop c.rename.result c.requires.bare c.requires.there c.requires.shapable c.requires.formed (search rules) c.rename.ensures
