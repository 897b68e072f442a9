use Rattle.isa_unify.specs.Calls.{equations_of}
use Rattle.isa_unify.proofs.Right.{is_right, is_inside}
use Rattle.isa_unify.proofs.GoingOn.{may_follow}
use Rattle.isa_unify.proofs.unification.unify_pairs.Goals as goal

pub returns-clause-right : goal.returns-clause-right
returns-clause-right c = is_right c.answer_pairs.result c.args.fresh.now c.answer_pairs.new.fresh (equations_of c.args.pairs.now) c.answer_pairs.ensures

pub returns-clause-follow : goal.returns-clause-follow
returns-clause-follow c = may_follow c.answer_pairs.result c.args.fresh.now c.answer_pairs.new.fresh (equations_of c.args.pairs.now) c.answer_pairs.ensures

pub returns-clause-inside : goal.returns-clause-inside
returns-clause-inside c = is_inside c.answer_pairs.result c.args.fresh.now c.answer_pairs.new.fresh (equations_of c.args.pairs.now) c.answer_pairs.ensures
