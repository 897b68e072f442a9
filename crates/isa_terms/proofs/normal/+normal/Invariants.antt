use Rattle.isa_terms.specs.Norm.{apply}
use Rattle.isa_terms.specs.Cost.{put_cost, apply_cost}
use Rattle.isa_terms.proofs.normal.+normal.Given as goal

abbrev pub decreases-put_normal : goal.decreases-put_normal
decreases-put_normal l = put_cost (apply l.levels) (apply_cost l.levels) l.argument.now l.depth l.body.now

abbrev pub decreases-apply : goal.decreases-apply
decreases-apply l = apply_cost l.levels l.fun.now l.arg.now
