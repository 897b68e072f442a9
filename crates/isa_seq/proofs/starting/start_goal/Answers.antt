use Rattle.isa_seq.proofs.Starts.{starts-run}
use Rattle.isa_seq.proofs.starting.start_goal.Goals as goal

pub returns : goal.returns
returns g c =
    let m = (g.R.Prims.meaning c.args.prims.now).primitives in
    starts-run m _ _ (g.met.R.Prims.is_meaning c.args.prims.now).primitives _ _ c.in_ok-run.run' c.args.prim.now c.args.state c.args.number
    c.in_ok-run.ensures.fits c.in_ok-run.ensures.rest c.in_ok-push.ensures.items
