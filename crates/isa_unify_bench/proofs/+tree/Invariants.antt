use Rattle.isa_unify_bench.proofs.+tree.Given as goal

abbrev pub decreases-tree : goal.decreases-tree
decreases-tree l = l.size
