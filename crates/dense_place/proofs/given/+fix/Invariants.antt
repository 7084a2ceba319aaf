use Rattle.dense_place.proofs.given.+fix.Given as goal

abbrev pub decreases-fix_tuple : goal.decreases-fix_tuple
decreases-fix_tuple l = l.depth
