use Rattle.dense_place.proofs.scouting.+scout.Given as goal

abbrev pub decreases-go_on : goal.decreases-go_on
decreases-go_on l = l.depth

abbrev pub decreases-each_value : goal.decreases-each_value
decreases-each_value l = l.depth
