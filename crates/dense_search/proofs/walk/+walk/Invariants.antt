use Rattle.dense_search.proofs.walk.+walk.Given as goal

abbrev pub decreases-node : goal.decreases-node
decreases-node l = l.depth

abbrev pub decreases-part : goal.decreases-part
decreases-part l = l.depth

abbrev pub decreases-leaf : goal.decreases-leaf
decreases-leaf l = l.depth

abbrev pub decreases-branch : goal.decreases-branch
decreases-branch l = l.depth

abbrev pub decreases-case : goal.decreases-case
decreases-case l = l.depth

abbrev pub decreases-own_tree : goal.decreases-own_tree
decreases-own_tree l = l.depth

abbrev pub decreases-bounded_tree : goal.decreases-bounded_tree
decreases-bounded_tree l = l.depth

abbrev pub decreases-rising : goal.decreases-rising
decreases-rising l = l.depth

abbrev pub decreases-falling : goal.decreases-falling
decreases-falling l = l.depth
