-- Whether all lines were in place, and how many nodes and branches are open.
use Rattle.std.specs.Prelude.{ℕ, suc, Bool, false}
use Rattle.check_lines.specs.State.{Above, at_root, below, Within, whole_tree, in_case, State, node_due, prune_due, body_due, end_due, case_due, ranged_due, ended, wrong}

-- each line so far was in place
abbrev pub all_in_place : State → Bool
all_in_place (node_due n above s box) = n.in_place
all_in_place (prune_due n above s k box left) = n.in_place
all_in_place (body_due n above s box) = n.in_place
all_in_place (end_due n around o box) = n.in_place
all_in_place (case_due n around o b) = n.in_place
all_in_place (ranged_due n around o b high) = n.in_place
all_in_place (ended n f) = n.in_place
all_in_place wrong = false

-- how many nodes and branches are open above what is due
abbrev mutual
  pub nests_above : Above → ℕ
  nests_above at_root = 0
  nests_above (below o w around) = suc (nests_within around)

  pub nests_within : Within → ℕ
  nests_within (whole_tree above) = nests_above above
  nests_within (in_case b around) = suc (nests_within around)

abbrev pub nests : State → ℕ
nests (node_due n above s box) = nests_above above
nests (prune_due n above s k box left) = nests_above above
nests (body_due n above s box) = nests_above above
nests (end_due n around o box) = nests_within around
nests (case_due n around o b) = suc (nests_within around)
nests (ranged_due n around o b high) = suc (nests_within around)
nests (ended n f) = 0
nests wrong = 0
