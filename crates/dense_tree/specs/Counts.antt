-- How much a dense tree has of what.
use Rattle.std.specs.Prelude.{ℕ, ◌+◌, max}
use Rattle.dense_tree.specs.Tree.{Node, node, again, no_play, Body, stuck, goal, cases, Ending, empty, barred, best_left, dead, next, chosen, branch, Branches, no_more, piece, Case, skip, left_open, go}

-- how a count goes over a tree: what a case adds, taken or left open, what nodes and branches add, and how parts come together
pub record Count : Type 0 where
  pub at_go : ℕ → ℕ
  pub at_open : ℕ
  pub at_node : ℕ → ℕ
  pub at_branch : ℕ → ℕ
  pub together : ℕ → ℕ → ℕ

abbrev mutual
  pub node_count : Count → Node → ℕ
  node_count q (node named h body) = body_count q body
  node_count q (again n) = 0
  node_count q (no_play k) = 0

  pub body_count : Count → Body → ℕ
  body_count q stuck = 0
  body_count q goal = 0
  body_count q (cases steps end) = ending_count q end

  pub ending_count : Count → Ending → ℕ
  ending_count q empty = 0
  ending_count q barred = 0
  ending_count q best_left = 0
  ending_count q (dead k) = 0
  ending_count q (next t) = q.at_node (node_count q t)
  ending_count q (chosen vs t) = q.at_node (node_count q t)
  ending_count q (branch x bs) = q.at_branch (branches_count q bs)

  pub branches_count : Count → Branches → ℕ
  branches_count q no_more = 0
  branches_count q (piece upto c bs) = q.together (case_count q c) (branches_count q bs)

  pub case_count : Count → Case → ℕ
  case_count q skip = 0
  case_count q left_open = q.at_open
  case_count q (go steps end) = q.at_go (ending_count q end)

-- the cases that are taken. What is told again takes no turns
abbrev pub turns_of : Node → ℕ
turns_of t = node_count (record { at_go = λ n. 1 + n; at_open = 0; at_node = λ n. n; at_branch = λ n. n; together = λ m n. m + n }) t

-- the cases that are left open
abbrev pub opens_of : Node → ℕ
opens_of t = node_count (record { at_go = λ n. n; at_open = 1; at_node = λ n. n; at_branch = λ n. n; together = λ m n. m + n }) t

-- the greatest number of branches and nodes that stand above one another
abbrev pub depth_of : Node → ℕ
depth_of t = node_count (record { at_go = λ n. n; at_open = 0; at_node = λ n. 1 + n; at_branch = λ n. 1 + n; together = λ m n. max m n }) t
