-- The lines of a dense certificate, from top to bottom.
use Rattle.std.specs.Prelude.{ℕ, Bool, true, false, Option, Some, None, List, [], ◌∷◌, ◌++◌, map, ℤ}
use Rattle.qc_model.specs.declared.problem.ScopeId.{ScopeId}
use Rattle.qc_model.specs.declared.problem.VarId.{VarId}
use Rattle.dense_tree.specs.Tree.{Step, close, bound, reply, Node, node, again, no_play, Body, stuck, goal, cases, Ending, empty, barred, best_left, dead, next, chosen, branch, Branches, no_more, piece, Case, skip, left_open, go, Certificate}

pub data Line : Type 0 where
  given_line : ScopeId → List ℤ → Line
  named_line : Line
  horizon_line : ScopeId → Line
  stuck_line : Line
  goal_line : Line
  again_line : ℕ → Line
  no_play_line : ScopeId → Line
  close_line : Line
  bound_line : VarId → ℤ → ℤ → Line
  reply_line : List ℤ → Line
  empty_line : Line
  barred_line : Line
  best_line : Line
  next_line : Line
  chosen_line : List ℤ → Line
  branch_line : VarId → Line
  range_line : ℤ → Line
  skip_line : Line
  open_line : Line
  dot_line : Line

abbrev pub step_line : Step → Line
step_line close = close_line
step_line (bound x low high) = bound_line x low high
step_line (reply t) = reply_line t

abbrev pub named_lines : Bool → List Line
named_lines true = named_line ∷ []
named_lines false = []

abbrev pub horizon_lines : Option ScopeId → List Line
horizon_lines None = []
horizon_lines (Some k) = horizon_line k ∷ []

-- a case of several values says the last of them
abbrev pub upto_lines : Option ℤ → List Line
upto_lines None = []
upto_lines (Some high) = range_line high ∷ []

abbrev mutual
  pub node_lines : Node → List Line
  node_lines (node named h body) = named_lines named ++ (horizon_lines h ++ body_lines body)
  node_lines (again n) = again_line n ∷ []
  node_lines (no_play k) = no_play_line k ∷ []

  pub body_lines : Body → List Line
  body_lines stuck = stuck_line ∷ []
  body_lines goal = goal_line ∷ []
  body_lines (cases steps end) = map step_line steps ++ ending_lines end

  pub ending_lines : Ending → List Line
  ending_lines empty = empty_line ∷ []
  ending_lines barred = barred_line ∷ []
  ending_lines best_left = best_line ∷ []
  ending_lines (dead k) = no_play_line k ∷ []
  ending_lines (next t) = next_line ∷ node_lines t
  ending_lines (chosen vs t) = chosen_line vs ∷ node_lines t
  ending_lines (branch x bs) = branch_line x ∷ (branches_lines bs ++ dot_line ∷ [])

  pub branches_lines : Branches → List Line
  branches_lines no_more = []
  branches_lines (piece upto c bs) = upto_lines upto ++ (case_lines c ++ branches_lines bs)

  pub case_lines : Case → List Line
  case_lines skip = skip_line ∷ []
  case_lines left_open = open_line ∷ []
  case_lines (go steps end) = map step_line steps ++ ending_lines end

abbrev pub certificate_lines : Certificate → List Line
certificate_lines c = map (λ u. given_line u.scope u.tuple) c.given ++ node_lines c.root
