-- The text of a dense certificate, line by line, and which certificates have one.
use Rattle.std.specs.Prelude.{ℕ, nat_lt, Bool, true, false, not, ◌&&◌, Option, Some, None, List, [], ◌++◌, flat_map, codes, ℤ, ◌^◌}
use Rattle.std.specs.Fmt.{signed_decimal}
use Rattle.std.specs.List.{list_all}
use Rattle.qc_model.specs.declared.problem.ScopeId.{ScopeId}
use Rattle.qc_model.specs.Valid.{is_number}
use Rattle.proof_tree.specs.declared.tree.Outcome.{Outcome}
use Rattle.proof_tree.specs.Text.{place_text, range_text, outcome_text, outcome_fits, is_place}
use Rattle.dense_tree.specs.Tree.{Step, close, bound, reply, Node, node, again, no_play, Body, stuck, goal, cases, Ending, empty, barred, best_left, dead, next, chosen, branch, Branches, no_more, piece, Case, skip, left_open, go, Given, Certificate}
use Rattle.dense_tree.specs.Lines.{Line, given_line, named_line, horizon_line, stuck_line, goal_line, again_line, no_play_line, close_line, bound_line, reply_line, empty_line, barred_line, best_line, next_line, chosen_line, branch_line, range_line, skip_line, open_line, dot_line, certificate_lines}

-- each after a space
abbrev pub numbers_text : List ℤ → List ℕ
numbers_text vs = flat_map (λ v. codes " " ++ signed_decimal v) vs

-- scopes, variables and nodes count from 1
abbrev pub line_text : Line → List ℕ
line_text (given_line k t) = codes "u " ++ (place_text k.0 ++ (numbers_text t ++ codes "\n"))
line_text named_line = codes "m\n"
line_text (horizon_line k) = codes "h " ++ (place_text k.0 ++ codes "\n")
line_text stuck_line = codes "t\n"
line_text goal_line = codes "g\n"
line_text (again_line n) = codes "a " ++ (place_text n ++ codes "\n")
line_text (no_play_line k) = codes "l " ++ (place_text k.0 ++ codes "\n")
line_text close_line = codes "c\n"
line_text (bound_line x low high) = codes "b " ++ (place_text x.0 ++ (codes " " ++ (range_text low high ++ codes "\n")))
line_text (reply_line t) = codes "f" ++ (numbers_text t ++ codes "\n")
line_text empty_line = codes "e\n"
line_text barred_line = codes "x\n"
line_text best_line = codes "y\n"
line_text next_line = codes "n\n"
line_text (chosen_line t) = codes "w" ++ (numbers_text t ++ codes "\n")
line_text (branch_line x) = codes "v " ++ (place_text x.0 ++ codes "\n")
line_text (range_line high) = codes "r " ++ (signed_decimal high ++ codes "\n")
line_text skip_line = codes "s\n"
line_text open_line = codes "o\n"
line_text dot_line = codes ".\n"

-- the one text of a certificate: its head, and its lines
abbrev pub certificate_text : Outcome → Option ℤ → Certificate → List ℕ
certificate_text outcome optimum c = codes "qcert 4\n" ++ (outcome_text outcome optimum ++ flat_map line_text (certificate_lines c))

-- the numbers that a text can have
abbrev pub tuple_fits : List ℤ → Bool
tuple_fits vs = list_all is_number vs

abbrev pub step_fits : Step → Bool
step_fits close = true
step_fits (bound x low high) = is_place 500 x.0 && is_number low && is_number high
step_fits (reply t) = tuple_fits t

abbrev pub scope_fits : ScopeId → Bool
scope_fits k = is_place 65 k.0

abbrev pub horizon_fits : Option ScopeId → Bool
horizon_fits None = true
horizon_fits (Some k) = scope_fits k

abbrev pub upto_fits : Option ℤ → Bool
upto_fits None = true
upto_fits (Some high) = is_number high

-- an end without steps that says that no play is left: a node says so itself, by the same line
abbrev pub is_dead : Body → Bool
is_dead stuck = false
is_dead goal = false
is_dead (cases [] (dead k)) = true
is_dead (cases steps end) = false

abbrev mutual
  pub node_fits : Node → Bool
  node_fits (node named h body) = horizon_fits h && not (is_dead body) && body_fits body
  node_fits (again n) = nat_lt n (2 ^ 30)
  node_fits (no_play k) = scope_fits k

  pub body_fits : Body → Bool
  body_fits stuck = true
  body_fits goal = true
  body_fits (cases steps end) = list_all step_fits steps && ending_fits end

  pub ending_fits : Ending → Bool
  ending_fits empty = true
  ending_fits barred = true
  ending_fits best_left = true
  ending_fits (dead k) = scope_fits k
  ending_fits (next t) = node_fits t
  ending_fits (chosen vs t) = tuple_fits vs && node_fits t
  ending_fits (branch x bs) = is_place 500 x.0 && branches_fit bs

  pub branches_fit : Branches → Bool
  branches_fit no_more = true
  branches_fit (piece upto c bs) = upto_fits upto && case_fits c && branches_fit bs

  pub case_fits : Case → Bool
  case_fits skip = true
  case_fits left_open = true
  case_fits (go steps end) = list_all step_fits steps && ending_fits end

abbrev pub given_fits : Given → Bool
given_fits u = scope_fits u.scope && tuple_fits u.tuple

-- the certificate has a text
abbrev pub has_text : Outcome → Option ℤ → Certificate → Bool
has_text outcome optimum c = outcome_fits outcome optimum && list_all given_fits c.given && node_fits c.root
