-- The text of a certificate, line by line.
use Rattle.std.specs.Prelude.{ℕ, ◌+◌, nat_le, Bool, true, false, ◌&&◌, Option, Some, None, List, ◌++◌, flat_map, codes, ℤ, unsigned_abs, ◌^◌}
use Rattle.std.specs.Fmt.{decimal, signed_decimal}
use Rattle.std.specs.List.{list_all}
use Rattle.qc_model.specs.Valid.{is_number}
use Rattle.proof_tree.specs.declared.tree.Horizon.{Horizon}
use Rattle.proof_tree.specs.declared.tree.Step.{Step}
use Rattle.proof_tree.specs.declared.tree.Step.TheVariants.{Prune, Bound}
use Rattle.proof_tree.specs.declared.tree.Outcome.{Outcome}
use Rattle.proof_tree.specs.declared.tree.Outcome.TheVariants.{True, False, Open}
use Rattle.proof_tree.specs.declared.tree.Version.{Version}
use Rattle.proof_tree.specs.declared.tree.Version.TheVariants.{One, Two}
use Rattle.proof_tree.specs.declared.line.Line.{Line}
use Rattle.proof_tree.specs.declared.line.Line.TheVariants.{Horizon as HorizonLine, Prune as PruneLine, Bound as BoundLine, Dot, Stuck, Goal, Empty, Barred, Next, Branch, Skip, Open as OpenLine, Range}
use Rattle.proof_tree.specs.Lines.{tree_lines}
use Rattle.proof_tree.specs.Steps.{is_prune}
use Rattle.proof_tree.specs.Tree.{Tree, tree, Body, stuck, goal, cases, Ending, empty, barred, next, branch, Branches, no_more, piece, Case, skip, left_open, go}

-- a scope, a variable or a constraint, which the text counts from 1
abbrev pub place_text : ℕ → List ℕ
place_text k = decimal (k + 1)

abbrev pub range_text : ℤ → ℤ → List ℕ
range_text low high = signed_decimal low ++ codes " " ++ signed_decimal high

abbrev pub line_text : Line → List ℕ
line_text (HorizonLine k) = codes "h " ++ decimal k ++ codes "\n"
line_text (PruneLine x low high c) = codes "p " ++ place_text x.0 ++ codes " " ++ range_text low high ++ codes " " ++ place_text c.0 ++ codes "\n"
line_text (BoundLine x low high) = codes "b " ++ place_text x.0 ++ codes " " ++ range_text low high ++ codes "\n"
line_text Dot = codes ".\n"
line_text Stuck = codes "t\n"
line_text Goal = codes "g\n"
line_text Empty = codes "e\n"
line_text Barred = codes "x\n"
line_text Next = codes "n\n"
line_text (Branch x) = codes "v " ++ place_text x.0 ++ codes "\n"
line_text Skip = codes "s\n"
line_text OpenLine = codes "o\n"
line_text (Range high) = codes "r " ++ signed_decimal high ++ codes "\n"

abbrev pub outcome_text : Outcome → Option ℤ → List ℕ
outcome_text True None = codes "true\n"
outcome_text True (Some v) = codes "true " ++ signed_decimal v ++ codes "\n"
outcome_text False v = codes "false\n"
outcome_text (Open n) v = codes "open " ++ decimal n ++ codes "\n"

abbrev pub version_text : Version → List ℕ
version_text One = codes "qcert 1\n"
version_text Two = codes "qcert 2\n"

-- the one text of a certificate: its head, and the lines of its tree
abbrev pub certificate_text : Version → Outcome → Option ℤ → Tree → List ℕ
certificate_text version outcome optimum t = version_text version ++ outcome_text outcome optimum ++ flat_map line_text (tree_lines t)

-- the numbers that a text can have
abbrev pub is_place : ℕ → ℕ → Bool
is_place most k = nat_le (k + 1) most

abbrev pub step_fits : Step → Bool
step_fits (Prune x low high c) = is_place 500 x.0 && is_number low && is_number high && is_place 20000 c.0
step_fits (Bound x low high) = is_place 500 x.0 && is_number low && is_number high

abbrev pub horizon_fits : Option Horizon → Bool
horizon_fits None = true
horizon_fits (Some z) = is_place 65 z.scope.0 && list_all step_fits z.steps && list_all is_prune z.steps

-- in the first version of the text each case has one value
abbrev pub upto_fits : Version → Option ℤ → Bool
upto_fits version None = true
upto_fits One (Some high) = false
upto_fits Two (Some high) = is_number high

abbrev mutual
  pub tree_fits : Version → Tree → Bool
  tree_fits version (tree z c) = horizon_fits z && body_fits version c

  pub body_fits : Version → Body → Bool
  body_fits version stuck = true
  body_fits version goal = true
  body_fits version (cases steps end) = list_all step_fits steps && ending_fits version end

  pub ending_fits : Version → Ending → Bool
  ending_fits version empty = true
  ending_fits version barred = true
  ending_fits version (next t) = tree_fits version t
  ending_fits version (branch x bs) = is_place 500 x.0 && branches_fit version bs

  pub branches_fit : Version → Branches → Bool
  branches_fit version no_more = true
  branches_fit version (piece upto c bs) = upto_fits version upto && case_fits version c && branches_fit version bs

  pub case_fits : Version → Case → Bool
  case_fits version skip = true
  case_fits version left_open = true
  case_fits version (go steps end) = list_all step_fits steps && ending_fits version end

-- an optimum stands beside True alone
abbrev pub outcome_fits : Outcome → Option ℤ → Bool
outcome_fits True None = true
outcome_fits True (Some v) = nat_le (unsigned_abs v) (2 ^ 62)
outcome_fits False None = true
outcome_fits False (Some v) = false
outcome_fits (Open n) None = nat_le 1 n && nat_le n 10000000
outcome_fits (Open n) (Some v) = false

-- the certificate has a text
abbrev pub has_text : Version → Outcome → Option ℤ → Tree → Bool
has_text version outcome optimum t = outcome_fits outcome optimum && tree_fits version t
