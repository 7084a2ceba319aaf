-- Which lines come to an end: those of certificates.
use Rattle.std.specs.Prelude.{◌≡◌, nat_lt, ◌^◌, Bool, true, ◌&&◌, Option, Some, List, IsTrue, ℤ}
use Rattle.std.specs.List.{list_all}
use Rattle.qc_model.specs.Content.{Game}
use Rattle.qc_model.specs.Valid.{is_number}
use Rattle.qc_model.specs.Verdict.{Verdict}
use Rattle.proof_tree.specs.declared.tree.Outcome.{Outcome}
use Rattle.proof_tree.specs.Text.{outcome_fits, is_place}
use Rattle.dense_tree.specs.Tree.{Certificate}
use Rattle.dense_tree.specs.Lines.{Line, given_line, named_line, horizon_line, stuck_line, goal_line, again_line, no_play_line, close_line, bound_line, reply_line, empty_line, barred_line, best_line, next_line, chosen_line, branch_line, range_line, skip_line, open_line, dot_line, certificate_lines}
use Rattle.dense_tree.specs.Text.{tuple_fits, scope_fits, has_text}
use Rattle.dense_ledger.specs.Ledger.{Ledger, ended_due, goes_through, first_ledger}

-- the numbers of a line are such as a text can have
abbrev pub line_fits : Line → Bool
line_fits (given_line k t) = scope_fits k && tuple_fits t
line_fits named_line = true
line_fits (horizon_line k) = scope_fits k
line_fits stuck_line = true
line_fits goal_line = true
line_fits (again_line n) = nat_lt n (2 ^ 30)
line_fits (no_play_line k) = scope_fits k
line_fits close_line = true
line_fits (bound_line x low high) = is_place 500 x.0 && is_number low && is_number high
line_fits (reply_line t) = tuple_fits t
line_fits empty_line = true
line_fits barred_line = true
line_fits best_line = true
line_fits next_line = true
line_fits (chosen_line t) = tuple_fits t
line_fits (branch_line x) = is_place 500 x.0
line_fits (range_line high) = is_number high
line_fits skip_line = true
line_fits open_line = true
line_fits dot_line = true

-- where the root has ended, the lines are those of a certificate that has a text
abbrev pub EndedLinesAreWhole : Type 0
EndedLinesAreWhole =
    (g : Game) (ls : List Line) (d : Ledger) (v : Verdict) (own : Option ℤ) → IsTrue (list_all line_fits ls) →
    goes_through g (Some (first_ledger g)) ls ≡ Some d → d.due ≡ ended_due v own →
    (c : Certificate) × (ls ≡ certificate_lines c) × ((outcome : Outcome) (optimum : Option ℤ) → IsTrue (outcome_fits outcome optimum) → IsTrue (has_text outcome optimum c))
