-- The text of a certificate, and which trees have one.
use Rattle.std.proofs.Common.{◌≡◌, refl}
use Rattle.std.specs.Prelude.{[], ◌∷◌, true, false, Some, None, pos, neg_ℤ, codes, ◌++◌}
use Rattle.std.specs.Fmt.{decimal, signed_decimal}
use Rattle.proof_tree.specs.declared.tree.Outcome.TheVariants.{True, False}
use Rattle.proof_tree.proofs.Build.{var}
use Rattle.dense_tree.specs.Tree.{Certificate, node, goal, again, no_play, close, bound, reply, cases, best_left, dead, next, chosen, branch, no_more}
use Rattle.dense_tree.specs.Lines.{given_line, named_line, horizon_line, goal_line, again_line, no_play_line, close_line, bound_line, reply_line, best_line, next_line, chosen_line, branch_line, range_line, skip_line, dot_line, certificate_lines}
use Rattle.dense_tree.specs.Text.{line_text, certificate_text, has_text, node_fits, ending_fits, step_fits, given_fits}
use Rattle.dense_tree.proofs.Words.{scope_id, plainly, no_steps, at_goal, on_to_goal, case_one, case_to, skip_one, alone, given_of}

abbrev some_lines : Certificate
some_lines = record {
  given = record { scope = scope_id 1; tuple = pos 0 ∷ neg_ℤ (pos 7) ∷ [] } ∷ [];
  root = node true (Some (scope_id 3)) (cases (close ∷ bound (var 1) (neg_ℤ (pos 2)) (pos 5) ∷ reply (pos 1 ∷ []) ∷ []) (branch (var 0)
      (case_one no_steps (chosen (pos 2 ∷ pos 0 ∷ []) at_goal)
      (case_to (pos 9) (close ∷ []) (dead (scope_id 3)) (case_one no_steps (next (again 0))
      (case_one no_steps (next (no_play (scope_id 2))) (case_one no_steps best_left (skip_one no_more))))))));
}

-- u 2 0 -7, m, h 4, c, b 2 -2 5, f 1, v 1, w 2 0, g, r 9, c, l 4, n, a 1, n, l 3, y, s, .
lines_of_it : certificate_lines some_lines
    ≡ given_line (scope_id 1) (pos 0 ∷ neg_ℤ (pos 7) ∷ []) ∷ named_line ∷ horizon_line (scope_id 3) ∷ close_line ∷ bound_line (var 1) (neg_ℤ (pos 2)) (pos 5)
    ∷ reply_line (pos 1 ∷ []) ∷ branch_line (var 0) ∷ chosen_line (pos 2 ∷ pos 0 ∷ []) ∷ goal_line ∷ range_line (pos 9)
    ∷ close_line ∷ no_play_line (scope_id 3) ∷ next_line ∷ again_line 0 ∷ next_line ∷ no_play_line (scope_id 2) ∷ best_line ∷ skip_line ∷ dot_line ∷ []
lines_of_it = refl

-- scopes, variables and nodes count from 1
text_of_a_tuple : line_text (given_line (scope_id 1) (pos 0 ∷ pos 7 ∷ []))
    ≡ codes "u " ++ (decimal 2 ++ ((codes " " ++ signed_decimal (pos 0)) ++ ((codes " " ++ signed_decimal (pos 7)) ++ []) ++ codes "\n"))
text_of_a_tuple = refl

whole_text : certificate_text True None (alone (plainly (close ∷ []) on_to_goal)) ≡ codes "qcert 4\ntrue\nc\nn\ng\n"
whole_text = refl

lines_fit : has_text False None some_lines ≡ true
lines_fit = refl

-- for l K as an end: it doesn't stand right at the beginning of a node, where the node itself is spelled so
one_spelling : node_fits (plainly no_steps (dead (scope_id 1))) ≡ false
one_spelling = refl

after_a_step : node_fits (plainly (close ∷ []) (dead (scope_id 1))) ≡ true
after_a_step = refl

last_scope : node_fits (no_play (scope_id 64)) ≡ true
last_scope = refl

-- for l K as a node: there are 65 scopes, the goal among them
no_such_scope : node_fits (no_play (scope_id 65)) ≡ false
no_such_scope = refl

-- for l K as an end: so too
no_such_end : ending_fits (dead (scope_id 65)) ≡ false
no_such_end = refl

-- for h K: so too
no_such_horizon : node_fits (node false (Some (scope_id 65)) goal) ≡ false
no_such_horizon = refl

-- for u K V..: so too
given_to_no_scope : given_fits (given_of 65 (pos 0)) ≡ false
given_to_no_scope = refl

last_node : node_fits (again 1073741823) ≡ true
last_node = refl

-- for a N: there may be 2 ^ 30
no_such_node : node_fits (again 1073741824) ≡ false
no_such_node = refl

-- for v X: there are 500
no_such_variable : ending_fits (branch (var 500) no_more) ≡ false
no_such_variable = refl

-- for b X L H: so too
bound_of_none : step_fits (bound (var 500) (pos 0) (pos 0)) ≡ false
bound_of_none = refl

last_variable : step_fits (bound (var 499) (neg_ℤ (pos 1000000000)) (pos 1000000000)) ≡ true
last_variable = refl

-- for b X L H: numbers go to 10 ^ 9 either way
low_too_far : step_fits (bound (var 0) (neg_ℤ (pos 1000000001)) (pos 0)) ≡ false
low_too_far = refl

-- for b X L H: so does the upper value
high_too_far : step_fits (bound (var 0) (pos 0) (pos 1000000001)) ≡ false
high_too_far = refl

-- for f V..: so do values of tuples
reply_too_far : step_fits (reply (pos 0 ∷ pos 1000000001 ∷ [])) ≡ false
reply_too_far = refl

-- for w V..: so too
chosen_too_far : ending_fits (chosen (pos 1000000001 ∷ []) at_goal) ≡ false
chosen_too_far = refl

-- for u K V..: so too
given_too_far : given_fits (given_of 0 (pos 1000000001)) ≡ false
given_too_far = refl

-- for r H: so too
upto_too_far : ending_fits (branch (var 0) (case_to (pos 1000000001) no_steps on_to_goal no_more)) ≡ false
upto_too_far = refl
