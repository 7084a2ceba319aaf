-- Certificates with their texts, and texts that aren't any.
use Rattle.std.proofs.Common.{◌≡◌, [], ◌∷◌, refl}
use Rattle.std.specs.Prelude.{pos, true, codes, Some, None}
use Rattle.proof_tree.specs.declared.tree.Outcome.TheVariants.{True, Open}
use Rattle.proof_tree.proofs.Build.{var}
use Rattle.dense_tree.specs.Tree.{Certificate, Node, Ending, node, again, no_play, close, bound, reply, cases, empty, best_left, dead, next, chosen, branch, no_more}
use Rattle.dense_tree.proofs.Words.{scope_id, plainly, named, no_steps, on_to_goal, case_one, case_to, skip_one, alone}
use Rattle.dense_text.specs.declared.parts.Due.TheVariants.{Ended, Case}
use Rattle.dense_text.specs.declared.piece.Piece.TheVariants.{Head, Branch, Skip}
use Rattle.dense_text.specs.Pieces.{certificate_pieces}
use Rattle.dense_text.specs.States.{due}
use Rattle.dense_text.specs.Standing.{going, no_text, standing}

-- the first game of `docs/dense.md`: the player says how much is enough, the opponent fills two boxes
abbrev boxes : Certificate
boxes = record {
  given = record { scope = scope_id 1; tuple = pos 0 ∷ pos 0 ∷ [] } ∷ [];
  root = plainly (close ∷ []) (branch (var 0) (skip_one (case_one no_steps (next filled) no_more)));
}
  where
    z_is_0 : Ending
    z_is_0 = branch (var 3) (case_one no_steps on_to_goal (skip_one no_more))

    filled : Node
    filled = plainly no_steps (branch (var 1)
        (case_one no_steps (branch (var 2) (case_one no_steps (next (plainly no_steps z_is_0)) (case_one no_steps (next (named (close ∷ []) on_to_goal)) no_more)))
        (case_one (close ∷ []) (next (again 0)) no_more)))

boxes_read : standing (codes "qcert 4\ntrue\nu 2 0 0\nc\nv 1\ns\nn\nv 2\nv 3\nn\nv 4\nn\ng\ns\n.\nn\nm\nc\nn\ng\n.\nc\nn\na 1\n.\n.\n") ≡ going (certificate_pieces True None boxes) 0 (due Ended)
boxes_read = refl

-- the second: a seller and a buyer
abbrev prices : Certificate
prices = alone (plainly no_steps (branch (var 0)
    (case_to (pos 1) no_steps (next (plainly (reply (pos 0 ∷ pos 1 ∷ []) ∷ []) best_left))
    (case_one no_steps (next bought)
    (case_one no_steps (next (plainly (reply (pos 1 ∷ pos 2 ∷ []) ∷ []) best_left)) no_more)))))
  where
    paid : Ending
    paid = branch (var 2) (case_one no_steps on_to_goal (case_to (pos 6) (bound (var 2) (pos 3) (pos 6) ∷ []) empty no_more))

    bought : Node
    bought = plainly no_steps (branch (var 1) (case_one (close ∷ []) paid (case_one (close ∷ []) paid no_more)))

prices_read : standing (codes "qcert 4\ntrue 2\nv 1\nr 1\nn\nf 0 1\ny\nn\nv 2\nc\nv 3\nn\ng\nr 6\nb 3 3 6\ne\n.\nc\nv 3\nn\ng\nr 6\nb 3 3 6\ne\n.\n.\nn\nf 1 2\ny\n.\n") ≡ going (certificate_pieces True (Some (pos 2)) prices) 0 (due Ended)
prices_read = refl

-- a horizon, ends by no play, empty tuples, and turns
abbrev others : Certificate
others = alone (node true (Some (scope_id 3)) (cases (reply [] ∷ []) (branch (var 0) (case_one no_steps (dead (scope_id 2)) (case_one no_steps (chosen [] (no_play (scope_id 2))) no_more)))))

others_read : standing (codes "qcert 4\nopen 70\nm\nh 4\nf\nv 1\nl 3\nw\nl 3\n.\n") ≡ going (certificate_pieces (Open 70) None others) 0 (due Ended)
others_read = refl

-- a branch is open where its cases haven't ended
unended : standing (codes "qcert 4\ntrue\nv 1\ns\n") ≡ going (Head True None ∷ Branch (var 0) ∷ Skip ∷ []) 1 (due Case)
unended = refl

-- numbers have no needless zero, variables end at 500, an optimum stands beside `true` alone, and the version is 4
leading_zero : standing (codes "qcert 4\ntrue\nv 01") ≡ no_text
leading_zero = refl

too_great : standing (codes "qcert 4\ntrue\nv 501") ≡ no_text
too_great = refl

optimum_of_a_lost_game : standing (codes "qcert 4\nfalse 1\n") ≡ no_text
optimum_of_a_lost_game = refl

second_version : standing (codes "qcert 2") ≡ no_text
second_version = refl

-- what is out of its place: a name twice, a node that is told again below a name, no play at a named node, a goal after a step,
-- a range of a range, cases without a branch, and anything after the end
named_twice : standing (codes "qcert 4\ntrue\nm\nm") ≡ no_text
named_twice = refl

named_again : standing (codes "qcert 4\ntrue\nm\na") ≡ no_text
named_again = refl

named_without_a_play : standing (codes "qcert 4\nfalse\nm\nl") ≡ no_text
named_without_a_play = refl

late_goal : standing (codes "qcert 4\ntrue\nc\ng") ≡ no_text
late_goal = refl

two_ranges : standing (codes "qcert 4\ntrue\nv 1\nr 1\nr") ≡ no_text
two_ranges = refl

no_branch : standing (codes "qcert 4\ntrue\ns") ≡ no_text
no_branch = refl

after_the_end : standing (codes "qcert 4\ntrue\ng\ng") ≡ no_text
after_the_end = refl
