-- A tree has no more ends than its text has bytes.
use Rattle.std.proofs.Common.{◌≡◌, ◌∙◌, ap, ℕ, ◌+◌, ◌≤◌, List, ◌++◌, length, arith, length-append}
use Rattle.std.specs.Prelude.{codes}
use Rattle.std.specs.Fmt.{decimal}
use Rattle.proof_tree.specs.declared.tree.Version.{Version}
use Rattle.proof_tree.specs.Tree.{Tree, tree, Body, stuck, goal, cases, Ending, empty, barred, next, branch, Branches, no_more, piece, Case, skip, left_open, go}
use Rattle.proof_tree.specs.Counts.{ends_of, body_ends, ending_ends, branch_ends, case_ends}
use Rattle.proof_tree.specs.Text.{version_text}
use Rattle.proof_text.specs.Parts.{steps_text, horizon_text, tree_text, body_text, ending_text, branches_text, upto_text, case_text}

after_front : (a b : List ℕ) (n : ℕ) → n ≤ length b → n ≤ length (a ++ b)
after_front a b n h = let l = length-append a b in omega arith

branch_long : (v x n bs d : List ℕ) → length bs ≤ length (v ++ x ++ n ++ bs ++ d)
branch_long v x n bs d = simp length-append (omega arith)

case_long : (s e bs : List ℕ) (m n : ℕ) → m ≤ length e → n ≤ length bs → m + n ≤ length (s ++ e ++ bs)
case_long s e bs m n h g = simp length-append (omega arith)

mutual
  pub tree_ends : (t : Tree) → ends_of t ≤ length (tree_text t)
  tree_ends (tree z c) = after_front (horizon_text z) (body_text c) (body_ends c) (body_long c)

  body_long : (c : Body) → body_ends c ≤ length (body_text c)
  body_long stuck = omega arith
  body_long goal = omega arith
  body_long (cases steps end) = after_front (steps_text steps) (ending_text end) (ending_ends end) (ending_long end)

  ending_long : (end : Ending) → ending_ends end ≤ length (ending_text end)
  ending_long empty = omega arith
  ending_long barred = omega arith
  ending_long (next t) = after_front (codes "n\n") (tree_text t) (ends_of t) (tree_ends t)
  ending_long (branch x bs) =
      let h = branches_long bs in
      let l = branch_long (codes "v ") (decimal (x.0 + 1)) (codes "\n") (branches_text bs) (codes ".\n") in
      omega arith

  branches_long : (bs : Branches) → branch_ends bs ≤ length (branches_text bs)
  branches_long no_more = omega arith
  branches_long (piece upto c bs) = case_long (upto_text upto) (case_text c) (branches_text bs) (case_ends c) (branch_ends bs) (one_long c) (branches_long bs)

  one_long : (c : Case) → case_ends c ≤ length (case_text c)
  one_long skip = omega arith
  one_long left_open = omega arith
  one_long (go steps end) = after_front (steps_text steps) (ending_text end) (ending_ends end) (ending_long end)

-- the ends of a tree that was read, after other bytes
pub few_ends : (text line : List ℕ) (ver : Version) (rest more last : List ℕ) (t : Tree) (after : List ℕ) (most : ℕ) → length text ≤ most → text ≡ codes "qcert " ++ rest → codes "qcert " ++ rest ≡ version_text ver ++ more → more ≡ line ++ last → last ≡ tree_text t ++ after → ends_of t ≤ most
few_ends text line ver rest more last t after most h e f g k =
    let l = ap length (e ∙ f) ∙ length-append (version_text ver) more in
    let m = ap length g ∙ length-append line last in
    let n = ap length k ∙ length-append (tree_text t) after in
    let ends = tree_ends t in
    omega arith
