-- What is answered where lines lead to a ledger, against what the definitions say of trees.
use Rattle.std.proofs.Common.{◌≡◌, ◌≤◌, true, List, refl, sym, ◌∙◌, subst, Option, Some, None}
use Rattle.qc_model.specs.Content.{Game}
use Rattle.proof_tree.specs.Tree.{Tree}
use Rattle.proof_tree.specs.InPlace.{root_in_place}
use Rattle.proof_tree.specs.Counts.{depth_of}
use Rattle.proof_tree.specs.declared.line.Line.{Line}
use Rattle.proof_tree.specs.Lines.{tree_lines}
use Rattle.check_lines.specs.declared.answer.Answer.{Answer}
use Rattle.check_lines.specs.Ledger.{Ledger}
use Rattle.check_lines.specs.LedgerHeld.{TellsTree, first_ledger, goes_through}
use Rattle.check_lines.specs.Found.{IsToldBy, Answers, IsAnswer}
use Rattle.check_lines.proofs.LedgerRight.{told, only_told, told_alone}

same_ledger : (d e : Ledger) → ◌≡◌ {A = Option Ledger} (Some d) (Some e) → d ≡ e
same_ledger d e q = cc

answer_of : (g : Game) (t : Tree) (f : Answer) (d : Ledger) → TellsTree g t d → IsToldBy f d → IsAnswer g t f
answer_of g t f d k s = record {
  in_place = k.in_place;
  vector = s.vector;
  verdict = sym k.verdict ∙ s.verdict;
  own = sym s.own ∙ k.own;
  turns = sym s.turns ∙ k.turns;
  has_open = sym s.has_open ∙ k.has_open;
}

module _ (g : Game) where
  pub others : (ls : List Line) (f : Answer) → Answers (Some f) (goes_through g (Some (first_ledger g)) ls) → (t : Tree) × (ls ≡ tree_lines t) × IsAnswer g t f
  others ls f a = let r = only_told g ls a.0 a.1 a.2.ends in (r.0, r.1, answer_of g r.0 f a.0 r.2 a.2)

  pub trees : (t : Tree) (o : Option Answer) → Answers o (goes_through g (Some (first_ledger g)) (tree_lines t)) → depth_of t ≤ 1000 → root_in_place g t ≡ true → (f : Answer) × (o ≡ Some f) × IsAnswer g t f
  trees t None a deep placed = let r = told g t deep placed in absurd (a r.0 r.1 r.2.ends)
  trees t (Some f) a deep placed =
      let r = told g t deep placed in
      let same : r.0 ≡ a.0 = same_ledger r.0 a.0 (sym r.1 ∙ a.1) in
      (f, refl, answer_of g t f a.0 (subst (TellsTree g t) same r.2) a.2)

  pub own : (t : Tree) (f : Answer) → Answers (Some f) (goes_through g (Some (first_ledger g)) (tree_lines t)) → IsAnswer g t f
  own t f a = answer_of g t f a.0 (told_alone g t a.0 a.1) a.2
