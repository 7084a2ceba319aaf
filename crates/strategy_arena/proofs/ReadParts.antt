-- The lines of a branch, as its cases are read.
use Rattle.std.proofs.Common.{◌≡◌, ◌∙◌, sym, ap, List, [], ◌∷◌, ◌++◌, append_assoc, subst, Option, Some}
use Rattle.std.specs.Prelude.{MatchOption}
use Rattle.std.proofs.lemmas.List.{append-nil}
use Rattle.qc_model.specs.declared.problem.VarId.{VarId}
use Rattle.proof_tree.specs.declared.line.Line.{Line}
use Rattle.proof_tree.specs.declared.line.Line.TheVariants.{Dot, Branch as BranchLine}
use Rattle.proof_tree.specs.declared.tree.CaseList.{CaseList}
use Rattle.proof_tree.specs.declared.tree.End.{Branch}
use Rattle.proof_tree.specs.declared.tree.Piece.{Piece}
use Rattle.proof_tree.specs.Lines.{upto_lines, ending_lines, branches_lines, case_lines}
use Rattle.proof_tree.specs.Shape.{ending_of, branches_of, pieces_of, case_of}
use Rattle.proof_tree.proofs.Shapes.{ending_branch}

abbrev piece_lines : Piece → List Line
piece_lines p = upto_lines p.upto ++ case_lines (case_of p.case)

push_lines : (ps : List Piece) (p : Piece) → branches_lines (branches_of (ps ++ p ∷ [])) ≡ branches_lines (branches_of ps) ++ piece_lines p
push_lines [] p = append-nil (piece_lines p)
push_lines (q ∷ ps) p = ap (λ ls. piece_lines q ++ ls) (push_lines ps p) ∙ sym (append_assoc (piece_lines q) (branches_lines (branches_of ps)) (piece_lines p))

-- one case more
pub pushed : (ps all : List Piece) (p : Piece) (old now next : List Line) → all ≡ ps ++ p ∷ [] → branches_lines (branches_of ps) ++ now ≡ old → now ≡ piece_lines p ++ next → branches_lines (branches_of all) ++ next ≡ old
pushed ps all p old now next e h f =
    ap (λ qs. branches_lines (branches_of qs) ++ next) e
    ∙ (ap (λ ls. ls ++ next) (push_lines ps p)
    ∙ (append_assoc (branches_lines (branches_of ps)) (piece_lines p) next ∙ (ap (λ ls. branches_lines (branches_of ps) ++ ls) (sym f) ∙ h)))

pub branch_told : (x : VarId) (list : CaseList) (old rest : List Line) → old ≡ branches_lines (branches_of (pieces_of list)) ++ Dot ∷ rest → BranchLine x ∷ old ≡ ending_lines (ending_of (Branch x list)) ++ rest
branch_told x list old rest e =
    ap (λ ls. BranchLine x ∷ ls) (e ∙ sym (append_assoc (branches_lines (branches_of (pieces_of list))) (Dot ∷ []) rest))
    ∙ ap (λ end. ending_lines end ++ rest) (sym (ending_branch x list))

pub at_some : {X : Type 0} (o : Option X) (x : X) (P : Type 0) (Q : X → Type 0) → o ≡ Some x → MatchOption o P Q → Q x
at_some {X = X} o x P Q e h = subst (λ (p : Option X). MatchOption p P Q) e h
