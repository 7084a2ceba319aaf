-- The lines of a tree, one after the other, are the texts of its parts.
use Rattle.std.proofs.Common.{◌≡◌, refl, sym, ap, ◌∙◌, ℕ, List, [], ◌∷◌, ◌++◌, map, append_assoc, append-nil, Option, Some, None}
use Rattle.std.specs.Prelude.{flat_map, ◌+◌, ℤ, codes}
use Rattle.std.proofs.lemmas.Grind.{flat_map-append}
use Rattle.proof_tree.specs.declared.tree.Horizon.{Horizon}
use Rattle.proof_tree.specs.declared.tree.Step.{Step}
use Rattle.proof_tree.specs.declared.tree.Version.{Version}
use Rattle.proof_tree.specs.declared.tree.Outcome.{Outcome}
use Rattle.proof_tree.specs.declared.line.Line.{Line}
use Rattle.proof_tree.specs.declared.line.Line.TheVariants.{Horizon as HorizonLine, Dot, Branch}
use Rattle.proof_tree.specs.Tree.{Tree, tree, Body, stuck, goal, cases, Ending, empty, barred, next, branch, Branches, no_more, piece, Case, skip, left_open, go}
use Rattle.proof_tree.specs.Lines.{step_line, horizon_lines, upto_lines, tree_lines, body_lines, ending_lines, branches_lines, case_lines}
use Rattle.proof_tree.specs.Text.{line_text, version_text, outcome_text, certificate_text}
use Rattle.proof_text.specs.Parts.{step_text, steps_text, horizon_text, upto_text, tree_text, body_text, ending_text, branches_text, case_text}

abbrev lines_text : List Line → List ℕ
lines_text ls = flat_map line_text ls

steps_told : (steps : List Step) → lines_text (map step_line steps) ≡ steps_text steps
steps_told [] = refl
steps_told (s ∷ steps) = ap (λ (l : List ℕ). step_text s ++ l) (steps_told steps)

-- a line, lines, and a line
between : (first last : Line) (ls : List Line) (text : List ℕ) → lines_text ls ≡ text → lines_text (first ∷ (ls ++ last ∷ [])) ≡ line_text first ++ text ++ line_text last
between first last ls text e =
    ap (λ (l : List ℕ). line_text first ++ l) (flat_map-append line_text ls (last ∷ []) ∙ ap (λ (l : List ℕ). lines_text ls ++ l) (append-nil (line_text last)) ∙ ap (λ (l : List ℕ). l ++ line_text last) e)
    ∙ sym (append_assoc (line_text first) text (line_text last))

two : (ks ls : List Line) (a b : List ℕ) → lines_text ks ≡ a → lines_text ls ≡ b → lines_text (ks ++ ls) ≡ a ++ b
two ks ls a b e f = flat_map-append line_text ks ls ∙ ap (λ (l : List ℕ). l ++ lines_text ls) e ∙ ap (λ (l : List ℕ). a ++ l) f

horizon_told : (z : Option Horizon) → lines_text (horizon_lines z) ≡ horizon_text z
horizon_told None = refl
horizon_told (Some z) = between (HorizonLine (z.scope.0 + 1)) Dot (map step_line z.steps) (steps_text z.steps) (steps_told z.steps)

upto_told : (upto : Option ℤ) → lines_text (upto_lines upto) ≡ upto_text upto
upto_told None = refl
upto_told (Some high) = append-nil (upto_text (Some high))

mutual
  pub tree_told : (t : Tree) → flat_map line_text (tree_lines t) ≡ tree_text t
  tree_told (tree z c) = two (horizon_lines z) (body_lines c) (horizon_text z) (body_text c) (horizon_told z) (body_told c)

  body_told : (c : Body) → lines_text (body_lines c) ≡ body_text c
  body_told stuck = refl
  body_told goal = refl
  body_told (cases steps end) = two (map step_line steps) (ending_lines end) (steps_text steps) (ending_text end) (steps_told steps) (ending_told end)

  ending_told : (end : Ending) → lines_text (ending_lines end) ≡ ending_text end
  ending_told empty = refl
  ending_told barred = refl
  ending_told (next t) = ap (λ (l : List ℕ). 110 ∷ 10 ∷ l) (tree_told t)
  ending_told (branch x bs) = between (Branch x) Dot (branches_lines bs) (branches_text bs) (branches_told bs)

  branches_told : (bs : Branches) → lines_text (branches_lines bs) ≡ branches_text bs
  branches_told no_more = refl
  branches_told (piece upto c bs) =
      two (upto_lines upto ++ case_lines c) (branches_lines bs) (upto_text upto ++ case_text c) (branches_text bs)
      (two (upto_lines upto) (case_lines c) (upto_text upto) (case_text c) (upto_told upto) (case_told c)) (branches_told bs)

  case_told : (c : Case) → lines_text (case_lines c) ≡ case_text c
  case_told skip = refl
  case_told left_open = refl
  case_told (go steps end) = two (map step_line steps) (ending_lines end) (steps_text steps) (ending_text end) (steps_told steps) (ending_told end)

pub certificate_told : (version : Version) (outcome : Outcome) (optimum : Option ℤ) (t : Tree) → certificate_text version outcome optimum t ≡ version_text version ++ (outcome_text outcome optimum ++ tree_text t)
certificate_told version outcome optimum t =
    ap (λ (l : List ℕ). version_text version ++ outcome_text outcome optimum ++ l) (tree_told t) ∙ append_assoc (version_text version) (outcome_text outcome optimum) (tree_text t)

-- a certificate that was read, part after part, to the last byte
pub certificate_read : (version : Version) (outcome : Outcome) (optimum : Option ℤ) (t : Tree) (text a b d e : List ℕ) → text ≡ codes "qcert " ++ a → codes "qcert " ++ a ≡ version_text version ++ b → b ≡ outcome_text outcome optimum ++ d → d ≡ tree_text t ++ e → e ≡ [] →
    text ≡ certificate_text version outcome optimum t
certificate_read version outcome optimum t text a b d e f g h i j =
    f ∙ g ∙ ap (λ (l : List ℕ). version_text version ++ l) (h ∙ ap (λ (l : List ℕ). outcome_text outcome optimum ++ l) (i ∙ ap (λ (l : List ℕ). tree_text t ++ l) j ∙ append-nil (tree_text t)))
    ∙ sym (certificate_told version outcome optimum t)

-- and one that was written
pub certificate_written : (version : Version) (outcome : Outcome) (optimum : Option ℤ) (t : Tree) (a b d e : List ℕ) → a ≡ [] → b ≡ a ++ version_text version → d ≡ b ++ outcome_text outcome optimum → e ≡ d ++ tree_text t → e ≡ certificate_text version outcome optimum t
certificate_written version outcome optimum t a b d e f g h i = rw (i, h, g, f) (append_assoc (version_text version) (outcome_text outcome optimum) (tree_text t) ∙ sym (certificate_told version outcome optimum t))
