-- What was told of a whole text.
use Rattle.std.proofs.Common.{◌≡◌, sym, ap, ◌∙◌, subst, List, [], ◌++◌, ℕ, Bool, false, append_assoc, Option, ℤ}
use Rattle.std.specs.Prelude.{IsTrue, flat_map}
use Rattle.std.specs.List.{list_all}
use Rattle.std.proofs.lemmas.Bool.{and_parts}
use Rattle.std.proofs.lemmas.List.{append-nil}
use Rattle.proof_tree.specs.declared.line.Line.{Line}
use Rattle.proof_tree.specs.declared.tree.Version.{Version}
use Rattle.proof_tree.specs.declared.tree.Outcome.{Outcome}
use Rattle.proof_tree.specs.Lines.{tree_lines}
use Rattle.proof_tree.specs.Text.{version_text, outcome_text, outcome_fits, line_text, tree_fits}
use Rattle.proof_text.specs.LineRanges.{line_fits}
use Rattle.proof_text.specs.Places.{IsText}
use Rattle.proof_text.specs.Standing.{owing, standing}
use Rattle.proof_text.specs.Readings.{Reading, IsGoing}
use Rattle.proof_text.specs.Answers.{Told, nothing, headed, told_text, told_fits, is_nothing, StandsFor, IsTold}
use Rattle.proof_text.proofs.FittingLines.{tree_fitting}
use Rattle.proof_text.proofs.UniqueLines.{lines_one}
use Rattle.proof_text.proofs.UniqueTrees.{digit_one, outcome_one}
use Rattle.proof_text.proofs.Saying.{text_by}
use Rattle.proof_text.proofs.Standings.{tells}

same_told : (x y : Version) (q o : Outcome) (w p : Option ℤ) (ls ms : List Line) → x ≡ y → q ≡ o → w ≡ p → ls ≡ ms → headed x q w ls ≡ headed y o p ms
same_told x y q o w p ls ms a b c d = cc

told_of : (bytes : List ℕ) (told : Told) → IsTrue (told_fits told) → is_nothing told ≡ false → bytes ≡ told_text told → IsText 1000 bytes → IsTold bytes told
told_of bytes nothing f g e t = absurd (cc)
told_of bytes (headed x q w lines) f g e (v, o, p, t, fits, shallow, is) =
    let i = and_parts (outcome_fits q w) (list_all line_fits lines) f in
    let j = and_parts (outcome_fits o p) (tree_fits v t) fits in
    let both : version_text x ++ (outcome_text q w ++ flat_map line_text lines) ≡ version_text v ++ (outcome_text o p ++ flat_map line_text (tree_lines t)) =
    sym (append_assoc (version_text x) (outcome_text q w) (flat_map line_text lines)) ∙ sym e ∙ is ∙ append_assoc (version_text v) (outcome_text o p) (flat_map line_text (tree_lines t)) in
    let d = digit_one x v _ _ both in
    let r = outcome_one q o w p (flat_map line_text lines) (flat_map line_text (tree_lines t)) i.0 j.0 d.1 in
    let s = lines_one lines (tree_lines t) i.1 (tree_fitting v t j.1) r.rest in
    (v, o, p, t, fits, shallow, is, same_told x v q o w p lines (tree_lines t) d.0 r.outcome r.optimum s)

pub told_whole : (old given : Reading) (answer : Bool) → given ≡ old → (IsTrue answer → given.standing ≡ owing []) → (IsTrue answer → (given.in_head ≡ false) × (given.unfinished ≡ [])) → (bytes : List ℕ) (told : Told) → StandsFor old bytes told → IsTrue answer → IsTold bytes told
told_whole old given answer e h between bytes told f ended =
    let g = subst (λ (r : Reading). StandsFor r bytes told) (sym e) f in
    let going : IsGoing given.standing = ([], h ended) in
    let whole = (text_by (standing bytes) bytes (tells bytes)).0 (g.standing ∙ h ended) in
    let text = g.text going ∙ ap (λ (l : List ℕ). told_text told ++ l) (between ended).1 ∙ append-nil (told_text told) in
    told_of bytes told g.fits (sym (g.head going) ∙ (between ended).0) text whole
