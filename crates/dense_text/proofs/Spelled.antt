-- The pieces of a certificate spell its text.
use Rattle.std.proofs.Common.{◌≡◌, refl, sym, ap, ◌∙◌, ℕ, Option, List, [], ◌∷◌, ◌++◌, append_assoc}
use Rattle.std.specs.Prelude.{flat_map, codes, ℤ}
use Rattle.std.specs.Fmt.{signed_decimal}
use Rattle.std.proofs.lemmas.Grind.{flat_map-append}
use Rattle.std.proofs.lemmas.List.{append-nil}
use Rattle.proof_tree.specs.declared.tree.Outcome.{Outcome}
use Rattle.proof_tree.specs.Text.{place_text, outcome_text}
use Rattle.dense_tree.specs.Tree.{Certificate}
use Rattle.dense_tree.specs.Lines.{Line, given_line, named_line, horizon_line, stuck_line, goal_line, again_line, no_play_line, close_line, bound_line, reply_line, empty_line, barred_line, best_line, next_line, chosen_line, branch_line, range_line, skip_line, open_line, dot_line, certificate_lines}
use Rattle.dense_tree.specs.Text.{numbers_text, line_text, certificate_text}
use Rattle.dense_text.specs.declared.piece.Tuple.{Tuple}
use Rattle.dense_text.specs.declared.piece.Tuple.TheVariants.{Given as GivenTuple, Reply as ReplyTuple, Chosen as ChosenTuple}
use Rattle.lemma_text.specs.Items.{end_text}
use Rattle.dense_text.specs.Pieces.{piece_text, is_none, value_pieces, line_pieces, certificate_pieces}

values_spelled : (u : Tuple) (vs : List ℤ) → end_text (is_none vs) ++ flat_map piece_text (value_pieces u vs) ≡ numbers_text vs ++ codes "\n"
values_spelled u [] = refl
values_spelled u (v ∷ vs) =
    let text : List ℕ = signed_decimal v in
    let step : (text ++ end_text (is_none vs)) ++ flat_map piece_text (value_pieces u vs) ≡ (text ++ numbers_text vs) ++ codes "\n" =
    append_assoc text (end_text (is_none vs)) (flat_map piece_text (value_pieces u vs)) ∙ ap (λ (w : List ℕ). text ++ w) (values_spelled u vs) ∙ sym (append_assoc text (numbers_text vs) (codes "\n")) in
    ap (λ (w : List ℕ). 32 ∷ w) step

line_spelled : (l : Line) → flat_map piece_text (line_pieces l) ≡ line_text l
line_spelled (given_line k t) =
    ap (λ (w : List ℕ). codes "u " ++ w)
    (append_assoc (place_text k.0) (end_text (is_none t)) (flat_map piece_text (value_pieces GivenTuple t)) ∙ ap (λ (w : List ℕ). place_text k.0 ++ w) (values_spelled GivenTuple t))
line_spelled named_line = refl
line_spelled (horizon_line k) = append-nil (line_text (horizon_line k))
line_spelled stuck_line = refl
line_spelled goal_line = refl
line_spelled (again_line n) = append-nil (line_text (again_line n))
line_spelled (no_play_line k) = append-nil (line_text (no_play_line k))
line_spelled close_line = refl
line_spelled (bound_line x low high) = append-nil (line_text (bound_line x low high))
line_spelled (reply_line t) = ap (λ (w : List ℕ). codes "f" ++ w) (values_spelled ReplyTuple t)
line_spelled empty_line = refl
line_spelled barred_line = refl
line_spelled best_line = refl
line_spelled next_line = refl
line_spelled (chosen_line t) = ap (λ (w : List ℕ). codes "w" ++ w) (values_spelled ChosenTuple t)
line_spelled (branch_line x) = append-nil (line_text (branch_line x))
line_spelled (range_line high) = append-nil (line_text (range_line high))
line_spelled skip_line = refl
line_spelled open_line = refl
line_spelled dot_line = refl

lines_spelled : (ls : List Line) → flat_map piece_text (flat_map line_pieces ls) ≡ flat_map line_text ls
lines_spelled [] = refl
lines_spelled (l ∷ ls) =
    flat_map-append piece_text (line_pieces l) (flat_map line_pieces ls) ∙ ap (λ (w : List ℕ). w ++ flat_map piece_text (flat_map line_pieces ls)) (line_spelled l) ∙ ap (λ (w : List ℕ). line_text l ++ w) (lines_spelled ls)

pub certificate_spelled : (outcome : Outcome) (optimum : Option ℤ) (c : Certificate) → flat_map piece_text (certificate_pieces outcome optimum c) ≡ certificate_text outcome optimum c
certificate_spelled outcome optimum c =
    append_assoc (codes "qcert 4\n") (outcome_text outcome optimum) (flat_map piece_text (flat_map line_pieces (certificate_lines c)))
    ∙ ap (λ (w : List ℕ). codes "qcert 4\n" ++ (outcome_text outcome optimum ++ w)) (lines_spelled (certificate_lines c))
