-- A text is one certificate's, and none begins another.
use Rattle.std.proofs.Common.{◌≡◌, refl, sym, ap, ◌∙◌, ℕ, Option, List, [], ◌∷◌, ◌++◌}
use Rattle.std.specs.Prelude.{flat_map, IsTrue, ℤ}
use Rattle.std.proofs.lemmas.List.{append-nil}
use Rattle.proof_tree.specs.declared.tree.Outcome.{Outcome}
use Rattle.dense_tree.specs.Tree.{Certificate}
use Rattle.dense_tree.specs.Text.{certificate_text, has_text}
use Rattle.dense_text.specs.declared.piece.Piece.{Piece}
use Rattle.dense_text.specs.declared.parts.Due.TheVariants.{Ended}
use Rattle.dense_text.specs.Pieces.{piece_text, certificate_pieces}
use Rattle.dense_text.specs.Grammar.{Place, at_start, end_open}
use Rattle.dense_text.specs.States.{due, After, state_at}
use Rattle.dense_text.specs.Standing.{Standing, going, no_text, moved, next_standing, standing_from, standing}
use Rattle.dense_text.proofs.Spelled.{certificate_spelled}
use Rattle.dense_text.proofs.Whole.{certificate_comes}
use Rattle.dense_text.proofs.One.{one_certificate}
use Rattle.dense_text.proofs.Letters.{end_read}
use Rattle.dense_text.proofs.PiecesRead.{all_read}

-- all of a text is read
pub text_stands : (outcome : Outcome) (optimum : Option ℤ) (c : Certificate) → IsTrue (has_text outcome optimum c)
    → (n : ℕ) × (standing (certificate_text outcome optimum c) ≡ going (certificate_pieces outcome optimum c) n (due Ended))
text_stands outcome optimum c h =
    let is = certificate_pieces outcome optimum c in
    let w = certificate_comes outcome optimum c h in
    let read = all_read is at_start 0 [] [] w.accepted w.fits in
    let whole : standing (certificate_text outcome optimum c) ≡ standing (flat_map piece_text is ++ []) = ap standing (sym (certificate_spelled outcome optimum c) ∙ sym (append-nil (flat_map piece_text is))) in
    (end_open 0 is, whole ∙ read ∙ ap (λ (p : Place). going is (end_open 0 is) (state_at p)) w.ended)

pub stuck : (bs : List ℕ) → standing_from no_text bs ≡ no_text
stuck [] = refl
stuck (b ∷ bs) = stuck bs

pub append_standing : (s : Standing) (bytes rest : List ℕ) → standing_from s (bytes ++ rest) ≡ standing_from (standing_from s bytes) rest
append_standing s [] rest = refl
append_standing s (c ∷ cs) rest = append_standing (next_standing s c) cs rest

abbrev pub told_of : Standing → List Piece
told_of (going told n s) = told
told_of no_text = []

pub one_text : (p q : Outcome) (v w : Option ℤ) (c d : Certificate) → IsTrue (has_text p v c) → IsTrue (has_text q w d) → certificate_text p v c ≡ certificate_text q w d → (p ≡ q) × (v ≡ w) × (c ≡ d)
one_text p q v w c d f g e = one_certificate p q v w c d f g (sym (ap told_of (text_stands p v c f).1) ∙ ap (λ (u : List ℕ). told_of (standing u)) e ∙ ap told_of (text_stands q w d g).1)

-- nothing comes after the end
pub at_end : (told : List Piece) (n b : ℕ) (bs : List ℕ) → standing_from (going told n (due Ended)) (b ∷ bs) ≡ no_text
at_end told n b bs = ap (λ (x : After). standing_from (moved told n x) bs) (end_read b) ∙ stuck bs

none_after : (told is : List Piece) (n m : ℕ) (rest : List ℕ) → standing_from (going told n (due Ended)) rest ≡ going is m (due Ended) → rest ≡ []
none_after told is n m [] h = refl
none_after told is n m (b ∷ bs) h = let clash : no_text ≡ going is m (due Ended) = sym (at_end told n b bs) ∙ h in absurd (cc)

pub nothing_after : (p q : Outcome) (v w : Option ℤ) (c d : Certificate) (rest : List ℕ) → IsTrue (has_text p v c) → IsTrue (has_text q w d) → certificate_text p v c ++ rest ≡ certificate_text q w d → rest ≡ []
nothing_after p q v w c d rest f g e =
    let r = text_stands p v c f in
    let s = text_stands q w d g in
    none_after (certificate_pieces p v c) (certificate_pieces q w d) r.0 s.0 rest
    (ap (λ (x : Standing). standing_from x rest) (sym r.1) ∙ sym (append_standing (going [] 0 (state_at at_start)) (certificate_text p v c) rest) ∙ ap standing e ∙ s.1)
