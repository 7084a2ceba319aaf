-- The numbers of a piece are read whole.
use Rattle.std.proofs.Common.{◌≡◌, refl, ap, ◌∙◌, ℕ, List, [], ◌∷◌, ◌++◌, Bool, true, false, ◌||◌, cond, append_assoc}
use Rattle.std.specs.Prelude.{ℤ, nat_eq}
use Rattle.std.specs.Fmt.{signed_decimal}
use Rattle.std.proofs.lemmas.Bool.{and_parts}
use Rattle.lemma_text.specs.declared.parts.Field.{Field}
use Rattle.lemma_text.specs.declared.parts.Numeral.TheVariants.{Start}
use Rattle.lemma_text.specs.Numerals.{value_fits, Reading}
use Rattle.lemma_text.specs.Pieces.{all_fit, tied, end_byte}
use Rattle.lemma_text.proofs.NumbersRead.{Runs, number_run}
use Rattle.dense_text.specs.declared.piece.Piece.{Piece}
use Rattle.dense_text.specs.declared.parts.Form.{Form}
use Rattle.dense_text.specs.Forms.{fields, piece_of}
use Rattle.dense_text.specs.States.{lettered, number, whole, wrong, is_end, valued, read_by}
use Rattle.dense_text.specs.Standing.{Standing, going, moved, standing_from}

runs : (told : List Piece) (n : ℕ) (f : Form) (vs : List ℤ) (g : Field) (gs : List Field)
    → Runs Standing g (λ m w. standing_from (going told n (number f vs (g ∷ gs) m)) w) (λ z b w. standing_from (moved told n (valued f (vs ++ z ∷ []) gs b)) w)
runs told n f vs g gs = record {
  more = λ k m b w e. ap (λ (r : Reading). standing_from (moved told n (read_by f vs (g ∷ gs) b r)) w) e;
  ends = λ k z b w e. ap (λ (r : Reading). standing_from (moved told n (read_by f vs (g ∷ gs) b r)) w) e;
}

-- a number and the byte that ends it
number_read : (told : List Piece) (n : ℕ) (f : Form) (vs : List ℤ) (g : Field) (gs : List Field) (z : ℤ) (b : ℕ) (w : List ℕ) → value_fits g z ≡ true → (nat_eq b 32 || nat_eq b 10) ≡ true
    → standing_from (going told n (number f vs (g ∷ gs) Start)) (signed_decimal z ++ b ∷ w) ≡ standing_from (moved told n (valued f (vs ++ z ∷ []) gs b)) w
number_read told n f vs g gs z b w h e = number_run Standing g _ _ (runs told n f vs g gs) z b w h e

ends_number : (last : Bool) → (nat_eq (end_byte last) 32 || nat_eq (end_byte last) 10) ≡ true
ends_number true = refl
ends_number false = refl

-- the values of so many fields
pub values_read : (told : List Piece) (n : ℕ) (f : Form) (vs : List ℤ) (g : Field) (gs : List Field) (w : ℤ) (ws : List ℤ) (last : Bool) (rest : List ℕ) → all_fit (g ∷ gs) (w ∷ ws) ≡ true
    → standing_from (going told n (number f vs (g ∷ gs) Start)) (tied (w ∷ ws) (end_byte last) ++ rest) ≡ standing_from (moved told n (valued f (vs ++ w ∷ ws) [] (end_byte last))) rest
values_read told n f vs g [] w [] last rest h =
    let q = and_parts (value_fits g w) true h in
    ap (standing_from (going told n (number f vs (g ∷ []) Start))) (append_assoc (signed_decimal w) (end_byte last ∷ []) rest) ∙ number_read told n f vs g [] w (end_byte last) rest q.0 (ends_number last)
values_read told n f vs g [] w (x ∷ xs) last rest h = let q = and_parts (value_fits g w) (all_fit [] (x ∷ xs)) h in let r = q.1 in absurd (cc)
values_read told n f vs g (k ∷ ks) w [] last rest h = let q = and_parts (value_fits g w) (all_fit (k ∷ ks) []) h in let r = q.1 in absurd (cc)
values_read told n f vs g (k ∷ ks) w (x ∷ xs) last rest h =
    let q = and_parts (value_fits g w) (all_fit (k ∷ ks) (x ∷ xs)) h in
    ap (standing_from (going told n (number f vs (g ∷ k ∷ ks) Start))) (append_assoc (signed_decimal w) (32 ∷ tied (x ∷ xs) (end_byte last)) rest)
    ∙ number_read told n f vs g (k ∷ ks) w 32 (tied (x ∷ xs) (end_byte last) ++ rest) q.0 refl
    ∙ values_read told n f (vs ++ w ∷ []) k ks x xs last rest q.1
    ∙ ap (λ (us : List ℤ). standing_from (moved told n (valued f us [] (end_byte last))) rest) (append_assoc vs (w ∷ []) (x ∷ xs))

end_is : (last : Bool) → nat_eq (end_byte last) 10 ≡ last
end_is true = refl
end_is false = refl

-- and the byte after them
pub ended_read : (told : List Piece) (n : ℕ) (f : Form) (ws : List ℤ) (last : Bool) (rest : List ℕ) → is_end f (end_byte last) ≡ true
    → standing_from (moved told n (valued f ws [] (end_byte last))) rest ≡ standing_from (moved told n (whole (piece_of f ws last))) rest
ended_read told n f ws last rest h =
    ap (λ (t : Bool). standing_from (moved told n (cond t (whole (piece_of f ws (nat_eq (end_byte last) 10))) wrong)) rest) h
    ∙ ap (λ (t : Bool). standing_from (moved told n (whole (piece_of f ws t))) rest) (end_is last)

-- what comes after a letter
abbrev pub after_stem : List ℤ → ℕ → List ℕ
after_stem [] e = e ∷ []
after_stem (w ∷ ws) e = 32 ∷ tied (w ∷ ws) e

by_fields : (told : List Piece) (n : ℕ) (f : Form) (gs : List Field) (ws : List ℤ) (last : Bool) (rest : List ℕ) → fields f ≡ gs → all_fit gs ws ≡ true → is_end f (end_byte last) ≡ true
    → standing_from (going told n (lettered f)) (after_stem ws (end_byte last) ++ rest) ≡ standing_from (moved told n (whole (piece_of f ws last))) rest
by_fields told n f [] [] last rest g h e =
    ap (λ (gs : List Field). standing_from (moved told n (valued f [] gs (end_byte last))) rest) g ∙ ended_read told n f [] last rest e
by_fields told n f [] (w ∷ ws) last rest g h e = absurd (cc)
by_fields told n f (k ∷ ks) [] last rest g h e = absurd (cc)
by_fields told n f (k ∷ ks) (w ∷ ws) last rest g h e =
    ap (λ (gs : List Field). standing_from (moved told n (valued f [] gs 32)) (tied (w ∷ ws) (end_byte last) ++ rest)) g
    ∙ values_read told n f [] k ks w ws last rest h ∙ ended_read told n f (w ∷ ws) last rest e

pub lettered_read : (told : List Piece) (n : ℕ) (f : Form) (ws : List ℤ) (last : Bool) (rest : List ℕ) → all_fit (fields f) ws ≡ true → is_end f (end_byte last) ≡ true
    → standing_from (going told n (lettered f)) (after_stem ws (end_byte last) ++ rest) ≡ standing_from (moved told n (whole (piece_of f ws last))) rest
lettered_read told n f ws last rest h e = by_fields told n f (fields f) ws last rest refl h e
