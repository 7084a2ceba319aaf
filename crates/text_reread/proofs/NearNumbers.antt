-- No number of a valid problem's text is too far from 0.
use Rattle.std.proofs.Common.{◌≡◌, refl, ap, ◌+◌, ℕ, true, List, [], ◌∷◌, length, cond, Option, Some, None}
use Rattle.std.specs.List.{list_all}
use Rattle.std.specs.Fmt.{signed_decimal}
use Rattle.std.proofs.lemmas.Bool.{and_parts}
use Rattle.qc_tokens.specs.declared.token.Sort.TheVariants.{Number}
use Rattle.qc_tokens.specs.declared.token.Token.{Token}
use Rattle.text_resolve.specs.Numbers.{far_number, first_far}
use Rattle.text_reread.specs.Chunks.{Chunk, word, figure, sign, dots, blank, chunk_text, token_from, tokens_from, is_chunk}
use Rattle.text_reread.specs.Spelled.{problem_chunks}
use Rattle.text_reread.specs.Items.{NumbersAreNear}
use Rattle.text_reread.proofs.RunsApart.{spelled_right}

-- a token that isn't far is passed by
first_past : (t : Token) (ts : List Token) → far_number t ≡ None → first_far ts ≡ None → first_far (t ∷ ts) ≡ None
first_past t ts h k = by (far_number t) h
  where
    by : (o : Option ℕ) → o ≡ None → ◌≡◌ {A = Option ℕ} (elim o [ None ↦ first_far ts | Some at ↦ Some at ]) None
    by None e = k
    by (Some at) e = e

-- the numbers of chunks are near, wherever they begin
none_far : (at : ℕ) (cs : List Chunk) → list_all is_chunk cs ≡ true → first_far (tokens_from at cs) ≡ None
none_far at [] h = refl
none_far at (c ∷ cs) h = by c k.0 (none_far (at + length (chunk_text c)) cs k.1)
  where
    k : (is_chunk c ≡ true) × (list_all is_chunk cs ≡ true)
    k = and_parts (is_chunk c) (list_all is_chunk cs) h

    by : (c : Chunk) → is_chunk c ≡ true → first_far (tokens_from (at + length (chunk_text c)) cs) ≡ None → first_far (tokens_from at (c ∷ cs)) ≡ None
    by (word bs) t e = e
    by (figure z) t e =
        let token = token_from at (length (signed_decimal z)) (Number z) in
        first_past token (tokens_from (at + length (signed_decimal z)) cs) (ap (λ b. cond b None (Some at)) t) e
    by (sign b) t e = e
    by dots t e = e
    by (blank b) t e = e

-- so no number of a valid problem's text is far
pub numbers_are_near : NumbersAreNear
numbers_are_near g v = none_far 0 (problem_chunks g) (spelled_right g v).chunks
