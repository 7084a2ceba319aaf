-- Texts that are put together from the texts of tokens and blanks.
use Rattle.std.specs.Prelude.{◌+◌, ℕ, Bool, true, false, not, ◌&&◌, List, [], ◌∷◌, ◌++◌, length, flat_map, ℤ}
use Rattle.std.specs.Fmt.{signed_decimal}
use Rattle.qc_model.specs.Names.{is_word}
use Rattle.qc_model.specs.Valid.{is_number}
use Rattle.qc_tokens.specs.declared.token.Token.{Token}
use Rattle.qc_tokens.specs.declared.token.Sort.{Sort}
use Rattle.qc_tokens.specs.declared.token.Sort.TheVariants.{Word, Number, Sign}
use Rattle.qc_tokens.specs.Tokens.{is_blank, is_sign}

pub data Chunk : Type 0 where
  word : List ℕ → Chunk
  figure : ℤ → Chunk
  sign : ℕ → Chunk
  dots : Chunk
  blank : ℕ → Chunk

abbrev pub chunk_text : Chunk → List ℕ
chunk_text (word bs) = bs
chunk_text (figure z) = signed_decimal z
chunk_text (sign b) = b ∷ []
chunk_text dots = 46 ∷ 46 ∷ []
chunk_text (blank b) = b ∷ []

abbrev pub chunks_text : List Chunk → List ℕ
chunks_text cs = flat_map chunk_text cs

abbrev pub token_from : ℕ → ℕ → Sort → Token
token_from at size sort = record { start = at; end = at + size; sort = sort }

-- the token of a chunk at a place; a blank has none
abbrev pub chunk_tokens : ℕ → Chunk → List Token
chunk_tokens at (word bs) = token_from at (length bs) Word ∷ []
chunk_tokens at (figure z) = token_from at (length (signed_decimal z)) (Number z) ∷ []
chunk_tokens at (sign b) = token_from at 1 (Sign b) ∷ []
chunk_tokens at dots = token_from at 2 (Sign 46) ∷ []
chunk_tokens at (blank b) = []

abbrev pub tokens_from : ℕ → List Chunk → List Token
tokens_from at [] = []
tokens_from at (c ∷ cs) = chunk_tokens at c ++ tokens_from (at + length (chunk_text c)) cs

abbrev pub is_chunk : Chunk → Bool
is_chunk (word bs) = is_word bs
is_chunk (figure z) = is_number z
is_chunk (sign b) = is_sign b
is_chunk dots = true
is_chunk (blank b) = is_blank b

-- words and numbers, which go on as long as letters and digits follow
abbrev pub is_run : Chunk → Bool
is_run (word bs) = true
is_run (figure z) = true
is_run (sign b) = false
is_run dots = false
is_run (blank b) = false

-- no two of these stand side by side
abbrev pub are_apart : List Chunk → Bool
are_apart [] = true
are_apart (c ∷ []) = true
are_apart (c ∷ d ∷ cs) = not (is_run c && is_run d) && are_apart (d ∷ cs)
