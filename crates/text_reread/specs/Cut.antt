-- A text that is put together from chunks is cut into them again.
use Rattle.std.specs.Prelude.{◌≡◌, IsTrue, List, ◌∷◌, ◌++◌, length, None}
use Rattle.std.specs.List.{list_all}
use Rattle.qc_tokens.specs.declared.token.Sort.{Sort}
use Rattle.qc_tokens.specs.Tokens.{tokens_of, first_bad_byte, first_bad_number, token_bytes}
use Rattle.text_reread.specs.Chunks.{Chunk, chunk_text, chunks_text, token_from, tokens_from, is_chunk, are_apart}

-- the text's tokens are those of its chunks, and nothing in it is refused
pub record IsCutAsChunks (cs : List Chunk) : Type 0 where
  pub tokens : tokens_of (chunks_text cs) ≡ tokens_from 0 cs
  pub no_bad_byte : first_bad_byte (chunks_text cs) ≡ None
  pub no_bad_number : first_bad_number (chunks_text cs) ≡ None

-- so it is where each chunk is one, and no word or number stands right behind another
abbrev pub ChunksAreCut : Type 0
ChunksAreCut = (cs : List Chunk) → IsTrue (list_all is_chunk cs) → IsTrue (are_apart cs) → IsCutAsChunks cs

-- a token at a chunk's place that is as long as it stands for the chunk's bytes
abbrev pub TokensStandForChunks : Type 0
TokensStandForChunks =
    (cs before : List Chunk) (c : Chunk) (after : List Chunk) (sort : Sort) → cs ≡ before ++ c ∷ after
    → token_bytes (chunks_text cs) (token_from (length (chunks_text before)) (length (chunk_text c)) sort) ≡ chunk_text c
