-- A text that is put together from chunks is cut into them again.
use Rattle.std.proofs.Common.{◌≡◌, ◌==◌, ◌+◌, ◌-◌, ◌&&◌, ◌||◌, ◌++◌, ℕ, suc, arith, refl, sym, ap, ◌∙◌, subst, Bool, true, false, not, List, [], ◌∷◌, length, drop, take, Option, Some, None, eqb-true}
use Rattle.std.specs.Prelude.{ℤ}
use Rattle.std.specs.Char.{is_ascii_digit}
use Rattle.std.specs.List.{list_all, prefix_len, take_while, filter_map, cons_option}
use Rattle.std.specs.Fmt.{signed_decimal}
use Rattle.std.proofs.Math.Seq.{take-append_seam, drop-append_seam}
use Rattle.std.proofs.lemmas.Bool.{and_parts}
use Rattle.std.proofs.lemmas.Grind.{flat_map-append}
use Rattle.qc_model.specs.Names.{is_first_byte, is_word_byte}
use Rattle.qc_tokens.specs.declared.token.Sort.{Sort}
use Rattle.qc_tokens.specs.declared.token.Sort.TheVariants.{Word, Number, Sign}
use Rattle.qc_tokens.specs.declared.token.Token.{Token}
use Rattle.qc_tokens.specs.Tokens.{Placed, placed, is_blank, is_sign, begins_with, begins_number, number_of, number_piece, first_cut, pieces, token_of, bad_byte_at, bad_number_at, first_of, word as word_of, number as number_at, tokens_from as tokens_of_text_from, bad_byte_from, bad_number_from, token_bytes}
use Rattle.text_reread.specs.Chunks.{Chunk, word, figure, sign, dots, blank, chunk_text, chunks_text, token_from, chunk_tokens, tokens_from, is_chunk, is_run, are_apart}
use Rattle.text_reread.specs.Cut.{ChunksAreCut, TokensStandForChunks}
use Rattle.text_reread.proofs.CutBytes.{differs, digit_no_first, sign_ends_word, blank_ends_word, sign_no_blank, first_no_blank, first_no_sign, digit_no_blank, digit_no_sign}
use Rattle.text_reread.proofs.CutFigures.{is_figure}

-- a run of bytes that pass ends where one follows that fails
run_length : (p : ℕ → Bool) (bs rest : List ℕ) → list_all p bs ≡ true → begins_with p rest ≡ false → prefix_len p (bs ++ rest) ≡ length bs
run_length p [] [] h e = refl
run_length p [] (c ∷ cs) h e = rw e refl
run_length p (b ∷ bs) rest h e =
    let k = and_parts (p b) (list_all p bs) h in
    let more : 1 + length bs ≡ suc (length bs) = omega arith in
    rw (k.0, run_length p bs rest k.1 e) more

-- so just that run is taken
run_taken : (p : ℕ → Bool) (bs rest : List ℕ) → list_all p bs ≡ true → begins_with p rest ≡ false → take_while p (bs ++ rest) ≡ bs
run_taken p bs rest h e = ap (λ n. take n (bs ++ rest)) (run_length p bs rest h e) ∙ take-append_seam bs rest

-- bytes that belong to the piece before are passed over
passed_over : (at : ℕ) (bs rest : List ℕ) → pieces at (length bs) (bs ++ rest) ≡ pieces (at + length bs) 0 rest
unfolding pieces
passed_over at [] rest = let same : at ≡ at + 0 = omega arith in ap (λ n. pieces n 0 rest) same
passed_over at (b ∷ bs) rest =
    let same : suc at + length bs ≡ at + suc (length bs) = omega arith in
    passed_over (suc at) bs rest ∙ ap (λ n. pieces n 0 rest) same

-- a run is cut off whole, and is this token or none; it isn't bad
record CutOff (at : ℕ) (run rest : List ℕ) (t : Option Token) : Type 0 where
  first : Placed
  is : pieces at 0 (run ++ rest) ≡ first ∷ pieces (at + length run) 0 rest
  token : token_of first ≡ t
  no_bad_byte : bad_byte_at first ≡ None
  no_bad_number : bad_number_at first ≡ None

-- a first byte and as many as its cut says more are cut off, and the rest is cut on
cut_off : (at b : ℕ) (bs rest : List ℕ) → (first_cut b (bs ++ rest)).more ≡ length bs → pieces at 0 (b ∷ bs ++ rest) ≡ placed at (first_cut b (bs ++ rest)) ∷ pieces (at + length (b ∷ bs)) 0 rest
unfolding pieces
cut_off at b bs rest more =
    let same : suc at + length bs ≡ at + length (b ∷ bs) = omega arith in
    ap (λ ps. placed at (first_cut b (bs ++ rest)) ∷ ps)
    (ap (λ m. pieces (suc at) m (bs ++ rest)) more ∙ passed_over (suc at) bs rest ∙ ap (λ n. pieces n 0 rest) same)

-- the end of a token of a first byte and others
end_is : (at b : ℕ) (bs : List ℕ) (sort : Sort) → Some (record { start = at; end = at + 1 + length bs; sort = sort }) ≡ Some (token_from at (length (b ∷ bs)) sort)
end_is at b bs sort = let same : at + 1 + length bs ≡ at + length (b ∷ bs) = omega arith in ap (λ n. Some (record { start = at; end = n; sort = sort })) same

-- how each kind of chunk is cut off

-- a letter or an underscore begins a word
word_first : (b : ℕ) (cs : List ℕ) → is_first_byte b ≡ true → first_cut b cs ≡ word_of cs
unfolding first_cut
word_first b cs first = rw (first_no_blank b first, differs is_first_byte b 37 first refl, first_no_sign b first, differs is_first_byte b 46 first refl, first) refl

-- a word is a token, where no letter, digit or underscore follows it
cut_word : (at b : ℕ) (bs rest : List ℕ) → is_first_byte b ≡ true → list_all is_word_byte bs ≡ true → begins_with is_word_byte rest ≡ false → CutOff at (b ∷ bs) rest (Some (token_from at (length (b ∷ bs)) Word))
cut_word at b bs rest first later ends =
    let cut = word_first b (bs ++ rest) first in
    let size = run_length is_word_byte bs rest later ends in
    record {
      first = placed at (first_cut b (bs ++ rest));
      is = cut_off at b bs rest (ap (λ c. c.more) cut ∙ size);
      token = ap (λ c. token_of (placed at c)) cut ∙ ap (λ m. Some (record { start = at; end = at + 1 + m; sort = Word })) size ∙ end_is at b bs Word;
      no_bad_byte = ap (λ c. bad_byte_at (placed at c)) cut;
      no_bad_number = ap (λ c. bad_number_at (placed at c)) cut;
    }

-- a sign is a token of one byte
cut_sign : (at b : ℕ) (rest : List ℕ) → is_sign b ≡ true → CutOff at (b ∷ []) rest (Some (token_from at 1 (Sign b)))
unfolding first_cut
cut_sign at b rest h =
    let not_blank = sign_no_blank b h in
    let no_comment = differs is_sign b 37 h refl in
    record {
      first = placed at (first_cut b rest);
      is = cut_off at b [] rest (rw (not_blank, no_comment, h) refl);
      token = rw (not_blank, no_comment, h) (end_is at b [] (Sign b));
      no_bad_byte = rw (not_blank, no_comment, h) refl;
      no_bad_number = rw (not_blank, no_comment, h) refl;
    }

-- a blank is no token
cut_blank : (at b : ℕ) (rest : List ℕ) → is_blank b ≡ true → CutOff at (b ∷ []) rest None
unfolding first_cut
cut_blank at b rest h = record {
  first = placed at (first_cut b rest);
  is = cut_off at b [] rest (rw h refl);
  token = rw h refl;
  no_bad_byte = rw h refl;
  no_bad_number = rw h refl;
}

-- two dots are one token
cut_dots : (at : ℕ) (rest : List ℕ) → CutOff at (46 ∷ 46 ∷ []) rest (Some (token_from at 2 (Sign 46)))
unfolding first_cut
cut_dots at rest = record {
  first = placed at (first_cut 46 (46 ∷ rest));
  is = cut_off at 46 (46 ∷ []) rest refl;
  token = end_is at 46 (46 ∷ []) (Sign 46);
  no_bad_byte = refl;
  no_bad_number = refl;
}

-- a digit or a minus begins no blank, comment, sign, dots or word
record BeginsNothingElse (b : ℕ) : Type 0 where
  no_blank : is_blank b ≡ false
  no_comment : (b == 37) ≡ false
  no_sign : is_sign b ≡ false
  no_dot : (b == 46) ≡ false
  no_word : is_first_byte b ≡ false

begins_nothing_else : (b : ℕ) → (is_ascii_digit b || b == 45) ≡ true → BeginsNothingElse b
begins_nothing_else b h = by (is_ascii_digit b) (b == 45) refl refl h
  where
    by : (s t : Bool) → is_ascii_digit b ≡ s → (b == 45) ≡ t → (s || t) ≡ true → BeginsNothingElse b
    by true t e f h = record { no_blank = digit_no_blank b e; no_comment = differs is_ascii_digit b 37 e refl; no_sign = digit_no_sign b e; no_dot = differs is_ascii_digit b 46 e refl; no_word = digit_no_first b e }
    by false true e f h = subst BeginsNothingElse (sym (eqb-true b 45 f)) (record { no_blank = refl; no_comment = refl; no_sign = refl; no_dot = refl; no_word = refl })
    by false false e f h = absurd cc

-- a byte that begins a number and nothing else is cut as one
number_first : (b : ℕ) (cs : List ℕ) → BeginsNothingElse b → begins_number b cs ≡ true → first_cut b cs ≡ number_at b cs
unfolding first_cut
number_first b cs n h = rw (n.no_blank, n.no_comment, n.no_sign, n.no_dot, n.no_word, h) refl

-- a number is a token with its value, where no letter, digit or underscore follows it
cut_number : (at b : ℕ) (bs rest : List ℕ) (z : ℤ) → (is_ascii_digit b || b == 45) ≡ true → begins_number b (bs ++ rest) ≡ true → list_all is_word_byte bs ≡ true → number_of b bs ≡ Some z → begins_with is_word_byte rest ≡ false → CutOff at (b ∷ bs) rest (Some (token_from at (length (b ∷ bs)) (Number z)))
cut_number at b bs rest z first begins later value ends =
    let cut = number_first b (bs ++ rest) (begins_nothing_else b first) begins in
    let size = run_length is_word_byte bs rest later ends in
    let number : number_of b (take_while is_word_byte (bs ++ rest)) ≡ Some z = ap (number_of b) (run_taken is_word_byte bs rest later ends) ∙ value in
    record {
      first = placed at (first_cut b (bs ++ rest));
      is = cut_off at b bs rest (ap (λ c. c.more) cut ∙ size);
      token =
          ap (λ c. token_of (placed at c)) cut
          ∙ ap (λ n. token_of (record { start = at; end = at + 1 + prefix_len is_word_byte (bs ++ rest); piece = number_piece n })) number
          ∙ ap (λ m. Some (record { start = at; end = at + 1 + m; sort = Number z })) size
          ∙ end_is at b bs (Number z);
      no_bad_byte =
          ap (λ c. bad_byte_at (placed at c)) cut
          ∙ ap (λ n. bad_byte_at (record { start = at; end = at + 1 + prefix_len is_word_byte (bs ++ rest); piece = number_piece n })) number;
      no_bad_number =
          ap (λ c. bad_number_at (placed at c)) cut
          ∙ ap (λ n. bad_number_at (record { start = at; end = at + 1 + prefix_len is_word_byte (bs ++ rest); piece = number_piece n })) number;
    }

-- the token of a chunk at a place, if it has one
abbrev chunk_token : ℕ → Chunk → Option Token
chunk_token at (word bs) = Some (token_from at (length bs) Word)
chunk_token at (figure z) = Some (token_from at (length (signed_decimal z)) (Number z))
chunk_token at (sign b) = Some (token_from at 1 (Sign b))
chunk_token at dots = Some (token_from at 2 (Sign 46))
chunk_token at (blank b) = None

-- a run is cut off whole where what follows doesn't go on with it; other chunks are cut off whole anyway
cut_chunk : (at : ℕ) (c : Chunk) (rest : List ℕ) → is_chunk c ≡ true → (is_run c ≡ true → begins_with is_word_byte rest ≡ false) → CutOff at (chunk_text c) rest (chunk_token at c)
cut_chunk at (word []) rest h ends = absurd cc
cut_chunk at (word (b ∷ bs)) rest h ends =
    let k = and_parts (is_first_byte b) (list_all is_word_byte bs) h in
    cut_word at b bs rest k.0 k.1 (ends refl)
cut_chunk at (figure z) rest h ends =
    let f = is_figure z h in
    subst (λ run. CutOff at run rest (Some (token_from at (length run) (Number z)))) (sym f.is)
    (cut_number at f.first f.later rest z f.digit_or_minus (f.begins rest) f.in_word f.value (ends refl))
cut_chunk at (sign b) rest h ends = cut_sign at b rest h
cut_chunk at dots rest h ends = cut_dots at rest
cut_chunk at (blank b) rest h ends = cut_blank at b rest h

-- what is no run doesn't go on with one
ends_run : (c : Chunk) (rest : List ℕ) → is_chunk c ≡ true → is_run c ≡ false → begins_with is_word_byte (chunk_text c ++ rest) ≡ false
ends_run (word bs) rest h e = absurd cc
ends_run (figure z) rest h e = absurd cc
ends_run (sign b) rest h e = sign_ends_word b h
ends_run dots rest h e = refl
ends_run (blank b) rest h e = blank_ends_word b h

-- a word or a number isn't gone on with by the chunks behind it, where they stand apart
next_ends_run : (c : Chunk) (cs : List Chunk) → list_all is_chunk cs ≡ true → are_apart (c ∷ cs) ≡ true → is_run c ≡ true → begins_with is_word_byte (chunks_text cs) ≡ false
next_ends_run c [] h apart run = refl
next_ends_run c (d ∷ ds) h apart run =
    let k = and_parts (is_chunk d) (list_all is_chunk ds) h in
    let two = and_parts (not (is_run c && is_run d)) (are_apart (d ∷ ds)) apart in
    ends_run d (chunks_text ds) k.0 (by (is_run c) (is_run d) run two.0)
  where
    by : (s t : Bool) → s ≡ true → not (s && t) ≡ true → t ≡ false
    by true true e f = absurd cc
    by true false e f = refl
    by false t e f = absurd cc

-- chunks stand apart without the first one too
later_apart : (c : Chunk) (cs : List Chunk) → are_apart (c ∷ cs) ≡ true → are_apart cs ≡ true
later_apart c [] h = refl
later_apart c (d ∷ ds) h = (and_parts (not (is_run c && is_run d)) (are_apart (d ∷ ds)) h).1

-- a chunk's token before others, said in two ways
token_and_more : (at : ℕ) (c : Chunk) (ts : List Token) → cons_option (chunk_token at c) ts ≡ chunk_tokens at c ++ ts
token_and_more at (word bs) ts = refl
token_and_more at (figure z) ts = refl
token_and_more at (sign b) ts = refl
token_and_more at dots ts = refl
token_and_more at (blank b) ts = refl

-- a text of chunks, wherever it begins
pub record CutFrom (at : ℕ) (cs : List Chunk) : Type 0 where
  pub tokens : filter_map token_of (pieces at 0 (chunks_text cs)) ≡ tokens_from at cs
  pub no_bad_byte : filter_map bad_byte_at (pieces at 0 (chunks_text cs)) ≡ []
  pub no_bad_number : filter_map bad_number_at (pieces at 0 (chunks_text cs)) ≡ []

-- one more chunk, in front
one_more : (at : ℕ) (c : Chunk) (cs : List Chunk) → CutOff at (chunk_text c) (chunks_text cs) (chunk_token at c) → CutFrom (at + length (chunk_text c)) cs → CutFrom at (c ∷ cs)
one_more at c cs f later =
    let next = at + length (chunk_text c) in
    record {
      tokens =
          ap (filter_map token_of) f.is
          ∙ ap (λ t. cons_option t (filter_map token_of (pieces next 0 (chunks_text cs)))) f.token
          ∙ ap (cons_option (chunk_token at c)) later.tokens
          ∙ token_and_more at c (tokens_from next cs);
      no_bad_byte =
          ap (filter_map bad_byte_at) f.is
          ∙ ap (λ t. cons_option t (filter_map bad_byte_at (pieces next 0 (chunks_text cs)))) f.no_bad_byte
          ∙ later.no_bad_byte;
      no_bad_number =
          ap (filter_map bad_number_at) f.is
          ∙ ap (λ t. cons_option t (filter_map bad_number_at (pieces next 0 (chunks_text cs)))) f.no_bad_number
          ∙ later.no_bad_number;
    }

-- chunks that stand apart are cut into their tokens, and none of them is bad
pub cut_from : (at : ℕ) (cs : List Chunk) → list_all is_chunk cs ≡ true → are_apart cs ≡ true → CutFrom at cs
unfolding pieces
cut_from at [] h apart = record { tokens = refl; no_bad_byte = refl; no_bad_number = refl }
cut_from at (c ∷ cs) h apart =
    let k = and_parts (is_chunk c) (list_all is_chunk cs) h in
    one_more at c cs (cut_chunk at c (chunks_text cs) k.0 (next_ends_run c cs k.1 apart)) (cut_from (at + length (chunk_text c)) cs k.1 (later_apart c cs apart))

-- a text of chunks has their tokens, and nothing in it is refused
pub chunks_are_cut : ChunksAreCut
unfolding tokens_of_text_from bad_byte_from bad_number_from
chunks_are_cut cs h apart =
    let f = cut_from 0 cs h apart in
    record { tokens = f.tokens; no_bad_byte = ap first_of f.no_bad_byte; no_bad_number = ap first_of f.no_bad_number }

-- a token in place of a chunk stands for the chunk's bytes
pub tokens_stand_for_chunks : TokensStandForChunks
tokens_stand_for_chunks cs before c after sort e =
    let text : chunks_text cs ≡ chunks_text before ++ (chunk_text c ++ chunks_text after) = ap chunks_text e ∙ flat_map-append chunk_text before (c ∷ after) in
    let size : length (chunks_text before) + length (chunk_text c) - length (chunks_text before) ≡ length (chunk_text c) = omega arith in
    ap (λ n. take n (drop (length (chunks_text before)) (chunks_text cs))) size
    ∙ ap (λ t. take (length (chunk_text c)) (drop (length (chunks_text before)) t)) text
    ∙ ap (take (length (chunk_text c))) (drop-append_seam (chunks_text before) (chunk_text c ++ chunks_text after))
    ∙ take-append_seam (chunk_text c) (chunks_text after)

-- a word's token in place stands for the word
pub word_stands : (cs before : List Chunk) (bs : List ℕ) (after : List Chunk) → cs ≡ before ++ word bs ∷ after → token_bytes (chunks_text cs) (token_from (length (chunks_text before)) (length bs) Word) ≡ bs
word_stands cs before bs after e = tokens_stand_for_chunks cs before (word bs) after Word e
