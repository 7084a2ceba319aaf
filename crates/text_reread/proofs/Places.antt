-- Where the chunks of a text lie, and the lexemes that they make there.
use Rattle.std.proofs.Common.{◌≡◌, refl, sym, ap, ◌∙◌, subst, ◌+◌, ◌-◌, ℕ, List, [], ◌∷◌, ◌++◌, length, take, drop, append_assoc, append-nil, arith, length-append}
use Rattle.std.specs.Prelude.{ℤ, ⊤}
use Rattle.std.proofs.Math.Seq.{take-append_seam, drop-append_seam}
use Rattle.text_grammar.specs.declared.tree.Word.{Word}
use Rattle.text_grammar.specs.declared.tree.Number.{Number as Figure}
use Rattle.text_grammar.specs.declared.lexeme.Lexeme.{Lexeme}
use Rattle.text_grammar.specs.declared.lexeme.Lexeme.TheVariants.{Number, Dots}
use Rattle.text_grammar.specs.Lexemes.{word_lexeme, sign_lexeme, lexemes_of}
use Rattle.text_reread.specs.Chunks.{Chunk, word, figure, sign, dots, blank, chunk_text, chunks_text, tokens_from}

-- these bytes lie in the text at this place
abbrev pub Lies : List ℕ → ℕ → List ℕ → Type 0
Lies text at bs = take (at + length bs - at) (drop at text) ≡ bs

-- these chunks lie there, one behind another
abbrev pub AllLie : List ℕ → ℕ → List Chunk → Type 0
AllLie text at [] = ⊤
AllLie text at (c ∷ cs) = Lies text at (chunk_text c) × AllLie text (at + length (chunk_text c)) cs

-- the place behind them
abbrev pub place_after : ℕ → List Chunk → ℕ
place_after at [] = at
place_after at (c ∷ cs) = place_after (at + length (chunk_text c)) cs

-- bytes lie behind those before them
lies : (text before bs after : List ℕ) → text ≡ before ++ (bs ++ after) → Lies text (length before) bs
lies text before bs after e =
    let size : length before + length bs - length before ≡ length bs = omega arith in
    ap (λ n. take n (drop (length before) text)) size
    ∙ ap (λ t. take (length bs) (drop (length before) t)) e
    ∙ ap (take (length bs)) (drop-append_seam before (bs ++ after))
    ∙ take-append_seam bs after

-- chunks lie behind what is before them
lie_behind : (text before : List ℕ) (cs : List Chunk) (after : List ℕ) → text ≡ before ++ (chunks_text cs ++ after) → AllLie text (length before) cs
lie_behind text before [] after e = tt
lie_behind text before (c ∷ cs) after e =
    let inner : text ≡ before ++ (chunk_text c ++ (chunks_text cs ++ after)) = e ∙ ap (λ t. before ++ t) (append_assoc (chunk_text c) (chunks_text cs) after) in
    let later = lie_behind text (before ++ chunk_text c) cs after (inner ∙ sym (append_assoc before (chunk_text c) (chunks_text cs ++ after))) in
    (lies text before (chunk_text c) (chunks_text cs ++ after) inner, subst (λ n. AllLie text n cs) (length-append before (chunk_text c)) later)

-- the chunks of a text lie in it
pub all_lie : (text : List ℕ) (cs : List Chunk) → text ≡ chunks_text cs → AllLie text 0 cs
all_lie text cs e = lie_behind text [] cs [] (e ∙ sym (append-nil (chunks_text cs)))

-- of chunks behind one another, the first ..
pub lie_first : (text : List ℕ) (at : ℕ) (cs ds : List Chunk) → AllLie text at (cs ++ ds) → AllLie text at cs
lie_first text at [] ds h = tt
lie_first text at (c ∷ cs) ds h = (h.0, lie_first text (at + length (chunk_text c)) cs ds h.1)

-- .. and the later ones
pub lie_later : (text : List ℕ) (at : ℕ) (cs ds : List Chunk) → AllLie text at (cs ++ ds) → AllLie text (place_after at cs) ds
lie_later text at [] ds h = h
lie_later text at (c ∷ cs) ds h = lie_later text (at + length (chunk_text c)) cs ds h.1

-- a word of these bytes at a place
abbrev pub word_at : ℕ → List ℕ → Word
word_at at bs = record { start = at; end = at + length bs }

-- a number of this value at a place
abbrev pub figure_at : ℕ → ℤ → Figure
figure_at at z = record { at = at; value = z }

-- the lexeme that a chunk makes at a place; a blank makes none
abbrev pub chunk_lexemes : ℕ → Chunk → List Lexeme
chunk_lexemes at (word bs) = word_lexeme bs at (at + length bs) ∷ []
chunk_lexemes at (figure z) = Number (figure_at at z) ∷ []
chunk_lexemes at (sign b) = sign_lexeme b at ∷ []
chunk_lexemes at dots = Dots ∷ []
chunk_lexemes at (blank b) = []

-- the lexemes of chunks from a place on
abbrev pub chunks_lexemes : ℕ → List Chunk → List Lexeme
chunks_lexemes at [] = []
chunks_lexemes at (c ∷ cs) = chunk_lexemes at c ++ chunks_lexemes (at + length (chunk_text c)) cs

-- the tokens of chunks that lie in a text make the chunks' lexemes
pub lexemes_by_chunks : (text : List ℕ) (at : ℕ) (cs : List Chunk) → AllLie text at cs → lexemes_of text (tokens_from at cs) ≡ chunks_lexemes at cs
lexemes_by_chunks text at [] h = refl
lexemes_by_chunks text at (word bs ∷ cs) h =
    let later = lexemes_by_chunks text (at + length bs) cs h.1 in
    ap (λ t. word_lexeme t at (at + length bs) ∷ lexemes_of text (tokens_from (at + length bs) cs)) h.0
    ∙ ap (λ ls. word_lexeme bs at (at + length bs) ∷ ls) later
lexemes_by_chunks text at (figure z ∷ cs) h = ap (λ ls. Number (figure_at at z) ∷ ls) (lexemes_by_chunks text (at + length (chunk_text (figure z))) cs h.1)
lexemes_by_chunks text at (sign b ∷ cs) h = ap (λ ls. sign_lexeme b at ∷ ls) (lexemes_by_chunks text (at + length (chunk_text (sign b))) cs h.1)
lexemes_by_chunks text at (dots ∷ cs) h = ap (λ ls. Dots ∷ ls) (lexemes_by_chunks text (at + length (chunk_text dots)) cs h.1)
lexemes_by_chunks text at (blank b ∷ cs) h = lexemes_by_chunks text (at + length (chunk_text (blank b))) cs h.1

-- lexemes of chunks behind one another
pub lexemes_joined : (at : ℕ) (cs ds : List Chunk) → chunks_lexemes at (cs ++ ds) ≡ chunks_lexemes at cs ++ chunks_lexemes (place_after at cs) ds
lexemes_joined at [] ds = refl
lexemes_joined at (c ∷ cs) ds =
    let next = at + length (chunk_text c) in
    ap (λ ls. chunk_lexemes at c ++ ls) (lexemes_joined next cs ds)
    ∙ sym (append_assoc (chunk_lexemes at c) (chunks_lexemes next cs) (chunks_lexemes (place_after next cs) ds))

-- what follows chunks whose lexemes are known
pub then_read : (at : ℕ) (cs ds : List Chunk) (ls : List Lexeme) → chunks_lexemes at cs ≡ ls → chunks_lexemes at (cs ++ ds) ≡ ls ++ chunks_lexemes (place_after at cs) ds
then_read at cs ds ls e = lexemes_joined at cs ds ∙ ap (λ l. l ++ chunks_lexemes (place_after at cs) ds) e
