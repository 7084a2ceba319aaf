-- Tokens lie in their text, and words are words.
use Rattle.std.proofs.Common.{◌≡◌, ◌≤◌, ◌+◌, ◌-◌, ◌&&◌, ℕ, zero, suc, arith, refl, List, [], ◌∷◌, ap, ◌∙◌, sym, subst, Bool, true, false, cond, length, drop, take, IsTrue, length-drop, Option, None, Some}
use Rattle.std.specs.List.{prefix_len, filter_map, cons_option, list_all, AllByRecursion, All}
use Rattle.std.proofs.lemmas.List.Elements.{All-from_recursion}
use Rattle.std.proofs.lemmas.Bool.{and_from}
use Rattle.qc_model.specs.Names.{is_first_byte, is_word_byte, is_word}
use Rattle.qc_tokens.specs.declared.token.Token.{Token}
use Rattle.qc_tokens.specs.declared.token.Sort.TheVariants.{Word, Sign}
use Rattle.qc_tokens.specs.declared.piece.Piece.{Piece}
use Rattle.qc_tokens.specs.declared.piece.Piece.TheVariants.{Gap, Good, BadNumber, BadByte}
use Rattle.qc_tokens.specs.declared.piece.Cut.{Cut}
use Rattle.qc_tokens.specs.Tokens.{dots, number_piece, first_cut, placed, pieces, token_of, tokens_from, tokens_of, IsTokenOf}
use Rattle.qc_tokens.proofs.Cuts.{of_each, more_within}

all_taken : (p : ℕ → Bool) (bs : List ℕ) → list_all p (take (prefix_len p bs) bs) ≡ true
all_taken p [] = refl
all_taken p (b ∷ bs) = by (p b) refl (all_taken p bs)
  where
    by : (t : Bool) → p b ≡ t → list_all p (take (prefix_len p bs) bs) ≡ true → list_all p (take (cond t (1 + prefix_len p bs) 0) (b ∷ bs)) ≡ true
    by true e rest =
        let n : 1 + prefix_len p bs ≡ suc (prefix_len p bs) = omega arith in
        rw (n, e, rest) refl
    by false e rest = refl

-- a word begins as one, and ends where its bytes end
record IsWordCut (b : ℕ) (bs : List ℕ) (m : ℕ) : Type 0 where
  first : is_first_byte b ≡ true
  more : m ≡ prefix_len is_word_byte bs

abbrev IsCutOf : ℕ → List ℕ → Cut → Type 0
IsCutOf b bs c = c.piece ≡ Good Word → IsWordCut b bs c.more

dots_no_word : (b : ℕ) (bs : List ℕ) → IsCutOf b bs (dots bs)
dots_no_word b [] e = absurd cc
dots_no_word b (c ∷ cs) e = absurd (by _ e)
  where
    by : (t : Bool) → (cond {A = Cut} t (record { piece = Good (Sign 46); more = 1 }) (record { piece = BadByte; more = 0 })).piece ≡ Good Word → ⊥
    by true e = cc
    by false e = cc

number_no_word : (n : Option _) → number_piece n ≡ Good Word → ⊥
number_no_word None e = cc
number_no_word (Some z) e = cc

word_cut : (b : ℕ) (bs : List ℕ) → IsCutOf b bs (first_cut b bs)
word_cut b bs = of_each (IsCutOf b bs) b bs (record {
  blank = λ e. absurd cc;
  comment = λ e. absurd cc;
  sign = λ e. absurd cc;
  dots = dots_no_word b bs;
  word = λ first e. record { first = first; more = refl };
  number = λ e. absurd (number_no_word _ e);
  bad = λ e. absurd cc;
})

-- the bytes of a piece
its_bytes : (text : List ℕ) (at b : ℕ) (bs : List ℕ) (m : ℕ) → drop at text ≡ b ∷ bs → take (at + 1 + m - at) (drop at text) ≡ b ∷ take m bs
its_bytes text at b bs m e = let n : at + 1 + m - at ≡ suc m = omega arith in rw (e, n) refl

word_is : (text : List ℕ) (at b : ℕ) (bs : List ℕ) (m : ℕ) → drop at text ≡ b ∷ bs → IsWordCut b bs m → IsTrue (is_word (take (at + 1 + m - at) (drop at text)))
word_is text at b bs m e w =
    subst (λ bytes. is_word bytes ≡ true) (sym (its_bytes text at b bs m e))
    (and_from _ _ w.first (subst (λ n. list_all is_word_byte (take n bs) ≡ true) (sym w.more) (all_taken is_word_byte bs)))

length_left : (text : List ℕ) (at b : ℕ) (bs : List ℕ) → drop at text ≡ b ∷ bs → at + 1 + length bs ≤ length text
length_left text at b bs e = let l : length (drop at text) ≡ suc (length bs) = ap length e in omega (arith, length-drop at text)

first_token : (text : List ℕ) (at b : ℕ) (bs : List ℕ) (rest : List Token) → drop at text ≡ b ∷ bs → AllByRecursion (IsTokenOf text) rest → AllByRecursion (IsTokenOf text) (cons_option (token_of (placed at (first_cut b bs))) rest)
first_token text at b bs rest e all = by (first_cut b bs).piece refl
  where
    by : (p : Piece) → (first_cut b bs).piece ≡ p → AllByRecursion (IsTokenOf text) (cons_option (token_of (record { start = at; end = at + 1 + (first_cut b bs).more; piece = p })) rest)
    by Gap h = all
    by (Good sort) h =
        let more = more_within b bs in
        let length = length_left text at b bs e in (
          record {
            some = omega arith;
            within = omega arith;
            is_word = λ w. word_is text at b bs (first_cut b bs).more e (word_cut b bs (h ∙ ap Good w));
          },
          all,
        )
    by BadNumber h = all
    by BadByte h = all

one_further : (text : List ℕ) (at b : ℕ) (bs : List ℕ) → drop at text ≡ b ∷ bs → drop (suc at) text ≡ bs
one_further [] at b bs e = absurd (no at e)
  where
    no : (at : ℕ) → drop at [] ≡ b ∷ bs → ⊥
    no zero e = cc
    no (suc at) e = cc
one_further (c ∷ cs) zero b bs e = cc
one_further (c ∷ cs) (suc at) b bs e = one_further cs at b bs e

all_tokens : (text : List ℕ) (at within : ℕ) (bs : List ℕ) → drop at text ≡ bs → AllByRecursion (IsTokenOf text) (filter_map token_of (pieces at within bs))
unfolding pieces
all_tokens text at within [] e = tt
all_tokens text at (suc within) (b ∷ bs) e = all_tokens text (suc at) within bs (one_further text at b bs e)
all_tokens text at zero (b ∷ bs) e =
    first_token text at b bs _ e (all_tokens text (suc at) (first_cut b bs).more bs (one_further text at b bs e))

pub tokens_lie : (text : List ℕ) (ts : List Token) → ts ≡ tokens_of text → All (IsTokenOf text) ts
unfolding tokens_from
tokens_lie text ts e = subst (All (IsTokenOf text)) (sym e) (All-from_recursion (IsTokenOf text) (tokens_of text) (all_tokens text 0 0 text refl))
