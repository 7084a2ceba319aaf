-- The pieces of a text, from the first one on.
use Rattle.std.proofs.Common.{◌≡◌, ◌≤◌, ◌+◌, ◌==◌, ℕ, zero, suc, arith, refl, List, [], ◌∷◌, ◌++◌, ap, ◌∙◌, sym, subst, Bool, true, false, cond, not, length, drop, Some, None, append_assoc, append-nil, length-drop, take, ◌-◌, take_all, Option}
use Rattle.std.specs.List.{filter_map}
use Rattle.std.proofs.lemmas.List.Sums.{prefix_len-le-length}
use Rattle.qc_model.specs.Names.{is_first_byte, is_word_byte}
use Rattle.qc_tokens.specs.declared.token.Token.{Token}
use Rattle.qc_tokens.specs.declared.token.Sort.{Sort}
use Rattle.qc_tokens.specs.declared.piece.Piece.{Piece}
use Rattle.qc_tokens.specs.declared.piece.Piece.TheVariants.{Gap, Good, BadNumber, BadByte}
use Rattle.qc_tokens.specs.declared.token.Sort.TheVariants.{Sign}
use Rattle.qc_tokens.specs.declared.piece.Cut.{Cut}
use Rattle.qc_tokens.specs.declared.fault.TokenError.{TokenError}
use Rattle.qc_tokens.specs.Inner.{fault_of}
use Rattle.qc_tokens.specs.Tokens.{Explains, is_blank, is_sign, single, comment, dots, word, number, begins_number, first_cut, pieces, token_of, bad_byte_at, bad_number_at, first_of, tokens_from, bad_byte_from, bad_number_from, tokens_of, first_bad_byte, first_bad_number}

-- what holds of each kind of cut holds of the first one

pub record Kinds (P : Cut → Type 0) (b : ℕ) (bs : List ℕ) : Type 0 where
  pub blank : P (single Gap)
  pub comment : P (comment bs)
  pub sign : P (single (Good (Sign b)))
  pub dots : P (dots bs)
  pub word : is_first_byte b ≡ true → P (word bs)
  pub number : P (number b bs)
  pub bad : P (single BadByte)

one_of : (P : Cut → Type 0) (t : Bool) (x y : Cut) → (t ≡ true → P x) → P y → P (cond t x y)
one_of P true x y p q = p refl
one_of P false x y p q = q

abbrev run_or_bad : ℕ → List ℕ → Cut
run_or_bad b bs = cond (begins_number b bs) (number b bs) (single BadByte)

abbrev word_or_later : ℕ → List ℕ → Cut
word_or_later b bs = cond (is_first_byte b) (word bs) (run_or_bad b bs)

abbrev dots_or_later : ℕ → List ℕ → Cut
dots_or_later b bs = cond (b == 46) (dots bs) (word_or_later b bs)

abbrev sign_or_later : ℕ → List ℕ → Cut
sign_or_later b bs = cond (is_sign b) (single (Good (Sign b))) (dots_or_later b bs)

abbrev comment_or_later : ℕ → List ℕ → Cut
comment_or_later b bs = cond (b == 37) (comment bs) (sign_or_later b bs)

pub of_each : (P : Cut → Type 0) (b : ℕ) (bs : List ℕ) → Kinds P b bs → P (first_cut b bs)
unfolding first_cut
of_each P b bs k =
    one_of P (is_blank b) (single Gap) (comment_or_later b bs) (λ _. k.blank)
    (one_of P (b == 37) (comment bs) (sign_or_later b bs) (λ _. k.comment)
    (one_of P (is_sign b) (single (Good (Sign b))) (dots_or_later b bs) (λ _. k.sign)
    (one_of P (b == 46) (dots bs) (word_or_later b bs) (λ _. k.dots)
    (one_of P (is_first_byte b) (word bs) (run_or_bad b bs) k.word
    (one_of P (begins_number b bs) (number b bs) (single BadByte) (λ _. k.number) k.bad)))))

-- a cut takes no more bytes than there are

dots_within : (bs : List ℕ) → (dots bs).more ≤ length bs
dots_within [] = omega arith
dots_within (c ∷ cs) = one_of (λ x. x.more ≤ length (c ∷ cs)) (c == 46) (record { piece = Good (Sign 46); more = 1 }) (single BadByte) (λ _. omega arith) (omega arith)

pub more_within : (b : ℕ) (bs : List ℕ) → (first_cut b bs).more ≤ length bs
more_within b bs = of_each (λ c. c.more ≤ length bs) b bs (record {
  blank = omega arith;
  comment = prefix_len-le-length (λ b. not (b == 10)) bs;
  sign = omega arith;
  dots = dots_within bs;
  word = λ _. prefix_len-le-length is_word_byte bs;
  number = prefix_len-le-length is_word_byte bs;
  bad = omega arith;
})

-- bytes that belong to the piece before are passed over
skip : (at more : ℕ) (bs : List ℕ) → more ≤ length bs → pieces at more bs ≡ pieces (at + more) 0 (drop more bs)
unfolding pieces
skip at zero bs h = let e : at ≡ at + 0 = omega arith in ap (λ a. pieces a 0 bs) e
skip at (suc m) [] h = absurd (omega arith)
skip at (suc m) (b ∷ bs) h =
    let e : suc at + m ≡ at + suc m = omega arith in
    skip (suc at) m bs (omega arith) ∙ ap (λ a. pieces a 0 (drop m bs)) e

pub first_piece : (at b : ℕ) (bs : List ℕ) (p : Piece) (m : ℕ) → first_cut b bs ≡ record { piece = p; more = m } → pieces at 0 (b ∷ bs) ≡ record { start = at; end = at + 1 + m; piece = p } ∷ pieces (at + 1 + m) 0 (drop m bs)
unfolding pieces
first_piece at b bs p m e =
    let within : m ≤ length bs = subst (λ (c : Cut). c.more ≤ length bs) e (more_within b bs) in
    let place : suc at + m ≡ at + 1 + m = omega arith in
    ap (λ (c : Cut). record { start = at; end = at + 1 + c.more; piece = c.piece } ∷ pieces (suc at) c.more bs) e
    ∙ ap (λ ps. record { start = at; end = at + 1 + m; piece = p } ∷ ps) (skip (suc at) m bs within ∙ ap (λ a. pieces a 0 (drop m bs)) place)

-- all that stands behind a cut
pub behind : (m : ℕ) (bs : List ℕ) → take (length bs - m) (drop m bs) ≡ drop m bs
behind m bs = take_all _ _ (omega (arith, length-drop m bs))

-- the tokens so far, what is left of the text and where it begins
pub record IsCut (text : List ℕ) (ts : List Token) (left : List ℕ) (at : ℕ) : Type 0 where
  pub place : at + length left ≡ length text
  pub tokens : ts ++ tokens_from at left ≡ tokens_of text
  pub bytes : bad_byte_from at left ≡ first_bad_byte text
  pub numbers : bad_number_from at left ≡ first_bad_number text

module _ (text : List ℕ) (ts : List Token) (left : List ℕ) (at b : ℕ) (bs : List ℕ) (c : Cut) (is : left ≡ b ∷ bs) (cut : c ≡ first_cut b bs) (i : IsCut text ts left at) where
  -- the first piece, and the others
  its_pieces : (p : Piece) → c.piece ≡ p → pieces at 0 left ≡ record { start = at; end = at + 1 + c.more; piece = p } ∷ pieces (at + 1 + c.more) 0 (drop c.more bs)
  its_pieces p e =
      let known : first_cut b bs ≡ record { piece = p; more = c.more } = sym cut ∙ ap (λ (q : Piece). record { piece = q; more = c.more }) e in
      ap (pieces at 0) is ∙ first_piece at b bs p c.more known

  place_next : at + 1 + c.more + length (drop c.more bs) ≡ length text
  place_next =
      let within : c.more ≤ length bs = subst (λ (x : Cut). x.more ≤ length bs) (sym cut) (more_within b bs) in
      let all : length left ≡ suc (length bs) = ap length is in
      let so_far = i.place in
      omega (arith, length-drop c.more bs)

  pub gap_next : c.piece ≡ Gap → IsCut text ts (drop c.more bs) (at + 1 + c.more)
  unfolding tokens_from bad_byte_from bad_number_from
  gap_next e =
      let ps = its_pieces Gap e in
      record {
        place = place_next;
        tokens = ap (λ qs. ts ++ filter_map token_of qs) (sym ps) ∙ i.tokens;
        bytes = ap (λ qs. first_of (filter_map bad_byte_at qs)) (sym ps) ∙ i.bytes;
        numbers = ap (λ qs. first_of (filter_map bad_number_at qs)) (sym ps) ∙ i.numbers;
      }

  pub token_next : (sort : Sort) → c.piece ≡ Good sort → IsCut text (ts ++ record { start = at; end = at + 1 + c.more; sort = sort } ∷ []) (drop c.more bs) (at + 1 + c.more)
  unfolding tokens_from bad_byte_from bad_number_from
  token_next sort e =
      let ps = its_pieces (Good sort) e in
      record {
        place = place_next;
        tokens = append_assoc ts (record { start = at; end = at + 1 + c.more; sort = sort } ∷ []) _ ∙ ap (λ qs. ts ++ filter_map token_of qs) (sym ps) ∙ i.tokens;
        bytes = ap (λ qs. first_of (filter_map bad_byte_at qs)) (sym ps) ∙ i.bytes;
        numbers = ap (λ qs. first_of (filter_map bad_number_at qs)) (sym ps) ∙ i.numbers;
      }

  pub byte_found : c.piece ≡ BadByte → first_bad_byte text ≡ Some at
  unfolding bad_byte_from
  byte_found e = sym i.bytes ∙ ap (λ qs. first_of (filter_map bad_byte_at qs)) (its_pieces BadByte e)

  pub number_found : c.piece ≡ BadNumber → first_bad_number text ≡ Some at
  unfolding bad_number_from
  number_found e = sym i.numbers ∙ ap (λ qs. first_of (filter_map bad_number_at qs)) (its_pieces BadNumber e)

  pub byte_later : c.piece ≡ BadNumber → bad_byte_from (at + 1 + c.more) (drop c.more bs) ≡ first_bad_byte text
  unfolding bad_byte_from
  byte_later e = ap (λ qs. first_of (filter_map bad_byte_at qs)) (sym (its_pieces BadNumber e)) ∙ i.bytes

nothing_left : {A : Type 0} (xs : List A) → length xs ≡ 0 → xs ≡ []
nothing_left [] e = refl
nothing_left (x ∷ xs) e = absurd (omega arith)

pub record IsDone (text : List ℕ) (ts : List Token) : Type 0 where
  pub tokens : ts ≡ tokens_of text
  pub bytes : first_bad_byte text ≡ None
  pub numbers : first_bad_number text ≡ None

pub done : (text : List ℕ) (ts : List Token) (left : List ℕ) (at : ℕ) → length left ≡ 0 → IsCut text ts left at → IsDone text ts
unfolding tokens_from bad_byte_from bad_number_from pieces
done text ts left at none i = let e : left ≡ [] = nothing_left left none in record {
  tokens = sym (append-nil ts) ∙ ap (λ bs. ts ++ tokens_from at bs) (sym e) ∙ i.tokens;
  bytes = sym i.bytes ∙ ap (bad_byte_from at) e;
  numbers = sym i.numbers ∙ ap (bad_number_from at) e;
}

-- the search for a bad byte

module _ (left : List ℕ) (at b : ℕ) (bs : List ℕ) (c : Cut) (is : left ≡ b ∷ bs) (cut : c ≡ first_cut b bs) where
  cut_as : (p : Piece) → c.piece ≡ p → bad_byte_from at left ≡ first_of (filter_map bad_byte_at (record { start = at; end = at + 1 + c.more; piece = p } ∷ pieces (at + 1 + c.more) 0 (drop c.more bs)))
  unfolding bad_byte_from
  cut_as p e =
      let known : first_cut b bs ≡ record { piece = p; more = c.more } = sym cut ∙ ap (λ (q : Piece). record { piece = q; more = c.more }) e in
      ap (λ qs. first_of (filter_map bad_byte_at qs)) (ap (pieces at 0) is ∙ first_piece at b bs p c.more known)

  pub search_ends : c.piece ≡ BadByte → bad_byte_from at left ≡ Some at
  search_ends e = cut_as BadByte e

  pub search_goes : (c.piece ≡ BadByte → ⊥) → bad_byte_from at left ≡ bad_byte_from (at + 1 + c.more) (drop c.more bs)
  unfolding bad_byte_from
  search_goes other = by c.piece refl
    where
      by : (p : Piece) → c.piece ≡ p → bad_byte_from at left ≡ bad_byte_from (at + 1 + c.more) (drop c.more bs)
      by Gap e = cut_as Gap e
      by (Good sort) e = cut_as (Good sort) e
      by BadNumber e = cut_as BadNumber e
      by BadByte e = absurd (other e)

pub search_none : (left : List ℕ) (at : ℕ) → length left ≡ 0 → bad_byte_from at left ≡ None
unfolding bad_byte_from pieces
search_none left at e = ap (bad_byte_from at) (nothing_left left e)

-- a bad byte goes before a bad number
pub explained : (text : List ℕ) (error : TokenError) (found : Option ℕ) (at : ℕ) → found ≡ first_bad_byte text → error ≡ fault_of found at → first_bad_number text ≡ Some at → Explains text error
explained text error found at e is number = subst (Explains text) (sym is) (by found e)
  where
    by : (found : Option ℕ) → found ≡ first_bad_byte text → Explains text (fault_of found at)
    by None e = (sym e, number)
    by (Some other) e = sym e
