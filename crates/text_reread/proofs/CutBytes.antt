-- What single bytes are, and what they therefore aren't.
use Rattle.std.proofs.Common.{◌≡◌, ◌==◌, ℕ, arith, refl, sym, ap, ◌∙◌, Bool, true, false, leb, leb-true, ne_eqb}
use Rattle.std.specs.Char.{is_ascii_digit}
use Rattle.std.proofs.lemmas.Bool.{lt-leb, and_parts, false_from_ne_true}
use Rattle.qc_model.specs.Names.{is_first_byte, is_word_byte}
use Rattle.qc_tokens.specs.Tokens.{is_blank, is_sign}

-- a byte that passes a test isn't one that fails it
pub differs : (p : ℕ → Bool) (b k : ℕ) → p b ≡ true → p k ≡ false → (b == k) ≡ false
differs p b k h never = ne_eqb b k (λ e. let back : p k ≡ true = ap p (sym e) ∙ h in absurd cc)

-- a test that no blank passes
pub no_blank : (p : ℕ → Bool) (b : ℕ) → p b ≡ true → p 32 ≡ false → p 9 ≡ false → p 13 ≡ false → p 10 ≡ false → is_blank b ≡ false
no_blank p b h q r s t = rw (differs p b 32 h q, differs p b 9 h r, differs p b 13 h s, differs p b 10 h t) refl

-- a test that none of the ten signs passes
pub record FailsSigns (p : ℕ → Bool) : Type 0 where
  pub semicolon : p 59 ≡ false
  pub colon : p 58 ≡ false
  pub comma : p 44 ≡ false
  pub open_round : p 40 ≡ false
  pub close_round : p 41 ≡ false
  pub open_square : p 91 ≡ false
  pub close_square : p 93 ≡ false
  pub open_brace : p 123 ≡ false
  pub close_brace : p 125 ≡ false
  pub equals : p 61 ≡ false

-- so a byte that passes it is no sign
pub no_sign : (p : ℕ → Bool) (b : ℕ) → p b ≡ true → FailsSigns p → is_sign b ≡ false
no_sign p b h f =
    rw (differs p b 59 h f.semicolon, differs p b 58 h f.colon, differs p b 44 h f.comma, differs p b 40 h f.open_round, differs p b 41 h f.close_round, differs p b 91 h f.open_square, differs p b 93 h f.close_square, differs p b 123 h f.open_brace, differs p b 125 h f.close_brace, differs p b 61 h f.equals) refl

-- a digit begins no word
pub digit_no_first : (b : ℕ) → is_ascii_digit b ≡ true → is_first_byte b ≡ false
digit_no_first b h =
    let k = and_parts (leb 48 b) (leb b 57) h in
    let low = leb-true _ _ k.0 in
    let high = leb-true _ _ k.1 in
    rw (lt-leb 65 b (omega arith), lt-leb 97 b (omega arith), ne_eqb b 95 (λ e. omega arith)) refl

-- but a word goes on with it
pub digit_in_word : (b : ℕ) → is_ascii_digit b ≡ true → is_word_byte b ≡ true
digit_in_word b h = rw (digit_no_first b h, h) refl

-- a word goes on with none of the ten signs
signs_end_words : FailsSigns is_word_byte
signs_end_words = record {
  semicolon = refl;
  colon = refl;
  comma = refl;
  open_round = refl;
  close_round = refl;
  open_square = refl;
  close_square = refl;
  open_brace = refl;
  close_brace = refl;
  equals = refl;
}

-- neither a sign nor a blank goes on with a word
pub sign_ends_word : (b : ℕ) → is_sign b ≡ true → is_word_byte b ≡ false
sign_ends_word b h = false_from_ne_true _ (λ w. let never = no_sign is_word_byte b w signs_end_words in absurd cc)

pub blank_ends_word : (b : ℕ) → is_blank b ≡ true → is_word_byte b ≡ false
blank_ends_word b h = false_from_ne_true _ (λ w. let never = no_blank is_word_byte b w refl refl refl refl in absurd cc)

-- a sign is no blank
pub sign_no_blank : (b : ℕ) → is_sign b ≡ true → is_blank b ≡ false
sign_no_blank b h = no_blank is_sign b h refl refl refl refl

-- a letter or an underscore is neither a blank nor a sign, nor is a digit
pub first_no_blank : (b : ℕ) → is_first_byte b ≡ true → is_blank b ≡ false
first_no_blank b h = no_blank is_first_byte b h refl refl refl refl

pub first_no_sign : (b : ℕ) → is_first_byte b ≡ true → is_sign b ≡ false
first_no_sign b h =
    no_sign is_first_byte b h (record {
      semicolon = refl;
      colon = refl;
      comma = refl;
      open_round = refl;
      close_round = refl;
      open_square = refl;
      close_square = refl;
      open_brace = refl;
      close_brace = refl;
      equals = refl;
    })

pub digit_no_blank : (b : ℕ) → is_ascii_digit b ≡ true → is_blank b ≡ false
digit_no_blank b h = no_blank is_ascii_digit b h refl refl refl refl

pub digit_no_sign : (b : ℕ) → is_ascii_digit b ≡ true → is_sign b ≡ false
digit_no_sign b h =
    no_sign is_ascii_digit b h (record {
      semicolon = refl;
      colon = refl;
      comma = refl;
      open_round = refl;
      close_round = refl;
      open_square = refl;
      close_square = refl;
      open_brace = refl;
      close_brace = refl;
      equals = refl;
    })
