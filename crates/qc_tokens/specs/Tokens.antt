-- The tokens of a problem text.
use Rattle.std.specs.Prelude.{◌≡◌, ◌==◌, ◌+◌, ◌-◌, ◌^◌, ◌<◌, ◌≤◌, ℕ, nat_lt, nat_le, zero, suc, Bool, false, IsTrue, not, ◌&&◌, ◌||◌, cond, List, [], ◌∷◌, length, drop, take, ℤ, pos, neg_ℤ, Option, Some, None}
use Rattle.std.specs.Char.{is_ascii_digit}
use Rattle.std.specs.List.{list_all, prefix_len, take_while, filter_map}
use Rattle.std.specs.Str.Parse.{digits_value}
use Rattle.qc_model.specs.Names.{is_first_byte, is_word_byte, is_word}
use Rattle.qc_tokens.specs.declared.token.Token.{Token}
use Rattle.qc_tokens.specs.declared.token.Sort.TheVariants.{Word, Number, Sign}
use Rattle.qc_tokens.specs.declared.piece.Piece.{Piece}
use Rattle.qc_tokens.specs.declared.piece.Piece.TheVariants.{Gap, Good, BadNumber, BadByte}
use Rattle.qc_tokens.specs.declared.piece.Cut.{Cut}
use Rattle.qc_tokens.specs.declared.fault.TokenError.{TokenError}
use Rattle.qc_tokens.specs.declared.fault.TokenError.TheVariants.{BadByte as ByteFault, BadNumber as NumberFault, Memory}

-- a space, a tab, a carriage return or a line feed
abbrev pub is_blank : ℕ → Bool
is_blank b = b == 32 || b == 9 || b == 13 || b == 10

-- ; : , ( ) [ ] { } =
abbrev pub is_sign : ℕ → Bool
is_sign b = b == 59 || b == 58 || b == 44 || b == 40 || b == 41 || b == 91 || b == 93 || b == 123 || b == 125 || b == 61

abbrev pub begins_with : (ℕ → Bool) → List ℕ → Bool
begins_with p [] = false
begins_with p (b ∷ bs) = p b

-- the number that digits write, where there are digits alone and the value is within 64 bits
abbrev pub positive_of : List ℕ → Option ℤ
positive_of ds = cond (list_all is_ascii_digit ds && nat_lt (digits_value 10 ds) (2 ^ 63)) (Some (pos (digits_value 10 ds))) None

-- the same of the digits after a minus
abbrev pub negative_of : List ℕ → Option ℤ
negative_of ds = cond (list_all is_ascii_digit ds && nat_le (digits_value 10 ds) (2 ^ 63)) (Some (neg_ℤ (pos (digits_value 10 ds)))) None

-- the number of a run that begins with this byte, a digit or a minus
unfoldable pub number_of : ℕ → List ℕ → Option ℤ
number_of b bs = cond (b == 45) (negative_of bs) (positive_of (b ∷ bs))

abbrev pub single : Piece → Cut
single p = record { piece = p; more = 0 }

-- a run is a token or a bad number
abbrev pub number_piece : Option ℤ → Piece
number_piece None = BadNumber
number_piece (Some z) = Good (Number z)

-- a comment ends before the next line feed, or at the end of the text
abbrev pub comment : List ℕ → Cut
comment bs = record { piece = Gap; more = prefix_len (λ b. not (b == 10)) bs }

-- two dots are one sign
abbrev pub dots : List ℕ → Cut
dots bs = cond (begins_with (λ b. b == 46) bs) (record { piece = Good (Sign 46); more = 1 }) (single BadByte)

-- a word, or a number, goes on as long as letters, digits and underscores follow
abbrev pub word : List ℕ → Cut
word bs = record { piece = Good Word; more = prefix_len is_word_byte bs }

abbrev pub number : ℕ → List ℕ → Cut
number b bs = record { piece = number_piece (number_of b (take_while is_word_byte bs)); more = prefix_len is_word_byte bs }

-- a digit, or a minus that a digit follows
abbrev pub begins_number : ℕ → List ℕ → Bool
begins_number b bs = is_ascii_digit b || (b == 45 && begins_with is_ascii_digit bs)

-- the piece that begins with this byte
unfoldable pub first_cut : ℕ → List ℕ → Cut
first_cut b bs =
    cond (is_blank b) (single Gap) (cond (b == 37) (comment bs) (cond (is_sign b) (single (Good (Sign b))) (cond (b == 46) (dots bs)
    (cond (is_first_byte b) (word bs) (cond (begins_number b bs) (number b bs) (single BadByte))))))

-- a piece, the place of its first byte, and the place after its last
pub record Placed : Type 0 where
  pub start : ℕ
  pub end : ℕ
  pub piece : Piece

abbrev pub placed : ℕ → Cut → Placed
placed at c = record { start = at; end = at + 1 + c.more; piece = c.piece }

-- the pieces of a text that begins at this place, and whose first bytes, so many, belong to a piece before it
unfoldable pub pieces : ℕ → ℕ → List ℕ → List Placed
pieces at within [] = []
pieces at (suc within) (b ∷ bs) = pieces (suc at) within bs
pieces at zero (b ∷ bs) = placed at (first_cut b bs) ∷ pieces (suc at) (first_cut b bs).more bs

abbrev pub token_of : Placed → Option Token
token_of p = elim p.piece [
  | Gap ↦ None
  | Good sort ↦ Some (record { start = p.start; end = p.end; sort = sort })
  | BadNumber ↦ None
  | BadByte ↦ None
]

abbrev pub bad_byte_at : Placed → Option ℕ
bad_byte_at p = elim p.piece [ Gap ↦ None | Good sort ↦ None | BadNumber ↦ None | BadByte ↦ Some p.start ]

abbrev pub bad_number_at : Placed → Option ℕ
bad_number_at p = elim p.piece [ Gap ↦ None | Good sort ↦ None | BadNumber ↦ Some p.start | BadByte ↦ None ]

abbrev pub first_of : List ℕ → Option ℕ
first_of [] = None
first_of (at ∷ later) = Some at

-- what stands in a text that begins at this place: its tokens, in order ..
unfoldable pub tokens_from : ℕ → List ℕ → List Token
tokens_from at bs = filter_map token_of (pieces at 0 bs)

-- .. the place of the first byte at which no blank, comment or token begins ..
unfoldable pub bad_byte_from : ℕ → List ℕ → Option ℕ
bad_byte_from at bs = first_of (filter_map bad_byte_at (pieces at 0 bs))

-- .. and the place of the first number that isn't a good one
unfoldable pub bad_number_from : ℕ → List ℕ → Option ℕ
bad_number_from at bs = first_of (filter_map bad_number_at (pieces at 0 bs))

-- the same of a whole text
abbrev pub tokens_of : List ℕ → List Token
tokens_of text = tokens_from 0 text

abbrev pub first_bad_byte : List ℕ → Option ℕ
first_bad_byte text = bad_byte_from 0 text

abbrev pub first_bad_number : List ℕ → Option ℕ
first_bad_number text = bad_number_from 0 text

-- a text is refused for its first bad byte, and without one for its first bad number
abbrev pub Explains : List ℕ → TokenError → Type 0
Explains text (ByteFault at) = first_bad_byte text ≡ Some at
Explains text (NumberFault at) = (first_bad_byte text ≡ None) × (first_bad_number text ≡ Some at)
Explains text (Memory e) = Unit {0}

-- the bytes that a token stands for
abbrev pub token_bytes : List ℕ → Token → List ℕ
token_bytes text t = take (t.end - t.start) (drop t.start text)

-- a token lies in the text, and one that is a word stands for a word
pub record IsTokenOf (text : List ℕ) (t : Token) : Type 0 where
  pub some : t.start < t.end
  pub within : t.end ≤ length text
  pub is_word : t.sort ≡ Word → IsTrue (is_word (token_bytes text t))
