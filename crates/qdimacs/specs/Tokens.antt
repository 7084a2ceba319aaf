-- The tokens of a text.
use Rattle.std.specs.Prelude.{◌==◌, ℕ, nat_le, zero, suc, Bool, true, false, not, ◌&&◌, ◌||◌, cond, List, [], ◌∷◌, ◌++◌, length, Option, Some, None, codes}
use Rattle.std.specs.Char.{is_ascii_digit}
use Rattle.std.specs.List.{list_all, prefix_len, take_while}
use Rattle.std.specs.Str.{bytes_eq}
use Rattle.std.specs.Str.Parse.{digits_value}
use Rattle.qc_model.specs.declared.problem.Kind.TheVariants.{Exists, Forall}
use Rattle.qdimacs.specs.declared.token.Token.{Token}
use Rattle.qdimacs.specs.declared.token.Sign.{Sign}
use Rattle.qdimacs.specs.declared.token.Sign.TheVariants.{Format, Cnf, Quantifier, Zero, Number, Negative, Other}
use Rattle.qdimacs.specs.declared.piece.Piece.{Piece}

-- a space, a tab or a carriage return
abbrev pub is_blank : ℕ → Bool
is_blank b = b == 32 || b == 9 || b == 13

abbrev pub is_in_line : ℕ → Bool
is_in_line b = not (b == 10)

-- neither a blank nor a line feed
abbrev pub is_in_token : ℕ → Bool
is_in_token b = not (is_blank b || b == 10)

-- a digit from 1 to 9, and at most eight further digits
abbrev pub is_number : List ℕ → Bool
is_number [] = false
is_number (d ∷ ds) = nat_le 49 d && nat_le d 57 && nat_le (length ds) 8 && list_all is_ascii_digit ds

abbrev pub number_of : List ℕ → Option ℕ
number_of ds = cond (is_number ds) (Some (digits_value 10 ds)) None

abbrev pub negative_sign : Option ℕ → Sign
negative_sign None = Other
negative_sign (Some n) = Negative n

-- a minus with a number right behind it
abbrev pub minus_sign : List ℕ → Sign
minus_sign [] = Other
minus_sign (b ∷ bs) = cond (b == 45) (negative_sign (number_of bs)) Other

abbrev pub number_sign : List ℕ → Option ℕ → Sign
number_sign w None = minus_sign w
number_sign w (Some n) = Number n

-- what the bytes of a token stand for
unfoldable pub sign_of : List ℕ → Sign
sign_of w =
    cond (bytes_eq w (codes "p")) Format (cond (bytes_eq w (codes "cnf")) Cnf
    (cond (bytes_eq w (codes "e")) (Quantifier Exists) (cond (bytes_eq w (codes "a")) (Quantifier Forall)
    (cond (bytes_eq w (codes "0")) Zero (number_sign w (number_of w))))))

-- a line feed, a blank, a comment up to its line's end, or a token; fresh tells whether the line has had blanks alone
unfoldable pub piece_of : Bool → ℕ → List ℕ → Piece
piece_of fresh b bs =
    cond (b == 10) (record { sign = None; more = 0; fresh = true })
    (cond (is_blank b) (record { sign = None; more = 0; fresh = fresh })
    (cond (fresh && b == 99) (record { sign = None; more = prefix_len is_in_line bs; fresh = true })
    (record { sign = Some (sign_of (b ∷ take_while is_in_token bs)); more = prefix_len is_in_token bs; fresh = false })))

abbrev pub token_at : ℕ → Option Sign → List Token
token_at at None = []
token_at at (Some sign) = record { at = at; sign = sign } ∷ []

-- the tokens of the rest of a text, which begins at this place; its first bytes, so many, belong to what came before
unfoldable pub tokens_from : ℕ → Bool → ℕ → List ℕ → List Token
tokens_from at fresh within [] = []
tokens_from at fresh (suc within) (b ∷ bs) = tokens_from (suc at) fresh within bs
tokens_from at fresh zero (b ∷ bs) =
    token_at at (piece_of fresh b bs).sign ++ tokens_from (suc at) (piece_of fresh b bs).fresh (piece_of fresh b bs).more bs

-- the tokens of a text, with their places
abbrev pub tokens_of : List ℕ → List Token
tokens_of text = tokens_from 0 true 0 text
