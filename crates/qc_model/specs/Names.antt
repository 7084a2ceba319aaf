-- Names of variables and aggregates.
use Rattle.std.specs.Prelude.{◌==◌, ℕ, Bool, true, false, not, ◌&&◌, ◌||◌, List, [], ◌∷◌, codes}
use Rattle.std.specs.Char.{is_ascii_alphabetic, is_ascii_digit}
use Rattle.std.specs.List.{list_any, list_all}
use Rattle.std.specs.Str.{bytes_eq}

-- a letter or an underscore
abbrev pub is_first_byte : ℕ → Bool
is_first_byte b = is_ascii_alphabetic b || b == 95

abbrev pub is_word_byte : ℕ → Bool
is_word_byte b = is_first_byte b || is_ascii_digit b

-- a letter or an underscore, and then letters, digits and underscores
abbrev pub is_word : List ℕ → Bool
is_word [] = false
is_word (b ∷ bs) = is_first_byte b && list_all is_word_byte bs

abbrev pub reserved_words : List (List ℕ)
reserved_words =
    codes "exists" ∷ codes "forall" ∷ codes "goal" ∷ codes "solve" ∷ codes "var" ∷ codes "bool" ∷ codes "aggregate" ∷ codes "sum"
    ∷ codes "least" ∷ codes "greatest" ∷ codes "else" ∷ codes "minimize" ∷ codes "maximize" ∷ codes "constraint" ∷ codes "true"
    ∷ codes "false" ∷ []

-- a word that isn't reserved
abbrev pub is_name : List ℕ → Bool
is_name w = is_word w && not (list_any (bytes_eq w) reserved_words)

-- no name stands twice
abbrev pub names_differ : List (List ℕ) → Bool
names_differ [] = true
names_differ (n ∷ ns) = not (list_any (bytes_eq n) ns) && names_differ ns
