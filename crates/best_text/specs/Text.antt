-- The text of a proof that a value is best: two lists of lemmas under one head.
use Rattle.std.specs.Prelude.{ℕ, ◌≤◌, ◌≡◌, List, [], ◌∷◌, ◌++◌, length, codes, ℤ, IsTrue}
use Rattle.std.specs.Fmt.{decimal, signed_decimal}
use Rattle.qc_model.specs.Valid.{is_number}
use Rattle.lemma_text.specs.Places.{IsText}

-- the version of the text, the value, and how many bytes the first list has
abbrev pub head_text : ℤ → ℕ → List ℕ
head_text v n = codes "qcert 3\nbest " ++ (signed_decimal v ++ 32 ∷ (decimal n ++ 10 ∷ []))

-- the value is a number of the problem text, and the first list has 2^30 bytes at most
pub record HeadFits (v : ℤ) (n : ℕ) : Type 0 where
  pub value : IsTrue (is_number v)
  pub low : 1 ≤ n
  pub high : n ≤ 1073741824

abbrev pub IsHead : List ℕ → Type 0
IsHead text = (v : ℤ) × (n : ℕ) × HeadFits v n × (text ≡ head_text v n)

-- the one text of a value and of the texts of two lists
abbrev pub best_text : ℤ → List ℕ → List ℕ → List ℕ
best_text v first second = head_text v (length first) ++ (first ++ second)

-- the bytes are that text
pub record IsBestText (bytes : List ℕ) (v : ℤ) (first second : List ℕ) : Type 0 where
  pub spelled : bytes ≡ best_text v first second
  pub fits : HeadFits v (length first)
  pub first_is : IsText first
  pub second_is : IsText second
