-- Where the front of bytes stops being a text of some kind.
use Rattle.std.specs.Prelude.{ℕ, ◌+◌, ◌≤◌, ◌<◌, ◌≡◌, List, [], ◌∷◌, ◌++◌, length, take, ℤ, IsTrue, nat_le, unsigned_abs}
use Rattle.std.specs.Fmt.{decimal, signed_decimal}

-- The bytes don't begin with a text of the kind, and this is the first place at which it shows: the bytes before it begin
-- one, and with the byte there they neither begin one nor begin with one. It is the number of bytes where all of them begin
-- one, and aren't a whole one.
pub record IsPlace (Text : List ℕ → Type 0) (place : ℕ) (bytes : List ℕ) : Type 0 where
  pub within : place ≤ length bytes
  pub before : (rest : List ℕ) × Text (take place bytes ++ rest)
  pub here : place < length bytes → (text rest more : List ℕ) → Text text → take (place + 1) bytes ++ rest ≡ text ++ more → ⊥
  pub unfinished : (text more : List ℕ) → Text text → bytes ≡ text ++ more → ⊥

-- both end, or both go on with the same byte
abbrev pub BeginAlike : List ℕ → List ℕ → Type 0
BeginAlike [] [] = Unit {0}
BeginAlike [] (c ∷ v) = ⊥
BeginAlike (b ∷ u) [] = ⊥
BeginAlike (b ∷ u) (c ∷ v) = b ≡ c

-- the same place, as the number of bytes that are left there: those before them begin a text of the kind, and none goes on as
-- they do
pub record IsStuck (Text : List ℕ → Type 0) (bytes : List ℕ) (left : ℕ) : Type 0 where
  pub front : List ℕ
  pub tail : List ℕ
  pub whole : bytes ≡ front ++ tail
  pub many : left ≡ length tail
  pub begins : (rest : List ℕ) × Text (front ++ rest)
  pub here : (text u more : List ℕ) → Text text → front ++ u ≡ text ++ more → BeginAlike u tail → ⊥

-- these bytes
abbrev pub IsWord : List ℕ → List ℕ → Type 0
IsWord word text = text ≡ word

-- a number from 1 to the first, and then the second, a byte
abbrev pub IsCount : ℕ → ℕ → List ℕ → Type 0
IsCount most end text = (n : ℕ) × (1 ≤ n) × (n ≤ most) × (text ≡ decimal n ++ end ∷ [])

-- a number at most so far from 0, and then a byte
abbrev pub IsSigned : ℕ → ℕ → List ℕ → Type 0
IsSigned most end text = (z : ℤ) × IsTrue (nat_le (unsigned_abs z) most) × (text ≡ signed_decimal z ++ end ∷ [])

-- a text of the one kind, and then one of the other
abbrev pub Then : (List ℕ → Type 0) → (List ℕ → Type 0) → List ℕ → Type 0
Then A B text = (a : List ℕ) × (b : List ℕ) × A a × B b × (text ≡ a ++ b)

-- the first byte is neither a sign nor 0
abbrev pub BeginsPlain : List ℕ → Type 0
BeginsPlain [] = ⊥
BeginsPlain (c ∷ cs) = (c ≡ 45 → ⊥) × (c ≡ 48 → ⊥)
