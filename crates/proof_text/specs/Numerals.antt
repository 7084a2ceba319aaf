-- Numbers, as far as they are read.
use Rattle.std.specs.Prelude.{ℕ, ◌≤◌, ◌≡◌, List, [], ◌∷◌, ◌++◌, Some, None, IsTrue, nat_le, unsigned_abs}
use Rattle.std.specs.Fmt.{decimal, signed_decimal}
use Rattle.proof_text.specs.declared.numeral.Counted.{Counted}
use Rattle.proof_text.specs.declared.numeral.Counted.TheVariants.{Start, Digits}
use Rattle.proof_text.specs.declared.numeral.CountedNext.{CountedNext}
use Rattle.proof_text.specs.declared.numeral.CountedNext.TheVariants.{More, Done, Wrong}
use Rattle.proof_text.specs.declared.numeral.Signed.{Signed}
use Rattle.proof_text.specs.declared.numeral.Signed.TheVariants.{Start as SignedStart, Zero, Positive, Negative}
use Rattle.proof_text.specs.declared.numeral.SignedNext.{SignedNext}
use Rattle.proof_text.specs.declared.numeral.SignedNext.TheVariants.{More as SignedMore, Done as SignedDone, Wrong as SignedWrong}
use Rattle.proof_text.specs.Symbols.{Symbol, byte, number, signed, digits, after}

-- the rest of the number and its end, as a text owes it
abbrev pub counted_owes : ℕ → ℕ → Counted → Symbol
counted_owes most end Start = number most end
counted_owes most end (Digits value) = digits most value end

-- the bytes of it so far
abbrev pub counted_text : Counted → List ℕ
counted_text Start = []
counted_text (Digits value) = decimal value

abbrev pub FitsCounted : ℕ → Counted → Type 0
FitsCounted most Start = Unit {0}
FitsCounted most (Digits value) = (1 ≤ value) × (value ≤ most)

-- how it goes on with a byte
abbrev pub CountedGoes : ℕ → ℕ → Counted → ℕ → CountedNext → Type 0
CountedGoes most end so_far b (More next) = (after (counted_owes most end so_far) b ≡ Some (counted_owes most end next ∷ [])) × (counted_text next ≡ counted_text so_far ++ b ∷ []) × FitsCounted most next
CountedGoes most end so_far b (Done value) = (after (counted_owes most end so_far) b ≡ Some []) × (b ≡ end) × (counted_text so_far ≡ decimal value) × (1 ≤ value) × (value ≤ most)
CountedGoes most end so_far b Wrong = after (counted_owes most end so_far) b ≡ None

abbrev pub signed_owes : ℕ → ℕ → Signed → Symbol
signed_owes most end SignedStart = signed most end
signed_owes most end Zero = byte end
signed_owes most end (Positive c) = counted_owes most end c
signed_owes most end (Negative c) = counted_owes most end c

abbrev pub signed_text : Signed → List ℕ
signed_text SignedStart = []
signed_text Zero = 48 ∷ []
signed_text (Positive c) = counted_text c
signed_text (Negative c) = 45 ∷ counted_text c

abbrev pub FitsSigned : ℕ → Signed → Type 0
FitsSigned most SignedStart = Unit {0}
FitsSigned most Zero = Unit {0}
FitsSigned most (Positive c) = FitsCounted most c
FitsSigned most (Negative c) = FitsCounted most c

abbrev pub SignedGoes : ℕ → ℕ → Signed → ℕ → SignedNext → Type 0
SignedGoes most end so_far b (SignedMore next) = (after (signed_owes most end so_far) b ≡ Some (signed_owes most end next ∷ [])) × (signed_text next ≡ signed_text so_far ++ b ∷ []) × FitsSigned most next
SignedGoes most end so_far b (SignedDone value) = (after (signed_owes most end so_far) b ≡ Some []) × (b ≡ end) × (signed_text so_far ≡ signed_decimal value) × IsTrue (nat_le (unsigned_abs value) most)
SignedGoes most end so_far b SignedWrong = after (signed_owes most end so_far) b ≡ None
