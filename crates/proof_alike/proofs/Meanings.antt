-- What is so of each meaning of a reading by name is so of every meaning that is read so.
use Rattle.std.proofs.Common.{◌≡◌, refl}
use Rattle.qc_model.specs.Meaning.{Meaning, sum_equal, sum_different, sum_at_most, plus, clause}
use Rattle.proof_alike.specs.Reading.{as_sum, as_plus, as_clause, reading_of}

pub sums_only : (C : Meaning → Type 0) → C sum_equal → C sum_different → C sum_at_most → (m : Meaning) → reading_of m ≡ as_sum → C m
sums_only C x y z sum_equal e = x
sums_only C x y z sum_different e = y
sums_only C x y z sum_at_most e = z
sums_only C x y z m e = cc

pub plus_only : (C : Meaning → Type 0) → C plus → (m : Meaning) → reading_of m ≡ as_plus → C m
plus_only C x plus e = x
plus_only C x m e = cc

pub clause_only : (m : Meaning) → reading_of m ≡ as_clause → m ≡ clause
clause_only clause e = refl
clause_only m e = cc
