-- What a constraint lets one variable keep.
use Rattle.std.specs.Prelude.{ℕ, ℤ, ◌≤ℤ◌, ◌<ℤ◌, IsTrue, IsFalse}
use Rattle.qc_model.specs.Closed.{refutes_at}
use Rattle.qc_model.specs.Content.{Rule}
use Rattle.qc_model.specs.Domains.{Box, values_left, values_within, box_within, is_none_left, least_value, greatest_value}
use Rattle.qc_model.specs.Refuted.{refuted_by}
use Rattle.qc_model.specs.Valid.{is_number}

-- all values of x below low and all above high are refuted; where there are none of these, neither end of x is
pub record IsHull (c : Rule) (box : Box) (x : ℕ) (low high : ℤ) : Type 0 where
  pub small_low : IsTrue (is_number low)
  pub small_high : IsTrue (is_number high)
  pub below : (l h : ℤ) → IsFalse (is_none_left (values_within l h (values_left box x))) → h <ℤ low → IsTrue (refuted_by c (box_within box x l h))
  pub above : (l h : ℤ) → IsFalse (is_none_left (values_within l h (values_left box x))) → high <ℤ l → IsTrue (refuted_by c (box_within box x l h))
  pub first : low ≤ℤ least_value (values_left box x) → greatest_value (values_left box x) ≤ℤ high → IsFalse (refutes_at c box x (least_value (values_left box x)))
  pub last : low ≤ℤ least_value (values_left box x) → greatest_value (values_left box x) ≤ℤ high → IsFalse (refutes_at c box x (greatest_value (values_left box x)))
