-- Where a case of a branch ends.
use Rattle.std.specs.Prelude.{◌≡◌, Bool, true, ◌&&◌, Option, Some, ℤ, pos, ◌+ℤ◌, int_lt, IsTrue}
use Rattle.qc_model.specs.Domains.{Values, values_within, has_value}
use Rattle.qc_model.specs.Valid.{is_number}
use Rattle.proof_tree.specs.Cover.{covered, uncovered, is_cover}
use Rattle.fd_store.specs.Held.{values_from, least_of}

-- of the values from `from` on the case covers those from the first to the last, and leaves those beyond it
pub record IsCase (vs : Values) (from : ℤ) (upto : Option ℤ) (first last : ℤ) : Type 0 where
  pub is : is_cover upto (values_from from vs) ≡ true
  pub covers : covered upto (values_from from vs) ≡ values_within first last vs
  pub leaves : uncovered upto (values_from from vs) ≡ values_from (last +ℤ pos 1) vs
  -- it begins at the least of them
  pub begins : Some first ≡ least_of (values_from from vs)
  pub first_number : IsTrue (is_number first)
  pub last_number : IsTrue (is_number last)

-- the upper value of a case is one of the values, and above the first
abbrev pub has_above : Values → ℤ → ℤ → Bool
has_above vs first high = int_lt first high && has_value vs high
