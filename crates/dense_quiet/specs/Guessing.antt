-- What a guess that is sure promises.
use Rattle.std.specs.Prelude.{ℕ, ◌<◌, ◌+◌, ◌⊎◌, Bool, not, ◌||◌, cond, List, length, get_or, set, IsTrue, IsFalse, ℤ, pos, ◌-ℤ◌, int_lt}
use Rattle.std.specs.List.{list_all}
use Rattle.qc_model.specs.declared.problem.Arg.{Arg}
use Rattle.qc_model.specs.declared.problem.Argument.{Argument}
use Rattle.qc_model.specs.Content.{Rule}
use Rattle.qc_model.specs.Domains.{Values, Box, values_left, has_value, is_none_left, is_within}
use Rattle.qc_model.specs.Ranges.{Range, range_of}
use Rattle.qc_model.specs.Refuted.{left_to, refuted_by}
use Rattle.model_arguments.specs.Repeats.{is_variable}
use Rattle.model_arguments.specs.Written.{arg_at, ints_at}
use Rattle.dense_quiet.specs.declared.stretch.Stretch.{Stretch}

-- where p holds of some of the values, whichever these are, the test passes for them together
abbrev pub PassesFor : (Values → Bool) → Values → (ℤ → Bool) → Type 0
PassesFor test d p = (vs : Values) → IsFalse (is_none_left vs) → IsTrue (list_all (has_value d) vs) → IsTrue (list_all p vs) → IsTrue (test vs)

-- so it does for values below low, and for values above high
pub record PassesOutside (test : Values → Bool) (d : Values) (low high : ℤ) : Type 0 where
  pub below : PassesFor test d (λ v. int_lt v low)
  pub above : PassesFor test d (λ v. int_lt high v)

-- the constraint refutes the box with these values alone left to x
abbrev pub refuted_with : Rule → ℕ → Box → Values → Bool
refuted_with c x box vs = refuted_by c (set box x vs)

-- so it does with any of those left to x below low, and with any of those above high
abbrev pub IsKept : Rule → ℕ → Box → ℤ → ℤ → Type 0
IsKept c x box low high = PassesOutside (refuted_with c x box) (values_left box x) low high

-- and with any that aren't from low to high, on both sides at once
abbrev pub IsSpared : Rule → ℕ → Box → ℤ → ℤ → Type 0
IsSpared c x box low high = (vs : Values) → IsTrue (list_all (has_value (values_left box x)) vs) → IsTrue (list_all (λ v. not (is_within low high v)) vs) → IsTrue (refuted_with c x box vs)

-- x is the argument, and the test passes for what is left to it outside
pub record KeepsIn (test : Values → Bool) (x : ℕ) (a : Arg) (box : Box) (low high : ℤ) : Type 0 where
  pub own : IsTrue (is_variable a x)
  pub outside : PassesOutside test (left_to box a) low high

-- x is one of three arguments, and what refutes these passes for what is left to it outside
abbrev pub KeepsOneOf : (Values → Values → Values → Bool) → ℕ → Arg → Arg → Arg → Box → ℤ → ℤ → Type 0
KeepsOneOf test x a b c box low high =
    KeepsIn (λ d. test d (left_to box b) (left_to box c)) x a box low high
    ⊎ (KeepsIn (λ d. test (left_to box a) d (left_to box c)) x b box low high ⊎ KeepsIn (λ d. test (left_to box a) (left_to box b) d) x c box low high)

-- a stretch as a range, and what a number of the one less one of the other can be
abbrev pub range_kept : Stretch → Range
range_kept s = range_of s.low s.high

abbrev pub range_less : Range → Range → Range
range_less a b = range_of (a.from -ℤ b.to) (a.to -ℤ b.from)

-- where a place of the array, counted from 1, and its number are both left, the place is from low to high; or, if not for places, the
-- number is
abbrev pub IsSpread : Bool → Values → List ℤ → Values → ℤ → ℤ → Type 0
IsSpread places b ns c low high = (k : ℕ) → k < length ns → IsTrue (has_value b (pos (k + 1))) → IsTrue (has_value c (get_or ns k (pos 0))) → IsTrue (is_within low high (cond places (pos (k + 1)) (get_or ns k (pos 0))))

-- x is the place in the array, or else the number there, and those left together are from low to high
pub record IsSpreadOf (args : List Argument) (x : ℕ) (box : Box) (low high : ℤ) : Type 0 where
  pub own : IsTrue (is_variable (arg_at args 0) x || is_variable (arg_at args 2) x)
  pub spread : IsSpread (is_variable (arg_at args 0) x) (left_to box (arg_at args 0)) (ints_at args 1) (left_to box (arg_at args 2)) low high
