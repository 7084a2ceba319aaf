-- What a store holds, as its callers see it.
use Rattle.std.specs.Prelude.{◌≡◌, ◌≢◌, ◌≤◌, ◌+◌, ◌/◌, ℕ, cond, List, [], ◌∷◌, length, sum_by, slice_index_or, ℤ, ◌-ℤ◌, nat_abs, int_lt, int_le, filter, Option, None, Some}
use Rattle.std.specs.Int.{int_min, int_max}
use Rattle.qc_model.specs.Domains.{Box, Values, values_left, is_none_left, least_value, greatest_value}
use Rattle.fd_store.specs.declared.answer.Removed.{Removed}
use Rattle.fd_store.specs.declared.answer.Removed.TheVariants.{Nothing, Emptied, Some as SomeGone}

-- the values left, the boxes that undoing the trail down to 0, 1, .. places gives, and how many more places it takes
pub record Held : Type 0 where
  pub box : List (List ℤ)
  pub past : List (List (List ℤ))
  pub spare : ℕ

abbrev pub trail_len : Held → ℕ
trail_len s = length s.past

-- the box that undoing the trail down to n gives; at the trail's length it is the box itself
abbrev pub past_box : Held → ℕ → Box
past_box s n = slice_index_or s.past n s.box

-- how many values are left to all variables together
abbrev pub count_left : Box → ℕ
count_left box = sum_by length box

-- t comes after s, and undoing leads from t back to s
pub record Follows (s t : Held) : Type 0 where
  pub longer : trail_len s ≤ trail_len t
  pub boxes : (k : ℕ) → k ≤ trail_len s → past_box t k ≡ past_box s k

-- t is what undoing s down to n gives
pub record IsUndone (n : ℕ) (s t : Held) : Type 0 where
  pub len : trail_len t ≡ n
  pub boxes : (k : ℕ) → k ≤ n → past_box t k ≡ past_box s k

-- the boxes have the same values of all variables but this one
abbrev pub AgreeApart : ℕ → Box → Box → Type 0
AgreeApart x box now = (y : ℕ) → y ≢ x → values_left box y ≡ values_left now y

-- what a removal answers, from the values that go and those that stay
abbrev pub removal : Values → Values → Removed
removal [] stay = Nothing
removal (v ∷ go) [] = Emptied
removal (v ∷ go) (w ∷ stay) = SomeGone

-- how many words of 64 places the numbers from low to high can touch, wherever the first place stands
abbrev pub words_between : ℤ → ℤ → ℕ
words_between low high = cond (int_lt high low) 0 (nat_abs (high -ℤ low) / 64 + 2)

-- how many places of the trail a removal takes at most
abbrev pub removal_need : Values → ℤ → ℤ → ℕ
removal_need vs low high =
    cond (is_none_left vs) 0 (words_between (int_max low (least_value vs)) (int_min high (greatest_value vs)))

-- the values from low on, and those up to high
abbrev pub values_from : ℤ → Values → Values
values_from low vs = filter (int_le low) vs

abbrev pub values_up_to : ℤ → Values → Values
values_up_to high vs = filter (λ v. int_le v high) vs

-- the least of the values, and the greatest, where there is one
abbrev pub least_of : Values → Option ℤ
least_of [] = None
least_of (v ∷ vs) = Some (least_value (v ∷ vs))

abbrev pub greatest_of : Values → Option ℤ
greatest_of [] = None
greatest_of (v ∷ vs) = Some (greatest_value (v ∷ vs))
