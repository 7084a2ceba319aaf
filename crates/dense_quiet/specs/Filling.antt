-- Numbers that items fill, with x among them.
use Rattle.std.specs.Prelude.{ℕ, Bool, ◌&&◌, ◌||◌, ℤ, pos, ◌+ℤ◌, ◌-ℤ◌, int_le, int_lt}
use Rattle.qc_model.specs.declared.problem.Arg.{Arg}
use Rattle.qc_model.specs.Domains.{Box, least_value, greatest_value}
use Rattle.qc_model.specs.Refuted.{left_to}
use Rattle.model_arguments.specs.Repeats.{is_variable}

-- the item is x, or all that is left to it is from low to high
abbrev pub is_counted : ℤ → ℤ → ℕ → Box → Arg → Bool
is_counted low high x box a = is_variable a x || (int_le low (least_value (left_to box a)) && int_le (greatest_value (left_to box a)) high)

-- there are some numbers from low to high, but fewer than n
abbrev pub outnumbers : ℕ → ℤ → ℤ → Bool
outnumbers n low high = int_le low high && int_lt ((high -ℤ low) +ℤ pos 1) (pos n)
