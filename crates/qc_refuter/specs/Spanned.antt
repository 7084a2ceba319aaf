-- Spans as ranges of the table.
use Rattle.std.specs.Prelude.{Bool, ◌&&◌}
use Rattle.fd_interval.specs.declared.span.Span.{Span}
use Rattle.qc_model.specs.Ranges.{Range, range_of}
use Rattle.qc_model.specs.Valid.{is_number}

abbrev pub range_in : Span → Range
range_in s = range_of s.lo s.hi

-- both ends are within the limit of numbers
abbrev pub is_small : Span → Bool
is_small s = is_number s.lo && is_number s.hi
