-- Two spans of constraints, closed in turn.
use Rattle.std.specs.Prelude.{ℕ, Bool, ◌||◌}
use Rattle.model_arguments.specs.declared.spans.Span.{Span}
use Rattle.prop_engine.specs.Closing.{is_between}

-- the number is in one of the spans
abbrev pub is_either : Span → Span → ℕ → Bool
is_either s t k = is_between s.first s.end k || is_between t.first t.end k
