-- Whether what lines come to shows what a head states.
use Rattle.std.specs.Prelude.{Bool, false, Option, Some, None, List}
use Rattle.qc_model.specs.declared.problem.Scope.{Scope}
use Rattle.check_lines.specs.declared.answer.Answer.{Answer as Told}
use Rattle.check_lines.specs.Shown.{answer_shows}
use Rattle.dense_nest.specs.declared.answer.Answer.{Answer}
use Rattle.dense_judge.specs.declared.heads.Head.{Head}

abbrev pub told_of : Answer → Told
told_of a = record { found = a.found; own = a.own; turns = a.turns; has_open = a.has_open }

-- nothing is shown where a line was out of place
abbrev pub is_shown : List Scope → Option Answer → Head → Bool
is_shown scopes None h = false
is_shown scopes (Some a) h = answer_shows scopes (told_of a) h.outcome h.optimum
