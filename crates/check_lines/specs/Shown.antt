-- Whether what lines come to shows an outcome.
use Rattle.std.specs.Prelude.{◌==◌, Bool, false, not, ◌&&◌, List, [], Option, Some, None, ℤ}
use Rattle.qc_model.specs.declared.problem.Scope.{Scope}
use Rattle.qc_model.specs.Verdict.{Verdict, is_exact, is_lost, is_unknown}
use Rattle.joins.specs.Seen.{verdict_of}
use Rattle.proof_tree.specs.declared.tree.Outcome.{Outcome}
use Rattle.proof_tree.specs.declared.tree.Outcome.TheVariants.{True, False, Open}
use Rattle.proof_tree.specs.Proves.{optimises_first, is_value}
use Rattle.check_lines.specs.declared.answer.Answer.{Answer}

-- the verdict but for its vector
abbrev pub bare_verdict : Answer → Verdict
bare_verdict f = verdict_of f.found []

-- an optimum stands beside True where the first of the scopes optimises, and there alone
abbrev pub answer_shows : List Scope → Answer → Outcome → Option ℤ → Bool
answer_shows scopes f True None = is_exact (bare_verdict f) && not (optimises_first scopes)
answer_shows scopes f True (Some v) = is_exact (bare_verdict f) && optimises_first scopes && is_value v f.own
answer_shows scopes f False None = is_lost (bare_verdict f)
answer_shows scopes f False (Some v) = false
answer_shows scopes f (Open n) None = is_unknown (bare_verdict f) && (f.turns == n) && f.has_open
answer_shows scopes f (Open n) (Some v) = false
