-- Whether what lines come to shows an outcome, where they come to anything, and what is answered.
use Rattle.std.specs.Prelude.{⊤, ◌<◌, ◌==◌, ◌^◌, ◌-◌, nat_lt, ℕ, Bool, true, false, ◌||◌, List, Option, Some, None, ℤ}
use Rattle.qc_model.specs.declared.problem.Scope.{Scope}
use Rattle.proof_tree.specs.declared.tree.Outcome.{Outcome}
use Rattle.proof_tree.specs.declared.tree.Outcome.TheVariants.{True, False, Open}
use Rattle.check_lines.specs.declared.answer.Answer.{Answer}
use Rattle.qc_check.specs.declared.finding.Answer.{Answer as Given}
use Rattle.qc_check.specs.declared.finding.Answer.TheVariants.{Yes, NotProved}
use Rattle.check_lines.specs.Shown.{answer_shows}

abbrev pub found_shows : List Scope → Option Answer → Outcome → Option ℤ → Bool
found_shows scopes None o v = false
found_shows scopes (Some f) o v = answer_shows scopes f o v

-- the turns are as many as stated, where those are the most that the machine counts
abbrev pub counts_turns : ℕ → Outcome → Bool
counts_turns turns True = true
counts_turns turns False = true
counts_turns turns (Open n) = nat_lt n (2 ^ 64 - 1) || (turns == n)

-- a number of turns has 64 bits
abbrev pub IsStatable : Outcome → Type 0
IsStatable True = ⊤
IsStatable False = ⊤
IsStatable (Open n) = n < 2 ^ 64

abbrev pub answer_of : Bool → Given
answer_of true = Yes
answer_of false = NotProved
