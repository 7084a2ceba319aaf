-- Boxes that are closed for the constraints whose numbers pass a test.
use Rattle.std.specs.Prelude.{◌≡◌, ◌<◌, ◌==◌, ℕ, nat_le, nat_lt, Bool, ◌&&◌, Some, List, length, slice_get, IsTrue, IsFalse}
use Rattle.std.specs.List.{list_any}
use Rattle.qc_model.specs.declared.problem.ConId.{ConId}
use Rattle.qc_model.specs.Content.{Game, Rule}
use Rattle.qc_model.specs.Closed.{keeps_ends}
use Rattle.qc_model.specs.Domains.{Box, has_empty}
use Rattle.proof_tree.specs.declared.tree.Step.{Step}
use Rattle.prop_base.specs.declared.answer.Filtered.{Filtered}
use Rattle.prop_base.specs.declared.answer.Filtered.TheVariants.{Emptied, Stable, Changed}
use Rattle.prop_engine.specs.declared.answer.Closed.{Closed}
use Rattle.prop_engine.specs.declared.answer.Closed.TheVariants.{Open, Empty}

-- the number is one of the list, or from first to the one before last
abbrev pub has_constraint : List ConId → ℕ → Bool
has_constraint cs k = list_any (λ c. c.0 == k) cs

abbrev pub is_between : ℕ → ℕ → ℕ → Bool
is_between first last k = nat_le first k && nat_lt k last

-- each constraint with such a number passes
abbrev pub EachRule : (ℕ → Bool) → Game → (Rule → Bool) → Type 0
EachRule ok g p = (k : ℕ) (c : Rule) → IsTrue (ok k) → slice_get g.constraints k ≡ Some c → IsTrue (p c)

-- no domain is empty, and no such constraint refutes an end of a variable of its own
abbrev pub IsClosedFor : (ℕ → Bool) → Game → Box → Type 0
IsClosedFor ok g box = IsFalse (has_empty box) × EachRule ok g (keeps_ends box)

-- what closing answers, by the box that it leaves
abbrev pub IsClosing : Closed → (ℕ → Bool) → Game → Box → Type 0
IsClosing Open ok g box = IsClosedFor ok g box
IsClosing Empty ok g box = IsTrue (has_empty box)

-- what one round answers, by the box that it leaves and the steps before and after
abbrev pub IsRound : Filtered → (ℕ → Bool) → Game → Box → List Step → List Step → Type 0
IsRound Emptied ok g box steps then = IsTrue (has_empty box)
IsRound Stable ok g box steps then = IsClosedFor ok g box
IsRound Changed ok g box steps then = IsFalse (has_empty box) × (length steps < length then)

-- what one filter answers, by the box and the steps before and after
abbrev pub IsRun : Filtered → (ℕ → Bool) → Game → Box → Box → List Step → List Step → Type 0
IsRun Emptied ok g box left steps then = IsTrue (has_empty left)
IsRun Stable ok g box left steps then = (left ≡ box) × (then ≡ steps) × EachRule ok g (keeps_ends left)
IsRun Changed ok g box left steps then = IsFalse (has_empty left) × (length steps < length then) × EachRule ok g (keeps_ends left)
