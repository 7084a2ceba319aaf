-- Constraints stand in the order of their owners: those of some scopes in a row, and of the goal, are one span of numbers.
use Rattle.std.specs.Prelude.{◌≡◌, ◌<◌, ◌≤◌, ◌-◌, ◌+◌, ℕ, nat_lt, nat_le, Bool, false, ◌&&◌, Option, Some, None, List, length, take, drop, count_by, slice_get, slice_index}
use Rattle.std.specs.Option.{option_map}
use Rattle.qc_model.specs.declared.problem.Kind.{Kind}
use Rattle.qc_model.specs.Content.{Game, Rule}
use Rattle.qc_model.specs.Block.{is_owned_within, constraints_within}

-- how many constraints belong to scopes before i
abbrev pub constraints_before : Game → ℕ → ℕ
constraints_before g i = count_by (λ c. nat_lt c.owner.0 i) g.constraints

-- the number is from first to the one before end
abbrev pub is_between : ℕ → ℕ → ℕ → Bool
is_between first end k = nat_le first k && nat_lt k end

abbrev pub is_rule_within : ℕ → ℕ → Option Rule → Bool
is_rule_within i stop None = false
is_rule_within i stop (Some c) = is_owned_within i stop c

-- constraint k is of the scopes, or the goal, from i to the one before stop
abbrev pub is_number_within : Game → ℕ → ℕ → ℕ → Bool
is_number_within g i stop k = is_rule_within i stop (slice_get g.constraints k)

-- the numbers from first to the one before end are those of the constraints of the scopes, or the goal, from i to
-- the one before stop
pub record IsSpanOf (g : Game) (i stop first end : ℕ) : Type 0 where
  pub slice : take (end - first) (drop first g.constraints) ≡ constraints_within g i stop
  pub numbers : (k : ℕ) → is_between first end k ≡ is_number_within g i stop k
  pub rises : first ≤ end
  pub within : end ≤ length g.constraints

-- who owns scope i
abbrev pub kind_at : Game → ℕ → Option Kind
kind_at g i = option_map (λ s. s.kind) (slice_get g.scopes i)

-- where the constraints of each scope begin, those of the goal, and where those end
pub record ArePlaces (g : Game) (places : List ℕ) : Type 0 where
  pub count : length places ≡ length g.scopes + 2
  pub each : (i : ℕ) → i < length places → slice_index places i ≡ constraints_before g i
