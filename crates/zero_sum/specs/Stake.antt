-- Games in which both sides care for one quantity, and what that is.
use Rattle.std.specs.Prelude.{ℕ, suc, ◌==◌, Bool, true, false, ◌&&◌, ◌||◌, cond, length, List, [], ◌∷◌, Option, Some, None, is_none, is_some, slice_get, ℤ, int_le}
use Rattle.std.specs.List.{list_all}
use Rattle.qc_model.specs.declared.problem.Kind.{Kind}
use Rattle.qc_model.specs.declared.problem.Kind.TheVariants.{Exists, Forall}
use Rattle.qc_model.specs.declared.problem.Sense.{Sense}
use Rattle.qc_model.specs.declared.problem.Sense.TheVariants.{Min, Max}
use Rattle.qc_model.specs.declared.problem.Fold.{Fold}
use Rattle.qc_model.specs.declared.problem.Fold.TheVariants.{Least, Greatest}
use Rattle.qc_model.specs.declared.problem.Target.{Target}
use Rattle.qc_model.specs.declared.problem.Target.TheVariants.{Var, Aggregate as Agg}
use Rattle.qc_model.specs.declared.problem.VarId.{VarId}
use Rattle.qc_model.specs.declared.problem.Condition.{Condition}
use Rattle.qc_model.specs.declared.problem.Scope.{Scope}
use Rattle.qc_model.specs.declared.problem.Aggregate.{Aggregate}
use Rattle.qc_model.specs.Content.{Game}
use Rattle.qc_model.specs.Game.{restriction}
use Rattle.qc_model.specs.Value.{aggregate_fold, inner_target}
use Rattle.zero_sum.specs.declared.stake.Stake.{Stake}

-- x is at least as good as v
abbrev pub is_as_good : Sense → ℤ → ℤ → Bool
is_as_good Min x v = int_le x v
is_as_good Max x v = int_le v x

-- the fold counts the branch that is worst for the player
abbrev pub is_worst : Sense → Fold → Bool
is_worst Min (Greatest d) = true
is_worst Max (Least d) = true
is_worst c f = false

-- an aggregate by such a fold
abbrev pub is_by_worst : Sense → Option Aggregate → Bool
is_by_worst c None = false
is_by_worst c (Some q) = is_worst c q.fold

-- the condition of the first scope, where that is the player's and no later scope has one
abbrev pub only_wish_at : Kind → Option Condition → List Scope → Option Condition
only_wish_at Exists x later = cond (list_all (λ s. is_none s.condition) later) x None
only_wish_at Forall x later = None

abbrev pub only_wish : List Scope → Option Condition
only_wish [] = None
only_wish (s ∷ later) = only_wish_at s.kind s.condition later

-- x is at stake, and the player has to answer for it at this place, if there is one
abbrev pub stake_at : Sense → VarId → Option ℕ → Option Stake
stake_at c x None = None
stake_at c x (Some p) = Some (record { sense = c; variable = x; place = record { 0 = p } })

-- at a scope with the number i: past one of the player the place for an answer is this scope; at one of the opponent a variable
-- is answered for before, and an aggregate by the worst branch stands for its own target, for which no place is found yet
abbrev pub stake_past : Kind → Game → Sense → ℕ → (Option ℕ → Target → Option Stake) → Option ℕ → Target → Option Stake
stake_past Exists g c i after p t = after (Some i) t
stake_past Forall g c i after p (Var x) = stake_at c x p
stake_past Forall g c i after p (Agg q) =
    cond (is_by_worst c (slice_get g.aggregates q.0)) (after None (inner_target (slice_get g.aggregates q.0))) None

-- what is at stake in the target, where p is the player's last place so far since the opponent moved: the variable whose value
-- counts in each branch, and the player's last scope before the opponent's next one, or the goal where none follows.
-- later has the scopes from i on
abbrev pub stake_from : Game → Sense → List Scope → ℕ → Option ℕ → Target → Option Stake
stake_from g c [] i p (Var x) = stake_at c x (Some i)
stake_from g c [] i p (Agg q) = None
stake_from g c (s ∷ later) i p t = stake_past s.kind g c i (stake_from g c later (suc i)) p t

abbrev pub stake_by : Game → Option Condition → Option Stake
stake_by g None = None
stake_by g (Some c) = stake_from g c.sense g.scopes 0 None c.target

-- what is at stake in the game, where it is zero-sum: only the first scope has a condition, each aggregate that it comes to is by
-- the worst branch, and the player can answer for the variable at the end of them
abbrev pub stake_of : Game → Option Stake
stake_of g = stake_by g (only_wish g.scopes)

abbrev pub is_zero_sum : Game → Bool
is_zero_sum g = is_some (stake_of g)

-- no constraint keeps the opponent of scope i from moving
abbrev pub is_free : Game → ℕ → Bool
is_free g i = length (restriction g i) == 0

-- at a scope with the number i: where the opponent may have no move, the aggregate is then at least as good as v
abbrev pub defaults_past : Kind → Game → Sense → ℤ → ℕ → (Target → Bool) → Target → Bool
defaults_past Exists g c v i after t = after t
defaults_past Forall g c v i after (Var x) = true
defaults_past Forall g c v i after (Agg q) =
    (is_free g i || is_as_good c (aggregate_fold (slice_get g.aggregates q.0) []) v) && after (inner_target (slice_get g.aggregates q.0))

abbrev pub defaults_from : Game → Sense → ℤ → List Scope → ℕ → Target → Bool
defaults_from g c v [] i t = true
defaults_from g c v (s ∷ later) i t = defaults_past s.kind g c v i (defaults_from g c v later (suc i)) t

abbrev pub defaults_by : Game → ℤ → Option Condition → Bool
defaults_by g v None = true
defaults_by g v (Some c) = defaults_from g c.sense v g.scopes 0 c.target

-- so it is at each of the aggregates that the wish comes to
abbrev pub defaults_fit : Game → ℤ → Bool
defaults_fit g v = defaults_by g v (only_wish g.scopes)
