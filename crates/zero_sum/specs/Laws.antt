-- What two games without wishes say of the optimum.
use Rattle.std.specs.Prelude.{◌≡◌, [], map, Option, Some, None, IsTrue, ℤ}
use Rattle.qc_model.specs.declared.problem.Condition.{Condition}
use Rattle.qc_model.specs.Content.{Game}
use Rattle.qc_model.specs.Game.{IsWon}
use Rattle.qc_model.specs.Plan.{Plan}
use Rattle.qc_model.specs.Value.{value}
use Rattle.qc_model.specs.Optimal.{Optimal}
use Rattle.qc_model.specs.Valid.{IsValid}
use Rattle.proof_tree.specs.Meaning.{IsOptimum}
use Rattle.zero_sum.specs.declared.stake.Stake.{Stake}
use Rattle.zero_sum.specs.Stake.{is_as_good, only_wish, stake_of, defaults_fit}
use Rattle.zero_sum.specs.Bounded.{next_better, plain, bounded_game}

-- a strategy that wins: it is optimal where nobody wishes anything
abbrev pub IsWinning : Game → Plan → Type 0
IsWinning g s = Optimal g (map plain g.scopes) 0 [] s

-- some strategy wins with a value of the wish's target that is at least as good as v
abbrev pub CanHave : Game → Option Condition → ℤ → Type 0
CanHave g None v = ⊥
CanHave g (Some c) v = (s : Plan) × IsWinning g s × IsTrue (is_as_good c.sense (value g s c.target []) v)

-- the games without wishes tell the optimum of the game g, in which z is at stake
pub record TellsOptimum (g : Game) (z : Stake) : Type 0 where
  -- whoever has a value wins the game bounded by it, and the other way round where the defaults fit
  pub wins : (v : ℤ) → CanHave g (only_wish g.scopes) v → IsWon (bounded_game g z v)
  pub has : (v : ℤ) → IsTrue (defaults_fit g v) → IsWon (bounded_game g z v) → CanHave g (only_wish g.scopes) v
  -- v is the optimum where it can be had, and the next better value can't
  pub optimum : (v : ℤ) → IsTrue (defaults_fit g v) → IsWon (bounded_game g z v) → ¬ IsWon (bounded_game g z (next_better z.sense v)) → IsWon g × IsOptimum g.scopes g v
  -- and an optimum can be had, and where the defaults fit nothing better can
  pub is_had : (v : ℤ) → IsOptimum g.scopes g v → IsWon (bounded_game g z v)
  pub is_best : (v : ℤ) → IsOptimum g.scopes g v → IsTrue (defaults_fit g (next_better z.sense v)) → ¬ IsWon (bounded_game g z (next_better z.sense v))

abbrev pub OptimumByTwoGames : Type 0
OptimumByTwoGames = (g : Game) (z : Stake) → IsValid g → stake_of g ≡ Some z → TellsOptimum g z
