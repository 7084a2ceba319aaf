-- What the game with opposing scopes has to do with the worst ties of the old one.
use Rattle.std.specs.Prelude.{◌≡◌, ◌↔◌, ℕ, Bool, true, false, suc, List, [], ◌∷◌, Option, Some, None, ⊤, IsFalse, ℤ}
use Rattle.qc_model.specs.declared.problem.Condition.{Condition}
use Rattle.qc_model.specs.declared.problem.Scope.{Scope}
use Rattle.qc_model.specs.declared.problem.Target.{Target}
use Rattle.qc_model.specs.Content.{Game}
use Rattle.qc_model.specs.Game.{IsWon}
use Rattle.qc_model.specs.Plan.{Plan}
use Rattle.qc_model.specs.Value.{value}
use Rattle.qc_model.specs.Optimal.{is_better, Optimal}
use Rattle.proof_tree.specs.Meaning.{IsOptimum}
use Rattle.qc_pessimist.specs.Worst.{chosen_wish, OptimalAtWorst, IsPessimisticOptimum}
use Rattle.qc_pessimist.specs.Opposed.{with_empty_choices}

-- the game h tells what the game g comes to where the owners of the scopes with q meet the worst ties
pub record ReadsAtWorst (q : ℕ → Bool) (g h : Game) : Type 0 where
  -- with an empty choice put in after each choice of a chosen scope, a strategy is optimal in h exactly where it is optimal in g with the worst ties ..
  pub strategies : (s : Plan) → OptimalAtWorst q g g.scopes 0 [] s ↔ Optimal h h.scopes 0 [] (with_empty_choices q g.scopes 0 s)
  -- .. and h has no other optimal strategies
  pub no_others : (p : Plan) → Optimal h h.scopes 0 [] p → (s : Plan) × (p ≡ with_empty_choices q g.scopes 0 s)
  -- each target is worth the same
  pub worth : (s : Plan) (x : Target) → value h (with_empty_choices q g.scopes 0 s) x [] ≡ value g s x []
  -- both are won or neither, and they are where there is such a strategy
  pub won : IsWon h ↔ IsWon g
  pub won_by_strategy : IsWon g ↔ ((s : Plan) × OptimalAtWorst q g g.scopes 0 [] s)
  -- the optimum of the one is the pessimistic optimum of the other
  pub optimum : (v : ℤ) → IsOptimum h.scopes h v ↔ IsPessimisticOptimum q g.scopes g v

-- the condition of the first scope, where that is existential
abbrev pub first_wish : List Scope → Option Condition
first_wish [] = None
first_wish (s ∷ later) = chosen_wish true s.kind s.condition

-- v isn't better than w
abbrev pub NoBetterValue : Option Condition → ℤ → ℤ → Type 0
NoBetterValue None v w = ⊤
NoBetterValue (Some c) v w = IsFalse (is_better c.sense v w)

-- no strategy with S has a better value of the condition's target than one with O
abbrev pub NoBetterBy : Option Condition → Game → (Plan → Type 0) → (Plan → Type 0) → Type 0
NoBetterBy None g S O = ⊤
NoBetterBy (Some c) g S O = (s p : Plan) → S s → O p → IsFalse (is_better c.sense (value g s c.target []) (value g p c.target []))

-- what the first owner comes to at the worst ties isn't better than what it comes to at the best
pub record IsNoBetterAtWorst (q : ℕ → Bool) (g : Game) : Type 0 where
  pub strategies : NoBetterBy (first_wish g.scopes) g (OptimalAtWorst q g g.scopes 0 []) (Optimal g g.scopes 0 [])
  pub optimum : (v w : ℤ) → IsPessimisticOptimum q g.scopes g v → IsOptimum g.scopes g w → NoBetterValue (first_wish g.scopes) v w

-- so it is where no other owner meets the worst ties
abbrev pub NoBetterAtWorst : (ℕ → Bool) → Game → Type 0
NoBetterAtWorst q g = ((i : ℕ) → q (suc i) ≡ false) → IsNoBetterAtWorst q g
