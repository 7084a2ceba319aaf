-- Optimal play where the owners of chosen scopes meet the worst ties: of the strategies that are optimal after their choice,
-- one that is worst for them. Other owners may count on the best of them.
use Rattle.std.specs.Prelude.{◌≡◌, ℕ, suc, Bool, true, false, List, [], ◌∷◌, Option, Some, None, IsTrue, IsFalse, ℤ}
use Rattle.qc_model.specs.declared.problem.Kind.{Kind}
use Rattle.qc_model.specs.declared.problem.Kind.TheVariants.{Exists, Forall}
use Rattle.qc_model.specs.declared.problem.Condition.{Condition}
use Rattle.qc_model.specs.declared.problem.Scope.{Scope}
use Rattle.qc_model.specs.Content.{Game}
use Rattle.qc_model.specs.Game.{allows, IsWon}
use Rattle.qc_model.specs.Plan.{Plan, IsFinish, Turn, Covers}
use Rattle.qc_model.specs.Value.{value}
use Rattle.qc_model.specs.Optimal.{is_better, ChoosesBest}

-- the condition of a scope that is chosen; a universal scope has none
abbrev pub chosen_wish : Bool → Kind → Option Condition → Option Condition
chosen_wish false k x = None
chosen_wish true Exists x = x
chosen_wish true Forall x = None

-- s is a plan with O, and no plan with O has a worse value of the condition's target: a value that the one of s is better than
pub record IsWorst (c : Condition) (g : Game) (b : List ℤ) (O : Plan → Type 0) (s : Plan) : Type 0 where
  pub follows : O s
  pub none_worse : (r : Plan) → O r → IsFalse (is_better c.sense (value g s c.target b) (value g r c.target b))

-- what an owner meets after its choice: with a chosen wish a worst plan with O, otherwise any
abbrev pub Meets : Option Condition → Game → (List ℤ → Plan → Type 0) → List ℤ → Plan → Type 0
Meets None g O b s = O b s
Meets (Some c) g O b s = IsWorst c g b (O b) s

-- an optimal strategy at the position before scope i, where the owners of the scopes with q meet the worst ties. A choice of
-- theirs is compared by what they meet after it
abbrev pub OptimalAtWorst : (ℕ → Bool) → Game → List Scope → ℕ → List ℤ → Plan → Type 0
OptimalAtWorst q g [] i a s = IsFinish s × IsTrue (allows g i a)
OptimalAtWorst q g (scope ∷ later) i a s =
    Turn scope.kind s
    (ChoosesBest scope.condition g i a (Meets (chosen_wish (q i) scope.kind scope.condition) g (OptimalAtWorst q g later (suc i))))
    (Covers g i a (OptimalAtWorst q g later (suc i)))

-- the condition's target has the value v under each such strategy, and there is one, since the game is won
pub record HasPessimisticOptimum (q : ℕ → Bool) (c : Condition) (g : Game) (v : ℤ) : Type 0 where
  pub won : IsWon g
  pub has_value : (s : Plan) → OptimalAtWorst q g g.scopes 0 [] s → value g s c.target [] ≡ v

abbrev pub PessimisticBy : (ℕ → Bool) → Option Condition → Game → ℤ → Type 0
PessimisticBy q None g v = ⊥
PessimisticBy q (Some c) g v = HasPessimisticOptimum q c g v

-- v is the pessimistic optimum of the first scope's condition
abbrev pub IsPessimisticOptimum : (ℕ → Bool) → List Scope → Game → ℤ → Type 0
IsPessimisticOptimum q [] g v = ⊥
IsPessimisticOptimum q (s ∷ later) g v = PessimisticBy q s.condition g v
