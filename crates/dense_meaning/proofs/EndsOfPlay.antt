-- Where play ends.
use Rattle.std.proofs.Common.{◌≡◌, ℕ, false, List, [], ◌∷◌, subst, ℤ, Option}
use Rattle.std.specs.Prelude.{IsTrue, IsFalse}
use Rattle.qc_model.specs.declared.problem.Condition.{Condition}
use Rattle.qc_model.specs.declared.problem.Scope.{Scope}
use Rattle.qc_model.specs.Content.{Game}
use Rattle.qc_model.specs.Domains.{Box}
use Rattle.qc_model.specs.Game.{allows}
use Rattle.qc_model.specs.Plan.{Plan, finish, choose, answer, IsFinish}
use Rattle.qc_model.specs.Demands.{vector, is_better_vector}
use Rattle.qc_model.specs.Bottlenecks.{bottleneck_last}
use Rattle.qc_model.specs.ForallVerdict.{entry_values, numbers_for}
use Rattle.qc_model.specs.Verdict.{Verdict, lost, exact, at_most, unknown}
use Rattle.model_laws.specs.Positions.{existential, universal}
use Rattle.model_laws.specs.Verdicts.{HasNoMove, MeansAt}
use Rattle.model_laws.proofs.Ends.{stuck_forall}
use Rattle.model_laws.proofs.Better.{vector_false}
use Rattle.model_laws.proofs.Universal.{vector_not_self}
use Rattle.dense_meaning.specs.Throughout.{IsPositionIn, Says, Throughout}
use Rattle.dense_meaning.proofs.Bits.{both_ways}
use Rattle.dense_meaning.proofs.Staying.{plays_lost}

pub all_says : (v : Verdict) (g : Game) (later : List Scope) (i : ℕ) (d : List Condition) (box : Box) (a : List ℤ) → MeansAt g later i a d v → Says v g later i d box a
all_says lost g later i d box a h = λ r o. h r o.optimal
all_says (exact v) g later i d box a h = record { some = h.some; best = λ r o. h.none_better r o.optimal }
all_says (at_most p) g later i [] box a h = λ r o. tt
all_says (at_most p) g later i (c ∷ d) box a h = λ r o. h r o.optimal
all_says unknown g later i d box a h = tt

pub goal_lost : (g : Game) (i : ℕ) (d : List Condition) (box : Box) → ((a : List ℤ) → IsPositionIn g i box a → IsFalse (allows g i a)) → Throughout lost g [] i d box
goal_lost g i d box f = plays_lost g [] 1 i box tt (λ a w at p j. both_ways (allows g i a) (f a at) p.1)

-- the plan that finishes is the only one
pub goal_won : (g : Game) (i : ℕ) (d : List Condition) (box : Box) (v : List ℤ) → ((a : List ℤ) → IsPositionIn g i box a → IsTrue (allows g i a) × (vector g d a finish ≡ v)) →
    Throughout (exact v) g [] i d box
goal_won g i d box v f a at =
    let q = f a at in
    record { some = (finish, (tt, q.0), q.1); best = λ r o. subst (λ u. is_better_vector d (vector g d a r) u ≡ false) q.1 (alone r o.optimal.0) }
  where
    alone : (r : Plan) → IsFinish r → is_better_vector d (vector g d a r) (vector g d a finish) ≡ false
    alone finish h = vector_false d (vector g d a finish) (vector g d a finish) (vector_not_self d (vector g d a finish))
    alone (choose t s) h = absurd h
    alone (answer l) h = absurd h

pub player_stuck : (g : Game) (later : List Scope) (x : Option Condition) (i : ℕ) (d : List Condition) (box : Box) → ((a : List ℤ) → IsPositionIn g i box a → HasNoMove g i a) →
    Throughout lost g (existential x ∷ later) i d box
player_stuck g later x i d box f = plays_lost g (existential x ∷ later) 1 i box (tt, tt) (λ a w at p j. f a at p.0 p.1)

pub opponent_stuck : (g : Game) (later : List Scope) (x : Option Condition) (i : ℕ) (d : List Condition) (box : Box) (v : List ℤ) → IsTrue (bottleneck_last g d) →
    ((a : List ℤ) → IsPositionIn g i box a → HasNoMove g i a) → ((a : List ℤ) → IsPositionIn g i box a → entry_values g d a (numbers_for d []) ≡ v) →
    Throughout (exact v) g (universal x ∷ later) i d box
opponent_stuck g later x i d box v last f same a at =
    subst (λ u. Says (exact u) g (universal x ∷ later) i d box a) (same a at)
    (all_says (exact (entry_values g d a (numbers_for d []))) g (universal x ∷ later) i d box a (stuck_forall g later x i a d last (f a at)))
