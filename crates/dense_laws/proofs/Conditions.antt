-- What the leaves and marks of a scope of the player with a condition say of its node.
use Rattle.std.proofs.Common.{◌≡◌, ℕ, suc, Bool, true, false, not, ◌&&◌, ◌||◌, List, [], ◌∷◌, ◌++◌, drop, sym, subst, ℤ, Some}
use Rattle.std.specs.List.{list_all}
use Rattle.std.specs.Ordering.{int_eq}
use Rattle.std.proofs.lemmas.Bool.Decides.{Decides-int_eq}
use Rattle.std.proofs.lemmas.Bool.{or_parts}
use Rattle.qc_model.specs.declared.problem.Condition.{Condition}
use Rattle.qc_model.specs.declared.problem.Scope.{Scope}
use Rattle.qc_model.specs.Content.{Game}
use Rattle.qc_model.specs.Domains.{Box}
use Rattle.qc_model.specs.Game.{IsMove}
use Rattle.qc_model.specs.Plan.{Plan, finish, choose, answer}
use Rattle.qc_model.specs.Value.{value}
use Rattle.qc_model.specs.Optimal.{is_better, Optimal}
use Rattle.qc_model.specs.Demands.{vector, is_better_vector}
use Rattle.qc_model.specs.Verdict.{Seen, is_lost, each_node, exact_vectors, bounds, is_none_of, first_value}
use Rattle.qc_model.specs.ExistsVerdict.{best_vector, beats, some_open, exists_verdict}
use Rattle.qc_model.proofs.Vectors.{worse_through}
use Rattle.model_laws.specs.Positions.{optimising}
use Rattle.model_laws.proofs.Better.{and_first, and_second, not_better}
use Rattle.model_laws.proofs.Existence.{neither_better, optimal_exists, won_by_strategy}
use Rattle.model_laws.proofs.Choosing.{best_one}
use Rattle.dense_meaning.specs.Throughout.{PlaysLie, IsOptimalWithin, Says, ExactWithin}
use Rattle.dense_laws.specs.Says.{SomeHolds, EachReached}
use Rattle.dense_laws.proofs.Held.{lost_holds_none}
use Rattle.dense_laws.proofs.Conclude.{says_cond, HasChoice, choice_of, choice_long, held_best}

module _ (g : Game) (c : Condition) (d : List Condition) (later : List Scope) (i : ℕ) (a : List ℤ) (x : ℤ) (w : List ℤ) where
  head_is : {y z : ℤ} {u v : List ℤ} → y ∷ u ≡ z ∷ v → y ≡ z
  head_is e = cc

  tail_is : {y z : ℤ} {u v : List ℤ} → y ∷ u ≡ z ∷ v → u ≡ v
  tail_is e = cc

  -- an optimal strategy's own value is no worse than that of any choice
  no_choice_beats : (t : List ℤ) (s : Plan) → IsMove g i a t → Optimal g later (suc i) (a ++ t) s → (r : Plan) → Optimal g (optimising c ∷ later) i a r →
      is_better c.sense (value g (choose t s) c.target a) (value g r c.target a) ≡ false
  no_choice_beats t s m o finish k = absurd k
  no_choice_beats t s m o (choose u r) k = k.best t s m o
  no_choice_beats t s m o (answer l) k = absurd k

  module _ (choice : HasChoice g later i (c ∷ d) a (x ∷ w)) (held : (r : Plan) → Optimal g (optimising c ∷ later) i a r → is_better_vector (c ∷ d) (vector g (c ∷ d) a r) (x ∷ w) ≡ false) where
    abbrev taken : Plan
    taken = choose choice.0 choice.1

    own : value g (choose choice.0 choice.1) c.target a ≡ x
    own = head_is choice.4

    first_held : (r : Plan) → Optimal g (optimising c ∷ later) i a r → is_better c.sense (value g r c.target a) x ≡ false
    first_held r o = (or_parts _ _ (held r o)).0

    -- so each optimal strategy has the value x
    pub own_is : (r : Plan) → Optimal g (optimising c ∷ later) i a r → value g r c.target a ≡ x
    own_is r o =
        neither_better c.sense (value g r c.target a) x (not_better c.sense (value g r c.target a) x (first_held r o))
        (not_better c.sense x (value g r c.target a)
        (subst (λ z. is_better c.sense z (value g r c.target a) ≡ false) own (no_choice_beats choice.0 choice.1 choice.2 choice.3 r o)))

    some_optimal : (r : Plan) × Optimal g (optimising c ∷ later) i a r
    some_optimal = optimal_exists g (optimising c ∷ later) i a (choice.0, choice.2, (won_by_strategy g later (suc i) (a ++ choice.0)).1 (choice.1, choice.3))

    -- and the choice is optimal
    taken_optimal : Optimal g (optimising c ∷ later) i a (choose choice.0 choice.1)
    taken_optimal = record {
      is_move = choice.2;
      after = choice.3;
      best = λ u r m o.
          (let k = some_optimal in
          subst (λ z. is_better c.sense (value g (choose u r) c.target a) z ≡ false) (sym own)
          (worse_through c.sense (value g (choose u r) c.target a) (value g k.0 c.target a) x (no_choice_beats u r m o k.0 k.1) (first_held k.0 k.1)));
    }

    rest_held : (y : ℤ) → y ≡ x → (b : Bool) → (is_better c.sense y x || (int_eq y x && b)) ≡ false → b ≡ false
    rest_held y q b h = by (int_eq y x) b ((Decides-int_eq y x).1 q) (or_parts _ _ h).1
      where
        by : (f b : Bool) → f ≡ true → (f && b) ≡ false → b ≡ false
        by true b p h = h
        by false b p h = cc

    pub is_exact_there : (box : Box) → ExactWithin g (optimising c ∷ later) i d box a w
    is_exact_there box = record {
      some = (choose choice.0 choice.1, taken_optimal, tail_is choice.4);
      best = λ r o. rest_held (value g r c.target a) (own_is r o.optimal) (is_better_vector d (vector g d a r) w) (held r o.optimal);
    }

-- a vector for a list that isn't empty has a first value
exact_at : (g : Game) (c : Condition) (d : List Condition) (later : List Scope) (i : ℕ) (a v : List ℤ) (box : Box) → HasChoice g later i (c ∷ d) a v →
    ((r : Plan) → Optimal g (optimising c ∷ later) i a r → is_better_vector (c ∷ d) (vector g (c ∷ d) a r) v ≡ false) → ExactWithin g (optimising c ∷ later) i d box a (drop 1 v)
exact_at g c d later i a [] box k h = let l = choice_long g later i (c ∷ d) a [] k in cc
exact_at g c d later i a (x ∷ w) box k h = is_exact_there g c d later i a x w k h box

-- what the table concludes holds in the box, where all optimal strategies lie in the box if it is exact
pub condition_scope_says : (g : Game) (c : Condition) (d : List Condition) (later : List Scope) (i : ℕ) (box : Box) (a : List ℤ) (xs : List Seen) →
    ((r : Plan) → IsOptimalWithin g (optimising c ∷ later) i box a r → SomeHolds g (c ∷ d) a r xs) → EachReached g later i (c ∷ d) a xs →
    (not (is_none_of (exact_vectors xs)) ≡ true → (r : Plan) → Optimal g (optimising c ∷ later) i a r → PlaysLie box a r) →
    Says (exists_verdict (Some c) (c ∷ d) xs) g (optimising c ∷ later) i d box a
condition_scope_says g c d later i box a xs held reached all =
    let vs = exact_vectors xs in
    let bs = bounds xs in
    let v = best_vector (c ∷ d) vs in
    let beaten = list_all (beats c.sense (is_none_of d) (first_value v)) bs in
    says_cond g (optimising c ∷ later) i d box a _ _ (each_node is_lost xs && is_none_of bs)
    (λ q. λ r o. lost_holds_none g (c ∷ d) a r xs (and_first (each_node is_lost xs) (is_none_of bs) q) (and_second (each_node is_lost xs) (is_none_of bs) q) (held r o))
    (λ _. says_cond g (optimising c ∷ later) i d box a _ _ (some_open xs)
    (λ _. tt)
    (λ n. says_cond g (optimising c ∷ later) i d box a _ _ (not (is_none_of vs) && beaten)
    (λ q. let some = and_first (not (is_none_of vs)) beaten q in
    exact_at g c d later i a v box (choice_of g later i (c ∷ d) a xs reached v (best_one (c ∷ d) vs some))
    (λ r o. held_best g c d later i a xs reached n (and_second (not (is_none_of vs)) beaten q) r (held r (record { optimal = o; lies = all some r o }))))
    (λ _. tt)))
