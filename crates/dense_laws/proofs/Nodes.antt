-- Nodes of the player's scopes: what their own trees say is what they come to.
use Rattle.std.proofs.Common.{◌≡◌, ◌⊎◌, inl, inr, ℕ, zero, suc, ◌<◌, Bool, true, false, ◌&&◌, List, [], ◌∷◌, ◌++◌, length, take, map, refl, sym, ap, subst, ◌∙◌, ℤ, Option, Some, None, cond, arith}
use Rattle.std.specs.Prelude.{nat_lt}
use Rattle.std.specs.List.{list_all}
use Rattle.std.proofs.lemmas.Bool.Decides.{nat_tests}
use Rattle.std.proofs.lemmas.Bool.{and_parts}
use Rattle.qc_model.specs.declared.problem.Kind.TheVariants.{Exists}
use Rattle.qc_model.specs.declared.problem.VarId.{VarId}
use Rattle.qc_model.specs.declared.problem.Target.{Target}
use Rattle.qc_model.specs.declared.problem.Target.TheVariants.{Var, Aggregate as Agg}
use Rattle.qc_model.specs.declared.problem.Condition.{Condition}
use Rattle.qc_model.specs.declared.problem.Scope.{Scope}
use Rattle.qc_model.specs.Content.{Game}
use Rattle.qc_model.specs.Domains.{InBox, Box, Values, values_left, least_value}
use Rattle.qc_model.specs.Game.{before}
use Rattle.qc_model.specs.Lists.{Among}
use Rattle.qc_model.specs.Plan.{Plan, finish, choose, answer}
use Rattle.qc_model.specs.Optimal.{is_better, Optimal}
use Rattle.qc_model.specs.Demands.{demands_after, vector, is_better_vector}
use Rattle.qc_model.specs.Sees.{IsVisible, AllVisible}
use Rattle.qc_model.specs.Valid.{IsValid}
use Rattle.qc_model.specs.Value.{value}
use Rattle.qc_model.specs.Verdict.{Verdict, lost, exact, at_most, unknown, Seen, seen_barred, seen_skipped, seen_bound, seen_node, is_exact, is_lost, some_node, each_node, bounds, is_none_of, first_value}
use Rattle.qc_model.specs.ExistsVerdict.{exists_verdict, best_number}
use Rattle.model_laws.specs.Positions.{existential, optimising}
use Rattle.model_laws.proofs.Choosing.{best_weaker}
use Rattle.proof_meaning.proofs.Reach.{reach}
use Rattle.proof_tree.specs.Place.{position, list_after, next_scopes}
use Rattle.proof_tree.specs.Steps.{best_value}
use Rattle.dense_meaning.specs.Throughout.{IsPositionIn, PlaysLie, IsOptimalWithin, Says}
use Rattle.dense_meaning.proofs.AfterScopes.{first_held}
use Rattle.dense_meaning.proofs.Targets.{value_left}
use Rattle.dense_tree.specs.Place.{Setting, Place}
use Rattle.dense_tree.specs.Verdicts.{first_of, upper_bound, loosened, best_of, exists_comes_to, scope_comes_to}
use Rattle.dense_laws.specs.Stands.{OptimalStay, StrategiesStay, StandsNode, kept_to, at_most_one}
use Rattle.dense_laws.specs.Says.{IsAt, NodeTold, SomeHolds, SomeBest, EachReached, OnlyAt, ChoicesSay}
use Rattle.dense_laws.proofs.Close.{append_more}
use Rattle.dense_meaning.proofs.WholePlays.{append_none}
use Rattle.dense_laws.proofs.Conclude.{plain_scope_says}
use Rattle.dense_laws.proofs.Conditions.{condition_scope_says}
use Rattle.dense_laws.proofs.Going.{none_above, list_visible}
use Rattle.dense_laws.proofs.Held.{lost_holds_none}
use Rattle.dense_laws.proofs.Narrow.{front_of}
use Rattle.dense_laws.proofs.Small.{ones_alone}

-- nothing is exact in a loose part
upper_inexact : (s : Setting) (p : Place) (d : List Condition) (v : List ℤ) → is_exact (upper_bound s p d v) ≡ false
upper_inexact s p [] v = refl
upper_inexact s p (c ∷ d) v = refl

pub loosened_inexact : (s : Setting) (p : Place) (v : Verdict) → p.loose ≡ true → is_exact (loosened s p v) ≡ false
loosened_inexact s p lost l = refl
loosened_inexact s p (exact v) l = subst (λ b. is_exact (cond b (upper_bound s p p.list v) (exact v)) ≡ false) (sym l) (upper_inexact s p p.list v)
loosened_inexact s p (at_most n) l = refl
loosened_inexact s p unknown l = refl

-- the bound of a loose node holds, where strategies in the box have no better first value than that of its vector, or of the variable
-- that is demanded first the best that is left
pub upper_says : (s : Setting) (p : Place) (a : List ℤ) (v : List ℤ) → length a ≡ before s.game p.number → (d : List Condition) → AllVisible s.game p.later p.number d →
    ((c : Condition) (e : List Condition) → d ≡ c ∷ e → (r : Plan) → IsOptimalWithin s.game p.later p.number p.box a r →
    ((y : VarId) × (c.target ≡ Var y) × (y.0 < before s.game p.number)) ⊎ (is_better c.sense (value s.game r c.target a) (first_value v) ≡ false)) →
    Says (upper_bound s p d v) s.game p.later p.number d p.box a
upper_says s p a v n [] sees f = tt
upper_says s p a v n (c ∷ d) sees f = λ r o. at c.target refl sees.0 r o (f c d refl r o)
  where
    at : (t : Target) → c.target ≡ t → IsVisible s.game p.later p.number t → (r : Plan) → IsOptimalWithin s.game p.later p.number p.box a r →
        ((y : VarId) × (c.target ≡ Var y) × (y.0 < before s.game p.number)) ⊎ (is_better c.sense (value s.game r c.target a) (first_value v) ≡ false) →
        is_better c.sense (value s.game r c.target a) (first_of s p c.sense c.target v) ≡ false
    at (Agg q) k w r o (inl y) = let z = y.1 in let bad : Agg q ≡ Var y.0 = sym k ∙ z in cc
    at (Agg q) k w r o (inr h) = subst (λ t. is_better c.sense (value s.game r c.target a) (first_of s p c.sense t v) ≡ false) (sym k) h
    at (Var x) k w r o h =
        subst (λ t. is_better c.sense (value s.game r t a) (first_of s p c.sense t v) ≡ false) (sym k) (by (nat_lt x.0 (before s.game p.number)) refl (subst Either k h))
      where
        Either : Target → Type 0
        Either t = ((y : VarId) × (t ≡ Var y) × (y.0 < before s.game p.number)) ⊎ (is_better c.sense (value s.game r t a) (first_value v) ≡ false)

        not_below : (m n : ℕ) → nat_lt m n ≡ false → m < n → ⊥
        not_below m n e l = grind (arith, nat_tests)

        same_var : (y : VarId) → Var x ≡ Var y → x.0 ≡ y.0
        same_var y q = let z : x ≡ y = cc in ap (λ (u : VarId). u.0) z

        by : (b : Bool) → nat_lt x.0 (before s.game p.number) ≡ b → Either (Var x) →
            is_better c.sense (value s.game r (Var x) a) (cond b (best_value c.sense (values_left p.box x.0)) (first_value v)) ≡ false
        by true e h = none_above c.sense (value s.game r (Var x) a) (values_left p.box x.0) (value_left s.game p.later p.number x p.box a r n w o.optimal o.lies)
        by false e (inl y) = absurd (not_below x.0 (before s.game p.number) e (let l = y.2 in let q = same_var y.0 y.1 in omega arith))
        by false e (inr h) = h

-- what is so of a verdict is so of what a loose node counts for
pub loosened_says : (s : Setting) (p : Place) (v : Verdict) (a : List ℤ) → length a ≡ before s.game p.number → AllVisible s.game p.later p.number p.list → Says v s.game p.later p.number p.list p.box a →
    Says (loosened s p v) s.game p.later p.number p.list p.box a
loosened_says s p lost a n sees h = h
loosened_says s p (exact v) a n sees h = by p.loose
  where
    by : (b : Bool) → Says (cond b (upper_bound s p p.list v) (exact v)) s.game p.later p.number p.list p.box a
    by true = upper_says s p a v n p.list sees (λ c e q r o. inr (held c e q r o))
      where
        held : (c : Condition) (e : List Condition) → p.list ≡ c ∷ e → (r : Plan) → IsOptimalWithin s.game p.later p.number p.box a r → is_better c.sense (value s.game r c.target a) (first_value v) ≡ false
        held c e q r o =
            first_held s.game c e a v h.some.0 r (subst (λ d. vector s.game d a h.some.0 ≡ v) q h.some.2)
            (subst (λ d. is_better_vector d (vector s.game d a r) v ≡ false) q (h.best r o))
    by false = h
loosened_says s p (at_most m) a n sees h = h
loosened_says s p unknown a n sees h = h

-- a plan goes on from the position
pub reach_front : (a : List ℤ) (r : Plan) → (t : List ℤ) × (reach a r ≡ a ++ t)
reach_front a finish = ([], sym (append_none a))
reach_front a (choose u r) = let q = reach_front (a ++ u) r in (u ++ q.0, q.1 ∙ append_more a u q.0)
reach_front a (answer l) = ([], sym (append_none a))

none_reached : (g : Game) (later : List Scope) (i : ℕ) (e : List Condition) (a : List ℤ) (xs : List Seen) → some_node is_exact xs ≡ false → EachReached g later i e a xs
none_reached g later i e a [] h = tt
none_reached g later i e a (seen_barred ∷ xs) h = (tt, none_reached g later i e a xs h)
none_reached g later i e a (seen_skipped ∷ xs) h = (tt, none_reached g later i e a xs h)
none_reached g later i e a (seen_bound m ∷ xs) h = (tt, none_reached g later i e a xs h)
none_reached g later i e a (seen_node lost ∷ xs) h = (tt, none_reached g later i e a xs h)
none_reached g later i e a (seen_node (exact v) ∷ xs) h = cc
none_reached g later i e a (seen_node (at_most p) ∷ xs) h = (tt, none_reached g later i e a xs h)
none_reached g later i e a (seen_node unknown ∷ xs) h = (tt, none_reached g later i e a xs h)

-- the box of a node has all plays of each optimal strategy from a position in it, also below a bound, where no wish of the block lies ahead
stop_here : (b : Bool) (i n : ℕ) → n ≡ i → cond b n i ≡ i
stop_here true i n e = e
stop_here false i n e = refl

pub stay_here : (g : Game) (later : List Scope) (i stop : ℕ) (box : Box) → stop ≡ i → OptimalStay g later i stop box → (a : List ℤ) → IsPositionIn g i box a → (r : Plan) → Optimal g later i a r → PlaysLie box a r
stay_here g later i stop box e f a at r o =
    let q = reach_front a r in
    f a at r o (subst (λ n. InBox (take (before g n) (reach a r)) box) (sym e) (subst (λ z. InBox (take (before g i) z) box) (sym q.1) (subst (λ z. InBox z box) (sym (front_of (before g i) a q.0 at.count)) at.lies)))

-- the values of earlier variables that have one value each
ones_position : (n : ℕ) (a : List ℤ) (box : Box) → list_all at_most_one (take n box) ≡ true → length a ≡ n → InBox a box → map least_value (take n box) ≡ a
ones_position zero [] box h e j = refl
ones_position zero (v ∷ a) box h e j = cc
ones_position (suc n) [] box h e j = cc
ones_position (suc n) (v ∷ a) [] h e j = absurd j
ones_position (suc n) (v ∷ a) (d ∷ box) h e j =
    let q = and_parts (at_most_one d) (list_all at_most_one (take n box)) h in
    ap (λ z. z ∷ map least_value (take n box)) (one d q.0 j.0) ∙ ap (λ zs. v ∷ zs) (ones_position n a box q.1 (omega arith) j.1)
  where
    one : (d : Values) → at_most_one d ≡ true → Among v d → least_value d ≡ v
    one [] k m = absurd m
    one (u ∷ []) k (inl q) = sym q
    one (u ∷ []) k (inr m) = absurd m
    one (u ∷ w ∷ d) k m = cc

pub position_is : (s : Setting) (p : Place) → StandsNode s p → p.loose ≡ false → (a : List ℤ) → IsPositionIn s.game p.number p.box a → position s.game p.number p.box ≡ a
position_is s p n l a at = ones_position (before s.game p.number) a p.box (n.stands.strict l) at.count at.lies

best_among : (g : Game) (c : Condition) (d : List Condition) (a : List ℤ) (r : Plan) (bs : List ℤ) → SomeBest g (c ∷ d) a r bs → (b : ℤ) × Among b bs × (is_better c.sense (value g r c.target a) b ≡ false)
best_among g c d a r [] h = absurd h
best_among g c d a r (b ∷ bs) h = elim h [ inl q ↦ (b, inl refl, q) | inr q ↦ (let k = best_among g c d a r bs q in (k.0, inr k.1, k.2)) ]

module _ (s : Setting) (valid : IsValid s.game) (p : Place) (n : StandsNode s p) where
  -- no position but one lies in the box, outside loose parts
  pub alone : p.loose ≡ false → (a : List ℤ) → IsPositionIn s.game p.number p.box a → OnlyAt s p a
  alone l a at b bt = ones_alone (before s.game p.number) b a p.box (n.stands.strict l) bt.count at.count bt.lies at.lies

  -- the box has all plays of each optimal strategy at a scope with a condition
  pub lie_of : (c : Condition) (ls : List Scope) → p.later ≡ optimising c ∷ ls → (a : List ℤ) → IsPositionIn s.game p.number p.box a → (r : Plan) → Optimal s.game (optimising c ∷ ls) p.number a r → PlaysLie p.box a r
  lie_of c ls q a at r o =
      let m = subst (λ zs. StrategiesStay s.game p.bounded zs p.number p.box) q n.strategies in
      stay_here s.game (optimising c ∷ ls) p.number (kept_to p.bounded (optimising c ∷ ls) p.number) p.box (stop_here p.bounded p.number p.number refl) m.0 a at r o

  module _ (x : Option Condition) (later : List Scope) (e : p.later ≡ existential x ∷ later) (seen : List Seen) (bests : List ℤ) (h : ChoicesSay s p seen bests) where
    pub reached_at : (a : List ℤ) → IsAt s p a → EachReached s.game (next_scopes p.later) p.number (list_after s.game p.later p.list) a seen
    reached_at a at = by p.loose refl
      where
        by : (b : Bool) → p.loose ≡ b → EachReached s.game (next_scopes p.later) p.number (list_after s.game p.later p.list) a seen
        by true l = none_reached s.game (next_scopes p.later) p.number (list_after s.game p.later p.list) a seen (h.loose l)
        by false l = h.reached l a (alone l a at.position)

    comes_says : (bs : List ℤ) → bests ≡ bs → (a : List ℤ) → IsAt s p a → Says (exists_comes_to x s p seen bs) s.game (existential x ∷ later) p.number p.list p.box a
    comes_says [] q a at = by x e (subst HeldAt e held) (subst ReachedAt e (reached_at a at))
      where
        HeldAt : List Scope → Type 0
        HeldAt ls = (r : Plan) → IsOptimalWithin s.game ls p.number p.box a r → SomeHolds s.game (list_after s.game ls p.list) a r seen

        ReachedAt : List Scope → Type 0
        ReachedAt ls = EachReached s.game (next_scopes ls) p.number (list_after s.game ls p.list) a seen

        held : HeldAt p.later
        held r o = elim (h.held a at r o) [ inl k ↦ k | inr k ↦ absurd (subst (λ us. SomeBest s.game p.list a r us) q k) ]

        by : (y : Option Condition) → p.later ≡ existential y ∷ later → HeldAt (existential y ∷ later) → ReachedAt (existential y ∷ later) →
            Says (exists_verdict y (demands_after s.game Exists y p.list) seen) s.game (existential y ∷ later) p.number p.list p.box a
        by None w k m = plain_scope_says s.game later p.number p.list p.box a seen k m
        by (Some c) w k m = condition_scope_says s.game c p.list later p.number p.box a seen k m (λ _. λ r o. lie_of c later w a at.position r o)
    comes_says (b ∷ bs) q a at = by p.list refl
      where
        by : (d : List Condition) → p.list ≡ d → Says (best_of d seen (b ∷ bs)) s.game (existential x ∷ later) p.number d p.box a
        by [] w = tt
        by (c ∷ d) w = test (each_node is_lost seen && is_none_of (bounds seen)) refl
          where
            test : (t : Bool) → (each_node is_lost seen && is_none_of (bounds seen)) ≡ t → Says (cond t (at_most (best_number c.sense (b ∷ bs))) unknown) s.game (existential x ∷ later) p.number (c ∷ d) p.box a
            test true k = λ r o. elim (h.held a at r (subst (λ ls. IsOptimalWithin s.game ls p.number p.box a r) (sym e) o)) [
              | inl t ↦ (let u = and_parts (each_node is_lost seen) (is_none_of (bounds seen)) k in absurd (lost_holds_none s.game (list_after s.game p.later p.list) a r seen u.0 u.1 t))
              | inr t ↦ (
                  let u = best_among s.game c d a r (b ∷ bs) (subst (λ us. SomeBest s.game (c ∷ d) a r us) q (subst (λ us. SomeBest s.game us a r bests) w t)) in
                  best_weaker c.sense (value s.game r c.target a) u.0 (b ∷ bs) u.1 u.2)
            ]
            test false k = tt

    -- what the scope comes to is so at each position that the place speaks of
    pub player_told : NodeTold s p (loosened s p (scope_comes_to s p p.later seen bests))
    player_told = record {
      says = λ a at.
          loosened_says s p (scope_comes_to s p p.later seen bests) a at.position.count (list_visible s p valid n.stands)
          (subst (λ ls. Says (scope_comes_to s p ls seen bests) s.game ls p.number p.list p.box a) (sym e) (comes_says bests refl a at));
      loose = loosened_inexact s p (scope_comes_to s p p.later seen bests);
    }
