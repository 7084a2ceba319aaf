-- Where the first owner alone meets the worst ties, it comes to nothing better than its optimum.
use Rattle.std.proofs.Common.{◌≡◌, sym, ap, ◌∙◌, subst, ℕ, suc, Bool, true, false, List, [], ◌∷◌, ◌++◌}
use Rattle.std.specs.Prelude.{Option, Some, None, IsFalse, ℤ}
use Rattle.qc_model.specs.declared.problem.Kind.{Kind}
use Rattle.qc_model.specs.declared.problem.Kind.TheVariants.{Exists, Forall}
use Rattle.qc_model.specs.declared.problem.Condition.{Condition}
use Rattle.qc_model.specs.declared.problem.Scope.{Scope}
use Rattle.qc_model.specs.Content.{Game}
use Rattle.qc_model.specs.Plan.{Plan, finish, choose, answer, Entries, no_entries, entry, EachEntry, Turn, Covers}
use Rattle.qc_model.specs.Value.{value}
use Rattle.qc_model.specs.Optimal.{is_better, NoBetterChoice, ChoosesBest, Optimal}
use Rattle.proof_tree.specs.Meaning.{OptimumBy, IsOptimum}
use Rattle.model_laws.proofs.Existence.{won_by_strategy}
use Rattle.qc_pessimist.specs.Worst.{chosen_wish, Meets, OptimalAtWorst, PessimisticBy, IsPessimisticOptimum}
use Rattle.qc_pessimist.specs.Laws.{first_wish, NoBetterValue, NoBetterBy, NoBetterAtWorst}
use Rattle.qc_pessimist.proofs.AtWorst.{reads_at_worst}

-- what holds of the same plans later makes the same plans optimal now
module _ (g : Game) (i : ℕ) (O P : List ℤ → Plan → Type 0) (to : (b : List ℤ) (s : Plan) → O b s → P b s) (from : (b : List ℤ) (s : Plan) → P b s → O b s) where
  best_same : (x : Option Condition) (a t : List ℤ) (s : Plan) → NoBetterChoice x g i a O t s → NoBetterChoice x g i a P t s
  best_same None a t s h = tt
  best_same (Some c) a t s h = λ u r m p. h u r m (from (a ++ u) r p)

  each_same : (a : List ℤ) (l : Entries) → EachEntry (λ t s. O (a ++ t) s) l → EachEntry (λ t s. P (a ++ t) s) l
  each_same a no_entries h = tt
  each_same a (entry t s rest) h = (to (a ++ t) s h.0, each_same a rest h.1)

  turn_same : (k : Kind) (x : Option Condition) (a : List ℤ) (s : Plan) → Turn k s (ChoosesBest x g i a O) (Covers g i a O) → Turn k s (ChoosesBest x g i a P) (Covers g i a P)
  turn_same Exists x a finish h = absurd h
  turn_same Exists x a (choose t s) h = record { is_move = h.is_move; after = to (a ++ t) s h.after; best = best_same x a t s h.best }
  turn_same Exists x a (answer l) h = absurd h
  turn_same Forall x a finish h = absurd h
  turn_same Forall x a (choose t s) h = absurd h
  turn_same Forall x a (answer l) h = record { tuples = h.tuples; each = each_same a l h.each }

module _ (q : ℕ → Bool) (g : Game) (alone : (i : ℕ) → q (suc i) ≡ false) where
  mutual
    plain_to : (later : List Scope) (i : ℕ) (a : List ℤ) (s : Plan) → OptimalAtWorst q g later (suc i) a s → Optimal g later (suc i) a s
    plain_to [] i a s o = o
    plain_to (scope ∷ later) i a s o =
        turn_same g (suc i) (OptimalAtWorst q g later (suc (suc i))) (Optimal g later (suc (suc i))) (plain_to later (suc i)) (plain_from later (suc i)) scope.kind scope.condition a s
        (subst (λ b. Turn scope.kind s (ChoosesBest scope.condition g (suc i) a (Meets (chosen_wish b scope.kind scope.condition) g (OptimalAtWorst q g later (suc (suc i))))) (Covers g (suc i) a (OptimalAtWorst q g later (suc (suc i)))))
        (alone i) o)

    plain_from : (later : List Scope) (i : ℕ) (a : List ℤ) (s : Plan) → Optimal g later (suc i) a s → OptimalAtWorst q g later (suc i) a s
    plain_from [] i a s o = o
    plain_from (scope ∷ later) i a s o =
        subst (λ b. Turn scope.kind s (ChoosesBest scope.condition g (suc i) a (Meets (chosen_wish b scope.kind scope.condition) g (OptimalAtWorst q g later (suc (suc i))))) (Covers g (suc i) a (OptimalAtWorst q g later (suc (suc i)))))
        (sym (alone i))
        (turn_same g (suc i) (Optimal g later (suc (suc i))) (OptimalAtWorst q g later (suc (suc i))) (plain_from later (suc i)) (plain_to later (suc i)) scope.kind scope.condition a s o)

  -- what is met is optimal
  met : (w : Option Condition) (O : List ℤ → Plan → Type 0) (b : List ℤ) (s : Plan) → Meets w g O b s → O b s
  met None O b s m = m
  met (Some c) O b s m = m.follows

  no_better : (scope : Scope) (later : List Scope) → NoBetterBy (chosen_wish true scope.kind scope.condition) g (OptimalAtWorst q g (scope ∷ later) 0 []) (Optimal g (scope ∷ later) 0 [])
  no_better scope later = by scope.kind scope.condition
    where
      by : (k : Kind) (x : Option Condition) →
          NoBetterBy (chosen_wish true k x) g
          (λ s. Turn k s (ChoosesBest x g 0 [] (Meets (chosen_wish (q 0) k x) g (OptimalAtWorst q g later 1))) (Covers g 0 [] (OptimalAtWorst q g later 1)))
          (λ s. Turn k s (ChoosesBest x g 0 [] (Optimal g later 1)) (Covers g 0 [] (Optimal g later 1)))
      by Forall x = tt
      by Exists None = tt
      by Exists (Some c) = compare
        where
          compare : (s p : Plan) → Turn Exists s (ChoosesBest (Some c) g 0 [] (Meets (chosen_wish (q 0) Exists (Some c)) g (OptimalAtWorst q g later 1))) (Covers g 0 [] (OptimalAtWorst q g later 1)) →
              Turn Exists p (ChoosesBest (Some c) g 0 [] (Optimal g later 1)) (Covers g 0 [] (Optimal g later 1)) → IsFalse (is_better c.sense (value g s c.target []) (value g p c.target []))
          compare finish p h o = absurd h
          compare (answer l) p h o = absurd h
          compare (choose t s) finish h o = absurd o
          compare (choose t s) (answer l) h o = absurd o
          compare (choose t s) (choose u r) h o =
              o.best t s h.is_move (plain_to later 0 ([] ++ t) s (met (chosen_wish (q 0) Exists (Some c)) (OptimalAtWorst q g later 1) ([] ++ t) s h.after))

  strategies_no_better : (scopes : List Scope) → NoBetterBy (first_wish scopes) g (OptimalAtWorst q g scopes 0 []) (Optimal g scopes 0 [])
  strategies_no_better [] = tt
  strategies_no_better (scope ∷ later) = no_better scope later

  values_no_better : (k : Kind) (x : Option Condition) → NoBetterBy (chosen_wish true k x) g (OptimalAtWorst q g g.scopes 0 []) (Optimal g g.scopes 0 []) → (v w : ℤ) →
      PessimisticBy q x g v → OptimumBy x g w → NoBetterValue (chosen_wish true k x) v w
  values_no_better Forall x n v w a b = tt
  values_no_better Exists None n v w a b = tt
  values_no_better Exists (Some c) n v w a b =
      let s = (reads_at_worst q g).won_by_strategy.0 a.won in
      let p = (won_by_strategy g g.scopes 0 []).0 b.won in
      ap (λ z. is_better c.sense z w) (sym (a.has_value s.0 s.1))
      ∙ ap (is_better c.sense (value g s.0 c.target [])) (sym (b.has_value p.0 p.1))
      ∙ n s.0 p.0 s.1 p.1

  optimum_no_better : (scopes : List Scope) → NoBetterBy (first_wish scopes) g (OptimalAtWorst q g g.scopes 0 []) (Optimal g g.scopes 0 []) → (v w : ℤ) →
      IsPessimisticOptimum q scopes g v → IsOptimum scopes g w → NoBetterValue (first_wish scopes) v w
  optimum_no_better [] n v w a b = tt
  optimum_no_better (scope ∷ later) n v w a b = values_no_better scope.kind scope.condition n v w a b

pub no_better_at_worst : (q : ℕ → Bool) (g : Game) → NoBetterAtWorst q g
no_better_at_worst q g = λ alone. record {
  strategies = strategies_no_better q g alone g.scopes;
  optimum = optimum_no_better q g alone g.scopes (strategies_no_better q g alone g.scopes);
}
