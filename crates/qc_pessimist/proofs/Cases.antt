-- A worked case: a leader with the price x, and a follower whose answers are all the same to it.
use Rattle.std.proofs.Common.{◌≡◌, refl, inl, inr, ap, ℕ, Bool, List, [], ◌∷◌, drop}
use Rattle.std.specs.Prelude.{ℤ, pos, ◌==◌, Some, IsFalse}
use Rattle.qc_model.specs.Lists.{Among}
use Rattle.qc_model.specs.Plan.{Plan, finish, choose}
use Rattle.qc_model.specs.Value.{value}
use Rattle.qc_model.specs.Optimal.{is_better, Optimal}
use Rattle.qc_model.proofs.Plans.{optimal_wins}
use Rattle.model_laws.specs.Strategies.{optimal_strategies}
use Rattle.model_laws.proofs.Listed.{Lists, optimal_exact}
use Rattle.model_laws.proofs.Computed.{IsOptimum, only_strategy}
use Rattle.model_laws.proofs.CaseGames.{variable, of_variable, minimise, maximise, exists, indifferent, opposed as contrary}
use Rattle.qc_pessimist.specs.Worst.{IsWorst, OptimalAtWorst, IsPessimisticOptimum}
use Rattle.qc_pessimist.specs.Opposed.{opposed_game, moved}
use Rattle.qc_pessimist.proofs.AtWorst.{reads_at_worst}

-- the leader meets the worst ties
abbrev leader : ℕ → Bool
leader i = i == 0

-- the follower does
abbrev follower : ℕ → Bool
follower i = i == 1

abbrev cheap : Plan
cheap = choose (pos 0 ∷ pos 0 ∷ pos 0 ∷ []) finish

abbrev dear : Plan
dear = choose (pos 1 ∷ pos 4 ∷ pos 0 ∷ []) finish

-- a scope that wishes the cost as great as can be stands after the leader's; the goal's number moves up with all the rest
scope_is_added : (opposed_game leader indifferent).scopes ≡ exists (Some (minimise (of_variable 2))) ∷ exists (Some (maximise (of_variable 2))) ∷ exists (Some (minimise (of_variable 3))) ∷ []
scope_is_added = refl

variables_move : (opposed_game leader indifferent).variables ≡ variable 0 (pos 0) (pos 1) ∷ variable 2 (pos 0) (pos 1) ∷ variable 2 (pos 0) (pos 9) ∷ variable 2 (pos 0) (pos 0) ∷ []
variables_move = refl

goal_moves : moved leader 0 indifferent.scopes 2 ≡ 3
goal_moves = refl

-- after the follower's own scope nothing later is left to decide, so there the goal alone moves
goal_moves_alone : moved follower 0 indifferent.scopes 1 ≡ 1
goal_moves_alone = refl

-- AFTER x = 0 the dear answer is a worst one, and the cheap one isn't: by the definition alone, from the two optimal strategies
after_zero : List ℤ
after_zero = pos 0 ∷ []

dear_is_worst : IsWorst (minimise (of_variable 2)) indifferent (pos 0 ∷ []) (Optimal indifferent (drop 1 indifferent.scopes) 1 (pos 0 ∷ [])) dear
dear_is_worst = record { follows = exact.to dear (inr (inl refl)); none_worse = λ r o. at r (exact.from r o) }
  where
    exact : Lists (Optimal indifferent (drop 1 indifferent.scopes) 1 (pos 0 ∷ [])) (optimal_strategies indifferent (drop 1 indifferent.scopes) 1 (pos 0 ∷ []))
    exact = optimal_exact indifferent (drop 1 indifferent.scopes) 1 (pos 0 ∷ [])

    at : (r : Plan) → Among r (cheap ∷ dear ∷ []) → IsFalse (is_better (minimise (of_variable 2)).sense (value indifferent dear (of_variable 2) (pos 0 ∷ [])) (value indifferent r (of_variable 2) (pos 0 ∷ [])))
    at r m = elim m [
      | inl e ↦ ap (λ p. is_better (minimise (of_variable 2)).sense (pos 4) (value indifferent p (of_variable 2) (pos 0 ∷ []))) e
      | inr n ↦ elim n [
        | inl e ↦ ap (λ p. is_better (minimise (of_variable 2)).sense (pos 4) (value indifferent p (of_variable 2) (pos 0 ∷ []))) e
        | inr k ↦ absurd k
      ]
    ]

-- THE FOLLOWER'S TIE FALLS AGAINST THE LEADER. Its optimum was 0; now it takes x = 0 and pays 4, where x = 1 could cost 5.
opposed_optimum : IsOptimum (opposed_game leader indifferent) (of_variable 2) (choose (pos 0 ∷ []) (choose [] dear)) (pos 4)
opposed_optimum = only_strategy (opposed_game leader indifferent) (of_variable 2) (choose (pos 0 ∷ []) (choose [] dear)) (pos 4) refl refl

tie_falls_against : OptimalAtWorst leader indifferent indifferent.scopes 0 [] (choose (pos 0 ∷ []) dear)
tie_falls_against = ((reads_at_worst leader indifferent).strategies (choose (pos 0 ∷ []) dear)).1 opposed_optimum.optimal

pessimistic_optimum : IsPessimisticOptimum leader indifferent.scopes indifferent (pos 4)
pessimistic_optimum =
    ((reads_at_worst leader indifferent).optimum (pos 4)).0
    (record { won = optimal_wins (opposed_game leader indifferent) (opposed_game leader indifferent).scopes 0 [] (choose (pos 0 ∷ []) (choose [] dear)) opposed_optimum.optimal; has_value = opposed_optimum.always })

-- WHERE THE FOLLOWER HAS NO TIE, nothing changes: it takes y = 1, and the leader pays 4
no_tie : IsOptimum (opposed_game leader contrary) (of_variable 2) (choose (pos 0 ∷ []) (choose [] dear)) (pos 4)
no_tie = only_strategy (opposed_game leader contrary) (of_variable 2) (choose (pos 0 ∷ []) (choose [] dear)) (pos 4) refl refl
