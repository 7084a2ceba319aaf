-- Worked cases: games small enough to compute all their optimal strategies.
use Rattle.std.proofs.Common.{◌≡◌, refl, sym, subst, inl, ℕ, suc, true, false, List, [], ◌∷◌, ℤ, None, drop}
use Rattle.std.specs.Prelude.{pos}
use Rattle.qc_model.specs.declared.problem.Condition.{Condition}
use Rattle.qc_model.specs.declared.problem.Scope.{Scope}
use Rattle.qc_model.specs.Content.{Game}
use Rattle.qc_model.specs.Lists.{LiesIn}
use Rattle.qc_model.specs.Value.{value}
use Rattle.qc_model.specs.Game.{IsMove, allows, scope_domains, moves, IsWon}
use Rattle.qc_model.specs.Plan.{Plan, finish, choose, answer, no_entries, entry}
use Rattle.qc_model.specs.Optimal.{Optimal}
use Rattle.qc_model.specs.Counter.{CounterWins}
use Rattle.qc_model.specs.Demands.{vector, is_better_vector, demands, IsBestVector}
use Rattle.qc_model.proofs.Moves.{moves_from}
use Rattle.model_laws.specs.Strategies.{optimal_strategies}
use Rattle.model_laws.specs.Positions.{Chosen}
use Rattle.model_laws.proofs.Choices.{best_choice, condition_position, own_value_is}
use Rattle.model_laws.proofs.Universal.{optimal_universal}
use Rattle.model_laws.proofs.Computed.{IsOptimum, only_strategy, none_optimal, computed_best}
use Rattle.model_laws.proofs.CaseGames.{of_variable, of_aggregate, minimise, exists, forall_scope, indifferent, opposed, summed, sum_then_greatest, greatest_of_none, least_of_none, blocked}

-- THE LEADER TAKES THE FOLLOWER'S TIE. Whatever the follower does, its d is 0: after x = 0 both its answers are optimal,
-- y = 0 at the cost 0 and y = 1 at the cost 4.
abbrev cheap : Plan
cheap = choose (pos 0 ∷ pos 0 ∷ pos 0 ∷ []) finish

abbrev dear : Plan
dear = choose (pos 1 ∷ pos 4 ∷ pos 0 ∷ []) finish

follower_is_tied : optimal_strategies indifferent (drop 1 indifferent.scopes) 1 (pos 0 ∷ []) ≡ cheap ∷ dear ∷ []
follower_is_tied = refl

-- its position counts for the leader by the best of them
tied_position : IsBestVector indifferent (minimise (of_variable 2) ∷ []) (pos 0 ∷ []) (Optimal indifferent (drop 1 indifferent.scopes) 1 (pos 0 ∷ [])) (pos 0 ∷ [])
tied_position = computed_best indifferent (minimise (of_variable 2) ∷ []) (drop 1 indifferent.scopes) 1 (pos 0 ∷ []) cheap (pos 0 ∷ []) (inl refl) refl refl

-- so the leader's optimum is 0, and the only optimal strategy has the cheap answer
tie_is_taken : IsOptimum indifferent (of_variable 2) (choose (pos 0 ∷ []) cheap) (pos 0)
tie_is_taken = only_strategy indifferent (of_variable 2) (choose (pos 0 ∷ []) cheap) (pos 0) refl refl

-- THE FOLLOWER'S OWN WISH COMES FIRST. Where it maximises y it has no tie: it takes y = 1, and the leader pays 4.
wish_comes_first : IsOptimum opposed (of_variable 2) (choose (pos 0 ∷ []) dear) (pos 4)
wish_comes_first = only_strategy opposed (of_variable 2) (choose (pos 0 ∷ []) dear) (pos 4) refl refl

-- THE SUM OVER THE BRANCHES. With x = 2 the player needs 0, 0 and 1 against t = 1, 2 and 3, which is 1 in all;
-- with x = 0 it would be 1 + 2 + 3, with x = 1 it would be 0 + 1 + 2.
abbrev shares : Plan
shares =
    answer (entry (pos 1 ∷ []) (choose (pos 0 ∷ []) finish)
    (entry (pos 2 ∷ []) (choose (pos 0 ∷ []) finish) (entry (pos 3 ∷ []) (choose (pos 1 ∷ []) finish) no_entries)))

sum_over_branches : IsOptimum summed (of_aggregate 0) (choose (pos 2 ∷ []) shares) (pos 1)
sum_over_branches = only_strategy summed (of_aggregate 0) (choose (pos 2 ∷ []) shares) (pos 1) refl refl

-- A SUM, AND THE GREATEST AFTER IT. The nearer condition asks for a small sum of the z, which forces z = 0 in each branch; then w
-- is 1 and 2 against t = 1 and t = 2, and the leader's greatest w is 2. By the laws, from the best of each branch.
scope_without_variables : (g : Game) (i : ℕ) (a : List ℤ) → scope_domains g i ≡ [] → (u : List ℤ) → IsMove g i a u → u ≡ []
scope_without_variables g i a e u m = empty u (subst (LiesIn u) e m.is_tuple)
  where
    empty : (u : List ℤ) → LiesIn u [] → u ≡ []
    empty [] h = refl
    empty (x ∷ u) h = absurd h

passed : (g : Game) (later : List Scope) (e : List Condition) (i : ℕ) (w : List ℤ) → scope_domains g i ≡ [] → allows g i [] ≡ true →
    IsBestVector g e [] (Optimal g later (suc i) []) w → IsBestVector g e [] (Chosen g i [] (Optimal g later (suc i))) w
passed g later e i w empty allowed b =
    best_choice g e i [] (Optimal g later (suc i)) [] w (record { is_tuple = subst (LiesIn []) (sym empty) tt; is_allowed = allowed }) b
    (λ u r m. subst (λ z. Optimal g later (suc i) z r → is_better_vector e (vector g e z r) w ≡ false) (sym (scope_without_variables g i [] empty u m)) (b.none_better r))

against_one : IsBestVector sum_then_greatest (demands sum_then_greatest 3) (pos 1 ∷ []) (Optimal sum_then_greatest (exists None ∷ []) 3 (pos 1 ∷ [])) (pos 0 ∷ pos 1 ∷ [])
against_one = computed_best sum_then_greatest (demands sum_then_greatest 3) (exists None ∷ []) 3 (pos 1 ∷ []) (choose (pos 0 ∷ pos 1 ∷ []) finish) (pos 0 ∷ pos 1 ∷ []) (inl refl) refl refl

against_two : IsBestVector sum_then_greatest (demands sum_then_greatest 3) (pos 2 ∷ []) (Optimal sum_then_greatest (exists None ∷ []) 3 (pos 2 ∷ [])) (pos 0 ∷ pos 2 ∷ [])
against_two = computed_best sum_then_greatest (demands sum_then_greatest 3) (exists None ∷ []) 3 (pos 2 ∷ []) (choose (pos 0 ∷ pos 2 ∷ []) finish) (pos 0 ∷ pos 2 ∷ []) (inl refl) refl refl

both_figures : IsBestVector sum_then_greatest (demands sum_then_greatest 2) [] (Optimal sum_then_greatest (drop 2 sum_then_greatest.scopes) 2 []) (pos 0 ∷ pos 2 ∷ [])
both_figures =
    optimal_universal sum_then_greatest (exists None ∷ []) None 2 [] (demands sum_then_greatest 2) ((pos 0 ∷ pos 1 ∷ []) ∷ (pos 0 ∷ pos 2 ∷ []) ∷ []) refl
    (against_one, (against_two, tt))

leader_of_two : IsBestVector sum_then_greatest (minimise (of_aggregate 1) ∷ []) [] (Chosen sum_then_greatest 0 [] (Optimal sum_then_greatest (drop 1 sum_then_greatest.scopes) 1)) (pos 2 ∷ [])
leader_of_two =
    passed sum_then_greatest (drop 1 sum_then_greatest.scopes) (minimise (of_aggregate 1) ∷ []) 0 (pos 2 ∷ []) refl refl
    (condition_position sum_then_greatest (drop 2 sum_then_greatest.scopes) 1 [] (minimise (of_aggregate 0)) (minimise (of_aggregate 1) ∷ []) (pos 0) (pos 2 ∷ [])
    (passed sum_then_greatest (drop 2 sum_then_greatest.scopes) (demands sum_then_greatest 2) 1 (pos 0 ∷ pos 2 ∷ []) refl refl both_figures))

-- so there is an optimal strategy, and each has a greatest w of 2
optimum_of_two : (p : Plan) × Optimal sum_then_greatest sum_then_greatest.scopes 0 [] p
optimum_of_two =
    let b = condition_position sum_then_greatest (drop 1 sum_then_greatest.scopes) 0 [] (minimise (of_aggregate 1)) [] (pos 2) [] leader_of_two in
    (b.some.0, b.some.1)

greatest_after_sum : (p : Plan) → Optimal sum_then_greatest sum_then_greatest.scopes 0 [] p → value sum_then_greatest p (of_aggregate 1) [] ≡ pos 2
greatest_after_sum = own_value_is sum_then_greatest (drop 1 sum_then_greatest.scopes) 0 [] (minimise (of_aggregate 1)) [] (pos 2) [] leader_of_two

-- THE FOLD OVER NO BRANCH. With x = 0 the opponent has no move: the game is won there, and the greatest t is the
-- number after `else`, 7. With x = 1 it is 1. The same with the least in place of the greatest.
no_move_for_opponent : moves greatest_of_none 1 (pos 0 ∷ []) ≡ []
no_move_for_opponent = refl

greatest_over_no_branch : IsOptimum greatest_of_none (of_aggregate 0) (choose (pos 0 ∷ []) (answer no_entries)) (pos 7)
greatest_over_no_branch = only_strategy greatest_of_none (of_aggregate 0) (choose (pos 0 ∷ []) (answer no_entries)) (pos 7) refl refl

least_over_no_branch : IsOptimum least_of_none (of_aggregate 0) (choose (pos 0 ∷ []) (answer no_entries)) (pos 7)
least_over_no_branch = only_strategy least_of_none (of_aggregate 0) (choose (pos 0 ∷ []) (answer no_entries)) (pos 7) refl refl

-- WHO IS STUCK LOSES. Nobody can pass the scope: where it is the opponent's, the player has won by saying nothing;
-- where it is the player's, the game isn't won, no strategy is optimal, and the empty counterstrategy wins.
stuck_opponent_loses : IsWon (blocked forall_scope)
stuck_opponent_loses = λ t m. absurd (moves_from (blocked forall_scope) 0 [] t m)

opponent_is_stuck : optimal_strategies (blocked forall_scope) (forall_scope ∷ []) 0 [] ≡ answer no_entries ∷ []
opponent_is_stuck = refl

stuck_player_loses : ¬ IsWon (blocked (exists None))
stuck_player_loses = λ w. moves_from (blocked (exists None)) 0 [] w.0 w.1

player_is_stuck : (p : Plan) → ¬ Optimal (blocked (exists None)) (exists None ∷ []) 0 [] p
player_is_stuck = none_optimal (blocked (exists None)) refl

nothing_to_reply : CounterWins (blocked (exists None)) (exists None ∷ []) 0 [] (answer no_entries)
nothing_to_reply = λ t m. absurd (moves_from (blocked (exists None)) 0 [] t m)
