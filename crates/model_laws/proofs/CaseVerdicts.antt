-- The worked cases again, as the tables of verdicts see them: leaves, and what they come to.
use Rattle.std.proofs.Common.{◌≡◌, refl, false, List, [], ◌∷◌, Some, None}
use Rattle.std.specs.Prelude.{pos, ℤ}
use Rattle.qc_model.specs.declared.problem.Kind.TheVariants.{Exists, Forall}
use Rattle.qc_model.specs.declared.problem.Condition.{Condition}
use Rattle.qc_model.specs.Demands.{demands}
use Rattle.qc_model.specs.Bottlenecks.{bottleneck_last}
use Rattle.qc_model.specs.Verdict.{lost, exact, at_most, unknown, Seen, seen_barred, seen_skipped, seen_bound, seen_node}
use Rattle.qc_model.specs.ExistsVerdict.{exists_verdict, exists_own}
use Rattle.qc_model.specs.ForallVerdict.{forall_verdict, stuck_verdict}
use Rattle.model_laws.proofs.CaseGames.{of_variable, of_aggregate, minimise, maximise, indifferent, summed, figures, sum_then_greatest, greatest_of_none, least_of_none}

abbrev leaf : List ℤ → Seen
leaf v = seen_node (exact v)

-- the leader's cost
abbrev cost : Condition
cost = minimise (of_variable 2)

-- THE LEADER TAKES THE FOLLOWER'S TIE. After the follower its d is asked for first, then the leader's cost
abbrev indifference : List Condition
indifference = minimise (of_variable 3) ∷ cost ∷ []

lists_of_the_tie : demands indifferent 2 ≡ indifference
lists_of_the_tie = refl

-- its two answers after x = 0 are equal in d, so the cost decides, in whatever order they were found
tie_by_cost : exists_verdict (Some (minimise (of_variable 3))) indifference (leaf (pos 0 ∷ pos 4 ∷ []) ∷ seen_barred ∷ leaf (pos 0 ∷ pos 0 ∷ []) ∷ []) ≡ exact (pos 0 ∷ [])
tie_by_cost = refl

leader_by_tie : exists_own (Some cost) (cost ∷ []) (leaf (pos 0 ∷ []) ∷ leaf (pos 1 ∷ []) ∷ []) ≡ Some (pos 0)
leader_by_tie = refl

-- THE FOLLOWER'S OWN WISH COMES FIRST. It takes y = 1, whatever that costs
wish_by_value : exists_verdict (Some (maximise (of_variable 1))) (maximise (of_variable 1) ∷ cost ∷ []) (leaf (pos 0 ∷ pos 0 ∷ []) ∷ leaf (pos 1 ∷ pos 4 ∷ []) ∷ []) ≡ exact (pos 4 ∷ [])
wish_by_value = refl

leader_by_wish : exists_own (Some cost) (cost ∷ []) (leaf (pos 5 ∷ []) ∷ leaf (pos 4 ∷ []) ∷ []) ≡ Some (pos 4)
leader_by_wish = refl

-- a choice that wasn't looked at may be better
skipped_choice : exists_verdict (Some cost) (cost ∷ []) (leaf (pos 4 ∷ []) ∷ seen_skipped ∷ []) ≡ unknown
skipped_choice = refl

-- a follower that is only bounded, and may be better than what was found, leaves the position unknown
bound_not_beaten : exists_verdict (Some (maximise (of_variable 1))) (maximise (of_variable 1) ∷ cost ∷ []) (leaf (pos 1 ∷ pos 4 ∷ []) ∷ seen_bound (pos 1) ∷ []) ≡ unknown
bound_not_beaten = refl

-- where nothing else is asked, as good as the bound is enough
bound_met : exists_own (Some cost) (cost ∷ []) (leaf (pos 0 ∷ []) ∷ seen_bound (pos 0) ∷ []) ≡ Some (pos 0)
bound_met = refl

-- THE SUM OVER THE BRANCHES, after x = 2, x = 1 and x = 0
lists_of_the_sum : demands summed 2 ≡ minimise (of_variable 2) ∷ []
lists_of_the_sum = refl

sum_of_leaves : forall_verdict summed (minimise (of_aggregate 0) ∷ []) (pos 2 ∷ []) (leaf (pos 0 ∷ []) ∷ leaf (pos 0 ∷ []) ∷ leaf (pos 1 ∷ []) ∷ []) ≡ exact (pos 1 ∷ [])
sum_of_leaves = refl

sum_of_bounds : forall_verdict summed (minimise (of_aggregate 0) ∷ []) (pos 1 ∷ []) (leaf (pos 0 ∷ []) ∷ seen_node (at_most (pos 1)) ∷ leaf (pos 2 ∷ []) ∷ []) ≡ at_most (pos 3)
sum_of_bounds = refl

-- a skipped branch may be worth anything
sum_with_a_gap : forall_verdict summed (minimise (of_aggregate 0) ∷ []) (pos 1 ∷ []) (leaf (pos 0 ∷ []) ∷ seen_skipped ∷ leaf (pos 2 ∷ []) ∷ []) ≡ unknown
sum_with_a_gap = refl

-- A SUM, AND THE GREATEST AFTER IT. The nearer condition is asked for first; after the universal scope each aggregate's own
-- target is asked for, in the same order
sum_first : demands sum_then_greatest 2 ≡ minimise (of_aggregate 0) ∷ minimise (of_aggregate 1) ∷ []
sum_first = refl

lists_of_the_figures : demands sum_then_greatest 3 ≡ minimise (of_variable 1) ∷ minimise (of_variable 2) ∷ []
lists_of_the_figures = refl

-- against t = 1 and t = 2 the branches' best are z = 0 with w = 1 and w = 2
figures_of_leaves : forall_verdict sum_then_greatest (demands sum_then_greatest 2) [] (leaf (pos 0 ∷ pos 1 ∷ []) ∷ leaf (pos 0 ∷ pos 2 ∷ []) ∷ []) ≡ exact (pos 0 ∷ pos 2 ∷ [])
figures_of_leaves = refl

leader_by_figures : exists_own (Some (minimise (of_aggregate 1))) (minimise (of_aggregate 1) ∷ []) (leaf (pos 2 ∷ []) ∷ []) ≡ Some (pos 2)
leader_by_figures = refl

-- a bound of the first figure alone
figures_of_bounds : forall_verdict sum_then_greatest (demands sum_then_greatest 2) [] (leaf (pos 0 ∷ pos 1 ∷ []) ∷ seen_node (at_most (pos 3)) ∷ []) ≡ at_most (pos 3)
figures_of_bounds = refl

figures_when_stuck : stuck_verdict sum_then_greatest Forall (demands sum_then_greatest 2) [] ≡ exact (pos 0 ∷ pos 0 ∷ [])
figures_when_stuck = refl

-- the other way round the greatest would come before the sum, which no problem may ask for
greatest_before_sum : bottleneck_last (figures 0 1) (demands (figures 0 1) 2) ≡ false
greatest_before_sum = refl

-- THE FOLD OVER NO BRANCH. With x = 0 each leaf is barred, with x = 1 only t = 1 is allowed
greatest_of_no_leaf : forall_verdict greatest_of_none (maximise (of_aggregate 0) ∷ []) (pos 0 ∷ []) (seen_barred ∷ seen_barred ∷ []) ≡ exact (pos 7 ∷ [])
greatest_of_no_leaf = refl

greatest_when_stuck : stuck_verdict greatest_of_none Forall (maximise (of_aggregate 0) ∷ []) (pos 0 ∷ []) ≡ exact (pos 7 ∷ [])
greatest_when_stuck = refl

least_when_stuck : stuck_verdict least_of_none Forall (maximise (of_aggregate 0) ∷ []) (pos 0 ∷ []) ≡ exact (pos 7 ∷ [])
least_when_stuck = refl

greatest_of_one_leaf : forall_verdict greatest_of_none (maximise (of_aggregate 0) ∷ []) (pos 1 ∷ []) (leaf (pos 1 ∷ []) ∷ seen_barred ∷ []) ≡ exact (pos 1 ∷ [])
greatest_of_one_leaf = refl

leader_by_no_branch : exists_own (Some (maximise (of_aggregate 0))) (maximise (of_aggregate 0) ∷ []) (leaf (pos 7 ∷ []) ∷ leaf (pos 1 ∷ []) ∷ []) ≡ Some (pos 7)
leader_by_no_branch = refl

-- THE PLAYER IS STUCK, seen by its leaves or by a horizon
no_choice_left : exists_verdict None [] (seen_barred ∷ seen_barred ∷ []) ≡ lost
no_choice_left = refl

no_choice_to_optimise : exists_verdict (Some cost) (cost ∷ []) (seen_barred ∷ seen_barred ∷ []) ≡ lost
no_choice_to_optimise = refl

player_stuck : stuck_verdict indifferent Exists [] [] ≡ lost
player_stuck = refl
