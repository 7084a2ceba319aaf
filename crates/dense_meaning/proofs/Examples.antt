-- Worked cases of the definitions.
use Rattle.std.proofs.Common.{◌≡◌, inl, inr, [], ◌∷◌, refl}
use Rattle.std.specs.Prelude.{pos}
use Rattle.qc_model.specs.Plan.{Plan, finish, choose, answer, no_entries, entry}
use Rattle.qc_model.specs.Verdict.{lost, exact, at_most, unknown}
use Rattle.model_laws.proofs.CaseGames.{of_variable, minimise, summed}
use Rattle.model_laws.specs.Verdicts.{barred, skipped, marked}
use Rattle.dense_meaning.specs.Throughout.{PlaysLie, as_bound}
use Rattle.dense_meaning.specs.Kept.{kept_box}
use Rattle.dense_meaning.specs.Leaves.{many, part_claim}

-- a best vector counts by its first value, where something is asked
best_as_bound : as_bound (minimise (of_variable 2) ∷ []) (exact (pos 5 ∷ [])) ≡ at_most (pos 5)
best_as_bound = refl

nothing_asked : as_bound [] (exact []) ≡ unknown
nothing_asked = refl

lost_stays : as_bound [] lost ≡ lost
lost_stays = refl

-- the plan answers 1 by 2 and 2 by 3; its plays lie in the box, to their end
abbrev replies : Plan
replies = answer (entry (pos 1 ∷ []) (choose (pos 2 ∷ []) finish) (entry (pos 2 ∷ []) (choose (pos 3 ∷ []) finish) no_entries))

in_wide : PlaysLie ((pos 0 ∷ []) ∷ (pos 1 ∷ pos 2 ∷ []) ∷ (pos 2 ∷ pos 3 ∷ []) ∷ []) (pos 0 ∷ []) replies
in_wide = ((inl refl, tt), ((inl refl, (inl refl, (inl refl, tt))), ((inl refl, (inr (inl refl), (inr (inl refl), tt))), tt)))

-- one of them doesn't where its last value is taken, though all answers lie in the box
not_in_small : ¬ PlaysLie ((pos 0 ∷ []) ∷ (pos 1 ∷ pos 2 ∷ []) ∷ (pos 2 ∷ []) ∷ []) (pos 0 ∷ []) replies
not_in_small h = elim h.1.1.0.1.1.0 [ inl e ↦ differ e | inr n ↦ n ]
  where
    differ : pos 3 ≡ pos 2 → ⊥
    differ e = cc

-- x keeps 1, and the other variables their declared values
one_kept : kept_box summed (record { variable = 0; value = pos 1 } ∷ [])
    ≡ (pos 1 ∷ []) ∷ (pos 1 ∷ pos 2 ∷ pos 3 ∷ []) ∷ (pos 0 ∷ pos 1 ∷ pos 2 ∷ pos 3 ∷ []) ∷ []
one_kept = refl

-- a part that is bounded is a mark, one that is lost is nothing, and one of which nothing is known is left out
part_bounded : part_claim (minimise (of_variable 2) ∷ []) (many [] (at_most (pos 4))) ≡ marked (pos 4)
part_bounded = refl

part_lost : part_claim (minimise (of_variable 2) ∷ []) (many [] lost) ≡ barred
part_lost = refl

part_unknown : part_claim (minimise (of_variable 2) ∷ []) (many [] unknown) ≡ skipped
part_unknown = refl

won_part_unasked : part_claim [] (many [] (exact [])) ≡ skipped
won_part_unasked = refl
