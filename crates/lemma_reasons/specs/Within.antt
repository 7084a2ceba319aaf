-- The constraints of some scopes.
use Rattle.std.specs.Prelude.{ℕ, suc, Bool, not, ◌||◌}
use Rattle.qc_model.specs.Content.{Game}
use Rattle.qc_model.specs.Domains.{Box}
use Rattle.qc_model.specs.Block.{is_owned_within}
use Rattle.qc_model.specs.Counter.{opposite}
use Rattle.lemma_list.specs.Lemmas.{Lemma}
use Rattle.lemma_list.specs.Places.{is_kind, side_at}
use Rattle.lemma_list.specs.Sums.{is_kept}
use Rattle.lemma_list.specs.Reasons.{all_rules}

-- those of the scopes, or the goal, from i to the one before stop are kept
abbrev pub kept_within : Game → Lemma → ℕ → ℕ → Box → Bool
kept_within g m i stop box = all_rules (λ k c. not (is_owned_within i stop c) || is_kept g m k c box) 0 g.constraints

-- scope j isn't the winner's, or its restriction is kept
abbrev pub is_passed : Game → Lemma → ℕ → Box → Bool
is_passed g m j box = not (is_kind (opposite m.loser) (side_at g j)) || kept_within g m j (suc j) box
