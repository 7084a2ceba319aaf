-- What is kept of a scope's own tree beside its join.
use Rattle.std.specs.Prelude.{◌≡◌, ◌≤◌, Bool, not, ◌&&◌, Option, Some, None, List, [], ◌∷◌, ℤ}
use Rattle.qc_model.specs.declared.problem.Condition.{Condition}
use Rattle.qc_model.specs.Verdict.{Seen, is_lost, each_node, bounds, is_none_of}
use Rattle.qc_model.specs.ExistsVerdict.{best_number}
use Rattle.joins.specs.Sizes.{HasSizes}
use Rattle.dense_nest.specs.declared.told.Tally.{Tally}

-- the best of the values by what is demanded first, where there is one
abbrev pub best_held : List Condition → List ℤ → Option ℤ
best_held d [] = None
best_held [] (v ∷ vs) = Some v
best_held (c ∷ d) (v ∷ vs) = Some (best_number c.sense (v ∷ vs))

-- a leaf is neither lost nor barred, or a mark is there
abbrev pub is_mixed : List Seen → Bool
is_mixed xs = not (each_node is_lost xs && is_none_of (bounds xs))

pub record IsTally (d : List Condition) (xs : List Seen) (bests : List ℤ) (t : Tally) : Type 0 where
  pub few : t.size ≤ 4294967296
  pub sizes : HasSizes t.size xs
  pub best : t.best ≡ best_held d bests
  pub mixed : t.mixed ≡ is_mixed xs

abbrev pub HasTally : List Condition → List Seen → List ℤ → Option Tally → Type 0
HasTally d xs bests None = (t : Tally) × IsTally d xs bests t × (None ≡ Some t)
HasTally d xs bests (Some t) = IsTally d xs bests t
