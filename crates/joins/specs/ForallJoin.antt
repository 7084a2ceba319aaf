-- Which leaves a universal join stands for.
use Rattle.std.specs.Prelude.{◌≡◌, ℕ, Bool, List, map, not, ℤ}
use Rattle.qc_model.specs.Content.{Game}
use Rattle.qc_model.specs.Demands.{demands}
use Rattle.qc_model.specs.Verdict.{Seen, is_lost, is_exact, some_node, each_node, exact_vectors, is_none_of}
use Rattle.qc_model.specs.ForallVerdict.{known_numbers, is_known}
use Rattle.joins.specs.Columns.{TotalsAre, known_of, sources_of, first_sense}
use Rattle.joins.specs.declared.columns.Column.{Column}
use Rattle.joins.specs.declared.forall_join.ForallJoin.{ForallJoin}

-- what is kept is what the verdict needs of these leaves
pub record Gathers (cs : List Column) (any_lost all_exact all_known has_exact any_known : Bool) (known : ℤ) (xs : List Seen) : Type 0 where
  pub any_lost_is : any_lost ≡ some_node is_lost xs
  pub all_exact_is : all_exact ≡ each_node is_exact xs
  pub all_known_is : all_known ≡ each_node is_known xs
  pub has_exact_is : has_exact ≡ not (is_none_of (exact_vectors xs))
  pub any_known_is : any_known ≡ not (is_none_of (known_numbers xs))
  pub totals : TotalsAre (exact_vectors xs) cs
  pub known_is : known ≡ known_of cs (known_numbers xs)

-- the join stands for these leaves
abbrev pub StandsFor : ForallJoin → List Seen → Type 0
StandsFor join xs = Gathers join.columns.items join.any_lost join.all_exact join.all_known join.has_exact join.any_known join.known xs

-- it joins the leaves of scope i; the goal counts as the last
pub record JoinsScope (g : Game) (i : ℕ) (join : ForallJoin) : Type 0 where
  pub sources : map (λ c. c.source) join.columns.items ≡ sources_of g (demands g i)
  pub sense : join.sense ≡ first_sense (demands g i)

-- both join the leaves of the same scope
pub record JoinsAs (old new : ForallJoin) : Type 0 where
  pub sources : map (λ c. c.source) new.columns.items ≡ map (λ c. c.source) old.columns.items
  pub sense : new.sense ≡ old.sense
