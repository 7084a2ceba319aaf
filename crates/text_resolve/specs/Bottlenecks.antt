-- Where a text asks for more after an aggregate by least or greatest.
use Rattle.std.specs.Prelude.{◌==◌, ◌-◌, ℕ, cond, List, [], ◌∷◌, Option}
use Rattle.std.specs.Option.{option_map}
use Rattle.qc_model.specs.Content.{Game}
use Rattle.qc_model.specs.Bottlenecks.{first_bottleneck}
use Rattle.text_grammar.specs.declared.tree.Item.{Item}
use Rattle.text_grammar.specs.declared.tree.Item.TheVariants.{Exists as ExistsItem, Forall as ForallItem, Goal as GoalItem, Variable, Aggregate as AggregateItem, Constraint}
use Rattle.text_resolve.specs.Draft.{game_of}

-- the place of the aggregate with this number. A problem has each aggregate that it names, so it is found
abbrev pub aggregate_at : List Item → ℕ → ℕ
aggregate_at [] q = 0
aggregate_at (i ∷ is) q = elim i [
  | ExistsItem at condition ↦ aggregate_at is q
  | ForallItem at ↦ aggregate_at is q
  | GoalItem ↦ aggregate_at is q
  | Variable at domain name ↦ aggregate_at is q
  | AggregateItem at name fold target ↦ cond (q == 0) at (aggregate_at is (q - 1))
  | Constraint at name args ↦ aggregate_at is q
]

-- the place of the first aggregate by least or greatest that the list of a universal scope names before a different one
abbrev pub bottleneck_at : Game → List Item → Option ℕ
bottleneck_at g items = option_map (aggregate_at items) (first_bottleneck g g.scopes [])

abbrev pub first_followed : List ℕ → List Item → Option ℕ
first_followed text items = bottleneck_at (game_of text items) items
