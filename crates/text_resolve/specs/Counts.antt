-- What the items of a text declare, one by one.
use Rattle.std.specs.Prelude.{ℕ, suc, List, ◌∷◌, Option, None, Some}
use Rattle.text_grammar.specs.declared.tree.Item.{Item}
use Rattle.text_grammar.specs.declared.tree.Item.TheVariants.{Exists as ExistsItem, Forall as ForallItem, Goal as GoalItem, Variable, Aggregate as AggregateItem, Constraint}
use Rattle.text_resolve.specs.declared.names.Named.TheVariants.{Aggregate}
use Rattle.text_resolve.specs.declared.counts.Counts.{Counts}
use Rattle.text_resolve.specs.declared.counts.Declaration.{Declaration}
use Rattle.text_resolve.specs.Owned.{owned_from, word_bytes}
use Rattle.text_resolve.specs.Names.{Declared, declared_from, variable_named}

-- what an item declares, after so many scopes, variables and aggregates
abbrev pub declares : Counts → Item → Option Declaration
declares c (ExistsItem at condition) = None
declares c (ForallItem at) = None
declares c GoalItem = None
declares c (Variable at domain name) = Some (record { name = name; meant = record { named = variable_named domain c.variables; scope = c.owner } })
declares c (AggregateItem at name fold target) = Some (record { name = name; meant = record { named = Aggregate c.aggregates; scope = c.owner } })
declares c (Constraint at name args) = None

-- the counts with that item
abbrev pub counts_after : Counts → Item → Counts
counts_after c (ExistsItem at condition) = record c { scopes = suc c.scopes; owner = c.scopes }
counts_after c (ForallItem at) = record c { scopes = suc c.scopes; owner = c.scopes }
counts_after c GoalItem = record c { owner = c.scopes }
counts_after c (Variable at domain name) = record c { variables = suc c.variables }
counts_after c (AggregateItem at name fold target) = record c { aggregates = suc c.aggregates }
counts_after c (Constraint at name args) = c

-- what these items declare, where so much came before them
abbrev pub declared_after : List ℕ → Counts → List Item → List Declared
declared_after text c items = declared_from text c.variables c.aggregates (owned_from c.scopes c.owner items)

-- a declaration before others
abbrev pub with_declared : List ℕ → Option Declaration → List Declared → List Declared
with_declared text None ds = ds
with_declared text (Some d) ds = record { name = word_bytes text d.name; at = d.name.start; meant = d.meant } ∷ ds
