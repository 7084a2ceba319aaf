-- Of which texts a draft can be made.
use Rattle.std.specs.Prelude.{◌≡◌, ℕ, Bool, true, List, None, IsTrue}
use Rattle.std.specs.List.{list_all}
use Rattle.qc_model.specs.Names.{is_word}
use Rattle.text_grammar.specs.declared.tree.Item.{Item}
use Rattle.text_grammar.specs.declared.tree.Item.TheVariants.{Exists as ExistsItem, Forall as ForallItem, Goal as GoalItem, Variable, Aggregate as AggregateItem, Constraint}
use Rattle.text_resolve.specs.Owned.{word_bytes}
use Rattle.text_resolve.specs.Names.{declared}
use Rattle.text_resolve.specs.Excess.{first_excess}

-- the name that an item declares is a word
abbrev pub declares_word : List ℕ → Item → Bool
declares_word text (Variable at domain name) = is_word (word_bytes text name)
declares_word text (AggregateItem at name fold target) = is_word (word_bytes text name)
declares_word text (ExistsItem at condition) = true
declares_word text (ForallItem at) = true
declares_word text GoalItem = true
declares_word text (Constraint at name args) = true

pub record IsMakeable (text : List ℕ) (items : List Item) : Type 0 where
  -- nothing is in excess, so each number fits its identifier
  pub limits : first_excess text 0 0 0 0 items ≡ None
  -- each name is a word, which is text
  pub names : IsTrue (list_all (λ d. is_word d.name) (declared text items))
