-- Which scope each item stands in.
use Rattle.std.specs.Prelude.{ℕ, suc, List, [], ◌∷◌, ◌-◌, take, drop, filter_map, Option, None, Some}
use Rattle.qc_model.specs.declared.problem.Kind.{Kind}
use Rattle.qc_model.specs.declared.problem.Kind.TheVariants.{Exists, Forall}
use Rattle.text_grammar.specs.declared.tree.Word.{Word}
use Rattle.text_grammar.specs.declared.tree.Item.{Item}
use Rattle.text_grammar.specs.declared.tree.Item.TheVariants.{Exists as ExistsItem, Forall as ForallItem, Goal as GoalItem, Variable, Aggregate, Constraint}

-- the bytes of a name
abbrev pub word_bytes : List ℕ → Word → List ℕ
word_bytes text w = take (w.end - w.start) (drop w.start text)

abbrev pub kind_of : Item → Option Kind
kind_of (ExistsItem at condition) = Some Exists
kind_of (ForallItem at) = Some Forall
kind_of GoalItem = None
kind_of (Variable at domain name) = None
kind_of (Aggregate at name fold target) = None
kind_of (Constraint at name args) = None

-- the kinds of the scopes, in order
abbrev pub kinds_of : List Item → List Kind
kinds_of items = filter_map kind_of items

-- how many scopes have begun with this item, where n had before it
abbrev pub heads_after : ℕ → Item → ℕ
heads_after n (ExistsItem at condition) = suc n
heads_after n (ForallItem at) = suc n
heads_after n GoalItem = n
heads_after n (Variable at domain name) = n
heads_after n (Aggregate at name fold target) = n
heads_after n (Constraint at name args) = n

-- the number of the scope that an item stands in or begins, counted from 0; the goal's is the number of scopes
abbrev pub owner_of : ℕ → ℕ → Item → ℕ
owner_of n owner (ExistsItem at condition) = n
owner_of n owner (ForallItem at) = n
owner_of n owner GoalItem = n
owner_of n owner (Variable at domain name) = owner
owner_of n owner (Aggregate at name fold target) = owner
owner_of n owner (Constraint at name args) = owner

-- an item with that number
pub record Owned : Type 0 where
  pub owner : ℕ
  pub item : Item

-- the items after n scopes have begun, the last of them with that owner
abbrev pub owned_from : ℕ → ℕ → List Item → List Owned
owned_from n owner [] = []
owned_from n owner (i ∷ is) = record { owner = owner_of n owner i; item = i } ∷ owned_from (heads_after n i) (owner_of n owner i) is

abbrev pub owned : List Item → List Owned
owned items = owned_from 0 0 items
