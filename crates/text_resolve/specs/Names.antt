-- The names that a text declares, and those that it uses.
use Rattle.std.specs.Prelude.{ℕ, suc, Bool, cond, is_none, List, [], ◌∷◌, find, flat_map, Option, None, Some}
use Rattle.std.specs.List.{list_any}
use Rattle.std.specs.Option.{option_map}
use Rattle.std.specs.Str.{bytes_eq}
use Rattle.text_grammar.specs.declared.tree.Word.{Word}
use Rattle.text_grammar.specs.declared.tree.One.{One}
use Rattle.text_grammar.specs.declared.tree.One.TheVariants.{Name as OneName, Number as OneNumber, Truth as OneTruth}
use Rattle.text_grammar.specs.declared.tree.DomainText.{DomainText}
use Rattle.text_grammar.specs.declared.tree.DomainText.TheVariants.{Bits as BitsDomain, Members as MembersDomain}
use Rattle.text_grammar.specs.declared.tree.ArgumentText.{ArgumentText}
use Rattle.text_grammar.specs.declared.tree.ArgumentText.TheVariants.{One as OneArgument, Members as MembersArgument, Array}
use Rattle.text_grammar.specs.declared.tree.ConditionText.{ConditionText}
use Rattle.text_grammar.specs.declared.tree.Item.{Item}
use Rattle.text_grammar.specs.declared.tree.Item.TheVariants.{Exists as ExistsItem, Forall as ForallItem, Goal as GoalItem, Variable, Aggregate as AggregateItem, Constraint}
use Rattle.text_resolve.specs.declared.names.Named.{Named}
use Rattle.text_resolve.specs.declared.names.Named.TheVariants.{Integer, Boolean, Aggregate}
use Rattle.text_resolve.specs.declared.names.Meant.{Meant}
use Rattle.text_resolve.specs.Owned.{Owned, owned, word_bytes}

-- a name that is declared: its bytes, its place, and what it stands for
pub record Declared : Type 0 where
  pub name : List ℕ
  pub at : ℕ
  pub meant : Meant

abbrev pub variable_named : DomainText → ℕ → Named
variable_named (BitsDomain at) k = Boolean k
variable_named (MembersDomain m) k = Integer k

abbrev pub declared_as : List ℕ → Word → Named → ℕ → Declared
declared_as text w named scope = record { name = word_bytes text w; at = w.start; meant = record { named = named; scope = scope } }

-- what these items declare, after so many variables and aggregates
abbrev pub declared_from : List ℕ → ℕ → ℕ → List Owned → List Declared
declared_from text xs qs [] = []
declared_from text xs qs (o ∷ os) = elim o.item [
  | ExistsItem at condition ↦ declared_from text xs qs os
  | ForallItem at ↦ declared_from text xs qs os
  | GoalItem ↦ declared_from text xs qs os
  | Variable at domain name ↦ declared_as text name (variable_named domain xs) o.owner ∷ declared_from text (suc xs) qs os
  | AggregateItem at name fold target ↦ declared_as text name (Aggregate qs) o.owner ∷ declared_from text xs (suc qs) os
  | Constraint at name args ↦ declared_from text xs qs os
]

-- the names that a text declares, in order
abbrev pub declared : List ℕ → List Item → List Declared
declared text items = declared_from text 0 0 (owned items)

-- what a name stands for; of two declarations the first counts
abbrev pub look_up : List Declared → List ℕ → Option Meant
look_up ds name = option_map (λ d. d.meant) (find (λ d. bytes_eq d.name name) ds)

-- the place of the first name that was declared before, or stands among these
abbrev pub first_repeated : List (List ℕ) → List Declared → Option ℕ
first_repeated before [] = None
first_repeated before (d ∷ ds) = cond (list_any (bytes_eq d.name) before) (Some d.at) (first_repeated (d.name ∷ before) ds)

abbrev pub one_uses : One → List Word
one_uses (OneName w) = w ∷ []
one_uses (OneNumber n) = []
one_uses (OneTruth b) = []

abbrev pub argument_uses : ArgumentText → List Word
argument_uses (OneArgument a) = one_uses a
argument_uses (MembersArgument m) = []
argument_uses (Array at items) = flat_map one_uses items

abbrev pub condition_uses : Option ConditionText → List Word
condition_uses None = []
condition_uses (Some c) = c.target ∷ []

-- the names that an item uses in a condition, a fold or an argument, in order
abbrev pub item_uses : Item → List Word
item_uses (ExistsItem at condition) = condition_uses condition
item_uses (ForallItem at) = []
item_uses GoalItem = []
item_uses (Variable at domain name) = []
item_uses (AggregateItem at name fold target) = target ∷ []
item_uses (Constraint at name args) = flat_map argument_uses args

-- the place of the first name that passes
abbrev pub first_word : (Word → Bool) → List Word → Option ℕ
first_word p ws = option_map (λ w. w.start) (find p ws)

abbrev pub is_unknown : List ℕ → List Declared → Word → Bool
is_unknown text ds w = is_none (look_up ds (word_bytes text w))

-- the place of the first name used that is declared nowhere
abbrev pub first_unknown : List ℕ → List Declared → List Item → Option ℕ
first_unknown text ds items = first_word (is_unknown text ds) (flat_map item_uses items)
