-- What each scope sees, as the text writes it.
use Rattle.std.specs.Prelude.{◌==◌, ℕ, suc, nat_lt, Bool, true, false, cond, List, [], ◌∷◌, drop, flat_map, Option, None, Some}
use Rattle.qc_model.specs.declared.problem.Kind.{Kind}
use Rattle.qc_model.specs.declared.problem.Kind.TheVariants.{Exists, Forall}
use Rattle.text_grammar.specs.declared.tree.Word.{Word}
use Rattle.text_grammar.specs.declared.tree.ConditionText.{ConditionText}
use Rattle.text_grammar.specs.declared.tree.Item.TheVariants.{Exists as ExistsItem, Forall as ForallItem, Goal as GoalItem, Variable, Aggregate as AggregateItem, Constraint}
use Rattle.text_resolve.specs.declared.names.Named.TheVariants.{Integer, Boolean, Aggregate}
use Rattle.text_resolve.specs.declared.names.Meant.{Meant}
use Rattle.text_resolve.specs.Owned.{Owned, word_bytes}
use Rattle.text_resolve.specs.Names.{Declared, look_up, argument_uses, first_word}
use Rattle.text_resolve.specs.Fits.{first_place}

-- the first universal scope from scope n on, whose kind is the first of these
abbrev pub universal_from : ℕ → List Kind → Option ℕ
universal_from n [] = None
universal_from n (Exists ∷ later) = universal_from (suc n) later
universal_from n (Forall ∷ later) = Some n

-- the next universal scope after scope i
abbrev pub next_universal : List Kind → ℕ → Option ℕ
next_universal kinds i = universal_from (suc i) (drop (suc i) kinds)

-- a variable of a scope before the universal scope, or an aggregate of that scope
abbrev pub is_seen_before : ℕ → Meant → Bool
is_seen_before u m = elim m.named [ Integer k ↦ nat_lt m.scope u | Boolean k ↦ nat_lt m.scope u | Aggregate k ↦ m.scope == u ]

-- any variable, where no universal scope follows
abbrev pub is_variable_meant : Meant → Bool
is_variable_meant m = elim m.named [ Integer k ↦ true | Boolean k ↦ true | Aggregate k ↦ false ]

abbrev pub is_seen : Option ℕ → Meant → Bool
is_seen None m = is_variable_meant m
is_seen (Some u) m = is_seen_before u m

-- the place of a target that a condition or a fold of scope i doesn't see
abbrev pub hidden_meant : List Kind → ℕ → ℕ → Option Meant → Option ℕ
hidden_meant kinds i at None = None
hidden_meant kinds i at (Some m) = cond (is_seen (next_universal kinds i) m) None (Some at)

abbrev pub hidden_target : List ℕ → List Declared → List Kind → ℕ → Word → Option ℕ
hidden_target text ds kinds i w = hidden_meant kinds i w.start (look_up ds (word_bytes text w))

abbrev pub hidden_condition : List ℕ → List Declared → List Kind → ℕ → Option ConditionText → Option ℕ
hidden_condition text ds kinds i None = None
hidden_condition text ds kinds i (Some c) = hidden_target text ds kinds i c.target

-- a name that a later scope than i declares
abbrev pub is_later : ℕ → Option Meant → Bool
is_later i None = false
is_later i (Some m) = nat_lt i m.scope

abbrev pub is_later_word : List ℕ → List Declared → ℕ → Word → Bool
is_later_word text ds i w = is_later i (look_up ds (word_bytes text w))

-- the place of the first name of an item that it doesn't see. The goal's number is past all scopes, so it sees all
abbrev pub hidden_in : List ℕ → List Declared → List Kind → Owned → Option ℕ
hidden_in text ds kinds o = elim o.item [
  | ExistsItem at condition ↦ hidden_condition text ds kinds o.owner condition
  | ForallItem at ↦ None
  | GoalItem ↦ None
  | Variable at domain name ↦ None
  | AggregateItem at name fold target ↦ hidden_target text ds kinds o.owner target
  | Constraint at name args ↦ first_word (is_later_word text ds o.owner) (flat_map argument_uses args)
]

abbrev pub first_hidden : List ℕ → List Declared → List Kind → List Owned → Option ℕ
first_hidden text ds kinds os = first_place (hidden_in text ds kinds) os
