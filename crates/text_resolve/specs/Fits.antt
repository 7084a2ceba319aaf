-- Which arguments fit a predicate, as the text writes them.
use Rattle.std.specs.Prelude.{◌==◌, ◌%◌, ℕ, nat_lt, Bool, true, false, ◌&&◌, cond, is_none, List, [], ◌∷◌, find, length, slice_get, Option, None, Some}
use Rattle.std.specs.List.{list_all}
use Rattle.std.specs.Str.{bytes_eq}
use Rattle.qc_model.specs.declared.problem.Pred.{Pred}
use Rattle.qc_model.specs.declared.signature.ArgKind.{ArgKind}
use Rattle.qc_model.specs.declared.signature.ArgKind.TheVariants.{Integer as integer, Boolean as boolean, Integers as integers, Booleans as booleans, Numbers as numbers, Truths as truths, Members as members}
use Rattle.qc_model.specs.Signature.{arg_kinds_of, pred_name}
use Rattle.qc_model.specs.Meaning.{Meaning, sum_equal, sum_different, sum_at_most, minimum, maximum, table, reified, meaning_of, all_predicates}
use Rattle.text_grammar.specs.declared.tree.Word.{Word}
use Rattle.text_grammar.specs.declared.tree.One.{One}
use Rattle.text_grammar.specs.declared.tree.One.TheVariants.{Name as OneName, Number as OneNumber, Truth as OneTruth}
use Rattle.text_grammar.specs.declared.tree.ArgumentText.{ArgumentText}
use Rattle.text_grammar.specs.declared.tree.ArgumentText.TheVariants.{One as OneArgument, Members as MembersArgument, Array}
use Rattle.text_grammar.specs.declared.tree.ConditionText.{ConditionText}
use Rattle.text_grammar.specs.declared.tree.Item.{Item}
use Rattle.text_grammar.specs.declared.tree.Item.TheVariants.{Exists as ExistsItem, Forall as ForallItem, Goal as GoalItem, Variable, Aggregate as AggregateItem, Constraint}
use Rattle.text_resolve.specs.declared.names.Named.TheVariants.{Integer, Boolean, Aggregate}
use Rattle.text_resolve.specs.declared.names.Meant.{Meant}
use Rattle.text_resolve.specs.Owned.{word_bytes}
use Rattle.text_resolve.specs.Names.{Declared, look_up}

-- the predicate of this name
unfoldable pub predicate_of : List ℕ → Option Pred
predicate_of name = find (λ p. bytes_eq (pred_name p) name) all_predicates

-- a constraint whose predicate is none has its name's place
abbrev pub strange_predicate : List ℕ → Item → Option ℕ
strange_predicate text (Constraint at name args) = cond (is_none (predicate_of (word_bytes text name))) (Some name.start) None
strange_predicate text (ExistsItem at condition) = None
strange_predicate text (ForallItem at) = None
strange_predicate text GoalItem = None
strange_predicate text (Variable at domain name) = None
strange_predicate text (AggregateItem at name fold target) = None

-- what f gives at the first item at which it gives something
abbrev pub first_place : {A : Type 0} → (A → Option ℕ) → List A → Option ℕ
first_place f [] = None
first_place f (x ∷ xs) = elim (f x) [ None ↦ first_place f xs | Some at ↦ Some at ]

abbrev pub first_strange : List ℕ → List Item → Option ℕ
first_strange text items = first_place (strange_predicate text) items

abbrev pub is_integer_meant : Option Meant → Bool
is_integer_meant None = false
is_integer_meant (Some m) = elim m.named [ Integer k ↦ true | Boolean k ↦ false | Aggregate k ↦ false ]

abbrev pub is_boolean_meant : Option Meant → Bool
is_boolean_meant None = false
is_boolean_meant (Some m) = elim m.named [ Integer k ↦ false | Boolean k ↦ true | Aggregate k ↦ false ]

-- an integer variable or a number
abbrev pub is_integer_one : List ℕ → List Declared → One → Bool
is_integer_one text ds (OneName w) = is_integer_meant (look_up ds (word_bytes text w))
is_integer_one text ds (OneNumber n) = true
is_integer_one text ds (OneTruth b) = false

-- a Boolean variable or a truth value
abbrev pub is_boolean_one : List ℕ → List Declared → One → Bool
is_boolean_one text ds (OneName w) = is_boolean_meant (look_up ds (word_bytes text w))
is_boolean_one text ds (OneNumber n) = false
is_boolean_one text ds (OneTruth b) = true

abbrev pub is_number_one : One → Bool
is_number_one (OneName w) = false
is_number_one (OneNumber n) = true
is_number_one (OneTruth b) = false

abbrev pub is_truth_one : One → Bool
is_truth_one (OneName w) = false
is_truth_one (OneNumber n) = false
is_truth_one (OneTruth b) = true

-- an argument of this sort
abbrev pub argument_fits : List ℕ → List Declared → ArgKind → ArgumentText → Bool
argument_fits text ds integer (OneArgument a) = is_integer_one text ds a
argument_fits text ds boolean (OneArgument a) = is_boolean_one text ds a
argument_fits text ds integers (Array at items) = list_all (is_integer_one text ds) items
argument_fits text ds booleans (Array at items) = list_all (is_boolean_one text ds) items
argument_fits text ds numbers (Array at items) = list_all is_number_one items
argument_fits text ds truths (Array at items) = list_all is_truth_one items
argument_fits text ds members (MembersArgument m) = true
argument_fits text ds _ _ = false

-- as many arguments as sorts, each of its own
abbrev pub arguments_fit : List ℕ → List Declared → List ArgKind → List ArgumentText → Bool
arguments_fit text ds [] [] = true
arguments_fit text ds [] (a ∷ args) = false
arguments_fit text ds (s ∷ sorts) [] = false
arguments_fit text ds (s ∷ sorts) (a ∷ args) = argument_fits text ds s a && arguments_fit text ds sorts args

-- how many items the argument at a place has
abbrev pub items_of : Option ArgumentText → ℕ
items_of None = 0
items_of (Some (OneArgument a)) = 1
items_of (Some (MembersArgument m)) = 0
items_of (Some (Array at items)) = length items

abbrev pub is_number_argument : Option ArgumentText → Bool
is_number_argument (Some (OneArgument (OneNumber n))) = true
is_number_argument _ = false

-- as many coefficients as items, and a number
abbrev pub is_sum_text : List ArgumentText → Bool
is_sum_text args = items_of (slice_get args 0) == items_of (slice_get args 1) && is_number_argument (slice_get args 2)

-- the lengths that the meaning asks for
abbrev pub lengths_fit : Meaning → List ArgumentText → Bool
lengths_fit sum_equal args = is_sum_text args
lengths_fit sum_different args = is_sum_text args
lengths_fit sum_at_most args = is_sum_text args
lengths_fit minimum args = nat_lt 0 (items_of (slice_get args 1))
lengths_fit maximum args = nat_lt 0 (items_of (slice_get args 1))
lengths_fit table args =
    nat_lt 0 (items_of (slice_get args 0)) && (items_of (slice_get args 1) % items_of (slice_get args 0) == 0)
lengths_fit (reified m) args = lengths_fit m args
lengths_fit _ args = true

abbrev pub call_fits : List ℕ → List Declared → Option Pred → List ArgumentText → Bool
call_fits text ds None args = false
call_fits text ds (Some p) args = arguments_fit text ds (arg_kinds_of p) args && lengths_fit (meaning_of p) args

-- the place of a target that is a Boolean variable
abbrev pub wrong_target : List ℕ → List Declared → Word → Option ℕ
wrong_target text ds w = cond (is_boolean_meant (look_up ds (word_bytes text w))) (Some w.start) None

abbrev pub wrong_condition : List ℕ → List Declared → Option ConditionText → Option ℕ
wrong_condition text ds None = None
wrong_condition text ds (Some c) = wrong_target text ds c.target

-- a constraint whose arguments don't fit has its name's place, and a condition or a fold that names a Boolean variable that name's
abbrev pub misfit : List ℕ → List Declared → Item → Option ℕ
misfit text ds (ExistsItem at condition) = wrong_condition text ds condition
misfit text ds (ForallItem at) = None
misfit text ds GoalItem = None
misfit text ds (Variable at domain name) = None
misfit text ds (AggregateItem at name fold target) = wrong_target text ds target
misfit text ds (Constraint at name args) =
    cond (call_fits text ds (predicate_of (word_bytes text name)) args) None (Some name.start)

abbrev pub first_misfit : List ℕ → List Declared → List Item → Option ℕ
first_misfit text ds items = first_place (misfit text ds) items
