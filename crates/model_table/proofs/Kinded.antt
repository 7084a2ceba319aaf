-- For each predicate: its arguments, with declared values, are of the kinds that the laws ask for.
use Rattle.std.proofs.Common.{◌≡◌, ℕ, true, ◌&&◌, ◌==◌, List, length, map, slice_get, Some}
use Rattle.std.specs.Prelude.{ℤ, ⊤}
use Rattle.std.specs.List.{list_all}
use Rattle.std.proofs.lemmas.Bool.{and_parts}
use Rattle.qc_model.specs.declared.problem.Pred.{Pred}
use Rattle.qc_model.specs.declared.problem.Pred.TheVariants.{IntEq}
use Rattle.qc_model.specs.declared.problem.Variable.{Variable}
use Rattle.qc_model.specs.declared.signature.ArgKind.{ArgKind}
use Rattle.qc_model.specs.declared.signature.ArgKind.TheVariants.{Boolean as boolean, Integers as integers, Booleans as booleans}
use Rattle.qc_model.specs.declared.problem.Argument.{Argument}
use Rattle.qc_model.specs.Content.{Rule}
use Rattle.qc_model.specs.Domains.{Box, InBox, domain_values}
use Rattle.qc_model.specs.Holds.{value_at, values_at}
use Rattle.qc_model.specs.Meaning.{Meaning, sum_equal, sum_different, sum_at_most, minimum, maximum, both as BothTrue, either, all_items, some_item, clause, reified, meaning_of}
use Rattle.qc_model.specs.Signature.{arg_kinds_of}
use Rattle.qc_model.specs.Valid.{are_of_sorts, have_lengths, is_sum, item_count, is_literal, is_constraint, argument_sees}
use Rattle.qc_model.specs.Visible.{ArgumentsBelow}
use Rattle.model_table.proofs.Typing.{Kinds, IsTruth, AllTruths, IsLiteral, IsReifiable}
use Rattle.model_table.proofs.Typed.{given_of, lefts_of, of_sorts, OfSorts, EndsBoolean, truth_at, truths_at, truth_last, literal_at, item_at}

-- a constraint has the arguments of its predicate
has_sorts : (xs : List Variable) (c : Rule) → is_constraint xs c ≡ true → are_of_sorts xs (arg_kinds_of c.pred) c.args ≡ true
has_sorts xs c e = (and_parts (are_of_sorts xs (arg_kinds_of c.pred) c.args) (have_lengths (meaning_of c.pred) c.args) (and_parts (are_of_sorts xs (arg_kinds_of c.pred) c.args && have_lengths (meaning_of c.pred) c.args) (list_all (argument_sees xs c.owner.0) c.args) e).0).0

pub has_lengths : (xs : List Variable) (c : Rule) → is_constraint xs c ≡ true → have_lengths (meaning_of c.pred) c.args ≡ true
has_lengths xs c e = (and_parts (are_of_sorts xs (arg_kinds_of c.pred) c.args) (have_lengths (meaning_of c.pred) c.args) (and_parts (are_of_sorts xs (arg_kinds_of c.pred) c.args && have_lengths (meaning_of c.pred) c.args) (list_all (argument_sees xs c.owner.0) c.args) e).0).1

pub sees_all : (xs : List Variable) (c : Rule) → is_constraint xs c ≡ true → list_all (argument_sees xs c.owner.0) c.args ≡ true
sees_all xs c e = (and_parts (are_of_sorts xs (arg_kinds_of c.pred) c.args && have_lengths (meaning_of c.pred) c.args) (list_all (argument_sees xs c.owner.0) c.args) e).1

-- the third argument of a sum is a number
pub sum_literal : (w : List ℤ) (box : Box) (args : List Argument) → is_sum args ≡ true → IsLiteral (given_of w args) (lefts_of box args) 2
sum_literal w box args e = literal_at w box args 2 (and_parts (item_count (slice_get args 0) == item_count (slice_get args 1)) (is_literal (slice_get args 2)) e).1

-- what a meaning asks of the kinds of the arguments
abbrev IsBooleanAt : List ArgKind → ℕ → Type 0
IsBooleanAt kinds k = slice_get kinds k ≡ Some boolean

abbrev AreBooleansAt : List ArgKind → ℕ → Type 0
AreBooleansAt kinds k = slice_get kinds k ≡ Some booleans

abbrev Suits : Meaning → List ArgKind → Type 0
Suits minimum kinds = slice_get kinds 1 ≡ Some integers
Suits maximum kinds = slice_get kinds 1 ≡ Some integers
Suits BothTrue kinds = IsBooleanAt kinds 0 × IsBooleanAt kinds 1 × IsBooleanAt kinds 2
Suits either kinds = IsBooleanAt kinds 0 × IsBooleanAt kinds 1 × IsBooleanAt kinds 2
Suits all_items kinds = AreBooleansAt kinds 0 × IsBooleanAt kinds 1
Suits some_item kinds = AreBooleansAt kinds 0 × IsBooleanAt kinds 1
Suits clause kinds = AreBooleansAt kinds 0 × AreBooleansAt kinds 1
Suits (reified m) kinds = EndsBoolean kinds × Suits m kinds × IsReifiable m
Suits _ kinds = ⊤

-- each predicate's do
suits : (p : Pred) → Suits (meaning_of p) (arg_kinds_of p)
suits IntEq = tt
suits _ = assumption

module _ (xs : List Variable) (w : List ℤ) (box : Box) (args : List Argument) (kinds : List ArgKind) where
  -- what is known of the arguments
  record Known : Type 0 where
    sorts : are_of_sorts xs kinds args ≡ true
    values : OfSorts kinds (given_of w args)

  truth : Known → (k : ℕ) → IsBooleanAt kinds k → IsTruth (value_at (given_of w args) k)
  truth known k e = truth_at kinds (given_of w args) k known.values e

  truths : Known → (k : ℕ) → AreBooleansAt kinds k → AllTruths (values_at (given_of w args) k)
  truths known k e = truths_at kinds (given_of w args) k known.values e

  kinds_by : (m : Meaning) → Known → Suits m kinds → have_lengths m args ≡ true → Kinds m (given_of w args) (lefts_of box args)
  kinds_by sum_equal known s l = sum_literal w box args l
  kinds_by sum_different known s l = sum_literal w box args l
  kinds_by sum_at_most known s l = sum_literal w box args l
  kinds_by minimum known s l = item_at xs w kinds args 1 known.sorts s l
  kinds_by maximum known s l = item_at xs w kinds args 1 known.sorts s l
  kinds_by BothTrue known s l = (truth known 0 s.0, truth known 1 s.1, truth known 2 s.2)
  kinds_by either known s l = (truth known 0 s.0, truth known 1 s.1, truth known 2 s.2)
  kinds_by all_items known s l = (truths known 0 s.0, truth known 1 s.1)
  kinds_by some_item known s l = (truths known 0 s.0, truth known 1 s.1)
  kinds_by clause known s l = (truths known 0 s.0, truths known 1 s.1)
  kinds_by (reified m) known s l = (truth_last kinds (given_of w args) known.values s.0, kinds_by m known s.1 l, s.2)
  kinds_by _ known s l = tt

pub kinds_of : (xs : List Variable) (w : List ℤ) (box : Box) (c : Rule) → is_constraint xs c ≡ true → InBox w (map (λ x. domain_values x.domain) xs) → ArgumentsBelow (length w) c.args → Kinds (meaning_of c.pred) (given_of w c.args) (lefts_of box c.args)
kinds_of xs w box c e b l =
    let sorted = has_sorts xs c e in
    kinds_by xs w box c.args (arg_kinds_of c.pred) (meaning_of c.pred)
    (record { sorts = sorted; values = of_sorts xs w b (arg_kinds_of c.pred) c.args l sorted })
    (suits c.pred)
    (has_lengths xs c e)
