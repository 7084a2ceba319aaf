-- Small drafts that are valid, and such as break one rule, computed.
use Rattle.std.proofs.Common.{◌≡◌, refl, ℕ, true, false, List, [], ◌∷◌, lit≤, arith}
use Rattle.std.specs.Prelude.{Some, codes, pos, negsuc}
use Rattle.qc_model.specs.declared.problem.Sense.TheVariants.{Min}
use Rattle.qc_model.specs.declared.problem.Kind.TheVariants.{Exists}
use Rattle.qc_model.specs.declared.problem.Fold.TheVariants.{Sum, Greatest}
use Rattle.qc_model.specs.declared.problem.Target.{Target}
use Rattle.qc_model.specs.declared.problem.Target.TheVariants.{Var as VarTarget, Aggregate as Agg}
use Rattle.qc_model.specs.declared.problem.Domain.TheVariants.{Bits, Range, Listed}
use Rattle.qc_model.specs.declared.problem.Set.TheVariants.{Range as SetRange, Listed as SetListed}
use Rattle.qc_model.specs.declared.problem.Arg.TheVariants.{Num}
use Rattle.qc_model.specs.declared.problem.Argument.TheVariants.{One, Many, Numbers}
use Rattle.qc_model.specs.declared.problem.Pred.TheVariants.{IntLe, IntLinLe, IntLinLeReif, ArrayIntMinimum, TableInt, BoolEq, Bool2int, AllDifferentInt, ArrayBoolElement}
use Rattle.qc_model.specs.declared.problem.Scope.{Scope}
use Rattle.qc_model.specs.declared.problem.Condition.{Condition}
use Rattle.qc_model.specs.declared.problem.Variable.{Variable}
use Rattle.qc_model.specs.declared.problem.Aggregate.{Aggregate}
use Rattle.qc_model.specs.Content.{Game}
use Rattle.qc_model.specs.Names.{is_name, names_differ}
use Rattle.qc_model.specs.Sees.{SeesRight}
use Rattle.qc_model.specs.Game.{aggregate_numbers}
use Rattle.qc_model.specs.Demands.{demands_through}
use Rattle.qc_model.specs.Bottlenecks.{bottleneck_last}
use Rattle.qc_model.specs.Valid.{IsValid, is_number, is_domain, is_set, is_constraint, is_in_order, is_scope, is_aggregate_of}
use Rattle.qc_model.proofs.TextExamples.{var, one_var, exists, forall, variable, rule, game, only_goal, many_forms}

only_goal_is_valid : IsValid only_goal
only_goal_is_valid =
    record {
      few_scopes = lit≤ tt;
      few_variables = lit≤ tt;
      few_aggregates = lit≤ tt;
      few_constraints = lit≤ tt;
      variable_order = refl;
      constraint_order = refl;
      aggregate_order = refl;
      names = refl;
      distinct_names = refl;
      domains = refl;
      widths = lit≤ tt;
      scopes = refl;
      aggregates = refl;
      constraints = refl;
      sees = tt;
      bottlenecks = refl;
    }

many_forms_is_valid : IsValid many_forms
many_forms_is_valid =
    record {
      few_scopes = lit≤ tt;
      few_variables = lit≤ tt;
      few_aggregates = lit≤ tt;
      few_constraints = lit≤ tt;
      variable_order = refl;
      constraint_order = refl;
      aggregate_order = refl;
      names = refl;
      distinct_names = refl;
      domains = refl;
      widths = lit≤ tt;
      scopes = refl;
      aggregates = refl;
      constraints = refl;
      sees = (refl, ((lit≤ tt, tt), tt));
      bottlenecks = refl;
    }

-- numbers
least_number : is_number (negsuc 999999999) ≡ true
least_number = refl

below_least_number : is_number (negsuc 1000000000) ≡ false
below_least_number = refl

-- domains: the greatest value is at most 1,048,575 above the least, and there is a value
widest_domain : is_domain (Range (pos 0) (pos 1048575)) ≡ true
widest_domain = refl

too_wide_domain : is_domain (Range (pos 0) (pos 1048576)) ≡ false
too_wide_domain = refl

widest_listed_domain : is_domain (Listed (negsuc 4 ∷ pos 1048570 ∷ [])) ≡ true
widest_listed_domain = refl

too_wide_listed_domain : is_domain (Listed (negsuc 4 ∷ pos 1048571 ∷ [])) ≡ false
too_wide_listed_domain = refl

empty_domain : is_domain (Range (pos 3) (pos 2)) ≡ false
empty_domain = refl

empty_listed_domain : is_domain (Listed []) ≡ false
empty_listed_domain = refl

-- a list without a gap is written as a range
listed_without_gap : is_domain (Listed (pos 1 ∷ pos 2 ∷ pos 3 ∷ [])) ≡ false
listed_without_gap = refl

listed_with_repeat : is_domain (Listed (pos 1 ∷ pos 3 ∷ pos 3 ∷ [])) ≡ false
listed_with_repeat = refl

listed_single : is_domain (Listed (pos 1 ∷ [])) ≡ false
listed_single = refl

-- sets may be empty and as wide as numbers go
empty_set : is_set (SetListed []) ≡ true
empty_set = refl

empty_range_set : is_set (SetRange (pos 3) (pos 1)) ≡ false
empty_range_set = refl

widest_set : is_set (SetRange (negsuc 999999999) (pos 1000000000)) ≡ true
widest_set = refl

-- order: constraints of the goal come last and have the number of scopes
in_order : is_in_order 3 (0 ∷ 0 ∷ 1 ∷ 2 ∷ []) ≡ true
in_order = refl

of_no_scope : is_in_order 2 (0 ∷ 2 ∷ []) ≡ false
of_no_scope = refl

out_of_order : is_in_order 2 (1 ∷ 0 ∷ []) ≡ false
out_of_order = refl

-- names
reserved : is_name (codes "sum") ≡ false
reserved = refl

predicate_as_name : is_name (codes "int_le") ≡ true
predicate_as_name = refl

digit_first : is_name (codes "1x") ≡ false
digit_first = refl

no_letters : is_name [] ≡ false
no_letters = refl

same_name : names_differ (codes "x" ∷ codes "y" ∷ codes "x" ∷ []) ≡ false
same_name = refl

-- arguments, over an integer variable x of scope 0, a Boolean b of scope 0 and an integer z of scope 1
abbrev three : List Variable
three = variable (codes "x") 0 (Range (pos 0) (pos 1)) ∷ variable (codes "b") 0 Bits ∷ variable (codes "z") 1 (Range (pos 0) (pos 9)) ∷ []

seen : is_constraint three (rule 0 IntLe (one_var 0 ∷ One (Num (pos 5)) ∷ [])) ≡ true
seen = refl

later_variable : is_constraint three (rule 0 IntLe (one_var 0 ∷ one_var 2 ∷ [])) ≡ false
later_variable = refl

no_variable : is_constraint three (rule 2 IntLe (one_var 0 ∷ one_var 3 ∷ [])) ≡ false
no_variable = refl

boolean_for_integer : is_constraint three (rule 0 IntLe (one_var 0 ∷ one_var 1 ∷ [])) ≡ false
boolean_for_integer = refl

-- a variable of 0..1 is no Boolean
integer_for_boolean : is_constraint three (rule 0 BoolEq (one_var 0 ∷ one_var 1 ∷ [])) ≡ false
integer_for_boolean = refl

two_for_boolean : is_constraint three (rule 0 BoolEq (one_var 1 ∷ One (Num (pos 2)) ∷ [])) ≡ false
two_for_boolean = refl

boolean_to_integer : is_constraint three (rule 0 Bool2int (one_var 1 ∷ one_var 0 ∷ [])) ≡ true
boolean_to_integer = refl

too_few_arguments : is_constraint three (rule 0 IntLe (one_var 0 ∷ [])) ≡ false
too_few_arguments = refl

too_many_arguments : is_constraint three (rule 0 IntLe (one_var 0 ∷ one_var 0 ∷ one_var 0 ∷ [])) ≡ false
too_many_arguments = refl

sum : is_constraint three (rule 1 IntLinLe (Numbers (pos 2 ∷ negsuc 0 ∷ []) ∷ Many (var 0 ∷ var 2 ∷ []) ∷ One (Num (pos 5)) ∷ [])) ≡ true
sum = refl

unequal_lengths : is_constraint three (rule 1 IntLinLe (Numbers (pos 2 ∷ []) ∷ Many (var 0 ∷ var 2 ∷ []) ∷ One (Num (pos 5)) ∷ [])) ≡ false
unequal_lengths = refl

sum_at_most_variable : is_constraint three (rule 1 IntLinLe (Numbers (pos 2 ∷ []) ∷ Many (var 0 ∷ []) ∷ one_var 2 ∷ [])) ≡ false
sum_at_most_variable = refl

reified_sum_at_most_variable : is_constraint three (rule 1 IntLinLeReif (Numbers (pos 2 ∷ []) ∷ Many (var 0 ∷ []) ∷ one_var 2 ∷ one_var 1 ∷ [])) ≡ false
reified_sum_at_most_variable = refl

least_of_none : is_constraint three (rule 0 ArrayIntMinimum (one_var 0 ∷ Many [] ∷ [])) ≡ false
least_of_none = refl

different_none : is_constraint three (rule 0 AllDifferentInt (Many [] ∷ [])) ≡ true
different_none = refl

element_of_none : is_constraint three (rule 0 ArrayBoolElement (one_var 0 ∷ Numbers [] ∷ one_var 1 ∷ [])) ≡ true
element_of_none = refl

table_without_rows : is_constraint three (rule 0 TableInt (Many (var 0 ∷ []) ∷ Numbers [] ∷ [])) ≡ true
table_without_rows = refl

table_without_items : is_constraint three (rule 0 TableInt (Many [] ∷ Numbers [] ∷ [])) ≡ false
table_without_items = refl

half_a_row : is_constraint three (rule 1 TableInt (Many (var 0 ∷ var 2 ∷ []) ∷ Numbers (pos 1 ∷ pos 2 ∷ pos 3 ∷ []) ∷ [])) ≡ false
half_a_row = refl

-- a condition names an integer variable, and stands in an existential scope
boolean_condition : is_scope three (record { kind = Exists; condition = Some (record { sense = Min; target = VarTarget (record { 0 = 1 }) }) }) ≡ false
boolean_condition = refl

universal_condition : is_scope three (record forall { condition = Some (record { sense = Min; target = VarTarget (record { 0 = 0 }) }) }) ≡ false
universal_condition = refl

-- g is of the second universal scope, and the condition before the first doesn't see it
abbrev sum_of : ℕ → ℕ → Aggregate
sum_of i x = record { name = codes "g"; scope = record { 0 = i }; fold = Sum; target = VarTarget (record { 0 = x }) }

abbrev condition_on : Target → Scope
condition_on t = record { kind = Exists; condition = Some (record { sense = Min; target = t }) }

abbrev far_aggregate : Game
far_aggregate = game (condition_on (Agg (record { 0 = 0 })) ∷ forall ∷ forall ∷ []) (variable (codes "t") 2 (Range (pos 0) (pos 3)) ∷ []) (sum_of 2 0 ∷ []) []

far_aggregate_is_not_seen : SeesRight far_aggregate far_aggregate.scopes 0 → ⊥
far_aggregate_is_not_seen h = cc

-- the aggregate of the next universal scope is seen
abbrev near_aggregate : Game
near_aggregate = game (condition_on (Agg (record { 0 = 0 })) ∷ forall ∷ []) (variable (codes "t") 1 (Range (pos 0) (pos 3)) ∷ []) (sum_of 1 0 ∷ []) []

near_aggregate_is_seen : SeesRight near_aggregate near_aggregate.scopes 0
near_aggregate_is_seen = (refl, ((lit≤ tt, tt), tt))

-- a variable of the next universal scope isn't seen before it, and one of the block is
abbrev variable_beyond : Game
variable_beyond = game (condition_on (VarTarget (record { 0 = 0 })) ∷ forall ∷ []) (variable (codes "t") 1 (Range (pos 0) (pos 3)) ∷ []) [] []

variable_beyond_is_not_seen : SeesRight variable_beyond variable_beyond.scopes 0 → ⊥
variable_beyond_is_not_seen h = omega (arith, h.0)

abbrev variable_of_block : Game
variable_of_block = game (condition_on (VarTarget (record { 0 = 0 })) ∷ exists ∷ forall ∷ []) (variable (codes "t") 1 (Range (pos 0) (pos 3)) ∷ []) [] []

variable_of_block_is_seen : SeesRight variable_of_block variable_of_block.scopes 0
variable_of_block_is_seen = (lit≤ tt, (tt, (tt, tt)))

-- an aggregate sees its own scope's variables, and not itself
abbrev fold_of_itself : Game
fold_of_itself = game (forall ∷ []) [] (record { name = codes "g"; scope = record { 0 = 0 }; fold = Sum; target = Agg (record { 0 = 0 }) } ∷ []) []

fold_of_itself_is_not_seen : SeesRight fold_of_itself fold_of_itself.scopes 0 → ⊥
fold_of_itself_is_not_seen h = h.0.0

-- an aggregate stands in a universal scope
existential_aggregate : is_aggregate_of (game (exists ∷ []) three [] []) (sum_of 0 0) ≡ false
existential_aggregate = refl

universal_aggregate : is_aggregate_of (game (forall ∷ []) three [] []) (sum_of 0 0) ≡ true
universal_aggregate = refl

-- the entry that the aggregate be small
abbrev minimum : ℕ → Condition
minimum q = record { sense = Min; target = Agg (record { 0 = q }) }

-- exists minimize CONDITION; exists minimize CONDITION; forall; var 1..2: t; aggregate s = sum(z);
-- aggregate m = greatest(w) else 0; exists; var 0..3: z; var 0..3: w; constraint int_lin_le([1,-1,-1],[t,z,w],0); goal; solve;
abbrev two_aggregates : ℕ → ℕ → Game
two_aggregates first second = record {
  scopes = condition_on (Agg (record { 0 = first })) ∷ condition_on (Agg (record { 0 = second })) ∷ forall ∷ exists ∷ [];
  variables = variable (codes "t") 2 (Range (pos 1) (pos 2)) ∷ variable (codes "z") 3 (Range (pos 0) (pos 3)) ∷ variable (codes "w") 3 (Range (pos 0) (pos 3)) ∷ [];
  aggregates =
      record { name = codes "s"; scope = record { 0 = 2 }; fold = Sum; target = VarTarget (record { 0 = 1 }) }
      ∷ record { name = codes "m"; scope = record { 0 = 2 }; fold = Greatest (pos 0); target = VarTarget (record { 0 = 2 }) } ∷ [];
  constraints = rule 3 IntLinLe (Numbers (pos 1 ∷ negsuc 0 ∷ negsuc 0 ∷ []) ∷ Many (var 0 ∷ var 1 ∷ var 2 ∷ []) ∷ One (Num (pos 0)) ∷ []) ∷ [];
}

-- the sum is asked for first, by the nearer condition, and the greatest last
sum_first_is_valid : IsValid (two_aggregates 1 0)
sum_first_is_valid =
    record {
      few_scopes = lit≤ tt;
      few_variables = lit≤ tt;
      few_aggregates = lit≤ tt;
      few_constraints = lit≤ tt;
      variable_order = refl;
      constraint_order = refl;
      aggregate_order = refl;
      names = refl;
      distinct_names = refl;
      domains = refl;
      widths = lit≤ tt;
      scopes = refl;
      aggregates = refl;
      constraints = refl;
      sees = (refl, (refl, ((lit≤ tt, (lit≤ tt, tt)), (tt, tt))));
      bottlenecks = refl;
    }

-- the other way round the greatest stands first, and the sum after it
bottleneck_first_is_not_valid : IsValid (two_aggregates 0 1) → ⊥
bottleneck_first_is_not_valid v = let e : false ≡ true = v.bottlenecks in cc

-- one aggregate of a bottleneck twice is no harm, and neither is a variable after it
twice_the_same : bottleneck_last (two_aggregates 1 1) (minimum 1 ∷ minimum 1 ∷ []) ≡ true
twice_the_same = refl

least_after_sum : bottleneck_last (two_aggregates 1 0) (minimum 0 ∷ minimum 1 ∷ minimum 0 ∷ []) ≡ false
least_after_sum = refl

-- the list after the universal scope asks each aggregate's target once, as it is first named
list_after : demands_through (two_aggregates 1 0) (minimum 0 ∷ minimum 1 ∷ minimum 0 ∷ []) ≡ record { sense = Min; target = VarTarget (record { 0 = 1 }) } ∷ record { sense = Min; target = VarTarget (record { 0 = 2 }) } ∷ []
list_after = refl

-- the numbers of the aggregates of the first three scopes
numbers_of_scopes : aggregate_numbers (two_aggregates 1 0) 1 ≡ (0, 0)
numbers_of_scopes = refl

numbers_of_universal_scope : aggregate_numbers (two_aggregates 1 0) 2 ≡ (0, 2)
numbers_of_universal_scope = refl
