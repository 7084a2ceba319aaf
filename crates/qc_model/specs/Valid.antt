-- Which drafts are problems.
use Rattle.std.specs.Prelude.{◌≤◌, ◌==◌, ◌+◌, ◌%◌, ℕ, nat_lt, nat_le, Bool, true, false, not, ◌&&◌, ◌||◌, List, [], ◌∷◌, ◌++◌, map, length, slice_get, Option, Some, None, is_none, unsigned_abs, ℤ, ◌-ℤ◌, nat_abs, pos, int_le, IsTrue}
use Rattle.std.specs.List.{list_all, sum_by}
use Rattle.std.specs.Ordering.{int_eq}
use Rattle.qc_model.specs.declared.problem.Fold.{Fold}
use Rattle.qc_model.specs.declared.problem.Fold.TheVariants.{Sum, Least, Greatest}
use Rattle.qc_model.specs.declared.problem.Target.{Target}
use Rattle.qc_model.specs.declared.problem.Target.TheVariants.{Var as VarTarget, Aggregate as Agg}
use Rattle.qc_model.specs.declared.problem.Domain.{Domain}
use Rattle.qc_model.specs.declared.problem.Domain.TheVariants.{Bits, Range, Listed}
use Rattle.qc_model.specs.declared.problem.Set.{Set}
use Rattle.qc_model.specs.declared.problem.Set.TheVariants.{Range as SetRange, Listed as SetListed}
use Rattle.qc_model.specs.declared.problem.Arg.{Arg}
use Rattle.qc_model.specs.declared.problem.Arg.TheVariants.{Var, Num}
use Rattle.qc_model.specs.declared.problem.Argument.{Argument}
use Rattle.qc_model.specs.declared.problem.Argument.TheVariants.{One, Many, Numbers, Members}
use Rattle.qc_model.specs.declared.problem.Condition.{Condition}
use Rattle.qc_model.specs.declared.problem.Scope.{Scope}
use Rattle.qc_model.specs.declared.problem.Variable.{Variable}
use Rattle.qc_model.specs.declared.problem.Aggregate.{Aggregate}
use Rattle.qc_model.specs.Content.{Game, Rule}
use Rattle.qc_model.specs.Domains.{is_none_left, least_value, greatest_value, is_ascending}
use Rattle.qc_model.specs.Block.{of_kind}
use Rattle.qc_model.specs.Meaning.{Meaning, sum_equal, sum_different, sum_at_most, minimum, maximum, table, reified, meaning_of}
use Rattle.qc_model.specs.Signature.{ArgKind, integer, boolean, integers, booleans, numbers, truths, members, arg_kinds_of, most_items, most_in_braces}
use Rattle.qc_model.specs.Names.{is_name, names_differ}
use Rattle.qc_model.specs.Sees.{SeesRight}
use Rattle.qc_model.specs.Bottlenecks.{bottlenecks_last}

-- from -1,000,000,000 to 1,000,000,000
abbrev pub is_number : ℤ → Bool
is_number z = nat_le (unsigned_abs z) 1000000000

abbrev pub is_truth : ℤ → Bool
is_truth z = int_eq z (pos 0) || int_eq z (pos 1)

-- greatest minus least, plus one; of no values 1
abbrev pub width_of : List ℤ → ℕ
width_of ns = nat_abs (greatest_value ns -ℤ least_value ns) + 1

abbrev pub domain_width : Domain → ℕ
domain_width Bits = 2
domain_width (Range low high) = nat_abs (high -ℤ low) + 1
domain_width (Listed ns) = width_of ns

-- numbers in ascending order, without repeats, as many as braces may have
abbrev pub is_listed : List ℤ → Bool
is_listed ns = nat_le (length ns) most_in_braces && list_all is_number ns && is_ascending ns

-- some number between the least and the greatest is missing
abbrev pub has_gap : List ℤ → Bool
has_gap ns = nat_lt (length ns) (width_of ns)

abbrev pub is_range : ℤ → ℤ → Bool
is_range low high = is_number low && is_number high && int_le low high

-- a domain has a value, and its greatest value is at most 1,048,575 above its least
abbrev pub is_domain : Domain → Bool
is_domain Bits = true
is_domain (Range low high) = is_range low high && nat_le (domain_width (Range low high)) 1048576
is_domain (Listed ns) = not (is_none_left ns) && is_listed ns && has_gap ns && nat_le (width_of ns) 1048576

-- a set without gaps that isn't empty is a range
abbrev pub is_set : Set → Bool
is_set (SetRange low high) = is_range low high
is_set (SetListed ns) = is_listed ns && (is_none_left ns || has_gap ns)

-- a variable of the list has a domain that passes
abbrev pub is_variable_with : (Domain → Bool) → Option Variable → Bool
is_variable_with p None = false
is_variable_with p (Some x) = p x.domain

abbrev pub is_bits : Domain → Bool
is_bits Bits = true
is_bits (Range low high) = false
is_bits (Listed ns) = false

abbrev pub is_integer_domain : Domain → Bool
is_integer_domain d = not (is_bits d)

abbrev pub is_integer : List Variable → Arg → Bool
is_integer xs (Var x) = is_variable_with is_integer_domain (slice_get xs x.0)
is_integer xs (Num n) = is_number n

abbrev pub is_boolean : List Variable → Arg → Bool
is_boolean xs (Var x) = is_variable_with is_bits (slice_get xs x.0)
is_boolean xs (Num n) = is_truth n

-- an argument of this kind; an array has as many items as it may have there
abbrev pub is_of_sort : List Variable → ArgKind → Argument → Bool
is_of_sort xs integer (One a) = is_integer xs a
is_of_sort xs boolean (One a) = is_boolean xs a
is_of_sort xs integers (Many items) = nat_le (length items) (most_items integers) && list_all (is_integer xs) items
is_of_sort xs booleans (Many items) = nat_le (length items) (most_items booleans) && list_all (is_boolean xs) items
is_of_sort xs numbers (Numbers ns) = nat_le (length ns) (most_items numbers) && list_all is_number ns
is_of_sort xs truths (Numbers ns) = nat_le (length ns) (most_items truths) && list_all is_truth ns
is_of_sort xs members (Members s) = is_set s
is_of_sort xs _ _ = false

-- as many arguments as sorts, each of its own
abbrev pub are_of_sorts : List Variable → List ArgKind → List Argument → Bool
are_of_sorts xs [] [] = true
are_of_sorts xs [] (a ∷ args) = false
are_of_sorts xs (s ∷ sorts) [] = false
are_of_sorts xs (s ∷ sorts) (a ∷ args) = is_of_sort xs s a && are_of_sorts xs sorts args

-- how many items an argument has, at a place
abbrev pub item_count : Option Argument → ℕ
item_count None = 0
item_count (Some (One a)) = 1
item_count (Some (Many items)) = length items
item_count (Some (Numbers ns)) = length ns
item_count (Some (Members s)) = 0

abbrev pub is_literal : Option Argument → Bool
is_literal (Some (One (Num n))) = true
is_literal _ = false

abbrev pub is_sum : List Argument → Bool
is_sum args = item_count (slice_get args 0) == item_count (slice_get args 1) && is_literal (slice_get args 2)

-- the lengths that the meaning asks for
abbrev pub have_lengths : Meaning → List Argument → Bool
have_lengths sum_equal args = is_sum args
have_lengths sum_different args = is_sum args
have_lengths sum_at_most args = is_sum args
have_lengths minimum args = nat_lt 0 (item_count (slice_get args 1))
have_lengths maximum args = nat_lt 0 (item_count (slice_get args 1))
have_lengths table args =
    nat_lt 0 (item_count (slice_get args 0)) && (item_count (slice_get args 1) % item_count (slice_get args 0) == 0)
have_lengths (reified m) args = have_lengths m args
have_lengths _ args = true

-- a variable of scope i or earlier
abbrev pub is_declared_by : ℕ → Option Variable → Bool
is_declared_by i None = false
is_declared_by i (Some x) = nat_le x.scope.0 i

abbrev pub arg_sees : List Variable → ℕ → Arg → Bool
arg_sees xs i (Var x) = is_declared_by i (slice_get xs x.0)
arg_sees xs i (Num n) = true

abbrev pub argument_sees : List Variable → ℕ → Argument → Bool
argument_sees xs i (One a) = arg_sees xs i a
argument_sees xs i (Many items) = list_all (arg_sees xs i) items
argument_sees xs i (Numbers ns) = true
argument_sees xs i (Members s) = true

-- the arguments are those of the predicate, and no variable of a later scope than the constraint's own
abbrev pub is_constraint : List Variable → Rule → Bool
is_constraint xs c =
    are_of_sorts xs (arg_kinds_of c.pred) c.args && have_lengths (meaning_of c.pred) c.args
    && list_all (argument_sees xs c.owner.0) c.args

-- each number is at least the one before it, and below n
abbrev pub is_in_order : ℕ → List ℕ → Bool
is_in_order n [] = true
is_in_order n (i ∷ []) = nat_lt i n
is_in_order n (i ∷ j ∷ is) = nat_le i j && is_in_order n (j ∷ is)

-- a condition or a fold names an integer variable, or an aggregate
abbrev pub is_target : List Variable → Target → Bool
is_target xs (VarTarget x) = is_variable_with is_integer_domain (slice_get xs x.0)
is_target xs (Agg q) = true

abbrev pub is_condition : List Variable → Option Condition → Bool
is_condition xs None = true
is_condition xs (Some c) = is_target xs c.target

-- a condition stands in an existential scope
abbrev pub is_scope : List Variable → Scope → Bool
is_scope xs s = of_kind s.kind (is_condition xs s.condition) (is_none s.condition)

abbrev pub is_universal : Option Scope → Bool
is_universal None = false
is_universal (Some s) = of_kind s.kind false true

abbrev pub is_fold : Fold → Bool
is_fold Sum = true
is_fold (Least n) = is_number n
is_fold (Greatest n) = is_number n

-- an aggregate stands in a universal scope
abbrev pub is_aggregate_of : Game → Aggregate → Bool
is_aggregate_of g q = is_universal (slice_get g.scopes q.scope.0) && is_fold q.fold && is_target g.variables q.target

abbrev pub declared_names : Game → List (List ℕ)
declared_names g = map (λ x. x.name) g.variables ++ map (λ q. q.name) g.aggregates

pub record IsValid (g : Game) : Type 0 where
  pub few_scopes : length g.scopes ≤ 64
  pub few_variables : length g.variables ≤ 500
  pub few_aggregates : length g.aggregates ≤ 255
  pub few_constraints : length g.constraints ≤ 20000
  -- variables, aggregates and constraints stand in the order of their scopes; the goal counts as the last
  pub variable_order : IsTrue (is_in_order (length g.scopes) (map (λ x. x.scope.0) g.variables))
  pub constraint_order : IsTrue (is_in_order (length g.scopes + 1) (map (λ c. c.owner.0) g.constraints))
  pub aggregate_order : IsTrue (is_in_order (length g.scopes) (map (λ q. q.scope.0) g.aggregates))
  pub names : IsTrue (list_all is_name (declared_names g))
  pub distinct_names : IsTrue (names_differ (declared_names g))
  pub domains : IsTrue (list_all (λ x. is_domain x.domain) g.variables)
  pub widths : sum_by (λ x. domain_width x.domain) g.variables ≤ 4194304
  pub scopes : IsTrue (list_all (is_scope g.variables) g.scopes)
  pub aggregates : IsTrue (list_all (is_aggregate_of g) g.aggregates)
  pub constraints : IsTrue (list_all (is_constraint g.variables) g.constraints)
  -- conditions and folds see their targets
  pub sees : SeesRight g g.scopes 0
  pub bottlenecks : IsTrue (bottlenecks_last g g.scopes [])
