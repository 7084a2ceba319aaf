-- How a constraint reads the variables before a scope: what it sees of them, and which it reads one by one.
use Rattle.std.specs.Prelude.{ℕ, Bool, false, ◌||◌, Option, Some, None, List, [], ◌∷◌, map, drop, cond, slice_get, slice_index_or, ℤ, pos, ◌+ℤ◌, ◌-ℤ◌}
use Rattle.std.specs.List.{list_any}
use Rattle.std.specs.Ordering.{int_eq}
use Rattle.qc_model.specs.declared.problem.Arg.{Arg}
use Rattle.qc_model.specs.declared.problem.Arg.TheVariants.{Var, Num}
use Rattle.qc_model.specs.declared.problem.Argument.{Argument}
use Rattle.qc_model.specs.Content.{Rule}
use Rattle.qc_model.specs.Arguments.{fill, many, numbers, variables_of}
use Rattle.qc_model.specs.Holds.{Given, arg_value, sum_of_products, value_at, values_at}
use Rattle.qc_model.specs.Meaning.{Meaning, sum_equal, sum_different, sum_at_most, plus, clause, meaning_of}

pub data Reading : Type 0 where
  -- what the known terms of a sum come to
  as_sum : Reading
  -- what the known ones of a, b and c of a + b = c come to
  as_plus : Reading
  -- whether a known literal is true
  as_clause : Reading
  -- each value by itself
  by_value : Reading

abbrev pub reading_of : Meaning → Reading
reading_of sum_equal = as_sum
reading_of sum_different = as_sum
reading_of sum_at_most = as_sum
reading_of plus = as_plus
reading_of clause = as_clause
reading_of _ = by_value

abbrev pub reading : Rule → Reading
reading c = reading_of (meaning_of c.pred)

abbrev pub variables_by_value : Reading → List Argument → List ℕ
variables_by_value as_sum args = variables_of (drop 2 args)
variables_by_value as_plus args = []
variables_by_value as_clause args = []
variables_by_value by_value args = variables_of args

-- the variables that the constraint reads by value: none of a clause and of a + b = c, and of a sum only what it is compared with
abbrev pub read_alone : Rule → List ℕ
read_alone c = variables_by_value (reading c) c.args

abbrev pub left_sum : Given → ℤ
left_sum given = sum_of_products (numbers given 0) (values_at given 1)

-- what the terms come to whose variables have values, the others counted as 0
abbrev pub known_sum : List ℤ → Rule → ℤ
known_sum vs c = left_sum (map (fill (arg_value vs)) c.args)

-- a and b less c
abbrev pub left_over : Given → ℤ
left_over given = (value_at given 0 +ℤ value_at given 1) -ℤ value_at given 2

-- what a and b less c come to, with 0 for each variable without a value
abbrev pub known_plus : List ℤ → Rule → ℤ
known_plus vs c = left_over (map (fill (arg_value vs)) c.args)

-- the value of an argument that is known, but of a variable only where the test holds
abbrev pub known_value : (ℕ → Bool) → List ℤ → Arg → Option ℤ
known_value p vs (Var x) = cond (p x.0) (slice_get vs x.0) None
known_value p vs (Num n) = Some n

abbrev pub is_known_as : ℤ → Option ℤ → Bool
is_known_as n None = false
is_known_as n (Some m) = int_eq m n

-- a literal of the clause is true by a number, or by a variable for which the test holds
abbrev pub is_satisfied : (ℕ → Bool) → List ℤ → Rule → Bool
is_satisfied p vs c =
    list_any (is_known_as (pos 1)) (many (map (fill (known_value p vs)) c.args) 0)
    || list_any (is_known_as (pos 0)) (many (map (fill (known_value p vs)) c.args) 1)

abbrev pub own_values : List ℤ → Rule → List ℤ
own_values vs c = map (λ x. slice_index_or vs x (pos 0)) (variables_of c.args)

abbrev pub seen_as : Reading → (ℕ → Bool) → List ℤ → Rule → List ℤ
seen_as as_sum p vs c = known_sum vs c ∷ []
seen_as as_plus p vs c = known_plus vs c ∷ []
seen_as as_clause p vs c = cond (is_satisfied p vs c) [] (own_values vs c)
seen_as by_value p vs c = []

-- what the constraint sees of these values of the first variables, besides those that it reads by value: what a sum comes
-- to, or the known ones of a + b = c; of a clause nothing where it is satisfied by a variable for which the test holds, else the values
abbrev pub seen_of : (ℕ → Bool) → List ℤ → Rule → List ℤ
seen_of p vs c = seen_as (reading c) p vs c
