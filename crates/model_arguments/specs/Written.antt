-- The arguments of a constraint as they are written.
use Rattle.std.specs.Prelude.{ℕ, Option, Some, None, List, [], map, slice_get, ℤ, pos}
use Rattle.qc_model.specs.declared.problem.Arg.{Arg}
use Rattle.qc_model.specs.declared.problem.Arg.TheVariants.{Num}
use Rattle.qc_model.specs.declared.problem.Argument.{Argument}
use Rattle.qc_model.specs.declared.problem.Argument.TheVariants.{Many, Members}
use Rattle.qc_model.specs.declared.problem.Set.{Set}
use Rattle.qc_model.specs.declared.problem.VarId.{VarId}
use Rattle.qc_model.specs.Arguments.{Filled, fill, one, numbers, as_one, last_of}

abbrev pub written : List Argument → List (Filled Arg)
written args = map (fill (λ a. a)) args

-- one argument, an array and an array of numbers, at a place
abbrev pub arg_at : List Argument → ℕ → Arg
arg_at args k = one (Num (pos 0)) (written args) k

abbrev pub items_of : Option Argument → List Arg
items_of (Some (Many xs)) = xs
items_of _ = []

abbrev pub args_at : List Argument → ℕ → List Arg
args_at args k = items_of (slice_get args k)

abbrev pub ints_at : List Argument → ℕ → List ℤ
ints_at args k = numbers (written args) k

abbrev pub last_arg : List Argument → Arg
last_arg args = as_one (Num (pos 0)) (last_of (written args))

-- the set at a place, where one stands
abbrev pub set_of : Option Argument → Option Set
set_of (Some (Members s)) = Some s
set_of _ = None

abbrev pub set_at : List Argument → ℕ → Option Set
set_at args k = set_of (slice_get args k)

-- the numbers of variables
abbrev pub variable_numbers : List VarId → List ℕ
variable_numbers xs = map (λ x. x.0) xs
