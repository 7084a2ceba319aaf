-- Items that are the same variable.
use Rattle.std.specs.Prelude.{ℕ, ◌==◌, nat_lt, Bool, true, false, ◌||◌, List, [], ◌∷◌, get_or}
use Rattle.std.specs.List.{list_any}
use Rattle.qc_model.specs.declared.problem.Arg.{Arg}
use Rattle.qc_model.specs.declared.problem.Arg.TheVariants.{Var, Num}

-- the argument is the variable of this number
abbrev pub is_variable : Arg → ℕ → Bool
is_variable (Var x) k = x.0 == k
is_variable (Num n) k = false

-- both are the same variable
abbrev pub same_variable : Arg → Arg → Bool
same_variable (Var x) b = is_variable b x.0
same_variable (Num n) b = false

-- a variable stands twice
abbrev pub has_repeat : List Arg → Bool
has_repeat [] = false
has_repeat (a ∷ xs) = list_any (same_variable a) xs || has_repeat xs

-- a variable has a place among n marks, and is marked
abbrev pub has_place : ℕ → Arg → Bool
has_place n (Var x) = nat_lt x.0 n
has_place n (Num m) = true

abbrev pub is_marked : List Bool → Arg → Bool
is_marked marks (Var x) = get_or marks x.0 false
is_marked marks (Num n) = false
