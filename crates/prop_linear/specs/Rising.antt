-- Items that stand in the order of their variables.
use Rattle.std.specs.Prelude.{ℕ, Bool, true, ◌&&◌, nat_le, List, [], ◌∷◌, ◌+◌}
use Rattle.qc_model.specs.declared.problem.Arg.{Arg}
use Rattle.qc_model.specs.declared.problem.Arg.TheVariants.{Var, Num}

-- each variable's number is greater than that of the variable before it, and n or more
abbrev pub rise_from : ℕ → List Arg → Bool
rise_from n [] = true
rise_from n (Num m ∷ xs) = rise_from n xs
rise_from n (Var x ∷ xs) = nat_le n x.0 && rise_from (x.0 + 1) xs
