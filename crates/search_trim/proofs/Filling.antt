-- Arguments that are filled in two ways, which do the same at each variable that is wanted.
use Rattle.std.proofs.Common.{◌≡◌, ℕ, Bool, true, false, ◌&&◌, List, [], ◌∷◌, ◌++◌, map, refl, sym, ap, ◌∙◌, ℤ}
use Rattle.std.specs.Prelude.{flat_map}
use Rattle.std.specs.List.{list_all}
use Rattle.std.proofs.lemmas.List.Folds.{list_all-append}
use Rattle.std.proofs.lemmas.Bool.{and_parts}
use Rattle.qc_model.specs.declared.problem.VarId.{VarId}
use Rattle.qc_model.specs.declared.problem.Arg.{Arg}
use Rattle.qc_model.specs.declared.problem.Arg.TheVariants.{Var, Num}
use Rattle.qc_model.specs.declared.problem.Argument.{Argument}
use Rattle.qc_model.specs.declared.problem.Argument.TheVariants.{One, Many, Numbers, Members}
use Rattle.qc_model.specs.Arguments.{arg_variables, argument_variables, variables_of, filled_one, filled_many, fill}

split : (p : ℕ → Bool) (xs ys : List ℕ) → list_all p (xs ++ ys) ≡ true → (list_all p xs ≡ true) × (list_all p ys ≡ true)
split p xs ys e = and_parts (list_all p xs) (list_all p ys) (sym (list_all-append p xs ys) ∙ e)

module _ {X : Type 0} (f h : Arg → X) (wanted : ℕ → Bool) (number : (n : ℤ) → f (Num n) ≡ h (Num n)) (variable : (x : VarId) → wanted x.0 ≡ true → f (Var x) ≡ h (Var x)) where
  fill_one : (a : Arg) → list_all wanted (arg_variables a) ≡ true → f a ≡ h a
  fill_one (Var x) e = variable x (and_parts (wanted x.0) true e).0
  fill_one (Num n) e = number n

  fill_items : (xs : List Arg) → list_all wanted (flat_map arg_variables xs) ≡ true → map f xs ≡ map h xs
  fill_items [] e = refl
  fill_items (a ∷ xs) e =
      let p = split wanted (arg_variables a) (flat_map arg_variables xs) e in
      ap (λ v. v ∷ map f xs) (fill_one a p.0) ∙ ap (λ vs. h a ∷ vs) (fill_items xs p.1)

  fill_argument : (a : Argument) → list_all wanted (argument_variables a) ≡ true → fill f a ≡ fill h a
  fill_argument (One a) e = ap filled_one (fill_one a e)
  fill_argument (Many xs) e = ap filled_many (fill_items xs e)
  fill_argument (Numbers ns) e = refl
  fill_argument (Members s) e = refl

  pub fill_all : (args : List Argument) → list_all wanted (variables_of args) ≡ true → map (fill f) args ≡ map (fill h) args
  fill_all [] e = refl
  fill_all (a ∷ args) e =
      let p = split wanted (argument_variables a) (variables_of args) e in
      ap (λ v. v ∷ map (fill f) args) (fill_argument a p.0) ∙ ap (λ vs. fill h a ∷ vs) (fill_all args p.1)
