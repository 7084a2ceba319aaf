-- Arguments that are filled in two ways.
use Rattle.std.proofs.Common.{◌≡◌, inl, inr, ℕ, zero, suc, ◌==◌, Bool, true, false, List, [], ◌∷◌, ◌++◌, map, refl, sym, ap, ◌∙◌, arith, ℤ, Some}
use Rattle.std.specs.Prelude.{flat_map, slice_get}
use Rattle.std.specs.List.{list_any}
use Rattle.std.proofs.lemmas.Bool.Decides.{nat_tests}
use Rattle.std.proofs.lemmas.List.Folds.{list_any-append}
use Rattle.std.proofs.lemmas.Bool.{or_left, or_right}
use Rattle.qc_model.specs.declared.problem.VarId.{VarId}
use Rattle.qc_model.specs.declared.problem.Arg.{Arg}
use Rattle.qc_model.specs.declared.problem.Arg.TheVariants.{Var, Num}
use Rattle.qc_model.specs.declared.problem.Argument.{Argument}
use Rattle.qc_model.specs.declared.problem.Argument.TheVariants.{One, Many, Numbers, Members}
use Rattle.qc_model.specs.Arguments.{arg_variables, argument_variables, variables_of, filled_one, filled_many, fill}
use Rattle.qc_model.specs.Lists.{Among}
use Rattle.proof_alike.specs.Alike.{is_among}

pub same_number : (k : ℕ) → (k == k) ≡ true
same_number k = grind (arith, nat_tests)

among_left : (xs ys : List ℕ) (x : ℕ) → is_among xs x ≡ true → is_among (xs ++ ys) x ≡ true
among_left xs ys x h = list_any-append (λ y. y == x) xs ys ∙ or_left (is_among xs x) (is_among ys x) h

among_right : (xs ys : List ℕ) (x : ℕ) → is_among ys x ≡ true → is_among (xs ++ ys) x ≡ true
among_right xs ys x h = list_any-append (λ y. y == x) xs ys ∙ or_right (is_among xs x) (is_among ys x) h

-- two ways to fill arguments that do the same at a number, and at each variable of the arguments
pub record FillAlike {X : Type 0} (f h : Arg → X) (xs : List ℕ) : Type 0 where
  pub number : (n : ℤ) → f (Num n) ≡ h (Num n)
  pub variable : (x : VarId) → is_among xs x.0 ≡ true → f (Var x) ≡ h (Var x)

fewer_left : {X : Type 0} (f h : Arg → X) (xs ys : List ℕ) → FillAlike f h (xs ++ ys) → FillAlike f h xs
fewer_left f h xs ys l = record { number = l.number; variable = λ x m. l.variable x (among_left xs ys x.0 m) }

fewer_right : {X : Type 0} (f h : Arg → X) (xs ys : List ℕ) → FillAlike f h (xs ++ ys) → FillAlike f h ys
fewer_right f h xs ys l = record { number = l.number; variable = λ x m. l.variable x (among_right xs ys x.0 m) }

fill_one : {X : Type 0} (f h : Arg → X) (a : Arg) → FillAlike f h (arg_variables a) → f a ≡ h a
fill_one f h (Var x) l = l.variable x (or_left (x.0 == x.0) false (same_number x.0))
fill_one f h (Num n) l = l.number n

fill_items : {X : Type 0} (f h : Arg → X) (xs : List Arg) → FillAlike f h (flat_map arg_variables xs) → map f xs ≡ map h xs
fill_items f h [] l = refl
fill_items f h (a ∷ xs) l =
    let here = fill_one f h a (fewer_left f h (arg_variables a) (flat_map arg_variables xs) l) in
    let later = fill_items f h xs (fewer_right f h (arg_variables a) (flat_map arg_variables xs) l) in
    ap (λ v. v ∷ map f xs) here ∙ ap (λ vs. h a ∷ vs) later

fill_argument : {X : Type 0} (f h : Arg → X) (a : Argument) → FillAlike f h (argument_variables a) → fill f a ≡ fill h a
fill_argument f h (One a) l = ap filled_one (fill_one f h a l)
fill_argument f h (Many xs) l = ap filled_many (fill_items f h xs l)
fill_argument f h (Numbers ns) l = refl
fill_argument f h (Members s) l = refl

pub fill_all : {X : Type 0} (f h : Arg → X) (args : List Argument) → FillAlike f h (variables_of args) → map (fill f) args ≡ map (fill h) args
fill_all f h [] l = refl
fill_all f h (a ∷ args) l =
    let here = fill_argument f h a (fewer_left f h (argument_variables a) (variables_of args) l) in
    let later = fill_all f h args (fewer_right f h (argument_variables a) (variables_of args) l) in
    ap (λ v. v ∷ map (fill f) args) here ∙ ap (λ vs. fill h a ∷ vs) later

pub any_of : {X : Type 0} (p : X → Bool) (xs : List X) (x : X) → Among x xs → p x ≡ true → list_any p xs ≡ true
any_of p [] x m e = absurd m
any_of p (y ∷ xs) x m e = elim m [
  | inl q ↦ or_left (p y) (list_any p xs) (ap p (sym q) ∙ e)
  | inr n ↦ or_right (p y) (list_any p xs) (any_of p xs x n e)
]

pub get_among : {X : Type 0} (xs : List X) (k : ℕ) (x : X) → slice_get xs k ≡ Some x → Among x xs
get_among [] k x e = cc
get_among (y ∷ xs) zero x e = inl cc
get_among (y ∷ xs) (suc k) x e = inr (get_among xs k x e)
