-- The argument that was read at a place.
use Rattle.std.proofs.Common.{◌≡◌, ℕ, ◌≤◌, true, false, List, length, get_or, ltb, Option, Some, None, sym, ap, subst, ◌∙◌, refl, arith}
use Rattle.std.specs.Prelude.{pos, slice_get, nat_le}
use Rattle.std.specs.Option.{option_map}
use Rattle.std.specs.List.{list_all}
use Rattle.std.proofs.lemmas.Bool.{ltb-true, leb-true}
use Rattle.std.proofs.lemmas.Bool.Decides.{nat_tests}
use Rattle.std.proofs.lemmas.List.Recursion.{and_at}
use Rattle.std.proofs.lemmas.Option.{slice_get_read, slice_get_past, slice_get-map}
use Rattle.qc_model.specs.declared.problem.Arg.{Arg}
use Rattle.qc_model.specs.declared.problem.Arg.TheVariants.{Num}
use Rattle.qc_model.specs.declared.problem.Argument.{Argument}
use Rattle.qc_model.specs.declared.problem.Argument.TheVariants.{One, Many}
use Rattle.qc_model.specs.Arguments.{fill, as_one}
use Rattle.qc_model.specs.Domains.{Box}
use Rattle.qc_model.proofs.Readable.{first, second}
use Rattle.model_arguments.specs.Written.{arg_at, args_at, items_of}
use Rattle.qc_refuter.specs.Met.{is_met, is_open, are_met}

there_met : (box : Box) (args : List Argument) (place : ℕ) (x y : Argument) → true ≡ ltb place (length args) → x ≡ get_or args place x → x ≡ y → are_met box args ≡ true → is_met box y ≡ true
there_met box args place x y h e is met =
    subst (λ z. is_met box z ≡ true) (sym e ∙ is) (and_at (list_all (is_met box)) (is_met box) refl (λ _ _. refl) args place x (ltb-true place (length args) (sym h)) met)

there_read : (args : List Argument) (place : ℕ) (x y : Argument) → true ≡ ltb place (length args) → x ≡ get_or args place x → x ≡ y → slice_get args place ≡ Some y
there_read args place x y h e is = slice_get_read args (length args) place x refl (ltb-true place (length args) (sym h)) e ∙ ap Some is

read_as : (args : List Argument) (place : ℕ) (o : Option Argument) → slice_get args place ≡ o → arg_at args place ≡ as_one (Num (pos 0)) (option_map (fill (λ a. a)) o)
read_as args place o e = ap (as_one (Num (pos 0))) (slice_get-map (fill (λ a. a)) args place ∙ ap (option_map (fill (λ a. a))) e)

-- an argument, which is open
pub one_there : (args : List Argument) (place : ℕ) (x : Argument) (arg : Arg) → true ≡ ltb place (length args) → x ≡ get_or args place x → x ≡ One arg → arg ≡ arg_at args place
one_there args place x arg h e is = sym (read_as args place (Some (One arg)) (there_read args place x (One arg) h e is))

pub one_open : (box : Box) (args : List Argument) (place : ℕ) (x : Argument) (arg : Arg) → true ≡ ltb place (length args) → x ≡ get_or args place x → x ≡ One arg → are_met box args ≡ true → is_open box arg ≡ true
one_open box args place x arg h e is met = there_met box args place x (One arg) h e is met

-- none
pub none_there : (args : List Argument) (place : ℕ) → ltb place (length args) ≡ false → Num (pos 0) ≡ arg_at args place
none_there args place h = sym (read_as args place None (slice_get_past args place (past place (length args) h)))
  where
    past : (a b : ℕ) → ltb a b ≡ false → b ≤ a
    past a b h = grind (arith, nat_tests)

-- an array of few items that are open
pub many_there : (args : List Argument) (place : ℕ) (x : Argument) (items : List Arg) → true ≡ ltb place (length args) → x ≡ get_or args place x → x ≡ Many items → items ≡ args_at args place
many_there args place x items h e is = sym (ap items_of (there_read args place x (Many items) h e is))

pub many_few : (box : Box) (args : List Argument) (place : ℕ) (x : Argument) (items : List Arg) → true ≡ ltb place (length args) → x ≡ get_or args place x → x ≡ Many items → are_met box args ≡ true → length items ≤ 1000
many_few box args place x items h e is met = leb-true (length items) 1000 (first (nat_le (length items) 1000) (list_all (is_open box) items) (there_met box args place x (Many items) h e is met))

pub many_open : (box : Box) (args : List Argument) (place : ℕ) (x : Argument) (items : List Arg) → true ≡ ltb place (length args) → x ≡ get_or args place x → x ≡ Many items → are_met box args ≡ true → list_all (is_open box) items ≡ true
many_open box args place x items h e is met = second (nat_le (length items) 1000) (list_all (is_open box) items) (there_met box args place x (Many items) h e is met)
