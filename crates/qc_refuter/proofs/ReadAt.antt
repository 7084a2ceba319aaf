-- The argument that was read at a place, and what is left to it.
use Rattle.std.proofs.Common.{◌≡◌, ℕ, ◌≤◌, true, false, List, [], ◌∷◌, length, map, get_or, ltb, ℤ, Option, Some, None, refl, sym, ap, subst, ◌∙◌, arith}
use Rattle.std.specs.Prelude.{pos, slice_get, nat_le}
use Rattle.std.specs.Option.{option_map}
use Rattle.std.specs.List.{list_all}
use Rattle.std.proofs.lemmas.Bool.{ltb-true, leb-true}
use Rattle.std.proofs.lemmas.Bool.Decides.{nat_tests}
use Rattle.std.proofs.lemmas.List.Recursion.{and_at}
use Rattle.std.proofs.lemmas.Option.{slice_get_read, slice_get_past, slice_get-map}
use Rattle.qc_model.specs.declared.problem.Arg.{Arg}
use Rattle.qc_model.specs.declared.problem.Argument.{Argument}
use Rattle.qc_model.specs.declared.problem.Argument.TheVariants.{One, Many, Numbers}
use Rattle.qc_model.specs.Arguments.{fill, as_one, as_many, as_numbers, numbers}
use Rattle.qc_model.specs.Domains.{Box}
use Rattle.qc_model.specs.Left.{left_at, lefts_at}
use Rattle.qc_model.specs.Refuted.{left_to}
use Rattle.qc_model.specs.Valid.{is_number}
use Rattle.qc_model.proofs.Readable.{first, second}
use Rattle.qc_refuter.specs.Met.{lefts, is_met, is_open, are_met}

read_left : (box : Box) (args : List Argument) (place : ℕ) (o : Option Argument) → slice_get args place ≡ o → as_one (pos 0 ∷ []) (option_map (fill (left_to box)) o) ≡ left_at (lefts box args) place
read_left box args place o e = sym (ap (as_one (pos 0 ∷ [])) (slice_get-map (fill (left_to box)) args place ∙ ap (option_map (fill (left_to box))) e))

-- one argument stands there
pub one_there : (box : Box) (args : List Argument) (place : ℕ) (x : Argument) (arg : Arg) → true ≡ ltb place (length args) → x ≡ get_or args place x → x ≡ One arg → left_to box arg ≡ left_at (lefts box args) place
one_there box args place x arg h e is = read_left box args place (Some (One arg)) (slice_get_read args (length args) place x refl (ltb-true place (length args) (sym h)) e ∙ ap Some is)

pub one_open : (box : Box) (args : List Argument) (place : ℕ) (x : Argument) (arg : Arg) → true ≡ ltb place (length args) → x ≡ get_or args place x → x ≡ One arg → are_met box args ≡ true → is_open box arg ≡ true
one_open box args place x arg h e is met =
    subst (λ y. is_met box y ≡ true) (sym e ∙ is) (and_at (list_all (is_met box)) (is_met box) refl (λ _ _. refl) args place x (ltb-true place (length args) (sym h)) met)

-- none does
pub none_there : (box : Box) (args : List Argument) (place : ℕ) → ltb place (length args) ≡ false → (pos 0 ∷ []) ≡ left_at (lefts box args) place
none_there box args place h = read_left box args place None (slice_get_past args place (past place (length args) h))
  where
    past : (a b : ℕ) → ltb a b ≡ false → b ≤ a
    past a b h = grind (arith, nat_tests)

-- the argument passes
there_met : (box : Box) (args : List Argument) (place : ℕ) (x y : Argument) → true ≡ ltb place (length args) → x ≡ get_or args place x → x ≡ y → are_met box args ≡ true → is_met box y ≡ true
there_met box args place x y h e is met =
    subst (λ z. is_met box z ≡ true) (sym e ∙ is) (and_at (list_all (is_met box)) (is_met box) refl (λ _ _. refl) args place x (ltb-true place (length args) (sym h)) met)

there_read : (args : List Argument) (place : ℕ) (x y : Argument) → true ≡ ltb place (length args) → x ≡ get_or args place x → x ≡ y → slice_get args place ≡ Some y
there_read args place x y h e is = slice_get_read args (length args) place x refl (ltb-true place (length args) (sym h)) e ∙ ap Some is

-- an array stands there
pub many_there : (box : Box) (args : List Argument) (place : ℕ) (x : Argument) (items : List Arg) → true ≡ ltb place (length args) → x ≡ get_or args place x → x ≡ Many items →
    map (left_to box) items ≡ lefts_at (lefts box args) place
many_there box args place x items h e is = sym (ap as_many (slice_get-map (fill (left_to box)) args place ∙ ap (option_map (fill (left_to box))) (there_read args place x (Many items) h e is)))

pub many_few : (box : Box) (args : List Argument) (place : ℕ) (x : Argument) (items : List Arg) → true ≡ ltb place (length args) → x ≡ get_or args place x → x ≡ Many items → are_met box args ≡ true → length items ≤ 1000
many_few box args place x items h e is met = leb-true (length items) 1000 (first (nat_le (length items) 1000) (list_all (is_open box) items) (there_met box args place x (Many items) h e is met))

pub many_open : (box : Box) (args : List Argument) (place : ℕ) (x : Argument) (items : List Arg) → true ≡ ltb place (length args) → x ≡ get_or args place x → x ≡ Many items → are_met box args ≡ true → list_all (is_open box) items ≡ true
many_open box args place x items h e is met = second (nat_le (length items) 1000) (list_all (is_open box) items) (there_met box args place x (Many items) h e is met)

-- an array of numbers does
pub numbers_there : (box : Box) (args : List Argument) (place : ℕ) (x : Argument) (ns : List ℤ) → true ≡ ltb place (length args) → x ≡ get_or args place x → x ≡ Numbers ns → ns ≡ numbers (lefts box args) place
numbers_there box args place x ns h e is = sym (ap as_numbers (slice_get-map (fill (left_to box)) args place ∙ ap (option_map (fill (left_to box))) (there_read args place x (Numbers ns) h e is)))

pub numbers_small : (box : Box) (args : List Argument) (place : ℕ) (x : Argument) (ns : List ℤ) → true ≡ ltb place (length args) → x ≡ get_or args place x → x ≡ Numbers ns → are_met box args ≡ true → list_all is_number ns ≡ true
numbers_small box args place x ns h e is met = there_met box args place x (Numbers ns) h e is met
