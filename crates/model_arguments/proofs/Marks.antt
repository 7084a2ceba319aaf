-- Variables marked from the last item to the first.
use Rattle.std.proofs.Common.{◌≡◌, ℕ, zero, suc, ◌+◌, ◌<◌, Bool, true, false, ◌||◌, List, [], ◌∷◌, length, drop, get_or, replicate, refl, sym, ap, ◌∙◌, arith}
use Rattle.std.specs.Prelude.{nat_lt}
use Rattle.std.specs.List.{list_any}
use Rattle.std.proofs.lemmas.List.{get_or-replicate, at_drop_more}
use Rattle.std.proofs.lemmas.Bool.Decides.{nat_tests}
use Rattle.std.proofs.Math.Seq.{drop-length}
use Rattle.std.proofs.lemmas.Bool.{or_left, or_right, or_from}
use Rattle.qc_model.specs.declared.problem.Arg.{Arg}
use Rattle.qc_model.specs.declared.problem.Arg.TheVariants.{Var, Num}
use Rattle.model_arguments.specs.Repeats.{same_variable, has_repeat, has_place, is_marked}

-- each variable of the list is marked, and no other
abbrev pub AreMarked : List Bool → List Arg → Type 0
AreMarked marks xs = (y : ℕ) → y < 500 → get_or marks y false ≡ list_any (same_variable (Var (record { 0 = y }))) xs

pub none_marked : (xs : List Arg) → AreMarked (replicate 500 false) (drop (length xs) xs)
none_marked xs y h = get_or-replicate 500 y false false h ∙ sym (ap (list_any (same_variable (Var (record { 0 = y })))) (drop-length xs))

pub none_repeated : (xs : List Arg) → has_repeat (drop (length xs) xs) ≡ false
none_repeated xs = ap has_repeat (drop-length xs)

number_differs : (a : Arg) (xs : List Arg) → ((y : Arg) → same_variable a y ≡ false) → false ≡ list_any (same_variable a) xs
number_differs a [] f = refl
number_differs a (x ∷ xs) f = number_differs a xs f ∙ sym (ap (λ b. b || list_any (same_variable a) xs) (f x))

stands : (marks : List Bool) (a : Arg) (xs : List Arg) → AreMarked marks xs → has_place 500 a ≡ true → is_marked marks a ≡ list_any (same_variable a) xs
stands marks (Var x) xs f h = f x.0 (below x.0 h)
  where
    below : (n : ℕ) → nat_lt n 500 ≡ true → n < 500
    below n h = grind (arith, nat_tests, h)
stands marks (Num n) xs f h = number_differs (Num n) xs (λ y. refl)

next : {Y : Type 0} (F : List Arg → Y) (xs : List Arg) (k after : ℕ) (e : Arg) → k + 1 ≡ after → k < length xs → F (drop k xs) ≡ F (get_or xs k e ∷ drop after xs)
next F xs k after e q l = at_drop_more F xs k e l ∙ ap (λ n. F (get_or xs k e ∷ drop n xs)) q

or_turned : (a b : Bool) → (a || b) ≡ (b || a)
or_turned true true = refl
or_turned true false = refl
or_turned false true = refl
or_turned false false = refl

repeat_drop : (xs : List Arg) (k : ℕ) → has_repeat (drop k xs) ≡ true → has_repeat xs ≡ true
repeat_drop xs zero h = h
repeat_drop [] (suc k) h = h
repeat_drop (x ∷ xs) (suc k) h = or_right (list_any (same_variable x) xs) (has_repeat xs) (repeat_drop xs k h)

-- an item that is marked already stands twice
pub repeat_found : (marks : List Bool) (xs : List Arg) (k after : ℕ) (e : Arg) → k + 1 ≡ after → k < length xs → AreMarked marks (drop after xs) → has_place 500 (get_or xs k e) ≡ true → is_marked marks (get_or xs k e) ≡ true → has_repeat xs ≡ true
repeat_found marks xs k after e q l f p m =
    repeat_drop xs k
    (next has_repeat xs k after e q l
    ∙ or_left (list_any (same_variable (get_or xs k e)) (drop after xs)) (has_repeat (drop after xs)) (sym (stands marks (get_or xs k e) (drop after xs) f p) ∙ m))

-- one that isn't does not
pub repeat_none : (marks : List Bool) (xs : List Arg) (k after : ℕ) (e : Arg) → k + 1 ≡ after → k < length xs → AreMarked marks (drop after xs) → has_place 500 (get_or xs k e) ≡ true → is_marked marks (get_or xs k e) ≡ false → has_repeat (drop after xs) ≡ false →
    has_repeat (drop k xs) ≡ false
repeat_none marks xs k after e q l f p m r =
    next has_repeat xs k after e q l
    ∙ or_from (list_any (same_variable (get_or xs k e)) (drop after xs)) (has_repeat (drop after xs)) (sym (stands marks (get_or xs k e) (drop after xs) f p) ∙ m) r

-- it is marked then
pub one_marked : (marks new : List Bool) (xs : List Arg) (k after : ℕ) (e : Arg) → k + 1 ≡ after → k < length xs → AreMarked marks (drop after xs) →
    ((y : ℕ) → get_or new y false ≡ (get_or marks y false || same_variable (Var (record { 0 = y })) (get_or xs k e))) → AreMarked new (drop k xs)
one_marked marks new xs k after e q l f g y h =
    g y
    ∙ (ap (λ b. b || same_variable (Var (record { 0 = y })) (get_or xs k e)) (f y h)
    ∙ (or_turned (list_any (same_variable (Var (record { 0 = y }))) (drop after xs)) (same_variable (Var (record { 0 = y })) (get_or xs k e))
    ∙ sym (next (list_any (same_variable (Var (record { 0 = y })))) xs k after e q l)))
