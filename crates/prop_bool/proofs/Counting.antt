-- Some items and one more, by how many of them are 1.
use Rattle.std.proofs.Common.{◌≡◌, ℕ, zero, suc, Bool, true, false, not, ◌&&◌, ◌||◌, cond, List, [], ◌∷◌, ◌++◌, map, set, take, refl, sym, ap, ◌∙◌, arith, ℤ}
use Rattle.std.specs.Prelude.{pos, ◌==◌}
use Rattle.std.specs.List.{list_all, list_any}
use Rattle.std.proofs.lemmas.List.{map-append, get_or-set_same}
use Rattle.std.proofs.lemmas.List.Folds.{list_all-append, list_any-append}
use Rattle.std.proofs.lemmas.Bool.Decides.{nat_tests}
use Rattle.std.proofs.lemmas.Bool.{false_from_ne_true, and_from}
use Rattle.qc_model.specs.declared.problem.Arg.{Arg}
use Rattle.qc_model.specs.declared.problem.Arg.TheVariants.{Var, Num}
use Rattle.qc_model.specs.declared.problem.VarId.{VarId}
use Rattle.qc_model.specs.Domains.{Values, Box, values_left, has_value, is_single, least_value}
use Rattle.qc_model.specs.Holds.{odd_ones, is_one}
use Rattle.qc_model.specs.Refuted.{left_to}
use Rattle.qc_model.proofs.Readable.{first, second}
use Rattle.model_arguments.specs.Repeats.{is_variable}
use Rattle.prop_bool.specs.declared.tallies.Tally.{Tally}
use Rattle.prop_bool.specs.declared.tallies.Tally.TheVariants.{Decided, Open, Free, Unknown}
use Rattle.prop_bool.specs.Literals.{truth_number, both_truths}
use Rattle.prop_bool.specs.Findings.{given}
use Rattle.prop_bool.specs.Parities.{differ, are_single, is_odd, IsOpen, IsTally, turned, opened}
use Rattle.prop_bool.proofs.Fixing.{left_other, left_before, fixed_stays}
use Rattle.prop_bool.proofs.Removing.{both_place}

single_is : (d : Values) → is_single d ≡ true → d ≡ least_value d ∷ []
single_is [] h = cc
single_is (v ∷ []) h = refl
single_is (v ∷ w ∷ d) h = cc

one_single : (d : Values) (v : ℤ) → d ≡ v ∷ [] → is_single d ≡ true
one_single d v e = ap is_single e

swapped : (a b c : Bool) → differ a (differ b c) ≡ differ b (differ a c)
swapped true true c = refl
swapped true false true = refl
swapped true false false = refl
swapped false true true = refl
swapped false true false = refl
swapped false false c = refl

odd_more : (ns : List ℤ) (n : ℤ) → odd_ones (ns ++ n ∷ []) ≡ differ (is_one n) (odd_ones ns)
odd_more [] n = refl
odd_more (m ∷ ns) n = ap (differ (is_one m)) (odd_more ns n) ∙ swapped (is_one m) (is_one n) (odd_ones ns)

-- with one item more
odd_with : (box : Box) (xs : List Arg) (a : Arg) (v : ℤ) → left_to box a ≡ v ∷ [] → is_odd box (xs ++ a ∷ []) ≡ differ (is_one v) (is_odd box xs)
odd_with box xs a v e =
    let f : Arg → ℤ = λ b. least_value (left_to box b) in
    ap odd_ones (map-append f xs (a ∷ []))
    ∙ (odd_more (map f xs) (f a) ∙ ap (λ d. differ (is_one (least_value d)) (is_odd box xs)) e)

single_with : (box : Box) (xs : List Arg) (a : Arg) (v : ℤ) → left_to box a ≡ v ∷ [] → are_single box xs ≡ true → are_single box (xs ++ a ∷ []) ≡ true
single_with box xs a v e h =
    let p : Arg → Bool = λ b. is_single (left_to box b) in
    list_all-append p xs (a ∷ []) ∙ and_from (list_all p xs) (p a && true) h (and_from (p a) true (one_single (left_to box a) v e) refl)

-- what is single stays, and so does how many are 1
pub singles_stay : (box : Box) (y : ℕ) (v : ℤ) (xs : List Arg) → has_value (values_left box y) v ≡ true → are_single box xs ≡ true → are_single (set box y (v ∷ [])) xs ≡ true
singles_stay box y v [] k h = refl
singles_stay box y v (a ∷ xs) k h =
    let new = set box y (v ∷ []) in
    let s = first (is_single (left_to box a)) (are_single box xs) h in
    and_from (is_single (left_to new a)) (are_single new xs)
    (one_single (left_to new a) (least_value (left_to box a)) (fixed_stays box y v a (least_value (left_to box a)) k (single_is (left_to box a) s)))
    (singles_stay box y v xs k (second (is_single (left_to box a)) (are_single box xs) h))

pub odd_stays : (box : Box) (y : ℕ) (v : ℤ) (xs : List Arg) → has_value (values_left box y) v ≡ true → are_single box xs ≡ true → is_odd (set box y (v ∷ [])) xs ≡ is_odd box xs
odd_stays box y v [] k h = refl
odd_stays box y v (a ∷ xs) k h =
    let new = set box y (v ∷ []) in
    let s = first (is_single (left_to box a)) (are_single box xs) h in
    let e = fixed_stays box y v a (least_value (left_to box a)) k (single_is (left_to box a) s) in
    ap (λ d. differ (is_one (least_value d)) (is_odd new xs)) e
    ∙ ap (differ (is_one (least_value (left_to box a)))) (odd_stays box y v xs k (second (is_single (left_to box a)) (are_single box xs) h))

pub has_both : (box : Box) (x : VarId) (b : Bool) → values_left box x.0 ≡ both_truths → has_value (values_left box x.0) (truth_number b) ≡ true
has_both box x true u = ap (λ d. has_value d (pos 1)) u
has_both box x false u = ap (λ d. has_value d (pos 0)) u

-- some place of an unfixed variable isn't single
unlike : (box : Box) (p : Arg → Bool) (xs : List Arg) → ((a : Arg) → p a ≡ true → is_single (left_to box a) ≡ false) → list_any p xs ≡ true → are_single box xs ≡ true → ⊥
unlike box p [] f h k = cc
unlike box p (a ∷ xs) f h k = by (p a) (f a) (λ e. unlike box p xs f e (second (is_single (left_to box a)) (are_single box xs) k)) h
  where
    by : (b : Bool) → (b ≡ true → is_single (left_to box a) ≡ false) → (list_any p xs ≡ true → ⊥) → (b || list_any p xs) ≡ true → ⊥
    by true g r e = let w = sym (g refl) ∙ first (is_single (left_to box a)) (are_single box xs) k in cc
    by false g r e = r e

free_with : (box : Box) (xs : List Arg) (a : Arg) → IsTally Free box xs → IsTally Free box (xs ++ a ∷ [])
free_with box xs a f y v k =
    let p : Arg → Bool = λ b. is_single (left_to (set box y (v ∷ [])) b) in
    list_all-append p xs (a ∷ []) ∙ ap (λ b. b && (p a && true)) (f y v k)

turn : (b o : Bool) → differ true (differ b o) ≡ differ b (not o)
turn true true = refl
turn true false = refl
turn false true = refl
turn false false = refl

keep : (o : Bool) → differ false o ≡ o
keep true = refl
keep false = refl

there_before : (p : Arg → Bool) (xs : List Arg) (a : Arg) → list_any p xs ≡ true → list_any p (xs ++ a ∷ []) ≡ true
there_before p xs a h = list_any-append p xs (a ∷ []) ∙ ap (λ b. b || (p a || false)) h

there_last : (p : Arg → Bool) (xs : List Arg) (a : Arg) → p a ≡ true → list_any p (xs ++ a ∷ []) ≡ true
there_last p xs a h = list_any-append p xs (a ∷ []) ∙ (ap (λ b. list_any p xs || (b || false)) h ∙ or_true (list_any p xs))
  where
    or_true : (b : Bool) → (b || true) ≡ true
    or_true true = refl
    or_true false = refl

-- an item that is 0, and one that is 1
pub with_zero : (t : Tally) (box : Box) (xs : List Arg) (a : Arg) → left_to box a ≡ pos 0 ∷ [] → IsTally t box xs → IsTally t box (xs ++ a ∷ [])
with_zero (Decided odd) box xs a e p = (single_with box xs a (pos 0) e p.0, odd_with box xs a (pos 0) e ∙ (keep (is_odd box xs) ∙ p.1))
with_zero (Open x odd) box xs a e p =
    let stays : (b : Bool) → left_to (given box x b) a ≡ pos 0 ∷ [] = λ b. fixed_stays box x.0 (truth_number b) a (pos 0) (has_both box x b p.unfixed) e in
    record {
      unfixed = p.unfixed;
      there = there_before (λ z. is_variable z x.0) xs a p.there;
      single = λ b. single_with (given box x b) xs a (pos 0) (stays b) (p.single b);
      odd = λ b. odd_with (given box x b) xs a (pos 0) (stays b) ∙ (keep (is_odd (given box x b) xs) ∙ p.odd b);
    }
with_zero Free box xs a e p = free_with box xs a p
with_zero Unknown box xs a e p = tt

pub with_one : (t : Tally) (box : Box) (xs : List Arg) (a : Arg) → left_to box a ≡ pos 1 ∷ [] → IsTally t box xs → IsTally (turned t) box (xs ++ a ∷ [])
with_one (Decided odd) box xs a e p = (single_with box xs a (pos 1) e p.0, odd_with box xs a (pos 1) e ∙ ap not p.1)
with_one (Open x odd) box xs a e p =
    let stays : (b : Bool) → left_to (given box x b) a ≡ pos 1 ∷ [] = λ b. fixed_stays box x.0 (truth_number b) a (pos 1) (has_both box x b p.unfixed) e in
    record {
      unfixed = p.unfixed;
      there = there_before (λ z. is_variable z x.0) xs a p.there;
      single = λ b. single_with (given box x b) xs a (pos 1) (stays b) (p.single b);
      odd = λ b. odd_with (given box x b) xs a (pos 1) (stays b) ∙ (ap (differ true) (p.odd b) ∙ turn b odd);
    }
with_one Free box xs a e p = free_with box xs a p
with_one Unknown box xs a e p = tt

-- a variable that is unfixed
number_same : (n : ℕ) → (n == n) ≡ true
number_same n = grind (arith, nat_tests)

not_single : (box : Box) (a : Arg) → left_to box a ≡ both_truths → is_single (left_to box a) ≡ false
not_single box a e = ap is_single e

one_number : (b : Bool) → is_one (truth_number b) ≡ b
one_number true = refl
one_number false = refl

moved : (a b : ℕ) → (a == b) ≡ false → (c : ℕ) → (a == c) ≡ true → (b == c) ≡ false
moved a b h c k = grind (arith, nat_tests)

same_number : (a b : ℕ) → (a == b) ≡ true → a ≡ b
same_number a b h = grind (arith, nat_tests)

other_open : (box : Box) (xs : List Arg) (x y : VarId) (odd : Bool) → IsOpen box xs x odd → values_left box y.0 ≡ both_truths → (x.0 == y.0) ≡ false → IsTally Free box (xs ++ Var y ∷ [])
other_open box xs x y odd p u n z v k = false_from_ne_true (are_single new (xs ++ Var y ∷ [])) (λ h. by (x.0 == z) refl h)
  where
    new : Box
    new = set box z (v ∷ [])

    q : Arg → Bool
    q b = is_single (left_to new b)

    before : are_single new (xs ++ Var y ∷ []) ≡ true → are_single new xs ≡ true
    before h = first (list_all (λ b. is_single (left_to new b)) xs) (is_single (left_to new (Var y)) && true) (sym (list_all-append (λ b. is_single (left_to new b)) xs (Var y ∷ [])) ∙ h)

    last : are_single new (xs ++ Var y ∷ []) ≡ true → is_single (left_to new (Var y)) ≡ true
    last h =
        first (is_single (left_to new (Var y))) true
        (second (list_all (λ b. is_single (left_to new b)) xs) (is_single (left_to new (Var y)) && true) (sym (list_all-append (λ b. is_single (left_to new b)) xs (Var y ∷ [])) ∙ h))

    at_x : (x.0 == z) ≡ false → (a : Arg) → is_variable a x.0 ≡ true → is_single (left_to new a) ≡ false
    at_x f a e = not_single new a (left_other box z (v ∷ []) a (apart a e) ∙ (left_before box x.0 a e ∙ p.unfixed))
      where
        apart : (a : Arg) → is_variable a x.0 ≡ true → is_variable a z ≡ false
        apart (Var w) i = ap (λ m. m == z) (same_number w.0 x.0 i) ∙ f
        apart (Num m) i = cc

    by : (b : Bool) → (x.0 == z) ≡ b → are_single new (xs ++ Var y ∷ []) ≡ true → ⊥
    by false f h = unlike new (λ a. is_variable a x.0) xs (at_x f) p.there (before h)
    by true f h = let w = sym (not_single new (Var y) (left_other box z (v ∷ []) (Var y) (moved x.0 y.0 n z f) ∙ u)) ∙ last h in cc

pub with_unfixed : (t : Tally) (box : Box) (xs : List Arg) (y : VarId) → values_left box y.0 ≡ both_truths → IsTally t box xs → IsTally (opened t y) box (xs ++ Var y ∷ [])
with_unfixed (Decided odd) box xs y u p =
    let here : (b : Bool) → left_to (given box y b) (Var y) ≡ truth_number b ∷ [] = λ b. get_or-set_same box y.0 (truth_number b ∷ []) [] (both_place box y u) in
    record {
      unfixed = u;
      there = there_last (λ z. is_variable z y.0) xs (Var y) (number_same y.0);
      single = λ b. single_with (given box y b) xs (Var y) (truth_number b) (here b) (singles_stay box y.0 (truth_number b) xs (has_both box y b u) p.0);
      odd = λ b.
          odd_with (given box y b) xs (Var y) (truth_number b) (here b)
          ∙ (ap (λ c. differ c (is_odd (given box y b) xs)) (one_number b) ∙ ap (differ b) (odd_stays box y.0 (truth_number b) xs (has_both box y b u) p.0 ∙ p.1));
    }
with_unfixed (Open x odd) box xs y u p = by (x.0 == y.0) refl
  where
    by : (b : Bool) → (x.0 == y.0) ≡ b → IsTally (cond b Unknown Free) box (xs ++ Var y ∷ [])
    by true e = tt
    by false e = other_open box xs x y odd p u e
with_unfixed Free box xs y u p = free_with box xs (Var y) p
with_unfixed Unknown box xs y u p = tt

-- what isn't single among the first isn't among all
pub free_taken : (box : Box) (xs : List Arg) (k : ℕ) → IsTally Free box (take k xs) → IsTally Free box xs
free_taken box xs k f y v h = none_more (λ b. is_single (left_to (set box y (v ∷ [])) b)) xs k (f y v h)
  where
    none_more : (p : Arg → Bool) (xs : List Arg) (k : ℕ) → list_all p (take k xs) ≡ false → list_all p xs ≡ false
    none_more p xs zero h = cc
    none_more p [] (suc k) h = cc
    none_more p (a ∷ xs) (suc k) h = by (p a) (none_more p xs k) h
      where
        by : (b : Bool) → (list_all p (take k xs) ≡ false → list_all p xs ≡ false) → (b && list_all p (take k xs)) ≡ false → (b && list_all p xs) ≡ false
        by true r e = r e
        by false r e = refl
