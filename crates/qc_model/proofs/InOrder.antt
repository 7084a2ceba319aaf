-- Lists in the order of a number: where those of one number begin and end.
use Rattle.std.proofs.Common.{◌≡◌, ◌∙◌, sym, ap, refl, ◌<◌, ◌≤◌, ◌+◌, ◌-◌, ℕ, zero, suc, Bool, true, false, List, [], ◌∷◌, length, map, filter, take, drop, get_or, cond, arith, zero-add, leb-true, lt-ltb, le-ltb, subst, inl, inr, slice_get, Some}
use Rattle.std.specs.Prelude.{nat_lt, nat_le, ◌==◌, count_by}
use Rattle.std.specs.List.Sorted.{IsNonDecreasingBy}
use Rattle.std.proofs.lemmas.List.Sums.{sum_by-cons, sum_by-le-sum_by}
use Rattle.std.proofs.lemmas.Bool.{cases_order, and_parts}
use Rattle.std.proofs.lemmas.Bool.Decides.{nat_tests}
use Rattle.qc_model.specs.Valid.{is_in_order}

module _ {X : Type 0} (f : X → ℕ) where
  -- from the second on, the list is in order too, and none is below the first
  pub tail_order : (n k : ℕ) (xs : List X) → is_in_order n (k ∷ map f xs) ≡ true → is_in_order n (map f xs) ≡ true
  tail_order n k [] h = refl
  tail_order n k (x ∷ xs) h = (and_parts _ _ h).1

  pub next_up : (n k : ℕ) (x : X) (xs : List X) → is_in_order n (k ∷ map f (x ∷ xs)) ≡ true → k ≤ f x
  next_up n k x xs h = leb-true k (f x) (and_parts _ _ h).0

  pub first_least : (n k : ℕ) (xs : List X) → is_in_order n (k ∷ map f xs) ≡ true → (j : ℕ) (d : X) → j < length xs → k ≤ f (get_or xs j d)
  first_least n k [] h j d lt = absurd (omega arith)
  first_least n k (x ∷ xs) h zero d lt = next_up n k x xs h
  first_least n k (x ∷ xs) h (suc j) d lt =
      let a = next_up n k x xs h in
      let b : f x ≤ f (get_or xs j d) = first_least n (f x) xs (and_parts (nat_le k (f x)) (is_in_order n (f x ∷ map f xs)) h).1 j d (omega arith) in
      omega arith

  pub in_order_rises : (n : ℕ) (xs : List X) → is_in_order n (map f xs) ≡ true → IsNonDecreasingBy f xs
  in_order_rises n [] h i j d le lt = absurd (omega arith)
  in_order_rises n (x ∷ xs) h zero zero d le lt = omega arith
  in_order_rises n (x ∷ xs) h zero (suc j) d le lt = first_least n (f x) xs h j d (omega arith)
  in_order_rises n (x ∷ xs) h (suc i) zero d le lt = absurd (omega arith)
  in_order_rises n (x ∷ xs) h (suc i) (suc j) d le lt = in_order_rises n xs (tail_order n (f x) xs h) i j d (omega arith) (omega arith)

  abbrev pub below : ℕ → List X → ℕ
  below i xs = count_by (λ x. nat_lt (f x) i) xs

  -- none of them is below i
  pub none_below : (n k i : ℕ) (xs : List X) → is_in_order n (k ∷ map f xs) ≡ true → i ≤ k → below i xs ≡ 0
  none_below n k i [] h le = refl
  none_below n k i (x ∷ xs) h le =
      let up = next_up n k x xs h in
      sum_by-cons _ x xs ∙ ap (λ m. cond (nat_lt (f x) i) 1 0 + m) (none_below n (f x) i xs (and_parts _ _ h).1 (omega arith)) ∙ here (f x) (omega arith)
    where
      here : (m : ℕ) → i ≤ m → cond (nat_lt m i) 1 0 + 0 ≡ 0
      here m le = grind (arith, nat_tests)

  none_equal : (n k i : ℕ) (xs : List X) → is_in_order n (k ∷ map f xs) ≡ true → i < k → filter (λ x. f x == i) xs ≡ []
  none_equal n k i [] h lt = refl
  none_equal n k i (x ∷ xs) h lt =
      let up = next_up n k x xs h in
      let differ : (f x == i) ≡ false = apart (f x) (omega arith) in
      rw differ (none_equal n (f x) i xs (and_parts _ _ h).1 (omega arith))
    where
      apart : (m : ℕ) → i < m → (m == i) ≡ false
      apart m lt = grind (arith, nat_tests)

  pub counted : (j : ℕ) (x : X) (xs : List X) → below j (x ∷ xs) ≡ cond (nat_lt (f x) j) 1 0 + below j xs
  counted j x xs = sum_by-cons _ x xs

  skip_low : (a b c e : ℕ) (x : X) (xs : List X) → c ≡ 1 + a → e ≡ 1 + b → take (e - c) (drop c (x ∷ xs)) ≡ take (b - a) (drop a xs)
  skip_low a b c e x xs p q =
      let less : e - c ≡ b - a = omega arith in
      let one : c ≡ suc a = omega arith in
      ap (λ m. take m (drop c (x ∷ xs))) less ∙ ap (λ m. take (b - a) (drop m (x ∷ xs))) one

  take_here : (a b c e : ℕ) (x : X) (xs ys : List X) → c ≡ 0 → a ≡ 0 → e ≡ 1 + b → take (b - a) (drop a xs) ≡ ys → take (e - c) (drop c (x ∷ xs)) ≡ x ∷ ys
  take_here a b c e x xs ys p q r h =
      let more : e - c ≡ suc (b - a) = omega arith in
      ap (λ m. take m (drop c (x ∷ xs))) more ∙ ap (λ m. take (suc (b - a)) (drop m (x ∷ xs))) p ∙ ap (λ m. x ∷ take (b - a) (drop m xs)) (sym q) ∙ ap (λ zs. x ∷ zs) h

  take_none : (c e : ℕ) (xs : List X) → e ≡ 0 → take (e - c) (drop c xs) ≡ []
  take_none c e xs p = let none : e - c ≡ 0 = omega arith in ap (λ m. take m (drop c xs)) none

  low_test : (k i : ℕ) → k < i → (nat_lt k i ≡ true) × (nat_lt k (i + 1) ≡ true) × ((k == i) ≡ false)
  low_test k i lt = (grind (arith, nat_tests), grind (arith, nat_tests), grind (arith, nat_tests))

  here_test : (k i : ℕ) → k ≡ i → (nat_lt k i ≡ false) × (nat_lt k (i + 1) ≡ true) × ((k == i) ≡ true)
  here_test k i e = (grind (arith, nat_tests), grind (arith, nat_tests), grind (arith, nat_tests))

  high_test : (k i : ℕ) → i < k → (nat_lt k i ≡ false) × (nat_lt k (i + 1) ≡ false) × ((k == i) ≡ false)
  high_test k i lt = (grind (arith, nat_tests), grind (arith, nat_tests), grind (arith, nat_tests))

  -- those with the number i stand together
  pub part_equal : (n i : ℕ) (xs : List X) → is_in_order n (map f xs) ≡ true →
      take (below (i + 1) xs - below i xs) (drop (below i xs) xs) ≡ filter (λ x. f x == i) xs
  part_equal n i [] h = take_none 0 0 [] refl
  part_equal n i (x ∷ xs) h =
      let after = part_equal n i xs (tail_order n (f x) xs h) in
      elim (cases_order (f x) i) [
        | inl e ↦ here after e
        | inr (inl lt) ↦ low after lt
        | inr (inr gt) ↦ high gt
      ]
    where
      low : take (below (i + 1) xs - below i xs) (drop (below i xs) xs) ≡ filter (λ y. f y == i) xs → f x < i → take (below (i + 1) (x ∷ xs) - below i (x ∷ xs)) (drop (below i (x ∷ xs)) (x ∷ xs)) ≡ filter (λ y. f y == i) (x ∷ xs)
      low after lt =
          let t = low_test (f x) i lt in
          skip_low (below i xs) (below (i + 1) xs) _ _ x xs
          (counted i x xs ∙ ap (λ b. cond b 1 0 + below i xs) t.0)
          (counted (i + 1) x xs ∙ ap (λ b. cond b 1 0 + below (i + 1) xs) t.1)
          ∙ after
          ∙ sym (ap (λ b. cond b (x ∷ filter (λ y. f y == i) xs) (filter (λ y. f y == i) xs)) t.2)

      here : take (below (i + 1) xs - below i xs) (drop (below i xs) xs) ≡ filter (λ y. f y == i) xs → f x ≡ i → take (below (i + 1) (x ∷ xs) - below i (x ∷ xs)) (drop (below i (x ∷ xs)) (x ∷ xs)) ≡ filter (λ y. f y == i) (x ∷ xs)
      here after e =
          let t = here_test (f x) i e in
          let none : below i xs ≡ 0 = none_below n (f x) i xs h (omega arith) in
          take_here (below i xs) (below (i + 1) xs) _ _ x xs (filter (λ y. f y == i) xs)
          (counted i x xs ∙ ap (λ b. cond b 1 0 + below i xs) t.0 ∙ zero-add (below i xs) ∙ none)
          none
          (counted (i + 1) x xs ∙ ap (λ b. cond b 1 0 + below (i + 1) xs) t.1)
          after
          ∙ sym (ap (λ b. cond b (x ∷ filter (λ y. f y == i) xs) (filter (λ y. f y == i) xs)) t.2)

      high : i < f x → take (below (i + 1) (x ∷ xs) - below i (x ∷ xs)) (drop (below i (x ∷ xs)) (x ∷ xs)) ≡ filter (λ y. f y == i) (x ∷ xs)
      high gt =
          let t = high_test (f x) i gt in
          take_none (below i (x ∷ xs)) (below (i + 1) (x ∷ xs)) (x ∷ xs)
          (counted (i + 1) x xs ∙ ap (λ b. cond b 1 0 + below (i + 1) xs) t.1 ∙ zero-add (below (i + 1) xs) ∙ none_below n (f x) (i + 1) xs h (omega arith))
          ∙ sym (ap (λ b. cond b (x ∷ filter (λ y. f y == i) xs) (filter (λ y. f y == i) xs)) t.2 ∙ none_equal n (f x) i xs h gt)

  -- how many pass a test that splits the list at a place
  pub counted_at : (p : X → Bool) (xs : List X) (r : ℕ) → r ≤ length xs → ((k : ℕ) (d : X) → k < r → p (get_or xs k d) ≡ true) →
      ((k : ℕ) (d : X) → r ≤ k → k < length xs → p (get_or xs k d) ≡ false) → count_by p xs ≡ r
  counted_at p [] r le first rest = omega arith
  counted_at p (x ∷ xs) zero le first rest =
      sum_by-cons _ x xs ∙ ap (λ b. cond b 1 0 + count_by p xs) (rest 0 x (omega arith) (omega arith)) ∙ zero-add (count_by p xs)
      ∙ counted_at p xs zero (omega arith) (λ k d lt. absurd (omega arith)) (λ k d le' lt. rest (suc k) d (omega arith) (omega arith))
  counted_at p (x ∷ xs) (suc r) le first rest =
      sum_by-cons _ x xs ∙ ap (λ b. cond b 1 0 + count_by p xs) (first 0 x (omega arith))
      ∙ ap (λ m. 1 + m) (counted_at p xs r (omega arith) (λ k d lt. first (suc k) d (omega arith)) (λ k d le' lt. rest (suc k) d (omega arith) (omega arith)))
      ∙ one_more r
    where
      one_more : (r : ℕ) → 1 + r ≡ suc r
      one_more r = omega arith

  step_up : (i k : ℕ) → cond (nat_lt k i) 1 0 ≤ cond (nat_lt k (i + 1)) 1 0
  step_up i k = grind (arith, nat_tests)

  pub below_up : (i : ℕ) (xs : List X) → below i xs ≤ below (i + 1) xs
  below_up i xs = sum_by-le-sum_by _ _ xs (λ x. step_up i (f x))

  -- an element of a number below i stands before the place where those from i on begin, and another one doesn't
  pub stands_before : (n i : ℕ) (xs : List X) (k : ℕ) (x : X) → is_in_order n (map f xs) ≡ true → slice_get xs k ≡ Some x → f x < i → k < below i xs
  stands_before n i [] k x h e l = cc
  stands_before n i (y ∷ ys) zero x h e l =
      let c = counted i y ys in
      let one : cond (nat_lt (f y) i) 1 0 ≡ 1 = ap {B = ℕ} (λ b. cond b 1 0) (let same : y ≡ x = cc in lt-ltb (f y) i (subst (λ z. f z < i) (sym same) l)) in
      omega (arith, c, one)
  stands_before n i (y ∷ ys) (suc k) x h e l =
      let c = counted i y ys in
      let low = first_low n (f y) ys k x h e in
      let one : cond (nat_lt (f y) i) 1 0 ≡ 1 = ap {B = ℕ} (λ b. cond b 1 0) (lt-ltb (f y) i (omega (arith, low, l))) in
      let later = stands_before n i ys k x (tail_order n (f y) ys h) e l in
      omega (arith, c, one, later)
    where
      first_low : (n m : ℕ) (zs : List X) (k : ℕ) (x : X) → is_in_order n (m ∷ map f zs) ≡ true → slice_get zs k ≡ Some x → m ≤ f x
      first_low n m [] k x h e = cc
      first_low n m (z ∷ zs) zero x h e = let same : z ≡ x = cc in subst (λ w. m ≤ f w) same (next_up n m z zs h)
      first_low n m (z ∷ zs) (suc k) x h e = let a = next_up n m z zs h in let b : f z ≤ f x = first_low n (f z) zs k x (and_parts _ _ h).1 e in omega (arith, a, b)

  pub stands_after : (n i : ℕ) (xs : List X) (k : ℕ) (x : X) → is_in_order n (map f xs) ≡ true → slice_get xs k ≡ Some x → i ≤ f x → below i xs ≤ k
  stands_after n i [] k x h e l = omega arith
  stands_after n i (y ∷ ys) zero x h e l =
      let same : y ≡ x = cc in
      let up : i ≤ f y = subst (λ z. i ≤ f z) (sym same) l in
      let c = counted i y ys in
      let one : cond (nat_lt (f y) i) 1 0 ≡ 0 = ap {B = ℕ} (λ b. cond b 1 0) (le-ltb (f y) i up) in
      let none = none_below n (f y) i ys h up in
      omega (arith, c, one, none)
  stands_after n i (y ∷ ys) (suc k) x h e l =
      let c = counted i y ys in
      let later = stands_after n i ys k x (tail_order n (f y) ys h) e l in
      let one : cond (nat_lt (f y) i) 1 0 ≤ 1 = at_most_one (nat_lt (f y) i) in
      omega (arith, c, one, later)
    where
      at_most_one : (b : Bool) → cond b 1 0 ≤ 1
      at_most_one true = omega arith
      at_most_one false = omega arith

  pub below_within : (i : ℕ) (xs : List X) → below i xs ≤ length xs
  below_within i [] = omega arith
  below_within i (x ∷ xs) = let c = counted i x xs in let r = below_within i xs in let one = at_most_one (nat_lt (f x) i) in omega (arith, c, r, one)
    where
      at_most_one : (b : Bool) → cond b 1 0 ≤ 1
      at_most_one true = omega arith
      at_most_one false = omega arith
