-- Lists in the order of a number: those whose numbers lie between two stand together.
use Rattle.std.proofs.Common.{◌≡◌, ◌∙◌, sym, ap, refl, ◌<◌, ◌≤◌, ◌+◌, ◌-◌, ℕ, zero, suc, Bool, true, false, ◌&&◌, List, [], ◌∷◌, length, map, filter, take, drop, cond, arith, zero-add, inl, inr, slice_get, Option, Some, None}
use Rattle.std.specs.Prelude.{nat_lt, nat_le, ◌==◌}
use Rattle.std.proofs.lemmas.Bool.{cases_order, and_parts}
use Rattle.std.proofs.lemmas.Bool.Decides.{nat_tests}
use Rattle.qc_model.specs.Valid.{IsValid, is_in_order}
use Rattle.qc_model.specs.Content.{Game, Rule}
use Rattle.qc_model.specs.declared.problem.Variable.{Variable}
use Rattle.qc_model.specs.Game.{before}
use Rattle.qc_model.proofs.InOrder.{tail_order, next_up, below, none_below, counted, stands_before, stands_after, below_within}
use Rattle.model_levels.specs.Spans.{constraints_before, is_between, is_rule_within, IsSpanOf}

module _ {X : Type 0} (f : X → ℕ) where
  abbrev within : ℕ → ℕ → X → Bool
  within i j x = nat_le i (f x) && nat_lt (f x) j

  none_within : (n k i j : ℕ) (xs : List X) → is_in_order n (k ∷ map f xs) ≡ true → j ≤ k → filter (within i j) xs ≡ []
  none_within n k i j [] h le = refl
  none_within n k i j (x ∷ xs) h le =
      let up = next_up f n k x xs h in
      ap (λ b. cond b (x ∷ filter (within i j) xs) (filter (within i j) xs)) (above (f x) (omega (arith, up, le)))
      ∙ none_within n (f x) i j xs (and_parts _ _ h).1 (omega (arith, up, le))
    where
      above : (m : ℕ) → j ≤ m → (nat_le i m && nat_lt m j) ≡ false
      above m le = grind (arith, nat_tests)

  skip_low : (a b c e : ℕ) (x : X) (xs : List X) → c ≡ 1 + a → e ≡ 1 + b → take (e - c) (drop c (x ∷ xs)) ≡ take (b - a) (drop a xs)
  skip_low a b c e x xs p q =
      let less : e - c ≡ b - a = omega arith in
      let one : c ≡ suc a = omega arith in
      ap (λ m. take m (drop c (x ∷ xs))) less ∙ ap (λ m. take (b - a) (drop m (x ∷ xs))) one

  take_here : (a b c e : ℕ) (x : X) (xs ys : List X) → c ≡ 0 → a ≡ 0 → e ≡ 1 + b → take (b - a) (drop a xs) ≡ ys → take (e - c) (drop c (x ∷ xs)) ≡ x ∷ ys
  take_here a b c e x xs ys p q r h =
      let more : e - c ≡ suc (b - a) = omega arith in
      ap (λ m. take m (drop c (x ∷ xs))) more ∙ ap (λ m. take (suc (b - a)) (drop m (x ∷ xs))) p ∙ ap (λ m. x ∷ take (b - a) (drop m xs)) (sym q) ∙ ap (λ zs. x ∷ zs) h

  take_none : (c e : ℕ) (xs : List X) → e ≡ 0 → take (e - c) (drop c xs) ≡ []
  take_none c e xs p = let none : e - c ≡ 0 = omega arith in ap (λ m. take m (drop c xs)) none

  is_low : (k i j : ℕ) → i ≤ j → k < i → (nat_lt k i ≡ true) × (nat_lt k j ≡ true) × ((nat_le i k && nat_lt k j) ≡ false)
  is_low k i j le lt = (grind (arith, nat_tests), grind (arith, nat_tests), grind (arith, nat_tests))

  is_here : (k i j : ℕ) → i ≤ k → k < j → (nat_lt k i ≡ false) × (nat_lt k j ≡ true) × ((nat_le i k && nat_lt k j) ≡ true)
  is_here k i j le lt = (grind (arith, nat_tests), grind (arith, nat_tests), grind (arith, nat_tests))

  is_high : (k i j : ℕ) → j ≤ k → (nat_lt k j ≡ false) × ((nat_le i k && nat_lt k j) ≡ false)
  is_high k i j le = (grind (arith, nat_tests), grind (arith, nat_tests))

  data Place (k i j : ℕ) : Type 0 where
    low : k < i → Place k i j
    here : i ≤ k → k < j → Place k i j
    high : j ≤ k → Place k i j

  place_of : (k i j : ℕ) → Place k i j
  place_of k i j = elim (cases_order k i) [
    | inl e ↦ elim (cases_order k j) [ inl d ↦ high (omega arith) | inr (inl lt) ↦ here (omega arith) lt | inr (inr gt) ↦ high (omega arith) ]
    | inr (inl lt) ↦ low lt
    | inr (inr gt) ↦ elim (cases_order k j) [ inl d ↦ high (omega arith) | inr (inl lt) ↦ here (omega arith) lt | inr (inr gt) ↦ high (omega arith) ]
  ]

  pub part_within : (n i j : ℕ) (xs : List X) → i ≤ j → is_in_order n (map f xs) ≡ true →
      take (below f j xs - below f i xs) (drop (below f i xs) xs) ≡ filter (within i j) xs
  part_within n i j [] le h = take_none 0 0 [] refl
  part_within n i j (x ∷ xs) le h = by (place_of (f x) i j) (part_within n i j xs le (tail_order f n (f x) xs h))
    where
      by : Place (f x) i j → take (below f j xs - below f i xs) (drop (below f i xs) xs) ≡ filter (within i j) xs →
          take (below f j (x ∷ xs) - below f i (x ∷ xs)) (drop (below f i (x ∷ xs)) (x ∷ xs)) ≡ filter (within i j) (x ∷ xs)
      by (low lt) after =
          let t = is_low (f x) i j le lt in
          skip_low (below f i xs) (below f j xs) _ _ x xs
          (counted f i x xs ∙ ap (λ b. cond b 1 0 + below f i xs) t.0)
          (counted f j x xs ∙ ap (λ b. cond b 1 0 + below f j xs) t.1)
          ∙ after
          ∙ sym (ap (λ b. cond b (x ∷ filter (within i j) xs) (filter (within i j) xs)) t.2)
      by (here up lt) after =
          let t = is_here (f x) i j up lt in
          let none : below f i xs ≡ 0 = none_below f n (f x) i xs h up in
          take_here (below f i xs) (below f j xs) _ _ x xs (filter (within i j) xs)
          (counted f i x xs ∙ ap (λ b. cond b 1 0 + below f i xs) t.0 ∙ zero-add (below f i xs) ∙ none)
          none
          (counted f j x xs ∙ ap (λ b. cond b 1 0 + below f j xs) t.1)
          after
          ∙ sym (ap (λ b. cond b (x ∷ filter (within i j) xs) (filter (within i j) xs)) t.2)
      by (high gt) after =
          let t = is_high (f x) i j gt in
          take_none (below f i (x ∷ xs)) (below f j (x ∷ xs)) (x ∷ xs)
          (counted f j x xs ∙ ap (λ b. cond b 1 0 + below f j xs) t.0 ∙ zero-add (below f j xs) ∙ none_below f n (f x) j xs h gt)
          ∙ sym (ap (λ b. cond b (x ∷ filter (within i j) xs) (filter (within i j) xs)) t.1 ∙ none_within n (f x) i j xs h gt)

  -- one number more
  pub below_next : (i : ℕ) (xs : List X) → below f (i + 1) xs ≡ below f i xs + length (filter (λ x. f x == i) xs)
  below_next i [] = refl
  below_next i (x ∷ xs) = counted f (i + 1) x xs ∙ (one (f x) (below f i xs) (below f (i + 1) xs) (below_next i xs) ∙ ap (λ m. m + length (filter (λ y. f y == i) (x ∷ xs))) (sym (counted f i x xs)))
    where
      more : (b : Bool) → length (cond b (x ∷ filter (λ y. f y == i) xs) (filter (λ y. f y == i) xs)) ≡ cond b 1 0 + length (filter (λ y. f y == i) xs)
      more true = omega arith
      more false = omega arith

      ones : (k : ℕ) → cond (nat_lt k (i + 1)) 1 0 ≡ cond (nat_lt k i) 1 0 + cond (k == i) 1 0
      ones k = grind (arith, nat_tests)

      one : (k b c : ℕ) → c ≡ b + length (filter (λ y. f y == i) xs) → cond (nat_lt k (i + 1)) 1 0 + c ≡ (cond (nat_lt k i) 1 0 + b) + length (cond (k == i) (x ∷ filter (λ y. f y == i) xs) (filter (λ y. f y == i) xs))
      one k b c e = let m = more (k == i) in let o = ones k in omega (arith, m, o, e)

  pub below_zero : (xs : List X) → below f 0 xs ≡ 0
  below_zero [] = refl
  below_zero (x ∷ xs) = counted f 0 x xs ∙ (ap (λ m. cond (nat_lt (f x) 0) 1 0 + m) (below_zero xs) ∙ never (f x))
    where
      never : (k : ℕ) → cond (nat_lt k 0) 1 0 + 0 ≡ 0
      never k = grind (arith, nat_tests)

  pub below_rises : (i j : ℕ) (xs : List X) → i ≤ j → below f i xs ≤ below f j xs
  below_rises i j [] le = omega arith
  below_rises i j (x ∷ xs) le = let a = counted f i x xs in let b = counted f j x xs in let r = below_rises i j xs le in let s = up (f x) in omega (arith, a, b, r, s)
    where
      up : (k : ℕ) → cond (nat_lt k i) 1 0 ≤ cond (nat_lt k j) 1 0
      up k = grind (arith, nat_tests)

  from_same : (a k i o : ℕ) → (i ≤ o → a ≤ k) → (o < i → k < a) → nat_le a k ≡ nat_le i o
  from_same a k i o p q = elim (cases_order o i) [
    | inl e ↦ (let r = p (omega arith) in grind (arith, nat_tests))
    | inr (inl lt) ↦ (let r = q lt in grind (arith, nat_tests))
    | inr (inr gt) ↦ (let r = p (omega arith) in grind (arith, nat_tests))
  ]

  to_same : (b k j o : ℕ) → (o < j → k < b) → (j ≤ o → b ≤ k) → nat_lt k b ≡ nat_lt o j
  to_same b k j o p q = elim (cases_order o j) [
    | inl e ↦ (let r = q (omega arith) in grind (arith, nat_tests))
    | inr (inl lt) ↦ (let r = p lt in grind (arith, nat_tests))
    | inr (inr gt) ↦ (let r = q (omega arith) in grind (arith, nat_tests))
  ]

  pub place_within : (n i j : ℕ) (xs : List X) (k : ℕ) (x : X) → is_in_order n (map f xs) ≡ true → slice_get xs k ≡ Some x →
      (nat_le (below f i xs) k && nat_lt k (below f j xs)) ≡ within i j x
  place_within n i j xs k x h e =
      ap (λ b. b && nat_lt k (below f j xs)) (from_same (below f i xs) k i (f x) (λ l. stands_after f n i xs k x h e l) (λ l. stands_before f n i xs k x h e l))
      ∙ ap (λ b. nat_le i (f x) && b) (to_same (below f j xs) k j (f x) (λ l. stands_before f n j xs k x h e l) (λ l. stands_after f n j xs k x h e l))

  none_there : (xs : List X) (k : ℕ) → slice_get xs k ≡ None → length xs ≤ k
  none_there [] k e = omega arith
  none_there (x ∷ xs) zero e = cc
  none_there (x ∷ xs) (suc k) e = let r = none_there xs k e in omega (arith, r)

  pub past_all : (i j : ℕ) (xs : List X) (k : ℕ) → slice_get xs k ≡ None → (nat_le (below f i xs) k && nat_lt k (below f j xs)) ≡ false
  past_all i j xs k e = by (below f i xs) (below f j xs) (below_within f j xs) (none_there xs k e)
    where
      by : (a b : ℕ) → b ≤ length xs → length xs ≤ k → (nat_le a k && nat_lt k b) ≡ false
      by a b l m = grind (arith, nat_tests)

-- all numbers are below the one that bounds them
module _ {X : Type 0} (f : X → ℕ) where
  head_low : (n k : ℕ) (xs : List X) → is_in_order n (k ∷ map f xs) ≡ true → k < n
  head_low n k [] h = below_true k n h
    where
      below_true : (k n : ℕ) → nat_lt k n ≡ true → k < n
      below_true k n e = grind (arith, nat_tests)
  head_low n k (x ∷ xs) h = let up = next_up f n k x xs h in let low = head_low n (f x) xs (and_parts (nat_le k (f x)) (is_in_order n (f x ∷ map f xs)) h).1 in omega (arith, up, low)

  pub all_below : (n : ℕ) (xs : List X) → is_in_order n (map f xs) ≡ true → below f n xs ≡ length xs
  all_below n [] h = refl
  all_below n (x ∷ xs) h =
      let rest = all_below n xs (tail_order f n (f x) xs h) in
      let here = one (f x) (head_low n (f x) xs h) in
      let c = counted f n x xs in
      omega (arith, c, here, rest)
    where
      one : (k : ℕ) → k < n → ◌≡◌ {A = ℕ} (cond (nat_lt k n) 1 0) 1
      one k h = grind (arith, nat_tests)

-- every variable stands before the goal
pub variables_all : (g : Game) → IsValid g → before g (length g.scopes) ≡ length g.variables
variables_all g valid = all_below (λ (x : Variable). x.scope.0) (length g.scopes) g.variables valid.variable_order

-- the places of a valid problem are spans
pub span_is : (g : Game) (i stop : ℕ) → IsValid g → i ≤ stop → IsSpanOf g i stop (constraints_before g i) (constraints_before g stop)
span_is g i stop valid le = record {
  slice = part_within (λ (c : Rule). c.owner.0) (length g.scopes + 1) i stop g.constraints le valid.constraint_order;
  numbers = λ k. by k (slice_get g.constraints k) refl;
  rises = below_rises (λ (c : Rule). c.owner.0) i stop g.constraints le;
  within = below_within (λ (c : Rule). c.owner.0) stop g.constraints;
}
  where
    by : (k : ℕ) (o : Option Rule) → slice_get g.constraints k ≡ o → is_between (constraints_before g i) (constraints_before g stop) k ≡ is_rule_within i stop o
    by k None e = past_all (λ (c : Rule). c.owner.0) i stop g.constraints k e
    by k (Some c) e = place_within (λ (c : Rule). c.owner.0) (length g.scopes + 1) i stop g.constraints k c valid.constraint_order e
