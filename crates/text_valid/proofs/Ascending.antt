-- Numbers in ascending order without repeats: what stays of the numbers as they are written.
use Rattle.std.proofs.Common.{◌≡◌, ◌∙◌, sym, ap, refl, ◌+◌, ◌≤◌, suc, Bool, true, false, ◌&&◌, cond, List, [], ◌∷◌, length, arith, ℤ}
use Rattle.std.specs.Prelude.{int_lt, int_le, ◌-ℤ◌, nat_abs, pos}
use Rattle.std.specs.List.{list_all}
use Rattle.std.specs.Ordering.{int_eq}
use Rattle.std.proofs.lemmas.Int.{ints}
use Rattle.std.proofs.lemmas.Bool.Decides.{Decides-int_eq}
use Rattle.std.proofs.lemmas.Bool.{true_from_ne_false, and_from, and_parts}
use Rattle.qc_model.specs.Domains.{is_none_left, is_ascending, least_from, greatest_from, least_value, greatest_value}
use Rattle.qc_model.specs.Valid.{width_of}
use Rattle.text_resolve.specs.Draft.{with_number, ascending}

-- one of two numbers that is neither below the other nor equal is above it
above : (n k : ℤ) → int_lt n k ≡ false → int_eq n k ≡ false → int_lt k n ≡ true
above n k p q = true_from_ne_false (int_lt k n) (λ e. apart (same e))
  where
    apart : n ≡ k → ⊥
    apart e = let t = (Decides-int_eq n k).1 e in cc

    same : int_lt k n ≡ false → n ≡ k
    same e = omega (arith, ints)

-- one more number, above the first, keeps the order
ascends_after : (ms : List ℤ) (m n : ℤ) → int_lt m n ≡ true → is_ascending (m ∷ ms) ≡ true → is_ascending (m ∷ with_number n ms) ≡ true
ascends_after [] m n lt a = and_from (int_lt m n) true lt refl
ascends_after (k ∷ ks) m n lt a =
    let t = and_parts (int_lt m k) (is_ascending (k ∷ ks)) a in
    go t.0 t.1 (int_lt n k) (int_eq n k) refl refl (λ l. ascends_after ks k n l t.1)
  where
    go : int_lt m k ≡ true → is_ascending (k ∷ ks) ≡ true → (b c : Bool) → int_lt n k ≡ b → int_eq n k ≡ c → (int_lt k n ≡ true → is_ascending (k ∷ with_number n ks) ≡ true) →
        is_ascending (m ∷ cond b (n ∷ k ∷ ks) (cond c (k ∷ ks) (k ∷ with_number n ks))) ≡ true
    go low rest true c p q later = and_from (int_lt m n) (int_lt n k && is_ascending (k ∷ ks)) lt (and_from (int_lt n k) (is_ascending (k ∷ ks)) p rest)
    go low rest false true p q later = and_from (int_lt m k) (is_ascending (k ∷ ks)) low rest
    go low rest false false p q later = and_from (int_lt m k) (is_ascending (k ∷ with_number n ks)) low (later (above n k p q))

ascends_with : (n : ℤ) (ms : List ℤ) → is_ascending ms ≡ true → is_ascending (with_number n ms) ≡ true
ascends_with n [] a = refl
ascends_with n (m ∷ ms) a = go (int_lt n m) (int_eq n m) refl refl
  where
    go : (b c : Bool) → int_lt n m ≡ b → int_eq n m ≡ c → is_ascending (cond b (n ∷ m ∷ ms) (cond c (m ∷ ms) (m ∷ with_number n ms))) ≡ true
    go true c p q = and_from (int_lt n m) (is_ascending (m ∷ ms)) p a
    go false true p q = a
    go false false p q = ascends_after ms m n (above n m p q) a

-- the numbers ascend
pub ascends : (ns : List ℤ) → is_ascending (ascending ns) ≡ true
ascends [] = refl
ascends (n ∷ ns) = ascends_with n (ascending ns) (ascends ns)

module _ (p : ℤ → Bool) where
  all_with : (n : ℤ) (ms : List ℤ) → p n ≡ true → list_all p ms ≡ true → list_all p (with_number n ms) ≡ true
  all_with n [] h a = and_from (p n) true h refl
  all_with n (m ∷ ms) h a = let t = and_parts (p m) (list_all p ms) a in go (int_lt n m) (int_eq n m) t.0 (all_with n ms h t.1)
    where
      go : (b c : Bool) → p m ≡ true → list_all p (with_number n ms) ≡ true → list_all p (cond b (n ∷ m ∷ ms) (cond c (m ∷ ms) (m ∷ with_number n ms))) ≡ true
      go true c q r = and_from (p n) (list_all p (m ∷ ms)) h a
      go false true q r = a
      go false false q r = and_from (p m) (list_all p (with_number n ms)) q r

  -- what all numbers pass, all pass afterwards
  pub all_ascending : (ns : List ℤ) → list_all p ns ≡ true → list_all p (ascending ns) ≡ true
  all_ascending [] h = refl
  all_ascending (n ∷ ns) h = let t = and_parts (p n) (list_all p ns) h in all_with n (ascending ns) t.0 (all_ascending ns t.1)

length_with : (n : ℤ) (ms : List ℤ) → length (with_number n ms) ≤ suc (length ms)
length_with n [] = omega arith
length_with n (m ∷ ms) = go (int_lt n m) (int_eq n m) (length_with n ms)
  where
    go : (b c : Bool) → length (with_number n ms) ≤ suc (length ms) → length (cond b (n ∷ m ∷ ms) (cond c (m ∷ ms) (m ∷ with_number n ms))) ≤ suc (length (m ∷ ms))
    go true c h = omega arith
    go false true h = omega arith
    go false false h = omega arith

-- they are no more than were written
pub length_ascending : (ns : List ℤ) → length (ascending ns) ≤ length ns
length_ascending [] = omega arith
length_ascending (n ∷ ns) = let a = length_with n (ascending ns) in let b = length_ascending ns in omega arith

some_with : (n : ℤ) (ms : List ℤ) → is_none_left (with_number n ms) ≡ false
some_with n [] = refl
some_with n (m ∷ ms) = go (int_lt n m) (int_eq n m)
  where
    go : (b c : Bool) → is_none_left (cond b (n ∷ m ∷ ms) (cond c (m ∷ ms) (m ∷ with_number n ms))) ≡ false
    go true c = refl
    go false true = refl
    go false false = refl

-- of some numbers some are left
pub some_ascending : (n : ℤ) (ns : List ℤ) → is_none_left (ascending (n ∷ ns)) ≡ false
some_ascending n ns = some_with n (ascending ns)

-- the best of numbers, where the better of two doesn't depend on their order
module _ (pick : ℤ → ℤ → ℤ) (turn : (a b : ℤ) → pick a b ≡ pick b a) (group : (a b c : ℤ) → pick (pick a b) c ≡ pick a (pick b c)) (again : (a b : ℤ) → int_eq a b ≡ true → pick a b ≡ b) where
  abbrev best_from : ℤ → List ℤ → ℤ
  best_from n [] = n
  best_from n (v ∷ vs) = best_from (pick n v) vs

  abbrev best : ℤ → List ℤ → ℤ
  best d [] = d
  best d (v ∷ vs) = best_from v vs

  -- one number more before the first
  best_more : (a b : ℤ) (vs : List ℤ) → best_from (pick a b) vs ≡ pick a (best_from b vs)
  best_more a b [] = refl
  best_more a b (v ∷ vs) = ap (λ z. best_from z vs) (group a b v) ∙ best_more a (pick b v) vs

  absorb : (n m k : ℤ) → int_eq n k ≡ true → pick m k ≡ pick n (pick m k)
  absorb n m k e = ap (pick m) (sym (again n k e)) ∙ sym (group m n k) ∙ ap (λ z. pick z k) (turn m n) ∙ group n m k

  -- one number more at its place
  best_with : (ms : List ℤ) (m n : ℤ) → best_from m (with_number n ms) ≡ pick n (best_from m ms)
  best_with [] m n = turn m n
  best_with (k ∷ ks) m n = go (int_lt n k) (int_eq n k) refl (best_with ks (pick m k) n)
    where
      go : (b c : Bool) → int_eq n k ≡ c → best_from (pick m k) (with_number n ks) ≡ pick n (best_from (pick m k) ks) →
          best_from m (cond b (n ∷ k ∷ ks) (cond c (k ∷ ks) (k ∷ with_number n ks))) ≡ pick n (best_from (pick m k) ks)
      go true c q later = ap (λ z. best_from z ks) (ap (λ z. pick z k) (turn m n) ∙ group n m k) ∙ best_more n (pick m k) ks
      go false true q later = ap (λ z. best_from z ks) (absorb n m k q) ∙ best_more n (pick m k) ks
      go false false q later = later

  best_added : (d n : ℤ) (xs : List ℤ) → is_none_left xs ≡ false → best d (with_number n xs) ≡ pick n (best d xs)
  best_added d n [] h = absurd cc
  best_added d n (m ∷ ms) h = go (int_lt n m) (int_eq n m) refl
    where
      go : (b c : Bool) → int_eq n m ≡ c → best d (cond b (n ∷ m ∷ ms) (cond c (m ∷ ms) (m ∷ with_number n ms))) ≡ pick n (best_from m ms)
      go true c q = best_more n m ms
      go false true q = ap (λ z. best_from z ms) (sym (again n m q)) ∙ best_more n m ms
      go false false q = best_with ms m n

  best_ascending : (d : ℤ) (ns : List ℤ) → best d (ascending ns) ≡ best d ns
  best_ascending d [] = refl
  best_ascending d (n ∷ []) = refl
  best_ascending d (n ∷ m ∷ ms) = best_added d n (ascending (m ∷ ms)) (some_ascending m ms) ∙ ap (pick n) (best_ascending d (m ∷ ms)) ∙ sym (best_more n m ms)

abbrev lesser : ℤ → ℤ → ℤ
lesser n v = cond (int_lt v n) v n

abbrev greater : ℤ → ℤ → ℤ
greater n v = cond (int_lt n v) v n

lesser_turn : (a b : ℤ) → lesser a b ≡ lesser b a
lesser_turn a b = grind (arith, ints)

lesser_group : (a b c : ℤ) → lesser (lesser a b) c ≡ lesser a (lesser b c)
lesser_group a b c = grind (arith, ints)

lesser_again : (a b : ℤ) → int_eq a b ≡ true → lesser a b ≡ b
lesser_again a b e = let same = (Decides-int_eq a b).0 e in grind (arith, ints)

greater_turn : (a b : ℤ) → greater a b ≡ greater b a
greater_turn a b = grind (arith, ints)

greater_group : (a b c : ℤ) → greater (greater a b) c ≡ greater a (greater b c)
greater_group a b c = grind (arith, ints)

greater_again : (a b : ℤ) → int_eq a b ≡ true → greater a b ≡ b
greater_again a b e = let same = (Decides-int_eq a b).0 e in grind (arith, ints)

abbrev least_of : ℤ → List ℤ → ℤ
least_of = best lesser lesser_turn lesser_group lesser_again

abbrev greatest_of : ℤ → List ℤ → ℤ
greatest_of = best greater greater_turn greater_group greater_again

least_is : (n : ℤ) (vs : List ℤ) → least_from n vs ≡ best_from lesser lesser_turn lesser_group lesser_again n vs
least_is n [] = refl
least_is n (v ∷ vs) = least_is (lesser n v) vs

greatest_is : (n : ℤ) (vs : List ℤ) → greatest_from n vs ≡ best_from greater greater_turn greater_group greater_again n vs
greatest_is n [] = refl
greatest_is n (v ∷ vs) = greatest_is (greater n v) vs

least_best : (vs : List ℤ) → least_value vs ≡ least_of (pos 0) vs
least_best [] = refl
least_best (v ∷ vs) = least_is v vs

greatest_best : (vs : List ℤ) → greatest_value vs ≡ greatest_of (pos 0) vs
greatest_best [] = refl
greatest_best (v ∷ vs) = greatest_is v vs

-- the least number stays
pub least_ascending : (ns : List ℤ) → least_value (ascending ns) ≡ least_value ns
least_ascending ns = least_best (ascending ns) ∙ best_ascending lesser lesser_turn lesser_group lesser_again (pos 0) ns ∙ sym (least_best ns)

-- the greatest number stays
pub greatest_ascending : (ns : List ℤ) → greatest_value (ascending ns) ≡ greatest_value ns
greatest_ascending ns = greatest_best (ascending ns) ∙ best_ascending greater greater_turn greater_group greater_again (pos 0) ns ∙ sym (greatest_best ns)

-- the order of numbers, and repeats, don't change their width
pub width_ascending : (ns : List ℤ) → width_of (ascending ns) ≡ width_of ns
width_ascending ns =
    ap (λ z. nat_abs (z -ℤ least_value (ascending ns)) + 1) (greatest_ascending ns) ∙ ap (λ z. nat_abs (greatest_value ns -ℤ z) + 1) (least_ascending ns)

-- the least and the greatest of numbers pass what all pass
least_passes : (p : ℤ → Bool) (vs : List ℤ) (n : ℤ) → p n ≡ true → list_all p vs ≡ true → p (least_from n vs) ≡ true
least_passes p [] n h a = h
least_passes p (v ∷ vs) n h a = let t = and_parts (p v) (list_all p vs) a in least_passes p vs (lesser n v) (pick (int_lt v n) t.0) t.1
  where
    pick : (b : Bool) → p v ≡ true → p (cond b v n) ≡ true
    pick true k = k
    pick false k = h

greatest_passes : (p : ℤ → Bool) (vs : List ℤ) (n : ℤ) → p n ≡ true → list_all p vs ≡ true → p (greatest_from n vs) ≡ true
greatest_passes p [] n h a = h
greatest_passes p (v ∷ vs) n h a = let t = and_parts (p v) (list_all p vs) a in greatest_passes p vs (greater n v) (pick (int_lt n v) t.0) t.1
  where
    pick : (b : Bool) → p v ≡ true → p (cond b v n) ≡ true
    pick true k = k
    pick false k = h

-- the least is at most the first
least_low : (vs : List ℤ) (n m : ℤ) → int_le n m ≡ true → int_le (least_from n vs) m ≡ true
least_low [] n m h = h
least_low (v ∷ vs) n m h = least_low vs (lesser n v) m (lower n v m h)
  where
    lower : (n v m : ℤ) → int_le n m ≡ true → int_le (lesser n v) m ≡ true
    lower n v m h = grind (arith, ints)

-- the greatest is at least the first
greatest_high : (vs : List ℤ) (n m : ℤ) → int_le m n ≡ true → int_le m (greatest_from n vs) ≡ true
greatest_high [] n m h = h
greatest_high (v ∷ vs) n m h = greatest_high vs (greater n v) m (higher n v m h)
  where
    higher : (n v m : ℤ) → int_le m n ≡ true → int_le m (greater n v) ≡ true
    higher n v m h = grind (arith, ints)

-- the ends of some numbers
pub record AreEnds (p : ℤ → Bool) (ns : List ℤ) : Type 0 where
  pub least : p (least_value ns) ≡ true
  pub greatest : p (greatest_value ns) ≡ true
  pub ordered : int_le (least_value ns) (greatest_value ns) ≡ true

-- the ends of some numbers pass what all numbers pass, and stand in order
pub ends_of : (p : ℤ → Bool) (ns : List ℤ) → is_none_left ns ≡ false → list_all p ns ≡ true → AreEnds p ns
ends_of p [] h a = absurd cc
ends_of p (v ∷ vs) h a =
    let t = and_parts (p v) (list_all p vs) a in
    record {
      least = least_passes p vs v t.0 t.1;
      greatest = greatest_passes p vs v t.0 t.1;
      ordered = greatest_high vs v (least_from v vs) (least_low vs v v (itself v));
    }
  where
    itself : (v : ℤ) → int_le v v ≡ true
    itself v = grind (arith, ints)
