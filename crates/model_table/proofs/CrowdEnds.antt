-- A crowd between any two numbers is one between a least and a greatest value of items.
use Rattle.std.proofs.Common.{◌≡◌, ◌⊎◌, inl, inr, ℕ, ◌+◌, ◌≤◌, Bool, true, false, ◌&&◌, cond, List, [], ◌∷◌, refl, sym, ap, ◌∙◌, subst, arith}
use Rattle.std.specs.Prelude.{ℤ, pos, ◌+ℤ◌, ◌-ℤ◌, ◌≤ℤ◌, int_le, int_lt}
use Rattle.std.specs.List.{list_any, count_by}
use Rattle.std.proofs.lemmas.Int.{ints}
use Rattle.std.proofs.lemmas.Bool.{and_from, true_from_ne_false, and_parts}
use Rattle.qc_model.specs.Lists.{Among}
use Rattle.qc_model.specs.Domains.{Values, least_value, greatest_value}
use Rattle.qc_model.specs.Left.{is_crowded, has_crowd}
use Rattle.qc_model.proofs.Sound.{differ, lo_of, hi_of}
use Rattle.model_table.proofs.Fits.{any_at, any_from}
use Rattle.model_table.proofs.Crowded.{count_step, ends_within}

-- what passes the one test passes the other, so as many do
count_more : {X : Type 0} (p q : X → Bool) (xs : List X) → ((x : X) → Among x xs → p x ≡ true → q x ≡ true) → count_by p xs ≤ count_by q xs
count_more p q [] f = omega arith
count_more p q (x ∷ xs) f =
    omega (arith, count_step p x xs, count_step q x xs, count_more p q xs (λ y m. f y (inr m)), by (p x) refl (q x) refl (f x (inl refl)))
  where
    by : (a : Bool) → p x ≡ a → (b : Bool) → q x ≡ b → (p x ≡ true → q x ≡ true) → cond a 1 0 ≤ cond b 1 0
    by true e true g h = omega arith
    by true e false g h = absurd (differ (sym g ∙ h e))
    by false e b g h = omega arith

none_passes : {X : Type 0} (p : X → Bool) (xs : List X) → ((x : X) → Among x xs → p x ≡ true → ⊥) → count_by p xs ≡ 0
none_passes p [] f = refl
none_passes p (x ∷ xs) f = count_step p x xs ∙ by (p x) refl (none_passes p xs (λ y m. f y (inr m)))
  where
    by : (b : Bool) → p x ≡ b → count_by p xs ≡ 0 → cond b 1 0 + count_by p xs ≡ 0
    by true e h = absurd (f x (inl refl) e)
    by false e h = omega arith

-- an item that passes, with the least number of those that do
record IsLowest {X : Type 0} (p : X → Bool) (f : X → ℤ) (xs : List X) : Type 0 where
  item : X
  is_item : Among item xs
  passes : p item ≡ true
  lowest : (x : X) → Among x xs → p x ≡ true → f item ≤ℤ f x

lowest_item : {X : Type 0} (p : X → Bool) (f : X → ℤ) (xs : List X) → ((x : X) → Among x xs → p x ≡ true → ⊥) ⊎ IsLowest p f xs
lowest_item p f [] = inl (λ x m e. m)
lowest_item {X} p f (y ∷ xs) = by (p y) refl (lowest_item p f xs)
  where
    same_passes : (x : X) → x ≡ y → p x ≡ true → p y ≡ true
    same_passes x e h = ap p (sym e) ∙ h

    reflexive : (x : X) → x ≡ y → f y ≤ℤ f x
    reflexive x e = subst (λ z. f y ≤ℤ f z) (sym e) (omega (arith, ints))

    by : (b : Bool) → p y ≡ b → ((x : X) → Among x xs → p x ≡ true → ⊥) ⊎ IsLowest p f xs → ((x : X) → Among x (y ∷ xs) → p x ≡ true → ⊥) ⊎ IsLowest p f (y ∷ xs)
    by false e (inl n) = inl (λ x m h. elim m [ inl q ↦ differ (sym e ∙ same_passes x q h) | inr t ↦ n x t h ])
    by false e (inr l) = inr (record {
      item = l.item;
      is_item = inr l.is_item;
      passes = l.passes;
      lowest = λ x m h. elim m [ inl q ↦ absurd (differ (sym e ∙ same_passes x q h)) | inr t ↦ l.lowest x t h ];
    })
    by true e (inl n) = inr (record {
      item = y;
      is_item = inl refl;
      passes = e;
      lowest = λ x m h. elim m [ inl q ↦ reflexive x q | inr t ↦ absurd (n x t h) ];
    })
    by true e (inr l) = choose (int_le (f y) (f l.item)) refl
      where
        choose : (b : Bool) → int_le (f y) (f l.item) ≡ b → ((x : X) → Among x (y ∷ xs) → p x ≡ true → ⊥) ⊎ IsLowest p f (y ∷ xs)
        choose true c = inr (record {
          item = y;
          is_item = inl refl;
          passes = e;
          lowest = λ x m h. elim m [ inl q ↦ reflexive x q | inr t ↦ below (f y) (f l.item) (f x) c (l.lowest x t h) ];
        })
          where
            below : (a b d : ℤ) → int_le a b ≡ true → b ≤ℤ d → a ≤ℤ d
            below a b d c k = omega (arith, ints)
        choose false c = inr (record {
          item = l.item;
          is_item = inr l.is_item;
          passes = l.passes;
          lowest = λ x m h. elim m [ inl q ↦ subst (λ z. f l.item ≤ℤ f z) (sym q) (above (f y) (f l.item) c) | inr t ↦ l.lowest x t h ];
        })
          where
            above : (a b : ℤ) → int_le a b ≡ false → b ≤ℤ a
            above a b c = omega (arith, ints)

least_to_greatest : (d : Values) → least_value d ≤ℤ greatest_value d
least_to_greatest [] = omega (arith, ints)
least_to_greatest (v ∷ d) = let a = lo_of v (v ∷ d) (inl refl) in let b = hi_of v (v ∷ d) (inl refl) in omega (arith, ints)

-- the range may shrink to the ends of the items within it
shrunk : (ds : List Values) (l h m n : ℤ) → is_crowded ds l h ≡ true → l ≤ℤ m → n ≤ℤ h → m ≤ℤ n → ((e : Values) → Among e ds → ends_within l h e ≡ true → (m ≤ℤ least_value e) × (greatest_value e ≤ℤ n)) → is_crowded ds m n ≡ true
shrunk ds l h m n c a b o f =
    let p = and_parts (int_le l h) (int_lt ((h -ℤ l) +ℤ pos 1) (pos (count_by (ends_within l h) ds))) c in
    fewer (count_by (ends_within l h) ds) (count_by (ends_within m n) ds) p.1
    (count_more (ends_within l h) (ends_within m n) ds (λ e k w. let q = f e k w in within e q.0 q.1))
  where
    within : (e : Values) → m ≤ℤ least_value e → greatest_value e ≤ℤ n → ends_within m n e ≡ true
    within e x y =
        and_from (int_le m (least_value e)) (int_le (greatest_value e) n) (true_from_ne_false (int_le m (least_value e)) (λ z. omega (arith, ints))) (true_from_ne_false (int_le (greatest_value e) n) (λ z. omega (arith, ints)))

    fewer : (c d : ℕ) → int_lt ((h -ℤ l) +ℤ pos 1) (pos c) ≡ true → c ≤ d → (int_le m n && int_lt ((n -ℤ m) +ℤ pos 1) (pos d)) ≡ true
    fewer c d x y =
        and_from (int_le m n) (int_lt ((n -ℤ m) +ℤ pos 1) (pos d)) (true_from_ne_false (int_le m n) (λ z. omega (arith, ints))) (true_from_ne_false (int_lt ((n -ℤ m) +ℤ pos 1) (pos d)) (λ z. omega (arith, ints)))

within_ends : (l h : ℤ) (d : Values) → ends_within l h d ≡ true → (l ≤ℤ least_value d) × (greatest_value d ≤ℤ h)
within_ends l h d e = let p = and_parts (int_le l (least_value d)) (int_le (greatest_value d) h) e in (omega (arith, ints, p.0), omega (arith, ints, p.1))

-- no item within, so no crowd
not_crowded : (ds : List Values) (l h : ℤ) → is_crowded ds l h ≡ true → ((d : Values) → Among d ds → ends_within l h d ≡ true → ⊥) → ⊥
not_crowded ds l h c n =
    let p = and_parts (int_le l h) (int_lt ((h -ℤ l) +ℤ pos 1) (pos (count_by (ends_within l h) ds))) c in
    clash (count_by (ends_within l h) ds) p.0 p.1 (none_passes (ends_within l h) ds n)
  where
    clash : (c : ℕ) → int_le l h ≡ true → int_lt ((h -ℤ l) +ℤ pos 1) (pos c) ≡ true → c ≡ 0 → ⊥
    clash c x y e = omega (arith, ints)

abbrev lowest_within : ℤ → ℤ → List Values → Type 0
lowest_within l h ds = IsLowest (ends_within l h) least_value ds

abbrev highest_within : ℤ → ℤ → List Values → Type 0
highest_within l h ds = IsLowest (ends_within l h) (λ d. pos 0 -ℤ greatest_value d) ds

crowd_between : (ds : List Values) (l h : ℤ) → is_crowded ds l h ≡ true → lowest_within l h ds → highest_within l h ds → has_crowd ds ≡ true
crowd_between ds l h c a b =
    any_from (λ d. list_any (λ e. is_crowded ds (least_value d) (greatest_value e)) ds) ds a.item a.is_item
    (any_from (λ e. is_crowded ds (least_value a.item) (greatest_value e)) ds b.item b.is_item
    (shrunk ds l h (least_value a.item) (greatest_value b.item) c (within_ends l h a.item a.passes).0 (within_ends l h b.item b.passes).1
    (joined (least_value a.item) (greatest_value a.item) (greatest_value b.item) (least_to_greatest a.item) (b.lowest a.item a.is_item a.passes))
    (λ e m w. (a.lowest e m w, turned (greatest_value b.item) (greatest_value e) (b.lowest e m w)))))
  where
    joined : (x y z : ℤ) → x ≤ℤ y → (pos 0 -ℤ z) ≤ℤ (pos 0 -ℤ y) → x ≤ℤ z
    joined x y z p q = omega (arith, ints)

    turned : (x y : ℤ) → (pos 0 -ℤ x) ≤ℤ (pos 0 -ℤ y) → y ≤ℤ x
    turned x y p = omega (arith, ints)

pub crowd_of_ends : (ds : List Values) (l h : ℤ) → is_crowded ds l h ≡ true → has_crowd ds ≡ true
crowd_of_ends ds l h c =
    elim (lowest_item (ends_within l h) least_value ds) [
      | inl n ↦ absurd (not_crowded ds l h c n)
      | inr a ↦ elim (lowest_item (ends_within l h) (λ d. pos 0 -ℤ greatest_value d) ds) [
        | inl n ↦ absurd (not_crowded ds l h c n)
        | inr b ↦ crowd_between ds l h c a b
      ]
    ]

-- and each crowd is one between some two numbers
pub crowd_has_ends : (ds : List Values) → has_crowd ds ≡ true → (l h : ℤ) × (is_crowded ds l h ≡ true)
crowd_has_ends ds e =
    let p = any_at (λ d. list_any (λ f. is_crowded ds (least_value d) (greatest_value f)) ds) ds e in
    let q = any_at (λ f. is_crowded ds (least_value p.0) (greatest_value f)) ds p.2 in
    (least_value p.0, greatest_value q.0, q.2)
