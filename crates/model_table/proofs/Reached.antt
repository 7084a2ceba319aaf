-- The ends of the ranges of products, quotients and absolute values are reached.
use Rattle.std.proofs.Common.{◌≡◌, inl, inr, ℕ, Bool, true, false, ◌&&◌, cond, List, [], ◌∷◌, flat_map, map, refl, sym, ◌∙◌, subst, arith}
use Rattle.std.specs.Prelude.{ℤ, pos, ◌+ℤ◌, ◌-ℤ◌, ◌*ℤ◌, ◌≤ℤ◌, ◌<ℤ◌, int_lt, int_le, int_div, int_rem}
use Rattle.std.specs.Int.{int_max}
use Rattle.std.specs.List.{count_by}
use Rattle.std.proofs.lemmas.Int.{ints}
use Rattle.std.proofs.lemmas.Bool.{and_from, true_from_ne_false, false_from_ne_true}
use Rattle.qc_model.specs.Lists.{Among}
use Rattle.qc_model.specs.Domains.{is_within}
use Rattle.qc_model.specs.Ranges.{Range, range_of, range_from, range_of_list, product, absolute, absolute_range, quotient_range, remainder_range}
use Rattle.qc_model.specs.Holds.{all_differ}
use Rattle.qc_model.specs.Left.{is_zero_range}
use Rattle.qc_model.proofs.Sound.{InRange, differ}
use Rattle.qc_model.proofs.Moves.{of_flat_map}
use Rattle.model_table.specs.Spans.{LiesWithin, IsSpan, IsProductOf, IsQuotientOf, IsAbsoluteOf, ReachesEnds}
use Rattle.model_table.proofs.Products.{times_in, corners}
use Rattle.model_table.proofs.Quotients.{quotient_in, divisor_ends, quotients_by}
use Rattle.model_table.proofs.Remainders.{remainder_in}
use Rattle.model_table.proofs.Compared.{absolute_in}
use Rattle.model_table.proofs.InsideQuotients.{ends_divide, no_divisor}
use Rattle.model_table.proofs.Crowded.{count_step, ends_within, crowd_repeats}
use Rattle.model_table.proofs.Singles.{alone, lie_alone}

in_range : (n : ℤ) (r : Range) → LiesWithin n r → InRange n r
in_range n r w = record { low = w.low; high = w.high }

lies : (n : ℤ) (r : Range) → InRange n r → LiesWithin n r
lies n r i = record { low = i.low; high = i.high }

pub products_lie : (a b : Range) (u v : ℤ) → LiesWithin u a → LiesWithin v b → LiesWithin (u *ℤ v) (product a b)
products_lie a b u v h k = lies (u *ℤ v) (product a b) (times_in u v a b (in_range u a h) (in_range v b k))

pub quotients_lie : (a b : Range) (u v : ℤ) → LiesWithin u a → LiesWithin v b → (v ≡ pos 0 → ⊥) → LiesWithin (int_div u v) (quotient_range a b)
quotients_lie a b u v h k n = lies (int_div u v) (quotient_range a b) (quotient_in u v a b n (in_range u a h) (in_range v b k))

pub remainders_lie : (a b : Range) (u v : ℤ) → LiesWithin u a → LiesWithin v b → (v ≡ pos 0 → ⊥) → LiesWithin (int_rem u v) (remainder_range a b)
remainders_lie a b u v h k n = lies (int_rem u v) (remainder_range a b) (remainder_in u v a b n (in_range u a h) (in_range v b k))

pub absolutes_lie : (a : Range) (u : ℤ) → LiesWithin u a → LiesWithin (absolute u) (absolute_range a)
absolutes_lie a u h = lies (absolute u) (absolute_range a) (absolute_in u a (in_range u a h))

-- the ends of the least range of a list are in the list
low_among : (n : ℤ) (ns : List ℤ) → Among (range_from n ns).from (n ∷ ns)
low_among n [] = inl refl
low_among n (m ∷ ms) = by (range_from m ms).from (int_lt (range_from m ms).from n) (low_among m ms)
  where
    by : (x : ℤ) (b : Bool) → Among x (m ∷ ms) → Among (cond b x n) (n ∷ m ∷ ms)
    by x true h = inr h
    by x false h = inl refl

high_among : (n : ℤ) (ns : List ℤ) → Among (range_from n ns).to (n ∷ ns)
high_among n [] = inl refl
high_among n (m ∷ ms) = by (range_from m ms).to (int_lt (range_from m ms).to n) (high_among m ms)
  where
    by : (x : ℤ) (b : Bool) → Among x (m ∷ ms) → Among (cond b n x) (n ∷ m ∷ ms)
    by x true h = inl refl
    by x false h = inr h

own_low : (r : Range) → IsSpan r → LiesWithin r.from r
own_low r s = record { low = omega (arith, ints); high = s }

own_high : (r : Range) → IsSpan r → LiesWithin r.to r
own_high r s = record { low = s; high = omega (arith, ints) }

corner_is_product : (a b : Range) → IsSpan a → IsSpan b → (n : ℤ) → Among n (corners a b) → IsProductOf a b n
corner_is_product a b s t n (inl e) = (a.from, b.from, own_low a s, own_low b t, e)
corner_is_product a b s t n (inr (inl e)) = (a.from, b.to, own_low a s, own_high b t, e)
corner_is_product a b s t n (inr (inr (inl e))) = (a.to, b.from, own_high a s, own_low b t, e)
corner_is_product a b s t n (inr (inr (inr (inl e)))) = (a.to, b.to, own_high a s, own_high b t, e)
corner_is_product a b s t n (inr (inr (inr (inr h)))) = absurd h

pub products_reach : (a b : Range) → IsSpan a → IsSpan b → ReachesEnds (IsProductOf a b) (product a b)
products_reach a b s t =
    let rest = (a.from *ℤ b.to) ∷ (a.to *ℤ b.from) ∷ (a.to *ℤ b.to) ∷ [] in
    (corner_is_product a b s t (product a b).from (low_among (a.from *ℤ b.from) rest), corner_is_product a b s t (product a b).to (high_among (a.from *ℤ b.from) rest))

-- of a list that isn't empty
ends_among : (ns : List ℤ) → (ns ≡ [] → ⊥) → Among (range_of_list ns).from ns × Among (range_of_list ns).to ns
ends_among [] n = absurd (n refl)
ends_among (m ∷ ms) n = (low_among m ms, high_among m ms)

listed_is_quotient : (a b : Range) → IsSpan a → IsSpan b → (n : ℤ) → Among n (flat_map (quotients_by a) (divisor_ends b)) → IsQuotientOf a b n
listed_is_quotient a b s t n h =
    let r = of_flat_map (quotients_by a) n (divisor_ends b) h in
    let k = ends_divide r.0 b t r.1 in
    let l = lies r.0 b k.member in
    elim r.2 [
      | inl e ↦ (a.from, r.0, own_low a s, l, k.not_zero, e)
      | inr m ↦ elim m [ inl e ↦ (a.to, r.0, own_high a s, l, k.not_zero, e) | inr z ↦ absurd z ]
    ]

some_quotient : (a b : Range) → IsSpan b → is_zero_range b ≡ false → flat_map (quotients_by a) (divisor_ends b) ≡ [] → ⊥
some_quotient a b t z e = by (divisor_ends b) refl e
  where
    nothing : (x : ℤ) (xs : List ℤ) → x ∷ xs ≡ [] → ⊥
    nothing x xs e = cc

    by : (ds : List ℤ) → divisor_ends b ≡ ds → flat_map (quotients_by a) ds ≡ [] → ⊥
    by [] q f = differ (sym z ∙ no_divisor b t q)
    by (d ∷ ds) q f = nothing (int_div a.from d) (int_div a.to d ∷ flat_map (quotients_by a) ds) f

pub quotients_reach : (a b : Range) → IsSpan a → IsSpan b → is_zero_range b ≡ false → ReachesEnds (IsQuotientOf a b) (quotient_range a b)
quotients_reach a b s t z =
    let r = ends_among (flat_map (quotients_by a) (divisor_ends b)) (some_quotient a b t z) in
    (listed_is_quotient a b s t (quotient_range a b).from r.0, listed_is_quotient a b s t (quotient_range a b).to r.1)

pub absolutes_reach : (a : Range) → IsSpan a → ReachesEnds (IsAbsoluteOf a) (absolute_range a)
absolutes_reach a s = by (int_le (pos 0) a.from) refl (int_le a.to (pos 0)) refl
  where
    higher : (b : Bool) → int_lt a.to (absolute a.from) ≡ b → int_le (pos 0) a.to ≡ true → IsAbsoluteOf a (cond b (absolute a.from) a.to)
    higher true e f = (a.from, own_low a s, refl)
    higher false e f = (a.to, own_high a s, omega (arith, ints))

    by : (p : Bool) → int_le (pos 0) a.from ≡ p → (q : Bool) → int_le a.to (pos 0) ≡ q → ReachesEnds (IsAbsoluteOf a) (cond p a (cond q (range_of (absolute a.to) (absolute a.from)) (range_of (pos 0) (int_max (absolute a.from) a.to))))
    by true e q f = ((a.from, own_low a s, omega (arith, ints)), (a.to, own_high a s, omega (arith, ints, s)))
    by false e true f = ((a.to, own_high a s, refl), (a.from, own_low a s, refl))
    by false e false f = ((pos 0, record { low = omega (arith, ints); high = omega (arith, ints) }, refl), higher (int_lt a.to (absolute a.from)) refl (true_from_ne_false (int_le (pos 0) a.to) (λ n. omega (arith, ints))))

-- how many numbers lie within is how many single values do
count_within_alone : (l h : ℤ) (vs : List ℤ) → count_by (ends_within l h) (map alone vs) ≡ count_by (is_within l h) vs
count_within_alone l h [] = refl
count_within_alone l h (v ∷ vs) =
    omega (arith, count_step (ends_within l h) (alone v) (map alone vs), count_step (is_within l h) v vs, count_within_alone l h vs)

pub crowds_repeat : (l h : ℤ) (vs : List ℤ) → l ≤ℤ h → ((h -ℤ l) +ℤ pos 1) <ℤ pos (count_by (is_within l h) vs) → all_differ vs ≡ false
crowds_repeat l h vs o c =
    false_from_ne_true (all_differ vs)
    (crowd_repeats l h vs (map alone vs) (lie_alone vs)
    (subst (λ (n : ℕ). is_crowd n ≡ true) (sym (count_within_alone l h vs)) (crowd (count_by (is_within l h) vs) c)))
  where
    is_crowd : ℕ → Bool
    is_crowd n = int_le l h && int_lt ((h -ℤ l) +ℤ pos 1) (pos n)

    crowd : (n : ℕ) → ((h -ℤ l) +ℤ pos 1) <ℤ pos n → is_crowd n ≡ true
    crowd n c = and_from (int_le l h) (int_lt ((h -ℤ l) +ℤ pos 1) (pos n)) (true_from_ne_false (int_le l h) (λ z. omega (arith, ints))) (true_from_ne_false (int_lt ((h -ℤ l) +ℤ pos 1) (pos n)) (λ z. omega (arith, ints)))
