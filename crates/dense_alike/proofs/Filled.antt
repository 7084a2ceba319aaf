-- Ascending values of which there are as many as numbers from the least to the greatest.
use Rattle.std.proofs.Common.{◌≡◌, ◌∙◌, ◌+◌, ◌⊎◌, inl, inr, ℕ, zero, suc, Bool, true, false, ◌||◌, cond, [], ◌∷◌, length, refl, sym, ap, subst, arith, ℤ}
use Rattle.std.specs.Prelude.{int_lt, ◌≤ℤ◌, ◌<ℤ◌, ◌+ℤ◌, ◌-ℤ◌, pos, nat_abs}
use Rattle.std.specs.Ordering.{int_eq}
use Rattle.std.proofs.lemmas.Int.{ints}
use Rattle.qc_model.specs.Domains.{Values, has_value, is_ascending, least_value, greatest_value, greatest_from}
use Rattle.qc_model.proofs.Readable.{first, second}
use Rattle.model_arguments.proofs.Kept.{high_end, low_end, lower}
use Rattle.model_arguments.proofs.Values.{above_first, has_first}
use Rattle.box_laws.proofs.Firsts.{least_is}
use Rattle.dense_alike.specs.Ranges.{IsRow}
use Rattle.dense_alike.proofs.InARow.{Begins, begins_first, begins_more}

-- in ascending values the greatest one is that of the later ones
greatest_next : (u v : ℤ) (us : Values) → is_ascending (u ∷ v ∷ us) ≡ true → greatest_from u (v ∷ us) ≡ greatest_from v us
greatest_next u v us a = ap (λ b. greatest_from (cond b v u) us) (first (int_lt u v) (is_ascending (v ∷ us)) a)

-- each value is one above the one before, or more
rises : (u : ℤ) (us : Values) → is_ascending (u ∷ us) ≡ true → (u +ℤ pos (length us)) ≤ℤ greatest_from u us
rises u [] a = omega (arith, ints)
rises u (v ∷ us) a = subst (λ g. (u +ℤ pos (suc (length us))) ≤ℤ g) (sym (greatest_next u v us a)) (more u v (greatest_from v us) (length us) (lower u v (first (int_lt u v) (is_ascending (v ∷ us)) a)) (rises v us (second (int_lt u v) (is_ascending (v ∷ us)) a)))
  where
    more : (u v g : ℤ) (n : ℕ) → u <ℤ v → (v +ℤ pos n) ≤ℤ g → (u +ℤ pos (suc n)) ≤ℤ g
    more u v g n l h = grind (arith, ints)

where_from : (u w : ℤ) → u ≤ℤ w → (u ≡ w) ⊎ (u <ℤ w)
where_from u w l = by_test (int_lt u w) refl
  where
    equal : (u w : ℤ) → u ≤ℤ w → int_lt u w ≡ false → u ≡ w
    equal u w l h = grind (arith, ints)

    by_test : (b : Bool) → int_lt u w ≡ b → (u ≡ w) ⊎ (u <ℤ w)
    by_test true h = inr (lower u w h)
    by_test false h = inl (equal u w l h)

-- so where they come just as far, none is left out
filled : (u : ℤ) (us : Values) → is_ascending (u ∷ us) ≡ true → (u +ℤ pos (length us)) ≡ greatest_from u us → (w : ℤ) → u ≤ℤ w → w ≤ℤ greatest_from u us → has_value (u ∷ us) w ≡ true
filled u [] a e w l m = subst (λ z. has_value (u ∷ []) z ≡ true) (same u w l m) (has_first u [])
  where
    same : (u w : ℤ) → u ≤ℤ w → w ≤ℤ u → u ≡ w
    same u w l m = omega (arith, ints, l, m)
filled u (v ∷ us) a e w l m = by (where_from u w l) (λ r f t. filled v us (second (int_lt u v) (is_ascending (v ∷ us)) a) r w f t)
  where
    below : int_lt u v ≡ true
    below = first (int_lt u v) (is_ascending (v ∷ us)) a

    up : is_ascending (v ∷ us) ≡ true
    up = second (int_lt u v) (is_ascending (v ∷ us)) a

    reaches : (u v g : ℤ) (n : ℕ) → u <ℤ v → (u +ℤ pos (suc n)) ≡ g → (v +ℤ pos n) ≤ℤ g → (v +ℤ pos n) ≡ g
    reaches u v g n l e h = grind (arith, ints)

    starts : (u v w g : ℤ) (n : ℕ) → u <ℤ w → (u +ℤ pos (suc n)) ≡ g → (v +ℤ pos n) ≤ℤ g → v ≤ℤ w
    starts u v w g n l e h = grind (arith, ints)

    later : (b c : Bool) → c ≡ true → (b || c) ≡ true
    later true c e = refl
    later false c e = e

    known : (u +ℤ pos (suc (length us))) ≡ greatest_from v us
    known = e ∙ greatest_next u v us a

    by : ((u ≡ w) ⊎ (u <ℤ w)) → ((v +ℤ pos (length us)) ≡ greatest_from v us → v ≤ℤ w → w ≤ℤ greatest_from v us → has_value (v ∷ us) w ≡ true) → has_value (u ∷ v ∷ us) w ≡ true
    by (inl q) f = subst (λ z. has_value (u ∷ v ∷ us) z ≡ true) q (has_first u (v ∷ us))
    by (inr k) f =
        later (int_eq w u) (has_value (v ∷ us) w)
        (f (reaches u v (greatest_from v us) (length us) (lower u v below) known (rises v us up))
        (starts u v w (greatest_from v us) (length us) k known (rises v us up)) (subst (λ g. w ≤ℤ g) (greatest_next u v us a) m))

pub row_is : (d : Values) (n : ℕ) → is_ascending d ≡ true → (least_value d +ℤ pos n) ≡ greatest_value d → n + 1 ≡ length d → IsRow d
row_is [] n a e f = absurd (omega (arith, f))
row_is (u ∷ us) n a e f =
    λ w l m. filled u us a (ap (λ k. u +ℤ pos k) (one_less n (length us) f) ∙ (ap (λ z. z +ℤ pos n) (sym low) ∙ e)) w (subst (λ z. z ≤ℤ w) low l) m
  where
    low : least_value (u ∷ us) ≡ u
    low = least_is u us (above_first u us a)

    one_less : (n k : ℕ) → n + 1 ≡ suc k → k ≡ n
    one_less n k e = omega (arith, e)

-- in a row each value goes on to the greatest, and no further
begins_on : (d : Values) (u : ℤ) (n : ℕ) → is_ascending d ≡ true → IsRow d → least_value d ≤ℤ u → (u +ℤ pos n) ≤ℤ greatest_value d → Begins d u (u +ℤ pos n)
begins_on d u zero a r l m = subst (Begins d u) (none u) (begins_first d u a (r u l (same u (greatest_value d) m)))
  where
    none : (u : ℤ) → u ≡ (u +ℤ pos 0)
    none u = omega (arith, ints)

    same : (u g : ℤ) → (u +ℤ pos 0) ≤ℤ g → u ≤ℤ g
    same u g m = omega (arith, ints, m)
begins_on d u (suc n) a r l m =
    subst (Begins d u) (next u n)
    (begins_more d u (u +ℤ pos n) a (from u n) (r ((u +ℤ pos n) +ℤ pos 1) (over (least_value d) u n l) (under u n (greatest_value d) m)) (begins_on d u n a r l (before u n (greatest_value d) m)))
  where
    next : (u : ℤ) (n : ℕ) → ((u +ℤ pos n) +ℤ pos 1) ≡ (u +ℤ pos (suc n))
    next u n = omega (arith, ints)

    from : (u : ℤ) (n : ℕ) → u ≤ℤ (u +ℤ pos n)
    from u n = omega (arith, ints)

    over : (l u : ℤ) (n : ℕ) → l ≤ℤ u → l ≤ℤ ((u +ℤ pos n) +ℤ pos 1)
    over l u n h = omega (arith, ints, h)

    under : (u : ℤ) (n : ℕ) (g : ℤ) → (u +ℤ pos (suc n)) ≤ℤ g → ((u +ℤ pos n) +ℤ pos 1) ≤ℤ g
    under u n g h = omega (arith, ints, h)

    before : (u : ℤ) (n : ℕ) (g : ℤ) → (u +ℤ pos (suc n)) ≤ℤ g → (u +ℤ pos n) ≤ℤ g
    before u n g h = omega (arith, ints, h)

reached : (u v : ℤ) → u ≤ℤ v → (u +ℤ pos (nat_abs (v -ℤ u))) ≡ v
reached u v l = grind (arith, ints)

pub begins_to : (d : Values) (u v : ℤ) → is_ascending d ≡ true → IsRow d → has_value d u ≡ true → u ≤ℤ v → v ≤ℤ greatest_value d → Begins d u v
begins_to d u v a r h l m =
    subst (Begins d u) (reached u v l) (begins_on d u (nat_abs (v -ℤ u)) a r (low_end d u h) (subst (λ z. z ≤ℤ greatest_value d) (sym (reached u v l)) m))

pub not_past : (d : Values) → has_value d (greatest_value d +ℤ pos 1) ≡ false
not_past d = never (has_value d (greatest_value d +ℤ pos 1)) (λ e. apart (greatest_value d) (high_end d (greatest_value d +ℤ pos 1) e))
  where
    apart : (g : ℤ) → (g +ℤ pos 1) ≤ℤ g → ⊥
    apart g h = omega (arith, ints, h)

    never : (b : Bool) → (b ≡ true → ⊥) → b ≡ false
    never true f = absurd (f refl)
    never false f = refl

pub to_itself : (g : ℤ) → g ≤ℤ g
to_itself g = omega (arith, ints)
