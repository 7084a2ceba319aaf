-- The widest full ranges, put down one after another.
use Rattle.std.proofs.Common.{◌≡◌, ◌≢◌, ℕ, ◌+◌, ◌<◌, ◌≤◌, List, length, set, get_or, sym, ap, subst, ◌∙◌, arith}
use Rattle.std.proofs.lemmas.Grind.{common_steps}
use Rattle.std.proofs.lemmas.List.{get_or-set_same, get_or-set_other}
use Rattle.qc_refuter.specs.Full.{first_sum, IsWidest, AreWidest}
use Rattle.qc_refuter.proofs.Fill.{one_more, widest_same}

-- one count more in a sum
sum_next : (ns : List ℕ) (k : ℕ) → k < length ns → first_sum ns (k + 1) ≡ first_sum ns k + get_or ns k 0
sum_next ns k h = grind (arith, common_steps)

-- the sum with what stands at the next place
pub sum_more : (ns counts : List ℕ) (k s : ℕ) → k < length ns → s ≡ first_sum ns k → get_or counts k 0 ≡ get_or ns k 0 → s + get_or counts k 0 ≡ first_sum ns (k + 1)
sum_more ns counts k s h e f = ap (λ m. m + get_or counts k 0) e ∙ (ap (λ m. first_sum ns k + m) f ∙ sym (sum_next ns k h))

-- where the next range isn't full, the widest stays
pub same_more : (f : ℕ → ℕ) (k j s : ℕ) → IsWidest f k j → s ≡ f (k + 1) → s ≤ k + 1 → s ≢ k + 1 → IsWidest f (k + 1) j
same_more f k j s w e l n = widest_same f k j w (less s (f (k + 1)) (k + 1) e l n)
  where
    less : (s t m : ℕ) → s ≡ t → s ≤ m → s ≢ m → t < m
    less s t m e l n = omega arith

-- what is put at a place, and what stays
pub each_more : (f : ℕ → ℕ) (counts : List ℕ) (k w n : ℕ) → length counts ≡ n → k < n → IsWidest f k w → ((j : ℕ) → j < k → IsWidest f j (get_or counts j 0)) →
    (j : ℕ) → j < k + 1 → IsWidest f j (get_or (set counts k w) j 0)
each_more f counts k w n e h here before =
    one_more (λ j. IsWidest f j (get_or (set counts k w) j 0)) k
    (λ j l. subst (IsWidest f j) (sym (get_or-set_other counts k j w 0 (apart j k l))) (before j l))
    (subst (IsWidest f k) (sym (get_or-set_same counts k w 0 (subst (λ m. k < m) (sym e) h))) here)
  where
    apart : (j k : ℕ) → j < k → j ≢ k
    apart j k l = omega arith

pub later_more : (ns counts : List ℕ) (k w : ℕ) → ((j : ℕ) → k ≤ j → get_or counts j 0 ≡ get_or ns j 0) → (j : ℕ) → k + 1 ≤ j → get_or (set counts k w) j 0 ≡ get_or ns j 0
later_more ns counts k w f j h = get_or-set_other counts k j w 0 (apart j k h) ∙ f j (after j k h)
  where
    apart : (j k : ℕ) → k + 1 ≤ j → j ≢ k
    apart j k h = omega arith

    after : (j k : ℕ) → k + 1 ≤ j → k ≤ j
    after j k h = omega arith

-- all of them
pub all_widest : (f : ℕ → ℕ) (counts : List ℕ) (k w n : ℕ) → length counts ≡ n → k ≤ n → n ≤ k → IsWidest f k w → ((j : ℕ) → j < k → IsWidest f j (get_or counts j 0)) → AreWidest f counts w
all_widest f counts k w n e l m last each = record {
  each = λ j h. each j (below j h);
  whole = subst (λ i. IsWidest f i w) (same (length counts) e) last;
}
  where
    below : (j : ℕ) → j < length counts → j < k
    below j h = omega (arith, e, m)

    same : (i : ℕ) → i ≡ n → k ≡ i
    same i e = omega arith

-- a range that holds more items than numbers
pub too_many : (f : ℕ → ℕ) (k n s : ℕ) → k < n → s ≡ f (k + 1) → k + 1 < s → (m : ℕ) × (m ≤ n) × (m < f m)
too_many f k n s h e l = (k + 1, omega arith, omega arith)

-- before the first place
pub none_widest : (f : ℕ → ℕ) (counts : List ℕ) (j : ℕ) → j < 0 → IsWidest f j (get_or counts j 0)
none_widest f counts j h = absurd (omega arith)
