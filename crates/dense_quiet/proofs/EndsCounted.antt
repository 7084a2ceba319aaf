-- Items are counted alike by the ends that were read and by their values.
use Rattle.std.proofs.Common.{◌≡◌, ℕ, suc, ◌+◌, ◌<◌, ◌≤◌, ◌==◌, Bool, true, ◌&&◌, cond, List, [], ◌∷◌, length, get_or, nat_le, refl, ap, ◌∙◌, arith, ℤ}
use Rattle.std.specs.Prelude.{pos, ◌+ℤ◌, int_le, count_by}
use Rattle.std.specs.Ordering.{int_eq}
use Rattle.std.proofs.lemmas.Bool.Decides.{nat_tests}
use Rattle.std.proofs.lemmas.Int.{ints}
use Rattle.std.proofs.lemmas.List.Sums.{sum_by-cons}
use Rattle.qc_model.specs.Domains.{Values, least_value, greatest_value}
use Rattle.qc_model.specs.Left.{has_crowd}
use Rattle.qc_refuter.specs.Full.{ends_past, held, first_sum, AreWidest}
use Rattle.qc_refuter.proofs.Fill.{crowd_of_held, sums_held, widest_held}
use Rattle.dense_quiet.specs.declared.differing.Ends.{Ends}
use Rattle.dense_quiet.specs.Differing.{StandsFor, AreEndsOf, HaveEnds, ends_at, AreRooms}

-- by their ends as many are counted as by their values
same_end : (l k : ℕ) (v : ℤ) (d : Values) (e : Ends) → StandsFor l v → AreEndsOf d e → ends_at l k e ≡ ends_past v k d
same_end l k v d e s a = by (nat_le l e.low) (e.high == l + k) (int_le v (least_value d)) (int_eq (greatest_value d) (v +ℤ pos k)) (low e.low (least_value d) a.low) (high e.high (greatest_value d) a.high)
  where
    low : (n : ℕ) (u : ℤ) → StandsFor n u → nat_le l n ≡ int_le v u
    low n u q = grind (arith, ints, nat_tests, s, q)

    high : (n : ℕ) (u : ℤ) → StandsFor n u → (n == l + k) ≡ int_eq u (v +ℤ pos k)
    high n u q = grind (arith, ints, nat_tests, s, q)

    by : (a b p q : Bool) → a ≡ p → b ≡ q → (a && b) ≡ (p && q)
    by a b p q f g = cc

same_count : (l k : ℕ) (v : ℤ) (ds : List Values) (es : List Ends) → StandsFor l v → length es ≡ length ds → ((j : ℕ) (z : Ends) → j < length ds → AreEndsOf (get_or ds j []) (get_or es j z)) → count_by (ends_at l k) es ≡ count_by (ends_past v k) ds
same_count l k v [] [] s n f = refl
same_count l k v [] (e ∷ es) s n f = absurd (omega (arith, n))
same_count l k v (d ∷ ds) [] s n f = absurd (omega (arith, n))
same_count l k v (d ∷ ds) (e ∷ es) s n f =
    omega (arith, sum_by-cons (λ y. cond (ends_at l k y) 1 0) e es, sum_by-cons (λ y. cond (ends_past v k y) 1 0) d ds, ap {B = ℕ} (λ b. cond b 1 0) (same_end l k v d e s (f 0 e (omega arith))), same_count l k v ds es s (omega (arith, n)) (λ j z m. f (suc j) z (omega (arith, m))))

-- so the sums of the counts tell the widest ranges
pub rooms_counted : (ds : List Values) (es : List Ends) (l : ℕ) (v : ℤ) (ns rooms : List ℕ) (last : ℕ) → StandsFor l v → HaveEnds ds es → length ns ≡ length es → length rooms ≡ length ns → ((k : ℕ) → k < length ns → get_or ns k 0 ≡ count_by (ends_at l k) es) →
    AreWidest (first_sum ns) rooms last → AreRooms ds v rooms last
rooms_counted ds es l v ns rooms last s h n m f w = record {
  count = m ∙ (n ∙ h.count);
  widest = widest_held (first_sum ns) (held ds v) rooms last (λ k q. sums_held ds v ns (λ j r. f j r ∙ same_count l j v ds es s h.count h.each) k (omega (arith, q, m))) w;
}

-- and where they are too many, the items are crowded
pub crowd_counted : (ds : List Values) (es : List Ends) (l : ℕ) (v : ℤ) (ns : List ℕ) (n : ℕ) → StandsFor l v → HaveEnds ds es → ((k : ℕ) → k < length ns → get_or ns k 0 ≡ count_by (ends_at l k) es) → n ≤ length ns → n < first_sum ns n → has_crowd ds ≡ true
crowd_counted ds es l v ns n s h f m w = crowd_of_held ds v n (omega (arith, w, sums_held ds v ns (λ j r. f j r ∙ same_count l j v ds es s h.count h.each) n m))
