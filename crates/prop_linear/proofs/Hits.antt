-- The value of a term with which a sum is a number.
use Rattle.std.proofs.Common.{◌≡◌, ◌≢◌, ℕ, zero, suc, ◌*◌, ◌/◌, ◌<◌, ◌≤◌, Bool, true, false, refl, sym, ap, ◌∙◌, arith, ℤ}
use Rattle.std.specs.Prelude.{pos, negsuc, ◌+ℤ◌, ◌-ℤ◌, ◌*ℤ◌, ◌≤ℤ◌, ◌<ℤ◌, nat_abs, unsigned_abs, int_lt}
use Rattle.std.specs.Int.{int_min}
use Rattle.std.specs.Ordering.{int_eq}
use Rattle.std.proofs.Math.Nat.{mul-div_cancel_left}
use Rattle.std.proofs.lemmas.Int.{ints, clamps}
use Rattle.std.proofs.lemmas.Bool.Decides.{Decides-int_eq}
use Rattle.qc_model.specs.Domains.{Values, least_value, greatest_value, has_value}
use Rattle.model_arguments.proofs.Kept.{low_end, high_end}
use Rattle.prop_linear.specs.Tightening.{term_of}
use Rattle.prop_linear.specs.Unequal.{IsHit}
use Rattle.prop_linear.proofs.Spread.{low_of, up_gap, down_gap}

pub same_steps : (a e o : ℕ) → 0 < a → o ≡ a * e → o / a ≡ e
same_steps a e o h k = ap (λ z. z / a) k ∙ mul-div_cancel_left e h

pub not_whole : (a o s : ℕ) → 0 < a → s ≡ o / a → a * s ≢ o → (e : ℕ) → o ≢ a * e
not_whole a o s h d n e k = n (ap (λ z. a * z) (d ∙ same_steps a e o h k) ∙ sym k)

-- how far a value is from the end that makes the term least
abbrev gap : ℤ → Values → ℤ → ℕ
gap (pos p) d v = nat_abs (v -ℤ least_value d)
gap (negsuc m) d v = nat_abs (greatest_value d -ℤ v)

value_steps : (a : ℤ) (d : Values) (v : ℤ) → least_value d ≤ℤ v → v ≤ℤ greatest_value d → a *ℤ v ≡ (term_of a d).from +ℤ pos (unsigned_abs a * gap a d v)
value_steps (pos p) d v h k =
    let l = least_value d in
    let g = greatest_value d in
    by (pos p *ℤ l) (pos p *ℤ g) (pos p *ℤ v) (term_of (pos p) d).from (p * nat_abs (v -ℤ l)) (p * nat_abs (g -ℤ l)) (up_gap p l v h) (up_gap p l g (trans l v g h k)) (low_of (pos p) l g)
  where
    trans : (a b c : ℤ) → a ≤ℤ b → b ≤ℤ c → a ≤ℤ c
    trans a b c h k = omega (arith, ints, h, k)

    by : (l g v f : ℤ) (m n : ℕ) → v ≡ l +ℤ pos m → g ≡ l +ℤ pos n → f ≡ int_min l g → v ≡ f +ℤ pos m
    by l g v f m n h k i = omega (arith, ints, clamps, h, k, i)
value_steps (negsuc m) d v h k =
    let l = least_value d in
    let g = greatest_value d in
    by (negsuc m *ℤ l) (negsuc m *ℤ g) (negsuc m *ℤ v) (term_of (negsuc m) d).from (suc m * nat_abs (g -ℤ v)) (suc m * nat_abs (g -ℤ l)) (down_gap m v g k) (down_gap m l g (trans l v g h k)) (low_of (negsuc m) l g)
  where
    trans : (a b c : ℤ) → a ≤ℤ b → b ≤ℤ c → a ≤ℤ c
    trans a b c h k = omega (arith, ints, h, k)

    by : (l g v f : ℤ) (m n : ℕ) → g +ℤ pos m ≡ v → g +ℤ pos n ≡ l → f ≡ int_min l g → v ≡ f +ℤ pos m
    by l g v f m n h k i = omega (arith, ints, clamps, h, k, i)

gap_width : (a : ℤ) (d : Values) (v : ℤ) (w : ℕ) → least_value d ≤ℤ v → v ≤ℤ greatest_value d → least_value d +ℤ pos w ≡ greatest_value d → gap a d v ≤ w
gap_width (pos p) d v w h k e = omega (arith, ints, h, k, e)
gap_width (negsuc m) d v w h k e = omega (arith, ints, h, k, e)

-- a hit is so many steps above the least of the sum
hit_steps : (least a : ℤ) (d : Values) (bound v : ℤ) → has_value d v ≡ true → IsHit least a d bound v → bound ≡ least +ℤ pos (unsigned_abs a * gap a d v)
hit_steps least a d bound v h k =
    by (a *ℤ v) (term_of a d).from (unsigned_abs a * gap a d v) (value_steps a d v (low_end d v h) (high_end d v h)) k
  where
    by : (w f : ℤ) (n : ℕ) → w ≡ f +ℤ pos n → least +ℤ w ≡ bound +ℤ f → bound ≡ least +ℤ pos n
    by w f n h k = omega (arith, ints, h, k)

steps_hit : (least a : ℤ) (d : Values) (bound v : ℤ) → least_value d ≤ℤ v → v ≤ℤ greatest_value d → bound ≡ least +ℤ pos (unsigned_abs a * gap a d v) → IsHit least a d bound v
steps_hit least a d bound v h g k =
    by (a *ℤ v) (term_of a d).from (unsigned_abs a * gap a d v) (value_steps a d v h g) k
  where
    by : (w f : ℤ) (n : ℕ) → w ≡ f +ℤ pos n → bound ≡ least +ℤ pos n → least +ℤ w ≡ bound +ℤ f
    by w f n h k = omega (arith, ints, h, k)

same_offset : (least bound : ℤ) (m n : ℕ) → bound ≡ least +ℤ pos m → bound ≡ least +ℤ pos n → m ≡ n
same_offset least bound m n h k = omega (arith, ints, h, k)

-- there is none below the least of the sum
pub none_below : (least a : ℤ) (d : Values) (bound v : ℤ) → int_lt bound least ≡ true → has_value d v ≡ true → IsHit least a d bound v → ⊥
none_below least a d bound v b h k = no bound least (unsigned_abs a * gap a d v) b (hit_steps least a d bound v h k)
  where
    no : (b l : ℤ) (n : ℕ) → int_lt b l ≡ true → b ≡ l +ℤ pos n → ⊥
    no b l n h k = grind (arith, ints)

-- nor where the steps aren't whole
pub none_between : (least a : ℤ) (d : Values) (bound v : ℤ) (o : ℕ) → bound ≡ least +ℤ pos o → ((e : ℕ) → o ≢ unsigned_abs a * e) → has_value d v ≡ true → IsHit least a d bound v → ⊥
none_between least a d bound v o e n h k = n (gap a d v) (same_offset least bound o (unsigned_abs a * gap a d v) e (hit_steps least a d bound v h k))

pub factor_some : (a : ℤ) → int_eq a (pos 0) ≡ false → 0 < unsigned_abs a
factor_some (pos zero) h = absurd (no ((Decides-int_eq (pos 0) (pos 0)).1 refl) h)
  where
    no : int_eq (pos 0) (pos 0) ≡ true → int_eq (pos 0) (pos 0) ≡ false → ⊥
    no h k = cc
factor_some (pos (suc n)) h = omega arith
factor_some (negsuc n) h = omega arith

steps_of : (least a : ℤ) (d : Values) (bound v : ℤ) (o s : ℕ) → int_eq a (pos 0) ≡ false → bound ≡ least +ℤ pos o → o ≡ unsigned_abs a * s → has_value d v ≡ true → IsHit least a d bound v → gap a d v ≡ s
steps_of least a d bound v o s z e f h k =
    let n = same_offset least bound o (unsigned_abs a * gap a d v) e (hit_steps least a d bound v h k) in
    sym (same_steps (unsigned_abs a) (gap a d v) o (factor_some a z) n) ∙ same_steps (unsigned_abs a) s o (factor_some a z) f

-- nor beyond the other end
pub none_beyond : (least a : ℤ) (d : Values) (bound v : ℤ) (o s w : ℕ) → int_eq a (pos 0) ≡ false → bound ≡ least +ℤ pos o → o ≡ unsigned_abs a * s → least_value d +ℤ pos w ≡ greatest_value d → w < s → has_value d v ≡ true → IsHit least a d bound v → ⊥
none_beyond least a d bound v o s w z e f g l h k =
    absurd (omega (arith, steps_of least a d bound v o s z e f h k, gap_width a d v w (low_end d v h) (high_end d v h) g, l))

-- so many steps from the end
gap_stepped : (a : ℤ) (d : Values) (v : ℤ) (s : ℕ) → int_eq a (pos 0) ≡ false → (pos 0 <ℤ a → v ≡ least_value d +ℤ pos s) → (a <ℤ pos 0 → v +ℤ pos s ≡ greatest_value d) → gap a d v ≡ s
gap_stepped (pos zero) d v s z u w = absurd (no ((Decides-int_eq (pos 0) (pos 0)).1 refl) z)
  where
    no : int_eq (pos 0) (pos 0) ≡ true → int_eq (pos 0) (pos 0) ≡ false → ⊥
    no h k = cc
gap_stepped (pos (suc p)) d v s z u w = omega (arith, ints, u (omega (arith, ints)))
gap_stepped (negsuc m) d v s z u w = omega (arith, ints, w (omega (arith, ints)))

-- where a value is hit, it is the one that is so many steps from the end
pub hit_stepped : (least a : ℤ) (d : Values) (bound v : ℤ) (o s : ℕ) → int_eq a (pos 0) ≡ false → bound ≡ least +ℤ pos o → o ≡ unsigned_abs a * s → (pos 0 <ℤ a → v ≡ least_value d +ℤ pos s) → (a <ℤ pos 0 → v +ℤ pos s ≡ greatest_value d) →
    has_value d v ≡ true → IsHit least a d bound v
hit_stepped least a d bound v o s z e f u w h =
    let g = gap_stepped a d v s z u w in
    steps_hit least a d bound v (low_end d v h) (high_end d v h) (e ∙ ap (λ n. least +ℤ pos n) (f ∙ ap (λ n. unsigned_abs a * n) (sym g)))

same_gap : (a : ℤ) (d : Values) (v w : ℤ) → has_value d v ≡ true → has_value d w ≡ true → gap a d v ≡ gap a d w → v ≡ w
same_gap (pos p) d v w h k e = omega (arith, ints, low_end d v h, low_end d w k, e)
same_gap (negsuc m) d v w h k e = omega (arith, ints, high_end d v h, high_end d w k, e)

-- only one value is hit
pub one_hit : (least a : ℤ) (d : Values) (bound v w : ℤ) → int_eq a (pos 0) ≡ false → has_value d v ≡ true → has_value d w ≡ true → IsHit least a d bound v → IsHit least a d bound w → v ≡ w
one_hit least a d bound v w z h k m n =
    same_gap a d v w h k
    (steps_of least a d bound v (unsigned_abs a * gap a d w) (gap a d w) z (hit_steps least a d bound w k n) refl h m)

-- where no value is so many steps from the end, none is hit
pub none_stepped : (least a : ℤ) (d : Values) (bound v w : ℤ) (o s : ℕ) → int_eq a (pos 0) ≡ false → bound ≡ least +ℤ pos o → o ≡ unsigned_abs a * s → (pos 0 <ℤ a → v ≡ least_value d +ℤ pos s) → (a <ℤ pos 0 → v +ℤ pos s ≡ greatest_value d) →
    has_value d v ≡ false → has_value d w ≡ true → IsHit least a d bound w → ⊥
none_stepped least a d bound v w o s z e f u x n h k =
    clash (ap (has_value d) (back a d v w s z u x (low_end d w h) (high_end d w h) (steps_of least a d bound w o s z e f h k)) ∙ n)
  where
    back : (a : ℤ) (d : Values) (v w : ℤ) (s : ℕ) → int_eq a (pos 0) ≡ false → (pos 0 <ℤ a → v ≡ least_value d +ℤ pos s) → (a <ℤ pos 0 → v +ℤ pos s ≡ greatest_value d) → least_value d ≤ℤ w → w ≤ℤ greatest_value d → gap a d w ≡ s → w ≡ v
    back (pos zero) d v w s z u x l m g = absurd (no ((Decides-int_eq (pos 0) (pos 0)).1 refl) z)
      where
        no : int_eq (pos 0) (pos 0) ≡ true → int_eq (pos 0) (pos 0) ≡ false → ⊥
        no h k = cc
    back (pos (suc p)) d v w s z u x l m g = omega (arith, ints, u (omega (arith, ints)), l, m, g)
    back (negsuc q) d v w s z u x l m g = omega (arith, ints, x (omega (arith, ints)), l, m, g)

    clash : has_value d w ≡ false → ⊥
    clash e = no (has_value d w) h e
      where
        no : (b : Bool) → b ≡ true → b ≡ false → ⊥
        no true h k = cc
        no false h k = cc
