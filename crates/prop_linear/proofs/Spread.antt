-- What a term can be, and how that moves with the ends of its values.
use Rattle.std.proofs.Common.{◌≡◌, ℕ, zero, suc, ◌+◌, ◌*◌, ◌<◌, ◌≤◌, ap, ◌∙◌, arith, ℤ}
use Rattle.std.specs.Prelude.{pos, negsuc, ◌+ℤ◌, ◌-ℤ◌, ◌*ℤ◌, ◌≤ℤ◌, ◌<ℤ◌, nat_abs}
use Rattle.std.specs.Int.{int_min, int_max}
use Rattle.std.proofs.Math.IntN.{*ℤ_comm, *ℤ-negsuc, suc_ℤ, suc_ℤ-*ℤ, +ℤ-suc_ℤ, neg_ℤ}
use Rattle.std.proofs.Math.Nat.{mul-le-mul_left}
use Rattle.std.proofs.lemmas.Int.{ints, clamps}
use Rattle.qc_model.specs.Ranges.{range_of, point, product}

-- the ends of a term
pub low_of : (a l g : ℤ) → (product (point a) (range_of l g)).from ≡ int_min (a *ℤ l) (a *ℤ g)
low_of a l g = lows (a *ℤ l) (a *ℤ g)
  where
    lows : (p q : ℤ) → int_min p (int_min q (int_min p q)) ≡ int_min p q
    lows p q = grind (arith, ints)

pub high_of : (a l g : ℤ) → (product (point a) (range_of l g)).to ≡ int_max (a *ℤ l) (a *ℤ g)
high_of a l g = highs (a *ℤ l) (a *ℤ g)
  where
    highs : (p q : ℤ) → int_max p (int_max q (int_max p q)) ≡ int_max p q
    highs p q = grind (arith, ints)

-- e steps up
by_right : (p : ℕ) (v : ℤ) (e : ℕ) → (v +ℤ pos e) *ℤ pos p ≡ (v *ℤ pos p) +ℤ pos (e * p)
by_right p v zero = ap (λ z. z *ℤ pos p) (none v) ∙ none_more (v *ℤ pos p)
  where
    none : (v : ℤ) → v +ℤ pos 0 ≡ v
    none v = omega (arith, ints)

    none_more : (z : ℤ) → z ≡ z +ℤ pos (0 * p)
    none_more z = omega (arith, ints)
by_right p v (suc e) =
    ap (λ z. z *ℤ pos p) (next v e) ∙ (suc_ℤ-*ℤ (v +ℤ pos e) (pos p) ∙ (ap (λ z. z +ℤ pos p) (by_right p v e) ∙ regroup (v *ℤ pos p) e))
  where
    next : (v : ℤ) (e : ℕ) → v +ℤ pos (suc e) ≡ suc_ℤ (v +ℤ pos e)
    next v e = +ℤ-suc_ℤ v (pos e)

    regroup : (z : ℤ) (e : ℕ) → (z +ℤ pos (e * p)) +ℤ pos p ≡ z +ℤ pos (suc e * p)
    regroup z e = omega (arith, ints)

pub steps_up : (p : ℕ) (v : ℤ) (e : ℕ) → pos p *ℤ (v +ℤ pos e) ≡ (pos p *ℤ v) +ℤ pos (p * e)
steps_up p v e =
    *ℤ_comm (pos p) (v +ℤ pos e) ∙ (by_right p v e ∙ (ap (λ z. z +ℤ pos (e * p)) (*ℤ_comm v (pos p)) ∙ flip (pos p *ℤ v)))
  where
    flip : (z : ℤ) → z +ℤ pos (e * p) ≡ z +ℤ pos (p * e)
    flip z = omega (arith, ints)

pub steps_down : (n : ℕ) (v : ℤ) (e : ℕ) → (negsuc n *ℤ (v +ℤ pos e)) +ℤ pos (suc n * e) ≡ negsuc n *ℤ v
steps_down n v e =
    by (negsuc n *ℤ (v +ℤ pos e)) (negsuc n *ℤ v) ((v +ℤ pos e) *ℤ pos (suc n)) (v *ℤ pos (suc n))
    (*ℤ_comm (negsuc n) (v +ℤ pos e) ∙ *ℤ-negsuc (v +ℤ pos e) n) (*ℤ_comm (negsuc n) v ∙ *ℤ-negsuc v n) (by_right (suc n) v e)
  where
    by : (a b w u : ℤ) → a ≡ neg_ℤ w → b ≡ neg_ℤ u → w ≡ u +ℤ pos (e * suc n) → a +ℤ pos (suc n * e) ≡ b
    by a b w u h k l = omega (arith, ints, h, k, l)

reached : (v w : ℤ) → v ≤ℤ w → w ≡ v +ℤ pos (nat_abs (w -ℤ v))
reached v w h = omega (arith, ints)

pub up_gap : (p : ℕ) (v w : ℤ) → v ≤ℤ w → pos p *ℤ w ≡ (pos p *ℤ v) +ℤ pos (p * nat_abs (w -ℤ v))
up_gap p v w h = ap (λ z. pos p *ℤ z) (reached v w h) ∙ steps_up p v (nat_abs (w -ℤ v))

pub down_gap : (n : ℕ) (v w : ℤ) → v ≤ℤ w → (negsuc n *ℤ w) +ℤ pos (suc n * nat_abs (w -ℤ v)) ≡ negsuc n *ℤ v
down_gap n v w h = ap (λ z. (negsuc n *ℤ z) +ℤ pos (suc n * nat_abs (w -ℤ v))) (reached v w h) ∙ steps_down n v (nat_abs (w -ℤ v))

-- the term moves by at most s
abbrev pub NearBy : ℤ → ℕ → ℤ → ℤ → Type 0
NearBy a s l g = (product (point a) (range_of l g)).to ≤ℤ ((product (point a) (range_of l g)).from +ℤ pos s)

-- each value from l to g makes the term more than s above what it is from k to h
abbrev pub FarFrom : ℤ → ℕ → ℤ → ℤ → ℤ → ℤ → Type 0
FarFrom a s k h l g = ((product (point a) (range_of k h)).from +ℤ pos s) <ℤ (product (point a) (range_of l g)).from

pub near_up : (p s q : ℕ) (l g : ℤ) → l ≤ℤ g → g ≤ℤ (l +ℤ pos q) → p * q ≤ s → NearBy (pos p) s l g
near_up p s q l g h k m =
    let u = up_gap p l g h in
    let b : p * nat_abs (g -ℤ l) ≤ p * q = mul-le-mul_left p (omega (arith, ints)) in
    omega (arith, ints, clamps, low_of (pos p) l g, high_of (pos p) l g, u, b, m)

pub near_down : (n s q : ℕ) (l g : ℤ) → l ≤ℤ g → g ≤ℤ (l +ℤ pos q) → suc n * q ≤ s → NearBy (negsuc n) s l g
near_down n s q l g h k m =
    let u = down_gap n l g h in
    let b : suc n * nat_abs (g -ℤ l) ≤ suc n * q = mul-le-mul_left (suc n) (omega (arith, ints)) in
    omega (arith, ints, clamps, low_of (negsuc n) l g, high_of (negsuc n) l g, u, b, m)

pub far_up : (p s q : ℕ) (k h l g : ℤ) → k ≤ℤ h → l ≤ℤ g → (k +ℤ pos (q + 1)) ≤ℤ l → s < p * (q + 1) → FarFrom (pos p) s k h l g
far_up p s q k h l g o r f m =
    let u = up_gap p k l (omega (arith, ints, f)) in
    let v = up_gap p l g r in
    let w = up_gap p k h o in
    let b : p * (q + 1) ≤ p * nat_abs (l -ℤ k) = mul-le-mul_left p (omega (arith, ints)) in
    omega (arith, ints, clamps, low_of (pos p) k h, low_of (pos p) l g, u, v, w, b, m)

pub far_down : (n s q : ℕ) (k h l g : ℤ) → k ≤ℤ h → l ≤ℤ g → (g +ℤ pos (q + 1)) ≤ℤ h → s < suc n * (q + 1) → FarFrom (negsuc n) s k h l g
far_down n s q k h l g o r f m =
    let u = down_gap n g h (omega (arith, ints, f)) in
    let v = down_gap n l g r in
    let w = down_gap n k h o in
    let b : suc n * (q + 1) ≤ suc n * nat_abs (h -ℤ g) = mul-le-mul_left (suc n) (omega (arith, ints)) in
    omega (arith, ints, clamps, low_of (negsuc n) k h, low_of (negsuc n) l g, u, v, w, b, m)

-- the least of the term stays while the end that makes it least does
pub same_up : (p : ℕ) (l g h : ℤ) → l ≤ℤ g → l ≤ℤ h → (product (point (pos p)) (range_of l g)).from ≡ (product (point (pos p)) (range_of l h)).from
same_up p l g h o r =
    let u = up_gap p l g o in
    let v = up_gap p l h r in
    omega (arith, ints, clamps, low_of (pos p) l g, low_of (pos p) l h, u, v)

pub same_down : (n : ℕ) (l k g : ℤ) → l ≤ℤ g → k ≤ℤ g → (product (point (negsuc n)) (range_of l g)).from ≡ (product (point (negsuc n)) (range_of k g)).from
same_down n l k g o r =
    let u = down_gap n l g o in
    let v = down_gap n k g r in
    omega (arith, ints, clamps, low_of (negsuc n) l g, low_of (negsuc n) k g, u, v)

-- the least of the term rises while its values become fewer
pub rise_up : (p : ℕ) (l k h g : ℤ) → l ≤ℤ k → k ≤ℤ h → h ≤ℤ g → (product (point (pos p)) (range_of l g)).from ≤ℤ (product (point (pos p)) (range_of k h)).from
rise_up p l k h g o r f =
    let u = up_gap p l k o in
    let v = up_gap p k h r in
    let w = up_gap p l g (omega (arith, ints, o, r, f)) in
    omega (arith, ints, clamps, low_of (pos p) l g, low_of (pos p) k h, u, v, w)

pub rise_down : (n : ℕ) (l k h g : ℤ) → l ≤ℤ k → k ≤ℤ h → h ≤ℤ g → (product (point (negsuc n)) (range_of l g)).from ≤ℤ (product (point (negsuc n)) (range_of k h)).from
rise_down n l k h g o r f =
    let u = down_gap n h g f in
    let v = down_gap n k h r in
    let w = down_gap n l g (omega (arith, ints, o, r, f)) in
    omega (arith, ints, clamps, low_of (negsuc n) l g, low_of (negsuc n) k h, u, v, w)
