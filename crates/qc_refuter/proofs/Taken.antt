-- What is free after an item took a number, and that a range is too full where it found none.
use Rattle.std.proofs.Common.{◌≡◌, ◌≢◌, inl, inr, ℕ, zero, suc, ◌+◌, ◌-◌, ◌<◌, ◌≤◌, cond, nat_lt, List, length, get_or, refl, ap, ◌∙◌, subst, arith}
use Rattle.std.proofs.lemmas.Bool.Decides.{nat_tests}
use Rattle.std.proofs.lemmas.Bool.{cases_lt}
use Rattle.qc_refuter.specs.Stretches.{IsStretch, IsOneMore, filled, HasRoom}

-- a number is taken from the stretch at a place, or past them all
pub record IsTaking (lows free new : List ℕ) (place high top next : ℕ) : Type 0 where
  pub other : (k : ℕ) → k ≢ place → get_or new k 0 ≡ get_or free k 0
  pub here : place < length lows → get_or new place 0 + 1 ≡ get_or free place 0
  pub fits : place < length lows → get_or lows place 0 ≤ high + get_or free place 0
  pub same : place < length lows → next ≡ top
  pub past : length lows ≤ place → next ≡ top + 1
  pub past_fits : length lows ≤ place → top ≤ high

-- 1 below b, and 0 from it on
abbrev under : ℕ → ℕ → ℕ
under b k = cond (nat_lt k b) 1 0

one_below : (k b : ℕ) → k < b → under b k ≡ 1
one_below k b h = grind (arith, nat_tests)

none_from : (k b : ℕ) → b ≤ k → under b k ≡ 0
none_from k b h = grind (arith, nat_tests)

steps_to : (lows free : List ℕ) (c : ℕ → ℕ) (last top : ℕ) (r : HasRoom lows free c last top) (k : ℕ) → 0 < k → k < length lows → r.reach k ≡ r.reach (k - 1) + get_or free k 0
steps_to lows free c last top r k p h =
    let same : (k - 1) + 1 ≡ k = omega arith in
    subst (λ m. r.reach m ≡ r.reach (k - 1) + get_or free m 0) same (r.steps (k - 1) (omega arith))

-- along full stretches the reach stays
flat : (lows free : List ℕ) (c : ℕ → ℕ) (last top : ℕ) (r : HasRoom lows free c last top) (t b : ℕ) → b ≤ length lows → ((k : ℕ) → t + 1 ≤ k → k < b → get_or free k 0 ≡ 0) →
    (d k : ℕ) → k ≡ t + d → k < b → r.reach k ≡ r.reach t
flat lows free c last top r t b m f zero k e h = let same : k ≡ t = omega (arith, e) in ap r.reach same
flat lows free c last top r t b m f (suc d) k e h =
    let same : k ≡ (t + d) + 1 = omega (arith, e) in
    let less : t + d < b = omega (arith, same, h) in
    let one : r.reach ((t + d) + 1) ≡ r.reach (t + d) + get_or free ((t + d) + 1) 0 = r.steps (t + d) (omega (arith, same, h, m)) in
    let none : get_or free ((t + d) + 1) 0 ≡ 0 = f ((t + d) + 1) (omega arith) (omega (arith, same, h)) in
    ap r.reach same ∙ omega (arith, one, none, flat lows free c last top r t b m f d (t + d) refl less)

-- and it never falls
rises : (lows free : List ℕ) (c : ℕ → ℕ) (last top : ℕ) (r : HasRoom lows free c last top) (i d k : ℕ) → k ≡ i + d → k < length lows → r.reach i ≤ r.reach k
rises lows free c last top r i zero k e h =
    let same : k ≡ i = omega (arith, e) in
    let q : r.reach k ≡ r.reach i = ap r.reach same in
    omega (arith, q)
rises lows free c last top r i (suc d) k e h =
    let same : k ≡ (i + d) + 1 = omega (arith, e) in
    let q : r.reach k ≡ r.reach ((i + d) + 1) = ap r.reach same in
    omega (arith, q, r.steps (i + d) (omega (arith, same, h)), rises lows free c last top r i d (i + d) refl (omega (arith, same, h)))

rises_to : (lows free : List ℕ) (c : ℕ → ℕ) (last top : ℕ) (r : HasRoom lows free c last top) (i k : ℕ) → i ≤ k → k < length lows → r.reach i ≤ r.reach k
rises_to lows free c last top r i k m h = rises lows free c last top r i (k - i) k (omega arith) h

-- from the last place that begins at low or before it up to the stretch that was found
level : (lows free : List ℕ) (c : ℕ → ℕ) (low last top b : ℕ) (r : HasRoom lows free c last top) (s : IsStretch lows free low b) → length free ≡ length lows → (k : ℕ) → s.start ≤ k + 1 → k < b → r.reach k ≡ r.reach (s.start - 1)
level lows free c low last top b r s e k m h =
    let full : (i : ℕ) → (s.start - 1) + 1 ≤ i → i < b → get_or free i 0 ≡ 0 = λ i p q. s.next.full i (omega (arith, s.some, p)) q in
    flat lows free c last top r (s.start - 1) b (omega (arith, s.next.most, e)) full (k - (s.start - 1)) k (omega (arith, s.some, m)) h

-- the reach there is past the end of the item that finds no number
pub past_stretch : (lows free : List ℕ) (c : ℕ → ℕ) (low last top b high : ℕ) (r : HasRoom lows free c last top) (s : IsStretch lows free low b) → length free ≡ length lows → b < length lows → high + get_or free b 0 < get_or lows b 0 → high < r.reach (s.start - 1)
past_stretch lows free c low last top b high r s e h f =
    let p : 0 < b = omega (arith, s.some, s.next.least) in
    let same = level lows free c low last top b r s e (b - 1) (omega (arith, s.next.least)) (omega arith) in
    omega (arith, same, steps_to lows free c last top r b p h, r.covers b h, f)

pub past_top : (lows free : List ℕ) (c : ℕ → ℕ) (low last top b high : ℕ) (r : HasRoom lows free c last top) (s : IsStretch lows free low b) → length free ≡ length lows → b ≡ length lows → high < top → high < r.reach (s.start - 1)
past_top lows free c low last top b high r s e h f =
    let p : 0 < b = omega (arith, s.some, s.next.least) in
    let same = level lows free c low last top b r s e (b - 1) (omega (arith, s.next.least)) (omega arith) in
    omega (arith, same, r.ends (b - 1) (omega arith), f)

-- so from some least value on more items begin than there are numbers up to its end
pub none_left : (lows free : List ℕ) (c : ℕ → ℕ) (low last top b high : ℕ) (r : HasRoom lows free c last top) (s : IsStretch lows free low b) → length free ≡ length lows → high < r.reach (s.start - 1) → (l : ℕ) × (l ≤ low) × (high < l + c l)
none_left lows free c low last top b high r s e h =
    let q = r.met (s.start - 1) (omega (arith, s.some, s.next.least, s.next.most, e)) in
    (get_or lows q.0 0, s.upto q.0 (omega (arith, q.1, s.some)), omega (arith, h, q.2))

-- a number taken keeps room for all that took one
pub taken : (lows free new : List ℕ) (c more : ℕ → ℕ) (low last high b top next : ℕ) → length free ≡ length lows → last ≤ high → IsOneMore low c more → IsStretch lows free low b → IsTaking lows free new b high top next → HasRoom lows free c last top →
    HasRoom lows new more high next
taken lows free new c more low last high b top next e le o s t r = record {
  reach = λ k. r.reach k + under b k;
  steps = λ k h. elim (cases_lt (k + 1) b) [
    | inl l ↦ omega (arith, one_below k b (omega arith), one_below (k + 1) b l, r.steps k h, t.other (k + 1) (λ q. omega (arith, q, l)))
    | inr m ↦ elim (cases_lt b (k + 1)) [
      | inl l ↦ omega (arith, none_from k b (omega arith), none_from (k + 1) b m, r.steps k h, t.other (k + 1) (λ q. omega (arith, q, l)))
      | inr n ↦ at_found k h (omega arith)
    ]
  ];
  ends = λ k q. elim (cases_lt b (length lows)) [
    | inl l ↦ omega (arith, none_from k b (omega arith), r.ends k q, t.same l)
    | inr m ↦ omega (arith, one_below k b (omega arith), r.ends k q, t.past m)
  ];
  covers = λ k h. elim (cases_lt low (get_or lows k 0)) [
    | inl l ↦ omega (arith, o.above (get_or lows k 0) l, r.covers k h)
    | inr m ↦ elim (cases_lt k b) [
      | inl l ↦ omega (arith, one_below k b l, o.upto (get_or lows k 0) m, r.covers k h)
      | inr n ↦ absurd (omega (arith, s.above k (omega (arith, s.next.least, n)) h, m))
    ]
  ];
  met = λ k h. elim (cases_lt k b) [
    | inl l ↦ elim (cases_lt k s.start) [
      | inl i ↦ early k h l i
      | inr i ↦ late k h l i
    ]
    | inr m ↦ beyond k h m
  ];
  within = λ k h. elim (cases_lt k b) [
    | inl l ↦ elim (cases_lt b (length lows)) [
      | inl i ↦ omega (arith, one_below k b l, rises_to lows free c last top r k (b - 1) (omega arith) (omega arith), steps_to lows free c last top r b (omega arith) i, r.within b i, t.fits i, s.next.left (omega (arith, i, e)))
      | inr i ↦ omega (arith, one_below k b l, rises_to lows free c last top r k (length lows - 1) (omega arith) (omega arith), r.ends (length lows - 1) (omega arith), t.past_fits i)
    ]
    | inr m ↦ omega (arith, none_from k b m, r.within k h, le)
  ];
}
  where
    at_found : (k : ℕ) → k + 1 < length lows → k + 1 ≡ b → r.reach (k + 1) + under b (k + 1) ≡ (r.reach k + under b k) + get_or new (k + 1) 0
    at_found k h q =
        let was : get_or free (k + 1) 0 ≡ get_or free b 0 = ap (λ m. get_or free m 0) q in
        let is : get_or new (k + 1) 0 ≡ get_or new b 0 = ap (λ m. get_or new m 0) q in
        omega (arith, one_below k b (omega arith), none_from (k + 1) b (omega arith), r.steps k h, was, is, t.here (omega arith))

    early : (k : ℕ) → k < length lows → k < b → k < s.start → (i : ℕ) × (i ≤ k) × (r.reach k + under b k ≡ filled lows more i)
    early k h l i =
        let q = r.met k h in
        (q.0, q.1, omega (arith, one_below k b l, q.2, o.upto (get_or lows q.0 0) (s.upto q.0 (omega (arith, q.1, i)))))

    late : (k : ℕ) → k < length lows → k < b → s.start ≤ k → (i : ℕ) × (i ≤ k) × (r.reach k + under b k ≡ filled lows more i)
    late k h l i =
        let q = r.met (s.start - 1) (omega (arith, i, h)) in
        (q.0, omega (arith, q.1, i), omega (arith, one_below k b l, level lows free c low last top b r s e k (omega (arith, i)) l, q.2, o.upto (get_or lows q.0 0) (s.upto q.0 (omega (arith, q.1, s.some)))))

    beyond : (k : ℕ) → k < length lows → b ≤ k → (i : ℕ) × (i ≤ k) × (r.reach k + under b k ≡ filled lows more i)
    beyond k h m = by (r.met k h)
      where
        by : (i : ℕ) × (i ≤ k) × (r.reach k ≡ filled lows c i) → (i : ℕ) × (i ≤ k) × (r.reach k + under b k ≡ filled lows more i)
        by q = elim (cases_lt q.0 s.start) [
          | inl l ↦
              absurd (omega (arith, q.2, r.covers q.0 (omega (arith, q.1, h)), rises_to lows free c last top r q.0 (b - 1) (omega (arith, l, s.next.least)) (omega (arith, m, h)), steps_to lows free c last top r b (omega (arith, l, s.next.least)) (omega (arith, m, h)), rises_to lows free c last top r b k m h, s.next.left (omega (arith, m, h, e))))
          | inr n ↦ (q.0, q.1, omega (arith, none_from k b m, q.2, o.above (get_or lows q.0 0) (s.above q.0 n (omega (arith, q.1, h)))))
        ]
