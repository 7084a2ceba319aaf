-- The first items, each with a number of its own.
use Rattle.std.proofs.Common.{◌≡◌, ℕ, zero, suc, ◌+◌, ◌<◌, ◌≤◌, Bool, true, false, ◌&&◌, cond, List, [], ◌∷◌, length, take, get_or, nat_le, refl, sym, ap, ◌∙◌, arith}
use Rattle.std.specs.List.{count_by}
use Rattle.std.specs.List.Sorted.{IsNonDecreasingBy}
use Rattle.std.proofs.lemmas.Bool.Decides.{nat_tests}
use Rattle.std.proofs.lemmas.List.{get_or_default}
use Rattle.std.proofs.lemmas.List.Sums.{sum_by-cons, count_by_more_yes, count_by_more_no}
use Rattle.qc_refuter.specs.declared.stretches.Ends.{Ends}
use Rattle.qc_refuter.specs.Stretches.{lies, IsPlaced, AreSkips, IsOneMore, HasRoom}

-- the item begins at l or after it
abbrev pub begins : ℕ → Ends → Bool
begins l e = nat_le l e.low

-- how many of the first items begin at l or after it
abbrev pub began : List Ends → ℕ → ℕ → ℕ
began items j l = count_by (begins l) (take j items)

-- no range from a least value on holds more of the items than numbers
abbrev pub AreUncrowded : List ℕ → List Ends → Type 0
AreUncrowded lows es = (k h : ℕ) → k < length lows → get_or lows k 0 ≤ h → get_or lows k 0 + count_by (lies (get_or lows k 0) h) es ≤ h + 1

pub record AreSeated (items : List Ends) (lows free : List ℕ) (j top : ℕ) : Type 0 where
  pub last : ℕ
  pub room : HasRoom lows free (began items j) last top
  pub later : (i : ℕ) (d : Ends) → j ≤ i → i < length items → last ≤ (get_or items i d).high
  pub none : AreUncrowded lows (take j items)

pub none_seated : (items : List Ends) (lows free : List ℕ) (top : ℕ) → ((k : ℕ) → k + 1 < length lows → get_or lows (k + 1) 0 ≡ get_or lows k 0 + get_or free (k + 1) 0) → ((k : ℕ) → k + 1 ≡ length lows → get_or lows k 0 ≡ top) →
    AreSeated items lows free 0 top
none_seated items lows free top f e = record {
  last = 0;
  room = record {
    reach = λ k. get_or lows k 0;
    steps = f;
    ends = e;
    covers = λ k h. omega arith;
    met = λ k h. (k, omega arith, omega arith);
    within = λ k h. omega arith;
  };
  later = λ i d p h. omega arith;
  none = λ k h p q. omega (arith, q);
}

begins_yes : (l : ℕ) (e : Ends) → l ≤ e.low → begins l e ≡ true
begins_yes l e h = grind (arith, nat_tests)

begins_no : (l : ℕ) (e : Ends) → e.low < l → begins l e ≡ false
begins_no l e h = grind (arith, nat_tests)

pub one_began : (items : List Ends) (j : ℕ) (d : Ends) → j < length items → IsOneMore (get_or items j d).low (began items j) (began items (j + 1))
one_began items j d h = record {
  upto = λ l m. count_by_more_yes (begins l) items j d h (begins_yes l (get_or items j d) m);
  above = λ l m. count_by_more_no (begins l) items j d h (begins_no l (get_or items j d) m);
}

-- of the first items those that pass one test pass another, so among all as many do
first_pass : {X : Type 0} (p q : X → Bool) (d : X) (xs : List X) (m : ℕ) → ((i : ℕ) → i < m → i < length xs → cond (q (get_or xs i d)) 1 0 ≤ cond (p (get_or xs i d)) 1 0) → count_by q (take m xs) ≤ count_by p xs
first_pass p q d [] zero f = omega arith
first_pass p q d [] (suc m) f = omega arith
first_pass p q d (x ∷ xs) zero f = omega arith
first_pass p q d (x ∷ xs) (suc m) f =
    omega (arith, sum_by-cons (λ y. cond (q y) 1 0) x (take m xs), sum_by-cons (λ y. cond (p y) 1 0) x xs, f 0 (omega arith) (omega arith), first_pass p q d xs m (λ i h k. f (suc i) (omega (arith, h)) (omega (arith, k))))

fewer_pass : {X : Type 0} (p q : X → Bool) (xs : List X) → ((x : X) → cond (q x) 1 0 ≤ cond (p x) 1 0) → count_by q xs ≤ count_by p xs
fewer_pass p q [] f = omega arith
fewer_pass p q (x ∷ xs) f = omega (arith, sum_by-cons (λ y. cond (q y) 1 0) x xs, sum_by-cons (λ y. cond (p y) 1 0) x xs, f x, fewer_pass p q xs f)

and_less : (a b : Bool) → cond (a && b) 1 0 ≤ cond a 1 0
and_less true true = omega arith
and_less true false = omega arith
and_less false b = omega arith

lies_both : (l h : ℕ) (e : Ends) → lies l h e ≡ true → (l ≤ e.low) × (e.high ≤ h)
lies_both l h e q = (low (nat_le l e.low) refl (nat_le e.high h) refl q, high (nat_le l e.low) refl (nat_le e.high h) refl q)
  where
    low : (a : Bool) → nat_le l e.low ≡ a → (b : Bool) → nat_le e.high h ≡ b → (a && b) ≡ true → l ≤ e.low
    low true f b g k = grind (arith, nat_tests)
    low false f b g k = cc

    high : (a : Bool) → nat_le l e.low ≡ a → (b : Bool) → nat_le e.high h ≡ b → (a && b) ≡ true → e.high ≤ h
    high true f true g k = grind (arith, nat_tests)
    high true f false g k = cc
    high false f b g k = cc

pub more_seated : (items : List Ends) (lows free : List ℕ) (j top : ℕ) (d : Ends) → IsNonDecreasingBy (λ (e : Ends). e.high) items → j < length items → IsPlaced lows (get_or items j d) → AreUncrowded lows (take j items) → HasRoom lows free (began items (j + 1)) (get_or items j d).high top →
    AreSeated items lows free (j + 1) top
more_seated items lows free j top d up h placed none room = record {
  last = (get_or items j d).high;
  room = room;
  later = λ i e p q. omega (arith, up j i e (omega (arith, p)) q, ap {B = ℕ} (λ (x : Ends). x.high) (get_or_default items j d e h));
  none = λ k z p q. by k z p q (lies (get_or lows k 0) z (get_or items j d)) refl;
}
  where
    by : (k z : ℕ) → k < length lows → get_or lows k 0 ≤ z → (b : Bool) → lies (get_or lows k 0) z (get_or items j d) ≡ b → get_or lows k 0 + count_by (lies (get_or lows k 0) z) (take (j + 1) items) ≤ z + 1
    by k z p q true e =
        let both = lies_both (get_or lows k 0) z (get_or items j d) e in
        let few = fewer_pass (begins (get_or lows k 0)) (lies (get_or lows k 0) z) (take (j + 1) items) (λ x. and_less (nat_le (get_or lows k 0) x.low) (nat_le x.high z)) in
        omega (arith, few, both.1, room.covers k p, room.within k p, q)
    by k z p q false e = omega (arith, count_by_more_no (lies (get_or lows k 0) z) items j d h e, none k z p q)

-- an item that finds no number shows a crowd
pub crowd_seated : (items : List Ends) (lows : List ℕ) (j l : ℕ) (d : Ends) → IsNonDecreasingBy (λ (e : Ends). e.high) items → j < length items → IsPlaced lows (get_or items j d) → l ≤ (get_or items j d).low → (get_or items j d).high < l + began items j l →
    (l : ℕ) × (h : ℕ) × (l ≤ h) × (h + 1 < l + count_by (lies l h) items)
crowd_seated items lows j l d up h placed m f =
    let z = (get_or items j d).high in
    (l, z, omega (arith, m, placed.order), omega (arith, f, (one_began items j d h).upto l m, first_pass (lies l z) (begins l) d items (j + 1) (λ i p q. inside (get_or items i d) (up i j d (omega (arith, p)) h))))
  where
    inside : (e : Ends) → e.high ≤ (get_or items j d).high → cond (begins l e) 1 0 ≤ cond (lies l (get_or items j d).high e) 1 0
    inside e k = by (nat_le l e.low) (nat_le e.high (get_or items j d).high) (upto e.high (get_or items j d).high k)
      where
        upto : (a b : ℕ) → a ≤ b → nat_le a b ≡ true
        upto a b p = grind (arith, nat_tests)

        by : (a b : Bool) → b ≡ true → cond a 1 0 ≤ cond (a && b) 1 0
        by true true q = omega arith
        by true false q = cc
        by false b q = omega arith

-- at the start a stretch leads on to the next, and what gets fuller stays full
pub first_skips : (free skips : List ℕ) → length skips ≡ length free → ((k : ℕ) → k < length skips → get_or skips k 0 ≡ k + 1) → AreSkips free skips
first_skips free skips e f = record {
  same = e;
  later = λ k h. omega (arith, f k (omega (arith, h, e)));
  most = λ k h. omega (arith, f k (omega (arith, h, e)), h);
  full = λ k i h p q. absurd (omega (arith, f k (omega (arith, h, e)), p, q));
}

pub fuller_skips : (free new skips : List ℕ) → length new ≡ length free → ((k : ℕ) → get_or new k 0 ≤ get_or free k 0) → AreSkips free skips → AreSkips new skips
fuller_skips free new skips e f s = record {
  same = s.same ∙ sym e;
  later = λ k h. s.later k (omega (arith, h, e));
  most = λ k h. omega (arith, s.most k (omega (arith, h, e)), e);
  full = λ k i h p q. omega (arith, f i, s.full k i (omega (arith, h, e)) p q);
}
