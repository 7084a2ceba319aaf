-- What full ranges take from an item, and what they leave alone.
use Rattle.std.proofs.Common.{◌≡◌, inl, inr, ℕ, zero, suc, ◌-◌, ◌<◌, ◌≤◌, Bool, true, false, ◌&&◌, List, [], ◌∷◌, length, get_or, refl, sym, ◌∙◌, subst, arith, ℤ}
use Rattle.std.specs.Prelude.{pos, ◌+ℤ◌, ◌≤ℤ◌, ◌<ℤ◌, int_le, int_lt}
use Rattle.std.proofs.lemmas.Int.{ints}
use Rattle.std.proofs.lemmas.Bool.Decides.{nat_tests}
use Rattle.std.proofs.lemmas.List.Sums.{count_by-le-length}
use Rattle.std.proofs.lemmas.Bool.{and_from}
use Rattle.qc_model.specs.Domains.{Values, values_within, least_value, greatest_value, has_value, is_within, is_none_left}
use Rattle.qc_model.specs.Valid.{is_number}
use Rattle.model_arguments.proofs.Values.{has_least, has_greatest}
use Rattle.qc_refuter.proofs.Domains.{some_left}
use Rattle.qc_refuter.specs.Full.{lies_in, held, IsWidest, AreWidest}
use Rattle.qc_refuter.specs.Met.{is_domain_left}
use Rattle.qc_refuter.proofs.Fill.{least_to_greatest, held_roomy}
use Rattle.qc_refuter.proofs.Seen.{has_within}
use Rattle.qc_refuter.proofs.Terms.{least_small, greatest_small}
use Rattle.prop_different.specs.Different.{IsLeftAlone, IsFullCut, IsRoom, AreRooms}
use Rattle.prop_different.specs.Quiet.{is_among, IsApart, IsQuiet}
use Rattle.prop_different.proofs.Hall.{lies_from}

widest_most : (f : ℕ → ℕ) (k j m : ℕ) → IsWidest f k j → m ≤ k → f m ≡ m → m ≤ j
widest_most f k j m w h e = by (m - j) refl
  where
    by : (r : ℕ) → m - j ≡ r → m ≤ j
    by zero q = omega (arith, q)
    by (suc r) q = absurd (omega (arith, e, w.rest m (omega (arith, q)) h))

-- where x ends below the length, and where it ends beyond
pub room_here : (f : ℕ → ℕ) (widest : List ℕ) (last k : ℕ) → AreWidest f widest last → k < length widest → IsRoom f (length widest) k (get_or widest k 0)
room_here f widest last k w h = record {
  short = (w.each k h).most;
  full = (w.each k h).full;
  most = λ m a b e. widest_most f k (get_or widest k 0) m (w.each k h) a e;
}

pub room_beyond : (f : ℕ → ℕ) (widest : List ℕ) (last k : ℕ) → AreWidest f widest last → length widest ≤ k → IsRoom f (length widest) k last
room_beyond f widest last k w h = record {
  short = omega (arith, w.whole.most, h);
  full = w.whole.full;
  most = λ m a b e. widest_most f (length widest) last m w.whole b e;
}

-- a range that is full has no more numbers than there are items
few_numbers : (ds : List Values) (l : ℤ) (n : ℕ) → held ds l n ≡ n → n ≤ length ds
few_numbers ds l n e = omega (arith, e, count_by-le-length (lies_in l n) ds)

outside_below : (l v : ℤ) (n : ℕ) → v <ℤ l → is_among l n v ≡ false
outside_below l v n h = grind (arith, ints, h)

outside_above : (l v : ℤ) (n : ℕ) → (l +ℤ pos n) ≤ℤ v → is_among l n v ≡ false
outside_above l v n h = grind (arith, ints, h)

-- an item that ends before l
pub alone_below : (ds : List Values) (l : ℤ) (d : Values) → greatest_value d <ℤ l → IsLeftAlone ds l d
alone_below ds l d h n s e =
    inr (outside_below l (least_value d) n (before (least_value d) (greatest_value d) h (least_to_greatest d)), outside_below l (greatest_value d) n h)
  where
    before : (a b : ℤ) → b <ℤ l → a ≤ℤ b → a <ℤ l
    before a b h k = omega (arith, ints, h, k)

-- one that begins before l, and ends past all full ranges
pub alone_around : (ds : List Values) (l : ℤ) (d : Values) (widest : List ℕ) (last : ℕ) → AreRooms ds l widest last → least_value d <ℤ l → (l +ℤ pos last) ≤ℤ greatest_value d → IsLeftAlone ds l d
alone_around ds l d widest last w h k n s e =
    let most = widest_most (held ds l) (length widest) last n w.widest.whole (omega (arith, w.count, few_numbers ds l n e)) e in
    inr (outside_below l (least_value d) n h, outside_above l (greatest_value d) n (past (greatest_value d) k most))
  where
    past : (b : ℤ) → (l +ℤ pos last) ≤ℤ b → n ≤ last → (l +ℤ pos n) ≤ℤ b
    past b h k = omega (arith, ints, h, k)

-- one that begins past all full ranges that it doesn't lie in
pub alone_after : (ds : List Values) (l : ℤ) (d : Values) (widest : List ℕ) (last k room : ℕ) → AreRooms ds l widest last → IsRoom (held ds l) (length widest) k room → greatest_value d ≡ l +ℤ pos k → (l +ℤ pos room) ≤ℤ least_value d →
    IsLeftAlone ds l d
alone_after ds l d widest last k room w r g h n s e = by (n - k) refl
  where
    starts : (a : ℤ) → (l +ℤ pos room) ≤ℤ a → l ≤ℤ a
    starts a h = omega (arith, ints, h)

    ends : (b : ℤ) → b ≡ l +ℤ pos k → k < n → b <ℤ (l +ℤ pos n)
    ends b g c = omega (arith, ints, g, c)

    past : (a : ℤ) → (l +ℤ pos room) ≤ℤ a → n ≤ room → (l +ℤ pos n) ≤ℤ a
    past a h c = omega (arith, ints, h, c)

    later : (a b : ℤ) → (l +ℤ pos n) ≤ℤ a → a ≤ℤ b → (l +ℤ pos n) ≤ℤ b
    later a b h c = omega (arith, ints, h, c)

    by : (c : ℕ) → n - k ≡ c → IsApart l n d
    by zero q =
        let most = r.most n (omega (arith, q)) (omega (arith, w.count, few_numbers ds l n e)) e in
        let p = past (least_value d) h most in
        inr (outside_above l (least_value d) n p, outside_above l (greatest_value d) n (later (least_value d) (greatest_value d) p (least_to_greatest d)))
    by (suc c) q = inl (lies_from l n d (starts (least_value d) h) (ends (greatest_value d) g (omega (arith, q))))

-- a number
pub alone_number : (ds : List Values) (l m : ℤ) → IsLeftAlone ds l (m ∷ [])
alone_number ds l m n s e = by (is_among l n m) refl
  where
    by : (b : Bool) → is_among l n m ≡ b → IsApart l n (m ∷ [])
    by true q = inl q
    by false q = inr (q, q)

some_within : (low high v : ℤ) (vs : Values) → has_value vs v ≡ true → low ≤ℤ v → v ≤ℤ high → is_none_left (values_within low high vs) ≡ false
some_within low high v vs h a b = by (values_within low high vs) (has_within vs low high v ∙ and_from (is_within low high v) (has_value vs v) (within a b) h)
  where
    within : low ≤ℤ v → v ≤ℤ high → is_within low high v ≡ true
    within a b = grind (arith, ints, a, b)

    by : (us : Values) → has_value us v ≡ true → is_none_left us ≡ false
    by [] e = cc
    by (u ∷ us) e = refl

begins_before : (l a b : ℤ) (n : ℕ) → a <ℤ l → (int_le l a && int_lt b (l +ℤ pos n)) ≡ false
begins_before l a b n h = grind (arith, ints, h)

ends_beyond : (l a b : ℤ) (n : ℕ) → (l +ℤ pos n) ≤ℤ b → (int_le l a && int_lt b (l +ℤ pos n)) ≡ false
ends_beyond l a b n h = by (int_le l a) (beyond h)
  where
    beyond : (l +ℤ pos n) ≤ℤ b → int_lt b (l +ℤ pos n) ≡ false
    beyond h = grind (arith, ints, h)

    by : (p : Bool) → int_lt b (l +ℤ pos n) ≡ false → (p && int_lt b (l +ℤ pos n)) ≡ false
    by true e = e
    by false e = refl

-- what the widest full range takes from an item that begins before it and ends in it
pub cut_before : (ds : List Values) (l : ℤ) (d : Values) (widest : List ℕ) (last : ℕ) → AreRooms ds l widest last → is_domain_left d ≡ true → is_number l ≡ true → least_value d <ℤ l → l ≤ℤ greatest_value d → greatest_value d <ℤ (l +ℤ pos last) →
    IsFullCut ds l d l (greatest_value d)
cut_before ds l d widest last w o s a b c = record {
  numbers = last;
  full = w.widest.whole.full;
  outside = begins_before l (least_value d) (greatest_value d) last a;
  from = same l;
  to = c;
  some = some_within l (greatest_value d) (greatest_value d) d (has_greatest d (some_left d o)) b (same (greatest_value d));
  small_low = s;
  small_high = greatest_small d o;
}
  where
    same : (v : ℤ) → v ≤ℤ v
    same v = omega (arith, ints)

between : (a v b : ℤ) → is_number a ≡ true → is_number b ≡ true → a ≤ℤ v → v ≤ℤ b → is_number v ≡ true
between a v b p q h k = grind (arith, nat_tests, ints, p, q, h, k)

-- what it takes from one that begins in it and ends beyond
pub cut_after : (ds : List Values) (l : ℤ) (d : Values) (top k room : ℕ) (high : ℤ) → IsRoom (held ds l) top k room → is_domain_left d ≡ true → l ≤ℤ least_value d → least_value d ≤ℤ high → (high +ℤ pos 1) ≡ l +ℤ pos room → greatest_value d ≡ l +ℤ pos k →
    IsFullCut ds l d (least_value d) high
cut_after ds l d top k room high r o a b e g = record {
  numbers = room;
  full = r.full;
  outside = ends_beyond l (least_value d) (greatest_value d) room (past (greatest_value d) g);
  from = a;
  to = last;
  some = some_within (least_value d) high (least_value d) d (has_least d (some_left d o)) (same (least_value d)) b;
  small_low = least_small d o;
  small_high = between (least_value d) high (greatest_value d) (least_small d o) (greatest_small d o) b (below (greatest_value d) g);
}
  where
    same : (v : ℤ) → v ≤ℤ v
    same v = omega (arith, ints)

    past : (b : ℤ) → b ≡ l +ℤ pos k → (l +ℤ pos room) ≤ℤ b
    past b g = omega (arith, ints, g, r.short)

    last : high <ℤ (l +ℤ pos room)
    last = omega (arith, ints, e)

    below : (b : ℤ) → b ≡ l +ℤ pos k → high ≤ℤ b
    below b g = omega (arith, ints, g, e, r.short)

-- numbers that were read
pub read_below : (s l m : ℤ) → int_lt s l ≡ true → s ≡ m → m <ℤ l
read_below s l m h e = omega (arith, ints, h, e)

pub read_from : (s l m : ℤ) → int_lt s l ≡ false → s ≡ m → l ≤ℤ m
read_from s l m h e = omega (arith, ints, h, e)

pub read_end : (l g m : ℤ) (k : ℕ) → l +ℤ pos k ≡ g → g ≡ m → m ≡ l +ℤ pos k
read_end l g m k h e = omega (arith, ints, h, e)

pub cut_moved : (ds : List Values) (l : ℤ) (d : Values) (a b u v : ℤ) → IsFullCut ds l d a b → u ≡ a → v ≡ b → IsFullCut ds l d u v
cut_moved ds l d a b u v t e f = subst (λ z. IsFullCut ds l d z v) (sym e) (subst (λ z. IsFullCut ds l d a z) (sym f) t)

-- where all items are left alone, the ranges from l on are quiet
pub quiet_of : (ds : List Values) (l : ℤ) (rooms : List ℕ) (last : ℕ) → AreRooms ds l rooms last → ((k : ℕ) → k < length ds → IsLeftAlone ds l (get_or ds k [])) → IsQuiet ds l
quiet_of ds l rooms last w f = record {
  room = held_roomy ds l rooms last w.count w.widest;
  apart = λ n s e k h. f k h n s e;
}

-- as they are where no range is full
pub quiet_none : (ds : List Values) (l : ℤ) (rooms : List ℕ) (last : ℕ) → AreRooms ds l rooms last → last ≡ 0 → IsQuiet ds l
quiet_none ds l rooms last w z = record {
  room = held_roomy ds l rooms last w.count w.widest;
  apart = λ n s e k h. absurd (omega (arith, s, z, widest_most (held ds l) (length rooms) last n w.widest.whole (omega (arith, w.count, few_numbers ds l n e)) e));
}
