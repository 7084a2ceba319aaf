-- What full ranges leave alone.
use Rattle.std.proofs.Common.{◌≡◌, inl, inr, ℕ, zero, suc, ◌+◌, ◌-◌, ◌<◌, ◌≤◌, false, List, [], length, get_or, refl, arith, ℤ}
use Rattle.std.specs.Prelude.{pos, ◌+ℤ◌, ◌≤ℤ◌, ◌<ℤ◌}
use Rattle.std.proofs.lemmas.Int.{ints}
use Rattle.std.proofs.lemmas.List.Sums.{count_by-le-length}
use Rattle.qc_model.specs.Domains.{Values, least_value, greatest_value}
use Rattle.qc_refuter.specs.Full.{lies_in, held, IsWidest, AreWidest}
use Rattle.qc_refuter.proofs.Fill.{least_to_greatest, held_roomy}
use Rattle.dense_quiet.specs.declared.differing.Ends.{Ends}
use Rattle.dense_quiet.specs.declared.differing.Sight.{Sight}
use Rattle.dense_quiet.specs.declared.differing.Sight.TheVariants.{Quiet, Crowded, Filled, Unknown}
use Rattle.dense_quiet.specs.Differing.{StandsFor, AreEndsOf, is_among, IsApart, IsLeftAlone, IsQuiet, IsRoom, AreRooms, Tells}
use Rattle.dense_quiet.proofs.FullRanges.{lies_from}

widest_most : (f : ℕ → ℕ) (k j m : ℕ) → IsWidest f k j → m ≤ k → f m ≡ m → m ≤ j
widest_most f k j m w h e = by (m - j) refl
  where
    by : (r : ℕ) → m - j ≡ r → m ≤ j
    by zero q = omega (arith, q)
    by (suc r) q = absurd (omega (arith, e, w.rest m (omega (arith, q)) h))

-- where x ends below the length, and where it ends beyond
pub room_here : (f : ℕ → ℕ) (widest : List ℕ) (last k : ℕ) → AreWidest f widest last → k < length widest → IsRoom f (length widest) k (get_or widest k 0)
room_here f widest last k w h = record {
  short = (w.each k h).most;
  full = (w.each k h).full;
  most = λ m a b e. widest_most f k (get_or widest k 0) m (w.each k h) a e;
}

pub room_beyond : (f : ℕ → ℕ) (widest : List ℕ) (last k : ℕ) → AreWidest f widest last → length widest ≤ k → IsRoom f (length widest) k last
room_beyond f widest last k w h = record {
  short = omega (arith, w.whole.most, h);
  full = w.whole.full;
  most = λ m a b e. widest_most f (length widest) last m w.whole b e;
}

-- a range that is full has no more numbers than there are items
few_numbers : (ds : List Values) (l : ℤ) (n : ℕ) → held ds l n ≡ n → n ≤ length ds
few_numbers ds l n e = omega (arith, e, count_by-le-length (lies_in l n) ds)

outside_below : (l v : ℤ) (n : ℕ) → v <ℤ l → is_among l n v ≡ false
outside_below l v n h = grind (arith, ints, h)

outside_above : (l v : ℤ) (n : ℕ) → (l +ℤ pos n) ≤ℤ v → is_among l n v ≡ false
outside_above l v n h = grind (arith, ints, h)

-- an item that ends before l
pub alone_below : (ds : List Values) (l : ℤ) (d : Values) → greatest_value d <ℤ l → IsLeftAlone ds l d
alone_below ds l d h n s e =
    inr (outside_below l (least_value d) n (before (least_value d) (greatest_value d) h (least_to_greatest d)), outside_below l (greatest_value d) n h)
  where
    before : (a b : ℤ) → b <ℤ l → a ≤ℤ b → a <ℤ l
    before a b h k = omega (arith, ints, h, k)

-- one that begins before l, and ends past all full ranges
pub alone_around : (ds : List Values) (l : ℤ) (d : Values) (widest : List ℕ) (last : ℕ) → AreRooms ds l widest last → least_value d <ℤ l → (l +ℤ pos last) ≤ℤ greatest_value d → IsLeftAlone ds l d
alone_around ds l d widest last w h k n s e =
    let most = widest_most (held ds l) (length widest) last n w.widest.whole (omega (arith, w.count, few_numbers ds l n e)) e in
    inr (outside_below l (least_value d) n h, outside_above l (greatest_value d) n (past (greatest_value d) k most))
  where
    past : (b : ℤ) → (l +ℤ pos last) ≤ℤ b → n ≤ last → (l +ℤ pos n) ≤ℤ b
    past b h k = omega (arith, ints, h, k)

-- one that begins past all full ranges that it doesn't lie in
pub alone_after : (ds : List Values) (l : ℤ) (d : Values) (widest : List ℕ) (last k room : ℕ) → AreRooms ds l widest last → IsRoom (held ds l) (length widest) k room → greatest_value d ≡ l +ℤ pos k → (l +ℤ pos room) ≤ℤ least_value d →
    IsLeftAlone ds l d
alone_after ds l d widest last k room w r g h n s e = by (n - k) refl
  where
    starts : (a : ℤ) → (l +ℤ pos room) ≤ℤ a → l ≤ℤ a
    starts a h = omega (arith, ints, h)

    ends : (b : ℤ) → b ≡ l +ℤ pos k → k < n → b <ℤ (l +ℤ pos n)
    ends b g c = omega (arith, ints, g, c)

    past : (a : ℤ) → (l +ℤ pos room) ≤ℤ a → n ≤ room → (l +ℤ pos n) ≤ℤ a
    past a h c = omega (arith, ints, h, c)

    later : (a b : ℤ) → (l +ℤ pos n) ≤ℤ a → a ≤ℤ b → (l +ℤ pos n) ≤ℤ b
    later a b h c = omega (arith, ints, h, c)

    by : (c : ℕ) → n - k ≡ c → IsApart l n d
    by zero q =
        let most = r.most n (omega (arith, q)) (omega (arith, w.count, few_numbers ds l n e)) e in
        let p = past (least_value d) h most in
        inr (outside_above l (least_value d) n p, outside_above l (greatest_value d) n (later (least_value d) (greatest_value d) p (least_to_greatest d)))
    by (suc c) q = inl (lies_from l n d (starts (least_value d) h) (ends (greatest_value d) g (omega (arith, q))))

-- where all items are left alone, the ranges from l on are quiet
pub quiet_of : (ds : List Values) (l : ℤ) (rooms : List ℕ) (last : ℕ) → AreRooms ds l rooms last → ((k : ℕ) → k < length ds → IsLeftAlone ds l (get_or ds k [])) → IsQuiet ds l
quiet_of ds l rooms last w f = record {
  room = held_roomy ds l rooms last w.count w.widest;
  alone = f;
}

-- as they are where no range is full
pub quiet_none : (ds : List Values) (l : ℤ) (rooms : List ℕ) (last : ℕ) → AreRooms ds l rooms last → last ≡ 0 → IsQuiet ds l
quiet_none ds l rooms last w z = record {
  room = held_roomy ds l rooms last w.count w.widest;
  alone = λ k h n s e. absurd (omega (arith, s, z, widest_most (held ds l) (length rooms) last n w.widest.whole (omega (arith, w.count, few_numbers ds l n e)) e));
}

-- the same by the ends that were read
pub ends_below : (ds : List Values) (v : ℤ) (d : Values) (l : ℕ) (e : Ends) → StandsFor l v → AreEndsOf d e → e.high < l → IsLeftAlone ds v d
ends_below ds v d l e s a h = alone_below ds v d (before (greatest_value d) a.high)
  where
    before : (b : ℤ) → StandsFor e.high b → b <ℤ v
    before b q = omega (arith, ints, s, q, h)

pub ends_around : (ds : List Values) (v : ℤ) (d : Values) (l : ℕ) (e : Ends) (widest : List ℕ) (last : ℕ) → StandsFor l v → AreEndsOf d e → AreRooms ds v widest last → e.low < l → l + last ≤ e.high → IsLeftAlone ds v d
ends_around ds v d l e widest last s a w h k = alone_around ds v d widest last w (before (least_value d) a.low) (past (greatest_value d) a.high)
  where
    before : (b : ℤ) → StandsFor e.low b → b <ℤ v
    before b q = omega (arith, ints, s, q, h)

    past : (b : ℤ) → StandsFor e.high b → (v +ℤ pos last) ≤ℤ b
    past b q = omega (arith, ints, s, q, k)

pub ends_after : (ds : List Values) (v : ℤ) (d : Values) (l : ℕ) (e : Ends) (widest : List ℕ) (last k room : ℕ) → StandsFor l v → AreEndsOf d e → AreRooms ds v widest last → IsRoom (held ds v) (length widest) k room → e.high ≡ l + k → l + room ≤ e.low →
    IsLeftAlone ds v d
ends_after ds v d l e widest last k room s a w r q h = alone_after ds v d widest last k room w r (ends (greatest_value d) a.high) (starts (least_value d) a.low)
  where
    ends : (b : ℤ) → StandsFor e.high b → b ≡ v +ℤ pos k
    ends b p = omega (arith, ints, s, p, q)

    starts : (b : ℤ) → StandsFor e.low b → (v +ℤ pos room) ≤ℤ b
    starts b p = omega (arith, ints, s, p, h)

-- what is seen, said otherwise
pub tells_so : (s : Sight) (P Q R S : Type 0) → (P → R) → (Q → S) → Tells s P Q → Tells s R S
tells_so Quiet P Q R S f g h = f h
tells_so Crowded P Q R S f g h = g h
tells_so (Filled n) P Q R S f g h = h
tells_so Unknown P Q R S f g h = h
