-- How many steps fit into the room, as the code counts them.
use Rattle.std.proofs.Common.{◌≡◌, ◌≢◌, ◌∙◌, ℕ, Bool, ◌≤◌, ◌<◌, ◌+◌, ◌*◌, ◌/◌, true, false, sym, ap, subst, arith, ℤ}
use Rattle.std.specs.Prelude.{pos, negsuc, ◌+ℤ◌, ◌-ℤ◌, ◌*ℤ◌, neg_ℤ, ◌≤ℤ◌, ◌<ℤ◌, int_lt}
use Rattle.std.specs.Int.Signed.{quot_z}
use Rattle.std.proofs.Math.Nat.{mul-le-mul_left}
use Rattle.std.proofs.lemmas.Int.{ints, to_z-of_z}
use mir.Val.{SFits, to_z, of_z}
use mir.Syntax.{w64}
use Rattle.model_arguments.proofs.Kept.{lower, over_low, under_high}
use Rattle.qc_model.specs.Valid.{is_number}
use Rattle.dense_quiet.proofs.Distances.{small_fits, width_fits, inside_fits}

-- a number as it is passed on
abbrev pub passed : ℤ → ℤ
passed z = to_z w64 (of_z w64 z)

pub passed_is : (z : ℤ) → SFits w64 z → passed z ≡ z
passed_is z f = to_z-of_z w64 z f

pub passed_above : (z : ℤ) → SFits w64 z → pos 0 ≤ℤ z → pos 0 ≤ℤ passed z
passed_above z f h = subst (λ n. pos 0 ≤ℤ n) (sym (passed_is z f)) h

itself : (z : ℤ) → z ≤ℤ z
itself z = omega (arith, ints)

pub passed_most : (z : ℤ) → SFits w64 z → passed z ≤ℤ z
passed_most z f = subst (λ n. passed z ≤ℤ n) (passed_is z f) (itself (passed z))

pub not_below : (z : ℤ) → SFits w64 z → (P : Type 0) → passed z <ℤ z → P
not_below z f P h = absurd (apart (passed z) z (passed_is z f) h)
  where
    apart : (a b : ℤ) → a ≡ b → a <ℤ b → ⊥
    apart a b e h = omega (arith, ints)

-- a number that is at most a bound that was passed on, as it is passed on itself
pub passed_within : (r w : ℤ) → SFits w64 r → SFits w64 w → r ≤ℤ passed w → passed r ≤ℤ w
passed_within r w f g h = subst (λ n. n ≤ℤ w) (sym (passed_is r f)) (subst (λ n. r ≤ℤ n) (passed_is w g) h)

-- so many sizes fit into the room, and one more doesn't
record IsCount (room size count : ℤ) : Type 0 where
  some : pos 0 ≤ℤ count
  fits : (size *ℤ count) ≤ℤ room
  past : room <ℤ (size *ℤ (count +ℤ pos 1))
  narrow : SFits w64 count

counted : (room size : ℤ) → SFits w64 room → pos 0 ≤ℤ room → pos 0 <ℤ size → IsCount room size (quot_z room size)
counted (pos a) (pos b) f h k = record { some = omega (arith, ints); fits = omega (arith, ints, under a b (above b k)); past = omega (arith, ints, over a b (above b k)); narrow = smaller a b f (above b k) }
  where
    above : (b : ℕ) → pos 0 <ℤ pos b → 0 < b
    above b k = omega (arith, ints)

    under : (a b : ℕ) → 0 < b → b * (a / b) ≤ a
    under a b h = omega arith

    over : (a b : ℕ) → 0 < b → a < b * (a / b + 1)
    over a b h = omega arith

    smaller : (a b : ℕ) → SFits w64 (pos a) → 0 < b → SFits w64 (pos (a / b))
    smaller a b f h = omega (arith, ints)
counted (pos a) (negsuc b) f h k = absurd k.lt
counted (negsuc a) size f h k = absurd h.le

-- the quotient as the code has it
abbrev pub quotient : ℤ → ℤ → ℤ
quotient room size = quot_z (passed room) (passed size)

quotient_is : (room size : ℤ) → SFits w64 room → SFits w64 size → quotient room size ≡ quot_z room size
quotient_is room size f g = ap (λ a. quot_z a (passed size)) (passed_is room f) ∙ ap (quot_z room) (passed_is size g)

count_of : (room size : ℤ) → SFits w64 room → SFits w64 size → pos 0 ≤ℤ room → pos 0 <ℤ size → IsCount room size (quotient room size)
count_of room size f g h k = subst (IsCount room size) (sym (quotient_is room size f g)) (counted room size f h k)

passed_count : (room size : ℤ) → SFits w64 room → SFits w64 size → pos 0 ≤ℤ room → pos 0 <ℤ size → IsCount room size (passed (quotient room size))
passed_count room size f g h k =
    let n = count_of room size f g h k in
    subst (IsCount room size) (sym (passed_is (quotient room size) n.narrow)) n

-- the room may be divided
pub may_divide : (room size : ℤ) → SFits w64 room → SFits w64 size → pos 0 ≤ℤ room → pos 0 <ℤ size → (0 < of_z w64 size) × SFits w64 (quotient room size)
may_divide room size f g h k = (some size k, (count_of room size f g h k).narrow)
  where
    some : (size : ℤ) → pos 0 <ℤ size → 0 < of_z w64 size
    some (pos b) k = omega (arith, ints)
    some (negsuc b) k = absurd k.lt

module _ (room size : ℤ) (f : SFits w64 room) (g : SFits w64 size) (h : pos 0 ≤ℤ room) (k : pos 0 <ℤ size) where
  pub count_some : pos 0 ≤ℤ passed (quotient room size)
  count_some = (passed_count room size f g h k).some

  pub count_fits : (size *ℤ passed (quotient room size)) ≤ℤ room
  count_fits = (passed_count room size f g h k).fits

  pub count_past : room <ℤ (size *ℤ (passed (quotient room size) +ℤ pos 1))
  count_past = (passed_count room size f g h k).past

-- where it is less than the width, and where the width isn't more
pub count_below : (count width : ℤ) → SFits w64 width → int_lt count (passed width) ≡ true → count ≤ℤ width
count_below count width f h = below count width (subst (λ n. count <ℤ n) (passed_is width f) (lower count (passed width) h))
  where
    below : (a b : ℤ) → a <ℤ b → a ≤ℤ b
    below a b h = omega (arith, ints)

times_less : (size count width room : ℤ) → pos 0 <ℤ size → pos 0 ≤ℤ width → width ≤ℤ count → (size *ℤ count) ≤ℤ room → (size *ℤ width) ≤ℤ room
times_less (pos s) (pos c) (pos w) room h k l m = by (pos s *ℤ pos c) (pos s *ℤ pos w) room (fewer s c w (order c w l)) m
  where
    order : (c w : ℕ) → pos w ≤ℤ pos c → w ≤ c
    order c w l = omega (arith, ints)

    fewer : (s c w : ℕ) → w ≤ c → (pos s *ℤ pos w) ≤ℤ (pos s *ℤ pos c)
    fewer s c w h = omega (arith, ints, mul-le-mul_left s h)

    by : (a b r : ℤ) → b ≤ℤ a → a ≤ℤ r → b ≤ℤ r
    by a b r h k = omega (arith, ints)
times_less (pos s) (negsuc c) (pos w) room h k l m = absurd l.le
times_less (pos s) count (negsuc w) room h k l m = absurd k.le
times_less (negsuc s) count width room h k l m = absurd h.lt

not_less : (a b : ℤ) → int_lt a b ≡ false → b ≤ℤ a
not_less a b h = grind (arith, ints)

pub width_fits_room : (room size width : ℤ) → SFits w64 room → SFits w64 size → SFits w64 width → pos 0 ≤ℤ room → pos 0 <ℤ size → pos 0 ≤ℤ width → int_lt (passed (quotient room size)) (passed width) ≡ false → (size *ℤ passed width) ≤ℤ room
width_fits_room room size width f g w h k l t =
    times_less size (passed (quotient room size)) (passed width) room k (passed_above width w l) (not_less (passed (quotient room size)) (passed width) t) (count_fits room size f g h k)

-- the factor with the other sign
turned_is : (n : ℤ) → (pos 0 -ℤ n) ≡ neg_ℤ n
turned_is n = omega (arith, ints)

pub turned_fits : (n : ℤ) → SFits w64 n → is_number n ≡ true → SFits w64 (pos 0 -ℤ passed n)
turned_fits n f s = subst (λ z. SFits w64 (pos 0 -ℤ z)) (sym (passed_is n f)) (small_fits (pos 0 -ℤ n) (low n (under_high n s)) (high n (over_low n s)))
  where
    low : (n : ℤ) → n ≤ℤ pos 1000000000 → neg_ℤ (pos 4000000000) ≤ℤ (pos 0 -ℤ n)
    low n h = omega (arith, ints)

    high : (n : ℤ) → neg_ℤ (pos 1000000000) ≤ℤ n → (pos 0 -ℤ n) ≤ℤ pos 4000000000
    high n h = omega (arith, ints)

passed_turned : (n : ℤ) → SFits w64 n → is_number n ≡ true → passed (pos 0 -ℤ passed n) ≡ neg_ℤ n
passed_turned n f s = passed_is (pos 0 -ℤ passed n) (turned_fits n f s) ∙ (ap (λ z. pos 0 -ℤ z) (passed_is n f) ∙ turned_is n)

pub turned_above : (n : ℤ) → SFits w64 n → is_number n ≡ true → int_lt n (pos 0) ≡ true → pos 0 <ℤ passed (pos 0 -ℤ passed n)
turned_above n f s h = subst (λ z. pos 0 <ℤ z) (sym (passed_turned n f s)) (turn n (lower n (pos 0) h))
  where
    turn : (n : ℤ) → n <ℤ pos 0 → pos 0 <ℤ neg_ℤ n
    turn n h = omega (arith, ints)

-- the test of a factor, as it is passed on
pub test_of : (n : ℤ) (b : Bool) → SFits w64 n → int_lt (passed n) (pos 0) ≡ b → int_lt n (pos 0) ≡ b
test_of n b f h = subst (λ z. int_lt z (pos 0) ≡ b) (passed_is n f) h

pub rising_above : (n : ℤ) → SFits w64 n → n ≢ pos 0 → int_lt n (pos 0) ≡ false → pos 0 <ℤ passed n
rising_above n f s h = subst (λ z. pos 0 <ℤ z) (sym (passed_is n f)) (above n s (not_less n (pos 0) h))
  where
    above : (n : ℤ) → n ≢ pos 0 → pos 0 ≤ℤ n → pos 0 <ℤ n
    above n s h = omega (arith, ints)

-- what a call says of numbers as they are passed on, said of the numbers
past_as : (room size width r rooms sizes widths rs : ℤ) → rooms ≡ room → sizes ≡ size → widths ≡ width → rs ≡ r →
    (r <ℤ widths → rooms <ℤ (sizes *ℤ (r +ℤ pos 1))) → rs <ℤ width → room <ℤ (size *ℤ (rs +ℤ pos 1))
past_as room size width r rooms sizes widths rs a b c d h l =
    subst (λ z. room <ℤ (size *ℤ (z +ℤ pos 1))) (sym d)
    (subst (λ z. room <ℤ (z *ℤ (r +ℤ pos 1))) b
    (subst (λ z. z <ℤ (sizes *ℤ (r +ℤ pos 1))) a
    (h (subst (λ z. r <ℤ z) (sym c) (subst (λ z. z <ℤ width) d l)))))

pub past_rising : (n room width r : ℤ) → SFits w64 n → SFits w64 room → SFits w64 width → SFits w64 r →
    (r <ℤ passed width → passed room <ℤ (passed n *ℤ (r +ℤ pos 1))) → passed r <ℤ width → room <ℤ (n *ℤ (passed r +ℤ pos 1))
past_rising n room width r a b c d = past_as room n width r (passed room) (passed n) (passed width) (passed r) (passed_is room b) (passed_is n a) (passed_is width c) (passed_is r d)

pub past_falling : (n room width r : ℤ) → SFits w64 n → SFits w64 room → SFits w64 width → SFits w64 r → is_number n ≡ true →
    (r <ℤ passed width → passed room <ℤ (passed (pos 0 -ℤ passed n) *ℤ (r +ℤ pos 1))) → passed r <ℤ width → room <ℤ (neg_ℤ n *ℤ (passed r +ℤ pos 1))
past_falling n room width r a b c d s = past_as room (neg_ℤ n) width r (passed room) (passed (pos 0 -ℤ passed n)) (passed width) (passed r) (passed_is room b) (passed_turned n a s) (passed_is width c) (passed_is r d)

pub fits_falling : (n room r : ℤ) → SFits w64 n → SFits w64 room → SFits w64 r → is_number n ≡ true → (passed (pos 0 -ℤ passed n) *ℤ r) ≤ℤ passed room → (neg_ℤ n *ℤ passed r) ≤ℤ room
fits_falling n room r a b d s h =
    subst (λ z. (neg_ℤ n *ℤ z) ≤ℤ room) (sym (passed_is r d))
    (subst (λ z. (z *ℤ r) ≤ℤ room) (passed_turned n a s)
    (subst (λ z. (passed (pos 0 -ℤ passed n) *ℤ r) ≤ℤ z) (passed_is room b) h))

-- numbers between the ends and next to them fit
pub gap_fits : (least greatest : ℤ) → SFits w64 least → SFits w64 greatest → is_number least ≡ true → is_number greatest ≡ true → SFits w64 (passed greatest -ℤ passed least)
gap_fits least greatest f g a b =
    subst (λ z. SFits w64 (z -ℤ passed least)) (sym (passed_is greatest g)) (subst (λ z. SFits w64 (greatest -ℤ z)) (sym (passed_is least f)) (width_fits least greatest a b))

gap_is : (least greatest : ℤ) → SFits w64 least → SFits w64 greatest → is_number least ≡ true → is_number greatest ≡ true → passed (passed greatest -ℤ passed least) ≡ (greatest -ℤ least)
gap_is least greatest f g a b =
    passed_is (passed greatest -ℤ passed least) (gap_fits least greatest f g a b) ∙ (ap (λ z. z -ℤ passed least) (passed_is greatest g) ∙ ap (λ z. greatest -ℤ z) (passed_is least f))

pub gap_above : (least greatest : ℤ) → SFits w64 least → SFits w64 greatest → is_number least ≡ true → is_number greatest ≡ true → least ≤ℤ greatest → pos 0 ≤ℤ passed (passed greatest -ℤ passed least)
gap_above least greatest f g a b h = subst (λ z. pos 0 ≤ℤ z) (sym (gap_is least greatest f g a b)) (above least greatest h)
  where
    above : (p q : ℤ) → p ≤ℤ q → pos 0 ≤ℤ (q -ℤ p)
    above p q h = omega (arith, ints)

module _ (least greatest s : ℤ) (a : is_number least ≡ true) (b : is_number greatest ≡ true) (low : pos 0 ≤ℤ s) (high : s ≤ℤ (greatest -ℤ least)) where
  pub up_fits : SFits w64 (least +ℤ s)
  up_fits = inside_fits least greatest (least +ℤ s) a b (from least s low) (upto least greatest s high)
    where
      from : (p s : ℤ) → pos 0 ≤ℤ s → (p -ℤ pos 1) ≤ℤ (p +ℤ s)
      from p s h = omega (arith, ints)

      upto : (p q s : ℤ) → s ≤ℤ (q -ℤ p) → (p +ℤ s) ≤ℤ (q +ℤ pos 1)
      upto p q s h = omega (arith, ints)

  pub past_up_fits : SFits w64 ((least +ℤ s) +ℤ pos 1)
  past_up_fits = inside_fits least greatest ((least +ℤ s) +ℤ pos 1) a b (from least s low) (upto least greatest s high)
    where
      from : (p s : ℤ) → pos 0 ≤ℤ s → (p -ℤ pos 1) ≤ℤ ((p +ℤ s) +ℤ pos 1)
      from p s h = omega (arith, ints)

      upto : (p q s : ℤ) → s ≤ℤ (q -ℤ p) → ((p +ℤ s) +ℤ pos 1) ≤ℤ (q +ℤ pos 1)
      upto p q s h = omega (arith, ints)

  pub down_fits : SFits w64 (greatest -ℤ s)
  down_fits = inside_fits least greatest (greatest -ℤ s) a b (from least greatest s high) (upto greatest s low)
    where
      from : (p q s : ℤ) → s ≤ℤ (q -ℤ p) → (p -ℤ pos 1) ≤ℤ (q -ℤ s)
      from p q s h = omega (arith, ints)

      upto : (q s : ℤ) → pos 0 ≤ℤ s → (q -ℤ s) ≤ℤ (q +ℤ pos 1)
      upto q s h = omega (arith, ints)

  pub past_down_fits : SFits w64 ((greatest -ℤ s) -ℤ pos 1)
  past_down_fits = inside_fits least greatest ((greatest -ℤ s) -ℤ pos 1) a b (from least greatest s high) (upto greatest s low)
    where
      from : (p q s : ℤ) → s ≤ℤ (q -ℤ p) → (p -ℤ pos 1) ≤ℤ ((q -ℤ s) -ℤ pos 1)
      from p q s h = omega (arith, ints)

      upto : (q s : ℤ) → pos 0 ≤ℤ s → ((q -ℤ s) -ℤ pos 1) ≤ℤ (q +ℤ pos 1)
      upto q s h = omega (arith, ints)
