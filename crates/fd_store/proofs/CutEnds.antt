-- Where a removal begins and ends among the places of a cell, by the values there: plain numbers, without the passage to bits and back.
use Rattle.std.proofs.Common.{◌≡◌, ℕ, ◌≤◌, ◌<◌, ◌+◌, ◌-◌, true, false, sym, ◌∙◌, arith, ℤ}
use Rattle.std.specs.Prelude.{pos, ◌+ℤ◌, ◌≤ℤ◌, nat_lt, nat_le, int_lt, int_le}
use Rattle.std.specs.Int.{int_min, int_max}
use Rattle.std.proofs.lemmas.Int.{ints, clamps}

-- all values lie above hi
pub end_first : (b hi r : ℤ) (f e : ℕ) → r ≡ (b +ℤ pos f) → int_lt hi r ≡ true → (k : ℕ) → f ≤ k → k < e → nat_lt k f ≡ int_le (b +ℤ pos k) hi
end_first b hi r f e is h k p q =
    let left : nat_lt k f ≡ false = grind arith in
    let right : int_le (b +ℤ pos k) hi ≡ false = grind (arith, ints) in
    left ∙ sym right

-- none does
pub end_last : (b hi r : ℤ) (f e : ℕ) → r ≡ (b +ℤ pos e) → int_le r hi ≡ true → (k : ℕ) → f ≤ k → k < e → nat_lt k e ≡ int_le (b +ℤ pos k) hi
end_last b hi r f e is h k p q =
    let left : nat_lt k e ≡ true = grind arith in
    let right : int_le (b +ℤ pos k) hi ≡ true = grind (arith, ints) in
    left ∙ sym right

pub end_last_value : (b hi r : ℤ) (f e : ℕ) → r ≡ (b +ℤ pos e) → int_le r hi ≡ true → f < e → int_min hi (b +ℤ pos (e - 1)) ≡ (b +ℤ pos (e - 1))
end_last_value b hi r f e is h p = omega (arith, ints, clamps)

pub record IsAmong (b v : ℤ) (f e : ℕ) : Type 0 where
  pub from : (b +ℤ pos f) ≤ℤ v
  pub below : int_le (b +ℤ pos e) v ≡ false

pub hi_among : (b hi r s : ℤ) (f e : ℕ) → r ≡ (b +ℤ pos f) → int_lt hi r ≡ false → s ≡ (b +ℤ pos e) → int_le s hi ≡ false → IsAmong b hi f e
hi_among b hi r s f e i p j q = record { from = omega (arith, ints); below = grind (arith, ints) }

pub lo_among : (b lo r s : ℤ) (f e : ℕ) → r ≡ (b +ℤ pos f) → int_le lo r ≡ false → s ≡ (b +ℤ pos e) → int_le s lo ≡ false → IsAmong b lo f e
lo_among b lo r s f e i p j q = record { from = omega (arith, ints); below = grind (arith, ints) }

pub among_from : (b v : ℤ) (f e : ℕ) → IsAmong b v f e → b ≤ℤ v
among_from b v f e h = omega (arith, ints, h.from)

pub among_below : (b v : ℤ) (f e : ℕ) → e ≤ 1048576 → IsAmong b v f e → v ≤ℤ (b +ℤ pos 1048576)
among_below b v f e n h = omega (arith, ints, h.below)

pub place_from : (b v : ℤ) (f e o : ℕ) → v ≡ (b +ℤ pos o) → IsAmong b v f e → f ≤ o
place_from b v f e o is h = omega (arith, ints, h.from)

pub place_below : (b v : ℤ) (f e o : ℕ) → v ≡ (b +ℤ pos o) → IsAmong b v f e → o + 1 ≤ e
place_below b v f e o is h = omega (arith, ints, h.below)

pub end_places : (b hi : ℤ) (o : ℕ) → hi ≡ (b +ℤ pos o) → (k : ℕ) → nat_lt k (o + 1) ≡ int_le (b +ℤ pos k) hi
end_places b hi o is k = grind (arith, ints)

pub end_value : (b hi : ℤ) (f e o : ℕ) → hi ≡ (b +ℤ pos o) → IsAmong b hi f e → int_min hi (b +ℤ pos (e - 1)) ≡ (b +ℤ pos (o + 1 - 1))
end_value b hi f e o is h = omega (arith, ints, clamps, h.below)

-- the first place is the first one left
pub start_first : (b lo r : ℤ) (f e : ℕ) → r ≡ (b +ℤ pos f) → int_le lo r ≡ true → (k : ℕ) → f ≤ k → k < e → nat_le f k ≡ int_le lo (b +ℤ pos k)
start_first b lo r f e is h k p q =
    let left : nat_le f k ≡ true = grind arith in
    let right : int_le lo (b +ℤ pos k) ≡ true = grind (arith, ints) in
    left ∙ sym right

pub start_first_value : (b lo r : ℤ) (f : ℕ) → r ≡ (b +ℤ pos f) → int_le lo r ≡ true → int_max lo (b +ℤ pos f) ≡ (b +ℤ pos f)
start_first_value b lo r f is h = omega (arith, ints, clamps)

pub start_last : (b lo r : ℤ) (f e : ℕ) → r ≡ (b +ℤ pos e) → int_le r lo ≡ true → (k : ℕ) → f ≤ k → k < e → nat_le e k ≡ int_le lo (b +ℤ pos k)
start_last b lo r f e is h k p q =
    let left : nat_le e k ≡ false = grind arith in
    let right : int_le lo (b +ℤ pos k) ≡ false = grind (arith, ints) in
    left ∙ sym right

pub start_places : (b lo : ℤ) (o : ℕ) → lo ≡ (b +ℤ pos o) → (k : ℕ) → nat_le o k ≡ int_le lo (b +ℤ pos k)
start_places b lo o is k = grind (arith, ints)

pub start_value : (b lo : ℤ) (f e o : ℕ) → lo ≡ (b +ℤ pos o) → IsAmong b lo f e → int_max lo (b +ℤ pos f) ≡ (b +ℤ pos o)
start_value b lo f e o is h = omega (arith, ints, clamps, h.from)
