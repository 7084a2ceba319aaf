-- Marks that are set and taken back.
use Rattle.std.proofs.Common.{◌≡◌, ℕ, zero, suc, ◌+◌, ◌<◌, ◌≤◌, Bool, true, false, List, [], ◌∷◌, ◌++◌, length, set, get_or, refl, arith}
use Rattle.dense_close.specs.Waiting.{marked, HasRoom}

one_more : (marks : List Bool) (k : ℕ) → k < length marks → get_or marks k false ≡ false → marked (set marks k true) ≡ marked marks + 1
one_more [] k h e = absurd (omega arith)
one_more (true ∷ marks) zero h e = cc
one_more (false ∷ marks) zero h e = omega arith
one_more (true ∷ marks) (suc k) h e = omega (arith, one_more marks k (omega arith) e)
one_more (false ∷ marks) (suc k) h e = one_more marks k (omega arith) e

one_less : (marks : List Bool) (k : ℕ) → marked marks ≤ marked (set marks k false) + 1
one_less [] k = omega arith
one_less (true ∷ marks) zero = omega arith
one_less (false ∷ marks) zero = omega arith
one_less (true ∷ marks) (suc k) = omega (arith, one_less marks k)
one_less (false ∷ marks) (suc k) = one_less marks k

pub most : (marks : List Bool) → marked marks ≤ length marks
most [] = omega arith
most (true ∷ marks) = omega (arith, most marks)
most (false ∷ marks) = omega (arith, most marks)

not_all : (marks : List Bool) (k : ℕ) → k < length marks → get_or marks k false ≡ false → marked marks < length marks
not_all [] k h e = absurd (omega arith)
not_all (true ∷ marks) zero h e = cc
not_all (false ∷ marks) zero h e = omega (arith, most marks)
not_all (true ∷ marks) (suc k) h e = omega (arith, not_all marks k (omega arith) e)
not_all (false ∷ marks) (suc k) h e = omega (arith, not_all marks k (omega arith) e)

-- an unmarked one has a place in each queue
pub early_left : (n m early late : ℕ) (marks : List Bool) (k : ℕ) → HasRoom (n + m) early late marks → k < length marks → get_or marks k false ≡ false → n < early
early_left n m early late marks k r h e = omega (arith, r.few, r.early_places, not_all marks k h e)

pub late_left : (n m early late : ℕ) (marks : List Bool) (k : ℕ) → HasRoom (n + m) early late marks → k < length marks → get_or marks k false ≡ false → m < late
late_left n m early late marks k r h e = omega (arith, r.few, r.late_places, not_all marks k h e)

length_set : (marks : List Bool) (k : ℕ) (b : Bool) → length (set marks k b) ≡ length marks
length_set [] k b = refl
length_set (m ∷ marks) zero b = refl
length_set (m ∷ marks) (suc k) b = omega (arith, length_set marks k b)

pub room_added : (n m early late : ℕ) (marks : List Bool) (k : ℕ) → HasRoom n early late marks → k < length marks → get_or marks k false ≡ false → m ≡ n + 1 → HasRoom m early late (set marks k true)
room_added n m early late marks k r h e q = record {
  few = omega (arith, r.few, one_more marks k h e, q);
  early_places = omega (arith, r.early_places, length_set marks k true);
  late_places = omega (arith, r.late_places, length_set marks k true);
}

pub room_taken : (n m early late : ℕ) (marks : List Bool) (k : ℕ) → HasRoom n early late marks → m + 1 ≡ n → HasRoom m early late (set marks k false)
room_taken n m early late marks k r q = record {
  few = omega (arith, r.few, one_less marks k, q);
  early_places = omega (arith, r.early_places, length_set marks k false);
  late_places = omega (arith, r.late_places, length_set marks k false);
}

pub length_both : {X : Type 0} (xs ys : List X) → length (xs ++ ys) ≡ length xs + length ys
length_both [] ys = omega arith
length_both (x ∷ xs) ys = omega (arith, length_both xs ys)
