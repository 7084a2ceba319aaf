-- Parts of lists that grow at their ends.
use Rattle.std.proofs.Common.{◌≡◌, ◌∙◌, ap, ℕ, ◌+◌, ◌≤◌, List, ◌++◌, length, take, drop, arith}
use Rattle.std.proofs.Math.Seq.{drop-append_seam, take-length}
use Rattle.std.proofs.lemmas.List.{length-drop, length-append, length-take-le, drop-append-le, take-append-le, take_at}

-- a part of a list is the same in a longer one
pub part_kept : {X : Type 0} (xs ys : List X) (from n : ℕ) → from + n ≤ length xs → take n (drop from (xs ++ ys)) ≡ take n (drop from xs)
part_kept xs ys from n h =
    ap (take n) (drop-append-le from xs ys (omega (arith, h)))
    ∙ take-append-le n (drop from xs) ys (omega (arith, h, length-drop from xs))

-- what was appended is the part at the end
pub part_new : {X : Type 0} (xs ys : List X) → take (length ys) (drop (length xs) (xs ++ ys)) ≡ ys
part_new xs ys = ap (take (length ys)) (drop-append_seam xs ys) ∙ take-length ys

-- a part has as many items as it is to have
pub part_length : {X : Type 0} (xs : List X) (from n : ℕ) → from + n ≤ length xs → length (take n (drop from xs)) ≡ n
part_length xs from n h = length-take-le n (drop from xs) (omega (arith, h, length-drop from xs))

-- what a list begins with, by how many items that are
pub front_of : {X : Type 0} (xs p q : List X) (n : ℕ) → xs ≡ p ++ q → length p ≡ n → take n xs ≡ p
front_of xs p q n e h = ap (take n) e ∙ take_at p q n h

pub front_within : {X : Type 0} (xs p q : List X) (n : ℕ) → xs ≡ p ++ q → length p ≡ n → n ≤ length xs
front_within xs p q n e h = omega (arith, h, ap length e, length-append p q)
