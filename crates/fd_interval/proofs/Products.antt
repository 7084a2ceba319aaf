-- A product of members lies between products of ends.
use Rattle.std.proofs.Common.{refl, sym, subst, ◌≡◌, ℤ, pos, negsuc, ◌*ℤ◌, ◌≤ℤ◌, arith, ◌+◌, ◌≤◌, suc}
use Rattle.std.specs.Int.{int_min, int_max}
use Rattle.std.proofs.Math.Nat.{mul-le-mul_right}
use Rattle.std.proofs.lemmas.Int.{ints, clamps}
use borrow.Author.Differences.{up, down}
use Rattle.fd_interval.specs.declared.span.Span.{Span}
use Rattle.fd_interval.specs.Spans.{IsBetween, IsIn, IsResult, IsLeastSpan, least_of_four, greatest_of_four}
use Rattle.fd_interval.proofs.Ends.{lo_in, hi_in}
use Rattle.fd_interval.proofs.Sums.{result_at}

-- a product lies between those with the ends as its first factor, in one order or the other
pub record IsBetweenProducts (l h x y : ℤ) : Type 0 where
  pub from : int_min (l *ℤ y) (h *ℤ y) ≤ℤ (x *ℤ y)
  pub to : (x *ℤ y) ≤ℤ int_max (l *ℤ y) (h *ℤ y)

pub between_products : (l h x y : ℤ) → l ≤ℤ x → x ≤ℤ h → IsBetweenProducts l h x y
between_products l h x (pos n) p q =
    let from : up l + down x ≤ up x + down l = omega (arith, ints) in
    let to : up x + down h ≤ up h + down x = omega (arith, ints) in
    let from' = mul-le-mul_right n from in
    let to' = mul-le-mul_right n to in
    record { from = omega (arith, ints, clamps); to = omega (arith, ints, clamps) }
between_products l h x (negsuc n) p q =
    let from : up l + down x ≤ up x + down l = omega (arith, ints) in
    let to : up x + down h ≤ up h + down x = omega (arith, ints) in
    let from' = mul-le-mul_right (suc n) from in
    let to' = mul-le-mul_right (suc n) to in
    record { from = omega (arith, ints, clamps); to = omega (arith, ints, clamps) }

flipped_products : (l h x y : ℤ) → l ≤ℤ y → y ≤ℤ h → IsBetweenProducts l h y x → (int_min (x *ℤ l) (x *ℤ h) ≤ℤ (x *ℤ y)) × ((x *ℤ y) ≤ℤ int_max (x *ℤ l) (x *ℤ h))
flipped_products l h x y p q r = (omega (arith, ints, clamps), omega (arith, ints, clamps))

product_in : (a b s : Span) (x y : ℤ) → s.lo ≡ least_of_four (a.lo *ℤ b.lo) (a.lo *ℤ b.hi) (a.hi *ℤ b.lo) (a.hi *ℤ b.hi) → s.hi ≡ greatest_of_four (a.lo *ℤ b.lo) (a.lo *ℤ b.hi) (a.hi *ℤ b.lo) (a.hi *ℤ b.hi)
    → IsIn a x → IsIn b y → IsIn s (x *ℤ y)
product_in a b s x y e f p q =
    let first = between_products a.lo a.hi x y p.from p.to in
    let low = flipped_products b.lo b.hi a.lo y q.from q.to (between_products b.lo b.hi y a.lo q.from q.to) in
    let high = flipped_products b.lo b.hi a.hi y q.from q.to (between_products b.lo b.hi y a.hi q.from q.to) in
    record {
      from = at_least (a.lo *ℤ b.lo) (a.lo *ℤ b.hi) (a.hi *ℤ b.lo) (a.hi *ℤ b.hi) (a.lo *ℤ y) (a.hi *ℤ y) (x *ℤ y) s.lo e first.from low.0 high.0;
      to = at_most (a.lo *ℤ b.lo) (a.lo *ℤ b.hi) (a.hi *ℤ b.lo) (a.hi *ℤ b.hi) (a.lo *ℤ y) (a.hi *ℤ y) (x *ℤ y) s.hi f first.to low.1 high.1;
    }
  where
    at_least : (p q r s u v n l : ℤ) → l ≡ least_of_four p q r s → int_min u v ≤ℤ n → int_min p q ≤ℤ u → int_min r s ≤ℤ v → l ≤ℤ n
    at_least p q r s u v n l e h j k = omega (arith, ints, clamps)

    at_most : (p q r s u v n l : ℤ) → l ≡ greatest_of_four p q r s → n ≤ℤ int_max u v → u ≤ℤ int_max p q → v ≤ℤ int_max r s → n ≤ℤ l
    at_most p q r s u v n l e h j k = omega (arith, ints, clamps)

-- the least of four numbers that lie in a range is in it, and so is the greatest
least_in : (lo p q r s l : ℤ) → l ≡ least_of_four p q r s → lo ≤ℤ p → lo ≤ℤ q → lo ≤ℤ r → lo ≤ℤ s → lo ≤ℤ l
least_in lo p q r s l e g h j k = omega (arith, ints, clamps)

greatest_in : (hi p q r s l : ℤ) → l ≡ greatest_of_four p q r s → p ≤ℤ hi → q ≤ℤ hi → r ≤ℤ hi → s ≤ℤ hi → l ≤ℤ hi
greatest_in hi p q r s l e g h j k = omega (arith, ints, clamps)

pub product_is_least : (a b s : Span) → s.lo ≡ least_of_four (a.lo *ℤ b.lo) (a.lo *ℤ b.hi) (a.hi *ℤ b.lo) (a.hi *ℤ b.hi) → s.hi ≡ greatest_of_four (a.lo *ℤ b.lo) (a.lo *ℤ b.hi) (a.hi *ℤ b.lo) (a.hi *ℤ b.hi)
    → IsLeastSpan (IsResult ◌*ℤ◌ a b) s
product_is_least a b s e f = record {
  holds = λ n r. subst (IsIn s) (sym r.is) (product_in a b s r.left r.right e f r.left_in r.right_in);
  least = λ lo hi each.
      let at : (x y : ℤ) → IsIn a x → IsIn b y → IsBetween lo hi (x *ℤ y) = λ x y p q. each (x *ℤ y) (result_at ◌*ℤ◌ a b x y (x *ℤ y) p q refl) in
      let ll = at a.lo b.lo (lo_in a) (lo_in b) in
      let lh = at a.lo b.hi (lo_in a) (hi_in b) in
      let hl = at a.hi b.lo (hi_in a) (lo_in b) in
      let hh = at a.hi b.hi (hi_in a) (hi_in b) in
      (least_in lo _ _ _ _ s.lo e ll.from lh.from hl.from hh.from, greatest_in hi _ _ _ _ s.hi f ll.to lh.to hl.to hh.to);
}
