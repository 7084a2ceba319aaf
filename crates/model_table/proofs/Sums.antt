-- Sums of products: their range holds the sum of any values in the box.
use Rattle.std.proofs.Common.{◌≡◌, true, ◌&&◌, List, [], ◌∷◌, sym, ap, ◌∙◌, subst, arith}
use Rattle.std.specs.Prelude.{ℤ, pos, ◌*ℤ◌}
use Rattle.std.specs.Ordering.{int_eq}
use Rattle.std.proofs.lemmas.Int.{ints}
use Rattle.std.proofs.lemmas.Bool.Decides.{Decides-int_eq}
use Rattle.std.proofs.lemmas.Bool.{and_parts}
use Rattle.qc_model.specs.Lists.{LiesIn}
use Rattle.qc_model.specs.Domains.{Values, least_value}
use Rattle.qc_model.specs.Ranges.{Range, point, product}
use Rattle.qc_model.specs.Arguments.{numbers}
use Rattle.qc_model.specs.Meaning.{sum_equal, sum_different, sum_at_most}
use Rattle.qc_model.specs.Holds.{Given, value_at, values_at, sum_of_products, holds_as}
use Rattle.qc_model.specs.Left.{Lefts, left_at, lefts_at, range_at, span, sum_range, sum_at}
use Rattle.qc_model.specs.Refuted.{refuted_as}
use Rattle.qc_model.proofs.Visible.{Fits, one_fits}
use Rattle.qc_model.proofs.Sound.{InRange, in_span, at_range, add_in, apart, hi_of, not_true}
use Rattle.model_table.proofs.Products.{times_in}
use Rattle.model_table.proofs.Fits.{many_fits, numbers_fit}
use Rattle.model_table.proofs.Typing.{IsLiteral}

pub in_point : (n : ℤ) → InRange n (point n)
in_point n = record { low = omega (arith, ints); high = omega (arith, ints) }

sum_in : (ns vs : List ℤ) (ds : List Values) → LiesIn vs ds → InRange (sum_of_products ns vs) (sum_range ns ds)
sum_in [] vs ds h = in_point (pos 0)
sum_in (n ∷ ns) [] [] h = in_point (pos 0)
sum_in (n ∷ ns) [] (d ∷ ds) h = absurd h
sum_in (n ∷ ns) (v ∷ vs) [] h = absurd h
sum_in (n ∷ ns) (v ∷ vs) (d ∷ ds) h =
    add_in (n *ℤ v) (sum_of_products ns vs) (product (point n) (span d)) (sum_range ns ds)
    (times_in n v (point n) (span d) (in_point n) (in_span v d h.0)) (sum_in ns vs ds h.1)

abbrev pub sum_given : Given → ℤ
sum_given vs = sum_of_products (numbers vs 0) (values_at vs 1)

pub given_sum_in : (vs : Given) (ds : Lefts) → Fits vs ds → InRange (sum_given vs) (sum_at ds)
given_sum_in vs ds f =
    subst (λ (ns : List ℤ). InRange (sum_of_products ns (values_at vs 1)) (sum_at ds)) (sym (numbers_fit vs ds 0 f))
    (sum_in (numbers ds 0) (values_at vs 1) (lefts_at ds 1) (many_fits vs ds 1 f))

pub same_number : (a b : ℤ) → int_eq a b ≡ true → a ≡ b
same_number a b e = (Decides-int_eq a b).0 e

-- the range is one number, so the sum is
pub point_sum : (vs : Given) (ds : Lefts) (n : ℤ) → Fits vs ds → (int_eq (sum_at ds).from n && int_eq (sum_at ds).to n) ≡ true → sum_given vs ≡ n
point_sum vs ds n f e =
    let p = and_parts (int_eq (sum_at ds).from n) (int_eq (sum_at ds).to n) e in
    one_number (sum_given vs) (sum_at ds) n (given_sum_in vs ds f) (same_number (sum_at ds).from n p.0) (same_number (sum_at ds).to n p.1)
  where
    one_number : (m : ℤ) (r : Range) (n : ℤ) → InRange m r → r.from ≡ n → r.to ≡ n → m ≡ n
    one_number m r n i e f = omega (arith, ints, i.low, i.high)

literal_least : (vs : Given) (ds : Lefts) → IsLiteral vs ds 2 → value_at vs 2 ≡ least_value (left_at ds 2)
literal_least vs ds l = ap least_value (sym l)

pub sum_equal_sound : (vs : Given) (ds : Lefts) → Fits vs ds → refuted_as sum_equal ds ≡ true → holds_as sum_equal vs ≡ true → ⊥
sum_equal_sound vs ds f r h =
    apart (value_at vs 2) (sum_at ds) (range_at ds 2) r
    (subst (λ (n : ℤ). InRange n (sum_at ds)) (same_number (sum_given vs) (value_at vs 2) h) (given_sum_in vs ds f)) (at_range vs ds 2 f)

pub sum_different_sound : (vs : Given) (ds : Lefts) → IsLiteral vs ds 2 → Fits vs ds → refuted_as sum_different ds ≡ true → holds_as sum_different vs ≡ true → ⊥
sum_different_sound vs ds l f r h =
    not_true (int_eq (sum_given vs) (value_at vs 2)) h
    ((Decides-int_eq (sum_given vs) (value_at vs 2)).1 (point_sum vs ds (least_value (left_at ds 2)) f r ∙ sym (literal_least vs ds l)))

pub sum_at_most_sound : (vs : Given) (ds : Lefts) → Fits vs ds → refuted_as sum_at_most ds ≡ true → holds_as sum_at_most vs ≡ true → ⊥
sum_at_most_sound vs ds f r h =
    let s = given_sum_in vs ds f in
    let high = hi_of (value_at vs 2) (left_at ds 2) (one_fits vs ds 2 f) in
    omega (arith, ints, s.low)
