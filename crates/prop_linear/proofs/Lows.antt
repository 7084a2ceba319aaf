-- The least of a term and of a sum, by one end of each item.
use Rattle.std.proofs.Common.{◌≡◌, ℕ, zero, suc, ◌+◌, ◌*◌, ◌<◌, ◌≤◌, inl, Bool, true, false, List, [], ◌∷◌, length, map, drop, get_or, refl, sym, ap, ◌∙◌, arith, ℤ}
use Rattle.std.specs.Prelude.{pos, negsuc, ◌+ℤ◌, ◌-ℤ◌, ◌*ℤ◌, int_lt, nat_abs}
use Rattle.std.specs.Int.{int_min}
use Rattle.std.specs.List.{list_all}
use Rattle.std.proofs.lemmas.Int.{ints}
use Rattle.std.proofs.lemmas.List.Recursion.{and_at}
use Rattle.std.proofs.lemmas.Bool.{and_from}
use Rattle.qc_model.specs.Domains.{Values, least_value, greatest_value}
use Rattle.qc_model.specs.Left.{sum_range}
use Rattle.qc_model.specs.Ranges.{Range}
use Rattle.qc_model.specs.Valid.{is_number}
use Rattle.qc_model.proofs.Readable.{first, second}
use Rattle.qc_refuter.proofs.Terms.{sum_step, sum_end}
use Rattle.prop_linear.specs.Tightening.{term_of}
use Rattle.prop_linear.specs.Sides.{opposite, signed}
use Rattle.prop_linear.proofs.Spread.{low_of, up_gap, down_gap}
use Rattle.prop_linear.proofs.Sides.{signed_length}
use Rattle.prop_linear.proofs.Told.{ends_order}

-- the end of an item at which its term is least
pub rising_term : (a : ℤ) (d : Values) → int_lt a (pos 0) ≡ false → a *ℤ least_value d ≡ (term_of a d).from
rising_term (pos p) d h =
    by (pos p *ℤ least_value d) (pos p *ℤ greatest_value d) (p * nat_abs (greatest_value d -ℤ least_value d)) (up_gap p (least_value d) (greatest_value d) (ends_order d)) ∙ sym (low_of (pos p) (least_value d) (greatest_value d))
  where
    by : (u v : ℤ) (n : ℕ) → v ≡ u +ℤ pos n → u ≡ int_min u v
    by u v n h = grind (arith, ints)
rising_term (negsuc n) d h = cc

pub falling_term : (a : ℤ) (d : Values) → int_lt a (pos 0) ≡ true → a *ℤ greatest_value d ≡ (term_of a d).from
falling_term (pos p) d h = absurd (never p h)
  where
    never : (p : ℕ) → int_lt (pos p) (pos 0) ≡ true → ⊥
    never p h = grind (arith, ints)
falling_term (negsuc n) d h =
    by (negsuc n *ℤ least_value d) (negsuc n *ℤ greatest_value d) (suc n * nat_abs (greatest_value d -ℤ least_value d)) (down_gap n (least_value d) (greatest_value d) (ends_order d)) ∙ sym (low_of (negsuc n) (least_value d) (greatest_value d))
  where
    by : (u v : ℤ) (m : ℕ) → v +ℤ pos m ≡ u → v ≡ int_min u v
    by u v m h = grind (arith, ints)

-- the factors of a sum, or of its negative, are within the limit
signed_numbers : (b : Bool) (ns : List ℤ) → list_all is_number ns ≡ true → list_all is_number (signed b ns) ≡ true
signed_numbers false ns h = h
signed_numbers true [] h = refl
signed_numbers true (n ∷ ns) h =
    and_from (is_number (opposite n)) (list_all is_number (map opposite ns)) (turned n (first (is_number n) (list_all is_number ns) h)) (signed_numbers true ns (second (is_number n) (list_all is_number ns) h))
  where
    turned : (n : ℤ) → is_number n ≡ true → is_number (opposite n) ≡ true
    turned n h = grind (arith, ints)

pub signed_number : (b : Bool) (ns : List ℤ) (k : ℕ) → k < length ns → list_all is_number ns ≡ true → is_number (get_or (signed b ns) k (pos 0)) ≡ true
signed_number b ns k l h =
    and_at (list_all is_number) is_number refl (λ _ _. refl) (signed b ns) k (pos 0) (omega (arith, signed_length b ns, l)) (signed_numbers b ns h)

-- the opposite of a factor at a place
pub opposite_at : (ns : List ℤ) (k : ℕ) → k < length ns → get_or (signed true ns) k (pos 0) ≡ opposite (get_or ns k (pos 0))
opposite_at [] k l = absurd (omega (arith, l))
opposite_at (n ∷ ns) zero l = refl
opposite_at (n ∷ ns) (suc k) l = opposite_at ns k (omega (arith, l))

-- past the last term nothing is left to add
pub least_whole : (ns : List ℤ) (ds : List Values) (k : ℕ) (least all : ℤ) → length ns ≤ k → least +ℤ (sum_range (drop k ns) (drop k ds)).from ≡ all → least ≡ all
least_whole ns ds k least all l h = by least (sum_range (drop k ns) (drop k ds)).from all (ap (λ (r : Range). r.from) (sum_end ns ds k (inl l))) h
  where
    by : (a b all : ℤ) → b ≡ pos 0 → a +ℤ b ≡ all → a ≡ all
    by a b all e h = omega (arith, ints, e, h)

-- one term more
pub least_more : (ns : List ℤ) (ds : List Values) (k : ℕ) (least term all : ℤ) → k < length ns → k < length ds → term ≡ (term_of (get_or ns k (pos 0)) (get_or ds k [])).from →
    least +ℤ (sum_range (drop k ns) (drop k ds)).from ≡ all → (least +ℤ term) +ℤ (sum_range (drop (k + 1) ns) (drop (k + 1) ds)).from ≡ all
least_more ns ds k least term all l m e h =
    by least term (term_of (get_or ns k (pos 0)) (get_or ds k [])).from (sum_range (drop k ns) (drop k ds)).from (sum_range (drop (k + 1) ns) (drop (k + 1) ds)).from all e (ap (λ (r : Range). r.from) (sum_step ns ds k l m)) h
  where
    by : (a t u r s all : ℤ) → t ≡ u → r ≡ u +ℤ s → a +ℤ r ≡ all → (a +ℤ t) +ℤ s ≡ all
    by a t u r s all e f h = omega (arith, ints, e, f, h)
