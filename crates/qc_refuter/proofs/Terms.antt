-- Sums of terms, one by one.
use Rattle.std.proofs.Common.{◌≡◌, ◌⊎◌, inl, inr, ℕ, zero, suc, ◌+◌, ◌<◌, ◌≤◌, ◌^◌, Bool, true, false, not, ◌&&◌, List, [], ◌∷◌, length, map, drop, get_or, min, leb, refl, sym, ap, ◌∙◌, arith, ℤ}
use Rattle.std.specs.Prelude.{pos, negsuc, ◌+ℤ◌, ◌*ℤ◌, ◌≤ℤ◌, int_lt, unsigned_abs}
use Rattle.std.specs.List.{list_all}
use Rattle.std.specs.Int.{int_min, int_max}
use Rattle.std.proofs.Math.IntN.{zero-*ℤ, suc_ℤ-*ℤ, pred_ℤ-*ℤ}
use Rattle.std.proofs.Math.Nat.{mul-le-mul}
use Rattle.std.proofs.lemmas.Int.{ints, unsigned_abs-mul}
use Rattle.std.proofs.lemmas.List.{at_drop_more, at_drop_all, get_or-map}
use Rattle.std.proofs.lemmas.List.Recursion.{and_at}
use Rattle.std.proofs.lemmas.Bool.{leb-true}
use Rattle.std.proofs.lemmas.Bool.Decides.{nat_tests}
use Rattle.qc_model.specs.declared.problem.Arg.{Arg}
use Rattle.qc_model.specs.Domains.{Values, Box, is_none_left, is_ascending, least_value, greatest_value}
use Rattle.qc_model.specs.Left.{span, sum_range}
use Rattle.qc_model.specs.Ranges.{Range, range_of, point, product, range_sum, range_of_list}
use Rattle.qc_model.specs.Refuted.{left_to}
use Rattle.qc_model.specs.Valid.{is_number}
use Rattle.qc_model.proofs.Readable.{first, second}
use Rattle.model_arguments.proofs.Values.{value_passes, has_least, has_greatest}
use Rattle.qc_refuter.specs.Met.{is_domain_left, is_open}
use Rattle.qc_refuter.proofs.Fill.{least_to_greatest}

-- two products stand twice in the list of four
hull : (p q : ℤ) → range_of_list (p ∷ q ∷ p ∷ q ∷ []) ≡ range_of (int_min p q) (int_max p q)
hull p q = by (int_min p (int_min q (int_min p q))) (int_min p q) (int_max p (int_max q (int_max p q))) (int_max p q) (lows p q) (highs p q)
  where
    lows : (p q : ℤ) → int_min p (int_min q (int_min p q)) ≡ int_min p q
    lows p q = grind (arith, ints)

    highs : (p q : ℤ) → int_max p (int_max q (int_max p q)) ≡ int_max p q
    highs p q = grind (arith, ints)

    by : (a b c d : ℤ) → a ≡ b → c ≡ d → range_of a c ≡ range_of b d
    by a b c d e f = ap (λ z. range_of z c) e ∙ ap (range_of b) f

-- factors and values are small, so their product fits into 64 bits
pub product_small : (a b : ℤ) → is_number a ≡ true → is_number b ≡ true → unsigned_abs (a *ℤ b) ≤ 10 ^ 18
product_small a b h k =
    let m = mul-le-mul (leb-true (unsigned_abs a) 1000000000 h) (leb-true (unsigned_abs b) 1000000000 k) in
    omega (arith, unsigned_abs-mul a b, m)

-- a term between its two products
pub term_range : (n u v p q : ℤ) (r : Range) (d : Values) → u ≡ least_value d → v ≡ greatest_value d → p ≡ n *ℤ u → q ≡ n *ℤ v → r ≡ range_of (int_min p q) (int_max p q) →
    r ≡ product (point n) (span d)
term_range n u v p q r d e f i j h =
    let s : p ≡ n *ℤ least_value d = i ∙ ap (λ z. n *ℤ z) e in
    let t : q ≡ n *ℤ greatest_value d = j ∙ ap (λ z. n *ℤ z) f in
    h ∙ (sym (hull p q) ∙ (ap (λ z. range_of_list (z ∷ q ∷ z ∷ q ∷ [])) s ∙ ap (λ z. range_of_list ((n *ℤ least_value d) ∷ z ∷ (n *ℤ least_value d) ∷ z ∷ [])) t))

pub sum_more : (from to a b : ℤ) (rest more all term : Range) → range_sum (range_of from to) rest ≡ all → rest ≡ range_sum term more → range_of a b ≡ term →
    range_sum (range_of (from +ℤ a) (to +ℤ b)) more ≡ all
sum_more from to a b rest more all term h e f =
    regroup from a more.from to b more.to ∙ (ap (λ r. range_sum (range_of from to) (range_sum r more)) f ∙ (ap (range_sum (range_of from to)) (sym e) ∙ h))
  where
    assoc : (a b c : ℤ) → (a +ℤ b) +ℤ c ≡ a +ℤ (b +ℤ c)
    assoc a b c = omega (arith, ints)

    regroup : (a b c d e f : ℤ) → range_of ((a +ℤ b) +ℤ c) ((d +ℤ e) +ℤ f) ≡ range_of (a +ℤ (b +ℤ c)) (d +ℤ (e +ℤ f))
    regroup a b c d e f = ap (λ z. range_of z ((d +ℤ e) +ℤ f)) (assoc a b c) ∙ ap (range_of (a +ℤ (b +ℤ c))) (assoc d e f)

pub sum_none : (from to : ℤ) (rest all : Range) → range_sum (range_of from to) rest ≡ all → rest ≡ point (pos 0) → range_of from to ≡ all
sum_none from to rest all h e = zeros from to ∙ (ap (range_sum (range_of from to)) (sym e) ∙ h)
  where
    zero_more : (a : ℤ) → a ≡ a +ℤ pos 0
    zero_more a = omega (arith, ints)

    zeros : (a b : ℤ) → range_of a b ≡ range_of (a +ℤ pos 0) (b +ℤ pos 0)
    zeros a b = ap (λ z. range_of z b) (zero_more a) ∙ ap (range_of (a +ℤ pos 0)) (zero_more b)

pub abs_sum : (a b : ℤ) → unsigned_abs (a +ℤ b) ≤ unsigned_abs a + unsigned_abs b
abs_sum a b = grind (arith, ints)

pub at_end : (a b k : ℕ) → min a b ≤ k → (a ≤ k) ⊎ (b ≤ k)
at_end a b k h = elim (leb a k) as (λ t. leb a k ≡ t → (a ≤ k) ⊎ (b ≤ k)) [ true ↦ λ e. inl (leb-true a k e) | false ↦ λ e. inr (grind (arith, nat_tests)) ] refl

pub some_left : (d : Values) → is_domain_left d ≡ true → is_none_left d ≡ false
some_left [] h = cc
some_left (v ∷ vs) h = refl

pub least_small : (d : Values) → is_domain_left d ≡ true → is_number (least_value d) ≡ true
least_small d h =
    let p = first (not (is_none_left d) && is_ascending d) (list_all is_number d) h in
    value_passes is_number d (least_value d) (second (not (is_none_left d) && is_ascending d) (list_all is_number d) h) (has_least d (some (is_none_left d) (first (not (is_none_left d)) (is_ascending d) p)))
  where
    some : (b : Bool) → not b ≡ true → b ≡ false
    some true e = cc
    some false e = refl

pub greatest_small : (d : Values) → is_domain_left d ≡ true → is_number (greatest_value d) ≡ true
greatest_small d h =
    let p = first (not (is_none_left d) && is_ascending d) (list_all is_number d) h in
    value_passes is_number d (greatest_value d) (second (not (is_none_left d) && is_ascending d) (list_all is_number d) h) (has_greatest d (some (is_none_left d) (first (not (is_none_left d)) (is_ascending d) p)))
  where
    some : (b : Bool) → not b ≡ true → b ≡ false
    some true e = cc
    some false e = refl

pub sum_step : (ns : List ℤ) (ds : List Values) (k : ℕ) → k < length ns → k < length ds →
    sum_range (drop k ns) (drop k ds) ≡ range_sum (product (point (get_or ns k (pos 0))) (span (get_or ds k []))) (sum_range (drop (k + 1) ns) (drop (k + 1) ds))
sum_step ns ds k h m =
    at_drop_more (λ l. sum_range l (drop k ds)) ns k (pos 0) h
    ∙ at_drop_more (λ l. sum_range (get_or ns k (pos 0) ∷ drop (k + 1) ns) l) ds k [] m

no_terms : (ns : List ℤ) → sum_range ns [] ≡ point (pos 0)
no_terms [] = refl
no_terms (n ∷ ns) = refl

pub sum_end : (ns : List ℤ) (ds : List Values) (k : ℕ) → (length ns ≤ k) ⊎ (length ds ≤ k) → sum_range (drop k ns) (drop k ds) ≡ point (pos 0)
sum_end ns ds k (inl h) = at_drop_all (λ l. sum_range l (drop k ds)) ns k h
sum_end ns ds k (inr h) = at_drop_all (λ l. sum_range (drop k ns) l) ds k h ∙ no_terms (drop k ns)

-- what is left to an item
pub item_left : (box : Box) (items : List Arg) (k : ℕ) (a : Arg) → k < length items → get_or (map (left_to box) items) k [] ≡ left_to box (get_or items k a)
item_left box items k a h = get_or-map (left_to box) items k a [] h

pub open_at : (box : Box) (items : List Arg) (k : ℕ) (a : Arg) → k < length items → list_all (is_open box) items ≡ true → is_open box (get_or items k a) ≡ true
open_at box items k a h t = and_at (list_all (is_open box)) (is_open box) refl (λ _ _. refl) items k a h t

-- the end of an item at which its term is least, and that at which it is greatest
no_lower : (p : ℕ) (u v : ℤ) → u ≤ℤ v → (pos p *ℤ u) ≤ℤ (pos p *ℤ v)
no_lower zero u v h = omega (arith, ints, zero-*ℤ u, zero-*ℤ v)
no_lower (suc p) u v h = omega (arith, ints, suc_ℤ-*ℤ (pos p) u, suc_ℤ-*ℤ (pos p) v, no_lower p u v h, h)

no_higher : (n : ℕ) (u v : ℤ) → u ≤ℤ v → (negsuc n *ℤ v) ≤ℤ (negsuc n *ℤ u)
no_higher zero u v h = omega (arith, ints, pred_ℤ-*ℤ (pos 0) u, pred_ℤ-*ℤ (pos 0) v, zero-*ℤ u, zero-*ℤ v, h)
no_higher (suc n) u v h = omega (arith, ints, pred_ℤ-*ℤ (negsuc n) u, pred_ℤ-*ℤ (negsuc n) v, no_higher n u v h, h)

rises : (n u v : ℤ) → int_lt n (pos 0) ≡ false → u ≤ℤ v → (n *ℤ u) ≤ℤ (n *ℤ v)
rises (pos p) u v e h = no_lower p u v h
rises (negsuc n) u v e h = cc

falls : (n u v : ℤ) → int_lt n (pos 0) ≡ true → u ≤ℤ v → (n *ℤ v) ≤ℤ (n *ℤ u)
falls (pos p) u v e h = absurd (never p e)
  where
    never : (p : ℕ) → int_lt (pos p) (pos 0) ≡ true → ⊥
    never p e = grind (arith, ints)
falls (negsuc n) u v e h = no_higher n u v h

lesser : (p q : ℤ) → p ≤ℤ q → p ≡ int_min p q
lesser p q h = grind (arith, ints)

lesser_last : (p q : ℤ) → q ≤ℤ p → q ≡ int_min p q
lesser_last p q h = grind (arith, ints)

greater : (p q : ℤ) → p ≤ℤ q → q ≡ int_max p q
greater p q h = grind (arith, ints)

greater_first : (p q : ℤ) → q ≤ℤ p → p ≡ int_max p q
greater_first p q h = grind (arith, ints)

pub rising_least : (n : ℤ) (d : Values) → int_lt n (pos 0) ≡ false → n *ℤ least_value d ≡ (product (point n) (span d)).from
rising_least n d e =
    lesser (n *ℤ least_value d) (n *ℤ greatest_value d) (rises n (least_value d) (greatest_value d) e (least_to_greatest d)) ∙ sym (ap (λ (r : Range). r.from) (hull (n *ℤ least_value d) (n *ℤ greatest_value d)))

pub falling_least : (n : ℤ) (d : Values) → int_lt n (pos 0) ≡ true → n *ℤ greatest_value d ≡ (product (point n) (span d)).from
falling_least n d e =
    lesser_last (n *ℤ least_value d) (n *ℤ greatest_value d) (falls n (least_value d) (greatest_value d) e (least_to_greatest d)) ∙ sym (ap (λ (r : Range). r.from) (hull (n *ℤ least_value d) (n *ℤ greatest_value d)))

pub rising_greatest : (n : ℤ) (d : Values) → int_lt n (pos 0) ≡ false → n *ℤ greatest_value d ≡ (product (point n) (span d)).to
rising_greatest n d e =
    greater (n *ℤ least_value d) (n *ℤ greatest_value d) (rises n (least_value d) (greatest_value d) e (least_to_greatest d)) ∙ sym (ap (λ (r : Range). r.to) (hull (n *ℤ least_value d) (n *ℤ greatest_value d)))

pub falling_greatest : (n : ℤ) (d : Values) → int_lt n (pos 0) ≡ true → n *ℤ least_value d ≡ (product (point n) (span d)).to
falling_greatest n d e =
    greater_first (n *ℤ least_value d) (n *ℤ greatest_value d) (falls n (least_value d) (greatest_value d) e (least_to_greatest d)) ∙ sym (ap (λ (r : Range). r.to) (hull (n *ℤ least_value d) (n *ℤ greatest_value d)))

-- one end of a sum, one term more
end_more : (sum term one rest more all : ℤ) → term ≡ one → rest ≡ one +ℤ more → sum +ℤ rest ≡ all → (sum +ℤ term) +ℤ more ≡ all
end_more sum term one rest more all e f h = omega (arith, ints, e, f, h)

pub least_more : (ns : List ℤ) (ds : List Values) (k : ℕ) (sum term all : ℤ) → k < length ns → k < length ds → term ≡ (product (point (get_or ns k (pos 0))) (span (get_or ds k []))).from →
    sum +ℤ (sum_range (drop k ns) (drop k ds)).from ≡ all → (sum +ℤ term) +ℤ (sum_range (drop (k + 1) ns) (drop (k + 1) ds)).from ≡ all
least_more ns ds k sum term all l m e h =
    end_more sum term (product (point (get_or ns k (pos 0))) (span (get_or ds k []))).from (sum_range (drop k ns) (drop k ds)).from (sum_range (drop (k + 1) ns) (drop (k + 1) ds)).from all e (ap (λ (r : Range). r.from) (sum_step ns ds k l m)) h

pub greatest_more : (ns : List ℤ) (ds : List Values) (k : ℕ) (sum term all : ℤ) → k < length ns → k < length ds → term ≡ (product (point (get_or ns k (pos 0))) (span (get_or ds k []))).to →
    sum +ℤ (sum_range (drop k ns) (drop k ds)).to ≡ all → (sum +ℤ term) +ℤ (sum_range (drop (k + 1) ns) (drop (k + 1) ds)).to ≡ all
greatest_more ns ds k sum term all l m e h =
    end_more sum term (product (point (get_or ns k (pos 0))) (span (get_or ds k []))).to (sum_range (drop k ns) (drop k ds)).to (sum_range (drop (k + 1) ns) (drop (k + 1) ds)).to all e (ap (λ (r : Range). r.to) (sum_step ns ds k l m)) h

-- and none more
pub end_none : (sum rest all : ℤ) → sum +ℤ rest ≡ all → rest ≡ pos 0 → sum ≡ all
end_none sum rest all h e = omega (arith, ints, h, e)
