-- The least and the greatest of truth values, and what they leave to a result.
use Rattle.std.proofs.Common.{◌≡◌, Bool, true, false, not, ◌&&◌, ◌||◌, List, [], ◌∷◌, refl, ap, ◌∙◌}
use Rattle.std.specs.Prelude.{pos}
use Rattle.std.specs.List.{list_all, list_any}
use Rattle.qc_model.specs.Domains.{Values, has_value}
use Rattle.qc_model.specs.Left.{span, is_only, least_range, greatest_range}
use Rattle.qc_model.specs.Ranges.{Range, range_of, point, ranges_miss, smaller_range, greater_range}
use Rattle.qc_model.proofs.Readable.{first, second}
use Rattle.prop_bool.specs.Literals.{both_truths, is_truth_left}
use Rattle.prop_bool.proofs.Truths.{by_left}

-- some is 0, or all are 1
abbrev least_known : Bool → Bool → Range
least_known true b = point (pos 0)
least_known false true = point (pos 1)
least_known false false = range_of (pos 0) (pos 1)

least_of_zero : (a b : Bool) → smaller_range (span (pos 0 ∷ [])) (least_known a b) ≡ least_known (is_only (pos 0) (pos 0 ∷ []) || a) (is_only (pos 1) (pos 0 ∷ []) && b)
least_of_zero true b = refl
least_of_zero false true = refl
least_of_zero false false = refl

least_of_one : (a b : Bool) → smaller_range (span (pos 1 ∷ [])) (least_known a b) ≡ least_known (is_only (pos 0) (pos 1 ∷ []) || a) (is_only (pos 1) (pos 1 ∷ []) && b)
least_of_one true b = refl
least_of_one false true = refl
least_of_one false false = refl

least_of_both : (a b : Bool) → smaller_range (span both_truths) (least_known a b) ≡ least_known (is_only (pos 0) both_truths || a) (is_only (pos 1) both_truths && b)
least_of_both true b = refl
least_of_both false true = refl
least_of_both false false = refl

least_is : (ds : List Values) → list_all is_truth_left ds ≡ true → least_range (point (pos 1)) ds ≡ least_known (list_any (is_only (pos 0)) ds) (list_all (is_only (pos 1)) ds)
least_is [] h = refl
least_is (d ∷ ds) h =
    let a = list_any (is_only (pos 0)) ds in
    let b = list_all (is_only (pos 1)) ds in
    ap (smaller_range (span d)) (least_is ds (second (is_truth_left d) (list_all is_truth_left ds) h))
    ∙ by_left (λ e. smaller_range (span e) (least_known a b) ≡ least_known (is_only (pos 0) e || a) (is_only (pos 1) e && b)) (least_of_zero a b) (least_of_one a b) (least_of_both a b) d (first (is_truth_left d) (list_all is_truth_left ds) h)

-- some is 1, or all are 0
abbrev greatest_known : Bool → Bool → Range
greatest_known true b = point (pos 1)
greatest_known false true = point (pos 0)
greatest_known false false = range_of (pos 0) (pos 1)

greatest_of_zero : (a b : Bool) → greater_range (span (pos 0 ∷ [])) (greatest_known a b) ≡ greatest_known (is_only (pos 1) (pos 0 ∷ []) || a) (is_only (pos 0) (pos 0 ∷ []) && b)
greatest_of_zero true b = refl
greatest_of_zero false true = refl
greatest_of_zero false false = refl

greatest_of_one : (a b : Bool) → greater_range (span (pos 1 ∷ [])) (greatest_known a b) ≡ greatest_known (is_only (pos 1) (pos 1 ∷ []) || a) (is_only (pos 0) (pos 1 ∷ []) && b)
greatest_of_one true b = refl
greatest_of_one false true = refl
greatest_of_one false false = refl

greatest_of_both : (a b : Bool) → greater_range (span both_truths) (greatest_known a b) ≡ greatest_known (is_only (pos 1) both_truths || a) (is_only (pos 0) both_truths && b)
greatest_of_both true b = refl
greatest_of_both false true = refl
greatest_of_both false false = refl

greatest_is : (ds : List Values) → list_all is_truth_left ds ≡ true → greatest_range (point (pos 0)) ds ≡ greatest_known (list_any (is_only (pos 1)) ds) (list_all (is_only (pos 0)) ds)
greatest_is [] h = refl
greatest_is (d ∷ ds) h =
    let a = list_any (is_only (pos 1)) ds in
    let b = list_all (is_only (pos 0)) ds in
    ap (greater_range (span d)) (greatest_is ds (second (is_truth_left d) (list_all is_truth_left ds) h))
    ∙ by_left (λ e. greater_range (span e) (greatest_known a b) ≡ greatest_known (is_only (pos 1) e || a) (is_only (pos 0) e && b)) (greatest_of_zero a b) (greatest_of_one a b) (greatest_of_both a b) d (first (is_truth_left d) (list_all is_truth_left ds) h)

-- what is left to a result
least_missed : (a b : Bool) (e : Values) → (a ≡ true → b ≡ false) → is_truth_left e ≡ true → ranges_miss (least_known a b) (span e) ≡ ((is_only (pos 1) e && a) || (is_only (pos 0) e && b))
least_missed true true e f h = let w = f refl in cc
least_missed true false e f h = by_left (λ d. ranges_miss (point (pos 0)) (span d) ≡ ((is_only (pos 1) d && true) || (is_only (pos 0) d && false))) refl refl refl e h
least_missed false true e f h = by_left (λ d. ranges_miss (point (pos 1)) (span d) ≡ ((is_only (pos 1) d && false) || (is_only (pos 0) d && true))) refl refl refl e h
least_missed false false e f h = by_left (λ d. ranges_miss (range_of (pos 0) (pos 1)) (span d) ≡ ((is_only (pos 1) d && false) || (is_only (pos 0) d && false))) refl refl refl e h

greatest_missed : (a b : Bool) (e : Values) → (a ≡ true → b ≡ false) → is_truth_left e ≡ true → ranges_miss (greatest_known a b) (span e) ≡ ((is_only (pos 0) e && a) || (is_only (pos 1) e && b))
greatest_missed true true e f h = let w = f refl in cc
greatest_missed true false e f h = by_left (λ d. ranges_miss (point (pos 1)) (span d) ≡ ((is_only (pos 0) d && true) || (is_only (pos 1) d && false))) refl refl refl e h
greatest_missed false true e f h = by_left (λ d. ranges_miss (point (pos 0)) (span d) ≡ ((is_only (pos 0) d && false) || (is_only (pos 1) d && true))) refl refl refl e h
greatest_missed false false e f h = by_left (λ d. ranges_miss (range_of (pos 0) (pos 1)) (span d) ≡ ((is_only (pos 0) d && false) || (is_only (pos 1) d && false))) refl refl refl e h

pub least_misses : (ds : List Values) (e : Values) → list_all is_truth_left ds ≡ true → is_truth_left e ≡ true → (list_any (is_only (pos 0)) ds ≡ true → list_all (is_only (pos 1)) ds ≡ false) →
    ranges_miss (least_range (point (pos 1)) ds) (span e) ≡ ((is_only (pos 1) e && list_any (is_only (pos 0)) ds) || (is_only (pos 0) e && list_all (is_only (pos 1)) ds))
least_misses ds e h k f =
    ap (λ r. ranges_miss r (span e)) (least_is ds h) ∙ least_missed (list_any (is_only (pos 0)) ds) (list_all (is_only (pos 1)) ds) e f k

pub greatest_misses : (ds : List Values) (e : Values) → list_all is_truth_left ds ≡ true → is_truth_left e ≡ true → (list_any (is_only (pos 1)) ds ≡ true → list_all (is_only (pos 0)) ds ≡ false) →
    ranges_miss (greatest_range (point (pos 0)) ds) (span e) ≡ ((is_only (pos 0) e && list_any (is_only (pos 1)) ds) || (is_only (pos 1) e && list_all (is_only (pos 0)) ds))
greatest_misses ds e h k f =
    ap (λ r. ranges_miss r (span e)) (greatest_is ds h) ∙ greatest_missed (list_any (is_only (pos 1)) ds) (list_all (is_only (pos 0)) ds) e f k

-- two are an array of two
pub least_of_two : (d e : Values) → is_truth_left e ≡ true → smaller_range (span d) (span e) ≡ least_range (point (pos 1)) (d ∷ e ∷ [])
least_of_two d e h = ap (smaller_range (span d)) (by_left (λ z. span z ≡ smaller_range (span z) (point (pos 1))) refl refl refl e h)

pub greatest_of_two : (d e : Values) → is_truth_left e ≡ true → greater_range (span d) (span e) ≡ greatest_range (point (pos 0)) (d ∷ e ∷ [])
greatest_of_two d e h = ap (greater_range (span d)) (by_left (λ z. span z ≡ greater_range (span z) (point (pos 0))) refl refl refl e h)

-- what is left to a truth value that says whether something holds: a is that it does, b that it doesn't
pub said : (a b : Bool) (e : Values) → (a ≡ true → b ≡ false) → is_truth_left e ≡ true →
    ((not (has_value e (pos 1)) || b) && (not (has_value e (pos 0)) || a)) ≡ ((is_only (pos 0) e && a) || (is_only (pos 1) e && b))
said true true e f h = let w = f refl in cc
said true false e f h = by_left (λ d. ((not (has_value d (pos 1)) || false) && (not (has_value d (pos 0)) || true)) ≡ ((is_only (pos 0) d && true) || (is_only (pos 1) d && false))) refl refl refl e h
said false true e f h = by_left (λ d. ((not (has_value d (pos 1)) || true) && (not (has_value d (pos 0)) || false)) ≡ ((is_only (pos 0) d && false) || (is_only (pos 1) d && true))) refl refl refl e h
said false false e f h = by_left (λ d. ((not (has_value d (pos 1)) || false) && (not (has_value d (pos 0)) || false)) ≡ ((is_only (pos 0) d && false) || (is_only (pos 1) d && false))) refl refl refl e h
