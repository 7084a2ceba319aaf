-- The ends of an ascending list, and the widths of domains.
use Rattle.std.proofs.Common.{◌≡◌, ◌∙◌, sym, ap, refl, ◌<◌, ◌≤◌, ◌+◌, ◌-◌, Bool, true, false, ◌&&◌, List, [], ◌∷◌, length, get_or, cond, arith, leb-true, ℤ}
use Rattle.std.specs.Prelude.{int_lt, ◌-ℤ◌, nat_abs}
use Rattle.std.proofs.lemmas.Int.{ints}
use Rattle.std.proofs.lemmas.Bool.{and_parts, false_from_ne_true, true_from_ne_false}
use Rattle.qc_model.specs.declared.problem.Domain.TheVariants.{Listed}
use Rattle.qc_model.specs.Valid.{is_domain, is_listed, width_of}
use Rattle.qc_model.specs.Domains.{is_ascending, least_from, greatest_from, least_value, greatest_value}

skip_second : (n w : ℤ) (vs : List ℤ) → is_ascending (n ∷ w ∷ vs) ≡ true → is_ascending (n ∷ vs) ≡ true
skip_second n w [] h = refl
skip_second n w (u ∷ us) h =
    let low = and_parts (int_lt n w) _ h in
    let high = and_parts (int_lt w u) _ low.1 in
    join (int_lt n u) (is_ascending (u ∷ us)) (below low.0 high.0) high.1
  where
    below : int_lt n w ≡ true → int_lt w u ≡ true → int_lt n u ≡ true
    below p q = true_from_ne_false (int_lt n u) (λ e. omega (arith, ints))

    join : (a b : Bool) → a ≡ true → b ≡ true → (a && b) ≡ true
    join a b p q = cc

not_above : (n w : ℤ) → int_lt n w ≡ true → int_lt w n ≡ false
not_above n w h = false_from_ne_true (int_lt w n) (λ e. omega (arith, ints))

least_first : (n : ℤ) (vs : List ℤ) → is_ascending (n ∷ vs) ≡ true → least_from n vs ≡ n
least_first n [] h = refl
least_first n (w ∷ vs) h =
    ap (λ b. least_from (cond b w n) vs) (not_above n w (and_parts (int_lt n w) _ h).0) ∙ least_first n vs (skip_second n w vs h)

greatest_last : (n : ℤ) (vs : List ℤ) (d : ℤ) → is_ascending (n ∷ vs) ≡ true → greatest_from n vs ≡ get_or (n ∷ vs) (length vs) d
greatest_last n [] d h = refl
greatest_last n (w ∷ vs) d h =
    let low = and_parts (int_lt n w) (is_ascending (w ∷ vs)) h in
    ap (λ b. greatest_from (cond b w n) vs) low.0 ∙ greatest_last w vs d low.1

-- the ends of an ascending list
pub least_is_first : (vs : List ℤ) (d : ℤ) → 0 < length vs → is_ascending vs ≡ true → least_value vs ≡ get_or vs 0 d
least_is_first [] d lt h = absurd (omega arith)
least_is_first (n ∷ vs) d lt h = least_first n vs h

pub greatest_is_last : (vs : List ℤ) (d : ℤ) → 0 < length vs → is_ascending vs ≡ true → greatest_value vs ≡ get_or vs (length vs - 1) d
greatest_is_last [] d lt h = absurd (omega arith)
greatest_is_last (n ∷ vs) d lt h = greatest_last n vs d h ∙ ap (λ m. get_or (n ∷ vs) m d) place
  where
    place : length vs ≡ length (n ∷ vs) - 1
    place = omega arith

-- the width of an ascending list by its ends
pub width_by_ends : (ns : List ℤ) (least greatest : ℤ) → 0 < length ns → is_ascending ns ≡ true → least ≡ get_or ns 0 least → greatest ≡ get_or ns (length ns - 1) greatest →
    nat_abs (greatest -ℤ least) + 1 ≡ width_of ns
width_by_ends ns least greatest lt h p q =
    let low : least ≡ least_value ns = p ∙ sym (least_is_first ns least lt h) in
    let high : greatest ≡ greatest_value ns = q ∙ sym (greatest_is_last ns greatest lt h) in
    ap (λ v. nat_abs (v -ℤ least) + 1) high ∙ ap (λ v. nat_abs (greatest_value ns -ℤ v) + 1) low

pub listed_ascends : (ns : List ℤ) → is_listed ns ≡ true → is_ascending ns ≡ true
listed_ascends ns h = (and_parts _ _ h).1

pub listed_domain : (ns : List ℤ) → is_domain (Listed ns) ≡ true → is_listed ns ≡ true
listed_domain ns h = (and_parts _ _ (and_parts _ _ (and_parts _ _ h).0).0).1

pub listed_width : (ns : List ℤ) → is_domain (Listed ns) ≡ true → width_of ns ≤ 1048576
listed_width ns h = leb-true (width_of ns) 1048576 (and_parts _ _ h).1
