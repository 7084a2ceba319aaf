-- Boxes as ranges in a row, a domain more, and one of them.
use Rattle.std.proofs.Common.{◌≡◌, ◌≤◌, ◌<◌, ◌∙◌, ◌+◌, ◌-◌, ℕ, zero, suc, Bool, true, false, List, [], ◌∷◌, ◌++◌, length, take, drop, refl, sym, ap, arith, add-one, ℤ}
use Rattle.std.specs.Prelude.{get_or, pos, ◌+ℤ◌, ◌-ℤ◌, nat_abs}
use Rattle.std.specs.Ordering.{int_eq}
use Rattle.std.proofs.lemmas.Int.{ints}
use Rattle.std.proofs.lemmas.List.{append-nil, drop_at, take-append-le, drop-append-le, length-append, length-drop, take_all, take_more, map-append}
use Rattle.qc_model.specs.Domains.{Box, Values, box_values, values_left, is_single, least_value}
use Rattle.qc_model.specs.Lists.{numbers_from}
use Rattle.dense_alike.specs.declared.range.Range.{Range}
use Rattle.dense_alike.specs.Ranges.{run, range_values, values_of, domains, start_of, Rises}

-- the places rise, so none is above the last
rises_up : (from : ℕ) (es : List ℕ) (n : ℕ) → Rises from es n → from ≤ n
rises_up from [] n r = omega (arith, r)
rises_up from (e ∷ es) n r = omega (arith, r.0, rises_up e es n r.1)

pub rises_more : (from : ℕ) (es : List ℕ) (m n : ℕ) → Rises from es m → m ≤ n → Rises from (es ++ n ∷ []) n
rises_more from [] m n r l = (omega (arith, r, l), refl)
rises_more from (e ∷ es) m n r l = (r.0, rises_more e es m n r.1 l)

-- ranges that come later don't change the domains that are there
slice_same : (rs more : List Range) (s e : ℕ) → s ≤ e → e ≤ length rs → take (e - s) (drop s (rs ++ more)) ≡ take (e - s) (drop s rs)
slice_same rs more s e l k =
    ap (take (e - s)) (drop-append-le s rs more (omega (arith, l, k)))
    ∙ take-append-le (e - s) (drop s rs) more (omega (arith, length-drop s rs, l, k))

pub domains_more : (rs more : List Range) (from : ℕ) (es : List ℕ) → Rises from es (length rs) → domains (rs ++ more) from (es ++ length (rs ++ more) ∷ []) ≡ domains rs from es ++ values_of more ∷ []
domains_more rs more from [] r =
    ap (λ us. values_of us ∷ [])
    (ap (take (length (rs ++ more) - from)) (drop_at rs more from (sym r))
    ∙ take_all (length (rs ++ more) - from) more (omega (arith, length-append rs more, r)))
domains_more rs more from (e ∷ es) r =
    ap (λ us. values_of us ∷ domains (rs ++ more) e (es ++ length (rs ++ more) ∷ [])) (slice_same rs more from e r.0 (rises_up e es (length rs) r.1))
    ∙ ap (λ ds. values_of (take (e - from) (drop from rs)) ∷ ds) (domains_more rs more e es r.1)

pub length-domains : (rs : List Range) (from : ℕ) (es : List ℕ) → length (domains rs from es) ≡ length es
length-domains rs from [] = refl
length-domains rs from (e ∷ es) = ap suc (length-domains rs e es)

-- one variable more: its ranges, where they end, and its least value
module _ (box : Box) (x : ℕ) (inside : x < length box) where
  box_more : take (x + 1) box ≡ take x box ++ values_left box x ∷ []
  box_more = take_more box x [] inside

  pub domains_next : (rs more : List Range) (es : List ℕ) → Rises 0 es (length rs) → domains rs 0 es ≡ take x box → values_of more ≡ values_left box x → domains (rs ++ more) 0 (es ++ length (rs ++ more) ∷ []) ≡ take (x + 1) box
  domains_next rs more es r e f = domains_more rs more 0 es r ∙ (ap (λ ds. ds ++ values_of more ∷ []) e ∙ (ap (λ us. take x box ++ us ∷ []) f ∙ sym box_more))

  pub least_next : (vs : List ℤ) (v : ℤ) → vs ≡ box_values (take x box) → v ≡ least_value (values_left box x) → vs ++ v ∷ [] ≡ box_values (take (x + 1) box)
  least_next vs v e f =
      ap (λ us. us ++ v ∷ []) e
      ∙ (ap (λ u. box_values (take x box) ++ u ∷ []) f
      ∙ (sym (map-append least_value (take x box) (values_left box x ∷ [])) ∙ ap box_values (sym box_more)))

pub start_is : (from : ℕ) (es : List ℕ) (x : ℕ) → x < length es → start_of from es (x + 1) ≡ get_or es x 0
start_is from es x l = ap (start_of from es) (add-one x) ∙ go from es x l
  where
    go : (from : ℕ) (es : List ℕ) (x : ℕ) → x < length es → start_of from es (suc x) ≡ get_or es x 0
    go from [] x l = absurd (omega arith)
    go from (e ∷ es) zero l = refl
    go from (e ∷ es) (suc x) l = go e es x (omega arith)

pub domain_at : (rs : List Range) (from : ℕ) (es : List ℕ) (x : ℕ) → x < length es → values_left (domains rs from es) x ≡ values_of (take (get_or es x 0 - start_of from es x) (drop (start_of from es x) rs))
domain_at rs from [] x l = absurd (omega arith)
domain_at rs from (e ∷ es) zero l = refl
domain_at rs from (e ∷ es) (suc x) l = domain_at rs e es x (omega arith)

pub start_within : (from : ℕ) (es : List ℕ) (n x : ℕ) → x < length es → Rises from es n → (start_of from es x ≤ get_or es x 0) × (get_or es x 0 ≤ n)
start_within from [] n x l r = absurd (omega arith)
start_within from (e ∷ es) n zero l r = (r.0, rises_up e es n r.1)
start_within from (e ∷ es) n (suc x) l r = start_within e es n x (omega arith) r.1

-- ranges with one value
single_run : (u v : ℤ) → is_single (run u v) ≡ int_eq u v
single_run u v = by (int_eq u v) refl
  where
    none : (u v : ℤ) → int_eq u v ≡ true → nat_abs (v -ℤ u) + 1 ≡ 1
    none u v e = grind (arith, ints)

    some : (u v : ℤ) → int_eq u v ≡ false → (n : ℕ) × (nat_abs (v -ℤ u) + 1 ≡ suc (suc n))
    some u v e = (nat_abs (v -ℤ u) - 1, grind (arith, ints))

    by : (b : Bool) → int_eq u v ≡ b → is_single (run u v) ≡ b
    by true e = ap (λ n. is_single (numbers_from u n)) (none u v e)
    by false e = ap (λ n. is_single (numbers_from u n)) (some u v e).1

pub single_one : (r : Range) → is_single (values_of (r ∷ [])) ≡ int_eq r.first r.last
single_one r = ap is_single (append-nil (range_values r)) ∙ single_run r.first r.last

pub not_single_more : (r q : Range) (rs : List Range) → is_single (values_of (r ∷ q ∷ rs)) ≡ false
not_single_more r q rs =
    ap (λ us. is_single (us ++ values_of (q ∷ rs))) (starts r.first r.last)
    ∙ ap (λ us. is_single (r.first ∷ numbers_from (r.first +ℤ pos 1) (nat_abs (r.last -ℤ r.first)) ++ (us ++ values_of rs))) (starts q.first q.last)
    ∙ two r.first (numbers_from (r.first +ℤ pos 1) (nat_abs (r.last -ℤ r.first))) q.first (numbers_from (q.first +ℤ pos 1) (nat_abs (q.last -ℤ q.first)) ++ values_of rs)
  where
    suc_of : (n : ℕ) → n + 1 ≡ suc n
    suc_of n = omega arith

    starts : (v w : ℤ) → run v w ≡ v ∷ numbers_from (v +ℤ pos 1) (nat_abs (w -ℤ v))
    starts v w = ap (numbers_from v) (suc_of (nat_abs (w -ℤ v)))

    two : (u : ℤ) (us : Values) (v : ℤ) (vs : Values) → is_single (u ∷ us ++ v ∷ vs) ≡ false
    two u [] v vs = refl
    two u (w ∷ us) v vs = refl

-- the ranges are one, or more
pub one_range : (rs : List Range) (r : Range) → 1 ≤ length rs → length rs < 2 → r ≡ get_or rs 0 r → is_single (values_of rs) ≡ int_eq r.first r.last
one_range [] r l m e = absurd (omega (arith, l))
one_range (q ∷ []) r l m e = ap (λ (p : Range). is_single (values_of (p ∷ []))) (sym e) ∙ single_one r
one_range (q ∷ p ∷ rs) r l m e = absurd (omega (arith, m))

pub more_ranges : (rs : List Range) → 2 ≤ length rs → is_single (values_of rs) ≡ false
more_ranges [] l = refl
more_ranges (r ∷ []) l = absurd (omega (arith, l))
more_ranges (r ∷ q ∷ rs) l = not_single_more r q rs
