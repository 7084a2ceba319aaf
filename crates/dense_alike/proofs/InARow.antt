-- Ascending values, and those that stand in a row.
use Rattle.std.proofs.Common.{◌≡◌, ◌≤◌, ◌<◌, ◌∙◌, ◌+◌, ℕ, zero, suc, Bool, true, false, ◌&&◌, ◌||◌, cond, List, [], ◌∷◌, ◌++◌, refl, sym, ap, subst, arith, ℤ, Option, Some, None}
use mir.Val.{SFits}
use mir.Syntax.{w64}
use Rattle.std.specs.Prelude.{get_or, drop, length, is_none, is_some, not, int_le, int_lt, ◌≤ℤ◌, ◌<ℤ◌, ◌+ℤ◌, ◌-ℤ◌, pos, negsuc, nat_abs, unsigned_abs}
use Rattle.std.specs.List.{list_all}
use Rattle.std.specs.Ordering.{int_eq}
use Rattle.std.proofs.lemmas.Int.{ints}
use Rattle.std.proofs.lemmas.List.{append-nil, append_assoc, flat_map_more, at_drop_more, at_drop_all}
use Rattle.std.proofs.lemmas.Bool.Decides.{Decides-int_eq, nat_tests}
use Rattle.std.proofs.lemmas.Bool.{and_from}
use Rattle.qc_model.specs.Domains.{Values, has_value, is_ascending, least_from}
use Rattle.qc_model.specs.Lists.{numbers_from, same_values}
use Rattle.qc_model.specs.Valid.{is_number}
use Rattle.qc_model.proofs.Readable.{first, second}
use Rattle.model_arguments.proofs.Values.{above_first, ascending_rest, ascending_kept, value_passes}
use Rattle.fd_store.specs.Held.{values_from, least_of}
use Rattle.box_laws.proofs.Filters.{filter_agree}
use Rattle.box_laws.proofs.Firsts.{first_among, from_first, from_least, least_is, passes}
use Rattle.dense_alike.specs.declared.range.Range.{Range}
use Rattle.qc_model.specs.Valid.{is_range}
use Rattle.dense_alike.specs.Ranges.{run, range_values, values_of}

-- from a value that is left on come that value and those above it
pub from_step : (d : Values) (w : ℤ) → is_ascending d ≡ true → has_value d w ≡ true → values_from w d ≡ w ∷ values_from (w +ℤ pos 1) d
from_step [] w a h = cc
from_step (u ∷ d) w a h = by (int_eq w u) (Decides-int_eq w u).0 refl h (λ k. from_step d w (ascending_rest u d a) k)
  where
    self_le : (w : ℤ) → int_le w w ≡ true
    self_le w = grind (arith, ints)

    not_more : (w : ℤ) → int_le (w +ℤ pos 1) w ≡ false
    not_more w = grind (arith, ints)

    above : (w v : ℤ) → int_lt w v ≡ true → int_le w v ≡ int_le (w +ℤ pos 1) v
    above w v h = grind (arith, ints)

    below : (u w : ℤ) → int_lt u w ≡ true → int_le w u ≡ false
    below u w h = grind (arith, ints)

    below_more : (u w : ℤ) → int_lt u w ≡ true → int_le (w +ℤ pos 1) u ≡ false
    below_more u w h = grind (arith, ints)

    here : w ≡ u → values_from w (u ∷ d) ≡ w ∷ values_from (w +ℤ pos 1) (u ∷ d)
    here e =
        let low : int_le w u ≡ true = ap (int_le w) (sym e) ∙ self_le w in
        let high : int_le (w +ℤ pos 1) u ≡ false = ap (int_le (w +ℤ pos 1)) (sym e) ∙ not_more w in
        ap (λ b. cond b (u ∷ values_from w d) (values_from w d)) low
        ∙ (ap (λ z. z ∷ values_from w d) (sym e)
        ∙ ap (λ us. w ∷ us) (filter_agree (int_lt u) (int_le w) (int_le (w +ℤ pos 1)) (λ v k. above w v (ap (λ z. int_lt z v) e ∙ k)) d (above_first u d a)
        ∙ sym (ap (λ b. cond b (u ∷ values_from (w +ℤ pos 1) d) (values_from (w +ℤ pos 1) d)) high)))

    later : has_value d w ≡ true → values_from w d ≡ w ∷ values_from (w +ℤ pos 1) d → values_from w (u ∷ d) ≡ w ∷ values_from (w +ℤ pos 1) (u ∷ d)
    later k rest =
        let less : int_lt u w ≡ true = value_passes (int_lt u) d w (above_first u d a) k in
        ap (λ b. cond b (u ∷ values_from w d) (values_from w d)) (below u w less)
        ∙ (rest
        ∙ sym (ap (λ b. w ∷ cond b (u ∷ values_from (w +ℤ pos 1) d) (values_from (w +ℤ pos 1) d)) (below_more u w less)))

    by : (b : Bool) → (b ≡ true → w ≡ u) → int_eq w u ≡ b → (int_eq w u || has_value d w) ≡ true → (has_value d w ≡ true → values_from w d ≡ w ∷ values_from (w +ℤ pos 1) d) → values_from w (u ∷ d) ≡ w ∷ values_from (w +ℤ pos 1) (u ∷ d)
    by true f e h rest = here (f refl)
    by false f e h rest = let k : has_value d w ≡ true = ap (λ b. b || has_value d w) (sym e) ∙ h in later k (rest k)

-- the first of the values from a number on
pub head_is : (d : Values) (from v : ℤ) → is_ascending d ≡ true → Some v ≡ least_of (values_from from d) → (rest : Values) × (values_from from d ≡ v ∷ rest)
head_is d from v a e = go (values_from from d) (ascending_kept (int_le from) d a) e
  where
    go : (us : Values) → is_ascending us ≡ true → Some v ≡ least_of us → (rest : Values) × (us ≡ v ∷ rest)
    go [] k e = cc
    go (w ∷ us) k e = let h : v ≡ least_from w us = cc in (us, ap (λ z. z ∷ us) (sym (h ∙ least_is w us (above_first w us k))))

pub from_next : (d : Values) (from v : ℤ) → is_ascending d ≡ true → Some v ≡ least_of (values_from from d) → values_from from d ≡ values_from v d
from_next d from v a e = let r = head_is d from v a e in from_first from v r.0 d a r.1

pub next_there : (d : Values) (from v : ℤ) → is_ascending d ≡ true → Some v ≡ least_of (values_from from d) → has_value d v ≡ true
next_there d from v a e = let r = head_is d from v a e in first_among (int_le from) d v r.0 r.1

pub next_up : (d : Values) (from v : ℤ) → is_ascending d ≡ true → Some v ≡ least_of (values_from from d) → int_le from v ≡ true
next_up d from v a e = let r = head_is d from v a e in passes (int_le from) d v r.0 r.1

-- numbers in a row, cut in two
pub numbers_cut : (v : ℤ) (m n : ℕ) → numbers_from v (m + n) ≡ numbers_from v m ++ numbers_from (v +ℤ pos m) n
numbers_cut v zero n = ap (λ k. numbers_from v k) (none n) ∙ ap (λ z. numbers_from z n) (same v)
  where
    none : (n : ℕ) → 0 + n ≡ n
    none n = omega arith

    same : (v : ℤ) → v ≡ (v +ℤ pos 0)
    same v = omega (arith, ints)
numbers_cut v (suc m) n =
    ap (numbers_from v) (more m n)
    ∙ ap (λ us. v ∷ us) (numbers_cut (v +ℤ pos 1) m n ∙ ap (λ z. numbers_from (v +ℤ pos 1) m ++ numbers_from z n) (next v m))
  where
    more : (m n : ℕ) → suc m + n ≡ suc (m + n)
    more m n = omega arith

    next : (v : ℤ) (m : ℕ) → ((v +ℤ pos 1) +ℤ pos m) ≡ (v +ℤ pos (suc m))
    next v m = grind (arith, ints)

pub one_run : (v : ℤ) → run v v ≡ v ∷ []
one_run v = ap (λ n. numbers_from v (n + 1)) (none v)
  where
    none : (v : ℤ) → nat_abs (v -ℤ v) ≡ 0
    none v = grind (arith, ints)

-- a run up to v, and what comes after v up to the last
pub run_cut : (u v w : ℤ) → u ≤ℤ v → v <ℤ w → run u w ≡ run u v ++ run (v +ℤ pos 1) w
run_cut u v w h k =
    ap (numbers_from u) (sizes u v w h k)
    ∙ (numbers_cut u (nat_abs (v -ℤ u) + 1) (nat_abs (w -ℤ (v +ℤ pos 1)) + 1)
    ∙ ap (λ z. run u v ++ numbers_from z (nat_abs (w -ℤ (v +ℤ pos 1)) + 1)) (start u v h))
  where
    sizes : (u v w : ℤ) → u ≤ℤ v → v <ℤ w → nat_abs (w -ℤ u) + 1 ≡ (nat_abs (v -ℤ u) + 1) + (nat_abs (w -ℤ (v +ℤ pos 1)) + 1)
    sizes u v w h k = grind (arith, ints)

    start : (u v : ℤ) → u ≤ℤ v → (u +ℤ pos (nat_abs (v -ℤ u) + 1)) ≡ (v +ℤ pos 1)
    start u v h = grind (arith, ints)

-- the ends of a range
pub range_first : (u v : ℤ) → is_range u v ≡ true → is_number u ≡ true
range_first u v h = first (is_number u) (is_number v) (first (is_number u && is_number v) (int_le u v) h)

pub range_last : (u v : ℤ) → is_range u v ≡ true → is_number v ≡ true
range_last u v h = second (is_number u) (is_number v) (first (is_number u && is_number v) (int_le u v) h)

pub range_rises : (u v : ℤ) → is_range u v ≡ true → u ≤ℤ v
range_rises u v h = le u v (second (is_number u && is_number v) (int_le u v) h)
  where
    le : (u v : ℤ) → int_le u v ≡ true → u ≤ℤ v
    le u v h = grind (arith, ints)

pub range_is : (u v : ℤ) → is_number u ≡ true → is_number v ≡ true → u ≤ℤ v → is_range u v ≡ true
range_is u v a b h = and_from (is_number u && is_number v) (int_le u v) (and_from (is_number u) (is_number v) a b) (le u v h)
  where
    le : (u v : ℤ) → u ≤ℤ v → int_le u v ≡ true
    le u v h = grind (arith, ints)

-- what is left from u on begins with the run up to v
abbrev pub Begins : Values → ℤ → ℤ → Type 0
Begins d u v = values_from u d ≡ run u v ++ values_from (v +ℤ pos 1) d

pub begins_first : (d : Values) (v : ℤ) → is_ascending d ≡ true → has_value d v ≡ true → Begins d v v
begins_first d v a h = from_step d v a h ∙ ap (λ us. us ++ values_from (v +ℤ pos 1) d) (sym (one_run v))

pub begins_more : (d : Values) (u v : ℤ) → is_ascending d ≡ true → u ≤ℤ v → has_value d (v +ℤ pos 1) ≡ true → Begins d u v → Begins d u (v +ℤ pos 1)
begins_more d u v a l h e =
    let w = v +ℤ pos 1 in
    e ∙ (ap (λ us. run u v ++ us) (from_step d w a h ∙ ap (λ us. us ++ values_from (w +ℤ pos 1) d) (sym (one_run w)))
    ∙ (sym (append_assoc (run u v) (run w w) (values_from (w +ℤ pos 1) d)) ∙ ap (λ us. us ++ values_from (w +ℤ pos 1) d) (sym (run_cut u v w l (less v)))))
  where
    less : (v : ℤ) → v <ℤ (v +ℤ pos 1)
    less v = omega (arith, ints)

-- so do the values that are left from an earlier number on, where none lies between
pub begins_from : (d : Values) (from u v : ℤ) → is_ascending d ≡ true → Some u ≡ least_of (values_from from d) → Begins d u v → values_from from d ≡ run u v ++ values_from (v +ℤ pos 1) d
begins_from d from u v a e b = from_next d from u a e ∙ b

-- one range after others
pub values_more : (more : List Range) (r : Range) → values_of (more ++ r ∷ []) ≡ values_of more ++ range_values r
values_more more r = sym (flat_map_more range_values [] more r)

pub push_step : (d : Values) (from : ℤ) (more : List Range) (r : Range) → is_ascending d ≡ true → Some r.first ≡ least_of (values_from from d) → Begins d r.first r.last → values_of more ++ values_from from d ≡ d →
    values_of (more ++ r ∷ []) ++ values_from (r.last +ℤ pos 1) d ≡ d
push_step d from more r a e b f =
    ap (λ us. us ++ values_from (r.last +ℤ pos 1) d) (values_more more r)
    ∙ (append_assoc (values_of more) (range_values r) (values_from (r.last +ℤ pos 1) d)
    ∙ (ap (λ us. values_of more ++ us) (sym (begins_from d from r.first r.last a e b)) ∙ f))

-- two lists that begin alike
pub same_after : (us xs ys : Values) → same_values (us ++ xs) (us ++ ys) ≡ same_values xs ys
same_after [] xs ys = refl
same_after (u ∷ us) xs ys = ap (λ b. b && same_values (us ++ xs) (us ++ ys)) ((Decides-int_eq u u).1 refl) ∙ same_after us xs ys

-- where a value isn't left, what is left from it on doesn't begin with it
pub not_first : (d rest : Values) (w : ℤ) → has_value d w ≡ false → same_values (values_from w d) (w ∷ rest) ≡ false
not_first d rest w h = by (values_from w d) refl
  where
    differ : (u : ℤ) → has_value d u ≡ true → (b : Bool) → int_eq u w ≡ b → b ≡ false
    differ u k true e =
        let q : u ≡ w = (Decides-int_eq u w).0 e in
        let l : true ≡ false = sym k ∙ (ap (has_value d) q ∙ h) in
        cc
    differ u k false e = refl

    by : (us : Values) → values_from w d ≡ us → same_values us (w ∷ rest) ≡ false
    by [] e = refl
    by (u ∷ us) e = ap (λ b. b && same_values us rest) (differ u (first_among (int_le w) d u us e) (int_eq u w) refl)

-- so what is left doesn't begin with a run that has such a value
pub not_begins : (d rest : Values) (u v w : ℤ) → u ≤ℤ v → v <ℤ w → has_value d (v +ℤ pos 1) ≡ false → Begins d u v → same_values (values_from u d) (run u w ++ rest) ≡ false
not_begins d rest u v w l k h b =
    ap (λ us. same_values us (run u w ++ rest)) b
    ∙ (ap (λ us. same_values (run u v ++ values_from (v +ℤ pos 1) d) (us ++ rest)) (run_cut u v w l k)
    ∙ (ap (same_values (run u v ++ values_from (v +ℤ pos 1) d)) (append_assoc (run u v) (run (v +ℤ pos 1) w) rest)
    ∙ (same_after (run u v) (values_from (v +ℤ pos 1) d) (run (v +ℤ pos 1) w ++ rest)
    ∙ (ap (λ us. same_values (values_from (v +ℤ pos 1) d) (us ++ rest)) (starts (v +ℤ pos 1) w) ∙ not_first d (numbers_from ((v +ℤ pos 1) +ℤ pos 1) (nat_abs (w -ℤ (v +ℤ pos 1))) ++ rest) (v +ℤ pos 1) h))))
  where
    suc_of : (n : ℕ) → n + 1 ≡ suc n
    suc_of n = omega arith

    starts : (v w : ℤ) → run v w ≡ v ∷ numbers_from (v +ℤ pos 1) (nat_abs (w -ℤ v))
    starts v w = ap (numbers_from v) (suc_of (nat_abs (w -ℤ v)))

pub one_range : (v : ℤ) → is_number v ≡ true → is_range v v ≡ true
one_range v n = range_is v v n n (le v)
  where
    le : (v : ℤ) → v ≤ℤ v
    le v = omega (arith, ints)

pub range_more : (u v : ℤ) → is_range u v ≡ true → is_number (v +ℤ pos 1) ≡ true → is_range u (v +ℤ pos 1) ≡ true
range_more u v h n = range_is u (v +ℤ pos 1) (range_first u v h) n (up u v (range_rises u v h))
  where
    up : (u v : ℤ) → u ≤ℤ v → u ≤ℤ (v +ℤ pos 1)
    up u v h = omega (arith, ints, h)

pub next_fits : (v : ℤ) → is_number v ≡ true → SFits w64 (v +ℤ pos 1)
next_fits v e = near v (small v e)
  where
    small : (v : ℤ) → is_number v ≡ true → unsigned_abs v ≤ 1000000000
    small v e = grind (arith, nat_tests)

    near : (v : ℤ) → unsigned_abs v ≤ 1000000000 → SFits w64 (v +ℤ pos 1)
    near v h = omega (arith, ints)

-- what is left from a number on comes to its end
pub next_nearer : (d : Values) (from u v : ℤ) → is_ascending d ≡ true → Some u ≡ least_of (values_from from d) → is_range u v ≡ true → nat_abs (pos 1000000002 -ℤ (v +ℤ pos 1)) < nat_abs (pos 1000000002 -ℤ from)
next_nearer d from u v a e r = nearer from u v (next_up d from u a e) (range_rises u v r) (small v (range_last u v r))
  where
    small : (v : ℤ) → is_number v ≡ true → unsigned_abs v ≤ 1000000000
    small v e = grind (arith, nat_tests)

    nearer : (from u v : ℤ) → int_le from u ≡ true → u ≤ℤ v → unsigned_abs v ≤ 1000000000 → nat_abs (pos 1000000002 -ℤ (v +ℤ pos 1)) < nat_abs (pos 1000000002 -ℤ from)
    nearer from u v h k l = grind (arith, ints)

-- what begins with another value isn't the same
pub other_first : (d rest : Values) (from u v w : ℤ) → is_ascending d ≡ true → Some v ≡ least_of (values_from from d) → int_eq v u ≡ false → same_values (values_from from d) (run u w ++ rest) ≡ false
other_first d rest from u v w a e h =
    let r = head_is d from v a e in
    ap (λ us. same_values us (run u w ++ rest)) r.1 ∙ (ap (λ us. same_values (v ∷ r.0) (us ++ rest)) (starts u w) ∙ ap (λ b. b && same_values r.0 (numbers_from (u +ℤ pos 1) (nat_abs (w -ℤ u)) ++ rest)) h)
  where
    suc_of : (n : ℕ) → n + 1 ≡ suc n
    suc_of n = omega arith

    starts : (v w : ℤ) → run v w ≡ v ∷ numbers_from (v +ℤ pos 1) (nat_abs (w -ℤ v))
    starts v w = ap (numbers_from v) (suc_of (nat_abs (w -ℤ v)))

-- from range to range
pub same_step : (d : Values) (from : ℤ) (rs : List Range) (k : ℕ) (r : Range) → k < length rs → r ≡ get_or rs k r → values_from from d ≡ range_values r ++ values_from (r.last +ℤ pos 1) d →
    same_values (values_from from d) (values_of (drop k rs)) ≡ same_values (values_from (r.last +ℤ pos 1) d) (values_of (drop (k + 1) rs))
same_step d from rs k r l e h =
    at_drop_more (λ us. same_values (values_from from d) (values_of us)) rs k r l
    ∙ (ap (λ q. same_values (values_from from d) (range_values q ++ values_of (drop (k + 1) rs))) (sym e)
    ∙ (ap (λ us. same_values us (range_values r ++ values_of (drop (k + 1) rs))) h ∙ same_after (range_values r) (values_from (r.last +ℤ pos 1) d) (values_of (drop (k + 1) rs))))

pub differs_step : (d : Values) (from : ℤ) (rs : List Range) (k : ℕ) (r : Range) → k < length rs → r ≡ get_or rs k r → ((rest : Values) → same_values (values_from from d) (range_values r ++ rest) ≡ false) → same_values (values_from from d) (values_of (drop k rs)) ≡ false
differs_step d from rs k r l e f =
    at_drop_more (λ us. same_values (values_from from d) (values_of us)) rs k r l
    ∙ (ap (λ q. same_values (values_from from d) (range_values q ++ values_of (drop (k + 1) rs))) (sym e) ∙ f (values_of (drop (k + 1) rs)))

pub same_end : (d : Values) (from : ℤ) (rs : List Range) (k : ℕ) → length rs ≤ k → is_none (least_of (values_from from d)) ≡ same_values (values_from from d) (values_of (drop k rs))
same_end d from rs k l = by (values_from from d) ∙ sym (at_drop_all (λ us. same_values (values_from from d) (values_of us)) rs k l)
  where
    by : (us : Values) → is_none (least_of us) ≡ same_values us []
    by [] = refl
    by (u ∷ us) = refl

-- some ranges were appended, and their values are those that aren't left from a number on
pub record IsPushed (old new : List Range) (d : Values) (from : ℤ) : Type 0 where
  pub more : List Range
  pub appended : new ≡ old ++ more
  pub values : values_of more ++ values_from from d ≡ d

pub none_pushed : (old : List Range) (d : Values) → list_all is_number d ≡ true → IsPushed old old d (negsuc 999999999)
none_pushed old d n = record { more = []; appended = sym (append-nil old); values = from_least d n }

pub one_pushed : (old new newer : List Range) (d : Values) (from u v : ℤ) (r : Range) → is_ascending d ≡ true → Some u ≡ least_of (values_from from d) → Begins d u v → IsPushed old new d from → r.first ≡ u → r.last ≡ v → newer ≡ new ++ r ∷ [] →
    IsPushed old newer d (v +ℤ pos 1)
one_pushed old new newer d from u v r a e b p low high f =
    subst (λ z. IsPushed old newer d (z +ℤ pos 1)) high
    (record {
      more = p.more ++ r ∷ [];
      appended = f ∙ (ap (λ us. us ++ r ∷ []) p.appended ∙ append_assoc old p.more (r ∷ []));
      values = push_step d from p.more r a (ap Some low ∙ e) (subst (λ z. Begins d z r.last) (sym low) (subst (Begins d u) (sym high) b)) p.values;
    })

pub number_fits : (v : ℤ) → is_number v ≡ true → SFits w64 v
number_fits v e = near v (small v e)
  where
    small : (v : ℤ) → is_number v ≡ true → unsigned_abs v ≤ 1000000000
    small v e = grind (arith, nat_tests)

    near : (v : ℤ) → unsigned_abs v ≤ 1000000000 → SFits w64 v
    near v h = omega (arith, ints)

-- what is left from a number on is what is left from the first of it
pub starts_at : (d : Values) (from v u : ℤ) → is_ascending d ≡ true → Some v ≡ least_of (values_from from d) → int_eq v u ≡ true → values_from from d ≡ values_from u d
starts_at d from v u a e h = from_next d from v a e ∙ ap (λ z. values_from z d) ((Decides-int_eq v u).0 h)

pub nothing_next : (o : Option ℤ) (r : Bool) → is_some o ≡ not r → r ≡ is_none o
nothing_next None true e = refl
nothing_next None false e = cc
nothing_next (Some v) true e = cc
nothing_next (Some v) false e = refl
