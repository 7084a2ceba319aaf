-- Ascending values, one after the other.
use Rattle.std.proofs.Common.{◌≡◌, Bool, true, false, not, ◌||◌, cond, [], ◌∷◌, refl, sym, ap, ◌∙◌, subst, arith, ℤ, Option, Some, None}
use Rattle.std.specs.Prelude.{filter, int_le, int_lt, pos, ◌+ℤ◌, ◌-ℤ◌}
use Rattle.std.specs.List.{list_all}
use Rattle.std.specs.Ordering.{int_eq}
use Rattle.std.proofs.lemmas.Int.{ints}
use Rattle.std.proofs.lemmas.Bool.Decides.{Decides-int_eq}
use Rattle.std.proofs.lemmas.Bool.{and_from, not_from_false}
use Rattle.qc_model.specs.Domains.{Values, is_none_left, is_single, has_value, least_from, least_value, greatest_from, greatest_value, is_ascending, values_within}
use Rattle.qc_model.proofs.Readable.{first, second}
use Rattle.model_arguments.proofs.Values.{above_first, ascending_rest, ascending_kept, all_kept, value_passes, has_first, has_greatest}
use Rattle.fd_store.specs.Held.{values_from, values_up_to, least_of, greatest_of}
use Rattle.box_laws.proofs.Filters.{filter_all, filter_none, all_weaker}
use Rattle.box_laws.proofs.Firsts.{from_itself, from_later, where_is, least_is, passes, first_among, from_first}
use Rattle.search_box.specs.Rests.{IsFirst, IsAfter, IsNext, IsBefore, IsPrevious, IsLast}

lt_not_eq : (v w : ℤ) → int_lt v w ≡ true → int_eq v w ≡ false
lt_not_eq v w h = grind (arith, ints)

self_eq : (v : ℤ) → int_eq v v ≡ true
self_eq v = grind (arith, ints)

pub first_is : (vs : Values) (v : ℤ) → is_ascending vs ≡ true → is_none_left vs ≡ false → v ≡ least_value vs → IsFirst vs v
first_is [] v a n e = cc
first_is (w ∷ vs) v a n e =
    let same : v ≡ w = e ∙ least_is w vs (above_first w vs a) in
    subst (λ u. IsFirst (w ∷ vs) u) (sym same) (record { left = has_first w vs; all = from_itself w vs a })

-- the values from v on are v and those above it
next_up : (v u : ℤ) → int_lt v u ≡ true → int_le (v +ℤ pos 1) u ≡ true
next_up v u h = grind (arith, ints)

not_up : (v : ℤ) → int_le (v +ℤ pos 1) v ≡ false
not_up v = grind (arith, ints)

not_above : (v w : ℤ) → int_lt w v ≡ true → int_le (v +ℤ pos 1) w ≡ false
not_above v w h = grind (arith, ints)

rest_at : (vs : Values) (v : ℤ) → is_ascending vs ≡ true → has_value vs v ≡ true → values_from v vs ≡ v ∷ values_from (v +ℤ pos 1) vs
rest_at [] v a h = cc
rest_at (w ∷ vs) v a h = where_is v w vs h here (λ k. later k (rest_at vs v (ascending_rest w vs a) k))
  where
    at_first : (w : ℤ) (vs : Values) → is_ascending (w ∷ vs) ≡ true → values_from w (w ∷ vs) ≡ w ∷ values_from (w +ℤ pos 1) (w ∷ vs)
    at_first w vs a =
        from_itself w vs a
        ∙ ap (λ us. w ∷ us)
        (sym (ap (λ b. cond b (w ∷ values_from (w +ℤ pos 1) vs) (values_from (w +ℤ pos 1) vs)) (not_up w)
        ∙ filter_all (int_le (w +ℤ pos 1)) vs (all_weaker (int_lt w) (int_le (w +ℤ pos 1)) (next_up w) vs (above_first w vs a))))

    here : v ≡ w → values_from v (w ∷ vs) ≡ v ∷ values_from (v +ℤ pos 1) (w ∷ vs)
    here e = subst (λ u. values_from u (w ∷ vs) ≡ u ∷ values_from (u +ℤ pos 1) (w ∷ vs)) (sym e) (at_first w vs a)

    later : has_value vs v ≡ true → values_from v vs ≡ v ∷ values_from (v +ℤ pos 1) vs → values_from v (w ∷ vs) ≡ v ∷ values_from (v +ℤ pos 1) (w ∷ vs)
    later k e =
        from_later v w vs a k
        ∙ (e
        ∙ ap (λ us. v ∷ us) (sym (ap (λ b. cond b (w ∷ values_from (v +ℤ pos 1) vs) (values_from (v +ℤ pos 1) vs)) (not_above v w (value_passes (int_lt w) vs v (above_first w vs a) k)))))

above_it : (v w : ℤ) → int_le (v +ℤ pos 1) w ≡ true → int_lt v w ≡ true
above_it v w h = grind (arith, ints)

-- what the store tells of the values from v + 1 on
pub next_is : (vs : Values) (v : ℤ) (r : Option ℤ) → is_ascending vs ≡ true → has_value vs v ≡ true → r ≡ least_of (values_from (v +ℤ pos 1) vs) → IsNext vs v r
next_is vs v r a h e = by (values_from (v +ℤ pos 1) vs) refl r e
  where
    by : (us : Values) → values_from (v +ℤ pos 1) vs ≡ us → (r : Option ℤ) → r ≡ least_of us → IsNext vs v r
    by [] f None e = rest_at vs v a h ∙ ap (λ us. v ∷ us) f
    by [] f (Some w) e = cc
    by (u ∷ us) f None e = cc
    by (u ∷ us) f (Some w) e =
        let up : is_ascending (u ∷ us) ≡ true = subst (λ l. is_ascending l ≡ true) f (ascending_kept (int_le (v +ℤ pos 1)) vs a) in
        let got : w ≡ least_from u us = cc in
        let same : w ≡ u = got ∙ least_is u us (above_first u us up) in
        subst (λ z. IsAfter vs v z) (sym same)
        (record {
          left = first_among (int_le (v +ℤ pos 1)) vs u us f;
          above = above_it v u (passes (int_le (v +ℤ pos 1)) vs u us f);
          rest = rest_at vs v a h ∙ ap (λ l. v ∷ l) (from_first (v +ℤ pos 1) u us vs a f);
        })

-- the greatest of ascending values is that of those after the first, if there are any
greatest_later : (w : ℤ) (vs : Values) (v : ℤ) → is_ascending (w ∷ vs) ≡ true → has_value vs v ≡ true → greatest_value (w ∷ vs) ≡ greatest_value vs
greatest_later w [] v a h = cc
greatest_later w (x ∷ vs) v a h = ap (λ b. greatest_from (cond b x w) vs) (first (int_lt w x) (is_ascending (x ∷ vs)) a)

last_from : (vs : Values) (v : ℤ) → is_ascending vs ≡ true → has_value vs v ≡ true → greatest_value (values_from v vs) ≡ greatest_value vs
last_from [] v a h = cc
last_from (w ∷ vs) v a h =
    where_is v w vs h
    (λ e. subst (λ u. greatest_value (values_from u (w ∷ vs)) ≡ greatest_value (w ∷ vs)) (sym e) (ap greatest_value (from_itself w vs a)))
    (λ k. ap greatest_value (from_later v w vs a k) ∙ (last_from vs v (ascending_rest w vs a) k ∙ sym (greatest_later w vs v a k)))

alone_at : (vs : Values) (v : ℤ) → is_ascending vs ≡ true → has_value vs v ≡ true → is_single (values_from v vs) ≡ int_eq v (greatest_value vs)
alone_at [] v a h = cc
alone_at (w ∷ vs) v a h =
    where_is v w vs h
    (λ e. subst (λ u. is_single (values_from u (w ∷ vs)) ≡ int_eq u (greatest_value (w ∷ vs))) (sym e) (ap is_single (from_itself w vs a) ∙ at_first w vs a))
    (λ k. ap is_single (from_later v w vs a k) ∙ (alone_at vs v (ascending_rest w vs a) k ∙ ap (int_eq v) (sym (greatest_later w vs v a k))))
  where
    at_first : (w : ℤ) (vs : Values) → is_ascending (w ∷ vs) ≡ true → is_single (w ∷ vs) ≡ int_eq w (greatest_value (w ∷ vs))
    at_first w [] a = sym (self_eq w)
    at_first w (x ∷ vs) a =
        let most = greatest_value (x ∷ vs) in
        sym (ap (int_eq w) (greatest_later w (x ∷ vs) x a (has_first x vs)) ∙ lt_not_eq w most (value_passes (int_lt w) (x ∷ vs) most (above_first w (x ∷ vs) a) (has_greatest (x ∷ vs) refl)))

pub last_is : (vs : Values) (u : ℤ) → is_ascending vs ≡ true → is_none_left vs ≡ false → u ≡ greatest_value vs → IsLast vs u
last_is vs u a n e =
    subst (λ z. IsLast vs z) (sym e)
    (record {
      left = has_greatest vs n;
      last = λ v h. last_from vs v a h;
      alone = λ v h. alone_at vs v a h;
    })

-- the value before one of them
not_low : (v : ℤ) → int_le v (v -ℤ pos 1) ≡ false
not_low v = grind (arith, ints)

above_low : (v w : ℤ) → int_lt v w ≡ true → int_le w (v -ℤ pos 1) ≡ false
above_low v w h = grind (arith, ints)

below_low : (v w : ℤ) → int_lt w v ≡ true → int_le w (v -ℤ pos 1) ≡ true
below_low v w h = grind (arith, ints)

none_below : (v : ℤ) (vs : Values) → is_ascending (v ∷ vs) ≡ true → values_up_to (v -ℤ pos 1) (v ∷ vs) ≡ []
none_below v vs a =
    ap (λ b. cond b (v ∷ values_up_to (v -ℤ pos 1) vs) (values_up_to (v -ℤ pos 1) vs)) (not_low v)
    ∙ filter_none (λ u. int_le u (v -ℤ pos 1)) vs (all_weaker (int_lt v) (λ u. not (int_le u (v -ℤ pos 1))) (λ u h. not_from_false (int_le u (v -ℤ pos 1)) (above_low v u h)) vs (above_first v vs a))

kept_up : (high w : ℤ) (vs : Values) → is_ascending (w ∷ vs) ≡ true → is_ascending (w ∷ values_up_to high vs) ≡ true
kept_up high w vs a = by (values_up_to high vs) (all_kept (int_lt w) (λ v. int_le v high) vs (above_first w vs a)) (ascending_kept (λ v. int_le v high) vs (ascending_rest w vs a))
  where
    by : (us : Values) → list_all (int_lt w) us ≡ true → is_ascending us ≡ true → is_ascending (w ∷ us) ≡ true
    by [] h k = refl
    by (u ∷ us) h k = and_from (int_lt w u) (is_ascending (u ∷ us)) (first (int_lt w u) (list_all (int_lt w) us) h) k

before_later : (v w u : ℤ) (vs : Values) → is_ascending (w ∷ vs) ≡ true → IsBefore vs v u → IsBefore (w ∷ vs) v u
before_later v w u vs a h = record {
  left = later (int_eq u w) (has_value vs u) h.left;
  after = record {
    left = later (int_eq v w) (has_value vs v) h.after.left;
    above = h.after.above;
    rest = from_later u w vs a h.left ∙ (h.after.rest ∙ ap (λ us. u ∷ us) (sym (from_later v w vs a h.after.left)));
  };
}
  where
    later : (b c : Bool) → c ≡ true → (b || c) ≡ true
    later true c e = refl
    later false c e = e

before_first : (v w : ℤ) (vs : Values) → is_ascending (w ∷ vs) ≡ true → has_value vs v ≡ true → IsFirst vs v → IsBefore (w ∷ vs) v w
before_first v w vs a k h = record {
  left = has_first w vs;
  after = record {
    left = later (int_eq v w) (has_value vs v) k;
    above = value_passes (int_lt w) vs v (above_first w vs a) k;
    rest = from_itself w vs a ∙ ap (λ us. w ∷ us) (sym (from_later v w vs a k ∙ h.all));
  };
}
  where
    later : (b c : Bool) → c ≡ true → (b || c) ≡ true
    later true c e = refl
    later false c e = e

pub previous_is : (vs : Values) (v : ℤ) (r : Option ℤ) → is_ascending vs ≡ true → has_value vs v ≡ true → r ≡ greatest_of (values_up_to (v -ℤ pos 1) vs) → IsPrevious vs v r
previous_is [] v r a h e = cc
previous_is (w ∷ vs) v r a h e = where_is v w vs h here (λ k. later k (λ s f. previous_is vs v s (ascending_rest w vs a) k f))
  where
    at_first : (u : ℤ) → u ≡ w → r ≡ greatest_of (values_up_to (u -ℤ pos 1) (w ∷ vs)) → IsPrevious (w ∷ vs) u r
    at_first u p f =
        let none : r ≡ None = f ∙ (ap (λ z. greatest_of (values_up_to (z -ℤ pos 1) (w ∷ vs))) p ∙ ap greatest_of (none_below w vs a)) in
        subst (λ s. IsPrevious (w ∷ vs) u s) (sym none) (subst (λ z. IsFirst (w ∷ vs) z) (sym p) (record { left = has_first w vs; all = from_itself w vs a }))

    here : v ≡ w → IsPrevious (w ∷ vs) v r
    here p = at_first v p e

    by : (us : Values) → values_up_to (v -ℤ pos 1) vs ≡ us → has_value vs v ≡ true → ((s : Option ℤ) → s ≡ greatest_of (values_up_to (v -ℤ pos 1) vs) → IsPrevious vs v s) → r ≡ greatest_of (w ∷ us) → IsPrevious (w ∷ vs) v r
    by [] f k ih q = subst (λ s. IsPrevious (w ∷ vs) v s) (sym q) (before_first v w vs a k (ih None (sym (ap greatest_of f))))
    by (u ∷ us) f k ih q =
        let top = greatest_value (u ∷ us) in
        let up : is_ascending (w ∷ u ∷ us) ≡ true = subst (λ l. is_ascending (w ∷ l) ≡ true) f (kept_up (v -ℤ pos 1) w vs a) in
        let same : r ≡ Some top = q ∙ ap Some (greatest_later w (u ∷ us) u up (has_first u us)) in
        subst (λ s. IsPrevious (w ∷ vs) v s) (sym same) (before_later v w top vs a (ih (Some top) (sym (ap greatest_of f))))

    later : has_value vs v ≡ true → ((s : Option ℤ) → s ≡ greatest_of (values_up_to (v -ℤ pos 1) vs) → IsPrevious vs v s) → IsPrevious (w ∷ vs) v r
    later k ih =
        by (values_up_to (v -ℤ pos 1) vs) refl k ih
        (e ∙ ap (λ b. greatest_of (cond b (w ∷ values_up_to (v -ℤ pos 1) vs) (values_up_to (v -ℤ pos 1) vs))) (below_low v w (value_passes (int_lt w) vs v (above_first w vs a) k)))
