-- Ascending values, cut where a case begins and ends.
use Rattle.std.proofs.Common.{◌≡◌, ◌≢◌, ℕ, suc, ◌<◌, ◌≤◌, Bool, true, false, not, ◌&&◌, ◌||◌, cond, [], ◌∷◌, length, take, drop, refl, sym, ap, ◌∙◌, subst, arith, ℤ, Option, Some, None, IfNone, IfSome}
use Rattle.std.specs.Prelude.{filter, int_le, int_lt, nat_lt, pos, ◌+ℤ◌}
use Rattle.std.specs.List.{list_all}
use Rattle.std.specs.Ordering.{int_eq}
use Rattle.std.proofs.lemmas.Int.{ints}
use Rattle.std.proofs.lemmas.Bool.Decides.{nat_tests}
use Rattle.std.proofs.lemmas.List.{get_or-set_same}
use Rattle.qc_model.specs.Domains.{Values, Box, values_left, values_within, is_within, is_none_left, has_value, least_from, is_ascending, box_within}
use Rattle.qc_model.specs.Valid.{is_number}
use Rattle.qc_model.proofs.Readable.{first, second}
use Rattle.model_arguments.proofs.Values.{above_first, ascending_rest, ascending_kept, value_passes}
use Rattle.proof_tree.specs.Cover.{cover, is_cover}
use Rattle.fd_store.specs.Held.{values_from, least_of}
use Rattle.box_laws.proofs.Filters.{filter_two, filter_same, filter_none, filter_all, all_weaker}
use Rattle.box_laws.proofs.Firsts.{self_le, lt_le, least_is, first_among, from_first}
use Rattle.check_box.specs.Cases.{IsCase, has_above}

above_not : (h v : ℤ) → int_lt h v ≡ true → not (int_le v h) ≡ true
above_not h v e = grind (arith, ints)

low_above : (h v u : ℤ) → int_le v h ≡ false → int_lt v u ≡ true → int_lt h u ≡ true
low_above h v u e f = grind (arith, ints)

no_lt : (h v : ℤ) → int_le v h ≡ true → int_lt h v ≡ false
no_lt h v e = grind (arith, ints)

yes_lt : (h v : ℤ) → int_le v h ≡ false → int_lt h v ≡ true
yes_lt h v e = grind (arith, ints)

-- ascending values up to h come first
pub cut_take : (h : ℤ) (vs : Values) → is_ascending vs ≡ true → take (length (filter (λ v. int_le v h) vs)) vs ≡ filter (λ v. int_le v h) vs
cut_take h [] a = refl
cut_take h (v ∷ vs) a = by (int_le v h) refl (cut_take h vs (ascending_rest v vs a))
  where
    by : (b : Bool) → int_le v h ≡ b → take (length (filter (λ v. int_le v h) vs)) vs ≡ filter (λ v. int_le v h) vs → take (length (cond b (v ∷ filter (λ v. int_le v h) vs) (filter (λ v. int_le v h) vs))) (v ∷ vs) ≡ cond b (v ∷ filter (λ v. int_le v h) vs) (filter (λ v. int_le v h) vs)
    by true e f = ap (λ us. v ∷ us) f
    by false e f =
        let none : filter (λ u. int_le u h) vs ≡ [] = filter_none (λ u. int_le u h) vs (all_weaker (int_lt v) (λ u. not (int_le u h)) (λ u k. above_not h u (low_above h v u e k)) vs (above_first v vs a)) in
        ap (λ us. take (length us) (v ∷ vs)) none ∙ sym none

pub cut_drop : (h : ℤ) (vs : Values) → is_ascending vs ≡ true → drop (length (filter (λ v. int_le v h) vs)) vs ≡ filter (int_lt h) vs
cut_drop h [] a = refl
cut_drop h (v ∷ vs) a = by (int_le v h) refl (cut_drop h vs (ascending_rest v vs a))
  where
    by : (b : Bool) → int_le v h ≡ b → drop (length (filter (λ v. int_le v h) vs)) vs ≡ filter (int_lt h) vs → drop (length (cond b (v ∷ filter (λ v. int_le v h) vs) (filter (λ v. int_le v h) vs))) (v ∷ vs) ≡ filter (int_lt h) (v ∷ vs)
    by true e f = f ∙ ap (λ b. cond b (v ∷ filter (int_lt h) vs) (filter (int_lt h) vs)) (sym (no_lt h v e))
    by false e f =
        let above : list_all (int_lt h) vs ≡ true = all_weaker (int_lt v) (int_lt h) (λ u k. low_above h v u e k) vs (above_first v vs a) in
        let none : filter (λ u. int_le u h) vs ≡ [] = filter_none (λ u. int_le u h) vs (all_weaker (int_lt h) (λ u. not (int_le u h)) (λ u k. above_not h u k) vs above) in
        ap (λ us. drop (length us) (v ∷ vs)) none
        ∙ sym (ap (λ b. cond b (v ∷ filter (int_lt h) vs) (filter (int_lt h) vs)) (yes_lt h v e) ∙ ap (λ us. v ∷ us) (filter_all (int_lt h) vs above))

-- what is cut off where the first is v and the last h
module _ (vs : Values) (from v h : ℤ) (rest : Values) (a : is_ascending vs ≡ true) (e : values_from from vs ≡ v ∷ rest) (l : int_le v h ≡ true) where
  part : Values
  part = values_from from vs

  part_ascends : is_ascending (values_from from vs) ≡ true
  part_ascends = ascending_kept (int_le from) vs a

  pub cut_covers : take (length (filter (λ u. int_le u h) (values_from from vs))) (values_from from vs) ≡ values_within v h vs
  cut_covers =
      cut_take h (values_from from vs) part_ascends
      ∙ (ap (filter (λ u. int_le u h)) (from_first from v rest vs a e) ∙ filter_two (int_le v) (λ u. int_le u h) vs)

  pub cut_leaves : drop (length (filter (λ u. int_le u h) (values_from from vs))) (values_from from vs) ≡ values_from (h +ℤ pos 1) vs
  cut_leaves =
      cut_drop h (values_from from vs) part_ascends
      ∙ (ap (filter (int_lt h)) (from_first from v rest vs a e) ∙ (filter_two (int_le v) (int_lt h) vs ∙ filter_same (λ u. int_le v u && int_lt h u) (int_le (h +ℤ pos 1)) next vs))
    where
      next : (u : ℤ) → (int_le v u && int_lt h u) ≡ int_le (h +ℤ pos 1) u
      next u = grind (arith, ints)

-- a case with one value
one_cover : (v : ℤ) (rest : Values) → is_ascending (v ∷ rest) ≡ true → cover None (v ∷ rest) ≡ length (filter (λ u. int_le u v) (v ∷ rest))
one_cover v rest a =
    let none : filter (λ u. int_le u v) rest ≡ [] = filter_none (λ u. int_le u v) rest (all_weaker (int_lt v) (λ u. not (int_le u v)) (λ u k. above_not v u k) rest (above_first v rest a)) in
    sym (ap (λ b. length (cond b (v ∷ filter (λ u. int_le u v) rest) (filter (λ u. int_le u v) rest))) (self v) ∙ ap (λ us. suc (length us)) none)
  where
    self : (v : ℤ) → int_le v v ≡ true
    self v = grind (arith, ints)

head_is : (us : Values) (v : ℤ) → is_ascending us ≡ true → Some v ≡ least_of us → (rest : Values) × (us ≡ v ∷ rest)
head_is [] v a e = cc
head_is (w ∷ us) v a e = let h : v ≡ least_from w us = cc in (us, ap (λ z. z ∷ us) (sym (h ∙ least_is w us (above_first w us a))))

-- a case of one value
pub one_case : (vs : Values) (from v : ℤ) → is_ascending vs ≡ true → list_all is_number vs ≡ true → Some v ≡ least_of (values_from from vs) → IsCase vs from None v v
one_case vs from v a n e =
    let r = head_is (values_from from vs) v (ascending_kept (int_le from) vs a) e in
    let count : 1 ≡ length (filter (λ u. int_le u v) (values_from from vs)) = one_cover v r.0 (subst (λ us. is_ascending us ≡ true) r.1 (ascending_kept (int_le from) vs a)) ∙ ap (λ us. length (filter (λ u. int_le u v) us)) (sym r.1) in
    let number : is_number v ≡ true = value_passes is_number vs v n (first_among (int_le from) vs v r.0 r.1) in
    record {
      is = ap (λ us. not (is_none_left us)) r.1;
      covers = ap (λ k. take k (values_from from vs)) count ∙ cut_covers vs from v v r.0 a r.1 (self_le v);
      leaves = ap (λ k. drop k (values_from from vs)) count ∙ cut_leaves vs from v v r.0 a r.1 (self_le v);
      begins = e;
      first_number = number;
      last_number = number;
    }

pub no_case : (vs : Values) (from : ℤ) (upto : Option ℤ) → None ≡ least_of (values_from from vs) → is_cover upto (values_from from vs) ≡ false
no_case vs from upto e = by (values_from from vs) upto e
  where
    by : (us : Values) (upto : Option ℤ) → None ≡ least_of us → is_cover upto us ≡ false
    by [] None e = refl
    by [] (Some h) e = refl
    by (u ∷ us) upto e = cc

-- whether the upper value is among the values from the first on
has_from : (h from v : ℤ) (rest vs : Values) → is_ascending vs ≡ true → values_from from vs ≡ v ∷ rest → int_le v h ≡ true → has_value (values_from from vs) h ≡ has_value vs h
has_from h from v rest vs a e l = ap (λ us. has_value us h) (from_first from v rest vs a e) ∙ kept vs
  where
    drops : (u : ℤ) → int_le v u ≡ false → int_eq h u ≡ false
    drops u f = grind (arith, ints)

    kept : (vs : Values) → has_value (filter (int_le v) vs) h ≡ has_value vs h
    kept [] = refl
    kept (u ∷ vs) = by (int_le v u) refl (kept vs)
      where
        by : (b : Bool) → int_le v u ≡ b → has_value (filter (int_le v) vs) h ≡ has_value vs h → has_value (cond b (u ∷ filter (int_le v) vs) (filter (int_le v) vs)) h ≡ (int_eq h u || has_value vs h)
        by true f q = ap (λ b. int_eq h u || b) q
        by false f q = q ∙ sym (ap (λ b. b || has_value vs h) (drops u f))

-- two values at least, where the last is above the first
two_values : (h v : ℤ) (rest : Values) → int_lt v h ≡ true → has_value (v ∷ rest) h ≡ true → nat_lt 1 (length (filter (λ u. int_le u h) (v ∷ rest))) ≡ true
two_values h v rest l e =
    ap (λ b. nat_lt 1 (length (cond b (v ∷ filter (λ u. int_le u h) rest) (filter (λ u. int_le u h) rest)))) (lt_le v h l) ∙ more (length (filter (λ u. int_le u h) rest)) (some rest (strip (int_eq h v) (other h v l) e))
  where
    other : (h v : ℤ) → int_lt v h ≡ true → int_eq h v ≡ false
    other h v l = grind (arith, ints)

    strip : (b : Bool) → b ≡ false → (b || has_value rest h) ≡ true → has_value rest h ≡ true
    strip true e f = cc
    strip false e f = f

    same_le : (h u : ℤ) → int_eq h u ≡ true → int_le u h ≡ true
    same_le h u e = grind (arith, ints)

    some : (us : Values) → has_value us h ≡ true → 0 < length (filter (λ u. int_le u h) us)
    some [] e = cc
    some (u ∷ us) e = by (int_eq h u) (int_le u h) refl refl e (some us)
      where
        by : (a b : Bool) → int_eq h u ≡ a → int_le u h ≡ b → (a || has_value us h) ≡ true → (has_value us h ≡ true → 0 < length (filter (λ u. int_le u h) us)) → 0 < length (cond b (u ∷ filter (λ u. int_le u h) us) (filter (λ u. int_le u h) us))
        by a true f g e q = omega arith
        by true false f g e q = let p : int_le u h ≡ true = same_le h u f in let q : true ≡ false = sym p ∙ g in cc
        by false false f g e q = q e

    more : (n : ℕ) → 0 < n → nat_lt 1 (suc n) ≡ true
    more n h = grind (arith, nat_tests)

-- one at most, where it isn't above the first
few_values : (h v : ℤ) (rest : Values) → is_ascending (v ∷ rest) ≡ true → int_lt v h ≡ false → nat_lt 1 (length (filter (λ u. int_le u h) (v ∷ rest))) ≡ false
few_values h v rest a l =
    let none : filter (λ u. int_le u h) rest ≡ [] = filter_none (λ u. int_le u h) rest (all_weaker (int_lt v) (λ u. not (int_le u h)) (λ u k. high u k) rest (above_first v rest a)) in
    ap (λ us. nat_lt 1 (length (cond (int_le v h) (v ∷ us) us))) none ∙ by (int_le v h)
  where
    high : (u : ℤ) → int_lt v u ≡ true → not (int_le u h) ≡ true
    high u k = grind (arith, ints)

    by : (b : Bool) → nat_lt 1 (length (cond b (v ∷ []) [])) ≡ false
    by true = refl
    by false = refl

and_false : (b : Bool) → (b && false) ≡ false
and_false true = refl
and_false false = refl

pub ranged_is : (vs : Values) (from v h : ℤ) → is_ascending vs ≡ true → Some v ≡ least_of (values_from from vs) → is_cover (Some h) (values_from from vs) ≡ has_above vs v h
ranged_is vs from v h a e =
    let r = head_is (values_from from vs) v (ascending_kept (int_le from) vs a) e in
    let up : is_ascending (v ∷ r.0) ≡ true = subst (λ us. is_ascending us ≡ true) r.1 (ascending_kept (int_le from) vs a) in
    by r.0 r.1 up (int_lt v h) refl (has_value vs h) refl
  where
    by : (rest : Values) → values_from from vs ≡ v ∷ rest → is_ascending (v ∷ rest) ≡ true → (b : Bool) → int_lt v h ≡ b → (c : Bool) → has_value vs h ≡ c → (has_value (values_from from vs) h && nat_lt 1 (length (filter (λ u. int_le u h) (values_from from vs)))) ≡ (b && c)
    by rest q up false f c g = ap (λ k. has_value (values_from from vs) h && k) (ap (λ us. nat_lt 1 (length (filter (λ u. int_le u h) us))) q ∙ few_values h v rest up f) ∙ and_false (has_value (values_from from vs) h)
    by rest q up true f false g = ap (λ k. k && nat_lt 1 (length (filter (λ u. int_le u h) (values_from from vs)))) (has_from h from v rest vs a q (lt_le v h f) ∙ g)
    by rest q up true f true g =
        let has = has_from h from v rest vs a q (lt_le v h f) ∙ g in
        ap (λ k. k && nat_lt 1 (length (filter (λ u. int_le u h) (values_from from vs)))) has
        ∙ (ap (λ us. nat_lt 1 (length (filter (λ u. int_le u h) us))) q ∙ two_values h v rest f (ap (λ us. has_value us h) (sym q) ∙ has))

-- a case with an upper value
pub ranged_case : (vs : Values) (from v h : ℤ) → is_ascending vs ≡ true → list_all is_number vs ≡ true → Some v ≡ least_of (values_from from vs) → has_above vs v h ≡ true → IsCase vs from (Some h) v h
ranged_case vs from v h a n e k =
    let r = head_is (values_from from vs) v (ascending_kept (int_le from) vs a) e in
    let l : int_le v h ≡ true = lt_le v h (first (int_lt v h) (has_value vs h) k) in
    record {
      is = ranged_is vs from v h a e ∙ k;
      covers = cut_covers vs from v h r.0 a r.1 l;
      leaves = cut_leaves vs from v h r.0 a r.1 l;
      begins = e;
      first_number = value_passes is_number vs v n (first_among (int_le from) vs v r.0 r.1);
      last_number = value_passes is_number vs h n (second (int_lt v h) (has_value vs h) k);
    }

filter_most : (p : ℤ → Bool) (vs : Values) → length (filter p vs) ≤ length vs
filter_most p [] = omega arith
filter_most p (v ∷ vs) = let h = filter_most p vs in by (p v) h
  where
    by : (b : Bool) → length (filter p vs) ≤ length vs → length (cond b (v ∷ filter p vs) (filter p vs)) ≤ suc (length vs)
    by true h = omega (arith, h)
    by false h = omega (arith, h)

-- not all values are kept where the number of values differs
pub fewer : (box new : Box) (x : ℕ) (a b : ℤ) → x < length box → new ≡ box_within box x a b → length (values_left new x) ≢ length (values_left box x) → nat_lt (length (values_within a b (values_left box x))) (length (values_left box x)) ≡ true
fewer box new x a b h e n =
    let is : length (values_left new x) ≡ length (values_within a b (values_left box x)) = ap (λ bx. length (values_left bx x)) e ∙ ap length (get_or-set_same box x (values_within a b (values_left box x)) [] h) in
    less (length (values_within a b (values_left box x))) (length (values_left box x)) (filter_most (is_within a b) (values_left box x)) (λ f. n (is ∙ f))
  where
    less : (m k : ℕ) → m ≤ k → (m ≡ k → ⊥) → nat_lt m k ≡ true
    less m k h n = grind (arith, nat_tests)

pub not_fewer : (box new : Box) (x : ℕ) (a b : ℤ) → x < length box → new ≡ box_within box x a b → length (values_left new x) ≡ length (values_left box x) → nat_lt (length (values_within a b (values_left box x))) (length (values_left box x)) ≡ false
not_fewer box new x a b h e n =
    let is : length (values_left new x) ≡ length (values_within a b (values_left box x)) = ap (λ bx. length (values_left bx x)) e ∙ ap length (get_or-set_same box x (values_within a b (values_left box x)) [] h) in
    same (length (values_within a b (values_left box x))) (length (values_left box x)) (sym is ∙ n)
  where
    same : (m k : ℕ) → m ≡ k → nat_lt m k ≡ false
    same m k e = grind (arith, nat_tests)

-- answers that a called function gives
pub none_to : {X P Q : Type 0} (r : Option X) → (P → Q) → IfNone r P → IfNone r Q
none_to None f p = f p
none_to (Some x) f p = tt

pub some_to : {X : Type 0} {P Q : X → Type 0} (r : Option X) → ((x : X) → P x → Q x) → IfSome r P → IfSome r Q
some_to None f p = tt
some_to (Some x) f p = f x p
