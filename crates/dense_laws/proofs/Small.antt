-- Small facts on lists, boxes and truth values.
use Rattle.std.proofs.Common.{◌≡◌, ◌⊎◌, inl, inr, ℕ, zero, suc, ◌<◌, ◌≤◌, ◌==◌, Bool, true, false, not, ◌&&◌, ◌||◌, List, [], ◌∷◌, ◌++◌, length, take, drop, set, filter, refl, sym, ap, ◌∙◌, subst, arith, ℤ}
use Rattle.std.specs.Prelude.{nat_le, nat_lt, int_lt}
use Rattle.std.proofs.lemmas.Int.{ints}
use Rattle.std.specs.List.{list_any, list_all}
use Rattle.std.proofs.lemmas.Bool.Decides.{nat_tests}
use Rattle.std.proofs.lemmas.Bool.{and_parts, and_from, or_parts}
use Rattle.qc_model.specs.Domains.{InBox, Box, Values, values_left, is_none_left, has_empty, has_value, is_single, is_sub_box, is_ascending}
use Rattle.qc_model.specs.Lists.{Among}
use Rattle.qc_model.proofs.Moves.{of_filter}
use Rattle.dense_closing.proofs.Within.{sub_values}
use Rattle.dense_meaning.proofs.Bits.{has_to}
use Rattle.model_laws.proofs.Listed.{all_to}
use Rattle.proof_meaning.proofs.Narrowed.{within_in}
use Rattle.dense_laws.specs.Stands.{at_most_one}

pub le_from : (x y : ℕ) → nat_le x y ≡ true → x ≤ y
le_from x y e = grind (arith, nat_tests)

pub lt_from : (x y : ℕ) → nat_lt x y ≡ true → x < y
lt_from x y e = grind (arith, nat_tests)

pub same_number : (m n : ℕ) → (m == n) ≡ true → m ≡ n
same_number m n e = grind (arith, nat_tests)

pub not_true : (a : Bool) → not a ≡ true → a ≡ false
not_true true e = cc
not_true false e = refl

pub clash : {P : Type 0} → (a : Bool) → a ≡ true → a ≡ false → P
clash true e f = cc
clash false e f = cc

-- what is left to later variables
pub drop_set : (n x : ℕ) (d : Values) (ds : Box) → x < n → drop n (set ds x d) ≡ drop n ds
drop_set zero x d ds l = absurd (omega arith)
drop_set (suc n) x d [] l = refl
drop_set (suc n) zero d (e ∷ ds) l = refl
drop_set (suc n) (suc x) d (e ∷ ds) l = drop_set n x d ds (omega arith)

pub full_drop : (n : ℕ) (ds : Box) → has_empty ds ≡ false → has_empty (drop n ds) ≡ false
full_drop zero ds e = e
full_drop (suc n) [] e = e
full_drop (suc n) (d ∷ ds) e = full_drop n ds (or_parts (is_none_left d) (has_empty ds) e).1

-- values of a box lie in each wider one
pub sub_in_box : (w : List ℤ) (ds es : Box) → is_sub_box ds es ≡ true → InBox w ds → InBox w es
sub_in_box w ds es e h =
    within_in w ds es (λ k v m. has_to (values_left es k) v (all_to (has_value (values_left es k)) (values_left ds k) (sub_values ds es k e) v m)) h

-- a filter and its opposite share no value
pub apart_by : (p : ℤ → Bool) (ds : Values) (z : ℤ) → Among z (filter p ds) → ¬ Among z (filter (λ v. not (p v)) ds)
apart_by p ds z m k = clash (p z) (of_filter p z ds m).1 (not_true (p z) (of_filter (λ v. not (p v)) z ds k).1)

-- variables that have no several values left
one_value : (d : Values) (v : ℤ) → at_most_one d ≡ true → Among v d → (u : ℤ) → Among u d → u ≡ v
one_value [] v s m u k = absurd m
one_value (x ∷ []) v s m u k = elim m [ inl e ↦ elim k [ inl f ↦ f ∙ sym e | inr n ↦ absurd n ] | inr n ↦ absurd n ]
one_value (x ∷ y ∷ d) v s m u k = cc

some_of : (d : Values) → is_none_left d ≡ false → (v : ℤ) × Among v d
some_of [] e = cc
some_of (v ∷ d) e = (v, inl refl)

one_is : (d : Values) → at_most_one d ≡ true → is_none_left d ≡ false → is_single d ≡ true
one_is [] s e = cc
one_is (v ∷ []) s e = refl
one_is (v ∷ w ∷ d) s e = cc

single_one : (d : Values) → is_single d ≡ true → at_most_one d ≡ true
single_one [] s = refl
single_one (v ∷ []) s = refl
single_one (v ∷ w ∷ d) s = cc

-- ascending values of one domain
fewer_one : (c d : Values) → is_ascending c ≡ true → list_all (has_value d) c ≡ true → at_most_one d ≡ true → at_most_one c ≡ true
fewer_one [] d a h s = refl
fewer_one (v ∷ []) d a h s = refl
fewer_one (v ∷ w ∷ c) d a h s =
    let p = and_parts (has_value d v) (list_all (has_value d) (w ∷ c)) h in
    let q = and_parts (has_value d w) (list_all (has_value d) c) p.1 in
    let e : v ≡ w = one_value d w s (has_to d w q.0) v (has_to d v p.0) in
    let l : int_lt v w ≡ true = (and_parts (int_lt v w) (is_ascending (w ∷ c)) a).0 in
    absurd (grind (arith, ints))

sub_head : (c d : Values) (small box : Box) → is_sub_box (c ∷ small) (d ∷ box) ≡ true → (is_ascending c ≡ true) × (list_all (has_value d) c ≡ true) × (is_sub_box small box ≡ true)
sub_head c d small box s =
    let p = and_parts (is_ascending c && list_all (has_value d) c) (is_sub_box small box) s in
    let q = and_parts (is_ascending c) (list_all (has_value d) c) p.0 in
    (q.0, q.1, p.1)

pub ones_fewer : (n : ℕ) (small box : Box) → is_sub_box small box ≡ true → list_all at_most_one (take n box) ≡ true → list_all at_most_one (take n small) ≡ true
ones_fewer zero small box s h = refl
ones_fewer (suc n) [] box s h = refl
ones_fewer (suc n) (c ∷ small) [] s h = cc
ones_fewer (suc n) (c ∷ small) (d ∷ box) s h =
    let p = sub_head c d small box s in
    let q = and_parts (at_most_one d) (list_all at_most_one (take n box)) h in
    and_from (at_most_one c) (list_all at_most_one (take n small)) (fewer_one c d p.0 p.1 q.0) (ones_fewer n small box p.2 q.1)

-- a position whose variables have no other values stays in each smaller box that isn't empty
pub ones_keep : (n : ℕ) (a : List ℤ) (small box : Box) → is_sub_box small box ≡ true → has_empty small ≡ false → list_all at_most_one (take n box) ≡ true → length a ≤ n → InBox a box → InBox a small
ones_keep n [] small box s e h l j = tt
ones_keep zero (v ∷ a) small box s e h l j = absurd (omega arith)
ones_keep (suc n) (v ∷ a) small [] s e h l j = absurd j
ones_keep (suc n) (v ∷ a) [] (d ∷ box) s e h l j = cc
ones_keep (suc n) (v ∷ a) (c ∷ small) (d ∷ box) s e h l j =
    let p = or_parts (is_none_left c) (has_empty small) e in
    let q = and_parts (at_most_one d) (list_all at_most_one (take n box)) h in
    let r = sub_head c d small box s in
    let u = some_of c p.0 in
    let m : Among u.0 d = has_to d u.0 (all_to (has_value d) c r.1 u.0 u.1) in
    let same : v ≡ u.0 = one_value d u.0 q.0 m v j.0 in
    (subst (λ z. Among z c) (sym same) u.1, ones_keep n a small box r.2 p.1 q.1 (omega arith) j.1)

pub ones_alone : (n : ℕ) (a b : List ℤ) (box : Box) → list_all at_most_one (take n box) ≡ true → length a ≡ n → length b ≡ n → InBox a box → InBox b box → a ≡ b
ones_alone zero [] [] box h p q j k = refl
ones_alone zero (v ∷ a) b box h p q j k = cc
ones_alone zero [] (u ∷ b) box h p q j k = cc
ones_alone (suc n) [] b box h p q j k = cc
ones_alone (suc n) (v ∷ a) [] box h p q j k = cc
ones_alone (suc n) (v ∷ a) (u ∷ b) [] h p q j k = absurd j
ones_alone (suc n) (v ∷ a) (u ∷ b) (d ∷ box) h p q j k =
    let r = and_parts (at_most_one d) (list_all at_most_one (take n box)) h in
    let e : v ≡ u = one_value d u r.0 k.0 v j.0 in
    ap (λ z. z ∷ a) e ∙ ap (λ zs. u ∷ zs) (ones_alone n a b box r.1 (omega arith) (omega arith) j.1 k.1)

-- in a box that isn't empty they are single
pub ones_single : (n : ℕ) (box : Box) → has_empty box ≡ false → list_all at_most_one (take n box) ≡ true → list_all is_single (take n box) ≡ true
ones_single zero box e h = refl
ones_single (suc n) [] e h = refl
ones_single (suc n) (d ∷ box) e h =
    let p = or_parts (is_none_left d) (has_empty box) e in
    let q = and_parts (at_most_one d) (list_all at_most_one (take n box)) h in
    and_from (is_single d) (list_all is_single (take n box)) (one_is d q.0 p.0) (ones_single n box p.1 q.1)

pub singles_ones : (ds : Box) → list_all is_single ds ≡ true → list_all at_most_one ds ≡ true
singles_ones [] h = refl
singles_ones (d ∷ ds) h = let p = and_parts (is_single d) (list_all is_single ds) h in and_from (at_most_one d) (list_all at_most_one ds) (single_one d p.0) (singles_ones ds p.1)

pub all_join : {X : Type 0} (p : X → Bool) (xs ys : List X) → list_all p xs ≡ true → list_all p ys ≡ true → list_all p (xs ++ ys) ≡ true
all_join p [] ys h k = k
all_join p (x ∷ xs) ys h k = let q = and_parts (p x) (list_all p xs) h in and_from (p x) (list_all p (xs ++ ys)) q.0 (all_join p xs ys q.1 k)

-- one of several values set
pub ones_set : (n x : ℕ) (d : Values) (box : Box) → at_most_one d ≡ true → list_all at_most_one (take n box) ≡ true → list_all at_most_one (take n (set box x d)) ≡ true
ones_set zero x d box s h = refl
ones_set (suc n) x d [] s h = refl
ones_set (suc n) zero d (e ∷ box) s h = let p = and_parts (at_most_one e) (list_all at_most_one (take n box)) h in and_from (at_most_one d) (list_all at_most_one (take n box)) s p.1
ones_set (suc n) (suc x) d (e ∷ box) s h =
    let p = and_parts (at_most_one e) (list_all at_most_one (take n box)) h in and_from (at_most_one e) (list_all at_most_one (take n (set box x d))) p.0 (ones_set n x d box s p.1)

-- parts of tests on lists
pub any_left : {X : Type 0} (p : X → Bool) (xs ys : List X) → list_any p (xs ++ ys) ≡ (list_any p xs || list_any p ys)
any_left p [] ys = refl
any_left p (x ∷ xs) ys = ap (λ b. p x || b) (any_left p xs ys) ∙ assoc (p x) (list_any p xs) (list_any p ys)
  where
    assoc : (a b c : Bool) → (a || (b || c)) ≡ ((a || b) || c)
    assoc true b c = refl
    assoc false b c = refl
