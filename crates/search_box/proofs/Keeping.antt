-- Values that stay.
pub use Rattle.box_laws.proofs.Numbers.{passed_number}
use Rattle.std.proofs.Common.{◌≡◌, ℕ, ◌<◌, Bool, true, false, not, ◌&&◌, ◌||◌, [], ◌∷◌, length, set, refl, ap, ◌∙◌, subst, arith, ℤ}
use Rattle.std.specs.Prelude.{pos, negsuc, ◌+ℤ◌, ◌-ℤ◌}
use Rattle.std.specs.List.{list_all}
use Rattle.std.specs.Ordering.{int_eq}
use Rattle.std.proofs.lemmas.Int.{ints}
use Rattle.std.proofs.lemmas.List.{get_or-set_same}
use Rattle.std.proofs.lemmas.Bool.{and_from, or_right}
use Rattle.qc_model.specs.Domains.{Values, Box, values_left, values_outside, is_within, has_value, is_ascending, is_sub_box, has_empty, box_without}
use Rattle.qc_model.specs.Valid.{is_number}
use Rattle.qc_model.proofs.Readable.{first, second}
use Rattle.model_arguments.proofs.Boxes.{sub_within, set_full, sub_ascending}
use Rattle.model_arguments.proofs.Kept.{keeps}
use Rattle.model_arguments.proofs.Values.{value_passes, has_first}
use Rattle.prop_base.proofs.Keeps.{within_one}
use Rattle.proof_tree.specs.Cover.{box_to}
use Rattle.box_laws.proofs.Sides.{both_sides, set_twice}

-- once the values below one of them and those above it are gone, it is left alone
pub one_kept : (box one two : Box) (x : ℕ) (v : ℤ) → x < length box → list_all is_number (values_left box x) ≡ true → is_ascending (values_left box x) ≡ true → has_value (values_left box x) v ≡ true →
    one ≡ box_without box x (negsuc 999999999) (v -ℤ pos 1) → two ≡ box_without one x (v +ℤ pos 1) (pos 1000000000) → two ≡ box_to box x (v ∷ [])
one_kept box one two x v h n a l e f =
    let us = values_outside (negsuc 999999999) (v -ℤ pos 1) (values_left box x) in
    f
    ∙ (ap (λ bx. box_without bx x (v +ℤ pos 1) (pos 1000000000)) e
    ∙ (ap (λ ws. set (set box x us) x (values_outside (v +ℤ pos 1) (pos 1000000000) ws)) (get_or-set_same box x us [] h)
    ∙ (set_twice box x us (values_outside (v +ℤ pos 1) (pos 1000000000) us) ∙ (ap (set box x) (both_sides v v (values_left box x) n) ∙ within_one box x v a l))))

-- one of the values is left once those below it are gone
above_itself : (v : ℤ) → not (is_within (negsuc 999999999) (v -ℤ pos 1) v) ≡ true
above_itself v = grind (arith, ints)

pub left_above : (box one : Box) (x : ℕ) (v : ℤ) → x < length box → one ≡ box_without box x (negsuc 999999999) (v -ℤ pos 1) → has_value (values_left box x) v ≡ true → has_value (values_left one x) v ≡ true
left_above box one x v h e l =
    let us = values_outside (negsuc 999999999) (v -ℤ pos 1) (values_left box x) in
    ap (λ b. has_value (values_left b x) v) e
    ∙ (ap (λ ws. has_value ws v) (get_or-set_same box x us [] h) ∙ keeps (λ w. not (is_within (negsuc 999999999) (v -ℤ pos 1) w)) (values_left box x) v (above_itself v) l)

all_of : (p : ℤ → Bool) (vs : Values) → ((v : ℤ) → has_value vs v ≡ true → p v ≡ true) → list_all p vs ≡ true
all_of p [] f = refl
all_of p (v ∷ vs) f = and_from (p v) (list_all p vs) (f v (has_first v vs)) (all_of p vs (λ w h. f w (or_right (int_eq w v) (has_value vs w) h)))

pub sub_self : (box large : Box) → is_sub_box box large ≡ true → is_sub_box box box ≡ true
sub_self [] large h = refl
sub_self (d ∷ ds) [] h = cc
sub_self (d ∷ ds) (e ∷ es) h =
    let p = is_ascending d && list_all (has_value e) d in
    and_from (is_ascending d && list_all (has_value d) d) (is_sub_box ds ds)
    (and_from (is_ascending d) (list_all (has_value d) d) (first (is_ascending d) (list_all (has_value e) d) (first p (is_sub_box ds es) h)) (all_of (has_value d) d (λ v q. q)))
    (sub_self ds es (second p (is_sub_box ds es) h))

-- within a box that lies within a third
pub sub_through : (small box large : Box) → is_sub_box small box ≡ true → is_sub_box box large ≡ true → is_sub_box small large ≡ true
sub_through [] [] [] h k = refl
sub_through [] [] (f ∷ fs) h k = cc
sub_through [] (e ∷ es) large h k = cc
sub_through (d ∷ ds) [] large h k = cc
sub_through (d ∷ ds) (e ∷ es) [] h k = cc
sub_through (d ∷ ds) (e ∷ es) (f ∷ fs) h k =
    let p = is_ascending d && list_all (has_value e) d in
    let q = is_ascending e && list_all (has_value f) e in
    let inner = second (is_ascending d) (list_all (has_value e) d) (first p (is_sub_box ds es) h) in
    let outer = second (is_ascending e) (list_all (has_value f) e) (first q (is_sub_box es fs) k) in
    and_from (is_ascending d && list_all (has_value f) d) (is_sub_box ds fs)
    (and_from (is_ascending d) (list_all (has_value f) d) (first (is_ascending d) (list_all (has_value e) d) (first p (is_sub_box ds es) h))
    (all_of (has_value f) d (λ v l. value_passes (has_value f) e v outer (value_passes (has_value e) d v inner l))))
    (sub_through ds es fs (second p (is_sub_box ds es) h) (second q (is_sub_box es fs) k))

-- x keeps one of its values
pub sub_one : (box large : Box) (x : ℕ) (v : ℤ) → is_sub_box box large ≡ true → has_value (values_left box x) v ≡ true → is_sub_box (box_to box x (v ∷ [])) large ≡ true
sub_one box large x v s h = subst (λ b. is_sub_box b large ≡ true) (within_one box x v (sub_ascending box large x s) h) (sub_within box large x v v s)

pub one_full : (box : Box) (x : ℕ) (v : ℤ) → has_empty box ≡ false → has_empty (box_to box x (v ∷ [])) ≡ false
one_full box x v h = set_full box x (v ∷ []) h refl
