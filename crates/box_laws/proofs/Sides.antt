-- The values from one number to another are left, once those below and those above are gone.
use Rattle.std.proofs.Common.{◌≡◌, ℕ, zero, suc, ◌<◌, true, not, ◌&&◌, [], ◌∷◌, length, set, refl, ap, ◌∙◌, arith, ℤ}
use Rattle.std.specs.Prelude.{pos, negsuc, ◌+ℤ◌, ◌-ℤ◌}
use Rattle.std.specs.List.{list_all}
use Rattle.std.proofs.lemmas.Int.{ints}
use Rattle.std.proofs.lemmas.Bool.Decides.{nat_tests}
use Rattle.std.proofs.lemmas.List.{get_or-set_same}
use Rattle.qc_model.specs.Domains.{Values, Box, values_left, values_within, values_outside, is_within, box_within, box_without}
use Rattle.qc_model.specs.Valid.{is_number}
use Rattle.box_laws.proofs.Filters.{filter_two, filter_agree}

kept_between : (a b v : ℤ) → is_number v ≡ true → (not (is_within (negsuc 999999999) (a -ℤ pos 1) v) && not (is_within (b +ℤ pos 1) (pos 1000000000) v)) ≡ is_within a b v
kept_between a b v n = grind (arith, nat_tests, ints)

pub both_sides : (a b : ℤ) (vs : Values) → list_all is_number vs ≡ true → values_outside (b +ℤ pos 1) (pos 1000000000) (values_outside (negsuc 999999999) (a -ℤ pos 1) vs) ≡ values_within a b vs
both_sides a b vs n =
    filter_two (λ v. not (is_within (negsuc 999999999) (a -ℤ pos 1) v)) (λ v. not (is_within (b +ℤ pos 1) (pos 1000000000) v)) vs
    ∙ filter_agree is_number (λ v. not (is_within (negsuc 999999999) (a -ℤ pos 1) v) && not (is_within (b +ℤ pos 1) (pos 1000000000) v)) (is_within a b) (kept_between a b) vs n

pub set_twice : (box : Box) (x : ℕ) (us vs : Values) → set (set box x us) x vs ≡ set box x vs
set_twice [] x us vs = refl
set_twice (d ∷ box) zero us vs = refl
set_twice (d ∷ box) (suc x) us vs = ap (λ b. d ∷ b) (set_twice box x us vs)

pub kept_box : (box one two : Box) (x : ℕ) (a b : ℤ) → x < length box → list_all is_number (values_left box x) ≡ true →
    one ≡ box_without box x (negsuc 999999999) (a -ℤ pos 1) → two ≡ box_without one x (b +ℤ pos 1) (pos 1000000000) → two ≡ box_within box x a b
kept_box box one two x a b h n e f =
    let us = values_outside (negsuc 999999999) (a -ℤ pos 1) (values_left box x) in
    f ∙ (ap (λ bx. box_without bx x (b +ℤ pos 1) (pos 1000000000)) e
    ∙ (ap (λ ws. set (set box x us) x (values_outside (b +ℤ pos 1) (pos 1000000000) ws)) (get_or-set_same box x us [] h)
    ∙ (set_twice box x us (values_outside (b +ℤ pos 1) (pos 1000000000) us) ∙ ap (set box x) (both_sides a b (values_left box x) n))))
