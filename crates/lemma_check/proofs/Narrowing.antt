-- A box without some values is one whose variable keeps the others.
use Rattle.std.proofs.Common.{◌≡◌, refl, sym, ap, ◌∙◌, [], ◌∷◌, ℕ, set, Bool, true, false, not, ◌||◌, ℤ, arith}
use Rattle.std.specs.Prelude.{filter, int_le, int_lt, pos, negsuc, ◌+ℤ◌, ◌-ℤ◌}
use Rattle.std.specs.List.{list_all}
use Rattle.std.proofs.lemmas.Int.{ints}
use Rattle.std.proofs.lemmas.Bool.Decides.{nat_tests}
use Rattle.std.proofs.lemmas.List.{set-get_or}
use Rattle.qc_model.specs.Domains.{Box, Values, values_left, is_within, box_without}
use Rattle.qc_model.specs.Valid.{is_number}
use Rattle.box_laws.proofs.Filters.{filter_same, filter_agree}
use Rattle.lemma_check.specs.Gaps.{narrowed, kept_up_to, kept_from, without_gap}

abbrev AreNumbers : Box → ℕ → Type 0
AreNumbers box x = list_all is_number (values_left box x) ≡ true

whole : (vs : Values) → filter (λ v. true) vs ≡ vs
whole [] = refl
whole (v ∷ vs) = ap (λ us. v ∷ us) (whole vs)

narrowed_by : (box : Box) (x : ℕ) (lo hi : ℤ) (p : ℤ → Bool) → AreNumbers box x → ((v : ℤ) → is_number v ≡ true → not (is_within lo hi v) ≡ p v) → box_without box x lo hi ≡ narrowed box x p
narrowed_by box x lo hi p n f = ap (set box x) (filter_agree is_number (λ v. not (is_within lo hi v)) p f (values_left box x) n)

unchanged : (box : Box) (x : ℕ) (p : ℤ → Bool) → AreNumbers box x → ((v : ℤ) → is_number v ≡ true → p v ≡ true) → box ≡ narrowed box x p
unchanged box x p n f = sym (ap (set box x) (filter_agree is_number p (λ v. true) f (values_left box x) n ∙ whole (values_left box x)) ∙ set-get_or box x [])

pub cut_above : (box : Box) (x : ℕ) (h : ℤ) → AreNumbers box x → box_without box x (h +ℤ pos 1) (pos 1000000000) ≡ kept_up_to box x h
cut_above box x h n = narrowed_by box x (h +ℤ pos 1) (pos 1000000000) (λ v. int_le v h) n (λ v k. same v k)
  where
    same : (v : ℤ) → is_number v ≡ true → not (is_within (h +ℤ pos 1) (pos 1000000000) v) ≡ int_le v h
    same v k = grind (arith, ints, nat_tests)

pub none_above : (box : Box) (x : ℕ) (h : ℤ) → AreNumbers box x → int_lt h (pos 1000000000) ≡ false → box ≡ kept_up_to box x h
none_above box x h n g = unchanged box x (λ v. int_le v h) n (λ v k. below v k g)
  where
    below : (v : ℤ) → is_number v ≡ true → int_lt h (pos 1000000000) ≡ false → int_le v h ≡ true
    below v k g = grind (arith, ints, nat_tests)

pub cut_below : (box : Box) (x : ℕ) (l : ℤ) → AreNumbers box x → box_without box x (negsuc 999999999) (l -ℤ pos 1) ≡ kept_from box x l
cut_below box x l n = narrowed_by box x (negsuc 999999999) (l -ℤ pos 1) (int_le l) n (λ v k. same v k)
  where
    same : (v : ℤ) → is_number v ≡ true → not (is_within (negsuc 999999999) (l -ℤ pos 1) v) ≡ int_le l v
    same v k = grind (arith, ints, nat_tests)

pub none_below : (box : Box) (x : ℕ) (l : ℤ) → AreNumbers box x → int_lt (negsuc 999999999) l ≡ false → box ≡ kept_from box x l
none_below box x l n g = unchanged box x (int_le l) n (λ v k. above v k g)
  where
    above : (v : ℤ) → is_number v ≡ true → int_lt (negsuc 999999999) l ≡ false → int_le l v ≡ true
    above v k g = grind (arith, ints, nat_tests)

pub cut_between : (box : Box) (x : ℕ) (h l : ℤ) → box_without box x (h +ℤ pos 1) (l -ℤ pos 1) ≡ without_gap box x h l
cut_between box x h l = ap (set box x) (filter_same (λ v. not (is_within (h +ℤ pos 1) (l -ℤ pos 1) v)) (λ v. int_le v h || int_le l v) same (values_left box x))
  where
    same : (v : ℤ) → not (is_within (h +ℤ pos 1) (l -ℤ pos 1) v) ≡ (int_le v h || int_le l v)
    same v = grind (arith, ints, nat_tests)
