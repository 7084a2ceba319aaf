-- Stores that lose values of one variable.
use Rattle.std.proofs.Common.{◌≡◌, ◌<◌, ℕ, Bool, true, false, [], length, sym, ap, ◌∙◌, subst, arith, length-set}
use Rattle.std.specs.Prelude.{◌==◌, ℤ, int_le, pos, negsuc, ◌+ℤ◌, ◌-ℤ◌}
use Rattle.std.specs.List.{list_all}
use Rattle.std.proofs.lemmas.Int.{ints}
use Rattle.std.proofs.lemmas.Bool.Decides.{nat_tests}
use Rattle.std.proofs.lemmas.List.{get_or-set_other, get_or-set_same}
use Rattle.qc_model.specs.Domains.{Box, has_value, is_within, values_left, values_outside, box_without, is_sub_box}
use Rattle.qc_model.specs.Valid.{is_number}
use Rattle.model_arguments.proofs.Boxes.{sub_without}
use Rattle.model_arguments.proofs.Values.{value_passes}
use Rattle.fd_store.specs.Held.{Held, Follows}
use Rattle.prop_base.proofs.Steps.{follows_same, follows_more}
use Rattle.search_joint.specs.Narrowed.{IsNarrowed}
use Rattle.search_joint.proofs.Among.{among_same, among_more, among_outside, outside_is, from_cut, up_to_cut}

apart : (j k : ℕ) → (j == k) ≡ false → k ≡ j → ⊥
apart j k h e = grind (arith, nat_tests)

pub narrowed_same : (x : ℕ) (s t : Held) → t.box ≡ s.box → t.past ≡ s.past → IsNarrowed x s t
narrowed_same x s t b p = record {
  follows = follows_same s t b p;
  count = ap length b;
  others = λ y n. ap (λ box. values_left box y) b;
  fewer = among_same (values_left t.box x) (values_left s.box x) (ap (λ box. values_left box x) b);
  within = λ large h. ap (λ box. is_sub_box box large) b ∙ h;
}

-- values are taken out of x, once there is room for it
pub narrowed_cut : (x : ℕ) (lo hi : ℤ) (s m t : Held) → x < length s.box → m.box ≡ s.box → m.past ≡ s.past → t.box ≡ box_without m.box x lo hi → Follows m t → IsNarrowed x s t
narrowed_cut x lo hi s m t l b p e f =
    let left = values_outside lo hi (values_left m.box x) in
    let here : values_left t.box x ≡ values_outside lo hi (values_left s.box x) =
    ap (λ box. values_left box x) e ∙ (get_or-set_same m.box x left [] (subst (λ k. x < k) (sym (ap length b)) l) ∙ ap (λ box. values_outside lo hi (values_left box x)) b) in
    record {
      follows = follows_more s m t (follows_same s m b p) f;
      count = ap length e ∙ (length-set m.box x left ∙ ap length b);
      others = λ y n. ap (λ box. values_left box y) e ∙ (get_or-set_other m.box x y left [] (apart x y n) ∙ ap (λ box. values_left box y) b);
      fewer =
          among_more (values_left t.box x) (values_outside lo hi (values_left s.box x)) (values_left s.box x)
          (among_same (values_left t.box x) (values_outside lo hi (values_left s.box x)) here) (among_outside lo hi (values_left s.box x));
      within = λ large h. ap (λ box. is_sub_box box large) e ∙ sub_without m.box large x lo hi (ap (λ box. is_sub_box box large) b ∙ h);
    }

pub narrowed_more : (x : ℕ) (s t u : Held) → IsNarrowed x s t → IsNarrowed x t u → IsNarrowed x s u
narrowed_more x s t u p q = record {
  follows = follows_more s t u p.follows q.follows;
  count = q.count ∙ p.count;
  others = λ y n. q.others y n ∙ p.others y n;
  fewer = among_more (values_left u.box x) (values_left t.box x) (values_left s.box x) q.fewer p.fewer;
  within = λ large h. q.within large (p.within large h);
}

-- a value that is left where some were taken out
still_left : (box new : Box) (x : ℕ) (lo hi v : ℤ) → x < length box → new ≡ box_without box x lo hi → has_value (values_left new x) v ≡ true → (has_value (values_left box x) v ≡ true) × (is_within lo hi v ≡ false)
still_left box new x lo hi v l e h =
    let here : values_left new x ≡ values_outside lo hi (values_left box x) = ap (λ b. values_left b x) e ∙ get_or-set_same box x (values_outside lo hi (values_left box x)) [] l in
    outside_is lo hi (values_left box x) v (sym (ap (λ vs. has_value vs v) here) ∙ h)

-- a value that is taken out is gone
pub one_gone : (box new : Box) (x : ℕ) (v : ℤ) → x < length box → new ≡ box_without box x v v → has_value (values_left new x) v ≡ true → ⊥
one_gone box new x v l e h =
    both (is_within v v v) (itself v) (still_left box new x v v v l e h).1
  where
    itself : (v : ℤ) → is_within v v v ≡ true
    itself v = grind (arith, ints)

    both : (b : Bool) → b ≡ true → b ≡ false → ⊥
    both true p q = cc
    both false p q = cc

-- what is left once the values below are gone, and once those above are
pub above_cut : (box new : Box) (x : ℕ) (lo : ℤ) → x < length box → list_all is_number (values_left box x) ≡ true → new ≡ box_without box x (negsuc 999999999) (lo -ℤ pos 1) →
    (v : ℤ) → has_value (values_left new x) v ≡ true → int_le lo v ≡ true
above_cut box new x lo l s e v h =
    let p = still_left box new x (negsuc 999999999) (lo -ℤ pos 1) v l e h in
    from_cut lo v (value_passes is_number (values_left box x) v s p.0) p.1

pub below_cut : (box new : Box) (x : ℕ) (hi : ℤ) → x < length box → list_all is_number (values_left box x) ≡ true → new ≡ box_without box x (hi +ℤ pos 1) (pos 1000000000) →
    (v : ℤ) → has_value (values_left new x) v ≡ true → int_le v hi ≡ true
below_cut box new x hi l s e v h =
    let p = still_left box new x (hi +ℤ pos 1) (pos 1000000000) v l e h in
    up_to_cut hi v (value_passes is_number (values_left box x) v s p.0) p.1
