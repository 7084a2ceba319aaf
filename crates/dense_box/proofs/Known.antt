-- What is known of boxes.
use Rattle.std.proofs.Common.{◌≡◌, ◌∙◌, refl, sym, ap, subst, ℕ, true, List, arith, ℤ}
use Rattle.qc_model.specs.Content.{Game}
use Rattle.qc_model.specs.Domains.{Box}
use Rattle.model_arguments.specs.Asked.{is_box_of}
use Rattle.fd_store.specs.Held.{Held, trail_len, past_box, Follows}
use Rattle.box_laws.proofs.Trails.{past_now}
use Rattle.proof_tree.specs.Place.{is_fixed}
use Rattle.dense_tree.specs.Tuples.{is_tuple_of, box_taken}

-- a box that was led on is the past one where it began
pub past_after : (s t : Held) → Follows s t → past_box t (trail_len s) ≡ s.box
past_after s t f = f.boxes (trail_len s) (omega arith) ∙ past_now s (trail_len s) refl

pub led_on : (s t u : Held) → Follows s t → Follows t u → Follows s u
led_on s t u f h = record { longer = omega (arith, f.longer, h.longer); boxes = λ k l. h.boxes k (omega (arith, l, f.longer)) ∙ f.boxes k l }

-- what is told by a level, and of a store, is so of the problem and of the box
module _ (g x : Game) (i n : ℕ) (e : x ≡ g) (f : n ≡ i) where
  pub tuple_told : (s t : Held) (vs : List ℤ) → s ≡ t → is_tuple_of x n s.box vs ≡ is_tuple_of g i t.box vs
  tuple_told s t vs h =
      ap (λ (z : Game). is_tuple_of z n s.box vs) e ∙ (ap (λ k. is_tuple_of g k s.box vs) f ∙ ap (λ (z : Held). is_tuple_of g i z.box vs) h)

  pub fixed_told : (s t : Held) → s ≡ t → is_fixed x n s.box ≡ is_fixed g i t.box
  fixed_told s t h =
      ap (λ (z : Game). is_fixed z n s.box) e ∙ (ap (λ k. is_fixed g k s.box) f ∙ ap (λ (z : Held). is_fixed g i z.box) h)

  pub taken_told : (box : Box) (vs : List ℤ) → box_taken x n box vs ≡ box_taken g i box vs
  taken_told box vs = ap (λ (z : Game). box_taken z n box vs) e ∙ ap (λ k. box_taken g k box vs) f

pub box_told : (g x : Game) (s t : Held) → x ≡ g → s ≡ t → is_box_of g t.box ≡ true → is_box_of x s.box ≡ true
box_told g x s t e h d = subst (λ (z : Game). is_box_of z s.box ≡ true) (sym e) (subst (λ (z : Held). is_box_of g z.box ≡ true) (sym h) d)
