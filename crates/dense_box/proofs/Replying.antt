-- Replies and bounds at a place.
use Rattle.std.proofs.Common.{Bool, List, None, Option, Some, ap, drop, false, not, refl, set, suc, true, ℕ, ℤ, ◌&&◌, ◌∙◌, ◌≡◌}
use Rattle.qc_model.specs.declared.problem.Scope.{Scope}
use Rattle.qc_model.specs.Block.{constraints_within}
use Rattle.qc_model.specs.Content.{Game}
use Rattle.qc_model.specs.Domains.{Box, values_left, least_value, has_empty, is_single}
use Rattle.proof_tree.specs.Place.{Tracked}
use Rattle.dense_tree.specs.Place.{Setting, Place}
use Rattle.dense_tree.specs.Steps.{last_condition, no_worse, replying, read_step}
use Rattle.dense_tree.specs.Tree.{reply}
use Rattle.dense_tree.specs.Tuples.{all_hold, is_tuple_of, box_taken}
use Rattle.dense_box.specs.Here.{IsHere}

-- whether a reply with the variable is in place, and what it leaves
abbrev pub placed_with : Game → ℕ → Box → List ℤ → Option Tracked → Bool
placed_with g i box t None = false
placed_with g i box t (Some w) =
    is_tuple_of g i box t && all_hold (constraints_within g i (suc (suc i))) (box_taken g i box t) && is_single (values_left (box_taken g i box t) w.variable)

abbrev pub box_with : Game → ℕ → Box → List ℤ → Option Tracked → Box
box_with g i box t None = box
box_with g i box t (Some w) =
    set box w.variable (no_worse w.sense (least_value (values_left (box_taken g i box t) w.variable)) (values_left box w.variable))

placed_any : (s : Setting) (p : Place) (t : List ℤ) (o : Option Tracked) → (replying s p o (box_taken s.game p.number p.box t) t).placed ≡ placed_with s.game p.number p.box t o
placed_any s p t None = refl
placed_any s p t (Some w) = refl

box_any : (s : Setting) (p : Place) (t : List ℤ) (o : Option Tracked) → (replying s p o (box_taken s.game p.number p.box t) t).place.box ≡ box_with s.game p.number p.box t o
box_any s p t None = refl
box_any s p t (Some w) = refl

module _ (g : Game) (i : ℕ) (box : Box) (s : Setting) (p : Place) (h : IsHere g i box s p) (t : List ℤ) (o : Option Tracked) (e : last_condition (drop i g.scopes) ≡ o) where
  moved : {X : Type 0} (f : Game → ℕ → Box → List ℤ → Option Tracked → X) → f s.game p.number p.box t (last_condition p.later) ≡ f g i box t o
  moved f =
      ap (λ (ss : List Scope). f s.game p.number p.box t (last_condition ss)) h.later
      ∙ (ap (f s.game p.number p.box t) e
      ∙ (ap (λ (z : Game). f z p.number p.box t o) h.game
      ∙ (ap (λ n. f g n p.box t o) h.number
      ∙ ap (λ (b : Box). f g i b t o) h.left)))

  pub placed_here : has_empty box ≡ false → (read_step s (reply t) p).placed ≡ placed_with g i box t o
  placed_here full =
      ap (λ b. not b && (replying s p (last_condition p.later) (box_taken s.game p.number p.box t) t).placed) (ap (λ (b : Box). has_empty b) h.left ∙ full)
      ∙ (placed_any s p t (last_condition p.later) ∙ moved placed_with)

  -- where a domain is empty, none is in place
  pub none_here : has_empty box ≡ true → (read_step s (reply t) p).placed ≡ false
  none_here e = ap (λ b. not b && (replying s p (last_condition p.later) (box_taken s.game p.number p.box t) t).placed) (ap (λ (b : Box). has_empty b) h.left ∙ e)

  pub box_here : (read_step s (reply t) p).place.box ≡ box_with g i box t o
  box_here = box_any s p t (last_condition p.later) ∙ moved box_with
