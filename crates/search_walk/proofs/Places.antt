-- Items of lists by their places.
use Rattle.std.proofs.Common.{◌≡◌, ◌∙◌, ℕ, zero, suc, ◌<◌, ◌+◌, List, [], ◌∷◌, length, drop, refl, subst, ap, arith, false, true}
use Rattle.qc_model.specs.declared.problem.Scope.{Scope}
use Rattle.qc_model.specs.Content.{Game}
use Rattle.qc_model.specs.Domains.{Values, Box, is_single}
use Rattle.search_box.specs.Closes.{IsClosedAt}
use Rattle.search_box.specs.Complete.{takes_goal_in, IsClosedAtGoal}
use Rattle.search_box.proofs.Complete.{closed_at_goal}
use Rattle.proof_tree.specs.Place.{next_scopes}

pub drop_here : {X : Type 0} (n : ℕ) (xs : List X) → n < length xs → (y : X) × (drop n xs ≡ y ∷ drop (suc n) xs)
drop_here n [] h = absurd (omega arith)
drop_here zero (x ∷ xs) h = (x, refl)
drop_here (suc n) (x ∷ xs) h = drop_here n xs (omega arith)

pub next_at : (n : ℕ) (ss : List Scope) → next_scopes (drop n ss) ≡ drop (suc n) ss
next_at zero [] = refl
next_at (suc n) [] = refl
next_at zero (s ∷ ss) = refl
next_at (suc n) (s ∷ ss) = next_at n ss

-- more than one value
pub several : (d : Values) (n : ℕ) → is_single d ≡ false → n < length d → 1 < length d
several [] n e h = absurd (omega arith)
several (v ∷ []) n e h = cc
several (v ∷ u ∷ d) n e h = omega arith

-- without a scope nobody is in force at the goal
no_goal_in : {X : Type 0} (ss : List Scope) → 0 ≡ length ss → takes_goal_in ss ≡ true → X
no_goal_in [] e h = cc
no_goal_in (s ∷ ss) e h = absurd (omega (arith, e))

pub nobody_at_goal : (g : Game) (box : Box) → 0 ≡ length g.scopes → IsClosedAtGoal g box
nobody_at_goal g box e h = no_goal_in g.scopes e h

-- after the last scope, whose box is closed
pub goal_closed : (g h : Game) (i : ℕ) (box : Box) → g ≡ h → IsClosedAt g i box → i + 1 ≡ length h.scopes → IsClosedAtGoal h box
goal_closed g h i box same c e =
    subst (λ (k : Game). IsClosedAtGoal k box) same (closed_at_goal g i box (one_more i ∙ (e ∙ ap (λ (k : Game). length k.scopes) (turned g h same))) c)
  where
    one_more : (n : ℕ) → suc n ≡ n + 1
    one_more n = omega arith

    turned : (g h : Game) → g ≡ h → h ≡ g
    turned g h e = cc
