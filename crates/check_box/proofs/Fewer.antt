-- The values of fewer variables, and other values that begin alike.
use Rattle.std.proofs.Common.{◌≡◌, ℕ, zero, suc, ◌≤◌, ◌-◌, List, [], ◌∷◌, take, map, refl, sym, ap, ◌∙◌, subst, arith, ℤ}
use Rattle.qc_model.specs.Content.{Game}
use Rattle.qc_model.specs.Domains.{Box}
use Rattle.qc_model.specs.Game.{before}
use Rattle.qc_model.proofs.Before.{before_up, before-zero}
use Rattle.check_box.specs.Placed.{only, values_to, IsAt}

-- fewer variables
pub before_back : (g : Game) (i : ℕ) → before g (i - 1) ≤ before g i
before_back g zero = omega arith
before_back g (suc i) = let e : suc i - 1 ≡ i = omega arith in let up = before_up g i in rw e up

take_take : {X : Type 0} (n m : ℕ) (xs : List X) → n ≤ m → take n (take m xs) ≡ take n xs
take_take zero m xs h = refl
take_take (suc n) zero [] h = refl
take_take (suc n) (suc m) [] h = refl
take_take (suc n) zero (x ∷ xs) h = absurd (omega arith)
take_take (suc n) (suc m) (x ∷ xs) h = ap (λ ys. x ∷ ys) (take_take n m xs (omega arith))

take_only : (n : ℕ) (vs : List ℤ) → take n (map only vs) ≡ map only (take n vs)
take_only zero vs = refl
take_only (suc n) [] = refl
take_only (suc n) (v ∷ vs) = ap (λ ws. only v ∷ ws) (take_only n vs)

pub at_fewer : (g : Game) (i : ℕ) (vs : List ℤ) (box : Box) → IsAt g i vs box → IsAt g (i - 1) vs box
at_fewer g i vs box h =
    let k = before g (i - 1) in
    let n = before g i in
    let le = before_back g i in
    sym (take_take k n box le) ∙ (ap (take k) h ∙ (take_only k (take n vs) ∙ ap (map only) (take_take k n vs le)))

pub fewer_values : (g : Game) (i : ℕ) (vs ws : List ℤ) → values_to g i ws ≡ values_to g i vs → values_to g (i - 1) ws ≡ values_to g (i - 1) vs
fewer_values g i vs ws e =
    sym (take_take (before g (i - 1)) (before g i) ws (before_back g i)) ∙ (ap (take (before g (i - 1))) e ∙ take_take (before g (i - 1)) (before g i) vs (before_back g i))

pub at_values : (g : Game) (i : ℕ) (vs ws : List ℤ) (box : Box) → values_to g i ws ≡ values_to g i vs → IsAt g i vs box → IsAt g i ws box
at_values g i vs ws box e h = h ∙ ap (map only) (sym e)

-- no variable stands before the first scope
pub at_first : (g : Game) (vs : List ℤ) (box : Box) → IsAt g 0 vs box
at_first g vs box = subst (λ n. take n box ≡ map only (take n vs)) (sym (before-zero g)) refl
