-- What is read of a node's box, and upper bounds.
use Rattle.std.proofs.Common.{◌≡◌, ℕ, zero, suc, ◌+◌, ◌<◌, ◌≤◌, false, Option, Some, List, [], ◌∷◌, length, slice_get, take, set, refl, sym, ap, ◌∙◌, arith, ℤ, add-one}
use Rattle.qc_model.specs.declared.problem.VarId.{VarId}
use Rattle.qc_model.specs.declared.problem.Target.TheVariants.{Var}
use Rattle.qc_model.specs.declared.problem.Condition.{Condition}
use Rattle.qc_model.specs.Content.{Game}
use Rattle.qc_model.specs.Domains.{Box, values_left, is_none_left, has_empty, declared_box, least_value, box_values}
use Rattle.qc_model.specs.Game.{before}
use Rattle.qc_model.specs.Verdict.{at_most}
use Rattle.qc_model.proofs.Before.{before-le}
use Rattle.model_arguments.proofs.Boxes.{sub_length}
use Rattle.dense_tree.specs.Place.{Setting, Place}
use Rattle.dense_tree.specs.Verdicts.{first_of, upper_bound}
use Rattle.dense_nest.specs.Places.{IsFull}

pub some_left : (box : Box) (x : ℕ) → has_empty box ≡ false → x < length box → is_none_left (values_left box x) ≡ false
some_left [] x e l = absurd (omega (arith, l))
some_left ([] ∷ box) zero e l = cc
some_left ((v ∷ vs) ∷ box) zero e l = refl
some_left ([] ∷ box) (suc x) e l = cc
some_left ((v ∷ vs) ∷ box) (suc x) e l = some_left box x e (omega (arith, l))

pub before_inside : (g : Game) (i x n : ℕ) (box : Box) → IsFull g box → n ≡ before g i → x < n → x < length box
before_inside g i x n box f e l =
    let a = sub_length box (declared_box g) f.declared in
    let b = before-le g i in
    omega (arith, a, b, e, l)

pub upper_by_variable : (s : Setting) (p : Place) (list : List Condition) (c : Condition) (x : VarId) (v : List ℤ) → p.list ≡ list → Some c ≡ slice_get list 0 → c.target ≡ Var x →
    at_most (first_of s p c.sense (Var x) v) ≡ upper_bound s p p.list v
upper_by_variable s p list c x v e f t = by list f ∙ sym (ap (λ d. upper_bound s p d v) e)
  where
    by : (list : List Condition) → Some c ≡ slice_get list 0 → at_most (first_of s p c.sense (Var x) v) ≡ upper_bound s p list v
    by [] h = absurd (none h)
      where
        none : ◌≡◌ {A = Option Condition} (Some c) (slice_get [] 0) → ⊥
        none q = cc
    by (d ∷ ds) h = ap (λ u. at_most (first_of s p c.sense u v)) (sym t) ∙ ap (λ (k : Condition). at_most (first_of s p k.sense k.target v)) (same h)
      where
        same : ◌≡◌ {A = Option Condition} (Some c) (Some d) → c ≡ d
        same q = cc

-- ---- positions
pub written_more : (vs : List ℤ) (box : Box) (k : ℕ) (v : ℤ) → k < length vs → k < length box → v ≡ least_value (values_left box k) → take k vs ≡ box_values (take k box) → take (k + 1) (set vs k v) ≡ box_values (take (k + 1) box)
written_more vs box k v h l e f = ap (λ n. take n (set vs k v)) (add-one k) ∙ (go vs box k h l e f ∙ sym (ap (λ n. box_values (take n box)) (add-one k)))
  where
    tails : (u w : ℤ) (us ws : List ℤ) → ◌≡◌ {A = List ℤ} (u ∷ us) (w ∷ ws) → (u ≡ w) × (us ≡ ws)
    tails u w us ws q = (cc, cc)

    go : (vs : List ℤ) (box : Box) (k : ℕ) → k < length vs → k < length box → v ≡ least_value (values_left box k) → take k vs ≡ box_values (take k box) → take (suc k) (set vs k v) ≡ box_values (take (suc k) box)
    go [] box k h l e f = absurd (omega (arith, h))
    go (u ∷ vs) [] k h l e f = absurd (omega (arith, l))
    go (u ∷ vs) (d ∷ box) zero h l e f = ap (λ w. w ∷ []) e
    go (u ∷ vs) (d ∷ box) (suc k) h l e f =
        let t = tails u (least_value d) (take k vs) (box_values (take k box)) f in
        ap (λ w. w ∷ take (suc k) (set vs k v)) t.0 ∙ ap (λ ws. least_value d ∷ ws) (go vs box k (omega (arith, h)) (omega (arith, l)) e t.1)

pub count_inside : (g : Game) (i n : ℕ) (box : Box) → IsFull g box → n ≡ before g i → n ≤ length box
count_inside g i n box f e =
    let a = sub_length box (declared_box g) f.declared in
    let b = before-le g i in
    omega (arith, a, b, e)
