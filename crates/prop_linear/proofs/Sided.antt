-- A place that is near on both sides.
use Rattle.std.proofs.Common.{◌≡◌, ℕ, ◌+◌, ◌<◌, ◌≤◌, true, List, length, get_or, refl, sym, ap, subst, arith, add-one, ℤ}
use Rattle.std.specs.Prelude.{pos, ◌+ℤ◌, ◌≤ℤ◌}
use Rattle.std.proofs.lemmas.Int.{ints}
use Rattle.qc_model.specs.declared.problem.Arg.{Arg}
use Rattle.qc_model.specs.declared.problem.Arg.TheVariants.{Var, Num}
use Rattle.qc_model.specs.declared.problem.VarId.{VarId}
use Rattle.qc_model.specs.Domains.{Box, values_left}
use Rattle.qc_model.specs.Left.{span}
use Rattle.qc_model.specs.Ranges.{Range, range_of, point, product}
use Rattle.qc_model.specs.Refuted.{left_to}
use Rattle.prop_linear.specs.Tightening.{IsNear, term_of}
use Rattle.prop_linear.specs.Sides.{AreNear, signed}
use Rattle.prop_linear.proofs.Moves.{near_more, near_number}
use Rattle.prop_linear.proofs.Sides.{sided_near, signed_length}

more_both : (ns : List ℤ) (xs : List Arg) (k s t : ℕ) (box : Box) (e : Arg) → length ns ≡ length xs → k < length xs → IsNear (get_or ns k (pos 0)) s (left_to box (get_or xs k e)) → IsNear (get_or ns k (pos 0)) t (left_to box (get_or xs k e)) →
    AreNear k s t ns xs box → AreNear (k + 1) s t ns xs box
more_both ns xs k s t box e l h over under a =
    let ms = signed true ns in
    rw add-one (
      near_more s ns xs k box (pos 0) e (omega (arith, l, h)) h a.0 over,
      near_more t ms xs k box (pos 0) e (omega (arith, signed_length true ns, l, h)) h a.1 (sided_near true ns k t (left_to box (get_or xs k e)) (omega (arith, l, h)) under),
    )

-- a place whose term moves by no more than r
pub near_reach : (ns : List ℤ) (xs : List Arg) (k s t r : ℕ) (box : Box) (from to : ℤ) (e : Arg) → length ns ≡ length xs → k < length xs → range_of from to ≡ product (point (get_or ns k (pos 0))) (span (left_to box (get_or xs k e))) → to ≡ from +ℤ pos r → r ≤ s → r ≤ t →
    AreNear k s t ns xs box → AreNear (k + 1) s t ns xs box
near_reach ns xs k s t r box from to e l h q m over under a =
    let term = term_of (get_or ns k (pos 0)) (left_to box (get_or xs k e)) in
    let f = ap (λ (z : Range). z.from) q in
    let g = ap (λ (z : Range). z.to) q in
    more_both ns xs k s t box e l h (within from to term.from term.to s f g m over) (within from to term.from term.to t f g m under) a
  where
    within : (f g u v : ℤ) (s : ℕ) → f ≡ u → g ≡ v → g ≡ f +ℤ pos r → r ≤ s → v ≤ℤ (u +ℤ pos s)
    within f g u v s h k i j = omega (arith, ints, h, k, i, j)

pub near_both : (ns : List ℤ) (xs : List Arg) (k s t : ℕ) (box : Box) (x : VarId) (e : Arg) → length ns ≡ length xs → k < length xs → get_or xs k e ≡ Var x → IsNear (get_or ns k (pos 0)) s (values_left box x.0) → IsNear (get_or ns k (pos 0)) t (values_left box x.0) →
    AreNear k s t ns xs box → AreNear (k + 1) s t ns xs box
near_both ns xs k s t box x e l h q over under a =
    let n = get_or ns k (pos 0) in
    more_both ns xs k s t box e l h (subst (λ z. IsNear n s (left_to box z)) (sym q) over) (subst (λ z. IsNear n t (left_to box z)) (sym q) under) a

pub number_both : (ns : List ℤ) (xs : List Arg) (k s t : ℕ) (box : Box) (m : ℤ) (e : Arg) → length ns ≡ length xs → k < length xs → get_or xs k e ≡ Num m →
    AreNear k s t ns xs box → AreNear (k + 1) s t ns xs box
number_both ns xs k s t box m e l h q a =
    let n = get_or ns k (pos 0) in
    more_both ns xs k s t box e l h (subst (λ z. IsNear n s (left_to box z)) (sym q) (near_number n s m)) (subst (λ z. IsNear n t (left_to box z)) (sym q) (near_number n t m)) a

pub number_default : (ns : List ℤ) (xs : List Arg) (k s t : ℕ) (box : Box) (e : Arg) → length ns ≡ length xs → k < length xs → ((x : VarId) → get_or xs k e ≡ Var x → ⊥) →
    AreNear k s t ns xs box → AreNear (k + 1) s t ns xs box
number_default ns xs k s t box e l h n a = by (get_or xs k e) refl
  where
    by : (b : Arg) → get_or xs k e ≡ b → AreNear (k + 1) s t ns xs box
    by (Var x) q = absurd (n x q)
    by (Num m) q = number_both ns xs k s t box m e l h q a
