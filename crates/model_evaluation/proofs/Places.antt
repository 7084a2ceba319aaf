-- The item at a place that counts from a number.
use Rattle.std.proofs.Common.{◌≡◌, ℕ, zero, suc, Bool, true, false, ◌&&◌, ◌||◌, List, [], ◌∷◌, refl, ap, ◌∙◌, arith, ℤ}
use Rattle.std.specs.Prelude.{pos, ◌+ℤ◌, ◌<ℤ◌, slice_get}
use Rattle.std.specs.Ordering.{int_eq}
use Rattle.std.proofs.lemmas.Int.{ints}
use Rattle.std.proofs.lemmas.Bool.Decides.{Decides-int_eq}
use Rattle.model_evaluation.specs.Evaluation.{is_some_item}
use Rattle.qc_model.specs.Holds.{item_is}
use Rattle.qc_model.proofs.Places.{differ, differ_up}

pub before_place : (k b : ℤ) (xs : List ℤ) (c : ℤ) → b <ℤ k → item_is k b xs c ≡ false
before_place k b [] c h = refl
before_place k b (x ∷ xs) c h =
    ap (λ t. (t && int_eq x c) || item_is (k +ℤ pos 1) b xs c) (differ b k h)
    ∙ before_place (k +ℤ pos 1) b xs c (omega (arith, ints, h))

or_false : (t : Bool) → (t || false) ≡ t
or_false true = refl
or_false false = refl

pub at_place : (k b : ℤ) (j : ℕ) (xs : List ℤ) (c : ℤ) → b ≡ k +ℤ pos j → item_is k b xs c ≡ is_some_item c (slice_get xs j)
at_place k b zero [] c h = refl
at_place k b (suc j) [] c h = refl
at_place k b zero (x ∷ xs) c h =
    let here : k ≡ b = omega (arith, ints, h) in
    ap (λ t. (t && int_eq x c) || item_is (k +ℤ pos 1) b xs c) ((Decides-int_eq k b).1 here)
    ∙ ap (λ t. int_eq x c || t) (before_place (k +ℤ pos 1) b xs c (omega (arith, ints, h)))
    ∙ or_false (int_eq x c)
at_place k b (suc j) (x ∷ xs) c h =
    ap (λ t. (t && int_eq x c) || item_is (k +ℤ pos 1) b xs c) (differ_up k b (omega (arith, ints, h)))
    ∙ at_place (k +ℤ pos 1) b j xs c (omega (arith, ints, h))
