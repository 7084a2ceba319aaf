-- What giving up values does, in the words of certificates.
use Rattle.std.proofs.Common.{◌≡◌, ℕ, zero, suc, ◌<◌, ◌≤◌, Bool, true, false, not, ◌&&◌, List, [], ◌∷◌, ◌++◌, length, set, cond, refl, sym, ap, ◌∙◌, subst, arith, ℤ, None, Some, Result, Ok, Err, IfOk, OnErr}
use Rattle.std.specs.Prelude.{Option, ◌==◌, filter}
use Rattle.std.specs.declared.alloc.AllocError.{AllocError}
use Rattle.std.proofs.lemmas.Bool.Decides.{nat_tests}
use Rattle.std.proofs.lemmas.Bool.{and_from, not_from_false}
use Rattle.qc_model.specs.declared.problem.Sense.{Sense}
use Rattle.qc_model.specs.declared.problem.VarId.{VarId}
use Rattle.qc_model.specs.Block.{force_stop}
use Rattle.qc_model.specs.Content.{Game}
use Rattle.qc_model.specs.Domains.{Box, Values, values_left, values_within, values_outside, is_within, is_none_left, has_empty, is_sub_box, box_without}
use Rattle.qc_model.specs.Valid.{is_number}
use Rattle.proof_tree.specs.declared.tree.Step.{Step}
use Rattle.proof_tree.specs.declared.tree.Step.TheVariants.{Bound}
use Rattle.proof_tree.specs.Place.{Tracked, tracked_variable, list_after}
use Rattle.proof_tree.specs.Steps.{removes_some, is_tracked, are_legal, best_value}
use Rattle.proof_tree.specs.Text.{is_place}
use Rattle.model_arguments.proofs.Boxes.{sub_without}
use Rattle.prop_base.proofs.Steps.{cut_emptied}
use Rattle.search_box.specs.declared.bounding.Bounded.{Bounded}
use Rattle.search_box.specs.Bounds.{tracked_as, IsBounded, BoundAnswers}
use Rattle.search_box.proofs.Closings.{place_fits}

same_number : (k : ℕ) → (k == k) ≡ true
same_number k = grind (arith, nat_tests)

-- a bound is legal where its variable is tracked
legal_bound : (g : Game) (i stop : ℕ) (t : Option Tracked) (s : Sense) (x : VarId) (low high : ℤ) (box : Box) → t ≡ Some (tracked_as s x) → removes_some box x.0 low high ≡ true →
    are_legal g i stop t (Bound x low high ∷ []) box ≡ true
legal_bound g i stop t s x low high box e h =
    and_from (removes_some box x.0 low high && is_tracked x.0 t) true
    (and_from (removes_some box x.0 low high) (is_tracked x.0 t) h (ap (is_tracked x.0) e ∙ same_number x.0)) refl

pub bounded_is : (s : Sense) (x : VarId) (low high : ℤ) (box left : Box) (old new : List Step) (b : Bounded) (size : ℕ) → has_empty box ≡ false → x.0 < length box → length box ≤ 500 → is_number low ≡ true → is_number high ≡ true →
    is_none_left (values_within low high (values_left box x.0)) ≡ false → new ≡ old ++ Bound x low high ∷ [] → left ≡ box_without box x.0 low high → b.best ≡ best_value s (values_within low high (values_left box x.0)) →
    size ≡ length (values_left left x.0) → b.is_empty ≡ (size == 0) → IsBounded s x low high box left old new b
bounded_is s x low high box left old new b size full here few l h some appended reached best count empty =
    let n = is_none_left (values_within low high (values_left box x.0)) in
    let removes : removes_some box x.0 low high ≡ true = and_from (not (has_empty box)) (not n) (not_from_false (has_empty box) full) (not_from_false n some) in
    record {
      appended = appended;
      reached = reached;
      placed = λ g later i d e. legal_bound g i (force_stop later i) (tracked_variable g later i (list_after g later d)) s x low high box e removes;
      marked = ap (λ v. v ∷ []) (sym best);
      fits = and_from (is_place 500 x.0 && is_number low) (is_number high) (and_from (is_place 500 x.0) (is_number low) (place_fits 500 x.0 (omega (arith, here, few))) l) h;
      best = best;
      emptied = empty ∙ cut_emptied box left x.0 low high size full here reached count;
    }

pub not_true_false : (b : Bool) → not b ≡ true → b ≡ false
not_true_false true h = cc
not_true_false false h = refl

-- no value came back
pub bound_sub : (r : Result (Option Bounded) AllocError) (s : Sense) (x : VarId) (low high : ℤ) (box left large : Box) (old new : List Step) → IfOk r (λ b. BoundAnswers s x low high box left old new b) →
    OnErr r ((left ≡ box) × (new ≡ old)) → is_sub_box box large ≡ true → is_sub_box left large ≡ true
bound_sub (Err e) s x low high box left large old new p q h = subst (λ b. is_sub_box b large ≡ true) (sym q.0) h
bound_sub (Ok None) s x low high box left large old new p q h = subst (λ b. is_sub_box b large ≡ true) (sym p.reached) h
bound_sub (Ok (Some b)) s x low high box left large old new p q h = subst (λ d. is_sub_box d large ≡ true) (sym p.reached) (sub_without box large x.0 low high h)

pub not_false_true : (b : Bool) → not b ≡ false → b ≡ true
not_false_true true h = refl
not_false_true false h = cc
