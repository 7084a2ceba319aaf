-- The predicates that say whether an odd number of items are 1.
use Rattle.std.proofs.Common.{◌≡◌, Bool, true, false, not, ◌&&◌, List, [], ◌∷◌, map, refl, sym, ap, ◌∙◌}
use Rattle.std.specs.Prelude.{pos}
use Rattle.std.specs.Ordering.{int_eq}
use Rattle.std.specs.List.{list_all}
use Rattle.std.proofs.lemmas.Bool.{and_from}
use Rattle.qc_model.specs.declared.problem.Arg.{Arg}
use Rattle.qc_model.specs.declared.signature.ArgKind.TheVariants.{Booleans as booleans}
use Rattle.qc_model.specs.Content.{Game, Rule}
use Rattle.qc_model.specs.Domains.{Values, Box, is_single, least_value}
use Rattle.qc_model.specs.Holds.{same_truth, odd_ones, is_one}
use Rattle.qc_model.specs.Left.{left_at}
use Rattle.qc_model.specs.Meaning.{exactly_one, odd_items, meaning_of}
use Rattle.qc_model.specs.Refuted.{left_to, refuted_as}
use Rattle.qc_model.specs.Valid.{is_boolean}
use Rattle.model_arguments.specs.Asked.{IsAsked}
use Rattle.model_arguments.specs.Written.{arg_at, args_at}
use Rattle.model_arguments.proofs.Written.{left_written, lefts_written}
use Rattle.qc_refuter.specs.Met.{lefts}
use Rattle.prop_bool.specs.Literals.{both_truths, is_truth_left}
use Rattle.prop_bool.specs.Parities.{differ, are_single, IsParity}
use Rattle.prop_bool.proofs.Arguments.{items_boolean, one_boolean, all_left, booleans_of, truth_of, truths_left}
use Rattle.prop_bool.proofs.Junctions.{of_kinds, three_kinds}
use Rattle.prop_bool.proofs.Truths.{by_left}

least_mapped : (box : Box) (xs : List Arg) → map least_value (map (left_to box) xs) ≡ map (λ a. least_value (left_to box a)) xs
least_mapped box [] = refl
least_mapped box (a ∷ xs) = ap (λ ns. least_value (left_to box a) ∷ ns) (least_mapped box xs)

pub odd_items_say : (g : Game) (c : Rule) (box : Box) → IsAsked g c box → meaning_of c.pred ≡ odd_items → IsParity g c (args_at c.args 0) true
odd_items_say g c box a e =
    let xs = args_at c.args 0 in
    let h = booleans_of g.variables xs (items_boolean g.variables (booleans ∷ []) c.args 0 (of_kinds g c box odd_items (booleans ∷ []) a e (λ k. k)) refl) in
    record {
      truths = λ other b. sym (all_left is_truth_left other xs) ∙ truths_left g c other b xs h;
      refuted = λ other b.
          ap (λ m. refuted_as m (lefts other c.args)) e
          ∙ (ap (λ ds. list_all is_single ds && not (odd_ones (map least_value ds))) (lefts_written other c.args 0)
          ∙ (ap (λ z. z && not (odd_ones (map least_value (map (left_to other) xs)))) (all_left is_single other xs)
          ∙ ap (λ ns. are_single other xs && not (odd_ones ns)) (least_mapped other xs)));
    }

-- the third says whether the first two differ
abbrev said_by : Values → Values → Values → Bool
said_by d e f = is_single d && is_single e && is_single f && not (same_truth (is_one (least_value f)) (not (int_eq (least_value d) (least_value e))))

abbrev counted : Values → Values → Values → Bool
counted d e f = list_all is_single (d ∷ e ∷ f ∷ []) && differ false (odd_ones (map least_value (d ∷ e ∷ f ∷ [])))

abbrev pub three_args : Rule → List Arg
three_args c = arg_at c.args 0 ∷ arg_at c.args 1 ∷ arg_at c.args 2 ∷ []

said_counted : (d e f : Values) → is_truth_left d ≡ true → is_truth_left e ≡ true → is_truth_left f ≡ true → said_by d e f ≡ counted d e f
said_counted d e f h k m =
    by_left (λ x. said_by x e f ≡ counted x e f)
    (by_left (λ y. said_by (pos 0 ∷ []) y f ≡ counted (pos 0 ∷ []) y f)
    (by_left (λ z. said_by (pos 0 ∷ []) (pos 0 ∷ []) z ≡ counted (pos 0 ∷ []) (pos 0 ∷ []) z) refl refl refl f m)
    (by_left (λ z. said_by (pos 0 ∷ []) (pos 1 ∷ []) z ≡ counted (pos 0 ∷ []) (pos 1 ∷ []) z) refl refl refl f m)
    (by_left (λ z. said_by (pos 0 ∷ []) both_truths z ≡ counted (pos 0 ∷ []) both_truths z) refl refl refl f m)
    e k)
    (by_left (λ y. said_by (pos 1 ∷ []) y f ≡ counted (pos 1 ∷ []) y f)
    (by_left (λ z. said_by (pos 1 ∷ []) (pos 0 ∷ []) z ≡ counted (pos 1 ∷ []) (pos 0 ∷ []) z) refl refl refl f m)
    (by_left (λ z. said_by (pos 1 ∷ []) (pos 1 ∷ []) z ≡ counted (pos 1 ∷ []) (pos 1 ∷ []) z) refl refl refl f m)
    (by_left (λ z. said_by (pos 1 ∷ []) both_truths z ≡ counted (pos 1 ∷ []) both_truths z) refl refl refl f m)
    e k)
    (by_left (λ y. said_by both_truths y f ≡ counted both_truths y f)
    (by_left (λ z. said_by both_truths (pos 0 ∷ []) z ≡ counted both_truths (pos 0 ∷ []) z) refl refl refl f m)
    (by_left (λ z. said_by both_truths (pos 1 ∷ []) z ≡ counted both_truths (pos 1 ∷ []) z) refl refl refl f m)
    (by_left (λ z. said_by both_truths both_truths z ≡ counted both_truths both_truths z) refl refl refl f m)
    e k)
    d h

pub exactly_one_says : (g : Game) (c : Rule) (box : Box) → IsAsked g c box → meaning_of c.pred ≡ exactly_one → IsParity g c (three_args c) false
exactly_one_says g c box a e =
    let s = of_kinds g c box exactly_one three_kinds a e (λ k. k) in
    let truth : (other : Box) (k : Arg) → IsAsked g c other → is_boolean g.variables k ≡ true → is_truth_left (left_to other k) ≡ true = λ other k b h. truth_of g c other b k h in
    let first = one_boolean g.variables three_kinds c.args 0 s refl in
    let second = one_boolean g.variables three_kinds c.args 1 s refl in
    let third = one_boolean g.variables three_kinds c.args 2 s refl in
    record {
      truths = λ other b.
          let x = truth other (arg_at c.args 0) b first in
          let y = truth other (arg_at c.args 1) b second in
          let z = truth other (arg_at c.args 2) b third in
          let t : Arg → Bool = λ k. is_truth_left (left_to other k) in
          and_from (t (arg_at c.args 0)) (t (arg_at c.args 1) && (t (arg_at c.args 2) && true)) x
          (and_from (t (arg_at c.args 1)) (t (arg_at c.args 2) && true) y (and_from (t (arg_at c.args 2)) true z refl));
      refuted = λ other b.
          ap (λ m. refuted_as m (lefts other c.args)) e
          ∙ (ap (λ d. said_by d (left_at (lefts other c.args) 1) (left_at (lefts other c.args) 2)) (left_written other c.args 0)
          ∙ (ap (λ d. said_by (left_to other (arg_at c.args 0)) d (left_at (lefts other c.args) 2)) (left_written other c.args 1)
          ∙ (ap (λ d. said_by (left_to other (arg_at c.args 0)) (left_to other (arg_at c.args 1)) d) (left_written other c.args 2)
          ∙ said_counted (left_to other (arg_at c.args 0)) (left_to other (arg_at c.args 1)) (left_to other (arg_at c.args 2)) (truth other (arg_at c.args 0) b first) (truth other (arg_at c.args 1) b second) (truth other (arg_at c.args 2) b third))));
    }
