-- Conjunctions and disjunctions of truth values.
use Rattle.std.proofs.Common.{◌≡◌, Bool, true, false, ◌&&◌, ◌||◌, List, [], ◌∷◌, length, map, refl, sym, ap, ◌∙◌, subst}
use Rattle.std.specs.Prelude.{pos, nat_le, ⊤}
use Rattle.std.specs.List.{list_all, list_any}
use Rattle.std.proofs.lemmas.Bool.{and_from}
use Rattle.qc_model.specs.declared.problem.Arg.{Arg}
use Rattle.qc_model.specs.declared.problem.Pred.{Pred}
use Rattle.qc_model.specs.declared.problem.Pred.TheVariants.{IntEq}
use Rattle.qc_model.specs.declared.signature.ArgKind.{ArgKind}
use Rattle.qc_model.specs.declared.signature.ArgKind.TheVariants.{Boolean as boolean, Booleans as booleans}
use Rattle.qc_model.specs.Content.{Game, Rule}
use Rattle.qc_model.specs.Domains.{Box}
use Rattle.qc_model.specs.Left.{span, is_only, range_at, least_range, greatest_range}
use Rattle.qc_model.specs.Meaning.{Meaning, both, either, exactly_one, all_items, some_item, odd_items, clause, reified, meaning_of}
use Rattle.qc_model.specs.Ranges.{Range, point, ranges_miss, smaller_range, greater_range}
use Rattle.qc_model.specs.Refuted.{left_to, refuted_as}
use Rattle.qc_model.specs.Signature.{arg_kinds_of}
use Rattle.qc_model.specs.Valid.{is_boolean, are_of_sorts}
use Rattle.model_arguments.specs.Asked.{IsAsked}
use Rattle.model_arguments.specs.Written.{arg_at, args_at}
use Rattle.model_arguments.proofs.Written.{left_written, lefts_written}
use Rattle.qc_refuter.specs.Met.{lefts}
use Rattle.prop_bool.specs.declared.literals.Literal.{Literal}
use Rattle.prop_bool.specs.Literals.{is_truth_at, surely_fails, surely_holds, plain, negated, literals, IsDisjunction}
use Rattle.prop_bool.proofs.Adding.{some_other, holds_not_fails}
use Rattle.prop_bool.proofs.Arguments.{items_boolean, one_boolean, sorted, all_literals, any_literals, all_left, any_left, booleans_of, literals_truths, truth_of, truths_left}
use Rattle.prop_bool.proofs.Spans.{least_misses, greatest_misses, least_of_two, greatest_of_two}

and_true : (b : Bool) → (b && true) ≡ b
and_true true = refl
and_true false = refl

or_false : (b : Bool) → (b || false) ≡ b
or_false true = refl
or_false false = refl

-- all items, by their negations
any_zero : (box : Box) (xs : List Arg) → list_any (is_only (pos 0)) (map (left_to box) xs) ≡ list_any (surely_holds box) (literals [] xs)
any_zero box xs = any_left (is_only (pos 0)) box xs ∙ sym (any_literals (surely_holds box) [] xs)

all_one : (box : Box) (xs : List Arg) → list_all (is_only (pos 1)) (map (left_to box) xs) ≡ list_all (surely_fails box) (literals [] xs)
all_one box xs = all_left (is_only (pos 1)) box xs ∙ sym (all_literals (surely_fails box) [] xs)

-- some item
any_one : (box : Box) (xs : List Arg) → list_any (is_only (pos 1)) (map (left_to box) xs) ≡ list_any (surely_holds box) (literals xs [])
any_one box xs = any_left (is_only (pos 1)) box xs ∙ (sym (or_false (list_any (λ a. is_only (pos 1) (left_to box a)) xs)) ∙ sym (any_literals (surely_holds box) xs []))

all_zero : (box : Box) (xs : List Arg) → list_all (is_only (pos 0)) (map (left_to box) xs) ≡ list_all (surely_fails box) (literals xs [])
all_zero box xs = all_left (is_only (pos 0)) box xs ∙ (sym (and_true (list_all (λ a. is_only (pos 0) (left_to box a)) xs)) ∙ sym (all_literals (surely_fails box) xs []))

pub excluded : (box : Box) (ls : List Literal) (a b : Bool) → a ≡ list_any (surely_holds box) ls → b ≡ list_all (surely_fails box) ls → a ≡ true → b ≡ false
excluded box ls a b e f h = f ∙ some_other (surely_holds box) (surely_fails box) (λ l k. holds_not_fails box l k) ls (sym e ∙ h)

all_says : (g : Game) (c : Rule) (box : Box) (xs : List Arg) (r : Arg) → IsAsked g c box → list_all (is_boolean g.variables) xs ≡ true → is_boolean g.variables r ≡ true →
    ranges_miss (least_range (point (pos 1)) (map (left_to box) xs)) (span (left_to box r))
    ≡ ((surely_fails box (negated r) && list_any (surely_holds box) (literals [] xs)) || (surely_holds box (negated r) && list_all (surely_fails box) (literals [] xs)))
all_says g c box xs r a h k =
    let ds = map (left_to box) xs in
    let e = left_to box r in
    let m = any_zero box xs in
    let n = all_one box xs in
    least_misses ds e (truths_left g c box a xs h) (truth_of g c box a r k) (excluded box (literals [] xs) (list_any (is_only (pos 0)) ds) (list_all (is_only (pos 1)) ds) m n)
    ∙ (ap (λ z. (is_only (pos 1) e && z) || (is_only (pos 0) e && list_all (is_only (pos 1)) ds)) m
    ∙ ap (λ z. (is_only (pos 1) e && list_any (surely_holds box) (literals [] xs)) || (is_only (pos 0) e && z)) n)

some_says : (g : Game) (c : Rule) (box : Box) (xs : List Arg) (r : Arg) → IsAsked g c box → list_all (is_boolean g.variables) xs ≡ true → is_boolean g.variables r ≡ true →
    ranges_miss (greatest_range (point (pos 0)) (map (left_to box) xs)) (span (left_to box r))
    ≡ ((surely_fails box (plain r) && list_any (surely_holds box) (literals xs [])) || (surely_holds box (plain r) && list_all (surely_fails box) (literals xs [])))
some_says g c box xs r a h k =
    let ds = map (left_to box) xs in
    let e = left_to box r in
    let m = any_one box xs in
    let n = all_zero box xs in
    greatest_misses ds e (truths_left g c box a xs h) (truth_of g c box a r k) (excluded box (literals xs []) (list_any (is_only (pos 1)) ds) (list_all (is_only (pos 0)) ds) m n)
    ∙ (ap (λ z. (is_only (pos 0) e && z) || (is_only (pos 1) e && list_all (is_only (pos 0)) ds)) m
    ∙ ap (λ z. (is_only (pos 0) e && list_any (surely_holds box) (literals xs [])) || (is_only (pos 1) e && z)) n)

pub heads_truths : (g : Game) (c : Rule) (box : Box) (l : Literal) (xs ys : List Arg) → IsAsked g c box → is_boolean g.variables l.arg ≡ true → list_all (is_boolean g.variables) xs ≡ true → list_all (is_boolean g.variables) ys ≡ true → list_all (is_truth_at box) (l ∷ literals xs ys) ≡ true
heads_truths g c box l xs ys a h k m = and_from (is_truth_at box l) (list_all (is_truth_at box) (literals xs ys)) (truth_of g c box a l.arg h) (literals_truths g c box a xs ys k m)

-- an array and a result
abbrev array_kinds : List ArgKind
array_kinds = booleans ∷ boolean ∷ []

-- two and a result
abbrev pub three_kinds : List ArgKind
three_kinds = boolean ∷ boolean ∷ boolean ∷ []

-- the kinds of the arguments where a predicate means this
abbrev AreKindsOf : Meaning → List ArgKind → Type 0
AreKindsOf both kinds = kinds ≡ three_kinds
AreKindsOf either kinds = kinds ≡ three_kinds
AreKindsOf exactly_one kinds = kinds ≡ three_kinds
AreKindsOf all_items kinds = kinds ≡ array_kinds
AreKindsOf some_item kinds = kinds ≡ array_kinds
AreKindsOf odd_items kinds = kinds ≡ booleans ∷ []
AreKindsOf clause kinds = kinds ≡ booleans ∷ booleans ∷ []
AreKindsOf (reified clause) kinds = kinds ≡ booleans ∷ booleans ∷ boolean ∷ []
AreKindsOf _ kinds = ⊤

are_kinds_of : (p : Pred) → AreKindsOf (meaning_of p) (arg_kinds_of p)
are_kinds_of IntEq = tt
are_kinds_of _ = assumption

pub of_kinds : (g : Game) (c : Rule) (box : Box) (m : Meaning) (kinds : List ArgKind) → IsAsked g c box → meaning_of c.pred ≡ m → (AreKindsOf m (arg_kinds_of c.pred) → arg_kinds_of c.pred ≡ kinds) → are_of_sorts g.variables kinds c.args ≡ true
of_kinds g c box m kinds a e f =
    let these = f (subst (λ z. AreKindsOf z (arg_kinds_of c.pred)) e (are_kinds_of c.pred)) in
    ap (λ ks. are_of_sorts g.variables ks c.args) (sym these) ∙ sorted g c box a

array_items : (g : Game) (c : Rule) → are_of_sorts g.variables array_kinds c.args ≡ true → (nat_le (length (args_at c.args 0)) 1000 && list_all (is_boolean g.variables) (args_at c.args 0)) ≡ true
array_items g c s = items_boolean g.variables array_kinds c.args 0 s refl

array_result : (g : Game) (c : Rule) → are_of_sorts g.variables array_kinds c.args ≡ true → is_boolean g.variables (arg_at c.args 1) ≡ true
array_result g c s = one_boolean g.variables array_kinds c.args 1 s refl

pub all_items_say : (g : Game) (c : Rule) (box : Box) → IsAsked g c box → meaning_of c.pred ≡ all_items → IsDisjunction g c (literals [] (args_at c.args 0)) (negated (arg_at c.args 1))
all_items_say g c box a e =
    let s = of_kinds g c box all_items array_kinds a e (λ k. k) in
    let xs = booleans_of g.variables (args_at c.args 0) (array_items g c s) in
    record {
      truths = λ other b. heads_truths g c other (negated (arg_at c.args 1)) [] (args_at c.args 0) b (array_result g c s) refl xs;
      refuted = λ other b.
          ap (λ m. refuted_as m (lefts other c.args)) e
          ∙ (ap (λ ds. ranges_miss (least_range (point (pos 1)) ds) (range_at (lefts other c.args) 1)) (lefts_written other c.args 0)
          ∙ (ap (λ d. ranges_miss (least_range (point (pos 1)) (map (left_to other) (args_at c.args 0))) (span d)) (left_written other c.args 1)
          ∙ all_says g c other (args_at c.args 0) (arg_at c.args 1) b xs (array_result g c s)));
    }

pub some_item_says : (g : Game) (c : Rule) (box : Box) → IsAsked g c box → meaning_of c.pred ≡ some_item → IsDisjunction g c (literals (args_at c.args 0) []) (plain (arg_at c.args 1))
some_item_says g c box a e =
    let s = of_kinds g c box some_item array_kinds a e (λ k. k) in
    let xs = booleans_of g.variables (args_at c.args 0) (array_items g c s) in
    record {
      truths = λ other b. heads_truths g c other (plain (arg_at c.args 1)) (args_at c.args 0) [] b (array_result g c s) xs refl;
      refuted = λ other b.
          ap (λ m. refuted_as m (lefts other c.args)) e
          ∙ (ap (λ ds. ranges_miss (greatest_range (point (pos 0)) ds) (range_at (lefts other c.args) 1)) (lefts_written other c.args 0)
          ∙ (ap (λ d. ranges_miss (greatest_range (point (pos 0)) (map (left_to other) (args_at c.args 0))) (span d)) (left_written other c.args 1)
          ∙ some_says g c other (args_at c.args 0) (arg_at c.args 1) b xs (array_result g c s)));
    }

abbrev pub two_args : Rule → List Arg
two_args c = arg_at c.args 0 ∷ arg_at c.args 1 ∷ []

pub two_boolean : (g : Game) (c : Rule) → are_of_sorts g.variables three_kinds c.args ≡ true → list_all (is_boolean g.variables) (two_args c) ≡ true
two_boolean g c s =
    and_from (is_boolean g.variables (arg_at c.args 0)) (is_boolean g.variables (arg_at c.args 1) && true) (one_boolean g.variables three_kinds c.args 0 s refl)
    (and_from (is_boolean g.variables (arg_at c.args 1)) true (one_boolean g.variables three_kinds c.args 1 s refl) refl)

spans_at : (op : Range → Range → Range) (c : Rule) (box : Box) →
    ranges_miss (op (range_at (lefts box c.args) 0) (range_at (lefts box c.args) 1)) (range_at (lefts box c.args) 2)
    ≡ ranges_miss (op (span (left_to box (arg_at c.args 0))) (span (left_to box (arg_at c.args 1)))) (span (left_to box (arg_at c.args 2)))
spans_at op c box =
    ap (λ d. ranges_miss (op (span d) (range_at (lefts box c.args) 1)) (range_at (lefts box c.args) 2)) (left_written box c.args 0)
    ∙ (ap (λ d. ranges_miss (op (span (left_to box (arg_at c.args 0))) (span d)) (range_at (lefts box c.args) 2)) (left_written box c.args 1)
    ∙ ap (λ d. ranges_miss (op (span (left_to box (arg_at c.args 0))) (span (left_to box (arg_at c.args 1)))) (span d)) (left_written box c.args 2))

pub both_say : (g : Game) (c : Rule) (box : Box) → IsAsked g c box → meaning_of c.pred ≡ both → IsDisjunction g c (literals [] (two_args c)) (negated (arg_at c.args 2))
both_say g c box a e =
    let s = of_kinds g c box both three_kinds a e (λ k. k) in
    let r = one_boolean g.variables three_kinds c.args 2 s refl in
    record {
      truths = λ other b. heads_truths g c other (negated (arg_at c.args 2)) [] (two_args c) b r refl (two_boolean g c s);
      refuted = λ other b.
          ap (λ m. refuted_as m (lefts other c.args)) e
          ∙ (spans_at smaller_range c other
          ∙ (ap (λ z. ranges_miss z (span (left_to other (arg_at c.args 2)))) (least_of_two (left_to other (arg_at c.args 0)) (left_to other (arg_at c.args 1)) (truth_of g c other b (arg_at c.args 1) (one_boolean g.variables three_kinds c.args 1 s refl)))
          ∙ all_says g c other (two_args c) (arg_at c.args 2) b (two_boolean g c s) r));
    }

pub either_says : (g : Game) (c : Rule) (box : Box) → IsAsked g c box → meaning_of c.pred ≡ either → IsDisjunction g c (literals (two_args c) []) (plain (arg_at c.args 2))
either_says g c box a e =
    let s = of_kinds g c box either three_kinds a e (λ k. k) in
    let r = one_boolean g.variables three_kinds c.args 2 s refl in
    record {
      truths = λ other b. heads_truths g c other (plain (arg_at c.args 2)) (two_args c) [] b r (two_boolean g c s) refl;
      refuted = λ other b.
          ap (λ m. refuted_as m (lefts other c.args)) e
          ∙ (spans_at greater_range c other
          ∙ (ap (λ z. ranges_miss z (span (left_to other (arg_at c.args 2)))) (greatest_of_two (left_to other (arg_at c.args 0)) (left_to other (arg_at c.args 1)) (truth_of g c other b (arg_at c.args 1) (one_boolean g.variables three_kinds c.args 1 s refl)))
          ∙ some_says g c other (two_args c) (arg_at c.args 2) b (two_boolean g c s) r));
    }
