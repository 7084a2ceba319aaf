-- A clause as a disjunction, and what says whether it holds.
use Rattle.std.proofs.Common.{◌≡◌, ◌≤◌, ◌+◌, ℕ, true, false, not, ◌&&◌, ◌||◌, List, [], ◌∷◌, length, refl, sym, ap, ◌∙◌, arith, ℤ, Some}
use Rattle.std.specs.Prelude.{pos, slice_get}
use Rattle.std.specs.List.{list_all, list_any}
use Rattle.qc_model.specs.declared.problem.Arg.TheVariants.{Num}
use Rattle.qc_model.specs.declared.problem.Argument.{Argument}
use Rattle.qc_model.specs.declared.problem.Variable.{Variable}
use Rattle.qc_model.specs.declared.signature.ArgKind.{ArgKind}
use Rattle.qc_model.specs.declared.signature.ArgKind.TheVariants.{Boolean as boolean, Booleans as booleans}
use Rattle.qc_model.specs.Content.{Game, Rule}
use Rattle.qc_model.specs.Domains.{Box, has_value}
use Rattle.qc_model.specs.Entailed.{entailed_as}
use Rattle.qc_model.specs.Left.{is_only, lefts_at}
use Rattle.qc_model.specs.Meaning.{clause, reified, meaning_of}
use Rattle.qc_model.specs.Refuted.{left_to, refuted_as}
use Rattle.qc_model.specs.Valid.{is_boolean, is_of_sort, are_of_sorts}
use Rattle.qc_model.proofs.Readable.{second}
use Rattle.model_arguments.specs.Asked.{IsAsked}
use Rattle.model_arguments.specs.Written.{arg_at, args_at, last_arg}
use Rattle.model_arguments.proofs.Written.{lefts_written, last_written}
use Rattle.qc_refuter.specs.Met.{lefts}
use Rattle.prop_bool.specs.Literals.{surely_fails, surely_holds, plain, literals, IsDisjunction}
use Rattle.prop_bool.proofs.Arguments.{items_boolean, one_boolean, all_literals, any_literals, all_left, any_left, few_of, booleans_of, literals_truths, truth_of}
use Rattle.prop_bool.proofs.Junctions.{of_kinds, heads_truths, excluded}
use Rattle.prop_bool.proofs.Spans.{said}

all_at : (n : ℤ) (c : Rule) (box : Box) (k : ℕ) → list_all (is_only n) (lefts_at (lefts box c.args) k) ≡ list_all (λ a. is_only n (left_to box a)) (args_at c.args k)
all_at n c box k = ap (list_all (is_only n)) (lefts_written box c.args k) ∙ all_left (is_only n) box (args_at c.args k)

any_at : (n : ℤ) (c : Rule) (box : Box) (k : ℕ) → list_any (is_only n) (lefts_at (lefts box c.args) k) ≡ list_any (λ a. is_only n (left_to box a)) (args_at c.args k)
any_at n c box k = ap (list_any (is_only n)) (lefts_written box c.args k) ∙ any_left (is_only n) box (args_at c.args k)

-- a clause is refuted where all its literals fail, and entailed where some holds
all_fail : (c : Rule) (box : Box) → refuted_as clause (lefts box c.args) ≡ list_all (surely_fails box) (literals (args_at c.args 0) (args_at c.args 1))
all_fail c box =
    ap (λ z. z && list_all (is_only (pos 1)) (lefts_at (lefts box c.args) 1)) (all_at (pos 0) c box 0)
    ∙ (ap (λ z. list_all (λ y. is_only (pos 0) (left_to box y)) (args_at c.args 0) && z) (all_at (pos 1) c box 1)
    ∙ sym (all_literals (surely_fails box) (args_at c.args 0) (args_at c.args 1)))

some_holds : (c : Rule) (box : Box) → entailed_as clause (lefts box c.args) ≡ list_any (surely_holds box) (literals (args_at c.args 0) (args_at c.args 1))
some_holds c box =
    ap (λ z. z || list_any (is_only (pos 0)) (lefts_at (lefts box c.args) 1)) (any_at (pos 1) c box 0)
    ∙ (ap (λ z. list_any (λ y. is_only (pos 1) (left_to box y)) (args_at c.args 0) || z) (any_at (pos 0) c box 1)
    ∙ sym (any_literals (surely_holds box) (args_at c.args 0) (args_at c.args 1)))

-- both arrays have truth values, few of them
both_few : (g : Game) (c : Rule) (kinds : List ArgKind) → are_of_sorts g.variables kinds c.args ≡ true → slice_get kinds 0 ≡ Some booleans → slice_get kinds 1 ≡ Some booleans → length (args_at c.args 0) + length (args_at c.args 1) ≤ 2000
both_few g c kinds s p q =
    omega (arith, few_of g.variables (args_at c.args 0) (items_boolean g.variables kinds c.args 0 s p), few_of g.variables (args_at c.args 1) (items_boolean g.variables kinds c.args 1 s q))

array_boolean : (g : Game) (c : Rule) (kinds : List ArgKind) (k : ℕ) → are_of_sorts g.variables kinds c.args ≡ true → slice_get kinds k ≡ Some booleans → list_all (is_boolean g.variables) (args_at c.args k) ≡ true
array_boolean g c kinds k s p = booleans_of g.variables (args_at c.args k) (items_boolean g.variables kinds c.args k s p)

abbrev clause_kinds : List ArgKind
clause_kinds = booleans ∷ booleans ∷ []

abbrev told_kinds : List ArgKind
told_kinds = booleans ∷ booleans ∷ boolean ∷ []

pub clause_few : (g : Game) (c : Rule) (box : Box) → IsAsked g c box → meaning_of c.pred ≡ clause → length (args_at c.args 0) + length (args_at c.args 1) ≤ 2000
clause_few g c box a e = both_few g c clause_kinds (of_kinds g c box clause clause_kinds a e (λ k. k)) refl refl

pub clause_says : (g : Game) (c : Rule) (box : Box) → IsAsked g c box → meaning_of c.pred ≡ clause → IsDisjunction g c (literals (args_at c.args 0) (args_at c.args 1)) (plain (Num (pos 1)))
clause_says g c box a e =
    let s = of_kinds g c box clause clause_kinds a e (λ k. k) in
    record {
      truths = λ other b. literals_truths g c other b (args_at c.args 0) (args_at c.args 1) (array_boolean g c clause_kinds 0 s refl) (array_boolean g c clause_kinds 1 s refl);
      refuted = λ other b. ap (λ m. refuted_as m (lefts other c.args)) e ∙ all_fail c other;
    }

-- the last argument says whether the clause holds
pub told_few : (g : Game) (c : Rule) (box : Box) → IsAsked g c box → meaning_of c.pred ≡ reified clause → length (args_at c.args 0) + length (args_at c.args 1) ≤ 2000
told_few g c box a e = both_few g c told_kinds (of_kinds g c box (reified clause) told_kinds a e (λ k. k)) refl refl

last_third : (xs : List Variable) (args : List Argument) → are_of_sorts xs told_kinds args ≡ true → last_arg args ≡ arg_at args 2
last_third xs [] h = cc
last_third xs (a ∷ []) h = let e = second (is_of_sort xs booleans a) false h in cc
last_third xs (a ∷ b ∷ []) h =
    let e = second (is_of_sort xs booleans b) false (second (is_of_sort xs booleans a) (is_of_sort xs booleans b && false) h) in cc
last_third xs (a ∷ b ∷ d ∷ []) h = refl
last_third xs (a ∷ b ∷ d ∷ z ∷ args) h =
    let m = is_of_sort xs boolean d && false in
    let e = second (is_of_sort xs boolean d) false (second (is_of_sort xs booleans b) m (second (is_of_sort xs booleans a) (is_of_sort xs booleans b && m) h)) in cc

pub told_says : (g : Game) (c : Rule) (box : Box) → IsAsked g c box → meaning_of c.pred ≡ reified clause → IsDisjunction g c (literals (args_at c.args 0) (args_at c.args 1)) (plain (last_arg c.args))
told_says g c box a e =
    let s = of_kinds g c box (reified clause) told_kinds a e (λ k. k) in
    let r = last_arg c.args in
    let ls = literals (args_at c.args 0) (args_at c.args 1) in
    let truth = ap (is_boolean g.variables) (last_third g.variables c.args s) ∙ one_boolean g.variables told_kinds c.args 2 s refl in
    record {
      truths = λ other b. heads_truths g c other (plain r) (args_at c.args 0) (args_at c.args 1) b truth (array_boolean g c told_kinds 0 s refl) (array_boolean g c told_kinds 1 s refl);
      refuted = λ other b.
          let all = list_all (surely_fails other) ls in
          let some = list_any (surely_holds other) ls in
          let d = left_to other r in
          ap (λ m. refuted_as m (lefts other c.args)) e
          ∙ (ap (λ z. (not (has_value z (pos 1)) || refuted_as clause (lefts other c.args)) && (not (has_value z (pos 0)) || entailed_as clause (lefts other c.args))) (last_written other c.args)
          ∙ (ap (λ z. (not (has_value d (pos 1)) || z) && (not (has_value d (pos 0)) || entailed_as clause (lefts other c.args))) (all_fail c other)
          ∙ (ap (λ z. (not (has_value d (pos 1)) || all) && (not (has_value d (pos 0)) || z)) (some_holds c other)
          ∙ said some all d (excluded other ls some all refl refl) (truth_of g c other b r truth))));
    }
