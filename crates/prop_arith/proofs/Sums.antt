-- The sum of two integers as a sum with factors.
use Rattle.std.proofs.Common.{◌≡◌, Bool, true, false, ◌&&◌, ◌||◌, List, [], ◌∷◌, refl, sym, ap, ◌∙◌, subst, arith, ℤ}
use Rattle.std.specs.Prelude.{pos, negsuc, ◌+ℤ◌, ◌-ℤ◌, ◌*ℤ◌, ◌≤ℤ◌, int_lt}
use Rattle.std.specs.Int.{int_min, int_max}
use Rattle.std.specs.List.{list_all}
use Rattle.std.proofs.Math.IntN.{*ℤ_comm, *ℤ-one}
use Rattle.std.proofs.lemmas.Int.{ints, clamps}
use Rattle.qc_model.specs.declared.problem.Arg.{Arg}
use Rattle.qc_model.specs.declared.problem.Argument.{Argument}
use Rattle.qc_model.specs.declared.problem.Pred.TheVariants.{IntPlus}
use Rattle.qc_model.specs.declared.problem.Variable.{Variable}
use Rattle.qc_model.specs.Content.{Game, Rule}
use Rattle.qc_model.specs.Domains.{Values, Box, least_value, greatest_value}
use Rattle.qc_model.specs.Left.{range_at, span, sum_range}
use Rattle.qc_model.specs.Meaning.{meaning_of}
use Rattle.qc_model.specs.Ranges.{range_sum, ranges_miss}
use Rattle.qc_model.specs.Refuted.{left_to, refuted_as}
use Rattle.qc_model.specs.Signature.{arg_kinds_of}
use Rattle.qc_model.specs.Valid.{is_domain, are_of_sorts, have_lengths, arg_sees, argument_sees, is_constraint}
use Rattle.qc_model.proofs.Readable.{second}
use Rattle.model_arguments.specs.Asked.{IsAsked}
use Rattle.model_arguments.specs.Written.{arg_at}
use Rattle.model_arguments.proofs.Written.{left_written}
use Rattle.model_arguments.proofs.Kept.{ordered}
use Rattle.qc_refuter.specs.Met.{lefts, is_open, are_met}
use Rattle.qc_refuter.proofs.Ready.{rule_met}
use Rattle.prop_base.specs.Closed.{keeps_arg, keeps_argument}
use Rattle.prop_base.proofs.Keeps.{keeps_all}
use Rattle.prop_arith.proofs.Three.{AreThree, three_shape}
use Rattle.prop_linear.specs.Sides.{IsBalanced}
use Rattle.prop_linear.specs.Tightening.{AreOwn, term_of}
use Rattle.prop_linear.proofs.Sides.{opposite_times}
use Rattle.prop_linear.proofs.Spread.{low_of, high_of}

plus_shape : (xs : List Variable) (c : Rule) → is_constraint xs c ≡ true → c.pred ≡ IntPlus → AreThree c.args
plus_shape xs c h e = three_shape xs c IntPlus h e refl

-- the three in a row
abbrev pub three : List Argument → List Arg
three args = arg_at args 0 ∷ arg_at args 1 ∷ arg_at args 2 ∷ []

pub plus_sees : (xs : List Variable) (c : Rule) → is_constraint xs c ≡ true → c.pred ≡ IntPlus → list_all (arg_sees xs c.owner.0) (three c.args) ≡ true
plus_sees xs c h e =
    let s = plus_shape xs c h e in
    let P : List Argument → Type 0 = λ args. list_all (argument_sees xs c.owner.0) args ≡ true → list_all (arg_sees xs c.owner.0) (three args) ≡ true in
    subst P (sym s.is) (λ k. k) (second (are_of_sorts xs (arg_kinds_of c.pred) c.args && have_lengths (meaning_of c.pred) c.args) (list_all (argument_sees xs c.owner.0) c.args) h)

pub plus_open : (g : Game) (c : Rule) (box : Box) → list_all (λ x. is_domain x.domain) g.variables ≡ true → IsAsked g c box → c.pred ≡ IntPlus → list_all (is_open box) (three c.args) ≡ true
plus_open g c box d a e =
    let s = plus_shape g.variables c a.rule e in
    let P : List Argument → Type 0 = λ args. are_met box args ≡ true → list_all (is_open box) (three args) ≡ true in
    subst P (sym s.is) (λ k. k) (rule_met g box d a.declared a.full c a.rule)

plus_own : (xs : List Variable) (c : Rule) → is_constraint xs c ≡ true → c.pred ≡ IntPlus → (start : Box) → AreOwn c start (three c.args)
plus_own xs c h e start = λ box _ _ k.
    let s = plus_shape xs c h e in
    let P : List Argument → Type 0 = λ args. list_all (keeps_arg c box) (three args) ≡ true → list_all (keeps_argument c box) args ≡ true in
    keeps_all c box (subst P (sym s.is) (λ m. m) k)

-- the ends of what is left are in order
in_order : (d : Values) → least_value d ≤ℤ greatest_value d
in_order [] = omega (arith, ints)
in_order (v ∷ d) = ordered (v ∷ d) refl

-- a factor of 1, and of -1
one_times : (v : ℤ) → pos 1 *ℤ v ≡ v
unfolding lib.IntN.one
one_times v = *ℤ_comm (pos 1) v ∙ *ℤ-one v

less_times : (v : ℤ) → negsuc 0 *ℤ v ≡ pos 0 -ℤ v
less_times v = opposite_times (pos 1) v ∙ ap (λ z. pos 0 -ℤ z) (one_times v)

one_low : (d : Values) → (term_of (pos 1) d).from ≡ least_value d
one_low d = by (pos 1 *ℤ least_value d) (pos 1 *ℤ greatest_value d) (least_value d) (greatest_value d) (term_of (pos 1) d).from (one_times (least_value d)) (one_times (greatest_value d)) (in_order d) (low_of (pos 1) (least_value d) (greatest_value d))
  where
    by : (p q l g f : ℤ) → p ≡ l → q ≡ g → l ≤ℤ g → f ≡ int_min p q → f ≡ l
    by p q l g f h k o e = omega (arith, ints, clamps, h, k, o, e)

one_high : (d : Values) → (term_of (pos 1) d).to ≡ greatest_value d
one_high d = by (pos 1 *ℤ least_value d) (pos 1 *ℤ greatest_value d) (least_value d) (greatest_value d) (term_of (pos 1) d).to (one_times (least_value d)) (one_times (greatest_value d)) (in_order d) (high_of (pos 1) (least_value d) (greatest_value d))
  where
    by : (p q l g t : ℤ) → p ≡ l → q ≡ g → l ≤ℤ g → t ≡ int_max p q → t ≡ g
    by p q l g t h k o e = omega (arith, ints, clamps, h, k, o, e)

less_low : (d : Values) → (term_of (negsuc 0) d).from ≡ pos 0 -ℤ greatest_value d
less_low d = by (negsuc 0 *ℤ least_value d) (negsuc 0 *ℤ greatest_value d) (least_value d) (greatest_value d) (term_of (negsuc 0) d).from (less_times (least_value d)) (less_times (greatest_value d)) (in_order d) (low_of (negsuc 0) (least_value d) (greatest_value d))
  where
    by : (p q l g f : ℤ) → p ≡ pos 0 -ℤ l → q ≡ pos 0 -ℤ g → l ≤ℤ g → f ≡ int_min p q → f ≡ pos 0 -ℤ g
    by p q l g f h k o e = omega (arith, ints, clamps, h, k, o, e)

less_high : (d : Values) → (term_of (negsuc 0) d).to ≡ pos 0 -ℤ least_value d
less_high d = by (negsuc 0 *ℤ least_value d) (negsuc 0 *ℤ greatest_value d) (least_value d) (greatest_value d) (term_of (negsuc 0) d).to (less_times (least_value d)) (less_times (greatest_value d)) (in_order d) (high_of (negsuc 0) (least_value d) (greatest_value d))
  where
    by : (p q l g t : ℤ) → p ≡ pos 0 -ℤ l → q ≡ pos 0 -ℤ g → l ≤ℤ g → t ≡ int_max p q → t ≡ pos 0 -ℤ l
    by p q l g t h k o e = omega (arith, ints, clamps, h, k, o, e)

shift_over : (p c w : ℤ) → w ≡ p -ℤ c → int_lt p c ≡ int_lt w (pos 0)
shift_over p c w h = by (int_lt p c) (int_lt w (pos 0)) refl refl
  where
    by : (a b : Bool) → int_lt p c ≡ a → int_lt w (pos 0) ≡ b → a ≡ b
    by true true e f = refl
    by true false e f = grind (arith, ints)
    by false true e f = grind (arith, ints)
    by false false e f = refl

shift_under : (p c w : ℤ) → w ≡ p -ℤ c → int_lt c p ≡ int_lt (pos 0) w
shift_under p c w h = by (int_lt c p) (int_lt (pos 0) w) refl refl
  where
    by : (a b : Bool) → int_lt c p ≡ a → int_lt (pos 0) w ≡ b → a ≡ b
    by true true e f = refl
    by true false e f = grind (arith, ints)
    by false true e f = grind (arith, ints)
    by false false e f = refl

shifted : (a b c x y z : ℤ) → x ≡ a → y ≡ b → z ≡ pos 0 -ℤ c → x +ℤ (y +ℤ (z +ℤ pos 0)) ≡ (a +ℤ b) -ℤ c
shifted a b c x y z h k l = omega (arith, ints, h, k, l)

same_over : (a b c x y z : ℤ) → x ≡ a → y ≡ b → z ≡ pos 0 -ℤ c → int_lt (a +ℤ b) c ≡ int_lt (x +ℤ (y +ℤ (z +ℤ pos 0))) (pos 0)
same_over a b c x y z h k l = shift_over (a +ℤ b) c (x +ℤ (y +ℤ (z +ℤ pos 0))) (shifted a b c x y z h k l)

same_under : (a b c x y z : ℤ) → x ≡ a → y ≡ b → z ≡ pos 0 -ℤ c → int_lt c (a +ℤ b) ≡ int_lt (pos 0) (x +ℤ (y +ℤ (z +ℤ pos 0)))
same_under a b c x y z h k l = shift_under (a +ℤ b) c (x +ℤ (y +ℤ (z +ℤ pos 0))) (shifted a b c x y z h k l)

or_both : (a b c d : Bool) → a ≡ c → b ≡ d → (a || b) ≡ (c || d)
or_both a b c d h k = ap (λ z. z || b) h ∙ ap (λ z. c || z) k

-- the factors
abbrev pub signs : List ℤ
signs = pos 1 ∷ pos 1 ∷ negsuc 0 ∷ []

plus_misses : (d e f : Values) → ranges_miss (range_sum (span d) (span e)) (span f) ≡ (int_lt (sum_range signs (d ∷ e ∷ f ∷ [])).to (pos 0) || int_lt (pos 0) (sum_range signs (d ∷ e ∷ f ∷ [])).from)
plus_misses d e f =
    or_both (int_lt (greatest_value d +ℤ greatest_value e) (least_value f)) (int_lt (greatest_value f) (least_value d +ℤ least_value e)) (int_lt (sum_range signs (d ∷ e ∷ f ∷ [])).to (pos 0)) (int_lt (pos 0) (sum_range signs (d ∷ e ∷ f ∷ [])).from)
    (same_over (greatest_value d) (greatest_value e) (least_value f) (term_of (pos 1) d).to (term_of (pos 1) e).to (term_of (negsuc 0) f).to (one_high d) (one_high e) (less_high f))
    (same_under (least_value d) (least_value e) (greatest_value f) (term_of (pos 1) d).from (term_of (pos 1) e).from (term_of (negsuc 0) f).from (one_low d) (one_low e) (less_low f))

pub plus_balanced : (xs : List Variable) (c : Rule) → is_constraint xs c ≡ true → c.pred ≡ IntPlus → (start : Box) → IsBalanced c start signs (three c.args) (pos 0)
plus_balanced xs c h e start = record {
  refuted = λ box _.
      let l = lefts box c.args in
      let d = left_to box (arg_at c.args 0) in
      let f = left_to box (arg_at c.args 1) in
      let k = left_to box (arg_at c.args 2) in
      ap (λ p. refuted_as (meaning_of p) l) e
      ∙ (ap (λ v. ranges_miss (range_sum (span v) (range_at l 1)) (range_at l 2)) (left_written box c.args 0)
      ∙ (ap (λ v. ranges_miss (range_sum (span d) (span v)) (range_at l 2)) (left_written box c.args 1)
      ∙ (ap (λ v. ranges_miss (range_sum (span d) (span f)) (span v)) (left_written box c.args 2) ∙ plus_misses d f k)));
  own = plus_own xs c h e start;
}

pub row : (a b c d e f : Arg) → a ≡ d → b ≡ e → c ≡ f → (a ∷ b ∷ c ∷ []) ≡ (d ∷ e ∷ f ∷ [])
row a b c d e f h k l = ap (λ z. z ∷ b ∷ c ∷ []) h ∙ (ap (λ z. d ∷ z ∷ c ∷ []) k ∙ ap (λ z. d ∷ e ∷ z ∷ []) l)
