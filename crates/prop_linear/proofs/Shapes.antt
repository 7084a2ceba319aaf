-- The arguments of a linear constraint.
use Rattle.std.proofs.Common.{◌≡◌, ℕ, ◌==◌, ◌≤◌, Bool, true, false, ◌&&◌, ◌||◌, List, [], ◌∷◌, length, map, refl, sym, ap, ◌∙◌, subst, ℤ}
use Rattle.std.specs.Prelude.{nat_le, slice_get, int_lt, int_le, pos, ◌-ℤ◌}
use Rattle.std.specs.List.{list_all}
use Rattle.std.proofs.lemmas.Int.{ints}
use Rattle.std.proofs.lemmas.Bool.{leb-true}
use Rattle.std.proofs.lemmas.Bool.Decides.{nat_tests}
use Rattle.std.proofs.Common.{arith}
use Rattle.qc_model.specs.declared.problem.Arg.{Arg}
use Rattle.qc_model.specs.declared.problem.Arg.TheVariants.{Num}
use Rattle.qc_model.specs.declared.problem.Argument.{Argument}
use Rattle.qc_model.specs.declared.problem.Argument.TheVariants.{One, Many, Numbers, Members}
use Rattle.qc_model.specs.declared.problem.Pred.{Pred}
use Rattle.qc_model.specs.declared.problem.Variable.{Variable}
use Rattle.qc_model.specs.declared.signature.ArgKind.{ArgKind}
use Rattle.qc_model.specs.declared.signature.ArgKind.TheVariants.{Integer as integer, Boolean as boolean, Integers as integers, Numbers as numbers}
use Rattle.qc_model.specs.Content.{Game, Rule}
use Rattle.qc_model.specs.Domains.{Box, least_value, greatest_value}
use Rattle.qc_model.specs.Left.{left_at, lefts_at, span, sum_at, sum_range}
use Rattle.qc_model.specs.Ranges.{Range, point, is_point, ranges_miss}
use Rattle.qc_model.specs.Entailed.{entailed_as}
use Rattle.qc_model.specs.Meaning.{meaning_of, sum_at_most, sum_equal, sum_different}
use Rattle.qc_model.specs.Refuted.{left_to, refuted_as}
use Rattle.qc_model.specs.Signature.{arg_kinds_of}
use Rattle.qc_model.specs.Valid.{is_number, is_domain, is_integer, are_of_sorts, have_lengths, is_sum, is_literal, arg_sees, argument_sees, is_constraint}
use Rattle.qc_model.proofs.Readable.{first, second}
use Rattle.model_arguments.specs.Asked.{IsAsked}
use Rattle.model_arguments.specs.Written.{arg_at, args_at, ints_at}
use Rattle.model_arguments.proofs.Written.{left_written, lefts_written, numbers_written}
use Rattle.qc_refuter.specs.Met.{lefts, is_open, is_met, are_met}
use Rattle.qc_refuter.proofs.Ready.{rule_met}
use Rattle.prop_base.specs.Closed.{keeps_arg, keeps_argument}
use Rattle.prop_base.proofs.Keeps.{keeps_all}
use Rattle.prop_linear.specs.declared.relation.Relation.{Relation}
use Rattle.prop_linear.specs.declared.relation.Relation.TheVariants.{AtMost, Equal, Different}
use Rattle.prop_linear.specs.Tightening.{AreOwn, least_sum}
use Rattle.prop_linear.specs.Sides.{greatest_sum, opposite, signed}
use Rattle.prop_linear.specs.Relations.{sum_pred, told_pred}
use Rattle.prop_linear.specs.Demands.{demand_of, IsDemanded}
use Rattle.prop_linear.proofs.Sides.{sum_opposite}

-- numbers, an array, one argument, and what else there is
pub record IsSumOf (xs : List Variable) (kinds : List ArgKind) (args : List Argument) : Type 0 where
  pub ns : List ℤ
  pub items : List Arg
  pub last : Arg
  pub rest : List Argument
  pub is : args ≡ Numbers ns ∷ Many items ∷ One last ∷ rest
  pub small : list_all is_number ns ≡ true
  pub few : length items ≤ 1000
  pub whole : list_all (is_integer xs) items ≡ true
  pub number : is_integer xs last ≡ true
  pub sorts : are_of_sorts xs kinds rest ≡ true

third : (xs : List Variable) (kinds : List ArgKind) (ns : List ℤ) (items : List Arg) → list_all is_number ns ≡ true → length items ≤ 1000 → list_all (is_integer xs) items ≡ true → (args : List Argument) → are_of_sorts xs (integer ∷ kinds) args ≡ true → IsSumOf xs kinds (Numbers ns ∷ Many items ∷ args)
third xs kinds ns items s f w [] h = cc
third xs kinds ns items s f w (One a ∷ args) h = record {
  ns = ns;
  items = items;
  last = a;
  rest = args;
  is = refl;
  small = s;
  few = f;
  whole = w;
  number = first (is_integer xs a) (are_of_sorts xs kinds args) h;
  sorts = second (is_integer xs a) (are_of_sorts xs kinds args) h;
}
third xs kinds ns items s f w (Many m ∷ args) h = cc
third xs kinds ns items s f w (Numbers m ∷ args) h = cc
third xs kinds ns items s f w (Members m ∷ args) h = cc

next : (xs : List Variable) (kinds : List ArgKind) (ns : List ℤ) → list_all is_number ns ≡ true → (args : List Argument) → are_of_sorts xs (integers ∷ integer ∷ kinds) args ≡ true → IsSumOf xs kinds (Numbers ns ∷ args)
next xs kinds ns s [] h = cc
next xs kinds ns s (One a ∷ args) h = cc
next xs kinds ns s (Many items ∷ args) h =
    let p = first (nat_le (length items) 1000 && list_all (is_integer xs) items) (are_of_sorts xs (integer ∷ kinds) args) h in
    third xs kinds ns items s (leb-true (length items) 1000 (first (nat_le (length items) 1000) (list_all (is_integer xs) items) p)) (second (nat_le (length items) 1000) (list_all (is_integer xs) items) p) args
    (second (nat_le (length items) 1000 && list_all (is_integer xs) items) (are_of_sorts xs (integer ∷ kinds) args) h)
next xs kinds ns s (Numbers m ∷ args) h = cc
next xs kinds ns s (Members m ∷ args) h = cc

shape : (xs : List Variable) (kinds : List ArgKind) (args : List Argument) → are_of_sorts xs (numbers ∷ integers ∷ integer ∷ kinds) args ≡ true → IsSumOf xs kinds args
shape xs kinds [] h = cc
shape xs kinds (One a ∷ args) h = cc
shape xs kinds (Many items ∷ args) h = cc
shape xs kinds (Numbers ns ∷ args) h =
    let p = first (nat_le (length ns) 100000 && list_all is_number ns) (are_of_sorts xs (integers ∷ integer ∷ kinds) args) h in
    next xs kinds ns (second (nat_le (length ns) 100000) (list_all is_number ns) p) args (second (nat_le (length ns) 100000 && list_all is_number ns) (are_of_sorts xs (integers ∷ integer ∷ kinds) args) h)
shape xs kinds (Members m ∷ args) h = cc

-- a predicate over numbers, an array and a literal, and maybe more, as many numbers as items
pub record IsLinear (p : Pred) : Type 0 where
  pub more : List ArgKind
  pub kinds : arg_kinds_of p ≡ numbers ∷ integers ∷ integer ∷ more
  pub lengths : (args : List Argument) → have_lengths (meaning_of p) args ≡ is_sum args

pub linear_pred : (r : Relation) → IsLinear (sum_pred r)
linear_pred AtMost = record { more = []; kinds = refl; lengths = λ args. refl }
linear_pred Equal = record { more = []; kinds = refl; lengths = λ args. refl }
linear_pred Different = record { more = []; kinds = refl; lengths = λ args. refl }

pub linear_of : (p : Pred) (r : Relation) → p ≡ sum_pred r → IsLinear p
linear_of p r e = subst IsLinear (sym e) (linear_pred r)

told_linear_pred : (r : Relation) → IsLinear (told_pred r)
told_linear_pred AtMost = record { more = boolean ∷ []; kinds = refl; lengths = λ args. refl }
told_linear_pred Equal = record { more = boolean ∷ []; kinds = refl; lengths = λ args. refl }
told_linear_pred Different = record { more = boolean ∷ []; kinds = refl; lengths = λ args. refl }

pub told_linear : (p : Pred) (r : Relation) → p ≡ told_pred r → IsLinear p
told_linear p r e = subst IsLinear (sym e) (told_linear_pred r)

pub shape_by : (xs : List Variable) (c : Rule) (kinds : List ArgKind) → is_constraint xs c ≡ true → arg_kinds_of c.pred ≡ numbers ∷ integers ∷ integer ∷ kinds → IsSumOf xs kinds c.args
shape_by xs c kinds h e =
    let sorted = are_of_sorts xs (arg_kinds_of c.pred) c.args in
    let lengths = have_lengths (meaning_of c.pred) c.args in
    shape xs kinds c.args (ap (λ ks. are_of_sorts xs ks c.args) (sym e) ∙ first sorted lengths (first (sorted && lengths) (list_all (argument_sees xs c.owner.0) c.args) h))

sum_shape : (xs : List Variable) (c : Rule) → is_constraint xs c ≡ true → (e : IsLinear c.pred) → IsSumOf xs e.more c.args
sum_shape xs c h e = shape_by xs c e.more h e.kinds

pub sum_numbers : (xs : List Variable) (c : Rule) → is_constraint xs c ≡ true → IsLinear c.pred → list_all is_number (ints_at c.args 0) ≡ true
sum_numbers xs c h e = let s = sum_shape xs c h e in ap (λ args. list_all is_number (ints_at args 0)) s.is ∙ s.small

pub sum_few : (xs : List Variable) (c : Rule) → is_constraint xs c ≡ true → IsLinear c.pred → length (args_at c.args 1) ≤ 1000
sum_few xs c h e = let s = sum_shape xs c h e in subst (λ args. length (args_at args 1) ≤ 1000) (sym s.is) s.few

pub sum_paired : (xs : List Variable) (c : Rule) → is_constraint xs c ≡ true → IsLinear c.pred → length (ints_at c.args 0) ≡ length (args_at c.args 1)
sum_paired xs c h e =
    let s = sum_shape xs c h e in
    let sorted = are_of_sorts xs (arg_kinds_of c.pred) c.args in
    let lengths = have_lengths (meaning_of c.pred) c.args in
    let l = sym (e.lengths c.args) ∙ second sorted lengths (first (sorted && lengths) (list_all (argument_sees xs c.owner.0) c.args) h) in
    let m = ap is_sum (sym s.is) ∙ l in
    let same = first (length s.ns == length s.items) (is_literal (slice_get (Numbers s.ns ∷ Many s.items ∷ One s.last ∷ s.rest) 2)) m in
    ap (λ args. length (ints_at args 0)) s.is ∙ (equal (length s.ns) (length s.items) same ∙ sym (ap (λ args. length (args_at args 1)) s.is))
  where
    equal : (a b : ℕ) → (a == b) ≡ true → a ≡ b
    equal a b h = grind (arith, nat_tests)

pub sum_sees : (xs : List Variable) (c : Rule) → is_constraint xs c ≡ true → IsLinear c.pred → list_all (arg_sees xs c.owner.0) (args_at c.args 1) ≡ true
sum_sees xs c h e =
    let s = sum_shape xs c h e in
    let sorted = are_of_sorts xs (arg_kinds_of c.pred) c.args in
    let lengths = have_lengths (meaning_of c.pred) c.args in
    let t = second (sorted && lengths) (list_all (argument_sees xs c.owner.0) c.args) h in
    let u = ap (list_all (argument_sees xs c.owner.0)) (sym s.is) ∙ t in
    ap (λ args. list_all (arg_sees xs c.owner.0) (args_at args 1)) s.is ∙ first (list_all (arg_sees xs c.owner.0) s.items) (argument_sees xs c.owner.0 (One s.last) && list_all (argument_sees xs c.owner.0) s.rest) u

pub sum_open : (g : Game) (c : Rule) (box : Box) → list_all (λ x. is_domain x.domain) g.variables ≡ true → IsAsked g c box → IsLinear c.pred → list_all (is_open box) (args_at c.args 1) ≡ true
sum_open g c box d a e =
    let s = sum_shape g.variables c a.rule e in
    let u = ap (are_met box) (sym s.is) ∙ rule_met g box d a.declared a.full c a.rule in
    let v = second (list_all is_number s.ns) (is_met box (Many s.items) && (is_met box (One s.last) && are_met box s.rest)) u in
    let w = first (is_met box (Many s.items)) (is_met box (One s.last) && are_met box s.rest) v in
    ap (λ args. list_all (is_open box) (args_at args 1)) s.is ∙ second (nat_le (length s.items) 1000) (list_all (is_open box) s.items) w

-- what stands in a sum's place for its number is one
pub sum_literal : (xs : List Variable) (c : Rule) (n : ℤ) → is_constraint xs c ≡ true → IsLinear c.pred → arg_at c.args 2 ≡ Num n → is_number n ≡ true
sum_literal xs c n h e l =
    let s = sum_shape xs c h e in
    ap (is_integer xs) (sym l ∙ ap (λ args. arg_at args 2) s.is) ∙ s.number

-- the range of the sum as it is filled in
range_filled : (c : Rule) (box : Box) → sum_at (lefts box c.args) ≡ sum_range (ints_at c.args 0) (map (left_to box) (args_at c.args 1))
range_filled c box =
    ap (λ ns. sum_range ns (lefts_at (lefts box c.args) 1)) (numbers_written box c.args 0) ∙ ap (sum_range (ints_at c.args 0)) (lefts_written box c.args 1)

last_filled : (c : Rule) (box : Box) (n : ℤ) → arg_at c.args 2 ≡ Num n → left_at (lefts box c.args) 2 ≡ n ∷ []
last_filled c box n l = left_written box c.args 2 ∙ ap (left_to box) l

-- what refutes a sum beside a number
pub above_filled : (c : Rule) (box : Box) (n : ℤ) → arg_at c.args 2 ≡ Num n → refuted_as sum_at_most (lefts box c.args) ≡ int_lt n (least_sum (ints_at c.args 0) (args_at c.args 1) box)
above_filled c box n l =
    ap (λ d. int_lt (greatest_value d) (sum_at (lefts box c.args)).from) (last_filled c box n l)
    ∙ ap (λ (r : Range). int_lt n r.from) (range_filled c box)

pub covered_filled : (c : Rule) (box : Box) (n : ℤ) → arg_at c.args 2 ≡ Num n → entailed_as sum_at_most (lefts box c.args) ≡ int_le (greatest_sum (ints_at c.args 0) (args_at c.args 1) box) n
covered_filled c box n l =
    ap (λ d. int_le (sum_at (lefts box c.args)).to (least_value d)) (last_filled c box n l)
    ∙ ap (λ (r : Range). int_le r.to n) (range_filled c box)

pub upto_filled : (c : Rule) (box : Box) (n : ℤ) → arg_at c.args 2 ≡ Num n → entailed_as sum_at_most (lefts box c.args) ≡ int_lt (opposite n -ℤ pos 1) (least_sum (signed true (ints_at c.args 0)) (args_at c.args 1) box)
upto_filled c box n l =
    let ns = ints_at c.args 0 in
    let xs = args_at c.args 1 in
    covered_filled c box n l ∙ same_side (greatest_sum ns xs box) n (least_sum (signed true ns) xs box) (sum_opposite ns xs box)
  where
    same_side : (g n m : ℤ) → m ≡ pos 0 -ℤ g → int_le g n ≡ int_lt ((pos 0 -ℤ n) -ℤ pos 1) m
    same_side g n m h = by (int_le g n) (int_lt ((pos 0 -ℤ n) -ℤ pos 1) m) refl refl
      where
        by : (a b : Bool) → int_le g n ≡ a → int_lt ((pos 0 -ℤ n) -ℤ pos 1) m ≡ b → a ≡ b
        by true true e f = refl
        by true false e f = grind (arith, ints)
        by false true e f = grind (arith, ints)
        by false false e f = refl

pub missed_filled : (c : Rule) (box : Box) (n : ℤ) → arg_at c.args 2 ≡ Num n → refuted_as sum_equal (lefts box c.args) ≡ (int_lt (greatest_sum (ints_at c.args 0) (args_at c.args 1) box) n || int_lt n (least_sum (ints_at c.args 0) (args_at c.args 1) box))
missed_filled c box n l =
    ap (λ d. ranges_miss (sum_at (lefts box c.args)) (span d)) (last_filled c box n l)
    ∙ ap (λ r. ranges_miss r (point n)) (range_filled c box)

pub only_filled : (c : Rule) (box : Box) (n : ℤ) → arg_at c.args 2 ≡ Num n → refuted_as sum_different (lefts box c.args) ≡ is_point n (sum_range (ints_at c.args 0) (map (left_to box) (args_at c.args 1)))
only_filled c box n l =
    ap (λ d. is_point (least_value d) (sum_at (lefts box c.args))) (last_filled c box n l)
    ∙ ap (is_point n) (range_filled c box)

-- the constraint's own variables are those of the array
own_items : (xs : List Variable) (c : Rule) (start : Box) (n : ℤ) (r : Relation) → is_constraint xs c ≡ true → c.pred ≡ sum_pred r → arg_at c.args 2 ≡ Num n → AreOwn c start (args_at c.args 1)
own_items xs c start n r h e l =
    let s = shape_by xs c [] h (ap arg_kinds_of e ∙ plain_kinds r) in
    let is : c.args ≡ Numbers s.ns ∷ Many s.items ∷ One s.last ∷ [] = s.is ∙ ap (λ rest. Numbers s.ns ∷ Many s.items ∷ One s.last ∷ rest) (none xs s.rest s.sorts) in
    λ box _ _ k.
    keeps_all c box
    (ap (list_all (keeps_argument c box)) is
    ∙ (ap (λ b. b && (keeps_arg c box s.last && true)) (ap (λ args. list_all (keeps_arg c box) (args_at args 1)) (sym is) ∙ k)
    ∙ ap (λ a. keeps_arg c box a && true) (ap (λ args. arg_at args 2) (sym is) ∙ l)))
  where
    plain_kinds : (r : Relation) → arg_kinds_of (sum_pred r) ≡ numbers ∷ integers ∷ integer ∷ []
    plain_kinds AtMost = refl
    plain_kinds Equal = refl
    plain_kinds Different = refl

    none : (xs : List Variable) (args : List Argument) → are_of_sorts xs [] args ≡ true → args ≡ []
    none xs [] h = refl
    none xs (a ∷ args) h = cc

-- what a plain sum is to be
pub sum_demanded : (xs : List Variable) (c : Rule) (start : Box) (n : ℤ) (r : Relation) → is_constraint xs c ≡ true → c.pred ≡ sum_pred r → arg_at c.args 2 ≡ Num n → IsDemanded (demand_of r true) c start (ints_at c.args 0) (args_at c.args 1) n
sum_demanded xs c start n AtMost h e l = record {
  refuted = λ box _. ap (λ p. refuted_as (meaning_of p) (lefts box c.args)) e ∙ above_filled c box n l;
  own = own_items xs c start n AtMost h e l;
}
sum_demanded xs c start n Equal h e l = record {
  refuted = λ box _. ap (λ p. refuted_as (meaning_of p) (lefts box c.args)) e ∙ missed_filled c box n l;
  own = own_items xs c start n Equal h e l;
}
sum_demanded xs c start n Different h e l = record {
  refuted = λ box _. ap (λ p. refuted_as (meaning_of p) (lefts box c.args)) e ∙ only_filled c box n l;
  own = own_items xs c start n Different h e l;
}
