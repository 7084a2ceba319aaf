-- Sums that a last argument tells of, once that has one value: it says what they are to be.
use Rattle.std.proofs.Common.{◌≡◌, inl, inr, ℕ, zero, suc, ◌==◌, Bool, true, false, not, ◌&&◌, ◌||◌, cond, List, [], ◌∷◌, Option, Some, None, set, refl, sym, ap, ◌∙◌, subst, arith, ℤ}
use Rattle.std.specs.Prelude.{pos, slice_get}
use Rattle.std.specs.List.{list_all, list_any}
use Rattle.std.proofs.lemmas.Bool.Decides.{nat_tests}
use Rattle.std.proofs.lemmas.Bool.{not_from_false, false_from_ne_true, and_from}
use Rattle.qc_model.specs.declared.problem.Arg.{Arg}
use Rattle.qc_model.specs.declared.problem.Arg.TheVariants.{Var, Num}
use Rattle.qc_model.specs.declared.problem.Argument.{Argument}
use Rattle.qc_model.specs.declared.problem.Argument.TheVariants.{One, Many, Numbers, Members}
use Rattle.qc_model.specs.declared.problem.Variable.{Variable}
use Rattle.qc_model.specs.declared.signature.ArgKind.TheVariants.{Integer as integer, Boolean as boolean, Integers as integers, Numbers as numbers}
use Rattle.qc_model.specs.Closed.{refutes_at}
use Rattle.qc_model.specs.Content.{Rule}
use Rattle.qc_model.specs.Domains.{Box, values_left, has_value, least_value, greatest_value}
use Rattle.qc_model.specs.Entailed.{entailed_as}
use Rattle.qc_model.specs.Meaning.{Meaning, sum_at_most, sum_equal, sum_different, reified, meaning_of}
use Rattle.qc_model.specs.Refuted.{left_to, refuted_as, refuted_by}
use Rattle.qc_model.specs.Signature.{arg_kinds_of}
use Rattle.qc_model.specs.Valid.{is_bits, is_boolean, is_integer, is_integer_domain, is_variable_with, are_of_sorts, is_constraint}
use Rattle.qc_model.proofs.Readable.{first, second}
use Rattle.model_arguments.specs.Repeats.{same_variable}
use Rattle.model_arguments.specs.Written.{arg_at, args_at, ints_at, last_arg}
use Rattle.model_arguments.proofs.Written.{last_written}
use Rattle.qc_refuter.specs.Met.{lefts}
use Rattle.prop_base.specs.Closed.{keeps_arg, keeps_argument}
use Rattle.prop_base.proofs.Keeps.{keeps_all}
use Rattle.prop_compare.specs.Telling.{truth_of}
use Rattle.prop_linear.specs.declared.relation.Relation.{Relation}
use Rattle.prop_linear.specs.declared.relation.Relation.TheVariants.{AtMost, Equal, Different}
use Rattle.prop_linear.specs.Demands.{demand_of, IsDemanded, IsSaid}
use Rattle.prop_linear.specs.Relations.{told_pred}
use Rattle.prop_linear.specs.Tightening.{AlikeOutside, AreOwn}
use Rattle.prop_linear.proofs.Alike.{left_alike}
use Rattle.prop_linear.proofs.Shapes.{IsLinear, linear_of, told_linear, shape_by, sum_demanded, above_filled, upto_filled, missed_filled, only_filled}

-- a truth value beside a sum of integers
record EndsTold (xs : List Variable) (c : Rule) : Type 0 where
  ns : List ℤ
  items : List Arg
  last : Arg
  r : Arg
  is : c.args ≡ Numbers ns ∷ Many items ∷ One last ∷ One r ∷ []
  apart : list_any (same_variable r) items ≡ false

sorts_apart : (xs : List Variable) (r : Arg) (items : List Arg) → is_boolean xs r ≡ true → list_all (is_integer xs) items ≡ true → list_any (same_variable r) items ≡ false
sorts_apart xs r [] h k = refl
sorts_apart xs r (a ∷ items) h k =
    ap (λ b. b || list_any (same_variable r) items) (one r a h (first (is_integer xs a) (list_all (is_integer xs) items) k))
    ∙ sorts_apart xs r items h (second (is_integer xs a) (list_all (is_integer xs) items) k)
  where
    same : (a b : ℕ) → (a == b) ≡ true → a ≡ b
    same a b h = grind (arith, nat_tests)

    no : (o : Option Variable) → is_variable_with is_bits o ≡ true → is_variable_with is_integer_domain o ≡ true → ⊥
    no None h k = cc
    no (Some x) h k = by (is_bits x.domain) h k
      where
        by : (b : Bool) → b ≡ true → not b ≡ true → ⊥
        by true h k = cc
        by false h k = cc

    one : (r a : Arg) → is_boolean xs r ≡ true → is_integer xs a ≡ true → same_variable r a ≡ false
    one (Num n) a h k = refl
    one (Var x) (Num n) h k = refl
    one (Var x) (Var y) h k = false_from_ne_true (y.0 == x.0) (λ e. no (slice_get xs x.0) h (ap (λ i. is_variable_with is_integer_domain (slice_get xs i)) (sym (same y.0 x.0 e)) ∙ k))

told_shape : (xs : List Variable) (c : Rule) (r : Relation) → is_constraint xs c ≡ true → c.pred ≡ told_pred r → EndsTold xs c
told_shape xs c r h e =
    let s = shape_by xs c (boolean ∷ []) h (ap arg_kinds_of e ∙ told_kinds r) in
    by s.ns s.items s.last s.rest s.is s.whole s.sorts
  where
    told_kinds : (r : Relation) → arg_kinds_of (told_pred r) ≡ numbers ∷ integers ∷ integer ∷ boolean ∷ []
    told_kinds AtMost = refl
    told_kinds Equal = refl
    told_kinds Different = refl

    by : (ns : List ℤ) (items : List Arg) (last : Arg) (rest : List Argument) → c.args ≡ Numbers ns ∷ Many items ∷ One last ∷ rest → list_all (is_integer xs) items ≡ true → are_of_sorts xs (boolean ∷ []) rest ≡ true → EndsTold xs c
    by ns items last [] is w k = cc
    by ns items last (One r ∷ []) is w k = record {
      ns = ns;
      items = items;
      last = last;
      r = r;
      is = is;
      apart = sorts_apart xs r items (first (is_boolean xs r) true k) w;
    }
    by ns items last (One r ∷ a ∷ rest) is w k = let f = second (is_boolean xs r) false k in cc
    by ns items last (Many m ∷ rest) is w k = cc
    by ns items last (Numbers m ∷ rest) is w k = cc
    by ns items last (Members m ∷ rest) is w k = cc

-- the argument that tells isn't among the items
pub told_apart : (xs : List Variable) (c : Rule) (r : Relation) → is_constraint xs c ≡ true → c.pred ≡ told_pred r → list_any (same_variable (last_arg c.args)) (args_at c.args 1) ≡ false
told_apart xs c r h e =
    let s = told_shape xs c r h e in
    ap (λ args. list_any (same_variable (last_arg args)) (args_at args 1)) s.is ∙ s.apart

-- an argument that has one value keeps it, where the box isn't refuted
set_left : (box : Box) (x : ℕ) → set box x (values_left box x) ≡ box
set_left [] x = refl
set_left (d ∷ box) zero = refl
set_left (d ∷ box) (suc x) = ap (λ b. d ∷ b) (set_left box x)

keeps_fixed : (c : Rule) (box : Box) (r : Arg) (v : ℤ) → left_to box r ≡ v ∷ [] → refuted_by c box ≡ false → keeps_arg c box r ≡ true
keeps_fixed c box (Num n) v h f = refl
keeps_fixed c box (Var x) v h f =
    and_from (not (refutes_at c box x.0 (least_value (values_left box x.0)))) (not (refutes_at c box x.0 (greatest_value (values_left box x.0))))
    (not_from_false (refutes_at c box x.0 (least_value (values_left box x.0))) (at (least_value (values_left box x.0)) (ap least_value h)))
    (not_from_false (refutes_at c box x.0 (greatest_value (values_left box x.0))) (at (greatest_value (values_left box x.0)) (ap greatest_value h)))
  where
    at : (w : ℤ) → w ≡ v → refutes_at c box x.0 w ≡ false
    at w e = ap (refuted_by c) (ap (λ z. set box x.0 (z ∷ [])) e ∙ (ap (set box x.0) (sym h) ∙ set_left box x.0)) ∙ f

still_told : (xs : List Variable) (c : Rule) (start box : Box) (r : Relation) (t : Bool) → is_constraint xs c ≡ true → c.pred ≡ told_pred r → left_to start (last_arg c.args) ≡ truth_of t ∷ [] → AlikeOutside (args_at c.args 1) start box →
    left_to box (last_arg c.args) ≡ truth_of t ∷ []
still_told xs c start box r t h e w f = left_alike (args_at c.args 1) start box (last_arg c.args) f (told_apart xs c r h e) ∙ w

own_told : (xs : List Variable) (c : Rule) (start : Box) (n : ℤ) (r : Relation) (t : Bool) → is_constraint xs c ≡ true → c.pred ≡ told_pred r → arg_at c.args 2 ≡ Num n → left_to start (last_arg c.args) ≡ truth_of t ∷ [] → AreOwn c start (args_at c.args 1)
own_told xs c start n r t h e l w =
    let s = told_shape xs c r h e in
    λ box f u k.
    let here : left_to box s.r ≡ truth_of t ∷ [] = ap (λ args. left_to box (last_arg args)) (sym s.is) ∙ still_told xs c start box r t h e w f in
    keeps_all c box
    (ap (list_all (keeps_argument c box)) s.is
    ∙ (ap (λ b. b && (keeps_arg c box s.last && (keeps_arg c box s.r && true))) (ap (λ args. list_all (keeps_arg c box) (args_at args 1)) (sym s.is) ∙ k)
    ∙ (ap (λ a. keeps_arg c box a && (keeps_arg c box s.r && true)) (ap (λ args. arg_at args 2) (sym s.is) ∙ l)
    ∙ ap (λ b. b && true) (keeps_fixed c box s.r (truth_of t) here u))))

-- what is told of a meaning decides
pub told_as : (c : Rule) (box : Box) (m : Meaning) (t : Bool) → meaning_of c.pred ≡ reified m → left_to box (last_arg c.args) ≡ truth_of t ∷ [] → refuted_by c box ≡ cond t (refuted_as m (lefts box c.args)) (entailed_as m (lefts box c.args))
told_as c box m t e h =
    let args = lefts box c.args in
    ap (λ z. refuted_as z args) e
    ∙ (ap (λ d. (not (has_value d (pos 1)) || refuted_as m args) && (not (has_value d (pos 0)) || entailed_as m args)) (last_written box c.args ∙ h)
    ∙ by t (refuted_as m args) (entailed_as m args))
  where
    by : (t p q : Bool) → ((not (has_value (truth_of t ∷ []) (pos 1)) || p) && (not (has_value (truth_of t ∷ []) (pos 0)) || q)) ≡ cond t p q
    by true true q = refl
    by true false q = refl
    by false p q = refl

pub told_demanded : (xs : List Variable) (c : Rule) (start : Box) (n : ℤ) (r : Relation) (t : Bool) → is_constraint xs c ≡ true → c.pred ≡ told_pred r → arg_at c.args 2 ≡ Num n → left_to start (last_arg c.args) ≡ truth_of t ∷ [] →
    IsDemanded (demand_of r t) c start (ints_at c.args 0) (args_at c.args 1) n
told_demanded xs c start n AtMost true h e l w = record {
  refuted = λ box f. told_as c box sum_at_most true (ap meaning_of e) (still_told xs c start box AtMost true h e w f) ∙ above_filled c box n l;
  own = own_told xs c start n AtMost true h e l w;
}
told_demanded xs c start n AtMost false h e l w = record {
  refuted = λ box f. told_as c box sum_at_most false (ap meaning_of e) (still_told xs c start box AtMost false h e w f) ∙ upto_filled c box n l;
  own = own_told xs c start n AtMost false h e l w;
}
told_demanded xs c start n Equal true h e l w = record {
  refuted = λ box f. told_as c box sum_equal true (ap meaning_of e) (still_told xs c start box Equal true h e w f) ∙ missed_filled c box n l;
  own = own_told xs c start n Equal true h e l w;
}
told_demanded xs c start n Equal false h e l w = record {
  refuted = λ box f. told_as c box sum_equal false (ap meaning_of e) (still_told xs c start box Equal false h e w f) ∙ only_filled c box n l;
  own = own_told xs c start n Equal false h e l w;
}
told_demanded xs c start n Different true h e l w = record {
  refuted = λ box f. told_as c box sum_different true (ap meaning_of e) (still_told xs c start box Different true h e w f) ∙ only_filled c box n l;
  own = own_told xs c start n Different true h e l w;
}
told_demanded xs c start n Different false h e l w = record {
  refuted = λ box f. told_as c box sum_different false (ap meaning_of e) (still_told xs c start box Different false h e w f) ∙ missed_filled c box n l;
  own = own_told xs c start n Different false h e l w;
}

-- what is said of a sum, by its predicate or by the argument that tells
pub said_linear : (c : Rule) (box : Box) (r : Relation) (t : Bool) → IsSaid r t c box → IsLinear c.pred
said_linear c box r t (inl p) = linear_of c.pred r p.0
said_linear c box r t (inr p) = told_linear c.pred r p.0

pub said_demanded : (xs : List Variable) (c : Rule) (start : Box) (n : ℤ) (r : Relation) (t : Bool) → is_constraint xs c ≡ true → IsSaid r t c start → arg_at c.args 2 ≡ Num n → IsDemanded (demand_of r t) c start (ints_at c.args 0) (args_at c.args 1) n
said_demanded xs c start n r t h (inl p) l =
    let D : Bool → Type 0 = λ b. IsDemanded (demand_of r b) c start (ints_at c.args 0) (args_at c.args 1) n in
    subst D (sym p.1) (sum_demanded xs c start n r h p.0 l)
said_demanded xs c start n r t h (inr p) l = told_demanded xs c start n r t h p.0 l p.1
