-- A comparison's constraint: two arguments, which alone decide.
use Rattle.std.proofs.Common.{◌≡◌, Bool, true, false, ◌&&◌, List, [], ◌∷◌, refl, sym, ap, ◌∙◌, subst, ℤ, arith}
use Rattle.std.specs.Prelude.{pos, ◌+ℤ◌, int_lt, int_le}
use Rattle.std.specs.List.{list_all}
use Rattle.std.proofs.lemmas.Int.{ints}
use Rattle.std.proofs.lemmas.Bool.{and_from}
use Rattle.qc_model.specs.declared.problem.Arg.{Arg}
use Rattle.qc_model.specs.declared.problem.Argument.{Argument}
use Rattle.qc_model.specs.declared.problem.Argument.TheVariants.{One, Many, Numbers, Members}
use Rattle.qc_model.specs.declared.problem.Pred.{Pred}
use Rattle.qc_model.specs.declared.problem.Pred.TheVariants.{IntEq}
use Rattle.qc_model.specs.declared.problem.Variable.{Variable}
use Rattle.qc_model.specs.declared.signature.ArgKind.{ArgKind}
use Rattle.qc_model.specs.declared.signature.ArgKind.TheVariants.{Integer as integer, Boolean as boolean, Integers as integers, Booleans as booleans, Numbers as numbers, Truths as truths, Members as members}
use Rattle.qc_model.specs.Content.{Game, Rule}
use Rattle.qc_model.specs.Domains.{Values, Box, least_value, greatest_value}
use Rattle.qc_model.specs.Left.{Lefts, left_at}
use Rattle.qc_model.specs.Meaning.{Meaning, equal, different, at_most, below, meaning_of}
use Rattle.qc_model.specs.Refuted.{left_to, refuted_as}
use Rattle.qc_model.specs.Signature.{arg_kinds_of}
use Rattle.qc_model.specs.Valid.{is_domain, is_of_sort, are_of_sorts, have_lengths, arg_sees, argument_sees, is_constraint}
use Rattle.qc_model.proofs.Readable.{first, second}
use Rattle.model_arguments.specs.Asked.{IsAsked}
use Rattle.model_arguments.specs.Written.{arg_at}
use Rattle.model_arguments.proofs.Written.{left_written}
use Rattle.qc_refuter.specs.Met.{lefts, is_open, is_met}
use Rattle.qc_refuter.proofs.Ready.{rule_met}
use Rattle.prop_base.specs.Closed.{keeps_arg, keeps_argument}
use Rattle.prop_base.proofs.Keeps.{keeps_all}
use Rattle.prop_compare.specs.declared.comparing.Comparison.{Comparison}
use Rattle.prop_compare.specs.declared.comparing.Comparison.TheVariants.{Equal, Different, AtMost, Below}
use Rattle.model_arguments.specs.Repeats.{same_variable}
use Rattle.prop_compare.specs.Compared.{IsPair, IsTested, is_over, meant_by}
use Rattle.prop_compare.specs.Telling.{refuting}

abbrev pub is_compared : Meaning → Bool
is_compared equal = true
is_compared different = true
is_compared at_most = true
is_compared below = true
is_compared _ = false

abbrev pub is_one_kind : ArgKind → Bool
is_one_kind integer = true
is_one_kind boolean = true
is_one_kind _ = false

abbrev are_two_kinds : List ArgKind → Bool
are_two_kinds (s ∷ t ∷ []) = is_one_kind s && is_one_kind t
are_two_kinds _ = false

two_kinds : (p : Pred) → is_compared (meaning_of p) ≡ true → are_two_kinds (arg_kinds_of p) ≡ true
two_kinds IntEq h = refl
two_kinds _ h = cc

pub compared_meant : (k : Comparison) → is_compared (meant_by k) ≡ true
compared_meant Equal = refl
compared_meant Different = refl
compared_meant AtMost = refl
compared_meant Below = refl

pub record IsOne (arg : Argument) : Type 0 where
  pub it : Arg
  pub is : arg ≡ One it

pub one_of : (xs : List Variable) (s : ArgKind) (arg : Argument) → is_one_kind s ≡ true → is_of_sort xs s arg ≡ true → IsOne arg
one_of xs s (One a) h k = record { it = a; is = refl }
one_of xs integer (Many m) h k = cc
one_of xs boolean (Many m) h k = cc
one_of xs integers (Many m) h k = cc
one_of xs booleans (Many m) h k = cc
one_of xs numbers (Many m) h k = cc
one_of xs truths (Many m) h k = cc
one_of xs members (Many m) h k = cc
one_of xs integer (Numbers m) h k = cc
one_of xs boolean (Numbers m) h k = cc
one_of xs integers (Numbers m) h k = cc
one_of xs booleans (Numbers m) h k = cc
one_of xs numbers (Numbers m) h k = cc
one_of xs truths (Numbers m) h k = cc
one_of xs members (Numbers m) h k = cc
one_of xs integer (Members m) h k = cc
one_of xs boolean (Members m) h k = cc
one_of xs integers (Members m) h k = cc
one_of xs booleans (Members m) h k = cc
one_of xs numbers (Members m) h k = cc
one_of xs truths (Members m) h k = cc
one_of xs members (Members m) h k = cc

record IsTwo (args : List Argument) : Type 0 where
  left : Arg
  right : Arg
  is : args ≡ One left ∷ One right ∷ []

two_of : (xs : List Variable) (kinds : List ArgKind) (args : List Argument) → are_two_kinds kinds ≡ true → are_of_sorts xs kinds args ≡ true → IsTwo args
two_of xs [] args h k = cc
two_of xs (s ∷ []) args h k = cc
two_of xs (s ∷ t ∷ u ∷ kinds) args h k = cc
two_of xs (s ∷ t ∷ []) [] h k = cc
two_of xs (s ∷ t ∷ []) (x ∷ []) h k = let e = second (is_of_sort xs s x) false k in cc
two_of xs (s ∷ t ∷ []) (x ∷ y ∷ z ∷ args) h k =
    let e = second (is_of_sort xs t y) false (second (is_of_sort xs s x) (is_of_sort xs t y && false) k) in cc
two_of xs (s ∷ t ∷ []) (x ∷ y ∷ []) h k =
    let p = one_of xs s x (first (is_one_kind s) (is_one_kind t) h) (first (is_of_sort xs s x) (is_of_sort xs t y && true) k) in
    let q = one_of xs t y (second (is_one_kind s) (is_one_kind t) h) (first (is_of_sort xs t y) true (second (is_of_sort xs s x) (is_of_sort xs t y && true) k)) in
    record { left = p.it; right = q.it; is = ap (λ z. z ∷ y ∷ []) p.is ∙ ap (λ z. One p.it ∷ z ∷ []) q.is }

two_args : (xs : List Variable) (c : Rule) (k : Comparison) → is_constraint xs c ≡ true → meaning_of c.pred ≡ meant_by k → IsTwo c.args
two_args xs c k h m =
    let sorted = are_of_sorts xs (arg_kinds_of c.pred) c.args in
    let lengths = have_lengths (meaning_of c.pred) c.args in
    two_of xs (arg_kinds_of c.pred) c.args (two_kinds c.pred (ap is_compared m ∙ compared_meant k)) (first sorted lengths (first (sorted && lengths) (list_all (argument_sees xs c.owner.0) c.args) h))

both_args : (p : Arg → Bool) (q : Argument → Bool) (args : List Argument) → ((a : Arg) → q (One a) ≡ p a) → IsTwo args → list_all q args ≡ true → (p (arg_at args 0) ≡ true) × (p (arg_at args 1) ≡ true)
both_args p q args f t h =
    let k = ap (list_all q) (sym t.is) ∙ h in (
      ap (λ l. p (arg_at l 0)) t.is ∙ (sym (f t.left) ∙ first (q (One t.left)) (q (One t.right) && true) k),
      ap (λ l. p (arg_at l 1)) t.is ∙ (sym (f t.right) ∙ first (q (One t.right)) true (second (q (One t.left)) (q (One t.right) && true) k)),
    )

pub pair_of : (g : Game) (c : Rule) (box : Box) (k : Comparison) → list_all (λ x. is_domain x.domain) g.variables ≡ true → IsAsked g c box → meaning_of c.pred ≡ meant_by k → same_variable (arg_at c.args 0) (arg_at c.args 1) ≡ false →
    IsPair g c box (arg_at c.args 0) (arg_at c.args 1)
pair_of g c box k d a m s =
    let xs = g.variables in
    let t = two_args xs c k a.rule m in
    let sorted = are_of_sorts xs (arg_kinds_of c.pred) c.args in
    let lengths = have_lengths (meaning_of c.pred) c.args in
    let sees = both_args (arg_sees xs c.owner.0) (argument_sees xs c.owner.0) c.args (λ z. refl) t (second (sorted && lengths) (list_all (argument_sees xs c.owner.0) c.args) a.rule) in
    let opens = both_args (is_open box) (is_met box) c.args (λ z. refl) t (rule_met g box d a.declared a.full c a.rule) in
    record {
      apart = s;
      sees_first = sees.0;
      sees_second = sees.1;
      open_first = opens.0;
      open_second = opens.1;
      own = λ other f m n p q.
          keeps_all c other
          (ap (list_all (keeps_argument c other)) t.is
          ∙ and_from (keeps_arg c other t.left) (keeps_arg c other t.right && true) (ap (λ l. keeps_arg c other (arg_at l 0)) (sym t.is) ∙ p)
          (and_from (keeps_arg c other t.right) true (ap (λ l. keeps_arg c other (arg_at l 1)) (sym t.is) ∙ q) refl));
    }

pub tested_of : (c : Rule) (box : Box) (m : Meaning) (test : Values → Values → Bool) → meaning_of c.pred ≡ m → ((args : Lefts) → refuted_as m args ≡ test (left_at args 0) (left_at args 1)) → IsTested c box (arg_at c.args 0) (arg_at c.args 1) test
tested_of c box m test e f other h =
    ap (λ z. refuted_as z (lefts other c.args)) e
    ∙ (f (lefts other c.args)
    ∙ (ap (λ d. test d (left_at (lefts other c.args) 1)) (left_written other c.args 0)
    ∙ ap (test (left_to other (arg_at c.args 0))) (left_written other c.args 1)))

pub at_most_over : (args : Lefts) → refuted_as at_most args ≡ is_over (pos 0) (left_at args 0) (left_at args 1)
at_most_over args = shift (greatest_value (left_at args 1)) (least_value (left_at args 0))
  where
    shift : (g l : ℤ) → int_lt g l ≡ int_lt g (l +ℤ pos 0)
    shift g l = grind (arith, ints)

pub below_over : (args : Lefts) → refuted_as below args ≡ is_over (pos 1) (left_at args 0) (left_at args 1)
below_over args = shift (greatest_value (left_at args 1)) (least_value (left_at args 0))
  where
    shift : (g l : ℤ) → int_le g l ≡ int_lt g (l +ℤ pos 1)
    shift g l = grind (arith, ints)

-- by the arguments as they were read
pub pair_at : (g : Game) (c : Rule) (box : Box) (a b : Arg) (k : Comparison) → a ≡ arg_at c.args 0 → b ≡ arg_at c.args 1 → list_all (λ x. is_domain x.domain) g.variables ≡ true → IsAsked g c box → meaning_of c.pred ≡ meant_by k → same_variable a b ≡ false →
    IsPair g c box a b
pair_at g c box a b k e f d i m s =
    subst (λ z. IsPair g c box z b) (sym e)
    (subst (λ z. IsPair g c box (arg_at c.args 0) z) (sym f)
    (pair_of g c box k d i m (ap (λ z. same_variable z (arg_at c.args 1)) (sym e) ∙ (ap (same_variable a) (sym f) ∙ s))))

pub tested_at : (c : Rule) (box : Box) (a b : Arg) (m : Meaning) (test : Values → Values → Bool) → a ≡ arg_at c.args 0 → b ≡ arg_at c.args 1 → meaning_of c.pred ≡ m → ((args : Lefts) → refuted_as m args ≡ test (left_at args 0) (left_at args 1)) → IsTested c box a b test
tested_at c box a b m test e f h t =
    let P : Arg → Type 0 = λ z. IsTested c box z b test in
    let Q : Arg → Type 0 = λ z. IsTested c box (arg_at c.args 0) z test in
    subst P (sym e) (subst Q (sym f) (tested_of c box m test h t))

-- the tests of a comparison
pub refuted_test : (k : Comparison) (args : Lefts) → refuted_as (meant_by k) args ≡ refuting k (left_at args 0) (left_at args 1)
refuted_test Equal args = refl
refuted_test Different args = refl
refuted_test AtMost args = at_most_over args
refuted_test Below args = below_over args

pub tested_by : (c : Rule) (box : Box) (a b : Arg) (k : Comparison) → a ≡ arg_at c.args 0 → b ≡ arg_at c.args 1 → meaning_of c.pred ≡ meant_by k → IsTested c box a b (refuting k)
tested_by c box a b k e f h = tested_at c box a b (meant_by k) (refuting k) e f h (refuted_test k)
