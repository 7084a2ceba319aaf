-- The constraint of a comparison that is told of: three arguments, which alone decide, and the last has truth values.
use Rattle.std.proofs.Common.{◌≡◌, ℕ, zero, suc, Bool, true, false, not, ◌&&◌, ◌||◌, List, [], ◌∷◌, map, refl, sym, ap, ◌∙◌, subst, ℤ, arith}
use Rattle.std.specs.Prelude.{pos, ◌+ℤ◌, int_lt, int_le, slice_get}
use Rattle.std.specs.List.{list_all}
use Rattle.std.specs.Ordering.{int_eq}
use Rattle.std.proofs.lemmas.Int.{ints}
use Rattle.std.proofs.lemmas.Bool.{and_from}
use Rattle.qc_model.specs.declared.problem.Arg.{Arg}
use Rattle.qc_model.specs.declared.problem.Arg.TheVariants.{Var, Num}
use Rattle.qc_model.specs.declared.problem.Argument.{Argument}
use Rattle.qc_model.specs.declared.problem.Argument.TheVariants.{One, Many, Numbers, Members}
use Rattle.qc_model.specs.declared.problem.Domain.{Domain}
use Rattle.qc_model.specs.declared.problem.Domain.TheVariants.{Bits, Range, Listed}
use Rattle.qc_model.specs.declared.problem.Pred.{Pred}
use Rattle.qc_model.specs.declared.problem.Pred.TheVariants.{IntEq}
use Rattle.qc_model.specs.declared.problem.Variable.{Variable}
use Rattle.qc_model.specs.declared.signature.ArgKind.{ArgKind}
use Rattle.qc_model.specs.declared.signature.ArgKind.TheVariants.{Integer as integer, Boolean as boolean, Integers as integers, Booleans as booleans, Numbers as numbers, Truths as truths, Members as members}
use Rattle.qc_model.specs.Content.{Game, Rule}
use Rattle.qc_model.specs.Domains.{Values, Box, domain_values, values_left, has_value, is_ascending, is_sub_box, least_value, greatest_value}
use Rattle.qc_model.specs.Entailed.{entailed_as}
use Rattle.qc_model.specs.Left.{Lefts, left_at, last_left}
use Rattle.qc_model.specs.Meaning.{Meaning, reified, meaning_of}
use Rattle.qc_model.specs.Refuted.{left_to, refuted_as}
use Rattle.qc_model.specs.Signature.{arg_kinds_of}
use Rattle.qc_model.specs.Valid.{is_domain, is_truth, is_bits, is_boolean, is_variable_with, is_of_sort, are_of_sorts, have_lengths, arg_sees, argument_sees, is_constraint}
use Rattle.qc_model.proofs.Readable.{first, second}
use Rattle.model_arguments.specs.Asked.{IsAsked}
use Rattle.model_arguments.specs.Written.{arg_at}
use Rattle.qc_refuter.specs.Met.{lefts, is_open, is_met}
use Rattle.qc_refuter.proofs.Ready.{rule_met}
use Rattle.prop_base.specs.Closed.{keeps_arg, keeps_argument}
use Rattle.prop_base.proofs.Keeps.{keeps_all}
use Rattle.prop_compare.specs.declared.comparing.Comparison.{Comparison}
use Rattle.prop_compare.specs.declared.comparing.Comparison.TheVariants.{Equal, Different, AtMost, Below}
use Rattle.prop_compare.specs.Compared.{meant_by}
use Rattle.prop_compare.specs.Telling.{refuting, entailing, is_mistold, are_tangled, IsTelling}
use Rattle.prop_compare.proofs.Rows.{is_compared, compared_meant, is_one_kind, one_of, refuted_test}

abbrev is_told : Meaning → Bool
is_told (reified m) = is_compared m
is_told _ = false

abbrev pub is_truth_kind : ArgKind → Bool
is_truth_kind boolean = true
is_truth_kind _ = false

abbrev are_told_kinds : List ArgKind → Bool
are_told_kinds (s ∷ t ∷ u ∷ []) = (is_one_kind s && is_one_kind t) && is_truth_kind u
are_told_kinds _ = false

told_kinds : (p : Pred) → is_told (meaning_of p) ≡ true → are_told_kinds (arg_kinds_of p) ≡ true
told_kinds IntEq h = cc
told_kinds _ h = cc

-- a truth value's argument
pub record IsTruthArg (xs : List Variable) (arg : Argument) : Type 0 where
  pub it : Arg
  pub is : arg ≡ One it
  pub truth : is_boolean xs it ≡ true

pub truth_arg : (xs : List Variable) (s : ArgKind) (arg : Argument) → is_truth_kind s ≡ true → is_of_sort xs s arg ≡ true → IsTruthArg xs arg
truth_arg xs boolean (One a) h k = record { it = a; is = refl; truth = k }
truth_arg xs boolean (Many m) h k = cc
truth_arg xs boolean (Numbers m) h k = cc
truth_arg xs boolean (Members m) h k = cc
truth_arg xs integer arg h k = cc
truth_arg xs integers arg h k = cc
truth_arg xs booleans arg h k = cc
truth_arg xs numbers arg h k = cc
truth_arg xs truths arg h k = cc
truth_arg xs members arg h k = cc

record AreThree (xs : List Variable) (args : List Argument) : Type 0 where
  left : Arg
  right : Arg
  last : Arg
  is : args ≡ One left ∷ One right ∷ One last ∷ []
  truth : is_boolean xs last ≡ true

three_of : (xs : List Variable) (kinds : List ArgKind) (args : List Argument) → are_told_kinds kinds ≡ true → are_of_sorts xs kinds args ≡ true → AreThree xs args
three_of xs [] args h k = cc
three_of xs (s ∷ []) args h k = cc
three_of xs (s ∷ t ∷ []) args h k = cc
three_of xs (s ∷ t ∷ u ∷ v ∷ kinds) args h k = cc
three_of xs (s ∷ t ∷ u ∷ []) [] h k = cc
three_of xs (s ∷ t ∷ u ∷ []) (x ∷ []) h k = let e = second (is_of_sort xs s x) false k in cc
three_of xs (s ∷ t ∷ u ∷ []) (x ∷ y ∷ []) h k = let e = second (is_of_sort xs t y) false (second (is_of_sort xs s x) (is_of_sort xs t y && false) k) in cc
three_of xs (s ∷ t ∷ u ∷ []) (x ∷ y ∷ z ∷ w ∷ args) h k =
    let e = second (is_of_sort xs u z) false (second (is_of_sort xs t y) (is_of_sort xs u z && false) (second (is_of_sort xs s x) (is_of_sort xs t y && (is_of_sort xs u z && false)) k)) in cc
three_of xs (s ∷ t ∷ u ∷ []) (x ∷ y ∷ z ∷ []) h k =
    let both = first (is_one_kind s && is_one_kind t) (is_truth_kind u) h in
    let later = second (is_of_sort xs s x) (is_of_sort xs t y && (is_of_sort xs u z && true)) k in
    let p = one_of xs s x (first (is_one_kind s) (is_one_kind t) both) (first (is_of_sort xs s x) (is_of_sort xs t y && (is_of_sort xs u z && true)) k) in
    let q = one_of xs t y (second (is_one_kind s) (is_one_kind t) both) (first (is_of_sort xs t y) (is_of_sort xs u z && true) later) in
    let r = truth_arg xs u z (second (is_one_kind s && is_one_kind t) (is_truth_kind u) h) (first (is_of_sort xs u z) true (second (is_of_sort xs t y) (is_of_sort xs u z && true) later)) in
    record {
      left = p.it;
      right = q.it;
      last = r.it;
      is = ap (λ a. a ∷ y ∷ z ∷ []) p.is ∙ (ap (λ a. One p.it ∷ a ∷ z ∷ []) q.is ∙ ap (λ a. One p.it ∷ One q.it ∷ a ∷ []) r.is);
      truth = r.truth;
    }

three_args : (xs : List Variable) (c : Rule) (k : Comparison) → is_constraint xs c ≡ true → meaning_of c.pred ≡ reified (meant_by k) → AreThree xs c.args
three_args xs c k h m =
    let sorted = are_of_sorts xs (arg_kinds_of c.pred) c.args in
    let lengths = have_lengths (meaning_of c.pred) c.args in
    three_of xs (arg_kinds_of c.pred) c.args (told_kinds c.pred (ap is_told m ∙ compared_meant k)) (first sorted lengths (first (sorted && lengths) (list_all (argument_sees xs c.owner.0) c.args) h))

-- what is left of a truth value
of_bits : (d : Values) → list_all (has_value (pos 0 ∷ pos 1 ∷ [])) d ≡ true → list_all is_truth d ≡ true
of_bits [] h = refl
of_bits (v ∷ d) h =
    and_from (is_truth v) (list_all is_truth d) (one (int_eq v (pos 0)) (int_eq v (pos 1)) (first (has_value (pos 0 ∷ pos 1 ∷ []) v) (list_all (has_value (pos 0 ∷ pos 1 ∷ [])) d) h))
    (of_bits d (second (has_value (pos 0 ∷ pos 1 ∷ []) v) (list_all (has_value (pos 0 ∷ pos 1 ∷ [])) d) h))
  where
    one : (a b : Bool) → (a || (b || false)) ≡ true → (a || b) ≡ true
    one true b h = refl
    one false true h = refl
    one false false h = cc

bits_values : (e : Domain) → is_bits e ≡ true → domain_values e ≡ pos 0 ∷ pos 1 ∷ []
bits_values Bits h = refl
bits_values (Range low high) h = cc
bits_values (Listed ns) h = cc

variable_truths : (xs : List Variable) (box : Box) (k : ℕ) → is_variable_with is_bits (slice_get xs k) ≡ true → is_sub_box box (map (λ x. domain_values x.domain) xs) ≡ true → list_all is_truth (values_left box k) ≡ true
variable_truths [] box zero b s = cc
variable_truths [] box (suc k) b s = cc
variable_truths (x ∷ xs) [] k b s = cc
variable_truths (x ∷ xs) (d ∷ box) (suc k) b s =
    variable_truths xs box k b (second (is_ascending d && list_all (has_value (domain_values x.domain)) d) (is_sub_box box (map (λ y. domain_values y.domain) xs)) s)
variable_truths (x ∷ xs) (d ∷ box) zero b s =
    let e = domain_values x.domain in
    let p = first (is_ascending d && list_all (has_value e) d) (is_sub_box box (map (λ y. domain_values y.domain) xs)) s in
    of_bits d (subst (λ vs. list_all (has_value vs) d ≡ true) (bits_values x.domain b) (second (is_ascending d) (list_all (has_value e) d) p))

pub truths_left : (g : Game) (c : Rule) (box : Box) (r : Arg) → IsAsked g c box → is_boolean g.variables r ≡ true → list_all is_truth (left_to box r) ≡ true
truths_left g c box (Var x) a h = variable_truths g.variables box x.0 h a.declared
truths_left g c box (Num n) a h = and_from (is_truth n) true h refl

-- the tests of the contrary
entailed_test : (k : Comparison) (args : Lefts) → entailed_as (meant_by k) args ≡ entailing k (left_at args 0) (left_at args 1)
entailed_test Equal args = refl
entailed_test Different args = refl
entailed_test AtMost args = shift (greatest_value (left_at args 0)) (least_value (left_at args 1))
  where
    shift : (g l : ℤ) → int_le g l ≡ int_lt g (l +ℤ pos 1)
    shift g l = grind (arith, ints)
entailed_test Below args = shift (greatest_value (left_at args 0)) (least_value (left_at args 1))
  where
    shift : (g l : ℤ) → int_lt g l ≡ int_lt g (l +ℤ pos 0)
    shift g l = grind (arith, ints)

told_test : (k : Comparison) (args : Lefts) → refuted_as (reified (meant_by k)) args ≡ is_mistold k (left_at args 0) (left_at args 1) (last_left args)
told_test k args =
    ap (λ z. (not (has_value (last_left args) (pos 1)) || z) && (not (has_value (last_left args) (pos 0)) || entailed_as (meant_by k) args)) (refuted_test k args)
    ∙ ap (λ z. (not (has_value (last_left args) (pos 1)) || refuting k (left_at args 0) (left_at args 1)) && (not (has_value (last_left args) (pos 0)) || z)) (entailed_test k args)

-- the arguments as they were read
telling_of : (g : Game) (c : Rule) (box : Box) (k : Comparison) → list_all (λ x. is_domain x.domain) g.variables ≡ true → IsAsked g c box → meaning_of c.pred ≡ reified (meant_by k) →
    (a b r : Arg) → c.args ≡ One a ∷ One b ∷ One r ∷ [] → is_boolean g.variables r ≡ true → are_tangled a b r ≡ false → IsTelling g c box k a b r
telling_of g c box k d i m a b r e t u =
    let xs = g.variables in
    let sorted = are_of_sorts xs (arg_kinds_of c.pred) c.args in
    let lengths = have_lengths (meaning_of c.pred) c.args in
    let sees = ap (list_all (argument_sees xs c.owner.0)) (sym e) ∙ second (sorted && lengths) (list_all (argument_sees xs c.owner.0) c.args) i.rule in
    let opens = ap (list_all (is_met box)) (sym e) ∙ rule_met g box d i.declared i.full c i.rule in
    let open_rest = second (is_open box a) (is_open box b && (is_open box r && true)) opens in
    record {
      untangled = u;
      sees_first = first (arg_sees xs c.owner.0 a) (arg_sees xs c.owner.0 b && (arg_sees xs c.owner.0 r && true)) sees;
      sees_second = first (arg_sees xs c.owner.0 b) (arg_sees xs c.owner.0 r && true) (second (arg_sees xs c.owner.0 a) (arg_sees xs c.owner.0 b && (arg_sees xs c.owner.0 r && true)) sees);
      open_first = first (is_open box a) (is_open box b && (is_open box r && true)) opens;
      open_second = first (is_open box b) (is_open box r && true) open_rest;
      open_last = first (is_open box r) true (second (is_open box b) (is_open box r && true) open_rest);
      truth = truths_left g c box r i t;
      refutes = λ other.
          ap (λ z. refuted_as z (lefts other c.args)) m
          ∙ (ap (λ z. refuted_as (reified (meant_by k)) (lefts other z)) e
          ∙ told_test k (lefts other (One a ∷ One b ∷ One r ∷ [])));
      own = λ other f l q.
          keeps_all c other
          (ap (list_all (keeps_argument c other)) e
          ∙ and_from (keeps_arg c other a) (keeps_arg c other b && (keeps_arg c other r && true)) f
          (and_from (keeps_arg c other b) (keeps_arg c other r && true) l (and_from (keeps_arg c other r) true q refl)));
    }

pub telling_at : (g : Game) (c : Rule) (box : Box) (a b r : Arg) (k : Comparison) → a ≡ arg_at c.args 0 → b ≡ arg_at c.args 1 → r ≡ arg_at c.args 2 → list_all (λ x. is_domain x.domain) g.variables ≡ true → IsAsked g c box → meaning_of c.pred ≡ reified (meant_by k) →
    are_tangled a b r ≡ false → IsTelling g c box k a b r
telling_at g c box a b r k p q s d i m u =
    let t = three_args g.variables c k i.rule m in
    let first_is : t.left ≡ a = sym (p ∙ ap (λ l. arg_at l 0) t.is) in
    let second_is : t.right ≡ b = sym (q ∙ ap (λ l. arg_at l 1) t.is) in
    let last_is : t.last ≡ r = sym (s ∙ ap (λ l. arg_at l 2) t.is) in
    telling_of g c box k d i m a b r
    (t.is ∙ (ap (λ z. One z ∷ One t.right ∷ One t.last ∷ []) first_is ∙ (ap (λ z. One a ∷ One z ∷ One t.last ∷ []) second_is ∙ ap (λ z. One a ∷ One b ∷ One z ∷ []) last_is)))
    (ap (is_boolean g.variables) (sym last_is) ∙ t.truth) u
