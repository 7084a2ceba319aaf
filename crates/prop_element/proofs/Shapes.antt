-- The arguments of the predicates that are filtered by what each variable may keep.
use Rattle.std.proofs.Common.{map, ◌≡◌, ◌⊎◌, inl, inr, ℕ, ◌<◌, ◌≤◌, ◌==◌, Bool, true, false, not, ◌&&◌, ◌||◌, cond, List, [], ◌∷◌, Option, None, Some, length, refl, sym, ap, ◌∙◌, subst, arith, ℤ}
use Rattle.std.specs.Prelude.{nat_le, nat_lt, pos, slice_get}
use Rattle.std.specs.List.{list_any, list_all}
use Rattle.std.proofs.lemmas.List.{length-map}
use Rattle.std.proofs.lemmas.Bool.{leb-true, false_from_ne_true, and_from}
use Rattle.std.proofs.lemmas.Bool.Decides.{nat_tests}
use Rattle.qc_model.specs.declared.problem.Arg.{Arg}
use Rattle.qc_model.specs.declared.problem.Arg.TheVariants.{Var, Num}
use Rattle.qc_model.specs.declared.problem.Argument.{Argument}
use Rattle.qc_model.specs.declared.problem.Argument.TheVariants.{One, Many, Numbers, Members}
use Rattle.qc_model.specs.declared.problem.Pred.{Pred}
use Rattle.qc_model.specs.declared.problem.Pred.TheVariants.{SetIn, SetInReif, ArrayIntMinimum, ArrayIntMaximum, ArrayIntElement, ArrayBoolElement, ArrayVarIntElement, ArrayVarBoolElement, TableInt}
use Rattle.qc_model.specs.declared.problem.Set.{Set}
use Rattle.qc_model.specs.declared.problem.Variable.{Variable}
use Rattle.qc_model.specs.declared.signature.ArgKind.{ArgKind}
use Rattle.qc_model.specs.declared.signature.ArgKind.TheVariants.{Integer as integer, Boolean as boolean, Integers as integers, Booleans as booleans, Numbers as numbers, Truths as truths, Members as members}
use Rattle.qc_model.specs.Closed.{keeps_ends}
use Rattle.qc_model.specs.Content.{Game, Rule}
use Rattle.qc_model.specs.Domains.{Values, Box, has_value, set_has, least_value, greatest_value}
use Rattle.qc_model.specs.Entailed.{entailed_as}
use Rattle.qc_model.specs.Arguments.{numbers as numbers_in}
use Rattle.qc_model.specs.Left.{left_at, lefts_at, some_item_in, some_item_meets, row_fits}
use Rattle.qc_model.specs.Holds.{rows}
use Rattle.qc_model.specs.Meaning.{member, element, variable_element, meaning_of}
use Rattle.qc_model.specs.Refuted.{left_to, refuted_as, refuted_by}
use Rattle.qc_model.specs.Signature.{arg_kinds_of}
use Rattle.qc_model.specs.Valid.{is_number, is_truth, is_bits, is_boolean, is_integer, is_integer_domain, is_variable_with, is_domain, is_set, is_of_sort, are_of_sorts, have_lengths, argument_sees, is_constraint}
use Rattle.qc_model.proofs.Readable.{first, second}
use Rattle.model_arguments.specs.Asked.{IsAsked}
use Rattle.model_arguments.specs.Written.{arg_at, args_at, ints_at, set_at, last_arg}
use Rattle.model_arguments.proofs.Written.{left_written, lefts_written, numbers_written, last_written}
use Rattle.qc_refuter.specs.Met.{lefts, is_open, is_met, are_met}
use Rattle.qc_refuter.proofs.Ready.{rule_met}
use Rattle.qc_refuter.proofs.Walks.{all_passed}
use Rattle.prop_compare.specs.Telling.{truth_of}
use Rattle.prop_base.specs.Closed.{keeps_arg, keeps_argument}
use Rattle.prop_base.proofs.Keeps.{keeps_all}
use Rattle.model_arguments.specs.Repeats.{same_variable, has_repeat}
use Rattle.prop_element.specs.Choices.{IsChoice}
use Rattle.prop_element.specs.Elements.{IsElement}
use Rattle.prop_element.specs.Tables.{IsTable}
use Rattle.prop_element.specs.Members.{IsMembership, IsToldMember, is_wanted}
use Rattle.prop_element.specs.Extremes.{IsLeast, IsGreatest}
use Rattle.prop_element.proofs.ItemTests.{least_tests, greatest_tests}

-- two arguments, each of its sort
record IsTwo (xs : List Variable) (s t : ArgKind) (args : List Argument) : Type 0 where
  left : Argument
  right : Argument
  is : args ≡ left ∷ right ∷ []
  left_is : is_of_sort xs s left ≡ true
  right_is : is_of_sort xs t right ≡ true

two_of : (xs : List Variable) (s t : ArgKind) (args : List Argument) → are_of_sorts xs (s ∷ t ∷ []) args ≡ true → IsTwo xs s t args
two_of xs s t [] h = cc
two_of xs s t (a ∷ []) h = let e = second (is_of_sort xs s a) false h in cc
two_of xs s t (a ∷ b ∷ c ∷ args) h =
    let e = second (is_of_sort xs t b) false (second (is_of_sort xs s a) (is_of_sort xs t b && false) h) in cc
two_of xs s t (a ∷ b ∷ []) h = record {
  left = a;
  right = b;
  is = refl;
  left_is = first (is_of_sort xs s a) (is_of_sort xs t b && true) h;
  right_is = first (is_of_sort xs t b) true (second (is_of_sort xs s a) (is_of_sort xs t b && true) h);
}

sorts_of : (xs : List Variable) (c : Rule) (p : Pred) → is_constraint xs c ≡ true → c.pred ≡ p → are_of_sorts xs (arg_kinds_of p) c.args ≡ true
sorts_of xs c p h e =
    let sorted = are_of_sorts xs (arg_kinds_of c.pred) c.args in
    let lengths = have_lengths (meaning_of c.pred) c.args in
    ap (λ q. are_of_sorts xs (arg_kinds_of q) c.args) (sym e) ∙ first sorted lengths (first (sorted && lengths) (list_all (argument_sees xs c.owner.0) c.args) h)

record IsOne (a : Argument) : Type 0 where
  it : Arg
  is : a ≡ One it

one_integer : (xs : List Variable) (a : Argument) → is_of_sort xs integer a ≡ true → IsOne a
one_integer xs (One a) h = record { it = a; is = refl }
one_integer xs (Many items) h = cc
one_integer xs (Numbers ns) h = cc
one_integer xs (Members s) h = cc

record IsMembers (a : Argument) : Type 0 where
  it : Set
  is : a ≡ Members it

some_members : (xs : List Variable) (a : Argument) → is_of_sort xs members a ≡ true → IsMembers a
some_members xs (One a) h = cc
some_members xs (Many items) h = cc
some_members xs (Numbers ns) h = cc
some_members xs (Members s) h = record { it = s; is = refl }

-- one argument and a set
record IsSetIn (args : List Argument) : Type 0 where
  arg : Arg
  set : Set
  is : args ≡ One arg ∷ Members set ∷ []

set_in_of : (xs : List Variable) (c : Rule) → is_constraint xs c ≡ true → c.pred ≡ SetIn → IsSetIn c.args
set_in_of xs c h e =
    let t = two_of xs integer members c.args (sorts_of xs c SetIn h e) in
    let a = one_integer xs t.left t.left_is in
    let s = some_members xs t.right t.right_is in
    record { arg = a.it; set = s.it; is = t.is ∙ (ap (λ z. z ∷ t.right ∷ []) a.is ∙ ap (λ z. One a.it ∷ z ∷ []) s.is) }

abbrev the_set : Option Set → Set → Set
the_set None d = d
the_set (Some s) d = s

pub has_set : (xs : List Variable) (c : Rule) → is_constraint xs c ≡ true → c.pred ≡ SetIn → set_at c.args 1 ≡ None → ⊥
has_set xs c h e n = let t = set_in_of xs c h e in none (sym (ap (λ l. set_at l 1) t.is) ∙ n)
  where
    none : {s : Set} → Some s ≡ None → ⊥
    none q = cc

pub set_open : (g : Game) (c : Rule) (box : Box) → list_all (λ x. is_domain x.domain) g.variables ≡ true → IsAsked g c box → c.pred ≡ SetIn → is_open box (arg_at c.args 0) ≡ true
set_open g c box d a e =
    let t = set_in_of g.variables c a.rule e in
    let u = ap (are_met box) (sym t.is) ∙ rule_met g box d a.declared a.full c a.rule in
    ap (λ l. is_open box (arg_at l 0)) t.is ∙ first (is_open box t.arg) (is_met box (Members t.set) && true) u

same_set : (xs : List Variable) (c : Rule) (s : Set) (t : IsSetIn c.args) → set_at c.args 1 ≡ Some s → t.set ≡ s
same_set xs c s t h = ap (λ o. the_set o s) (sym (ap (λ l. set_at l 1) t.is) ∙ h)

pub set_ordered : (g : Game) (c : Rule) (box : Box) (s : Set) → list_all (λ x. is_domain x.domain) g.variables ≡ true → IsAsked g c box → c.pred ≡ SetIn → set_at c.args 1 ≡ Some s → is_set s ≡ true
set_ordered g c box s d a e h =
    let t = set_in_of g.variables c a.rule e in
    let u = ap (are_met box) (sym t.is) ∙ rule_met g box d a.declared a.full c a.rule in
    subst (λ z. is_set z ≡ true) (same_set g.variables c s t h) (first (is_set t.set) true (second (is_open box t.arg) (is_set t.set && true) u))

pub membership : (xs : List Variable) (c : Rule) (s : Set) → is_constraint xs c ≡ true → c.pred ≡ SetIn → set_at c.args 1 ≡ Some s → IsMembership c (arg_at c.args 0) s
membership xs c s h e k =
    let t = set_in_of xs c h e in
    let A : Arg → Type 0 = λ z. IsMembership c z s in
    let S : Set → Type 0 = λ z. IsMembership c t.arg z in
    subst A (sym (ap (λ l. arg_at l 0) t.is)) (subst S (same_set xs c s t k) (record {
      refuted = λ box. ap (λ p. refuted_as (meaning_of p) (lefts box c.args)) e ∙ ap (λ l. refuted_as (meaning_of SetIn) (lefts box l)) t.is;
      own = λ box q. keeps_all c box (ap (list_all (keeps_argument c box)) t.is ∙ and_from (keeps_arg c box t.arg) true q refl);
    }))

record IsMany (a : Argument) : Type 0 where
  items : List Arg
  is : a ≡ Many items

many_integers : (xs : List Variable) (a : Argument) → is_of_sort xs integers a ≡ true → IsMany a
many_integers xs (One a) h = cc
many_integers xs (Many items) h = record { items = items; is = refl }
many_integers xs (Numbers ns) h = cc
many_integers xs (Members s) h = cc

-- one argument and an array
record IsOverItems (args : List Argument) : Type 0 where
  arg : Arg
  items : List Arg
  is : args ≡ One arg ∷ Many items ∷ []

over_items : (xs : List Variable) (args : List Argument) → are_of_sorts xs (integer ∷ integers ∷ []) args ≡ true → IsOverItems args
over_items xs args h =
    let t = two_of xs integer integers args h in
    let a = one_integer xs t.left t.left_is in
    let m = many_integers xs t.right t.right_is in
    record { arg = a.it; items = m.items; is = t.is ∙ (ap (λ z. z ∷ t.right ∷ []) a.is ∙ ap (λ z. One a.it ∷ z ∷ []) m.is) }

least_args : (xs : List Variable) (c : Rule) → is_constraint xs c ≡ true → c.pred ≡ ArrayIntMinimum → IsOverItems c.args
least_args xs c h e = over_items xs c.args (sorts_of xs c ArrayIntMinimum h e)

greatest_args : (xs : List Variable) (c : Rule) → is_constraint xs c ≡ true → c.pred ≡ ArrayIntMaximum → IsOverItems c.args
greatest_args xs c h e = over_items xs c.args (sorts_of xs c ArrayIntMaximum h e)

lengths_of : (xs : List Variable) (c : Rule) (p : Pred) → is_constraint xs c ≡ true → c.pred ≡ p → have_lengths (meaning_of p) c.args ≡ true
lengths_of xs c p h e =
    let sorted = are_of_sorts xs (arg_kinds_of c.pred) c.args in
    let lengths = have_lengths (meaning_of c.pred) c.args in
    ap (λ q. have_lengths (meaning_of q) c.args) (sym e) ∙ second sorted lengths (first (sorted && lengths) (list_all (argument_sees xs c.owner.0) c.args) h)

over_open : (g : Game) (c : Rule) (box : Box) → list_all (λ x. is_domain x.domain) g.variables ≡ true → IsAsked g c box → IsOverItems c.args → (is_open box (arg_at c.args 0) ≡ true) × (list_all (is_open box) (args_at c.args 1) ≡ true)
over_open g c box d a t =
    let u = ap (are_met box) (sym t.is) ∙ rule_met g box d a.declared a.full c a.rule in
    let v = first (is_met box (Many t.items)) true (second (is_open box t.arg) (is_met box (Many t.items) && true) u) in (
      ap (λ l. is_open box (arg_at l 0)) t.is ∙ first (is_open box t.arg) (is_met box (Many t.items) && true) u,
      ap (λ l. list_all (is_open box) (args_at l 1)) t.is ∙ second (nat_le (length t.items) 1000) (list_all (is_open box) t.items) v,
    )

over_own : (c : Rule) (box : Box) (t : IsOverItems c.args) → keeps_arg c box t.arg ≡ true → list_all (keeps_arg c box) t.items ≡ true → keeps_ends box c ≡ true
over_own c box t p q =
    keeps_all c box (ap (list_all (keeps_argument c box)) t.is ∙ and_from (keeps_arg c box t.arg) (list_all (keeps_arg c box) t.items && true) p (and_from (list_all (keeps_arg c box) t.items) true q refl))

some_of : (n : ℕ) → nat_lt 0 n ≡ true → 0 < n
some_of n h = grind (arith, nat_tests)

pub least_open : (g : Game) (c : Rule) (box : Box) → list_all (λ x. is_domain x.domain) g.variables ≡ true → IsAsked g c box → c.pred ≡ ArrayIntMinimum → (is_open box (arg_at c.args 0) ≡ true) × (list_all (is_open box) (args_at c.args 1) ≡ true)
least_open g c box d a e = over_open g c box d a (least_args g.variables c a.rule e)

pub least_is : (xs : List Variable) (c : Rule) → is_constraint xs c ≡ true → c.pred ≡ ArrayIntMinimum → IsLeast c (arg_at c.args 0) (args_at c.args 1)
least_is xs c h e =
    let t = least_args xs c h e in
    let n = some_of (length t.items) (ap (have_lengths (meaning_of ArrayIntMinimum)) (sym t.is) ∙ lengths_of xs c ArrayIntMinimum h e) in
    let A : Arg → Type 0 = λ z. IsLeast c z (args_at c.args 1) in
    let S : List Arg → Type 0 = λ z. IsLeast c t.arg z in
    subst A (sym (ap (λ l. arg_at l 0) t.is)) (subst S (sym (ap (λ l. args_at l 1) t.is)) (record {
      some = n;
      refuted = λ box.
          ap (λ p. refuted_as (meaning_of p) (lefts box c.args)) e
          ∙ (ap (λ l. refuted_as (meaning_of ArrayIntMinimum) (lefts box l)) t.is
          ∙ least_tests box t.items (least_value (left_to box t.arg)) (greatest_value (left_to box t.arg)) n);
      own = λ box p q. over_own c box t p q;
    }))

pub greatest_open : (g : Game) (c : Rule) (box : Box) → list_all (λ x. is_domain x.domain) g.variables ≡ true → IsAsked g c box → c.pred ≡ ArrayIntMaximum → (is_open box (arg_at c.args 0) ≡ true) × (list_all (is_open box) (args_at c.args 1) ≡ true)
greatest_open g c box d a e = over_open g c box d a (greatest_args g.variables c a.rule e)

pub greatest_is : (xs : List Variable) (c : Rule) → is_constraint xs c ≡ true → c.pred ≡ ArrayIntMaximum → IsGreatest c (arg_at c.args 0) (args_at c.args 1)
greatest_is xs c h e =
    let t = greatest_args xs c h e in
    let n = some_of (length t.items) (ap (have_lengths (meaning_of ArrayIntMaximum)) (sym t.is) ∙ lengths_of xs c ArrayIntMaximum h e) in
    let A : Arg → Type 0 = λ z. IsGreatest c z (args_at c.args 1) in
    let S : List Arg → Type 0 = λ z. IsGreatest c t.arg z in
    subst A (sym (ap (λ l. arg_at l 0) t.is)) (subst S (sym (ap (λ l. args_at l 1) t.is)) (record {
      some = n;
      refuted = λ box.
          ap (λ p. refuted_as (meaning_of p) (lefts box c.args)) e
          ∙ (ap (λ l. refuted_as (meaning_of ArrayIntMaximum) (lefts box l)) t.is
          ∙ greatest_tests box t.items (least_value (left_to box t.arg)) (greatest_value (left_to box t.arg)) n);
      own = λ box p q. over_own c box t p q;
    }))

-- three arguments, each of its sort
record IsThree (xs : List Variable) (s t u : ArgKind) (args : List Argument) : Type 0 where
  left : Argument
  middle : Argument
  right : Argument
  is : args ≡ left ∷ middle ∷ right ∷ []
  left_is : is_of_sort xs s left ≡ true
  middle_is : is_of_sort xs t middle ≡ true
  right_is : is_of_sort xs u right ≡ true

three_of : (xs : List Variable) (s t u : ArgKind) (args : List Argument) → are_of_sorts xs (s ∷ t ∷ u ∷ []) args ≡ true → IsThree xs s t u args
three_of xs s t u [] h = cc
three_of xs s t u (a ∷ args) h =
    let p = two_of xs t u args (second (is_of_sort xs s a) (are_of_sorts xs (t ∷ u ∷ []) args) h) in
    record {
      left = a;
      middle = p.left;
      right = p.right;
      is = ap (λ l. a ∷ l) p.is;
      left_is = first (is_of_sort xs s a) (are_of_sorts xs (t ∷ u ∷ []) args) h;
      middle_is = p.left_is;
      right_is = p.right_is;
    }

one_boolean : (xs : List Variable) (a : Argument) → is_of_sort xs boolean a ≡ true → IsOne a
one_boolean xs (One a) h = record { it = a; is = refl }
one_boolean xs (Many items) h = cc
one_boolean xs (Numbers ns) h = cc
one_boolean xs (Members s) h = cc

-- an integer, a set and the truth value that tells of them
record IsToldSet (xs : List Variable) (args : List Argument) : Type 0 where
  arg : Arg
  set : Set
  last : Arg
  is : args ≡ One arg ∷ Members set ∷ One last ∷ []
  arg_is : is_integer xs arg ≡ true
  last_is : is_boolean xs last ≡ true
  ordered : is_set set ≡ true

told_set_of : (xs : List Variable) (c : Rule) → is_constraint xs c ≡ true → c.pred ≡ SetInReif → IsToldSet xs c.args
told_set_of xs c h e =
    let t = three_of xs integer members boolean c.args (sorts_of xs c SetInReif h e) in
    let a = one_integer xs t.left t.left_is in
    let s = some_members xs t.middle t.middle_is in
    let r = one_boolean xs t.right t.right_is in
    record {
      arg = a.it;
      set = s.it;
      last = r.it;
      is = t.is ∙ (ap (λ z. z ∷ t.middle ∷ t.right ∷ []) a.is ∙ (ap (λ z. One a.it ∷ z ∷ t.right ∷ []) s.is ∙ ap (λ z. One a.it ∷ Members s.it ∷ z ∷ []) r.is));
      arg_is = subst (λ z. is_of_sort xs integer z ≡ true) a.is t.left_is;
      last_is = subst (λ z. is_of_sort xs boolean z ≡ true) r.is t.right_is;
      ordered = subst (λ z. is_of_sort xs members z ≡ true) s.is t.middle_is;
    }

told_set_is : (xs : List Variable) (c : Rule) (s : Set) (t : IsToldSet xs c.args) → set_at c.args 1 ≡ Some s → t.set ≡ s
told_set_is xs c s t h = ap (λ o. the_set o s) (sym (ap (λ l. set_at l 1) t.is) ∙ h)

pub has_told_set : (xs : List Variable) (c : Rule) → is_constraint xs c ≡ true → c.pred ≡ SetInReif → set_at c.args 1 ≡ None → ⊥
has_told_set xs c h e n = let t = told_set_of xs c h e in none (sym (ap (λ l. set_at l 1) t.is) ∙ n)
  where
    none : {s : Set} → Some s ≡ None → ⊥
    none q = cc

pub told_set_ordered : (xs : List Variable) (c : Rule) (s : Set) → is_constraint xs c ≡ true → c.pred ≡ SetInReif → set_at c.args 1 ≡ Some s → is_set s ≡ true
told_set_ordered xs c s h e k = let t = told_set_of xs c h e in subst (λ z. is_set z ≡ true) (told_set_is xs c s t k) t.ordered

pub told_set_open : (g : Game) (c : Rule) (box : Box) → list_all (λ x. is_domain x.domain) g.variables ≡ true → IsAsked g c box → c.pred ≡ SetInReif → is_open box (arg_at c.args 0) ≡ true
told_set_open g c box d a e =
    let t = told_set_of g.variables c a.rule e in
    let u = ap (are_met box) (sym t.is) ∙ rule_met g box d a.declared a.full c a.rule in
    ap (λ l. is_open box (arg_at l 0)) t.is ∙ first (is_open box t.arg) (is_set t.set && (is_open box t.last && true)) u

-- an integer and a truth value are false_from_ne_true the same variable
pub sorts_apart : (xs : List Variable) (r a : Arg) → is_boolean xs r ≡ true → is_integer xs a ≡ true → same_variable r a ≡ false
sorts_apart xs (Num n) a h k = refl
sorts_apart xs (Var x) (Num n) h k = refl
sorts_apart xs (Var x) (Var y) h k = false_from_ne_true (y.0 == x.0) (λ e. no (slice_get xs x.0) h (ap (λ i. is_variable_with is_integer_domain (slice_get xs i)) (sym (same y.0 x.0 e)) ∙ k))
  where
    same : (a b : ℕ) → (a == b) ≡ true → a ≡ b
    same a b h = grind (arith, nat_tests)

    no : (o : Option Variable) → is_variable_with is_bits o ≡ true → is_variable_with is_integer_domain o ≡ true → ⊥
    no None h k = cc
    no (Some x) h k = by (is_bits x.domain) h k
      where
        by : (b : Bool) → b ≡ true → not b ≡ true → ⊥
        by true h k = cc
        by false h k = cc

-- what it says, once one answer is left
told_as : (c : Rule) (box : Box) (t : Bool) → c.pred ≡ SetInReif → left_to box (last_arg c.args) ≡ truth_of t ∷ [] → refuted_by c box ≡ cond t (refuted_as member (lefts box c.args)) (entailed_as member (lefts box c.args))
told_as c box t e h =
    let args = lefts box c.args in
    ap (λ p. refuted_as (meaning_of p) args) e
    ∙ (ap (λ d. (not (has_value d (pos 1)) || refuted_as member args) && (not (has_value d (pos 0)) || entailed_as member args)) (last_written box c.args ∙ h)
    ∙ by t (refuted_as member args) (entailed_as member args))
  where
    by : (t p q : Bool) → ((not (has_value (truth_of t ∷ []) (pos 1)) || p) && (not (has_value (truth_of t ∷ []) (pos 0)) || q)) ≡ cond t p q
    by true true q = refl
    by true false q = refl
    by false p q = refl

pub told_member : (xs : List Variable) (c : Rule) (s : Set) → is_constraint xs c ≡ true → c.pred ≡ SetInReif → set_at c.args 1 ≡ Some s → IsToldMember c (arg_at c.args 0) s (last_arg c.args)
told_member xs c s h e k =
    let t = told_set_of xs c h e in
    let set_is = told_set_is xs c s t k in
    let arg = ap (λ l. arg_at l 0) t.is in
    let last = ap last_arg t.is in
    let A : Arg → Type 0 = λ z. IsToldMember c z s (last_arg c.args) in
    let S : Set → Type 0 = λ z. IsToldMember c t.arg z (last_arg c.args) in
    subst A (sym arg) (subst S set_is (record {
      apart = subst (λ z. same_variable z t.arg ≡ false) (sym last) (sorts_apart xs t.last t.arg t.last_is t.arg_is);
      told = λ box b h. told_as c box b e h ∙ (ap (λ l. cond b (refuted_as member (lefts box l)) (entailed_as member (lefts box l))) t.is ∙ answers b t.set (left_to box t.arg));
      own = λ box p q.
          keeps_all c box
          (ap (list_all (keeps_argument c box)) t.is
          ∙ and_from (keeps_arg c box t.arg) (keeps_arg c box t.last && true) p (and_from (keeps_arg c box t.last) true (subst (λ z. keeps_arg c box z ≡ true) last q) refl));
    }))
  where
    answers : (b : Bool) (z : Set) (d : Values) → cond b (not (list_any (set_has z) d)) (list_all (set_has z) d) ≡ not (list_any (is_wanted b z) d)
    answers true z d = refl
    answers false z d = sym (all_passed (set_has z) d)

record IsNumbers (a : Argument) : Type 0 where
  ns : List ℤ
  is : a ≡ Numbers ns
  few : length ns ≤ 100000

some_numbers : (xs : List Variable) (a : Argument) → is_of_sort xs numbers a ≡ true → IsNumbers a
some_numbers xs (One a) h = cc
some_numbers xs (Many items) h = cc
some_numbers xs (Numbers ns) h = record { ns = ns; is = refl; few = leb-true (length ns) 100000 (first (nat_le (length ns) 100000) (list_all is_number ns) h) }
some_numbers xs (Members s) h = cc

some_truths : (xs : List Variable) (a : Argument) → is_of_sort xs truths a ≡ true → IsNumbers a
some_truths xs (One a) h = cc
some_truths xs (Many items) h = cc
some_truths xs (Numbers ns) h = record { ns = ns; is = refl; few = leb-true (length ns) 100000 (first (nat_le (length ns) 100000) (list_all is_truth ns) h) }
some_truths xs (Members s) h = cc

-- a place, numbers, and a number
record IsPlaced (args : List Argument) : Type 0 where
  place : Arg
  ns : List ℤ
  last : Arg
  is : args ≡ One place ∷ Numbers ns ∷ One last ∷ []
  few : length ns ≤ 100000

placed : (args : List Argument) (a b d : Argument) → args ≡ a ∷ b ∷ d ∷ [] → IsOne a → IsNumbers b → IsOne d → IsPlaced args
placed args a b d e p q r = record {
  place = p.it;
  ns = q.ns;
  last = r.it;
  is = e ∙ (ap (λ z. z ∷ b ∷ d ∷ []) p.is ∙ (ap (λ z. One p.it ∷ z ∷ d ∷ []) q.is ∙ ap (λ z. One p.it ∷ Numbers q.ns ∷ z ∷ []) r.is));
  few = q.few;
}

element_of : (xs : List Variable) (c : Rule) → is_constraint xs c ≡ true → (c.pred ≡ ArrayIntElement) ⊎ (c.pred ≡ ArrayBoolElement) → IsPlaced c.args
element_of xs c h (inl e) =
    let t = three_of xs integer numbers integer c.args (sorts_of xs c ArrayIntElement h e) in
    placed c.args t.left t.middle t.right t.is (one_integer xs t.left t.left_is) (some_numbers xs t.middle t.middle_is) (one_integer xs t.right t.right_is)
element_of xs c h (inr e) =
    let t = three_of xs integer truths boolean c.args (sorts_of xs c ArrayBoolElement h e) in
    placed c.args t.left t.middle t.right t.is (one_integer xs t.left t.left_is) (some_truths xs t.middle t.middle_is) (one_boolean xs t.right t.right_is)

element_meant : (c : Rule) → (c.pred ≡ ArrayIntElement) ⊎ (c.pred ≡ ArrayBoolElement) → meaning_of c.pred ≡ element
element_meant c (inl e) = ap meaning_of e
element_meant c (inr e) = ap meaning_of e

pub element_open : (g : Game) (c : Rule) (box : Box) → list_all (λ x. is_domain x.domain) g.variables ≡ true → IsAsked g c box → (c.pred ≡ ArrayIntElement) ⊎ (c.pred ≡ ArrayBoolElement) → (is_open box (arg_at c.args 0) ≡ true) × (is_open box (arg_at c.args 2) ≡ true)
element_open g c box d a e =
    let t = element_of g.variables c a.rule e in
    let u = ap (are_met box) (sym t.is) ∙ rule_met g box d a.declared a.full c a.rule in
    let v = second (is_open box t.place) (list_all is_number t.ns && (is_open box t.last && true)) u in
    let w = second (list_all is_number t.ns) (is_open box t.last && true) v in (
      ap (λ l. is_open box (arg_at l 0)) t.is ∙ first (is_open box t.place) (list_all is_number t.ns && (is_open box t.last && true)) u,
      ap (λ l. is_open box (arg_at l 2)) t.is ∙ first (is_open box t.last) true w,
    )

pub element_is : (xs : List Variable) (c : Rule) → is_constraint xs c ≡ true → (c.pred ≡ ArrayIntElement) ⊎ (c.pred ≡ ArrayBoolElement) → same_variable (arg_at c.args 0) (arg_at c.args 2) ≡ false → IsElement c (arg_at c.args 0) (ints_at c.args 1) (arg_at c.args 2)
element_is xs c h e s =
    let t = element_of xs c h e in
    record {
      apart = s;
      refuted = λ box.
          ap (λ m. refuted_as m (lefts box c.args)) (element_meant c e)
          ∙ (ap (λ d. not (some_item_in (pos 1) d (numbers_in (lefts box c.args) 1) (left_at (lefts box c.args) 2))) (left_written box c.args 0)
          ∙ (ap (λ ns. not (some_item_in (pos 1) (left_to box (arg_at c.args 0)) ns (left_at (lefts box c.args) 2))) (numbers_written box c.args 1)
          ∙ ap (λ d. not (some_item_in (pos 1) (left_to box (arg_at c.args 0)) (ints_at c.args 1) d)) (left_written box c.args 2)));
      own = λ box p q.
          keeps_all c box
          (ap (list_all (keeps_argument c box)) t.is
          ∙ and_from (keeps_arg c box t.place) (keeps_arg c box t.last && true) (ap (λ l. keeps_arg c box (arg_at l 0)) (sym t.is) ∙ p)
          (and_from (keeps_arg c box t.last) true (ap (λ l. keeps_arg c box (arg_at l 2)) (sym t.is) ∙ q) refl));
    }

-- an array and numbers
record IsOverRows (args : List Argument) : Type 0 where
  items : List Arg
  ns : List ℤ
  is : args ≡ Many items ∷ Numbers ns ∷ []

over_rows : (xs : List Variable) (c : Rule) → is_constraint xs c ≡ true → c.pred ≡ TableInt → IsOverRows c.args
over_rows xs c h e =
    let t = two_of xs integers numbers c.args (sorts_of xs c TableInt h e) in
    let m = many_integers xs t.left t.left_is in
    let n = some_numbers xs t.right t.right_is in
    record { items = m.items; ns = n.ns; is = t.is ∙ (ap (λ z. z ∷ t.right ∷ []) m.is ∙ ap (λ z. Many m.items ∷ z ∷ []) n.is) }

pub table_open : (g : Game) (c : Rule) (box : Box) → list_all (λ x. is_domain x.domain) g.variables ≡ true → IsAsked g c box → c.pred ≡ TableInt → list_all (is_open box) (args_at c.args 0) ≡ true
table_open g c box d a e =
    let t = over_rows g.variables c a.rule e in
    let u = ap (are_met box) (sym t.is) ∙ rule_met g box d a.declared a.full c a.rule in
    let v = first (is_met box (Many t.items)) (list_all is_number t.ns && true) u in
    ap (λ l. list_all (is_open box) (args_at l 0)) t.is ∙ second (nat_le (length t.items) 1000) (list_all (is_open box) t.items) v

pub table_is : (xs : List Variable) (c : Rule) → is_constraint xs c ≡ true → c.pred ≡ TableInt → has_repeat (args_at c.args 0) ≡ false → IsTable c (args_at c.args 0) (rows (length (args_at c.args 0)) (ints_at c.args 1))
table_is xs c h e s =
    let t = over_rows xs c h e in
    let items = args_at c.args 0 in
    record {
      once = s;
      refuted = λ box.
          ap (λ p. refuted_as (meaning_of p) (lefts box c.args)) e
          ∙ (ap (λ ds. not (list_any (row_fits ds) (rows (length ds) (numbers_in (lefts box c.args) 1)))) (lefts_written box c.args 0)
          ∙ (ap (λ ns. not (list_any (row_fits (map (left_to box) items)) (rows (length (map (left_to box) items)) ns))) (numbers_written box c.args 1)
          ∙ ap (λ w. not (list_any (row_fits (map (left_to box) items)) (rows w (ints_at c.args 1)))) (length-map items (left_to box))));
      own = λ box q.
          keeps_all c box
          (ap (list_all (keeps_argument c box)) t.is
          ∙ and_from (list_all (keeps_arg c box) t.items) true (ap (λ l. list_all (keeps_arg c box) (args_at l 0)) (sym t.is) ∙ q) refl);
    }

-- a place, items, and an item
record IsChosen (args : List Argument) : Type 0 where
  place : Arg
  items : List Arg
  last : Arg
  is : args ≡ One place ∷ Many items ∷ One last ∷ []

chosen : (args : List Argument) (a b d : Argument) → args ≡ a ∷ b ∷ d ∷ [] → IsOne a → IsMany b → IsOne d → IsChosen args
chosen args a b d e p q r = record {
  place = p.it;
  items = q.items;
  last = r.it;
  is = e ∙ (ap (λ z. z ∷ b ∷ d ∷ []) p.is ∙ (ap (λ z. One p.it ∷ z ∷ d ∷ []) q.is ∙ ap (λ z. One p.it ∷ Many q.items ∷ z ∷ []) r.is));
}

many_booleans : (xs : List Variable) (a : Argument) → is_of_sort xs booleans a ≡ true → IsMany a
many_booleans xs (One a) h = cc
many_booleans xs (Many items) h = record { items = items; is = refl }
many_booleans xs (Numbers ns) h = cc
many_booleans xs (Members s) h = cc

choice_of : (xs : List Variable) (c : Rule) → is_constraint xs c ≡ true → (c.pred ≡ ArrayVarIntElement) ⊎ (c.pred ≡ ArrayVarBoolElement) → IsChosen c.args
choice_of xs c h (inl e) =
    let t = three_of xs integer integers integer c.args (sorts_of xs c ArrayVarIntElement h e) in
    chosen c.args t.left t.middle t.right t.is (one_integer xs t.left t.left_is) (many_integers xs t.middle t.middle_is) (one_integer xs t.right t.right_is)
choice_of xs c h (inr e) =
    let t = three_of xs integer booleans boolean c.args (sorts_of xs c ArrayVarBoolElement h e) in
    chosen c.args t.left t.middle t.right t.is (one_integer xs t.left t.left_is) (many_booleans xs t.middle t.middle_is) (one_boolean xs t.right t.right_is)

choice_meant : (c : Rule) → (c.pred ≡ ArrayVarIntElement) ⊎ (c.pred ≡ ArrayVarBoolElement) → meaning_of c.pred ≡ variable_element
choice_meant c (inl e) = ap meaning_of e
choice_meant c (inr e) = ap meaning_of e

-- what is left to the three
pub record AreOpen (box : Box) (args : List Argument) : Type 0 where
  pub first : is_open box (arg_at args 0) ≡ true
  pub items : list_all (is_open box) (args_at args 1) ≡ true
  pub few : length (args_at args 1) ≤ 1000
  pub last : is_open box (arg_at args 2) ≡ true

pub choice_open : (g : Game) (c : Rule) (box : Box) → list_all (λ x. is_domain x.domain) g.variables ≡ true → IsAsked g c box → (c.pred ≡ ArrayVarIntElement) ⊎ (c.pred ≡ ArrayVarBoolElement) → AreOpen box c.args
choice_open g c box d a e =
    let t = choice_of g.variables c a.rule e in
    let u = ap (are_met box) (sym t.is) ∙ rule_met g box d a.declared a.full c a.rule in
    let many = is_met box (Many t.items) in
    let v = second (is_open box t.place) (many && (is_open box t.last && true)) u in
    let m = first many (is_open box t.last && true) v in
    record {
      first = ap (λ l. is_open box (arg_at l 0)) t.is ∙ first (is_open box t.place) (many && (is_open box t.last && true)) u;
      items = ap (λ l. list_all (is_open box) (args_at l 1)) t.is ∙ second (nat_le (length t.items) 1000) (list_all (is_open box) t.items) m;
      few = subst (λ l. length (args_at l 1) ≤ 1000) (sym t.is) (leb-true (length t.items) 1000 (first (nat_le (length t.items) 1000) (list_all (is_open box) t.items) m));
      last = ap (λ l. is_open box (arg_at l 2)) t.is ∙ first (is_open box t.last) true (second many (is_open box t.last && true) v);
    }

pub choice_is : (xs : List Variable) (c : Rule) → is_constraint xs c ≡ true → (c.pred ≡ ArrayVarIntElement) ⊎ (c.pred ≡ ArrayVarBoolElement) → has_repeat (arg_at c.args 0 ∷ arg_at c.args 2 ∷ args_at c.args 1) ≡ false →
    IsChoice c (arg_at c.args 0) (args_at c.args 1) (arg_at c.args 2)
choice_is xs c h e s =
    let t = choice_of xs c h e in
    record {
      once = s;
      refuted = λ box.
          ap (λ m. refuted_as m (lefts box c.args)) (choice_meant c e)
          ∙ (ap (λ d. not (some_item_meets (pos 1) d (lefts_at (lefts box c.args) 1) (left_at (lefts box c.args) 2))) (left_written box c.args 0)
          ∙ (ap (λ ds. not (some_item_meets (pos 1) (left_to box (arg_at c.args 0)) ds (left_at (lefts box c.args) 2))) (lefts_written box c.args 1)
          ∙ ap (λ d. not (some_item_meets (pos 1) (left_to box (arg_at c.args 0)) (map (left_to box) (args_at c.args 1)) d)) (left_written box c.args 2)));
      own = λ box p q r.
          keeps_all c box
          (ap (list_all (keeps_argument c box)) t.is
          ∙ and_from (keeps_arg c box t.place) (list_all (keeps_arg c box) t.items && (keeps_arg c box t.last && true)) (ap (λ l. keeps_arg c box (arg_at l 0)) (sym t.is) ∙ p)
          (and_from (list_all (keeps_arg c box) t.items) (keeps_arg c box t.last && true) (ap (λ l. list_all (keeps_arg c box) (args_at l 1)) (sym t.is) ∙ q)
          (and_from (keeps_arg c box t.last) true (ap (λ l. keeps_arg c box (arg_at l 2)) (sym t.is) ∙ r) refl)));
    }
