-- The arguments of a problem's constraint are met on each box of its values without an empty domain.
use Rattle.std.proofs.Common.{◌≡◌, ℕ, zero, suc, ◌<◌, ◌-◌, Bool, true, false, not, ◌&&◌, ◌||◌, List, [], ◌∷◌, length, refl, subst, sym, ap, ℤ}
use Rattle.std.specs.Prelude.{nat_le, pos, slice_get}
use Rattle.std.specs.List.{list_all}
use Rattle.std.specs.Ordering.{int_eq}
use Rattle.std.proofs.lemmas.Bool.Decides.{Decides-int_eq}
use Rattle.qc_model.specs.declared.problem.Domain.{Domain}
use Rattle.qc_model.specs.declared.problem.Arg.{Arg}
use Rattle.qc_model.specs.declared.problem.Arg.TheVariants.{Var, Num}
use Rattle.qc_model.specs.declared.problem.Argument.{Argument}
use Rattle.qc_model.specs.declared.problem.Argument.TheVariants.{One, Many, Numbers, Members}
use Rattle.qc_model.specs.declared.problem.Variable.{Variable}
use Rattle.qc_model.specs.Arguments.{fill, as_one}
use Rattle.qc_model.specs.Content.{Game, Rule}
use Rattle.qc_model.specs.Domains.{Box, domain_values, declared_box, values_left, values_within, box_within, is_sub_box, has_empty, is_none_left, is_ascending}
use Rattle.qc_model.specs.Left.{left_at, last_left}
use Rattle.qc_model.specs.Refuted.{left_to}
use Rattle.qc_model.specs.Meaning.{meaning_of}
use Rattle.qc_model.specs.declared.signature.ArgKind.{ArgKind}
use Rattle.qc_model.specs.declared.signature.ArgKind.TheVariants.{Integer as integer, Boolean as boolean, Integers as integers, Booleans as booleans, Numbers as numbers, Truths as truths, Members as members}
use Rattle.qc_model.specs.Signature.{arg_kinds_of}
use Rattle.qc_model.specs.Valid.{is_number, is_truth, is_domain, is_integer_domain, is_bits, is_integer, is_boolean, is_of_sort, are_of_sorts, have_lengths, argument_sees, is_constraint, is_variable_with}
use Rattle.qc_model.proofs.Readable.{first, second}
use Rattle.model_arguments.proofs.Last.{last_place}
use Rattle.model_arguments.specs.Asked.{IsAsked}
use Rattle.model_arguments.proofs.Boxes.{some_left, sub_ascending, sub_length, left_small, sub_within, set_full}
use Rattle.std.proofs.lemmas.List.{length-map}
use Rattle.std.proofs.Common.{arith}
use Rattle.std.proofs.lemmas.Bool.{not_from_false, and_from}
use Rattle.qc_refuter.specs.Met.{lefts, is_domain_left, is_open, is_met, are_met}

placed : (p : Domain → Bool) (xs : List Variable) (k : ℕ) → is_variable_with p (slice_get xs k) ≡ true → k < length xs
placed p [] zero h = cc
placed p [] (suc k) h = cc
placed p (x ∷ xs) zero h = omega arith
placed p (x ∷ xs) (suc k) h = omega (arith, placed p xs k h)

truth_is_number : (n : ℤ) → is_truth n ≡ true → is_number n ≡ true
truth_is_number n h = cases (int_eq n (pos 0)) (Decides-int_eq n (pos 0)).0 h
  where
    cases : (b : Bool) → (b ≡ true → n ≡ pos 0) → (b || int_eq n (pos 1)) ≡ true → is_number n ≡ true
    cases true zero_if k = subst (λ m. is_number m ≡ true) (sym (zero_if refl)) refl
    cases false zero_if k = subst (λ m. is_number m ≡ true) (sym ((Decides-int_eq n (pos 1)).0 k)) refl

all_weaker : {X : Type 0} (p q : X → Bool) → ((x : X) → p x ≡ true → q x ≡ true) → (xs : List X) → list_all p xs ≡ true → list_all q xs ≡ true
all_weaker p q step [] h = refl
all_weaker p q step (x ∷ xs) h =
    and_from (q x) (list_all q xs) (step x (first (p x) (list_all p xs) h)) (all_weaker p q step xs (second (p x) (list_all p xs) h))

module _ (g : Game) (box : Box) (d : list_all (λ x. is_domain x.domain) g.variables ≡ true) (s : is_sub_box box (declared_box g) ≡ true) (f : has_empty box ≡ false) where
  pub var_open : (k : ℕ) → k < length g.variables → is_domain_left (values_left box k) ≡ true
  var_open k h =
      let vs = values_left box k in
      let l : k < length box = omega (arith, sub_length box (declared_box g) s, length-map g.variables (λ x. domain_values x.domain), h) in
      and_from (not (is_none_left vs) && is_ascending vs) (list_all is_number vs)
      (and_from (not (is_none_left vs)) (is_ascending vs) (not_from_false (is_none_left vs) (some_left box k f l)) (sub_ascending box (declared_box g) k s))
      (left_small g box k d s)

  literal_open : (n : ℤ) → is_number n ≡ true → is_domain_left (n ∷ []) ≡ true
  literal_open n h = and_from (is_number n) true h refl

  integer_open : (a : Arg) → is_integer g.variables a ≡ true → is_open box a ≡ true
  integer_open (Var x) h = var_open x.0 (placed is_integer_domain g.variables x.0 h)
  integer_open (Num n) h = literal_open n h

  boolean_open : (a : Arg) → is_boolean g.variables a ≡ true → is_open box a ≡ true
  boolean_open (Var x) h = var_open x.0 (placed is_bits g.variables x.0 h)
  boolean_open (Num n) h = literal_open n (truth_is_number n h)

  items_met : (p : Arg → Bool) → ((a : Arg) → p a ≡ true → is_open box a ≡ true) → (items : List Arg) → (nat_le (length items) 1000 && list_all p items) ≡ true → is_met box (Many (items)) ≡ true
  items_met p step items h =
      and_from (nat_le (length items) 1000) (list_all (is_open box) items)
      (first (nat_le (length items) 1000) (list_all p items) h)
      (all_weaker p (is_open box) step items (second (nat_le (length items) 1000) (list_all p items) h))

  argument_met : (s : ArgKind) (a : Argument) → is_of_sort g.variables s a ≡ true → is_met box a ≡ true
  argument_met integer (One a) h = integer_open a h
  argument_met boolean (One a) h = boolean_open a h
  argument_met integers (One a) h = cc
  argument_met booleans (One a) h = cc
  argument_met numbers (One a) h = cc
  argument_met truths (One a) h = cc
  argument_met members (One a) h = cc
  argument_met integers (Many items) h = items_met (is_integer g.variables) integer_open items h
  argument_met booleans (Many items) h = items_met (is_boolean g.variables) boolean_open items h
  argument_met integer (Many items) h = cc
  argument_met boolean (Many items) h = cc
  argument_met numbers (Many items) h = cc
  argument_met truths (Many items) h = cc
  argument_met members (Many items) h = cc
  argument_met numbers (Numbers ns) h = second (nat_le (length ns) 100000) (list_all is_number ns) h
  argument_met truths (Numbers ns) h = all_weaker is_truth is_number truth_is_number ns (second (nat_le (length ns) 100000) (list_all is_truth ns) h)
  argument_met integer (Numbers ns) h = cc
  argument_met boolean (Numbers ns) h = cc
  argument_met integers (Numbers ns) h = cc
  argument_met booleans (Numbers ns) h = cc
  argument_met members (Numbers ns) h = cc
  argument_met members (Members m) h = h
  argument_met integer (Members m) h = cc
  argument_met boolean (Members m) h = cc
  argument_met integers (Members m) h = cc
  argument_met booleans (Members m) h = cc
  argument_met numbers (Members m) h = cc
  argument_met truths (Members m) h = cc

  arguments_met : (sorts : List ArgKind) (args : List Argument) → are_of_sorts g.variables sorts args ≡ true → are_met box args ≡ true
  arguments_met [] [] h = refl
  arguments_met [] (a ∷ args) h = cc
  arguments_met (s ∷ sorts) [] h = cc
  arguments_met (s ∷ sorts) (a ∷ args) h =
      and_from (is_met box a) (are_met box args)
      (argument_met s a (first (is_of_sort g.variables s a) (are_of_sorts g.variables sorts args) h))
      (arguments_met sorts args (second (is_of_sort g.variables s a) (are_of_sorts g.variables sorts args) h))

  pub rule_met : (c : Rule) → is_constraint g.variables c ≡ true → are_met box c.args ≡ true
  rule_met c h =
      let sorted = are_of_sorts g.variables (arg_kinds_of c.pred) c.args in
      let lengths = have_lengths (meaning_of c.pred) c.args in
      arguments_met (arg_kinds_of c.pred) c.args (first sorted lengths (first (sorted && lengths) (list_all (argument_sees g.variables c.owner.0) c.args) h))

pub within_met : (g : Game) (c : Rule) (box : Box) (x : ℕ) (lo hi : ℤ) → list_all (λ x. is_domain x.domain) g.variables ≡ true → IsAsked g c box → is_none_left (values_within lo hi (values_left box x)) ≡ false →
    are_met (box_within box x lo hi) c.args ≡ true
within_met g c box x lo hi d a n =
    rule_met g (box_within box x lo hi) d (sub_within box (declared_box g) x lo hi a.declared) (set_full box x (values_within lo hi (values_left box x)) a.full n) c a.rule

pub last_met_at : (box : Box) (args : List Argument) → left_at (lefts box args) (length args - 1) ≡ last_left (lefts box args)
last_met_at box args = ap (as_one (pos 0 ∷ [])) (last_place (fill (left_to box)) args)
