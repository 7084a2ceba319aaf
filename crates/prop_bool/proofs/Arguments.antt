-- The arguments of a constraint of truth values.
use Rattle.std.proofs.Common.{◌≡◌, ℕ, zero, suc, ◌≤◌, ◌+◌, Bool, true, false, not, ◌&&◌, ◌||◌, List, [], ◌∷◌, length, map, length-append, refl, ap, ◌∙◌, subst, Some}
use Rattle.std.specs.Prelude.{pos, slice_get, nat_le}
use Rattle.std.specs.List.{list_all, list_any}
use Rattle.std.specs.Ordering.{int_eq}
use Rattle.std.proofs.lemmas.Bool.{leb-true, and_from}
use Rattle.std.proofs.lemmas.List.{length-map}
use Rattle.std.proofs.lemmas.List.Folds.{list_all-append, list_any-append}
use Rattle.qc_model.specs.declared.problem.Arg.{Arg}
use Rattle.qc_model.specs.declared.problem.Arg.TheVariants.{Var, Num}
use Rattle.qc_model.specs.declared.problem.Argument.{Argument}
use Rattle.qc_model.specs.declared.problem.Argument.TheVariants.{One, Many, Numbers, Members}
use Rattle.qc_model.specs.declared.problem.Domain.{Domain}
use Rattle.qc_model.specs.declared.problem.Domain.TheVariants.{Bits, Range, Listed}
use Rattle.qc_model.specs.declared.problem.Variable.{Variable}
use Rattle.qc_model.specs.declared.signature.ArgKind.{ArgKind}
use Rattle.qc_model.specs.declared.signature.ArgKind.TheVariants.{Boolean as boolean, Booleans as booleans}
use Rattle.qc_model.specs.Content.{Game, Rule}
use Rattle.qc_model.specs.Domains.{Values, Box, domain_values, values_left, has_value, has_empty, is_none_left, is_ascending, is_sub_box}
use Rattle.qc_model.specs.Meaning.{meaning_of}
use Rattle.qc_model.specs.Refuted.{left_to}
use Rattle.qc_model.specs.Signature.{arg_kinds_of}
use Rattle.qc_model.specs.Valid.{is_truth, is_bits, is_boolean, is_variable_with, is_of_sort, are_of_sorts, have_lengths, argument_sees}
use Rattle.qc_model.proofs.Readable.{first, second}
use Rattle.model_arguments.specs.Asked.{IsAsked}
use Rattle.model_arguments.specs.Written.{arg_at, args_at}
use Rattle.prop_bool.specs.declared.literals.Literal.{Literal}
use Rattle.prop_bool.specs.Literals.{is_truth_left, is_truth_at, plain, negated, literals}

-- by place
pub items_boolean : (xs : List Variable) (kinds : List ArgKind) (args : List Argument) (k : ℕ) → are_of_sorts xs kinds args ≡ true → slice_get kinds k ≡ Some booleans →
    (nat_le (length (args_at args k)) 1000 && list_all (is_boolean xs) (args_at args k)) ≡ true
items_boolean xs [] args zero h e = cc
items_boolean xs [] args (suc k) h e = cc
items_boolean xs (s ∷ kinds) [] k h e = cc
items_boolean xs (s ∷ kinds) (a ∷ args) (suc k) h e = items_boolean xs kinds args k (second (is_of_sort xs s a) (are_of_sorts xs kinds args) h) e
items_boolean xs (s ∷ kinds) (a ∷ args) zero h e = by a (subst (λ t. is_of_sort xs t a ≡ true) (the e) (first (is_of_sort xs s a) (are_of_sorts xs kinds args) h))
  where
    the : Some s ≡ Some booleans → s ≡ booleans
    the e = cc

    by : (a : Argument) → is_of_sort xs booleans a ≡ true → (nat_le (length (args_at (a ∷ args) 0)) 1000 && list_all (is_boolean xs) (args_at (a ∷ args) 0)) ≡ true
    by (One b) h = cc
    by (Many items) h = h
    by (Numbers ns) h = cc
    by (Members m) h = cc

pub one_boolean : (xs : List Variable) (kinds : List ArgKind) (args : List Argument) (k : ℕ) → are_of_sorts xs kinds args ≡ true → slice_get kinds k ≡ Some boolean → is_boolean xs (arg_at args k) ≡ true
one_boolean xs [] args zero h e = cc
one_boolean xs [] args (suc k) h e = cc
one_boolean xs (s ∷ kinds) [] k h e = cc
one_boolean xs (s ∷ kinds) (a ∷ args) (suc k) h e = one_boolean xs kinds args k (second (is_of_sort xs s a) (are_of_sorts xs kinds args) h) e
one_boolean xs (s ∷ kinds) (a ∷ args) zero h e = by a (subst (λ t. is_of_sort xs t a ≡ true) (the e) (first (is_of_sort xs s a) (are_of_sorts xs kinds args) h))
  where
    the : Some s ≡ Some boolean → s ≡ boolean
    the e = cc

    by : (a : Argument) → is_of_sort xs boolean a ≡ true → is_boolean xs (arg_at (a ∷ args) 0) ≡ true
    by (One b) h = h
    by (Many items) h = cc
    by (Numbers ns) h = cc
    by (Members m) h = cc

pub sorted : (g : Game) (c : Rule) (box : Box) → IsAsked g c box → are_of_sorts g.variables (arg_kinds_of c.pred) c.args ≡ true
sorted g c box a =
    let s = are_of_sorts g.variables (arg_kinds_of c.pred) c.args in
    let l = have_lengths (meaning_of c.pred) c.args in
    first s l (first (s && l) (list_all (argument_sees g.variables c.owner.0) c.args) a.rule)

-- what is left of one
of_bits : (d : Values) → list_all (has_value (pos 0 ∷ pos 1 ∷ [])) d ≡ true → list_all is_truth d ≡ true
of_bits [] h = refl
of_bits (v ∷ d) h =
    and_from (is_truth v) (list_all is_truth d) (one (int_eq v (pos 0)) (int_eq v (pos 1)) (first (has_value (pos 0 ∷ pos 1 ∷ []) v) (list_all (has_value (pos 0 ∷ pos 1 ∷ [])) d) h))
    (of_bits d (second (has_value (pos 0 ∷ pos 1 ∷ []) v) (list_all (has_value (pos 0 ∷ pos 1 ∷ [])) d) h))
  where
    one : (a b : Bool) → (a || (b || false)) ≡ true → (a || b) ≡ true
    one true b h = refl
    one false true h = refl
    one false false h = cc

variable_truth : (xs : List Variable) (box : Box) (k : ℕ) → is_variable_with is_bits (slice_get xs k) ≡ true → is_sub_box box (map (λ x. domain_values x.domain) xs) ≡ true → has_empty box ≡ false → is_truth_left (values_left box k) ≡ true
variable_truth [] box zero b s f = cc
variable_truth [] box (suc k) b s f = cc
variable_truth (x ∷ xs) [] k b s f = cc
variable_truth (x ∷ xs) (d ∷ box) (suc k) b s f =
    variable_truth xs box k b (second (is_ascending d && list_all (has_value (domain_values x.domain)) d) (is_sub_box box (map (λ y. domain_values y.domain) xs)) s) (rest (is_none_left d) (has_empty box) f)
  where
    rest : (a b : Bool) → (a || b) ≡ false → b ≡ false
    rest true b h = cc
    rest false b h = h
variable_truth (x ∷ xs) (d ∷ box) zero b s f =
    let e = domain_values x.domain in
    let p = first (is_ascending d && list_all (has_value e) d) (is_sub_box box (map (λ y. domain_values y.domain) xs)) s in
    and_from (not (is_none_left d) && is_ascending d) (list_all is_truth d)
    (and_from (not (is_none_left d)) (is_ascending d) (some (is_none_left d) (has_empty box) f) (first (is_ascending d) (list_all (has_value e) d) p))
    (of_bits d (subst (λ vs. list_all (has_value vs) d ≡ true) (bits x b) (second (is_ascending d) (list_all (has_value e) d) p)))
  where
    some : (a b : Bool) → (a || b) ≡ false → not a ≡ true
    some true b h = cc
    some false b h = refl

    bits : (x : Variable) → is_bits x.domain ≡ true → domain_values x.domain ≡ pos 0 ∷ pos 1 ∷ []
    bits x h = of x.domain h
      where
        of : (e : Domain) → is_bits e ≡ true → domain_values e ≡ pos 0 ∷ pos 1 ∷ []
        of Bits h = refl
        of (Range low high) h = cc
        of (Listed ns) h = cc

pub truth_of : (g : Game) (c : Rule) (box : Box) → IsAsked g c box → (a : Arg) → is_boolean g.variables a ≡ true → is_truth_left (left_to box a) ≡ true
truth_of g c box a (Var x) h = variable_truth g.variables box x.0 h a.declared a.full
truth_of g c box a (Num n) h = and_from true (is_truth n && true) refl (and_from (is_truth n) true h refl)

pub truths_of : (g : Game) (c : Rule) (box : Box) → IsAsked g c box → (f : Arg → Literal) → ((b : Arg) → (f b).arg ≡ b) → (xs : List Arg) → list_all (is_boolean g.variables) xs ≡ true → list_all (is_truth_at box) (map f xs) ≡ true
truths_of g c box a f e [] h = refl
truths_of g c box a f e (b ∷ xs) h =
    and_from (is_truth_at box (f b)) (list_all (is_truth_at box) (map f xs))
    (ap (λ z. is_truth_left (left_to box z)) (e b) ∙ truth_of g c box a b (first (is_boolean g.variables b) (list_all (is_boolean g.variables) xs) h))
    (truths_of g c box a f e xs (second (is_boolean g.variables b) (list_all (is_boolean g.variables) xs) h))

-- tests of literals are tests of the arguments
all_mapped : (p : Literal → Bool) (f : Arg → Literal) (xs : List Arg) → list_all p (map f xs) ≡ list_all (λ a. p (f a)) xs
all_mapped p f [] = refl
all_mapped p f (a ∷ xs) = ap (λ b. p (f a) && b) (all_mapped p f xs)

any_mapped : (p : Literal → Bool) (f : Arg → Literal) (xs : List Arg) → list_any p (map f xs) ≡ list_any (λ a. p (f a)) xs
any_mapped p f [] = refl
any_mapped p f (a ∷ xs) = ap (λ b. p (f a) || b) (any_mapped p f xs)

pub all_literals : (p : Literal → Bool) (xs ys : List Arg) → list_all p (literals xs ys) ≡ (list_all (λ a. p (plain a)) xs && list_all (λ a. p (negated a)) ys)
all_literals p xs ys = list_all-append p (map plain xs) (map negated ys) ∙ (ap (λ b. b && list_all p (map negated ys)) (all_mapped p plain xs) ∙ ap (λ b. list_all (λ a. p (plain a)) xs && b) (all_mapped p negated ys))

pub any_literals : (p : Literal → Bool) (xs ys : List Arg) → list_any p (literals xs ys) ≡ (list_any (λ a. p (plain a)) xs || list_any (λ a. p (negated a)) ys)
any_literals p xs ys = list_any-append p (map plain xs) (map negated ys) ∙ (ap (λ b. b || list_any p (map negated ys)) (any_mapped p plain xs) ∙ ap (λ b. list_any (λ a. p (plain a)) xs || b) (any_mapped p negated ys))

-- and tests of what a box leaves to them
pub all_left : (p : Values → Bool) (box : Box) (xs : List Arg) → list_all p (map (left_to box) xs) ≡ list_all (λ a. p (left_to box a)) xs
all_left p box [] = refl
all_left p box (a ∷ xs) = ap (λ b. p (left_to box a) && b) (all_left p box xs)

pub any_left : (p : Values → Bool) (box : Box) (xs : List Arg) → list_any p (map (left_to box) xs) ≡ list_any (λ a. p (left_to box a)) xs
any_left p box [] = refl
any_left p box (a ∷ xs) = ap (λ b. p (left_to box a) || b) (any_left p box xs)

pub truths_left : (g : Game) (c : Rule) (box : Box) → IsAsked g c box → (xs : List Arg) → list_all (is_boolean g.variables) xs ≡ true → list_all is_truth_left (map (left_to box) xs) ≡ true
truths_left g c box a [] h = refl
truths_left g c box a (b ∷ xs) h =
    and_from (is_truth_left (left_to box b)) (list_all is_truth_left (map (left_to box) xs)) (truth_of g c box a b (first (is_boolean g.variables b) (list_all (is_boolean g.variables) xs) h))
    (truths_left g c box a xs (second (is_boolean g.variables b) (list_all (is_boolean g.variables) xs) h))

pub few_of : (xs : List Variable) (items : List Arg) → (nat_le (length items) 1000 && list_all (is_boolean xs) items) ≡ true → length items ≤ 1000
few_of xs items h = leb-true (length items) 1000 (first (nat_le (length items) 1000) (list_all (is_boolean xs) items) h)

pub booleans_of : (xs : List Variable) (items : List Arg) → (nat_le (length items) 1000 && list_all (is_boolean xs) items) ≡ true → list_all (is_boolean xs) items ≡ true
booleans_of xs items h = second (nat_le (length items) 1000) (list_all (is_boolean xs) items) h

pub literals_truths : (g : Game) (c : Rule) (box : Box) → IsAsked g c box → (xs ys : List Arg) → list_all (is_boolean g.variables) xs ≡ true → list_all (is_boolean g.variables) ys ≡ true → list_all (is_truth_at box) (literals xs ys) ≡ true
literals_truths g c box a xs ys h k =
    list_all-append (is_truth_at box) (map plain xs) (map negated ys)
    ∙ and_from (list_all (is_truth_at box) (map plain xs)) (list_all (is_truth_at box) (map negated ys)) (truths_of g c box a plain (λ b. refl) xs h) (truths_of g c box a negated (λ b. refl) ys k)

pub literals_length : (xs ys : List Arg) → length (literals xs ys) ≡ length xs + length ys
literals_length xs ys = length-append (map plain xs) (map negated ys) ∙ (ap (λ n. n + length (map negated ys)) (length-map xs plain) ∙ ap (λ n. length xs + n) (length-map ys negated))
