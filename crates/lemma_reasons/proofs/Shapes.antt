-- The arguments of a problem's linear constraints, and of its clauses.
use Rattle.std.proofs.Common.{◌≡◌, ◌∙◌, ℕ, Bool, true, false, ◌&&◌, List, [], ◌∷◌, refl, sym, ap, subst, None}
use Rattle.std.specs.Prelude.{pos, negsuc}
use Rattle.std.specs.List.{list_all}
use Rattle.std.proofs.lemmas.Bool.{and_parts}
use Rattle.qc_model.specs.declared.problem.Arg.{Arg}
use Rattle.qc_model.specs.declared.problem.Argument.{Argument}
use Rattle.qc_model.specs.declared.problem.Argument.TheVariants.{One, Many, Numbers, Members}
use Rattle.qc_model.specs.declared.problem.Pred.{Pred}
use Rattle.qc_model.specs.declared.problem.Pred.TheVariants.{IntLe, IntLt, IntLinEq, IntLinLe, IntPlus, BoolLe, BoolLt, BoolClause}
use Rattle.qc_model.specs.declared.problem.Variable.{Variable}
use Rattle.qc_model.specs.declared.signature.ArgKind.{ArgKind}
use Rattle.qc_model.specs.declared.signature.ArgKind.TheVariants.{Integer as integer, Boolean as boolean, Integers as integers, Booleans as booleans, Numbers as numbers}
use Rattle.qc_model.specs.Content.{Rule}
use Rattle.qc_model.specs.Domains.{Box}
use Rattle.qc_model.specs.Meaning.{clause, meaning_of}
use Rattle.qc_model.specs.Signature.{arg_kinds_of}
use Rattle.qc_model.specs.Valid.{is_of_sort, are_of_sorts, have_lengths, argument_sees, is_constraint}
use Rattle.model_arguments.specs.Written.{arg_at, args_at, ints_at}
use Rattle.lemma_list.specs.Sums.{linear, linear_as, linear_of}
use Rattle.lemma_list.specs.Reasons.{comes_to, falsified_as, is_falsified}
use Rattle.lemma_reasons.specs.Known.{difference_of, balance_of}

numbers_there : (xs : List Variable) (a : Argument) → is_of_sort xs numbers a ≡ true → a ≡ Numbers (ints_at (a ∷ []) 0)
numbers_there xs (One x) h = cc
numbers_there xs (Many items) h = cc
numbers_there xs (Numbers ns) h = refl
numbers_there xs (Members s) h = cc

integers_there : (xs : List Variable) (a : Argument) → is_of_sort xs integers a ≡ true → a ≡ Many (args_at (a ∷ []) 0)
integers_there xs (One x) h = cc
integers_there xs (Many items) h = refl
integers_there xs (Numbers ns) h = cc
integers_there xs (Members s) h = cc

booleans_there : (xs : List Variable) (a : Argument) → is_of_sort xs booleans a ≡ true → a ≡ Many (args_at (a ∷ []) 0)
booleans_there xs (One x) h = cc
booleans_there xs (Many items) h = refl
booleans_there xs (Numbers ns) h = cc
booleans_there xs (Members s) h = cc

integer_there : (xs : List Variable) (a : Argument) → is_of_sort xs integer a ≡ true → a ≡ One (arg_at (a ∷ []) 0)
integer_there xs (One x) h = refl
integer_there xs (Many items) h = cc
integer_there xs (Numbers ns) h = cc
integer_there xs (Members s) h = cc

boolean_there : (xs : List Variable) (a : Argument) → is_of_sort xs boolean a ≡ true → a ≡ One (arg_at (a ∷ []) 0)
boolean_there xs (One x) h = refl
boolean_there xs (Many items) h = cc
boolean_there xs (Numbers ns) h = cc
boolean_there xs (Members s) h = cc

two : (a b c d : Argument) → a ≡ c → b ≡ d → a ∷ b ∷ [] ≡ c ∷ d ∷ []
two a b c d e f = ap (λ z. z ∷ b ∷ []) e ∙ ap (λ z. c ∷ z ∷ []) f

three : (a b c d e f : Argument) → a ≡ d → b ≡ e → c ≡ f → a ∷ b ∷ c ∷ [] ≡ d ∷ e ∷ f ∷ []
three a b c d e f h k l = ap (λ z. z ∷ b ∷ c ∷ []) h ∙ ap (λ z. d ∷ z) (two b c e f k l)

-- as many arguments as kinds
none_more : (xs : List Variable) (a : Argument) (args : List Argument) → are_of_sorts xs [] (a ∷ args) ≡ true → ⊥
none_more xs a args h = cc

some_more : (xs : List Variable) (s : ArgKind) (sorts : List ArgKind) → are_of_sorts xs (s ∷ sorts) [] ≡ true → ⊥
some_more xs s sorts h = cc

pub weighted_args : (xs : List Variable) (args : List Argument) → are_of_sorts xs (numbers ∷ integers ∷ integer ∷ []) args ≡ true → args ≡ Numbers (ints_at args 0) ∷ Many (args_at args 1) ∷ One (arg_at args 2) ∷ []
weighted_args xs [] h = absurd (some_more xs numbers (integers ∷ integer ∷ []) h)
weighted_args xs (a ∷ []) h = absurd (some_more xs integers (integer ∷ []) (and_parts (is_of_sort xs numbers a) (are_of_sorts xs (integers ∷ integer ∷ []) []) h).1)
weighted_args xs (a ∷ b ∷ []) h =
    let u = and_parts (is_of_sort xs numbers a) (are_of_sorts xs (integers ∷ integer ∷ []) (b ∷ [])) h in
    absurd (some_more xs integer [] (and_parts (is_of_sort xs integers b) (are_of_sorts xs (integer ∷ []) []) u.1).1)
weighted_args xs (a ∷ b ∷ c ∷ []) h =
    let u = and_parts (is_of_sort xs numbers a) (are_of_sorts xs (integers ∷ integer ∷ []) (b ∷ c ∷ [])) h in
    let v = and_parts (is_of_sort xs integers b) (are_of_sorts xs (integer ∷ []) (c ∷ [])) u.1 in
    let w = and_parts (is_of_sort xs integer c) (are_of_sorts xs [] []) v.1 in
    three a b c _ _ _ (numbers_there xs a u.0) (integers_there xs b v.0) (integer_there xs c w.0)
weighted_args xs (a ∷ b ∷ c ∷ d ∷ args) h =
    let u = and_parts (is_of_sort xs numbers a) (are_of_sorts xs (integers ∷ integer ∷ []) (b ∷ c ∷ d ∷ args)) h in
    let v = and_parts (is_of_sort xs integers b) (are_of_sorts xs (integer ∷ []) (c ∷ d ∷ args)) u.1 in
    let w = and_parts (is_of_sort xs integer c) (are_of_sorts xs [] (d ∷ args)) v.1 in
    absurd (none_more xs d args w.1)

pub three_args : (xs : List Variable) (args : List Argument) → are_of_sorts xs (integer ∷ integer ∷ integer ∷ []) args ≡ true → args ≡ One (arg_at args 0) ∷ One (arg_at args 1) ∷ One (arg_at args 2) ∷ []
three_args xs [] h = absurd (some_more xs integer (integer ∷ integer ∷ []) h)
three_args xs (a ∷ []) h = absurd (some_more xs integer (integer ∷ []) (and_parts (is_of_sort xs integer a) (are_of_sorts xs (integer ∷ integer ∷ []) []) h).1)
three_args xs (a ∷ b ∷ []) h =
    let u = and_parts (is_of_sort xs integer a) (are_of_sorts xs (integer ∷ integer ∷ []) (b ∷ [])) h in
    absurd (some_more xs integer [] (and_parts (is_of_sort xs integer b) (are_of_sorts xs (integer ∷ []) []) u.1).1)
three_args xs (a ∷ b ∷ c ∷ []) h =
    let u = and_parts (is_of_sort xs integer a) (are_of_sorts xs (integer ∷ integer ∷ []) (b ∷ c ∷ [])) h in
    let v = and_parts (is_of_sort xs integer b) (are_of_sorts xs (integer ∷ []) (c ∷ [])) u.1 in
    let w = and_parts (is_of_sort xs integer c) (are_of_sorts xs [] []) v.1 in
    three a b c _ _ _ (integer_there xs a u.0) (integer_there xs b v.0) (integer_there xs c w.0)
three_args xs (a ∷ b ∷ c ∷ d ∷ args) h =
    let u = and_parts (is_of_sort xs integer a) (are_of_sorts xs (integer ∷ integer ∷ []) (b ∷ c ∷ d ∷ args)) h in
    let v = and_parts (is_of_sort xs integer b) (are_of_sorts xs (integer ∷ []) (c ∷ d ∷ args)) u.1 in
    let w = and_parts (is_of_sort xs integer c) (are_of_sorts xs [] (d ∷ args)) v.1 in
    absurd (none_more xs d args w.1)

pub two_integers : (xs : List Variable) (args : List Argument) → are_of_sorts xs (integer ∷ integer ∷ []) args ≡ true → args ≡ One (arg_at args 0) ∷ One (arg_at args 1) ∷ []
two_integers xs [] h = absurd (some_more xs integer (integer ∷ []) h)
two_integers xs (a ∷ []) h = absurd (some_more xs integer [] (and_parts (is_of_sort xs integer a) (are_of_sorts xs (integer ∷ []) []) h).1)
two_integers xs (a ∷ b ∷ []) h =
    let u = and_parts (is_of_sort xs integer a) (are_of_sorts xs (integer ∷ []) (b ∷ [])) h in
    let v = and_parts (is_of_sort xs integer b) (are_of_sorts xs [] []) u.1 in
    two a b _ _ (integer_there xs a u.0) (integer_there xs b v.0)
two_integers xs (a ∷ b ∷ c ∷ args) h =
    let u = and_parts (is_of_sort xs integer a) (are_of_sorts xs (integer ∷ []) (b ∷ c ∷ args)) h in
    let v = and_parts (is_of_sort xs integer b) (are_of_sorts xs [] (c ∷ args)) u.1 in
    absurd (none_more xs c args v.1)

pub two_booleans : (xs : List Variable) (args : List Argument) → are_of_sorts xs (boolean ∷ boolean ∷ []) args ≡ true → args ≡ One (arg_at args 0) ∷ One (arg_at args 1) ∷ []
two_booleans xs [] h = absurd (some_more xs boolean (boolean ∷ []) h)
two_booleans xs (a ∷ []) h = absurd (some_more xs boolean [] (and_parts (is_of_sort xs boolean a) (are_of_sorts xs (boolean ∷ []) []) h).1)
two_booleans xs (a ∷ b ∷ []) h =
    let u = and_parts (is_of_sort xs boolean a) (are_of_sorts xs (boolean ∷ []) (b ∷ [])) h in
    let v = and_parts (is_of_sort xs boolean b) (are_of_sorts xs [] []) u.1 in
    two a b _ _ (boolean_there xs a u.0) (boolean_there xs b v.0)
two_booleans xs (a ∷ b ∷ c ∷ args) h =
    let u = and_parts (is_of_sort xs boolean a) (are_of_sorts xs (boolean ∷ []) (b ∷ c ∷ args)) h in
    let v = and_parts (is_of_sort xs boolean b) (are_of_sorts xs [] (c ∷ args)) u.1 in
    absurd (none_more xs c args v.1)

pub two_arrays : (xs : List Variable) (args : List Argument) → are_of_sorts xs (booleans ∷ booleans ∷ []) args ≡ true → args ≡ Many (args_at args 0) ∷ Many (args_at args 1) ∷ []
two_arrays xs [] h = absurd (some_more xs booleans (booleans ∷ []) h)
two_arrays xs (a ∷ []) h = absurd (some_more xs booleans [] (and_parts (is_of_sort xs booleans a) (are_of_sorts xs (booleans ∷ []) []) h).1)
two_arrays xs (a ∷ b ∷ []) h =
    let u = and_parts (is_of_sort xs booleans a) (are_of_sorts xs (booleans ∷ []) (b ∷ [])) h in
    let v = and_parts (is_of_sort xs booleans b) (are_of_sorts xs [] []) u.1 in
    two a b _ _ (booleans_there xs a u.0) (booleans_there xs b v.0)
two_arrays xs (a ∷ b ∷ c ∷ args) h =
    let u = and_parts (is_of_sort xs booleans a) (are_of_sorts xs (booleans ∷ []) (b ∷ c ∷ args)) h in
    let v = and_parts (is_of_sort xs booleans b) (are_of_sorts xs [] (c ∷ args)) u.1 in
    absurd (none_more xs c args v.1)

-- what is known of a constraint of this predicate
sorts_of : (xs : List Variable) (c : Rule) (p : Pred) → c.pred ≡ p → is_constraint xs c ≡ true → are_of_sorts xs (arg_kinds_of p) c.args ≡ true
sorts_of xs c p e h =
    let sorted = are_of_sorts xs (arg_kinds_of c.pred) c.args in
    let lengths = have_lengths (meaning_of c.pred) c.args in
    subst (λ (q : Pred). are_of_sorts xs (arg_kinds_of q) c.args ≡ true) e (and_parts sorted lengths (and_parts (sorted && lengths) (list_all (argument_sees xs c.owner.0) c.args) h).0).0

linear_here : (c : Rule) (p : Pred) (args : List Argument) → c.pred ≡ p → c.args ≡ args → linear_of c ≡ linear_as (meaning_of p) args
linear_here c p args e f = ap (λ (q : Pred). linear_as (meaning_of q) c.args) e ∙ ap (linear_as (meaning_of p)) f

pub of_lin_eq : (xs : List Variable) (c : Rule) → c.pred ≡ IntLinEq → is_constraint xs c ≡ true → linear_of c ≡ linear true (ints_at c.args 0) (args_at c.args 1) (arg_at c.args 2)
of_lin_eq xs c e h = linear_here c IntLinEq _ e (weighted_args xs c.args (sorts_of xs c IntLinEq e h))

pub of_lin_le : (xs : List Variable) (c : Rule) → c.pred ≡ IntLinLe → is_constraint xs c ≡ true → linear_of c ≡ linear false (ints_at c.args 0) (args_at c.args 1) (arg_at c.args 2)
of_lin_le xs c e h = linear_here c IntLinLe _ e (weighted_args xs c.args (sorts_of xs c IntLinLe e h))

pub of_int_le : (xs : List Variable) (c : Rule) → c.pred ≡ IntLe → is_constraint xs c ≡ true → linear_of c ≡ difference_of c.args (pos 0)
of_int_le xs c e h = linear_here c IntLe _ e (two_integers xs c.args (sorts_of xs c IntLe e h))

pub of_int_lt : (xs : List Variable) (c : Rule) → c.pred ≡ IntLt → is_constraint xs c ≡ true → linear_of c ≡ difference_of c.args (negsuc 0)
of_int_lt xs c e h = linear_here c IntLt _ e (two_integers xs c.args (sorts_of xs c IntLt e h))

pub of_bool_le : (xs : List Variable) (c : Rule) → c.pred ≡ BoolLe → is_constraint xs c ≡ true → linear_of c ≡ difference_of c.args (pos 0)
of_bool_le xs c e h = linear_here c BoolLe _ e (two_booleans xs c.args (sorts_of xs c BoolLe e h))

pub of_bool_lt : (xs : List Variable) (c : Rule) → c.pred ≡ BoolLt → is_constraint xs c ≡ true → linear_of c ≡ difference_of c.args (negsuc 0)
of_bool_lt xs c e h = linear_here c BoolLt _ e (two_booleans xs c.args (sorts_of xs c BoolLt e h))

pub of_plus : (xs : List Variable) (c : Rule) → c.pred ≡ IntPlus → is_constraint xs c ≡ true → linear_of c ≡ balance_of c.args
of_plus xs c e h = linear_here c IntPlus _ e (three_args xs c.args (sorts_of xs c IntPlus e h))

-- other predicates have no linear form
pub not_linear : (p : Pred) (args : List Argument) → (p ≡ IntLinEq → ⊥) → (p ≡ IntLinLe → ⊥) → (p ≡ IntLe → ⊥) → (p ≡ BoolLe → ⊥) → (p ≡ IntLt → ⊥) → (p ≡ BoolLt → ⊥) → (p ≡ IntPlus → ⊥) → linear_as (meaning_of p) args ≡ None
not_linear IntLinEq args a b c d e f g = absurd (a refl)
not_linear IntLinLe args a b c d e f g = absurd (b refl)
not_linear IntLe args a b c d e f g = absurd (c refl)
not_linear BoolLe args a b c d e f g = absurd (d refl)
not_linear IntLt args a b c d e f g = absurd (e refl)
not_linear BoolLt args a b c d e f g = absurd (f refl)
not_linear IntPlus args a b c d e f g = absurd (g refl)
not_linear p args a b c d e f g = refl

pub of_clause : (xs : List Variable) (c : Rule) (answers : ℕ → Bool) (box : Box) → c.pred ≡ BoolClause → is_constraint xs c ≡ true →
    is_falsified answers c box ≡ (list_all (comes_to answers box (args_at c.args 1) (pos 0)) (args_at c.args 0) && list_all (comes_to answers box (args_at c.args 0) (pos 1)) (args_at c.args 1))
of_clause xs c answers box e h =
    ap (λ (q : Pred). falsified_as answers box (meaning_of q) c.args) e ∙ ap (falsified_as answers box clause) (two_arrays xs c.args (sorts_of xs c BoolClause e h))

pub not_clause : (p : Pred) (answers : ℕ → Bool) (box : Box) (args : List Argument) → (p ≡ BoolClause → ⊥) → falsified_as answers box (meaning_of p) args ≡ false
not_clause BoolClause answers box args n = absurd (n refl)
not_clause p answers box args n = refl

pub falsified_by : (xs : List Variable) (c : Rule) (answers : ℕ → Bool) (box : Box) (us vs : List Arg) → c.pred ≡ BoolClause → is_constraint xs c ≡ true → us ≡ args_at c.args 0 → vs ≡ args_at c.args 1 →
    (list_all (comes_to answers box vs (pos 0)) us && list_all (comes_to answers box us (pos 1)) vs) ≡ is_falsified answers c box
falsified_by xs c answers box us vs e h p q =
    ap (λ (ws : List Arg). list_all (comes_to answers box vs (pos 0)) ws && list_all (comes_to answers box ws (pos 1)) vs) p
    ∙ (ap (λ (ws : List Arg). list_all (comes_to answers box ws (pos 0)) (args_at c.args 0) && list_all (comes_to answers box (args_at c.args 0) (pos 1)) ws) q
    ∙ sym (of_clause xs c answers box e h))
