-- The terms that a constraint makes: what their factors add up to, and that they name it.
use Rattle.std.proofs.Common.{◌≡◌, ◌≢◌, ℕ, ◌<◌, Bool, true, false, ◌||◌, cond, List, [], ◌∷◌, ◌++◌, length, map, filter, refl, sym, ap, ◌∙◌, append-nil, arith, ℤ}
use Rattle.std.specs.Prelude.{◌==◌, nat_lt, pos, ◌+ℤ◌, flat_map}
use Rattle.std.specs.List.{list_any, list_all}
use Rattle.std.proofs.Math.IntN.{+ℤ_idl, +ℤ_idr}
use Rattle.std.proofs.lemmas.Bool.{lt-ltb, and_from}
use Rattle.std.proofs.lemmas.Bool.Decides.{nat_tests}
use Rattle.std.proofs.lemmas.List.Folds.{list_all-append}
use Rattle.qc_model.specs.declared.problem.Arg.{Arg}
use Rattle.qc_model.specs.declared.problem.Arg.TheVariants.{Var, Num}
use Rattle.qc_model.specs.declared.problem.Variable.{Variable}
use Rattle.qc_model.specs.Arguments.{arg_variables, variables_of}
use Rattle.qc_model.specs.Content.{Rule}
use Rattle.qc_model.specs.Valid.{is_number, is_constraint}
use Rattle.qc_model.proofs.Readable.{first, second}
use Rattle.model_arguments.specs.Written.{args_at, ints_at}
use Rattle.check_assignment.specs.declared.test.Test.{Test}
use Rattle.check_assignment.specs.declared.test.Test.TheVariants.{Equal, Different, AtMost, Other}
use Rattle.check_assignment.specs.Balance.{test_of, slope, slope_of}
use Rattle.check_assignment.specs.Terms.{is_term, factor_sum, names, term_if, item_terms, zero_terms, tested_terms, rule_terms, mentions}
use Rattle.check_assignment.proofs.Shape.{SumShape, sum_shape}
use Rattle.check_assignment.proofs.TermSums.{factor_sum_join, names_join}

same_number : (k : ℕ) → (k == k) ≡ true
same_number k = grind (arith, nat_tests)

other_number : (k j : ℕ) → j ≢ k → (k == j) ≡ false
other_number k j n = grind (arith, nat_tests)

-- one term at most
if_sum : (b : Bool) (k : ℕ) (f : ℤ) → factor_sum k (term_if b k f) ≡ cond b f (pos 0)
if_sum true k f = ap (λ b. cond b f (pos 0) +ℤ pos 0) (same_number k) ∙ +ℤ_idr f
if_sum false k f = refl

if_other : (b : Bool) (k j : ℕ) (f : ℤ) → j ≢ k → factor_sum j (term_if b k f) ≡ pos 0
if_other true k j f n = ap (λ b. cond b f (pos 0) +ℤ pos 0) (other_number k j n)
if_other false k j f n = refl

if_names : (b : Bool) (k : ℕ) (f : ℤ) → names k (term_if b k f) ≡ b
if_names true k f = ap (λ b. b || false) (same_number k)
if_names false k f = refl

if_each : (n : ℕ) (b : Bool) (k : ℕ) (f : ℤ) → k < n → is_number f ≡ true → list_all (is_term n) (term_if b k f) ≡ true
if_each n true k f l h = and_from (is_term n (record { rule = k; factor = f })) true (and_from (nat_lt k n) (is_number f) (lt-ltb k n l) h) refl
if_each n false k f l h = refl

-- the terms of items
item_sum : (k x : ℕ) (fs : List ℤ) (items : List Arg) → factor_sum k (item_terms k x fs items) ≡ slope x fs items
item_sum k x [] items = refl
item_sum k x (f ∷ fs) [] = refl
item_sum k x (f ∷ fs) (Var y ∷ items) =
    factor_sum_join k (term_if (y.0 == x) k f) (item_terms k x fs items)
    ∙ ap (λ z. z +ℤ factor_sum k (item_terms k x fs items)) (if_sum (y.0 == x) k f)
    ∙ ap (λ z. cond (y.0 == x) f (pos 0) +ℤ z) (item_sum k x fs items)
item_sum k x (f ∷ fs) (Num n ∷ items) = item_sum k x fs items ∙ sym (+ℤ_idl (slope x fs items))

item_other : (k j x : ℕ) (fs : List ℤ) (items : List Arg) → j ≢ k → factor_sum j (item_terms k x fs items) ≡ pos 0
item_other k j x [] items n = refl
item_other k j x (f ∷ fs) [] n = refl
item_other k j x (f ∷ fs) (Var y ∷ items) n =
    factor_sum_join j (term_if (y.0 == x) k f) (item_terms k x fs items)
    ∙ ap (λ z. z +ℤ factor_sum j (item_terms k x fs items)) (if_other (y.0 == x) k j f n)
    ∙ ap (λ z. pos 0 +ℤ z) (item_other k j x fs items n)
item_other k j x (f ∷ fs) (Num m ∷ items) n = item_other k j x fs items n

-- where there are as many factors as items, an item that names x makes a term
item_names : (k x : ℕ) (fs : List ℤ) (items : List Arg) → length fs ≡ length items → names k (item_terms k x fs items) ≡ list_any (λ y. y == x) (flat_map arg_variables items)
item_names k x [] [] e = refl
item_names k x [] (a ∷ items) e = absurd (omega arith)
item_names k x (f ∷ fs) [] e = refl
item_names k x (f ∷ fs) (Var y ∷ items) e =
    names_join k (term_if (y.0 == x) k f) (item_terms k x fs items)
    ∙ ap (λ b. b || names k (item_terms k x fs items)) (if_names (y.0 == x) k f)
    ∙ ap (λ b. y.0 == x || b) (item_names k x fs items (omega arith))
item_names k x (f ∷ fs) (Num n ∷ items) e = item_names k x fs items (omega arith)

item_each : (n k x : ℕ) (fs : List ℤ) (items : List Arg) → k < n → list_all is_number fs ≡ true → list_all (is_term n) (item_terms k x fs items) ≡ true
item_each n k x [] items l h = refl
item_each n k x (f ∷ fs) [] l h = refl
item_each n k x (f ∷ fs) (Var y ∷ items) l h =
    list_all-append (is_term n) (term_if (y.0 == x) k f) (item_terms k x fs items)
    ∙ and_from (list_all (is_term n) (term_if (y.0 == x) k f)) (list_all (is_term n) (item_terms k x fs items))
    (if_each n (y.0 == x) k f l (first (is_number f) (list_all is_number fs) h))
    (item_each n k x fs items l (second (is_number f) (list_all is_number fs) h))
item_each n k x (f ∷ fs) (Num m ∷ items) l h = item_each n k x fs items l (second (is_number f) (list_all is_number fs) h)

-- terms of factor 0
zero_next : (k x y : ℕ) (ys : List ℕ) → zero_terms k x (y ∷ ys) ≡ term_if (y == x) k (pos 0) ++ zero_terms k x ys
zero_next k x y ys = chosen (y == x) (filter (λ z. z == x) ys)
  where
    chosen : (b : Bool) (zs : List ℕ) → map (λ z. record { rule = k; factor = pos 0 }) (cond b (y ∷ zs) zs) ≡ term_if b k (pos 0) ++ map (λ z. record { rule = k; factor = pos 0 }) zs
    chosen true zs = refl
    chosen false zs = refl

zero_sum : (k j x : ℕ) (ys : List ℕ) → factor_sum j (zero_terms k x ys) ≡ pos 0
zero_sum k j x [] = refl
zero_sum k j x (y ∷ ys) =
    ap (factor_sum j) (zero_next k x y ys)
    ∙ factor_sum_join j (term_if (y == x) k (pos 0)) (zero_terms k x ys)
    ∙ ap (λ z. z +ℤ factor_sum j (zero_terms k x ys)) (if_zero (y == x))
    ∙ ap (λ z. pos 0 +ℤ z) (zero_sum k j x ys)
  where
    either : (b : Bool) → cond b (pos 0) (pos 0) +ℤ pos 0 ≡ pos 0
    either true = refl
    either false = refl

    if_zero : (b : Bool) → factor_sum j (term_if b k (pos 0)) ≡ pos 0
    if_zero true = either (k == j)
    if_zero false = refl

zero_names : (k x : ℕ) (ys : List ℕ) → names k (zero_terms k x ys) ≡ list_any (λ y. y == x) ys
zero_names k x [] = refl
zero_names k x (y ∷ ys) =
    ap (names k) (zero_next k x y ys)
    ∙ names_join k (term_if (y == x) k (pos 0)) (zero_terms k x ys)
    ∙ ap (λ b. b || names k (zero_terms k x ys)) (if_names (y == x) k (pos 0))
    ∙ ap (λ b. y == x || b) (zero_names k x ys)

zero_each : (n k x : ℕ) (ys : List ℕ) → k < n → list_all (is_term n) (zero_terms k x ys) ≡ true
zero_each n k x [] l = refl
zero_each n k x (y ∷ ys) l =
    ap (list_all (is_term n)) (zero_next k x y ys)
    ∙ list_all-append (is_term n) (term_if (y == x) k (pos 0)) (zero_terms k x ys)
    ∙ and_from (list_all (is_term n) (term_if (y == x) k (pos 0))) (list_all (is_term n) (zero_terms k x ys)) (if_each n (y == x) k (pos 0) l refl) (zero_each n k x ys l)

-- whatever the test
tested_sum : (t : Test) (k x : ℕ) (c : Rule) → factor_sum k (tested_terms t k c x) ≡ slope_of t x c
tested_sum Equal k x c = item_sum k x (ints_at c.args 0) (args_at c.args 1)
tested_sum Different k x c = item_sum k x (ints_at c.args 0) (args_at c.args 1)
tested_sum AtMost k x c = item_sum k x (ints_at c.args 0) (args_at c.args 1)
tested_sum Other k x c = zero_sum k k x (variables_of c.args)

tested_other : (t : Test) (k j x : ℕ) (c : Rule) → j ≢ k → factor_sum j (tested_terms t k c x) ≡ pos 0
tested_other Equal k j x c n = item_other k j x (ints_at c.args 0) (args_at c.args 1) n
tested_other Different k j x c n = item_other k j x (ints_at c.args 0) (args_at c.args 1) n
tested_other AtMost k j x c n = item_other k j x (ints_at c.args 0) (args_at c.args 1) n
tested_other Other k j x c n = zero_sum k j x (variables_of c.args)

-- the terms of a constraint that is tested by its balance
sum_names : (c : Rule) (k x : ℕ) → SumShape c → names k (item_terms k x (ints_at c.args 0) (args_at c.args 1)) ≡ mentions c x
sum_names c k x s =
    rw s.args (item_names k x s.factors s.items s.same ∙ ap (list_any (λ y. y == x)) (sym (append-nil (flat_map arg_variables s.items))))

sum_each : (c : Rule) (n k x : ℕ) → SumShape c → k < n → list_all (is_term n) (item_terms k x (ints_at c.args 0) (args_at c.args 1)) ≡ true
sum_each c n k x s l = rw s.args (item_each n k x s.factors s.items l s.numbers)

tested_names : (t : Test) (c : Rule) (k x : ℕ) → ((t ≡ Other → ⊥) → SumShape c) → names k (tested_terms t k c x) ≡ mentions c x
tested_names Equal c k x f = sum_names c k x (f (λ e. cc))
tested_names Different c k x f = sum_names c k x (f (λ e. cc))
tested_names AtMost c k x f = sum_names c k x (f (λ e. cc))
tested_names Other c k x f = zero_names k x (variables_of c.args)

tested_each : (t : Test) (c : Rule) (n k x : ℕ) → ((t ≡ Other → ⊥) → SumShape c) → k < n → list_all (is_term n) (tested_terms t k c x) ≡ true
tested_each Equal c n k x f l = sum_each c n k x (f (λ e. cc)) l
tested_each Different c n k x f l = sum_each c n k x (f (λ e. cc)) l
tested_each AtMost c n k x f l = sum_each c n k x (f (λ e. cc)) l
tested_each Other c n k x f l = zero_each n k x (variables_of c.args) l

-- the factors of the constraint's own number, and of another
pub rule_sum : (k x : ℕ) (c : Rule) → factor_sum k (rule_terms k c x) ≡ slope_of (test_of c) x c
rule_sum k x c = tested_sum (test_of c) k x c

pub rule_other : (k j x : ℕ) (c : Rule) → j ≢ k → factor_sum j (rule_terms k c x) ≡ pos 0
rule_other k j x c n = tested_other (test_of c) k j x c n

pub rule_names : (xs : List Variable) (c : Rule) (k x : ℕ) → is_constraint xs c ≡ true → names k (rule_terms k c x) ≡ mentions c x
rule_names xs c k x h = tested_names (test_of c) c k x (sum_shape xs c h)

pub rule_each : (xs : List Variable) (c : Rule) (n k x : ℕ) → is_constraint xs c ≡ true → k < n → list_all (is_term n) (rule_terms k c x) ≡ true
rule_each xs c n k x h l = tested_each (test_of c) c n k x (sum_shape xs c h) l
