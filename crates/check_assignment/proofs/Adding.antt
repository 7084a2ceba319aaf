-- The terms that a constraint adds, item by item, and that its variables have a place.
use Rattle.std.proofs.Common.{◌≡◌, ℕ, zero, suc, ◌<◌, ◌+◌, true, ◌&&◌, List, [], ◌∷◌, ◌++◌, length, drop, get_or, refl, sym, ap, ◌∙◌, arith, append_assoc}
use Rattle.std.specs.Prelude.{◌≤◌, min, ◌==◌, nat_lt, ℤ, flat_map, slice_get}
use Rattle.std.specs.List.{list_all}
use Rattle.std.proofs.lemmas.Bool.{lt-ltb, ltb-true, and_from}
use Rattle.std.proofs.lemmas.List.{drop_more, drop_all}
use Rattle.std.proofs.lemmas.List.Folds.{list_all-append}
use Rattle.qc_model.specs.declared.problem.Arg.{Arg}
use Rattle.qc_model.specs.declared.problem.Arg.TheVariants.{Var, Num}
use Rattle.qc_model.specs.declared.problem.Argument.{Argument}
use Rattle.qc_model.specs.declared.problem.Argument.TheVariants.{One, Many, Numbers, Members}
use Rattle.qc_model.specs.declared.problem.VarId.{VarId}
use Rattle.qc_model.specs.declared.problem.Variable.{Variable}
use Rattle.qc_model.specs.Arguments.{arg_variables, argument_variables, variables_of}
use Rattle.qc_model.specs.Content.{Rule}
use Rattle.qc_model.specs.Meaning.{meaning_of}
use Rattle.qc_model.specs.Signature.{arg_kinds_of}
use Rattle.qc_model.specs.Valid.{is_declared_by, arg_sees, argument_sees, are_of_sorts, have_lengths, is_constraint}
use Rattle.qc_model.proofs.Readable.{first, second}
use Rattle.model_arguments.specs.Repeats.{has_place}
use Rattle.model_arguments.specs.Written.{args_at, variable_numbers}
use Rattle.check_assignment.specs.Terms.{Terms, terms_at, term_if, item_terms}
use Rattle.check_assignment.specs.declared.term.Term.{Term}

-- what was joined already, and one part more
pub one_more : (a b t rest whole all : List Term) → b ≡ a ++ t → whole ≡ t ++ rest → a ++ whole ≡ all → b ++ rest ≡ all
one_more a b t rest whole all e f g = let h : (a ++ t) ++ rest ≡ a ++ (t ++ rest) = append_assoc a t rest in cc

-- the item at k, and then those after it
pub var_next : (r y k : ℕ) (fs : List ℤ) (items : List Arg) (f : ℤ) (a : Arg) (x : VarId) → k < length fs → k < length items → get_or items k a ≡ Var x →
    item_terms r y (drop k fs) (drop k items) ≡ term_if (x.0 == y) r (get_or fs k f) ++ item_terms r y (drop (k + 1) fs) (drop (k + 1) items)
var_next r y k fs items f a x l m e =
    ap (λ z. item_terms r y z (drop k items)) (drop_more fs k f l)
    ∙ ap (item_terms r y (get_or fs k f ∷ drop (k + 1) fs)) (drop_more items k a m)
    ∙ ap (λ z. item_terms r y (get_or fs k f ∷ drop (k + 1) fs) (z ∷ drop (k + 1) items)) e

pub num_next : (r y k : ℕ) (fs : List ℤ) (items : List Arg) (f : ℤ) (a : Arg) (n : ℤ) → k < length fs → k < length items → get_or items k a ≡ Num n →
    item_terms r y (drop k fs) (drop k items) ≡ item_terms r y (drop (k + 1) fs) (drop (k + 1) items)
num_next r y k fs items f a n l m e =
    ap (λ z. item_terms r y z (drop k items)) (drop_more fs k f l)
    ∙ ap (item_terms r y (get_or fs k f ∷ drop (k + 1) fs)) (drop_more items k a m)
    ∙ ap (λ z. item_terms r y (get_or fs k f ∷ drop (k + 1) fs) (z ∷ drop (k + 1) items)) e

none : (r y : ℕ) (fs : List ℤ) → item_terms r y fs [] ≡ []
none r y [] = refl
none r y (f ∷ fs) = refl

-- past the shorter list there are none
pub none_past : (r y k : ℕ) (fs : List ℤ) (items : List Arg) → min (length fs) (length items) ≤ k → item_terms r y (drop k fs) (drop k items) ≡ []
none_past r y k [] items h = ap (λ z. item_terms r y z (drop k items)) (drop_all {X = ℤ} k [] (omega arith))
none_past r y k (f ∷ fs) [] h = ap (item_terms r y (drop k (f ∷ fs))) (drop_all {X = Arg} k [] (omega arith)) ∙ none r y (drop k (f ∷ fs))
none_past r y zero (f ∷ fs) (a ∷ items) h = absurd (omega arith)
none_past r y (suc k) (f ∷ fs) (a ∷ items) h = none_past r y k fs items (omega arith)

-- a variable that is declared has a place
seen_place : (xs : List Variable) (i : ℕ) (a : Arg) → arg_sees xs i a ≡ true → has_place (length xs) a ≡ true
seen_place xs i (Num n) h = refl
seen_place xs i (Var x) h = lt-ltb x.0 (length xs) (within xs x.0 h)
  where
    within : (vs : List Variable) (k : ℕ) → is_declared_by i (slice_get vs k) ≡ true → k < length vs
    within [] k e = cc
    within (v ∷ vs) zero e = omega arith
    within (v ∷ vs) (suc k) e = omega (arith, within vs k e)

seen_places : (xs : List Variable) (i : ℕ) (items : List Arg) → list_all (arg_sees xs i) items ≡ true → list_all (has_place (length xs)) items ≡ true
seen_places xs i [] h = refl
seen_places xs i (a ∷ items) h =
    and_from (has_place (length xs) a) (list_all (has_place (length xs)) items) (seen_place xs i a (first (arg_sees xs i a) (list_all (arg_sees xs i) items) h)) (seen_places xs i items (second (arg_sees xs i a) (list_all (arg_sees xs i) items) h))

placed_items : (n : ℕ) (items : List Arg) → list_all (has_place n) items ≡ true → list_all (λ x. nat_lt x n) (flat_map arg_variables items) ≡ true
placed_items n [] h = refl
placed_items n (Var x ∷ items) h = and_from (nat_lt x.0 n) (list_all (λ y. nat_lt y n) (flat_map arg_variables items)) (first (nat_lt x.0 n) (list_all (has_place n) items) h) (placed_items n items (second (nat_lt x.0 n) (list_all (has_place n) items) h))
placed_items n (Num m ∷ items) h = placed_items n items h

-- all that the arguments see
seen : (xs : List Variable) (c : Rule) → is_constraint xs c ≡ true → list_all (argument_sees xs c.owner.0) c.args ≡ true
seen xs c h = second (are_of_sorts xs (arg_kinds_of c.pred) c.args && have_lengths (meaning_of c.pred) c.args) (list_all (argument_sees xs c.owner.0) c.args) h

pub own_below : (xs : List Variable) (c : Rule) → is_constraint xs c ≡ true → list_all (λ x. nat_lt x (length xs)) (variables_of c.args) ≡ true
own_below xs c h = all c.args (seen xs c h)
  where
    one : (a : Argument) → argument_sees xs c.owner.0 a ≡ true → list_all (λ x. nat_lt x (length xs)) (argument_variables a) ≡ true
    one (One (Var x)) e = and_from (nat_lt x.0 (length xs)) true (seen_place xs c.owner.0 (Var x) e) refl
    one (One (Num m)) e = refl
    one (Many items) e = placed_items (length xs) items (seen_places xs c.owner.0 items e)
    one (Numbers ns) e = refl
    one (Members s) e = refl

    all : (args : List Argument) → list_all (argument_sees xs c.owner.0) args ≡ true → list_all (λ x. nat_lt x (length xs)) (variables_of args) ≡ true
    all [] e = refl
    all (a ∷ args) e =
        list_all-append (λ x. nat_lt x (length xs)) (argument_variables a) (variables_of args)
        ∙ and_from (list_all (λ x. nat_lt x (length xs)) (argument_variables a)) (list_all (λ x. nat_lt x (length xs)) (variables_of args)) (one a (first (argument_sees xs c.owner.0 a) (list_all (argument_sees xs c.owner.0) args) e)) (all args (second (argument_sees xs c.owner.0 a) (list_all (argument_sees xs c.owner.0) args) e))

pub items_below : (xs : List Variable) (c : Rule) (k : ℕ) → is_constraint xs c ≡ true → list_all (has_place (length xs)) (args_at c.args k) ≡ true
items_below xs c k h = at c.args k (seen xs c h)
  where
    at : (args : List Argument) (j : ℕ) → list_all (argument_sees xs c.owner.0) args ≡ true → list_all (has_place (length xs)) (args_at args j) ≡ true
    at [] j e = refl
    at (One a ∷ args) zero e = refl
    at (Many items ∷ args) zero e = seen_places xs c.owner.0 items (first (list_all (arg_sees xs c.owner.0) items) (list_all (argument_sees xs c.owner.0) args) e)
    at (Numbers ns ∷ args) zero e = refl
    at (Members s ∷ args) zero e = refl
    at (a ∷ args) (suc j) e = at args j (second (argument_sees xs c.owner.0 a) (list_all (argument_sees xs c.owner.0) args) e)

pub place_at : (n : ℕ) (own : List VarId) (k : ℕ) (x : VarId) → k < length own → list_all (λ y. nat_lt y n) (variable_numbers own) ≡ true → (get_or own k x).0 < n
place_at n [] k x l h = absurd (omega arith)
place_at n (y ∷ own) zero x l h = ltb-true y.0 n (first (nat_lt y.0 n) (list_all (λ y. nat_lt y n) (variable_numbers own)) h)
place_at n (y ∷ own) (suc k) x l h = place_at n own k x (omega arith) (second (nat_lt y.0 n) (list_all (λ y. nat_lt y n) (variable_numbers own)) h)

-- one item more
pub var_added : (r k : ℕ) (fs : List ℤ) (items : List Arg) (f : ℤ) (a : Arg) (x : VarId) (first old now new : Terms) → k < length fs → k < length items → get_or items k a ≡ Var x → new ≡ now →
    ((y : ℕ) → terms_at now y ≡ terms_at old y ++ term_if (x.0 == y) r (get_or fs k f)) → ((y : ℕ) → terms_at old y ++ item_terms r y (drop k fs) (drop k items) ≡ terms_at first y ++ item_terms r y fs items) →
    (y : ℕ) → terms_at new y ++ item_terms r y (drop (k + 1) fs) (drop (k + 1) items) ≡ terms_at first y ++ item_terms r y fs items
var_added r k fs items f a x first old now new l m e s p i y =
    ap (λ ts. terms_at ts y ++ item_terms r y (drop (k + 1) fs) (drop (k + 1) items)) s
    ∙ one_more (terms_at old y) (terms_at now y) (term_if (x.0 == y) r (get_or fs k f)) (item_terms r y (drop (k + 1) fs) (drop (k + 1) items)) (item_terms r y (drop k fs) (drop k items)) (terms_at first y ++ item_terms r y fs items)
    (p y)
    (var_next r y k fs items f a x l m e)
    (i y)

pub num_added : (r k : ℕ) (fs : List ℤ) (items : List Arg) (f : ℤ) (a : Arg) (n : ℤ) (first old new : Terms) → k < length fs → k < length items → get_or items k a ≡ Num n → new ≡ old →
    ((y : ℕ) → terms_at old y ++ item_terms r y (drop k fs) (drop k items) ≡ terms_at first y ++ item_terms r y fs items) →
    (y : ℕ) → terms_at new y ++ item_terms r y (drop (k + 1) fs) (drop (k + 1) items) ≡ terms_at first y ++ item_terms r y fs items
num_added r k fs items f a n first old new l m e s i y =
    ap (λ ts. terms_at ts y ++ item_terms r y (drop (k + 1) fs) (drop (k + 1) items)) s
    ∙ ap (◌++◌ (terms_at old y)) (sym (num_next r y k fs items f a n l m e))
    ∙ i y
