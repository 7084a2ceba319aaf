-- Whether a constraint keeps its ends depends on what is left to its own variables alone.
use Rattle.std.proofs.Common.{◌≡◌, ◌≢◌, ℕ, zero, suc, Bool, true, false, not, ◌&&◌, List, [], ◌∷◌, ◌++◌, length, map, set, refl, ap, ◌∙◌, arith, ℤ}
use Rattle.std.specs.Prelude.{flat_map, ◌==◌}
use Rattle.std.specs.List.{list_any, list_all}
use Rattle.std.proofs.lemmas.Bool.Decides.{nat_tests}
use Rattle.std.proofs.lemmas.List.Folds.{list_any-append}
use Rattle.std.proofs.lemmas.List.{get_or-set_other, length-set}
use Rattle.std.proofs.lemmas.Bool.{or_left, or_right, or_parts}
use Rattle.qc_model.specs.declared.problem.Arg.{Arg}
use Rattle.qc_model.specs.declared.problem.Arg.TheVariants.{Var, Num}
use Rattle.qc_model.specs.declared.problem.Argument.{Argument}
use Rattle.qc_model.specs.declared.problem.Argument.TheVariants.{One, Many, Numbers, Members}
use Rattle.qc_model.specs.Arguments.{arg_variables, argument_variables, variables_of, filled_one, filled_many, fill}
use Rattle.qc_model.specs.Closed.{refutes_at, keeps_ends}
use Rattle.qc_model.specs.Content.{Rule}
use Rattle.qc_model.specs.Domains.{Values, Box, values_left, box_at, least_value, greatest_value, box_without, values_outside}
use Rattle.qc_model.specs.Meaning.{meaning_of}
use Rattle.qc_model.specs.Refuted.{left_to, refuted_as}
use Rattle.proof_tree.specs.declared.tree.Step.{Step}
use Rattle.proof_tree.specs.declared.tree.Step.TheVariants.{Prune, Bound}
use Rattle.proof_tree.specs.Steps.{after_steps}
use Rattle.prop_engine.specs.Watching.{names, changed_by}

abbrev pub among : List ℕ → ℕ → Bool
among xs x = list_any (λ y. y == x) xs

same_number : (k : ℕ) → (k == k) ≡ true
same_number k = grind (arith, nat_tests)

equal_numbers : (j k : ℕ) → (j == k) ≡ true → j ≡ k
equal_numbers j k h = grind (arith, nat_tests)

apart : (j k : ℕ) → (j == k) ≡ false → k ≢ j
apart j k h e = grind (arith, nat_tests)

pub among_left : (xs ys : List ℕ) (x : ℕ) → among xs x ≡ true → among (xs ++ ys) x ≡ true
among_left xs ys x h = list_any-append (λ y. y == x) xs ys ∙ or_left (among xs x) (among ys x) h

pub among_right : (xs ys : List ℕ) (x : ℕ) → among ys x ≡ true → among (xs ++ ys) x ≡ true
among_right xs ys x h = list_any-append (λ y. y == x) xs ys ∙ or_right (among xs x) (among ys x) h

-- the same arguments, where the same is left to their variables
fill_one : (b d : Box) (a : Arg) → ((x : ℕ) → among (arg_variables a) x ≡ true → values_left b x ≡ values_left d x) → left_to b a ≡ left_to d a
fill_one b d (Var x) h = h x.0 (or_left (x.0 == x.0) false (same_number x.0))
fill_one b d (Num n) h = refl

fill_items : (b d : Box) (xs : List Arg) → ((x : ℕ) → among (flat_map arg_variables xs) x ≡ true → values_left b x ≡ values_left d x) → map (left_to b) xs ≡ map (left_to d) xs
fill_items b d [] h = refl
fill_items b d (a ∷ xs) h =
    let here = fill_one b d a (λ x m. h x (among_left (arg_variables a) (flat_map arg_variables xs) x m)) in
    let later = fill_items b d xs (λ x m. h x (among_right (arg_variables a) (flat_map arg_variables xs) x m)) in
    ap (λ v. v ∷ map (left_to b) xs) here ∙ ap (λ vs. left_to d a ∷ vs) later

fill_argument : (b d : Box) (a : Argument) → ((x : ℕ) → among (argument_variables a) x ≡ true → values_left b x ≡ values_left d x) → fill (left_to b) a ≡ fill (left_to d) a
fill_argument b d (One a) h = ap filled_one (fill_one b d a h)
fill_argument b d (Many xs) h = ap filled_many (fill_items b d xs h)
fill_argument b d (Numbers ns) h = refl
fill_argument b d (Members s) h = refl

fill_all : (b d : Box) (args : List Argument) → ((x : ℕ) → among (variables_of args) x ≡ true → values_left b x ≡ values_left d x) → map (fill (left_to b)) args ≡ map (fill (left_to d)) args
fill_all b d [] h = refl
fill_all b d (a ∷ args) h =
    let here = fill_argument b d a (λ x m. h x (among_left (argument_variables a) (variables_of args) x m)) in
    let later = fill_all b d args (λ x m. h x (among_right (argument_variables a) (variables_of args) x m)) in
    ap (λ v. v ∷ map (fill (left_to b)) args) here ∙ ap (λ vs. fill (left_to d) a ∷ vs) later

-- the same values given to x
set_both : (b d : Box) (x y : ℕ) (us : Values) → length b ≡ length d → values_left b y ≡ values_left d y → values_left (set b x us) y ≡ values_left (set d x us) y
set_both [] [] x y us l h = refl
set_both [] (e ∷ d) x y us l h = cc
set_both (e ∷ b) [] x y us l h = cc
set_both (e ∷ b) (f ∷ d) zero zero us l h = refl
set_both (e ∷ b) (f ∷ d) zero (suc y) us l h = h
set_both (e ∷ b) (f ∷ d) (suc x) zero us l h = h
set_both (e ∷ b) (f ∷ d) (suc x) (suc y) us l h = set_both b d x y us (omega (arith, l)) h

pub refutes_same : (c : Rule) (b d : Box) (x : ℕ) (v : ℤ) → length b ≡ length d → ((y : ℕ) → among (variables_of c.args) y ≡ true → values_left b y ≡ values_left d y) →
    refutes_at c b x v ≡ refutes_at c d x v
refutes_same c b d x v l h =
    ap (refuted_as (meaning_of c.pred)) (fill_all (box_at b x v) (box_at d x v) c.args (λ y m. set_both b d x y (v ∷ []) l (h y m)))

and_both : (a b c d : Bool) → a ≡ c → b ≡ d → (a && b) ≡ (c && d)
and_both a b c d p q = ap (λ z. z && b) p ∙ ap (λ z. c && z) q

all_same : (p q : ℕ → Bool) (xs : List ℕ) → ((x : ℕ) → among xs x ≡ true → p x ≡ q x) → list_all p xs ≡ list_all q xs
all_same p q [] h = refl
all_same p q (x ∷ xs) h =
    and_both (p x) (list_all p xs) (q x) (list_all q xs) (h x (or_left (x == x) (among xs x) (same_number x))) (all_same p q xs (λ y m. h y (or_right (x == y) (among xs y) m)))

pub keeps_same : (c : Rule) (b d : Box) → length b ≡ length d → ((x : ℕ) → among (variables_of c.args) x ≡ true → values_left b x ≡ values_left d x) → keeps_ends b c ≡ keeps_ends d c
keeps_same c b d l h =
    all_same
    (λ x. not (refutes_at c b x (least_value (values_left b x))) && not (refutes_at c b x (greatest_value (values_left b x))))
    (λ x. not (refutes_at c d x (least_value (values_left d x))) && not (refutes_at c d x (greatest_value (values_left d x))))
    (variables_of c.args)
    (λ x m. and_both
    (not (refutes_at c b x (least_value (values_left b x)))) (not (refutes_at c b x (greatest_value (values_left b x))))
    (not (refutes_at c d x (least_value (values_left d x)))) (not (refutes_at c d x (greatest_value (values_left d x))))
    (ap not (refutes_same c b d x (least_value (values_left b x)) l h ∙ ap (λ vs. refutes_at c d x (least_value vs)) (h x m)))
    (ap not (refutes_same c b d x (greatest_value (values_left b x)) l h ∙ ap (λ vs. refutes_at c d x (greatest_value vs)) (h x m))))

-- steps leave the variables that they don't name
pub after_length : (steps : List Step) (box : Box) → length (after_steps steps box) ≡ length box
after_length [] box = refl
after_length (Prune x lo hi c ∷ steps) box = after_length steps (box_without box x.0 lo hi) ∙ length-set box x.0 (values_outside lo hi (values_left box x.0))
after_length (Bound x lo hi ∷ steps) box = after_length steps (box_without box x.0 lo hi) ∙ length-set box x.0 (values_outside lo hi (values_left box x.0))

pub after_others : (steps : List Step) (box : Box) (y : ℕ) → names (changed_by steps) y ≡ false → values_left (after_steps steps box) y ≡ values_left box y
after_others [] box y h = refl
after_others (Prune x lo hi c ∷ steps) box y h =
    let p = or_parts (x.0 == y) (names (changed_by steps) y) h in
    after_others steps (box_without box x.0 lo hi) y p.1 ∙ get_or-set_other box x.0 y (values_outside lo hi (values_left box x.0)) [] (apart x.0 y p.0)
after_others (Bound x lo hi ∷ steps) box y h =
    let p = or_parts (x.0 == y) (names (changed_by steps) y) h in
    after_others steps (box_without box x.0 lo hi) y p.1 ∙ get_or-set_other box x.0 y (values_outside lo hi (values_left box x.0)) [] (apart x.0 y p.0)
