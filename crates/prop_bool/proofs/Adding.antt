-- Some literals and one more.
use Rattle.std.proofs.Common.{◌≡◌, ℕ, ◌+◌, Bool, true, false, not, ◌&&◌, ◌||◌, List, [], ◌∷◌, ◌++◌, set, take, zero, suc, refl, sym, ap, ◌∙◌, subst, arith, ℤ, Some}
use Rattle.std.specs.Prelude.{slice_get, ◌==◌}
use Rattle.std.specs.List.{list_all, list_any}
use Rattle.std.proofs.lemmas.List.Folds.{list_all-append, list_any-append}
use Rattle.std.proofs.lemmas.Bool.Decides.{nat_tests}
use Rattle.std.proofs.lemmas.Bool.{or_left, or_right, false_from_ne_true, and_from}
use Rattle.qc_model.specs.declared.problem.Arg.{Arg}
use Rattle.qc_model.specs.declared.problem.Arg.TheVariants.{Var, Num}
use Rattle.qc_model.specs.Domains.{Box, values_left, has_value}
use Rattle.qc_model.specs.Holds.{same_truth}
use Rattle.qc_model.specs.Left.{is_only}
use Rattle.qc_model.specs.Refuted.{left_to}
use Rattle.qc_model.proofs.Readable.{first, second}
use Rattle.model_arguments.specs.Repeats.{is_variable, same_variable}
use Rattle.prop_bool.specs.declared.chances.Chance.{Chance}
use Rattle.prop_bool.specs.declared.literals.Literal.{Literal}
use Rattle.prop_bool.specs.Literals.{truth_number, both_truths, surely_holds, surely_fails, IsUnfixed, same_literal}
use Rattle.prop_bool.specs.declared.literals.Standing.{Standing}
use Rattle.prop_bool.specs.declared.literals.Standing.TheVariants.{Holds, Fails, Unfixed}
use Rattle.prop_bool.specs.Findings.{StandsAny, CanHold, IsLast, IsChance}
use Rattle.prop_bool.proofs.Truths.{only_is, is_one, not_only_both, one_not_other, same_number}
use Rattle.prop_bool.proofs.Fixing.{has_place, left_other, left_there, fixed_stays}

pub unfixed_not_fails : (box : Box) (l : Literal) → IsUnfixed box l → surely_fails box l ≡ false
unfixed_not_fails box l h = ap (is_only (truth_number (not l.positive))) h ∙ not_only_both (not l.positive)

pub holds_not_fails : (box : Box) (l : Literal) → surely_holds box l ≡ true → surely_fails box l ≡ false
holds_not_fails box l h = one_not_other l.positive (left_to box l.arg) h

pub fails_not_holds : (box : Box) (l : Literal) → surely_fails box l ≡ true → surely_holds box l ≡ false
fails_not_holds box l h = ap (λ b. is_only (truth_number b) (left_to box l.arg)) (sym (twice l.positive)) ∙ one_not_other (not l.positive) (left_to box l.arg) h
  where
    twice : (b : Bool) → not (not b) ≡ b
    twice true = refl
    twice false = refl

-- what is decided stays so
pub holds_stays : (box : Box) (y : ℕ) (v : ℤ) (l : Literal) → has_value (values_left box y) v ≡ true → surely_holds box l ≡ true → surely_holds (set box y (v ∷ [])) l ≡ true
holds_stays box y v l k h =
    is_one (truth_number l.positive) (left_to (set box y (v ∷ [])) l.arg) (fixed_stays box y v l.arg (truth_number l.positive) k (only_is (truth_number l.positive) (left_to box l.arg) h))

pub fails_stays : (box : Box) (y : ℕ) (v : ℤ) (l : Literal) → has_value (values_left box y) v ≡ true → surely_fails box l ≡ true → surely_fails (set box y (v ∷ [])) l ≡ true
fails_stays box y v l k h =
    is_one (truth_number (not l.positive)) (left_to (set box y (v ∷ [])) l.arg) (fixed_stays box y v l.arg (truth_number (not l.positive)) k (only_is (truth_number (not l.positive)) (left_to box l.arg) h))

-- lists
pub all_weaker : (p q : Literal → Bool) → ((l : Literal) → p l ≡ true → q l ≡ true) → (ls : List Literal) → list_all p ls ≡ true → list_all q ls ≡ true
all_weaker p q f [] h = refl
all_weaker p q f (l ∷ ls) h = and_from (q l) (list_all q ls) (f l (first (p l) (list_all p ls) h)) (all_weaker p q f ls (second (p l) (list_all p ls) h))

pub any_weaker : (p q : Literal → Bool) → ((l : Literal) → p l ≡ true → q l ≡ true) → (ls : List Literal) → list_any p ls ≡ true → list_any q ls ≡ true
any_weaker p q f [] h = cc
any_weaker p q f (l ∷ ls) h = by (p l) (f l) (λ k. any_weaker p q f ls k) h
  where
    by : (b : Bool) → (b ≡ true → q l ≡ true) → (list_any p ls ≡ true → list_any q ls ≡ true) → (b || list_any p ls) ≡ true → (q l || list_any q ls) ≡ true
    by true g r k = or_left (q l) (list_any q ls) (g refl)
    by false g r k = or_right (q l) (list_any q ls) (r k)

-- some pass the first, so not all pass a second that excludes it
pub some_other : (p q : Literal → Bool) → ((l : Literal) → p l ≡ true → q l ≡ false) → (ls : List Literal) → list_any p ls ≡ true → list_all q ls ≡ false
some_other p q f [] h = cc
some_other p q f (l ∷ ls) h = by (p l) (f l) (λ k. some_other p q f ls k) h
  where
    not_this : (b c : Bool) → b ≡ false → (b && c) ≡ false
    not_this true c k = cc
    not_this false c k = refl

    not_that : (b c : Bool) → c ≡ false → (b && c) ≡ false
    not_that true c k = k
    not_that false c k = refl

    by : (b : Bool) → (b ≡ true → q l ≡ false) → (list_any p ls ≡ true → list_all q ls ≡ false) → (b || list_any p ls) ≡ true → (q l && list_all q ls) ≡ false
    by true g r k = not_this (q l) (list_all q ls) (g refl)
    by false g r k = not_that (q l) (list_all q ls) (r k)

pub none_other : (p q : Literal → Bool) → ((l : Literal) → p l ≡ true → q l ≡ false) → (ls : List Literal) → list_all p ls ≡ true → list_any q ls ≡ false
none_other p q f [] h = refl
none_other p q f (l ∷ ls) h = by (q l) (f l (first (p l) (list_all p ls) h)) (none_other p q f ls (second (p l) (list_all p ls) h))
  where
    by : (b : Bool) → b ≡ false → list_any q ls ≡ false → (b || list_any q ls) ≡ false
    by true e k = cc
    by false e k = k

pub all_more : (p : Literal → Bool) (ls : List Literal) (l : Literal) → list_all p ls ≡ true → p l ≡ true → list_all p (ls ++ l ∷ []) ≡ true
all_more p ls l h k = list_all-append p ls (l ∷ []) ∙ and_from (list_all p ls) (p l && true) h (and_from (p l) true k refl)

all_last : (p : Literal → Bool) (ls : List Literal) (l : Literal) → list_all p (ls ++ l ∷ []) ≡ true → p l ≡ true
all_last p ls l h = first (p l) true (second (list_all p ls) (p l && true) (sym (list_all-append p ls (l ∷ [])) ∙ h))

all_before : (p : Literal → Bool) (ls : List Literal) (l : Literal) → list_all p (ls ++ l ∷ []) ≡ true → list_all p ls ≡ true
all_before p ls l h = first (list_all p ls) (p l && true) (sym (list_all-append p ls (l ∷ [])) ∙ h)

-- a literal that holds
pub some_hold : (box : Box) (ls : List Literal) → list_any (surely_holds box) ls ≡ true → CanHold box ls
some_hold box ls h y v k =
    some_other (surely_holds box) (surely_fails (set box y (v ∷ []))) (λ l e. holds_not_fails (set box y (v ∷ [])) l (holds_stays box y v l k e)) ls h

pub any_last : (p : Literal → Bool) (ls : List Literal) (l : Literal) → p l ≡ true → list_any p (ls ++ l ∷ []) ≡ true
any_last p ls l h = list_any-append p ls (l ∷ []) ∙ or_right (list_any p ls) (p l || false) (or_left (p l) false h)

pub chance_holds : (box : Box) (ls : List Literal) (l : Literal) → surely_holds box l ≡ true → CanHold box (ls ++ l ∷ [])
chance_holds box ls l h = some_hold box (ls ++ l ∷ []) (any_last (surely_holds box) ls l h)

-- the first that is unfixed
number_same : (n : ℕ) → (n == n) ≡ true
number_same n = grind (arith, nat_tests)

truth_same : (b : Bool) → same_truth b b ≡ true
truth_same true = refl
truth_same false = refl

unfixed_variable : (box : Box) (a : Arg) → left_to box a ≡ both_truths → same_variable a a ≡ true
unfixed_variable box (Var x) h = number_same x.0
unfixed_variable box (Num n) h = cc

pub same_self : (box : Box) (l : Literal) → IsUnfixed box l → same_literal l l ≡ true
same_self box l h = and_from (same_variable l.arg l.arg) (same_truth l.positive l.positive) (unfixed_variable box l.arg h) (truth_same l.positive)

pub chance_first : (box : Box) (ls : List Literal) (l : Literal) → IsUnfixed box l → list_all (surely_fails box) ls ≡ true → IsLast box (ls ++ l ∷ []) l
chance_first box ls l h k = record {
  unfixed = h;
  there = any_last (same_literal l) ls l (same_self box l h);
  others =
      all_more (λ m. surely_fails box m || same_literal l m) ls l
      (all_weaker (surely_fails box) (λ m. surely_fails box m || same_literal l m) (λ m e. or_left (surely_fails box m) (same_literal l m) e) ls k)
      (or_right (surely_fails box l) (same_literal l l) (same_self box l h));
}

-- a second
number_is : (a b : ℕ) → (a == b) ≡ true → a ≡ b
number_is a b h = grind (arith, nat_tests)

pub same_place : (box : Box) (a b : Arg) → same_variable a b ≡ true → left_to box a ≡ left_to box b
same_place box (Var x) (Var y) h = ap (values_left box) (sym (number_is y.0 x.0 h))
same_place box (Var x) (Num n) h = cc
same_place box (Num n) b h = cc

pub truth_is : (a b : Bool) → same_truth a b ≡ true → a ≡ b
truth_is true b h = sym h
truth_is false true h = cc
truth_is false false h = refl

pub same_fails : (box : Box) (l m : Literal) → same_literal l m ≡ true → surely_fails box m ≡ surely_fails box l
same_fails box l m h =
    let p = same_place box l.arg m.arg (first (same_variable l.arg m.arg) (same_truth l.positive m.positive) h) in
    let t = truth_is l.positive m.positive (second (same_variable l.arg m.arg) (same_truth l.positive m.positive) h) in
    ap (is_only (truth_number (not m.positive))) (sym p) ∙ ap (λ b. is_only (truth_number (not b)) (left_to box l.arg)) (sym t)

pub same_holds : (box : Box) (l m : Literal) → same_literal l m ≡ true → surely_holds box m ≡ surely_holds box l
same_holds box l m h =
    let p = same_place box l.arg m.arg (first (same_variable l.arg m.arg) (same_truth l.positive m.positive) h) in
    let t = truth_is l.positive m.positive (second (same_variable l.arg m.arg) (same_truth l.positive m.positive) h) in
    ap (is_only (truth_number m.positive)) (sym p) ∙ ap (λ b. is_only (truth_number b) (left_to box l.arg)) (sym t)

-- all pass, so one that stands among them does
all_there : (p : Literal → Bool) (l : Literal) → ((m : Literal) → same_literal l m ≡ true → p m ≡ p l) → (ls : List Literal) → list_any (same_literal l) ls ≡ true → list_all p ls ≡ true → p l ≡ true
all_there p l f [] h k = cc
all_there p l f (m ∷ ls) h k = by (same_literal l m) (f m) (λ e. all_there p l f ls e (second (p m) (list_all p ls) k)) h
  where
    by : (b : Bool) → (b ≡ true → p m ≡ p l) → (list_any (same_literal l) ls ≡ true → p l ≡ true) → (b || list_any (same_literal l) ls) ≡ true → p l ≡ true
    by true g r e = sym (g refl) ∙ first (p m) (list_all p ls) k
    by false g r e = r e

pub both_of : (a b : Arg) (y : ℕ) → is_variable a y ≡ true → is_variable b y ≡ true → same_variable a b ≡ true
both_of (Var x) (Var z) y h k = meet x.0 z.0 y h k
  where
    meet : (a b c : ℕ) → (a == c) ≡ true → (b == c) ≡ true → (b == a) ≡ true
    meet a b c h k = grind (arith, nat_tests)
both_of (Var x) (Num n) y h k = cc
both_of (Num n) b y h k = cc

no_same : (a b : Bool) → a ≡ true → (a && b) ≡ false → b ≡ false
no_same true b h k = k
no_same false b h k = cc

unlike : (a b : Bool) → a ≡ b → same_truth a b ≡ false → ⊥
unlike true true h k = cc
unlike true false h k = cc
unlike false true h k = cc
unlike false false h k = cc

head : (u v : ℤ) → u ∷ [] ≡ v ∷ [] → u ≡ v
head u v h = cc

-- both can't fail at once
both_fail : (box : Box) (l m : Literal) (y : ℕ) (v : ℤ) → IsUnfixed box l → IsUnfixed box m → same_literal l m ≡ false → has_value (values_left box y) v ≡ true →
    surely_fails (set box y (v ∷ [])) l ≡ true → surely_fails (set box y (v ∷ [])) m ≡ true → ⊥
both_fail box l m y v p q s k f h = by (is_variable l.arg y) (is_variable m.arg y) refl refl
  where
    new : Box
    new = set box y (v ∷ [])

    stays : (n : Literal) → IsUnfixed box n → is_variable n.arg y ≡ false → surely_fails new n ≡ true → ⊥
    stays n u e t = let w = sym (unfixed_not_fails new n (left_other box y (v ∷ []) n.arg e ∙ u)) ∙ t in cc

    number : (n : Literal) → is_variable n.arg y ≡ true → surely_fails new n ≡ true → v ≡ truth_number (not n.positive)
    number n e t =
        head v (truth_number (not n.positive)) (sym (left_there box y (v ∷ []) n.arg e (has_place box y v k)) ∙ only_is (truth_number (not n.positive)) (left_to new n.arg) t)

    turn : (a b : Bool) → not a ≡ not b → a ≡ b
    turn true true e = refl
    turn true false e = cc
    turn false true e = cc
    turn false false e = refl

    by : (a b : Bool) → is_variable l.arg y ≡ a → is_variable m.arg y ≡ b → ⊥
    by false b i j = stays l p i f
    by true false i j = stays m q j h
    by true true i j =
        unlike l.positive m.positive (turn l.positive m.positive (same_number (not l.positive) (not m.positive) (sym (number l i f) ∙ number m j h)))
        (no_same (same_variable l.arg m.arg) (same_truth l.positive m.positive) (both_of l.arg m.arg y i j) s)

pub chance_other : (box : Box) (ls : List Literal) (l m : Literal) → IsLast box ls l → IsUnfixed box m → same_literal l m ≡ false → CanHold box (ls ++ m ∷ [])
chance_other box ls l m p q s y v k =
    let new = set box y (v ∷ []) in
    false_from_ne_true (list_all (surely_fails new) (ls ++ m ∷ []))
    (λ h. both_fail box l m y v p.unfixed q s k
    (all_there (surely_fails new) l (λ n e. same_fails new l n e) ls p.there (all_before (surely_fails new) ls m h))
    (all_last (surely_fails new) ls m h))

-- one place more
take_suc : (ls : List Literal) (k : ℕ) (l : Literal) → slice_get ls k ≡ Some l → take (suc k) ls ≡ take k ls ++ l ∷ []
take_suc [] zero l h = cc
take_suc [] (suc k) l h = cc
take_suc (m ∷ ls) zero l h = ap (λ n. n ∷ []) (the h)
  where
    the : Some m ≡ Some l → m ≡ l
    the e = cc
take_suc (m ∷ ls) (suc k) l h = ap (λ n. m ∷ n) (take_suc ls k l h)

pub take_next : (ls : List Literal) (k : ℕ) (l : Literal) → slice_get ls k ≡ Some l → take (k + 1) ls ≡ take k ls ++ l ∷ []
take_next ls k l h = ap (λ n. take n ls) (one_more k) ∙ take_suc ls k l h
  where
    one_more : (k : ℕ) → k + 1 ≡ suc k
    one_more k = omega arith

pub chance_next : (s : Chance) (box : Box) (ls : List Literal) (k : ℕ) (l : Literal) → slice_get ls k ≡ Some l → IsChance s box (take k ls ++ l ∷ []) → IsChance s box (take (k + 1) ls)
chance_next s box ls k l h p = subst (λ ms. IsChance s box ms) (sym (take_next ls k l h)) p

none_more : (p : Literal → Bool) (ls : List Literal) (k : ℕ) → list_all p (take k ls) ≡ false → list_all p ls ≡ false
none_more p ls zero h = cc
none_more p [] (suc k) h = cc
none_more p (l ∷ ls) (suc k) h = by (p l) (λ e. none_more p ls k e) h
  where
    by : (b : Bool) → (list_all p (take k ls) ≡ false → list_all p ls ≡ false) → (b && list_all p (take k ls)) ≡ false → (b && list_all p ls) ≡ false
    by true r e = r e
    by false r e = refl

pub free_more : (box : Box) (ls : List Literal) (k : ℕ) → CanHold box (take k ls) → CanHold box ls
free_more box ls k p y v h = none_more (surely_fails (set box y (v ∷ []))) ls k (p y v h)

-- what the disjunction of some literals and one more comes to
all_before_false : (p : Literal → Bool) (ls : List Literal) (l : Literal) → list_all p ls ≡ false → list_all p (ls ++ l ∷ []) ≡ false
all_before_false p ls l h = list_all-append p ls (l ∷ []) ∙ ap (λ b. b && (p l && true)) h

all_last_false : (p : Literal → Bool) (ls : List Literal) (l : Literal) → p l ≡ false → list_all p (ls ++ l ∷ []) ≡ false
all_last_false p ls l h = list_all-append p ls (l ∷ []) ∙ by (list_all p ls) (p l) h
  where
    by : (a b : Bool) → b ≡ false → (a && (b && true)) ≡ false
    by true true k = cc
    by true false k = refl
    by false b k = refl

any_none : (p : Literal → Bool) (ls : List Literal) (l : Literal) → list_any p ls ≡ false → p l ≡ false → list_any p (ls ++ l ∷ []) ≡ false
any_none p ls l h k = list_any-append p ls (l ∷ []) ∙ (ap (λ b. b || (p l || false)) h ∙ ap (λ b. b || false) k)

any_before : (p : Literal → Bool) (ls : List Literal) (l : Literal) → list_any p ls ≡ true → list_any p (ls ++ l ∷ []) ≡ true
any_before p ls l h = list_any-append p ls (l ∷ []) ∙ or_left (list_any p ls) (p l || false) h

pub unfixed_not_holds : (box : Box) (l : Literal) → IsUnfixed box l → surely_holds box l ≡ false
unfixed_not_holds box l h = ap (is_only (truth_number l.positive)) h ∙ not_only_both l.positive

pub outcome_holds : (box : Box) (ls : List Literal) (l : Literal) → surely_holds box l ≡ true → list_any (surely_holds box) (ls ++ l ∷ []) ≡ true
outcome_holds box ls l h = any_last (surely_holds box) ls l h

pub outcome_held : (box : Box) (ls : List Literal) (l : Literal) → list_any (surely_holds box) ls ≡ true → list_any (surely_holds box) (ls ++ l ∷ []) ≡ true
outcome_held box ls l h = any_before (surely_holds box) ls l h

pub outcome_fails : (s : Standing) (box : Box) (ls : List Literal) (l : Literal) → surely_fails box l ≡ true → StandsAny s box ls → StandsAny s box (ls ++ l ∷ [])
outcome_fails Holds box ls l h p = any_before (surely_holds box) ls l p
outcome_fails Fails box ls l h p = all_more (surely_fails box) ls l p h
outcome_fails Unfixed box ls l h p = (any_none (surely_holds box) ls l p.0 (fails_not_holds box l h), all_before_false (surely_fails box) ls l p.1)

pub outcome_first : (box : Box) (ls : List Literal) (l : Literal) → IsUnfixed box l → list_all (surely_fails box) ls ≡ true → StandsAny Unfixed box (ls ++ l ∷ [])
outcome_first box ls l u p = (
  any_none (surely_holds box) ls l (none_other (surely_fails box) (surely_holds box) (λ m e. fails_not_holds box m e) ls p) (unfixed_not_holds box l u),
  all_last_false (surely_fails box) ls l (unfixed_not_fails box l u),
)

pub outcome_unfixed : (box : Box) (ls : List Literal) (l : Literal) → IsUnfixed box l → StandsAny Unfixed box ls → StandsAny Unfixed box (ls ++ l ∷ [])
outcome_unfixed box ls l u p = (any_none (surely_holds box) ls l p.0 (unfixed_not_holds box l u), all_last_false (surely_fails box) ls l (unfixed_not_fails box l u))

pub outcome_next : (s : Standing) (box : Box) (ls : List Literal) (k : ℕ) (l : Literal) → slice_get ls k ≡ Some l → StandsAny s box (take k ls ++ l ∷ []) → StandsAny s box (take (k + 1) ls)
outcome_next s box ls k l h p = subst (λ ms. StandsAny s box ms) (sym (take_next ls k l h)) p

any_taken : (p : Literal → Bool) (ls : List Literal) (k : ℕ) → list_any p (take k ls) ≡ true → list_any p ls ≡ true
any_taken p ls zero h = cc
any_taken p [] (suc k) h = cc
any_taken p (l ∷ ls) (suc k) h = by (p l) (λ e. any_taken p ls k e) h
  where
    by : (b : Bool) → (list_any p (take k ls) ≡ true → list_any p ls ≡ true) → (b || list_any p (take k ls)) ≡ true → (b || list_any p ls) ≡ true
    by true r e = refl
    by false r e = r e

pub holding_more : (box : Box) (ls : List Literal) (k : ℕ) → list_any (surely_holds box) (take k ls) ≡ true → list_any (surely_holds box) ls ≡ true
holding_more box ls k h = any_taken (surely_holds box) ls k h

pub any_there : (p : Literal → Bool) (ls : List Literal) (k : ℕ) (l : Literal) → p l ≡ true → slice_get ls k ≡ Some l → list_any p ls ≡ true
any_there p ls k l h e = any_taken p ls (k + 1) (ap (list_any p) (take_next ls k l e) ∙ any_last p (take k ls) l h)

pub fails_next : (box : Box) (ls : List Literal) (k : ℕ) (l : Literal) → slice_get ls k ≡ Some l → surely_fails box l ≡ true → list_all (surely_fails box) (take k ls) ≡ true → list_all (surely_fails box) (take (k + 1) ls) ≡ true
fails_next box ls k l h f p = ap (list_all (surely_fails box)) (take_next ls k l h) ∙ all_more (surely_fails box) (take k ls) l p f

pub literal_there : (p : Literal → Bool) (ls : List Literal) (k : ℕ) (l : Literal) → list_all p ls ≡ true → slice_get ls k ≡ Some l → p l ≡ true
literal_there p [] zero l h e = cc
literal_there p [] (suc k) l h e = cc
literal_there p (m ∷ ls) zero l h e = ap p (sym (the e)) ∙ first (p m) (list_all p ls) h
  where
    the : Some m ≡ Some l → m ≡ l
    the e = cc
literal_there p (m ∷ ls) (suc k) l h e = literal_there p ls k l (second (p m) (list_all p ls) h) e
