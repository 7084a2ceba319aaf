-- What is left to items where one variable is set to an end, and what that leaves of a quiet constraint.
use Rattle.std.proofs.Common.{◌≡◌, ◌≢◌, ◌⊎◌, inl, inr, ℕ, zero, suc, ◌<◌, ◌==◌, Bool, true, false, List, [], ◌∷◌, ◌++◌, length, map, set, get_or, refl, sym, ap, ◌∙◌, subst, arith, ℤ}
use Rattle.std.specs.Prelude.{flat_map}
use Rattle.std.specs.List.{list_any}
use Rattle.std.proofs.lemmas.Bool.Decides.{nat_tests}
use Rattle.std.proofs.lemmas.List.{get_or-set_other}
use Rattle.std.proofs.lemmas.Bool.{or_from, or_parts}
use Rattle.qc_model.specs.declared.problem.Arg.{Arg}
use Rattle.qc_model.specs.declared.problem.Arg.TheVariants.{Var, Num}
use Rattle.qc_model.specs.declared.problem.Argument.{Argument}
use Rattle.qc_model.specs.declared.problem.Argument.TheVariants.{One, Many, Numbers, Members}
use Rattle.qc_model.specs.declared.problem.Pred.TheVariants.{AllDifferentInt}
use Rattle.qc_model.specs.Arguments.{fill, arg_variables, argument_variables, variables_of}
use Rattle.qc_model.specs.Closed.{refutes_at}
use Rattle.qc_model.specs.Content.{Rule}
use Rattle.qc_model.specs.Domains.{Values, Box, values_left, box_at, least_value, greatest_value}
use Rattle.qc_model.specs.Left.{has_crowd}
use Rattle.qc_model.specs.Lists.{Among, Distinct}
use Rattle.qc_model.specs.Meaning.{meaning_of}
use Rattle.qc_model.specs.Refuted.{left_to, refuted_as, refuted_by}
use Rattle.model_arguments.specs.Repeats.{is_variable, same_variable, has_repeat}
use Rattle.model_arguments.specs.Written.{args_at}
use Rattle.model_arguments.proofs.Written.{lefts_written}
use Rattle.dense_closing.specs.Takes.{Takes}
use Rattle.dense_quiet.specs.Differing.{AllQuiet}
use Rattle.dense_quiet.specs.Slack.{SparesTaken}
use Rattle.dense_quiet.proofs.FullRanges.{quiet_keeps, quiet_stands}

equal_numbers : (j k : ℕ) → (j == k) ≡ true → j ≡ k
equal_numbers j k h = grind (arith, nat_tests)

apart_numbers : (j k : ℕ) → (j == k) ≡ false → j ≢ k
apart_numbers j k h e = grind (arith, nat_tests)

-- variables of which none stands twice
distinct_first : {X : Type 0} (xs ys : List X) → Distinct (xs ++ ys) → Distinct xs
distinct_first [] ys d = _
distinct_first {X} (x ∷ xs) ys d = (λ m. d.0 (more xs m), distinct_first xs ys d.1)
  where
    more : (zs : List X) → Among x zs → Among x (zs ++ ys)
    more [] m = absurd m
    more (z ∷ zs) m = elim m [ inl e ↦ inl e | inr q ↦ inr (more zs q) ]

distinct_later : {X : Type 0} (xs ys : List X) → Distinct (xs ++ ys) → Distinct ys
distinct_later [] ys d = d
distinct_later (x ∷ xs) ys d = distinct_later xs ys d.1

none_same : (k : ℕ) (xs : List Arg) → (Among k (flat_map arg_variables xs) → ⊥) → list_any (λ b. is_variable b k) xs ≡ false
none_same k [] f = refl
none_same k (Num m ∷ xs) f = none_same k xs f
none_same k (Var y ∷ xs) f = or_from (y.0 == k) (list_any (λ b. is_variable b k) xs) (by (y.0 == k) refl) (none_same k xs (λ m. f (inr m)))
  where
    by : (b : Bool) → (y.0 == k) ≡ b → b ≡ false
    by true e = absurd (f (inl (sym (equal_numbers y.0 k e))))
    by false e = refl

items_once : (xs : List Arg) → Distinct (flat_map arg_variables xs) → has_repeat xs ≡ false
items_once [] d = refl
items_once (Num m ∷ xs) d = or_from (list_any (same_variable (Num m)) xs) (has_repeat xs) (no_number xs) (items_once xs d)
  where
    no_number : (ys : List Arg) → list_any (same_variable (Num m)) ys ≡ false
    no_number [] = refl
    no_number (y ∷ ys) = no_number ys
items_once (Var y ∷ xs) d = or_from (list_any (same_variable (Var y)) xs) (has_repeat xs) (none_same y.0 xs d.0) (items_once xs d.1)

once_at : (args : List Argument) (k : ℕ) → Distinct (variables_of args) → has_repeat (args_at args k) ≡ false
once_at [] zero d = refl
once_at [] (suc k) d = refl
once_at (One a ∷ args) zero d = refl
once_at (Many xs ∷ args) zero d = items_once xs (distinct_first (flat_map arg_variables xs) (variables_of args) d)
once_at (Numbers ns ∷ args) zero d = refl
once_at (Members s ∷ args) zero d = refl
once_at (a ∷ args) (suc k) d = once_at args k (distinct_later (argument_variables a) (variables_of args) d)

-- one item has the value, and the others what they had
record IsReplaced (box : Box) (x : ℕ) (v : ℤ) (xs : List Arg) : Type 0 where
  place : ℕ
  within : place < length (map (left_to box) xs)
  was : get_or (map (left_to box) xs) place [] ≡ values_left box x
  now : map (left_to (box_at box x v)) xs ≡ set (map (left_to box) xs) place (v ∷ [])

abbrev IsSame : Box → ℕ → ℤ → List Arg → Type 0
IsSame box x v xs = map (left_to (box_at box x v)) xs ≡ map (left_to box) xs

set_cases : (box : Box) (x : ℕ) (us : Values) → (values_left (set box x us) x ≡ us) ⊎ (values_left (set box x us) x ≡ values_left box x)
set_cases [] x us = inr refl
set_cases (d ∷ box) zero us = inl refl
set_cases (d ∷ box) (suc x) us = set_cases box x us

module _ (box : Box) (x : ℕ) (v : ℤ) where
  other_left : (y : ℕ) → y ≢ x → values_left (box_at box x v) y ≡ values_left box y
  other_left y n = get_or-set_other box x y (v ∷ []) [] n

  same_items : (xs : List Arg) → list_any (λ b. is_variable b x) xs ≡ false → IsSame box x v xs
  same_items [] h = refl
  same_items (Num m ∷ xs) h = ap (λ ds. (m ∷ []) ∷ ds) (same_items xs h)
  same_items (Var y ∷ xs) h =
      let both = or_parts (y.0 == x) (list_any (λ b. is_variable b x) xs) h in
      ap (λ d. d ∷ map (left_to (box_at box x v)) xs) (other_left y.0 (apart_numbers y.0 x both.0)) ∙ ap (λ ds. values_left box y.0 ∷ ds) (same_items xs both.1)

  later : (a : Arg) (xs : List Arg) → left_to (box_at box x v) a ≡ left_to box a → IsSame box x v xs ⊎ IsReplaced box x v xs → IsSame box x v (a ∷ xs) ⊎ IsReplaced box x v (a ∷ xs)
  later a xs e (inl q) = inl (ap (λ d. d ∷ map (left_to (box_at box x v)) xs) e ∙ ap (λ ds. left_to box a ∷ ds) q)
  later a xs e (inr r) = inr (record {
    place = suc r.place;
    within = omega (arith, r.within);
    was = r.was;
    now = ap (λ d. d ∷ map (left_to (box_at box x v)) xs) e ∙ ap (λ ds. left_to box a ∷ ds) r.now;
  })

  first : (y : ℕ) (a : Arg) (xs : List Arg) → left_to (box_at box x v) a ≡ values_left (box_at box x v) x → left_to box a ≡ values_left box x → IsSame box x v xs → IsSame box x v (a ∷ xs) ⊎ IsReplaced box x v (a ∷ xs)
  first y a xs now was rest =
      elim (set_cases box x (v ∷ [])) [
        | inl q ↦ inr (record {
          place = 0;
          within = omega arith;
          was = was;
          now = ap (λ d. d ∷ map (left_to (box_at box x v)) xs) (now ∙ q) ∙ ap (λ ds. (v ∷ []) ∷ ds) rest;
        })
        | inr q ↦ inl (ap (λ d. d ∷ map (left_to (box_at box x v)) xs) (now ∙ (q ∙ sym was)) ∙ ap (λ ds. left_to box a ∷ ds) rest)
      ]

  replaced : (xs : List Arg) → has_repeat xs ≡ false → IsSame box x v xs ⊎ IsReplaced box x v xs
  replaced [] r = inl refl
  replaced (Num m ∷ xs) r = later (Num m) xs refl (replaced xs (or_parts (list_any (same_variable (Num m)) xs) (has_repeat xs) r).1)
  replaced (Var y ∷ xs) r = by (y.0 == x) refl (or_parts (list_any (same_variable (Var y)) xs) (has_repeat xs) r) (replaced xs (or_parts (list_any (same_variable (Var y)) xs) (has_repeat xs) r).1)
    where
      by : (b : Bool) → (y.0 == x) ≡ b → (list_any (same_variable (Var y)) xs ≡ false) × (has_repeat xs ≡ false) → IsSame box x v xs ⊎ IsReplaced box x v xs → IsSame box x v (Var y ∷ xs) ⊎ IsReplaced box x v (Var y ∷ xs)
      by true q h rest =
          let same = equal_numbers y.0 x q in
          first x (Var y) xs (ap (λ k. values_left (box_at box x v) k) same) (ap (λ k. values_left box k) same) (same_items xs (subst (λ k. list_any (λ b. is_variable b k) xs ≡ false) same h.0))
      by false q h rest = later (Var y) xs (other_left y.0 (apart_numbers y.0 x q)) rest

-- when the items are refuted
refuted_is : (c : Rule) (at : Box) → c.pred ≡ AllDifferentInt → refuted_by c at ≡ has_crowd (map (left_to at) (args_at c.args 0))
refuted_is c at e = ap (λ p. refuted_as (meaning_of p) (map (fill (left_to at)) c.args)) e ∙ ap has_crowd (lefts_written at c.args 0)

pub quiet_spares : (takes : Takes) (c : Rule) (box : Box) → c.pred ≡ AllDifferentInt → Distinct (variables_of c.args) → AllQuiet (map (left_to box) (args_at c.args 0)) → SparesTaken takes c box
quiet_spares takes c box e d all = record {
  whole = refuted_is c box e ∙ quiet_stands ds all;
  least = λ x own taken. at x (least_value (values_left box x)) (inl refl);
  greatest = λ x own taken. at x (greatest_value (values_left box x)) (inr refl);
}
  where
    xs : List Arg
    xs = args_at c.args 0

    ds : List Values
    ds = map (left_to box) xs

    at : (x : ℕ) (v : ℤ) → (v ≡ least_value (values_left box x)) ⊎ (v ≡ greatest_value (values_left box x)) → refutes_at c box x v ≡ false
    at x v w = refuted_is c (box_at box x v) e ∙ by (replaced box x v xs (once_at c.args 0 d))
      where
        by : IsSame box x v xs ⊎ IsReplaced box x v xs → has_crowd (map (left_to (box_at box x v)) xs) ≡ false
        by (inl q) = ap has_crowd q ∙ quiet_stands ds all
        by (inr r) =
            ap has_crowd r.now
            ∙ quiet_keeps ds r.place v all r.within (subst (λ us. (v ≡ least_value us) ⊎ (v ≡ greatest_value us)) (sym r.was) w)

pub crowd_refutes : (c : Rule) (box : Box) → c.pred ≡ AllDifferentInt → has_crowd (map (left_to box) (args_at c.args 0)) ≡ true → refuted_by c box ≡ true
crowd_refutes c box e h = refuted_is c box e ∙ h
