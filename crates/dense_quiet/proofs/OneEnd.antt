-- A box in which one variable of a constraint has one of its ends alone.
use Rattle.std.proofs.Common.{◌≡◌, ◌⊎◌, inl, inr, ℕ, zero, suc, ◌<◌, ◌++◌, ◌==◌, Bool, true, false, List, [], ◌∷◌, map, refl, sym, ap, ◌∙◌, subst, arith, ℤ}
use Rattle.std.specs.Prelude.{pos}
use Rattle.std.specs.List.{list_any}
use Rattle.std.proofs.lemmas.List.{get_or-set_other}
use Rattle.std.proofs.lemmas.Bool.{or_parts, false_from_ne_true}
use Rattle.qc_model.specs.declared.problem.Arg.{Arg}
use Rattle.qc_model.specs.declared.problem.Arg.TheVariants.{Var, Num}
use Rattle.qc_model.specs.declared.problem.Argument.{Argument}
use Rattle.qc_model.specs.declared.problem.Argument.TheVariants.{One, Many, Numbers, Members}
use Rattle.qc_model.specs.Arguments.{fill, argument_variables, variables_of}
use Rattle.qc_model.specs.Closed.{refutes_at}
use Rattle.qc_model.specs.Content.{Rule}
use Rattle.qc_model.specs.Domains.{Values, Box, values_left, box_at, least_value, greatest_value}
use Rattle.qc_model.specs.Left.{Lefts, left_at}
use Rattle.qc_model.specs.Lists.{Among, Distinct}
use Rattle.qc_model.specs.Meaning.{Meaning, meaning_of}
use Rattle.qc_model.specs.Refuted.{left_to, refuted_as, refuted_by}
use Rattle.model_arguments.specs.Repeats.{is_variable, same_variable}
use Rattle.model_arguments.specs.Written.{arg_at}
use Rattle.model_arguments.proofs.Written.{left_written}
use Rattle.dense_closing.specs.Takes.{Takes}
use Rattle.dense_quiet.specs.Quiet.{FailsAtEnds, SparesTwo, SparesThree}
use Rattle.dense_quiet.specs.Slack.{is_taken, SparesTaken}
use Rattle.dense_quiet.proofs.Sums.{equal_numbers, apart_numbers, set_cases}

-- no variable stands at two places
pub among_right : (k : ℕ) (xs ys : List ℕ) → Among k ys → Among k (xs ++ ys)
among_right k [] ys m = m
among_right k (x ∷ xs) ys m = inr (among_right k xs ys m)

pub distinct_right : (xs ys : List ℕ) → Distinct (xs ++ ys) → Distinct ys
distinct_right [] ys d = d
distinct_right (x ∷ xs) ys d = distinct_right xs ys d.1

arg_among : (args : List Argument) (j k : ℕ) → is_variable (arg_at args j) k ≡ true → Among k (variables_of args)
arg_among [] zero k h = cc
arg_among [] (suc j) k h = cc
arg_among (One (Var y) ∷ args) zero k h = inl (sym (equal_numbers y.0 k h))
arg_among (One (Num n) ∷ args) zero k h = cc
arg_among (Many xs ∷ args) zero k h = cc
arg_among (Numbers ns ∷ args) zero k h = cc
arg_among (Members s ∷ args) zero k h = cc
arg_among (a ∷ args) (suc j) k h = among_right k (argument_variables a) (variables_of args) (arg_among args j k h)

pub args_apart : (args : List Argument) (i j : ℕ) → i < j → Distinct (variables_of args) → same_variable (arg_at args i) (arg_at args j) ≡ false
args_apart args i zero l d = absurd (omega arith)
args_apart [] zero (suc j) l d = refl
args_apart [] (suc i) (suc j) l d = refl
args_apart (One (Var y) ∷ args) zero (suc j) l d = false_from_ne_true (is_variable (arg_at args j) y.0) (λ h. d.0 (arg_among args j y.0 h))
args_apart (One (Num n) ∷ args) zero (suc j) l d = refl
args_apart (Many xs ∷ args) zero (suc j) l d = refl
args_apart (Numbers ns ∷ args) zero (suc j) l d = refl
args_apart (Members s ∷ args) zero (suc j) l d = refl
args_apart (a ∷ args) (suc i) (suc j) l d = args_apart args i j (omega arith) (distinct_right (argument_variables a) (variables_of args) d)

pub not_both : (a b : Arg) (x : ℕ) → is_variable a x ≡ true → same_variable a b ≡ false → is_variable b x ≡ false
not_both (Var y) b x h n = subst (λ k. is_variable b k ≡ false) (equal_numbers y.0 x h) n
not_both (Num m) b x h n = cc

-- the values are one end of those left to an argument that may be taken
abbrev pub AtEnd : (ℕ → Bool) → Box → Arg → Values → Type 0
AtEnd ok box a d = (is_taken ok a ≡ true) × ((d ≡ least_value (left_to box a) ∷ []) ⊎ (d ≡ greatest_value (left_to box a) ∷ []))

pub fails_at : (ok : ℕ → Bool) (box : Box) (a : Arg) (d : Values) (test : Values → Bool) → (is_taken ok a ≡ true → FailsAtEnds test (left_to box a)) → AtEnd ok box a d → test d ≡ false
fails_at ok box a d test f (t, inl e) = ap test e ∙ (f t).least
fails_at ok box a d test f (t, inr e) = ap test e ∙ (f t).greatest

module _ (ok : ℕ → Bool) (box : Box) (x : ℕ) (taken : ok x ≡ true) (v : ℤ) (e : (v ≡ least_value (values_left box x)) ⊎ (v ≡ greatest_value (values_left box x))) where
  -- other arguments have what they had
  pub kept_left : (a : Arg) → is_variable a x ≡ false → left_to (box_at box x v) a ≡ left_to box a
  kept_left (Num n) h = refl
  kept_left (Var y) h = get_or-set_other box x y.0 (v ∷ []) [] (apart_numbers y.0 x h)

  pub kept_items : (xs : List Arg) → list_any (λ a. is_variable a x) xs ≡ false → map (left_to (box_at box x v)) xs ≡ map (left_to box) xs
  kept_items [] h = refl
  kept_items (a ∷ xs) h =
      let n = or_parts (is_variable a x) (list_any (λ z. is_variable z x) xs) h in
      ap (λ u. u ∷ map (left_to (box_at box x v)) xs) (kept_left a n.0) ∙ ap (λ us. left_to box a ∷ us) (kept_items xs n.1)

  -- x itself has one end
  own_left : (y : ℕ) → x ≡ y → ((ok y ≡ true) × ((values_left (box_at box x v) y ≡ least_value (values_left box y) ∷ []) ⊎ (values_left (box_at box x v) y ≡ greatest_value (values_left box y) ∷ []))) ⊎ (values_left (box_at box x v) y ≡ values_left box y)
  own_left y s =
      subst (λ y. ((ok y ≡ true) × ((values_left (box_at box x v) y ≡ least_value (values_left box y) ∷ []) ⊎ (values_left (box_at box x v) y ≡ greatest_value (values_left box y) ∷ []))) ⊎ (values_left (box_at box x v) y ≡ values_left box y)) s
      (elim (set_cases box x (v ∷ [])) [
        | inl q ↦ inl (taken, elim e [ inl w ↦ inl (q ∙ ap (λ z. z ∷ []) w) | inr w ↦ inr (q ∙ ap (λ z. z ∷ []) w) ])
        | inr q ↦ inr q
      ])

  pub left_cases : (a : Arg) → ((is_variable a x ≡ true) × AtEnd ok box a (left_to (box_at box x v) a)) ⊎ (left_to (box_at box x v) a ≡ left_to box a)
  left_cases (Num n) = inr refl
  left_cases (Var y) = by (y.0 == x) refl
    where
      by : (b : Bool) → (y.0 == x) ≡ b → (((y.0 == x) ≡ true) × AtEnd ok box (Var y) (values_left (box_at box x v) y.0)) ⊎ (values_left (box_at box x v) y.0 ≡ values_left box y.0)
      by true q = elim (own_left y.0 (sym (equal_numbers y.0 x q))) [ inl h ↦ inl (q, h) | inr h ↦ inr h ]
      by false q = inr (kept_left (Var y) q)

  moved : (f : Values → Values → Values → Bool) (a b c p q r : Values) → p ≡ a → q ≡ b → r ≡ c → f a b c ≡ false → f p q r ≡ false
  moved f a b c p q r i j k h = ap (λ z. f z q r) i ∙ (ap (λ z. f a z r) j ∙ (ap (λ z. f a b z) k ∙ h))

  pub three_at : (test : Values → Values → Values → Bool) (a b c : Arg) → same_variable a b ≡ false → same_variable a c ≡ false → same_variable b c ≡ false → SparesThree test ok a b c box →
      test (left_to (box_at box x v) a) (left_to (box_at box x v) b) (left_to (box_at box x v) c) ≡ false
  three_at test a b c ab ac bc s = by_first (left_cases a)
    where
      now : Arg → Values
      now z = left_to (box_at box x v) z

      was : Arg → Values
      was z = left_to box z

      by_third : now a ≡ was a → now b ≡ was b → ((is_variable c x ≡ true) × AtEnd ok box c (now c)) ⊎ (now c ≡ was c) → test (now a) (now b) (now c) ≡ false
      by_third i j (inr k) = moved test (was a) (was b) (was c) (now a) (now b) (now c) i j k s.whole
      by_third i j (inl h) = moved test (was a) (was b) (now c) (now a) (now b) (now c) i j refl (fails_at ok box c (now c) (λ d. test (was a) (was b) d) s.third h.1)

      by_second : now a ≡ was a → ((is_variable b x ≡ true) × AtEnd ok box b (now b)) ⊎ (now b ≡ was b) → test (now a) (now b) (now c) ≡ false
      by_second i (inr j) = by_third i j (left_cases c)
      by_second i (inl h) = moved test (was a) (now b) (was c) (now a) (now b) (now c) i refl (kept_left c (not_both b c x h.0 bc)) (fails_at ok box b (now b) (λ d. test (was a) d (was c)) s.second h.1)

      by_first : ((is_variable a x ≡ true) × AtEnd ok box a (now a)) ⊎ (now a ≡ was a) → test (now a) (now b) (now c) ≡ false
      by_first (inr i) = by_second i (left_cases b)
      by_first (inl h) = moved test (now a) (was b) (was c) (now a) (now b) (now c) refl (kept_left b (not_both a b x h.0 ab)) (kept_left c (not_both a c x h.0 ac)) (fails_at ok box a (now a) (λ d. test d (was b) (was c)) s.first h.1)

-- a constraint of three arguments, or of two, that nothing refutes where such a test fails
pub spares_three : (test : Values → Values → Values → Bool) (takes : Takes) (r : Rule) (box : Box) (a b c : Arg) → ((at : Box) → test (left_to at a) (left_to at b) (left_to at c) ≡ false → refuted_by r at ≡ false) →
    same_variable a b ≡ false → same_variable a c ≡ false → same_variable b c ≡ false → SparesThree test (takes r) a b c box → SparesTaken takes r box
spares_three test takes r box a b c is ab ac bc s = record {
  whole = is box s.whole;
  least = λ x own taken. at x taken (least_value (values_left box x)) (inl refl);
  greatest = λ x own taken. at x taken (greatest_value (values_left box x)) (inr refl);
}
  where
    at : (x : ℕ) → takes r x ≡ true → (v : ℤ) → (v ≡ least_value (values_left box x)) ⊎ (v ≡ greatest_value (values_left box x)) → refutes_at r box x v ≡ false
    at x taken v w = is (box_at box x v) (three_at (takes r) box x taken v w test a b c ab ac bc s)

number_apart : (a : Arg) (n : ℤ) → same_variable a (Num n) ≡ false
number_apart (Var x) n = refl
number_apart (Num m) n = refl

two_as_three : (test : Values → Values → Bool) (ok : ℕ → Bool) (a b : Arg) (box : Box) → SparesTwo test ok a b box → SparesThree (λ d e f. test d e) ok a b (Num (pos 0)) box
two_as_three test ok a b box s = record {
  whole = s.whole;
  first = λ t. record { least = (s.first t).least; greatest = (s.first t).greatest };
  second = λ t. record { least = (s.second t).least; greatest = (s.second t).greatest };
  third = λ t. cc;
}

pub spares_two : (test : Values → Values → Bool) (takes : Takes) (r : Rule) (box : Box) (a b : Arg) → ((at : Box) → refuted_by r at ≡ test (left_to at a) (left_to at b)) → same_variable a b ≡ false → SparesTwo test (takes r) a b box → SparesTaken takes r box
spares_two test takes r box a b is ab s =
    spares_three (λ d e f. test d e) takes r box a b (Num (pos 0)) (λ at h. is at ∙ h) ab (number_apart a (pos 0)) (number_apart b (pos 0)) (two_as_three test (takes r) a b box s)

-- by its meaning and the places of its arguments
pub quiet_two : (m : Meaning) (test : Values → Values → Bool) → ((ls : Lefts) → refuted_as m ls ≡ test (left_at ls 0) (left_at ls 1)) → (takes : Takes) (r : Rule) (box : Box) → meaning_of r.pred ≡ m → Distinct (variables_of r.args) →
    SparesTwo test (takes r) (arg_at r.args 0) (arg_at r.args 1) box → SparesTaken takes r box
quiet_two m test means takes r box e d s = spares_two test takes r box (arg_at r.args 0) (arg_at r.args 1) is (args_apart r.args 0 1 (omega arith) d) s
  where
    is : (at : Box) → refuted_by r at ≡ test (left_to at (arg_at r.args 0)) (left_to at (arg_at r.args 1))
    is at =
        let ls = map (fill (left_to at)) r.args in
        ap (λ n. refuted_as n ls) e ∙ (means ls ∙ (ap (λ z. test z (left_at ls 1)) (left_written at r.args 0) ∙ ap (λ z. test (left_to at (arg_at r.args 0)) z) (left_written at r.args 1)))

-- what refutes three arguments
pub three_is : (m : Meaning) (test : Values → Values → Values → Bool) → ((ls : Lefts) → refuted_as m ls ≡ test (left_at ls 0) (left_at ls 1) (left_at ls 2)) → (r : Rule) → meaning_of r.pred ≡ m → (at : Box) →
    refuted_by r at ≡ test (left_to at (arg_at r.args 0)) (left_to at (arg_at r.args 1)) (left_to at (arg_at r.args 2))
three_is m test means r e at =
    let ls = map (fill (left_to at)) r.args in
    let a = arg_at r.args 0 in
    let b = arg_at r.args 1 in
    ap (λ n. refuted_as n ls) e
    ∙ (means ls
    ∙ (ap (λ z. test z (left_at ls 1) (left_at ls 2)) (left_written at r.args 0)
    ∙ (ap (λ z. test (left_to at a) z (left_at ls 2)) (left_written at r.args 1)
    ∙ ap (λ z. test (left_to at a) (left_to at b) z) (left_written at r.args 2))))

pub quiet_three : (m : Meaning) (test : Values → Values → Values → Bool) → ((ls : Lefts) → refuted_as m ls ≡ test (left_at ls 0) (left_at ls 1) (left_at ls 2)) → (takes : Takes) (r : Rule) (box : Box) → meaning_of r.pred ≡ m → Distinct (variables_of r.args) →
    SparesThree test (takes r) (arg_at r.args 0) (arg_at r.args 1) (arg_at r.args 2) box → SparesTaken takes r box
quiet_three m test means takes r box e d s =
    spares_three test takes r box (arg_at r.args 0) (arg_at r.args 1) (arg_at r.args 2) (λ at h. three_is m test means r e at ∙ h) (args_apart r.args 0 1 (omega arith) d) (args_apart r.args 0 2 (omega arith) d) (args_apart r.args 1 2 (omega arith) d) s
