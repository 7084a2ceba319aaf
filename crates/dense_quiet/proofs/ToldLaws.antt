-- A comparison with its truth that refutes nothing that it may take.
use Rattle.std.proofs.Common.{◌≡◌, ◌⊎◌, inl, inr, ℕ, ◌-◌, Bool, true, false, not, ◌&&◌, ◌||◌, [], ◌∷◌, map, length, refl, sym, ap, ◌∙◌, subst, arith, ℤ}
use Rattle.std.specs.Prelude.{pos, ◌≤ℤ◌, int_lt, int_le}
use Rattle.std.specs.Ordering.{int_eq}
use Rattle.std.proofs.lemmas.Int.{ints}
use Rattle.std.proofs.lemmas.Bool.{and_left}
use Rattle.qc_model.specs.declared.problem.Arg.{Arg}
use Rattle.qc_model.specs.Arguments.{fill, variables_of}
use Rattle.qc_model.specs.Content.{Rule}
use Rattle.qc_model.specs.Domains.{Values, Box, least_value, greatest_value, has_value, misses}
use Rattle.qc_model.specs.Entailed.{entailed_as}
use Rattle.qc_model.specs.Left.{Lefts, left_at, are_one_value}
use Rattle.qc_model.specs.Lists.{Distinct}
use Rattle.qc_model.specs.Meaning.{Meaning, equal, at_most, below, reified, meaning_of}
use Rattle.qc_model.specs.Refuted.{left_to, refuted_as, refuted_by}
use Rattle.model_arguments.specs.Written.{arg_at, last_arg}
use Rattle.model_arguments.proofs.Values.{has_first, has_least, has_greatest}
use Rattle.model_arguments.proofs.Written.{left_written, last_written, last_place}
use Rattle.qc_refuter.specs.Met.{is_open}
use Rattle.qc_refuter.proofs.Fill.{least_to_greatest}
use Rattle.qc_refuter.proofs.Terms.{some_left}
use Rattle.dense_closing.specs.Takes.{Takes}
use Rattle.dense_quiet.specs.Quiet.{SparesTwo, SparesThree}
use Rattle.dense_quiet.specs.Slack.{SparesTaken}
use Rattle.dense_quiet.specs.Told.{refuted_of, entailed_of, IsComparison, told_of, IsUndecided, SparesHeld}
use Rattle.dense_quiet.proofs.OneEnd.{args_apart, spares_three}

-- no comparison both holds and fails
not_crossed : (a b c d : ℤ) → a ≤ℤ b → c ≤ℤ d → (int_lt d a && int_le b c) ≡ false
not_crossed a b c d h k = grind (arith, ints)

not_crossed_below : (a b c d : ℤ) → a ≤ℤ b → c ≤ℤ d → (int_le d a && int_lt b c) ≡ false
not_crossed_below a b c d h k = grind (arith, ints)

one_value : (d e : Values) → (misses d e && are_one_value d e) ≡ false
one_value [] e = refl
one_value (v ∷ []) [] = refl
one_value (v ∷ []) (w ∷ []) = by (int_eq v w)
  where
    by : (b : Bool) → (not ((b || false) || false) && b) ≡ false
    by true = refl
    by false = refl
one_value (v ∷ []) (w ∷ u ∷ e) = no_more (misses (v ∷ []) (w ∷ u ∷ e))
  where
    no_more : (b : Bool) → (b && false) ≡ false
    no_more true = refl
    no_more false = refl
one_value (v ∷ u ∷ d) e = no_more (misses (v ∷ u ∷ d) e)
  where
    no_more : (b : Bool) → (b && false) ≡ false
    no_more true = refl
    no_more false = refl

not_both_ways : (m : Meaning) → IsComparison m → (d e : Values) → (refuted_of m d e && entailed_of m d e) ≡ false
not_both_ways m (inl i) d e = subst (λ m. (refuted_of m d e && entailed_of m d e) ≡ false) (sym i) (one_value d e)
not_both_ways m (inr (inl i)) d e =
    subst (λ m. (refuted_of m d e && entailed_of m d e) ≡ false) (sym i) (not_crossed (least_value d) (greatest_value d) (least_value e) (greatest_value e) (least_to_greatest d) (least_to_greatest e))
not_both_ways m (inr (inr i)) d e =
    subst (λ m. (refuted_of m d e && entailed_of m d e) ≡ false) (sym i) (not_crossed_below (least_value d) (greatest_value d) (least_value e) (greatest_value e) (least_to_greatest d) (least_to_greatest e))

-- with both truths left
both_left : (p q r s : Bool) → p ≡ true → q ≡ true → (r && s) ≡ false → ((not p || r) && (not q || s)) ≡ false
both_left true true r s h k l = l
both_left true false r s h k l = cc
both_left false q r s h k l = cc

-- it tests what is left to the three arguments
module _ (m : Meaning) (k : IsComparison m) (r : Rule) (e : meaning_of r.pred ≡ reified m) (three : length r.args ≡ 3) where
  refuted_two : (ls : Lefts) → refuted_as m ls ≡ refuted_of m (left_at ls 0) (left_at ls 1)
  refuted_two ls = elim k [
    | inl i ↦ subst (λ m. refuted_as m ls ≡ refuted_of m (left_at ls 0) (left_at ls 1)) (sym i) refl
    | inr (inl i) ↦ subst (λ m. refuted_as m ls ≡ refuted_of m (left_at ls 0) (left_at ls 1)) (sym i) refl
    | inr (inr i) ↦ subst (λ m. refuted_as m ls ≡ refuted_of m (left_at ls 0) (left_at ls 1)) (sym i) refl
  ]

  entailed_two : (ls : Lefts) → entailed_as m ls ≡ entailed_of m (left_at ls 0) (left_at ls 1)
  entailed_two ls = elim k [
    | inl i ↦ subst (λ m. entailed_as m ls ≡ entailed_of m (left_at ls 0) (left_at ls 1)) (sym i) refl
    | inr (inl i) ↦ subst (λ m. entailed_as m ls ≡ entailed_of m (left_at ls 0) (left_at ls 1)) (sym i) refl
    | inr (inr i) ↦ subst (λ m. entailed_as m ls ≡ entailed_of m (left_at ls 0) (left_at ls 1)) (sym i) refl
  ]

  third : last_arg r.args ≡ arg_at r.args 2
  third = sym (last_place r.args) ∙ ap (λ n. arg_at r.args (n - 1)) three

  tests : (at : Box) → refuted_by r at ≡ told_of m (left_to at (arg_at r.args 0)) (left_to at (arg_at r.args 1)) (left_to at (arg_at r.args 2))
  tests at =
      let ls = map (fill (left_to at)) r.args in
      ap (λ n. refuted_as n ls) e
      ∙ (ap (λ z. (not (has_value z (pos 1)) || refuted_as m ls) && (not (has_value z (pos 0)) || entailed_as m ls)) (last_written at r.args ∙ ap (left_to at) third)
      ∙ (ap (λ z. (not (has_value (left_to at (arg_at r.args 2)) (pos 1)) || z) && (not (has_value (left_to at (arg_at r.args 2)) (pos 0)) || entailed_as m ls)) (refuted_two ls)
      ∙ (ap (λ z. (not (has_value (left_to at (arg_at r.args 2)) (pos 1)) || refuted_of m (left_at ls 0) (left_at ls 1)) && (not (has_value (left_to at (arg_at r.args 2)) (pos 0)) || z)) (entailed_two ls)
      ∙ (ap (λ z. told_of m z (left_at ls 1) (left_to at (arg_at r.args 2))) (left_written at r.args 0)
      ∙ ap (λ z. told_of m (left_to at (arg_at r.args 0)) z (left_to at (arg_at r.args 2))) (left_written at r.args 1)))))

  told_spares : (takes : Takes) (box : Box) → Distinct (variables_of r.args) → SparesThree (told_of m) (takes r) (arg_at r.args 0) (arg_at r.args 1) (arg_at r.args 2) box → SparesTaken takes r box
  told_spares takes box d s =
      spares_three (told_of m) takes r box (arg_at r.args 0) (arg_at r.args 1) (arg_at r.args 2) (λ at h. tests at ∙ h) (args_apart r.args 0 1 (omega arith) d) (args_apart r.args 0 2 (omega arith) d) (args_apart r.args 1 2 (omega arith) d) s

-- while neither is decided, each truth can be, whichever end of a number is left
open_spares : (m : Meaning) (ok : ℕ → Bool) (a b c : Arg) (box : Box) → is_open box c ≡ true → least_value (left_to box c) ≡ pos 0 → greatest_value (left_to box c) ≡ pos 1 → IsUndecided m (left_to box a) (left_to box b) → SparesThree (told_of m) ok a b c box
open_spares m ok a b c box oc low high u = record {
  whole = both (left_to box a) (left_to box b);
  first = λ t. record { least = both (least_value (left_to box a) ∷ []) (left_to box b); greatest = both (greatest_value (left_to box a) ∷ []) (left_to box b) };
  second = λ t. record { least = both (left_to box a) (least_value (left_to box b) ∷ []); greatest = both (left_to box a) (greatest_value (left_to box b) ∷ []) };
  third = λ t. record {
    least = subst (λ z. told_of m (left_to box a) (left_to box b) (z ∷ []) ≡ false) (sym low) u.entailed;
    greatest = subst (λ z. told_of m (left_to box a) (left_to box b) (z ∷ []) ≡ false) (sym high) (and_left (refuted_of m (left_to box a) (left_to box b)) true u.refuted);
  };
}
  where
    has_false : has_value (left_to box c) (pos 0) ≡ true
    has_false = subst (λ z. has_value (left_to box c) z ≡ true) low (has_least (left_to box c) (some_left (left_to box c) oc))

    has_true : has_value (left_to box c) (pos 1) ≡ true
    has_true = subst (λ z. has_value (left_to box c) z ≡ true) high (has_greatest (left_to box c) (some_left (left_to box c) oc))

    both : (d e : Values) → told_of m d e (left_to box c) ≡ false
    both d e = both_left (has_value (left_to box c) (pos 1)) (has_value (left_to box c) (pos 0)) (refuted_of m d e) (entailed_of m d e) has_true has_false (not_both_ways m u.comparison d e)

pub quiet_told : (m : Meaning) (takes : Takes) (r : Rule) (box : Box) (a b c : Arg) → meaning_of r.pred ≡ reified m → length r.args ≡ 3 → Distinct (variables_of r.args) → a ≡ arg_at r.args 0 → b ≡ arg_at r.args 1 → c ≡ arg_at r.args 2 →
    is_open box c ≡ true → least_value (left_to box c) ≡ pos 0 → greatest_value (left_to box c) ≡ pos 1 → IsUndecided m (left_to box a) (left_to box b) → SparesTaken takes r box
quiet_told m takes r box a b c e three d i j k oc low high u =
    told_spares m u.comparison r e three takes box d
    (subst (λ z. SparesThree (told_of m) (takes r) z (arg_at r.args 1) (arg_at r.args 2) box) i
    (subst (λ z. SparesThree (told_of m) (takes r) a z (arg_at r.args 2) box) j
    (subst (λ z. SparesThree (told_of m) (takes r) a b z box) k (open_spares m (takes r) a b c box oc low high u))))

-- where it is to hold
refuted_left : (p q r : Bool) → p ≡ true → r ≡ false → ((not p || r) && q) ≡ false
refuted_left true q r h k = and_left r q k
refuted_left false q r h k = cc

held_spares : (m : Meaning) (ok : ℕ → Bool) (a b c : Arg) (box : Box) → is_open box c ≡ true → least_value (left_to box c) ≡ pos 1 → greatest_value (left_to box c) ≡ pos 1 → SparesThree (λ d e f. refuted_of m d e) ok a b c box → SparesThree (told_of m) ok a b c box
held_spares m ok a b c box oc low high s = record {
  whole = fails (left_to box a) (left_to box b) (left_to box c) here s.whole;
  first = λ t. record {
    least = fails (least_value (left_to box a) ∷ []) (left_to box b) (left_to box c) here (s.first t).least;
    greatest = fails (greatest_value (left_to box a) ∷ []) (left_to box b) (left_to box c) here (s.first t).greatest;
  };
  second = λ t. record {
    least = fails (left_to box a) (least_value (left_to box b) ∷ []) (left_to box c) here (s.second t).least;
    greatest = fails (left_to box a) (greatest_value (left_to box b) ∷ []) (left_to box c) here (s.second t).greatest;
  };
  third = λ t. record {
    least = fails (left_to box a) (left_to box b) (least_value (left_to box c) ∷ []) (alone (least_value (left_to box c)) low) s.whole;
    greatest = fails (left_to box a) (left_to box b) (greatest_value (left_to box c) ∷ []) (alone (greatest_value (left_to box c)) high) s.whole;
  };
}
  where
    here : has_value (left_to box c) (pos 1) ≡ true
    here = subst (λ z. has_value (left_to box c) z ≡ true) low (has_least (left_to box c) (some_left (left_to box c) oc))

    alone : (v : ℤ) → v ≡ pos 1 → has_value (v ∷ []) (pos 1) ≡ true
    alone v i = subst (λ z. has_value (v ∷ []) z ≡ true) i (has_first v [])

    fails : (d e f : Values) → has_value f (pos 1) ≡ true → refuted_of m d e ≡ false → told_of m d e f ≡ false
    fails d e f h k = refuted_left (has_value f (pos 1)) (not (has_value f (pos 0)) || entailed_of m d e) (refuted_of m d e) h k

pub quiet_held : (m : Meaning) (takes : Takes) (r : Rule) (box : Box) (c : Arg) → meaning_of r.pred ≡ reified m → length r.args ≡ 3 → Distinct (variables_of r.args) → c ≡ arg_at r.args 2 →
    is_open box c ≡ true → least_value (left_to box c) ≡ pos 1 → greatest_value (left_to box c) ≡ pos 1 → SparesHeld m (takes r) (arg_at r.args 0) (arg_at r.args 1) (arg_at r.args 2) box → SparesTaken takes r box
quiet_held m takes r box c e three d k oc low high u =
    told_spares m u.comparison r e three takes box d
    (subst (λ z. SparesThree (told_of m) (takes r) (arg_at r.args 0) (arg_at r.args 1) z box) k
    (held_spares m (takes r) (arg_at r.args 0) (arg_at r.args 1) c box oc low high (subst (λ z. SparesThree (λ d e f. refuted_of m d e) (takes r) (arg_at r.args 0) (arg_at r.args 1) z box) (sym k) u.held)))

pub equal_held : (ok : ℕ → Bool) (a b c : Arg) (box : Box) → SparesTwo misses ok a b box → SparesHeld equal ok a b c box
equal_held ok a b c box s = record {
  comparison = inl refl;
  held = record {
    whole = s.whole;
    first = λ t. record { least = (s.first t).least; greatest = (s.first t).greatest };
    second = λ t. record { least = (s.second t).least; greatest = (s.second t).greatest };
    third = λ t. record { least = s.whole; greatest = s.whole };
  };
}

pub order_held : (m : Meaning) → IsComparison m → (ok : ℕ → Bool) (a b c : Arg) (box : Box) → SparesThree (λ d e f. refuted_of m d e) ok a b c box → SparesHeld m ok a b c box
order_held m k ok a b c box s = record { comparison = k; held = s }

-- by the ends of what is left to two numbers
ends_apart : (d e : Values) → (int_eq (least_value d) (greatest_value d) ≡ false) ⊎ (int_eq (least_value e) (greatest_value e) ≡ false) → are_one_value d e ≡ false
ends_apart [] e h = refl
ends_apart (v ∷ []) [] h = refl
ends_apart (v ∷ []) (w ∷ []) (inl h) = absurd (itself v h)
  where
    itself : (v : ℤ) → int_eq v v ≡ false → ⊥
    itself v e = grind (arith, ints)
ends_apart (v ∷ []) (w ∷ []) (inr h) = absurd (itself w h)
  where
    itself : (v : ℤ) → int_eq v v ≡ false → ⊥
    itself v e = grind (arith, ints)
ends_apart (v ∷ []) (w ∷ u ∷ e) h = refl
ends_apart (v ∷ u ∷ d) e h = refl

pub equal_undecided : (d e : Values) → misses d e ≡ false → (int_eq (least_value d) (greatest_value d) ≡ false) ⊎ (int_eq (least_value e) (greatest_value e) ≡ false) → IsUndecided equal d e
equal_undecided d e h k = record { comparison = inl refl; refuted = h; entailed = ends_apart d e k }

pub at_most_undecided : (d e : Values) → int_lt (greatest_value e) (least_value d) ≡ false → int_le (greatest_value d) (least_value e) ≡ false → IsUndecided at_most d e
at_most_undecided d e h k = record { comparison = inr (inl refl); refuted = h; entailed = k }

pub below_undecided : (d e : Values) → int_le (greatest_value e) (least_value d) ≡ false → int_lt (greatest_value d) (least_value e) ≡ false → IsUndecided below d e
below_undecided d e h k = record { comparison = inr (inr refl); refuted = h; entailed = k }
