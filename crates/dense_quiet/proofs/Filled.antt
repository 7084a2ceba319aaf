-- Numbers that items fill, which no other item can have.
use Rattle.std.proofs.Common.{◌≡◌, ℕ, ◌≤◌, Bool, true, false, ◌||◌, cond, List, [], ◌∷◌, map, set, refl, sym, ap, ◌∙◌, arith, ℤ}
use Rattle.std.specs.Prelude.{pos, ◌+ℤ◌, ◌-ℤ◌, ◌≤ℤ◌, ◌<ℤ◌, int_le, int_lt, count_by}
use Rattle.std.specs.List.{list_all}
use Rattle.std.proofs.lemmas.Int.{ints}
use Rattle.std.proofs.lemmas.Bool.{and_from, and_parts}
use Rattle.std.proofs.lemmas.List.Sums.{sum_by-cons}
use Rattle.qc_model.specs.declared.problem.Arg.{Arg}
use Rattle.qc_model.specs.declared.problem.Pred.TheVariants.{AllDifferentInt}
use Rattle.qc_model.specs.Content.{Rule}
use Rattle.qc_model.specs.Domains.{Values, Box, values_left, has_value, is_none_left, is_within, least_value, greatest_value}
use Rattle.qc_model.specs.Left.{has_crowd}
use Rattle.qc_model.specs.Refuted.{left_to}
use Rattle.qc_model.proofs.Sound.{differ}
use Rattle.model_arguments.specs.Repeats.{is_variable}
use Rattle.model_arguments.specs.Written.{args_at}
use Rattle.model_arguments.proofs.Kept.{at_least, at_most, inside, lower, low_end, high_end, through}
use Rattle.model_arguments.proofs.Values.{value_passes, has_least, has_greatest}
use Rattle.model_table.proofs.Crowded.{ends_within}
use Rattle.model_table.proofs.CrowdEnds.{crowd_of_ends}
use Rattle.dense_closing.proofs.Within.{all_from}
use Rattle.dense_quiet.specs.Filling.{is_counted, outnumbers}
use Rattle.dense_quiet.specs.Guessing.{PassesFor, PassesOutside, refuted_with}
use Rattle.dense_quiet.proofs.Replaced.{crowd_refutes}
use Rattle.dense_quiet.proofs.Spread.{kept_left, own_left}

-- with some of its values from low to high alone left to x, all items that are counted lie there
module _ (box : Box) (x : ℕ) (low high : ℤ) (vs : Values) (some : is_none_left vs ≡ false) (left : list_all (has_value (values_left box x)) vs ≡ true) (within : list_all (is_within low high) vs ≡ true) where
  own_within : ends_within low high vs ≡ true
  own_within =
      and_from (int_le low (least_value vs)) (int_le (greatest_value vs) high)
      (is_least low (least_value vs) (at_least low high (least_value vs) (value_passes (is_within low high) vs (least_value vs) within (has_least vs some))))
      (is_least (greatest_value vs) high (at_most low high (greatest_value vs) (value_passes (is_within low high) vs (greatest_value vs) within (has_greatest vs some))))
    where
      is_least : (a b : ℤ) → a ≤ℤ b → int_le a b ≡ true
      is_least a b h = grind (arith, ints)

  counted_within : (a : Arg) → is_counted low high x box a ≡ true → ends_within low high (left_to (set box x vs) a) ≡ true
  counted_within a h = by (is_variable a x) refl h
    where
      by : (t : Bool) → is_variable a x ≡ t → (t || ends_within low high (left_to box a)) ≡ true → ends_within low high (left_to (set box x vs) a) ≡ true
      by true e h = ap (ends_within low high) (own_left box x vs a e left).0 ∙ own_within
      by false e h = ap (ends_within low high) (kept_left box x vs a e) ∙ h

  all_counted : (xs : List Arg) → count_by (is_counted low high x box) xs ≤ count_by (ends_within low high) (map (left_to (set box x vs)) xs)
  all_counted [] = omega arith
  all_counted (a ∷ xs) =
      omega (arith, sum_by-cons (λ y. cond (is_counted low high x box y) 1 0) a xs, sum_by-cons (λ y. cond (ends_within low high y) 1 0) (left_to (set box x vs) a) (map (left_to (set box x vs)) xs), all_counted xs, by (is_counted low high x box a) refl (ends_within low high (left_to (set box x vs) a)) refl)
    where
      by : (p : Bool) → is_counted low high x box a ≡ p → (q : Bool) → ends_within low high (left_to (set box x vs) a) ≡ q → cond p 1 0 ≤ cond q 1 0
      by true e true f = omega arith
      by true e false f = absurd (differ (sym f ∙ counted_within a e))
      by false e q f = omega arith

  crowd_with : (xs : List Arg) → outnumbers (count_by (is_counted low high x box) xs) low high ≡ true → has_crowd (map (left_to (set box x vs)) xs) ≡ true
  crowd_with xs h =
      let n = count_by (is_counted low high x box) xs in
      let p = and_parts (int_le low high) (int_lt ((high -ℤ low) +ℤ pos 1) (pos n)) h in
      crowd_of_ends (map (left_to (set box x vs)) xs) low high (and_from (int_le low high) (int_lt ((high -ℤ low) +ℤ pos 1) (pos (count_by (ends_within low high) (map (left_to (set box x vs)) xs)))) p.0 (more n (count_by (ends_within low high) (map (left_to (set box x vs)) xs)) (all_counted xs) p.1))
    where
      more : (n m : ℕ) → n ≤ m → int_lt ((high -ℤ low) +ℤ pos 1) (pos n) ≡ true → int_lt ((high -ℤ low) +ℤ pos 1) (pos m) ≡ true
      more n m l k = grind (arith, ints)

-- so the constraint refutes these values
pub filled_refutes : (r : Rule) (box : Box) (x : ℕ) (low high : ℤ) → r.pred ≡ AllDifferentInt → outnumbers (count_by (is_counted low high x box) (args_at r.args 0)) low high ≡ true → PassesFor (refuted_with r x box) (values_left box x) (is_within low high)
filled_refutes r box x low high e h = λ vs some left within. crowd_refutes r (set box x vs) e (crowd_with box x low high vs some left within (args_at r.args 0) h)

-- where what is left begins among filled numbers and ends past them, and where it ends among them and begins before
module _ (test : Values → Bool) (d : Values) (from to : ℤ) (filled : PassesFor test d (is_within from to)) where
  above_all : (high : ℤ) → high ≡ greatest_value d → PassesFor test d (λ v. int_lt high v)
  above_all high e = λ vs some left over.
      let v = greatest_value vs in
      let m = has_greatest vs some in
      absurd (past high v (greatest_value d) e (lower high v (value_passes (λ w. int_lt high w) vs v over m)) (high_end d v (value_passes (has_value d) vs v left m)))
    where
      past : (a b c : ℤ) → a ≡ c → a <ℤ b → b ≤ℤ c → ⊥
      past a b c e h k = omega (arith, ints)

  below_all : (low : ℤ) → low ≡ least_value d → PassesFor test d (λ v. int_lt v low)
  below_all low e = λ vs some left under.
      let v = least_value vs in
      let m = has_least vs some in
      absurd (before low v (least_value d) e (lower v low (value_passes (λ w. int_lt w low) vs v under m)) (low_end d v (value_passes (has_value d) vs v left m)))
    where
      before : (a b c : ℤ) → a ≡ c → b <ℤ a → c ≤ℤ b → ⊥
      before a b c e h k = omega (arith, ints)

  pub begins_filled : (past high : ℤ) → from ≤ℤ least_value d → past ≤ℤ (to +ℤ pos 1) → high ≡ greatest_value d → PassesOutside test d past high
  begins_filled past high b p e = record {
    below = λ vs some left under.
        filled vs some left (all_from (is_within from to) vs (λ v m.
        inside from to v (through from (least_value d) v b (low_end d v (value_passes (has_value d) vs v left m))) (until v past (lower v past (value_passes (λ w. int_lt w past) vs v under m)) p)));
    above = above_all high e;
  }
    where
      until : (v past : ℤ) → v <ℤ past → past ≤ℤ (to +ℤ pos 1) → v ≤ℤ to
      until v past h k = omega (arith, ints)

  pub ends_filled : (low before : ℤ) → greatest_value d ≤ℤ to → from ≤ℤ (before +ℤ pos 1) → low ≡ least_value d → PassesOutside test d low before
  ends_filled low before b p e = record {
    below = below_all low e;
    above = λ vs some left over.
        filled vs some left (all_from (is_within from to) vs (λ v m.
        inside from to v (since v before (lower before v (value_passes (λ w. int_lt before w) vs v over m)) p) (through v (greatest_value d) to (high_end d v (value_passes (has_value d) vs v left m)) b)));
  }
    where
      since : (v before : ℤ) → before <ℤ v → from ≤ℤ (before +ℤ pos 1) → from ≤ℤ v
      since v before h k = omega (arith, ints)
