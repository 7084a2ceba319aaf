-- Sums that aren't both refuted and entailed.
use Rattle.std.proofs.Common.{◌≡◌, Bool, true, false, ◌||◌, [], ◌∷◌, Some, refl, ap, arith, ℤ}
use Rattle.std.specs.Prelude.{◌≤ℤ◌, int_lt, int_le}
use Rattle.std.specs.Ordering.{int_eq}
use Rattle.std.proofs.lemmas.Int.{ints}
use Rattle.std.proofs.lemmas.Bool.Decides.{Decides-int_eq}
use Rattle.qc_model.specs.Domains.{Values, Box, least_value, greatest_value}
use Rattle.qc_model.specs.Entailed.{entailed_as}
use Rattle.qc_model.specs.Left.{Lefts, left_at, lefts_at, span, sum_at}
use Rattle.qc_model.specs.declared.signature.ArgKind.TheVariants.{Boolean}
use Rattle.qc_model.specs.Arguments.{numbers, last_of}
use Rattle.qc_model.specs.Content.{Rule}
use Rattle.qc_model.specs.Meaning.{sum_at_most, sum_equal, sum_different, meaning_of}
use Rattle.qc_model.specs.Ranges.{Range, is_point, ranges_miss}
use Rattle.qc_model.specs.Refuted.{refuted_as}
use Rattle.qc_model.specs.Signature.{arg_kinds_of}
use Rattle.qc_model.proofs.Readable.{first, second}
use Rattle.model_arguments.specs.Written.{last_arg}
use Rattle.model_arguments.proofs.Kept.{ordered}
use Rattle.qc_refuter.specs.Met.{lefts}
use Rattle.prop_compare.specs.Untold.{RefutesNone}
use Rattle.prop_compare.proofs.Lasts.{refutes_none}
use Rattle.prop_linear.specs.declared.relation.Relation.{Relation}
use Rattle.prop_linear.specs.declared.relation.Relation.TheVariants.{AtMost, Equal, Different}
use Rattle.prop_linear.specs.Relations.{told_pred}
use Rattle.prop_linear.proofs.Loose.{sum_order}

pub ends_order : (d : Values) → least_value d ≤ℤ greatest_value d
ends_order [] = omega (arith, ints)
ends_order (v ∷ d) = ordered (v ∷ d) refl

lower : (a b : ℤ) → int_lt a b ≡ true → (b ≤ℤ a → ⊥)
lower a b h k = grind (arith, ints)

lower_same : (a b : ℤ) → int_le a b ≡ true → a ≤ℤ b
lower_same a b h = grind (arith, ints)

at_most_never : (args : Lefts) → refuted_as sum_at_most args ≡ true → entailed_as sum_at_most args ≡ true → ⊥
at_most_never args r e = clash (sum_at args).from (sum_at args).to (least_value d) (greatest_value d) (sum_order (numbers args 0) (lefts_at args 1)) (ends_order d) r e
  where
    d : Values
    d = left_at args 2

    clash : (f t l g : ℤ) → f ≤ℤ t → l ≤ℤ g → int_lt g f ≡ true → int_le t l ≡ true → ⊥
    clash f t l g a b r e = let s = lower_same t l e in lower g f r (omega (arith, ints, a, b, s))

-- a number alone isn't missed by values from it on
misses_point : (s : Range) (d : Values) → s.from ≤ℤ s.to → ranges_miss s (span d) ≡ true → is_point (least_value d) s ≡ true → ⊥
misses_point s d o m p =
    by (int_lt s.to (least_value d)) (int_lt (greatest_value d) s.from) refl refl m ((Decides-int_eq s.from (least_value d)).0 (first (int_eq s.from (least_value d)) (int_eq s.to (least_value d)) p)) ((Decides-int_eq s.to (least_value d)).0 (second (int_eq s.from (least_value d)) (int_eq s.to (least_value d)) p)) (ends_order d)
  where
    by : (x y : Bool) → int_lt s.to (least_value d) ≡ x → int_lt (greatest_value d) s.from ≡ y → (x || y) ≡ true → s.from ≡ least_value d → s.to ≡ least_value d → least_value d ≤ℤ greatest_value d → ⊥
    by true y e f h a b k = lower s.to (least_value d) e (omega (arith, ints, b))
    by false true e f h a b k = lower (greatest_value d) s.from f (omega (arith, ints, a, k))
    by false false e f h a b k = cc

equal_never : (args : Lefts) → refuted_as sum_equal args ≡ true → entailed_as sum_equal args ≡ true → ⊥
equal_never args r e = misses_point (sum_at args) (left_at args 2) (sum_order (numbers args 0) (lefts_at args 1)) r e

different_never : (args : Lefts) → refuted_as sum_different args ≡ true → entailed_as sum_different args ≡ true → ⊥
different_never args r e = misses_point (sum_at args) (left_at args 2) (sum_order (numbers args 0) (lefts_at args 1)) e r

pub told_none : (c : Rule) (box : Box) (k : Relation) → c.pred ≡ told_pred k → RefutesNone c box (last_arg c.args)
told_none c box AtMost e = refutes_none c box sum_at_most (ap meaning_of e) (λ other l f. at_most_never (lefts other c.args))
told_none c box Equal e = refutes_none c box sum_equal (ap meaning_of e) (λ other l f. equal_never (lefts other c.args))
told_none c box Different e = refutes_none c box sum_different (ap meaning_of e) (λ other l f. different_never (lefts other c.args))

pub told_truth : (c : Rule) (k : Relation) → c.pred ≡ told_pred k → last_of (arg_kinds_of c.pred) ≡ Some Boolean
told_truth c AtMost e = ap (λ p. last_of (arg_kinds_of p)) e
told_truth c Equal e = ap (λ p. last_of (arg_kinds_of p)) e
told_truth c Different e = ap (λ p. last_of (arg_kinds_of p)) e
