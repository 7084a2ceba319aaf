-- Values that both of two numbers have.
use Rattle.std.proofs.Common.{◌≡◌, ℕ, Bool, true, false, ◌||◌, [], ◌∷◌, refl, sym, ap, ◌∙◌, subst, arith, ℤ}
use Rattle.std.specs.Prelude.{◌≤ℤ◌}
use Rattle.std.specs.List.{list_any}
use Rattle.std.specs.Ordering.{int_eq}
use Rattle.std.proofs.lemmas.Int.{ints}
use Rattle.std.proofs.lemmas.Bool.{not_from_true, or_left, or_right}
use Rattle.qc_model.specs.declared.problem.Arg.{Arg}
use Rattle.qc_model.specs.Domains.{Values, Box, least_value, greatest_value, has_value, misses}
use Rattle.qc_model.specs.Ranges.{range_of}
use Rattle.qc_model.specs.Refuted.{left_to}
use Rattle.model_arguments.proofs.Values.{has_first, has_least, has_greatest}
use Rattle.qc_refuter.specs.Met.{is_domain_left, is_open}
use Rattle.qc_refuter.proofs.Terms.{some_left}
use Rattle.dense_quiet.specs.Quiet.{SparesTwo}

pub same_range : (p q r s : ℤ) → p ≡ r → q ≡ s → range_of p q ≡ range_of r s
same_range p q r s i j = ap (λ z. range_of z q) i ∙ ap (range_of r) j

pub in_order : (p q r s : ℤ) → p ≡ r → q ≡ s → r ≤ℤ s → p ≤ℤ q
in_order p q r s i j h = omega (arith, ints)

-- a value that is in both
any_has : (p : ℤ → Bool) (vs : Values) (v : ℤ) → has_value vs v ≡ true → p v ≡ true → list_any p vs ≡ true
any_has p [] v h k = cc
any_has p (w ∷ vs) v h k = by (any_has p vs v) (int_eq v w) refl h
  where
    equal : int_eq v w ≡ true → v ≡ w
    equal e = grind (arith, ints)

    by : (has_value vs v ≡ true → p v ≡ true → list_any p vs ≡ true) → (b : Bool) → int_eq v w ≡ b → (b || has_value vs v) ≡ true → list_any p (w ∷ vs) ≡ true
    by f true e m = or_left (p w) (list_any p vs) (subst (λ z. p z ≡ true) (equal e) k)
    by f false e m = or_right (p w) (list_any p vs) (f m k)

pub in_both : (d e : Values) (v : ℤ) → has_value d v ≡ true → has_value e v ≡ true → misses d e ≡ false
in_both d e v h k = not_from_true (list_any (has_value e) d) (any_has (has_value e) d v h k)

pub equal_spares : (ok : ℕ → Bool) (x y : Arg) (box : Box) → is_open box x ≡ true → is_open box y ≡ true → least_value (left_to box x) ≡ least_value (left_to box y) → greatest_value (left_to box x) ≡ greatest_value (left_to box y) → SparesTwo misses ok x y box
equal_spares ok x y box ox oy low high = record {
  whole = in_both d e (least_value d) low_here low_there;
  first = λ t. record {
    least = in_both (least_value d ∷ []) e (least_value d) (has_first (least_value d) []) low_there;
    greatest = in_both (greatest_value d ∷ []) e (greatest_value d) (has_first (greatest_value d) []) high_there;
  };
  second = λ t. record {
    least = in_both d (least_value e ∷ []) (least_value d) low_here (subst (λ v. has_value (v ∷ []) (least_value d) ≡ true) low (has_first (least_value d) []));
    greatest = in_both d (greatest_value e ∷ []) (greatest_value d) high_here (subst (λ v. has_value (v ∷ []) (greatest_value d) ≡ true) high (has_first (greatest_value d) []));
  };
}
  where
    d : Values
    d = left_to box x

    e : Values
    e = left_to box y

    low_here : has_value d (least_value d) ≡ true
    low_here = has_least d (some_left d ox)

    high_here : has_value d (greatest_value d) ≡ true
    high_here = has_greatest d (some_left d ox)

    low_there : has_value e (least_value d) ≡ true
    low_there = subst (λ v. has_value e v ≡ true) (sym low) (has_least e (some_left e oy))

    high_there : has_value e (greatest_value d) ≡ true
    high_there = subst (λ v. has_value e v ≡ true) (sym high) (has_greatest e (some_left e oy))

-- the least value of one that the other has
pub least_shared : (d e : Values) (v : ℤ) → is_domain_left d ≡ true → v ≡ least_value d → has_value e v ≡ true → misses d e ≡ false
least_shared d e v o i h = in_both d e v (subst (λ z. has_value d z ≡ true) (sym i) (has_least d (some_left d o))) h

pub least_shares : (d e : Values) (v : ℤ) → is_domain_left e ≡ true → v ≡ least_value e → has_value d v ≡ true → misses d e ≡ false
least_shares d e v o i h = in_both d e v h (subst (λ z. has_value e z ≡ true) (sym i) (has_least e (some_left e o)))
