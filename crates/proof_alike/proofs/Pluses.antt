-- a + b = c does the same where what is known of it comes to the same.
use Rattle.std.proofs.Common.{◌≡◌, ℕ, ◌<◌, ◌≤◌, Bool, true, false, List, map, refl, sym, ap, ◌∙◌, subst, arith, ℤ, ◌+ℤ◌, ◌-ℤ◌}
use Rattle.std.specs.Prelude.{int_lt}
use Rattle.std.specs.Ordering.{int_eq}
use Rattle.std.proofs.lemmas.Int.{ints}
use Rattle.qc_model.specs.declared.problem.Arg.{Arg}
use Rattle.qc_model.specs.declared.problem.Arg.TheVariants.{Var, Num}
use Rattle.qc_model.specs.declared.problem.Argument.{Argument}
use Rattle.qc_model.specs.declared.problem.VarId.{VarId}
use Rattle.qc_model.specs.Arguments.{fill}
use Rattle.qc_model.specs.Content.{Game, Rule}
use Rattle.qc_model.specs.Domains.{Values, Box, values_left, least_value, greatest_value}
use Rattle.qc_model.specs.Game.{before}
use Rattle.qc_model.specs.Holds.{arg_value, value_at, holds_as}
use Rattle.qc_model.specs.Left.{span, left_at}
use Rattle.qc_model.specs.Meaning.{Meaning, plus, meaning_of}
use Rattle.qc_model.specs.Ranges.{ranges_miss, range_sum}
use Rattle.qc_model.specs.Refuted.{left_to, refuted_as}
use Rattle.model_arguments.specs.Written.{arg_at}
use Rattle.model_arguments.proofs.Written.{one_fill}
use Rattle.proof_tree.specs.Place.{position}
use Rattle.proof_alike.specs.Alike.{is_looked_at, AreAlike}
use Rattle.proof_alike.specs.Reading.{as_plus, reading_of, left_over, known_plus}
use Rattle.proof_alike.proofs.Boxes.{or_both, Varied, SameRule}
use Rattle.proof_alike.proofs.Meanings.{plus_only}
use Rattle.proof_alike.proofs.Positions.{early_value, value_same}
use Rattle.proof_alike.proofs.Starting.{early, one_left}
use Rattle.proof_alike.proofs.Sums.{swapped, first_known, second_known, known_same, first_left, second_left}
use Rattle.proof_alike.proofs.Terms.{IsOne}

-- p is to q as m is to n
abbrev IsShifted : ℤ → ℤ → ℤ → ℤ → Type 0
IsShifted p q m n = (p +ℤ n) ≡ (q +ℤ m)

sum_shifted : (p q r s t u k m n x y z : ℤ) → IsShifted p s k x → IsShifted q t m y → IsShifted r u n z → ((k +ℤ m) -ℤ n) ≡ ((x +ℤ y) -ℤ z) → IsShifted (p +ℤ q) (s +ℤ t) r u
sum_shifted p q r s t u k m n x y z e f g h = omega (arith, ints)

equal_shifted : (p q m n : ℤ) → IsShifted p q m n → int_eq p m ≡ int_eq q n
equal_shifted p q m n h = grind (arith, ints)

less_shifted : (p q m n : ℤ) → IsShifted p q m n → int_lt p m ≡ int_lt q n
less_shifted p q m n h = grind (arith, ints)

more_shifted : (p q m n : ℤ) → IsShifted p q m n → int_lt m p ≡ int_lt n q
more_shifted p q m n h = grind (arith, ints)

three : {X Y : Type 0} (f : X → X → X → Y) (x y z p q r : X) → x ≡ p → y ≡ q → z ≡ r → f x y z ≡ f p q r
three f x y z p q r d e h = ap (λ t. f t y z) d ∙ ap (λ t. f p t z) e ∙ ap (λ t. f p q t) h

module _ (g : Game) (i : ℕ) (a b : Box) (l : AreAlike g i a b) (u w : Box) (v : Varied g i a b u w) where
  abbrev first : Arg → ℤ
  first x = first_known g i a b l u w v x

  abbrev second : Arg → ℤ
  second x = second_known g i a b l u w v x

  -- a number of each argument in the two boxes: the same of one that is looked at, and the known value of each other one
  record Reads (p q : Arg → ℤ) : Type 0 where
    number : (n : ℤ) → p (Num n) ≡ q (Num n)
    same : (x : VarId) → is_looked_at g i x.0 ≡ true → p (Var x) ≡ q (Var x)
    here : (x : VarId) → is_looked_at g i x.0 ≡ false → p (Var x) ≡ first (Var x)
    there : (x : VarId) → is_looked_at g i x.0 ≡ false → q (Var x) ≡ second (Var x)

  -- so it differs as the known values do
  shifted : (p q : Arg → ℤ) → Reads p q → (x : Arg) → IsShifted (p x) (q x) (first x) (second x)
  shifted p q r (Num n) = ap (λ z. z +ℤ n) (r.number n)
  shifted p q r (Var x) = by (is_looked_at g i x.0) refl
    where
      by : (o : Bool) → is_looked_at g i x.0 ≡ o → IsShifted (p (Var x)) (q (Var x)) (first (Var x)) (second (Var x))
      by true e =
          ap (λ z. z +ℤ second (Var x)) (r.same x e)
          ∙ ap (λ z. q (Var x) +ℤ z) (sym (known_same g i a b l u w v x.0 e))
      by false e =
          ap (λ z. z +ℤ second (Var x)) (r.here x e)
          ∙ swapped (first (Var x)) (second (Var x))
          ∙ ap (λ z. z +ℤ first (Var x)) (sym (r.there x e))

  -- the ends of what is left
  first_one : (x : ℕ) → is_looked_at g i x ≡ false → IsOne (values_left u x)
  first_one x e = subst IsOne (sym (v.first x e)) (one_left g i a b l x e).0

  second_one : (x : ℕ) → is_looked_at g i x ≡ false → IsOne (values_left w x)
  second_one x e = subst IsOne (sym (v.second x e)) (one_left g i a b l x e).1

  ends_read : (end : Values → ℤ) → ((vs : Values) → IsOne vs → end vs ≡ least_value vs) → Reads (λ x. end (left_to u x)) (λ x. end (left_to w x))
  ends_read end k = record {
    number = λ n. refl;
    same = λ x e. ap end (v.same x.0 e);
    here = λ x e. k (values_left u x.0) (first_one x.0 e) ∙ first_left g i a b l u w v x.0 e;
    there = λ x e. k (values_left w x.0) (second_one x.0 e) ∙ second_left g i a b l u w v x.0 e;
  }

  least_reads : Reads (λ x. least_value (left_to u x)) (λ x. least_value (left_to w x))
  least_reads = ends_read least_value (λ vs h. refl)

  greatest_reads : Reads (λ x. greatest_value (left_to u x)) (λ x. greatest_value (left_to w x))
  greatest_reads = ends_read greatest_value (λ vs h. ap (λ r. r.to) h)

  -- the values at a later position
  values_read : (k : ℕ) → before g i ≤ before g k → Reads (arg_value (position g k u)) (arg_value (position g k w))
  values_read k h = record {
    number = λ n. refl;
    same = λ x e. value_same (before g k) x.0 u w (v.same x.0 e);
    here = λ x e. early_value (before g k) x.0 u (later x.0 (early g i x.0 e) h) ∙ first_left g i a b l u w v x.0 e;
    there = λ x e. early_value (before g k) x.0 w (later x.0 (early g i x.0 e) h) ∙ second_left g i a b l u w v x.0 e;
  }
    where
      later : (y : ℕ) → y < before g i → before g i ≤ before g k → y < before g k
      later y p q = omega arith

  module _ (args : List Argument) (known : left_over (map (fill (arg_value (position g i a))) args) ≡ left_over (map (fill (arg_value (position g i b))) args)) where
    abbrev at : ℕ → Arg
    at k = arg_at args k

    value_is : (vs : List ℤ) (k : ℕ) → value_at (map (fill (arg_value vs)) args) k ≡ arg_value vs (at k)
    value_is vs k = one_fill (arg_value vs) args k

    left_is : (box : Box) (k : ℕ) → left_at (map (fill (left_to box)) args) k ≡ left_to box (at k)
    left_is box k = one_fill (left_to box) args k

    over_is : (vs : List ℤ) → left_over (map (fill (arg_value vs)) args) ≡ ((arg_value vs (at 0) +ℤ arg_value vs (at 1)) -ℤ arg_value vs (at 2))
    over_is vs =
        let given = map (fill (arg_value vs)) args in
        three (λ x y z. (x +ℤ y) -ℤ z) (value_at given 0) (value_at given 1) (value_at given 2) (arg_value vs (at 0)) (arg_value vs (at 1)) (arg_value vs (at 2))
        (value_is vs 0) (value_is vs 1) (value_is vs 2)

    known_over : ((first (at 0) +ℤ first (at 1)) -ℤ first (at 2)) ≡ ((second (at 0) +ℤ second (at 1)) -ℤ second (at 2))
    known_over = sym (over_is (position g i a)) ∙ known ∙ over_is (position g i b)

    -- a and b together are to what they were as c is to what it was
    together : (p q s t : Arg → ℤ) → Reads p q → Reads s t → IsShifted (p (at 0) +ℤ p (at 1)) (q (at 0) +ℤ q (at 1)) (s (at 2)) (t (at 2))
    together p q s t r n =
        sum_shifted (p (at 0)) (p (at 1)) (s (at 2)) (q (at 0)) (q (at 1)) (t (at 2)) (first (at 0)) (first (at 1)) (first (at 2)) (second (at 0)) (second (at 1)) (second (at 2))
        (shifted p q r (at 0)) (shifted p q r (at 1)) (shifted s t n (at 2)) known_over

    abbrev misses : Values → Values → Values → Bool
    misses c d e = ranges_miss (range_sum (span c) (span d)) (span e)

    refuted_is : (box : Box) → refuted_as plus (map (fill (left_to box)) args) ≡ misses (left_to box (at 0)) (left_to box (at 1)) (left_to box (at 2))
    refuted_is box =
        let given = map (fill (left_to box)) args in
        three misses (left_at given 0) (left_at given 1) (left_at given 2) (left_to box (at 0)) (left_to box (at 1)) (left_to box (at 2)) (left_is box 0) (left_is box 1) (left_is box 2)

    misses_same : misses (left_to u (at 0)) (left_to u (at 1)) (left_to u (at 2)) ≡ misses (left_to w (at 0)) (left_to w (at 1)) (left_to w (at 2))
    misses_same =
        let low = λ (box : Box) (x : Arg). least_value (left_to box x) in
        let high = λ (box : Box) (x : Arg). greatest_value (left_to box x) in
        or_both
        (int_lt (high u (at 0) +ℤ high u (at 1)) (low u (at 2))) (int_lt (high u (at 2)) (low u (at 0) +ℤ low u (at 1)))
        (int_lt (high w (at 0) +ℤ high w (at 1)) (low w (at 2))) (int_lt (high w (at 2)) (low w (at 0) +ℤ low w (at 1)))
        (less_shifted (high u (at 0) +ℤ high u (at 1)) (high w (at 0) +ℤ high w (at 1)) (low u (at 2)) (low w (at 2)) (together (high u) (high w) (low u) (low w) greatest_reads least_reads))
        (more_shifted (low u (at 0) +ℤ low u (at 1)) (low w (at 0) +ℤ low w (at 1)) (high u (at 2)) (high w (at 2)) (together (low u) (low w) (high u) (high w) least_reads greatest_reads))

    plus_refutes : (m : Meaning) → reading_of m ≡ as_plus → refuted_as m (map (fill (left_to u)) args) ≡ refuted_as m (map (fill (left_to w)) args)
    plus_refutes =
        plus_only (λ m. refuted_as m (map (fill (left_to u)) args) ≡ refuted_as m (map (fill (left_to w)) args))
        (refuted_is u ∙ misses_same ∙ sym (refuted_is w))

    holds_is : (vs : List ℤ) → holds_as plus (map (fill (arg_value vs)) args) ≡ int_eq (arg_value vs (at 0) +ℤ arg_value vs (at 1)) (arg_value vs (at 2))
    holds_is vs =
        let given = map (fill (arg_value vs)) args in
        three (λ x y z. int_eq (x +ℤ y) z) (value_at given 0) (value_at given 1) (value_at given 2) (arg_value vs (at 0)) (arg_value vs (at 1)) (arg_value vs (at 2))
        (value_is vs 0) (value_is vs 1) (value_is vs 2)

    plus_holds : (k : ℕ) → before g i ≤ before g k → (m : Meaning) → reading_of m ≡ as_plus →
        holds_as m (map (fill (arg_value (position g k u))) args) ≡ holds_as m (map (fill (arg_value (position g k w))) args)
    plus_holds k h =
        let p = arg_value (position g k u) in
        let q = arg_value (position g k w) in
        plus_only (λ m. holds_as m (map (fill p) args) ≡ holds_as m (map (fill q) args))
        (holds_is (position g k u)
        ∙ equal_shifted (p (at 0) +ℤ p (at 1)) (q (at 0) +ℤ q (at 1)) (p (at 2)) (q (at 2)) (together p q p q (values_read k h) (values_read k h))
        ∙ sym (holds_is (position g k w)))

  pub same_plus : (c : Rule) → reading_of (meaning_of c.pred) ≡ as_plus → known_plus (position g i a) c ≡ known_plus (position g i b) c → SameRule g i c u w
  same_plus c e known = record {
    refutes = plus_refutes c.args known (meaning_of c.pred) e;
    holds = λ k h. plus_holds c.args known k h (meaning_of c.pred) e;
  }
