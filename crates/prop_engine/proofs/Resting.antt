-- A sum at most keeps its ends where those that its terms rest on don't move.
use Rattle.std.proofs.Common.{◌≡◌, ◌≢◌, ℕ, zero, suc, ◌*◌, ◌≤◌, Bool, true, false, not, ◌&&◌, List, [], ◌∷◌, length, map, set, ◌⊎◌, inl, inr, refl, sym, ap, ◌∙◌, subst, arith, ℤ, mul-le-mul_right}
use Rattle.std.specs.Prelude.{flat_map, ◌==◌, slice_get, Some, pos, negsuc, ◌+ℤ◌, ◌*ℤ◌, ◌≤ℤ◌, int_lt}
use Rattle.std.specs.Int.{int_min}
use Rattle.std.specs.List.{list_all}
use Rattle.std.proofs.Math.IntN.{*ℤ_comm, *ℤ-zero}
use Rattle.std.proofs.lemmas.Bool.Decides.{nat_tests}
use Rattle.std.proofs.lemmas.Int.{ints, clamps}
use Rattle.std.proofs.lemmas.List.{get_or-set_other}
use Rattle.std.proofs.lemmas.Option.{same_Some}
use Rattle.std.proofs.lemmas.Bool.{or_left, not_from_false, and_from}
use Rattle.qc_model.specs.declared.problem.Arg.{Arg}
use Rattle.qc_model.specs.declared.problem.Arg.TheVariants.{Var, Num}
use Rattle.qc_model.specs.declared.problem.Argument.{Argument}
use Rattle.qc_model.specs.declared.problem.Argument.TheVariants.{One, Many, Numbers, Members}
use Rattle.qc_model.specs.declared.problem.Pred.TheVariants.{IntLinLe}
use Rattle.qc_model.specs.declared.problem.VarId.{VarId}
use Rattle.qc_model.specs.Arguments.{arg_variables, argument_variables, variables_of, fill}
use Rattle.qc_model.specs.Closed.{refutes_at, keeps_ends}
use Rattle.qc_model.specs.Content.{Rule}
use Rattle.qc_model.specs.Domains.{Values, Box, values_left, box_at, least_value, greatest_value, is_none_left, has_empty, has_value, is_within, values_outside, box_without}
use Rattle.qc_model.specs.Left.{span, sum_range, sum_at, lefts_at}
use Rattle.qc_model.specs.Meaning.{meaning_of}
use Rattle.qc_model.specs.Ranges.{point, product}
use Rattle.qc_model.specs.Refuted.{left_to, refuted_as}
use Rattle.qc_model.proofs.Readable.{first, second}
use Rattle.model_arguments.specs.Written.{arg_at, args_at, ints_at}
use Rattle.model_arguments.proofs.Bools.{clash, not_false}
use Rattle.model_arguments.proofs.Kept.{keeps, passes, was_left, some_of, inside, at_least, at_most, reaches, same_end, low_end, high_end, ordered}
use Rattle.model_arguments.proofs.Values.{has_least, has_greatest}
use Rattle.model_arguments.proofs.Written.{left_written, lefts_written, numbers_written}
use Rattle.proof_tree.specs.declared.tree.Step.{Step}
use Rattle.proof_tree.specs.declared.tree.Step.TheVariants.{Prune, Bound}
use Rattle.proof_tree.specs.Steps.{after_steps}
use Rattle.prop_engine.specs.Watching.{step_variable, is_plain, IsBoundedSum, may_raise, may_lower, moved_by, IsStill}
use Rattle.prop_engine.proofs.Own.{among, among_left, among_right}

mul_up : (x y z : ℤ) → x ≤ℤ y → pos 0 ≤ℤ z → (x *ℤ z) ≤ℤ (y *ℤ z)
mul_up (pos a) (pos b) (pos n) h k = let m : a * n ≤ b * n = mul-le-mul_right n (omega (arith, ints)) in omega (arith, ints)
mul_up (pos a) (negsuc b) (pos n) h k = absurd (omega (arith, ints))
mul_up (negsuc a) (pos b) (pos n) h k = omega (arith, ints)
mul_up (negsuc a) (negsuc b) (pos n) h k = let m : suc b * n ≤ suc a * n = mul-le-mul_right n (omega (arith, ints)) in omega (arith, ints)
mul_up x y (negsuc n) h k = absurd (omega (arith, ints))

mul_down : (x y z : ℤ) → x ≤ℤ y → z ≤ℤ pos 0 → (y *ℤ z) ≤ℤ (x *ℤ z)
mul_down (pos a) (pos b) (negsuc n) h k = let m : a * suc n ≤ b * suc n = mul-le-mul_right (suc n) (omega (arith, ints)) in omega (arith, ints)
mul_down (pos a) (negsuc b) (negsuc n) h k = absurd (omega (arith, ints))
mul_down (negsuc a) (pos b) (negsuc n) h k = omega (arith, ints)
mul_down (negsuc a) (negsuc b) (negsuc n) h k = let m : suc b * suc n ≤ suc a * suc n = mul-le-mul_right (suc n) (omega (arith, ints)) in omega (arith, ints)
mul_down x y (pos zero) h k = omega (arith, ints, *ℤ-zero x, *ℤ-zero y)
mul_down x y (pos (suc n)) h k = absurd (omega (arith, ints))

-- a factor above 0 keeps the order, and another turns it
rising : (n x y : ℤ) → int_lt (pos 0) n ≡ true → x ≤ℤ y → (n *ℤ x) ≤ℤ (n *ℤ y)
rising n x y p h = turned (n *ℤ x) (x *ℤ n) (n *ℤ y) (y *ℤ n) (*ℤ_comm n x) (*ℤ_comm n y) (mul_up x y n h (above n p))
  where
    above : (n : ℤ) → int_lt (pos 0) n ≡ true → pos 0 ≤ℤ n
    above n p = grind (arith, ints)

    turned : (a b c d : ℤ) → a ≡ b → c ≡ d → b ≤ℤ d → a ≤ℤ c
    turned a b c d e f h = omega (arith, ints, e, f, h)

falling : (n x y : ℤ) → int_lt (pos 0) n ≡ false → x ≤ℤ y → (n *ℤ y) ≤ℤ (n *ℤ x)
falling n x y p h = turned (n *ℤ x) (x *ℤ n) (n *ℤ y) (y *ℤ n) (*ℤ_comm n x) (*ℤ_comm n y) (mul_down x y n h (below n p))
  where
    below : (n : ℤ) → int_lt (pos 0) n ≡ false → n ≤ℤ pos 0
    below n p = grind (arith, ints)

    turned : (a b c d : ℤ) → a ≡ b → c ≡ d → d ≤ℤ b → c ≤ℤ a
    turned a b c d e f h = omega (arith, ints, e, f, h)

-- the least of a term
abbrev term_least : ℤ → Values → ℤ
term_least n d = (product (point n) (span d)).from

under_both : (p q : ℤ) → (int_min p (int_min q (int_min p q)) ≤ℤ p) × (int_min p (int_min q (int_min p q)) ≤ℤ q)
under_both p q = (omega (arith, ints, clamps), omega (arith, ints, clamps))

over_both : (r p q : ℤ) → r ≤ℤ p → r ≤ℤ q → r ≤ℤ int_min p (int_min q (int_min p q))
over_both r p q h k = omega (arith, ints, clamps, h, k)

-- where a term with this factor rests on an end, it is no further out in d than in e
pub record IsLower (n : ℤ) (d e : Values) : Type 0 where
  pub rises : int_lt (pos 0) n ≡ true → least_value d ≤ℤ least_value e
  pub falls : int_lt (pos 0) n ≡ false → greatest_value e ≤ℤ greatest_value d

ends_order : (d : Values) → least_value d ≤ℤ greatest_value d
ends_order [] = omega (arith, ints)
ends_order (v ∷ vs) = ordered (v ∷ vs) refl

through : (a b c : ℤ) → a ≤ℤ b → b ≤ℤ c → a ≤ℤ c
through a b c h k = omega (arith, ints, h, k)

term_lower : (n : ℤ) (d e : Values) → IsLower n d e → term_least n d ≤ℤ term_least n e
term_lower n d e l = by (int_lt (pos 0) n) refl
  where
    under : (term_least n d ≤ℤ (n *ℤ least_value d)) × (term_least n d ≤ℤ (n *ℤ greatest_value d))
    under = under_both (n *ℤ least_value d) (n *ℤ greatest_value d)

    over : (r : ℤ) → r ≤ℤ (n *ℤ least_value e) → r ≤ℤ (n *ℤ greatest_value e) → r ≤ℤ term_least n e
    over r h k = over_both r (n *ℤ least_value e) (n *ℤ greatest_value e) h k

    same : (r : ℤ) → r ≤ℤ r
    same r = omega (arith, ints)

    by : (b : Bool) → int_lt (pos 0) n ≡ b → term_least n d ≤ℤ term_least n e
    by true p =
        through (term_least n d) (n *ℤ least_value e) (term_least n e)
        (through (term_least n d) (n *ℤ least_value d) (n *ℤ least_value e) under.0 (rising n (least_value d) (least_value e) p (l.rises p)))
        (over (n *ℤ least_value e) (same (n *ℤ least_value e)) (rising n (least_value e) (greatest_value e) p (ends_order e)))
    by false p =
        through (term_least n d) (n *ℤ greatest_value e) (term_least n e)
        (through (term_least n d) (n *ℤ greatest_value d) (n *ℤ greatest_value e) under.1 (falling n (greatest_value e) (greatest_value d) p (l.falls p)))
        (over (n *ℤ greatest_value e) (falling n (least_value e) (greatest_value e) p (ends_order e)) (same (n *ℤ greatest_value e)))

sum_lower : (ns : List ℤ) (xs : List Arg) (b e : Box) → ((i : ℕ) (n : ℤ) (a : Arg) → slice_get ns i ≡ Some n → slice_get xs i ≡ Some a → IsLower n (left_to b a) (left_to e a)) →
    (sum_range ns (map (left_to b) xs)).from ≤ℤ (sum_range ns (map (left_to e) xs)).from
sum_lower [] xs b e f = omega (arith, ints)
sum_lower (n ∷ ns) [] b e f = omega (arith, ints)
sum_lower (n ∷ ns) (a ∷ xs) b e f =
    both (term_least n (left_to b a)) (term_least n (left_to e a)) (sum_range ns (map (left_to b) xs)).from (sum_range ns (map (left_to e) xs)).from
    (term_lower n (left_to b a) (left_to e a) (f 0 n a refl refl)) (sum_lower ns xs b e (λ i m c p q. f (suc i) m c p q))
  where
    both : (p q r s : ℤ) → p ≤ℤ q → r ≤ℤ s → (p +ℤ r) ≤ℤ (q +ℤ s)
    both p q r s h k = omega (arith, ints, h, k)

-- x set to one value in both boxes: that value, or what was there
set_cases : (b e : Box) (x y : ℕ) (us vs : Values) → length b ≡ length e → ((x ≡ y) × ((values_left (set b x us) y ≡ us) × (values_left (set e x vs) y ≡ vs))) ⊎ ((values_left (set b x us) y ≡ values_left b y) × (values_left (set e x vs) y ≡ values_left e y))
set_cases [] [] x y us vs l = inr (refl, refl)
set_cases [] (f ∷ e) x y us vs l = cc
set_cases (d ∷ b) [] x y us vs l = cc
set_cases (d ∷ b) (f ∷ e) zero zero us vs l = inl (refl, (refl, refl))
set_cases (d ∷ b) (f ∷ e) zero (suc y) us vs l = inr (refl, refl)
set_cases (d ∷ b) (f ∷ e) (suc x) zero us vs l = inr (refl, refl)
set_cases (d ∷ b) (f ∷ e) (suc x) (suc y) us vs l = elim (set_cases b e x y us vs (omega (arith, l))) [ inl h ↦ inl (ap suc h.0, h.1) | inr h ↦ inr h ]

-- what is left to a variable in b lies between its ends in e
pub record IsBetweenEnds (b e : Box) : Type 0 where
  pub count : length b ≡ length e
  pub least : (y : ℕ) → least_value (values_left e y) ≤ℤ least_value (values_left b y)
  pub greatest : (y : ℕ) → greatest_value (values_left b y) ≤ℤ greatest_value (values_left e y)

-- the ends that the terms rest on are the same in both
pub record RestSame (n : ℤ) (d e : Values) : Type 0 where
  pub least : int_lt (pos 0) n ≡ true → least_value d ≡ least_value e
  pub greatest : int_lt (pos 0) n ≡ false → greatest_value d ≡ greatest_value e

abbrev pub AreResting : List ℤ → List Arg → Box → Box → Type 0
AreResting ns xs b e = (i : ℕ) (n : ℤ) (y : VarId) → slice_get ns i ≡ Some n → slice_get xs i ≡ Some (Var y) → RestSame n (values_left b y.0) (values_left e y.0)

same_lower : (v w : ℤ) → v ≡ w → v ≤ℤ w
same_lower v w h = omega (arith, ints, h)

-- with x at a value v, and at w in e
item_lower : (b e : Box) (x : ℕ) (v w n : ℤ) (a : Arg) → length b ≡ length e → ((y : VarId) → a ≡ Var y → RestSame n (values_left b y.0) (values_left e y.0)) → ((y : VarId) → a ≡ Var y → x ≡ y.0 → IsLower n (v ∷ []) (w ∷ [])) →
    IsLower n (left_to (box_at b x v) a) (left_to (box_at e x w) a)
item_lower b e x v w n (Num m) l r o = record { rises = λ p. same_lower m m refl; falls = λ p. same_lower m m refl }
item_lower b e x v w n (Var y) l r o =
    elim (set_cases b e x y.0 (v ∷ []) (w ∷ []) l) [
      | inl h ↦ subst (λ z. IsLower n z (values_left (box_at e x w) y.0)) (sym h.1.0) (subst (λ z. IsLower n (v ∷ []) z) (sym h.1.1) (o y refl h.0))
      | inr h ↦ subst (λ z. IsLower n z (values_left (box_at e x w) y.0)) (sym h.0) (subst (λ z. IsLower n (values_left b y.0) z) (sym h.1) (rests (r y refl)))
    ]
  where
    rests : RestSame n (values_left b y.0) (values_left e y.0) → IsLower n (values_left b y.0) (values_left e y.0)
    rests s = record { rises = λ p. same_lower (least_value (values_left b y.0)) (least_value (values_left e y.0)) (s.least p); falls = λ p. same_lower (greatest_value (values_left e y.0)) (greatest_value (values_left b y.0)) (sym (s.greatest p)) }

-- what a sum at most refutes, by the least sum and the number that bounds it
refuted_sum : (c : Rule) (m : ℤ) (box : Box) → c.pred ≡ IntLinLe → arg_at c.args 2 ≡ Num m → (x : ℕ) (v : ℤ) → refutes_at c box x v ≡ int_lt m (sum_range (ints_at c.args 0) (map (left_to (box_at box x v)) (args_at c.args 1))).from
refuted_sum c m box e n x v =
    let at = box_at box x v in
    let args = map (fill (left_to at)) c.args in
    ap (λ p. refuted_as (meaning_of p) args) e
    ∙ (ap (λ d. int_lt (greatest_value d) (sum_at args).from) (left_written at c.args 2 ∙ ap (left_to at) n)
    ∙ (ap (λ ns. int_lt m (sum_range ns (lefts_at args 1)).from) (numbers_written at c.args 0)
    ∙ ap (λ ds. int_lt m (sum_range (ints_at c.args 0) ds).from) (lefts_written at c.args 1)))

still_under : (m p q : ℤ) → p ≤ℤ q → int_lt m q ≡ false → int_lt m p ≡ false
still_under m p q h k = grind (arith, ints)

value_kept : (c : Rule) (m : ℤ) (b e : Box) → c.pred ≡ IntLinLe → arg_at c.args 2 ≡ Num m → length b ≡ length e → AreResting (ints_at c.args 0) (args_at c.args 1) b e → (x : ℕ) (v w : ℤ) →
    ((i : ℕ) (n : ℤ) (y : VarId) → slice_get (ints_at c.args 0) i ≡ Some n → slice_get (args_at c.args 1) i ≡ Some (Var y) → x ≡ y.0 → IsLower n (v ∷ []) (w ∷ [])) → refutes_at c e x w ≡ false → refutes_at c b x v ≡ false
value_kept c m b e p a l r x v w o h =
    let ns = ints_at c.args 0 in
    let xs = args_at c.args 1 in
    refuted_sum c m b p a x v
    ∙ still_under m (sum_range ns (map (left_to (box_at b x v)) xs)).from (sum_range ns (map (left_to (box_at e x w)) xs)).from
    (sum_lower ns xs (box_at b x v) (box_at e x w) (λ i n y s t. item_lower b e x v w n y l (λ z q. r i n z s (t ∙ ap Some q)) (λ z q. o i n z s (t ∙ ap Some q))))
    (sym (refuted_sum c m e p a x w) ∙ h)

at_equal : (b e : Box) (n : ℤ) (x y : ℕ) → x ≡ y → RestSame n (values_left b y) (values_left e y) → RestSame n (values_left b x) (values_left e x)
at_equal b e n x y h r = subst (λ z. RestSame n (values_left b z) (values_left e z)) (sym h) r

least_lower : (b e : Box) (n : ℤ) (x : ℕ) → IsBetweenEnds b e → RestSame n (values_left b x) (values_left e x) → IsLower n (least_value (values_left b x) ∷ []) (least_value (values_left e x) ∷ [])
least_lower b e n x i r = record { rises = λ p. same_lower (least_value (values_left b x)) (least_value (values_left e x)) (r.least p); falls = λ p. i.least x }

greatest_lower : (b e : Box) (n : ℤ) (x : ℕ) → IsBetweenEnds b e → RestSame n (values_left b x) (values_left e x) → IsLower n (greatest_value (values_left b x) ∷ []) (greatest_value (values_left e x) ∷ [])
greatest_lower b e n x i r = record { rises = λ p. i.greatest x; falls = λ p. same_lower (greatest_value (values_left e x)) (greatest_value (values_left b x)) (sym (r.greatest p)) }

all_still : {X : Type 0} (p q : X → Bool) (xs : List X) → ((x : X) → p x ≡ true → q x ≡ true) → list_all p xs ≡ true → list_all q xs ≡ true
all_still p q [] f h = refl
all_still p q (x ∷ xs) f h = and_from (q x) (list_all q xs) (f x (first (p x) (list_all p xs) h)) (all_still p q xs f (second (p x) (list_all p xs) h))

-- a sum at most keeps its ends
pub sum_keeps : (c : Rule) (m : ℤ) (b e : Box) → c.pred ≡ IntLinLe → arg_at c.args 2 ≡ Num m → IsBetweenEnds b e → AreResting (ints_at c.args 0) (args_at c.args 1) b e → keeps_ends e c ≡ true → keeps_ends b c ≡ true
sum_keeps c m b e p a i r h =
    all_still
    (λ x. not (refutes_at c e x (least_value (values_left e x))) && not (refutes_at c e x (greatest_value (values_left e x))))
    (λ x. not (refutes_at c b x (least_value (values_left b x))) && not (refutes_at c b x (greatest_value (values_left b x))))
    (variables_of c.args)
    (λ x k.
    let low = not (refutes_at c e x (least_value (values_left e x))) in
    let high = not (refutes_at c e x (greatest_value (values_left e x))) in
    and_from (not (refutes_at c b x (least_value (values_left b x)))) (not (refutes_at c b x (greatest_value (values_left b x))))
    (not_from_false (refutes_at c b x (least_value (values_left b x)))
    (value_kept c m b e p a i.count r x (least_value (values_left b x)) (least_value (values_left e x)) (λ j n y s t q. least_lower b e n x i (at_equal b e n x y.0 q (r j n y s t)))
    (not_false (refutes_at c e x (least_value (values_left e x))) (first low high k))))
    (not_from_false (refutes_at c b x (greatest_value (values_left b x)))
    (value_kept c m b e p a i.count r x (greatest_value (values_left b x)) (greatest_value (values_left e x)) (λ j n y s t q. greatest_lower b e n x i (at_equal b e n x y.0 q (r j n y s t)))
    (not_false (refutes_at c e x (greatest_value (values_left e x))) (second low high k)))))
    h

-- some values, or none in either box
pub some_or_none : (b e : Box) (y : ℕ) → length b ≡ length e → has_empty b ≡ false → (is_none_left (values_left b y) ≡ false) ⊎ ((values_left b y ≡ []) × (values_left e y ≡ []))
some_or_none [] [] y l h = inr (refl, refl)
some_or_none [] (f ∷ e) y l h = cc
some_or_none (d ∷ b) [] y l h = cc
some_or_none ([] ∷ b) (f ∷ e) y l h = cc
some_or_none ((v ∷ vs) ∷ b) (f ∷ e) zero l h = inl refl
some_or_none ((v ∷ vs) ∷ b) (f ∷ e) (suc y) l h = some_or_none b e y (omega (arith, l)) h

-- a part of a box, without an empty domain
pub between_ends : (b e : Box) → length b ≡ length e → has_empty b ≡ false → ((y : ℕ) (m : ℤ) → has_value (values_left b y) m ≡ true → has_value (values_left e y) m ≡ true) → IsBetweenEnds b e
between_ends b e l f p = record {
  count = l;
  least = λ y. elim (some_or_none b e y l f) [
    | inl n ↦ low_end (values_left e y) (least_value (values_left b y)) (p y (least_value (values_left b y)) (has_least (values_left b y) n))
    | inr n ↦ same_lower (least_value (values_left e y)) (least_value (values_left b y)) (ap least_value (n.1 ∙ sym n.0))
  ];
  greatest = λ y. elim (some_or_none b e y l f) [
    | inl n ↦ high_end (values_left e y) (greatest_value (values_left b y)) (p y (greatest_value (values_left b y)) (has_greatest (values_left b y) n))
    | inr n ↦ same_lower (greatest_value (values_left b y)) (greatest_value (values_left e y)) (ap greatest_value (n.0 ∙ sym n.1))
  ];
}

-- what a step leaves
equal_numbers : (j k : ℕ) → (j == k) ≡ true → j ≡ k
equal_numbers j k h = grind (arith, nat_tests)

same_number : (k : ℕ) → (k == k) ≡ true
same_number k = grind (arith, nat_tests)

apart : (j k : ℕ) → (j == k) ≡ false → k ≢ j
apart j k h e = grind (arith, nat_tests)

without_at : (box : Box) (x : ℕ) (lo hi : ℤ) → values_left (box_without box x lo hi) x ≡ values_outside lo hi (values_left box x)
without_at [] zero lo hi = refl
without_at [] (suc x) lo hi = refl
without_at (d ∷ box) zero lo hi = refl
without_at (d ∷ box) (suc x) lo hi = without_at box x lo hi

within_of : (b : Bool) → not b ≡ false → b ≡ true
within_of true h = refl
within_of false h = cc

-- no value from lo to hi is left, so where one is left that isn't past hi, the least was below lo
cut_least : (lo hi m : ℤ) (vs : Values) → has_value (values_outside lo hi vs) m ≡ true → int_lt hi m ≡ false → least_value (values_outside lo hi vs) ≡ least_value vs
cut_least lo hi m vs h r = by (not (is_within lo hi (least_value vs))) refl
  where
    was : has_value vs m ≡ true
    was = was_left (λ v. not (is_within lo hi v)) vs m h

    by : (b : Bool) → not (is_within lo hi (least_value vs)) ≡ b → least_value (values_outside lo hi vs) ≡ least_value vs
    by true e =
        let left = values_outside lo hi vs in
        same_end (least_value left) (least_value vs)
        (low_end left (least_value vs) (keeps (λ v. not (is_within lo hi v)) vs (least_value vs) e (has_least vs (some_of vs m was))))
        (low_end vs (least_value left) (was_left (λ v. not (is_within lo hi v)) vs (least_value left) (has_least left (some_of left m h))))
    by false e =
        let low = at_least lo hi (least_value vs) (within_of (is_within lo hi (least_value vs)) e) in
        let there = inside lo hi m (through lo (least_value vs) m low (low_end vs m was)) (reaches hi m r) in
        absurd (clash (not (is_within lo hi m)) (passes (λ v. not (is_within lo hi v)) vs m h) (ap not there))

cut_greatest : (lo hi m : ℤ) (vs : Values) → has_value (values_outside lo hi vs) m ≡ true → int_lt m lo ≡ false → greatest_value (values_outside lo hi vs) ≡ greatest_value vs
cut_greatest lo hi m vs h r = by (not (is_within lo hi (greatest_value vs))) refl
  where
    was : has_value vs m ≡ true
    was = was_left (λ v. not (is_within lo hi v)) vs m h

    by : (b : Bool) → not (is_within lo hi (greatest_value vs)) ≡ b → greatest_value (values_outside lo hi vs) ≡ greatest_value vs
    by true e =
        let left = values_outside lo hi vs in
        same_end (greatest_value left) (greatest_value vs)
        (high_end vs (greatest_value left) (was_left (λ v. not (is_within lo hi v)) vs (greatest_value left) (has_greatest left (some_of left m h))))
        (high_end left (greatest_value vs) (keeps (λ v. not (is_within lo hi v)) vs (greatest_value vs) e (has_greatest vs (some_of vs m was))))
    by false e =
        let high = at_most lo hi (greatest_value vs) (within_of (is_within lo hi (greatest_value vs)) e) in
        let there = inside lo hi m (reaches m lo r) (through m (greatest_value vs) hi (high_end vs m was) high) in
        absurd (clash (not (is_within lo hi m)) (passes (λ v. not (is_within lo hi v)) vs m h) (ap not there))

-- what is left after values of x from lo to hi went
cut_had : (box : Box) (x y : ℕ) (lo hi m : ℤ) → has_value (values_left (box_without box x lo hi) y) m ≡ true → has_value (values_left box y) m ≡ true
cut_had box x y lo hi m h = by (x == y) refl
  where
    by : (b : Bool) → (x == y) ≡ b → has_value (values_left box y) m ≡ true
    by true e =
        let q = equal_numbers x y e in
        subst (λ z. has_value (values_left box z) m ≡ true) q
        (was_left (λ v. not (is_within lo hi v)) (values_left box x) m (ap (λ d. has_value d m) (sym (without_at box x lo hi)) ∙ subst (λ z. has_value (values_left (box_without box x lo hi) z) m ≡ true) (sym q) h))
    by false e = ap (λ d. has_value d m) (sym (get_or-set_other box x y (values_outside lo hi (values_left box x)) [] (apart x y e))) ∙ h

cut_raised : (box : Box) (x y : ℕ) (lo hi m : ℤ) → has_value (values_left (box_without box x lo hi) y) m ≡ true → (x ≡ y → int_lt hi m ≡ false) → least_value (values_left (box_without box x lo hi) y) ≡ least_value (values_left box y)
cut_raised box x y lo hi m h f = by (x == y) refl
  where
    by : (b : Bool) → (x == y) ≡ b → least_value (values_left (box_without box x lo hi) y) ≡ least_value (values_left box y)
    by true e =
        let q = equal_numbers x y e in
        let here = subst (λ z. has_value (values_left (box_without box x lo hi) z) m ≡ true) (sym q) h in
        subst (λ z. least_value (values_left (box_without box x lo hi) z) ≡ least_value (values_left box z)) q
        (ap least_value (without_at box x lo hi) ∙ cut_least lo hi m (values_left box x) (ap (λ d. has_value d m) (sym (without_at box x lo hi)) ∙ here) (f q))
    by false e = ap least_value (get_or-set_other box x y (values_outside lo hi (values_left box x)) [] (apart x y e))

cut_lowered : (box : Box) (x y : ℕ) (lo hi m : ℤ) → has_value (values_left (box_without box x lo hi) y) m ≡ true → (x ≡ y → int_lt m lo ≡ false) → greatest_value (values_left (box_without box x lo hi) y) ≡ greatest_value (values_left box y)
cut_lowered box x y lo hi m h f = by (x == y) refl
  where
    by : (b : Bool) → (x == y) ≡ b → greatest_value (values_left (box_without box x lo hi) y) ≡ greatest_value (values_left box y)
    by true e =
        let q = equal_numbers x y e in
        let here = subst (λ z. has_value (values_left (box_without box x lo hi) z) m ≡ true) (sym q) h in
        subst (λ z. greatest_value (values_left (box_without box x lo hi) z) ≡ greatest_value (values_left box z)) q
        (ap greatest_value (without_at box x lo hi) ∙ cut_greatest lo hi m (values_left box x) (ap (λ d. has_value d m) (sym (without_at box x lo hi)) ∙ here) (f q))
    by false e = ap greatest_value (get_or-set_other box x y (values_outside lo hi (values_left box x)) [] (apart x y e))

wrong : true ≡ false → ⊥
wrong e = cc

-- steps: what they leave was there, and an end that none of them may have moved is where it was
pub steps_had : (steps : List Step) (box : Box) (y : ℕ) (m : ℤ) → has_value (values_left (after_steps steps box) y) m ≡ true → has_value (values_left box y) m ≡ true
steps_had [] box y m h = h
steps_had (Prune x lo hi c ∷ steps) box y m h = cut_had box x.0 y lo hi m (steps_had steps (box_without box x.0 lo hi) y m h)
steps_had (Bound x lo hi ∷ steps) box y m h = cut_had box x.0 y lo hi m (steps_had steps (box_without box x.0 lo hi) y m h)

steps_raised : (steps : List Step) (box : Box) (y : ℕ) (m : ℤ) → has_value (values_left (after_steps steps box) y) m ≡ true → ((i : ℕ) (s : Step) → slice_get steps i ≡ Some s → (step_variable s).0 ≡ y → may_raise s m ≡ false) →
    least_value (values_left (after_steps steps box) y) ≡ least_value (values_left box y)
steps_raised [] box y m h f = refl
steps_raised (Prune x lo hi c ∷ steps) box y m h f =
    steps_raised steps (box_without box x.0 lo hi) y m h (λ i s p. f (suc i) s p)
    ∙ cut_raised box x.0 y lo hi m (steps_had steps (box_without box x.0 lo hi) y m h) (f 0 (Prune x lo hi c) refl)
steps_raised (Bound x lo hi ∷ steps) box y m h f =
    steps_raised steps (box_without box x.0 lo hi) y m h (λ i s p. f (suc i) s p)
    ∙ cut_raised box x.0 y lo hi m (steps_had steps (box_without box x.0 lo hi) y m h) (λ e. absurd (wrong (f 0 (Bound x lo hi) refl e)))

steps_lowered : (steps : List Step) (box : Box) (y : ℕ) (m : ℤ) → has_value (values_left (after_steps steps box) y) m ≡ true → ((i : ℕ) (s : Step) → slice_get steps i ≡ Some s → (step_variable s).0 ≡ y → may_lower s m ≡ false) →
    greatest_value (values_left (after_steps steps box) y) ≡ greatest_value (values_left box y)
steps_lowered [] box y m h f = refl
steps_lowered (Prune x lo hi c ∷ steps) box y m h f =
    steps_lowered steps (box_without box x.0 lo hi) y m h (λ i s p. f (suc i) s p)
    ∙ cut_lowered box x.0 y lo hi m (steps_had steps (box_without box x.0 lo hi) y m h) (f 0 (Prune x lo hi c) refl)
steps_lowered (Bound x lo hi ∷ steps) box y m h f =
    steps_lowered steps (box_without box x.0 lo hi) y m h (λ i s p. f (suc i) s p)
    ∙ cut_lowered box x.0 y lo hi m (steps_had steps (box_without box x.0 lo hi) y m h) (λ e. absurd (wrong (f 0 (Bound x lo hi) refl e)))

-- an item is one of the variables
item_among : (xs : List Arg) (i : ℕ) (y : VarId) → slice_get xs i ≡ Some (Var y) → among (flat_map arg_variables xs) y.0 ≡ true
item_among [] i y h = cc
item_among (a ∷ xs) zero y h =
    among_left (arg_variables a) (flat_map arg_variables xs) y.0 (ap (λ b. among (arg_variables b) y.0) (same_Some a (Var y) h) ∙ or_left (y.0 == y.0) false (same_number y.0))
item_among (a ∷ xs) (suc i) y h = among_right (arg_variables a) (flat_map arg_variables xs) y.0 (item_among xs i y h)

pub term_among : (args : List Argument) (k i : ℕ) (y : VarId) → slice_get (args_at args k) i ≡ Some (Var y) → among (variables_of args) y.0 ≡ true
term_among [] zero i y h = cc
term_among [] (suc k) i y h = cc
term_among (One a ∷ args) zero i y h = cc
term_among (Many xs ∷ args) zero i y h = among_left (flat_map arg_variables xs) (variables_of args) y.0 (item_among xs i y h)
term_among (Numbers ns ∷ args) zero i y h = cc
term_among (Members s ∷ args) zero i y h = cc
term_among (a ∷ args) (suc k) i y h = among_right (argument_variables a) (variables_of args) y.0 (term_among args k i y h)

still_least : (c : Rule) (t : Box) (z : Step) (i : ℕ) (n : ℤ) (y : VarId) → slice_get (ints_at c.args 0) i ≡ Some n → slice_get (args_at c.args 1) i ≡ Some (Var y) → int_lt (pos 0) n ≡ true → (step_variable z).0 ≡ y.0 → IsStill (moved_by z t) c (step_variable z).0 →
    may_raise z (least_value (values_left t y.0)) ≡ false
still_least c t z i n y p q r e s =
    elim s.1 [ inl h ↦ subst (λ k. may_raise z (least_value (values_left t k)) ≡ false) e h.1 | inr h ↦ absurd (clash (int_lt (pos 0) n) r (h.0 i n y p q (sym e))) ]

still_greatest : (c : Rule) (t : Box) (z : Step) (i : ℕ) (n : ℤ) (y : VarId) → slice_get (ints_at c.args 0) i ≡ Some n → slice_get (args_at c.args 1) i ≡ Some (Var y) → int_lt (pos 0) n ≡ false → (step_variable z).0 ≡ y.0 → IsStill (moved_by z t) c (step_variable z).0 →
    may_lower z (greatest_value (values_left t y.0)) ≡ false
still_greatest c t z i n y p q r e s =
    elim s.1 [ inl h ↦ absurd (clash (int_lt (pos 0) n) (h.0 i n y p q (sym e)) r) | inr h ↦ subst (λ k. may_lower z (greatest_value (values_left t k)) ≡ false) e h.1 ]

-- each step of a variable of the constraint leaves it still
abbrev pub AreStill : List Step → Box → Rule → Type 0
AreStill steps t c = (i : ℕ) (z : Step) → slice_get steps i ≡ Some z → among (variables_of c.args) (step_variable z).0 ≡ true → IsStill (moved_by z t) c (step_variable z).0

still_rests : (c : Rule) (steps : List Step) (s t : Box) → t ≡ after_steps steps s → length t ≡ length s → has_empty t ≡ false → AreStill steps t c → AreResting (ints_at c.args 0) (args_at c.args 1) t s
still_rests c steps s t e l f a i n y p q =
    let own = term_among c.args 1 i y q in
    record {
      least = λ r. elim (some_or_none t s y.0 l f) [
        | inl o ↦
            let m = least_value (values_left t y.0) in
            ap (λ b. least_value (values_left b y.0)) e
            ∙ steps_raised steps s y.0 m (ap (λ b. has_value (values_left b y.0) m) (sym e) ∙ has_least (values_left t y.0) o)
            (λ j z g k. still_least c t z i n y p q r k (a j z g (subst (λ v. among (variables_of c.args) v ≡ true) (sym k) own)))
        | inr o ↦ ap least_value (o.0 ∙ sym o.1)
      ];
      greatest = λ r. elim (some_or_none t s y.0 l f) [
        | inl o ↦
            let m = greatest_value (values_left t y.0) in
            ap (λ b. greatest_value (values_left b y.0)) e
            ∙ steps_lowered steps s y.0 m (ap (λ b. has_value (values_left b y.0) m) (sym e) ∙ has_greatest (values_left t y.0) o)
            (λ j z g k. still_greatest c t z i n y p q r k (a j z g (subst (λ v. among (variables_of c.args) v ≡ true) (sym k) own)))
        | inr o ↦ ap greatest_value (o.0 ∙ sym o.1)
      ];
    }

pub with_number : (a : Arg) (P : Type 0) → is_plain a ≡ true → ((m : ℤ) → a ≡ Num m → P) → P
with_number (Num m) P h f = f m refl
with_number (Var x) P h f = cc

-- a bounded sum that the steps leave still
pub still_keeps : (c : Rule) (steps : List Step) (s t : Box) → t ≡ after_steps steps s → length t ≡ length s → has_empty t ≡ false → IsBoundedSum c → AreStill steps t c → keeps_ends s c ≡ true → keeps_ends t c ≡ true
still_keeps c steps s t e l f b a h =
    with_number (arg_at c.args 2) (keeps_ends t c ≡ true) b.1
    (λ m q. sum_keeps c m t s b.0 q (between_ends t s l f (λ y v k. steps_had steps s y v (ap (λ d. has_value (values_left d y) v) (sym e) ∙ k))) (still_rests c steps s t e l f a) h)
