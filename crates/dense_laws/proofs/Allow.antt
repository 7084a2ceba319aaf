-- At nodes that are alike the same is allowed, constraint by constraint.
use Rattle.std.proofs.Common.{◌≡◌, ◌⊎◌, inl, inr, ℕ, zero, suc, ◌==◌, Bool, true, false, not, ◌||◌, List, [], ◌∷◌, ◌++◌, map, drop, refl, sym, ap, ◌∙◌, arith, ℤ, pos, Some}
use Rattle.std.specs.Prelude.{slice_get, slice_index_or, flat_map, ◌+ℤ◌, ◌-ℤ◌, ◌*ℤ◌}
use Rattle.std.specs.Ordering.{int_eq}
use Rattle.std.specs.Prelude.{int_le, ⊤}
use Rattle.std.proofs.lemmas.Int.{ints}
use Rattle.std.proofs.lemmas.Bool.Decides.{nat_tests}
use Rattle.std.proofs.lemmas.Bool.{or_left, or_right}
use Rattle.qc_model.specs.declared.problem.Arg.{Arg}
use Rattle.qc_model.specs.declared.problem.Arg.TheVariants.{Var, Num}
use Rattle.qc_model.specs.declared.problem.Argument.{Argument}
use Rattle.qc_model.specs.declared.problem.Argument.TheVariants.{One, Many, Numbers, Members}
use Rattle.qc_model.specs.Arguments.{arg_variables, argument_variables, variables_of, many, numbers, fill}
use Rattle.qc_model.specs.Content.{Rule}
use Rattle.qc_model.specs.Holds.{arg_value, sum_of_products, values_at, value_at, holds_as, holds_on}
use Rattle.qc_model.specs.Meaning.{Meaning, sum_equal, sum_different, sum_at_most, plus, meaning_of}
use Rattle.model_arguments.specs.Written.{arg_at}
use Rattle.model_arguments.proofs.Written.{one_fill}
use Rattle.proof_alike.specs.Alike.{is_among}
use Rattle.proof_alike.specs.Reading.{as_sum, as_plus, reading_of, known_sum, known_plus}
use Rattle.proof_alike.proofs.Arrays.{items_of, numbers_of, many_filled, numbers_same, third_same}
use Rattle.proof_alike.proofs.Filling.{fill_all}
use Rattle.dense_laws.proofs.Small.{any_left}

to_same : (n : ℕ) → (n == n) ≡ true
to_same n = grind (arith, nat_tests)

among_first : (xs ys : List ℕ) (x : ℕ) → is_among xs x ≡ true → is_among (xs ++ ys) x ≡ true
among_first xs ys x h = any_left (λ y. y == x) xs ys ∙ or_left (is_among xs x) (is_among ys x) h

pub among_second : (xs ys : List ℕ) (x : ℕ) → is_among ys x ≡ true → is_among (xs ++ ys) x ≡ true
among_second xs ys x h = any_left (λ y. y == x) xs ys ∙ or_right (is_among xs x) (is_among ys x) h

-- what is so of each variable is so of each argument
abbrev pub OfArg : (ℕ → Type 0) → Arg → Type 0
OfArg P (Var x) = P x.0
OfArg P (Num n) = ⊤

abbrev pub OfArgs : (ℕ → Type 0) → List Arg → Type 0
OfArgs P [] = ⊤
OfArgs P (x ∷ xs) = OfArg P x × OfArgs P xs

args_of : (P : ℕ → Type 0) (xs : List Arg) → ((x : ℕ) → is_among (flat_map arg_variables xs) x ≡ true → P x) → OfArgs P xs
args_of P [] f = tt
args_of P (x ∷ xs) f = (one x (λ y m. f y (among_first (arg_variables x) (flat_map arg_variables xs) y m)), args_of P xs (λ y m. f y (among_second (arg_variables x) (flat_map arg_variables xs) y m)))
  where
    one : (x : Arg) → ((y : ℕ) → is_among (arg_variables x) y ≡ true → P y) → OfArg P x
    one (Var z) g = g z.0 (or_left (z.0 == z.0) false (to_same z.0))
    one (Num n) g = tt

pub items_are : (P : ℕ → Type 0) (args : List Argument) (k : ℕ) → ((x : ℕ) → is_among (variables_of args) x ≡ true → P x) → OfArgs P (items_of (slice_get args k))
items_are P [] k f = tt
items_are P (a ∷ args) zero f = one a (λ y m. f y (among_first (argument_variables a) (variables_of args) y m))
  where
    one : (a : Argument) → ((y : ℕ) → is_among (argument_variables a) y ≡ true → P y) → OfArgs P (items_of (Some a))
    one (One x) g = tt
    one (Many xs) g = args_of P xs g
    one (Numbers ns) g = tt
    one (Members s) g = tt
items_are P (a ∷ args) (suc k) f = items_are P args k (λ y m. f y (among_second (argument_variables a) (variables_of args) y m))

-- so it is of the argument at a place, or of 0 where there is none
argument_is : (P : ℕ → Type 0) (args : List Argument) (k : ℕ) → ((x : ℕ) → is_among (variables_of args) x ≡ true → P x) → OfArg P (arg_at args k)
argument_is P [] k f = tt
argument_is P (a ∷ args) zero f = one a (λ y m. f y (among_first (argument_variables a) (variables_of args) y m))
  where
    single : (x : Arg) → ((y : ℕ) → is_among (arg_variables x) y ≡ true → P y) → OfArg P x
    single (Var z) g = g z.0 (or_left (z.0 == z.0) false (to_same z.0))
    single (Num n) g = tt

    one : (a : Argument) → ((y : ℕ) → is_among (argument_variables a) y ≡ true → P y) → OfArg P (arg_at (a ∷ args) 0)
    one (One x) g = single x g
    one (Many xs) g = tt
    one (Numbers ns) g = tt
    one (Members s) g = tt
argument_is P (a ∷ args) (suc k) f = argument_is P args k (λ y m. f y (among_second (argument_variables a) (variables_of args) y m))

-- a value changes from v to w as from s to t: not at all, or by what is known
abbrev pub Changes : List ℤ → List ℤ → List ℤ → List ℤ → ℕ → Type 0
Changes v w s t x =
    ((slice_index_or v x (pos 0) ≡ slice_index_or w x (pos 0)) × (slice_index_or s x (pos 0) ≡ slice_index_or t x (pos 0)))
    ⊎ ((slice_index_or v x (pos 0) ≡ slice_index_or s x (pos 0)) × (slice_index_or w x (pos 0) ≡ slice_index_or t x (pos 0)))

sum_shifted : (a b z p q n d e f g h i : ℤ) → (a +ℤ g) ≡ (p +ℤ d) → (b +ℤ h) ≡ (q +ℤ e) → (z +ℤ i) ≡ (n +ℤ f) → ((d +ℤ e) -ℤ f) ≡ ((g +ℤ h) -ℤ i) → ((a +ℤ b) +ℤ n) ≡ ((p +ℤ q) +ℤ z)
sum_shifted a b z p q n d e f g h i x y u o = omega (arith, ints)

equal_shifted : (p q m n : ℤ) → (p +ℤ n) ≡ (q +ℤ m) → int_eq p m ≡ int_eq q n
equal_shifted p q m n h = grind (arith, ints)

equal : (a b z p q n d e f g h i : ℤ) → (a +ℤ g) ≡ (p +ℤ d) → (b +ℤ h) ≡ (q +ℤ e) → (z +ℤ i) ≡ (n +ℤ f) → ((d +ℤ e) -ℤ f) ≡ ((g +ℤ h) -ℤ i) → int_eq (a +ℤ b) z ≡ int_eq (p +ℤ q) n
equal a b z p q n d e f g h i x y u o = equal_shifted (a +ℤ b) (p +ℤ q) z n (sum_shifted a b z p q n d e f g h i x y u o)

module _ (v w s t : List ℤ) where
  term : (n : ℤ) (x : Arg) → OfArg (Changes v w s t) x → ((n *ℤ arg_value v x) +ℤ (n *ℤ arg_value t x)) ≡ ((n *ℤ arg_value w x) +ℤ (n *ℤ arg_value s x))
  term n (Num m) h = refl
  term n (Var x) (inl h) = ap (λ z. (n *ℤ z) +ℤ (n *ℤ slice_index_or t x.0 (pos 0))) h.0 ∙ ap (λ z. (n *ℤ slice_index_or w x.0 (pos 0)) +ℤ (n *ℤ z)) (sym h.1)
  term n (Var x) (inr h) =
      ap (λ z. (n *ℤ z) +ℤ (n *ℤ slice_index_or t x.0 (pos 0))) h.0 ∙ swapped (n *ℤ slice_index_or s x.0 (pos 0)) (n *ℤ slice_index_or t x.0 (pos 0)) ∙ ap (λ z. (n *ℤ z) +ℤ (n *ℤ slice_index_or s x.0 (pos 0))) (sym h.1)
    where
      swapped : (p q : ℤ) → (p +ℤ q) ≡ (q +ℤ p)
      swapped p q = omega (arith, ints)

  terms : (ns : List ℤ) (xs : List Arg) → OfArgs (Changes v w s t) xs →
      (sum_of_products ns (map (arg_value v) xs) +ℤ sum_of_products ns (map (arg_value t) xs)) ≡ (sum_of_products ns (map (arg_value w) xs) +ℤ sum_of_products ns (map (arg_value s) xs))
  terms [] xs h = refl
  terms (n ∷ ns) [] h = refl
  terms (n ∷ ns) (x ∷ xs) h =
      sums (n *ℤ arg_value v x) (n *ℤ arg_value t x) (n *ℤ arg_value w x) (n *ℤ arg_value s x) (sum_of_products ns (map (arg_value v) xs)) (sum_of_products ns (map (arg_value t) xs)) (sum_of_products ns (map (arg_value w) xs)) (sum_of_products ns (map (arg_value s) xs))
      (term n x h.0) (terms ns xs h.1)
    where
      sums : (a b c d p q r o : ℤ) → (a +ℤ b) ≡ (c +ℤ d) → (p +ℤ q) ≡ (r +ℤ o) → ((a +ℤ p) +ℤ (b +ℤ q)) ≡ ((c +ℤ r) +ℤ (d +ℤ o))
      sums a b c d p q r o h k = omega (arith, ints)

  -- sums with the same known part
  pub sum_same : (c : Rule) → ((x : ℕ) → is_among (variables_of c.args) x ≡ true → Changes v w s t x) → ((x : ℕ) → is_among (variables_of (drop 2 c.args)) x ≡ true → slice_index_or v x (pos 0) ≡ slice_index_or w x (pos 0)) →
      known_sum s c ≡ known_sum t c → reading_of (meaning_of c.pred) ≡ as_sum → holds_on c v ≡ holds_on c w
  sum_same c change third known r = by (meaning_of c.pred) r
    where
      left : (f : Arg → ℤ) → sum_of_products (numbers (map (fill f) c.args) 0) (values_at (map (fill f) c.args) 1) ≡ sum_of_products (numbers_of (slice_get c.args 0)) (map f (items_of (slice_get c.args 1)))
      left f = ap (λ ns. sum_of_products ns (many (map (fill f) c.args) 1)) (numbers_same f c.args 0) ∙ ap (λ xs. sum_of_products (numbers_of (slice_get c.args 0)) xs) (many_filled f c.args 1)

      cancelled : (p q u o : ℤ) → (p +ℤ o) ≡ (q +ℤ u) → u ≡ o → p ≡ q
      cancelled p q u o h e = omega (arith, ints)

      sums : sum_of_products (numbers (map (fill (arg_value v)) c.args) 0) (values_at (map (fill (arg_value v)) c.args) 1) ≡ sum_of_products (numbers (map (fill (arg_value w)) c.args) 0) (values_at (map (fill (arg_value w)) c.args) 1)
      sums =
          left (arg_value v)
          ∙ cancelled (sum_of_products (numbers_of (slice_get c.args 0)) (map (arg_value v) (items_of (slice_get c.args 1)))) (sum_of_products (numbers_of (slice_get c.args 0)) (map (arg_value w) (items_of (slice_get c.args 1))))
          (sum_of_products (numbers_of (slice_get c.args 0)) (map (arg_value s) (items_of (slice_get c.args 1)))) (sum_of_products (numbers_of (slice_get c.args 0)) (map (arg_value t) (items_of (slice_get c.args 1))))
          (terms (numbers_of (slice_get c.args 0)) (items_of (slice_get c.args 1)) (items_are (Changes v w s t) c.args 1 change))
          (sym (left (arg_value s)) ∙ (known ∙ left (arg_value t)))
          ∙ sym (left (arg_value w))

      bound : value_at (map (fill (arg_value v)) c.args) 2 ≡ value_at (map (fill (arg_value w)) c.args) 2
      bound = third_same (pos 0) (arg_value v) (arg_value w) c.args (record { number = λ n. refl; variable = λ x m. third x.0 m })

      by : (m : Meaning) → reading_of m ≡ as_sum → holds_as m (map (fill (arg_value v)) c.args) ≡ holds_as m (map (fill (arg_value w)) c.args)
      by sum_equal e = ap (λ z. int_eq z (value_at (map (fill (arg_value v)) c.args) 2)) sums ∙ ap (λ z. int_eq (sum_of_products (numbers (map (fill (arg_value w)) c.args) 0) (values_at (map (fill (arg_value w)) c.args) 1)) z) bound
      by sum_different e = ap not (ap (λ z. int_eq z (value_at (map (fill (arg_value v)) c.args) 2)) sums ∙ ap (λ z. int_eq (sum_of_products (numbers (map (fill (arg_value w)) c.args) 0) (values_at (map (fill (arg_value w)) c.args) 1)) z) bound)
      by sum_at_most e = ap (λ z. int_le z (value_at (map (fill (arg_value v)) c.args) 2)) sums ∙ ap (λ z. int_le (sum_of_products (numbers (map (fill (arg_value w)) c.args) 0) (values_at (map (fill (arg_value w)) c.args) 1)) z) bound
      by m e = cc

  -- a and b together are to what they were as c is to what it was
  shifted : (x : Arg) → OfArg (Changes v w s t) x → (arg_value v x +ℤ arg_value t x) ≡ (arg_value w x +ℤ arg_value s x)
  shifted (Num m) h = refl
  shifted (Var x) (inl h) = ap (λ z. z +ℤ slice_index_or t x.0 (pos 0)) h.0 ∙ ap (λ z. slice_index_or w x.0 (pos 0) +ℤ z) (sym h.1)
  shifted (Var x) (inr h) =
      ap (λ z. z +ℤ slice_index_or t x.0 (pos 0)) h.0 ∙ swapped (slice_index_or s x.0 (pos 0)) (slice_index_or t x.0 (pos 0)) ∙ ap (λ z. z +ℤ slice_index_or s x.0 (pos 0)) (sym h.1)
    where
      swapped : (p q : ℤ) → (p +ℤ q) ≡ (q +ℤ p)
      swapped p q = omega (arith, ints)

  -- a + b = c with the same known part
  pub plus_same : (c : Rule) → ((x : ℕ) → is_among (variables_of c.args) x ≡ true → Changes v w s t x) → known_plus s c ≡ known_plus t c → reading_of (meaning_of c.pred) ≡ as_plus → holds_on c v ≡ holds_on c w
  plus_same c change known r = by (meaning_of c.pred) r
    where
      over_is : (vs : List ℤ) → known_plus vs c ≡ ((arg_value vs (arg_at c.args 0) +ℤ arg_value vs (arg_at c.args 1)) -ℤ arg_value vs (arg_at c.args 2))
      over_is vs =
          let at = one_fill (arg_value vs) c.args in
          ap (λ z. (z +ℤ value_at (map (fill (arg_value vs)) c.args) 1) -ℤ value_at (map (fill (arg_value vs)) c.args) 2) (at 0)
          ∙ ap (λ z. (arg_value vs (arg_at c.args 0) +ℤ z) -ℤ value_at (map (fill (arg_value vs)) c.args) 2) (at 1)
          ∙ ap (λ z. (arg_value vs (arg_at c.args 0) +ℤ arg_value vs (arg_at c.args 1)) -ℤ z) (at 2)

      holds_is : (vs : List ℤ) → holds_as plus (map (fill (arg_value vs)) c.args) ≡ int_eq (arg_value vs (arg_at c.args 0) +ℤ arg_value vs (arg_at c.args 1)) (arg_value vs (arg_at c.args 2))
      holds_is vs =
          let at = one_fill (arg_value vs) c.args in
          ap (λ z. int_eq (z +ℤ value_at (map (fill (arg_value vs)) c.args) 1) (value_at (map (fill (arg_value vs)) c.args) 2)) (at 0)
          ∙ ap (λ z. int_eq (arg_value vs (arg_at c.args 0) +ℤ z) (value_at (map (fill (arg_value vs)) c.args) 2)) (at 1)
          ∙ ap (λ z. int_eq (arg_value vs (arg_at c.args 0) +ℤ arg_value vs (arg_at c.args 1)) z) (at 2)

      at : (k : ℕ) → (arg_value v (arg_at c.args k) +ℤ arg_value t (arg_at c.args k)) ≡ (arg_value w (arg_at c.args k) +ℤ arg_value s (arg_at c.args k))
      at k = shifted (arg_at c.args k) (argument_is (Changes v w s t) c.args k change)

      by : (m : Meaning) → reading_of m ≡ as_plus → holds_as m (map (fill (arg_value v)) c.args) ≡ holds_as m (map (fill (arg_value w)) c.args)
      by plus e =
          let f = λ (vs : List ℤ) (k : ℕ). arg_value vs (arg_at c.args k) in
          holds_is v ∙ (equal (f v 0) (f v 1) (f v 2) (f w 0) (f w 1) (f w 2) (f s 0) (f s 1) (f s 2) (f t 0) (f t 1) (f t 2) (at 0) (at 1) (at 2) (sym (over_is s) ∙ (known ∙ over_is t)) ∙ sym (holds_is w))
      by m e = cc

-- the same values of all its variables
pub values_hold : (c : Rule) (v w : List ℤ) → ((x : ℕ) → is_among (variables_of c.args) x ≡ true → slice_index_or v x (pos 0) ≡ slice_index_or w x (pos 0)) → holds_on c v ≡ holds_on c w
values_hold c v w f = ap (holds_as (meaning_of c.pred)) (fill_all (arg_value v) (arg_value w) c.args (record { number = λ n. refl; variable = λ x m. f x.0 m }))
