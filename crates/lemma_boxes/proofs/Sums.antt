-- Sums of terms: what is known of them holds, and so does what it shows of linear constraints.
use Rattle.std.proofs.Common.{◌≡◌, inl, ℕ, zero, suc, ◌≤◌, Bool, true, false, not, ◌&&◌, List, [], ◌∷◌, ◌++◌, length, map, refl, sym, ap, ◌∙◌, subst, arith, cond, Option, Some, None, slice_get}
use Rattle.std.specs.Prelude.{⊤, ℤ, pos, negsuc, ◌+ℤ◌, ◌*ℤ◌, ◌≤ℤ◌, int_lt, int_le, ◌==◌, pred}
use Rattle.std.specs.Ordering.{int_eq}
use Rattle.std.specs.Int.{int_min, int_max}
use Rattle.std.specs.List.{list_all}
use Rattle.std.proofs.lemmas.Int.{ints}
use Rattle.std.proofs.lemmas.Bool.Decides.{nat_tests, Decides-int_eq}
use Rattle.std.proofs.lemmas.Bool.{and_parts, true_from_ne_false}
use Rattle.qc_model.specs.declared.problem.Arg.{Arg}
use Rattle.qc_model.specs.declared.problem.Arg.TheVariants.{Var, Num}
use Rattle.qc_model.specs.declared.problem.Argument.{Argument}
use Rattle.qc_model.specs.declared.problem.Argument.TheVariants.{One, Many, Numbers}
use Rattle.qc_model.specs.Content.{Game, Rule}
use Rattle.qc_model.specs.Valid.{IsValid}
use Rattle.qc_model.specs.Lists.{Among, LiesIn}
use Rattle.qc_model.specs.Domains.{Box, is_single, is_within, least_value, greatest_value}
use Rattle.qc_model.specs.Game.{before}
use Rattle.qc_model.specs.Ranges.{Range, range_of, point, is_point, product, ranges_miss}
use Rattle.qc_model.specs.Arguments.{fill}
use Rattle.qc_model.specs.Meaning.{Meaning, at_most, below, plus, sum_equal, sum_at_most, meaning_of}
use Rattle.qc_model.specs.Holds.{arg_value, holds_as, holds_on, sum_of_products}
use Rattle.qc_model.specs.Left.{span}
use Rattle.qc_model.specs.Refuted.{left_to}
use Rattle.qc_model.specs.Visible.{ArgBelow, ArgsBelow, ArgumentsBelow}
use Rattle.qc_model.proofs.Sound.{InRange, in_span, add_in, apart, hi_of, lo_of}
use Rattle.model_table.proofs.Fits.{only_value}
use Rattle.model_table.proofs.Sums.{in_point, same_number}
use Rattle.model_table.proofs.Products.{times_in}
use Rattle.proof_meaning.proofs.FreeFront.{before_wider}
use Rattle.lemma_list.specs.declared.lemma.SumLiteral.{SumLiteral}
use Rattle.lemma_list.specs.Lemmas.{Lemma}
use Rattle.lemma_list.specs.Places.{place}
use Rattle.lemma_list.specs.Sums.{Linear, linear_as, linear_of, counts, terms_sum, terms_range, last_scope, sum_lies, linear_at, sum_holds, sums_hold, common, by_sum, sum_known, linear_refuted, linear_entailed, refuted_by_sums, entailed_by_sums, sum_shown}
use Rattle.lemma_boxes.proofs.Lists.{differ, lies_at, get_front, all_same}
use Rattle.lemma_boxes.proofs.Scopes.{wider_before, chosen_below}

pub arg_in : (w : List ℤ) (box : Box) (x : Arg) → ArgBelow (length w) x → LiesIn w box → Among (arg_value w x) (left_to box x)
arg_in w box (Var x) l h = lies_at w box x.0 h l
arg_in w box (Num n) l h = inl refl

cond_in : (b : Bool) (v : ℤ) (r : Range) → InRange v r → InRange (cond b v (pos 0)) (cond b r (point (pos 0)))
cond_in true v r h = h
cond_in false v r h = in_point (pos 0)

terms_in : (p : Arg → Bool) (ns : List ℤ) (xs : List Arg) (w : List ℤ) (box : Box) → ArgsBelow (length w) xs → LiesIn w box → InRange (terms_sum p ns xs w) (terms_range p ns xs box)
terms_in p [] xs w box l h = in_point (pos 0)
terms_in p (n ∷ ns) [] w box l h = in_point (pos 0)
terms_in p (n ∷ ns) (x ∷ xs) w box l h =
    add_in (cond (p x) (n *ℤ arg_value w x) (pos 0)) (terms_sum p ns xs w) (cond (p x) (product (point n) (span (left_to box x))) (point (pos 0))) (terms_range p ns xs box)
    (cond_in (p x) (n *ℤ arg_value w x) (product (point n) (span (left_to box x)))
    (times_in n (arg_value w x) (point n) (span (left_to box x)) (in_point n) (in_span (arg_value w x) (left_to box x) (arg_in w box x l.0 h))))
    (terms_in p ns xs w box l.1 h)

-- the terms of a part, and the others
term_split : (b c : Bool) (v : ℤ) → (c ≡ true → b ≡ true) → cond b v (pos 0) ≡ cond c v (pos 0) +ℤ cond (b && not c) v (pos 0)
term_split true true v f = omega (arith, ints)
term_split true false v f = omega (arith, ints)
term_split false true v f = absurd (differ (f refl))
term_split false false v f = refl

join_sums : (a b c s t u : ℤ) → a ≡ b +ℤ c → s ≡ t +ℤ u → a +ℤ s ≡ (b +ℤ t) +ℤ (c +ℤ u)
join_sums a b c s t u e f = omega (arith, ints)

terms_split : (p f : Arg → Bool) → ((x : Arg) → f x ≡ true → p x ≡ true) → (ns : List ℤ) (xs : List Arg) (w : List ℤ) → terms_sum p ns xs w ≡ terms_sum f ns xs w +ℤ terms_sum (λ x. p x && not (f x)) ns xs w
terms_split p f i [] xs w = refl
terms_split p f i (n ∷ ns) [] w = refl
terms_split p f i (n ∷ ns) (x ∷ xs) w =
    join_sums (cond (p x) (n *ℤ arg_value w x) (pos 0)) (cond (f x) (n *ℤ arg_value w x) (pos 0)) (cond (p x && not (f x)) (n *ℤ arg_value w x) (pos 0))
    (terms_sum p ns xs w) (terms_sum f ns xs w) (terms_sum (λ y. p y && not (f y)) ns xs w)
    (term_split (p x) (f x) (n *ℤ arg_value w x) (i x)) (terms_split p f i ns xs w)

terms_all : (p : Arg → Bool) → ((x : Arg) → p x ≡ true) → (ns : List ℤ) (xs : List Arg) (w : List ℤ) → sum_of_products ns (map (arg_value w) xs) ≡ terms_sum p ns xs w
terms_all p a [] xs w = refl
terms_all p a (n ∷ ns) [] w = refl
terms_all p a (n ∷ ns) (x ∷ xs) w =
    ap (λ s. (n *ℤ arg_value w x) +ℤ s) (terms_all p a ns xs w) ∙ ap (λ b. cond b (n *ℤ arg_value w x) (pos 0) +ℤ terms_sum p ns xs w) (sym (a x))

value_front : (a r : List ℤ) (x : Arg) → ArgBelow (length a) x → arg_value (a ++ r) x ≡ arg_value a x
value_front a r (Var x) l = get_front a r x.0 l
value_front a r (Num n) l = refl

terms_front : (p : Arg → Bool) (a r : List ℤ) → ((x : Arg) → p x ≡ true → ArgBelow (length a) x) → (ns : List ℤ) (xs : List Arg) → terms_sum p ns xs (a ++ r) ≡ terms_sum p ns xs a
terms_front p a r f [] xs = refl
terms_front p a r f (n ∷ ns) [] = refl
terms_front p a r f (n ∷ ns) (x ∷ xs) =
    ap (λ v. v +ℤ terms_sum p ns xs (a ++ r)) (by (p x) refl) ∙ ap (λ s. cond (p x) (n *ℤ arg_value a x) (pos 0) +ℤ s) (terms_front p a r f ns xs)
  where
    by : (b : Bool) → p x ≡ b → cond b (n *ℤ arg_value (a ++ r) x) (pos 0) ≡ cond b (n *ℤ arg_value a x) (pos 0)
    by true e = ap (λ v. n *ℤ v) (value_front a r x (f x e))
    by false e = refl

-- the form of a linear constraint
abbrev test : Bool → ℤ → ℤ → Bool
test e s b = cond e (int_eq s b) (int_le s b)

none_some : (l : Linear) → None ≡ Some l → ⊥
none_some l e = cc

some_same : (k l : Linear) → Some k ≡ Some l → k ≡ l
some_same k l e = cc

abbrev all_count : Arg → Bool
all_count x = true

-- the meaning holds of arguments where the sum of all terms passes the test; and the terms are arguments
record Means (m : Meaning) (args : List Argument) (l : Linear) : Type 0 where
  holds : (w : List ℤ) → holds_as m (map (fill (arg_value w)) args) ≡ test l.is_equal (terms_sum all_count l.factors l.items w) (arg_value w l.bound)
  items : (n : ℕ) → ArgumentsBelow n args → ArgsBelow n l.items
  bound : (n : ℕ) → ArgumentsBelow n args → ArgBelow n l.bound

same_test : (p q : Bool) → (p ≡ true → q ≡ true) → (q ≡ true → p ≡ true) → p ≡ q
same_test true q f h = sym (f refl)
same_test false true f h = h refl
same_test false false f h = refl

le_as_sum : (a b : ℤ) → int_le a b ≡ int_le ((pos 1 *ℤ a) +ℤ ((negsuc 0 *ℤ b) +ℤ pos 0)) (pos 0)
le_as_sum a b =
    same_test (int_le a b) (int_le ((pos 1 *ℤ a) +ℤ ((negsuc 0 *ℤ b) +ℤ pos 0)) (pos 0))
    (λ h. true_from_ne_false (int_le ((pos 1 *ℤ a) +ℤ ((negsuc 0 *ℤ b) +ℤ pos 0)) (pos 0)) (λ n. omega (arith, ints))) (λ h. true_from_ne_false (int_le a b) (λ n. omega (arith, ints)))

lt_as_sum : (a b : ℤ) → int_lt a b ≡ int_le ((pos 1 *ℤ a) +ℤ ((negsuc 0 *ℤ b) +ℤ pos 0)) (negsuc 0)
lt_as_sum a b =
    same_test (int_lt a b) (int_le ((pos 1 *ℤ a) +ℤ ((negsuc 0 *ℤ b) +ℤ pos 0)) (negsuc 0))
    (λ h. true_from_ne_false (int_le ((pos 1 *ℤ a) +ℤ ((negsuc 0 *ℤ b) +ℤ pos 0)) (negsuc 0)) (λ n. omega (arith, ints))) (λ h. true_from_ne_false (int_lt a b) (λ n. omega (arith, ints)))

plus_as_sum : (a b c : ℤ) → int_eq (a +ℤ b) c ≡ int_eq ((pos 1 *ℤ a) +ℤ ((pos 1 *ℤ b) +ℤ ((negsuc 0 *ℤ c) +ℤ pos 0))) (pos 0)
plus_as_sum a b c =
    same_test (int_eq (a +ℤ b) c) (int_eq ((pos 1 *ℤ a) +ℤ ((pos 1 *ℤ b) +ℤ ((negsuc 0 *ℤ c) +ℤ pos 0))) (pos 0))
    (λ h. let e = same_number (a +ℤ b) c h in (Decides-int_eq ((pos 1 *ℤ a) +ℤ ((pos 1 *ℤ b) +ℤ ((negsuc 0 *ℤ c) +ℤ pos 0))) (pos 0)).1 (there e))
    (λ h. let e = same_number ((pos 1 *ℤ a) +ℤ ((pos 1 *ℤ b) +ℤ ((negsuc 0 *ℤ c) +ℤ pos 0))) (pos 0) h in (Decides-int_eq (a +ℤ b) c).1 (back e))
  where
    there : a +ℤ b ≡ c → (pos 1 *ℤ a) +ℤ ((pos 1 *ℤ b) +ℤ ((negsuc 0 *ℤ c) +ℤ pos 0)) ≡ pos 0
    there e = omega (arith, ints)

    back : (pos 1 *ℤ a) +ℤ ((pos 1 *ℤ b) +ℤ ((negsuc 0 *ℤ c) +ℤ pos 0)) ≡ pos 0 → a +ℤ b ≡ c
    back e = omega (arith, ints)

means : (m : Meaning) (args : List Argument) (l : Linear) → linear_as m args ≡ Some l → Means m args l
means sum_equal (Numbers ns ∷ Many items ∷ One b ∷ []) l q =
    subst (Means sum_equal (Numbers ns ∷ Many items ∷ One b ∷ [])) (some_same (record { is_equal = true; factors = ns; items = items; bound = b }) l q)
    (record { holds = λ w. ap (λ t. int_eq t (arg_value w b)) (terms_all all_count (λ x. refl) ns items w); items = λ n h. h.1.0; bound = λ n h. h.1.1.0 })
means sum_at_most (Numbers ns ∷ Many items ∷ One b ∷ []) l q =
    subst (Means sum_at_most (Numbers ns ∷ Many items ∷ One b ∷ [])) (some_same (record { is_equal = false; factors = ns; items = items; bound = b }) l q)
    (record { holds = λ w. ap (λ t. int_le t (arg_value w b)) (terms_all all_count (λ x. refl) ns items w); items = λ n h. h.1.0; bound = λ n h. h.1.1.0 })
means at_most (One x ∷ One y ∷ []) l q =
    subst (Means at_most (One x ∷ One y ∷ [])) (some_same (record { is_equal = false; factors = pos 1 ∷ negsuc 0 ∷ []; items = x ∷ y ∷ []; bound = Num (pos 0) }) l q)
    (record { holds = λ w. le_as_sum (arg_value w x) (arg_value w y); items = λ n h. (h.0, (h.1.0, tt)); bound = λ n h. tt })
means below (One x ∷ One y ∷ []) l q =
    subst (Means below (One x ∷ One y ∷ [])) (some_same (record { is_equal = false; factors = pos 1 ∷ negsuc 0 ∷ []; items = x ∷ y ∷ []; bound = Num (negsuc 0) }) l q)
    (record { holds = λ w. lt_as_sum (arg_value w x) (arg_value w y); items = λ n h. (h.0, (h.1.0, tt)); bound = λ n h. tt })
means plus (One x ∷ One y ∷ One z ∷ []) l q =
    subst (Means plus (One x ∷ One y ∷ One z ∷ [])) (some_same (record { is_equal = true; factors = pos 1 ∷ pos 1 ∷ negsuc 0 ∷ []; items = x ∷ y ∷ z ∷ []; bound = Num (pos 0) }) l q)
    (record { holds = λ w. plus_as_sum (arg_value w x) (arg_value w y) (arg_value w z); items = λ n h. (h.0, (h.1.0, (h.1.1.0, tt))); bound = λ n h. tt })
means m args l q = absurd (none_some l q)

module _ (g : Game) (w : List ℤ) (c : Rule) (l : Linear) (is : linear_of c ≡ Some l) (below : ArgumentsBelow (length w) c.args) where
  total : ℤ
  total = terms_sum (counts g None) l.factors l.items w

  holds_is : holds_on c w ≡ test l.is_equal total (arg_value w l.bound)
  unfolding total
  holds_is = (means (meaning_of c.pred) c.args l is).holds w

  items_below : ArgsBelow (length w) l.items
  items_below = (means (meaning_of c.pred) c.args l is).items (length w) below

  bound_below : ArgBelow (length w) l.bound
  bound_below = (means (meaning_of c.pred) c.args l is).bound (length w) below

  module _ (box : Box) (inside : LiesIn w box) (r : Range) (known : InRange total r) where
    bound_in : Among (arg_value w l.bound) (left_to box l.bound)
    bound_in = arg_in w box l.bound bound_below inside

    linear_none : linear_refuted l r box ≡ true → holds_on c w ≡ true → ⊥
    linear_none e h = by l.is_equal e (sym holds_is ∙ h)
      where
        by : (q : Bool) → cond q (ranges_miss r (span (left_to box l.bound))) (int_lt (greatest_value (left_to box l.bound)) r.from) ≡ true → test q total (arg_value w l.bound) ≡ true → ⊥
        by true e t =
            apart (arg_value w l.bound) r (span (left_to box l.bound)) e (subst (λ n. InRange n r) (same_number total (arg_value w l.bound) t) known) (in_span (arg_value w l.bound) (left_to box l.bound) bound_in)
        by false e t =
            let high = hi_of (arg_value w l.bound) (left_to box l.bound) bound_in in
            omega (arith, ints, known.low)

    linear_holds : linear_entailed l r box ≡ true → holds_on c w ≡ true
    linear_holds e = holds_is ∙ by l.is_equal e
      where
        one_number : (m n : ℤ) (s : Range) → InRange m s → s.from ≡ n → s.to ≡ n → m ≡ n
        one_number m n s i e f = omega (arith, ints, i.low, i.high)

        by : (q : Bool) → cond q (is_single (left_to box l.bound) && is_point (least_value (left_to box l.bound)) r) (int_le r.to (least_value (left_to box l.bound))) ≡ true → test q total (arg_value w l.bound) ≡ true
        by true e =
            let p = and_parts (is_single (left_to box l.bound)) (is_point (least_value (left_to box l.bound)) r) e in
            let p2 = and_parts (int_eq r.from (least_value (left_to box l.bound))) (int_eq r.to (least_value (left_to box l.bound))) p.1 in
            let t = one_number total (least_value (left_to box l.bound)) r known (same_number r.from (least_value (left_to box l.bound)) p2.0) (same_number r.to (least_value (left_to box l.bound)) p2.1) in
            (Decides-int_eq total (arg_value w l.bound)).1 (t ∙ sym (only_value (arg_value w l.bound) (left_to box l.bound) p.0 bound_in))
        by false e =
            let low = lo_of (arg_value w l.bound) (left_to box l.bound) bound_in in
            true_from_ne_false (int_le total (arg_value w l.bound)) (λ n. omega (arith, ints, known.high))

-- what counts up to one scope counts up to a later one
abbrev Reaches : Option ℕ → ℕ → Type 0
Reaches None i = ⊤
Reaches (Some j) i = i ≤ j

covered : (g : Game) (t : Option ℕ) (i : ℕ) → Reaches t i → (x : Arg) → counts g (Some i) x ≡ true → counts g t x ≡ true
covered g None i l x c = refl
covered g (Some j) i l (Var x) c = wider_before g i j x.0 l c
covered g (Some j) i l (Num n) c = c

counted_below : (g : Game) → IsValid g → (i : ℕ) (a : List ℤ) → before g i ≤ length a → (x : Arg) → counts g (Some i) x ≡ true → ArgBelow (length a) x
counted_below g v i a l (Var x) e = let h = chosen_below g v i x.0 e in omega arith
counted_below g v i a l (Num n) e = absurd (differ e)

equal_of : (x y : ℕ) → (x == y) ≡ true → x ≡ y
equal_of x y e = grind (arith, nat_tests)

within_range : (low high v : ℤ) → is_within low high v ≡ true → InRange v (range_of low high)
within_range low high v e =
    let p = and_parts (int_le low v) (int_le v high) e in
    record { low = (let q = p.0 in omega (arith, ints)); high = (let q = p.1 in omega (arith, ints)) }

common_in : (v : ℤ) (r s : Range) → InRange v r → InRange v s → InRange v (common r s)
common_in v r s h k = record { low = max_low r.from s.from v h.low k.low; high = min_high r.to s.to v h.high k.high }
  where
    max_low : (a b v : ℤ) → a ≤ℤ v → b ≤ℤ v → int_max a b ≤ℤ v
    max_low a b v h k = grind (arith, ints)

    min_high : (a b v : ℤ) → v ≤ℤ a → v ≤ℤ b → v ≤ℤ int_min a b
    min_high a b v h k = grind (arith, ints)

module _ (g : Game) (w : List ℤ) (box : Box) (inside : LiesIn w box) (i : ℕ) where
  lies_some : (z : SumLiteral) (x : Option Linear) (l : Linear) → x ≡ Some l → sum_lies g i z x w ≡ true → is_within z.lo z.hi (terms_sum (counts g (Some i)) l.factors l.items w) ≡ true
  lies_some z x l q e = subst (λ y. sum_lies g i z y w ≡ true) q e

  by_sum_in : (t : Option ℕ) (l : Linear) (z : SumLiteral) → Reaches t i → ArgsBelow (length w) l.items → is_within z.lo z.hi (terms_sum (counts g (Some i)) l.factors l.items w) ≡ true →
      InRange (terms_sum (counts g t) l.factors l.items w) (by_sum g i t l box z)
  by_sum_in t l z c b e =
      subst (λ s. InRange s (by_sum g i t l box z)) (sym (terms_split (counts g t) (counts g (Some i)) (covered g t i c) l.factors l.items w))
      (add_in (terms_sum (counts g (Some i)) l.factors l.items w) (terms_sum (λ x. counts g t x && not (counts g (Some i) x)) l.factors l.items w) (range_of z.lo z.hi) (terms_range (λ x. counts g t x && not (counts g (Some i) x)) l.factors l.items box)
      (within_range z.lo z.hi (terms_sum (counts g (Some i)) l.factors l.items w) e)
      (terms_in (λ x. counts g t x && not (counts g (Some i) x)) l.factors l.items w box b inside))

  known_in : (sums : List SumLiteral) (k : ℕ) (t : Option ℕ) (l : Linear) → Reaches t i → linear_at (slice_get g.constraints k) ≡ Some l → ArgsBelow (length w) l.items → list_all (λ z. sum_holds g i z w) sums ≡ true →
      InRange (terms_sum (counts g t) l.factors l.items w) (sum_known g i sums k t l box)
  known_in [] k t l r q b e = terms_in (counts g t) l.factors l.items w box b inside
  known_in (z ∷ sums) k t l r q b e =
      let p = and_parts (sum_holds g i z w) (list_all (λ y. sum_holds g i y w) sums) e in
      by p.0 (known_in sums k t l r q b p.1) (z.c.0 == k) refl
    where
      by : sum_holds g i z w ≡ true → InRange (terms_sum (counts g t) l.factors l.items w) (sum_known g i sums k t l box) → (c : Bool) → (z.c.0 == k) ≡ c →
          InRange (terms_sum (counts g t) l.factors l.items w) (cond c (common (by_sum g i t l box z) (sum_known g i sums k t l box)) (sum_known g i sums k t l box))
      by h known true c =
          let same : linear_at (slice_get g.constraints z.c.0) ≡ Some l = ap (λ j. linear_at (slice_get g.constraints j)) (equal_of z.c.0 k c) ∙ q in
          common_in (terms_sum (counts g t) l.factors l.items w) (by_sum g i t l box z) (sum_known g i sums k t l box)
          (by_sum_in t l z r b (lies_some z (linear_at (slice_get g.constraints z.c.0)) l same h)) known
      by h known false c = known

-- a sum literal speaks of the front alone
sum_front : (g : Game) → IsValid g → (i : ℕ) (z : SumLiteral) (x : Option Linear) (a r : List ℤ) → before g i ≤ length a → sum_lies g i z x (a ++ r) ≡ sum_lies g i z x a
sum_front g v i z None a r l = refl
sum_front g v i z (Some x) a r l = ap (is_within z.lo z.hi) (terms_front (counts g (Some i)) a r (counted_below g v i a l) x.factors x.items)

pub sums_front : (g : Game) → IsValid g → (m : Lemma) (a r : List ℤ) → length a ≡ before g (place g m) → sums_hold g m (a ++ r) ≡ sums_hold g m a
sums_front g v m a r e =
    all_same (λ z. sum_holds g (last_scope g m) z (a ++ r)) (λ z. sum_holds g (last_scope g m) z a) m.sums
    (λ z i. sum_front g v (last_scope g m) z (linear_at (slice_get g.constraints z.c.0)) a r (let up = before_wider g (pred (place g m)) (place g m) (pred_most (place g m)) in omega arith))
  where
    pred_most : (n : ℕ) → pred n ≤ n
    pred_most zero = omega arith
    pred_most (suc n) = omega arith

pred_wider : (m n : ℕ) → m ≤ n → pred m ≤ pred n
pred_wider zero n l = omega arith
pred_wider (suc m) zero l = absurd (omega arith)
pred_wider (suc m) (suc n) l = omega arith

-- a linear constraint that is refuted or kept by a lemma's sums
module _ (g : Game) (w : List ℤ) (box : Box) (inside : LiesIn w box) (m : Lemma) (hold : sums_hold g m w ≡ true) (k : ℕ) (c : Rule) (at : slice_get g.constraints k ≡ Some c) (below : ArgumentsBelow (length w) c.args) where
  pub sums_refute : (x : Option Linear) → linear_of c ≡ x → refuted_by_sums g m k x box ≡ true → holds_on c w ≡ true → ⊥
  unfolding total
  sums_refute None q e h = differ e
  sums_refute (Some l) q e h =
      linear_none g w c l q below box inside (sum_known g (last_scope g m) m.sums k None l box)
      (known_in g w box inside (last_scope g m) m.sums k None l tt (ap linear_at at ∙ q) (items_below g w c l q below) hold) e h

  pub sums_keep : (x : Option Linear) → linear_of c ≡ x → entailed_by_sums g m k x box ≡ true → holds_on c w ≡ true
  unfolding total
  sums_keep None q e = absurd (differ e)
  sums_keep (Some l) q e =
      linear_holds g w c l q below box inside (sum_known g (last_scope g m) m.sums k None l box)
      (known_in g w box inside (last_scope g m) m.sums k None l tt (ap linear_at at ∙ q) (items_below g w c l q below) hold) e

  -- a sum of a lemma whose position is as late
  pub sum_is_shown : (n : Lemma) → place g m ≤ place g n → (z : SumLiteral) → z.c.0 ≡ k → (x : Option Linear) → linear_of c ≡ x → sum_shown g m (last_scope g n) box z x ≡ true → sum_lies g (last_scope g n) z x w ≡ true
  sum_is_shown n late z s None q e = e
  sum_is_shown n late z s (Some l) q e =
      let t = last_scope g n in
      let p = and_parts (int_le z.lo (sum_known g (last_scope g m) m.sums z.c.0 (Some t) l box).from) (int_le (sum_known g (last_scope g m) m.sums z.c.0 (Some t) l box).to z.hi) e in
      let i = known_in g w box inside (last_scope g m) m.sums z.c.0 (Some t) l (pred_wider (place g m) (place g n) late) (ap (λ j. linear_at (slice_get g.constraints j)) s ∙ (ap linear_at at ∙ q)) (items_below g w c l q below) hold in
      and_of (int_le z.lo (terms_sum (counts g (Some t)) l.factors l.items w)) (int_le (terms_sum (counts g (Some t)) l.factors l.items w) z.hi)
      (true_from_ne_false (int_le z.lo (terms_sum (counts g (Some t)) l.factors l.items w)) (λ n. (let a = p.0 in omega (arith, ints, i.low))))
      (true_from_ne_false (int_le (terms_sum (counts g (Some t)) l.factors l.items w) z.hi) (λ n. (let a = p.1 in omega (arith, ints, i.high))))
    where
      and_of : (a b : Bool) → a ≡ true → b ≡ true → (a && b) ≡ true
      and_of true b e f = f
      and_of false b e f = e
