-- Sums of the first terms of a linear constraint, and what is known of them.
use Rattle.std.specs.Prelude.{ℕ, pred, ◌==◌, Bool, true, false, not, cond, ◌&&◌, ◌||◌, List, [], ◌∷◌, slice_get, Option, Some, None, ℤ, pos, negsuc, ◌+ℤ◌, ◌*ℤ◌, int_lt, int_le, is_some}
use Rattle.std.specs.List.{list_all}
use Rattle.std.specs.Int.{int_min, int_max}
use Rattle.qc_model.specs.declared.problem.Arg.{Arg}
use Rattle.qc_model.specs.declared.problem.Arg.TheVariants.{Var, Num}
use Rattle.qc_model.specs.declared.problem.Argument.{Argument}
use Rattle.qc_model.specs.declared.problem.Argument.TheVariants.{One, Many, Numbers}
use Rattle.qc_model.specs.Content.{Game, Rule}
use Rattle.qc_model.specs.Domains.{Box, is_single, is_within, least_value, greatest_value}
use Rattle.qc_model.specs.Ranges.{Range, range_of, point, is_point, range_sum, product, ranges_miss}
use Rattle.qc_model.specs.Meaning.{Meaning, at_most, below, plus, sum_equal, sum_at_most, meaning_of}
use Rattle.qc_model.specs.Holds.{arg_value}
use Rattle.qc_model.specs.Left.{span}
use Rattle.qc_model.specs.Refuted.{refuted_by, left_to}
use Rattle.lemma_list.specs.declared.lemma.SumLiteral.{SumLiteral}
use Rattle.lemma_list.specs.Lemmas.{Lemma}
use Rattle.lemma_list.specs.Places.{is_chosen_before, place}
use Rattle.lemma_list.specs.Entailment.{entailed_by}

-- the sum of the items, each times its factor, equals the bound, or is at most that
pub record Linear : Type 0 where
  pub is_equal : Bool
  pub factors : List ℤ
  pub items : List Arg
  pub bound : Arg

abbrev pub linear : Bool → List ℤ → List Arg → Arg → Option Linear
linear e ns items b = Some (record { is_equal = e; factors = ns; items = items; bound = b })

-- sums with factors, and x ≤ y, x < y and x + y = z, as differences that are at most 0 or -1, or equal 0
abbrev pub linear_as : Meaning → List Argument → Option Linear
linear_as sum_equal (Numbers ns ∷ Many items ∷ One b ∷ []) = linear true ns items b
linear_as sum_at_most (Numbers ns ∷ Many items ∷ One b ∷ []) = linear false ns items b
linear_as at_most (One x ∷ One y ∷ []) = linear false (pos 1 ∷ negsuc 0 ∷ []) (x ∷ y ∷ []) (Num (pos 0))
linear_as below (One x ∷ One y ∷ []) = linear false (pos 1 ∷ negsuc 0 ∷ []) (x ∷ y ∷ []) (Num (negsuc 0))
linear_as plus (One x ∷ One y ∷ One z ∷ []) = linear true (pos 1 ∷ pos 1 ∷ negsuc 0 ∷ []) (x ∷ y ∷ z ∷ []) (Num (pos 0))
linear_as m args = None

abbrev pub linear_of : Rule → Option Linear
linear_of c = linear_as (meaning_of c.pred) c.args

abbrev pub linear_at : Option Rule → Option Linear
linear_at None = None
linear_at (Some c) = linear_of c

-- the items that count: all, or the variables of scopes before one
abbrev pub counts : Game → Option ℕ → Arg → Bool
counts g None x = true
counts g (Some i) (Var x) = is_chosen_before g i x.0
counts g (Some i) (Num n) = false

-- the sum of the terms that count, and its range in a box
abbrev pub terms_sum : (Arg → Bool) → List ℤ → List Arg → List ℤ → ℤ
terms_sum p [] xs w = pos 0
terms_sum p (n ∷ ns) [] w = pos 0
terms_sum p (n ∷ ns) (x ∷ xs) w = cond (p x) (n *ℤ arg_value w x) (pos 0) +ℤ terms_sum p ns xs w

abbrev pub terms_range : (Arg → Bool) → List ℤ → List Arg → Box → Range
terms_range p [] xs box = point (pos 0)
terms_range p (n ∷ ns) [] box = point (pos 0)
terms_range p (n ∷ ns) (x ∷ xs) box = range_sum (cond (p x) (product (point n) (span (left_to box x))) (point (pos 0))) (terms_range p ns xs box)

-- a lemma's sums are of variables before the last scope that it speaks of, the one before its position
abbrev pub last_scope : Game → Lemma → ℕ
last_scope g m = pred (place g m)

-- the sum of the variables of scopes before i lies from low to high
abbrev pub sum_lies : Game → ℕ → SumLiteral → Option Linear → List ℤ → Bool
sum_lies g i z None a = false
sum_lies g i z (Some l) a = is_within z.lo z.hi (terms_sum (counts g (Some i)) l.factors l.items a)

abbrev pub sum_holds : Game → ℕ → SumLiteral → List ℤ → Bool
sum_holds g i z a = sum_lies g i z (linear_at (slice_get g.constraints z.c.0)) a

abbrev pub sums_hold : Game → Lemma → List ℤ → Bool
sums_hold g m a = list_all (λ z. sum_holds g (last_scope g m) z a) m.sums

-- each is of a linear constraint
abbrev pub are_linear : Game → List SumLiteral → Bool
are_linear g sums = list_all (λ z. is_some (linear_at (slice_get g.constraints z.c.0))) sums

-- what is known of the sum of the terms that count: by the box, and by each given sum of variables of scopes before i
-- with the range of the terms beyond it
abbrev pub common : Range → Range → Range
common r s = range_of (int_max r.from s.from) (int_min r.to s.to)

abbrev pub by_sum : Game → ℕ → Option ℕ → Linear → Box → SumLiteral → Range
by_sum g i t l box z =
    range_sum (range_of z.lo z.hi) (terms_range (λ x. counts g t x && not (counts g (Some i) x)) l.factors l.items box)

abbrev pub sum_known : Game → ℕ → List SumLiteral → ℕ → Option ℕ → Linear → Box → Range
sum_known g i [] k t l box = terms_range (counts g t) l.factors l.items box
sum_known g i (z ∷ sums) k t l box =
    cond (z.c.0 == k) (common (by_sum g i t l box z) (sum_known g i sums k t l box)) (sum_known g i sums k t l box)

-- a linear constraint, where the sum of all terms has this range
abbrev pub linear_refuted : Linear → Range → Box → Bool
linear_refuted l r box = cond l.is_equal (ranges_miss r (span (left_to box l.bound))) (int_lt (greatest_value (left_to box l.bound)) r.from)

abbrev pub linear_entailed : Linear → Range → Box → Bool
linear_entailed l r box =
    cond l.is_equal (is_single (left_to box l.bound) && is_point (least_value (left_to box l.bound)) r) (int_le r.to (least_value (left_to box l.bound)))

abbrev pub refuted_by_sums : Game → Lemma → ℕ → Option Linear → Box → Bool
refuted_by_sums g m k None box = false
refuted_by_sums g m k (Some l) box = linear_refuted l (sum_known g (last_scope g m) m.sums k None l box) box

abbrev pub entailed_by_sums : Game → Lemma → ℕ → Option Linear → Box → Bool
entailed_by_sums g m k None box = false
entailed_by_sums g m k (Some l) box = linear_entailed l (sum_known g (last_scope g m) m.sums k None l box) box

-- the constraint with the number k is refuted, or entailed, by the box and the lemma's sums
abbrev pub is_refuted : Game → Lemma → ℕ → Rule → Box → Bool
is_refuted g m k c box = refuted_by c box || refuted_by_sums g m k (linear_of c) box

abbrev pub is_kept : Game → Lemma → ℕ → Rule → Box → Bool
is_kept g m k c box = entailed_by c box || entailed_by_sums g m k (linear_of c) box

-- a sum of variables of scopes before t lies where its literal says, by the box and the lemma's sums
abbrev pub sum_shown : Game → Lemma → ℕ → Box → SumLiteral → Option Linear → Bool
sum_shown g m t box z None = false
sum_shown g m t box z (Some l) =
    int_le z.lo (sum_known g (last_scope g m) m.sums z.c.0 (Some t) l box).from && int_le (sum_known g (last_scope g m) m.sums z.c.0 (Some t) l box).to z.hi

abbrev pub is_sum_shown : Game → Lemma → ℕ → Box → SumLiteral → Bool
is_sum_shown g m t box z = sum_shown g m t box z (linear_at (slice_get g.constraints z.c.0))
