-- The first law for truth values: both, either, all items, some item, clause.
use Rattle.std.proofs.Common.{◌≡◌, Bool, true, false, ◌&&◌, ◌||◌, List, [], ◌∷◌, refl, sym, ap, ◌∙◌, subst}
use Rattle.std.specs.Prelude.{ℤ, pos}
use Rattle.std.specs.Ordering.{int_eq}
use Rattle.std.specs.Int.{int_min, int_max}
use Rattle.std.specs.List.{list_any, list_all}
use Rattle.std.proofs.lemmas.Bool.{and_parts}
use Rattle.qc_model.specs.Lists.{Among, LiesIn}
use Rattle.qc_model.specs.Domains.{Values, least_value, is_single}
use Rattle.qc_model.specs.Ranges.{point, smaller_range, greater_range}
use Rattle.qc_model.specs.Meaning.{both, either, all_items, some_item, clause}
use Rattle.qc_model.specs.Holds.{Given, value_at, values_at, holds_as, same_truth, is_one, is_zero}
use Rattle.qc_model.specs.Left.{Lefts, lefts_at, range_at, span, is_only, least_range, greatest_range}
use Rattle.qc_model.specs.Refuted.{refuted_as}
use Rattle.qc_model.proofs.Visible.{Fits}
use Rattle.qc_model.proofs.Sound.{InRange, in_span, at_range, apart, smaller_in, greater_in, differ, or_false}
use Rattle.model_table.proofs.Fits.{many_fits, only_value}
use Rattle.model_table.proofs.Typing.{number_of, IsTruth, AllTruths, by_truth, by_truths}
use Rattle.model_table.proofs.Sums.{same_number, in_point}

both_is : (a b r : ℤ) → IsTruth a → IsTruth b → IsTruth r → same_truth (is_one r) (is_one a && is_one b) ≡ true → int_min a b ≡ r
both_is a b r h k l = by_truths (λ (x : ℤ) (y : ℤ) (z : ℤ). same_truth (is_one z) (is_one x && is_one y) ≡ true → int_min x y ≡ z) cases a b r h k l
  where
    cases : (x y z : Bool) → same_truth (is_one (number_of z)) (is_one (number_of x) && is_one (number_of y)) ≡ true → int_min (number_of x) (number_of y) ≡ number_of z
    cases true true true e = refl
    cases true true false e = absurd (differ e)
    cases true false true e = absurd (differ e)
    cases true false false e = refl
    cases false true true e = absurd (differ e)
    cases false true false e = refl
    cases false false true e = absurd (differ e)
    cases false false false e = refl

either_is : (a b r : ℤ) → IsTruth a → IsTruth b → IsTruth r → same_truth (is_one r) (is_one a || is_one b) ≡ true → int_max a b ≡ r
either_is a b r h k l = by_truths (λ (x : ℤ) (y : ℤ) (z : ℤ). same_truth (is_one z) (is_one x || is_one y) ≡ true → int_max x y ≡ z) cases a b r h k l
  where
    cases : (x y z : Bool) → same_truth (is_one (number_of z)) (is_one (number_of x) || is_one (number_of y)) ≡ true → int_max (number_of x) (number_of y) ≡ number_of z
    cases true true true e = refl
    cases true true false e = absurd (differ e)
    cases true false true e = refl
    cases true false false e = absurd (differ e)
    cases false true true e = refl
    cases false true false e = absurd (differ e)
    cases false false true e = absurd (differ e)
    cases false false false e = refl

pub both_sound : (vs : Given) (ds : Lefts) → IsTruth (value_at vs 0) × IsTruth (value_at vs 1) × IsTruth (value_at vs 2) → Fits vs ds → refuted_as both ds ≡ true → holds_as both vs ≡ true → ⊥
both_sound vs ds t f r h =
    apart (value_at vs 2) (smaller_range (range_at ds 0) (range_at ds 1)) (range_at ds 2) r
    (subst (λ (n : ℤ). InRange n (smaller_range (range_at ds 0) (range_at ds 1))) (both_is (value_at vs 0) (value_at vs 1) (value_at vs 2) t.0 t.1 t.2 h)
    (smaller_in (value_at vs 0) (value_at vs 1) (range_at ds 0) (range_at ds 1) (at_range vs ds 0 f) (at_range vs ds 1 f)))
    (at_range vs ds 2 f)

pub either_sound : (vs : Given) (ds : Lefts) → IsTruth (value_at vs 0) × IsTruth (value_at vs 1) × IsTruth (value_at vs 2) → Fits vs ds → refuted_as either ds ≡ true → holds_as either vs ≡ true → ⊥
either_sound vs ds t f r h =
    apart (value_at vs 2) (greater_range (range_at ds 0) (range_at ds 1)) (range_at ds 2) r
    (subst (λ (n : ℤ). InRange n (greater_range (range_at ds 0) (range_at ds 1))) (either_is (value_at vs 0) (value_at vs 1) (value_at vs 2) t.0 t.1 t.2 h)
    (greater_in (value_at vs 0) (value_at vs 1) (range_at ds 0) (range_at ds 1) (at_range vs ds 0 f) (at_range vs ds 1 f)))
    (at_range vs ds 2 f)

-- the smaller of two truth values is 1 where both are
pub min_of_truths : (a b : Bool) → int_min (number_of a) (number_of b) ≡ number_of (is_one (number_of a) && b)
min_of_truths true true = refl
min_of_truths true false = refl
min_of_truths false true = refl
min_of_truths false false = refl

pub max_of_truths : (a b : Bool) → int_max (number_of a) (number_of b) ≡ number_of (is_one (number_of a) || b)
max_of_truths true true = refl
max_of_truths true false = refl
max_of_truths false true = refl
max_of_truths false false = refl

all_in : (vs : List ℤ) (ds : List Values) → AllTruths vs → LiesIn vs ds → InRange (number_of (list_all is_one vs)) (least_range (point (pos 1)) ds)
all_in [] [] t h = in_point (pos 1)
all_in [] (d ∷ ds) t h = absurd h
all_in (v ∷ vs) [] t h = absurd h
all_in (v ∷ vs) (d ∷ ds) t h =
    subst (λ (n : ℤ). InRange n (smaller_range (span d) (least_range (point (pos 1)) ds)))
    (by_truth (λ (x : ℤ). int_min x (number_of (list_all is_one vs)) ≡ number_of (is_one x && list_all is_one vs)) (λ b. min_of_truths b (list_all is_one vs)) v t.0)
    (smaller_in v (number_of (list_all is_one vs)) (span d) (least_range (point (pos 1)) ds) (in_span v d h.0) (all_in vs ds t.1 h.1))

some_in : (vs : List ℤ) (ds : List Values) → AllTruths vs → LiesIn vs ds → InRange (number_of (list_any is_one vs)) (greatest_range (point (pos 0)) ds)
some_in [] [] t h = in_point (pos 0)
some_in [] (d ∷ ds) t h = absurd h
some_in (v ∷ vs) [] t h = absurd h
some_in (v ∷ vs) (d ∷ ds) t h =
    subst (λ (n : ℤ). InRange n (greater_range (span d) (greatest_range (point (pos 0)) ds)))
    (by_truth (λ (x : ℤ). int_max x (number_of (list_any is_one vs)) ≡ number_of (is_one x || list_any is_one vs)) (λ b. max_of_truths b (list_any is_one vs)) v t.0)
    (greater_in v (number_of (list_any is_one vs)) (span d) (greatest_range (point (pos 0)) ds) (in_span v d h.0) (some_in vs ds t.1 h.1))

truth_is : (r : ℤ) (b : Bool) → IsTruth r → same_truth (is_one r) b ≡ true → number_of b ≡ r
truth_is r b t e = by_truth (λ (x : ℤ). same_truth (is_one x) b ≡ true → number_of b ≡ x) (λ c. cases c b) r t e
  where
    cases : (c b : Bool) → same_truth (is_one (number_of c)) b ≡ true → number_of b ≡ number_of c
    cases true true e = refl
    cases true false e = absurd (differ e)
    cases false true e = absurd (differ e)
    cases false false e = refl

pub all_items_sound : (vs : Given) (ds : Lefts) → AllTruths (values_at vs 0) × IsTruth (value_at vs 1) → Fits vs ds → refuted_as all_items ds ≡ true → holds_as all_items vs ≡ true → ⊥
all_items_sound vs ds t f r h =
    apart (value_at vs 1) (least_range (point (pos 1)) (lefts_at ds 0)) (range_at ds 1) r
    (subst (λ (n : ℤ). InRange n (least_range (point (pos 1)) (lefts_at ds 0))) (truth_is (value_at vs 1) (list_all is_one (values_at vs 0)) t.1 h)
    (all_in (values_at vs 0) (lefts_at ds 0) t.0 (many_fits vs ds 0 f)))
    (at_range vs ds 1 f)

pub some_item_sound : (vs : Given) (ds : Lefts) → AllTruths (values_at vs 0) × IsTruth (value_at vs 1) → Fits vs ds → refuted_as some_item ds ≡ true → holds_as some_item vs ≡ true → ⊥
some_item_sound vs ds t f r h =
    apart (value_at vs 1) (greatest_range (point (pos 0)) (lefts_at ds 0)) (range_at ds 1) r
    (subst (λ (n : ℤ). InRange n (greatest_range (point (pos 0)) (lefts_at ds 0))) (truth_is (value_at vs 1) (list_any is_one (values_at vs 0)) t.1 h)
    (some_in (values_at vs 0) (lefts_at ds 0) t.0 (many_fits vs ds 0 f)))
    (at_range vs ds 1 f)

-- the one value left is n
pub only_is : (n v : ℤ) (d : Values) → is_only n d ≡ true → Among v d → v ≡ n
only_is n v d e h =
    let p = and_parts (is_single d) (int_eq (least_value d) n) e in
    only_value v d p.0 h ∙ same_number (least_value d) n p.1

only_refutes : (n : ℤ) (p : ℤ → Bool) → p n ≡ false → (vs : List ℤ) (ds : List Values) → LiesIn vs ds → list_all (is_only n) ds ≡ true → list_any p vs ≡ true → ⊥
only_refutes n p e [] ds h o a = differ a
only_refutes n p e (v ∷ vs) [] h o a = absurd h
only_refutes n p e (v ∷ vs) (d ∷ ds) h o a =
    let q = and_parts (is_only n d) (list_all (is_only n) ds) o in
    or_false (p v) (list_any p vs) (λ (m : p v ≡ true). differ (sym e ∙ ap p (sym (only_is n v d q.0 h.0)) ∙ m)) (λ m. only_refutes n p e vs ds h.1 q.1 m) a

pub clause_sound : (vs : Given) (ds : Lefts) → Fits vs ds → refuted_as clause ds ≡ true → holds_as clause vs ≡ true → ⊥
clause_sound vs ds f r h =
    let p = and_parts (list_all (is_only (pos 0)) (lefts_at ds 0)) (list_all (is_only (pos 1)) (lefts_at ds 1)) r in
    or_false (list_any is_one (values_at vs 0)) (list_any is_zero (values_at vs 1))
    (λ m. only_refutes (pos 0) is_one refl (values_at vs 0) (lefts_at ds 0) (many_fits vs ds 0 f) p.0 m)
    (λ m. only_refutes (pos 1) is_zero refl (values_at vs 1) (lefts_at ds 1) (many_fits vs ds 1 f) p.1 m) h
