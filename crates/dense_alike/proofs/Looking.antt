-- Boxes of a game, the values read from them, and whether they look the same.
use Rattle.std.proofs.Common.{◌≡◌, ◌≤◌, ◌<◌, ◌∙◌, ℕ, zero, suc, Bool, true, false, ◌&&◌, ◌||◌, not, List, [], ◌∷◌, length, take, drop, refl, sym, ap, subst, arith, ℤ}
use Rattle.std.specs.Prelude.{get_or, pos, slice_index_or}
use Rattle.std.specs.List.{list_all}
use Rattle.std.specs.Ordering.{int_eq}
use Rattle.qc_model.specs.Content.{Game}
use Rattle.qc_model.specs.Domains.{Box, InBox, box_values, declared_box, has_empty, has_value, is_ascending, is_none_left, is_sub_box, least_value, values_left}
use Rattle.qc_model.specs.Game.{before}
use Rattle.qc_model.specs.Lists.{same_values}
use Rattle.qc_model.specs.Valid.{IsValid}
use Rattle.box_laws.proofs.Readings.{box_size, read_numbers}
use Rattle.model_arguments.specs.Asked.{is_box_of}
use Rattle.model_arguments.proofs.Bools.{not_false}
use Rattle.model_arguments.proofs.Kept.{among_of}
use Rattle.model_arguments.proofs.Values.{has_least, value_passes}
use Rattle.proof_alike.specs.Alike.{is_seen}
use Rattle.proof_tree.specs.Place.{position}
use Rattle.std.proofs.lemmas.List.{drop_all, get_or_default, length-map, take-map}
use Rattle.std.proofs.lemmas.Bool.{and_parts}
use Rattle.dense_tree.specs.Alike.{each_below, is_from, reads_one_position, look_same, same_left, views}
use Rattle.dense_alike.specs.Laid.{is_full_box, AreValuesOf}
use Rattle.dense_alike.proofs.Marking.{before_most}
use Rattle.dense_alike.proofs.Viewing.{same_view, position_size, views_are, seen_are}

-- a full box
pub full_declared : (g : Game) (b : Box) → is_full_box g b ≡ true → is_box_of g b ≡ true
full_declared g b e = (and_parts (is_box_of g b) (not (has_empty b)) e).0

pub full_left : (g : Game) (b : Box) → is_full_box g b ≡ true → has_empty b ≡ false
full_left g b e = not_false (has_empty b) (and_parts (is_box_of g b) (not (has_empty b)) e).1

pub full_size : (g : Game) (b : Box) → is_full_box g b ≡ true → length b ≡ length g.variables
full_size g b e = box_size g b (full_declared g b e)

pub full_few : (g : Game) (b : Box) → IsValid g → is_full_box g b ≡ true → length b ≤ 500
full_few g b v e = omega (arith, v.few_variables, full_size g b e)

pub full_before : (g : Game) (b : Box) (i n : ℕ) → n ≡ before g i → is_full_box g b ≡ true → n ≤ length b
full_before g b i n q e = omega (arith, q, before_most g i, full_size g b e)

values_lie : (b e : Box) (n : ℕ) → is_sub_box b e ≡ true → has_empty b ≡ false → InBox (box_values (take n b)) e
values_lie b e zero h k = tt
values_lie [] e (suc n) h k = tt
values_lie (d ∷ b) [] (suc n) h k = cc
values_lie (d ∷ b) (e ∷ es) (suc n) h k =
    let p = and_parts (is_ascending d && list_all (has_value e) d) (is_sub_box b es) h in
    let q = and_parts (is_ascending d) (list_all (has_value e) d) p.0 in
    (among_of (least_value d) e (value_passes (has_value e) d (least_value d) q.1 (has_least d (first (is_none_left d) (has_empty b) k))), values_lie b es n p.1 (second (is_none_left d) (has_empty b) k))
  where
    first : (a c : Bool) → (a || c) ≡ false → a ≡ false
    first true c e = e
    first false c e = refl

    second : (a c : Bool) → (a || c) ≡ false → c ≡ false
    second true c e = cc
    second false c e = e

pub values_of_box : (g : Game) (i : ℕ) (b : Box) (vs : List ℤ) → IsValid g → is_full_box g b ≡ true → vs ≡ position g i b → AreValuesOf g i vs
values_of_box g i b vs v e q =
    subst (AreValuesOf g i) (sym q)
    (record {
      count = position_size g i b (full_before g b i (before g i) refl e);
      lie = values_lie b (declared_box g) (before g i) (full_declared g b e) (full_left g b e);
      numbers = read_numbers g b (before g i) v.domains (full_declared g b e) (full_left g b e);
    })

-- what is found of two boxes is so
module _ (g : Game) (i first : ℕ) (a b : Box) (here there : List ℤ) (full : is_full_box g a ≡ true) (kept : is_full_box g b ≡ true) (once : reads_one_position g i a ≡ true) (twice : reads_one_position g i b ≡ true)
    (is : first ≡ before g i) (h : here ≡ position g i a) (t : there ≡ position g i b) where
  same_seen : each_below first (λ x. not (is_seen g i x) || int_eq (slice_index_or here x (pos 0)) (slice_index_or there x (pos 0))) ≡ each_below (before g i) (λ x. not (is_seen g i x) || same_values (values_left a x) (values_left b x))
  same_seen =
      ap (λ n. each_below n (λ x. not (is_seen g i x) || int_eq (slice_index_or here x (pos 0)) (slice_index_or there x (pos 0)))) is
      ∙ (ap (λ us. each_below (before g i) (λ x. not (is_seen g i x) || int_eq (slice_index_or us x (pos 0)) (slice_index_or there x (pos 0)))) h
      ∙ (ap (λ vs. each_below (before g i) (λ x. not (is_seen g i x) || int_eq (slice_index_or (position g i a) x (pos 0)) (slice_index_or vs x (pos 0)))) t
      ∙ seen_are g i a b (full_before g a i (before g i) refl full) (full_before g b i (before g i) refl kept) once twice))

  same_views : list_all (same_view g i here there) g.constraints ≡ list_all (λ c. not (is_from i c) || same_values (views g i a c) (views g i b c)) g.constraints
  same_views =
      ap (λ us. list_all (same_view g i us there) g.constraints) h
      ∙ (ap (λ vs. list_all (same_view g i (position g i a) vs) g.constraints) t
      ∙ views_are g i a b (full_before g a i (before g i) refl full) (full_before g b i (before g i) refl kept) once twice)

  all_of : (p q x y z r : Bool) → p ≡ true → q ≡ true → x ≡ true → x ≡ y → r ≡ z → r ≡ (p && q && (y && z))
  all_of true true true true z r e f h k l = l
  all_of false q x y z r e f h k l = cc
  all_of true false x y z r e f h k l = cc
  all_of true true false y z r e f h k l = cc
  all_of true true true false z r e f h k l = cc

  none_of : (p q x y z : Bool) → p ≡ true → q ≡ true → x ≡ false → x ≡ y → false ≡ (p && q && (y && z))
  none_of true true false false z e f h k = refl
  none_of false q x y z e f h k = cc
  none_of true false x y z e f h k = cc
  none_of true true true y z e f h k = cc
  none_of true true false true z e f h k = cc

  pub look_found : (r : Bool) → each_below first (λ x. not (is_seen g i x) || int_eq (slice_index_or here x (pos 0)) (slice_index_or there x (pos 0))) ≡ true → r ≡ list_all (same_view g i here there) g.constraints →
      r ≡ (reads_one_position g i a && reads_one_position g i b && look_same g i a b)
  look_found r e q = all_of _ _ _ _ _ r once twice e same_seen (q ∙ same_views)

  pub look_differs : each_below first (λ x. not (is_seen g i x) || int_eq (slice_index_or here x (pos 0)) (slice_index_or there x (pos 0))) ≡ false → false ≡ (reads_one_position g i a && reads_one_position g i b && look_same g i a b)
  look_differs e = none_of _ _ _ _ _ once twice e same_seen

-- what is left from a variable on
pub left_end : (ds es : Box) (k : ℕ) → length ds ≡ length es → length ds ≤ k → same_left (drop k ds) (drop k es) ≡ true
left_end ds es k e l = ap (λ us. same_left us (drop k es)) (drop_all k ds l) ∙ ap (same_left []) (drop_all k es (omega (arith, e, l)))

-- each of the kept boxes is full
pub kept_full : (g : Game) (bs : List Box) (n : ℕ) → list_all (is_full_box g) bs ≡ true → n < length bs → is_full_box g (get_or bs n []) ≡ true
kept_full g [] n e l = absurd (omega arith)
kept_full g (b ∷ bs) zero e l = (and_parts (is_full_box g b) (list_all (is_full_box g) bs) e).0
kept_full g (b ∷ bs) (suc n) e l = kept_full g bs n (and_parts (is_full_box g b) (list_all (is_full_box g) bs) e).1 (omega (arith, l))

pub first_kept : (g : Game) (b : Box) (i n : ℕ) (vs : List ℤ) → n ≡ before g i → is_full_box g b ≡ true → vs ≡ box_values b → n ≤ length vs
first_kept g b i n vs q e f = omega (arith, full_before g b i n q e, ap length f, length-map b least_value)

pub first_position : (g : Game) (b : Box) (i n : ℕ) (all vs : List ℤ) → n ≡ before g i → all ≡ box_values b → vs ≡ take n all → vs ≡ position g i b
first_position g b i n all vs q e f = f ∙ (ap (take n) e ∙ (take-map least_value n b ∙ ap (λ k. box_values (take k b)) q))

pub kept_is : (bs : List Box) (n : ℕ) (b : Box) → n < length bs → b ≡ get_or bs n b → b ≡ get_or bs n []
kept_is bs n b l e = e ∙ get_or_default bs n b [] l

pub kept_size : (g : Game) (bs : List Box) (n : ℕ) (b a : Box) → list_all (is_full_box g) bs ≡ true → is_full_box g a ≡ true → n < length bs → b ≡ get_or bs n b → length a ≡ length b
kept_size g bs n b a f e l h = full_size g a e ∙ sym (full_size g b (subst (λ d. is_full_box g d ≡ true) (sym (kept_is bs n b l h)) (kept_full g bs n f l)))
