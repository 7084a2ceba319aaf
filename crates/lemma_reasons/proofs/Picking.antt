-- The item that an index with one value picks.
use Rattle.std.proofs.Common.{◌≡◌, refl, sym, ap, ◌∙◌, ℕ, zero, suc, ◌<◌, Bool, true, false, ◌&&◌, ◌||◌, List, [], ◌∷◌, length, map, get_or, arith, ℤ, ◌-◌}
use Rattle.std.specs.Prelude.{pos, ◌+ℤ◌, ◌<ℤ◌, ◌≤ℤ◌, nat_abs}
use Rattle.std.specs.Ordering.{int_eq}
use Rattle.std.proofs.lemmas.Int.{ints}
use Rattle.std.proofs.lemmas.List.{get_or-map, length-map}
use Rattle.qc_model.specs.declared.problem.Arg.{Arg}
use Rattle.qc_model.specs.Refuted.{left_to}
use Rattle.qc_model.specs.Domains.{Values, Box, is_single, least_value}
use Rattle.qc_model.specs.Left.{are_one_value}
use Rattle.lemma_list.specs.Entailment.{is_picked}

and_false : (x : Bool) → (x && false) ≡ false
and_false true = refl
and_false false = refl

or_false : (x : Bool) → (x || false) ≡ x
or_false true = refl
or_false false = refl

-- an index with several values picks none
pub none_picked : (k : ℤ) (b : Values) (ds : List Values) (c : Values) → is_single b ≡ false → is_picked k b ds c ≡ false
none_picked k b [] c h = refl
none_picked k b (d ∷ ds) c h =
    ap (λ s. ((s && int_eq (least_value b) k) && are_one_value d c) || is_picked (k +ℤ pos 1) b ds c) h ∙ none_picked (k +ℤ pos 1) b ds c h

-- one that isn't at a place picks an item behind it
picked_later : (k : ℤ) (b d : Values) (ds : List Values) (c : Values) → int_eq (least_value b) k ≡ false → is_picked k b (d ∷ ds) c ≡ is_picked (k +ℤ pos 1) b ds c
picked_later k b d ds c h =
    ap (λ t. ((is_single b && t) && are_one_value d c) || is_picked (k +ℤ pos 1) b ds c) h
    ∙ ap (λ t. (t && are_one_value d c) || is_picked (k +ℤ pos 1) b ds c) (and_false (is_single b))

other : (a b : ℤ) → a <ℤ b → int_eq a b ≡ false
other a b h = grind (arith, ints)

other_above : (a b : ℤ) → b <ℤ a → int_eq a b ≡ false
other_above a b h = grind (arith, ints)

same : (a b : ℤ) → a ≡ b → int_eq a b ≡ true
same a b h = grind (arith, ints)

-- one below the first place picks none, nor one behind the last
pub below_picked : (k : ℤ) (b : Values) (ds : List Values) (c : Values) → least_value b <ℤ k → is_picked k b ds c ≡ false
below_picked k b [] c h = refl
below_picked k b (d ∷ ds) c h = picked_later k b d ds c (other (least_value b) k h) ∙ below_picked (k +ℤ pos 1) b ds c (omega (arith, ints))

pub behind_picked : (k : ℤ) (b : Values) (ds : List Values) (c : Values) → (k +ℤ pos (length ds)) ≤ℤ least_value b → is_picked k b ds c ≡ false
behind_picked k b [] c h = refl
behind_picked k b (d ∷ ds) c h =
    picked_later k b d ds c (other_above (least_value b) k (omega (arith, ints))) ∙ behind_picked (k +ℤ pos 1) b ds c (omega (arith, ints))

-- one between picks the item at its place
pub item_picked : (k : ℤ) (b : Values) (ds : List Values) (c : Values) (n : ℕ) (e : Values) → n < length ds → is_single b ≡ true → least_value b ≡ k +ℤ pos n →
    is_picked k b ds c ≡ are_one_value (get_or ds n e) c
item_picked k b [] c n e lt s h = absurd (omega arith)
item_picked k b (d ∷ ds) c zero e lt s h =
    ap (λ t. ((t && int_eq (least_value b) k) && are_one_value d c) || is_picked (k +ℤ pos 1) b ds c) s
    ∙ ap (λ t. (t && are_one_value d c) || is_picked (k +ℤ pos 1) b ds c) (same (least_value b) k (omega (arith, ints)))
    ∙ ap (λ t. are_one_value d c || t) (below_picked (k +ℤ pos 1) b ds c (omega (arith, ints)))
    ∙ or_false (are_one_value d c)
item_picked k b (d ∷ ds) c (suc n) e lt s h =
    picked_later k b d ds c (other_above (least_value b) k (omega (arith, ints))) ∙ item_picked (k +ℤ pos 1) b ds c n e (omega arith) s (omega (arith, ints))

-- the same of arguments, whose places are counted from 1
pub placed : (box : Box) (items : List Arg) (b c : Arg) (v : ℤ) (a : Arg) → v ≡ least_value (left_to box b) → is_single (left_to box b) ≡ true → pos 1 ≤ℤ v → v ≤ℤ pos (length items) →
    are_one_value (left_to box (get_or items (nat_abs v - 1) a)) (left_to box c) ≡ is_picked (pos 1) (left_to box b) (map (left_to box) items) (left_to box c)
placed box items b c v a e s low high =
    let within : nat_abs v - 1 < length items = grind (arith, ints, low, high) in
    let many : length (map (left_to box) items) ≡ length items = length-map _ _ in
    let place : v ≡ pos 1 +ℤ pos (nat_abs v - 1) = grind (arith, ints, low) in
    let item = get_or-map (left_to box) items (nat_abs v - 1) a (left_to box a) within in
    sym (
    item_picked (pos 1) (left_to box b) (map (left_to box) items) (left_to box c) (nat_abs v - 1) (left_to box a) (omega (arith, many, within)) s (sym e ∙ place)
    ∙ ap (λ d. are_one_value d (left_to box c)) item
    )
