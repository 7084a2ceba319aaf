-- The least and the greatest item, item by item.
use Rattle.std.proofs.Common.{◌≡◌, ◌<◌, List, [], ◌∷◌, ℕ, ◌+◌, length, map, drop, get_or, sym, ap, ◌∙◌, arith, ℤ}
use Rattle.std.specs.Int.{int_min, int_max}
use Rattle.std.proofs.lemmas.Int.{ints}
use Rattle.std.proofs.lemmas.List.{at_drop_more}
use Rattle.qc_model.specs.declared.problem.Arg.{Arg}
use Rattle.qc_model.specs.Domains.{Values, Box, least_value, greatest_value}
use Rattle.qc_model.specs.Left.{span, least_range, greatest_range}
use Rattle.qc_model.specs.Ranges.{Range, range_of, smaller_range, greater_range}
use Rattle.qc_model.specs.Refuted.{left_to}

ends_same : (a b c d : ℤ) → a ≡ b → c ≡ d → range_of a c ≡ range_of b d
ends_same a b c d e f = ap (λ z. range_of z c) e ∙ ap (range_of b) f

min_turn : (a b : ℤ) → int_min a b ≡ int_min b a
min_turn a b = grind (arith, ints)

max_turn : (a b : ℤ) → int_max a b ≡ int_max b a
max_turn a b = grind (arith, ints)

-- the range that stands first is met with an item
least_move : (a : Range) (d : Values) (ds : List Values) → least_range (smaller_range a (span d)) ds ≡ smaller_range (span d) (least_range a ds)
least_move a d [] = ends_same (int_min a.from (least_value d)) (int_min (least_value d) a.from) (int_min a.to (greatest_value d)) (int_min (greatest_value d) a.to) (min_turn a.from (least_value d)) (min_turn a.to (greatest_value d))
least_move a d (e ∷ ds) =
    let r = least_range a ds in
    ap (smaller_range (span e)) (least_move a d ds)
    ∙ ends_same (int_min (least_value e) (int_min (least_value d) r.from)) (int_min (least_value d) (int_min (least_value e) r.from)) (int_min (greatest_value e) (int_min (greatest_value d) r.to)) (int_min (greatest_value d) (int_min (greatest_value e) r.to)) (turn (least_value e) (least_value d) r.from) (turn (greatest_value e) (greatest_value d) r.to)
  where
    turn : (a b c : ℤ) → int_min a (int_min b c) ≡ int_min b (int_min a c)
    turn a b c = grind (arith, ints)

greatest_move : (a : Range) (d : Values) (ds : List Values) → greatest_range (greater_range a (span d)) ds ≡ greater_range (span d) (greatest_range a ds)
greatest_move a d [] = ends_same (int_max a.from (least_value d)) (int_max (least_value d) a.from) (int_max a.to (greatest_value d)) (int_max (greatest_value d) a.to) (max_turn a.from (least_value d)) (max_turn a.to (greatest_value d))
greatest_move a d (e ∷ ds) =
    let r = greatest_range a ds in
    ap (greater_range (span e)) (greatest_move a d ds)
    ∙ ends_same (int_max (least_value e) (int_max (least_value d) r.from)) (int_max (least_value d) (int_max (least_value e) r.from)) (int_max (greatest_value e) (int_max (greatest_value d) r.to)) (int_max (greatest_value d) (int_max (greatest_value e) r.to)) (turn (least_value e) (least_value d) r.from) (turn (greatest_value e) (greatest_value d) r.to)
  where
    turn : (a b c : ℤ) → int_max a (int_max b c) ≡ int_max b (int_max a c)
    turn a b c = grind (arith, ints)

-- one item more
pub least_step : (box : Box) (items : List Arg) (k : ℕ) (x : Arg) (from to : ℤ) (one all : Range) → k < length items →
    least_range (range_of from to) (map (left_to box) (drop k items)) ≡ all → one ≡ span (left_to box (get_or items k x)) →
    least_range (smaller_range (range_of from to) one) (map (left_to box) (drop (k + 1) items)) ≡ all
least_step box items k x from to one all h i e =
    let d = left_to box (get_or items k x) in
    let rest = map (left_to box) (drop (k + 1) items) in
    ap (λ r. least_range (smaller_range (range_of from to) r) rest) e
    ∙ (least_move (range_of from to) d rest
    ∙ (sym (at_drop_more (λ l. least_range (range_of from to) (map (left_to box) l)) items k x h) ∙ i))

pub greatest_step : (box : Box) (items : List Arg) (k : ℕ) (x : Arg) (from to : ℤ) (one all : Range) → k < length items →
    greatest_range (range_of from to) (map (left_to box) (drop k items)) ≡ all → one ≡ span (left_to box (get_or items k x)) →
    greatest_range (greater_range (range_of from to) one) (map (left_to box) (drop (k + 1) items)) ≡ all
greatest_step box items k x from to one all h i e =
    let d = left_to box (get_or items k x) in
    let rest = map (left_to box) (drop (k + 1) items) in
    ap (λ r. greatest_range (greater_range (range_of from to) r) rest) e
    ∙ (greatest_move (range_of from to) d rest
    ∙ (sym (at_drop_more (λ l. greatest_range (range_of from to) (map (left_to box) l)) items k x h) ∙ i))

-- the ends of the smaller of two
pub smaller_ends : (d e : Values) (from to l m g h : ℤ) → from ≡ int_min l m → to ≡ int_min g h → l ≡ least_value d → m ≡ least_value e → g ≡ greatest_value d → h ≡ greatest_value e →
    range_of from to ≡ smaller_range (span d) (span e)
smaller_ends d e from to l m g h p q a b x y =
    ap (λ z. range_of z to) (p ∙ (ap (λ z. int_min z m) a ∙ ap (λ z. int_min (least_value d) z) b))
    ∙ ap (λ z. range_of (int_min (least_value d) (least_value e)) z) (q ∙ (ap (λ z. int_min z h) x ∙ ap (λ z. int_min (greatest_value d) z) y))

-- the ends of the greater of two
pub greater_ends : (d e : Values) (from to l m g h : ℤ) → from ≡ int_max l m → to ≡ int_max g h → l ≡ least_value d → m ≡ least_value e → g ≡ greatest_value d → h ≡ greatest_value e →
    range_of from to ≡ greater_range (span d) (span e)
greater_ends d e from to l m g h p q a b x y =
    ap (λ z. range_of z to) (p ∙ (ap (λ z. int_max z m) a ∙ ap (λ z. int_max (least_value d) z) b))
    ∙ ap (λ z. range_of (int_max (least_value d) (least_value e)) z) (q ∙ (ap (λ z. int_max z h) x ∙ ap (λ z. int_max (greatest_value d) z) y))
