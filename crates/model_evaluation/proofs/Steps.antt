-- Items and rows, one by one.
use Rattle.std.proofs.Common.{◌≡◌, ◌∙◌, refl, ap, sym, ℕ, ◌+◌, ◌<◌, ◌≤◌, Bool, true, false, not, ◌&&◌, ◌||◌, List, [], ◌∷◌, length, map, drop, get_or, ltb, nat_eq, of_z, w64, arith, ℤ}
use Rattle.std.specs.Prelude.{pos, int_le, int_lt, slice_get}
use Rattle.std.specs.Bool.{beq}
use Rattle.std.specs.List.{list_any, list_all}
use Rattle.std.specs.Option.{option_map}
use Rattle.std.specs.Ordering.{int_eq}
use Rattle.std.proofs.lemmas.Bool.{ltb-true, ltb-false}
use Rattle.std.proofs.lemmas.Int.{ints}
use Rattle.std.proofs.lemmas.List.{at_drop_more, at_drop_all}
use Rattle.std.proofs.lemmas.Option.{slice_get_read, slice_get_past, slice_get-map}
use mir.Val.{SFits}
use Rattle.qc_model.specs.declared.problem.Arg.{Arg}
use Rattle.qc_model.specs.Holds.{same_truth, odd_ones, is_one}
use Rattle.qc_model.specs.Lists.{same_values}
use Rattle.model_evaluation.specs.Evaluation.{is_some_item}
use Rattle.qc_model.proofs.Bits.{same_bits, one_bit, bits_same, bits_differ}

-- the value of an item that the array has at a place, and none past its end
pub value_there : (f : Arg → ℤ) (items : List Arg) (k : ℕ) (x : Arg) (v n : ℤ) → true ≡ ltb k (length items) → x ≡ get_or items k x → v ≡ f x → SFits w64 v → SFits w64 n →
    nat_eq (of_z w64 v) (of_z w64 n) ≡ is_some_item n (slice_get (map f items) k)
value_there f items k x v n h e p g l =
    same_bits v n g l
    ∙ (ap (λ u. int_eq u n) p ∙ sym (ap (is_some_item n) (slice_get-map f items k ∙ ap (option_map f) (slice_get_read items (length items) k x refl (ltb-true k (length items) (sym h)) e))))

pub no_value : (f : Arg → ℤ) (items : List Arg) (k : ℕ) (n : ℤ) → false ≡ ltb k (length items) → false ≡ is_some_item n (slice_get (map f items) k)
no_value f items k n h = sym (ap (is_some_item n) (slice_get-map f items k ∙ ap (option_map f) (slice_get_past items k (ltb-false k (length items) (sym h)))))

-- one value and one number of a row
row_step : (f : Arg → ℤ) (items : List Arg) (row : List ℤ) (k : ℕ) (x : Arg) → k < length items → k < length row →
    same_values (map f (drop k items)) (drop k row) ≡ (int_eq (f (get_or items k x)) (get_or row k (pos 0)) && same_values (map f (drop (k + 1) items)) (drop (k + 1) row))
row_step f items row k x h m =
    at_drop_more (λ l. same_values (map f l) (drop k row)) items k x h
    ∙ at_drop_more (λ l. same_values (f (get_or items k x) ∷ map f (drop (k + 1) items)) l) row k (pos 0) m

pub row_same : (f : Arg → ℤ) (items : List Arg) (row : List ℤ) (k : ℕ) (x : Arg) (v : ℤ) → k < length items → k < length row → v ≡ f (get_or items k x) → SFits w64 v → SFits w64 (get_or row k (pos 0)) → of_z w64 v ≡ of_z w64 (get_or row k (pos 0)) →
    same_values (map f (drop (k + 1) items)) (drop (k + 1) row) ≡ same_values (map f (drop k items)) (drop k row)
row_same f items row k x v h m p a b e =
    sym (row_step f items row k x h m
    ∙ ap (λ t. t && same_values (map f (drop (k + 1) items)) (drop (k + 1) row)) (sym (ap (λ u. int_eq u (get_or row k (pos 0))) p) ∙ bits_same v (get_or row k (pos 0)) a b e))

pub row_other : (f : Arg → ℤ) (items : List Arg) (row : List ℤ) (k : ℕ) (x : Arg) (v : ℤ) → k < length items → k < length row → v ≡ f (get_or items k x) → SFits w64 v → SFits w64 (get_or row k (pos 0)) → (of_z w64 v ≡ of_z w64 (get_or row k (pos 0)) → ⊥) →
    false ≡ same_values (map f (drop k items)) (drop k row)
row_other f items row k x v h m p a b e =
    sym (row_step f items row k x h m
    ∙ ap (λ t. t && same_values (map f (drop (k + 1) items)) (drop (k + 1) row)) (sym (ap (λ u. int_eq u (get_or row k (pos 0))) p) ∙ bits_differ v (get_or row k (pos 0)) a b e))

pub row_end : (f : Arg → ℤ) (items : List Arg) (row : List ℤ) (k : ℕ) → length items ≤ k → length row ≤ k → true ≡ same_values (map f (drop k items)) (drop k row)
row_end f items row k h m = sym (at_drop_all (λ l. same_values (map f l) (drop k row)) items k h ∙ at_drop_all (λ l. same_values [] l) row k m)

-- whether an odd number of items were 1, with one item more
pub odd_more : (f : Arg → ℤ) (items : List Arg) (k : ℕ) (x : Arg) (o all : Bool) (v : ℤ) → k < length items → v ≡ f (get_or items k x) → SFits w64 v →
    not (same_truth o (odd_ones (map f (drop k items)))) ≡ all → not (same_truth (not (beq o (nat_eq (of_z w64 v) 1))) (odd_ones (map f (drop (k + 1) items)))) ≡ all
odd_more f items k x o all v h e g told =
    turn o (nat_eq (of_z w64 v) 1) (odd_ones (map f (drop (k + 1) items)))
    ∙ (ap (λ b. not (same_truth o (not (same_truth b (odd_ones (map f (drop (k + 1) items))))))) (one_bit v g ∙ ap is_one e)
    ∙ (sym (at_drop_more (λ l. not (same_truth o (odd_ones (map f l)))) items k x h) ∙ told))
  where
    turn : (o b r : Bool) → not (same_truth (not (beq o b)) r) ≡ not (same_truth o (not (same_truth b r)))
    turn true true r = refl
    turn true false true = refl
    turn true false false = refl
    turn false true true = refl
    turn false true false = refl
    turn false false true = refl
    turn false false false = refl

pub odd_end : (f : Arg → ℤ) (items : List Arg) (k : ℕ) (o all : Bool) → length items ≤ k → not (same_truth o (odd_ones (map f (drop k items)))) ≡ all → o ≡ all
odd_end f items k o all h told = same o ∙ (sym (at_drop_all (λ l. not (same_truth o (odd_ones (map f l)))) items k h) ∙ told)
  where
    same : (o : Bool) → o ≡ not (same_truth o false)
    same true = refl
    same false = refl

-- a number that was reached before, and one that may be now
pub reached_before : (r s e : Bool) → s ≡ r → r ≡ true → s ≡ (r || e)
reached_before true s e h q = h
reached_before false s e h q = cc

pub reached_now : (r s e b : Bool) → s ≡ b → b ≡ e → r ≡ false → s ≡ (r || e)
reached_now true s e b h p q = cc
reached_now false s e b h p q = h ∙ p

-- whether a number was reached, with one item more
reached_more : (r s e a l : Bool) → s ≡ (r || e) → ((s || a) && l) ≡ ((r || (e || a)) && l)
reached_more true s e a l h = ap (λ t. (t || a) && l) h
reached_more false s e a l h = ap (λ t. (t || a) && l) h

reached_end : (r : Bool) → r ≡ ((r || false) && true)
reached_end true = refl
reached_end false = refl

never : (a : Bool) → false ≡ (a && false)
never true = refl
never false = refl

turned : (v m : ℤ) → int_eq v m ≡ int_eq m v
turned v m = grind (arith, ints)

not_less : (v m : ℤ) → int_lt v m ≡ false → int_le m v ≡ true
not_less v m h = grind (arith, ints)

less : (v m : ℤ) → int_lt v m ≡ true → int_le m v ≡ false
less v m h = grind (arith, ints)

-- whether all items that are left are at least the number, and one of them is it where none was before
abbrev pub least_left : Bool → ℤ → List ℤ → Bool
least_left r m vs = (r || list_any (int_eq m) vs) && list_all (λ x. int_le m x) vs

pub least_more : (f : Arg → ℤ) (items : List Arg) (k : ℕ) (x : Arg) (m v : ℤ) (r s all : Bool) → k < length items → v ≡ f (get_or items k x) → int_lt v m ≡ false → s ≡ (r || int_eq v m) →
    least_left r m (map f (drop k items)) ≡ all → least_left s m (map f (drop (k + 1) items)) ≡ all
least_more f items k x m v r s all h e l q told =
    let u = f (get_or items k x) in
    let rest = map f (drop (k + 1) items) in
    reached_more r s (int_eq m u) (list_any (int_eq m) rest) (list_all (λ y. int_le m y) rest) (q ∙ ap (λ b. r || b) (turned v m ∙ ap (int_eq m) e))
    ∙ (sym (ap (λ b. (r || list_any (int_eq m) (u ∷ rest)) && (b && list_all (λ y. int_le m y) rest)) (sym (ap (λ y. int_le m y) e) ∙ not_less v m l))
    ∙ (sym (at_drop_more (λ l. least_left r m (map f l)) items k x h) ∙ told))

pub least_past : (f : Arg → ℤ) (items : List Arg) (k : ℕ) (x : Arg) (m v : ℤ) (r all : Bool) → k < length items → v ≡ f (get_or items k x) → int_lt v m ≡ true →
    least_left r m (map f (drop k items)) ≡ all → false ≡ all
least_past f items k x m v r all h e l told =
    let u = f (get_or items k x) in
    let rest = map f (drop (k + 1) items) in
    never (r || list_any (int_eq m) (u ∷ rest))
    ∙ (sym (ap (λ b. (r || list_any (int_eq m) (u ∷ rest)) && (b && list_all (λ y. int_le m y) rest)) (sym (ap (λ y. int_le m y) e) ∙ less v m l))
    ∙ (sym (at_drop_more (λ l. least_left r m (map f l)) items k x h) ∙ told))

pub least_end : (f : Arg → ℤ) (items : List Arg) (k : ℕ) (m : ℤ) (r all : Bool) → length items ≤ k → least_left r m (map f (drop k items)) ≡ all → r ≡ all
least_end f items k m r all h told = reached_end r ∙ (sym (at_drop_all (λ l. least_left r m (map f l)) items k h) ∙ told)

-- whether all items that are left are at most the number, and one of them is it where none was before
abbrev pub greatest_left : Bool → ℤ → List ℤ → Bool
greatest_left r m vs = (r || list_any (int_eq m) vs) && list_all (λ x. int_le x m) vs

pub greatest_more : (f : Arg → ℤ) (items : List Arg) (k : ℕ) (x : Arg) (m v : ℤ) (r s all : Bool) → k < length items → v ≡ f (get_or items k x) → int_lt m v ≡ false → s ≡ (r || int_eq v m) →
    greatest_left r m (map f (drop k items)) ≡ all → greatest_left s m (map f (drop (k + 1) items)) ≡ all
greatest_more f items k x m v r s all h e l q told =
    let u = f (get_or items k x) in
    let rest = map f (drop (k + 1) items) in
    reached_more r s (int_eq m u) (list_any (int_eq m) rest) (list_all (λ y. int_le y m) rest) (q ∙ ap (λ b. r || b) (turned v m ∙ ap (int_eq m) e))
    ∙ (sym (ap (λ b. (r || list_any (int_eq m) (u ∷ rest)) && (b && list_all (λ y. int_le y m) rest)) (sym (ap (λ y. int_le y m) e) ∙ not_less m v l))
    ∙ (sym (at_drop_more (λ l. greatest_left r m (map f l)) items k x h) ∙ told))

pub greatest_past : (f : Arg → ℤ) (items : List Arg) (k : ℕ) (x : Arg) (m v : ℤ) (r all : Bool) → k < length items → v ≡ f (get_or items k x) → int_lt m v ≡ true →
    greatest_left r m (map f (drop k items)) ≡ all → false ≡ all
greatest_past f items k x m v r all h e l told =
    let u = f (get_or items k x) in
    let rest = map f (drop (k + 1) items) in
    never (r || list_any (int_eq m) (u ∷ rest))
    ∙ (sym (ap (λ b. (r || list_any (int_eq m) (u ∷ rest)) && (b && list_all (λ y. int_le y m) rest)) (sym (ap (λ y. int_le y m) e) ∙ less m v l))
    ∙ (sym (at_drop_more (λ l. greatest_left r m (map f l)) items k x h) ∙ told))

pub greatest_end : (f : Arg → ℤ) (items : List Arg) (k : ℕ) (m : ℤ) (r all : Bool) → length items ≤ k → greatest_left r m (map f (drop k items)) ≡ all → r ≡ all
greatest_end f items k m r all h told = reached_end r ∙ (sym (at_drop_all (λ l. greatest_left r m (map f l)) items k h) ∙ told)
