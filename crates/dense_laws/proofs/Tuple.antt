-- Tuples of a scope after a position.
use Rattle.std.proofs.Common.{◌≡◌, ℕ, zero, suc, true, ◌&&◌, List, [], ◌∷◌, ◌++◌, length, take, drop, refl, sym, ap, ◌∙◌, subst, arith, ℤ}
use Rattle.std.proofs.lemmas.List.{length-take, length-drop, length-append, take-append-drop}
use Rattle.std.specs.List.{list_all}
use Rattle.std.proofs.lemmas.Bool.{and_parts, and_from}
use Rattle.qc_model.specs.Content.{Game}
use Rattle.qc_model.specs.Domains.{InBox, Box, declared_box, has_value, is_ascending, is_sub_box}
use Rattle.qc_model.specs.Game.{before, part, scope_domains}
use Rattle.qc_model.specs.Lists.{LiesIn}
use Rattle.qc_model.proofs.Before.{before-le, before_up}
use Rattle.model_laws.proofs.Listed.{all_to}
use Rattle.proof_meaning.proofs.Boxes.{in_append, in_rest, in_take, from_take}
use Rattle.proof_meaning.proofs.Taken.{taken_from}
use Rattle.proof_meaning.proofs.Widths.{part_rest, width}
use Rattle.dense_meaning.proofs.Bits.{has_to}

pub lies_count : (t : List ℤ) (ds : Box) → LiesIn t ds → length t ≡ length ds
lies_count [] [] h = refl
lies_count [] (d ∷ ds) h = absurd h
lies_count (v ∷ t) [] h = absurd h
lies_count (v ∷ t) (d ∷ ds) h = ap suc (lies_count t ds h.1)

-- a tuple of the scope's part of a box
pub tuple_lies : (g : Game) (i : ℕ) (a t : List ℤ) (box : Box) → length a ≡ before g i → InBox a box → LiesIn t (part g i box) → InBox (a ++ t) box
tuple_lies g i a t box n j l =
    in_append a t box j
    (subst (λ m. InBox t (drop m box)) (sym n) (from_take (width g i) t (drop (before g i) box) (subst (LiesIn t) (part_rest g i box) l)))

pub tuple_long : (g : Game) (i : ℕ) (a t : List ℤ) → length a ≡ before g i → LiesIn t (scope_domains g i) → length (a ++ t) ≡ before g (suc i)
tuple_long g i a t n l =
    let most = before-le g (suc i) in
    let count = lies_count t (scope_domains g i) l in
    omega (arith, length-append a t, count, length-drop (before g i) (take (before g (suc i)) (declared_box g)), length-take (before g (suc i)) (declared_box g), before_up g i)

-- the tuple of a position after the scope
pub tuple_of : (g : Game) (i : ℕ) (box : Box) (a t : List ℤ) → length a ≡ before g i → length (a ++ t) ≡ before g (suc i) → InBox (a ++ t) box → LiesIn t (part g i box)
tuple_of g i box a t m n j =
    subst (LiesIn t) (sym (part_rest g i box))
    (subst (λ k. LiesIn t (take k (drop (before g i) box))) long (in_take t (drop (before g i) box) (subst (λ k. InBox t (drop k box)) m (in_rest a t box j))))
  where
    long : length t ≡ width g i
    long = omega (arith, length-append a t, m, n)

-- a position after the scope is one before it and a tuple
pub record Split (g : Game) (i : ℕ) (box : Box) (b : List ℤ) : Type 0 where
  pub front : List ℤ
  pub tuple : List ℤ
  pub whole : b ≡ front ++ tuple
  pub count : length front ≡ before g i
  pub lies : InBox front box
  pub own : LiesIn tuple (part g i box)

pub split_position : (g : Game) (i : ℕ) (box : Box) (b : List ℤ) → length b ≡ before g (suc i) → InBox b box → Split g i box b
split_position g i box b n j = record {
  front = take (before g i) b;
  tuple = drop (before g i) b;
  whole = sym whole;
  count = count;
  lies = taken_from (before g i) b box j;
  own = tuple_of g i box (take (before g i) b) (drop (before g i) b) count (ap length whole ∙ n) (subst (λ z. InBox z box) (sym whole) j);
}
  where
    whole : take (before g i) b ++ drop (before g i) b ≡ b
    whole = take-append-drop (before g i) b

    count : length (take (before g i) b) ≡ before g i
    count = let up = before_up g i in omega (arith, length-take (before g i) b)

-- a tuple of a box of declared values
pub sub_take : (n : ℕ) (ds es : Box) → is_sub_box ds es ≡ true → is_sub_box (take n ds) (take n es) ≡ true
sub_take zero ds es h = refl
sub_take (suc n) [] [] h = refl
sub_take (suc n) [] (e ∷ es) h = cc
sub_take (suc n) (d ∷ ds) [] h = cc
sub_take (suc n) (d ∷ ds) (e ∷ es) h =
    let p = and_parts (is_ascending d && list_all (has_value e) d) (is_sub_box ds es) h in
    and_from (is_ascending d && list_all (has_value e) d) (is_sub_box (take n ds) (take n es)) p.0 (sub_take n ds es p.1)

pub sub_drop : (n : ℕ) (ds es : Box) → is_sub_box ds es ≡ true → is_sub_box (drop n ds) (drop n es) ≡ true
sub_drop zero ds es h = h
sub_drop (suc n) [] [] h = refl
sub_drop (suc n) [] (e ∷ es) h = cc
sub_drop (suc n) (d ∷ ds) [] h = cc
sub_drop (suc n) (d ∷ ds) (e ∷ es) h = sub_drop n ds es (and_parts (is_ascending d && list_all (has_value e) d) (is_sub_box ds es) h).1

lies_sub : (t : List ℤ) (ds es : Box) → is_sub_box ds es ≡ true → LiesIn t ds → LiesIn t es
lies_sub [] [] [] h k = tt
lies_sub [] [] (e ∷ es) h k = cc
lies_sub [] (d ∷ ds) es h k = absurd k
lies_sub (v ∷ t) [] es h k = absurd k
lies_sub (v ∷ t) (d ∷ ds) [] h k = cc
lies_sub (v ∷ t) (d ∷ ds) (e ∷ es) h k =
    let p = and_parts (is_ascending d && list_all (has_value e) d) (is_sub_box ds es) h in
    let q = and_parts (is_ascending d) (list_all (has_value e) d) p.0 in
    (has_to e v (all_to (has_value e) d q.1 v k.0), lies_sub t ds es p.1 k.1)

pub part_declared : (g : Game) (i : ℕ) (box : Box) → is_sub_box box (declared_box g) ≡ true → (t : List ℤ) → LiesIn t (part g i box) → LiesIn t (scope_domains g i)
part_declared g i box d t l =
    lies_sub t (part g i box) (scope_domains g i) (sub_drop (before g i) (take (before g (suc i)) box) (take (before g (suc i)) (declared_box g)) (sub_take (before g (suc i)) box (declared_box g) d)) l
