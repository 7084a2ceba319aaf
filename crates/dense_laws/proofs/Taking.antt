-- One tuple of a scope taken in a box, and cases of one variable.
use Rattle.std.proofs.Common.{◌≡◌, inl, inr, ℕ, zero, suc, Bool, true, false, ◌&&◌, List, [], ◌∷◌, ◌++◌, length, take, drop, map, set, refl, sym, ap, ◌∙◌, subst, arith, ℤ}
use Rattle.std.specs.Prelude.{int_lt}
use Rattle.std.specs.List.{list_all}
use Rattle.std.proofs.Math.Seq.{drop-append_seam}
use Rattle.std.proofs.lemmas.Int.{ints}
use Rattle.std.proofs.lemmas.List.{length-take, length-append, length-map, take-append-drop}
use Rattle.std.proofs.lemmas.Bool.{and_parts, and_from}
use Rattle.qc_model.specs.Content.{Game}
use Rattle.qc_model.specs.Domains.{InBox, Box, Values, declared_box, values_left, has_value, is_ascending, is_sub_box}
use Rattle.qc_model.specs.Game.{before, part}
use Rattle.qc_model.specs.Lists.{Among}
use Rattle.qc_model.proofs.Before.{before-le, before_up}
use Rattle.model_arguments.specs.Asked.{is_box_of}
use Rattle.model_arguments.proofs.Boxes.{sub_length, sub_ascending, set_same}
use Rattle.model_arguments.proofs.Values.{above_first, ascending_rest}
use Rattle.model_laws.proofs.Listed.{all_to}
use Rattle.proof_meaning.proofs.Widths.{take_scope}
use Rattle.dense_closing.proofs.Within.{sub_self, sub_set, all_own}
use Rattle.dense_meaning.specs.Plays.{KeepsFrom}
use Rattle.dense_tree.specs.Tuples.{are_of, is_tuple_of, box_taken}
use Rattle.dense_laws.proofs.FreeGames.{are_in}
use Rattle.dense_laws.proofs.Tuple.{lies_count, sub_take, sub_drop}

sub_append : (a b c d : Box) → is_sub_box a b ≡ true → is_sub_box c d ≡ true → is_sub_box (a ++ c) (b ++ d) ≡ true
sub_append [] [] c d h k = k
sub_append [] (f ∷ b) c d h k = cc
sub_append (e ∷ a) [] c d h k = cc
sub_append (e ∷ a) (f ∷ b) c d h k =
    let p = and_parts (is_ascending e && list_all (has_value f) e) (is_sub_box a b) h in
    and_from (is_ascending e && list_all (has_value f) e) (is_sub_box (a ++ c) (b ++ d)) p.0 (sub_append a b c d p.1 k)

sub_tuple : (ds : Box) (t : List ℤ) → are_of ds t ≡ true → is_sub_box (map (λ v. v ∷ []) t) ds ≡ true
sub_tuple [] [] e = refl
sub_tuple [] (v ∷ t) e = cc
sub_tuple (d ∷ ds) [] e = cc
sub_tuple (d ∷ ds) (v ∷ t) e =
    let p = and_parts (has_value d v) (are_of ds t) e in
    by (has_value d v) (is_sub_box (map (λ v. v ∷ []) t) ds) p.0 (sub_tuple ds t p.1)
  where
    by : (a b : Bool) → a ≡ true → b ≡ true → ((a && true) && b) ≡ true
    by true b p q = q
    by false b p q = cc

same_behind : (m : ℕ) (w : List ℤ) (ds es : Box) → drop m ds ≡ drop m es → InBox w es → InBox (take m w) ds → InBox w ds
same_behind zero w ds es e h k = subst (InBox w) (sym e) h
same_behind (suc m) [] ds es e h k = tt
same_behind (suc m) (v ∷ w) [] es e h k = absurd k
same_behind (suc m) (v ∷ w) (d ∷ ds) [] e h k = absurd h
same_behind (suc m) (v ∷ w) (d ∷ ds) (c ∷ es) e h k = (k.0, same_behind m w ds es e h.1 k.1)

module _ (g : Game) (i : ℕ) (box : Box) (d : is_box_of g box ≡ true) (t : List ℤ) (placed : is_tuple_of g i box t ≡ true) where
  whole : box ≡ take (before g i) box ++ (part g i box ++ drop (before g (suc i)) box)
  whole =
      sym (take-append-drop (before g (suc i)) box) ∙ ap (λ ds. ds ++ drop (before g (suc i)) box) (take_scope g i box)
      ∙ append_boxes (take (before g i) box) (part g i box) (drop (before g (suc i)) box)
    where
      append_boxes : (a b c : Box) → (a ++ b) ++ c ≡ a ++ (b ++ c)
      append_boxes [] b c = refl
      append_boxes (e ∷ a) b c = ap (λ u. e ∷ u) (append_boxes a b c)

  -- it is a part of the box
  pub taken_sub : is_sub_box (box_taken g i box t) box ≡ true
  taken_sub =
      let own = sub_self box (declared_box g) d in
      subst (λ b. is_sub_box (box_taken g i box t) b ≡ true) (sym whole)
      (sub_append (take (before g i) box) (take (before g i) box) (map (λ v. v ∷ []) t ++ drop (before g (suc i)) box) (part g i box ++ drop (before g (suc i)) box) (sub_take (before g i) box box own)
      (sub_append (map (λ v. v ∷ []) t) (part g i box) (drop (before g (suc i)) box) (drop (before g (suc i)) box) (sub_tuple (part g i box) t placed) (sub_drop (before g (suc i)) box box own)))

  long : length (take (before g i) box ++ map (λ v. v ∷ []) t) ≡ before g (suc i)
  long =
      let size = sub_length box (declared_box g) d in
      let most = before-le g (suc i) in
      let up = before_up g i in
      let count = lies_count t (part g i box) (are_in (part g i box) t placed) in
      omega (arith, length-append (take (before g i) box) (map (λ v. v ∷ []) t), length-map t (λ v. v ∷ []), count, length-take (before g i) box, ap length (take_scope g i box), length-append (take (before g i) box) (part g i box), length-take (before g (suc i)) box)

  pub taken_behind : drop (before g (suc i)) (box_taken g i box t) ≡ drop (before g (suc i)) box
  taken_behind =
      ap (drop (before g (suc i))) (sym (append_boxes (take (before g i) box) (map (λ v. v ∷ []) t) (drop (before g (suc i)) box)))
      ∙ subst (λ m. drop m ((take (before g i) box ++ map (λ v. v ∷ []) t) ++ drop (before g (suc i)) box) ≡ drop (before g (suc i)) box) long
      (drop-append_seam (take (before g i) box ++ map (λ v. v ∷ []) t) (drop (before g (suc i)) box))
    where
      append_boxes : (a b c : Box) → (a ++ b) ++ c ≡ a ++ (b ++ c)
      append_boxes [] b c = refl
      append_boxes (e ∷ a) b c = ap (λ u. e ∷ u) (append_boxes a b c)

  -- and leaves what comes as it is
  pub taken_keeps : KeepsFrom g (suc i) box (box_taken g i box t)
  taken_keeps w h k = same_behind (before g (suc i)) w (box_taken g i box t) box taken_behind h k

-- the values of a case
asc_take : (n : ℕ) (vs : Values) → is_ascending vs ≡ true → is_ascending (take n vs) ≡ true
asc_take zero vs h = refl
asc_take (suc n) [] h = refl
asc_take (suc zero) (v ∷ vs) h = refl
asc_take (suc (suc n)) (v ∷ []) h = refl
asc_take (suc (suc n)) (v ∷ w ∷ vs) h =
    let p = and_parts (int_lt v w) (is_ascending (w ∷ vs)) h in
    and_from (int_lt v w) (is_ascending (w ∷ take n vs)) p.0 (asc_take (suc n) (w ∷ vs) p.1)

asc_drop : (n : ℕ) (vs : Values) → is_ascending vs ≡ true → is_ascending (drop n vs) ≡ true
asc_drop zero vs h = h
asc_drop (suc n) [] h = refl
asc_drop (suc n) (v ∷ vs) h = asc_drop n vs (ascending_rest v vs h)

all_take : (p : ℤ → Bool) (n : ℕ) (vs : Values) → list_all p vs ≡ true → list_all p (take n vs) ≡ true
all_take p zero vs h = refl
all_take p (suc n) [] h = refl
all_take p (suc n) (v ∷ vs) h = let q = and_parts (p v) (list_all p vs) h in and_from (p v) (list_all p (take n vs)) q.0 (all_take p n vs q.1)

all_drop : (p : ℤ → Bool) (n : ℕ) (vs : Values) → list_all p vs ≡ true → list_all p (drop n vs) ≡ true
all_drop p zero vs h = h
all_drop p (suc n) [] h = refl
all_drop p (suc n) (v ∷ vs) h = all_drop p n vs (and_parts (p v) (list_all p vs) h).1

among_drop : (n : ℕ) (vs : Values) (z : ℤ) → Among z (drop n vs) → Among z vs
among_drop zero vs z m = m
among_drop (suc n) [] z m = m
among_drop (suc n) (v ∷ vs) z m = inr (among_drop n vs z m)

apart_parts : (n : ℕ) (vs : Values) → is_ascending vs ≡ true → (z : ℤ) → Among z (take n vs) → ¬ Among z (drop n vs)
apart_parts zero vs h z m k = m
apart_parts (suc n) [] h z m k = m
apart_parts (suc n) (v ∷ vs) h z (inl e) k =
    let l = all_to (int_lt v) vs (above_first v vs h) z (among_drop n vs z k) in
    absurd (subst (λ u. int_lt v u ≡ true → ⊥) (sym e) (irreflexive v) l)
  where
    irreflexive : (v : ℤ) → int_lt v v ≡ true → ⊥
    irreflexive v l = grind (arith, ints)
apart_parts (suc n) (v ∷ vs) h z (inr m) k = apart_parts n vs (ascending_rest v vs h) z m k

-- values of x that are left in a box, in their order
pub record Left (box : Box) (x : ℕ) (vs : Values) : Type 0 where
  pub ascending : is_ascending vs ≡ true
  pub some : list_all (has_value (values_left box x)) vs ≡ true

pub all_left : (g : Game) (box : Box) (x : ℕ) → is_box_of g box ≡ true → Left box x (values_left box x)
all_left g box x d = record { ascending = sub_ascending box (declared_box g) x d; some = all_own (values_left box x) }

pub left_parts : (box : Box) (x n : ℕ) (vs : Values) → Left box x vs → Left box x (take n vs) × Left box x (drop n vs) × ((z : ℤ) → Among z (take n vs) → ¬ Among z (drop n vs))
left_parts box x n vs l = (
  record { ascending = asc_take n vs l.ascending; some = all_take (has_value (values_left box x)) n vs l.some },
  record { ascending = asc_drop n vs l.ascending; some = all_drop (has_value (values_left box x)) n vs l.some },
  apart_parts n vs l.ascending,
)

pub left_sub : (g : Game) (box : Box) (x : ℕ) (vs : Values) → is_box_of g box ≡ true → Left box x vs → is_sub_box (set box x vs) box ≡ true
left_sub g box x vs d l =
    subst (λ b. is_sub_box (set box x vs) b ≡ true) (set_same box x (values_left box x) refl)
    (sub_set box box x vs (values_left box x) (sub_self box (declared_box g) d) l.ascending l.some)
