-- Ranges that have the same of some values.
use Rattle.std.proofs.Common.{◌≡◌, ℕ, Bool, true, false, not, ◌&&◌, cond, [], ◌∷◌, ◌||◌, ◌<◌, length, set, refl, sym, ap, subst, ◌∙◌, ℤ}
use Rattle.std.specs.Prelude.{◌≤ℤ◌, int_le}
use Rattle.std.specs.List.{list_all}
use Rattle.qc_model.specs.Content.{Rule}
use Rattle.qc_model.specs.Domains.{Values, Box, values_left, values_within, values_outside, box_within, box_without, is_within, is_none_left, has_value, least_value, greatest_value}
use Rattle.qc_model.specs.Refuted.{refuted_by}
use Rattle.qc_model.specs.Valid.{is_number}
use Rattle.model_arguments.proofs.Kept.{low_end, high_end}
use Rattle.model_arguments.proofs.Values.{has_first, has_least, has_greatest}
use Rattle.std.specs.Ordering.{int_eq}
use Rattle.std.proofs.lemmas.Bool.Decides.{Decides-int_eq}
use Rattle.qc_model.specs.declared.problem.VarId.{VarId}
use Rattle.qc_model.proofs.Readable.{first, second}
use Rattle.prop_base.specs.declared.cuts.Cut.{Cut}
use Rattle.prop_base.specs.Closed.{IsCut}

-- what has values among these is one of them, and of numbers a number
has_later : (v w : ℤ) (vs : Values) → has_value vs w ≡ true → has_value (v ∷ vs) w ≡ true
has_later v w vs h = by (int_eq w v) h
  where
    by : (b : Bool) → has_value vs w ≡ true → (b || has_value vs w) ≡ true
    by true e = refl
    by false e = e

number_among : (vs : Values) (w : ℤ) → list_all is_number vs ≡ true → has_value vs w ≡ true → is_number w ≡ true
number_among [] w a h = absurd cc
number_among (v ∷ vs) w a h = by (int_eq w v) refl (number_among vs w (second (is_number v) (list_all is_number vs) a)) h
  where
    by : (b : Bool) → int_eq w v ≡ b → (has_value vs w ≡ true → is_number w ≡ true) → (b || has_value vs w) ≡ true → is_number w ≡ true
    by true e later f = let k : w ≡ v = (Decides-int_eq w v).0 e in ap is_number k ∙ first (is_number v) (list_all is_number vs) a
    by false e later f = later f

-- both ranges have the same of the values from low to high
pub record IsNear (lo hi l u low high : ℤ) : Type 0 where
  pub first : (v : ℤ) → low ≤ℤ v → int_le l v ≡ int_le lo v
  pub last : (v : ℤ) → v ≤ℤ high → int_le v u ≡ int_le v hi

module _ (lo hi l u low high : ℤ) (n : IsNear lo hi l u low high) where
  abbrev AllBetween : Values → Type 0
  AllBetween vs = (v : ℤ) → has_value vs v ≡ true → (low ≤ℤ v) × (v ≤ℤ high)

  test_same : (v : ℤ) → low ≤ℤ v → v ≤ℤ high → is_within l u v ≡ is_within lo hi v
  test_same v a b = ap (λ t. t && int_le v u) (n.first v a) ∙ ap (λ t. int_le lo v && t) (n.last v b)

  head_same : (v : ℤ) (vs : Values) → AllBetween (v ∷ vs) → is_within l u v ≡ is_within lo hi v
  head_same v vs k = let b = k v (has_first v vs) in test_same v b.0 b.1

  within_same : (vs : Values) → AllBetween vs → values_within l u vs ≡ values_within lo hi vs
  within_same [] k = refl
  within_same (v ∷ vs) k =
      ap (λ b. cond b (v ∷ values_within l u vs) (values_within l u vs)) (head_same v vs k)
      ∙ ap (λ ws. cond (is_within lo hi v) (v ∷ ws) ws) (within_same vs (λ w h. k w (has_later v w vs h)))

  outside_same : (vs : Values) → AllBetween vs → values_outside l u vs ≡ values_outside lo hi vs
  outside_same [] k = refl
  outside_same (v ∷ vs) k =
      ap (λ b. cond (not b) (v ∷ values_outside l u vs) (values_outside l u vs)) (head_same v vs k)
      ∙ ap (λ ws. cond (not (is_within lo hi v)) (v ∷ ws) ws) (outside_same vs (λ w h. k w (has_later v w vs h)))

-- where the values left to x are from low to high
pub left_between : (box : Box) (x : ℕ) (v : ℤ) → has_value (values_left box x) v ≡ true → (least_value (values_left box x) ≤ℤ v) × (v ≤ℤ greatest_value (values_left box x))
left_between box x v h = (low_end (values_left box x) v h, high_end (values_left box x) v h)

some_left : (lo hi : ℤ) (vs : Values) → is_none_left (values_within lo hi vs) ≡ false → is_none_left vs ≡ false
some_left lo hi [] h = cc
some_left lo hi (v ∷ vs) h = refl

pub cut_left : (c : Rule) (box : Box) (k : Cut) → IsCut c box k → is_none_left (values_left box k.x.0) ≡ false
cut_left c box k h = some_left k.lo k.hi (values_left box k.x.0) h.some

pub ends_numbers : (vs : Values) → is_none_left vs ≡ false → list_all is_number vs ≡ true → (is_number (least_value vs) ≡ true) × (is_number (greatest_value vs) ≡ true)
ends_numbers vs n a = (number_among vs (least_value vs) a (has_least vs n), number_among vs (greatest_value vs) a (has_greatest vs n))

pub near_of : (lo hi l u low high : ℤ) (i j : ℤ) → i ≡ l → j ≡ u → ((v : ℤ) → low ≤ℤ v → int_le l v ≡ int_le lo v) → ((v : ℤ) → v ≤ℤ high → int_le v u ≡ int_le v hi) → IsNear lo hi i j low high
near_of lo hi l u low high i j e f a b = record {
  first = λ v h. ap (λ k. int_le k v) e ∙ a v h;
  last = λ v h. ap (int_le v) f ∙ b v h;
}

pub near_same : (box : Box) (x : ℕ) (lo hi l u : ℤ) → IsNear lo hi l u (least_value (values_left box x)) (greatest_value (values_left box x)) → box_without box x l u ≡ box_without box x lo hi
near_same box x lo hi l u n =
    let vs = values_left box x in
    ap (set box x) (outside_same lo hi l u (least_value vs) (greatest_value vs) n vs (left_between box x))

pub near_cut_is : (c : Rule) (box : Box) (k j : Cut) → j.x ≡ k.x → is_number j.lo ≡ true → is_number j.hi ≡ true → IsNear k.lo k.hi j.lo j.hi (least_value (values_left box k.x.0)) (greatest_value (values_left box k.x.0)) → IsCut c box k → IsCut c box j
near_cut_is c box k j e a b n h =
    let vs = values_left box k.x.0 in
    let s = within_same k.lo k.hi j.lo j.hi (least_value vs) (greatest_value vs) n vs (left_between box k.x.0) in
    record {
      x = subst (λ (y : VarId). y.0 < length box) (sym e) h.x;
      low = a;
      high = b;
      some = subst (λ (y : VarId). is_none_left (values_within j.lo j.hi (values_left box y.0)) ≡ false) (sym e) (ap is_none_left s ∙ h.some);
      refuted = subst (λ (y : VarId). refuted_by c (box_within box y.0 j.lo j.hi) ≡ true) (sym e) (ap (refuted_by c) (ap (set box k.x.0) s) ∙ h.refuted);
    }
