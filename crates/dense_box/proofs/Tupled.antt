-- Values that are a tuple, and taken one after another.
use Rattle.std.proofs.Common.{Bool, List, [], ap, arith, drop, false, get_or, inl, inr, length, map, refl, set, subst, suc, sym, take, true, zero, ℕ, ℤ, ◌&&◌, ◌++◌, ◌+◌, ◌-◌, ◌<◌, ◌||◌, ◌∙◌, ◌∷◌, ◌≡◌, ◌≤◌, ◌⊎◌}
use Rattle.std.proofs.lemmas.List.{drop_more, length-set}
use Rattle.qc_model.specs.Domains.{Values, Box, values_left, box_at, box_within, has_value, has_empty, is_none_left, is_ascending}
use Rattle.qc_model.specs.Content.{Game}
use Rattle.qc_model.specs.Game.{before}
use Rattle.qc_model.proofs.Conjunctions.{first, second}
use Rattle.model_arguments.proofs.Values.{only_within}
use Rattle.dense_tree.specs.Tuples.{are_of, is_tuple_of, box_taken}
use Rattle.dense_box.specs.Taking.{taken_from}
use Rattle.dense_box.proofs.Rows.{row_at, row_done, row_count}

-- a tuple has a value for each domain
are_counted : (ds : List Values) (vs : List ℤ) → are_of ds vs ≡ true → length vs ≡ length ds
are_counted [] [] e = refl
are_counted [] (v ∷ vs) e = cc
are_counted (d ∷ ds) [] e = cc
are_counted (d ∷ ds) (v ∷ vs) e = ap suc (are_counted ds vs (second (has_value d v) (are_of ds vs) e))

module _ (box : Box) (from stop : ℕ) (vs : List ℤ) where
  pub miscounted : stop ≤ length box → ((length vs ≡ stop - from) → ⊥) → are_of (drop from (take stop box)) vs ≡ false
  miscounted l n = go (are_of (drop from (take stop box)) vs) refl
    where
      go : (b : Bool) → are_of (drop from (take stop box)) vs ≡ b → b ≡ false
      go true e = absurd (n (are_counted (drop from (take stop box)) vs e ∙ row_count box from stop l))
      go false e = refl

  pub counted : stop ≤ length box → are_of (drop from (take stop box)) vs ≡ true → length vs ≡ stop - from
  counted l e = are_counted (drop from (take stop box)) vs e ∙ row_count box from stop l

  module _ (k : ℕ) (d : ℤ) (h : k < length vs) (t : from + k < stop) (l : stop ≤ length box) where
    -- one more of each
    both_at : are_of (drop (from + k) (take stop box)) (drop k vs) ≡ (has_value (values_left box (from + k)) (get_or vs k d) && are_of (drop (from + (k + 1)) (take stop box)) (drop (k + 1) vs))
    both_at =
        let next : suc (from + k) ≡ from + (k + 1) = omega arith in
        ap (λ us. are_of us (drop k vs)) (row_at box (from + k) stop t l)
        ∙ (ap (are_of (values_left box (from + k) ∷ drop (suc (from + k)) (take stop box))) (drop_more vs k d h)
        ∙ ap (λ n. has_value (values_left box (from + k)) (get_or vs k d) && are_of (drop n (take stop box)) (drop (k + 1) vs)) next)

    pub is_there : are_of (drop (from + k) (take stop box)) (drop k vs) ≡ true → has_value (values_left box (from + k)) (get_or vs k d) ≡ true
    is_there e = first (has_value (values_left box (from + k)) (get_or vs k d)) (are_of (drop (from + (k + 1)) (take stop box)) (drop (k + 1) vs)) (sym both_at ∙ e)

    pub rest_there : are_of (drop (from + k) (take stop box)) (drop k vs) ≡ true → are_of (drop (from + (k + 1)) (take stop box)) (drop (k + 1) vs) ≡ true
    rest_there e = second (has_value (values_left box (from + k)) (get_or vs k d)) (are_of (drop (from + (k + 1)) (take stop box)) (drop (k + 1) vs)) (sym both_at ∙ e)

    pub taken_more : taken_from (from + k) (drop k vs) box ≡ taken_from (from + (k + 1)) (drop (k + 1) vs) (box_at box (from + k) (get_or vs k d))
    taken_more =
        let next : suc (from + k) ≡ from + (k + 1) = omega arith in
        ap (λ us. taken_from (from + k) us box) (drop_more vs k d h)
        ∙ ap (λ n. taken_from n (drop (k + 1) vs) (box_at box (from + k) (get_or vs k d))) next

-- values are taken from variables before
pub later_kept : (box : Box) (k stop : ℕ) (us : Values) (n : ℕ) → k < n → drop n (take stop (set box k us)) ≡ drop n (take stop box)
later_kept [] k stop us n h = refl
later_kept (d ∷ box) k zero us n h = refl
later_kept (d ∷ box) k (suc stop) us zero h = absurd (omega arith)
later_kept (d ∷ box) zero (suc stop) us (suc n) h = refl
later_kept (d ∷ box) (suc k) (suc stop) us (suc n) h = later_kept box k stop us n (omega arith)

-- one value alone
pub one_left : (box : Box) (x : ℕ) (v : ℤ) → is_ascending (values_left box x) ≡ true → has_value (values_left box x) v ≡ true → box_within box x v v ≡ box_at box x v
one_left box x v a h = ap (set box x) (only_within v (values_left box x) a h)

-- the whole tuple
shift : (x : ℕ) (vs : List ℤ) (d : Values) (box : Box) → taken_from (suc x) vs (d ∷ box) ≡ d ∷ taken_from x vs box
shift x [] d box = refl
shift x (v ∷ vs) d box = shift (suc x) vs d (box_at box x v)

pub taken_whole : (from stop : ℕ) (vs : List ℤ) (box : Box) → stop ≡ from + length vs → stop ≤ length box → taken_from from vs box ≡ take from box ++ (map (λ v. v ∷ []) vs ++ drop stop box)
taken_whole zero stop [] box e h = let none : 0 ≡ stop = omega arith in ap (λ n. drop n box) none
taken_whole zero stop (v ∷ vs) [] e h = absurd (omega arith)
taken_whole zero zero (v ∷ vs) (d ∷ box) e h = absurd (omega arith)
taken_whole zero (suc stop) (v ∷ vs) (d ∷ box) e h = shift zero vs (v ∷ []) box ∙ ap (λ b. (v ∷ []) ∷ b) (taken_whole zero stop vs box (omega arith) (omega arith))
taken_whole (suc from) stop vs [] e h = absurd (omega arith)
taken_whole (suc from) zero vs (d ∷ box) e h = absurd (omega arith)
taken_whole (suc from) (suc stop) vs (d ∷ box) e h = shift from vs d box ∙ ap (λ b. d ∷ b) (taken_whole from stop vs box (omega arith) (omega arith))

-- the tuple of a scope
pub taken_is : (g : Game) (i from stop : ℕ) (vs : List ℤ) (box : Box) → from ≡ before g i → stop ≡ before g (suc i) → from ≤ stop → stop ≤ length box → is_tuple_of g i box vs ≡ true → taken_from from vs box ≡ box_taken g i box vs
taken_is g i from stop vs box e f o l h =
    let row : are_of (drop from (take stop box)) vs ≡ true = ap (λ n. are_of (drop n (take stop box)) vs) e ∙ (ap (λ n. are_of (drop (before g i) (take n box)) vs) f ∙ h) in
    let many = counted box from stop vs l row in
    taken_whole from stop vs box (omega (arith, many, o)) l
    ∙ (ap (λ n. take n box ++ (map (λ v. v ∷ []) vs ++ drop stop box)) e ∙ ap (λ n. take (before g i) box ++ (map (λ v. v ∷ []) vs ++ drop n box)) f)

-- a value for values leaves as many domains empty
pub one_full : (box : Box) (x : ℕ) (v : ℤ) → has_value (values_left box x) v ≡ true → has_empty (box_at box x v) ≡ has_empty box
one_full [] x v h = refl
one_full ([] ∷ box) zero v h = cc
one_full ((u ∷ d) ∷ box) zero v h = refl
one_full (d ∷ box) (suc x) v h = ap (λ b. is_none_left d || b) (one_full box x v h)

-- what each value taken keeps
module _ (P : Box → Type 0) (keeps : (box : Box) (n : ℕ) (v : ℤ) → has_value (values_left box n) v ≡ true → P box → P (box_at box n v)) where
  side : (a b : ℕ) → (a < b) ⊎ (b ≤ a)
  side a b = grind arith

  one_more : (from stop : ℕ) (v : ℤ) (vs : List ℤ) (box : Box) → stop ≤ length box → are_of (drop from (take stop box)) (v ∷ vs) ≡ true → P box →
      ((new : Box) → stop ≤ length new → are_of (drop (suc from) (take stop new)) vs ≡ true → P new → P (taken_from (suc from) vs new)) → P (taken_from from (v ∷ vs) box)
  one_more from stop v vs box l e h rest_keeps = by (side from stop)
    where
      none : are_of [] (v ∷ vs) ≡ true → P (taken_from from (v ∷ vs) box)
      none q = cc

      by : (from < stop) ⊎ (stop ≤ from) → P (taken_from from (v ∷ vs) box)
      by (inr b) = none (ap (λ us. are_of us (v ∷ vs)) (sym (row_done box from stop b)) ∙ e)
      by (inl b) =
          let both : (has_value (values_left box from) v && are_of (drop (suc from) (take stop box)) vs) ≡ true = ap (λ us. are_of us (v ∷ vs)) (sym (row_at box from stop b l)) ∙ e in
          let has = first (has_value (values_left box from) v) (are_of (drop (suc from) (take stop box)) vs) both in
          let rest = second (has_value (values_left box from) v) (are_of (drop (suc from) (take stop box)) vs) both in
          let one : Values = v ∷ [] in
          let long : stop ≤ length (box_at box from v) = omega (arith, l, length-set box from one) in
          rest_keeps (box_at box from v) long (ap (λ us. are_of us vs) (later_kept box from stop one (suc from) (omega arith)) ∙ rest) (keeps box from v has h)

  taken_keeps : (from stop : ℕ) (vs : List ℤ) (box : Box) → stop ≤ length box → are_of (drop from (take stop box)) vs ≡ true → P box → P (taken_from from vs box)
  taken_keeps from stop [] box l e h = h
  taken_keeps from stop (v ∷ vs) box l e h = one_more from stop v vs box l e h (λ new m q k. taken_keeps (suc from) stop vs new m q k)

  pub tuple_keeps : (g : Game) (i : ℕ) (vs : List ℤ) (box : Box) → before g i ≤ before g (suc i) → before g (suc i) ≤ length box → is_tuple_of g i box vs ≡ true → P box → P (box_taken g i box vs)
  tuple_keeps g i vs box o l h k = subst P (taken_is g i (before g i) (before g (suc i)) vs box refl refl o l h) (taken_keeps (before g i) (before g (suc i)) vs box l h k)

-- no domain becomes empty, and none is filled
pub tuple_full : (g : Game) (i : ℕ) (vs : List ℤ) (box : Box) → before g i ≤ before g (suc i) → before g (suc i) ≤ length box → is_tuple_of g i box vs ≡ true → has_empty (box_taken g i box vs) ≡ has_empty box
tuple_full g i vs box o l h = tuple_keeps (λ b. has_empty b ≡ has_empty box) (λ b n v q e. one_full b n v q ∙ e) g i vs box o l h refl
