-- Items of a list in a row.
use Rattle.std.proofs.Common.{◌≡◌, ◌∙◌, refl, sym, ap, ℕ, zero, suc, ◌+◌, ◌-◌, ◌<◌, ◌≤◌, Bool, true, false, ◌&&◌, ◌||◌, List, [], ◌∷◌, length, take, drop, Some, add-one, arith, cond}
use Rattle.std.specs.Prelude.{slice_get, nat_le, nat_lt, filter, ◌==◌}
use Rattle.std.specs.List.{list_all, list_any}
use Rattle.std.proofs.lemmas.Bool.Decides.{nat_tests}
use Rattle.std.proofs.lemmas.List.{length-drop, length-take-le}
use Rattle.qc_model.specs.Block.{is_owned_within, constraints_within}
use Rattle.qc_model.specs.Content.{Game, Rule}
use Rattle.qc_model.specs.Domains.{Values, Box, values_left}
use Rattle.qc_model.specs.Game.{restriction}
use Rattle.model_levels.proofs.Items.{drop_at}

-- those from one place to the one before another, where the first is known
slice_at : {X : Type 0} (xs : List X) (k end : ℕ) (x : X) → slice_get xs k ≡ Some x → k < end → take (end - k) (drop k xs) ≡ x ∷ take (end - (k + 1)) (drop (k + 1) xs)
slice_at xs k end x e h =
    let more : end - k ≡ suc (end - (k + 1)) = omega arith in
    ap (λ n. take n (drop k xs)) more
    ∙ (ap (take (suc (end - (k + 1)))) (drop_at k xs x e)
    ∙ ap (λ n. x ∷ take (end - (k + 1)) (drop n xs)) (sym (add-one k)))

module _ {X : Type 0} (p : X → Bool) (xs : List X) (k end : ℕ) where
  pub all_done : end ≤ k → list_all p (take (end - k) (drop k xs)) ≡ true
  all_done h = let none : end - k ≡ 0 = omega arith in ap (λ n. list_all p (take n (drop k xs))) none

  pub any_done : end ≤ k → list_any p (take (end - k) (drop k xs)) ≡ false
  any_done h = let none : end - k ≡ 0 = omega arith in ap (λ n. list_any p (take n (drop k xs))) none

  module _ (x : X) (e : slice_get xs k ≡ Some x) (h : k < end) where
    pub all_fails : p x ≡ false → list_all p (take (end - k) (drop k xs)) ≡ false
    all_fails f = ap (list_all p) (slice_at xs k end x e h) ∙ ap (λ b. b && list_all p (take (end - (k + 1)) (drop (k + 1) xs))) f

    pub all_goes : p x ≡ true → list_all p (take (end - (k + 1)) (drop (k + 1) xs)) ≡ list_all p (take (end - k) (drop k xs))
    all_goes t = sym (ap (list_all p) (slice_at xs k end x e h) ∙ ap (λ b. b && list_all p (take (end - (k + 1)) (drop (k + 1) xs))) t)

    pub any_found : p x ≡ true → list_any p (take (end - k) (drop k xs)) ≡ true
    any_found t = ap (list_any p) (slice_at xs k end x e h) ∙ ap (λ b. b || list_any p (take (end - (k + 1)) (drop (k + 1) xs))) t

    pub any_goes : p x ≡ false → list_any p (take (end - (k + 1)) (drop (k + 1) xs)) ≡ list_any p (take (end - k) (drop k xs))
    any_goes f = sym (ap (list_any p) (slice_at xs k end x e h) ∙ ap (λ b. b || list_any p (take (end - (k + 1)) (drop (k + 1) xs))) f)

-- a scope's own constraints are its restriction
pub own_rules : (g : Game) (i : ℕ) → constraints_within g i (suc i) ≡ restriction g i
own_rules g i = go g.constraints
  where
    same : (k : ℕ) → (nat_le i k && nat_lt k (suc i)) ≡ (k == i)
    same k = grind (arith, nat_tests)

    go : (cs : List Rule) → filter (is_owned_within i (suc i)) cs ≡ filter (λ c. c.owner.0 == i) cs
    go [] = refl
    go (c ∷ cs) =
        ap (λ b. cond b (c ∷ filter (is_owned_within i (suc i)) cs) (filter (is_owned_within i (suc i)) cs)) (same c.owner.0)
        ∙ ap (λ ds. cond (c.owner.0 == i) (c ∷ ds) ds) (go cs)

-- variables of a box in a row
pub row_at : (box : Box) (k stop : ℕ) → k < stop → stop ≤ length box → drop k (take stop box) ≡ values_left box k ∷ drop (suc k) (take stop box)
row_at [] k stop h l = absurd (omega arith)
row_at (d ∷ box) k zero h l = absurd (omega arith)
row_at (d ∷ box) zero (suc stop) h l = refl
row_at (d ∷ box) (suc k) (suc stop) h l = row_at box k stop (omega arith) (omega arith)

pub row_done : (box : Box) (k stop : ℕ) → stop ≤ k → drop k (take stop box) ≡ []
row_done [] zero zero h = refl
row_done [] zero (suc stop) h = refl
row_done [] (suc k) zero h = refl
row_done [] (suc k) (suc stop) h = refl
row_done (d ∷ box) zero zero h = refl
row_done (d ∷ box) zero (suc stop) h = absurd (omega arith)
row_done (d ∷ box) (suc k) zero h = refl
row_done (d ∷ box) (suc k) (suc stop) h = row_done box k stop (omega arith)

pub row_count : (box : Box) (from stop : ℕ) → stop ≤ length box → length (drop from (take stop box)) ≡ stop - from
row_count box from stop h = length-drop from (take stop box) ∙ ap (λ n. n - from) (length-take-le stop box h)

module _ (p : Values → Bool) (box : Box) (k stop : ℕ) where
  pub row_ends : stop ≤ k → list_all p (drop k (take stop box)) ≡ true
  row_ends h = ap (list_all p) (row_done box k stop h)

  pub row_fails : k < stop → stop ≤ length box → p (values_left box k) ≡ false → list_all p (drop k (take stop box)) ≡ false
  row_fails h l f = ap (list_all p) (row_at box k stop h l) ∙ ap (λ b. b && list_all p (drop (suc k) (take stop box))) f

  pub row_goes : k < stop → stop ≤ length box → p (values_left box k) ≡ true → list_all p (drop (k + 1) (take stop box)) ≡ list_all p (drop k (take stop box))
  row_goes h l t = ap (λ n. list_all p (drop n (take stop box))) (add-one k) ∙ sym (ap (list_all p) (row_at box k stop h l) ∙ ap (λ b. b && list_all p (drop (suc k) (take stop box))) t)

-- there is something at each place of a list
pub item_there : {X : Type 0} (xs : List X) (k : ℕ) → k < length xs → (x : X) × (slice_get xs k ≡ Some x)
item_there [] k h = absurd (omega arith)
item_there (x ∷ xs) zero h = (x, refl)
item_there (x ∷ xs) (suc k) h = item_there xs k (omega arith)
