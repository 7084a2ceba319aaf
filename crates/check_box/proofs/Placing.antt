-- Values read into their places from a box in which variables have one value left.
use Rattle.std.proofs.Common.{◌≡◌, ℕ, zero, suc, ◌<◌, ◌≤◌, ◌+◌, Bool, true, false, ◌||◌, cond, List, [], ◌∷◌, length, take, drop, map, set, replicate, refl, sym, ap, ◌∙◌, subst, arith, ℤ, add-one}
use Rattle.std.specs.Prelude.{filter, pos}
use Rattle.std.specs.List.{list_all}
use Rattle.std.proofs.lemmas.Bool.{or_from, and_from}
use Rattle.qc_model.specs.Content.{Game}
use Rattle.qc_model.specs.Domains.{Values, Box, values_left, is_none_left, has_empty, is_single, least_value, box_values}
use Rattle.qc_model.specs.Game.{before}
use Rattle.qc_model.specs.Valid.{is_number}
use Rattle.qc_model.proofs.Readable.{first, second}
use Rattle.proof_tree.specs.Place.{position}
use Rattle.check_box.specs.Placed.{only, values_to, IsAt}

pub single_only : (vs : Values) → is_single vs ≡ true → vs ≡ only (least_value vs)
single_only [] e = cc
single_only (v ∷ []) e = refl
single_only (v ∷ w ∷ vs) e = cc

pub single_some : (vs : Values) → is_single vs ≡ true → is_none_left vs ≡ false
single_some [] e = cc
single_some (v ∷ vs) e = refl

-- one of those that have one value left
pub fixed_at : (box : Box) (from stop k : ℕ) → from ≤ k → k < stop → stop ≤ length box → list_all is_single (drop from (take stop box)) ≡ true → is_single (values_left box k) ≡ true
fixed_at [] from stop k h l m e = absurd (omega arith)
fixed_at (d ∷ box) from zero k h l m e = absurd (omega arith)
fixed_at (d ∷ box) zero (suc stop) zero h l m e = first (is_single d) (list_all is_single (take stop box)) e
fixed_at (d ∷ box) zero (suc stop) (suc k) h l m e = fixed_at box zero stop k (omega arith) (omega arith) (omega arith) (second (is_single d) (list_all is_single (take stop box)) e)
fixed_at (d ∷ box) (suc from) (suc stop) zero h l m e = absurd (omega arith)
fixed_at (d ∷ box) (suc from) (suc stop) (suc k) h l m e = fixed_at box from stop k (omega arith) (omega arith) (omega arith) e

-- one value more
pub placed_more : (vs : List ℤ) (box : Box) (k : ℕ) (v : ℤ) → k < length vs → k < length box → values_left box k ≡ only v → take k box ≡ map only (take k vs) → take (k + 1) box ≡ map only (take (k + 1) (set vs k v))
placed_more vs box k v h l e f = ap (λ n. take n box) (add-one k) ∙ (go vs box k h l e f ∙ sym (ap (λ n. map only (take n (set vs k v))) (add-one k)))
  where
    tails : (d e : Values) (ds es : Box) → ◌≡◌ {A = Box} (d ∷ ds) (e ∷ es) → (d ≡ e) × (ds ≡ es)
    tails d e ds es q = (cc, cc)

    go : (vs : List ℤ) (box : Box) (k : ℕ) → k < length vs → k < length box → values_left box k ≡ only v → take k box ≡ map only (take k vs) → take (suc k) box ≡ map only (take (suc k) (set vs k v))
    go [] box k h l e f = absurd (omega arith)
    go (u ∷ vs) [] k h l e f = absurd (omega arith)
    go (u ∷ vs) (d ∷ box) zero h l e f = ap (λ w. w ∷ []) e
    go (u ∷ vs) (d ∷ box) (suc k) h l e f =
        let t = tails d (only u) (take k box) (map only (take k vs)) f in
        ap (λ w. w ∷ take (suc k) box) t.0 ∙ ap (λ ws. only u ∷ ws) (go vs box k (omega arith) (omega arith) e t.1)

pub kept_before : (vs : List ℤ) (from k : ℕ) (v : ℤ) → from ≤ k → take from (set vs k v) ≡ take from vs
kept_before vs zero k v h = refl
kept_before [] (suc from) k v h = refl
kept_before (u ∷ vs) (suc from) zero v h = absurd (omega arith)
kept_before (u ∷ vs) (suc from) (suc k) v h = ap (λ ws. u ∷ ws) (kept_before vs from k v (omega arith))

pub kept_after : (vs : List ℤ) (stop k : ℕ) (v : ℤ) → k < stop → drop stop (set vs k v) ≡ drop stop vs
kept_after vs zero k v h = absurd (omega arith)
kept_after [] (suc stop) k v h = refl
kept_after (u ∷ vs) (suc stop) zero v h = refl
kept_after (u ∷ vs) (suc stop) (suc k) v h = kept_after vs stop k v (omega arith)

pub numbers_set : (vs : List ℤ) (k : ℕ) (v : ℤ) → list_all is_number vs ≡ true → is_number v ≡ true → list_all is_number (set vs k v) ≡ true
numbers_set [] k v h e = refl
numbers_set (u ∷ vs) zero v h e = and_from (is_number v) (list_all is_number vs) e (second (is_number u) (list_all is_number vs) h)
numbers_set (u ∷ vs) (suc k) v h e = and_from (is_number u) (list_all is_number (set vs k v)) (first (is_number u) (list_all is_number vs) h) (numbers_set vs k v (second (is_number u) (list_all is_number vs) h) e)

pub numbers_to : (n : ℕ) (vs : List ℤ) → list_all is_number vs ≡ true → list_all is_number (take n vs) ≡ true
numbers_to zero vs h = refl
numbers_to (suc n) [] h = refl
numbers_to (suc n) (v ∷ vs) h = and_from (is_number v) (list_all is_number (take n vs)) (first (is_number v) (list_all is_number vs) h) (numbers_to n vs (second (is_number v) (list_all is_number vs) h))

-- as many numbers as there are places
pub numbers_none : (n : ℕ) → list_all is_number (replicate n (pos 0)) ≡ true
numbers_none zero = refl
numbers_none (suc n) = numbers_none n

-- the position is what stands in the first places
values_only : (vs : List ℤ) → box_values (map only vs) ≡ vs
values_only [] = refl
values_only (v ∷ vs) = ap (λ ws. v ∷ ws) (values_only vs)

pub position_placed : (g : Game) (i : ℕ) (vs : List ℤ) (box : Box) → IsAt g i vs box → position g i box ≡ values_to g i vs
position_placed g i vs box h = ap box_values h ∙ values_only (values_to g i vs)

-- after values of one variable went, unless one has none left
pub or_first : (a b : Bool) → (a || b) ≡ false → a ≡ false
or_first true b e = e
or_first false b e = refl

pub or_second : (a b : Bool) → (a || b) ≡ false → b ≡ false
or_second true b e = cc
or_second false b e = e

pub full_before : (p : ℤ → Bool) (box : Box) (x : ℕ) → has_empty (set box x (filter p (values_left box x))) ≡ false → has_empty box ≡ false
full_before p [] x f = f
full_before p ([] ∷ box) zero f = or_first true (has_empty box) f
full_before p ((v ∷ d) ∷ box) zero f = or_second (is_none_left (filter p (v ∷ d))) (has_empty box) f
full_before p (d ∷ box) (suc x) f = or_from (is_none_left d) (has_empty box) (or_first (is_none_left d) _ f) (full_before p box x (or_second (is_none_left d) (has_empty (set box x (filter p (values_left box x)))) f))

placed_filtered : (p : ℤ → Bool) (box : Box) (x n : ℕ) (ws : List ℤ) → has_empty (set box x (filter p (values_left box x))) ≡ false → take n box ≡ map only ws → take n (set box x (filter p (values_left box x))) ≡ map only ws
placed_filtered p [] x n ws f e = e
placed_filtered p (d ∷ box) x zero ws f e = e
placed_filtered p (d ∷ box) x (suc n) [] f e = let q : ◌≡◌ {A = Box} (d ∷ take n box) [] = e in cc
placed_filtered p (d ∷ box) zero (suc n) (w ∷ ws) f e =
    let t = tails d (only w) (take n box) (map only ws) e in
    ap (λ c. c ∷ take n box) (by (p w) refl (subst (λ c. is_none_left (filter p c) ≡ false) t.0 (or_first (is_none_left (filter p d)) (has_empty box) f)) t.0) ∙ ap (λ cs. only w ∷ cs) t.1
  where
    tails : (d e : Values) (ds es : Box) → ◌≡◌ {A = Box} (d ∷ ds) (e ∷ es) → (d ≡ e) × (ds ≡ es)
    tails d e ds es q = (cc, cc)

    by : (b : Bool) → p w ≡ b → is_none_left (filter p (only w)) ≡ false → d ≡ only w → filter p d ≡ only w
    by true h k q = ap (filter p) q ∙ ap (λ b. cond b (w ∷ []) []) h
    by false h k q = let c : true ≡ false = sym (ap (λ b. is_none_left (cond b (w ∷ []) [])) h) ∙ k in cc
placed_filtered p (d ∷ box) (suc x) (suc n) (w ∷ ws) f e =
    let t = tails d (only w) (take n box) (map only ws) e in
    ap (λ c. c ∷ take n (set box x (filter p (values_left box x)))) t.0
    ∙ ap (λ cs. only w ∷ cs) (placed_filtered p box x n ws (or_second (is_none_left d) (has_empty (set box x (filter p (values_left box x)))) f) t.1)
  where
    tails : (d e : Values) (ds es : Box) → ◌≡◌ {A = Box} (d ∷ ds) (e ∷ es) → (d ≡ e) × (ds ≡ es)
    tails d e ds es q = (cc, cc)

pub at_filtered : (g : Game) (i : ℕ) (vs : List ℤ) (box new : Box) (x : ℕ) (p : ℤ → Bool) → new ≡ set box x (filter p (values_left box x)) → (has_empty box ≡ false → IsAt g i vs box) → has_empty new ≡ false → IsAt g i vs new
at_filtered g i vs box new x p e h f =
    let full = ap has_empty (sym e) ∙ f in
    subst (IsAt g i vs) (sym e) (placed_filtered p box x (before g i) (values_to g i vs) full (h (full_before p box x full)))
