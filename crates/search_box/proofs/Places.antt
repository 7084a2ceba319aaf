-- Variables that have one value left, and the values read from them.
pub use Rattle.box_laws.proofs.Readings.{read_numbers}
use Rattle.std.proofs.Common.{◌≡◌, ℕ, zero, suc, ◌<◌, ◌≤◌, ◌+◌, true, List, [], ◌∷◌, length, take, drop, refl, sym, ap, ◌∙◌, arith, ℤ, add-one}
use Rattle.std.specs.List.{list_all}
use Rattle.std.proofs.lemmas.Bool.{and_from}
use Rattle.qc_model.specs.Content.{Game}
use Rattle.qc_model.specs.Domains.{Box, values_left, box_values, is_single, least_value}
use Rattle.qc_model.proofs.Readable.{first, second}

-- one more variable has one value left
pub fixed_more : (box : Box) (x at : ℕ) → x ≤ at → at < length box → is_single (values_left box at) ≡ true → list_all is_single (drop x (take at box)) ≡ true → list_all is_single (drop x (take (at + 1) box)) ≡ true
fixed_more box x at l h s e = ap (λ n. list_all is_single (drop x (take n box))) (add-one at) ∙ go box x at l h s e
  where
    go : (box : Box) (x at : ℕ) → x ≤ at → at < length box → is_single (values_left box at) ≡ true → list_all is_single (drop x (take at box)) ≡ true → list_all is_single (drop x (take (suc at) box)) ≡ true
    go [] x at l h s e = absurd (omega arith)
    go (d ∷ box) zero zero l h s e = and_from (is_single d) true s refl
    go (d ∷ box) zero (suc at) l h s e =
        and_from (is_single d) (list_all is_single (take (suc at) box)) (first (is_single d) (list_all is_single (take at box)) e)
        (go box zero at (omega arith) (omega arith) s (second (is_single d) (list_all is_single (take at box)) e))
    go (d ∷ box) (suc x) zero l h s e = absurd (omega arith)
    go (d ∷ box) (suc x) (suc at) l h s e = go box x at (omega arith) (omega arith) s e

pub fixed_none : (box : Box) (x : ℕ) → list_all is_single (drop x (take x box)) ≡ true
fixed_none [] zero = refl
fixed_none [] (suc x) = refl
fixed_none (d ∷ box) zero = refl
fixed_none (d ∷ box) (suc x) = fixed_none box x

-- the variables before m, and those from m to the one before n, are those before n
pub fixed_both : (box : Box) (m n : ℕ) → m ≤ n → list_all is_single (take m box) ≡ true → list_all is_single (drop m (take n box)) ≡ true → list_all is_single (take n box) ≡ true
fixed_both box zero n l e f = f
fixed_both box (suc m) zero l e f = absurd (omega arith)
fixed_both [] (suc m) (suc n) l e f = refl
fixed_both (d ∷ box) (suc m) (suc n) l e f =
    and_from (is_single d) (list_all is_single (take n box)) (first (is_single d) (list_all is_single (take m box)) e)
    (fixed_both box m n (omega arith) (second (is_single d) (list_all is_single (take m box)) e) f)

pub fixed_fewer : (box : Box) (m n : ℕ) → m ≤ n → list_all is_single (take n box) ≡ true → list_all is_single (take m box) ≡ true
fixed_fewer box zero n l e = refl
fixed_fewer box (suc m) zero l e = absurd (omega arith)
fixed_fewer [] (suc m) (suc n) l e = refl
fixed_fewer (d ∷ box) (suc m) (suc n) l e =
    and_from (is_single d) (list_all is_single (take m box)) (first (is_single d) (list_all is_single (take n box)) e)
    (fixed_fewer box m n (omega arith) (second (is_single d) (list_all is_single (take n box)) e))

tails : (u : ℤ) (us : List ℤ) (w : ℤ) (ws : List ℤ) → ◌≡◌ {A = List ℤ} (u ∷ us) (w ∷ ws) → (u ≡ w) × (us ≡ ws)
tails u us w ws e = (cc, cc)

-- the values of fewer variables stand, too
pub stand_fewer : (vs : List ℤ) (box : Box) (m n : ℕ) → m ≤ n → take n vs ≡ box_values (take n box) → take m vs ≡ box_values (take m box)
stand_fewer vs box zero n l e = refl
stand_fewer vs box (suc m) zero l e = absurd (omega arith)
stand_fewer [] [] (suc m) (suc n) l e = refl
stand_fewer [] (d ∷ box) (suc m) (suc n) l e = cc
stand_fewer (v ∷ vs) [] (suc m) (suc n) l e = cc
stand_fewer (v ∷ vs) (d ∷ box) (suc m) (suc n) l e =
    let t = tails v (take n vs) (least_value d) (box_values (take n box)) e in
    ap (λ w. w ∷ take m vs) t.0 ∙ ap (λ ws. least_value d ∷ ws) (stand_fewer vs box m n (omega arith) t.1)

pub take_all : {X : Type 0} (xs : List X) (n : ℕ) → length xs ≤ n → take n xs ≡ xs
take_all [] zero l = refl
take_all [] (suc n) l = refl
take_all (x ∷ xs) zero l = absurd (omega arith)
take_all (x ∷ xs) (suc n) l = ap (λ ys. x ∷ ys) (take_all xs n (omega arith))

-- the values of all variables
pub all_read : (g : Game) (vs : List ℤ) (box : Box) → length vs ≡ length g.variables → take (length g.variables) vs ≡ box_values (take (length g.variables) box) → vs ≡ box_values (take (length g.variables) box)
all_read g vs box l e = sym (take_all vs (length g.variables) (omega (arith, l))) ∙ e

-- from one variable to another, and on to a third
pub fixed_join : (box : Box) (from x stop : ℕ) → from ≤ x → x ≤ stop → list_all is_single (drop from (take x box)) ≡ true → list_all is_single (drop x (take stop box)) ≡ true → list_all is_single (drop from (take stop box)) ≡ true
fixed_join box zero x stop l m e f = fixed_both box x stop m e f
fixed_join [] (suc from) zero stop l m e f = absurd (omega arith)
fixed_join [] (suc from) (suc x) zero l m e f = refl
fixed_join [] (suc from) (suc x) (suc stop) l m e f = refl
fixed_join (d ∷ box) (suc from) zero stop l m e f = absurd (omega arith)
fixed_join (d ∷ box) (suc from) (suc x) zero l m e f = absurd (omega arith)
fixed_join (d ∷ box) (suc from) (suc x) (suc stop) l m e f = fixed_join box from x stop (omega arith) (omega arith) e f
