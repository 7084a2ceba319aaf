-- Boxes with some value for each variable.
use Rattle.std.proofs.Common.{◌≡◌, inl, ℕ, zero, suc, ◌≤◌, false, List, [], ◌∷◌, ◌++◌, length, take, drop, refl, sym, ap, subst, arith, ℤ}
use Rattle.std.proofs.lemmas.List.{length-drop}
use Rattle.std.proofs.lemmas.Bool.{or_parts}
use Rattle.qc_model.specs.Content.{Game}
use Rattle.qc_model.specs.Lists.{Among, LiesIn}
use Rattle.qc_model.specs.Domains.{InBox, Box, Values, declared_box, has_empty, is_none_left}
use Rattle.qc_model.specs.Game.{before}
use Rattle.qc_model.proofs.Before.{before-le, before_up}
use Rattle.proof_meaning.proofs.Boxes.{in_append, in_rest, in_take}
use Rattle.proof_meaning.proofs.Narrowed.{within_in}
use Rattle.proof_meaning.proofs.Widths.{part_rest, width}
use Rattle.dense_meaning.specs.Plays.{IsDeclared, HasValues}

least_among : (d : Values) → is_none_left d ≡ false → (v : ℤ) × Among v d
least_among [] e = cc
least_among (v ∷ d) e = (v, inl refl)

pub some_values : (n : ℕ) (ds : Box) → has_empty ds ≡ false → n ≤ length ds → (t : List ℤ) × (length t ≡ n) × InBox t ds
some_values zero ds e l = ([], refl, tt)
some_values (suc n) [] e l = absurd (omega arith)
some_values (suc n) (d ∷ ds) e l =
    let p = or_parts (is_none_left d) (has_empty ds) e in
    let v = least_among d p.0 in
    let r = some_values n ds p.1 (omega arith) in
    (v.0 ∷ r.0, ap suc r.1, (v.1, r.2))

full_drop : (n : ℕ) (ds : Box) → has_empty ds ≡ false → has_empty (drop n ds) ≡ false
full_drop zero ds e = e
full_drop (suc n) [] e = e
full_drop (suc n) (d ∷ ds) e = full_drop n ds (or_parts (is_none_left d) (has_empty ds) e).1

pub full_values : (g : Game) (i : ℕ) (box : Box) → has_empty box ≡ false → IsDeclared g box → HasValues g i box
full_values g i box full dec a at =
    let up = before_up g i in
    let most = before-le g (suc i) in
    let n = at.count in
    let size = dec.size in
    let r = some_values (width g i) (drop (length a) box) (full_drop (length a) box full) (omega (arith, length-drop (length a) box)) in
    let j : InBox (a ++ r.0) box = in_append a r.0 box at.lies r.2 in
    let k : InBox r.0 (drop (length a) (declared_box g)) = in_rest a r.0 (declared_box g) (within_in (a ++ r.0) box (declared_box g) dec.values j) in
    let m : LiesIn r.0 (take (width g i) (drop (before g i) (declared_box g))) =
    subst (λ z. LiesIn r.0 (take (width g i) (drop z (declared_box g)))) n (subst (λ z. LiesIn r.0 (take z (drop (length a) (declared_box g)))) r.1 (in_take r.0 (drop (length a) (declared_box g)) k)) in
    (r.0, subst (LiesIn r.0) (sym (part_rest g i (declared_box g))) m, j)
