-- Which variables are a scope's own.
use Rattle.std.proofs.Common.{◌≡◌, ℕ, suc, ◌+◌, ◌-◌, ◌<◌, ◌≤◌, true, ◌&&◌, List, ◌++◌, take, drop, sym, ap, ◌∙◌, subst, arith}
use Rattle.std.specs.Prelude.{nat_le, nat_lt}
use Rattle.std.proofs.lemmas.List.{take-append-drop, drop-take, take-take, drop-drop}
use Rattle.std.proofs.lemmas.Bool.Decides.{nat_tests}
use Rattle.std.proofs.lemmas.Bool.{and_parts}
use Rattle.qc_model.specs.Content.{Game}
use Rattle.qc_model.specs.Game.{before, part, is_of_scope}
use Rattle.qc_model.proofs.Before.{before_up}

-- how many variables scope i has
abbrev pub width : Game → ℕ → ℕ
width g i = before g (suc i) - before g i

pub before_next : (g : Game) (i : ℕ) → before g (suc i) ≡ before g i + width g i
before_next g i = let h = before_up g i in omega arith

pub take_scope : {X : Type 0} (g : Game) (i : ℕ) (xs : List X) → take (before g (suc i)) xs ≡ take (before g i) xs ++ part g i xs
take_scope g i xs =
    let e : take (before g i) (take (before g (suc i)) xs) ≡ take (before g i) xs =
    take-take (before g i) (before g (suc i)) xs (before_up g i) in
    sym (take-append-drop (before g i) (take (before g (suc i)) xs)) ∙ ap (λ ys. ys ++ part g i xs) e

pub part_rest : {X : Type 0} (g : Game) (i : ℕ) (xs : List X) → part g i xs ≡ take (width g i) (drop (before g i) xs)
part_rest g i xs =
    subst (λ m. drop (before g i) (take m xs) ≡ take (width g i) (drop (before g i) xs)) (sym (before_next g i)) (drop-take (before g i) (width g i) xs)

pub same_part : {X : Type 0} (g : Game) (i : ℕ) (xs ys : List X) → drop (before g i) xs ≡ drop (before g i) ys → part g i xs ≡ part g i ys
same_part g i xs ys e = part_rest g i xs ∙ ap (take (width g i)) e ∙ sym (part_rest g i ys)

pub same_rest : {X : Type 0} (g : Game) (i : ℕ) (xs ys : List X) → drop (before g i) xs ≡ drop (before g i) ys → drop (before g (suc i)) xs ≡ drop (before g (suc i)) ys
same_rest g i xs ys e =
    subst (λ m. drop m xs ≡ drop m ys) (sym (before_next g i))
    (sym (drop-drop (width g i) (before g i) xs) ∙ ap (drop (width g i)) e ∙ drop-drop (width g i) (before g i) ys)

pub in_scope : (g : Game) (i x : ℕ) → is_of_scope g i x ≡ true → (before g i ≤ x) × (x < before g (suc i))
in_scope g i x e = between (before g i) x (before g (suc i)) e
  where
    between : (a x b : ℕ) → (nat_le a x && nat_lt x b) ≡ true → (a ≤ x) × (x < b)
    between a x b e = let p = and_parts (nat_le a x) (nat_lt x b) e in (le_from a x p.0, lt_from x b p.1)
      where
        le_from : (a x : ℕ) → nat_le a x ≡ true → a ≤ x
        le_from a x e = grind (arith, nat_tests)

        lt_from : (a x : ℕ) → nat_lt a x ≡ true → a < x
        lt_from a x e = grind (arith, nat_tests)
