-- A step of a loop over a list that adds what each item gives.
use Rattle.std.proofs.Common.{◌≡◌, ◌∙◌, sym, ap, ℕ, ◌+◌, ◌<◌, ◌≤◌, List, [], ◌∷◌, ◌++◌, length, drop, get_or, append_assoc}
use Rattle.std.proofs.lemmas.List.{append-nil, at_drop_more, at_drop_all}

pub added : {X Y : Type 0} (F G : List X → List Y) (xs : List X) (i : ℕ) (x : X) (g old new all : List Y) →
    i < length xs → x ≡ get_or xs i x → F (x ∷ drop (i + 1) xs) ≡ g ++ G (drop (i + 1) xs) → new ≡ old ++ g →
    old ++ F (drop i xs) ≡ all → new ++ G (drop (i + 1) xs) ≡ all
added F G xs i x g old new all lt is step more h =
    ap (λ ys. ys ++ G (drop (i + 1) xs)) more ∙ append_assoc old g (G (drop (i + 1) xs))
    ∙ ap (λ ys. old ++ ys) (sym step ∙ ap (λ y. F (y ∷ drop (i + 1) xs)) is ∙ sym (at_drop_more F xs i x lt)) ∙ h

pub ended : {X Y : Type 0} (F : List X → List Y) (xs : List X) (i : ℕ) (old all : List Y) → F [] ≡ [] → length xs ≤ i →
    old ++ F (drop i xs) ≡ all → old ≡ all
ended F xs i old all none le h = sym (append-nil old) ∙ ap (λ ys. old ++ ys) (sym (at_drop_all F xs i le ∙ none)) ∙ h
