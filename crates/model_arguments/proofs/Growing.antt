-- A list that grows by what each element of another adds to it.
use Rattle.std.proofs.Common.{◌≡◌, ◌∙◌, ap, sym, ℕ, ◌+◌, ◌<◌, ◌≤◌, List, ◌++◌, length, drop, get_or, append-nil, append_assoc}
use Rattle.std.specs.Prelude.{flat_map}
use Rattle.std.proofs.lemmas.List.{at_drop_more, at_drop_all}

-- one element more
pub flat_more : {X : Type 0} (f : X → List ℕ) (xs : List X) (k : ℕ) (d : X) (a b all : List ℕ) → k < length xs → b ≡ a ++ f (get_or xs k d) → a ++ flat_map f (drop k xs) ≡ all → b ++ flat_map f (drop (k + 1) xs) ≡ all
flat_more f xs k d a b all h e told =
    ap (λ l. l ++ flat_map f (drop (k + 1) xs)) e
    ∙ (append_assoc a (f (get_or xs k d)) (flat_map f (drop (k + 1) xs))
    ∙ (ap (λ l. a ++ l) (sym (at_drop_more (λ l. flat_map f l) xs k d h)) ∙ told))

-- and none more
pub flat_end : {X : Type 0} (f : X → List ℕ) (xs : List X) (k : ℕ) (a all : List ℕ) → length xs ≤ k → a ++ flat_map f (drop k xs) ≡ all → a ≡ all
flat_end f xs k a all h told = sym (append-nil a) ∙ (ap (λ l. a ++ l) (sym (at_drop_all (λ l. flat_map f l) xs k h)) ∙ told)
