-- Tests that hold of each item of a list.
use Rattle.std.proofs.Common.{◌≡◌, ℕ, zero, suc, Bool, true, ◌&&◌, List, [], ◌∷◌, ◌++◌, drop, refl, ap, ◌∙◌}
use Rattle.std.specs.List.{list_all}
use Rattle.std.proofs.lemmas.Bool.{and_parts}
use Rattle.qc_model.specs.Domains.{Values}
use Rattle.qc_model.specs.Valid.{is_number}

pub all_push : {X : Type 0} (p : X → Bool) (xs : List X) (x : X) → list_all p xs ≡ true → p x ≡ true → list_all p (xs ++ x ∷ []) ≡ true
all_push p [] x h e = ap (λ c. c && true) e
all_push p (y ∷ xs) x h e = let r = and_parts (p y) (list_all p xs) h in ap (λ c. c && list_all p (xs ++ x ∷ [])) r.0 ∙ all_push p xs x r.1 e

pub numbers_dropped : (n : ℕ) (vs : Values) → list_all is_number vs ≡ true → list_all is_number (drop n vs) ≡ true
numbers_dropped zero vs e = e
numbers_dropped (suc n) [] e = refl
numbers_dropped (suc n) (v ∷ vs) e = numbers_dropped n vs (and_parts (is_number v) (list_all is_number vs) e).1
