-- What is open, with another one last.
use Rattle.std.proofs.Common.{◌≡◌, ◌<◌, ℕ, zero, suc, ◌+◌, List, [], ◌∷◌, ◌++◌, length, set, reverse, refl, sym, ap, ◌∙◌, arith}
use Rattle.std.proofs.lemmas.List.{reverse-append, length-reverse}
use Rattle.dense_nest.specs.declared.place.Open.{Open}
use Rattle.dense_nest.specs.Opened.{rest}

rest_end : (xs : List Open) (o : Open) → 0 < length xs → rest (xs ++ o ∷ []) ≡ rest xs ++ o ∷ []
rest_end [] o h = absurd (omega (arith, h))
rest_end (x ∷ xs) o h = refl

pub last_set : (xs : List Open) (n : ℕ) (o : Open) → length xs ≡ n + 1 → reverse (set xs n o) ≡ o ∷ rest (reverse xs)
last_set [] n o e = absurd (omega (arith, e))
last_set (x ∷ []) zero o e = refl
last_set (x ∷ y ∷ xs) zero o e = absurd (omega (arith, e))
last_set (x ∷ xs) (suc n) o e =
    let l : length xs ≡ n + 1 = omega (arith, e) in
    let size = length-reverse xs in
    let some : 0 < length (reverse xs) = omega (arith, l, size) in
    reverse-append (x ∷ []) (set xs n o)
    ∙ (ap (λ ys. ys ++ x ∷ []) (last_set xs n o l)
    ∙ ap (λ ys. o ∷ ys) (sym (rest_end (reverse xs) x some) ∙ ap rest (sym (reverse-append (x ∷ []) xs))))
