-- Which constraints see values other than by themselves, one after the other.
use Rattle.std.proofs.Common.{◌≡◌, ◌∙◌, sym, ap, refl, subst, ℕ, zero, suc, ◌+◌, ◌<◌, length, Bool, true, false, List, [], ◌∷◌, ◌++◌, map, take, arith, add-one, slice_get, Some, inl, inr}
use Rattle.std.specs.Prelude.{not, cond, filter, get_or, ℤ}
use Rattle.std.specs.Borrow.{Bor}
use Rattle.qc_model.specs.declared.problem.Arg.{Arg}
use Rattle.qc_model.specs.declared.problem.Argument.{Argument}
use Rattle.qc_model.specs.Arguments.{fill, many}
use Rattle.qc_model.specs.Content.{Game, Rule}
use Rattle.qc_model.specs.Holds.{sum_of_products}
use Rattle.qc_model.specs.Lists.{Among}
use Rattle.model_arguments.specs.Written.{args_at, ints_at}
use Rattle.model_arguments.proofs.Written.{many_fill, numbers_fill}
use Rattle.proof_alike.specs.Alike.{is_looked_at, sees}
use Rattle.proof_alike.specs.Reading.{Reading, as_sum, as_plus, as_clause, by_value, reading, left_sum, seen_as}
use Rattle.likeness.specs.Seeing.{is_telling, tells}

-- what passes of the first k + 1 is what passes of the first k, and the next one where it passes
pub filter_next : {X : Type 0} (p : X → Bool) (xs : List X) (k : ℕ) (x : X) → slice_get xs k ≡ Some x → filter p (take k xs) ++ cond (p x) (x ∷ []) [] ≡ filter p (take (k + 1) xs)
filter_next {X} p xs k x e = go xs k e ∙ sym (ap (λ n. filter p (take n xs)) (add-one k))
  where
    inside : (y : X) → Some y ≡ Some x → x ≡ y
    inside y e = cc

    put : (b : Bool) (y : X) (ys zs us : List X) → ys ++ zs ≡ us → cond b (y ∷ ys) ys ++ zs ≡ cond b (y ∷ us) us
    put true y ys zs us e = ap (λ l. y ∷ l) e
    put false y ys zs us e = e

    go : (xs : List X) (k : ℕ) → slice_get xs k ≡ Some x → filter p (take k xs) ++ cond (p x) (x ∷ []) [] ≡ filter p (take (suc k) xs)
    go [] k e = cc
    go (y ∷ xs) zero e = ap (λ z. cond (p z) (z ∷ []) []) (inside y e)
    go (y ∷ xs) (suc k) e = put (p y) y (filter p (take k xs)) (cond (p x) (x ∷ []) []) (filter p (take (suc k) xs)) (go xs k e)

-- what holds of each of the first k, and of the next one, holds of each of the first k + 1
pub among_more : (P : Rule → Type 0) (rs : List (Bor Rule)) (k : ℕ) (r : Bor Rule) → k < length rs → r ≡ get_or rs k r → ((c : Rule) → Among c (map (λ (q : Bor Rule). q.now) (take k rs)) → P c) → P r.now →
    (c : Rule) → Among c (map (λ (q : Bor Rule). q.now) (take (k + 1) rs)) → P c
among_more P rs k r h e f p c m = go rs k h e f (subst (λ n. Among c (map (λ (q : Bor Rule). q.now) (take n rs))) (add-one k) m)
  where
    go : (rs : List (Bor Rule)) (k : ℕ) → k < length rs → r ≡ get_or rs k r → ((c : Rule) → Among c (map (λ (q : Bor Rule). q.now) (take k rs)) → P c) →
        Among c (map (λ (q : Bor Rule). q.now) (take (suc k) rs)) → P c
    go [] k h e f m = absurd (omega (arith, h))
    go (q ∷ rs) zero h e f (inl i) = subst P (sym (i ∙ ap (λ (b : Bor Rule). b.now) (sym e))) p
    go (q ∷ rs) zero h e f (inr m) = absurd m
    go (q ∷ rs) (suc k) h e f (inl i) = f c (inl i)
    go (q ∷ rs) (suc k) h e f (inr m) = go rs k (omega (arith, h)) e (λ d n. f d (inr n)) m

-- a constraint that doesn't tell sees nothing
pub telling_alike : (g : Game) (i : ℕ) (vs ws : List ℤ) (c : Rule) → (tells c ≡ true → sees g i vs c ≡ sees g i ws c) → sees g i vs c ≡ sees g i ws c
telling_alike g i vs ws c f = by (reading c) f
  where
    by : (r : Reading) → (is_telling r ≡ true → seen_as r (λ x. not (is_looked_at g i x)) vs c ≡ seen_as r (λ x. not (is_looked_at g i x)) ws c) →
        seen_as r (λ x. not (is_looked_at g i x)) vs c ≡ seen_as r (λ x. not (is_looked_at g i x)) ws c
    by as_sum f = f refl
    by as_plus f = f refl
    by as_clause f = f refl
    by by_value f = refl

-- what the terms of a sum come to, with its arguments as they are written
pub left_sum_written : (f : Arg → ℤ) (args : List Argument) → left_sum (map (fill f) args) ≡ sum_of_products (ints_at args 0) (map f (args_at args 1))
left_sum_written f args = ap (λ ns. sum_of_products ns (many (map (fill f) args) 1)) (numbers_fill f args 0) ∙ ap (sum_of_products (ints_at args 0)) (many_fill f args 1)

pub sums_same : (f h : Arg → ℤ) (args : List Argument) (ns : List ℤ) (items : List Arg) (a b : ℤ) → ns ≡ ints_at args 0 → items ≡ args_at args 1 → a ≡ sum_of_products ns (map f items) → b ≡ sum_of_products ns (map h items) → a ≡ b →
    left_sum (map (fill f) args) ≡ left_sum (map (fill h) args)
sums_same f h args ns items a b e k p q same =
    left_sum_written f args ∙ sym (is f) ∙ sym p ∙ same ∙ q ∙ is h ∙ sym (left_sum_written h args)
  where
    is : (w : Arg → ℤ) → sum_of_products ns (map w items) ≡ sum_of_products (ints_at args 0) (map w (args_at args 1))
    is w = ap (λ ms. sum_of_products ms (map w items)) e ∙ ap (λ us. sum_of_products (ints_at args 0) (map w us)) k
