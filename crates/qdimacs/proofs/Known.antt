-- Tests of sets of variables.
use Rattle.std.proofs.Common.{◌≡◌, refl, sym, ap, ◌∙◌, ℕ, Bool, true, false, ◌||◌, ◌==◌, cond, inl, inr}
use Rattle.std.proofs.Common.{List, [], ◌∷◌, ◌++◌, ◌+◌, ◌-◌, ◌<◌, suc, filter, map, append_assoc, arith}
use Rattle.std.proofs.Math.Path.{fun_ext}
use Rattle.std.proofs.lemmas.List.{map-append}
use Rattle.std.proofs.lemmas.Bool.{cases_eq, eq-eqb, ne_eqb}
use Rattle.qdimacs.specs.declared.tree.NumberText.{NumberText}
use Rattle.qdimacs.specs.Refusals.{is_known, with_known, count_up}

same_test : (x q : ℕ) → (x == q) ≡ (q == x)
same_test x q = elim (cases_eq x q) [
  | inl e ↦ eq-eqb x q e ∙ sym (eq-eqb q x (sym e))
  | inr n ↦ ne_eqb x q n ∙ sym (ne_eqb q x (λ e. n (sym e)))
]

pub with_is : (x q : ℕ) (b : Bool) → cond (x == q) true b ≡ ((q == x) || b)
with_is x q b = ap (λ t. cond t true b) (same_test x q) ∙ go (q == x)
  where
    go : (t : Bool) → cond t true b ≡ (t || b)
    go true = refl
    go false = refl

pub with_inserted : (old inside new : List ℕ) (x : ℕ) → inside ≡ old → ((q : ℕ) → is_known new q ≡ cond (x == q) true (is_known inside q)) → is_known new ≡ with_known x (is_known old)
with_inserted old inside new x e h = fun_ext (λ q. h q ∙ with_is x q (is_known inside q) ∙ ap (λ xs. (q == x) || is_known xs q) e)

-- one number more, where it passes
abbrev pub value_of : NumberText → ℕ
value_of n = n.value

one_more : (p : ℕ → Bool) (x k : ℕ) (vs : List NumberText) → map value_of (vs ++ cond (p x) (record { at = 0; value = x } ∷ []) []) ++ filter p (count_up (suc x) k) ≡ map value_of vs ++ filter p (count_up x (suc k))
one_more p x k vs =
    ap (λ us. us ++ filter p (count_up (suc x) k)) (map-append value_of vs (cond (p x) (record { at = 0; value = x } ∷ []) []))
    ∙ append_assoc (map value_of vs) (map value_of (cond (p x) (record { at = 0; value = x } ∷ []) [])) (filter p (count_up (suc x) k))
    ∙ ap (λ us. map value_of vs ++ us) (go (p x))
  where
    go : (b : Bool) → map value_of (cond b (record { at = 0; value = x } ∷ []) []) ++ filter p (count_up (suc x) k) ≡ cond b (x ∷ filter p (count_up (suc x) k)) (filter p (count_up (suc x) k))
    go true = refl
    go false = refl

pub one_unseen : (p : ℕ → Bool) (i most : ℕ) (vs ws : List NumberText) (all : List ℕ) → i < most → ws ≡ vs ++ cond (p (i + 1)) (record { at = 0; value = i + 1 } ∷ []) [] →
    map value_of vs ++ filter p (count_up (suc i) (most - i)) ≡ all → map value_of ws ++ filter p (count_up (suc (i + 1)) (most - (i + 1))) ≡ all
one_unseen p i most vs ws all lt is h =
    let e : suc (most - (i + 1)) ≡ most - i = omega arith in
    let f : i + 1 ≡ suc i = omega arith in
    ap (λ us. map value_of us ++ filter p (count_up (suc (i + 1)) (most - (i + 1)))) is
    ∙ one_more p (i + 1) (most - (i + 1)) vs
    ∙ ap (λ k. map value_of vs ++ filter p (count_up (i + 1) k)) e
    ∙ ap (λ x. map value_of vs ++ filter p (count_up x (most - i))) f
    ∙ h
