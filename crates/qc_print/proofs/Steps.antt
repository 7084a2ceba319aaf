-- One scope more, or one constraint more.
use Rattle.std.proofs.Common.{◌≡◌, ◌∙◌, sym, ap, ℕ, zero, suc, ◌+◌, ◌<◌, List, [], ◌∷◌, ◌++◌, length, drop, append_assoc, add-one, get_or, Some}
use Rattle.std.specs.Prelude.{slice_get, flat_map}
use Rattle.std.proofs.Math.Seq.{drop-cons}
use Rattle.qc_model.specs.declared.problem.Scope.{Scope}
use Rattle.qc_model.specs.Content.{Game}
use Rattle.qc_model.specs.Canonical.{scope_text, text_from}

drop_at : {X : Type 0} (n : ℕ) (xs : List X) (y : X) → slice_get xs n ≡ Some y → drop n xs ≡ y ∷ drop (suc n) xs
drop_at n [] y e = cc
drop_at zero (x ∷ xs) y e = let h : x ≡ y = cc in ap (λ z. z ∷ xs) h
drop_at (suc n) (x ∷ xs) y e = drop_at n xs y e

pub next_scope : (g : Game) (i : ℕ) (s : Scope) (out old whole : List ℕ) → slice_get g.scopes i ≡ Some s → out ≡ old ++ scope_text g i s →
    old ++ text_from g (drop i g.scopes) i ≡ whole → out ++ text_from g (drop (i + 1) g.scopes) (i + 1) ≡ whole
next_scope g i s out old whole here more inv =
    rw (more, add-one) (append_assoc old (scope_text g i s) (text_from g (drop (suc i) g.scopes) (suc i)) ∙ sym (ap (λ ss. old ++ text_from g ss i) (drop_at i g.scopes s here)) ∙ inv)

pub next_item : {X : Type 0} (f : X → List ℕ) (xs : List X) (i : ℕ) (x : X) (out old whole : List ℕ) → i < length xs → x ≡ get_or xs i x → out ≡ old ++ f x →
    old ++ flat_map f (drop i xs) ≡ whole → out ++ flat_map f (drop (i + 1) xs) ≡ whole
next_item f xs i x out old whole lt same more inv =
    rw (more, add-one) (append_assoc old (f x) (flat_map f (drop (suc i) xs)) ∙ ap (λ y. old ++ (f y ++ flat_map f (drop (suc i) xs))) same
    ∙ sym (ap (λ ys. old ++ flat_map f ys) (drop-cons xs i x lt)) ∙ inv)
