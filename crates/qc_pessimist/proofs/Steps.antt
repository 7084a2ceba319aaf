-- One more part made, in the loops that go over scopes and constraints by number.
use Rattle.std.proofs.Common.{◌≡◌, sym, ap, ◌∙◌, ℕ, zero, suc, ◌+◌, Bool, List, [], ◌∷◌, ◌++◌, drop, map, length, append_assoc, arith}
use Rattle.std.specs.Prelude.{Option, Some, slice_get}
use Rattle.qc_model.specs.declared.problem.Condition.{Condition}
use Rattle.qc_model.specs.declared.problem.Scope.{Scope}
use Rattle.qc_pessimist.specs.Opposed.{added, added_after, with_opposing}
use Rattle.qc_pessimist.specs.Worst.{chosen_wish}
use Rattle.qc_pessimist.specs.Table.{places_from}

next : (i : ℕ) → suc i ≡ i + 1
next i = omega arith

drop_here : {X : Type 0} (xs : List X) (i : ℕ) (x : X) → slice_get xs i ≡ Some x → drop i xs ≡ x ∷ drop (i + 1) xs
drop_here [] i x h = absurd cc
drop_here (y ∷ ys) zero x h = cc
drop_here (y ∷ ys) (suc i) x h = drop_here ys i x h ∙ ap (λ n. x ∷ drop n (y ∷ ys)) (shift i)
  where
    shift : (i : ℕ) → suc (i + 1) ≡ suc i + 1
    shift i = omega arith

pub scopes_step : (q : ℕ → Bool) (xs : List Scope) (i : ℕ) (s : Scope) (w : Option Condition) (had mid now all : List Scope) → slice_get xs i ≡ Some s →
    had ++ with_opposing q i (drop i xs) ≡ all → mid ≡ had ++ s ∷ [] → w ≡ chosen_wish (q i) s.kind s.condition → now ≡ mid ++ added w →
    now ++ with_opposing q (i + 1) (drop (i + 1) xs) ≡ all
scopes_step q xs i s w had mid now all at before first wish second =
    ap (λ ys. ys ++ with_opposing q (i + 1) (drop (i + 1) xs)) (second ∙ ap (λ ys. ys ++ added w) first ∙ ap (λ v. (had ++ s ∷ []) ++ added v) wish)
    ∙ append_assoc (had ++ s ∷ []) (added_after q i s) (with_opposing q (i + 1) (drop (i + 1) xs))
    ∙ append_assoc had (s ∷ []) (added_after q i s ++ with_opposing q (i + 1) (drop (i + 1) xs))
    ∙ ap (λ n. had ++ s ∷ (added_after q i s ++ with_opposing q n (drop (i + 1) xs))) (sym (next i))
    ∙ ap (λ ys. had ++ with_opposing q i ys) (sym (drop_here xs i s at))
    ∙ before

pub places_step : (q : ℕ → Bool) (xs : List Scope) (i : ℕ) (s : Scope) (w : Option Condition) (n m : ℕ) (had now all : List ℕ) → slice_get xs i ≡ Some s →
    had ++ places_from q i (drop i xs) n ≡ all → now ≡ had ++ n ∷ [] → w ≡ chosen_wish (q i) s.kind s.condition → m ≡ length (added w) →
    now ++ places_from q (i + 1) (drop (i + 1) xs) (n + (1 + m)) ≡ all
places_step q xs i s w n m had now all at before first wish many =
    ap (λ ys. ys ++ places_from q (i + 1) (drop (i + 1) xs) (n + (1 + m))) first
    ∙ append_assoc had (n ∷ []) (places_from q (i + 1) (drop (i + 1) xs) (n + (1 + m)))
    ∙ ap (λ k. had ++ n ∷ places_from q k (drop (i + 1) xs) (n + (1 + m))) (sym (next i))
    ∙ ap (λ k. had ++ n ∷ places_from q (suc i) (drop (i + 1) xs) k) (one_more n m ∙ ap (λ k. n + 1 + k) (many ∙ ap (λ v. length (added v)) wish))
    ∙ ap (λ ys. had ++ places_from q i ys n) (sym (drop_here xs i s at))
    ∙ before
  where
    one_more : (n m : ℕ) → n + (1 + m) ≡ n + 1 + m
    one_more n m = omega arith

pub map_step : {X Y : Type 0} (f : X → Y) (xs : List X) (i : ℕ) (x : X) (y : Y) (had now all : List Y) → slice_get xs i ≡ Some x →
    had ++ map f (drop i xs) ≡ all → now ≡ had ++ y ∷ [] → y ≡ f x → now ++ map f (drop (i + 1) xs) ≡ all
map_step f xs i x y had now all at before first e =
    ap (λ ys. ys ++ map f (drop (i + 1) xs)) (first ∙ ap (λ z. had ++ z ∷ []) e)
    ∙ append_assoc had (f x ∷ []) (map f (drop (i + 1) xs))
    ∙ ap (λ ys. had ++ map f ys) (sym (drop_here xs i x at))
    ∙ before
