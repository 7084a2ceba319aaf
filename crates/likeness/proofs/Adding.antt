-- Marks that are added one after the other.
use Rattle.std.proofs.Common.{◌≡◌, ◌∙◌, sym, ap, refl, ℕ, zero, suc, ◌+◌, Bool, ◌<◌, true, false, ◌||◌, List, [], ◌∷◌, length, take, arith, add-one, slice_get, Some}
use Rattle.std.specs.List.{list_any}
use Rattle.std.proofs.lemmas.Option.{same_Some}
use Rattle.likeness.specs.Marks.{reaches, AddsMarks}

regroup : (a b c d : Bool) → (b || c) ≡ d → ((a || b) || c) ≡ (a || d)
regroup true b c d e = refl
regroup false b c d e = e

-- what is read where nothing stands, and a place in a list that is as long
none_got : {X : Type 0} (k : ℕ) (x : X) → slice_get [] k ≡ Some x → ⊥
none_got k x e = cc

within : (x m n : ℕ) → m ≡ n → x < n → x < m
within x m n e h = omega arith

-- first the ones and then the others
pub adds_both : (f h k : ℕ → ℕ → Bool) (a b c : List ℕ) → AddsMarks f a b → AddsMarks h b c → ((i x : ℕ) → (f i x || h i x) ≡ k i x) → AddsMarks k a c
adds_both f h k a b c m n e = record {
  count = n.count ∙ m.count;
  each = λ i x l q. n.each i x l (within x (length b) (length a) m.count q) ∙ ap (λ r. r || h i x) (m.each i x l q) ∙ regroup (reaches a i x) (f i x) (h i x) (k i x) (e i x);
}

alone : (b : Bool) → b ≡ (b || false)
alone true = refl
alone false = refl

-- some of the first k + 1 passes where some of the first k does, or the next one
any_next : {X : Type 0} (p : X → Bool) (xs : List X) (k : ℕ) (x : X) → slice_get xs k ≡ Some x → (list_any p (take k xs) || p x) ≡ list_any p (take (suc k) xs)
any_next p [] k x e = absurd (none_got k x e)
any_next p (y ∷ xs) zero x e = ap p (sym (same_Some y x e)) ∙ alone (p y)
any_next p (y ∷ xs) (suc k) x e = regroup (p y) (list_any p (take k xs)) (p x) (list_any p (take (suc k) xs)) (any_next p xs k x e)

module _ {X : Type 0} (p : X → Bool) where
  pub any_more : (xs : List X) (k : ℕ) (x : X) → slice_get xs k ≡ Some x → (list_any p (take k xs) || p x) ≡ list_any p (take (k + 1) xs)
  any_more xs k x e = any_next p xs k x e ∙ sym (ap (λ n. list_any p (take n xs)) (add-one k))
