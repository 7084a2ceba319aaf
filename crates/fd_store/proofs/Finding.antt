-- The first place from a on that is set, and the last below e, looked for word by word.
use Rattle.std.proofs.Common.{◌≡◌, ◌⊎◌, inl, inr, ℕ, List, ◌+◌, ◌-◌, ◌*◌, ◌/◌, ◌<◌, ◌≤◌, max, min, true, false, length, get_or, sym, ap, ◌∙◌, arith}
use Rattle.std.specs.Prelude.{◌==◌}
use Rattle.std.specs.Int.{bit_at}
use Rattle.fd_store.specs.Places.{is_set}
use Rattle.fd_store.proofs.Runs.{set_in}

near : (x y : ℕ) → (x < y) ⊎ (y ≤ x)
near x y = grind arith

not_set : (words : List ℕ) (w i : ℕ) → i < 64 → bit_at (get_or words w 0) i ≡ 0 → is_set words (64 * w + i) ≡ false
not_set words w i h e = set_in words w i h ∙ ap (λ b. b == 1) e

pub set_at : (words : List ℕ) (w i : ℕ) → i < 64 → bit_at (get_or words w 0) i ≡ 1 → is_set words (64 * w + i) ≡ true
set_at words w i h e = set_in words w i h ∙ ap (λ b. b == 1) e

-- none from a on in the words before w, and none in w before its bit k
pub none_before : (words : List ℕ) (a w m k : ℕ) → k ≤ 64 → m ≡ max a (64 * w) → ((p : ℕ) → a ≤ p → p < 64 * w → is_set words p ≡ false) →
    ((i : ℕ) → m - 64 * w ≤ i → i < k → bit_at (get_or words w 0) i ≡ 0) → (p : ℕ) → a ≤ p → p < 64 * w + k → is_set words p ≡ false
none_before words a w m k most is before none p h l = elim (near p (64 * w)) [
  | inl q ↦ before p h q
  | inr q ↦
      ap (is_set words) (place p (64 * w) q)
      ∙ not_set words w (p - 64 * w) (in_word p (64 * w) k most l q) (none (p - 64 * w) (from a (64 * w) m p is h q) (below p (64 * w) k l q))
]
  where
    place : (p s : ℕ) → s ≤ p → p ≡ s + (p - s)
    place p s q = omega arith

    in_word : (p s k : ℕ) → k ≤ 64 → p < s + k → s ≤ p → p - s < 64
    in_word p s k m l q = omega arith

    from : (a s m p : ℕ) → m ≡ max a s → a ≤ p → s ≤ p → m - s ≤ p - s
    from a s m p is h q = omega arith

    below : (p s k : ℕ) → p < s + k → s ≤ p → p - s < k
    below p s k l q = omega arith

pub in_next : (w k p : ℕ) → 64 ≤ k → p < 64 * (w + 1) → p < 64 * w + k
in_next w k p h l = omega arith

-- so the place that was found lies before e, where the one before e is set
pub before_end : (words : List ℕ) (a e n : ℕ) → a < e → is_set words (e - 1) ≡ true → ((p : ℕ) → a ≤ p → p < n → is_set words p ≡ false) → n < e
before_end words a e n h last none = elim (near n e) [
  | inl l ↦ l
  | inr l ↦ let no = none (e - 1) (omega arith) (omega arith) in absurd (apart (sym last ∙ no))
]
  where
    apart : true ≡ false → ⊥
    apart e = cc

pub none_left : (words : List ℕ) (a e w : ℕ) → a < e → e ≤ 64 * length words → length words ≤ w → is_set words (e - 1) ≡ true →
    ((p : ℕ) → a ≤ p → p < 64 * w → is_set words p ≡ false) → ⊥
none_left words a e w h i l last none = far (length words) e w (before_end words a e (64 * w) h last none) i l
  where
    far : (n e w : ℕ) → 64 * w < e → e ≤ 64 * n → n ≤ w → ⊥
    far n e w l i m = omega arith

-- the numbers on the way up
pub from_max : (a w m k : ℕ) → m ≡ max a (64 * w) → m - 64 * w ≤ k → a ≤ 64 * w + k
from_max a w m k is h = omega arith

pub max_in_word : (a w m : ℕ) → m ≡ max a (64 * w) → a / 64 ≤ w → m - 64 * w < 64
max_in_word a w m is h = omega arith

pub max_past : (a w m : ℕ) → m ≡ max a (64 * w) → 64 * w ≤ m
max_past a w m is = omega arith

pub word_fits : (w n : ℕ) → w < n → n ≤ 100000 → 64 * w < 18446744073709551616
word_fits w n h l = omega arith

pub place_fits : (w n k : ℕ) → w < n → n ≤ 100000 → k < 64 → 64 * w + k < 18446744073709551616
place_fits w n k h l m = omega arith

-- none before e in the words from w on, and none in the word below from its bit k on
pub none_after : (words : List ℕ) (e w m k : ℕ) → 0 < w → m ≡ min e (64 * (w - 1) + 64) → ((p : ℕ) → 64 * w ≤ p → p < e → is_set words p ≡ false) →
    ((i : ℕ) → k ≤ i → i < m - 64 * (w - 1) → bit_at (get_or words (w - 1) 0) i ≡ 0) → (p : ℕ) → 64 * (w - 1) + k ≤ p → p < e → is_set words p ≡ false
none_after words e w m k some is after none p h l = elim (near p (64 * w)) [
  | inl q ↦
      ap (is_set words) (place p (64 * (w - 1)) k h)
      ∙ not_set words (w - 1) (p - 64 * (w - 1)) (in_word p w some q) (none (p - 64 * (w - 1)) (from p (64 * (w - 1)) k h) (below e p w m k some is l q h))
  | inr q ↦ after p q l
]
  where
    place : (p s k : ℕ) → s + k ≤ p → p ≡ s + (p - s)
    place p s k h = omega arith

    in_word : (p w : ℕ) → 0 < w → p < 64 * w → p - 64 * (w - 1) < 64
    in_word p w s q = omega arith

    from : (p s k : ℕ) → s + k ≤ p → k ≤ p - s
    from p s k h = omega arith

    below : (e p w m k : ℕ) → 0 < w → m ≡ min e (64 * (w - 1) + 64) → p < e → p < 64 * w → 64 * (w - 1) + k ≤ p → p - 64 * (w - 1) < m - 64 * (w - 1)
    below e p w m k s is l q h = omega arith

pub none_yet : (words : List ℕ) (e p : ℕ) → 64 * ((e + 63) / 64) ≤ p → p < e → is_set words p ≡ false
none_yet words e p h l = absurd (omega arith)

pub from_none : (s k p : ℕ) → k ≤ 0 → s ≤ p → s + k ≤ p
from_none s k p h l = omega arith

-- so the place that was found lies from a on, where the one at a is set
pub past_first : (words : List ℕ) (a e n : ℕ) → a < e → is_set words a ≡ true → ((p : ℕ) → n ≤ p → p < e → is_set words p ≡ false) → a < n
past_first words a e n h first none = elim (near a n) [
  | inl l ↦ l
  | inr l ↦ absurd (apart (sym first ∙ none a l h))
]
  where
    apart : true ≡ false → ⊥
    apart e = cc

pub none_right : (words : List ℕ) (a e w : ℕ) → a < e → w ≤ a / 64 → is_set words a ≡ true → ((p : ℕ) → 64 * w ≤ p → p < e → is_set words p ≡ false) → ⊥
none_right words a e w h l first none = far a w (past_first words a e (64 * w) h first none) l
  where
    far : (a w : ℕ) → a < 64 * w → w ≤ a / 64 → ⊥
    far a w h l = omega arith

pub last_set_at : (words : List ℕ) (w k n m : ℕ) → 0 < k → k ≤ m - 64 * w → m ≡ min n (64 * w + 64) → bit_at (get_or words w 0) (k - 1) ≡ 1 → is_set words (64 * w + k - 1) ≡ true
last_set_at words w k n m h l is e = ap (is_set words) (place (64 * w) k h) ∙ set_at words w (k - 1) (in_word n (64 * w) m k h l is) e
  where
    place : (s k : ℕ) → 0 < k → s + k - 1 ≡ s + (k - 1)
    place s k h = omega arith

    in_word : (n s m k : ℕ) → 0 < k → k ≤ m - s → m ≡ min n (s + 64) → k - 1 < 64
    in_word n s m k h l is = omega arith

-- the numbers on the way down
pub some_word : (a w : ℕ) → a / 64 < w → 0 < w
some_word a w h = omega arith

pub less_within : (w n : ℕ) → w ≤ n → w - 1 ≤ n
less_within w n h = omega arith

pub min_past : (e w m : ℕ) → 0 < w → w ≤ (e + 63) / 64 → m ≡ min e (64 * (w - 1) + 64) → 64 * (w - 1) ≤ m
min_past e w m s h is = omega arith

pub some_in_word : (e w m : ℕ) → 0 < w → w ≤ (e + 63) / 64 → m ≡ min e (64 * (w - 1) + 64) → 0 < m - 64 * (w - 1)
some_in_word e w m s h is = omega arith

pub min_in_word : (e w m : ℕ) → m ≡ min e (64 * w + 64) → m - 64 * w ≤ 64
min_in_word e w m is = omega arith

pub up_to_min : (e w m k : ℕ) → 0 < w → w ≤ (e + 63) / 64 → m ≡ min e (64 * (w - 1) + 64) → k ≤ m - 64 * (w - 1) → 64 * (w - 1) + k ≤ e
up_to_min e w m k s h is l = omega arith

pub word_inside : (e w n : ℕ) → 0 < w → w ≤ (e + 63) / 64 → e ≤ 64 * n → w - 1 < n
word_inside e w n s h l = omega arith

pub next_fits : (w n : ℕ) → w < n → n ≤ 100000 → 64 * w + 64 < 18446744073709551616
next_fits w n h l = omega arith

pub end_fits : (e w n m k : ℕ) → w < n → n ≤ 100000 → m ≡ min e (64 * w + 64) → k ≤ m - 64 * w → 64 * w + k < 18446744073709551616
end_fits e w n m k h l is i = omega arith
