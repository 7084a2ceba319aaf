-- A cell's places among those of all words.
use Rattle.std.proofs.Common.{◌≡◌, ℕ, List, [], ◌∷◌, ◌++◌, ◌+◌, ◌-◌, ◌*◌, ◌/◌, ◌%◌, ◌<◌, ◌≤◌, true, length, set, get_or, sym, ap, subst, ◌∙◌, arith, length-append}
use Rattle.std.proofs.lemmas.List.{get_or-set_same}
use Rattle.fd_store.specs.declared.table.Cell.{Cell}
use Rattle.fd_store.specs.declared.table.Change.{Change}
use Rattle.fd_store.specs.Places.{is_set}
use Rattle.fd_store.specs.Sound.{IsCell}

-- the number of a place fits
pub start_fits : (words : List ℕ) (c : Cell) → IsCell words c → length words ≤ 100000 → 64 * c.start < 18446744073709551616
start_fits words c i few = small c.start c.width (length words) i.inside few
  where
    small : (s w n : ℕ) → 64 * s + w ≤ 64 * n → n ≤ 100000 → 64 * s < 18446744073709551616
    small s w n h l = omega arith

pub place_fits : (words : List ℕ) (c : Cell) (k : ℕ) → IsCell words c → length words ≤ 100000 → k ≤ c.end → 64 * c.start + k < 18446744073709551616
place_fits words c k i few h = small c.start k c.end c.width (length words) h i.within i.inside few
  where
    small : (s k e w n : ℕ) → k ≤ e → e ≤ w → 64 * s + w ≤ 64 * n → n ≤ 100000 → 64 * s + k < 18446744073709551616
    small s k e w n h m l f = omega arith

-- and it lies within the words
pub place_inside : (words ws : List ℕ) (c : Cell) (k : ℕ) → ws ≡ words → IsCell words c → k ≤ c.end → 64 * c.start + k ≤ 64 * length ws
place_inside words ws c k e i h = subst (λ (us : List ℕ). 64 * c.start + k ≤ 64 * length us) (sym e) (inside c.start k c.end c.width (length words) h i.within i.inside)
  where
    inside : (s k e w n : ℕ) → k ≤ e → e ≤ w → 64 * s + w ≤ 64 * n → 64 * s + k ≤ 64 * n
    inside s k e w n h m l = omega arith

pub words_few : (words ws : List ℕ) → ws ≡ words → length words ≤ 100000 → length ws ≤ 100000
words_few words ws e h = subst (λ (us : List ℕ). length us ≤ 100000) (sym e) h

-- the first and the last place are set
pub first_set : (words ws : List ℕ) (c : Cell) → ws ≡ words → IsCell words c → c.first < c.end → is_set ws (64 * c.start + c.first) ≡ true
first_set words ws c e i h = ap (λ us. is_set us (64 * c.start + c.first)) e ∙ i.first h

pub last_set : (words ws : List ℕ) (c : Cell) → ws ≡ words → IsCell words c → c.first < c.end → is_set ws (64 * c.start + c.end - 1) ≡ true
last_set words ws c e i h = ap (λ us. is_set us (64 * c.start + c.end - 1)) e ∙ (ap (is_set words) (place (64 * c.start) c.first c.end h) ∙ i.last h)
  where
    place : (s f e : ℕ) → f < e → s + e - 1 ≡ s + (e - 1)
    place s f e h = omega arith

pub further : (s a e : ℕ) → a < e → s + a < s + e
further s a e h = omega arith

pub between : (f k e : ℕ) → f < k → k < e → f < e
between f k e h l = omega arith

-- the place that was found, as one of the cell
pub from_start : (s a p : ℕ) → s + a ≤ p → s ≤ p
from_start s a p h = omega arith

pub past_start : (s a p : ℕ) → s + a < p → s ≤ p
past_start s a p h = omega arith

pub found_fits : (words : List ℕ) (c : Cell) (p : ℕ) → IsCell words c → p < 64 * c.start + c.end → p - 64 * c.start < 4294967296
found_fits words c p i h = small (64 * c.start) p c.end c.width i.within i.narrow h
  where
    small : (s p e w : ℕ) → e ≤ w → w ≤ 1048576 → p < s + e → p - s < 4294967296
    small s p e w h n l = omega arith

pub up_to_fits : (words : List ℕ) (c : Cell) (a p : ℕ) → IsCell words c → a < c.end → p ≤ 64 * c.start + a → p - 64 * c.start < 4294967296
up_to_fits words c a p i h l = small (64 * c.start) a p c.end c.width h i.within i.narrow l
  where
    small : (s a p e w : ℕ) → a < e → e ≤ w → w ≤ 1048576 → p ≤ s + a → p - s < 4294967296
    small s a p e w h m n l = omega arith

-- a trail with one change more
pub one_longer : (trail longer : List Change) (e : Change) → longer ≡ trail ++ e ∷ [] → length longer ≡ length trail + 1
one_longer trail longer e is = ap length is ∙ length-append trail (e ∷ [])

pub one_more : (trail longer : List Change) (e : Change) → longer ≡ trail ++ e ∷ [] → length longer ≤ length trail + 1
one_more trail longer e is = up_to (length longer) (length trail + 1) (one_longer trail longer e is)
  where
    up_to : (m n : ℕ) → m ≡ n → m ≤ n
    up_to m n e = omega arith

-- a cell that was put in place stands there
pub put_at : (cells new : List Cell) (x : ℕ) (d : Cell) → new ≡ set cells x d → x < length cells → get_or new x d ≡ d
put_at cells new x d e h = ap (λ cs. get_or cs x d) e ∙ get_or-set_same cells x d d h

-- the word of places from a up to e, which lie in one
pub word_inside : (words : List ℕ) (c : Cell) (a e : ℕ) → IsCell words c → a < e → e < c.end → c.start + a / 64 < length words
word_inside words c a e i h l = inside c.start a e c.end c.width (length words) h l i.within i.inside
  where
    inside : (s a e d w n : ℕ) → a < e → e < d → d ≤ w → 64 * s + w ≤ 64 * n → s + a / 64 < n
    inside s a e d w n h l m i = omega arith

pub in_word : (a e : ℕ) → a < e → e ≤ 64 * (a / 64) + 64 → a % 64 + (e - a) ≤ 64
in_word a e h l = omega arith

pub in_order : (a e : ℕ) → a < e → a % 64 < a % 64 + (e - a)
in_order a e h = omega arith

pub end_fits : (a e : ℕ) → a < e → e ≤ 64 * (a / 64) + 64 → a % 64 + (e - a) < 4294967296
end_fits a e h l = omega arith
