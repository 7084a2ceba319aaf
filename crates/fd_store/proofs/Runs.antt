-- Runs of places over words.
use Rattle.std.proofs.Common.{◌≡◌, ℕ, ◌+◌, ◌-◌, ◌*◌, ◌/◌, ◌%◌, ◌<◌, ◌≤◌, max, min, List, get_or, ◌&&◌, ap, sym, ◌∙◌, arith}
use Rattle.std.specs.Prelude.{◌==◌}
use Rattle.std.specs.Int.{bit_at}
use Rattle.fd_store.specs.Places.{is_set, is_inside, count_below, count_of_word}
use Rattle.fd_store.proofs.Counts.{count_joined, count_window, count_most, count_agree}

-- a place of a word
pub set_in : (words : List ℕ) (w k : ℕ) → k < 64 → is_set words (64 * w + k) ≡ (bit_at (get_or words w 0) k == 1)
set_in words w k h = ap (λ q. bit_at (get_or words q 0) ((64 * w + k) % 64) == 1) word ∙ ap (λ r. bit_at (get_or words w 0) r == 1) place
  where
    word : (64 * w + k) / 64 ≡ w
    word = omega arith

    place : (64 * w + k) % 64 ≡ k
    place = omega arith

-- the set bits of a word from a up to e, as places
pub word_count : (words : List ℕ) (w a e : ℕ) → a ≤ e → e ≤ 64 → count_of_word (get_or words w 0) a e ≡ count_below (λ k. is_set words (64 * w + a + k)) (e - a)
unfolding count_of_word
word_count words w a e h l =
    count_window (λ i. bit_at (get_or words w 0) i == 1) 64 a e h l
    ∙ count_agree (λ k. is_set words (64 * w + a + k)) (λ k. bit_at (get_or words w 0) (a + k) == 1) (e - a)
    (λ k m. sym (ap (is_set words) (place k) ∙ set_in words w (a + k) (omega arith)))
  where
    place : (k : ℕ) → 64 * w + a + k ≡ 64 * w + (a + k)
    place k = omega arith

pub word_few : (word a e : ℕ) → count_of_word word a e ≤ 64
unfolding count_of_word
word_few word a e = count_most (λ i. (bit_at word i == 1) && is_inside a e i) 64

pub count_more : (words : List ℕ) (a e w n from to : ℕ) → a < e → from ≡ max a (64 * w) - 64 * w → to ≡ min e (64 * w + 64) - 64 * w → a / 64 ≤ w → w < (e + 63) / 64 →
    n ≡ count_below (λ k. is_set words (a + k)) (max a (min e (64 * w)) - a) →
    n + count_of_word (get_or words w 0) from to ≡ count_below (λ k. is_set words (a + k)) (max a (min e (64 * (w + 1))) - a)
count_more words a e w n from to h ef et l m i =
    ap (λ c. n + c) (word_count words w from to (omega arith) (omega arith))
    ∙ (ap (λ c. c + count_below (λ k. is_set words (64 * w + from + k)) (to - from)) (i ∙ ap (λ m. count_below (λ k. is_set words (a + k)) (m - a)) clip)
    ∙ (ap (λ c. count_below (λ k. is_set words (a + k)) (max a (64 * w) - a) + c)
    (count_agree (λ k. is_set words (a + ((max a (64 * w) - a) + k))) (λ k. is_set words (64 * w + from + k)) (to - from) (λ k q. ap (is_set words) (place k)))
    ∙ (sym (count_joined (λ k. is_set words (a + k)) (max a (64 * w) - a) (to - from))
    ∙ ap (count_below (λ k. is_set words (a + k))) long)))
  where
    place : (k : ℕ) → 64 * w + from + k ≡ a + ((max a (64 * w) - a) + k)
    place k = omega arith

    clip : max a (min e (64 * w)) ≡ max a (64 * w)
    clip = omega arith

    long : (max a (64 * w) - a) + (to - from) ≡ max a (min e (64 * (w + 1))) - a
    long = omega arith
