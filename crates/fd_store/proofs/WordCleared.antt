-- A word that loses some of its bits.
use Rattle.std.proofs.Common.{◌≡◌, ◌≢◌, ◌⊎◌, inl, inr, ℕ, List, ◌+◌, ◌-◌, ◌*◌, ◌/◌, ◌%◌, ◌<◌, ◌≤◌, Bool, true, false, not, ◌&&◌, length, set, get_or, refl, sym, ap, ◌∙◌, arith, [], ◌∷◌, ◌++◌}
use Rattle.std.specs.Prelude.{pos, ◌+ℤ◌, ◌==◌, slice_index_or}
use Rattle.std.specs.Int.{bit_at}
use Rattle.std.proofs.lemmas.Bool.Decides.{nat_tests}
use Rattle.std.proofs.lemmas.List.{length-set, get_or-set_same, get_or-set_other, set-set, set-get_or}
use Rattle.fd_store.specs.declared.table.Cell.{Cell}
use Rattle.fd_store.specs.declared.table.Table.{Table}
use Rattle.fd_store.specs.Places.{is_set, is_kept, is_inside, count_below, count_of_word}
use Rattle.fd_store.specs.Sound.{IsCell}
use Rattle.fd_store.specs.Takes.{Takes, IsSoundTable}
use Rattle.fd_store.proofs.Counts.{count_some}
use Rattle.fd_store.proofs.Runs.{word_count}
use Rattle.fd_store.proofs.Steps.{takes_step, takes_none, within_places}
use Rattle.fd_store.proofs.MovedEnds.{left_after, count_inside, gone_most}

same_or_not : (x y : ℕ) → (x ≡ y) ⊎ (x ≢ y)
same_or_not x y = grind arith

pub set_cleared : (words now : List ℕ) (w from to bits : ℕ) → w < length words → from < to → to ≤ 64 → now ≡ set words w bits →
    ((i : ℕ) → i < 64 → (bit_at bits i == 1) ≡ ((bit_at (get_or words w 0) i == 1) && not (is_inside from to i))) →
    (p : ℕ) → is_set now p ≡ (is_set words p && not (is_inside (64 * w + from) (64 * w + to) p))
set_cleared words now w from to bits h l m e f p = elim (same_or_not (p / 64) w) [
  | inl q ↦
      ap (λ k. bit_at (get_or now k 0) (p % 64) == 1) q
      ∙ (ap (λ ws. bit_at (get_or ws w 0) (p % 64) == 1) e
      ∙ (ap (λ b. bit_at b (p % 64) == 1) (get_or-set_same words w bits 0 h)
      ∙ (f (p % 64) (omega arith)
      ∙ (ap (λ b. (bit_at (get_or words w 0) (p % 64) == 1) && not b) (here p q)
      ∙ ap (λ k. (bit_at (get_or words k 0) (p % 64) == 1) && not (is_inside (64 * w + from) (64 * w + to) p)) (sym q)))))
  | inr n ↦
      ap (λ ws. bit_at (get_or ws (p / 64) 0) (p % 64) == 1) e
      ∙ (ap (λ b. bit_at b (p % 64) == 1) (get_or-set_other words w (p / 64) bits 0 n)
      ∙ there (is_set words p) p n)
]
  where
    here : (p : ℕ) → p / 64 ≡ w → is_inside from to (p % 64) ≡ is_inside (64 * w + from) (64 * w + to) p
    here p q = grind (arith, nat_tests)

    there : (b : Bool) (p : ℕ) → p / 64 ≢ w → b ≡ (b && not (is_inside (64 * w + from) (64 * w + to) p))
    there b p n = grind (arith, nat_tests)

-- which word and which of its bits
pub record WordOf (c : Cell) (a e w from to : ℕ) : Type 0 where
  pub order : a < e
  pub word : w ≡ c.start + a / 64
  pub low : from ≡ a % 64
  pub high : to ≡ from + (e - a)
  pub within : to ≤ 64
  pub first : c.first < a
  pub end : e < c.end

pub gone_is : (words : List ℕ) (c : Cell) (a e w from to gone : ℕ) → IsCell words c → WordOf c a e w from to → gone ≡ count_of_word (get_or words w 0) from to →
    gone ≡ count_below (λ k. is_kept words c k && is_inside a e k) c.width
gone_is words c a e w from to gone ic o g =
    g ∙ (word_count words w from to (omega (arith, o.high)) o.within
    ∙ (ap (count_below (λ k. is_set words (64 * w + from + k))) long
    ∙ (ap (λ p. count_below (λ k. is_set words (p + k)) (e - a)) place
    ∙ sym (count_inside words c a e (omega (arith, o.first)) (omega (arith, o.order)) (omega (arith, o.end)) ic.within))))
  where
    long : to - from ≡ e - a
    long = omega (arith, o.high)

    place : 64 * w + from ≡ 64 * c.start + a
    place = omega (arith, o.word, o.low)

pub takes_word : (t u : Table) (x : ℕ) (c : Cell) (a e w from to bits gone : ℕ) →
    IsSoundTable t → x < length t.cells.items → slice_index_or t.cells.items x c ≡ c → IsCell t.words.items c → WordOf c a e w from to →
    gone ≡ count_of_word (get_or t.words.items w 0) from to → 0 < gone →
    ((i : ℕ) → i < 64 → (bit_at bits i == 1) ≡ ((bit_at (get_or t.words.items w 0) i == 1) && not (is_inside from to i))) →
    u.words.items ≡ set t.words.items w bits → u.cells.items ≡ set t.cells.items x (record c { size = c.size - gone }) →
    u.trail.items ≡ t.trail.items ++ record { bits = get_or t.words.items w 0; word = w; var = x; cell = c } ∷ [] → u.trail.spare + 1 ≡ t.trail.spare →
    Takes x (c.base +ℤ pos a) (c.base +ℤ pos (e - 1)) t u
takes_word t u x c a e w from to bits gone i h at ic o g pg f ew ec et spare =
    let words = t.words.items in
    let now = u.words.items in
    let d : Cell = record c { size = c.size - gone } in
    let there : w < length words = omega (arith, o.word, o.end, o.order, ic.inside, ic.within) in
    let cut = set_cleared words now w from to bits there (omega (arith, o.high, o.order)) o.within ew f in
    let low : 64 * w + from ≡ 64 * c.start + a = omega (arith, o.word, o.low) in
    let high : 64 * w + to ≡ 64 * c.start + e = omega (arith, o.word, o.low, o.high, o.order) in
    let cut2 : (p : ℕ) → is_set now p ≡ (is_set words p && not (is_inside (64 * c.start + a) (64 * c.start + e) p)) =
    λ p. cut p ∙ (ap (λ q. is_set words p && not (is_inside q (64 * w + to) p)) low ∙ ap (λ q. is_set words p && not (is_inside (64 * c.start + a) q p)) high) in
    let g2 = gone_is words c a e w from to gone ic o g in
    let kept : (k : ℕ) → k < c.width → is_kept now d k ≡ (is_kept words c k && not (is_inside a e k)) =
    λ k q. ap (λ b. is_inside c.first c.end k && b) (cut2 (64 * c.start + k)) ∙ moved (is_inside c.first c.end k) (is_set words (64 * c.start + k)) (64 * c.start) k in
    let same : (k : ℕ) → (k < a) ⊎ (e ≤ k) → is_set now (64 * c.start + k) ≡ is_set words (64 * c.start + k) =
    λ k q. cut2 (64 * c.start + k) ∙ stays (is_set words (64 * c.start + k)) (64 * c.start) k q in
    let cell : IsCell now d = record {
      inside = omega (arith, ic.inside, ap length ew, length-set words w bits);
      narrow = ic.narrow;
      low = ic.low;
      high = ic.high;
      order = ic.order;
      within = ic.within;
      first = λ q. same c.first (inl o.first) ∙ ic.first q;
      last = λ q. same (c.end - 1) (inr (omega (arith, o.end))) ∙ ic.last q;
      size = left_after words now c d a e gone ic refl g2 kept;
    } in
    takes_step t u x c d (record { bits = get_or words w 0; word = w; var = x; cell = c }) (c.base +ℤ pos a) (c.base +ℤ pos (e - 1)) i h at (record { base = refl; start = refl; width = refl })
    (record { long = ap length ew ∙ length-set words w bits; same = λ p q. cut2 p ∙ far (is_set words p) (64 * c.start) p (omega (arith, o.end, ic.within)) q })
    cell ec et spare refl refl
    (ap (λ ws. set ws w (get_or words w 0)) ew ∙ (set-set words w bits (get_or words w 0) ∙ set-get_or words w 0))
    (λ k q. kept k q ∙ ap (λ b. is_kept words c k && not b) (sym (within_places c.base a e k o.order)))
    (omega (arith, pg, gone_most words c a e gone ic g2))
  where
    moved : (b s : Bool) (n k : ℕ) → (b && (s && not (is_inside (n + a) (n + e) (n + k)))) ≡ ((b && s) && not (is_inside a e k))
    moved b s n k = grind (arith, nat_tests)

    stays : (s : Bool) (n k : ℕ) → (k < a) ⊎ (e ≤ k) → (s && not (is_inside (n + a) (n + e) (n + k))) ≡ s
    stays s n k q = grind (arith, nat_tests)

    far : (s : Bool) (n p : ℕ) → e ≤ c.width → (p < n) ⊎ (n + c.width ≤ p) → (s && not (is_inside (n + a) (n + e) p)) ≡ s
    far s n p l q = grind (arith, nat_tests)

-- none of the bits is set
pub takes_no_word : (t : Table) (x : ℕ) (c : Cell) (a e w from to gone : ℕ) →
    IsSoundTable t → x < length t.cells.items → slice_index_or t.cells.items x c ≡ c → IsCell t.words.items c → WordOf c a e w from to →
    gone ≡ count_of_word (get_or t.words.items w 0) from to → gone ≡ 0 → Takes x (c.base +ℤ pos a) (c.base +ℤ pos (e - 1)) t t
takes_no_word t x c a e w from to gone i h at ic o g z =
    let words = t.words.items in
    let none = gone_is words c a e w from to gone ic o g in
    takes_none t x c (c.base +ℤ pos a) (c.base +ℤ pos (e - 1)) i h at
    (λ k q. stays (is_kept words c k) (is_inside a e k) (λ p r. some k q p r (omega (arith, z, none)))
    ∙ ap (λ b. is_kept words c k && not b) (sym (within_places c.base a e k o.order)))
  where
    some : (k : ℕ) → k < c.width → is_kept t.words.items c k ≡ true → is_inside a e k ≡ true → count_below (λ j. is_kept t.words.items c j && is_inside a e j) c.width ≡ 0 → ⊥
    some k q p r n =
        let m = count_some (λ j. is_kept t.words.items c j && is_inside a e j) c.width k q (ap (λ b. b && is_inside a e k) p ∙ r) in
        omega (arith, m, n)

    stays : (s b : Bool) → (s ≡ true → b ≡ true → ⊥) → s ≡ (s && not b)
    stays true true f = absurd (f refl refl)
    stays true false f = refl
    stays false b f = refl

pub word_of : (c : Cell) (a e : ℕ) → a < e → e ≤ 64 * (a / 64) + 64 → c.first < a → e < c.end → WordOf c a e (c.start + a / 64) (a % 64) (a % 64 + (e - a))
word_of c a e h l m n = record { order = h; word = refl; low = refl; high = refl; within = omega arith; first = m; end = n }
