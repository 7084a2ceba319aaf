-- Removals at an end of values without gaps: plain numbers, without the passage to bits and back.
use Rattle.std.proofs.Common.{◌≡◌, ◌≢◌, ℕ, List, ◌+◌, ◌-◌, ◌/◌, ◌<◌, ◌≤◌, true, false, cond, length, get_or, sym, ap, subst, ◌∙◌, arith, ℤ}
use Rattle.std.specs.Prelude.{pos, negsuc, ◌+ℤ◌, ◌-ℤ◌, ◌≤ℤ◌, ◌==◌, int_lt, int_le}
use Rattle.std.proofs.lemmas.Bool.Decides.{nat_tests}
use Rattle.std.proofs.lemmas.Int.{ints}
use mir.Val.{SFits}
use mir.Syntax.{w64}
use Rattle.qc_model.specs.Domains.{values_left}
use Rattle.fd_store.specs.declared.answer.Removed.TheVariants.{Nothing, Emptied, Some}
use Rattle.fd_store.specs.declared.table.Cell.{Cell}
use Rattle.fd_store.specs.declared.table.Table.{Table}
use Rattle.fd_store.specs.Held.{removal_need}
use Rattle.fd_store.specs.Sound.{IsCell}
use Rattle.fd_store.specs.Takes.{Takes, box_in, removed_of}
use Rattle.fd_store.proofs.Cells.{values_at}
use Rattle.fd_store.proofs.CutEnds.{IsAmong, lo_among, place_from, place_below}
use Rattle.fd_store.proofs.Needs.{IsSpan, need_some, span_low, span_high, span_below, span_past}
use Rattle.fd_store.proofs.Reading.{below_first, above_last, up_to, from_last}

-- the base and the ends of a cell are small
pub record IsSmall (c : Cell) : Type 0 where
  pub low : negsuc 999999999 ≤ℤ c.base
  pub high : c.base ≤ℤ pos 1000000001
  pub order : c.first ≤ c.end
  pub first : c.first ≤ 1048576
  pub end : c.end ≤ 1048576

pub is_small : (words : List ℕ) (c : Cell) → IsCell words c → IsSmall c
is_small words c i = record {
  low = i.low;
  high = base_high c.base c.width i.high;
  order = i.order;
  first = first_most c.first c.end c.width i.order i.within i.narrow;
  end = end_most c.end c.width i.within i.narrow;
}
  where
    base_high : (b : ℤ) (n : ℕ) → (b +ℤ pos n) ≤ℤ pos 1000000001 → b ≤ℤ pos 1000000001
    base_high b n h = omega (arith, ints)

    first_most : (f e n : ℕ) → f ≤ e → e ≤ n → n ≤ 1048576 → f ≤ 1048576
    first_most f e n h k l = omega arith

    end_most : (e n : ℕ) → e ≤ n → n ≤ 1048576 → e ≤ 1048576
    end_most e n h k = omega arith

-- one less than the value past the last one is a number too
last_number : (b past : ℤ) (e : ℕ) → negsuc 999999999 ≤ℤ b → b ≤ℤ pos 1000000001 → e ≤ 1048576 → past ≡ b +ℤ pos e → SFits w64 (past -ℤ pos 1)
last_number b past e l h m is = omega (arith, ints)

pub last_fits : (c : Cell) (past : ℤ) → IsSmall c → past ≡ c.base +ℤ pos c.end → SFits w64 (past -ℤ pos 1)
last_fits c past i is = last_number c.base past c.end i.low i.high i.end is

-- hi is a value before the last one, and lo one after the first
pub hi_first : (b hi r s : ℤ) (f e : ℕ) → r ≡ (b +ℤ pos f) → int_lt hi r ≡ false → s ≡ (b +ℤ pos e) → int_lt hi (s -ℤ pos 1) ≡ true → IsAmong b hi f e
hi_first b hi r s f e i p j q = record { from = omega (arith, ints); below = grind (arith, ints) }

place_before : (v s b : ℤ) (e o : ℕ) → s ≡ (b +ℤ pos e) → int_lt v (s -ℤ pos 1) ≡ true → v ≡ (b +ℤ pos o) → o + 1 < e
place_before v s b e o j q is = grind (arith, ints)

place_after : (v r b : ℤ) (f o : ℕ) → r ≡ (b +ℤ pos f) → int_le v r ≡ false → v ≡ (b +ℤ pos o) → f < o
place_after v r b f o i p is = grind (arith, ints)

-- the places of a removal from the first value up to hi
pub record IsLow (c : Cell) (lo hi : ℤ) (k : ℕ) : Type 0 where
  pub some : c.first < k + 1
  pub stay : k + 1 < c.end
  pub span : IsSpan c lo hi c.first (k + 1)

pub low_places : (c : Cell) (lo hi least past : ℤ) (k : ℕ) → least ≡ (c.base +ℤ pos c.first) → past ≡ (c.base +ℤ pos c.end) →
    int_le lo least ≡ true → int_lt hi least ≡ false → int_lt hi (past -ℤ pos 1) ≡ true → hi ≡ (c.base +ℤ pos k) → IsLow c lo hi k
low_places c lo hi least past k i j p q r is =
    let from : c.first ≤ k = place_from c.base hi c.first c.end k is (hi_first c.base hi least past c.first c.end i q j r) in
    let stay : k + 1 < c.end = place_before hi past c.base c.end k j r is in
    record { some = omega arith; stay = stay; span = span_low c lo hi k (up_to lo least (c.base +ℤ pos c.first) p i) is from stay }

-- the places of a removal from lo up to the last value
pub record IsHigh (c : Cell) (lo hi : ℤ) (k : ℕ) : Type 0 where
  pub stay : c.first < k
  pub some : k < c.end
  pub span : IsSpan c lo hi k c.end

pub high_places : (c : Cell) (lo hi least past : ℤ) (k : ℕ) → least ≡ (c.base +ℤ pos c.first) → past ≡ (c.base +ℤ pos c.end) →
    int_le lo least ≡ false → int_le (past -ℤ pos 1) hi ≡ true → int_le past lo ≡ false → lo ≡ (c.base +ℤ pos k) → IsHigh c lo hi k
high_places c lo hi least past k i j p q r is =
    let stay : c.first < k = place_after lo least c.base c.first k i p is in
    let below : k + 1 ≤ c.end = place_below c.base lo c.first c.end k is (lo_among c.base lo least past c.first c.end i p j r) in
    record { stay = stay; some = omega arith; span = span_high c lo hi k (from_last hi past (c.base +ℤ pos c.end) q j) is stay (omega arith) }

-- no place lies below the first value, and none above the last
pub none_below : (c : Cell) (lo hi least : ℤ) → c.first ≤ c.end → least ≡ (c.base +ℤ pos c.first) → int_le lo least ≡ true → int_lt hi least ≡ true → IsSpan c lo hi c.first c.first
none_below c lo hi least o i p q = span_below c lo hi o (up_to lo least (c.base +ℤ pos c.first) p i) (below_first hi least (c.base +ℤ pos c.first) q i)

pub none_above : (c : Cell) (lo hi past : ℤ) → c.first ≤ c.end → past ≡ (c.base +ℤ pos c.end) → int_le (past -ℤ pos 1) hi ≡ true → int_le past lo ≡ true → IsSpan c lo hi c.end c.end
none_above c lo hi past o j q r = span_past c lo hi o (above_last lo past (c.base +ℤ pos c.end) r j) (from_last hi past (c.base +ℤ pos c.end) q j)

-- a removal of a value needs a place at least
pub some_room : (t : Table) (x : ℕ) (c : Cell) (lo hi : ℤ) (a e room : ℕ) → x < length t.cells.items → get_or t.cells.items x c ≡ c → IsCell t.words.items c → IsSpan c lo hi a e → a < e →
    removal_need (values_left (box_in t) x) lo hi ≤ room → 0 < room
some_room t x c lo hi a e room h at i s l m =
    above _ ((e - 1 - a) / 64) room (ap (λ vs. removal_need vs lo hi) (values_at t.words.items t.cells.items x c h at) ∙ need_some t.words.items c lo hi a e i s l) m
  where
    above : (n k m : ℕ) → n ≡ k + 2 → n ≤ m → 0 < m
    above n k m e l = omega arith

-- a place past the first one from the cell's base fits a word
pub place_fits : (c : Cell) (k : ℕ) → IsSmall c → k + 1 < c.end → k + 1 < 4294967296
place_fits c k i h = below k c.end i.end h
  where
    below : (k e : ℕ) → e ≤ 1048576 → k + 1 < e → k + 1 < 4294967296
    below k e m h = omega arith

-- what a removal answers, by the numbers of values before it and after it
pub nothing_removed : (n m : ℕ) → n ≡ m → Nothing ≡ removed_of n m
nothing_removed n m e = sym (ap (λ b. cond b Nothing (cond (m == 0) Emptied Some)) same)
  where
    same : (n == m) ≡ true
    same = grind (arith, nat_tests)

pub all_removed : (n m : ℕ) → n ≢ m → m ≡ 0 → Emptied ≡ removed_of n m
all_removed n m e f = sym (ap (λ b. cond b Nothing (cond (m == 0) Emptied Some)) apart ∙ ap (λ b. cond b Emptied Some) none)
  where
    apart : (n == m) ≡ false
    apart = grind (arith, nat_tests)

    none : (m == 0) ≡ true
    none = grind (arith, nat_tests)

pub some_removed : (n m : ℕ) → n ≢ m → m ≢ 0 → Some ≡ removed_of n m
some_removed n m e f = sym (ap (λ b. cond b Nothing (cond (m == 0) Emptied Some)) apart ∙ ap (λ b. cond b Emptied Some) left)
  where
    apart : (n == m) ≡ false
    apart = grind (arith, nat_tests)

    left : (m == 0) ≡ false
    left = grind (arith, nat_tests)

-- with one place of a trail more, and some left
pub fewer_removed : (n m p q : ℕ) → q ≡ p + 1 → q + m ≤ p + n → 0 < m → Some ≡ removed_of n m
fewer_removed n m p q e l h = some_removed n m (λ r. omega arith) (λ r. omega arith)

-- a removal by other ends that are the same, and what it needs
pub takes_ends : (t u : Table) (x : ℕ) (b : ℤ) (a e f d : ℕ) → f ≤ a → a ≤ f → d ≤ e → e ≤ d → Takes x (b +ℤ pos f) (b +ℤ pos (d - 1)) t u → Takes x (b +ℤ pos a) (b +ℤ pos (e - 1)) t u
takes_ends t u x b a e f d g h k l i =
    subst (λ n. Takes x (b +ℤ pos n) (b +ℤ pos (e - 1)) t u) (same f a g h) (subst (λ n. Takes x (b +ℤ pos f) (b +ℤ pos (n - 1)) t u) (same d e k l) i)
  where
    same : (m n : ℕ) → m ≤ n → n ≤ m → m ≡ n
    same m n h k = omega arith

pub some_spare : (a e n : ℕ) → (e - 1 - a) / 64 + 2 ≤ n → 0 < n
some_spare a e n h = omega arith

pub words_spare : (a e n : ℕ) → a < e → (e - 1 - a) / 64 + 2 ≤ n → (e + 63) / 64 - a / 64 ≤ n
words_spare a e n h k = omega arith
