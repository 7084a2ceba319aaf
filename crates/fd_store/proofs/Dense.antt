-- A range, whose bits are all set.
use Rattle.std.proofs.Common.{◌≡◌, ◌⊎◌, inl, inr, ℕ, zero, suc, ◌+◌, ◌-◌, ◌*◌, ◌/◌, ◌%◌, ◌<◌, ◌≤◌, Bool, true, List, length, get_or, refl, sym, ap, subst, ◌∙◌, arith, ℤ, ◌&&◌, ◌++◌, ◌∷◌, []}
use Rattle.std.specs.Prelude.{pos, negsuc, ◌+ℤ◌, ◌≤ℤ◌, ◌==◌}
use Rattle.std.specs.Int.{bit_at}
use Rattle.std.proofs.lemmas.Bool.Decides.{nat_tests}
use Rattle.std.proofs.lemmas.Nat.Bits.{bit_at_ones}
use Rattle.std.proofs.lemmas.List.{get_or_append_left, get_or_push, length_push}
use Rattle.qc_model.specs.Lists.{numbers_from}
use Rattle.qc_model.proofs.Range.{numbers_more}
use Rattle.fd_store.specs.declared.table.Cell.{Cell}
use Rattle.fd_store.specs.Added.{IsLonger, AddsCell}
use Rattle.fd_store.specs.Places.{is_set, is_kept, is_inside, values_below, count_below}
use Rattle.fd_store.proofs.Runs.{set_in}
use Rattle.fd_store.proofs.Values.{values_agree}
use Rattle.fd_store.proofs.Counts.{count_agree}

all_values : (v : ℤ) (n : ℕ) → values_below (λ k. true) v n ≡ numbers_from v n
all_values v zero = refl
all_values v (suc n) = ap (λ us. us ++ (v +ℤ pos n) ∷ []) (all_values v n) ∙ (sym (numbers_more v n) ∙ ap (numbers_from v) next)
  where
    next : n + 1 ≡ suc n
    next = omega arith

all_count : (n : ℕ) → count_below (λ k. true) n ≡ n
all_count zero = refl
all_count (suc n) = ap (λ m. m + 1) (all_count n) ∙ next
  where
    next : n + 1 ≡ suc n
    next = omega arith

pub adds_range : (words now : List ℕ) (base : ℤ) (n : ℕ) (c : Cell) → 0 < n → n ≤ 1048576 → negsuc 999999999 ≤ℤ base → (base +ℤ pos n) ≤ℤ pos 1000000001 →
    IsLonger words now ((n + 63) / 64) 18446744073709551615 → c ≡ record { base = base; start = length words; width = n; first = 0; end = n; size = n } → AddsCell words now c n (numbers_from base n)
adds_range words now base n c some narrow low high i e = subst (λ (d : Cell). AddsCell words now d n (numbers_from base n)) (sym e) (record {
  long = i.long;
  before = λ p h. ap (λ b. bit_at b (p % 64) == 1) (i.before (p / 64) (omega arith));
  start = refl;
  cell = record {
    inside = omega (arith, i.long);
    narrow = narrow;
    low = low;
    high = high;
    order = omega arith;
    within = omega arith;
    first = λ q. set 0 some;
    last = λ q. set (n - 1) (omega arith);
    size = sym (count_agree (λ k. true) (is_kept now d) n kept ∙ all_count n);
  };
  values = values_agree (λ k. true) (is_kept now d) base n kept ∙ all_values base n;
})
  where
    d : Cell
    d = record { base = base; start = length words; width = n; first = 0; end = n; size = n }

    set : (k : ℕ) → k < n → is_set now (64 * length words + k) ≡ true
    set k h =
        let w = length words + k / 64 in
        let word : get_or now w 0 ≡ 18446744073709551615 = i.added w (omega arith) (omega (arith, i.long)) in
        let place : 64 * length words + k ≡ 64 * w + (k - 64 * (k / 64)) = omega arith in
        ap (is_set now) place ∙ (set_in now w (k - 64 * (k / 64)) (omega arith)
        ∙ (ap (λ b. bit_at b (k - 64 * (k / 64)) == 1) word ∙ ap (λ b. b == 1) (bit_at_ones 64 (k - 64 * (k / 64)) (omega arith))))

    kept : (k : ℕ) → k < n → is_kept now d k ≡ true
    kept k h = inside k h (is_set now (64 * length words + k)) (set k h)
      where
        inside : (k : ℕ) → k < n → (s : Bool) → s ≡ true → (is_inside 0 n k && s) ≡ true
        inside k h s e = grind (arith, nat_tests)

-- words, one after another
pub longer_none : (words : List ℕ) (word : ℕ) → IsLonger words words 0 word
longer_none words word = record { long = omega arith; before = λ w h. refl; added = λ w h l. absurd (omega arith) }

pub longer_more : (words now then : List ℕ) (n word : ℕ) → IsLonger words now n word → then ≡ now ++ word ∷ [] → IsLonger words then (n + 1) word
longer_more words now then n word i e =
    let long : length then ≡ length now + 1 = ap length e ∙ length_push now word in
    record {
      long = omega (arith, long, i.long);
      before = λ w h. ap (λ ws. get_or ws w 0) e ∙ (get_or_append_left now (word ∷ []) 0 w (omega (arith, i.long)) ∙ i.before w h);
      added = λ w h l. elim (near w (length now) (omega (arith, long))) [
        | inl m ↦ ap (λ ws. get_or ws w 0) e ∙ (get_or_append_left now (word ∷ []) 0 w m ∙ i.added w h m)
        | inr m ↦ ap (λ ws. get_or ws w 0) e ∙ get_or_push now word 0 w (sym m)
      ];
    }
  where
    near : (w n : ℕ) → w < n + 1 → (w < n) ⊎ (w ≡ n)
    near w n h = grind arith
