-- What a store sees of its table, and what a removal answers.
use Rattle.std.proofs.Common.{◌≡◌, ℕ, suc, List, [], ◌∷◌, ◌+◌, ◌<◌, ◌≤◌, not, length, drop, get_or, cond, true, false, refl, sym, ap, ◌∙◌, arith, ℤ}
use Rattle.std.specs.Prelude.{◌==◌}
use Rattle.std.proofs.lemmas.Bool.Decides.{nat_tests}
use Rattle.std.proofs.lemmas.List.{get_or-set_same}
use Rattle.std.proofs.lemmas.List.Sums.{sum_by-cons}
use Rattle.std.proofs.lemmas.List.Filters.{length-filter_both}
use Rattle.qc_model.specs.Domains.{Box, Values, values_left, box_without, values_within, values_outside, is_within}
use Rattle.fd_store.specs.declared.answer.Removed.TheVariants.{Nothing, Emptied, Some}
use Rattle.fd_store.specs.declared.table.Cell.{Cell}
use Rattle.fd_store.specs.declared.table.Change.{Change}
use Rattle.fd_store.specs.Held.{Held, trail_len, past_box, count_left, removal}
use Rattle.fd_store.specs.Places.{is_kept, cell_values, box_of}
use Rattle.fd_store.specs.Sound.{IsCell, IsSound, cells_left}
use Rattle.fd_store.specs.Takes.{removed_of}
use Rattle.fd_store.specs.Trail.{cells_before, words_before, held}
use Rattle.fd_store.proofs.Past.{length-past_boxes, past_is}
use Rattle.fd_store.proofs.Values.{length-values}

pub held_trail : (words : List ℕ) (cells : List Cell) (trail : List Change) (spare : ℕ) (h : Held) → held words cells trail spare ≡ h → trail_len h ≡ length trail
held_trail words cells trail spare h e = sym (ap trail_len e) ∙ length-past_boxes trail words cells

pub held_spare : (words : List ℕ) (cells : List Cell) (trail : List Change) (spare : ℕ) (h : Held) → held words cells trail spare ≡ h → h.spare ≡ spare
held_spare words cells trail spare h e = ap (λ (k : Held). k.spare) (sym e)

without_same : (box : Box) (x : ℕ) (lo hi : ℤ) → x < length box → values_left (box_without box x lo hi) x ≡ values_outside lo hi (values_left box x)
without_same box x lo hi h = get_or-set_same box x (values_outside lo hi (values_left box x)) [] h

split : (lo hi : ℤ) (vs : Values) → length (values_within lo hi vs) + length (values_outside lo hi vs) ≡ length vs
split lo hi vs = length-filter_both (is_within lo hi) (λ v. not (is_within lo hi v)) (λ v. refl) vs

-- the numbers of values that go and that stay
pub record Counted (box new : Box) (x : ℕ) (lo hi : ℤ) : Type 0 where
  pub whole : length (values_within lo hi (values_left box x)) + length (values_outside lo hi (values_left box x)) ≡ length (values_left box x)
  pub stay : length (values_left new x) ≡ length (values_outside lo hi (values_left box x))

pub counted : (box new : Box) (x : ℕ) (lo hi : ℤ) → x < length box → new ≡ box_without box x lo hi → Counted box new x lo hi
counted box new x lo hi h e = record {
  whole = split lo hi (values_left box x);
  stay = ap (λ b. length (values_left b x)) e ∙ ap length (without_same box x lo hi h);
}

-- so the numbers tell what became of them
pub answer_counted : (box new : Box) (x : ℕ) (lo hi : ℤ) → Counted box new x lo hi →
    removed_of (length (values_left box x)) (length (values_left new x)) ≡ removal (values_within lo hi (values_left box x)) (values_outside lo hi (values_left box x))
answer_counted box new x lo hi k =
    ap (removed_of (length (values_left box x))) k.stay
    ∙ (ap (λ n. removed_of n (length stay)) (sym k.whole) ∙ by go stay)
  where
    go : Values
    go = values_within lo hi (values_left box x)

    stay : Values
    stay = values_outside lo hi (values_left box x)

    same : (n : ℕ) → (0 + n == n) ≡ true
    same n = grind (arith, nat_tests)

    none : (m : ℕ) → (suc m + 0 == 0) ≡ false
    none m = grind (arith, nat_tests)

    some : (n : ℕ) → (suc n == 0) ≡ false
    some n = grind (arith, nat_tests)

    more : (m n : ℕ) → (suc m + suc n == suc n) ≡ false
    more m n = grind (arith, nat_tests)

    by : (us vs : Values) → removed_of (length us + length vs) (length vs) ≡ removal us vs
    by [] vs = ap (λ b. cond b Nothing (cond (length vs == 0) Emptied Some)) (same (length vs))
    by (u ∷ us) [] = ap (λ b. cond b Nothing Emptied) (none (length us))
    by (u ∷ us) (v ∷ vs) = ap (λ b. cond b Nothing (cond (suc (length vs) == 0) Emptied Some)) (more (length us) (length vs)) ∙ ap (λ b. cond b Emptied Some) (some (length vs))

-- how many values are left to all cells, as a box
lengths_are : (words : List ℕ) (cells : List Cell) → ((x : ℕ) (c : Cell) → x < length cells → get_or cells x c ≡ c → IsCell words c) → count_left (box_of words cells) ≡ cells_left cells
lengths_are words [] h = refl
lengths_are words (c ∷ cs) h =
    let here = length-values (is_kept words c) c.base c.width ∙ sym (h 0 c (omega arith) refl).size in
    sum_by-cons length (cell_values words c) (box_of words cs)
    ∙ (ap (λ n. n + count_left (box_of words cs)) here
    ∙ (ap (λ n. c.size + n) (lengths_are words cs (λ x d l e. h (suc x) d (omega arith) e)) ∙ sym (sum_by-cons (λ (o : Cell). o.size) c cs)))

past_count : (words : List ℕ) (cells : List Cell) (trail : List Change) (spare k : ℕ) → IsSound words cells trail → k ≤ length trail →
    count_left (past_box (held words cells trail spare) k) ≡ cells_left (cells_before (drop k trail) cells)
past_count words cells trail spare k i h =
    ap count_left (past_is trail words cells k h) ∙ lengths_are (words_before (drop k trail) words) (cells_before (drop k trail) cells) (i.past k h).each

pub few_places : (words : List ℕ) (cells : List Cell) (trail : List Change) (spare : ℕ) (h : Held) → IsSound words cells trail → held words cells trail spare ≡ h →
    (k : ℕ) → k ≤ trail_len h → k + count_left (past_box h k) ≤ count_left (past_box h 0)
few_places words cells trail spare h i e k l =
    let m : k ≤ length trail = omega (arith, l, held_trail words cells trail spare h e) in
    let small = i.few k m in
    omega (
      arith,
      small,
      ap (λ (s : Held). count_left (past_box s k)) e,
      ap (λ (s : Held). count_left (past_box s 0)) e,
      past_count words cells trail spare k i m,
      past_count words cells trail spare 0 i (omega arith),
    )
