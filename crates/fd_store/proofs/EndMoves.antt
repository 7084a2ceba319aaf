-- A removal at an end, from what the code found.
use Rattle.std.proofs.Common.{◌≡◌, ℕ, List, ◌+◌, ◌-◌, ◌*◌, ◌<◌, ◌≤◌, Bool, true, false, not, ◌&&◌, length, set, get_or, refl, sym, ap, ◌∙◌, arith, [], ◌∷◌, ◌++◌}
use Rattle.std.specs.Prelude.{pos, ◌+ℤ◌, slice_index_or}
use Rattle.std.proofs.lemmas.Bool.Decides.{nat_tests}
use Rattle.std.proofs.lemmas.List.{length-set, get_or-set_same}
use Rattle.fd_store.specs.declared.table.Cell.{Cell}
use Rattle.fd_store.specs.declared.table.Change.{Change}
use Rattle.fd_store.specs.declared.table.Table.{Table}
use Rattle.fd_store.specs.Places.{is_set, is_kept, is_inside, count_below, box_of}
use Rattle.fd_store.specs.Sound.{IsCell, IsSound}
use Rattle.fd_store.specs.Takes.{Takes, IsSoundTable}
use Rattle.qc_model.specs.Domains.{values_left}
use Rattle.fd_store.proofs.Counts.{count_none}
use Rattle.fd_store.proofs.MovedEnds.{takes_ends, some_gone, left_after, set_dense, count_dense}
use Rattle.fd_store.proofs.Steps.{size_is, right_now}

inside_is : (a e k : ℕ) → a ≤ k → k < e → is_inside a e k ≡ true
inside_is a e k h l = grind (arith, nat_tests)

kept_is : (words : List ℕ) (c : Cell) (k : ℕ) → c.first ≤ k → k < c.end → is_set words (64 * c.start + k) ≡ true → is_kept words c k ≡ true
kept_is words c k h l e = ap (λ b. b && is_set words (64 * c.start + k)) (inside_is c.first c.end k h l) ∙ e

raised_test : (s : Bool) (first e n end k : ℕ) → first < e → e ≤ n → (e ≤ k → k < n → s ≡ false) →
    (is_inside n end k && s) ≡ ((is_inside first end k && s) && not (is_inside first e k))
raised_test s first e n end k h l f = grind (arith, nat_tests)

lowered_test : (s : Bool) (first a n end k : ℕ) → first < n → n ≤ a → a < end → (n ≤ k → k < a → s ≡ false) →
    (is_inside first n k && s) ≡ ((is_inside first end k && s) && not (is_inside a end k))
lowered_test s first a n end k h l m f = grind (arith, nat_tests)

emptied_test : (s : Bool) (first end k : ℕ) → (is_inside first first k && s) ≡ ((is_inside first end k && s) && not (is_inside first end k))
emptied_test s first end k = grind (arith, nat_tests)

pub takes_raised : (t u : Table) (x : ℕ) (c : Cell) (e next gone : ℕ) →
    IsSoundTable t → x < length t.cells.items → slice_index_or t.cells.items x c ≡ c → IsCell t.words.items c → length t.words.items ≤ 100000 → c.first < e → e < c.end →
    64 * c.start + e ≤ next → next < 64 * c.start + c.end → is_set t.words.items next ≡ true → ((p : ℕ) → 64 * c.start + e ≤ p → p < next → is_set t.words.items p ≡ false) →
    gone ≡ count_below (λ k. is_kept t.words.items c k && is_inside c.first e k) c.width →
    u.words.items ≡ t.words.items → u.cells.items ≡ set t.cells.items x (record c { first = next - 64 * c.start; size = c.size - gone }) →
    u.trail.items ≡ t.trail.items ++ record { bits = 0; word = 18446744073709551615; var = x; cell = c } ∷ [] → u.trail.spare + 1 ≡ t.trail.spare →
    Takes x (c.base +ℤ pos c.first) (c.base +ℤ pos (e - 1)) t u
takes_raised t u x c e next gone i h at ic few low high from below found none g ew ec et spare =
    let words = t.words.items in
    let start : 64 * c.start + (next - 64 * c.start) ≡ next = omega arith in
    takes_ends t u x c (record c { first = next - 64 * c.start; size = c.size - gone }) c.first e gone i h at ic (record { base = refl; start = refl; width = refl }) low
    (omega arith) ic.within (λ q. ap (is_set words) start ∙ found) (λ q. ic.last (omega arith)) g
    (omega (arith, g, some_gone words c c.first e c.first ic (omega (arith, ic.within)) (kept_is words c c.first (omega arith) (omega arith) (ic.first (omega arith))) (inside_is c.first e c.first (omega arith) low)))
    refl
    (λ k q. raised_test (is_set words (64 * c.start + k)) c.first e (next - 64 * c.start) c.end k low (omega arith) (λ l m. none (64 * c.start + k) (omega arith) (omega arith)))
    ew ec et spare few

pub takes_lowered : (t u : Table) (x : ℕ) (c : Cell) (a end gone : ℕ) →
    IsSoundTable t → x < length t.cells.items → slice_index_or t.cells.items x c ≡ c → IsCell t.words.items c → length t.words.items ≤ 100000 → c.first < a → a < c.end →
    64 * c.start + c.first < end → end ≤ 64 * c.start + a → is_set t.words.items (end - 1) ≡ true → ((p : ℕ) → end ≤ p → p < 64 * c.start + a → is_set t.words.items p ≡ false) →
    gone ≡ count_below (λ k. is_kept t.words.items c k && is_inside a c.end k) c.width →
    u.words.items ≡ t.words.items → u.cells.items ≡ set t.cells.items x (record c { end = end - 64 * c.start; size = c.size - gone }) →
    u.trail.items ≡ t.trail.items ++ record { bits = 0; word = 18446744073709551615; var = x; cell = c } ∷ [] → u.trail.spare + 1 ≡ t.trail.spare →
    Takes x (c.base +ℤ pos a) (c.base +ℤ pos (c.end - 1)) t u
takes_lowered t u x c a end gone i h at ic few low high from below found none g ew ec et spare =
    let words = t.words.items in
    let start : 64 * c.start + (end - 64 * c.start - 1) ≡ end - 1 = omega arith in
    takes_ends t u x c (record c { end = end - 64 * c.start; size = c.size - gone }) a c.end gone i h at ic (record { base = refl; start = refl; width = refl }) high
    (omega arith) (omega (arith, ic.within)) (λ q. ic.first (omega arith)) (λ q. ap (is_set words) start ∙ found) g
    (omega (arith, g, some_gone words c a c.end (c.end - 1) ic (omega (arith, ic.within)) (kept_is words c (c.end - 1) (omega arith) (omega arith) (ic.last (omega arith))) (inside_is a c.end (c.end - 1) (omega arith) (omega arith))))
    refl
    (λ k q. lowered_test (is_set words (64 * c.start + k)) c.first a (end - 64 * c.start) c.end k (omega arith) (omega arith) high (λ l m. none (64 * c.start + k) (omega arith) (omega arith)))
    ew ec et spare few

-- where no place between the ends is missing, no place need be found
pub takes_first : (t u : Table) (x : ℕ) (c : Cell) (e : ℕ) →
    IsSoundTable t → x < length t.cells.items → slice_index_or t.cells.items x c ≡ c → IsCell t.words.items c → length t.words.items ≤ 100000 → c.size ≡ c.end - c.first → c.first < e → e < c.end →
    u.words.items ≡ t.words.items → u.cells.items ≡ set t.cells.items x (record c { first = e; size = c.end - e }) →
    u.trail.items ≡ t.trail.items ++ record { bits = 0; word = 18446744073709551615; var = x; cell = c } ∷ [] → u.trail.spare + 1 ≡ t.trail.spare →
    Takes x (c.base +ℤ pos c.first) (c.base +ℤ pos (e - 1)) t u
takes_first t u x c e i h at ic few d low high ew ec et spare =
    let words = t.words.items in
    let gone : e - c.first ≡ count_below (λ k. is_kept words c k && is_inside c.first e k) c.width = count_dense words c c.first e ic d (omega arith) (omega arith) (omega arith) in
    takes_raised t u x c e (64 * c.start + e) (e - c.first) i h at ic few low high (omega arith) (omega arith) (set_dense words c e ic d (omega arith) high) (λ p l m. absurd (omega arith)) gone
    ew (ec ∙ ap (set t.cells.items x) (moved (place c.start) (left c.size c.first c.end d low high))) et spare
  where
    place : (start : ℕ) → e ≡ 64 * start + e - 64 * start
    place start = omega arith

    left : (size first end : ℕ) → size ≡ end - first → first < e → e < end → end - e ≡ size - (e - first)
    left size first end d l m = omega arith

    moved : {p q n m : ℕ} → p ≡ q → n ≡ m → record c { first = p; size = n } ≡ record c { first = q; size = m }
    moved {p} {q} {n} {m} f g = ap (λ (k : ℕ). record c { first = k; size = n }) f ∙ ap (λ (k : ℕ). record c { first = q; size = k }) g

pub takes_end : (t u : Table) (x : ℕ) (c : Cell) (a : ℕ) →
    IsSoundTable t → x < length t.cells.items → slice_index_or t.cells.items x c ≡ c → IsCell t.words.items c → length t.words.items ≤ 100000 → c.size ≡ c.end - c.first → c.first < a → a < c.end →
    u.words.items ≡ t.words.items → u.cells.items ≡ set t.cells.items x (record c { end = a; size = a - c.first }) →
    u.trail.items ≡ t.trail.items ++ record { bits = 0; word = 18446744073709551615; var = x; cell = c } ∷ [] → u.trail.spare + 1 ≡ t.trail.spare →
    Takes x (c.base +ℤ pos a) (c.base +ℤ pos (c.end - 1)) t u
takes_end t u x c a i h at ic few d low high ew ec et spare =
    let words = t.words.items in
    let gone : c.end - a ≡ count_below (λ k. is_kept words c k && is_inside a c.end k) c.width = count_dense words c a c.end ic d (omega arith) (omega arith) (omega arith) in
    let last : 64 * c.start + a - 1 ≡ 64 * c.start + (a - 1) = omega arith in
    takes_lowered t u x c a (64 * c.start + a) (c.end - a) i h at ic few low high (omega arith) (omega arith) (ap (is_set words) last ∙ set_dense words c (a - 1) ic d (omega arith) (omega arith)) (λ p l m. absurd (omega arith)) gone
    ew (ec ∙ ap (set t.cells.items x) (moved (place c.start) (left c.size c.first c.end d low high))) et spare
  where
    place : (start : ℕ) → a ≡ 64 * start + a - 64 * start
    place start = omega arith

    left : (size first end : ℕ) → size ≡ end - first → first < a → a < end → a - first ≡ size - (end - a)
    left size first end d l m = omega arith

    moved : {p q n m : ℕ} → p ≡ q → n ≡ m → record c { end = p; size = n } ≡ record c { end = q; size = m }
    moved {p} {q} {n} {m} f g = ap (λ (k : ℕ). record c { end = k; size = n }) f ∙ ap (λ (k : ℕ). record c { end = q; size = k }) g

-- so many are left
pub left_is : (words : List ℕ) (cells now : List Cell) (trail : List Change) (x : ℕ) (d : Cell) → IsSound words now trail → x < length cells → now ≡ set cells x d → length (values_left (box_of words now) x) ≡ d.size
left_is words cells now trail x d i h e =
    let there : x < length now = omega (arith, ap length e, length-set cells x d) in
    let at : get_or now x d ≡ d = ap (λ cs. get_or cs x d) e ∙ get_or-set_same cells x d d h in
    size_is words now x d there at ((right_now words now trail i).each x d there at)

pub takes_emptied : (t u : Table) (x : ℕ) (c : Cell) →
    IsSoundTable t → x < length t.cells.items → slice_index_or t.cells.items x c ≡ c → IsCell t.words.items c → length t.words.items ≤ 100000 → c.first < c.end →
    u.words.items ≡ t.words.items → u.cells.items ≡ set t.cells.items x (record c { end = c.first; size = 0 }) →
    u.trail.items ≡ t.trail.items ++ record { bits = 0; word = 18446744073709551615; var = x; cell = c } ∷ [] → u.trail.spare + 1 ≡ t.trail.spare →
    Takes x (c.base +ℤ pos c.first) (c.base +ℤ pos (c.end - 1)) t u
takes_emptied t u x c i h at ic few some ew ec et spare =
    let words = t.words.items in
    let gone = count_below (λ k. is_kept words c k && is_inside c.first c.end k) c.width in
    let d : Cell = record c { end = c.first; size = 0 } in
    let kept : (k : ℕ) → k < c.width → is_kept words d k ≡ (is_kept words c k && not (is_inside c.first c.end k)) = λ k q. emptied_test (is_set words (64 * c.start + k)) c.first c.end k in
    let none : count_below (is_kept words d) c.width ≡ 0 = count_none (is_kept words d) c.width (λ k q. nothing (is_set words (64 * c.start + k)) c.first k) in
    takes_ends t u x c d c.first c.end gone i h at ic (record { base = refl; start = refl; width = refl }) some
    (omega arith) (omega (arith, ic.within, ic.order)) (λ q. absurd (omega arith)) (λ q. absurd (omega arith)) refl
    (some_gone words c c.first c.end c.first ic (omega (arith, ic.within)) (kept_is words c c.first (omega arith) some (ic.first some)) (inside_is c.first c.end c.first (omega arith) some))
    (sym (left_after words words c d c.first c.end gone ic refl refl kept ∙ none))
    kept ew ec et spare few
  where
    nothing : (s : Bool) (first k : ℕ) → (is_inside first first k && s) ≡ false
    nothing s first k = grind (arith, nat_tests)
