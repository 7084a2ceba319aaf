-- A cell whose ends move.
use Rattle.std.proofs.Common.{◌≡◌, ◌⊎◌, inl, inr, ℕ, zero, suc, ◌+◌, ◌-◌, ◌*◌, ◌<◌, ◌≤◌, Bool, true, false, not, ◌&&◌, cond, List, length, set, refl, sym, ap, subst, ◌∙◌, arith}
use Rattle.std.specs.Prelude.{pos, negsuc, ◌+ℤ◌, ◌≤ℤ◌, slice_index_or, ◌++◌, ◌∷◌, []}
use Rattle.std.proofs.lemmas.Bool.Decides.{nat_tests}
use Rattle.std.proofs.lemmas.List.{set_past}
use Rattle.fd_store.specs.declared.table.Cell.{Cell}
use Rattle.fd_store.specs.declared.table.Table.{Table}
use Rattle.fd_store.specs.Places.{is_set, is_kept, is_inside, count_below}
use Rattle.fd_store.specs.Sound.{IsCell}
use Rattle.fd_store.specs.Takes.{Takes, IsSoundTable}
use Rattle.fd_store.proofs.Counts.{count_agree, count_window, count_split, count_most, count_some}
use Rattle.fd_store.proofs.Cells.{SamePlace}
use Rattle.fd_store.proofs.Steps.{takes_step, within_places}

-- all pass, if as many pass as there are
count_full : (f : ℕ → Bool) (n : ℕ) → count_below f n ≡ n → (k : ℕ) → k < n → f k ≡ true
count_full f zero e k h = absurd (omega arith)
count_full f (suc n) e k h = step (f n) refl e (λ q l. count_full f n q k l)
  where
    few : count_below f n ≤ n
    few = count_most f n

    at : k ≡ n → f n ≡ true → f k ≡ true
    at q p = ap f q ∙ p

    step : (b : Bool) → f n ≡ b → count_below f n + cond b 1 0 ≡ suc n → (count_below f n ≡ n → k < n → f k ≡ true) → f k ≡ true
    step false p q ih = absurd (omega (arith, few))
    step true p q ih = elim (near k n h) [ inl l ↦ ih (omega arith) l | inr s ↦ at s p ]
      where
        near : (k n : ℕ) → k < suc n → (k < n) ⊎ (k ≡ n)
        near k n h = grind arith

-- those of a cell from a up to e, as places
pub count_inside : (words : List ℕ) (c : Cell) (a e : ℕ) → c.first ≤ a → a ≤ e → e ≤ c.end → c.end ≤ c.width →
    count_below (λ k. is_kept words c k && is_inside a e k) c.width ≡ count_below (λ k. is_set words (64 * c.start + a + k)) (e - a)
count_inside words c a e h l m w =
    count_agree (λ k. is_set words (64 * c.start + k) && is_inside a e k) (λ k. is_kept words c k && is_inside a e k) c.width (λ k q. same (is_set words (64 * c.start + k)) c.first c.end k h m)
    ∙ (count_window (λ k. is_set words (64 * c.start + k)) c.width a e l (omega arith)
    ∙ count_agree (λ k. is_set words (64 * c.start + a + k)) (λ k. is_set words (64 * c.start + (a + k))) (e - a) (λ k q. ap (is_set words) (place k)))
  where
    same : (b : Bool) (first end k : ℕ) → first ≤ a → e ≤ end → ((is_inside first end k && b) && is_inside a e k) ≡ (b && is_inside a e k)
    same b first end k h m = grind (arith, nat_tests)

    place : (k : ℕ) → 64 * c.start + (a + k) ≡ 64 * c.start + a + k
    place k = omega arith

-- each place between the ends of a cell without gaps is set
pub set_dense : (words : List ℕ) (c : Cell) (k : ℕ) → IsCell words c → c.size ≡ c.end - c.first → c.first ≤ k → k < c.end → is_set words (64 * c.start + k) ≡ true
set_dense words c k i d h l = ap (is_set words) place ∙ all (k - c.first) (omega arith)
  where
    whole : count_below (λ j. is_kept words c j && is_inside c.first c.end j) c.width ≡ count_below (is_kept words c) c.width
    whole = count_agree (is_kept words c) (λ j. is_kept words c j && is_inside c.first c.end j) c.width (λ j q. twice (is_inside c.first c.end j) (is_set words (64 * c.start + j)))
      where
        twice : (b s : Bool) → ((b && s) && b) ≡ (b && s)
        twice true s = grind arith
        twice false s = refl

    all : (j : ℕ) → j < c.end - c.first → is_set words (64 * c.start + c.first + j) ≡ true
    all = count_full (λ j. is_set words (64 * c.start + c.first + j)) (c.end - c.first)
        (sym (count_inside words c c.first c.end (omega arith) i.order (omega arith) i.within) ∙ (whole ∙ (sym i.size ∙ d)))

    place : 64 * c.start + k ≡ 64 * c.start + c.first + (k - c.first)
    place = omega arith

-- so many are left of it
pub count_dense : (words : List ℕ) (c : Cell) (a e : ℕ) → IsCell words c → c.size ≡ c.end - c.first → c.first ≤ a → a ≤ e → e ≤ c.end →
    e - a ≡ count_below (λ k. is_kept words c k && is_inside a e k) c.width
count_dense words c a e i d h l m = sym
    (count_inside words c a e h l m i.within ∙ full (e - a) (λ k q. ap (is_set words) (place k) ∙ set_dense words c (a + k) i d (omega arith) (omega arith)))
  where
    place : (k : ℕ) → 64 * c.start + a + k ≡ 64 * c.start + (a + k)
    place k = omega arith

    full : (n : ℕ) → ((k : ℕ) → k < n → is_set words (64 * c.start + a + k) ≡ true) → count_below (λ k. is_set words (64 * c.start + a + k)) n ≡ n
    full zero f = refl
    full (suc n) f = ap (λ b. count_below (λ k. is_set words (64 * c.start + a + k)) n + cond b 1 0) (f n (omega arith)) ∙ next (full n (λ k q. f k (omega arith)))
      where
        next : count_below (λ k. is_set words (64 * c.start + a + k)) n ≡ n → count_below (λ k. is_set words (64 * c.start + a + k)) n + 1 ≡ suc n
        next e = omega arith

-- how many are left, without those from a up to e
pub left_after : (words now : List ℕ) (c d : Cell) (a e gone : ℕ) → IsCell words c → d.width ≡ c.width → gone ≡ count_below (λ k. is_kept words c k && is_inside a e k) c.width →
    ((k : ℕ) → k < c.width → is_kept now d k ≡ (is_kept words c k && not (is_inside a e k))) → c.size - gone ≡ count_below (is_kept now d) d.width
left_after words now c d a e gone i w g f =
    let split = count_split (is_kept words c) (is_inside a e) c.width in
    let stay : count_below (is_kept now d) d.width ≡ count_below (λ k. is_kept words c k && not (is_inside a e k)) c.width =
    ap (count_below (is_kept now d)) w ∙ count_agree (λ k. is_kept words c k && not (is_inside a e k)) (is_kept now d) c.width f in
    omega (arith, split, stay, i.size, g)

-- some go, where one of them is left
pub some_gone : (words : List ℕ) (c : Cell) (a e k : ℕ) → IsCell words c → k < c.width → is_kept words c k ≡ true → is_inside a e k ≡ true →
    0 < count_below (λ j. is_kept words c j && is_inside a e j) c.width
some_gone words c a e k i h p q = count_some (λ j. is_kept words c j && is_inside a e j) c.width k h (ap (λ b. b && is_inside a e k) p ∙ q)

pub gone_most : (words : List ℕ) (c : Cell) (a e gone : ℕ) → IsCell words c → gone ≡ count_below (λ k. is_kept words c k && is_inside a e k) c.width → gone ≤ c.size
gone_most words c a e gone i g = omega (arith, count_split (is_kept words c) (is_inside a e) c.width, i.size, g)

-- the values at places from a up to e go, and no word changes
pub takes_ends : (t u : Table) (x : ℕ) (c d : Cell) (a e gone : ℕ) →
    IsSoundTable t → x < length t.cells.items → slice_index_or t.cells.items x c ≡ c → IsCell t.words.items c → SamePlace c d → a < e →
    d.first ≤ d.end → d.end ≤ d.width → (d.first < d.end → is_set t.words.items (64 * d.start + d.first) ≡ true) → (d.first < d.end → is_set t.words.items (64 * d.start + (d.end - 1)) ≡ true) →
    gone ≡ count_below (λ k. is_kept t.words.items c k && is_inside a e k) c.width → 0 < gone → d.size ≡ c.size - gone →
    ((k : ℕ) → k < c.width → is_kept t.words.items d k ≡ (is_kept t.words.items c k && not (is_inside a e k))) →
    u.words.items ≡ t.words.items → u.cells.items ≡ set t.cells.items x d →
    u.trail.items ≡ t.trail.items ++ record { bits = 0; word = 18446744073709551615; var = x; cell = c } ∷ [] →
    u.trail.spare + 1 ≡ t.trail.spare → length t.words.items ≤ 100000 →
    Takes x (c.base +ℤ pos a) (c.base +ℤ pos (e - 1)) t u
takes_ends t u x c d a e gone i h at ic s l o w f1 f2 g pg es kept ew ec et spare few =
    let here : IsCell t.words.items d = record {
      inside = omega (arith, ic.inside, s.start, s.width);
      narrow = omega (arith, ic.narrow, s.width);
      low = subst (λ b. negsuc 999999999 ≤ℤ b) (sym s.base) ic.low;
      high = subst (λ b. (b +ℤ pos d.width) ≤ℤ pos 1000000001) (sym s.base) (subst (λ n. (c.base +ℤ pos n) ≤ℤ pos 1000000001) (sym s.width) ic.high);
      order = o;
      within = w;
      first = f1;
      last = f2;
      size = es ∙ left_after t.words.items t.words.items c d a e gone ic s.width g kept;
    } in
    takes_step t u x c d (record { bits = 0; word = 18446744073709551615; var = x; cell = c }) (c.base +ℤ pos a) (c.base +ℤ pos (e - 1)) i h at s
    (record { long = ap length ew; same = λ p q. ap (λ ws. is_set ws p) ew })
    (subst (λ ws. IsCell ws d) (sym ew) here) ec et spare refl refl
    (ap (λ ws. set ws 18446744073709551615 0) ew ∙ set_past t.words.items 18446744073709551615 0 (omega (arith, few)))
    (λ k q. ap (λ ws. is_kept ws d k) ew ∙ (kept k q ∙ ap (λ b. is_kept t.words.items c k && not b) (sym (within_places c.base a e k l))))
    (omega (arith, pg, es, gone_most t.words.items c a e gone ic g))

-- as the places of all words are counted
pub place_count : (words now : List ℕ) (c : Cell) (a e : ℕ) → now ≡ words → c.first ≤ a → a ≤ e → e ≤ c.end → c.end ≤ c.width →
    count_below (λ k. is_set now (64 * c.start + a + k)) (64 * c.start + e - (64 * c.start + a)) ≡ count_below (λ k. is_kept words c k && is_inside a e k) c.width
place_count words now c a e q h l m w =
    ap (count_below (λ k. is_set now (64 * c.start + a + k))) long
    ∙ (ap (λ ws. count_below (λ k. is_set ws (64 * c.start + a + k)) (e - a)) q ∙ sym (count_inside words c a e h l m w))
  where
    long : 64 * c.start + e - (64 * c.start + a) ≡ e - a
    long = omega arith
