-- A store's first words and cells, one variable after another.
use Rattle.std.proofs.Common.{◌≡◌, ◌⊎◌, inl, inr, ℕ, ◌+◌, ◌-◌, ◌*◌, ◌/◌, ◌<◌, ◌≤◌, List, [], ◌∷◌, ◌++◌, length, get_or, map, take, drop, sym, ap, subst, ◌∙◌, arith, zero, suc, true}
use Rattle.std.specs.Prelude.{sum_by}
use Rattle.std.specs.List.{list_all}
use Rattle.std.proofs.lemmas.List.{get_or_append_left, get_or_push, length_push, take_more, map-append}
use Rattle.std.proofs.lemmas.List.Elements.{All-nil}
use Rattle.std.proofs.lemmas.List.Sums.{sum_by-drop_more}
use Rattle.qc_model.specs.declared.problem.Variable.{Variable}
use Rattle.qc_model.specs.Domains.{Box, Values, domain_values}
use Rattle.qc_model.specs.Valid.{is_domain, domain_width}
use Rattle.qc_model.proofs.SizeProducts.{domain_at}
use Rattle.fd_store.specs.declared.table.Cell.{Cell}
use Rattle.fd_store.specs.Added.{AddsCell}
use Rattle.fd_store.specs.Places.{is_kept, cell_values, box_of}
use Rattle.fd_store.specs.Sound.{IsCell, IsRight, IsPlace, IsSound, cells_left}
use Rattle.fd_store.specs.Trail.{words_before, cells_before}
use Rattle.fd_store.proofs.Counts.{count_agree}
use Rattle.fd_store.proofs.Cells.{kept_same, values_same, map_agree, AgreeAt}

grown : (words now : List ℕ) (cells : List Cell) (c d : Cell) (n : ℕ) (vs : Values) (x : ℕ) → IsRight words cells → AddsCell words now c n vs → x < length cells → get_or cells x d ≡ d → AgreeAt words now d
grown words now cells c d n vs x r i h e = λ k l. i.before (64 * d.start + k) (omega (arith, (r.each x d h e).inside))

-- the words that were, in a longer list
cell_longer : (words now : List ℕ) (d : Cell) → length words ≤ length now → AgreeAt words now d → IsCell words d → IsCell now d
cell_longer words now d l h i = record {
  inside = omega (arith, i.inside);
  narrow = i.narrow;
  low = i.low;
  high = i.high;
  order = i.order;
  within = i.within;
  first = λ q. h d.first (omega (arith, i.within)) ∙ i.first q;
  last = λ q. h (d.end - 1) (omega (arith, i.within)) ∙ i.last q;
  size = i.size ∙ sym (count_agree (is_kept words d) (is_kept now d) d.width (kept_same words now d h));
}

near : (x n : ℕ) → x < n + 1 → (x < n) ⊎ (x ≡ n)
near x n h = grind arith

pub right_push : (words now : List ℕ) (cells then : List Cell) (c : Cell) (n : ℕ) (vs : Values) → IsRight words cells → AddsCell words now c n vs → then ≡ cells ++ c ∷ [] → length now ≤ 100000 → IsRight now then
right_push words now cells then c n vs r i e few = record {
  few = few;
  each = λ x d h q. elim (near x (length cells) (omega (arith, h, long))) [
    | inl l ↦ cell_longer words now d (omega (arith, i.long)) (grown words now cells c d n vs x r i l (old x d l q)) (r.each x d l (old x d l q))
    | inr l ↦ subst (IsCell now) (sym (new x d l q)) i.cell
  ];
  apart = λ x y d o l h p q. elim (near y (length cells) (omega (arith, h, long))) [
    | inl m ↦ r.apart x y d o l m (old x d (omega arith) p) (old y o m q)
    | inr m ↦
        let inside = (r.each x d (omega arith) (old x d (omega arith) p)).inside in
        let start : o.start ≡ length words = ap (λ (u : Cell). u.start) (new y o m q) ∙ i.start in
        omega (arith, inside, start)
  ];
}
  where
    long : length then ≡ length cells + 1
    long = ap length e ∙ length_push cells c

    old : (x : ℕ) (d : Cell) → x < length cells → get_or then x d ≡ d → get_or cells x d ≡ d
    old x d l q = sym (get_or_append_left cells (c ∷ []) d x l) ∙ (ap (λ cs. get_or cs x d) (sym e) ∙ q)

    new : (x : ℕ) (d : Cell) → x ≡ length cells → get_or then x d ≡ d → d ≡ c
    new x d l q = sym q ∙ (ap (λ cs. get_or cs x d) e ∙ get_or_push cells c d x (sym l))

pub content_push : (words now : List ℕ) (cells then : List Cell) (c : Cell) (n : ℕ) (vs : Values) → IsRight words cells → AddsCell words now c n vs → then ≡ cells ++ c ∷ [] →
    box_of now then ≡ box_of words cells ++ vs ∷ []
content_push words now cells then c n vs r i e =
    ap (box_of now) e ∙ (map-append (cell_values now) cells (c ∷ [])
    ∙ (ap (λ us. us ++ cell_values now c ∷ []) (map_agree (cell_values now) (cell_values words) cells (λ y d l q. values_same words now d (grown words now cells c d n vs y r i l q)))
    ∙ ap (λ v. box_of words cells ++ v ∷ []) i.values))

pub right_none : IsRight [] []
right_none = record { few = omega arith; each = λ x c h e. absurd (omega arith); apart = λ x y c d l h p q. absurd (omega arith) }

pub sound_start : (words : List ℕ) (cells : List Cell) → IsRight words cells → IsSound words cells []
sound_start words cells r = record {
  places = All-nil (IsPlace (length cells));
  past = λ k h. step k h;
  few = λ k h. none k h;
  others = λ k e h. absurd (omega arith);
}
  where
    step : (k : ℕ) → k ≤ 0 → IsRight (words_before (drop k []) words) (cells_before (drop k []) cells)
    step zero h = r
    step (suc k) h = r

    none : (k : ℕ) → k ≤ 0 → k + cells_left (cells_before (drop k []) cells) ≤ cells_left cells
    none zero h = omega arith
    none (suc k) h = absurd (omega arith)

-- the variables so far, and one more
abbrev pub values_of : Variable → Values
values_of x = domain_values x.domain

abbrev pub width_at : Variable → ℕ
width_at x = domain_width x.domain

pub declared_more : (xs : List Variable) (i : ℕ) (x : Variable) (box now : Box) → i < length xs → get_or xs i x ≡ x → box ≡ map values_of (take i xs) → now ≡ box ++ values_of x ∷ [] → now ≡ map values_of (take (i + 1) xs)
declared_more xs i x box now h e q p =
    p ∙ (ap (λ b. b ++ values_of x ∷ []) q
    ∙ sym (ap (map values_of) (take_more xs i x h ∙ ap (λ y. let more : List Variable = y ∷ [] in take i xs ++ more) e) ∙ map-append values_of (take i xs) (x ∷ [])))

pub room_more : (xs : List Variable) (i words : ℕ) (x : Variable) → i < length xs → get_or xs i x ≡ x → 64 * words + sum_by width_at (drop i xs) ≤ 4194304 + 63 * i →
    64 * (words + (width_at x + 63) / 64) + sum_by width_at (drop (i + 1) xs) ≤ 4194304 + 63 * (i + 1)
room_more xs i words x h e l =
    let s : sum_by width_at (drop i xs) ≡ width_at x + sum_by width_at (drop (i + 1) xs) = sum_by-drop_more width_at xs i x h ∙ ap (λ y. width_at y + sum_by width_at (drop (i + 1) xs)) e in
    omega (arith, s, l)

pub valid_at : (xs : List Variable) (i : ℕ) (x : Variable) → i < length xs → get_or xs i x ≡ x → list_all (λ y. is_domain y.domain) xs ≡ true → is_domain x.domain ≡ true
valid_at xs i x h e a = ap (λ (y : Variable). is_domain y.domain) (sym e) ∙ domain_at xs i x h a
