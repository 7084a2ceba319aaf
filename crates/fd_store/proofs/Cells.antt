-- One cell, with one word, is changed.
use Rattle.std.proofs.Common.{◌≡◌, ◌≢◌, ◌⊎◌, inl, inr, ℕ, zero, suc, ◌+◌, ◌-◌, ◌*◌, ◌<◌, ◌≤◌, not, ◌&&◌, List, [], ◌∷◌, ◌++◌, length, set, get_or, map, drop, refl, sym, ap, subst, ◌∙◌, arith, ℤ, length-append}
use Rattle.std.specs.Prelude.{pos, ◌+ℤ◌, All}
use Rattle.std.proofs.lemmas.List.{length-set, get_or-set_same, get_or-set_other, get_or_append_left, get_or_push, map-set}
use Rattle.std.proofs.lemmas.List.Elements.{All-append, All-cons, All-nil}
use Rattle.std.proofs.lemmas.Int.{ints}
use mir.Val.{SFits}
use mir.Syntax.{w64}
use Rattle.qc_model.specs.Domains.{Values, values_left, box_without, values_outside, is_within}
use Rattle.fd_store.specs.declared.table.Cell.{Cell}
use Rattle.fd_store.specs.declared.table.Change.{Change}
use Rattle.fd_store.specs.Places.{is_set, is_kept, is_inside, cell_values, values_below, box_of}
use Rattle.fd_store.specs.Trail.{words_before, cells_before, box_before}
use Rattle.fd_store.specs.Sound.{IsCell, AreApart, IsRight, IsPlace, IsSound, cells_left}
use Rattle.fd_store.specs.Held.{AgreeApart}
use Rattle.fd_store.proofs.Counts.{count_agree}
use Rattle.fd_store.proofs.Past.{words_kept, cells_kept}
use Rattle.fd_store.proofs.Values.{values_agree, values_cut}

same_or_not : (x y : ℕ) → (x ≡ y) ⊎ (x ≢ y)
same_or_not x y = grind arith

-- the values at a place of the box
pub values_at : (words : List ℕ) (cells : List Cell) (x : ℕ) (c : Cell) → x < length cells → get_or cells x c ≡ c → values_left (box_of words cells) x ≡ cell_values words c
values_at words [] x c h e = absurd (omega arith)
values_at words (d ∷ ds) zero c h e = ap (cell_values words) e
values_at words (d ∷ ds) (suc x) c h e = values_at words ds x c (omega arith) e

-- only the place of a cell counts
abbrev pub AgreeAt : List ℕ → List ℕ → Cell → Type 0
AgreeAt words now c = (k : ℕ) → k < c.width → is_set now (64 * c.start + k) ≡ is_set words (64 * c.start + k)

pub kept_same : (words now : List ℕ) (c : Cell) → AgreeAt words now c → (k : ℕ) → k < c.width → is_kept now c k ≡ is_kept words c k
kept_same words now c h k l = ap (λ b. is_inside c.first c.end k && b) (h k l)

pub values_same : (words now : List ℕ) (c : Cell) → AgreeAt words now c → cell_values now c ≡ cell_values words c
values_same words now c h = values_agree (is_kept words c) (is_kept now c) c.base c.width (kept_same words now c h)

pub cell_same : (words now : List ℕ) (c : Cell) → length now ≡ length words → AgreeAt words now c → IsCell words c → IsCell now c
cell_same words now c l h i = record {
  inside = omega (arith, i.inside);
  narrow = i.narrow;
  low = i.low;
  high = i.high;
  order = i.order;
  within = i.within;
  first = λ q. h c.first (omega (arith, i.within)) ∙ i.first q;
  last = λ q. h (c.end - 1) (omega (arith, i.within)) ∙ i.last q;
  size = i.size ∙ sym (count_agree (is_kept words c) (is_kept now c) c.width (kept_same words now c h));
}

-- the words agree but at the place of c
pub record AgreeBut (words now : List ℕ) (c : Cell) : Type 0 where
  pub long : length now ≡ length words
  pub same : (p : ℕ) → (p < 64 * c.start) ⊎ (64 * c.start + c.width ≤ p) → is_set now p ≡ is_set words p

-- the cell d stands where c does
pub record SamePlace (c d : Cell) : Type 0 where
  pub base : d.base ≡ c.base
  pub start : d.start ≡ c.start
  pub width : d.width ≡ c.width

-- another cell's place agrees
pub others_agree : (words now : List ℕ) (cells : List Cell) (x y : ℕ) (c d : Cell) → AreApart cells → AgreeBut words now c → x < length cells → y < length cells → y ≢ x →
    get_or cells x c ≡ c → get_or cells y d ≡ d → AgreeAt words now d
others_agree words now cells x y c d a b h l n e f = λ k q. elim (sides x y n) [
  | inl g ↦ let q2 = a x y c d g l e f in b.same (64 * d.start + k) (inr (omega arith))
  | inr g ↦ let q2 = a y x d c g h f e in b.same (64 * d.start + k) (inl (omega arith))
]
  where
    sides : (x y : ℕ) → y ≢ x → (x < y) ⊎ (y < x)
    sides x y n = grind arith

-- where a cell of the new list comes from
pub record ComesFrom (cells : List Cell) (y : ℕ) (d : Cell) : Type 0 where
  pub cell : Cell
  pub at : get_or cells y cell ≡ cell
  pub start : cell.start ≡ d.start
  pub width : cell.width ≡ d.width

origin : (cells : List Cell) (x y : ℕ) (c d o : Cell) → x < length cells → get_or cells x c ≡ c → SamePlace c d → get_or (set cells x d) y o ≡ o → ComesFrom cells y o
origin cells x y c d o h e s f = elim (same_or_not y x) [
  | inl q ↦
      let here : d ≡ o = sym (get_or-set_same cells x d o h) ∙ (ap (λ k. get_or (set cells x d) k o) (sym q) ∙ f) in
      record { cell = c; at = ap (λ k. get_or cells k c) q ∙ e; start = sym s.start ∙ ap (λ (u : Cell). u.start) here; width = sym s.width ∙ ap (λ (u : Cell). u.width) here }
  | inr n ↦ record { cell = o; at = sym (get_or-set_other cells x y d o n) ∙ f; start = refl; width = refl }
]

apart_set : (cells : List Cell) (x : ℕ) (c d : Cell) → x < length cells → get_or cells x c ≡ c → SamePlace c d → AreApart cells → AreApart (set cells x d)
apart_set cells x c d h e s a = λ y z p q l m f g.
    let u = origin cells x y c d p h e s f in
    let v = origin cells x z c d q h e s g in
    let far = a y z u.cell v.cell l (omega (arith, length-set cells x d, m)) u.at v.at in
    omega (arith, far, u.start, u.width, v.start)

pub right_set : (words now : List ℕ) (cells : List Cell) (x : ℕ) (c d : Cell) → x < length cells → get_or cells x c ≡ c → SamePlace c d → AgreeBut words now c → IsCell now d →
    IsRight words cells → IsRight now (set cells x d)
right_set words now cells x c d h e s b i r = record {
  few = omega (arith, r.few, b.long);
  each = λ y o l f. elim (same_or_not y x) [
    | inl q ↦
        let here : d ≡ o = sym (get_or-set_same cells x d o h) ∙ (ap (λ k. get_or (set cells x d) k o) (sym q) ∙ f) in
        subst (IsCell now) here i
    | inr n ↦
        let at : get_or cells y o ≡ o = sym (get_or-set_other cells x y d o n) ∙ f in
        let m : y < length cells = omega (arith, length-set cells x d, l) in
        cell_same words now o b.long (others_agree words now cells x y c o r.apart b h m n e at) (r.each y o m at)
  ];
  apart = apart_set cells x c d h e s r.apart;
}

pub map_agree : (f g : Cell → Values) (cells : List Cell) → ((y : ℕ) (c : Cell) → y < length cells → get_or cells y c ≡ c → f c ≡ g c) → map f cells ≡ map g cells
map_agree f g [] h = refl
map_agree f g (c ∷ cs) h =
    ap (λ v. v ∷ map f cs) (h 0 c (omega arith) refl)
    ∙ ap (λ vs. g c ∷ vs) (map_agree f g cs (λ y d l e. h (suc y) d (omega arith) e))

set_agree : (f g : Cell → Values) (cells : List Cell) (x : ℕ) (us : Values) → ((y : ℕ) (c : Cell) → y ≢ x → y < length cells → get_or cells y c ≡ c → f c ≡ g c) →
    set (map f cells) x us ≡ set (map g cells) x us
set_agree f g [] x us h = refl
set_agree f g (c ∷ cs) zero us h = ap (λ vs. us ∷ vs) (map_agree f g cs (λ y d l e. h (suc y) d (omega arith) (omega arith) e))
set_agree f g (c ∷ cs) (suc x) us h =
    ap (λ v. v ∷ set (map f cs) x us) (h 0 c (omega arith) (omega arith) refl)
    ∙ ap (λ vs. g c ∷ vs) (set_agree f g cs x us (λ y d n l e. h (suc y) d (omega arith) (omega arith) e))

pub box_set : (words now : List ℕ) (cells : List Cell) (x : ℕ) (c d : Cell) (lo hi : ℤ) → x < length cells → get_or cells x c ≡ c → SamePlace c d → AgreeBut words now c → IsRight words cells →
    ((k : ℕ) → k < c.width → is_kept now d k ≡ (is_kept words c k && not (is_within lo hi (c.base +ℤ pos k)))) →
    box_of now (set cells x d) ≡ box_without (box_of words cells) x lo hi
box_set words now cells x c d lo hi h e s b r f =
    map-set (cell_values now) cells x d
    ∙ (set_agree (cell_values now) (cell_values words) cells x (cell_values now d) (λ y o n l q. values_same words now o (others_agree words now cells x y c o r.apart b h l n e q))
    ∙ ap (set (box_of words cells) x) (here ∙ ap (values_outside lo hi) (sym (values_at words cells x c h e))))
  where
    here : cell_values now d ≡ values_outside lo hi (cell_values words c)
    here = ap (λ v. values_below (is_kept now d) v d.width) s.base ∙ (ap (values_below (is_kept now d) c.base) s.width ∙ values_cut (is_kept words c) (is_kept now d) lo hi c.base c.width f)

pub drop_end : (es : List Change) (k : ℕ) → length es ≤ k → drop k es ≡ []
drop_end [] zero h = refl
drop_end [] (suc k) h = refl
drop_end (e ∷ es) zero h = absurd (omega arith)
drop_end (e ∷ es) (suc k) h = drop_end es k (omega arith)

pub sound_push : (words now : List ℕ) (cells then : List Cell) (trail : List Change) (e : Change) → IsSound words cells trail → IsRight now then → length then ≡ length cells → e.var < length cells →
    set now e.word e.bits ≡ words → set then e.var e.cell ≡ cells → cells_left then + 1 ≤ cells_left cells → AgreeApart e.var (box_of words cells) (box_of now then) → IsSound now then (trail ++ e ∷ [])
sound_push words now cells then trail e i r len h w c fewer alike = record {
  places = All-append (IsPlace (length then)) trail (e ∷ []) (subst (λ n. All (IsPlace n) trail) (sym len) i.places) (All-cons (IsPlace (length then)) e [] (omega arith) (All-nil (IsPlace (length then))));
  past = λ k l. elim (near k (length trail) (omega (arith, l, length-append trail (e ∷ [])))) [
    | inl q ↦ subst (λ ws. IsRight ws (cells_before (drop k (trail ++ e ∷ [])) then)) (sym (words_kept words now trail (e ∷ []) k q w))
        (subst (IsRight (words_before (drop k trail) words)) (sym (cells_kept cells then trail (e ∷ []) k q c)) (i.past k q))
    | inr q ↦ subst (λ ds. IsRight (words_before ds now) (cells_before ds then)) (sym (drop_all k q)) r
  ];
  few = λ k l. elim (near k (length trail) (omega (arith, l, length-append trail (e ∷ [])))) [
    | inl q ↦
        let small = i.few k q in
        omega (arith, small, first, ap cells_left (cells_kept cells then trail (e ∷ []) k q c))
    | inr q ↦
        let whole = i.few (length trail) (omega arith) in
        omega (arith, whole, first, fewer, q, ap cells_left (ap (λ ds. cells_before ds then) (drop_all k q)), ap cells_left (ap (λ ds. cells_before ds cells) (drop_end trail (length trail) (omega arith))))
  ];
  others = λ k d l at. others k d at (near_end k (length trail) (omega (arith, l, length-append trail (e ∷ []))));
}
  where
    first : cells_left (cells_before (trail ++ e ∷ []) then) ≡ cells_left (cells_before trail cells)
    first = ap cells_left (cells_kept cells then trail (e ∷ []) 0 (omega arith) c)

    near : (k n : ℕ) → k ≤ n + 1 → (k ≤ n) ⊎ (k ≡ n + 1)
    near k n l = grind arith

    drop_all : (k : ℕ) → k ≡ length trail + 1 → drop k (trail ++ e ∷ []) ≡ []
    drop_all k q = drop_end (trail ++ e ∷ []) k (omega (arith, q, length-append trail (e ∷ [])))

    -- undone as far as before, it is as before
    box_kept : (k : ℕ) → k ≤ length trail → box_before (drop k (trail ++ e ∷ [])) now then ≡ box_before (drop k trail) words cells
    box_kept k q =
        ap (λ ws. box_of ws (cells_before (drop k (trail ++ e ∷ [])) then)) (words_kept words now trail (e ∷ []) k q w)
        ∙ ap (box_of (words_before (drop k trail) words)) (cells_kept cells then trail (e ∷ []) k q c)

    others : (k : ℕ) (d : Change) → get_or (trail ++ e ∷ []) k d ≡ d → (k < length trail) ⊎ (k ≡ length trail) →
        AgreeApart d.var (box_before (drop k (trail ++ e ∷ [])) now then) (box_before (drop (k + 1) (trail ++ e ∷ [])) now then)
    others k d at (inl q) =
        let old = i.others k d q (sym (get_or_append_left trail (e ∷ []) d k q) ∙ at) in
        λ y n. ap (λ b. values_left b y) (box_kept k (omega arith)) ∙ (old y n ∙ sym (ap (λ b. values_left b y) (box_kept (k + 1) (omega arith))))
    others k d at (inr q) =
        let own : e ≡ d = sym (get_or_push trail e d k (sym q)) ∙ at in
        let was : box_before (drop k (trail ++ e ∷ [])) now then ≡ box_of words cells = box_kept k (omega arith) ∙ ap (λ ds. box_before ds words cells) (drop_end trail k (omega arith)) in
        let is : box_before (drop (k + 1) (trail ++ e ∷ [])) now then ≡ box_of now then = ap (λ ds. box_before ds now then) (drop_all (k + 1) (omega arith)) in
        λ y n. ap (λ b. values_left b y) was ∙ (alike y (λ m. n (m ∙ ap (λ (f : Change). f.var) own)) ∙ sym (ap (λ b. values_left b y) is))

    near_end : (k n : ℕ) → k < n + 1 → (k < n) ⊎ (k ≡ n)
    near_end k n l = grind arith

pub base_fits : (words : List ℕ) (c : Cell) → IsCell words c → SFits w64 c.base
base_fits words c i = omega (arith, ints, i.low, i.high)

-- the cell that a change records
pub recorded_cell : (cells : List Cell) (x : ℕ) (c d : Cell) → x < length cells → get_or cells x c ≡ c → get_or cells x d ≡ c
recorded_cell [] x c d h e = absurd (omega arith)
recorded_cell (o ∷ os) zero c d h e = e
recorded_cell (o ∷ os) (suc x) c d h e = recorded_cell os x c d (omega arith) e

pub recorded : (trail : List Change) (bits word x : ℕ) (cells : List Cell) (c d : Cell) → x < length cells → get_or cells x c ≡ c →
    trail ++ record { bits = bits; word = word; var = x; cell = get_or cells x d } ∷ [] ≡ trail ++ record { bits = bits; word = word; var = x; cell = c } ∷ []
recorded trail bits word x cells c d h e = ap (λ (o : Cell). let more : List Change = record { bits = bits; word = word; var = x; cell = o } ∷ [] in trail ++ more) (recorded_cell cells x c d h e)
