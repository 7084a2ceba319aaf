-- Past boxes, by what undoing leads back to.
use Rattle.std.proofs.Common.{◌≡◌, ℕ, zero, suc, ◌≤◌, List, [], ◌∷◌, ◌++◌, length, drop, take, set, refl, sym, ap, ◌∙◌, arith, length-append, append-nil, append_assoc, take-append-drop}
use Rattle.std.specs.Prelude.{slice_index_or}
use Rattle.std.proofs.lemmas.List.{length-set, length-take-le, drop-append-le}
use Rattle.fd_store.specs.declared.table.Cell.{Cell}
use Rattle.fd_store.specs.declared.table.Change.{Change}
use Rattle.fd_store.specs.Held.{Follows, IsUndone}
use Rattle.fd_store.specs.Places.{box_of}
use Rattle.fd_store.specs.Trail.{words_before, cells_before, box_before, past_boxes, held, LeadsBack}

pub length-past_boxes : (es : List Change) (words : List ℕ) (cells : List Cell) → length (past_boxes es words cells) ≡ length es
length-past_boxes [] words cells = refl
length-past_boxes (e ∷ es) words cells = ap suc (length-past_boxes es words cells)

-- the past box at n comes of undoing what stands from n on
pub past_is : (es : List Change) (words : List ℕ) (cells : List Cell) (n : ℕ) → n ≤ length es →
    slice_index_or (past_boxes es words cells) n (box_of words cells) ≡ box_before (drop n es) words cells
past_is [] words cells zero h = refl
past_is [] words cells (suc n) h = refl
past_is (e ∷ es) words cells zero h = refl
past_is (e ∷ es) words cells (suc n) h = past_is es words cells n (omega arith)

pub words_before-append : (xs ys : List Change) (words : List ℕ) → words_before (xs ++ ys) words ≡ words_before xs (words_before ys words)
words_before-append [] ys words = refl
words_before-append (e ∷ xs) ys words = ap (λ ws. set ws e.word e.bits) (words_before-append xs ys words)

pub cells_before-append : (xs ys : List Change) (cells : List Cell) → cells_before (xs ++ ys) cells ≡ cells_before xs (cells_before ys cells)
cells_before-append [] ys cells = refl
cells_before-append (e ∷ xs) ys cells = ap (λ cs. set cs e.var e.cell) (cells_before-append xs ys cells)

pub length-words_before : (es : List Change) (words : List ℕ) → length (words_before es words) ≡ length words
length-words_before [] words = refl
length-words_before (e ∷ es) words = length-set (words_before es words) e.word e.bits ∙ length-words_before es words

pub length-cells_before : (es : List Change) (cells : List Cell) → length (cells_before es cells) ≡ length cells
length-cells_before [] cells = refl
length-cells_before (e ∷ es) cells = length-set (cells_before es cells) e.var e.cell ∙ length-cells_before es cells

-- changes that lead back keep the past
pub words_kept : (words now : List ℕ) (es more : List Change) (n : ℕ) → n ≤ length es → words_before more now ≡ words →
    words_before (drop n (es ++ more)) now ≡ words_before (drop n es) words
words_kept words now es more n h e =
    ap (λ ds. words_before ds now) (drop-append-le n es more h) ∙ (words_before-append (drop n es) more now ∙ ap (words_before (drop n es)) e)

pub cells_kept : (cells then : List Cell) (es more : List Change) (n : ℕ) → n ≤ length es → cells_before more then ≡ cells →
    cells_before (drop n (es ++ more)) then ≡ cells_before (drop n es) cells
cells_kept cells then es more n h e =
    ap (λ ds. cells_before ds then) (drop-append-le n es more h) ∙ (cells_before-append (drop n es) more then ∙ ap (cells_before (drop n es)) e)

pub past_kept : (words now : List ℕ) (cells then : List Cell) (es more : List Change) (n : ℕ) → n ≤ length es → words_before more now ≡ words → cells_before more then ≡ cells →
    slice_index_or (past_boxes (es ++ more) now then) n (box_of now then) ≡ slice_index_or (past_boxes es words cells) n (box_of words cells)
past_kept words now cells then es more n h e f =
    past_is (es ++ more) now then n (omega (arith, length-append es more))
    ∙ (ap (λ ws. box_of ws (cells_before (drop n (es ++ more)) then)) (words_kept words now es more n h e)
    ∙ (ap (box_of (words_before (drop n es) words)) (cells_kept cells then es more n h f)
    ∙ sym (past_is es words cells n h)))

pub follows : (words now : List ℕ) (cells then : List Cell) (trail longer : List Change) (s t : ℕ) → LeadsBack words now cells then trail longer →
    Follows (held words cells trail s) (held now then longer t)
follows words now cells then trail longer s t r = record {
  longer = omega (arith, length-past_boxes trail words cells, length-past_boxes longer now then, ap length r.appended, length-append trail r.more);
  boxes = λ k h. ap (λ es. slice_index_or (past_boxes es now then) k (box_of now then)) r.appended
      ∙ past_kept words now cells then trail r.more k (omega (arith, h, length-past_boxes trail words cells)) r.words_back r.cells_back;
}

pub undone : (words : List ℕ) (cells : List Cell) (es : List Change) (at s t : ℕ) → at ≤ length es →
    IsUndone at (held words cells es s) (held (words_before (drop at es) words) (cells_before (drop at es) cells) (take at es) t)
undone words cells es at s t h =
    let now = words_before (drop at es) words in
    let then = cells_before (drop at es) cells in
    let len : length (take at es) ≡ at = length-take-le at es h in
    record {
      len = length-past_boxes (take at es) now then ∙ len;
      boxes = λ k l. sym (past_kept now words then cells (take at es) (drop at es) k (omega arith) refl refl)
          ∙ ap (λ ds. slice_index_or (past_boxes ds words cells) k (box_of words cells)) (take-append-drop at es);
    }

pub leads_none : (words : List ℕ) (cells : List Cell) (trail : List Change) → LeadsBack words words cells cells trail trail
leads_none words cells trail = record { more = []; appended = sym (append-nil trail); words_back = refl; cells_back = refl }

pub leads_one : (words now : List ℕ) (cells then : List Cell) (trail longer : List Change) (e : Change) → longer ≡ trail ++ e ∷ [] →
    set now e.word e.bits ≡ words → set then e.var e.cell ≡ cells → LeadsBack words now cells then trail longer
leads_one words now cells then trail longer e h w c = record { more = e ∷ []; appended = h; words_back = w; cells_back = c }

pub leads_more : (w0 w1 w2 : List ℕ) (c0 c1 c2 : List Cell) (t0 t1 t2 : List Change) →
    LeadsBack w0 w1 c0 c1 t0 t1 → LeadsBack w1 w2 c1 c2 t1 t2 → LeadsBack w0 w2 c0 c2 t0 t2
leads_more w0 w1 w2 c0 c1 c2 t0 t1 t2 p q = record {
  more = p.more ++ q.more;
  appended = q.appended ∙ (ap (λ l. l ++ q.more) p.appended ∙ append_assoc t0 p.more q.more);
  words_back = words_before-append p.more q.more w2 ∙ (ap (words_before p.more) q.words_back ∙ p.words_back);
  cells_back = cells_before-append p.more q.more c2 ∙ (ap (cells_before p.more) q.cells_back ∙ p.cells_back);
}
