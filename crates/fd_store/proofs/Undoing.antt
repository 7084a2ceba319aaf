-- One change more is undone.
use Rattle.std.proofs.Common.{◌≡◌, ◌≤◌, ◌<◌, ◌+◌, ℕ, List, [], ◌∷◌, ◌++◌, length, get_or, take, drop, set, refl, sym, ap, subst, ◌∙◌, arith, take-append-drop}
use Rattle.std.specs.Prelude.{All}
use Rattle.std.proofs.lemmas.List.{drop_more, take-take, length_push, length-take-le, get_or-take, get_or_push, take_at, drop-append-le}
use Rattle.std.proofs.lemmas.List.Elements.{All-take}
use Rattle.qc_model.specs.Domains.{values_left}
use Rattle.fd_store.specs.declared.table.Cell.{Cell}
use Rattle.fd_store.specs.declared.table.Change.{Change}
use Rattle.fd_store.specs.Sound.{IsPlace, IsRight, IsSound, cells_left}
use Rattle.fd_store.specs.Places.{box_of}
use Rattle.fd_store.specs.Trail.{words_before, cells_before, box_before}
use Rattle.fd_store.proofs.Past.{words_before-append, cells_before-append, length-cells_before}

-- the front of a trail that is partly undone, and the change at its end
pub record Undone (es front : List Change) (e : Change) (words now : List ℕ) (cells then : List Cell) : Type 0 where
  pub words_back : set now e.word e.bits ≡ words_before (drop (length front) es) words
  pub cells_back : set then e.var e.cell ≡ cells_before (drop (length front) es) cells
  pub front_is : front ≡ take (length front) es

pub one_back : (es front : List Change) (e : Change) (words now : List ℕ) (cells then : List Cell) (n : ℕ) → front ++ e ∷ [] ≡ take n es → n ≡ length front + 1 → n ≤ length es →
    now ≡ words_before (drop n es) words → then ≡ cells_before (drop n es) cells → Undone es front e words now cells then
one_back es front e words now cells then n q len h w v =
    let k = length front in
    let here : get_or es k e ≡ e = sym (get_or-take n es k e (omega arith)) ∙ (ap (λ l. get_or l k e) (sym q) ∙ get_or_push front e e k refl) in
    let next : drop k es ≡ e ∷ drop n es = drop_more es k e (omega arith) ∙ (ap (λ d. d ∷ drop (k + 1) es) here ∙ ap (λ m. e ∷ drop m es) (sym len)) in
    record {
      words_back = ap (λ ws. set ws e.word e.bits) w ∙ ap (λ ds. words_before ds words) (sym next);
      cells_back = ap (λ cs. set cs e.var e.cell) v ∙ ap (λ ds. cells_before ds cells) (sym next);
      front_is = sym (take_at front (e ∷ []) k refl) ∙ (ap (take k) q ∙ take-take k n es (omega arith));
    }

-- a store that is partly undone is sound
pub sound_undone : (words : List ℕ) (cells : List Cell) (es : List Change) (at : ℕ) → at ≤ length es → IsSound words cells es →
    IsSound (words_before (drop at es) words) (cells_before (drop at es) cells) (take at es)
sound_undone words cells es at h i =
    let len : length (take at es) ≡ at = length-take-le at es h in
    record {
      places = subst (λ n. All (IsPlace n) (take at es)) (sym (length-cells_before (drop at es) cells)) (All-take (IsPlace (length cells)) at es i.places);
      past = λ k l.
          let whole : drop k (take at es) ++ drop at es ≡ drop k es = sym (drop-append-le k (take at es) (drop at es) l) ∙ ap (drop k) (take-append-drop at es) in
          let ws : words_before (drop k (take at es)) (words_before (drop at es) words) ≡ words_before (drop k es) words =
          sym (words_before-append (drop k (take at es)) (drop at es) words) ∙ ap (λ ds. words_before ds words) whole in
          let cs : cells_before (drop k (take at es)) (cells_before (drop at es) cells) ≡ cells_before (drop k es) cells =
          sym (cells_before-append (drop k (take at es)) (drop at es) cells) ∙ ap (λ ds. cells_before ds cells) whole in
          subst (λ u. IsRight u (cells_before (drop k (take at es)) (cells_before (drop at es) cells))) (sym ws)
          (subst (IsRight (words_before (drop k es) words)) (sym cs) (i.past k (omega arith)));
      few = λ k l.
          let whole : drop k (take at es) ++ drop at es ≡ drop k es = sym (drop-append-le k (take at es) (drop at es) l) ∙ ap (drop k) (take-append-drop at es) in
          let here : cells_before (drop k (take at es)) (cells_before (drop at es) cells) ≡ cells_before (drop k es) cells =
          sym (cells_before-append (drop k (take at es)) (drop at es) cells) ∙ ap (λ ds. cells_before ds cells) whole in
          let first : cells_before (take at es) (cells_before (drop at es) cells) ≡ cells_before es cells =
          sym (cells_before-append (take at es) (drop at es) cells) ∙ ap (λ ds. cells_before ds cells) (take-append-drop at es) in
          let small = i.few k (omega arith) in
          omega (arith, small, ap cells_left here, ap cells_left first);
      others = λ k e l f.
          let old = i.others k e (omega arith) (sym (get_or-take at es k e (omega arith)) ∙ f) in
          λ y n. ap (λ b. values_left b y) (box_back k (omega arith)) ∙ (old y n ∙ sym (ap (λ b. values_left b y) (box_back (k + 1) (omega arith))));
    }
  where
    box_back : (k : ℕ) → k ≤ length (take at es) → box_before (drop k (take at es)) (words_before (drop at es) words) (cells_before (drop at es) cells) ≡ box_before (drop k es) words cells
    box_back k l =
        let whole : drop k (take at es) ++ drop at es ≡ drop k es = sym (drop-append-le k (take at es) (drop at es) l) ∙ ap (drop k) (take-append-drop at es) in
        ap (λ ws. box_of ws (cells_before (drop k (take at es)) (cells_before (drop at es) cells))) (sym (words_before-append (drop k (take at es)) (drop at es) words) ∙ ap (λ ds. words_before ds words) whole)
        ∙ ap (box_of (words_before (drop k es) words)) (sym (cells_before-append (drop k (take at es)) (drop at es) cells) ∙ ap (λ ds. cells_before ds cells) whole)

-- the places of a trail without its last one
pub places_front : (front : List Change) (e : Change) (n : ℕ) → All (IsPlace n) (front ++ e ∷ []) → All (IsPlace n) front
places_front front e n i = subst (All (IsPlace n)) (take_at front (e ∷ []) (length front) refl) (All-take (IsPlace n) (length front) (front ++ e ∷ []) i)

pub place_last : (front : List Change) (e : Change) (n : ℕ) → All (IsPlace n) (front ++ e ∷ []) → e.var < n
place_last front e n i = subst (IsPlace n) (get_or_push front e e (length front) refl) (i (length front) e (omega (arith, length_push front e)))
