-- Steps of a removal: one change, none, and one after another.
use Rattle.std.proofs.Common.{◌≡◌, ℕ, ◌+◌, ◌-◌, ◌<◌, ◌≤◌, Bool, true, false, not, ◌&&◌, cond, List, [], ◌∷◌, ◌++◌, length, set, get_or, refl, sym, ap, subst, ◌∙◌, arith, ℤ, length-append}
use Rattle.std.specs.Prelude.{pos, ◌+ℤ◌, ◌≤ℤ◌}
use Rattle.std.proofs.lemmas.Bool.Decides.{nat_tests}
use Rattle.std.proofs.lemmas.Int.{ints}
use Rattle.std.proofs.lemmas.List.{length-set, length-map, get_or-set_same, get_or-set_other, set-set, set-get_or}
use Rattle.std.proofs.lemmas.List.Sums.{sum_by-set}
use Rattle.qc_model.specs.Domains.{Values, values_left, values_outside, box_without, is_within}
use Rattle.fd_store.specs.declared.table.Cell.{Cell}
use Rattle.fd_store.specs.declared.table.Change.{Change}
use Rattle.fd_store.specs.declared.table.Table.{Table}
use Rattle.fd_store.specs.Places.{is_kept, is_inside, cell_values, box_of}
use Rattle.fd_store.specs.Trail.{words_before, cells_before}
use Rattle.fd_store.specs.Sound.{IsCell, IsRight, IsSound, cells_left}
use Rattle.fd_store.specs.Held.{AgreeApart}
use Rattle.fd_store.specs.Takes.{Takes, IsSoundTable, box_in}
use Rattle.fd_store.proofs.Values.{length-values, outside_agree}
use Rattle.fd_store.proofs.Past.{leads_none, leads_one, leads_more}
use Rattle.fd_store.proofs.Cells.{values_at, AgreeBut, SamePlace, right_set, box_set, drop_end, sound_push}

-- the words and cells now
pub right_now : (words : List ℕ) (cells : List Cell) (trail : List Change) → IsSound words cells trail → IsRight words cells
right_now words cells trail i =
    subst (λ ds. IsRight (words_before ds words) (cells_before ds cells)) (drop_end trail (length trail) (omega arith)) (i.past (length trail) (omega arith))

-- how many values are left
pub size_is : (words : List ℕ) (cells : List Cell) (x : ℕ) (c : Cell) → x < length cells → get_or cells x c ≡ c → IsCell words c → length (values_left (box_of words cells) x) ≡ c.size
size_is words cells x c h e i = ap length (values_at words cells x c h e) ∙ (length-values (is_kept words c) c.base c.width ∙ sym i.size)

pub cell_of_sound : (t : Table) (x : ℕ) (c : Cell) (cells : List Cell) → IsSoundTable t → x < length cells → t.cells.items ≡ set cells x c → IsCell t.words.items c
cell_of_sound t x c cells i h e =
    (right_now t.words.items t.cells.items t.trail.items i).each x c (omega (arith, ap length e, length-set cells x c)) (ap (λ cs. get_or cs x c) e ∙ get_or-set_same cells x c c h)

-- one change
pub takes_step : (t u : Table) (x : ℕ) (c d : Cell) (e : Change) (lo hi : ℤ) →
    IsSoundTable t → x < length t.cells.items → get_or t.cells.items x c ≡ c → SamePlace c d → AgreeBut t.words.items u.words.items c → IsCell u.words.items d →
    u.cells.items ≡ set t.cells.items x d → u.trail.items ≡ t.trail.items ++ e ∷ [] → u.trail.spare + 1 ≡ t.trail.spare →
    e.var ≡ x → e.cell ≡ c → set u.words.items e.word e.bits ≡ t.words.items →
    ((k : ℕ) → k < c.width → is_kept u.words.items d k ≡ (is_kept t.words.items c k && not (is_within lo hi (c.base +ℤ pos k)))) →
    d.size + 1 ≤ c.size → Takes x lo hi t u
takes_step t u x c d e lo hi i h at s b cell ec et es ev ecell ew kept less =
    let r = right_now t.words.items t.cells.items t.trail.items i in
    let back : set u.cells.items e.var e.cell ≡ t.cells.items =
    ap (λ cs. set cs e.var e.cell) ec ∙ (ap (λ y. set (set t.cells.items x d) y e.cell) ev ∙ (ap (λ (o : Cell). set (set t.cells.items x d) x o) ecell
    ∙ (set-set t.cells.items x d c ∙ (ap (set t.cells.items x) (sym at) ∙ set-get_or t.cells.items x c)))) in
    let right : IsRight u.words.items u.cells.items = subst (IsRight u.words.items) (sym ec) (right_set t.words.items u.words.items t.cells.items x c d h at s b cell r) in
    let long : length u.cells.items ≡ length t.cells.items = ap length ec ∙ length-set t.cells.items x d in
    let there : get_or u.cells.items x d ≡ d = ap (λ cs. get_or cs x d) ec ∙ get_or-set_same t.cells.items x d d h in
    let fewer : cells_left u.cells.items + 1 ≤ cells_left t.cells.items = omega (arith, ap cells_left ec, sum_by-set (λ (o : Cell). o.size) t.cells.items x d c h, ap (λ (o : Cell). o.size) at, less) in
    let grown : length u.trail.items ≡ length t.trail.items + 1 = ap length et ∙ length-append t.trail.items (e ∷ []) in
    let content : box_in u ≡ box_without (box_in t) x lo hi = ap (box_of u.words.items) ec ∙ box_set t.words.items u.words.items t.cells.items x c d lo hi h at s b r kept in
    let alike : AgreeApart e.var (box_in t) (box_in u) = λ y n. sym (ap (λ v. values_left v y) content ∙ get_or-set_other (box_in t) x y _ [] (λ m. n (m ∙ sym ev))) in
    record {
      sound = subst (IsSound u.words.items u.cells.items) (sym et) (sound_push t.words.items u.words.items t.cells.items u.cells.items t.trail.items e i right long (omega arith) ew back fewer alike);
      content = content;
      back = leads_one t.words.items u.words.items t.cells.items u.cells.items t.trail.items u.trail.items e et ew back;
      spare = omega arith;
      few = omega (arith, grown, size_is u.words.items u.cells.items x d (omega arith) there cell, size_is t.words.items t.cells.items x c h at (r.each x c h at), less);
    }

-- none
pub takes_none : (t : Table) (x : ℕ) (c : Cell) (lo hi : ℤ) → IsSoundTable t → x < length t.cells.items → get_or t.cells.items x c ≡ c →
    ((k : ℕ) → k < c.width → is_kept t.words.items c k ≡ (is_kept t.words.items c k && not (is_within lo hi (c.base +ℤ pos k)))) → Takes x lo hi t t
takes_none t x c lo hi i h at kept =
    let r = right_now t.words.items t.cells.items t.trail.items i in
    let same : SamePlace c c = record { base = refl; start = refl; width = refl } in
    let agree : AgreeBut t.words.items t.words.items c = record { long = refl; same = λ p o. refl } in
    let put : set t.cells.items x c ≡ t.cells.items = ap (set t.cells.items x) (sym at) ∙ set-get_or t.cells.items x c in
    record {
      sound = i;
      content = sym (ap (box_of t.words.items) put) ∙ box_set t.words.items t.words.items t.cells.items x c c lo hi h at same agree r kept;
      back = leads_none t.words.items t.cells.items t.trail.items;
      spare = refl;
      few = omega arith;
    }

-- the same values by other ends
pub takes_by : (t u : Table) (x : ℕ) (c : Cell) (lo hi low high : ℤ) → x < length t.cells.items → get_or t.cells.items x c ≡ c →
    ((k : ℕ) → k < c.width → is_kept t.words.items c k ≡ true → is_within lo hi (c.base +ℤ pos k) ≡ is_within low high (c.base +ℤ pos k)) → Takes x lo hi t u → Takes x low high t u
takes_by t u x c lo hi low high h at f i =
    let vs = values_at t.words.items t.cells.items x c h at in
    record {
      sound = i.sound;
      content = i.content ∙ ap (set (box_in t) x) (ap (values_outside lo hi) vs ∙ (outside_agree (is_kept t.words.items c) lo hi low high c.base c.width f ∙ ap (values_outside low high) (sym vs)));
      back = i.back;
      spare = i.spare;
      few = i.few;
    }

outside_twice : (lo m n hi : ℤ) (vs : Values) → ((v : ℤ) → (not (is_within lo m v) && not (is_within n hi v)) ≡ not (is_within lo hi v)) →
    values_outside n hi (values_outside lo m vs) ≡ values_outside lo hi vs
outside_twice lo m n hi [] f = refl
outside_twice lo m n hi (v ∷ vs) f = step (is_within lo m v) refl (outside_twice lo m n hi vs f)
  where
    step : (b : Bool) → is_within lo m v ≡ b → values_outside n hi (values_outside lo m vs) ≡ values_outside lo hi vs →
        values_outside n hi (cond (not b) (v ∷ values_outside lo m vs) (values_outside lo m vs)) ≡ cond (not (is_within lo hi v)) (v ∷ values_outside lo hi vs) (values_outside lo hi vs)
    step true e ih =
        let gone : false ≡ not (is_within lo hi v) = ap (λ b. not b && not (is_within n hi v)) (sym e) ∙ f v in
        ih ∙ ap (λ b. cond b (v ∷ values_outside lo hi vs) (values_outside lo hi vs)) gone
    step false e ih =
        let kept : not (is_within n hi v) ≡ not (is_within lo hi v) = ap (λ b. not b && not (is_within n hi v)) (sym e) ∙ f v in
        ap (λ us. cond (not (is_within n hi v)) (v ∷ us) us) ih ∙ ap (λ b. cond b (v ∷ values_outside lo hi vs) (values_outside lo hi vs)) kept

joins : (lo m n hi : ℤ) → lo ≤ℤ n → m ≤ℤ hi → n ≡ m +ℤ pos 1 → (v : ℤ) → (not (is_within lo m v) && not (is_within n hi v)) ≡ not (is_within lo hi v)
joins lo m n hi h k e v = grind (arith, ints)

-- one after another
pub takes_more : (t u w : Table) (x : ℕ) (lo m n hi : ℤ) → x < length t.cells.items → lo ≤ℤ n → m ≤ℤ hi → n ≡ m +ℤ pos 1 → Takes x lo m t u → Takes x n hi u w → Takes x lo hi t w
takes_more t u w x lo m n hi l h k e p q =
    let box = box_in t in
    let vs = values_left box x in
    let long : length box ≡ length t.cells.items = length-map t.cells.items (cell_values t.words.items) in
    let left : values_left (box_in u) x ≡ values_outside lo m vs = ap (λ b. values_left b x) p.content ∙ get_or-set_same box x (values_outside lo m vs) [] (omega arith) in
    record {
      sound = q.sound;
      content = q.content ∙ (ap (λ us. set (box_in u) x (values_outside n hi us)) left
          ∙ (ap (λ b. set b x (values_outside n hi (values_outside lo m vs))) p.content
          ∙ (set-set box x (values_outside lo m vs) (values_outside n hi (values_outside lo m vs))
          ∙ ap (set box x) (outside_twice lo m n hi vs (joins lo m n hi h k e)))));
      back = leads_more t.words.items u.words.items w.words.items t.cells.items u.cells.items w.cells.items t.trail.items u.trail.items w.trail.items p.back q.back;
      spare = q.spare ∙ p.spare;
      few = omega (arith, p.few, q.few);
    }

-- places as values
pub within_places : (b : ℤ) (a e k : ℕ) → a < e → is_within (b +ℤ pos a) (b +ℤ pos (e - 1)) (b +ℤ pos k) ≡ is_inside a e k
within_places b a e k h = grind (arith, ints, nat_tests)

-- the start of a run over words, and one word more
pub takes_start : (t : Table) (x : ℕ) (c : Cell) (a : ℕ) → IsSoundTable t → x < length t.cells.items → get_or t.cells.items x c ≡ c → 0 < a → Takes x (c.base +ℤ pos a) (c.base +ℤ pos (a - 1)) t t
takes_start t x c a i h at l = takes_none t x c (c.base +ℤ pos a) (c.base +ℤ pos (a - 1)) i h at (λ k q. stays (is_kept t.words.items c k) (nothing c.base k))
  where
    nothing : (b : ℤ) (k : ℕ) → is_within (b +ℤ pos a) (b +ℤ pos (a - 1)) (b +ℤ pos k) ≡ false
    nothing b k = grind (arith, ints)

    stays : {b : Bool} (s : Bool) → b ≡ false → s ≡ (s && not b)
    stays true e = ap not (sym e)
    stays false e = refl

pub takes_next : (t u w : Table) (x : ℕ) (base other : ℤ) (a m e : ℕ) → x < length t.cells.items → 0 < a → a ≤ m → m ≤ e → other ≡ base →
    Takes x (base +ℤ pos a) (base +ℤ pos (m - 1)) t u → Takes x (other +ℤ pos m) (other +ℤ pos (e - 1)) u w → Takes x (base +ℤ pos a) (base +ℤ pos (e - 1)) t w
takes_next t u w x base other a m e h z l n q i j =
    let k : Takes x (base +ℤ pos m) (base +ℤ pos (e - 1)) u w = subst (λ b. Takes x (b +ℤ pos m) (b +ℤ pos (e - 1)) u w) q j in
    takes_more t u w x (base +ℤ pos a) (base +ℤ pos (m - 1)) (base +ℤ pos m) (base +ℤ pos (e - 1)) h (omega (arith, ints)) (omega (arith, ints)) (omega (arith, ints)) i k
