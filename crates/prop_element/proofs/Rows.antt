-- Rows that fit what is left, and what each variable may keep.
use Rattle.std.proofs.Common.{◌≡◌, ℕ, zero, suc, ◌<◌, ◌≤◌, ◌⊎◌, inl, inr, Bool, true, false, not, ◌&&◌, List, [], ◌∷◌, length, map, set, take, drop, get_or, refl, sym, ap, ◌∙◌, subst, arith, ℤ}
use Rattle.std.specs.Prelude.{pos, ◌≤ℤ◌, int_le}
use Rattle.std.specs.List.{list_any}
use Rattle.std.proofs.lemmas.Int.{ints}
use Rattle.std.proofs.lemmas.Bool.{or_left, or_right, or_from, or_parts, false_from_ne_true, and_from}
use Rattle.qc_model.specs.declared.problem.Arg.{Arg}
use Rattle.qc_model.specs.declared.problem.Arg.TheVariants.{Var}
use Rattle.qc_model.specs.declared.problem.VarId.{VarId}
use Rattle.qc_model.specs.Closed.{refutes_at}
use Rattle.qc_model.specs.Content.{Rule}
use Rattle.qc_model.specs.Domains.{Values, Box, values_left, values_within, box_within, is_within, has_value, least_value, greatest_value}
use Rattle.qc_model.specs.Holds.{rows}
use Rattle.qc_model.specs.Left.{row_fits}
use Rattle.qc_model.specs.Lists.{Among}
use Rattle.qc_model.specs.Refuted.{left_to, refuted_by}
use Rattle.qc_model.proofs.Readable.{first, second}
use Rattle.qc_model.proofs.Rows.{rows_step}
use Rattle.model_arguments.proofs.Values.{has_first}
use Rattle.model_arguments.proofs.Bools.{clash, not_false}
use Rattle.qc_refuter.proofs.Domains.{small_left}
use Rattle.qc_refuter.specs.Met.{is_open}
use Rattle.model_arguments.specs.Repeats.{same_variable, has_repeat}
use Rattle.model_arguments.proofs.Kept.{through, low_end, high_end, apart, inside, at_least, at_most, passes, was_left, same_end}
use Rattle.model_arguments.proofs.Items.{flipped, others_left, none_at}
use Rattle.prop_compare.proofs.Sides.{open_place, with_other}
use Rattle.prop_element.specs.Hulls.{IsHull}
use Rattle.prop_element.specs.Extremes.{item_at}
use Rattle.prop_element.specs.Tables.{IsTable, IsFitting, has_entry, fits_beyond, NoneIs, NoRow, IsWalk, IsNext, IsLowestRow, IsHighestRow}
use Rattle.prop_element.proofs.Moved.{IsHere, IsElsewhere, moved, set_here}

-- an entry of a row that fits
pub entry_left : (box : Box) (items : List Arg) (row : List ℤ) (k : ℕ) → k < length items → row_fits (map (left_to box) items) row ≡ true → has_value (left_to box (item_at items k)) (get_or row k (pos 0)) ≡ true
entry_left box [] row k h f = absurd (omega arith)
entry_left box (a ∷ items) [] k h f = cc
entry_left box (a ∷ items) (n ∷ row) zero h f = first (has_value (left_to box a) n) (row_fits (map (left_to box) items) row) f
entry_left box (a ∷ items) (n ∷ row) (suc k) h f = entry_left box items row k (omega arith) (second (has_value (left_to box a) n) (row_fits (map (left_to box) items) row) f)

-- a row that fits where a variable lost values fitted before
was_fitting : (box : Box) (x : VarId) (us : Values) (items : List Arg) (row : List ℤ) → x.0 < length box → ((v : ℤ) → has_value us v ≡ true → has_value (values_left box x.0) v ≡ true) → row_fits (map (left_to (set box x.0 us)) items) row ≡ true →
    row_fits (map (left_to box) items) row ≡ true
was_fitting box x us [] [] l g f = refl
was_fitting box x us [] (n ∷ row) l g f = cc
was_fitting box x us (a ∷ items) [] l g f = cc
was_fitting box x us (a ∷ items) (n ∷ row) l g f =
    and_from (has_value (left_to box a) n) (row_fits (map (left_to box) items) row)
    (by (moved box x us a l) (first (has_value (left_to (set box x.0 us) a) n) (row_fits (map (left_to (set box x.0 us)) items) row) f))
    (was_fitting box x us items row l g (second (has_value (left_to (set box x.0 us) a) n) (row_fits (map (left_to (set box x.0 us)) items) row) f))
  where
    by : IsHere box x us a ⊎ IsElsewhere box x us a → has_value (left_to (set box x.0 us) a) n ≡ true → has_value (left_to box a) n ≡ true
    by (inl i) h = ap (λ vs. has_value vs n) i.was ∙ g n (sym (ap (λ vs. has_value vs n) i.now) ∙ h)
    by (inr i) h = sym (ap (λ vs. has_value vs n) i.stays) ∙ h

-- a row that fits does so where the one variable keeps its entry
still_fitting : (box : Box) (x : VarId) (us : Values) (items : List Arg) (row : List ℤ) (k : ℕ) → x.0 < length box → has_repeat items ≡ false → k < length items → item_at items k ≡ Var x → row_fits (map (left_to box) items) row ≡ true → has_value us (get_or row k (pos 0)) ≡ true →
    row_fits (map (left_to (set box x.0 us)) items) row ≡ true
still_fitting box x us [] row k l o h e f t = absurd (omega arith)
still_fitting box x us (a ∷ items) [] k l o h e f t = cc
still_fitting box x us (a ∷ items) (n ∷ row) zero l o h e f t =
    let p = or_parts (list_any (same_variable a) items) (has_repeat items) o in
    and_from (has_value (left_to (set box x.0 us) a) n) (row_fits (map (left_to (set box x.0 us)) items) row)
    (ap (λ vs. has_value vs n) (ap (left_to (set box x.0 us)) e ∙ set_here box x us l) ∙ t)
    (ap (λ ds. row_fits ds row) (others_left box x us items (sym (ap (λ z. list_any (same_variable z) items) e) ∙ p.0)) ∙ second (has_value (left_to box a) n) (row_fits (map (left_to box) items) row) f)
still_fitting box x us (a ∷ items) (n ∷ row) (suc k) l o h e f t =
    let p = or_parts (list_any (same_variable a) items) (has_repeat items) o in
    let q = flipped a (Var x) (ap (same_variable a) (sym e) ∙ none_at (same_variable a) items k (Var (record { 0 = 0 })) p.0 (omega arith)) in
    and_from (has_value (left_to (set box x.0 us) a) n) (row_fits (map (left_to (set box x.0 us)) items) row)
    (ap (λ vs. has_value vs n) (with_other box (Var x) a us q) ∙ first (has_value (left_to box a) n) (row_fits (map (left_to box) items) row) f)
    (still_fitting box x us items row k l p.1 (omega arith) e (second (has_value (left_to box a) n) (row_fits (map (left_to box) items) row) f) t)

some_row : (p : List ℤ → Bool) (rs : List (List ℤ)) (row : List ℤ) → Among row rs → p row ≡ true → list_any p rs ≡ true
some_row p [] row a t = absurd a
some_row p (r ∷ rs) row (inl e) t = or_left (p r) (list_any p rs) (subst (λ z. p z ≡ true) e t)
some_row p (r ∷ rs) row (inr a) t = or_right (p r) (list_any p rs) (some_row p rs row a t)

no_row : (p : List ℤ → Bool) (rs : List (List ℤ)) → ((row : List ℤ) → Among row rs → p row ≡ false) → list_any p rs ≡ false
no_row p [] f = refl
no_row p (r ∷ rs) f = or_from (p r) (list_any p rs) (f r (inl refl)) (no_row p rs (λ row a. f row (inr a)))

pub none_refuted : (c : Rule) (box : Box) (items : List Arg) (rs : List (List ℤ)) → IsTable c items rs → NoRow (map (left_to box) items) rs → refuted_by c box ≡ true
none_refuted c box items rs t f = t.refuted box ∙ ap not (no_row (row_fits (map (left_to box) items)) rs f)

stays : (c : Rule) (box : Box) (items : List Arg) (rs : List (List ℤ)) (x : VarId) (row : List ℤ) (k : ℕ) (v : ℤ) → x.0 < length box → IsTable c items rs → k < length items → item_at items k ≡ Var x → IsFitting (map (left_to box) items) rs row → v ≡ get_or row k (pos 0) → refutes_at c box x.0 v ≡ false
stays c box items rs x row k v l t h e p q =
    t.refuted (set box x.0 (v ∷ []))
    ∙ ap not (some_row (row_fits (map (left_to (set box x.0 (v ∷ []))) items)) rs row p.among
    (still_fitting box x (v ∷ []) items row k l t.once h e p.fits (subst (λ z. has_value (z ∷ []) (get_or row k (pos 0)) ≡ true) (sym q) (has_first (get_or row k (pos 0)) []))))

none_left : {X : Type 0} (row : List ℤ) → X ⊎ Among row [] → X
none_left row (inl x) = x
none_left row (inr a) = absurd a

-- the entry of a row that fits within a range, and that it fitted
within_row : (box : Box) (x : VarId) (items : List Arg) (rs : List (List ℤ)) (row : List ℤ) (k : ℕ) (l h : ℤ) → x.0 < length box → k < length items → item_at items k ≡ Var x → Among row rs → row_fits (map (left_to (box_within box x.0 l h)) items) row ≡ true →
    IsFitting (map (left_to box) items) rs row × (is_within l h (get_or row k (pos 0)) ≡ true)
within_row box x items rs row k l h lx kl e a f =
    let d = values_left box x.0 in
    let p = ap (λ vs. has_value vs (get_or row k (pos 0))) (sym (ap (left_to (box_within box x.0 l h)) e ∙ set_here box x (values_within l h d) lx)) ∙ entry_left (box_within box x.0 l h) items row k kl f in
    (record { among = a; fits = was_fitting box x (values_within l h d) items row lx (λ v g. was_left (is_within l h) d v g) f }, passes (is_within l h) d (get_or row k (pos 0)) p)

pub column_hull : (c : Rule) (box : Box) (items : List Arg) (rs : List (List ℤ)) (x : VarId) (k : ℕ) (low high : List ℤ) → is_open box (Var x) ≡ true → IsTable c items rs → k < length items → item_at items k ≡ Var x →
    IsLowestRow (map (left_to box) items) rs k low [] → IsHighestRow (map (left_to box) items) rs k high [] → IsHull c box x.0 (get_or low k (pos 0)) (get_or high k (pos 0))
column_hull c box items rs x k low high o t kl e p q =
    let d = values_left box x.0 in
    let lx = open_place box x o in
    let from = get_or low k (pos 0) in
    let to = get_or high k (pos 0) in
    let s = ap (λ a. has_value (left_to box a) from) (sym e) ∙ entry_left box items low k kl p.fitting.fits in
    let u = ap (λ a. has_value (left_to box a) to) (sym e) ∙ entry_left box items high k kl q.fitting.fits in
    record {
      small_low = small_left d from o s;
      small_high = small_left d to o u;
      below = λ l h n g. none_refuted c (box_within box x.0 l h) items rs t (λ row a. false_from_ne_true (row_fits (map (left_to (box_within box x.0 l h)) items) row) (λ f.
          let w = within_row box x items rs row k l h lx kl e a f in
          apart h from g (through from (get_or row k (pos 0)) h (none_left row (p.all row w.0)) (at_most l h (get_or row k (pos 0)) w.1))));
      above = λ l h n g. none_refuted c (box_within box x.0 l h) items rs t (λ row a. false_from_ne_true (row_fits (map (left_to (box_within box x.0 l h)) items) row) (λ f.
          let w = within_row box x items rs row k l h lx kl e a f in
          apart to l g (through l (get_or row k (pos 0)) to (at_least l h (get_or row k (pos 0)) w.1) (none_left row (q.all row w.0)))));
      first = λ f g. stays c box items rs x low k (least_value d) lx t kl e p.fitting (same_end (least_value d) from (low_end d from s) f);
      last = λ f g. stays c box items rs x high k (greatest_value d) lx t kl e q.fitting (same_end (greatest_value d) to g (high_end d to u));
    }

-- one row after another
pub walk_start : (p : List ℤ → Bool) (rs : List (List ℤ)) → IsWalk p rs rs
walk_start p rs = record { sub = λ r a. a; all = λ r a t. a }

past : (p : List ℤ → Bool) (row : List ℤ) (later : List (List ℤ)) (r : List ℤ) → p row ≡ false → p r ≡ true → Among r (row ∷ later) → Among r later
past p row later r f t (inl i) = absurd (clash (p r) t (subst (λ z. p z ≡ false) (sym i) f))
past p row later r f t (inr a) = a

pub walk_more : (p : List ℤ → Bool) (rs rest later : List (List ℤ)) (row : List ℤ) → rest ≡ row ∷ later → p row ≡ false → IsWalk p rs rest → IsWalk p rs later
walk_more p rs rest later row e f w = record {
  sub = λ r a. w.sub r (subst (λ z. Among r z) (sym e) (inr a));
  all = λ r a t. past p row later r f t (subst (λ z. Among r z) e (w.all r a t));
}

pub walk_found : (p : List ℤ → Bool) (rs rest later : List (List ℤ)) (row : List ℤ) → rest ≡ row ∷ later → p row ≡ true → IsWalk p rs rest → IsNext p rs row later
walk_found p rs rest later row e t w = record { passes = t; walk = subst (λ z. IsWalk p rs z) e w }

pub walk_end : (p : List ℤ → Bool) (rs rest : List (List ℤ)) → rest ≡ [] → IsWalk p rs rest → NoneIs p rs
walk_end p rs rest e w r a = false_from_ne_true (p r) (λ t. none r (subst (λ z. Among r z) e (w.all r a t)))
  where
    none : (r : List ℤ) → Among r [] → ⊥
    none r b = b

-- from one row that passes a wider test to the next
pub walk_past : (p q : List ℤ → Bool) (rs rest later : List (List ℤ)) (row : List ℤ) → ((r : List ℤ) → p r ≡ true → q r ≡ true) → IsNext q rest row later → p row ≡ false → IsWalk p rs rest → IsWalk p rs later
walk_past p q rs rest later row g n f w = record {
  sub = λ r a. w.sub r (n.walk.sub r (inr a));
  all = λ r a t. past p row later r f t (n.walk.all r (w.all r a t) (g r t));
}

pub walk_to : (p q : List ℤ → Bool) (rs rest later : List (List ℤ)) (row : List ℤ) → ((r : List ℤ) → p r ≡ true → q r ≡ true) → IsNext q rest row later → p row ≡ true → IsWalk p rs rest → IsNext p rs row later
walk_to p q rs rest later row g n t w = record {
  passes = t;
  walk = record { sub = λ r a. w.sub r (n.walk.sub r a); all = λ r a u. n.walk.all r (w.all r a u) (g r u) };
}

pub walk_out : (p q : List ℤ → Bool) (rs rest : List (List ℤ)) → ((r : List ℤ) → p r ≡ true → q r ≡ true) → NoneIs q rest → IsWalk p rs rest → NoneIs p rs
walk_out p q rs rest g n w r a = false_from_ne_true (p r) (λ t. clash (q r) (g r t) (n r (w.all r a t)))

-- a row that fits has an entry that is left at each place
pub has_key : (box : Box) (items : List Arg) (key k : ℕ) (low high from to : ℤ) → key < length items → from ≡ least_value (left_to box (item_at items key)) → to ≡ greatest_value (left_to box (item_at items key)) → (r : List ℤ) →
    fits_beyond (map (left_to box) items) k low high r ≡ true → has_entry key from to r ≡ true
has_key box items key k low high from to h e i r t =
    let d = left_to box (item_at items key) in
    let n = get_or r key (pos 0) in
    let f = entry_left box items r key h (second (not (has_entry k low high r)) (row_fits (map (left_to box) items) r) t) in
    inside from to n (subst (λ z. z ≤ℤ n) (sym e) (low_end d n f)) (subst (λ z. n ≤ℤ z) (sym i) (high_end d n f))

-- and none beyond what is left
pub none_beyond : (box : Box) (items : List Arg) (k : ℕ) (low high : ℤ) (rs : List (List ℤ)) → k < length items → ((v : ℤ) → has_value (left_to box (item_at items k)) v ≡ true → is_within low high v ≡ true) → NoneIs (fits_beyond (map (left_to box) items) k low high) rs
none_beyond box items k low high rs h s r a = false_from_ne_true (fits_beyond (map (left_to box) items) k low high r) (λ t.
    clash (has_entry k low high r)
    (s (get_or r k (pos 0)) (entry_left box items r k h (second (not (has_entry k low high r)) (row_fits (map (left_to box) items) r) t)))
    (not_false (has_entry k low high r) (first (not (has_entry k low high r)) (row_fits (map (left_to box) items) r) t)))

-- no number is from 1 to 0
beyond_none : (ds : List Values) (k : ℕ) (r : List ℤ) → fits_beyond ds k (pos 1) (pos 0) r ≡ row_fits ds r
beyond_none ds k r = ap (λ b. not b && row_fits ds r) (false_from_ne_true (has_entry k (pos 1) (pos 0) r) (λ h.
    let n = get_or r k (pos 0) in
    never_less (through (pos 1) n (pos 0) (at_least (pos 1) (pos 0) n h) (at_most (pos 1) (pos 0) n h))))
  where
    never_less : pos 1 ≤ℤ pos 0 → ⊥
    never_less h = omega (arith, ints, h)

pub no_row_fits : (ds : List Values) (k : ℕ) (rs : List (List ℤ)) → NoneIs (fits_beyond ds k (pos 1) (pos 0)) rs → NoRow ds rs
no_row_fits ds k rs n r a = sym (beyond_none ds k r) ∙ n r a

pub next_fits : (ds : List Values) (k : ℕ) (rs : List (List ℤ)) (row : List ℤ) (later : List (List ℤ)) → IsNext (fits_beyond ds k (pos 1) (pos 0)) rs row later → IsNext (row_fits ds) rs row later
next_fits ds k rs row later n = record {
  passes = sym (beyond_none ds k row) ∙ n.passes;
  walk = record { sub = n.walk.sub; all = λ r a t. n.walk.all r a (beyond_none ds k r ∙ t) };
}

-- the least entry and the greatest of the rows that were seen
same_least : (a b : ℤ) → b ≡ a → a ≤ℤ b
same_least a b e = omega (arith, ints, e)

pub lowest_first : (ds : List Values) (k : ℕ) (row : List ℤ) (rest : List (List ℤ)) → row_fits ds row ≡ true → IsLowestRow ds (row ∷ rest) k row rest
lowest_first ds k row rest f = record { fitting = record { among = inl refl; fits = f }; all = λ r q. by r q.among }
  where
    by : (r : List ℤ) → Among r (row ∷ rest) → (get_or row k (pos 0) ≤ℤ get_or r k (pos 0)) ⊎ Among r rest
    by r (inl i) = inl (same_least (get_or row k (pos 0)) (get_or r k (pos 0)) (ap (λ z. get_or z k (pos 0)) i))
    by r (inr a) = inr a

pub highest_first : (ds : List Values) (k : ℕ) (row : List ℤ) (rest : List (List ℤ)) → row_fits ds row ≡ true → IsHighestRow ds (row ∷ rest) k row rest
highest_first ds k row rest f = record { fitting = record { among = inl refl; fits = f }; all = λ r q. by r q.among }
  where
    by : (r : List ℤ) → Among r (row ∷ rest) → (get_or r k (pos 0) ≤ℤ get_or row k (pos 0)) ⊎ Among r rest
    by r (inl i) = inl (same_least (get_or r k (pos 0)) (get_or row k (pos 0)) (ap (λ z. get_or z k (pos 0)) (sym i)))
    by r (inr a) = inr a

either : (b f : Bool) → f ≡ true → (b ≡ true) ⊎ ((not b && f) ≡ true)
either true f h = inl refl
either false f h = inr h

-- a row that fits is within what was seen, or is still to come
lowest_seen : (ds : List Values) (k : ℕ) (best : List ℤ) (end : ℤ) (r : List ℤ) (X : Type 0) → row_fits ds r ≡ true → (fits_beyond ds k (get_or best k (pos 0)) end r ≡ true → X) → (get_or best k (pos 0) ≤ℤ get_or r k (pos 0)) ⊎ X
lowest_seen ds k best end r X f g = by (either (has_entry k (get_or best k (pos 0)) end r) (row_fits ds r) f)
  where
    by : (has_entry k (get_or best k (pos 0)) end r ≡ true) ⊎ (fits_beyond ds k (get_or best k (pos 0)) end r ≡ true) → (get_or best k (pos 0) ≤ℤ get_or r k (pos 0)) ⊎ X
    by (inl h) = inl (at_least (get_or best k (pos 0)) end (get_or r k (pos 0)) h)
    by (inr t) = inr (g t)

pub lowest_next : (ds : List Values) (k : ℕ) (best : List ℤ) (end : ℤ) (rs rest later : List (List ℤ)) (row : List ℤ) → IsNext (fits_beyond ds k (get_or best k (pos 0)) end) rest row later → IsLowestRow ds rs k best rest → IsLowestRow ds rs k best (row ∷ later)
lowest_next ds k best end rs rest later row n p = record { fitting = p.fitting; all = λ r q. by r q (p.all r q) }
  where
    by : (r : List ℤ) → IsFitting ds rs r → (get_or best k (pos 0) ≤ℤ get_or r k (pos 0)) ⊎ Among r rest → (get_or best k (pos 0) ≤ℤ get_or r k (pos 0)) ⊎ Among r (row ∷ later)
    by r q (inl h) = inl h
    by r q (inr a) = lowest_seen ds k best end r (Among r (row ∷ later)) q.fits (λ t. n.walk.all r a t)

pub lowest_done : (ds : List Values) (k : ℕ) (best : List ℤ) (end : ℤ) (rs rest : List (List ℤ)) → NoneIs (fits_beyond ds k (get_or best k (pos 0)) end) rest → IsLowestRow ds rs k best rest → IsLowestRow ds rs k best []
lowest_done ds k best end rs rest n p = record { fitting = p.fitting; all = λ r q. by r q (p.all r q) }
  where
    by : (r : List ℤ) → IsFitting ds rs r → (get_or best k (pos 0) ≤ℤ get_or r k (pos 0)) ⊎ Among r rest → (get_or best k (pos 0) ≤ℤ get_or r k (pos 0)) ⊎ Among r []
    by r q (inl h) = inl h
    by r q (inr a) = lowest_seen ds k best end r (Among r []) q.fits (λ t. absurd (clash (fits_beyond ds k (get_or best k (pos 0)) end r) t (n r a)))

pub lowest_of_all : (ds : List Values) (k : ℕ) (best row : List ℤ) (rs later : List (List ℤ)) → IsNext (row_fits ds) rs row later → IsLowestRow ds (row ∷ later) k best [] → IsLowestRow ds rs k best []
lowest_of_all ds k best row rs later n p = record {
  fitting = record { among = n.walk.sub best p.fitting.among; fits = p.fitting.fits };
  all = λ r q. p.all r (record { among = n.walk.all r q.among q.fits; fits = q.fits });
}

highest_seen : (ds : List Values) (k : ℕ) (best : List ℤ) (end : ℤ) (r : List ℤ) (X : Type 0) → row_fits ds r ≡ true → (fits_beyond ds k end (get_or best k (pos 0)) r ≡ true → X) → (get_or r k (pos 0) ≤ℤ get_or best k (pos 0)) ⊎ X
highest_seen ds k best end r X f g = by (either (has_entry k end (get_or best k (pos 0)) r) (row_fits ds r) f)
  where
    by : (has_entry k end (get_or best k (pos 0)) r ≡ true) ⊎ (fits_beyond ds k end (get_or best k (pos 0)) r ≡ true) → (get_or r k (pos 0) ≤ℤ get_or best k (pos 0)) ⊎ X
    by (inl h) = inl (at_most end (get_or best k (pos 0)) (get_or r k (pos 0)) h)
    by (inr t) = inr (g t)

pub highest_next : (ds : List Values) (k : ℕ) (best : List ℤ) (end : ℤ) (rs rest later : List (List ℤ)) (row : List ℤ) → IsNext (fits_beyond ds k end (get_or best k (pos 0))) rest row later → IsHighestRow ds rs k best rest → IsHighestRow ds rs k best (row ∷ later)
highest_next ds k best end rs rest later row n p = record { fitting = p.fitting; all = λ r q. by r q (p.all r q) }
  where
    by : (r : List ℤ) → IsFitting ds rs r → (get_or r k (pos 0) ≤ℤ get_or best k (pos 0)) ⊎ Among r rest → (get_or r k (pos 0) ≤ℤ get_or best k (pos 0)) ⊎ Among r (row ∷ later)
    by r q (inl h) = inl h
    by r q (inr a) = highest_seen ds k best end r (Among r (row ∷ later)) q.fits (λ t. n.walk.all r a t)

pub highest_done : (ds : List Values) (k : ℕ) (best : List ℤ) (end : ℤ) (rs rest : List (List ℤ)) → NoneIs (fits_beyond ds k end (get_or best k (pos 0))) rest → IsHighestRow ds rs k best rest → IsHighestRow ds rs k best []
highest_done ds k best end rs rest n p = record { fitting = p.fitting; all = λ r q. by r q (p.all r q) }
  where
    by : (r : List ℤ) → IsFitting ds rs r → (get_or r k (pos 0) ≤ℤ get_or best k (pos 0)) ⊎ Among r rest → (get_or r k (pos 0) ≤ℤ get_or best k (pos 0)) ⊎ Among r []
    by r q (inl h) = inl h
    by r q (inr a) = highest_seen ds k best end r (Among r []) q.fits (λ t. absurd (clash (fits_beyond ds k end (get_or best k (pos 0)) r) t (n r a)))

pub highest_of_all : (ds : List Values) (k : ℕ) (best row : List ℤ) (rs later : List (List ℤ)) → IsNext (row_fits ds) rs row later → IsHighestRow ds (row ∷ later) k best [] → IsHighestRow ds rs k best []
highest_of_all ds k best row rs later n p = record {
  fitting = record { among = n.walk.sub best p.fitting.among; fits = p.fitting.fits };
  all = λ r q. p.all r (record { among = n.walk.all r q.among q.fits; fits = q.fits });
}

pub next_fitting : (ds : List Values) (k : ℕ) (low high : ℤ) (rs rest later : List (List ℤ)) (row : List ℤ) → IsNext (fits_beyond ds k low high) rest row later → ((r : List ℤ) → Among r rest → Among r rs) → IsFitting ds rs row
next_fitting ds k low high rs rest later row n f = record {
  among = f row (n.walk.sub row (inl refl));
  fits = second (not (has_entry k low high row)) (row_fits ds row) n.passes;
}

-- the numbers from the least value to the greatest are all that are left
pub spanned : (d : Values) (low high least greatest v : ℤ) → least ≡ least_value d → greatest ≡ greatest_value d → int_le low least ≡ true → int_le greatest high ≡ true → has_value d v ≡ true → is_within low high v ≡ true
spanned d low high least greatest v e i h k f =
    inside low high v
    (through low least v (ordered_by low least h) (subst (λ z. z ≤ℤ v) (sym e) (low_end d v f)))
    (through v greatest high (subst (λ z. v ≤ℤ z) (sym i) (high_end d v f)) (ordered_by greatest high k))
  where
    ordered_by : (a b : ℤ) → int_le a b ≡ true → a ≤ℤ b
    ordered_by a b h = grind (arith, ints)

pub rows_cut : (width : ℕ) (rest row later : List ℤ) → 0 < width → width ≤ length rest → row ≡ take width rest → later ≡ drop width rest → rows width rest ≡ row ∷ rows width later
rows_cut width rest row later h t e f = rows_step width rest h t ∙ (ap (λ z. z ∷ rows width (drop width rest)) (sym e) ∙ ap (λ z. row ∷ rows width z) (sym f))
