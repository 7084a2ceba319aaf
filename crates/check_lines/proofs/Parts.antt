-- What the machine tells after a line in a scope's own tree.
use Rattle.std.proofs.Common.{◌≡◌, ℕ, suc, ◌<◌, ◌+◌, ◌-◌, Bool, true, false, not, ◌&&◌, cond, List, [], ◌∷◌, ◌++◌, length, drop, set, append-nil, refl, sym, ap, ◌∙◌, subst, arith, ℤ, Option, Some, None}
use Rattle.std.specs.Prelude.{nat_lt, nat_le, IsSome, filter, negsuc}
use Rattle.std.specs.List.{list_all}
use Rattle.std.proofs.lemmas.Bool.Decides.{nat_tests}
use Rattle.qc_model.specs.declared.problem.VarId.{VarId}
use Rattle.qc_model.specs.declared.problem.ConId.{ConId}
use Rattle.qc_model.specs.Content.{Game}
use Rattle.qc_model.specs.Domains.{Box, values_left, has_empty, box_without, is_within, domain_values}
use Rattle.qc_model.specs.Block.{force_stop}
use Rattle.qc_model.specs.Game.{allows, before, is_of_scope}
use Rattle.qc_model.specs.Valid.{is_number}
use Rattle.qc_model.specs.Verdict.{Seen, seen_barred, seen_bound}
use Rattle.std.proofs.lemmas.List.{length-map}
use Rattle.qc_model.proofs.Before.{before-le}
use Rattle.qc_model.proofs.Readable.{first, second}
use Rattle.model_arguments.specs.Asked.{is_box_of}
use Rattle.check_assignment.specs.Assigned.{Assigned}
use Rattle.joins.specs.Joins.{game_of as game_joined, StandsAt, KeepsOthers}
use Rattle.joins.specs.declared.joins.Joins.{Joins}
use Rattle.proof_tree.specs.Place.{position, is_fixed}
use Rattle.proof_tree.specs.Steps.{is_legal}
use Rattle.proof_tree.specs.declared.line.Line.{Line}
use Rattle.proof_tree.specs.declared.line.Line.TheVariants.{Prune, Bound as BoundLine, Empty, Barred, Next as NextLine, Branch as BranchLine}
use Rattle.proof_tree.specs.declared.tree.Step.TheVariants.{Prune as PruneStep, Bound as BoundStep}
use Rattle.fd_store.specs.declared.store.Mark.{Mark}
use Rattle.fd_store.specs.Held.{Held, trail_len, past_box, values_from, Follows}
use Rattle.check_lines.specs.declared.open.Open.{Open}
use Rattle.check_lines.specs.declared.open.Open.TheVariants.{Next, Branch}
use Rattle.check_lines.specs.declared.open.Due.TheVariants as due
use Rattle.check_lines.specs.declared.machine.Machine.{Machine}
use Rattle.check_lines.specs.declared.reads.Reads.{Reads}
use Rattle.check_lines.specs.Known.{HasRead, AreBranchesRead}
use Rattle.check_lines.specs.State.{Fork, bars, goes_on, may_branch, fork_on, is_own_step}
use Rattle.check_lines.specs.Tuples.{tuple_of, is_tuple}
use Rattle.check_lines.specs.Awaited.{Awaited, node_awaited, part_awaited, case_awaited}
use Rattle.check_lines.specs.Ledger.{Ledger, Entry, next_entry, branch_entry, only_ledger, ledger_end, part_closed, place_at, marks_of, space_left}
use Rattle.check_lines.specs.LedgerSizes.{ClosesKeep, PartKeeps}
use Rattle.check_lines.specs.Tracking.{BoundShows}
use Rattle.check_lines.specs.Machine.{game_of, fork_at, before_of, IsFull, AreFrames, IsSound, IsAtNode, IsWithin, IsBack, IsAtFork}
use Rattle.check_box.specs.Placed.{values_to, IsAt}
use Rattle.check_lines.specs.Telling.{AreEntries, AreOpen, IsPart, IsPartEnd, node_at, part_at, part_ended, Tells, PartTells}
use Rattle.box_laws.proofs.Firsts.{from_least}
use Rattle.check_lines.proofs.Frames.{frames_same, entries_same, entries_joins, frames_values, entries_values}
use Rattle.box_laws.proofs.Trails.{past_now}
use Rattle.check_box.proofs.Fewer.{at_values}
use Rattle.check_box.proofs.Placing.{at_filtered}
use Rattle.check_lines.proofs.Known.{reads_open, read_here, reads_followed}
use Rattle.check_lines.proofs.LedgerSizes.{OneMark, part_also, none_seen}

-- tests that pass or fail
pub no_ledger : (b : Bool) (d : Ledger) → b ≡ false → only_ledger b d ≡ None
no_ledger b d e = ap (λ c. only_ledger c d) e

pub a_ledger : (b : Bool) (d : Ledger) → b ≡ true → only_ledger b d ≡ Some d
a_ledger b d e = ap (λ c. only_ledger c d) e

pub not_first : (a b : Bool) (d : Ledger) → a ≡ false → only_ledger (a && b) d ≡ None
not_first a b d e = ap (λ c. only_ledger (c && b) d) e

pub not_second : (a b : Bool) (d : Ledger) → b ≡ false → only_ledger (a && b) d ≡ None
not_second true b d e = ap (λ c. only_ledger c d) e
not_second false b d e = refl

pub both_hold : (a b : Bool) (d : Ledger) → a ≡ true → b ≡ true → only_ledger (a && b) d ≡ Some d
both_hold a b d e f = ap (λ c. only_ledger (c && b) d) e ∙ ap (λ c. only_ledger c d) f

-- the tests on a tuple
pub tuple_goes : (g : Game) (i : ℕ) (box : Box) → goes_on g i box ≡ is_tuple true (tuple_of g i box)
tuple_goes g i box = by (has_empty box) (is_fixed g i box) (allows g i (position g (suc i) box))
  where
    by : (e f a : Bool) → ((not e && f) && a) ≡ is_tuple true (cond (not e && f) (Some a) None)
    by true f a = refl
    by false true a = refl
    by false false a = refl

pub tuple_bars : (g : Game) (i : ℕ) (box : Box) → bars g i box ≡ is_tuple false (tuple_of g i box)
tuple_bars g i box = by (has_empty box) (is_fixed g i box) (allows g i (position g (suc i) box))
  where
    by : (e f a : Bool) → ((not e && f) && not a) ≡ is_tuple false (cond (not e && f) (Some a) None)
    by true f a = refl
    by false true a = refl
    by false false a = refl

-- what reading on leaves
pub record IsReadOn (g : Game) (i : ℕ) (s : Held) (old new : Assigned) (before after : Reads) : Type 0 where
  pub kept : values_to g i new.items ≡ values_to g i old.items
  pub game : new.game ≡ old.game
  pub each : length new.items ≡ length old.items
  pub numbers : list_all is_number new.items ≡ true
  pub places : length after.marks.items ≡ length before.marks.items
  pub here : HasRead s new.items after
  pub branches : (fs : List Open) → AreBranchesRead s old.items before fs → AreBranchesRead s new.items after fs

-- and reading a tuple
pub record IsRead (g : Game) (i : ℕ) (s : Held) (old new : Assigned) (before after : Reads) (found : Option Bool) : Type 0 where
  pub on : IsReadOn g i s old new before after
  pub tuple : found ≡ tuple_of g i s.box
  pub placed : IsSome found → IsAt g (suc i) new.items s.box

pub read_there : (g u : Game) (i n : ℕ) (s : Held) (old new : Assigned) (before after : Reads) (found : Option Bool) → u ≡ g → n ≡ i → IsRead u n s old new before after found → IsRead g i s old new before after found
read_there g u i n s old new before after found e f r = subst (λ k. IsRead g k s old new before after found) f (subst (λ w. IsRead w n s old new before after found) e r)

some_tuple : (o : Option Bool) (b : Bool) → is_tuple b o ≡ true → IsSome o
some_tuple None b e = cc
some_tuple (Some a) b e = refl

full_tuple : (g : Game) (i : ℕ) (box : Box) → goes_on g i box ≡ true → has_empty box ≡ false
full_tuple g i box e = by (has_empty box) (first (not (has_empty box)) (is_fixed g i box) (first (not (has_empty box) && is_fixed g i box) (allows g i (position g (suc i) box)) e))
  where
    by : (b : Bool) → not b ≡ true → b ≡ false
    by true q = cc
    by false q = refl

-- a place for each entry
pub open_count : (g : Game) (s : Held) (vs : List ℤ) (js : Joins) (i : ℕ) (fs : List Open) (es : List Entry) → AreEntries g s vs js i fs es → length es ≡ length fs
open_count g s vs js i [] [] h = refl
open_count g s vs js i [] (b ∷ es) h = absurd h
open_count g s vs js i (Next z ∷ fs) [] h = absurd h
open_count g s vs js i (Next z ∷ fs) (branch_entry b ∷ es) h = absurd h
open_count g s vs js i (Next z ∷ fs) (next_entry xs a y ∷ es) h = ap suc (open_count g s vs js (i - 1) fs es h.3)
open_count g s vs js i (Branch x mark from ∷ fs) [] h = absurd h
open_count g s vs js i (Branch x mark from ∷ fs) (next_entry xs a y ∷ es) h = absurd h
open_count g s vs js i (Branch x mark from ∷ fs) (branch_entry b ∷ es) h = ap suc (open_count g s vs js i fs es h.1)

none_barred : (g : Game) (i : ℕ) → OneMark g i (seen_barred ∷ [])
none_barred g i = record { long = tt; sizes = λ k. omega arith }

pub empty_tells : (m new : Machine) → has_empty m.remains.box ≡ true → ((n : ℕ) (d : Ledger) (es : List Entry) (xs : List Seen) → IsPartEnd n m d es xs → Tells new (Some (part_ended m d es xs))) → PartTells m new (λ d. ledger_end (game_of m) d Empty)
empty_tells m new e h n d es xs u few p k =
    let base = part_at m d es xs u in
    let q = h (suc n) base es (xs ++ []) (record {
      few = omega (arith, few);
      part = record { counts = p.counts; entries = p.entries; stands = subst (StandsAt m.joins m.number) (sym (append-nil xs)) p.stands };
      sizes = part_also (game_of m) n es m.number xs [] (before_of m) (none_seen (game_of m) m.number) k;
    }) in
    subst (Tells new) (sym (a_ledger (has_empty m.remains.box) (part_ended m base es (xs ++ [])) e)) q

-- more values have been read
module _ (m : Machine) (v : Assigned) (q : Reads) (w : IsWithin m) (r : IsReadOn (game_of m) m.number m.remains m.values v m.reads q) where
  read_sound : IsSound (record m { values = v; reads = q })
  read_sound = let s = w.sound in record {
    laws = s.laws;
    tracks = s.tracks;
    joined = s.joined;
    valued = r.game ∙ s.valued;
    value_each = r.each ∙ s.value_each;
    numbers = r.numbers;
    declared = s.declared;
    inside = s.inside;
    placed = λ full. at_values (game_of m) m.number m.values.items v.items m.remains.box r.kept (s.placed full);
    frames = frames_values (game_of m) m.remains m.values.items v.items m.number (trail_len m.remains) m.nesting r.kept s.frames;
    read = record { places = r.places ∙ s.read.places; here = r.here; branches = r.branches m.nesting s.read.branches };
  }

  read_open : (es : List Entry) → AreOpen m es → AreOpen (record m { values = v; reads = q }) es
  read_open es h = entries_values (game_of m) m.remains m.values.items v.items m.joins m.number m.nesting es r.kept h

  pub read_within : IsWithin (record m { values = v; reads = q })
  read_within = record { sound = read_sound; scope = w.scope }

  -- a line that comes after
  pub read_tells : (new : Machine) (f : Ledger → Option Ledger) → PartTells (record m { values = v; reads = q }) new f → PartTells m new f
  read_tells new f h n d es xs u few p k =
      subst (λ a. let r : Ledger = record (part_at m d es xs u) { before = a } in Tells new (f r)) r.kept
      (h n d es xs u few (record { counts = p.counts; entries = read_open es p.entries; stands = p.stands }) (subst (PartKeeps (game_of m) n es m.number xs) (sym r.kept) k))

-- a tuple has been read
module _ (m : Machine) (v : Assigned) (q : Reads) (found : Option Bool) (w : IsWithin m) (r : IsRead (game_of m) m.number m.remains m.values v m.reads q found) where
  tuple_sound : IsSound (record m { values = v; reads = q })
  tuple_sound = read_sound m v q w r.on

  tuple_open : (es : List Entry) → AreOpen m es → AreOpen (record m { values = v; reads = q }) es
  tuple_open es h = read_open m v q w r.on es h

  module _ (js : Joins) (others : KeepsOthers m.number m.joins js) (same : game_joined js ≡ game_joined m.joins) where
    pub barred_within : IsWithin (record m { values = v; reads = q; joins = js })
    barred_within = let s = tuple_sound in record {
      sound = record {
        laws = s.laws;
        tracks = s.tracks;
        joined = same ∙ s.joined;
        valued = s.valued;
        value_each = s.value_each;
        numbers = s.numbers;
        declared = s.declared;
        inside = s.inside;
        placed = s.placed;
        frames = s.frames;
        read = s.read;
      };
      scope = w.scope;
    }

    pub barred_tells : (new : Machine) (stands : (xs : List Seen) → StandsAt m.joins m.number xs → StandsAt js m.number (xs ++ seen_barred ∷ [])) → bars (game_of m) m.number m.remains.box ≡ true →
        ((n : ℕ) (d : Ledger) (es : List Entry) (xs : List Seen) → IsPartEnd n (record m { values = v; reads = q; joins = js }) d es xs → Tells new (Some (part_ended (record m { values = v; reads = q; joins = js }) d es xs))) →
        PartTells m new (λ d. ledger_end (game_of m) d Barred)
    barred_tells new stands e h n d es xs u few p k =
        let base = part_at m d es xs u in
        let ys = xs ++ seen_barred ∷ [] in
        let q = h (suc n) base es ys (record {
          few = omega (arith, few);
          part = record {
            counts = p.counts;
            entries = entries_joins (game_of m) m.remains v.items m.joins js m.number (trail_len m.remains) m.nesting es (λ j zs l. others j zs (λ eq. absurd (omega (arith, l, eq)))) tuple_sound.frames (tuple_open es p.entries);
            stands = stands xs p.stands;
          };
          sizes = subst (ClosesKeep (game_of m) (suc n) es m.number ys) (sym r.on.kept) (part_also (game_of m) n es m.number xs (seen_barred ∷ []) (before_of m) (none_barred (game_of m) m.number) k);
        }) in
        subst (Tells new) (ap Some (ap (part_closed (game_of m) base es m.number m.horizon ys) r.on.kept) ∙ sym (a_ledger (bars (game_of m) m.number m.remains.box) (part_ended m base es ys) e)) q

  -- the node after the tuple
  module _ (fs : List Open) (e : fs ≡ Next m.horizon ∷ m.nesting) (goes : goes_on (game_of m) m.number m.remains.box ≡ true) where
    abbrev nexted : Machine
    nexted = record m { values = v; reads = q; nesting = fs; number = m.number + 1; due = due.Node }

    back : m.number + 1 - 1 ≡ m.number
    back = omega arith

    later : m.number + 1 ≡ suc m.number
    later = omega arith

    pub next_ready : IsAtNode nexted
    next_ready =
        let s = tuple_sound in
        let placed : IsAt (game_of m) (m.number + 1) v.items m.remains.box = subst (λ j. IsAt (game_of m) j v.items m.remains.box) (sym later) (r.placed (some_tuple found true (ap (is_tuple true) r.tuple ∙ (sym (tuple_goes (game_of m) m.number m.remains.box) ∙ goes)))) in
        record {
          sound = record {
            laws = s.laws;
            tracks = s.tracks;
            joined = s.joined;
            valued = s.valued;
            value_each = s.value_each;
            numbers = s.numbers;
            declared = s.declared;
            inside = let l = w.scope in omega (arith, l);
            placed = λ full. placed;
            frames = subst (AreFrames (game_of m) m.remains v.items (m.number + 1) (trail_len m.remains)) (sym e) (omega arith, subst (λ j. AreFrames (game_of m) m.remains v.items j (trail_len m.remains) m.nesting) (sym back) s.frames);
            read = reads_open (game_of m) m.remains v.items q m.nesting fs (λ b. subst (AreBranchesRead m.remains v.items q) (sym e) b) s.read;
          };
          full = full_tuple (game_of m) m.number m.remains.box goes;
        }

    pub next_tells : nat_lt (length m.nesting) 1000 ≡ true → PartTells m nexted (λ d. ledger_end (game_of m) d NextLine)
    next_tells room n d es xs u few p k =
        let base = part_at m d es xs u in
        let new = next_entry xs (before_of m) m.horizon ∷ es in (
          base,
          new,
          record {
            counts = p.counts;
            entries = subst (λ gs. AreEntries (game_of m) m.remains v.items m.joins (m.number + 1) gs new) (sym e)
                (refl, ap (λ j. values_to (game_of m) j m.values.items) (sym back) ∙ old_values, subst (λ j. StandsAt m.joins j xs) (sym back) p.stands, subst (λ j. AreEntries (game_of m) m.remains v.items m.joins j m.nesting es) (sym back) (tuple_open es p.entries));
          },
          both_hold (goes_on (game_of m) m.number m.remains.box) (space_left base) (node_at nexted base new node_awaited) goes (ap (λ l. nat_lt l 1000) (open_count (game_of m) m.remains m.values.items m.joins m.number m.nesting es p.entries) ∙ room),
        )
      where
        old_values : values_to (game_of m) (m.number + 1 - 1) m.values.items ≡ values_to (game_of m) (m.number + 1 - 1) v.items
        old_values = ap (λ j. values_to (game_of m) j m.values.items) back ∙ (sym r.on.kept ∙ ap (λ j. values_to (game_of m) j v.items) (sym back))

pub no_room : (m : Machine) (d : Ledger) (es : List Entry) (xs : List Seen) (u : Awaited) (a : Bool) (e : Ledger) → IsPart m d es xs → nat_lt (length m.nesting) 1000 ≡ false → only_ledger (a && space_left (part_at m d es xs u)) e ≡ None
no_room m d es xs u a e p room =
    not_second a (space_left (part_at m d es xs u)) e (ap (λ l. nat_lt l 1000) (open_count (game_of m) m.remains m.values.items m.joins m.number m.nesting es p.entries) ∙ room)

-- a branch that begins
fork_begins : (s : Held) (x : VarId) (mark : Mark) → mark.at ≡ trail_len s → list_all is_number (values_left s.box x.0) ≡ true → fork_at s x mark (negsuc 999999999) ≡ fork_on x.0 s.box
fork_begins s x mark e n =
    ap (λ b. let f : Fork = record { variable = x.0; box = b; left = values_from (negsuc 999999999) (values_left b x.0) } in f) (past_now s mark.at e)
    ∙ ap (λ vs. let f : Fork = record { variable = x.0; box = s.box; left = vs } in f) (from_least (values_left s.box x.0) n)

pub of_scope : (g : Game) (i x : ℕ) → is_of_scope g i x ≡ true → x < length g.variables
of_scope g i x e =
    let below = lower x (before g (suc i)) (second (nat_le (before g i) x) (nat_lt x (before g (suc i))) e) in
    let most = before-le g (suc i) in
    let size = length-map g.variables (λ y. domain_values y.domain) in
    omega (arith, below, most, size)
  where
    lower : (m n : ℕ) → nat_lt m n ≡ true → m < n
    lower m n h = grind (arith, nat_tests)

pub branch_inside : (g : Game) (i x : ℕ) (box : Box) → may_branch g i x box ≡ true → x < length g.variables
branch_inside g i x box may = of_scope g i x (second (not (has_empty box)) (is_of_scope g i x) (first (not (has_empty box) && is_of_scope g i x) _ may))

pub branch_full : (g : Game) (i x : ℕ) (box : Box) → may_branch g i x box ≡ true → has_empty box ≡ false
branch_full g i x box may = by (has_empty box) (first (not (has_empty box)) _ (first (not (has_empty box) && is_of_scope g i x) _ may))
  where
    by : (b : Bool) → not b ≡ true → b ≡ false
    by true q = cc
    by false q = refl

module _ (m : Machine) (w : IsWithin m) (x : VarId) (mark : Mark) (fs : List Open) (e : fs ≡ Branch x mark (negsuc 999999999) ∷ m.nesting) (at : mark.at ≡ trail_len m.remains) (may : may_branch (game_of m) m.number x.0 m.remains.box ≡ true) where
  abbrev branched : Machine
  branched = record m { nesting = fs; due = due.Case }

  pub branch_ready : IsAtFork branched
  branch_ready =
      let s = w.sound in
      let now : past_box m.remains mark.at ≡ m.remains.box = past_now m.remains mark.at at in
      let full = branch_full (game_of m) m.number x.0 m.remains.box may in
      record {
        sound = record {
          laws = s.laws;
          tracks = s.tracks;
          joined = s.joined;
          valued = s.valued;
          value_each = s.value_each;
          numbers = s.numbers;
          declared = s.declared;
          inside = s.inside;
          placed = s.placed;
          frames = subst (AreFrames (game_of m) m.remains m.values.items m.number (trail_len m.remains)) (sym e) (
            record {
              scope = w.scope;
              at = omega (arith, at);
              variable = branch_inside (game_of m) m.number x.0 m.remains.box may;
              box = subst (IsFull (game_of m) m.number m.values.items) (sym now) (record { declared = s.declared; full = full; placed = s.placed full });
            },
            frames_same (game_of m) m.remains m.remains m.values.items m.number (trail_len m.remains) mark.at m.nesting (omega (arith, at)) (λ k l. refl) s.frames,
          );
          read = reads_open (game_of m) m.remains m.values.items m.reads m.nesting fs (λ b. subst (AreBranchesRead m.remains m.values.items m.reads) (sym e) (read_here m.remains m.values.items m.reads mark.at now full s.read.here, b)) s.read;
        };
        back = subst (IsBack m.remains) (sym e) (sym now);
      }

  pub branch_tells : nat_lt (length m.nesting) 1000 ≡ true → list_all is_number (values_left m.remains.box x.0) ≡ true → PartTells m branched (λ d. ledger_end (game_of m) d (BranchLine x))
  branch_tells room numbers n d es xs u few p k =
      let base = part_at m d es xs u in
      let new = branch_entry (fork_on x.0 m.remains.box) ∷ es in (
        base,
        new,
        xs,
        record {
          counts = p.counts;
          entries = subst (λ gs. AreEntries (game_of m) m.remains m.values.items m.joins m.number gs new) (sym e) (sym (fork_begins m.remains x mark at numbers), p.entries);
          stands = p.stands;
        },
        both_hold (may_branch (game_of m) m.number x.0 m.remains.box) (space_left base) (part_at branched base new xs case_awaited) may (ap (λ l. nat_lt l 1000) (open_count (game_of m) m.remains m.values.items m.joins m.number m.nesting es p.entries) ∙ room),
      )

-- after a removal
module _ (m : Machine) (w : IsWithin m) (t : Held) (f : Follows m.remains t) (declared : is_box_of (game_of m) t.box ≡ true) where
  pub followed_sound : (x : ℕ) (p : ℤ → Bool) → t.box ≡ set m.remains.box x (filter p (values_left m.remains.box x)) → IsSound (record m { remains = t })
  followed_sound x p e = let s = w.sound in record {
    laws = s.laws;
    tracks = s.tracks;
    joined = s.joined;
    valued = s.valued;
    value_each = s.value_each;
    numbers = s.numbers;
    declared = declared;
    inside = s.inside;
    placed = at_filtered (game_of m) m.number m.values.items m.remains.box t.box x p e s.placed;
    frames = frames_same (game_of m) m.remains t m.values.items m.number (trail_len m.remains) (trail_len t) m.nesting f.longer f.boxes s.frames;
    read = reads_followed (game_of m) m.remains t m.values.items m.reads m.number m.nesting x p f e s.frames s.read;
  }

  pub followed_open : (es : List Entry) → AreOpen m es → AreOpen (record m { remains = t }) es
  followed_open es h = entries_same (game_of m) m.remains t m.values.items m.joins m.number (trail_len m.remains) m.nesting es f.boxes w.sound.frames h

  pub pruned_ready : (x : VarId) (lo hi : ℤ) → t.box ≡ box_without m.remains.box x.0 lo hi → IsWithin (record m { remains = t; due = due.Part })
  pruned_ready x lo hi e =
      let s = followed_sound x.0 (λ v. not (is_within lo hi v)) e in
      record {
        sound = record {
          laws = s.laws;
          tracks = s.tracks;
          joined = s.joined;
          valued = s.valued;
          value_each = s.value_each;
          numbers = s.numbers;
          declared = s.declared;
          inside = s.inside;
          placed = s.placed;
          frames = s.frames;
          read = s.read;
        };
        scope = w.scope;
      }

  pub pruned_tells : (x : VarId) (lo hi : ℤ) (c : ConId) → t.box ≡ box_without m.remains.box x.0 lo hi → is_legal (game_of m) m.number (force_stop (drop m.number (game_of m).scopes) m.number) None (PruneStep x lo hi c) m.remains.box ≡ true →
      PartTells m (record m { remains = t; due = due.Part }) (λ d. ledger_end (game_of m) d (Prune x lo hi c))
  pruned_tells x lo hi c e legal n d es xs u few p k =
      let base = part_at m d es xs u in (
        base,
        es,
        xs,
        record { counts = p.counts; entries = followed_open es p.entries; stands = p.stands },
        a_ledger (is_own_step (game_of m) (place_at (game_of m) m.number m.horizon) (PruneStep x lo hi c) m.remains.box) _ legal
            ∙ (ap (λ b. let r : Ledger = record base { box = b; seen = xs ++ []; awaited = part_awaited } in Some r) (sym e)
            ∙ ap (λ ys. let r : Ledger = record base { box = t.box; seen = ys; awaited = part_awaited } in Some r) (append-nil xs)),
      )

pub not_pruned : (m : Machine) (d : Ledger) (es : List Entry) (xs : List Seen) (u : Awaited) (x : VarId) (lo hi : ℤ) (c : ConId) → is_legal (game_of m) m.number (force_stop (drop m.number (game_of m).scopes) m.number) None (PruneStep x lo hi c) m.remains.box ≡ false →
    ledger_end (game_of m) (part_at m d es xs u) (Prune x lo hi c) ≡ None
not_pruned m d es xs u x lo hi c e = no_ledger (is_own_step (game_of m) (place_at (game_of m) m.number m.horizon) (PruneStep x lo hi c) m.remains.box) _ e

-- a bound
module _ (m : Machine) (w : IsWithin m) (t : Held) (js : Joins) (f : Follows m.remains t) (declared : is_box_of (game_of m) t.box ≡ true) (others : KeepsOthers m.number m.joins js) (same : game_joined js ≡ game_joined m.joins) (x : VarId) (lo hi best : ℤ) (e : t.box ≡ box_without m.remains.box x.0 lo hi) where
  abbrev bounded : Machine
  bounded = record m { remains = t; joins = js; due = due.Part }

  bounded_sound : IsSound (record m { remains = t })
  bounded_sound = followed_sound m w t f declared x.0 (λ v. not (is_within lo hi v)) e

  pub bound_ready : IsWithin bounded
  bound_ready =
      let s = bounded_sound in
      record {
        sound = record {
          laws = s.laws;
          tracks = s.tracks;
          joined = same ∙ s.joined;
          valued = s.valued;
          value_each = s.value_each;
          numbers = s.numbers;
          declared = s.declared;
          inside = s.inside;
          placed = s.placed;
          frames = s.frames;
          read = s.read;
        };
        scope = w.scope;
      }

  pub bound_tells : (stands : (xs : List Seen) → StandsAt m.joins m.number xs → StandsAt js m.number (xs ++ seen_bound best ∷ [])) → BoundShows (game_of m) m.number x lo hi m.remains.box best → PartTells m bounded (λ d. ledger_end (game_of m) d (BoundLine x lo hi))
  bound_tells stands shows n d es xs u few p k =
      let base = part_at m d es xs u in (
        base,
        es,
        xs ++ seen_bound best ∷ [],
        record {
          counts = p.counts;
          entries = entries_joins (game_of m) t m.values.items m.joins js m.number (trail_len t) m.nesting es (λ j zs l. others j zs (λ eq. absurd (omega (arith, l, eq)))) bounded_sound.frames (followed_open m w t f declared es p.entries);
          stands = stands xs p.stands;
        },
        a_ledger (is_own_step (game_of m) (place_at (game_of m) m.number m.horizon) (BoundStep x lo hi) m.remains.box) _ (shows.legal m.horizon)
            ∙ (ap (λ b. let r : Ledger = record base { box = b; seen = xs ++ marks_of (game_of m) (place_at (game_of m) m.number m.horizon) (BoundStep x lo hi) m.remains.box; awaited = part_awaited } in Some r) (sym e)
            ∙ ap (λ ys. let r : Ledger = record base { box = t.box; seen = xs ++ ys; awaited = part_awaited } in Some r) (shows.marks m.horizon)),
      )

-- a line that is this one
pub arm : (P Q : Line → Type 0) (l k : Line) → l ≡ k → (P k → Q k) → P l → Q l
arm P Q l k e f h = subst Q (sym e) (f (subst P e h))
