-- What is told at a branch, as its cases are passed over, gone into, and end.
use Rattle.std.proofs.Common.{◌≡◌, ◌≢◌, ℕ, ◌+◌, ◌-◌, ◌^◌, ◌<◌, Bool, true, false, ◌&&◌, ◌||◌, Option, Some, None, List, [], ◌∷◌, length, set, refl, sym, ap, ◌∙◌, subst, arith, ℤ, IfNone, IfSome, Result, Ok, Err, OnOk}
use Rattle.std.specs.Prelude.{min, nat_lt, is_some, pos, ◌+ℤ◌}
use Rattle.std.proofs.lemmas.Bool.{and_right, and_from}
use Rattle.qc_model.specs.Domains.{Box, Values, values_left, values_within, box_within, is_none_left}
use Rattle.qc_model.specs.Verdict.{Seen, seen_skipped}
use Rattle.model_arguments.specs.Asked.{is_box_of}
use Rattle.joins.specs.Joins.{game_of as game_joined}
use Rattle.joins.specs.Sizes.{AreLong}
use Rattle.proof_tree.specs.Cover.{covered, is_cover, box_to}
use Rattle.fd_store.specs.Held.{Held, trail_len, past_box, values_from, least_of, Follows}
use Rattle.check_box.specs.Cases.{IsCase}
use Rattle.check_box.proofs.Cuts.{fewer, not_fewer}
use Rattle.box_laws.proofs.Readings.{box_size}
use Rattle.dense_tree.specs.Tree.{Given}
use Rattle.dense_tree.specs.Place.{Setting}
use Rattle.dense_tree.specs.Read.{is_narrower}
use Rattle.dense_ledger.specs.Ledger.{Ledger, Own, Frame, waiting, forked, Fork as ForkTold, setting_of, only_ledger, at_fork, with_seen, fork_after, may_go, case_place, gone_into, passed, part_ended, Due as DueTold, case_due, part_due, ranged_due, known_settled, own_verdict, leaf_seen}
use Rattle.dense_nest.specs.declared.place.Fork.{Fork}
use Rattle.dense_nest.specs.declared.place.Open.{Open}
use Rattle.dense_nest.specs.declared.place.Open.TheVariants.{Waiting, Forked}
use Rattle.dense_nest.specs.declared.place.Due.{Due}
use Rattle.dense_nest.specs.declared.place.Due.TheVariants as due
use Rattle.dense_nest.specs.declared.nest.Nest.{Nest}
use Rattle.dense_nest.specs.Opened.{rest, IsUnforked}
use Rattle.dense_nest.specs.Places.{place_at, part_spot, fork_told, IsFork}
use Rattle.dense_nest.specs.Telling.{game_of, IsOwn, AreFrames, AreNamed, IsBack, IsPart, IsAtFork, Tells, TellsOf}
use Rattle.dense_nest.specs.Goes.{PartGoes, EntersFork}
use Rattle.dense_nest.specs.Ends.{SeesMore}
use Rattle.dense_nest.proofs.Frames.{entry_same, own_same, frames_same}

-- ---- ledgers that are told or not
pub no_ledger : (m : Nest) (us : List Given) (boxes : List Box) (b : Bool) (d : Ledger) → m.due ≡ due.Wrong → b ≡ false → TellsOf m us boxes (only_ledger b d)
no_ledger m us boxes b d wrong e = subst (λ c. TellsOf m us boxes (only_ledger c d)) (sym e) wrong

pub a_ledger : (m : Nest) (us : List Given) (boxes : List Box) (b : Bool) (d : Ledger) → b ≡ true → Tells m us boxes d → TellsOf m us boxes (only_ledger b d)
a_ledger m us boxes b d e t = subst (λ c. TellsOf m us boxes (only_ledger c d)) (sym e) t

-- a branch was opened last
pub is_forked : (s : Held) (os : List Open) → IsBack s os → IsUnforked os → ⊥
is_forked s [] b u = b
is_forked s (Waiting up ∷ os) b u = b
is_forked s (Forked k ∷ os) b u = u

-- the part that ends may be told with other frames
pub ended_frames : (s : Setting) (d : Ledger) (o : Own) (fs gs : List Frame) → part_ended s (record d { frames = gs }) o fs ≡ part_ended s d o fs
ended_frames s d o [] gs = refl
ended_frames s d o (forked b ∷ fs) gs = refl
ended_frames s d o (waiting up ∷ fs) gs = ended_frames s (record d { known = known_settled o.entry (own_verdict s o) d.known }) (with_seen (leaf_seen o.entry.chosen (own_verdict s o)) up) fs gs

pub one_more_turn : (m n t : ℕ) → m ≡ min n (2 ^ 64 - 1) → t ≡ min (m + 1) (2 ^ 64 - 1) → t ≡ min (n + 1) (2 ^ 64 - 1)
one_more_turn m n t e f = omega (arith, e, f)

-- ---- what is open last
pub record TopIs (m : Nest) (k : Fork) (more : List Open) (fs : List Frame) : Type 0 where
  pub outer : List Frame
  pub split : fs ≡ forked (fork_told (game_of m) m.remains m.entry k) ∷ outer
  pub fork : IsFork (game_of m) m.remains (trail_len m.remains) m.entry k
  pub around : AreFrames (game_of m) m.remains m.joins m.tallies.items m.entry k.mark.at more outer

pub top_is : (m : Nest) (k : Fork) (more : List Open) (fs : List Frame) → m.open ≡ Forked k ∷ more → AreFrames (game_of m) m.remains m.joins m.tallies.items m.entry (trail_len m.remains) m.open fs → TopIs m k more fs
top_is m k more fs e h = by fs (subst (λ os. AreFrames (game_of m) m.remains m.joins m.tallies.items m.entry (trail_len m.remains) os fs) e h)
  where
    by : (fs : List Frame) → AreFrames (game_of m) m.remains m.joins m.tallies.items m.entry (trail_len m.remains) (Forked k ∷ more) fs → TopIs m k more fs
    by [] q = absurd q
    by (waiting o ∷ fs) q = absurd q
    by (forked b ∷ fs) q = record { outer = fs; split = ap (λ c. forked c ∷ fs) q.0; fork = q.1; around = q.2 }

-- ---- parts
-- one that has seen more
pub part_sees : (m n : Nest) (us : List Given) (boxes : List Box) (d : Ledger) (i : ℕ) (xs : List Seen) → i ≡ m.entry.spot.number → AreLong (game_joined m.joins) i xs → SeesMore i xs m n → IsPart m us boxes d → IsPart n us boxes (record d { own = with_seen xs d.own })
part_sees m n us boxes d i xs at long s p = subst (λ (q : Nest). IsPart q us boxes (record d { own = with_seen xs d.own })) (sym s.rest) seen
  where
    before : (j : ℕ) → j < m.entry.spot.number → (j ≡ i → ⊥)
    before j l e = absurd (omega (arith, l, e, at))

    seen : IsPart (record m { joins = n.joins; tallies = n.tallies }) us boxes (record d { own = with_seen xs d.own })
    seen =
        let k = p.keeps in
        let made = k.made in
        let after = p.entry.at in
        record {
          keeps = record {
            made = record { joined = s.joined ∙ made.joined; lists = made.lists; values = made.values; numbers = made.numbers; tallies = s.count ∙ made.tallies };
            given = k.given;
            known = k.known;
            kept = k.kept;
            names = k.names;
            turns = k.turns;
            unfinished = k.unfinished;
          };
          entry = p.entry;
          own = subst (λ g. IsOwn g m.remains n.joins n.tallies.items m.entry (with_seen xs d.own)) made.joined
              (s.own m.remains m.entry d.own (sym at) long (subst (λ g. IsOwn g m.remains m.joins m.tallies.items m.entry d.own) (sym made.joined) p.own));
          named = p.named;
          frames = frames_same (game_of m) m.remains m.remains m.joins n.joins m.tallies.items n.tallies.items m.entry (trail_len m.remains) (trail_len m.remains) m.open d.frames (omega arith) (λ j l. refl)
              (λ j ys l. s.joins j ys (before j l)) (λ j l. s.tallies j (before j l)) after p.frames;
          box = p.box;
        }

-- one whose store has gone on
pub part_follows : (m : Nest) (us : List Given) (boxes : List Box) (d : Ledger) (t : Held) → Follows m.remains t → is_box_of (game_of m) t.box ≡ true → IsPart m us boxes d → IsPart (record m { remains = t }) us boxes d
part_follows m us boxes d t f declared p =
    let k = p.keeps in
    let after = p.entry.at in
    record {
      keeps = record {
        made = record { joined = k.made.joined; lists = k.made.lists; values = k.made.values; numbers = k.made.numbers; tallies = k.made.tallies };
        given = k.given;
        known = k.known;
        kept = k.kept;
        names = k.names;
        turns = k.turns;
        unfinished = k.unfinished;
      };
      entry = entry_same (game_of m) m.remains t (trail_len m.remains) (trail_len t) m.entry f.longer f.boxes p.entry;
      own = own_same (game_of m) m.remains t m.joins m.joins m.tallies.items m.tallies.items (trail_len m.remains) m.entry d.own after f.boxes (λ s. s) refl p.own;
      named = p.named;
      frames = frames_same (game_of m) m.remains t m.joins m.joins m.tallies.items m.tallies.items m.entry (trail_len m.remains) (trail_len t) m.open d.frames f.longer f.boxes (λ j xs l s. s) (λ j l. refl) after p.frames;
      box = declared;
    }

-- one with other things open
pub part_opens : (m : Nest) (us : List Given) (boxes : List Box) (d : Ledger) (os : List Open) (fs : List Frame) → AreNamed d.known fs → AreFrames (game_of m) m.remains m.joins m.tallies.items m.entry (trail_len m.remains) os fs → IsPart m us boxes d →
    IsPart (record m { «open» = os }) us boxes (record d { frames = fs })
part_opens m us boxes d os fs names frames p =
    let k = p.keeps in
    record {
      keeps = record {
        made = record { joined = k.made.joined; lists = k.made.lists; values = k.made.values; numbers = k.made.numbers; tallies = k.made.tallies };
        given = k.given;
        known = k.known;
        kept = k.kept;
        names = names;
        turns = k.turns;
        unfinished = k.unfinished;
      };
      entry = p.entry;
      own = p.own;
      named = p.named;
      frames = frames;
      box = p.box;
    }

-- the branch that was opened last
module _ (m : Nest) (us : List Given) (boxes : List Box) (d : Ledger) (p : IsPart m us boxes d) (k : Fork) (more : List Open) (top : m.open ≡ Forked k ∷ more) (outer : List Frame) (split : d.frames ≡ forked (fork_told (game_of m) m.remains m.entry k) ∷ outer) (fork : IsFork (game_of m) m.remains (trail_len m.remains) m.entry k)
    (around : AreFrames (game_of m) m.remains m.joins m.tallies.items m.entry k.mark.at more outer) where
  names_outer : AreNamed d.known outer
  names_outer = subst (AreNamed d.known) split p.keeps.names

  -- goes on behind a case
  pub part_moves : (upto : Option ℤ) (start end : ℤ) → IsCase (values_left (past_box m.remains k.mark.at) k.x.0) k.from upto start end → (os : List Open) → os ≡ Forked (record k { from = end +ℤ pos 1 }) ∷ more →
      IsPart (record m { «open» = os }) us boxes (record d { frames = forked (fork_after upto (fork_told (game_of m) m.remains m.entry k)) ∷ outer })
  part_moves upto start end case os e =
      let b = fork_told (game_of m) m.remains m.entry k in
      part_opens m us boxes d os (forked (fork_after upto b) ∷ outer) names_outer
      (subst (λ xs. AreFrames (game_of m) m.remains m.joins m.tallies.items m.entry (trail_len m.remains) xs (forked (fork_after upto b) ∷ outer)) (sym e)
      (ap (λ vs. let f : ForkTold = record { place = b.place; variable = b.variable; left = vs } in f) case.leaves, record { after = fork.after; at = fork.at; variable = fork.variable; box = fork.box }, around)) p

  -- is closed
  pub part_closes : IsPart (record m { «open» = more }) us boxes (record d { frames = outer })
  part_closes =
      let a = fork.at in
      let b = fork.after in
      part_opens m us boxes d more outer names_outer
      (frames_same (game_of m) m.remains m.remains m.joins m.joins m.tallies.items m.tallies.items m.entry k.mark.at (trail_len m.remains) more outer a (λ j l. refl) (λ j xs l s. s) (λ j l. refl) b around) p

-- one of which less is told, or more
pub part_again : (m : Nest) (us : List Given) (boxes : List Box) (d : Ledger) → IsPart m us boxes d → (u : Due) (o : Bool) (t : ℕ) (v : DueTold) (q : Bool) (s : ℕ) → o ≡ q → t ≡ min s (2 ^ 64 - 1) →
    IsPart (record m { due = u; has_open = o; turns = t }) us boxes (record d { due = v; has_open = q; turns = s })
part_again m us boxes d p u o t v q s e f =
    let k = p.keeps in
    record {
      keeps = record {
        made = record { joined = k.made.joined; lists = k.made.lists; values = k.made.values; numbers = k.made.numbers; tallies = k.made.tallies };
        given = k.given;
        known = k.known;
        kept = k.kept;
        names = k.names;
        turns = f;
        unfinished = e;
      };
      entry = p.entry;
      own = p.own;
      named = p.named;
      frames = p.frames;
      box = p.box;
    }

-- ---- the lines of a branch
open_fork : (s : Held) (os : List Open) → IsBack s os → (k : Fork) × (os ≡ Forked k ∷ rest os)
open_fork s [] b = absurd b
open_fork s (Waiting up ∷ os) b = absurd b
open_fork s (Forked k ∷ os) b = (k, refl)

pub popped : (r : Option Open) (k : Fork) (os ns : List Open) → os ≡ Forked k ∷ rest os → IfNone r (os ≡ []) → IfSome r (λ f. os ≡ f ∷ ns) → ns ≡ rest os
popped None k os ns e none some = let q : [] ≡ Forked k ∷ rest os = sym none ∙ e in cc
popped (Some f) k os ns e none some = sym (ap rest some)

pub ok_to : {X E P Q : Type 0} → (r : Result X E) → (P → Q) → OnOk r P → OnOk r Q
ok_to (Ok x) f p = f p
ok_to (Err e) f p = tt

pub least_none : (vs : Values) (o : Option ℤ) → o ≡ least_of vs → is_some o ≡ false → is_none_left vs ≡ true
least_none [] o e f = refl
least_none (v ∷ vs) o e f = let q : true ≡ false = sym (ap is_some e) ∙ f in cc

pub least_some : (vs : Values) (o : Option ℤ) → o ≡ least_of vs → is_some o ≡ true → is_none_left vs ≡ false
least_some [] o e f = let q : false ≡ true = sym (ap is_some e) ∙ f in cc
least_some (v ∷ vs) o e f = refl

module _ (m : Nest) (us : List Given) (boxes : List Box) (d : Ledger) (w : IsAtFork m us boxes d) where
  pub range_tells : (high : ℤ) → TellsOf (record m { due = due.Ranged high }) us boxes (at_fork d.frames (λ b fs. Some (record d { due = ranged_due high })))
  range_tells high =
      let o = open_fork m.remains m.open w.back in
      let t = top_is m o.0 (rest m.open) d.frames o.1 w.part.frames in
      let k = w.part.keeps in
      subst (λ fs. TellsOf (record m { due = due.Ranged high }) us boxes (at_fork fs (λ b gs. Some (record d { due = ranged_due high })))) (sym t.split)
      (refl, record { part = part_again m us boxes d w.part (due.Ranged high) m.has_open m.turns (ranged_due high) d.has_open d.turns k.unfinished k.turns; back = w.back })

  module _ (k : Fork) (top : m.open ≡ Forked k ∷ rest m.open) where
    abbrev last : ForkTold
    last = fork_told (game_of m) m.remains m.entry k

    last_is : TopIs m k (rest m.open) d.frames
    last_is = top_is m k (rest m.open) d.frames top w.part.frames

    pub back_is : m.remains.box ≡ past_box m.remains k.mark.at
    back_is = subst (IsBack m.remains) top w.back

    pub variable_inside : k.x.0 < length m.remains.box
    variable_inside = let v = last_is.fork.variable in let size = box_size (game_of m) m.remains.box w.part.box in omega (arith, v, size)

    -- by the branch that is open last
    by_last : (P : List Frame → Type 0) → ((outer : List Frame) → P (forked last ∷ outer)) → P d.frames
    by_last P f = subst P (sym last_is.split) (f last_is.outer)

    left_is : (P : Values → Type 0) → P (values_from k.from (values_left m.remains.box k.x.0)) → P last.left
    left_is P h = subst (λ b. P (values_from k.from (values_left b k.x.0))) back_is h

    -- a case that isn't one
    pub not_passed : (new : Nest) (upto : Option ℤ) (is_open : Bool) → new.due ≡ due.Wrong → is_cover upto (values_from k.from (values_left m.remains.box k.x.0)) ≡ false → TellsOf new us boxes (at_fork d.frames (λ b fs. passed d b fs upto is_open))
    not_passed new upto is_open wrong e =
        by_last (λ fs. TellsOf new us boxes (at_fork fs (λ b gs. passed d b gs upto is_open))) (λ outer. no_ledger new us boxes (is_cover upto last.left) _ wrong (left_is (λ vs. is_cover upto vs ≡ false) e))

    not_may : (new : Nest) (upto : Option ℤ) → new.due ≡ due.Wrong → may_go last upto ≡ false → TellsOf new us boxes (at_fork d.frames (λ b fs. only_ledger (may_go b upto) (gone_into d b fs upto)))
    not_may new upto wrong e =
        by_last (λ fs. TellsOf new us boxes (at_fork fs (λ b gs. only_ledger (may_go b upto) (gone_into d b gs upto)))) (λ outer. no_ledger new us boxes (may_go last upto) (gone_into d last outer upto) wrong e)

    pub not_entered : (new : Nest) (upto : Option ℤ) → new.due ≡ due.Wrong → is_cover upto (values_from k.from (values_left m.remains.box k.x.0)) ≡ false → TellsOf new us boxes (at_fork d.frames (λ b fs. only_ledger (may_go b upto) (gone_into d b fs upto)))
    not_entered new upto wrong e = not_may new upto wrong (ap (λ c. c && is_narrower (covered upto last.left) (values_left last.place.box k.x.0)) (left_is (λ vs. is_cover upto vs ≡ false) e))

    -- the dot where values are left
    pub not_over : (new : Nest) → new.due ≡ due.Wrong → is_none_left (values_from k.from (values_left m.remains.box k.x.0)) ≡ false → TellsOf new us boxes (at_fork d.frames (λ b fs. only_ledger (is_none_left b.left) (part_ended (setting_of (game_of m) d) d d.own fs)))
    not_over new wrong e =
        by_last (λ fs. TellsOf new us boxes (at_fork fs (λ b gs. only_ledger (is_none_left b.left) (part_ended (setting_of (game_of m) d) d d.own gs))))
        (λ outer. no_ledger new us boxes (is_none_left last.left) _ wrong (left_is (λ vs. is_none_left vs ≡ false) e))

    -- and where none is
    pub some_closed : (p : Ledger) × IsPart (record m { «open» = rest m.open }) us boxes p
    some_closed = let t = last_is in (record d { frames = t.outer }, part_closes m us boxes d w.part k (rest m.open) top t.outer t.split t.fork t.around)

    pub dot_tells : (new : Nest) → is_none_left (values_from k.from (values_left m.remains.box k.x.0)) ≡ true → PartGoes (record m { «open» = rest m.open }) new (λ p. Some (part_ended (setting_of (game_of m) p) p p.own p.frames)) →
        TellsOf new us boxes (at_fork d.frames (λ b fs. only_ledger (is_none_left b.left) (part_ended (setting_of (game_of m) d) d d.own fs)))
    dot_tells new e goes =
        let t = last_is in
        let p : Ledger = record d { frames = t.outer } in
        subst (λ fs. TellsOf new us boxes (at_fork fs (λ b gs. only_ledger (is_none_left b.left) (part_ended (setting_of (game_of m) d) d d.own gs)))) (sym t.split)
        (a_ledger new us boxes (is_none_left last.left) (part_ended (setting_of (game_of m) d) d d.own t.outer) (left_is (λ vs. is_none_left vs ≡ true) e)
        (subst (Tells new us boxes) (ended_frames (setting_of (game_of m) d) d d.own t.outer t.outer) (goes us boxes p (part_closes m us boxes d w.part k (rest m.open) top t.outer t.split t.fork t.around))))

    module _ (upto : Option ℤ) (start end : ℤ) (case : IsCase (values_left m.remains.box k.x.0) k.from upto start end) where
      there : IsCase (values_left (past_box m.remains k.mark.at) k.x.0) k.from upto start end
      there = subst (λ b. IsCase (values_left b k.x.0) k.from upto start end) back_is case

      abbrev behind : Fork
      behind = record k { from = end +ℤ pos 1 }

      -- it is passed over
      pub pass_tells : (n : Nest) → n ≡ record m { «open» = Forked behind ∷ rest m.open } → (i : ℕ) → i ≡ n.entry.spot.number → (new : Nest) → SeesMore i (seen_skipped ∷ []) n new → (is_open o : Bool) → o ≡ (new.has_open || is_open) →
          TellsOf (record new { has_open = o; due = due.Case }) us boxes (at_fork d.frames (λ b fs. passed d b fs upto is_open))
      pass_tells n e i at new s is_open o q = subst (λ (h : Nest). i ≡ h.entry.spot.number → SeesMore i (seen_skipped ∷ []) h new → TellsOf (record new { has_open = o; due = due.Case }) us boxes (at_fork d.frames (λ b fs. passed d b fs upto is_open))) (sym e) told at s
        where
          told : i ≡ m.entry.spot.number → SeesMore i (seen_skipped ∷ []) (record m { «open» = Forked behind ∷ rest m.open }) new → TellsOf (record new { has_open = o; due = due.Case }) us boxes (at_fork d.frames (λ b fs. passed d b fs upto is_open))
          told at s =
              let t = last_is in
              let moved = part_moves m us boxes d w.part k (rest m.open) top t.outer t.split t.fork t.around upto start end there (Forked behind ∷ rest m.open) refl in
              let p = part_sees (record m { «open» = Forked behind ∷ rest m.open }) new us boxes (record d { frames = forked (fork_after upto last) ∷ t.outer }) i (seen_skipped ∷ []) at tt s moved in
              subst (λ fs. TellsOf (record new { has_open = o; due = due.Case }) us boxes (at_fork fs (λ b gs. passed d b gs upto is_open))) (sym t.split)
              (a_ledger (record new { has_open = o; due = due.Case }) us boxes (is_cover upto last.left) _ there.is (
                refl,
                record {
                  part = part_again new us boxes (record d { frames = forked (fork_after upto last) ∷ t.outer; own = with_seen (seen_skipped ∷ []) d.own }) p due.Case o new.turns case_due (d.has_open || is_open) d.turns (q ∙ ap (λ b. b || is_open) p.keeps.unfinished) p.keeps.turns;
                  back = subst (λ (h : Nest). IsBack h.remains h.«open») (sym s.rest) back_is;
                },
              ))

      -- it covers all that is left
      pub not_narrower : (new : Nest) (box : Box) → new.due ≡ due.Wrong → box ≡ box_within m.remains.box k.x.0 start end → length (values_left box k.x.0) ≡ length (values_left m.remains.box k.x.0) → TellsOf new us boxes (at_fork d.frames (λ b fs. only_ledger (may_go b upto) (gone_into d b fs upto)))
      not_narrower new box wrong e same =
          not_may new upto wrong
          (and_right (is_cover upto last.left) (is_narrower (covered upto last.left) (values_left (past_box m.remains k.mark.at) k.x.0))
          (ap (λ vs. nat_lt (length vs) (length (values_left (past_box m.remains k.mark.at) k.x.0))) there.covers
          ∙ subst (λ b. nat_lt (length (values_within start end (values_left b k.x.0))) (length (values_left b k.x.0)) ≡ false) back_is (not_fewer m.remains.box box k.x.0 start end variable_inside e same)))

      -- it is gone into
      module _ (t : Held) (f : Follows m.remains t) (declared : is_box_of (game_of m) t.box ≡ true) (box : t.box ≡ box_within m.remains.box k.x.0 start end) (differs : length (values_left t.box k.x.0) ≢ length (values_left m.remains.box k.x.0)) where
        abbrev kept : Nest
        kept = record m { remains = t }

        part_kept : IsPart kept us boxes d
        part_kept = part_follows m us boxes d t f declared w.part

        kept_last : TopIs kept k (rest m.open) d.frames
        kept_last = top_is kept k (rest m.open) d.frames top part_kept.frames

        past_is : m.remains.box ≡ past_box t k.mark.at
        past_is = back_is ∙ sym (f.boxes k.mark.at last_is.fork.at)

        kept_case : IsCase (values_left (past_box t k.mark.at) k.x.0) k.from upto start end
        kept_case = subst (λ b. IsCase (values_left b k.x.0) k.from upto start end) past_is case

        abbrev fork_kept : ForkTold
        fork_kept = fork_told (game_of m) t m.entry k

        goes_in : may_go fork_kept upto ≡ true
        goes_in =
            and_from (is_cover upto fork_kept.left) (is_narrower (covered upto fork_kept.left) (values_left (past_box t k.mark.at) k.x.0)) kept_case.is
            (ap (λ vs. nat_lt (length vs) (length (values_left (past_box t k.mark.at) k.x.0))) kept_case.covers
            ∙ subst (λ b. nat_lt (length (values_within start end (values_left b k.x.0))) (length (values_left b k.x.0)) ≡ true) past_is (fewer m.remains.box t.box k.x.0 start end variable_inside box differs))

        box_is : t.box ≡ box_to (past_box t k.mark.at) k.x.0 (covered upto fork_kept.left)
        box_is = box ∙ (ap (λ b. box_within b k.x.0 start end) past_is ∙ ap (set (past_box t k.mark.at) k.x.0) (sym kept_case.covers))

        abbrev gone : ℕ → Nest
        gone turns = record kept { «open» = Forked behind ∷ rest m.open; turns = turns }

        pub enters : (n : Nest) → n ≡ record kept { «open» = Forked behind ∷ rest m.open } → (turns : ℕ) → turns ≡ min (n.turns + 1) (2 ^ 64 - 1) → EntersFork (record n { turns = turns }) k.bounded us boxes d upto d.frames
        enters n e turns q = subst (λ (h : Nest). turns ≡ min (h.turns + 1) (2 ^ 64 - 1) → EntersFork (record h { turns = turns }) k.bounded us boxes d upto d.frames) (sym e) told q
          where
            told : turns ≡ min (m.turns + 1) (2 ^ 64 - 1) → EntersFork (gone turns) k.bounded us boxes d upto d.frames
            told q =
                let l = kept_last in
                let moved = part_moves kept us boxes d part_kept k (rest m.open) top l.outer l.split l.fork l.around upto start end kept_case (Forked behind ∷ rest m.open) refl in
                subst (EntersFork (gone turns) k.bounded us boxes d upto) (sym l.split) (
                  goes_in,
                  ap (λ b. place_at (game_of m) (part_spot m.entry k.bounded) b) box_is,
                  part_again (record kept { «open» = Forked behind ∷ rest m.open }) us boxes (record d { frames = forked (fork_after upto fork_kept) ∷ l.outer }) moved m.due m.has_open turns (part_due (case_place fork_kept upto)) d.has_open (d.turns + 1)
                      moved.keeps.unfinished (one_more_turn m.turns d.turns turns moved.keeps.turns q),
                )
