-- What a machine goes on telling as its box changes, as other lines are due, and as its nest goes on.
use Rattle.std.proofs.Common.{◌≡◌, ◌∙◌, refl, sym, ap, subst, Bool, true, false, Option, Some, None, List, [], ◌∷◌, arith}
use Rattle.std.proofs.lemmas.List.{append-nil}
use Rattle.qc_model.specs.Domains.{Box}
use Rattle.model_arguments.specs.Asked.{is_box_of}
use Rattle.fd_store.specs.Held.{Held, trail_len, Follows}
use Rattle.dense_box.specs.Standing.{StandsFor}
use Rattle.dense_box.specs.Wished.{TracksAll}
use Rattle.dense_tree.specs.Tree.{Given}
use Rattle.dense_tree.specs.Place.{Setting}
use Rattle.dense_ledger.specs.Ledger.{Ledger, Own, Frame, waiting, forked, setting_of, only_ledger, part_due, with_seen, part_ended}
use Rattle.dense_ledger.specs.Ledger as ledger
use Rattle.dense_nest.specs.declared.place.Entry.{Entry}
use Rattle.dense_nest.specs.declared.place.Due.{Due}
use Rattle.dense_nest.specs.declared.place.Due.TheVariants as due
use Rattle.dense_nest.specs.declared.nest.Nest.{Nest}
use Rattle.dense_nest.specs.Places.{entry_told}
use Rattle.dense_nest.specs.Telling as nest
use Rattle.dense_nest.specs.Telling.{IsNamed, TellsAt}
use Rattle.dense_nest.specs.Goes as goes
use Rattle.dense_nest.proofs.Frames.{KeepsTo, entry_same, entry_told_same, own_same, frames_same}
use Rattle.dense_check.specs.declared.machine.DenseMachine.{DenseMachine}
use Rattle.dense_check.specs.Telling.{game_of, Knows, IsPart, IsNode, Tells, TellsOf, with_remains, with_due, IsSameHeld, here_in}

-- ---- the nest
abbrev pub at_held : Held → Nest → Nest
at_held s m = record m { remains = s }

abbrev pub due_to : Due → Nest → Nest
due_to x m = record m { due = x }

pub keeps_held : (m : Nest) (s : Held) (us : List Given) (boxes : List Box) (d : Ledger) → nest.Keeps m us boxes d → nest.Keeps (at_held s m) us boxes d
keeps_held m s us boxes d h = record {
  made = record { joined = h.made.joined; lists = h.made.lists; values = h.made.values; numbers = h.made.numbers; tallies = h.made.tallies };
  given = h.given;
  known = h.known;
  kept = h.kept;
  names = h.names;
  turns = h.turns;
  unfinished = h.unfinished;
}

pub keeps_due : (m : Nest) (x : Due) (us : List Given) (boxes : List Box) (d : Ledger) (y : ledger.Due) → nest.Keeps m us boxes d → nest.Keeps (due_to x m) us boxes (record d { due = y })
keeps_due m x us boxes d y h = record {
  made = record { joined = h.made.joined; lists = h.made.lists; values = h.made.values; numbers = h.made.numbers; tallies = h.made.tallies };
  given = h.given;
  known = h.known;
  kept = h.kept;
  names = h.names;
  turns = h.turns;
  unfinished = h.unfinished;
}

-- it stays in the scope's own tree as its box changes, and as something else is due
pub part_follows : (m : Nest) (s : Held) (us : List Given) (boxes : List Box) (d : Ledger) → Follows m.remains s → is_box_of (nest.game_of m) s.box ≡ true → nest.IsPart m us boxes d → nest.IsPart (at_held s m) us boxes d
part_follows m s us boxes d f b h =
    let g = nest.game_of m in
    record {
      keeps = keeps_held m s us boxes d h.keeps;
      entry = entry_same g m.remains s (trail_len m.remains) (trail_len s) m.entry f.longer f.boxes h.entry;
      own = own_same g m.remains s m.joins m.joins m.tallies.items m.tallies.items (trail_len m.remains) m.entry d.own h.entry.at f.boxes (λ x. x) refl h.own;
      named = h.named;
      frames = frames_same g m.remains s m.joins m.joins m.tallies.items m.tallies.items m.entry (trail_len m.remains) (trail_len s) m.open d.frames f.longer f.boxes (λ j xs l x. x) (λ j l. refl) h.entry.at h.frames;
      box = b;
    }

pub part_due_to : (m : Nest) (x : Due) (us : List Given) (boxes : List Box) (d : Ledger) (y : ledger.Due) → nest.IsPart m us boxes d → nest.IsPart (due_to x m) us boxes (record d { due = y })
part_due_to m x us boxes d y h =
    record { keeps = keeps_due m x us boxes d y h.keeps; entry = h.entry; own = h.own; named = h.named; frames = h.frames; box = h.box }

-- and at a node, where as much is left as before
pub node_same : (m : Nest) (s : Held) (us : List Given) (boxes : List Box) (e : Entry) (d : Ledger) → IsSameHeld m.remains s → nest.IsNode m us boxes e d → nest.IsNode (at_held s m) us boxes e d
node_same m s us boxes e d k h =
    let g = nest.game_of m in
    let at = h.entry.at in
    let len = k.len in
    let kept : KeepsTo e.mark.at m.remains s = λ i q. k.boxes i (omega (arith, q, at)) in
    record {
      keeps = keeps_held m s us boxes d h.keeps;
      entry = entry_same g m.remains s (trail_len m.remains) (trail_len s) e (omega (arith, len)) k.boxes h.entry;
      here = k.box ∙ (h.here ∙ sym (k.boxes e.mark.at at));
      named = subst (λ t. IsNamed d.known e.named t.begin) (sym (entry_told_same g m.remains s (trail_len m.remains) e at k.boxes)) h.named;
      frames = frames_same g m.remains s m.joins m.joins m.tallies.items m.tallies.items e e.mark.at e.mark.at m.open d.frames (omega arith) kept (λ j xs l x. x) (λ j l. refl) (omega arith) h.frames;
      below = h.below;
    }

pub told_same : (m : Nest) (s : Held) (us : List Given) (boxes : List Box) (e : Entry) (d : Ledger) → IsSameHeld m.remains s → nest.IsNode m us boxes e d → entry_told (nest.game_of m) s e ≡ entry_told (nest.game_of m) m.remains e
told_same m s us boxes e d k h = entry_told_same (nest.game_of m) m.remains s (trail_len m.remains) e h.entry.at k.boxes

pub node_due_to : (m : Nest) (x : Due) (us : List Given) (boxes : List Box) (e : Entry) (d : Ledger) (y : ledger.Due) → nest.IsNode m us boxes e d → nest.IsNode (due_to x m) us boxes e (record d { due = y })
node_due_to m x us boxes e d y h =
    record { keeps = keeps_due m x us boxes d y h.keeps; entry = h.entry; here = h.here; named = h.named; frames = h.frames; below = h.below }

-- the tuples that are told to be given are those of the ledger
pub given_at : (m : Nest) (x : Due) (us : List Given) (boxes : List Box) (d : Ledger) → TellsAt m x us boxes d → d.given ≡ us
given_at m due.Given us boxes d h = h.1.node.keeps.given
given_at m (due.Node e) us boxes d h = h.1.keeps.given
given_at m (due.Named e) us boxes d h = h.1.keeps.given
given_at m (due.Body e) us boxes d h = h.1.keeps.given
given_at m (due.Part b) us boxes d h = h.1.keeps.given
given_at m due.Case us boxes d h = h.1.part.keeps.given
given_at m (due.Ranged high) us boxes d h = h.1.part.keeps.given
given_at m due.Ended us boxes d h = h.1.given
given_at m due.Wrong us boxes d h = absurd h

-- ---- the machine
abbrev pub with_nest : Nest → DenseMachine → DenseMachine
with_nest n m = record m { nest = n }

pub knows_nest : (m : DenseMachine) (n : Nest) (us : List Given) → nest.game_of n ≡ game_of m → Knows m us → Knows (with_nest n m) us
knows_nest m n us e h = record {
  made = record { closed = h.made.closed ∙ sym e; wishes = subst (λ g. TracksAll g m.wishes) (sym e) h.made.wishes; boxes = h.made.boxes ∙ sym e };
  given = subst (λ g. StandsFor g us m.freedom) (sym e) h.given;
  order = h.order;
}

-- what a nest tells
pub tells_by : (m : DenseMachine) (n : Nest) (us : List Given) (p : Option Ledger) → nest.game_of n ≡ game_of m → Knows m us → nest.TellsOf n us m.positions.boxes p → TellsOf (with_nest n m) p
tells_by m n us None e k h = h
tells_by m n us (Some d) e k h =
    let same : d.given ≡ us = given_at n n.due us m.positions.boxes d h in
    record {
      knows = subst (Knows (with_nest n m)) (sym same) (knows_nest m n us e k);
      tells = subst (λ u. nest.Tells n u m.positions.boxes d) (sym same) h;
    }

pub part_by : (m : DenseMachine) (n : Nest) (us : List Given) (d : Ledger) → nest.game_of n ≡ game_of m → Knows m us → nest.IsPart n us m.positions.boxes d → IsPart (with_nest n m) d
part_by m n us d e k h =
    let same = h.keeps.given in
    record {
      knows = subst (Knows (with_nest n m)) (sym same) (knows_nest m n us e k);
      part = subst (λ u. nest.IsPart n u m.positions.boxes d) (sym same) h;
    }

pub part_held : (m : DenseMachine) (s : Held) (d : Ledger) → Follows m.nest.remains s → is_box_of (game_of m) s.box ≡ true → IsPart m d → IsPart (with_remains s m) d
part_held m s d f b h = part_by m (at_held s m.nest) d.given d refl h.knows (part_follows m.nest s d.given m.positions.boxes d f b h.part)

pub node_held : (m : DenseMachine) (s : Held) (e : Entry) (d : Ledger) → IsSameHeld m.nest.remains s → IsNode m e d → IsNode (with_remains s m) e d
node_held m s e d k h =
    record { knows = knows_nest m (at_held s m.nest) d.given refl h.knows; node = node_same m.nest s d.given m.positions.boxes e d k h.node }

-- more of the own tree is due
pub told_part : (m : DenseMachine) (b : Bool) (d : Ledger) → IsPart m d → Tells (with_due (due.Part b) m) (record d { due = part_due (here_in m b) })
told_part m b d h = record {
  knows = knows_nest m (due_to (due.Part b) m.nest) d.given refl h.knows;
  tells = (refl, part_due_to m.nest (due.Part b) d.given m.positions.boxes d (part_due (here_in m b)) h.part);
}

-- nothing is told where a line was out of place
pub refuses : (m : DenseMachine) (b : Bool) (d : Ledger) → b ≡ false → m.nest.due ≡ due.Wrong → TellsOf m (only_ledger b d)
refuses m b d e w = subst (λ b. TellsOf m (only_ledger b d)) (sym e) w

pub accepts : (m : DenseMachine) (b : Bool) (d : Ledger) → b ≡ true → Tells m d → TellsOf m (only_ledger b d)
accepts m b d e h = subst (λ b. TellsOf m (only_ledger b d)) (sym e) h

-- nothing more was seen
pub seen_none : (d : Ledger) → record d { own = with_seen [] d.own } ≡ d
seen_none d = ap (λ xs. record d { own = record (d.own) { seen = xs } }) (append-nil d.own.seen)

-- ---- where a part ends
ended_own : (s : Setting) (d : Ledger) (o x : Own) (fs : List Frame) → part_ended s (record d { own = x }) o fs ≡ part_ended s d o fs
ended_own s d o x [] = refl
ended_own s d o x (forked b ∷ fs) = refl
ended_own s d o x (waiting up ∷ fs) =
    ended_own s (record d { known = ledger.known_settled o.entry (ledger.own_verdict s o) d.known }) (with_seen (ledger.leaf_seen o.entry.chosen (ledger.own_verdict s o)) up) x fs

abbrev pub NestStays : Nest → Nest → (Own → Own) → Type 0
NestStays m n f = goes.PartStays m n (λ d. record d { own = f d.own })

abbrev pub NestEnds : Nest → Nest → Type 0
NestEnds m n = goes.PartGoes m n (λ d. Some (part_ended (setting_of (nest.game_of m) d) d d.own d.frames))

pub ends_with : (m : DenseMachine) (n o : Nest) (f : Own → Own) (d : Ledger) → nest.game_of n ≡ game_of m → nest.game_of o ≡ nest.game_of n → NestStays m.nest n f → NestEnds n o → IsPart m d →
    Tells (with_nest o m) (part_ended (setting_of (game_of m) d) d (f d.own) d.frames)
ends_with m n o f d e e2 stays ends h =
    let there = stays d.given m.positions.boxes d h.part in
    let over = ends d.given m.positions.boxes (record d { own = f d.own }) there in
    let here : nest.Tells o d.given m.positions.boxes (part_ended (setting_of (game_of m) d) (record d { own = f d.own }) (f d.own) d.frames) =
    subst (λ g. nest.Tells o d.given m.positions.boxes (part_ended (setting_of g d) (record d { own = f d.own }) (f d.own) d.frames)) e over in
    let right = subst (nest.Tells o d.given m.positions.boxes) (ended_own (setting_of (game_of m) d) d (f d.own) (f d.own) d.frames) here in
    tells_by m o d.given (Some (part_ended (setting_of (game_of m) d) d (f d.own) d.frames)) (e2 ∙ e) h.knows right
