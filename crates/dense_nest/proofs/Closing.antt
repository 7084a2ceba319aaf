-- A part that has ended: at a branch, or as the end of the scope's own tree.
use Rattle.std.proofs.Common.{◌≡◌, ℕ, ◌≤◌, Bool, true, false, List, [], ◌∷◌, refl, sym, ap, ◌∙◌, subst, arith, Some, Ok, Err}
use Rattle.std.specs.Prelude.{IfOk}
use Rattle.std.specs.declared.result.Result.{Result}
use Rattle.qc_model.specs.Content.{Game}
use Rattle.qc_model.specs.Domains.{Box}
use Rattle.model_arguments.specs.Asked.{is_box_of}
use Rattle.joins.specs.declared.joins.Joins.{Joins}
use Rattle.fd_store.specs.Held.{Held, trail_len, past_box, IsUndone}
use Rattle.dense_tree.specs.Tree.{Given}
use Rattle.dense_tree.specs.Place.{Setting}
use Rattle.dense_ledger.specs.Ledger.{Ledger, Own, Frame, waiting, forked, Entry as EntryTold, ended_due, no_own, with_seen, leaf_seen, known_settled, own_verdict, own_value, part_ended, setting_of}
use Rattle.dense_nest.specs.declared.place.Entry.{Entry}
use Rattle.dense_nest.specs.declared.place.Fork.{Fork}
use Rattle.dense_nest.specs.declared.place.Open.{Open}
use Rattle.dense_nest.specs.declared.place.Open.TheVariants.{Waiting, Forked}
use Rattle.dense_nest.specs.declared.place.Due.TheVariants as due
use Rattle.dense_nest.specs.declared.told.Tally.{Tally}
use Rattle.dense_nest.specs.declared.nest.Nest.{Nest}
use Rattle.dense_nest.specs.Opened.{IsUnforked}
use Rattle.dense_nest.specs.Places.{entry_told, IsEntry}
use Rattle.dense_nest.specs.Telling.{game_of, AreFrames, IsNamed, AreNamed, IsBelow, IsPart, IsBack, Tells}
use Rattle.dense_nest.specs.Goes.{InPart, PartGoes}
use Rattle.dense_nest.specs.Ends.{given_to, IsTreeEnd, Finishes, LeftTo, Leaves, ComesTo, PartEnds}
use Rattle.dense_nest.proofs.Frames.{entry_same, entry_told_same, own_same, frames_same}

-- what is read and what is open in a ledger don't matter where a part ends, but as they are handed in
pub part_same : (s : Setting) (d : Ledger) (p : Own) (gs : List Frame) (o : Own) (fs : List Frame) → part_ended s (record d { own = p; frames = gs }) o fs ≡ part_ended s d o fs
part_same s d p gs o [] = refl
part_same s d p gs o (forked b ∷ fs) = refl
part_same s d p gs o (waiting up ∷ fs) =
    part_same s (record d { known = known_settled o.entry (own_verdict s o) d.known }) p gs (with_seen (leaf_seen o.entry.chosen (own_verdict s o)) up) fs

abbrev with_remains : Held → Nest → Nest
with_remains t m = record m { remains = t }

-- ---- the scope's own tree
-- no branch stands between, so that the trail up to the node's mark is enough
unforked_frames : (g : Game) (s : Held) (js : Joins) (ts : List Tally) (e : Entry) (n m : ℕ) (os : List Open) (fs : List Frame) → IsUnforked os → AreFrames g s js ts e n os fs → AreFrames g s js ts e m os fs × IsBelow fs
unforked_frames g s js ts e n m [] [] u f = (tt, tt)
unforked_frames g s js ts e n m [] (x ∷ fs) u f = absurd f
unforked_frames g s js ts e n m (Waiting up ∷ os) [] u f = absurd f
unforked_frames g s js ts e n m (Waiting up ∷ os) (waiting o ∷ fs) u f = (f, tt)
unforked_frames g s js ts e n m (Waiting up ∷ os) (forked b ∷ fs) u f = absurd f
unforked_frames g s js ts e n m (Forked k ∷ os) fs u f = absurd u

module _ (m : Nest) (t : Held) (undone : IsUndone m.entry.mark.at m.remains t) (content : t.box ≡ past_box m.remains m.entry.mark.at) (unforked : IsUnforked m.open) where
  told_same : entry_told (game_of m) t m.entry ≡ entry_told (game_of m) m.remains m.entry
  told_same = entry_told_same (game_of m) m.remains t m.entry.mark.at m.entry (omega arith) undone.boxes

  pub tree_end : (us : List Given) (boxes : List Box) (d : Ledger) → IsPart m us boxes d → IsTreeEnd (with_remains t m) m.entry us boxes d
  tree_end us boxes d p =
      let g = game_of m in
      let e = m.entry in
      let k = p.keeps in
      let len = undone.len in
      let enough : e.mark.at ≤ trail_len t = omega (arith, len) in
      let f = unforked_frames g m.remains m.joins m.tallies.items e (trail_len m.remains) e.mark.at m.open d.frames unforked p.frames in
      let entry : IsEntry g m.remains e.mark.at e = record { inside = p.entry.inside; above = p.entry.above; horizon = p.entry.horizon; at = omega arith; box = p.entry.box } in
      record {
        node = record {
          keeps = record {
            made = record { joined = k.made.joined; lists = k.made.lists; values = k.made.values; numbers = k.made.numbers; tallies = k.made.tallies };
            given = k.given;
            known = k.known;
            kept = k.kept;
            names = k.names;
            turns = k.turns;
            unfinished = k.unfinished;
          };
          entry = entry_same g m.remains t e.mark.at (trail_len t) e enough undone.boxes entry;
          here = content ∙ sym (undone.boxes e.mark.at (omega arith));
          named = subst (λ (x : EntryTold). IsNamed d.known x.named x.begin) (p.own.entry ∙ sym told_same) p.named;
          frames = frames_same g m.remains t m.joins m.joins m.tallies.items m.tallies.items e e.mark.at e.mark.at m.open d.frames (omega arith) undone.boxes (λ j xs l s. s) (λ j l. refl) (omega arith) f.0;
          below = f.1;
        };
        own = own_same g m.remains t m.joins m.joins m.tallies.items m.tallies.items e.mark.at e d.own (omega arith) undone.boxes (λ s. s) refl p.own;
      }

  -- and what it leads to
  module _ (m3 m4 : Nest) (finishes : Finishes (with_remains t m) m.entry m3) (remains : m3.remains ≡ t) (same3 : game_of m3 ≡ game_of m) (same4 : game_of m4 ≡ game_of m3) where
    told_there : entry_told (game_of m) m.remains m.entry ≡ entry_told (game_of m3) m3.remains m.entry
    told_there = sym told_same ∙ (ap (λ (s : Held). entry_told (game_of m) s m.entry) (sym remains) ∙ ap (λ (g : Game). entry_told g m3.remains m.entry) (sym same3))

    pub ends : (up : Bool) → Leaves m3 m.entry m4 up → PartEnds m m4 up
    ends up leaves us boxes d p =
        let s = given_to m us in
        let o = d.own in
        let f = finishes us boxes d (tree_end us boxes d p) in
        let l = leaves us boxes (own_verdict s o) d o.entry (p.own.entry ∙ told_there) f.0 in
        by up d.frames f.1 l
      where
        by : (up : Bool) (fs : List Frame) → m3.own ≡ own_value (given_to m us) d.own →
            LeftTo m4 us boxes (record d { known = known_settled d.own.entry (own_verdict (given_to m us) d.own) d.known }) d.own.entry.chosen (own_verdict (given_to m us) d.own) m3.own up fs →
            ComesTo m4 us boxes (part_ended (given_to m us) d d.own fs) up
        by true [] own l = absurd l
        by true (forked b ∷ fs) own l = absurd l
        by true (waiting above ∷ fs) own l =
            let s = given_to m us in
            let v = own_verdict s d.own in
            let c : Ledger = record d { known = known_settled d.own.entry v d.known } in
            let q = with_seen (leaf_seen d.own.entry.chosen v) above in
            let next : Ledger = record c { own = q; frames = fs } in
            (next, l, sym (part_same s c q fs q fs) ∙ ap (λ (g : Game). part_ended (record { game = g; given = us }) next q fs) (sym (same4 ∙ same3)))
        by false [] own l =
            let v = own_verdict (given_to m us) d.own in
            let ks = known_settled d.own.entry v d.known in
            subst (λ (g : Game). Tells m4 us boxes (record d { own = no_own g; frames = []; known = ks; due = ended_due v (own_value (given_to m us) d.own) })) (same4 ∙ same3)
            (subst (λ w. Tells m4 us boxes (record d { own = no_own (game_of m4); frames = []; known = ks; due = ended_due v w })) own l)
        by false (waiting above ∷ fs) own l = absurd l
        by false (forked b ∷ fs) own l = absurd l

-- ---- the branch that was opened last
module _ (m : Nest) (k : Fork) (os : List Open) (t : Held) (top : m.open ≡ Forked k ∷ os) (undone : IsUndone k.mark.at m.remains t) (content : t.box ≡ past_box m.remains k.mark.at) where
  abbrev back_there : Nest
  back_there = record m { remains = t; due = due.Case }

  pub back : PartEnds m back_there false
  back us boxes d p = by d.frames (subst (λ xs. AreFrames (game_of m) m.remains m.joins m.tallies.items m.entry (trail_len m.remains) xs d.frames) top p.frames) p.keeps.names
    where
      by : (fs : List Frame) → AreFrames (game_of m) m.remains m.joins m.tallies.items m.entry (trail_len m.remains) (Forked k ∷ os) fs → AreNamed d.known fs → ComesTo back_there us boxes (part_ended (given_to m us) d d.own fs) false
      by [] f names = absurd f
      by (waiting o ∷ fs) f names = absurd f
      by (forked b ∷ fs) f names =
          let g = game_of m in
          let e = m.entry in
          let kept = p.keeps in
          let h = f.1 in
          let len = undone.len in
          let after = h.after in
          let enough : k.mark.at ≤ trail_len t = omega (arith, len) in
          let entry : IsEntry g m.remains k.mark.at e = record { inside = p.entry.inside; above = p.entry.above; horizon = p.entry.horizon; at = after; box = p.entry.box } in
          let frames : AreFrames g m.remains m.joins m.tallies.items e k.mark.at (Forked k ∷ os) (forked b ∷ fs) = (f.0, record { after = after; at = omega arith; variable = h.variable; box = h.box }, f.2) in (
            refl,
            record {
              part = record {
                keeps = record {
                  made = record { joined = kept.made.joined; lists = kept.made.lists; values = kept.made.values; numbers = kept.made.numbers; tallies = kept.made.tallies };
                  given = kept.given;
                  known = kept.known;
                  kept = kept.kept;
                  names = names;
                  turns = kept.turns;
                  unfinished = kept.unfinished;
                };
                entry = entry_same g m.remains t k.mark.at (trail_len t) e enough undone.boxes entry;
                own = own_same g m.remains t m.joins m.joins m.tallies.items m.tallies.items k.mark.at e d.own after undone.boxes (λ s. s) refl p.own;
                named = p.named;
                frames = subst (λ xs. AreFrames g t m.joins m.tallies.items e (trail_len t) xs (forked b ∷ fs)) (sym top)
                    (frames_same g m.remains t m.joins m.joins m.tallies.items m.tallies.items e k.mark.at (trail_len t) (Forked k ∷ os) (forked b ∷ fs) enough undone.boxes (λ j xs l s. s) (λ j l. refl) after frames);
                box = subst (λ c. is_box_of g c ≡ true) (sym content) h.box.declared;
              };
              back = subst (IsBack t) (sym top) (content ∙ sym (undone.boxes k.mark.at (omega arith)));
            },
          )

-- ---- one after another
pub ends_then : (a b c : Nest) (up : Bool) → PartEnds a b true → PartEnds b c up → PartEnds a c up
ends_then a b c up f g us boxes d p =
    let h = f us boxes d p in
    subst (λ q. ComesTo c us boxes q up) (sym h.2) (g us boxes h.0 h.1)

pub some_part : (a b : Nest) → InPart a → PartEnds a b true → InPart b
some_part a b p f = let h = f p.0 p.1 p.2 p.3 in (p.0, p.1, h.0, h.1)

pub goes_of : (a b : Nest) → PartEnds a b false → PartGoes a b (λ d. Some (part_ended (setting_of (game_of a) d) d d.own d.frames))
goes_of a b f us boxes d p =
    subst (λ ws. Tells b us boxes (part_ended (record { game = game_of a; given = ws }) d d.own d.frames)) (sym p.keeps.given) (f us boxes d p)
