-- A node that is left for the own tree of the scope before.
use Rattle.std.proofs.Common.{◌≡◌, ℕ, suc, Bool, true, false, List, [], ◌∷◌, refl, sym, ap, ◌∙◌, subst, arith}
use Rattle.qc_model.specs.Content.{Game}
use Rattle.qc_model.specs.Domains.{Box}
use Rattle.qc_model.specs.Verdict.{Verdict}
use Rattle.model_arguments.specs.Asked.{is_box_of}
use Rattle.joins.specs.Joins.{game_of as game_joined, IsLong, out_of}
use Rattle.joins.specs.Seen.{verdict_of}
use Rattle.joins.specs.Sizes.{AreLong}
use Rattle.fd_store.specs.Held.{trail_len}
use Rattle.dense_tree.specs.Tree.{Given}
use Rattle.dense_ledger.specs.Ledger.{Ledger, Frame, waiting, forked, Entry as EntryTold, with_seen, leaf_seen, known_settled}
use Rattle.dense_nest.specs.declared.place.Entry.{Entry}
use Rattle.dense_nest.specs.declared.place.Open.{Open}
use Rattle.dense_nest.specs.declared.place.Open.TheVariants.{Waiting}
use Rattle.dense_nest.specs.declared.nest.Nest.{Nest}
use Rattle.dense_nest.specs.Telling.{game_of, IsOwn, AreFrames, AreNamed}
use Rattle.dense_nest.specs.Goes.{IsOver}
use Rattle.dense_nest.specs.Ends.{SeesMore, Settles, LeftTo, Leaves}
use Rattle.dense_nest.proofs.Frames.{entry_same, frames_same}

leaf_long : (g : Game) (i : ℕ) (chosen : Bool) (v : Verdict) → IsLong g (suc i) v → AreLong g i (leaf_seen chosen v)
leaf_long g i false v h = (h, tt)
leaf_long g i true v h = (h, tt)

abbrev with_open : List Open → Nest → Nest
with_open os m = record m { «open» = os }

module _ (m m1 m3 : Nest) (e up : Entry) (os : List Open) (settles : Settles m e m1) (top : m1.open ≡ Waiting up ∷ os)
    (sees : SeesMore up.spot.number (leaf_seen e.chosen (verdict_of m1.found (out_of m1.joins))) (with_open os m1) m3) where
  abbrev now : Nest
  now = record m1 { «open» = os; joins = m3.joins; tallies = m3.tallies; entry = up }

  -- the scope before goes on
  goes_on : (us : List Given) (boxes : List Box) (v : Verdict) (d : Ledger) (chosen : Bool) (fs : List Frame) → e.chosen ≡ chosen → IsOver m1 e us boxes v d → AreFrames (game_of m1) m1.remains m1.joins m1.tallies.items e e.mark.at (Waiting up ∷ os) fs →
      AreNamed d.known fs → LeftTo now us boxes d chosen v m.own true fs
  goes_on us boxes v d chosen [] same h f names = absurd f
  goes_on us boxes v d chosen (forked b ∷ fs) same h f names = absurd f
  goes_on us boxes v d chosen (waiting o ∷ fs) same h f names =
      let g = game_of m1 in
      let i = up.spot.number in
      let k = h.node.keeps in
      let at = h.node.entry.at in
      let number : e.spot.number ≡ suc i = f.2 in
      let long : IsLong g (suc i) v = subst (λ j. IsLong g j v) number h.long in
      let seen : leaf_seen e.chosen (verdict_of m1.found (out_of m1.joins)) ≡ leaf_seen chosen v = ap (leaf_seen e.chosen) (sym h.verdict) ∙ ap (λ b. leaf_seen b v) same in
      let leaves : AreLong g i (leaf_seen e.chosen (verdict_of m1.found (out_of m1.joins))) = subst (AreLong g i) (sym seen) (leaf_long g i chosen v long) in
      let own_joined : IsOwn (game_joined m1.joins) m1.remains m3.joins m3.tallies.items up (with_seen (leaf_seen e.chosen (verdict_of m1.found (out_of m1.joins))) o) =
      sees.own m1.remains up o refl (subst (λ (u : Game). AreLong u i (leaf_seen e.chosen (verdict_of m1.found (out_of m1.joins)))) (sym k.made.joined) leaves)
      (subst (λ (u : Game). IsOwn u m1.remains m1.joins m1.tallies.items up o) (sym k.made.joined) f.0) in
      let own : IsOwn g m1.remains m3.joins m3.tallies.items up (with_seen (leaf_seen chosen v) o) =
      subst (λ xs. IsOwn g m1.remains m3.joins m3.tallies.items up (with_seen xs o)) seen (subst (λ (u : Game). IsOwn u m1.remains m3.joins m3.tallies.items up (with_seen (leaf_seen e.chosen (verdict_of m1.found (out_of m1.joins))) o)) k.made.joined own_joined) in
      record {
        keeps = record {
          made = record { joined = sees.joined ∙ k.made.joined; lists = k.made.lists; values = k.made.values; numbers = k.made.numbers; tallies = sees.count ∙ k.made.tallies };
          given = k.given;
          known = k.known;
          kept = k.kept;
          names = names.1;
          turns = k.turns;
          unfinished = k.unfinished;
        };
        entry = entry_same g m1.remains m1.remains e.mark.at (trail_len m1.remains) up at (λ j l. refl) f.1;
        own = own;
        named = names.0;
        frames = frames_same g m1.remains m1.remains m1.joins m3.joins m1.tallies.items m3.tallies.items up e.mark.at (trail_len m1.remains) os fs at (λ j l. refl)
            (λ j xs l s. sees.joins j xs (λ eq. absurd (omega (arith, l, eq))) s) (λ j l. sees.tallies j (λ eq. absurd (omega (arith, l, eq)))) f.1.at f.3;
        box = subst (λ b. is_box_of g b ≡ true) (sym h.node.here) h.node.entry.box.declared;
      }

  pub left : Leaves m e (record m3 { entry = up }) true
  left us boxes v d t is h =
      let ks = known_settled t v d.known in
      let over = settles us boxes v d t is h in
      subst (λ (x : Nest). LeftTo (record x { entry = up }) us boxes (record d { known = ks }) t.chosen v m.own true d.frames) (sym sees.rest)
      (goes_on us boxes v (record d { known = ks }) t.chosen d.frames (sym (ap (λ (x : EntryTold). x.chosen) is)) over
      (subst (λ xs. AreFrames (game_of m1) m1.remains m1.joins m1.tallies.items e e.mark.at xs d.frames) top over.node.frames) over.node.keeps.names)
