-- A node without an own tree that has come to what was found.
use Rattle.std.proofs.Common.{◌≡◌, true, false, None, Some, List, [], ◌∷◌, refl, sym, ap, ◌∙◌, subst}
use Rattle.qc_model.specs.Content.{Game}
use Rattle.qc_model.specs.Domains.{Box}
use Rattle.qc_model.specs.Verdict.{Verdict}
use Rattle.joins.specs.Joins.{out_of}
use Rattle.joins.specs.Seen.{verdict_of}
use Rattle.dense_tree.specs.Tree.{Given}
use Rattle.dense_tree.specs.Place.{Setting, Place}
use Rattle.dense_tree.specs.Verdicts.{loosened}
use Rattle.dense_ledger.specs.Ledger.{Ledger, Frame, waiting, forked, Entry as EntryTold, setting_of, no_own, ended_due, with_seen, leaf_seen, known_settled, part_ended, node_ended}
use Rattle.dense_nest.specs.declared.place.Entry.{Entry}
use Rattle.dense_nest.specs.declared.nest.Nest.{Nest}
use Rattle.dense_nest.specs.Places.{entry_told}
use Rattle.dense_nest.specs.Telling.{game_of, IsPart, Tells, TellsOf}
use Rattle.dense_nest.specs.Goes.{IsOver, PartGoes}
use Rattle.dense_nest.specs.Ends.{given_to, HasPlace, LeftTo, Leaves}
use Rattle.dense_nest.proofs.Endings.{long_loosened}
use Rattle.dense_nest.proofs.Finishing.{still_node}
use Rattle.dense_nest.proofs.Closing.{part_same}

abbrev pub without_own : Nest → Nest
without_own m = record m { own = None }

module _ (m m2 : Nest) (e : Entry)
    (loosens : (us : List Given) (p : Place) → HasPlace (without_own m) e.spot.number p → p.loose ≡ e.spot.loose → verdict_of m2.found (out_of m2.joins) ≡ loosened (given_to (without_own m) us) p (verdict_of m.found (out_of m.joins)))
    (rest : m2 ≡ record (without_own m) { found = m2.found }) where
  abbrev told : EntryTold
  told = entry_told (game_of m) m.remains e

  told_same : told ≡ entry_told (game_of m2) m2.remains e
  told_same = sym (ap (λ (x : Nest). entry_told (game_of x) x.remains e) rest)

  pub over : (us : List Given) (boxes : List Box) (v : Verdict) (d : Ledger) → IsOver m e us boxes v d → IsOver m2 e us boxes (loosened (given_to m us) told.place v) d
  over us boxes v d h =
      let g = game_of m in
      let w = loosened (given_to m us) told.place v in
      let k = h.node.keeps in
      let at : HasPlace (without_own m) e.spot.number told.place = record { number = refl; list = refl; box = sym h.node.here } in
      let found : w ≡ verdict_of m2.found (out_of m.joins) =
      ap (loosened (given_to m us) told.place) h.verdict ∙ (sym (loosens us told.place at refl) ∙ ap (λ (x : Nest). verdict_of m2.found (out_of x.joins)) rest) in
      let node = still_node m e m.values m.joins m2.found None (record { joined = k.made.joined; lists = k.made.lists; values = k.made.values; numbers = k.made.numbers; tallies = k.made.tallies }) (λ j xs l s. s) refl us boxes d h.node in
      subst (λ (x : Nest). IsOver x e us boxes w d) (sym rest) (record { node = node; verdict = found; long = long_loosened g e.spot.number (given_to m us) told.place v h.long })

  module _ (m3 : Nest) (same : game_of m3 ≡ game_of m2) where
    same_game : game_of m3 ≡ game_of m
    same_game = same ∙ ap game_of rest

    -- no scope stands before
    pub ended : Leaves m2 e m3 false → (us : List Given) (boxes : List Box) (v : Verdict) (d : Ledger) → IsOver m e us boxes v d →
        TellsOf m3 us boxes (Some (node_ended (setting_of (game_of m) d) d told (loosened (setting_of (game_of m) d) told.place v) d.frames))
    ended leaves us boxes v d h =
        subst (λ ws. let s : Setting = record { game = game_of m; given = ws } in Tells m3 us boxes (node_ended s d told (loosened s told.place v) d.frames)) (sym h.node.keeps.given)
        (by d.frames (leaves us boxes (loosened (given_to m us) told.place v) d told told_same (over us boxes v d h)))
      where
        by : (fs : List Frame) → LeftTo m3 us boxes (record d { known = known_settled told (loosened (given_to m us) told.place v) d.known }) told.chosen (loosened (given_to m us) told.place v) m2.own false fs →
            Tells m3 us boxes (node_ended (given_to m us) d told (loosened (given_to m us) told.place v) fs)
        by [] l =
            let w = loosened (given_to m us) told.place v in
            let ks = known_settled told w d.known in
            subst (λ (g : Game). Tells m3 us boxes (record d { own = no_own g; frames = []; known = ks; due = ended_due w None })) same_game
            (subst (λ o. Tells m3 us boxes (record d { own = no_own (game_of m3); frames = []; known = ks; due = ended_due w o })) (ap (λ (x : Nest). x.own) rest) l)
        by (waiting up ∷ fs) l = absurd l
        by (forked b ∷ fs) l = absurd l

    -- the own tree of the scope before goes on, where a part has ended with the node
    module _ (leaves : Leaves m2 e m3 true) where
      some_part : (us : List Given) (boxes : List Box) (v : Verdict) (d : Ledger) (fs : List Frame) →
          LeftTo m3 us boxes (record d { known = known_settled told (loosened (given_to m us) told.place v) d.known }) told.chosen (loosened (given_to m us) told.place v) m2.own true fs →
          (c : Ledger) × IsPart m3 us boxes c × (node_ended (given_to m us) d told (loosened (given_to m us) told.place v) fs ≡ part_ended (given_to m us) c c.own c.frames)
      some_part us boxes v d [] l = absurd l
      some_part us boxes v d (forked b ∷ fs) l = absurd l
      some_part us boxes v d (waiting up ∷ fs) l =
          let s = given_to m us in
          let w = loosened s told.place v in
          let c : Ledger = record d { known = known_settled told w d.known } in
          let q = with_seen (leaf_seen told.chosen w) up in
          (record c { own = q; frames = fs }, l, sym (part_same s c q fs q fs))

      pub part : (us : List Given) (boxes : List Box) (v : Verdict) (d : Ledger) → IsOver m e us boxes v d →
          (c : Ledger) × IsPart m3 us boxes c × (node_ended (given_to m us) d told (loosened (given_to m us) told.place v) d.frames ≡ part_ended (given_to m us) c c.own c.frames)
      part us boxes v d h = some_part us boxes v d d.frames (leaves us boxes (loosened (given_to m us) told.place v) d told told_same (over us boxes v d h))

      pub goes_on : (m4 : Nest) → PartGoes m3 m4 (λ c. Some (part_ended (setting_of (game_of m3) c) c c.own c.frames)) → (us : List Given) (boxes : List Box) (v : Verdict) (d : Ledger) → IsOver m e us boxes v d →
          TellsOf m4 us boxes (Some (node_ended (setting_of (game_of m) d) d told (loosened (setting_of (game_of m) d) told.place v) d.frames))
      goes_on m4 goes us boxes v d h =
          let p = part us boxes v d h in
          let c = p.0 in
          let tells : Tells m4 us boxes (part_ended (setting_of (game_of m3) c) c c.own c.frames) = goes us boxes c p.1 in
          let here : Tells m4 us boxes (part_ended (given_to m us) c c.own c.frames) =
          subst (λ ws. Tells m4 us boxes (part_ended (record { game = game_of m; given = ws }) c c.own c.frames)) p.1.keeps.given
          (subst (λ (g : Game). Tells m4 us boxes (part_ended (record { game = g; given = c.given }) c c.own c.frames)) same_game tells) in
          subst (λ ws. let s : Setting = record { game = game_of m; given = ws } in Tells m4 us boxes (node_ended s d told (loosened s told.place v) d.frames)) (sym h.node.keeps.given)
          (subst (Tells m4 us boxes) (sym p.2) here)
