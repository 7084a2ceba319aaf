use Rattle.std.proofs.Common.{◌∙◌, sym, ap, true, Some, ◌∷◌}
use Rattle.std.proofs.lemmas.Bool.{and_parts}
use Rattle.qc_model.specs.Domains.{Box, has_empty, declared_box}
use Rattle.dense_tree.specs.Place.{place_below}
use Rattle.dense_tree.specs.InPlace.{next_placed, place_taken}
use Rattle.dense_tree.specs.Tuples.{is_tuple_of}
use Rattle.dense_ledger.specs.Ledger.{setting_of, node_due, entry_at, waiting}
use Rattle.dense_check.specs.declared.machine.DenseMachine.{DenseMachine}
use Rattle.dense_check.specs.Telling.{game_of, PartGoes, with_remains, here_in}
use Rattle.dense_check.proofs.Going.{part_held}
use Rattle.dense_check.proofs.Stepping.{here_at}
use Rattle.dense_check.proofs.Ending.{always, on_ok, box_there, chosen_refused, chosen_goes, next_full, box_few}
use Rattle.dense_check.proofs.machine.DenseMachine.chosen_line.Goals as goal

pub go_below-requires-clause-part : goal.go_below-requires-clause-part
go_below-requires-clause-part c = (c.requires.part.0, part_held c.args.self.now c.choose.new.remains c.requires.part.0 c.choose.ensures.past (c.choose.ensures.fewer (declared_box (game_of c.args.self.now)) (box_there c.args.self.now c.requires.part)) c.requires.part.1)

pub go_below-requires-clause-full : goal.go_below-requires-clause-full
go_below-requires-clause-full c =
    let d = c.requires.part.0 in
    let next = (and_parts (is_tuple_of (game_of c.args.self.now) c.args.self.now.nest.entry.spot.number c.args.self.now.nest.remains.box c.args.tuple.now) (next_placed (setting_of (game_of c.args.self.now) d) (place_taken (setting_of (game_of c.args.self.now) d) c.args.tuple.now (here_in c.args.self.now c.args.bounded))) (sym (c.choose.ensures.placed (setting_of (game_of c.args.self.now) d) (here_in c.args.self.now c.args.bounded) (here_at c.args.self.now d c.args.bounded c.scope-i.result.0 c.scope-i.ensures)) ∙ c.if-not-choose.false)).1 in
    ap (λ (b : Box). has_empty b) (c.choose.ensures.content c.if-not-choose.false (setting_of (game_of c.args.self.now) d) (here_in c.args.self.now c.args.bounded) (here_at c.args.self.now d c.args.bounded c.scope-i.result.0 c.scope-i.ensures)) ∙ next_full (setting_of (game_of c.args.self.now) d) (place_taken (setting_of (game_of c.args.self.now) d) c.args.tuple.now (here_in c.args.self.now c.args.bounded)) next

pub returns-then-not-choose-clause-goes : goal.returns-then-not-choose-clause-goes
returns-then-not-choose-clause-goes c = always c.refuse.result (λ t gathered. chosen_refused c.args.self.now c.args.bounded c.args.tuple.now t (box_few c.args.self.now c.requires.part c.known.ensures) gathered c.refuse.new.self (ap (λ (z : DenseMachine). z.nest.due) c.refuse.ensures) (λ d h. sym (c.choose.ensures.placed (setting_of (game_of c.args.self.now) d) (here_in c.args.self.now c.args.bounded) (here_at c.args.self.now d c.args.bounded c.scope-i.result.0 c.scope-i.ensures)) ∙ c.if-not-choose.true))

pub returns-clause-goes : goal.returns-clause-goes
returns-clause-goes c =
    on_ok c.go_below.result
    (λ (f : PartGoes (with_remains c.choose.new.remains c.args.self.now) c.go_below.new.self (λ d. Some (record d { due = node_due (entry_at (place_below (setting_of (game_of c.args.self.now) d) (here_in (with_remains c.choose.new.remains c.args.self.now) c.args.bounded)) true); frames = waiting d.own ∷ d.frames }))) t gathered.
    chosen_goes c.args.self.now c.args.bounded c.args.tuple.now t (box_few c.args.self.now c.requires.part c.known.ensures) gathered c.go_below.new.self c.choose.new.remains c.choose.ensures.past (c.choose.ensures.fewer (declared_box (game_of c.args.self.now)) (box_there c.args.self.now c.requires.part)) (λ d h. sym (c.choose.ensures.placed (setting_of (game_of c.args.self.now) d) (here_in c.args.self.now c.args.bounded) (here_at c.args.self.now d c.args.bounded c.scope-i.result.0 c.scope-i.ensures)) ∙ c.if-not-choose.false) (λ d h. c.choose.ensures.content c.if-not-choose.false (setting_of (game_of c.args.self.now) d) (here_in c.args.self.now c.args.bounded) (here_at c.args.self.now d c.args.bounded c.scope-i.result.0 c.scope-i.ensures)) f)
    c.go_below.ensures.goes
