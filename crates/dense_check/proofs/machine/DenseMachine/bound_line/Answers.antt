use Rattle.std.proofs.Common.{◌∙◌, sym, ap, subst, rules}
use Rattle.std.specs.Prelude.{is_some}
use Rattle.std.proofs.lemmas.Int.{to_z-of_z}
use mir.Val.{SFits}
use mir.Syntax.{w64}
use Rattle.qc_model.specs.Domains.{declared_box}
use Rattle.dense_tree.specs.Lines.{bound_line}
use Rattle.dense_tree.specs.Steps.{tracked}
use Rattle.dense_check.proofs.Small.{mark_small}
use Rattle.dense_ledger.specs.Ledger.{setting_of, part_line}
use Rattle.dense_nest.specs.declared.nest.Nest.{Nest}
use Rattle.dense_check.specs.Telling.{game_of, PartGoes, here_in}
use Rattle.dense_check.proofs.Going.{with_nest}
use Rattle.dense_check.proofs.Stepping.{here_at, bound_goes, bound_refused}
use Rattle.dense_check.proofs.Ending.{nest_part_held, box_there}
use Rattle.dense_check.proofs.machine.DenseMachine.bound_line.Goals as goal

pub add_mark-requires-clause-part : goal.add_mark-requires-clause-part
add_mark-requires-clause-part c = nest_part_held c.args.self.now c.bound.new.remains c.bound.ensures.past (c.bound.ensures.fewer (declared_box (game_of c.args.self.now)) (box_there c.args.self.now c.requires.part)) c.requires.part

pub add_mark-requires-clause-small : goal.add_mark-requires-clause-small
add_mark-requires-clause-small c =
    let lo : SFits w64 c.args.lo = search rules in
    let hi : SFits w64 c.args.hi = search rules in
    let best = c.in-Some.best in
    let fits : SFits w64 best = search rules in
    let d = c.requires.part.0 in
    let h = c.requires.part.1 in
    simp to_z-of_z (mark_small (game_of c.args.self.now) c.args.self.now.nest.remains.box c.args.x.0 c.args.lo c.args.hi best (tracked (setting_of (game_of c.args.self.now) d) (here_in c.args.self.now c.args.bounded)) c.known.ensures h.part.box
    (simp to_z-of_z at (c.in-Some.ensures.marks (game_of c.args.self.now) (setting_of (game_of c.args.self.now) d) (here_in c.args.self.now c.args.bounded) h.knows.made.wishes (here_at c.args.self.now d c.args.bounded c.scope-i.result.0 c.scope-i.ensures))))

pub returns-in_default-clause-goes : goal.returns-in_default-clause-goes
returns-in_default-clause-goes c =
    let lo : SFits w64 c.args.lo = search rules in
    let hi : SFits w64 c.args.hi = search rules in
    bound_refused c.args.self.now (with_nest c.refuse.new.self c.args.self.now) c.args.bounded c.args.x c.args.lo c.args.hi (ap (λ (z : Nest). z.due) c.refuse.ensures) (λ d h. sym (ap is_some c.in_default.is) ∙ simp to_z-of_z at (c.bound.ensures.placed (game_of c.args.self.now) (setting_of (game_of c.args.self.now) d) (here_in c.args.self.now c.args.bounded) h.knows.made.wishes (here_at c.args.self.now d c.args.bounded c.scope-i.result.0 c.scope-i.ensures)))

pub returns-clause-goes : goal.returns-clause-goes
returns-clause-goes c =
    let lo : SFits w64 c.args.lo = search rules in
    let hi : SFits w64 c.args.hi = search rules in
    let best = c.in-Some.best in
    let fits : SFits w64 best = search rules in
    subst (λ (z : Nest). PartGoes c.args.self.now (with_nest z c.args.self.now) (λ d. part_line (setting_of (game_of c.args.self.now) d) d (here_in c.args.self.now c.args.bounded) (bound_line c.args.x c.args.lo c.args.hi))) (sym c.go_on.ensures)
    (bound_goes c.args.self.now c.bound.new.remains c.add_mark.new.self c.args.bounded c.args.x c.args.lo c.args.hi best c.bound.ensures.past (c.bound.ensures.fewer (declared_box (game_of c.args.self.now)) (box_there c.args.self.now c.requires.part)) (simp to_z-of_z at c.add_mark.ensures.stays) c.add_mark.ensures.entry c.add_mark.ensures.remains c.add_mark.ensures.same
    (λ d h. sym (ap is_some c.in-Some.is) ∙ simp to_z-of_z at (c.bound.ensures.placed (game_of c.args.self.now) (setting_of (game_of c.args.self.now) d) (here_in c.args.self.now c.args.bounded) h.knows.made.wishes (here_at c.args.self.now d c.args.bounded c.scope-i.result.0 c.scope-i.ensures)))
    (λ d h. simp to_z-of_z at (c.in-Some.ensures.marks (game_of c.args.self.now) (setting_of (game_of c.args.self.now) d) (here_in c.args.self.now c.args.bounded) h.knows.made.wishes (here_at c.args.self.now d c.args.bounded c.scope-i.result.0 c.scope-i.ensures)))
    (λ d h. simp to_z-of_z at (c.in-Some.ensures.content (game_of c.args.self.now) (setting_of (game_of c.args.self.now) d) (here_in c.args.self.now c.args.bounded) (here_at c.args.self.now d c.args.bounded c.scope-i.result.0 c.scope-i.ensures))))
