use Rattle.std.proofs.Math.Nat.{le_of_lt, le_refl}
use Rattle.std.proofs.Common.{◌*◌}
use Rattle.fd_store.proofs.CellPlaces.{start_fits, place_fits, place_inside, words_few, first_set, further, between, past_start, up_to_fits, one_longer}
use Rattle.std.proofs.Common.{◌∙◌, ◌-◌, sym, ap}
use Rattle.fd_store.specs.Places.{is_set}
use Rattle.fd_store.proofs.MovedEnds.{gone_most}
use Rattle.fd_store.proofs.EndMoves.{takes_lowered}
use Rattle.std.proofs.lemmas.Int.{to_z-of_z}
use mir.Val.{SFits}
use mir.Syntax.{w64}
use Rattle.fd_store.proofs.Cells.{base_fits, recorded}
use Rattle.fd_store.proofs.table.Table.lower.Goals as goal

pub overflow_sub-lowered-2 : goal.overflow_sub-lowered-2
overflow_sub-lowered-2 c = gone_most c.args.self.now.words.items c.args.cell c.args.a c.args.cell.end c.count-gone.result c.requires.right c.count-gone.ensures

pub returns-clause-takes : goal.returns-clause-takes
returns-clause-takes c =
    let q = c.requires in
    let n = c.end_of_set-end.ensures in
    let r = c.replace.ensures in
    let fits : SFits w64 c.args.cell.base = base_fits c.args.self.now.words.items c.args.cell q.right in
    let cells = simp to_z-of_z at r.cells in
    takes_lowered c.args.self.now c.replace.new.self c.args.x c.args.cell c.args.a c.end_of_set-end.result c.count-gone.result
    q.sound q.var q.at q.right q.few q.low q.high n.from n.below
    (sym (ap (λ ws. is_set ws (c.end_of_set-end.result - 1)) c.as_slice.ensures.value) ∙ n.found)
    (λ p h l. sym (ap (λ ws. is_set ws p) c.as_slice.ensures.value) ∙ n.none p h l)
    c.count-gone.ensures r.words cells (r.trail ∙ recorded c.args.self.now.trail.items 0 18446744073709551615 c.args.x c.args.self.now.cells.items c.args.cell _ q.var q.at) r.spare

pub overflow_mul-start : goal.overflow_mul-start
overflow_mul-start c = record { fits = start_fits c.args.self.now.words.items c.args.cell c.requires.right c.requires.few }

pub overflow_add-start : goal.overflow_add-start
overflow_add-start c = record { fits = place_fits c.args.self.now.words.items c.args.cell c.args.cell.first c.requires.right c.requires.few c.requires.right.order }

pub overflow_add-start-2 : goal.overflow_add-start-2
overflow_add-start-2 c = record { fits = place_fits c.args.self.now.words.items c.args.cell c.args.a c.requires.right c.requires.few (le_of_lt c.requires.high) }

pub end_of_set-end-requires-clause-inside : goal.end_of_set-end-requires-clause-inside
end_of_set-end-requires-clause-inside c = place_inside c.args.self.now.words.items c.as_slice.result.now c.args.cell c.args.a c.as_slice.ensures.value c.requires.right (le_of_lt c.requires.high)

pub end_of_set-end-requires-clause-small : goal.end_of_set-end-requires-clause-small
end_of_set-end-requires-clause-small c = words_few c.args.self.now.words.items c.as_slice.result.now c.as_slice.ensures.value c.requires.few

pub end_of_set-end-requires-clause-first : goal.end_of_set-end-requires-clause-first
end_of_set-end-requires-clause-first c = first_set c.args.self.now.words.items c.as_slice.result.now c.args.cell c.as_slice.ensures.value c.requires.right (between _ _ _ c.requires.low c.requires.high)

pub end_of_set-end-requires-clause-order : goal.end_of_set-end-requires-clause-order
end_of_set-end-requires-clause-order c = further (64 * c.args.cell.start) c.args.cell.first c.args.a c.requires.low

pub overflow_sub-lowered : goal.overflow_sub-lowered
overflow_sub-lowered c = past_start (64 * c.args.cell.start) c.args.cell.first c.end_of_set-end.result c.end_of_set-end.ensures.from

pub overflow_cast-lowered : goal.overflow_cast-lowered
overflow_cast-lowered c = record { fits = up_to_fits c.args.self.now.words.items c.args.cell c.args.a c.end_of_set-end.result c.requires.right c.requires.high c.end_of_set-end.ensures.below }

pub count-gone-requires-clause-first : goal.count-gone-requires-clause-first
count-gone-requires-clause-first c = le_of_lt c.requires.low

pub count-gone-requires-clause-end : goal.count-gone-requires-clause-end
count-gone-requires-clause-end c = le_refl _

pub returns-clause-step : goal.returns-clause-step
returns-clause-step c = one_longer c.args.self.now.trail.items c.replace.new.self.trail.items _ c.replace.ensures.trail
