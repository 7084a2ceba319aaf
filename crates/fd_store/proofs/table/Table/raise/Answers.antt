use Rattle.std.proofs.Math.Nat.{le_of_lt, le_refl}
use Rattle.std.proofs.Common.{◌*◌}
use Rattle.fd_store.proofs.CellPlaces.{start_fits, place_fits, place_inside, words_few, last_set, further, between, from_start, found_fits, one_longer}
use Rattle.std.proofs.Common.{◌∙◌, sym, ap}
use Rattle.fd_store.specs.Places.{is_set}
use Rattle.fd_store.proofs.MovedEnds.{gone_most}
use Rattle.fd_store.proofs.EndMoves.{takes_raised}
use Rattle.std.proofs.lemmas.Int.{to_z-of_z}
use mir.Val.{SFits}
use mir.Syntax.{w64}
use Rattle.fd_store.proofs.Cells.{base_fits, recorded}
use Rattle.fd_store.proofs.table.Table.raise.Goals as goal

pub overflow_sub-raised-2 : goal.overflow_sub-raised-2
overflow_sub-raised-2 c = gone_most c.args.self.now.words.items c.args.cell c.args.cell.first c.args.e c.count-gone.result c.requires.right c.count-gone.ensures

pub returns-clause-takes : goal.returns-clause-takes
returns-clause-takes c =
    let q = c.requires in
    let n = c.next_set-next.ensures in
    let r = c.replace.ensures in
    let fits : SFits w64 c.args.cell.base = base_fits c.args.self.now.words.items c.args.cell q.right in
    let cells = simp to_z-of_z at r.cells in
    takes_raised c.args.self.now c.replace.new.self c.args.x c.args.cell c.args.e c.next_set-next.result c.count-gone.result
    q.sound q.var q.at q.right q.few q.low q.high n.from n.below
    (sym (ap (λ ws. is_set ws c.next_set-next.result) c.as_slice.ensures.value) ∙ n.found)
    (λ p h l. sym (ap (λ ws. is_set ws p) c.as_slice.ensures.value) ∙ n.none p h l)
    c.count-gone.ensures r.words cells (r.trail ∙ recorded c.args.self.now.trail.items 0 18446744073709551615 c.args.x c.args.self.now.cells.items c.args.cell _ q.var q.at) r.spare

pub overflow_mul-start : goal.overflow_mul-start
overflow_mul-start c = record { fits = start_fits c.args.self.now.words.items c.args.cell c.requires.right c.requires.few }

pub overflow_add-start : goal.overflow_add-start
overflow_add-start c = record { fits = place_fits c.args.self.now.words.items c.args.cell c.args.e c.requires.right c.requires.few (le_of_lt c.requires.high) }

pub overflow_add-start-2 : goal.overflow_add-start-2
overflow_add-start-2 c = record { fits = place_fits c.args.self.now.words.items c.args.cell c.args.cell.end c.requires.right c.requires.few (le_refl _) }

pub next_set-next-requires-clause-inside : goal.next_set-next-requires-clause-inside
next_set-next-requires-clause-inside c = place_inside c.args.self.now.words.items c.as_slice.result.now c.args.cell c.args.cell.end c.as_slice.ensures.value c.requires.right (le_refl _)

pub next_set-next-requires-clause-small : goal.next_set-next-requires-clause-small
next_set-next-requires-clause-small c = words_few c.args.self.now.words.items c.as_slice.result.now c.as_slice.ensures.value c.requires.few

pub next_set-next-requires-clause-last : goal.next_set-next-requires-clause-last
next_set-next-requires-clause-last c = last_set c.args.self.now.words.items c.as_slice.result.now c.args.cell c.as_slice.ensures.value c.requires.right (between _ _ _ c.requires.low c.requires.high)

pub next_set-next-requires-clause-order : goal.next_set-next-requires-clause-order
next_set-next-requires-clause-order c = further (64 * c.args.cell.start) c.args.e c.args.cell.end c.requires.high

pub overflow_sub-raised : goal.overflow_sub-raised
overflow_sub-raised c = from_start (64 * c.args.cell.start) c.args.e c.next_set-next.result c.next_set-next.ensures.from

pub overflow_cast-raised : goal.overflow_cast-raised
overflow_cast-raised c = record { fits = found_fits c.args.self.now.words.items c.args.cell c.next_set-next.result c.requires.right c.next_set-next.ensures.below }

pub count-gone-requires-clause-end : goal.count-gone-requires-clause-end
count-gone-requires-clause-end c = le_of_lt c.requires.high

pub returns-clause-step : goal.returns-clause-step
returns-clause-step c = one_longer c.args.self.now.trail.items c.replace.new.self.trail.items _ c.replace.ensures.trail
