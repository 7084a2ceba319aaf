use Rattle.std.proofs.Math.Nat.{le_of_lt}
use Rattle.std.proofs.Common.{length, refl}
use Rattle.std.proofs.lemmas.List.{length-set}
use Rattle.fd_store.proofs.CellPlaces.{word_inside, in_word, in_order, end_fits, one_more, put_at}
use Rattle.std.proofs.Common.{◌≡◌, ◌+◌, ◌-◌, ◌/◌, ◌%◌, ◌∙◌, ap, get_or, arith}
use Rattle.std.specs.Prelude.{◌&&◌, ◌==◌, not}
use Rattle.std.specs.Int.{bit_at}
use Rattle.std.proofs.lemmas.Int.{to_z-of_z}
use Rattle.std.proofs.lemmas.Grind.{get_or_default_zero}
use mir.Val.{SFits}
use mir.Syntax.{w64}
use Rattle.fd_store.specs.Places.{count_of_word, is_inside}
use Rattle.fd_store.proofs.Cells.{base_fits, recorded}
use Rattle.fd_store.proofs.Steps.{cell_of_sound}
use Rattle.fd_store.proofs.MovedEnds.{gone_most}
use Rattle.fd_store.proofs.WordCleared.{takes_word, takes_no_word, word_of, gone_is}
use Rattle.fd_store.proofs.table.Table.clear_word.Goals as goal

pub overflow_sub-left : goal.overflow_sub-left
overflow_sub-left c =
    let q = c.requires in
    let cell = c.args.cell in
    let a = c.args.a in
    let e = c.args.e in
    let words = c.args.self.now.words.items in
    let old : c.index-old.result.now ≡ get_or words (cell.start + a / 64) 0 = c.index-old.ensures ∙ get_or_default_zero words (cell.start + a / 64) _ (omega (arith, q.right.inside, q.right.within)) in
    let gone : c.count_in_word-gone.result ≡ count_of_word (get_or words (cell.start + a / 64) 0) (a % 64) (a % 64 + (e - a)) =
    c.count_in_word-gone.ensures ∙ ap (λ b. count_of_word b (a % 64) (a % 64 + (e - a))) old in
    gone_most words cell a e c.count_in_word-gone.result q.right (gone_is words cell a e _ _ _ c.count_in_word-gone.result q.right (word_of cell a e q.order q.word q.low q.high) gone)

pub returns-clause-takes : goal.returns-clause-takes
returns-clause-takes c =
    let q = c.requires in
    let r = c.rewrite.ensures in
    let cell = c.args.cell in
    let a = c.args.a in
    let e = c.args.e in
    let words = c.args.self.now.words.items in
    let fits : SFits w64 c.args.cell.base = base_fits words cell q.right in
    let cells = simp to_z-of_z at r.cells in
    let old : c.index-old.result.now ≡ get_or words (cell.start + a / 64) 0 = c.index-old.ensures ∙ get_or_default_zero words (cell.start + a / 64) _ (omega (arith, q.right.inside, q.right.within)) in
    let gone : c.count_in_word-gone.result ≡ count_of_word (get_or words (cell.start + a / 64) 0) (a % 64) (a % 64 + (e - a)) =
    c.count_in_word-gone.ensures ∙ ap (λ b. count_of_word b (a % 64) (a % 64 + (e - a))) old in
    takes_word c.args.self.now c.rewrite.new.self c.args.x cell a e (cell.start + a / 64) (a % 64) (a % 64 + (e - a)) c.cleared.result c.count_in_word-gone.result
    q.sound q.var q.at q.right (word_of cell a e q.order q.word q.low q.high) gone (omega arith)
    (λ i h. c.cleared.ensures i h ∙ ap (λ b. (bit_at b i == 1) && not (is_inside (a % 64) (a % 64 + (e - a)) i)) old)
    r.words cells (r.trail ∙ recorded c.args.self.now.trail.items _ _ c.args.x c.args.self.now.cells.items cell _ q.var q.at) r.spare

pub returns-then-gone-eq0-clause-takes : goal.returns-then-gone-eq0-clause-takes
returns-then-gone-eq0-clause-takes c =
    let q = c.requires in
    let cell = c.args.cell in
    let a = c.args.a in
    let e = c.args.e in
    let words = c.args.self.now.words.items in
    let old : c.index-old.result.now ≡ get_or words (cell.start + a / 64) 0 = c.index-old.ensures ∙ get_or_default_zero words (cell.start + a / 64) _ (omega (arith, q.right.inside, q.right.within)) in
    let gone : c.count_in_word-gone.result ≡ count_of_word (get_or words (cell.start + a / 64) 0) (a % 64) (a % 64 + (e - a)) =
    c.count_in_word-gone.ensures ∙ ap (λ b. count_of_word b (a % 64) (a % 64 + (e - a))) old in
    takes_no_word c.args.self.now c.args.x cell a e (cell.start + a / 64) (a % 64) (a % 64 + (e - a)) c.count_in_word-gone.result
    q.sound q.var q.at q.right (word_of cell a e q.order q.word q.low q.high) gone c.if-gone-eq0.true

pub returns-clause-right : goal.returns-clause-right
returns-clause-right c =
    cell_of_sound c.rewrite.new.self c.args.x _ c.args.self.now.cells.items (returns-clause-takes c).sound c.requires.var c.rewrite.ensures.cells

pub rewrite-requires-clause-word : goal.rewrite-requires-clause-word
rewrite-requires-clause-word c = word_inside c.args.self.now.words.items c.args.cell c.args.a c.args.e c.requires.right c.requires.order c.requires.high

pub cleared-requires-clause-inside : goal.cleared-requires-clause-inside
cleared-requires-clause-inside c = in_word c.args.a c.args.e c.requires.order c.requires.word

pub cleared-requires-clause-order : goal.cleared-requires-clause-order
cleared-requires-clause-order c = in_order c.args.a c.args.e c.requires.order

pub count_in_word-gone-requires-clause-inside : goal.count_in_word-gone-requires-clause-inside
count_in_word-gone-requires-clause-inside c = in_word c.args.a c.args.e c.requires.order c.requires.word

pub count_in_word-gone-requires-clause-order : goal.count_in_word-gone-requires-clause-order
count_in_word-gone-requires-clause-order c = in_order c.args.a c.args.e c.requires.order

pub overflow_add-to : goal.overflow_add-to
overflow_add-to c = record { fits = end_fits c.args.a c.args.e c.requires.order c.requires.word }

pub overflow_sub-to : goal.overflow_sub-to
overflow_sub-to c = le_of_lt c.requires.order

pub returns-clause-step : goal.returns-clause-step
returns-clause-step c = one_more c.args.self.now.trail.items c.rewrite.new.self.trail.items _ c.rewrite.ensures.trail

pub returns-clause-long : goal.returns-clause-long
returns-clause-long c = ap length c.rewrite.ensures.cells ∙ length-set c.args.self.now.cells.items c.args.x _

pub returns-clause-at : goal.returns-clause-at
returns-clause-at c = put_at c.args.self.now.cells.items c.rewrite.new.self.cells.items c.args.x _ c.rewrite.ensures.cells c.requires.var

pub returns-clause-same : goal.returns-clause-same
returns-clause-same c =
    let fits : SFits w64 c.args.cell.base = base_fits c.args.self.now.words.items c.args.cell c.requires.right in
    record { base = simp to_z-of_z; start = refl; width = refl; first = refl; end = refl }
