use Rattle.std.proofs.Common.{refl, sym}
use Rattle.search_box.proofs.Goings.{follows_on}
use Rattle.search_walk.proofs.OwnTrees.{case_by_part}
use Rattle.search_walk.proofs.Remains.{undone_back}
use Rattle.game_search.proofs.beside.part_beside.Goals as goal

pub returns-clause-told : goal.returns-clause-told
returns-clause-told c =
    let s = c.args.stage.now in
    let a = c.args.walk.now in
    let now = c.narrow_beside.new.walk in
    let last = c.part.new.walk in
    λ before ready. case_by_part s a.remains.store.box a now last before (c.in_ok-closed.ensures.told before ready.stands) c.narrow_beside.ensures.left c.narrow_beside.ensures.lines (c.in_ok-part.ensures.told (λ q. cc)) ready

pub returns-clause-back : goal.returns-clause-back
returns-clause-back c =
    let l = c.args.stage.now.level.now in
    let g = l.problem.now in
    let i = l.number in
    let b = c.args.walk.now.remains in
    let now = c.narrow_beside.new.walk in
    let back = c.in_ok-part.ensures.back in
    let follows = follows_on b now.remains c.part.new.walk.remains c.narrow_beside.ensures.on.follows back.box back.past in
    let same = c.undo_to.ensures.back b.store (sym c.mark-mark.ensures.at) follows in
    undone_back g i c.args.walk.now now c.part.new.walk _ c.narrow_beside.ensures.on c.narrow_beside.ensures.game c.narrow_beside.ensures.others c.narrow_beside.ensures.lines c.narrow_beside.ensures.left back c.undo_to.ensures.game same.0 same.1 c.undo_to.ensures.values refl refl refl
