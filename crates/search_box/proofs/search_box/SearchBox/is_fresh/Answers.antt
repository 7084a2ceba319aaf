use Rattle.std.proofs.Common.{◌↔◌, IsTrue, subst}
use Rattle.search_box.specs.Boxed.{Boxed}
use Rattle.search_box.specs.Fresh.{IsFreshFrom}
use Rattle.qc_model.specs.Game.{before}
use Rattle.search_box.proofs.search_box.SearchBox.is_fresh.Goals as goal

pub returns : goal.returns
returns c =
    let r = c.are_whole.result in
    let s = c.self.inside in
    let l = c.args.level.now in
    subst (λ (b : Boxed). IsTrue r ↔ IsFreshFrom b.game (before l.problem.now l.number) b.store.box) c.self.view_is
    (subst (λ n. IsTrue r ↔ IsFreshFrom s.problem.now n s.store.box) l.has_from c.are_whole.ensures)
