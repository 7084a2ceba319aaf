use Rattle.std.proofs.Common.{subst, IfOk, IfSome}
use Rattle.std.specs.Prelude.{IfNone, IsFalse, IsTrue}
use Rattle.qc_model.specs.Domains.{Box, has_empty}
use Rattle.game_search.specs.Beside.{PieceTried}
use Rattle.game_search.specs.Pieces.{kept_from}
use Rattle.game_search.proofs.pieces.try_piece.Goals as goal

pub returns-in-Ok-clause-tried : goal.returns-in-Ok-clause-tried
returns-in-Ok-clause-tried c =
    let g = c.args.levels.now.problem.now in
    let a = c.in-Ok.walk in
    let end = c.go_through-root.result in
    let turns = subst (λ n. IfOk end (λ o. IfSome o (λ root. PieceTried c.args.cuts g (kept_from a.remains.store.box c.args.keeps.now) c.args.reached n root.found root.own root.arena))) c.in-Ok.ensures.left c.go_through-root.ensures.tried in
    subst (λ (b : Box). IfOk end (λ o. IfSome o (λ root. PieceTried c.args.cuts g (kept_from b c.args.keeps.now) c.args.reached c.args.turns root.found root.own root.arena))) c.in-Ok.ensures.declared turns

pub returns-in-Ok-clause-full : goal.returns-in-Ok-clause-full
returns-in-Ok-clause-full c = subst (λ (b : Box). IfOk c.go_through-root.result (λ o. IfSome o (λ root. IsFalse (has_empty (kept_from b c.args.keeps.now))))) c.in-Ok.ensures.declared c.go_through-root.ensures.full

pub returns-in-Ok-clause-none : goal.returns-in-Ok-clause-none
returns-in-Ok-clause-none c = subst (λ (b : Box). IfOk c.go_through-root.result (λ o. IfNone o (IsTrue (has_empty (kept_from b c.args.keeps.now))))) c.in-Ok.ensures.declared c.go_through-root.ensures.none
