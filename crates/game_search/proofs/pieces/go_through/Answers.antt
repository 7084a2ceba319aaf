use Rattle.std.proofs.Common.{sym, subst, List}
use Rattle.qc_model.specs.Domains.{Box}
use Rattle.proof_tree.specs.declared.line.Line.{Line}
use Rattle.joins.specs.Joins.{out_of}
use Rattle.joins.specs.Seen.{verdict_of}
use Rattle.game_search.specs.Beside.{PieceTried, RootPut}
use Rattle.game_search.specs.Pieces.{kept_from}
use Rattle.game_search.proofs.Answered.{piece_tried}
use Rattle.game_search.proofs.pieces.go_through.Goals as goal

pub returns-clause-tried : goal.returns-clause-tried
returns-clause-tried c =
    let g = c.args.levels.now.problem.now in
    let a = c.args.walk.now in
    let w = c.root.new.walk in
    let box = kept_from a.remains.store.box c.args.keeps.now in
    let own = c.first_own-own.result in
    let vector = out_of w.joins in
    let v = verdict_of c.in_ok-found.found vector in
    let content = c.in_ok-keep_all.ensures.kept c.if-not-branch.false in
    let told = subst (λ (b : Box). RootPut c.args.cuts g b c.args.reached v a.left w.left a.lines w.lines w.joins) content (c.in_ok-found.ensures.told c.requires.turns) in
    let tried = piece_tried c.args.cuts g box c.args.reached a.left w.left a.lines w.lines w.joins c.in_ok-found.found vector own c.requires.lines told c.first_own-own.ensures.own c.first_own-own.ensures.none in
    subst (λ (ls : List Line). PieceTried c.args.cuts g box c.args.reached a.left c.in_ok-found.found own ls) (sym c.replace-arena.ensures.value) tried
