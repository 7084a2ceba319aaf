use Rattle.std.proofs.Common.{◌≡◌, ◌<◌, sym, subst, arith, List, []}
use Rattle.proof_tree.specs.declared.line.Line.{Line}
use Rattle.joins.specs.Joins.{out_of}
use Rattle.game_search.specs.Attempted.{Attempted}
use Rattle.game_search.proofs.Rooted.{root_told}
use Rattle.game_search.proofs.attempts.go_through.Goals as goal

pub returns-clause-attempted : goal.returns-clause-attempted
returns-clause-attempted c =
    let g = c.args.levels.now.problem.now in
    let a = c.args.walk.now in
    let w = c.node.new.walk in
    let own = c.first_own-own.result in
    let few : a.left < 2147483648 = omega (arith, c.requires.turns) in
    let told = c.in_ok-found.ensures.told few [] tt in
    let put = root_told c.args.cuts g a.left a.remains.store.box w.left a.lines w.lines w.joins c.in_ok-found.found (out_of w.joins) own c.requires.declared c.requires.lines told c.first_own-own.ensures.own c.first_own-own.ensures.none in
    subst (λ (ls : List Line). Attempted c.args.cuts g a.left c.in_ok-found.found own ls) (sym c.replace-arena.ensures.value) put
