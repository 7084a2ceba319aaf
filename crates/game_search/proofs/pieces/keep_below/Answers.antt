use Rattle.std.proofs.Common.{◌≡◌, true, subst}
use Rattle.std.specs.Prelude.{int_le, pos}
use Rattle.box_laws.proofs.Numbers.{passed_number}
use Rattle.game_search.proofs.Kept.{none_over, numbers_left}
use Rattle.game_search.proofs.pieces.keep_below.Goals as goal

pub returns-then-keep-ge-LARGEST-clause-content : goal.returns-then-keep-ge-LARGEST-clause-content
returns-then-keep-ge-LARGEST-clause-content c =
    let b = c.args.remains.now in
    let numbers = numbers_left c.args.problem.now b c.args.keep.x.0 c.known.ensures c.requires.game c.known-2.ensures.declared in
    none_over b.store.box c.args.keep.x.0 c.args.keep.hi numbers (subst (λ n. int_le (pos 1000000000) n ≡ true) (passed_number c.args.keep.hi c.requires.keep.hi) c.if-keep-ge-LARGEST.true)
