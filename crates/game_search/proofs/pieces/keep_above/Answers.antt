use Rattle.std.proofs.Common.{◌≡◌, true, subst}
use Rattle.std.specs.Prelude.{int_le, negsuc}
use Rattle.box_laws.proofs.Numbers.{passed_number}
use Rattle.game_search.proofs.Kept.{none_under, numbers_left}
use Rattle.game_search.proofs.pieces.keep_above.Goals as goal

pub returns-then-keep-clause-content : goal.returns-then-keep-clause-content
returns-then-keep-clause-content c =
    let b = c.args.remains.now in
    let numbers = numbers_left c.args.problem.now b c.args.keep.x.0 c.known.ensures c.requires.game c.known-2.ensures.declared in
    none_under b.store.box c.args.keep.x.0 c.args.keep.lo numbers (subst (λ n. int_le n (negsuc 999999999) ≡ true) (passed_number c.args.keep.lo c.requires.keep.lo) c.if-keep.true)
