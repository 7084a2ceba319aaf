use Rattle.std.proofs.lemmas.Result.{on_ok_weaker, on_err_weaker}
use Rattle.strategy_arena.proofs.Parts.{moves_as, prefix_as}
use Rattle.strategy_arena.proofs.Shorts.{slices_texts}
use Rattle.strategy_arena.proofs.arena.Arena.put_lines.Goals as goal

pub returns-clause-ok : goal.returns-clause-ok
returns-clause-ok g c =
    on_ok_weaker _ (moves_as _ _ c.args.pieces.now _ _ _ (slices_texts c.as_slice-2.result.now _ c.as_slice.result.now c.self.inside.lines.items c.args.self.now c.as_slice-2.ensures.value c.as_slice.ensures.value c.self.view_is)) c.put_shorts.ensures.ok

pub returns-clause-err : goal.returns-clause-err
returns-clause-err g c =
    on_err_weaker _ (prefix_as _ _ c.args.pieces.now _ _ (slices_texts c.as_slice-2.result.now _ c.as_slice.result.now c.self.inside.lines.items c.args.self.now c.as_slice-2.ensures.value c.as_slice.ensures.value c.self.view_is)) c.put_shorts.ensures.err
