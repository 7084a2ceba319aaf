use Rattle.std.proofs.lemmas.Result.{on_err_weaker}
use Rattle.qc_io.proofs.Known.{moves_then, prefix_then, on_err}
use Rattle.part_commands.proofs.Writing.{first_part, prefix_rest}
use Rattle.part_commands.proofs.text.write_piece.Goals as goal

pub returns-in_err-put_text-clause-err : goal.returns-in_err-put_text-clause-err
returns-in_err-put_text-clause-err g c =
    let first = first_part _ _ _ _ c.args.head.now c.new-pieces.ensures c.in_ok-put_all.ensures.ok in
    on_err _ (prefix_then _ _ _ _ _ _ first c.in_err-put_text.ensures.err)

pub returns-clause-err : goal.returns-clause-err
returns-clause-err g c =
    let first = first_part _ _ _ _ c.args.head.now c.new-pieces.ensures c.in_ok-put_all.ensures.ok in
    let second = moves_then _ _ _ _ _ _ _ first c.in_ok-put_text.ensures.ok in
    on_err_weaker c.finish.result (prefix_rest _ _ _ _ _ second) c.finish.ensures.err
