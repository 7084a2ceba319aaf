use Rattle.std.proofs.lemmas.Result.{on_err_weaker}
use Rattle.qc_io.proofs.Known.{moves_then, prefix_then, prefix_of, on_err}
use Rattle.qecode_commands.proofs.Parts.{first_part, prefix_rest}
use Rattle.qecode_commands.proofs.writing.write_parts.Goals as goal

pub returns-in_err-put_all-2-clause-err : goal.returns-in_err-put_all-2-clause-err
returns-in_err-put_all-2-clause-err g c =
    let first = first_part _ _ _ _ c.args.front.now c.new-pieces.ensures c.in_ok-put_all.ensures.ok in
    on_err _ (prefix_of _ _ _ c.args.back.now (prefix_then _ _ _ _ _ _ first c.in_err-put_all-2.ensures.err))

pub returns-in_err-put_all-3-clause-err : goal.returns-in_err-put_all-3-clause-err
returns-in_err-put_all-3-clause-err g c =
    let first = first_part _ _ _ _ c.args.front.now c.new-pieces.ensures c.in_ok-put_all.ensures.ok in
    let second = moves_then _ _ _ _ _ _ _ first c.in_ok-put_all-2.ensures.ok in
    on_err _ (prefix_then _ _ _ _ _ _ second c.in_err-put_all-3.ensures.err)

pub returns-clause-err : goal.returns-clause-err
returns-clause-err g c =
    let first = first_part _ _ _ _ c.args.front.now c.new-pieces.ensures c.in_ok-put_all.ensures.ok in
    let second = moves_then _ _ _ _ _ _ _ first c.in_ok-put_all-2.ensures.ok in
    let third = moves_then _ _ _ _ _ _ _ second c.in_ok-put_all-3.ensures.ok in
    on_err_weaker c.finish.result (prefix_rest _ _ _ _ _ third) c.finish.ensures.err
