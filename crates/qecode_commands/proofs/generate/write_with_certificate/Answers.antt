use Rattle.std.proofs.lemmas.Result.{on_err_weaker, on_ok_weaker}
use Rattle.qc_io.proofs.Known.{moves_then, prefix_then, prefix_of, on_err}
use Rattle.qecode_commands.proofs.Parts.{first_part, first_fault, moves_end, prefix_rest}
use Rattle.qecode_commands.proofs.generate.write_with_certificate.Goals as goal

pub returns-in_err-put_all-clause-err : goal.returns-in_err-put_all-clause-err
returns-in_err-put_all-clause-err g c = on_err _ (prefix_of _ _ c.args.summary.now _ (first_fault _ _ _ c.args.summary.now c.new-pieces.ensures c.in_err-put_all.ensures.err))

pub returns-in_err-put_text-clause-err : goal.returns-in_err-put_text-clause-err
returns-in_err-put_text-clause-err g c =
    let first = first_part _ _ _ _ c.args.summary.now c.new-pieces.ensures c.in_ok-put_all.ensures.ok in
    on_err _ (prefix_then _ _ _ _ _ _ first c.in_err-put_text.ensures.err)

pub returns-clause-ok : goal.returns-clause-ok
returns-clause-ok g c =
    let first = first_part _ _ _ _ c.args.summary.now c.new-pieces.ensures c.in_ok-put_all.ensures.ok in
    let second = moves_then _ _ _ _ _ _ _ first c.in_ok-put_text.ensures.ok in
    on_ok_weaker c.finish.result (moves_end _ _ _ _ _ second) c.finish.ensures.ok

pub returns-clause-err : goal.returns-clause-err
returns-clause-err g c =
    let first = first_part _ _ _ _ c.args.summary.now c.new-pieces.ensures c.in_ok-put_all.ensures.ok in
    let second = moves_then _ _ _ _ _ _ _ first c.in_ok-put_text.ensures.ok in
    on_err_weaker c.finish.result (prefix_rest _ _ _ _ _ second) c.finish.ensures.err
