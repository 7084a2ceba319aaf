use Rattle.std.proofs.lemmas.Result.{on_ok_weaker, on_err_weaker}
use Rattle.strategy_arena.specs.Certificate.{text_of_lines}
use Rattle.qc_io.proofs.Known.{on_err}
use Rattle.strategy_arena.proofs.Parts.{all_written, all_fails, end_fails}
use Rattle.strategy_arena.proofs.arena.Arena.write_from.Goals as goal

pub returns-in_err-put_text-clause-err : goal.returns-in_err-put_text-clause-err
returns-in_err-put_text-clause-err g c = on_err _ (all_fails _ _ _ (text_of_lines c.args.outcome c.args.optimum c.args.self.now) c.new-pieces.ensures c.in_err-put_text.ensures.err)

pub returns-clause-ok : goal.returns-clause-ok
returns-clause-ok g c = on_ok_weaker _ (all_written _ _ _ _ _ (text_of_lines c.args.outcome c.args.optimum c.args.self.now) c.new-pieces.ensures c.in_ok-put_text.ensures.ok) c.finish.ensures.ok

pub returns-clause-err : goal.returns-clause-err
returns-clause-err g c = on_err_weaker _ (end_fails _ _ _ _ _ (text_of_lines c.args.outcome c.args.optimum c.args.self.now) c.new-pieces.ensures c.in_ok-put_text.ensures.ok) c.finish.ensures.err
