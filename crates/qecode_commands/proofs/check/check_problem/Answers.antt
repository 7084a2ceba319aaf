use Rattle.std.proofs.Common.{subst}
use Rattle.qc_io.specs.Counts.{RoseBy}
use Rattle.qecode_commands.specs.Answers.{ChecksFile}
use Rattle.qecode_commands.proofs.Written.{Wrote-weaker}
use Rattle.qecode_commands.proofs.check.check_problem.Goals as goal

pub returns-clause-wrote : goal.returns-clause-wrote
returns-clause-wrote g c =
    let name = c.args.certificate.now in
    let told = g.S.Shelf.told c.args.shelf.now name in
    let old = g.S.Shelf.given c.args.shelf.now in
    let new = g.S.Shelf.given c.check_file.new.shelf in
    Wrote-weaker _ _ _ _ c.check_file.result _ _
    (λ s t h. subst (λ q. ChecksFile name told (λ n. RoseBy n old new) q s t) c.in-Ok.ensures.same h) c.check_file.ensures.wrote

pub returns-clause-usage : goal.returns-clause-usage
returns-clause-usage g c = c.check_file.ensures.rows.0

pub returns-clause-memory : goal.returns-clause-memory
returns-clause-memory g c = λ is. absurd (c.check_file.ensures.rows.1 is)

pub returns-clause-read_fault : goal.returns-clause-read_fault
returns-clause-read_fault g c = c.check_file.ensures.read_fault

pub returns-clause-no_read_fault : goal.returns-clause-no_read_fault
returns-clause-no_read_fault g c = c.check_file.ensures.no_read_fault
