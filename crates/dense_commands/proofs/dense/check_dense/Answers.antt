use Rattle.std.proofs.Common.{subst}
use Rattle.qc_io.specs.Counts.{RoseBy}
use Rattle.qecode_commands.proofs.Written.{Wrote-weaker}
use Rattle.dense_commands.specs.Answers.{ChecksDenseFile}
use Rattle.dense_commands.proofs.dense.check_dense.Goals as goal

pub returns-clause-wrote : goal.returns-clause-wrote
returns-clause-wrote g c =
    let name = c.args.certificate.now in
    let told = g.S.Shelf.told c.args.shelf.now name in
    let old = g.S.Shelf.given c.args.shelf.now in
    let new = g.S.Shelf.given c.check_file.new.shelf in
    Wrote-weaker _ _ _ _ c.check_file.result _ _
    (λ s t h. subst (λ q. ChecksDenseFile name told (λ n. RoseBy n old new) q s t) c.in-Ok.ensures.same h) c.check_file.ensures.wrote
