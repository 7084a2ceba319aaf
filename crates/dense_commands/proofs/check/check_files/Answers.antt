use Rattle.std.proofs.Common.{◌≡◌, inl, inr, subst}
use Rattle.qc_io.specs.Counts.{RoseBy}
use Rattle.dense_commands.specs.Answers.{ChecksFile}
use Rattle.qecode_commands.proofs.Down.{rose_after}
use Rattle.dense_commands.proofs.Before.{checks_before}
use Rattle.qecode_commands.proofs.Written.{Wrote-weaker, wrote_from}
use Rattle.dense_commands.proofs.check.check_files.Goals as goal

pub returns-in-Ok-clause-wrote : goal.returns-in-Ok-clause-wrote
returns-in-Ok-clause-wrote g c =
    let name = c.args.certificate.now in
    let old = g.S.Shelf.given c.args.shelf.now in
    let mid = g.S.Shelf.given c.open_problem.new.shelf in
    let new = g.S.Shelf.given c.check_file.new.shelf in
    let told = g.S.Shelf.told c.args.shelf.now in
    let stays : g.S.Shelf.told c.open_problem.new.shelf ≡ told = c.in-Ok.ensures.stays in
    wrote_from g.K.Sink.written g.K.Sink.faults c.args.out.now c.open_problem.new.out _ _ c.check_file.result _ c.in-Ok.ensures.silent
    (Wrote-weaker _ _ _ _ c.check_file.result _ _
    (λ s t h. inr (
      c.in-Ok.problem,
      c.in-Ok.ensures.problem,
      checks_before name (told name) (λ n. RoseBy n mid new) (λ n. RoseBy n old new) c.in-Ok.problem (λ n k. rose_after 0 n old mid new c.in-Ok.ensures.given k) s t
          (subst (λ q. ChecksFile name (q name) (λ n. RoseBy n mid new) c.in-Ok.problem s t) stays h),
    ))
    c.check_file.ensures.wrote)

pub returns-in-Err-clause-wrote : goal.returns-in-Err-clause-wrote
returns-in-Err-clause-wrote g c = Wrote-weaker _ _ _ _ c.in-Err.status _ _ (λ s t d. inl d) c.in-Err.ensures.refused
