use Rattle.std.proofs.Common.{◌≡◌, inl, inr, subst}
use Rattle.qc_io.specs.Counts.{RoseBy}
use Rattle.qecode_commands.specs.Plays.{PlaysProblem}
use Rattle.qecode_commands.proofs.Down.{rose_after}
use Rattle.qecode_commands.proofs.Played.{plays_problem_before}
use Rattle.qecode_commands.proofs.Written.{Wrote-weaker, wrote_from}
use Rattle.qecode_commands.proofs.play.play_files.Goals as goal

pub returns-in-Ok-clause-wrote : goal.returns-in-Ok-clause-wrote
returns-in-Ok-clause-wrote g c =
    let certificate = c.args.certificate.now in
    let moves = c.args.moves.now in
    let old = g.S.Shelf.given c.args.shelf.now in
    let mid = g.S.Shelf.given c.open_problem.new.shelf in
    let new = g.S.Shelf.given c.play_problem.new.shelf in
    let told = g.S.Shelf.told c.args.shelf.now in
    let stays : g.S.Shelf.told c.open_problem.new.shelf ≡ told = c.in-Ok.ensures.stays in
    wrote_from g.K.Sink.written g.K.Sink.faults c.args.out.now c.open_problem.new.out _ _ c.play_problem.result _ c.in-Ok.ensures.silent
    (Wrote-weaker _ _ _ _ c.play_problem.result _ _
    (λ s t h. inr (
      c.in-Ok.problem,
      c.in-Ok.ensures.problem,
      plays_problem_before (λ n. RoseBy n mid new) (λ n. RoseBy n old new) (λ n k. rose_after 0 n old mid new c.in-Ok.ensures.given k) certificate moves told c.in-Ok.problem s t
          (subst (λ q. PlaysProblem certificate moves q (λ n. RoseBy n mid new) c.in-Ok.problem s t) stays h),
    ))
    c.play_problem.ensures.wrote)

pub returns-in-Err-clause-wrote : goal.returns-in-Err-clause-wrote
returns-in-Err-clause-wrote g c = Wrote-weaker _ _ _ _ c.in-Err.status _ _ (λ s t d. inl d) c.in-Err.ensures.refused
