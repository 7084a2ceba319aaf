use Rattle.std.proofs.Common.{◌≡◌, inl, inr, subst}
use Rattle.qc_io.specs.Counts.{RoseBy}
use Rattle.qecode_commands.specs.Plays.{PlaysCertificate}
use Rattle.qecode_commands.proofs.Down.{rose_after}
use Rattle.qecode_commands.proofs.Played.{plays_certificate_before}
use Rattle.qecode_commands.proofs.Written.{Wrote-weaker, wrote_from}
use Rattle.qecode_commands.proofs.play.play_problem.Goals as goal

pub play_certificate-requires : goal.play_certificate-requires
play_certificate-requires g c = c.in-Ok.ensures.certificate.listed

pub returns-in-Ok-clause-wrote : goal.returns-in-Ok-clause-wrote
returns-in-Ok-clause-wrote g c =
    let cert = c.in-Ok.cert in
    let known = c.in-Ok.ensures.certificate in
    let root = known.root in
    let moves = c.args.moves.now in
    let problem = c.args.problem.now in
    let old = g.S.Shelf.given c.args.shelf.now in
    let mid = g.S.Shelf.given c.open_certificate.new.shelf in
    let new = g.S.Shelf.given c.play_certificate.new.shelf in
    let told = g.S.Shelf.told c.args.shelf.now in
    let stays : g.S.Shelf.told c.open_certificate.new.shelf ≡ told = c.in-Ok.ensures.stays in
    wrote_from g.K.Sink.written g.K.Sink.faults c.args.out.now c.open_certificate.new.out _ _ c.play_certificate.result _ c.in-Ok.ensures.silent
    (Wrote-weaker _ _ _ _ c.play_certificate.result _ _
    (λ s t h. inr (
      cert.outcome,
      cert.optimum,
      root,
      known.of,
      plays_certificate_before (λ n. RoseBy n mid new) (λ n. RoseBy n old new) (λ n k. rose_after 0 n old mid new c.in-Ok.ensures.given k) cert.outcome cert.optimum root moves (told moves) problem s t
          (subst (λ q. PlaysCertificate cert.outcome cert.optimum root moves (q moves) (λ n. RoseBy n mid new) problem s t) stays (h root known.is)),
    ))
    c.play_certificate.ensures.wrote)

pub returns-in-Err-clause-wrote : goal.returns-in-Err-clause-wrote
returns-in-Err-clause-wrote g c = Wrote-weaker _ _ _ _ c.in-Err.status _ _ (λ s t d. inl d) c.in-Err.ensures.refused
