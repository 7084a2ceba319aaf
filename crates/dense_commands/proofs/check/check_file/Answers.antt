use Rattle.std.proofs.Common.{◌≡◌, [], refl, subst}
use Rattle.qc_io.specs.Counts.{RoseBy}
use Rattle.qc_io.proofs.Known.{Appends-nil}
use Rattle.qecode_commands.proofs.Down.{rose_after}
use Rattle.qecode_commands.proofs.Written.{Wrote-weaker}
use Rattle.dense_commands.specs.Answers.{ChecksFile}
use Rattle.dense_commands.proofs.Before.{checks_before, unread}
use Rattle.dense_commands.proofs.check.check_file.Goals as goal

pub returns-in-Ok-clause-wrote : goal.returns-in-Ok-clause-wrote
returns-in-Ok-clause-wrote g c =
    let name = c.args.name.now in
    let game = c.args.problem.now in
    let old = g.S.Shelf.given c.args.shelf.now in
    let mid = g.S.Shelf.given c.heading_of.new.shelf in
    let new = g.S.Shelf.given c.check_as.new.shelf in
    let told = g.S.Shelf.told c.args.shelf.now in
    let stays : g.S.Shelf.told c.heading_of.new.shelf ≡ told = c.heading_of.ensures.stays in
    Wrote-weaker _ _ _ _ c.check_as.result _ _
    (λ s t h. checks_before name (told name) (λ n. RoseBy n mid new) (λ n. RoseBy n old new) game (λ n k. rose_after 0 n old mid new c.heading_of.ensures.given k) s t
    (subst (λ q. ChecksFile name (q name) (λ n. RoseBy n mid new) game s t) stays h))
    c.check_as.ensures.wrote

pub returns-in-Err-clause-wrote : goal.returns-in-Err-clause-wrote
returns-in-Err-clause-wrote g c =
    let name = c.args.name.now in
    let old = g.S.Shelf.given c.args.shelf.now in
    let new = g.S.Shelf.given c.heading_of.new.shelf in
    (refl, ([], unread name (g.S.Shelf.told c.args.shelf.now name) (λ n. RoseBy n old new) c.args.problem.now, Appends-nil _))
