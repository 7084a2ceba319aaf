use Rattle.std.proofs.Common.{◌≤◌, length, rules}
use Rattle.qecode_commands.proofs.Feeding.{fed_more}
use Rattle.qecode_commands.proofs.certificate.feed_piece.Goals as goal

pub returns-in-Ok-clause-fed : goal.returns-in-Ok-clause-fed
returns-in-Ok-clause-fed g c =
    let into = c.read_at.new.into in
    let within : c.in-Ok.count ≤ length into = search rules in
    fed_more (g.S.Shelf.told c.args.shelf.now c.args.name.now) c.args.at c.in-Ok.count into c.args.checker.now c.feed.new.self within c.in-Ok.ensures.bytes c.feed.ensures.checking
