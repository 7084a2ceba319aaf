use Rattle.std.proofs.Common.{◌≤◌, length, rules}
use Rattle.dense_commands.proofs.Feeding.{fed_more}
use Rattle.dense_commands.proofs.feed.feed_piece.Goals as goal

pub returns-in-Ok-give-clause-fed : goal.returns-in-Ok-give-clause-fed
returns-in-Ok-give-clause-fed g c =
    let into = c.read_at.new.into in
    let within : c.in-Ok.count ≤ length into = search rules in
    fed_more (g.S.Shelf.told c.args.shelf.now c.args.name.now) c.args.at c.in-Ok.count into (g.C.ByteChecker.is_checking c.args.checker.now) (g.C.ByteChecker.is_checking c.give.new.self) within c.in-Ok.ensures.bytes c.in-Ok-give.ensures.checking
