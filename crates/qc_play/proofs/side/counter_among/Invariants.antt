use Rattle.std.proofs.Common.{◌≡◌, drop}
use Rattle.qc_play.specs.Shape.{all_replies}
use Rattle.qc_play.specs.Play.{reply_to}
use Rattle.qc_play.proofs.side.counter_among.Given as goal

abbrev pub invariant-loop-entry : goal.invariant-loop-entry
invariant-loop-entry l = reply_to l.tuple (all_replies (drop l.entry-index l.entries)) ≡ reply_to l.tuple (all_replies l.entries)
