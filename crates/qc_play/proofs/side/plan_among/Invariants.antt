use Rattle.std.proofs.Common.{◌≡◌, drop}
use Rattle.qc_play.specs.Shape.{all_entries}
use Rattle.qc_play.specs.Play.{reply_to}
use Rattle.qc_play.proofs.side.plan_among.Given as goal

abbrev pub invariant-loop-entry : goal.invariant-loop-entry
invariant-loop-entry l = reply_to l.tuple (all_entries (drop l.entry-index l.entries)) ≡ reply_to l.tuple (all_entries l.entries)
