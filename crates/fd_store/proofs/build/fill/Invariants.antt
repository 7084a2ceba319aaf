use Rattle.fd_store.specs.Added.{IsLonger}
use Rattle.fd_store.proofs.build.fill.Given as goal

abbrev pub invariant-loop-added : goal.invariant-loop-added
invariant-loop-added l = IsLonger l.initial.words.items l.words.items l._added l.word
