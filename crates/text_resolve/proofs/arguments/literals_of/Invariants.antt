use Rattle.std.proofs.Common.{◌≡◌, map, take}
use Rattle.text_resolve.specs.Draft.{literal_of}
use Rattle.text_resolve.proofs.arguments.literals_of.Given as goal

abbrev pub invariant-loop-one : goal.invariant-loop-one
invariant-loop-one l = l.numbers ≡ map literal_of (take l.one-index l.ones)
