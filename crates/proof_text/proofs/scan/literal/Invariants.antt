use Rattle.std.proofs.Common.{◌≡◌, ◌++◌, take, drop, List}
use Rattle.proof_text.specs.Symbols.{Symbol, bytes}
use Rattle.proof_text.specs.Running.{run}
use Rattle.proof_text.proofs.scan.literal.Given as goal

abbrev pub invariant-loop-next : goal.invariant-loop-next
invariant-loop-next l = record {
  told : take l.next-index l.wanted ++ l.rest ≡ l.text;
  goes : (k : List Symbol) → run (bytes l.wanted ++ k) l.text ≡ run (bytes (drop l.next-index l.wanted) ++ k) l.rest;
}
