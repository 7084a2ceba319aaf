use Rattle.std.proofs.Common.{◌≡◌, ◌≤◌, ◌++◌, ◌∷◌, length, List}
use Rattle.std.specs.Fmt.{decimal}
use Rattle.proof_text.specs.Symbols.{Symbol, digits}
use Rattle.proof_text.specs.Running.{run}
use Rattle.proof_text.proofs.scan.more_digits.Given as goal

abbrev pub invariant-loop-byte : goal.invariant-loop-byte
invariant-loop-byte l = record {
  low : 1 ≤ l.value;
  high : l.value ≤ l.most;
  told : decimal l.value ++ l.rest ≡ decimal l.first ++ l.text;
  goes : (k : List Symbol) → run (digits l.most l.first l.end ∷ k) l.text ≡ run (digits l.most l.value l.end ∷ k) l.rest;
}

abbrev pub decreases-loop-byte : goal.decreases-loop-byte
decreases-loop-byte l = length l.rest
