use Rattle.std.proofs.Common.{◌≡◌, ◌<◌, ℕ, true, get_or}
use Rattle.qdimacs.specs.Tokens.{is_in_token}
use Rattle.qdimacs.proofs.piece.count_in_token.Given as goal

abbrev pub invariant-loop-i : goal.invariant-loop-i
invariant-loop-i l = (k : ℕ) → k < l.i → is_in_token (get_or l.bytes k 0) ≡ true
