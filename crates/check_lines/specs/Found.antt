-- What a machine answers at the end.
use Rattle.std.specs.Prelude.{◌≡◌, ◌-◌, ◌^◌, min, nat_lt, true, Option, Some, None, List, ℤ}
use Rattle.qc_model.specs.Content.{Game}
use Rattle.joins.specs.Seen.{verdict_of}
use Rattle.proof_tree.specs.Tree.{Tree}
use Rattle.proof_tree.specs.InPlace.{root_in_place}
use Rattle.proof_tree.specs.Read.{root_finding}
use Rattle.proof_tree.specs.Counts.{turns_of, opens_of}
use Rattle.check_lines.specs.declared.answer.Answer.{Answer}
use Rattle.check_lines.specs.Awaited.{none_awaited}
use Rattle.check_lines.specs.Ledger.{Ledger}

-- the ledger waits for no line, and the answer says what it tells; the vector is that of the answer's verdict
pub record IsToldBy (f : Answer) (d : Ledger) : Type 0 where
  pub ends : d.awaited ≡ none_awaited
  pub vector : List ℤ
  pub verdict : d.verdict ≡ verdict_of f.found vector
  pub own : d.own ≡ f.own
  pub turns : d.turns ≡ f.turns
  pub has_open : d.has_open ≡ f.has_open

-- what is answered where the lines lead to this ledger, or to none
abbrev pub Answers : Option Answer → Option Ledger → Type 0
Answers None p = (d : Ledger) → p ≡ Some d → d.awaited ≡ none_awaited → ⊥
Answers (Some f) p = (d : Ledger) × (p ≡ Some d) × IsToldBy f d

-- the answer for a tree: each line is in place; its verdict, with this vector, and the value of its scope's own condition;
-- its turns, and whether a case is open
pub record IsAnswer (g : Game) (t : Tree) (f : Answer) : Type 0 where
  pub in_place : root_in_place g t ≡ true
  pub vector : List ℤ
  pub verdict : (root_finding g t).verdict ≡ verdict_of f.found vector
  pub own : f.own ≡ (root_finding g t).own
  pub turns : f.turns ≡ min (turns_of t) (2 ^ 64 - 1)
  pub has_open : f.has_open ≡ nat_lt 0 (opens_of t)
