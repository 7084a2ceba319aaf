-- What a ledger tells after all lines of a certificate.
use Rattle.std.specs.Prelude.{◌≡◌, nat_lt, Bool, true, false, ◌&&◌, Option, Some, None, IsTrue, ℤ}
use Rattle.std.specs.List.{list_all}
use Rattle.qc_model.specs.Content.{Game}
use Rattle.proof_tree.specs.declared.tree.Outcome.{Outcome}
use Rattle.dense_tree.specs.Tree.{Certificate}
use Rattle.dense_tree.specs.Counts.{turns_of, opens_of}
use Rattle.dense_tree.specs.Lines.{certificate_lines}
use Rattle.dense_tree.specs.Read.{read_root}
use Rattle.dense_tree.specs.Text.{has_text}
use Rattle.dense_tree.specs.Proves.{given_placed, are_in_order}
use Rattle.dense_ledger.specs.Ledger.{Ledger, ended_due, goes_through, first_ledger}

-- given tuples and lines are in place
abbrev pub is_placed : Game → Certificate → Bool
is_placed g c = are_in_order c.given && list_all (given_placed g) c.given && (read_root g c).placed

-- the ledger tells what the certificate comes to
pub record TellsRoot (g : Game) (c : Certificate) (d : Ledger) : Type 0 where
  pub due : d.due ≡ ended_due (read_root g c).verdict (read_root g c).own
  pub turns : d.turns ≡ turns_of c.root
  pub has_open : d.has_open ≡ nat_lt 0 (opens_of c.root)

abbrev pub TellsOf : Game → Certificate → Option Ledger → Type 0
TellsOf g c None = is_placed g c ≡ false
TellsOf g c (Some d) = (is_placed g c ≡ true) × TellsRoot g c d

abbrev pub LedgersAreRight : Type 0
LedgersAreRight =
    (g : Game) (outcome : Outcome) (optimum : Option ℤ) (c : Certificate) → IsTrue (has_text outcome optimum c) →
    TellsOf g c (goes_through g (Some (first_ledger g)) (certificate_lines c))
