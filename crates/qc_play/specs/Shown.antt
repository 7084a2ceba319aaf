-- What a node of a certificate's tree comes to, as a value.
use Rattle.std.specs.Prelude.{◌≡◌, IsTrue, List, ℤ}
use Rattle.qc_model.specs.Verdict.{is_exact, is_lost}
use Rattle.joins.specs.Seen.{verdict_of}
use Rattle.proof_tree.specs.Finding.{Finding}
use Rattle.qc_play.specs.declared.shown.Shown.{Shown}
use Rattle.qc_play.specs.Shape.{plan_of, tree_of_counter}

-- the value tells what the node comes to, where v is the vector that was handed out with it: the strategy where that is
-- exact, the counterstrategy where it is lost, and elsewhere the trees may be any
pub record Shows (f : Finding) (v : List ℤ) (s : Shown) : Type 0 where
  pub verdict : verdict_of s.found v ≡ f.verdict
  pub plan : IsTrue (is_exact f.verdict) → plan_of s.plan ≡ f.strategy
  pub counter : IsTrue (is_lost f.verdict) → tree_of_counter s.counter ≡ f.counter
