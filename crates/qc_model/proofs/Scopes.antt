-- Where a block ends.
use Rattle.std.proofs.Common.{◌≡◌, ℕ, zero, suc, ◌+◌, ◌<◌, min, List, [], ◌∷◌, drop, length, arith, IsTrue, length-drop}
use Rattle.std.specs.Prelude.{slice_get}
use Rattle.qc_model.specs.declared.problem.Kind.{Kind}
use Rattle.qc_model.specs.declared.problem.Kind.TheVariants.{Exists, Forall}
use Rattle.qc_model.specs.declared.problem.Scope.{Scope}
use Rattle.qc_model.specs.Block.{of_kind, block_stop}
use Rattle.qc_model.specs.BlockEnd.{is_existential, block_end_of, exists_run}
use Rattle.qc_model.specs.Content.{Game}

stop_step : (k : Kind) (later : List Scope) (j : ℕ) → min (block_stop later (suc j)) (suc j + length later) ≡ suc j + exists_run later →
    min (of_kind k (block_stop later (suc j)) j) (j + suc (length later)) ≡ j + of_kind k (suc (exists_run later)) 0
stop_step Exists later j h = omega (arith, h)
stop_step Forall later j h = omega arith

stop_is : (later : List Scope) (j : ℕ) → min (block_stop later j) (j + length later) ≡ j + exists_run later
stop_is [] j = omega arith
stop_is (s ∷ later) j = stop_step s.kind later j (stop_is later (suc j))

pub block_end_is : (g : Game) (i : ℕ) → i < length g.scopes → i + exists_run (drop (i + 1) g.scopes) ≡ block_end_of g i
block_end_is g i h =
    let stop = stop_is (drop (i + 1) g.scopes) (i + 1) in
    let left = length-drop (i + 1) g.scopes in
    omega (arith, stop, left)

exists_within : (scopes : List Scope) (i : ℕ) → IsTrue (is_existential (slice_get scopes i)) → i < length scopes
exists_within [] zero h = cc
exists_within [] (suc i) h = cc
exists_within (s ∷ scopes) zero h = omega arith
exists_within (s ∷ scopes) (suc i) h = let k = exists_within scopes i h in omega (arith, k)

pub block_end_at : (g : Game) (i : ℕ) → IsTrue (is_existential (slice_get g.scopes i)) → i + exists_run (drop (i + 1) g.scopes) ≡ block_end_of g i
block_end_at g i h = block_end_is g i (exists_within g.scopes i h)

pub block_within : (g : Game) (i : ℕ) → IsTrue (is_existential (slice_get g.scopes i)) → i < length g.scopes
block_within g i h = exists_within g.scopes i h
