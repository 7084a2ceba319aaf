-- Where a block ends, by its last scope.
use Rattle.std.proofs.Common.{◌≡◌, ◌⊎◌, inl, inr, ℕ, suc, ◌+◌, ◌<◌, ◌≤◌, List, [], ◌∷◌, drop, length, length-drop, arith}
use Rattle.qc_model.specs.declared.problem.Kind.{Kind}
use Rattle.qc_model.specs.declared.problem.Kind.TheVariants.{Exists, Forall}
use Rattle.qc_model.specs.declared.problem.Scope.{Scope}
use Rattle.qc_model.specs.Block.{of_kind, block_stop}
use Rattle.qc_model.specs.BlockEnd.{block_end_of}
use Rattle.qc_model.specs.Content.{Game}

-- it ends before one of the scopes, or takes in the goal
stop_apart : (later : List Scope) (j : ℕ) → ((j ≤ block_stop later j) × (block_stop later j < j + length later)) ⊎ (block_stop later j ≡ suc (j + length later))
stop_apart [] j = inr (omega arith)
stop_apart (s ∷ later) j = by s.kind (stop_apart later (suc j))
  where
    by : (k : Kind) → ((suc j ≤ block_stop later (suc j)) × (block_stop later (suc j) < suc j + length later)) ⊎ (block_stop later (suc j) ≡ suc (suc j + length later)) →
        ((j ≤ of_kind k (block_stop later (suc j)) j) × (of_kind k (block_stop later (suc j)) j < j + suc (length later))) ⊎ (of_kind k (block_stop later (suc j)) j ≡ suc (j + suc (length later)))
    by Exists (inl l) = let a = l.0 in let b = l.1 in inl (omega (arith, a), omega (arith, b))
    by Exists (inr e) = inr (omega (arith, e))
    by Forall h = inl (omega arith, omega arith)

pub with_goal : (g : Game) (i e : ℕ) → i < length g.scopes → e ≡ block_end_of g i → e + 1 ≡ length g.scopes → e + 1 + 1 ≡ block_stop (drop (i + 1) g.scopes) (i + 1)
with_goal g i e h q n = by (stop_apart (drop (i + 1) g.scopes) (i + 1))
  where
    by : ((i + 1 ≤ block_stop (drop (i + 1) g.scopes) (i + 1)) × (block_stop (drop (i + 1) g.scopes) (i + 1) < i + 1 + length (drop (i + 1) g.scopes))) ⊎ (block_stop (drop (i + 1) g.scopes) (i + 1) ≡ suc (i + 1 + length (drop (i + 1) g.scopes))) →
        e + 1 + 1 ≡ block_stop (drop (i + 1) g.scopes) (i + 1)
    by (inl l) = let a = l.0 in let b = l.1 in let d = length-drop (i + 1) g.scopes in absurd (omega (arith, a, b, d, h, q, n))
    by (inr s) = let d = length-drop (i + 1) g.scopes in omega (arith, s, d, h, q, n)

pub before_goal : (g : Game) (i e : ℕ) → i < length g.scopes → e ≡ block_end_of g i → (e + 1 ≡ length g.scopes → ⊥) → e + 1 ≡ block_stop (drop (i + 1) g.scopes) (i + 1)
before_goal g i e h q n = by (stop_apart (drop (i + 1) g.scopes) (i + 1))
  where
    by : ((i + 1 ≤ block_stop (drop (i + 1) g.scopes) (i + 1)) × (block_stop (drop (i + 1) g.scopes) (i + 1) < i + 1 + length (drop (i + 1) g.scopes))) ⊎ (block_stop (drop (i + 1) g.scopes) (i + 1) ≡ suc (i + 1 + length (drop (i + 1) g.scopes))) →
        e + 1 ≡ block_stop (drop (i + 1) g.scopes) (i + 1)
    by (inl l) = let a = l.0 in let b = l.1 in let d = length-drop (i + 1) g.scopes in omega (arith, a, b, d, h, q)
    by (inr s) = let d = length-drop (i + 1) g.scopes in absurd (n (omega (arith, s, d, h, q)))
