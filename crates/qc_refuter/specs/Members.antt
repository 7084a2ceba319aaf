-- Members of a set from a number on.
use Rattle.std.specs.Prelude.{ℤ, ◌≤ℤ◌, IsTrue}
use Rattle.qc_model.specs.declared.problem.Set.{Set}
use Rattle.qc_model.specs.Domains.{set_has}

-- m is the least member that is at least v
pub record IsMemberFrom (s : Set) (v m : ℤ) : Type 0 where
  pub up : v ≤ℤ m
  pub member : IsTrue (set_has s m)
  pub all : (u : ℤ) → v ≤ℤ u → IsTrue (set_has s u) → m ≤ℤ u

-- there is none
abbrev pub NoMemberFrom : Set → ℤ → Type 0
NoMemberFrom s v = (u : ℤ) → v ≤ℤ u → IsTrue (set_has s u) → ⊥
