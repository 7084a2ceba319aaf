-- What a nest answers at the end.
use Rattle.std.specs.Prelude.{◌≡◌, ◌-◌, ◌^◌, min, Option, List, ℤ}
use Rattle.qc_model.specs.Verdict.{Verdict}
use Rattle.joins.specs.Seen.{verdict_of}
use Rattle.dense_ledger.specs.Ledger.{Ledger, ended_due}
use Rattle.dense_nest.specs.declared.answer.Answer.{Answer}

-- the root hasn't ended
abbrev pub IsUnended : Ledger → Type 0
IsUnended d = (v : Verdict) (own : Option ℤ) → d.due ≡ ended_due v own → ⊥

-- the root has, and the answer tells what the ledger does; the vector is that of the answer's verdict
pub record IsAnswer (d : Ledger) (a : Answer) : Type 0 where
  pub vector : List ℤ
  pub due : d.due ≡ ended_due (verdict_of a.found vector) a.own
  pub turns : a.turns ≡ min d.turns (2 ^ 64 - 1)
  pub unfinished : a.has_open ≡ d.has_open
