-- Two ledgers that say the same, but for what nodes came to before the end.
use Rattle.std.specs.Prelude.{◌≡◌}
use Rattle.check_lines.specs.Awaited.{none_awaited}
use Rattle.check_lines.specs.Ledger.{Ledger}

-- another line may follow
abbrev pub Waits : Ledger → Type 0
Waits d = d.awaited ≡ none_awaited → ⊥

-- what no line reads any more isn't compared
pub record IsSame (d e : Ledger) : Type 0 where
  pub box : Waits d → d.box ≡ e.box
  pub entries : d.entries ≡ e.entries
  pub awaited : d.awaited ≡ e.awaited
  pub number : Waits d → d.number ≡ e.number
  pub horizon : Waits d → d.horizon ≡ e.horizon
  pub seen : Waits d → d.seen ≡ e.seen
  pub before : Waits d → d.before ≡ e.before
  pub turns : d.turns ≡ e.turns
  pub has_open : d.has_open ≡ e.has_open
  pub ends : d.awaited ≡ none_awaited → (d.verdict ≡ e.verdict) × (d.own ≡ e.own)
