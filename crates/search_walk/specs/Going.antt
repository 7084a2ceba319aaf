-- Where a scope's own tree goes on from closing.
use Rattle.std.specs.Prelude.{ℕ, IsTrue}
use Rattle.qc_model.specs.Content.{Game}
use Rattle.qc_model.specs.Domains.{has_empty}
use Rattle.prop_engine.specs.declared.answer.Closed.{Closed}
use Rattle.prop_engine.specs.declared.answer.Closed.TheVariants.{Open, Empty}
use Rattle.search_box.specs.Boxed.{Boxed}
use Rattle.search_box.specs.Closes.{IsClosedAt}
use Rattle.search_box.specs.Entered.{IsWithin}

-- at scope i, each variable of it before x has one value left, and the box is closed for the constraints in force
pub record IsGoing (g : Game) (i x : ℕ) (b : Boxed) : Type 0 where
  pub within : IsWithin g i x b
  pub closed : IsClosedAt g i b.store.box

-- so after closing, or a domain is empty
abbrev pub GoesOn : Closed → Game → ℕ → ℕ → Boxed → Type 0
GoesOn Open g i x b = IsGoing g i x b
GoesOn Empty g i x b = IsTrue (has_empty b.store.box)
