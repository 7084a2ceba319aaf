-- What a machine stands for, and what it keeps whatever items come.
use Rattle.std.specs.Prelude.{◌≡◌, ◌≤◌, length}
use Rattle.qc_model.specs.Content.{Game}
use Rattle.lemma_list.specs.Places.{place}
use Rattle.lemma_check.specs.declared.machine.Stage.{Stage}
use Rattle.lemma_check.specs.declared.machine.Stage.TheVariants.{Between, Heading, Closing, Wrong}
use Rattle.lemma_check.specs.declared.machine.LemmaMachine.{LemmaMachine}
use Rattle.lemma_check.specs.Books.{Book, between, heading, closing, wrong}
use Rattle.lemma_check.specs.Held.{IsHeldOf}

abbrev pub game_of : LemmaMachine → Game
game_of m = m.levels.problem.now

abbrev pub book_at : Stage → LemmaMachine → Book
book_at Between m = between m.known.items m.loser
book_at Heading m = heading m.known.items m.lemma
book_at Closing m = closing m.known.items m.lemma m.passed m.remains.box
book_at Wrong m = wrong

abbrev pub book_of : LemmaMachine → Book
book_of m = book_at m.stage m

-- the position of a lemma is known while its steps are taken
abbrev pub IsPlacedAt : Stage → LemmaMachine → Type 0
IsPlacedAt Between m = Unit {0}
IsPlacedAt Heading m = Unit {0}
IsPlacedAt Closing m = (m.place ≡ place (game_of m) m.lemma) × (m.place ≤ length (game_of m).scopes)
IsPlacedAt Wrong m = Unit {0}

pub record IsReady (m : LemmaMachine) : Type 0 where
  pub held : IsHeldOf (game_of m) m.remains
  pub placed : IsPlacedAt m.stage m
