-- What is answered where the owners of chosen scopes meet the worst ties of later ones.
use Rattle.std.specs.Prelude.{◌≡◌, ◌≤◌, ◌⊎◌, List, [], codes, length, ℕ, IsTrue}
use Rattle.qc_model.specs.Content.{Game}
use Rattle.qc_pessimist.specs.declared.reading.Places.{Places}
use Rattle.qc_pessimist.specs.declared.reading.NoReading.{NoReading as Fault}
use Rattle.qc_pessimist.specs.declared.reading.NoReading.TheVariants.{NoCondition, TooManyScopes, Memory as Want}
use Rattle.qc_pessimist.specs.Opposed.{opposed_game}
use Rattle.qc_pessimist.specs.Refusals.{is_chosen, names_a_wish, Refuses}
use Rattle.qc_pessimist.specs.Laws.{ReadsAtWorst, NoBetterAtWorst}
use Rattle.qecode_commands.specs.declared.status.Status.{Status}
use Rattle.qecode_commands.specs.declared.status.Status.TheVariants.{Memory, NoReading}

-- the game in which an owner of the opposite wish stands after each chosen one
abbrev pub worst_game : Places → Game → Game
worst_game places g = opposed_game (is_chosen places) g

-- It has few enough scopes, and tells what the game comes to at the worst ties. Where the first owner alone meets them, that
-- isn't better than its optimum.
pub record HasReading (places : Places) (g : Game) : Type 0 where
  pub named : IsTrue (names_a_wish places g)
  pub few : length (worst_game places g).scopes ≤ 64
  pub reads : ReadsAtWorst (is_chosen places) g (worst_game places g)
  pub law : NoBetterAtWorst (is_chosen places) g

abbrev pub ReadingLine : Fault → List ℕ → Type 0
ReadingLine NoCondition text = text ≡ codes "no condition\n"
ReadingLine TooManyScopes text = text ≡ codes "too many scopes\n"
ReadingLine (Want e) text = ⊥

-- what is answered for a fault
abbrev pub TurnsFaultDown : Fault → Status → List ℕ → Type 0
TurnsFaultDown NoCondition status text = (status ≡ NoReading) × (text ≡ codes "no condition\n")
TurnsFaultDown TooManyScopes status text = (status ≡ NoReading) × (text ≡ codes "too many scopes\n")
TurnsFaultDown (Want e) status text = (status ≡ Memory) × (text ≡ [])

-- there is no such game, and the line tells why
pub record HasNoReading (places : Places) (g : Game) (text : List ℕ) : Type 0 where
  pub why : Fault
  pub refuses : Refuses why places g
  pub line : ReadingLine why text

-- what is answered where there is none
abbrev pub TurnsReadingDown : Places → Game → Status → List ℕ → Type 0
TurnsReadingDown places g NoReading text = HasNoReading places g text
TurnsReadingDown places g Memory text = text ≡ []
TurnsReadingDown places g status text = ⊥

-- what is answered for a problem, where P says what is answered for that game
abbrev pub AnswersReading : Places → (Game → Status → List ℕ → Type 0) → Game → Status → List ℕ → Type 0
AnswersReading places P g status text =
    TurnsReadingDown places g status text ⊎ (HasReading places g × P (worst_game places g) status text)
