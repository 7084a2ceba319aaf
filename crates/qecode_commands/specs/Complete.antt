-- What a run answers in which nothing failed, and where memory sufficed.
use Rattle.std.specs.Prelude.{◌≡◌, ◌⊎◌, ◌≤◌, ◌+◌, ⊤, ℕ, true, List, length, Option, Some, None, IfSome, ℤ, IsTrue}
use Rattle.qc_model.specs.Content.{Game}
use Rattle.qc_model.specs.Turns.{full_turns_of}
use Rattle.qc_syntax.specs.Reads.{Reads}
use Rattle.qdimacs.specs.Grammar.{File}
use Rattle.qdimacs.specs.Content.{game_of}
use Rattle.qdimacs.specs.Refusals.{States, formula_of}
use Rattle.proof_tree.specs.declared.tree.Version.{Version}
use Rattle.proof_tree.specs.declared.tree.Outcome.{Outcome}
use Rattle.proof_tree.specs.Tree.{Tree}
use Rattle.qecode_commands.specs.declared.status.Status.{Status}
use Rattle.qecode_commands.specs.declared.status.Status.TheVariants.{Done, Open, Usage}
use Rattle.qecode_commands.specs.Words.{Asked, solves, checks, plays, prints, decides, rewrites, makes, shows, opposes, restates, compares, usual_turns}
use Rattle.proof_tree.specs.Proves.{proves}
use Rattle.qc_check.specs.Checking.{IsCertificate}
use Rattle.qc_model.specs.declared.problem.Kind.{Kind}
use Rattle.qc_play.specs.Play.{play_of}
use Rattle.qc_play.specs.Playing.{is_played}
use Rattle.qecode_commands.specs.Moves.{bad_moves_at, moves_of}
use Rattle.qecode_commands.specs.Plays.{side_of, shown_tree}
use Rattle.qc_pessimist.specs.declared.reading.Places.{Places}
use Rattle.qc_pessimist.specs.Refusals.{names_a_wish}
use Rattle.qecode_commands.specs.Readings.{worst_game}

-- the file is told, and has the text of this problem
pub record TellsProblem (told : Option (List ℕ)) (g : Game) : Type 0 where
  pub bytes : List ℕ
  pub told_is : told ≡ Some bytes
  pub within : length bytes ≤ 4194304
  pub reads : Reads bytes g

-- the file is told, and has the text of a certificate that proves what it states
pub record TellsProof (told : Option (List ℕ)) (g : Game) : Type 0 where
  pub bytes : List ℕ
  pub told_is : told ≡ Some bytes
  pub within : length bytes ≤ 1073741824
  pub version : Version
  pub outcome : Outcome
  pub optimum : Option ℤ
  pub root : Tree
  pub read : IsCertificate bytes version outcome optimum root
  pub proved : IsTrue (proves g outcome optimum root)

-- the file is told, and has the text of a certificate of this tree that proves what it states, and plays these scopes
pub record TellsSide (told : Option (List ℕ)) (g : Game) (own : Kind) (root : Tree) : Type 0 where
  pub bytes : List ℕ
  pub told_is : told ≡ Some bytes
  pub within : length bytes ≤ 33554432
  pub version : Version
  pub outcome : Outcome
  pub optimum : Option ℤ
  pub read : IsCertificate bytes version outcome optimum root
  pub proved : IsTrue (proves g outcome optimum root)
  pub side : side_of outcome ≡ Some own

-- the file is told, and has moves with which the play comes to its end
pub record TellsMoves (told : Option (List ℕ)) (g : Game) (own : Kind) (root : Tree) : Type 0 where
  pub bytes : List ℕ
  pub told_is : told ≡ Some bytes
  pub within : length bytes ≤ 65536
  pub good : bad_moves_at bytes ≡ None
  pub played : is_played (play_of g own (shown_tree g root own) (moves_of bytes)).ending ≡ true

-- the file is told, and has the text of this formula
pub record TellsFormula (told : Option (List ℕ)) (f : File) : Type 0 where
  pub bytes : List ℕ
  pub told_is : told ≡ Some bytes
  pub within : length bytes ≤ 4194304
  pub states : States bytes f

-- the file is told, and has the text of this problem, for which nothing speaks against the worst ties of these owners
pub record TellsReading (told : Option (List ℕ)) (places : Places) (g : Game) : Type 0 where
  pub problem : TellsProblem told g
  pub named : IsTrue (names_a_wish places g)
  pub few : length (worst_game places g).scopes ≤ 64

-- A problem is solved where the turns are as many as the whole game can take; a certificate that proves what it states is
-- confirmed; a play against one is written, with moves that can be made; a problem is printed. A formula is decided where the
-- turns are as many as its game can take, or its game is printed. A made problem is settled or left open, or its text is
-- written. A game at the worst ties is solved within as many turns as it can take, or printed. Where both numbers are asked each is
-- settled or left open, and settled where the usual turns are as many as the game can take.
abbrev pub Completes : Asked → (List ℕ → Option (List ℕ)) → Status → Type 0
Completes (solves name turns) told status = (g : Game) → TellsProblem (told name) g → full_turns_of g ≤ turns → status ≡ Done
Completes (prints name) told status = (g : Game) → TellsProblem (told name) g → status ≡ Done
Completes (checks problem certificate) told status =
    (g : Game) → TellsProblem (told problem) g → TellsProof (told certificate) g → status ≡ Done
Completes (plays problem certificate moves) told status =
    (g : Game) (own : Kind) (root : Tree) → TellsProblem (told problem) g → TellsSide (told certificate) g own root → TellsMoves (told moves) g own root → status ≡ Done
Completes (decides name turns) told status = (f : File) → TellsFormula (told name) f → full_turns_of (game_of (formula_of f)) ≤ turns → status ≡ Done
Completes (rewrites name) told status = (f : File) → TellsFormula (told name) f → status ≡ Done
Completes (makes n) told status = (status ≡ Done) ⊎ (status ≡ Open)
Completes (shows n) told status = status ≡ Done
Completes (opposes name places turns) told status = (g : Game) → TellsReading (told name) places g → full_turns_of (worst_game places g) ≤ turns → status ≡ Done
Completes (restates name places) told status = (g : Game) → TellsReading (told name) places g → status ≡ Done
Completes (compares name places) told status =
    (g : Game) → TellsReading (told name) places g → ((status ≡ Done) ⊎ (status ≡ Open)) × (full_turns_of g ≤ usual_turns → status ≡ Done)

abbrev pub IsComplete : Option Asked → (List ℕ → Option (List ℕ)) → Status → Type 0
IsComplete None told status = status ≡ Usage
IsComplete (Some asked) told status = Completes asked told status

-- Where memory may run out: words that match no command need none, and `check` needs none from the first byte of the
-- certificate on. Before it, no more was given than the problem's file has.
abbrev pub MayRunOut : Option Asked → (List ℕ → Option (List ℕ)) → ℕ → ℕ → Type 0
MayRunOut None told before now = ⊥
MayRunOut (Some (solves name turns)) told before now = ⊤
MayRunOut (Some (prints name)) told before now = ⊤
MayRunOut (Some (checks problem certificate)) told before now = IfSome (told problem) (λ bytes. now ≤ before + length bytes)
MayRunOut (Some (plays problem certificate moves)) told before now = ⊤
MayRunOut (Some (decides name turns)) told before now = ⊤
MayRunOut (Some (rewrites name)) told before now = ⊤
MayRunOut (Some (makes n)) told before now = ⊤
MayRunOut (Some (shows n)) told before now = ⊤
MayRunOut (Some (opposes name places turns)) told before now = ⊤
MayRunOut (Some (restates name places)) told before now = ⊤
MayRunOut (Some (compares name places)) told before now = ⊤
