-- What is answered for a play against what a certificate shows.
use Rattle.std.specs.Prelude.{◌≡◌, ◌⊎◌, ℕ, ℤ, List, [], ◌++◌, codes, decimal, Option, Some, None, IsTrue}
use Rattle.qc_model.specs.declared.problem.Kind.{Kind}
use Rattle.qc_model.specs.declared.problem.Kind.TheVariants.{Exists, Forall}
use Rattle.qc_model.specs.Content.{Game}
use Rattle.qc_model.specs.Plan.{Plan as Choices}
use Rattle.proof_tree.specs.declared.tree.Outcome.{Outcome}
use Rattle.proof_tree.specs.declared.tree.Outcome.TheVariants.{True, False, Open as OpenOutcome}
use Rattle.proof_tree.specs.Tree.{Tree}
use Rattle.proof_tree.specs.Read.{strategy_of, counter_of}
use Rattle.proof_tree.specs.Proves.{proves}
use Rattle.proof_tree.specs.Text.{place_text}
use Rattle.qc_play.specs.declared.fault.PlayFault.{PlayFault}
use Rattle.qc_play.specs.declared.fault.PlayFault.TheVariants.{Missing, NotAllowed, Memory as Want}
use Rattle.qc_play.specs.Play.{Ending, at_goal, stuck_at, hopeless_at, missing_at, not_allowed_at, play_of}
use Rattle.qc_play.specs.Playing.{IsTextOf}
use Rattle.qc_play.specs.Ends.{IsSound, EndsWell}
use Rattle.qecode_commands.specs.declared.status.Status.{Status}
use Rattle.qecode_commands.specs.declared.status.Status.TheVariants.{Done, NotProved, Open, BadMoves, Memory}
use Rattle.qecode_commands.specs.Files.{IsFile, TurnsFileDown}
use Rattle.qecode_commands.specs.Certificates.{TurnsCertificateDown, IsCertificateOf}
use Rattle.qecode_commands.specs.Moves.{bad_moves_at, moves_of, TurnsMovesDown}

-- whose scopes a certificate plays that states this: the player's where the game is won, the opponent's where it isn't
abbrev pub side_of : Outcome → Option Kind
side_of True = Some Exists
side_of False = Some Forall
side_of (OpenOutcome n) = None

-- the tree of choices that it shows for them: a strategy, or a counterstrategy
abbrev pub shown_tree : Game → Tree → Kind → Choices
shown_tree g root Exists = strategy_of g root
shown_tree g root Forall = counter_of g root

-- The certificate proves what it states, and plays the scopes of this kind. Its strategy is optimal, and its
-- counterstrategy wins.
pub record ShowsSide (g : Game) (outcome : Outcome) (optimum : Option ℤ) (root : Tree) (own : Kind) : Type 0 where
  pub proves : IsTrue (proves g outcome optimum root)
  pub side : side_of outcome ≡ Some own
  pub sound : IsSound own g g.scopes 0 [] (shown_tree g root own)

-- The text is that of the play of these moves, which comes to its end, and it ends as it has to: by a strategy in a goal that
-- holds, or with an opponent who has no allowed tuple; by a counterstrategy in a goal that doesn't hold, or with a player
-- each of whose tuples, or the one taken, lets nobody pass the block.
pub record IsPlay (g : Game) (own : Kind) (tree : Choices) (moves : List ℤ) (text : List ℕ) : Type 0 where
  pub told : IsTextOf (play_of g own tree moves) text
  pub ends : EndsWell own g (play_of g own tree moves)

-- the line of moves that fail at a scope, which counts from 1
abbrev pub missing_line : ℕ → List ℕ
missing_line i = codes "move missing at scope " ++ place_text i ++ codes "\n"

abbrev pub not_allowed_line : ℕ → List ℕ
not_allowed_line i = codes "move not allowed at scope " ++ place_text i ++ codes "\n"

abbrev pub FailLine : Ending → List ℕ → Type 0
FailLine (at_goal holds) text = ⊥
FailLine (stuck_at i) text = ⊥
FailLine (hopeless_at i) text = ⊥
FailLine (missing_at i) text = text ≡ missing_line i
FailLine (not_allowed_at i) text = text ≡ not_allowed_line i

-- what is answered where there is no play
abbrev pub TurnsPlayDown : PlayFault → Status → List ℕ → Type 0
TurnsPlayDown (Missing i) status text = (status ≡ BadMoves) × (text ≡ missing_line i.0)
TurnsPlayDown (NotAllowed i) status text = (status ≡ BadMoves) × (text ≡ not_allowed_line i.0)
TurnsPlayDown (Want e) status text = (status ≡ Memory) × (text ≡ [])

-- what is answered for moves
abbrev pub PlaysMoves : Game → Kind → Choices → List ℤ → Status → List ℕ → Type 0
PlaysMoves g own tree moves Done text = IsPlay g own tree moves text
PlaysMoves g own tree moves BadMoves text = FailLine (play_of g own tree moves).ending text
PlaysMoves g own tree moves Memory text = text ≡ []
PlaysMoves g own tree moves status text = ⊥

-- for the bytes of their text
abbrev pub PlaysBytes : Game → Kind → Choices → List ℕ → Status → List ℕ → Type 0
PlaysBytes g own tree bytes status text =
    TurnsMovesDown bytes status text ⊎ ((bad_moves_at bytes ≡ None) × PlaysMoves g own tree (moves_of bytes) status text)

-- and for its file
abbrev pub PlaysFile : Game → Kind → Choices → List ℕ → Option (List ℕ) → (ℕ → Type 0) → Status → List ℕ → Type 0
PlaysFile g own tree name told gave status text =
    TurnsFileDown 65536 name told gave status text ⊎ ((bytes : List ℕ) × IsFile 65536 told bytes × PlaysBytes g own tree bytes status text)

-- the certificate proves that the game was left open, and the line tells after how many turns
pub record IsOpen (g : Game) (outcome : Outcome) (optimum : Option ℤ) (root : Tree) (text : List ℕ) : Type 0 where
  pub proves : IsTrue (proves g outcome optimum root)
  pub turns : ℕ
  pub outcome_is : outcome ≡ OpenOutcome turns
  pub line : text ≡ codes "open " ++ decimal turns ++ codes "\n"

-- it doesn't prove what it states
pub record IsNotProved (g : Game) (outcome : Outcome) (optimum : Option ℤ) (root : Tree) (text : List ℕ) : Type 0 where
  pub fails : IsTrue (proves g outcome optimum root) → ⊥
  pub line : text ≡ codes "no\n"

-- what is answered for a certificate, before moves are asked for, and for a file of moves
abbrev pub PlaysCertificate : Outcome → Option ℤ → Tree → List ℕ → Option (List ℕ) → (ℕ → Type 0) → Game → Status → List ℕ → Type 0
PlaysCertificate outcome optimum root name told gave g NotProved text = IsNotProved g outcome optimum root text
PlaysCertificate outcome optimum root name told gave g Open text = IsOpen g outcome optimum root text
PlaysCertificate outcome optimum root name told gave g Memory text = text ≡ []
PlaysCertificate outcome optimum root name told gave g status text =
    (own : Kind) × ShowsSide g outcome optimum root own × PlaysFile g own (shown_tree g root own) name told gave status text

-- what `play` answers for a problem, a certificate's file and one of moves
abbrev pub PlaysProblem : List ℕ → List ℕ → (List ℕ → Option (List ℕ)) → (ℕ → Type 0) → Game → Status → List ℕ → Type 0
PlaysProblem certificate moves told gave g status text =
    TurnsCertificateDown certificate (told certificate) gave status text
    ⊎ ((outcome : Outcome) × (optimum : Option ℤ) × (root : Tree) × IsCertificateOf (told certificate) outcome optimum root
    × PlaysCertificate outcome optimum root moves (told moves) gave g status text)
