-- What is answered for a piece, from its last step to its first.
use Rattle.std.proofs.Common.{◌≡◌, ◌∙◌, ℕ, ℤ, List, ◌++◌, Option, Some, None, inl, inr, refl, ap}
use Rattle.std.specs.Prelude.{codes, IsTrue, IsFalse, is_some}
use Rattle.qc_model.specs.Content.{Game}
use Rattle.qc_model.specs.Domains.{has_empty}
use Rattle.proof_tree.specs.declared.line.Line.{Line}
use Rattle.proof_tree.specs.declared.tree.Outcome.{Outcome}
use Rattle.proof_tree.specs.declared.tree.Outcome.TheVariants.{True, False, Open as OpenOutcome}
use Rattle.proof_tree.specs.Proves.{optimises_first}
use Rattle.strategy_arena.specs.Certificate.{text_of_lines}
use Rattle.game_search.specs.declared.pieces.Keep.{Keep}
use Rattle.game_search.specs.Pieces.{PieceLines, kept_box}
use Rattle.qecode_commands.specs.declared.status.Status.{Status}
use Rattle.qecode_commands.specs.declared.status.Status.TheVariants.{NoReading, Memory}
use Rattle.qecode_commands.specs.Certifies.{status_of}
use Rattle.part_commands.specs.Words.{Asked}
use Rattle.part_commands.specs.Pieces.{keeps_of, first_unknown, piece_head, piece_text, IsPiece}
use Rattle.part_commands.specs.Answers.{TellsUnknown, SolvesPiece}

module _ (asked : Asked) (g : Game) where
  pub unknown_told : (name : List ℕ) → first_unknown g asked.keeps ≡ Some name → (s : Status) (t : List ℕ) → TellsUnknown name s t → SolvesPiece asked g s t
  unknown_told name e NoReading t h = inl (record { name = name; first = e; line = h })
  unknown_told name e Memory t h = h
  unknown_told name e s t h = absurd h

  pub unwished : first_unknown g asked.keeps ≡ None → IsTrue (is_some asked.reached) → IsFalse (optimises_first g.scopes) →
      (s : Status) (t : List ℕ) → (s ≡ NoReading) × (t ≡ codes "no condition\n") → SolvesPiece asked g s t
  unwished e r n s t is = rw is.0 (inr (inl (record { named = e; reached = r; none = n; line = is.1 })))

  module _ (keeps : List Keep) (named : keeps_of g asked.keeps ≡ Some keeps) where
    pub emptied : IsTrue (has_empty (kept_box g keeps)) → (s : Status) (t : List ℕ) → (s ≡ NoReading) × (t ≡ codes "no value left\n") → SolvesPiece asked g s t
    emptied e s t is = rw is.0 (inr (inr (record { keeps = keeps; named = named; empty = e; line = is.1 })))

    module _ (outcome : Outcome) (optimum : Option ℤ) (lines : List Line) (piece : PieceLines g (kept_box g keeps) asked.reached asked.turns outcome optimum lines) where
      is_piece : (t : List ℕ) → t ≡ piece_text asked.keeps asked.reached outcome optimum lines → IsPiece asked g (status_of outcome) t
      is_piece t e = record { keeps = keeps; outcome = outcome; optimum = optimum; lines = lines; named = named; piece = piece; written = e; ends = refl }

      by_outcome : (o : Outcome) → o ≡ outcome → (t : List ℕ) → IsPiece asked g (status_of o) t → SolvesPiece asked g (status_of o) t
      by_outcome True e t h = h
      by_outcome False e t h = h
      by_outcome (OpenOutcome n) e t h = h

      pub piece_told : (head : List ℕ) → head ≡ piece_head asked.keeps asked.reached → (s : Status) (t : List ℕ) →
          (s ≡ status_of outcome) × (t ≡ head ++ text_of_lines outcome optimum lines) → SolvesPiece asked g s t
      piece_told head e s t is =
          rw is.0 (by_outcome outcome refl t (is_piece t (is.1 ∙ ap (λ h. h ++ text_of_lines outcome optimum lines) e)))
