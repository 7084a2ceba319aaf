-- A run in which nothing failed answers what was asked.
use Rattle.std.proofs.Common.{◌≡◌, ◌⊎◌, ℕ, ℤ, Bool, List, Option, Some, None, inl, inr, refl}
use Rattle.std.specs.Prelude.{IsTrue, IsFalse, IfSome, is_some}
use Rattle.qc_io.specs.Counts.{Rose, NoneRose}
use Rattle.qc_model.specs.Content.{Game}
use Rattle.proof_tree.specs.Proves.{optimises_first}
use Rattle.qecode_commands.specs.declared.status.Status.{Status}
use Rattle.qecode_commands.specs.declared.status.Status.TheVariants.{Done, Open, Usage, NoReading, WriteFault, ReadFault, Memory}
use Rattle.qecode_commands.specs.Files.{Wrote}
use Rattle.qecode_commands.proofs.Completeness.{Laws, for_problem, no_fault}
use Rattle.part_commands.specs.Words.{Asked}
use Rattle.part_commands.specs.Answers.{HasNoPiece, SolvesPiece, Answers}
use Rattle.part_commands.specs.Complete.{HasPiece, IsComplete}

both : (b : Bool) → IsTrue b → IsFalse b → ⊥
both b h k = cc

wished : (reached : Option ℤ) (b : Bool) → IsTrue (is_some reached) → IfSome reached (λ value. IsTrue b) → IsFalse b → ⊥
wished None b r h k = cc
wished (Some value) b r h k = both b h k

-- nothing tells that there is no such piece
never_without : (asked : Asked) (g : Game) (t : List ℕ) → HasNoPiece asked g t → HasPiece asked g → ⊥
never_without asked g t h has =
    elim h [
      | inl unknown ↦ let known = has.known in let first = unknown.first in cc
      | inr (inl plain) ↦ wished asked.reached (optimises_first g.scopes) plain.reached has.wished plain.none
      | inr (inr empty) ↦ both _ empty.empty (has.some empty.keeps empty.named)
    ]

piece_done : (asked : Asked) (g : Game) (s : Status) (t : List ℕ) → SolvesPiece asked g s t → ¬ (s ≡ Memory) → HasPiece asked g → (s ≡ Done) ⊎ (s ≡ Open)
piece_done asked g Done t h m has = inl refl
piece_done asked g Open t h m has = inr refl
piece_done asked g NoReading t h m has = absurd (never_without asked g t h has)
piece_done asked g Memory t h m has = absurd (m refl)
piece_done asked g s t h m has = absurd h

no_words : (told : List ℕ → Option (List ℕ)) (gave : ℕ → Type 0) (s : Status) (t : List ℕ) → Answers None told gave s t → ¬ (s ≡ Memory) → s ≡ Usage
no_words told gave Usage t h m = refl
no_words told gave Memory t h m = absurd (m refl)
no_words told gave s t h m = absurd h

asked_done : Laws → (asked : Option Asked) (told : List ℕ → Option (List ℕ)) (gave : ℕ → Type 0) (s : Status) (t : List ℕ) →
    Answers asked told gave s t → ¬ (s ≡ Memory) → ¬ (s ≡ ReadFault) → IsComplete asked told s
asked_done l None told gave s t h m r = no_words told gave s t h m
asked_done l (Some asked) told gave s t h m r =
    λ g tells has. piece_done asked g s t (for_problem l (SolvesPiece asked) asked.problem (told asked.problem) gave g tells s t h m r) m has

-- the answer was written, and nothing failed
pub run_done : Laws → (asked : Option Asked) (told : List ℕ → Option (List ℕ)) (gave : ℕ → Type 0) (old new : Option (List ℕ)) (before now missed misses : ℕ) (s : Status) →
    Wrote old new before now s (Answers asked told gave) → (s ≡ ReadFault → Rose missed misses) →
    NoneRose missed misses → NoneRose before now → ¬ (s ≡ Memory) → IsComplete asked told s
run_done l asked told gave old new before now missed misses WriteFault wrote fault files output m = absurd (no_fault before now wrote.0 output)
run_done l asked told gave old new before now missed misses s wrote fault files output m =
    asked_done l asked told gave s wrote.1.0 wrote.1.1 m (λ e. no_fault missed misses (fault e) files)
