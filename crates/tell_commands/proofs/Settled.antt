-- A run in which nothing failed answers what was asked.
use Rattle.std.proofs.Common.{◌≡◌, ℕ, List, Option, Some, None, refl}
use Rattle.qc_io.specs.Counts.{Rose, NoneRose}
use Rattle.qecode_commands.specs.declared.status.Status.{Status}
use Rattle.qecode_commands.specs.declared.status.Status.TheVariants.{Usage, WriteFault, ReadFault, Memory}
use Rattle.qecode_commands.specs.Answers.{SolvesProblem}
use Rattle.qecode_commands.specs.Files.{Wrote}
use Rattle.qecode_commands.specs.Readings.{worst_game}
use Rattle.qecode_commands.proofs.Completeness.{Laws, for_problem, for_reading, solves_done, no_fault}
use Rattle.tell_commands.specs.Allowed.{ListsFile}
use Rattle.tell_commands.specs.Answers.{Answers}
use Rattle.tell_commands.specs.Complete.{IsComplete}
use Rattle.tell_commands.specs.Opening.{BeginsFile}
use Rattle.tell_commands.specs.Words.{Asked, begins, lists, hopes, assures}
use Rattle.tell_commands.proofs.Begun.{begins_done}
use Rattle.tell_commands.proofs.Positions.{lists_done}

asked_done : Laws → (asked : Option Asked) (told : List ℕ → Option (List ℕ)) (gave : ℕ → Type 0) (s : Status) (t : List ℕ) →
    Answers asked told gave s t → ¬ (s ≡ Memory) → ¬ (s ≡ ReadFault) → IsComplete asked told s
asked_done l None told gave s t h m r = words s h where
  words : (s : Status) → Answers None told gave s t → s ≡ Usage
  words Usage h = refl
  words s h = absurd h
asked_done l (Some (begins problem certificate)) told gave s t h m r =
    λ g own root tells side. begins_done l.never l.certificate certificate (told certificate) gave g own root side s t
    (for_problem l (BeginsFile certificate (told certificate) gave) problem (told problem) gave g tells s t h m r) m r
asked_done l (Some (lists problem position most)) told gave s t h m r =
    λ g tells stands. lists_done most position (told position) gave g stands s t
    (for_problem l (ListsFile most position (told position) gave) problem (told problem) gave g tells s t h m r) m r
asked_done l (Some (hopes name turns)) told gave s t h m r =
    λ g tells f. solves_done turns g s t (for_problem l (SolvesProblem turns) name (told name) gave g tells s t h m r) m f
asked_done l (Some (assures name places turns)) told gave s t h m r =
    λ g tells f. solves_done turns (worst_game places g) s t (for_reading l places (SolvesProblem turns) name (told name) gave g tells s t h m r) m f

-- the answer was written, and nothing failed
pub run_done : Laws → (asked : Option Asked) (told : List ℕ → Option (List ℕ)) (gave : ℕ → Type 0) (old new : Option (List ℕ)) (before now missed misses : ℕ) (s : Status) →
    Wrote old new before now s (Answers asked told gave) → (s ≡ ReadFault → Rose missed misses) →
    NoneRose missed misses → NoneRose before now → ¬ (s ≡ Memory) → IsComplete asked told s
run_done l asked told gave old new before now missed misses WriteFault wrote fault files output m = absurd (no_fault before now wrote.0 output)
run_done l asked told gave old new before now missed misses s wrote fault files output m =
    asked_done l asked told gave s wrote.1.0 wrote.1.1 m (λ e. no_fault missed misses (fault e) files)
