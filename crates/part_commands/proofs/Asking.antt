-- What is answered where memory was refused while the words were read.
use Rattle.std.proofs.Common.{◌≤◌, ℕ, List, [], Option, Some, None, Bor, map, length, inl, refl}
use Rattle.std.proofs.lemmas.List.{length-map}
use Rattle.qecode_commands.specs.declared.status.Status.TheVariants.{Memory}
use Rattle.part_commands.specs.Words.{Asked}
use Rattle.part_commands.specs.Answers.{Answers}
use Rattle.part_commands.specs.Complete.{MayRunOut}

pub memory_answered : (asked : Option Asked) (told : List ℕ → Option (List ℕ)) (gave : ℕ → Type 0) → Answers asked told gave Memory []
memory_answered None told gave = refl
memory_answered (Some asked) told gave = inl refl

pub may_run_out : (ws : List (Bor (List ℕ))) (asked : Option Asked) → 6 ≤ length ws → MayRunOut (map (λ w. w.now) ws) asked
may_run_out ws None h = simp length-map h
may_run_out ws (Some asked) h = tt
