-- A command of the program, seen as what it asks for.
use Rattle.std.specs.Prelude.{◌≤◌, ⊤}
use Rattle.dense_commands.specs.declared.words.Command.{Command}
use Rattle.dense_commands.specs.declared.words.Command.TheVariants.{Solve, Decide, Check}
use Rattle.dense_commands.specs.Words.{Asked, solves, decides, checks}

abbrev pub asked : Command → Asked
asked (Solve problem turns) = solves problem.now turns
asked (Decide formula turns) = decides formula.now turns
asked (Check problem certificate) = checks problem.now certificate.now

-- the turns are a budget
abbrev pub IsWithin : Command → Type 0
IsWithin (Solve problem turns) = (1 ≤ turns) × (turns ≤ 10000000)
IsWithin (Decide formula turns) = (1 ≤ turns) × (turns ≤ 10000000)
IsWithin (Check problem certificate) = ⊤
