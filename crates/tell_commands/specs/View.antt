-- A command of the program, seen as what it asks for.
use Rattle.std.specs.Prelude.{◌≤◌, ⊤}
use Rattle.tell_commands.specs.declared.words.Command.{Command}
use Rattle.tell_commands.specs.declared.words.Command.TheVariants.{First, Allowed, Hopeful, Sure}
use Rattle.tell_commands.specs.Words.{Asked, begins, lists, hopes, assures}

abbrev pub asked : Command → Asked
asked (First problem certificate) = begins problem.now certificate.now
asked (Allowed problem position most) = lists problem.now position.now most
asked (Hopeful problem turns) = hopes problem.now turns
asked (Sure problem places turns) = assures problem.now places turns

-- the turns are a budget
abbrev pub IsWithin : Command → Type 0
IsWithin (First problem certificate) = ⊤
IsWithin (Allowed problem position most) = ⊤
IsWithin (Hopeful problem turns) = (1 ≤ turns) × (turns ≤ 10000000)
IsWithin (Sure problem places turns) = (1 ≤ turns) × (turns ≤ 10000000)
