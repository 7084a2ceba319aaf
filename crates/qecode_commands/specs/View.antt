-- A command of the program, seen as what it asks for.
use Rattle.std.specs.Prelude.{◌≤◌, ⊤}
use Rattle.qecode_commands.specs.declared.words.Command.{Command}
use Rattle.qecode_commands.specs.declared.words.Command.TheVariants.{Solve, Check, Play, Print, Decide, Rewrite, Make, Show, Oppose, Restate, Compare}
use Rattle.qecode_commands.specs.Words.{Asked, solves, checks, plays, prints, decides, rewrites, makes, shows, opposes, restates, compares}

abbrev pub asked : Command → Asked
asked (Solve problem turns) = solves problem.now turns
asked (Check problem certificate) = checks problem.now certificate.now
asked (Play problem certificate moves) = plays problem.now certificate.now moves.now
asked (Print problem) = prints problem.now
asked (Decide formula turns) = decides formula.now turns
asked (Rewrite formula) = rewrites formula.now
asked (Make n) = makes n
asked (Show n) = shows n
asked (Oppose problem places turns) = opposes problem.now places turns
asked (Restate problem places) = restates problem.now places
asked (Compare problem places) = compares problem.now places

-- the turns are a budget, and a number is one that a problem is made from
abbrev pub IsWithin : Command → Type 0
IsWithin (Solve problem turns) = (1 ≤ turns) × (turns ≤ 10000000)
IsWithin (Check problem certificate) = ⊤
IsWithin (Play problem certificate moves) = ⊤
IsWithin (Print problem) = ⊤
IsWithin (Decide formula turns) = (1 ≤ turns) × (turns ≤ 10000000)
IsWithin (Rewrite formula) = ⊤
IsWithin (Make n) = n ≤ 1000000
IsWithin (Show n) = n ≤ 1000000
IsWithin (Oppose problem places turns) = (1 ≤ turns) × (turns ≤ 10000000)
IsWithin (Restate problem places) = ⊤
IsWithin (Compare problem places) = ⊤
