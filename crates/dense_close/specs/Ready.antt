-- What a closer keeps between its calls.
use Rattle.std.specs.Prelude.{◌≡◌, [], length}
use Rattle.qc_model.specs.Content.{Game}
use Rattle.dense_quiet.specs.declared.taking.Taking.TheVariants.{All, Owners}
use Rattle.dense_close.specs.Index.{Index, IsIndexOf}
use Rattle.dense_close.specs.Memory.{Memories, AreMemories}
use Rattle.dense_close.specs.Waiting.{Waiting, MarkedWait}

-- a queue for the game's constraints in which none waits
pub record IsIdle (g : Game) (w : Waiting) : Type 0 where
  pub count : length w.marks ≡ length g.constraints
  pub waiting : MarkedWait w
  pub empty : w.queue ≡ []

-- the game's index, such a queue, and what is remembered for each choice of what constraints may take
pub record IsReady (g : Game) (i : Index) (w : Waiting) (for_all for_owners : Memories) : Type 0 where
  pub index : IsIndexOf g i
  pub idle : IsIdle g w
  pub all : AreMemories All g for_all
  pub owners : AreMemories Owners g for_owners
