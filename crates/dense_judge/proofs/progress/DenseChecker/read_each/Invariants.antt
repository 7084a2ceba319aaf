use Rattle.std.proofs.Common.{◌≡◌, ◌≤◌, ◌+◌, ℕ, List, ◌++◌, length}
use Rattle.dense_check.specs.Telling.{game_of}
use Rattle.dense_judge.specs.Checking.{IsChecking, IsReady}
use Rattle.dense_judge.proofs.progress.DenseChecker.read_each.Given as goal

-- the checker was given the bytes before the rest
abbrev pub invariant-loop-rest : goal.invariant-loop-rest
invariant-loop-rest l = record {
  ready : IsReady l.self;
  same : game_of l.self.machine ≡ game_of l.fn.self.machine;
  front : List ℕ;
  whole : l.bytes ≡ front ++ l.rest;
  read : l.self.read ≤ l.fn.self.read + length front;
  checking : (before : List ℕ) → IsChecking l.fn.self before → IsChecking l.self (before ++ front);
}

abbrev pub decreases-loop-rest : goal.decreases-loop-rest
decreases-loop-rest l = length l.rest
