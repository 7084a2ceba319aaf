-- What the shelf of files and standard output count. They tell no bytes.
use Rattle.std.specs.Prelude.{ℕ}

pub record ShelfCounts : Type 0 where
  pub faults : ℕ
  pub given : ℕ

pub record SinkCounts : Type 0 where
  pub faults : ℕ
