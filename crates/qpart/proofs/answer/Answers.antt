use Rattle.std.proofs.Common.{◌≡◌, ℕ, List, map, string_bytes, Option, None, Bor, ap}
use Rattle.qc_io.specs.Counts.{Rose, RoseBy}
use Rattle.qc_io.specs.Edge.{ShelfCounts, SinkCounts}
use Rattle.qecode_commands.specs.declared.status.Status.{Status}
use Rattle.qecode_commands.specs.declared.status.Status.TheVariants.{ReadFault}
use Rattle.part_commands.specs.Words.{Asked, asked_of}
use Rattle.part_commands.specs.Answers.{Answers}
use Rattle.qecode_commands.specs.Files.{Wrote}
use Rattle.qpart.specs.Edge.{EndsRight}
use Rattle.qpart.proofs.answer.Goals as goal

ends_right : (was asked : Option Asked) (before now from to missed misses : ℕ) (status : Status) → was ≡ asked → before ≡ 0 → from ≡ 0 → missed ≡ 0
    → Wrote None None before now status (Answers was (λ name. None) (λ n. RoseBy n from to))
    → (status ≡ ReadFault → Rose missed misses) → ((status ≡ ReadFault → ⊥) → misses ≡ missed) → EndsRight asked status
ends_right was asked before now from to missed misses status same b f m h r n = record {
  faults = now;
  given = to;
  wrote = rw (same, b, f) at h;
  read_faults = misses;
  read_fault = rw m at r;
  no_read_fault = rw m at n;
}

pub returns : goal.returns
returns g c =
    let same : map (λ (w : Bor (List ℕ)). w.now) c.as_slice.result.now ≡ map string_bytes c.args.words.now = rw c.as_slice.ensures.value c.in_ok-texts.ensures in
    ends_right _ _ c.new-out.result.faults c.run.new.out.faults c.new-shelf.result.given c.run.new.shelf.given c.new-shelf.result.faults c.run.new.shelf.faults c.run.result
    (ap asked_of same) (ap (λ (s : SinkCounts). s.faults) c.new-out.ensures) (ap (λ (s : ShelfCounts). s.given) c.new-shelf.ensures) (ap (λ (s : ShelfCounts). s.faults) c.new-shelf.ensures)
    c.run.ensures.wrote c.run.ensures.read_fault c.run.ensures.no_read_fault
