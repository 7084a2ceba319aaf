use Rattle.std.proofs.Common.{◌≡◌, ℕ, ◌+◌, ◌*◌, ◌<◌, ◌||◌, length, take}
use Rattle.std.specs.Prelude.{pos, ◌+ℤ◌}
use Rattle.qc_model.specs.Domains.{has_value}
use Rattle.fd_store.specs.Places.{is_set}
use Rattle.fd_store.proofs.build.set_places.Given as goal

abbrev pub invariant-loop-v : goal.invariant-loop-v
invariant-loop-v l = record {
  long : length l.words.items ≡ length l.initial.words.items;
  before : (p : ℕ) → p < 64 * l.start → is_set l.words.items p ≡ is_set l.initial.words.items p;
  bits : (k : ℕ) → k < l.width → is_set l.words.items (64 * l.start + k) ≡ (is_set l.initial.words.items (64 * l.start + k) || has_value (take l.v-index l.numbers) (l.fn.base +ℤ pos k));
}
