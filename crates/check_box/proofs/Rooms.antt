-- Room on a trail, from the beginning on.
use Rattle.std.proofs.Common.{◌≡◌, ◌≤◌, ◌+◌, ℕ, List, [], length, ap, ◌∙◌, arith}
use Rattle.std.specs.Prelude.{slice_index_or}
use Rattle.qc_model.specs.Domains.{Box}
use Rattle.fd_store.specs.Held.{Held, trail_len, past_box, count_left, Follows}
use Rattle.check_box.specs.Room.{HasRoom}

-- where nothing was removed yet
pub room_at_first : (s t : Held) (n : ℕ) → s.past ≡ [] → t.box ≡ s.box → t.past ≡ s.past → n ≡ count_left s.box → n + 16400 ≤ t.spare → HasRoom t
room_at_first s t n e b p m h =
    let none : t.past ≡ [] = p ∙ e in
    omega (arith, h, m, ap length none, ap count_left b, ap (λ (bs : List Box). count_left (slice_index_or bs 0 t.box)) none)

-- a removal leaves the room in all
pub room_followed : (s t : Held) → HasRoom s → Follows s t → t.spare + trail_len t ≡ s.spare + trail_len s → HasRoom t
room_followed s t h f e = omega (arith, h, e, ap count_left (f.boxes 0 (omega arith)))

-- and what is free suffices for the next one
pub room_now : (s : Held) → HasRoom s → ((k : ℕ) → k ≤ trail_len s → k + count_left (past_box s k) ≤ count_left (past_box s 0)) → 16400 ≤ s.spare
room_now s h f = omega (arith, h, f (trail_len s) (omega arith))
