-- Room on a trail.
use Rattle.std.specs.Prelude.{◌≤◌, ◌+◌}
use Rattle.fd_store.specs.Held.{Held, trail_len, past_box, count_left}

-- the trail takes as many places in all as there were values at the beginning, and those of one removal more
abbrev pub HasRoom : Held → Type 0
HasRoom s = count_left (past_box s 0) + 16400 ≤ s.spare + trail_len s
