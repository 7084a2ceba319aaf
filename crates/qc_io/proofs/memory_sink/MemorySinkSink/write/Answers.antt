use Rattle.std.proofs.Common.{◌≡◌, ◌<◌, ◌≤◌, ◌+◌, ◌-◌, ◌^◌, ℕ, false, length, subst, refl, arith, rules, inl, inr}
use Rattle.std.specs.Prelude.{min, ◌==◌}
use Rattle.std.specs.List.{Contains}
use Rattle.std.proofs.lemmas.Bool.Decides.{nat_tests}
use Rattle.qc_io.proofs.memory_sink.MemorySinkSink.write.Goals as goal

-- where none of some bytes finds room, the room is full
full : (p most room len count : ℕ) → false ≡ (p == 0) → 0 < most → count ≡ min (min p most) (room - len) → count ≡ 0 → (0 < p) × (room ≤ len)
full p most room len count some m e none =
    let more : 0 < p = grind (arith, nat_tests) in
    (more, omega (arith, more, m, e, none))

pub returns-then-contains-clause-fails : goal.returns-then-contains-clause-fails
returns-then-contains-clause-fails c =
    let named : Contains c.args.self.now.failing (min (c.args.self.now.calls + 1) (2 ^ 64 - 1)) = search rules in
    (λ e. inl named, λ h. refl)

pub returns-then-not-is_empty-clause-fails : goal.returns-then-not-is_empty-clause-fails
returns-then-not-is_empty-clause-fails c =
    let s = c.self.inside in
    let bound : c.min-count.result ≡ min (min (length c.args.piece.now) s.most) (s.room - length s.bytes.items) = search rules in
    let no_room = full (length c.args.piece.now) s.most s.room (length s.bytes.items) c.min-count.result c.if-not-is_empty.ensures c.self.invariant.0 bound c.if-count-eq0.true in
    (λ e. inr (subst (λ v. (0 < length c.args.piece.now) × (v.room ≤ length v.bytes)) c.self.view_is no_room), λ h. refl)
