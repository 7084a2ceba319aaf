use Rattle.std.proofs.Common.{◌≡◌, ◌∙◌, ◌≤◌, ◌<◌, ◌+◌, ◌-◌, ◌++◌, ℕ, List, sym, ap, subst, length, take, append-nil, length-take-le, min, arith}
use Rattle.std.proofs.lemmas.Slice.{take-put_mid}
use Rattle.std.proofs.lemmas.List.{take_all}
use borrow.Rule.Slice.PartMut.{put_mid, mid_of, same_len_mid}
use Rattle.qc_io.proofs.Known.{on_err, prefix_put, moves_none}
use Rattle.qc_io.proofs.pieces.Pieces.put_some.Goals as goal

-- n bytes fit behind those held
fits : (len p n : ℕ) → n ≡ min len (65536 - p) → n ≤ len
fits len p n e = omega (arith, e)

-- what is held once n bytes are put behind it
held_then : (buffer held part bytes : List ℕ) (p k n : ℕ) → length buffer ≡ 65536 → p < 65536 → take p buffer ≡ held → part ≡ take n bytes → n ≡ min (length bytes) (65536 - p) →
    take (p + n) (put_mid p k buffer part) ≡ held ++ take n bytes
held_then buffer held part bytes p k n room less had put e =
    take-put_mid p k buffer part (p + n) (ap (λ m. p + m) (sym (ap length put ∙ length-take-le n bytes (fits (length bytes) p n e)))) (omega (arith, room, less))
    ∙ (ap (λ l. l ++ part) had ∙ ap (λ l. held ++ l) put)

-- a piece that is whole then
whole_then : (buffer held part bytes : List ℕ) (p k n : ℕ) → length buffer ≡ 65536 → p < 65536 → take p buffer ≡ held → part ≡ take n bytes → n ≡ min (length bytes) (65536 - p) → length part ≡ length (mid_of p k buffer) → 65536 ≤ p + n →
    put_mid p k buffer part ≡ held ++ take n bytes
whole_then buffer held part bytes p k n room less had put e same full =
    sym (take_all (p + n) (put_mid p k buffer part) (subst (λ m. m ≤ p + n) (sym (same_len_mid p k buffer part same ∙ room)) full))
    ∙ held_then buffer held part bytes p k n room less had put e

pub returns-in_err-write_all-clause-err : goal.returns-in_err-write_all-clause-err
returns-in_err-write_all-clause-err g c =
    let s = c.self.inside in
    on_err _ (prefix_put _ _ _ c.args.self.now c.args.bytes.now c.min-count.result c.in_err-write_all.ensures.err
    (whole_then s.buffer c.args.self.now c.copy_from_slice.new.self c.args.bytes.now s.len _ c.min-count.result c.self.told c.self.invariant c.self.view_is c.copy_from_slice.ensures.after c.min-count.ensures c.copy_from_slice.ensures.len c.if-end-lt-PIECE.false))

pub returns-clause-ok : goal.returns-clause-ok
returns-clause-ok g c =
    let s = c.self.inside in
    (_, c.in_ok-write_all.ensures.ok, append-nil _ ∙ whole_then s.buffer c.args.self.now c.copy_from_slice.new.self c.args.bytes.now s.len _ c.min-count.result c.self.told c.self.invariant c.self.view_is c.copy_from_slice.ensures.after c.min-count.ensures c.copy_from_slice.ensures.len c.if-end-lt-PIECE.false)

pub returns-then-end-lt-PIECE-clause-ok : goal.returns-then-end-lt-PIECE-clause-ok
returns-then-end-lt-PIECE-clause-ok g c =
    let s = c.self.inside in
    moves_none _ _ _ (held_then s.buffer c.args.self.now c.copy_from_slice.new.self c.args.bytes.now s.len _ c.min-count.result c.self.told c.self.invariant c.self.view_is c.copy_from_slice.ensures.after c.min-count.ensures)
