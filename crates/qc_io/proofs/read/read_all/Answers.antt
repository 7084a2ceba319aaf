use Rattle.std.proofs.Common.{◌≡◌, ◌∙◌, ◌≤◌, ◌+◌, ◌^◌, ◌-◌, ℕ, List, ◌++◌, length, take, drop, sym, ap, subst, refl, arith}
use Rattle.std.specs.Prelude.{min}
use Rattle.std.proofs.Math.Seq.{take_all}
use Rattle.std.proofs.lemmas.List.{take-append-le}
use Rattle.qc_io.specs.Counts.{RoseBy}
use Rattle.qc_io.specs.Shelf.{IsFront}
use Rattle.qc_io.proofs.read.read_all.Goals as goal

-- as many items written over all of a list
written : (ws is : List ℕ) (n : ℕ) → n ≡ length is → length ws ≡ length is → take n (ws ++ drop (length ws) is) ≡ ws
written ws is n e l = take-append-le n ws (drop (length ws) is) (omega (arith, e, l)) ∙ take_all n ws (omega (arith, e, l))

-- a count that rose twice rose by both together
rose_twice : (filled n before mid after : ℕ) → RoseBy filled before mid → after ≡ min (mid + n) (2 ^ 64 - 1) → RoseBy (filled + n) before after
rose_twice filled n before mid after h e = omega (arith, h, e)

-- and by no more than both
rose_within : (filled n before mid after : ℕ) → mid ≤ before + filled → after ≡ min (mid + n) (2 ^ 64 - 1) → after ≤ before + (filled + n)
rose_within filled n before mid after h e = omega (arith, h, e)

pub loop-filled-preserved : goal.loop-filled-preserved
loop-filled-preserved g c =
    let told = g.S.Shelf.told in
    let given = g.S.Shelf.given in
    let name = c.args.name.now in
    let filled = c.loop-filled.filled in
    let n = c.in_ok-count.count in
    let i = c.loop-filled.invariant in
    let came = c.in_ok-count.ensures in
    let grown = c.in_ok-grow.ensures in
    let was = c.deref_mut.result.now in
    let now = c.read_more.new.bytes in
    let value : was ≡ c.grow.new.bytes.items = c.deref_mut.ensures.value in
    let long : length now ≡ length c.grow.new.bytes.items = came.length ∙ ap length value in
    let same = written now c.grow.new.bytes.items c.grow.new.bytes.len c.grow.new.bytes.ok.0 long in
    let stays : told c.loop-filled.shelf name ≡ told c.args.shelf.now name = ap (λ f. f name) i.stays in
    let as_before : take filled c.loop-filled.bytes.items ≡ take filled was = sym (ap (λ xs. take filled xs) value ∙ grown.same) in
    let front : IsFront (told c.loop-filled.shelf name) (take filled was) = subst (λ t. IsFront t (take filled was)) (sym stays) (subst (λ xs. IsFront (told c.args.shelf.now name) xs) as_before i.front) in
    record {
      within = rw same (omega (arith, came.count, came.length, long, grown.room.0));
      room = rw same (omega (arith, long, grown.room.1));
      front = rw same (subst (λ t. IsFront t (take (filled + n) now)) stays (came.front front));
      faults = came.cause.no_other ∙ i.faults;
      given_low = rose_twice filled n (given c.args.shelf.now) (given c.loop-filled.shelf) (given c.read_more.new.shelf) i.given_low came.given;
      given_high = rose_within filled n (given c.args.shelf.now) (given c.loop-filled.shelf) (given c.read_more.new.shelf) i.given_high came.given;
      stays = came.stays ∙ i.stays;
      same_end = refl;
    }
