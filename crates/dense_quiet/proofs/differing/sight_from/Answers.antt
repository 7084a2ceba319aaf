use Rattle.std.proofs.Common.{◌≡◌, ◌∙◌, ℤ, List, true}
use Rattle.qc_model.specs.Domains.{Values}
use Rattle.qc_model.specs.Left.{has_crowd}
use Rattle.dense_quiet.specs.Differing.{StandsFor, HaveEnds, IsQuiet, AreRooms}
use Rattle.dense_quiet.proofs.EndsCounted.{rooms_counted, crowd_counted}
use Rattle.dense_quiet.proofs.LeftAlone.{quiet_none, quiet_of, tells_so}
use Rattle.dense_quiet.proofs.differing.sight_from.Goals as goal

pub returns-in-None-clause-told : goal.returns-in-None-clause-told
returns-in-None-clause-told c = λ ds v s h.
    let q = c.in-None.ensures.none in
    crowd_counted ds c.args.ends.now c.args.low v c.count_ends.new.counts q.0 s h c.count_ends.ensures.counts q.1 q.2

pub returns-then-last-eq0-clause-told : goal.returns-then-last-eq0-clause-told
returns-then-last-eq0-clause-told c = λ ds v s h.
    quiet_none ds v c.widest_of.new.counts c.in-Some.last
    (rooms_counted ds c.args.ends.now c.args.low v c.count_ends.new.counts c.widest_of.new.counts c.in-Some.last s h (c.count_ends.ensures.length ∙ c.requires.room) c.in-Some.ensures.length c.count_ends.ensures.counts c.in-Some.ensures.some)
    c.if-last-eq0.true

pub returns-else-last-eq0-clause-told : goal.returns-else-last-eq0-clause-told
returns-else-last-eq0-clause-told c =
    let es = c.args.ends.now in
    let rooms : (ds : List Values) (v : ℤ) → StandsFor c.args.low v → HaveEnds ds es → AreRooms ds v c.widest_of.new.counts c.in-Some.last =
    λ ds v s h. rooms_counted ds es c.args.low v c.count_ends.new.counts c.widest_of.new.counts c.in-Some.last s h (c.count_ends.ensures.length ∙ c.requires.room) c.in-Some.ensures.length c.count_ends.ensures.counts c.in-Some.ensures.some in
    tells_so c.filled.result (c.first_room.result ≡ 0) ⊥ ((ds : List Values) (v : ℤ) → StandsFor c.args.low v → HaveEnds ds es → IsQuiet ds v) ((ds : List Values) (v : ℤ) → StandsFor c.args.low v → HaveEnds ds es → has_crowd ds ≡ true)
    (λ z ds v s h. quiet_of ds v c.widest_of.new.counts c.in-Some.last (rooms ds v s h) (c.first_room.ensures.alone z ds v s h (rooms ds v s h))) (λ z. absurd z) c.filled.ensures
