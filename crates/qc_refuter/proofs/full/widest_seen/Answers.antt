use Rattle.std.proofs.Common.{ℕ, ◌≤◌, ◌<◌, arith, length, map}
use Rattle.std.specs.Prelude.{Option, Some, None, IfNone, IfSome}
use Rattle.qc_model.specs.Domains.{least_value}
use Rattle.qc_model.specs.Refuted.{left_to}
use Rattle.qc_refuter.specs.Met.{seen}
use Rattle.qc_refuter.specs.Full.{held, first_sum}
use Rattle.qc_refuter.proofs.Fill.{sums_held, widest_held}
use Rattle.qc_refuter.proofs.full.widest_seen.Goals as goal

none_so : (o : Option ℕ) (P Q : Type 0) → (P → Q) → IfNone o P → IfNone o Q
none_so None P Q f h = f h
none_so (Some t) P Q f h = h

some_so : (o : Option ℕ) (P Q : ℕ → Type 0) → ((t : ℕ) → P t → Q t) → IfSome o P → IfSome o Q
some_so None P Q f h = h
some_so (Some t) P Q f h = f t h

pub returns-clause-none : goal.returns-clause-none
returns-clause-none c =
    let box = seen c.args.view.now in
    let ds = map (left_to box) c.args.items.now in
    let l = least_value (left_to box c.args.first) in
    let ns = c.count_ends.new.counts in
    none_so c.widest_of.result ((n : ℕ) × (n ≤ length ns) × (n < first_sum ns n)) ((n : ℕ) × (n < held ds l n))
    (λ q. (q.0, omega (arith, q.2, sums_held ds l ns c.count_ends.ensures.counts q.0 q.1))) c.widest_of.ensures.none

pub returns-clause-some : goal.returns-clause-some
returns-clause-some c =
    let box = seen c.args.view.now in
    let ds = map (left_to box) c.args.items.now in
    let l = least_value (left_to box c.args.first) in
    let ns = c.count_ends.new.counts in
    let new = c.widest_of.new.counts in
    some_so c.widest_of.result _ _
    (λ t w. widest_held (first_sum ns) (held ds l) new t (λ n h. sums_held ds l ns c.count_ends.ensures.counts n (omega (arith, h, c.widest_of.ensures.length))) w) c.widest_of.ensures.some
