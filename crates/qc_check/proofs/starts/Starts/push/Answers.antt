use Rattle.std.proofs.Common.{◌≡◌, ◌<◌, ◌+◌, ◌*◌, ◌^◌, ◌∷◌, inr, length, arith, rules, ap, ◌∙◌, take, set}
use Rattle.std.proofs.lemmas.List.{with_items_is}
use Rattle.qc_check.specs.declared.starts.Start.{Start}
use Rattle.qc_check.specs.Places.{starts_of}
use Rattle.qc_check.proofs.Places.{place_fits, start_pushed}
use Rattle.qc_check.proofs.starts.Starts.push.Goals as goal

pub overflow_mul-from : goal.overflow_mul-from
overflow_mul-from c =
    let m = c.self.inside in
    let l : length m.values.items < 2 ^ 63 = search rules in
    let w : m.width < 2 ^ 64 = search rules in
    omega (arith, place_fits m.places.items m.values.items m.width m.depth c.self.invariant l w)

pub returns : goal.returns
returns c =
    let m = c.self.inside in
    let s : Start = record { at = c.args.at; node = c.args.node; number = c.args.number; count = length c.args.values.now } in
    let us = c.copy_at.new.over in
    let size : length us ≡ m.values.len = search rules in
    let from = m.depth * m.width in
    let room : m.depth < length m.places.items = search rules in
    let front : take from us ≡ take from m.values.items = c.copy_at.ensures.before ∙ ap (take from) c.deref_mut.ensures.value in
    inr (ap (λ vs. starts_of (set m.places.items m.depth s) vs m.width (m.depth + 1)) (with_items_is m.values us size)
    ∙ (start_pushed m.places.items m.values.items us m.width m.depth s c.args.values.now c.self.invariant room front c.copy_at.ensures.there
    ∙ ap (λ ss. record { start = s; values = c.args.values.now } ∷ ss) c.self.view_is))
