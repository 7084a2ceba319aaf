use Rattle.std.proofs.Common.{rules, ◌≡◌, ◌+◌, cond, get_or, true}
use Rattle.std.specs.Prelude.{pos}
use Rattle.std.proofs.lemmas.Int.{to_z-of_z}
use mir.Val.{SFits}
use mir.Syntax.{w64}
use Rattle.qc_model.specs.Domains.{has_value, is_within}
use Rattle.qc_model.specs.Refuted.{left_to}
use Rattle.dense_quiet.proofs.Spread.{none_seen, one_more, all_seen}
use Rattle.dense_quiet.proofs.guessing.of_element.Goals as goal

pub loop-k-init : goal.loop-k-init
loop-k-init c =
    let box = c.args.store.now.box in
    none_seen c.args.is_place (left_to box c.args.b) (left_to box c.args.c) c.args.numbers.now c.places_between-span.result.first c.no_number-found.result.low c.no_number-found.result.high

pub loop-k-preserved : goal.loop-k-preserved
loop-k-preserved c =
    let b = left_to c.args.store.now.box c.args.b in
    let d = left_to c.args.store.now.box c.args.c in
    let ns = c.args.numbers.now in
    let k = c.loop-k.k in
    let was = c.loop-k.found in
    let now = c.with_place-found.result in
    let n_fits : SFits w64 (get_or ns k (pos 0)) = search rules in
    let has : has_value b (pos (k + 1)) ≡ true → has_value d (get_or ns k (pos 0)) ≡ true → is_within now.low now.high (cond c.args.is_place (pos (k + 1)) (get_or ns k (pos 0))) ≡ true = simp to_z-of_z at c.with_place-found.ensures.has in
    one_more c.args.is_place b d ns c.places_between-span.result.first k was.low was.high now.low now.high c.loop-k.invariant c.with_place-found.ensures.low c.with_place-found.ensures.high has

pub returns : goal.returns
returns c =
    let b = left_to c.args.store.now.box c.args.b in
    let d = left_to c.args.store.now.box c.args.c in
    let span = c.places_between-span.result in
    let found = c.loop-k.found in
    all_seen c.args.is_place b d c.args.numbers.now span.first span.end c.loop-k.k found.low found.high c.ends_of.result.least c.ends_of.result.greatest c.ends_of.ensures c.places_between-span.ensures.all c.loop-k-test.false c.loop-k.invariant
