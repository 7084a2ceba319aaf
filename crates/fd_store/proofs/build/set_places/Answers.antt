use Rattle.std.proofs.Common.{◌≡◌, ◌<◌, ◌≤◌, ◌+◌, ◌*◌, ◌∙◌, get_or, take, refl, ap, arith, Bool, true, false, ℤ, ◌||◌, ℕ}
use Rattle.std.specs.Prelude.{pos, negsuc, ◌+ℤ◌, ◌≤ℤ◌, ◌<ℤ◌}
use Rattle.std.proofs.lemmas.Int.{to_z-of_z, ints}
use Rattle.std.proofs.lemmas.List.{take_all}
use mir.Val.{SFits}
use mir.Syntax.{w64}
use Rattle.qc_model.specs.Domains.{has_value}
use Rattle.fd_store.specs.Places.{is_set}
use Rattle.fd_store.proofs.Listing.{place_more, none_far}
use Rattle.fd_store.proofs.build.set_places.Goals as goal

number_fits : (base v : ℤ) (n : ℕ) → negsuc 999999999 ≤ℤ base → (base +ℤ pos n) ≤ℤ pos 1000000001 → base ≤ℤ v → v <ℤ (base +ℤ pos n) → SFits w64 v
number_fits base v n a b c d = omega (arith, ints)

base_high : (base : ℤ) (n : ℕ) → (base +ℤ pos n) ≤ℤ pos 1000000001 → base ≤ℤ pos 1000000001
base_high base n h = omega (arith, ints)

place_inside : (base v : ℤ) (n k : ℕ) → v <ℤ (base +ℤ pos n) → v ≡ base +ℤ pos k → k < n
place_inside base v n k h e = omega (arith, ints)

start_fits : (start width n : ℕ) → 64 * start + width ≤ 64 * n → n ≤ 100000 → 64 * start < 18446744073709551616
start_fits start width n h l = omega arith

place_fits : (start width n k : ℕ) → 64 * start + width ≤ 64 * n → n ≤ 100000 → k < width → 64 * start + k < 18446744073709551616
place_fits start width n k h l m = omega arith

place_there : (start width n now k : ℕ) → 64 * start + width ≤ 64 * n → now ≡ n → k < width → 64 * start + k < 64 * now
place_there start width n now k h e m = omega arith

none_yet : (b : Bool) → b ≡ (b || false)
none_yet true = refl
none_yet false = refl

pub offset_of-requires-clause-low : goal.offset_of-requires-clause-low
offset_of-requires-clause-low c =
    let fits : SFits w64 c.args.base = c.ranges.base in
    simp to_z-of_z c.requires.low

pub offset_of-requires-clause-high : goal.offset_of-requires-clause-high
offset_of-requires-clause-high c =
    let fits : SFits w64 c.args.base = c.ranges.base in
    simp to_z-of_z (base_high c.args.base c.args.width c.requires.high)

pub offset_of-requires-clause-from : goal.offset_of-requires-clause-from
offset_of-requires-clause-from c =
    let q = c.requires in
    let v = get_or c.args.numbers.now c.loop-v.v-index (pos 0) in
    let in_span = q.each c.loop-v.v-index (pos 0) c.loop-v-test.true in
    let low : c.args.base ≤ℤ v = in_span.0 in
    let high : v <ℤ (c.args.base +ℤ pos c.args.width) = in_span.1 in
    let fits : SFits w64 c.args.base = c.ranges.base in
    let v_fits : SFits w64 (get_or c.args.numbers.now c.loop-v.v-index (pos 0)) = number_fits c.args.base v c.args.width q.low q.high low high in
    simp to_z-of_z low

pub overflow_mul-start : goal.overflow_mul-start
overflow_mul-start c = record { fits = start_fits c.args.start c.args.width _ c.requires.inside c.requires.few }

pub overflow_add-start : goal.overflow_add-start
overflow_add-start c =
    let q = c.requires in
    let v = get_or c.args.numbers.now c.loop-v.v-index (pos 0) in
    let in_span = q.each c.loop-v.v-index (pos 0) c.loop-v-test.true in
    let low : c.args.base ≤ℤ v = in_span.0 in
    let high : v <ℤ (c.args.base +ℤ pos c.args.width) = in_span.1 in
    let fits : SFits w64 c.args.base = c.ranges.base in
    let v_fits : SFits w64 (get_or c.args.numbers.now c.loop-v.v-index (pos 0)) = number_fits c.args.base v c.args.width q.low q.high low high in
    let place : v ≡ c.args.base +ℤ pos c.offset_of.result = simp to_z-of_z at c.offset_of.ensures in
    let inside = place_inside c.args.base v c.args.width c.offset_of.result high place in
    record { fits = place_fits c.args.start c.args.width _ c.offset_of.result q.inside q.few inside }

pub set_place-requires : goal.set_place-requires
set_place-requires c =
    let q = c.requires in
    let v = get_or c.args.numbers.now c.loop-v.v-index (pos 0) in
    let in_span = q.each c.loop-v.v-index (pos 0) c.loop-v-test.true in
    let low : c.args.base ≤ℤ v = in_span.0 in
    let high : v <ℤ (c.args.base +ℤ pos c.args.width) = in_span.1 in
    let fits : SFits w64 c.args.base = c.ranges.base in
    let v_fits : SFits w64 (get_or c.args.numbers.now c.loop-v.v-index (pos 0)) = number_fits c.args.base v c.args.width q.low q.high low high in
    let place : v ≡ c.args.base +ℤ pos c.offset_of.result = simp to_z-of_z at c.offset_of.ensures in
    let inside = place_inside c.args.base v c.args.width c.offset_of.result high place in
    place_there c.args.start c.args.width _ _ c.offset_of.result q.inside c.loop-v.invariant.long inside

pub returns-clause-bits : goal.returns-clause-bits
returns-clause-bits c =
    let ns = c.args.numbers.now in
    let fits : SFits w64 c.args.base = c.ranges.base in
    let bits : (k : ℕ) → k < c.args.width → is_set c.loop-v.words.items (64 * c.args.start + k) ≡ (is_set c.args.words.now.items (64 * c.args.start + k) || has_value (take c.loop-v.v-index ns) (c.args.base +ℤ pos k)) =
    simp to_z-of_z at c.loop-v.invariant.bits in
    λ k h. bits k h ∙ ap (λ vs. is_set c.args.words.now.items (64 * c.args.start + k) || has_value vs (c.args.base +ℤ pos k)) (take_all c.loop-v.v-index ns c.loop-v-test.false)

pub loop-v-init : goal.loop-v-init
loop-v-init c = record { long = refl; before = λ p h. refl; bits = λ k h. none_yet (is_set c.args.words.now.items (64 * c.args.start + k)) }

pub offset_of-requires-clause-below : goal.offset_of-requires-clause-below
offset_of-requires-clause-below c =
    let q = c.requires in
    let v = get_or c.args.numbers.now c.loop-v.v-index (pos 0) in
    let in_span = q.each c.loop-v.v-index (pos 0) c.loop-v-test.true in
    let low : c.args.base ≤ℤ v = in_span.0 in
    let high : v <ℤ (c.args.base +ℤ pos c.args.width) = in_span.1 in
    let fits : SFits w64 c.args.base = c.ranges.base in
    let v_fits : SFits w64 (get_or c.args.numbers.now c.loop-v.v-index (pos 0)) = number_fits c.args.base v c.args.width q.low q.high low high in
    let near : v ≤ℤ (c.args.base +ℤ pos 1048576) = below c.args.base v c.args.width high q.narrow in
    simp to_z-of_z near
  where
    below : (b v : ℤ) (n : ℕ) → v <ℤ (b +ℤ pos n) → n ≤ 1048576 → v ≤ℤ (b +ℤ pos 1048576)
    below b v n h k = omega (arith, ints)

pub loop-v-preserved : goal.loop-v-preserved
loop-v-preserved c =
    let q = c.requires in
    let i = c.loop-v.invariant in
    let s = c.set_place.ensures in
    let ns = c.args.numbers.now in
    let at = c.loop-v.v-index in
    let v = get_or c.args.numbers.now c.loop-v.v-index (pos 0) in
    let in_span = q.each c.loop-v.v-index (pos 0) c.loop-v-test.true in
    let low : c.args.base ≤ℤ v = in_span.0 in
    let high : v <ℤ (c.args.base +ℤ pos c.args.width) = in_span.1 in
    let fits : SFits w64 c.args.base = c.ranges.base in
    let v_fits : SFits w64 (get_or c.args.numbers.now c.loop-v.v-index (pos 0)) = number_fits c.args.base v c.args.width q.low q.high low high in
    let place : v ≡ c.args.base +ℤ pos c.offset_of.result = simp to_z-of_z at c.offset_of.ensures in
    let bits : (k : ℕ) → k < c.args.width → is_set c.loop-v.words.items (64 * c.args.start + k) ≡ (is_set c.args.words.now.items (64 * c.args.start + k) || has_value (take at ns) (c.args.base +ℤ pos k)) =
    simp to_z-of_z at i.bits in
    let more : (k : ℕ) → k < c.args.width → is_set c.set_place.new.words.items (64 * c.args.start + k) ≡ (is_set c.args.words.now.items (64 * c.args.start + k) || has_value (take (at + 1) ns) (c.args.base +ℤ pos k)) =
    λ k h. place_more c.args.words.now.items c.loop-v.words.items c.set_place.new.words.items c.args.start k c.offset_of.result at ns c.args.base v c.loop-v-test.true refl place
    (bits k h) (s.bits (64 * c.args.start + k)) in
    record {
      long = s.long ∙ i.long;
      before = λ p h. s.bits p ∙ (none_far (is_set c.loop-v.words.items p) c.args.start p c.offset_of.result h ∙ i.before p h);
      bits = simp to_z-of_z more;
    }
