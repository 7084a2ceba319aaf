use Rattle.std.proofs.Common.{◌≡◌, ◌∙◌, ◌++◌, sym, rules, true, false, to_z, subst, ap, arith, ℤ, Some, List}
use Rattle.std.specs.Prelude.{pos, ◌+ℤ◌, ◌≤ℤ◌, ◌<ℤ◌, int_lt, int_le}
use Rattle.std.specs.Ordering.{int_eq}
use Rattle.std.proofs.lemmas.Int.{to_z-of_z, ints}
use Rattle.std.proofs.lemmas.Bool.Decides.{Decides-int_eq}
use mir.Val.{SFits}
use mir.Syntax.{w64}
use Rattle.qc_model.specs.Domains.{values_left, has_value, greatest_value}
use Rattle.qc_model.specs.Lists.{same_values}
use Rattle.model_arguments.proofs.Kept.{high_end, lower, small_between}
use Rattle.fd_store.specs.Held.{values_from, least_of}
use Rattle.box_laws.proofs.Numbers.{passed_number}
use Rattle.dense_alike.specs.Ranges.{range_values}
use Rattle.dense_alike.proofs.Filled.{begins_to, not_past, to_itself}
use Rattle.dense_alike.proofs.InARow.{Begins, begins_first, begins_more, next_there, other_first, not_begins, range_first, range_last, range_rises, next_fits, number_fits, starts_at}
use Rattle.dense_alike.proofs.runs.has_run.Goals as goal

up_more : (u v : ℤ) → u ≤ℤ v → u ≤ℤ (v +ℤ pos 1)
up_more u v h = omega (arith, ints, h)

down_more : (v w : ℤ) → int_lt v w ≡ true → (v +ℤ pos 1) ≤ℤ w
down_more v w e = grind (arith, ints)

upto : (w m g : ℤ) → m ≡ g → int_le w m ≡ true → w ≤ℤ g
upto w m g e h = grind (arith, ints)

beyond : (w m g : ℤ) → m ≡ g → int_le w m ≡ false → g <ℤ w
beyond w m g e h = grind (arith, ints)

reached : (v w : ℤ) → v ≤ℤ w → int_lt v w ≡ false → v ≡ w
reached v w l e = grind (arith, ints)

pub returns-then-not-begins_with-clause-differs : goal.returns-then-not-begins_with-clause-differs
returns-then-not-begins_with-clause-differs c = λ e rest.
    let d = values_left c.args.store.now.box c.args.x.0 in
    let from_fits : SFits w64 c.args.from = search rules in
    let first_fits : SFits w64 c.in-Some.first = search rules in
    let found : Some c.in-Some.first ≡ least_of (values_from c.args.from d) = simp to_z-of_z at c.in-Some.ensures in
    let other : int_eq c.in-Some.first c.args.range.first ≡ false = simp to_z-of_z at (sym c.begins_with.ensures ∙ c.if-not-begins_with.true) in
    other_first d rest c.args.from c.args.range.first c.in-Some.first c.args.range.last c.known.ensures.ascending found other

pub loop-v-init : goal.loop-v-init
loop-v-init c =
    let d = values_left c.args.store.now.box c.args.x.0 in
    let r = c.args.range in
    let from_fits : SFits w64 c.args.from = search rules in
    let first_fits : SFits w64 c.in-Some.first = search rules in
    let found : Some c.in-Some.first ≡ least_of (values_from c.args.from d) = simp to_z-of_z at c.in-Some.ensures in
    let same : int_eq c.in-Some.first r.first ≡ true = simp to_z-of_z at (sym c.begins_with.ensures ∙ c.if-not-begins_with.false) in
    let is : c.in-Some.first ≡ r.first = (Decides-int_eq c.in-Some.first r.first).0 same in
    let passed = passed_number r.first (range_first r.first r.last r.ordered) in
    let there : has_value d r.first ≡ true = subst (λ v. has_value d v ≡ true) is (next_there d c.args.from c.in-Some.first c.known.ensures.ascending found) in
    record {
      up = subst (λ v. r.first ≤ℤ v) (sym passed) (self r.first);
      down = subst (λ v. v ≤ℤ r.last) (sym passed) (range_rises r.first r.last r.ordered);
      begins = subst (λ v. Begins d r.first v) (sym passed) (begins_first d r.first c.known.ensures.ascending there);
    }
  where
    self : (v : ℤ) → v ≤ℤ v
    self v = omega (arith, ints)

pub returns-then-not-has-clause-differs : goal.returns-then-not-has-clause-differs
returns-then-not-has-clause-differs c = λ e rest.
    let d = values_left c.args.store.now.box c.args.x.0 in
    let r = c.args.range in
    let from_fits : SFits w64 c.args.from = search rules in
    let first_fits : SFits w64 c.in-Some.first = search rules in
    let found : Some c.in-Some.first ≡ least_of (values_from c.args.from d) = simp to_z-of_z at c.in-Some.ensures in
    let same : int_eq c.in-Some.first r.first ≡ true = simp to_z-of_z at (sym c.begins_with.ensures ∙ c.if-not-begins_with.false) in
    let v = to_z w64 c.loop-v.v-bits in
    let inv = c.loop-v.invariant in
    let last_fits : SFits w64 r.last = number_fits r.last (range_last r.first r.last r.ordered) in
    let less : int_lt v r.last ≡ true = simp to_z-of_z at c.loop-v-test.true in
    let next : SFits w64 (v +ℤ pos 1) = next_fits v (small_between r.first r.last v (range_first r.first r.last r.ordered) (range_last r.first r.last r.ordered) inv.up inv.down) in
    let gone : has_value d (v +ℤ pos 1) ≡ false = simp to_z-of_z at (sym c.has.ensures ∙ c.if-not-has.true) in
    ap (λ (us : List ℤ). same_values us (range_values r ++ rest)) (starts_at d c.args.from c.in-Some.first r.first c.known.ensures.ascending found same)
    ∙ not_begins d rest r.first v r.last inv.up (lower v r.last less) gone inv.begins

pub loop-v-preserved : goal.loop-v-preserved
loop-v-preserved c =
    let d = values_left c.args.store.now.box c.args.x.0 in
    let r = c.args.range in
    let v = to_z w64 c.loop-v.v-bits in
    let inv = c.loop-v.invariant in
    let last_fits : SFits w64 r.last = number_fits r.last (range_last r.first r.last r.ordered) in
    let less : int_lt v r.last ≡ true = simp to_z-of_z at c.loop-v-test.true in
    let next : SFits w64 (v +ℤ pos 1) = next_fits v (small_between r.first r.last v (range_first r.first r.last r.ordered) (range_last r.first r.last r.ordered) inv.up inv.down) in
    let there : has_value d (v +ℤ pos 1) ≡ true = simp to_z-of_z at (sym c.has.ensures ∙ c.if-not-has.false) in
    simp to_z-of_z
    (record {
      up = up_more r.first v inv.up;
      down = down_more v r.last less;
      begins = begins_more d r.first v c.known.ensures.ascending inv.up there inv.begins;
    })

pub returns-clause-begins : goal.returns-clause-begins
returns-clause-begins c = λ e.
    let d = values_left c.args.store.now.box c.args.x.0 in
    let r = c.args.range in
    let from_fits : SFits w64 c.args.from = search rules in
    let first_fits : SFits w64 c.in-Some.first = search rules in
    let found : Some c.in-Some.first ≡ least_of (values_from c.args.from d) = simp to_z-of_z at c.in-Some.ensures in
    let same : int_eq c.in-Some.first r.first ≡ true = simp to_z-of_z at (sym c.begins_with.ensures ∙ c.if-not-begins_with.false) in
    let v = to_z w64 c.loop-v.v-bits in
    let inv = c.loop-v.invariant in
    let last_fits : SFits w64 r.last = number_fits r.last (range_last r.first r.last r.ordered) in
    let past : int_lt v r.last ≡ false = simp to_z-of_z at c.loop-v-test.false in
    starts_at d c.args.from c.in-Some.first r.first c.known.ensures.ascending found same ∙ subst (λ z. Begins d r.first z) (reached v r.last inv.down past) inv.begins

pub returns-then-is_row-clause-begins : goal.returns-then-is_row-clause-begins
returns-then-is_row-clause-begins c =
    let d = values_left c.args.store.now.box c.args.x.0 in
    let r = c.args.range in
    let from_fits : SFits w64 c.args.from = search rules in
    let first_fits : SFits w64 c.in-Some.first = search rules in
    let found : Some c.in-Some.first ≡ least_of (values_from c.args.from d) = simp to_z-of_z at c.in-Some.ensures in
    let same : int_eq c.in-Some.first r.first ≡ true = simp to_z-of_z at (sym c.begins_with.ensures ∙ c.if-not-begins_with.false) in
    let is : c.in-Some.first ≡ r.first = (Decides-int_eq c.in-Some.first r.first).0 same in
    let there : has_value d r.first ≡ true = subst (λ v. has_value d v ≡ true) is (next_there d c.args.from c.in-Some.first c.known.ensures.ascending found) in
    let starts = starts_at d c.args.from c.in-Some.first r.first c.known.ensures.ascending found same in
    let last_fits : SFits w64 r.last = number_fits r.last (range_last r.first r.last r.ordered) in
    let max_fits : SFits w64 c.max.result = search rules in
    let max : c.max.result ≡ greatest_value d = c.max.ensures in
    simp to_z-of_z
    (λ e. starts ∙ begins_to d r.first r.last c.known.ensures.ascending (c.is_row.ensures c.if-is_row.true) there (range_rises r.first r.last r.ordered) (upto r.last c.max.result (greatest_value d) max e))

pub returns-then-is_row-clause-differs : goal.returns-then-is_row-clause-differs
returns-then-is_row-clause-differs c =
    let d = values_left c.args.store.now.box c.args.x.0 in
    let r = c.args.range in
    let from_fits : SFits w64 c.args.from = search rules in
    let first_fits : SFits w64 c.in-Some.first = search rules in
    let found : Some c.in-Some.first ≡ least_of (values_from c.args.from d) = simp to_z-of_z at c.in-Some.ensures in
    let same : int_eq c.in-Some.first r.first ≡ true = simp to_z-of_z at (sym c.begins_with.ensures ∙ c.if-not-begins_with.false) in
    let is : c.in-Some.first ≡ r.first = (Decides-int_eq c.in-Some.first r.first).0 same in
    let there : has_value d r.first ≡ true = subst (λ v. has_value d v ≡ true) is (next_there d c.args.from c.in-Some.first c.known.ensures.ascending found) in
    let starts = starts_at d c.args.from c.in-Some.first r.first c.known.ensures.ascending found same in
    let last_fits : SFits w64 r.last = number_fits r.last (range_last r.first r.last r.ordered) in
    let max_fits : SFits w64 c.max.result = search rules in
    let max : c.max.result ≡ greatest_value d = c.max.ensures in
    let end = high_end d r.first there in
    let whole : Begins d r.first (greatest_value d) = begins_to d r.first (greatest_value d) c.known.ensures.ascending (c.is_row.ensures c.if-is_row.true) there end (to_itself (greatest_value d)) in
    simp to_z-of_z
    (λ e rest.
    ap (λ (us : List ℤ). same_values us (range_values r ++ rest)) starts
    ∙ not_begins d rest r.first (greatest_value d) r.last end (beyond r.last c.max.result (greatest_value d) max e) (not_past d) whole)
