use Rattle.std.proofs.Common.{rules, ◌≡◌, ◌∙◌, sym, ap, subst, map, true, false}
use Rattle.std.specs.Prelude.{pos, ◌+ℤ◌, ◌≤ℤ◌, ◌<ℤ◌}
use Rattle.std.proofs.lemmas.Int.{to_z-of_z}
use mir.Val.{SFits}
use mir.Syntax.{w64}
use Rattle.qc_model.specs.Left.{sum_range}
use Rattle.qc_model.specs.Ranges.{Range, range_of}
use Rattle.qc_model.specs.Refuted.{left_to}
use Rattle.model_arguments.specs.Repeats.{has_repeat}
use Rattle.model_arguments.specs.Written.{args_at, ints_at}
use Rattle.qc_refuter.proofs.Ready.{rule_met}
use Rattle.dense_quiet.specs.Slack.{AreNear, AllNear, sum_left, most_room}
use Rattle.dense_quiet.specs.Taking.{takes_of}
use Rattle.dense_quiet.proofs.PastRoom.{once_at}
use Rattle.dense_quiet.proofs.Sums.{roomy, room_less, same_bound}
use Rattle.dense_quiet.proofs.slack.slack_below.Goals as goal

pub factors_met-factors-requires : goal.factors_met-factors-requires
factors_met-factors-requires c =
    rw c.arguments-args.ensures (rule_met c.args.problem.now c.args.store.now.box c.known.ensures.domains c.requires.asked.declared c.requires.asked.full c.args.rule.now c.requires.asked.rule)

pub items_met-items-requires : goal.items_met-items-requires
items_met-items-requires c =
    rw c.arguments-args.ensures (rule_met c.args.problem.now c.args.store.now.box c.known.ensures.domains c.requires.asked.declared c.requires.asked.full c.args.rule.now c.requires.asked.rule)

pub has_room-requires-clause-near : goal.has_room-requires-clause-near
has_room-requires-clause-near c =
    let w = c.read_sum-reading.result.widest in
    let fits : SFits w64 w = search rules in
    let near : AllNear w c.factors_met-factors.result.now c.items_met-items.result.now c.args.store.now.box = c.read_sum-reading.ensures.near in
    simp to_z-of_z near

pub returns-clause-roomy : goal.returns-clause-roomy
returns-clause-roomy c = λ h.
    let r = c.args.rule.now in
    let box = c.args.store.now.box in
    let ok = takes_of c.args.taking c.args.problem.now r in
    let s = c.least_room.result in
    let u = c.room_of-room.result.under in
    let o = c.room_of-room.result.over in
    let s_fits : SFits w64 s = search rules in
    let u_fits : SFits w64 u = search rules in
    let o_fits : SFits w64 o = search rules in
    let b_fits : SFits w64 c.args.bound = search rules in
    let factors : c.factors_met-factors.result.now ≡ ints_at r.args 0 = c.factors_met-factors.ensures.is ∙ ap (λ a. ints_at a 0) c.arguments-args.ensures in
    let items : c.items_met-items.result.now ≡ args_at r.args 1 = c.items_met-items.ensures.is ∙ ap (λ a. args_at a 1) c.arguments-args.ensures in
    let whole : range_of c.read_sum-reading.result.extent.from c.read_sum-reading.result.extent.to ≡ sum_range (ints_at r.args 0) (map (left_to box) (args_at r.args 1)) =
    c.read_sum-reading.ensures.value ∙ (ap (λ ns. sum_range ns (map (left_to box) c.items_met-items.result.now)) factors ∙ ap (λ xs. sum_range (ints_at r.args 0) (map (left_to box) xs)) items) in
    let room : pos 0 ≤ℤ s = simp to_z-of_z at (c.has_room.ensures.room h) in
    let apart : has_repeat (args_at r.args 1) ≡ false = once_at r.args 1 c.requires.apart in
    let near : AreNear ok s c.factors_met-factors.result.now c.items_met-items.result.now box = simp to_z-of_z at (c.has_room.ensures.near h) in
    let under_is : pos 0 ≤ℤ u → (c.read_sum-reading.result.extent.from +ℤ u) ≤ℤ c.args.bound = simp to_z-of_z at c.room_of-room.ensures.under in
    let over_is : pos 0 ≤ℤ o → c.args.is_equal ≡ true → (c.args.bound +ℤ o) ≤ℤ c.read_sum-reading.result.extent.to = simp to_z-of_z at c.room_of-room.ensures.over in
    let less_under : s ≤ℤ u = c.least_room.ensures.under in
    let less_over : s ≤ℤ o = c.least_room.ensures.over in
    let under : (c.read_sum-reading.result.extent.from +ℤ s) ≤ℤ c.args.bound = room_less c.read_sum-reading.result.extent.from c.args.bound u s under_is less_under room in
    let over : c.args.is_equal ≡ true → (c.args.bound +ℤ s) ≤ℤ c.read_sum-reading.result.extent.to = λ e. room_less c.args.bound c.read_sum-reading.result.extent.to o s (λ z. over_is z e) less_over room in
    roomy (takes_of c.args.taking c.args.problem.now) r c.args.is_equal c.args.bound s box c.requires.pred c.requires.bound room apart
    (subst (λ ns. AreNear ok s ns (args_at r.args 1) box) factors (subst (λ xs. AreNear ok s c.factors_met-factors.result.now xs box) items near))
    (subst (λ (z : Range). (z.from +ℤ s) ≤ℤ c.args.bound) whole under) (λ e. subst (λ (z : Range). (c.args.bound +ℤ s) ≤ℤ z.to) whole (over e))

pub returns-clause-tells : goal.returns-clause-tells
returns-clause-tells c = λ h.
    let r = c.args.rule.now in
    let box = c.args.store.now.box in
    let u = c.room_of-room.result.under in
    let o = c.room_of-room.result.over in
    let u_fits : SFits w64 u = search rules in
    let o_fits : SFits w64 o = search rules in
    let b_fits : SFits w64 c.args.bound = search rules in
    let factors : c.factors_met-factors.result.now ≡ ints_at r.args 0 = c.factors_met-factors.ensures.is ∙ ap (λ a. ints_at a 0) c.arguments-args.ensures in
    let items : c.items_met-items.result.now ≡ args_at r.args 1 = c.items_met-items.ensures.is ∙ ap (λ a. args_at a 1) c.arguments-args.ensures in
    let whole : range_of c.read_sum-reading.result.extent.from c.read_sum-reading.result.extent.to ≡ sum_left r box =
    c.read_sum-reading.ensures.value ∙ (ap (λ ns. sum_range ns (map (left_to box) c.items_met-items.result.now)) factors ∙ ap (λ xs. sum_range (ints_at r.args 0) (map (left_to box) xs)) items) in
    let under : u <ℤ most_room → c.args.bound ≤ℤ (c.read_sum-reading.result.extent.from +ℤ u) = simp to_z-of_z at c.room_of-room.ensures.tight_under in
    let over : o <ℤ most_room → (c.args.is_equal ≡ true) × (c.read_sum-reading.result.extent.to ≤ℤ (c.args.bound +ℤ o)) = simp to_z-of_z at c.room_of-room.ensures.tight_over in
    record {
      is_equal = c.args.is_equal;
      bound = c.args.bound;
      pred = c.requires.pred;
      number = c.requires.bound;
      once = once_at r.args 1 c.requires.apart;
      under = λ l. subst (λ (z : Range). c.args.bound ≤ℤ (z.from +ℤ u)) whole (under l);
      over = λ l. ((over l).0, subst (λ (z : Range). z.to ≤ℤ (c.args.bound +ℤ o)) whole (over l).1);
    }

pub returns-clause-fits : goal.returns-clause-fits
returns-clause-fits c = λ h m number long.
    let r = c.args.rule.now in
    let box = c.args.store.now.box in
    let u = c.room_of-room.result.under in
    let u_fits : SFits w64 u = search rules in
    let b_fits : SFits w64 c.args.bound = search rules in
    let factors : c.factors_met-factors.result.now ≡ ints_at r.args 0 = c.factors_met-factors.ensures.is ∙ ap (λ a. ints_at a 0) c.arguments-args.ensures in
    let items : c.items_met-items.result.now ≡ args_at r.args 1 = c.items_met-items.ensures.is ∙ ap (λ a. args_at a 1) c.arguments-args.ensures in
    let whole : range_of c.read_sum-reading.result.extent.from c.read_sum-reading.result.extent.to ≡ sum_left r box =
    c.read_sum-reading.ensures.value ∙ (ap (λ ns. sum_range ns (map (left_to box) c.items_met-items.result.now)) factors ∙ ap (λ xs. sum_range (ints_at r.args 0) (map (left_to box) xs)) items) in
    let under : pos 0 ≤ℤ u → (c.read_sum-reading.result.extent.from +ℤ u) ≤ℤ c.args.bound = simp to_z-of_z at c.room_of-room.ensures.under in
    subst (λ b. ((sum_left r box).from +ℤ u) ≤ℤ b) (same_bound c.args.bound m (sym c.requires.bound ∙ number)) (subst (λ (z : Range). (z.from +ℤ u) ≤ℤ c.args.bound) whole (under long))
