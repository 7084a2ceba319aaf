use Rattle.std.proofs.Common.{◌≡◌, ◌<◌, ◌∙◌, ◌+◌, sym, ap, subst, refl, arith, true, length, take, map, set, length-set, to_z, of_z, w64}
use Rattle.std.specs.List.{list_all}
use Rattle.std.specs.Vec.{with_item}
use Rattle.qc_model.specs.Domains.{values_left, least_value, is_single}
use Rattle.qc_model.specs.Valid.{is_number}
use Rattle.check_lines.specs.declared.reads.Reads.{Reads}
use Rattle.check_box.specs.Placed.{only}
use Rattle.box_laws.proofs.Numbers.{passed_number}
use Rattle.box_laws.proofs.Readings.{least_number}
use Rattle.check_box.proofs.Placing.{single_some, single_only, numbers_set}
use Rattle.check_lines.proofs.Known.{reads_one, branches_one, kept_one, not_single, all_single, all_placed}
use Rattle.check_lines.proofs.reads.Reads.read_on.Goals as goal

pub min-requires-clause-left : goal.min-requires-clause-left
min-requires-clause-left c = single_some (values_left c.args.store.now.box c.loop-self.self.count) (sym c.is_fixed.ensures ∙ c.if-not-is_fixed.false)

pub loop-self-preserved : goal.loop-self-preserved
loop-self-preserved c =
    let s = c.args.store.now in
    let r = c.loop-self.self in
    let k = r.count in
    let vs = c.loop-self.values.items in
    let ws = c.set.new.self.items in
    let d = values_left s.box k in
    let single : is_single d ≡ true = sym c.is_fixed.ensures ∙ c.if-not-is_fixed.false in
    let number = least_number d (single_some d single) c.known.ensures.numbers in
    let w = to_z w64 (of_z w64 c.min.result) in
    let e : w ≡ least_value d = ap (λ z. to_z w64 (of_z w64 z)) c.min.ensures ∙ passed_number (least_value d) number in
    let left : d ≡ only w = single_only d single ∙ ap only (sym e) in
    let inv = c.loop-self.invariant in
    let below = c.loop-self-test.true in
    let put : ws ≡ set vs k w = c.set.ensures.items in
    let inside : k < length s.box = omega (arith, c.requires.bound, below) in
    let place : k < length r.marks.items = omega (arith, inside, inv.places, c.requires.places) in
    let each : k < length vs = omega (arith, inside, inv.each, c.requires.each) in
    let marks : set r.marks.items k c.mark-at.result.at ≡ set r.marks.items k (length s.past) = ap (set r.marks.items k) c.mark-at.ensures in
    let q : Reads = record { marks = with_item r.marks k c.mark-at.result.at; count = k + 1 } in
    record {
      read = reads_one s vs ws r q w place each left marks refl put c.requires.full inv.read;
      branches = λ fs b. branches_one s vs ws r q w place each left marks refl put fs (inv.branches fs b);
      kept = λ n h. ap (take n) put ∙ (kept_one n s.box vs k w inside left (h ∙ ap (map only) (sym (inv.kept n h))) ∙ inv.kept n h);
      places = length-set r.marks.items k c.mark-at.result.at ∙ inv.places;
      game = c.set.ensures.game ∙ inv.game;
      each = ap length put ∙ (length-set vs k w ∙ inv.each);
      numbers = subst (λ us. list_all is_number us ≡ true) (sym put) (numbers_set vs k w inv.numbers (ap is_number e ∙ number));
    }

pub returns-then-not-is_fixed-clause-fixed : goal.returns-then-not-is_fixed-clause-fixed
returns-then-not-is_fixed-clause-fixed c = sym (not_single c.args.store.now.box c.args.stop c.loop-self.self.count c.loop-self-test.true c.requires.bound (sym c.is_fixed.ensures ∙ c.if-not-is_fixed.true))

pub returns-clause-placed : goal.returns-clause-placed
returns-clause-placed c e = all_placed c.args.store.now c.loop-self.values.items c.loop-self.self c.args.stop c.requires.full c.loop-self.invariant.read (let t = c.loop-self-test.false in omega (arith, t)) c.requires.bound (c.loop-self.invariant.each ∙ c.requires.each)

pub returns-clause-fixed : goal.returns-clause-fixed
returns-clause-fixed c =
    let placed = all_placed c.args.store.now c.loop-self.values.items c.loop-self.self c.args.stop c.requires.full c.loop-self.invariant.read (let t = c.loop-self-test.false in omega (arith, t)) c.requires.bound (c.loop-self.invariant.each ∙ c.requires.each) in
    sym (all_single c.args.stop c.args.store.now.box c.loop-self.values.items placed)
