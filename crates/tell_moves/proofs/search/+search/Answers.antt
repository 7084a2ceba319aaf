use Rattle.std.proofs.Common.{◌≡◌, ◌∙◌, ◌+◌, ◌-◌, ◌<◌, suc, sym, ap, subst, arith, rules, true, false, [], ◌∷◌, ◌++◌, length, drop, take, pos, ◌+ℤ◌, SFits, to_z, w64, length-append}
use Rattle.std.specs.List.{list_all, list_any}
use Rattle.std.proofs.lemmas.Int.{to_z-of_z}
use Rattle.std.proofs.lemmas.Result.{on_ok_weaker}
use Rattle.qc_model.specs.Domains.{Box, declared_box, box_within, has_empty, has_value, is_none_left, values_left, values_within}
use Rattle.qc_model.specs.Refuted.{refuted_by}
use Rattle.qc_model.specs.Valid.{is_constraint, is_number}
use Rattle.qc_model.proofs.Before.{before-le}
use Rattle.model_arguments.specs.Asked.{is_box_of}
use Rattle.model_arguments.proofs.Values.{value_passes}
use Rattle.fd_store.specs.Held.{Held}
use Rattle.box_laws.proofs.Readings.{rules_valid}
use Rattle.tell_moves.specs.Found.{found, domains_to}
use Rattle.tell_moves.specs.Puts.{state_of, puts}
use Rattle.tell_moves.specs.Stands.{StandsIn}
use Rattle.tell_moves.proofs.Boxed.{domains_end, has_place, is_asked, is_full, next_one, next_small, stands_on}
use Rattle.tell_moves.proofs.Going.{back_self, box_back, gone_all, gone_first, gone_more, gone_on, held_back, last_leaves, mark_within, next_here, none_empty, none_here, stands_still, value_none}
use Rattle.tell_moves.proofs.Stepping.{next_fits, next_nearer}
use Rattle.tell_moves.proofs.search.+search.Goals as goal

pub list-list_values-requires : goal.list-list_values-requires
list-list_values-requires t c = (omega arith, (c.requires.stands, (c.requires.from, omega arith)))

pub list-returns-then-len-level-clause-listed : goal.list-returns-then-len-level-clause-listed
list-returns-then-len-level-clause-listed t c =
    let counted : c.len.result ≡ length c.args.walk.now.values.items = let e = c.len.ensures in omega (arith, e) in
    let level = c.args.level.now in
    let g = level.problem.now in
    let w = c.args.walk.now in
    let n = length w.values.items in
    let none : domains_to g n level.stop ≡ [] = ap (λ k. drop n (take k (declared_box g))) (sym (sym counted ∙ c.if-len-level.true)) ∙ domains_end n (declared_box g) in
    on_ok_weaker c.list_tuple.result
    (λ h. subst (λ ds. state_of c.list_tuple.new.walk.listing ≡ puts (state_of w.listing) (found g level.number level.from w.values.items ds)) (sym none) h)
    c.list_tuple.ensures.listed

pub list_value-is_refuted-requires-clause-rules : goal.list_value-is_refuted-requires-clause-rules
list_value-is_refuted-requires-clause-rules t c =
    let level = c.args.level.now in
    let g = level.problem.now in
    subst (λ rules. list_all (is_constraint g.variables) rules ≡ true) (sym level.has_rules) (rules_valid g level.number c.known.ensures.constraints)

pub list_value-is_refuted-requires-clause-declared : goal.list_value-is_refuted-requires-clause-declared
list_value-is_refuted-requires-clause-declared t c =
    let g = c.args.level.now.problem.now in
    let w = c.args.walk.now in
    subst (λ (h : Held). is_box_of g h.box ≡ true) (sym c.store.ensures) (is_asked g c.known.ensures w.values.items w.remains.box c.requires.stands)

pub list_value-is_refuted-requires-clause-full : goal.list_value-is_refuted-requires-clause-full
list_value-is_refuted-requires-clause-full t c =
    let g = c.args.level.now.problem.now in
    let w = c.args.walk.now in
    subst (λ (h : Held). has_empty h.box ≡ false) (sym c.store.ensures) (is_full g c.known.ensures w.values.items w.remains.box c.requires.stands (none_empty g c.known.ensures))

pub list_value-is_refuted-requires-clause-x : goal.list_value-is_refuted-requires-clause-x
list_value-is_refuted-requires-clause-x t c =
    let level = c.args.level.now in
    let w = c.args.walk.now in
    let e = c.len.ensures in
    let l = c.requires.to in
    let m = level.stop_within in
    subst (λ (h : Held). c.len.result < length h.box) (sym c.store.ensures) (has_place level.problem.now c.known.ensures w.values.items w.remains.box c.requires.stands c.len.result (omega (arith, e, l, m)))

pub list_value-is_refuted-requires-clause-left : goal.list_value-is_refuted-requires-clause-left
list_value-is_refuted-requires-clause-left t c =
    let counted : c.len.result ≡ length c.args.walk.now.values.items = let e = c.len.ensures in omega (arith, e) in
    let v = c.args.v in
    let w = c.args.walk.now in
    let v_fits : SFits w64 v = search rules in
    simp to_z-of_z
    (subst (λ n. is_none_left (values_within v v (values_left c.store.result.now.box n)) ≡ false) (sym counted)
    (subst (λ (h : Held). is_none_left (values_within v v (values_left h.box (length w.values.items))) ≡ false) (sym c.store.ensures)
    (ap is_none_left (next_one c.args.level.now.problem.now c.known.ensures w.values.items w.remains.box c.requires.stands v c.requires.left))))

pub list_value-returns-then-is_refuted-clause-listed : goal.list_value-returns-then-is_refuted-clause-listed
list_value-returns-then-is_refuted-clause-listed t c =
    let counted : c.len.result ≡ length c.args.walk.now.values.items = let e = c.len.ensures in omega (arith, e) in
    let level = c.args.level.now in
    let g = level.problem.now in
    let v = c.args.v in
    let w = c.args.walk.now in
    let n = length w.values.items in
    let v_fits : SFits w64 v = search rules in
    let told : c.is_refuted.result ≡ list_any (λ r. refuted_by r (box_within c.store.result.now.box c.len.result v v)) level.rules.now = simp to_z-of_z at c.is_refuted.ensures in
    let some =
    subst (λ rs. list_any (λ r. refuted_by r (box_within w.remains.box n v v)) rs ≡ true) level.has_rules
    (subst (λ k. list_any (λ r. refuted_by r (box_within w.remains.box k v v)) level.rules.now ≡ true) counted
    (subst (λ (h : Held). list_any (λ r. refuted_by r (box_within h.box c.len.result v v)) level.rules.now ≡ true) c.store.ensures (sym told ∙ c.if-is_refuted.true))) in
    ap (puts (state_of w.listing)) (sym (value_none g c.known.ensures level.number level.from w.values.items w.remains.box v level.stop c.requires.stands level.has_stop c.requires.to c.requires.left some))

pub list_value-returns-then-is_refuted-clause-back : goal.list_value-returns-then-is_refuted-clause-back
list_value-returns-then-is_refuted-clause-back t c = back_self c.args.walk.now

pub list_value-keep-requires-clause-var : goal.list_value-keep-requires-clause-var
list_value-keep-requires-clause-var t c =
    let level = c.args.level.now in
    let w = c.args.walk.now in
    let e = c.len.ensures in
    let l = c.requires.to in
    let m = level.stop_within in
    has_place level.problem.now c.known.ensures w.values.items w.remains.box c.requires.stands c.len.result (omega (arith, e, l, m))

pub list_value-keep-requires-clause-first : goal.list_value-keep-requires-clause-first
list_value-keep-requires-clause-first t c =
    let g = c.args.level.now.problem.now in
    let n = length c.args.walk.now.values.items in
    let v_fits : SFits w64 c.args.v = search rules in
    simp to_z-of_z (value_passes is_number (values_left (declared_box g) n) c.args.v (next_small g c.known.ensures n) c.requires.left)

pub list_value-keep-requires-clause-last : goal.list_value-keep-requires-clause-last
list_value-keep-requires-clause-last t c =
    let g = c.args.level.now.problem.now in
    let n = length c.args.walk.now.values.items in
    let v_fits : SFits w64 c.args.v = search rules in
    simp to_z-of_z (value_passes is_number (values_left (declared_box g) n) c.args.v (next_small g c.known.ensures n) c.requires.left)

pub list_value-list-requires : goal.list_value-list-requires
list_value-list-requires t c =
    let counted : c.len.result ≡ length c.args.walk.now.values.items = let e = c.len.ensures in omega (arith, e) in
    let level = c.args.level.now in
    let g = level.problem.now in
    let v = c.args.v in
    let w = c.args.walk.now in
    let n = length w.values.items in
    let v_fits : SFits w64 v = search rules in
    let items : c.push.new.self.items ≡ w.values.items ++ v ∷ [] = simp to_z-of_z at c.in_ok-push.ensures.items in
    let box : c.keep.new.self.box ≡ box_within w.remains.box c.len.result v v = simp to_z-of_z at c.keep.ensures.content in
    let more : length c.push.new.self.items ≡ n + 1 = ap (λ us. length us) items ∙ length-append w.values.items (v ∷ []) in
    let high = before-le g (suc level.number) in
    let stop = level.has_stop in
    let before = c.requires.to in
    let on = stands_on g c.known.ensures w.values.items w.remains.box c.requires.stands v c.keep.new.self.box (omega (arith, high, stop, before)) c.requires.left (box ∙ ap (λ k. box_within w.remains.box k v v) counted) in
    (omega (arith, more), (subst (λ us. StandsIn g us c.keep.new.self.box) (sym items) on, (omega (arith, more), omega (arith, more))))

pub list_value-undo_to-requires-clause-at : goal.list_value-undo_to-requires-clause-at
list_value-undo_to-requires-clause-at t c =
    mark_within c.args.walk.now.remains c.keep.new.self c.list.new.walk.remains c.mark-mark.result.at c.mark-mark.ensures c.keep.ensures.past c.in_ok-list.ensures.back.past

pub list_value-undo_to-requires-clause-full : goal.list_value-undo_to-requires-clause-full
list_value-undo_to-requires-clause-full t c =
    let g = c.args.level.now.problem.now in
    let w = c.args.walk.now in
    ap has_empty (box_back w.remains c.keep.new.self c.list.new.walk.remains c.mark-mark.result.at c.mark-mark.ensures c.keep.ensures.past c.in_ok-list.ensures.back.past)
    ∙ is_full g c.known.ensures w.values.items w.remains.box c.requires.stands (none_empty g c.known.ensures)

pub list_value-returns-clause-listed : goal.list_value-returns-clause-listed
list_value-returns-clause-listed t c =
    let level = c.args.level.now in
    let g = level.problem.now in
    let v = c.args.v in
    let w = c.args.walk.now in
    let v_fits : SFits w64 v = search rules in
    let items : c.push.new.self.items ≡ w.values.items ++ v ∷ [] = simp to_z-of_z at c.in_ok-push.ensures.items in
    let more : length (w.values.items ++ v ∷ []) ≡ length w.values.items + 1 = length-append w.values.items (v ∷ []) in
    subst (λ k. state_of c.list.new.walk.listing ≡ puts (state_of w.listing) (found g level.number level.from (w.values.items ++ v ∷ []) (domains_to g k level.stop))) more
    (subst (λ us. state_of c.list.new.walk.listing ≡ puts (state_of w.listing) (found g level.number level.from us (domains_to g (length us) level.stop))) items c.in_ok-list.ensures.listed)

pub list_value-returns-clause-back : goal.list_value-returns-clause-back
list_value-returns-clause-back t c =
    let v = c.args.v in
    let w = c.args.walk.now in
    let v_fits : SFits w64 v = search rules in
    let items : c.push.new.self.items ≡ w.values.items ++ v ∷ [] = simp to_z-of_z at c.in_ok-push.ensures.items in
    let back = c.in_ok-list.ensures.back in
    let met = c.list.new.walk.values in
    let counted : met.len ≡ length met.items = let e = met.ok.0 in omega (arith, e) in
    record {
      values = c.pop-last.ensures.rest ∙ (ap (λ m. take (m - 1) met.items) counted ∙ (ap (λ us. take (length us - 1) us) (back.values ∙ items) ∙ last_leaves w.values.items v));
      box = c.undo_to.ensures.content ∙ box_back w.remains c.keep.new.self c.list.new.walk.remains c.mark-mark.result.at c.mark-mark.ensures c.keep.ensures.past back.past;
      past = held_back w.remains c.keep.new.self c.list.new.walk.remains c.undo_to.new.self c.mark-mark.result.at c.mark-mark.ensures c.keep.ensures.past back.past c.undo_to.ensures.past;
    }

pub list_values-loop-v-init : goal.list_values-loop-v-init
list_values-loop-v-init t c =
    let level = c.args.level.now in
    gone_first level.problem.now c.known.ensures level.number level.from level.stop c.args.walk.now

pub list_values-next-requires : goal.list_values-next-requires
list_values-next-requires t c =
    let level = c.args.level.now in
    let w = c.args.walk.now in
    let e = c.len.ensures in
    let l = c.requires.to in
    let m = level.stop_within in
    subst (λ (h : Held). c.len.result < length h.box) (sym c.store.ensures)
    (subst (λ (b : Box). c.len.result < length b) (sym c.loop-v.invariant.back.box)
    (has_place level.problem.now c.known.ensures w.values.items w.remains.box c.requires.stands c.len.result (omega (arith, e, l, m))))

pub list_values-returns-then-walk-clause-listed : goal.list_values-returns-then-walk-clause-listed
list_values-returns-then-walk-clause-listed t c =
    let level = c.args.level.now in
    let g = level.problem.now in
    let high = before-le g (suc level.number) in
    let stop = level.has_stop in
    gone_more g c.known.ensures level.number level.from level.stop c.args.walk.now c.loop-v.walk (to_z w64 c.loop-v.at-bits) c.loop-v.invariant c.requires.to (omega (arith, high, stop)) c.if-walk.true

pub list_values-list_value-requires : goal.list_values-list_value-requires
list_values-list_value-requires t c =
    let counted : c.len.result ≡ length c.args.walk.now.values.items = let e = c.len.ensures in omega (arith, e) in
    let level = c.args.level.now in
    let g = level.problem.now in
    let v = c.in-Some.v in
    let at = to_z w64 c.loop-v.at-bits in
    let w = c.args.walk.now in
    let gone = c.loop-v.invariant in
    let v_fits : SFits w64 v = search rules in
    let same : length c.loop-v.walk.values.items ≡ length w.values.items = ap (λ us. length us) gone.back.values in
    let next = next_here g c.known.ensures level.number level.from level.stop w c.loop-v.walk at gone c.requires.stands c.len.result c.store.result.now counted c.store.ensures v (sym c.in-Some.is ∙ c.next.ensures) in (
      omega (arith, same),
      (
        stands_still g c.known.ensures level.number level.from level.stop w c.loop-v.walk at gone c.requires.stands,
        (omega (arith, same), (omega (arith, same), simp to_z-of_z (subst (λ us. has_value (values_left (declared_box g) (length us)) v ≡ true) (sym gone.back.values) next.has))),
      ),
    )

pub list_values-overflow_add-at : goal.list_values-overflow_add-at
list_values-overflow_add-at t c =
    let counted : c.len.result ≡ length c.args.walk.now.values.items = let e = c.len.ensures in omega (arith, e) in
    let level = c.args.level.now in
    let v = c.in-Some.v in
    let v_fits : SFits w64 v = search rules in
    let next = next_here level.problem.now c.known.ensures level.number level.from level.stop c.args.walk.now c.loop-v.walk (to_z w64 c.loop-v.at-bits) c.loop-v.invariant c.requires.stands c.len.result c.store.result.now counted c.store.ensures v (sym c.in-Some.is ∙ c.next.ensures) in
    simp to_z-of_z (next_fits v next.number)

pub list_values-loop-v-smaller : goal.list_values-loop-v-smaller
list_values-loop-v-smaller t c =
    let counted : c.len.result ≡ length c.args.walk.now.values.items = let e = c.len.ensures in omega (arith, e) in
    let level = c.args.level.now in
    let v = c.in-Some.v in
    let at = to_z w64 c.loop-v.at-bits in
    let v_fits : SFits w64 v = search rules in
    let next = next_here level.problem.now c.known.ensures level.number level.from level.stop c.args.walk.now c.loop-v.walk at c.loop-v.invariant c.requires.stands c.len.result c.store.result.now counted c.store.ensures v (sym c.in-Some.is ∙ c.next.ensures) in
    let n_fits : SFits w64 (v +ℤ pos 1) = next_fits v next.number in
    simp to_z-of_z (next_nearer at v next.from next.number)

pub list_values-loop-v-preserved : goal.list_values-loop-v-preserved
list_values-loop-v-preserved t c =
    let counted : c.len.result ≡ length c.args.walk.now.values.items = let e = c.len.ensures in omega (arith, e) in
    let level = c.args.level.now in
    let g = level.problem.now in
    let v = c.in-Some.v in
    let at = to_z w64 c.loop-v.at-bits in
    let w = c.args.walk.now in
    let mid = c.loop-v.walk in
    let gone = c.loop-v.invariant in
    let v_fits : SFits w64 v = search rules in
    let next = next_here g c.known.ensures level.number level.from level.stop w mid at gone c.requires.stands c.len.result c.store.result.now counted c.store.ensures v (sym c.in-Some.is ∙ c.next.ensures) in
    let n_fits : SFits w64 (v +ℤ pos 1) = next_fits v next.number in
    let listed : state_of c.list_value.new.walk.listing ≡ puts (state_of mid.listing) (found g level.number level.from (mid.values.items ++ v ∷ []) (domains_to g (length mid.values.items + 1) level.stop)) = simp to_z-of_z at c.in_ok-list_value.ensures.listed in
    simp to_z-of_z (gone_on g c.known.ensures level.number level.from level.stop w mid c.list_value.new.walk at v gone next c.in_ok-list_value.ensures.back listed)

pub list_values-returns-clause-listed : goal.list_values-returns-clause-listed
list_values-returns-clause-listed t c =
    let counted : c.len.result ≡ length c.args.walk.now.values.items = let e = c.len.ensures in omega (arith, e) in
    let level = c.args.level.now in
    let g = level.problem.now in
    let at = to_z w64 c.loop-v.at-bits in
    let w = c.args.walk.now in
    let gone = c.loop-v.invariant in
    let high = before-le g (suc level.number) in
    let stop = level.has_stop in
    gone_all g c.known.ensures level.number level.from level.stop w c.loop-v.walk at gone c.requires.to (omega (arith, high, stop))
    (none_here g c.known.ensures level.number level.from level.stop w c.loop-v.walk at gone c.requires.stands c.len.result c.store.result.now counted c.store.ensures (sym c.in_default.is ∙ c.next.ensures))
