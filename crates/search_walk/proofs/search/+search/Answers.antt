use Rattle.std.proofs.Common.{rules, add-one, take, ℤ, ◌≡◌, ◌∙◌, sym, ap, refl, subst, ◌+◌, ◌-◌, suc, length, drop, w64, to_z, of_z, arith, true, false, [], ◌∷◌, ◌++◌, Option, None, Some, IfSome, map}
use Rattle.std.proofs.lemmas.Int.{to_z-of_z}
use Rattle.std.proofs.lemmas.List.{append-nil}
use Rattle.std.proofs.lemmas.Result.{on_ok_weaker, IfOk-weaker}
use Rattle.std.proofs.lemmas.Bool.{and_parts}
use mir.Val.{SFits}
use Rattle.qc_model.specs.Content.{Game}
use Rattle.qc_model.specs.Domains.{Box, has_empty, has_value, is_single, values_left}
use Rattle.qc_model.specs.Game.{before}
use Rattle.fd_store.specs.Held.{Held, values_from}
use Rattle.prop_engine.specs.declared.answer.Closed.{Closed}
use Rattle.proof_tree.specs.Cover.{box_to}
use Rattle.proof_tree.specs.Incumbents.{has_no_worse}
use Rattle.proof_tree.specs.InPlace.{is_horizon}
use Rattle.proof_tree.specs.Lines.{step_line}
use Rattle.proof_tree.specs.Place.{is_fixed_to}
use Rattle.joins.specs.Seen.{verdict_of}
use Rattle.joins.specs.Joins.{game_of, KeepsOthers, LeafFits, out_of}
use Rattle.search_box.specs.Closes.{IsPruned, IsClosedAt}
use Rattle.search_box.specs.Entered.{IsEntered}
use Rattle.search_box.specs.Looking.{scope_number}
use Rattle.search_box.specs.Rests.{IsAfter, IsNext}
use Rattle.search_parts.specs.Uppers.{skipped_between, without_before}
use Rattle.search_box.proofs.Goings.{follows_on}
use Rattle.search_walk.specs.Going.{GoesOn}
use Rattle.search_walk.specs.Aims.{tracked_at, IsAimed}
use Rattle.search_parts.specs.Beaten.{seen_bounds}
use Rattle.search_walk.specs.declared.aim.Worse.{Worse}
use Rattle.search_walk.specs.Narrowed.{NarrowTold}
use Rattle.search_walk.specs.Rivals.{above_at, outdoes, IsRival}
use Rattle.search_parts.specs.Settled.{beats_none, is_outdone}
use Rattle.search_walk.specs.Trimmed.{TrimmedPut}
use Rattle.search_walk.specs.Here.{here_of, in_box, node_of}
use Rattle.search_walk.specs.Put.{BoundedPut, CasePut}
use Rattle.search_kept.specs.Known.{IsEnded}
use Rattle.search_parts.specs.Written.{NodeWritten}
use Rattle.joins.specs.declared.joins.Joins.{Joins}
use Rattle.search_box.specs.Complete.{IsClosedAtGoal}
use Rattle.search_walk.proofs.Spread.{comes_after, first_case, next_case, passed_on, spread_here}
use Rattle.search_walk.proofs.Branching.{passed_here}
use Rattle.search_walk.proofs.Ahead.{Owed}
use Rattle.search_walk.proofs.AheadCases.{another, ended_by, gone_on, home, later_done, is_free, none_owed, reached, settled_there, still_owed, went_first, went_past}
use Rattle.qc_model.specs.Demands.{demands}
use Rattle.proof_tree.specs.Steps.{after_steps}
use Rattle.search_walk.proofs.Trimming.{needed_made}
use Rattle.search_walk.proofs.Here.{outdone_ends, empty_told, barred_told, few_turns, next_told, pruned_told, bounded_told, stepped_told, bare_steps, ending_kept, part_told, branch_told, ready_first, ready_bounded}
use Rattle.search_walk.proofs.Knowing.{kept_told, node_finished, told_ends}
use Rattle.search_parts.proofs.Marks.{firsts_marks}
use Rattle.search_walk.proofs.Places.{goal_closed}
use Rattle.search_walk.proofs.Remains.{as_many, none_back, both_back, back_after, back_below, back_more, case_back, cut_back, cut_front, cut_length, dropped_back, entered_back, going_back, later_back, line_back, longer, lines_both, one_fewer, taken_back, told_back, tuple_back, undone_back, back_from, same_back}
use Rattle.search_walk.proofs.Branching.{IsGone, HasAround, alone_ended, alone_settled, case_passed, cases_begun, cases_ended, left_open, left_outdone, left_settled}
use Rattle.search_walk.specs.Later.{SoFar, cut_to}
use Rattle.search_walk.proofs.OwnTrees.{bounded_ended, case_by_part, may_branch, part_again, searched_at, tree_again, tree_ended}
use Rattle.search_walk.proofs.Searched.{below_back, below_ended, below_told, node_put, node_searched, same_place}
use Rattle.search_walk.proofs.search.+search.Goals as goal

pub after_tuple-below_tuple-requires : goal.after_tuple-below_tuple-requires
after_tuple-below_tuple-requires t c =
    let l = c.args.stage.now.level.now in
    let k = l.problem.now in
    let now = c.tuple_allowed.new.self in
    let closed = subst (λ (s : Held). IsClosedAt k l.number s.box) (sym c.tuple_allowed.ensures.store) c.requires.going.closed in (
      omega arith,
      (c.tuple_allowed.ensures.entered, (λ e. goal_closed k k l.number now.store.box refl closed (add-one l.number ∙ e), c.requires.joins)),
    )

pub below_tuple-later_node-requires : goal.below_tuple-later_node-requires
below_tuple-later_node-requires t c =
    let l = c.args.stage.now.level.now in
    let k = l.problem.now in
    let g = c.args.stage.now.levels.now.problem.now in
    let now = c.args.walk.now.remains in
    let same : k ≡ g = c.args.stage.now.same in
    let scopes : length g.scopes ≡ length k.scopes = ap (λ (f : Game). length f.scopes) (sym same) in
    let variables : length g.variables ≡ length k.variables = ap (λ (f : Game). length f.variables) (sym same) in
    let place : before g (l.number + 1) ≡ l.stop = ap (λ (f : Game). before f (l.number + 1)) (sym same) ∙ (ap (before k) (add-one l.number) ∙ sym l.has_stop) in
    let entered = subst (λ m. IsEntered g m now) (sym (add-one l.number)) (subst (λ (f : Game). IsEntered f (suc l.number) now) same c.requires.here) in (
      omega (arith, l.is_scope, scopes, variables, place),
      (omega (arith, l.is_scope, scopes), (c.args.stage.now.within, (entered, (λ e. subst (λ (f : Game). IsClosedAtGoal f now.store.box) same (c.requires.closed (sym (add-one l.number) ∙ (e ∙ scopes))), c.requires.joins ∙ same)))),
    )

pub after_tuple-returns-then-not-tuple_allowed-clause-told : goal.after_tuple-returns-then-not-tuple_allowed-clause-told
after_tuple-returns-then-not-tuple_allowed-clause-told t c =
    let node = here_of c.args.stage.now c.args.walk.now in
    let l = c.args.stage.now.level.now in
    let g = l.problem.now in
    let b = c.args.walk.now.remains in
    let w = c.requires.going.within in
    let fixed = subst (λ n. is_fixed_to g l.number n b.store.box ≡ true) l.has_stop w.fixed in
    λ xs ready worse. barred_told node xs c.args.walk.now.left c.args.walk.now.lines c.args.walk.now.joins ready c.put.new.self c.add_barred.new.self w.here.full fixed
    (sym c.tuple_allowed.ensures.allowed ∙ c.if-not-tuple_allowed.true) c.add_barred.ensures.stands c.in_ok-put.ensures.put

pub below_tuple-returns-clause-told : goal.below_tuple-returns-clause-told
below_tuple-returns-clause-told t c =
    IfOk-weaker c.later_node.result _ _ (λ found told. below_told c.args.stage.now found c.args.walk.now c.later_node.new.walk told) c.later_node.ensures.told

pub below_tuple-returns-clause-ended : goal.below_tuple-returns-clause-ended
below_tuple-returns-clause-ended t c =
    IfOk-weaker c.later_node.result _ _ (λ found ended. below_ended c.args.stage.now found c.args.walk.now c.later_node.new.walk ended) c.later_node.ensures.ended

pub below_tuple-returns-clause-back : goal.below_tuple-returns-clause-back
below_tuple-returns-clause-back t c =
    on_ok_weaker c.later_node.result (λ back. below_back c.args.stage.now c.args.walk.now c.later_node.new.walk back) c.later_node.ensures.back

pub after_tuple-keep_aside-requires : goal.after_tuple-keep_aside-requires
after_tuple-keep_aside-requires t c =
    let l = c.args.stage.now.level.now in
    let g = l.problem.now in
    let n = suc l.number in
    let h = scope_number c.args.stage.now.horizon in
    let a = c.args.walk.now in
    let w = c.below_tuple.new.walk in
    let back = c.in_ok-found.ensures.back in
    let found = c.in_ok-found.found in
    let after = drop (length c.put-2.new.self) w.lines in
    record {
      here = entered_back g n _ w back c.tuple_allowed.ensures.entered;
      joins = c.add_node.ensures.same ∙ (back.game ∙ c.requires.joins);
      ended = λ cut few.
          subst (λ k. IsEnded g n w.remains.store.box h (verdict_of found (out_of c.add_node.new.self)) a.left w.left (drop k w.lines)) (sym c.len-start.ensures)
          (subst (λ vs. IsEnded g n w.remains.store.box h (verdict_of found vs) a.left w.left after) (sym c.add_node.ensures.out)
          (subst (λ (b : Box). IsEnded g n b h (verdict_of found (out_of w.joins)) a.left w.left after) (sym back.box)
          (c.in_ok-found.ensures.ended cut few)));
    }

pub after_tuple-returns-clause-told : goal.after_tuple-returns-clause-told
after_tuple-returns-clause-told t c =
    let node = here_of c.args.stage.now c.args.walk.now in
    let l = c.args.stage.now.level.now in
    let g = l.problem.now in
    let h = scope_number c.args.stage.now.horizon in
    let cuts = c.args.stage.now.cuts in
    let a = c.args.walk.now in
    let b = a.remains in
    let within = c.requires.going.within in
    let fixed = subst (λ n. is_fixed_to g l.number n b.store.box ≡ true) l.has_stop within.fixed in
    let w = c.below_tuple.new.walk in
    let v = verdict_of c.in_ok-found.found (out_of w.joins) in
    λ xs ready worse.
    let few = few_turns node xs a.left a.lines a.joins ready in
    let below = subst (λ (s : Held). NodeWritten cuts (above_at g (suc l.number) xs) g (drop (suc l.number) g.scopes) (suc l.number) (demands g (suc l.number)) s.box h v a.left w.left c.put-2.new.self w.lines) c.tuple_allowed.ensures.store (c.in_ok-found.ensures.told few xs ready.stands) in
    let told = next_told node xs a.left a.lines a.joins ready l.is_scope v w.left c.put-2.new.self w.lines w.joins c.add_node.new.self within.here.full fixed
    (sym c.tuple_allowed.ensures.allowed ∙ c.if-not-tuple_allowed.false) worse c.in_ok-put-2.ensures.put below (c.in_ok-found.ensures.back.joins l.number xs (omega arith))
    (λ ys s fits. c.add_node.ensures.stands ys s (subst (λ (f : Game). LeafFits f l.number ys v) (sym (c.in_ok-found.ensures.back.game ∙ c.requires.joins)) fits)) in
    ending_kept node xs a.left w.left _ a.lines w.lines _ c.add_node.new.self _ c.keep_aside.ensures.left c.in_ok-keep_aside.ensures.lines c.keep_aside.ensures.joins told

pub after_tuple-returns-clause-back : goal.after_tuple-returns-clause-back
after_tuple-returns-clause-back t c =
    let l = c.args.stage.now.level.now in
    let k = c.keep_aside in
    back_below l.problem.now l.problem.now l.number refl c.args.walk.now _ c.below_tuple.new.walk k.new.walk c.requires.going.within.here c.tuple_allowed.ensures.entered c.tuple_allowed.ensures.store c.tuple_allowed.ensures.kept refl refl _ c.in_ok-put-2.ensures.put c.in_ok-found.ensures.back
    k.ensures.remains c.in_ok-keep_aside.ensures.lines k.ensures.left (ap game_of k.ensures.joins ∙ c.add_node.ensures.same)
    (subst (λ (js : Joins). KeepsOthers l.number c.below_tuple.new.walk.joins js) (sym k.ensures.joins) c.add_node.ensures.others)

pub cases-returns-clause-told : goal.cases-returns-clause-told
cases-returns-clause-told t c =
    let s = c.args.stage.now in
    let a = c.args.walk.now in
    let x = c.args.x.0 in
    let vs = values_left a.remains.store.box x in
    let spread = spread_here s.level.now.problem.now a.remains x c.known.ensures.domains c.requires.going.within.here.game c.known-2.ensures.declared in
    let first = first_case vs c.first-first.result spread c.first-first.ensures in
    on_ok_weaker c.later_cases.result (λ told. told a.left a.lines a.joins c.len-start.ensures (cases_begun s x a _ first.1)) c.later_cases.ensures.told

pub cases-returns-clause-back : goal.cases-returns-clause-back
cases-returns-clause-back t c =
    let l = c.args.stage.now.level.now in
    let a = c.args.walk.now in
    on_ok_weaker c.later_cases.result (λ back. later_back l.problem.now l.number a a c.later_cases.new.walk c.len-start.result c.len-start.ensures (none_back l.problem.now l.number a) back) c.later_cases.ensures.back

pub later_cases-values-init : goal.later_cases-values-init
later_cases-values-init t c =
    let s = c.args.stage.now in
    let a = c.args.walk.now in
    let x = c.args.x.0 in
    let vs = values_left a.remains.store.box x in
    let spread = spread_here s.level.now.problem.now a.remains x c.known.ensures.domains c.requires.going.within.here.game c.known-2.ensures.declared in
    let same = sym (passed_on vs c.args.from spread c.requires.value) in
    record {
      back = cut_front s.level.now.problem.now s.level.now.number a c.args.start;
      left = subst (λ v. has_value vs v ≡ true) same c.requires.value;
      after = comes_after vs (to_z w64 (of_z w64 c.args.from)) c.previous-before.result c.previous-before.ensures;
      goes = λ had old first e goes. goes;
    }

pub later_cases-returns-then-is_settled-clause-told : goal.later_cases-returns-then-is_settled-clause-told
later_cases-returns-then-is_settled-clause-told t c =
    let s = c.args.stage.now in
    let a = c.args.walk.now in
    let x = c.args.x.0 in
    let spread = spread_here s.level.now.problem.now a.remains x c.known.ensures.domains c.requires.going.within.here.game c.known-2.ensures.declared in
    let now = c.values.invariant in
    λ had old first e goes. left_settled s x a c.values.walk had old first (to_z w64 c.values.value-bits) c.last-last.result spread now.left c.last-last.ensures (now.back.game ∙ c.requires.joins) c.is_settled.result c.leave_out.new.lines c.is_settled.ensures c.if-is_settled.true (now.goes had old first e (passed_here s a x had old first c.args.from spread c.requires.value goes))
    c.in_ok-leave_out.ensures

pub later_cases-returns-then-is_settled-clause-back : goal.later_cases-returns-then-is_settled-clause-back
later_cases-returns-then-is_settled-clause-back t c =
    back_more c.args.stage.now.level.now.problem.now c.args.stage.now.level.now.number (cut_to c.args.start c.args.walk.now) c.values.walk _ c.values.invariant.back refl refl (λ j xs h s. s) _ c.in_ok-leave_out.ensures (as_many c.values.walk.left)

pub later_cases-returns-then-is_outdone-clause-told : goal.later_cases-returns-then-is_outdone-clause-told
later_cases-returns-then-is_outdone-clause-told t c =
    let s = c.args.stage.now in
    let a = c.args.walk.now in
    let x = c.args.x.0 in
    let spread = spread_here s.level.now.problem.now a.remains x c.known.ensures.domains c.requires.going.within.here.game c.known-2.ensures.declared in
    let now = c.values.invariant in
    let same = now.back.game ∙ c.requires.joins in
    let i = s.level.now.number in
    let ends = outdone_ends (outdoes s.level.now.problem.now i s.rival) s.level.now.problem.now i c.values.walk.joins (λ ys h. subst (λ (f : Game). is_outdone (outdoes f i s.rival) ys ≡ true) same (c.is_outdone.ensures c.if-is_outdone.true ys h)) in
    λ had old first e goes. left_outdone s x a c.values.walk had old first (to_z w64 c.values.value-bits) c.last-last.result spread now.left c.last-last.ensures same c.leave_out-then-is_outdone.new.lines c.add_skipped.new.self ends c.add_skipped.ensures.stands (now.goes had old first e (passed_here s a x had old first c.args.from spread c.requires.value goes))
    c.in_ok-leave_out-2.ensures

pub later_cases-returns-then-is_outdone-clause-back : goal.later_cases-returns-then-is_outdone-clause-back
later_cases-returns-then-is_outdone-clause-back t c =
    told_back c.args.stage.now.level.now.problem.now c.args.stage.now.level.now.number (cut_to c.args.start c.args.walk.now) c.values.walk _ c.values.invariant.back refl c.add_skipped.ensures.same c.add_skipped.ensures.others _ c.in_ok-leave_out-2.ensures (as_many c.values.walk.left)

pub later_cases-returns-then-walk-eq0-clause-told : goal.later_cases-returns-then-walk-eq0-clause-told
later_cases-returns-then-walk-eq0-clause-told t c =
    let s = c.args.stage.now in
    let a = c.args.walk.now in
    let x = c.args.x.0 in
    let spread = spread_here s.level.now.problem.now a.remains x c.known.ensures.domains c.requires.going.within.here.game c.known-2.ensures.declared in
    let now = c.values.invariant in
    λ had old first e goes. left_open s x a c.values.walk had old first (to_z w64 c.values.value-bits) c.last-last.result spread now.left c.last-last.ensures (now.back.game ∙ c.requires.joins) c.is_settled.result c.leave_out-then-walk-eq0.new.lines c.add_skipped-then-walk-eq0.new.self c.is_settled.ensures c.if-is_settled.false
    c.if-walk-eq0.true c.add_skipped-then-walk-eq0.ensures.stands (now.goes had old first e (passed_here s a x had old first c.args.from spread c.requires.value goes)) c.in_ok-leave_out-3.ensures

pub later_cases-returns-then-walk-eq0-clause-back : goal.later_cases-returns-then-walk-eq0-clause-back
later_cases-returns-then-walk-eq0-clause-back t c =
    told_back c.args.stage.now.level.now.problem.now c.args.stage.now.level.now.number (cut_to c.args.start c.args.walk.now) c.values.walk _ c.values.invariant.back refl c.add_skipped-then-walk-eq0.ensures.same c.add_skipped-then-walk-eq0.ensures.others _ c.in_ok-leave_out-3.ensures
    (as_many c.values.walk.left)

pub later_cases-returns-in_default-clause-told : goal.later_cases-returns-in_default-clause-told
later_cases-returns-in_default-clause-told t c =
    let s = c.args.stage.now in
    let a = c.args.walk.now in
    let x = c.args.x.0 in
    let spread = spread_here s.level.now.problem.now a.remains x c.known.ensures.domains c.requires.going.within.here.game c.known-2.ensures.declared in
    let now = c.values.invariant in
    let z = c.with_value.new.walk in
    let v = to_z w64 c.values.value-bits in
    let part = c.in_ok-with_value.ensures.back in
    let same : values_left z.remains.store.box x ≡ values_left a.remains.store.box x = ap (λ (d : Box). values_left d x) (part.box ∙ now.back.box) in
    λ had old first e goes.
    let gone : IsGone s x a c.values.walk z old c.first-first.result v c.values.before c.last_to_drop-dropped.result c.is_settled.result c.is_settled-in-values.result c.args.start c.len-at.result = record {
      spread = spread;
      free = c.requires.free;
      first = c.first-first.ensures;
      left = now.left;
      after = now.after;
      same = now.back.game ∙ c.requires.joins;
      box = now.back.box;
      game = part.game;
      asked = c.is_settled.ensures;
      unsettled = c.if-is_settled.false;
      some = c.if-walk-eq0.false;
      asked_then = c.is_settled-in-values.ensures;
      drops = c.last_to_drop-dropped.ensures;
      begun = e;
      reached = c.len-at.ensures;
    } in
    let passed = case_passed s x a c.values.walk z had old first c.first-first.result v c.values.before c.last_to_drop-dropped.result c.is_settled.result c.is_settled-in-values.result c.args.start c.len-at.result gone c.drop_before.new.lines c.in_ok-drop_before.ensures (c.in_ok-with_value.ensures.told (λ q. cc)) in
    cases_ended (here_of s a) x had old first z.left c.drop_before.new.lines z.joins (passed [] (subst (λ us. values_from v us ≡ v ∷ []) same c.in_default.ensures) (now.goes had old first e (passed_here s a x had old first c.args.from spread c.requires.value goes)))

pub later_cases-returns-in_default-clause-back : goal.later_cases-returns-in_default-clause-back
later_cases-returns-in_default-clause-back t c =
    let a = c.args.walk.now in
    case_back c.args.stage.now.level.now.problem.now c.args.stage.now.level.now.number (cut_to c.args.start a) c.values.walk _ c.with_value.new.walk _ c.values.invariant.back refl refl refl (one_fewer c.values.walk.left) c.in_ok-with_value.ensures.back refl refl refl c.last_to_drop-dropped.result (to_z w64 (of_z w64 c.first-first.result)) c.args.start c.len-at.result (cut_length a c.args.start c.requires.start) c.in_ok-drop_before.ensures

pub later_cases-values-preserved : goal.later_cases-values-preserved
later_cases-values-preserved t c =
    let s = c.args.stage.now in
    let a = c.args.walk.now in
    let x = c.args.x.0 in
    let spread = spread_here s.level.now.problem.now a.remains x c.known.ensures.domains c.requires.going.within.here.game c.known-2.ensures.declared in
    let now = c.values.invariant in
    let z = c.with_value.new.walk in
    let v = to_z w64 c.values.value-bits in
    let part = c.in_ok-with_value.ensures.back in
    let vs = values_left a.remains.store.box x in
    let same : values_left z.remains.store.box x ≡ vs = ap (λ (d : Box). values_left d x) (part.box ∙ now.back.box) in
    let after = subst (λ us. IsAfter us v c.in-Some.next) same c.in-Some.ensures in
    let next = next_case vs v c.in-Some.next spread after in
    record {
      back = case_back s.level.now.problem.now s.level.now.number (cut_to c.args.start a) c.values.walk _ z _ now.back refl refl refl (one_fewer c.values.walk.left) part refl refl refl c.last_to_drop-dropped.result (to_z w64 (of_z w64 c.first-first.result)) c.args.start c.len-at.result (cut_length a c.args.start c.requires.start) c.in_ok-drop_before.ensures;
      left = next.0;
      after = record { left = now.left; rest = next.1 };
      goes = λ had old first e goes.
          let gone : IsGone s x a c.values.walk z old c.first-first.result v c.values.before c.last_to_drop-dropped.result c.is_settled.result c.is_settled-in-values.result c.args.start c.len-at.result = record {
            spread = spread;
            free = c.requires.free;
            first = c.first-first.ensures;
            left = now.left;
            after = now.after;
            same = now.back.game ∙ c.requires.joins;
            box = now.back.box;
            game = part.game;
            asked = c.is_settled.ensures;
            unsettled = c.if-is_settled.false;
            some = c.if-walk-eq0.false;
            asked_then = c.is_settled-in-values.ensures;
            drops = c.last_to_drop-dropped.ensures;
            begun = e;
            reached = c.len-at.ensures;
          } in
          case_passed s x a c.values.walk z had old first c.first-first.result v c.values.before c.last_to_drop-dropped.result c.is_settled.result c.is_settled-in-values.result c.args.start c.len-at.result gone c.drop_before.new.lines c.in_ok-drop_before.ensures (c.in_ok-with_value.ensures.told (λ q. cc))
          (values_from (to_z w64 (of_z w64 c.in-Some.next)) vs) next.1 (now.goes had old first e goes);
    }

pub later_node-returns-then-number-scopes-clause-told : goal.later_node-returns-then-number-scopes-clause-told
later_node-returns-then-number-scopes-clause-told t c =
    λ few up stands. (c.in_ok-at_goal.ensures.told c.args.cuts (above_at c.args.levels.now.problem.now c.args.number up)).written

pub searched_node-returns-then-is_here-clause-told : goal.searched_node-returns-then-is_here-clause-told
searched_node-returns-then-is_here-clause-told t c =
    let g = c.args.levels.now.problem.now in
    let i = c.args.number in
    let a = c.args.walk.now in
    let level = c.level-level.result.now in
    let below = scope_number c.in_ok-below.below in
    let ahead = c.in_ok-ahead.ensures.answer in
    let horizon : is_horizon below level.number ≡ true = ap (is_horizon below) c.level-level.ensures.number ∙ (sym c.is_here.ensures ∙ c.if-is_here.true) in
    let found = c.in_ok-stuck.field-0 in
    let told = c.in_ok-stuck.ensures.told in
    λ few up stands. node_put (node_of c.args.cuts (above_at g i up) g i (scope_number c.args.horizon) a) _ below c.in_ok-ahead.ahead found a c.stuck.new.walk c.put_horizon.new.lines (same_place c.args.cuts (above_at g i up) level.problem.now g level.number i c.look_ahead.new.self.store.box a.remains.store.box below c.level-level.ensures.problem c.level-level.ensures.number c.look_ahead.ensures.content) ahead c.in_ok-below.ensures.below c.in_ok-below.ensures.lines (told c.args.cuts (above_at g i up) below horizon)

pub searched_node-returns-then-is_here-clause-ended : goal.searched_node-returns-then-is_here-clause-ended
searched_node-returns-then-is_here-clause-ended t c =
    let g = c.args.levels.now.problem.now in
    let i = c.args.number in
    let a = c.args.walk.now in
    let level = c.level-level.result.now in
    let below = scope_number c.in_ok-below.below in
    let ahead = c.in_ok-ahead.ensures.answer in
    let horizon : is_horizon below level.number ≡ true = ap (is_horizon below) c.level-level.ensures.number ∙ (sym c.is_here.ensures ∙ c.if-is_here.true) in
    let found = c.in_ok-stuck.field-0 in
    let told = c.in_ok-stuck.ensures.told in
    λ cut few. told_ends (node_of c.args.cuts beats_none g i (scope_number c.args.horizon) a) found a c.stuck.new.walk cut
    (node_put (node_of c.args.cuts beats_none g i (scope_number c.args.horizon) a) _ below c.in_ok-ahead.ahead found a c.stuck.new.walk c.put_horizon.new.lines (same_place c.args.cuts beats_none level.problem.now g level.number i c.look_ahead.new.self.store.box a.remains.store.box below c.level-level.ensures.problem c.level-level.ensures.number c.look_ahead.ensures.content) ahead c.in_ok-below.ensures.below c.in_ok-below.ensures.lines (told c.args.cuts beats_none below horizon))

pub searched_node-returns-then-is_here-clause-back : goal.searched_node-returns-then-is_here-clause-back
searched_node-returns-then-is_here-clause-back t c =
    let look = c.in_ok-ahead.ensures in
    back_after c.args.levels.now.problem.now _ c.args.number _ c.level-level.ensures.problem c.level-level.ensures.number c.args.walk.now _ c.stuck.new.walk look.game look.content look.past look.values refl refl _ c.in_ok-below.ensures.lines c.in_ok-stuck.ensures.back

pub searched_node-invariant_of-stage-clause-aimed : goal.searched_node-invariant_of-stage-clause-aimed
searched_node-invariant_of-stage-clause-aimed t c =
    let level = c.level-level.result.now in
    let aim = c.aim_of.result in
    let here = subst (λ (f : Game). IsAimed f c.args.number aim) (sym c.level-level.ensures.problem) c.aim_of.ensures in
    subst (λ n. IsAimed level.problem.now n aim) (sym c.level-level.ensures.number) here

pub searched_node-invariant_of-stage-clause-rivalled : goal.searched_node-invariant_of-stage-clause-rivalled
searched_node-invariant_of-stage-clause-rivalled t c =
    let level = c.level-level.result.now in
    let rival = c.rival_of.result in
    let here = subst (λ (f : Game). IsRival f c.args.number rival) (c.requires.joins ∙ sym c.level-level.ensures.problem) c.rival_of.ensures.sense in
    subst (λ n. IsRival level.problem.now n rival) (sym c.level-level.ensures.number) here

pub searched_node-keep_node-requires : goal.searched_node-keep_node-requires
searched_node-keep_node-requires t c =
    let g = c.args.levels.now.problem.now in
    let i = c.args.number in
    let a = c.args.walk.now in
    let level = c.level-level.result.now in
    let below = scope_number c.in_ok-below.below in
    let ahead = c.in_ok-ahead.ensures.answer in
    let w = c.own_tree.new.walk in
    let found = c.in_ok-found.found in
    let own = outdoes level.problem.now level.number c.rival_of.result in
    let same = same_place c.args.cuts own level.problem.now g level.number i c.look_ahead.new.self.store.box a.remains.store.box below c.level-level.ensures.problem c.level-level.ensures.number c.look_ahead.ensures.content in
    let node = node_of c.args.cuts own g i (scope_number c.args.horizon) a in
    let look = c.in_ok-ahead.ensures in
    let back = back_after g level.problem.now i level.number c.level-level.ensures.problem c.level-level.ensures.number a _ w look.game look.content look.past look.values refl refl _ c.in_ok-below.ensures.lines c.in_ok-found.ensures.back in
    record {
      scope = c.requires.scope;
      here = entered_back g i a w back c.requires.here;
      joins = back.game ∙ c.requires.joins;
      finished = λ cut few. node_finished node found c.len-start.result a w cut back.box c.len-start.ensures (node_searched node _ own below c.in_ok-ahead.ahead found a w c.put_horizon.new.lines same (λ n q. q) ahead c.in_ok-below.ensures.below c.in_ok-below.ensures.lines c.in_ok-found.ensures.told few);
    }

pub searched_node-returns-clause-told : goal.searched_node-returns-clause-told
searched_node-returns-clause-told t c =
    let g = c.args.levels.now.problem.now in
    let i = c.args.number in
    let a = c.args.walk.now in
    let level = c.level-level.result.now in
    let below = scope_number c.in_ok-below.below in
    let ahead = c.in_ok-ahead.ensures.answer in
    let w = c.own_tree.new.walk in
    let found = c.in_ok-found.found in
    let own = outdoes level.problem.now level.number c.rival_of.result in
    let same = same_place c.args.cuts own level.problem.now g level.number i c.look_ahead.new.self.store.box a.remains.store.box below c.level-level.ensures.problem c.level-level.ensures.number c.look_ahead.ensures.content in
    λ few up stands.
    let node = node_of c.args.cuts (above_at g i up) g i (scope_number c.args.horizon) a in
    let beats : (n : ℤ) → own n ≡ true → node.above n ≡ true = λ n q. subst (λ (f : Game). above_at f i up n ≡ true) c.requires.joins (c.rival_of.ensures.beats up stands n (and_parts _ _ q).1) in
    kept_told node found a w c.keep_node.new.walk c.keep_node.ensures.joins c.keep_node.ensures.left c.in_ok-keep_node.ensures.lines (node_searched node _ own below c.in_ok-ahead.ahead found a w c.put_horizon.new.lines same beats ahead c.in_ok-below.ensures.below c.in_ok-below.ensures.lines c.in_ok-found.ensures.told few)

pub searched_node-returns-clause-ended : goal.searched_node-returns-clause-ended
searched_node-returns-clause-ended t c =
    let g = c.args.levels.now.problem.now in
    let i = c.args.number in
    let a = c.args.walk.now in
    let level = c.level-level.result.now in
    let below = scope_number c.in_ok-below.below in
    let ahead = c.in_ok-ahead.ensures.answer in
    let w = c.own_tree.new.walk in
    let found = c.in_ok-found.found in
    let own = outdoes level.problem.now level.number c.rival_of.result in
    let same = same_place c.args.cuts own level.problem.now g level.number i c.look_ahead.new.self.store.box a.remains.store.box below c.level-level.ensures.problem c.level-level.ensures.number c.look_ahead.ensures.content in
    let node = node_of c.args.cuts own g i (scope_number c.args.horizon) a in
    λ cut few. told_ends node found a c.keep_node.new.walk cut
    (kept_told node found a w c.keep_node.new.walk c.keep_node.ensures.joins c.keep_node.ensures.left c.in_ok-keep_node.ensures.lines (node_searched node _ own below c.in_ok-ahead.ahead found a w c.put_horizon.new.lines same (λ n q. q) ahead c.in_ok-below.ensures.below c.in_ok-below.ensures.lines c.in_ok-found.ensures.told few))

pub searched_node-returns-clause-back : goal.searched_node-returns-clause-back
searched_node-returns-clause-back t c =
    let look = c.in_ok-ahead.ensures in
    let g = c.args.levels.now.problem.now in
    let i = c.args.number in
    let back = back_after g _ i _ c.level-level.ensures.problem c.level-level.ensures.number c.args.walk.now _ c.own_tree.new.walk look.game look.content look.past look.values refl refl _ c.in_ok-below.ensures.lines c.in_ok-found.ensures.back in
    same_back g i c.args.walk.now c.own_tree.new.walk c.keep_node.new.walk back c.keep_node.ensures.remains c.keep_node.ensures.joins c.in_ok-keep_node.ensures.lines c.keep_node.ensures.left

pub over_values-returns-clause-told : goal.over_values-returns-clause-told
over_values-returns-clause-told t c =
    let s = c.args.stage.now in
    let a = c.args.walk.now in
    let x = c.args.x in
    let may = may_branch s x a c.known.ensures c.requires.going c.requires.own c.requires.free c.requires.var in
    λ xs ready worse. branch_told (here_of s a) xs a.left c.cases.new.walk.left a.lines c.put.new.self c.cases.new.walk.lines c.put-2.new.self c.cases.new.walk.joins x may worse c.in_ok-put.ensures.put c.in_ok-put-2.ensures.put (c.in_ok-cases.ensures.told xs ready)

pub own_tree-returns-clause-told : goal.own_tree-returns-clause-told
own_tree-returns-clause-told t c = c.in_ok-found.ensures.told

pub own_tree-returns-clause-back : goal.own_tree-returns-clause-back
own_tree-returns-clause-back t c =
    let l = c.args.stage.now.level.now in
    let a = c.args.walk.now in
    same_back l.problem.now l.number a c.advised_tree.new.walk _ (back_from l.problem.now l.number a _ c.advised_tree.new.walk c.in_ok-found.ensures.back refl refl refl refl) refl refl refl refl

pub advised_tree-returns-clause-told : goal.advised_tree-returns-clause-told
advised_tree-returns-clause-told t c =
    let a = c.args.walk.now in
    let first = c.bounded_tree.new.walk in
    let back = c.in_ok-found.ensures.back in
    let cut = subst (λ (w : Option Worse). IfSome w (λ v. c.args.stage.now.cuts ≡ true)) c.in-Some.is c.first_worse.ensures.cuts in
    let stand : c.cut.new.self ≡ a.lines = c.cut.ensures ∙ taken_back a.lines first.lines back.written c.len-begun.result back.lines c.len-begun.ensures in
    IfOk-weaker c.whole_tree-2.result _ _ (λ found told. tree_again c.args.stage.now found a c.whole_tree-2.new.walk first.remains.store.box first.left c.cut.new.self cut back.box back.left stand told) c.whole_tree-2.ensures.told

pub advised_tree-returns-clause-back : goal.advised_tree-returns-clause-back
advised_tree-returns-clause-back t c =
    let l = c.args.stage.now.level.now in
    let g = l.problem.now in
    let i = l.number in
    let a = c.args.walk.now in
    let back = back_from g i a _ c.bounded_tree.new.walk c.in_ok-found.ensures.back refl refl refl refl in
    let stand : c.cut.new.self ≡ a.lines = c.cut.ensures ∙ taken_back a.lines c.bounded_tree.new.walk.lines back.written c.len-begun.result back.lines c.len-begun.ensures in
    on_ok_weaker c.whole_tree-2.result (λ e. both_back g i a _ c.whole_tree-2.new.walk (cut_back g i a c.bounded_tree.new.walk _ back refl refl stand refl) e) c.whole_tree-2.ensures.back

pub bounded_tree-verdict-requires : goal.bounded_tree-verdict-requires
bounded_tree-verdict-requires t c =
    let l = c.args.stage.now.level.now in
    let back = c.in_ok-bounded_part.ensures.back in
    record { here = entered_back l.problem.now l.number _ c.bounded_part.new.walk back c.requires.here; joins = back.game ∙ c.requires.joins }

pub bounded_tree-returns-clause-told : goal.bounded_tree-returns-clause-told
bounded_tree-returns-clause-told t c =
    let a = c.args.walk.now in
    let node = here_of c.args.stage.now a in
    let e = c.verdict.ensures in
    let searched = searched_at c.args.stage.now a c.known.ensures c.requires.here c.known-2.ensures.declared in
    λ sure few sees. bounded_ended node c.verdict.result a c.bounded_part.new.walk c.verdict.new.walk searched sees c.in_ok-bounded_part.ensures.back.box (c.in_ok-bounded_part.ensures.told few) sure e.verdict e.joins e.lines e.left

pub bounded_tree-returns-clause-back : goal.bounded_tree-returns-clause-back
bounded_tree-returns-clause-back t c =
    let l = c.args.stage.now.level.now in
    let g = l.problem.now in
    let i = l.number in
    let a = c.args.walk.now in
    let back = back_from g i a _ c.bounded_part.new.walk c.in_ok-bounded_part.ensures.back refl refl refl refl in
    back_more g i a _ c.verdict.new.walk back c.verdict.ensures.remains c.verdict.ensures.game (λ j xs h s. c.verdict.ensures.joins j xs s) [] (c.verdict.ensures.lines ∙ sym (append-nil c.bounded_part.new.walk.lines)) (omega (arith, c.verdict.ensures.left))

pub bounded_part-returns-clause-told : goal.bounded_part-returns-clause-told
bounded_part-returns-clause-told t c =
    let node = here_of c.args.stage.now c.args.walk.now in
    let l = c.args.stage.now.level.now in
    let g = l.problem.now in
    let i = l.number in
    let a = c.args.walk.now in
    let box = a.remains.store.box in
    let m = c.narrow_first.new.walk in
    let w = c.part.new.walk in
    λ few.
    let n = c.in_ok-closed.ensures.told c.clear.ensures.stands in
    let ready = ready_bounded g i m.left m.joins n.ms n.stands n.stepped.one (omega (arith, few, c.narrow_first.ensures.left)) in
    let part = c.in_ok-part.ensures.told (λ q. cc) box [] n.ms n.stepped ready in
    let turns = subst (λ k. BoundedPut (in_box node box) [] n.ms k w.left m.lines w.lines w.joins) c.narrow_first.ensures.left part in
    record { ms = n.ms; part = subst (λ ls. BoundedPut (in_box node box) [] n.ms a.left w.left ls w.lines w.joins) c.narrow_first.ensures.lines turns }

pub bounded_part-returns-clause-back : goal.bounded_part-returns-clause-back
bounded_part-returns-clause-back t c =
    let l = c.args.stage.now.level.now in
    let g = l.problem.now in
    let i = l.number in
    let b = c.args.walk.now.remains in
    let m = c.narrow_first.new.walk in
    let back = c.in_ok-part.ensures.back in
    let follows = follows_on b m.remains c.part.new.walk.remains c.narrow_first.ensures.on.follows back.box back.past in
    let same = c.undo_to.ensures.back b.store (sym c.mark-mark.ensures.at) follows in
    undone_back g i c.args.walk.now m c.part.new.walk _ c.narrow_first.ensures.on (c.narrow_first.ensures.game ∙ c.clear.ensures.same) (λ j xs e s. c.narrow_first.ensures.others j xs e (c.clear.ensures.others j xs e s)) c.narrow_first.ensures.lines c.narrow_first.ensures.left back c.undo_to.ensures.game same.0 same.1 c.undo_to.ensures.values refl refl refl

pub whole_tree-verdict-requires : goal.whole_tree-verdict-requires
whole_tree-verdict-requires t c =
    let l = c.args.stage.now.level.now in
    let back = c.in_ok-own_part.ensures.back in
    record { here = entered_back l.problem.now l.number _ c.own_part.new.walk back c.requires.here; joins = back.game ∙ c.requires.joins }

pub whole_tree-returns-clause-told : goal.whole_tree-returns-clause-told
whole_tree-returns-clause-told t c =
    let a = c.args.walk.now in
    let node = here_of c.args.stage.now a in
    let e = c.verdict.ensures in
    let searched = searched_at c.args.stage.now a c.known.ensures c.requires.here c.known-2.ensures.declared in
    λ few sees. tree_ended node c.verdict.result a c.own_part.new.walk c.verdict.new.walk searched sees c.in_ok-own_part.ensures.back.box (c.in_ok-own_part.ensures.told few) e.verdict e.joins e.lines e.left

pub whole_tree-returns-clause-back : goal.whole_tree-returns-clause-back
whole_tree-returns-clause-back t c =
    let l = c.args.stage.now.level.now in
    let g = l.problem.now in
    let i = l.number in
    let a = c.args.walk.now in
    let back = back_from g i a _ c.own_part.new.walk c.in_ok-own_part.ensures.back refl refl refl refl in
    back_more g i a _ c.verdict.new.walk back c.verdict.ensures.remains c.verdict.ensures.game (λ j xs h s. c.verdict.ensures.joins j xs s) [] (c.verdict.ensures.lines ∙ sym (append-nil c.own_part.new.walk.lines)) (omega (arith, c.verdict.ensures.left))

pub own_part-returns-clause-told : goal.own_part-returns-clause-told
own_part-returns-clause-told t c =
    let back = c.in_ok-advised_part.ensures.back in
    let stand = c.in_ok-advised_part.ensures.undone c.if-branch.false in
    on_ok_weaker c.shortened_part-2.result
    (λ told. part_again c.args.stage.now c.args.walk.now c.shortened_part-2.new.walk c.advised_part.new.walk.remains.store.box c.advised_part.new.walk.left c.advised_part.new.walk.lines (c.is_advised.ensures c.if-not-is_advised.false) back.box back.left stand told)
    c.shortened_part-2.ensures.told

pub advised_part-returns-then-branch-clause-told : goal.advised_part-returns-then-branch-clause-told
advised_part-returns-then-branch-clause-told t c =
    let from = c.tries.walk in
    let back = c.tries.invariant.back in
    λ told. part_again c.args.stage.now c.args.walk.now c.tried_part.new.walk from.remains.store.box from.left from.lines c.requires.cuts back.box back.left c.tries.invariant.same (c.in_ok-tried_part.ensures.told c.if-branch.true)

pub shortened_part-returns-then-branch-clause-told : goal.shortened_part-returns-then-branch-clause-told
shortened_part-returns-then-branch-clause-told t c =
    let a = c.args.walk.now in
    let first = c.closed_part.new.walk in
    let back = c.in_ok-closed_part.ensures.back in
    let stand : c.cut.new.self ≡ a.lines = c.cut.ensures ∙ taken_back a.lines first.lines back.written c.len-start.result back.lines c.len-start.ensures in
    part_again c.args.stage.now a c.tried_part.new.walk first.remains.store.box first.left c.cut.new.self (c.is_worth_again.ensures c.if-not-is_worth_again.false) back.box back.left stand (c.in_ok-tried_part.ensures.told c.if-branch.true)

pub shortened_part-returns-then-branch-clause-back : goal.shortened_part-returns-then-branch-clause-back
shortened_part-returns-then-branch-clause-back t c =
    let l = c.args.stage.now.level.now in
    let g = l.problem.now in
    let i = l.number in
    let a = c.args.walk.now in
    let first = c.closed_part.new.walk in
    let back = c.in_ok-closed_part.ensures.back in
    let stand : c.cut.new.self ≡ a.lines = c.cut.ensures ∙ taken_back a.lines first.lines back.written c.len-start.result back.lines c.len-start.ensures in
    both_back g i a _ c.tried_part.new.walk (cut_back g i a first _ back refl refl stand refl) c.in_ok-tried_part.ensures.back

pub shortened_part-returns-clause-told : goal.shortened_part-returns-clause-told
shortened_part-returns-clause-told t c =
    let a = c.args.walk.now in
    let first = c.closed_part.new.walk in
    let back = c.in_ok-closed_part.ensures.back in
    let then = c.in_ok-tried_part.ensures.back in
    let tried = c.tried_part.new.walk in
    let stand : c.cut.new.self ≡ a.lines = c.cut.ensures ∙ taken_back a.lines first.lines back.written c.len-start.result back.lines c.len-start.ensures in
    let same = c.in_ok-tried_part.ensures.undone c.if-branch.false ∙ stand in
    part_again c.args.stage.now a c.closed_part-2.new.walk tried.remains.store.box tried.left tried.lines (c.is_worth_again.ensures c.if-not-is_worth_again.false) (then.box ∙ back.box) (omega (arith, back.left, then.left)) same (c.in_ok-closed_part-2.ensures.told (λ q. cc))

pub shortened_part-returns-clause-back : goal.shortened_part-returns-clause-back
shortened_part-returns-clause-back t c =
    let l = c.args.stage.now.level.now in
    let g = l.problem.now in
    let i = l.number in
    let a = c.args.walk.now in
    let first = c.closed_part.new.walk in
    let back = c.in_ok-closed_part.ensures.back in
    let stand : c.cut.new.self ≡ a.lines = c.cut.ensures ∙ taken_back a.lines first.lines back.written c.len-start.result back.lines c.len-start.ensures in
    let tried = both_back g i a _ c.tried_part.new.walk (cut_back g i a first _ back refl refl stand refl) c.in_ok-tried_part.ensures.back in
    both_back g i a _ c.closed_part-2.new.walk tried c.in_ok-closed_part-2.ensures.back

pub tried_part-returns-clause-back : goal.tried_part-returns-clause-back
tried_part-returns-clause-back t c =
    let l = c.args.stage.now.level.now in
    let g = l.problem.now in
    let i = l.number in
    let a = c.args.walk.now in
    let first = c.closed_part.new.walk in
    let back = c.in_ok-is_whole.ensures.back in
    let stand : c.cut.new.self ≡ a.lines = c.cut.ensures ∙ taken_back a.lines first.lines back.written c.len-from.result back.lines c.len-from.ensures in
    cut_back g i a first _ back refl refl stand refl

pub closed_part-returns-then-not-is_ready-clause-told : goal.closed_part-returns-then-not-is_ready-clause-told
closed_part-returns-then-not-is_ready-clause-told t c = λ q few. absurd (cc (q (c.is_ready.ensures.tries c.if-not-is_ready.true)))

pub closed_part-returns-then-not-is_ready-clause-back : goal.closed_part-returns-then-not-is_ready-clause-back
closed_part-returns-then-not-is_ready-clause-back t c =
    let g = c.args.stage.now.level.now.problem.now in
    let i = c.args.stage.now.level.now.number in
    let same = c.undo_to.ensures.back c.args.walk.now.remains.store (sym c.mark-mark.ensures.at) c.close.ensures.on.follows in
    record {
      problem = c.undo_to.ensures.game ∙ c.close.ensures.on.game;
      box = same.0;
      past = same.1;
      kept = ap (take (before g i)) (c.undo_to.ensures.values ∙ c.close.ensures.on.values);
      game = c.clear.ensures.same;
      joins = λ j xs h s. c.clear.ensures.others j xs (λ e. absurd (omega (arith, h, e))) s;
      written = [];
      lines = sym (append-nil c.args.walk.now.lines);
      left = omega arith;
    }

pub closed_part-returns-clause-told : goal.closed_part-returns-clause-told
closed_part-returns-clause-told t c =
    let node = here_of c.args.stage.now c.args.walk.now in
    let l = c.args.stage.now.level.now in
    let g = l.problem.now in
    let i = l.number in
    let b = c.args.walk.now.remains in
    let pruned = subst (λ ss. IsPruned g i b.store.box c.close.new.self.store.box ss c.close.new.steps) c.clear-2.ensures c.close.ensures.pruned in
    let last = c.part.new.walk in
    let left_box = c.close.new.self.store.box in
    let steps = c.close.new.steps in
    let told = pruned_told g i b.store.box left_box steps pruned in
    λ q few. part_told node left_box [] [] c.args.walk.now.left last.left c.args.walk.now.lines last.lines last.joins steps told
    (c.in_ok-is_whole.ensures.told q b.store.box [] [] (bare_steps g i b.store.box left_box [] [] steps told) (ready_first g i c.args.walk.now.left c.clear.new.self c.clear.ensures.stands few))

pub closed_part-returns-clause-back : goal.closed_part-returns-clause-back
closed_part-returns-clause-back t c =
    let l = c.args.stage.now.level.now in
    let g = l.problem.now in
    let i = l.number in
    let b = c.args.walk.now.remains in
    let back = c.in_ok-is_whole.ensures.back in
    let follows = follows_on b c.close.new.self c.part.new.walk.remains c.close.ensures.on.follows back.box back.past in
    let same = c.undo_to-2.ensures.back b.store (sym c.mark-mark.ensures.at) follows in
    undone_back g i c.args.walk.now _ c.part.new.walk _ c.close.ensures.on c.clear.ensures.same c.clear.ensures.others refl refl back c.undo_to-2.ensures.game same.0 same.1 c.undo_to-2.ensures.values refl refl refl

pub part-returns-in_ok-put-in-Empty-clause-told : goal.part-returns-in_ok-put-in-Empty-clause-told
part-returns-in_ok-put-in-Empty-clause-told t c =
    let node = here_of c.args.stage.now c.args.walk.now in
    let l = c.args.stage.now.level.now in
    let g = l.problem.now in
    let d = demands g l.number in
    let left_box = c.args.walk.now.remains.store.box in
    let none_left : has_empty left_box ≡ true = subst (λ (a : Closed). GoesOn a g l.number c.args.x c.args.walk.now.remains) c.in-Empty.is c.requires.goes in
    let put = subst (λ ss. TrimmedPut g ss c.args.walk.now.lines c.put_needed.new.lines) c.items.ensures c.in_ok-put_needed-in-Empty.ensures in
    λ w box before ms stepped ready.
    let needed = needed_made g (drop l.number g.scopes) l.number d box ms c.args.walk.now.steps put.less put.trims (subst (λ (u : Box). has_empty u ≡ true) stepped.reached none_left) stepped.stepped in
    let end_box = after_steps put.less box in
    stepped_told (in_box node box) end_box before ms c.args.walk.now.left c.args.walk.now.left c.args.walk.now.lines c.put_needed.new.lines c.put.new.self c.args.walk.now.joins put.less refl needed.made stepped.one put.lines
    (empty_told (in_box node end_box) (before ++ seen_bounds ms) c.args.walk.now.left c.put_needed.new.lines c.args.walk.now.joins ready c.put.new.self needed.empties c.in_ok-put-in-Empty.ensures.put)

pub part-returns-in_ok-put-in-Empty-clause-back : goal.part-returns-in_ok-put-in-Empty-clause-back
part-returns-in_ok-put-in-Empty-clause-back t c =
    let l = c.args.stage.now.level.now in
    let g = l.problem.now in
    let i = l.number in
    let a = c.args.walk.now in
    line_back g i a a _ (none_back g i a) refl refl refl _ (lines_both a.lines c.put_needed.new.lines c.put.new.self _ _ c.in_ok-put_needed-in-Empty.ensures.lines c.in_ok-put-in-Empty.ensures.put)

pub part-returns-in_ok-put_steps-in-Open-clause-told : goal.part-returns-in_ok-put_steps-in-Open-clause-told
part-returns-in_ok-put_steps-in-Open-clause-told t c =
    let node = here_of c.args.stage.now c.args.walk.now in
    let l = c.args.stage.now.level.now in
    let g = l.problem.now in
    let left_box = c.args.walk.now.remains.store.box in
    IfOk-weaker c.within.result _ _
    (λ whole told w box before ms stepped ready.
    let worse = subst (λ ns. has_no_worse (tracked_at g l.number) ns left_box ≡ true) (sym (firsts_marks before ms)) stepped.worse in
    bounded_told (in_box node box) left_box before ms c.args.walk.now.left c.within.new.walk.left c.args.walk.now.lines c.put_steps.new.lines c.within.new.walk.lines c.within.new.walk.joins c.args.walk.now.steps stepped (subst (λ ss. c.put_steps.new.lines ≡ c.args.walk.now.lines ++ map step_line ss) c.items-in-Open.ensures c.in_ok-put_steps-in-Open.ensures)
    (told w (before ++ seen_bounds ms) ready worse))
    c.within.ensures.told

pub part-returns-in_ok-put_steps-in-Open-clause-back : goal.part-returns-in_ok-put_steps-in-Open-clause-back
part-returns-in_ok-put_steps-in-Open-clause-back t c =
    let l = c.args.stage.now.level.now in
    let g = l.problem.now in
    let i = l.number in
    let a = c.args.walk.now in
    let stepped = line_back g i a a _ (none_back g i a) refl refl refl _ c.in_ok-put_steps-in-Open.ensures in
    on_ok_weaker c.within.result (λ e. both_back g i a _ c.within.new.walk stepped e) c.within.ensures.back

pub with_value-part-requires : goal.with_value-part-requires
with_value-part-requires t c =
    let l = c.args.stage.now.level.now in (
      omega (arith, c.requires.var, l.stop_within),
      (c.in_ok-closed.ensures.goes, c.narrow.ensures.game ∙ c.requires.joins),
    )

pub with_value-returns-clause-told : goal.with_value-returns-clause-told
with_value-returns-clause-told t c =
    let s = c.args.stage.now in
    let a = c.args.walk.now in
    let g = s.level.now.problem.now in
    let i = s.level.now.number in
    let now = c.narrow.new.walk in
    let last = c.part.new.walk in
    let box = box_to a.remains.store.box c.args.x.0 (c.args.value ∷ []) in
    let fits : SFits w64 c.args.value = search rules in
    λ w before ready.
    let told = c.in_ok-closed.ensures.told before ready.stands in
    let n : NarrowTold g i box now.remains.store.box before now.joins now.steps = simp to_z-of_z at told in
    case_by_part s box a now last before n c.narrow.ensures.left c.narrow.ensures.lines (c.in_ok-is_whole.ensures.told w) ready

pub with_value-returns-clause-back : goal.with_value-returns-clause-back
with_value-returns-clause-back t c =
    let l = c.args.stage.now.level.now in
    let g = l.problem.now in
    let i = l.number in
    let b = c.args.walk.now.remains in
    let back = c.in_ok-is_whole.ensures.back in
    let follows = follows_on b c.narrow.new.walk.remains c.part.new.walk.remains c.narrow.ensures.on.follows back.box back.past in
    let same = c.undo_to.ensures.back b.store (sym c.mark-mark.ensures.at) follows in
    undone_back g i c.args.walk.now c.narrow.new.walk c.part.new.walk _ c.narrow.ensures.on c.narrow.ensures.game c.narrow.ensures.others c.narrow.ensures.lines c.narrow.ensures.left back c.undo_to.ensures.game same.0 same.1 c.undo_to.ensures.values refl refl refl

pub over_values-returns-clause-back : goal.over_values-returns-clause-back
over_values-returns-clause-back t c =
    let l = c.args.stage.now.level.now in
    let g = l.problem.now in
    let i = l.number in
    let a = c.args.walk.now in
    let begun = line_back g i a a _ (none_back g i a) refl refl refl _ c.in_ok-put.ensures.put in
    let gone = both_back g i a _ c.cases.new.walk begun c.in_ok-cases.ensures.back in
    line_back g i a c.cases.new.walk _ gone refl refl refl _ c.in_ok-put-2.ensures.put

pub after_tuple-returns-then-not-tuple_allowed-clause-back : goal.after_tuple-returns-then-not-tuple_allowed-clause-back
after_tuple-returns-then-not-tuple_allowed-clause-back t c =
    let l = c.args.stage.now.level.now in
    tuple_back l.problem.now l.number c.args.walk.now _ c.requires.going.within.here c.tuple_allowed.ensures.entered c.tuple_allowed.ensures.store c.tuple_allowed.ensures.kept c.add_barred.ensures.same c.add_barred.ensures.others _ c.in_ok-put.ensures.put refl

pub try_branch-returns-clause-told : goal.try_branch-returns-clause-told
try_branch-returns-clause-told t c =
    let s = c.args.stage.now in
    let a = c.args.walk.now in
    let x = c.args.x in
    let may = may_branch s x a c.known.ensures c.requires.going c.requires.own c.requires.free c.requires.var in
    λ w xs ready worse. branch_told (here_of s a) xs a.left c.try_case.new.walk.left a.lines c.put.new.self c.try_case.new.walk.lines c.put-2.new.self c.try_case.new.walk.joins x may worse c.in_ok-put.ensures.put c.in_ok-put-2.ensures.put (c.in_ok-try_case.ensures.told c.if-not-branch.false xs ready)

pub try_branch-returns-clause-back : goal.try_branch-returns-clause-back
try_branch-returns-clause-back t c =
    let l = c.args.stage.now.level.now in
    let g = l.problem.now in
    let i = l.number in
    let a = c.args.walk.now in
    let begun = line_back g i a a _ (none_back g i a) refl refl refl _ c.in_ok-put.ensures.put in
    let gone = both_back g i a _ c.try_case.new.walk begun c.in_ok-try_case.ensures.back in
    line_back g i a c.try_case.new.walk _ gone refl refl refl _ c.in_ok-put-2.ensures.put

pub try_branch-returns-then-not-branch-clause-back : goal.try_branch-returns-then-not-branch-clause-back
try_branch-returns-then-not-branch-clause-back t c =
    let l = c.args.stage.now.level.now in
    let g = l.problem.now in
    let i = l.number in
    let a = c.args.walk.now in
    let begun = line_back g i a a _ (none_back g i a) refl refl refl _ c.in_ok-put.ensures.put in
    both_back g i a _ c.try_case.new.walk begun c.in_ok-try_case.ensures.back

pub try_branch-returns-in_default-clause-back : goal.try_branch-returns-in_default-clause-back
try_branch-returns-in_default-clause-back t c = none_back c.args.stage.now.level.now.problem.now c.args.stage.now.level.now.number c.args.walk.now

pub try_case-returns-then-not-branch-clause-back : goal.try_case-returns-then-not-branch-clause-back
try_case-returns-then-not-branch-clause-back t c =
    let l = c.args.stage.now.level.now in
    let a = c.args.walk.now in
    both_back l.problem.now l.number a _ c.with_value.new.walk (back_more l.problem.now l.number a a _ (none_back l.problem.now l.number a) refl refl (λ j xs h s. s) _ c.in_ok-skip_between.ensures (one_fewer a.left)) c.in_ok-with_value.ensures.back

pub try_case-returns-then-not-is_settled-clause-back : goal.try_case-returns-then-not-is_settled-clause-back
try_case-returns-then-not-is_settled-clause-back t c =
    let l = c.args.stage.now.level.now in
    let a = c.args.walk.now in
    both_back l.problem.now l.number a _ c.with_value.new.walk (back_more l.problem.now l.number a a _ (none_back l.problem.now l.number a) refl refl (λ j xs h s. s) _ c.in_ok-skip_between.ensures (one_fewer a.left)) c.in_ok-with_value.ensures.back

pub try_case-returns-clause-back : goal.try_case-returns-clause-back
try_case-returns-clause-back t c =
    let l = c.args.stage.now.level.now in
    let a = c.args.walk.now in
    let gone = both_back l.problem.now l.number a _ c.with_value.new.walk (back_more l.problem.now l.number a a _ (none_back l.problem.now l.number a) refl refl (λ j xs h s. s) _ c.in_ok-skip_between.ensures (one_fewer a.left)) c.in_ok-with_value.ensures.back in
    line_back l.problem.now l.number a c.with_value.new.walk _ gone refl refl refl _ c.in_ok-skip_between-2.ensures

pub try_case-returns-clause-told : goal.try_case-returns-clause-told
try_case-returns-clause-told t c =
    let s = c.args.stage.now in
    let a = c.args.walk.now in
    let x = c.args.x.0 in
    let v = c.args.value in
    let low = c.first-first.result in
    let high = c.last-last.result in
    let before = c.previous-before.result in
    let next = c.next-next.result in
    let z = c.with_value.new.walk in
    let around : HasAround (values_left a.remains.store.box x) v low high before next = record {
      spread = spread_here s.level.now.problem.now a.remains x c.known.ensures.domains c.requires.going.within.here.game c.known-2.ensures.declared;
      free = c.requires.free;
      here = c.requires.value;
      first = c.first-first.ensures;
      last = c.last-last.ensures;
      previous = c.previous-before.ensures;
      following = c.next-next.ensures;
    } in
    λ w. alone_settled s x a z v low high before next around c.requires.cuts c.requires.turn c.skip_between.new.lines c.skip_between-2.new.lines c.is_settled.result (c.in_ok-with_value.ensures.back.game ∙ c.requires.joins) c.is_settled.ensures c.if-not-is_settled.false
    c.in_ok-skip_between.ensures (c.in_ok-with_value.ensures.told (λ q. c.if-not-branch.false)) c.in_ok-skip_between-2.ensures

pub try_against_rival-returns-then-not-branch-clause-back : goal.try_against_rival-returns-then-not-branch-clause-back
try_against_rival-returns-then-not-branch-clause-back t c =
    let l = c.args.stage.now.level.now in
    let a = c.args.walk.now in
    both_back l.problem.now l.number a _ c.with_value.new.walk (told_back l.problem.now l.number a a _ (none_back l.problem.now l.number a) refl c.skip_and_tell.ensures.same c.skip_and_tell.ensures.others _ c.in_ok-skip_and_tell.ensures.lines (one_fewer a.left))
    c.in_ok-with_value.ensures.back

pub try_against_rival-returns-then-not-is_ended-clause-back : goal.try_against_rival-returns-then-not-is_ended-clause-back
try_against_rival-returns-then-not-is_ended-clause-back t c =
    let l = c.args.stage.now.level.now in
    let a = c.args.walk.now in
    both_back l.problem.now l.number a _ c.with_value.new.walk (told_back l.problem.now l.number a a _ (none_back l.problem.now l.number a) refl c.skip_and_tell.ensures.same c.skip_and_tell.ensures.others _ c.in_ok-skip_and_tell.ensures.lines (one_fewer a.left))
    c.in_ok-with_value.ensures.back

pub try_against_rival-returns-clause-back : goal.try_against_rival-returns-clause-back
try_against_rival-returns-clause-back t c =
    let l = c.args.stage.now.level.now in
    let a = c.args.walk.now in
    let gone = both_back l.problem.now l.number a _ c.with_value.new.walk (told_back l.problem.now l.number a a _ (none_back l.problem.now l.number a) refl c.skip_and_tell.ensures.same c.skip_and_tell.ensures.others _ c.in_ok-skip_and_tell.ensures.lines (one_fewer a.left))
    c.in_ok-with_value.ensures.back in
    told_back l.problem.now l.number a c.with_value.new.walk _ gone refl c.skip_and_tell-2.ensures.same c.skip_and_tell-2.ensures.others _ c.in_ok-skip_and_tell-2.ensures.lines (as_many c.with_value.new.walk.left)

pub try_against_rival-returns-clause-told : goal.try_against_rival-returns-clause-told
try_against_rival-returns-clause-told t c =
    let s = c.args.stage.now in
    let a = c.args.walk.now in
    let x = c.args.x.0 in
    let v = c.args.value in
    let low = c.first-first.result in
    let high = c.last-last.result in
    let before = c.previous-before.result in
    let next = c.next-next.result in
    let z = c.with_value.new.walk in
    let around : HasAround (values_left a.remains.store.box x) v low high before next = record {
      spread = spread_here s.level.now.problem.now a.remains x c.known.ensures.domains c.requires.going.within.here.game c.known-2.ensures.declared;
      free = c.requires.free;
      here = c.requires.value;
      first = c.first-first.ensures;
      last = c.last-last.ensures;
      previous = c.previous-before.ensures;
      following = c.next-next.ensures;
    } in
    λ w. alone_ended s x a z v low high before next around c.requires.cuts c.requires.turn c.skip_and_tell.new.lines c.skip_and_tell-2.new.lines c.skip_and_tell.new.joins c.skip_and_tell-2.new.joins (c.is_ended.ensures c.if-not-is_ended.false) c.skip_and_tell.ensures.told c.skip_and_tell-2.ensures.told
    c.in_ok-skip_and_tell.ensures.lines (c.in_ok-with_value.ensures.told (λ q. c.if-not-branch.false)) c.in_ok-skip_and_tell-2.ensures.lines

-- ---- a value that goes first
pub cases_ahead-returns-then-is_settled-clause-told : goal.cases_ahead-returns-then-is_settled-clause-told
cases_ahead-returns-then-is_settled-clause-told t c =
    let s = c.args.stage.now in
    let a = c.args.walk.now in
    let x = c.args.x.0 in
    let v = c.args.ahead in
    let low = c.first-first.result in
    let high = c.last-last.result in
    let before = c.previous-before.result in
    let next = c.next-next.result in
    let z = c.with_value.new.walk in
    let around : HasAround (values_left a.remains.store.box x) v low high before next = record {
      spread = spread_here s.level.now.problem.now a.remains x c.known.ensures.domains c.requires.going.within.here.game c.known-2.ensures.declared;
      free = c.requires.free;
      here = c.requires.value;
      first = c.first-first.ensures;
      last = c.last-last.ensures;
      previous = c.previous-before.ensures;
      following = c.next-next.ensures;
    } in
    alone_settled s x a z v low high before next around c.requires.cuts c.requires.turn c.skip_between.new.lines c.skip_between-then-is_settled.new.lines c.is_settled.result (c.in_ok-with_value.ensures.back.game ∙ c.requires.joins) c.is_settled.ensures c.if-is_settled.true
    c.in_ok-skip_between.ensures (c.in_ok-with_value.ensures.told (λ q. cc)) c.in_ok-skip_between-2.ensures

pub cases_ahead-returns-then-is_settled-clause-back : goal.cases_ahead-returns-then-is_settled-clause-back
cases_ahead-returns-then-is_settled-clause-back t c =
    let l = c.args.stage.now.level.now in
    let a = c.args.walk.now in
    let gone = both_back l.problem.now l.number a _ c.with_value.new.walk (back_more l.problem.now l.number a a _ (none_back l.problem.now l.number a) refl refl (λ j xs h s. s) _ c.in_ok-skip_between.ensures (one_fewer a.left)) c.in_ok-with_value.ensures.back in
    line_back l.problem.now l.number a c.with_value.new.walk _ gone refl refl refl _ c.in_ok-skip_between-2.ensures

pub cases_ahead-earlier-init : goal.cases_ahead-earlier-init
cases_ahead-earlier-init t c =
    let s = c.args.stage.now in
    let l = s.level.now in
    let g = l.problem.now in
    let a = c.args.walk.now in
    let x = c.args.x.0 in
    let vs = values_left a.remains.store.box x in
    let z = c.with_value.new.walk in
    let mid = c.skip_between.new.lines in
    let spread = spread_here g a.remains x c.known.ensures.domains c.requires.going.within.here.game c.known-2.ensures.declared in
    let free = is_free s x a c.requires.cuts c.requires.alone c.requires.nothing spread c.requires.free in
    let first = first_case vs c.first-first.result spread c.first-first.ensures in
    let part = c.in_ok-with_value.ensures.back in
    let gone = both_back g l.number a _ z (back_more g l.number a a _ (none_back g l.number a) refl refl (λ j xs h s. s) _ c.in_ok-skip_between.ensures (one_fewer a.left)) part in
    let there = ap (take c.len-start.result) (c.in_ok-put_by.ensures.left ∙ taken_back mid z.lines part.written c.len-at.result part.lines c.len-at.ensures) ∙ taken_back a.lines mid _ c.len-start.result c.in_ok-skip_between.ensures c.len-start.ensures in
    let lines : c.cut.new.self ≡ a.lines = c.cut.ensures ∙ there in
    let kept : c.put_by.new.aside ≡ drop (length mid) z.lines = c.in_ok-put_by.ensures.aside ∙ (ap (λ ls. ls ++ drop c.len-at.result z.lines) c.requires.none_waits ∙ ap (λ n. drop n z.lines) c.len-at.ensures) in
    let ahead = to_z w64 (of_z w64 c.args.ahead) in
    let has : has_value vs ahead ≡ true = subst (λ v. has_value vs v ≡ true) (sym (passed_on vs c.args.ahead spread c.requires.value)) c.requires.value in
    let owes = went_first s x a free z ahead mid c.put_by.new.aside c.is_settled.result has c.requires.turn (part.game ∙ c.requires.joins) c.is_settled.ensures c.if-is_settled.false (c.in_ok-with_value.ensures.told (λ q. cc)) kept in
    record {
      back = cut_back g l.number a z _ gone refl refl lines refl;
      left = first.0;
      after = first.1;
      owed = subst (λ us. has_value us ahead ≡ true) (sym first.1) has;
      goes = λ xs ready. subst (λ us. Owed (here_of s a) x vs xs a.left a.lines ahead c.put_by.new.aside None us z.left c.cut.new.self z.joins) (sym first.1)
          (subst (λ ls. Owed (here_of s a) x vs xs a.left a.lines ahead c.put_by.new.aside None vs z.left ls z.joins) (sym lines) (owes xs ready));
    }

pub cases_ahead-earlier-preserved : goal.cases_ahead-earlier-preserved
cases_ahead-earlier-preserved t c =
    let s = c.args.stage.now in
    let l = s.level.now in
    let g = l.problem.now in
    let a = c.args.walk.now in
    let x = c.args.x.0 in
    let vs = values_left a.remains.store.box x in
    let spread = spread_here g a.remains x c.known.ensures.domains c.requires.going.within.here.game c.known-2.ensures.declared in
    let free = is_free s x a c.requires.cuts c.requires.alone c.requires.nothing spread c.requires.free in
    let now = c.earlier.invariant in
    let w = c.earlier.walk in
    let z = c.with_value-in-earlier.new.walk in
    let v = to_z w64 c.earlier.value-bits in
    let part = c.in_ok-with_value-2.ensures.back in
    let same : values_left z.remains.store.box x ≡ vs = ap (λ (d : Box). values_left d x) (part.box ∙ now.back.box) in
    let after = subst (λ us. IsAfter us v c.in-Some.later) same c.in-Some.ensures in
    let next = next_case vs v c.in-Some.later spread after in
    let ahead = to_z w64 (of_z w64 c.args.ahead) in
    let there = subst (λ us. has_value us ahead ≡ true) next.1 now.owed in
    let other = another c.args.ahead c.earlier.value-bits c.earlier.auto.value-fits.fits (passed_on vs c.args.ahead spread c.requires.value) c.earlier-test.true in
    record {
      back = same_back g l.number a z _ (both_back g l.number a _ z (back_more g l.number a w _ now.back refl refl (λ j xs h s. s) [] (sym (append-nil w.lines)) (one_fewer w.left)) part) refl refl refl refl;
      left = next.0;
      after = record { left = now.left; rest = next.1 };
      owed = still_owed v ahead (values_from (to_z w64 (of_z w64 c.in-Some.later)) vs) other there;
      goes = went_past s x a free w z ahead v c.put_by.new.aside c.earlier.passed (values_from (to_z w64 (of_z w64 c.in-Some.later)) vs) c.is_settled-in-earlier.result now.left next.1 now.back.box c.if-walk-eq0.false (part.game ∙ (now.back.game ∙ c.requires.joins)) c.is_settled-in-earlier.ensures c.if-is_settled-2.false
          (c.in_ok-with_value-2.ensures.told (λ q. cc)) now.goes;
    }

pub cases_ahead-unreachable-requires : goal.cases_ahead-unreachable-requires
cases_ahead-unreachable-requires t c =
    let s = c.args.stage.now in
    let g = s.level.now.problem.now in
    let a = c.args.walk.now in
    let x = c.args.x.0 in
    let vs = values_left a.remains.store.box x in
    let now = c.earlier.invariant in
    let z = c.with_value-in-earlier.new.walk in
    let v = to_z w64 c.earlier.value-bits in
    let same : values_left z.remains.store.box x ≡ vs = ap (λ (d : Box). values_left d x) (c.in_ok-with_value-2.ensures.back.box ∙ now.back.box) in
    let last : values_from v vs ≡ v ∷ [] = subst (λ us. values_from v us ≡ v ∷ []) same c.in_default.ensures in
    let spread = spread_here g a.remains x c.known.ensures.domains c.requires.going.within.here.game c.known-2.ensures.declared in
    let ahead = to_z w64 (of_z w64 c.args.ahead) in
    let there = subst (λ us. has_value us ahead ≡ true) last now.owed in
    let other = another c.args.ahead c.earlier.value-bits c.earlier.auto.value-fits.fits (passed_on vs c.args.ahead spread c.requires.value) c.earlier-test.true in
    none_owed ahead (still_owed v ahead [] other there)

pub cases_ahead-returns-then-is_settled-2-clause-told : goal.cases_ahead-returns-then-is_settled-2-clause-told
cases_ahead-returns-then-is_settled-2-clause-told t c =
    let s = c.args.stage.now in
    let g = s.level.now.problem.now in
    let a = c.args.walk.now in
    let x = c.args.x.0 in
    let vs = values_left a.remains.store.box x in
    let spread = spread_here g a.remains x c.known.ensures.domains c.requires.going.within.here.game c.known-2.ensures.declared in
    let free = is_free s x a c.requires.cuts c.requires.alone c.requires.nothing spread c.requires.free in
    let now = c.earlier.invariant in
    let w = c.earlier.walk in
    let z = c.with_value-in-earlier.new.walk in
    let v = to_z w64 c.earlier.value-bits in
    let part = c.in_ok-with_value-2.ensures.back in
    let same : values_left z.remains.store.box x ≡ vs = ap (λ (d : Box). values_left d x) (part.box ∙ now.back.box) in
    let next = subst (λ us. IsNext us v c.next-rest.result) same c.next-rest.ensures in
    let low : to_z w64 (of_z w64 c.first-first.result) ≡ c.first-first.result = passed_on vs c.first-first.result spread c.first-first.ensures.left in
    let high : to_z w64 (of_z w64 c.last-last.result) ≡ c.last-last.result = passed_on vs c.last-last.result spread c.last-last.ensures.left in
    let new = c.drop_before.new.lines in
    let dropped = c.in_ok-drop_before.ensures ∙ (ap (λ u. without_before c.earlier.passed u c.len-start.result c.len-at-in-earlier.result z.lines) low ∙ (ap (λ n. without_before c.earlier.passed c.first-first.result n c.len-at-in-earlier.result z.lines) c.len-start.ensures ∙ ap (λ n. without_before c.earlier.passed c.first-first.result (length a.lines) n z.lines) c.len-at-in-earlier.ensures)) in
    let skipped = c.in_ok-skip_between-3.ensures ∙ ap (λ u. new ++ skipped_between c.next-rest.result (Some u)) high in
    settled_there s x a free w z (to_z w64 (of_z w64 c.args.ahead)) v c.first-first.result c.last-last.result c.put_by.new.aside new c.skip_between-then-is_settled-2.new.lines c.earlier.passed c.next-rest.result c.is_settled-in-earlier.result now.left c.first-first.ensures c.last-last.ensures now.after next now.back.box c.if-walk-eq0.false
    (part.game ∙ (now.back.game ∙ c.requires.joins)) c.is_settled-in-earlier.ensures c.if-is_settled-2.true (c.in_ok-with_value-2.ensures.told (λ q. cc)) now.goes dropped skipped

pub cases_ahead-returns-then-is_settled-2-clause-back : goal.cases_ahead-returns-then-is_settled-2-clause-back
cases_ahead-returns-then-is_settled-2-clause-back t c =
    let l = c.args.stage.now.level.now in
    let g = l.problem.now in
    let a = c.args.walk.now in
    let w = c.earlier.walk in
    let z = c.with_value-in-earlier.new.walk in
    let back = c.earlier.invariant.back in
    let gone = both_back g l.number a _ z (back_more g l.number a w _ back refl refl (λ j xs h s. s) [] (sym (append-nil w.lines)) (one_fewer w.left)) c.in_ok-with_value-2.ensures.back in
    dropped_back g l.number a z _ gone refl refl refl c.earlier.passed (to_z w64 (of_z w64 c.first-first.result)) c.len-start.result c.len-at-in-earlier.result c.len-start.ensures c.drop_before.new.lines c.in_ok-drop_before.ensures _ c.in_ok-skip_between-3.ensures

pub cases_ahead-returns-in-None-clause-told : goal.cases_ahead-returns-in-None-clause-told
cases_ahead-returns-in-None-clause-told t c =
    let s = c.args.stage.now in
    let g = s.level.now.problem.now in
    let a = c.args.walk.now in
    let x = c.args.x.0 in
    let vs = values_left a.remains.store.box x in
    let spread = spread_here g a.remains x c.known.ensures.domains c.requires.going.within.here.game c.known-2.ensures.declared in
    let free = is_free s x a c.requires.cuts c.requires.alone c.requires.nothing spread c.requires.free in
    let now = c.earlier.invariant in
    let w = c.earlier.walk in
    let ahead = to_z w64 (of_z w64 c.args.ahead) in
    let has : has_value vs ahead ≡ true = subst (λ v. has_value vs v ≡ true) (sym (passed_on vs c.args.ahead spread c.requires.value)) c.requires.value in
    let owes = reached s x a free ahead (to_z w64 c.earlier.value-bits) c.put_by.new.aside c.earlier.passed w (ap (to_z w64) c.earlier-test.false) now.goes in
    cases_ended (here_of s a) x a.left a.lines a.joins w.left c.bring_back.new.self w.joins
    (home s x a free ahead c.put_by.new.aside c.earlier.passed [] w.left w.lines c.bring_back.new.self w.joins has (ended_by vs ahead c.next-next.result c.next-next.ensures c.in-None.is) (now.back.game ∙ c.requires.joins) c.if-walk-eq0-2.false owes c.in_ok-bring_back.ensures.back)

pub cases_ahead-returns-in-None-clause-back : goal.cases_ahead-returns-in-None-clause-back
cases_ahead-returns-in-None-clause-back t c =
    let l = c.args.stage.now.level.now in
    line_back l.problem.now l.number c.args.walk.now c.earlier.walk _ c.earlier.invariant.back refl refl refl _ c.in_ok-bring_back.ensures.back

pub cases_ahead-returns-in_ok-later_cases-in-Some-next-clause-told : goal.cases_ahead-returns-in_ok-later_cases-in-Some-next-clause-told
cases_ahead-returns-in_ok-later_cases-in-Some-next-clause-told t c =
    let s = c.args.stage.now in
    let g = s.level.now.problem.now in
    let a = c.args.walk.now in
    let x = c.args.x.0 in
    let vs = values_left a.remains.store.box x in
    let spread = spread_here g a.remains x c.known.ensures.domains c.requires.going.within.here.game c.known-2.ensures.declared in
    let free = is_free s x a c.requires.cuts c.requires.alone c.requires.nothing spread c.requires.free in
    let now = c.earlier.invariant in
    let w = c.earlier.walk in
    let ahead = to_z w64 (of_z w64 c.args.ahead) in
    let n = c.in-Some-next.next in
    let has : has_value vs ahead ≡ true = subst (λ v. has_value vs v ≡ true) (sym (passed_on vs c.args.ahead spread c.requires.value)) c.requires.value in
    let owes = reached s x a free ahead (to_z w64 c.earlier.value-bits) c.put_by.new.aside c.earlier.passed w (ap (to_z w64) c.earlier-test.false) now.goes in
    let rest = (next_case vs ahead n spread (gone_on vs ahead n c.next-next.result c.next-next.ensures c.in-Some-next.is)).1 in
    let goes = home s x a free ahead c.put_by.new.aside c.earlier.passed (values_from (to_z w64 (of_z w64 n)) vs) w.left w.lines c.bring_back.new.self w.joins has rest (now.back.game ∙ c.requires.joins) c.if-walk-eq0-2.false owes c.in_ok-bring_back.ensures.back in
    later_done s x a free w.remains.store.box w.left c.bring_back.new.self w.joins c.later_cases.new.walk c.len-start.result (to_z w64 (of_z w64 n)) now.back.box c.len-start.ensures c.in_ok-later_cases-in-Some-next.ensures.told goes

pub cases_ahead-returns-in_ok-later_cases-in-Some-next-clause-back : goal.cases_ahead-returns-in_ok-later_cases-in-Some-next-clause-back
cases_ahead-returns-in_ok-later_cases-in-Some-next-clause-back t c =
    let l = c.args.stage.now.level.now in
    let g = l.problem.now in
    let a = c.args.walk.now in
    let back = line_back g l.number a c.earlier.walk _ c.earlier.invariant.back refl refl refl _ c.in_ok-bring_back.ensures.back in
    same_back g l.number a c.later_cases.new.walk _ (later_back g l.number a _ c.later_cases.new.walk c.len-start.result c.len-start.ensures back c.in_ok-later_cases-in-Some-next.ensures.back) refl refl refl refl

pub cases_ahead-later_cases-requires : goal.cases_ahead-later_cases-requires
cases_ahead-later_cases-requires t c =
    let s = c.args.stage.now in
    let l = s.level.now in
    let g = l.problem.now in
    let a = c.args.walk.now in
    let x = c.args.x.0 in
    let vs = values_left a.remains.store.box x in
    let spread = spread_here g a.remains x c.known.ensures.domains c.requires.going.within.here.game c.known-2.ensures.declared in
    let back = c.earlier.invariant.back in
    let w = c.earlier.walk in
    let ahead = to_z w64 (of_z w64 c.args.ahead) in
    let n = c.in-Some-next.next in
    let has = (next_case vs ahead n spread (gone_on vs ahead n c.next-next.result c.next-next.ensures c.in-Some-next.is)).0 in (
      omega arith,
      (c.requires.var, (going_back g l.number x a w back c.requires.going, (subst (λ (d : Box). is_single (values_left d x) ≡ false) (sym back.box) c.requires.free, (subst (λ (d : Box). has_value (values_left d x) (to_z w64 (of_z w64 n)) ≡ true) (sym back.box) has, (back.game ∙ c.requires.joins, longer a.lines w.lines c.bring_back.new.self back.written _ c.len-start.result c.len-start.ensures back.lines c.in_ok-bring_back.ensures.back))))),
    )
