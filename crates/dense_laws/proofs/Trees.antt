-- Each tree in place says what is so: the induction over the tree.
use Rattle.std.proofs.Common.{◌≡◌, inl, inr, ℕ, zero, suc, ◌<◌, ◌≤◌, ◌==◌, Bool, true, false, not, ◌&&◌, ◌||◌, List, [], ◌∷◌, ◌++◌, length, map, take, drop, set, refl, sym, ap, ◌∙◌, subst, arith, ℤ, Option, Some, None}
use Rattle.std.specs.Prelude.{slice_get, is_some, nat_lt}
use Rattle.std.specs.List.{list_all}
use Rattle.std.proofs.lemmas.Bool.Decides.{nat_tests}
use Rattle.std.proofs.lemmas.List.{take-append-drop}
use Rattle.std.proofs.lemmas.Bool.{and_parts, or_cases}
use Rattle.qc_model.specs.declared.problem.Kind.{Kind}
use Rattle.qc_model.specs.declared.problem.Kind.TheVariants.{Exists, Forall}
use Rattle.qc_model.specs.declared.problem.Target.{Target}
use Rattle.qc_model.specs.declared.problem.Target.TheVariants.{Var, Aggregate as Agg}
use Rattle.qc_model.specs.declared.problem.Condition.{Condition}
use Rattle.qc_model.specs.declared.problem.Scope.{Scope}
use Rattle.qc_model.specs.Block.{block_stop, constraints_within}
use Rattle.qc_model.specs.Domains.{InBox, Values, Box, declared_box, values_left, values_within, box_without, has_empty, has_value, is_none_left, is_single}
use Rattle.qc_model.specs.Game.{before, part, restriction, is_of_scope, IsMove}
use Rattle.qc_model.specs.Lists.{Among, Distinct}
use Rattle.qc_model.specs.Optimal.{Optimal}
use Rattle.qc_model.specs.Valid.{IsValid}
use Rattle.qc_model.specs.Verdict.{Verdict, lost, Seen, seen_skipped, seen_bound, seen_node}
use Rattle.qc_model.proofs.Before.{before-le}
use Rattle.model_arguments.proofs.Boxes.{sub_length, set_full, set_same}
use Rattle.model_laws.specs.Positions.{existential, universal}
use Rattle.model_laws.specs.Verdicts.{skipped, tuples_of}
use Rattle.proof_meaning.proofs.Blocks.{blocked_less}
use Rattle.proof_meaning.proofs.Boxes.{differ, in_front, none_at}
use Rattle.proof_meaning.proofs.FreeFront.{before_wider}
use Rattle.proof_meaning.proofs.Passing.{move_count}
use Rattle.proof_meaning.proofs.Taken.{still_in}
use Rattle.proof_meaning.proofs.Widths.{take_scope, in_scope}
use Rattle.proof_tree.specs.Cover.{cover, covered, uncovered, is_cover}
use Rattle.proof_tree.specs.InPlace.{is_horizon}
use Rattle.proof_tree.specs.Place.{Tracked, tracked_variable, is_fixed, is_goal, list_after, next_scopes}
use Rattle.proof_tree.specs.Steps.{removes_some, is_tracked, best_value}
use Rattle.dense_meaning.proofs.PlansLie.{lie_front}
use Rattle.dense_tree.specs.Alike.{are_alike}
use Rattle.dense_tree.specs.Free.{is_unrestricted, joint_stop}
use Rattle.dense_tree.specs.InPlace.{cases_placed, horizon_placed, no_play_placed, empty_placed, is_empty_in, barred_placed, next_placed, place_taken, chosen_placed, branch_placed, target_best, list_best, is_some_value, best_placed}
use Rattle.dense_tree.specs.Place.{Setting, Place, with_box, place_below, closed_box, is_players, is_opponents, is_free_choice}
use Rattle.dense_tree.specs.Read.{Known, NodeRead, PartRead, empty_leaves, is_narrower, with_horizon, entered, settled, or_unknown, told_by, read_node, read_body, read_ending, read_branches, read_case}
use Rattle.dense_tree.specs.Steps.{StepsRead, closing, bound_marks, tracked, last_condition, replying, unless_empty, read_step, read_steps}
use Rattle.dense_tree.specs.Tree.{Step, close, bound, reply, Node, node, again, no_play, Body, stuck, goal, cases, Ending, empty, barred, best_left, dead, next, chosen, branch, Branches, no_more, piece, Case, skip, left_open, go}
use Rattle.dense_tree.specs.Tuples.{all_hold, some_fails, is_tuple_of, box_taken}
use Rattle.dense_tree.specs.Verdicts.{loosened, stuck_comes_to, goal_comes_to, scope_own}
use Rattle.dense_laws.specs.Stands.{Stands, StandsNode, StandsPart}
use Rattle.dense_laws.specs.Says.{IsAt, NodeTold, OwnSays, Answers, ChoicesSay, AnswersSay, KnownSays, EachKnownSays}
use Rattle.dense_laws.proofs.Allowing.{alike_allow}
use Rattle.dense_laws.proofs.Looks.{told_alike}
use Rattle.dense_laws.proofs.Answerless.{no_answer, no_answer_here}
use Rattle.dense_laws.proofs.Bounds.{block_above}
use Rattle.dense_laws.proofs.Choices.{chose, next_says, case_place, cases_say, smaller_says, none_say, lost_say, barred_say, skipped_say}
use Rattle.dense_laws.proofs.Close.{found_in, found_full}
use Rattle.dense_laws.proofs.Ends.{barred_none, refuted_fails}
use Rattle.dense_laws.proofs.Entries.{goal_told, stuck_told}
use Rattle.dense_laws.proofs.FreeGames.{in_taken, entailed_allows}
use Rattle.dense_laws.proofs.Going.{closing_says, it, bound_says, bound_part, best_says}
use Rattle.dense_laws.proofs.Lost.{no_strategy, no_play_told, dead_answers, none_closed, horizon_stands, horizon_told, horizon_own}
use Rattle.dense_laws.proofs.Nodes.{player_told}
use Rattle.dense_laws.proofs.Opponents.{map_join, claims_join, tuples_join, none_skipped_join, opponent_told, next_answers, answers_join, skipped_answers, none_answers, barred_answers}
use Rattle.dense_laws.proofs.Replies.{LastIs, last_is, worse_go, reply_lies, reply_sub, reply_part}
use Rattle.dense_laws.proofs.Replying.{closing_answers, empty_answers}
use Rattle.dense_laws.proofs.Settled.{settled_holds}
use Rattle.dense_laws.proofs.Small.{not_true, clash, lt_from, full_drop, drop_set, sub_in_box, all_join, ones_single}
use Rattle.dense_laws.proofs.Standing.{Enters, into_part, part_in, next_stands, closed_part, no_opponents, no_players, opponents_is}
use Rattle.dense_laws.proofs.Taking.{taken_sub, taken_keeps, Left, all_left, left_parts, left_sub}
use Rattle.dense_laws.proofs.Tuple.{split_position, part_declared}
use Rattle.dense_laws.proofs.Wishes.{player_own}

known_at : (s : Setting) (ks : List Known) (n : ℕ) (k : Known) → EachKnownSays s ks → slice_get ks n ≡ Some k → KnownSays s k k.verdict
known_at s [] n k h e = cc
known_at s (c ∷ ks) zero k h e = let q : c ≡ k = cc in subst (λ (z : Known). KnownSays s z z.verdict) q h.0
known_at s (c ∷ ks) (suc n) k h e = known_at s ks n k h.1 e

known_set : (s : Setting) (ks : List Known) (n : ℕ) (k : Known) → EachKnownSays s ks → KnownSays s k k.verdict → EachKnownSays s (set ks n k)
known_set s [] n k h w = tt
known_set s (c ∷ ks) zero k h w = (w, h.1)
known_set s (c ∷ ks) (suc n) k h w = (h.0, known_set s ks n k h.1 w)

known_more : (s : Setting) (ks : List Known) (p : Place) → EachKnownSays s ks → EachKnownSays s (ks ++ record { place = p; verdict = None } ∷ [])
known_more s [] p h = (tt, tt)
known_more s (k ∷ ks) p h = (h.0, known_more s ks p h.1)

marks_join : (ms ns : List ℤ) (seen : List Seen) → map seen_bound ms ++ (map seen_bound ns ++ seen) ≡ map seen_bound (ms ++ ns) ++ seen
marks_join [] ns seen = refl
marks_join (m ∷ ms) ns seen = ap (λ xs. seen_bound m ∷ xs) (marks_join ms ns seen)

module _ (s : Setting) (valid : IsValid s.game) where
  -- steps at a scope of the player
  record StepsDone (p : Place) (w : StepsRead) : Type 0 where
    pub same_later : w.place.later ≡ p.later
    pub same_number : w.place.number ≡ p.number
    pub part : StandsPart s w.place
    pub say : (seen : List Seen) (bests : List ℤ) → ChoicesSay s w.place seen bests → ChoicesSay s p (map seen_bound w.marks ++ seen) bests

  player_step : (st : Step) (p : Place) (x : Option Condition) (later : List Scope) → p.later ≡ existential x ∷ later → StandsPart s p → (read_step s st p).placed ≡ true → StepsDone p (read_step s st p)
  player_step close p x later e st placed = by (closed_box s p) refl placed
    where
      by : (o : Option Box) → closed_box s p ≡ o → (closing p o).placed ≡ true → StepsDone p (closing p o)
      by None q h = cc
      by (Some small) q h = record {
        same_later = refl;
        same_number = refl;
        part = closed_part s valid p (existential x) later e small st q;
        say = λ seen bests c. closing_says s valid p x later e st small q (λ w j. found_in s.game valid p.number (joint_stop s.game s.given p.later p.number) p.box small st.stands.box q w j) seen bests c;
      }
  player_step (bound y low high) p x later e st placed =
      by (tracked s p) refl (and_parts (removes_some p.box y.0 low high) (is_tracked y.0 (tracked s p)) placed).1
    where
      by : (o : Option Tracked) → tracked s p ≡ o → is_tracked y.0 o ≡ true → StepsDone p (record { placed = removes_some p.box y.0 low high && is_tracked y.0 o; marks = bound_marks o (values_within low high (values_left p.box y.0)); place = record p { box = box_without p.box y.0 low high; bounded = true } })
      by None q h = cc
      by (Some u) q h = record {
        same_later = refl;
        same_number = refl;
        part = subst (λ z. StandsPart s (record p { box = box_without p.box z low high; bounded = true })) here (bound_part s valid p x later e st u q low high);
        say = λ seen bests c.
            subst (λ z. ChoicesSay s p (seen_bound (best_value u.sense (values_within low high (values_left p.box z))) ∷ seen) bests) here
            (bound_says s valid p x later e st u q low high seen bests (subst (λ z. ChoicesSay s (record p { box = box_without p.box z low high; bounded = true }) seen bests) (sym here) c));
      }
        where
          variable_is : (a b : ℕ) → (a == b) ≡ true → a ≡ b
          variable_is a b h = grind (arith, nat_tests)

          here : (it s valid p x later e st u q).variable.0 ≡ y.0
          here = sym (ap (λ (z : Tracked). z.variable) (it s valid p x later e st u q).same) ∙ variable_is u.variable y.0 h
  player_step (reply t) p x later e st placed = by (last_condition p.later) refl (and_parts (not (has_empty p.box)) (replying s p (last_condition p.later) (box_taken s.game p.number p.box t) t).placed placed).1
    where
      by : (o : Option Tracked) → last_condition p.later ≡ o → (replying s p o (box_taken s.game p.number p.box t) t).placed ≡ true → StepsDone p (unless_empty p (replying s p o (box_taken s.game p.number p.box t) t))
      by None q h = cc
      by (Some w) q h = subst (λ z. StepsDone p (unless_empty p (replying s p (Some z) (box_taken s.game p.number p.box t) t))) (sym l.same) done
        where
          l : LastIs p.later w
          l = last_is p.later w q

          h1 : ((is_tuple_of s.game p.number p.box t && all_hold (constraints_within s.game p.number (suc (suc p.number))) (box_taken s.game p.number p.box t)) && is_single (values_left (box_taken s.game p.number p.box t) l.variable.0)) ≡ true
          h1 = subst (λ (z : Tracked). ((is_tuple_of s.game p.number p.box t && all_hold (constraints_within s.game p.number (suc (suc p.number))) (box_taken s.game p.number p.box t)) && is_single (values_left (box_taken s.game p.number p.box t) z.variable)) ≡ true) l.same h

          a : (is_tuple_of s.game p.number p.box t && all_hold (constraints_within s.game p.number (suc (suc p.number))) (box_taken s.game p.number p.box t) ≡ true) × (is_single (values_left (box_taken s.game p.number p.box t) l.variable.0) ≡ true)
          a = and_parts _ _ h1

          b : (is_tuple_of s.game p.number p.box t ≡ true) × (all_hold (constraints_within s.game p.number (suc (suc p.number))) (box_taken s.game p.number p.box t) ≡ true)
          b = and_parts _ _ a.0

          done : StepsDone p (unless_empty p (replying s p (Some (record { sense = l.condition.sense; variable = l.variable.0 })) (box_taken s.game p.number p.box t) t))
          done = record {
            same_later = refl;
            same_number = refl;
            part = reply_part s valid p st w l t b.0 b.1 a.1;
            say = λ seen bests c. smaller_says s p (set p.box l.variable.0 (worse_go s valid p st w l t b.0 b.1 a.1)) seen bests
                (λ u j. sub_in_box u (set p.box l.variable.0 (worse_go s valid p st w l t b.0 b.1 a.1)) p.box (reply_sub s valid p st w l t b.0 b.1 a.1) j)
                (λ u at r o. reply_lies s valid p st w l t b.0 b.1 a.1 u at r o) c;
          }

  player_steps : (steps : List Step) (p : Place) (x : Option Condition) (later : List Scope) → p.later ≡ existential x ∷ later → StandsPart s p → (read_steps s steps p).placed ≡ true → StepsDone p (read_steps s steps p)
  player_steps [] p x later e st placed = record { same_later = refl; same_number = refl; part = st; say = λ seen bests c. c }
  player_steps (sp ∷ steps) p x later e st placed =
      let q = and_parts (read_step s sp p).placed (read_steps s steps (read_step s sp p).place).placed placed in
      let one = player_step sp p x later e st q.0 in
      let more = player_steps steps (read_step s sp p).place x later (one.same_later ∙ e) one.part q.1 in
      record {
        same_later = more.same_later ∙ one.same_later;
        same_number = more.same_number ∙ one.same_number;
        part = more.part;
        say = λ seen bests c. subst (λ xs. ChoicesSay s p xs bests) (marks_join (read_step s sp p).marks (read_steps s steps (read_step s sp p).place).marks seen)
            (one.say (map seen_bound (read_steps s steps (read_step s sp p).place).marks ++ seen) bests (more.say seen bests c));
      }

  -- steps at a scope of the opponent: closing alone
  record RepliesDone (p : Place) (w : StepsRead) : Type 0 where
    pub same_later : w.place.later ≡ p.later
    pub part : StandsPart s w.place
    pub full : has_empty w.place.box ≡ false
    pub say : (seen : List Seen) → AnswersSay s w.place seen → AnswersSay s p (map seen_bound w.marks ++ seen)

  opponent_step : (st : Step) (p : Place) (x : Option Condition) (later : List Scope) → p.later ≡ universal x ∷ later → StandsPart s p → has_empty p.box ≡ false → (read_step s st p).placed ≡ true → RepliesDone p (read_step s st p)
  opponent_step close p x later e st full placed = by (closed_box s p) refl placed
    where
      by : (o : Option Box) → closed_box s p ≡ o → (closing p o).placed ≡ true → RepliesDone p (closing p o)
      by None q h = cc
      by (Some small) q h = record {
        same_later = refl;
        part = closed_part s valid p (universal x) later e small st q;
        full = found_full s.game valid p.number (joint_stop s.game s.given p.later p.number) p.box small st.stands.box q;
        say = λ seen c. closing_answers s valid p x later e st full small q seen c;
      }
  opponent_step (bound y low high) p x later e st full placed =
      let h = (and_parts (removes_some p.box y.0 low high) (is_tracked y.0 (tracked s p)) placed).1 in
      absurd (differ (subst (λ ls. is_tracked y.0 (tracked_variable s.game ls p.number (list_after s.game p.later p.list)) ≡ true) e h))
  opponent_step (reply t) p x later e st full placed =
      by (last_condition p.later) (subst (λ ls. last_condition ls ≡ None) (sym e) (never later)) (and_parts (not (has_empty p.box)) (replying s p (last_condition p.later) (box_taken s.game p.number p.box t) t).placed placed).1
    where
      never : (later : List Scope) → last_condition (universal x ∷ later) ≡ None
      never [] = refl
      never (sc ∷ later) = refl

      by : (o : Option Tracked) → o ≡ None → (replying s p o (box_taken s.game p.number p.box t) t).placed ≡ true → RepliesDone p (unless_empty p (replying s p o (box_taken s.game p.number p.box t) t))
      by None q h = cc
      by (Some w) q h = cc

  opponent_steps : (steps : List Step) (p : Place) (x : Option Condition) (later : List Scope) → p.later ≡ universal x ∷ later → StandsPart s p → has_empty p.box ≡ false → (read_steps s steps p).placed ≡ true → RepliesDone p (read_steps s steps p)
  opponent_steps [] p x later e st full placed = record { same_later = refl; part = st; full = full; say = λ seen c. c }
  opponent_steps (sp ∷ steps) p x later e st full placed =
      let q = and_parts (read_step s sp p).placed (read_steps s steps (read_step s sp p).place).placed placed in
      let one = opponent_step sp p x later e st full q.0 in
      let more = opponent_steps steps (read_step s sp p).place x later (one.same_later ∙ e) one.part one.full q.1 in
      record {
        same_later = more.same_later ∙ one.same_later;
        part = more.part;
        full = more.full;
        say = λ seen c. subst (AnswersSay s p) (marks_join (read_step s sp p).marks (read_steps s steps (read_step s sp p).place).marks seen)
            (one.say (map seen_bound (read_steps s steps (read_step s sp p).place).marks ++ seen) (more.say seen c));
      }

  -- the next node is entered by an allowed tuple
  enters_by : (p : Place) → StandsPart s p → all_hold (restriction s.game p.number) p.box ≡ true → Enters s p
  enters_by p st holds b at =
      let q = split_position s.game p.number p.box b at.count at.lies in
      let n : length (q.front ++ q.tuple) ≡ before s.game (suc p.number) = ap length (sym q.whole) ∙ at.count in
      let j : InBox (q.front ++ q.tuple) p.box = subst (λ z. InBox z p.box) q.whole at.lies in
      let m : IsMove s.game p.number q.front q.tuple = record {
        is_tuple = part_declared s.game p.number p.box st.stands.box q.tuple q.own;
        is_allowed = entailed_allows s.game valid p.number p.box (q.front ++ q.tuple) n (sub_in_box (q.front ++ q.tuple) p.box (declared_box s.game) st.stands.box j) j holds;
      } in
      (q.front, q.tuple, q.whole, record { count = q.count; lies = q.lies }, m)

  settled_enters : (p : Place) → StandsPart s p → has_empty p.box ≡ false → some_fails (restriction s.game p.number) p.box ≡ false → p.loose ≡ false → is_fixed s.game p.number p.box ≡ true → Enters s p
  settled_enters p st full ok l fixed =
      enters_by p st (settled_holds s.game valid p.number p.box
      (subst (λ ds. list_all is_single ds ≡ true) (sym (take_scope s.game p.number p.box))
      (all_join is_single (take (before s.game p.number) p.box) (part s.game p.number p.box) (ones_single (before s.game p.number) p.box full (st.stands.strict l)) fixed))
      (let most = before-le s.game (suc p.number) in let size = sub_length p.box (declared_box s.game) st.stands.box in omega arith) ok)

  -- a leaf of the player's
  player_goes : (p : Place) (x : Option Condition) (later : List Scope) → p.later ≡ existential x ∷ later → next_placed s p ≡ true → (has_empty p.box ≡ false) × (some_fails (restriction s.game p.number) p.box ≡ false)
  player_goes p x later e h =
      let q = and_parts (not (has_empty p.box)) _ h in (
        not_true (has_empty p.box) q.0,
        elim (or_cases (is_players p && not (some_fails (restriction s.game p.number) p.box)) _ q.1) [
          | inl k ↦ not_true (some_fails (restriction s.game p.number) p.box) (and_parts (is_players p) (not (some_fails (restriction s.game p.number) p.box)) k).1
          | inr k ↦ clash (is_opponents p) (and_parts (is_opponents p) (is_fixed s.game p.number p.box) (and_parts (is_opponents p && is_fixed s.game p.number p.box) (all_hold (restriction s.game p.number) p.box) k).0).0 (no_opponents p x later e)
        ],
      )

  opponent_goes : (p : Place) (x : Option Condition) (later : List Scope) → p.later ≡ universal x ∷ later → next_placed s p ≡ true → (has_empty p.box ≡ false) × (is_fixed s.game p.number p.box ≡ true) × (all_hold (restriction s.game p.number) p.box ≡ true)
  opponent_goes p x later e h =
      let q = and_parts (not (has_empty p.box)) _ h in
      let r : ((is_opponents p && is_fixed s.game p.number p.box) && all_hold (restriction s.game p.number) p.box) ≡ true = elim (or_cases (is_players p && not (some_fails (restriction s.game p.number) p.box)) _ q.1) [
        | inl k ↦ clash (is_players p) (and_parts (is_players p) (not (some_fails (restriction s.game p.number) p.box)) k).0 (no_players p x later e)
        | inr k ↦ k
      ] in
      let a = and_parts (is_opponents p && is_fixed s.game p.number p.box) (all_hold (restriction s.game p.number) p.box) r in
      (not_true (has_empty p.box) q.0, (and_parts (is_opponents p) (is_fixed s.game p.number p.box) a.0).1, a.1)

  -- a tuple taken
  taken_part : (p : Place) (vs : List ℤ) → StandsPart s p → is_tuple_of s.game p.number p.box vs ≡ true → has_empty (place_taken s vs p).box ≡ false → StandsPart s (place_taken s vs p)
  taken_part p vs st t full =
      part_in s p (box_taken s.game p.number p.box vs) st (taken_sub s.game p.number p.box st.stands.box vs t) (full_drop (before s.game (block_stop p.later p.number)) (box_taken s.game p.number p.box vs) full) (λ _. full)
      (taken_keeps s.game p.number p.box st.stands.box vs t)

  chosen_choices : (p : Place) (vs : List ℤ) (v : Verdict) → ((w : List ℤ) → InBox w (place_taken s vs p).box → InBox w p.box) → ChoicesSay s (place_taken s vs p) (seen_node v ∷ []) [] → ChoicesSay s p (seen_node v ∷ seen_skipped ∷ []) []
  chosen_choices p vs v sub h = record {
    held = λ a at r o. inl (inr (inl tt));
    reached = λ l a only. (let k = h.reached l a (λ b at. only b (record { count = at.count; lies = sub b at.lies })) in (k.0, (tt, tt)));
    loose = λ l. h.loose l;
  }

  chosen_answers : (p : Place) (vs : List ℤ) (x : Option Condition) (later : List Scope) → p.later ≡ universal x ∷ later → (v : Verdict) → ((w : List ℤ) → InBox w (place_taken s vs p).box → InBox w p.box) →
      ((a : List ℤ) → IsAt s p a → IsAt s (place_taken s vs p) a) → AnswersSay s (place_taken s vs p) (seen_node v ∷ []) → AnswersSay s p (seen_node v ∷ seen_skipped ∷ [])
  chosen_answers p vs x later e v sub at h = record {
    says = λ a here. elim (h.says a (at a here)) [
      | inl q ↦ inl (record { loose = q.loose; none = q.none })
      | inr k ↦ inr (skipping a k)
    ];
    loose = λ l. h.loose l;
  }
    where
      skipping : (a : List ℤ) → Answers s (place_taken s vs p) (seen_node v ∷ []) a → Answers s p (seen_node v ∷ seen_skipped ∷ []) a
      skipping a k = record {
        claims = k.claims ++ skipped ∷ [];
        are_seen = map_join k.claims (skipped ∷ []) ∙ ap (λ xs. xs ++ seen_skipped ∷ []) k.are_seen;
        say = claims_join s.game (list_after s.game p.later p.list) p.number a (Optimal s.game (next_scopes p.later) (suc p.number)) k.claims (skipped ∷ []) k.say (tt, tt);
        lie = λ t m. sub (a ++ t) (k.lie t (back t m));
        distinct = subst Distinct (sym same) k.distinct;
        all = λ n l t m j. (let q = none_skipped_join k.claims (skipped ∷ []) n in absurd (differ q.1));
      }
        where
          append_none_to : (xs : List (List ℤ)) → xs ++ [] ≡ xs
          append_none_to [] = refl
          append_none_to (y ∷ xs) = ap (λ ys. y ∷ ys) (append_none_to xs)

          same : tuples_of (k.claims ++ skipped ∷ []) ≡ tuples_of k.claims
          same = tuples_join k.claims (skipped ∷ []) ∙ append_none_to (tuples_of k.claims)

          back : (t : List ℤ) → Among t (tuples_of (k.claims ++ skipped ∷ [])) → Among t (tuples_of k.claims)
          back t m = subst (Among t) same m

  -- ends
  player_empty : (p : Place) (x : Option Condition) (later : List Scope) → p.later ≡ existential x ∷ later → StandsPart s p → empty_placed s p ≡ true → ChoicesSay s p (empty_leaves (is_free_choice s p)) []
  player_empty p x later e st placed =
      subst (λ b. ChoicesSay s p (empty_leaves b) []) (sym (ap (λ b. b && is_unrestricted s.game p.number) (no_opponents p x later e))) (by (closed_box s p) refl placed)
    where
      by : (o : Option Box) → closed_box s p ≡ o → is_empty_in s p o ≡ true → ChoicesSay s p [] []
      by None q h = none_say s p (none_closed s valid p x later e st q)
      by (Some small) q h = no_answer s valid p st small q h x later e

  opponent_empty : (p : Place) (x : Option Condition) (later : List Scope) → p.later ≡ universal x ∷ later → StandsPart s p → has_empty p.box ≡ false → empty_placed s p ≡ true → AnswersSay s p (empty_leaves (is_free_choice s p))
  opponent_empty p x later e st full placed =
      subst (λ b. AnswersSay s p (empty_leaves b)) (sym (ap (λ b. b && is_unrestricted s.game p.number) (opponents_is p x later e))) (by (closed_box s p) refl placed)
    where
      by : (o : Option Box) → closed_box s p ≡ o → is_empty_in s p o ≡ true → AnswersSay s p (empty_leaves (is_unrestricted s.game p.number))
      by None q h = empty_answers s valid p x later e st full q
      by (Some small) q h = no_answer_here s valid p st small q h x later e full

  barred_fails : (p : Place) → barred_placed s p ≡ true → some_fails (restriction s.game p.number) p.box ≡ true
  barred_fails p h = (and_parts (not (has_empty p.box) && is_fixed s.game p.number p.box) (some_fails (restriction s.game p.number) p.box) h).1

  player_best : (p : Place) → Stands s p → best_placed p ≡ true → ChoicesSay s p [] (list_best p.list p.box)
  player_best p st placed = by p.list refl (and_parts (not (has_empty p.box) && is_players p) (is_some_value (list_best p.list p.box)) placed).1
    where
      by : (d : List Condition) → p.list ≡ d → is_some_value (list_best d p.box) ≡ true → ChoicesSay s p [] (list_best d p.box)
      by [] q h = cc
      by (c ∷ d) q h = at c.target refl h
        where
          at : (t : Target) → c.target ≡ t → is_some_value (target_best c.sense t p.box) ≡ true → ChoicesSay s p [] (target_best c.sense c.target p.box)
          at (Var y) k h = subst (λ t. ChoicesSay s p [] (target_best c.sense t p.box)) (sym k) (best_says s p c d y valid st q k)
          at (Agg n) k h = cc

  -- a case
  case_in : (p : Place) (y : ℕ) (us : Values) → y < before s.game (suc p.number) → Left p.box y us → StandsPart s p → has_empty (drop (before s.game (block_stop p.later p.number)) (set p.box y us)) ≡ false →
      (is_opponents p ≡ true → has_empty (set p.box y us) ≡ false) → StandsPart s (case_place p y us)
  case_in p y us high left st behind full =
      part_in s p (set p.box y us) st (left_sub s.game p.box y us st.stands.box left) behind full (λ w h k. still_in (before s.game (suc p.number)) y us w p.box high h k)

  player_case_part : (p : Place) (x : Option Condition) (later : List Scope) → p.later ≡ existential x ∷ later → (y : ℕ) (us : Values) → y < before s.game (suc p.number) → Left p.box y us → StandsPart s p → StandsPart s (case_place p y us)
  player_case_part p x later e y us high left st =
      case_in p y us high left st
      (subst (λ ds. has_empty ds ≡ false) (sym (drop_set (before s.game (block_stop p.later p.number)) y us p.box below)) st.stands.behind)
      (λ f. clash (is_opponents p) f (no_opponents p x later e))
    where
      below : y < before s.game (block_stop p.later p.number)
      below =
          let w = before_wider s.game (suc p.number) (block_stop later (suc p.number)) (block_above later (suc p.number)) in
          subst (λ ls. y < before s.game (block_stop ls p.number)) (sym e) (omega arith)

  opponent_case_part : (p : Place) (y : ℕ) (us : Values) → y < before s.game (suc p.number) → Left p.box y us → is_none_left us ≡ false → has_empty p.box ≡ false → StandsPart s p → StandsPart s (case_place p y us)
  opponent_case_part p y us high left some full st =
      let k = set_full p.box y us full some in
      case_in p y us high left st (full_drop (before s.game (block_stop p.later p.number)) (set p.box y us) k) (λ f. k)

  abbrev NodeDone : Place → NodeRead → Type 0
  NodeDone p r = NodeTold s p r.verdict × EachKnownSays s r.known × OwnSays s p r.verdict r.own

  abbrev ChoicesDone : Place → PartRead → Type 0
  ChoicesDone p r = ChoicesSay s p r.seen r.bests × EachKnownSays s r.known

  abbrev AnswersDone : Place → PartRead → Type 0
  AnswersDone p r = AnswersSay s p r.seen × EachKnownSays s r.known

  -- places with a tuple taken
  taken_at : (p : Place) (vs : List ℤ) → StandsPart s p → is_tuple_of s.game p.number p.box vs ≡ true → (a : List ℤ) → IsAt s p a → IsAt s (place_taken s vs p) a
  taken_at p vs st t a at = record {
    position = record { count = at.position.count; lies = in_front a vs (box_taken s.game p.number p.box vs) (in_taken s.game p.number p.box a vs at.position.count at.position.lies) };
    blocked = blocked_less s.game p.number a p.box (box_taken s.game p.number p.box vs) p.horizon (λ w j. sub_in_box w (box_taken s.game p.number p.box vs) p.box (taken_sub s.game p.number p.box st.stands.box vs t) j) at.blocked;
  }

  known_entered : (named : Bool) (p : Place) (ks : List Known) → EachKnownSays s ks → EachKnownSays s (entered named p ks)
  known_entered false p ks k = k
  known_entered true p ks k = known_more s ks p k

  known_settled : (named : Bool) (n : ℕ) (p : Place) (v : Verdict) (ks : List Known) → EachKnownSays s ks → StandsNode s p → NodeTold s p v → EachKnownSays s (settled named n (record { place = p; verdict = Some v }) ks)
  known_settled false n p v ks k st t = k
  known_settled true n p v ks k st t = known_set s ks n (record { place = p; verdict = Some v }) k (st, t)

  -- nothing is told
  no_own : (p : Place) (v : Verdict) → OwnSays s p v None
  no_own p v = λ ex n o. absurd (none_some n o)
    where
      none_some : (n : ℤ) → ¬ (None ≡ Some n)
      none_some n o = cc

  told_again : (p : Place) (ks : List Known) (o : Option Known) → StandsNode s p → EachKnownSays s ks → ((c : Known) → o ≡ Some c → KnownSays s c c.verdict) → (told_by s p ks o).placed ≡ true → NodeDone p (told_by s p ks o)
  told_again p ks None st k f h = cc
  told_again p ks (Some c) st k f h = (by c.verdict (f c refl) h, k, no_own p (loosened s p (or_unknown c.verdict)))
    where
      by : (v : Option Verdict) → KnownSays s c v → (is_some v && are_alike s.game p c.place) ≡ true → NodeTold s p (loosened s p (or_unknown v))
      by None w h = cc
      by (Some v) w h = told_alike s valid (alike_allow s valid) p c.place st w.0 h v w.1

  goal_is : (ls : List Scope) → is_goal ls ≡ true → ls ≡ []
  goal_is [] h = refl
  goal_is (sc ∷ ls) h = cc

  none_is_left : (vs : Values) → is_none_left vs ≡ true → vs ≡ []
  none_is_left [] h = refl
  none_is_left (v ∷ vs) h = cc

  some_covered : (upto : Option ℤ) (vs : Values) → is_cover upto vs ≡ true → is_none_left (covered upto vs) ≡ false
  some_covered None [] h = cc
  some_covered None (v ∷ vs) h = refl
  some_covered (Some high) [] h = cc
  some_covered (Some high) (v ∷ vs) h =
      long (cover (Some high) (v ∷ vs)) (v ∷ vs) (lt_from 1 (cover (Some high) (v ∷ vs)) (and_parts (has_value (v ∷ vs) high) (nat_lt 1 (cover (Some high) (v ∷ vs))) h).1) refl
    where
      long : (n : ℕ) (us : Values) → 1 < n → is_none_left us ≡ false → is_none_left (take n us) ≡ false
      long zero us l e = absurd (omega arith)
      long (suc n) [] l e = cc
      long (suc n) (u ∷ us) l e = refl

  -- a branch without values left
  player_none : (p : Place) (x : Option Condition) (later : List Scope) → p.later ≡ existential x ∷ later → (y : ℕ) → y < before s.game (suc p.number) → (vs : Values) → is_none_left vs ≡ true → ChoicesSay s (case_place p y vs) [] []
  player_none p x later e y high vs h = none_say s (case_place p y vs) (λ a at r o.
      (let c = chose s (case_place p y vs) x later e a r o in
      let n = move_count s.game p.number a c.tuple at.position.count c.is_move in
      none_at p.box y (a ++ c.tuple) (omega arith) (subst (λ us. InBox (a ++ c.tuple) (set p.box y us)) (none_is_left vs h) (lie_front (set p.box y vs) c.after (a ++ c.tuple) c.lies))))

  opponent_none : (p : Place) (x : Option Condition) (later : List Scope) → p.later ≡ universal x ∷ later → (y : ℕ) → y < before s.game (suc p.number) → (vs : Values) → is_none_left vs ≡ true → AnswersSay s (case_place p y vs) []
  opponent_none p x later e y high vs h = none_answers s valid (case_place p y vs) x later e (λ a t at m j.
      (let n = move_count s.game p.number a t at.position.count m in
      none_at p.box y (a ++ t) (omega arith) (subst (λ us. InBox (a ++ t) (set p.box y us)) (none_is_left vs h) j)))

  -- a scope's node, from what its own tree says
  scope_done : (p : Place) (steps : List Step) (end : Ending) (ks : List Known) → StandsNode s p → EachKnownSays s ks → (read_body s (cases steps end) p ks).placed ≡ true →
      ((x : Option Condition) (later : List Scope) → (read_steps s steps p).place.later ≡ existential x ∷ later → StandsPart s (read_steps s steps p).place → (read_ending s end (read_steps s steps p).place ks).placed ≡ true → ChoicesDone (read_steps s steps p).place (read_ending s end (read_steps s steps p).place ks)) →
      ((x : Option Condition) (later : List Scope) → (read_steps s steps p).place.later ≡ universal x ∷ later → StandsPart s (read_steps s steps p).place → has_empty (read_steps s steps p).place.box ≡ false → (read_ending s end (read_steps s steps p).place ks).placed ≡ true → AnswersDone (read_steps s steps p).place (read_ending s end (read_steps s steps p).place ks)) →
      NodeDone p (read_body s (cases steps end) p ks)
  scope_done p steps end ks st k placed of_player of_opponent = by p.later refl
    where
      q : (cases_placed p ≡ true) × (((read_steps s steps p).placed && (read_ending s end (read_steps s steps p).place ks).placed) ≡ true)
      q = and_parts (cases_placed p) ((read_steps s steps p).placed && (read_ending s end (read_steps s steps p).place ks).placed) placed

      m : ((read_steps s steps p).placed ≡ true) × ((read_ending s end (read_steps s steps p).place ks).placed ≡ true)
      m = and_parts (read_steps s steps p).placed (read_ending s end (read_steps s steps p).place ks).placed q.1

      by : (ls : List Scope) → p.later ≡ ls → NodeDone p (read_body s (cases steps end) p ks)
      by [] e = absurd (differ (subst (λ ls. not (is_goal ls) ≡ true) e (and_parts (not (is_horizon p.horizon p.number)) (not (is_goal p.later)) q.0).1))
      by (sc ∷ later) e = kind sc.kind sc.condition e
        where
          kind : (j : Kind) (x : Option Condition) → p.later ≡ record { kind = j; condition = x } ∷ later → NodeDone p (read_body s (cases steps end) p ks)
          kind Exists x e =
              let done = player_steps steps p x later e (into_part s p st) m.0 in
              let r = of_player x later (done.same_later ∙ e) done.part m.1 in (
                player_told s valid p st x later e (map seen_bound (read_steps s steps p).marks ++ (read_ending s end (read_steps s steps p).place ks).seen) (read_ending s end (read_steps s steps p).place ks).bests
                    (done.say (read_ending s end (read_steps s steps p).place ks).seen (read_ending s end (read_steps s steps p).place ks).bests r.0),
                r.1,
                player_own s valid p st x later e (map seen_bound (read_steps s steps p).marks ++ (read_ending s end (read_steps s steps p).place ks).seen) (read_ending s end (read_steps s steps p).place ks).bests
                    (done.say (read_ending s end (read_steps s steps p).place ks).seen (read_ending s end (read_steps s steps p).place ks).bests r.0),
              )
          kind Forall x e =
              let done = opponent_steps steps p x later e (into_part s p st) st.full m.0 in
              let r = of_opponent x later (done.same_later ∙ e) done.part done.full m.1 in (
                opponent_told s valid p x later e st (map seen_bound (read_steps s steps p).marks ++ (read_ending s end (read_steps s steps p).place ks).seen)
                    (done.say (read_ending s end (read_steps s steps p).place ks).seen r.0) (read_ending s end (read_steps s steps p).place ks).bests,
                r.1,
                subst (λ ls. OwnSays s p (read_body s (cases steps end) p ks).verdict (scope_own s p ls (map seen_bound (read_steps s steps p).marks ++ (read_ending s end (read_steps s steps p).place ks).seen))) (sym e)
                    (no_own p (read_body s (cases steps end) p ks).verdict),
              )

  mutual
    pub node_done : (t : Node) (p : Place) (ks : List Known) → StandsNode s p → EachKnownSays s ks → (read_node s t p ks).placed ≡ true → NodeDone p (read_node s t p ks)
    node_done (node named h body) p ks st k placed =
        let q = and_parts (horizon_placed s h p) (read_body s body (with_horizon h p) (entered named p ks)).placed placed in
        let r = body_done body (with_horizon h p) (entered named p ks) (horizon_stands s valid p st h q.0) (known_entered named p ks k) q.1 in
        let told = horizon_told s valid p st h q.0 (read_body s body (with_horizon h p) (entered named p ks)).verdict r.0 in (
          told,
          known_settled named (length ks) p (read_body s body (with_horizon h p) (entered named p ks)).verdict (read_body s body (with_horizon h p) (entered named p ks)).known r.1 st told,
          horizon_own s valid p st h q.0 (read_body s body (with_horizon h p) (entered named p ks)).verdict (read_body s body (with_horizon h p) (entered named p ks)).own r.2,
        )
    node_done (again n) p ks st k placed = told_again p ks (slice_get ks n) st k (λ c q. known_at s ks n c k q) placed
    node_done (no_play j) p ks st k placed = (no_play_told s valid p j st.stands placed, k, no_own p lost)

    body_done : (b : Body) (p : Place) (ks : List Known) → StandsNode s p → EachKnownSays s ks → (read_body s b p ks).placed ≡ true → NodeDone p (read_body s b p ks)
    body_done stuck p ks st k placed = (stuck_told s valid p st placed p.later refl, k, no_own p (loosened s p (stuck_comes_to s p p.later)))
    body_done goal p ks st k placed = (goal_told s valid p st (goal_is p.later (and_parts (not (is_horizon p.horizon p.number)) (is_goal p.later) placed).1), k, no_own p (loosened s p (goal_comes_to s p)))
    body_done (cases steps end) p ks st k placed =
        scope_done p steps end ks st k placed
        (λ x later e part h. player_end end (read_steps s steps p).place x later e ks part k h)
        (λ x later e part full h. opponent_end end (read_steps s steps p).place x later e ks part full k h)

    player_end : (end : Ending) (p : Place) (x : Option Condition) (later : List Scope) → p.later ≡ existential x ∷ later → (ks : List Known) → StandsPart s p → EachKnownSays s ks → (read_ending s end p ks).placed ≡ true → ChoicesDone p (read_ending s end p ks)
    player_end empty p x later e ks st k placed = (player_empty p x later e st placed, k)
    player_end barred p x later e ks st k placed = (barred_say s p (barred_none s p x later e valid st.stands.box (barred_fails p placed)), k)
    player_end best_left p x later e ks st k placed = (player_best p st.stands placed, k)
    player_end (dead j) p x later e ks st k placed =
        let q = and_parts (is_players p || is_free_choice s p) (no_play_placed s p j) placed in
        (lost_say s p (λ a at r o. no_strategy s valid p j st.stands q.1 a at.position r o), k)
    player_end (next t) p x later e ks st k placed =
        let q = and_parts (next_placed s p) (read_node s t (place_below s p) ks).placed placed in
        let g = player_goes p x later e q.0 in
        let enters : p.loose ≡ false → is_fixed s.game p.number p.box ≡ true → Enters s p = λ l fixed. settled_enters p st g.0 g.1 l fixed in
        let below = next_stands s p (existential x) later e st g.0 enters in
        let r = node_done t (place_below s p) ks below k q.1 in
        (next_says s p x later e st g.0 enters (read_node s t (place_below s p) ks).verdict r.0 below, r.1)
    player_end (chosen vs t) p x later e ks st k placed =
        let q = and_parts (chosen_placed s vs p) (read_node s t (place_below s (place_taken s vs p)) ks).placed placed in
        let c = and_parts (is_tuple_of s.game p.number p.box vs) (next_placed s (place_taken s vs p)) q.0 in
        let g = player_goes (place_taken s vs p) x later e c.1 in
        let part = taken_part p vs st c.0 g.0 in
        let enters : (place_taken s vs p).loose ≡ false → is_fixed s.game p.number (place_taken s vs p).box ≡ true → Enters s (place_taken s vs p) = λ l fixed. settled_enters (place_taken s vs p) part g.0 g.1 l fixed in
        let below = next_stands s (place_taken s vs p) (existential x) later e part g.0 enters in
        let r = node_done t (place_below s (place_taken s vs p)) ks below k q.1 in (
          chosen_choices p vs (read_node s t (place_below s (place_taken s vs p)) ks).verdict (λ w j. sub_in_box w (box_taken s.game p.number p.box vs) p.box (taken_sub s.game p.number p.box st.stands.box vs c.0) j)
              (next_says s (place_taken s vs p) x later e part g.0 enters (read_node s t (place_below s (place_taken s vs p)) ks).verdict r.0 below),
          r.1,
        )
    player_end (branch y bs) p x later e ks st k placed =
        let q = and_parts (branch_placed s p y.0) (read_branches s bs y.0 (values_left p.box y.0) p ks).placed placed in
        let w = in_scope s.game p.number y.0 (and_parts (not (has_empty p.box)) (is_of_scope s.game p.number y.0) (and_parts (not (has_empty p.box) && is_of_scope s.game p.number y.0) (not (is_single (values_left p.box y.0))) q.0).0).1 in
        let r = player_branches bs y.0 (values_left p.box y.0) p x later e w.0 w.1 (all_left s.game p.box y.0 st.stands.box) ks st k q.1 in
        (subst (λ b. ChoicesSay s (with_box b p) (read_branches s bs y.0 (values_left p.box y.0) p ks).seen (read_branches s bs y.0 (values_left p.box y.0) p ks).bests) (set_same p.box y.0 (values_left p.box y.0) refl) r.0, r.1)

    player_branches : (bs : Branches) (y : ℕ) (vs : Values) (p : Place) (x : Option Condition) (later : List Scope) → p.later ≡ existential x ∷ later → before s.game p.number ≤ y → y < before s.game (suc p.number) → Left p.box y vs → (ks : List Known) → StandsPart s p → EachKnownSays s ks →
        (read_branches s bs y vs p ks).placed ≡ true → ChoicesSay s (case_place p y vs) (read_branches s bs y vs p ks).seen (read_branches s bs y vs p ks).bests × EachKnownSays s (read_branches s bs y vs p ks).known
    player_branches no_more y vs p x later e low high left ks st k placed = (player_none p x later e y high vs placed, k)
    player_branches (piece upto c bs) y vs p x later e low high left ks st k placed =
        let q = and_parts (is_cover upto vs) _ placed in
        let m = and_parts (read_case s c y (covered upto vs) p ks).placed (read_branches s bs y (uncovered upto vs) p (read_case s c y (covered upto vs) p ks).known).placed q.1 in
        let l = left_parts p.box y (cover upto vs) vs left in
        let one = player_case c y (covered upto vs) p x later e low high l.0 ks st k m.0 in
        let more = player_branches bs y (uncovered upto vs) p x later e low high l.1 (read_case s c y (covered upto vs) p ks).known st one.1 m.1 in (
          subst (λ us. ChoicesSay s (case_place p y us) ((read_case s c y (covered upto vs) p ks).seen ++ (read_branches s bs y (uncovered upto vs) p (read_case s c y (covered upto vs) p ks).known).seen)
              ((read_case s c y (covered upto vs) p ks).bests ++ (read_branches s bs y (uncovered upto vs) p (read_case s c y (covered upto vs) p ks).known).bests)) (take-append-drop (cover upto vs) vs)
              (cases_say s p x later e y low high (covered upto vs) (uncovered upto vs) (read_case s c y (covered upto vs) p ks).seen (read_branches s bs y (uncovered upto vs) p (read_case s c y (covered upto vs) p ks).known).seen
              (read_case s c y (covered upto vs) p ks).bests (read_branches s bs y (uncovered upto vs) p (read_case s c y (covered upto vs) p ks).known).bests one.0 more.0),
          more.1,
        )

    player_case : (c : Case) (y : ℕ) (us : Values) (p : Place) (x : Option Condition) (later : List Scope) → p.later ≡ existential x ∷ later → before s.game p.number ≤ y → y < before s.game (suc p.number) → Left p.box y us → (ks : List Known) → StandsPart s p → EachKnownSays s ks →
        (read_case s c y us p ks).placed ≡ true → ChoicesSay s (case_place p y us) (read_case s c y us p ks).seen (read_case s c y us p ks).bests × EachKnownSays s (read_case s c y us p ks).known
    player_case skip y us p x later e low high left ks st k placed = (skipped_say s (case_place p y us), k)
    player_case left_open y us p x later e low high left ks st k placed = (skipped_say s (case_place p y us), k)
    player_case (go steps end) y us p x later e low high left ks st k placed =
        let w = read_steps s steps (case_place p y us) in
        let q = and_parts (is_narrower us (values_left p.box y)) (w.placed && (read_ending s end w.place ks).placed) placed in
        let m = and_parts w.placed (read_ending s end w.place ks).placed q.1 in
        let done = player_steps steps (case_place p y us) x later e (player_case_part p x later e y us high left st) m.0 in
        let r = player_end end w.place x later (done.same_later ∙ e) ks done.part k m.1 in
        (done.say (read_ending s end w.place ks).seen (read_ending s end w.place ks).bests r.0, r.1)

    opponent_end : (end : Ending) (p : Place) (x : Option Condition) (later : List Scope) → p.later ≡ universal x ∷ later → (ks : List Known) → StandsPart s p → has_empty p.box ≡ false → EachKnownSays s ks → (read_ending s end p ks).placed ≡ true → AnswersDone p (read_ending s end p ks)
    opponent_end empty p x later e ks st full k placed = (opponent_empty p x later e st full placed, k)
    opponent_end barred p x later e ks st full k placed =
        (barred_answers s valid p x later e (λ a t at m j. refuted_fails s.game valid p.number p.box (a ++ t) st.stands.box (move_count s.game p.number a t at.position.count m) j (barred_fails p placed) m.is_allowed), k)
    opponent_end best_left p x later e ks st full k placed =
        absurd (clash (is_players p) (and_parts (not (has_empty p.box)) (is_players p) (and_parts (not (has_empty p.box) && is_players p) (is_some_value (list_best p.list p.box)) placed).0).1 (no_players p x later e))
    opponent_end (dead j) p x later e ks st full k placed =
        let q = and_parts (is_players p || is_free_choice s p) (no_play_placed s p j) placed in (
          dead_answers s valid p j st.stands q.1 x later e st full (elim (or_cases (is_players p) (is_free_choice s p) q.0) [
            | inl f ↦ clash (is_players p) f (no_players p x later e)
            | inr f ↦ (and_parts (is_opponents p) (is_unrestricted s.game p.number) f).1
          ]),
          k,
        )
    opponent_end (next t) p x later e ks st full k placed =
        let q = and_parts (next_placed s p) (read_node s t (place_below s p) ks).placed placed in
        let g = opponent_goes p x later e q.0 in
        let below = next_stands s p (universal x) later e st g.0 (λ l fixed. enters_by p st g.2) in
        let r = node_done t (place_below s p) ks below k q.1 in
        (next_answers s valid p x later e st g.1 g.2 g.0 (read_node s t (place_below s p) ks).verdict r.0, r.1)
    opponent_end (chosen vs t) p x later e ks st full k placed =
        let q = and_parts (chosen_placed s vs p) (read_node s t (place_below s (place_taken s vs p)) ks).placed placed in
        let c = and_parts (is_tuple_of s.game p.number p.box vs) (next_placed s (place_taken s vs p)) q.0 in
        let g = opponent_goes (place_taken s vs p) x later e c.1 in
        let part = taken_part p vs st c.0 g.0 in
        let below = next_stands s (place_taken s vs p) (universal x) later e part g.0 (λ l fixed. enters_by (place_taken s vs p) part g.2) in
        let r = node_done t (place_below s (place_taken s vs p)) ks below k q.1 in (
          chosen_answers p vs x later e (read_node s t (place_below s (place_taken s vs p)) ks).verdict (λ w j. sub_in_box w (box_taken s.game p.number p.box vs) p.box (taken_sub s.game p.number p.box st.stands.box vs c.0) j) (λ a at. taken_at p vs st c.0 a at)
              (next_answers s valid (place_taken s vs p) x later e part g.1 g.2 g.0 (read_node s t (place_below s (place_taken s vs p)) ks).verdict r.0),
          r.1,
        )
    opponent_end (branch y bs) p x later e ks st full k placed =
        let q = and_parts (branch_placed s p y.0) (read_branches s bs y.0 (values_left p.box y.0) p ks).placed placed in
        let w = in_scope s.game p.number y.0 (and_parts (not (has_empty p.box)) (is_of_scope s.game p.number y.0) (and_parts (not (has_empty p.box) && is_of_scope s.game p.number y.0) (not (is_single (values_left p.box y.0))) q.0).0).1 in
        let r = opponent_branches bs y.0 (values_left p.box y.0) p x later e w.0 w.1 (all_left s.game p.box y.0 st.stands.box) ks st full k q.1 in
        (subst (λ b. AnswersSay s (with_box b p) (read_branches s bs y.0 (values_left p.box y.0) p ks).seen) (set_same p.box y.0 (values_left p.box y.0) refl) r.0, r.1)

    opponent_branches : (bs : Branches) (y : ℕ) (vs : Values) (p : Place) (x : Option Condition) (later : List Scope) → p.later ≡ universal x ∷ later → before s.game p.number ≤ y → y < before s.game (suc p.number) → Left p.box y vs → (ks : List Known) → StandsPart s p → has_empty p.box ≡ false → EachKnownSays s ks →
        (read_branches s bs y vs p ks).placed ≡ true → AnswersSay s (case_place p y vs) (read_branches s bs y vs p ks).seen × EachKnownSays s (read_branches s bs y vs p ks).known
    opponent_branches no_more y vs p x later e low high left ks st full k placed = (opponent_none p x later e y high vs placed, k)
    opponent_branches (piece upto c bs) y vs p x later e low high left ks st full k placed =
        let q = and_parts (is_cover upto vs) _ placed in
        let m = and_parts (read_case s c y (covered upto vs) p ks).placed (read_branches s bs y (uncovered upto vs) p (read_case s c y (covered upto vs) p ks).known).placed q.1 in
        let l = left_parts p.box y (cover upto vs) vs left in
        let one = opponent_case c y (covered upto vs) p x later e low high l.0 (some_covered upto vs q.0) ks st full k m.0 in
        let more = opponent_branches bs y (uncovered upto vs) p x later e low high l.1 (read_case s c y (covered upto vs) p ks).known st full one.1 m.1 in (
          subst (λ us. AnswersSay s (case_place p y us) ((read_case s c y (covered upto vs) p ks).seen ++ (read_branches s bs y (uncovered upto vs) p (read_case s c y (covered upto vs) p ks).known).seen)) (take-append-drop (cover upto vs) vs)
              (answers_join s valid p x later e y low high (covered upto vs) (uncovered upto vs) l.2 (read_case s c y (covered upto vs) p ks).seen (read_branches s bs y (uncovered upto vs) p (read_case s c y (covered upto vs) p ks).known).seen one.0 more.0),
          more.1,
        )

    opponent_case : (c : Case) (y : ℕ) (us : Values) (p : Place) (x : Option Condition) (later : List Scope) → p.later ≡ universal x ∷ later → before s.game p.number ≤ y → y < before s.game (suc p.number) → Left p.box y us → is_none_left us ≡ false → (ks : List Known) → StandsPart s p → has_empty p.box ≡ false → EachKnownSays s ks →
        (read_case s c y us p ks).placed ≡ true → AnswersSay s (case_place p y us) (read_case s c y us p ks).seen × EachKnownSays s (read_case s c y us p ks).known
    opponent_case skip y us p x later e low high left some ks st full k placed = (skipped_answers s valid (case_place p y us) x later e, k)
    opponent_case left_open y us p x later e low high left some ks st full k placed = (skipped_answers s valid (case_place p y us) x later e, k)
    opponent_case (go steps end) y us p x later e low high left some ks st full k placed =
        let w = read_steps s steps (case_place p y us) in
        let q = and_parts (is_narrower us (values_left p.box y)) (w.placed && (read_ending s end w.place ks).placed) placed in
        let m = and_parts w.placed (read_ending s end w.place ks).placed q.1 in
        let done = opponent_steps steps (case_place p y us) x later e (opponent_case_part p y us high left some full st) (set_full p.box y us full some) m.0 in
        let r = opponent_end end w.place x later (done.same_later ∙ e) ks done.part done.full k m.1 in
        (done.say (read_ending s end w.place ks).seen r.0, r.1)
