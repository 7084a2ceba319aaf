-- A scope's join beside the records of the scope's own tree.
use Rattle.std.proofs.Common.{◌≡◌, ◌≤◌, ◌<◌, ◌+◌, ◌*◌, ◌-◌, ◌∙◌, inl, inr, ℕ, zero, suc, Bool, true, false, cond, ◌&&◌, ◌||◌, List, [], ◌∷◌, ◌++◌, map, length, drop, take, refl, sym, ap, subst, arith, Option, None, Some, append_assoc, drop_of_length-le, ℤ}
use Rattle.std.specs.Prelude.{◌⊎◌}
use Rattle.std.specs.List.{list_all}
use Rattle.std.proofs.lemmas.List.{append-nil}
use Rattle.std.proofs.lemmas.Bool.{or_parts, or_left, or_right, or_from}
use Rattle.qc_model.specs.declared.problem.Condition.{Condition}
use Rattle.qc_model.specs.declared.problem.Kind.{Kind}
use Rattle.qc_model.specs.declared.problem.Kind.TheVariants.{Exists, Forall}
use Rattle.qc_model.specs.declared.problem.Scope.{Scope}
use Rattle.qc_model.specs.declared.problem.VarId.{VarId}
use Rattle.qc_model.specs.Content.{Game}
use Rattle.qc_model.specs.Block.{constraints_in_force}
use Rattle.qc_model.specs.Closed.{is_closed}
use Rattle.qc_model.specs.Demands.{demands, demands_from, demands_after}
use Rattle.qc_model.specs.Domains.{Box, Values, values_left, has_value, is_ascending, is_single, is_none_left, has_empty}
use Rattle.qc_model.specs.ExistsVerdict.{exists_own}
use Rattle.qc_model.specs.Game.{allows, is_of_scope}
use Rattle.qc_model.specs.ForallVerdict.{goal_verdict, stuck_verdict}
use Rattle.qc_model.specs.Valid.{IsValid, is_number}
use Rattle.qc_model.specs.Verdict.{Verdict, lost, Seen, seen_barred, seen_skipped, seen_node, exact_vectors}
use Rattle.proof_tree.specs.Cover.{box_to, is_cover, uncovered}
use Rattle.proof_tree.specs.Counts.{turns_of, ending_turns, ending_opens}
use Rattle.proof_tree.specs.Diligent.{SeesAhead}
use Rattle.proof_tree.specs.Finding.{kind_stuck, stuck_finding}
use Rattle.proof_tree.specs.Incumbents.{has_no_worse}
use Rattle.proof_tree.specs.InPlace.{is_horizon, horizon_in_place, horizon_below}
use Rattle.proof_tree.specs.Text.{is_place, horizon_fits}
use Rattle.proof_tree.specs.Place.{position, is_fixed, is_fixed_to, is_goal, list_after, next_scopes, tracked_variable}
use Rattle.proof_tree.specs.Read.{read_body}
use Rattle.proof_tree.specs.Lines.{tree_lines, body_lines, ending_lines, upto_lines, branches_lines, horizon_lines, step_line}
use Rattle.proof_tree.specs.Steps.{after_steps}
use Rattle.proof_tree.specs.Tree.{tree, stuck, goal, cases, empty, barred, next, branch}
use Rattle.proof_tree.specs.declared.line.Line.{Line}
use Rattle.proof_tree.specs.declared.line.Line.TheVariants.{Skip, Open, Next, Barred, Dot, Empty, Branch as BranchLine, Goal as GoalLine, Stuck as StuckLine}
use Rattle.proof_tree.specs.declared.tree.Horizon.{Horizon}
use Rattle.proof_tree.specs.declared.tree.Step.{Step}
use Rattle.joins.specs.Joins.{StandsAt, LeafFits}
use Rattle.joins.specs.Joins.{IsLong}
use Rattle.joins.specs.Sizes.{IsSized, HasSizes}
use Rattle.joins.specs.Verdicts.{verdict_at, stuck_of, settled_at, own_at, kind_own, scope_own}
use Rattle.joins.specs.declared.joins.Joins.{Joins}
use Rattle.joins.proofs.Lengths.{verdict_long, goal_long, stuck_long}
use Rattle.joins.proofs.Sizing.{sizes_both, leaf_fits, verdict_sized, goal_sized, stuck_sized}
use Rattle.likeness.proofs.Plain.{stuck_own}
use Rattle.fd_store.specs.Held.{values_from}
use Rattle.search_box.specs.Closes.{IsPruned}
use Rattle.search_box.specs.Rests.{IsFirst, IsLast, IsNext, IsPrevious}
use Rattle.search_walk.specs.Aims.{tracked_at}
use Rattle.search_parts.specs.Beaten.{firsts, seen_bounds}
use Rattle.search_parts.specs.Own.{IsOwnSized}
use Rattle.search_walk.specs.Rivals.{above_at}
use Rattle.search_parts.specs.Settled.{is_settled, is_outdone, is_ended, is_vague_verdict, beats_none}
use Rattle.search_parts.specs.Uppers.{upto_all, upto_between, skipped_between, seen_between, without_before}
use Rattle.search_parts.specs.Made.{NodeMade, EndingMade, StepsMade}
use Rattle.search_parts.specs.Written.{NodeWritten, PartWritten}
use Rattle.search_walk.specs.Later.{Passing}
use Rattle.search_walk.specs.Here.{Here, in_box, at_horizon, with_above}
use Rattle.search_walk.specs.Put.{IsReady, IsTold, EndingPut, StepsTold, BoundedSteps, PartPut, BoundedPut, CasePut, CasesPut, BodyPut, NodePut}
use Rattle.search_parts.proofs.Beating.{no_worse_yet}
use Rattle.search_walk.proofs.Covering.{covers_before, rest_of}
use Rattle.search_parts.proofs.Joining.{settled_is, settled_so, own_so, own_none, settled-append}
use Rattle.search_parts.proofs.Nodes.{goal_made, node_made, part_known, more_beaten, more_done, horizon_made, stuck_made, empty_made, next_made, barred_made, branch_made}
use Rattle.search_parts.specs.Bounded.{Outdoes}
use Rattle.search_parts.proofs.Outdone.{ended_last}
use Rattle.search_walk.proofs.Places.{next_at}
use Rattle.search_parts.proofs.Progress.{start, taken_from, none, skipped, opened, cut_after, jump_after, jump_behind}
use Rattle.search_parts.proofs.Sizes.{sizes_none, sizes_skipped, own_sized, own_sized_as}
use Rattle.search_parts.proofs.Stepping.{bare_part, bounded_says, bounded_long, part_long, ending_more}
use Rattle.search_parts.proofs.Sure.{without_marks, vectors_marks, sure_anyway}

some_scope : (n : ℕ) (ss : List Scope) → n < length ss → is_goal (drop n ss) ≡ false
some_scope n [] h = absurd (omega arith)
some_scope zero (s ∷ ss) h = refl
some_scope (suc n) (s ∷ ss) h = some_scope n ss (omega arith)

pub demands_next : (g : Game) (ss : List Scope) (i : ℕ) (d : List Condition) → i < length ss → list_after g (drop i ss) (demands_from g (take i ss) d) ≡ demands_from g (take (suc i) ss) d
demands_next g [] i d h = absurd (omega arith)
demands_next g (s ∷ ss) zero d h = refl
demands_next g (s ∷ ss) (suc i) d h = demands_next g ss i (demands_after g s.kind s.condition d) (omega arith)

module _ (g : Game) (i : ℕ) where
  abbrev Later : List Scope
  Later = drop i g.scopes

  abbrev pub Settled : List Seen → Bool
  Settled xs = is_settled Later (list_after g Later (demands g i)) xs

  pub settled_here : (xs : List Seen) → settled_at g i xs ≡ Settled xs
  settled_here xs = settled_so g Later (demands g i) xs

  settled_more : (xs ys : List Seen) → settled_at g i xs ≡ true → settled_at g i (xs ++ ys) ≡ true
  settled_more xs ys e = settled_here (xs ++ ys) ∙ (settled-append Later (list_after g Later (demands g i)) xs ys ∙ or_left (Settled xs) (Settled ys) (sym (settled_here xs) ∙ e))

  -- what settles the scope after something that doesn't
  pub settled_last : (xs ys : List Seen) → settled_at g i xs ≡ false → settled_at g i (xs ++ ys) ≡ true → Settled ys ≡ true
  settled_last xs ys e f =
      sym (ap (λ b. b || Settled ys) (sym (settled_here xs) ∙ e)) ∙ (sym (settled-append Later (list_after g Later (demands g i)) xs ys) ∙ (sym (settled_here (xs ++ ys)) ∙ f))

  pub settled_then : (xs ys : List Seen) → Settled ys ≡ true → settled_at g i (xs ++ ys) ≡ true
  settled_then xs ys e = settled_here (xs ++ ys) ∙ (settled-append Later (list_after g Later (demands g i)) xs ys ∙ or_right (Settled xs) (Settled ys) e)

  -- the join stands for what was seen
  pub all_told : (joins : Joins) (xs ys : List Seen) → StandsAt joins i xs → xs ≡ ys → IsTold g i joins ys
  all_told joins xs ys h e = record { stood = xs; stands = h; same = inl e }

  -- the join of a scope that isn't settled stands for all that was seen
  pub unsettled_stands : (joins : Joins) (xs : List Seen) (b : Bool) → ((ys : List Seen) → StandsAt joins i ys → b ≡ settled_at g i ys) → b ≡ false → IsTold g i joins xs → StandsAt joins i xs × (settled_at g i xs ≡ false)
  unsettled_stands joins xs b asked e t = by t.same
    where
      no : settled_at g i t.stood ≡ false
      no = sym (asked t.stood t.stands) ∙ e

      by : ((t.stood ≡ xs) ⊎ ((settled_at g i t.stood ≡ true) × (settled_at g i xs ≡ true))) → StandsAt joins i xs × (settled_at g i xs ≡ false)
      by (inl q) = (subst (StandsAt joins i) q t.stands, ap (settled_at g i) (sym q) ∙ no)
      by (inr q) = let f : true ≡ false = sym q.0 ∙ no in cc

  -- the join of a settled one stands for something that settles it, as what was seen does
  pub settled_told : (joins : Joins) (xs : List Seen) (b : Bool) → ((ys : List Seen) → StandsAt joins i ys → b ≡ settled_at g i ys) → b ≡ true → (t : IsTold g i joins xs) → (settled_at g i t.stood ≡ true) × (settled_at g i xs ≡ true)
  settled_told joins xs b asked e t = by t.same
    where
      yes : settled_at g i t.stood ≡ true
      yes = sym (asked t.stood t.stands) ∙ e

      by : ((t.stood ≡ xs) ⊎ ((settled_at g i t.stood ≡ true) × (settled_at g i xs ≡ true))) → (settled_at g i t.stood ≡ true) × (settled_at g i xs ≡ true)
      by (inl q) = (yes, ap (settled_at g i) (sym q) ∙ yes)
      by (inr q) = q

  -- the join was told of more
  told_more : (joins next_joins : Joins) (xs more : List Seen) → ((ys : List Seen) → StandsAt joins i ys → StandsAt next_joins i (ys ++ more)) → IsTold g i joins xs → IsTold g i next_joins (xs ++ more)
  told_more joins next_joins xs more added t = record { stood = t.stood ++ more; stands = added t.stood t.stands; same = by t.same }
    where
      by : ((t.stood ≡ xs) ⊎ ((settled_at g i t.stood ≡ true) × (settled_at g i xs ≡ true))) → (t.stood ++ more ≡ xs ++ more) ⊎ ((settled_at g i (t.stood ++ more) ≡ true) × (settled_at g i (xs ++ more) ≡ true))
      by (inl q) = inl (ap (λ ys. ys ++ more) q)
      by (inr q) = inr (settled_more t.stood more q.0, settled_more xs more q.1)

-- what the join answers when it is asked whether the scope is settled
abbrev pub Answers : Game → ℕ → Joins → Bool → Type 0
Answers g i joins b = (ys : List Seen) → StandsAt joins i ys → b ≡ settled_at g i ys

pub asked_here : (g h : Game) (i : ℕ) (joins : Joins) (b : Bool) → h ≡ g → ((ys : List Seen) → StandsAt joins i ys → b ≡ settled_at h i ys) → Answers g i joins b
asked_here g h i joins b e f ys s = f ys s ∙ ap (λ k. settled_at k i ys) e

-- what the join answers when it is asked whether no further leaf counts
abbrev pub Ends : (ℤ → Bool) → Game → ℕ → Joins → Type 0
Ends above g i joins = (ys : List Seen) → StandsAt joins i ys → is_ended above (drop i g.scopes) (list_after g (drop i g.scopes) (demands g i)) ys ≡ true

-- so it is of all that was seen
ended_told : (above : ℤ → Bool) (g : Game) (i : ℕ) (joins : Joins) (xs : List Seen) → Ends above g i joins → IsTold g i joins xs → is_ended above (drop i g.scopes) (list_after g (drop i g.scopes) (demands g i)) xs ≡ true
ended_told above g i joins xs ends t = by t.same
  where
    by : ((t.stood ≡ xs) ⊎ ((settled_at g i t.stood ≡ true) × (settled_at g i xs ≡ true))) → is_ended above (drop i g.scopes) (list_after g (drop i g.scopes) (demands g i)) xs ≡ true
    by (inl q) = ap (is_ended above (drop i g.scopes) (list_after g (drop i g.scopes) (demands g i))) (sym q) ∙ ends t.stood t.stands
    by (inr q) = or_left (Settled g i xs) (is_outdone above xs) (sym (settled_here g i xs) ∙ q.1)

pub settled_ends : (above : ℤ → Bool) (g : Game) (i : ℕ) (joins : Joins) (b : Bool) → Answers g i joins b → b ≡ true → Ends above g i joins
settled_ends above g i joins b asked e ys s = or_left (Settled g i ys) (is_outdone above ys) (sym (settled_here g i ys) ∙ (sym (asked ys s) ∙ e))

pub outdone_ends : (above : ℤ → Bool) (g : Game) (i : ℕ) (joins : Joins) → ((ys : List Seen) → StandsAt joins i ys → is_outdone above ys ≡ true) → Ends above g i joins
outdone_ends above g i joins outdone ys s = or_right (Settled g i ys) (is_outdone above ys) (outdone ys s)

-- a case may be gone into before all others
pub case_ready : (g : Game) (i : ℕ) (joins : Joins) (xs : List Seen) (had : ℕ) → 0 < had → IsReady g i joins (suc (2 * had)) xs → IsReady g i joins (2 + 2 * (had - 1)) xs
case_ready g i joins xs had some ready = record { stands = ready.stands; unsettled = ready.unsettled; size = ready.size; sizes = ready.sizes; room = omega (arith, ready.room, some) }

module _ (node : Here) (x : ℕ) (vs : Values) (xs : List Seen) (had : ℕ) (old : List Line) (first : Joins) (ready : IsReady node.game node.number first (suc (2 * had)) xs) where
  abbrev Goes : Values → ℕ → List Line → Joins → Type 0
  Goes here left now joins = Passing node x vs xs had old here left now joins

  abbrev Done : ℕ → List Line → Joins → Type 0
  Done left new joins = CasesPut node x vs xs had left old new joins

  pub started : Goes vs had old first
  started = record {
    seen = [];
    progress = start node.cuts node.above node.game (drop node.number node.game.scopes) node.number (demands node.game node.number) node.box node.horizon x vs xs had old;
    told = all_told node.game node.number first xs (xs ++ []) ready.stands (sym (append-nil xs));
  }

  -- a case may be gone into
  pub ready_again : (here : Values) (left : ℕ) (now : List Line) (joins : Joins) (b : Bool) → Answers node.game node.number joins b → b ≡ false → ¬ (left ≡ 0) → (p : Goes here left now joins) → IsReady node.game node.number joins (2 + 2 * (left - 1)) (xs ++ p.seen)
  ready_again here left now joins b asked e some p =
      let r = unsettled_stands node.game node.number joins (xs ++ p.seen) b asked e p.told in
      record {
        stands = r.0;
        unsettled = r.1;
        size = ready.size + 2 * p.progress.used;
        sizes = sizes_both ready.size (2 * p.progress.used) xs p.seen ready.sizes p.progress.sizes;
        room = omega (arith, ready.room, p.progress.fell, some);
      }

  unsettled_now : (joins : Joins) (seen : List Seen) (b : Bool) → Answers node.game node.number joins b → b ≡ false → IsTold node.game node.number joins (xs ++ seen) → Settled node.game node.number seen ≡ false
  unsettled_now joins seen b asked e t =
      let r = (unsettled_stands node.game node.number joins (xs ++ seen) b asked e t).1 in
      (or_parts (Settled node.game node.number xs) (Settled node.game node.number seen) (sym (settled-append (drop node.number node.game.scopes) (list_after node.game (drop node.number node.game.scopes) (demands node.game node.number)) xs seen) ∙ (sym (settled_here node.game node.number (xs ++ seen)) ∙ r))).1

  -- it was gone into, and its lines stay
  went_on : (here rest : Values) (v : ℤ) (left next_left : ℕ) (now next_now : List Line) (joins next_joins : Joins) (b : Bool) → 1 < length (values_left node.box x) → here ≡ v ∷ rest → Answers node.game node.number joins b → b ≡ false → ¬ (left ≡ 0) →
      (p : Goes here left now joins) → CasePut (in_box node (box_to node.box x (v ∷ []))) (xs ++ p.seen) (left - 1) next_left now next_now next_joins → Goes rest next_left next_now next_joins
  went_on here rest v left next_left now next_now joins next_joins b many at asked e some p w = record {
    seen = p.seen ++ w.part.seen;
    progress = taken_from node.cuts node.above node.game (drop node.number node.game.scopes) node.number (demands node.game node.number) node.box node.horizon x vs xs had old here rest v p.seen w.ms w.part.seen left next_left now next_now many at (unsettled_now joins p.seen b asked e p.told) some p.progress w.part.written;
    told = subst (IsTold node.game node.number next_joins) (append_assoc xs p.seen w.part.seen) w.part.told;
  }

  -- it settled the scope, and the cases before it are cut
  was_cut : node.cuts ≡ true → list_all is_number vs ≡ true → (u : Option ℤ) (here rest : Values) (v : ℤ) (left next_left : ℕ) (now next_now new : List Line) (joins next_joins : Joins) (b c : Bool) → 1 < length (values_left node.box x) → is_cover u vs ≡ true → uncovered u vs ≡ v ∷ rest →
      Answers node.game node.number joins b → b ≡ false → ¬ (left ≡ 0) → Answers node.game node.number next_joins c → c ≡ true → (p : Goes here left now joins) → CasePut (in_box node (box_to node.box x (v ∷ []))) (xs ++ p.seen) (left - 1) next_left now next_now next_joins →
      new ≡ take (length old) next_now ++ ((upto_lines u ++ Skip ∷ []) ++ drop (length now) next_now) → Goes rest next_left new next_joins
  was_cut cut numbers u here rest v left next_left now next_now new joins next_joins b c many case leaves asked e turns asked_then f p w q =
      let before = (unsettled_stands node.game node.number joins (xs ++ p.seen) b asked e p.told).1 in
      let all = settled_told node.game node.number next_joins ((xs ++ p.seen) ++ w.part.seen) c asked_then f w.part.told in
      let last : Settled node.game node.number w.part.seen ≡ true = settled_last node.game node.number (xs ++ p.seen) w.part.seen before all.1 in
      record {
        seen = seen_skipped ∷ w.part.seen;
        progress = cut_after node.cuts node.above node.game (drop node.number node.game.scopes) node.number (demands node.game node.number) node.box node.horizon x vs xs had old cut numbers u here rest v p.seen w.ms w.part.seen left next_left now next_now new many case leaves last turns p.progress w.part.written q;
        told = record { stood = w.part.told.stood; stands = w.part.told.stands; same = inr (all.0, settled_then node.game node.number xs (seen_skipped ∷ w.part.seen) last) };
      }

  -- either way
  pub case_done : list_all is_number vs ≡ true → (low : ℤ) (before dropped : Option ℤ) (here rest : Values) (v : ℤ) (left next_left : ℕ) (now next_now new : List Line) (joins next_joins : Joins) (b c : Bool) → 1 < length (values_left node.box x) → here ≡ v ∷ rest →
      ((p : ℤ) → before ≡ Some p → (is_cover (upto_between low p) vs ≡ true) × (uncovered (upto_between low p) vs ≡ here)) → Answers node.game node.number joins b → b ≡ false → ¬ (left ≡ 0) → Answers node.game node.number next_joins c → dropped ≡ cond (node.cuts && c) before None →
      (p : Goes here left now joins) → CasePut (in_box node (box_to node.box x (v ∷ []))) (xs ++ p.seen) (left - 1) next_left now next_now next_joins → new ≡ without_before dropped low (length old) (length now) next_now → Goes rest next_left new next_joins
  case_done numbers low before None here rest v left next_left now next_now new joins next_joins b c many at covers asked e turns asked_then d p w q =
      subst (λ ls. Goes rest next_left ls next_joins) (sym q) (went_on here rest v left next_left now next_now joins next_joins b many at asked e turns p w)
  case_done numbers low before (Some last) here rest v left next_left now next_now new joins next_joins b c many at covers asked e turns asked_then d p w q =
      let f = dropped_only node.cuts c before last d in
      let k = covers last f.2 in
      was_cut f.0 numbers (upto_between low last) here rest v left next_left now next_now new joins next_joins b c many k.0 (k.1 ∙ at) asked e turns asked_then f.1 p w q
    where
      dropped_only : (a c : Bool) (before : Option ℤ) (last : ℤ) → Some last ≡ cond (a && c) before None → (a ≡ true) × (c ≡ true) × (before ≡ Some last)
      dropped_only true true before last d = (refl, refl, sym d)
      dropped_only true false before last d = cc
      dropped_only false c before last d = cc

  -- the cases that are left are skipped, left open, or none
  pub rest_skipped : (here : Values) (left : ℕ) (now new : List Line) (joins : Joins) (b : Bool) → is_none_left here ≡ false → list_all is_number here ≡ true → Answers node.game node.number joins b → b ≡ true → Goes here left now joins → new ≡ now ++ (upto_lines (upto_all here) ++ Skip ∷ []) →
      Done left new joins
  rest_skipped here left now new joins b some numbers asked e p q =
      let all = settled_told node.game node.number joins (xs ++ p.seen) b asked e p.told in
      let last : Settled node.game node.number p.seen ≡ true = settled_last node.game node.number xs p.seen ready.unsettled all.1 in
      let ended = ended_last node.above (drop node.number node.game.scopes) (list_after node.game (drop node.number node.game.scopes) (demands node.game node.number)) xs p.seen last in
      record {
        seen = p.seen ++ seen_skipped ∷ [];
        written = skipped node.cuts node.above node.game (drop node.number node.game.scopes) node.number (demands node.game node.number) node.box node.horizon x vs xs had old here p.seen left now new some numbers ended p.progress q;
        told = record { stood = p.told.stood; stands = p.told.stands; same = inr (all.0, subst (λ us. settled_at node.game node.number us ≡ true) (append_assoc xs p.seen (seen_skipped ∷ [])) (settled_more node.game node.number (xs ++ p.seen) (seen_skipped ∷ []) all.1)) };
      }

  -- they are skipped, since no further leaf counts; the join is told of it
  pub rest_ended : (here : Values) (left : ℕ) (now new : List Line) (joins next_joins : Joins) → is_none_left here ≡ false → list_all is_number here ≡ true → Ends node.above node.game node.number joins → ((ys : List Seen) → StandsAt joins node.number ys → StandsAt next_joins node.number (ys ++ seen_skipped ∷ [])) → Goes here left now joins →
      new ≡ now ++ (upto_lines (upto_all here) ++ Skip ∷ []) → Done left new next_joins
  rest_ended here left now new joins next_joins some numbers ends added p q = record {
    seen = p.seen ++ seen_skipped ∷ [];
    written = skipped node.cuts node.above node.game (drop node.number node.game.scopes) node.number (demands node.game node.number) node.box node.horizon x vs xs had old here p.seen left now new some numbers (ended_told node.above node.game node.number joins (xs ++ p.seen) ends p.told) p.progress q;
    told = subst (IsTold node.game node.number next_joins) (append_assoc xs p.seen (seen_skipped ∷ [])) (told_more node.game node.number joins next_joins (xs ++ p.seen) (seen_skipped ∷ []) added p.told);
  }

  pub rest_opened : (here : Values) (left : ℕ) (now new : List Line) (joins next_joins : Joins) (b : Bool) → is_none_left here ≡ false → list_all is_number here ≡ true → Answers node.game node.number joins b → b ≡ false → left ≡ 0 →
      ((ys : List Seen) → StandsAt joins node.number ys → StandsAt next_joins node.number (ys ++ seen_skipped ∷ [])) → Goes here left now joins → new ≡ now ++ (upto_lines (upto_all here) ++ Open ∷ []) → Done left new next_joins
  rest_opened here left now new joins next_joins b some numbers asked e none_left added p q = record {
    seen = p.seen ++ seen_skipped ∷ [];
    written = opened node.cuts node.above node.game (drop node.number node.game.scopes) node.number (demands node.game node.number) node.box node.horizon x vs xs had old here p.seen left now new some numbers none_left p.progress q;
    told = all_told node.game node.number next_joins ((xs ++ p.seen) ++ seen_skipped ∷ []) (xs ++ (p.seen ++ seen_skipped ∷ [])) (added (xs ++ p.seen) (unsettled_stands node.game node.number joins (xs ++ p.seen) b asked e p.told).0) (append_assoc xs p.seen (seen_skipped ∷ []));
  }

  pub rest_none : (left : ℕ) (now : List Line) (joins : Joins) → Goes [] left now joins → Done left now joins
  rest_none left now joins p = record {
    seen = p.seen;
    written = none node.cuts node.above node.game (drop node.number node.game.scopes) node.number (demands node.game node.number) node.box node.horizon x vs xs had old p.seen left now p.progress;
    told = p.told;
  }

  -- v is the first of the values, and was gone into before all others
  tried_first : (rest : Values) (v : ℤ) (left : ℕ) (new : List Line) (joins : Joins) → 1 < length (values_left node.box x) → vs ≡ v ∷ rest → ¬ (had ≡ 0) → CasePut (in_box node (box_to node.box x (v ∷ []))) xs (had - 1) left old new joins → Goes rest left new joins
  tried_first rest v left new joins many at some w =
      let none_yet : Settled node.game node.number [] ≡ false = refl in
      let part = subst (λ ys. PartWritten node.cuts node.above node.game (drop node.number node.game.scopes) node.number (demands node.game node.number) (box_to node.box x (v ∷ [])) node.horizon ys w.ms w.part.seen (had - 1) left old new) (sym (append-nil xs)) w.part.written in
      record {
        seen = w.part.seen;
        progress = taken_from node.cuts node.above node.game (drop node.number node.game.scopes) node.number (demands node.game node.number) node.box node.horizon x vs xs had old vs rest v [] w.ms w.part.seen had left old new many at none_yet some (start node.cuts node.above node.game (drop node.number node.game.scopes) node.number (demands node.game node.number) node.box node.horizon x vs xs had old) part;
        told = w.part.told;
      }

  -- it isn't, and those before it were skipped: it settles the scope
  tried_later : node.cuts ≡ true → list_all is_number vs ≡ true → (u : Option ℤ) (rest : Values) (v : ℤ) (left : ℕ) (new : List Line) (joins : Joins) (c : Bool) → 1 < length (values_left node.box x) → is_cover u vs ≡ true → uncovered u vs ≡ v ∷ rest → ¬ (had ≡ 0) → Answers node.game node.number joins c → c ≡ true →
      CasePut (in_box node (box_to node.box x (v ∷ []))) xs (had - 1) left (old ++ (upto_lines u ++ Skip ∷ [])) new joins → Goes rest left new joins
  tried_later cut numbers u rest v left new joins c many case leaves some asked f w =
      let all = settled_told node.game node.number joins (xs ++ w.part.seen) c asked f w.part.told in
      let last : Settled node.game node.number w.part.seen ≡ true = settled_last node.game node.number xs w.part.seen ready.unsettled all.1 in
      let part = subst (λ ys. PartWritten node.cuts node.above node.game (drop node.number node.game.scopes) node.number (demands node.game node.number) (box_to node.box x (v ∷ [])) node.horizon ys w.ms w.part.seen (had - 1) left (old ++ (upto_lines u ++ Skip ∷ [])) new) (sym (append-nil xs)) w.part.written in
      record {
        seen = seen_skipped ∷ w.part.seen;
        progress = jump_after node.cuts node.above node.game (drop node.number node.game.scopes) node.number (demands node.game node.number) node.box node.horizon x vs xs had old cut numbers u rest v w.ms w.part.seen left new many case leaves last some part;
        told = record { stood = w.part.told.stood; stands = w.part.told.stands; same = inr (all.0, settled_then node.game node.number xs (seen_skipped ∷ w.part.seen) last) };
      }

  -- either way
  tried_here : node.cuts ≡ true → list_all is_number vs ≡ true → is_ascending vs ≡ true → (low v : ℤ) (before : Option ℤ) (rest : Values) (left : ℕ) (mid new : List Line) (joins : Joins) (c : Bool) → 1 < length (values_left node.box x) → IsFirst vs low → has_value vs v ≡ true → IsPrevious vs v before →
      values_from v vs ≡ v ∷ rest → ¬ (had ≡ 0) → Answers node.game node.number joins c → c ≡ true → mid ≡ old ++ skipped_between (Some low) before → CasePut (in_box node (box_to node.box x (v ∷ []))) xs (had - 1) left mid new joins → Goes rest left new joins
  tried_here cut numbers rises low v None rest left mid new joins c many first has before at some asked f q w =
      tried_first rest v left new joins many (sym before.all ∙ at) some (subst (λ ls. CasePut (in_box node (box_to node.box x (v ∷ []))) xs (had - 1) left ls new joins) (q ∙ append-nil old) w)
  tried_here cut numbers rises low v (Some p) rest left mid new joins c many first has before at some asked f q w =
      let k = covers_before vs low p v rises first has (record { left = before.left; rest = before.after.rest }) in
      tried_later cut numbers (upto_between low p) rest v left new joins c many k.is_case (k.leaves_rest ∙ at) some asked f (subst (λ ls. CasePut (in_box node (box_to node.box x (v ∷ []))) xs (had - 1) left ls new joins) q w)

  -- a case gone into before all others settles the scope, and all others are skipped
  pub case_tried : node.cuts ≡ true → list_all is_number vs ≡ true → is_ascending vs ≡ true → (low v high : ℤ) (before following : Option ℤ) (left : ℕ) (mid new end : List Line) (joins : Joins) (c : Bool) → 1 < length (values_left node.box x) → IsFirst vs low → IsLast vs high → has_value vs v ≡ true →
      IsPrevious vs v before → IsNext vs v following → ¬ (had ≡ 0) → Answers node.game node.number joins c → c ≡ true → mid ≡ old ++ skipped_between (Some low) before → end ≡ new ++ skipped_between following (Some high) → CasePut (in_box node (box_to node.box x (v ∷ []))) xs (had - 1) left mid new joins → Done left end joins
  case_tried cut numbers rises low v high before None left mid new end joins c many first last has previous after some asked f q e w =
      subst (λ ls. Done left ls joins) (sym (e ∙ append-nil new)) (rest_none left new joins (tried_here cut numbers rises low v before [] left mid new joins c many first has previous after some asked f q w))
  case_tried cut numbers rises low v high before (Some n) left mid new end joins c many first last has previous after some asked f q e w =
      let r = rest_of vs n high rises numbers after.left last in
      rest_skipped (values_from n vs) left new end joins c r.some r.numbers asked f (tried_here cut numbers rises low v before (values_from n vs) left mid new joins c many first has previous after.rest some asked f q w)
      (e ∙ ap (λ o. new ++ (upto_lines o ++ Skip ∷ [])) (sym r.upto))

  -- the values before v were skipped, and the join was told of it: its case may be gone into
  pub ready_behind : (low before : Option ℤ) (joins : Joins) → ((ys : List Seen) → StandsAt first node.number ys → StandsAt joins node.number (ys ++ seen_between low before)) → 0 < had → IsReady node.game node.number joins (2 + 2 * (had - 1)) (xs ++ seen_between low before)
  ready_behind low before joins added some =
      let later = drop node.number node.game.scopes in
      let more = seen_between low before in
      record {
        stands = added xs ready.stands;
        unsettled = settled_here node.game node.number (xs ++ more) ∙ (settled-append later (list_after node.game later (demands node.game node.number)) xs more ∙ or_from (Settled node.game node.number xs) (Settled node.game node.number more) (sym (settled_here node.game node.number xs) ∙ ready.unsettled) (not_settled low before));
        size = ready.size + 0;
        sizes = sizes_both ready.size 0 xs more ready.sizes (small low before);
        room = omega (arith, ready.room, some);
      }
    where
      not_settled : (low before : Option ℤ) → Settled node.game node.number (seen_between low before) ≡ false
      not_settled None q = refl
      not_settled (Some p) None = refl
      not_settled (Some p) (Some q) = refl

      small : (low before : Option ℤ) → HasSizes 0 (seen_between low before)
      small None q = sizes_none 0
      small (Some p) None = sizes_none 0
      small (Some p) (Some q) = sizes_skipped 0

  -- it was gone into, and no further leaf counts
  tried_behind : node.cuts ≡ true → list_all is_number vs ≡ true → is_ascending vs ≡ true → (low v : ℤ) (before : Option ℤ) (rest : Values) (left : ℕ) (mid new : List Line) (joins : Joins) → 1 < length (values_left node.box x) → IsFirst vs low → has_value vs v ≡ true → IsPrevious vs v before →
      values_from v vs ≡ v ∷ rest → ¬ (had ≡ 0) → Ends node.above node.game node.number joins → mid ≡ old ++ skipped_between (Some low) before → CasePut (in_box node (box_to node.box x (v ∷ []))) (xs ++ seen_between (Some low) before) (had - 1) left mid new joins → Goes rest left new joins
  tried_behind cut numbers rises low v None rest left mid new joins many first has before at some ends q w =
      tried_first rest v left new joins many (sym before.all ∙ at) some
      (subst (λ ys. CasePut (in_box node (box_to node.box x (v ∷ []))) ys (had - 1) left old new joins) (append-nil xs) (subst (λ ls. CasePut (in_box node (box_to node.box x (v ∷ []))) (xs ++ []) (had - 1) left ls new joins) (q ∙ append-nil old) w))
  tried_behind cut numbers rises low v (Some p) rest left mid new joins many first has before at some ends q w =
      let k = covers_before vs low p v rises first has (record { left = before.left; rest = before.after.rest }) in
      let behind = xs ++ seen_skipped ∷ [] in
      let all : behind ++ w.part.seen ≡ xs ++ seen_skipped ∷ w.part.seen = append_assoc xs (seen_skipped ∷ []) w.part.seen in
      let ended = subst (λ ys. is_ended node.above (drop node.number node.game.scopes) (list_after node.game (drop node.number node.game.scopes) (demands node.game node.number)) ys ≡ true) all (ended_told node.above node.game node.number joins (behind ++ w.part.seen) ends w.part.told) in
      let part = subst (λ ls. PartWritten node.cuts node.above node.game (drop node.number node.game.scopes) node.number (demands node.game node.number) (box_to node.box x (v ∷ [])) node.horizon behind w.ms w.part.seen (had - 1) left ls new) q w.part.written in
      record {
        seen = seen_skipped ∷ w.part.seen;
        progress = jump_behind node.cuts node.above node.game (drop node.number node.game.scopes) node.number (demands node.game node.number) node.box node.horizon x vs xs had old cut numbers (upto_between low p) rest v w.ms w.part.seen left new many k.is_case (k.leaves_rest ∙ at) ended some part;
        told = subst (IsTold node.game node.number joins) all w.part.told;
      }

  -- then all others are skipped
  pub case_behind : node.cuts ≡ true → list_all is_number vs ≡ true → is_ascending vs ≡ true → (low v high : ℤ) (before following : Option ℤ) (left : ℕ) (mid new end : List Line) (joins next_joins : Joins) → 1 < length (values_left node.box x) → IsFirst vs low → IsLast vs high → has_value vs v ≡ true →
      IsPrevious vs v before → IsNext vs v following → ¬ (had ≡ 0) → Ends node.above node.game node.number joins → ((ys : List Seen) → StandsAt joins node.number ys → StandsAt next_joins node.number (ys ++ seen_between following (Some high))) → mid ≡ old ++ skipped_between (Some low) before → end ≡ new ++ skipped_between following (Some high) →
      CasePut (in_box node (box_to node.box x (v ∷ []))) (xs ++ seen_between (Some low) before) (had - 1) left mid new joins → Done left end next_joins
  case_behind cut numbers rises low v high before None left mid new end joins next_joins many first last has previous after some ends added q e w =
      let p = tried_behind cut numbers rises low v before [] left mid new joins many first has previous after some ends q w in
      subst (λ ls. Done left ls next_joins) (sym (e ∙ append-nil new))
      (rest_none left new next_joins (record { seen = p.seen; progress = p.progress; told = subst (IsTold node.game node.number next_joins) (append-nil (xs ++ p.seen)) (told_more node.game node.number joins next_joins (xs ++ p.seen) [] added p.told) }))
  case_behind cut numbers rises low v high before (Some n) left mid new end joins next_joins many first last has previous after some ends added q e w =
      let r = rest_of vs n high rises numbers after.left last in
      rest_ended (values_from n vs) left new end joins next_joins r.some r.numbers ends added (tried_behind cut numbers rises low v before (values_from n vs) left mid new joins many first has previous after.rest some ends q w)
      (e ∙ ap (λ o. new ++ (upto_lines o ++ Skip ∷ [])) (sym r.upto))

-- the parts of a scope's own tree
module _ (node : Here) (xs : List Seen) (had : ℕ) (old : List Line) (first : Joins) (ready : IsReady node.game node.number first (suc (2 * had)) xs) where
  pub empty_told : (new : List Line) → has_empty node.box ≡ true → new ≡ old ++ Empty ∷ [] → EndingPut node xs had had old new first
  empty_told new none_left q = record {
    seen = [];
    written = record { ending = empty; lines = q; made = empty_made node.cuts node.above node.game (drop node.number node.game.scopes) node.number (demands node.game node.number) node.horizon node.box xs had none_left };
    told = all_told node.game node.number first xs (xs ++ []) ready.stands (sym (append-nil xs));
  }

  pub barred_told : (new : List Line) (joins : Joins) → has_empty node.box ≡ false → is_fixed node.game node.number node.box ≡ true → allows node.game node.number (position node.game (suc node.number) node.box) ≡ false → ((ys : List Seen) → StandsAt first node.number ys → StandsAt joins node.number (ys ++ seen_barred ∷ [])) → new ≡ old ++ Barred ∷ [] →
      EndingPut node xs had had old new joins
  barred_told new joins full fixed refused added q = record {
    seen = seen_barred ∷ [];
    written = record { ending = barred; lines = q; made = barred_made node.cuts node.above node.game (drop node.number node.game.scopes) node.number (demands node.game node.number) node.horizon node.box xs had full fixed refused };
    told = all_told node.game node.number joins (xs ++ seen_barred ∷ []) (xs ++ seen_barred ∷ []) (added xs ready.stands) refl;
  }

  -- so many turns that the node's join takes what is below
  pub few_turns : had < 2147483648
  few_turns = omega (arith, ready.room)

  pub next_told : node.number < length node.game.scopes → (v : Verdict) (left : ℕ) (mid new : List Line) (below joins : Joins) → has_empty node.box ≡ false → is_fixed node.game node.number node.box ≡ true → allows node.game node.number (position node.game (suc node.number) node.box) ≡ true → has_no_worse (tracked_at node.game node.number) (firsts xs) node.box ≡ true → mid ≡ old ++ Next ∷ [] →
      NodeWritten node.cuts (above_at node.game (suc node.number) xs) node.game (drop (suc node.number) node.game.scopes) (suc node.number) (demands node.game (suc node.number)) node.box node.horizon v had left mid new → (StandsAt first node.number xs → StandsAt below node.number xs) → ((ys : List Seen) → StandsAt below node.number ys → LeafFits node.game node.number ys v → StandsAt joins node.number (ys ++ seen_node v ∷ [])) → EndingPut node xs had left old new joins
  next_told scope v left mid new below joins full fixed passes worse q n kept added =
      let m1 = subst (λ ss. NodeMade node.cuts (above_at node.game (suc node.number) xs) node.game ss (suc node.number) (demands node.game (suc node.number)) node.box node.horizon v had left n.tree) (sym (next_at node.number node.game.scopes)) n.made in
      let m2 = subst (λ d. NodeMade node.cuts (above_at node.game (suc node.number) xs) node.game (next_scopes (drop node.number node.game.scopes)) (suc node.number) d node.box node.horizon v had left n.tree) (sym (demands_next node.game node.game.scopes node.number [] scope)) m1 in
      let fits = leaf_fits node.game node.number ready.size (suc (2 * turns_of n.tree)) xs v n.made.long ready.sizes n.made.sized (omega (arith, ready.room, n.made.spent)) in
      record {
        seen = seen_node v ∷ [];
        written = record {
          ending = next n.tree;
          lines = n.lines ∙ (ap (λ ls. ls ++ tree_lines n.tree) q ∙ append_assoc old (Next ∷ []) (tree_lines n.tree));
          made = next_made node.cuts node.above node.game (drop node.number node.game.scopes) node.number (demands node.game node.number) node.horizon node.box xs v had left n.tree full fixed passes worse m2;
        };
        told = all_told node.game node.number joins (xs ++ seen_node v ∷ []) (xs ++ seen_node v ∷ []) (added xs (kept ready.stands) fits) refl;
      }

-- what was told stays so where the turns, the lines and the joins do
pub ending_kept : (node : Here) (xs : List Seen) (had left last : ℕ) (old mid new : List Line) (a b : Joins) → last ≡ left → new ≡ mid → b ≡ a → EndingPut node xs had left old mid a → EndingPut node xs had last old new b
ending_kept node xs had left last old mid new a b same lines joins told =
    subst (λ n. EndingPut node xs had n old new b) (sym same)
    (subst (λ ls. EndingPut node xs had left old ls b) (sym lines)
    (subst (λ (js : Joins). EndingPut node xs had left old mid js) (sym joins) told))

-- removals by constraints alone
pruned_made : (g : Game) (i : ℕ) (d : List Condition) (box left : Box) (steps : List Step) → IsPruned g i box left [] steps → StepsMade g (drop i g.scopes) i d box [] steps
pruned_made g i d box left steps p =
    let later = drop i g.scopes in
    subst (λ (ss : List Step). StepsMade g later i d box [] ss) (sym p.appended) (record { legal = p.placed d; marked = sym (p.unmarked (tracked_variable g later i (list_after g later d))); fits = p.fits })

-- so where a scope's own tree begins
pub pruned_told : (g : Game) (i : ℕ) (box left : Box) (steps : List Step) → IsPruned g i box left [] steps → StepsTold g i box left [] [] steps
pruned_told g i box left steps p = record {
  reached = p.reached ∙ ap (λ ss. after_steps ss box) (sym p.appended);
  stepped = pruned_made g i (demands g i) box left steps p;
  beaten = refl;
  one = sizes_none 1;
  worse = no_worse_yet (tracked_at g i) left;
}

pub stepped_told : (node : Here) (left_box : Box) (xs : List Seen) (ms : List ℤ) (had left : ℕ) (old mid new : List Line) (joins : Joins) (steps : List Step) → left_box ≡ after_steps steps node.box → StepsMade node.game (drop node.number node.game.scopes) node.number (demands node.game node.number) node.box ms steps → HasSizes 1 (seen_bounds ms) →
    mid ≡ old ++ map step_line steps → EndingPut (in_box node left_box) (xs ++ seen_bounds ms) had left mid new joins → BoundedPut node xs ms had left old new joins
stepped_told node left_box xs ms had left old mid new joins steps reached stepped one q w =
    let e = w.written.ending in
    record {
      seen = seen_bounds ms ++ w.seen;
      written = record {
        steps = steps;
        ending = e;
        lines = w.written.lines ∙ (ap (λ ls. ls ++ ending_lines e) q ∙ append_assoc old (map step_line steps) (ending_lines e));
        made = record {
          last = w.seen;
          both = refl;
          stepped = stepped;
          one = one;
          ended = subst (λ b. EndingMade node.cuts node.above node.game (drop node.number node.game.scopes) node.number (demands node.game node.number) b node.horizon (xs ++ seen_bounds ms) w.seen had left e) reached w.written.made;
        };
      };
      told = subst (IsTold node.game node.number joins) (append_assoc xs (seen_bounds ms) w.seen) w.told;
    }

pub bounded_told : (node : Here) (left_box : Box) (xs : List Seen) (ms : List ℤ) (had left : ℕ) (old mid new : List Line) (joins : Joins) (steps : List Step) → BoundedSteps node.game node.number node.box left_box xs ms steps → mid ≡ old ++ map step_line steps →
    EndingPut (in_box node left_box) (xs ++ seen_bounds ms) had left mid new joins → BoundedPut node xs ms had left old new joins
bounded_told node left_box xs ms had left old mid new joins steps p q w = stepped_told node left_box xs ms had left old mid new joins steps p.reached p.stepped p.one q w

-- what beats the marks is one thing more
pub bare_steps : (g : Game) (i : ℕ) (box left : Box) (xs : List Seen) (ms : List ℤ) (steps : List Step) → StepsTold g i box left xs ms steps → BoundedSteps g i box left xs ms steps
bare_steps g i box left xs ms steps p = record { reached = p.reached; stepped = p.stepped; one = p.one; worse = p.worse }

pub part_told : (node : Here) (left_box : Box) (xs : List Seen) (ms : List ℤ) (had left : ℕ) (old new : List Line) (joins : Joins) (steps : List Step) → StepsTold node.game node.number node.box left_box xs ms steps → BoundedPut node xs ms had left old new joins → PartPut node xs ms had left old new joins
part_told node left_box xs ms had left old new joins steps p w =
    let m = w.written.made in
    record {
      seen = w.seen;
      written = record {
        steps = w.written.steps;
        ending = w.written.ending;
        lines = w.written.lines;
        made = record { last = m.last; both = m.both; stepped = m.stepped; marks_beaten = p.beaten; one = m.one; ended = m.ended };
      };
      told = w.told;
    }

-- more turns may have been done, whose lines were taken back
pub part_more : (node : Here) (xs : List Seen) (ms : List ℤ) (had more left : ℕ) (old new : List Line) (joins : Joins) → node.cuts ≡ true → had ≤ more → PartPut node xs ms had left old new joins → PartPut node xs ms more left old new joins
part_more node xs ms had more left old new joins cut l w =
    let p = w.written.made in
    record {
      seen = w.seen;
      written = record {
        steps = w.written.steps;
        ending = w.written.ending;
        lines = w.written.lines;
        made = record {
          last = p.last;
          both = p.both;
          stepped = p.stepped;
          marks_beaten = p.marks_beaten;
          one = p.one;
          ended = ending_more node.cuts node.above node.game (drop node.number node.game.scopes) node.number (demands node.game node.number) (after_steps w.written.steps node.box) node.horizon (xs ++ seen_bounds ms) p.last had more left w.written.ending cut l p.ended;
        };
      };
      told = w.told;
    }

-- a branch on x may stand here
pub record MayBranch (node : Here) (x : VarId) : Type 0 where
  pub full : has_empty node.box ≡ false
  pub own : is_of_scope node.game node.number x.0 ≡ true
  pub many : is_single (values_left node.box x.0) ≡ false
  pub place : is_place 500 x.0 ≡ true
  pub closed : is_closed (constraints_in_force node.game (drop node.number node.game.scopes) node.number) node.box ≡ true
  pub earlier : is_fixed_to node.game node.number x.0 node.box ≡ true

-- a branch, by its cases
pub branch_told : (node : Here) (xs : List Seen) (had left : ℕ) (old mid new last : List Line) (joins : Joins) (x : VarId) → MayBranch node x → has_no_worse (tracked_at node.game node.number) (firsts xs) node.box ≡ true → mid ≡ old ++ BranchLine x ∷ [] → last ≡ new ++ Dot ∷ [] →
    CasesPut node x.0 (values_left node.box x.0) xs had left mid new joins → EndingPut node xs had left old last joins
branch_told node xs had left old mid new last joins x may worse p q w = record {
  seen = w.seen;
  written = record {
    ending = branch x w.written.cases;
    lines = q ∙ (ap (λ ls. ls ++ Dot ∷ []) (w.written.lines ∙ ap (λ ls. ls ++ branches_lines w.written.cases) p) ∙ around old (branches_lines w.written.cases) (BranchLine x) Dot);
    made = branch_made node.cuts node.above node.game (drop node.number node.game.scopes) node.number (demands node.game node.number) node.horizon node.box x xs w.seen had left w.written.cases may.full may.own may.many may.place may.closed may.earlier worse w.written.made;
  };
  told = w.told;
}
  where
    around : (old ls : List Line) (first last : Line) → ((old ++ first ∷ []) ++ ls) ++ last ∷ [] ≡ old ++ (first ∷ (ls ++ last ∷ []))
    around old ls first last = ap (λ us. us ++ last ∷ []) (append_assoc old (first ∷ []) ls) ∙ append_assoc old (first ∷ ls) (last ∷ [])

-- a node, by its own tree
module _ (node : Here) (scope : node.number < length node.game.scopes) where
  -- what the join's answers say of what was seen
  verdict_told : (joins : Joins) (seen : List Seen) (t : IsTold node.game node.number joins seen) (a : List ℤ) → verdict_at node.game node.number a t.stood ≡ verdict_at node.game node.number a seen
  verdict_told joins seen t a = by t.same
    where
      by : ((t.stood ≡ seen) ⊎ ((settled_at node.game node.number t.stood ≡ true) × (settled_at node.game node.number seen ≡ true))) → verdict_at node.game node.number a t.stood ≡ verdict_at node.game node.number a seen
      by (inl q) = ap (verdict_at node.game node.number a) q
      by (inr q) =
          settled_is node.game (drop node.number node.game.scopes) (demands node.game node.number) a t.stood (sym (settled_here node.game node.number t.stood) ∙ q.0)
          ∙ sym (settled_is node.game (drop node.number node.game.scopes) (demands node.game node.number) a seen (sym (settled_here node.game node.number seen) ∙ q.1))

  own_told : (joins : Joins) (seen : List Seen) (t : IsTold node.game node.number joins seen) → own_at node.game node.number seen ≡ own_at node.game node.number t.stood
  own_told joins seen t = by t.same
    where
      by : ((t.stood ≡ seen) ⊎ ((settled_at node.game node.number t.stood ≡ true) × (settled_at node.game node.number seen ≡ true))) → own_at node.game node.number seen ≡ own_at node.game node.number t.stood
      by (inl q) = ap (own_at node.game node.number) (sym q)
      by (inr q) =
          own_none node.game (drop node.number node.game.scopes) (demands node.game node.number) seen (sym (settled_here node.game node.number seen) ∙ q.1)
          ∙ sym (own_none node.game (drop node.number node.game.scopes) (demands node.game node.number) t.stood (sym (settled_here node.game node.number t.stood) ∙ q.0))

  node_told : is_horizon node.horizon node.number ≡ false → Outdoes node.game (drop node.number node.game.scopes) (demands node.game node.number) node.above → SeesAhead node.game (drop node.number node.game.scopes) node.number node.box node.horizon → (had left : ℕ) (old new : List Line) (mid joins : Joins) (v : Verdict) (ms : List ℤ) → (w : BoundedPut node [] ms had left old new mid) → verdict_at node.game node.number (position node.game node.number node.box) w.seen ≡ v →
      (ending_opens w.written.ending ≡ 0 → is_vague_verdict node.above v ≡ false) → ((xs : List Seen) → StandsAt mid node.number xs → StandsAt joins node.number xs) → IsLong node.game node.number v → IsSized (suc (2 * ending_turns w.written.ending)) v → IsOwnSized (suc (2 * ending_turns w.written.ending)) (own_at node.game node.number w.seen) → BodyPut node v had left old new joins
  node_told apart outdoes ahead had left old new mid joins v ms w comes sure kept long sized own_small =
      let later = drop node.number node.game.scopes in
      let d = demands node.game node.number in
      let p = w.written.made in
      let steps = w.written.steps in
      let e = w.written.ending in
      let own : (read_body node.game (cases steps e) later node.number d node.box).own ≡ own_at node.game node.number w.seen =
      own_so node.game later node.number d (position node.game node.number node.box) _ ∙ ap (scope_own later node.game d) (sym (bounded_says node.cuts node.above node.game later node.number d node.box node.horizon [] ms w.seen had left steps e p)) in
      record {
        body = cases steps e;
        lines = w.written.lines;
        made = node_made node.cuts node.above node.game later node.number d node.horizon (some_scope node.number node.game.scopes scope) (demands_next node.game node.game.scopes node.number [] scope) apart outdoes node.box ms w.seen v had left steps e p comes sure long sized (subst (IsOwnSized (suc (2 * ending_turns e))) (sym own) own_small) ahead;
        own = λ s. record { stood = w.told.stood; stands = kept w.told.stood w.told.stands; is_own = own ∙ own_told mid w.seen w.told };
      }

  -- by what its join answers
  comes_to : (had left : ℕ) (old new : List Line) (mid : Joins) (v : Verdict) (ms : List ℤ) → ((xs : List Seen) → StandsAt mid node.number xs → v ≡ verdict_at node.game node.number (position node.game node.number node.box) xs) → (w : BoundedPut node [] ms had left old new mid) → verdict_at node.game node.number (position node.game node.number node.box) w.seen ≡ v
  comes_to had left old new mid v ms says w = sym (verdict_told mid w.seen w.told (position node.game node.number node.box)) ∙ sym (says w.told.stood w.told.stands)

  pub part_ended : IsValid node.game → list_all is_number (position node.game node.number node.box) ≡ true → is_horizon node.horizon node.number ≡ false → Outdoes node.game (drop node.number node.game.scopes) (demands node.game node.number) node.above → SeesAhead node.game (drop node.number node.game.scopes) node.number node.box node.horizon → (had left : ℕ) (old new : List Line) (mid joins : Joins) (v : Verdict) → PartPut node [] [] had left old new mid →
      ((xs : List Seen) → StandsAt mid node.number xs → v ≡ verdict_at node.game node.number (position node.game node.number node.box) xs) → ((xs : List Seen) → StandsAt mid node.number xs → StandsAt joins node.number xs) → BodyPut node v had left old new joins
  part_ended valid numbers apart outdoes ahead had left old new mid joins v w says kept =
      let later = drop node.number node.game.scopes in
      let d = demands node.game node.number in
      let a = position node.game node.number node.box in
      let p = w.written.made in
      let steps = w.written.steps in
      let e = w.written.ending in
      let n = suc (2 * ending_turns e) in
      let u : BoundedPut node [] [] had left old new mid = record {
        seen = w.seen;
        written = record { steps = steps; ending = e; lines = w.written.lines; made = bare_part node.cuts node.above node.game later node.number d node.box node.horizon [] [] w.seen had left steps e p };
        told = w.told;
      } in
      let comes : verdict_at node.game node.number a w.seen ≡ v = comes_to had left old new mid v [] says u in
      let sizes = subst (HasSizes n) (sym p.both) p.ended.sizes in
      let sure = part_known node.cuts node.above node.game later node.number d node.horizon (some_scope node.number node.game.scopes scope) (demands_next node.game node.game.scopes node.number [] scope) outdoes node.box w.seen v had left steps e p comes in
      node_told apart outdoes ahead had left old new mid joins v [] u comes sure kept (subst (IsLong node.game node.number) comes (verdict_long node.game node.number a w.seen scope (part_long node.cuts node.above node.game later node.number d node.box node.horizon [] [] w.seen had left steps e p)))
      (subst (IsSized n) comes (verdict_sized node.game node.number a w.seen n valid numbers sizes (omega arith))) (own_sized node.game later d n w.seen sizes)

  -- so where it is sure what the node comes to: then the marks change nothing
  pub first_ended : IsValid node.game → list_all is_number (position node.game node.number node.box) ≡ true → is_horizon node.horizon node.number ≡ false → Outdoes node.game (drop node.number node.game.scopes) (demands node.game node.number) node.above → SeesAhead node.game (drop node.number node.game.scopes) node.number node.box node.horizon → (had left : ℕ) (old new : List Line) (mid joins : Joins) (v : Verdict) (ms : List ℤ) → BoundedPut node [] ms had left old new mid →
      is_vague_verdict beats_none v ≡ false → ((xs : List Seen) → StandsAt mid node.number xs → v ≡ verdict_at node.game node.number (position node.game node.number node.box) xs) → ((xs : List Seen) → StandsAt mid node.number xs → StandsAt joins node.number xs) → BodyPut node v had left old new joins
  first_ended valid numbers apart outdoes ahead had left old new mid joins v ms w sure says kept =
      let later = drop node.number node.game.scopes in
      let d = demands node.game node.number in
      let a = position node.game node.number node.box in
      let p = w.written.made in
      let e = w.written.ending in
      let n = suc (2 * ending_turns e) in
      let comes : verdict_at node.game node.number a w.seen ≡ v = comes_to had left old new mid v ms says w in
      let with_marks : verdict_at node.game node.number a (seen_bounds ms ++ p.last) ≡ v = ap (verdict_at node.game node.number a) (sym p.both) ∙ comes in
      let without : verdict_at node.game node.number a p.last ≡ v = without_marks node.game later d a ms p.last (ap (is_vague_verdict beats_none) with_marks ∙ sure) ∙ with_marks in
      node_told apart outdoes ahead had left old new mid joins v ms w comes (λ o. sure_anyway node.above v sure) kept (subst (IsLong node.game node.number) comes (verdict_long node.game node.number a w.seen scope (bounded_long node.cuts node.above node.game later node.number d node.box node.horizon [] ms w.seen had left w.written.steps e p)))
      (subst (IsSized n) without (verdict_sized node.game node.number a p.last n valid numbers p.ended.sizes (omega arith))) (own_sized_as node.game later d n w.seen p.last (ap exact_vectors p.both ∙ vectors_marks ms p.last) p.ended.sizes)

settled_none : (g : Game) (i : ℕ) → settled_at g i [] ≡ false
settled_none g i = settled_here g i []

-- the node's own tree begins with nothing seen
pub ready_first : (g : Game) (i had : ℕ) (joins : Joins) → StandsAt joins i [] → had < 2147483648 → IsReady g i joins (suc (2 * had)) []
ready_first g i had joins stands few = record { stands = stands; unsettled = settled_none g i; size = 0; sizes = sizes_none 0; room = omega (arith, few) }

-- more turns may have been done, whose lines were taken back
pub body_done : (node : Here) (v : Verdict) (had more left : ℕ) (old new : List Line) (joins : Joins) → node.cuts ≡ true → had ≤ more → BodyPut node v had left old new joins → BodyPut node v more left old new joins
body_done node v had more left old new joins cut l w = record {
  body = w.body;
  lines = w.lines;
  made = more_done node.cuts node.above node.game (drop node.number node.game.scopes) node.number (demands node.game node.number) node.box node.horizon v had more left (tree None w.body) cut l w.made;
  own = w.own;
}

-- the part after a first bound may begin
pub ready_bounded : (g : Game) (i had : ℕ) (joins : Joins) (ms : List ℤ) → StandsAt joins i (seen_bounds ms) → HasSizes 1 (seen_bounds ms) → had < 2147483648 → IsReady g i joins (suc (2 * had)) (seen_bounds ms)
ready_bounded g i had joins ms stands one few = record {
  stands = stands;
  unsettled = settled_here g i (seen_bounds ms) ∙ unsettled_marks g i ms;
  size = 1;
  sizes = one;
  room = omega (arith, few);
}
  where
    unsettled_marks : (g : Game) (i : ℕ) (ms : List ℤ) → is_settled (drop i g.scopes) (list_after g (drop i g.scopes) (demands g i)) (seen_bounds ms) ≡ false
    unsettled_marks g i [] = refl
    unsettled_marks g i (m ∷ ms) = unsettled_marks g i ms

-- a node that nobody passes
stuck_so : (later : List Scope) (g : Game) (d : List Condition) (a : List ℤ) → (stuck_finding later g d a).verdict ≡ stuck_of later g d a
stuck_so [] g d a = refl
stuck_so (s ∷ later) g d a = by s.kind
  where
    by : (k : Kind) → (kind_stuck k g d a).verdict ≡ stuck_verdict g k d a
    by Exists = refl
    by Forall = refl

stuck_sure : (above : ℤ → Bool) (later : List Scope) (g : Game) (d : List Condition) (a : List ℤ) → is_vague_verdict above (stuck_of later g d a) ≡ false
stuck_sure above [] g d a = refl
stuck_sure above (s ∷ later) g d a = by s.kind
  where
    by : (k : Kind) → is_vague_verdict above (stuck_verdict g k d a) ≡ false
    by Exists = refl
    by Forall = refl

own_of_none : (later : List Scope) (g : Game) (d : List Condition) → scope_own later g d [] ≡ None
own_of_none [] g d = refl
own_of_none (s ∷ later) g d = by s.kind s.condition
  where
    none : (c : Condition) (dd : List Condition) → exists_own (Some c) dd [] ≡ None
    none c [] = refl
    none c (e ∷ dd) = refl

    by : (k : Kind) (own : Option Condition) → kind_own k own g d [] ≡ None
    by Exists None = refl
    by Exists (Some c) = none c (demands_after g Exists (Some c) d)
    by Forall own = refl

pub stuck_told : (node : Here) → IsValid node.game → list_all is_number (position node.game node.number node.box) ≡ true → is_horizon node.horizon node.number ≡ true → (had : ℕ) (old new : List Line) (joins : Joins) (v : Verdict) → v ≡ stuck_of (drop node.number node.game.scopes) node.game (demands node.game node.number) (position node.game node.number node.box) →
    new ≡ old ++ StuckLine ∷ [] → (node.number < length node.game.scopes → StandsAt joins node.number []) → BodyPut node v had had old new joins
stuck_told node valid numbers f had old new joins v e q stands =
    let g = node.game in
    let i = node.number in
    let later = drop i g.scopes in
    let d = demands g i in
    let a = position g i node.box in
    let own = stuck_own later g d a in
    record {
      body = stuck;
      lines = q;
      made = stuck_made node.cuts node.above g later i d node.horizon node.box v had f (ap (is_vague_verdict node.above) e ∙ stuck_sure node.above later g d a) (stuck_so later g d a ∙ sym e) (subst (IsLong g i) (sym e) (stuck_long later g d a)) (subst (IsSized 1) (sym e) (stuck_sized later g d a valid numbers))
          (subst (IsOwnSized 1) (sym own) tt);
      own = λ s. record { stood = []; stands = stands s; is_own = own ∙ sym (own_of_none later g d) };
    }

-- so where the scope right above beats more
pub body_more : (node : Here) (more : ℤ → Bool) (v : Verdict) (had left : ℕ) (old new : List Line) (joins : Joins) → ((n : ℤ) → node.above n ≡ true → more n ≡ true) → BodyPut node v had left old new joins → BodyPut (with_above node more) v had left old new joins
body_more node more v had left old new joins f w = record {
  body = w.body;
  lines = w.lines;
  made = more_beaten node.cuts node.above more node.game (drop node.number node.game.scopes) node.number (demands node.game node.number) node.box node.horizon v had left (tree None w.body) f w.made;
  own = w.own;
}

-- what stands at a node, below a horizon that begins there or not
pub whole_node : (node : Here) (below : Option ℕ) (z : Option Horizon) (v : Verdict) (had left : ℕ) (old mid new : List Line) (joins : Joins) → horizon_in_place node.game z (drop node.number node.game.scopes) node.number node.box node.horizon ≡ true → horizon_fits z ≡ true → below ≡ horizon_below z node.horizon →
    mid ≡ old ++ horizon_lines z → BodyPut (at_horizon node below) v had left mid new joins → NodePut node v had left old new joins
whole_node node below z v had left old mid new joins place fits e q w =
    let later = drop node.number node.game.scopes in
    let d = demands node.game node.number in
    record {
      written = record {
        tree = tree z w.body;
        lines = w.lines ∙ (ap (λ ls. ls ++ body_lines w.body) q ∙ append_assoc old (horizon_lines z) (body_lines w.body));
        made = horizon_made node.cuts node.above node.game later node.number d node.horizon z w.body node.box v had left place fits (subst (λ k. NodeMade node.cuts node.above node.game later node.number d node.box k v had left (tree None w.body)) e w.made);
      };
      own = w.own;
    }

-- the same without one
pub plain_node : (node : Here) (v : Verdict) (had left : ℕ) (old new : List Line) (joins : Joins) → BodyPut node v had left old new joins → NodePut node v had left old new joins
plain_node node v had left old new joins w = whole_node node node.horizon None v had left old old new joins refl refl refl (sym (append-nil old)) w

-- the goal, at the number that follows the last scope
goal_told : (node : Here) → node.number ≡ length node.game.scopes → IsValid node.game → list_all is_number (position node.game node.number node.box) ≡ true → is_horizon node.horizon node.number ≡ false → (had : ℕ) (old new : List Line) (joins : Joins) (v : Verdict) (b : Bool) → b ≡ allows node.game node.number (position node.game node.number node.box) →
    v ≡ goal_verdict node.game b (demands node.game node.number) (position node.game node.number node.box) → new ≡ old ++ GoalLine ∷ [] → BodyPut node v had had old new joins
goal_told node here valid numbers apart had old new joins v b e f q =
    let g = node.game in
    let n = node.number in
    let d = demands g n in
    let a = position g n node.box in
    let comes : goal_verdict g (allows g n a) d a ≡ v = ap (λ c. goal_verdict g c d a) (sym e) ∙ sym f in
    let m = goal_made node.cuts node.above g n d node.box node.horizon had v apart comes (subst (IsLong g n) (sym f) (goal_long g b d a)) (subst (IsSized 1) (sym f) (goal_sized g b d a valid numbers)) in
    record {
      body = goal;
      lines = q;
      made = subst (λ ss. NodeMade node.cuts node.above g ss n d node.box node.horizon v had had (tree None goal)) (sym (drop_of_length-le g.scopes (omega (arith, here)))) m;
      own = λ s. absurd (omega (arith, here, s));
    }

-- the goal, with its values
pub goal_there : (node : Here) → node.number ≡ length node.game.scopes → IsValid node.game → list_all is_number (position node.game node.number node.box) ≡ true → is_horizon node.horizon node.number ≡ false → (had : ℕ) (old new : List Line) (joins : Joins) (v : Verdict) (b : Bool) →
    b ≡ allows node.game (length node.game.scopes) (position node.game (length node.game.scopes) node.box) → v ≡ goal_verdict node.game b (demands node.game (length node.game.scopes)) (position node.game (length node.game.scopes) node.box) → new ≡ old ++ GoalLine ∷ [] → NodePut node v had had old new joins
goal_there node here valid numbers apart had old new joins v b e f q =
    let g = node.game in
    plain_node node v had had old new joins
    (goal_told node here valid numbers apart had old new joins v b (subst (λ k. b ≡ allows g k (position g k node.box)) (sym here) e) (subst (λ k. v ≡ goal_verdict g b (demands g k) (position g k node.box)) (sym here) f) q)

-- or below a horizon that tells that it isn't passed
pub lost_there : (node : Here) → node.number ≡ length node.game.scopes → IsValid node.game → list_all is_number (position node.game node.number node.box) ≡ true → is_horizon node.horizon node.number ≡ true → (had : ℕ) (old new : List Line) (joins : Joins) → new ≡ old ++ StuckLine ∷ [] → NodePut node lost had had old new joins
lost_there node here valid numbers f had old new joins q =
    let g = node.game in
    let n = node.number in
    plain_node node lost had had old new joins
    (stuck_told node valid numbers f had old new joins lost (sym (ap (λ ss. stuck_of ss g (demands g n) (position g n node.box)) (drop_of_length-le g.scopes (omega (arith, here))))) q (λ s. absurd (omega (arith, here, s))))
