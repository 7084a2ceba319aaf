-- The cases of a branch: what holds where one was gone into, or all that are left are left out.
use Rattle.std.proofs.Common.{◌≡◌, ◌<◌, ◌+◌, ◌-◌, ◌*◌, ◌&&◌, ◌∙◌, ℕ, Bool, true, false, cond, List, [], ◌∷◌, ◌++◌, length, sym, ap, subst, ℤ, w64, to_z, of_z, Option, None, Some, arith}
use Rattle.qc_model.specs.Domains.{Box, Values, has_value, is_single, values_left}
use Rattle.qc_model.specs.Verdict.{Seen, seen_skipped}
use Rattle.proof_tree.specs.Cover.{box_to}
use Rattle.proof_tree.specs.Lines.{upto_lines}
use Rattle.proof_tree.specs.declared.line.Line.{Line}
use Rattle.proof_tree.specs.declared.line.Line.TheVariants.{Open, Skip}
use Rattle.joins.specs.Joins.{StandsAt, game_of}
use Rattle.joins.specs.Verdicts.{settled_at}
use Rattle.joins.specs.declared.joins.Joins.{Joins}
use Rattle.fd_store.specs.Held.{values_from}
use Rattle.search_box.specs.Rests.{IsFirst, IsLast, IsNext, IsPrevious}
use Rattle.search_parts.specs.Uppers.{seen_between, skipped_between, upto_between, without_before}
use Rattle.search_walk.specs.declared.stage.Stage.{Stage}
use Rattle.search_walk.specs.declared.walk.Walk.{Walk}
use Rattle.search_walk.specs.Here.{Here, here_of, in_box}
use Rattle.search_walk.specs.Put.{CasePut, CasesPut, IsReady}
use Rattle.search_walk.specs.Rivals.{outdoes}
use Rattle.search_walk.proofs.Covering.{ComesAfter, covers_after, many_of}
use Rattle.search_walk.specs.Later.{Passing, SoFar, AllDone}
use Rattle.search_walk.proofs.Here.{Ends, asked_here, case_behind, case_done, case_ready, case_tried, ready_again, ready_behind, rest_ended, rest_none, rest_opened, rest_skipped, started}
use Rattle.search_walk.proofs.Spread.{IsSpread, passed_on, rest_on}

-- what the join answers when it is asked whether its scope is settled
abbrev pub Asked : Stage → Joins → Bool → Type 0
Asked s joins b = (ys : List Seen) → StandsAt joins s.level.now.number ys → b ≡ settled_at (game_of joins) s.level.now.number ys

module _ (s : Stage) (x : ℕ) (a : Walk) where
  pub cases_begun : (here : Values) → here ≡ values_left a.remains.store.box x → SoFar (here_of s a) x a.left a.lines a.joins here a.left a.lines a.joins
  cases_begun here all xs ready =
      let node = here_of s a in
      let vs = values_left a.remains.store.box x in
      subst (λ us. Passing node x vs xs a.left a.lines us a.left a.lines a.joins) (sym all) (started node x vs xs a.left a.lines a.joins ready)

pub cases_ended : (node : Here) (x had : ℕ) (old : List Line) (first : Joins) (left : ℕ) (now : List Line) (joins : Joins) → SoFar node x had old first [] left now joins → AllDone node x had old first left now joins
cases_ended node x had old first left now joins goes xs ready = rest_none node x (values_left node.box x) xs had old first ready left now joins (goes xs ready)

-- so from a value that the machine passed
pub passed_here : (s : Stage) (a : Walk) (x had : ℕ) (old : List Line) (first : Joins) (v : ℤ) → IsSpread (values_left a.remains.store.box x) → has_value (values_left a.remains.store.box x) v ≡ true → SoFar (here_of s a) x had old first (values_from v (values_left a.remains.store.box x)) a.left a.lines a.joins →
    SoFar (here_of s a) x had old first (values_from (to_z w64 (of_z w64 v)) (values_left a.remains.store.box x)) a.left a.lines a.joins
passed_here s a x had old first v spread left goes =
    let vs = values_left a.remains.store.box x in
    subst (λ u. SoFar (here_of s a) x had old first (values_from u vs) a.left a.lines a.joins) (sym (passed_on vs v spread left)) goes

-- those of the values from v on are left out, of which u is the last
module _ (s : Stage) (x : ℕ) (a w : Walk) (had : ℕ) (old : List Line) (first : Joins) (v u : ℤ) (spread : IsSpread (values_left a.remains.store.box x)) (left : has_value (values_left a.remains.store.box x) v ≡ true) (last : IsLast (values_left a.remains.store.box x) u) (same : game_of w.joins ≡ s.level.now.problem.now) where
  abbrev Rest : Values
  Rest = values_from v (values_left a.remains.store.box x)

  -- by a line, as the machine passes the last value
  abbrev pub LeftOut : Line → List Line → Type 0
  LeftOut line new = new ≡ w.lines ++ (upto_lines (upto_between v (to_z w64 (of_z w64 u))) ++ line ∷ [])

  -- the scope is settled
  pub left_settled : (b : Bool) (new : List Line) → Asked s w.joins b → b ≡ true → SoFar (here_of s a) x had old first Rest w.left w.lines w.joins → LeftOut Skip new → AllDone (here_of s a) x had old first w.left new w.joins
  left_settled b new asked settled goes lines xs ready =
      let r = rest_on (values_left a.remains.store.box x) v u spread left last in
      rest_skipped (here_of s a) x (values_left a.remains.store.box x) xs had old first ready Rest w.left w.lines new w.joins b r.some r.numbers (asked_here s.level.now.problem.now (game_of w.joins) s.level.now.number w.joins b same asked) settled (goes xs ready)
      (lines ∙ ap (λ o. w.lines ++ (upto_lines o ++ Skip ∷ [])) r.upto)

  -- the rival outdoes it, and its join is told of what is skipped
  pub left_outdone : (new : List Line) (joins : Joins) → Ends (outdoes s.level.now.problem.now s.level.now.number s.rival) s.level.now.problem.now s.level.now.number w.joins → ((ys : List Seen) → StandsAt w.joins s.level.now.number ys → StandsAt joins s.level.now.number (ys ++ seen_skipped ∷ [])) →
      SoFar (here_of s a) x had old first Rest w.left w.lines w.joins → LeftOut Skip new → AllDone (here_of s a) x had old first w.left new joins
  left_outdone new joins ends added goes lines xs ready =
      let r = rest_on (values_left a.remains.store.box x) v u spread left last in
      rest_ended (here_of s a) x (values_left a.remains.store.box x) xs had old first ready Rest w.left w.lines new w.joins joins r.some r.numbers ends added (goes xs ready) (lines ∙ ap (λ o. w.lines ++ (upto_lines o ++ Skip ∷ [])) r.upto)

  -- no turn is left
  pub left_open : (b : Bool) (new : List Line) (joins : Joins) → Asked s w.joins b → b ≡ false → w.left ≡ 0 → ((ys : List Seen) → StandsAt w.joins s.level.now.number ys → StandsAt joins s.level.now.number (ys ++ seen_skipped ∷ [])) → SoFar (here_of s a) x had old first Rest w.left w.lines w.joins → LeftOut Open new → AllDone (here_of s a) x had old first w.left new joins
  left_open b new joins asked unsettled none added goes lines xs ready =
      let r = rest_on (values_left a.remains.store.box x) v u spread left last in
      rest_opened (here_of s a) x (values_left a.remains.store.box x) xs had old first ready Rest w.left w.lines new w.joins joins b r.some r.numbers (asked_here s.level.now.problem.now (game_of w.joins) s.level.now.number w.joins b same asked) unsettled none added (goes xs ready)
      (lines ∙ ap (λ o. w.lines ++ (upto_lines o ++ Open ∷ [])) r.upto)

-- the case of v was gone into from w, and those before it were dropped where it settled the scope
pub record IsGone (s : Stage) (x : ℕ) (a w z : Walk) (old : List Line) (least v : ℤ) (before dropped : Option ℤ) (settled settles : Bool) (start at : ℕ) : Type 0 where
  pub spread : IsSpread (values_left a.remains.store.box x)
  pub free : is_single (values_left a.remains.store.box x) ≡ false
  pub first : IsFirst (values_left a.remains.store.box x) least
  pub left : has_value (values_left a.remains.store.box x) v ≡ true
  pub after : ComesAfter (values_left a.remains.store.box x) before v
  pub same : game_of w.joins ≡ s.level.now.problem.now
  pub box : w.remains.store.box ≡ a.remains.store.box
  pub game : game_of z.joins ≡ game_of w.joins
  pub asked : Asked s w.joins settled
  pub unsettled : settled ≡ false
  pub some : ¬ (w.left ≡ 0)
  pub asked_then : Asked s z.joins settles
  pub drops : dropped ≡ cond (s.cuts && settles) before None
  pub begun : start ≡ length old
  pub reached : at ≡ length w.lines

-- its own lines, where `rest` is what comes after v
pub case_passed : (s : Stage) (x : ℕ) (a w z : Walk) (had : ℕ) (old : List Line) (first : Joins) (least v : ℤ) (before dropped : Option ℤ) (settled settles : Bool) (start at : ℕ) → IsGone s x a w z old least v before dropped settled settles start at → (new : List Line) → new ≡ without_before dropped (to_z w64 (of_z w64 least)) start at z.lines →
    ((ys : List Seen) → IsReady s.level.now.problem.now s.level.now.number w.joins (2 + 2 * (w.left - 1)) ys → CasePut (in_box (here_of s w) (box_to w.remains.store.box x (v ∷ []))) ys (w.left - 1) z.left w.lines z.lines z.joins) → (rest : Values) → values_from v (values_left a.remains.store.box x) ≡ v ∷ rest →
    SoFar (here_of s a) x had old first (values_from v (values_left a.remains.store.box x)) w.left w.lines w.joins → SoFar (here_of s a) x had old first rest z.left new z.joins
case_passed s x a w z had old first least v before dropped settled settles start at h new lines told rest begins goes xs ready =
    let g = s.level.now.problem.now in
    let i = s.level.now.number in
    let node = here_of s a in
    let vs = values_left a.remains.store.box x in
    let low = to_z w64 (of_z w64 least) in
    let same = h.same in
    let asked = asked_here g (game_of w.joins) i w.joins settled same h.asked in
    let asked_then = asked_here g (game_of z.joins) i z.joins settles (h.game ∙ same) h.asked_then in
    let lowest = subst (IsFirst vs) (sym (passed_on vs least h.spread h.first.left)) h.first in
    let p = goes xs ready in
    let again = ready_again node x vs xs had old first ready (values_from v vs) w.left w.lines w.joins settled asked h.unsettled h.some p in
    let part = subst (λ (d : Box). CasePut (in_box node (box_to d x (v ∷ []))) (xs ++ p.seen) (w.left - 1) z.left w.lines z.lines z.joins) h.box (told (xs ++ p.seen) again) in
    let covers = covers_after vs low before v h.spread.rises lowest h.left h.after in
    let there = ap (λ n. without_before dropped low n at z.lines) h.begun ∙ ap (λ n. without_before dropped low (length old) n z.lines) h.reached in
    case_done node x vs xs had old first ready h.spread.numbers low before dropped (values_from v vs) rest v w.left z.left w.lines z.lines new w.joins z.joins settled settles (many_of vs v h.free h.left) begins covers asked h.unsettled h.some asked_then h.drops p part (lines ∙ there)

-- what stands around v among the values of a branch, as the search finds it
pub record HasAround (vs : Values) (v low high : ℤ) (before next : Option ℤ) : Type 0 where
  pub spread : IsSpread vs
  pub free : is_single vs ≡ false
  pub here : has_value vs v ≡ true
  pub first : IsFirst vs low
  pub last : IsLast vs high
  pub previous : IsPrevious vs (to_z w64 (of_z w64 v)) before
  pub following : IsNext vs (to_z w64 (of_z w64 v)) next

-- v alone was gone into, and all others are skipped
module _ (s : Stage) (x : ℕ) (a z : Walk) (v low high : ℤ) (before next : Option ℤ) (around : HasAround (values_left a.remains.store.box x) v low high before next) (cut : s.cuts ≡ true) (turn : 0 < a.left) (mid end : List Line) where
  -- the lines before its own, and after them, as the machine passes the values
  abbrev pub SkipsBefore : Type 0
  SkipsBefore = mid ≡ a.lines ++ skipped_between (Some (to_z w64 (of_z w64 low))) before

  abbrev pub SkipsAfter : Type 0
  SkipsAfter = end ≡ z.lines ++ skipped_between next (Some (to_z w64 (of_z w64 high)))

  -- what was told of its case, where the join was told of what was skipped before
  abbrev pub Alone : Joins → List Seen → Type 0
  Alone joins ys = IsReady s.level.now.problem.now s.level.now.number joins (2 + 2 * (a.left - 1)) ys → CasePut (in_box (here_of s a) (box_to a.remains.store.box x (to_z w64 (of_z w64 v) ∷ []))) ys (a.left - 1) z.left mid z.lines z.joins

  here_is : to_z w64 (of_z w64 v) ≡ v
  here_is = passed_on (values_left a.remains.store.box x) v around.spread around.here

  low_is : to_z w64 (of_z w64 low) ≡ low
  low_is = passed_on (values_left a.remains.store.box x) low around.spread around.first.left

  high_is : to_z w64 (of_z w64 high) ≡ high
  high_is = passed_on (values_left a.remains.store.box x) high around.spread around.last.left

  skips_before : SkipsBefore → mid ≡ a.lines ++ skipped_between (Some low) before
  skips_before lines = lines ∙ ap (λ u. a.lines ++ skipped_between (Some u) before) low_is

  skips_after : SkipsAfter → end ≡ z.lines ++ skipped_between next (Some high)
  skips_after lines = lines ∙ ap (λ u. z.lines ++ skipped_between next (Some u)) high_is

  some_left : ¬ (a.left ≡ 0)
  some_left = λ e. absurd (omega (arith, e, turn))

  -- where it settles the scope
  pub alone_settled : (b : Bool) → game_of z.joins ≡ s.level.now.problem.now → Asked s z.joins b → b ≡ true → SkipsBefore → ((ys : List Seen) → Alone a.joins ys) → SkipsAfter → AllDone (here_of s a) x a.left a.lines a.joins z.left end z.joins
  alone_settled b same asked settled first told last xs ready =
      let g = s.level.now.problem.now in
      let i = s.level.now.number in
      let vs = values_left a.remains.store.box x in
      let part = subst (λ u. CasePut (in_box (here_of s a) (box_to a.remains.store.box x (u ∷ []))) xs (a.left - 1) z.left mid z.lines z.joins) here_is (told xs (case_ready g i a.joins xs a.left turn ready)) in
      case_tried (here_of s a) x vs xs a.left a.lines a.joins ready cut around.spread.numbers around.spread.rises low v high before next z.left mid z.lines end z.joins b (many_of vs v around.free around.here) around.first around.last around.here (subst (λ u. IsPrevious vs u before) here_is around.previous)
      (subst (λ u. IsNext vs u next) here_is around.following) some_left (asked_here g (game_of z.joins) i z.joins b same asked) settled (skips_before first) (skips_after last) part

  -- where no further leaf counts, and the join was told of what is skipped
  pub alone_ended : (begun joins : Joins) → Ends (outdoes s.level.now.problem.now s.level.now.number s.rival) s.level.now.problem.now s.level.now.number z.joins →
      ((ys : List Seen) → StandsAt a.joins s.level.now.number ys → StandsAt begun s.level.now.number (ys ++ seen_between (Some (to_z w64 (of_z w64 low))) before)) → ((ys : List Seen) → StandsAt z.joins s.level.now.number ys → StandsAt joins s.level.now.number (ys ++ seen_between next (Some (to_z w64 (of_z w64 high))))) →
      SkipsBefore → ((ys : List Seen) → Alone begun ys) → SkipsAfter → AllDone (here_of s a) x a.left a.lines a.joins z.left end joins
  alone_ended begun joins ends added then_added first told last xs ready =
      let i = s.level.now.number in
      let node = here_of s a in
      let vs = values_left a.remains.store.box x in
      let behind = xs ++ seen_between (Some low) before in
      let added_here = subst (λ u. (ys : List Seen) → StandsAt a.joins i ys → StandsAt begun i (ys ++ seen_between (Some u) before)) low_is added in
      let then_here = subst (λ u. (ys : List Seen) → StandsAt z.joins i ys → StandsAt joins i (ys ++ seen_between next (Some u))) high_is then_added in
      let again = ready_behind node x vs xs a.left a.lines a.joins ready (Some low) before begun added_here turn in
      let part = subst (λ u. CasePut (in_box node (box_to a.remains.store.box x (u ∷ []))) behind (a.left - 1) z.left mid z.lines z.joins) here_is (told behind again) in
      case_behind node x vs xs a.left a.lines a.joins ready cut around.spread.numbers around.spread.rises low v high before next z.left mid z.lines end z.joins joins (many_of vs v around.free around.here) around.first around.last around.here (subst (λ u. IsPrevious vs u before) here_is around.previous)
      (subst (λ u. IsNext vs u next) here_is around.following) some_left ends then_here (skips_before first) (skips_after last) part
