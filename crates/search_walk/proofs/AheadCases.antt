-- The cases of a branch of which one was gone into before all others, as the search goes over them.
use Rattle.std.proofs.Common.{◌≡◌, ◌<◌, ◌+◌, ◌-◌, ◌*◌, ◌||◌, ◌^◌, ◌∙◌, ℕ, suc, Bool, true, false, List, [], ◌∷◌, ◌++◌, length, drop, sym, ap, refl, subst, ℤ, w64, to_z, of_z, Option, None, Some, arith}
use Rattle.std.specs.Ordering.{int_eq}
use Rattle.std.specs.List.{list_any}
use Rattle.qc_model.specs.Content.{Game}
use Rattle.qc_model.specs.Domains.{Box, Values, has_value, is_single, values_left}
use Rattle.qc_model.specs.Verdict.{Seen}
use Rattle.proof_tree.specs.Cover.{box_to}
use Rattle.proof_tree.specs.declared.line.Line.{Line}
use Rattle.joins.specs.Joins.{game_of}
use Rattle.joins.specs.Verdicts.{wishes_at}
use Rattle.joins.specs.declared.joins.Joins.{Joins}
use Rattle.fd_store.specs.Held.{values_from}
use Rattle.std.proofs.lemmas.Bool.Decides.{Decides-int_eq}
use Rattle.std.proofs.lemmas.Int.{of_z-to_z}
use mir.Val.{bits}
use Rattle.search_box.specs.Rests.{IsAfter, IsFirst, IsLast, IsNext}
use Rattle.search_parts.specs.Settled.{is_outdone}
use Rattle.search_parts.specs.Uppers.{skipped_between, without_before}
use Rattle.search_walk.specs.declared.stage.Stage.{Stage}
use Rattle.search_walk.specs.declared.walk.Walk.{Walk}
use Rattle.search_walk.specs.Here.{here_of, in_box}
use Rattle.search_walk.specs.Later.{AllDone, SoFar}
use Rattle.search_walk.specs.Put.{CasePut, IsReady}
use Rattle.search_walk.specs.Rivals.{outdoes}
use Rattle.search_walk.proofs.Ahead.{Owed, begun, comes_home, may_go, none_outdone, rest_left_out, settled_past, went_by}
use Rattle.search_walk.proofs.Branching.{Asked}
use Rattle.search_walk.proofs.Covering.{ComesAfter, covers_after, many_of}
use Rattle.search_walk.proofs.Here.{asked_here, case_ready}
use Rattle.search_walk.proofs.Spread.{IsSpread, passed_on}

-- a branch on x at the walk a, in a scope that one leaf settles and nothing else counts for, of a search that cuts
pub record IsFree (s : Stage) (x : ℕ) (a : Walk) : Type 0 where
  pub cut : s.cuts ≡ true
  pub alone : s.rival ≡ None
  pub nothing : wishes_at s.level.now.problem.now s.level.now.number ≡ []
  pub spread : IsSpread (values_left a.remains.store.box x)
  pub free : is_single (values_left a.remains.store.box x) ≡ false

-- a value that is owed and isn't the first is owed after that
pub still_owed : (y v : ℤ) (rest : Values) → int_eq v y ≡ false → has_value (y ∷ rest) v ≡ true → has_value rest v ≡ true
still_owed y v rest other h = sym (ap (λ b. b || list_any (int_eq v) rest) other) ∙ h

pub another : (v : ℤ) (b : ℕ) → b < 2 ^ bits w64 → to_z w64 (of_z w64 v) ≡ v → ¬ (b ≡ of_z w64 v) → int_eq (to_z w64 (of_z w64 v)) (to_z w64 b) ≡ false
another v b fits passed other = by (int_eq (to_z w64 (of_z w64 v)) (to_z w64 b)) (λ e. (Decides-int_eq (to_z w64 (of_z w64 v)) (to_z w64 b)).0 e)
  where
    by : (c : Bool) → (c ≡ true → to_z w64 (of_z w64 v) ≡ to_z w64 b) → c ≡ false
    by false f = refl
    by true f = absurd (other (sym (ap (of_z w64) (sym passed ∙ f refl) ∙ of_z-to_z w64 b fits)))

pub ended_by : (vs : Values) (v : ℤ) (next : Option ℤ) → IsNext vs v next → next ≡ None → values_from v vs ≡ v ∷ []
ended_by vs v None after e = after
ended_by vs v (Some n) after e = cc

pub gone_on : (vs : Values) (v n : ℤ) (next : Option ℤ) → IsNext vs v next → next ≡ Some n → IsAfter vs v n
gone_on vs v n None after e = cc
gone_on vs v n (Some m) after e = let there : m ≡ n = cc in subst (λ k. IsAfter vs v k) there after

pub none_owed : (v : ℤ) → has_value [] v ≡ true → ⊥
none_owed v e = cc

pub is_free : (s : Stage) (x : ℕ) (a : Walk) → s.cuts ≡ true → s.rival ≡ None → wishes_at s.level.now.problem.now s.level.now.number ≡ [] → IsSpread (values_left a.remains.store.box x) → is_single (values_left a.remains.store.box x) ≡ false → IsFree s x a
is_free s x a cut alone nothing spread free = record { cut = cut; alone = alone; nothing = nothing; spread = spread; free = free }

module _ (s : Stage) (x : ℕ) (a : Walk) (f : IsFree s x a) where
  abbrev Of : Game
  Of = s.level.now.problem.now

  abbrev At : ℕ
  At = s.level.now.number

  abbrev Vs : Values
  Vs = values_left a.remains.store.box x

  alone_here : (us : List Seen) → is_outdone (outdoes Of At s.rival) us ≡ false
  alone_here us = subst (λ r. is_outdone (outdoes Of At r) us ≡ false) (sym f.alone) (none_outdone Of At us)

  -- the cases for the values here are owed, that of v among them, whose lines are kept
  abbrev pub OwesStill : ℤ → List Line → Option ℤ → Values → ℕ → List Line → Joins → Type 0
  OwesStill v kept passed here left now joins = (xs : List Seen) → IsReady Of At a.joins (suc (2 * a.left)) xs → Owed (here_of s a) x Vs xs a.left a.lines v kept passed here left now joins

  -- what was told of the case of y that was gone into from w
  abbrev pub ToldOf : ℤ → Walk → Walk → Type 0
  ToldOf y w z = (ys : List Seen) → IsReady Of At w.joins (2 + 2 * (w.left - 1)) ys → CasePut (in_box (here_of s w) (box_to w.remains.store.box x (y ∷ []))) ys (w.left - 1) z.left w.lines z.lines z.joins

  -- v was gone into first, and didn't settle the scope
  pub went_first : (z : Walk) (v : ℤ) (mid kept : List Line) (b : Bool) → has_value Vs v ≡ true → 0 < a.left → game_of z.joins ≡ Of → Asked s z.joins b → b ≡ false →
      ((ys : List Seen) → IsReady Of At a.joins (2 + 2 * (a.left - 1)) ys → CasePut (in_box (here_of s a) (box_to a.remains.store.box x (v ∷ []))) ys (a.left - 1) z.left mid z.lines z.joins) → kept ≡ drop (length mid) z.lines →
      OwesStill v kept None Vs z.left a.lines z.joins
  went_first z v mid kept b has turn same asked e told q xs ready =
      begun (here_of s a) f.cut f.nothing alone_here x Vs xs a.left a.lines a.joins ready (many_of Vs v f.free has) v z.left mid z.lines kept z.joins b (λ n. absurd (omega (arith, n, turn))) (asked_here Of (game_of z.joins) At z.joins b same asked) e
      (told xs (case_ready Of At a.joins xs a.left turn ready)) q

  -- so did y, which stands before it
  pub went_past : (w z : Walk) (v y : ℤ) (kept : List Line) (passed : Option ℤ) (rest : Values) (b : Bool) → has_value Vs y ≡ true → values_from y Vs ≡ y ∷ rest → w.remains.store.box ≡ a.remains.store.box → ¬ (w.left ≡ 0) → game_of z.joins ≡ Of → Asked s z.joins b → b ≡ false → ToldOf y w z →
      OwesStill v kept passed (values_from y Vs) w.left w.lines w.joins → OwesStill v kept (Some y) rest z.left z.lines z.joins
  went_past w z v y kept passed rest b has at box some same asked e told owes xs ready =
      let node = here_of s a in
      let many = many_of Vs y f.free has in
      let p = owes xs ready in
      let go = may_go node f.cut f.nothing alone_here x Vs xs a.left a.lines a.joins ready many v kept passed (values_from y Vs) w.left w.lines w.joins some p in
      let part = subst (λ (d : Box). CasePut (in_box node (box_to d x (y ∷ []))) (xs ++ (p.aside ++ p.seen)) (w.left - 1) z.left w.lines z.lines z.joins) box (told (xs ++ (p.aside ++ p.seen)) go) in
      went_by node f.cut f.nothing alone_here x Vs xs a.left a.lines a.joins ready many v kept passed (values_from y Vs) rest y w.left z.left w.lines z.lines w.joins z.joins b at some p part (asked_here Of (game_of z.joins) At z.joins b same asked) e

  first_whole : (passed : Option ℤ) (y : ℤ) → ComesAfter Vs passed y → passed ≡ None → values_from y Vs ≡ Vs
  first_whole None y after e = after
  first_whole (Some u) y after e = cc

  -- y settles the scope: it stands behind one case that skips those before it, and those after it are skipped
  pub settled_there : (w z : Walk) (v y low high : ℤ) (kept new end : List Line) (passed following : Option ℤ) (c : Bool) → has_value Vs y ≡ true → IsFirst Vs low → IsLast Vs high → ComesAfter Vs passed y → IsNext Vs y following → w.remains.store.box ≡ a.remains.store.box → ¬ (w.left ≡ 0) →
      game_of z.joins ≡ Of → Asked s z.joins c → c ≡ true → ToldOf y w z → OwesStill v kept passed (values_from y Vs) w.left w.lines w.joins → new ≡ without_before passed low (length a.lines) (length w.lines) z.lines → end ≡ new ++ skipped_between following (Some high) →
      AllDone (here_of s a) x a.left a.lines a.joins z.left end z.joins
  settled_there w z v y low high kept new end passed following c has first last after next box some same asked settles told owes q e xs ready =
      let node = here_of s a in
      let many = many_of Vs y f.free has in
      let p = owes xs ready in
      let go = may_go node f.cut f.nothing alone_here x Vs xs a.left a.lines a.joins ready many v kept passed (values_from y Vs) w.left w.lines w.joins some p in
      let part = subst (λ (d : Box). CasePut (in_box node (box_to d x (y ∷ []))) (xs ++ (p.aside ++ p.seen)) (w.left - 1) z.left w.lines z.lines z.joins) box (told (xs ++ (p.aside ++ p.seen)) go) in
      let answers = asked_here Of (game_of z.joins) At z.joins c same asked in
      rest_left_out node f.cut f.nothing alone_here x Vs xs a.left a.lines a.joins ready many f.spread.numbers f.spread.rises y high following z.left new end z.joins c last next answers settles
      (λ rest at. settled_past node f.cut f.nothing alone_here x Vs xs a.left a.lines a.joins ready many f.spread.numbers low passed v kept (values_from y Vs) rest y w.left z.left w.lines z.lines new w.joins z.joins c at (first_whole passed y after) (covers_after Vs low passed y f.spread.rises first has after) some answers settles p part q) e

  -- v comes into its place
  pub home : (v : ℤ) (kept : List Line) (passed : Option ℤ) (rest : Values) (left : ℕ) (now new : List Line) (joins : Joins) → has_value Vs v ≡ true → values_from v Vs ≡ v ∷ rest → game_of joins ≡ Of → ¬ (left ≡ 0) → OwesStill v kept passed (values_from v Vs) left now joins → new ≡ now ++ kept → SoFar (here_of s a) x a.left a.lines a.joins rest left new joins
  home v kept passed rest left now new joins has at same some owes q xs ready =
      comes_home (here_of s a) f.cut f.nothing alone_here x Vs xs a.left a.lines a.joins ready (many_of Vs v f.free has) v kept passed (values_from v Vs) rest left now new joins same at some (owes xs ready) q

  -- the value reached is that of the case that waits
  pub reached : (v y : ℤ) (kept : List Line) (passed : Option ℤ) (w : Walk) → y ≡ v → OwesStill v kept passed (values_from y Vs) w.left w.lines w.joins → OwesStill v kept passed (values_from v Vs) w.left w.lines w.joins
  reached v y kept passed w e owes = subst (λ u. OwesStill v kept passed (values_from u Vs) w.left w.lines w.joins) e owes

  -- the later cases complete the branch, told of in a box that is the same
  pub later_done : (box : Box) (left : ℕ) (lines : List Line) (joins : Joins) (z : Walk) (start : ℕ) (from : ℤ) → box ≡ a.remains.store.box → start ≡ length a.lines →
      ((had : ℕ) (old : List Line) (first : Joins) → start ≡ length old → SoFar (in_box (here_of s a) box) x had old first (values_from from (values_left box x)) left lines joins → AllDone (in_box (here_of s a) box) x had old first z.left z.lines z.joins) →
      SoFar (here_of s a) x a.left a.lines a.joins (values_from from Vs) left lines joins → AllDone (here_of s a) x a.left a.lines a.joins z.left z.lines z.joins
  later_done box left lines joins z start from same e told goes =
      subst (λ (b : Box). AllDone (in_box (here_of s a) b) x a.left a.lines a.joins z.left z.lines z.joins) same
      (told a.left a.lines a.joins e (subst (λ (b : Box). SoFar (in_box (here_of s a) b) x a.left a.lines a.joins (values_from from (values_left b x)) left lines joins) (sym same) goes))
