-- The root of a piece, in words of the walk before and after.
use Rattle.std.proofs.Common.{◌≡◌, ◌+◌, ◌*◌, ◌&&◌, ◌++◌, ℕ, Bool, true, false, List, [], ◌∷◌, refl, sym, subst, Option, None, Some, ℤ}
use Rattle.qc_model.specs.Content.{Game}
use Rattle.qc_model.specs.Domains.{Box}
use Rattle.qc_model.specs.Verdict.{Seen, Verdict}
use Rattle.proof_tree.specs.InPlace.{horizon_below, is_horizon}
use Rattle.proof_tree.specs.Lines.{horizon_lines}
use Rattle.proof_tree.specs.Place.{position}
use Rattle.proof_tree.specs.declared.line.Line.{Line}
use Rattle.proof_tree.specs.declared.line.Line.TheVariants.{Stuck as StuckLine}
use Rattle.proof_tree.specs.declared.tree.Horizon.{Horizon}
use Rattle.joins.specs.Joins.{KeepsAll, StandsAt}
use Rattle.joins.specs.Verdicts.{verdict_at}
use Rattle.joins.specs.declared.joins.Joins.{Joins}
use Rattle.joins.specs.declared.leaves.Found.{Found}
use Rattle.search_box.specs.Looking.{LooksAhead}
use Rattle.game_search.specs.Beside.{HasBudget, RootPut}
use Rattle.search_walk.specs.Here.{Here, here_at}
use Rattle.game_search.specs.Pieces.{IsReached, leaf_at}
use Rattle.search_walk.specs.Put.{CasePut, IsReady}
use Rattle.search_walk.specs.Rivals.{outdoes}
use Rattle.search_walk.specs.Told.{came_to}
use Rattle.search_walk.specs.declared.walk.Walk.{Walk}
use Rattle.game_search.proofs.Roots.{ready_beside, root_by_part, root_stuck}

-- nothing stands above the root
and_false : (b : Bool) → (b && false) ≡ false
and_false true = refl
and_false false = refl

outdoes_none : (g : Game) (i : ℕ) (n : ℤ) → outdoes g i None n ≡ false
outdoes_none g i n = and_false _

-- what the join answers, in words of the first scope
abbrev Says : Verdict → Joins → Game → ℕ → Box → Type 0
Says v joins g i box = (xs : List Seen) → StandsAt joins i xs → v ≡ verdict_at g i (position g i box) xs

says_first : (v : Verdict) (joins : Joins) (k g : Game) (n : ℕ) (now box : Box) → k ≡ g → n ≡ 0 → now ≡ box → Says v joins k n now → Says v joins g 0 box
says_first v joins k g n now box p q r says = subst (λ (b : Box). Says v joins g 0 b) r (subst (λ m. Says v joins g m now) q (subst (λ (f : Game). Says v joins f n now) p says))

-- a is the walk before, last that after; before the join was asked, the box, the joins, the lines and the turns were these
module _ (cuts : Bool) (g : Game) (r : ℤ) (reached : IsReached g r) (k : Game) (n : ℕ) (problem : k ≡ g) (number : n ≡ 0) (z : Option Horizon) (a : Walk) (ahead : LooksAhead g 0 a.remains.store.box None z) (found : Found) (here : Box) (asked : Joins) (lines : List Line) (left : ℕ) (last : Walk)
    (content : here ≡ a.remains.store.box) (says : Says (came_to found last) asked k n here) (kept : KeepsAll asked last.joins) (same_lines : last.lines ≡ lines) (same_left : last.left ≡ left) where
  abbrev Told : ℕ → List Line → Type 0
  Told n ls = RootPut cuts g a.remains.store.box (Some r) (came_to found last) a.left n a.lines ls last.joins

  says_here : Says (came_to found last) asked g 0 a.remains.store.box
  says_here = says_first (came_to found last) asked k g n here a.remains.store.box problem number content says

  at_end : Told left lines → Told last.left last.lines
  at_end w = subst (λ ls. Told last.left ls) (sym same_lines) (subst (λ m. Told m lines) (sym same_left) w)

  pub stuck_beside : (begun : List Line) → is_horizon (horizon_below z None) 0 ≡ true → begun ≡ a.lines ++ horizon_lines z → lines ≡ begun ++ StuckLine ∷ [] → left ≡ a.left → StandsAt asked 0 (leaf_at r ∷ []) → Told last.left last.lines
  stuck_beside begun here p q turns stands =
      at_end
      (subst (λ m. Told m lines) (sym turns)
      (root_stuck cuts g a.remains.store.box r reached.first reached.small z (came_to found last) a.left a.lines begun lines last.joins ahead.placed ahead.fits ahead.foreseen here p q (sym (says_here (leaf_at r ∷ []) stands)) (kept 0 (leaf_at r ∷ []) stands)))

  -- where the root's own tree began, the joins and the lines were these
  pub searched_beside : (own : Here) (told_joins : Joins) (begun : List Line) → HasBudget a → own ≡ here_at cuts (outdoes k n None) g 0 a.remains.store.box (horizon_below z None) → is_horizon (horizon_below z None) 0 ≡ false → begun ≡ a.lines ++ horizon_lines z → StandsAt told_joins 0 (leaf_at r ∷ []) →
      ((before : List Seen) → IsReady own.game own.number told_joins (2 + 2 * a.left) before → CasePut own before a.left left begun lines asked) → Told last.left last.lines
  searched_beside own told_joins begun few same apart p stands told =
      let above = outdoes k n None in
      let ready = ready_beside g r a.left told_joins reached.first reached.small few stands in
      let part = subst (λ (o : Here). (before : List Seen) → IsReady o.game o.number told_joins (2 + 2 * a.left) before → CasePut o before a.left left begun lines asked) same told (leaf_at r ∷ []) ready in
      at_end
      (root_by_part cuts g a.remains.store.box r reached.first reached.small above (outdoes_none k n) z (came_to found last) a.left left a.lines begun lines asked last.joins ahead.placed ahead.fits ahead.foreseen apart p part says_here (λ xs s. kept 0 xs s))
