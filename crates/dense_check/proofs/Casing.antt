-- Lines where a case of a branch is due, and tuples that are given.
use Rattle.std.proofs.Common.{◌≡◌, ◌∙◌, refl, sym, ap, subst, ◌≤◌, Bool, true, false, ◌&&◌, not, Option, Some, None, List, [], ◌∷◌, ◌++◌, length, cond, arith, ◌⊎◌, inl, inr}
use Rattle.std.specs.Prelude.{Result, OnOk, ℤ, slice_get, slice_index_or}
use Rattle.qc_model.specs.declared.problem.ScopeId.{ScopeId}
use Rattle.qc_model.specs.Content.{Game}
use Rattle.qc_model.specs.Domains.{Box, declared_box, is_none_left}
use Rattle.qc_model.specs.Game.{restriction}
use Rattle.qc_model.specs.Valid.{IsValid}
use Rattle.box_laws.proofs.Readings.{box_size}
use Rattle.fd_store.specs.Held.{Held, past_box}
use Rattle.dense_box.specs.declared.freedom.Freedom.{Freedom}
use Rattle.dense_box.specs.Standing.{StandsFor}
use Rattle.dense_tree.specs.Free.{is_universal, is_unrestricted}
use Rattle.dense_tree.specs.Tree.{Given}
use Rattle.dense_tree.specs.Tuples.{is_tuple_of, all_hold, box_taken}
use Rattle.dense_tree.specs.Proves.{given_placed, are_in_order}
use Rattle.dense_tree.specs.Lines as told
use Rattle.dense_tree.specs.Place.{Setting}
use Rattle.dense_ledger.specs.Ledger.{Ledger, Fork, part_ended, fork_line, case_line, ranged_due, Frame, waiting, forked, setting_of, only_ledger, at_fork, may_go, gone_into, case_place, part_line, given_after, given_due}
use Rattle.dense_nest.specs.declared.nest.Nest.{Nest}
use Rattle.dense_nest.specs.declared.place.Due.{Due}
use Rattle.dense_nest.specs.declared.place.Due.TheVariants as due
use Rattle.dense_nest.specs.Telling as nest
use Rattle.dense_nest.specs.Telling.{TellsAt}
use Rattle.dense_nest.specs.Goes as goes
use Rattle.dense_nest.specs.Goes.{EntersFork, EntersCase}
use Rattle.dense_check.specs.declared.machine.DenseMachine.{DenseMachine}
use Rattle.dense_check.specs.Telling.{game_of, InPart, AtFork, IsAtRoot, Tells, TellsOf, PartGoes, ForkGoes, IsSameHeld, IsGathered, enters_with, here_in}
use Rattle.dense_check.proofs.Going.{at_held, node_same, part_by, tells_by, with_nest, refuses, told_same}
use Rattle.dense_check.specs.declared.line.Line.{Line}
use Rattle.dense_check.specs.Lines.{line_told}
use Rattle.dense_check.proofs.Gathered.{gathered}
use Rattle.dense_check.proofs.Ending.{on_ok}

-- some ledger is told there
pub nest_fork : (m : DenseMachine) → AtFork m → goes.AtFork m.nest
nest_fork m (d, h) = (d.given, m.positions.boxes, d, h.fork)

-- what a nest goes on to from a branch
pub fork_goes : (m : DenseMachine) (n : Nest) (f : Ledger → Option Ledger) → nest.game_of n ≡ game_of m → goes.ForkGoes m.nest n f → ForkGoes m (with_nest n m) f
fork_goes m n f q g d h = tells_by m n d.given (f d) q h.knows (g d.given m.positions.boxes d h.fork)

-- a case that may not be gone into
never_wrong : (n : Nest) (x : Due) (us : List Given) (boxes : List Box) (d : Ledger) → x ≡ due.Wrong → TellsAt n x us boxes d → ⊥
never_wrong n x us boxes d e h = subst (λ y. TellsAt n y us boxes d) e h

pub not_entered : (m : DenseMachine) (n : Nest) (upto : Option ℤ) (l : told.Line) → n.due ≡ due.Wrong → goes.ForkGoes m.nest n (λ d. at_fork d.frames (λ b fs. only_ledger (may_go b upto) (gone_into d b fs upto))) →
    ForkGoes m (with_nest n m) (λ d. at_fork d.frames (λ b fs. enters_with (setting_of (game_of m) d) d b fs upto l))
not_entered m n upto l w g d h = by d.frames (g d.given m.positions.boxes d h.fork)
  where
    by : (fs : List Frame) → nest.TellsOf n d.given m.positions.boxes (at_fork fs (λ b fs. only_ledger (may_go b upto) (gone_into d b fs upto))) →
        TellsOf (with_nest n m) (at_fork fs (λ b fs. enters_with (setting_of (game_of m) d) d b fs upto l))
    by [] t = w
    by (waiting o ∷ fs) t = w
    by (forked b ∷ fs) t = go (may_go b upto) t
      where
        go : (x : Bool) → nest.TellsOf n d.given m.positions.boxes (only_ledger x (gone_into d b fs upto)) → TellsOf (with_nest n m) (cond x (part_line (setting_of (game_of m) d) (gone_into d b fs upto) (case_place b upto) l) None)
        go true t = absurd (never_wrong n n.due d.given m.positions.boxes (gone_into d b fs upto) w t)
        go false t = w

-- one that is
pub in_case : (m : DenseMachine) (n : Nest) (upto : Option ℤ) (bounded : Bool) → nest.game_of n ≡ game_of m → EntersCase m.nest n upto bounded → AtFork m → InPart (with_nest n m)
in_case m n upto bounded q f (d, h) = by d.frames (f d.given m.positions.boxes d h.fork)
  where
    by : (fs : List Frame) → EntersFork n bounded d.given m.positions.boxes d upto fs → InPart (with_nest n m)
    by [] x = absurd x
    by (waiting o ∷ fs) x = absurd x
    by (forked b ∷ fs) x = (gone_into d b fs upto, part_by m n d.given (gone_into d b fs upto) q h.knows x.2)

pub entered : (m o : DenseMachine) (n : Nest) (upto : Option ℤ) (bounded : Bool) (l : told.Line) → nest.game_of n ≡ game_of m → EntersCase m.nest n upto bounded →
    PartGoes (with_nest n m) o (λ d. part_line (setting_of (nest.game_of n) d) d (here_in (with_nest n m) bounded) l) → ForkGoes m o (λ d. at_fork d.frames (λ b fs. enters_with (setting_of (game_of m) d) d b fs upto l))
entered m o n upto bounded l q f g d h = by d.frames (f d.given m.positions.boxes d h.fork)
  where
    by : (fs : List Frame) → EntersFork n bounded d.given m.positions.boxes d upto fs → TellsOf o (at_fork fs (λ b fs. enters_with (setting_of (game_of m) d) d b fs upto l))
    by [] x = absurd x
    by (waiting w ∷ fs) x = absurd x
    by (forked b ∷ fs) x =
        let p = gone_into d b fs upto in
        let told = g p (part_by m n d.given p q h.knows x.2) in
        let in_game : TellsOf o (part_line (setting_of (game_of m) p) p (here_in (with_nest n m) bounded) l) = subst (λ w. TellsOf o (part_line (setting_of w p) p (here_in (with_nest n m) bounded) l)) q told in
        let at : TellsOf o (part_line (setting_of (game_of m) p) p (case_place b upto) l) = subst (λ y. TellsOf o (part_line (setting_of (game_of m) p) p y l)) x.1 in_game in
        subst (λ c. TellsOf o (cond c (part_line (setting_of (game_of m) d) p (case_place b upto) l) None)) (sym x.0) at

-- ---- given tuples
pub same_held : (s t : Held) → t.box ≡ s.box → t.past ≡ s.past → IsSameHeld s t
same_held s t b p = record {
  len = ap length p;
  box = b;
  boxes = λ k l. ap (λ (x : List Box). slice_index_or x k t.box) p ∙ ap (slice_index_or s.past k) b;
}

pub root_box : (m : DenseMachine) → (d : Ledger) × IsAtRoot m d → m.nest.remains.box ≡ declared_box (game_of m)
root_box m (d, h) = h.root.node.here ∙ ap (λ t. t.begin.box) h.root.root

-- the tuple isn't given
pub not_given : (m o : DenseMachine) (d : Ledger) (u : Given) → o.nest.due ≡ due.Wrong → (given_placed (game_of m) u && are_in_order (d.given ++ u ∷ [])) ≡ false → TellsOf o (given_after (game_of m) d u)
not_given m o d u w e = refuses o (given_placed (game_of m) u && are_in_order (d.given ++ u ∷ [])) (record d { given = d.given ++ u ∷ [] }) e w

-- whether it may be is so with the values that were gathered
pub given_same : (g : Game) (k : ScopeId) (vs t : List ℤ) → length (declared_box g) ≤ 500 → IsGathered vs t →
    (vs ≡ t) ⊎ ((given_placed g (record { scope = k; tuple = vs }) ≡ false) × (given_placed g (record { scope = k; tuple = t }) ≡ false))
given_same g k vs t few h = by (gathered g k.0 (declared_box g) vs t few h)
  where
    none : (us : List ℤ) → is_tuple_of g k.0 (declared_box g) us ≡ false → given_placed g (record { scope = k; tuple = us }) ≡ false
    none us e = three (is_universal (slice_get g.scopes k.0)) (not (is_unrestricted g k.0)) (is_tuple_of g k.0 (declared_box g) us) (all_hold (restriction g k.0) (box_taken g k.0 (declared_box g) us)) e
      where
        three : (a b c d : Bool) → c ≡ false → (a && b && (c && d)) ≡ false
        three true true true d e = cc
        three true true false d e = refl
        three true false c d e = refl
        three false b c d e = refl

    by : (vs ≡ t) ⊎ ((is_tuple_of g k.0 (declared_box g) vs ≡ false) × (is_tuple_of g k.0 (declared_box g) t ≡ false)) →
        (vs ≡ t) ⊎ ((given_placed g (record { scope = k; tuple = vs }) ≡ false) × (given_placed g (record { scope = k; tuple = t }) ≡ false))
    by (inl e) = inl e
    by (inr x) = inr (none vs x.0, none t x.1)

abbrev pub with_given : Held → Freedom → DenseMachine → DenseMachine
with_given s f m = record m { nest = record (m.nest) { remains = s }; freedom = f }

pub given_told : (m : DenseMachine) (s : Held) (f : Freedom) (d : Ledger) (u : Given) → m.nest.due ≡ due.Given → d.due ≡ given_due → IsSameHeld m.nest.remains s → StandsFor (game_of m) (d.given ++ u ∷ []) f →
    given_placed (game_of m) u ≡ true → are_in_order (d.given ++ u ∷ []) ≡ true → IsAtRoot m d → TellsOf (with_given s f m) (given_after (game_of m) d u)
given_told m s f d u md dd k st placed order h =
    let us = d.given ++ u ∷ [] in
    let after : Ledger = record d { given = us } in
    let old = node_same m.nest s d.given m.positions.boxes m.nest.entry d k h.root.node in
    let kept = old.keeps in
    let root : nest.IsAtRoot (at_held s m.nest) us m.positions.boxes after = record {
      node = record {
        keeps = record { made = kept.made; given = refl; known = kept.known; kept = kept.kept; names = kept.names; turns = kept.turns; unfinished = kept.unfinished };
        entry = old.entry;
        here = old.here;
        named = old.named;
        frames = old.frames;
        below = old.below;
      };
      root = told_same m.nest s d.given m.positions.boxes m.nest.entry d k h.root.node ∙ h.root.root;
      outermost = h.root.outermost;
    } in
    let told : Tells (with_given s f m) after = record {
      knows = record { made = record { closed = h.knows.made.closed; wishes = h.knows.made.wishes; boxes = h.knows.made.boxes }; given = st; order = order };
      tells = subst (λ x. TellsAt (at_held s m.nest) x us m.positions.boxes after) (sym md) (dd, root);
    } in
    subst (λ b. TellsOf (with_given s f m) (only_ledger b after)) (sym (both (given_placed (game_of m) u) (are_in_order us) placed order)) told
  where
    both : (a b : Bool) → a ≡ true → b ≡ true → (a && b) ≡ true
    both true b p q = q
    both false b p q = cc

-- the first line of a case that is gone into
pub enter_goes : {T E : Type 0} (r : Result T E) (m o : DenseMachine) (n : Nest) (upto : Option ℤ) (bounded : Bool) (v : List ℤ) (l : Line) → nest.game_of n ≡ game_of m → EntersCase m.nest n upto bounded →
    OnOk r ((t : List ℤ) → IsGathered v t → PartGoes (with_nest n m) o (λ d. part_line (setting_of (nest.game_of n) d) d (here_in (with_nest n m) bounded) (line_told l t))) →
    OnOk r ((t : List ℤ) → IsGathered v t → ForkGoes m o (λ d. at_fork d.frames (λ b fs. enters_with (setting_of (game_of m) d) d b fs upto (line_told l t))))
enter_goes r m o n upto bounded v l q f g = on_ok r by g
  where
    by : ((t : List ℤ) → IsGathered v t → PartGoes (with_nest n m) o (λ d. part_line (setting_of (nest.game_of n) d) d (here_in (with_nest n m) bounded) (line_told l t))) →
        (t : List ℤ) → IsGathered v t → ForkGoes m o (λ d. at_fork d.frames (λ b fs. enters_with (setting_of (game_of m) d) d b fs upto (line_told l t)))
    by h t x = entered m o n upto bounded (line_told l t) q f (h t x)

-- a line that is told so
pub fork_told_so : (m : DenseMachine) (n : Nest) (l : Line) (k : told.Line) (t : List ℤ) (upto : Option ℤ) (f : Ledger → Fork → List Frame → Option Ledger) → line_told l t ≡ k → nest.game_of n ≡ game_of m →
    goes.ForkGoes m.nest n (λ d. at_fork d.frames (f d)) → ((d : Ledger) (b : Fork) (fs : List Frame) → f d b fs ≡ case_line (setting_of (game_of m) d) d b fs upto k) →
    ForkGoes m (with_nest n m) (λ d. at_fork d.frames (λ b fs. case_line (setting_of (game_of m) d) d b fs upto (line_told l t)))
fork_told_so m n l k t upto f e q g same d h =
    subst (λ x. TellsOf (with_nest n m) (at_fork d.frames (λ b fs. case_line (setting_of (game_of m) d) d b fs upto x))) (sym e)
    (by d.frames (fork_goes m n (λ d. at_fork d.frames (f d)) q g d h))
  where
    by : (fs : List Frame) → TellsOf (with_nest n m) (at_fork fs (f d)) → TellsOf (with_nest n m) (at_fork fs (λ b fs. case_line (setting_of (game_of m) d) d b fs upto k))
    by [] x = x
    by (waiting o ∷ fs) x = x
    by (forked b ∷ fs) x = subst (TellsOf (with_nest n m)) (same d b fs) x

-- whichever line it is that isn't among the first kinds
pub fork_default : {T E : Type 0} (r : Result T E) (m o : DenseMachine) (v : List ℤ) (l : Line) (f g : Setting → Ledger → Fork → List Frame → told.Line → Option Ledger) →
    ((s : Setting) (d : Ledger) (b : Fork) (fs : List Frame) (t : List ℤ) → f s d b fs (line_told l t) ≡ g s d b fs (line_told l t)) →
    OnOk r ((t : List ℤ) → IsGathered v t → ForkGoes m o (λ d. at_fork d.frames (λ b fs. g (setting_of (game_of m) d) d b fs (line_told l t)))) →
    OnOk r ((t : List ℤ) → IsGathered v t → ForkGoes m o (λ d. at_fork d.frames (λ b fs. f (setting_of (game_of m) d) d b fs (line_told l t))))
fork_default r m o v l f g same h = on_ok r by h
  where
    at : (d : Ledger) (t : List ℤ) (fs : List Frame) → TellsOf o (at_fork fs (λ b fs. g (setting_of (game_of m) d) d b fs (line_told l t))) → TellsOf o (at_fork fs (λ b fs. f (setting_of (game_of m) d) d b fs (line_told l t)))
    at d t [] x = x
    at d t (waiting w ∷ fs) x = x
    at d t (forked b ∷ fs) x = subst (TellsOf o) (sym (same (setting_of (game_of m) d) d b fs t)) x

    by : ((t : List ℤ) → IsGathered v t → ForkGoes m o (λ d. at_fork d.frames (λ b fs. g (setting_of (game_of m) d) d b fs (line_told l t)))) →
        (t : List ℤ) → IsGathered v t → ForkGoes m o (λ d. at_fork d.frames (λ b fs. f (setting_of (game_of m) d) d b fs (line_told l t)))
    by k t x d y = at d t d.frames (k t x d y)

pub dot_goes : {T E : Type 0} (r : Result T E) (m : DenseMachine) (n : Nest) (v : List ℤ) (l : Line) → ((t : List ℤ) → line_told l t ≡ told.dot_line) → nest.game_of n ≡ game_of m →
    OnOk r (goes.ForkGoes m.nest n (λ d. at_fork d.frames (λ b fs. only_ledger (is_none_left b.left) (part_ended (setting_of (game_of m) d) d d.own fs)))) →
    OnOk r ((t : List ℤ) → IsGathered v t → ForkGoes m (with_nest n m) (λ d. at_fork d.frames (λ b fs. fork_line (setting_of (game_of m) d) d b fs (line_told l t))))
dot_goes r m n v l e q f = on_ok r by f
  where
    by : goes.ForkGoes m.nest n (λ d. at_fork d.frames (λ b fs. only_ledger (is_none_left b.left) (part_ended (setting_of (game_of m) d) d d.own fs))) →
        (t : List ℤ) → IsGathered v t → ForkGoes m (with_nest n m) (λ d. at_fork d.frames (λ b fs. fork_line (setting_of (game_of m) d) d b fs (line_told l t)))
    by g t x d h =
        subst (λ k. TellsOf (with_nest n m) (at_fork d.frames (λ b fs. fork_line (setting_of (game_of m) d) d b fs k))) (sym (e t))
        (fork_goes m n (λ d. at_fork d.frames (λ b fs. only_ledger (is_none_left b.left) (part_ended (setting_of (game_of m) d) d d.own fs))) q g d h)

pub range_goes : (m : DenseMachine) (n : Nest) (l : Line) (t : List ℤ) (high : ℤ) → line_told l t ≡ told.range_line high → nest.game_of n ≡ game_of m → goes.ForkGoes m.nest n (λ d. at_fork d.frames (λ b fs. Some (record d { due = ranged_due high }))) →
    ForkGoes m (with_nest n m) (λ d. at_fork d.frames (λ b fs. fork_line (setting_of (game_of m) d) d b fs (line_told l t)))
range_goes m n l t high e q f d h =
    subst (λ k. TellsOf (with_nest n m) (at_fork d.frames (λ b fs. fork_line (setting_of (game_of m) d) d b fs k))) (sym e)
    (fork_goes m n (λ d. at_fork d.frames (λ b fs. Some (record d { due = ranged_due high }))) q f d h)

pub few_declared : (m : DenseMachine) → (d : Ledger) × IsAtRoot m d → IsValid (game_of m) → length (declared_box (game_of m)) ≤ 500
few_declared m (d, h) v =
    let g = game_of m in
    let box = past_box m.nest.remains m.nest.entry.mark.at in
    let size = box_size g box h.root.node.entry.box.declared in
    let same = ap (λ (b : Box). length b) (ap (λ t. t.begin.box) h.root.root) in
    let few = v.few_variables in
    omega (arith, size, same, few)

module _ (m : DenseMachine) (k : ScopeId) (vs t : List ℤ) (few : length (declared_box (game_of m)) ≤ 500) (g : IsGathered vs t) where
  abbrev Given_of : List ℤ → Given
  Given_of us = record { scope = k; tuple = us }

  pub given_refused : (o : DenseMachine) (d : Ledger) → o.nest.due ≡ due.Wrong → given_placed (game_of m) (Given_of vs) ≡ false → TellsOf o (given_after (game_of m) d (Given_of t))
  given_refused o d w e = refuses o (given_placed (game_of m) (Given_of t) && are_in_order (d.given ++ Given_of t ∷ [])) (record d { given = d.given ++ Given_of t ∷ [] }) (by (given_same (game_of m) k vs t few g)) w
    where
      none : (a b : Bool) → a ≡ false → (a && b) ≡ false
      none true b q = cc
      none false b q = refl

      by : (vs ≡ t) ⊎ ((given_placed (game_of m) (Given_of vs) ≡ false) × (given_placed (game_of m) (Given_of t) ≡ false)) → (given_placed (game_of m) (Given_of t) && are_in_order (d.given ++ Given_of t ∷ [])) ≡ false
      by (inl q) = none (given_placed (game_of m) (Given_of t)) (are_in_order (d.given ++ Given_of t ∷ [])) (subst (λ us. given_placed (game_of m) (Given_of us) ≡ false) q e)
      by (inr x) = none (given_placed (game_of m) (Given_of t)) (are_in_order (d.given ++ Given_of t ∷ [])) x.1

  pub given_goes : (s : Held) (f : Freedom) (d : Ledger) → m.nest.due ≡ due.Given → d.due ≡ given_due → IsSameHeld m.nest.remains s → StandsFor (game_of m) (d.given ++ Given_of vs ∷ []) f →
      given_placed (game_of m) (Given_of vs) ≡ true → are_in_order (d.given ++ Given_of vs ∷ []) ≡ true → IsAtRoot m d → TellsOf (with_given s f m) (given_after (game_of m) d (Given_of t))
  given_goes s f d md dd same st placed order h = by (given_same (game_of m) k vs t few g)
    where
      clash : (b : Bool) → b ≡ true → b ≡ false → ⊥
      clash b p q = cc

      by : (vs ≡ t) ⊎ ((given_placed (game_of m) (Given_of vs) ≡ false) × (given_placed (game_of m) (Given_of t) ≡ false)) → TellsOf (with_given s f m) (given_after (game_of m) d (Given_of t))
      by (inl q) = subst (λ us. TellsOf (with_given s f m) (given_after (game_of m) d (Given_of us))) q (given_told m s f d (Given_of vs) md dd same st placed order h)
      by (inr x) = absurd (clash (given_placed (game_of m) (Given_of vs)) placed x.0)
