-- The steps of a scope's own tree.
use Rattle.std.proofs.Common.{◌≡◌, ◌∙◌, refl, sym, ap, subst, ℕ, suc, ◌+◌, ◌≤◌, Bool, true, false, ◌&&◌, ◌||◌, not, Option, Some, None, List, [], ◌∷◌, length, drop, map, cond, arith, ◌⊎◌, inl, inr}
use Rattle.std.proofs.lemmas.List.{length-drop}
use Rattle.std.specs.Prelude.{MatchBool, ℤ}
use Rattle.qc_model.specs.declared.problem.Kind.{Kind}
use Rattle.qc_model.specs.declared.problem.Kind.TheVariants.{Exists, Forall}
use Rattle.qc_model.specs.declared.problem.Scope.{Scope}
use Rattle.qc_model.specs.Block.{of_kind, block_stop, force_stop, constraints_within}
use Rattle.qc_model.specs.Content.{Game}
use Rattle.qc_model.specs.Domains.{Box, has_empty, is_single, values_left}
use Rattle.qc_model.specs.Verdict.{seen_bound}
use Rattle.model_arguments.specs.Asked.{is_box_of}
use Rattle.fd_store.specs.Held.{Held, Follows}
use Rattle.dense_box.specs.Here.{IsHere}
use Rattle.dense_closing.specs.ClosingSteps.{greatest_closed, is_hopeless, closing_steps}
use Rattle.proof_tree.specs.Steps.{after_steps}
use Rattle.dense_closing.specs.Takes.{Takes}
use Rattle.dense_tree.specs.Free.{joint_stop, is_joint}
use Rattle.dense_tree.specs.Tree.{Given, bound, reply}
use Rattle.dense_tree.specs.Tuples.{all_hold, is_tuple_of, box_taken}
use Rattle.proof_tree.specs.Place.{Tracked}
use Rattle.qc_model.specs.declared.problem.VarId.{VarId}
use Rattle.dense_nest.specs.Places.{place_at, part_spot}
use Rattle.dense_tree.specs.Lines.{close_line, bound_line, reply_line}
use Rattle.dense_tree.specs.Place.{closed_box, with_box}
use Rattle.dense_tree.specs.Steps.{StepsRead, closing, read_step, replying, last_condition}
use Rattle.dense_ledger.specs.Ledger.{Ledger, setting_of, stepped, part_line, part_due, with_seen}
use Rattle.dense_nest.specs.declared.nest.Nest.{Nest}
use Rattle.dense_nest.specs.declared.place.Due.TheVariants as due
use Rattle.dense_nest.specs.Telling as nest
use Rattle.dense_nest.specs.Goes as goes
use Rattle.dense_check.specs.declared.machine.DenseMachine.{DenseMachine}
use Rattle.dense_check.specs.Telling.{game_of, IsPart, Tells, TellsOf, PartGoes, IsGathered, with_remains, with_due, due_after, here_in}
use Rattle.dense_check.proofs.Going.{part_held, part_follows, part_by, with_nest, at_held, told_part, refuses, accepts, seen_none}
use Rattle.dense_check.proofs.Gathered.{gathered}

-- what is read stands at its scope
pub here_is : (m : DenseMachine) (d : Ledger) (b : Bool) → IsHere (game_of m) m.nest.entry.spot.number m.nest.remains.box (setting_of (game_of m) d) (here_in m b)
here_is m d b = record { game = refl; number = refl; later = refl; list = refl; left = refl }

-- by a number of it that is known to be that
pub here_at : (m : DenseMachine) (d : Ledger) (b : Bool) (i : ℕ) → i ≡ m.nest.entry.spot.number → IsHere (game_of m) i m.nest.remains.box (setting_of (game_of m) d) (here_in m b)
here_at m d b i e = subst (λ k. IsHere (game_of m) k m.nest.remains.box (setting_of (game_of m) d) (here_in m b)) (sym e) (here_is m d b)

-- ---- where the constraints in force end
block_above : (ss : List Scope) (i : ℕ) → i ≤ block_stop ss i
block_above [] i = omega arith
block_above (s ∷ ss) i = by s.kind (block_above ss (suc i))
  where
    by : (k : Kind) → suc i ≤ block_stop ss (suc i) → i ≤ of_kind k (block_stop ss (suc i)) i
    by Exists l = omega (arith, l)
    by Forall l = omega arith

block_within : (ss : List Scope) (i : ℕ) → block_stop ss i ≤ suc (i + length ss)
block_within [] i = omega arith
block_within (s ∷ ss) i = by s.kind (block_within ss (suc i))
  where
    by : (k : Kind) → block_stop ss (suc i) ≤ suc (suc i + length ss) → of_kind k (block_stop ss (suc i)) i ≤ suc (i + suc (length ss))
    by Exists l = omega (arith, l)
    by Forall l = omega arith

force_above : (ss : List Scope) (i : ℕ) → i ≤ force_stop ss i
force_above [] i = omega arith
force_above (s ∷ ss) i = by s.kind (block_above ss (suc i))
  where
    by : (k : Kind) → suc i ≤ block_stop ss (suc i) → i ≤ of_kind k (block_stop ss (suc i)) (suc i)
    by Exists l = omega (arith, l)
    by Forall l = omega arith

force_within : (ss : List Scope) (i : ℕ) → force_stop ss i ≤ suc (i + length ss)
force_within [] i = omega arith
force_within (s ∷ ss) i = by s.kind (block_within ss (suc i))
  where
    by : (k : Kind) → block_stop ss (suc i) ≤ suc (suc i + length ss) → of_kind k (block_stop ss (suc i)) (suc i) ≤ suc (i + suc (length ss))
    by Exists l = omega (arith, l)
    by Forall l = omega arith

pub stop_above : (g : Game) (us : List Given) (i : ℕ) → i ≤ length g.scopes → i ≤ joint_stop g us (drop i g.scopes) i
stop_above g us i l = by (is_joint g us (drop i g.scopes) i)
  where
    by : (b : Bool) → i ≤ cond b (suc (length g.scopes)) (force_stop (drop i g.scopes) i)
    by true = omega (arith, l)
    by false = force_above (drop i g.scopes) i

pub stop_within : (g : Game) (us : List Given) (i : ℕ) → i ≤ length g.scopes → joint_stop g us (drop i g.scopes) i ≤ suc (length g.scopes)
stop_within g us i l = by (is_joint g us (drop i g.scopes) i)
  where
    by : (b : Bool) → cond b (suc (length g.scopes)) (force_stop (drop i g.scopes) i) ≤ suc (length g.scopes)
    by true = omega arith
    by false = omega (arith, force_within (drop i g.scopes) i, length-drop i g.scopes, l)

-- a greatest closed box has a value for each variable
pub closed_full : (t : Takes) (g : Game) (i stop : ℕ) (box now : Box) → greatest_closed t g i stop box ≡ Some now → has_empty now ≡ false
closed_full t g i stop box now e = of (has_empty ends) (is_hopeless t (constraints_within g i stop) ends) refl e
  where
    ends : Box
    ends = after_steps (closing_steps t g i stop box) box

    of : (a b : Bool) → has_empty ends ≡ a → cond (a || b) None (Some ends) ≡ Some now → has_empty now ≡ false
    of true b f q = cc
    of false true f q = cc
    of false false f q = let same : ends ≡ now = cc in subst (λ x. has_empty x ≡ false) same f

-- ---- the steps
-- where a step was in place, what it leaves stands there, and its marks were seen
step_told : (m : DenseMachine) (d x : Ledger) (bounded : Bool) (w : StepsRead) → w.placed ≡ true → IsPart m x → x ≡ record d { own = with_seen (map seen_bound w.marks) d.own } → here_in m bounded ≡ w.place →
    TellsOf (with_due (due.Part bounded) m) (stepped d w)
step_told m d x bounded w placed h e at =
    accepts (with_due (due.Part bounded) m) w.placed (record d { due = part_due w.place; own = with_seen (map seen_bound w.marks) d.own }) placed
    (subst (λ p. Tells (with_due (due.Part bounded) m) (record d { due = part_due p; own = with_seen (map seen_bound w.marks) d.own })) at
    (subst (λ y. Tells (with_due (due.Part bounded) m) (record y { due = part_due (here_in m bounded) })) e (told_part m bounded x h)))

abbrev IsClosedTo : Option Box → Bool → Box → Type 0
IsClosedTo o b box = MatchBool b (o ≡ Some box) (o ≡ None)

pub close_goes : (m n o : DenseMachine) (b bounded : Bool) → n ≡ with_remains n.nest.remains m → Follows m.nest.remains n.nest.remains → is_box_of (game_of m) n.nest.remains.box ≡ true →
    ((d : Ledger) → IsPart m d → (bounded : Bool) → MatchBool b (closed_box (setting_of (game_of m) d) (here_in m bounded) ≡ Some n.nest.remains.box) (closed_box (setting_of (game_of m) d) (here_in m bounded) ≡ None)) →
    o ≡ with_due (due_after b bounded) n → PartGoes m o (λ d. part_line (setting_of (game_of m) d) d (here_in m bounded) close_line)
close_goes m n o b bounded rest past declared closed last d h =
    subst (λ z. TellsOf z (part_line (setting_of (game_of m) d) d (here_in m bounded) close_line)) (sym (last ∙ ap (with_due (due_after b bounded)) rest)) (by b (closed d h bounded))
  where
    s : Held
    s = n.nest.remains

    by : (b : Bool) → IsClosedTo (closed_box (setting_of (game_of m) d) (here_in m bounded)) b s.box →
        TellsOf (with_due (due_after b bounded) (with_remains s m)) (stepped d (closing (here_in m bounded) (closed_box (setting_of (game_of m) d) (here_in m bounded))))
    by true e =
        subst (λ q. TellsOf (with_due (due.Part bounded) (with_remains s m)) (stepped d (closing (here_in m bounded) q))) (sym e)
        (step_told (with_remains s m) d d bounded (closing (here_in m bounded) (Some s.box)) refl (part_held m s d past declared h) (sym (seen_none d)) refl)
    by false e = subst (λ q. TellsOf (with_due due.Wrong (with_remains s m)) (stepped d (closing (here_in m bounded) q))) (sym e) refl

-- a bound
module _ (m : DenseMachine) (t : Held) (n : Nest) (bounded : Bool) (x : VarId) (lo hi best : ℤ) (past : Follows m.nest.remains t) (declared : is_box_of (game_of m) t.box ≡ true)
    (stays : goes.PartStays (at_held t m.nest) n (λ d. record d { own = with_seen (seen_bound best ∷ []) d.own })) (entry : n.entry ≡ m.nest.entry) (remains : n.remains ≡ t)
    (same : nest.game_of n ≡ game_of m)
  where
    abbrev Read : Ledger → StepsRead
    Read d = read_step (setting_of (game_of m) d) (bound x lo hi) (here_in m bounded)

    pub bound_goes : ((d : Ledger) → IsPart m d → true ≡ (Read d).placed) → ((d : Ledger) → IsPart m d → (Read d).marks ≡ best ∷ []) →
        ((d : Ledger) → IsPart m d → t.box ≡ (Read d).place.box) → PartGoes m (with_due (due.Part true) (with_nest n m)) (λ d. part_line (setting_of (game_of m) d) d (here_in m bounded) (bound_line x lo hi))
    bound_goes placed marks content d h =
        let seen : Ledger = record d { own = with_seen (seen_bound best ∷ []) d.own } in
        let there : nest.IsPart n d.given m.positions.boxes seen = stays d.given m.positions.boxes d (part_follows m.nest t d.given m.positions.boxes d past declared h.part) in
        let stands : IsPart (with_nest n m) seen = part_by m n d.given seen same h.knows there in
        let at : here_in (with_nest n m) true ≡ (Read d).place =
        ap (λ g. place_at g (part_spot n.entry true) n.remains.box) same
        ∙ (ap (λ e. place_at (game_of m) (part_spot e true) n.remains.box) entry
        ∙ ap (λ box. place_at (game_of m) (part_spot m.nest.entry true) box) (ap (λ (r : Held). r.box) remains ∙ content d h)) in
        let told : seen ≡ record d { own = with_seen (map seen_bound (Read d).marks) d.own } = ap (λ ms. record d { own = with_seen (map seen_bound ms) d.own }) (sym (marks d h)) in
        step_told (with_nest n m) d seen true (Read d) (sym (placed d h)) stands told at

-- it isn't in place
pub bound_refused : (m o : DenseMachine) (bounded : Bool) (x : VarId) (lo hi : ℤ) → o.nest.due ≡ due.Wrong → ((d : Ledger) → IsPart m d → false ≡ (read_step (setting_of (game_of m) d) (bound x lo hi) (here_in m bounded)).placed) →
    PartGoes m o (λ d. part_line (setting_of (game_of m) d) d (here_in m bounded) (bound_line x lo hi))
bound_refused m o bounded x lo hi wrong placed d h =
    let w = read_step (setting_of (game_of m) d) (bound x lo hi) (here_in m bounded) in
    refuses o w.placed (record d { due = part_due w.place; own = with_seen (map seen_bound w.marks) d.own }) (sym (placed d h)) wrong

-- a reply: with the values that were gathered of the tuple
module _ (m : DenseMachine) (bounded : Bool) (vs t : List ℤ) (few : length m.nest.remains.box ≤ 500) (g : IsGathered vs t) where
  abbrev Replies : Ledger → List ℤ → StepsRead
  Replies d us = read_step (setting_of (game_of m) d) (reply us) (here_in m bounded)

  reply_same : (d : Ledger) → (vs ≡ t) ⊎ (((Replies d vs).placed ≡ false) × ((Replies d t).placed ≡ false))
  reply_same d = by (gathered (game_of m) m.nest.entry.spot.number m.nest.remains.box vs t few g)
    where
      none : (us : List ℤ) (o : Option Tracked) → is_tuple_of (game_of m) m.nest.entry.spot.number m.nest.remains.box us ≡ false →
          (not (has_empty m.nest.remains.box) && (replying (setting_of (game_of m) d) (here_in m bounded) o (box_taken (game_of m) m.nest.entry.spot.number m.nest.remains.box us) us).placed) ≡ false
      none us None e = both (not (has_empty m.nest.remains.box)) false refl
        where
          both : (a b : Bool) → b ≡ false → (a && b) ≡ false
          both true b f = f
          both false b f = refl
      none us (Some w) e = both (not (has_empty m.nest.remains.box)) (is_tuple_of (game_of m) m.nest.entry.spot.number m.nest.remains.box us) e
        where
          both : (a b : Bool) → b ≡ false → (a && (b && all_hold (constraints_within (game_of m) m.nest.entry.spot.number (suc (suc m.nest.entry.spot.number))) (box_taken (game_of m) m.nest.entry.spot.number m.nest.remains.box us) && is_single (values_left (box_taken (game_of m) m.nest.entry.spot.number m.nest.remains.box us) w.variable))) ≡ false
          both true true f = cc
          both true false f = refl
          both false b f = refl

      by : (vs ≡ t) ⊎ ((is_tuple_of (game_of m) m.nest.entry.spot.number m.nest.remains.box vs ≡ false) × (is_tuple_of (game_of m) m.nest.entry.spot.number m.nest.remains.box t ≡ false)) →
          (vs ≡ t) ⊎ (((Replies d vs).placed ≡ false) × ((Replies d t).placed ≡ false))
      by (inl e) = inl e
      by (inr h) = inr (none vs (last_condition (here_in m bounded).later) h.0, none t (last_condition (here_in m bounded).later) h.1)

  marks_none : (d : Ledger) (us : List ℤ) → (Replies d us).marks ≡ []
  marks_none d us = by (last_condition (here_in m bounded).later)
    where
      by : (o : Option Tracked) → (replying (setting_of (game_of m) d) (here_in m bounded) o (box_taken (game_of m) m.nest.entry.spot.number m.nest.remains.box us) us).marks ≡ []
      by None = refl
      by (Some w) = refl

  place_is : (d : Ledger) (us : List ℤ) → with_box (Replies d us).place.box (here_in m bounded) ≡ (Replies d us).place
  place_is d us = by (last_condition (here_in m bounded).later)
    where
      by : (o : Option Tracked) → with_box (replying (setting_of (game_of m) d) (here_in m bounded) o (box_taken (game_of m) m.nest.entry.spot.number m.nest.remains.box us) us).place.box (here_in m bounded)
          ≡ (replying (setting_of (game_of m) d) (here_in m bounded) o (box_taken (game_of m) m.nest.entry.spot.number m.nest.remains.box us) us).place
      by None = refl
      by (Some w) = refl

  pub reply_goes : (o : DenseMachine) (s : Held) (b : Bool) → o ≡ with_due (due_after b bounded) (with_remains s m) → Follows m.nest.remains s → is_box_of (game_of m) s.box ≡ true →
      ((d : Ledger) → IsPart m d → b ≡ (Replies d vs).placed) → (b ≡ true → (d : Ledger) → IsPart m d → s.box ≡ (Replies d vs).place.box) →
      PartGoes m o (λ d. part_line (setting_of (game_of m) d) d (here_in m bounded) (reply_line t))
  reply_goes o s b last past declared placed content d h = by b last (placed d h) (λ e. content e d h)
    where
      there : (vs ≡ t) ⊎ (((Replies d vs).placed ≡ false) × ((Replies d t).placed ≡ false)) → (Replies d vs).placed ≡ true → s.box ≡ (Replies d vs).place.box → TellsOf (with_due (due.Part bounded) (with_remains s m)) (stepped d (Replies d t))
      there (inr x) e q = let no = x.0 in cc
      there (inl same) e q =
          subst (λ us. TellsOf (with_due (due.Part bounded) (with_remains s m)) (stepped d (Replies d us))) same
          (step_told (with_remains s m) d d bounded (Replies d vs) e (part_held m s d past declared h)
          (sym (ap (λ ms. record d { own = with_seen (map seen_bound ms) d.own }) (marks_none d vs) ∙ seen_none d)) (ap (λ box. with_box box (here_in m bounded)) q ∙ place_is d vs))

      by : (b : Bool) → o ≡ with_due (due_after b bounded) (with_remains s m) → b ≡ (Replies d vs).placed → (b ≡ true → s.box ≡ (Replies d vs).place.box) → TellsOf o (stepped d (Replies d t))
      by true l e q = subst (λ z. TellsOf z (stepped d (Replies d t))) (sym l) (there (reply_same d) (sym e) (q refl))
      by false l e q = refuses o (Replies d t).placed (record d { due = part_due (Replies d t).place; own = with_seen (map seen_bound (Replies d t).marks) d.own }) (no (reply_same d) e) (ap (λ (z : DenseMachine). z.nest.due) l)
        where
          no : (vs ≡ t) ⊎ (((Replies d vs).placed ≡ false) × ((Replies d t).placed ≡ false)) → false ≡ (Replies d vs).placed → (Replies d t).placed ≡ false
          no (inl same) e = subst (λ us. (Replies d us).placed ≡ false) same (sym e)
          no (inr x) e = x.1
