-- A variable of the block that loses values, and one whose values worse than what its owner can have go.
use Rattle.std.proofs.Common.{◌≡◌, ◌⊎◌, inl, inr, ℕ, zero, suc, ◌<◌, ◌≤◌, Bool, true, false, cond, List, [], ◌∷◌, ◌++◌, length, take, set, refl, sym, ap, subst, arith, ℤ, pos, Some, Option, None}
use Rattle.std.specs.Prelude.{slice_index_or, is_some}
use Rattle.std.proofs.lemmas.List.{length-take}
use Rattle.qc_model.specs.declared.problem.Kind.{Kind}
use Rattle.qc_model.specs.declared.problem.Kind.TheVariants.{Exists, Forall}
use Rattle.qc_model.specs.declared.problem.VarId.{VarId}
use Rattle.qc_model.specs.declared.problem.Target.TheVariants.{Var}
use Rattle.qc_model.specs.declared.problem.Condition.{Condition}
use Rattle.qc_model.specs.declared.problem.Scope.{Scope}
use Rattle.qc_model.specs.Block.{of_kind, block_stop}
use Rattle.qc_model.specs.Content.{Game}
use Rattle.qc_model.specs.Domains.{InBox, Box, values_left}
use Rattle.qc_model.specs.Game.{before}
use Rattle.qc_model.specs.Lists.{Among}
use Rattle.qc_model.specs.Optimal.{Optimal, ChoosesBest}
use Rattle.qc_model.specs.Plan.{Plan, finish, choose, answer, Turn, Covers}
use Rattle.qc_model.specs.Sees.{IsVisible, IsVisibleHere, AtUniversal}
use Rattle.qc_model.proofs.Before.{before_up}
use Rattle.proof_meaning.proofs.Boxes.{some_widen}
use Rattle.proof_meaning.proofs.FreeFront.{before_wider, free_above}
use Rattle.proof_meaning.proofs.Passing.{move_count}
use Rattle.proof_meaning.proofs.Reach.{reach, value_reach}
use Rattle.proof_meaning.proofs.Taken.{taken_less, still_in}
use Rattle.proof_tree.specs.Fair.{free_stop, bounded_within}
use Rattle.dense_meaning.specs.Plays.{KeepsFrom}
use Rattle.dense_meaning.proofs.PlansLie.{lie_part}
use Rattle.dense_meaning.proofs.Targets.{lie_kept}
use Rattle.dense_laws.specs.Stands.{OpponentStays, MovesStay, OptimalStay, StrategiesStay, kept_to}
use Rattle.dense_laws.proofs.Narrow.{moves_narrow, strategies_narrow}

-- free scopes are of the block
pub block_above : (later : List Scope) (i : ℕ) → i ≤ block_stop later i
block_above [] i = omega arith
block_above (s ∷ later) i = by s.kind (block_above later (suc i))
  where
    by : (k : Kind) → suc i ≤ block_stop later (suc i) → i ≤ of_kind k (block_stop later (suc i)) i
    by Exists l = omega arith
    by Forall l = omega arith

pub free_in_block : (later : List Scope) (i : ℕ) → free_stop later i ≤ block_stop later i
free_in_block [] i = omega arith
free_in_block (s ∷ later) i = by s.kind s.condition (free_in_block later (suc i)) (block_above later (suc i))
  where
    by : (k : Kind) (c : Option Condition) → free_stop later (suc i) ≤ block_stop later (suc i) → suc i ≤ block_stop later (suc i) → of_kind k (cond (is_some c) i (free_stop later (suc i))) i ≤ of_kind k (block_stop later (suc i)) i
    by Exists None l m = l
    by Exists (Some c) l m = omega arith
    by Forall c l m = omega arith

-- below a bound less is said
pub weaker : (g : Game) (b : Bool) (later : List Scope) (i : ℕ) (box : Box) → StrategiesStay g b later i box → StrategiesStay g true later i box
weaker g true later i box m = m
weaker g false [] i box m = tt
weaker g false (s ∷ later) i box m = (here, by s.kind m.1 (weaker g false later (suc i) box))
  where
    here : OptimalStay g (s ∷ later) i (kept_to true (s ∷ later) i) box
    here a at r o h =
        m.0 a at r o (taken_less (before g i) (before g (free_stop (s ∷ later) i)) (reach a r) box (before_wider g i (free_stop (s ∷ later) i) (free_above (s ∷ later) i)) h)

    by : (k : Kind) → StrategiesStay g (bounded_within k false) later (suc i) box → (StrategiesStay g false later (suc i) box → StrategiesStay g true later (suc i) box) → StrategiesStay g (bounded_within k true) later (suc i) box
    by Exists m f = f m
    by Forall m f = m

-- a visible variable is one of the values that a strategy reaches
pub reach_long : (g : Game) (later : List Scope) (i : ℕ) (x : VarId) (a : List ℤ) (r : Plan) → length a ≡ before g i → IsVisible g later i (Var x) → Optimal g later i a r → x.0 < length (reach a r)
reach_long g [] i x a finish n v o = omega arith
reach_long g [] i x a (choose t r) n v o = absurd o.0
reach_long g [] i x a (answer l) n v o = absurd o.0
reach_long g (s ∷ later) i x a r n v o = by s.kind (λ t r n v o. reach_long g later (suc i) x (a ++ t) r n v o) v r o
  where
    by : (k : Kind) → ((t : List ℤ) (r : Plan) → length (a ++ t) ≡ before g (suc i) → IsVisible g later (suc i) (Var x) → Optimal g later (suc i) (a ++ t) r → x.0 < length (reach (a ++ t) r)) →
        AtUniversal k (IsVisibleHere g i (Var x)) (IsVisible g later (suc i) (Var x)) → (r : Plan) → Turn k r (ChoosesBest s.condition g i a (Optimal g later (suc i))) (Covers g i a (Optimal g later (suc i))) → x.0 < length (reach a r)
    by Exists f v finish o = absurd o
    by Exists f v (choose t r) o = f t r (move_count g i a t n o.is_move) v o.after
    by Exists f v (answer l) o = absurd o
    by Forall f v finish o = absurd o
    by Forall f v (choose t r) o = absurd o
    by Forall f v (answer l) o = omega arith

index_taken : (n x : ℕ) (w : List ℤ) → x < n → slice_index_or (take n w) x (pos 0) ≡ slice_index_or w x (pos 0)
index_taken zero x w l = absurd (omega arith)
index_taken (suc n) x [] l = refl
index_taken (suc n) zero (v ∷ w) l = refl
index_taken (suc n) (suc x) (v ∷ w) l = index_taken n x w (omega arith)

value_set : (ds : Box) (x : ℕ) (d w : List ℤ) → x < length w → InBox w (set ds x d) → Among (slice_index_or w x (pos 0)) d
value_set ds x d [] l h = absurd (omega arith)
value_set [] x d (v ∷ w) l h = absurd h
value_set (e ∷ ds) zero d (v ∷ w) l h = h.0
value_set (e ∷ ds) (suc x) d (v ∷ w) l h = value_set ds x d w (omega arith) h.1

module _ (g : Game) (box : Box) (x : VarId) (us : List ℤ) (some : (z : ℤ) → Among z us → Among z (values_left box x.0)) (last : ℕ) (below : x.0 < before g last) where
  sub : (w : List ℤ) → InBox w (set box x.0 us) → InBox w box
  sub w h = some_widen box x.0 us w some h

  keeps : (j : ℕ) → x.0 < before g j → KeepsFrom g j box (set box x.0 us)
  keeps j l w h k = still_in (before g j) x.0 us w box l h k

  -- at scope j of the block the variable isn't chosen yet, or it is
  abbrev pub Before : List Scope → ℕ → Type 0
  Before later j = (IsVisible g later j (Var x) × (free_stop later j ≡ last)) ⊎ (x.0 < before g j)

  before_next : (s : Scope) (later : List Scope) (j : ℕ) → s.kind ≡ Exists → Before (s ∷ later) j → Before later (suc j)
  before_next s later j e (inr l) = inr (let u = before_up g j in omega arith)
  before_next s later j e (inl h) = by s.kind s.condition e h.0 h.1
    where
      by : (k : Kind) (c : Option Condition) → k ≡ Exists → AtUniversal k (IsVisibleHere g j (Var x)) (IsVisible g later (suc j) (Var x)) → of_kind k (cond (is_some c) j (free_stop later (suc j))) j ≡ last → Before later (suc j)
      by Exists None e v q = inl (v, q)
      by Exists (Some c) e v q = inr (let u = before_up g j in let p : before g j ≡ before g last = ap (before g) q in omega arith)
      by Forall c e v q = cc

  before_universal : (s : Scope) (later : List Scope) (j : ℕ) → s.kind ≡ Forall → Before (s ∷ later) j → x.0 < before g j
  before_universal s later j e (inr l) = l
  before_universal s later j e (inl h) = by s.kind e h.0
    where
      by : (k : Kind) → k ≡ Forall → AtUniversal k (IsVisibleHere g j (Var x)) (IsVisible g later (suc j) (Var x)) → x.0 < before g j
      by Exists e v = cc
      by Forall e v = v

  pub bounded_moves : (later : List Scope) (j : ℕ) → Before later j → MovesStay g later j box → MovesStay g later j (set box x.0 us)
  bounded_moves [] j c m = tt
  bounded_moves (s ∷ later) j c m = by s.kind refl m (λ d k. bounded_moves later (suc j) d k)
    where
      by : (k : Kind) → s.kind ≡ k → MovesStay g (s ∷ later) j box → (Before later (suc j) → MovesStay g later (suc j) box → MovesStay g later (suc j) (set box x.0 us)) → MovesStay g (s ∷ later) j (set box x.0 us)
      by Exists e m rest = (subst (λ k. OpponentStays k g j (set box x.0 us)) (sym e) tt, rest (before_next s later j e c) m.1)
      by Forall e m rest = moves_narrow g box (set box x.0 us) sub (s ∷ later) j (keeps j (before_universal s later j e c)) m

  pub bounded_strategies : (later : List Scope) (j : ℕ) → Before later j → StrategiesStay g true later j box → StrategiesStay g true later j (set box x.0 us)
  bounded_strategies [] j c m = tt
  bounded_strategies (s ∷ later) j c m = (here c, by s.kind refl m.1 (λ d k. bounded_strategies later (suc j) d k))
    where
      here : Before (s ∷ later) j → OptimalStay g (s ∷ later) j (kept_to true (s ∷ later) j) (set box x.0 us)
      here (inr l) a at r o h =
          lie_part (before g j) box (set box x.0 us) (keeps j l) r a (let n = at.count in omega arith) at.lies
          (m.0 a (record { count = at.count; lies = sub a at.lies }) r o (sub (take (before g (kept_to true (s ∷ later) j)) (reach a r)) h))
      here (inl q) a at r o h =
          let lies = m.0 a (record { count = at.count; lies = sub a at.lies }) r o (sub (take (before g (kept_to true (s ∷ later) j)) (reach a r)) h) in
          let long = reach_long g (s ∷ later) j x a r at.count q.0 o in
          let same : before g (free_stop (s ∷ later) j) ≡ before g last = ap (before g) q.1 in
          let there : x.0 < length (take (before g (free_stop (s ∷ later) j)) (reach a r)) = omega (arith, length-take (before g (free_stop (s ∷ later) j)) (reach a r)) in
          let m = value_set box x.0 us (take (before g (free_stop (s ∷ later) j)) (reach a r)) there h in
          let e = index_taken (before g (free_stop (s ∷ later) j)) x.0 (reach a r) (omega arith) in
          lie_kept g (s ∷ later) j x box us a r at.count q.0 o lies
          (subst (λ v. Among v us) (sym (value_reach g r x a)) (subst (λ v. Among v us) e m))

      by : (k : Kind) → s.kind ≡ k → StrategiesStay g (bounded_within s.kind true) later (suc j) box → (Before later (suc j) → StrategiesStay g true later (suc j) box → StrategiesStay g true later (suc j) (set box x.0 us)) → StrategiesStay g (bounded_within s.kind true) later (suc j) (set box x.0 us)
      by Exists e m rest =
          subst (λ k. StrategiesStay g (bounded_within k true) later (suc j) (set box x.0 us)) (sym e)
          (rest (before_next s later j e c) (subst (λ k. StrategiesStay g (bounded_within k true) later (suc j) box) e m))
      by Forall e m rest =
          subst (λ k. StrategiesStay g (bounded_within k true) later (suc j) (set box x.0 us)) (sym e)
          (strategies_narrow g box (set box x.0 us) sub false later (suc j) (keeps (suc j) (let u = before_up g j in let l = before_universal s later j e c in omega arith))
          (subst (λ k. StrategiesStay g (bounded_within k true) later (suc j) box) e m))
