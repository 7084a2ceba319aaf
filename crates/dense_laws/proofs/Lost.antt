-- Ends and nodes that say that nobody goes on, and horizons.
use Rattle.std.proofs.Common.{◌≡◌, inl, inr, ℕ, suc, ◌+◌, ◌≤◌, true, false, not, ◌&&◌, List, [], ◌∷◌, ◌++◌, length, drop, refl, sym, ap, ◌∙◌, subst, arith, ℤ, Option, Some, None}
use Rattle.std.specs.Prelude.{is_none, nat_le}
use Rattle.std.proofs.lemmas.List.{length-drop}
use Rattle.std.proofs.lemmas.Bool.{and_parts}
use Rattle.qc_model.specs.declared.problem.ScopeId.{ScopeId}
use Rattle.qc_model.specs.declared.problem.Condition.{Condition}
use Rattle.qc_model.specs.declared.problem.Scope.{Scope}
use Rattle.qc_model.specs.Block.{block_stop, force_stop, constraints_within}
use Rattle.qc_model.specs.Domains.{InBox, has_empty}
use Rattle.qc_model.specs.Game.{before, IsMove}
use Rattle.qc_model.specs.Optimal.{Optimal}
use Rattle.qc_model.specs.Plan.{Plan}
use Rattle.qc_model.specs.Valid.{IsValid}
use Rattle.qc_model.specs.Verdict.{Verdict, lost, seen_node}
use Rattle.model_laws.specs.Positions.{existential, universal}
use Rattle.proof_meaning.proofs.Passing.{move_count}
use Rattle.proof_tree.specs.Good.{IsBlocked}
use Rattle.proof_tree.specs.InPlace.{is_nearer}
use Rattle.proof_tree.specs.Place.{is_goal, next_scopes}
use Rattle.dense_closing.specs.ClosingSteps.{greatest_closed}
use Rattle.dense_closing.specs.Takes.{takes_all, NoneClosedBy}
use Rattle.dense_meaning.specs.Throughout.{IsPositionIn, IsOptimalWithin}
use Rattle.dense_meaning.specs.Plays.{NeverStuck, IsPlay}
use Rattle.dense_meaning.proofs.FullBoxes.{full_values}
use Rattle.dense_meaning.proofs.Staying.{follow, never_front}
use Rattle.dense_tree.specs.Free.{takes, is_free_from, is_unrestricted, joint_stop}
use Rattle.dense_tree.specs.InPlace.{none_passes, is_ahead, horizon_placed, no_play_placed}
use Rattle.dense_tree.specs.Place.{Setting, Place, closed_box}
use Rattle.dense_tree.specs.Read.{with_horizon}
use Rattle.dense_laws.specs.Stands.{Stands, StandsNode, StandsPart}
use Rattle.dense_laws.specs.Says.{IsAt, NodeTold, OwnSays, AnswersSay}
use Rattle.dense_laws.proofs.Close.{declared_of}
use Rattle.dense_laws.proofs.FreeGames.{never_stuck, unrestricted_allows}
use Rattle.dense_laws.proofs.NoPlay.{none_playing, none_jointly, none_in_block, blocked_at}
use Rattle.dense_laws.proofs.Opponents.{after_lie, lost_answers}
use Rattle.dense_laws.proofs.Points.{none_is}
use Rattle.dense_laws.proofs.Small.{le_from}
use Rattle.dense_laws.proofs.Standing.{InForce, in_force, free_at}

none_found : {X : Type 0} (o : Option X) → is_none o ≡ true → o ≡ None
none_found None e = refl
none_found (Some x) e = cc

module _ (s : Setting) (valid : IsValid s.game) where
  left_from : (p : Place) → Stands s p → p.number + length p.later ≡ length s.game.scopes
  left_from p st = let l = st.number in omega (arith, ap length st.later, length-drop p.number s.game.scopes)

  passes_none : (p : Place) (k : ℕ) → Stands s p → none_passes s p k ≡ true → NoneClosedBy takes_all (constraints_within s.game p.number (suc k)) p.box
  passes_none p k st e = none_is takes_all s.game valid p.number (suc k) p.box st.box (none_found (greatest_closed takes_all s.game p.number (suc k) p.box) e)

  -- where no play is left no strategy is
  module _ (p : Place) (k : ScopeId) (st : Stands s p) (placed : no_play_placed s p k ≡ true) where
    free_here : is_free_from s.game s.given p.later p.number ≡ true
    free_here = (and_parts (is_free_from s.game s.given p.later p.number) (is_ahead p k.0) (and_parts (is_free_from s.game s.given p.later p.number && is_ahead p k.0) (none_passes s p k.0) placed).0).0

    none_here : NoneClosedBy takes_all (constraints_within s.game p.number (suc k.0)) p.box
    none_here = passes_none p k.0 st (and_parts (is_free_from s.game s.given p.later p.number && is_ahead p k.0) (none_passes s p k.0) placed).1

    near : suc k.0 ≤ suc (length s.game.scopes)
    near =
        let a = (and_parts (is_free_from s.game s.given p.later p.number) (is_ahead p k.0) (and_parts (is_free_from s.game s.given p.later p.number && is_ahead p k.0) (none_passes s p k.0) placed).0).1 in
        let l = le_from k.0 (p.number + length p.later) (and_parts (nat_le p.number k.0) (nat_le k.0 (p.number + length p.later)) a).1 in
        let m = left_from p st in omega arith

    stuck_never : NeverStuck s.game p.later p.number p.box
    stuck_never = never_stuck s.game valid s.given p.later p.number p.box st.box free_here

    pub no_strategy : (a : List ℤ) → IsPositionIn s.game p.number p.box a → (r : Plan) → ¬ IsOptimalWithin s.game p.later p.number p.box a r
    no_strategy a at r o =
        none_jointly s.game valid takes_all p.number (suc k.0) p.box st.box none_here st.number near (subst (λ ls. NeverStuck s.game ls p.number p.box) st.later stuck_never) a at r
        (subst (λ ls. Optimal s.game ls p.number a r) st.later o.optimal) o.lies

    pub no_play_told : NodeTold s p lost
    no_play_told = record { says = λ a at r o. no_strategy a at.position r o; loose = λ l. refl }

    -- nor after a tuple of the opponent's, who may take any
    pub dead_answers : (x : Option Condition) (later : List Scope) (e : p.later ≡ universal x ∷ later) → StandsPart s p → has_empty p.box ≡ false → is_unrestricted s.game p.number ≡ true → AnswersSay s p (seen_node lost ∷ [])
    dead_answers x later e part full free =
        lost_answers s valid p x later e (λ a at. (let t = full_values s.game p.number p.box full (declared_of s.game p.box st.box) a at.position in
        let m : IsMove s.game p.number a t.0 = record { is_tuple = t.1; is_allowed = unrestricted_allows s.game p.number (a ++ t.0) free } in
        (t.0, m, t.2, λ r o. after a t.0 at.position m t.2 r o)))
      where
        here : drop p.number s.game.scopes ≡ universal x ∷ later
        here = sym st.later ∙ e

        after : (a t : List ℤ) → IsPositionIn s.game p.number p.box a → IsMove s.game p.number a t → InBox (a ++ t) p.box → (r : Plan) → ¬ Optimal s.game (next_scopes p.later) (suc p.number) (a ++ t) r
        after a t at m j r o =
            let b : IsPositionIn s.game (suc p.number) p.box (a ++ t) = record { count = move_count s.game p.number a t at.count m; lies = j } in
            let lies = after_lie s valid p x later e part (a ++ t) b r o in
            let o2 : Optimal s.game later (suc p.number) (a ++ t) r = subst (λ ls. Optimal s.game (next_scopes ls) (suc p.number) (a ++ t) r) e o in
            let n = (subst (λ ls. NeverStuck s.game ls p.number p.box) e stuck_never).1 in
            let w = follow s.game later (suc (length later)) (suc p.number) p.box (never_front s.game later (suc (length later)) (suc p.number) p.box n) (a ++ t) b r o2 lies in
            none_playing s.game valid takes_all p.number (suc k.0) p.box st.box none_here st.number near a w.0 at.count
            (subst (λ ls. IsPlay s.game ls p.number a w.0) (sym here) (t, m, w.1)) w.2

  -- closing that finds nothing, at a scope of the player
  pub none_closed : (p : Place) (x : Option Condition) (later : List Scope) → p.later ≡ existential x ∷ later → StandsPart s p → closed_box s p ≡ None →
      (a : List ℤ) → IsAt s p a → (r : Plan) → ¬ IsOptimalWithin s.game p.later p.number p.box a r
  none_closed p x later e st found a at r o = by (in_force s p.later p.number)
    where
      stop : ℕ
      stop = joint_stop s.game s.given p.later p.number

      none : NoneClosedBy (takes s.game) (constraints_within s.game p.number stop) p.box
      none = none_is (takes s.game) s.game valid p.number stop p.box st.stands.box found

      by : InForce s p.later p.number stop → ⊥
      by (inl f) =
          none_jointly s.game valid (takes s.game) p.number stop p.box st.stands.box none st.stands.number (let q = f.0 in omega arith) (free_at s valid f.1 p.box st.stands.box p.number) a at.position r
          (subst (λ ls. Optimal s.game ls p.number a r) st.stands.later o.optimal) o.lies
      by (inr f) =
          let q : block_stop p.later p.number ≡ stop = ap (λ ls. block_stop ls p.number) e ∙ sym (f ∙ ap (λ ls. force_stop ls p.number) e) in
          none_in_block s.game valid (takes s.game) p.number stop p.box st.stands.box none p.later st.stands.later (left_from p st.stands) q
          (subst (λ n. has_empty (drop (before s.game n) p.box) ≡ false) q st.stands.behind) a at.position r o.optimal o.lies

  -- below a horizon that is in place
  module _ (p : Place) (n : StandsNode s p) where
    blocked_by : (h : Option ScopeId) → horizon_placed s h p ≡ true → (a : List ℤ) → IsPositionIn s.game p.number p.box a → IsBlocked s.game p.number a p.box p.horizon → IsBlocked s.game p.number a p.box (with_horizon h p).horizon
    blocked_by None e a at b = b
    blocked_by (Some k) e a at b =
        let q = and_parts (not (is_goal p.later) && is_ahead p k.0 && is_nearer k.0 p.horizon) (none_passes s p k.0) e in
        blocked_at s.game valid takes_all p.number k.0 p.box n.stands.box (passes_none p k.0 n.stands q.1) n.full a at.count

    pub horizon_stands : (h : Option ScopeId) → horizon_placed s h p ≡ true → StandsNode s (with_horizon h p)
    horizon_stands None e = n
    horizon_stands (Some k) e = record {
      stands = record {
        number = n.stands.number;
        later = n.stands.later;
        list = n.stands.list;
        box = n.stands.box;
        behind = n.stands.behind;
        strict = n.stands.strict;
        blocked = λ l a at. blocked_by (Some k) e a at (n.stands.blocked l a at);
      };
      full = n.full;
      moves = n.moves;
      strategies = n.strategies;
    }

    pub horizon_told : (h : Option ScopeId) → horizon_placed s h p ≡ true → (v : Verdict) → NodeTold s (with_horizon h p) v → NodeTold s p v
    horizon_told None e v t = t
    horizon_told (Some k) e v t = record {
      says = λ a at. t.says a (record { position = at.position; blocked = blocked_by (Some k) e a at.position at.blocked });
      loose = t.loose;
    }

    pub horizon_own : (h : Option ScopeId) → horizon_placed s h p ≡ true → (v : Verdict) (own : Option ℤ) → OwnSays s (with_horizon h p) v own → OwnSays s p v own
    horizon_own None e v own t = t
    horizon_own (Some k) e v own t = λ ex n o a at c later q r w.
        t ex n o a (record { position = at.position; blocked = blocked_by (Some k) e a at.position at.blocked }) c later q r w
