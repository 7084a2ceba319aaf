-- How what holds of a place goes on: into its scope's own tree, through steps and cases, and to the next node.
use Rattle.std.proofs.Common.{◌≡◌, ◌⊎◌, inl, inr, ℕ, suc, ◌+◌, ◌<◌, ◌≤◌, Bool, true, false, not, ◌&&◌, cond, List, [], ◌∷◌, ◌++◌, length, take, drop, refl, sym, ap, ◌∙◌, subst, arith, ℤ, Some, Option}
use Rattle.std.specs.Prelude.{slice_get}
use Rattle.std.specs.List.{list_all}
use Rattle.std.proofs.lemmas.Bool.{and_parts, or_parts}
use Rattle.qc_model.specs.declared.problem.Kind.{Kind}
use Rattle.qc_model.specs.declared.problem.Kind.TheVariants.{Exists, Forall}
use Rattle.qc_model.specs.declared.problem.Condition.{Condition}
use Rattle.qc_model.specs.declared.problem.Scope.{Scope}
use Rattle.qc_model.specs.Block.{of_kind, block_stop, force_stop}
use Rattle.qc_model.specs.Domains.{Box, declared_box, has_empty, is_sub_box}
use Rattle.qc_model.specs.Game.{before, part, IsMove}
use Rattle.qc_model.specs.Optimal.{Optimal}
use Rattle.qc_model.specs.Plan.{Plan}
use Rattle.qc_model.specs.Valid.{IsValid}
use Rattle.model_laws.specs.Positions.{existential, universal}
use Rattle.proof_meaning.proofs.Blocks.{blocked_less, blocked_next}
use Rattle.proof_meaning.proofs.Widths.{take_scope}
use Rattle.proof_tree.specs.Fair.{bounded_within}
use Rattle.proof_tree.specs.Place.{is_fixed, list_after, next_scopes}
use Rattle.dense_closing.proofs.Within.{sub_through}
use Rattle.dense_meaning.specs.Throughout.{IsPositionIn, PlaysLie, IsOptimalWithin}
use Rattle.dense_meaning.specs.Plays.{NeverStuck, KeepsFrom}
use Rattle.dense_tree.specs.Free.{is_free, is_free_from, is_joint, joint_stop, is_unrestricted}
use Rattle.dense_tree.specs.Place.{Setting, Place, with_box, place_below, closed_box, is_players, is_opponents}
use Rattle.dense_laws.specs.Stands.{MovesStay, StrategiesStay, Stands, StandsNode, StandsPart, at_most_one}
use Rattle.dense_laws.proofs.Close.{found_within, found_full, moves_stay, late_here, jointly, in_block, strategies_jointly, strategies_in_block}
use Rattle.dense_laws.proofs.FreeGames.{never_stuck, free_later}
use Rattle.dense_laws.proofs.Narrow.{moves_narrow, strategies_narrow}
use Rattle.dense_laws.proofs.Scopes.{scope_at, list_next, left_over}
use Rattle.dense_laws.proofs.Small.{full_drop, sub_in_box, ones_fewer, singles_ones, all_join}

pub and_true : (b : Bool) → (b && true) ≡ b
and_true true = refl
and_true false = refl

pub and_false : (b : Bool) → (b && false) ≡ false
and_false true = refl
and_false false = refl

-- whose scope it is
pub players_is : (p : Place) (x : Option Condition) (later : List Scope) → p.later ≡ existential x ∷ later → is_players p ≡ true
players_is p x later e = subst (λ ls. is_players (record p { later = ls }) ≡ true) (sym e) refl

pub no_opponents : (p : Place) (x : Option Condition) (later : List Scope) → p.later ≡ existential x ∷ later → is_opponents p ≡ false
no_opponents p x later e = subst (λ ls. is_opponents (record p { later = ls }) ≡ false) (sym e) refl

pub opponents_is : (p : Place) (x : Option Condition) (later : List Scope) → p.later ≡ universal x ∷ later → is_opponents p ≡ true
opponents_is p x later e = subst (λ ls. is_opponents (record p { later = ls }) ≡ true) (sym e) refl

pub no_players : (p : Place) (x : Option Condition) (later : List Scope) → p.later ≡ universal x ∷ later → is_players p ≡ false
no_players p x later e = subst (λ ls. is_players (record p { later = ls }) ≡ false) (sym e) refl

module _ (s : Setting) where
  -- a smaller box
  pub stands_in : (p : Place) (small : Box) → Stands s p → is_sub_box small p.box ≡ true → has_empty (drop (before s.game (block_stop p.later p.number)) small) ≡ false → Stands s (with_box small p)
  stands_in p small st sub full = record {
    number = st.number;
    later = st.later;
    list = st.list;
    box = sub_through small p.box (declared_box s.game) sub st.box;
    behind = full;
    strict = λ l. ones_fewer (before s.game p.number) small p.box sub (st.strict l);
    blocked = λ l a at.
        blocked_less s.game p.number a p.box small p.horizon (λ w h. sub_in_box w small p.box sub h)
        (st.blocked l a (record { count = at.count; lies = sub_in_box a small p.box sub at.lies }));
  }

  -- from a node into its scope's own tree
  pub into_part : (p : Place) → StandsNode s p → StandsPart s p
  into_part p n = record { stands = n.stands; full = λ _. n.full; moves = moves p.later n.moves; strategies = strategies p.later n.strategies }
    where
      moves : (ls : List Scope) → MovesStay s.game ls p.number p.box → MovesStay s.game (next_scopes ls) (suc p.number) p.box
      moves [] m = tt
      moves (sc ∷ later) m = m.1

      strategies : (ls : List Scope) → StrategiesStay s.game p.bounded ls p.number p.box → StrategiesStay s.game (p.bounded && is_players (record p { later = ls })) (next_scopes ls) (suc p.number) p.box
      strategies [] m = tt
      strategies (sc ∷ later) m = by sc.kind m.1
        where
          by : (k : Kind) → StrategiesStay s.game (bounded_within k p.bounded) later (suc p.number) p.box → StrategiesStay s.game (p.bounded && of_kind k true false) later (suc p.number) p.box
          by Exists m = subst (λ c. StrategiesStay s.game c later (suc p.number) p.box) (sym (and_true p.bounded)) m
          by Forall m = subst (λ c. StrategiesStay s.game c later (suc p.number) p.box) (sym (and_false p.bounded)) m

  -- a part as wide past the scope
  pub part_in : (p : Place) (small : Box) → StandsPart s p → is_sub_box small p.box ≡ true → has_empty (drop (before s.game (block_stop p.later p.number)) small) ≡ false →
      (is_opponents p ≡ true → has_empty small ≡ false) → KeepsFrom s.game (suc p.number) p.box small → StandsPart s (with_box small p)
  part_in p small st sub behind full keeps = record {
    stands = stands_in p small st.stands sub behind;
    full = full;
    moves = moves_narrow s.game p.box small (λ w h. sub_in_box w small p.box sub h) (next_scopes p.later) (suc p.number) keeps st.moves;
    strategies = strategies_narrow s.game p.box small (λ w h. sub_in_box w small p.box sub h) (p.bounded && is_players p) (next_scopes p.later) (suc p.number) keeps st.strategies;
  }

  -- a tuple of the scope leads to a position after it
  abbrev pub Enters : Place → Type 0
  Enters p = (b : List ℤ) → IsPositionIn s.game (suc p.number) p.box b → (a : List ℤ) × (t : List ℤ) × (b ≡ a ++ t) × IsPositionIn s.game p.number p.box a × IsMove s.game p.number a t

  -- from a leaf that goes on to the next node
  pub next_stands : (p : Place) (sc : Scope) (later : List Scope) → p.later ≡ sc ∷ later → StandsPart s p → has_empty p.box ≡ false →
      (p.loose ≡ false → is_fixed s.game p.number p.box ≡ true → Enters p) → StandsNode s (place_below s p)
  next_stands p sc later e st full enters = record {
    stands = record {
      number = (let l = here.2 in omega arith);
      later = ap next_scopes e ∙ sym here.1;
      list = ap (λ ls. list_after s.game ls p.list) st.stands.later ∙ ap (list_after s.game (drop p.number s.game.scopes)) st.stands.list ∙ list_next s.game p.number here.2;
      box = st.stands.box;
      behind = full_drop (before s.game (block_stop (next_scopes p.later) (suc p.number))) p.box full;
      strict = λ l. (let q = or_parts p.loose (not (is_fixed s.game p.number p.box)) l in
          subst (λ ds. list_all at_most_one ds ≡ true) (sym (take_scope s.game p.number p.box))
          (all_join at_most_one (take (before s.game p.number) p.box) (part s.game p.number p.box) (st.stands.strict q.0) (singles_ones (part s.game p.number p.box) (not_off q.1))));
      blocked = λ l b at. (let q = or_parts p.loose (not (is_fixed s.game p.number p.box)) l in
          let r = enters q.0 (not_off q.1) b at in
          blocked_next s.game p.number r.0 r.1 b p.box p.horizon r.2 r.4 (st.stands.blocked q.0 r.0 r.3));
    };
    full = full;
    moves = st.moves;
    strategies = st.strategies;
  }
    where
      here : (slice_get s.game.scopes p.number ≡ Some sc) × (drop (suc p.number) s.game.scopes ≡ later) × (p.number < length s.game.scopes)
      here = scope_at s.game.scopes p.number sc later (sym st.stands.later ∙ e)

      not_off : {b : Bool} → not b ≡ false → b ≡ true
      not_off {b = true} e = refl
      not_off {b = false} e = cc

  -- the constraints in force: in a free game all to the goal, or those of the block
  abbrev pub InForce : List Scope → ℕ → ℕ → Type 0
  InForce later i stop = ((stop ≡ suc (length s.game.scopes)) × (is_free s.game s.given ≡ true) × (is_joint s.game s.given later i ≡ true)) ⊎ (stop ≡ force_stop later i)

  pub in_force : (later : List Scope) (i : ℕ) → InForce later i (joint_stop s.game s.given later i)
  in_force later i = by later (is_joint s.game s.given later i) refl
    where
      by : (ls : List Scope) (b : Bool) → is_joint s.game s.given ls i ≡ b → InForce ls i (cond b (suc (length s.game.scopes)) (force_stop ls i))
      by [] true q = cc
      by (sc ∷ later) true q = inl (refl, (and_parts (is_free s.game s.given) (of_kind sc.kind true (is_unrestricted s.game i)) q).0, q)
      by ls false q = inr refl

  module _ (valid : IsValid s.game) where
    pub free_at : is_free s.game s.given ≡ true → (box : Box) → is_sub_box box (declared_box s.game) ≡ true → (j : ℕ) → NeverStuck s.game (drop j s.game.scopes) j box
    free_at f box d j =
        never_stuck s.game valid s.given (drop j s.game.scopes) j box d
        (subst (λ k. is_free_here (drop j s.game.scopes) k ≡ true) (let q : j + 0 ≡ j = omega arith in q) (free_later s.game s.given s.game.scopes j 0 f))
      where
        is_free_here : List Scope → ℕ → Bool
        is_free_here ls k = is_free_from s.game s.given ls k

    module _ (p : Place) (sc : Scope) (later : List Scope) (e : p.later ≡ sc ∷ later) (small : Box) (st : StandsPart s p) (found : closed_box s p ≡ Some small) where
      here_is : drop p.number s.game.scopes ≡ sc ∷ later
      here_is = sym st.stands.later ∙ e

      -- a part after closing
      pub closed_part : StandsPart s (with_box small p)
      closed_part = record {
        stands = stands_in p small st.stands (found_within s.game valid p.number stop p.box small st.stands.box found) (full_drop (before s.game (block_stop p.later p.number)) small full);
        full = λ _. full;
        moves = moves_stay s.game valid p.number stop p.box small st.stands.box found (next_scopes p.later) (suc p.number) next_is st.moves;
        strategies = by (in_force p.later p.number);
      }
        where
          stop : ℕ
          stop = joint_stop s.game s.given p.later p.number

          full : has_empty small ≡ false
          full = found_full s.game valid p.number stop p.box small st.stands.box found

          next_is : next_scopes p.later ≡ drop (suc p.number) s.game.scopes
          next_is = ap next_scopes e ∙ sym (scope_at s.game.scopes p.number sc later here_is).1

          left : suc p.number + length (next_scopes p.later) ≡ length s.game.scopes
          left = ap (λ ls. suc p.number + length (next_scopes ls)) e ∙ left_over s.game.scopes p.number sc later here_is

          flag : Bool
          flag = p.bounded && is_players p

          forced : stop ≡ force_stop p.later p.number → (block_stop (next_scopes p.later) (suc p.number) ≡ stop) ⊎ (stop ≤ suc p.number)
          forced q = kind sc.kind (q ∙ ap (λ ls. force_stop ls p.number) e)
            where
              kind : (k : Kind) → stop ≡ of_kind k (block_stop later (suc p.number)) (suc p.number) → (block_stop (next_scopes p.later) (suc p.number) ≡ stop) ⊎ (stop ≤ suc p.number)
              kind Exists q = inl (ap (λ ls. block_stop (next_scopes ls) (suc p.number)) e ∙ sym q)
              kind Forall q = inr (omega arith)

          by : InForce p.later p.number stop → StrategiesStay s.game flag (next_scopes p.later) (suc p.number) small
          by (inl f) =
              strategies_jointly s.game valid p.number stop p.box small st.stands.box found f.0 (free_at f.1 p.box st.stands.box) flag (next_scopes p.later) (suc p.number) next_is st.strategies
          by (inr f) = strategies_in_block s.game valid p.number stop p.box small st.stands.box found flag (next_scopes p.later) (suc p.number) next_is left (forced f) st.strategies

    -- at a scope of the player a strategy that lies in the box lies in what closing leaves
    pub closed_lies : (p : Place) (x : Option Condition) (later : List Scope) → p.later ≡ existential x ∷ later → (small : Box) → StandsPart s p → closed_box s p ≡ Some small →
        (a : List ℤ) → IsPositionIn s.game p.number p.box a → (r : Plan) → IsOptimalWithin s.game p.later p.number p.box a r → IsOptimalWithin s.game p.later p.number small a r
    closed_lies p x later e small st found a at r o = record { optimal = o.optimal; lies = by (in_force p.later p.number) }
      where
        stop : ℕ
        stop = joint_stop s.game s.given p.later p.number

        left : p.number + length p.later ≡ length s.game.scopes
        left = let q = left_over s.game.scopes p.number (existential x) later (sym st.stands.later ∙ e) in let l = ap length e in omega arith

        by : InForce p.later p.number stop → PlaysLie small a r
        by (inl f) =
            jointly s.game valid p.number stop p.box small st.stands.box found 0 p.number (late_here s.game valid p.number stop p.box small st.stands.box found) st.stands.number a at (λ w t q. tt) f.0
            (free_at f.1 p.box st.stands.box p.number) r (subst (λ ls. Optimal s.game ls p.number a r) st.stands.later o.optimal) o.lies
        by (inr f) =
            in_block s.game valid p.number stop p.box small st.stands.box found 0 p.number (late_here s.game valid p.number stop p.box small st.stands.box found) st.stands.number a at (λ w t q. tt)
            p.later st.stands.later left (ap (λ ls. block_stop ls p.number) e ∙ sym (f ∙ ap (λ ls. force_stop ls p.number) e)) r o.optimal o.lies
