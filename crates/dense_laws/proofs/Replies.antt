-- A tuple that the owner of the last scope can count on.
use Rattle.std.proofs.Common.{◌≡◌, inl, inr, ℕ, suc, ◌<◌, ◌≤◌, ◌==◌, true, false, not, ◌&&◌, List, [], ◌∷◌, ◌++◌, length, drop, set, refl, sym, ap, ◌∙◌, subst, arith, ℤ, pos, Some, Option, None}
use Rattle.std.specs.Prelude.{slice_index_or, nat_le, nat_lt}
use Rattle.std.proofs.lemmas.Bool.Decides.{nat_tests}
use Rattle.std.proofs.lemmas.Bool.{not_from_false}
use Rattle.qc_model.specs.declared.problem.Kind.{Kind}
use Rattle.qc_model.specs.declared.problem.Kind.TheVariants.{Exists, Forall}
use Rattle.qc_model.specs.declared.problem.VarId.{VarId}
use Rattle.qc_model.specs.declared.problem.Target.{Target}
use Rattle.qc_model.specs.declared.problem.Target.TheVariants.{Var, Aggregate as Agg}
use Rattle.qc_model.specs.declared.problem.Condition.{Condition}
use Rattle.qc_model.specs.declared.problem.Scope.{Scope}
use Rattle.qc_model.specs.Block.{block_stop, is_owned_within, constraints_within}
use Rattle.qc_model.specs.Content.{Game, Rule}
use Rattle.qc_model.specs.Domains.{InBox, Box, Values, declared_box, values_left, least_value, is_single, has_empty, is_sub_box}
use Rattle.qc_model.specs.Game.{before, part, restriction, allows, IsMove}
use Rattle.qc_model.specs.Lists.{Among, LiesIn}
use Rattle.qc_model.specs.Optimal.{is_better, Optimal}
use Rattle.qc_model.specs.Plan.{Plan, finish, choose, answer}
use Rattle.qc_model.specs.Sees.{IsVisible, SeesRight}
use Rattle.qc_model.specs.Valid.{IsValid}
use Rattle.qc_model.specs.Value.{value}
use Rattle.qc_model.proofs.Before.{before_up}
use Rattle.qc_model.proofs.Moves.{of_filter, among_filter}
use Rattle.model_arguments.proofs.Boxes.{sub_kept}
use Rattle.model_laws.specs.Positions.{optimising}
use Rattle.model_laws.proofs.Listed.{all_to}
use Rattle.lemma_list.specs.Entailment.{entailed_by}
use Rattle.proof_meaning.proofs.Passing.{move_count}
use Rattle.proof_meaning.proofs.Premises.{sound_of}
use Rattle.proof_meaning.proofs.Standing.{sees_from}
use Rattle.proof_tree.specs.Place.{Tracked, next_scopes}
use Rattle.dense_closing.proofs.Within.{sub_self}
use Rattle.dense_meaning.specs.Throughout.{IsPositionIn, PlaysLie, IsOptimalWithin}
use Rattle.dense_meaning.proofs.Bits.{all_from}
use Rattle.dense_meaning.proofs.Targets.{left_at, value_left, lie_kept}
use Rattle.dense_tree.specs.Place.{Setting, Place, with_box, is_players, is_opponents}
use Rattle.dense_tree.specs.Steps.{last_condition, target_variable, no_worse}
use Rattle.dense_tree.specs.Tuples.{all_hold, is_tuple_of, box_taken}
use Rattle.dense_laws.specs.Stands.{MovesStay, StrategiesStay, StandsPart}
use Rattle.dense_laws.proofs.FreeGames.{are_in, in_taken, entailed_allows}
use Rattle.dense_laws.proofs.Scopes.{scope_at, none_after}
use Rattle.dense_laws.proofs.Small.{clash, drop_set, sub_in_box}
use Rattle.dense_laws.proofs.Standing.{stands_in, no_opponents}
use Rattle.dense_laws.proofs.Tuple.{part_declared, tuple_lies, tuple_long}

within_two : (i j o : ℕ) → (i ≤ j) → j < suc (suc i) → (o == j) ≡ true → (nat_le i o && nat_lt o (suc (suc i))) ≡ true
within_two i j o l m e = grind (arith, nat_tests)

-- of the constraints of a scope and the next one's
part_holds : (g : Game) (i j : ℕ) (box : Box) → i ≤ j → j < suc (suc i) → all_hold (constraints_within g i (suc (suc i))) box ≡ true → all_hold (restriction g j) box ≡ true
part_holds g i j box l m h = all_from (λ c. entailed_by c box) (restriction g j) each
  where
    each : (c : Rule) → Among c (restriction g j) → entailed_by c box ≡ true
    each c n =
        let q = of_filter (λ (x : Rule). x.owner.0 == j) c g.constraints n in
        all_to (λ c. entailed_by c box) (constraints_within g i (suc (suc i))) h c (among_filter (is_owned_within i (suc (suc i))) c g.constraints q.0 (within_two i j c.owner.0 l m q.1))

single_is : (d : Values) (v : ℤ) → is_single d ≡ true → Among v d → v ≡ least_value d
single_is [] v e m = absurd m
single_is (u ∷ []) v e (inl q) = q
single_is (u ∷ []) v e (inr m) = absurd m
single_is (u ∷ w ∷ d) v e m = cc

-- the last scope, with its condition
pub record LastIs (ls : List Scope) (w : Tracked) : Type 0 where
  pub condition : Condition
  pub scopes : ls ≡ optimising condition ∷ []
  pub variable : VarId
  pub target : condition.target ≡ Var variable
  pub same : w ≡ record { sense = condition.sense; variable = variable.0 }

pub last_is : (ls : List Scope) (w : Tracked) → last_condition ls ≡ Some w → LastIs ls w
last_is [] w q = cc
last_is (sc ∷ t ∷ later) w q = cc
last_is (sc ∷ []) w q = by sc.kind sc.condition q
  where
    by : (k : Kind) (x : Option Condition) → last_condition (record { kind = k; condition = x } ∷ []) ≡ Some w → LastIs (record { kind = k; condition = x } ∷ []) w
    by Exists None q = cc
    by Exists (Some c) q = at c.target refl q
      where
        at : (t : Target) → c.target ≡ t → target_variable c.sense t ≡ Some w → LastIs (optimising c ∷ []) w
        at (Var z) k q = record { condition = c; scopes = refl; variable = z; target = k; same = (let r : record { sense = c.sense; variable = z.0 } ≡ w = cc in sym r) }
        at (Agg n) k q = cc
    by Forall x q = cc

module _ (s : Setting) (valid : IsValid s.game) (p : Place) (st : StandsPart s p) (w : Tracked) (it : LastIs p.later w) (t : List ℤ) (placed : is_tuple_of s.game p.number p.box t ≡ true)
    (holds : all_hold (constraints_within s.game p.number (suc (suc p.number))) (box_taken s.game p.number p.box t) ≡ true) (single : is_single (values_left (box_taken s.game p.number p.box t) it.variable.0) ≡ true) where
  abbrev pub z : ℤ
  z = least_value (values_left (box_taken s.game p.number p.box t) it.variable.0)

  here_is : drop p.number s.game.scopes ≡ optimising it.condition ∷ []
  here_is = sym st.stands.later ∙ it.scopes

  last : suc p.number ≡ length s.game.scopes
  last = let q = scope_at s.game.scopes p.number (optimising it.condition) [] here_is in none_after s.game.scopes (suc p.number) q.1 (let l = q.2 in omega arith)

  visible : IsVisible s.game [] (suc p.number) (Var it.variable)
  visible =
      let v : SeesRight s.game (optimising it.condition ∷ []) p.number = subst (λ ls. SeesRight s.game ls p.number) here_is (sees_from s.game valid p.number) in
      subst (IsVisible s.game [] (suc p.number)) it.target v.0

  abbrev pub worse_go : Values
  worse_go = no_worse it.condition.sense z (values_left p.box it.variable.0)

  module _ (a : List ℤ) (at : IsPositionIn s.game p.number p.box a) where
    own : LiesIn t (part s.game p.number p.box)
    own = are_in (part s.game p.number p.box) t placed

    inside : InBox (a ++ t) p.box
    inside = tuple_lies s.game p.number a t p.box at.count at.lies own

    declared : InBox (a ++ t) (declared_box s.game)
    declared = sub_in_box (a ++ t) p.box (declared_box s.game) st.stands.box inside

    count : length (a ++ t) ≡ before s.game (suc p.number)
    count = tuple_long s.game p.number a t at.count (part_declared s.game p.number p.box st.stands.box t own)

    taken : InBox (a ++ t) (box_taken s.game p.number p.box t)
    taken = in_taken s.game p.number p.box a t at.count at.lies

    move : IsMove s.game p.number a t
    move = record {
      is_tuple = part_declared s.game p.number p.box st.stands.box t own;
      is_allowed = entailed_allows s.game valid p.number (box_taken s.game p.number p.box t) (a ++ t) count declared taken
          (part_holds s.game p.number p.number (box_taken s.game p.number p.box t) (omega arith) (omega arith) holds);
    }

    wins : allows s.game (suc p.number) (a ++ t) ≡ true
    wins =
        let goal : before s.game (suc p.number) ≡ before s.game (suc (suc p.number)) = ap (before s.game) last ∙ sym (sound_of s.game valid).ordered.goal ∙ ap (λ j. before s.game (suc j)) (sym last) in
        entailed_allows s.game valid (suc p.number) (box_taken s.game p.number p.box t) (a ++ t) (count ∙ goal) declared taken
        (part_holds s.game p.number (suc p.number) (box_taken s.game p.number p.box t) (omega arith) (omega arith) holds)

    reached : slice_index_or (a ++ t) it.variable.0 (pos 0) ≡ z
    reached =
        let n = count in
        let v : it.variable.0 < before s.game (suc p.number) = visible in
        single_is (values_left (box_taken s.game p.number p.box t) it.variable.0) (slice_index_or (a ++ t) it.variable.0 (pos 0)) single (left_at (a ++ t) (box_taken s.game p.number p.box t) it.variable.0 (omega arith) taken)

    -- so no strategy in the box has a worse value
    stays : (r : Plan) → Optimal s.game (optimising it.condition ∷ []) p.number a r → PlaysLie p.box a r → PlaysLie (set p.box it.variable.0 worse_go) a r
    stays finish o l = absurd o
    stays (answer es) o l = absurd o
    stays (choose u q) o l =
        let n = move_count s.game p.number a u at.count o.is_move in
        let b = o.best t finish move (tt, wins) in
        let k : is_better it.condition.sense z (value s.game q (Var it.variable) (a ++ u)) ≡ false =
        subst (λ v. is_better it.condition.sense v (value s.game q (Var it.variable) (a ++ u)) ≡ false) reached
        (subst (λ y. is_better it.condition.sense (value s.game finish y (a ++ t)) (value s.game q y (a ++ u)) ≡ false) it.target b) in
        let m = value_left s.game [] (suc p.number) it.variable p.box (a ++ u) q n visible o.after l in
        lie_kept s.game [] (suc p.number) it.variable p.box worse_go (a ++ u) q n visible o.after l
        (among_filter (λ v. not (is_better it.condition.sense z v)) (value s.game q (Var it.variable) (a ++ u)) (values_left p.box it.variable.0) m (not_from_false (is_better it.condition.sense z (value s.game q (Var it.variable) (a ++ u))) k))

  pub reply_lies : (a : List ℤ) → IsPositionIn s.game p.number p.box a → (r : Plan) → IsOptimalWithin s.game p.later p.number p.box a r → IsOptimalWithin s.game p.later p.number (set p.box it.variable.0 worse_go) a r
  reply_lies a at r o = record { optimal = o.optimal; lies = stays a at r (subst (λ ls. Optimal s.game ls p.number a r) it.scopes o.optimal) o.lies }

  pub reply_sub : is_sub_box (set p.box it.variable.0 worse_go) p.box ≡ true
  reply_sub = sub_kept (λ v. not (is_better it.condition.sense z v)) p.box p.box it.variable.0 (sub_self p.box (declared_box s.game) st.stands.box)

  pub reply_part : StandsPart s (with_box (set p.box it.variable.0 worse_go) p)
  reply_part = record {
    stands = stands_in s p (set p.box it.variable.0 worse_go) st.stands reply_sub
        (subst (λ ds. has_empty ds ≡ false) (sym (drop_set (before s.game (block_stop p.later p.number)) it.variable.0 worse_go p.box below)) st.stands.behind);
    full = λ f. clash (is_opponents p) f (no_opponents p (Some it.condition) [] it.scopes);
    moves = subst (λ ls. MovesStay s.game (next_scopes ls) (suc p.number) (set p.box it.variable.0 worse_go)) (sym it.scopes) tt;
    strategies = subst (λ ls. StrategiesStay s.game (p.bounded && is_players p) (next_scopes ls) (suc p.number) (set p.box it.variable.0 worse_go)) (sym it.scopes) tt;
  }
    where
      below : it.variable.0 < before s.game (block_stop p.later p.number)
      below =
          let v : it.variable.0 < before s.game (suc p.number) = visible in
          let up = before_up s.game (suc p.number) in
          subst (λ ls. it.variable.0 < before s.game (block_stop ls p.number)) (sym it.scopes) (omega arith)
