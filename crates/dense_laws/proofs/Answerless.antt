-- A move of the opponent's that has no answer.
use Rattle.std.proofs.Common.{◌≡◌, ◌⊎◌, inl, inr, ℕ, zero, suc, ◌<◌, ◌≤◌, true, false, ◌&&◌, ◌||◌, List, [], ◌∷◌, ◌++◌, length, drop, set, refl, sym, ap, ◌∙◌, subst, arith, ℤ, Option, Some}
use Rattle.std.specs.Prelude.{slice_get, nat_le, nat_lt}
use Rattle.std.specs.List.{list_any}
use Rattle.std.proofs.lemmas.Bool.Decides.{nat_tests}
use Rattle.std.proofs.lemmas.List.{length-set}
use Rattle.std.proofs.lemmas.Bool.{cases_lt, and_parts, or_cases}
use Rattle.qc_model.specs.declared.problem.Kind.{Kind}
use Rattle.qc_model.specs.declared.problem.Kind.TheVariants.{Exists, Forall}
use Rattle.qc_model.specs.declared.problem.Condition.{Condition}
use Rattle.qc_model.specs.declared.problem.Scope.{Scope}
use Rattle.qc_model.specs.Arguments.{variables_of}
use Rattle.qc_model.specs.Block.{of_kind, block_stop, force_stop, is_owned_within}
use Rattle.qc_model.specs.Closed.{refutes_at}
use Rattle.qc_model.specs.Content.{Game, Rule}
use Rattle.qc_model.specs.Domains.{InBox, Box, declared_box, values_left, least_value, greatest_value, has_empty, is_none_left}
use Rattle.qc_model.specs.Game.{before, IsMove}
use Rattle.qc_model.specs.Lists.{Among}
use Rattle.qc_model.specs.Optimal.{Optimal, ChoosesBest}
use Rattle.qc_model.specs.Plan.{Plan, finish, choose, answer, Turn, Covers}
use Rattle.qc_model.specs.Refuted.{refuted_by}
use Rattle.qc_model.specs.Valid.{IsValid}
use Rattle.qc_model.proofs.Moves.{of_filter, moves_from}
use Rattle.model_arguments.specs.Asked.{is_box_of}
use Rattle.model_arguments.proofs.Boxes.{some_left, set_full, sub_length}
use Rattle.model_arguments.proofs.Values.{has_least, has_greatest}
use Rattle.model_laws.specs.Positions.{existential, universal}
use Rattle.model_table.proofs.Fits.{any_at}
use Rattle.proof_meaning.proofs.Boxes.{some_widen, in_front}
use Rattle.proof_meaning.proofs.FreeFront.{before_wider}
use Rattle.proof_meaning.proofs.Narrowed.{past_set, within_some}
use Rattle.proof_meaning.proofs.Passing.{move_count}
use Rattle.proof_meaning.proofs.Premises.{sound_of}
use Rattle.proof_meaning.proofs.Taken.{still_in}
use Rattle.proof_tree.specs.Place.{owner_of, next_scopes}
use Rattle.dense_closing.proofs.Own.{own_place, rule_below}
use Rattle.dense_closing.proofs.Within.{sub_through}
use Rattle.dense_meaning.specs.Throughout.{IsPositionIn, PlaysLie, IsOptimalWithin}
use Rattle.dense_meaning.specs.Plays.{NeverStuck, OpponentHasMoves, GoesOn, IsDeclared}
use Rattle.dense_meaning.proofs.AfterScopes.{entry_at}
use Rattle.dense_meaning.proofs.Bits.{place_of, has_to}
use Rattle.dense_meaning.proofs.FullBoxes.{full_values}
use Rattle.dense_meaning.proofs.PlansLie.{lie_front}
use Rattle.dense_meaning.proofs.WholePlays.{whole}
use Rattle.dense_tree.specs.Free.{is_universal, is_unrestricted, joint_stop}
use Rattle.dense_tree.specs.InPlace.{is_open_move, is_answerless}
use Rattle.dense_tree.specs.Place.{Setting, Place, closed_box, forced}
use Rattle.dense_tree.specs.Read.{empty_leaves}
use Rattle.dense_laws.specs.Stands.{StandsPart}
use Rattle.dense_laws.specs.Says.{IsAt, ChoicesSay, AnswersSay}
use Rattle.dense_laws.proofs.Choices.{none_say}
use Rattle.dense_laws.proofs.Close.{declared_of, found_within, found_full, found_in, jointly}
use Rattle.dense_laws.proofs.FreeGames.{unrestricted_allows}
use Rattle.dense_laws.proofs.Narrow.{front_of}
use Rattle.dense_laws.proofs.Opponents.{after_lie, lost_answers}
use Rattle.dense_laws.proofs.Owned.{owner_is, owner_below, owner_place}
use Rattle.dense_laws.proofs.Replying.{in_or_not, none_owned, own_owner, forced_own, unrestricted_of, some_move, onto, late_next}
use Rattle.dense_laws.proofs.Scopes.{scope_at}
use Rattle.dense_laws.proofs.Small.{le_from, lt_from}
use Rattle.dense_laws.proofs.Standing.{InForce, in_force, free_at, closed_lies}

-- the scopes of a block are the player's
block_players : (g : Game) (later : List Scope) (j : ℕ) → later ≡ drop j g.scopes → j ≤ length g.scopes → (k : ℕ) → j ≤ k → k < block_stop later j → is_universal (slice_get g.scopes k) ≡ true → ⊥
block_players g [] j e le k l h u = none_there g.scopes j k e l u
  where
    none_there : (ss : List Scope) (j k : ℕ) → [] ≡ drop j ss → j ≤ k → is_universal (slice_get ss k) ≡ true → ⊥
    none_there [] j k e l u = cc
    none_there (s ∷ ss) zero k e l u = cc
    none_there (s ∷ ss) (suc j) zero e l u = absurd (omega arith)
    none_there (s ∷ ss) (suc j) (suc k) e l u = none_there ss j k e (omega arith) u
block_players g (sc ∷ later) j e le k l h u = by sc.kind refl h (λ n m. block_players g later (suc j) (sym here.1) (let q = here.2 in omega arith) k n m u)
  where
    here : (slice_get g.scopes j ≡ Some sc) × (drop (suc j) g.scopes ≡ later) × (j < length g.scopes)
    here = scope_at g.scopes j sc later (sym e)

    or_same : (j k : ℕ) → j ≤ k → (j ≡ k) ⊎ (suc j ≤ k)
    or_same j k l = grind arith

    by : (kind : Kind) → sc.kind ≡ kind → k < of_kind kind (block_stop later (suc j)) j → (suc j ≤ k → k < block_stop later (suc j) → ⊥) → ⊥
    by Exists q h f = elim (or_same j k l) [
      | inl n ↦ players (subst (λ o. is_universal o ≡ true) here.0 (subst (λ m. is_universal (slice_get g.scopes m) ≡ true) (sym n) u)) q
      | inr n ↦ f n h
    ]
      where
        players : is_universal (Some sc) ≡ true → sc.kind ≡ Exists → ⊥
        players u q = wrong (subst (λ z. of_kind z false true ≡ true) q u)
          where
            wrong : false ≡ true → ⊥
            wrong e = cc
    by Forall q h f = absurd (omega arith)

-- a move that has no answer, in a box that is closed
pub record Answerless (s : Setting) (p : Place) (box : Box) : Type 0 where
  pub place : ℕ
  pub rule : Rule
  pub there : slice_get s.game.constraints place ≡ Some rule
  pub owned : is_owned_within p.number (joint_stop s.game s.given p.later p.number) rule ≡ true
  pub variable : ℕ
  pub own : Among variable (variables_of rule.args)
  pub late : p.number ≤ owner_of (slice_get s.game.variables variable)
  pub universal : is_universal (slice_get s.game.scopes (owner_of (slice_get s.game.variables variable))) ≡ true
  pub free : is_unrestricted s.game (owner_of (slice_get s.game.variables variable)) ≡ true
  pub value : ℤ
  pub left : Among value (values_left box variable)
  pub refuted : refuted_by rule (set box variable (value ∷ [])) ≡ true

pub answerless_is : (s : Setting) → IsValid s.game → (p : Place) (box : Box) → is_box_of s.game box ≡ true → has_empty box ≡ false → list_any (is_answerless s p box) (forced s p) ≡ true → Answerless s p box
answerless_is s valid p box d full h = record {
  place = k.0;
  rule = c.0;
  there = k.1;
  owned = q.1;
  variable = x.0;
  own = x.1;
  late = le_from p.number (owner_of (slice_get s.game.variables x.0)) (and_parts (nat_le p.number (owner_of (slice_get s.game.variables x.0))) (is_universal (slice_get s.game.scopes (owner_of (slice_get s.game.variables x.0)))) m.0).0;
  universal = (and_parts (nat_le p.number (owner_of (slice_get s.game.variables x.0))) (is_universal (slice_get s.game.scopes (owner_of (slice_get s.game.variables x.0)))) m.0).1;
  free = m.1;
  value = end.0;
  left = end.1;
  refuted = end.2;
}
  where
    c : (r : Rule) × Among r (forced s p) × (is_answerless s p box r ≡ true)
    c = any_at (is_answerless s p box) (forced s p) h

    q : Among c.0 s.game.constraints × (is_owned_within p.number (joint_stop s.game s.given p.later p.number) c.0 ≡ true)
    q = of_filter (is_owned_within p.number (joint_stop s.game s.given p.later p.number)) c.0 s.game.constraints c.1

    k : (n : ℕ) × (slice_get s.game.constraints n ≡ Some c.0)
    k = place_of s.game.constraints c.0 q.0

    x : (y : ℕ) × Among y (variables_of c.0.args) × ((is_open_move s p.number y && (refutes_at c.0 box y (least_value (values_left box y)) || refutes_at c.0 box y (greatest_value (values_left box y)))) ≡ true)
    x = any_at (λ y. is_open_move s p.number y && (refutes_at c.0 box y (least_value (values_left box y)) || refutes_at c.0 box y (greatest_value (values_left box y)))) (variables_of c.0.args) c.2

    t : (is_open_move s p.number x.0 ≡ true) × ((refutes_at c.0 box x.0 (least_value (values_left box x.0)) || refutes_at c.0 box x.0 (greatest_value (values_left box x.0))) ≡ true)
    t = and_parts (is_open_move s p.number x.0) (refutes_at c.0 box x.0 (least_value (values_left box x.0)) || refutes_at c.0 box x.0 (greatest_value (values_left box x.0))) x.2

    m : ((nat_le p.number (owner_of (slice_get s.game.variables x.0)) && is_universal (slice_get s.game.scopes (owner_of (slice_get s.game.variables x.0)))) ≡ true) × (is_unrestricted s.game (owner_of (slice_get s.game.variables x.0)) ≡ true)
    m = and_parts (nat_le p.number (owner_of (slice_get s.game.variables x.0)) && is_universal (slice_get s.game.scopes (owner_of (slice_get s.game.variables x.0)))) (is_unrestricted s.game (owner_of (slice_get s.game.variables x.0))) t.0

    some : is_none_left (values_left box x.0) ≡ false
    some = some_left box x.0 full (own_place (length box) x.0 c.0.args (rule_below s.game valid box d k.0 c.0 k.1) x.1)

    end : (v : ℤ) × Among v (values_left box x.0) × (refuted_by c.0 (set box x.0 (v ∷ [])) ≡ true)
    end = elim (or_cases (refutes_at c.0 box x.0 (least_value (values_left box x.0))) (refutes_at c.0 box x.0 (greatest_value (values_left box x.0))) t.1) [
      | inl f ↦ (least_value (values_left box x.0), has_to (values_left box x.0) (least_value (values_left box x.0)) (has_least (values_left box x.0) some), f)
      | inr f ↦ (greatest_value (values_left box x.0), has_to (values_left box x.0) (greatest_value (values_left box x.0)) (has_greatest (values_left box x.0) some), f)
    ]

-- of each strategy in the box some play has the move, where the opponent is never stuck
module _ (g : Game) (valid : IsValid g) (small : Box) (d : is_box_of g small ≡ true) (full : has_empty small ≡ false) (x : ℕ) (v : ℤ) (left : Among v (values_left small x))
    (universal_owner : is_universal (slice_get g.scopes (owner_of (slice_get g.variables x))) ≡ true) (free : is_unrestricted g (owner_of (slice_get g.variables x)) ≡ true) where
  sub : (w : List ℤ) → InBox w (set small x (v ∷ [])) → InBox w small
  sub w j = some_widen small x (v ∷ []) w (λ z m. elim m [ inl e ↦ subst (λ u. Among u (values_left small x)) (sym e) left | inr n ↦ absurd n ]) j

  moved_declared : IsDeclared g (set small x (v ∷ []))
  moved_declared = record {
    size = length-set small x (v ∷ []) ∙ sub_length small (declared_box g) d;
    values = λ y u m. (declared_of g small d).values y u (within_some small x y (v ∷ []) u (λ z n. elim n [ inl e ↦ subst (λ k. Among k (values_left small x)) (sym e) left | inr k ↦ absurd k ]) m);
  }

  -- a tuple of another scope doesn't matter
  keeps_move : (k : ℕ) (b t : List ℤ) → length b ≡ before g k → length (b ++ t) ≡ before g (suc k) → (x < before g k) ⊎ (before g (suc k) ≤ x) → InBox b (set small x (v ∷ [])) → InBox (b ++ t) small → InBox (b ++ t) (set small x (v ∷ []))
  keeps_move k b t n m (inl l) h j = still_in (before g k) x (v ∷ []) (b ++ t) small l j (subst (λ u. InBox u (set small x (v ∷ []))) (sym (front_of (before g k) b t n)) h)
  keeps_move k b t n m (inr l) h j = past_set small x (v ∷ []) (b ++ t) (omega arith) j

  abbrev Plays : List Scope → ℕ → List ℤ → Type 0
  Plays later k b = (w : List ℤ) × GoesOn g later (suc (length later)) k b w × InBox w (set small x (v ∷ []))

  pub answer_play : (later : List Scope) (k : ℕ) → later ≡ drop k g.scopes → NeverStuck g later k small → (b : List ℤ) → length b ≡ before g k → InBox b (set small x (v ∷ [])) → (r : Plan) → Optimal g later k b r → PlaysLie small b r → Plays later k b
  answer_play [] k e n b c h r o l = (b, (refl, o.1), h)
  answer_play (sc ∷ later) k e n b c h r o l =
      by sc.kind refl n.0 r o l (λ t q m j o2 l2. answer_play later (suc k) (sym here.1) n.1 (b ++ t) m j q o2 l2)
    where
      here : (slice_get g.scopes k ≡ Some sc) × (drop (suc k) g.scopes ≡ later) × (k < length g.scopes)
      here = scope_at g.scopes k sc later (sym e)

      Next : Type 0
      Next = (t : List ℤ) (q : Plan) → length (b ++ t) ≡ before g (suc k) → InBox (b ++ t) (set small x (v ∷ [])) → Optimal g later (suc k) (b ++ t) q → PlaysLie small (b ++ t) q → Plays later (suc k) (b ++ t)

      on : Next → (t : List ℤ) (q : Plan) → IsMove g k b t → InBox (b ++ t) (set small x (v ∷ [])) → Optimal g later (suc k) (b ++ t) q → PlaysLie small (b ++ t) q → Plays (sc ∷ later) k b
      on f t q m j o l = let w = f t q (move_count g k b t c m) j o l in (w.0, (t, m, w.1), w.2)

      where_is : ((x < before g k) ⊎ (before g (suc k) ≤ x)) ⊎ (owner_of (slice_get g.variables x) ≡ k)
      where_is = elim (cases_lt x (before g k)) [
        | inl l ↦ inl (inl l)
        | inr l ↦ elim (cases_lt x (before g (suc k))) [ inl m ↦ inr (owner_is g valid k x l m) | inr m ↦ inl (inr m) ]
      ]

      not_players : sc.kind ≡ Exists → owner_of (slice_get g.variables x) ≡ k → ⊥
      not_players q m = wrong (subst (λ z. of_kind z false true ≡ true) q (subst (λ z. is_universal z ≡ true) here.0 (subst (λ z. is_universal (slice_get g.scopes z) ≡ true) m universal_owner)))
        where
          wrong : false ≡ true → ⊥
          wrong e = cc

      by : (kind : Kind) → sc.kind ≡ kind → OpponentHasMoves kind g k small → (r : Plan) → Turn kind r (ChoosesBest sc.condition g k b (Optimal g later (suc k))) (Covers g k b (Optimal g later (suc k))) → PlaysLie small b r → Next → Plays (sc ∷ later) k b
      by Exists q n finish o l f = absurd o
      by Exists q n (choose t r) o l f = elim where_is [
        | inl a ↦ on f t r o.is_move (keeps_move k b t c (move_count g k b t c o.is_move) a h (lie_front small r (b ++ t) l)) o.after l
        | inr a ↦ absurd (not_players q a)
      ]
      by Exists q n (answer es) o l f = absurd o
      by Forall q n finish o l f = absurd o
      by Forall q n (choose t r) o l f = absurd o
      by Forall q n (answer es) o l f = elim where_is [
        | inl a ↦ (let t = n b (record { count = c; lies = sub b h }) in
            let i = entry_at small (Optimal g later (suc k)) b t.0 es o.each l.1 (subst (Among t.0) (sym o.tuples) (moves_from g k b t.0 t.1)) in
            on f t.0 i.0 t.1 (keeps_move k b t.0 c (move_count g k b t.0 c t.1) a h (lie_front small i.0 (b ++ t.0) i.2)) i.1 i.2)
        | inr a ↦ (let t = full_values g k (set small x (v ∷ [])) (set_full small x (v ∷ []) full refl) moved_declared b (record { count = c; lies = h }) in
            let m : IsMove g k b t.0 = record { is_tuple = t.1; is_allowed = unrestricted_allows g k (b ++ t.0) (subst (λ z. is_unrestricted g z ≡ true) a free) } in
            let i = entry_at small (Optimal g later (suc k)) b t.0 es o.each l.1 (subst (Among t.0) (sym o.tuples) (moves_from g k b t.0 m)) in
            on f t.0 i.0 m t.2 i.1 i.2)
      ]

module _ (s : Setting) (valid : IsValid s.game) (p : Place) (st : StandsPart s p) (small : Box) (found : closed_box s p ≡ Some small) (a : Answerless s p small) where
  small_declared : is_box_of s.game small ≡ true
  small_declared = sub_through small p.box (declared_box s.game) (found_within s.game valid p.number (joint_stop s.game s.given p.later p.number) p.box small st.stands.box found) st.stands.box

  small_full : has_empty small ≡ false
  small_full = found_full s.game valid p.number (joint_stop s.game s.given p.later p.number) p.box small st.stands.box found

  below : a.variable < before s.game (suc a.rule.owner.0)
  below = own_place (before s.game (suc a.rule.owner.0)) a.variable a.rule.args ((sound_of s.game valid).ordered.visible a.place a.rule a.there) a.own

  range : (before s.game (owner_of (slice_get s.game.variables a.variable)) ≤ a.variable) × (a.variable < before s.game (suc (owner_of (slice_get s.game.variables a.variable))))
  range = owner_place s.game valid (suc a.rule.owner.0) a.variable below

  -- no strategy that lies in what closing leaves
  none_from : (k : ℕ) → k ≤ length s.game.scopes → k ≤ a.rule.owner.0 → joint_stop s.game s.given p.later p.number ≡ suc (length s.game.scopes) → NeverStuck s.game (drop k s.game.scopes) k small →
      (b : List ℤ) → length b ≡ before s.game k → InBox b (set small a.variable (a.value ∷ [])) → (r : Plan) → Optimal s.game (drop k s.game.scopes) k b r → PlaysLie small b r → ⊥
  none_from k le late all free b c h r o l =
      let w = answer_play s.game valid small small_declared small_full a.variable a.value a.left a.universal a.free (drop k s.game.scopes) k refl free b c h r o l in
      let j = sub s.game valid small small_declared small_full a.variable a.value a.left a.universal a.free w.0 w.2 in
      let q = whole s.game (sound_of s.game valid) k b w.0 small le (declared_of s.game small small_declared) c w.1 j in
      let near = lt_from a.rule.owner.0 (joint_stop s.game s.given p.later p.number) (and_parts (nat_le p.number a.rule.owner.0) (nat_lt a.rule.owner.0 (joint_stop s.game s.given p.later p.number)) a.owned).1 in
      let t = within k a.rule.owner.0 (suc (length s.game.scopes)) late (omega arith) in
      (sound_of s.game valid).table a.place a.rule (set small a.variable (a.value ∷ [])) w.0 a.there (q.passes.visible a.place a.rule a.there t) q.passes.declared a.refuted w.2 (q.passes.holds a.place a.rule a.there t)
    where
      within : (x y n : ℕ) → x ≤ y → y < n → (nat_le x y && nat_lt y n) ≡ true
      within x y n l m = grind (arith, nat_tests)

module _ (s : Setting) (valid : IsValid s.game) (p : Place) (st : StandsPart s p) (small : Box) (found : closed_box s p ≡ Some small) (h : list_any (is_answerless s p small) (forced s p) ≡ true) where
  declared_small : is_box_of s.game small ≡ true
  declared_small = sub_through small p.box (declared_box s.game) (found_within s.game valid p.number (joint_stop s.game s.given p.later p.number) p.box small st.stands.box found) st.stands.box

  full_small : has_empty small ≡ false
  full_small = found_full s.game valid p.number (joint_stop s.game s.given p.later p.number) p.box small st.stands.box found

  move : Answerless s p small
  move = answerless_is s valid p small declared_small full_small h

  owner_near : owner_of (slice_get s.game.variables move.variable) < suc move.rule.owner.0
  owner_near = owner_below s.game valid (suc move.rule.owner.0) move.variable (below s valid p st small found move)

  rule_near : move.rule.owner.0 < joint_stop s.game s.given p.later p.number
  rule_near = lt_from move.rule.owner.0 (joint_stop s.game s.given p.later p.number) (and_parts (nat_le p.number move.rule.owner.0) (nat_lt move.rule.owner.0 (joint_stop s.game s.given p.later p.number)) move.owned).1

  -- a position before the move may have it ahead
  position_in : (a : List ℤ) → length a ≡ before s.game p.number → InBox a small → InBox a (set small move.variable (move.value ∷ []))
  position_in a n j =
      let l = (range s valid p st small found move).0 in
      let w = before_wider s.game p.number (owner_of (slice_get s.game.variables move.variable)) move.late in
      past_set small move.variable (move.value ∷ []) a (omega arith) j

  -- at a scope of the player
  pub no_answer : (x : Option Condition) (later : List Scope) → p.later ≡ existential x ∷ later → ChoicesSay s p [] []
  no_answer x later e = none_say s p (λ a at r o. by a at r (closed_lies s valid p x later e small st found a at.position r o) (in_force s p.later p.number))
    where
      by : (a : List ℤ) → IsAt s p a → (r : Plan) → IsOptimalWithin s.game p.later p.number small a r → InForce s p.later p.number (joint_stop s.game s.given p.later p.number) → ⊥
      by a at r o (inl f) =
          none_from s valid p st small found move p.number st.stands.number (let l = owner_near in let m = move.late in omega arith) f.0 (free_at s valid f.1 small declared_small p.number) a at.position.count
          (position_in a at.position.count (lie_front small r a o.lies)) r (subst (λ ls. Optimal s.game ls p.number a r) st.stands.later o.optimal) o.lies
      by a at r o (inr f) =
          let q : joint_stop s.game s.given p.later p.number ≡ block_stop p.later p.number = f ∙ ap (λ ls. force_stop ls p.number) e ∙ sym (ap (λ ls. block_stop ls p.number) e) in
          let l = owner_near in
          let m = rule_near in
          block_players s.game p.later p.number st.stands.later st.stands.number (owner_of (slice_get s.game.variables move.variable)) move.late (omega arith) move.universal

  -- and at one of the opponent's
  pub no_answer_here : (x : Option Condition) (later : List Scope) → p.later ≡ universal x ∷ later → has_empty p.box ≡ false → AnswersSay s p (empty_leaves (is_unrestricted s.game p.number))
  no_answer_here x later e full = by (in_force s p.later p.number)
    where
      here_is : drop p.number s.game.scopes ≡ universal x ∷ later
      here_is = sym st.stands.later ∙ e

      next_is : next_scopes p.later ≡ drop (suc p.number) s.game.scopes
      next_is = ap next_scopes e ∙ sym (scope_at s.game.scopes p.number (universal x) later here_is).1

      by : InForce s p.later p.number (joint_stop s.game s.given p.later p.number) → AnswersSay s p (empty_leaves (is_unrestricted s.game p.number))
      by (inr f) =
          let o = own_owner s valid p x later e st full move.rule (forced_own s valid p x later e st full f) move.owned in
          let l = owner_near in
          let m = move.late in
          let same : owner_of (slice_get s.game.variables move.variable) ≡ p.number = omega arith in
          absurd (none_owned s.game p.number move.place move.rule (subst (λ k. is_unrestricted s.game k ≡ true) same move.free) move.there o)
      by (inl f) = subst (λ b. AnswersSay s p (empty_leaves b)) (sym u) (lost_answers s valid p x later e (λ a at. pick a at (in_or_not a small)))
        where
          u : is_unrestricted s.game p.number ≡ true
          u = unrestricted_of s valid p x later e st full f.2

          lies_small : (a t : List ℤ) → IsPositionIn s.game (suc p.number) p.box (a ++ t) → (r : Plan) → Optimal s.game (next_scopes p.later) (suc p.number) (a ++ t) r → PlaysLie small (a ++ t) r
          lies_small a t b r o =
              jointly s.game valid p.number (joint_stop s.game s.given p.later p.number) p.box small st.stands.box found 0 (suc p.number) (late_next s valid p x later e st full small found u) (scope_at s.game.scopes p.number (universal x) later here_is).2
              (a ++ t) b (λ w v k. tt) f.0 (free_at s valid f.1 p.box st.stands.box (suc p.number)) r (subst (λ ls. Optimal s.game ls (suc p.number) (a ++ t) r) next_is o) (after_lie s valid p x later e st (a ++ t) b r o)

          pick : (a : List ℤ) → IsAt s p a → InBox a small ⊎ (InBox a small → ⊥) → (t : List ℤ) × IsMove s.game p.number a t × InBox (a ++ t) p.box × ((r : Plan) → ¬ Optimal s.game (next_scopes p.later) (suc p.number) (a ++ t) r)
          pick a at (inr n) =
              let t = some_move s valid p x later e st full u a at.position in
              (t.0, t.1, t.2, λ r o. n (in_front a t.0 small (lie_front small r (a ++ t.0) (lies_small a t.0 (onto s valid p x later e st full a t.0 at.position t.1 t.2) r o))))
          pick a at (inl j) =
              let t = full_values s.game p.number (set small move.variable (move.value ∷ [])) (set_full small move.variable (move.value ∷ []) full_small refl)
              (moved_declared s.game valid small declared_small full_small move.variable move.value move.left move.universal move.free) a
              (record { count = at.position.count; lies = position_in a at.position.count j }) in
              let m : IsMove s.game p.number a t.0 = record { is_tuple = t.1; is_allowed = unrestricted_allows s.game p.number (a ++ t.0) u } in
              let i : InBox (a ++ t.0) small = sub s.game valid small declared_small full_small move.variable move.value move.left move.universal move.free (a ++ t.0) t.2 in
              let k : InBox (a ++ t.0) p.box = found_in s.game valid p.number (joint_stop s.game s.given p.later p.number) p.box small st.stands.box found (a ++ t.0) i in
              let b = onto s valid p x later e st full a t.0 at.position m k in
              let late = late_next s valid p x later e st full small found u move.place move.rule move.variable move.there move.owned move.own (omega arith) in (
                t.0,
                m,
                k,
                λ r o.
                    none_from s valid p st small found move (suc p.number) (scope_at s.game.scopes p.number (universal x) later here_is).2 late f.0 (free_at s valid f.1 small declared_small (suc p.number)) (a ++ t.0) b.count t.2 r
                    (subst (λ ls. Optimal s.game ls (suc p.number) (a ++ t.0) r) next_is o) (lies_small a t.0 b r o),
              )
