-- Closing within the own tree of a scope of the opponent.
use Rattle.std.proofs.Common.{◌≡◌, ◌⊎◌, inl, inr, ℕ, suc, ◌≤◌, ◌==◌, Bool, true, false, not, cond, List, [], ◌∷◌, ◌++◌, length, drop, refl, sym, ap, ◌∙◌, subst, arith, ℤ, Option, Some, None}
use Rattle.std.specs.Prelude.{slice_get, nat_le, nat_lt}
use Rattle.std.proofs.lemmas.Bool.Decides.{nat_tests}
use Rattle.std.proofs.lemmas.Bool.{and_parts}
use Rattle.qc_model.specs.declared.problem.Condition.{Condition}
use Rattle.qc_model.specs.declared.problem.Scope.{Scope}
use Rattle.qc_model.specs.Block.{force_stop, is_owned_within, constraints_within}
use Rattle.qc_model.specs.Content.{Game, Rule}
use Rattle.qc_model.specs.Domains.{InBox, Box, has_empty, has_value}
use Rattle.qc_model.specs.Game.{before, restriction, IsMove}
use Rattle.qc_model.specs.Lists.{Among}
use Rattle.qc_model.specs.Optimal.{Optimal}
use Rattle.qc_model.specs.Plan.{Plan}
use Rattle.qc_model.specs.Valid.{IsValid}
use Rattle.qc_model.specs.Verdict.{Seen}
use Rattle.qc_model.specs.Verdict.{is_none_of}
use Rattle.qc_model.proofs.Moves.{among_filter}
use Rattle.qc_model.proofs.Sound.{has_it}
use Rattle.model_laws.specs.Positions.{universal}
use Rattle.proof_alike.proofs.Filling.{get_among}
use Rattle.proof_meaning.proofs.Blocks.{blocked_less}
use Rattle.proof_meaning.proofs.Boxes.{in_front}
use Rattle.proof_meaning.proofs.Passing.{move_count}
use Rattle.proof_tree.specs.Place.{owner_of, next_scopes}
use Rattle.dense_closing.specs.Takes.{NoneClosedBy}
use Rattle.dense_meaning.specs.Throughout.{IsPositionIn}
use Rattle.dense_meaning.specs.Plays.{NeverStuck, IsPlay}
use Rattle.dense_meaning.proofs.Bits.{has_to}
use Rattle.dense_meaning.proofs.FullBoxes.{full_values}
use Rattle.dense_meaning.proofs.PlansLie.{lie_front}
use Rattle.dense_meaning.proofs.Staying.{follow, never_front}
use Rattle.dense_tree.specs.Free.{takes, is_free, is_joint, is_universal, is_unrestricted, joint_stop}
use Rattle.dense_tree.specs.Place.{Setting, Place, with_box, closed_box}
use Rattle.dense_tree.specs.Read.{empty_leaves}
use Rattle.dense_laws.specs.Stands.{StandsPart}
use Rattle.dense_laws.specs.Says.{IsAt, Answers, IsLostAt, AnswersSay}
use Rattle.dense_laws.proofs.Close.{declared_of, universal_scope, found_within, found_full, found_in, move_stays, AreLate, jointly}
use Rattle.dense_laws.proofs.FreeGames.{unrestricted_allows}
use Rattle.dense_laws.proofs.NoPlay.{none_passing, none_moving, none_playing}
use Rattle.dense_laws.proofs.Opponents.{after_lie, lost_answers, none_answers, entry_of}
use Rattle.dense_laws.proofs.Owned.{owner_below}
use Rattle.dense_laws.proofs.Points.{Satisfies, none_is, point_stays}
use Rattle.dense_laws.proofs.Scopes.{scope_at}
use Rattle.dense_laws.proofs.Small.{clash, le_from, lt_from, same_number, full_drop, ones_keep}
use Rattle.dense_laws.proofs.Standing.{InForce, in_force, free_at}

pub in_or_not : (w : List ℤ) (box : Box) → InBox w box ⊎ (InBox w box → ⊥)
in_or_not [] box = inl tt
in_or_not (v ∷ w) [] = inr (λ h. h)
in_or_not (v ∷ w) (d ∷ box) = by (has_value d v) refl (in_or_not w box)
  where
    by : (b : Bool) → has_value d v ≡ b → InBox w box ⊎ (InBox w box → ⊥) → InBox (v ∷ w) (d ∷ box) ⊎ (InBox (v ∷ w) (d ∷ box) → ⊥)
    by true e (inl h) = inl (has_to d v e, h)
    by true e (inr f) = inr (λ h. f h.1)
    by false e q = inr (λ h. clash (has_value d v) (has_it d v h.0) e)

-- a scope without a restriction has no constraint
pub none_owned : (g : Game) (i k : ℕ) (c : Rule) → is_unrestricted g i ≡ true → slice_get g.constraints k ≡ Some c → c.owner.0 ≡ i → ⊥
none_owned g i k c u e o = by (restriction g i) u (among_filter (λ (d : Rule). d.owner.0 == i) c g.constraints (get_among g.constraints k c e) (to_same c.owner.0 i o))
  where
    by : (cs : List Rule) → is_none_of cs ≡ true → Among c cs → ⊥
    by [] u m = m
    by (d ∷ cs) u m = cc

    to_same : (x y : ℕ) → x ≡ y → (x == y) ≡ true
    to_same x y e = grind (arith, nat_tests)

module _ (s : Setting) (valid : IsValid s.game) (p : Place) (x : Option Condition) (later : List Scope) (e : p.later ≡ universal x ∷ later) (st : StandsPart s p) (full : has_empty p.box ≡ false) where
  here_is : drop p.number s.game.scopes ≡ universal x ∷ later
  here_is = sym st.stands.later ∙ e

  universal_here : is_universal (slice_get s.game.scopes p.number) ≡ true
  universal_here = universal_scope (slice_get s.game.scopes p.number) (universal x) (scope_at s.game.scopes p.number (universal x) later here_is).0 refl

  pub unrestricted_of : is_joint s.game s.given p.later p.number ≡ true → is_unrestricted s.game p.number ≡ true
  unrestricted_of q = (and_parts (is_free s.game s.given) (is_unrestricted s.game p.number) (subst (λ ls. is_joint s.game s.given ls p.number ≡ true) e q)).1

  pub forced_own : joint_stop s.game s.given p.later p.number ≡ force_stop p.later p.number → joint_stop s.game s.given p.later p.number ≡ suc p.number
  forced_own f = f ∙ ap (λ ls. force_stop ls p.number) e

  pub own_owner : (c : Rule) → joint_stop s.game s.given p.later p.number ≡ suc p.number → is_owned_within p.number (joint_stop s.game s.given p.later p.number) c ≡ true → c.owner.0 ≡ p.number
  own_owner c f o =
      let q = and_parts (nat_le p.number c.owner.0) (nat_lt c.owner.0 (joint_stop s.game s.given p.later p.number)) o in
      let l = le_from p.number c.owner.0 q.0 in
      let m = lt_from c.owner.0 (joint_stop s.game s.given p.later p.number) q.1 in omega arith

  -- some allowed tuple, where any is
  pub some_move : is_unrestricted s.game p.number ≡ true → (a : List ℤ) → IsPositionIn s.game p.number p.box a → (t : List ℤ) × IsMove s.game p.number a t × InBox (a ++ t) p.box
  some_move u a at =
      let t = full_values s.game p.number p.box full (declared_of s.game p.box st.stands.box) a at in
      let m : IsMove s.game p.number a t.0 = record { is_tuple = t.1; is_allowed = unrestricted_allows s.game p.number (a ++ t.0) u } in (t.0, m, t.2)

  pub onto : (a t : List ℤ) → IsPositionIn s.game p.number p.box a → IsMove s.game p.number a t → InBox (a ++ t) p.box → IsPositionIn s.game (suc p.number) p.box (a ++ t)
  onto a t at m j = record { count = move_count s.game p.number a t at.count m; lies = j }

  module _ (small : Box) (found : closed_box s p ≡ Some small) where
    -- the opponent's own restriction takes no earlier value
    front_stays : joint_stop s.game s.given p.later p.number ≡ suc p.number → (a : List ℤ) → IsPositionIn s.game p.number p.box a → InBox a small
    front_stays f a at = point_stays (takes s.game) s.game valid p.number (joint_stop s.game s.given p.later p.number) 0 a kept p.box small st.stands.box found tt at.lies
      where
        kept : Satisfies (takes s.game) s.game valid p.number (joint_stop s.game s.given p.later p.number) 0 a
        kept k c y there owned own taken low high =
            let o = own_owner c f owned in
            let l = owner_below s.game valid p.number y (let n = at.count in omega arith) in
            let q = owner_taken c y o taken in absurd (omega arith)
          where
            owner_taken : (c : Rule) (y : ℕ) → c.owner.0 ≡ p.number → takes s.game c y ≡ true → owner_of (slice_get s.game.variables y) ≡ p.number
            owner_taken c y o t =
                same_number (owner_of (slice_get s.game.variables y)) c.owner.0
                (subst (λ b. cond b (owner_of (slice_get s.game.variables y) == c.owner.0) (not (is_universal (slice_get s.game.scopes (owner_of (slice_get s.game.variables y))))) ≡ true) (ap (λ k. is_universal (slice_get s.game.scopes k)) o ∙ universal_here) t) ∙ o

    pub late_next : is_unrestricted s.game p.number ≡ true → AreLate s.game valid p.number (joint_stop s.game s.given p.later p.number) p.box small st.stands.box found 0 (suc p.number)
    late_next u k c y there owned own l =
        let m = le_from p.number c.owner.0 (and_parts (nat_le p.number c.owner.0) (nat_lt c.owner.0 (joint_stop s.game s.given p.later p.number)) owned).0 in
        elim (or_next p.number c.owner.0 m) [ inl q ↦ absurd (none_owned s.game p.number k c u there (sym q)) | inr q ↦ q ]
      where
        or_next : (i o : ℕ) → i ≤ o → (i ≡ o) ⊎ (suc i ≤ o)
        or_next i o l = grind arith

    pub closing_answers : (seen : List Seen) → AnswersSay s (with_box small p) seen → AnswersSay s p seen
    closing_answers seen h = record { says = λ a at. by a at (in_force s p.later p.number); loose = h.loose }
      where
        sub : (w : List ℤ) → InBox w small → InBox w p.box
        sub w j = found_in s.game valid p.number (joint_stop s.game s.given p.later p.number) p.box small st.stands.box found w j

        inside : (a : List ℤ) → IsAt s p a → InBox a small → IsLostAt s p a ⊎ Answers s p seen a
        inside a at j = elim (h.says a (record { position = record { count = at.position.count; lies = j }; blocked = blocked_less s.game p.number a p.box small p.horizon sub at.blocked })) [
          | inl q ↦ inl (record { loose = q.loose; none = q.none })
          | inr k ↦ inr (record {
            claims = k.claims;
            are_seen = k.are_seen;
            say = k.say;
            lie = λ t m. sub (a ++ t) (k.lie t m);
            distinct = k.distinct;
            all = λ n l t m i. k.all n l t m (move_stays s.game valid p.number (joint_stop s.game s.given p.later p.number) p.box small st.stands.box found p.number universal_here a t at.position.count m j i);
          })
        ]

        outside : (is_free s.game s.given ≡ true) → (joint_stop s.game s.given p.later p.number ≡ suc (length s.game.scopes)) → is_unrestricted s.game p.number ≡ true → (a : List ℤ) → IsAt s p a → (InBox a small → ⊥) → (r : Plan) → ¬ Optimal s.game p.later p.number a r
        outside f all u a at not r o =
            let t = some_move u a at.position in
            let b = onto a t.0 at.position t.1 t.2 in
            let q = entry_of s.game p.number a t.0 x later r (subst (λ ls. Optimal s.game ls p.number a r) e o) t.1 in
            let next : next_scopes p.later ≡ drop (suc p.number) s.game.scopes = ap next_scopes e ∙ sym (scope_at s.game.scopes p.number (universal x) later here_is).1 in
            let o2 : Optimal s.game (next_scopes p.later) (suc p.number) (a ++ t.0) q.0 = subst (λ ls. Optimal s.game (next_scopes ls) (suc p.number) (a ++ t.0) q.0) (sym e) q.1 in
            let lies = after_lie s valid p x later e st (a ++ t.0) b q.0 o2 in
            let le = (scope_at s.game.scopes p.number (universal x) later here_is).2 in
            let l = jointly s.game valid p.number (joint_stop s.game s.given p.later p.number) p.box small st.stands.box found 0 (suc p.number) (late_next u) le (a ++ t.0) b (λ w v k. tt) all
            (free_at s valid f p.box st.stands.box (suc p.number)) q.0 (subst (λ ls. Optimal s.game ls (suc p.number) (a ++ t.0) q.0) next o2) lies in
            not (in_front a t.0 small (lie_front small q.0 (a ++ t.0) l))

        by : (a : List ℤ) → IsAt s p a → InForce s p.later p.number (joint_stop s.game s.given p.later p.number) → IsLostAt s p a ⊎ Answers s p seen a
        by a at (inr f) = inside a at (front_stays (forced_own f) a at.position)
        by a at (inl f) = elim (in_or_not a small) [
          | inl j ↦ inside a at j
          | inr n ↦ loose p.loose refl n
        ]
          where
            loose : (b : Bool) → p.loose ≡ b → (InBox a small → ⊥) → IsLostAt s p a ⊎ Answers s p seen a
            loose true l n = inl (record { loose = l; none = λ r o. outside f.1 f.0 (unrestricted_of f.2) a at n r o })
            loose false l n =
                absurd (n (ones_keep (before s.game p.number) a small p.box (found_within s.game valid p.number (joint_stop s.game s.given p.later p.number) p.box small st.stands.box found)
                (found_full s.game valid p.number (joint_stop s.game s.given p.later p.number) p.box small st.stands.box found) (st.stands.strict l) (let c = at.position.count in omega arith) at.position.lies))

  -- closing that finds nothing
  pub empty_answers : closed_box s p ≡ None → AnswersSay s p (empty_leaves (is_unrestricted s.game p.number))
  empty_answers found = by (is_unrestricted s.game p.number) refl
    where
      none : NoneClosedBy (takes s.game) (constraints_within s.game p.number (joint_stop s.game s.given p.later p.number)) p.box
      none = none_is (takes s.game) s.game valid p.number (joint_stop s.game s.given p.later p.number) p.box st.stands.box found

      -- his own restriction
      own : joint_stop s.game s.given p.later p.number ≡ suc p.number → (a t : List ℤ) → IsAt s p a → IsMove s.game p.number a t → InBox (a ++ t) p.box → ⊥
      own f a t at m j =
          none_moving s.game valid (takes s.game) p.number (joint_stop s.game s.given p.later p.number) p.box st.stands.box none 1 a (a ++ t) (omega arith) at.position.count (t, m, refl) j (full_drop (length (a ++ t)) p.box full)

      nothing : is_unrestricted s.game p.number ≡ true → joint_stop s.game s.given p.later p.number ≡ suc p.number → ⊥
      nothing u f =
          none_passing s.game valid (takes s.game) p.number (joint_stop s.game s.given p.later p.number) p.box st.stands.box none []
          (record { declared = tt; visible = λ k c there o. absurd (none_owned s.game p.number k c u there (own_owner c f o)); holds = λ k c there o. absurd (none_owned s.game p.number k c u there (own_owner c f o)) }) tt full

      lost_after : is_free s.game s.given ≡ true → joint_stop s.game s.given p.later p.number ≡ suc (length s.game.scopes) → (a t : List ℤ) → IsAt s p a → IsMove s.game p.number a t → InBox (a ++ t) p.box → (r : Plan) → ¬ Optimal s.game (next_scopes p.later) (suc p.number) (a ++ t) r
      lost_after f all a t at m j r o =
          let b = onto a t at.position m j in
          let lies = after_lie s valid p x later e st (a ++ t) b r o in
          let o2 : Optimal s.game later (suc p.number) (a ++ t) r = subst (λ ls. Optimal s.game (next_scopes ls) (suc p.number) (a ++ t) r) e o in
          let n : NeverStuck s.game later (suc p.number) p.box = subst (λ ls. NeverStuck s.game ls (suc p.number) p.box) (scope_at s.game.scopes p.number (universal x) later here_is).1 (free_at s valid f p.box st.stands.box (suc p.number)) in
          let w = follow s.game later (suc (length later)) (suc p.number) p.box (never_front s.game later (suc (length later)) (suc p.number) p.box n) (a ++ t) b r o2 lies in
          none_playing s.game valid (takes s.game) p.number (joint_stop s.game s.given p.later p.number) p.box st.stands.box none st.stands.number (omega arith) a w.0 at.position.count
          (subst (λ ls. IsPlay s.game ls p.number a w.0) (sym here_is) (t, m, w.1)) w.2

      by : (b : Bool) → is_unrestricted s.game p.number ≡ b → AnswersSay s p (empty_leaves b)
      by false u = none_answers s valid p x later e (λ a t at m j. elim (in_force s p.later p.number) [
        | inl f ↦ absurd (clash (is_unrestricted s.game p.number) (unrestricted_of f.2) u)
        | inr f ↦ own (forced_own f) a t at m j
      ])
      by true u = elim (in_force s p.later p.number) [
        | inl f ↦ lost_answers s valid p x later e (λ a at. (let t = some_move u a at.position in (t.0, t.1, t.2, λ r o. lost_after f.1 f.0 a t.0 at t.1 t.2 r o)))
        | inr f ↦ absurd (nothing u (forced_own f))
      ]
