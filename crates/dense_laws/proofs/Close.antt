-- What closing keeps: the opponent's allowed tuples, and the strategies that lie in the box.
use Rattle.std.proofs.Common.{◌≡◌, ◌⊎◌, inl, inr, ℕ, zero, suc, ◌+◌, ◌<◌, ◌≤◌, ◌==◌, Bool, true, false, not, cond, List, [], ◌∷◌, ◌++◌, length, take, drop, refl, sym, ap, ◌∙◌, subst, arith, ℤ, Some, Option}
use Rattle.std.specs.Prelude.{slice_get, nat_le, nat_lt}
use Rattle.std.proofs.lemmas.Bool.Decides.{nat_tests}
use Rattle.std.proofs.lemmas.Bool.{and_parts, and_from}
use Rattle.qc_model.specs.declared.problem.Kind.{Kind}
use Rattle.qc_model.specs.declared.problem.Kind.TheVariants.{Exists, Forall}
use Rattle.qc_model.specs.declared.problem.Scope.{Scope}
use Rattle.qc_model.specs.Arguments.{variables_of}
use Rattle.qc_model.specs.Block.{of_kind, block_stop, is_owned_within, constraints_within}
use Rattle.qc_model.specs.Content.{Game, Rule}
use Rattle.qc_model.specs.Domains.{InBox, Box, declared_box, has_empty, has_value, values_left, is_sub_box}
use Rattle.qc_model.specs.Game.{before, restriction, allows, IsMove}
use Rattle.qc_model.specs.Holds.{holds_on}
use Rattle.qc_model.specs.Lists.{Among}
use Rattle.qc_model.specs.Optimal.{Optimal}
use Rattle.qc_model.specs.Plan.{Plan}
use Rattle.qc_model.specs.Valid.{IsValid}
use Rattle.qc_model.specs.Visible.{ArgumentsBelow}
use Rattle.qc_model.proofs.Moves.{among_filter}
use Rattle.model_arguments.specs.Asked.{is_box_of}
use Rattle.model_arguments.proofs.Boxes.{sub_length}
use Rattle.model_laws.proofs.Listed.{all_to}
use Rattle.proof_alike.proofs.Filling.{get_among}
use Rattle.proof_meaning.proofs.FreeFront.{before_wider}
use Rattle.proof_meaning.proofs.HorizonHolds.{Passes}
use Rattle.proof_meaning.proofs.Passing.{move_count, passes}
use Rattle.proof_meaning.proofs.Premises.{sound_of}
use Rattle.proof_meaning.proofs.Reach.{reach}
use Rattle.proof_tree.specs.Fair.{bounded_within}
use Rattle.proof_tree.specs.Place.{owner_of}
use Rattle.dense_closing.specs.Closing.{IsGreatestClosed}
use Rattle.dense_closing.specs.ClosingSteps.{greatest_closed}
use Rattle.dense_closing.proofs.Keeping.{closed_full}
use Rattle.dense_closing.proofs.Own.{own_place}
use Rattle.dense_closing.proofs.Within.{sub_values}
use Rattle.dense_meaning.specs.Throughout.{IsPositionIn, PlaysLie}
use Rattle.dense_meaning.specs.Plays.{NeverStuck, GoesOn, IsPlay, KeepsFrom, IsDeclared}
use Rattle.dense_meaning.proofs.Bits.{has_to}
use Rattle.dense_meaning.proofs.Legal.{ahead}
use Rattle.dense_meaning.proofs.PlansLie.{lie_part}
use Rattle.dense_meaning.proofs.Removing.{stay, stay_through}
use Rattle.dense_meaning.proofs.WholePlays.{whole, goes_moves, append_none}
use Rattle.dense_tree.specs.Free.{is_universal, takes}
use Rattle.dense_laws.specs.Stands.{OpponentStays, MovesStay, OptimalStay, StrategiesStay, kept_to}
use Rattle.dense_laws.proofs.Narrow.{front_of}
use Rattle.dense_laws.proofs.Owned.{owner_is}
use Rattle.dense_laws.proofs.Points.{Satisfies, greatest_is, point_stays}
use Rattle.dense_laws.proofs.Scopes.{scope_at}
use Rattle.dense_laws.proofs.Small.{clash, not_true, le_from, lt_from, same_number, sub_in_box}

to_le : (x y : ℕ) → x ≤ y → nat_le x y ≡ true
to_le x y l = grind (arith, nat_tests)

to_same : (x y : ℕ) → x ≡ y → (x == y) ≡ true
to_same x y e = grind (arith, nat_tests)

pub append_more : (a t r : List ℤ) → (a ++ t) ++ r ≡ a ++ (t ++ r)
append_more [] t r = refl
append_more (v ∷ a) t r = ap (λ u. v ∷ u) (append_more a t r)

-- what goes on begins with the position
pub goes_front : (g : Game) (later : List Scope) (n i : ℕ) (a w : List ℤ) → GoesOn g later n i a w → (r : List ℤ) × (w ≡ a ++ r)
goes_front g later zero i a w h = ([], h ∙ sym (append_none a))
goes_front g [] (suc n) i a w h = ([], h.0 ∙ sym (append_none a))
goes_front g (s ∷ later) (suc n) i a w h = let q = goes_front g later n (suc i) (a ++ h.0) w h.2 in (h.0 ++ q.0, q.1 ∙ append_more a h.0 q.0)

pub declared_of : (g : Game) (box : Box) → is_box_of g box ≡ true → IsDeclared g box
declared_of g box d = record {
  size = sub_length box (declared_box g) d;
  values = λ x v m. has_to (values_left (declared_box g) x) v (all_to (has_value (values_left (declared_box g) x)) (values_left box x) (sub_values box (declared_box g) x d) v m);
}

-- a scope's constraint sees what stands before the next scope, and an allowed tuple satisfies it
pub allowed_holds : (g : Game) → IsValid g → (j : ℕ) (w : List ℤ) (k : ℕ) (c : Rule) → slice_get g.constraints k ≡ Some c → c.owner.0 ≡ j → length w ≡ before g (suc j) → allows g j w ≡ true → ArgumentsBelow (length w) c.args × (holds_on c w ≡ true)
allowed_holds g valid j w k c e o n a = (
  subst (λ z. ArgumentsBelow z c.args) (ap (λ z. before g (suc z)) o ∙ sym n) ((sound_of g valid).ordered.visible k c e),
  all_to (λ d. holds_on d w) (restriction g j) a c (among_filter (λ (d : Rule). d.owner.0 == j) c g.constraints (get_among g.constraints k c e) (to_same c.owner.0 j o)),
)

-- a constraint that has a variable of scope j, or of a later one, is of scope j or a later one
pub own_late : (g : Game) → IsValid g → (j k : ℕ) (c : Rule) (x : ℕ) → slice_get g.constraints k ≡ Some c → Among x (variables_of c.args) → before g j ≤ x → j ≤ c.owner.0
own_late g valid j k c x e own l =
    let below : x < before g (suc c.owner.0) = own_place (before g (suc c.owner.0)) x c.args ((sound_of g valid).ordered.visible k c e) own in
    elim (or_late j c.owner.0) [ inl q ↦ q | inr q ↦ (let w = before_wider g (suc c.owner.0) j q in absurd (omega arith)) ]
  where
    or_late : (j o : ℕ) → (j ≤ o) ⊎ (suc o ≤ j)
    or_late j o = grind arith

pub universal_scope : (o : Option Scope) (s : Scope) → o ≡ Some s → s.kind ≡ Forall → is_universal o ≡ true
universal_scope o s e k = subst (λ z. is_universal z ≡ true) (sym e) (subst (λ z. of_kind z false true ≡ true) (sym k) refl)

-- of the opponent's variables a constraint takes those of its own scope alone
taken_own : (g : Game) (c : Rule) (x j : ℕ) → takes g c x ≡ true → owner_of (slice_get g.variables x) ≡ j → is_universal (slice_get g.scopes j) ≡ true → c.owner.0 ≡ j
taken_own g c x j t o u = by (is_universal (slice_get g.scopes c.owner.0)) t
  where
    by : (b : Bool) → cond b (owner_of (slice_get g.variables x) == c.owner.0) (not (is_universal (slice_get g.scopes (owner_of (slice_get g.variables x))))) ≡ true → c.owner.0 ≡ j
    by true e = sym (same_number (owner_of (slice_get g.variables x)) c.owner.0 e) ∙ o
    by false e = clash (is_universal (slice_get g.scopes j)) u (subst (λ z. is_universal (slice_get g.scopes z) ≡ false) o (not_true (is_universal (slice_get g.scopes (owner_of (slice_get g.variables x)))) e))

module _ (g : Game) (valid : IsValid g) (i stop : ℕ) (box small : Box) (d : is_box_of g box ≡ true) (found : greatest_closed (takes g) g i stop box ≡ Some small) where
  found_is : IsGreatestClosed (takes g) (constraints_within g i stop) box small
  found_is = greatest_is (takes g) g valid i stop box small d found

  pub found_within : is_sub_box small box ≡ true
  found_within = found_is.within

  pub found_full : has_empty small ≡ false
  found_full = closed_full (takes g) (constraints_within g i stop) small found_is.closed

  pub found_in : (w : List ℤ) → InBox w small → InBox w box
  found_in w h = sub_in_box w small box found_within h

  -- an allowed tuple of the opponent's stays, where the position before it does
  pub move_stays : (j : ℕ) → is_universal (slice_get g.scopes j) ≡ true → (a t : List ℤ) → length a ≡ before g j → IsMove g j a t → InBox a small → InBox (a ++ t) box → InBox (a ++ t) small
  move_stays j u a t n m h l =
      point_stays (takes g) g valid i stop (before g j) (a ++ t) kept box small d found (subst (λ z. InBox z small) (sym (front_of (before g j) a t n)) h) l
    where
      kept : Satisfies (takes g) g valid i stop (before g j) (a ++ t)
      kept k c x there owned own taken low high =
          let long = move_count g j a t n m in
          allowed_holds g valid j (a ++ t) k c there (taken_own g c x j taken (owner_is g valid j x low (omega arith)) u) long m.is_allowed

  pub moves_stay : (later : List Scope) (j : ℕ) → later ≡ drop j g.scopes → MovesStay g later j box → MovesStay g later j small
  moves_stay [] j e m = tt
  moves_stay (sc ∷ later) j e m =
      let q = scope_at g.scopes j sc later (sym e) in
      (by sc.kind refl m.0, moves_stay later (suc j) (sym q.1) m.1)
    where
      by : (k : Kind) → sc.kind ≡ k → OpponentStays k g j box → OpponentStays k g j small
      by Exists q h = tt
      by Forall q h = λ a t at move.
          move_stays j (universal_scope (slice_get g.scopes j) sc (scope_at g.scopes j sc later (sym e)).0 q) a t at.count move at.lies
          (h a t (record { count = at.count; lies = found_in a at.lies }) move)

  -- constraints with a variable past the first n are of scopes from j on
  abbrev pub AreLate : ℕ → ℕ → Type 0
  AreLate n j = (k : ℕ) (c : Rule) (x : ℕ) → slice_get g.constraints k ≡ Some c → is_owned_within i stop c ≡ true → Among x (variables_of c.args) → n ≤ x → j ≤ c.owner.0

  pub late_at : (j : ℕ) → AreLate (before g j) j
  late_at j k c x there owned own l = own_late g valid j k c x there own l

  pub late_here : AreLate 0 i
  late_here k c x there owned own l = le_from i c.owner.0 (and_parts (nat_le i c.owner.0) (nat_lt c.owner.0 stop) owned).0

  kept_by : (n j : ℕ) (w : List ℤ) → AreLate n j → Passes g j stop w → Satisfies (takes g) g valid i stop n w
  kept_by n j w late p k c x there owned own taken low high =
      let o = and_from (nat_le j c.owner.0) (nat_lt c.owner.0 stop) (to_le j c.owner.0 (late k c x there owned own low)) (and_parts (nat_le i c.owner.0) (nat_lt c.owner.0 stop) owned).1 in
      (p.visible k c there o, p.holds k c there o)

  -- past the scopes whose constraints are in force nothing goes
  pub past_stop : (j : ℕ) → stop ≤ j → KeepsFrom g j box small
  past_stop j l w h k = point_stays (takes g) g valid i stop (before g j) w kept box small d found k h
    where
      kept : Satisfies (takes g) g valid i stop (before g j) w
      kept q c x there owned own taken low high =
          let late = own_late g valid j q c x there own low in
          let less = lt_from c.owner.0 stop (and_parts (nat_le i c.owner.0) (nat_lt c.owner.0 stop) owned).1 in
          absurd (omega arith)

  module _ (n j : ℕ) (late : AreLate n j) (le : j ≤ length g.scopes) (a : List ℤ) (at : IsPositionIn g j box a) (front : (w r : List ℤ) → w ≡ a ++ r → InBox (take n w) small) where
    -- where all constraints to the goal are in force
    pub jointly : stop ≡ suc (length g.scopes) → NeverStuck g (drop j g.scopes) j box → (r : Plan) → Optimal g (drop j g.scopes) j a r → PlaysLie box a r → PlaysLie small a r
    jointly all free r o l = stay g (drop j g.scopes) j box small free a at stays r o l
      where
        stays : (w : List ℤ) → IsPlay g (drop j g.scopes) j a w → InBox w box → InBox w small
        stays w play inside =
            let q = goes_front g (drop j g.scopes) (suc (length (drop j g.scopes))) j a w play in
            let p = whole g (sound_of g valid) j a w box le (declared_of g box d) at.count play inside in
            point_stays (takes g) g valid i stop n w (kept_by n j w late (subst (λ m. Passes g j m w) (sym all) p.passes)) box small d found (front w q.0 q.1) inside

    -- where those of the block are
    pub in_block : (later : List Scope) → later ≡ drop j g.scopes → j + length later ≡ length g.scopes → block_stop later j ≡ stop → (r : Plan) → Optimal g later j a r → PlaysLie box a r → PlaysLie small a r
    in_block later e left all r o l =
        let q = ahead g later j box in
        stay_through g later q.count j stop box small (q.stops ∙ all) (inr (past_stop stop (omega arith))) q.free a at (stays q.count (q.stops ∙ all) q.few) r o l
      where
        stays : (m : ℕ) → m + j ≡ stop → m ≤ suc (length later) → (w : List ℤ) → GoesOn g later m j a w → InBox w box → InBox w small
        stays m stops few w goes inside =
            let q = goes_front g later m j a w goes in
            let moves = goes_moves g (sound_of g valid).ordered later m j a w left few goes in
            let p = passes g (sound_of g valid).ordered m j stop a w at.count (sub_in_box w box (declared_box g) d inside) (omega arith) moves in
            point_stays (takes g) g valid i stop n w (kept_by n j w late p) box small d found (front w q.0 q.1) inside

  front_stays : (j : ℕ) (a : List ℤ) → length a ≡ before g j → InBox a small → (w r : List ℤ) → w ≡ a ++ r → InBox (take (before g j) w) small
  front_stays j a n h w r e = subst (λ z. InBox (take (before g j) z) small) (sym e) (subst (λ z. InBox z small) (sym (front_of (before g j) a r n)) h)

  pub strategies_jointly : stop ≡ suc (length g.scopes) → ((j : ℕ) → NeverStuck g (drop j g.scopes) j box) → (b : Bool) (later : List Scope) (j : ℕ) → later ≡ drop j g.scopes → StrategiesStay g b later j box → StrategiesStay g b later j small
  strategies_jointly all free b [] j e m = tt
  strategies_jointly all free b (sc ∷ later) j e m =
      let q = scope_at g.scopes j sc later (sym e) in
      (here, strategies_jointly all free (bounded_within sc.kind b) later (suc j) (sym q.1) m.1)
    where
      here : OptimalStay g (sc ∷ later) j (kept_to b (sc ∷ later) j) small
      here a at r o h =
          let q = scope_at g.scopes j sc later (sym e) in
          let l = q.2 in
          let wide : IsPositionIn g j box a = record { count = at.count; lies = found_in a at.lies } in
          jointly (before g j) j (late_at j) (omega arith) a wide (front_stays j a at.count at.lies) all (free j) r (subst (λ ls. Optimal g ls j a r) e o)
          (m.0 a wide r o (found_in (take (before g (kept_to b (sc ∷ later) j)) (reach a r)) h))

  pub strategies_in_block : (b : Bool) (later : List Scope) (j : ℕ) → later ≡ drop j g.scopes → j + length later ≡ length g.scopes → (block_stop later j ≡ stop) ⊎ (stop ≤ j) → StrategiesStay g b later j box → StrategiesStay g b later j small
  strategies_in_block b [] j e left c m = tt
  strategies_in_block b (sc ∷ later) j e left c m =
      let q = scope_at g.scopes j sc later (sym e) in
      (here c, strategies_in_block (bounded_within sc.kind b) later (suc j) (sym q.1) (omega arith) (next sc.kind c) m.1)
    where
      here : (block_stop (sc ∷ later) j ≡ stop) ⊎ (stop ≤ j) → OptimalStay g (sc ∷ later) j (kept_to b (sc ∷ later) j) small
      here c a at r o h =
          let wide : IsPositionIn g j box a = record { count = at.count; lies = found_in a at.lies } in
          let l = m.0 a wide r o (found_in (take (before g (kept_to b (sc ∷ later) j)) (reach a r)) h) in
          elim c [
            | inl q ↦ in_block (before g j) j (late_at j) (omega arith) a wide (front_stays j a at.count at.lies) (sc ∷ later) e left q r o l
            | inr q ↦ lie_part (before g j) box small (past_stop j q) r a (let k = at.count in omega arith) at.lies l
          ]

      next : (k : Kind) → (of_kind k (block_stop later (suc j)) j ≡ stop) ⊎ (stop ≤ j) → (block_stop later (suc j) ≡ stop) ⊎ (stop ≤ suc j)
      next Exists (inl q) = inl q
      next Forall (inl q) = inr (omega arith)
      next k (inr q) = inr (omega arith)
