-- What shows that a side loses in a box leaves the box no play in which it keeps what it holds.
use Rattle.std.proofs.Common.{◌≡◌, ◌⊎◌, inl, inr, ℕ, zero, suc, ◌+◌, ◌-◌, ◌<◌, ◌≤◌, Bool, true, false, not, ◌||◌, ◌&&◌, List, [], ◌++◌, length, drop, map, refl, sym, ap, ◌∙◌, subst, arith, Option, Some, None, slice_get}
use Rattle.std.specs.Prelude.{ℤ, IsTrue, max, nat_le, nat_lt, ◌==◌}
use Rattle.std.specs.List.{list_all}
use Rattle.std.proofs.lemmas.List.{drop-drop, length-drop}
use Rattle.std.proofs.lemmas.Bool.Decides.{nat_tests}
use Rattle.std.proofs.lemmas.Bool.{and_parts, cases_lt, or_cases, and_from}
use Rattle.std.proofs.lemmas.Option.{slice_get_past}
use Rattle.qc_model.specs.declared.problem.Kind.{Kind}
use Rattle.qc_model.specs.declared.problem.Kind.TheVariants.{Exists, Forall}
use Rattle.qc_model.specs.declared.problem.Scope.{Scope}
use Rattle.qc_model.specs.Content.{Game, Rule}
use Rattle.qc_model.specs.Lists.{Among, LiesIn}
use Rattle.qc_model.specs.Domains.{Box, InBox, declared_box}
use Rattle.qc_model.specs.Game.{before, restriction, allows}
use Rattle.qc_model.specs.Holds.{holds_on}
use Rattle.qc_model.specs.Block.{is_owned_within}
use Rattle.qc_model.specs.Counter.{opposite}
use Rattle.qc_model.specs.Table.{IsOrdered}
use Rattle.qc_model.specs.Valid.{IsValid}
use Rattle.qc_model.proofs.Before.{before-le}
use Rattle.qc_model.proofs.Moves.{of_filter}
use Rattle.model_table.proofs.Fits.{all_at, length_fits}
use Rattle.model_table.proofs.Ordered.{valid_ordered}
use Rattle.proof_meaning.proofs.Boxes.{in_front}
use Rattle.lemma_list.specs.declared.lemma.Literal.{Literal}
use Rattle.lemma_list.specs.declared.lemma.SumLiteral.{SumLiteral}
use Rattle.lemma_list.specs.declared.lemma.Reason.{Reason}
use Rattle.lemma_list.specs.declared.lemma.Reason.TheVariants.{Constraint, Lemma as Earlier}
use Rattle.lemma_list.specs.Lemmas.{Lemma}
use Rattle.lemma_list.specs.Places.{is_kind, kind_of, side_at, is_chosen_before, place}
use Rattle.lemma_list.specs.Literals.{literals_hold, are_in_order}
use Rattle.lemma_list.specs.Sums.{linear_of, linear_at, last_scope, sum_lies, sum_holds, sums_hold, are_linear, is_refuted, is_kept, sum_shown, is_sum_shown}
use Rattle.lemma_list.specs.Reasons.{Known, lemma_at, all_rules, goes_on, owner_of, place_in, reason_place, is_falsified, rule_shows, is_met, lemma_shows, shows, goal_shows}
use Rattle.lemma_list.specs.Claims.{Loses, Entered, IsPosition, LemmaMeans}
use Rattle.lemma_boxes.specs.Claims.{Fitting}
use Rattle.lemma_boxes.proofs.Lists.{rule_at, differ, lies_in_box, get_among, among_get, all_from, drop_all}
use Rattle.lemma_boxes.proofs.Scopes.{le_of, chosen_below, starts, order_below, among_map}
use Rattle.lemma_boxes.proofs.Allowed.{owner_same, allowed_holds, allows_front}
use Rattle.lemma_boxes.proofs.Literals.{literals_front}
use Rattle.lemma_boxes.proofs.Sums.{sum_is_shown, sums_front}
use Rattle.lemma_boxes.proofs.Answers.{rule_pick, lemma_pick, reason_pick, AllPicked, met_holds, falsified_none}
use Rattle.lemma_boxes.proofs.Tells.{visible, kept_on, refuted_on}
use Rattle.lemma_laws.specs.Claims.{AreTrue}
use Rattle.lemma_laws.proofs.Turns.{Holds, not_both, is_same, not_opposite}
use Rattle.lemma_laws.proofs.Plays.{Unblocked, Reached, Reaches}

-- values that go on from a, and in which the side keeps what it holds
pub record Course (g : Game) (m : Lemma) (a w : List ℤ) : Type 0 where
  pub rest : List ℤ
  pub goes_on : w ≡ a ++ rest
  pub full : LiesIn w (declared_box g)
  pub sums : sums_hold g m w ≡ true
  pub reaches : Reaches g m.loser (drop (place g m) g.scopes) (place g m) w

none_is : (x : Option Scope) (k : Kind) → x ≡ None → k ≡ kind_of x → k ≡ Exists
none_is None k e q = q
none_is (Some s) k e q = cc

unless : (x y e : Bool) → x ≡ true → y ≡ true → (not (x && y) || e) ≡ true → e ≡ true
unless true true e p q r = r
unless true false e p q r = absurd (differ q)
unless false y e p q r = absurd (differ p)

unless_one : (x e : Bool) → x ≡ true → (not x || e) ≡ true → e ≡ true
unless_one true e p r = r
unless_one false e p r = absurd (differ p)

from_zero : (k : ℕ) → 0 + k ≡ k
from_zero k = omega arith

own_kind : (k l : Kind) → k ≡ l → is_kind k l ≡ true
own_kind k l e = subst (λ q. is_kind k q ≡ true) e (self k)
  where
    self : (k : Kind) → is_kind k k ≡ true
    self Exists = refl
    self Forall = refl

within : (from o stop : ℕ) → from ≤ o → o < stop → (nat_le from o && nat_lt o stop) ≡ true
within from o stop l h = two (nat_le from o) (nat_lt o stop) (up from o l) (below o stop h)
  where
    two : (a b : Bool) → a ≡ true → b ≡ true → (a && b) ≡ true
    two true b e f = f
    two false b e f = e

    up : (x y : ℕ) → x ≤ y → nat_le x y ≡ true
    up x y l = grind (arith, nat_tests)

    below : (x y : ℕ) → x < y → nat_lt x y ≡ true
    below x y l = grind (arith, nat_tests)

entered_by : (g : Game) (b : List ℤ) (t : ℕ) → ((o : ℕ) → t ≡ suc o → allows g o b ≡ true) → Entered g t b
entered_by g b zero f = tt
entered_by g b (suc o) f = f o refl

max_left : (a b : ℕ) → a ≤ max a b
max_left a b = grind arith

max_right : (a b : ℕ) → b ≤ max a b
max_right a b = grind arith

max_most : (a b n : ℕ) → a ≤ n → b ≤ n → max a b ≤ n
max_most a b n l h = grind arith

below_max : (j a b : ℕ) → j < max a b → (j < a) ⊎ (j < b)
below_max j a b l = grind arith

-- a lemma's literals are of variables before its position
pub literals_before : (g : Game) → IsValid g → (m : Lemma) → list_all (λ l. is_chosen_before g (place g m) l.x.0) m.literals ≡ true → (l : Literal) → Among l m.literals → l.x.0 < before g (place g m)
literals_before g valid m e l i = chosen_below g valid (place g m) l.x.0 (all_at (λ y. is_chosen_before g (place g m) y.x.0) m.literals l e i)

module _ (g : Game) (valid : IsValid g) where
  ordered : IsOrdered g
  ordered = valid_ordered g valid

  -- play has to go on to the goal at most
  owner_most : (k : ℕ) (c : Option Rule) → slice_get g.constraints k ≡ c → owner_of c ≤ length g.scopes
  owner_most k None e = omega arith
  owner_most k (Some c) e =
      let l = order_below (length g.scopes + 1) c.owner.0 (map (λ d. d.owner.0) g.constraints) valid.constraint_order (among_map (λ d. d.owner.0) c g.constraints (get_among g.constraints k c e)) in
      omega arith

  place_most : (n : Option Lemma) → place_in g n ≤ length g.scopes
  place_most None = omega arith
  place_most (Some n) = starts g valid n

  reason_most : (known : Known) (r : Reason) → reason_place g known r ≤ length g.scopes
  reason_most known (Constraint c) = owner_most c.0 (slice_get g.constraints c.0) refl
  reason_most known (Earlier n) = place_most (lemma_at known n.0)

  pub passed_most : (known : Known) (r : Reason) (passed : ℕ) → passed ≤ length g.scopes → max passed (reason_place g known r) ≤ length g.scopes
  passed_most known r passed l = max_most passed (reason_place g known r) (length g.scopes) l (reason_most known r)

  -- the winner's restrictions that the box keeps hold on its values
  pub passes_on : (m : Lemma) (from stop : ℕ) (w : List ℤ) (box : Box) → goes_on g m from stop box ≡ true → Fitting g m box w → Unblocked g m.loser (place g m) from w → Unblocked g m.loser (place g m) (max from stop) w
  passes_on m from stop w box e f u = λ j low high side. elim (cases_lt j from) [
    | inl z ↦ u j low z side
    | inr z ↦ elim (below_max j from stop high) [ inl y ↦ absurd (omega arith) | inr y ↦ kept j z y side ]
  ]
    where
      kept : (j : ℕ) → from ≤ j → j < stop → side_at g j ≡ opposite m.loser → allows g j w ≡ true
      kept j low high side = all_from (λ c. holds_on c w) (restriction g j) (λ c r.
          let q = of_filter (λ d. d.owner.0 == j) c g.constraints r in
          let o : c.owner.0 ≡ j = owner_same c.owner.0 j q.1 in
          let s : opposite m.loser ≡ side_at g c.owner.0 = sym side ∙ ap (side_at g) (sym o) in
          let k = among_get g.constraints c q.0 in
          let n = rule_at (λ i d. not (is_owned_within from stop d && is_kind (opposite m.loser) (side_at g d.owner.0)) || is_kept g m i d box) g.constraints 0 k.0 c e k.1 in
          kept_on g valid m w box k.0 c k.1 f
          (unless (is_owned_within from stop c) (is_kind (opposite m.loser) (side_at g c.owner.0)) (is_kept g m k.0 c box) (within from c.owner.0 stop (omega arith) (omega arith)) (own_kind (opposite m.loser) (side_at g c.owner.0) s)
          (subst (λ i. (not (is_owned_within from stop c && is_kind (opposite m.loser) (side_at g c.owner.0)) || is_kept g m i c box) ≡ true) (from_zero k.0) n)))

  module _ (m : Lemma) (a : List ℤ) (position : IsPosition g (place g m) a) (w : List ℤ) (course : Course g m a w) where
    reached_at : (t : ℕ) → place g m ≤ t → t ≤ length g.scopes → Unblocked g m.loser (place g m) t w → Reached g m.loser (drop t g.scopes) (place g m) t w
    reached_at t low high u =
        let n : ℕ = t - place g m in
        let sum : place g m + n ≡ t = omega arith in
        subst (λ later. Reached g m.loser later (place g m) t w) (drop-drop n (place g m) g.scopes ∙ ap (λ j. drop j g.scopes) sum)
        (course.reaches n t sum (omega (arith, length-drop (place g m) g.scopes)) u)

    -- the restriction of the scope before the position holds, and each one that is passed
    entered_on : (o : ℕ) → place g m ≡ suc o → allows g o w ≡ true
    entered_on o e =
        let own : allows g o a ≡ true = subst (λ t. Entered g t a) e position.entered in
        let count : length a ≡ before g (suc o) = position.count ∙ ap (before g) e in
        ap (allows g o) course.goes_on ∙ (allows_front g ordered o a course.rest (omega (arith, count)) ∙ own)

    allowed_at : (o t : ℕ) → place g m ≤ suc o → o < t → t ≤ length g.scopes → Unblocked g m.loser (place g m) t w → allows g o w ≡ true
    allowed_at o t low high most u =
        elim (cases_lt o (place g m)) [ inl z ↦ entered_on o (omega arith) | inr z ↦ (reached_at t (omega arith) most u).allowed o z high ]

    goal_holds : m.loser ≡ Exists → Reached g m.loser [] (place g m) (length g.scopes) w → allows g (length g.scopes) w ≡ true
    goal_holds e r =
        let won : allows g (length g.scopes) r.front ≡ true = subst (λ k. Holds k g [] (length g.scopes) r.front) e r.holds in
        ap (allows g (length g.scopes)) r.goes_on ∙ (allows_front g ordered (length g.scopes) r.front r.rest (omega (arith, r.count, ordered.goal)) ∙ won)

    at_goal : Unblocked g m.loser (place g m) (length g.scopes) w → Reached g m.loser [] (place g m) (length g.scopes) w
    at_goal u =
        subst (λ later. Reached g m.loser later (place g m) (length g.scopes) w) (drop_all (length g.scopes) g.scopes refl) (reached_at (length g.scopes) (starts g valid m) (omega arith) u)

    module _ (passed : ℕ) (most : passed ≤ length g.scopes) (u : Unblocked g m.loser (place g m) passed w) where
      -- the side's own restrictions up to there
      own_allowed : (o : ℕ) → m.loser ≡ side_at g o → place g m ≤ suc o → o ≤ passed → allows g o w ≡ true
      own_allowed o side low high = elim (cases_lt o (length g.scopes)) [ inl z ↦ inner z | inr z ↦ last (omega arith) ]
        where
          inner : o < length g.scopes → allows g o w ≡ true
          inner z = allowed_at o (suc o) low (omega arith) (omega arith) (λ j l h s. elim (cases_lt j o) [ inl q ↦ u j l (omega arith) s | inr q ↦ absurd (own j (omega arith) s) ])
            where
              own : (j : ℕ) → j ≡ o → side_at g j ≡ opposite m.loser → ⊥
              own j e s = not_opposite m.loser (sym s ∙ (ap (side_at g) e ∙ sym side))

          last : o ≡ length g.scopes → allows g o w ≡ true
          last e =
              let k : m.loser ≡ Exists = none_is (slice_get g.scopes o) m.loser (slice_get_past g.scopes o (omega arith)) side in
              let v : Unblocked g m.loser (place g m) (length g.scopes) w = λ j l h s. u j l (omega arith) s in
              subst (λ n. allows g n w ≡ true) (sym e) (goal_holds k (at_goal v))

      module _ (box : Box) (inside : LiesIn w box) where
        fits : Fitting g m box w
        fits = record { declared = course.full; inside = inside; sums = course.sums }

        goal_refutes : is_kind m.loser Forall ≡ true → length g.scopes ≤ passed → all_rules (λ k c. not (c.owner.0 == length g.scopes) || is_kept g m k c box) 0 g.constraints ≡ true → ⊥
        unfolding fits
        goal_refutes side low e =
            let v : Unblocked g m.loser (place g m) (length g.scopes) w = λ j l h s. u j l (omega arith) s in
            let r = at_goal v in
            let lost : ¬ IsTrue (allows g (length g.scopes) r.front) = subst (λ k. Holds k g [] (length g.scopes) r.front) (is_same m.loser Forall side) r.holds in
            let holds : allows g (length g.scopes) w ≡ true = all_from (λ c. holds_on c w) (restriction g (length g.scopes)) (λ c n.
            let q = of_filter (λ d. d.owner.0 == length g.scopes) c g.constraints n in
            let k = among_get g.constraints c q.0 in
            let y = rule_at (λ i d. not (d.owner.0 == length g.scopes) || is_kept g m i d box) g.constraints 0 k.0 c e k.1 in
            kept_on g valid m w box k.0 c k.1 fits
            (unless_one (c.owner.0 == length g.scopes) (is_kept g m k.0 c box) q.1 (subst (λ i. (not (c.owner.0 == length g.scopes) || is_kept g m i c box) ≡ true) (from_zero k.0) y))) in
            lost (sym (allows_front g ordered (length g.scopes) r.front r.rest (omega (arith, r.count, ordered.goal))) ∙ (ap (allows g (length g.scopes)) (sym r.goes_on) ∙ holds))

        module _ (answers : ℕ → Bool) where
          rule_refutes : (j : ℕ) (c : Option Rule) → slice_get g.constraints j ≡ c → owner_of c ≤ passed → AllPicked answers (rule_pick c box) box w → rule_shows g m answers box j c ≡ true → ⊥
          unfolding fits
          rule_refutes j None q high picked e = differ e
          rule_refutes j (Some c) q high picked e =
              let p = and_parts (is_kind m.loser (side_at g c.owner.0) && nat_le (place g m) (suc c.owner.0)) (is_refuted g m j c box || is_falsified answers c box) e in
              let p2 = and_parts (is_kind m.loser (side_at g c.owner.0)) (nat_le (place g m) (suc c.owner.0)) p.0 in
              let ok = own_allowed c.owner.0 (is_same m.loser (side_at g c.owner.0) p2.0) (le_of (place g m) (suc c.owner.0) p2.1) high in
              let holds = allowed_holds g j c c.owner.0 w q refl ok in
              elim (or_cases (is_refuted g m j c box) (is_falsified answers c box) p.1) [
                | inl z ↦ refuted_on g valid m w box j c q fits z holds
                | inr z ↦ falsified_none answers box w c inside (visible g valid j c w q course.full) picked z holds
              ]

          lemma_refutes : (n : Option Lemma) → ((l : Lemma) → n ≡ Some l → LemmaMeans g l) → place_in g n ≤ passed → AllPicked answers (lemma_pick n box) box w → lemma_shows g m answers box n ≡ true → ⊥
          lemma_refutes None true_of high picked e = differ e
          lemma_refutes (Some n) true_of high picked e =
              let lm = true_of n refl in
              let p0 = and_parts (is_kind m.loser n.loser && nat_le (place g m) (place g n) && list_all (is_met answers n.literals box) n.literals) (list_all (is_sum_shown g m (last_scope g n) box) n.sums) e in
              let p = and_parts (is_kind m.loser n.loser && nat_le (place g m) (place g n)) (list_all (is_met answers n.literals box) n.literals) p0.0 in
              let p2 = and_parts (is_kind m.loser n.loser) (nat_le (place g m) (place g n)) p.0 in
              let b1 = and_parts (are_in_order n.literals && list_all (λ l. is_chosen_before g (place g n) l.x.0) n.literals) (are_linear g n.sums) lm.is_lemma in
              let b2 = and_parts (are_in_order n.literals) (list_all (λ l. is_chosen_before g (place g n) l.x.0) n.literals) b1.0 in
              let same = is_same m.loser n.loser p2.0 in
              let low = le_of (place g m) (place g n) p2.1 in
              let v : Unblocked g m.loser (place g m) (place g n) w = λ i l h s. u i l (omega arith) s in
              let r = reached_at (place g n) low (starts g valid n) v in
              not_both m.loser g (drop (place g n) g.scopes) (place g n) r.front
              (subst (λ k. Loses k g (drop (place g n) g.scopes) (place g n) r.front) (sym same)
              (lm.loses r.front (at_front r low v) (and_from (literals_hold n.literals r.front) (sums_hold g n r.front) (literals_there r b2.1 p.1) (sums_there r low p0.1)))) r.holds
            where
              at_front : (r : Reached g m.loser (drop (place g n) g.scopes) (place g m) (place g n) w) → place g m ≤ place g n → Unblocked g m.loser (place g m) (place g n) w → IsPosition g (place g n) r.front
              at_front r low v = record {
                count = r.count;
                declared = in_front r.front r.rest (declared_box g) (subst (λ z. InBox z (declared_box g)) r.goes_on (lies_in_box w (declared_box g) course.full));
                entered = entered_by g r.front (place g n) (λ o z.
                    sym (allows_front g ordered o r.front r.rest (omega (arith, r.count ∙ ap (before g) z))) ∙ (ap (allows g o) (sym r.goes_on) ∙ allowed_before o z));
              }
                where
                  allowed_before : (o : ℕ) → place g n ≡ suc o → allows g o w ≡ true
                  allowed_before o z = elim (cases_lt o (place g m)) [ inl y ↦ entered_on o (omega arith) | inr y ↦ r.allowed o y (omega arith) ]

              literals_there : (r : Reached g m.loser (drop (place g n) g.scopes) (place g m) (place g n) w) → list_all (λ l. is_chosen_before g (place g n) l.x.0) n.literals ≡ true → list_all (is_met answers n.literals box) n.literals ≡ true → literals_hold n.literals r.front ≡ true
              literals_there r back es =
                  literals_front n.literals r.front r.rest
                  (λ l i. (let x = literals_before g valid n back l i in omega (arith, r.count)))
                  (subst (λ z. literals_hold n.literals z ≡ true) r.goes_on
                  (met_holds answers n.literals box w inside picked
                  (λ l i. (let x = literals_before g valid n back l i in omega (arith, length_fits w (declared_box g) course.full, before-le g (place g n)))) es))

              sums_there : (r : Reached g m.loser (drop (place g n) g.scopes) (place g m) (place g n) w) → place g m ≤ place g n → list_all (is_sum_shown g m (last_scope g n) box) n.sums ≡ true → sums_hold g n r.front ≡ true
              sums_there r low es = sym (sums_front g valid n r.front r.rest r.count) ∙ (ap (sums_hold g n) (sym r.goes_on) ∙ all_there)
                where
                  there : (z : SumLiteral) (c : Option Rule) → slice_get g.constraints z.c.0 ≡ c → sum_shown g m (last_scope g n) box z (linear_at c) ≡ true → sum_lies g (last_scope g n) z (linear_at c) w ≡ true
                  there z None q e = e
                  there z (Some c) q e = sum_is_shown g w box inside m course.sums z.c.0 c q (visible g valid z.c.0 c w q course.full) n low z refl (linear_of c) refl e

                  all_there : sums_hold g n w ≡ true
                  all_there = all_from (λ z. sum_holds g (last_scope g n) z w) n.sums (λ z i. there z (slice_get g.constraints z.c.0) refl (all_at (is_sum_shown g m (last_scope g n) box) n.sums z es i))

    -- what is shown in a box where play is known to go on
    module _ (passed : ℕ) (most : passed ≤ length g.scopes) (u : Unblocked g m.loser (place g m) passed w) where
      fitting : (box : Box) → LiesIn w box → Fitting g m box w
      fitting box i = record { declared = course.full; inside = i; sums = course.sums }

      pub shows_none : (known : Known) → AreTrue g known → (answers : ℕ → Bool) (outer box : Box) → LiesIn w outer → LiesIn w box → (r : Reason) → AllPicked answers (reason_pick g known r box) box w → shows g known m answers passed outer box r ≡ true → ⊥
      unfolding fitting
      shows_none known true_of answers outer box o i (Constraint c) picked e =
          let p = and_parts (goes_on g m passed (owner_of (slice_get g.constraints c.0)) outer) (rule_shows g m answers box c.0 (slice_get g.constraints c.0)) e in
          let stop : ℕ = owner_of (slice_get g.constraints c.0) in
          rule_refutes (max passed stop) (max_most passed stop (length g.scopes) most (owner_most c.0 (slice_get g.constraints c.0) refl)) (passes_on m passed stop w outer p.0 (fitting outer o) u) box i answers c.0 (slice_get g.constraints c.0) refl (max_right passed stop) picked p.1
      shows_none known true_of answers outer box o i (Earlier n) picked e =
          let p = and_parts (goes_on g m passed (place_in g (lemma_at known n.0)) outer) (lemma_shows g m answers box (lemma_at known n.0)) e in
          let stop : ℕ = place_in g (lemma_at known n.0) in
          lemma_refutes (max passed stop) (max_most passed stop (length g.scopes) most (place_most (lemma_at known n.0))) (passes_on m passed stop w outer p.0 (fitting outer o) u) box i answers (lemma_at known n.0) (true_of n.0) (max_right passed stop) picked p.1

      pub goal_none : (box : Box) → LiesIn w box → goal_shows g m passed box ≡ true → ⊥
      unfolding fitting
      goal_none box i e =
          let p = and_parts (is_kind m.loser Forall && goes_on g m passed (length g.scopes) box) (all_rules (λ k c. not (c.owner.0 == length g.scopes) || is_kept g m k c box) 0 g.constraints) e in
          let p2 = and_parts (is_kind m.loser Forall) (goes_on g m passed (length g.scopes) box) p.0 in
          goal_refutes (max passed (length g.scopes)) (max_most passed (length g.scopes) (length g.scopes) most (omega arith)) (passes_on m passed (length g.scopes) w box p2.1 (fitting box i) u) box i p2.0 (max_right passed (length g.scopes)) p.1
