-- Ends and branches at a place.
use Rattle.std.proofs.Common.{◌≡◌, ◌∙◌, ◌<◌, ◌≤◌, refl, sym, ap, ℕ, suc, Bool, true, false, not, ◌&&◌, ◌||◌, cond, List, ◌∷◌, length, drop, Option, Some, None, slice_get, ℤ, arith}
use Rattle.std.specs.Prelude.{is_some, nat_le, nat_lt}
use Rattle.std.proofs.lemmas.Bool.Decides.{nat_tests}
use Rattle.qc_model.specs.declared.problem.Kind.{Kind}
use Rattle.qc_model.specs.declared.problem.Kind.TheVariants.{Exists, Forall}
use Rattle.qc_model.specs.declared.problem.Condition.{Condition}
use Rattle.qc_model.specs.declared.problem.Scope.{Scope}
use Rattle.qc_model.specs.Block.{of_kind}
use Rattle.qc_model.specs.Content.{Game}
use Rattle.qc_model.specs.Demands.{demands}
use Rattle.qc_model.specs.Domains.{Box, has_empty, is_single, values_left}
use Rattle.qc_model.specs.Game.{restriction, before}
use Rattle.qc_model.proofs.Before.{before_up}
use Rattle.proof_tree.specs.Place.{is_fixed}
use Rattle.model_levels.proofs.Items.{drop_at}
use Rattle.dense_tree.specs.Free.{is_universal, is_unrestricted}
use Rattle.dense_tree.specs.InPlace.{barred_placed, next_placed, place_taken, chosen_placed, branch_placed, best_placed, list_best, is_some_value}
use Rattle.dense_tree.specs.Place.{Setting, Place, is_players, is_opponents, is_free_choice}
use Rattle.dense_tree.specs.Tuples.{all_hold, some_fails, is_tuple_of, box_taken}
use Rattle.dense_box.specs.Ends.{is_barred_at, goes_on_at, is_chosen_at, is_branch_at}
use Rattle.dense_box.specs.Here.{IsHere}
use Rattle.dense_box.specs.Wished.{listed}
use Rattle.dense_box.proofs.Rows.{item_there}
use Rattle.dense_box.proofs.Tupled.{tuple_full}

-- whose scope it is
players_at : (p : Place) (s : Scope) (ss : List Scope) → p.later ≡ s ∷ ss → is_players p ≡ of_kind s.kind true false
players_at p s ss e = ap (λ (ls : List Scope). is_players (record p { later = ls })) e

opponents_at : (p : Place) (s : Scope) (ss : List Scope) → p.later ≡ s ∷ ss → is_opponents p ≡ of_kind s.kind false true
opponents_at p s ss e = ap (λ (ls : List Scope). is_opponents (record p { later = ls })) e

by_kind : (k : Kind) (a b : Bool) → ((of_kind k true false && a) || (of_kind k false true && b)) ≡ cond (of_kind k false true) b a
by_kind Exists a b = or_none a
  where
    or_none : (a : Bool) → (a || false) ≡ a
    or_none true = refl
    or_none false = refl
by_kind Forall a b = refl

and_then : (a b c : Bool) → ((a && b) && c) ≡ (a && (b && c))
and_then true b c = refl
and_then false b c = refl

turned : (k : Kind) → of_kind k true false ≡ not (of_kind k false true)
turned Exists = refl
turned Forall = refl

gone : (a b : Bool) → ((a && false) && b) ≡ false
gone true b = refl
gone false b = refl

module _ (g : Game) (i : ℕ) (box : Box) (s : Setting) (p : Place) (h : IsHere g i box s p) where
  moved : {X : Type 0} (f : Game → ℕ → Box → X) → f s.game p.number p.box ≡ f g i box
  moved f = ap (λ (z : Game). f z p.number p.box) h.game ∙ (ap (λ n. f g n p.box) h.number ∙ ap (f g i) h.left)

  pub barred_here : barred_placed s p ≡ is_barred_at g i box
  barred_here = moved is_barred_at

  pub branch_here : (x : ℕ) → branch_placed s p x ≡ is_branch_at g i box x
  branch_here x = moved (λ z n b. is_branch_at z n b x)

  -- scope i is this one
  module _ (scope : Scope) (there : slice_get g.scopes i ≡ Some scope) where
    later : p.later ≡ scope ∷ drop (suc i) g.scopes
    later = h.later ∙ drop_at i g.scopes scope there

    next_at : next_placed s p ≡ goes_on_at g i box
    next_at =
        let fails = not (some_fails (restriction s.game p.number) p.box) in
        let fixed = is_fixed s.game p.number p.box in
        let holds = all_hold (restriction s.game p.number) p.box in
        ap (λ b. not (has_empty p.box) && b)
        (ap (λ b. (b && fails) || (is_opponents p && fixed && holds)) (players_at p scope (drop (suc i) g.scopes) later)
        ∙ (ap (λ b. (of_kind scope.kind true false && fails) || (b && fixed && holds)) (opponents_at p scope (drop (suc i) g.scopes) later)
        ∙ (ap (λ b. (of_kind scope.kind true false && fails) || b) (and_then (of_kind scope.kind false true) fixed holds)
        ∙ (by_kind scope.kind fails (fixed && holds)
        ∙ ap (λ (o : Option Scope). cond (is_universal o) (fixed && holds) fails) (sym there)))))
        ∙ moved (λ z n b. not (has_empty b) && cond (is_universal (slice_get g.scopes i)) (is_fixed z n b && all_hold (restriction z n) b) (not (some_fails (restriction z n) b)))

    players_there : is_players p ≡ not (is_universal (slice_get g.scopes i))
    players_there = players_at p scope (drop (suc i) g.scopes) later ∙ (turned scope.kind ∙ ap (λ (o : Option Scope). not (is_universal o)) (sym there))

  opponents_there : (scope : Scope) → slice_get g.scopes i ≡ Some scope → is_opponents p ≡ is_universal (slice_get g.scopes i)
  opponents_there scope there = opponents_at p scope (drop (suc i) g.scopes) (h.later ∙ drop_at i g.scopes scope there) ∙ ap is_universal (sym there)

  pub opponents_here : i < length g.scopes → is_opponents p ≡ is_universal (slice_get g.scopes i)
  opponents_here l = let at = item_there g.scopes i l in opponents_there at.0 at.1

  pub choice_here : i < length g.scopes → is_free_choice s p ≡ (is_universal (slice_get g.scopes i) && is_unrestricted g i)
  choice_here l =
      ap (λ b. b && is_unrestricted s.game p.number) (opponents_here l) ∙ ap (λ b. is_universal (slice_get g.scopes i) && b) (moved (λ z n b. is_unrestricted z n))

  pub next_here : i < length g.scopes → next_placed s p ≡ goes_on_at g i box
  next_here l = let at = item_there g.scopes i l in next_at at.0 at.1

  players_here : i < length g.scopes → is_players p ≡ not (is_universal (slice_get g.scopes i))
  players_here l = let at = item_there g.scopes i l in players_there at.0 at.1

-- the place with a tuple taken
module _ (g : Game) (i : ℕ) (box : Box) (s : Setting) (p : Place) (h : IsHere g i box s p) (l : i < length g.scopes) (vs : List ℤ) where
  pub taken_here : (place_taken s vs p).box ≡ box_taken g i box vs
  taken_here = moved g i box s p h (λ z n b. box_taken z n b vs)

  pub chosen_here : chosen_placed s vs p ≡ is_chosen_at g i box vs
  chosen_here =
      ap (λ b. b && next_placed s (place_taken s vs p)) (moved g i box s p h (λ z n b. is_tuple_of z n b vs))
      ∙ ap (λ b. is_tuple_of g i box vs && b)
      (next_here g i (box_taken g i box vs) s (place_taken s vs p) (record { game = h.game; number = h.number; later = h.later; list = h.list; left = taken_here }) l)

-- with an empty domain none is chosen
pub none_chosen : (g : Game) (i : ℕ) (box : Box) (vs : List ℤ) → before g (suc i) ≤ length box → has_empty box ≡ true → is_chosen_at g i box vs ≡ false
none_chosen g i box vs l e = by (is_tuple_of g i box vs) refl
  where
    rest : Bool
    rest = cond (is_universal (slice_get g.scopes i)) (is_fixed g i (box_taken g i box vs) && all_hold (restriction g i) (box_taken g i box vs)) (not (some_fails (restriction g i) (box_taken g i box vs)))

    by : (b : Bool) → is_tuple_of g i box vs ≡ b → (b && goes_on_at g i (box_taken g i box vs)) ≡ false
    by false q = refl
    by true q = ap (λ b. not b && rest) (tuple_full g i vs box (before_up g i) l q ∙ e)

-- the best value left
module _ (g : Game) (i : ℕ) (box : Box) (s : Setting) (p : Place) (h : IsHere g i box s p) where
  pub list_here : list_best p.list p.box ≡ list_best (demands g i) box
  list_here = ap (λ (d : List Condition). list_best d p.box) h.list ∙ ap (list_best (demands g i)) h.left

  pub best_here : (l : i < length g.scopes) (o : Option ℤ) → listed o ≡ list_best (demands g i) box → best_placed p ≡ (not (has_empty box) && not (is_universal (slice_get g.scopes i)) && is_some o)
  best_here l o e =
      ap (λ (b : Box). not (has_empty b) && is_players p && is_some_value (list_best p.list p.box)) h.left
      ∙ (ap (λ b. not (has_empty box) && b && is_some_value (list_best p.list p.box)) (players_here g i box s p h l)
      ∙ ap (λ b. not (has_empty box) && not (is_universal (slice_get g.scopes i)) && b) (ap is_some_value (list_here ∙ sym e) ∙ some_listed o))
    where
      some_listed : (o : Option ℤ) → is_some_value (listed o) ≡ is_some o
      some_listed None = refl
      some_listed (Some v) = refl

  pub none_best : i < length g.scopes → is_universal (slice_get g.scopes i) ≡ true → best_placed p ≡ false
  none_best l u =
      ap (λ b. not (has_empty p.box) && b && is_some_value (list_best p.list p.box)) (players_here g i box s p h l ∙ ap not u)
      ∙ gone (not (has_empty p.box)) (is_some_value (list_best p.list p.box))

-- a variable before the scope's own, and one after them
module _ (g : Game) (i : ℕ) (box : Box) (x from stop : ℕ) (e : from ≡ before g i) (f : stop ≡ before g (suc i)) where
  pub none_before : x < from → false ≡ is_branch_at g i box x
  none_before h =
      let out : nat_le (before g i) x ≡ false = low (before g i) x (omega (arith, e, h)) in
      sym (ap (λ b. not (has_empty box) && (b && nat_lt x (before g (suc i))) && not (is_single (values_left box x))) out ∙ gone (not (has_empty box)) (not (is_single (values_left box x))))
    where
      low : (a x : ℕ) → x < a → nat_le a x ≡ false
      low a x h = grind (arith, nat_tests)

  pub none_after : stop ≤ x → false ≡ is_branch_at g i box x
  none_after h =
      let out : nat_lt x (before g (suc i)) ≡ false = high (before g (suc i)) x (omega (arith, f, h)) in
      sym
      (ap (λ b. not (has_empty box) && (nat_le (before g i) x && b) && not (is_single (values_left box x))) out
      ∙ (ap (λ b. not (has_empty box) && b && not (is_single (values_left box x))) (never (nat_le (before g i) x)) ∙ gone (not (has_empty box)) (not (is_single (values_left box x)))))
    where
      high : (a x : ℕ) → a ≤ x → nat_lt x a ≡ false
      high a x h = grind (arith, nat_tests)

      never : (b : Bool) → (b && false) ≡ false
      never true = refl
      never false = refl
