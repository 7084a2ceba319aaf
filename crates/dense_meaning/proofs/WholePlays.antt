-- In a valid game whole plays satisfy all constraints that they pass: their values are a closed box.
use Rattle.std.proofs.Common.{◌≡◌, inl, inr, ℕ, zero, suc, ◌+◌, ◌≤◌, ◌<◌, Bool, true, false, ◌&&◌, not, List, [], ◌∷◌, ◌++◌, length, drop, set, get_or, refl, sym, ap, ◌∙◌, arith, ℤ}
use Rattle.std.specs.Prelude.{IsTrue, slice_get, nat_le, nat_lt}
use Rattle.std.specs.List.{list_all}
use Rattle.std.proofs.lemmas.List.{length-drop}
use Rattle.std.proofs.lemmas.Bool.Decides.{nat_tests}
use Rattle.std.proofs.lemmas.Bool.{and_parts, false_from_ne_true}
use Rattle.qc_model.specs.declared.problem.Condition.{Condition}
use Rattle.qc_model.specs.declared.problem.Scope.{Scope}
use Rattle.qc_model.specs.Content.{Game, Rule}
use Rattle.qc_model.specs.Lists.{Among}
use Rattle.qc_model.specs.Arguments.{variables_of}
use Rattle.qc_model.specs.Domains.{InBox, Box, declared_box, values_left, least_value, greatest_value, has_empty, has_value, is_sub_box, box_within, box_without, is_within, values_outside}
use Rattle.qc_model.specs.Game.{before}
use Rattle.qc_model.specs.Refuted.{refuted_by}
use Rattle.qc_model.specs.Closed.{refutes_at, keeps_ends, is_closed, NoClosedWithin}
use Rattle.qc_model.specs.Block.{is_owned_within, constraints_within}
use Rattle.qc_model.specs.Table.{IsOrdered, IsTableSound}
use Rattle.qc_model.specs.Valid.{IsValid}
use Rattle.qc_model.specs.Verdict.{lost}
use Rattle.qc_model.proofs.Before.{before-le}
use Rattle.qc_model.proofs.Moves.{of_filter}
use Rattle.qc_model.proofs.Sound.{has_it}
use Rattle.proof_tree.specs.Good.{MovesOn}
use Rattle.proof_tree.specs.Steps.{is_refuted_within}
use Rattle.proof_meaning.proofs.Boxes.{singles, filter_split}
use Rattle.proof_meaning.proofs.HorizonHolds.{Passes, not_refuted}
use Rattle.proof_meaning.proofs.Narrowed.{within_in, past_set}
use Rattle.proof_meaning.proofs.Taken.{still_in}
use Rattle.proof_meaning.proofs.Passing.{move_count, passes, goal_move}
use Rattle.proof_meaning.proofs.Premises.{IsSound, sound_of}
use Rattle.proof_meaning.proofs.Standing.{left_from, none_left}
use Rattle.dense_meaning.specs.Throughout.{IsPositionIn, Throughout}
use Rattle.dense_meaning.specs.Plays.{NeverStuck, IsPlay, GoesOn, KeepsThrough, KeepsPlays, KeepsFrom, IsDeclared}
use Rattle.dense_meaning.proofs.Staying.{plays_lost, never_front}
use Rattle.dense_meaning.proofs.Bits.{place_of, all_from, has_to}

pub append_none : (a : List ℤ) → a ++ [] ≡ a
append_none [] = refl
append_none (v ∷ a) = ap (λ u. v ∷ u) (append_none a)

-- what goes on through n scopes, where the goal counts as one
pub goes_moves : (g : Game) → IsOrdered g → (later : List Scope) (n i : ℕ) (a w : List ℤ) → i + length later ≡ length g.scopes → n ≤ suc (length later) → GoesOn g later n i a w → MovesOn g n i a w
goes_moves g p later zero i a w e l h = h
goes_moves g p [] (suc zero) i a w e l h = ([], goal_move g p i a (omega arith) h.1, h.0 ∙ sym (append_none a))
goes_moves g p [] (suc (suc n)) i a w e l h = absurd (omega arith)
goes_moves g p (s ∷ later) (suc n) i a w e l h = (h.0, h.1, goes_moves g p later n (suc i) (a ++ h.0) w (omega arith) (omega arith) h.2)

pub moves_count : (g : Game) (n i : ℕ) (a w : List ℤ) → length a ≡ before g i → MovesOn g n i a w → length w ≡ before g (n + i)
moves_count g zero i a w e h = ap length h ∙ e ∙ ap (before g) (let q : i ≡ 0 + i = omega arith in q)
moves_count g (suc n) i a w e h =
    moves_count g n (suc i) (a ++ h.0) w (move_count g i a h.0 e h.1) h.2 ∙ ap (before g) (let q : n + suc i ≡ suc n + i = omega arith in q)

pub record Whole (g : Game) (i : ℕ) (w : List ℤ) : Type 0 where
  pub passes : Passes g i (suc (length g.scopes)) w
  pub count : length w ≡ length (declared_box g)

pub whole : (g : Game) → IsSound g → (i : ℕ) (a w : List ℤ) (box : Box) → i ≤ length g.scopes → IsDeclared g box → length a ≡ before g i → IsPlay g (drop i g.scopes) i a w → InBox w box → Whole g i w
whole g r i a w box le d n h j =
    let left : i + length (drop i g.scopes) ≡ length g.scopes = left_from g i le in
    let m = goes_moves g r.ordered (drop i g.scopes) (suc (length (drop i g.scopes))) i a w left (omega arith) h in
    let c : length w ≡ before g (suc (length (drop i g.scopes)) + i) = moves_count g (suc (length (drop i g.scopes))) i a w n m in
    let k : suc (length (drop i g.scopes)) + i ≡ suc (length g.scopes) = omega arith in
    let e : length w ≡ before g (length g.scopes) = c ∙ ap (before g) k ∙ r.ordered.goal in
    let none = none_left g r.valid (length g.scopes) (declared_box g) (omega arith) (omega arith) refl in
    let most = before-le g (length g.scopes) in
    record {
      passes = passes g r.ordered (suc (length (drop i g.scopes))) i (suc (length g.scopes)) a w n (within_in w box (declared_box g) d.values j) (omega arith) m;
      count = omega (arith, length-drop (before g (length g.scopes)) (declared_box g), ap length none);
    }

-- what some of the constraints want of a whole play
fewer : (g : Game) (i k : ℕ) (w : List ℤ) → k ≤ length g.scopes → Passes g i (suc (length g.scopes)) w → Passes g i (suc k) w
fewer g i k w l p = record {
  declared = p.declared;
  visible = λ j c e o. p.visible j c e (up c o);
  holds = λ j c e o. p.holds j c e (up c o);
}
  where
    wider : (x y : ℕ) (n : ℕ) → k ≤ n → (nat_le x y && nat_lt y (suc k)) ≡ true → (nat_le x y && nat_lt y (suc n)) ≡ true
    wider x y n l e = grind (arith, nat_tests)

    up : (c : Rule) → is_owned_within i (suc k) c ≡ true → is_owned_within i (suc (length g.scopes)) c ≡ true
    up c o = wider i c.owner.0 (length g.scopes) l o

-- the box of single values
pub singles_sub : (w : List ℤ) (box : Box) → length w ≡ length box → InBox w box → is_sub_box (singles w) box ≡ true
singles_sub [] [] n h = refl
singles_sub [] (d ∷ box) n h = cc
singles_sub (v ∷ w) [] n h = absurd h
singles_sub (v ∷ w) (d ∷ box) n h = by (has_value d v) (is_sub_box (singles w) box) (has_it d v h.0) (singles_sub w box (omega arith) h.1)
  where
    by : (a b : Bool) → a ≡ true → b ≡ true → ((a && true) && b) ≡ true
    by true b p q = q
    by false b p q = cc

pub sub_in : (w : List ℤ) (box : Box) → is_sub_box (singles w) box ≡ true → InBox w box
sub_in [] box e = tt
sub_in (v ∷ w) [] e = cc
sub_in (v ∷ w) (d ∷ box) e =
    let p = and_parts (has_value d v && true) (is_sub_box (singles w) box) e in
    let q = and_parts (has_value d v) true p.0 in (has_to d v q.0, sub_in w box p.1)

pub singles_full : (w : List ℤ) → has_empty (singles w) ≡ false
singles_full [] = refl
singles_full (v ∷ w) = singles_full w

pub in_own : (w : List ℤ) → InBox w (singles w)
in_own [] = tt
in_own (v ∷ w) = (inl refl, in_own w)

pub least_stays : (w : List ℤ) (x : ℕ) → set (singles w) x (least_value (get_or (singles w) x []) ∷ []) ≡ singles w
least_stays [] x = refl
least_stays (v ∷ w) zero = refl
least_stays (v ∷ w) (suc x) = ap (λ ds. (v ∷ []) ∷ ds) (least_stays w x)

pub greatest_stays : (w : List ℤ) (x : ℕ) → set (singles w) x (greatest_value (get_or (singles w) x []) ∷ []) ≡ singles w
greatest_stays [] x = refl
greatest_stays (v ∷ w) zero = refl
greatest_stays (v ∷ w) (suc x) = ap (λ ds. (v ∷ []) ∷ ds) (greatest_stays w x)

singles_closed : (g : Game) → IsTableSound g → (i stop : ℕ) (w : List ℤ) → Passes g i stop w → is_closed (constraints_within g i stop) (singles w) ≡ true
singles_closed g sound i stop w p =
    by (has_empty (singles w)) (list_all (keeps_ends (singles w)) (constraints_within g i stop)) (singles_full w) (all_from (keeps_ends (singles w)) (constraints_within g i stop) keeps)
  where
    by : (a b : Bool) → a ≡ false → b ≡ true → (not a && b) ≡ true
    by true b e f = cc
    by false b e f = f

    ends : (a b : Bool) → a ≡ false → b ≡ false → (not a && not b) ≡ true
    ends true b e f = cc
    ends false true e f = cc
    ends false false e f = refl

    not_here : (c : Rule) → Among c (constraints_within g i stop) → refuted_by c (singles w) ≡ false
    not_here c m =
        let q = of_filter (is_owned_within i stop) c g.constraints m in
        let k = place_of g.constraints c q.0 in
        false_from_ne_true (refuted_by c (singles w)) (λ e. sound k.0 c (singles w) w k.1 (p.visible k.0 c k.1 q.1) p.declared e (in_own w) (p.holds k.0 c k.1 q.1))

    keeps : (c : Rule) → Among c (constraints_within g i stop) → keeps_ends (singles w) c ≡ true
    keeps c m =
        all_from (λ x. not (refutes_at c (singles w) x (least_value (values_left (singles w) x))) && not (refutes_at c (singles w) x (greatest_value (values_left (singles w) x)))) (variables_of c.args)
        (λ x n. ends _ _ (ap (refuted_by c) (least_stays w x) ∙ not_here c m) (ap (refuted_by c) (greatest_stays w x) ∙ not_here c m))

pub closing_keeps : (g : Game) (i : ℕ) (box small : Box) → IsValid g → i ≤ length g.scopes → IsDeclared g box →
    ((b : Box) → IsTrue (is_sub_box b box) → IsTrue (is_closed (constraints_within g i (suc (length g.scopes))) b) → IsTrue (is_sub_box b small)) →
    KeepsPlays g (drop i g.scopes) i box small
closing_keeps g i box small valid le d f a w at h j =
    let r = sound_of g valid in
    let p = whole g r i a w box le d at.count h j in
    sub_in w small (f (singles w) (singles_sub w box (p.count ∙ sym d.size) j) (singles_closed g r.table i (suc (length g.scopes)) w p.passes))

pub refuted_keeps : (g : Game) (n i : ℕ) (box : Box) (x : ℕ) (low high : ℤ) (c : ℕ) → IsValid g → i ≤ length g.scopes → i + n ≤ suc (length g.scopes) → IsDeclared g box →
    IsTrue (is_refuted_within i (i + n) (slice_get g.constraints c) (box_within box x low high)) →
    KeepsThrough g (drop i g.scopes) n i box (box_without box x low high)
refuted_keeps g n i box x low high c valid le l d e a w at h j =
    let r = sound_of g valid in
    let left : i + length (drop i g.scopes) ≡ length g.scopes = left_from g i le in
    let m = goes_moves g r.ordered (drop i g.scopes) n i a w left (omega arith) h in
    let p = passes g r.ordered n i (i + n) a w at.count (within_in w box (declared_box g) d.values j) refl m in
    elim (filter_split (is_within low high) box x w j) [
      | inl k ↦ absurd (not_refuted g r.table i (i + n) w p c (slice_get g.constraints c) (box_within box x low high) refl e k)
      | inr k ↦ k
    ]

pub removal_later : (g : Game) (j : ℕ) (box : Box) (x : ℕ) (low high : ℤ) → x < before g j → KeepsFrom g j box (box_without box x low high)
removal_later g j box x low high l w h k = still_in (before g j) x (values_outside low high (values_left box x)) w box l h k

pub removal_earlier : (g : Game) (i : ℕ) (box : Box) (x : ℕ) (low high : ℤ) → before g i ≤ x → (a : List ℤ) → IsPositionIn g i box a → InBox a (box_without box x low high)
removal_earlier g i box x low high l a at = past_set box x (values_outside low high (values_left box x)) a (let n = at.count in omega arith) at.lies

pub closing_lost : (g : Game) (i k : ℕ) (d : List Condition) (box : Box) → IsValid g → i ≤ k → k ≤ length g.scopes → IsDeclared g box → NeverStuck g (drop i g.scopes) i box →
    NoClosedWithin (constraints_within g i (suc k)) box → Throughout lost g (drop i g.scopes) i d box
closing_lost g i k d box valid low high dec free none =
    plays_lost g (drop i g.scopes) (suc (length (drop i g.scopes))) i box (never_front g (drop i g.scopes) (suc (length (drop i g.scopes))) i box free) no_play
  where
    no_play : (a w : List ℤ) → IsPositionIn g i box a → GoesOn g (drop i g.scopes) (suc (length (drop i g.scopes))) i a w → ¬ InBox w box
    no_play a w at h j =
        let r = sound_of g valid in
        let le : i ≤ length g.scopes = omega arith in
        let p = whole g r i a w box le dec at.count h j in
        let e : is_closed (constraints_within g i (suc k)) (singles w) ≡ false = none (singles w) (singles_sub w box (p.count ∙ sym dec.size) j) in
        let q : is_closed (constraints_within g i (suc k)) (singles w) ≡ true = singles_closed g r.table i (suc k) w (fewer g i k w high p.passes) in cc
