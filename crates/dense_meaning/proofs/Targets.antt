-- Bounds, and what a target may be.
use Rattle.std.proofs.Common.{◌≡◌, ℕ, zero, suc, ◌<◌, List, [], ◌∷◌, ◌++◌, length, set, subst, arith, ℤ, pos}
use Rattle.std.specs.Prelude.{IsTrue, IsFalse, slice_index_or}
use Rattle.std.proofs.lemmas.Int.{ints}
use Rattle.qc_model.specs.declared.problem.Kind.{Kind}
use Rattle.qc_model.specs.declared.problem.Kind.TheVariants.{Exists, Forall}
use Rattle.qc_model.specs.declared.problem.Sense.{Sense}
use Rattle.qc_model.specs.declared.problem.Sense.TheVariants.{Min, Max}
use Rattle.qc_model.specs.declared.problem.VarId.{VarId}
use Rattle.qc_model.specs.declared.problem.Target.TheVariants.{Var}
use Rattle.qc_model.specs.declared.problem.Condition.{Condition}
use Rattle.qc_model.specs.declared.problem.Scope.{Scope}
use Rattle.qc_model.specs.Content.{Game}
use Rattle.qc_model.specs.Lists.{Among}
use Rattle.qc_model.specs.Domains.{InBox, Box, values_left}
use Rattle.qc_model.specs.Game.{before, IsMove, allows}
use Rattle.qc_model.specs.Plan.{Plan, finish, choose, answer, Turn, Covers}
use Rattle.qc_model.specs.Value.{value}
use Rattle.qc_model.specs.Optimal.{is_better, Optimal, ChoosesBest}
use Rattle.qc_model.specs.Sees.{IsVisible, IsVisibleHere, AtUniversal}
use Rattle.qc_model.specs.Verdict.{Verdict, lost, at_most}
use Rattle.model_laws.specs.Positions.{optimising}
use Rattle.model_laws.proofs.Better.{IsBetter, not_better, better_false}
use Rattle.proof_meaning.proofs.Passing.{move_count}
use Rattle.proof_meaning.proofs.Taken.{still_in}
use Rattle.dense_meaning.specs.Throughout.{IsPositionIn, PlaysLie, IsOptimalWithin, Says, Throughout, IsAgainst}
use Rattle.dense_meaning.specs.Plays.{Reaches}
use Rattle.dense_meaning.proofs.PlansLie.{lie_front, lie_part}
use Rattle.dense_meaning.proofs.Removing.{says_against}

-- bounds
no_better_through : (s : Sense) (v p q : ℤ) → ¬ IsBetter s v p → ¬ IsBetter s p q → ¬ IsBetter s v q
no_better_through Min v p q h k = grind (arith, ints)
no_better_through Max v p q h k = grind (arith, ints)

pub weaken : (g : Game) (later : List Scope) (i : ℕ) (c : Condition) (d : List Condition) (box : Box) (a : List ℤ) (p q : ℤ) → IsFalse (is_better c.sense p q) →
    Says (at_most p) g later i (c ∷ d) box a → Says (at_most q) g later i (c ∷ d) box a
weaken g later i c d box a p q e h r o =
    better_false c.sense (value g r c.target a) q (no_better_through c.sense (value g r c.target a) p q (not_better c.sense (value g r c.target a) p (h r o)) (not_better c.sense p q e))

pub lost_bounded : (g : Game) (later : List Scope) (i : ℕ) (d : List Condition) (box : Box) (a : List ℤ) (p : ℤ) → Says lost g later i d box a → Says (at_most p) g later i d box a
lost_bounded g later i d box a p h r o = absurd (h r o)

-- a value of a position in the box is left there
pub left_at : (a : List ℤ) (box : Box) (x : ℕ) → x < length a → InBox a box → Among (slice_index_or a x (pos 0)) (values_left box x)
left_at [] box x l h = absurd (omega arith)
left_at (v ∷ a) [] x l h = absurd h
left_at (v ∷ a) (d ∷ box) zero l h = h.0
left_at (v ∷ a) (d ∷ box) (suc x) l h = left_at a box x (omega arith) h.1

-- so is the value of a visible variable under a strategy in the box
pub value_left : (g : Game) (later : List Scope) (i : ℕ) (x : VarId) (box : Box) (a : List ℤ) (r : Plan) → length a ≡ before g i → IsVisible g later i (Var x) → Optimal g later i a r → PlaysLie box a r →
    Among (value g r (Var x) a) (values_left box x.0)
value_left g [] i x box a finish n s o h = left_at a box x.0 (omega arith) h
value_left g [] i x box a (choose t r) n s o h = absurd o.0
value_left g [] i x box a (answer l) n s o h = absurd o.0
value_left g (scope ∷ later) i x box a r n s o h =
    by scope.kind (λ t r n s o h. value_left g later (suc i) x box (a ++ t) r n s o h) s r o h
  where
    by : (k : Kind) → ((t : List ℤ) (r : Plan) → length (a ++ t) ≡ before g (suc i) → IsVisible g later (suc i) (Var x) → Optimal g later (suc i) (a ++ t) r → PlaysLie box (a ++ t) r → Among (value g r (Var x) (a ++ t)) (values_left box x.0)) →
        AtUniversal k (IsVisibleHere g i (Var x)) (IsVisible g later (suc i) (Var x)) → (r : Plan) → Turn k r (ChoosesBest scope.condition g i a (Optimal g later (suc i))) (Covers g i a (Optimal g later (suc i))) → PlaysLie box a r →
        Among (value g r (Var x) a) (values_left box x.0)
    by Exists f s finish o h = absurd o
    by Exists f s (choose t r) o h = f t r (move_count g i a t n o.is_move) s o.after h
    by Exists f s (answer l) o h = absurd o
    by Forall f s finish o h = absurd o
    by Forall f s (choose t r) o h = absurd o
    by Forall f s (answer l) o h = left_at a box x.0 (omega arith) h.0

pub target_left : (g : Game) (later : List Scope) (i : ℕ) (s : Sense) (y : VarId) (d : List Condition) (box : Box) (p : ℤ) → IsVisible g later i (Var y) →
    ((v : ℤ) → Among v (values_left box y.0) → IsFalse (is_better s v p)) → Throughout (at_most p) g later i (record { sense = s; target = Var y } ∷ d) box
target_left g later i s y d box p sees f a at r o = f (value g r (Var y) a) (value_left g later i y box a r at.count sees o.optimal o.lies)

-- plays in which a variable has some of its values
pub in_set : (a : List ℤ) (box : Box) (x : ℕ) (us : List ℤ) → x < length a → InBox a box → Among (slice_index_or a x (pos 0)) us → InBox a (set box x us)
in_set [] box x us l h m = absurd (omega arith)
in_set (v ∷ a) [] x us l h m = absurd h
in_set (v ∷ a) (d ∷ box) zero us l h m = (m, h.1)
in_set (v ∷ a) (d ∷ box) (suc x) us l h m = (h.0, in_set a box x us (omega arith) h.1 m)

pub lie_set : (box : Box) (x : ℕ) (us : List ℤ) (a : List ℤ) (r : Plan) → x < length a → Among (slice_index_or a x (pos 0)) us → PlaysLie box a r → PlaysLie (set box x us) a r
lie_set box x us a r l m h =
    lie_part (suc x) box (set box x us) (λ w j k. still_in (suc x) x us w box (omega arith) j k) r a (omega arith) (in_set a box x us l (lie_front box r a h) m) h

pub lie_kept : (g : Game) (later : List Scope) (i : ℕ) (x : VarId) (box : Box) (us : List ℤ) (a : List ℤ) (r : Plan) → length a ≡ before g i → IsVisible g later i (Var x) → Optimal g later i a r → PlaysLie box a r →
    Among (value g r (Var x) a) us → PlaysLie (set box x.0 us) a r
lie_kept g [] i x box us a finish n s o h m = lie_set box x.0 us a finish (omega arith) m h
lie_kept g [] i x box us a (choose t r) n s o h m = absurd o.0
lie_kept g [] i x box us a (answer l) n s o h m = absurd o.0
lie_kept g (scope ∷ later) i x box us a r n s o h m =
    by scope.kind (λ t r n s o h m. lie_kept g later (suc i) x box us (a ++ t) r n s o h m) s r o h m
  where
    by : (k : Kind) → ((t : List ℤ) (r : Plan) → length (a ++ t) ≡ before g (suc i) → IsVisible g later (suc i) (Var x) → Optimal g later (suc i) (a ++ t) r → PlaysLie box (a ++ t) r → Among (value g r (Var x) (a ++ t)) us → PlaysLie (set box x.0 us) (a ++ t) r) →
        AtUniversal k (IsVisibleHere g i (Var x)) (IsVisible g later (suc i) (Var x)) → (r : Plan) → Turn k r (ChoosesBest scope.condition g i a (Optimal g later (suc i))) (Covers g i a (Optimal g later (suc i))) → PlaysLie box a r →
        Among (value g r (Var x) a) us → PlaysLie (set box x.0 us) a r
    by Exists f s finish o h m = absurd o
    by Exists f s (choose t r) o h m = f t r (move_count g i a t n o.is_move) s o.after h m
    by Exists f s (answer l) o h m = absurd o
    by Forall f s finish o h m = absurd o
    by Forall f s (choose t r) o h m = absurd o
    by Forall f s (answer l) o h m = lie_set box x.0 us a (answer l) (omega arith) m h

pub owner_reaches : (v : Verdict) (g : Game) (later : List Scope) (i : ℕ) (s : Sense) (x : VarId) (d : List Condition) (box : Box) (z : ℤ) (us : List ℤ) →
    IsVisible g later (suc i) (Var x) → Reaches g later i (record { sense = s; target = Var x }) box z →
    ((u : ℤ) → Among u (values_left box x.0) → IsFalse (is_better s z u) → Among u us) → IsAgainst v →
    Throughout v g (optimising (record { sense = s; target = Var x }) ∷ later) i d (set box x.0 us) →
    Throughout v g (optimising (record { sense = s; target = Var x }) ∷ later) i d box
owner_reaches v g later i s x d box z us sees reaches kept q h a at =
    says_against v g (optimising (record { sense = s; target = Var x }) ∷ later) i d box (set box x.0 us) a at.count q stays h
  where
    stays : (r : Plan) → IsOptimalWithin g (optimising (record { sense = s; target = Var x }) ∷ later) i box a r → IsOptimalWithin g (optimising (record { sense = s; target = Var x }) ∷ later) i (set box x.0 us) a r
    stays finish o = absurd o.optimal
    stays (choose t r) o =
        let b = reaches a at in
        let c = o.optimal in
        let n = move_count g i a t at.count c.is_move in
        let k : IsFalse (is_better s z (value g r (Var x) (a ++ t))) = subst (λ (y : ℤ). IsFalse (is_better s y (value g r (Var x) (a ++ t)))) b.4 (c.best b.0 b.1 b.2 b.3) in
        record {
          optimal = c;
          lies = lie_kept g later (suc i) x box us (a ++ t) r n sees c.after o.lies (kept (value g r (Var x) (a ++ t)) (value_left g later (suc i) x box (a ++ t) r n sees c.after o.lies) k);
        }
    stays (answer l) o = absurd o.optimal

pub reaches_at_last : (g : Game) (i : ℕ) (s : Sense) (x : VarId) (box : Box) (z : ℤ) (t : List ℤ) →
    ((a : List ℤ) → IsPositionIn g i box a → IsMove g i a t × IsTrue (allows g (suc i) (a ++ t)) × (slice_index_or (a ++ t) x.0 (pos 0) ≡ z)) →
    Reaches g [] i (record { sense = s; target = Var x }) box z
reaches_at_last g i s x box z t f a at = let q = f a at in (t, finish, q.0, (tt, q.1), q.2)
