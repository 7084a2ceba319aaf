-- The goal, and a scope that nobody passes, mean what they say.
use Rattle.std.proofs.Common.{◌≡◌, inr, ℕ, suc, ◌+◌, Bool, true, false, List, [], ◌∷◌, ◌++◌, length, refl, sym, ap, ◌∙◌, subst, arith, Option, None, append-nil}
use Rattle.std.specs.Prelude.{ℤ, IsTrue}
use Rattle.qc_model.specs.declared.problem.Kind.{Kind}
use Rattle.qc_model.specs.declared.problem.Kind.TheVariants.{Exists, Forall}
use Rattle.qc_model.specs.declared.problem.Target.{Target}
use Rattle.qc_model.specs.declared.problem.Target.TheVariants.{Var, Aggregate as Agg}
use Rattle.qc_model.specs.declared.problem.Scope.{Scope}
use Rattle.qc_model.specs.declared.problem.Condition.{Condition}
use Rattle.qc_model.specs.Content.{Game}
use Rattle.qc_model.specs.Domains.{Box, InBox, has_empty}
use Rattle.qc_model.specs.Game.{allows, IsMove, moves}
use Rattle.qc_model.specs.Plan.{Plan, finish, choose, answer, no_entries, entry}
use Rattle.qc_model.specs.Value.{value}
use Rattle.qc_model.specs.Optimal.{Optimal}
use Rattle.qc_model.specs.Counter.{CanPassBlock, RepliesTo, CounterWins}
use Rattle.qc_model.specs.Demands.{vector, is_better_vector}
use Rattle.qc_model.specs.Sees.{IsVisible, AllVisible}
use Rattle.qc_model.specs.ForallVerdict.{entry_value, entry_values, numbers_for, goal_verdict}
use Rattle.qc_model.proofs.Moves.{moves_to}
use Rattle.qc_model.proofs.Vectors.{no_better_self}
use Rattle.proof_tree.specs.InPlace.{is_horizon}
use Rattle.proof_tree.specs.Finding.{kind_stuck, stuck_finding, goal_finding}
use Rattle.proof_tree.specs.Meaning.{PlanLies, VerdictMeans}
use Rattle.qc_model.specs.Table.{IsOrdered}
use Rattle.model_laws.proofs.Universal.{vector_under}
use Rattle.proof_tree.specs.Good.{IsBlocked}
use Rattle.proof_meaning.proofs.Blocks.{none_pass, none_among}
use Rattle.proof_meaning.proofs.Boxes.{differ, in_front}
use Rattle.proof_meaning.proofs.GoodValues.{good_front, pass_good}
use Rattle.proof_meaning.proofs.Passing.{goal_move}
use Rattle.proof_meaning.proofs.Reach.{lies_to}
use Rattle.proof_meaning.proofs.Frames.{stop_of, Frame, FairNode, front_in}
use Rattle.proof_meaning.proofs.Entering.{declared_move, rest_declared, all_good}
use Rattle.proof_meaning.proofs.LeafRules.{choice_front}

-- at the end the list names variables alone
end_vector : (g : Game) (i : ℕ) (ns : ℕ → List ℤ) (d : List Condition) (a : List ℤ) → AllVisible g [] i d → vector g d a finish ≡ entry_values g d a ns
end_vector g i ns [] a h = refl
end_vector g i ns (c ∷ d) a h = ap (λ v. v ∷ vector g d a finish) (by c.target h.0) ∙ ap (λ vs. entry_value g a ns c.target ∷ vs) (end_vector g i ns d a h.1)
  where
    by : (x : Target) → IsVisible g [] i x → value g finish x a ≡ entry_value g a ns x
    by (Var x) h = refl
    by (Agg q) h = absurd h

goal_by : (g : Game) (i : ℕ) (d : List Condition) (a : List ℤ) (box : Box) (b t : Bool) → AllVisible g [] i d → InBox a box → allows g i a ≡ t →
    VerdictMeans (goal_verdict g t d a) g [] i d a box (record { verdict = goal_verdict g t d a; own = None; strategy = finish; counter = finish }) b
goal_by g i d a box b true v h e = record {
  is_optimal = record { optimal = (tt, e); lies = h };
  has_vector = end_vector g i (numbers_for d []) d a v;
  best = λ r o. best r o.optimal;
}
  where
    best : (r : Plan) → Optimal g [] i a r → is_better_vector d (vector g d a r) (entry_values g d a (numbers_for d [])) ≡ false
    best finish o = ap (is_better_vector d (vector g d a finish)) (sym (end_vector g i (numbers_for d []) d a v)) ∙ no_better_self d (vector g d a finish)
    best (choose t s) o = absurd o.0
    best (answer l) o = absurd o.0
goal_by g i d a box b false v h e = record {
  none = λ r o. differ (sym e ∙ o.optimal.1);
  loses = λ q. (tt, λ w. differ (sym e ∙ w));
  once = tt;
}

pub goal_node : (g : Game) (i : ℕ) (d : List Condition) (a : List ℤ) (box : Box) (b : Bool) → AllVisible g [] i d → InBox a box → VerdictMeans (goal_finding g i d a).verdict g [] i d a box (goal_finding g i d a) b
goal_node g i d a box b v h = goal_by g i d a box b (allows g i a) v h refl

-- over no branch each target has its entry's value
empty_vector : (g : Game) (d : List Condition) (a : List ℤ) → vector g d a (answer no_entries) ≡ entry_values g d a (numbers_for d [])
empty_vector g d a = vector_under g a no_entries d

module _ (g : Game) (ordered : IsOrdered g) (later : List Scope) (i : ℕ) (d : List Condition) (a : List ℤ) (box : Box) (b : Bool) (h : Option ℕ) (blocked : IsBlocked g i a box h) (here : is_horizon h i ≡ true) (full : has_empty box ≡ false) where
  passed : (t : List ℤ) → IsMove g i a t → InBox (a ++ t) box → ⊥
  passed t m j = none_pass g i a t box h here blocked m j

  stuck_goal : i ≡ length g.scopes → Frame g i a box → VerdictMeans (stuck_finding [] g d a).verdict g [] i d a box (stuck_finding [] g d a) b
  stuck_goal e f = record { none = λ r o. nobody o.optimal.1; loses = λ q. (tt, nobody); once = tt }
    where
      nobody : IsTrue (allows g i a) → ⊥
      nobody ok = passed [] (goal_move g ordered i a e ok) (subst (λ u. InBox u box) (sym (append-nil a)) (front_in g i a box f full))

  stuck_exists : (x : Option Condition) → FairNode g b (record { kind = Exists; condition = x } ∷ later) i a box →
      VerdictMeans (kind_stuck Exists g d a).verdict g (record { kind = Exists; condition = x } ∷ later) i d a box (kind_stuck Exists g d a) b
  stuck_exists x f = record { none = λ r o. nobody r o.optimal o.lies; loses = replies; once = (tt, tt) }
    where
      nobody : (r : Plan) → Optimal g (record { kind = Exists; condition = x } ∷ later) i a r → PlanLies box a r → ⊥
      nobody finish o l = o
      nobody (choose t s) o l = passed t o.is_move (choice_front g later (suc i) (a ++ t) s box o.after (lies_to box (a ++ t) s l))
      nobody (answer es) o l = o

      replies : b ≡ false → RepliesTo g i a (CanPassBlock g later (suc i)) (CounterWins g later (suc i)) no_entries
      replies q t m = inr (λ pass.
          let w = pass_good g later (suc i) (a ++ t) pass in
          let r = good_front g later (suc i) (a ++ t) w.0 w.1 in
          let all = all_good g b (record { kind = Exists; condition = x } ∷ later) i a box full (ap (λ y. stop_of y (record { kind = Exists; condition = x } ∷ later) i) q) f w.0 (t, m, w.1) in
          passed t m (in_front (a ++ t) r.0 box (subst (λ u. InBox u box) r.1 all)))

  stuck_forall : (x : Option Condition) → FairNode g b (record { kind = Forall; condition = x } ∷ later) i a box →
      VerdictMeans (kind_stuck Forall g d a).verdict g (record { kind = Forall; condition = x } ∷ later) i d a box (kind_stuck Forall g d a) b
  stuck_forall x f = record {
    is_optimal = record { optimal = record { tuples = sym no_moves; each = tt }; lies = front_in g i a box f.frame full };
    has_vector = empty_vector g d a;
    best = λ r o. best r o.optimal;
  }
    where
      no_moves : moves g i a ≡ []
      no_moves = none_among (moves g i a) (λ t k.
          let m = moves_to g i a t k in
          passed t m (declared_move g i a t box f.frame.count (front_in g i a box f.frame full) (rest_declared g b x later i a box full f) m))

      best : (r : Plan) → Optimal g (record { kind = Forall; condition = x } ∷ later) i a r → is_better_vector d (vector g d a r) (entry_values g d a (numbers_for d [])) ≡ false
      best finish o = absurd o
      best (choose t s) o = absurd o
      best (answer no_entries) o = ap (is_better_vector d (vector g d a (answer no_entries))) (sym (empty_vector g d a)) ∙ no_better_self d (vector g d a (answer no_entries))
      best (answer (entry t s es)) o = absurd (some_entry (o.tuples ∙ no_moves))
        where
          some_entry : {us : List (List ℤ)} {u : List ℤ} → ¬ (u ∷ us ≡ [])
          some_entry q = cc

pub stuck_node : (g : Game) (ordered : IsOrdered g) (later : List Scope) (i : ℕ) (d : List Condition) (a : List ℤ) (box : Box) (b : Bool) (h : Option ℕ) → i + length later ≡ length g.scopes → IsBlocked g i a box h → is_horizon h i ≡ true → has_empty box ≡ false →
    FairNode g b later i a box → VerdictMeans (stuck_finding later g d a).verdict g later i d a box (stuck_finding later g d a) b
stuck_node g ordered [] i d a box b h len blocked here full f = stuck_goal g ordered [] i d a box b h blocked here full (omega arith) f.frame
stuck_node g ordered (s ∷ later) i d a box b h len blocked here full f = by s.kind s.condition f
  where
    by : (k : Kind) (x : Option Condition) → FairNode g b (record { kind = k; condition = x } ∷ later) i a box → VerdictMeans (kind_stuck k g d a).verdict g (record { kind = k; condition = x } ∷ later) i d a box (kind_stuck k g d a) b
    by Exists x f = stuck_exists g ordered later i d a box b h blocked here full x f
    by Forall x f = stuck_forall g ordered later i d a box b h blocked here full x f
