-- A strategy keeps what is at stake as good as v exactly where it wins the game bounded by v.
use Rattle.std.proofs.Common.{◌≡◌, inl, inr, refl, sym, ap, ◌∙◌, subst, ℕ, suc, ◌<◌, ◌≤◌, Bool, true, false, List, [], ◌∷◌, ◌++◌, map, arith, ℤ, pos}
use Rattle.std.specs.Prelude.{Option, Some, None, slice_get, slice_index_or, ◌||◌}
use Rattle.std.proofs.lemmas.Bool.{and_parts}
use Rattle.qc_model.specs.declared.problem.Kind.{Kind}
use Rattle.qc_model.specs.declared.problem.Kind.TheVariants.{Exists, Forall}
use Rattle.qc_model.specs.declared.problem.Target.{Target}
use Rattle.qc_model.specs.declared.problem.Target.TheVariants.{Var, Aggregate as Agg}
use Rattle.qc_model.specs.declared.problem.VarId.{VarId}
use Rattle.qc_model.specs.declared.problem.Scope.{Scope}
use Rattle.qc_model.specs.declared.problem.Aggregate.{Aggregate}
use Rattle.qc_model.specs.Content.{Game}
use Rattle.qc_model.specs.Lists.{Among}
use Rattle.qc_model.specs.Game.{moves, AfterMove, Wins}
use Rattle.qc_model.specs.Plan.{Plan, finish, choose, answer, Entries, no_entries, entry, entry_tuples, EachEntry, Covers}
use Rattle.qc_model.specs.Value.{value, branch_values, aggregate_fold, inner_target}
use Rattle.qc_model.specs.Optimal.{ChoosesBest, Optimal}
use Rattle.qc_model.specs.Valid.{IsValid}
use Rattle.qc_model.proofs.Moves.{moves_from, moves_to}
use Rattle.qc_model.proofs.Plans.{optimal_wins}
use Rattle.model_laws.proofs.Existence.{entries_exist, optimal_exists}
use Rattle.zero_sum.specs.declared.stake.Stake.{Stake}
use Rattle.zero_sum.specs.Stake.{is_as_good, is_free, stake_past, stake_from, defaults_past, defaults_from}
use Rattle.zero_sum.specs.Bounded.{plain, bounded_game}
use Rattle.zero_sum.proofs.Kept.{Good, is_good, allowed_still, allowed_before, move_before, move_still, wins_still, wins_before}
use Rattle.zero_sum.proofs.Worst.{worst_each, worst_all}
use Rattle.zero_sum.proofs.Free.{free_move}
use Rattle.zero_sum.proofs.Places.{found, passed, place_after, AtPlain, answer_worth, worth_at_place}

-- an entry of each tuple
entry_at : (R : List ℤ → Plan → Type 0) (l : Entries) (t : List ℤ) → EachEntry R l → Among t (entry_tuples l) → (s : Plan) × R t s
entry_at R no_entries t e m = absurd m
entry_at R (entry u s rest) t e m = elim m [ inl q ↦ (s, subst (λ v. R v s) (sym q) e.0) | inr n ↦ entry_at R rest t e.1 n ]

module _ (g : Game) (z : Stake) (v : ℤ) where
  abbrev Worth : Target → List ℤ → Plan → Type 0
  Worth t a s = is_as_good z.sense (value g s t a) v ≡ true

  -- optimal, and worth as much as v
  abbrev Has : List Scope → ℕ → Target → List ℤ → Plan → Type 0
  Has ks i t a s = Optimal g ks i a s × Worth t a s

  -- entries of which each is so
  each_has : (ks : List Scope) (i : ℕ) (t : Target) (a : List ℤ) (l : Entries) → EachEntry (λ u s. Optimal g ks i (a ++ u) s) l →
      ((x : ℤ) → Among x (branch_values g l t a) → is_as_good z.sense x v ≡ true) → EachEntry (λ u s. Has ks i t (a ++ u) s) l
  each_has ks i t a no_entries o w = tt
  each_has ks i t a (entry u s rest) o w = ((o.0, w (value g s t (a ++ u)) (inl refl)), each_has ks i t a rest o.1 (λ x m. w x (inr m)))

  each_optimal : (ks : List Scope) (i : ℕ) (t : Target) (a : List ℤ) (l : Entries) → EachEntry (λ u s. Has ks i t (a ++ u) s) l → EachEntry (λ u s. Optimal g ks i (a ++ u) s) l
  each_optimal ks i t a no_entries h = tt
  each_optimal ks i t a (entry u s rest) h = (h.0.0, each_optimal ks i t a rest h.1)

  each_worth : (ks : List Scope) (i : ℕ) (t : Target) (a : List ℤ) (l : Entries) → EachEntry (λ u s. Has ks i t (a ++ u) s) l →
      (x : ℤ) → Among x (branch_values g l t a) → is_as_good z.sense x v ≡ true
  each_worth ks i t a no_entries h x m = absurd m
  each_worth ks i t a (entry u s rest) h x m =
      elim m [ inl e ↦ subst (λ y. is_as_good z.sense y v ≡ true) (sym e) h.0.1 | inr n ↦ each_worth ks i t a rest h.1 x n ]

  -- the place found so far stands before the scope
  abbrev pub IsBefore : Option ℕ → ℕ → Type 0
  IsBefore p i = (n : ℕ) → p ≡ Some n → n < i

  next_before : (i : ℕ) → IsBefore (Some i) (suc i)
  next_before i n e = let same : i ≡ n = cc in omega arith

  none_before : (i : ℕ) → IsBefore None i
  none_before i n e = absurd cc

  good_at : (x : VarId) (a : List ℤ) (y : ℤ) → z.variable ≡ x → y ≡ slice_index_or a x.0 (pos 0) → is_as_good z.sense y v ≡ true → Good g z v a
  good_at x a y e w h = ap (λ (u : VarId). is_as_good z.sense (slice_index_or a u.0 (pos 0)) v) e ∙ ap (λ n. is_as_good z.sense n v) (sym w) ∙ h

  worth_of : (x : VarId) (a : List ℤ) (y : ℤ) → z.variable ≡ x → y ≡ slice_index_or a x.0 (pos 0) → Good g z v a → is_as_good z.sense y v ≡ true
  worth_of x a y e w h = ap (λ n. is_as_good z.sense n v) w ∙ ap (λ (u : VarId). is_as_good z.sense (slice_index_or a u.0 (pos 0)) v) (sym e) ∙ h

  -- WHOEVER HAS IT WINS
  abbrev Winning : List Scope → ℕ → Type 0
  Winning later i =
      (p : Option ℕ) (t : Target) (a : List ℤ) (s : Plan) → IsBefore p i → stake_from g z.sense later i p t ≡ Some z → Has (map plain later) i t a s → Wins (bounded_game g z v) (map plain later) i a

  wins_turn : (later : List Scope) (i : ℕ) → Winning later (suc i) → (k : Kind) (p : Option ℕ) (t : Target) (a : List ℤ) (s : Plan) → IsBefore p i →
      stake_past k g z.sense i (stake_from g z.sense later (suc i)) p t ≡ Some z → AtPlain k g (map plain later) i a s → Worth t a s →
      AfterMove k (bounded_game g z v) i a (Wins (bounded_game g z v) (map plain later) (suc i))
  wins_turn later i f Exists p t a finish b e o w = absurd o
  wins_turn later i f Exists p t a (choose u s) b e o w = (
    u,
    move_still g z v i a u o.is_move (λ here. good_at z.variable (a ++ u) (value g s t (a ++ u)) refl (worth_at_place g z.sense z later i t (a ++ u) s e here o.after) w),
    f (Some i) t (a ++ u) s (next_before i) e (o.after, w),
  )
  wins_turn later i f Exists p t a (answer l) b e o w = absurd o
  wins_turn later i f Forall p t a finish b e o w = absurd o
  wins_turn later i f Forall p t a (choose u s) b e o w = absurd o
  wins_turn later i f Forall p (Var x) a (answer l) b e o w = λ u m.
      let past = b z.place.0 (found z.sense x p z e).place in
      let r = entry_at (λ y s. Optimal g (map plain later) (suc i) (a ++ y) s) l u o.each (subst (Among u) (sym o.tuples) (moves_from g i a u (move_before g z v i a u m))) in
      wins_still g z v (map plain later) (suc i) (a ++ u) (omega arith) (optimal_wins g (map plain later) (suc i) (a ++ u) r.0 r.1)
  wins_turn later i f Forall p (Agg q) a (answer l) b e o w = λ u m.
      let h = passed z.sense (slice_get g.aggregates q.0) _ z e in
      let good = worst_each z.sense (slice_get g.aggregates q.0) v (branch_values g l (inner_target (slice_get g.aggregates q.0)) a) h.worst w in
      let r = entry_at (λ y s. Has (map plain later) (suc i) (inner_target (slice_get g.aggregates q.0)) (a ++ y) s) l u (each_has (map plain later) (suc i) (inner_target (slice_get g.aggregates q.0)) a l o.each good)
      (subst (Among u) (sym o.tuples) (moves_from g i a u (move_before g z v i a u m))) in
      f None (inner_target (slice_get g.aggregates q.0)) (a ++ u) r.0 (none_before (suc i)) h.rest r.1

  end_wins : (i : ℕ) (t : Target) (a : List ℤ) (s : Plan) (p : Option ℕ) → stake_from g z.sense [] i p t ≡ Some z → Has [] i t a s → Wins (bounded_game g z v) [] i a
  end_wins i (Var x) a finish p e h =
      allowed_still g z v i a h.0.1 (λ here. good_at x a (slice_index_or a x.0 (pos 0)) (found z.sense x (Some i) z e).variable refl h.1)
  end_wins i (Var x) a (choose u s) p e h = absurd h.0.0
  end_wins i (Var x) a (answer l) p e h = absurd h.0.0
  end_wins i (Agg q) a s p e h = absurd cc

  pub has_wins : (later : List Scope) (i : ℕ) → Winning later i
  has_wins [] i p t a s b e h = end_wins i t a s p e h
  has_wins (k ∷ later) i p t a s b e h = wins_turn later i (has_wins later (suc i)) k.kind p t a s b e h.0 h.1

  -- WHOEVER WINS HAS IT, where the defaults fit
  abbrev Having : List Scope → ℕ → Type 0
  Having later i =
      (p : Option ℕ) (t : Target) (a : List ℤ) → IsBefore p i → (p ≡ Some z.place.0 → Good g z v a) → stake_from g z.sense later i p t ≡ Some z →
      defaults_from g z.sense v later i t ≡ true → Wins (bounded_game g z v) (map plain later) i a → (s : Plan) × Has (map plain later) i t a s

  not_here : (m i : ℕ) → suc i ≤ m → m ≡ i → ⊥
  not_here m i h e = omega arith

  -- where there are no branches, the default is as good as v
  default_counts : IsValid g → (i : ℕ) (a : List ℤ) (t : Target) (q : Option Aggregate) (l : Entries) → (is_free g i || is_as_good z.sense (aggregate_fold q []) v) ≡ true → entry_tuples l ≡ moves g i a →
      branch_values g l t a ≡ [] → is_as_good z.sense (aggregate_fold q []) v ≡ true
  default_counts valid i a t q (entry u s rest) d e none = absurd cc
  default_counts valid i a t q no_entries d e none = by (is_free g i) (is_as_good z.sense (aggregate_fold q []) v) refl d
    where
      by : (b w : Bool) → is_free g i ≡ b → (b || w) ≡ true → w ≡ true
      by true w free d = let m = free_move g valid i a free in absurd (subst (Among m.0) (sym e) m.1)
      by false w free d = d

  has_turn : IsValid g → (later : List Scope) (i : ℕ) → Having later (suc i) → (k : Kind) (p : Option ℕ) (t : Target) (a : List ℤ) → IsBefore p i → (p ≡ Some z.place.0 → Good g z v a) →
      stake_past k g z.sense i (stake_from g z.sense later (suc i)) p t ≡ Some z → defaults_past k g z.sense v i (defaults_from g z.sense v later (suc i)) t ≡ true →
      AfterMove k (bounded_game g z v) i a (Wins (bounded_game g z v) (map plain later) (suc i)) → (s : Plan) × (AtPlain k g (map plain later) i a s × Worth t a s)
  has_turn valid later i f Exists p t a b c e d w =
      let r = f (Some i) t (a ++ w.0) (next_before i) (λ same. is_good g z v i (a ++ w.0) w.1.is_allowed (here i z.place.0 same)) e d w.2 in
      (choose w.0 r.0, (record { is_move = move_before g z v i a w.0 w.1; after = r.1.0; best = tt }, r.1.1))
    where
      here : (m n : ℕ) → Some m ≡ Some n → n ≡ m
      here m n h = cc
  has_turn valid later i f Forall p (Var x) a b c e d w =
      let place = found z.sense x p z e in
      let past = b z.place.0 place.place in
      let before = wins_before g z v (record { kind = Forall; condition = None } ∷ map plain later) i a past w in
      let r = optimal_exists g (record { kind = Forall; condition = None } ∷ map plain later) i a before in (
        r.0,
        (
          r.1,
          worth_of x a (value g r.0 (Var x) a) place.variable
              (answer_worth g x a (ChoosesBest None g i a (Optimal g (map plain later) (suc i))) (Covers g i a (Optimal g (map plain later) (suc i))) r.0 r.1) (c place.place),
        ),
      )
  has_turn valid later i f Forall p (Agg q) a b c e d w =
      let h = passed z.sense (slice_get g.aggregates q.0) _ z e in
      let after = place_after g z.sense z later (suc i) (inner_target (slice_get g.aggregates q.0)) h.rest in
      let fits = and_parts _ _ d in
      let r = entries_exist (λ u s. Has (map plain later) (suc i) (inner_target (slice_get g.aggregates q.0)) (a ++ u) s) (moves g i a)
      (λ u m. f None (inner_target (slice_get g.aggregates q.0)) (a ++ u) (none_before (suc i)) (λ never. absurd (none_is (z.place.0) never)) h.rest fits.1
      (w u (move_still g z v i a u (moves_to g i a u m) (λ here. absurd (not_here z.place.0 i after here))))) in (
        answer r.0,
        (
          record { tuples = r.1; each = each_optimal (map plain later) (suc i) (inner_target (slice_get g.aggregates q.0)) a r.0 r.2 },
          worst_all z.sense (slice_get g.aggregates q.0) v (branch_values g r.0 (inner_target (slice_get g.aggregates q.0)) a) h.worst
              (default_counts valid i a (inner_target (slice_get g.aggregates q.0)) (slice_get g.aggregates q.0) r.0 fits.0 r.1)
              (each_worth (map plain later) (suc i) (inner_target (slice_get g.aggregates q.0)) a r.0 r.2),
        ),
      )
    where
      none_is : (n : ℕ) → None ≡ Some n → ⊥
      none_is n e = cc

  end_has : (i : ℕ) (t : Target) (a : List ℤ) (p : Option ℕ) → stake_from g z.sense [] i p t ≡ Some z → Wins (bounded_game g z v) [] i a → (s : Plan) × Has [] i t a s
  end_has i (Var x) a p e w =
      let place = found z.sense x (Some i) z e in
      (finish, ((tt, allowed_before g z v i a w), worth_of x a (slice_index_or a x.0 (pos 0)) place.variable refl (is_good g z v i a w (here i z.place.0 place.place))))
    where
      here : (m n : ℕ) → Some m ≡ Some n → n ≡ m
      here m n h = cc
  end_has i (Agg q) a p e w = absurd cc

  pub wins_has : IsValid g → (later : List Scope) (i : ℕ) → Having later i
  wins_has valid [] i p t a b c e d w = end_has i t a p e w
  wins_has valid (k ∷ later) i p t a b c e d w = has_turn valid later i (wins_has valid later (suc i)) k.kind p t a b c e d w
