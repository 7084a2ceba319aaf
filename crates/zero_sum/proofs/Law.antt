-- The optimum of a zero-sum game by two games without wishes.
use Rattle.std.proofs.Common.{◌≡◌, refl, sym, ap, ◌∙◌, subst, ℕ, true, false, List, [], ◌∷◌, ◌++◌, map, ℤ}
use Rattle.std.specs.Prelude.{Option, Some, None, IsTrue}
use Rattle.qc_model.specs.declared.problem.Kind.TheVariants.{Exists}
use Rattle.qc_model.specs.declared.problem.Condition.{Condition}
use Rattle.qc_model.specs.declared.problem.Scope.{Scope}
use Rattle.qc_model.specs.Content.{Game}
use Rattle.qc_model.specs.Game.{Wins, IsWon}
use Rattle.qc_model.specs.Plan.{Plan, finish, choose, answer}
use Rattle.qc_model.specs.Value.{value}
use Rattle.qc_model.specs.Optimal.{is_better, Optimal}
use Rattle.qc_model.specs.Valid.{IsValid}
use Rattle.qc_model.proofs.Plans.{optimal_wins}
use Rattle.model_laws.proofs.Existence.{optimal_exists}
use Rattle.proof_tree.specs.Meaning.{HasOptimum, IsOptimum}
use Rattle.zero_sum.specs.declared.stake.Stake.{Stake}
use Rattle.zero_sum.specs.Stake.{is_as_good, only_wish, stake_from, stake_by, defaults_from, defaults_by}
use Rattle.zero_sum.specs.Bounded.{next_better, plain, bounded_game}
use Rattle.zero_sum.specs.Laws.{CanHave, TellsOptimum, OptimumByTwoGames}
use Rattle.zero_sum.proofs.Worst.{good_self, just_good, next_is_better}
use Rattle.zero_sum.proofs.Places.{stake_sense}
use Rattle.zero_sum.proofs.Play.{has_wins, wins_has}
use Rattle.zero_sum.proofs.Wishes.{OneWish, one_wish, wins_wished}

none_found : (n : ℕ) → None ≡ Some n → ⊥
none_found n e = cc

module _ (g : Game) (z : Stake) (c : Condition) (later : List Scope) where
  abbrev Wished : List Scope
  Wished = record { kind = Exists; condition = Some c } ∷ later

  -- the scopes are these, the others have no wishes, and z is at stake
  record Stands : Type 0 where
    valid : IsValid g
    scopes : g.scopes ≡ Wished
    others : map plain later ≡ later
    sense : z.sense ≡ c.sense
    stake : stake_from g z.sense Wished 0 None c.target ≡ Some z

  module _ (stands : Stands) where
    -- a strategy of the game is one of the game without wishes
    without_wish : (s : Plan) → Optimal g Wished 0 [] s → Optimal g (map plain Wished) 0 [] s
    without_wish finish o = absurd o
    without_wish (choose t s) o = record { is_move = o.is_move; after = subst (λ ks. Optimal g ks 1 ([] ++ t) s) (sym stands.others) o.after; best = tt }
    without_wish (answer l) o = absurd o

    -- an optimal strategy isn't beaten by one that wins
    unbeaten : (s r : Plan) → Optimal g (map plain Wished) 0 [] s → Optimal g Wished 0 [] r → is_better c.sense (value g s c.target []) (value g r c.target []) ≡ false
    unbeaten finish r o b = absurd o
    unbeaten (answer l) r o b = absurd o
    unbeaten (choose t s) finish o b = absurd b
    unbeaten (choose t s) (answer l) o b = absurd b
    unbeaten (choose t s) (choose u r) o b = b.best t s o.is_move (subst (λ ks. Optimal g ks 1 ([] ++ t) s) stands.others o.after)

    abbrev Good : ℤ → Plan → Type 0
    Good v s = is_as_good c.sense (value g s c.target []) v ≡ true

    abbrev Wins_bounded : ℤ → Type 0
    Wins_bounded v = Wins (bounded_game g z v) (map plain Wished) 0 []

    wins : (v : ℤ) (s : Plan) → Optimal g (map plain Wished) 0 [] s → Good v s → Wins_bounded v
    wins v s o w =
        has_wins g z v Wished 0 None c.target [] s (λ n e. absurd (none_found n e)) stands.stake (o, subst (λ b. is_as_good b (value g s c.target []) v ≡ true) (sym stands.sense) w)

    has : (v : ℤ) → defaults_from g c.sense v Wished 0 c.target ≡ true → Wins_bounded v → (s : Plan) × (Optimal g (map plain Wished) 0 [] s × Good v s)
    has v d w =
        let r = wins_has g z v stands.valid Wished 0 None c.target [] (λ n e. absurd (none_found n e)) (λ e. absurd (none_found z.place.0 e)) stands.stake
        (subst (λ b. defaults_from g b v Wished 0 c.target ≡ true) (sym stands.sense) d) w in
        (r.0, (r.1.0, subst (λ b. is_as_good b (value g r.0 c.target []) v ≡ true) stands.sense r.1.1))

    won : (v : ℤ) → defaults_from g c.sense v Wished 0 c.target ≡ true → Wins_bounded v → Wins g Wished 0 []
    won v d w = let r = has v d w in wins_wished g Wished 0 [] (optimal_wins g (map plain Wished) 0 [] r.0 r.1.0)

    optimum : (v : ℤ) → defaults_from g c.sense v Wished 0 c.target ≡ true → Wins_bounded v → (Wins_bounded (next_better c.sense v) → ⊥) →
        (r : Plan) → Optimal g Wished 0 [] r → value g r c.target [] ≡ v
    optimum v d w n r o =
        let s = has v d w in
        just_good c.sense (value g r c.target []) (value g s.0 c.target []) v s.1.1 (unbeaten s.0 r s.1.0 o) (λ k. n (wins (next_better c.sense v) r (without_wish r o) k))

    is_had : (v : ℤ) → Wins g Wished 0 [] → ((r : Plan) → Optimal g Wished 0 [] r → value g r c.target [] ≡ v) → Wins_bounded v
    is_had v w h =
        let r = optimal_exists g Wished 0 [] w in
        wins v r.0 (without_wish r.0 r.1) (good_self c.sense (value g r.0 c.target []) v (h r.0 r.1))

    is_best : (v : ℤ) → Wins g Wished 0 [] → ((r : Plan) → Optimal g Wished 0 [] r → value g r c.target [] ≡ v) → defaults_from g c.sense (next_better c.sense v) Wished 0 c.target ≡ true →
        Wins_bounded (next_better c.sense v) → ⊥
    is_best v w h d b =
        let r = optimal_exists g Wished 0 [] w in
        let s = has (next_better c.sense v) d b in
        next_is_better c.sense (value g s.0 c.target []) (value g r.0 c.target []) v (h r.0 r.1) s.1.1 (unbeaten s.0 r.0 s.1.0 r.1)

    -- said of the game's own scopes
    abbrev Bounded_of : List Scope → ℤ → Type 0
    Bounded_of ks v = Wins (bounded_game g z v) (map plain ks) 0 []

    abbrev Has_of : List Scope → ℤ → Type 0
    Has_of ks v = (s : Plan) × Optimal g (map plain ks) 0 [] s × IsTrue (is_as_good c.sense (value g s c.target []) v)

    abbrev Fits_of : List Scope → ℤ → Type 0
    Fits_of ks v = defaults_from g c.sense v ks 0 c.target ≡ true

    abbrev Optimum_of : List Scope → ℤ → Type 0
    Optimum_of ks v = (w : Wins g ks 0 []) × ((r : Plan) → Optimal g ks 0 [] r → value g r c.target [] ≡ v)

    record Tells (ks : List Scope) : Type 0 where
      wins_it : (v : ℤ) → Has_of ks v → Bounded_of ks v
      has_it : (v : ℤ) → Fits_of ks v → Bounded_of ks v → Has_of ks v
      optimum_is : (v : ℤ) → Fits_of ks v → Bounded_of ks v → (Bounded_of ks (next_better c.sense v) → ⊥) → Optimum_of ks v
      had : (v : ℤ) → Optimum_of ks v → Bounded_of ks v
      best : (v : ℤ) → Optimum_of ks v → Fits_of ks (next_better c.sense v) → Bounded_of ks (next_better c.sense v) → ⊥

    tells : Tells Wished
    tells = record {
      wins_it = λ v h. wins v h.0 h.1 h.2;
      has_it = λ v d w. let r = has v d w in (r.0, r.1.0, r.1.1);
      optimum_is = λ v d w n. (won v d w, optimum v d w n);
      had = λ v h. is_had v h.0 h.1;
      best = λ v h d b. is_best v h.0 h.1 d b;
    }

    tells_own : Tells g.scopes
    tells_own = subst Tells (sym stands.scopes) tells

-- what is the optimum of the wish is that of the scopes
optimum_to : (c : Condition) (g : Game) (v : ℤ) (ks : List Scope) → OneWish c ks → HasOptimum c g v → IsOptimum ks g v
optimum_to c g v ks o h = subst (λ ks. IsOptimum ks g v) (sym o.first) h

optimum_from : (c : Condition) (g : Game) (v : ℤ) (ks : List Scope) → OneWish c ks → IsOptimum ks g v → HasOptimum c g v
optimum_from c g v ks o h = subst (λ ks. IsOptimum ks g v) o.first h

module _ (g : Game) (z : Stake) (c : Condition) (valid : IsValid g) (wish : only_wish g.scopes ≡ Some c) (e : stake_from g c.sense g.scopes 0 None c.target ≡ Some z) where
  one : OneWish c g.scopes
  one = one_wish c g.scopes wish

  same : z.sense ≡ c.sense
  same = stake_sense g c.sense z g.scopes 0 None c.target e

  stand : Stands g z c one.later
  stand = record {
    valid = valid;
    scopes = one.first;
    others = one.others;
    sense = same;
    stake = subst (λ b. stake_from g b (record { kind = Exists; condition = Some c } ∷ one.later) 0 None c.target ≡ Some z) (sym same)
        (subst (λ ks. stake_from g c.sense ks 0 None c.target ≡ Some z) one.first e);
  }

  own : Tells g z c one.later stand g.scopes
  own = tells_own g z c one.later stand

  fits : (v : ℤ) → defaults_by g v (only_wish g.scopes) ≡ true → defaults_from g c.sense v g.scopes 0 c.target ≡ true
  fits v d = sym (ap (defaults_by g v) wish) ∙ d

  better_same : (v : ℤ) → next_better z.sense v ≡ next_better c.sense v
  better_same v = ap (λ b. next_better b v) same

  game_tells : TellsOptimum g z
  game_tells = record {
    wins = λ v h. own.wins_it v (subst (λ x. CanHave g x v) wish h);
    has = λ v d w. subst (λ x. CanHave g x v) (sym wish) (own.has_it v (fits v d) w);
    optimum = λ v d w n.
        let r = own.optimum_is v (fits v d) w (λ b. n (subst (λ u. IsWon (bounded_game g z u)) (sym (better_same v)) b)) in
        (r.0, optimum_to c g v g.scopes one (record { won = r.0; has_value = r.1 }));
    is_had = λ v h. let r = optimum_from c g v g.scopes one h in own.had v (r.won, r.has_value);
    is_best = λ v h d b.
        let r = optimum_from c g v g.scopes one h in
        own.best v (r.won, r.has_value) (subst (λ u. defaults_from g c.sense u g.scopes 0 c.target ≡ true) (better_same v) (fits (next_better z.sense v) d))
        (subst (λ u. IsWon (bounded_game g z u)) (better_same v) b);
  }

pub optimum_by_two : OptimumByTwoGames
optimum_by_two g z valid e = by (only_wish g.scopes) refl e
  where
    by : (x : Option Condition) → only_wish g.scopes ≡ x → stake_by g x ≡ Some z → TellsOptimum g z
    by None w e = absurd cc
    by (Some c) w e = game_tells g z c valid w e
