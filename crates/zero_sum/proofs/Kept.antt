-- What one more constraint changes: the moves of its own place alone.
use Rattle.std.proofs.Common.{◌≡◌, refl, sym, ap, ◌∙◌, ℕ, suc, ◌<◌, Bool, true, false, ◌&&◌, List, [], ◌∷◌, ◌++◌, filter, cond, arith, ℤ, pos}
use Rattle.std.specs.Prelude.{◌==◌, nat_le, slice_index_or}
use Rattle.std.specs.List.{list_all}
use Rattle.std.proofs.lemmas.Bool.Decides.{nat_tests}
use Rattle.std.proofs.lemmas.Bool.{and_parts, and_from}
use Rattle.qc_model.specs.declared.problem.Kind.{Kind}
use Rattle.qc_model.specs.declared.problem.Kind.TheVariants.{Exists, Forall}
use Rattle.qc_model.specs.declared.problem.Sense.{Sense}
use Rattle.qc_model.specs.declared.problem.Sense.TheVariants.{Min, Max}
use Rattle.qc_model.specs.declared.problem.VarId.{VarId}
use Rattle.qc_model.specs.declared.problem.ScopeId.{ScopeId}
use Rattle.qc_model.specs.declared.problem.Scope.{Scope}
use Rattle.qc_model.specs.Content.{Game, Rule}
use Rattle.qc_model.specs.Holds.{holds_on}
use Rattle.qc_model.specs.Game.{allows, IsMove, AfterMove, Wins}
use Rattle.zero_sum.specs.declared.stake.Stake.{Stake}
use Rattle.zero_sum.specs.Stake.{is_as_good}
use Rattle.zero_sum.specs.Bounded.{bound, with_rule, bounded_game}

pub swap : (x y w : Bool) → (x && (y && w)) ≡ (y && (x && w))
swap true true w = refl
swap true false w = refl
swap false true w = refl
swap false false w = refl

-- all of those with q pass p
module _ (p q : Rule → Bool) where
  all_more : (c : Rule) (cs : List Rule) → list_all p (filter q (c ∷ cs)) ≡ (cond (q c) (p c) true && list_all p (filter q cs))
  all_more c cs = by (q c)
    where
      by : (b : Bool) → list_all p (cond b (c ∷ filter q cs) (filter q cs)) ≡ (cond b (p c) true && list_all p (filter q cs))
      by true = refl
      by false = refl

  pub all_with : (r : Rule) (cs : List Rule) → list_all p (filter q (with_rule r cs)) ≡ (cond (q r) (p r) true && list_all p (filter q cs))
  all_with r [] = all_more r []
  all_with r (c ∷ rest) = by (all_with r rest) (nat_le c.owner.0 r.owner.0)
    where
      by : list_all p (filter q (with_rule r rest)) ≡ (cond (q r) (p r) true && list_all p (filter q rest)) →
          (b : Bool) → list_all p (filter q (cond b (c ∷ with_rule r rest) (r ∷ c ∷ rest))) ≡ (cond (q r) (p r) true && list_all p (filter q (c ∷ rest)))
      by f true =
          all_more c (with_rule r rest)
          ∙ ap (λ z. cond (q c) (p c) true && z) f
          ∙ swap (cond (q c) (p c) true) (cond (q r) (p r) true) (list_all p (filter q rest))
          ∙ ap (λ z. cond (q r) (p r) true && z) (sym (all_more c rest))
      by f false = all_more r (c ∷ rest)

bound_holds : (c : Sense) (x : VarId) (e : ScopeId) (v : ℤ) (vs : List ℤ) →
    holds_on (bound (record { sense = c; variable = x; place = e }) v) vs ≡ is_as_good c (slice_index_or vs x.0 (pos 0)) v
bound_holds Min x e v vs = refl
bound_holds Max x e v vs = refl

here : (m i : ℕ) → m ≡ i → (m == i) ≡ true
here m i e = grind (arith, nat_tests)

apart : (m i : ℕ) → (m == i) ≡ true → m ≡ i
apart m i e = grind (arith, nat_tests)

module _ (g : Game) (z : Stake) (v : ℤ) where
  -- what is at stake has a value that is as good as v
  abbrev pub Good : List ℤ → Type 0
  Good vs = is_as_good z.sense (slice_index_or vs z.variable.0 (pos 0)) v ≡ true

  allowed : (i : ℕ) (vs : List ℤ) →
      allows (bounded_game g z v) i vs ≡ (cond (z.place.0 == i) (is_as_good z.sense (slice_index_or vs z.variable.0 (pos 0)) v) true && allows g i vs)
  allowed i vs =
      all_with (λ c. holds_on c vs) (λ c. c.owner.0 == i) (bound z v) g.constraints
      ∙ ap (λ b. cond (z.place.0 == i) b true && allows g i vs) (bound_holds z.sense z.variable z.place v vs)

  pub allowed_before : (i : ℕ) (vs : List ℤ) → allows (bounded_game g z v) i vs ≡ true → allows g i vs ≡ true
  allowed_before i vs h = (and_parts _ _ (sym (allowed i vs) ∙ h)).1

  pub is_good : (i : ℕ) (vs : List ℤ) → allows (bounded_game g z v) i vs ≡ true → z.place.0 ≡ i → Good vs
  is_good i vs h e =
      ap (λ b. cond b (is_as_good z.sense (slice_index_or vs z.variable.0 (pos 0)) v) true) (sym (here z.place.0 i e)) ∙ (and_parts _ _ (sym (allowed i vs) ∙ h)).0

  pub allowed_still : (i : ℕ) (vs : List ℤ) → allows g i vs ≡ true → (z.place.0 ≡ i → Good vs) → allows (bounded_game g z v) i vs ≡ true
  allowed_still i vs h f = allowed i vs ∙ and_from _ _ (by (z.place.0 == i) refl) h
    where
      by : (b : Bool) → (z.place.0 == i) ≡ b → cond b (is_as_good z.sense (slice_index_or vs z.variable.0 (pos 0)) v) true ≡ true
      by true e = f (apart z.place.0 i e)
      by false e = refl

  pub move_before : (i : ℕ) (a t : List ℤ) → IsMove (bounded_game g z v) i a t → IsMove g i a t
  move_before i a t m = record { is_tuple = m.is_tuple; is_allowed = allowed_before i (a ++ t) m.is_allowed }

  pub move_still : (i : ℕ) (a t : List ℤ) → IsMove g i a t → (z.place.0 ≡ i → Good (a ++ t)) → IsMove (bounded_game g z v) i a t
  move_still i a t m f = record { is_tuple = m.is_tuple; is_allowed = allowed_still i (a ++ t) m.is_allowed f }

  pub past : (i : ℕ) → z.place.0 < i → (vs : List ℤ) → z.place.0 ≡ i → Good vs
  past i lt vs e = absurd (omega arith)

  -- past the place nothing differs
  pub wins_still : (ks : List Scope) (i : ℕ) (a : List ℤ) → z.place.0 < i → Wins g ks i a → Wins (bounded_game g z v) ks i a
  wins_still [] i a lt w = allowed_still i a w (past i lt a)
  wins_still (s ∷ ks) i a lt w = turn (λ b. wins_still ks (suc i) b (omega arith)) s.kind w
    where
      turn : ((b : List ℤ) → Wins g ks (suc i) b → Wins (bounded_game g z v) ks (suc i) b) →
          (k : Kind) → AfterMove k g i a (Wins g ks (suc i)) → AfterMove k (bounded_game g z v) i a (Wins (bounded_game g z v) ks (suc i))
      turn f Exists w = (w.0, move_still i a w.0 w.1 (past i lt (a ++ w.0)), f (a ++ w.0) w.2)
      turn f Forall w = λ t m. f (a ++ t) (w t (move_before i a t m))

  pub wins_before : (ks : List Scope) (i : ℕ) (a : List ℤ) → z.place.0 < i → Wins (bounded_game g z v) ks i a → Wins g ks i a
  wins_before [] i a lt w = allowed_before i a w
  wins_before (s ∷ ks) i a lt w = turn (λ b. wins_before ks (suc i) b (omega arith)) s.kind w
    where
      turn : ((b : List ℤ) → Wins (bounded_game g z v) ks (suc i) b → Wins g ks (suc i) b) →
          (k : Kind) → AfterMove k (bounded_game g z v) i a (Wins (bounded_game g z v) ks (suc i)) → AfterMove k g i a (Wins g ks (suc i))
      turn f Exists w = (w.0, move_before i a w.0 w.1, f (a ++ w.0) w.2)
      turn f Forall w = λ t m. f (a ++ t) (w t (move_still i a t m (past i lt (a ++ t))))
