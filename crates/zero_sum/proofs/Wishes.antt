-- A game with one wish alone, that of its first scope.
use Rattle.std.proofs.Common.{◌≡◌, refl, sym, ap, ◌∙◌, ℕ, suc, Bool, true, false, List, [], ◌∷◌, ◌++◌, map, cond, ℤ}
use Rattle.std.specs.Prelude.{Option, Some, None, is_none}
use Rattle.std.specs.List.{list_all}
use Rattle.std.proofs.lemmas.Bool.{and_parts}
use Rattle.qc_model.specs.declared.problem.Kind.{Kind}
use Rattle.qc_model.specs.declared.problem.Kind.TheVariants.{Exists, Forall}
use Rattle.qc_model.specs.declared.problem.Condition.{Condition}
use Rattle.qc_model.specs.declared.problem.Scope.{Scope}
use Rattle.qc_model.specs.Content.{Game}
use Rattle.qc_model.specs.Game.{AfterMove, Wins}
use Rattle.zero_sum.specs.Stake.{only_wish_at, only_wish}
use Rattle.zero_sum.specs.Bounded.{plain}

-- the scopes are one with the condition c, and others without
pub record OneWish (c : Condition) (scopes : List Scope) : Type 0 where
  pub later : List Scope
  pub first : scopes ≡ record { kind = Exists; condition = Some c } ∷ later
  pub others : map plain later ≡ later

plain_others : (later : List Scope) → list_all (λ (s : Scope). is_none s.condition) later ≡ true → map plain later ≡ later
plain_others [] h = refl
plain_others (s ∷ later) h = ap (λ t. t ∷ map plain later) (same s.condition refl (and_parts _ _ h).0) ∙ ap (λ ts. s ∷ ts) (plain_others later (and_parts _ _ h).1)
  where
    same : (x : Option Condition) → s.condition ≡ x → is_none x ≡ true → plain s ≡ s
    same None e k = ap (λ y. record { kind = s.kind; condition = y }) (sym e)
    same (Some c) e k = absurd cc

pub one_wish : (c : Condition) (scopes : List Scope) → only_wish scopes ≡ Some c → OneWish c scopes
one_wish c [] e = absurd cc
one_wish c (s ∷ later) e = by s.kind refl e
  where
    plainly : (b : Bool) (x : Option Condition) → list_all (λ (s : Scope). is_none s.condition) later ≡ b → s.kind ≡ Exists → s.condition ≡ x → cond b x None ≡ Some c → OneWish c (s ∷ later)
    plainly true x h k y e = record {
      later = later;
      first = ap (λ t. t ∷ later) (ap (λ n. record { kind = n; condition = s.condition }) k ∙ ap (λ n. record { kind = Exists; condition = n }) (y ∙ e));
      others = plain_others later h;
    }
    plainly false x h k y e = absurd cc

    by : (k : Kind) → s.kind ≡ k → only_wish_at k s.condition later ≡ Some c → OneWish c (s ∷ later)
    by Exists k e = plainly (list_all (λ (s : Scope). is_none s.condition) later) s.condition refl k refl e
    by Forall k e = absurd cc

-- conditions don't count for who wins
pub wins_wished : (g : Game) (ks : List Scope) (i : ℕ) (a : List ℤ) → Wins g (map plain ks) i a → Wins g ks i a
wins_wished g [] i a w = w
wins_wished g (s ∷ ks) i a w = by (wins_wished g ks (suc i)) s.kind w
  where
    by : ((b : List ℤ) → Wins g (map plain ks) (suc i) b → Wins g ks (suc i) b) → (k : Kind) → AfterMove k g i a (Wins g (map plain ks) (suc i)) → AfterMove k g i a (Wins g ks (suc i))
    by f Exists w = (w.0, w.1, f (a ++ w.0) w.2)
    by f Forall w = λ t m. f (a ++ t) (w t m)
