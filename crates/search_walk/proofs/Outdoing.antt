-- What the incumbent of the scope right above outdoes.
use Rattle.std.proofs.Common.{◌≡◌, ◌∙◌, refl, sym, ap, arith, Bool, true, false, ◌&&◌, ◌||◌, Option, None, Some, List, ℕ, drop, ℤ}
use Rattle.std.specs.Prelude.{int_lt}
use Rattle.std.specs.Ordering.{int_eq}
use Rattle.std.proofs.lemmas.Int.{ints}
use Rattle.std.proofs.lemmas.Bool.Decides.{Decides-int_eq}
use Rattle.std.proofs.lemmas.Bool.{and_from, and_parts}
use Rattle.qc_model.specs.declared.problem.Sense.{Sense}
use Rattle.qc_model.specs.declared.problem.Sense.TheVariants.{Min, Max}
use Rattle.qc_model.specs.Content.{Game}
use Rattle.qc_model.specs.Demands.{demands}
use Rattle.qc_model.specs.ExistsVerdict.{beats}
use Rattle.qc_model.specs.Optimal.{is_better}
use Rattle.qc_model.specs.Verdict.{Seen}
use Rattle.joins.specs.Verdicts.{scope_side}
use Rattle.search_parts.specs.Bounded.{is_bounded, Outdoes}
use Rattle.search_walk.specs.Rivals.{beaten_by, outdoes, IsRival}
use Rattle.search_parts.specs.Settled.{is_outdone}
use Rattle.search_walk.specs.declared.rival.Rival.{Rival}
use Rattle.search_parts.proofs.Outdone.{side_one}

pub outdone_by : (g : Game) (i : ℕ) (r : Option Rival) (xs : List Seen) (b : ℤ) → scope_side (drop i g.scopes) g (demands g i) xs ≡ Some b → beaten_by r b ≡ true → is_outdone (outdoes g i r) xs ≡ true
outdone_by g i r xs b e h = let o = side_one g (drop i g.scopes) (demands g i) xs b e in o.one (outdoes g i r) (and_from _ (beaten_by r b) o.bounds h)

-- ---- what the rival beats
beats_worse : (s : Sense) (a : Bool) (m n b : ℤ) → beats s a m n ≡ true → is_better s b n ≡ false → beats s a m b ≡ true
beats_worse Min a m n b e f = by (int_lt m n) (int_eq m n) (int_lt m b) (int_eq m b) a refl refl refl refl e
  where
    by : (mn en mb eb a : Bool) → int_lt m n ≡ mn → int_eq m n ≡ en → int_lt m b ≡ mb → int_eq m b ≡ eb → (mn || (a && en)) ≡ true → (mb || (a && eb)) ≡ true
    by mn en true eb a p q r t h = refl
    by true en false eb a p q r t h = absurd (omega (arith, ints, f, p, r))
    by false true false eb true p q r t h = let k = (Decides-int_eq m n).0 q in let j : m ≡ b = omega (arith, ints, f, p, r, k) in sym t ∙ (Decides-int_eq m b).1 j
    by false true false eb false p q r t h = cc
    by false false false eb true p q r t h = cc
    by false false false eb false p q r t h = cc
beats_worse Max a m n b e f = by (int_lt n m) (int_eq m n) (int_lt b m) (int_eq m b) a refl refl refl refl e
  where
    by : (mn en mb eb a : Bool) → int_lt n m ≡ mn → int_eq m n ≡ en → int_lt b m ≡ mb → int_eq m b ≡ eb → (mn || (a && en)) ≡ true → (mb || (a && eb)) ≡ true
    by mn en true eb a p q r t h = refl
    by true en false eb a p q r t h = absurd (omega (arith, ints, f, p, r))
    by false true false eb true p q r t h = let k = (Decides-int_eq m n).0 q in let j : m ≡ b = omega (arith, ints, f, p, r, k) in sym t ∙ (Decides-int_eq m b).1 j
    by false true false eb false p q r t h = cc
    by false false false eb true p q r t h = cc
    by false false false eb false p q r t h = cc

pub rival_outdoes : (g : Game) (i : ℕ) (r : Option Rival) → IsRival g i r → Outdoes g (drop i g.scopes) (demands g i) (outdoes g i r)
rival_outdoes g i None k = record {
  bounded = λ n e. (and_parts _ false e).0;
  worse = λ n b e f. let q = and_parts (is_bounded (drop i g.scopes) g (demands g i)) false e in absurd (cc q.1);
}
rival_outdoes g i (Some r) k = record {
  bounded = λ n e. (and_parts _ (beats r.sense r.is_alone r.best n) e).0;
  worse = λ n b e f.
      let q = and_parts (is_bounded (drop i g.scopes) g (demands g i)) (beats r.sense r.is_alone r.best n) e in
      and_from _ _ q.0 (beats_worse r.sense r.is_alone r.best n b q.1 (ap (λ (z : Sense). is_better z b n) (sym k) ∙ f));
}
