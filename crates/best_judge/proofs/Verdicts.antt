-- What two lists under a head come to.
use Rattle.std.proofs.Common.{◌≡◌, refl, sym, ap, ◌∙◌, subst, ℕ, ◌+◌, ◌≤◌, List, ◌++◌, length, take, drop, Some}
use Rattle.std.specs.Prelude.{ℤ}
use Rattle.std.proofs.lemmas.List.{take-append-drop, length-take-le, take_at, drop_at}
use Rattle.qc_model.specs.declared.problem.Kind.TheVariants.{Exists, Forall}
use Rattle.qc_model.specs.Content.{Game}
use Rattle.qc_model.specs.Valid.{IsValid}
use Rattle.zero_sum.specs.declared.stake.Stake.{Stake}
use Rattle.zero_sum.specs.Bounded.{next_better, bounded_game}
use Rattle.zero_sum.specs.Laws.{OptimumByTwoGames}
use Rattle.lemma_text.specs.Places.{IsText}
use Rattle.lemma_judge.specs.Checking.{IsProof}
use Rattle.best_text.specs.Text.{head_text, HeadFits, IsBestText}
use Rattle.best_text.proofs.Sequence.{head_one}
use Rattle.best_judge.specs.Asked.{CanAsk, AreAsked, NotAsked}
use Rattle.best_judge.specs.Proof.{IsBestProof, IsNoProof, IsFaultOfLists, IsFaultOfBest, behind}
use Rattle.best_judge.specs.Parts.{BothProve, NotBothProve}
use Rattle.best_judge.proofs.Lists.{text_of}

two_texts : (v : ℤ) (n : ℕ) (lists : List ℕ) → HeadFits v n → n ≤ length lists → IsText (take n lists) → IsText (drop n lists) → IsBestText (head_text v n ++ lists) v (take n lists) (drop n lists)
two_texts v n lists fits within first second =
    let many : length (take n lists) ≡ n = length-take-le n lists within in
    record {
      spelled = ap (λ (k : ℕ). head_text v k ++ lists) (sym many) ∙ ap (λ (l : List ℕ). head_text v (length (take n lists)) ++ l) (sym (take-append-drop n lists));
      fits = subst (HeadFits v) (sym many) fits;
      first_is = first;
      second_is = second;
    }

pub proved : (g : Game) (v : ℤ) (n : ℕ) (lists : List ℕ) (won lost : Game) → IsValid g → OptimumByTwoGames → HeadFits v n → AreAsked g v won lost → BothProve won lost n lists → IsBestProof g (head_text v n ++ lists) v
proved g v n lists won lost valid law fits a b =
    let had : IsProof (bounded_game g a.stake v) (take n lists) Forall = subst (λ (h : Game). IsProof h (take n lists) Forall) a.won_is b.first in
    let best : IsProof (bounded_game g a.stake (next_better a.stake.sense v)) (drop n lists) Exists = subst (λ (h : Game). IsProof h (drop n lists) Exists) a.lost_is b.second in
    record {
      stake = a.stake;
      first = take n lists;
      second = drop n lists;
      text = two_texts v n lists fits b.within (text_of won (take n lists) Forall b.first) (text_of lost (drop n lists) Exists b.second);
      at_stake = a.can.at_stake;
      defaults = a.can.defaults;
      room = a.can.room;
      more_room = a.can.more_room;
      had = had;
      best = best;
      means = (law g a.stake valid a.can.at_stake).optimum v a.can.defaults had.means best.means;
    }

-- the value and the lists are read in one way alone
record SameBest (v w : ℤ) (n : ℕ) (lists first second : List ℕ) : Type 0 where
  value : v ≡ w
  first_is : take n lists ≡ first
  second_is : drop n lists ≡ second

one_best : (v w : ℤ) (n : ℕ) (lists first second : List ℕ) → HeadFits v n → IsBestText (head_text v n ++ lists) w first second → SameBest v w n lists first second
one_best v w n lists first second fits t =
    let s = head_one v w n (length first) lists (first ++ second) fits t.fits t.spelled in
    record {
      value = s.value;
      first_is = ap (take n) s.behind ∙ take_at first second n (sym s.many);
      second_is = ap (drop n) s.behind ∙ drop_at first second n (sym s.many);
    }

same_stake : (z y : Stake) → Some z ≡ Some y → z ≡ y
same_stake z y e = cc

pub not_both : (g : Game) (v : ℤ) (n : ℕ) (lists : List ℕ) (won lost : Game) → HeadFits v n → AreAsked g v won lost → NotBothProve won lost n lists → IsNoProof g (head_text v n ++ lists)
not_both g v n lists won lost fits a b = record {
  value = v;
  first = take n lists;
  second = drop n lists;
  text = two_texts v n lists fits b.within b.first b.second;
  fails = λ w p.
      let u = one_best v w n lists p.first p.second fits p.text in
      let z : a.stake ≡ p.stake = same_stake a.stake p.stake (sym a.can.at_stake ∙ p.at_stake) in
      let won_is : won ≡ bounded_game g p.stake w = a.won_is ∙ ap (λ (y : Stake). bounded_game g y v) z ∙ ap (λ (x : ℤ). bounded_game g p.stake x) u.value in
      let lost_is : lost ≡ bounded_game g p.stake (next_better p.stake.sense w) =
      a.lost_is ∙ ap (λ (y : Stake). bounded_game g y (next_better y.sense v)) z ∙ ap (λ (x : ℤ). bounded_game g p.stake (next_better p.stake.sense x)) u.value in
      b.fails
      (subst (λ (l : List ℕ). IsProof won l Forall) (sym u.first_is) (subst (λ (h : Game). IsProof h p.first Forall) (sym won_is) p.had))
      (subst (λ (l : List ℕ). IsProof lost l Exists) (sym u.second_is) (subst (λ (h : Game). IsProof h p.second Exists) (sym lost_is) p.best));
}

none_asked : (g : Game) (v : ℤ) (n : ℕ) (lists : List ℕ) → HeadFits v n → NotAsked g v → n ≤ length lists → IsText (take n lists) → IsText (drop n lists) → IsNoProof g (head_text v n ++ lists)
none_asked g v n lists fits none within first second = record {
  value = v;
  first = take n lists;
  second = drop n lists;
  text = two_texts v n lists fits within first second;
  fails = λ w p.
      let u = one_best v w n lists p.first p.second fits p.text in
      let can : CanAsk g p.stake w = record { at_stake = p.at_stake; defaults = p.defaults; room = p.room; more_room = p.more_room } in
      none p.stake (subst (CanAsk g p.stake) (sym u.value) can);
}

pub none_asked_both : (g : Game) (v : ℤ) (n : ℕ) (lists : List ℕ) (won lost : Game) → HeadFits v n → NotAsked g v → BothProve won lost n lists → IsNoProof g (head_text v n ++ lists)
none_asked_both g v n lists won lost fits none b = none_asked g v n lists fits none b.within (text_of won (take n lists) Forall b.first) (text_of lost (drop n lists) Exists b.second)

pub none_asked_not : (g : Game) (v : ℤ) (n : ℕ) (lists : List ℕ) (won lost : Game) → HeadFits v n → NotAsked g v → NotBothProve won lost n lists → IsNoProof g (head_text v n ++ lists)
none_asked_not g v n lists won lost fits none b = none_asked g v n lists fits none b.within b.first b.second

pub fault_behind : (v : ℤ) (n later : ℕ) (lists : List ℕ) → HeadFits v n → IsFaultOfLists n lists later → IsFaultOfBest (length (head_text v n) + later) (head_text v n ++ lists)
fault_behind v n later lists fits f = behind (record { value = v; many = n; lists = lists; later = later; fits = fits; whole = refl; is = f; place_is = refl })
