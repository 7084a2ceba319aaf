-- A list's text proves one thing alone.
use Rattle.std.proofs.Common.{◌≡◌, refl, sym, ◌∙◌, subst, ℕ, ◌+◌, ◌≤◌, ◌<◌, List, length, take, drop, arith}
use Rattle.std.specs.Prelude.{IsTrue}
use Rattle.qc_model.specs.declared.problem.Kind.{Kind}
use Rattle.qc_model.specs.declared.problem.Kind.TheVariants.{Exists, Forall}
use Rattle.qc_model.specs.Content.{Game}
use Rattle.lemma_list.specs.Lemmas.{Entry}
use Rattle.lemma_list.specs.InPlace.{proves}
use Rattle.lemma_text.specs.Text.{list_text}
use Rattle.lemma_text.specs.Ranges.{has_text}
use Rattle.lemma_text.specs.Places.{IsText, IsFault}
use Rattle.lemma_judge.specs.Checking.{IsProof, IsNoProof}
use Rattle.best_judge.specs.Proof.{IsFaultOfLists, cut_off, in_second}
use Rattle.best_judge.specs.declared.part.Shown.{Shown}
use Rattle.best_judge.specs.declared.part.Shown.TheVariants.{Proved, NotProved, Fault}
use Rattle.best_judge.specs.Parts.{IsOther, IsShown, IsWithin, BothProve, NotBothProve}

abbrev pub IsOneText : Type 0
IsOneText = (k l : Kind) (es fs : List Entry) → IsTrue (has_text es) → IsTrue (has_text fs) → list_text k es ≡ list_text l fs → (k ≡ l) × (es ≡ fs)

pub text_of : (g : Game) (bytes : List ℕ) (k : Kind) → IsProof g bytes k → IsText bytes
text_of g bytes k p = (k, p.entries, p.read.spellable, p.read.spelled)

pub no_proof : (g : Game) (bytes : List ℕ) (loser : Kind) → IsOneText → IsNoProof g bytes → IsOther g bytes loser
no_proof g bytes loser one q = record {
  text = (q.loser, q.entries, q.read.spellable, q.read.spelled);
  fails = λ p.
      let same = one q.loser loser q.entries p.entries q.read.spellable p.read.spellable (sym q.read.spelled ∙ p.read.spelled) in
      q.fails (subst (λ (k : Kind). IsTrue (proves g k q.entries)) (sym same.0) (subst (λ (es : List Entry). IsTrue (proves g loser es)) (sym same.1) p.proves));
}

pub other_side : (g : Game) (bytes : List ℕ) (stated loser : Kind) → IsOneText → (stated ≡ loser → ⊥) → IsProof g bytes stated → IsOther g bytes loser
other_side g bytes stated loser one differ q = record {
  text = text_of g bytes stated q;
  fails = λ p. differ (one stated loser q.entries p.entries q.read.spellable p.read.spellable (sym q.read.spelled ∙ p.read.spelled)).0;
}

pub sides_differ : Exists ≡ Forall → ⊥
sides_differ e = cc

-- fewer bytes than the first list has
pub short_list : (n at : ℕ) (bytes : List ℕ) → length bytes < n → IsText bytes → at ≡ length bytes → IsFaultOfLists n bytes at
short_list n at bytes lt t e = cut_off lt t e

-- no fault is past the end of the bytes
pub within_of : (n : ℕ) (g : Game) (bytes : List ℕ) (loser : Kind) (s : Shown) → length bytes ≤ n → IsShown g bytes loser s → IsWithin n s
within_of n g bytes loser Proved le h = tt
within_of n g bytes loser NotProved le h = tt
within_of n g bytes loser (Fault at) le h = let w = h.within in omega arith

-- two lists, one behind the other
pub both : (won lost : Game) (n : ℕ) (bytes : List ℕ) → n ≤ length bytes → IsProof won (take n bytes) Forall → IsProof lost (drop n bytes) Exists → BothProve won lost n bytes
both won lost n bytes le p q = record { within = le; first = p; second = q }

pub second_fails : (won lost : Game) (n : ℕ) (bytes : List ℕ) → n ≤ length bytes → IsProof won (take n bytes) Forall → IsOther lost (drop n bytes) Exists → NotBothProve won lost n bytes
second_fails won lost n bytes le p q = record { within = le; first = text_of won (take n bytes) Forall p; second = q.text; fails = λ had best. q.fails best }

pub first_fails : (won lost : Game) (n : ℕ) (bytes : List ℕ) → n ≤ length bytes → IsOther won (take n bytes) Forall → IsProof lost (drop n bytes) Exists → NotBothProve won lost n bytes
first_fails won lost n bytes le p q = record { within = le; first = p.text; second = text_of lost (drop n bytes) Exists q; fails = λ had best. p.fails had }

pub both_fail : (won lost : Game) (n : ℕ) (bytes : List ℕ) → n ≤ length bytes → IsOther won (take n bytes) Forall → IsOther lost (drop n bytes) Exists → NotBothProve won lost n bytes
both_fail won lost n bytes le p q = record { within = le; first = p.text; second = q.text; fails = λ had best. p.fails had }

pub second_fault : (n later : ℕ) (bytes : List ℕ) → n ≤ length bytes → IsText (take n bytes) → IsFault later (drop n bytes) → IsFaultOfLists n bytes (n + later)
second_fault n later bytes le t f = in_second later le t f refl
