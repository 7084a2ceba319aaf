-- What two lists of lemmas under one head prove, and what is said of bytes.
use Rattle.std.specs.Prelude.{ℕ, ◌+◌, ◌≤◌, ◌<◌, ◌≡◌, List, ◌++◌, length, take, drop, Some, ℤ, IsTrue}
use Rattle.qc_model.specs.declared.problem.Kind.TheVariants.{Exists, Forall}
use Rattle.qc_model.specs.Content.{Game}
use Rattle.qc_model.specs.Game.{IsWon}
use Rattle.proof_tree.specs.Meaning.{IsOptimum}
use Rattle.zero_sum.specs.declared.stake.Stake.{Stake}
use Rattle.zero_sum.specs.Stake.{stake_of, defaults_fit}
use Rattle.zero_sum.specs.Bounded.{next_better, bounded_game}
use Rattle.zero_sum.specs.Refusals.{HasRoom}
use Rattle.lemma_text.specs.Places.{IsText, IsFault}
use Rattle.lemma_judge.specs.Checking.{IsProof}
use Rattle.best_judge.specs.declared.verdict.Verdict.{Verdict}
use Rattle.best_judge.specs.declared.verdict.Verdict.TheVariants.{Yes, NotProved, NotACertificate}
use Rattle.best_text.specs.Text.{head_text, HeadFits, IsHead, IsBestText}
use Rattle.best_text.specs.Stuck.{IsPlace}

-- The bytes prove that v is the optimum of the game: both sides care for one quantity, the game in which it has to be at least
-- as good as v is won by the first list, and the one for the next better value isn't by the second.
pub record IsBestProof (g : Game) (bytes : List ℕ) (v : ℤ) : Type 0 where
  pub stake : Stake
  pub first : List ℕ
  pub second : List ℕ
  pub text : IsBestText bytes v first second
  pub at_stake : stake_of g ≡ Some stake
  pub defaults : IsTrue (defaults_fit g v)
  pub room : HasRoom g v
  pub more_room : HasRoom g (next_better stake.sense v)
  pub had : IsProof (bounded_game g stake v) first Forall
  pub best : IsProof (bounded_game g stake (next_better stake.sense v)) second Exists
  pub means : IsWon g × IsOptimum g.scopes g v

-- they are such a text, which doesn't prove that
pub record IsNoProof (g : Game) (bytes : List ℕ) : Type 0 where
  pub value : ℤ
  pub first : List ℕ
  pub second : List ℕ
  pub text : IsBestText bytes value first second
  pub fails : (v : ℤ) → IsBestProof g bytes v → ⊥

-- Behind a head stand a list of so many bytes, and another. This is the place at which the bytes behind it stop being that.
pub data IsFaultOfLists (n : ℕ) (bytes : List ℕ) (place : ℕ) : Type 0 where
  in_first : IsFault place (take n bytes) → IsFaultOfLists n bytes place
  -- the first list is whole, and more bytes were to come
  cut_off : length bytes < n → IsText bytes → place ≡ length bytes → IsFaultOfLists n bytes place
  in_second : (later : ℕ) → n ≤ length bytes → IsText (take n bytes) → IsFault later (drop n bytes) → place ≡ n + later → IsFaultOfLists n bytes place

-- the same behind the head that the bytes begin with
pub record IsFaultBehind (place : ℕ) (bytes : List ℕ) : Type 0 where
  pub value : ℤ
  pub many : ℕ
  pub lists : List ℕ
  pub later : ℕ
  pub fits : HeadFits value many
  pub whole : bytes ≡ head_text value many ++ lists
  pub is : IsFaultOfLists many lists later
  pub place_is : place ≡ length (head_text value many) + later

-- the place at which the bytes stop being a head, or what stands behind one stops being two lists
pub data IsFaultOfBest (place : ℕ) (bytes : List ℕ) : Type 0 where
  in_head : IsPlace IsHead place bytes → IsFaultOfBest place bytes
  behind : IsFaultBehind place bytes → IsFaultOfBest place bytes

-- what is said of bytes
abbrev pub Comes : Game → List ℕ → Verdict → Type 0
Comes g bytes (Yes v) = IsBestProof g bytes v
Comes g bytes NotProved = IsNoProof g bytes
Comes g bytes (NotACertificate at) = IsFaultOfBest at bytes
