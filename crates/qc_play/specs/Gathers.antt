-- What is gathered from the leaves of a scope's own tree.
use Rattle.std.specs.Prelude.{◌≡◌, ℕ, Option, List, [], map, IsTrue, ℤ}
use Rattle.qc_model.specs.declared.problem.Kind.{Kind}
use Rattle.qc_model.specs.declared.problem.Kind.TheVariants.{Exists, Forall}
use Rattle.qc_model.specs.declared.problem.Condition.{Condition}
use Rattle.qc_model.specs.Content.{Game}
use Rattle.qc_model.specs.Valid.{IsValid}
use Rattle.qc_model.specs.Demands.{demands_after}
use Rattle.qc_model.specs.Verdict.{is_exact, each_node}
use Rattle.proof_tree.specs.Finding.{Leaf, seen_of}
use Rattle.qc_play.specs.declared.player_leaves.PlayerLeaves.{PlayerLeaves}
use Rattle.qc_play.specs.declared.opponent_leaves.OpponentLeaves.{OpponentLeaves}
use Rattle.qc_play.specs.declared.gathering.Gathering.{Gathering}
use Rattle.qc_play.specs.declared.gathering.Gathering.TheVariants.{Player, Opponent}
use Rattle.qc_play.specs.Shape.{entries_of, replies_of}
use Rattle.qc_play.specs.Entries.{KeepsBest, KeepsFirst, KeepsReplies, KeepsAnswers}
use Rattle.proof_meaning.specs.Answered.{GoOnWithAll}

-- of the leaves of a scope of the player: the best exact one, and the replies where all are lost
pub record GathersPlayer (p : PlayerLeaves) (ls : List Leaf) : Type 0 where
  pub best : KeepsBest p.wishes.now p.before p.best ls
  pub replies : KeepsReplies p.before (replies_of p.replies) ls

-- of those of a scope of the opponent: the first lost one, and the answers where all are exact
pub record GathersOpponent (p : OpponentLeaves) (ls : List Leaf) : Type 0 where
  pub first : KeepsFirst p.before p.first ls
  pub answers : KeepsAnswers p.before (entries_of p.answers) ls

abbrev pub Gathers : Gathering → List Leaf → Type 0
Gathers (Player p) ls = GathersPlayer p ls
Gathers (Opponent p) ls = GathersOpponent p ls

-- whose scope it is, what is demanded after it where it is the player's, and how many variables stand before it
abbrev pub owner_of : Gathering → Kind
owner_of (Player p) = Exists
owner_of (Opponent p) = Forall

abbrev pub wishes_of : Gathering → List Condition
wishes_of (Player p) = p.wishes.now
wishes_of (Opponent p) = []

abbrev pub count_before : Gathering → ℕ
count_before (Player p) = p.before
count_before (Opponent p) = p.before

-- both gather the leaves of one scope
pub record IsSameScope (old new : Gathering) : Type 0 where
  pub owner : owner_of new ≡ owner_of old
  pub wishes : wishes_of new ≡ wishes_of old
  pub before : count_before new ≡ count_before old

-- it gathers leaves of scope i, which has the condition own and the list d, after the values a
abbrev pub IsAtScope : Gathering → Game → Option Condition → ℕ → List Condition → List ℤ → List Leaf → Type 0
IsAtScope (Player p) g own i d a ls = demands_after g Exists own d ≡ p.wishes.now
IsAtScope (Opponent p) g own i d a ls = IsValid g × (IsTrue (each_node is_exact (map seen_of ls)) → GoOnWithAll g i a ls)
