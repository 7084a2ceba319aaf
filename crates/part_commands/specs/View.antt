-- A command of the program, seen as what it asks for, and what is known while its words are read.
use Rattle.std.specs.Prelude.{◌≡◌, ◌≤◌, ⊤, ℕ, ℤ, List, [], ◌∷◌, map, length, drop, Option, Some, None, IfSome, IsTrue, unsigned_abs}
use Rattle.qc_model.specs.Valid.{is_number}
use Rattle.part_commands.specs.declared.words.Kept.{Kept as KeptWords}
use Rattle.part_commands.specs.declared.words.Command.{Command}
use Rattle.part_commands.specs.declared.words.Front.{Front}
use Rattle.part_commands.specs.declared.words.Begin.{Begin}
use Rattle.part_commands.specs.declared.words.Begin.TheVariants.{Keep, Wrong, Other}
use Rattle.part_commands.specs.declared.words.Tail.{Tail as TailWords}
use Rattle.part_commands.specs.Words.{Kept, Asked, Tail, tail_asked, whole, put_before, rest_asked}

abbrev pub kept_seen : KeptWords → Kept
kept_seen kept = record { name = kept.name.now; lo = kept.lo; hi = kept.hi }

abbrev pub keeps_seen : List KeptWords → List Kept
keeps_seen keeps = map kept_seen keeps

abbrev pub tail_seen : TailWords → Tail
tail_seen tail = record { reached = tail.reached; turns = tail.turns }

abbrev pub asked : Command → Asked
asked command = record {
  problem = command.problem.now;
  keeps = keeps_seen command.keeps.items;
  reached = command.reached;
  turns = command.turns;
}

-- both ends are such as a variable can have
abbrev pub IsRange : KeptWords → Type 0
IsRange kept = IsTrue (is_number kept.lo) × IsTrue (is_number kept.hi)

abbrev pub AreRanges : List KeptWords → Type 0
AreRanges [] = ⊤
AreRanges (kept ∷ keeps) = IsRange kept × AreRanges keeps

-- the turns are a budget, and the value that was reached isn't too large
abbrev pub IsBudget : Option ℤ → ℕ → Type 0
IsBudget reached turns = (1 ≤ turns) × (turns ≤ 10000000) × IfSome reached (λ value. unsigned_abs value ≤ 1000000000000000000)

abbrev pub IsTail : TailWords → Type 0
IsTail tail = IsBudget tail.reached tail.turns

pub record IsWithin (command : Command) : Type 0 where
  pub ranges : AreRanges command.keeps.items
  pub budget : IsBudget command.reached command.turns

-- with all these keeps before the others
abbrev pub before_all : List Kept → Option Asked → Option Asked
before_all [] asked = asked
before_all (kept ∷ keeps) asked = put_before (Some kept) (before_all keeps asked)

-- what the words begin with, and what that says of what they ask for
abbrev pub BeginsWith : List (List ℕ) → Begin → Type 0
BeginsWith words (Keep kept) = (4 ≤ length words) × IsRange kept × ((name : List ℕ) → rest_asked name words ≡ put_before (Some (kept_seen kept)) (rest_asked name (drop 4 words)))
BeginsWith words Wrong = (name : List ℕ) → rest_asked name words ≡ None
BeginsWith words Other = (name : List ℕ) → rest_asked name words ≡ whole name (tail_asked words)

-- the keeps at the beginning, and the words behind them; none where one isn't right
abbrev pub Fronts : List (List ℕ) → Option Front → Type 0
Fronts words None = (name : List ℕ) → rest_asked name words ≡ None
Fronts words (Some front) =
    (front.words ≤ length words) × AreRanges front.keeps.items × ((name : List ℕ) → rest_asked name words ≡ before_all (keeps_seen front.keeps.items) (whole name (tail_asked (drop front.words words))))
