-- Which ledger a nest tells, beside the tuples that were given and the boxes of named nodes: joins stand for all that was seen, marks
-- of the trail for boxes.
use Rattle.std.specs.Prelude.{◌≡◌, ◌≤◌, ◌<◌, ◌-◌, ◌^◌, ⊤, ℕ, suc, min, Bool, true, false, Option, Some, None, List, [], ◌∷◌, length, slice_get}
use Rattle.std.specs.Option.{option_map}
use Rattle.std.specs.List.{list_all}
use Rattle.qc_model.specs.Content.{Game}
use Rattle.qc_model.specs.Demands.{demands}
use Rattle.qc_model.specs.Domains.{Box}
use Rattle.qc_model.specs.Valid.{is_number}
use Rattle.qc_model.specs.Verdict.{Verdict}
use Rattle.model_arguments.specs.Asked.{is_box_of}
use Rattle.joins.specs.Joins.{game_of as game_joined, StandsAt, out_of, IsLong}
use Rattle.joins.specs.DemandLists.{HasLists}
use Rattle.joins.specs.Seen.{verdict_of}
use Rattle.joins.specs.Sizes.{AreLong}
use Rattle.joins.specs.declared.joins.Joins.{Joins}
use Rattle.fd_store.specs.Held.{Held, trail_len, past_box}
use Rattle.dense_tree.specs.Tree.{Given}
use Rattle.dense_tree.specs.Place.{Place, root_place}
use Rattle.dense_tree.specs.Read.{Known}
use Rattle.dense_ledger.specs.Ledger.{Ledger, Own, Frame, waiting, forked, given_due, node_due, named_due, body_due, part_due, case_due, ranged_due, ended_due, entry_at}
use Rattle.dense_nest.specs.declared.place.Entry.{Entry}
use Rattle.dense_nest.specs.declared.place.Open.{Open}
use Rattle.dense_nest.specs.declared.place.Open.TheVariants.{Waiting, Forked}
use Rattle.dense_nest.specs.declared.place.Due.{Due}
use Rattle.dense_nest.specs.declared.place.Due.TheVariants as due
use Rattle.dense_nest.specs.declared.told.Told.{Told}
use Rattle.dense_nest.specs.declared.told.Named.{Named}
use Rattle.dense_nest.specs.declared.told.Tally.{Tally}
use Rattle.dense_nest.specs.declared.nest.Nest.{Nest}
use Rattle.dense_nest.specs.Places.{place_at, part_spot, entry_told, fork_told, IsFull, IsEntry, IsFork}
use Rattle.dense_nest.specs.Tallies.{HasTally}

abbrev pub game_of : Nest → Game
game_of m = m.levels.problem.now

-- what was made of the problem speaks of its game
pub record IsMade (m : Nest) : Type 0 where
  pub joined : game_joined m.joins ≡ game_of m
  pub lists : HasLists (game_of m) m.demands
  pub values : length m.values.items ≡ length (game_of m).variables
  pub numbers : list_all is_number m.values.items ≡ true
  pub tallies : length m.tallies.items ≡ length (game_of m).scopes

-- what is known of a scope's own tree is what its join stands for, and what its tally says
pub record IsOwn (g : Game) (s : Held) (js : Joins) (ts : List Tally) (e : Entry) (o : Own) : Type 0 where
  pub entry : o.entry ≡ entry_told g s e
  pub scope : e.spot.number < length g.scopes
  pub stands : StandsAt js e.spot.number o.seen
  pub long : AreLong g e.spot.number o.seen
  pub tally : HasTally (demands g e.spot.number) o.seen o.bests (slice_get ts e.spot.number)

-- what is open around a part of the own tree of the node e, whose marks are among the first n places of the trail; those of what is
-- further out come before
abbrev pub AreFrames : Game → Held → Joins → List Tally → Entry → ℕ → List Open → List Frame → Type 0
AreFrames g s js ts e n [] [] = ⊤
AreFrames g s js ts e n [] (f ∷ fs) = ⊥
AreFrames g s js ts e n (Waiting up ∷ os) [] = ⊥
AreFrames g s js ts e n (Waiting up ∷ os) (waiting o ∷ fs) =
    IsOwn g s js ts up o × IsEntry g s e.mark.at up × (e.spot.number ≡ suc up.spot.number) × AreFrames g s js ts up e.mark.at os fs
AreFrames g s js ts e n (Waiting up ∷ os) (forked b ∷ fs) = ⊥
AreFrames g s js ts e n (Forked k ∷ os) [] = ⊥
AreFrames g s js ts e n (Forked k ∷ os) (waiting o ∷ fs) = ⊥
AreFrames g s js ts e n (Forked k ∷ os) (forked b ∷ fs) =
    (b ≡ fork_told g s e k) × IsFork g s n e k × AreFrames g s js ts e k.mark.at os fs

-- what a named node has come to
abbrev pub told_verdict : Option Told → Option Verdict
told_verdict t = option_map (λ t. verdict_of t.found t.vector.items) t

-- named nodes, with their boxes
abbrev pub known_of : Game → List Named → List Box → List Known
known_of g [] boxes = []
known_of g (n ∷ ns) [] = []
known_of g (n ∷ ns) (box ∷ boxes) = record { place = place_at g n.spot box; verdict = told_verdict n.told } ∷ known_of g ns boxes

abbrev pub IsLongTold : Game → ℕ → Option Told → Type 0
IsLongTold g i None = ⊤
IsLongTold g i (Some t) = IsLong g i (verdict_of t.found t.vector.items)

-- as many boxes as named nodes, each full
abbrev pub AreKnown : Game → List Named → List Box → Type 0
AreKnown g [] [] = ⊤
AreKnown g [] (box ∷ boxes) = ⊥
AreKnown g (n ∷ ns) [] = ⊥
AreKnown g (n ∷ ns) (box ∷ boxes) = (n.spot.number ≤ length g.scopes) × IsFull g box × IsLongTold g n.spot.number n.told × AreKnown g ns boxes

-- a named node, if it has such a number, is known to begin at this place
abbrev pub IsPlaceOf : Place → Option Known → Type 0
IsPlaceOf p None = ⊥
IsPlaceOf p (Some k) = k.place ≡ p

abbrev pub IsNamed : List Known → Option ℕ → Place → Type 0
IsNamed ks None p = ⊤
IsNamed ks (Some n) p = IsPlaceOf p (slice_get ks n)

-- so is each that is open around what is read
abbrev pub AreNamed : List Known → List Frame → Type 0
AreNamed ks [] = ⊤
AreNamed ks (waiting o ∷ fs) = IsNamed ks o.entry.named o.entry.begin × AreNamed ks fs
AreNamed ks (forked b ∷ fs) = AreNamed ks fs

-- what is the same whatever is due
pub record Keeps (m : Nest) (us : List Given) (boxes : List Box) (d : Ledger) : Type 0 where
  pub made : IsMade m
  pub given : d.given ≡ us
  pub known : d.known ≡ known_of (game_of m) m.named.items boxes
  pub kept : AreKnown (game_of m) m.named.items boxes
  pub names : AreNamed d.known d.frames
  pub turns : m.turns ≡ min d.turns (2 ^ 64 - 1)
  pub unfinished : m.has_open ≡ d.has_open

abbrev pub AreOpen : Nest → Entry → ℕ → List Frame → Type 0
AreOpen m e n fs = AreFrames (game_of m) m.remains m.joins m.tallies.items e n m.open fs

-- a scope's node is never right below a branch: what is open last is the scope before, or nothing
abbrev pub IsBelow : List Frame → Type 0
IsBelow [] = ⊤
IsBelow (waiting o ∷ fs) = ⊤
IsBelow (forked b ∷ fs) = ⊥

-- at the node e, whose box is the nest's
pub record IsNode (m : Nest) (us : List Given) (boxes : List Box) (e : Entry) (d : Ledger) : Type 0 where
  pub keeps : Keeps m us boxes d
  pub entry : IsEntry (game_of m) m.remains (trail_len m.remains) e
  pub here : m.remains.box ≡ past_box m.remains e.mark.at
  pub named : IsNamed d.known e.named (entry_told (game_of m) m.remains e).begin
  pub frames : AreOpen m e e.mark.at d.frames
  pub below : IsBelow d.frames

-- in the own tree of the nest's entry
pub record IsPart (m : Nest) (us : List Given) (boxes : List Box) (d : Ledger) : Type 0 where
  pub keeps : Keeps m us boxes d
  pub entry : IsEntry (game_of m) m.remains (trail_len m.remains) m.entry
  pub own : IsOwn (game_of m) m.remains m.joins m.tallies.items m.entry d.own
  pub named : IsNamed d.known d.own.entry.named d.own.entry.begin
  pub frames : AreOpen m m.entry (trail_len m.remains) d.frames
  pub box : is_box_of (game_of m) m.remains.box ≡ true

-- a branch was opened last, and the box is its own
abbrev pub IsBack : Held → List Open → Type 0
IsBack s [] = ⊥
IsBack s (Waiting up ∷ os) = ⊥
IsBack s (Forked k ∷ os) = s.box ≡ past_box s k.mark.at

-- and at the branch that was opened last
pub record IsAtFork (m : Nest) (us : List Given) (boxes : List Box) (d : Ledger) : Type 0 where
  pub part : IsPart m us boxes d
  pub back : IsBack m.remains m.open

-- the place of what is read in the scope's own tree, below a bound or not
abbrev pub here_in : Nest → Bool → Place
here_in m bounded = place_at (game_of m) (part_spot m.entry bounded) m.remains.box

-- before the root: its entry stands ready
pub record IsAtRoot (m : Nest) (us : List Given) (boxes : List Box) (d : Ledger) : Type 0 where
  pub node : IsNode m us boxes m.entry d
  pub root : entry_told (game_of m) m.remains m.entry ≡ entry_at (root_place (game_of m)) false
  pub outermost : d.frames ≡ []

-- what is due
abbrev pub TellsAt : Nest → Due → List Given → List Box → Ledger → Type 0
TellsAt m due.Given us boxes d = (d.due ≡ given_due) × IsAtRoot m us boxes d
TellsAt m (due.Node e) us boxes d = (d.due ≡ node_due (entry_told (game_of m) m.remains e)) × IsNode m us boxes e d
TellsAt m (due.Named e) us boxes d = (d.due ≡ named_due (entry_told (game_of m) m.remains e)) × IsNode m us boxes e d
TellsAt m (due.Body e) us boxes d = (d.due ≡ body_due (entry_told (game_of m) m.remains e)) × IsNode m us boxes e d
TellsAt m (due.Part bounded) us boxes d = (d.due ≡ part_due (here_in m bounded)) × IsPart m us boxes d
TellsAt m due.Case us boxes d = (d.due ≡ case_due) × IsAtFork m us boxes d
TellsAt m (due.Ranged high) us boxes d = (d.due ≡ ranged_due high) × IsAtFork m us boxes d
TellsAt m due.Ended us boxes d = (d.due ≡ ended_due (verdict_of m.found (out_of m.joins)) m.own) × Keeps m us boxes d
TellsAt m due.Wrong us boxes d = ⊥

abbrev pub Tells : Nest → List Given → List Box → Ledger → Type 0
Tells m us boxes d = TellsAt m m.due us boxes d

-- the nest tells this ledger, or that a line was out of place
abbrev pub TellsOf : Nest → List Given → List Box → Option Ledger → Type 0
TellsOf m us boxes None = m.due ≡ due.Wrong
TellsOf m us boxes (Some d) = Tells m us boxes d
