-- A piece of a game: the game kept to some values of some variables, where a value of the first scope may have been reached
-- elsewhere already.
use Rattle.std.specs.Prelude.{◌≡◌, ◌≤◌, ◌<◌, ⊤, ℕ, Bool, false, cond, Option, Some, None, List, [], ◌∷◌, ◌++◌, map, length, ℤ, unsigned_abs, IsTrue}
use Rattle.std.specs.List.{list_all}
use Rattle.qc_model.specs.Content.{Game}
use Rattle.qc_model.specs.Domains.{Box, box_within, declared_box}
use Rattle.qc_model.specs.Valid.{is_number}
use Rattle.qc_model.specs.Verdict.{Verdict, exact, Seen, seen_node}
use Rattle.proof_tree.specs.Counts.{turns_of, opens_of}
use Rattle.proof_tree.specs.Diligent.{closes, Foresees}
use Rattle.proof_tree.specs.Finding.{seen_of}
use Rattle.proof_tree.specs.InPlace.{in_place}
use Rattle.proof_tree.specs.Incumbents.{keeps}
use Rattle.proof_tree.specs.Lines.{tree_lines}
use Rattle.proof_tree.specs.Order.{opens_last, is_joined, settled_last}
use Rattle.proof_tree.specs.Pieces.{each_case, goes_at_one}
use Rattle.proof_tree.specs.Proves.{is_value, optimises_first}
use Rattle.proof_tree.specs.Read.{leaves, marks, read}
use Rattle.proof_tree.specs.Steps.{after_steps}
use Rattle.proof_tree.specs.Text.{outcome_fits}
use Rattle.proof_tree.specs.Tree.{Body, Tree, cases, goal, stuck, tree}
use Rattle.proof_tree.specs.declared.line.Line.{Line}
use Rattle.proof_tree.specs.declared.tree.Outcome.{Outcome}
use Rattle.proof_tree.specs.declared.tree.Outcome.TheVariants.{False, Open, True}
use Rattle.joins.specs.Verdicts.{own_at, verdict_at}
use Rattle.strategy_arena.specs.Certificate.{line_fits}
use Rattle.game_search.specs.Solution.{outcome_by}
use Rattle.game_search.specs.declared.pieces.Keep.{Keep}

-- ---- what is kept
-- the variable exists, and both ends are such as a variable can have
pub record IsKeep (g : Game) (k : Keep) : Type 0 where
  pub exists : k.x.0 < length g.variables
  pub lo : IsTrue (is_number k.lo)
  pub hi : IsTrue (is_number k.hi)

abbrev pub AreKeeps : Game → List Keep → Type 0
AreKeeps g [] = ⊤
AreKeeps g (k ∷ keeps) = IsKeep g k × AreKeeps g keeps

-- each variable that is named keeps its values from the one end to the other
abbrev pub kept_from : Box → List Keep → Box
kept_from box [] = box
kept_from box (k ∷ keeps) = kept_from (box_within box k.x.0 k.lo k.hi) keeps

abbrev pub kept_box : Game → List Keep → Box
kept_box g keeps = kept_from (declared_box g) keeps

-- ---- what was reached
-- a value of the first scope, which is the player's and has a condition
pub record IsReached (g : Game) (r : ℤ) : Type 0 where
  pub first : IsTrue (optimises_first g.scopes)
  pub small : unsigned_abs r ≤ 1000000000000000000

-- a leaf of the first scope that has reached it
abbrev pub leaf_at : ℤ → Seen
leaf_at r = seen_node (exact (r ∷ []))

-- what the leaves and marks of the root's own tree say
abbrev pub seen_below : Game → Body → Box → List Seen
seen_below g stuck box = []
seen_below g goal box = []
seen_below g (cases steps end) box = map seen_of (marks g g.scopes 0 [] steps box ++ leaves g end g.scopes 0 [] (after_steps steps box))

abbrev pub seen_at_root : Game → Tree → Box → List Seen
seen_at_root g (tree z body) box = seen_below g body box

-- what the first scope comes to by the tree, beside what was reached, and the value of its condition
abbrev pub verdict_beside : Game → Tree → Box → Option ℤ → Verdict
verdict_beside g t box None = (read g t g.scopes 0 [] box).verdict
verdict_beside g t box (Some r) = verdict_at g 0 [] (leaf_at r ∷ seen_at_root g t box)

abbrev pub own_beside : Game → Tree → Box → Option ℤ → Option ℤ
own_beside g t box None = (read g t g.scopes 0 [] box).own
own_beside g t box (Some r) = own_at g 0 (leaf_at r ∷ seen_at_root g t box)

-- ---- what is answered
-- the best value is the one that was reached: nothing in the piece is better
abbrev pub is_no_better : Option ℤ → Option ℤ → Bool
is_no_better None own = false
is_no_better (Some r) own = is_value r own

abbrev pub outcome_beside : Option ℤ → Option ℤ → Verdict → ℕ → Outcome
outcome_beside reached own v turns = cond (is_no_better reached own) False (outcome_by v turns)

abbrev pub optimum_beside : Option ℤ → Option ℤ → Option ℤ
optimum_beside reached own = cond (is_no_better reached own) None own

-- open only where all turns are spent, and a case is open
pub record IsLeftOpen (turns n : ℕ) (t : Tree) : Type 0 where
  pub all : n ≡ turns
  pub taken : turns_of t ≡ n
  pub some : 0 < opens_of t

abbrev pub OpenIsSpent : Outcome → ℕ → Tree → Type 0
OpenIsSpent True turns t = ⊤
OpenIsSpent False turns t = ⊤
OpenIsSpent (Open n) turns t = IsLeftOpen turns n t

-- the tree of a piece with this box: it stands at the root, shows the answer beside what was reached, and is as a certificate's
pub record Piece (g : Game) (box : Box) (reached : Option ℤ) (turns : ℕ) (outcome : Outcome) (optimum : Option ℤ) (t : Tree) : Type 0 where
  pub placed : IsTrue (in_place g t g.scopes 0 [] box None)
  pub states : outcome ≡ outcome_beside reached (own_beside g t box reached) (verdict_beside g t box reached) turns
  pub best : optimum ≡ optimum_beside reached (own_beside g t box reached)
  pub lasts : IsTrue (each_case opens_last t)
  pub ones : IsTrue (each_case goes_at_one t)
  pub apart : IsTrue (each_case is_joined t)
  pub settled : IsTrue (settled_last g t g.scopes 0 [] box)
  pub closed : IsTrue (closes g t g.scopes 0 box)
  pub foreseen : Foresees g t g.scopes 0 box None
  pub incumbents : IsTrue (keeps g t g.scopes 0 [] box)
  pub few : turns_of t ≤ turns
  pub spent : OpenIsSpent outcome turns t
  pub head : IsTrue (outcome_fits outcome optimum)

-- the lines of such a tree, which all fit the text
pub record PieceLines (g : Game) (box : Box) (reached : Option ℤ) (turns : ℕ) (outcome : Outcome) (optimum : Option ℤ) (lines : List Line) : Type 0 where
  pub tree : Tree
  pub is_lines : lines ≡ tree_lines tree
  pub fits : IsTrue (list_all line_fits lines)
  pub piece : Piece g box reached turns outcome optimum tree
