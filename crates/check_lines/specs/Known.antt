-- What is known of the variables that have been read.
use Rattle.std.specs.Prelude.{◌≡◌, ◌<◌, ◌≤◌, ℕ, false, List, [], ◌∷◌, length, slice_index_or, ℤ, pos}
use Rattle.qc_model.specs.Content.{Game}
use Rattle.qc_model.specs.Domains.{Box, values_left, has_empty}
use Rattle.fd_store.specs.Held.{Held, trail_len, past_box}
use Rattle.check_lines.specs.declared.open.Open.{Open}
use Rattle.check_lines.specs.declared.open.Open.TheVariants.{Next, Branch}
use Rattle.check_lines.specs.declared.reads.Reads.{Reads}

-- how long the trail was as variable k was read
abbrev pub mark_of : Reads → ℕ → ℕ
mark_of r k = slice_index_or r.marks.items k 0

-- the trail was never undone below one that is still known, so those read later have no smaller marks
abbrev pub Rises : Reads → Type 0
Rises r = (j k : ℕ) → j ≤ k → k < r.count → mark_of r j ≤ mark_of r k

-- each variable that was read by the time the trail had n places has its value alone in the box
abbrev pub ReadBy : Box → List ℤ → Reads → ℕ → Type 0
ReadBy box vs r n = (k : ℕ) → k < r.count → mark_of r k ≤ n → values_left box k ≡ slice_index_or vs k (pos 0) ∷ []

-- what was read is known to stand
pub record HasRead (s : Held) (vs : List ℤ) (r : Reads) : Type 0 where
  pub within : r.count ≤ length r.marks.items
  pub rises : Rises r
  pub past : (k : ℕ) → k < r.count → mark_of r k ≤ trail_len s
  pub now : has_empty s.box ≡ false → ReadBy s.box vs r (trail_len s)

-- the same of the boxes of the open branches
abbrev pub AreBranchesRead : Held → List ℤ → Reads → List Open → Type 0
AreBranchesRead s vs r [] = Unit {0}
AreBranchesRead s vs r (Next h ∷ fs) = AreBranchesRead s vs r fs
AreBranchesRead s vs r (Branch x mark from ∷ fs) = ReadBy (past_box s mark.at) vs r mark.at × AreBranchesRead s vs r fs

-- there is a place for each variable, and what was read stands, here and after going back to a branch
pub record HasReads (g : Game) (s : Held) (vs : List ℤ) (r : Reads) (fs : List Open) : Type 0 where
  pub places : length r.marks.items ≡ length g.variables
  pub here : HasRead s vs r
  pub branches : AreBranchesRead s vs r fs
