-- The cases of a branch, walked line by line.
use Rattle.std.proofs.Common.{◌≡◌, ◌≤◌, ℕ, List, ◌∷◌, ◌++◌, length, sym, subst, Option, ℤ}
use Rattle.std.specs.Prelude.{pos, ◌+ℤ◌}
use Rattle.qc_model.specs.Content.{Game}
use Rattle.qc_model.specs.Domains.{box_within, values_left}
use Rattle.check_box.specs.Cases.{IsCase}
use Rattle.fd_store.specs.Held.{values_from}
use Rattle.proof_tree.specs.declared.line.Line.{Line}
use Rattle.proof_tree.specs.declared.line.Line.TheVariants.{Dot}
use Rattle.proof_tree.specs.Counts.{branch_ends, case_ends}
use Rattle.proof_tree.specs.Lines.{branches_lines, case_lines}
use Rattle.proof_tree.specs.Tree.{Branches, no_more, piece, Case}
use Rattle.qc_play.specs.declared.gathering.Gathering.{Gathering}
use Rattle.qc_play.specs.declared.walk.Walk.{Walk}
use Rattle.qc_play.specs.Beginnings.{AreCases, BeginsCase, BeginsCases, IsNextCase}
use Rattle.qc_play.specs.Walk.{pieces_leaves, taken_leaves, CanReadBranches, CanReadCase, IsBack, Tells}
use Rattle.qc_play.proofs.Branching.{Branched, none_branched, one_branched, all_branched, piece_case}
use Rattle.qc_play.proofs.PartLines.{case_shorter}

-- of the cases that begin with all these lines, those up to these were walked
abbrev pub CasesLeft : Game → ℕ → ℕ → ℤ → List Line → List Line → Walk → Walk → Gathering → Gathering → Type 0
CasesLeft g i x from all now old new a b =
    (bs : Branches) (rest : List Line) → AreCases all bs rest → CanReadBranches g bs x (values_left old.remains.box x) i old.remains.box → (left : Branches) × AreCases now left rest × Branched g i x from bs left old new a b

module _ (g : Game) (i x : ℕ) (all : List Line) (old : Walk) (a : Gathering) where
  pub no_case_walked : (from : ℤ) → values_from from (values_left old.remains.box x) ≡ values_left old.remains.box x → IsBack g i old old → CasesLeft g i x from all all old old a a
  no_case_walked from e back bs rest is reads = (bs, is, none_branched g i x bs old a from e back reads)

  -- of the cases that may be read so far
  module _ (begins : BeginsCases g all x (values_left old.remains.box x) i old.remains.box) (from : ℤ) (now : List Line) (mid : Walk) (b : Gathering) (h : CasesLeft g i x from all now old mid a b) where
    pub cases_begun : (left : Branches) × AreCases now left begins.rest × Branched g i x from begins.cases left old mid a b
    cases_begun = h begins.cases begins.rest begins.is begins.reads

    pub begun_back : IsBack g i old mid
    begun_back = cases_begun.2.back

    pub begun_cases : (bs : Branches) × (rest : List Line) × AreCases now bs rest
    begun_cases = (cases_begun.0, begins.rest, cases_begun.1)

  -- the next one begins with this line
  module _ (from : ℤ) (now ls : List Line) (mid : Walk) (b : Gathering) (h : CasesLeft g i x from all now old mid a b) (upto : Option ℤ) (line : Line)
      (next : (bs : Branches) (rest : List Line) → AreCases now bs rest → IsNextCase upto (line ∷ ls) bs rest) where
    -- which case it is, for these cases
    pub record IsFirst (bs : Branches) (rest : List Line) : Type 0 where
      pub first : Case
      pub later : Branches
      pub stands : line ∷ ls ≡ case_lines first ++ (branches_lines later ++ Dot ∷ rest)
      pub done : Branched g i x from bs (piece upto first later) old mid a b

    pub is_first : (bs : Branches) (rest : List Line) → AreCases all bs rest → CanReadBranches g bs x (values_left old.remains.box x) i old.remains.box → IsFirst bs rest
    is_first bs rest is reads =
        let k = h bs rest is reads in
        let n = next k.0 rest k.1 in
        record { first = n.first; later = n.later; stands = n.stands; done = subst (λ u. Branched g i x from bs u old mid a b) n.is k.2 }

    module _ (start end : ℤ) (made : IsCase (values_left old.remains.box x) from upto start end) where
      first_reads : (bs : Branches) (rest : List Line) → (f : IsFirst bs rest) → CanReadCase g f.first i (box_within old.remains.box x start end)
      first_reads bs rest f = piece_case g i old.remains.box x from upto f.first f.later f.done.tree start end made

      mid_reads : (bs : Branches) (rest : List Line) → (f : IsFirst bs rest) → CanReadCase g f.first i (box_within mid.remains.box x start end)
      mid_reads bs rest f = subst (λ box. CanReadCase g f.first i (box_within box x start end)) (sym f.done.back.box) (first_reads bs rest f)

      pub begins_case : BeginsCases g all x (values_left old.remains.box x) i old.remains.box → BeginsCase g (line ∷ ls) i (box_within mid.remains.box x start end)
      begins_case s =
          let f = is_first s.cases s.rest s.is s.reads in
          record { case = f.first; rest = branches_lines f.later ++ Dot ∷ s.rest; is = f.stands; reads = mid_reads s.cases s.rest f }

      -- it was walked
      module _ (new : Walk) (d : Gathering) (after : List Line)
          (tells : (c : Case) (rest : List Line) → line ∷ ls ≡ case_lines c ++ rest → CanReadCase g c i (box_within mid.remains.box x start end) →
          (after ≡ rest) × Tells g i mid.joins b new.joins d (case_ends c) (taken_leaves g c i (box_within mid.remains.box x start end))) where
        pub one_case_walked : IsBack g i mid new → CasesLeft g i x (end +ℤ pos 1) all after old new a d
        one_case_walked back bs rest is reads =
            let f = is_first bs rest is reads in
            let t = tells f.first (branches_lines f.later ++ Dot ∷ rest) f.stands (mid_reads bs rest f) in
            (f.later, t.0, one_branched g i x bs old a from upto f.first f.later start end mid new b d f.done made back t.1)

        pub case_walked_shorter : BeginsCases g all x (values_left old.remains.box x) i old.remains.box → length after ≤ length ls
        case_walked_shorter s =
            let f = is_first s.cases s.rest s.is s.reads in
            let t = tells f.first (branches_lines f.later ++ Dot ∷ s.rest) f.stands (mid_reads s.cases s.rest f) in
            subst (λ us. length us ≤ length ls) (sym t.0) (case_shorter f.first (branches_lines f.later ++ Dot ∷ s.rest) ls line f.stands)

  -- none is left
  pub all_cases_walked : (from : ℤ) (now after : List Line) (new : Walk) (b : Gathering) → CasesLeft g i x from all now old new a b → ((bs : Branches) (rest : List Line) → AreCases now bs rest → (bs ≡ no_more) × (after ≡ rest)) →
      (bs : Branches) (rest : List Line) → AreCases all bs rest → CanReadBranches g bs x (values_left old.remains.box x) i old.remains.box →
      (after ≡ rest) × Tells g i old.joins a new.joins b (branch_ends bs) (pieces_leaves g bs x (values_left old.remains.box x) i old.remains.box)
  all_cases_walked from now after new b h over bs rest is reads =
      let k = h bs rest is reads in
      let o = over k.0 rest k.1 in
      (o.1, all_branched g i x bs old a from new b (subst (λ u. Branched g i x from bs u old new a b) o.0 k.2))
