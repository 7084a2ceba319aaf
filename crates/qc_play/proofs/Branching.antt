-- The cases of a branch, one after the other.
use Rattle.std.proofs.Common.{◌≡◌, ℕ, ◌+◌, ◌++◌, refl, sym, ap, ◌∙◌, subst, ℤ, Option}
use Rattle.std.specs.Prelude.{pos, ◌+ℤ◌}
use Rattle.qc_model.specs.Content.{Game}
use Rattle.qc_model.specs.Domains.{Box, Values, box_within, values_left}
use Rattle.joins.specs.declared.joins.Joins.{Joins}
use Rattle.fd_store.specs.Held.{values_from}
use Rattle.check_box.specs.Cases.{IsCase}
use Rattle.proof_tree.specs.Counts.{branch_ends, case_ends}
use Rattle.proof_tree.specs.Cover.{covered, uncovered, box_to}
use Rattle.proof_tree.specs.Tree.{Branches, no_more, piece, Case}
use Rattle.qc_play.specs.declared.gathering.Gathering.{Gathering}
use Rattle.qc_play.specs.declared.walk.Walk.{Walk}
use Rattle.qc_play.specs.Walk.{pieces_leaves, taken_leaves, CanReadBranches, CanReadCase, IsBack, Tells}
use Rattle.qc_play.proofs.Backs.{back_then}
use Rattle.qc_play.proofs.Readable.{first_case, later_cases}
use Rattle.qc_play.proofs.Tellings.{tells_none, tells_then, tells_as}

module _ (g : Game) (i : ℕ) (box : Box) (x : ℕ) (from : ℤ) (upto : Option ℤ) (c : Case) (rest : Branches) (h : CanReadBranches g (piece upto c rest) x (values_from from (values_left box x)) i box) where
  abbrev from_on : Values
  from_on = values_from from (values_left box x)

  module _ (start end : ℤ) (case : IsCase (values_left box x) from upto start end) where
    covers : box_to box x (covered upto from_on) ≡ box_within box x start end
    covers = ap (box_to box x) case.covers

    pub piece_case : CanReadCase g c i (box_within box x start end)
    piece_case = subst (CanReadCase g c i) covers (first_case g x from_on upto c rest i box h)

    pub pieces_after : CanReadBranches g rest x (values_from (end +ℤ pos 1) (values_left box x)) i box
    pieces_after = subst (λ vs. CanReadBranches g rest x vs i box) case.leaves (later_cases g x from_on upto c rest i box h)

    piece_leaves : pieces_leaves g (piece upto c rest) x from_on i box ≡ taken_leaves g c i (box_within box x start end) ++ pieces_leaves g rest x (values_from (end +ℤ pos 1) (values_left box x)) i box
    piece_leaves = ap (λ b. taken_leaves g c i b ++ pieces_leaves g rest x (uncovered upto from_on) i box) covers ∙ ap (λ vs. taken_leaves g c i (box_within box x start end) ++ pieces_leaves g rest x vs i box) case.leaves

    -- the case, and the cases after it
    pub piece_tells : (js ks us : Joins) (a b z : Gathering) → Tells g i js a ks b (case_ends c) (taken_leaves g c i (box_within box x start end)) →
        Tells g i ks b us z (branch_ends rest) (pieces_leaves g rest x (values_from (end +ℤ pos 1) (values_left box x)) i box) →
        Tells g i js a us z (branch_ends (piece upto c rest)) (pieces_leaves g (piece upto c rest) x from_on i box)
    piece_tells js ks us a b z f k =
        let one = taken_leaves g c i (box_within box x start end) in
        let more = pieces_leaves g rest x (values_from (end +ℤ pos 1) (values_left box x)) i box in
        tells_as g i js us a z (case_ends c + branch_ends rest) (branch_ends (piece upto c rest)) (one ++ more) (pieces_leaves g (piece upto c rest) x from_on i box) refl (sym piece_leaves)
        (tells_then g i js ks us a b z (case_ends c) (branch_ends rest) one more f k)

-- some of all cases are walked, and the rest isn't, which cover the values from this one on
pub record Branched (g : Game) (i x : ℕ) (from : ℤ) (all rest : Branches) (old new : Walk) (a b : Gathering) : Type 0 where
  pub back : IsBack g i old new
  pub tree : CanReadBranches g rest x (values_from from (values_left old.remains.box x)) i old.remains.box
  pub tells : (us : Joins) (z : Gathering) → Tells g i new.joins b us z (branch_ends rest) (pieces_leaves g rest x (values_from from (values_left old.remains.box x)) i old.remains.box) →
      Tells g i old.joins a us z (branch_ends all) (pieces_leaves g all x (values_left old.remains.box x) i old.remains.box)

module _ (g : Game) (i x : ℕ) (all : Branches) (old : Walk) (a : Gathering) where
  pub none_branched : (from : ℤ) → values_from from (values_left old.remains.box x) ≡ values_left old.remains.box x → IsBack g i old old → CanReadBranches g all x (values_left old.remains.box x) i old.remains.box → Branched g i x from all all old old a a
  none_branched from e back tree = record {
    back = back;
    tree = subst (λ vs. CanReadBranches g all x vs i old.remains.box) (sym e) tree;
    tells = λ us z t. subst (λ vs. Tells g i old.joins a us z (branch_ends all) (pieces_leaves g all x vs i old.remains.box)) e t;
  }

  pub one_branched : (from : ℤ) (upto : Option ℤ) (c : Case) (rest : Branches) (start end : ℤ) (mid new : Walk) (b d : Gathering) → Branched g i x from all (piece upto c rest) old mid a b → IsCase (values_left old.remains.box x) from upto start end → IsBack g i mid new →
      Tells g i mid.joins b new.joins d (case_ends c) (taken_leaves g c i (box_within mid.remains.box x start end)) → Branched g i x (end +ℤ pos 1) all rest old new a d
  one_branched from upto c rest start end mid new b d h case back t = record {
    back = back_then g i old mid new h.back back;
    tree = pieces_after g i old.remains.box x from upto c rest h.tree start end case;
    tells = λ us z k.
        h.tells us z (piece_tells g i old.remains.box x from upto c rest h.tree start end case mid.joins new.joins us b d z
        (subst (λ box. Tells g i mid.joins b new.joins d (case_ends c) (taken_leaves g c i (box_within box x start end))) h.back.box t) k);
  }

  pub all_branched : (from : ℤ) (new : Walk) (b : Gathering) → Branched g i x from all no_more old new a b → Tells g i old.joins a new.joins b (branch_ends all) (pieces_leaves g all x (values_left old.remains.box x) i old.remains.box)
  all_branched from new b h = h.tells new.joins b (tells_none g i new.joins b)
