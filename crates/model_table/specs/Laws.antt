-- The laws of the table of predicates.
use Rattle.std.specs.Prelude.{◌≡◌, ◌≢◌, ◌↔◌, ℕ, not, List, [], ◌∷◌, map, length, slice_get, Some, ℤ, pos, ◌+ℤ◌, ◌-ℤ◌, ◌*ℤ◌, ◌≤ℤ◌, ◌<ℤ◌, int_div, int_rem, IsTrue, IsFalse}
use Rattle.std.specs.List.{count_by}
use Rattle.qc_model.specs.Content.{Game, Rule}
use Rattle.qc_model.specs.Domains.{Values, Box, InBox, declared_box, is_sub_box, has_empty, is_within}
use Rattle.qc_model.specs.Ranges.{Range, product, absolute, absolute_range, quotient_range, remainder_range}
use Rattle.qc_model.specs.Holds.{holds_on, all_differ}
use Rattle.qc_model.specs.Left.{is_crowded, has_crowd, is_zero_range}
use Rattle.qc_model.specs.Refuted.{refuted_by}
use Rattle.qc_model.specs.Visible.{ArgumentsBelow}
use Rattle.qc_model.specs.Valid.{IsValid}
use Rattle.qc_model.specs.Table.{IsTableSound, IsOrdered}
use Rattle.model_table.specs.Spans.{LiesWithin, IsSpan, IsProductOf, IsQuotientOf, IsRemainderOf, IsAbsoluteOf, ReachesEnds}

-- where a constraint refutes a box, no declared values of the box satisfy it
abbrev pub RefutedHasNone : Type 0
RefutedHasNone = (g : Game) → IsValid g → IsTableSound g

-- where it refutes a box, it refutes every smaller box without an empty domain
abbrev pub RefutedStays : Type 0
RefutedStays = (g : Game) → IsValid g → (k : ℕ) (c : Rule) (small large : Box) → slice_get g.constraints k ≡ Some c → ArgumentsBelow (length small) c.args →
    IsTrue (is_sub_box small large) → IsFalse (has_empty small) → IsTrue (refuted_by c large) → IsTrue (refuted_by c small)

-- the box that leaves each variable its one value
abbrev pub single_box : List ℤ → Box
single_box w = map (λ v. v ∷ []) w

-- on a box of single declared values, refuted is exactly that the constraint doesn't hold
abbrev pub SingleIsExact : Type 0
SingleIsExact = (g : Game) → IsValid g → (k : ℕ) (c : Rule) (w : List ℤ) → slice_get g.constraints k ≡ Some c → ArgumentsBelow (length w) c.args → InBox w (declared_box g) →
    refuted_by c (single_box w) ≡ not (holds_on c w)

-- each constraint sees only variables of its own scope and earlier ones, and each domain has a value
abbrev pub ValidIsOrdered : Type 0
ValidIsOrdered = (g : Game) → IsValid g → IsOrdered g

-- the range of a product is the least that holds each product of members
abbrev pub ProductsLieWithin : Type 0
ProductsLieWithin = (a b : Range) (u v : ℤ) → LiesWithin u a → LiesWithin v b → LiesWithin (u *ℤ v) (product a b)

abbrev pub ProductsReachEnds : Type 0
ProductsReachEnds = (a b : Range) → IsSpan a → IsSpan b → ReachesEnds (IsProductOf a b) (product a b)

-- that of a quotient is the least that holds each quotient of members by one other than 0, where there is such a one
abbrev pub QuotientsLieWithin : Type 0
QuotientsLieWithin = (a b : Range) (u v : ℤ) → LiesWithin u a → LiesWithin v b → v ≢ pos 0 → LiesWithin (int_div u v) (quotient_range a b)

abbrev pub QuotientsReachEnds : Type 0
QuotientsReachEnds = (a b : Range) → IsSpan a → IsSpan b → IsFalse (is_zero_range b) → ReachesEnds (IsQuotientOf a b) (quotient_range a b)

-- that of a remainder holds each remainder of members by one other than 0, and is the least where the dividend may be 0
abbrev pub RemaindersLieWithin : Type 0
RemaindersLieWithin = (a b : Range) (u v : ℤ) → LiesWithin u a → LiesWithin v b → v ≢ pos 0 → LiesWithin (int_rem u v) (remainder_range a b)

abbrev pub RemaindersReachEnds : Type 0
RemaindersReachEnds = (a b : Range) → LiesWithin (pos 0) a → IsSpan b → IsFalse (is_zero_range b) → ReachesEnds (IsRemainderOf a b) (remainder_range a b)

-- that of an absolute value is the least that holds that of each member
abbrev pub AbsolutesLieWithin : Type 0
AbsolutesLieWithin = (a : Range) (u : ℤ) → LiesWithin u a → LiesWithin (absolute u) (absolute_range a)

abbrev pub AbsolutesReachEnds : Type 0
AbsolutesReachEnds = (a : Range) → IsSpan a → ReachesEnds (IsAbsoluteOf a) (absolute_range a)

-- a crowd is found at the ends of items where there is one between any two numbers
abbrev pub CrowdsByEnds : Type 0
CrowdsByEnds = (ds : List Values) → IsTrue (has_crowd ds) ↔ ((l h : ℤ) × IsTrue (is_crowded ds l h))

-- more numbers from l to h than there are of them aren't all different
abbrev pub CrowdsRepeat : Type 0
CrowdsRepeat = (l h : ℤ) (vs : List ℤ) → l ≤ℤ h → ((h -ℤ l) +ℤ pos 1) <ℤ pos (count_by (is_within l h) vs) → IsFalse (all_differ vs)
