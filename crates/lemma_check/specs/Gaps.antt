-- A box that is cut to literals in order, one by one: what goes are the gaps between their ranges.
use Rattle.std.specs.Prelude.{◌≡◌, ◌<◌, ℕ, ◌==◌, nat_lt, IsTrue, true, length, Bool, ◌||◌, cond, List, [], ◌∷◌, filter, set, Option, Some, None, ℤ, int_le}
use Rattle.std.specs.List.{list_all}
use Rattle.qc_model.specs.Domains.{Box, values_left, is_sub_box}
use Rattle.fd_store.specs.Held.{Held, Follows}
use Rattle.lemma_list.specs.declared.lemma.Literal.{Literal}
use Rattle.lemma_list.specs.Literals.{comes_after, are_in_order}

-- x keeps the values for which p holds; those up to h; those from l on; those that aren't between h and l
abbrev pub narrowed : Box → ℕ → (ℤ → Bool) → Box
narrowed box x p = set box x (filter p (values_left box x))

abbrev pub kept_up_to : Box → ℕ → ℤ → Box
kept_up_to box x h = narrowed box x (λ v. int_le v h)

abbrev pub kept_from : Box → ℕ → ℤ → Box
kept_from box x l = narrowed box x (int_le l)

abbrev pub without_gap : Box → ℕ → ℤ → ℤ → Box
without_gap box x h l = narrowed box x (λ v. int_le v h || int_le l v)

-- the gap before a literal, where another may stand before it on the same variable or an earlier one
abbrev pub cut_before : Option Literal → Literal → Box → Box
cut_before None l box = kept_from box l.x.0 l.lo
cut_before (Some p) l box = cond (p.x.0 == l.x.0) (without_gap box l.x.0 p.hi l.lo) (kept_from (kept_up_to box p.x.0 p.hi) l.x.0 l.lo)

-- and the gaps after the last
abbrev pub without_gaps : Option Literal → List Literal → Box → Box
without_gaps None [] box = box
without_gaps (Some p) [] box = kept_up_to box p.x.0 p.hi
without_gaps before (l ∷ ls) box = without_gaps (Some l) ls (cut_before before l box)

-- literals on the first variables alone
abbrev pub are_inside : ℕ → List Literal → Bool
are_inside n ls = list_all (λ l. nat_lt l.x.0 n) ls

abbrev pub IsInside : ℕ → Option Literal → Type 0
IsInside n None = Unit {0}
IsInside n (Some p) = p.x.0 < n

-- one before another, in order
abbrev pub IsEarlier : ℕ → Option Literal → Literal → Type 0
IsEarlier n None l = Unit {0}
IsEarlier n (Some p) l = (p.x.0 < n) × IsTrue (comes_after p l)

-- the literals that come after some
abbrev pub AreLater : Option Literal → List Literal → Type 0
AreLater None ls = IsTrue (are_in_order ls)
AreLater (Some p) ls = IsTrue (are_in_order (p ∷ ls))

-- some literals were cut to, up to the one before, and these are left
pub record IsCutting (all : List Literal) (first : Held) (before : Option Literal) (left : List Literal) (now : Held) : Type 0 where
  pub content : without_gaps before left now.box ≡ without_gaps None all first.box
  pub later : AreLater before left
  pub last : IsInside (length first.box) before
  pub inside : IsTrue (are_inside (length first.box) left)
  pub long : length now.box ≡ length first.box
  pub past : Follows first now
  pub fewer : (large : Box) → is_sub_box first.box large ≡ true → is_sub_box now.box large ≡ true
