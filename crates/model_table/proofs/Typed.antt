-- The arguments of a valid constraint, with declared values, are of the kinds that the laws ask for.
use Rattle.std.proofs.Common.{◌≡◌, inl, inr, ℕ, zero, suc, ◌<◌, true, false, List, [], ◌∷◌, length, map, refl, ap, subst, arith, Some, slice_get, nat_lt, nat_le}
use Rattle.std.specs.Prelude.{ℤ, pos, slice_index_or, ⊤}
use Rattle.std.specs.Ordering.{int_eq}
use Rattle.std.specs.List.{list_all}
use Rattle.std.proofs.lemmas.Bool.{or_cases, and_parts}
use Rattle.qc_model.specs.declared.problem.Domain.{Domain}
use Rattle.qc_model.specs.declared.problem.Domain.TheVariants.{Bits, Range, Listed}
use Rattle.qc_model.specs.declared.problem.Variable.{Variable}
use Rattle.qc_model.specs.declared.problem.Arg.{Arg}
use Rattle.qc_model.specs.declared.problem.Arg.TheVariants.{Var, Num}
use Rattle.qc_model.specs.declared.problem.Argument.{Argument}
use Rattle.qc_model.specs.declared.problem.Argument.TheVariants.{One, Many, Numbers, Members}
use Rattle.qc_model.specs.Lists.{Among}
use Rattle.qc_model.specs.Domains.{Box, InBox, domain_values}
use Rattle.qc_model.specs.Arguments.{Filled, filled_one, filled_many, filled_numbers, filled_members, fill}
use Rattle.qc_model.specs.Holds.{Given, value_at, values_at, last_value, arg_value}
use Rattle.qc_model.specs.Left.{Lefts, left_at}
use Rattle.qc_model.specs.Refuted.{left_to}
use Rattle.qc_model.specs.declared.signature.ArgKind.{ArgKind}
use Rattle.qc_model.specs.declared.signature.ArgKind.TheVariants.{Boolean as boolean, Integers as integers, Booleans as booleans}
use Rattle.qc_model.specs.Valid.{is_bits, is_variable_with, is_boolean, is_of_sort, are_of_sorts, item_count, is_literal}
use Rattle.qc_model.specs.Visible.{ArgBelow, ArgsBelow, ArgumentBelow, ArgumentsBelow}
use Rattle.qc_model.proofs.Sound.{differ}
use Rattle.model_table.proofs.Typing.{IsTruth, AllTruths, HasItem}
use Rattle.model_table.proofs.Sums.{same_number}

abbrev pub given_of : List ℤ → List Argument → Given
given_of w args = map (fill (arg_value w)) args

abbrev pub lefts_of : Box → List Argument → Lefts
lefts_of box args = map (fill (left_to box)) args

-- a declared value of a Boolean variable
declared_truth : (xs : List Variable) (w : List ℤ) (k : ℕ) → InBox w (map (λ x. domain_values x.domain) xs) → k < length w → is_variable_with is_bits (slice_get xs k) ≡ true → IsTruth (slice_index_or w k (pos 0))
declared_truth xs [] k b l e = absurd (omega arith)
declared_truth [] (v ∷ w) k b l e = absurd b
declared_truth (x ∷ xs) (v ∷ w) zero b l e = of_bits x.domain e b.0
  where
    of_bits : (d : Domain) → is_bits d ≡ true → Among v (domain_values d) → IsTruth v
    of_bits Bits e m = elim m [ inl q ↦ (false, q) | inr n ↦ elim n [ inl q ↦ (true, q) | inr z ↦ absurd z ] ]
    of_bits (Range low high) e m = absurd (differ e)
    of_bits (Listed ns) e m = absurd (differ e)
declared_truth (x ∷ xs) (v ∷ w) (suc k) b l e = declared_truth xs w k b.1 (omega arith) e

module _ (xs : List Variable) (w : List ℤ) (b : InBox w (map (λ x. domain_values x.domain) xs)) where
  arg_truth : (a : Arg) → ArgBelow (length w) a → is_boolean xs a ≡ true → IsTruth (arg_value w a)
  arg_truth (Var x) l e = declared_truth xs w x.0 b l e
  arg_truth (Num n) l e =
      elim (or_cases (int_eq n (pos 0)) (int_eq n (pos 1)) e) [ inl q ↦ (false, same_number n (pos 0) q) | inr q ↦ (true, same_number n (pos 1) q) ]

  arg_truths : (items : List Arg) → ArgsBelow (length w) items → list_all (is_boolean xs) items ≡ true → AllTruths (map (arg_value w) items)
  arg_truths [] l e = tt
  arg_truths (a ∷ items) l e =
      let p = and_parts (is_boolean xs a) (list_all (is_boolean xs) items) e in
      (arg_truth a l.0 p.0, arg_truths items l.1 p.1)

-- a truth value, or an array of such, where the sort asks for it
abbrev pub OfSort : ArgKind → Filled ℤ → Type 0
OfSort boolean (filled_one v) = IsTruth v
OfSort booleans (filled_many vs) = AllTruths vs
OfSort s v = ⊤

abbrev pub OfSorts : List ArgKind → Given → Type 0
OfSorts [] [] = ⊤
OfSorts [] (v ∷ vs) = ⊥
OfSorts (s ∷ sorts) [] = ⊥
OfSorts (s ∷ sorts) (v ∷ vs) = OfSort s v × OfSorts sorts vs

of_sort : (xs : List Variable) (w : List ℤ) → InBox w (map (λ x. domain_values x.domain) xs) → (s : ArgKind) (a : Argument) → ArgumentBelow (length w) a → is_of_sort xs s a ≡ true → OfSort s (fill (arg_value w) a)
of_sort xs w b boolean (One a) l e = arg_truth xs w b a l e
of_sort xs w b booleans (Many items) l e = arg_truths xs w b items l (and_parts (nat_le (length items) 1000) (list_all (is_boolean xs) items) e).1
of_sort xs w b s a l e = tt

pub of_sorts : (xs : List Variable) (w : List ℤ) → InBox w (map (λ x. domain_values x.domain) xs) → (sorts : List ArgKind) (args : List Argument) → ArgumentsBelow (length w) args → are_of_sorts xs sorts args ≡ true → OfSorts sorts (given_of w args)
of_sorts xs w b [] [] l e = tt
of_sorts xs w b [] (a ∷ args) l e = absurd (differ e)
of_sorts xs w b (s ∷ sorts) [] l e = absurd (differ e)
of_sorts xs w b (s ∷ sorts) (a ∷ args) l e =
    let p = and_parts (is_of_sort xs s a) (are_of_sorts xs sorts args) e in
    (of_sort xs w b s a l.0 p.0, of_sorts xs w b sorts args l.1 p.1)

pub truth_at : (sorts : List ArgKind) (vs : Given) (k : ℕ) → OfSorts sorts vs → slice_get sorts k ≡ Some boolean → IsTruth (value_at vs k)
truth_at sorts [] k o e = (false, refl)
truth_at [] (v ∷ vs) k o e = absurd o
truth_at (s ∷ sorts) (v ∷ vs) zero o e = at v (subst (λ (t : ArgKind). OfSort t v) (some_same s boolean e) o.0)
  where
    some_same : (s t : ArgKind) → Some s ≡ Some t → s ≡ t
    some_same s t e = cc

    at : (v : Filled ℤ) → OfSort boolean v → IsTruth (value_at (v ∷ []) 0)
    at (filled_one v) o = o
    at (filled_many vs) o = (false, refl)
    at (filled_numbers ns) o = (false, refl)
    at (filled_members s) o = (false, refl)
truth_at (s ∷ sorts) (v ∷ vs) (suc k) o e = truth_at sorts vs k o.1 e

pub truths_at : (sorts : List ArgKind) (vs : Given) (k : ℕ) → OfSorts sorts vs → slice_get sorts k ≡ Some booleans → AllTruths (values_at vs k)
truths_at sorts [] k o e = tt
truths_at [] (v ∷ vs) k o e = absurd o
truths_at (s ∷ sorts) (v ∷ vs) zero o e = at v (subst (λ (t : ArgKind). OfSort t v) (some_same s booleans e) o.0)
  where
    some_same : (s t : ArgKind) → Some s ≡ Some t → s ≡ t
    some_same s t e = cc

    at : (v : Filled ℤ) → OfSort booleans v → AllTruths (values_at (v ∷ []) 0)
    at (filled_one v) o = tt
    at (filled_many vs) o = o
    at (filled_numbers ns) o = tt
    at (filled_members s) o = tt
truths_at (s ∷ sorts) (v ∷ vs) (suc k) o e = truths_at sorts vs k o.1 e

-- the last argument is a truth value
abbrev pub EndsBoolean : List ArgKind → Type 0
EndsBoolean [] = ⊥
EndsBoolean (s ∷ []) = s ≡ boolean
EndsBoolean (s ∷ t ∷ sorts) = EndsBoolean (t ∷ sorts)

pub truth_last : (sorts : List ArgKind) (vs : Given) → OfSorts sorts vs → EndsBoolean sorts → IsTruth (last_value vs)
truth_last [] vs o e = absurd e
truth_last (s ∷ sorts) [] o e = absurd o
truth_last (s ∷ []) (v ∷ []) o e = truth_at (s ∷ []) (v ∷ []) 0 o (ap Some e)
truth_last (s ∷ []) (v ∷ w ∷ vs) o e = absurd o.1
truth_last (s ∷ t ∷ sorts) (v ∷ []) o e = absurd o.1
truth_last (s ∷ t ∷ sorts) (v ∷ w ∷ vs) o e = truth_last (t ∷ sorts) (w ∷ vs) o.1 e

-- a literal has its own value alone
pub literal_at : (w : List ℤ) (box : Box) (args : List Argument) (k : ℕ) → is_literal (slice_get args k) ≡ true → left_at (lefts_of box args) k ≡ value_at (given_of w args) k ∷ []
literal_at w box [] k e = absurd (differ e)
literal_at w box (a ∷ args) zero e = at a e
  where
    at : (a : Argument) → is_literal (Some a) ≡ true → left_at (lefts_of box (a ∷ [])) 0 ≡ value_at (given_of w (a ∷ [])) 0 ∷ []
    at (One (Num n)) e = refl
    at (One (Var x)) e = absurd (differ e)
    at (Many items) e = absurd (differ e)
    at (Numbers ns) e = absurd (differ e)
    at (Members s) e = absurd (differ e)
literal_at w box (a ∷ args) (suc k) e = literal_at w box args k e

-- an array that isn't empty
pub item_at : (xs : List Variable) (w : List ℤ) (sorts : List ArgKind) (args : List Argument) (k : ℕ) → are_of_sorts xs sorts args ≡ true → slice_get sorts k ≡ Some integers → nat_lt 0 (item_count (slice_get args k)) ≡ true → HasItem (values_at (given_of w args) k)
item_at xs w [] [] k o s e = absurd (differ e)
item_at xs w [] (a ∷ args) k o s e = absurd (differ o)
item_at xs w (t ∷ sorts) [] k o s e = absurd (differ o)
item_at xs w (t ∷ sorts) (a ∷ args) zero o s e =
    at a (subst (λ (q : ArgKind). is_of_sort xs q a ≡ true) (some_same t integers s) (and_parts (is_of_sort xs t a) (are_of_sorts xs sorts args) o).0) e
  where
    some_same : (s t : ArgKind) → Some s ≡ Some t → s ≡ t
    some_same s t e = cc

    at : (a : Argument) → is_of_sort xs integers a ≡ true → nat_lt 0 (item_count (Some a)) ≡ true → HasItem (values_at (given_of w (a ∷ [])) 0)
    at (One a) o e = absurd (differ o)
    at (Many []) o e = absurd (differ e)
    at (Many (x ∷ items)) o e = tt
    at (Numbers ns) o e = absurd (differ o)
    at (Members s) o e = absurd (differ o)
item_at xs w (t ∷ sorts) (a ∷ args) (suc k) o s e = item_at xs w sorts args k (and_parts (is_of_sort xs t a) (are_of_sorts xs sorts args) o).1 s e
