-- A box of single values leaves to each argument the one value that it has.
use Rattle.std.proofs.Common.{◌≡◌, inl, ℕ, zero, suc, ◌<◌, List, [], ◌∷◌, length, map, refl, sym, ap, ◌∙◌, subst, arith}
use Rattle.std.specs.Prelude.{ℤ, pos, slice_index_or}
use Rattle.qc_model.specs.declared.problem.Arg.{Arg}
use Rattle.qc_model.specs.declared.problem.Arg.TheVariants.{Var, Num}
use Rattle.qc_model.specs.declared.problem.Argument.{Argument}
use Rattle.qc_model.specs.declared.problem.Argument.TheVariants.{One, Many, Numbers, Members}
use Rattle.qc_model.specs.Lists.{LiesIn}
use Rattle.qc_model.specs.Domains.{Values}
use Rattle.qc_model.specs.Ranges.{point}
use Rattle.qc_model.specs.Arguments.{Filled, filled_one, filled_many, filled_numbers, filled_members, fill, numbers, members}
use Rattle.qc_model.specs.Holds.{Given, value_at, values_at, last_value, arg_value}
use Rattle.qc_model.specs.Left.{Lefts, left_at, lefts_at, last_left, range_at, span}
use Rattle.qc_model.specs.Refuted.{left_to}
use Rattle.qc_model.specs.Visible.{ArgBelow, ArgsBelow, ArgumentBelow, ArgumentsBelow}
use Rattle.qc_model.proofs.Visible.{FitsOne, Fits}
use Rattle.model_table.proofs.Typed.{given_of, lefts_of}

-- the value alone
abbrev pub alone : ℤ → Values
alone v = v ∷ []

abbrev pub alone_in : Filled ℤ → Filled Values
alone_in (filled_one v) = filled_one (alone v)
alone_in (filled_many vs) = filled_many (map alone vs)
alone_in (filled_numbers ns) = filled_numbers ns
alone_in (filled_members s) = filled_members s

abbrev pub singles : Given → Lefts
singles vs = map alone_in vs

pub left_single : (vs : Given) (k : ℕ) → left_at (singles vs) k ≡ alone (value_at vs k)
left_single [] k = refl
left_single (filled_one v ∷ vs) zero = refl
left_single (filled_many v ∷ vs) zero = refl
left_single (filled_numbers v ∷ vs) zero = refl
left_single (filled_members v ∷ vs) zero = refl
left_single (v ∷ vs) (suc k) = left_single vs k

pub lefts_single : (vs : Given) (k : ℕ) → lefts_at (singles vs) k ≡ map alone (values_at vs k)
lefts_single [] k = refl
lefts_single (filled_one v ∷ vs) zero = refl
lefts_single (filled_many v ∷ vs) zero = refl
lefts_single (filled_numbers v ∷ vs) zero = refl
lefts_single (filled_members v ∷ vs) zero = refl
lefts_single (v ∷ vs) (suc k) = lefts_single vs k

pub last_single : (vs : Given) → last_left (singles vs) ≡ alone (last_value vs)
last_single [] = refl
last_single (filled_one v ∷ []) = refl
last_single (filled_many v ∷ []) = refl
last_single (filled_numbers v ∷ []) = refl
last_single (filled_members v ∷ []) = refl
last_single (v ∷ w ∷ vs) = last_single (w ∷ vs)

pub range_single : (vs : Given) (k : ℕ) → range_at (singles vs) k ≡ point (value_at vs k)
range_single vs k = ap span (left_single vs k)

-- what each value alone holds
pub lie_alone : (vs : List ℤ) → LiesIn vs (map alone vs)
lie_alone [] = tt
lie_alone (v ∷ vs) = (inl refl, lie_alone vs)

pub fit_singles : (vs : Given) → Fits vs (singles vs)
fit_singles [] = tt
fit_singles (v ∷ vs) = (fits v, fit_singles vs)
  where
    fits : (v : Filled ℤ) → FitsOne v (alone_in v)
    fits (filled_one v) = inl refl
    fits (filled_many vs) = lie_alone vs
    fits (filled_numbers ns) = refl
    fits (filled_members s) = refl

-- the same of the arguments of a constraint
value_alone : (w : List ℤ) (a : Arg) → ArgBelow (length w) a → left_to (map alone w) a ≡ alone (arg_value w a)
value_alone w (Var x) l = at w x.0 l
  where
    at : (w : List ℤ) (k : ℕ) → k < length w → slice_index_or (map alone w) k [] ≡ alone (slice_index_or w k (pos 0))
    at [] k l = absurd (omega arith)
    at (v ∷ w) zero l = refl
    at (v ∷ w) (suc k) l = at w k (omega arith)
value_alone w (Num n) l = refl

values_alone : (w : List ℤ) (items : List Arg) → ArgsBelow (length w) items → map (left_to (map alone w)) items ≡ map alone (map (arg_value w) items)
values_alone w [] l = refl
values_alone w (a ∷ items) l =
    ap (λ d. d ∷ map (left_to (map alone w)) items) (value_alone w a l.0) ∙ ap (λ ds. alone (arg_value w a) ∷ ds) (values_alone w items l.1)

argument_alone : (w : List ℤ) (a : Argument) → ArgumentBelow (length w) a → fill (left_to (map alone w)) a ≡ alone_in (fill (arg_value w) a)
argument_alone w (One a) l = ap filled_one (value_alone w a l)
argument_alone w (Many items) l = ap filled_many (values_alone w items l)
argument_alone w (Numbers ns) l = refl
argument_alone w (Members s) l = refl

pub lefts_alone : (w : List ℤ) (args : List Argument) → ArgumentsBelow (length w) args → lefts_of (map alone w) args ≡ singles (given_of w args)
lefts_alone w [] l = refl
lefts_alone w (a ∷ args) l =
    ap (λ d. d ∷ lefts_of (map alone w) args) (argument_alone w a l.0) ∙ ap (λ ds. alone_in (fill (arg_value w) a) ∷ ds) (lefts_alone w args l.1)

-- a fact of the first three arguments, and of arrays, shown at single values
pub at_single : (vs : Given) (P : Values → Values → Values → Type 0) → P (alone (value_at vs 0)) (alone (value_at vs 1)) (alone (value_at vs 2)) → P (left_at (singles vs) 0) (left_at (singles vs) 1) (left_at (singles vs) 2)
at_single vs P h =
    subst (λ d. P d (left_at (singles vs) 1) (left_at (singles vs) 2)) (sym (left_single vs 0))
    (subst (λ d. P (alone (value_at vs 0)) d (left_at (singles vs) 2)) (sym (left_single vs 1))
    (subst (λ d. P (alone (value_at vs 0)) (alone (value_at vs 1)) d) (sym (left_single vs 2)) h))

pub numbers_single : (vs : Given) (k : ℕ) → numbers (singles vs) k ≡ numbers vs k
numbers_single [] k = refl
numbers_single (filled_one v ∷ vs) zero = refl
numbers_single (filled_many v ∷ vs) zero = refl
numbers_single (filled_numbers v ∷ vs) zero = refl
numbers_single (filled_members v ∷ vs) zero = refl
numbers_single (v ∷ vs) (suc k) = numbers_single vs k

pub members_single : (vs : Given) (k : ℕ) → members (singles vs) k ≡ members vs k
members_single [] k = refl
members_single (filled_one v ∷ vs) zero = refl
members_single (filled_many v ∷ vs) zero = refl
members_single (filled_numbers v ∷ vs) zero = refl
members_single (filled_members v ∷ vs) zero = refl
members_single (v ∷ vs) (suc k) = members_single vs k
