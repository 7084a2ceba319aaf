-- Smaller boxes: fewer values left to each argument, and narrower ranges.
use Rattle.std.proofs.Common.{◌≡◌, inl, inr, ℕ, zero, suc, ◌<◌, Bool, true, false, ◌&&◌, ◌||◌, cond, List, [], ◌∷◌, length, map, refl, sym, ap, arith, Some}
use Rattle.std.specs.Prelude.{ℤ, pos, ◌≤ℤ◌, int_lt, slice_index_or, ⊤}
use Rattle.std.specs.List.{list_all}
use Rattle.std.proofs.lemmas.Int.{ints}
use Rattle.std.proofs.lemmas.Bool.{and_parts}
use Rattle.qc_model.specs.declared.problem.Arg.{Arg}
use Rattle.qc_model.specs.declared.problem.Arg.TheVariants.{Var, Num}
use Rattle.qc_model.specs.declared.problem.Argument.{Argument}
use Rattle.qc_model.specs.declared.problem.Argument.TheVariants.{One, Many, Numbers, Members}
use Rattle.qc_model.specs.Lists.{Among}
use Rattle.qc_model.specs.Domains.{Values, Box, least_value, greatest_value, least_from, greatest_from, has_value, is_single, is_none_left, is_ascending, is_sub_box, has_empty}
use Rattle.qc_model.specs.Arguments.{Filled, filled_one, filled_many, filled_numbers, filled_members, fill, as_one, as_many, as_numbers, as_members, numbers, members}
use Rattle.qc_model.specs.Left.{Lefts, left_at, lefts_at, last_left}
use Rattle.qc_model.specs.Refuted.{left_to}
use Rattle.qc_model.specs.Visible.{ArgBelow, ArgsBelow, ArgumentBelow, ArgumentsBelow}
use Rattle.qc_model.proofs.Sound.{differ, lo_of, hi_of}
use Rattle.model_table.proofs.Fits.{all_at}
use Rattle.model_table.proofs.Items.{among_of}
use Rattle.model_table.proofs.Typed.{lefts_of}

-- d has some values, of those of e; the same where e has one
pub record IsPart (d e : Values) : Type 0 where
  pub each : (v : ℤ) → Among v d → Among v e
  pub least_item : Among (least_value d) d
  pub greatest_item : Among (greatest_value d) d
  pub only : is_single e ≡ true → d ≡ e

least_is_item : (n : ℤ) (d : Values) → Among (least_from n d) (n ∷ d)
least_is_item n [] = inl refl
least_is_item n (v ∷ d) = by (int_lt v n) (least_is_item v d) (least_is_item n d)
  where
    by : (b : Bool) → Among (least_from v d) (v ∷ d) → Among (least_from n d) (n ∷ d) → Among (least_from (cond b v n) d) (n ∷ v ∷ d)
    by true f g = inr f
    by false f (inl q) = inl q
    by false f (inr t) = inr (inr t)

greatest_is_item : (n : ℤ) (d : Values) → Among (greatest_from n d) (n ∷ d)
greatest_is_item n [] = inl refl
greatest_is_item n (v ∷ d) = by (int_lt n v) (greatest_is_item v d) (greatest_is_item n d)
  where
    by : (b : Bool) → Among (greatest_from v d) (v ∷ d) → Among (greatest_from n d) (n ∷ d) → Among (greatest_from (cond b v n) d) (n ∷ v ∷ d)
    by true f g = inr f
    by false f (inl q) = inl q
    by false f (inr t) = inr (inr t)

-- ascending values, all of them one value
one_of : (d e : Values) → is_none_left d ≡ false → is_ascending d ≡ true → list_all (has_value e) d ≡ true → is_single e ≡ true → d ≡ e
one_of [] e n a h s = absurd (differ (sym n))
one_of (v ∷ d) [] n a h s = absurd (differ s)
one_of (v ∷ d) (w ∷ x ∷ e) n a h s = absurd (differ s)
one_of (v ∷ []) (w ∷ []) n a h s = ap (λ (x : ℤ). x ∷ []) (same v (all_at (has_value (w ∷ [])) (v ∷ []) v h (inl refl)))
  where
    same : (x : ℤ) → has_value (w ∷ []) x ≡ true → x ≡ w
    same x q = elim (among_of x (w ∷ []) q) [ inl p ↦ p | inr t ↦ absurd t ]
one_of (v ∷ x ∷ d) (w ∷ []) n a h s =
    let p = same v (all_at (has_value (w ∷ [])) (v ∷ x ∷ d) v h (inl refl)) in
    let q = same x (all_at (has_value (w ∷ [])) (v ∷ x ∷ d) x h (inr (inl refl))) in
    let l = (and_parts (int_lt v x) (is_ascending (x ∷ d)) a).0 in
    absurd (omega (arith, ints))
  where
    same : (x : ℤ) → has_value (w ∷ []) x ≡ true → x ≡ w
    same x q = elim (among_of x (w ∷ []) q) [ inl p ↦ p | inr t ↦ absurd t ]

part_of : (d e : Values) → is_none_left d ≡ false → is_ascending d ≡ true → list_all (has_value e) d ≡ true → IsPart d e
part_of [] e n a h = absurd (differ (sym n))
part_of (v ∷ d) e n a h = record {
  each = λ x m. among_of x e (all_at (has_value e) (v ∷ d) x h m);
  least_item = least_is_item v d;
  greatest_item = greatest_is_item v d;
  only = one_of (v ∷ d) e n a h;
}

literal_part : (n : ℤ) → IsPart (n ∷ []) (n ∷ [])
literal_part n = record { each = λ x m. m; least_item = inl refl; greatest_item = inl refl; only = λ s. refl }

pub span_low : (d e : Values) → IsPart d e → least_value e ≤ℤ least_value d
span_low d e p = lo_of (least_value d) e (p.each (least_value d) p.least_item)

pub span_high : (d e : Values) → IsPart d e → greatest_value d ≤ℤ greatest_value e
span_high d e p = hi_of (greatest_value d) e (p.each (greatest_value d) p.greatest_item)

pub span_order : (d e : Values) → IsPart d e → least_value d ≤ℤ greatest_value d
span_order d e p = lo_of (greatest_value d) d p.greatest_item

-- place by place, and the same of whole arguments
abbrev pub AreParts : List Values → List Values → Type 0
AreParts [] [] = ⊤
AreParts [] (e ∷ es) = ⊥
AreParts (d ∷ ds) [] = ⊥
AreParts (d ∷ ds) (e ∷ es) = IsPart d e × AreParts ds es

abbrev pub PartOne : Filled Values → Filled Values → Type 0
PartOne (filled_one d) (filled_one e) = IsPart d e
PartOne (filled_many ds) (filled_many es) = AreParts ds es
PartOne (filled_numbers ns) (filled_numbers ms) = ns ≡ ms
PartOne (filled_members s) (filled_members t) = s ≡ t
PartOne d e = ⊥

abbrev pub Parts : Lefts → Lefts → Type 0
Parts [] [] = ⊤
Parts [] (e ∷ es) = ⊥
Parts (d ∷ ds) [] = ⊥
Parts (d ∷ ds) (e ∷ es) = PartOne d e × Parts ds es

-- of a smaller box
box_part : (small large : Box) (k : ℕ) → is_sub_box small large ≡ true → has_empty small ≡ false → k < length small → IsPart (slice_index_or small k []) (slice_index_or large k [])
box_part [] large k s n l = absurd (omega arith)
box_part (d ∷ small) [] k s n l = absurd (differ s)
box_part (d ∷ small) (e ∷ large) k s n l =
    let p = and_parts (is_ascending d && list_all (has_value e) d) (is_sub_box small large) s in
    let q = and_parts (is_ascending d) (list_all (has_value e) d) p.0 in
    let r = neither (is_none_left d) (has_empty small) n in
    by k l (part_of d e r.0 q.0 q.1) (λ j m. box_part small large j p.1 r.1 m)
  where
    neither : (a b : Bool) → (a || b) ≡ false → (a ≡ false) × (b ≡ false)
    neither true b e = absurd (differ (sym e))
    neither false b e = (refl, e)

    by : (k : ℕ) → k < length (d ∷ small) → IsPart d e → ((j : ℕ) → j < length small → IsPart (slice_index_or small j []) (slice_index_or large j [])) → IsPart (slice_index_or (d ∷ small) k []) (slice_index_or (e ∷ large) k [])
    by zero l p f = p
    by (suc k) l p f = f k (omega arith)

module _ (small large : Box) (s : is_sub_box small large ≡ true) (n : has_empty small ≡ false) where
  arg_part : (a : Arg) → ArgBelow (length small) a → IsPart (left_to small a) (left_to large a)
  arg_part (Var x) l = box_part small large x.0 s n l
  arg_part (Num m) l = literal_part m

  args_parts : (items : List Arg) → ArgsBelow (length small) items → AreParts (map (left_to small) items) (map (left_to large) items)
  args_parts [] l = tt
  args_parts (a ∷ items) l = (arg_part a l.0, args_parts items l.1)

  argument_part : (a : Argument) → ArgumentBelow (length small) a → PartOne (fill (left_to small) a) (fill (left_to large) a)
  argument_part (One a) l = arg_part a l
  argument_part (Many items) l = args_parts items l
  argument_part (Numbers ns) l = refl
  argument_part (Members t) l = refl

  pub lefts_parts : (args : List Argument) → ArgumentsBelow (length small) args → Parts (lefts_of small args) (lefts_of large args)
  lefts_parts [] l = tt
  lefts_parts (a ∷ args) l = (argument_part a l.0, lefts_parts args l.1)

-- what parts have at each place
one_part : (d e : Filled Values) → PartOne d e → IsPart (as_one (pos 0 ∷ []) (Some d)) (as_one (pos 0 ∷ []) (Some e))
one_part (filled_one d) (filled_one e) h = h
one_part (filled_many d) (filled_many e) h = literal_part (pos 0)
one_part (filled_numbers d) (filled_numbers e) h = literal_part (pos 0)
one_part (filled_members d) (filled_members e) h = literal_part (pos 0)
one_part d e h = absurd h

many_parts : (d e : Filled Values) → PartOne d e → AreParts (as_many (Some d)) (as_many (Some e))
many_parts (filled_one d) (filled_one e) h = tt
many_parts (filled_many d) (filled_many e) h = h
many_parts (filled_numbers d) (filled_numbers e) h = tt
many_parts (filled_members d) (filled_members e) h = tt
many_parts d e h = absurd h

numbers_part : (d e : Filled Values) → PartOne d e → as_numbers (Some d) ≡ as_numbers (Some e)
numbers_part (filled_one d) (filled_one e) h = refl
numbers_part (filled_many d) (filled_many e) h = refl
numbers_part (filled_numbers d) (filled_numbers e) h = h
numbers_part (filled_members d) (filled_members e) h = refl
numbers_part d e h = absurd h

members_part : (d e : Filled Values) → PartOne d e → as_members (Some d) ≡ as_members (Some e)
members_part (filled_one d) (filled_one e) h = refl
members_part (filled_many d) (filled_many e) h = refl
members_part (filled_numbers d) (filled_numbers e) h = refl
members_part (filled_members d) (filled_members e) h = h
members_part d e h = absurd h

pub part_at : (ds es : Lefts) (k : ℕ) → Parts ds es → IsPart (left_at ds k) (left_at es k)
part_at [] [] k h = literal_part (pos 0)
part_at [] (e ∷ es) k h = absurd h
part_at (d ∷ ds) [] k h = absurd h
part_at (d ∷ ds) (e ∷ es) zero h = one_part d e h.0
part_at (d ∷ ds) (e ∷ es) (suc k) h = part_at ds es k h.1

pub parts_at : (ds es : Lefts) (k : ℕ) → Parts ds es → AreParts (lefts_at ds k) (lefts_at es k)
parts_at [] [] k h = tt
parts_at [] (e ∷ es) k h = absurd h
parts_at (d ∷ ds) [] k h = absurd h
parts_at (d ∷ ds) (e ∷ es) zero h = many_parts d e h.0
parts_at (d ∷ ds) (e ∷ es) (suc k) h = parts_at ds es k h.1

pub same_numbers : (ds es : Lefts) (k : ℕ) → Parts ds es → numbers ds k ≡ numbers es k
same_numbers [] [] k h = refl
same_numbers [] (e ∷ es) k h = absurd h
same_numbers (d ∷ ds) [] k h = absurd h
same_numbers (d ∷ ds) (e ∷ es) zero h = numbers_part d e h.0
same_numbers (d ∷ ds) (e ∷ es) (suc k) h = same_numbers ds es k h.1

pub same_members : (ds es : Lefts) (k : ℕ) → Parts ds es → members ds k ≡ members es k
same_members [] [] k h = refl
same_members [] (e ∷ es) k h = absurd h
same_members (d ∷ ds) [] k h = absurd h
same_members (d ∷ ds) (e ∷ es) zero h = members_part d e h.0
same_members (d ∷ ds) (e ∷ es) (suc k) h = same_members ds es k h.1

pub last_part : (ds es : Lefts) → Parts ds es → IsPart (last_left ds) (last_left es)
last_part [] [] h = literal_part (pos 0)
last_part [] (e ∷ es) h = absurd h
last_part (d ∷ ds) [] h = absurd h
last_part (d ∷ []) (e ∷ []) h = one_part d e h.0
last_part (d ∷ []) (e ∷ f ∷ es) h = absurd h.1
last_part (d ∷ c ∷ ds) (e ∷ []) h = absurd h.1
last_part (d ∷ c ∷ ds) (e ∷ f ∷ es) h = last_part (c ∷ ds) (f ∷ es) h.1
