-- The lexicographic order of tuples, and tuples in that order.
use Rattle.std.proofs.Common.{◌≡◌, inl, inr, ℕ, zero, suc, Bool, true, false, cond, List, [], ◌∷◌, ◌++◌, map, filter, take, drop, refl, sym, ap, ◌∙◌, subst, ℤ, ◌<ℤ◌, arith}
use Rattle.std.specs.Prelude.{⊤, int_lt}
use Rattle.std.specs.List.{flat_map, list_all}
use Rattle.std.specs.declared.cmp.Ordering.{Ordering}
use Rattle.std.specs.declared.cmp.Ordering.TheVariants.{Less, Equal, Greater}
use Rattle.std.specs.Ordering.{int_cmp, is_lt, ordering_then, ordering_reverse, MatchOrdering}
use Rattle.std.specs.Cmp.{IsTotalOrder}
use Rattle.std.specs.Cmp.Lexicographic.{slice_cmp}
use Rattle.std.proofs.lemmas.Cmp.{int_cmp_total, lists_total, tied_itself, int_ranked}
use Rattle.std.proofs.lemmas.Int.{ints}
use Rattle.std.proofs.lemmas.Bool.{and_parts}
use Rattle.qc_model.specs.declared.problem.Variable.{Variable}
use Rattle.qc_model.specs.Content.{Game}
use Rattle.qc_model.specs.Lists.{Among, tuples}
use Rattle.qc_model.specs.Domains.{domain_values, declared_box, is_ascending}
use Rattle.qc_model.specs.Game.{before, scope_domains, allows, moves}
use Rattle.qc_model.specs.Valid.{IsValid, is_domain}
use Rattle.model_levels.proofs.Ascends.{domain_ascends}

abbrev pub order_of : List ℤ → List ℤ → Ordering
order_of = slice_cmp int_cmp

pub total : IsTotalOrder order_of
total = lists_total int_cmp_total

-- t stands before each of the tuples
abbrev pub AllAfter : List ℤ → List (List ℤ) → Type 0
AllAfter t [] = ⊤
AllAfter t (u ∷ us) = (order_of t u ≡ Less) × AllAfter t us

-- each stands before all that follow
abbrev pub Ascends : List (List ℤ) → Type 0
Ascends [] = ⊤
Ascends (t ∷ ts) = AllAfter t ts × Ascends ts

-- ---- the order
number_same : (x y : ℤ) → int_cmp x y ≡ Equal → x ≡ y
number_same x y e = subst (λ o. MatchOrdering o (x <ℤ y) (x ≡ y) (y <ℤ x)) e (int_ranked x y (int_cmp x y) refl)

number_below : (x y : ℤ) → x <ℤ y → int_cmp x y ≡ Less
number_below x y h = by (int_cmp x y) (int_ranked x y (int_cmp x y) refl)
  where
    by : (o : Ordering) → MatchOrdering o (x <ℤ y) (x ≡ y) (y <ℤ x) → o ≡ Less
    by Less k = refl
    by Equal k = absurd (omega (arith, ints, h, k))
    by Greater k = absurd (omega (arith, ints, h, k))

pub order_same : (t u : List ℤ) → order_of t u ≡ Equal → t ≡ u
order_same [] [] e = refl
order_same [] (y ∷ u) e = cc
order_same (x ∷ t) [] e = cc
order_same (x ∷ t) (y ∷ u) e = by (int_cmp x y) refl (order_same t u) e
  where
    by : (o : Ordering) → int_cmp x y ≡ o → (order_of t u ≡ Equal → t ≡ u) → ordering_then o (order_of t u) ≡ Equal → x ∷ t ≡ y ∷ u
    by Less q k e = cc
    by Equal q k e =
        let h : x ≡ y = number_same x y q in
        let r : t ≡ u = k e in cc
    by Greater q k e = cc

not_before_itself : (t u : List ℤ) → t ≡ u → order_of t u ≡ Less → ⊥
not_before_itself t u e h = let q : order_of t t ≡ Equal = tied_itself total t in let k : order_of t t ≡ Less = subst (λ v. order_of t v ≡ Less) (sym e) h in cc

not_both : (t u : List ℤ) → order_of t u ≡ Less → order_of u t ≡ Less → ⊥
not_both t u h k = not_before_itself t t refl (total.trans t u t h k)

-- what isn't before t, and isn't t, is after it
pub is_after : (t u : List ℤ) → is_lt (order_of u t) ≡ false → (t ≡ u → ⊥) → order_of t u ≡ Less
is_after t u h n = by (order_of u t) refl h
  where
    by : (o : Ordering) → order_of u t ≡ o → is_lt o ≡ false → order_of t u ≡ Less
    by Less q k = cc
    by Equal q k = absurd (n (sym (order_same u t q)))
    by Greater q k = total.antisymm t u ∙ ap ordering_reverse q

-- ---- two lists in order
later : (t u : List ℤ) (us : List (List ℤ)) → AllAfter t us → Among u us → order_of t u ≡ Less
later t u [] h m = absurd m
later t u (v ∷ us) h m = elim m [ inl e ↦ subst (λ w. order_of t w ≡ Less) (sym e) h.0 | inr k ↦ later t u us h.1 k ]

heads : (t u : List ℤ) (ts us : List (List ℤ)) → AllAfter t ts → AllAfter u us → Among t (u ∷ us) → Among u (t ∷ ts) → t ≡ u
heads t u ts us h k m n =
    elim m [
      | inl e ↦ e
      | inr p ↦ elim n [ inl e ↦ sym e | inr q ↦ absurd (not_both t u (later t u ts h q) (later u t us k p)) ]
    ]

rest : (t u : List ℤ) (ts us : List (List ℤ)) → AllAfter t ts → t ≡ u → ((v : List ℤ) → Among v (t ∷ ts) → Among v (u ∷ us)) → (v : List ℤ) → Among v ts → Among v us
rest t u ts us h e f v m = elim (f v (inr m)) [ inl q ↦ absurd (not_before_itself t v (e ∙ sym q) (later t v ts h m)) | inr k ↦ k ]

-- with the same tuples they are the same
pub same_ascending : (ts us : List (List ℤ)) → Ascends ts → Ascends us → ((t : List ℤ) → Among t ts → Among t us) → ((t : List ℤ) → Among t us → Among t ts) → ts ≡ us
same_ascending [] [] h k f g = refl
same_ascending [] (u ∷ us) h k f g = absurd (g u (inl refl))
same_ascending (t ∷ ts) [] h k f g = absurd (f t (inl refl))
same_ascending (t ∷ ts) (u ∷ us) h k f g =
    let e : t ≡ u = heads t u ts us h.0 k.0 (f t (inl refl)) (g u (inl refl)) in
    let r : ts ≡ us = same_ascending ts us h.1 k.1 (rest t u ts us h.0 e f) (rest u t us ts k.0 (sym e) g) in cc

-- ---- the allowed tuples are in order
after_both : (t : List ℤ) (us vs : List (List ℤ)) → AllAfter t us → AllAfter t vs → AllAfter t (us ++ vs)
after_both t [] vs h k = k
after_both t (u ∷ us) vs h k = (h.0, after_both t us vs h.1 k)

ascends_both : (us vs : List (List ℤ)) → Ascends us → Ascends vs → ((u : List ℤ) → Among u us → AllAfter u vs) → Ascends (us ++ vs)
ascends_both [] vs h k f = k
ascends_both (u ∷ us) vs h k f = (after_both u us vs h.0 (f u (inl refl)), ascends_both us vs h.1 k (λ v m. f v (inr m)))

same_first : (v : ℤ) (t u : List ℤ) → order_of t u ≡ Less → order_of (v ∷ t) (v ∷ u) ≡ Less
same_first v t u h = ap (λ o. ordering_then o (order_of t u)) (tied_itself int_cmp_total v) ∙ h

after_first : (v : ℤ) (t : List ℤ) (us : List (List ℤ)) → AllAfter t us → AllAfter (v ∷ t) (map (λ u. v ∷ u) us)
after_first v t [] h = tt
after_first v t (u ∷ us) h = (same_first v t u h.0, after_first v t us h.1)

ascends_first : (v : ℤ) (ts : List (List ℤ)) → Ascends ts → Ascends (map (λ t. v ∷ t) ts)
ascends_first v [] h = tt
ascends_first v (t ∷ ts) h = (after_first v t ts h.0, ascends_first v ts h.1)

-- v is below each of the values
abbrev AllAbove : ℤ → List ℤ → Type 0
AllAbove v [] = ⊤
AllAbove v (w ∷ ws) = (v <ℤ w) × AllAbove v ws

all_above : (v w : ℤ) (ws : List ℤ) → v <ℤ w → AllAbove w ws → AllAbove v ws
all_above v w [] h k = tt
all_above v w (x ∷ ws) h k = (through v w x h k.0, all_above v w ws h k.1)
  where
    through : (v w x : ℤ) → v <ℤ w → w <ℤ x → v <ℤ x
    through v w x h k = grind (arith, ints)

below_next : (v w : ℤ) → int_lt v w ≡ true → v <ℤ w
below_next v w e = grind (arith, ints, e)

above_first : (v : ℤ) (vs : List ℤ) → is_ascending (v ∷ vs) ≡ true → AllAbove v vs
above_first v [] e = tt
above_first v (w ∷ vs) e =
    let p = and_parts (int_lt v w) (is_ascending (w ∷ vs)) e in
    let h = below_next v w p.0 in
    (h, all_above v w vs h (above_first w vs p.1))

ascending_rest : (v : ℤ) (vs : List ℤ) → is_ascending (v ∷ vs) ≡ true → is_ascending vs ≡ true
ascending_rest v [] e = refl
ascending_rest v (w ∷ vs) e = (and_parts (int_lt v w) (is_ascending (w ∷ vs)) e).1

greater_first : (v w : ℤ) (t : List ℤ) (us : List (List ℤ)) → v <ℤ w → AllAfter (v ∷ t) (map (λ u. w ∷ u) us)
greater_first v w t [] h = tt
greater_first v w t (u ∷ us) h = (ap (λ o. ordering_then o (order_of t u)) (number_below v w h), greater_first v w t us h)

-- the tuples that begin with one of the values
abbrev begun : List (List ℤ) → List ℤ → List (List ℤ)
begun ts d = flat_map (λ v. map (λ t. v ∷ t) ts) d

after_begun : (v : ℤ) (t : List ℤ) (ts : List (List ℤ)) (d : List ℤ) → AllAbove v d → AllAfter (v ∷ t) (begun ts d)
after_begun v t ts [] h = tt
after_begun v t ts (w ∷ d) h = after_both (v ∷ t) (map (λ u. w ∷ u) ts) (begun ts d) (greater_first v w t ts h.0) (after_begun v t ts d h.1)

each_after : (v : ℤ) (ts us : List (List ℤ)) (d : List ℤ) → AllAbove v d → (u : List ℤ) → Among u (map (λ t. v ∷ t) us) → AllAfter u (begun ts d)
each_after v ts [] d h u m = absurd m
each_after v ts (t ∷ us) d h u m =
    elim m [ inl e ↦ subst (λ x. AllAfter x (begun ts d)) (sym e) (after_begun v t ts d h) | inr k ↦ each_after v ts us d h u k ]

begun_ascends : (ts : List (List ℤ)) (d : List ℤ) → Ascends ts → is_ascending d ≡ true → Ascends (begun ts d)
begun_ascends ts [] h e = tt
begun_ascends ts (v ∷ d) h e =
    ascends_both (map (λ t. v ∷ t) ts) (begun ts d) (ascends_first v ts h) (begun_ascends ts d h (ascending_rest v d e)) (each_after v ts ts d (above_first v d e))

abbrev EachAscends : List (List ℤ) → Type 0
EachAscends [] = ⊤
EachAscends (d ∷ ds) = (is_ascending d ≡ true) × EachAscends ds

tuples_ascend : (ds : List (List ℤ)) → EachAscends ds → Ascends (tuples ds)
tuples_ascend [] h = (tt, tt)
tuples_ascend (d ∷ ds) h = begun_ascends (tuples ds) d (tuples_ascend ds h.1) h.0

after_filter : (p : List ℤ → Bool) (t : List ℤ) (us : List (List ℤ)) → AllAfter t us → AllAfter t (filter p us)
after_filter p t [] h = tt
after_filter p t (u ∷ us) h = by (p u) (after_filter p t us h.1)
  where
    by : (b : Bool) → AllAfter t (filter p us) → AllAfter t (cond b (u ∷ filter p us) (filter p us))
    by true k = (h.0, k)
    by false k = k

ascends_filter : (p : List ℤ → Bool) (ts : List (List ℤ)) → Ascends ts → Ascends (filter p ts)
ascends_filter p [] h = tt
ascends_filter p (t ∷ ts) h = by (p t) (ascends_filter p ts h.1)
  where
    by : (b : Bool) → Ascends (filter p ts) → Ascends (cond b (t ∷ filter p ts) (filter p ts))
    by true k = (after_filter p t ts h.0, k)
    by false k = k

each_take : (n : ℕ) (ds : List (List ℤ)) → EachAscends ds → EachAscends (take n ds)
each_take zero ds h = tt
each_take (suc n) [] h = tt
each_take (suc n) (d ∷ ds) h = (h.0, each_take n ds h.1)

each_drop : (n : ℕ) (ds : List (List ℤ)) → EachAscends ds → EachAscends (drop n ds)
each_drop zero ds h = h
each_drop (suc n) [] h = tt
each_drop (suc n) (d ∷ ds) h = each_drop n ds h.1

domains_ascend : (xs : List Variable) → list_all (λ x. is_domain x.domain) xs ≡ true → EachAscends (map (λ x. domain_values x.domain) xs)
domains_ascend [] e = tt
domains_ascend (x ∷ xs) e =
    let p = and_parts (is_domain x.domain) (list_all (λ x. is_domain x.domain) xs) e in
    (domain_ascends x.domain p.0, domains_ascend xs p.1)

pub moves_ascend : (g : Game) (i : ℕ) (a : List ℤ) → IsValid g → Ascends (moves g i a)
moves_ascend g i a v =
    let ds = declared_box g in
    ascends_filter (λ t. allows g i (a ++ t)) (tuples (scope_domains g i))
    (tuples_ascend (scope_domains g i) (each_drop (before g i) (take (before g (suc i)) ds) (each_take (before g (suc i)) ds (domains_ascend g.variables v.domains))))
