-- Which bounds are beaten, and how what beats them goes on.
use Rattle.std.proofs.Common.{◌≡◌, ◌∙◌, refl, sym, ap, subst, arith, Bool, true, false, not, ◌&&◌, ◌||◌, cond, List, [], ◌∷◌, ◌++◌, map, ℤ, Option, None, Some}
use Rattle.std.specs.Prelude.{int_lt}
use Rattle.std.specs.Ordering.{int_eq}
use Rattle.std.specs.List.{list_all, list_any}
use Rattle.std.proofs.lemmas.Int.{ints}
use Rattle.std.proofs.lemmas.Bool.Decides.{Decides-int_eq}
use Rattle.std.proofs.lemmas.Bool.{and_from, and_parts}
use Rattle.qc_model.specs.declared.problem.Sense.{Sense}
use Rattle.qc_model.specs.declared.problem.Sense.TheVariants.{Min, Max}
use Rattle.qc_model.specs.declared.problem.Condition.{Condition}
use Rattle.qc_model.specs.ExistsVerdict.{best_vector, best_number_from, beats}
use Rattle.qc_model.specs.Optimal.{is_better}
use Rattle.qc_model.specs.Verdict.{lost, exact, at_most, unknown, Seen, seen_barred, seen_skipped, seen_bound, seen_node, exact_vectors, first_value, is_none_of}
use Rattle.joins.specs.Bests.{AllLong}
use Rattle.joins.proofs.ExistsVerdicts.{first_of_best}
use Rattle.joins.specs.Sizes.{EachHas}
use Rattle.proof_tree.specs.Incumbents.{has_no_worse}
use Rattle.proof_tree.specs.Place.{Tracked}
use Rattle.qc_model.specs.Domains.{Box, Values, values_left}
use Rattle.search_parts.specs.Beaten.{is_beaten, are_beaten, AreAmong}

-- ---- tests that hold of each number of and_from lists
pub all_both : (p : ℤ → Bool) (ns ms : List ℤ) → list_all p ns ≡ true → list_all p ms ≡ true → list_all p (ns ++ ms) ≡ true
all_both p [] ms h k = k
all_both p (n ∷ ns) ms h k = let r = and_parts (p n) (list_all p ns) h in and_from (p n) (list_all p (ns ++ ms)) r.0 (all_both p ns ms r.1 k)

pub all_parts : (p : ℤ → Bool) (ns ms : List ℤ) → list_all p (ns ++ ms) ≡ true → (list_all p ns ≡ true) × (list_all p ms ≡ true)
all_parts p [] ms h = (refl, h)
all_parts p (n ∷ ns) ms h =
    let r = and_parts (p n) (list_all p (ns ++ ms)) h in
    let q = all_parts p ns ms r.1 in
    (and_from (p n) (list_all p ns) r.0 q.0, q.1)

-- ---- numbers among others
pub among_none : (ms : List ℤ) → AreAmong [] ms
among_none ms p h = refl

pub among_self : (ns : List ℤ) → AreAmong ns ns
among_self ns p h = h

pub among_more : (ns ms more : List ℤ) → AreAmong ns ms → AreAmong ns (ms ++ more)
among_more ns ms more a p h = a p (all_parts p ms more h).0

pub among_join : (ns ks ms : List ℤ) → AreAmong ns ms → AreAmong (ns ++ ks) (ms ++ ks)
among_join ns ks ms a p h = let r = all_parts p ms ks h in all_both p ns ks (a p r.0) r.1

pub among_as : (ns ms ks : List ℤ) → ms ≡ ks → AreAmong ns ms → AreAmong ns ks
among_as ns ms ks e a = subst (AreAmong ns) e a

pub among_through : (ns ms ks : List ℤ) → AreAmong ns ms → AreAmong ms ks → AreAmong ns ks
among_through ns ms ks a b p h = a p (b p h)

-- ---- what beats bounds still beats them beside others
none_are : (p : ℤ → Bool) (ns : List ℤ) → list_any p ns ≡ false → list_all (λ n. not (p n)) ns ≡ true
none_are p [] h = refl
none_are p (n ∷ ns) h = by (p n) refl (none_are p ns) h
  where
    by : (b : Bool) → p n ≡ b → (list_any p ns ≡ false → list_all (λ m. not (p m)) ns ≡ true) → (b || list_any p ns) ≡ false → (not (p n) && list_all (λ m. not (p m)) ns) ≡ true
    by true e rest f = cc
    by false e rest f = and_from (not (p n)) (list_all (λ m. not (p m)) ns) (ap not e) (rest f)

are_none : (p : ℤ → Bool) (ns : List ℤ) → list_all (λ n. not (p n)) ns ≡ true → list_any p ns ≡ false
are_none p [] h = refl
are_none p (n ∷ ns) h = let r = and_parts (not (p n)) (list_all (λ m. not (p m)) ns) h in by (p n) r.0 (are_none p ns r.1)
  where
    by : (b : Bool) → not b ≡ true → list_any p ns ≡ false → (b || list_any p ns) ≡ false
    by true q rest = cc
    by false q rest = rest

pub any_among : (p : ℤ → Bool) (ns ms : List ℤ) → AreAmong ns ms → list_any p ns ≡ true → list_any p ms ≡ true
any_among p ns ms a h = by (list_any p ms) refl
  where
    by : (b : Bool) → list_any p ms ≡ b → list_any p ms ≡ true
    by true e = e
    by false e = let f : true ≡ false = sym h ∙ are_none p ns (a (λ n. not (p n)) (none_are p ms e)) in cc

beaten_one : (d : List Condition) (ns ks : List ℤ) (m : ℤ) → AreAmong ns ks → is_beaten d ns m ≡ true → is_beaten d ks m ≡ true
beaten_one [] ns ks m a h = h
beaten_one (c ∷ d) ns ks m a h = any_among (λ n. beats c.sense (is_none_of d) n m) ns ks a h

pub beaten_among : (d : List Condition) (ns ks ms : List ℤ) → AreAmong ns ks → are_beaten d ns ms ≡ true → are_beaten d ks ms ≡ true
beaten_among d ns ks [] a h = refl
beaten_among d ns ks (m ∷ ms) a h =
    let r = and_parts (is_beaten d ns m) (are_beaten d ns ms) h in
    and_from (is_beaten d ks m) (are_beaten d ks ms) (beaten_one d ns ks m a r.0) (beaten_among d ns ks ms a r.1)

-- without a list nothing is beaten, so there is no bound
pub none_beaten : (ns ks ms : List ℤ) → are_beaten [] ns ms ≡ true → are_beaten [] ks ms ≡ true
none_beaten ns ks [] h = refl
none_beaten ns ks (m ∷ ms) h = cc

-- ---- the best number
not_itself : (s : Sense) (n : ℤ) → not (is_better s n n) ≡ true
not_itself Min n = by (int_lt n n) refl
  where
    by : (b : Bool) → int_lt n n ≡ b → not b ≡ true
    by true e = absurd (omega (arith, ints))
    by false e = refl
not_itself Max n = by (int_lt n n) refl
  where
    by : (b : Bool) → int_lt n n ≡ b → not b ≡ true
    by true e = absurd (omega (arith, ints))
    by false e = refl

-- what isn't better than what isn't better than b isn't better than b
pub no_better_through : (s : Sense) (n m b : ℤ) → is_better s n m ≡ false → not (is_better s m b) ≡ true → not (is_better s n b) ≡ true
no_better_through Min n m b e f = by (int_lt n b) refl (int_lt m b) refl f
  where
    by : (u : Bool) → int_lt n b ≡ u → (v : Bool) → int_lt m b ≡ v → not v ≡ true → not u ≡ true
    by false p v q g = refl
    by true p true q g = cc
    by true p false q g = absurd (omega (arith, ints, e, p, q))
no_better_through Max n m b e f = by (int_lt b n) refl (int_lt b m) refl f
  where
    by : (u : Bool) → int_lt b n ≡ u → (v : Bool) → int_lt b m ≡ v → not v ≡ true → not u ≡ true
    by false p v q g = refl
    by true p true q g = cc
    by true p false q g = absurd (omega (arith, ints, e, p, q))

worse_is_not : (s : Sense) (n m : ℤ) → is_better s m n ≡ true → is_better s n m ≡ false
worse_is_not Min n m e = by (int_lt n m) refl
  where
    by : (b : Bool) → int_lt n m ≡ b → b ≡ false
    by true p = absurd (omega (arith, ints, e, p))
    by false p = refl
worse_is_not Max n m e = by (int_lt m n) refl
  where
    by : (b : Bool) → int_lt m n ≡ b → b ≡ false
    by true p = absurd (omega (arith, ints, e, p))
    by false p = refl

pub none_better : (s : Sense) (n : ℤ) (ns : List ℤ) → list_all (λ m. not (is_better s m (best_number_from s n ns))) (n ∷ ns) ≡ true
none_better s n [] = and_from (not (is_better s n n)) true (not_itself s n) refl
none_better s n (m ∷ ns) = by (is_better s m n) refl (none_better s m ns) (none_better s n ns)
  where
    by : (b : Bool) → is_better s m n ≡ b → list_all (λ k. not (is_better s k (best_number_from s m ns))) (m ∷ ns) ≡ true → list_all (λ k. not (is_better s k (best_number_from s n ns))) (n ∷ ns) ≡ true →
        list_all (λ k. not (is_better s k (best_number_from s (cond b m n) ns))) (n ∷ m ∷ ns) ≡ true
    by true e f g =
        let best = best_number_from s m ns in
        let r = and_parts (not (is_better s m best)) (list_all (λ k. not (is_better s k best)) ns) f in
        and_from (not (is_better s n best)) _ (no_better_through s n m best (worse_is_not s n m e) r.0) f
    by false e f g =
        let best = best_number_from s n ns in
        let r = and_parts (not (is_better s n best)) (list_all (λ k. not (is_better s k best)) ns) g in
        and_from (not (is_better s n best)) _ r.0 (and_from (not (is_better s m best)) _ (no_better_through s m n best e r.0) r.1)

pub best_is_one : (p : ℤ → Bool) (s : Sense) (n : ℤ) (ns : List ℤ) → p (best_number_from s n ns) ≡ true → list_any p (n ∷ ns) ≡ true
best_is_one p s n [] h = ap (λ b. b || false) h
best_is_one p s n (m ∷ ns) h = by (is_better s m n) (best_is_one p s m ns) (best_is_one p s n ns) h
  where
    first_or : (a b c : Bool) → (a || c) ≡ true → (a || (b || c)) ≡ true
    first_or true b c e = refl
    first_or false true c e = refl
    first_or false false c e = e

    second_or : (a b c : Bool) → (b || c) ≡ true → (a || (b || c)) ≡ true
    second_or true b c e = refl
    second_or false b c e = e

    by : (b : Bool) → (p (best_number_from s m ns) ≡ true → (p m || list_any p ns) ≡ true) → (p (best_number_from s n ns) ≡ true → (p n || list_any p ns) ≡ true) → p (best_number_from s (cond b m n) ns) ≡ true → (p n || (p m || list_any p ns)) ≡ true
    by true one other e = second_or (p n) (p m) (list_any p ns) (one e)
    by false one other e = first_or (p n) (p m) (list_any p ns) (other e)

-- ---- the first value of the best vector
pub each_long : (d : List Condition) (xs : List Seen) → EachHas d xs → AllLong d (exact_vectors xs)
each_long d [] h = tt
each_long d (seen_barred ∷ xs) h = each_long d xs h
each_long d (seen_skipped ∷ xs) h = each_long d xs h
each_long d (seen_bound m ∷ xs) h = each_long d xs h
each_long d (seen_node lost ∷ xs) h = each_long d xs h.1
each_long d (seen_node (exact v) ∷ xs) h = (h.0, each_long d xs h.1)
each_long d (seen_node (at_most p) ∷ xs) h = each_long d xs h.1
each_long d (seen_node unknown ∷ xs) h = each_long d xs h.1

-- no exact leaf has a better first value
pub none_beats_first : (c : Condition) (d : List Condition) (vs : List (List ℤ)) → AllLong (c ∷ d) vs → list_all (λ n. not (is_better c.sense n (first_value (best_vector (c ∷ d) vs)))) (map first_value vs) ≡ true
none_beats_first c d [] l = refl
none_beats_first c d (v ∷ vs) l =
    subst (λ b. list_all (λ n. not (is_better c.sense n b)) (first_value v ∷ map first_value vs) ≡ true) (sym (first_of_best c d v vs l.0 l.1)) (none_better c.sense (first_value v) (map first_value vs))

-- it is that of some exact leaf
pub first_is_one : (p : ℤ → Bool) (c : Condition) (d : List Condition) (vs : List (List ℤ)) → AllLong (c ∷ d) vs → is_none_of vs ≡ false → p (first_value (best_vector (c ∷ d) vs)) ≡ true → list_any p (map first_value vs) ≡ true
first_is_one p c d [] l e h = cc
first_is_one p c d (v ∷ vs) l e h = best_is_one p c.sense (first_value v) (map first_value vs) (subst (λ b. p b ≡ true) (first_of_best c d v vs l.0 l.1) h)

-- what beats a bound isn't better than b: so b beats it
beats_as_well : (s : Sense) (a : Bool) (n b m : ℤ) → not (is_better s n b) ≡ true → beats s a n m ≡ true → beats s a b m ≡ true
beats_as_well Min a n b m e f = by (int_lt n b) (int_lt n m) (int_eq n m) (int_lt b m) (int_eq b m) a refl refl refl refl refl e f
  where
    by : (nb nm em bm eb a : Bool) → int_lt n b ≡ nb → int_lt n m ≡ nm → int_eq n m ≡ em → int_lt b m ≡ bm → int_eq b m ≡ eb → not nb ≡ true → (nm || (a && em)) ≡ true → (bm || (a && eb)) ≡ true
    by true nm em bm eb a p q r s t g h = cc
    by false nm em true eb a p q r s t g h = refl
    by false true em false eb a p q r s t g h = absurd (omega (arith, ints, p, q, s))
    by false false true false eb true p q r s t g h = let k = (Decides-int_eq n m).0 r in let j : b ≡ m = omega (arith, ints, p, q, s, k) in sym t ∙ (Decides-int_eq b m).1 j
    by false false true false eb false p q r s t g h = cc
    by false false false false eb true p q r s t g h = cc
    by false false false false eb false p q r s t g h = cc
beats_as_well Max a n b m e f = by (int_lt b n) (int_lt m n) (int_eq n m) (int_lt m b) (int_eq b m) a refl refl refl refl refl e f
  where
    by : (nb nm em bm eb a : Bool) → int_lt b n ≡ nb → int_lt m n ≡ nm → int_eq n m ≡ em → int_lt m b ≡ bm → int_eq b m ≡ eb → not nb ≡ true → (nm || (a && em)) ≡ true → (bm || (a && eb)) ≡ true
    by true nm em bm eb a p q r s t g h = cc
    by false nm em true eb a p q r s t g h = refl
    by false true em false eb a p q r s t g h = absurd (omega (arith, ints, p, q, s))
    by false false true false eb true p q r s t g h = let k = (Decides-int_eq n m).0 r in let j : b ≡ m = omega (arith, ints, p, q, s, k) in sym t ∙ (Decides-int_eq b m).1 j
    by false false true false eb false p q r s t g h = cc
    by false false false false eb true p q r s t g h = cc
    by false false false false eb false p q r s t g h = cc

one_beats : (s : Sense) (a : Bool) (b m : ℤ) (ns : List ℤ) → list_all (λ n. not (is_better s n b)) ns ≡ true → list_any (λ n. beats s a n m) ns ≡ true → beats s a b m ≡ true
one_beats s a b m [] h k = cc
one_beats s a b m (n ∷ ns) h k =
    let r = and_parts (not (is_better s n b)) (list_all (λ n. not (is_better s n b)) ns) h in
    by (beats s a n m) refl k r.0 (one_beats s a b m ns r.1)
  where
    by : (t : Bool) → beats s a n m ≡ t → (t || list_any (λ n. beats s a n m) ns) ≡ true → not (is_better s n b) ≡ true → (list_any (λ n. beats s a n m) ns ≡ true → beats s a b m ≡ true) → beats s a b m ≡ true
    by true e f g o = beats_as_well s a n b m g e
    by false e f g o = o f

-- the first value of the best vector beats each bound that is beaten
pub best_beats : (c : Condition) (d : List Condition) (vs : List (List ℤ)) (ms : List ℤ) → AllLong (c ∷ d) vs → are_beaten (c ∷ d) (map first_value vs) ms ≡ true →
    list_all (beats c.sense (is_none_of d) (first_value (best_vector (c ∷ d) vs))) ms ≡ true
best_beats c d vs [] l h = refl
best_beats c d vs (m ∷ ms) l h =
    let r = and_parts (is_beaten (c ∷ d) (map first_value vs) m) (are_beaten (c ∷ d) (map first_value vs) ms) h in
    and_from (beats c.sense (is_none_of d) (first_value (best_vector (c ∷ d) vs)) m) _
    (one_beats c.sense (is_none_of d) (first_value (best_vector (c ∷ d) vs)) m (map first_value vs) (none_beats_first c d vs l) r.0) (best_beats c d vs ms l r.1)

-- a bound that is beaten is so by an exact leaf
pub some_beats : (d : List Condition) (vs : List (List ℤ)) (ms : List ℤ) → are_beaten d (map first_value vs) ms ≡ true → is_none_of ms ≡ false → is_none_of vs ≡ false
some_beats d vs [] h e = cc
some_beats [] vs (m ∷ ms) h e = cc
some_beats (c ∷ d) [] (m ∷ ms) h e = cc
some_beats (c ∷ d) (v ∷ vs) (m ∷ ms) h e = refl

-- ---- values that are no worse than the incumbents
pub no_worse_among : (t : Option Tracked) (ns reached : List ℤ) (box : Box) → AreAmong reached ns → has_no_worse t ns box ≡ true → has_no_worse t reached box ≡ true
no_worse_among None ns reached box a h = refl
no_worse_among (Some t) ns reached box a h = each (values_left box t.variable) h
  where
    each : (vs : Values) → list_all (λ v. list_all (λ n. not (is_better t.sense n v)) ns) vs ≡ true → list_all (λ v. list_all (λ n. not (is_better t.sense n v)) reached) vs ≡ true
    each [] h = refl
    each (v ∷ vs) h =
        let r = and_parts (list_all (λ n. not (is_better t.sense n v)) ns) _ h in
        and_from (list_all (λ n. not (is_better t.sense n v)) reached) _ (a (λ n. not (is_better t.sense n v)) r.0) (each vs r.1)

-- before anything is reached
pub no_worse_yet : (t : Option Tracked) (box : Box) → has_no_worse t [] box ≡ true
no_worse_yet None box = refl
no_worse_yet (Some t) box = each (values_left box t.variable)
  where
    each : (vs : Values) → list_all (λ v. list_all (λ n. not (is_better t.sense n v)) []) vs ≡ true
    each [] = refl
    each (v ∷ vs) = each vs
