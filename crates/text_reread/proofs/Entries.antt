-- The names that the parts of a problem declare, and what looking them up gives.
use Rattle.std.proofs.Common.{◌≡◌, ◌∙◌, sym, ap, subst, refl, ◌+◌, ℕ, zero, suc, Bool, true, false, not, cond, List, [], ◌∷◌, ◌++◌, map, filter_map, find, slice_get, Option, Some, None, arith}
use Rattle.std.specs.List.{list_any, AllByRecursion}
use Rattle.std.specs.Option.{option_map}
use Rattle.std.specs.Str.{bytes_eq}
use Rattle.std.proofs.lemmas.Slice.Eq.{bytes_eq-Decides}
use Rattle.std.proofs.lemmas.Bool.{and_parts, and_from, or_parts, or_from, not-true, cond-true, cond-false, false_from_ne_true}
use Rattle.std.proofs.lemmas.Option.{same_Some}
use Rattle.qc_model.specs.declared.problem.Variable.{Variable}
use Rattle.qc_model.specs.declared.problem.Aggregate.{Aggregate as ModelAggregate}
use Rattle.qc_model.specs.Names.{names_differ}
use Rattle.text_resolve.specs.declared.names.Named.TheVariants.{Aggregate}
use Rattle.text_resolve.specs.declared.names.Meant.{Meant}
use Rattle.text_resolve.specs.Names.{Declared, look_up, first_repeated}
use Rattle.text_reread.specs.Parts.{Part, head, variable, aggregate, constraint, goal}
use Rattle.text_reread.proofs.PartLists.{part_variable, part_aggregate}
use Rattle.text_reread.proofs.Targets.{domain_named}

-- a name, and what it stands for
pub record Entry : Type 0 where
  pub name : List ℕ
  pub meant : Meant

abbrev pub entry_of : Declared → Entry
entry_of d = record { name = d.name; meant = d.meant }

abbrev pub variable_entry : Variable → ℕ → Entry
variable_entry x k = record { name = x.name; meant = record { named = domain_named x.domain k; scope = x.scope.0 } }

abbrev pub aggregate_entry : ModelAggregate → ℕ → Entry
aggregate_entry q k = record { name = q.name; meant = record { named = Aggregate k; scope = q.scope.0 } }

-- what these parts declare, after so many variables and aggregates
abbrev pub entries : ℕ → ℕ → List Part → List Entry
entries xs qs [] = []
entries xs qs (head s ∷ ps) = entries xs qs ps
entries xs qs (variable x ∷ ps) = variable_entry x xs ∷ entries (suc xs) qs ps
entries xs qs (aggregate q ∷ ps) = aggregate_entry q qs ∷ entries xs (suc qs) ps
entries xs qs (constraint c ∷ ps) = entries xs qs ps
entries xs qs (goal ∷ ps) = entries xs qs ps

abbrev pub look_entry : List Entry → List ℕ → Option Meant
look_entry es name = option_map (λ e. e.meant) (find (λ e. bytes_eq e.name name) es)

-- a look-up goes by the names alone
pub look_same : (ds : List Declared) (name : List ℕ) → look_up ds name ≡ look_entry (map entry_of ds) name
look_same [] name = refl
look_same (d ∷ ds) name = go (bytes_eq d.name name) (look_same ds name)
  where
    go : (b : Bool) → look_up ds name ≡ look_entry (map entry_of ds) name →
        option_map (λ (e : Declared). e.meant) (cond b (Some d) (find (λ (e : Declared). bytes_eq e.name name) ds)) ≡
        option_map (λ (e : Entry). e.meant) (cond b (Some (entry_of d)) (find (λ (e : Entry). bytes_eq e.name name) (map entry_of ds)))
    go true later = refl
    go false later = later

-- two names differ either way round
pub apart_back : (a b : List ℕ) → bytes_eq a b ≡ false → bytes_eq b a ≡ false
apart_back a b h = false_from_ne_true (bytes_eq b a) (λ e. both_ways ((bytes_eq-Decides a b).1 (sym ((bytes_eq-Decides b a).0 e))))
  where
    both_ways : bytes_eq a b ≡ true → ⊥
    both_ways e = cc

-- an entry is found, where the names differ
find_entry : (es : List Entry) (k : ℕ) (e : Entry) → names_differ (map (λ z. z.name) es) ≡ true → slice_get es k ≡ Some e → look_entry es e.name ≡ Some e.meant
find_entry [] k e d h = absurd cc
find_entry (x ∷ es) zero e d h =
    let same = same_Some x e h in
    let b : bytes_eq x.name e.name ≡ true = (bytes_eq-Decides x.name e.name).1 (ap (λ z. z.name) same) in
    ap (λ o. option_map (λ (z : Entry). z.meant) o) (cond-true (bytes_eq x.name e.name) (Some x) (find (λ (z : Entry). bytes_eq z.name e.name) es) b) ∙ ap (λ z. Some z.meant) same
find_entry (x ∷ es) (suc k) e d h =
    let t = and_parts (not (list_any (bytes_eq x.name) (map (λ (z : Entry). z.name) es))) (names_differ (map (λ (z : Entry). z.name) es)) d in
    let b = other es k (not-true _ t.0) h in
    ap (λ o. option_map (λ (z : Entry). z.meant) o) (cond-false (bytes_eq x.name e.name) (Some x) (find (λ (z : Entry). bytes_eq z.name e.name) es) b) ∙ find_entry es k e t.1 h
  where
    other : (es : List Entry) (k : ℕ) → list_any (bytes_eq x.name) (map (λ (z : Entry). z.name) es) ≡ false → slice_get es k ≡ Some e → bytes_eq x.name e.name ≡ false
    other [] k n h = absurd cc
    other (y ∷ es) zero n h = ap (λ z. bytes_eq x.name z.name) (sym (same_Some y e h)) ∙ (or_parts (bytes_eq x.name y.name) (list_any (bytes_eq x.name) (map (λ (z : Entry). z.name) es)) n).0
    other (y ∷ es) (suc k) n h = other es k (or_parts (bytes_eq x.name y.name) (list_any (bytes_eq x.name) (map (λ (z : Entry). z.name) es)) n).1 h

-- the place of an entry
record Place (es : List Entry) (e : Entry) : Type 0 where
  place : ℕ
  found : slice_get es place ≡ Some e

next_place : (d : Entry) (es : List Entry) (e : Entry) → Place es e → Place (d ∷ es) e
next_place d es e p = record { place = suc p.place; found = p.found }

from_here : (b : ℕ) → b ≡ b + 0
from_here b = omega arith

from_next : (b k : ℕ) → suc b + k ≡ b + suc k
from_next b k = omega arith

-- a variable has its entry, with its number, and so has an aggregate
variable_place : (ps : List Part) (xs qs k : ℕ) (x : Variable) → slice_get (filter_map part_variable ps) k ≡ Some x → Place (entries xs qs ps) (variable_entry x (xs + k))
variable_place [] xs qs k x h = absurd cc
variable_place (head s ∷ ps) xs qs k x h = variable_place ps xs qs k x h
variable_place (variable y ∷ ps) xs qs zero x h =
    record { place = zero; found = ap (λ z. Some (variable_entry z xs)) (same_Some y x h) ∙ ap (λ m. Some (variable_entry x m)) (from_here xs) }
variable_place (variable y ∷ ps) xs qs (suc k) x h =
    subst (λ m. Place (variable_entry y xs ∷ entries (suc xs) qs ps) (variable_entry x m)) (from_next xs k) (next_place (variable_entry y xs) (entries (suc xs) qs ps) (variable_entry x (suc xs + k)) (variable_place ps (suc xs) qs k x h))
variable_place (aggregate q ∷ ps) xs qs k x h = next_place (aggregate_entry q qs) (entries xs (suc qs) ps) (variable_entry x (xs + k)) (variable_place ps xs (suc qs) k x h)
variable_place (constraint c ∷ ps) xs qs k x h = variable_place ps xs qs k x h
variable_place (goal ∷ ps) xs qs k x h = variable_place ps xs qs k x h

aggregate_place : (ps : List Part) (xs qs k : ℕ) (q : ModelAggregate) → slice_get (filter_map part_aggregate ps) k ≡ Some q → Place (entries xs qs ps) (aggregate_entry q (qs + k))
aggregate_place [] xs qs k q h = absurd cc
aggregate_place (head s ∷ ps) xs qs k q h = aggregate_place ps xs qs k q h
aggregate_place (variable y ∷ ps) xs qs k q h = next_place (variable_entry y xs) (entries (suc xs) qs ps) (aggregate_entry q (qs + k)) (aggregate_place ps (suc xs) qs k q h)
aggregate_place (aggregate y ∷ ps) xs qs zero q h =
    record { place = zero; found = ap (λ z. Some (aggregate_entry z qs)) (same_Some y q h) ∙ ap (λ m. Some (aggregate_entry q m)) (from_here qs) }
aggregate_place (aggregate y ∷ ps) xs qs (suc k) q h =
    subst (λ m. Place (aggregate_entry y qs ∷ entries xs (suc qs) ps) (aggregate_entry q m)) (from_next qs k) (next_place (aggregate_entry y qs) (entries xs (suc qs) ps) (aggregate_entry q (suc qs + k)) (aggregate_place ps xs (suc qs) k q h))
aggregate_place (constraint c ∷ ps) xs qs k q h = aggregate_place ps xs qs k q h
aggregate_place (goal ∷ ps) xs qs k q h = aggregate_place ps xs qs k q h

-- the names of the variables, and then those of the aggregates
abbrev pub part_names : List Part → List (List ℕ)
part_names ps = map (λ x. x.name) (filter_map part_variable ps) ++ map (λ q. q.name) (filter_map part_aggregate ps)

-- none of a list passes, and so neither does one of them, nor any of the others
none_between : (p : List ℕ → Bool) (w : List ℕ) (ns ms : List (List ℕ)) → list_any p (ns ++ w ∷ ms) ≡ false → (p w ≡ false) × (list_any p (ns ++ ms) ≡ false)
none_between p w [] ms h = or_parts (p w) (list_any p ms) h
none_between p w (n ∷ ns) ms h =
    let t = or_parts (p n) (list_any p (ns ++ w ∷ ms)) h in
    let u = none_between p w ns ms t.1 in
    (u.0, or_from (p n) (list_any p (ns ++ ms)) t.0 u.1)

-- a name among others differs from them, and these from each other
differ_between : (w : List ℕ) (ns ms : List (List ℕ)) → names_differ (ns ++ w ∷ ms) ≡ true → (list_any (bytes_eq w) (ns ++ ms) ≡ false) × (names_differ (ns ++ ms) ≡ true)
differ_between w [] ms h = let t = and_parts (not (list_any (bytes_eq w) ms)) (names_differ ms) h in (not-true _ t.0, t.1)
differ_between w (n ∷ ns) ms h =
    let t = and_parts (not (list_any (bytes_eq n) (ns ++ w ∷ ms))) (names_differ (ns ++ w ∷ ms)) h in
    let u = differ_between w ns ms t.1 in
    let k = none_between (bytes_eq n) w ns ms (not-true _ t.0) in
    (or_from (bytes_eq w n) (list_any (bytes_eq w) (ns ++ ms)) (apart_back n w k.0) u.0, and_from (not (list_any (bytes_eq n) (ns ++ ms))) (names_differ (ns ++ ms)) (ap not k.1) u.1)

-- none of the names passes in the order of the parts either
none_mixed : (p : List ℕ → Bool) (ps : List Part) (xs qs : ℕ) → list_any p (part_names ps) ≡ false → list_any p (map (λ e. e.name) (entries xs qs ps)) ≡ false
none_mixed p [] xs qs h = refl
none_mixed p (head s ∷ ps) xs qs h = none_mixed p ps xs qs h
none_mixed p (variable x ∷ ps) xs qs h =
    let t = or_parts (p x.name) (list_any p (part_names ps)) h in
    or_from (p x.name) (list_any p (map (λ (e : Entry). e.name) (entries (suc xs) qs ps))) t.0 (none_mixed p ps (suc xs) qs t.1)
none_mixed p (aggregate q ∷ ps) xs qs h =
    let t = none_between p q.name (map (λ (x : Variable). x.name) (filter_map part_variable ps)) (map (λ (a : ModelAggregate). a.name) (filter_map part_aggregate ps)) h in
    or_from (p q.name) (list_any p (map (λ (e : Entry). e.name) (entries xs (suc qs) ps))) t.0 (none_mixed p ps xs (suc qs) t.1)
none_mixed p (constraint c ∷ ps) xs qs h = none_mixed p ps xs qs h
none_mixed p (goal ∷ ps) xs qs h = none_mixed p ps xs qs h

-- the names differ in the order of the parts too
pub differ_mixed : (ps : List Part) (xs qs : ℕ) → names_differ (part_names ps) ≡ true → names_differ (map (λ e. e.name) (entries xs qs ps)) ≡ true
differ_mixed [] xs qs h = refl
differ_mixed (head s ∷ ps) xs qs h = differ_mixed ps xs qs h
differ_mixed (variable x ∷ ps) xs qs h =
    let t = and_parts (not (list_any (bytes_eq x.name) (part_names ps))) (names_differ (part_names ps)) h in
    and_from (not (list_any (bytes_eq x.name) (map (λ (e : Entry). e.name) (entries (suc xs) qs ps)))) (names_differ (map (λ (e : Entry). e.name) (entries (suc xs) qs ps)))
    (ap not (none_mixed (bytes_eq x.name) ps (suc xs) qs (not-true _ t.0))) (differ_mixed ps (suc xs) qs t.1)
differ_mixed (aggregate q ∷ ps) xs qs h =
    let t = differ_between q.name (map (λ (x : Variable). x.name) (filter_map part_variable ps)) (map (λ (a : ModelAggregate). a.name) (filter_map part_aggregate ps)) h in
    and_from (not (list_any (bytes_eq q.name) (map (λ (e : Entry). e.name) (entries xs (suc qs) ps)))) (names_differ (map (λ (e : Entry). e.name) (entries xs (suc qs) ps)))
    (ap not (none_mixed (bytes_eq q.name) ps xs (suc qs) t.0)) (differ_mixed ps xs (suc qs) t.1)
differ_mixed (constraint c ∷ ps) xs qs h = differ_mixed ps xs qs h
differ_mixed (goal ∷ ps) xs qs h = differ_mixed ps xs qs h

module _ (ps : List Part) (d : names_differ (part_names ps) ≡ true) where
  -- the name of a variable stands for that variable, by its number
  pub variable_found : (k : ℕ) (x : Variable) → slice_get (filter_map part_variable ps) k ≡ Some x → look_entry (entries 0 0 ps) x.name ≡ Some (record { named = domain_named x.domain k; scope = x.scope.0 })
  variable_found k x h =
      let p = variable_place ps 0 0 k x h in
      let e : 0 + k ≡ k = omega arith in
      find_entry (entries 0 0 ps) p.place (variable_entry x (0 + k)) (differ_mixed ps 0 0 d) p.found ∙ ap (λ m. Some (record { named = domain_named x.domain m; scope = x.scope.0 })) e

  -- and the name of an aggregate for that aggregate
  pub aggregate_found : (k : ℕ) (q : ModelAggregate) → slice_get (filter_map part_aggregate ps) k ≡ Some q → look_entry (entries 0 0 ps) q.name ≡ Some (record { named = Aggregate k; scope = q.scope.0 })
  aggregate_found k q h =
      let p = aggregate_place ps 0 0 k q h in
      let e : 0 + k ≡ k = omega arith in
      find_entry (entries 0 0 ps) p.place (aggregate_entry q (0 + k)) (differ_mixed ps 0 0 d) p.found ∙ ap (λ m. Some (record { named = Aggregate m; scope = q.scope.0 })) e

-- no name stands twice
none_again : (before : List (List ℕ)) (ds : List Declared) → names_differ (map (λ e. e.name) (map entry_of ds)) ≡ true → AllByRecursion (λ d. list_any (bytes_eq d.name) before ≡ false) ds → first_repeated before ds ≡ None
none_again before [] d n = refl
none_again before (x ∷ ds) d n =
    let t = and_parts (not (list_any (bytes_eq x.name) (map (λ (e : Entry). e.name) (map entry_of ds)))) (names_differ (map (λ (e : Entry). e.name) (map entry_of ds))) d in
    cond-false (list_any (bytes_eq x.name) before) (Some x.at) (first_repeated (x.name ∷ before) ds) n.0 ∙ none_again (x.name ∷ before) ds t.1 (more ds (not-true _ t.0) n.1)
  where
    more : (ds : List Declared) → list_any (bytes_eq x.name) (map (λ (e : Entry). e.name) (map entry_of ds)) ≡ false → AllByRecursion (λ (d : Declared). list_any (bytes_eq d.name) before ≡ false) ds →
        AllByRecursion (λ (d : Declared). list_any (bytes_eq d.name) (x.name ∷ before) ≡ false) ds
    more [] h n = tt
    more (y ∷ ds) h n =
        let t = or_parts (bytes_eq x.name y.name) (list_any (bytes_eq x.name) (map (λ (e : Entry). e.name) (map entry_of ds))) h in
        (or_from (bytes_eq y.name x.name) (list_any (bytes_eq y.name) before) (apart_back x.name y.name t.0) n.0, more ds t.1 n.1)

all_new : (ds : List Declared) → AllByRecursion (λ d. list_any (bytes_eq d.name) [] ≡ false) ds
all_new [] = tt
all_new (d ∷ ds) = (refl, all_new ds)

pub none_repeated : (ds : List Declared) → names_differ (map (λ e. e.name) (map entry_of ds)) ≡ true → first_repeated [] ds ≡ None
none_repeated ds d = none_again [] ds d (all_new ds)
