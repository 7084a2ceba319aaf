-- The names of variables and aggregates all differ, where no declared name repeats another.
use Rattle.std.proofs.Common.{◌≡◌, ◌∙◌, sym, ap, refl, inl, inr, ℕ, suc, Bool, true, false, not, List, [], ◌∷◌, ◌++◌, map, filter_map, None}
use Rattle.std.specs.List.{list_any}
use Rattle.std.specs.Str.{bytes_eq}
use Rattle.std.proofs.lemmas.Slice.Eq.{bytes_eq-Decides}
use Rattle.std.proofs.lemmas.Bool.{false_from_ne_true, or_from, and_from, and_parts, not-true, or_parts}
use Rattle.qc_model.specs.Names.{names_differ}
use Rattle.qc_model.specs.Lists.{Among}
use Rattle.text_grammar.specs.declared.tree.Item.{Item}
use Rattle.text_grammar.specs.declared.tree.Item.TheVariants.{Exists as ExistsItem, Forall as ForallItem, Goal as GoalItem, Variable, Aggregate as AggregateItem, Constraint as ConstraintItem}
use Rattle.text_resolve.specs.Owned.{Owned, owned_from, word_bytes}
use Rattle.text_resolve.specs.Names.{Declared, declared_from, first_repeated}
use Rattle.text_resolve.specs.Draft.{variable_of, aggregate_of}
use Rattle.text_valid.proofs.Each.{not_met}

-- two names that differ, differ in the other order
apart_back : (a b : List ℕ) → bytes_eq a b ≡ false → bytes_eq b a ≡ false
apart_back a b h = false_from_ne_true (bytes_eq b a) (λ e. both_ways ((bytes_eq-Decides a b).1 (sym ((bytes_eq-Decides b a).0 e))))
  where
    both_ways : bytes_eq a b ≡ true → ⊥
    both_ways e = cc

-- none of the list is this one
none_among : (a b : List ℕ) (ns : List (List ℕ)) → list_any (bytes_eq a) ns ≡ false → Among b ns → bytes_eq b a ≡ false
none_among a b [] h m = absurd m
none_among a b (n ∷ ns) h m =
    let t = or_parts (bytes_eq a n) (list_any (bytes_eq a) ns) h in
    elim m [ inl e ↦ apart_back a b (ap (bytes_eq a) e ∙ t.0) | inr l ↦ none_among a b ns t.1 l ]

none_inserted : (p : List ℕ → Bool) (w : List ℕ) (ns ms : List (List ℕ)) → p w ≡ false → list_any p (ns ++ ms) ≡ false → list_any p (ns ++ w ∷ ms) ≡ false
none_inserted p w [] ms h k = or_from (p w) (list_any p ms) h k
none_inserted p w (n ∷ ns) ms h k = let t = or_parts (p n) (list_any p (ns ++ ms)) k in or_from (p n) (list_any p (ns ++ w ∷ ms)) t.0 (none_inserted p w ns ms h t.1)

-- a new name may stand anywhere
differ_inserted : (w : List ℕ) (ns ms : List (List ℕ)) → list_any (bytes_eq w) (ns ++ ms) ≡ false → names_differ (ns ++ ms) ≡ true → names_differ (ns ++ w ∷ ms) ≡ true
differ_inserted w [] ms h d = and_from (not (list_any (bytes_eq w) ms)) (names_differ ms) (ap not h) d
differ_inserted w (n ∷ ns) ms h d =
    let t = or_parts (bytes_eq w n) (list_any (bytes_eq w) (ns ++ ms)) h in
    let u = and_parts (not (list_any (bytes_eq n) (ns ++ ms))) (names_differ (ns ++ ms)) d in
    and_from (not (list_any (bytes_eq n) (ns ++ w ∷ ms))) (names_differ (ns ++ w ∷ ms))
    (ap not (none_inserted (bytes_eq n) w ns ms (apart_back w n t.0) (not-true _ u.0))) (differ_inserted w ns ms t.1 u.1)

module _ (text : List ℕ) (ds : List Declared) where
  -- the names of the variables, and then of the aggregates
  abbrev pub names_of : List Owned → List (List ℕ)
  names_of os = map (λ x. x.name) (filter_map (variable_of text) os) ++ map (λ q. q.name) (filter_map (aggregate_of text ds) os)

  -- they differ from each other and from those before
  record AreNew (before : List (List ℕ)) (ns : List (List ℕ)) : Type 0 where
    differ : names_differ ns ≡ true
    new : (b : List ℕ) → Among b before → list_any (bytes_eq b) ns ≡ false

  -- names that repeat none of those before differ from them, and from each other
  all_new : (items : List Item) (xs qs n owner : ℕ) (before : List (List ℕ)) → first_repeated before (declared_from text xs qs (owned_from n owner items)) ≡ None →
      AreNew before (names_of (owned_from n owner items))
  all_new [] xs qs n owner before h = record { differ = refl; new = λ b m. refl }
  all_new (ExistsItem at condition ∷ is) xs qs n owner before h = all_new is xs qs (suc n) n before h
  all_new (ForallItem at ∷ is) xs qs n owner before h = all_new is xs qs (suc n) n before h
  all_new (GoalItem ∷ is) xs qs n owner before h = all_new is xs qs n n before h
  all_new (Variable at domain name ∷ is) xs qs n owner before h =
      let w = word_bytes text name in
      let t = not_met (list_any (bytes_eq w) before) name.start (first_repeated (w ∷ before) (declared_from text (suc xs) qs (owned_from n owner is))) h in
      let r = all_new is (suc xs) qs n owner (w ∷ before) t.1 in
      let later = names_of (owned_from n owner is) in
      record {
        differ = and_from (not (list_any (bytes_eq w) later)) (names_differ later) (ap not (r.new w (inl refl))) r.differ;
        new = λ b m. or_from (bytes_eq b w) (list_any (bytes_eq b) later) (none_among w b before t.0 m) (r.new b (inr m));
      }
  all_new (AggregateItem at name fold target ∷ is) xs qs n owner before h =
      let w = word_bytes text name in
      let t = not_met (list_any (bytes_eq w) before) name.start (first_repeated (w ∷ before) (declared_from text xs (suc qs) (owned_from n owner is))) h in
      let r = all_new is xs (suc qs) n owner (w ∷ before) t.1 in
      let vs = map (λ x. x.name) (filter_map (variable_of text) (owned_from n owner is)) in
      let ags = map (λ q. q.name) (filter_map (aggregate_of text ds) (owned_from n owner is)) in
      record {
        differ = differ_inserted w vs ags (r.new w (inl refl)) r.differ;
        new = λ b m. none_inserted (bytes_eq b) w vs ags (none_among w b before t.0 m) (r.new b (inr m));
      }
  all_new (ConstraintItem at name args ∷ is) xs qs n owner before h = all_new is xs qs n owner before h

  -- the names of the problem differ
  pub all_differ : (items : List Item) → first_repeated [] (declared_from text 0 0 (owned_from 0 0 items)) ≡ None → names_differ (names_of (owned_from 0 0 items)) ≡ true
  all_differ items h = (all_new items 0 0 0 0 [] h).differ
