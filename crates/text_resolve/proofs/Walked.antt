-- What is made of the items one by one, each with the scope that it stands in.
use Rattle.std.proofs.Common.{◌≡◌, ◌∙◌, refl, sym, ap, subst, ◌≤◌, ◌<◌, ◌+◌, ℕ, List, [], ◌∷◌, ◌++◌, length, get_or, drop, filter_map, Option, None, Some, arith}
use Rattle.std.specs.List.{cons_option}
use Rattle.std.proofs.lemmas.List.{append-nil, append_assoc, drop_more}
use Rattle.text_grammar.specs.declared.tree.Item.{Item}
use Rattle.text_grammar.specs.declared.tree.Item.TheVariants.{Exists as ExistsItem, Forall as ForallItem, Goal as GoalItem, Variable, Aggregate as AggregateItem, Constraint}
use Rattle.text_resolve.specs.declared.counts.Counts.{Counts}
use Rattle.text_resolve.specs.Owned.{Owned, owned, owned_from}
use Rattle.text_resolve.specs.Counts.{counts_after}
use Rattle.text_resolve.specs.Makeable.{IsMakeable}
use Rattle.text_resolve.proofs.Counted.{scope_count, scopes_few}

abbrev pub at_start : Counts
at_start = record { scopes = 0; owner = 0; variables = 0; aggregates = 0 }

abbrev pub owned_item : Counts → Item → Owned
owned_item c i = record { owner = (counts_after c i).owner; item = i }

-- the rest of the items gives what is still to be made
pub record Walked {A : Type 0} (f : Owned → Option A) (items rest : List Item) (c : Counts) (made : List A) : Type 0 where
  pub within : c.owner ≤ c.scopes
  pub few : c.scopes + scope_count rest ≤ 64
  pub same : made ++ filter_map f (owned_from c.scopes c.owner rest) ≡ filter_map f (owned items)

owned_next : (c : Counts) (i : Item) (is : List Item) → owned_from c.scopes c.owner (i ∷ is) ≡ owned_item c i ∷ owned_from (counts_after c i).scopes (counts_after c i).owner is
owned_next c (ExistsItem at condition) is = refl
owned_next c (ForallItem at) is = refl
owned_next c GoalItem is = refl
owned_next c (Variable at domain name) is = refl
owned_next c (AggregateItem at name fold target) is = refl
owned_next c (Constraint at name args) is = refl

within_next : (c : Counts) (i : Item) → c.owner ≤ c.scopes → (counts_after c i).owner ≤ (counts_after c i).scopes
within_next c (ExistsItem at condition) h = omega arith
within_next c (ForallItem at) h = omega arith
within_next c GoalItem h = omega arith
within_next c (Variable at domain name) h = h
within_next c (AggregateItem at name fold target) h = h
within_next c (Constraint at name args) h = h

few_next : (c : Counts) (i : Item) (is : List Item) → c.scopes + scope_count (i ∷ is) ≤ 64 → (counts_after c i).scopes + scope_count is ≤ 64
few_next c (ExistsItem at condition) is h = omega arith
few_next c (ForallItem at) is h = omega arith
few_next c GoalItem is h = h
few_next c (Variable at domain name) is h = h
few_next c (AggregateItem at name fold target) is h = h
few_next c (Constraint at name args) is h = h

module _ {A : Type 0} (f : Owned → Option A) (items : List Item) where
  pub walk_start : (text : List ℕ) (made : List A) → made ≡ [] → IsMakeable text items → Walked f items items at_start made
  walk_start text made e h = record { within = omega arith; few = scopes_few text items h; same = ap (λ ys. ys ++ filter_map f (owned items)) e }

  pub walk_end : (rest : List Item) (c : Counts) (made : List A) → rest ≡ [] → Walked f items rest c made → made ≡ filter_map f (owned items)
  walk_end rest c made e w =
      let none : filter_map f (owned_from c.scopes c.owner rest) ≡ [] = ap (λ is. filter_map f (owned_from c.scopes c.owner is)) e in
      sym (append-nil made) ∙ ap (λ ys. made ++ ys) (sym none) ∙ w.same

  module _ (n : ℕ) (i : Item) (c : Counts) (made : List A) (lt : n < length items) (e : i ≡ get_or items n i) (w : Walked f items (drop n items) c made) where
    next : drop n items ≡ i ∷ drop (n + 1) items
    next = drop_more items n i lt ∙ ap (λ x. x ∷ drop (n + 1) items) (sym e)

    few_here : (counts_after c i).scopes + scope_count (drop (n + 1) items) ≤ 64
    few_here = few_next c i (drop (n + 1) items) (subst (λ is. c.scopes + scope_count is ≤ 64) next w.few)

    abbrev later : List A
    later = filter_map f (owned_from (counts_after c i).scopes (counts_after c i).owner (drop (n + 1) items))

    here : made ++ cons_option (f (owned_item c i)) later ≡ filter_map f (owned items)
    here = ap (λ os. made ++ filter_map f os) (sym (ap (owned_from c.scopes c.owner) next ∙ owned_next c i (drop (n + 1) items))) ∙ w.same

    more : (y : A) → Some y ≡ f (owned_item c i) → Walked f items (drop (n + 1) items) (counts_after c i) (made ++ y ∷ [])
    more y some = record {
      within = within_next c i w.within;
      few = few_here;
      same = append_assoc made (y ∷ []) later ∙ ap (λ o. made ++ cons_option o later) some ∙ here;
    }

    past : None ≡ f (owned_item c i) → Walked f items (drop (n + 1) items) (counts_after c i) made
    past none = record {
      within = within_next c i w.within;
      few = few_here;
      same = ap (λ o. made ++ cons_option o later) none ∙ here;
    }

    -- the item gives one thing more, or none
    pub walk_more : (d : Counts) (y : A) (made' : List A) → d ≡ counts_after c i → Some y ≡ f (record { owner = d.owner; item = i }) → made' ≡ made ++ y ∷ [] → Walked f items (drop (n + 1) items) d made'
    walk_more d y made' e some longer =
        let here = more y (some ∙ ap (λ (x : Counts). f (record { owner = x.owner; item = i })) e) in
        subst (λ (x : Counts). Walked f items (drop (n + 1) items) x made') (sym e) (subst (λ (ys : List A). Walked f items (drop (n + 1) items) (counts_after c i) ys) (sym longer) here)

    pub walk_past : (d : Counts) (made' : List A) → d ≡ counts_after c i → None ≡ f (record { owner = d.owner; item = i }) → made' ≡ made → Walked f items (drop (n + 1) items) d made'
    walk_past d made' e none same =
        let here = past (none ∙ ap (λ (x : Counts). f (record { owner = x.owner; item = i })) e) in
        subst (λ (x : Counts). Walked f items (drop (n + 1) items) x made') (sym e) (subst (λ (ys : List A). Walked f items (drop (n + 1) items) (counts_after c i) ys) (sym same) here)
