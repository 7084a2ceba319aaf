-- Items that say what the parts of a valid problem are make that problem.
use Rattle.std.proofs.Common.{◌≡◌, ◌∙◌, sym, ap, subst, refl, ℕ, List, [], ◌∷◌, filter_map, Option}
use Rattle.std.specs.List.{cons_option, AllByRecursion}
use Rattle.qc_model.specs.declared.problem.Scope.{Scope}
use Rattle.qc_model.specs.declared.problem.Variable.{Variable}
use Rattle.qc_model.specs.declared.problem.Aggregate.{Aggregate}
use Rattle.qc_model.specs.Content.{Game, Rule}
use Rattle.qc_model.specs.Valid.{IsValid}
use Rattle.text_grammar.specs.declared.tree.Item.{Item}
use Rattle.text_resolve.specs.Owned.{Owned, heads_after, owner_of, owned_from, owned}
use Rattle.text_resolve.specs.Names.{declared}
use Rattle.text_resolve.specs.Draft.{scope_of, variable_of, aggregate_of, constraint_of, game_of}
use Rattle.text_reread.specs.Parts.{Part, parts_of}
use Rattle.text_reread.specs.Stands.{Along, Stands, AllStand}
use Rattle.text_reread.proofs.PartLists.{part_scope, part_variable, part_aggregate, part_constraint}
use Rattle.text_reread.proofs.Good.{heads_with, IsGoodPart, AreGood, all_good}
use Rattle.text_reread.proofs.Declares.{same_owner, scopes_are, variables_are, aggregates_are, constraints_are, looks}
use Rattle.text_reread.proofs.ReadItems.{IsRead, item_read}

module _ {A B Y : Type 0} (R : A → B → Type 0) (f : B → Option Y) (h : A → Option Y) (each : (a : A) (b : B) → R a b → f b ≡ h a) where
  -- what the elements of the second list make is what those of the first do
  made_along : (ps : List A) (os : List B) → Along R ps os → filter_map f os ≡ filter_map h ps
  made_along [] [] r = refl
  made_along (p ∷ ps) (o ∷ os) r = ap (λ z. cons_option z (filter_map f os)) (each p o r.0) ∙ ap (λ zs. cons_option (h p) zs) (made_along ps os r.1)
  made_along [] (o ∷ os) r = absurd r
  made_along (p ∷ ps) [] r = absurd r

-- what follows for each element of the second list holds of all of them
pub each_along : {A B : Type 0} (R : A → B → Type 0) (P : B → Type 0) → ((a : A) (b : B) → R a b → P b) → (ps : List A) (os : List B) → Along R ps os → AllByRecursion P os
each_along R P each [] [] r = tt
each_along R P each (p ∷ ps) (o ∷ os) r = (each p o r.0, each_along R P each ps os r.1)
each_along R P each [] (o ∷ os) r = absurd r
each_along R P each (p ∷ ps) [] r = absurd r

-- what holds of each item in its scope holds of each item
pub each_item : (P : Item → Type 0) (n owner : ℕ) (is : List Item) → AllByRecursion (λ o. P o.item) (owned_from n owner is) → AllByRecursion P is
each_item P n owner [] h = tt
each_item P n owner (i ∷ is) h = (h.0, each_item P _ _ is h.1)

module _ (g : Game) (v : IsValid g) (text : List ℕ) (items : List Item) (h : AllStand text g (parts_of g) items) where
  -- an item in its scope is read as the part
  abbrev pub Reads : Part → Owned → Type 0
  Reads p o = IsRead text g (declared text items) o.owner p o.item

  read_from : (ps : List Part) (is : List Item) (n owner : ℕ) → Along (Stands text g) ps is → AreGood g n owner ps → Along Reads ps (owned_from n owner is)
  read_from [] [] n owner s good = tt
  read_from (p ∷ ps) (i ∷ is) n owner s good =
      let e = same_owner text g n owner p i s.0 in (
        item_read text g (declared text items) (looks g v text items h) (owner_of n owner i) p i s.0 (subst (λ k. IsGoodPart g k p) (sym e.0) good.0),
        read_from ps is (heads_after n i) (owner_of n owner i) s.1 (subst (λ m. AreGood g m (owner_of n owner i) ps) (sym e.1) (subst (λ k. AreGood g (heads_with n p) k ps) (sym e.0) good.1)),
      )
  read_from [] (i ∷ is) n owner s good = absurd s
  read_from (p ∷ ps) [] n owner s good = absurd s

  -- each item of the text is read as its part
  pub all_read : Along Reads (parts_of g) (owned items)
  all_read = read_from (parts_of g) items 0 0 h (all_good g v)

  -- each of the four lists comes back
  scopes_back : filter_map (scope_of text (declared text items)) (owned items) ≡ g.scopes
  scopes_back = made_along Reads (scope_of text (declared text items)) part_scope (λ p o r. r.to_scope) (parts_of g) (owned items) all_read ∙ scopes_are g v

  variables_back : filter_map (variable_of text) (owned items) ≡ g.variables
  variables_back = made_along Reads (variable_of text) part_variable (λ p o r. r.to_variable) (parts_of g) (owned items) all_read ∙ variables_are g v

  aggregates_back : filter_map (aggregate_of text (declared text items)) (owned items) ≡ g.aggregates
  aggregates_back = made_along Reads (aggregate_of text (declared text items)) part_aggregate (λ p o r. r.to_aggregate) (parts_of g) (owned items) all_read ∙ aggregates_are g v

  constraints_back : filter_map (constraint_of text (declared text items)) (owned items) ≡ g.constraints
  constraints_back = made_along Reads (constraint_of text (declared text items)) part_constraint (λ p o r. r.to_constraint) (parts_of g) (owned items) all_read ∙ constraints_are g v

  abbrev game : List Scope → List Variable → List Aggregate → List Rule → Game
  game ss xs qs cs = record { scopes = ss; variables = xs; aggregates = qs; constraints = cs }

  -- the items make the problem
  pub same_game : game_of text items ≡ g
  same_game =
      ap (λ z. game z (filter_map (variable_of text) (owned items)) (filter_map (aggregate_of text (declared text items)) (owned items)) (filter_map (constraint_of text (declared text items)) (owned items))) scopes_back
      ∙ ap (λ z. game g.scopes z (filter_map (aggregate_of text (declared text items)) (owned items)) (filter_map (constraint_of text (declared text items)) (owned items))) variables_back
      ∙ ap (λ z. game g.scopes g.variables z (filter_map (constraint_of text (declared text items)) (owned items))) aggregates_back
      ∙ ap (λ z. game g.scopes g.variables g.aggregates z) constraints_back
