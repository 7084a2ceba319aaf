-- The parts of a valid problem can be spelled, and aggregates stand in universal scopes.
use Rattle.std.proofs.Common.{◌≡◌, refl, sym, ap, ◌∙◌, ◌==◌, ◌&&◌, ℕ, suc, Bool, true, false, cond, List, [], ◌∷◌, ◌++◌, map, filter, Option, Some, None, eqb-true, is_none}
use Rattle.std.specs.Prelude.{slice_get}
use Rattle.std.specs.List.{list_all, AllByRecursion}
use Rattle.std.proofs.lemmas.Bool.{and_parts, and_from}
use Rattle.std.proofs.lemmas.List.Folds.{list_all-append, list_all-map}
use Rattle.qc_model.specs.declared.problem.Kind.{Kind}
use Rattle.qc_model.specs.declared.problem.Kind.TheVariants.{Exists, Forall}
use Rattle.qc_model.specs.declared.problem.Condition.{Condition}
use Rattle.qc_model.specs.declared.problem.Scope.{Scope}
use Rattle.qc_model.specs.declared.problem.Variable.{Variable}
use Rattle.qc_model.specs.declared.problem.Aggregate.{Aggregate}
use Rattle.qc_model.specs.Content.{Game, Rule}
use Rattle.qc_model.specs.Block.{of_kind}
use Rattle.qc_model.specs.Meaning.{meaning_of}
use Rattle.qc_model.specs.Signature.{arg_kinds_of}
use Rattle.qc_model.specs.Names.{is_name}
use Rattle.qc_model.specs.Sees.{IsVisible, AggregatesSee, aggregates_in, ScopeSees, SeesRight}
use Rattle.qc_model.specs.Valid.{is_domain, are_of_sorts, have_lengths, argument_sees, is_constraint, is_target, is_condition, is_scope, is_universal, is_fold, is_aggregate_of, IsValid}
use Rattle.qc_model.specs.Canonical.{target_name}
use Rattle.text_reread.specs.Parts.{head, variable, aggregate, constraint, constraint_parts, scope_parts, parts_from, parts_of}
use Rattle.text_reread.proofs.Spellable.{fits_domain, fits_head, fits_part}
use Rattle.text_reread.proofs.ValidItems.{all_change, variable_names, aggregate_names, domain_fits, arguments_fit, StandFrom, all_stand, first_stands, later_stand, target_named}

-- two tests that all pass
all_both : {A : Type 0} (p q : A → Bool) (xs : List A) → list_all p xs ≡ true → list_all q xs ≡ true → list_all (λ x. p x && q x) xs ≡ true
all_both p q [] h k = refl
all_both p q (x ∷ xs) h k =
    let a = and_parts (p x) (list_all p xs) h in
    let b = and_parts (q x) (list_all q xs) k in
    and_from (p x && q x) (list_all (λ x. p x && q x) xs) (and_from (p x) (q x) a.0 b.0) (all_both p q xs a.1 b.1)

-- what passes one test and is kept by another passes a third
all_kept : {A : Type 0} (p t q : A → Bool) → ((x : A) → p x ≡ true → t x ≡ true → q x ≡ true) → (xs : List A) → list_all p xs ≡ true → list_all q (filter t xs) ≡ true
all_kept p t q c [] h = refl
all_kept p t q c (x ∷ xs) h =
    let k = and_parts (p x) (list_all p xs) h in
    by (t x) refl k.0 (all_kept p t q c xs k.1)
  where
    by : (b : Bool) → t x ≡ b → p x ≡ true → list_all q (filter t xs) ≡ true → list_all q (cond b (x ∷ filter t xs) (filter t xs)) ≡ true
    by true e h later = and_from (q x) (list_all q (filter t xs)) (c x h e) later
    by false e h later = later

-- so does what also has a property
all_with : {A : Type 0} (P : A → Type 0) (p q : A → Bool) → ((x : A) → P x → p x ≡ true → q x ≡ true) → (xs : List A) → AllByRecursion P xs → list_all p xs ≡ true → list_all q xs ≡ true
all_with P p q c [] h k = refl
all_with P p q c (x ∷ xs) h k =
    let t = and_parts (p x) (list_all p xs) k in
    and_from (q x) (list_all q xs) (c x h.0 t.0) (all_with P p q c xs h.1 t.1)

-- what all of two lists pass, all of both pass
all_joined : {A : Type 0} (p : A → Bool) (xs ys : List A) → list_all p xs ≡ true → list_all p ys ≡ true → list_all p (xs ++ ys) ≡ true
all_joined p xs ys h k = list_all-append p xs ys ∙ and_from (list_all p xs) (list_all p ys) h k

-- what all pass once they are mapped
all_mapped : {A B : Type 0} (p : B → Bool) (f : A → B) (xs : List A) → list_all (λ x. p (f x)) xs ≡ true → list_all p (map f xs) ≡ true
all_mapped p f xs h = list_all-map p f xs ∙ h

-- the aggregates of scope i
abbrev pub of_scope : Game → ℕ → List Aggregate
of_scope g i = filter (λ q. q.scope.0 == i) g.aggregates

module _ (g : Game) (v : IsValid g) where
  -- a scope with an aggregate is universal
  pub universal_here : (i : ℕ) (s : Scope) → slice_get g.scopes i ≡ Some s → list_all (λ q. of_kind s.kind false true) (of_scope g i) ≡ true
  universal_here i s e = all_kept (is_aggregate_of g) (λ q. q.scope.0 == i) (λ q. of_kind s.kind false true) each g.aggregates v.aggregates
    where
      each : (q : Aggregate) → is_aggregate_of g q ≡ true → (q.scope.0 == i) ≡ true → of_kind s.kind false true ≡ true
      each q h t =
          let place : slice_get g.scopes q.scope.0 ≡ Some s = ap (slice_get g.scopes) (eqb-true q.scope.0 i t) ∙ e in
          let a = and_parts (is_universal (slice_get g.scopes q.scope.0) && is_fold q.fold) (is_target g.variables q.target) h in
          let b = and_parts (is_universal (slice_get g.scopes q.scope.0)) (is_fold q.fold) a.0 in
          ap is_universal (sym place) ∙ b.0

  -- a variable with a name and a valid domain fits
  variable_fits : (x : Variable) → (is_name x.name && is_domain x.domain) ≡ true → fits_part g (variable x) ≡ true
  variable_fits x h =
      let k = and_parts (is_name x.name) (is_domain x.domain) h in
      and_from (is_name x.name) (fits_domain x.domain) k.0 (domain_fits x.domain k.1)

  -- so the variables of scope i fit
  variables_fit : (i : ℕ) → list_all (fits_part g) (map variable (filter (λ x. x.scope.0 == i) g.variables)) ≡ true
  variables_fit i =
      all_mapped (fits_part g) variable (filter (λ (x : Variable). x.scope.0 == i) g.variables)
      (all_kept (λ (x : Variable). is_name x.name && is_domain x.domain) (λ x. x.scope.0 == i) (λ x. fits_part g (variable x)) (λ x h t. variable_fits x h) g.variables
      (all_both (λ (x : Variable). is_name x.name) (λ x. is_domain x.domain) g.variables (variable_names g v) v.domains))

  -- a valid constraint fits
  constraint_fits : (c : Rule) → is_constraint g.variables c ≡ true → fits_part g (constraint c) ≡ true
  constraint_fits c h =
      let a = and_parts (are_of_sorts g.variables (arg_kinds_of c.pred) c.args && have_lengths (meaning_of c.pred) c.args) (list_all (argument_sees g.variables c.owner.0) c.args) h in
      let b = and_parts (are_of_sorts g.variables (arg_kinds_of c.pred) c.args) (have_lengths (meaning_of c.pred) c.args) a.0 in
      arguments_fit g.variables (variable_names g v) (arg_kinds_of c.pred) c.args b.0

  -- so the constraints of scope i, or of the goal, fit
  constraints_fit : (i : ℕ) → list_all (fits_part g) (constraint_parts g i) ≡ true
  constraints_fit i =
      all_mapped (fits_part g) constraint (filter (λ (c : Rule). c.owner.0 == i) g.constraints)
      (all_kept (is_constraint g.variables) (λ c. c.owner.0 == i) (λ c. fits_part g (constraint c)) (λ c h t. constraint_fits c h) g.constraints v.constraints)

  -- the aggregates of a scope, with the scopes after it
  module _ (s : Scope) (later : List Scope) (i : ℕ) (at : slice_get g.scopes i ≡ Some s) (sees : ScopeSees s.kind g later (suc i) s.condition (aggregates_in g i)) where
    aggregate_fits : (q : Aggregate) → IsVisible g later (suc i) q.target → (is_name q.name && is_aggregate_of g q) ≡ true → fits_part g (aggregate q) ≡ true
    aggregate_fits q w h =
        let k = and_parts (is_name q.name) (is_aggregate_of g q) h in
        let a = and_parts (is_universal (slice_get g.scopes q.scope.0) && is_fold q.fold) (is_target g.variables q.target) k.1 in
        let b = and_parts (is_universal (slice_get g.scopes q.scope.0)) (is_fold q.fold) a.0 in
        and_from (is_name q.name) (is_name (target_name g q.target) && is_fold q.fold) k.0
        (and_from (is_name (target_name g q.target)) (is_fold q.fold) (target_named g v later (suc i) q.target w a.1) b.1)

    good_here : list_all (λ q. is_name q.name && is_aggregate_of g q) (of_scope g i) ≡ true
    good_here =
        all_kept (λ (q : Aggregate). is_name q.name && is_aggregate_of g q) (λ q. q.scope.0 == i) (λ q. is_name q.name && is_aggregate_of g q) (λ q h t. h) g.aggregates
        (all_both (λ (q : Aggregate). is_name q.name) (is_aggregate_of g) g.aggregates (aggregate_names g v) v.aggregates)

    visible_here : (qs : List Aggregate) → AggregatesSee g later (suc i) qs → AllByRecursion (λ q. IsVisible g later (suc i) q.target) qs
    visible_here [] w = tt
    visible_here (q ∷ qs) w = (w.0, visible_here qs w.1)

    aggregates_fit : list_all (fits_part g) (map aggregate (of_scope g i)) ≡ true
    aggregates_fit = all_mapped (fits_part g) aggregate (of_scope g i) (by s.kind sees (universal_here i s at))
      where
        by : (k : Kind) → ScopeSees k g later (suc i) s.condition (aggregates_in g i) → list_all (λ (q : Aggregate). of_kind k false true) (of_scope g i) ≡ true → list_all (λ q. fits_part g (aggregate q)) (of_scope g i) ≡ true
        by Exists w u = all_change (λ (q : Aggregate). false) (λ q. fits_part g (aggregate q)) (λ q h. absurd cc) (of_scope g i) u
        by Forall w u = all_with (λ q. IsVisible g later (suc i) q.target) (λ q. is_name q.name && is_aggregate_of g q) (λ q. fits_part g (aggregate q)) aggregate_fits (of_scope g i) (visible_here (of_scope g i) w) good_here

    head_fits : is_scope g.variables s ≡ true → fits_part g (head s) ≡ true
    head_fits h = by s.kind s.condition sees h
      where
        by : (k : Kind) (c : Option Condition) → ScopeSees k g later (suc i) c (aggregates_in g i) → of_kind k (is_condition g.variables c) (is_none c) ≡ true → fits_head g k c ≡ true
        by Exists None w h = refl
        by Exists (Some c) w h = target_named g v later (suc i) c.target w h
        by Forall None w h = refl
        by Forall (Some c) w h = absurd cc

  -- the parts from scope i on
  parts_fit_from : (later : List Scope) (i : ℕ) → StandFrom g.scopes i later → SeesRight g later i → list_all (is_scope g.variables) later ≡ true → list_all (fits_part g) (parts_from g later i) ≡ true
  parts_fit_from [] i stand sees h = constraints_fit i
  parts_fit_from (s ∷ later) i stand sees h =
      let k = and_parts (is_scope g.variables s) (list_all (is_scope g.variables) later) h in
      let at = first_stands g.scopes i s later stand in
      let vs = map variable (filter (λ (x : Variable). x.scope.0 == i) g.variables) in
      let first = and_from (fits_part g (head s)) (list_all (fits_part g) vs) (head_fits s later i at sees.0 k.0) (variables_fit i) in
      let second = all_joined (fits_part g) (head s ∷ vs) (map aggregate (of_scope g i)) first (aggregates_fit s later i at sees.0) in
      let third = all_joined (fits_part g) (head s ∷ vs ++ map aggregate (of_scope g i)) (constraint_parts g i) second (constraints_fit i) in
      all_joined (fits_part g) (scope_parts g i s) (parts_from g later (suc i)) third (parts_fit_from later (suc i) (later_stand g.scopes i s later stand) sees.1 k.1)

  -- all parts of a valid problem fit
  pub parts_fit : list_all (fits_part g) (parts_of g) ≡ true
  parts_fit = parts_fit_from g.scopes 0 (all_stand g.scopes) v.sees v.scopes
