-- Items that say what the parts of a valid problem are meet none of the refusals.
use Rattle.std.proofs.Common.{◌≡◌, ◌∙◌, sym, ap, subst, refl, ◌+◌, ◌≤◌, ◌<◌, ℕ, suc, false, ◌&&◌, List, [], ◌∷◌, length, filter_map, flat_map, Option, Some, None, arith, le-leb, lt-ltb}
use Rattle.std.specs.Prelude.{nat_le, nat_lt}
use Rattle.std.specs.List.{AllByRecursion, sum_by}
use Rattle.std.proofs.lemmas.List.Sums.{sum_by-cons}
use Rattle.std.proofs.lemmas.Bool.{and_from, cond-true, false≢true}
use Rattle.qc_model.specs.declared.problem.Variable.{Variable as ModelVariable}
use Rattle.qc_model.specs.Content.{Game}
use Rattle.qc_model.specs.Valid.{domain_width, IsValid}
use Rattle.qc_tokens.specs.declared.token.Token.{Token}
use Rattle.text_grammar.specs.declared.tree.Item.{Item}
use Rattle.text_grammar.specs.declared.tree.Item.TheVariants.{Exists as ExistsItem, Forall as ForallItem, Goal as GoalItem, Variable, Aggregate as AggregateItem, Constraint}
use Rattle.text_resolve.specs.declared.refusal.RefusalKind.{RefusalKind}
use Rattle.text_resolve.specs.declared.refusal.RefusalKind.TheVariants.{DuplicateName, UnknownName, UnknownPredicate, WrongArguments, OutOfRange, EmptyDomain, TooWide, TooMany, NotVisible, BottleneckFirst}
use Rattle.text_resolve.specs.Owned.{Owned, word_bytes, owned}
use Rattle.text_resolve.specs.Names.{declared, item_uses, is_unknown}
use Rattle.text_resolve.specs.Fits.{predicate_of, first_place, strange_predicate, misfit}
use Rattle.text_resolve.specs.Numbers.{first_far, domain_at, width_text, empty_domain, first_wide}
use Rattle.text_resolve.specs.Excess.{or_else, past, long_domain, long_call, first_excess}
use Rattle.text_resolve.specs.Hidden.{hidden_in, first_hidden}
use Rattle.text_resolve.specs.Bottlenecks.{aggregate_at, bottleneck_at}
use Rattle.std.specs.Option.{option_map}
use Rattle.qc_model.proofs.Bottlenecks.{none_first as none_first_named}
use Rattle.text_resolve.specs.TextRefusals.{refusal_at, Refusal, first_refusal_of, refusal_order, first_refusal}
use Rattle.text_reread.specs.Parts.{Part, head, variable, aggregate, constraint, goal, parts_of}
use Rattle.text_reread.specs.Stands.{Along, Stands, AllStand}
use Rattle.text_reread.proofs.EachElement.{each_both}
use Rattle.text_reread.proofs.PartLists.{part_scope, part_variable, part_aggregate, part_constraint}
use Rattle.text_reread.proofs.Targets.{kinds}
use Rattle.text_reread.proofs.Good.{AreGood, all_good}
use Rattle.text_reread.proofs.ReadDomains.{domain_facts}
use Rattle.text_reread.proofs.Declares.{stands_head, scopes_are, variables_are, aggregates_are, constraints_are, no_name_twice, kinds_are}
use Rattle.text_reread.proofs.ReadCalls.{wordless}
use Rattle.text_reread.proofs.ReadItems.{long_item}
use Rattle.text_reread.proofs.ReadGame.{each_along, each_item, Reads, all_read, same_game}

none_then : (o later : Option ℕ) → o ≡ None → later ≡ None → (elim o as (λ _. Option ℕ) [ None ↦ later | Some at ↦ Some at ]) ≡ None
none_then None later e l = l
none_then (Some at) later e l = absurd cc

-- no element has a place
none_placed : {A : Type 0} (f : A → Option ℕ) (xs : List A) → AllByRecursion (λ x. f x ≡ None) xs → first_place f xs ≡ None
none_placed f [] h = refl
none_placed f (x ∷ xs) h = none_then (f x) (first_place f xs) h.0 (none_placed f xs h.1)

each_flat : {A B : Type 0} (P : B → Type 0) (f : A → List B) (xs : List A) → AllByRecursion (λ x. AllByRecursion P (f x)) xs → AllByRecursion P (flat_map f xs)
each_flat P f [] h = tt
each_flat P f (x ∷ xs) h = each_both P (f x) (flat_map f xs) h.0 (each_flat P f xs h.1)

abbrev width : ModelVariable → ℕ
width x = domain_width x.domain

not_past : (most n at : ℕ) → n < most → past most n at ≡ None
not_past most n at h = cond-true (nat_lt n most) None (Some at) (lt-ltb n most h)

module _ (text : List ℕ) (g : Game) where
  -- the widths so far, and those to come, are within the limit
  wide_along : (ps : List Part) (is : List Item) (n owner total : ℕ) → Along (Stands text g) ps is → AreGood g n owner ps → total + sum_by width (filter_map part_variable ps) ≤ 4194304 → first_wide total is ≡ None
  wide_along [] [] n owner total s good le = refl
  wide_along (head s ∷ ps) (ExistsItem at c ∷ is) n owner total h good le = wide_along ps is (suc n) n total h.1 good.1 le
  wide_along (head s ∷ ps) (ForallItem at ∷ is) n owner total h good le = wide_along ps is (suc n) n total h.1 good.1 le
  wide_along (head s ∷ ps) (i ∷ is) n owner total h good le = absurd (false≢true (stands_head text g s.kind s.condition i h.0))
  wide_along (variable x ∷ ps) (Variable at domain name ∷ is) n owner total h good le =
      let d = domain_facts x.domain domain h.0.1 good.0.1 in
      let w : width_text domain ≡ width x = d.width in
      let e = sum_by-cons width x (filter_map part_variable ps) in
      let later : (total + width_text domain) + sum_by width (filter_map part_variable ps) ≤ 4194304 = omega (arith, w, e, le) in
      let here : total + width_text domain ≤ 4194304 = omega (arith, later) in
      cond-true (nat_le (width_text domain) 1048576 && nat_le (total + width_text domain) 4194304) (first_wide (total + width_text domain) is) (Some (domain_at domain))
      (and_from (nat_le (width_text domain) 1048576) (nat_le (total + width_text domain) 4194304) (ap (λ m. nat_le m 1048576) w ∙ d.narrow) (le-leb (total + width_text domain) 4194304 here))
      ∙ wide_along ps is n owner (total + width_text domain) h.1 good.1 later
  wide_along (aggregate q ∷ ps) (AggregateItem at name fold target ∷ is) n owner total h good le = wide_along ps is n owner total h.1 good.1 le
  wide_along (constraint c ∷ ps) (Constraint at name args ∷ is) n owner total h good le = wide_along ps is n owner total h.1 good.1 le
  wide_along (goal ∷ ps) (GoalItem ∷ is) n owner total h good le = wide_along ps is n n total h.1 good.1 le
  wide_along [] (i ∷ is) n owner total h good le = absurd h
  wide_along (p ∷ ps) [] n owner total h good le = absurd h
  wide_along (p ∷ ps) (i ∷ is) n owner total h good le = absurd h.0

  -- so many scopes, variables, aggregates and constraints, with those to come, are within the limits
  excess_along : (ps : List Part) (is : List Item) (a b q c : ℕ) → Along (Stands text g) ps is → AllByRecursion (λ i. long_item text i ≡ None) is →
      a + length (filter_map part_scope ps) ≤ 64 → b + length (filter_map part_variable ps) ≤ 500 → q + length (filter_map part_aggregate ps) ≤ 255 → c + length (filter_map part_constraint ps) ≤ 20000 →
      first_excess text a b q c is ≡ None
  excess_along [] [] a b q c h s x y w z = refl
  excess_along (head s ∷ ps) (ExistsItem at t ∷ is) a b q c h l x y w z =
      ap (λ o. or_else o (first_excess text (suc a) b q c is)) (not_past 64 a at (omega arith)) ∙ excess_along ps is (suc a) b q c h.1 l.1 (omega arith) y w z
  excess_along (head s ∷ ps) (ForallItem at ∷ is) a b q c h l x y w z =
      ap (λ o. or_else o (first_excess text (suc a) b q c is)) (not_past 64 a at (omega arith)) ∙ excess_along ps is (suc a) b q c h.1 l.1 (omega arith) y w z
  excess_along (head s ∷ ps) (i ∷ is) a b q c h l x y w z = absurd (false≢true (stands_head text g s.kind s.condition i h.0))
  excess_along (variable v ∷ ps) (Variable at domain name ∷ is) a b q c h l x y w z =
      ap (λ o. or_else o (or_else (long_domain domain) (first_excess text a (suc b) q c is))) (not_past 500 b at (omega arith))
      ∙ ap (λ o. or_else o (first_excess text a (suc b) q c is)) l.0 ∙ excess_along ps is a (suc b) q c h.1 l.1 x (omega arith) w z
  excess_along (aggregate r ∷ ps) (AggregateItem at name fold target ∷ is) a b q c h l x y w z =
      ap (λ o. or_else o (first_excess text a b (suc q) c is)) (not_past 255 q at (omega arith)) ∙ excess_along ps is a b (suc q) c h.1 l.1 x y (omega arith) z
  excess_along (constraint r ∷ ps) (Constraint at name args ∷ is) a b q c h l x y w z =
      ap (λ o. or_else o (or_else (long_call (predicate_of (word_bytes text name)) args) (first_excess text a b q (suc c) is))) (not_past 20000 c at (omega arith))
      ∙ ap (λ o. or_else o (first_excess text a b q (suc c) is)) l.0 ∙ excess_along ps is a b q (suc c) h.1 l.1 x y w (omega arith)
  excess_along (goal ∷ ps) (GoalItem ∷ is) a b q c h l x y w z = excess_along ps is a b q c h.1 l.1 x y w z
  excess_along [] (i ∷ is) a b q c h l x y w z = absurd h
  excess_along (p ∷ ps) [] a b q c h l x y w z = absurd h
  excess_along (p ∷ ps) (i ∷ is) a b q c h l x y w z = absurd h.0

module _ (g : Game) (v : IsValid g) (text : List ℕ) (items : List Item) (h : AllStand text g (parts_of g) items) where
  each_read : (P : Item → Type 0) → ((p : Part) (o : Owned) → Reads g v text items h p o → P o.item) → AllByRecursion P items
  each_read P each = each_item P 0 0 items (each_along (Reads g v text items h) (λ o. P o.item) each (parts_of g) (owned items) (all_read g v text items h))

  -- no name is declared twice
  pub no_duplicate : (ts : List Token) → refusal_at DuplicateName text ts items ≡ None
  no_duplicate ts = no_name_twice g v text items h

  -- each name used is declared
  pub no_unknown : (ts : List Token) → refusal_at UnknownName text ts items ≡ None
  no_unknown ts =
      wordless (is_unknown text (declared text items)) (flat_map item_uses items)
      (each_flat (λ w. is_unknown text (declared text items) w ≡ false) item_uses items (each_read (λ i. AllByRecursion (λ w. is_unknown text (declared text items) w ≡ false) (item_uses i)) (λ p o r. r.known)))

  -- each predicate is one
  pub no_strange : (ts : List Token) → refusal_at UnknownPredicate text ts items ≡ None
  no_strange ts = none_placed (strange_predicate text) items (each_read (λ i. strange_predicate text i ≡ None) (λ p o r. r.not_strange))

  -- arguments and targets fit
  pub no_misfit : (ts : List Token) → refusal_at WrongArguments text ts items ≡ None
  no_misfit ts = none_placed (misfit text (declared text items)) items (each_read (λ i. misfit text (declared text items) i ≡ None) (λ p o r. r.fits))

  -- each domain has a value
  pub no_empty : (ts : List Token) → refusal_at EmptyDomain text ts items ≡ None
  no_empty ts = none_placed empty_domain items (each_read (λ i. empty_domain i ≡ None) (λ p o r. r.full))

  -- the domains are narrow, each and all together
  pub no_wide : (ts : List Token) → refusal_at TooWide text ts items ≡ None
  no_wide ts =
      wide_along text g (parts_of g) items 0 0 0 h (all_good g v)
      (subst (λ xs. 0 + sum_by width xs ≤ 4194304) (sym (variables_are g v)) (let w = v.widths in omega (arith, w)))

  -- nothing is too much
  pub no_excess : (ts : List Token) → refusal_at TooMany text ts items ≡ None
  no_excess ts =
      excess_along text g (parts_of g) items 0 0 0 0 h (each_read (λ i. long_item text i ≡ None) (λ p o r. r.short))
      (subst (λ xs. 0 + length xs ≤ 64) (sym (scopes_are g v)) (let w = v.few_scopes in omega (arith, w)))
      (subst (λ xs. 0 + length xs ≤ 500) (sym (variables_are g v)) (let w = v.few_variables in omega (arith, w)))
      (subst (λ xs. 0 + length xs ≤ 255) (sym (aggregates_are g v)) (let w = v.few_aggregates in omega (arith, w)))
      (subst (λ xs. 0 + length xs ≤ 20000) (sym (constraints_are g v)) (let w = v.few_constraints in omega (arith, w)))

  -- each scope sees what it names
  pub no_hidden : (ts : List Token) → refusal_at NotVisible text ts items ≡ None
  no_hidden ts =
      ap (λ ks. first_hidden text (declared text items) ks (owned items)) (kinds_are g v text items h)
      ∙ none_placed (hidden_in text (declared text items) (kinds g)) (owned items)
      (each_along (Reads g v text items h) (λ o. hidden_in text (declared text items) (kinds g) o ≡ None) (λ p o r. r.sees) (parts_of g) (owned items) (all_read g v text items h))

  -- no list names more after an aggregate by least or greatest
  pub no_bottleneck : (ts : List Token) → refusal_at BottleneckFirst text ts items ≡ None
  no_bottleneck ts = ap (λ (z : Game). bottleneck_at z items) (same_game g v text items h) ∙ ap (option_map (aggregate_at items)) (none_first_named g g.scopes [] v.bottlenecks)

  -- none of the refusals but that of a number out of range
  pub not_refused : (k : RefusalKind) → (k ≡ OutOfRange → ⊥) → (ts : List Token) → refusal_at k text ts items ≡ None
  not_refused DuplicateName n ts = no_duplicate ts
  not_refused UnknownName n ts = no_unknown ts
  not_refused UnknownPredicate n ts = no_strange ts
  not_refused WrongArguments n ts = no_misfit ts
  not_refused OutOfRange n ts = absurd (n refl)
  not_refused EmptyDomain n ts = no_empty ts
  not_refused TooWide n ts = no_wide ts
  not_refused TooMany n ts = no_excess ts
  not_refused NotVisible n ts = no_hidden ts
  not_refused BottleneckFirst n ts = no_bottleneck ts

  none_first : (ts : List Token) (ks : List RefusalKind) → AllByRecursion (λ k. refusal_at k text ts items ≡ None) ks → first_refusal_of ks text ts items ≡ None
  none_first ts [] n = refl
  none_first ts (k ∷ ks) n = go (refusal_at k text ts items) n.0 (none_first ts ks n.1)
    where
      go : (o : Option ℕ) → o ≡ None → first_refusal_of ks text ts items ≡ None → (elim o as (λ _. Option Refusal) [ None ↦ first_refusal_of ks text ts items | Some at ↦ Some (record { kind = k; at = at }) ]) ≡ None
      go None e later = later
      go (Some at) e later = absurd cc

  -- no fault, where no number is out of range
  pub no_fault : (ts : List Token) → first_far ts ≡ None → first_refusal text ts items ≡ None
  no_fault ts far =
      none_first ts refusal_order
      (no_duplicate ts, (no_unknown ts, (no_strange ts, (no_misfit ts, (far, (no_empty ts, (no_wide ts, (no_excess ts, (no_hidden ts, (no_bottleneck ts, tt))))))))))
