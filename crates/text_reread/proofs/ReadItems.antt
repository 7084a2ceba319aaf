-- What an item makes that says what a part of a valid problem is, and that it isn't refused.
use Rattle.std.proofs.Common.{◌≡◌, ◌∙◌, sym, ap, subst, refl, ℕ, true, false, ◌&&◌, cond, List, flat_map, is_none, Option, Some, None}
use Rattle.std.specs.List.{list_all, AllByRecursion}
use Rattle.std.proofs.lemmas.Bool.{and_parts, and_from, cond-true}
use Rattle.qc_model.specs.declared.problem.Kind.{Kind}
use Rattle.qc_model.specs.declared.problem.Kind.TheVariants.{Exists, Forall}
use Rattle.qc_model.specs.declared.problem.Sense.{Sense}
use Rattle.qc_model.specs.declared.problem.Fold.{Fold}
use Rattle.qc_model.specs.declared.problem.Fold.TheVariants.{Sum, Least, Greatest}
use Rattle.qc_model.specs.declared.problem.Domain.{Domain}
use Rattle.qc_model.specs.declared.problem.Target.{Target}
use Rattle.qc_model.specs.declared.problem.Target.TheVariants.{Var as VarTarget, Aggregate as Agg}
use Rattle.qc_model.specs.declared.problem.Argument.{Argument as ModelArgument}
use Rattle.qc_model.specs.declared.problem.Condition.{Condition}
use Rattle.qc_model.specs.declared.problem.Scope.{Scope}
use Rattle.qc_model.specs.declared.problem.Variable.{Variable as ModelVariable}
use Rattle.qc_model.specs.declared.problem.Aggregate.{Aggregate as ModelAggregate}
use Rattle.qc_model.specs.declared.problem.Pred.{Pred}
use Rattle.qc_model.specs.Content.{Game, Rule}
use Rattle.qc_model.specs.Canonical.{target_name}
use Rattle.qc_model.specs.Signature.{arg_kinds_of, pred_name}
use Rattle.qc_model.specs.Meaning.{meaning_of}
use Rattle.qc_model.specs.Valid.{are_of_sorts, have_lengths, argument_sees, is_domain, is_constraint}
use Rattle.text_grammar.specs.declared.tree.Word.{Word}
use Rattle.text_grammar.specs.declared.tree.DomainText.{DomainText}
use Rattle.text_grammar.specs.declared.tree.ArgumentText.{ArgumentText}
use Rattle.text_grammar.specs.declared.tree.FoldText.{FoldText}
use Rattle.text_grammar.specs.declared.tree.FoldText.TheVariants.{Sum as SumFold, Least as LeastFold, Greatest as GreatestFold}
use Rattle.text_grammar.specs.declared.tree.Item.{Item}
use Rattle.text_grammar.specs.declared.tree.Item.TheVariants.{Exists as ExistsItem, Forall as ForallItem, Goal as GoalItem, Variable, Aggregate as AggregateItem, Constraint}
use Rattle.text_resolve.specs.Owned.{Owned, word_bytes}
use Rattle.text_resolve.specs.Names.{Declared, look_up, item_uses, argument_uses, is_unknown}
use Rattle.text_resolve.specs.Fits.{predicate_of, strange_predicate, is_boolean_meant, arguments_fit, lengths_fit, call_fits, wrong_target, misfit}
use Rattle.text_resolve.specs.Numbers.{has_domain_values, domain_at, empty_domain}
use Rattle.text_resolve.specs.Excess.{long_domain, long_call}
use Rattle.text_resolve.specs.Hidden.{next_universal, is_seen, is_later, hidden_meant, hidden_target, hidden_in}
use Rattle.text_resolve.specs.Draft.{domain_of, meant_target, target_of, fold_of, scope_of, variable_of, aggregate_of, rule_of, constraint_of}
use Rattle.text_reread.specs.Parts.{Part, head, variable, aggregate, constraint, goal}
use Rattle.text_reread.specs.Stands.{StandArguments, StandsDomain, StandsFold, StandsHead, Stands}
use Rattle.text_reread.proofs.PartLists.{part_scope, part_variable, part_aggregate, part_constraint}
use Rattle.text_reread.proofs.Targets.{kinds, target_meant, IsGoodTarget}
use Rattle.text_reread.proofs.Good.{IsGoodCondition, IsGoodPart}
use Rattle.text_reread.proofs.ReadDomains.{domain_facts}
use Rattle.text_reread.proofs.Predicates.{predicate_found}
use Rattle.text_reread.proofs.Declares.{Looks}
use Rattle.text_reread.proofs.ReadArguments.{target_found, target_is, arguments_facts}
use Rattle.text_reread.proofs.ReadCalls.{wordless, literal_at, lengths_are}

abbrev made_scope : Sense → Target → Scope
made_scope s t = record { kind = Exists; condition = Some (record { sense = s; target = t }) }

abbrev universal_scope : Option Condition → Scope
universal_scope c = record { kind = Forall; condition = c }

abbrev made_variable : List ℕ → ℕ → Domain → ModelVariable
made_variable name i d = record { name = name; scope = record { 0 = i }; domain = d }

abbrev made_aggregate : List ℕ → ℕ → Fold → Target → ModelAggregate
made_aggregate name i f t = record { name = name; scope = record { 0 = i }; fold = f; target = t }

abbrev made_rule : ℕ → Pred → List ModelArgument → Rule
made_rule i p args = record { owner = record { 0 = i }; pred = p; args = args }

-- where an item is too long in itself
abbrev pub long_item : List ℕ → Item → Option ℕ
long_item text (ExistsItem at condition) = None
long_item text (ForallItem at) = None
long_item text GoalItem = None
long_item text (Variable at domain name) = long_domain domain
long_item text (AggregateItem at name fold target) = None
long_item text (Constraint at name args) = long_call (predicate_of (word_bytes text name)) args

abbrev pub at_scope : ℕ → Item → Owned
at_scope i item = record { owner = i; item = item }

-- an item of scope i makes the part, and isn't refused
pub record IsRead (text : List ℕ) (g : Game) (ds : List Declared) (i : ℕ) (p : Part) (item : Item) : Type 0 where
  pub to_scope : scope_of text ds (at_scope i item) ≡ part_scope p
  pub to_variable : variable_of text (at_scope i item) ≡ part_variable p
  pub to_aggregate : aggregate_of text ds (at_scope i item) ≡ part_aggregate p
  pub to_constraint : constraint_of text ds (at_scope i item) ≡ part_constraint p
  pub known : AllByRecursion (λ w. is_unknown text ds w ≡ false) (item_uses item)
  pub not_strange : strange_predicate text item ≡ None
  pub fits : misfit text ds item ≡ None
  pub full : empty_domain item ≡ None
  pub sees : hidden_in text ds (kinds g) (at_scope i item) ≡ None
  pub short : long_item text item ≡ None

-- the text says the fold
fold_is : (f : Fold) (t : FoldText) → StandsFold f t → fold_of t ≡ f
fold_is Sum SumFold h = refl
fold_is (Least n) (LeastFold k) h = ap Least h
fold_is (Greatest n) (GreatestFold k) h = ap Greatest h
fold_is f t h = absurd h

module _ (text : List ℕ) (g : Game) (ds : List Declared) (looks : Looks g ds) (i : ℕ) where
  -- the name of a target that is there, and seen
  record WordFacts (t : Target) (w : Word) : Type 0 where
    value : target_of text ds w ≡ t
    known : is_unknown text ds w ≡ false
    fits : wrong_target text ds w ≡ None
    sees : hidden_target text ds (kinds g) i w ≡ None

  no_boolean : (t : Target) (at : ℕ) → cond (is_boolean_meant (Some (target_meant g t))) (Some at) None ≡ None
  no_boolean (VarTarget x) at = refl
  no_boolean (Agg q) at = refl

  -- a name that says a good target is found, fits and is seen
  word_facts : (t : Target) (w : Word) → word_bytes text w ≡ target_name g t → IsGoodTarget g i t → WordFacts t w
  word_facts t w e good =
      let found : look_up ds (word_bytes text w) ≡ Some (target_meant g t) = ap (look_up ds) e ∙ target_found text g ds looks t good.there in
      record {
        value = ap meant_target found ∙ target_is text g ds looks t;
        known = ap (λ o. is_none o) found;
        fits = ap (λ o. cond (is_boolean_meant o) (Some w.start) None) found ∙ no_boolean t w.start;
        sees = ap (hidden_meant (kinds g) i w.start) found ∙ cond-true (is_seen (next_universal (kinds g) i) (target_meant g t)) None (Some w.start) good.seen;
      }

  -- an item of each sort
  head_read : (k : Kind) (c : Option Condition) (item : Item) → StandsHead text g k c item → IsGoodCondition g i c → IsRead text g ds i (head (record { kind = k; condition = c })) item
  head_read Exists None (ExistsItem at None) h good =
      record { to_scope = refl; to_variable = refl; to_aggregate = refl; to_constraint = refl; known = tt; not_strange = refl; fits = refl; full = refl; sees = refl; short = refl }
  head_read Exists (Some c) (ExistsItem at (Some d)) h good =
      let f = word_facts c.target d.target h.1 good in
      record {
        to_scope = ap (λ z. Some (made_scope z (target_of text ds d.target))) h.0 ∙ ap (λ z. Some (made_scope c.sense z)) f.value;
        to_variable = refl;
        to_aggregate = refl;
        to_constraint = refl;
        known = (f.known, tt);
        not_strange = refl;
        fits = f.fits;
        full = refl;
        sees = f.sees;
        short = refl;
      }
  head_read Forall c (ForallItem at) h good =
      record { to_scope = ap (λ z. Some (universal_scope z)) (sym h); to_variable = refl; to_aggregate = refl; to_constraint = refl; known = tt; not_strange = refl; fits = refl; full = refl; sees = refl; short = refl }
  head_read Exists None (ExistsItem at (Some d)) h good = absurd h
  head_read Exists (Some c) (ExistsItem at None) h good = absurd h
  head_read k c item h good = absurd h

  variable_read : (x : ModelVariable) (at : ℕ) (domain : DomainText) (name : Word) → word_bytes text name ≡ x.name → StandsDomain x.domain domain → x.scope.0 ≡ i → is_domain x.domain ≡ true → IsRead text g ds i (variable x) (Variable at domain name)
  variable_read x at domain name e d o v =
      let f = domain_facts x.domain domain d v in
      record {
        to_scope = refl;
        to_variable = ap (λ z. Some (made_variable z i (domain_of domain))) e ∙ ap (λ z. Some (made_variable x.name z (domain_of domain))) (sym o) ∙ ap (λ z. Some (made_variable x.name x.scope.0 z)) f.value;
        to_aggregate = refl;
        to_constraint = refl;
        known = tt;
        not_strange = refl;
        fits = refl;
        full = cond-true (has_domain_values domain) None (Some (domain_at domain)) f.full;
        sees = refl;
        short = f.short;
      }

  aggregate_read : (q : ModelAggregate) (at : ℕ) (name : Word) (fold : FoldText) (target : Word) → word_bytes text name ≡ q.name → StandsFold q.fold fold → word_bytes text target ≡ target_name g q.target → q.scope.0 ≡ i → IsGoodTarget g i q.target →
      IsRead text g ds i (aggregate q) (AggregateItem at name fold target)
  aggregate_read q at name fold target e k t o good =
      let f = word_facts q.target target t good in
      record {
        to_scope = refl;
        to_variable = refl;
        to_aggregate =
            ap (λ z. Some (made_aggregate z i (fold_of fold) (target_of text ds target))) e ∙ ap (λ z. Some (made_aggregate q.name z (fold_of fold) (target_of text ds target))) (sym o)
            ∙ ap (λ z. Some (made_aggregate q.name q.scope.0 z (target_of text ds target))) (fold_is q.fold fold k) ∙ ap (λ z. Some (made_aggregate q.name q.scope.0 q.fold z)) f.value;
        to_constraint = refl;
        known = (f.known, tt);
        not_strange = refl;
        fits = f.fits;
        full = refl;
        sees = f.sees;
        short = refl;
      }

  constraint_read : (c : Rule) (at : ℕ) (name : Word) (args : List ArgumentText) → word_bytes text name ≡ pred_name c.pred → StandArguments text g.variables (arg_kinds_of c.pred) c.args args → c.owner.0 ≡ i → is_constraint g.variables c ≡ true →
      IsRead text g ds i (constraint c) (Constraint at name args)
  constraint_read c at name args e s o v =
      let t = and_parts (are_of_sorts g.variables (arg_kinds_of c.pred) c.args && have_lengths (meaning_of c.pred) c.args) (list_all (argument_sees g.variables c.owner.0) c.args) v in
      let u = and_parts (are_of_sorts g.variables (arg_kinds_of c.pred) c.args) (have_lengths (meaning_of c.pred) c.args) t.0 in
      let f = arguments_facts text g ds looks i (arg_kinds_of c.pred) c.args args s u.0 (subst (λ n. list_all (argument_sees g.variables n) c.args ≡ true) o t.1) in
      let p : predicate_of (word_bytes text name) ≡ Some c.pred = ap predicate_of e ∙ predicate_found c.pred in
      let l = lengths_are c.args args f.count c.pred (λ k. literal_at text g.variables (arg_kinds_of c.pred) c.args args 2 s k) u.1 in
      record {
        to_scope = refl;
        to_variable = refl;
        to_aggregate = refl;
        to_constraint = ap (λ z. rule_of text ds i z args) p ∙ ap (λ z. Some (made_rule i c.pred z)) f.value ∙ ap (λ z. Some (made_rule z c.pred c.args)) (sym o);
        known = f.known;
        not_strange = ap (λ z. cond (is_none z) (Some name.start) None) p;
        fits =
            ap (λ z. cond (call_fits text ds z args) None (Some name.start)) p
            ∙ cond-true (call_fits text ds (Some c.pred) args) None (Some name.start) (and_from (arguments_fit text ds (arg_kinds_of c.pred) args) (lengths_fit (meaning_of c.pred) args) f.fits l);
        full = refl;
        sees = wordless (λ w. is_later i (look_up ds (word_bytes text w))) (flat_map argument_uses args) f.seen;
        short = ap (λ z. long_call z args) p ∙ f.short;
      }

  -- an item that says what a part is
  pub item_read : (p : Part) (item : Item) → Stands text g p item → IsGoodPart g i p → IsRead text g ds i p item
  item_read (head s) item h good = head_read s.kind s.condition item h good
  item_read (variable x) (Variable at domain name) h good = variable_read x at domain name h.0 h.1 good.0 good.1
  item_read (aggregate q) (AggregateItem at name fold target) h good = aggregate_read q at name fold target h.0 h.1 h.2 good.0 good.1
  item_read (constraint c) (Constraint at name args) h good = constraint_read c at name args h.0 h.1 good.0 good.1
  item_read goal GoalItem h good = record { to_scope = refl; to_variable = refl; to_aggregate = refl; to_constraint = refl; known = tt; not_strange = refl; fits = refl; full = refl; sees = refl; short = refl }
  item_read p item h good = absurd h
