-- Arguments of a valid problem's constraints: what a text that says them makes.
use Rattle.std.proofs.Common.{◌≡◌, ◌∙◌, sym, ap, subst, refl, ℕ, zero, suc, Bool, true, false, cond, List, [], ◌∷◌, ◌++◌, length, map, flat_map, slice_get, is_none, is_some, Option, Some, None, ℤ, leb-true, le-ltb}
use Rattle.std.specs.Prelude.{nat_le, nat_lt}
use Rattle.std.specs.List.{list_all, AllByRecursion}
use Rattle.std.proofs.lemmas.Bool.{and_parts, and_from, cond-true, false≢true}
use Rattle.qc_model.specs.declared.problem.Domain.{Domain}
use Rattle.qc_model.specs.declared.problem.Domain.TheVariants.{Bits, Range as RangeDomain, Listed as ListedDomain}
use Rattle.qc_model.specs.declared.problem.Arg.{Arg}
use Rattle.qc_model.specs.declared.problem.Arg.TheVariants.{Var, Num}
use Rattle.qc_model.specs.declared.problem.Argument.{Argument as ModelArgument}
use Rattle.qc_model.specs.declared.problem.Argument.TheVariants.{One as ModelOne, Many, Numbers, Members as ModelMembers}
use Rattle.qc_model.specs.declared.problem.Variable.{Variable as ModelVariable}
use Rattle.qc_model.specs.declared.problem.Target.{Target}
use Rattle.qc_model.specs.declared.problem.Target.TheVariants.{Var as VarTarget, Aggregate as Agg}
use Rattle.qc_model.specs.declared.problem.Aggregate.{Aggregate as ModelAggregate}
use Rattle.qc_model.specs.Content.{Game}
use Rattle.qc_model.specs.Canonical.{variable_name, aggregate_name, target_name}
use Rattle.qc_model.specs.declared.signature.ArgKind.{ArgKind}
use Rattle.qc_model.specs.declared.signature.ArgKind.TheVariants.{Integer as integer, Boolean as boolean, Integers as integers, Booleans as booleans, Numbers as numbers, Truths as truths, Members as members}
use Rattle.qc_model.specs.Valid.{is_number, is_truth, is_bits, is_integer_domain, is_variable_with, is_integer, is_boolean, is_of_sort, are_of_sorts, item_count, is_declared_by, arg_sees, argument_sees}
use Rattle.text_grammar.specs.declared.tree.Word.{Word}
use Rattle.text_grammar.specs.declared.tree.One.{One}
use Rattle.text_grammar.specs.declared.tree.One.TheVariants.{Name as OneName, Number as OneNumber, Truth as OneTruth}
use Rattle.text_grammar.specs.declared.tree.ArgumentText.{ArgumentText}
use Rattle.text_grammar.specs.declared.tree.ArgumentText.TheVariants.{One as OneArgument, Members as MembersArgument, Array}
use Rattle.text_resolve.specs.declared.names.Named.TheVariants.{Integer, Boolean, Aggregate}
use Rattle.text_resolve.specs.Owned.{word_bytes}
use Rattle.text_resolve.specs.Names.{Declared, look_up, one_uses, argument_uses, is_unknown}
use Rattle.text_resolve.specs.Fits.{is_integer_meant, is_boolean_meant, is_integer_one, is_boolean_one, is_number_one, is_truth_one, argument_fits, arguments_fit, items_of}
use Rattle.text_resolve.specs.Excess.{long_argument, first_long, or_else}
use Rattle.text_resolve.specs.Hidden.{is_later}
use Rattle.text_resolve.specs.Draft.{meant_arg, arg_of, literal_of, argument_of, arguments_of, meant_target}
use Rattle.text_reread.specs.Stands.{Along, StandsLiteral, StandsArg, StandsArgument, StandArguments}
use Rattle.text_reread.proofs.EachElement.{each_both}
use Rattle.text_reread.proofs.Targets.{domain_named, variable_scope, aggregate_scope, target_meant, IsThere}
use Rattle.text_reread.proofs.ReadDomains.{set_facts}
use Rattle.text_reread.proofs.Declares.{Looks}

integer_named : (d : Domain) (k : ℕ) → is_integer_domain d ≡ true → domain_named d k ≡ Integer k
integer_named Bits k h = absurd (false≢true h)
integer_named (RangeDomain low high) k h = refl
integer_named (ListedDomain ns) k h = refl

boolean_named : (d : Domain) (k : ℕ) → is_bits d ≡ true → domain_named d k ≡ Boolean k
boolean_named Bits k h = refl
boolean_named (RangeDomain low high) k h = absurd (false≢true h)
boolean_named (ListedDomain ns) k h = absurd (false≢true h)

module _ (text : List ℕ) (g : Game) (ds : List Declared) (looks : Looks g ds) where
  -- the name of a target is found
  pub target_found : (t : Target) → IsThere g t → look_up ds (target_name g t) ≡ Some (target_meant g t)
  target_found (VarTarget x) h = go (slice_get g.variables x.0) refl h
    where
      go : (o : Option ModelVariable) → slice_get g.variables x.0 ≡ o → is_variable_with is_integer_domain o ≡ true → look_up ds (variable_name o) ≡ Some (record { named = Integer x.0; scope = variable_scope o })
      go None e h = absurd (false≢true h)
      go (Some y) e h = looks.variables x.0 y e ∙ ap (λ n. Some (record { named = n; scope = y.scope.0 })) (integer_named y.domain x.0 h)
  target_found (Agg q) h = go (slice_get g.aggregates q.0) refl h
    where
      go : (o : Option ModelAggregate) → slice_get g.aggregates q.0 ≡ o → is_some o ≡ true → look_up ds (aggregate_name o) ≡ Some (record { named = Aggregate q.0; scope = aggregate_scope o })
      go None e h = absurd (false≢true h)
      go (Some y) e h = looks.aggregates q.0 y e

  -- and stands for that target
  pub target_is : (t : Target) → meant_target (Some (target_meant g t)) ≡ t
  target_is (VarTarget x) = refl
  target_is (Agg q) = refl

  module _ (i : ℕ) where
    abbrev pub IsKnown : Word → Type 0
    IsKnown w = is_unknown text ds w ≡ false

    -- no later scope than i declares the name
    abbrev pub IsSeen : Word → Type 0
    IsSeen w = is_later i (look_up ds (word_bytes text w)) ≡ false

    -- an item says what an argument is, or an element of an array, with names that are declared and seen
    pub record ArgFacts (a : Arg) (b : One) : Type 0 where
      pub value : arg_of text ds b ≡ a
      pub known : AllByRecursion IsKnown (one_uses b)
      pub seen : AllByRecursion IsSeen (one_uses b)

    number_arg : (n : ℤ) (b : One) → StandsLiteral integer n b → ArgFacts (Num n) b × (is_integer_one text ds b ≡ true)
    number_arg n (OneName w) h = absurd h
    number_arg n (OneNumber k) h = (record { value = ap Num h; known = tt; seen = tt }, refl)
    number_arg n (OneTruth t) h = absurd h

    truth_arg : (n : ℤ) (b : One) → StandsLiteral boolean n b → ArgFacts (Num n) b × (is_boolean_one text ds b ≡ true)
    truth_arg n (OneName w) h = absurd h
    truth_arg n (OneNumber k) h = absurd h
    truth_arg n (OneTruth t) h = (record { value = ap Num h; known = tt; seen = tt }, refl)

    not_later : (scope : ℕ) → nat_le scope i ≡ true → nat_lt i scope ≡ false
    not_later scope h = le-ltb i scope (leb-true scope i h)

    -- an integer argument, which may be the item of an array
    integer_arg : (s : ArgKind) → ((n : ℤ) (b : One) → StandsLiteral s n b → StandsLiteral integer n b) → (a : Arg) (b : One) → StandsArg text g.variables s a b → is_integer g.variables a ≡ true → arg_sees g.variables i a ≡ true →
        ArgFacts a b × (is_integer_one text ds b ≡ true)
    integer_arg s c (Num n) b h v w = number_arg n b (c n b h)
    integer_arg s c (Var x) (OneName u) h v w = go (slice_get g.variables x.0) refl h v w
      where
        go : (o : Option ModelVariable) → slice_get g.variables x.0 ≡ o → word_bytes text u ≡ variable_name o → is_variable_with is_integer_domain o ≡ true → is_declared_by i o ≡ true → ArgFacts (Var x) (OneName u) × (is_integer_one text ds (OneName u) ≡ true)
        go None e h v w = absurd (false≢true v)
        go (Some y) e h v w =
            let found : look_up ds (word_bytes text u) ≡ Some (record { named = Integer x.0; scope = y.scope.0 }) = ap (look_up ds) h ∙ looks.variables x.0 y e ∙ ap (λ n. Some (record { named = n; scope = y.scope.0 })) (integer_named y.domain x.0 v) in
            (record { value = ap meant_arg found; known = (ap (λ o. is_none o) found, tt); seen = (ap (is_later i) found ∙ not_later y.scope.0 w, tt) }, ap is_integer_meant found)
    integer_arg s c (Var x) (OneNumber k) h v w = absurd h
    integer_arg s c (Var x) (OneTruth t) h v w = absurd h

    boolean_arg : (s : ArgKind) → ((n : ℤ) (b : One) → StandsLiteral s n b → StandsLiteral boolean n b) → (a : Arg) (b : One) → StandsArg text g.variables s a b → is_boolean g.variables a ≡ true → arg_sees g.variables i a ≡ true →
        ArgFacts a b × (is_boolean_one text ds b ≡ true)
    boolean_arg s c (Num n) b h v w = truth_arg n b (c n b h)
    boolean_arg s c (Var x) (OneName u) h v w = go (slice_get g.variables x.0) refl h v w
      where
        go : (o : Option ModelVariable) → slice_get g.variables x.0 ≡ o → word_bytes text u ≡ variable_name o → is_variable_with is_bits o ≡ true → is_declared_by i o ≡ true → ArgFacts (Var x) (OneName u) × (is_boolean_one text ds (OneName u) ≡ true)
        go None e h v w = absurd (false≢true v)
        go (Some y) e h v w =
            let found : look_up ds (word_bytes text u) ≡ Some (record { named = Boolean x.0; scope = y.scope.0 }) = ap (look_up ds) h ∙ looks.variables x.0 y e ∙ ap (λ n. Some (record { named = n; scope = y.scope.0 })) (boolean_named y.domain x.0 v) in
            (record { value = ap meant_arg found; known = (ap (λ o. is_none o) found, tt); seen = (ap (is_later i) found ∙ not_later y.scope.0 w, tt) }, ap is_boolean_meant found)
    boolean_arg s c (Var x) (OneNumber k) h v w = absurd h
    boolean_arg s c (Var x) (OneTruth t) h v w = absurd h

    integers_literal : (n : ℤ) (b : One) → StandsLiteral integers n b → StandsLiteral integer n b
    integers_literal n (OneName w) h = h
    integers_literal n (OneNumber k) h = h
    integers_literal n (OneTruth t) h = h

    booleans_literal : (n : ℤ) (b : One) → StandsLiteral booleans n b → StandsLiteral boolean n b
    booleans_literal n (OneName w) h = h
    booleans_literal n (OneNumber k) h = h
    booleans_literal n (OneTruth t) h = h

    -- the items of an array
    record ItemsFacts {A : Type 0} (f : One → A) (q : One → Bool) (ls : List A) (bs : List One) : Type 0 where
      value : map f bs ≡ ls
      fits : list_all q bs ≡ true
      known : AllByRecursion IsKnown (flat_map one_uses bs)
      seen : AllByRecursion IsSeen (flat_map one_uses bs)
      count : length bs ≡ length ls

    args_facts : (s : ArgKind) (p : Arg → Bool) (q : One → Bool) → ((a : Arg) (b : One) → StandsArg text g.variables s a b → p a ≡ true → arg_sees g.variables i a ≡ true → ArgFacts a b × (q b ≡ true)) →
        (ls : List Arg) (bs : List One) → Along (StandsArg text g.variables s) ls bs → list_all p ls ≡ true → list_all (arg_sees g.variables i) ls ≡ true → ItemsFacts (arg_of text ds) q ls bs
    args_facts s p q each [] [] h v w = record { value = refl; fits = refl; known = tt; seen = tt; count = refl }
    args_facts s p q each (a ∷ ls) (b ∷ bs) h v w =
        let t = and_parts (p a) (list_all p ls) v in
        let u = and_parts (arg_sees g.variables i a) (list_all (arg_sees g.variables i) ls) w in
        let x = each a b h.0 t.0 u.0 in
        let r = args_facts s p q each ls bs h.1 t.1 u.1 in
        let f = x.0 in
        record {
          value = ap (λ z. z ∷ map (arg_of text ds) bs) f.value ∙ ap (λ zs. a ∷ zs) r.value;
          fits = and_from (q b) (list_all q bs) x.1 r.fits;
          known = each_both IsKnown (one_uses b) (flat_map one_uses bs) f.known r.known;
          seen = each_both IsSeen (one_uses b) (flat_map one_uses bs) f.seen r.seen;
          count = ap suc r.count;
        }
    args_facts s p q each [] (b ∷ bs) h v w = absurd h
    args_facts s p q each (a ∷ ls) [] h v w = absurd h

    number_item : (n : ℤ) (b : One) → StandsLiteral numbers n b → (literal_of b ≡ n) × (is_number_one b ≡ true) × (one_uses b ≡ [])
    number_item n (OneName w) h = absurd h
    number_item n (OneNumber k) h = (h, refl, refl)
    number_item n (OneTruth t) h = absurd h

    truth_item : (n : ℤ) (b : One) → StandsLiteral truths n b → (literal_of b ≡ n) × (is_truth_one b ≡ true) × (one_uses b ≡ [])
    truth_item n (OneName w) h = absurd h
    truth_item n (OneNumber k) h = absurd h
    truth_item n (OneTruth t) h = (h, refl, refl)

    literals_facts : (s : ArgKind) (q : One → Bool) → ((n : ℤ) (b : One) → StandsLiteral s n b → (literal_of b ≡ n) × (q b ≡ true) × (one_uses b ≡ [])) →
        (ns : List ℤ) (bs : List One) → Along (StandsLiteral s) ns bs → ItemsFacts literal_of q ns bs
    literals_facts s q each [] [] h = record { value = refl; fits = refl; known = tt; seen = tt; count = refl }
    literals_facts s q each (n ∷ ns) (b ∷ bs) h =
        let x = each n b h.0 in
        let r = literals_facts s q each ns bs h.1 in
        record {
          value = ap (λ z. z ∷ map literal_of bs) x.0 ∙ ap (λ zs. n ∷ zs) r.value;
          fits = and_from (q b) (list_all q bs) x.1 r.fits;
          known = subst (λ ws. AllByRecursion IsKnown (ws ++ flat_map one_uses bs)) (sym x.2) r.known;
          seen = subst (λ ws. AllByRecursion IsSeen (ws ++ flat_map one_uses bs)) (sym x.2) r.seen;
          count = ap suc r.count;
        }
    literals_facts s q each [] (b ∷ bs) h = absurd h
    literals_facts s q each (n ∷ ns) [] h = absurd h

    -- an argument
    pub record ArgumentFacts (s : ArgKind) (a : ModelArgument) (b : ArgumentText) : Type 0 where
      pub value : argument_of text ds s b ≡ a
      pub fits : argument_fits text ds s b ≡ true
      pub known : AllByRecursion IsKnown (argument_uses b)
      pub seen : AllByRecursion IsSeen (argument_uses b)
      pub short : long_argument s b ≡ None
      pub count : items_of (Some b) ≡ item_count (Some a)

    few : (n m most at : ℕ) → n ≡ m → nat_le m most ≡ true → cond (nat_le n most) None (Some at) ≡ None
    few n m most at e h = cond-true (nat_le n most) None (Some at) (ap (λ k. nat_le k most) e ∙ h)

    -- an argument of its sort is read as it is
    pub argument_facts : (s : ArgKind) (a : ModelArgument) (b : ArgumentText) → StandsArgument text g.variables s a b → is_of_sort g.variables s a ≡ true → argument_sees g.variables i a ≡ true → ArgumentFacts s a b
    argument_facts integer (ModelOne a) (OneArgument b) h v w =
        let x = integer_arg integer (λ n c l. l) a b h v w in
        let f = x.0 in
        record { value = ap ModelOne f.value; fits = x.1; known = f.known; seen = f.seen; short = refl; count = refl }
    argument_facts boolean (ModelOne a) (OneArgument b) h v w =
        let x = boolean_arg boolean (λ n c l. l) a b h v w in
        let f = x.0 in
        record { value = ap ModelOne f.value; fits = x.1; known = f.known; seen = f.seen; short = refl; count = refl }
    argument_facts integers (Many ls) (Array at bs) h v w =
        let t = and_parts (nat_le (length ls) 1000) (list_all (is_integer g.variables) ls) v in
        let f = args_facts integers (is_integer g.variables) (is_integer_one text ds) (integer_arg integers integers_literal) ls bs h t.1 w in
        record { value = ap Many f.value; fits = f.fits; known = f.known; seen = f.seen; short = few (length bs) (length ls) 1000 at f.count t.0; count = f.count }
    argument_facts booleans (Many ls) (Array at bs) h v w =
        let t = and_parts (nat_le (length ls) 1000) (list_all (is_boolean g.variables) ls) v in
        let f = args_facts booleans (is_boolean g.variables) (is_boolean_one text ds) (boolean_arg booleans booleans_literal) ls bs h t.1 w in
        record { value = ap Many f.value; fits = f.fits; known = f.known; seen = f.seen; short = few (length bs) (length ls) 1000 at f.count t.0; count = f.count }
    argument_facts numbers (Numbers ns) (Array at bs) h v w =
        let t = and_parts (nat_le (length ns) 100000) (list_all is_number ns) v in
        let f = literals_facts numbers is_number_one number_item ns bs h in
        record { value = ap Numbers f.value; fits = f.fits; known = f.known; seen = f.seen; short = few (length bs) (length ns) 100000 at f.count t.0; count = f.count }
    argument_facts truths (Numbers ns) (Array at bs) h v w =
        let t = and_parts (nat_le (length ns) 100000) (list_all is_truth ns) v in
        let f = literals_facts truths is_truth_one truth_item ns bs h in
        record { value = ap Numbers f.value; fits = f.fits; known = f.known; seen = f.seen; short = few (length bs) (length ns) 100000 at f.count t.0; count = f.count }
    argument_facts members (ModelMembers m) (MembersArgument n) h v w =
        let f = set_facts m n h v in
        record { value = ap ModelMembers f.value; fits = refl; known = tt; seen = tt; short = f.short; count = refl }
    argument_facts integer (ModelOne a) b h v w = absurd h
    argument_facts boolean (ModelOne a) b h v w = absurd h
    argument_facts integers (Many ls) b h v w = absurd h
    argument_facts booleans (Many ls) b h v w = absurd h
    argument_facts numbers (Numbers ns) b h v w = absurd h
    argument_facts truths (Numbers ns) b h v w = absurd h
    argument_facts members (ModelMembers m) b h v w = absurd h
    argument_facts s a b h v w = absurd (false≢true v)

    -- the arguments of a constraint
    pub record ArgumentsFacts (sorts : List ArgKind) (args : List ModelArgument) (bs : List ArgumentText) : Type 0 where
      pub value : arguments_of text ds sorts bs ≡ args
      pub fits : arguments_fit text ds sorts bs ≡ true
      pub known : AllByRecursion IsKnown (flat_map argument_uses bs)
      pub seen : AllByRecursion IsSeen (flat_map argument_uses bs)
      pub short : first_long sorts bs ≡ None
      pub count : (k : ℕ) → items_of (slice_get bs k) ≡ item_count (slice_get args k)

    -- so are all of a constraint
    pub arguments_facts : (sorts : List ArgKind) (args : List ModelArgument) (bs : List ArgumentText) → StandArguments text g.variables sorts args bs → are_of_sorts g.variables sorts args ≡ true → list_all (argument_sees g.variables i) args ≡ true →
        ArgumentsFacts sorts args bs
    arguments_facts [] [] [] h v w = record { value = refl; fits = refl; known = tt; seen = tt; short = refl; count = λ k. refl }
    arguments_facts (s ∷ sorts) (a ∷ args) (b ∷ bs) h v w =
        let t = and_parts (is_of_sort g.variables s a) (are_of_sorts g.variables sorts args) v in
        let u = and_parts (argument_sees g.variables i a) (list_all (argument_sees g.variables i) args) w in
        let f = argument_facts s a b h.0 t.0 u.0 in
        let r = arguments_facts sorts args bs h.1 t.1 u.1 in
        record {
          value = ap (λ z. z ∷ arguments_of text ds sorts bs) f.value ∙ ap (λ zs. a ∷ zs) r.value;
          fits = and_from (argument_fits text ds s b) (arguments_fit text ds sorts bs) f.fits r.fits;
          known = each_both IsKnown (argument_uses b) (flat_map argument_uses bs) f.known r.known;
          seen = each_both IsSeen (argument_uses b) (flat_map argument_uses bs) f.seen r.seen;
          short = ap (λ o. or_else o (first_long sorts bs)) f.short ∙ r.short;
          count = λ k. counted f.count r.count k;
        }
      where
        counted : items_of (Some b) ≡ item_count (Some a) → ((k : ℕ) → items_of (slice_get bs k) ≡ item_count (slice_get args k)) → (k : ℕ) → items_of (slice_get (b ∷ bs) k) ≡ item_count (slice_get (a ∷ args) k)
        counted first later zero = first
        counted first later (suc k) = later k
    arguments_facts sorts args bs h v w = absurd h
