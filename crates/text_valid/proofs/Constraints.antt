-- The constraints of a text that meets no refusal.
use Rattle.std.proofs.Common.{◌≡◌, ◌∙◌, sym, ap, subst, refl, ◌==◌, ◌%◌, ℕ, zero, suc, Bool, true, false, ◌&&◌, List, [], ◌∷◌, length, map, filter_map, flat_map, Option, Some, None, slice_get, le-leb}
use Rattle.std.specs.Prelude.{nat_le, nat_lt}
use Rattle.std.specs.List.{list_all, AllByRecursion}
use Rattle.std.proofs.lemmas.List.{length-map}
use Rattle.std.proofs.lemmas.Bool.{ltb-false, and_from, and_parts}
use Rattle.qc_model.specs.declared.problem.Domain.{Domain}
use Rattle.qc_model.specs.declared.problem.Pred.{Pred}
use Rattle.qc_model.specs.declared.problem.Variable.{Variable as ModelVariable}
use Rattle.qc_model.specs.declared.problem.Aggregate.{Aggregate as ModelAggregate}
use Rattle.qc_model.specs.declared.signature.ArgKind.{ArgKind}
use Rattle.qc_model.specs.declared.signature.ArgKind.TheVariants.{Integer as integer, Boolean as boolean, Integers as integers, Booleans as booleans, Numbers as numbers, Truths as truths, Members as members}
use Rattle.qc_model.specs.Signature.{arg_kinds_of}
use Rattle.qc_model.specs.Meaning.{Meaning, sum_equal, sum_different, sum_at_most, minimum, maximum, table, reified, meaning_of}
use Rattle.qc_model.specs.Valid.{is_number, is_truth, is_bits, is_integer_domain, is_integer, is_boolean, is_of_sort, are_of_sorts, item_count, is_literal, is_sum, have_lengths, is_declared_by, arg_sees, argument_sees, is_constraint}
use Rattle.text_grammar.specs.declared.tree.Word.{Word}
use Rattle.text_grammar.specs.declared.tree.One.{One}
use Rattle.text_grammar.specs.declared.tree.One.TheVariants.{Name as OneName, Number as OneNumber, Truth as OneTruth}
use Rattle.text_grammar.specs.declared.tree.ArgumentText.{ArgumentText}
use Rattle.text_grammar.specs.declared.tree.ArgumentText.TheVariants.{One as OneArgument, Members as MembersArgument, Array}
use Rattle.text_grammar.specs.declared.tree.Item.{Item}
use Rattle.text_grammar.specs.declared.tree.Item.TheVariants.{Exists as ExistsItem, Forall as ForallItem, Goal as GoalItem, Variable, Aggregate as AggregateItem, Constraint as ConstraintItem}
use Rattle.text_resolve.specs.declared.names.Named.{Named}
use Rattle.text_resolve.specs.declared.names.Named.TheVariants.{Integer, Boolean, Aggregate}
use Rattle.text_resolve.specs.declared.names.Meant.{Meant}
use Rattle.text_resolve.specs.Owned.{Owned, owned, kinds_of, word_bytes}
use Rattle.text_resolve.specs.Names.{Declared, declared, look_up, one_uses, argument_uses}
use Rattle.text_resolve.specs.Fits.{predicate_of, is_integer_meant, is_boolean_meant, is_integer_one, is_boolean_one, is_number_one, is_truth_one, argument_fits, arguments_fit, items_of, is_number_argument, is_sum_text, lengths_fit, call_fits}
use Rattle.text_resolve.specs.Excess.{long_argument, first_long, long_call}
use Rattle.text_resolve.specs.Hidden.{is_later, hidden_in}
use Rattle.text_resolve.specs.Draft.{meant_arg, truth_number, arg_of, literal_of, argument_of, arguments_of, variable_of, aggregate_of, rule_of, constraint_of}
use Rattle.text_valid.proofs.Each.{passes, passed}
use Rattle.text_valid.proofs.Parts.{one_passes, argument_passes}
use Rattle.text_valid.proofs.Faults.{IsSound, neither_place, each_flat, each_wordless}
use Rattle.text_valid.proofs.Domains.{set_is}
use Rattle.text_valid.proofs.Lookups.{IsVariable, IsKnown, known}
use Rattle.text_valid.proofs.Targets.{variable_passes}

as_many : {X Y : Type 0} (f : X → Y) (xs : List X) (most : ℕ) → nat_le (length xs) most ≡ true → nat_le (length (map f xs)) most ≡ true
as_many f xs most h = ap (λ n. nat_le n most) (length-map xs f) ∙ h

-- an array of numbers
all_numbers : (os : List One) → list_all is_number_one os ≡ true → list_all (one_passes is_number) os ≡ true → list_all is_number (map literal_of os) ≡ true
all_numbers [] h n = refl
all_numbers (OneName w ∷ os) h n = absurd cc
all_numbers (OneNumber m ∷ os) h n = let t = and_parts (is_number m.value) (list_all (one_passes is_number) os) n in and_from (is_number m.value) (list_all is_number (map literal_of os)) t.0 (all_numbers os h t.1)
all_numbers (OneTruth b ∷ os) h n = absurd cc

-- a truth value is 0 or 1
truth_is : (b : Bool) → is_truth (truth_number b) ≡ true
truth_is true = refl
truth_is false = refl

-- an array of truth values
all_truths : (os : List One) → list_all is_truth_one os ≡ true → list_all is_truth (map literal_of os) ≡ true
all_truths [] h = refl
all_truths (OneName w ∷ os) h = absurd cc
all_truths (OneNumber m ∷ os) h = absurd cc
all_truths (OneTruth b ∷ os) h = and_from (is_truth (truth_number b)) (list_all is_truth (map literal_of os)) (truth_is b) (all_truths os h)

module _ (text : List ℕ) (items : List Item) where
  abbrev names : List Declared
  names = declared text items

  abbrev variables : List ModelVariable
  variables = filter_map (variable_of text) (owned items)

  abbrev aggregates : List ModelAggregate
  aggregates = filter_map (aggregate_of text (declared text items)) (owned items)

  -- an integer variable
  integer_meant : (named : Named) (scope : ℕ) → IsKnown variables aggregates named scope → is_integer_meant (Some (record { named = named; scope = scope })) ≡ true →
      is_integer variables (meant_arg (Some (record { named = named; scope = scope }))) ≡ true
  integer_meant (Integer k) scope h b = variable_passes variables k scope is_integer_domain h
  integer_meant (Boolean k) scope h b = absurd cc
  integer_meant (Aggregate q) scope h b = absurd cc

  -- a Boolean variable
  boolean_meant : (named : Named) (scope : ℕ) → IsKnown variables aggregates named scope → is_boolean_meant (Some (record { named = named; scope = scope })) ≡ true →
      is_boolean variables (meant_arg (Some (record { named = named; scope = scope }))) ≡ true
  boolean_meant (Integer k) scope h b = absurd cc
  boolean_meant (Boolean k) scope h b = variable_passes variables k scope is_bits h
  boolean_meant (Aggregate q) scope h b = absurd cc

  -- an integer variable or a number
  integer_is : (a : One) → is_integer_one text names a ≡ true → one_passes is_number a ≡ true → is_integer variables (arg_of text names a) ≡ true
  integer_is (OneName w) h n = go (look_up names (word_bytes text w)) refl h
    where
      go : (o : Option Meant) → look_up names (word_bytes text w) ≡ o → is_integer_meant o ≡ true → is_integer variables (meant_arg o) ≡ true
      go None e h = absurd cc
      go (Some m) e h = integer_meant m.named m.scope (known text items (word_bytes text w) m e) h
  integer_is (OneNumber m) h n = n
  integer_is (OneTruth b) h n = absurd cc

  -- a Boolean variable or a truth value
  boolean_is : (a : One) → is_boolean_one text names a ≡ true → is_boolean variables (arg_of text names a) ≡ true
  boolean_is (OneName w) h = go (look_up names (word_bytes text w)) refl h
    where
      go : (o : Option Meant) → look_up names (word_bytes text w) ≡ o → is_boolean_meant o ≡ true → is_boolean variables (meant_arg o) ≡ true
      go None e h = absurd cc
      go (Some m) e h = boolean_meant m.named m.scope (known text items (word_bytes text w) m e) h
  boolean_is (OneNumber m) h = absurd cc
  boolean_is (OneTruth b) h = truth_is b

  integers_are : (os : List One) → list_all (is_integer_one text names) os ≡ true → list_all (one_passes is_number) os ≡ true → list_all (is_integer variables) (map (arg_of text names) os) ≡ true
  integers_are [] h n = refl
  integers_are (a ∷ os) h n =
      let t = and_parts (is_integer_one text names a) (list_all (is_integer_one text names) os) h in
      let u = and_parts (one_passes is_number a) (list_all (one_passes is_number) os) n in
      and_from (is_integer variables (arg_of text names a)) (list_all (is_integer variables) (map (arg_of text names) os)) (integer_is a t.0 u.0) (integers_are os t.1 u.1)

  booleans_are : (os : List One) → list_all (is_boolean_one text names) os ≡ true → list_all (is_boolean variables) (map (arg_of text names) os) ≡ true
  booleans_are [] h = refl
  booleans_are (a ∷ os) h =
      let t = and_parts (is_boolean_one text names a) (list_all (is_boolean_one text names) os) h in
      and_from (is_boolean variables (arg_of text names a)) (list_all (is_boolean variables) (map (arg_of text names) os)) (boolean_is a t.0) (booleans_are os t.1)

  -- an argument that fits is of its sort
  argument_is : (s : ArgKind) (a : ArgumentText) → argument_fits text names s a ≡ true → argument_passes is_number a ≡ true → long_argument s a ≡ None → is_of_sort variables s (argument_of text names s a) ≡ true
  argument_is integer (OneArgument a) h n l = integer_is a h n
  argument_is integer (MembersArgument m) h n l = absurd cc
  argument_is integer (Array at os) h n l = absurd cc
  argument_is boolean (OneArgument a) h n l = boolean_is a h
  argument_is boolean (MembersArgument m) h n l = absurd cc
  argument_is boolean (Array at os) h n l = absurd cc
  argument_is integers (OneArgument a) h n l = absurd cc
  argument_is integers (MembersArgument m) h n l = absurd cc
  argument_is integers (Array at os) h n l = and_from (nat_le (length (map (arg_of text names) os)) 1000) (list_all (is_integer variables) (map (arg_of text names) os)) (as_many (arg_of text names) os 1000 (passed (nat_le (length os) 1000) at l)) (integers_are os h n)
  argument_is booleans (OneArgument a) h n l = absurd cc
  argument_is booleans (MembersArgument m) h n l = absurd cc
  argument_is booleans (Array at os) h n l = and_from (nat_le (length (map (arg_of text names) os)) 1000) (list_all (is_boolean variables) (map (arg_of text names) os)) (as_many (arg_of text names) os 1000 (passed (nat_le (length os) 1000) at l)) (booleans_are os h)
  argument_is numbers (OneArgument a) h n l = absurd cc
  argument_is numbers (MembersArgument m) h n l = absurd cc
  argument_is numbers (Array at os) h n l = and_from (nat_le (length (map literal_of os)) 100000) (list_all is_number (map literal_of os)) (as_many literal_of os 100000 (passed (nat_le (length os) 100000) at l)) (all_numbers os h n)
  argument_is truths (OneArgument a) h n l = absurd cc
  argument_is truths (MembersArgument m) h n l = absurd cc
  argument_is truths (Array at os) h n l = and_from (nat_le (length (map literal_of os)) 100000) (list_all is_truth (map literal_of os)) (as_many literal_of os 100000 (passed (nat_le (length os) 100000) at l)) (all_truths os h)
  argument_is members (OneArgument a) h n l = absurd cc
  argument_is members (MembersArgument m) h n l = set_is m n l
  argument_is members (Array at os) h n l = absurd cc

  -- arguments that fit are of the sorts
  arguments_are : (sorts : List ArgKind) (xs : List ArgumentText) → arguments_fit text names sorts xs ≡ true → list_all (argument_passes is_number) xs ≡ true → first_long sorts xs ≡ None →
      are_of_sorts variables sorts (arguments_of text names sorts xs) ≡ true
  arguments_are [] [] h n l = refl
  arguments_are [] (a ∷ xs) h n l = absurd cc
  arguments_are (s ∷ sorts) [] h n l = absurd cc
  arguments_are (s ∷ sorts) (a ∷ xs) h n l =
      let t = and_parts (argument_fits text names s a) (arguments_fit text names sorts xs) h in
      let u = and_parts (argument_passes is_number a) (list_all (argument_passes is_number) xs) n in
      let v = neither_place (long_argument s a) (first_long sorts xs) l in
      and_from (is_of_sort variables s (argument_of text names s a)) (are_of_sorts variables sorts (arguments_of text names sorts xs)) (argument_is s a t.0 u.0 v.0) (arguments_are sorts xs t.1 u.1 v.1)

  -- an argument has as many items xs the text says
  count_is : (s : ArgKind) (a : ArgumentText) → item_count (Some (argument_of text names s a)) ≡ items_of (Some a)
  count_is s (OneArgument a) = refl
  count_is s (MembersArgument m) = refl
  count_is integer (Array at os) = length-map os (arg_of text names)
  count_is boolean (Array at os) = length-map os (arg_of text names)
  count_is integers (Array at os) = length-map os (arg_of text names)
  count_is booleans (Array at os) = length-map os (arg_of text names)
  count_is numbers (Array at os) = length-map os literal_of
  count_is truths (Array at os) = length-map os literal_of
  count_is members (Array at os) = length-map os (arg_of text names)

  -- the same at each place
  counts_are : (sorts : List ArgKind) (xs : List ArgumentText) (k : ℕ) → arguments_fit text names sorts xs ≡ true → item_count (slice_get (arguments_of text names sorts xs) k) ≡ items_of (slice_get xs k)
  counts_are [] [] k h = refl
  counts_are [] (a ∷ xs) k h = absurd cc
  counts_are (s ∷ sorts) [] k h = absurd cc
  counts_are (s ∷ sorts) (a ∷ xs) zero h = count_is s a
  counts_are (s ∷ sorts) (a ∷ xs) (suc k) h = counts_are sorts xs k (and_parts (argument_fits text names s a) (arguments_fit text names sorts xs) h).1

  literal_is : (s : ArgKind) (a : ArgumentText) → is_number_argument (Some a) ≡ true → is_literal (Some (argument_of text names s a)) ≡ true
  literal_is s (OneArgument (OneName w)) h = absurd cc
  literal_is s (OneArgument (OneNumber n)) h = refl
  literal_is s (OneArgument (OneTruth b)) h = absurd cc
  literal_is s (MembersArgument m) h = absurd cc
  literal_is s (Array at os) h = absurd cc

  -- a number in the text is one in the problem
  literal_at : (sorts : List ArgKind) (xs : List ArgumentText) (k : ℕ) → arguments_fit text names sorts xs ≡ true → is_number_argument (slice_get xs k) ≡ true → is_literal (slice_get (arguments_of text names sorts xs) k) ≡ true
  literal_at [] [] k h n = absurd cc
  literal_at [] (a ∷ xs) k h n = absurd cc
  literal_at (s ∷ sorts) [] k h n = absurd cc
  literal_at (s ∷ sorts) (a ∷ xs) zero h n = literal_is s a n
  literal_at (s ∷ sorts) (a ∷ xs) (suc k) h n = literal_at sorts xs k (and_parts (argument_fits text names s a) (arguments_fit text names sorts xs) h).1 n

  -- the lengths are those that the meaning asks for
  lengths_are : (m : Meaning) (sorts : List ArgKind) (xs : List ArgumentText) → arguments_fit text names sorts xs ≡ true → lengths_fit m xs ≡ true → have_lengths m (arguments_of text names sorts xs) ≡ true
  lengths_are m sorts xs h l = go m l
    where
      sum : is_sum_text xs ≡ true → is_sum (arguments_of text names sorts xs) ≡ true
      sum l =
          let t = and_parts (items_of (slice_get xs 0) == items_of (slice_get xs 1)) (is_number_argument (slice_get xs 2)) l in
          and_from (item_count (slice_get (arguments_of text names sorts xs) 0) == item_count (slice_get (arguments_of text names sorts xs) 1)) (is_literal (slice_get (arguments_of text names sorts xs) 2))
          (ap (λ n. n == item_count (slice_get (arguments_of text names sorts xs) 1)) (counts_are sorts xs 0 h) ∙ ap (λ n. items_of (slice_get xs 0) == n) (counts_are sorts xs 1 h) ∙ t.0)
          (literal_at sorts xs 2 h t.1)

      second : nat_lt 0 (items_of (slice_get xs 1)) ≡ true → nat_lt 0 (item_count (slice_get (arguments_of text names sorts xs) 1)) ≡ true
      second l = ap (λ n. nat_lt 0 n) (counts_are sorts xs 1 h) ∙ l

      go : (m : Meaning) → lengths_fit m xs ≡ true → have_lengths m (arguments_of text names sorts xs) ≡ true
      go sum_equal l = sum l
      go sum_different l = sum l
      go sum_at_most l = sum l
      go minimum l = second l
      go maximum l = second l
      go table l =
          ap (λ n. nat_lt 0 n && (item_count (slice_get (arguments_of text names sorts xs) 1) % n == 0)) (counts_are sorts xs 0 h)
          ∙ ap (λ n. nat_lt 0 (items_of (slice_get xs 0)) && (n % items_of (slice_get xs 0) == 0)) (counts_are sorts xs 1 h) ∙ l
      go (reified m) l = go m l
      go _ l = refl

  module _ (i : ℕ) where
    abbrev is_later_word : Word → Bool
    is_later_word w = is_later i (look_up names (word_bytes text w))

    -- a variable that no later scope declares
    declared_before : (k scope : ℕ) (p : Domain → Bool) → IsVariable variables k scope p → nat_lt i scope ≡ false → is_declared_by i (slice_get variables k) ≡ true
    declared_before k scope p v e = subst (λ o. is_declared_by i o ≡ true) (sym v.found) (ap (λ n. nat_le n i) v.of_scope ∙ le-leb scope i (ltb-false i scope e))

    meant_sees : (named : Named) (scope : ℕ) → IsKnown variables aggregates named scope → nat_lt i scope ≡ false → arg_sees variables i (meant_arg (Some (record { named = named; scope = scope }))) ≡ true
    meant_sees (Integer k) scope h e = declared_before k scope is_integer_domain h e
    meant_sees (Boolean k) scope h e = declared_before k scope is_bits h e
    meant_sees (Aggregate q) scope h e = refl

    one_sees : (a : One) → AllByRecursion (λ w. is_later_word w ≡ false) (one_uses a) → arg_sees variables i (arg_of text names a) ≡ true
    one_sees (OneName w) h = go (look_up names (word_bytes text w)) refl h.0
      where
        go : (o : Option Meant) → look_up names (word_bytes text w) ≡ o → is_later i o ≡ false → arg_sees variables i (meant_arg o) ≡ true
        go None e h = refl
        go (Some m) e h = meant_sees m.named m.scope (known text items (word_bytes text w) m e) h
    one_sees (OneNumber n) h = refl
    one_sees (OneTruth b) h = refl

    ones_see : (os : List One) → AllByRecursion (λ a. AllByRecursion (λ w. is_later_word w ≡ false) (one_uses a)) os → list_all (arg_sees variables i) (map (arg_of text names) os) ≡ true
    ones_see [] h = refl
    ones_see (a ∷ os) h = and_from (arg_sees variables i (arg_of text names a)) (list_all (arg_sees variables i) (map (arg_of text names) os)) (one_sees a h.0) (ones_see os h.1)

    argument_sees_right : (s : ArgKind) (a : ArgumentText) → AllByRecursion (λ w. is_later_word w ≡ false) (argument_uses a) → argument_sees variables i (argument_of text names s a) ≡ true
    argument_sees_right s (OneArgument a) h = one_sees a h
    argument_sees_right s (MembersArgument m) h = refl
    argument_sees_right integer (Array at os) h = ones_see os (each_flat (λ w. is_later_word w ≡ false) one_uses os h)
    argument_sees_right boolean (Array at os) h = ones_see os (each_flat (λ w. is_later_word w ≡ false) one_uses os h)
    argument_sees_right integers (Array at os) h = ones_see os (each_flat (λ w. is_later_word w ≡ false) one_uses os h)
    argument_sees_right booleans (Array at os) h = ones_see os (each_flat (λ w. is_later_word w ≡ false) one_uses os h)
    argument_sees_right numbers (Array at os) h = refl
    argument_sees_right truths (Array at os) h = refl
    argument_sees_right members (Array at os) h = ones_see os (each_flat (λ w. is_later_word w ≡ false) one_uses os h)

    -- arguments that name nothing of a later scope
    arguments_see : (sorts : List ArgKind) (xs : List ArgumentText) → AllByRecursion (λ a. AllByRecursion (λ w. is_later_word w ≡ false) (argument_uses a)) xs →
        list_all (argument_sees variables i) (arguments_of text names sorts xs) ≡ true
    arguments_see [] xs h = refl
    arguments_see (s ∷ sorts) [] h = refl
    arguments_see (s ∷ sorts) (a ∷ xs) h =
        and_from (argument_sees variables i (argument_of text names s a)) (list_all (argument_sees variables i) (arguments_of text names sorts xs)) (argument_sees_right s a h.0) (arguments_see sorts xs h.1)

  -- the constraint of a call that fits
  rule_is : (owner : ℕ) (p : Option Pred) (xs : List ArgumentText) → call_fits text names p xs ≡ true → list_all (argument_passes is_number) xs ≡ true → long_call p xs ≡ None →
      AllByRecursion (λ a. AllByRecursion (λ w. is_later owner (look_up names (word_bytes text w)) ≡ false) (argument_uses a)) xs → passes (is_constraint variables) (rule_of text names owner p xs) ≡ true
  rule_is owner None xs h n l s = refl
  rule_is owner (Some p) xs h n l s =
      let t = and_parts (arguments_fit text names (arg_kinds_of p) xs) (lengths_fit (meaning_of p) xs) h in
      let new = arguments_of text names (arg_kinds_of p) xs in
      and_from (are_of_sorts variables (arg_kinds_of p) new && have_lengths (meaning_of p) new) (list_all (argument_sees variables owner) new)
      (and_from (are_of_sorts variables (arg_kinds_of p) new) (have_lengths (meaning_of p) new) (arguments_are (arg_kinds_of p) xs t.0 n l) (lengths_are (meaning_of p) (arg_kinds_of p) xs t.0 t.1))
      (arguments_see owner (arg_kinds_of p) xs s)

  -- the constraint of a sound item that sees its names
  pub item_constraint : (o : Owned) → IsSound text names o.item → hidden_in text names (kinds_of items) o ≡ None → passes (is_constraint variables) (constraint_of text names o) ≡ true
  item_constraint o s v = go o.item s v
    where
      go : (i : Item) → IsSound text names i → hidden_in text names (kinds_of items) (record { owner = o.owner; item = i }) ≡ None → passes (is_constraint variables) (constraint_of text names (record { owner = o.owner; item = i })) ≡ true
      go (ExistsItem at condition) s v = refl
      go (ForallItem at) s v = refl
      go GoalItem s v = refl
      go (Variable at domain name) s v = refl
      go (AggregateItem at name fold target) s v = refl
      go (ConstraintItem at name args) s v =
          rule_is o.owner (predicate_of (word_bytes text name)) args (passed (call_fits text names (predicate_of (word_bytes text name)) args) name.start s.fits) s.numbers s.short
          (each_flat (λ w. is_later o.owner (look_up names (word_bytes text w)) ≡ false) argument_uses args (each_wordless (λ w. is_later o.owner (look_up names (word_bytes text w))) (flat_map argument_uses args) v))
