-- The names and numbers of an item, from the lexemes that write it.
use Rattle.std.proofs.Common.{◌≡◌, refl, ℕ, Bool, true, ◌&&◌, List, [], ◌∷◌, ◌++◌, map, ℤ}
use Rattle.std.proofs.lemmas.Bool.{and_from, and_parts}
use Rattle.std.specs.List.{list_all, AllByRecursion}
use Rattle.qc_model.specs.Names.{is_name}
use Rattle.qc_tokens.specs.declared.token.Token.{Token}
use Rattle.qc_tokens.specs.declared.token.Sort.{Sort}
use Rattle.qc_tokens.specs.declared.token.Sort.TheVariants.{Word as WordSort, Number as NumberSort, Sign as SignSort}
use Rattle.qc_tokens.specs.Tokens.{IsTokenOf}
use Rattle.text_grammar.specs.declared.tree.Word.{Word}
use Rattle.text_grammar.specs.declared.tree.Number.{Number as Figure}
use Rattle.text_grammar.specs.declared.tree.One.{One}
use Rattle.text_grammar.specs.declared.tree.One.TheVariants.{Name as OneName, Number as OneNumber, Truth as OneTruth}
use Rattle.text_grammar.specs.declared.tree.Members.{Members}
use Rattle.text_grammar.specs.declared.tree.Members.TheVariants.{Range, Braces}
use Rattle.text_grammar.specs.declared.tree.DomainText.{DomainText}
use Rattle.text_grammar.specs.declared.tree.DomainText.TheVariants.{Bits as BitsDomain, Members as MembersDomain}
use Rattle.text_grammar.specs.declared.tree.ArgumentText.{ArgumentText}
use Rattle.text_grammar.specs.declared.tree.ArgumentText.TheVariants.{One as OneArgument, Members as MembersArgument, Array}
use Rattle.text_grammar.specs.declared.tree.FoldText.{FoldText}
use Rattle.text_grammar.specs.declared.tree.FoldText.TheVariants.{Sum as SumFold, Least as LeastFold, Greatest as GreatestFold}
use Rattle.text_grammar.specs.declared.tree.Item.{Item}
use Rattle.text_grammar.specs.declared.tree.Item.TheVariants.{Exists as ExistsItem, Forall as ForallItem, Goal as GoalItem, Variable, Aggregate as AggregateItem, Constraint as ConstraintItem}
use Rattle.text_grammar.specs.declared.lexeme.Lexeme.{Lexeme}
use Rattle.text_grammar.specs.declared.lexeme.Lexeme.TheVariants.{Name, Semicolon, Colon, ParenClose, BracketClose, BraceClose}
use Rattle.text_grammar.specs.Grammar.{with_commas, between_commas, number_lexemes, one_lexemes, members_lexemes, domain_lexemes, argument_lexemes, fold_lexemes, item_lexemes}
use Rattle.text_resolve.specs.Owned.{owned_from, word_bytes}
use Rattle.text_resolve.specs.Names.{declared_from, declared}
use Rattle.text_valid.specs.Laws.{IsWritten}
use Rattle.text_valid.proofs.Each.{all_append, each_from}
use Rattle.text_valid.proofs.Written.{is_good, Passes, items_good}

module _ (q : ℤ → Bool) where
  -- the numbers of a range or of braces pass
  abbrev pub members_pass : Members → Bool
  members_pass (Range low high) = q low.value && q high.value
  members_pass (Braces at ns) = list_all (λ n. q n.value) ns

  -- the numbers of a domain pass
  abbrev pub domain_passes : DomainText → Bool
  domain_passes (BitsDomain at) = true
  domain_passes (MembersDomain m) = members_pass m

  -- a number passes
  abbrev pub one_passes : One → Bool
  one_passes (OneName w) = true
  one_passes (OneNumber n) = q n.value
  one_passes (OneTruth b) = true

  -- the numbers of an argument pass
  abbrev pub argument_passes : ArgumentText → Bool
  argument_passes (OneArgument a) = one_passes a
  argument_passes (MembersArgument m) = members_pass m
  argument_passes (Array at items) = list_all one_passes items

  -- the number of a fold passes
  abbrev pub fold_passes : FoldText → Bool
  fold_passes SumFold = true
  fold_passes (LeastFold n) = q n.value
  fold_passes (GreatestFold n) = q n.value

  -- the numbers of an item pass
  abbrev pub item_passes : Item → Bool
  item_passes (ExistsItem at condition) = true
  item_passes (ForallItem at) = true
  item_passes GoalItem = true
  item_passes (Variable at domain name) = domain_passes domain
  item_passes (AggregateItem at name fold target) = fold_passes fold
  item_passes (ConstraintItem at name args) = list_all argument_passes args

-- the name that an item declares is one
abbrev pub is_named : List ℕ → Item → Bool
is_named text (ExistsItem at condition) = true
is_named text (ForallItem at) = true
is_named text GoalItem = true
is_named text (Variable at domain name) = is_name (word_bytes text name)
is_named text (AggregateItem at name fold target) = is_name (word_bytes text name)
is_named text (ConstraintItem at name args) = true

module _ (q : ℤ → Bool) (text : List ℕ) where
  abbrev good : Lexeme → Bool
  good l = is_good q text l

  commas_pass : {A : Type 0} (f : A → List Lexeme) (p : A → Bool) → ((x : A) → list_all good (f x) ≡ true → p x ≡ true) → (xs : List A) → list_all good (with_commas f xs) ≡ true → list_all p xs ≡ true
  commas_pass f p each [] h = refl
  commas_pass f p each (x ∷ xs) h = let t = all_append good (f x) (with_commas f xs) h in and_from (p x) (list_all p xs) (each x t.0) (commas_pass f p each xs t.1)

  -- items with commas between them, each of which passes
  between_pass : {A : Type 0} (f : A → List Lexeme) (p : A → Bool) → ((x : A) → list_all good (f x) ≡ true → p x ≡ true) → (xs : List A) → list_all good (between_commas f xs) ≡ true → list_all p xs ≡ true
  between_pass f p each [] h = refl
  between_pass f p each (x ∷ xs) h = let t = all_append good (f x) (with_commas f xs) h in and_from (p x) (list_all p xs) (each x t.0) (commas_pass f p each xs t.1)

  number_good : (n : Figure) → list_all good (number_lexemes n) ≡ true → q n.value ≡ true
  number_good n h = (and_parts (q n.value) true h).0

  one_good : (a : One) → list_all good (one_lexemes a) ≡ true → one_passes q a ≡ true
  one_good (OneName w) h = refl
  one_good (OneNumber n) h = (and_parts (q n.value) true h).0
  one_good (OneTruth b) h = refl

  members_good : (m : Members) → list_all good (members_lexemes m) ≡ true → members_pass q m ≡ true
  members_good (Range low high) h =
      let t = and_parts (q low.value) (q high.value && true) h in
      and_from (q low.value) (q high.value) t.0 (and_parts (q high.value) true t.1).0
  members_good (Braces at ns) h = between_pass number_lexemes (λ n. q n.value) number_good ns (all_append good (between_commas number_lexemes ns) (BraceClose ∷ []) h).0

  domain_good : (d : DomainText) → list_all good (domain_lexemes d) ≡ true → domain_passes q d ≡ true
  domain_good (BitsDomain at) h = refl
  domain_good (MembersDomain m) h = members_good m h

  argument_good : (a : ArgumentText) → list_all good (argument_lexemes a) ≡ true → argument_passes q a ≡ true
  argument_good (OneArgument a) h = one_good a h
  argument_good (MembersArgument m) h = members_good m h
  argument_good (Array at items) h = between_pass one_lexemes (one_passes q) one_good items (all_append good (between_commas one_lexemes items) (BracketClose ∷ []) h).0

  fold_good : (f : FoldText) (target : Word) → list_all good (fold_lexemes f target ++ Semicolon ∷ []) ≡ true → fold_passes q f ≡ true
  fold_good SumFold target h = refl
  fold_good (LeastFold n) target h = (and_parts (q n.value) true (and_parts (is_name (word_bytes text target)) (q n.value && true) h).1).0
  fold_good (GreatestFold n) target h = (and_parts (q n.value) true (and_parts (is_name (word_bytes text target)) (q n.value && true) h).1).0

  -- an item that is written by good lexemes has a name and numbers that pass
  pub item_good : (i : Item) → list_all good (item_lexemes i) ≡ true → (is_named text i ≡ true) × (item_passes q i ≡ true)
  item_good (ExistsItem at condition) h = (refl, refl)
  item_good (ForallItem at) h = (refl, refl)
  item_good GoalItem h = (refl, refl)
  item_good (Variable at domain name) h =
      let t = all_append good (domain_lexemes domain) (Colon ∷ Name name ∷ Semicolon ∷ []) h in
      ((and_parts (is_name (word_bytes text name)) true t.1).0, domain_good domain t.0)
  item_good (AggregateItem at name fold target) h =
      let t = and_parts (is_name (word_bytes text name)) (list_all good (fold_lexemes fold target ++ Semicolon ∷ [])) h in
      (t.0, fold_good fold target t.1)
  item_good (ConstraintItem at name args) h =
      let t = and_parts (is_name (word_bytes text name)) (list_all good (between_commas argument_lexemes args ++ ParenClose ∷ Semicolon ∷ [])) h in
      (refl, between_pass argument_lexemes (argument_passes q) argument_good args (all_append good (between_commas argument_lexemes args) (ParenClose ∷ Semicolon ∷ []) t.1).0)

  each_good : (items : List Item) → AllByRecursion (λ i. list_all good (item_lexemes i) ≡ true) items → AllByRecursion (λ i. (is_named text i ≡ true) × (item_passes q i ≡ true)) items
  each_good [] h = tt
  each_good (i ∷ is) h = (item_good i h.0, each_good is h.1)

  -- each item declares a name, and its numbers pass what each number token passes
  pub written_items : (ts : List Token) (items : List Item) → IsWritten text ts items → AllByRecursion (Passes q text) ts → AllByRecursion (λ i. (is_named text i ≡ true) × (item_passes q i ≡ true)) items
  written_items ts items w p = each_good items (items_good q text items ts (each_from (IsTokenOf text) ts w.tokens) p w.problem)

-- each token passes a test that all numbers pass
any_token : (text : List ℕ) (ts : List Token) → AllByRecursion (Passes (λ z. true) text) ts
any_token text [] = tt
any_token text (t ∷ ts) = (any t.sort, any_token text ts)
  where
    any : (s : Sort) → (elim s [ WordSort ↦ true | NumberSort z ↦ true | SignSort b ↦ true ]) ≡ true
    any WordSort = refl
    any (NumberSort z) = refl
    any (SignSort b) = refl

-- the names of these declarations
names_from : (text : List ℕ) (xs qs n owner : ℕ) (items : List Item) → AllByRecursion (λ i. (is_named text i ≡ true) × (item_passes (λ z. true) i ≡ true)) items →
    list_all is_name (map (λ d. d.name) (declared_from text xs qs (owned_from n owner items))) ≡ true
names_from text xs qs n owner [] h = refl
names_from text xs qs n owner (ExistsItem at condition ∷ is) h = names_from text xs qs _ _ is h.1
names_from text xs qs n owner (ForallItem at ∷ is) h = names_from text xs qs _ _ is h.1
names_from text xs qs n owner (GoalItem ∷ is) h = names_from text xs qs _ _ is h.1
names_from text xs qs n owner (Variable at domain name ∷ is) h = and_from (is_name (word_bytes text name)) _ h.0.0 (names_from text _ qs n owner is h.1)
names_from text xs qs n owner (AggregateItem at name fold target ∷ is) h = and_from (is_name (word_bytes text name)) _ h.0.0 (names_from text xs _ n owner is h.1)
names_from text xs qs n owner (ConstraintItem at name args ∷ is) h = names_from text xs qs n owner is h.1

-- each name that is declared is a name
pub declared_names : (text : List ℕ) (ts : List Token) (items : List Item) → IsWritten text ts items → list_all is_name (map (λ d. d.name) (declared text items)) ≡ true
declared_names text ts items w = names_from text 0 0 0 0 items (written_items (λ z. true) text ts items w (any_token text ts))
