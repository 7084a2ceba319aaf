-- The lengths that a predicate asks for, and the first word that passes a test.
use Rattle.std.proofs.Common.{◌≡◌, ◌∙◌, ap, subst, refl, ◌==◌, ◌%◌, ℕ, zero, suc, Bool, true, false, ◌&&◌, List, [], ◌∷◌, find, slice_get, Some, None}
use Rattle.std.specs.Prelude.{nat_lt, ⊤}
use Rattle.std.specs.Option.{option_map}
use Rattle.std.specs.List.{AllByRecursion}
use Rattle.std.proofs.lemmas.Bool.{and_parts, and_from, cond-false, false≢true}
use Rattle.std.proofs.lemmas.Option.{same_Some}
use Rattle.qc_model.specs.declared.problem.Pred.{Pred}
use Rattle.qc_model.specs.declared.problem.Pred.TheVariants.{IntEq}
use Rattle.qc_model.specs.declared.problem.Arg.TheVariants.{Var, Num}
use Rattle.qc_model.specs.declared.problem.Argument.{Argument as ModelArgument}
use Rattle.qc_model.specs.declared.problem.Argument.TheVariants.{One as ModelOne}
use Rattle.qc_model.specs.declared.problem.Variable.{Variable as ModelVariable}
use Rattle.qc_model.specs.declared.signature.ArgKind.{ArgKind}
use Rattle.qc_model.specs.declared.signature.ArgKind.TheVariants.{Integer as integer}
use Rattle.qc_model.specs.Signature.{arg_kinds_of}
use Rattle.qc_model.specs.Meaning.{Meaning, sum_equal, sum_different, sum_at_most, minimum, maximum, table, reified, meaning_of}
use Rattle.qc_model.specs.Valid.{item_count, is_literal, is_sum, have_lengths}
use Rattle.text_grammar.specs.declared.tree.Word.{Word}
use Rattle.text_grammar.specs.declared.tree.One.TheVariants.{Name as OneName, Number as OneNumber, Truth as OneTruth}
use Rattle.text_grammar.specs.declared.tree.ArgumentText.{ArgumentText}
use Rattle.text_grammar.specs.declared.tree.ArgumentText.TheVariants.{One as OneArgument}
use Rattle.text_resolve.specs.Names.{first_word}
use Rattle.text_resolve.specs.Fits.{items_of, is_number_argument, is_sum_text, lengths_fit}
use Rattle.text_reread.specs.Stands.{StandsArgument, StandArguments}

-- what a sum is compared with stands in the third place
abbrev EndsInNumber : Meaning → List ArgKind → Type 0
EndsInNumber sum_equal kinds = slice_get kinds 2 ≡ Some integer
EndsInNumber sum_different kinds = slice_get kinds 2 ≡ Some integer
EndsInNumber sum_at_most kinds = slice_get kinds 2 ≡ Some integer
EndsInNumber (reified m) kinds = EndsInNumber m kinds
EndsInNumber _ kinds = ⊤

ends_in_number : (p : Pred) → EndsInNumber (meaning_of p) (arg_kinds_of p)
ends_in_number IntEq = tt
ends_in_number _ = assumption

-- no word passes
pub wordless : (p : Word → Bool) (ws : List Word) → AllByRecursion (λ w. p w ≡ false) ws → first_word p ws ≡ None
wordless p [] h = refl
wordless p (w ∷ ws) h = ap (λ o. option_map (λ (u : Word). u.start) o) (cond-false (p w) (Some w) (find p ws) h.0) ∙ wordless p ws h.1

module _ (text : List ℕ) (xs : List ModelVariable) where
  literal_one : (a : ModelArgument) (b : ArgumentText) → StandsArgument text xs integer a b → is_literal (Some a) ≡ true → is_number_argument (Some b) ≡ true
  literal_one (ModelOne (Num n)) (OneArgument (OneNumber k)) h l = refl
  literal_one (ModelOne (Num n)) (OneArgument (OneName w)) h l = absurd h
  literal_one (ModelOne (Num n)) (OneArgument (OneTruth t)) h l = absurd h
  literal_one (ModelOne (Num n)) b h l = absurd h
  literal_one (ModelOne (Var x)) b h l = absurd (false≢true l)
  literal_one a b h l = absurd (false≢true l)

  -- a number of the problem is one of the text
  pub literal_at : (sorts : List ArgKind) (args : List ModelArgument) (bs : List ArgumentText) (k : ℕ) → StandArguments text xs sorts args bs → slice_get sorts k ≡ Some integer → is_literal (slice_get args k) ≡ true → is_number_argument (slice_get bs k) ≡ true
  literal_at [] [] [] k h e l = absurd (false≢true l)
  literal_at (s ∷ sorts) (a ∷ args) (b ∷ bs) zero h e l = literal_one a b (subst (λ z. StandsArgument text xs z a b) (same_Some s integer e) h.0) l
  literal_at (s ∷ sorts) (a ∷ args) (b ∷ bs) (suc k) h e l = literal_at sorts args bs k h.1 e l
  literal_at sorts args bs k h e l = absurd h

module _ (args : List ModelArgument) (bs : List ArgumentText) (count : (k : ℕ) → items_of (slice_get bs k) ≡ item_count (slice_get args k)) where
  sum_fits : (is_literal (slice_get args 2) ≡ true → is_number_argument (slice_get bs 2) ≡ true) → is_sum args ≡ true → is_sum_text bs ≡ true
  sum_fits l h =
      let t = and_parts (item_count (slice_get args 0) == item_count (slice_get args 1)) (is_literal (slice_get args 2)) h in
      and_from (items_of (slice_get bs 0) == items_of (slice_get bs 1)) (is_number_argument (slice_get bs 2))
      (ap (λ n. n == items_of (slice_get bs 1)) (count 0) ∙ ap (λ n. item_count (slice_get args 0) == n) (count 1) ∙ t.0) (l t.1)

  some_fit : nat_lt 0 (item_count (slice_get args 1)) ≡ true → nat_lt 0 (items_of (slice_get bs 1)) ≡ true
  some_fit h = ap (λ n. nat_lt 0 n) (count 1) ∙ h

  lengths_by : (m : Meaning) (kinds : List ArgKind) → EndsInNumber m kinds → (slice_get kinds 2 ≡ Some integer → is_literal (slice_get args 2) ≡ true → is_number_argument (slice_get bs 2) ≡ true) → have_lengths m args ≡ true → lengths_fit m bs ≡ true
  lengths_by sum_equal kinds e l h = sum_fits (l e) h
  lengths_by sum_different kinds e l h = sum_fits (l e) h
  lengths_by sum_at_most kinds e l h = sum_fits (l e) h
  lengths_by minimum kinds e l h = some_fit h
  lengths_by maximum kinds e l h = some_fit h
  lengths_by table kinds e l h =
      ap (λ n. nat_lt 0 n && (items_of (slice_get bs 1) % n == 0)) (count 0)
      ∙ ap (λ n. nat_lt 0 (item_count (slice_get args 0)) && (n % item_count (slice_get args 0) == 0)) (count 1) ∙ h
  lengths_by (reified m) kinds e l h = lengths_by m kinds e l h
  lengths_by _ kinds e l h = refl

  -- the lengths fit
  pub lengths_are : (p : Pred) → (slice_get (arg_kinds_of p) 2 ≡ Some integer → is_literal (slice_get args 2) ≡ true → is_number_argument (slice_get bs 2) ≡ true) → have_lengths (meaning_of p) args ≡ true → lengths_fit (meaning_of p) bs ≡ true
  lengths_are p l h = lengths_by (meaning_of p) (arg_kinds_of p) (ends_in_number p) l h
