-- What tokens say of the items that they write: their names are names, and their numbers pass what each number token passes.
use Rattle.std.proofs.Common.{◌≡◌, ◌==◌, ap, refl, subst, ℕ, Bool, true, false, ◌||◌, not, cond, List, [], ◌∷◌, flat_map, ℤ, codes}
use Rattle.std.proofs.lemmas.Bool.{and_from}
use Rattle.std.specs.List.{list_all, list_any, AllByRecursion}
use Rattle.std.specs.Str.{bytes_eq}
use Rattle.qc_model.specs.Names.{is_word, is_name, reserved_words}
use Rattle.qc_model.specs.declared.problem.Sense.TheVariants.{Min, Max}
use Rattle.qc_tokens.specs.declared.token.Token.{Token}
use Rattle.qc_tokens.specs.declared.token.Sort.{Sort}
use Rattle.qc_tokens.specs.declared.token.Sort.TheVariants.{Word as WordSort, Number as NumberSort, Sign as SignSort}
use Rattle.qc_tokens.specs.Tokens.{token_bytes, IsTokenOf}
use Rattle.text_grammar.specs.declared.tree.Item.{Item}
use Rattle.text_grammar.specs.declared.lexeme.Lexeme.{Lexeme}
use Rattle.text_grammar.specs.declared.lexeme.Lexeme.TheVariants.{Exists, Forall, Goal, Solve, Var, Bits, Aggregate, Sum, Least, Greatest, Else, Optimise, Constraint, Truth, Name, Number, Semicolon, Colon, Comma, ParenOpen, ParenClose, BracketOpen, BracketClose, BraceOpen, BraceClose, Equals}
use Rattle.text_grammar.specs.Grammar.{IsProblem, item_lexemes}
use Rattle.text_grammar.specs.Lexemes.{word_lexeme, sign_lexeme, sort_lexeme, lexeme_of, lexemes_of}
use Rattle.text_resolve.specs.Owned.{word_bytes}
use Rattle.text_valid.proofs.Each.{all_append, all_flat}

module _ (q : ℤ → Bool) (text : List ℕ) where
  -- a name is one, and a number passes
  abbrev pub is_good : Lexeme → Bool
  is_good (Name w) = is_name (word_bytes text w)
  is_good (Number n) = q n.value
  is_good _ = true

  -- a number token passes
  abbrev pub sort_passes : Sort → Bool
  sort_passes WordSort = true
  sort_passes (NumberSort z) = q z
  sort_passes (SignSort b) = true

  pub record IsGood (l : Lexeme) : Type 0 where
    pub good : is_good l ≡ true

  -- past a word of the language
  step : (n : Lexeme) (b r : Bool) (l m : Lexeme) → IsGood l → ((r ≡ false → IsGood n) → IsGood m) → ((b || r) ≡ false → IsGood n) → IsGood (cond b l m)
  step n true r l m p k h = p
  step n false r l m p k h = k h

  sign : (b : Bool) (l m : Lexeme) → IsGood l → IsGood m → IsGood (cond b l m)
  sign true l m p k = p
  sign false l m p k = k

  -- the lexeme of a word
  word_good : (bytes : List ℕ) (start end : ℕ) → (list_any (bytes_eq bytes) reserved_words ≡ false → IsGood (Name (record { start = start; end = end }))) →
      IsGood (word_lexeme bytes start end)
  word_good bytes start end =
      let n = Name (record { start = start; end = end }) in
      step n (bytes_eq bytes (codes "exists")) _ (Exists start) _ (record { good = refl }) (
      step n (bytes_eq bytes (codes "forall")) _ (Forall start) _ (record { good = refl }) (
      step n (bytes_eq bytes (codes "goal")) _ Goal _ (record { good = refl }) (
      step n (bytes_eq bytes (codes "solve")) _ Solve _ (record { good = refl }) (
      step n (bytes_eq bytes (codes "var")) _ (Var start) _ (record { good = refl }) (
      step n (bytes_eq bytes (codes "bool")) _ (Bits start) _ (record { good = refl }) (
      step n (bytes_eq bytes (codes "aggregate")) _ (Aggregate start) _ (record { good = refl }) (
      step n (bytes_eq bytes (codes "sum")) _ Sum _ (record { good = refl }) (
      step n (bytes_eq bytes (codes "least")) _ Least _ (record { good = refl }) (
      step n (bytes_eq bytes (codes "greatest")) _ Greatest _ (record { good = refl }) (
      step n (bytes_eq bytes (codes "else")) _ Else _ (record { good = refl }) (
      step n (bytes_eq bytes (codes "minimize")) _ (Optimise Min) _ (record { good = refl }) (
      step n (bytes_eq bytes (codes "maximize")) _ (Optimise Max) _ (record { good = refl }) (
      step n (bytes_eq bytes (codes "constraint")) _ (Constraint start) _ (record { good = refl }) (
      step n (bytes_eq bytes (codes "true")) _ (Truth true) _ (record { good = refl }) (
      step n (bytes_eq bytes (codes "false")) _ (Truth false) _ (record { good = refl }) (
      λ h. h refl))))))))))))))))

  -- the lexeme of a sign
  sign_good : (b at : ℕ) → IsGood (sign_lexeme b at)
  sign_good b at =
      sign (b == 59) Semicolon _ (record { good = refl }) (
      sign (b == 58) Colon _ (record { good = refl }) (
      sign (b == 44) Comma _ (record { good = refl }) (
      sign (b == 40) ParenOpen _ (record { good = refl }) (
      sign (b == 41) ParenClose _ (record { good = refl }) (
      sign (b == 91) (BracketOpen at) _ (record { good = refl }) (
      sign (b == 93) BracketClose _ (record { good = refl }) (
      sign (b == 123) (BraceOpen at) _ (record { good = refl }) (
      sign (b == 125) BraceClose _ (record { good = refl }) (
      sign (b == 61) Equals _ (record { good = refl }) (
      record { good = refl }))))))))))

  -- the lexeme of a token
  sort_good : (bytes : List ℕ) (start end : ℕ) (s : Sort) → bytes ≡ word_bytes text (record { start = start; end = end }) → (s ≡ WordSort → is_word bytes ≡ true) → sort_passes s ≡ true →
      IsGood (sort_lexeme bytes start end s)
  sort_good bytes start end WordSort same w p =
      word_good bytes start end
      (λ none. record { good = subst (λ u. is_name u ≡ true) same (and_from (is_word bytes) (not (list_any (bytes_eq bytes) reserved_words)) (w refl) (ap not none)) })
  sort_good bytes start end (NumberSort z) same w p = record { good = p }
  sort_good bytes start end (SignSort b) same w p = sign_good b start

  abbrev pub Passes : Token → Type 0
  Passes t = sort_passes t.sort ≡ true

  tokens_good : (ts : List Token) → AllByRecursion (IsTokenOf text) ts → AllByRecursion Passes ts → list_all is_good (lexemes_of text ts) ≡ true
  tokens_good [] h p = refl
  tokens_good (t ∷ ts) h p =
      and_from (is_good (lexeme_of text t)) (list_all is_good (lexemes_of text ts))
      (sort_good (token_bytes text t) t.start t.end t.sort refl h.0.is_word p.0).good (tokens_good ts h.1 p.1)

  -- each item is written by good lexemes
  pub items_good : (items : List Item) (ts : List Token) → AllByRecursion (IsTokenOf text) ts → AllByRecursion Passes ts → IsProblem items (lexemes_of text ts) →
      AllByRecursion (λ i. list_all is_good (item_lexemes i) ≡ true) items
  items_good items ts h p problem =
      all_flat is_good item_lexemes items
      (all_append is_good (flat_map item_lexemes items) (Solve ∷ Semicolon ∷ []) (subst (λ ls. list_all is_good ls ≡ true) problem.written (tokens_good ts h p))).0
