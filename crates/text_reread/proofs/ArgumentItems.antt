-- The chunks of lists and of arguments are read as what they stand for.
use Rattle.std.proofs.Common.{◌≡◌, refl, sym, ap, ◌∙◌, ◌+◌, ℕ, Bool, true, false, cond, inl, inr, List, [], ◌∷◌, ◌++◌, map}
use Rattle.std.specs.Prelude.{ℤ, pos, codes, slice_get}
use Rattle.std.specs.List.{list_all}
use Rattle.std.specs.Ordering.{int_eq}
use Rattle.std.proofs.lemmas.Bool.{and_parts, or_cases}
use Rattle.std.proofs.lemmas.Bool.Decides.{Decides-int_eq}
use Rattle.qc_model.specs.declared.problem.Domain.{Domain}
use Rattle.qc_model.specs.declared.problem.Domain.TheVariants.{Bits, Range as RangeDomain, Listed as ListedDomain}
use Rattle.qc_model.specs.declared.problem.Set.{Set}
use Rattle.qc_model.specs.declared.problem.Set.TheVariants.{Range as RangeSet, Listed as ListedSet}
use Rattle.qc_model.specs.declared.problem.Arg.{Arg}
use Rattle.qc_model.specs.declared.problem.Arg.TheVariants.{Var, Num}
use Rattle.qc_model.specs.declared.problem.Argument.{Argument as ModelArgument}
use Rattle.qc_model.specs.declared.problem.Argument.TheVariants.{One as ModelOne, Many, Numbers, Members as ModelMembers}
use Rattle.qc_model.specs.declared.problem.Variable.{Variable}
use Rattle.qc_model.specs.declared.signature.ArgKind.{ArgKind}
use Rattle.qc_model.specs.declared.signature.ArgKind.TheVariants.{Integer as integer, Boolean as boolean, Integers as integers, Booleans as booleans, Numbers as numbers, Truths as truths, Members as members}
use Rattle.qc_model.specs.Valid.{is_number, is_truth}
use Rattle.qc_model.specs.Canonical.{variable_name, truth_text}
use Rattle.text_grammar.specs.declared.tree.Number.{Number as Figure}
use Rattle.text_grammar.specs.declared.tree.One.{One}
use Rattle.text_grammar.specs.declared.tree.One.TheVariants.{Name as OneName, Number as OneNumber, Truth as OneTruth}
use Rattle.text_grammar.specs.declared.tree.Members.{Members}
use Rattle.text_grammar.specs.declared.tree.Members.TheVariants.{Range, Braces}
use Rattle.text_grammar.specs.declared.tree.DomainText.{DomainText}
use Rattle.text_grammar.specs.declared.tree.DomainText.TheVariants.{Bits as BitsDomain, Members as MembersDomain}
use Rattle.text_grammar.specs.declared.tree.ArgumentText.{ArgumentText}
use Rattle.text_grammar.specs.declared.tree.ArgumentText.TheVariants.{One as OneArgument, Members as MembersArgument, Array}
use Rattle.text_grammar.specs.declared.lexeme.Lexeme.{Lexeme}
use Rattle.text_grammar.specs.declared.lexeme.Lexeme.TheVariants.{Truth, Comma, BraceOpen, BracketOpen}
use Rattle.text_grammar.specs.Grammar.{with_commas, between_commas, number_lexemes, one_lexemes, members_lexemes, domain_lexemes, argument_lexemes}
use Rattle.text_resolve.specs.Numbers.{number_values}
use Rattle.text_resolve.specs.Draft.{truth_number}
use Rattle.text_reread.specs.Chunks.{Chunk, word, figure, sign, dots}
use Rattle.text_reread.specs.Stands.{Along, StandsLiteral, StandsArg, StandsSet, StandsArgument, StandArguments, StandsDomain}
use Rattle.text_reread.specs.Spelled.{commas, between, figure_chunks, domain_chunks, set_chunks, literal_chunks, arg_chunks, argument_chunks, arguments_chunks}
use Rattle.text_reread.proofs.Places.{AllLie, place_after, lie_first, lie_later, word_at, figure_at, chunks_lexemes, then_read}
use Rattle.text_reread.proofs.Words.{name_lexeme}
use Rattle.text_reread.proofs.Spellable.{fits_literal, fits_arg, fits_set, fits_domain, fits_argument, fits_arguments}

-- chunks at a place are written as something that stands for what is meant
pub record Reads (B : Type 0) (form : B → List Lexeme) (Means : B → Type 0) (at : ℕ) (cs : List Chunk) : Type 0 where
  pub got : B
  pub written : chunks_lexemes at cs ≡ form got
  pub means : Means got

-- items with a comma before each, where each item is read
commas_read : {A B : Type 0} (text : List ℕ) (spell : A → List Chunk) (form : B → List Lexeme) (Means : A → B → Type 0) (p : A → Bool)
    → ((at : ℕ) (x : A) → p x ≡ true → AllLie text at (spell x) → Reads B form (Means x) at (spell x))
    → (at : ℕ) (xs : List A) → list_all p xs ≡ true → AllLie text at (commas (map spell xs)) → Reads (List B) (with_commas form) (Along Means xs) at (commas (map spell xs))
commas_read text spell form Means p each at [] h l = record { got = []; written = refl; means = tt }
commas_read text spell form Means p each at (x ∷ xs) h l =
    let k = and_parts (p x) (list_all p xs) h in
    let next = place_after (at + 1) (spell x) in
    let first = each (at + 1) x k.0 (lie_first text (at + 1) (spell x) (commas (map spell xs)) l.1) in
    let later = commas_read text spell form Means p each next xs k.1 (lie_later text (at + 1) (spell x) (commas (map spell xs)) l.1) in
    record {
      got = first.got ∷ later.got;
      written = ap (λ ls. Comma ∷ ls) (then_read (at + 1) (spell x) (commas (map spell xs)) (form first.got) first.written ∙ ap (λ ls. form first.got ++ ls) later.written);
      means = (first.means, later.means);
    }

-- items with commas between them
between_read : {A B : Type 0} (text : List ℕ) (spell : A → List Chunk) (form : B → List Lexeme) (Means : A → B → Type 0) (p : A → Bool)
    → ((at : ℕ) (x : A) → p x ≡ true → AllLie text at (spell x) → Reads B form (Means x) at (spell x))
    → (at : ℕ) (xs : List A) → list_all p xs ≡ true → AllLie text at (between (map spell xs)) → Reads (List B) (between_commas form) (Along Means xs) at (between (map spell xs))
between_read text spell form Means p each at [] h l = record { got = []; written = refl; means = tt }
between_read text spell form Means p each at (x ∷ xs) h l =
    let k = and_parts (p x) (list_all p xs) h in
    let next = place_after at (spell x) in
    let first = each at x k.0 (lie_first text at (spell x) (commas (map spell xs)) l) in
    let later = commas_read text spell form Means p each next xs k.1 (lie_later text at (spell x) (commas (map spell xs)) l) in
    record {
      got = first.got ∷ later.got;
      written = then_read at (spell x) (commas (map spell xs)) (form first.got) first.written ∙ ap (λ ls. form first.got ++ ls) later.written;
      means = (first.means, later.means);
    }

-- numbers
abbrev IsFigure : ℤ → Figure → Type 0
IsFigure n k = k.value ≡ n

-- a number is read as itself
figure_read : (text : List ℕ) (at : ℕ) (n : ℤ) → is_number n ≡ true → AllLie text at (figure_chunks n) → Reads Figure number_lexemes (IsFigure n) at (figure_chunks n)
figure_read text at n h l = record { got = figure_at at n; written = refl; means = refl }

-- numbers that are read one by one have the values
values_along : (ns : List ℤ) (ks : List Figure) → Along IsFigure ns ks → number_values ks ≡ ns
values_along [] [] h = refl
values_along [] (k ∷ ks) h = absurd h
values_along (n ∷ ns) [] h = absurd h
values_along (n ∷ ns) (k ∷ ks) h = ap (λ z. z ∷ number_values ks) h.0 ∙ ap (λ zs. n ∷ zs) (values_along ns ks h.1)

-- numbers in braces
record ReadsBraces (at : ℕ) (ns : List ℤ) (cs : List Chunk) : Type 0 where
  got : List Figure
  written : chunks_lexemes at cs ≡ members_lexemes (Braces at got)
  means : number_values got ≡ ns

-- numbers in braces are read as those numbers
braces_read : (text : List ℕ) (at : ℕ) (ns : List ℤ) → list_all is_number ns ≡ true → AllLie text at (sign 123 ∷ between (map figure_chunks ns) ++ sign 125 ∷ []) → ReadsBraces at ns (sign 123 ∷ between (map figure_chunks ns) ++ sign 125 ∷ [])
braces_read text at ns h l =
    let inner = between_read text figure_chunks number_lexemes IsFigure is_number (figure_read text) (at + 1) ns h (lie_first text (at + 1) (between (map figure_chunks ns)) (sign 125 ∷ []) l.1) in
    record {
      got = inner.got;
      written = ap (λ ls. BraceOpen at ∷ ls) (then_read (at + 1) (between (map figure_chunks ns)) (sign 125 ∷ []) (between_commas number_lexemes inner.got) inner.written);
      means = values_along ns inner.got inner.means;
    }

-- a set is read as a range or braces that say it
pub set_read : (text : List ℕ) (at : ℕ) (s : Set) → fits_set s ≡ true → AllLie text at (set_chunks s) → Reads Members members_lexemes (StandsSet s) at (set_chunks s)
set_read text at (RangeSet low high) h l =
    record { got = Range (figure_at at low) (figure_at (place_after at (figure low ∷ dots ∷ [])) high); written = refl; means = (refl, refl) }
set_read text at (ListedSet ns) h l =
    let b = braces_read text at ns h l in
    record { got = Braces at b.got; written = b.written; means = b.means }

-- a domain is read as one that says it
pub domain_read : (text : List ℕ) (at : ℕ) (d : Domain) → fits_domain d ≡ true → AllLie text at (domain_chunks d) → Reads DomainText domain_lexemes (StandsDomain d) at (domain_chunks d)
domain_read text at Bits h l = record { got = BitsDomain at; written = refl; means = tt }
domain_read text at (RangeDomain low high) h l =
    record { got = MembersDomain (Range (figure_at at low) (figure_at (place_after at (figure low ∷ dots ∷ [])) high)); written = refl; means = (refl, refl) }
domain_read text at (ListedDomain ns) h l =
    let b = braces_read text at ns h l in
    record { got = MembersDomain (Braces at b.got); written = b.written; means = b.means }

-- a truth value
record ReadsTruth (at : ℕ) (n : ℤ) : Type 0 where
  got : Bool
  written : chunks_lexemes at (word (truth_text n) ∷ []) ≡ Truth got ∷ []
  means : truth_number got ≡ n

-- a truth value is read as itself
truth_read : (at : ℕ) (n : ℤ) → is_truth n ≡ true → ReadsTruth at n
truth_read at n h = by (int_eq n (pos 1)) refl
  where
    by : (t : Bool) → int_eq n (pos 1) ≡ t → ReadsTruth at n
    by true e = record {
      got = true;
      written = ap (λ (t : Bool). chunks_lexemes at (word (cond t (codes "true") (codes "false")) ∷ [])) e;
      means = sym ((Decides-int_eq n (pos 1)).0 e);
    }
    by false e =
        let zero : int_eq n (pos 0) ≡ true = elim (or_cases (int_eq n (pos 0)) (int_eq n (pos 1)) h) [ inl z ↦ z | inr o ↦ absurd cc ] in
        record {
          got = false;
          written = ap (λ (t : Bool). chunks_lexemes at (word (cond t (codes "true") (codes "false")) ∷ [])) e;
          means = sym ((Decides-int_eq n (pos 0)).0 zero);
        }

-- that a literal is read as one that stands for it
abbrev LiteralRead : ℕ → ArgKind → ℤ → Type 0
LiteralRead at s n = Reads One one_lexemes (StandsLiteral s n) at (literal_chunks s n)

-- a literal is read so, as its sort asks
literal_read : (at : ℕ) (s : ArgKind) (n : ℤ) → fits_literal s n ≡ true → LiteralRead at s n
literal_read at boolean n h = let t = truth_read at n h in record { got = OneTruth t.got; written = t.written; means = t.means }
literal_read at booleans n h = let t = truth_read at n h in record { got = OneTruth t.got; written = t.written; means = t.means }
literal_read at truths n h = let t = truth_read at n h in record { got = OneTruth t.got; written = t.written; means = t.means }
literal_read at integer n h = record { got = OneNumber (figure_at at n); written = refl; means = refl }
literal_read at integers n h = record { got = OneNumber (figure_at at n); written = refl; means = refl }
literal_read at numbers n h = record { got = OneNumber (figure_at at n); written = refl; means = refl }
literal_read at members n h = absurd cc

-- a variable's name, a number or a truth value
arg_read : (text : List ℕ) (xs : List Variable) (s : ArgKind) (at : ℕ) (a : Arg) → fits_arg xs s a ≡ true → AllLie text at (arg_chunks xs s a) → Reads One one_lexemes (StandsArg text xs s a) at (arg_chunks xs s a)
arg_read text xs s at (Var x) h l =
    let name = variable_name (slice_get xs x.0) in
    record { got = OneName (word_at at name); written = ap (λ m. m ∷ []) (name_lexeme name at h); means = l.0 }
arg_read text xs s at (Num n) h l = let r = literal_read at s n h in record { got = r.got; written = r.written; means = r.means }

-- what stands in brackets
record ReadsArray (Means : List One → Type 0) (at : ℕ) (cs : List Chunk) : Type 0 where
  got : List One
  written : chunks_lexemes at cs ≡ argument_lexemes (Array at got)
  means : Means got

-- what is read with commas between makes an array in brackets
array_read : (at : ℕ) (cs : List Chunk) (Means : List One → Type 0) → Reads (List One) (between_commas one_lexemes) Means (at + 1) cs → ReadsArray Means at (sign 91 ∷ cs ++ sign 93 ∷ [])
array_read at cs Means r = record {
  got = r.got;
  written = ap (λ ls. BracketOpen at ∷ ls) (then_read (at + 1) cs (sign 93 ∷ []) (between_commas one_lexemes r.got) r.written);
  means = r.means;
}

-- an argument is read as one that stands for it
pub argument_read : (text : List ℕ) (xs : List Variable) (s : ArgKind) (at : ℕ) (a : ModelArgument) → fits_argument xs s a ≡ true → AllLie text at (argument_chunks xs s a) → Reads ArgumentText argument_lexemes (StandsArgument text xs s a) at (argument_chunks xs s a)
argument_read text xs s at (ModelOne a) h l =
    let r = arg_read text xs s at a h l in
    record { got = OneArgument r.got; written = r.written; means = r.means }
argument_read text xs s at (Many items) h l =
    let cs = between (map (arg_chunks xs s) items) in
    let inner = between_read text (arg_chunks xs s) one_lexemes (StandsArg text xs s) (fits_arg xs s) (arg_read text xs s) (at + 1) items h (lie_first text (at + 1) cs (sign 93 ∷ []) l.1) in
    let r = array_read at cs (Along (StandsArg text xs s) items) inner in
    record { got = Array at r.got; written = r.written; means = r.means }
argument_read text xs s at (Numbers ns) h l =
    let cs = between (map (literal_chunks s) ns) in
    let inner = between_read text (literal_chunks s) one_lexemes (StandsLiteral s) (fits_literal s) (λ m n k i. literal_read m s n k) (at + 1) ns h (lie_first text (at + 1) cs (sign 93 ∷ []) l.1) in
    let r = array_read at cs (Along (StandsLiteral s) ns) inner in
    record { got = Array at r.got; written = r.written; means = r.means }
argument_read text xs s at (ModelMembers m) h l =
    let r = set_read text at m h l in
    record { got = MembersArgument r.got; written = r.written; means = r.means }

-- the arguments of a constraint: each with a comma before it ..
more_arguments_read : (text : List ℕ) (xs : List Variable) (sorts : List ArgKind) (at : ℕ) (args : List ModelArgument) → fits_arguments xs sorts args ≡ true → AllLie text at (commas (arguments_chunks xs sorts args))
    → Reads (List ArgumentText) (with_commas argument_lexemes) (StandArguments text xs sorts args) at (commas (arguments_chunks xs sorts args))
more_arguments_read text xs [] at [] h l = record { got = []; written = refl; means = tt }
more_arguments_read text xs [] at (a ∷ args) h l = absurd cc
more_arguments_read text xs (s ∷ sorts) at [] h l = absurd cc
more_arguments_read text xs (s ∷ sorts) at (a ∷ args) h l =
    let k = and_parts (fits_argument xs s a) (fits_arguments xs sorts args) h in
    let cs = argument_chunks xs s a in
    let ds = commas (arguments_chunks xs sorts args) in
    let first = argument_read text xs s (at + 1) a k.0 (lie_first text (at + 1) cs ds l.1) in
    let later = more_arguments_read text xs sorts (place_after (at + 1) cs) args k.1 (lie_later text (at + 1) cs ds l.1) in
    record {
      got = first.got ∷ later.got;
      written = ap (λ ls. Comma ∷ ls) (then_read (at + 1) cs ds (argument_lexemes first.got) first.written ∙ ap (λ ls. argument_lexemes first.got ++ ls) later.written);
      means = (first.means, later.means);
    }

-- .. and with commas between them
pub arguments_read : (text : List ℕ) (xs : List Variable) (sorts : List ArgKind) (at : ℕ) (args : List ModelArgument) → fits_arguments xs sorts args ≡ true → AllLie text at (between (arguments_chunks xs sorts args))
    → Reads (List ArgumentText) (between_commas argument_lexemes) (StandArguments text xs sorts args) at (between (arguments_chunks xs sorts args))
arguments_read text xs [] at [] h l = record { got = []; written = refl; means = tt }
arguments_read text xs [] at (a ∷ args) h l = absurd cc
arguments_read text xs (s ∷ sorts) at [] h l = absurd cc
arguments_read text xs (s ∷ sorts) at (a ∷ args) h l =
    let k = and_parts (fits_argument xs s a) (fits_arguments xs sorts args) h in
    let cs = argument_chunks xs s a in
    let ds = commas (arguments_chunks xs sorts args) in
    let first = argument_read text xs s at a k.0 (lie_first text at cs ds l) in
    let later = more_arguments_read text xs sorts (place_after at cs) args k.1 (lie_later text at cs ds l) in
    record {
      got = first.got ∷ later.got;
      written = then_read at cs ds (argument_lexemes first.got) first.written ∙ ap (λ ls. argument_lexemes first.got ++ ls) later.written;
      means = (first.means, later.means);
    }
