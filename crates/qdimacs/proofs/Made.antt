-- From a file that isn't refused to its problem.
use Rattle.std.proofs.Common.{◌≡◌, ◌≤◌, sym, ap, ◌∙◌, subst, ℕ, List, map, length, arith, ◌++◌, Result, None, true, IsTrue}
use Rattle.std.specs.Prelude.{◌↔◌, IfOk}
use Rattle.std.proofs.lemmas.List.{length-map}
use Rattle.qc_model.specs.declared.problem.Kind.TheVariants.{Exists}
use Rattle.qc_model.specs.Content.{Game}
use Rattle.qc_model.specs.Game.{IsWon}
use Rattle.qc_model.specs.Valid.{IsValid}
use Rattle.qdimacs.specs.declared.tree.SetText.{SetText}
use Rattle.qdimacs.specs.declared.tree.ClauseText.{ClauseText}
use Rattle.qdimacs.specs.declared.fault.QdimacsFault.{QdimacsFault}
use Rattle.qdimacs.specs.declared.fault.QdimacsFault.TheVariants.{Refused, Memory}
use Rattle.qdimacs.specs.declared.token.Token.{Token}
use Rattle.qdimacs.specs.Formula.{Block, is_true}
use Rattle.qdimacs.specs.Content.{order, game_of}
use Rattle.qdimacs.specs.Grammar.{File, IsFile, StopsAt}
use Rattle.qdimacs.specs.Tokens.{tokens_of}
use Rattle.qdimacs.specs.Table.{draft_of}
use Rattle.qdimacs.specs.Refusals.{free_variables, free_blocks, block_of, clause_of, formula_of, first_refusal, has_positives, IsSyntaxFault, IsRefusal, no_file, bad_file, Explains}
use Rattle.qdimacs.specs.Read.{IsProblemOf}
use Rattle.qdimacs.proofs.Good.{taken_from, few_in_order, distinct}
use Rattle.qdimacs.proofs.Valid.{few_blocks, valid, draft_is}
use Rattle.qdimacs.proofs.Positive.{positives_in}
use Rattle.qdimacs.proofs.Wins.{won_where_true}

-- g is the file f, as its parts have it
module _ (f g : File) (view : g ≡ f) (free : SetText) (items us : List SetText) (are : us ≡ items)
    (made : map block_of items ≡ free_blocks (block_of free).variables ++ map block_of g.sets)
    (free_is : block_of free ≡ record { kind = Exists; variables = free_variables f }) where
  blocks_are : map block_of us ≡ (formula_of f).blocks
  blocks_are =
      ap (λ ss. map block_of ss) are ∙ made ∙ ap (λ (b : Block). free_blocks b.variables ++ map block_of g.sets) free_is ∙ ap (λ (h : File). free_blocks (free_variables f) ++ map block_of h.sets) view

  module _ (e : first_refusal f ≡ None) (p : has_positives f ≡ true) where
    pub enough_blocks : length us ≤ 64
    enough_blocks = omega (arith, length-map us block_of, ap length blocks_are, few_blocks f (taken_from f e) p)

    pub enough_variables : length (order (map block_of us)) ≤ 500
    enough_variables = omega (arith, ap (λ bs. length (order bs)) blocks_are, few_in_order f (taken_from f e) p)

    pub draft_gives : (cs : List ClauseText) → cs ≡ g.body → draft_of g.variables.value (record { blocks = map block_of us; clauses = map clause_of cs }) ≡ game_of (formula_of f)
    draft_gives cs same =
        ap (λ bs. draft_of g.variables.value (record { blocks = bs; clauses = map clause_of cs })) blocks_are
        ∙ ap (λ ds. draft_of g.variables.value (record { blocks = (formula_of f).blocks; clauses = map clause_of ds })) same
        ∙ ap (λ (h : File). draft_of h.variables.value (record { blocks = (formula_of f).blocks; clauses = map clause_of h.body })) view
        ∙ draft_is f (taken_from f e) p

pub if_ok_by : {E : Type 0} (r : Result Game E) (a b : Game) → a ≡ b → IfOk r (λ d. d ≡ a) → IfOk r (λ d. d ≡ b)
if_ok_by r a b e h = subst (λ c. IfOk r (λ d. d ≡ c)) e h

pub numbers_good : (text : List ℕ) (ts us : List Token) (f : File) → us ≡ ts → ts ≡ tokens_of text → IsFile f us → has_positives f ≡ true
numbers_good text ts us f a b i = positives_in text f (subst (λ ws. IsFile f ws) (a ∙ b) i)

pub is_valid : (f : File) (g : Game) → g ≡ game_of (formula_of f) → first_refusal f ≡ None → has_positives f ≡ true → IsValid g
is_valid f g e n p = subst IsValid (sym e) (valid f (taken_from f n) p)

pub problem_is : (text : List ℕ) (ts us : List Token) (f : File) (g d : Game) → us ≡ ts → ts ≡ tokens_of text → IsFile f us → first_refusal f ≡ None → d ≡ game_of (formula_of f) → g ≡ d → IsProblemOf text g
problem_is text ts us f g d a b i n e h =
    let k = subst (λ ws. IsFile f ws) (a ∙ b) i in
    record {
      file = f;
      states = record { is_file = k; is_taken = n };
      content = h ∙ e;
      meaning = subst (λ x. IsWon x ↔ IsTrue (is_true (formula_of f))) (sym (h ∙ e)) (won_where_true (formula_of f) (distinct f (taken_from f n) (positives_in text f k)));
    }

-- refusals
pub refusal_explains : (text : List ℕ) (ts us : List Token) (f : File) (e : QdimacsFault) → us ≡ ts → ts ≡ tokens_of text → IsFile f us → IsRefusal (first_refusal f) e → Explains text e
refusal_explains text ts us f (Refused kind at) a b i h = bad_file f (subst (λ ws. IsFile f ws) (a ∙ b) i) h
refusal_explains text ts us f (Memory e) a b i h = tt

pub syntax_explains : (text : List ℕ) (ts us : List Token) (size : ℕ) (e : QdimacsFault) → us ≡ ts → ts ≡ tokens_of text → size ≡ length text → IsSyntaxFault size us e → Explains text e
syntax_explains text ts us size (Refused kind at) a b s h = no_file h.0 (subst (λ n. StopsAt n (tokens_of text) at) s (subst (λ ws. StopsAt size ws at) (a ∙ b) h.1))
syntax_explains text ts us size (Memory e) a b s h = tt
