-- What was read tells the tokens that were taken.
use Rattle.std.proofs.Common.{◌≡◌, refl, sym, ap, ◌∙◌, subst, ℕ, true, false, List, [], ◌∷◌, ◌++◌, map, append_assoc, append-nil, Option, Some, None}
use Rattle.std.specs.Prelude.{⊤, flat_map}
use Rattle.std.proofs.lemmas.List.{map-append}
use Rattle.qdimacs.specs.declared.token.Token.{Token}
use Rattle.qdimacs.specs.declared.token.Sign.{Sign}
use Rattle.qdimacs.specs.declared.token.Sign.TheVariants.{Format, Cnf, Quantifier, Zero, Number, Negative, Other}
use Rattle.qdimacs.specs.declared.tree.NumberText.{NumberText}
use Rattle.qdimacs.specs.declared.tree.SetText.{SetText}
use Rattle.qdimacs.specs.declared.tree.ClauseText.{ClauseText}
use Rattle.qdimacs.specs.declared.reader.Part.{Part}
use Rattle.qdimacs.specs.declared.reader.Part.TheVariants.{Format as AtFormat, Cnf as AtCnf, Variables as AtVariables, Clauses as AtClauses, Sets as AtSets, Set as InSet, Body as InBody}
use Rattle.qdimacs.specs.Grammar.{token, count_value, count_of, number_token, literal_token, set_tokens, clause_tokens}
use Rattle.qdimacs.specs.Moves.{Reading, start, no_set, with_variables, with_clauses, with_literal, body_move, set_move, sets_move, word_move, is_format, is_cnf, move, after_token, bind, after_all}

-- no set and no clause was read
pub record IsNew (r : Reading) : Type 0 where
  pub sets : r.sets ≡ []
  pub body : r.body ≡ []
  pub literals : r.literals ≡ []

-- the head, and the tokens behind it
pub record Head (r : Reading) (rest ts : List Token) : Type 0 where
  pub p : ℕ
  pub cnf : ℕ
  pub variables : Token
  pub clauses : Token
  pub variables_count : count_of variables ≡ Some r.variables
  pub clauses_count : count_of clauses ≡ Some r.clauses
  pub are : ts ≡ token p Format ∷ token cnf Cnf ∷ variables ∷ clauses ∷ rest

-- two words and a count
pub record Counted (r : Reading) (ts : List Token) : Type 0 where
  pub p : ℕ
  pub cnf : ℕ
  pub variables : Token
  pub variables_count : count_of variables ≡ Some r.variables
  pub are : ts ≡ token p Format ∷ token cnf Cnf ∷ variables ∷ []

abbrev pub sets_of : Reading → List Token
sets_of r = flat_map set_tokens r.sets

abbrev pub open_set : Reading → List Token
open_set r = token r.opened.at (Quantifier r.opened.kind) ∷ map number_token r.opened.variables

abbrev pub body_of : Reading → List Token
body_of r = flat_map clause_tokens r.body ++ map literal_token r.literals

-- the tokens that make a reader read this
abbrev pub Reads : Part → Reading → List Token → Type 0
Reads AtFormat r ts = (ts ≡ []) × IsNew r
Reads AtCnf r ts = ((p : ℕ) × (ts ≡ token p Format ∷ [])) × IsNew r
Reads AtVariables r ts = ((p : ℕ) × (cnf : ℕ) × (ts ≡ token p Format ∷ token cnf Cnf ∷ [])) × IsNew r
Reads AtClauses r ts = Counted r ts × IsNew r
Reads AtSets r ts = Head r (sets_of r) ts × (r.body ≡ []) × (r.literals ≡ [])
Reads InSet r ts = Head r (sets_of r ++ open_set r) ts × (r.body ≡ []) × (r.literals ≡ [])
Reads InBody r ts = Head r (sets_of r ++ body_of r) ts

abbrev pub OnSome : Option Reading → (Reading → Type 0) → Type 0
OnSome None P = ⊤
OnSome (Some r) P = P r

pub flat_map-push : {X Y : Type 0} (f : X → List Y) (xs : List X) (x : X) → flat_map f (xs ++ x ∷ []) ≡ flat_map f xs ++ f x
flat_map-push f [] x = append-nil (f x)
flat_map-push f (y ∷ xs) x = ap (λ zs. f y ++ zs) (flat_map-push f xs x) ∙ sym (append_assoc (f y) (flat_map f xs) (f x))

-- one token more behind the head
head_more : (r q : Reading) (rest more ts : List Token) (t : Token) → q.variables ≡ r.variables → q.clauses ≡ r.clauses → rest ++ t ∷ [] ≡ more → Head r rest ts → Head q more (ts ++ t ∷ [])
head_more r q rest more ts t v c e h = record {
  p = h.p;
  cnf = h.cnf;
  variables = h.variables;
  clauses = h.clauses;
  variables_count = h.variables_count ∙ ap Some (sym v);
  clauses_count = h.clauses_count ∙ ap Some (sym c);
  are = ap (λ us. us ++ t ∷ []) h.are ∙ ap (λ us. token h.p Format ∷ token h.cnf Cnf ∷ h.variables ∷ h.clauses ∷ us) e;
}

-- a literal or the end of a clause
in_body : (s : Sign) (at : ℕ) (r : Reading) (ts : List Token) → Head r (sets_of r ++ body_of r) ts → OnSome (body_move s at r) (λ q. Reads q.part q (ts ++ token at s ∷ []))
in_body (Number n) at r ts h =
    let q = with_literal r (record { at = at; positive = true; variable = n }) in
    head_more r q (sets_of r ++ body_of r) (sets_of q ++ body_of q) ts (token at (Number n)) refl refl
    (append_assoc (sets_of r) (body_of r) _ ∙ ap (λ us. sets_of r ++ us) (append_assoc (flat_map clause_tokens r.body) (map literal_token r.literals) _ ∙ ap (λ us. flat_map clause_tokens r.body ++ us) (sym (map-append literal_token r.literals _)))) h
in_body (Negative n) at r ts h =
    let q = with_literal r (record { at = at; positive = false; variable = n }) in
    head_more r q (sets_of r ++ body_of r) (sets_of q ++ body_of q) ts (token at (Negative n)) refl refl
    (append_assoc (sets_of r) (body_of r) _ ∙ ap (λ us. sets_of r ++ us) (append_assoc (flat_map clause_tokens r.body) (map literal_token r.literals) _ ∙ ap (λ us. flat_map clause_tokens r.body ++ us) (sym (map-append literal_token r.literals _)))) h
in_body Zero at r ts h =
    let c : ClauseText = record { literals = r.literals; end = at } in
    let q : Reading = record r { part = InBody; body = r.body ++ c ∷ []; literals = [] } in
    head_more r q (sets_of r ++ body_of r) (sets_of q ++ body_of q) ts (token at Zero) refl refl
    (append_assoc (sets_of r) (body_of r) _ ∙ ap (λ us. sets_of r ++ us) (append_assoc (flat_map clause_tokens r.body) (map literal_token r.literals) _ ∙ sym (flat_map-push clause_tokens r.body c) ∙ sym (append-nil (flat_map clause_tokens (r.body ++ c ∷ []))))) h
in_body Format at r ts h = tt
in_body Cnf at r ts h = tt
in_body (Quantifier k) at r ts h = tt
in_body Other at r ts h = tt

in_set : (s : Sign) (at : ℕ) (r : Reading) (ts : List Token) → r.part ≡ InSet → Head r (sets_of r ++ open_set r) ts → r.body ≡ [] → r.literals ≡ [] → OnSome (set_move s at r) (λ q. Reads q.part q (ts ++ token at s ∷ []))
in_set (Number n) at r ts e h b l =
    let q : Reading = record r { opened = record r.opened { variables = r.opened.variables ++ record { at = at; value = n } ∷ [] } } in
    subst (λ p. Reads p q (ts ++ token at (Number n) ∷ [])) (sym e) (
      head_more r q (sets_of r ++ open_set r) (sets_of q ++ open_set q) ts (token at (Number n)) refl refl
          (append_assoc (sets_of r) (open_set r) _ ∙ ap (λ us. sets_of r ++ (token r.opened.at (Quantifier r.opened.kind) ∷ us)) (sym (map-append number_token r.opened.variables _))) h,
      b,
      l,
    )
in_set Zero at r ts e h b l =
    let s : SetText = record r.opened { end = at } in
    let q : Reading = record r { part = AtSets; sets = r.sets ++ s ∷ []; opened = no_set } in (
      head_more r q (sets_of r ++ open_set r) (sets_of q) ts (token at Zero) refl refl
          (append_assoc (sets_of r) (open_set r) _ ∙ sym (flat_map-push set_tokens r.sets s)) h,
      b,
      l,
    )
in_set (Negative n) at r ts e h b l = tt
in_set Format at r ts e h b l = tt
in_set Cnf at r ts e h b l = tt
in_set (Quantifier k) at r ts e h b l = tt
in_set Other at r ts e h b l = tt

no_body : (r : Reading) → r.body ≡ [] → r.literals ≡ [] → sets_of r ≡ sets_of r ++ body_of r
no_body r b l = sym (append-nil (sets_of r)) ∙ ap (λ us. sets_of r ++ us) (sym (ap (λ cs. flat_map clause_tokens cs ++ map literal_token r.literals) b ∙ ap (λ ls. map literal_token ls) l))

at_sets : (s : Sign) (at : ℕ) (r : Reading) (ts : List Token) → Head r (sets_of r) ts → r.body ≡ [] → r.literals ≡ [] → OnSome (sets_move s at r) (λ q. Reads q.part q (ts ++ token at s ∷ []))
at_sets (Quantifier k) at r ts h b l =
    let q : Reading = record r { part = InSet; opened = record { at = at; kind = k; variables = []; end = 0 } } in
    (head_more r q (sets_of r) (sets_of q ++ open_set q) ts (token at (Quantifier k)) refl refl refl h, b, l)
at_sets (Number n) at r ts h b l = in_body (Number n) at r ts (subst (λ us. Head r us ts) (no_body r b l) h)
at_sets (Negative n) at r ts h b l = in_body (Negative n) at r ts (subst (λ us. Head r us ts) (no_body r b l) h)
at_sets Zero at r ts h b l = in_body Zero at r ts (subst (λ us. Head r us ts) (no_body r b l) h)
at_sets Format at r ts h b l = tt
at_sets Cnf at r ts h b l = tt
at_sets Other at r ts h b l = tt

at_variables : (s : Sign) (at : ℕ) (r : Reading) (ts : List Token) → Reads AtVariables r ts → (o : Option NumberText) → count_value at s ≡ o → OnSome (with_variables r o) (λ q. Reads q.part q (ts ++ token at s ∷ []))
at_variables s at r ts h None e = tt
at_variables s at r ts h (Some n) e =
    (record { p = h.0.0; cnf = h.0.1; variables = token at s; variables_count = e; are = ap (λ us. us ++ token at s ∷ []) h.0.2 }, record { sets = h.1.sets; body = h.1.body; literals = h.1.literals })

at_clauses : (s : Sign) (at : ℕ) (r : Reading) (ts : List Token) → Reads AtClauses r ts → (o : Option NumberText) → count_value at s ≡ o → OnSome (with_clauses r o) (λ q. Reads q.part q (ts ++ token at s ∷ []))
at_clauses s at r ts h None e = tt
at_clauses s at r ts h (Some n) e = (
  record {
    p = h.0.p;
    cnf = h.0.cnf;
    variables = h.0.variables;
    clauses = token at s;
    variables_count = h.0.variables_count;
    clauses_count = e;
    are = ap (λ us. us ++ token at s ∷ []) h.0.are ∙ ap (λ ss. token h.0.p Format ∷ token h.0.cnf Cnf ∷ h.0.variables ∷ token at s ∷ flat_map set_tokens ss) (sym h.1.sets);
  },
  h.1.body,
  h.1.literals,
)

at_format : (s : Sign) (at : ℕ) (r : Reading) (ts : List Token) → Reads AtFormat r ts → OnSome (word_move (is_format s) AtCnf r) (λ q. Reads q.part q (ts ++ token at s ∷ []))
at_format Format at r ts h = ((at, ap (λ us. us ++ token at Format ∷ []) h.0), record { sets = h.1.sets; body = h.1.body; literals = h.1.literals })
at_format Cnf at r ts h = tt
at_format (Quantifier k) at r ts h = tt
at_format Zero at r ts h = tt
at_format (Number n) at r ts h = tt
at_format (Negative n) at r ts h = tt
at_format Other at r ts h = tt

at_cnf : (s : Sign) (at : ℕ) (r : Reading) (ts : List Token) → Reads AtCnf r ts → OnSome (word_move (is_cnf s) AtVariables r) (λ q. Reads q.part q (ts ++ token at s ∷ []))
at_cnf Cnf at r ts h = ((h.0.0, at, ap (λ us. us ++ token at Cnf ∷ []) h.0.1), record { sets = h.1.sets; body = h.1.body; literals = h.1.literals })
at_cnf Format at r ts h = tt
at_cnf (Quantifier k) at r ts h = tt
at_cnf Zero at r ts h = tt
at_cnf (Number n) at r ts h = tt
at_cnf (Negative n) at r ts h = tt
at_cnf Other at r ts h = tt

step : (p : Part) (s : Sign) (at : ℕ) (r : Reading) (ts : List Token) → r.part ≡ p → Reads p r ts → OnSome (move p s at r) (λ q. Reads q.part q (ts ++ token at s ∷ []))
step AtFormat s at r ts e h = at_format s at r ts h
step AtCnf s at r ts e h = at_cnf s at r ts h
step AtVariables s at r ts e h = at_variables s at r ts h (count_value at s) refl
step AtClauses s at r ts e h = at_clauses s at r ts h (count_value at s) refl
step AtSets s at r ts e h = at_sets s at r ts h.0 h.1 h.2
step InSet s at r ts e h = in_set s at r ts e h.0 h.1 h.2
step InBody s at r ts e h = in_body s at r ts h

-- one token more
pub reads_more : (t : Token) (r q : Reading) (ts : List Token) → after_token r t ≡ Some q → Reads r.part r ts → Reads q.part q (ts ++ t ∷ [])
unfolding after_token
reads_more t r q ts e h = subst (λ o. OnSome o (λ q. Reads q.part q (ts ++ t ∷ []))) e (step r.part t.sign t.at r ts refl h)

reads_all : (us ts : List Token) (r q : Reading) → after_all r us ≡ Some q → Reads r.part r ts → Reads q.part q (ts ++ us)
reads_all [] ts r q e h = let same : r ≡ q = cc in subst (λ us. Reads q.part q us) (sym (append-nil ts)) (subst (λ s. Reads s.part s ts) same h)
reads_all (t ∷ us) ts r q e h = go (after_token r t) refl e (λ s k. reads_all us (ts ++ t ∷ []) s q k)
  where
    go : (o : Option Reading) → after_token r t ≡ o → bind o (λ s. after_all s us) ≡ Some q →
        ((s : Reading) → after_all s us ≡ Some q → Reads s.part s (ts ++ t ∷ []) → Reads q.part q ((ts ++ t ∷ []) ++ us)) → Reads q.part q (ts ++ t ∷ us)
    go None n e f = absurd cc
    go (Some s) n e f = subst (λ vs. Reads q.part q vs) (append_assoc ts (t ∷ []) us) (f s e (reads_more t r s ts n h))

pub reads : (ts : List Token) (r : Reading) → after_all start ts ≡ Some r → Reads r.part r ts
reads ts r e = reads_all ts [] start r e (refl, record { sets = refl; body = refl; literals = refl })
