-- Where tokens stop being a file.
use Rattle.std.proofs.Common.{◌≡◌, ◌≤◌, ◌<◌, ◌+◌, refl, sym, ap, ◌∙◌, subst, ℕ, true, false, List, [], ◌∷◌, ◌++◌, map, take, drop, get_or, length, inl, inr, append_assoc, append-nil, drop-cons, add-one, Option, Some, None, Ok}
use Rattle.std.specs.Prelude.{flat_map}
use Rattle.std.proofs.lemmas.List.{take_more, take_all, take-append-drop}
use Rattle.qdimacs.specs.declared.token.Token.{Token}
use Rattle.qdimacs.specs.declared.token.Sign.TheVariants.{Format, Cnf, Zero}
use Rattle.qdimacs.specs.declared.tree.NumberText.{NumberText}
use Rattle.qdimacs.specs.declared.tree.LiteralText.{LiteralText}
use Rattle.qdimacs.specs.declared.tree.SetText.{SetText}
use Rattle.qdimacs.specs.declared.tree.ClauseText.{ClauseText}
use Rattle.qdimacs.specs.declared.reader.Part.{Part}
use Rattle.qdimacs.specs.declared.reader.Part.TheVariants.{Format as AtFormat, Cnf as AtCnf, Variables as AtVariables, Clauses as AtClauses, Sets as AtSets, Set as InSet, Body as InBody}
use Rattle.qdimacs.specs.declared.reader.Advance.{Advance}
use Rattle.qdimacs.specs.declared.reader.Advance.TheVariants.{Taken, Refused}
use Rattle.qdimacs.specs.Grammar.{File, token, literal_token, set_tokens, clause_tokens, IsFile, Begins, StopsAt}
use Rattle.qdimacs.specs.Moves.{Reading, start, no_number, after_token, bind, after_all, is_nil, ends_at, is_whole, file_of, Answers}
use Rattle.qdimacs.proofs.Taken.{Reads, sets_of, open_set, body_of, reads, flat_map-push}
use Rattle.qdimacs.proofs.Complete.{file_is_read}

abbrev zero_token : Token
zero_token = token 0 Zero

abbrev empty_file : NumberText → File
empty_file v = record { variables = v; clauses = no_number; sets = []; body = [] }

-- what was read begins a file
reading_begins : (p : Part) (r : Reading) (ts : List Token) → Reads p r ts → Begins ts
reading_begins AtFormat r ts h = (
  empty_file no_number,
  token 0 Format ∷ token 0 Cnf ∷ zero_token ∷ zero_token ∷ [],
  record { p = 0; cnf = 0; variables = zero_token; clauses = zero_token; variables_count = refl; clauses_count = refl; are = ap (λ us. us ++ token 0 Format ∷ token 0 Cnf ∷ zero_token ∷ zero_token ∷ []) h.0 },
)
reading_begins AtCnf r ts h = (
  empty_file no_number,
  token 0 Cnf ∷ zero_token ∷ zero_token ∷ [],
  record { p = h.0.0; cnf = 0; variables = zero_token; clauses = zero_token; variables_count = refl; clauses_count = refl; are = ap (λ us. us ++ token 0 Cnf ∷ zero_token ∷ zero_token ∷ []) h.0.1 },
)
reading_begins AtVariables r ts h = (
  empty_file no_number,
  zero_token ∷ zero_token ∷ [],
  record { p = h.0.0; cnf = h.0.1; variables = zero_token; clauses = zero_token; variables_count = refl; clauses_count = refl; are = ap (λ us. us ++ zero_token ∷ zero_token ∷ []) h.0.2 },
)
reading_begins AtClauses r ts h = (
  empty_file r.variables,
  zero_token ∷ [],
  record { p = h.0.p; cnf = h.0.cnf; variables = h.0.variables; clauses = zero_token; variables_count = h.0.variables_count; clauses_count = refl; are = ap (λ us. us ++ zero_token ∷ []) h.0.are },
)
reading_begins AtSets r ts h = (
  record { variables = r.variables; clauses = r.clauses; sets = r.sets; body = [] },
  [],
  record {
    p = h.0.p;
    cnf = h.0.cnf;
    variables = h.0.variables;
    clauses = h.0.clauses;
    variables_count = h.0.variables_count;
    clauses_count = h.0.clauses_count;
    are = append-nil ts ∙ h.0.are ∙ ap (λ us. token h.0.p Format ∷ token h.0.cnf Cnf ∷ h.0.variables ∷ h.0.clauses ∷ us) (sym (append-nil (sets_of r)));
  },
)
reading_begins InSet r ts h =
    let s : SetText = record r.opened { end = 0 } in (
      record { variables = r.variables; clauses = r.clauses; sets = r.sets ++ s ∷ []; body = [] },
      zero_token ∷ [],
      record {
        p = h.0.p;
        cnf = h.0.cnf;
        variables = h.0.variables;
        clauses = h.0.clauses;
        variables_count = h.0.variables_count;
        clauses_count = h.0.clauses_count;
        are = ap (λ us. us ++ zero_token ∷ []) h.0.are
            ∙ ap (λ us. token h.0.p Format ∷ token h.0.cnf Cnf ∷ h.0.variables ∷ h.0.clauses ∷ us)
            (append_assoc (sets_of r) (open_set r) (zero_token ∷ []) ∙ sym (flat_map-push set_tokens r.sets s) ∙ sym (append-nil (flat_map set_tokens (r.sets ++ s ∷ []))));
      },
    )
reading_begins InBody r ts h =
    let d : ClauseText = record { literals = r.literals; end = 0 } in (
      record { variables = r.variables; clauses = r.clauses; sets = r.sets; body = r.body ++ d ∷ [] },
      zero_token ∷ [],
      record {
        p = h.p;
        cnf = h.cnf;
        variables = h.variables;
        clauses = h.clauses;
        variables_count = h.variables_count;
        clauses_count = h.clauses_count;
        are = ap (λ us. us ++ zero_token ∷ []) h.are
            ∙ ap (λ us. token h.p Format ∷ token h.cnf Cnf ∷ h.variables ∷ h.clauses ∷ us)
            (append_assoc (sets_of r) (body_of r) (zero_token ∷ [])
            ∙ ap (λ us. sets_of r ++ us) (append_assoc (flat_map clause_tokens r.body) (map literal_token r.literals) (zero_token ∷ []) ∙ sym (flat_map-push clause_tokens r.body d)));
      },
    )

-- a reading in which nothing is open is a file
no_literals : (ls : List LiteralText) → is_nil ls ≡ true → ls ≡ []
no_literals [] e = refl
no_literals (l ∷ ls) e = absurd cc

whole_is_file : (p : Part) (r : Reading) (ts : List Token) → Reads p r ts → ends_at p r.literals ≡ true → IsFile (file_of r) ts
whole_is_file AtFormat r ts h e = absurd cc
whole_is_file AtCnf r ts h e = absurd cc
whole_is_file AtVariables r ts h e = absurd cc
whole_is_file AtClauses r ts h e = absurd cc
whole_is_file InSet r ts h e = absurd cc
whole_is_file AtSets r ts h e =
    record {
      p = h.0.p;
      cnf = h.0.cnf;
      variables = h.0.variables;
      clauses = h.0.clauses;
      variables_count = h.0.variables_count;
      clauses_count = h.0.clauses_count;
      are = h.0.are ∙ ap (λ us. token h.0.p Format ∷ token h.0.cnf Cnf ∷ h.0.variables ∷ h.0.clauses ∷ us)
          (sym (append-nil (sets_of r)) ∙ ap (λ us. sets_of r ++ us) (sym (ap (λ cs. flat_map clause_tokens cs) h.1)));
    }
whole_is_file InBody r ts h e =
    record {
      p = h.p;
      cnf = h.cnf;
      variables = h.variables;
      clauses = h.clauses;
      variables_count = h.variables_count;
      clauses_count = h.clauses_count;
      are = h.are ∙ ap (λ us. token h.p Format ∷ token h.cnf Cnf ∷ h.variables ∷ h.clauses ∷ (sets_of r ++ us))
          (ap (λ ls. flat_map clause_tokens r.body ++ map literal_token ls) (no_literals r.literals e) ∙ append-nil (flat_map clause_tokens r.body));
    }

pub read_is_file : (ts : List Token) (r : Reading) → after_all start ts ≡ Some r → is_whole r ≡ true → IsFile (file_of r) ts
read_is_file ts r e w = whole_is_file r.part r ts (reads ts r e) w

pub read_begins : (ts : List Token) (r : Reading) → after_all start ts ≡ Some r → Begins ts
read_begins ts r e = reading_begins r.part r ts (reads ts r e)

-- a reading in which something is open is none
pub open_is_none : (ts : List Token) (r : Reading) → after_all start ts ≡ Some r → is_whole r ≡ false → (f : File) → ¬ IsFile f ts
open_is_none ts r e w f i =
    let d = file_is_read f ts i in
    let same : r ≡ d.reading = (let k : Some r ≡ Some d.reading = sym e ∙ d.taken in cc) in
    let k : false ≡ true = sym w ∙ ap is_whole same ∙ d.whole in absurd cc

pub bind_none : (ts us : List Token) (r : Reading) → after_all r ts ≡ None → after_all r (ts ++ us) ≡ None
bind_none [] us r e = absurd cc
bind_none (t ∷ ts) us r e = go (after_token r t) e (λ q. bind_none ts us q)
  where
    go : (o : Option Reading) → bind o (λ q. after_all q ts) ≡ None → ((q : Reading) → after_all q ts ≡ None → after_all q (ts ++ us) ≡ None) → bind o (λ q. after_all q (ts ++ us)) ≡ None
    go None e f = refl
    go (Some q) e f = f q e

bind_some : (o : Option Reading) → bind o (λ q. Some q) ≡ o
bind_some None = refl
bind_some (Some q) = refl

pub after_all-push : (ts : List Token) (t : Token) (r : Reading) → after_all r (ts ++ t ∷ []) ≡ bind (after_all r ts) (λ q. after_token q t)
after_all-push [] t r = bind_some (after_token r t)
after_all-push (u ∷ ts) t r = go (after_token r u) (λ q. after_all-push ts t q)
  where
    go : (o : Option Reading) → ((q : Reading) → after_all q (ts ++ t ∷ []) ≡ bind (after_all q ts) (λ p. after_token p t)) →
        bind o (λ q. after_all q (ts ++ t ∷ [])) ≡ bind (bind o (λ q. after_all q ts)) (λ p. after_token p t)
    go None f = refl
    go (Some q) f = f q

-- where a token can't follow what was read before it, the tokens stop there
pub token_stops : (size : ℕ) (before after : List Token) (t : Token) (r : Reading) → after_all start before ≡ Some r → after_token r t ≡ None → StopsAt size (before ++ t ∷ after) t.at
token_stops size before after t r e stuck = inl (record {
  before = before;
  stop = t;
  after = after;
  are = refl;
  place = refl;
  begin = read_begins before r e;
  no = λ b.
      let d = file_is_read b.0 ((before ++ t ∷ []) ++ b.1) b.2 in
      let n = bind_none (before ++ t ∷ []) b.1 start (after_all-push before t start ∙ ap (λ o. bind o (λ q. after_token q t)) e ∙ stuck) in
      let k : Some d.reading ≡ None = sym d.taken ∙ n in absurd cc;
})

pub end_stops : (size : ℕ) (ts : List Token) (r : Reading) → after_all start ts ≡ Some r → is_whole r ≡ false → StopsAt size ts size
end_stops size ts r e w = inr (record { place = refl; begin = read_begins ts r e; no = open_is_none ts r e w })

-- THE LOOP OVER THE TOKENS
abbrev pub HasRead : List Token → ℕ → Reading → Type 0
HasRead ts i r = after_all start (take i ts) ≡ Some r

when_taken : (o : Option Reading) (new : Reading) (s : Advance) → Answers o (Ok s) new → s ≡ Taken → o ≡ Some new
when_taken o new Taken a is = a
when_taken o new Refused a is = absurd cc

when_refused : (o : Option Reading) (new : Reading) (s : Advance) → Answers o (Ok s) new → s ≡ Refused → o ≡ None
when_refused o new Taken a is = absurd cc
when_refused o new Refused a is = a

pub has_read_more : (ts : List Token) (i : ℕ) (r q : Reading) (s : Advance) (d : Token) → i < length ts → HasRead ts i r → Answers (after_token r (get_or ts i d)) (Ok s) q → s ≡ Taken → HasRead ts (i + 1) q
has_read_more ts i r q s d lt inv a is =
    ap (λ us. after_all start us) (take_more ts i d lt) ∙ after_all-push (take i ts) (get_or ts i d) start ∙ ap (λ o. bind o (λ p. after_token p (get_or ts i d))) inv
    ∙ when_taken (after_token r (get_or ts i d)) q s a is

cut : (ts : List Token) (i : ℕ) (d : Token) → i < length ts → take i ts ++ get_or ts i d ∷ drop (i + 1) ts ≡ ts
cut ts i d lt =
    ap (λ k. take i ts ++ get_or ts i d ∷ drop k ts) (add-one i) ∙ ap (λ us. take i ts ++ us) (sym (drop-cons ts i d lt)) ∙ take-append-drop i ts

pub stops_at_token : (size : ℕ) (ts : List Token) (i : ℕ) (r q : Reading) (s : Advance) (d : Token) → i < length ts → HasRead ts i r → Answers (after_token r (get_or ts i d)) (Ok s) q → s ≡ Refused → StopsAt size ts (get_or ts i d).at
stops_at_token size ts i r q s d lt inv a is =
    subst (λ us. StopsAt size us (get_or ts i d).at) (cut ts i d lt) (token_stops size (take i ts) (drop (i + 1) ts) (get_or ts i d) r inv (when_refused (after_token r (get_or ts i d)) q s a is))

has_read_all : (ts : List Token) (i : ℕ) (r : Reading) → length ts ≤ i → HasRead ts i r → after_all start ts ≡ Some r
has_read_all ts i r le inv = ap (λ us. after_all start us) (sym (take_all i ts le)) ∙ inv

pub stops_at_end : (size : ℕ) (ts : List Token) (i : ℕ) (r : Reading) → length ts ≤ i → HasRead ts i r → is_whole r ≡ false → StopsAt size ts size
stops_at_end size ts i r le inv w = end_stops size ts r (has_read_all ts i r le inv) w

pub is_a_file : (ts : List Token) (i : ℕ) (r : Reading) (f : File) → length ts ≤ i → HasRead ts i r → is_whole r ≡ true → f ≡ file_of r → IsFile f ts
is_a_file ts i r f le inv w e = subst (λ g. IsFile g ts) (sym e) (read_is_file ts r (has_read_all ts i r le inv) w)
