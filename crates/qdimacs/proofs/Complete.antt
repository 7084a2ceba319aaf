-- The tokens of a file are taken, one after the other.
use Rattle.std.proofs.Common.{◌≡◌, refl, sym, ap, ◌∙◌, ℕ, Bool, true, false, List, [], ◌∷◌, ◌++◌, map, append_assoc, append-nil, Some}
use Rattle.std.specs.Prelude.{flat_map}
use Rattle.qc_model.specs.declared.problem.Kind.{Kind}
use Rattle.qdimacs.specs.declared.token.Token.{Token}
use Rattle.qdimacs.specs.declared.token.Sign.TheVariants.{Format, Cnf, Zero}
use Rattle.qdimacs.specs.declared.tree.NumberText.{NumberText}
use Rattle.qdimacs.specs.declared.tree.LiteralText.{LiteralText}
use Rattle.qdimacs.specs.declared.tree.SetText.{SetText}
use Rattle.qdimacs.specs.declared.tree.ClauseText.{ClauseText}
use Rattle.qdimacs.specs.declared.reader.Part.TheVariants.{Variables as AtVariables, Clauses as AtClauses, Sets as AtSets, Set as InSet, Body as InBody}
use Rattle.qdimacs.specs.Grammar.{File, token, count_of, number_token, literal_sign, literal_token, set_tokens, clause_tokens, IsFile}
use Rattle.qdimacs.specs.Moves.{Reading, start, no_number, no_set, with_variables, with_clauses, after_token, bind, after_all, is_whole, file_of}

module _ (v c : NumberText) where
  abbrev between : List SetText → Reading
  between ss = record { part = AtSets; variables = v; clauses = c; sets = ss; opened = no_set; body = []; literals = [] }

  abbrev within_set : List SetText → ℕ → Kind → List NumberText → Reading
  within_set ss at k ns = record { part = InSet; variables = v; clauses = c; sets = ss; opened = record { at = at; kind = k; variables = ns; end = 0 }; body = []; literals = [] }

  abbrev bodied : List SetText → List ClauseText → List LiteralText → Reading
  bodied ss cs ls = record { part = InBody; variables = v; clauses = c; sets = ss; opened = no_set; body = cs; literals = ls }

  run_numbers : (ss : List SetText) (at : ℕ) (k : Kind) (ms ns : List NumberText) (rest : List Token) → after_all (within_set ss at k ns) (map number_token ms ++ rest) ≡ after_all (within_set ss at k (ns ++ ms)) rest
  unfolding after_token
  run_numbers ss at k [] ns rest = ap (λ ms. after_all (within_set ss at k ms) rest) (sym (append-nil ns))
  run_numbers ss at k (m ∷ ms) ns rest = run_numbers ss at k ms (ns ++ m ∷ []) rest ∙ ap (λ ms. after_all (within_set ss at k ms) rest) (append_assoc ns (m ∷ []) ms)

  run_set : (ss : List SetText) (s : SetText) (rest : List Token) → after_all (between ss) (set_tokens s ++ rest) ≡ after_all (between (ss ++ s ∷ [])) rest
  unfolding after_token
  run_set ss s rest =
      ap (λ us. after_all (within_set ss s.at s.kind []) us) (append_assoc (map number_token s.variables) (token s.end Zero ∷ []) rest)
      ∙ run_numbers ss s.at s.kind s.variables [] (token s.end Zero ∷ rest)

  run_sets : (ts ss : List SetText) (rest : List Token) → after_all (between ss) (flat_map set_tokens ts ++ rest) ≡ after_all (between (ss ++ ts)) rest
  run_sets [] ss rest = ap (λ us. after_all (between us) rest) (sym (append-nil ss))
  run_sets (t ∷ ts) ss rest =
      ap (λ us. after_all (between ss) us) (append_assoc (set_tokens t) (flat_map set_tokens ts) rest)
      ∙ run_set ss t (flat_map set_tokens ts ++ rest)
      ∙ run_sets ts (ss ++ t ∷ []) rest
      ∙ ap (λ us. after_all (between us) rest) (append_assoc ss (t ∷ []) ts)

  run_literal : (ss : List SetText) (cs : List ClauseText) (ls : List LiteralText) (b : Bool) (at n : ℕ) (rest : List Token) →
      after_all (bodied ss cs ls) (token at (literal_sign b n) ∷ rest) ≡ after_all (bodied ss cs (ls ++ record { at = at; positive = b; variable = n } ∷ [])) rest
  unfolding after_token
  run_literal ss cs ls true at n rest = refl
  run_literal ss cs ls false at n rest = refl

  run_literals : (ss : List SetText) (cs : List ClauseText) (ks ls : List LiteralText) (rest : List Token) → after_all (bodied ss cs ls) (map literal_token ks ++ rest) ≡ after_all (bodied ss cs (ls ++ ks)) rest
  run_literals ss cs [] ls rest = ap (λ ks. after_all (bodied ss cs ks) rest) (sym (append-nil ls))
  run_literals ss cs (k ∷ ks) ls rest =
      run_literal ss cs ls k.positive k.at k.variable (map literal_token ks ++ rest)
      ∙ run_literals ss cs ks (ls ++ k ∷ []) rest ∙ ap (λ ks. after_all (bodied ss cs ks) rest) (append_assoc ls (k ∷ []) ks)

  run_clause : (ss : List SetText) (cs : List ClauseText) (d : ClauseText) (rest : List Token) → after_all (bodied ss cs []) (clause_tokens d ++ rest) ≡ after_all (bodied ss (cs ++ d ∷ []) []) rest
  unfolding after_token
  run_clause ss cs d rest =
      ap (λ us. after_all (bodied ss cs []) us) (append_assoc (map literal_token d.literals) (token d.end Zero ∷ []) rest)
      ∙ run_literals ss cs d.literals [] (token d.end Zero ∷ rest)

  run_clauses : (ss : List SetText) (ds cs : List ClauseText) → after_all (bodied ss cs []) (flat_map clause_tokens ds) ≡ Some (bodied ss (cs ++ ds) [])
  run_clauses ss [] cs = ap (λ ds. Some (bodied ss ds [])) (sym (append-nil cs))
  run_clauses ss (d ∷ ds) cs =
      run_clause ss cs d (flat_map clause_tokens ds) ∙ run_clauses ss ds (cs ++ d ∷ []) ∙ ap (λ ds. Some (bodied ss ds [])) (append_assoc cs (d ∷ []) ds)

  first_literal : (ss : List SetText) (b : Bool) (at n : ℕ) (rest : List Token) → after_all (between ss) (token at (literal_sign b n) ∷ rest) ≡ after_all (bodied ss [] []) (token at (literal_sign b n) ∷ rest)
  unfolding after_token
  first_literal ss true at n rest = refl
  first_literal ss false at n rest = refl

  -- the first token of a clause ends the sets
  first_clause : (ss : List SetText) (ls : List LiteralText) (end : ℕ) (rest : List Token) →
      after_all (between ss) ((map literal_token ls ++ token end Zero ∷ []) ++ rest) ≡ after_all (bodied ss [] []) ((map literal_token ls ++ token end Zero ∷ []) ++ rest)
  unfolding after_token
  first_clause ss [] end rest = refl
  first_clause ss (l ∷ ls) end rest = first_literal ss l.positive l.at l.variable ((map literal_token ls ++ token end Zero ∷ []) ++ rest)

-- the tokens of a file make the reader read it
pub record IsRead (f : File) (ts : List Token) : Type 0 where
  pub reading : Reading
  pub taken : after_all start ts ≡ Some reading
  pub whole : is_whole reading ≡ true
  pub file : file_of reading ≡ f

run_body : (f : File) (ds : List ClauseText) → f.body ≡ ds → (r : Reading) × (after_all (between f.variables f.clauses f.sets) (flat_map clause_tokens ds) ≡ Some r) × (is_whole r ≡ true) × (file_of r ≡ f)
run_body f [] e = (between f.variables f.clauses f.sets, refl, refl, ap (λ (ds : List ClauseText). record { variables = f.variables; clauses = f.clauses; sets = f.sets; body = ds }) (sym e))
run_body f (d ∷ ds) e = (
  bodied f.variables f.clauses f.sets (d ∷ ds) [],
  first_clause f.variables f.clauses f.sets d.literals d.end (flat_map clause_tokens ds) ∙ run_clauses f.variables f.clauses f.sets (d ∷ ds) [],
  refl,
  ap (λ (ds : List ClauseText). record { variables = f.variables; clauses = f.clauses; sets = f.sets; body = ds }) (sym e),
)

-- before the second count
abbrev counted : NumberText → Reading
counted v = record { part = AtClauses; variables = v; clauses = no_number; sets = []; opened = no_set; body = []; literals = [] }

run_head : (p cnf : ℕ) (x y : Token) (v c : NumberText) (rest : List Token) → count_of x ≡ Some v → count_of y ≡ Some c →
    after_all start (token p Format ∷ token cnf Cnf ∷ x ∷ y ∷ rest) ≡ after_all (between v c []) rest
unfolding after_token
run_head p cnf x y v c rest d e =
    ap (λ o. bind (with_variables (record start { part = AtVariables }) o) (λ q. bind (after_token q y) (λ q. after_all q rest))) d
    ∙ ap (λ o. bind (with_clauses (counted v) o) (λ q. after_all q rest)) e

pub file_is_read : (f : File) (ts : List Token) → IsFile f ts → IsRead f ts
file_is_read f ts i =
    let b = run_body f f.body refl in
    record {
      reading = b.0;
      taken =
          ap (λ us. after_all start us) i.are
          ∙ run_head i.p i.cnf i.variables i.clauses f.variables f.clauses (flat_map set_tokens f.sets ++ flat_map clause_tokens f.body) i.variables_count i.clauses_count
          ∙ run_sets f.variables f.clauses f.sets [] (flat_map clause_tokens f.body)
          ∙ b.1;
      whole = b.2;
      file = b.3;
    }
