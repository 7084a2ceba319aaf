-- The parts of a tree, as they are read.
use Rattle.std.proofs.Common.{◌≡◌, refl, sym, ap, ◌∙◌, subst, ℕ, ◌+◌, ◌≤◌, ◌<◌, List, [], ◌∷◌, ◌++◌, length, arith, append_assoc, le-leb, length-append, Bool, true, false, ◌&&◌, Option, Some, None}
use Rattle.std.specs.Prelude.{IsTrue, codes, MatchOption}
use Rattle.std.specs.Option.{is_some}
use Rattle.std.specs.List.{list_all}
use Rattle.std.specs.Fmt.{decimal}
use Rattle.std.proofs.lemmas.Bool.{ne_eqb, and_from, and_parts}
use Rattle.std.proofs.lemmas.List.{append-nil}
use Rattle.std.proofs.Math.Nat.{le-max_left, le-max_right}
use Rattle.qc_model.specs.declared.problem.VarId.{VarId}
use Rattle.proof_tree.specs.declared.tree.Version.{Version}
use Rattle.proof_tree.specs.declared.tree.Version.TheVariants.{One, Two}
use Rattle.proof_tree.specs.declared.tree.CaseList.{CaseList}
use Rattle.proof_tree.specs.declared.tree.Piece.{Piece}
use Rattle.proof_tree.specs.declared.tree.End.{Branch}
use Rattle.proof_tree.specs.Shape.{ending_of, branches_of, pieces_of, case_of}
use Rattle.proof_tree.specs.Tree.{Tree, tree, Body, stuck, goal, cases as cases_body, Ending, empty, barred, next, branch, Branches, no_more, piece, Case as TreeCase, skip, left_open, go}
use Rattle.proof_tree.specs.Pieces.{each_case, body_each, ending_each, branches_each, inner_each, is_one, version_has}
use Rattle.proof_tree.specs.Counts.{ending_depth, branch_depth, case_depth}
use Rattle.proof_tree.specs.Text.{is_place, horizon_fits, tree_fits, body_fits, ending_fits, step_fits, branches_fit, upto_fits, case_fits}
use Rattle.proof_text.specs.Parts.{ending_text, branches_text, upto_text, case_text}
use Rattle.proof_tree.proofs.Shapes.{ending_branch}
use Rattle.proof_text.specs.declared.part_fault.PartFault.{PartFault}
use Rattle.proof_text.specs.Symbols.{Symbol, byte, number, body, cases, ending, case, branches}
use Rattle.proof_text.specs.Running.{run}
use Rattle.proof_text.specs.Reading.{Fails, BeginsNot, Spells, PassesRange}
use Rattle.proof_text.proofs.Sequences.{fails_by}
use Rattle.proof_text.proofs.Forward.{branch_pieces}
use Rattle.proof_text.proofs.Backward.{max_within}

other : (c letter : ℕ) (cs : List ℕ) → BeginsNot letter (c ∷ cs) → c ≡ letter → ⊥
other c letter cs h e = h cs (ap (λ (x : ℕ). x ∷ cs) e)

-- a body that is no leaf is cases
pub no_leaf : (ver : Version) (n : ℕ) (text : List ℕ) (k : List Symbol) → BeginsNot 116 text → BeginsNot 103 text → run (body ver n ∷ k) text ≡ run (cases ver n ∷ k) text
no_leaf ver n [] k p q = refl
no_leaf ver n (c ∷ cs) k p q = rw (ne_eqb c 116 (other c 116 cs p), ne_eqb c 103 (other c 103 cs q)) refl

pub body_fails : (ver : Version) (n : ℕ) (text : List ℕ) (fault : PartFault) → BeginsNot 116 text → BeginsNot 103 text → Fails (cases ver n ∷ []) text fault → Fails (body ver n ∷ []) text fault
body_fails ver n text fault p q h = fails_by (body ver n ∷ []) (cases ver n ∷ []) text text fault (λ k. (k, no_leaf ver n text k p q)) h

-- a case that is neither skipped nor left open
pub no_skip : (ver : Version) (n : ℕ) (text : List ℕ) (k : List Symbol) → BeginsNot 115 text → BeginsNot 111 text → run (case ver n ∷ k) text ≡ run (cases ver n ∷ k) text
no_skip ver n [] k p q = refl
no_skip ver n (c ∷ cs) k p q = rw (ne_eqb c 115 (other c 115 cs p), ne_eqb c 111 (other c 111 cs q)) refl

pub case_fails : (ver : Version) (n : ℕ) (text : List ℕ) (fault : PartFault) → BeginsNot 115 text → BeginsNot 111 text → Fails (cases ver n ∷ []) text fault → Fails (case ver n ∷ []) text fault
case_fails ver n text fault p q h = fails_by (case ver n ∷ []) (cases ver n ∷ []) text text fault (λ k. (k, no_skip ver n text k p q)) h

pub piece_fails : (ver : Version) (n : ℕ) (text rest : List ℕ) (fault : PartFault) → n ≤ 1000 → BeginsNot 46 text → PassesRange ver text rest → Fails (case ver n ∷ []) rest fault → Fails (branches ver n ∷ []) text fault
piece_fails ver n text rest fault le r h g = fails_by (branches ver n ∷ []) (case ver n ∷ []) text rest fault (λ k. (branches ver n ∷ k, h r n le k)) g

pub not_some : {X : Type 0} (o : Option X) (P : Type 0) (Q : X → Type 0) → is_some o ≡ false → MatchOption o P Q → P
not_some None P Q e h = h
not_some (Some x) P Q e h = absurd (cc)

pub at_some : {X : Type 0} (o : Option X) (x : X) (P : Type 0) (Q : X → Type 0) → o ≡ Some x → MatchOption o P Q → Q x
at_some {X = X} o x P Q e h = subst (λ (p : Option X). MatchOption p P Q) e h

-- an ending takes bytes
pub ending_shorter : (end : Ending) (rest : List ℕ) → length rest < length (ending_text end ++ rest)
ending_shorter empty rest = omega arith
ending_shorter barred rest = omega arith
ending_shorter (next t) rest = simp length-append (omega arith)
ending_shorter (branch x bs) rest = simp length-append (omega arith)

pub cases_shorter : (a : List ℕ) (end : Ending) (text rest : List ℕ) → text ≡ a ++ (ending_text end ++ rest) → length rest < length text
cases_shorter a end text rest e =
    let s = ending_shorter end rest in
    let l = ap length e ∙ length-append a (ending_text end ++ rest) in
    omega arith

pub branch_spells : (ver : Version) (n : ℕ) (x : VarId) (list : CaseList) (line a b rest : List ℕ) → line ≡ 32 ∷ a → a ≡ decimal (x.0 + 1) ++ 10 ∷ b → IsTrue (is_place 500 x.0)
    → b ≡ branches_text (branches_of (pieces_of list)) ++ 46 ∷ 10 ∷ rest → IsTrue (branches_fit ver (branches_of (pieces_of list))) → (n + 1) + branch_depth (branches_of (pieces_of list)) ≤ 1000 → length rest ≤ length b
    → Spells (ending_text (ending_of (Branch x list))) (ending_fits ver (ending_of (Branch x list))) (n + ending_depth (ending_of (Branch x list))) (118 ∷ line) rest
branch_spells ver n x list line a b rest e f p g fit shallow le =
    let bs : Branches = branches_of (pieces_of list) in
    subst (λ (end : Ending). Spells (ending_text end) (ending_fits ver end) (n + ending_depth end) (118 ∷ line) rest) (sym (ending_branch x list)) (
      rw (e, f, g) (sym (branch_pieces (codes "v ") (decimal (x.0 + 1)) (codes "\n") (branches_text (branches_of (pieces_of list))) (codes ".\n") rest)),
      and_from _ _ p fit,
      omega arith,
      (let l = ap length f ∙ length-append (decimal (x.0 + 1)) (10 ∷ b) in let m = ap length e in omega arith),
    )

pub to_branch : (ver : Version) (n : ℕ) (k : List Symbol) (line : List ℕ) → n < 1000 → run (ending ver n ∷ k) (118 ∷ line) ≡ run (byte 32 ∷ number 500 10 ∷ branches ver (n + 1) ∷ k) line
to_branch ver n k line lt = rw (le-leb (n + 1) 1000 (omega arith)) refl

pub piece_told : (u c text mid rest : List ℕ) → text ≡ u ++ mid → mid ≡ c ++ rest → text ≡ (u ++ c) ++ rest
piece_told u c text mid rest h g = h ∙ ap (λ (l : List ℕ). u ++ l) g ∙ sym (append_assoc u c rest)

-- one more case in a list
abbrev pub piece_text : Piece → List ℕ
piece_text p = upto_text p.upto ++ case_text (case_of p.case)

abbrev pub piece_fits : Version → Piece → Bool
piece_fits ver p = upto_fits ver p.upto && case_fits ver (case_of p.case)

push_text : (ps : List Piece) (p : Piece) → branches_text (branches_of (ps ++ p ∷ [])) ≡ branches_text (branches_of ps) ++ piece_text p
push_text [] p = append-nil (piece_text p)
push_text (q ∷ ps) p =
    ap (λ (l : List ℕ). piece_text q ++ l) (push_text ps p) ∙ sym (append_assoc (piece_text q) (branches_text (branches_of ps)) (piece_text p))

push_fits : (ver : Version) (ps : List Piece) (p : Piece) → IsTrue (branches_fit ver (branches_of ps)) → IsTrue (piece_fits ver p) → IsTrue (branches_fit ver (branches_of (ps ++ p ∷ [])))
push_fits ver [] p h g = and_from _ _ g refl
push_fits ver (q ∷ ps) p h g =
    let r = and_parts (piece_fits ver q) (branches_fit ver (branches_of ps)) h in
    and_from _ _ r.0 (push_fits ver ps p r.1 g)

push_depth : (n : ℕ) (ps : List Piece) (p : Piece) → n + branch_depth (branches_of ps) ≤ 1000 → n + case_depth (case_of p.case) ≤ 1000 → n + branch_depth (branches_of (ps ++ p ∷ [])) ≤ 1000
push_depth n [] p h g = max_within 1000 n (case_depth (case_of p.case)) 0 g h
push_depth n (q ∷ ps) p h g =
    let left = le-max_left (case_depth (case_of q.case)) (branch_depth (branches_of ps)) in
    let right = le-max_right (case_depth (case_of q.case)) (branch_depth (branches_of ps)) in
    let rest = push_depth n ps p (omega arith) g in
    max_within 1000 n (case_depth (case_of q.case)) (branch_depth (branches_of (ps ++ p ∷ []))) (omega arith) rest

pub record Pushed (ver : Version) (n : ℕ) (all : List Piece) (text rest : List ℕ) : Type 0 where
  pub told : branches_text (branches_of all) ++ rest ≡ text
  pub fit : branches_fit ver (branches_of all) ≡ true
  pub shallow : n + branch_depth (branches_of all) ≤ 1000

pub pushed : (ver : Version) (n : ℕ) (ps all : List Piece) (p : Piece) (text rest more : List ℕ) → all ≡ ps ++ p ∷ [] → branches_text (branches_of ps) ++ rest ≡ text → branches_fit ver (branches_of ps) ≡ true → n + branch_depth (branches_of ps) ≤ 1000
    → Spells (piece_text p) (piece_fits ver p) (n + case_depth (case_of p.case)) rest more → Pushed ver n all text more
pushed ver n ps all p text rest more e h f d s = subst (λ (l : List Piece). Pushed ver n l text more) (sym e) (record {
  told = ap (λ (l : List ℕ). l ++ more) (push_text ps p) ∙ append_assoc (branches_text (branches_of ps)) (piece_text p) more ∙ ap (λ (l : List ℕ). branches_text (branches_of ps) ++ l) (sym s.0) ∙ h;
  fit = push_fits ver ps p f s.1;
  shallow = push_depth n ps p d s.2;
})

-- what a text of the first version says has no ranges
mutual
  tree_worded : (t : Tree) → IsTrue (tree_fits One t) → IsTrue (each_case is_one t)
  tree_worded (tree z c) f = body_worded c (and_parts (horizon_fits z) (body_fits One c) f).1

  body_worded : (c : Body) → IsTrue (body_fits One c) → IsTrue (body_each is_one c)
  body_worded stuck f = refl
  body_worded goal f = refl
  body_worded (cases_body steps end) f = ending_worded end (and_parts (list_all step_fits steps) (ending_fits One end) f).1

  ending_worded : (end : Ending) → IsTrue (ending_fits One end) → IsTrue (ending_each is_one end)
  ending_worded empty f = refl
  ending_worded barred f = refl
  ending_worded (next t) f = tree_worded t f
  ending_worded (branch x bs) f = branches_worded bs (and_parts (is_place 500 x.0) (branches_fit One bs) f).1

  branches_worded : (bs : Branches) → IsTrue (branches_fit One bs) → IsTrue (branches_each is_one bs)
  branches_worded no_more f = refl
  branches_worded (piece None c bs) f =
      let p = and_parts (case_fits One c) (branches_fit One bs) f in
      and_from _ _ (inner_worded c p.0) (branches_worded bs p.1)
  branches_worded (piece (Some high) c bs) f = absurd (cc)

  inner_worded : (c : TreeCase) → IsTrue (case_fits One c) → IsTrue (inner_each is_one c)
  inner_worded skip f = refl
  inner_worded left_open f = refl
  inner_worded (go steps end) f = ending_worded end (and_parts (list_all step_fits steps) (ending_fits One end) f).1

pub worded : (ver : Version) (t : Tree) → IsTrue (tree_fits ver t) → IsTrue (version_has ver t)
worded One t f = tree_worded t f
worded Two t f = refl
