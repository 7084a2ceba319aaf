-- A text's bytes, read into lines.
use Rattle.std.proofs.Common.{◌≡◌, ◌≤◌, ◌<◌, ◌+◌, ◌-◌, ◌^◌, ◌&&◌, ℕ, zero, suc, Bool, true, false, List, [], ◌∷◌, ◌++◌, length, take, drop, refl, sym, ap, ◌∙◌, subst, arith, inl, inr, append_assoc, length-append, take-append-drop, Option, Some, None, ℤ, IsTrue, Result, Ok, Err}
use Rattle.std.specs.Prelude.{slice_index, nat_le, IfErr}
use Rattle.std.proofs.Math.Seq.{take-append-add}
use Rattle.std.proofs.lemmas.Bool.Decides.{nat_tests}
use Rattle.std.proofs.lemmas.List.{take_more, take-append-le, length-take-le}
use Rattle.proof_tree.specs.declared.tree.Version.{Version}
use Rattle.proof_tree.specs.declared.tree.Outcome.{Outcome}
use Rattle.proof_tree.specs.declared.tree.Outcome.TheVariants.{True, False, Open}
use Rattle.proof_tree.specs.declared.line.Line.{Line}
use Rattle.proof_tree.specs.declared.line.Line.TheVariants.{Dot}
use Rattle.proof_tree.specs.Counts.{ends_of, body_ends, ending_ends, branch_ends, case_ends}
use Rattle.proof_tree.specs.Lines.{tree_lines, body_lines, ending_lines, branches_lines, case_lines}
use Rattle.proof_tree.specs.Text.{outcome_fits}
use Rattle.proof_tree.specs.Tree.{Tree, tree, Body, stuck, goal, cases, Ending, empty, barred, next, branch, Branches, no_more, piece, Case, skip, left_open, go}
use Rattle.proof_text.specs.declared.answer.Read.{Read}
use Rattle.proof_text.specs.declared.answer.Read.TheVariants.{Within, Head as HeadRead, Whole, TooDeep, Bad}
use Rattle.proof_text.specs.declared.fault.CertFault.{CertFault}
use Rattle.proof_text.specs.declared.fault.CertFault.TheVariants.{NotACertificate, TooDeep as DeepFault, Memory as Want}
use Rattle.proof_text.specs.Answers.{Told, nothing, headed, tell, is_nothing, StandsFor, IsTold, Says}
use Rattle.proof_text.specs.Laws.{HasFault, IsTextOrFault, NeverBoth}
use Rattle.proof_text.specs.Places.{IsText, BeginsText, IsNotACertificate, IsTooDeep, IsFault, IsWant}
use Rattle.qc_check.specs.Checking.{IsCertificate, lines_told}
use Rattle.qc_play.specs.declared.read.Head.{Head}
use Rattle.qc_play.specs.declared.read.Listing.{Listing}
use Rattle.qc_play.specs.Listing.{IsHeadOf, IsListing, IsReadFrom}
use Rattle.qc_play.specs.Roots.{IsCountable}

-- places in a text
pub byte_more : (text : List ℕ) (at : ℕ) → at < length text → take (at + 1) text ≡ take at text ++ slice_index text at ∷ []
byte_more text at h = take_more text at 0 h

pub piece_more : (text : List ℕ) (at size : ℕ) → at ≤ length text → take (at + size) text ≡ take at text ++ take size (drop at text)
piece_more text at size h =
    ap (λ n. take (n + size) text) (sym (length-take-le at text h)) ∙ (ap (λ xs. take (length (take at text) + size) xs) (sym (take-append-drop at text)) ∙ take-append-add (take at text) (drop at text) size)

front_begins : (limit n : ℕ) (bytes : List ℕ) → BeginsText limit bytes → BeginsText limit (take n bytes)
front_begins limit n bytes (rest, is) =
    (drop n bytes ++ rest, subst (IsText limit) (ap (λ xs. xs ++ rest) (sym (take-append-drop n bytes)) ∙ append_assoc (take n bytes) (drop n bytes) rest) is)

-- a fault stays whatever bytes come
index_before : (xs ys : List ℕ) (n : ℕ) → n < length xs → slice_index (xs ++ ys) n ≡ slice_index xs n
index_before [] ys n h = absurd (omega arith)
index_before (x ∷ xs) ys zero h = refl
index_before (x ∷ xs) ys (suc n) h = index_before xs ys n (omega arith)

front_before : (xs ys : List ℕ) (n : ℕ) → n < length xs → take (n + 1) (xs ++ ys) ≡ take (n + 1) xs
front_before xs ys n h = take-append-le (n + 1) xs ys (omega arith)

deep_stays : (at : ℕ) (xs ys : List ℕ) → IsTooDeep at xs → IsTooDeep at (xs ++ ys)
deep_stays at xs ys h = record {
  within = rw length-append (let w = h.within in omega arith);
  before = rw (take-append-le at xs ys (let w = h.within in omega arith)) h.before;
  opens = rw (front_before xs ys at h.within) h.opens;
  deeper = rw (front_before xs ys at h.within) h.deeper;
  letter = rw (index_before xs ys at h.within) h.letter;
}

bad_stays : (at : ℕ) (xs ys : List ℕ) → at < length xs → IsNotACertificate at xs → IsNotACertificate at (xs ++ ys)
bad_stays at xs ys lt h = record {
  within = rw length-append (omega (arith, lt));
  before = rw (take-append-le at xs ys (omega (arith, lt))) h.before;
  here = λ l limit. rw (front_before xs ys at lt) (h.here lt limit);
  unfinished = λ e limit t. let e' : at ≡ length xs + length ys = rw length-append at e in absurd (omega (arith, lt, e'));
}

last_lt : (bytes : List ℕ) (b at : ℕ) → at ≡ length bytes → at < length (bytes ++ b ∷ [])
last_lt bytes b at e = rw length-append (omega (arith, e))

-- heads and lines
abbrev grown : Told → Line → Told
grown nothing l = nothing
grown (headed v o p ls) l = headed v o p (ls ++ l ∷ [])

head_more : (h : Option Head) (v : Version) (o : Outcome) (p : Option ℤ) (ls : List Line) (l : Line) → IsHeadOf h (headed v o p ls) → IsHeadOf h (headed v o p (ls ++ l ∷ []))
head_more None v o p ls l e = cc
head_more (Some s) v o p ls l (w, ks, e) = (w, ks ++ l ∷ [], ap (λ t. grown t l) e)

one_more : (ls : List Line) (l : Line) → length (ls ++ l ∷ []) ≡ suc (length ls)
one_more ls l = rw length-append (omega arith)

-- a line more, which ends with these bytes
pub line_read : (l m : Listing) (bytes more : List ℕ) (h : IsListing l bytes) (line : Line) → StandsFor m.reader (bytes ++ more) (tell h.told (Whole line)) → BeginsText 1000 (bytes ++ more) → is_nothing h.told ≡ false → 0 < length more →
    m.head ≡ l.head → m.lines.items ≡ l.lines.items ++ line ∷ [] → IsListing m (bytes ++ more)
line_read l m bytes more h line stands begins some long same put = by h.told stands some h.head h.lines
  where
    by : (t : Told) → StandsFor m.reader (bytes ++ more) (tell t (Whole line)) → is_nothing t ≡ false → IsHeadOf l.head t → l.lines.items ≡ lines_told t → IsListing m (bytes ++ more)
    by nothing st headless hd ls = cc
    by (headed v o p ks) st headless hd ls = record {
      told = headed v o p (ks ++ line ∷ []);
      stands = st;
      begins = begins;
      head = subst (λ z. IsHeadOf z (headed v o p (ks ++ line ∷ []))) (sym same) (head_more l.head v o p ks line hd);
      lines = put ∙ ap (λ zs. zs ++ line ∷ []) ls;
      few = (let f = h.few in let n = ap length put ∙ one_more l.lines.items line in rw length-append (omega (arith, f, n, long)));
    }

-- what a byte makes of a reading
module _ (text : List ℕ) (at : ℕ) (more : at < length text) (l : Listing) (h : IsListing l (take at text)) (read : Read) (says : Says (take at text) h.told (slice_index text at) read) where
  here : length (take at text) ≡ at
  here = length-take-le at text (omega (arith, more))

  whole : text ≡ (take at text ++ slice_index text at ∷ []) ++ drop (at + 1) text
  whole = sym (take-append-drop (at + 1) text) ∙ ap (λ xs. xs ++ drop (at + 1) text) (byte_more text at more)

  pub byte_deep : read ≡ TooDeep → IsTooDeep at text
  byte_deep e =
      let now = subst (λ q. Says (take at text) h.told (slice_index text at) q) e says in
      let place : now.at ≡ at = now.here h.begins ∙ here in
      subst (IsTooDeep at) (sym whole) (subst (λ n. IsTooDeep n ((take at text ++ slice_index text at ∷ []) ++ drop (at + 1) text)) place (deep_stays now.at (take at text ++ slice_index text at ∷ []) (drop (at + 1) text) now.is))

  pub byte_bad : read ≡ Bad → IsNotACertificate at text
  byte_bad e =
      let now = subst (λ q. Says (take at text) h.told (slice_index text at) q) e says in
      let place : now.at ≡ at = now.here h.begins ∙ here in
      subst (IsNotACertificate at) (sym whole)
      (subst (λ n. IsNotACertificate n ((take at text ++ slice_index text at ∷ []) ++ drop (at + 1) text)) place
      (bad_stays now.at (take at text ++ slice_index text at ∷ []) (drop (at + 1) text) (last_lt (take at text) (slice_index text at) now.at (now.here h.begins)) now.is))

  module _ (m : Listing) (stands : StandsFor m.reader (take at text ++ slice_index text at ∷ []) (tell h.told read)) where
    pub byte_within : read ≡ Within → m.head ≡ l.head → m.lines.items ≡ l.lines.items → IsListing m (take (at + 1) text)
    byte_within e same kept = subst (IsListing m) (sym (byte_more text at more)) (record {
      told = h.told;
      stands = subst (λ q. StandsFor m.reader (take at text ++ slice_index text at ∷ []) (tell h.told q)) e stands;
      begins = (subst (λ q. Says (take at text) h.told (slice_index text at) q) e says).0;
      head = subst (λ z. IsHeadOf z h.told) (sym same) h.head;
      lines = kept ∙ h.lines;
      few = (let f = h.few in let n = ap length kept in rw length-append (omega (arith, f, n)));
    })

    pub byte_head : (v : Version) (o : Outcome) (p : Option ℤ) → read ≡ HeadRead v o p → m.head ≡ Some (record { outcome = o; optimum = p }) → m.lines.items ≡ l.lines.items → IsListing m (take (at + 1) text)
    byte_head v o p e same kept =
        let now = subst (λ q. Says (take at text) h.told (slice_index text at) q) e says in
        let none : l.lines.items ≡ [] = h.lines ∙ ap lines_told now.1 in
        subst (IsListing m) (sym (byte_more text at more)) (record {
          told = headed v o p [];
          stands = subst (λ q. StandsFor m.reader (take at text ++ slice_index text at ∷ []) (tell h.told q)) e stands;
          begins = now.0;
          head = subst (λ z. IsHeadOf z (headed v o p [])) (sym same) (v, [], refl);
          lines = kept ∙ none;
          few = (let f = h.few in let n = ap length kept in rw length-append (omega (arith, f, n)));
        })

    pub byte_line : (line : Line) → read ≡ Whole line → m.head ≡ l.head → m.lines.items ≡ l.lines.items ++ line ∷ [] → IsListing m (take (at + 1) text)
    byte_line line e same put =
        let now = subst (λ q. Says (take at text) h.told (slice_index text at) q) e says in
        subst (IsListing m) (sym (byte_more text at more))
        (line_read l m (take at text) (slice_index text at ∷ []) h line (subst (λ q. StandsFor m.reader (take at text ++ slice_index text at ∷ []) (tell h.told q)) e stands) now.0 now.1 (omega arith) same put)

-- nothing is read yet
pub none_read : (l : Listing) → StandsFor l.reader [] nothing → BeginsText 1000 [] → l.head ≡ None → l.lines.items ≡ [] → IsListing l []
none_read l stands begins none kept = record {
  told = nothing;
  stands = stands;
  begins = begins;
  head = subst (λ z. IsHeadOf z nothing) (sym none) refl;
  lines = kept;
  few = (let n = ap length kept in omega (arith, n));
}

-- at the end of the bytes
meet : (a n : ℕ) → a ≤ n → (a < n → ⊥) → a ≡ n
meet a n le no_less = omega arith

pub unended : (bytes : List ℕ) → IsTextOrFault → BeginsText 1000 bytes → (IsText 1000 bytes → ⊥) → IsNotACertificate (length bytes) bytes
unended bytes either begins none = elim (either bytes) [ inl t ↦ absurd (none t) | inr (fault, is) ↦ by fault is ]
  where
    by : (fault : CertFault) → HasFault fault bytes → IsNotACertificate (length bytes) bytes
    by (NotACertificate at) (is, known) = subst (λ a. IsNotACertificate a bytes) (meet at (length bytes) is.within (λ lt. is.here lt 1000 (front_begins 1000 (at + 1) bytes begins))) is
    by (DeepFault at) (is, known) = absurd (is.deeper (front_begins 1000 (at + 1) bytes begins))
    by (Want e) (is, known) = absurd (known tt)

-- a text has no fault but want of memory
pub want_of : (bytes : List ℕ) → NeverBoth → IsText 1000 bytes → (fault : CertFault) → IsFault fault bytes → IsWant fault
want_of bytes never is (NotACertificate at) h = never bytes (NotACertificate at) is (h, λ w. w)
want_of bytes never is (DeepFault at) h = never bytes (DeepFault at) is (h, λ w. w)
want_of bytes never is (Want e) h = tt

pub only_want : (bytes : List ℕ) → NeverBoth → IsText 1000 bytes → {X : Type 0} (r : Result X CertFault) → IfErr r (λ fault. IsFault fault bytes) → IfErr r IsWant
only_want bytes never is (Ok x) h = tt
only_want bytes never is (Err fault) h = want_of bytes never is fault h

-- the ends of a tree are lines
mutual
  tree_few : (t : Tree) → ends_of t ≤ length (tree_lines t)
  tree_few (tree z b) = let h = body_few b in rw length-append (omega (arith, h))

  body_few : (b : Body) → body_ends b ≤ length (body_lines b)
  body_few stuck = omega arith
  body_few goal = omega arith
  body_few (cases steps e) = let h = ending_few e in rw length-append (omega (arith, h))

  ending_few : (e : Ending) → ending_ends e ≤ length (ending_lines e)
  ending_few empty = omega arith
  ending_few barred = omega arith
  ending_few (next t) = let h = tree_few t in omega (arith, h)
  ending_few (branch x bs) = let h = branches_few bs in let n = length-append (branches_lines bs) (Dot ∷ []) in omega (arith, h, n)

  branches_few : (bs : Branches) → branch_ends bs ≤ length (branches_lines bs)
  branches_few no_more = omega arith
  branches_few (piece upto c bs) = let h = case_few c in let k = branches_few bs in rw (length-append, length-append) (omega (arith, h, k))

  case_few : (c : Case) → case_ends c ≤ length (case_lines c)
  case_few skip = omega arith
  case_few left_open = omega arith
  case_few (go steps e) = let h = ending_few e in rw length-append (omega (arith, h))

-- turns of a text
second : (a c : Bool) → (a && c) ≡ true → c ≡ true
second true c h = h
second false c h = cc

first : (a c : Bool) → (a && c) ≡ true → a ≡ true
first true c h = refl
first false c h = cc

few_turns : (n : ℕ) → nat_le n 10000000 ≡ true → n < 2 ^ 64 - 1
few_turns n h = grind (arith, nat_tests)

countable : (o : Outcome) (p : Option ℤ) → outcome_fits o p ≡ true → IsCountable o
countable True p fits = tt
countable False p fits = tt
countable (Open n) None fits = few_turns n (second (nat_le 1 n) (nat_le n 10000000) fits)
countable (Open n) (Some v) fits = cc

same_outcome : (v w : Version) (o q : Outcome) (p u : Option ℤ) (ls ks : List Line) → headed v o p ls ≡ headed w q u ks → o ≡ q
same_outcome v w o q p u ls ks e = cc

same_optimum : (v w : Version) (o q : Outcome) (p u : Option ℤ) (ls ks : List Line) → headed v o p ls ≡ headed w q u ks → p ≡ u
same_optimum v w o q p u ls ks e = cc

-- all bytes are read, and are a text
module _ (l : Listing) (bytes : List ℕ) (h : IsListing l bytes) (few : length bytes ≤ 1073741824) (is : IsTold bytes h.told) where
  pub some_head : l.head ≡ None → ⊥
  some_head none = by is
    where
      by : IsTold bytes h.told → ⊥
      by (v, o, p, t, fits, deep, text, told) = let e : nothing ≡ headed v o p (tree_lines t) = sym (subst (λ z. IsHeadOf z h.told) none h.head) ∙ told in cc

  pub all_read : (s : Head) → l.head ≡ Some s → IsReadFrom bytes s.outcome s.optimum l.lines.items
  all_read s some = by is (subst (λ z. IsHeadOf z h.told) some h.head)
    where
      by : IsTold bytes h.told → IsHeadOf (Some s) h.told → IsReadFrom bytes s.outcome s.optimum l.lines.items
      by (v, o, p, t, fits, deep, text, told) (w, ks, e) =
          let both : headed v o p (tree_lines t) ≡ headed w s.outcome s.optimum ks = sym told ∙ e in
          let eo = same_outcome v w o s.outcome p s.optimum (tree_lines t) ks both in
          let ep = same_optimum v w o s.outcome p s.optimum (tree_lines t) ks both in
          let lines : l.lines.items ≡ tree_lines t = h.lines ∙ ap lines_told told in
          let n = ap length lines in
          let m = h.few in
          let k = tree_few t in
          record {
            version = v;
            root = t;
            read = subst (λ x. IsCertificate bytes v x s.optimum t) eo (subst (λ x. IsCertificate bytes v o x t) ep (record { spelled = text; spellable = fits; shallow = deep }));
            is = lines;
            listed = record { tree = t; is = lines; shallow = deep; few_ends = omega (arith, n, m, k, few); few_lines = omega (arith, m, few); countable = subst IsCountable eo (countable o p (first (outcome_fits o p) _ fits)) };
          }

pub not_true : (b : Bool) → b ≡ false → IsTrue b → ⊥
not_true true e h = cc
not_true false e h = cc
