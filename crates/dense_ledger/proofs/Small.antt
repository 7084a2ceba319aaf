-- Ledgers written out, and what lines make of none.
use Rattle.std.proofs.Common.{◌≡◌, ℕ, ◌+◌, Bool, true, false, ◌&&◌, ◌||◌, Option, Some, None, List, [], ◌∷◌, ◌++◌, refl, sym, ap, ◌∙◌, arith, ℤ, append_assoc, append-nil}
use Rattle.std.specs.Prelude.{nat_lt}
use Rattle.qc_model.specs.Content.{Game}
use Rattle.qc_model.specs.Verdict.{Verdict, Seen}
use Rattle.dense_tree.specs.Tree.{Given}
use Rattle.dense_tree.specs.Lines.{Line}
use Rattle.dense_tree.specs.Place.{Setting}
use Rattle.dense_tree.specs.Read.{Known}
use Rattle.dense_ledger.specs.Ledger.{Entry, Own, Frame, waiting, forked, Due, given_due, ended_due, Ledger, only_ledger, with_seen, no_own, leaf_seen, known_settled, own_verdict, own_value, part_ended, node_ended, goes, goes_through}

pub both : (a b : Bool) → a && b ≡ true → (a ≡ true) × (b ≡ true)
both true b h = (refl, h)
both false b h = cc

pub and_assoc : (a b c : Bool) → (a && b) && c ≡ a && (b && c)
and_assoc true b c = refl
and_assoc false b c = refl

pub and_true : (a : Bool) → a && true ≡ a
and_true true = refl
and_true false = refl

pub or_false : (a : Bool) → a || false ≡ a
or_false true = refl
or_false false = refl

or_assoc : (a b c : Bool) → (a || b) || c ≡ a || (b || c)
or_assoc true b c = refl
or_assoc false b c = refl

pub none_more : (n : ℕ) → n ≡ n + 0
none_more n = omega arith

pub more_twice : (n i j : ℕ) → (n + i) + j ≡ n + (i + j)
more_twice n i j = omega arith

lt_sum : (m n : ℕ) → nat_lt 0 m || nat_lt 0 n ≡ nat_lt 0 (m + n)
lt_sum m n = grind arith

-- one count of open cases, and another after it
pub or_sum : (a : Bool) (m n : ℕ) → (a || nat_lt 0 m) || nat_lt 0 n ≡ a || nat_lt 0 (m + n)
or_sum a m n = or_assoc a (nat_lt 0 m) (nat_lt 0 n) ∙ ap (λ z. a || z) (lt_sum m n)

-- leaves and marks that are shown, and best values
abbrev pub shown : List Seen → List ℤ → Own → Own
shown xs vs o = record { entry = o.entry; seen = o.seen ++ xs; bests = o.bests ++ vs }

pub shown_none : (o : Own) → o ≡ shown [] [] o
shown_none o =
    ap (λ xs. record { entry = o.entry; seen = xs; bests = o.bests }) (sym (append-nil o.seen))
    ∙ ap (λ vs. record { entry = o.entry; seen = o.seen ++ []; bests = vs }) (sym (append-nil o.bests))

pub shown_seen : (xs : List Seen) (o : Own) → with_seen xs o ≡ shown xs [] o
shown_seen xs o = ap (λ vs. record { entry = o.entry; seen = o.seen ++ xs; bests = vs }) (sym (append-nil o.bests))

pub shown_bests : (vs : List ℤ) (o : Own) → record o { bests = o.bests ++ vs } ≡ shown [] vs o
shown_bests vs o = ap (λ xs. record { entry = o.entry; seen = xs; bests = o.bests ++ vs }) (sym (append-nil o.seen))

pub shown_twice : (xs ys : List Seen) (vs ws : List ℤ) (o : Own) → shown ys ws (shown xs vs o) ≡ shown (xs ++ ys) (vs ++ ws) o
shown_twice xs ys vs ws o =
    ap (λ zs. record { entry = o.entry; seen = zs; bests = (o.bests ++ vs) ++ ws }) (append_assoc o.seen xs ys)
    ∙ ap (λ us. record { entry = o.entry; seen = o.seen ++ (xs ++ ys); bests = us }) (append_assoc o.bests vs ws)

pub regroup : (a b c d e : List Line) → ((a ++ (b ++ c)) ++ d) ++ e ≡ a ++ (b ++ ((c ++ d) ++ e))
regroup a b c d e =
    append_assoc (a ++ (b ++ c)) d e
    ∙ (append_assoc a (b ++ c) (d ++ e)
    ∙ (ap (λ z. a ++ z) (append_assoc b c (d ++ e))
    ∙ ap (λ z. a ++ (b ++ z)) (sym (append_assoc c d e))))

module _ (g : Game) (us : List Given) where
  abbrev pub here : Setting
  here = record { game = g; given = us }

  -- a ledger, written out
  abbrev pub at : Due → Own → List Frame → List Known → ℕ → Bool → Ledger
  at u o fs ks n b = record { given = us; due = u; own = o; frames = fs; known = ks; turns = n; has_open = b }

  -- so much is read, whatever is open
  abbrev pub so_far : List Known → ℕ → Bool → Ledger
  so_far ks n b = at given_due (no_own g) [] ks n b

  -- a part has ended
  abbrev pub parted : List Known → ℕ → Bool → Own → List Frame → Ledger
  parted ks n b o fs = part_ended here (so_far ks n b) o fs

  -- a node has ended, which waits at these frames
  abbrev pub node_over : Bool → Verdict → Option ℤ → List Known → ℕ → Bool → List Frame → Ledger
  node_over chosen v own ks n b [] = at (ended_due v own) (no_own g) [] ks n b
  node_over chosen v own ks n b (forked f ∷ fs) = at (ended_due v own) (no_own g) (forked f ∷ fs) ks n b
  node_over chosen v own ks n b (waiting up ∷ fs) = parted ks n b (with_seen (leaf_seen chosen v) up) fs

  -- no branch is first where a node is read
  abbrev pub IsNodes : List Frame → Type 0
  IsNodes [] = Unit {0}
  IsNodes (waiting up ∷ fs) = Unit {0}
  IsNodes (forked f ∷ fs) = ⊥

  -- what is due, and the scope and frames that were read, don't matter any more
  pub part_same : (u : Due) (x o : Own) (es fs : List Frame) (ks : List Known) (n : ℕ) (b : Bool) → part_ended here (at u x es ks n b) o fs ≡ parted ks n b o fs
  part_same u x o es [] ks n b = refl
  part_same u x o es (forked f ∷ fs) ks n b = refl
  part_same u x o es (waiting up ∷ fs) ks n b =
      part_same u x (with_seen (leaf_seen o.entry.chosen (own_verdict here o)) up) es fs (known_settled o.entry (own_verdict here o) ks) n b

  pub node_same : (u : Due) (x : Own) (e : Entry) (v : Verdict) (es fs : List Frame) (ks : List Known) (n : ℕ) (b : Bool) →
      node_ended here (at u x es ks n b) e v fs ≡ node_over e.chosen v None (known_settled e v ks) n b fs
  node_same u x e v es [] ks n b = refl
  node_same u x e v es (forked f ∷ fs) ks n b = refl
  node_same u x e v es (waiting up ∷ fs) ks n b = part_same u x (with_seen (leaf_seen e.chosen v) up) es fs (known_settled e v ks) n b

  -- a scope's own tree has ended
  pub tree_over : (o : Own) (fs : List Frame) (ks : List Known) (n : ℕ) (b : Bool) → IsNodes fs →
      parted ks n b o fs ≡ node_over o.entry.chosen (own_verdict here o) (own_value here o) (known_settled o.entry (own_verdict here o) ks) n b fs
  tree_over o [] ks n b h = refl
  tree_over o (forked f ∷ fs) ks n b h = absurd h
  tree_over o (waiting up ∷ fs) ks n b h = refl

  -- a part of the same
  pub same_parted : (a c : Bool) (o p : Own) (fs : List Frame) (ks : List Known) (m n : ℕ) (b d : Bool) (rest : List Line) → a ≡ c → o ≡ p → m ≡ n → b ≡ d →
      goes_through g (only_ledger a (parted ks m b o fs)) rest ≡ goes_through g (only_ledger c (parted ks n d p fs)) rest
  same_parted a c o p fs ks m n b d rest e f h i =
      ap (λ z. goes_through g (only_ledger z (parted ks m b o fs)) rest) e
      ∙ (ap (λ z. goes_through g (only_ledger c (parted ks m b z fs)) rest) f
      ∙ (ap (λ z. goes_through g (only_ledger c (parted ks z b p fs)) rest) h
      ∙ ap (λ z. goes_through g (only_ledger c (parted ks n z p fs)) rest) i))

  pub same_over : (a c : Bool) (chosen : Bool) (v : Verdict) (own : Option ℤ) (fs : List Frame) (ks : List Known) (m n : ℕ) (b d : Bool) (rest : List Line) → a ≡ c → m ≡ n → b ≡ d →
      goes_through g (only_ledger a (node_over chosen v own ks m b fs)) rest ≡ goes_through g (only_ledger c (node_over chosen v own ks n d fs)) rest
  same_over a c chosen v own fs ks m n b d rest e h i =
      ap (λ z. goes_through g (only_ledger z (node_over chosen v own ks m b fs)) rest) e
      ∙ (ap (λ z. goes_through g (only_ledger c (node_over chosen v own ks z b fs)) rest) h
      ∙ ap (λ z. goes_through g (only_ledger c (node_over chosen v own ks n z fs)) rest) i)

  pub none_goes : (ls : List Line) → goes_through g None ls ≡ None
  none_goes [] = refl
  none_goes (l ∷ ls) = none_goes ls

  pub through : (p : Option Ledger) (ls rest : List Line) → goes_through g p (ls ++ rest) ≡ goes_through g (goes_through g p ls) rest
  through p [] rest = refl
  through p (l ∷ ls) rest = through (goes g p l) ls rest

  -- first one thing is in place, then another
  pub then_goes : (c k : Bool) (d e : Ledger) (ls rest : List Line) → goes_through g (Some d) ls ≡ goes_through g (only_ledger k e) rest →
      goes_through g (only_ledger c d) ls ≡ goes_through g (only_ledger (c && k) e) rest
  then_goes true k d e ls rest h = h
  then_goes false k d e ls rest h = none_goes ls ∙ sym (none_goes rest)
