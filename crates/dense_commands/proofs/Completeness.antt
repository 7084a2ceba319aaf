-- A run in which nothing failed answers what was asked.
use Rattle.std.proofs.Common.{◌≡◌, ◌≤◌, ℕ, List, Option, Some, None, inl, inr, refl, ap, subst, sym, ◌∙◌, IsTrue, ℤ}
use Rattle.qc_io.specs.Counts.{Rose, NoneRose}
use Rattle.qc_model.specs.declared.problem.Kind.{Kind}
use Rattle.qc_model.specs.Content.{Game}
use Rattle.qc_model.specs.Turns.{full_turns_of}
use Rattle.qdimacs.specs.Formula.{Formula}
use Rattle.qdimacs.specs.Content.{game_of}
use Rattle.qdimacs.specs.Refusals.{formula_of}
use Rattle.lemma_list.specs.Lemmas.{Entry}
use Rattle.lemma_list.specs.InPlace.{proves}
use Rattle.lemma_text.specs.Places.{IsText, NeverBoth, IsOneList}
use Rattle.proof_tree.specs.declared.tree.Outcome.{Outcome}
use Rattle.dense_tree.specs.Tree.{Certificate}
use Rattle.dense_tree.specs.Proves.{proves as proves_densely}
use Rattle.dense_text.specs.Places.{IsText as IsDenseText, NeverBoth as NeverBothDense, IsOneCertificate}
use Rattle.best_text.specs.Text.{IsBestText}
use Rattle.best_judge.specs.Proof.{IsBestProof}
use Rattle.best_judge.specs.Laws.{NeverBoth as NeverBothBest}
use Rattle.qecode_commands.specs.declared.status.Status.{Status}
use Rattle.qecode_commands.specs.declared.status.Status.TheVariants.{Done, NotProved, Usage, BadCertificate, ReadFault, WriteFault, Memory}
use Rattle.qecode_commands.specs.Complete.{TellsProof as TellsTreeProof}
use Rattle.qecode_commands.specs.Files.{IsFile, Wrote}
use Rattle.qecode_commands.proofs.Told.{told_bytes, never_unread}
use Rattle.qecode_commands.proofs.Completeness.{Laws as ProblemLaws, for_problem, for_formula, solves_done, decides_done, checks_done as tree_file_done, no_fault}
use Rattle.dense_commands.specs.Words.{Asked, solves, decides, checks}
use Rattle.dense_commands.specs.declared.head.Heading.{Heading}
use Rattle.dense_commands.specs.declared.head.Heading.TheVariants.{Lemmas, Optimum, Dense, Tree}
use Rattle.dense_commands.specs.Answers.{Solves, SolvesGame, DecidesGame, Denies, IsNoList, ChecksBytes, DeniesBest, IsNoBest, ChecksBestBytes, DeniesDense, IsNoDense, ChecksDenseBytes, ChecksListFile, ChecksBestFile, ChecksDenseFile, ChecksAs, ChecksFile, heading_in, HasHead, Answers}
use Rattle.dense_commands.specs.Complete.{TellsProof, TellsBest, TellsDense, TellsAny, IsComplete}
use Rattle.dense_commands.proofs.Heads.{list_begins, best_begins, dense_begins, tree_begins}

-- the laws of the texts
pub record Laws : Type 0 where
  pub problems : ProblemLaws
  pub never : NeverBoth
  pub one : IsOneList
  pub best : NeverBothBest
  pub dense_never : NeverBothDense
  pub dense_one : IsOneCertificate

moved : (g : Game) (k l : Kind) (es fs : List Entry) → k ≡ l → es ≡ fs → IsTrue (proves g k es) → IsTrue (proves g l fs)
moved g k l es fs a b h = rw (← a, ← b) h

-- the list that is read is the one that proves
never_denied : IsOneList → (told : Option (List ℕ)) (g : Game) (bytes t : List ℕ) → TellsProof told g → IsFile 1073741824 told bytes → Denies g bytes t → ⊥
never_denied one told g bytes t proof file d =
    let e : bytes ≡ proof.bytes = told_bytes told proof.bytes bytes proof.told_is file.same in
    let p : IsText bytes = (proof.loser, proof.entries, proof.read.spellable, e ∙ proof.read.spelled) in
    let n = d.no_proof in
    let q : IsText bytes = (n.loser, n.entries, n.read.spellable, n.read.spelled) in
    let same : (p.0 ≡ q.0) × (p.1 ≡ q.1) = one bytes p q in
    n.fails (moved g proof.loser n.loser proof.entries n.entries same.0 same.1 proof.proved)

never_faulty : NeverBoth → (told : Option (List ℕ)) (g : Game) (bytes t : List ℕ) → TellsProof told g → IsFile 1073741824 told bytes → IsNoList bytes t → ⊥
never_faulty never told g bytes t proof file faulty =
    let e : bytes ≡ proof.bytes = told_bytes told proof.bytes bytes proof.told_is file.same in
    never bytes faulty.place (proof.loser, proof.entries, proof.read.spellable, e ∙ proof.read.spelled) faulty.fault

confirms_done : Laws → (told : Option (List ℕ)) (g : Game) (bytes : List ℕ) → TellsProof told g → IsFile 1073741824 told bytes →
    (s : Status) (t : List ℕ) → ChecksBytes g bytes s t → s ≡ Done
confirms_done l told g bytes proof file Done t c = refl
confirms_done l told g bytes proof file NotProved t c = absurd (never_denied l.one told g bytes t proof file c)
confirms_done l told g bytes proof file BadCertificate t c = absurd (never_faulty l.never told g bytes t proof file c)
confirms_done l told g bytes proof file s t c = absurd c

list_file_done : Laws → (name : List ℕ) (told : Option (List ℕ)) (gave : ℕ → Type 0) (g : Game) → TellsProof told g →
    (s : Status) (t : List ℕ) → ChecksListFile name told gave g s t → ¬ (s ≡ Memory) → ¬ (s ≡ ReadFault) → s ≡ Done
list_file_done l name told gave g proof s t h m r =
    elim h [
      | inl d ↦ absurd (never_unread 1073741824 name told gave proof.bytes proof.told_is proof.within s t d m r)
      | inr (bytes, file, c) ↦ confirms_done l told g bytes proof file s t c
    ]

-- the text of a value and two lists that proves isn't turned down
best_never_denied : (told : Option (List ℕ)) (g : Game) (bytes t : List ℕ) → TellsBest told g → IsFile 1073741824 told bytes → DeniesBest g bytes t → ⊥
best_never_denied told g bytes t proof file d =
    let e : bytes ≡ proof.bytes = told_bytes told proof.bytes bytes proof.told_is file.same in
    d.no_proof.fails proof.value (subst (λ q. IsBestProof g q proof.value) (sym e) proof.proof)

best_never_faulty : NeverBothBest → (told : Option (List ℕ)) (g : Game) (bytes t : List ℕ) → TellsBest told g → IsFile 1073741824 told bytes → IsNoBest bytes t → ⊥
best_never_faulty never told g bytes t proof file faulty =
    let e : bytes ≡ proof.bytes = told_bytes told proof.bytes bytes proof.told_is file.same in
    let p = proof.proof in
    never bytes proof.value p.first p.second faulty.place (subst (λ q. IsBestText q proof.value p.first p.second) (sym e) p.text) faulty.fault

best_confirms_done : Laws → (told : Option (List ℕ)) (g : Game) (bytes : List ℕ) → TellsBest told g → IsFile 1073741824 told bytes →
    (s : Status) (t : List ℕ) → ChecksBestBytes g bytes s t → s ≡ Done
best_confirms_done l told g bytes proof file Done t c = refl
best_confirms_done l told g bytes proof file NotProved t c = absurd (best_never_denied told g bytes t proof file c)
best_confirms_done l told g bytes proof file BadCertificate t c = absurd (best_never_faulty l.best told g bytes t proof file c)
best_confirms_done l told g bytes proof file s t c = absurd c

best_file_done : Laws → (name : List ℕ) (told : Option (List ℕ)) (gave : ℕ → Type 0) (g : Game) → TellsBest told g →
    (s : Status) (t : List ℕ) → ChecksBestFile name told gave g s t → ¬ (s ≡ Memory) → ¬ (s ≡ ReadFault) → s ≡ Done
best_file_done l name told gave g proof s t h m r =
    elim h [
      | inl d ↦ absurd (never_unread 1073741824 name told gave proof.bytes proof.told_is proof.within s t d m r)
      | inr (bytes, file, c) ↦ best_confirms_done l told g bytes proof file s t c
    ]

densely_moved : (g : Game) (o p : Outcome) (m n : Option ℤ) (c d : Certificate) → o ≡ p → m ≡ n → c ≡ d → IsTrue (proves_densely g o m c) → IsTrue (proves_densely g p n d)
densely_moved g o p m n c d a b e h = rw (← a, ← b, ← e) h

-- the dense certificate that is read is the one that proves
dense_never_denied : IsOneCertificate → (told : Option (List ℕ)) (g : Game) (bytes t : List ℕ) → TellsDense told g → IsFile 1073741824 told bytes → DeniesDense g bytes t → ⊥
dense_never_denied one told g bytes t proof file d =
    let e : bytes ≡ proof.bytes = told_bytes told proof.bytes bytes proof.told_is file.same in
    let p : IsDenseText bytes = (proof.outcome, proof.optimum, proof.certificate, proof.read.spellable, e ∙ proof.read.spelled) in
    let n = d.no_proof in
    let q : IsDenseText bytes = (n.outcome, n.optimum, n.certificate, n.read.spellable, n.read.spelled) in
    let same : (p.0 ≡ q.0) × (p.1 ≡ q.1) × (p.2 ≡ q.2) = one bytes p q in
    n.fails (densely_moved g proof.outcome n.outcome proof.optimum n.optimum proof.certificate n.certificate same.0 same.1 same.2 proof.proved)

dense_never_faulty : NeverBothDense → (told : Option (List ℕ)) (g : Game) (bytes t : List ℕ) → TellsDense told g → IsFile 1073741824 told bytes → IsNoDense bytes t → ⊥
dense_never_faulty never told g bytes t proof file faulty =
    let e : bytes ≡ proof.bytes = told_bytes told proof.bytes bytes proof.told_is file.same in
    never bytes faulty.place (proof.outcome, proof.optimum, proof.certificate, proof.read.spellable, e ∙ proof.read.spelled) faulty.fault

dense_confirms_done : Laws → (told : Option (List ℕ)) (g : Game) (bytes : List ℕ) → TellsDense told g → IsFile 1073741824 told bytes →
    (s : Status) (t : List ℕ) → ChecksDenseBytes g bytes s t → s ≡ Done
dense_confirms_done l told g bytes proof file Done t c = refl
dense_confirms_done l told g bytes proof file NotProved t c = absurd (dense_never_denied l.dense_one told g bytes t proof file c)
dense_confirms_done l told g bytes proof file BadCertificate t c = absurd (dense_never_faulty l.dense_never told g bytes t proof file c)
dense_confirms_done l told g bytes proof file s t c = absurd c

dense_file_done : Laws → (name : List ℕ) (told : Option (List ℕ)) (gave : ℕ → Type 0) (g : Game) → TellsDense told g →
    (s : Status) (t : List ℕ) → ChecksDenseFile name told gave g s t → ¬ (s ≡ Memory) → ¬ (s ≡ ReadFault) → s ≡ Done
dense_file_done l name told gave g proof s t h m r =
    elim h [
      | inl d ↦ absurd (never_unread 1073741824 name told gave proof.bytes proof.told_is proof.within s t d m r)
      | inr (bytes, file, c) ↦ dense_confirms_done l told g bytes proof file s t c
    ]

-- what the first bytes of each kind of certificate tell
list_heading : (told : Option (List ℕ)) (g : Game) (heading : Heading) → TellsProof told g → HasHead heading told → heading ≡ Lemmas
list_heading told g heading proof head = subst (HasHead heading) proof.told_is head ∙ ap heading_in proof.read.spelled ∙ list_begins proof.loser proof.entries

best_heading : (told : Option (List ℕ)) (g : Game) (heading : Heading) → TellsBest told g → HasHead heading told → heading ≡ Optimum
best_heading told g heading proof head =
    let p = proof.proof in
    subst (HasHead heading) proof.told_is head ∙ ap heading_in p.text.spelled ∙ best_begins proof.value p.first p.second

dense_heading : (told : Option (List ℕ)) (g : Game) (heading : Heading) → TellsDense told g → HasHead heading told → heading ≡ Dense
dense_heading told g heading proof head =
    subst (HasHead heading) proof.told_is head ∙ ap heading_in proof.read.spelled ∙ dense_begins proof.outcome proof.optimum proof.certificate

tree_heading : (told : Option (List ℕ)) (g : Game) (heading : Heading) → TellsTreeProof told g → HasHead heading told → heading ≡ Tree
tree_heading told g heading proof head =
    subst (HasHead heading) proof.told_is head ∙ ap heading_in proof.read.spelled ∙ tree_begins proof.version proof.outcome proof.optimum proof.root

list_done : Laws → (name : List ℕ) (told : Option (List ℕ)) (gave : ℕ → Type 0) (g : Game) → TellsProof told g →
    (s : Status) (t : List ℕ) → ChecksFile name told gave g s t → ¬ (s ≡ Memory) → ¬ (s ≡ ReadFault) → s ≡ Done
list_done l name told gave g proof s t (heading, head, h) m r =
    list_file_done l name told gave g proof s t (subst (λ k. ChecksAs k name told gave g s t) (list_heading told g heading proof head) h) m r

best_done : Laws → (name : List ℕ) (told : Option (List ℕ)) (gave : ℕ → Type 0) (g : Game) → TellsBest told g →
    (s : Status) (t : List ℕ) → ChecksFile name told gave g s t → ¬ (s ≡ Memory) → ¬ (s ≡ ReadFault) → s ≡ Done
best_done l name told gave g proof s t (heading, head, h) m r =
    best_file_done l name told gave g proof s t (subst (λ k. ChecksAs k name told gave g s t) (best_heading told g heading proof head) h) m r

dense_done : Laws → (name : List ℕ) (told : Option (List ℕ)) (gave : ℕ → Type 0) (g : Game) → TellsDense told g →
    (s : Status) (t : List ℕ) → ChecksFile name told gave g s t → ¬ (s ≡ Memory) → ¬ (s ≡ ReadFault) → s ≡ Done
dense_done l name told gave g proof s t (heading, head, h) m r =
    dense_file_done l name told gave g proof s t (subst (λ k. ChecksAs k name told gave g s t) (dense_heading told g heading proof head) h) m r

tree_done : Laws → (name : List ℕ) (told : Option (List ℕ)) (gave : ℕ → Type 0) (g : Game) → TellsTreeProof told g →
    (s : Status) (t : List ℕ) → ChecksFile name told gave g s t → ¬ (s ≡ Memory) → ¬ (s ≡ ReadFault) → s ≡ Done
tree_done l name told gave g proof s t (heading, head, h) m r =
    tree_file_done l.problems name told gave g proof s t (subst (λ k. ChecksAs k name told gave g s t) (tree_heading told g heading proof head) h) m r

any_done : Laws → (name : List ℕ) (told : Option (List ℕ)) (gave : ℕ → Type 0) (g : Game) → TellsAny told g →
    (s : Status) (t : List ℕ) → ChecksFile name told gave g s t → ¬ (s ≡ Memory) → ¬ (s ≡ ReadFault) → s ≡ Done
any_done l name told gave g proof s t h m r =
    elim proof [
      | inl p ↦ list_done l name told gave g p s t h m r
      | inr (inl p) ↦ best_done l name told gave g p s t h m r
      | inr (inr (inl p)) ↦ dense_done l name told gave g p s t h m r
      | inr (inr (inr p)) ↦ tree_done l name told gave g p s t h m r
    ]

game_done : (turns : ℕ) (g : Game) (s : Status) (t : List ℕ) → SolvesGame turns g s t → ¬ (s ≡ Memory) → full_turns_of g ≤ turns → s ≡ Done
game_done turns g s t h m f = elim h [ inl list ↦ list.done | inr k ↦ solves_done turns g s t k m f ]

solved_done : (turns : ℕ) (g : Game) (s : Status) (t : List ℕ) → Solves turns g s t → ¬ (s ≡ Memory) → full_turns_of g ≤ turns → s ≡ Done
solved_done turns g s t h m f = elim h [ inl shown ↦ shown.done | inr (inl best) ↦ best.done | inr (inr k) ↦ game_done turns g s t k m f ]

formula_done : (turns : ℕ) (φ : Formula) (s : Status) (t : List ℕ) → DecidesGame turns φ s t → ¬ (s ≡ Memory) → full_turns_of (game_of φ) ≤ turns → s ≡ Done
formula_done turns φ s t h m f = elim h [ inl d ↦ d.list.done | inr k ↦ decides_done turns φ s t k m f ]

asked_done : Laws → (asked : Option Asked) (told : List ℕ → Option (List ℕ)) (gave : ℕ → Type 0) (s : Status) (t : List ℕ) →
    Answers asked told gave s t → ¬ (s ≡ Memory) → ¬ (s ≡ ReadFault) → IsComplete asked told s
asked_done l None told gave s t h m r = words s h where
  words : (s : Status) → Answers None told gave s t → s ≡ Usage
  words Usage h = refl
  words s h = absurd h
asked_done l (Some (solves name turns)) told gave s t h m r =
    λ g tells f. solved_done turns g s t (for_problem l.problems (Solves turns) name (told name) gave g tells s t h m r) m f
asked_done l (Some (decides name turns)) told gave s t h m r =
    λ f tells full. formula_done turns (formula_of f) s t (for_formula l.problems (DecidesGame turns) name (told name) gave f tells s t h m r) m full
asked_done l (Some (checks name certificate)) told gave s t h m r =
    λ g tells proof.
    let k : ChecksFile certificate (told certificate) gave g s t =
    for_problem l.problems (ChecksFile certificate (told certificate) gave) name (told name) gave g tells s t h m r in
    any_done l certificate (told certificate) gave g proof s t k m r

-- the answer was written, and nothing failed
pub run_done : Laws → (asked : Option Asked) (told : List ℕ → Option (List ℕ)) (gave : ℕ → Type 0) (old new : Option (List ℕ)) (before now missed misses : ℕ) (s : Status) →
    Wrote old new before now s (Answers asked told gave) → (s ≡ ReadFault → Rose missed misses) →
    NoneRose missed misses → NoneRose before now → ¬ (s ≡ Memory) → IsComplete asked told s
run_done l asked told gave old new before now missed misses WriteFault wrote fault files output m = absurd (no_fault before now wrote.0 output)
run_done l asked told gave old new before now missed misses s wrote fault files output m =
    asked_done l asked told gave s wrote.1.0 wrote.1.1 m (λ e. no_fault missed misses (fault e) files)
