-- How files begin.
use Rattle.std.proofs.Common.{◌≡◌, ◌≤◌, ◌∙◌, ℕ, Bool, List, take, length, min, Option, None, Some, IfSome, ℤ, codes, refl, sym, ap, arith}
use Rattle.std.specs.Prelude.{if◌then◌else◌}
use Rattle.std.proofs.Math.Seq.{take_all}
use Rattle.std.proofs.lemmas.List.{take_min}
use Rattle.std.specs.Str.{bytes_eq}
use Rattle.std.proofs.lemmas.List.{take-take}
use Rattle.qc_model.specs.declared.problem.Kind.{Kind}
use Rattle.qc_model.specs.declared.problem.Kind.TheVariants.{Exists, Forall}
use Rattle.proof_tree.specs.declared.tree.Version.{Version}
use Rattle.proof_tree.specs.declared.tree.Version.TheVariants.{One, Two}
use Rattle.proof_tree.specs.declared.tree.Outcome.{Outcome}
use Rattle.proof_tree.specs.Tree.{Tree}
use Rattle.proof_tree.specs.Text.{certificate_text}
use Rattle.dense_tree.specs.Tree.{Certificate}
use Rattle.dense_tree.specs.Text.{certificate_text as dense_text}
use Rattle.lemma_list.specs.Lemmas.{Entry}
use Rattle.lemma_text.specs.Text.{list_text}
use Rattle.best_text.specs.Text.{best_text}
use Rattle.dense_commands.specs.declared.head.Heading.{Heading}
use Rattle.dense_commands.specs.declared.head.Heading.TheVariants.{Lemmas, Optimum, Dense, Tree as OfTree}
use Rattle.dense_commands.specs.Answers.{heading_in, HasHead}

-- the first nine bytes tell all
front_tells : (bytes : List ℕ) → heading_in (take 9 bytes) ≡ heading_in bytes
front_tells bytes =
    let nine = take-take 9 9 bytes (omega arith) in
    let seven = take-take 7 9 bytes (omega arith) in
    rw (nine, seven) refl

-- what the first bytes tell is so of the file
pub head_told : (told : Option (List ℕ)) (front : List ℕ) → IfSome told (λ bytes. front ≡ take 9 bytes) → HasHead (heading_in front) told
head_told None front h = tt
head_told (Some bytes) front h = ap heading_in h ∙ front_tells bytes

-- by whether the bytes are those of an optimum, of a list, or of a dense certificate
abbrev pub heading_by : Bool → Bool → Bool → Heading
heading_by optimum lemmas dense = if optimum then Optimum else if lemmas then Lemmas else if dense then Dense else OfTree

-- of nine bytes at most all are compared, and the first seven of them
pub compared : (front : List ℕ) → length front ≤ 9 →
    heading_in front ≡ heading_by (bytes_eq front (codes "qcert 3\nb")) (bytes_eq (take (min 7 (length front)) front) (codes "qcert 3")) (bytes_eq (take (min 7 (length front)) front) (codes "qcert 4"))
compared front short =
    let nine : take 9 front ≡ front = take_all 9 front short in
    let seven : take (min 7 (length front)) front ≡ take 7 front = take_min 7 front in
    ap (λ xs. heading_by (bytes_eq xs (codes "qcert 3\nb")) (bytes_eq (take 7 front) (codes "qcert 3")) (bytes_eq (take 7 front) (codes "qcert 4"))) nine
    ∙ ap (λ xs. heading_by (bytes_eq front (codes "qcert 3\nb")) (bytes_eq xs (codes "qcert 3")) (bytes_eq xs (codes "qcert 4"))) (sym seven)

-- each kind of certificate begins as no other does
pub list_begins : (loser : Kind) (entries : List Entry) → heading_in (list_text loser entries) ≡ Lemmas
list_begins Exists entries = refl
list_begins Forall entries = refl

pub best_begins : (value : ℤ) (first second : List ℕ) → heading_in (best_text value first second) ≡ Optimum
best_begins value first second = refl

pub dense_begins : (outcome : Outcome) (optimum : Option ℤ) (c : Certificate) → heading_in (dense_text outcome optimum c) ≡ Dense
dense_begins outcome optimum c = refl

pub tree_begins : (version : Version) (outcome : Outcome) (optimum : Option ℤ) (root : Tree) → heading_in (certificate_text version outcome optimum root) ≡ OfTree
tree_begins One outcome optimum root = refl
tree_begins Two outcome optimum root = refl
