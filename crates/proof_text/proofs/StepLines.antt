-- Lines of steps, as they are read.
use Rattle.std.proofs.Common.{◌≡◌, refl, sym, ap, ◌∙◌, ℕ, suc, ◌+◌, ◌≤◌, List, [], ◌∷◌, ◌++◌, length, le-leb, Bool, true, false, cond, eqb, Some, None}
use Rattle.std.specs.Prelude.{ℤ}
use Rattle.std.specs.Fmt.{decimal, signed_decimal}
use Rattle.qc_model.specs.declared.problem.VarId.{VarId}
use Rattle.qc_model.specs.declared.problem.ConId.{ConId}
use Rattle.std.proofs.lemmas.Bool.{ne_eqb}
use Rattle.proof_tree.specs.declared.tree.Version.{Version}
use Rattle.proof_tree.specs.declared.tree.Step.TheVariants.{Prune}
use Rattle.proof_text.specs.Parts.{step_text}
use Rattle.proof_text.specs.declared.part_fault.PartFault.{PartFault}
use Rattle.proof_text.specs.Symbols.{Symbol, byte, prune_line, bound_line, prunes, cases}
use Rattle.proof_text.specs.Running.{run, onward}
use Rattle.proof_text.specs.Reading.{Passes, Fails, BeginsNot, GoesOn, FailsSteps}
use Rattle.proof_text.proofs.Forward.{step_is}
use Rattle.proof_text.proofs.Sequences.{fails_by}

pub to_prune : (ver : Version) (n : ℕ) (k : List Symbol) (text line : List ℕ) → n ≤ 1000 → text ≡ 112 ∷ line → run (cases ver n ∷ k) text ≡ run (prune_line ++ cases ver n ∷ k) line
to_prune ver n k text line h is = rw (is, le-leb n 1000 h) refl

pub to_bound : (ver : Version) (n : ℕ) (k : List Symbol) (text line : List ℕ) → n ≤ 1000 → text ≡ 98 ∷ line → run (cases ver n ∷ k) text ≡ run (bound_line ++ cases ver n ∷ k) line
to_bound ver n k text line h is = rw (is, le-leb n 1000 h) refl

pub prune_fails : (text line : List ℕ) (fault : PartFault) → text ≡ 112 ∷ line → Fails prune_line line fault → FailsSteps text fault
prune_fails text line fault is h = λ ver n le. fails_by (cases ver n ∷ []) prune_line text line fault (λ k. (cases ver n ∷ k, to_prune ver n k text line le is)) h

pub bound_fails : (text line : List ℕ) (fault : PartFault) → text ≡ 98 ∷ line → Fails bound_line line fault → FailsSteps text fault
bound_fails text line fault is h = λ ver n le. fails_by (cases ver n ∷ []) bound_line text line fault (λ k. (cases ver n ∷ k, to_bound ver n k text line le is)) h

pub prune_goes : (text line rest : List ℕ) → text ≡ 112 ∷ line → Passes prune_line line rest → GoesOn text rest
prune_goes text line rest is h = λ ver n le k. to_prune ver n k text line le is ∙ h (cases ver n ∷ k)

pub bound_goes : (text line rest : List ℕ) → text ≡ 98 ∷ line → Passes bound_line line rest → GoesOn text rest
bound_goes text line rest is h = λ ver n le k. to_bound ver n k text line le is ∙ h (cases ver n ∷ k)

dot_by : (t : Bool) (k : List Symbol) (cs : List ℕ) (left : ℕ) → onward (cond t (Some (byte 10 ∷ [])) None) (λ more. run (more ++ k) cs) left ≡ onward (cond t (Some []) None) (λ more. run (more ++ byte 10 ∷ k) cs) left
dot_by true k cs left = refl
dot_by false k cs left = refl

pub no_prune : (text : List ℕ) (k : List Symbol) → BeginsNot 112 text → run (prunes ∷ k) text ≡ run (byte 46 ∷ byte 10 ∷ k) text
no_prune [] k p = refl
no_prune (c ∷ cs) k p = rw (ne_eqb c 112 (λ e. p cs (ap (λ (x : ℕ). x ∷ cs) e))) (dot_by (eqb c 46) k cs (suc (length cs)))

pub steps_fail : (text rest : List ℕ) (fault : PartFault) → GoesOn text rest → FailsSteps rest fault → FailsSteps text fault
steps_fail text rest fault g h = λ ver n le. fails_by (cases ver n ∷ []) (cases ver n ∷ []) text rest fault (λ k. (k, g ver n le k)) (h ver n le)

pub prunes_fail : (text rest : List ℕ) (fault : PartFault) → ((k : List Symbol) → run (prunes ∷ k) text ≡ run (prunes ∷ k) rest) → BeginsNot 112 rest → Fails (byte 46 ∷ byte 10 ∷ []) rest fault → Fails (prunes ∷ []) text fault
prunes_fail text rest fault g b h = fails_by (prunes ∷ []) (byte 46 ∷ byte 10 ∷ []) text rest fault (λ k. (k, g k ∙ no_prune rest k b)) h

pub prune_told : (x : VarId) (low high : ℤ) (c : ConId) (text mid rest : List ℕ) → text ≡ 32 ∷ (decimal (x.0 + 1) ++ 32 ∷ (signed_decimal low ++ 32 ∷ (signed_decimal high ++ 32 ∷ mid))) → mid ≡ decimal (c.0 + 1) ++ 10 ∷ rest → 112 ∷ text ≡ step_text (Prune x low high c) ++ rest
prune_told x low high c text mid rest h g = rw (h, g) (sym (step_is (Prune x low high c) rest))
