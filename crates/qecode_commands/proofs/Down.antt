-- What is answered where a file can't be had, or has no problem.
use Rattle.std.proofs.Common.{◌+◌, ℕ, List, Option, inl, inr, arith}
use Rattle.qc_io.specs.Counts.{RoseBy}
use Rattle.qc_model.specs.Content.{Game}
use Rattle.qc_syntax.specs.declared.fault.ReadFault.{ReadFault as Fault}
use Rattle.qc_syntax.specs.declared.fault.ReadFault.TheVariants.{Refused, Memory as Want}
use Rattle.qc_syntax.specs.Reads.{Explains}
use Rattle.qdimacs.specs.declared.fault.QdimacsFault.{QdimacsFault}
use Rattle.qdimacs.specs.declared.fault.QdimacsFault.TheVariants.{Refused as RefusedFormula, Memory as WantFormula}
use Rattle.qdimacs.specs.Refusals.{Explains as ExplainsFormula}
use Rattle.qecode_commands.specs.declared.status.Status.{Status}
use Rattle.qecode_commands.specs.declared.status.Status.TheVariants.{BadProblem, TooLong, Memory, BadQdimacs}
use Rattle.qc_pessimist.specs.declared.reading.Places.{Places}
use Rattle.qc_pessimist.specs.declared.reading.NoReading.{NoReading as NoFault}
use Rattle.qc_pessimist.specs.declared.reading.NoReading.TheVariants.{NoCondition, TooManyScopes, Memory as WantReading}
use Rattle.qc_pessimist.specs.Refusals.{Refuses}
use Rattle.qecode_commands.specs.Readings.{TurnsFaultDown, TurnsReadingDown}
use Rattle.qecode_commands.specs.Refusals.{TurnsDown, TurnsTextDown}
use Rattle.qecode_commands.specs.Formulas.{TurnsFormulaDown, TurnsFormulaTextDown, TurnsQdimacsDown}
use Rattle.qecode_commands.specs.Answers.{TurnsProblemDown, ChecksFile}
use Rattle.qecode_commands.specs.Files.{IsFile, IsLong, TurnsFileDown}

pub rose_after : (m n a b c : ℕ) → RoseBy m a b → RoseBy n b c → RoseBy n a c
rose_after m n a b c h k = omega arith

-- a text that couldn't be read
pub fault_down : (bytes : List ℕ) (f : Fault) (s : Status) (t : List ℕ) → Explains bytes f → TurnsDown f s t → TurnsTextDown bytes s t
fault_down bytes (Refused r) s t why is = rw is.0 (record { kind = r.kind; at = r.at; refuses = why; line = is.1 })
fault_down bytes (Want e) s t why is = rw is.0 is.1

-- what is answered for such a text is answered for its file
pub text_down : (name bytes : List ℕ) (told : Option (List ℕ)) (gave : ℕ → Type 0) → IsFile 4194304 told bytes →
    (s : Status) (t : List ℕ) → TurnsTextDown bytes s t → TurnsProblemDown name told gave s t
text_down name bytes told gave file BadProblem t h = record { bytes = bytes; file = file; refused = h }
text_down name bytes told gave file Memory t h = h
text_down name bytes told gave file s t h = absurd h

-- the same of a formula's text
pub formula_down : (name bytes : List ℕ) (told : Option (List ℕ)) (gave : ℕ → Type 0) → IsFile 4194304 told bytes →
    (s : Status) (t : List ℕ) → TurnsFormulaTextDown bytes s t → TurnsFormulaDown name told gave s t
formula_down name bytes told gave file Memory t h = h
formula_down name bytes told gave file BadQdimacs t h = record { bytes = bytes; file = file; refused = h }
formula_down name bytes told gave file s t h = absurd h

-- a file that can't be had
pub no_problem_file : (name : List ℕ) (told : Option (List ℕ)) (gave : ℕ → Type 0) (s : Status) (t : List ℕ) →
    TurnsFileDown 4194304 name told gave s t → TurnsProblemDown name told gave s t
no_problem_file name told gave BadProblem t h = absurd h
no_problem_file name told gave s t h = h

pub no_formula_file : (name : List ℕ) (told : Option (List ℕ)) (gave : ℕ → Type 0) (s : Status) (t : List ℕ) →
    TurnsFileDown 4194304 name told gave s t → TurnsFormulaDown name told gave s t
no_formula_file name told gave BadQdimacs t h = absurd h
no_formula_file name told gave s t h = h

-- a formula's text that couldn't be read
pub qdimacs_down : (bytes : List ℕ) (f : QdimacsFault) (s : Status) (t : List ℕ) → ExplainsFormula bytes f → TurnsQdimacsDown f s t → TurnsFormulaTextDown bytes s t
qdimacs_down bytes (RefusedFormula kind at) s t why is = rw is.0 (record { kind = kind; at = at; refuses = why; line = is.1 })
qdimacs_down bytes (WantFormula e) s t why is = rw is.0 is.1

-- a game that isn't made
pub reading_down : (places : Places) (g : Game) (f : NoFault) (s : Status) (t : List ℕ) → Refuses f places g → TurnsFaultDown f s t → TurnsReadingDown places g s t
reading_down places g NoCondition s t why is = rw is.0 (record { why = NoCondition; refuses = why; line = is.1 })
reading_down places g TooManyScopes s t why is = rw is.0 (record { why = TooManyScopes; refuses = why; line = is.1 })
reading_down places g (WantReading e) s t why is = rw is.0 is.1

long_before : (limit : ℕ) (name : List ℕ) (told : Option (List ℕ)) (gave gave' : ℕ → Type 0) (t : List ℕ) → ((n : ℕ) → gave n → gave' n) →
    IsLong limit name told gave t → IsLong limit name told gave' t
long_before limit name told gave gave' t f h = record { given = f (limit + 1) h.given; longer = h.longer; line = h.line }

-- more was given before
pub file_before : (limit : ℕ) (name : List ℕ) (told : Option (List ℕ)) (gave gave' : ℕ → Type 0) → ((n : ℕ) → gave n → gave' n) →
    (s : Status) (t : List ℕ) → TurnsFileDown limit name told gave s t → TurnsFileDown limit name told gave' s t
file_before limit name told gave gave' f TooLong t h = long_before limit name told gave gave' t f h
file_before limit name told gave gave' f s t h = h

pub checks_before : (name : List ℕ) (told : Option (List ℕ)) (gave gave' : ℕ → Type 0) (g : Game) → ((n : ℕ) → gave n → gave' n) →
    (s : Status) (t : List ℕ) → ChecksFile name told gave g s t → ChecksFile name told gave' g s t
checks_before name told gave gave' g f s t h = elim h [ inl d ↦ inl (file_before 1073741824 name told gave gave' f s t d) | inr b ↦ inr b ]
