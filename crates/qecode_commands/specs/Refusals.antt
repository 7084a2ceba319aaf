-- The lines that tell why a text is no problem.
use Rattle.std.specs.Prelude.{◌≡◌, ℕ, List, [], ◌++◌, codes, decimal}
use Rattle.qc_syntax.specs.declared.fault.Refused13.{Refused13}
use Rattle.qc_syntax.specs.declared.fault.Refused13.TheVariants.{BadByte, BadNumber, Syntax, DuplicateName, UnknownName, UnknownPredicate, WrongArguments, OutOfRange, EmptyDomain, TooWide, TooMany, NotVisible, BottleneckFirst}
use Rattle.qc_syntax.specs.declared.fault.ReadFault.{ReadFault}
use Rattle.qc_syntax.specs.declared.fault.ReadFault.TheVariants.{Refused, Memory as Want}
use Rattle.qc_syntax.specs.Reads.{Refuses}
use Rattle.qecode_commands.specs.declared.status.Status.{Status}
use Rattle.qecode_commands.specs.declared.status.Status.TheVariants.{BadProblem, Memory}

-- the number and the name of a kind
abbrev pub kind_text : Refused13 → List ℕ
kind_text BadByte = codes "1 BadByte"
kind_text BadNumber = codes "2 BadNumber"
kind_text Syntax = codes "3 Syntax"
kind_text DuplicateName = codes "4 DuplicateName"
kind_text UnknownName = codes "5 UnknownName"
kind_text UnknownPredicate = codes "6 UnknownPredicate"
kind_text WrongArguments = codes "7 WrongArguments"
kind_text OutOfRange = codes "8 OutOfRange"
kind_text EmptyDomain = codes "9 EmptyDomain"
kind_text TooWide = codes "10 TooWide"
kind_text TooMany = codes "11 TooMany"
kind_text NotVisible = codes "12 NotVisible"
kind_text BottleneckFirst = codes "14 BottleneckFirst"

abbrev pub refusal_line : Refused13 → ℕ → List ℕ
refusal_line kind at = codes "bad problem: " ++ kind_text kind ++ codes " at " ++ decimal at ++ codes "\n"

-- what is answered for a text that can't be read
abbrev pub TurnsDown : ReadFault → Status → List ℕ → Type 0
TurnsDown (Refused r) status text = (status ≡ BadProblem) × (text ≡ refusal_line r.kind r.at)
TurnsDown (Want e) status text = (status ≡ Memory) × (text ≡ [])

-- the text is refused, and the line tells the kind and the place
pub record IsRefused (bytes text : List ℕ) : Type 0 where
  pub kind : Refused13
  pub at : ℕ
  pub refuses : Refuses bytes kind at
  pub line : text ≡ refusal_line kind at

-- what is answered for a text that is no problem's
abbrev pub TurnsTextDown : List ℕ → Status → List ℕ → Type 0
TurnsTextDown bytes BadProblem text = IsRefused bytes text
TurnsTextDown bytes Memory text = text ≡ []
TurnsTextDown bytes status text = ⊥
