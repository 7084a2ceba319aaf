-- Files that are told, and aren't too long.
use Rattle.std.proofs.Common.{◌≡◌, ◌≤◌, ◌<◌, ℕ, List, length, Option, Some, IfSome, refl, subst, arith}
use Rattle.proof_text.specs.declared.fault.CertFault.{CertFault}
use Rattle.proof_text.specs.declared.fault.CertFault.TheVariants.{NotACertificate, TooDeep, Memory as Want}
use Rattle.proof_text.specs.Places.{IsWant}
use Rattle.qecode_commands.specs.declared.status.Status.{Status}
use Rattle.qecode_commands.specs.declared.status.Status.TheVariants.{TooLong, ReadFault, Memory}
use Rattle.qecode_commands.specs.Certificates.{FaultLine}
use Rattle.qecode_commands.specs.Files.{IsLong, TurnsFileDown}

-- the bytes are those that are told
pub told_bytes : (told : Option (List ℕ)) (b c : List ℕ) → told ≡ Some b → IfSome told (λ file. c ≡ file) → c ≡ b
told_bytes told b c e h = subst (λ o. IfSome o (λ file. c ≡ file)) e h

-- a file isn't too long
pub never_long : (limit : ℕ) (name : List ℕ) (told : Option (List ℕ)) (gave : ℕ → Type 0) (t b : List ℕ) → told ≡ Some b → length b ≤ limit → IsLong limit name told gave t → ⊥
never_long limit name told gave t b e le long =
    let lt : limit < length b = subst (λ o. IfSome o (λ file. limit < length file)) e long.longer in omega arith

-- no file is turned down that isn't too long
pub never_unread : (limit : ℕ) (name : List ℕ) (told : Option (List ℕ)) (gave : ℕ → Type 0) (bytes : List ℕ) → told ≡ Some bytes → length bytes ≤ limit →
    (s : Status) (t : List ℕ) → TurnsFileDown limit name told gave s t → ¬ (s ≡ Memory) → ¬ (s ≡ ReadFault) → ⊥
never_unread limit name told gave bytes e le TooLong t d m r = never_long limit name told gave t bytes e le d
never_unread limit name told gave bytes e le Memory t d m r = m refl
never_unread limit name told gave bytes e le ReadFault t d m r = r refl
never_unread limit name told gave bytes e le s t d m r = d

-- a fault that has a line is no want of memory
pub no_want : (fault : CertFault) (t : List ℕ) → FaultLine fault t → IsWant fault → ⊥
no_want (NotACertificate at) t h w = w
no_want (TooDeep at) t h w = w
no_want (Want e) t h w = h
