-- What a refusal says of the faults of a text.
use Rattle.std.specs.Prelude.{◌≡◌, ⊤, ℕ, Option, Some}
use Rattle.text_resolve.specs.declared.refusal.RefusalKind.{RefusalKind}
use Rattle.text_resolve.specs.declared.refusal.ItemFault.{ItemFault}
use Rattle.text_resolve.specs.declared.refusal.ItemFault.TheVariants.{Refused, Memory}
use Rattle.text_resolve.specs.TextRefusals.{Refusal}

-- a refusal names the first fault, and otherwise tells that there was no memory
abbrev pub IsItemFault : Option Refusal → ItemFault → Type 0
IsItemFault first (Refused kind at) = first ≡ Some (record { kind = kind; at = at })
IsItemFault first (Memory e) = ⊤

-- a refusal for this fault, at the place where it is
abbrev pub IsRefusedFor : RefusalKind → Option ℕ → ItemFault → Type 0
IsRefusedFor kind place (Refused k at) = (k ≡ kind) × (place ≡ Some at)
IsRefusedFor kind place (Memory e) = ⊥
