-- Faults of the parts of reading, as refusals.
use Rattle.std.specs.Prelude.{ℕ}
use Rattle.qc_tokens.specs.declared.fault.TokenError.{TokenError}
use Rattle.qc_tokens.specs.declared.fault.TokenError.TheVariants.{BadByte as ByteFault, BadNumber as NumberFault, Memory as TokenMemory}
use Rattle.text_grammar.specs.declared.fault.GrammarFault.{GrammarFault}
use Rattle.text_grammar.specs.declared.fault.GrammarFault.TheVariants.{Syntax as GrammarSyntax, Memory as GrammarMemory}
use Rattle.text_resolve.specs.declared.refusal.ItemFault.{ItemFault}
use Rattle.text_resolve.specs.declared.refusal.ItemFault.TheVariants.{Refused as ItemsRefused, Memory as ItemsMemory}
use Rattle.qc_syntax.specs.declared.fault.Refused13.{Refused13}
use Rattle.qc_syntax.specs.declared.fault.Refused13.TheVariants.{BadByte, BadNumber, Syntax}
use Rattle.qc_syntax.specs.declared.fault.ReadFault.{ReadFault}
use Rattle.qc_syntax.specs.declared.fault.ReadFault.TheVariants.{Refused, Memory}
use Rattle.qc_syntax.specs.Reads.{kind_of}

abbrev pub refusal : Refused13 → ℕ → ReadFault
refusal kind at = Refused (record { kind = kind; at = at })

abbrev pub of_tokens : TokenError → ReadFault
of_tokens (ByteFault at) = refusal BadByte at
of_tokens (NumberFault at) = refusal BadNumber at
of_tokens (TokenMemory e) = Memory e

abbrev pub of_grammar : GrammarFault → ReadFault
of_grammar (GrammarSyntax at) = refusal Syntax at
of_grammar (GrammarMemory e) = Memory e

abbrev pub of_items : ItemFault → ReadFault
of_items (ItemsRefused kind at) = refusal (kind_of kind) at
of_items (ItemsMemory e) = Memory e
