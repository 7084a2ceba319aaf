-- What is asked of each name that a constraint uses.
use Rattle.std.specs.Prelude.{ℕ, Bool, List}
use Rattle.text_grammar.specs.declared.tree.Word.{Word}
use Rattle.text_resolve.specs.declared.walk.Rule.{Rule}
use Rattle.text_resolve.specs.declared.walk.Rule.TheVariants.{Known, Visible}
use Rattle.text_resolve.specs.Names.{Declared, is_unknown}
use Rattle.text_resolve.specs.Hidden.{is_later_word}

-- the name breaks the rule
abbrev pub breaks : List ℕ → List Declared → Rule → Word → Bool
breaks text ds Known = is_unknown text ds
breaks text ds (Visible scope) = is_later_word text ds scope
