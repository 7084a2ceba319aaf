use Rattle.std.proofs.Common.{◌≡◌, ◌≤◌, ◌<◌, ℕ, List, [], ◌∷◌, None, Bor, length, map, refl, rules, arith}
use Rattle.qecode_commands.specs.Words.{asked_of}
use Rattle.qecode_commands.proofs.words.command_of.Goals.{in_default-via-then-words-lt2, in_default-via-else-words-lt2+else-words-lt3+else-words-lt4+else-words-lt5+else-words-lt6}
use Rattle.qecode_commands.proofs.words.command_of.Goals as goal

few_words : (ws : List (Bor (List ℕ))) → length ws < 2 → None ≡ asked_of (map (λ w. w.now) ws)
few_words [] h = refl
few_words (a ∷ []) h = refl
few_words (a ∷ b ∷ ws) h = absurd (omega arith)

many_words : (ws : List (Bor (List ℕ))) → 6 ≤ length ws → None ≡ asked_of (map (λ w. w.now) ws)
many_words [] h = absurd (omega arith)
many_words (a ∷ []) h = absurd (omega arith)
many_words (a ∷ b ∷ []) h = absurd (omega arith)
many_words (a ∷ b ∷ c ∷ []) h = absurd (omega arith)
many_words (a ∷ b ∷ c ∷ d ∷ []) h = absurd (omega arith)
many_words (a ∷ b ∷ c ∷ d ∷ e ∷ []) h = absurd (omega arith)
many_words (a ∷ b ∷ c ∷ d ∷ e ∷ f ∷ ws) h = refl

pub returns-in_default-clause-asked : goal.returns-in_default-clause-asked
returns-in_default-clause-asked c =
    elim c.in_default.branch [
      | in_default-via-then-words-lt2 w ↦ few_words c.args.words.now (search rules)
      | in_default-via-else-words-lt2+else-words-lt3+else-words-lt4+else-words-lt5+else-words-lt6 w ↦ many_words c.args.words.now (search rules)
    ]
