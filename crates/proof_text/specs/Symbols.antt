-- What the text of a certificate goes on with, byte by byte.
--
-- A symbol is a part that a text still owes. The first byte of the part decides what is owed instead;
-- no text goes on with another byte. Symbols of trees carry the version of the text and the
-- nesting at their place.
use Rattle.std.specs.Prelude.{ℕ, ◌+◌, ◌-◌, ◌*◌, ◌^◌, nat_le, nat_eq, ◌&&◌, cond, List, [], ◌∷◌, ◌++◌, map, codes, Option, Some, None}
use Rattle.proof_tree.specs.declared.tree.Version.{Version}
use Rattle.proof_tree.specs.declared.tree.Version.TheVariants.{One, Two}

pub data Symbol : Type 0 where
  -- this byte
  byte : ℕ → Symbol
  -- a number from 1 to the first, and then the second, a byte
  number : ℕ → ℕ → Symbol
  -- a number at most so far from 0, and then a byte
  signed : ℕ → ℕ → Symbol
  -- the other digits of a number up to the first, after digits of the value of the second, and then a byte
  digits : ℕ → ℕ → ℕ → Symbol
  -- a version, and all after it
  certificate : Symbol
  outcome : Symbol
  optimum : Symbol
  -- steps of a horizon, and its end
  prunes : Symbol
  node : Version → ℕ → Symbol
  body : Version → ℕ → Symbol
  cases : Version → ℕ → Symbol
  ending : Version → ℕ → Symbol
  -- a case of a branch, after the line of its range
  case : Version → ℕ → Symbol
  -- cases of a branch, and its end
  branches : Version → ℕ → Symbol

abbrev pub bytes : List ℕ → List Symbol
bytes cs = map byte cs

-- each first byte that a part can have, and what is owed after it
abbrev pub Choices : Type 0
Choices = List (ℕ × List Symbol)

-- a variable and a range of its values, and then a byte
abbrev pub removed_part : ℕ → List Symbol
removed_part end = byte 32 ∷ number 500 32 ∷ signed 1000000000 32 ∷ signed 1000000000 end ∷ []

-- the rest of a line
abbrev pub prune_line : List Symbol
prune_line = removed_part 32 ++ number 20000 10 ∷ []

abbrev pub bound_line : List Symbol
bound_line = removed_part 10

abbrev pub certificate_choices : Choices
certificate_choices = (49, byte 10 ∷ outcome ∷ node One 0 ∷ []) ∷ (50, byte 10 ∷ outcome ∷ node Two 0 ∷ []) ∷ []

abbrev pub outcome_choices : Choices
outcome_choices = (116, bytes (codes "rue") ++ optimum ∷ []) ∷ (102, bytes (codes "alse\n")) ∷ (111, bytes (codes "pen ") ++ number 10000000 10 ∷ []) ∷ []

abbrev pub optimum_choices : Choices
optimum_choices = (10, []) ∷ (32, signed (2 ^ 62) 10 ∷ []) ∷ []

abbrev pub prune_choices : Choices
prune_choices = (112, prune_line ++ prunes ∷ []) ∷ (46, byte 10 ∷ []) ∷ []

abbrev pub ending_choices : Version → ℕ → Choices
ending_choices version n = (101, byte 10 ∷ []) ∷ (120, byte 10 ∷ []) ∷ (110, byte 10 ∷ node version (n + 1) ∷ []) ∷ (118, byte 32 ∷ number 500 10 ∷ branches version (n + 1) ∷ []) ∷ []

abbrev pub case_choices : Version → ℕ → Choices
case_choices version n = (112, prune_line ++ cases version n ∷ []) ∷ (98, bound_line ++ cases version n ∷ []) ∷ ending_choices version n

abbrev pub body_choices : Version → ℕ → Choices
body_choices version n = (116, byte 10 ∷ []) ∷ (103, byte 10 ∷ []) ∷ case_choices version n

abbrev pub node_choices : Version → ℕ → Choices
node_choices version n = (104, byte 32 ∷ number 65 10 ∷ prunes ∷ body version n ∷ []) ∷ body_choices version n

-- what is owed after each choice, and a symbol after it
abbrev pub followed : Choices → Symbol → Choices
followed choices s = map (λ c. (c.0, c.1 ++ s ∷ [])) choices

abbrev pub one_choices : Version → ℕ → Choices
one_choices version n = (115, byte 10 ∷ []) ∷ (111, byte 10 ∷ []) ∷ case_choices version n

-- the line of a range, in the second version alone
abbrev pub with_range : Version → ℕ → Choices → Choices
with_range One n choices = choices
with_range Two n choices = (114, byte 32 ∷ signed 1000000000 10 ∷ case Two n ∷ branches Two n ∷ []) ∷ choices

abbrev pub branch_choices : Version → ℕ → Choices
branch_choices version n = (46, byte 10 ∷ []) ∷ with_range version n (followed (one_choices version n) (branches version n))

abbrev pub chosen : ℕ → Choices → Option (List Symbol)
chosen b [] = None
chosen b (c ∷ choices) = cond (nat_eq b c.0) (Some c.1) (chosen b choices)

-- no number begins with 0 but 0 itself
abbrev pub first_digit : ℕ → ℕ → ℕ → Option (List Symbol)
first_digit most end b = cond (nat_le 49 b && nat_le b 57 && nat_le (b - 48) most) (Some (digits most (b - 48) end ∷ [])) None

abbrev pub next_digit : ℕ → ℕ → ℕ → ℕ → Option (List Symbol)
next_digit most value end b = cond (nat_le 48 b && nat_le b 57 && nat_le (10 * value + (b - 48)) most) (Some (digits most (10 * value + (b - 48)) end ∷ [])) None

-- what is owed in place of a symbol after a first byte
abbrev pub after : Symbol → ℕ → Option (List Symbol)
after (byte c) b = chosen b ((c, []) ∷ [])
after (number most end) b = first_digit most end b
after (signed most end) b = cond (nat_eq b 45) (Some (number most end ∷ [])) (cond (nat_eq b 48) (Some (byte end ∷ [])) (first_digit most end b))
after (digits most value end) b = cond (nat_eq b end) (Some []) (next_digit most value end b)
after certificate b = chosen b certificate_choices
after outcome b = chosen b outcome_choices
after optimum b = chosen b optimum_choices
after prunes b = chosen b prune_choices
after (node version n) b = chosen b (node_choices version n)
after (body version n) b = chosen b (body_choices version n)
after (cases version n) b = chosen b (case_choices version n)
after (ending version n) b = chosen b (ending_choices version n)
after (case version n) b = chosen b (one_choices version n)
after (branches version n) b = chosen b (branch_choices version n)

-- what a whole text owes at its start
abbrev pub start : List Symbol
start = bytes (codes "qcert ") ++ certificate ∷ []
