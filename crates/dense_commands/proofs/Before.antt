-- What is answered for a certificate's file, where more was given before.
use Rattle.std.proofs.Common.{ℕ, List, [], Option, None, Some, refl, inl, inr}
use Rattle.qc_model.specs.Content.{Game}
use Rattle.qecode_commands.specs.declared.status.Status.{Status}
use Rattle.qecode_commands.specs.declared.status.Status.TheVariants.{ReadFault}
use Rattle.qecode_commands.proofs.Down.{file_before, checks_before as tree_before}
use Rattle.dense_commands.specs.declared.head.Heading.{Heading}
use Rattle.dense_commands.specs.declared.head.Heading.TheVariants.{Lemmas, Optimum, Dense, Tree}
use Rattle.dense_commands.specs.Answers.{ChecksListFile, ChecksBestFile, ChecksDenseFile, ChecksAs, ChecksFile, heading_in}

list_before : (name : List ℕ) (told : Option (List ℕ)) (gave gave' : ℕ → Type 0) (g : Game) → ((n : ℕ) → gave n → gave' n) →
    (s : Status) (t : List ℕ) → ChecksListFile name told gave g s t → ChecksListFile name told gave' g s t
list_before name told gave gave' g f s t h = elim h [ inl d ↦ inl (file_before 1073741824 name told gave gave' f s t d) | inr b ↦ inr b ]

best_before : (name : List ℕ) (told : Option (List ℕ)) (gave gave' : ℕ → Type 0) (g : Game) → ((n : ℕ) → gave n → gave' n) →
    (s : Status) (t : List ℕ) → ChecksBestFile name told gave g s t → ChecksBestFile name told gave' g s t
best_before name told gave gave' g f s t h = elim h [ inl d ↦ inl (file_before 1073741824 name told gave gave' f s t d) | inr b ↦ inr b ]

dense_before : (name : List ℕ) (told : Option (List ℕ)) (gave gave' : ℕ → Type 0) (g : Game) → ((n : ℕ) → gave n → gave' n) →
    (s : Status) (t : List ℕ) → ChecksDenseFile name told gave g s t → ChecksDenseFile name told gave' g s t
dense_before name told gave gave' g f s t h = elim h [ inl d ↦ inl (file_before 1073741824 name told gave gave' f s t d) | inr b ↦ inr b ]

as_before : (heading : Heading) (name : List ℕ) (told : Option (List ℕ)) (gave gave' : ℕ → Type 0) (g : Game) → ((n : ℕ) → gave n → gave' n) →
    (s : Status) (t : List ℕ) → ChecksAs heading name told gave g s t → ChecksAs heading name told gave' g s t
as_before Lemmas name told gave gave' g f s t h = list_before name told gave gave' g f s t h
as_before Optimum name told gave gave' g f s t h = best_before name told gave gave' g f s t h
as_before Dense name told gave gave' g f s t h = dense_before name told gave gave' g f s t h
as_before Tree name told gave gave' g f s t h = tree_before name told gave gave' g f s t h

pub checks_before : (name : List ℕ) (told : Option (List ℕ)) (gave gave' : ℕ → Type 0) (g : Game) → ((n : ℕ) → gave n → gave' n) →
    (s : Status) (t : List ℕ) → ChecksFile name told gave g s t → ChecksFile name told gave' g s t
checks_before name told gave gave' g f s t (heading, is, h) = (heading, is, as_before heading name told gave gave' g f s t h)

-- where a file can't be read, however it begins
pub unread : (name : List ℕ) (told : Option (List ℕ)) (gave : ℕ → Type 0) (g : Game) → ChecksFile name told gave g ReadFault []
unread name None gave g = (Tree, tt, inl refl)
unread name (Some bytes) gave g = (heading_in bytes, refl, by (heading_in bytes)) where
  by : (heading : Heading) → ChecksAs heading name (Some bytes) gave g ReadFault []
  by Lemmas = inl refl
  by Optimum = inl refl
  by Dense = inl refl
  by Tree = inl refl
