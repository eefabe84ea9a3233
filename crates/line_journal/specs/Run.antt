-- The changes of a journal, one after the other (implementation-specific).
use Rattle.std.specs.Prelude.{◌≡◌, ◌≤◌, ℕ, List, [], ◌∷◌, length, take, Option}
use Rattle.line_journal.specs.Journal.{JournalContent, journal_content, with_lines, fresh}
use Rattle.line_journal.specs.declared.run.JournalChange.{JournalChange}
use Rattle.line_journal.specs.declared.run.JournalChange.TheVariants.{Append, Replace}

-- what a change makes of what is stored
abbrev pub content_after : JournalChange → Option JournalContent → Option JournalContent
content_after (Append batch) stored = with_lines batch stored
content_after (Replace snapshot) stored = fresh snapshot

-- what changes make of what is stored, the first of them first
abbrev pub after_all : List JournalChange → Option JournalContent → Option JournalContent
after_all [] stored = stored
after_all (change ∷ changes) stored = after_all changes (content_after change stored)

-- the file stands for what the first of these changes made, so many of them
pub record IsAfterSome (changes : List JournalChange) (stored : Option JournalContent) (file : List ℕ) : Type 0 where
  pub made : ℕ
  pub no_more : made ≤ length changes
  pub stands_for : journal_content file ≡ after_all (take made changes) stored
