-- What the judging of a clause file keeps: the words counted so far, and what it gives in the end.
use Rattle.std.specs.Prelude as P
use Rattle.std.specs.Prelude.{true, false, ◌≡◌, ℕ, ◌+◌, ◌-◌, ◌≤◌, length, take, drop}
use mathlib.Core.List.{List, flatten}
use Rattle.std.proofs.Math.Option.{Option, none, some}
use Rattle.texts.specs.Decimals.{is_decimal, number_in}
use Rattle.texts.specs.ClauseFile.{clauses_of_words, File, file_stated}
use Rattle.theory_texts.specs.Breaks.{words_after}
use Rattle.theory_texts.specs.Tally as counts
use Rattle.import_head.specs.declared.Head.{Head}
use Rattle.import_words.specs.declared.Kind.{Kind}
use Rattle.import_words.specs.declared.Kind.TheVariants.{Closing, Mark}
use Rattle.import_judge.specs.declared.Tally.{Tally}
use Rattle.import_judge.specs.declared.Judged.{Judged}

-- One word more: one that closes a clause, or a mark.
abbrev pub one_counted : Kind → Tally → Tally
one_counted Closing t = record { clauses = t.clauses + 1; marks = t.marks; pending = false }
one_counted Mark t = record { clauses = t.clauses; marks = t.marks + 1; pending = true }

-- What is counted in the end, as the definitions write it.
abbrev pub count_told : P.Option Tally → Option counts.Tally
count_told P.None = none
count_told (P.Some t) = some (counts.tallied t.clauses t.marks)

-- A p line at these places: its digits, in order.
pub record PlacedHead (text : List ℕ) (h : Head) : Type 0 where
  pub options_order : h.options ≤ h.space
  pub clauses_order : h.clauses ≤ h.body
  pub within : (h.space ≤ length text) × (h.body ≤ length text)
  pub options : is_decimal (take (h.space - h.options) (drop h.options text)) ≡ true
  pub clauses : is_decimal (take (h.body - h.clauses) (drop h.clauses text)) ≡ true

-- The file that a p line at these places states, with the words after it.
unfoldable pub stated_at : List ℕ → Head → Option File
stated_at text h =
    file_stated
    (record {
      options = number_in (take (h.space - h.options) (drop h.options text));
      clauses = number_in (take (h.body - h.clauses) (drop h.clauses text));
    })
    (words_after (drop h.body text))

-- What a judged text gives, where it is a file: where V's digits stand, the words of its clauses, and how many clauses and marks.
pub record Gives (read : Option File) (text : List ℕ) (j : Judged) : Type 0 where
  pub file : File
  pub reads : read ≡ some file
  pub in_order : j.options ≤ j.space
  pub within : (j.space ≤ length text) × (j.body ≤ length text)
  pub decimal : is_decimal (take (j.space - j.options) (drop j.options text)) ≡ true
  pub options : number_in (take (j.space - j.options) (drop j.options text)) ≡ file.options
  pub words : clauses_of_words file.options (words_after (drop j.body text)) ≡ some file.clauses
  pub clauses : j.clauses ≡ length file.clauses
  pub marks : j.marks ≡ length (flatten file.clauses)
  pub few : j.clauses + j.marks ≤ length text
