-- The clauses that the words from a place on are, and the file that they are of, for so many options.
use Rattle.std.specs.Prelude.{true, List, [], ◌≡◌, ℕ, ◌≤◌, length, drop}
use Rattle.model.specs.Base.{maybe, is_some}
use Rattle.model.specs.Limits.{most_options, most_nodes}
use Rattle.model.specs.Clauses.{Clause}
use Rattle.texts.specs.ClauseFile.{clauses_of_words, File}
use Rattle.texts.specs.ClauseBook.{nodes_of_file}
use Rattle.theory_texts.specs.Breaks.{words_after}

unfoldable pub clauses_from : ℕ → List ℕ → ℕ → List Clause
clauses_from n text body = maybe [] (λ cs. cs) (clauses_of_words n (words_after (drop body text)))

abbrev pub file_from : ℕ → List ℕ → ℕ → File
file_from n text body = record { options = n; clauses = clauses_from n text body }

-- A text that has been judged: its words from a place on are clauses, as many as told, and no more nodes than a book may have.
pub record JudgedGood (text : List ℕ) (body options rules : ℕ) : Type 0 where
  pub within : body ≤ length text
  pub few_options : options ≤ most_options
  pub reads : is_some (clauses_of_words options (words_after (drop body text))) ≡ true
  pub counted : rules ≡ length (clauses_from options text body)
  pub few_nodes : length (nodes_of_file (file_from options text body)) ≤ most_nodes
