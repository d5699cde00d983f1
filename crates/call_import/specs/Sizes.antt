-- The limits of 16, by the numbers of a file's options, clauses and marks; and a judged file that is within them.
use Rattle.std.specs.Prelude.{Bool, false, ◌||◌, List, ◌≡◌, ℕ, ◌+◌, ltb}
use Rattle.model.specs.Limits.{most_options, most_rules, most_nodes, most_weight}
use Rattle.texts.specs.ClauseFile.{file_of}
use Rattle.texts.specs.ClauseBook.{is_too_large}
use Rattle.import_judge.specs.declared.Judged.{Judged}
use Rattle.import_judge.specs.Judging.{Gives}

unfoldable pub over_limits : ℕ → ℕ → ℕ → Bool
over_limits options clauses marks =
    ltb most_options options
    || ltb most_rules clauses
    || ltb most_nodes (clauses + marks)
    || ltb most_weight (1 + (clauses + marks) + marks)

-- A judged text whose file is not too large, with its number of options.
pub record Small (text : List ℕ) (options : ℕ) (j : Judged) : Type 0 where
  pub given : Gives (file_of text) text j
  pub fits : is_too_large given.file ≡ false
  pub number : options ≡ given.file.options
