-- A file that a text is, by the words after its p line: it is the one that these are written from.
use mathlib.Core.List.{List, []}
use mathlib.Core.Option.{some}
use mathlib.Core.Path.{◌≡◌, sym, ap, ◌∙◌}
use Prim.Native.Nat.{ℕ, ◌≤◌}
use lib.ListN.{length, drop}
use Rattle.model.specs.Base.{maybe, is_some}
use Rattle.model.specs.Limits.{most_options, most_nodes}
use Rattle.texts.specs.ClauseFile.{clauses_of_words, File}
use Rattle.texts.specs.ClauseBook.{nodes_of_file}
use Rattle.theory_texts.specs.Breaks.{words_after}
use Rattle.import_clauses.specs.FileFrom.{clauses_from, file_from, JudgedGood}

module _
    (text : List ℕ) (body n : ℕ) (f : File)
    (options : n ≡ f.options)
    (read : clauses_of_words f.options (words_after (drop body text)) ≡ some f.clauses)
  where
    clauses_are : clauses_from n text body ≡ f.clauses
    unfolding clauses_from maybe
    clauses_are = rw options (ap (maybe [] (λ cs. cs)) read)

    pub file_is : file_from n text body ≡ f
    file_is = rw (clauses_are, options)

    pub judged_good :
        (rules : ℕ) →
        body ≤ length text →
        rules ≡ length f.clauses →
        n ≤ most_options →
        length (nodes_of_file f) ≤ most_nodes →
        JudgedGood text body n rules
    unfolding is_some
    judged_good rules within counted few_options few_nodes =
        record {
          within = within;
          few_options = few_options;
          reads = rw options (ap is_some read);
          counted = counted ∙ ap length (sym clauses_are);
          few_nodes = rw file_is few_nodes;
        }
