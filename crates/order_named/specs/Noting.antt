-- What a pass adds to a table of options that are named.
use Rattle.std.specs.Prelude.{Bool, ◌||◌, List, ◌≡◌, ℕ, ◌+◌, ◌<◌, length}
use Rattle.model.specs.Base.{pick}
use Rattle.model.specs.Code.{value}
use Rattle.model.specs.Limits.{most_options}
use Rattle.theory_forms.specs.Scan.{is_literal}
use Rattle.report_marks.specs.Noted.{is_noted}

-- A place for each option, and one more.
abbrev pub table_length : ℕ
table_length = most_options + 1

-- Of all options, those are noted after it that were before, and those that it names.
pub record Adds (named : ℕ → Bool) (t u : List ℕ) : Type 0 where
  pub long : length u ≡ length t
  pub noted : (v : ℕ) → v < most_options → is_noted u v ≡ (is_noted t v || named v)

-- Where the node of a number is noted: a mark at its option, any other past all options.
unfoldable pub place_named : ℕ → ℕ
place_named x = pick (is_literal x) (value x) most_options
