-- Document 02, U2: the lines of an order. "An order shall keep its choices as a lent list of up to 64 lines, each an option number and
-- a sense."
use Rattle.std.specs.Prelude.{List, [], ◌∷◌, ◌++◌, ℕ, suc, ◌-◌, take, drop}
use Rattle.model.specs.Literal.{Literal}
use Rattle.model.specs.Results.{appended}

-- "The list is lent as 64 slots and a count."
abbrev pub most_lines : ℕ
most_lines = 64

-- "An option number and a sense": a line is the mark that its keying adds.
abbrev pub Line : Type 0
Line = Literal

-- What is lent to a keying and to a withdrawal, and all that they may write.
pub record State : Type 0 where
  pub sheet : List ℕ
  pub lines : List Line
  pub count : ℕ

-- "A slot past the count is never read."
abbrev pub counted : State → List Line
counted t = take t.count t.lines

-- "Taking line k back (counted from 0) removes it."
unfoldable pub without : ℕ → List Line → List Line
without k ls = take k ls ++ drop (suc k) ls

-- It "moves later lines up"; a slot "freed by a withdrawal keeps what it held".
unfoldable pub moved_up : ℕ → ℕ → List Line → List Line
moved_up k count ls = without k (take count ls) ++ drop (count - 1) ls

-- It "keys the remaining lines in order": a mark each, as the root's last child.
unfoldable pub with_marks : List ℕ → List Line → List ℕ
with_marks s [] = s
with_marks s (l ∷ ls) = with_marks (appended s l) ls
