-- Where the numbers of a p line stand in a text.
use Rattle.std.specs.Prelude.{Bool, true, ◌&&◌, List, ◌≡◌, ℕ, ◌+◌, ◌≤◌, eqb, length, get_or, drop}
use Rattle.texts.specs.Decimals.{is_decimal}
use Rattle.theory_texts.specs.Figures.{run}
use Rattle.theory_texts.specs.WordKinds.{digits_of, past_digits}
use Rattle.theory_texts.specs.PLines.{ends_line}
use Rattle.import_head.specs.declared.Head.{Head}

-- What stands after V's digits: a space, C's digits, and a line end.
unfoldable pub rest_good : List ℕ → ℕ → Bool
rest_good text space =
    eqb (get_or text space 0) 32
    && (is_decimal (digits_of (drop (space + 1) text)) && ends_line (past_digits (drop (space + 1) text)))

pub record Rest (text : List ℕ) (options space : ℕ) (h : Head) : Type 0 where
  pub first : h.options ≡ options
  pub between : h.space ≡ space
  pub second : h.clauses ≡ space + 1
  pub last : h.body ≡ space + 1 + run (drop (space + 1) text)
  pub within : h.body ≤ length text
  pub decimal : is_decimal (digits_of (drop (space + 1) text)) ≡ true

-- A head by the places of its digits in a text, from the place where the p line begins.
pub record Stands (text : List ℕ) (at : ℕ) (h : Head) : Type 0 where
  pub space : ℕ
  pub far : space ≡ at + 6 + run (drop (at + 6) text)
  pub rest : Rest text (at + 6) space h
  pub decimal : is_decimal (digits_of (drop (at + 6) text)) ≡ true
