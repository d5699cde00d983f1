-- "From loading on": the list of calls of demand 3, what it accepts, does and leaves.
use Rattle.std.specs.Prelude.{Bool, true, false, not, ◌&&◌, List, [], ◌∷◌, ◌++◌, map, ℕ, zero, ◌+◌}
use Rattle.model.specs.Literal.{Literal, literal}
use Rattle.model.specs.Clauses.{Clause}
use Rattle.model.specs.Book.{clauses_of_book}
use Rattle.calls.specs.Outcomes.{if_accepted}
use Rattle.calls.specs.Calls.{key_with, withdraw_with, step_with, run_with}
use Rattle.calls.specs.Lines.{Line, State, counted, without}

-- "The list holds choices, single steps and runs, in any order and number, with any arguments." Document 02, U2: "Withdrawals,
-- refused ones too, now stand in the list." U5: each names an index of its own, any numbers.
pub data Call : Type 0 where
  key : List ℕ → ℕ → Bool → Call
  withdraw : List ℕ → List ℕ → ℕ → Call
  step : List ℕ → ℕ → ℕ → ℕ → ℕ → Call
  run : List ℕ → ℕ → Call

-- "Each call is lent the sheet as the call before left it." Document 02, U2: "each keying and withdrawal is lent the lines as the one
-- before left them, and nothing else writes them".
abbrev pub with_sheet : State → List ℕ → State
with_sheet t s = record { sheet = s; lines = t.lines; count = t.count }

unfoldable pub after_call : Call → State → State
after_call (key index v negative) t = (key_with t index v negative).lent.own
after_call (withdraw book index k) t = (withdraw_with t book index k).lent.own
after_call (step index r p i j) t = with_sheet t (step_with t.sheet index r p i j).lent.own
after_call (run index b) t = with_sheet t (run_with t.sheet index b).lent.own

unfoldable pub after_calls : List Call → State → State
after_calls [] t = t
after_calls (c ∷ cs) t = after_calls cs (after_call c t)

-- The account of a list: "the loaded rules are that book's bodies"; the choices that stand, in order; and the ledger, the lines as they
-- are "reckoned from those first lines and the accepted calls" (document 02, U2).
pub record Account : Type 0 where
  pub book : List ℕ
  pub choices : List Literal
  pub ledger : List Line

-- A freshly loaded book: nothing is chosen yet, whatever the first lines are. Document 02, U2: the list "starts with any lent lines".
abbrev pub loaded : List ℕ → State → Account
loaded book t = record { book = book; choices = []; ledger = counted t }

-- "Keying adds one at the end."
abbrev pub with_choice : Account → Literal → Account
with_choice a l = record { book = a.book; choices = a.choices ++ (l ∷ []); ledger = a.ledger ++ (l ∷ []) }

-- "Taking back k removes line k"; "after an accepted withdrawal the accepted choices are the lines still standing", "and the loaded rules
-- are those of the book lent to it".
abbrev pub without_line : Account → List ℕ → ℕ → Account
without_line a book k = record { book = book; choices = without k a.ledger; ledger = without k a.ledger }

-- The account after a call.
unfoldable pub account_call : Call → State → Account → Account
account_call (key index v negative) t a =
    if_accepted (key_with t index v negative).answer a (λ _. with_choice a (literal v negative))
account_call (withdraw book index k) t a = if_accepted (withdraw_with t book index k).answer a (λ _. without_line a book k)
account_call (step index r p i j) t a = a
account_call (run index b) t a = a

unfoldable pub account_calls : List Call → State → Account → Account
account_calls [] t a = a
account_calls (c ∷ cs) t a = account_calls cs (after_call c t) (account_call c t a)

-- "For each accepted choice the clause of its mark alone."
unfoldable pub choice_clauses : List Literal → List Clause
choice_clauses ls = map (λ l. l ∷ []) ls

-- "With the choices they mean these clauses: those of every body, and for each accepted choice the clause of its mark alone."
unfoldable pub meaning : Account → List Clause
meaning a = clauses_of_book a.book ++ choice_clauses a.choices

-- "A stretch is any unbroken part of the list that holds no accepted choice." Document 02, U2: "A stretch for the step bound holds no
-- accepted withdrawal either, even if no line is left."
unfoldable pub rekeys : Call → State → Bool
rekeys (key index v negative) t = if_accepted (key_with t index v negative).answer false (λ _. true)
rekeys (withdraw book index k) t = if_accepted (withdraw_with t book index k).answer false (λ _. true)
rekeys (step index r p i j) t = false
rekeys (run index b) t = false

unfoldable pub is_stretch : List Call → State → Bool
is_stretch [] t = true
is_stretch (c ∷ cs) t = not (rekeys c t) && is_stretch cs (after_call c t)

-- "The steps it does are its accepted single steps and the counts that its runs returned, added up."
unfoldable pub steps_of_call : Call → State → ℕ
steps_of_call (key index v negative) t = zero
steps_of_call (withdraw book index k) t = zero
steps_of_call (step index r p i j) t = if_accepted (step_with t.sheet index r p i j).answer 0 (λ _. 1)
steps_of_call (run index b) t = if_accepted (run_with t.sheet index b).answer 0 (λ r. r.count)

unfoldable pub steps_of : List Call → State → ℕ
steps_of [] t = zero
steps_of (c ∷ cs) t = steps_of_call c t + steps_of cs (after_call c t)

-- "Where the list ends in a run that says settled."
unfoldable pub says_settled : Call → State → Bool
says_settled (key index v negative) t = false
says_settled (withdraw book index k) t = false
says_settled (step index r p i j) t = false
says_settled (run index b) t = if_accepted (run_with t.sheet index b).answer false (λ r. r.settled)

unfoldable pub ends_settled : List Call → State → Bool
ends_settled [] t = false
ends_settled (c ∷ []) t = says_settled c t
ends_settled (c ∷ (d ∷ cs)) t = ends_settled (d ∷ cs) (after_call c t)
