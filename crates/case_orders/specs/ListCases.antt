-- Lists of calls, refused ones among them: the account, the steps, the end, the stretches and their bound.
use Rattle.std.specs.Prelude.{Bool, true, false, List, [], ◌∷◌, ◌++◌, map, ◌≡◌, refl, ℕ}
use Rattle.model.specs.Literal.{Literal, pos, neg}
use Rattle.model.specs.Strategy.{most_steps}
use Rattle.model.specs.Sheet.{nodes_in}
use Rattle.calls.specs.Lines.{State, counted}
use Rattle.calls.specs.History.{Call, key, withdraw, step, run, after_calls, Account, loaded, account_calls, meaning, is_stretch}
use Rattle.calls.specs.History.{steps_of, ends_settled}
use Rattle.case_samples.specs.Opened.{definitions}
use Rattle.case_samples.specs.Samples.{P, Q, R, not_P, not_Q, True, any_of, root, at_least, book, first_book, sheet, lined, samples}

-- "P or Q": the book, the sheet that the loader fills from it (`CallCases`), and the sheet with "choice not Q".
unfoldable pub p_or_q : List ℕ
p_or_q = book ("P" ∷ "Q" ∷ []) ((any_of 2 ∷ P ∷ Q ∷ []) ∷ [])

unfoldable pub start : State
start = lined (sheet 2 (root 1 ∷ any_of 2 ∷ P ∷ Q ∷ [])) [] 0

unfoldable pub after_first_choice : State
after_first_choice = lined (sheet 2 (root 2 ∷ any_of 2 ∷ P ∷ Q ∷ not_Q ∷ [])) (neg 1 ∷ []) 1

-- Document 02, U5: each call names an index. For P and for Q: how many marks, and where the first stands.
abbrev pub mentions : ℕ → ℕ → ℕ → ℕ → List ℕ
mentions p at_p q at_q = p ∷ at_p ∷ q ∷ at_q ∷ []

-- A stretch: no such option, a run of one step, a step that does not apply, a choice whose index is not the fresh count, a step that
-- applies, a run whose index is too short.
unfoldable pub stretch : List Call
stretch =
    key (mentions 1 2 2 3) 2 false
    ∷ run (mentions 1 2 2 3) 1
    ∷ step (mentions 1 2 1 4) 1 0 0 0
    ∷ key (mentions 1 2 2 3) 0 true
    ∷ step (mentions 1 2 1 4) 5 1 1 0
    ∷ run [] 20
    ∷ []

-- A choice, that stretch, another choice, a run to the end.
unfoldable pub whole : List Call
whole = key (mentions 1 2 1 3) 1 true ∷ stretch ++ (key (mentions 1 2 1 3) 0 false ∷ run (mentions 2 2 1 3) 20 ∷ [])

-- No sheet at all, so that every call is refused.
unfoldable pub no_sheet : State
no_sheet = lined (2 ∷ 1 ∷ []) [] 0

pub record Listed : Type 0 where
  pub accounts : List Account
  pub left : List (List ℕ)
  pub steps : List ℕ
  pub ends : List Bool
  pub stretches : List Bool

unfoldable pub listed : Listed
listed =
    record {
      accounts =
          account_calls whole start (loaded p_or_q start) ∷ account_calls whole no_sheet (loaded p_or_q no_sheet) ∷ [];
      left = (after_calls whole start).sheet ∷ (after_calls whole no_sheet).sheet ∷ [];
      steps = steps_of whole start ∷ steps_of stretch after_first_choice ∷ steps_of whole no_sheet ∷ [];
      ends =
          ends_settled whole start
          ∷ ends_settled (run (mentions 1 2 2 3) 1 ∷ []) after_first_choice
          ∷ ends_settled (key (mentions 1 2 1 3) 1 true ∷ []) start
          ∷ ends_settled [] start
          ∷ ends_settled whole no_sheet
          ∷ [];
      stretches =
          is_stretch stretch after_first_choice
          ∷ is_stretch [] start
          ∷ is_stretch (key (mentions 1 2 1 3) 1 true ∷ []) start
          ∷ is_stretch (key (mentions 1 2 1 3) 2 true ∷ key (mentions 1 2 1 3) 1 true ∷ []) start
          ∷ [];
    }

pub lists_come_to :
    listed
    ≡ record {
      -- "A call is accepted when it is not refused."
      accounts =
          record { book = p_or_q; choices = neg 1 ∷ pos 0 ∷ []; ledger = neg 1 ∷ pos 0 ∷ [] }
          ∷ record { book = p_or_q; choices = []; ledger = [] }
          ∷ [];
      -- "Each call is lent the sheet as the call before left it, unchanged by a refused one."
      left = sheet 2 (root 2 ∷ P ∷ not_Q ∷ []) ∷ (2 ∷ 1 ∷ []) ∷ [];
      -- "The steps it does are its accepted single steps and the counts that its runs returned, added up": 1 + 1 + 3; 1 + 1; none.
      steps = 5 ∷ 2 ∷ 0 ∷ [];
      -- A run that says settled; one that says stopped; a keying; nothing; a refused run.
      ends = true ∷ false ∷ false ∷ false ∷ false ∷ [];
      -- "A stretch is any unbroken part of the list that holds no accepted choice."
      stretches = true ∷ true ∷ false ∷ false ∷ [];
    }
unfolding definitions samples p_or_q start after_first_choice stretch whole no_sheet listed
lists_come_to = refl

-- "With the choices they mean these clauses: those of every body, and for each accepted choice the clause of its mark alone." Of P or (P
-- and Q) these are P, P and P, Q.
pub account_means :
    meaning (record { book = first_book; choices = neg 1 ∷ pos 0 ∷ []; ledger = pos 1 ∷ [] })
    ≡ (pos 0 ∷ pos 0 ∷ []) ∷ (pos 0 ∷ pos 1 ∷ []) ∷ (neg 1 ∷ []) ∷ (pos 0 ∷ []) ∷ []
unfolding definitions samples
account_means = refl

-- Document 02, U4: "every union of members' clauses over members - k + 1 of them". Of 2 of (P, Q, R) these are P, Q; P, R; Q, R. Of 2 of
-- (P, true, not Q) there is P, not Q alone: true has no clause to take.
pub members_mean :
    map (λ ns. meaning (record { book = book ("P" ∷ "Q" ∷ "R" ∷ []) (ns ∷ []); choices = []; ledger = [] }))
    ((at_least 2 3 ∷ P ∷ Q ∷ R ∷ []) ∷ (at_least 2 3 ∷ P ∷ True ∷ not_Q ∷ []) ∷ [])
    ≡ ((pos 0 ∷ pos 1 ∷ []) ∷ (pos 0 ∷ pos 2 ∷ []) ∷ (pos 1 ∷ pos 2 ∷ []) ∷ [])
    ∷ ((pos 0 ∷ neg 1 ∷ []) ∷ [])
    ∷ []
unfolding definitions samples
members_mean = refl

-- "n is the sheet's nodes (root counted) and l its marks just before the stretch": 5 and 3 after the first choice, so the cube of 11.
pub stretch_bound : most_steps (nodes_in after_first_choice.sheet) ≡ 1331
unfolding definitions samples after_first_choice
stretch_bound = refl

-- Document 02, U4: "The step bound counts each kind 6 node twice": 6 nodes, 2 of them of kind 6, and 3 marks, so the cube of 14.
pub least_bound : most_steps (nodes_in (sheet 2 (root 2 ∷ at_least 1 2 ∷ P ∷ Q ∷ at_least 1 1 ∷ P ∷ []))) ≡ 2744
unfolding definitions samples
least_bound = refl

-- Document 02, U2, in lists. The first lines hold "not Q", which was never keyed, and count it. P is keyed, a run stops after one step,
-- and P, line 1, is taken back.
unfoldable pub unkeyed : State
unkeyed = lined (sheet 2 (root 1 ∷ any_of 2 ∷ P ∷ Q ∷ [])) (neg 1 ∷ []) 1

unfoldable pub taking_back : List Call
taking_back = key (mentions 1 2 1 3) 0 false ∷ run (mentions 2 2 1 3) 1 ∷ withdraw p_or_q (mentions 1 4 1 3) 1 ∷ []

-- Another book of two options: the rule "not P".
unfoldable pub other_book : List ℕ
other_book = book ("P" ∷ "Q" ∷ []) ((not_P ∷ []) ∷ [])

pub record Taken : Type 0 where
  pub accounts : List Account
  pub sheets : List (List ℕ)
  pub lines_are : List Literal
  pub stretches : List Bool
  pub steps : ℕ

unfoldable pub taken : Taken
taken =
    let first = loaded p_or_q unkeyed in
    let after = mentions 2 2 1 3 in
    let keyed = key (mentions 1 2 1 3) 0 false in
    let refused = keyed ∷ withdraw p_or_q after 2 ∷ withdraw first_book after 18446744073709551616 ∷ withdraw p_or_q [] 0 ∷ [] in
    let other = keyed ∷ withdraw other_book after 0 ∷ [] in
    let none = taking_back ++ (withdraw p_or_q (mentions 1 2 2 3) 0 ∷ run (mentions 1 2 1 3) 20 ∷ []) in
    record {
      accounts =
          map (λ cs. account_calls cs unkeyed first) (taking_back ∷ refused ∷ other ∷ []);
      sheets = map (λ cs. (after_calls cs unkeyed).sheet) (taking_back ∷ other ∷ none ∷ []);
      lines_are = counted (after_calls taking_back unkeyed);
      stretches =
          is_stretch (withdraw p_or_q (mentions 1 2 1 3) 1 ∷ []) unkeyed
          ∷ is_stretch (withdraw p_or_q (mentions 1 2 1 3) 0 ∷ []) unkeyed
          ∷ is_stretch (withdraw p_or_q (mentions 1 2 1 4) 0 ∷ []) unkeyed
          ∷ [];
      steps = steps_of none unkeyed;
    }

pub taken_come_to :
    taken
    ≡ record {
      -- A line that was never keyed is no choice, until the first accepted withdrawal: then "the accepted choices are the lines still
      -- standing", "and the loaded rules are those of the book lent to it". Refused ones change nothing.
      accounts =
          record { book = p_or_q; choices = neg 1 ∷ []; ledger = neg 1 ∷ [] }
          ∷ record { book = p_or_q; choices = pos 0 ∷ []; ledger = neg 1 ∷ pos 0 ∷ [] }
          ∷ record { book = other_book; choices = pos 0 ∷ []; ledger = pos 0 ∷ [] }
          ∷ [];
      -- "The run's work is dropped."
      sheets =
          sheet 2 (root 2 ∷ any_of 2 ∷ P ∷ Q ∷ not_Q ∷ [])
          ∷ sheet 2 (root 2 ∷ not_P ∷ P ∷ [])
          ∷ sheet 2 (root 1 ∷ any_of 2 ∷ P ∷ Q ∷ [])
          ∷ [];
      lines_are = neg 1 ∷ [];
      -- A refused withdrawal is in a stretch, refused for its index too; an accepted one is in none, "even if no line is left".
      stretches = true ∷ false ∷ true ∷ [];
      -- "The next run counts from zero": the one step before, and none after, as no rule applies.
      steps = 1;
    }
unfolding definitions samples p_or_q unkeyed taking_back other_book taken
taken_come_to = refl

-- Document 02, U5: a choice, a withdrawal, a step that applies and a run, each alone after the first choice, with this index. Nothing but
-- the index can stand against them.
unfoldable pub each_with : List ℕ → List Call
each_with index = key index 0 false ∷ withdraw p_or_q index 0 ∷ step index 10 0 1 0 ∷ run index 20 ∷ []

pub record Tried : Type 0 where
  pub sheets : List (List ℕ)
  pub counts : List ℕ
  pub steps : List ℕ
  pub ends : List Bool

unfoldable pub tried : List ℕ → Tried
tried index =
    record {
      sheets = map (λ c. (after_calls (c ∷ []) after_first_choice).sheet) (each_with index);
      counts = map (λ c. (after_calls (c ∷ []) after_first_choice).count) (each_with index);
      steps = map (λ c. steps_of (c ∷ []) after_first_choice) (each_with index);
      ends = map (λ c. ends_settled (c ∷ []) after_first_choice) (each_with index);
    }

-- Refused for its index, each leaves the sheet and the count of lines, does no step and says nothing of settled.
abbrev unmoved : Tried
unmoved =
    record {
      sheets = map (λ c. after_first_choice.sheet) (each_with []);
      counts = 1 ∷ 1 ∷ 1 ∷ 1 ∷ [];
      steps = 0 ∷ 0 ∷ 0 ∷ 0 ∷ [];
      ends = false ∷ false ∷ false ∷ false ∷ [];
    }

-- The right index, one that is not the fresh count, and none.
pub tried_come_to :
    map tried (mentions 1 2 2 3 ∷ mentions 1 2 1 3 ∷ [] ∷ [])
    ≡ record {
      sheets =
          sheet 2 (root 3 ∷ any_of 2 ∷ P ∷ Q ∷ not_Q ∷ P ∷ [])
          ∷ sheet 2 (root 1 ∷ any_of 2 ∷ P ∷ Q ∷ [])
          ∷ sheet 2 (root 2 ∷ any_of 2 ∷ P ∷ any_of 0 ∷ not_Q ∷ [])
          ∷ sheet 2 (root 2 ∷ P ∷ not_Q ∷ [])
          ∷ [];
      counts = 2 ∷ 0 ∷ 1 ∷ 1 ∷ [];
      steps = 0 ∷ 0 ∷ 1 ∷ 3 ∷ [];
      ends = false ∷ false ∷ false ∷ true ∷ [];
    }
    ∷ unmoved
    ∷ unmoved
    ∷ []
unfolding definitions samples p_or_q after_first_choice each_with tried
tried_come_to = refl
