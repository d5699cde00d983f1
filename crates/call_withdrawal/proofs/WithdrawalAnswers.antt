-- The answers of a withdrawal, in the order of its tests.
use mathlib.Core.Bool.{true}
use mathlib.Core.List.{List}
use mathlib.Core.Option.{none, some}
use mathlib.Core.Path.{◌≡◌, sym, ap, ◌∙◌}
use Prim.Native.Nat.{ℕ, ◌+◌, ◌-◌, ◌*◌, ◌≤◌, ◌<◌}
use native.Mathlib.Omega.{arith}
use borrow.Author.Tests.{lt-ltb, le-ltb}
use lib.Dec.{ltb}
use lib.ListN.{length}
use lib.Seq.{length-take-le}
use Rattle.model.specs.Base.{first_of, only_if, all, placed}
use Rattle.model.specs.Literal.{option}
use Rattle.model.specs.Code.{weight}
use Rattle.model.specs.Limits.{most_weight, literal_weight, sheet_length}
use Rattle.model.specs.Sheet.{options_in, nodes_in, is_sheet, sheet_of}
use Rattle.model.specs.Book.{options_of, book_nodes}
use Rattle.calls.specs.Refusals.{Refusal, line_refused, full_refused}
use Rattle.calls.specs.Outcomes.{refused, accepted}
use Rattle.calls.specs.Lines.{most_lines, State, counted, without, moved_up, with_marks}
use Rattle.calls.specs.Index.{fresh_count}
use Rattle.calls.specs.Conditions.{index_length}
use Rattle.calls.specs.Chains.{order_refusal, withdraw_refusal, early, index_refusal}
use Rattle.calls.specs.Calls.{withdraw_of, withdraw_with}
use Rattle.theory_forms.specs.Sheets.{sheet_formed, nodes_made, options_made}
use Rattle.theory_formats.specs.Loading.{Accepted, loaded_sheet, loaded_shaped}
use Rattle.theory_index.specs.IndexedCalls.{sheet_first, index_accepted, refused_with, accepted_with}
use Rattle.theory_index.specs.Left.{left_room}
use Rattle.call_laws.specs.Accepted.{InOrder, withdraw_accepted}
use Rattle.call_laws.specs.Books.{accepted_book}
use Rattle.call_laws.specs.RefusalChains.{first_joined}
use Rattle.call_laws.specs.OrderLines.{without_length, known_without, Marked, marks_put}
use Rattle.call_answers.specs.AnswerMeaning.{after_call, beside_index, on_indexed_sheet}
use Rattle.call_withdrawal.specs.LastTests.{line_refusal}

-- The last tests: the line, and the room for the lines that stand.
module _ (b : List ℕ) (c k : ℕ) where
  pub no_line : c ≤ k → some line_refused ≡ line_refusal b c k
  unfolding line_refusal first_of only_if
  no_line h = rw (le-ltb k c h)

  pub no_room :
      k < c →
      most_weight < weight (book_nodes b) + literal_weight * (c - 1) →
      some full_refused ≡ line_refusal b c k
  unfolding line_refusal first_of only_if
  no_room h over = rw (lt-ltb k c h, lt-ltb most_weight (weight (book_nodes b) + literal_weight * (c - 1)) over)

  pub room :
      k < c →
      weight (book_nodes b) + literal_weight * (c - 1) ≤ most_weight →
      none ≡ line_refusal b c k
  unfolding line_refusal first_of only_if
  room h light = rw (lt-ltb k c h, le-ltb most_weight (weight (book_nodes b) + literal_weight * (c - 1)) light)

-- The tests before them.
module _ (t : State) (b : List ℕ) (k : ℕ) where
  pub not_orderly : {r : Refusal} → order_refusal t b ≡ some r → some r ≡ withdraw_refusal t b k
  unfolding withdraw_refusal first_of
  not_orderly e = rw e

  pub orderly : order_refusal t b ≡ none → line_refusal b t.count k ≡ withdraw_refusal t b k
  unfolding withdraw_refusal line_refusal first_of
  orderly e = rw e

-- What is left: the book's sheet with the marks of the lines that stand; and beside it the lines and their count.
abbrev pub afresh : List ℕ → List ℕ
afresh b = sheet_of (options_of b) (book_nodes b)

abbrev pub withdrawn : State → List ℕ → ℕ → List ℕ
withdrawn t b k = with_marks (afresh b) (without k (counted t))

abbrev pub withdrawn_state : State → List ℕ → ℕ → State
withdrawn_state t b k = record { sheet = withdrawn t b k; lines = moved_up k t.count t.lines; count = t.count - 1 }

-- The answer by the refusal that is due with the index.
module _ (t : State) (b index : List ℕ) (k : ℕ) where
  pub refused_by :
      {r : Refusal} →
      index_refusal t.sheet index (withdraw_refusal t b k) ≡ some r →
      after_call (refused r) (beside_index t.sheet index) ≡ on_indexed_sheet (withdraw_with t b index k)
  unfolding withdraw_with withdraw_of
  refused_by e = ap on_indexed_sheet (refused_with (λ u. u.sheet) t index (withdraw_refusal t b k) tt (withdrawn_state t b k) e)

  pub taken_back :
      index_refusal t.sheet index (withdraw_refusal t b k) ≡ none →
      after_call (accepted tt) (beside_index (withdrawn t b k) (placed (fresh_count (withdrawn t b k)) index))
      ≡ on_indexed_sheet (withdraw_with t b index k)
  unfolding withdraw_with withdraw_of
  taken_back e = ap on_indexed_sheet (accepted_with (λ u. u.sheet) t index (withdraw_refusal t b k) tt (withdrawn_state t b k) e)

  -- Nothing was refused: the book can be loaded, the lines that stand have room on its sheet, and the index is long enough for the sheet
  -- that is left.
  pub record Doable : Type 0 where
    pub book : Accepted b
    pub whole : length t.sheet ≡ sheet_length
    pub loaded : is_sheet (afresh b) ≡ true
    pub few : t.count ≤ most_lines
    pub line : k < t.count
    pub known : all (λ l. ltb (option l) (options_in (afresh b))) (counted t) ≡ true
    pub room : weight (nodes_in (afresh b)) + literal_weight * (t.count - 1) ≤ most_weight
    pub fits : (is_sheet (withdrawn t b k) ≡ true) × (index_length (withdrawn t b k) ≤ length index)

  pub doable : index_refusal t.sheet index (withdraw_refusal t b k) ≡ none → Doable
  doable e =
      let i = index_accepted t.sheet index (withdraw_refusal t b k) e in
      let w = withdraw_accepted t b k i.own_none in
      let good = accepted_book b w.order.book in
      let nodes : nodes_in (afresh b) ≡ book_nodes b = nodes_made good.options (loaded_shaped b good) good.weight in
      let same : options_in (afresh b) ≡ options_in t.sheet = options_made (options_of b) (book_nodes b) ∙ w.order.same in
      let known : all (λ l. ltb (option l) (options_in (afresh b))) (counted t) ≡ true = rw same w.order.lines.known in
      let room : weight (nodes_in (afresh b)) + literal_weight * (t.count - 1) ≤ most_weight = rw nodes w.room in
      let left = marked w.order.lines w.line (loaded_sheet b good) known room in
      record {
        book = good;
        whole = (sheet_formed t.sheet w.order.sheet).whole;
        loaded = loaded_sheet b good;
        few = w.order.lines.few;
        line = w.line;
        known = known;
        room = room;
        fits = left_room index (record { sheet = left.sheet; options = left.options ∙ same }) i.room;
      }
    where
      marked :
          InOrder t →
          k < t.count →
          is_sheet (afresh b) ≡ true →
          all (λ l. ltb (option l) (options_in (afresh b))) (counted t) ≡ true →
          weight (nodes_in (afresh b)) + literal_weight * (t.count - 1) ≤ most_weight →
          Marked (afresh b) (length (without k (counted t))) (withdrawn t b k)
      marked lines line loaded known room =
          let whole = length-take-le t.count t.lines (omega (arith, lines.slots, lines.few)) in
          let fewer = without_length k (counted t) (omega arith) in
          marks_put (without k (counted t)) (afresh b) loaded (known_without (options_in (afresh b)) k (counted t) known) (omega arith)

-- Where none is due that comes before an index's, it is a sheet.
pub sheet_tested : (t : State) (b : List ℕ) (k : ℕ) → early (withdraw_refusal t b k) ≡ none → is_sheet t.sheet ≡ true
unfolding withdraw_refusal order_refusal
sheet_tested t b k e = sheet_first t.sheet _ (ap early (sym (first_joined _ _ _)) ∙ e)
