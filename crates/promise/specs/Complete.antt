-- The "complete" question. Document 02, U6: "A sheet is complete from now on if it is not contradictory and every option that some rule of
-- the loaded book or some choice names is marked 1 or 2."
use Rattle.std.proofs.Math.Bool.{Bool, not}
use Rattle.std.specs.Prelude.{true, false, ◌&&◌, ◌||◌, List, ◌⊎◌, ◌↔◌, ◌≡◌, refl, eqb, length, get_or}
use Rattle.std.proofs.Common.{inl, inr, ⊎_elim, sym, ap, ◌∙◌, eqb-true, eq-eqb}
use Rattle.std.proofs.Math.Option.{none}
use Prim.Native.Nat.{ℕ, ◌<◌}
use Rattle.std.proofs.lemmas.Bool.{not-true}
use Rattle.model.specs.Base.{all, only_if, first_of}
use Rattle.model.specs.Literal.{pos, neg}
use Rattle.model.specs.Limits.{sheet_length}
use Rattle.model.specs.Clauses.{Clause, Derived, Contradictory}
use Rattle.model.specs.Propagation.{Report, count_from, report, complete}
use Rattle.model.specs.Sheet.{is_sheet, options_in, clauses_in, report_in}
use Rattle.model.specs.Book.{options_of}
use Rattle.calls.specs.Refusals.{sheet_refused}
use Rattle.calls.specs.Outcomes.{refused, accepted, answer}
use Rattle.calls.specs.Lines.{Line, State, counted}
use Rattle.calls.specs.Named.{is_named, is_decided, complete_among}
use Rattle.calls.specs.Conditions.{has_lines_in_order}
use Rattle.calls.specs.Chains.{book_refusal, order_refusal, complete_refusal}
use Rattle.calls.specs.Calls.{check_of, complete_of}
use Rattle.calls.specs.History.{Call, after_calls, Account, loaded, account_calls, meaning}
use Rattle.theory_forms.specs.Lists.{all_count, all_index}
use Rattle.theory_forms.specs.Logic.{true_false, and_split, and_join, or_split, or_left, or_right, fails_if}
use Rattle.theory_meaning.specs.ExactReports.{report_tells}
use Rattle.call_laws.specs.Valuations.{same_report}
use Rattle.call_laws.specs.Accepted.{lines_in_order, in_order_lines}
use Rattle.call_laws.specs.Effects.{Keeps, Agrees, calls_effect}
use Rattle.call_laws.specs.KeptOrders.{calls_keep, calls_book}
use Rattle.promise.specs.Refusals.{check_none}
use Rattle.promise.specs.Lists.{order_of, loaded_agrees}

-- No contradiction, and every option that is named is derived in or out.
pub record Complete (n : ℕ) (cs : List Clause) (named : ℕ → Bool) : Type 0 where
  pub consistent : Contradictory cs → ⊥
  pub decided :
      (v : ℕ) →
      (is_option : v < n) →
      (named_so : named v ≡ true) →
      Derived cs (pos v) ⊎ Derived cs (neg v)

-- A mark is 1 or 2, where 1 says A and 2 says B.
decides :
    {A B : Type 0} (m : ℕ) →
    (m ≡ 1) ↔ A →
    (m ≡ 2) ↔ B →
    ((eqb m 1 || eqb m 2) ≡ true) ↔ (A ⊎ B)
decides m a b = (
  λ e. ⊎_elim (λ q. inl (a.0 (eqb-true m 1 q))) (λ q. inr (b.0 (eqb-true m 2 q))) (or_split (eqb m 1) (eqb m 2) e),
  ⊎_elim (λ x. or_left (eqb m 2) (eq-eqb m 1 (a.1 x))) (λ y. or_right (eqb m 1) (eq-eqb m 2 (b.1 y))),
)

-- "Not named, or decided" is "decided, if named".
if_named : (a b : Bool) → ((not a || b) ≡ true) ↔ (a ≡ true → b ≡ true)
if_named true b = (λ e _. e, λ f. f refl)
if_named false b = (λ _ e. true_false (sym e), λ _. refl)

-- The report of clauses is complete for these names exactly if the clauses are.
module _ (n : ℕ) (cs : List Clause) (named : ℕ → Bool) where
  abbrev r : Report
  r = report n cs

  mark :
      (Contradictory cs → ⊥) →
      (v : ℕ) →
      v < n →
      (is_decided r v ≡ true) ↔ (Derived cs (pos v) ⊎ Derived cs (neg v))
  unfolding is_decided
  mark fine v h =
      let t = report_tells n cs in
      decides (get_or r.marks v 0) (t.is_in fine v h) (t.is_out fine v h)

  complete_report : (complete_among named n r ≡ true) ↔ Complete n cs named
  unfolding complete_among
  complete_report = (to, from)
    where
      settled : ℕ → Bool
      settled v = not (named v) || is_decided r v

      to : (not r.contradictory && all settled (count_from 0 n)) ≡ true → Complete n cs named
      to e =
          let t = report_tells n cs in
          let w = and_split (not r.contradictory) (all settled (count_from 0 n)) e in
          let fine : Contradictory cs → ⊥ = λ c. true_false (sym (t.conflicts.1 c) ∙ not-true r.contradictory w.0) in
          record {
            consistent = fine;
            decided = λ v h k. (mark fine v h).0 ((if_named (named v) (is_decided r v)).0 ((all_count settled n).0 w.1 v h) k);
          }

      from : Complete n cs named → (not r.contradictory && all settled (count_from 0 n)) ≡ true
      from w =
          let t = report_tells n cs in
          let quiet : r.contradictory ≡ false = fails_if r.contradictory (λ e. w.consistent (t.conflicts.0 e)) in
          and_join
          (ap not quiet)
          ((all_count settled n).1 (λ v h. (if_named (named v) (is_decided r v)).1 (λ k. (mark w.consistent v h).1 (w.decided v h k))))

-- An answer that says true exactly if clauses of so many options are complete for these names, and false exactly if they are not.
pub record SaysComplete (order : State) (book : List ℕ) (n : ℕ) (cs : List Clause) (named : ℕ → Bool) : Type 0 where
  pub says_complete : (complete_of order book ≡ accepted true) ↔ Complete n cs named
  pub says_incomplete : (complete_of order book ≡ accepted false) ↔ (Complete n cs named → ⊥)

says_by :
    (order : State) (book : List ℕ) (n : ℕ) (cs : List Clause) (named : ℕ → Bool) →
    complete_of order book ≡ accepted (complete_among named n (report n cs)) →
    SaysComplete order book n cs named
says_by order book n cs named given =
    let told = complete_among named n (report n cs) in
    let w = complete_report n cs named in
    record {
      says_complete = rw given ((λ e. w.0 (cc)), λ c. ap accepted (w.1 c));
      says_incomplete = rw given ((λ e c. true_false (sym (w.1 c) ∙ cc)), λ no. ap accepted (fails_if told (λ e. no (w.0 e))));
    }

-- What is lent: a sheet, an accepted book of its N, and lines in order. (Else one of the refusals that `Due` lists is due.)
pub record Lent (order : State) (book : List ℕ) : Type 0 where
  pub is_a_sheet : is_sheet order.sheet ≡ true
  pub book_accepted : check_of book ≡ accepted tt
  pub same_options : options_of book ≡ options_in order.sheet
  pub lines_in_order : has_lines_in_order order ≡ true

given :
    (order : State) (book : List ℕ) →
    Lent order book →
    complete_of order book
    ≡ accepted (complete_among (is_named book (counted order)) (options_in order.sheet) (report_in order.sheet))
unfolding complete_of complete_refusal order_refusal answer first_of only_if
given order book h =
    let same = eq-eqb (options_of book) (options_in order.sheet) h.same_options in
    rw (h.is_a_sheet, (check_none book).0 h.book_accepted, same, h.lines_in_order)

-- "Every option that some rule of the loaded book or some choice names": a mark of it stands in some body of the lent book, or it is the
-- option of some counted line. What the sheet itself names plays no part.
pub complete_exact :
    (order : State) (book : List ℕ) →
    (lent : Lent order book) →
    SaysComplete order book (options_in order.sheet) (clauses_in order.sheet) (is_named book (counted order))
unfolding report_in
complete_exact order book h = says_by order book _ _ _ (given order book h)

-- What was complete by document 01's words, "not contradictory and every option is 1 or 2", is complete now, whatever is lent beside it.
pub complete_as_before :
    (order : State) (book : List ℕ) →
    (lent : Lent order book) →
    (was_complete : complete (report_in order.sheet) ≡ true) →
    complete_of order book ≡ accepted true
unfolding complete complete_among is_decided report_in
complete_as_before order book h e =
    let s = order.sheet in
    let r = report_in s in
    let w = and_split (not r.contradictory) _ e in
    let width = (report_tells (options_in s) (clauses_in s)).width in
    given order book h
    ∙ ap accepted
    (and_join w.0
    ((all_count _ (options_in s)).1 (λ v l.
    or_right (not (is_named book (counted order) v)) (all_index (λ m. eqb m 1 || eqb m 2) r.marks v 0 w.1 (rw width l)))))

-- The options that an account names: by its book, or by a line of its ledger.
abbrev pub account_names : Account → ℕ → Bool
account_names a = is_named a.book a.ledger

-- After a list of calls, with the account's book and the lines as they are then: the question is answered by the account, unless the lines
-- are not in order, which is 11. Lines that were in order at first are so after every list.
pub record CompleteAfter (account : Account) (start end : State) : Type 0 where
  pub says :
      (lines_in_order : has_lines_in_order end ≡ true) →
      SaysComplete end account.book (options_of account.book) (meaning account) (account_names account)
  pub else_refused :
      (lines_not_in_order : has_lines_in_order end ≡ false) →
      complete_of end account.book ≡ refused sheet_refused
  pub stays_in_order :
      (first_lines_in_order : has_lines_in_order start ≡ true) →
      has_lines_in_order end ≡ true

-- For every list of demand 3, whatever sheet it ends in: complete exactly if the account is consistent and every option that it names is
-- derived in or out.
pub complete_after :
    (book target : List ℕ) (lines : List Line) (count : ℕ) →
    (book_accepted : check_of book ≡ accepted tt) →
    (target_long_enough : length target ≡ sheet_length) →
    (calls : List Call) →
    let start = order_of book target lines count in
    CompleteAfter (account_calls calls start (loaded book start)) start (after_calls calls start)
unfolding complete_of complete_refusal order_refusal answer first_of only_if report_in
complete_after book target lines count ok long calls =
    record {
      says = λ o. says_by end account.book _ _ _ (given end account.book (lent o) ∙ ap accepted by_account);
      else_refused = λ o. rw (keeps.sheet, good, eq-eqb (options_of account.book) (options_in end.sheet) (sym keeps.options), o);
      stays_in_order = λ o. in_order_lines end (calls_keep calls start (lines_in_order start o));
    }
  where
    start : State
    start = order_of book target lines count

    end : State
    end = after_calls calls start

    account : Account
    account = account_calls calls start (loaded book start)

    agrees : Agrees account end
    agrees = (calls_effect calls start (loaded book start) (loaded_agrees book target lines count ok long)).agrees

    keeps : Keeps account end.sheet
    keeps = agrees.keeps

    good : book_refusal account.book ≡ none
    good = calls_book calls start (loaded book start) ((check_none book).0 ok)

    lent : has_lines_in_order end ≡ true → Lent end account.book
    lent o =
        record {
          is_a_sheet = keeps.sheet;
          book_accepted = (check_none account.book).1 good;
          same_options = sym keeps.options;
          lines_in_order = o;
        }

    by_account :
        complete_among (is_named account.book (counted end)) (options_in end.sheet) (report_in end.sheet)
        ≡ complete_among (account_names account) (options_of account.book) (report (options_of account.book) (meaning account))
    by_account =
        let n = options_of account.book in
        rw (agrees.ledger, keeps.options) (ap (complete_among (account_names account) n) (same_report keeps.models n))
