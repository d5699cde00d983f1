-- What stands in the lines and the count once a call on a copy of the lines has answered: what its definition says of the lent ones. And what
-- an accepted call says of them, so that the stores that follow it are legal.
use mathlib.Core.Bool.{Bool, true, false}
use mathlib.Core.List.{List, ◌++◌, map-append, append_assoc}
use mathlib.Core.Option.{Option, none, some}
use mathlib.Core.Path.{◌≡◌, refl, sym, ap, ◌∙◌}
use Prim.Native.Nat.{ℕ, suc, ◌+◌, ◌-◌, ◌≤◌, ◌<◌, ◌^◌}
use native.Mathlib.Numerals.{add-one}
use native.Mathlib.Omega.{arith}
use borrow.Author.Tests.{eq-eqb, ne_eqb}
use lib.Dec.{eqb}
use lib.ListN.{length, take, drop, set, length-map}
use lib.Seq.{take-take}
use Rattle.model.specs.Base.{pick, placed}
use Rattle.model.specs.Literal.{literal}
use Rattle.model.specs.Results.{appended}
use Rattle.calls.specs.Refusals.{Refusal, refusal_number, length_refused, head_refused, code_refused, contents_refused, body_refused}
use Rattle.calls.specs.Refusals.{weight_refused, option_refused, full_refused, rule_refused, step_refused, sheet_refused, output_refused}
use Rattle.calls.specs.Refusals.{line_refused, list_refused, text_refused, size_refused}
use Rattle.calls.specs.Outcomes.{Outcome, outcome}
use Rattle.calls.specs.Lines as calls
use Rattle.calls.specs.Lines.{most_lines, State, without}
use Rattle.calls.specs.Index.{fresh_count, Indexed}
use Rattle.calls.specs.Chains.{key_refusal, withdraw_refusal, index_refusal}
use Rattle.calls.specs.Calls.{key_of, withdraw_of, key_with, withdraw_with}
use Rattle.theory_forms.specs.Lists.{map_take, map_drop, drop_take}
use Rattle.theory_forms.specs.Sheets.{sheet_options}
use Rattle.theory_index.specs.WithIndex.{with_index_is}
use Rattle.theory_index.specs.IndexedCalls.{index_accepted}
use Rattle.call_laws.specs.Accepted.{key_accepted, withdraw_accepted}
use Rattle.call_laws.specs.Rekeyed.{keyed_state}
use Rattle.call_answers.specs.AnswerMeaning.{beside_index}
use Rattle.call_withdrawal.proofs.WithdrawalAnswers.{afresh, withdrawn, withdrawn_state}
use Rattle.c_calls.specs.Packed.{packed_done}
use Rattle.order_lines.specs.declared.Line.{Line}
use Rattle.order_lines.specs.LineMeaning.{line, line_of, lines_of, order}
use Rattle.order_lines.specs.LentLines.{moved_up}
use Rattle.order_lines.proofs.LineLaws.{lines_set}
use Rattle.c_line_calls.proofs.CopiedLines.{copy, counted_copy, key_alike, withdraw_alike}

-- No refusal has the number 0.
some_number : (r : Refusal) → 1 ≤ refusal_number r
unfolding refusal_number
some_number length_refused = omega arith
some_number head_refused = omega arith
some_number code_refused = omega arith
some_number contents_refused = omega arith
some_number body_refused = omega arith
some_number weight_refused = omega arith
some_number option_refused = omega arith
some_number full_refused = omega arith
some_number rule_refused = omega arith
some_number step_refused = omega arith
some_number sheet_refused = omega arith
some_number output_refused = omega arith
some_number line_refused = omega arith
some_number list_refused = omega arith
some_number text_refused = omega arith
some_number size_refused = omega arith

none_packed : (o : Option Refusal) (kept filled : Indexed State) → packed_done (outcome o tt kept filled).answer ≡ 0 → o ≡ none
unfolding outcome
none_packed none kept filled e = refl
none_packed (some r) kept filled e = absurd (omega (arith, e, some_number r))

-- What is left where a call is accepted: its own, and the fresh count of its sheet.
abbrev filled_with : State → List ℕ → Indexed State
filled_with u index = beside_index u (placed (fresh_count u.sheet) index)

-- What a call says of its answer, of the sheet, of the lines, of the count and of the index.
abbrev pub Told : Outcome (Indexed State) (Unit {0}) → ℕ → List ℕ → List Line → ℕ → List ℕ → Type 0
Told o r ss zs m is =
    (r ≡ packed_done o.answer)
    × (ss ≡ o.lent.own.sheet)
    × (lines_of zs ≡ o.lent.own.lines)
    × (m ≡ o.lent.own.count)
    × (is ≡ o.lent.index)

-- One of two lists and counts is stored, by whether the answer is 0.
abbrev pub Left : Bool → List Line → ℕ → List Line → ℕ → List Line → ℕ → Type 0
Left z ls n full after zs m = (zs ≡ pick z full ls) × (m ≡ pick z after n)

pub left_full :
    (z : Bool) (ls : List Line) (n : ℕ) (full : List Line) (after : ℕ) {zs : List Line} →
    zs ≡ full →
    z ≡ true →
    Left z ls n full after zs after
unfolding pick
left_full z ls n full after f e = rw e (f, refl)

pub left_kept : (z : Bool) (ls : List Line) (n : ℕ) (full : List Line) (after : ℕ) → z ≡ false → Left z ls n full after ls n
unfolding pick
left_kept z ls n full after e = rw e (refl, refl)

stored :
    (o : Option Refusal) (s index : List ℕ) (ls : List Line) (n : ℕ) (filled : List ℕ) (full : List Line) (after : ℕ) →
    (given other : State) →
    given.sheet ≡ s →
    other.sheet ≡ filled →
    {r : ℕ} {ss : List ℕ} {zs : List Line} {m : ℕ} {is : List ℕ} →
    r ≡ packed_done (outcome o tt (beside_index given index) (filled_with other index)).answer →
    ss ≡ (outcome {A = Unit {0}} o tt (beside_index given index) (filled_with other index)).lent.own.sheet →
    is ≡ (outcome {A = Unit {0}} o tt (beside_index given index) (filled_with other index)).lent.index →
    Left (eqb r 0) ls n full after zs m →
    Told (outcome o tt (beside_index (order s ls n) index) (filled_with (order filled full after) index)) r ss zs m is
unfolding outcome pick
stored none s index ls n filled full after given other p q {r} e f g h =
    let yes = eq-eqb r 0 (omega (arith, e)) in
    let lines = rw yes at h.0 in
    let count = rw yes at h.1 in
    (e, f ∙ q, ap lines_of lines, count, g ∙ ap (λ u. placed (fresh_count u) index) q)
stored (some x) s index ls n filled full after given other p q {r} e f g h =
    let no = ne_eqb r 0 (λ z. absurd (omega (arith, e, z, some_number x))) in
    let lines = rw no at h.0 in
    let count = rw no at h.1 in
    (e, f ∙ p, ap lines_of lines, count, g)

-- A keying.
module _ (s : List ℕ) (ls : List Line) (n : ℕ) (index : List ℕ) (v : ℕ) (t : Bool) where
  key_with_stored :
      (u : State) →
      key_with u index v t
      ≡ outcome (index_refusal u.sheet index (key_refusal u v)) tt (beside_index u index) (filled_with (keyed_state u (literal v t)) index)
  unfolding key_with key_of
  key_with_stored u = with_index_is (λ w. w.sheet) u index tt (keyed_state u (literal v t)) (key_refusal u v)

  -- The outcome on a copy of the lines, by the refusal that is due.
  abbrev copy_keyed : Option Refusal → Outcome (Indexed State) (Unit {0})
  copy_keyed o = outcome o tt (beside_index (copy s ls n) index) (filled_with (keyed_state (copy s ls n) (literal v t)) index)

  pub key_allowed :
      packed_done (key_with (copy s ls n) index v t).answer ≡ 0 →
      (length ls ≡ most_lines) × (n < most_lines) × (v < 2 ^ 16)
  key_allowed e =
      let own = key_refusal (copy s ls n) v in
      let free = none_packed (index_refusal s index own) _ _ (ap (λ o. packed_done o.answer) (sym (key_with_stored (copy s ls n))) ∙ e) in
      let none = sym (key_alike s ls n v) ∙ (index_accepted s index own free).own_none in
      let w = key_accepted (order s ls n) v none in
      (sym (length-map ls line_of) ∙ w.lines.slots, w.free, omega (arith, w.known, sheet_options s w.sheet))

  pub key_told :
      (r : ℕ) (ss : List ℕ) (zs : List Line) (m : ℕ) (is : List ℕ) →
      r ≡ packed_done (key_with (copy s ls n) index v t).answer →
      ss ≡ (key_with (copy s ls n) index v t).lent.own.sheet →
      is ≡ (key_with (copy s ls n) index v t).lent.index →
      Left (eqb r 0) ls n (set ls n (line v t)) (n + 1) zs m →
      Told (key_with (order s ls n) index v t) r ss zs m is
  key_told r ss zs m is e f g h =
      let own = key_refusal (order s ls n) v in
      let o = index_refusal s index own in
      let same = key_with_stored (copy s ls n) ∙ ap (λ d. copy_keyed (index_refusal s index d)) (key_alike s ls n v) in
      let told = stored o s index ls n (appended s (literal v t)) (set ls n (line v t)) (n + 1) (copy s ls n) (keyed_state (copy s ls n) (literal v t)) refl refl
      (e ∙ ap (λ p. packed_done p.answer) same) (f ∙ ap (λ p. p.lent.own.sheet) same) (g ∙ ap (λ p. p.lent.index) same) h in
      rw (key_with_stored (order s ls n), ← lines_set ls n (line v t)) told

-- The lines moved up, as code moves them and as the definition has them.
moved_is :
    (k n : ℕ) (ls : List Line) →
    k < n →
    lines_of (moved_up k (n - 1) ls) ≡ calls.moved_up k n (lines_of ls)
unfolding moved_up calls.moved_up without
moved_is k n ls h =
    map-append line_of (take k ls) (take (n - 1 - k) (drop (k + 1) ls) ++ drop (n - 1) ls)
    ∙ (λ i. map_take line_of k ls i ++ map-append line_of (take (n - 1 - k) (drop (k + 1) ls)) (drop (n - 1) ls) i)
    ∙ (λ i. sym (take-take k n (lines_of ls) (omega arith)) i ++ (later i ++ map_drop line_of (n - 1) ls i))
    ∙ sym (append_assoc (take k (take n (lines_of ls))) (drop (suc k) (take n (lines_of ls))) (drop (n - 1) (lines_of ls)))
  where
    amount : n - 1 - k ≡ n - suc k
    amount = omega arith

    later : lines_of (take (n - 1 - k) (drop (k + 1) ls)) ≡ drop (suc k) (take n (lines_of ls))
    later =
        map_take line_of (n - 1 - k) (drop (k + 1) ls)
        ∙ ap (take (n - 1 - k)) (map_drop line_of (k + 1) ls)
        ∙ (λ i. take (amount i) (drop (add-one k i) (lines_of ls)))
        ∙ sym (drop_take (suc k) n (lines_of ls))

-- A withdrawal.
module _ (s b : List ℕ) (ls : List Line) (n : ℕ) (index : List ℕ) (k : ℕ) where
  withdraw_with_stored :
      (u : State) →
      withdraw_with u b index k
      ≡ outcome (index_refusal u.sheet index (withdraw_refusal u b k)) tt (beside_index u index) (filled_with (withdrawn_state u b k) index)
  unfolding withdraw_with withdraw_of
  withdraw_with_stored u = with_index_is (λ w. w.sheet) u index tt (withdrawn_state u b k) (withdraw_refusal u b k)

  -- The outcome on a copy of the lines, by the refusal that is due.
  abbrev copy_withdrawn : Option Refusal → Outcome (Indexed State) (Unit {0})
  copy_withdrawn o = outcome o tt (beside_index (copy s ls n) index) (filled_with (withdrawn_state (copy s ls n) b k) index)

  pub withdraw_allowed :
      packed_done (withdraw_with (copy s ls n) b index k).answer ≡ 0 →
      (length ls ≡ most_lines) × (n ≤ most_lines) × (k < n)
  withdraw_allowed e =
      let own = withdraw_refusal (copy s ls n) b k in
      let free = none_packed (index_refusal s index own) _ _ (ap (λ o. packed_done o.answer) (sym (withdraw_with_stored (copy s ls n))) ∙ e) in
      let none = sym (withdraw_alike s ls n b k) ∙ (index_accepted s index own free).own_none in
      let w = withdraw_accepted (order s ls n) b k none in
      (sym (length-map ls line_of) ∙ w.order.lines.slots, w.order.lines.few, w.line)

  pub withdraw_told :
      (r : ℕ) (ss : List ℕ) (zs : List Line) (m : ℕ) (is : List ℕ) →
      r ≡ packed_done (withdraw_with (copy s ls n) b index k).answer →
      ss ≡ (withdraw_with (copy s ls n) b index k).lent.own.sheet →
      is ≡ (withdraw_with (copy s ls n) b index k).lent.index →
      Left (eqb r 0) ls n (moved_up k (n - 1) ls) (n - 1) zs m →
      Told (withdraw_with (order s ls n) b index k) r ss zs m is
  unfolding outcome
  withdraw_told r ss zs m is e f g h = go (index_refusal s index (withdraw_refusal (order s ls n) b k)) refl
    where
      -- By the refusal that is due.
      told :
          (o : Option Refusal) (filled : List ℕ) →
          index_refusal s index (withdraw_refusal (order s ls n) b k) ≡ o →
          withdrawn (copy s ls n) b k ≡ filled →
          Told (outcome o tt (beside_index (order s ls n) index) (filled_with (order filled (moved_up k (n - 1) ls) (n - 1)) index)) r ss zs m is
      told o filled q fresh =
          let due = ap (index_refusal s index) (withdraw_alike s ls n b k) ∙ q in
          let same = withdraw_with_stored (copy s ls n) ∙ ap copy_withdrawn due in
          stored o s index ls n filled (moved_up k (n - 1) ls) (n - 1) (copy s ls n) (withdrawn_state (copy s ls n) b k) refl fresh
          (e ∙ ap (λ p. packed_done p.answer) same) (f ∙ ap (λ p. p.lent.own.sheet) same) (g ∙ ap (λ p. p.lent.index) same) h

      go :
          (o : Option Refusal) →
          index_refusal s index (withdraw_refusal (order s ls n) b k) ≡ o →
          Told (withdraw_with (order s ls n) b index k) r ss zs m is
      go none q =
          let own = (index_accepted s index (withdraw_refusal (order s ls n) b k) q).own_none in
          let w = withdraw_accepted (order s ls n) b k own in
          let slots = sym (length-map ls line_of) ∙ w.order.lines.slots in
          let lines = counted_copy s ls n slots w.order.lines.few in
          let same = ap (λ ls. calls.with_marks (afresh b) (without k ls)) lines in
          rw (withdraw_with_stored (order s ls n), q, ← moved_is k n ls w.line) (told none (withdrawn (order s ls n) b k) q same)
      go (some x) q = rw (withdraw_with_stored (order s ls n), q) (told (some x) (withdrawn (copy s ls n) b k) q refl)
