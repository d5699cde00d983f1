-- A call on a copy of the lines is refused as one on the lines themselves.
use mathlib.Core.Bool.{Bool, true, false, ◌&&◌}
use mathlib.Core.List.{List}
use mathlib.Core.Logic.{◌⊎◌, inl, inr}
use mathlib.Core.Option.{Option, none, some}
use mathlib.Core.Path.{◌≡◌, refl, sym, ap, ◌∙◌}
use Prim.Native.Nat.{ℕ, ◌+◌, ◌≤◌}
use native.Mathlib.Omega.{arith}
use borrow.Author.Tests.{eq-eqb, eqb-true, lt-leb, leb-true}
use lib.Dec.{eqb, leb}
use lib.ListN.{length, take, length-map}
use Rattle.model.specs.Base.{pick, first_of, only_if}
use Rattle.calls.specs.Lines.{most_lines, State, counted}
use Rattle.calls.specs.Conditions.{has_lines_in_order}
use Rattle.calls.specs.Refusals.{Refusal}
use Rattle.calls.specs.Outcomes.{answer}
use Rattle.calls.specs.Named.{is_named, complete_among}
use Rattle.calls.specs.Chains.{key_refusal, order_refusal, withdraw_refusal, complete_refusal}
use Rattle.calls.specs.Calls.{complete_of}
use Rattle.model.specs.Sheet.{options_in, report_in}
use Rattle.theory_forms.specs.Lists.{map_take}
use Rattle.call_laws.specs.Accepted.{order_accepted}
use Rattle.order_lines.specs.declared.Line.{Line}
use Rattle.order_lines.specs.LineMeaning.{line_of, lines_of, order}
use Rattle.order_lines.specs.LentLines.{judged, copied_lines}
use Rattle.order_lines.proofs.Copies.{copied_length, copied_start}

-- A test that fails among three.
first_fails : {a : Bool} (b c : Bool) → a ≡ false → (a && b && c) ≡ false
first_fails b c e = rw e

second_fails : (a : Bool) {b : Bool} (c : Bool) → b ≡ false → (a && b && c) ≡ false
second_fails true c e = rw e
second_fails false c e = refl

module _ (s : List ℕ) (ls : List Line) (n : ℕ) where
  -- What a call on the copy is given.
  abbrev pub copy : State
  copy = order s (copied_lines ls n) (judged (length ls) n)

  -- Either the copy has the counted lines and the count; or neither is in order.
  abbrev Alike : Type 0
  Alike =
      ((judged (length ls) n ≡ n) × (has_lines_in_order copy ≡ has_lines_in_order (order s ls n)))
      ⊎ ((has_lines_in_order copy ≡ false) × (has_lines_in_order (order s ls n) ≡ false))

  counted_alike : length ls ≡ most_lines → n ≤ most_lines → take n (lines_of (copied_lines ls n)) ≡ take n (lines_of ls)
  counted_alike slots few =
      sym (map_take line_of n (copied_lines ls n)) ∙ ap lines_of (copied_start ls n slots few) ∙ map_take line_of n ls

  pub counted_copy : length ls ≡ most_lines → n ≤ most_lines → counted copy ≡ counted (order s ls n)
  unfolding judged pick
  counted_copy slots few = rw (eq-eqb (length ls) most_lines slots) (counted_alike slots few)

  alike : Alike
  unfolding judged pick
  alike = go (eqb (length ls) most_lines) refl (leb n most_lines) refl
    where
      go : (x : Bool) → eqb (length ls) most_lines ≡ x → (y : Bool) → leb n most_lines ≡ y → Alike
      go false e y f =
          inr (
            second_fails (eqb (length (lines_of (copied_lines ls n))) most_lines) _
                (rw e (lt-leb (most_lines + 1) most_lines (omega arith))),
            first_fails {a = eqb (length (lines_of ls)) most_lines} _ _ (rw (length-map ls line_of) e),
          )
      go true e false f =
          inr (
            second_fails (eqb (length (lines_of (copied_lines ls n))) most_lines) _ (rw e f),
            second_fails (eqb (length (lines_of ls)) most_lines) _ f,
          )
      go true e true f =
          let slots = eqb-true (length ls) most_lines e in
          let few = leb-true n most_lines f in
          let long = length-map (copied_lines ls n) line_of ∙ copied_length ls n in
          inl (rw e, rw (e, long, length-map ls line_of ∙ slots, counted_alike slots few))

  pub key_alike : (v : ℕ) → key_refusal copy v ≡ key_refusal (order s ls n) v
  unfolding key_refusal first_of only_if
  key_alike v = go alike
    where
      go : Alike → key_refusal copy v ≡ key_refusal (order s ls n) v
      go (inl e) = rw (e.1, e.0)
      go (inr e) = rw (e.0, e.1)

  order_alike : (b : List ℕ) → order_refusal copy b ≡ order_refusal (order s ls n) b
  unfolding order_refusal first_of only_if
  order_alike b = go alike
    where
      go : Alike → order_refusal copy b ≡ order_refusal (order s ls n) b
      go (inl e) = rw e.1
      go (inr e) = rw (e.0, e.1)

  -- Where the lines are in order, the copy has the count too.
  ordered : (b : List ℕ) → order_refusal (order s ls n) b ≡ none → (length ls ≡ most_lines) × (n ≤ most_lines) × (judged (length ls) n ≡ n)
  unfolding judged pick
  ordered b e =
      let w = (order_accepted (order s ls n) b e).lines in
      let slots = sym (length-map ls line_of) ∙ w.slots in
      (slots, w.few, rw (eq-eqb (length ls) most_lines slots))

  pub withdraw_alike : (b : List ℕ) (k : ℕ) → withdraw_refusal copy b k ≡ withdraw_refusal (order s ls n) b k
  unfolding withdraw_refusal first_of
  withdraw_alike b k = go (order_refusal (order s ls n) b) refl
    where
      go : (o : Option Refusal) → order_refusal (order s ls n) b ≡ o → withdraw_refusal copy b k ≡ withdraw_refusal (order s ls n) b k
      go (some r) e = rw (order_alike b, e)
      go none e = rw (order_alike b, e, (ordered b e).2)

  -- The question is answered alike: where it is not refused, the copy has the counted lines.
  pub complete_alike : (b : List ℕ) → complete_of copy b ≡ complete_of (order s ls n) b
  unfolding complete_of complete_refusal answer
  complete_alike b = rw (order_alike b) (go (order_refusal (order s ls n) b) refl)
    where
      go :
          (o : Option Refusal) →
          order_refusal (order s ls n) b ≡ o →
          answer o (complete_among (is_named b (counted copy)) (options_in s) (report_in s))
          ≡ answer o (complete_among (is_named b (counted (order s ls n))) (options_in s) (report_in s))
      go (some r) e = refl
      go none e =
          let w = ordered b e in
          rw (counted_copy w.0 w.1)
