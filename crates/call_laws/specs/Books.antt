-- The refusals of a book, in the order in which a program tests for them, and what none of them says.
use Rattle.std.specs.Prelude.{true, false, ◌&&◌, not, List, ℕ, ◌+◌, ◌*◌, ◌≤◌, leb, length}
use Rattle.std.proofs.Math.Option.{Option, none, some}
use Rattle.std.proofs.Math.Path.{◌≡◌, refl}
use Rattle.std.proofs.Common.{arith, eqb-true, eq-eqb, leb-true, le-leb, ltb-false, le-ltb}
use Rattle.std.proofs.lemmas.Bool.{not-false}
use Rattle.model.specs.Base.{only_if, first_of}
use Rattle.model.specs.Code.{weight}
use Rattle.model.specs.Limits.{most_options, most_rules, most_nodes, most_weight, head_length, code_length}
use Rattle.model.specs.Book.{word, options_of, rules_of, size_of, head_in_limits, length_due, book_nodes}
use Rattle.calls.specs.Refusals.{Refusal, length_refused, head_refused}
use Rattle.calls.specs.Outcomes.{refused, accepted, answer}
use Rattle.calls.specs.Calls.{check_of}
use Rattle.calls.specs.Conditions.{lacks_head, is_length_due, has_good_codes, has_good_contents, has_good_bodies, is_light}
use Rattle.calls.specs.Chains.{part_refusal, book_refusal}
use Rattle.theory_forms.specs.Logic.{and_split, only_none, none_due}
use Rattle.theory_formats.specs.Loading.{Accepted}

-- A book with a good head and the length due, and the numbers of its head.
pub record GoodHead (b : List ℕ) (n m t : ℕ) : Type 0 where
  pub options : n ≡ word b 0
  pub rules : m ≡ word b 2
  pub nodes : t ≡ word b 4
  pub few_options : n ≤ most_options
  pub few_rules : m ≤ most_rules
  pub few_nodes : t ≤ most_nodes
  pub long : length b ≡ head_length + code_length * n + 4 * m + 2 * t

-- The head and the length, one after another.
module _ (b : List ℕ) where
  pub too_short : lacks_head b ≡ true → book_refusal b ≡ some length_refused
  unfolding book_refusal first_of only_if
  too_short h = rw h

  pub bad_head :
      lacks_head b ≡ false →
      head_in_limits b ≡ false →
      book_refusal b ≡ some head_refused
  unfolding book_refusal first_of only_if
  bad_head h e = rw (h, e)

  pub bad_length :
      lacks_head b ≡ false →
      head_in_limits b ≡ true →
      is_length_due b ≡ false →
      book_refusal b ≡ some length_refused
  unfolding book_refusal first_of only_if
  bad_length h e l = rw (h, e, l)

  pub then_parts :
      lacks_head b ≡ false →
      head_in_limits b ≡ true →
      is_length_due b ≡ true →
      book_refusal b ≡ part_refusal b
  unfolding book_refusal first_of only_if
  then_parts h e l = rw (h, e, l)

-- A book is accepted where none of its refusals is due.
pub accepted_book : (b : List ℕ) → book_refusal b ≡ none → Accepted b
unfolding book_refusal part_refusal head_in_limits
accepted_book b e =
    let e1 = none_due (lacks_head b) _ _ e in
    let e2 = none_due (not (head_in_limits b)) _ _ e1.1 in
    let e3 = none_due (not (is_length_due b)) _ _ e2.1 in
    let e4 = none_due (not (has_good_codes b)) _ _ e3.1 in
    let e5 = none_due (not (has_good_contents b)) _ _ e4.1 in
    let e6 = none_due (not (has_good_bodies b)) _ _ e5.1 in
    let e7 = only_none (not (is_light b)) _ e6.1 in
    let few = leb (options_of b) most_options in
    let h4 = and_split (few && leb (rules_of b) most_rules && leb (size_of b) most_nodes) _ (not-false _ e2.0) in
    let h3 = and_split (few && leb (rules_of b) most_rules) _ h4.0 in
    let h2 = and_split few _ h3.0 in
    record {
      head = ltb-false (length b) head_length e1.0;
      options = leb-true (options_of b) most_options h2.0;
      rules = leb-true (rules_of b) most_rules h2.1;
      nodes = leb-true (size_of b) most_nodes h3.1;
      fourth = eqb-true (word b 6) 0 h4.1;
      long = eqb-true (length b) (length_due b) (not-false (is_length_due b) e3.0);
      codes = not-false (has_good_codes b) e4.0;
      contents = not-false (has_good_contents b) e5.0;
      bodies = not-false (has_good_bodies b) e6.0;
      weight = leb-true (weight (book_nodes b)) most_weight (not-false (is_light b) e7);
    }

pub book_accepted : (b : List ℕ) → Accepted b → book_refusal b ≡ none
unfolding book_refusal part_refusal head_in_limits first_of only_if
book_accepted b a =
    rw (
      le-ltb (length b) head_length a.head,
      le-leb (options_of b) most_options a.options,
      le-leb (rules_of b) most_rules a.rules,
      le-leb (size_of b) most_nodes a.nodes,
      a.fourth,
      eq-eqb (length b) (length_due b) a.long,
      a.codes,
      a.contents,
      a.bodies,
      le-leb (weight (book_nodes b)) most_weight a.weight,
    )

-- What a check's answer says of the book.
module _ (b : List ℕ) where
  pub check_none : accepted tt ≡ check_of b → book_refusal b ≡ none
  unfolding check_of answer
  check_none e = go (book_refusal b) e
    where
      go : (o : Option Refusal) → accepted (tt {0}) ≡ answer o (tt {0}) → o ≡ none
      go none e = refl
      go (some r) e = let z : ◌≡◌ {A = ℕ} 0 1 = cc in absurd (omega arith)

  pub check_some : (r : Refusal) → refused r ≡ check_of b → book_refusal b ≡ some r
  unfolding check_of answer
  check_some r e = go (book_refusal b) e
    where
      go : (o : Option Refusal) → refused r ≡ answer o (tt {0}) → o ≡ some r
      go none e = let z : ◌≡◌ {A = ℕ} 0 1 = cc in absurd (omega arith)
      go (some q) e = cc
