-- What the book check computes, test by test.
use mathlib.Core.Bool.{Bool, true, false, ◌&&◌}
use mathlib.Core.List.{List}
use mathlib.Core.Option.{Option, none, some}
use mathlib.Core.Path.{◌≡◌, refl, sym, ap, ◌∙◌}
use Prim.Native.Nat.{ℕ, ◌+◌, ◌-◌, ◌*◌, ◌≤◌, ◌<◌}
use native.Mathlib.Omega.{arith}
use borrow.Author.Tests.{leb-true, le-leb, lt-leb}
use lib.Dec.{eqb, leb}
use lib.ListN.{length, take, drop}
use borrow.Author.Rules.{part_to_end}
use Rattle.std.specs.Prelude.{Result, Ok, Err}
use Rattle.model.specs.Base.{all, only_if, first_of, is_some, maybe}
use Rattle.model.specs.Code.{weight}
use Rattle.model.specs.Limits.{most_options, most_rules, most_nodes, most_weight}
use Rattle.model.specs.Book.{word, words, entries, pieces, cut, codes_ok, option_of_code, in_line, body_ok, options_of, rules_of}
use Rattle.model.specs.Book.{size_of, head_in_limits, codes_end, contents_end, length_due, codes_of, contents_of, numbers_of}
use Rattle.model.specs.Book.{bodies_of, book_nodes}
use Rattle.calls.specs.Refusals.{Refusal, code_refused, contents_refused, body_refused, weight_refused, option_refused}
use Rattle.calls.specs.Outcomes.{refused, accepted, answer}
use Rattle.calls.specs.Conditions.{has_good_codes, has_good_contents, has_good_bodies}
use Rattle.calls.specs.Chains.{part_refusal, book_refusal, lookup_refusal}
use Rattle.calls.specs.Calls.{check_of, lookup_of}
use Rattle.call_answers.specs.declared.Refusal.{Refusal as Why}
use Rattle.call_answers.specs.AnswerMeaning.{refusal_of, due_of, done_of}
use Rattle.theory_forms.specs.Logic.{and_split}
use Rattle.call_laws.specs.Books.{GoodHead, accepted_book, check_some}
use Rattle.common_weight.specs.Sums.{most_sum}

-- The head: the first number over its limit makes it bad.
module _ (b : List ℕ) (n m t : ℕ) (pn : n ≡ word b 0) (pm : m ≡ word b 2) (pt : t ≡ word b 4) where
  pub head_tests : head_in_limits b ≡ (leb n most_options && leb m most_rules && leb t most_nodes && eqb (word b 6) 0)
  unfolding head_in_limits options_of rules_of size_of
  head_tests = rw (pn, pm, pt)

  pub length_is : length_due b ≡ 8 + 13 * n + 4 * m + 2 * t
  unfolding length_due contents_end codes_end options_of rules_of size_of
  length_is = rw (pn, pm, pt)

  pub codes_are : codes_of b ≡ pieces 13 n (drop 8 b)
  unfolding codes_of options_of
  codes_are = rw pn

  pub contents_are : contents_of b ≡ entries m (drop (8 + 13 * n) b)
  unfolding contents_of codes_end options_of rules_of
  contents_are = rw (pn, pm)

  pub numbers_are : numbers_of b ≡ words t (drop (8 + 13 * n + 4 * m) b)
  unfolding numbers_of contents_end codes_end options_of rules_of size_of
  numbers_are = rw (pn, pm, pt)

  pub bodies_are : bodies_of b ≡ cut (entries m (drop (8 + 13 * n) b)) (words t (drop (8 + 13 * n + 4 * m) b))
  unfolding bodies_of
  bodies_are = rw (contents_are, numbers_are)

  -- A head within its limits.
  pub head_limits : head_in_limits b ≡ true → (n ≤ most_options) × (m ≤ most_rules) × (t ≤ most_nodes)
  head_limits h =
      let three = (and_split (leb n most_options && leb m most_rules && leb t most_nodes) (eqb (word b 6) 0) (sym head_tests ∙ h)).0 in
      let two = and_split (leb n most_options && leb m most_rules) (leb t most_nodes) three in
      let one = and_split (leb n most_options) (leb m most_rules) two.0 in
      (leb-true n most_options one.0, leb-true m most_rules one.1, leb-true t most_nodes two.1)

-- A part of a book from a place on, as it is lent.
abbrev pub rest : List ℕ → ℕ → List ℕ
rest b a = take (length b - a) (drop a b)

-- The four tests as they are made: the codes, the contents and the bodies on the parts that are lent, and the weight.
module _ {b : List ℕ} {n m t : ℕ} (s : GoodHead b n m t) where
  pub codes_test : {x : Bool} → x ≡ codes_ok (pieces 13 n (rest b 8)) → has_good_codes b ≡ x
  codes_test e =
      rw (codes_are b n m t s.options s.rules s.nodes) (sym (rw (part_to_end b 8) at e))

  pub contents_test : {x : Bool} → x ≡ in_line t 0 (entries m (rest b (8 + 13 * n))) → has_good_contents b ≡ x
  unfolding size_of
  contents_test e =
      rw (contents_are b n m t s.options s.rules s.nodes, ← s.nodes) (sym (rw (part_to_end b (8 + 13 * n)) at e))

  pub bodies_test :
      {x : Bool} →
      x ≡ all (body_ok n) (cut (entries m (rest b (8 + 13 * n))) (words t (rest b (8 + 13 * n + 4 * m)))) →
      has_good_bodies b ≡ x
  unfolding options_of
  bodies_test e =
      rw (bodies_are b n m t s.options s.rules s.nodes, ← s.options)
      (sym (rw (part_to_end b (8 + 13 * n), part_to_end b (8 + 13 * n + 4 * m)) at e))

  -- The head's limits bound the sum, and what is summed is there.
  pub weigh_test : (1 + 2 * size_of b ≤ most_sum) × (length_due b ≤ length b)
  unfolding size_of
  weigh_test =
      let due = length_is b n m t s.options s.rules s.nodes in
      (omega (arith, s.nodes, s.few_nodes), omega (arith, due, s.long))

-- The refusal by their answers.
module _ (b : List ℕ) where
  pub codes_bad : has_good_codes b ≡ false → some code_refused ≡ part_refusal b
  unfolding part_refusal first_of only_if
  codes_bad h = rw h

  module _ (codes : has_good_codes b ≡ true) where
    pub contents_bad : has_good_contents b ≡ false → some contents_refused ≡ part_refusal b
    unfolding part_refusal first_of only_if
    contents_bad h = rw (codes, h)

    module _ (contents : has_good_contents b ≡ true) where
      pub bodies_bad : has_good_bodies b ≡ false → some body_refused ≡ part_refusal b
      unfolding part_refusal first_of only_if
      bodies_bad h = rw (codes, contents, h)

      module _ (bodies : has_good_bodies b ≡ true) where
        pub weight_bad : most_weight < weight (book_nodes b) → some weight_refused ≡ part_refusal b
        unfolding part_refusal first_of only_if
        weight_bad h = rw (codes, contents, bodies, lt-leb (weight (book_nodes b)) most_weight h)

        pub all_good : weight (book_nodes b) ≤ most_weight → none ≡ part_refusal b
        unfolding part_refusal first_of only_if
        all_good h = rw (codes, contents, bodies, le-leb (weight (book_nodes b)) most_weight h)

-- The book check's answer, by the refusal that is due.
pub refused_by : (b : List ℕ) (r : Refusal) → book_refusal b ≡ some r → refused r ≡ check_of b
unfolding check_of answer
refused_by b r e = rw e

pub done_by : (b : List ℕ) (d : Result (Unit {0}) Why) → due_of d ≡ book_refusal b → done_of d ≡ check_of b
unfolding check_of answer
done_by b (Ok u) e = rw (← e)
done_by b (Err r) e = rw (← e)

-- And back: what the check's answer says of the refusal.
pub due_of_check : (b : List ℕ) (d : Result (Unit {0}) Why) → done_of d ≡ check_of b → due_of d ≡ book_refusal b
unfolding check_of answer
due_of_check b d e = go d (book_refusal b) e
  where
    go : (d : Result (Unit {0}) Why) (o : Option Refusal) → done_of d ≡ answer o tt → due_of d ≡ o
    go (Ok u) none e = refl
    go (Ok u) (some r) e = let z : ◌≡◌ {A = ℕ} 0 1 = cc in absurd (omega arith)
    go (Err x) none e = let z : ◌≡◌ {A = ℕ} 0 1 = cc in absurd (omega arith)
    go (Err x) (some r) e = cc

-- The room that the codes of an accepted book have.
pub codes_room : (b : List ℕ) (n : ℕ) → book_refusal b ≡ none → n ≡ word b 0 → 8 + 13 * n ≤ length b
unfolding length_due contents_end codes_end options_of
codes_room b n e p = let a = accepted_book b e in rw p (omega (arith, a.long))

-- The lookup's answer: the book's refusal, the option, or that there is none.
pub lookup_refused : (b code : List ℕ) (r : Refusal) → refused r ≡ check_of b → refused r ≡ lookup_of b code
unfolding lookup_of lookup_refusal answer first_of
lookup_refused b code r e = rw (check_some b r e)

module _ (b code : List ℕ) (good : book_refusal b ≡ none) where
  pub lookup_found : (v : ℕ) → option_of_code code 0 (codes_of b) ≡ some v → accepted v ≡ lookup_of b code
  unfolding lookup_of lookup_refusal answer first_of only_if is_some maybe
  lookup_found v e = rw (good, e)

  pub lookup_missing : option_of_code code 0 (codes_of b) ≡ none → refused option_refused ≡ lookup_of b code
  unfolding lookup_of lookup_refusal answer first_of only_if is_some maybe
  lookup_missing e = rw (good, e)

-- What was found among the codes, as they are lent.
pub found_code :
    (b code : List ℕ) (n : ℕ) {o : Option ℕ} →
    n ≡ word b 0 →
    o ≡ option_of_code code 0 (pieces 13 n (rest b 8)) →
    option_of_code code 0 (codes_of b) ≡ o
found_code b code n p e = rw (codes_are b n (word b 2) (word b 4) p refl refl, ← part_to_end b 8) (sym e)
