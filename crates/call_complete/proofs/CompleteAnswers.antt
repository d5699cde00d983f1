-- The answers to the "complete" question: the refusal that is due, and else what the two tables say.
use mathlib.Core.Bool.{Bool, true, false, not, ◌&&◌, ◌||◌}
use mathlib.Core.List.{List, [], ◌∷◌, map}
use mathlib.Core.Option.{none, some}
use mathlib.Core.Path.{◌≡◌, refl, sym, ap, ap₂, ◌∙◌}
use Prim.Native.Nat.{ℕ, ◌≤◌, ◌<◌}
use native.Mathlib.Omega.{arith}
use borrow.Author.Tests.{ltb-true, lt-ltb}
use lib.Dec.{eqb, ltb}
use lib.ListN.{replicate}
use Rattle.model.specs.Base.{all, any}
use Rattle.model.specs.Limits.{most_options}
use Rattle.model.specs.Literal.{option}
use Rattle.model.specs.Code.{node_of}
use Rattle.model.specs.Propagation.{Report}
use Rattle.model.specs.Sheet.{options_in, report_in}
use Rattle.model.specs.Book.{bodies_of, numbers_of}
use Rattle.calls.specs.Refusals.{Refusal}
use Rattle.calls.specs.Outcomes.{refused, accepted, answer}
use Rattle.calls.specs.Lines.{most_lines, State, counted}
use Rattle.calls.specs.Index.{names}
use Rattle.calls.specs.Named.{is_named, is_decided, complete_among}
use Rattle.calls.specs.Chains.{order_refusal, complete_refusal}
use Rattle.calls.specs.Calls.{complete_of}
use Rattle.theory_forms.specs.Lists.{all_weaken, all_counted, any_map, any_flatten}
use Rattle.theory_forms.specs.Sheets.{Formed, sheet_formed}
use Rattle.theory_formats.specs.Loading.{Accepted as AcceptedBook, bodies_flat}
use Rattle.theory_meaning.specs.FailedLiterals.{zero_everywhere}
use Rattle.call_laws.specs.Accepted.{Orderly, order_accepted}
use Rattle.call_laws.specs.Books.{accepted_book}
use Rattle.report_marks.specs.Noted.{is_noted}
use Rattle.order_named.specs.Noting.{Adds}

-- An option is named by some body exactly if it is by some node of an accepted book.
book_names :
    (b : List ℕ) (v : ℕ) →
    AcceptedBook b →
    any (λ body. any (names v) (map node_of body)) (bodies_of b) ≡ any (names v) (map node_of (numbers_of b))
unfolding any
book_names b v a =
    each (bodies_of b)
    ∙ sym (any_flatten (λ x. names v (node_of x)) (bodies_of b))
    ∙ ap (any (λ x. names v (node_of x))) (bodies_flat b a)
    ∙ sym (any_map node_of (names v) (numbers_of b))
  where
    each : (xss : List (List ℕ)) → any (λ body. any (names v) (map node_of body)) xss ≡ any (any (λ x. names v (node_of x))) xss
    each [] = refl
    each (xs ∷ xss) = ap₂ ◌||◌ (any_map node_of (names v) xs) (each xss)

-- Nothing is noted in a table of zeros.
none_noted : (k v : ℕ) → is_noted (replicate k 0) v ≡ false
unfolding is_noted
none_noted k v = rw (zero_everywhere k v)

-- A report is complete alike for names that agree on its options.
same_names :
    (p q : ℕ → Bool) (n : ℕ) (r : Report) →
    ((v : ℕ) → v < n → p v ≡ q v) →
    complete_among p n r ≡ complete_among q n r
unfolding complete_among
same_names p q n r h =
    ap (λ b. not r.contradictory && b) (all_counted _ _ n (λ v l. ap (λ b. not b || is_decided r v) (h v l)))

module _ (t : State) (b : List ℕ) where
  pub refused_so : {r : Refusal} → order_refusal t b ≡ some r → refused r ≡ complete_of t b
  unfolding complete_of complete_refusal answer
  refused_so e = rw e

  -- What the passes and the report need.
  module _ (e : order_refusal t b ≡ none) where
    orderly : Orderly t b
    orderly = order_accepted t b e

    pub book : AcceptedBook b
    book = accepted_book b orderly.book

    pub formed : Formed t.sheet
    formed = sheet_formed t.sheet orderly.sheet

    pub few : t.count ≤ most_lines
    few = orderly.lines.few

    pub known : all (λ l. ltb (option l) most_options) (counted t) ≡ true
    known =
        all_weaken _ _
        (λ l k. lt-ltb (option l) most_options (omega (arith, ltb-true (option l) (options_in t.sheet) k, formed.options)))
        (counted t) orderly.lines.known

    -- The table once both passes are over, from one without a name.
    pub answered_so :
        (zeros : ℕ) (after_book after_lines : List ℕ) →
        Adds (λ v. any (names v) (map node_of (numbers_of b))) (replicate zeros 0) after_book →
        Adds (λ v. any (λ l. eqb v (option l)) (counted t)) after_book after_lines →
        {told : Bool} →
        told ≡ complete_among (is_noted after_lines) (options_in t.sheet) (report_in t.sheet) →
        accepted told ≡ complete_of t b
    unfolding complete_of complete_refusal answer is_named
    answered_so zeros u w one two h =
        rw e (ap accepted (h ∙ same_names (is_noted w) (is_named b (counted t)) _ _ all_named))
      where
        all_named : (v : ℕ) → v < options_in t.sheet → is_noted w v ≡ is_named b (counted t) v
        all_named v l =
            let low : v < most_options = omega (arith, formed.options) in
            let told : is_noted u v ≡ any (λ body. any (names v) (map node_of body)) (bodies_of b) =
            one.noted v low
            ∙ ap (λ x. x || any (names v) (map node_of (numbers_of b))) (none_noted zeros v)
            ∙ sym (book_names b v book) in
            two.noted v low ∙ ap (λ x. x || any (λ d. eqb v (option d)) (counted t)) told
