-- Document 02, U6: "every option that some rule of the loaded book or some choice names". Cases name options in a few bodies and lines;
-- here the bodies, their nodes and the lines are any.
use Rattle.std.specs.Prelude.{Bool, List, [], map, ◌⊎◌, ◌↔◌, ◌≡◌, refl, ℕ, ◌<◌, min, length, get_or}
use Rattle.std.proofs.Math.Bool.{true}
use Rattle.std.proofs.Math.Logic.{inl, inr, ⊎_elim}
use Rattle.std.proofs.Common.{sym, ◌∙◌, arith, length-take, get_or-take}
use Rattle.std.proofs.Math.Path.{ap}
use borrow.Author.Tests.{eqb-true, eq-eqb}
use Rattle.std.proofs.Math.Dec.{eqb}
use Rattle.model.specs.Base.{any}
use Rattle.model.specs.Literal.{Literal, pos, neg, option}
use Rattle.model.specs.Code.{node_of}
use Rattle.model.specs.Book.{bodies_of}
use Rattle.calls.specs.Index.{names}
use Rattle.calls.specs.Lines.{State, counted}
use Rattle.calls.specs.Named.{is_named}
use Rattle.theory_forms.specs.Lists.{any_map}
use Rattle.case_theorems.specs.Places.{or_exactly, any_place}
use Rattle.case_theorems.specs.Marks.{IsMark, mark_exactly}

-- Some rule of the book names option v: node i of body r is a mark of it.
abbrev pub RuleNames : List ℕ → ℕ → Type 0
RuleNames book v =
    (r : ℕ)
    × (i : ℕ)
    × (r < length (bodies_of book))
    × (i < length (get_or (bodies_of book) r []))
    × IsMark v (get_or (get_or (bodies_of book) r []) i 0)

-- Some choice names option v: line k, one of those that count, is a mark of it, plain or barred.
abbrev pub ChoiceNames : State → ℕ → Type 0
ChoiceNames order v =
    (k : ℕ)
    × (k < order.count)
    × (k < length order.lines)
    × ((get_or order.lines k (pos 0) ≡ pos v) ⊎ (get_or order.lines k (pos 0) ≡ neg v))

module _ (v : ℕ) where
  of_option : (l : Literal) → (eqb v (option l) ≡ true) ↔ ((l ≡ pos v) ⊎ (l ≡ neg v))
  unfolding option
  of_option l = (to l, ⊎_elim (λ e. ap named e ∙ eq-eqb v v refl) (λ e. ap named e ∙ eq-eqb v v refl))
    where
      to : (l : Literal) → eqb v (option l) ≡ true → (l ≡ pos v) ⊎ (l ≡ neg v)
      to (pos w) e = inl (ap pos (sym (eqb-true v w e)))
      to (neg w) e = inr (ap neg (sym (eqb-true v w e)))

      named : Literal → Bool
      named m = eqb v (option m)

  choice_exactly : (order : State) → (any (λ l. eqb v (option l)) (counted order) ≡ true) ↔ ChoiceNames order v
  choice_exactly order = (
    λ e.
        let w = (any_place (λ l. eqb v (option l)) (pos 0) (counted order)).0 e in
        let below : (w.0 < order.count) × (w.0 < length order.lines) = omega (arith, w.1, long) in
        (w.0, below.0, below.1, (of_option _).0 (rw (line w.0 below.0) at w.2)),
    λ w.
        (any_place (λ l. eqb v (option l)) (pos 0) (counted order)).1
        (w.0, omega (arith, w.1, w.2, long), rw (line w.0 w.1) ((of_option _).1 w.3)),
  )
    where
      long : length (counted order) ≡ min order.count (length order.lines)
      long = length-take order.count order.lines

      line : (k : ℕ) → k < order.count → get_or (counted order) k (pos 0) ≡ get_or order.lines k (pos 0)
      line k h = get_or-take order.count order.lines k (pos 0) h

module _ (v : ℕ) (small : v < 4096) where
  -- A body has a mark of the option among its nodes.
  body_exactly : (body : List ℕ) → (any (names v) (map node_of body) ≡ true) ↔ ((i : ℕ) × (i < length body) × IsMark v (get_or body i 0))
  body_exactly body = (
    λ e.
        let w = (any_place (λ x. names v (node_of x)) 0 body).0 (sym (any_map node_of (names v) body) ∙ e) in
        (w.0, w.1, (mark_exactly v (get_or body w.0 0) small).0 w.2),
    λ w.
        any_map node_of (names v) body
        ∙ (any_place (λ x. names v (node_of x)) 0 body).1 (w.0, w.1, (mark_exactly v (get_or body w.0 0) small).1 w.2),
  )

  rule_exactly :
      (book : List ℕ) →
      (any (λ body. any (names v) (map node_of body)) (bodies_of book) ≡ true) ↔ RuleNames book v
  rule_exactly book = (
    λ e.
        let w = (any_place (λ body. any (names v) (map node_of body)) [] (bodies_of book)).0 e in
        let u = (body_exactly (get_or (bodies_of book) w.0 [])).0 w.2 in
        (w.0, u.0, w.1, u.1, u.2),
    λ w.
        (any_place (λ body. any (names v) (map node_of body)) [] (bodies_of book)).1
        (w.0, w.2, (body_exactly (get_or (bodies_of book) w.0 [])).1 (w.1, w.3, w.4)),
  )

  -- "An option that some rule of the loaded book or some choice names": it is named exactly if some node of some body, or some counted
  -- line, is a mark of it.
  pub named_exactly :
      (book : List ℕ) (order : State) →
      (is_named book (counted order) v ≡ true) ↔ (RuleNames book v ⊎ ChoiceNames order v)
  unfolding is_named
  named_exactly book order = or_exactly _ _ (rule_exactly book) (choice_exactly v order)
