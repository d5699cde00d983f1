-- Numbers of nodes of a body as members: literals by their options, any other node by its number.
use mathlib.Core.Bool.{Bool, true, false, ◌&&◌, ◌||◌, not, or-false}
use mathlib.Core.List.{List, [], ◌∷◌}
use mathlib.Core.Logic.{⊎_elim}
use mathlib.Core.Path.{◌≡◌, refl, sym, ap, ap₂, ◌∙◌}
use Prim.Native.Nat.{ℕ, ◌<◌}
use native.Mathlib.Omega.{arith}
use borrow.Author.Tests.{eqb-true, eq-eqb, ltb-true}
use lib.Dec.{eqb}
use lib.ListN.{length}
use Rattle.model.specs.Base.{pick}
use Rattle.model.specs.Literal.{option}
use Rattle.model.specs.Forest.{same_conn}
use Rattle.model.specs.Code.{kind, value, number, children, node_of}
use Rattle.model.specs.Sheet.{body_node}
use Rattle.theory_forms.specs.Logic.{and_split, and_join, or_split, or_neither, same_test, pick_keeps}
use Rattle.theory_forms.specs.Numbers.{number_parts}
use Rattle.theory_forms.specs.Scan.{is_literal, inner_node}
use Rattle.theory_forms.specs.Seats.{bare, names}
use Rattle.common_members.specs.Marks.{marked, mark_words, Marks, admitted}

-- What is due of a number after some marks: whether it is a member; and the marks that are left, with its option marked too.
abbrev IsAdmitted : ℕ → List ℕ → Bool → Type 0
IsAdmitted x ms r = r ≡ admitted (marked ms) (node_of x)

abbrev MarksToo : ℕ → List ℕ → List ℕ → Type 0
MarksToo x ms ns = Marks (λ w. names w (node_of x ∷ []) || marked ms w) ns

module _ (x : ℕ) where
  -- A literal names its option, which is below the number of options.
  module _ (h : is_literal x ≡ true) where
    pub option_below : (n : ℕ) → body_node n x ≡ true → value x < n
    unfolding body_node is_literal pick
    option_below n b = ltb-true (value x) n (rw h at b)

    literal_admitted : (f : ℕ → Bool) → admitted f (node_of x) ≡ not (f (value x))
    unfolding admitted node_of is_literal pick option
    literal_admitted f =
        ⊎_elim
        (λ e. rw (eqb-true (kind x) 1 e))
        (λ e. rw (eqb-true (kind x) 2 e))
        (or_split (eqb (kind x) 1) (eqb (kind x) 2) h)

    literal_names : (w : ℕ) → names w (node_of x ∷ []) ≡ eqb w (value x)
    unfolding names node_of is_literal pick option
    literal_names w =
        ⊎_elim
        (λ e. rw (eqb-true (kind x) 1 e) (or-false (eqb w (value x))))
        (λ e. rw (eqb-true (kind x) 2 e) (or-false (eqb w (value x))))
        (or_split (eqb (kind x) 1) (eqb (kind x) 2) h)

    module _ {v : ℕ} (ms : List ℕ) (e : v ≡ value x) where
      pub literal_told : {r : Bool} → r ≡ not (marked ms v) → IsAdmitted x ms r
      literal_told t = t ∙ ap (λ w. not (marked ms w)) e ∙ sym (literal_admitted (marked ms))

      pub literal_marks : {ns : List ℕ} → Marks (λ w. eqb w v || marked ms w) ns → MarksToo x ms ns
      literal_marks t = record {
        long = t.long;
        bits = λ w. t.bits w ∙ ap (λ b. b || marked ms w) (ap (eqb w) e ∙ sym (literal_names w));
      }

  -- Any other node names none, and is a member where it is the head of a constant.
  zero_number : (k : ℕ) → eqb x (number k 0) ≡ (eqb (kind x) k && eqb (value x) 0)
  unfolding number kind value
  zero_number k =
      same_test (eqb x (number k 0)) (eqb (kind x) k && eqb (value x) 0)
      (λ e. let i = eqb-true x (number k 0) e in and_join (eq-eqb (kind x) k (omega arith)) (eq-eqb (value x) 0 (omega arith)))
      (λ e. let s = and_split (eqb (kind x) k) (eqb (value x) 0) e in
      let i = eqb-true (kind x) k s.0 in
      let j = eqb-true (value x) 0 s.1 in
      eq-eqb x (number k 0) (omega (arith, number_parts x)))

  module _ (h : is_literal x ≡ false) where
    other_names : (w : ℕ) → names w (node_of x ∷ []) ≡ false
    unfolding names
    other_names w = rw (inner_node x h).1

    other_admitted : (f : ℕ → Bool) → admitted f (node_of x) ≡ (eqb x 12288 || eqb x 16384)
    unfolding admitted bare same_conn node_of is_literal children pick number
    other_admitted f = go (eqb (kind x) 3) refl (eqb (kind x) 4) refl ∙ sym (ap₂ (λ a b. a || b) (zero_number 3) (zero_number 4))
      where
        go :
            (a : Bool) →
            eqb (kind x) 3 ≡ a →
            (b : Bool) →
            eqb (kind x) 4 ≡ b →
            admitted f (node_of x) ≡ (eqb (kind x) 3 && eqb (value x) 0 || eqb (kind x) 4 && eqb (value x) 0)
        go true p b q = rw (eqb-true (kind x) 3 p) (sym (or-false (eqb (value x) 0)))
        go false p true q = rw (eqb-true (kind x) 4 q)
        go false p false q =
            let s = or_neither (eqb (kind x) 1) (eqb (kind x) 2) h in
            rw (s.0, s.1, p, q) (pick_keeps (λ y. admitted f y ≡ false) (eqb (kind x) 6) refl refl)

    pub other_told : (ms : List ℕ) {r : Bool} → r ≡ (eqb x 12288 || eqb x 16384) → IsAdmitted x ms r
    other_told ms e = e ∙ sym (other_admitted (marked ms))

    pub other_marks : (ms : List ℕ) → length ms ≡ mark_words → MarksToo x ms ms
    other_marks ms l = record { long = l; bits = λ w. ap (λ b. b || marked ms w) (sym (other_names w)) }
