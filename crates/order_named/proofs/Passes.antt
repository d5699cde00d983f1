-- A pass that notes one option after another.
use mathlib.Core.Bool.{Bool, true, false, ◌||◌, or_assoc, or-false, or-true}
use mathlib.Core.List.{List, [], ◌∷◌, map}
use mathlib.Core.Logic.{⊎_elim}
use mathlib.Core.Path.{◌≡◌, refl, sym, ap, ap₂, subst, ◌∙◌}
use Prim.Native.Nat.{ℕ, ◌+◌, ◌≤◌, ◌<◌}
use native.Mathlib.Numerals.{add-one}
use native.Mathlib.Omega.{arith}
use borrow.Author.Tests.{eqb-true, eqb-false, ne_eqb, ltb-true, le-leb}
use lib.Dec.{eqb, leb}
use lib.ListN.{length, get_or, set, take, length-set}
use lib.Seq.{take-suc, take_all, get_or-set_same, get_or-set_other}
use Rattle.model.specs.Base.{pick, any}
use Rattle.model.specs.Limits.{most_options}
use Rattle.model.specs.Literal.{option}
use Rattle.model.specs.Code.{kind, value, node_of}
use Rattle.model.specs.Sheet.{body_node}
use Rattle.calls.specs.Index.{names}
use Rattle.theory_forms.specs.Lists.{any_append, any_map}
use Rattle.theory_forms.specs.Logic.{either, or_split}
use Rattle.theory_forms.specs.Scan.{is_literal, inner_node}
use Rattle.report_marks.specs.Noted.{is_noted}
use Rattle.order_named.specs.Noting.{Adds, place_named}

-- A 1 put at a place notes the option there, and no other.
put_one : (t : List ℕ) (p v : ℕ) → p < length t → is_noted (set t p 1) v ≡ (is_noted t v || eqb v p)
unfolding is_noted
put_one t p v h = go (eqb v p) refl
  where
    go : (b : Bool) → eqb v p ≡ b → eqb (get_or (set t p 1) v 0) 1 ≡ (eqb (get_or t v 0) 1 || b)
    go true e = rw (eqb-true v p e, get_or-set_same t p 1 0 h) (sym (or-true (eqb (get_or t p 0) 1)))
    go false e = rw (get_or-set_other t p v 1 0 (λ q. eqb-false v p e q)) (sym (or-false (eqb (get_or t v 0) 1)))

-- The elements of a list, each with its place, one after another.
module _ {A : Type 0} (place : A → ℕ) (xs : List A) where
  abbrev pub among : ℕ → ℕ → Bool
  among i v = any (λ x. eqb v (place x)) (take i xs)

  pub begun : (t : List ℕ) → Adds (among 0) t t
  unfolding any
  begun t = record { long = refl; noted = λ v h. sym (or-false (is_noted t v)) }

  pub one_more :
      (t u : List ℕ) (i : ℕ) (d : A) {p : ℕ} →
      i < length xs →
      p ≡ place (get_or xs i d) →
      p < length u →
      Adds (among i) t u →
      Adds (among (i + 1)) t (set u p 1)
  unfolding any
  one_more t u i d {p} h e room so =
      record {
        long = length-set u p 1 ∙ so.long;
        noted = λ v l.
            put_one u p v room
            ∙ ap (λ b. b || eqb v p) (so.noted v l)
            ∙ or_assoc (is_noted t v) (among i v) (eqb v p)
            ∙ ap (λ b. is_noted t v || b) (sym (next v));
      }
    where
      next : (v : ℕ) → among (i + 1) v ≡ (among i v || eqb v p)
      next v =
          rw (add-one i, take-suc xs i d h, e)
          (any_append (λ x. eqb v (place x)) (take i xs) (get_or xs i d ∷ [])
          ∙ ap (λ b. among i v || b) (or-false (eqb v (place (get_or xs i d)))))

  pub ended : (t u : List ℕ) (i : ℕ) → length xs ≤ i → Adds (among i) t u → Adds (λ v. any (λ x. eqb v (place x)) xs) t u
  ended t u i h = subst (λ ys. Adds (λ v. any (λ x. eqb v (place x)) ys) t u) (take_all i xs h)

-- A mark names the option where it is noted, and any other node none.
module _ (x : ℕ) where
  literal_names : is_literal x ≡ true → (v : ℕ) → names v (node_of x) ≡ eqb v (value x)
  unfolding names node_of is_literal pick option
  literal_names h v =
      ⊎_elim
      (λ e. rw (eqb-true (kind x) 1 e))
      (λ e. rw (eqb-true (kind x) 2 e))
      (or_split (eqb (kind x) 1) (eqb (kind x) 2) h)

  inner_names : is_literal x ≡ false → (v : ℕ) → names v (node_of x) ≡ false
  unfolding names
  inner_names h v = rw (inner_node x h).1

  names_place : (v : ℕ) → v < most_options → names v (node_of x) ≡ eqb v (place_named x)
  unfolding place_named pick
  names_place v l =
      ⊎_elim
      (λ h. rw h (literal_names h v))
      (λ h. rw h (inner_names h v ∙ sym (ne_eqb v most_options (λ e. omega arith))))
      (either (is_literal x))

  -- A node of a body has its place in the table.
  pub place_within : (n : ℕ) → n ≤ most_options → body_node n x ≡ true → leb (place_named x) most_options ≡ true
  unfolding place_named body_node is_literal pick
  place_within n few h =
      ⊎_elim
      (λ e. let b = ltb-true (value x) n (rw e at h) in rw e (le-leb (value x) most_options (omega arith)))
      (λ e. rw e (le-leb most_options most_options (omega arith)))
      (either (is_literal x))

-- So a pass that notes nodes at their places adds the options that they name.
pub named_so :
    (xs t u : List ℕ) →
    Adds (λ v. any (λ x. eqb v (place_named x)) xs) t u →
    Adds (λ v. any (names v) (map node_of xs)) t u
unfolding any
named_so xs t u so =
    record {
      long = so.long;
      noted = λ v l. so.noted v l ∙ ap (λ b. is_noted t v || b) (sym (any_map node_of (names v) xs ∙ alike v l xs));
    }
  where
    alike : (v : ℕ) → v < most_options → (xs : List ℕ) → any (λ x. names v (node_of x)) xs ≡ any (λ x. eqb v (place_named x)) xs
    alike v l [] = refl
    alike v l (x ∷ xs) = ap₂ ◌||◌ (names_place x v l) (alike v l xs)
