-- Document 02, U4: the clauses of kind 6 are "every union of members' clauses over members - k + 1 of them; none if k is 0; the empty
-- clause if k exceeds the members". Cases have a few members; here they are any.
use Rattle.std.specs.Prelude.{List, [], ◌∷◌, ◌++◌, map, ◌↔◌, ◌≡◌, refl, ℕ, zero, suc, ◌+◌, ◌≤◌, ◌<◌, length}
use Rattle.std.proofs.Common.{append-nil, ⊎_elim, sym, ap, subst, ◌∙◌, arith}
use mathlib.Core.List.Memᴰ
use mathlib.Core.List.{Memᴰ}
use Rattle.model.specs.Literal.{Literal}
use Rattle.model.specs.Forest.{at_least, Forest, nil, lit, size}
use Rattle.model.specs.Clauses.{Clause, unions, need, no_tree, one_tree_more, some_of, clauses}
use Rattle.theory_forms.specs.Taken.{from_none, from_too_many}

-- "None if k is 0."
pub no_clause : (members : Forest) → clauses (at_least 0) members ≡ []
unfolding clauses need
no_clause members = from_too_many members (need (at_least 0) (size members)) (omega arith)

-- "The empty clause if k exceeds the members", and no other.
pub empty_clause : (k : ℕ) (members : Forest) → size members < k → clauses (at_least k) members ≡ [] ∷ []
unfolding clauses need
empty_clause k members h =
    let e : need (at_least k) (size members) ≡ 0 = omega arith in
    ap (some_of members) e ∙ from_none members

-- Members that are marks, and some of them, as they stand.
abbrev pub marks : List Literal → Forest
marks [] = nil
marks (l ∷ ls) = lit l (marks ls)

pub data Some : Clause → List Literal → Type 0 where
  no_more : Some [] []
  taken : {l : Literal} {c : Clause} {ls : List Literal} → Some c ls → Some (l ∷ c) (l ∷ ls)
  left : {l : Literal} {c : Clause} {ls : List Literal} → Some c ls → Some c (l ∷ ls)

size_marks : (ls : List Literal) → size (marks ls) ≡ length ls
unfolding size
size_marks [] = refl
size_marks (l ∷ ls) = ap suc (size_marks ls)

none_taken : (ls : List Literal) → Some [] ls
none_taken [] = no_more
none_taken (l ∷ ls) = left (none_taken ls)

-- What is taken from r marks is some r of them.
some_are : (ls : List Literal) (r : ℕ) (c : Clause) → Memᴰ c (some_of (marks ls) r) → Some c ls × (length c ≡ r)
unfolding some_of no_tree one_tree_more unions
some_are [] zero c m = let e = Memᴰ.eq_of_singleton m in (subst (λ d. Some d []) (sym e) no_more, ap length e)
some_are [] (suc r) c m = absurd (Memᴰ.not-nil m)
some_are (l ∷ ls) zero c m =
    let e = Memᴰ.eq_of_singleton m in
    (subst (λ d. Some d (l ∷ ls)) (sym e) (none_taken (l ∷ ls)), ap length e)
some_are (l ∷ ls) (suc r) c m =
    let fewer = some_are ls r in
    let same = some_are ls (suc r) c in
    let with_l = map (λ d. l ∷ d) (some_of (marks ls) r) in
    ⊎_elim
    (λ m. with_first fewer (Memᴰ.of_map (λ d. l ∷ d) (some_of (marks ls) r) (rw (append-nil with_l) at m)))
    (λ m. let w = same m in (left w.0, w.1))
    (Memᴰ.append_cases (with_l ++ []) m)
  where
    with_first :
        ((d : Clause) → Memᴰ d (some_of (marks ls) r) → Some d ls × (length d ≡ r)) →
        (d : Clause) × Memᴰ d (some_of (marks ls) r) × (l ∷ d ≡ c) →
        Some c (l ∷ ls) × (length c ≡ suc r)
    with_first fewer w =
        let s = fewer w.0 w.1 in
        (subst (λ d. Some d (l ∷ ls)) w.2 (taken s.0), ap length (sym w.2) ∙ ap suc s.1)

are_some : {c : Clause} {ls : List Literal} → Some c ls → Memᴰ c (some_of (marks ls) (length c))
unfolding some_of no_tree one_tree_more unions
are_some no_more = Memᴰ.head refl
are_some (taken {l} {c} {ls} s) =
    Memᴰ.append_left
    (some_of (marks ls) (suc (length c)))
    (Memᴰ.append_left [] (Memᴰ.map (λ d. l ∷ d) (are_some s)))
are_some (left {l} {c = []} {ls} s) = Memᴰ.head refl
are_some (left {l} {c = x ∷ c} {ls} s) =
    Memᴰ.append_right (unions ((l ∷ []) ∷ []) (some_of (marks ls) (length c))) (are_some s)

-- "Every union of members' clauses over members - k + 1 of them": of marks a clause of kind 6 is any members - k + 1 of them.
pub of_marks :
    (k : ℕ) (ls : List Literal) (c : Clause) →
    k ≤ length ls + 1 →
    Memᴰ c (clauses (at_least k) (marks ls)) ↔ (Some c ls × (length c + k ≡ length ls + 1))
unfolding clauses need
of_marks k ls c h = (
  λ m. let w = some_are ls (need (at_least k) (size (marks ls))) c m in (w.0, omega (arith, w.1, size_marks ls)),
  λ w.
      let e : length c ≡ need (at_least k) (size (marks ls)) = omega (arith, w.1, size_marks ls) in
      subst (λ r. Memᴰ c (some_of (marks ls) r)) e (are_some w.0),
)
