-- Sets of literals as tables: a number for each literal, 1 where it is in the set. A table of failed literals holds facts, the
-- complements of what is in the set; where they are derived and nothing is forced any more, it has the report.
use Rattle.std.specs.Prelude.{Bool, not, ◌&&◌, ◌||◌, ◌≡◌, ℕ, zero, suc, ◌+◌, ◌*◌, ◌≤◌, ◌<◌, eqb, length, set, replicate}
use Rattle.std.proofs.Math.Bool.{true, false, or-true, or-false, and-false}
use mathlib.Core.List.{List, [], ◌∷◌, ◌++◌, map, map-append, Memᴰ}
use Rattle.std.proofs.Math.Logic.{⊎_elim}
use Rattle.std.proofs.Math.Path.{refl, sym, ap}
use Rattle.std.proofs.Common.{◌∙◌, zero-add, arith, get_or-set_same, get_or-set_other}
use borrow.Author.Tests.{eqb-true, eqb-false, ltb-true, ltb-false, lt-ltb, le-ltb}
use Rattle.std.proofs.Math.Dec.{ltb}
use Rattle.std.proofs.Math.ListN.{get_or, get_or-eq_default}
use Rattle.model.specs.Base.{pick, all, any}
use Rattle.model.specs.Literal.{Literal, pos, neg, complement, option, same, has}
use Rattle.model.specs.Forest.{Conn, root, Forest, nil, lit, node, size}
use Rattle.model.specs.Code.{decode}
use Rattle.model.specs.Clauses.{Clause, unions, need, no_tree, one_tree_more, some_of, clauses, Derived, derived, Contradictory}
use Rattle.model.specs.Propagation.{others, refuted, conflict, mark, count_from, report_by, report}
use Rattle.model.specs.Sheet.{options_in, nodes_in, clauses_in, report_in}
use Rattle.theory_forms.specs.Logic.{true_false, either, and_split, and_join, or_split, or_left, or_right, same_test, pick_true}
use Rattle.theory_forms.specs.Lists.{all_append, all_at, all_from, any_at, any_from, all_map, count_at, count_more}
use Rattle.theory_forms.specs.Literals.{same_is, not_same, complement_twice, complement_inj, has_mem, not_has}
use Rattle.theory_forms.specs.Fine.{fine, fine_node}
use Rattle.theory_meaning.specs.Clauses.{clauses_root, all_others, all_but_one}
use Rattle.theory_forms.specs.Sheets.{Formed}
use Rattle.theory_forms.specs.Shape.{shaped_decode}
use Rattle.theory_meaning.specs.Exact.{Sound, refuted_others, contradictory_or_not}
use Rattle.theory_meaning.specs.ExactReports.{report_tells, report_by_saturated}
use Rattle.theory_meaning.specs.Evaluation.{Set, fails, some_inside, bridge, with_one}

-- The place of a literal in a table.
unfoldable pub place_of : Literal → ℕ
place_of (pos v) = 2 * v
place_of (neg v) = 2 * v + 1

unfoldable pub set_of : List ℕ → Set
set_of t l = eqb (get_or t (place_of l) 0) 1

place_inj : (a b : Literal) → place_of a ≡ place_of b → a ≡ b
unfolding place_of
place_inj (pos v) (pos w) e = ap pos (omega arith)
place_inj (pos v) (neg w) e = absurd (omega arith)
place_inj (neg v) (pos w) e = absurd (omega arith)
place_inj (neg v) (neg w) e = ap neg (omega arith)

-- A 1 put at the place of a literal puts it in the set.
put_one : (t : List ℕ) (m : Literal) → place_of m < length t → set_of (set t (place_of m) 1) ≡ with_one (set_of t) m
unfolding set_of with_one
put_one t m h i l = go (same l m) refl i
  where
    go : (b : Bool) → same l m ≡ b → eqb (get_or (set t (place_of m) 1) (place_of l) 0) 1 ≡ (eqb (get_or t (place_of l) 0) 1 || b)
    go true e = rw (same_is l m e, get_or-set_same t (place_of m) 1 0 h) (sym (or-true (eqb (get_or t (place_of m) 0) 1)))
    go false e =
        rw (get_or-set_other t (place_of m) (place_of l) 1 0 (λ p. not_same e (place_inj l m p))) (sym (or-false (eqb (get_or t (place_of l) 0) 1)))

-- The facts of a table: the literals, of options that may have a place, whose complements are in the set.

literals_below : ℕ → List Literal
literals_below zero = []
literals_below (suc n) = pos n ∷ neg n ∷ literals_below n

kept : (Literal → Bool) → List Literal → List Literal
kept p [] = []
kept p (l ∷ ls) = pick (p l) (l ∷ kept p ls) (kept p ls)

pub facts_in : List ℕ → List Literal
facts_in t = kept (λ l. set_of t (complement l)) (literals_below (length t))

one_more : (v n : ℕ) → (eqb v n || ltb v n) ≡ ltb v (suc n)
one_more v n = same_test (eqb v n || ltb v n) (ltb v (suc n))
    (λ e. ⊎_elim (λ q. lt-ltb v (suc n) (omega (arith, eqb-true v n q))) (λ q. lt-ltb v (suc n) (omega (arith, ltb-true v n q))) (or_split (eqb v n) (ltb v n) e))
    (λ e. let l = ltb-true v (suc n) e in ⊎_elim (or_left (ltb v n)) (λ q. or_right (eqb v n) (lt-ltb v n (below l (eqb-false v n q)))) (either (eqb v n)))
  where
    below : v < suc n → (v ≡ n → ⊥) → v < n
    below l d = omega arith

has_literals : (n : ℕ) (l : Literal) → has l (literals_below n) ≡ ltb (option l) n
unfolding literals_below has any same option
has_literals zero l = sym (le-ltb (option l) 0 (omega arith))
has_literals (suc n) (pos v) = ap (λ b. eqb v n || b) (has_literals n (pos v)) ∙ one_more v n
has_literals (suc n) (neg v) = ap (λ b. eqb v n || b) (has_literals n (neg v)) ∙ one_more v n

has_kept : (p : Literal → Bool) (ls : List Literal) (l : Literal) → has l (kept p ls) ≡ (has l ls && p l)
unfolding has any kept pick
has_kept p [] l = refl
has_kept p (x ∷ ls) l = go (p x) refl (same l x) refl (has_kept p ls l)
  where
    go :
        (a : Bool) →
        p x ≡ a →
        (b : Bool) →
        same l x ≡ b →
        has l (kept p ls) ≡ (has l ls && p l) →
        has l (pick a (x ∷ kept p ls) (kept p ls)) ≡ ((b || has l ls) && p l)
    go true q true e r = rw e (sym (ap p (same_is l x e) ∙ q))
    go true q false e r = rw e r
    go false q true e r = r ∙ rw (ap p (same_is l x e) ∙ q) (and-false (has l ls))
    go false q false e r = r

no_place : (t : List ℕ) (l : Literal) → length t ≤ option l → set_of t (complement l) ≡ false
unfolding set_of place_of complement option
no_place t (pos v) h = rw (get_or-eq_default t 0 {n = 2 * v + 1} (omega arith))
no_place t (neg v) h = rw (get_or-eq_default t 0 {n = 2 * v} (omega arith))

pub has_fact : (t : List ℕ) (l : Literal) → has l (facts_in t) ≡ set_of t (complement l)
unfolding facts_in
has_fact t l =
    has_kept (λ x. set_of t (complement x)) (literals_below (length t)) l
    ∙ ap (λ b. b && set_of t (complement l)) (has_literals (length t) l)
    ∙ go (ltb (option l) (length t)) refl
  where
    go : (b : Bool) → ltb (option l) (length t) ≡ b → (b && set_of t (complement l)) ≡ set_of t (complement l)
    go true e = refl
    go false e = sym (no_place t l (ltb-false (option l) (length t) e))

-- To be refuted by the facts is to lie inside the set; so a conflict is that the tree fails.
refuted_set : (t : List ℕ) → refuted (facts_in t) ≡ all (set_of t)
unfolding refuted
refuted_set t i = all (λ x. (has_fact t (complement x) ∙ ap (set_of t) (complement_twice x)) i)

pub conflict_fails : (t : List ℕ) (f : Forest) → conflict (facts_in t) (clauses root f) ≡ fails (set_of t) root f
unfolding conflict some_inside
conflict_fails t f = ap (λ p. any p (clauses root f)) (refuted_set t) ∙ bridge (set_of t) root f

-- Facts that are derived, unless the clauses are contradictory anyway.
abbrev pub Right : List Clause → List ℕ → Type 0
Right cs t = (Contradictory cs → ⊥) → Sound cs (facts_in t)

-- A list of zeros has a zero at every place, and past its end.
pub zero_everywhere : (k i : ℕ) → ◌≡◌ {A = ℕ} (get_or (replicate k 0) i 0) 0
zero_everywhere zero i = refl
zero_everywhere (suc k) zero = refl
zero_everywhere (suc k) (suc i) = zero_everywhere k i

pub right_none : (cs : List Clause) (k : ℕ) → Right cs (replicate k 0)
unfolding set_of
right_none cs k d l e =
    let none : set_of (replicate k 0) (complement l) ≡ false = rw (zero_everywhere k (place_of (complement l))) in
    true_false (sym e ∙ has_fact (replicate k 0) l ∙ none)

module _ (f : Forest) (t : List ℕ) (l : Literal) where
  -- A literal is derived where the tree fails once it fails too; and a derived literal may become a fact.
  pub forced_derived :
      place_of l < length t →
      Right (clauses root f) t →
      fails (set_of (set t (place_of l) 1)) root f ≡ true →
      (Contradictory (clauses root f) → ⊥) →
      Derived (clauses root f) l
  unfolding some_inside
  forced_derived h right e d =
      let inside = bridge (with_one (set_of t) l) root f ∙ ap (λ p. fails p root f) (sym (put_one t l h)) ∙ e in
      let w = any_at (all (with_one (set_of t) l)) (clauses root f) inside in
      let c = w.0 in
      let out : (x : Literal) → Memᴰ x c → (x ≡ l → ⊥) → Derived (clauses root f) (complement x) = λ x k n. right d (complement x) (has_fact t (complement x) ∙ ap (set_of t) (complement_twice x) ∙ (all_but_one (set_of t) l c).0 w.2 x k n) in
      ⊎_elim
      (λ q. derived c w.1 (has_mem l c q) out)
      (λ q. absurd (d (c, w.1, λ x k. out x k (λ p. not_has q (rw p at k)))))
      (either (has l c))

  pub fact_right :
      place_of (complement l) < length t →
      ((Contradictory (clauses root f) → ⊥) → Derived (clauses root f) l) →
      Right (clauses root f) t →
      Right (clauses root f) (set t (place_of (complement l)) 1)
  unfolding with_one
  fact_right h e right d x q =
      let s = has_fact (set t (place_of (complement l)) 1) x ∙ ap (λ p. p (complement x)) (put_one t (complement l) h) in
      ⊎_elim
      (λ o. right d x (has_fact t x ∙ o))
      (λ o. rw (complement_inj x l (same_is (complement x) (complement l) o)) (e d))
      (or_split (set_of t (complement x)) (same (complement x) (complement l)) (sym s ∙ q))

-- Every literal of the clauses of trees whose options are below n has such an option.

all_unions : (p : Literal → Bool) (cs ds : List Clause) → all (all p) cs ≡ true → all (all p) ds ≡ true → all (all p) (unions cs ds) ≡ true
unfolding all unions
all_unions p [] ds a b = refl
all_unions p (c ∷ cs) ds a b =
    let s = and_split (all p c) (all (all p) cs) a in
    let one = all_map (λ d. c ++ d) (all p) ds ∙ all_from (λ d. all p (c ++ d)) ds (λ d m. all_append p c d ∙ and_join s.0 (all_at (all p) ds b m)) in
    all_append (all p) (map (λ d. c ++ d) ds) (unions cs ds) ∙ and_join one (all_unions p cs ds s.1 b)

all_more :
    (p : Literal → Bool) (cs : List Clause) (later : ℕ → List Clause) →
    all (all p) cs ≡ true →
    ((r : ℕ) → all (all p) (later r) ≡ true) →
    (r : ℕ) →
    all (all p) (one_tree_more cs later r) ≡ true
unfolding one_tree_more all
all_more p cs later a b zero = refl
all_more p cs later a b (suc r) =
    all_append (all p) (unions cs (later r)) (later (suc r)) ∙ and_join (all_unions p cs (later r) a (b r)) (b (suc r))

named_of : (n : ℕ) (f : Forest) → fine n f ≡ true → (r : ℕ) → all (all (λ l. ltb (option l) n)) (some_of f r) ≡ true
unfolding fine some_of no_tree all
named_of n nil h zero = refl
named_of n nil h (suc r) = refl
named_of n (lit l f) h r =
    let s = and_split (ltb (option l) n) (fine n f) h in
    all_more (λ l. ltb (option l) n) ((l ∷ []) ∷ []) (some_of f) (rw s.0) (named_of n f s.1) r
named_of n (node d k f) h r =
    let s = fine_node n d k f h in
    all_more (λ l. ltb (option l) n) (some_of k (need d (size k))) (some_of f) (named_of n k s.1 (need d (size k))) (named_of n f s.2) r

pub named : (n : ℕ) (c : Conn) (f : Forest) → fine n f ≡ true → all (all (λ l. ltb (option l) n)) (clauses c f) ≡ true
unfolding clauses
named n c f h = named_of n f h (need c (size f))

-- The literal is forced by what the table holds, and no fact yet.
unfoldable pub forced_by : Forest → List ℕ → Literal → Bool
forced_by f t l = not (set_of t (complement l)) && fails (set_of (set t (place_of l) 1)) root f

-- Where the facts conflict with contradictory clauses, the table has the report.
conflict_report :
    (n : ℕ) (cs : List Clause) (t : List ℕ) →
    conflict (facts_in t) cs ≡ true →
    Contradictory cs →
    report_by n cs (facts_in t) ≡ report n cs
unfolding report_by
conflict_report n cs t e d = let tells = report_tells n cs in λ i. record {
  contradictory = (e ∙ sym (tells.conflicts.1 d)) i;
  marks = (pick_true (conflict (facts_in t) cs) (replicate n 3) (map (mark (facts_in t)) (count_from 0 n)) e ∙ sym (tells.all_three d)) i;
}

-- A tree that fails conflicts with the facts; and facts that are right conflict with contradictory clauses only.
pub failed_report :
    (n : ℕ) (f : Forest) (t : List ℕ) →
    fails (set_of t) root f ≡ true →
    Right (clauses root f) t →
    report_by n (clauses root f) (facts_in t) ≡ report n (clauses root f)
unfolding conflict refuted
failed_report n f t e right =
    let loud = conflict_fails t f ∙ e in
    let w = any_at (refuted (facts_in t)) (clauses root f) loud in
    conflict_report n (clauses root f) t loud
    (⊎_elim
    (λ d. d)
    (λ d. (w.0, w.1, λ x m. right d (complement x) (all_at (λ y. has (complement y) (facts_in t)) w.0 w.2 m)))
    (contradictory_or_not (clauses root f)))

-- Where nothing is forced, the table has the report.

pub place_below : (n : ℕ) (l : Literal) → option l < n → place_of l < 2 * n
unfolding place_of option
place_below n (pos v) h = omega arith
place_below n (neg v) h = omega arith

module _ (n : ℕ) (f : Forest) (t : List ℕ) (inside : all (all (λ l. ltb (option l) n)) (clauses root f) ≡ true) (room : 2 * n ≤ length t) (rest : (l : Literal) → option l < n → forced_by f t l ≡ false) where
  closed :
      (c : Clause) →
      Memᴰ c (clauses root f) →
      (l : Literal) →
      Memᴰ l c →
      refuted (facts_in t) (others l c) ≡ true →
      has l (facts_in t) ≡ true
  unfolding forced_by some_inside
  closed c m l k e =
      let few = ltb-true (option l) n (all_at (λ x. ltb (option x) n) c (all_at (all (λ x. ltb (option x) n)) (clauses root f) inside m) k) in
      let far = place_below n l few in
      let inner : all (with_one (set_of t) l) c ≡ true = sym (all_others (set_of t) l c) ∙ ap (λ p. p (others l c)) (sym (refuted_set t)) ∙ e in
      let fall = ap (λ p. fails p root f) (put_one t l (omega arith)) ∙ sym (bridge (with_one (set_of t) l) root f) ∙ any_from (all (with_one (set_of t) l)) (clauses root f) m inner in
      has_fact t l ∙ go (set_of t (complement l)) (rest l few) fall
    where
      go : (b : Bool) {r : Bool} → (not b && r) ≡ false → r ≡ true → b ≡ true
      go true p q = refl
      go false p q = true_false (sym q ∙ p)

  -- Every derived literal is a fact, so contradictory clauses conflict with the facts.
  derived_fact : {l : Literal} → Derived (clauses root f) l → has l (facts_in t) ≡ true
  derived_fact {l} (derived c m k h) = closed c m l k ((refuted_others (facts_in t) l c).1 (λ x k' d. derived_fact (h x k' d)))

  conflicting : Contradictory (clauses root f) → conflict (facts_in t) (clauses root f) ≡ true
  unfolding conflict refuted
  conflicting d = any_from (refuted (facts_in t)) (clauses root f) d.1 (all_from (λ x. has (complement x) (facts_in t)) d.0 (λ x m. derived_fact (d.2 x m)))

  pub rest_report : Right (clauses root f) t → report_by n (clauses root f) (facts_in t) ≡ report n (clauses root f)
  rest_report right = ⊎_elim
      (λ d. conflict_report n (clauses root f) t (conflicting d) d)
      (λ d. report_by_saturated n (record { sound = right d; closed = closed }))
      (contradictory_or_not (clauses root f))

-- The report of a sheet, read off a table that has it.

unfoldable pub mark_in : List ℕ → ℕ → ℕ
mark_in t v = pick (set_of t (neg v)) 1 (pick (set_of t (pos v)) 2 0)

-- All 3 where the first says so.
unfoldable pub marks_in : Bool → List ℕ → ℕ → List ℕ
marks_in b t n = map (λ v. pick b 3 (mark_in t v)) (count_from 0 n)

-- The option is 1 or 2.
unfoldable pub is_marked : List ℕ → ℕ → Bool
is_marked t v = eqb (mark_in t v) 1 || eqb (mark_in t v) 2

abbrev pub HasReport : List ℕ → List ℕ → Type 0
HasReport s t = report_by (options_in s) (clauses_in s) (facts_in t) ≡ report_in s

module _ (s : List ℕ) (h : Formed s) where
  sheet_named : all (all (λ l. ltb (option l) (options_in s))) (clauses_in s) ≡ true
  unfolding clauses_in
  sheet_named =
      let form = h.shaped in
      rw (shaped_decode form, clauses_root form.kids) (named (options_in s) root form.kids form.fine)

  -- A table on which nothing is forced any more has the report.
  pub sheet_report :
      (t : List ℕ) →
      2 * options_in s ≤ length t →
      Right (clauses root (decode (nodes_in s))) t →
      ((l : Literal) → option l < options_in s → forced_by (decode (nodes_in s)) t l ≡ false) →
      HasReport s t
  unfolding clauses_in report_in
  sheet_report t room right rest = rest_report (options_in s) (decode (nodes_in s)) t sheet_named room rest right

  -- So has one under which the sheet fails.
  pub sheet_failed :
      (t : List ℕ) →
      fails (set_of t) root (decode (nodes_in s)) ≡ true →
      Right (clauses root (decode (nodes_in s))) t →
      HasReport s t
  unfolding clauses_in report_in
  sheet_failed t e right = failed_report (options_in s) (decode (nodes_in s)) t e right

mark_fact : (t : List ℕ) (v : ℕ) → mark (facts_in t) v ≡ mark_in t v
unfolding mark mark_in complement
mark_fact t v = rw (has_fact t (pos v), has_fact t (neg v))

-- One mark more.
pub marks_more : (b : Bool) (t : List ℕ) (n : ℕ) → marks_in b t (suc n) ≡ marks_in b t n ++ (pick b 3 (mark_in t n) ∷ [])
unfolding marks_in
marks_more b t n = rw (count_more 0 n, map-append, zero-add)

three_marks : (v n : ℕ) → ◌≡◌ {A = List ℕ} (replicate n 3) (map (λ w. 3) (count_from v n))
unfolding count_from
three_marks v zero = refl
three_marks v (suc n) = ap (λ l. 3 ∷ l) (three_marks (suc v) n)

picked_marks : (b : Bool) (t : List ℕ) (n : ℕ) → pick b (replicate n 3) (map (mark (facts_in t)) (count_from 0 n)) ≡ marks_in b t n
unfolding marks_in pick
picked_marks true t n = three_marks 0 n
picked_marks false t n = ap (λ g. map g (count_from 0 n)) (λ i v. mark_fact t v i)

-- A mark that is neither 1 nor 2 is 0.
pub open_mark : (t : List ℕ) (v : ℕ) → eqb (mark_in t v) 0 ≡ not (is_marked t v)
unfolding mark_in is_marked pick
open_mark t v = go (set_of t (neg v)) (set_of t (pos v))
  where
    go : (a b : Bool) → let m : ℕ = pick a 1 (pick b 2 0) in eqb m 0 ≡ not (eqb m 1 || eqb m 2)
    go true b = refl
    go false true = refl
    go false false = refl

module _ (s t : List ℕ) (e : HasReport s t) where
  pub report_conflict : (report_in s).contradictory ≡ fails (set_of t) root (decode (nodes_in s))
  unfolding report_by clauses_in
  report_conflict = ap (λ r. r.contradictory) (sym e) ∙ conflict_fails t (decode (nodes_in s))

  pub report_marks : (report_in s).marks ≡ marks_in (report_in s).contradictory t (options_in s)
  unfolding report_by
  report_marks = ap (λ r. r.marks) (sym e) ∙ picked_marks (conflict (facts_in t) (clauses_in s)) t (options_in s) ∙ ap (λ b. marks_in b t (options_in s)) (ap (λ r. r.contradictory) e)

  -- Without a contradiction, an option's byte in the report is its mark.
  pub report_mark : (report_in s).contradictory ≡ false → (v : ℕ) → v < options_in s → get_or (report_in s).marks v 0 ≡ mark_in t v
  unfolding marks_in pick
  report_mark quiet v h =
      ap (λ xs. get_or xs v 0) (report_marks ∙ ap (λ b. marks_in b t (options_in s)) quiet)
      ∙ count_at (mark_in t) 0 (options_in s) v h
      ∙ ap (mark_in t) (zero-add v)
