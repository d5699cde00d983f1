-- An index while it is filled, over plain values: cleared option by option, then by the nodes from the last to the first.
use mathlib.Core.Bool.{Bool, true, false, ◌||◌, ◌&&◌}
use mathlib.Core.List.{List, [], ◌∷◌, ◌++◌, map, append_assoc}
use mathlib.Core.Path.{◌≡◌, refl, sym, ap, ap₂, ◌∙◌}
use Prim.Native.Nat.{ℕ, zero, suc, ◌+◌, ◌*◌, ◌≤◌, ◌<◌}
use native.Mathlib.Numerals.{add-one}
use native.Mathlib.Omega.{arith}
use borrow.Author.Tests.{ltb-true, eqb-true}
use lib.Dec.{eqb}
use lib.ListN.{length, get_or, set, take, drop, length-append, length-map, length-take, length-drop, drop_of_length-le, take-append-drop}
use lib.Seq.{drop-cons, append_snoc, set_at, get_or-take, get_or-drop}
use Rattle.model.specs.Base.{pick, placed, all}
use Rattle.model.specs.Literal.{Literal, pos, neg, option}
use Rattle.model.specs.Code.{leaf, kind, value, node_of}
use Rattle.model.specs.Sheet.{body_node, options_in, used_in, numbers_in, nodes_in, rooted, is_sheet}
use Rattle.calls.specs.Index.{no_place, mark_count, first_mark, entries, fresh_count}
use Rattle.calls.specs.Conditions.{index_length}
use Rattle.theory_forms.specs.Logic.{true_false, and_split}
use Rattle.theory_forms.specs.Lists.{map_drop}
use Rattle.theory_forms.specs.Scan.{is_literal, inner_node}
use Rattle.theory_forms.specs.Sheets.{Formed, sheet_formed}
use Rattle.theory_index.specs.Entries.{entries_from, from_root, entries_length, entries_more, count_at, count_within}
use Rattle.theory_index.specs.Entries.{head_before, leaf_before, mentioned_first, first_over, first_placed}
use Rattle.theory_forms.specs.Placed.{placed_start, placed_rest, placed_at}
use Rattle.sheet_index.specs.Walk.{fresh_from, four_alike, eight_alike}

-- Cleared: two numbers more after those that were written.
two_more :
    (new old : List ℕ) (n a b : ℕ) →
    length new ≡ n →
    n + 1 < length old →
    set (set (placed new old) n a) (n + 1) b ≡ placed (new ++ (a ∷ b ∷ [])) old
unfolding placed
two_more new old n a b long room =
    let one = drop-cons old n 0 (omega arith) in
    let two = drop-cons old (suc n) 0 (omega arith) in
    let rest = drop (suc (suc n)) old in
    let end : length (new ++ (a ∷ b ∷ [])) ≡ suc (suc n) = omega (arith, length-append new (a ∷ b ∷ [])) in
    rw (long, one, two, end, set_at new (get_or old n 0) (get_or old (suc n) 0 ∷ rest) a n long)
    (ap (λ xs. set xs (n + 1) b) (sym (append_snoc new a (get_or old (suc n) 0 ∷ rest)))
    ∙ set_at (new ++ (a ∷ [])) (get_or old (suc n) 0) rest b (n + 1) (omega (arith, length-append new (a ∷ [])))
    ∙ append_snoc new a (b ∷ rest)
    ∙ sym (append_assoc new (a ∷ b ∷ []) rest))

pub cleared_more :
    (old : List ℕ) (v : ℕ) →
    2 * v + 1 < length old →
    set (set (placed (entries_from 0 0 v []) old) (2 * v) 0) (2 * v + 1) no_place ≡ placed (entries_from 0 0 (v + 1) []) old
unfolding mark_count first_mark
cleared_more old v room =
    two_more (entries_from 0 0 v []) old (2 * v) 0 no_place (entries_length 0 0 v []) room
    ∙ rw (add-one, entries_more 0 0 v [])

pub cleared_none : (old : List ℕ) → old ≡ placed (entries_from 0 0 0 []) old
unfolding placed entries_from
cleared_none old = refl

-- Where there are no nodes, their place is none.
no_nodes : (p v many : ℕ) → entries v many [] ≡ entries_from p v many []
unfolding entries entries_from first_mark
no_nodes p v zero = refl
no_nodes p v (suc many) = ap (λ r. mark_count v [] ∷ no_place ∷ r) (no_nodes p (suc v) many)

-- A number that is a literal: its option is its value, and is below N.
literal_value : (x : ℕ) → is_literal x ≡ true → (l : Literal) × (node_of x ≡ leaf l) × (option l ≡ value x)
unfolding is_literal node_of pick option
literal_value x h = go (eqb (kind x) 1) refl (eqb (kind x) 2) refl h
  where
    go :
        (a : Bool) →
        eqb (kind x) 1 ≡ a →
        (b : Bool) →
        eqb (kind x) 2 ≡ b →
        (a || b) ≡ true →
        (l : Literal) × (node_of x ≡ leaf l) × (option l ≡ value x)
    go true p b q e = (pos (value x), rw p, refl)
    go false p true q e = (neg (value x), rw (p, q), refl)
    go false p false q e = true_false (sym e)

body_within :
    (n : ℕ) (xs : List ℕ) (i : ℕ) →
    all (body_node n) xs ≡ true →
    i < length xs →
    is_literal (get_or xs i 0) ≡ true →
    value (get_or xs i 0) < n
unfolding all body_node is_literal pick
body_within n [] i h l e = absurd (omega arith)
body_within n (x ∷ xs) zero h l e = ltb-true (value x) n (rw e at (and_split (body_node n x) (all (body_node n) xs) h).0)
body_within n (x ∷ xs) (suc i) h l e = body_within n xs i (and_split (body_node n x) (all (body_node n) xs) h).1 (omega arith) e

rooted_within :
    (n : ℕ) (xs : List ℕ) (i : ℕ) →
    rooted n xs ≡ true →
    i < length xs →
    is_literal (get_or xs i 0) ≡ true →
    value (get_or xs i 0) < n
unfolding rooted is_literal
rooted_within n [] i h l e = absurd (omega arith)
rooted_within n (x ∷ xs) zero h l e =
    let five = eqb-true (kind x) 5 (and_split (eqb (kind x) 5) (all (body_node n) xs) h).0 in true_false (sym (rw five at e))
rooted_within n (x ∷ xs) (suc i) h l e = body_within n xs i (and_split (eqb (kind x) 5) (all (body_node n) xs) h).1 (omega arith) e

-- Four numbers that are the same.
alike_four :
    (s : List ℕ) (i : ℕ) →
    four_alike s i ≡ true →
    (get_or s (i + 1) 0 ≡ get_or s i 0) × (get_or s (i + 2) 0 ≡ get_or s i 0) × (get_or s (i + 3) 0 ≡ get_or s i 0)
unfolding four_alike
alike_four s i e =
    let x = get_or s i 0 in
    let one = and_split (eqb x (get_or s (i + 1) 0)) (eqb x (get_or s (i + 2) 0) && eqb x (get_or s (i + 3) 0)) e in
    let two = and_split (eqb x (get_or s (i + 2) 0)) (eqb x (get_or s (i + 3) 0)) one.1 in (
      sym (eqb-true x (get_or s (i + 1) 0) one.0),
      sym (eqb-true x (get_or s (i + 2) 0) two.0),
      sym (eqb-true x (get_or s (i + 3) 0) two.1),
    )

-- What was placed last stays.
placed_over : {n : ℕ} (new other old : List ℕ) → length new ≡ n → length other ≡ n → placed new (placed other old) ≡ placed new old
unfolding placed
placed_over {n} new other old one two = rw one (ap (λ r. new ++ r) (placed_rest other old two))

-- Filled from a place on: the index of the nodes from there, before what it held past them.
module _ (s : List ℕ) where
  fresh_long : (p : ℕ) → length (fresh_from s p) ≡ 2 * options_in s
  fresh_long p = entries_length p 0 (options_in s) (drop p (nodes_in s))

  fresh_whole : fresh_count s ≡ fresh_from s 0
  unfolding fresh_count
  fresh_whole = from_root 0 (options_in s) (nodes_in s)

  -- The start of an index that was filled from a place on; and an index with such a start.
  pub filled_start :
      (p : ℕ) (old : List ℕ) {index : List ℕ} →
      index ≡ placed (fresh_from s p) old →
      take (index_length s) index ≡ fresh_from s p
  filled_start p old e = ap (take (index_length s)) e ∙ placed_start (fresh_from s p) old (fresh_long p)

  module _ (p : ℕ) (index : List ℕ) (held : take (index_length s) index ≡ fresh_from s p) where
    pub start_filled : index ≡ placed (fresh_from s p) index
    unfolding placed
    start_filled =
        rw (fresh_long p) (sym (take-append-drop (2 * options_in s) index) ∙ ap (λ new. new ++ drop (2 * options_in s) index) held)

    pub start_room : 2 * options_in s ≤ length index
    start_room = omega (arith, length-take (2 * options_in s) index, ap length held, fresh_long p)

    -- Where the nodes between two places change no entry.
    pub unchanged : (q : ℕ) → fresh_from s p ≡ fresh_from s q → index ≡ placed (fresh_from s q) index
    unchanged q e = start_filled ∙ ap (λ new. placed new index) e

  -- Filled from a place on, and then from one before it.
  pub filled_further :
      (p q : ℕ) (old : List ℕ) {index new : List ℕ} →
      index ≡ placed (fresh_from s q) old →
      new ≡ placed (fresh_from s p) index →
      new ≡ placed (fresh_from s p) old
  filled_further p q old e f =
      f ∙ ap (placed (fresh_from s p)) e ∙ placed_over (fresh_from s p) (fresh_from s q) old (fresh_long p) (fresh_long q)

  module _ (h : is_sheet s ≡ true) where
    abbrev form : Formed s
    form = sheet_formed s h

    fresh_none : entries 0 (options_in s) [] ≡ fresh_from s (used_in s)
    fresh_none =
        let all : length (nodes_in s) ≤ used_in s = omega (arith, form.count) in
        no_nodes (used_in s) 0 (options_in s)
        ∙ ap (entries_from (used_in s) 0 (options_in s)) (sym (drop_of_length-le (nodes_in s) all))

    -- The node at a place.
    module _ (p : ℕ) (here : p < used_in s) {x : ℕ} (read : get_or s (2 + p) 0 ≡ x) where
      many : length (numbers_in s) ≡ used_in s
      unfolding nodes_in
      many = sym (length-map (numbers_in s) node_of) ∙ form.count

      number_here : get_or (numbers_in s) p 0 ≡ x
      unfolding numbers_in
      number_here = rw (get_or-take, get_or-drop) read

      node_here : drop p (nodes_in s) ≡ node_of x ∷ drop (suc p) (nodes_in s)
      unfolding nodes_in
      node_here =
          sym (map_drop node_of p (numbers_in s))
          ∙ ap (map node_of) (drop-cons (numbers_in s) p 0 (omega (arith, many)))
          ∙ ap₂ (λ y ns. node_of y ∷ ns) number_here (map_drop node_of (suc p) (numbers_in s))

      other_here : is_literal x ≡ false → fresh_from s (suc p) ≡ fresh_from s p
      other_here e =
          sym (
          let w = inner_node x e in
          ap (entries_from p 0 (options_in s)) (node_here ∙ ap (λ y. y ∷ drop (suc p) (nodes_in s)) w.1)
          ∙ head_before p 0 (options_in s) w.0 _ (drop (suc p) (nodes_in s)))

      module _ (e : is_literal x ≡ true) where
        option_here : value x < options_in s
        option_here =
            rw number_here at (
            rooted_within (options_in s) (numbers_in s) p form.rooted (omega (arith, many)) (ap is_literal number_here ∙ e))

        literal_here : fresh_from s p ≡ mentioned_first (value x) 1 p (fresh_from s (suc p))
        literal_here =
            let w = literal_value x e in
            ap (entries_from p 0 (options_in s)) (node_here ∙ ap (λ y. y ∷ drop (suc p) (nodes_in s)) w.1)
            ∙ leaf_before w.0 p (drop (suc p) (nodes_in s)) 0 (options_in s) _ (omega (arith, w.2)) option_here

    -- So many marks of one option from a place on.
    abbrev pub Run : ℕ → ℕ → ℕ → Type 0
    Run p marks v =
        (v < options_in s)
        × (p + marks ≤ used_in s)
        × (fresh_from s p ≡ mentioned_first v marks p (fresh_from s (p + marks)))

    -- Runs of one option side by side are one.
    runs_joined : (p m k : ℕ) {v : ℕ} → Run p m v → Run (p + m) k v → Run p (m + k) v
    runs_joined p m k {v} one two =
        let rest = fresh_from s (p + m + k) in
        let within : 2 * v < length rest = omega (arith, one.0, fresh_long (p + m + k)) in
        let both = one.2 ∙ ap (mentioned_first v m p) two.2 ∙ first_over v rest within m p k (p + m) in
        let sum : k + m ≡ m + k = omega arith in
        let after : p + m + k ≡ p + (m + k) = omega arith in
        (one.0, omega (arith, two.1), both ∙ ap₂ (λ n q. mentioned_first v n p (fresh_from s q)) sum after)

    -- One node.
    module _ (p : ℕ) (here : p + 1 ≤ used_in s) {x : ℕ} (read : get_or s (2 + p) 0 ≡ x) where
      next : suc p ≡ p + 1
      next = omega arith

      pub one_other : is_literal x ≡ false → fresh_from s (p + 1) ≡ fresh_from s p
      one_other e = ap (fresh_from s) (sym next) ∙ other_here p (omega arith) read e

      pub one_mark : is_literal x ≡ true → Run p 1 (value x)
      one_mark e = (option_here p (omega arith) read e, here, rw next at (literal_here p (omega arith) read e))

    -- Four nodes of one number.
    module _ (p : ℕ) (here : p + 4 ≤ used_in s) {x : ℕ} (read : get_or s (2 + p) 0 ≡ x) (alike : four_alike s (2 + p) ≡ true) where
      second : get_or s (2 + (p + 1)) 0 ≡ x
      second = let e : 2 + (p + 1) ≡ 2 + p + 1 = omega arith in rw e ((alike_four s (2 + p) alike).0 ∙ read)

      third : get_or s (2 + (p + 1 + 1)) 0 ≡ x
      third = let e : 2 + (p + 1 + 1) ≡ 2 + p + 2 = omega arith in rw e ((alike_four s (2 + p) alike).1 ∙ read)

      fourth : get_or s (2 + (p + 1 + 1 + 1)) 0 ≡ x
      fourth = let e : 2 + (p + 1 + 1 + 1) ≡ 2 + p + 3 = omega arith in rw e ((alike_four s (2 + p) alike).2 ∙ read)

      four_others : is_literal x ≡ false → fresh_from s (p + 4) ≡ fresh_from s p
      four_others e =
          let after : p + 4 ≡ p + 1 + 1 + 1 + 1 = omega arith in
          ap (fresh_from s) after
          ∙ one_other (p + 1 + 1 + 1) (omega arith) fourth e
          ∙ one_other (p + 1 + 1) (omega arith) third e
          ∙ one_other (p + 1) (omega arith) second e
          ∙ one_other p (omega arith) read e

      four_marks : is_literal x ≡ true → Run p 4 (value x)
      four_marks e =
          runs_joined p 1 3 (one_mark p (omega arith) read e)
          (runs_joined (p + 1) 1 2 (one_mark (p + 1) (omega arith) second e)
          (runs_joined (p + 1 + 1) 1 1
          (one_mark (p + 1 + 1) (omega arith) third e)
          (one_mark (p + 1 + 1 + 1) (omega arith) fourth e)))

    -- Eight.
    module _ (p : ℕ) (here : p + 8 ≤ used_in s) (alike : eight_alike s (2 + p) ≡ true) where
      abbrev x : ℕ
      x = get_or s (2 + p) 0

      halves : (four_alike s (2 + p) ≡ true) × (four_alike s (2 + (p + 4)) ≡ true) × (get_or s (2 + (p + 4)) 0 ≡ x)
      unfolding eight_alike
      halves =
          let e : 2 + (p + 4) ≡ 2 + p + 4 = omega arith in
          let one = and_split (four_alike s (2 + p)) (four_alike s (2 + p + 4) && eqb x (get_or s (2 + p + 4) 0)) alike in
          let two = and_split (four_alike s (2 + p + 4)) (eqb x (get_or s (2 + p + 4) 0)) one.1 in
          (one.0, rw e two.0, rw e (sym (eqb-true x (get_or s (2 + p + 4) 0) two.1)))

      pub eight_others : is_literal x ≡ false → fresh_from s (p + 8) ≡ fresh_from s p
      eight_others e =
          let after : p + 8 ≡ p + 4 + 4 = omega arith in
          ap (fresh_from s) after
          ∙ four_others (p + 4) (omega arith) halves.2 halves.1 e
          ∙ four_others p (omega arith) refl halves.0 e

      pub eight_marks : is_literal x ≡ true → Run p 8 (value x)
      eight_marks e =
          runs_joined p 4 4
          (four_marks p (omega arith) refl halves.0 e)
          (four_marks (p + 4) (omega arith) halves.2 halves.1 e)

    -- In an index of the nodes after a run the option's count may rise, and then it is the index of the nodes from the run on.
    module _ (p marks : ℕ) {v w : ℕ} (run : Run p marks w) (which : v ≡ w) (index : List ℕ) where
      abbrev Held : Type 0
      Held = take (index_length s) index ≡ fresh_from s (p + marks)

      module _ (held : Held) where
        pub may_rise : (2 * v + 1 < length index) × (get_or index (2 * v) 0 + marks ≤ no_place)
        may_rise =
            let ns = drop (p + marks) (nodes_in s) in
            let new = fresh_from s (p + marks) in
            let read = ap (λ l. get_or l (2 * v) 0) (start_filled (p + marks) index held)
            ∙ placed_at new index (fresh_long (p + marks)) (2 * v) (omega (arith, run.0, which)) in
            let count = count_at (p + marks) 0 (options_in s) ns v (omega (arith, run.0, which)) in
            let few : mark_count (0 + v) ns + marks ≤ no_place =
            omega (arith, count_within (0 + v) ns, length-drop (p + marks) (nodes_in s), form.count, form.used, run.1) in
            (omega (arith, start_room (p + marks) index held, run.0, which), omega (arith, read, count, few))

        pub run_met : {new : List ℕ} → new ≡ mentioned_first v marks p index → new ≡ placed (fresh_from s p) index
        run_met e =
            let rest = fresh_from s (p + marks) in
            e
            ∙ ap₂ (λ n xs. mentioned_first n marks p xs) which (start_filled (p + marks) index held)
            ∙ first_placed rest index w (omega (arith, run.0, fresh_long (p + marks))) marks p
            ∙ ap (λ new. placed new index) (sym run.2)

-- Before the walk and after it.
abbrev Cleared : List ℕ → List ℕ → List ℕ → Type 0
Cleared s old clean = clean ≡ placed (entries 0 (options_in s) []) old

module _ (s : List ℕ) (h : is_sheet s ≡ true) (old : List ℕ) {clean : List ℕ} (cleared : Cleared s old clean) where
  pub begun : clean ≡ placed (fresh_from s (used_in s)) old
  begun = cleared ∙ ap (λ new. placed new old) (fresh_none s h)

pub ended : (s old : List ℕ) {index : List ℕ} → index ≡ placed (fresh_from s 0) old → index ≡ placed (fresh_count s) old
ended s old e = e ∙ ap (λ new. placed new old) (sym (fresh_whole s))
