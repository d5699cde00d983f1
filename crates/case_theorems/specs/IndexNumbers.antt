-- Document 02, U5: "option after option, two 16-bit numbers each: the count of its marks and the place of the first (65,535 if none)".
-- Cases have a few nodes; here the sheet is any, and so is the option.
use Rattle.std.specs.Prelude.{Bool, ◌⊎◌, ◌↔◌, ◌≡◌, ltb, get_or, take, drop}
use Rattle.std.proofs.Math.Bool.{true, false}
use mathlib.Core.List.Memᴰ
use mathlib.Core.List.{List, [], ◌∷◌, map, Memᴰ}
use Rattle.std.proofs.Math.Logic.{inl, inr, ⊎_elim}
use Rattle.std.proofs.Math.Path.{refl, sym}
use Rattle.std.proofs.Common.{ap, subst, ◌∙◌, add-zero, zero-add, ltb-true, ltb-false, length-drop, length-take-le, get_or-take, get_or-drop}
use Prim.Native.Nat.{ℕ, zero, suc, ◌+◌, ◌*◌, ◌≤◌, ◌<◌}
use native.Mathlib.Omega.{arith}
use Rattle.std.proofs.Math.ListN.{length}
use Rattle.model.specs.Base.{pick}
use Rattle.model.specs.Code.{Node, node_of}
use Rattle.model.specs.Sheet.{options_in, used_in, numbers_in, nodes_in}
use Rattle.calls.specs.Index.{names, mark_count, first_mark, entries, fresh_count}
use Rattle.theory_forms.specs.Logic.{pick_keeps}
use Rattle.case_theorems.specs.Places.{one_more}
use Rattle.case_theorems.specs.Marks.{IsMark, mark_exactly, not_mark}

-- Numbers that rise, so that none stands twice.
abbrev pub Rising : List ℕ → Type 0
Rising [] = Unit {0}
Rising (p ∷ ps) = ((q : ℕ) → Memᴰ q ps → p < q) × Rising ps

-- The two numbers of the option after k others.
entry :
    (v many : ℕ) (ns : List Node) (k : ℕ) →
    k < many →
    (get_or (entries v many ns) (2 * k) 0 ≡ mark_count (v + k) ns)
    × (get_or (entries v many ns) (2 * k + 1) 0 ≡ first_mark (v + k) 0 ns)
unfolding entries
entry v zero ns k h = absurd (omega arith)
entry v (suc many) ns zero h = (ap (λ w. mark_count w ns) (sym (add-zero v)), ap (λ w. first_mark w 0 ns) (sym (add-zero v)))
entry v (suc many) ns (suc k) h =
    let count : 2 * suc k ≡ suc (suc (2 * k)) = omega arith in
    let first : 2 * suc k + 1 ≡ suc (suc (2 * k + 1)) = omega arith in
    let other : suc v + k ≡ v + suc k = omega arith in
    rw (first, count, ← other) (entry (suc v) many ns k (omega arith))

-- Among numbers: the place of the first mark, no mark at all, and the places of all marks.
module _ (v : ℕ) (small : v < 4096) where
  abbrev First : List ℕ → ℕ → Type 0
  First xs p = (p < length xs) × IsMark v (get_or xs p 0) × ((q : ℕ) → q < p → IsMark v (get_or xs q 0) → ⊥)

  abbrev Without : List ℕ → Type 0
  Without xs = (q : ℕ) → q < length xs → IsMark v (get_or xs q 0) → ⊥

  -- What the search finds in numbers that stand from a place on.
  abbrev Found : ℕ → List ℕ → ℕ → Type 0
  Found place xs n = ((i : ℕ) × First xs i × (n ≡ place + i)) ⊎ (Without xs × (n ≡ 65535))

  found : (place : ℕ) (xs : List ℕ) → Found place xs (first_mark v place (map node_of xs))
  unfolding first_mark pick
  found place [] = inr ((λ q h m. absurd (omega arith)), refl)
  found place (x ∷ xs) = go (names v (node_of x)) refl (found (suc place) xs)
    where
      go : (b : Bool) {n : ℕ} → names v (node_of x) ≡ b → Found (suc place) xs n → Found place (x ∷ xs) (pick b place n)
      go true e f =
          inl (0, (omega arith, (mark_exactly v x small).0 e, λ q h m. absurd (omega arith)), sym (add-zero place))
      go false e (inl w) =
          inl (
            suc w.0,
            (omega (arith, w.1.0), w.1.1, one_more (λ y. IsMark v y → ⊥) x xs w.0 (not_mark v x small e) w.1.2),
            omega (arith, w.2),
          )
      go false e (inr w) = inr (one_more (λ y. IsMark v y → ⊥) x xs (length xs) (not_mark v x small e) w.0, w.1)

  -- There is one first place at most.
  one_first : (xs : List ℕ) (i p : ℕ) → First xs i → First xs p → i ≡ p
  one_first xs i p f g = go (ltb i p) (ltb p i) refl refl
    where
      go : (a b : Bool) → ltb i p ≡ a → ltb p i ≡ b → i ≡ p
      go true b d e = absurd (g.2 i (ltb-true i p d) f.1)
      go false true d e = absurd (f.2 p (ltb-true p i e) g.1)
      go false false d e = omega (arith, ltb-false i p d, ltb-false p i e)

  -- The places of the marks, as they rise.
  places : ℕ → List ℕ → List ℕ
  places place [] = []
  places place (x ∷ xs) = pick (names v (node_of x)) (place ∷ places (suc place) xs) (places (suc place) xs)

  places_count : (place : ℕ) (xs : List ℕ) → mark_count v (map node_of xs) ≡ length (places place xs)
  unfolding places mark_count pick
  places_count place [] = refl
  places_count place (x ∷ xs) = go (names v (node_of x)) (places (suc place) xs) (places_count (suc place) xs)
    where
      go : (b : Bool) {n : ℕ} (ps : List ℕ) → n ≡ length ps → pick b 1 0 + n ≡ length (pick b (place ∷ ps) ps)
      go true ps e = omega arith
      go false ps e = omega arith

  -- What a place among them is: that of a mark.
  abbrev Place : ℕ → List ℕ → ℕ → Type 0
  Place place xs p = (i : ℕ) × (p ≡ place + i) × (i < length xs) × IsMark v (get_or xs i 0)

  later : (place x : ℕ) (xs : List ℕ) (p : ℕ) → Place (suc place) xs p → Place place (x ∷ xs) p
  later place x xs p w = (suc w.0, omega (arith, w.1), omega (arith, w.2), w.3)

  places_marks : (place : ℕ) (xs : List ℕ) (p : ℕ) → Memᴰ p (places place xs) → Place place xs p
  unfolding places pick
  places_marks place [] p m = absurd (Memᴰ.not-nil m)
  places_marks place (x ∷ xs) p m = go (names v (node_of x)) refl m (places_marks (suc place) xs p)
    where
      go :
          (b : Bool) {ps : List ℕ} →
          names v (node_of x) ≡ b →
          Memᴰ p (pick b (place ∷ ps) ps) →
          (Memᴰ p ps → Place (suc place) xs p) →
          Place place (x ∷ xs) p
      go true e m r =
          ⊎_elim
          (λ q. (0, q ∙ sym (add-zero place), omega arith, (mark_exactly v x small).0 e))
          (λ k. later place x xs p (r k))
          (Memᴰ.cases_cons m)
      go false e m r = later place x xs p (r m)

  marks_places : (place : ℕ) (xs : List ℕ) (i : ℕ) → i < length xs → IsMark v (get_or xs i 0) → Memᴰ (place + i) (places place xs)
  unfolding places pick
  marks_places place [] i h m = absurd (omega arith)
  marks_places place (x ∷ xs) zero h m = rw ((mark_exactly v x small).1 m) (Memᴰ.head (add-zero place))
  marks_places place (x ∷ xs) (suc i) h m =
      let e : place + suc i ≡ suc place + i = omega arith in
      let rest = marks_places (suc place) xs i (omega arith) m in
      rw e (pick_keeps (Memᴰ (suc place + i)) (names v (node_of x)) (Memᴰ.tail rest) rest)

  places_rise : (place : ℕ) (xs : List ℕ) → Rising (places place xs)
  unfolding places
  places_rise place [] = tt
  places_rise place (x ∷ xs) =
      let rest = places_rise (suc place) xs in
      pick_keeps Rising (names v (node_of x)) ((λ q m. omega (arith, (places_marks (suc place) xs q m).1)), rest) rest

-- Node p of the sheet ("nodes counted from the root, 0", after its first two numbers) is a mark of option v.
abbrev pub MarksAt : List ℕ → ℕ → ℕ → Type 0
MarksAt s v p = IsMark v (get_or s (2 + p) 0)

-- It is the first one: no node before it is a mark of the option.
abbrev pub FirstMark : List ℕ → ℕ → ℕ → Type 0
FirstMark s v p = (p < get_or s 1 0) × MarksAt s v p × ((q : ℕ) → q < p → MarksAt s v q → ⊥)

-- An option of a sheet, which begins with N and the count of its nodes, and has them all.
module _
    (s : List ℕ)
    (v : ℕ)
    (small : v < 4096)
    (known : v < get_or s 0 0)
    (whole : 2 + get_or s 1 0 ≤ length s)
    (few : get_or s 1 0 ≤ 65535)
  where
    abbrev nodes : List ℕ
    nodes = take (get_or s 1 0) (drop 2 s)

    many : length nodes ≡ get_or s 1 0
    many = length-take-le (get_or s 1 0) (drop 2 s) (omega (arith, length-drop 2 s))

    node_at : (p : ℕ) → p < get_or s 1 0 → get_or nodes p 0 ≡ get_or s (2 + p) 0
    node_at p h = get_or-take (get_or s 1 0) (drop 2 s) p 0 h ∙ get_or-drop 2 s p 0

    numbers :
        (get_or (fresh_count s) (2 * v) 0 ≡ mark_count v (map node_of nodes))
        × (get_or (fresh_count s) (2 * v + 1) 0 ≡ first_mark v 0 (map node_of nodes))
    unfolding fresh_count options_in nodes_in numbers_in used_in
    numbers = rw (zero-add v) at (entry 0 (options_in s) (nodes_in s) v known)

    first_in_sheet : (p : ℕ) → First v small nodes p ↔ FirstMark s v p
    first_in_sheet p = (
      λ f.
          let h : p < get_or s 1 0 = omega (arith, f.0, many) in
          (h, subst (IsMark v) (node_at p h) f.1, λ q l m. f.2 q l (subst (IsMark v) (sym (node_at q (omega arith))) m)),
      λ f.
          let h = f.0 in (
            omega (arith, many),
            subst (IsMark v) (sym (node_at p h)) f.1,
            λ q l m. f.2 q l (subst (IsMark v) (node_at q (omega arith)) m),
          ),
    )

    -- "The place of the first": the second number is p exactly if node p is the first mark of the option.
    pub first_exactly : (p : ℕ) → p < 65535 → (get_or (fresh_count s) (2 * v + 1) 0 ≡ p) ↔ FirstMark s v p
    first_exactly p below = (
      λ e. (first_in_sheet p).0 (to (found v small 0 nodes) (sym numbers.1 ∙ e)),
      λ f. numbers.1 ∙ from (found v small 0 nodes) ((first_in_sheet p).1 f),
    )
      where
        to : {n : ℕ} → Found v small 0 nodes n → n ≡ p → First v small nodes p
        to (inl w) e = subst (First v small nodes) (omega (arith, w.2)) w.1
        to (inr w) e = absurd (omega (arith, w.1))

        from : {n : ℕ} → Found v small 0 nodes n → First v small nodes p → n ≡ p
        from (inl w) f = w.2 ∙ zero-add w.0 ∙ one_first v small nodes w.0 p w.1 f
        from (inr w) f = absurd (w.0 p f.0 f.1)

    -- "65,535 if none": exactly if no node is a mark of the option.
    pub none_exactly :
        (get_or (fresh_count s) (2 * v + 1) 0 ≡ 65535) ↔ ((q : ℕ) → q < get_or s 1 0 → MarksAt s v q → ⊥)
    none_exactly = (
      λ e q h m. to (found v small 0 nodes) (sym numbers.1 ∙ e) q (omega (arith, many)) (subst (IsMark v) (sym (node_at q h)) m),
      λ n.
          numbers.1
          ∙ from (found v small 0 nodes)
          (λ q h m. let k : q < get_or s 1 0 = omega (arith, many) in n q k (subst (IsMark v) (node_at q k) m)),
    )
      where
        to : {n : ℕ} → Found v small 0 nodes n → n ≡ 65535 → Without v small nodes
        to (inl w) e = absurd (omega (arith, w.2, w.1.0, many))
        to (inr w) e = w.0

        from : {n : ℕ} → Found v small 0 nodes n → Without v small nodes → n ≡ 65535
        from (inl w) none = absurd (none w.0 w.1.0 w.1.1)
        from (inr w) none = w.1

    -- "The count of its marks": the first number is how many places there are in a rising list of just the places at which a mark of the
    -- option stands.
    pub counts_marks :
        (ps : List ℕ)
        × Rising ps
        × ((p : ℕ) → Memᴰ p ps ↔ ((p < get_or s 1 0) × MarksAt s v p))
        × (get_or (fresh_count s) (2 * v) 0 ≡ length ps)
    counts_marks = (
      places v small 0 nodes,
      places_rise v small 0 nodes,
      λ p. (to p, from p),
      numbers.0 ∙ places_count v small 0 nodes,
    )
      where
        to : (p : ℕ) → Memᴰ p (places v small 0 nodes) → (p < get_or s 1 0) × MarksAt s v p
        to p m =
            let w = places_marks v small 0 nodes p m in
            let h : p < get_or s 1 0 = omega (arith, w.1, w.2, many) in
            let here : w.0 ≡ p = omega (arith, w.1) in
            (h, subst (IsMark v) (ap (λ i. get_or nodes i 0) here ∙ node_at p h) w.3)

        from : (p : ℕ) → (p < get_or s 1 0) × MarksAt s v p → Memᴰ p (places v small 0 nodes)
        from p w =
            let h = w.0 in
            rw (← zero-add p) (marks_places v small 0 nodes p (omega (arith, many)) (subst (IsMark v) (sym (node_at p h)) w.1))
