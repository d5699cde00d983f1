-- The entries of an index: what one node more does to them, before all others or after them.
use Rattle.std.specs.Prelude.{Bool, List, [], ◌∷◌, ◌++◌, ◌≡◌}
use Rattle.std.proofs.Math.Bool.{true, false}
use Rattle.std.proofs.Math.Path.{refl, sym, ap}
use Rattle.std.proofs.Common.{ap₂, ◌∙◌, add-zero, zero-add}
use Prim.Native.Nat.{ℕ, zero, suc, ◌+◌, ◌*◌, ◌≤◌, ◌<◌}
use native.Mathlib.Omega.{arith}
use borrow.Author.Tests.{eqb-true, eq-eqb, ne_eqb}
use Rattle.std.proofs.Math.Dec.{eqb}
use Rattle.std.proofs.Math.ListN.{length, get_or, set, drop, length-set, get_or-append}
use Rattle.std.proofs.Math.Seq.{set-append_left, set-set, get_or-set_same, get_or-set_other}
use Rattle.std.proofs.lemmas.List.{set_comm}
use Rattle.model.specs.Base.{pick, placed}
use Rattle.model.specs.Literal.{Literal, option}
use Rattle.model.specs.Forest.{Conn}
use Rattle.model.specs.Code.{Node, leaf, head}
use Rattle.model.specs.Sheet.{options_in, nodes_in}
use Rattle.calls.specs.Index.{names, mark_count, no_place, first_mark, entries, fresh_count}
use Rattle.calls.specs.Conditions.{index_length}

-- The entries of nodes that stand from a place on.
unfoldable pub entries_from : ℕ → ℕ → ℕ → List Node → List ℕ
entries_from place v zero ns = []
entries_from place v (suc many) ns = mark_count v ns ∷ first_mark v place ns ∷ entries_from place (suc v) many ns

pub from_root : (v many : ℕ) (ns : List Node) → entries v many ns ≡ entries_from 0 v many ns
unfolding entries entries_from
from_root v zero ns = refl
from_root v (suc many) ns = ap (λ r. mark_count v ns ∷ first_mark v 0 ns ∷ r) (from_root (suc v) many ns)

-- Two numbers an option, and which they are.
pub entries_length : (place v many : ℕ) (ns : List Node) → length (entries_from place v many ns) ≡ 2 * many
unfolding entries_from
entries_length place v zero ns = refl
entries_length place v (suc many) ns = omega (arith, entries_length place (suc v) many ns)

pub fresh_length : (s : List ℕ) → length (fresh_count s) ≡ index_length s
unfolding fresh_count
fresh_length s = ap length (from_root 0 (options_in s) (nodes_in s)) ∙ entries_length 0 0 (options_in s) (nodes_in s)

-- The numbers of the option after so many others.
next_count : (k : ℕ) → 2 * suc k ≡ suc (suc (2 * k))
next_count k = omega arith

next_first : (k : ℕ) → 2 * suc k + 1 ≡ suc (suc (2 * k + 1))
next_first k = omega arith

pub count_at :
    (place v many : ℕ) (ns : List Node) (k : ℕ) →
    k < many →
    get_or (entries_from place v many ns) (2 * k) 0 ≡ mark_count (v + k) ns
unfolding entries_from
count_at place v zero ns k h = absurd (omega arith)
count_at place v (suc many) ns zero h = ap (λ w. mark_count w ns) (sym (add-zero v))
count_at place v (suc many) ns (suc k) h =
    let e : suc v + k ≡ v + suc k = omega arith in
    rw (next_count k) (count_at place (suc v) many ns k (omega arith) ∙ ap (λ w. mark_count w ns) e)

pub first_at :
    (place v many : ℕ) (ns : List Node) (k : ℕ) →
    k < many →
    get_or (entries_from place v many ns) (2 * k + 1) 0 ≡ first_mark (v + k) place ns
unfolding entries_from
first_at place v zero ns k h = absurd (omega arith)
first_at place v (suc many) ns zero h = ap (λ w. first_mark w place ns) (sym (add-zero v))
first_at place v (suc many) ns (suc k) h =
    let e : suc v + k ≡ v + suc k = omega arith in
    rw (next_first k) (first_at place (suc v) many ns k (omega arith) ∙ ap (λ w. first_mark w place ns) e)

-- One option more.
pub entries_more :
    (place v many : ℕ) (ns : List Node) →
    entries_from place v (suc many) ns
    ≡ entries_from place v many ns ++ (mark_count (v + many) ns ∷ first_mark (v + many) place ns ∷ [])
unfolding entries_from
entries_more place v zero ns = let e : v + 0 ≡ v = omega arith in rw e
entries_more place v (suc many) ns =
    let e : suc v + many ≡ v + suc many = omega arith in
    ap (λ r. mark_count v ns ∷ first_mark v place ns ∷ r) (rw e at (entries_more place (suc v) many ns))

-- Counts are at most the number of nodes.
pub count_within : (v : ℕ) (ns : List Node) → mark_count v ns ≤ length ns
unfolding mark_count pick
count_within v [] = omega arith
count_within v (x ∷ ns) = go (names v x) (count_within v ns)
  where
    go : (b : Bool) → mark_count v ns ≤ length ns → pick b 1 0 + mark_count v ns ≤ suc (length ns)
    go true h = omega arith
    go false h = omega arith

-- A node that is no mark changes no entry.
pub head_before :
    (place v many : ℕ) (c : Conn) (m : ℕ) (ns : List Node) →
    entries_from place v many (head c m ∷ ns) ≡ entries_from (suc place) v many ns
unfolding entries_from mark_count first_mark names pick
head_before place v zero c m ns = refl
head_before place v (suc many) c m ns =
    ap₂ (λ k r. k ∷ first_mark v (suc place) ns ∷ r) (zero-add (mark_count v ns)) (head_before place (suc v) many c m ns)

-- The two numbers of an option written.
unfoldable pub entry_set : ℕ → ℕ → ℕ → List ℕ → List ℕ
entry_set v count first index = set (set index (2 * v) count) (2 * v + 1) first

-- So many marks more of an option, from a place on, before all others: its count rises by as many, and that place is the first.
unfoldable pub mentioned_first : ℕ → ℕ → ℕ → List ℕ → List ℕ
mentioned_first v marks place index = entry_set v (get_or index (2 * v) 0 + marks) place index

-- A mark more of an option, at a place after all others: its count rises by one; where there was no first place it is this one.
unfoldable pub mentioned_last : ℕ → ℕ → List ℕ → List ℕ
mentioned_last v place index =
    entry_set v
    (get_or index (2 * v) 0 + 1)
    (pick (eqb (get_or index (2 * v + 1) 0) no_place) place (get_or index (2 * v + 1) 0))
    index

-- Marks of one option before marks of the same: they are counted together.
module _ (v : ℕ) (index : List ℕ) (within : 2 * v < length index) where
  entry_over : (count first count' first' : ℕ) → entry_set v count first (entry_set v count' first' index) ≡ entry_set v count first index
  unfolding entry_set
  entry_over count first count' first' =
      let counted = set index (2 * v) count' in
      ap (λ xs. set xs (2 * v + 1) first) (set_comm counted (2 * v + 1) (2 * v) first' count (λ e. omega arith))
      ∙ set-set (set counted (2 * v) count) (2 * v + 1) first' first
      ∙ ap (λ xs. set xs (2 * v + 1) first) (set-set index (2 * v) count' count)

  count_set : (count first : ℕ) → get_or (entry_set v count first index) (2 * v) 0 ≡ count
  unfolding entry_set
  count_set count first =
      get_or-set_other (set index (2 * v) count) (2 * v + 1) (2 * v) first 0 (λ e. omega arith)
      ∙ get_or-set_same index (2 * v) count 0 within

  pub first_over :
      (marks place marks' place' : ℕ) →
      mentioned_first v marks place (mentioned_first v marks' place' index) ≡ mentioned_first v (marks' + marks) place index
  unfolding mentioned_first
  first_over marks place marks' place' =
      let held = get_or index (2 * v) 0 in
      let sum : held + marks' + marks ≡ held + (marks' + marks) = omega arith in
      rw (count_set (held + marks') place')
      (entry_over (held + marks' + marks) place (held + marks') place' ∙ ap (λ n. entry_set v n place index) sum)

-- An option after the first.
entry_later : (k count first a b : ℕ) (xs : List ℕ) → entry_set (suc k) count first (a ∷ b ∷ xs) ≡ a ∷ b ∷ entry_set k count first xs
unfolding entry_set
entry_later k count first a b xs = rw (next_first k, next_count k)

first_later :
    (k marks place a b : ℕ) (xs : List ℕ) →
    mentioned_first (suc k) marks place (a ∷ b ∷ xs) ≡ a ∷ b ∷ mentioned_first k marks place xs
unfolding mentioned_first
first_later k marks place a b xs = rw (next_count k) (entry_later k (get_or xs (2 * k) 0 + marks) place a b xs)

last_later : (k place a b : ℕ) (xs : List ℕ) → mentioned_last (suc k) place (a ∷ b ∷ xs) ≡ a ∷ b ∷ mentioned_last k place xs
unfolding mentioned_last
last_later k place a b xs = rw (next_first k, next_count k) (entry_later k (get_or xs (2 * k) 0 + 1) _ a b xs)

-- A mark before all others: its place is the first.
module _ (l : Literal) (place : ℕ) (ns : List Node) where
  named : (v : ℕ) → v ≡ option l → names v (leaf l) ≡ true
  unfolding names
  named v e = eq-eqb v (option l) e

  unnamed : (v : ℕ) → (v ≡ option l → ⊥) → names v (leaf l) ≡ false
  unfolding names
  unnamed v e = ne_eqb v (option l) e

  leaf_unlike : (v many : ℕ) → option l < v → entries_from place v many (leaf l ∷ ns) ≡ entries_from (suc place) v many ns
  unfolding entries_from mark_count first_mark pick
  leaf_unlike v zero h = refl
  leaf_unlike v (suc many) h =
      rw (unnamed v (λ e. omega arith))
      (ap₂ (λ k r. k ∷ first_mark v (suc place) ns ∷ r) (zero-add (mark_count v ns)) (leaf_unlike (suc v) many (omega arith)))

  pub leaf_before :
      (v many k : ℕ) →
      v + k ≡ option l →
      k < many →
      entries_from place v many (leaf l ∷ ns) ≡ mentioned_first k 1 place (entries_from (suc place) v many ns)
  unfolding entries_from mark_count first_mark pick mentioned_first entry_set
  leaf_before v zero k e h = absurd (omega arith)
  leaf_before v (suc many) zero e h =
      rw (named v (omega arith)) (ap₂ (λ n r. n ∷ place ∷ r) (omega arith) (leaf_unlike (suc v) many (omega arith)))
  leaf_before v (suc many) (suc k) e h =
      rw (unnamed v (λ same. omega arith))
      (ap₂
      (λ n r. n ∷ first_mark v (suc place) ns ∷ r)
      (zero-add (mark_count v ns))
      (leaf_before (suc v) many k (omega arith) (omega arith))
      ∙ sym (first_later k 1 place _ _ _))

-- Nodes after nodes: the counts add up; the first place is among the later ones where there is none before.
pub count_append : (v : ℕ) (xs ys : List Node) → mark_count v (xs ++ ys) ≡ mark_count v xs + mark_count v ys
unfolding mark_count
count_append v [] ys = sym (zero-add (mark_count v ys))
count_append v (x ∷ xs) ys = omega (arith, count_append v xs ys)

pub first_append :
    (v place : ℕ) (xs ys : List Node) →
    place + length xs ≤ no_place →
    first_mark v place (xs ++ ys)
    ≡ pick (eqb (first_mark v place xs) no_place) (first_mark v (place + length xs) ys) (first_mark v place xs)
unfolding first_mark pick
first_append v place [] ys h = ap (λ p. first_mark v p ys) (sym (add-zero place))
first_append v place (x ∷ xs) ys h =
    let e : suc place + length xs ≡ place + suc (length xs) = omega arith in
    go (names v x) (rw e at (first_append v (suc place) xs ys (omega arith)))
  where
    go :
        (b : Bool) →
        first_mark v (suc place) (xs ++ ys)
        ≡ pick (eqb (first_mark v (suc place) xs) no_place) (first_mark v (place + suc (length xs)) ys) (first_mark v (suc place) xs) →
        let first = pick b place (first_mark v (suc place) xs) in
        pick b place (first_mark v (suc place) (xs ++ ys)) ≡ pick (eqb first no_place) (first_mark v (place + suc (length xs)) ys) first
    go true e = rw (ne_eqb place no_place (λ same. omega arith))
    go false e = e

-- A mark after all others.
module _ (l : Literal) (place : ℕ) (ns : List Node) (fits : place + length ns ≤ no_place) where
  abbrev last : List Node
  last = leaf l ∷ []

  named_after : (v : ℕ) → v ≡ option l →
      (mark_count v (ns ++ last) ≡ mark_count v ns + 1)
      × (first_mark v place (ns ++ last) ≡ pick (eqb (first_mark v place ns) no_place) (place + length ns) (first_mark v place ns))
  unfolding mark_count first_mark pick
  named_after v e =
      let one = named l place ns v e in
      (count_append v ns last ∙ rw one, first_append v place ns last fits ∙ rw one)

  kept : (first : ℕ) → pick (eqb first no_place) no_place first ≡ first
  unfolding pick
  kept first = go (eqb first no_place) refl
    where
      go : (b : Bool) → eqb first no_place ≡ b → pick b no_place first ≡ first
      go true e = sym (eqb-true first no_place e)
      go false e = refl

  unnamed_after : (v : ℕ) → (v ≡ option l → ⊥) →
      (mark_count v (ns ++ last) ≡ mark_count v ns) × (first_mark v place (ns ++ last) ≡ first_mark v place ns)
  unfolding mark_count first_mark pick
  unnamed_after v e =
      let other = unnamed l place ns v e in
      let first = first_mark v place ns in
      (count_append v ns last ∙ rw other (add-zero (mark_count v ns)), first_append v place ns last fits ∙ rw other (kept first))

  unlike_after : (v many : ℕ) → option l < v → entries_from place v many (ns ++ last) ≡ entries_from place v many ns
  unfolding entries_from
  unlike_after v zero h = refl
  unlike_after v (suc many) h =
      let w = unnamed_after v (λ same. omega arith) in
      rw (w.0, w.1, unlike_after (suc v) many (omega arith))

  pub leaf_after :
      (v many k : ℕ) →
      v + k ≡ option l →
      k < many →
      entries_from place v many (ns ++ last) ≡ mentioned_last k (place + length ns) (entries_from place v many ns)
  unfolding entries_from mentioned_last entry_set
  leaf_after v zero k e h = absurd (omega arith)
  leaf_after v (suc many) zero e h =
      let w = named_after v (omega arith) in
      rw (w.0, w.1, unlike_after (suc v) many (omega arith))
  leaf_after v (suc many) (suc k) e h =
      let w = unnamed_after v (λ same. omega arith) in
      rw (w.0, w.1, leaf_after (suc v) many k (omega arith) (omega arith))
      (sym (last_later k (place + length ns) (mark_count v ns) (first_mark v place ns) (entries_from place (suc v) many ns)))

-- In an index the entries come first: a mark more changes the start of it, and leaves the rest.
module _ (new old : List ℕ) (v : ℕ) (within : 2 * v + 1 < length new) where
  read_placed : (i : ℕ) → i ≤ 2 * v + 1 → get_or (placed new old) i 0 ≡ get_or new i 0
  unfolding placed
  read_placed i h = get_or-append new (drop (length new) old) 0 i (omega arith)

  entry_placed : (count first : ℕ) → entry_set v count first (placed new old) ≡ placed (entry_set v count first new) old
  unfolding entry_set placed
  entry_placed count first =
      let rest = drop (length new) old in
      let counted = set new (2 * v) count in
      let long = length-set new (2 * v) count in
      ap (λ xs. set xs (2 * v + 1) first) (set-append_left new rest (2 * v) count (omega arith))
      ∙ set-append_left counted rest (2 * v + 1) first (omega (arith, long))
      ∙ ap (λ n. set counted (2 * v + 1) first ++ drop n old) (sym (length-set counted (2 * v + 1) first ∙ long))

  pub first_placed : (marks place : ℕ) → mentioned_first v marks place (placed new old) ≡ placed (mentioned_first v marks place new) old
  unfolding mentioned_first
  first_placed marks place = rw (read_placed (2 * v) (omega arith)) (entry_placed (get_or new (2 * v) 0 + marks) place)

  pub last_placed : (place : ℕ) → mentioned_last v place (placed new old) ≡ placed (mentioned_last v place new) old
  unfolding mentioned_last
  last_placed place =
      rw (read_placed (2 * v) (omega arith), read_placed (2 * v + 1) (omega arith)) (entry_placed (get_or new (2 * v) 0 + 1) _)
