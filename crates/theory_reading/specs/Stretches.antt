-- The stretch of a sheet that a step rewrites: the forest that it spells, and what is known of it.
use Rattle.std.specs.Prelude.{Bool, true, List, [], ◌∷◌, ◌++◌, map, ◌≡◌, refl, ℕ, zero, suc, ◌+◌, ◌-◌, ◌≤◌, eqb, length, take, drop, replicate}
use Rattle.std.proofs.Common.{sym, ap, ap₂, ◌∙◌, arith, ne_eqb, length-drop, take-append-drop, drop-drop}
use Rattle.std.proofs.lemmas.List.{length-map, drop-append-le}
use Rattle.model.specs.Base.{pick, all}
use Rattle.model.specs.Limits.{sheet_room}
use Rattle.model.specs.Literal.{pos, neg}
use Rattle.model.specs.Forest.{and, or, root, at_least, Forest}
use Rattle.model.specs.Code.{Node, leaf, head, encode, decode, literals, weight, number, conn_kind, number_of, node_of}
use Rattle.model.specs.Book.{characters}
use Rattle.model.specs.Sheet.{used_in, numbers_in, nodes_in, rest_in}
use Rattle.theory_forms.specs.Logic.{and_split, pick_keeps}
use Rattle.theory_forms.specs.Codes.{decode_encode, encode_decode, trees_drop}
use Rattle.theory_forms.specs.Numbers.{fits, fits_node, node_number}
use Rattle.theory_forms.specs.Lists.{all_cut, all_from, all_map, map_back, map_drop}
use Rattle.theory_forms.specs.Shape.{shaped_trees}
use Rattle.theory_forms.specs.Sheets.{Formed}
use Rattle.theory_reading.specs.Flat.{spell, Fits}

-- The numbers before the zeros.
abbrev pub live : List ℕ → List ℕ
live = characters

-- The forest that they spell.
unfoldable pub forest_in : List ℕ → Forest
forest_in l = decode (map node_of (live l))

-- A forest spelled on so many numbers.
unfoldable pub spell_to : ℕ → Forest → List ℕ
spell_to n f = spell f (n - length (encode f))

-- What a step knows of the stretch that it rewrites.
pub record Stretch (l : List ℕ) : Type 0 where
  pub spelled : l ≡ spell_to (length l) (forest_in l)
  pub fitting : Fits (forest_in l)
  pub room : weight (encode (forest_in l)) ≤ length l
  pub short : length l ≤ sheet_room

number_positive : (x : Node) → number_of x ≡ 0 → ⊥
unfolding number_of number conn_kind
number_positive (leaf (pos v)) e = omega arith
number_positive (leaf (neg v)) e = omega arith
number_positive (head and k) e = omega arith
number_positive (head or k) e = omega arith
number_positive (head root k) e = omega arith
number_positive (head (at_least a) k) e = omega arith

pub live_zeros : (z : ℕ) → live (replicate z 0) ≡ []
unfolding characters pick
live_zeros zero = refl
live_zeros (suc z) = refl

pub live_short : (l : List ℕ) → length (live l) ≤ length l
unfolding characters pick
live_short [] = omega arith
live_short (x ∷ l) = let h = live_short l in pick_keeps (λ xs. length xs ≤ suc (length l)) (eqb x 0) {x = []} {y = x ∷ live l} (omega arith) (omega arith)

pub live_numbers : (ns : List Node) (z : ℕ) → live (map number_of ns ++ replicate z 0) ≡ map number_of ns
unfolding characters pick
live_numbers [] z = live_zeros z
live_numbers (x ∷ ns) z = rw (ne_eqb (number_of x) 0 (number_positive x)) (ap (λ xs. number_of x ∷ xs) (live_numbers ns z))

nodes_back : (ns : List Node) → all fits ns ≡ true → map node_of (map number_of ns) ≡ ns
nodes_back ns h = map_back number_of node_of fits node_number ns h

pub forest_spell : (f : Forest) (z : ℕ) → Fits f → forest_in (spell f z) ≡ f
unfolding forest_in spell
forest_spell f z h =
    ap (λ xs. decode (map node_of xs)) (live_numbers (encode f) z)
    ∙ ap decode (nodes_back (encode f) h)
    ∙ decode_encode f

-- A list that spells a forest is a stretch.
pub stretch_of :
    (f : Forest) (l : List ℕ) →
    l ≡ spell_to (length l) f →
    Fits f →
    weight (encode f) ≤ length l →
    length l ≤ sheet_room →
    Stretch l × (forest_in l ≡ f)
unfolding spell_to
stretch_of f l e h w s =
    let back : forest_in l ≡ f = ap forest_in e ∙ forest_spell f (length l - length (encode f)) h in
    (record { spelled = rw back e; fitting = rw back h; room = rw back w; short = s }, back)

drop_literals : (p : ℕ) (ns : List Node) → literals (drop p ns) ≤ literals ns
unfolding literals
drop_literals zero ns = omega arith
drop_literals (suc p) [] = omega arith
drop_literals (suc p) (leaf l ∷ ns) = let h = drop_literals p ns in omega arith
drop_literals (suc p) (head c k ∷ ns) = drop_literals p ns

-- Every number is that of a node that fits.
pub all_fit : (xs : List ℕ) → all fits (map node_of xs) ≡ true
all_fit xs = all_map node_of fits xs ∙ all_from (λ x. fits (node_of x)) xs (λ x m. fits_node x)

all_drop : {A : Type 0} (q : A → Bool) (p : ℕ) (xs : List A) → all q xs ≡ true → all q (drop p xs) ≡ true
all_drop q p xs h = (and_split (all q (take p xs)) (all q (drop p xs)) (sym (all_cut q p xs) ∙ h)).1

-- The numbers of a sheet from its root on.
pub stands : (s : List ℕ) → Formed s → drop 2 s ≡ map number_of (nodes_in s) ++ replicate (sheet_room - used_in s) 0
unfolding rest_in numbers_in
stands s facts =
    sym (take-append-drop (used_in s) (drop 2 s)) ∙ ap₂ ◌++◌ facts.numbers facts.rest

-- The stretch of a sheet from a place on.
pub sheet_stretch :
    (s : List ℕ) (p : ℕ) →
    Formed s →
    p ≤ used_in s →
    Stretch (drop (2 + p) s) × (forest_in (drop (2 + p) s) ≡ decode (drop p (nodes_in s)))
unfolding spell_to spell weight nodes_in numbers_in
sheet_stretch s p h le =
    let facts = h in
    let ns = nodes_in s in
    let ms = drop p ns in
    let t = trees_drop p ns (shaped_trees facts.shaped) in
    let code : encode (decode ms) ≡ ms = (encode_decode ms t.0 t.1).0 in
    let numbers : drop 2 s ≡ map number_of ns ++ replicate (sheet_room - used_in s) 0 = stands s facts in
    let count = facts.count in
    let within : p ≤ length (map number_of ns) = rw (length-map ns number_of) (omega arith) in
    let here : drop (2 + p) s ≡ map number_of ms ++ replicate (sheet_room - used_in s) 0 =
    sym (drop-drop p 2 s) ∙ ap (drop p) numbers ∙ drop-append-le p (map number_of ns) (replicate (sheet_room - used_in s) 0) within ∙ ap (λ xs. xs ++ replicate (sheet_room - used_in s) 0) (sym (map_drop number_of p ns)) in
    let long : length (drop (2 + p) s) ≡ sheet_room - p = length-drop (2 + p) s ∙ (let w = facts.whole in let u = facts.used in omega arith) in
    let few : length ms ≡ used_in s - p = length-drop p ns ∙ ap (λ k. k - p) count in
    let left : sheet_room - used_in s ≡ length (drop (2 + p) s) - length (encode (decode ms)) = let u = facts.used in omega (arith, ap length code) in
    let spelled : drop (2 + p) s ≡ spell_to (length (drop (2 + p) s)) (decode ms) =
    here ∙ ap₂ (λ xs z. map number_of xs ++ replicate z 0) (sym code) left in
    stretch_of (decode ms) (drop (2 + p) s) spelled (rw code (all_drop fits p ns (all_fit (numbers_in s)))) (rw code (let w = facts.weight in let d = drop_literals p ns in omega arith)) (omega arith)
