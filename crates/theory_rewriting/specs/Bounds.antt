-- Bounds of the numbers of a step: whatever applies is one of the seventeen rules, at a place and at children that are there.
use Rattle.std.specs.Prelude.{Bool, true, false, ◌&&◌, not, List, [], ◌∷◌, ◌≡◌, refl, ℕ, zero, suc, ◌≤◌, ◌<◌, eqb, leb, length, take, drop}
use Rattle.std.proofs.Common.{⊎_elim, sym, ap, ◌∙◌, arith, eqb-true}
use Rattle.std.proofs.Math.Option.{Option, none, some}
use Rattle.std.proofs.lemmas.Bool.{not-true}
use Rattle.model.specs.Base.{all, only_if, then}
use Rattle.model.specs.Literal.{Literal}
use Rattle.model.specs.Forest.{Conn, Forest, nil, lit, node, size, first, after, kids, literal_at, conjunction_at, constant_at, literals_only}
use Rattle.model.specs.Code.{Node, decode}
use Rattle.model.specs.Limits.{last_rule}
use Rattle.model.specs.Rules.{neutral, deciding, absorb, omit, unwrap, spread, lift, merge, factor, lower, drop_member, decided, decide, renamed, rename}
use Rattle.model.specs.Rules.{Family, absorbs, omits, unwraps, spreads, lifts, merges, factors, drops, decides, renames, change}
use Rattle.model.specs.Rules.{Row, table, row_of, is_rule, turn, rewrite, step}
use Rattle.theory_forms.specs.Logic.{true_false, none_some, and_split, is_some_of, only_some, first_some, then_some, only_then, none_if}
use Rattle.theory_forms.specs.Lists.{element_within, all_first, all_later}
use Rattle.theory_forms.specs.Forests.{size_after, literal_here, conjunction_here, constant_here}
use Rattle.theory_rewriting.specs.Inversion.{Rewritten, rewritten}

-- Child i is there, and j is 0 or an inner child that is there.
abbrev Inside : ℕ → ℕ → Forest → Type 0
Inside i j k = (i < size k) × (j < suc (size (kids (after i k))))

-- Rules 16 and 17 are about the node alone, and name no child; every other family names one.
names_child : Family → Bool
names_child absorbs = true
names_child omits = true
names_child unwraps = true
names_child spreads = true
names_child lifts = true
names_child merges = true
names_child factors = true
names_child drops = true
names_child decides = false
names_child renames = false

child_inside : (i : ℕ) (k : Forest) {n : ℕ} → size (after i k) ≡ suc n → i < size k
child_inside i k e = omega (arith, size_after i k)

zero_inside : (i j : ℕ) (k : Forest) {n : ℕ} → eqb j 0 ≡ true → size (after i k) ≡ suc n → Inside i j k
zero_inside i j k t e = (child_inside i k e, omega (arith, eqb-true j 0 t))

constant_inside :
    (c : Conn) (i j : ℕ) (k a : Forest) {g : Forest} →
    only_if (eqb j 0 && constant_at c (after i k)) a ≡ some g →
    Inside i j k
unfolding size
constant_inside c i j k a e =
    let t = and_split (eqb j 0) (constant_at c (after i k)) (only_some _ a e).0 in
    zero_inside i j k t.0 (ap size (constant_here c i k t.1))

inner_inside :
    (i j : ℕ) (k : Forest) (h : Forest → Literal → Option Forest) {g : Forest} →
    then (conjunction_at (after i k)) (λ inner. then (literal_at (after j inner)) (h inner)) ≡ some g →
    Inside i j k
unfolding size kids
inner_inside i j k h e =
    let w = then_some (conjunction_at (after i k)) _ e in
    let v = then_some (literal_at (after j w.0)) _ w.2 in
    let outer = conjunction_here i k w.1 in
    let inner = child_inside j w.0 (ap size (literal_here j w.0 v.1)) in
    (child_inside i k (ap size outer), omega (arith, ap (λ f. size (kids f)) outer))

change_inside :
    (w : Family) (c : Conn) (i j : ℕ) (k : Forest) {g : Forest} →
    names_child w ≡ true →
    change w c i j k ≡ some g →
    Inside i j k
unfolding names_child change absorb omit unwrap spread lift merge factor lower drop_member size
change_inside absorbs c i j k n e = constant_inside (deciding c) i j k _ e
change_inside omits c i j k n e = constant_inside (neutral c) i j k _ e
change_inside unwraps c i j k n e =
    let t = and_split (eqb i 0 && eqb j 0) (eqb (size k) 1) (only_some _ k e).0 in
    let s = and_split (eqb i 0) (eqb j 0) t.0 in
    let zero_i = eqb-true i 0 s.0 in
    zero_inside i j k {n = 0} s.1 (size_after i k ∙ omega (arith, eqb-true (size k) 1 t.1))
change_inside spreads c i j k n e =
    let w = then_some (literal_at (after i k)) _ e in
    zero_inside i j k (and_split (eqb j 0) _ (only_some _ _ w.2).0).0 (ap size (literal_here i k w.1))
change_inside lifts c i j k n e = inner_inside i j k _ e
change_inside merges c i j k n e =
    let w = then_some (conjunction_at (after i k)) _ e in
    let t = and_split (eqb j 0 && literals_only (first i k)) _ (only_some _ _ w.2).0 in
    zero_inside i j k (and_split (eqb j 0) _ t.0).0 (ap size (conjunction_here i k w.1))
change_inside factors c i j k n e = inner_inside i j k _ e
change_inside drops c i j k n e =
    ⊎_elim
    (constant_inside (neutral c) i j k _)
    (constant_inside (deciding c) i j k _)
    (first_some (omit c i j k) (lower c i j k) e)
change_inside decides c i j k n e = true_false (sym n)
change_inside renames c i j k n e = true_false (sym n)

both_zero : (i j : ℕ) → (eqb i 0 && eqb j 0) ≡ true → (i ≡ 0) × (j ≡ 0)
both_zero i j t = let s = and_split (eqb i 0) (eqb j 0) t in (eqb-true i 0 s.0, eqb-true j 0 s.1)

change_alone : (w : Family) (c : Conn) (i j : ℕ) (k : Forest) {g : Forest} → names_child w ≡ false → change w c i j k ≡ some g → (i ≡ 0) × (j ≡ 0)
unfolding names_child change decide rename
change_alone absorbs c i j k n e = true_false n
change_alone omits c i j k n e = true_false n
change_alone unwraps c i j k n e = true_false n
change_alone spreads c i j k n e = true_false n
change_alone lifts c i j k n e = true_false n
change_alone merges c i j k n e = true_false n
change_alone factors c i j k n e = true_false n
change_alone drops c i j k n e = true_false n
change_alone decides c i j k n e = both_zero i j (only_then (eqb i 0 && eqb j 0) k (decided c) e).0
change_alone renames c i j k n e = both_zero i j (only_then (eqb i 0 && eqb j 0) k (renamed c) e).0

row_within : (r : ℕ) {w : Row} → row_of r ≡ some w → (1 ≤ r) × (r ≤ last_rule)
unfolding row_of table
row_within zero e = none_some e
row_within (suc r) e = (omega arith, element_within table r e)

-- The rules up to 15 name a child; those up to 14 are for the kinds of document 01, and the others for kind 6.
rows_name : all (λ w. names_child w.family) (take 15 table) ≡ true
unfolding all table names_child
rows_name = refl

row_names : (r : ℕ) {w : Row} → row_of r ≡ some w → r ≤ 15 → names_child w.family ≡ true
unfolding row_of
row_names zero e l = none_some e
row_names (suc r) e l = all_first (λ w. names_child w.family) 15 table r rows_name (omega arith) e

rows_low : all (λ w. leb w.kind 5) (take 14 table) ≡ true
unfolding all table
rows_low = refl

pub row_low : (r : ℕ) {w : Row} → row_of r ≡ some w → r ≤ 14 → leb w.kind 5 ≡ true
unfolding row_of
row_low zero e l = none_some e
row_low (suc r) e l = all_first (λ w. leb w.kind 5) 14 table r rows_low (omega arith) e

rows_six : all (λ w. eqb w.kind 6) (drop 14 table) ≡ true
unfolding all table
rows_six = refl

pub row_six : (r : ℕ) {w : Row} → row_of r ≡ some w → 15 ≤ r → eqb w.kind 6 ≡ true
unfolding row_of
row_six zero e l = none_some e
row_six (suc r) e l = all_later (λ w. eqb w.kind 6) 14 table r rows_six (omega arith) e

-- A number that is a rule's, by its row.
pub rule_within : (r : ℕ) → is_rule r ≡ true → (1 ≤ r) × (r ≤ last_rule)
unfolding is_rule
rule_within r h = row_within r (is_some_of (row_of r) h).1

-- A rule that applies is one of the seventeen, there is a tree, and neither i nor j is past the number of children there.
pub record Within (r i j : ℕ) (f : Forest) : Type 0 where
  pub rule_low : 1 ≤ r
  pub rule_high : r ≤ last_rule
  pub tree : 1 ≤ size f
  pub child : i < suc (size (kids f))
  pub inner : j < suc (size (kids (after i (kids f))))

-- What a rule did, by its family: it named a child that is there, or it is about the node alone.
rewrite_inside : (r i j : ℕ) (f : Forest) {g : Forest} (w : Rewritten r i j f g) → names_child w.row.family ≡ true → Inside i j (kids f)
unfolding turn kids
rewrite_inside r i j f w n =
    rw w.was (change_inside w.row.family w.conn i j w.children n (only_then _ w.children _ w.turned).1)

rewrite_alone : (r i j : ℕ) (f : Forest) {g : Forest} (w : Rewritten r i j f g) → names_child w.row.family ≡ false → (i ≡ 0) × (j ≡ 0)
unfolding turn
rewrite_alone r i j f w n =
    change_alone w.row.family w.conn i j w.children n (only_then _ w.children _ w.turned).1

pub rewrite_within : (r i j : ℕ) (f : Forest) {g : Forest} → rewrite r i j f ≡ some g → Within r i j f
unfolding size
rewrite_within r i j f e =
    let w = rewritten r i j f e in
    let rule = row_within r w.of_rule in
    let within = go w (names_child w.row.family) refl in
    record { rule_low = rule.0; rule_high = rule.1; tree = omega (arith, ap size w.was); child = within.0; inner = within.1 }
  where
    go :
        {g : Forest} (w : Rewritten r i j f g) (b : Bool) →
        names_child w.row.family ≡ b →
        (i < suc (size (kids f))) × (j < suc (size (kids (after i (kids f)))))
    go w true e = let there = rewrite_inside r i j f w e in (omega arith, there.1)
    go w false e = let none = rewrite_alone r i j f w e in (omega arith, omega arith)

-- Every rule up to 15 needs a child, and its i names one.
pub child_needed : (r i j : ℕ) (f : Forest) {g : Forest} → r ≤ 15 → rewrite r i j f ≡ some g → i < size (kids f)
child_needed r i j f l e =
    let w = rewritten r i j f e in (rewrite_inside r i j f w (row_names r w.of_rule l)).0

-- So past the last child none of them applies, and none to a node without children.
pub past_last : (r i j : ℕ) (f : Forest) → r ≤ 15 → size (kids f) ≤ i → rewrite r i j f ≡ none
past_last r i j f l h = none_if (rewrite r i j f) (λ g e. omega (arith, child_needed r i j f l e))

-- Rules 16 and 17 have use for no i and j but 0.
rows_alone : all (λ w. not (names_child w.family)) (drop 15 table) ≡ true
unfolding all table names_child
rows_alone = refl

row_alone : (r : ℕ) {w : Row} → row_of r ≡ some w → 16 ≤ r → names_child w.family ≡ false
unfolding row_of
row_alone zero e l = none_some e
row_alone (suc r) {w} e l =
    not-true (names_child w.family) (all_later (λ v. not (names_child v.family)) 15 table r rows_alone (omega arith) e)

pub node_alone : (r i j : ℕ) (f : Forest) {g : Forest} → 16 ≤ r → rewrite r i j f ≡ some g → (i ≡ 0) × (j ≡ 0)
node_alone r i j f l e = let w = rewritten r i j f e in rewrite_alone r i j f w (row_alone r w.of_rule l)

-- A place with a tree is one of the nodes; and where there are children there is a tree.
pub tree_there : (f : Forest) {i : ℕ} → i < size (kids f) → 1 ≤ size f
unfolding size kids
tree_there nil h = absurd (omega arith)
tree_there (lit l f) h = omega arith
tree_there (node c k f) h = omega arith

pub place_within : (p : ℕ) (ns : List Node) → 1 ≤ size (decode (drop p ns)) → p < length ns
unfolding size decode
place_within zero [] h = absurd (omega arith)
place_within (suc p) [] h = absurd (omega arith)
place_within zero (x ∷ ns) h = omega arith
place_within (suc p) (x ∷ ns) h = let l = place_within p ns h in omega arith

-- The place of a step is one of the nodes, and what stands there bounds the other numbers.
pub step_within :
    (r p i j : ℕ) (ns : List Node) {ms : List Node} →
    step r p i j ns ≡ some ms →
    (p < length ns) × Within r i j (decode (drop p ns))
unfolding step
step_within r p i j ns e =
    let h = rewrite_within r i j (decode (drop p ns)) (then_some (rewrite r i j (decode (drop p ns))) _ e).1 in
    (place_within p ns h.tree, h)

pub step_child :
    (r p i j : ℕ) (ns : List Node) {ms : List Node} →
    r ≤ 15 →
    step r p i j ns ≡ some ms →
    i < size (kids (decode (drop p ns)))
unfolding step
step_child r p i j ns l e =
    child_needed r i j (decode (drop p ns)) l (then_some (rewrite r i j (decode (drop p ns))) _ e).1
