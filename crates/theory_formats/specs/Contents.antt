-- The contents of a book: pairs in line are exactly the places of bodies of such node counts, one after another, and cut the
-- numbers into these bodies.
use Rattle.std.specs.Prelude.{true, ◌&&◌, ◌≡◌, refl, ℕ, zero, suc, ◌+◌, ◌<◌, ◌≤◌, eqb, leb, length, take, drop}
use Rattle.std.proofs.Math.Bool.{and_assoc}
use mathlib.Core.List.{List, [], ◌∷◌, map, ◌++◌, flatten}
use Rattle.std.proofs.Common.{sym, ap, ap₂, ◌∙◌, add-zero, add_assoc, arith, eqb-true, eq-eqb, length-drop, take-append-drop, length-take-le}
use Rattle.model.specs.Base.{all}
use Rattle.model.specs.Book.{Entry, in_line, lined_up, cut}
use Rattle.theory_forms.specs.Logic.{and_split}
use Rattle.theory_formats.specs.Bytes.{Below, below_cons, flat}

-- The sum of a list of numbers.
unfoldable pub total : List ℕ → ℕ
total [] = zero
total (k ∷ ks) = k + total ks

-- The pairs of bodies of these node counts; the number is the sum of the counts before.
unfoldable pub places : ℕ → List ℕ → List Entry
places sum [] = []
places sum (k ∷ ks) = record { first = sum; count = k } ∷ places (sum + k) ks

abbrev pub node_counts : List Entry → List ℕ
node_counts es = map (λ e. e.count) es

pub flat_places : (sum : ℕ) (ks : List ℕ) → flat (places sum ks) ≡ lined_up sum ks
unfolding places lined_up flat
flat_places sum [] = refl
flat_places sum (k ∷ ks) = ap (λ xs. sum ∷ k ∷ xs) (flat_places (sum + k) ks)

pub length_places : (sum : ℕ) (ks : List ℕ) → length (places sum ks) ≡ length ks
unfolding places
length_places sum [] = refl
length_places sum (k ∷ ks) = ap suc (length_places (sum + k) ks)

-- Places are in line where every count is at least 1 and the sum is the one due.
pub in_line_places : (t sum : ℕ) (ks : List ℕ) → in_line t sum (places sum ks) ≡ (all (leb 1) ks && eqb (sum + total ks) t)
unfolding in_line places all total
in_line_places t sum [] = rw (add-zero sum)
in_line_places t sum (k ∷ ks) =
    rw (eq-eqb sum sum refl, in_line_places t (sum + k) ks, add_assoc sum k (total ks)) (sym (and_assoc (leb 1 k) _ _))

in_line_are : (t sum : ℕ) (es : List Entry) → in_line t sum es ≡ true → es ≡ places sum (node_counts es)
unfolding in_line places
in_line_are t sum [] h = refl
in_line_are t sum (e ∷ es) h =
    let s = and_split (eqb e.first sum && leb 1 e.count) (in_line t (sum + e.count) es) h in
    ap₂ (λ a r. record { first = a; count = e.count } ∷ r)
    (eqb-true e.first sum (and_split (eqb e.first sum) (leb 1 e.count) s.0).0)
    (in_line_are t (sum + e.count) es s.1)

-- And pairs in line are the places that their counts give, every count is at least 1, and the sum is the one due.
pub in_line_means :
    (t sum : ℕ) (es : List Entry) →
    in_line t sum es ≡ true →
    (es ≡ places sum (node_counts es)) × (all (leb 1) (node_counts es) ≡ true) × (sum + total (node_counts es) ≡ t)
in_line_means t sum es h =
    let ks : List ℕ = node_counts es in
    let are = in_line_are t sum es h in
    let s = and_split (all (leb 1) ks) (eqb (sum + total ks) t) (sym (in_line_places t sum ks) ∙ ap (in_line t sum) (sym are) ∙ h) in
    (are, s.0, eqb-true (sum + total ks) t s.1)

-- The contents cut numbers into as many parts. Where there are numbers enough, the parts are as long as the counts say; where
-- there are just enough, the parts put together are the numbers again.
pub length_cut : (es : List Entry) (xs : List ℕ) → length (cut es xs) ≡ length es
unfolding cut
length_cut [] xs = refl
length_cut (e ∷ es) xs = ap suc (length_cut es (drop e.count xs))

pub lengths_cut : (es : List Entry) (xs : List ℕ) → total (node_counts es) ≤ length xs → map length (cut es xs) ≡ node_counts es
unfolding total cut
lengths_cut [] xs h = refl
lengths_cut (e ∷ es) xs h =
    ap₂ ◌∷◌ (length-take-le e.count xs (omega arith)) (lengths_cut es (drop e.count xs) (omega (arith, length-drop e.count xs)))

pub flatten_cut : (es : List Entry) (xs : List ℕ) → total (node_counts es) ≡ length xs → flatten (cut es xs) ≡ xs
unfolding total cut flatten
flatten_cut [] [] h = refl
flatten_cut [] (x ∷ xs) h = absurd (omega arith)
flatten_cut (e ∷ es) xs h =
    ap (λ r. take e.count xs ++ r) (flatten_cut es (drop e.count xs) (omega (arith, length-drop e.count xs)))
    ∙ take-append-drop e.count xs

-- Every number of the contents is below what the sum of the counts is below.
pub below_places : (m sum : ℕ) (ks : List ℕ) → sum + total ks < m → Below m (lined_up sum ks)
unfolding lined_up total
below_places m sum [] h = λ i. omega arith
below_places m sum (k ∷ ks) h =
    below_cons {x = sum} (k ∷ lined_up (sum + k) ks)
    (omega arith)
    (below_cons {x = k} (lined_up (sum + k) ks) (omega arith) (below_places m (sum + k) ks (omega arith)))
