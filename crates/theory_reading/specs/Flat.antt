-- A stretch of a sheet from a place on: the numbers of a forest, then zeros. Where its trees begin, and what stands there.
use Rattle.std.specs.Prelude.{true, List, ◌∷◌, ◌++◌, map, ◌≡◌, ℕ, ◌≤◌, length, take, drop, replicate}
use Rattle.std.proofs.lemmas.List.{map-append, length-map}
use Rattle.std.proofs.Common.{append_assoc, sym, ap, ◌∙◌, take_at, drop_at}
use Rattle.model.specs.Base.{all}
use Rattle.model.specs.Literal.{Literal}
use Rattle.model.specs.Forest.{Conn, Forest, lit, node, ◌⊕◌, size, first, after}
use Rattle.model.specs.Code.{leaf, head, encode, number_of}
use Rattle.theory_forms.specs.Logic.{and_split}
use Rattle.theory_forms.specs.Lists.{all_append}
use Rattle.theory_forms.specs.Forests.{first_after}
use Rattle.theory_forms.specs.Codes.{encode-⊕}
use Rattle.theory_forms.specs.Numbers.{fits}
use Rattle.theory_reading.specs.Spans.{span, span_first}

-- The numbers of a forest's code, then so many zeros.
unfoldable pub spell : Forest → ℕ → List ℕ
spell f z = map number_of (encode f) ++ replicate z 0

-- Every number of the code fits in its sixteen bits.
abbrev pub Fits : Forest → Type 0
Fits f = all fits (encode f) ≡ true

pub fits-⊕ : (f g : Forest) → Fits (f ⊕ g) → Fits f × Fits g
fits-⊕ f g h = and_split (all fits (encode f)) (all fits (encode g)) (sym (all_append fits (encode f) (encode g)) ∙ ap (all fits) (sym (encode-⊕ f g)) ∙ h)

pub fits_lit : (x : Literal) (f : Forest) → Fits (lit x f) → (fits (leaf x) ≡ true) × Fits f
unfolding encode all
fits_lit x f h = and_split (fits (leaf x)) (all fits (encode f)) h

pub fits_tree : (c : Conn) (k f : Forest) → Fits (node c k f) → (fits (head c (size k)) ≡ true) × Fits (k ⊕ f)
unfolding encode all
fits_tree c k f h =
    let s = and_split (fits (head c (size k))) (all fits (encode k ++ encode f)) h in
    (s.0, ap (all fits) (encode-⊕ k f) ∙ s.1)

-- Two forests side by side are spelled one after the other.
pub spell-⊕ : (f g : Forest) (z : ℕ) → spell (f ⊕ g) z ≡ map number_of (encode f) ++ spell g z
unfolding spell
spell-⊕ f g z =
    ap (λ ns. map number_of ns ++ replicate z 0) (encode-⊕ f g)
    ∙ ap (λ xs. xs ++ replicate z 0) (map-append number_of (encode f) (encode g))
    ∙ append_assoc (map number_of (encode f)) (map number_of (encode g)) (replicate z 0)

pub spell_node : (c : Conn) (k f : Forest) (z : ℕ) → spell (node c k f) z ≡ number_of (head c (size k)) ∷ spell (k ⊕ f) z
unfolding spell encode
spell_node c k f z = ap (λ ns. number_of (head c (size k)) ∷ map number_of ns ++ replicate z 0) (sym (encode-⊕ k f))

-- The first i trees take as many numbers as their code has, and after them stand the others.
module _ (i : ℕ) (f : Forest) (z : ℕ) (h : i ≤ size f) (w : Fits f) where
  pub start_at : span i (spell f z) ≡ length (encode (first i f))
  unfolding spell
  start_at = span_first i f (replicate z 0) h w

  split_at : spell f z ≡ map number_of (encode (first i f)) ++ spell (after i f) z
  split_at = ap (λ g. spell g z) (sym (first_after i f)) ∙ spell-⊕ (first i f) (after i f) z

  long : length (map number_of (encode (first i f))) ≡ span i (spell f z)
  long = length-map (encode (first i f)) number_of ∙ sym start_at

  pub drop_trees : drop (span i (spell f z)) (spell f z) ≡ spell (after i f) z
  drop_trees = ap (drop (span i (spell f z))) split_at ∙ drop_at (map number_of (encode (first i f))) (spell (after i f) z) (span i (spell f z)) long

  pub take_trees : take (span i (spell f z)) (spell f z) ≡ map number_of (encode (first i f))
  take_trees = ap (take (span i (spell f z))) split_at ∙ take_at (map number_of (encode (first i f))) (spell (after i f) z) (span i (spell f z)) long
