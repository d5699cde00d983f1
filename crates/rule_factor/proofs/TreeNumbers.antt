-- The numbers of trees, part by part.
use mathlib.Core.Bool.{true}
use mathlib.Core.List.{List, ◌∷◌, ◌++◌, map, map-append, append_assoc}
use mathlib.Core.Path.{◌≡◌, refl, sym, ap, ◌∙◌}
use Prim.Native.Nat.{ℕ, suc, ◌+◌}
use native.Mathlib.Nat.{add-zero}
use lib.ListN.{length, length-map}
use Rattle.model.specs.Literal.{Literal}
use Rattle.model.specs.Forest.{Conn, Forest, lit, node, ◌⊕◌, size}
use Rattle.model.specs.Code.{leaf, head, encode, number_of}
use Rattle.theory_forms.specs.Codes.{encode-⊕}
use Rattle.theory_forms.specs.Numbers.{fits}
use Rattle.theory_reading.specs.Spans.{span, span_none, span_leaf, span_head, span_code}
use Rattle.theory_reading.specs.Flat.{Fits, fits-⊕, fits_tree}
use Rattle.theory_rewriting.specs.Children.{code}

-- What fits, part by part.
pub fits_parts : (c : Conn) (k f : Forest) → Fits (node c k f) → (fits (head c (size k)) ≡ true) × Fits k × Fits f
fits_parts c k f h = let s = fits_tree c k f h in let t = fits-⊕ k f s.1 in (s.0, t.0, t.1)

-- The numbers of two forests side by side, and of a tree and those after it.
pub code-⊕ : (f g : Forest) → code (f ⊕ g) ≡ code f ++ code g
code-⊕ f g = ap (map number_of) (encode-⊕ f g) ∙ map-append number_of (encode f) (encode g)

pub code_lit : (x : Literal) (f : Forest) → code (lit x f) ≡ number_of (leaf x) ∷ code f
unfolding encode
code_lit x f = refl

pub code_node : (c : Conn) (k f : Forest) → code (node c k f) ≡ number_of (head c (size k)) ∷ code k ++ code f
unfolding encode
code_node c k f = ap (λ xs. number_of (head c (size k)) ∷ xs) (map-append number_of (encode k) (encode f))

-- The same before other numbers, and how many the first tree takes.
pub lit_before : (x : Literal) (f : Forest) (r : List ℕ) → code (lit x f) ++ r ≡ number_of (leaf x) ∷ (code f ++ r)
lit_before x f r = ap (λ t. t ++ r) (code_lit x f)

pub node_before : (c : Conn) (k f : Forest) (r : List ℕ) → code (node c k f) ++ r ≡ number_of (head c (size k)) ∷ (code k ++ (code f ++ r))
node_before c k f r =
    ap (λ t. t ++ r) (code_node c k f) ∙ ap (λ t. number_of (head c (size k)) ∷ t) (append_assoc (code k) (code f) r)

pub lit_span : (x : Literal) (s : List ℕ) → fits (leaf x) ≡ true → span 1 (number_of (leaf x) ∷ s) ≡ 1
lit_span x s h = span_leaf x 0 s h ∙ ap suc (span_none s)

pub node_span :
    (c : Conn) (k : Forest) (s : List ℕ) →
    fits (head c (size k)) ≡ true →
    Fits k →
    span 1 (number_of (head c (size k)) ∷ (code k ++ s)) ≡ suc (length (code k))
node_span c k s h w =
    span_head c (size k) 0 (code k ++ s) h
    ∙ ap suc (span_code k 0 s w ∙ ap (λ n. length (encode k) + n) (span_none s) ∙ add-zero (length (encode k)) ∙ sym (length-map (encode k) number_of))
