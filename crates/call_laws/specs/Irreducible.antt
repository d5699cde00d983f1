-- Lists of nodes to which no rule applies: no node of the forest that they spell can be turned, at any depth.
use Rattle.std.specs.Prelude.{List, [], ◌∷◌, ◌++◌, ◌≡◌, ℕ, ◌+◌, length, drop}
use Rattle.std.proofs.Common.{append_assoc, append-nil, sym, ap, subst, ◌∙◌}
use Rattle.std.proofs.Math.Option.{none}
use Prim.{Unit, tt}
use Rattle.std.proofs.Math.Seq.{drop-append-add}
use Rattle.model.specs.Base.{then}
use Rattle.model.specs.Forest.{Conn, Forest, nil, lit, node, ◌⊕◌, size}
use Rattle.model.specs.Code.{Node, leaf, head, encode, decode}
use Rattle.model.specs.Rules.{row_of, turn, rewrite, NoRule}
use Rattle.theory_forms.specs.Logic.{then_then_none}
use Rattle.theory_forms.specs.Forests.{node-⊕}
use Rattle.theory_forms.specs.Codes.{decode-encode-++}
use Rattle.theory_rewriting.specs.Inversion.{step_none}

-- No rule turns a node of this connective with these children.
abbrev pub Still : Conn → Forest → Type 0
Still c k = (r i j : ℕ) → then (row_of r) (λ w. turn w c i j k) ≡ none

-- Every node of the forest is still, at any depth.
abbrev pub Irreducible : Forest → Type 0
Irreducible nil = Unit {0}
Irreducible (lit l f) = Irreducible f
Irreducible (node c k f) = Still c k × Irreducible k × Irreducible f

-- The same as `NoRule`, by the forest that is read from each place on.
abbrev Unchanged : List Node → Type 0
Unchanged ns = (r p i j : ℕ) → rewrite r i j (decode (drop p ns)) ≡ none

unchanged_after : (ns ms : List Node) → Unchanged (ns ++ ms) → Unchanged ms
unchanged_after ns ms h r p i j = ap (λ xs. rewrite r i j (decode xs)) (sym (drop-append-add ns ms p)) ∙ h r (length ns + p) i j

still_first : (c : Conn) (k f : Forest) → ((r i j : ℕ) → rewrite r i j (node c k f) ≡ none) → Still c k
unfolding rewrite
still_first c k f h r i j = then_then_none (row_of r) (λ w. turn w c i j k) (λ g. g ⊕ f) (h r i j)

irreducible_before : (f : Forest) (ns : List Node) → Unchanged (encode f ++ ns) → Irreducible f
unfolding encode
irreducible_before nil ns h = tt
irreducible_before (lit l f) ns h = irreducible_before f ns (unchanged_after (leaf l ∷ []) (encode f ++ ns) h)
irreducible_before (node c k f) ns h =
    let read : decode (encode (node c k f) ++ ns) ≡ node c k (f ⊕ decode ns) =
    decode-encode-++ (node c k f) ns ∙ node-⊕ c k f (decode ns) in
    let inner : Unchanged (encode k ++ (encode f ++ ns)) =
    subst Unchanged (append_assoc (encode k) (encode f) ns)
    (unchanged_after (head c (size k) ∷ []) ((encode k ++ encode f) ++ ns) h) in (
      still_first c k (f ⊕ decode ns) (λ r i j. ap (rewrite r i j) (sym read) ∙ h r 0 i j),
      irreducible_before k (encode f ++ ns) inner,
      irreducible_before f ns (unchanged_after (encode k) (encode f ++ ns) inner),
    )

-- Where no rule applies to a forest's code, every node of the forest is still.
pub irreducible : (f : Forest) → NoRule (encode f) → Irreducible f
irreducible f h = irreducible_before f [] (rw append-nil (λ r p i j. (step_none r p i j (encode f)).0 (h r p i j)))
