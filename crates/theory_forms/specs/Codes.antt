-- Code and decode are inverse; nodes read onto a forest; what `trees`, `literals` and `leasts` count.
use Rattle.std.specs.Prelude.{true, List, [], ◌∷◌, ◌++◌, ◌≡◌, refl, ℕ, zero, suc, ◌+◌, ◌-◌, ◌≤◌, leb, length, drop}
use Rattle.std.proofs.Common.{append_assoc, append-nil, sym, ap, ap₂, ◌∙◌, zero-add, add-zero, arith, leb-true, le-leb, eqb-true, length-append}
use Rattle.std.proofs.Math.Option.{Option, none, some}
use Rattle.model.specs.Base.{only_if, then}
use Rattle.model.specs.Forest.{Conn, Forest, nil, lit, node, ◌⊕◌, size, first, after, kids}
use Rattle.model.specs.Code.{Node, leaf, head, encode, push, decode, joined, trees, exactly_one, one_tree, literals, leasts}
use Rattle.theory_forms.specs.Logic.{true_false, some_inj, only_some, then_some}
use Rattle.theory_forms.specs.Forests.{⊕-nil, first-⊕, after-⊕, first_after, size_first, size_after}

pub encode-⊕ : (f g : Forest) → encode (f ⊕ g) ≡ encode f ++ encode g
unfolding encode ◌⊕◌
encode-⊕ nil g = refl
encode-⊕ (lit l f) g = ap (λ ns. leaf l ∷ ns) (encode-⊕ f g)
encode-⊕ (node c k f) g = ap (λ ns. head c (size k) ∷ encode k ++ ns) (encode-⊕ f g) ∙ ap (λ ns. head c (size k) ∷ ns) (sym (append_assoc (encode k) (encode f) (encode g)))

-- The code of a forest, followed by anything, is read as the forest followed by what comes after.
pub decode-encode-++ : (f : Forest) (ns : List Node) → decode (encode f ++ ns) ≡ f ⊕ decode ns
unfolding encode decode push ◌⊕◌
decode-encode-++ nil ns = refl
decode-encode-++ (lit l f) ns = ap (lit l) (decode-encode-++ f ns)
decode-encode-++ (node c k f) ns =
    let inner = decode-encode-++ k (encode f ++ ns) in
    let outer = decode-encode-++ f ns in
    let e : decode (encode k ++ encode f ++ ns) ≡ k ⊕ (f ⊕ decode ns) = ap decode (append_assoc (encode k) (encode f) ns) ∙ inner ∙ ap (λ g. k ⊕ g) outer in
    ap₂ (node c) (ap (first (size k)) e ∙ first-⊕ k _) (ap (after (size k)) e ∙ after-⊕ k _)

pub decode_encode : (f : Forest) → decode (encode f) ≡ f
unfolding decode
decode_encode f = ap decode (sym (append-nil (encode f))) ∙ decode-encode-++ f [] ∙ ⊕-nil f

-- Nodes read onto a forest that already stands to their right.
unfoldable pub decode_onto : List Node → Forest → Forest
decode_onto [] f = f
decode_onto (x ∷ ns) f = push x (decode_onto ns f)

pub decode-++ : (ms ns : List Node) → decode (ms ++ ns) ≡ decode_onto ms (decode ns)
unfolding decode decode_onto
decode-++ [] ns = refl
decode-++ (x ∷ ms) ns = ap (push x) (decode-++ ms ns)

-- The children of the first tree and the trees after it are what the node was read onto.
pub under : (x : Node) (f : Forest) → kids (push x f) ⊕ after 1 (push x f) ≡ f
unfolding push kids after ◌⊕◌
under (leaf l) f = refl
under (head c n) f = first_after n f

-- Whoever is counted by `trees` is the code of a forest of so many trees, and the other way round.
pub trees_encode : (f : Forest) (ns : List Node) (t : ℕ) → trees ns ≡ some t → trees (encode f ++ ns) ≡ some (size f + t)
unfolding encode trees then joined only_if size
trees_encode nil ns t e = e ∙ ap some (sym (zero-add t))
trees_encode (lit l f) ns t e = rw (trees_encode f ns t e) (ap some (omega arith))
trees_encode (node c k f) ns t e =
    let inner = trees_encode k (encode f ++ ns) (size f + t) (trees_encode f ns t e) in
    let whole : trees ((encode k ++ encode f) ++ ns) ≡ some (size k + (size f + t)) = ap trees (append_assoc (encode k) (encode f) ns) ∙ inner in
    rw (whole, le-leb (size k) (size k + (size f + t)) (omega arith)) (ap some (omega arith))

pub trees_code : (f : Forest) → trees (encode f) ≡ some (size f)
unfolding trees
trees_code f = ap trees (sym (append-nil (encode f))) ∙ trees_encode f [] 0 refl ∙ ap some (add-zero (size f))

pub encode_decode : (ns : List Node) (t : ℕ) → trees ns ≡ some t → (encode (decode ns) ≡ ns) × (size (decode ns) ≡ t)
unfolding decode push encode trees size joined
encode_decode [] t e = (refl, some_inj e)
encode_decode (leaf l ∷ ns) t e =
    let w = then_some (trees ns) (joined (leaf l)) e in
    let r = encode_decode ns w.0 w.1 in
    (ap (λ ms. leaf l ∷ ms) r.0, ap suc r.1 ∙ some_inj w.2)
encode_decode (head c k ∷ ns) t e =
    let w = then_some (trees ns) (joined (head c k)) e in
    let r = encode_decode ns w.0 w.1 in
    let s = only_some (leb k w.0) (suc (w.0 - k)) w.2 in
    let f = decode ns in
    let wide = size_first k f (omega (arith, leb-true k w.0 s.0)) in
    let whole : encode (first k f) ++ encode (after k f) ≡ ns = sym (encode-⊕ (first k f) (after k f)) ∙ ap encode (first_after k f) ∙ r.0 in
    (ap₂ (λ n ms. head c n ∷ ms) wide whole, omega (arith, size_after k f))

-- How many trees a list spells depends on its end only through how many trees the end spells; the end of a code is a code.
pub trees_after : (ms xs ys : List Node) → trees xs ≡ trees ys → trees (ms ++ xs) ≡ trees (ms ++ ys)
unfolding trees
trees_after [] xs ys e = e
trees_after (m ∷ ms) xs ys e = ap (λ o. then o (joined m)) (trees_after ms xs ys e)

pub trees_drop : (p : ℕ) (ns : List Node) {t : ℕ} → trees ns ≡ some t → (u : ℕ) × (trees (drop p ns) ≡ some u)
unfolding trees
trees_drop zero ns {t} e = (t, e)
trees_drop (suc p) [] {t} e = (t, e)
trees_drop (suc p) (x ∷ ns) e = trees_drop p ns (then_some (trees ns) (joined x) e).1

-- One tree; below its head stand as many as the head says.
pub one_tree_is : (ns : List Node) → one_tree ns ≡ true → trees ns ≡ some 1
unfolding one_tree exactly_one
one_tree_is ns h = go (trees ns) h
  where
    go : (o : Option ℕ) → exactly_one o ≡ true → o ≡ some 1
    go none e = true_false (sym e)
    go (some t) e = ap some (eqb-true t 1 e)

pub trees_below : (c : Conn) (k : ℕ) (ns : List Node) → trees (head c k ∷ ns) ≡ some 1 → trees ns ≡ some k
unfolding trees joined
trees_below c k ns e =
    let w = then_some (trees ns) (joined (head c k)) e in
    let o = only_some (leb k w.0) _ w.2 in
    w.1 ∙ ap some (omega (arith, leb-true k w.0 o.0, o.1))

-- A code has at least a node for every tree, and lists of nodes one after another have the literals of each, and
-- the nodes of kind 6.
pub size_length : (f : Forest) → size f ≤ length (encode f)
unfolding size encode
size_length nil = omega arith
size_length (lit l f) = omega (arith, size_length f)
size_length (node c k f) = omega (arith, size_length f, length-append (encode k) (encode f))

pub literals_append : (ms ns : List Node) → literals (ms ++ ns) ≡ literals ms + literals ns
unfolding literals
literals_append [] ns = omega arith
literals_append (leaf l ∷ ms) ns = let h = literals_append ms ns in omega arith
literals_append (head c k ∷ ms) ns = literals_append ms ns

pub leasts_append : (ms ns : List Node) → leasts (ms ++ ns) ≡ leasts ms + leasts ns
unfolding leasts
leasts_append [] ns = omega arith
leasts_append (leaf l ∷ ms) ns = leasts_append ms ns
leasts_append (head c k ∷ ms) ns = let h = leasts_append ms ns in omega arith
