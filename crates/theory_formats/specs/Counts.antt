-- The node counts of the trees of a forest: they cut its code into the codes of its trees.
use Rattle.std.specs.Prelude.{true, ◌&&◌, List, [], ◌∷◌, ◌++◌, map, ◌≡◌, refl, ℕ, suc, ◌+◌, leb, length, take, drop}
use Rattle.std.proofs.Common.{append-nil, sym, ap, ap₂, ◌∙◌, arith, le-leb, length-append, take_at, drop_at}
use Rattle.std.proofs.lemmas.List.{length-map}
use Rattle.model.specs.Base.{all}
use Rattle.model.specs.Forest.{Forest, nil, lit, node, ◌⊕◌, size, seated, all_seated}
use Rattle.model.specs.Code.{encode, decode, exactly_one, one_tree, node_of}
use Rattle.model.specs.Sheet.{body_node}
use Rattle.model.specs.Book.{cut, body_ok, counts}
use Rattle.theory_forms.specs.Logic.{and_split, and_join}
use Rattle.theory_forms.specs.Lists.{map_take, map_drop, all_cut}
use Rattle.theory_forms.specs.Forests.{size_zero}
use Rattle.theory_forms.specs.Codes.{encode-⊕, decode_encode, trees_code}
use Rattle.theory_formats.specs.Contents.{total, places}
use Rattle.theory_formats.specs.Loading.{forest_of, body_tree}

pub counts-⊕ : (f g : Forest) → counts (f ⊕ g) ≡ counts f ++ counts g
unfolding counts ◌⊕◌
counts-⊕ nil g = refl
counts-⊕ (lit l f) g = ap (λ ks. 1 ∷ ks) (counts-⊕ f g)
counts-⊕ (node c k f) g = ap (λ ks. suc (length (encode k)) ∷ ks) (counts-⊕ f g)

pub length_counts : (f : Forest) → length (counts f) ≡ size f
unfolding counts size
length_counts nil = refl
length_counts (lit l f) = ap suc (length_counts f)
length_counts (node c k f) = ap suc (length_counts f)

pub total_counts : (f : Forest) → total (counts f) ≡ length (encode f)
unfolding counts total encode
total_counts nil = refl
total_counts (lit l f) = omega (arith, total_counts f)
total_counts (node c k f) = omega (arith, total_counts f, length-append (encode k) (encode f))

pub counts_some : (f : Forest) → all (leb 1) (counts f) ≡ true
unfolding counts all
counts_some nil = refl
counts_some (lit l f) = counts_some f
counts_some (node c k f) = and_join (le-leb 1 (suc (length (encode k))) (omega arith)) (counts_some f)

-- One tree has one count, the length of its code.
pub counts_one : (t : Forest) → size t ≡ 1 → counts t ≡ length (encode t) ∷ []
unfolding counts size encode
counts_one nil e = absurd (omega arith)
counts_one (lit l f) e = rw (size_zero f (omega arith))
counts_one (node c k f) e = rw (size_zero f (omega arith)) (ap (λ ns. suc (length ns) ∷ []) (sym (append-nil (encode k))))

-- Numbers whose nodes are the code of one tree and of trees after it: those of the tree are a well-formed body.
body_first :
    (n k : ℕ) (t f : Forest) (xs : List ℕ) →
    size t ≡ 1 →
    length (encode t) ≡ k →
    map node_of xs ≡ encode (t ⊕ f) →
    all (body_node n) xs ≡ true →
    all_seated t ≡ true →
    (body_ok n (take k xs) ≡ true) × (map node_of (drop k xs) ≡ encode f) × (all (body_node n) (drop k xs) ≡ true)
unfolding body_ok one_tree exactly_one
body_first n k t f xs one wide e h o =
    let parts : map node_of xs ≡ encode t ++ encode f = e ∙ encode-⊕ t f in
    let s = and_split (all (body_node n) (take k xs)) (all (body_node n) (drop k xs)) (sym (all_cut (body_node n) k xs) ∙ h) in
    let tree : map node_of (take k xs) ≡ encode t = map_take node_of k xs ∙ ap (take k) parts ∙ take_at (encode t) (encode f) k wide in (
      and_join (and_join s.0 (ap one_tree tree ∙ rw (trees_code t, one))) (ap (λ ns. all_seated (decode ns)) tree ∙ rw (decode_encode t) o),
      map_drop node_of k xs ∙ ap (drop k) parts ∙ drop_at (encode t) (encode f) k wide,
      s.1,
    )

-- Numbers of a forest's code, cut by its node counts, are well-formed bodies.
pub bodies_ok :
    (n sum : ℕ) (f : Forest) (xs : List ℕ) →
    map node_of xs ≡ encode f →
    all (body_node n) xs ≡ true →
    all_seated f ≡ true →
    all (body_ok n) (cut (places sum (counts f)) xs) ≡ true
unfolding counts places cut all encode size ◌⊕◌ all_seated
bodies_ok n sum nil xs e h o = refl
bodies_ok n sum (lit l f) xs e h o =
    let w = body_first n 1 (lit l nil) f xs refl refl e h refl in
    and_join w.0 (bodies_ok n (sum + 1) f (drop 1 xs) w.1 w.2 o)
bodies_ok n sum (node c k f) xs e h o =
    let j : ℕ = suc (length (encode k)) in
    let s = and_split (seated c k && all_seated k) (all_seated f) o in
    let tree = and_join s.0 refl in
    let w = body_first n j (node c k nil) f xs refl (ap (λ ns. suc (length ns)) (append-nil (encode k))) e h tree in
    and_join w.0 (bodies_ok n (sum + j) f (drop j xs) w.1 w.2 s.1)

-- And the tree of each well-formed body has as many nodes as the body has numbers.
pub counts_bodies : (n : ℕ) (xss : List (List ℕ)) → all (body_ok n) xss ≡ true → counts (forest_of xss) ≡ map length xss
unfolding counts all forest_of
counts_bodies n [] h = refl
counts_bodies n (xs ∷ xss) h =
    let s = and_split (body_ok n xs) (all (body_ok n) xss) h in
    let t : Forest = decode (map node_of xs) in
    let tree = body_tree n xs s.0 in
    counts-⊕ t (forest_of xss)
    ∙ ap₂ ◌++◌ (counts_one t tree.1) (counts_bodies n xss s.1)
    ∙ ap (λ k. k ∷ map length xss) (ap length tree.0 ∙ length-map xs node_of)
