-- In the children before the one that a step is about, every tree is as before.
use Rattle.std.specs.Prelude.{List, ◌++◌, ◌≡◌, ℕ, suc, zero, ◌+◌, ◌-◌, ◌≤◌, ◌<◌, length, drop}
use Rattle.std.proofs.Math.Path.{refl}
use Rattle.std.proofs.Common.{sym, ap, ◌∙◌, arith, drop-drop}
use Rattle.std.proofs.lemmas.List.{drop-append-le}
use Rattle.model.specs.Forest.{Conn, Forest, nil, node, ◌⊕◌, first}
use Rattle.model.specs.Code.{Node, leaf, head, encode, push, decode}
use Rattle.model.specs.Rules.{Family}
use Rattle.theory_forms.specs.Forests.{⊕-assoc}
use Rattle.theory_forms.specs.Codes.{encode-⊕, decode_encode, decode-encode-++, encode_decode, trees_code, trees_drop}
use Rattle.locality.specs.Zones.{Quiet}
use Rattle.locality.specs.ChildPlaces.{Rest, rest_as, further, past_head}
use Rattle.locality.specs.Turned.{Turned, old_here, new_here}
use Rattle.locality.specs.Alike.{alike_self}
use Rattle.locality.specs.Looks.{Look, both_literals, both_groups}
use Rattle.locality.specs.Before.{node_at, look_same}

-- The trees from a place within a code on, before any others.
look_push : (y : Node) (a f g : Forest) → Look (push y a ⊕ f) (push y a ⊕ g)
unfolding push ◌⊕◌
look_push (leaf l) a f g = both_literals
look_push (head c k) a f g = both_groups (alike_self (suc (suc zero)) _)

first_push : (y : Node) (a f g : Forest) → first 1 (push y a ⊕ f) ≡ first 1 (push y a ⊕ g)
unfolding push ◌⊕◌ first
first_push (leaf l) a f g = refl
first_push (head c k) a f g = refl

look_front : (ns : List Node) (n : ℕ) → n < length ns → (f g : Forest) → Look (decode (drop n ns) ⊕ f) (decode (drop n ns) ⊕ g)
unfolding decode
look_front ns n h f g = let x = node_at ns n h in rw x.1 (look_push x.0 (decode (drop (suc n) ns)) f g)

part_read : (a f : Forest) (n : ℕ) → decode (drop n (encode a) ++ encode f) ≡ decode (drop n (encode a)) ⊕ f
part_read a f n =
    let t = trees_drop n (encode a) (trees_code a) in
    let code : encode (decode (drop n (encode a))) ≡ drop n (encode a) = (encode_decode (drop n (encode a)) t.0 t.1).0 in
    ap (λ xs. decode (xs ++ encode f)) (sym code)
    ∙ decode-encode-++ (decode (drop n (encode a))) (encode f)
    ∙ ap (λ g. decode (drop n (encode a)) ⊕ g) (decode_encode f)

-- What is read at a place among trees, of which the first stands at an earlier place.
pub part_here :
    (a f : Forest) {p : ℕ} {ns : List Node} →
    Rest p ns (encode (a ⊕ f)) →
    (q : ℕ) →
    p ≤ q →
    q < p + length (encode a) →
    decode (drop q ns) ≡ decode (drop (q - p) (encode a)) ⊕ f
part_here a f {p} {ns} r q from within =
    let sum : p + (q - p) ≡ q = omega arith in
    ap (λ n. decode (drop n ns)) (sym sum)
    ∙ ap decode (sym (drop-drop (q - p) p ns))
    ∙ ap (λ xs. decode (drop (q - p) xs)) (r.left ∙ encode-⊕ a f)
    ∙ ap decode (drop-append-le (q - p) (encode a) (encode f) (omega arith))
    ∙ part_read a f (q - p)

-- The first of a head's children stand after it.
pub below_head :
    {p : ℕ} {ns : List Node} (c : Conn) (a d f : Forest) →
    Rest p ns (encode (node c (a ⊕ d) f)) →
    Rest (p + 1) ns (encode (a ⊕ (d ⊕ f)))
below_head c a d f r = rest_as (further r (past_head c (a ⊕ d) f)) refl (ap encode (⊕-assoc a d f))

same_front : (ns : List Node) (n : ℕ) → n < length ns → (f g : Forest) → first 1 (decode (drop n ns) ⊕ f) ≡ first 1 (decode (drop n ns) ⊕ g)
unfolding decode
same_front ns n h f g = let x = node_at ns n h in rw x.1 (first_push x.0 (decode (drop (suc n) ns)) f g)

-- A step that keeps the first children a, under whatever connective, at a place among them.
module _ {x : Family} {p i j : ℕ} {ns ms : List Node} (w : Turned x p i j ns ms) (b : Conn) (a d v : Forest) (e : w.children ≡ a ⊕ d) (t : w.new ≡ node b (a ⊕ v) nil) (q : ℕ) (later : p < q) (early : q < p + suc (length (encode a))) where
  abbrev offset : ℕ
  offset = q - (p + 1)

  offset_within : offset < length (encode a)
  offset_within = omega arith

  read_old : decode (drop q ns) ≡ decode (drop offset (encode a)) ⊕ (d ⊕ w.rest)
  read_old =
      let old = rest_as (old_here w) refl (ap (λ k. encode (node w.conn k w.rest)) e) in
      part_here a (d ⊕ w.rest) (below_head w.conn a d w.rest old) q (omega arith) (omega arith)

  read_new : decode (drop q ms) ≡ decode (drop offset (encode a)) ⊕ (v ⊕ w.rest)
  unfolding ◌⊕◌
  read_new =
      let new = rest_as (new_here w) refl (ap (λ g. encode (g ⊕ w.rest)) t) in
      part_here a (v ⊕ w.rest) (below_head b a v w.rest new) q (omega arith) (omega arith)

  pub front_quiet : (s : ℕ) → Quiet s q ns → Quiet s q ms
  front_quiet s =
      look_same s q ns ms read_old read_new (look_front (encode a) offset offset_within (d ⊕ w.rest) (v ⊕ w.rest))

  pub front_tree : first 1 (decode (drop q ns)) ≡ first 1 (decode (drop q ms))
  front_tree =
      ap (first 1) read_old ∙ same_front (encode a) offset offset_within (d ⊕ w.rest) (v ⊕ w.rest) ∙ ap (first 1) (sym read_new)
