-- Nodes read onto two forests that differ in their first tree: how deep the difference comes to lie, and where rules do not see
-- it.
use Rattle.std.specs.Prelude.{Bool, true, false, List, [], ◌∷◌, ◌≡◌, refl, ℕ, zero, suc, ◌+◌, ◌-◌, ◌≤◌, ltb, length, drop}
use Rattle.std.proofs.Common.{ap, ◌∙◌, arith, lt-ltb, le-ltb, ltb-true, ltb-false, drop-drop}
use Rattle.model.specs.Base.{pick}
use Rattle.model.specs.Forest.{Conn, Forest, nil, node, first, after, kids}
use Rattle.model.specs.Code.{Node, leaf, head, encode, push}
use Rattle.theory_forms.specs.Codes.{decode_onto}
use Rattle.locality.specs.Differ.{Differ, past_literal, past_group, inside, Cut, early, late, cut_differ}
use Rattle.locality.specs.Alike.{alike_self, differ_alike}
use Rattle.locality.specs.Looks.{Look, both_literals, both_groups}

-- A node that has the end of the nodes after it, where the forest begins, among its children's nodes; and how many do.
abbrev pub kids_length : Node → List Node → Forest → ℕ
kids_length x xs f = length (encode (kids (push x (decode_onto xs f))))

unfoldable pub reaches : Node → List Node → Forest → Bool
reaches x xs f = ltb (length xs) (kids_length x xs f)

unfoldable pub levels : List Node → Forest → ℕ
levels [] f = zero
levels (x ∷ xs) f = pick (reaches x xs f) (suc (levels xs f)) (levels xs f)

-- Two forests cut: where the difference lies in the first parts, the second ones are the same, and the other way round.
module _ {n d : ℕ} {a b v w : Forest} where
  cut_above : Cut n d a b v w → ltb n (length (encode a)) ≡ true → b ≡ w
  cut_above (early h x e) t = e
  cut_above (late m s e x) t = absurd (omega (arith, ltb-true n (length (encode a)) t))

  cut_beside : Cut n d a b v w → ltb n (length (encode a)) ≡ false → a ≡ v
  cut_beside (early h x e) t = absurd (omega (arith, ltb-false n (length (encode a)) t))
  cut_beside (late m s e x) t = e

-- A node takes the difference one level down, or stands beside it.
module _ {n d : ℕ} {a b v w : Forest} (c : Conn) where
  cut_below : Cut n d a b v w → Differ (suc n) (pick (ltb n (length (encode a))) (suc d) d) (node c a b) (node c v w)
  unfolding pick
  cut_below (early h x e) = rw (lt-ltb n (length (encode a)) h, ← e) (inside x)
  cut_below (late m s e x) = rw (le-ltb n (length (encode a)) (omega arith), ← e) (past_group s x)

  cut_look : Cut n d a b v w → (ltb n (length (encode a)) ≡ true → 2 ≤ d) → Look (node c a b) (node c v w)
  cut_look (early h x e) deep = both_groups (differ_alike (suc (suc zero)) (deep (lt-ltb n (length (encode a)) h)) x)
  cut_look (late m s e x) deep = rw (← e) (both_groups (alike_self (suc (suc zero)) a))

pub differ_onto :
    (xs : List Node) {f g : Forest} →
    Differ zero zero f g →
    Differ (length xs) (levels xs f) (decode_onto xs f) (decode_onto xs g)
unfolding levels reaches decode_onto push kids encode pick
differ_onto [] x = x
differ_onto (leaf l ∷ xs) x = rw (le-ltb (length xs) 0 (omega arith)) (past_literal (differ_onto xs x))
differ_onto (head c k ∷ xs) x = cut_below c (cut_differ k (differ_onto xs x))

pub look_onto :
    (y : Node) (xs : List Node) {f g : Forest} →
    Differ zero zero f g →
    (reaches y xs f ≡ true → 2 ≤ levels xs f) →
    Look (push y (decode_onto xs f)) (push y (decode_onto xs g))
unfolding reaches push kids
look_onto (leaf l) xs x deep = both_literals
look_onto (head c k) xs x deep = cut_look c (cut_differ k (differ_onto xs x)) deep

pub above_onto :
    (y : Node) (xs : List Node) {f g : Forest} →
    Differ zero zero f g →
    reaches y xs f ≡ true →
    after 1 (push y (decode_onto xs f)) ≡ after 1 (push y (decode_onto xs g))
unfolding reaches push kids encode after
above_onto (leaf l) xs x t = absurd (omega (arith, ltb-true (length xs) 0 t))
above_onto (head c k) xs x t = cut_above (cut_differ k (differ_onto xs x)) t

pub beside_onto :
    (y : Node) (xs : List Node) {f g : Forest} →
    Differ zero zero f g →
    reaches y xs f ≡ false →
    first 1 (push y (decode_onto xs f)) ≡ first 1 (push y (decode_onto xs g))
unfolding reaches push kids first
beside_onto (leaf l) xs x t = refl
beside_onto (head c k) xs x t = ap (λ m. node c m nil) (cut_beside (cut_differ k (differ_onto xs x)) t)

-- More nodes, no fewer levels; one more with a node that reaches.
pub levels_reach : (x : Node) (xs : List Node) (f : Forest) → reaches x xs f ≡ true → levels (x ∷ xs) f ≡ suc (levels xs f)
unfolding levels pick
levels_reach x xs f e = rw e

levels_drop : (n : ℕ) (xs : List Node) (f : Forest) → levels (drop n xs) f ≤ levels xs f
unfolding levels pick
levels_drop zero xs f = omega arith
levels_drop (suc n) [] f = omega arith
levels_drop (suc n) (x ∷ xs) f = go (reaches x xs f) (levels_drop n xs f)
  where
    go : (b : Bool) → levels (drop n xs) f ≤ levels xs f → levels (drop n xs) f ≤ pick b (suc (levels xs f)) (levels xs f)
    go true h = omega arith
    go false h = h

pub levels_later : {a b : ℕ} → a ≤ b → (xs : List Node) (f : Forest) → levels (drop b xs) f ≤ levels (drop a xs) f
levels_later {a} {b} h xs f =
    let sum : a + (b - a) ≡ b = omega arith in
    let e : drop (b - a) (drop a xs) ≡ drop b xs = drop-drop (b - a) a xs ∙ ap (λ n. drop n xs) sum in
    rw e at (levels_drop (b - a) (drop a xs) f)
