-- Numbers read from the left: how many nodes a number of trees takes.
use Rattle.std.specs.Prelude.{true, false, List, [], ◌∷◌, ◌++◌, map, ◌≡◌, refl, ℕ, zero, suc, ◌+◌, ◌-◌, ◌≤◌, ◌<◌, length, get_or, drop}
use Rattle.std.proofs.lemmas.List.{map-append, length-map}
use Rattle.std.proofs.Common.{append_assoc, sym, ap, ◌∙◌, add-zero, zero-add, suc-add, add_comm, add-one, arith, length-append, drop_of_length-le, drop-cons, drop_at}
use Rattle.model.specs.Base.{pick, all}
use Rattle.model.specs.Limits.{kind_factor}
use Rattle.model.specs.Literal.{Literal, pos, neg, option}
use Rattle.model.specs.Forest.{Conn, Forest, nil, lit, node, size, first, after}
use Rattle.model.specs.Code.{Node, leaf, head, kind, value, children, encode, number_of}
use Rattle.model.specs.Book.{counts}
use Rattle.theory_forms.specs.Logic.{pick_true, pick_false, and_split, pick_keeps}
use Rattle.theory_forms.specs.Lists.{all_append}
use Rattle.theory_forms.specs.Forests.{first_after, size_first}
use Rattle.theory_forms.specs.Codes.{encode-⊕}
use Rattle.theory_forms.specs.Numbers.{fits, kind_number, children_small, head_children}
use Rattle.theory_forms.specs.Scan.{is_literal}
use Rattle.theory_reading.specs.Leaves.{head_inner}

-- The number of children that a node announces.
unfoldable pub arity : ℕ → ℕ
arity x = pick (is_literal x) 0 (children x)

-- The number of nodes of the first so many trees.
unfoldable pub span : ℕ → List ℕ → ℕ
span zero [] = zero
span zero (x ∷ xs) = zero
span (suc p) [] = zero
span (suc p) (x ∷ xs) = suc (span (p + arity x) xs)

-- The node counts of the first so many trees, one by one.
unfoldable pub spans : ℕ → List ℕ → List ℕ
spans zero xs = []
spans (suc m) xs = span 1 xs ∷ spans m (drop (span 1 xs) xs)

-- The place of child i of the group that a list begins with: after the head and the children before it.
abbrev pub child_at : ℕ → List ℕ → ℕ
child_at i l = 1 + span i (drop 1 l)

-- No child for a literal, and as many as its number says for any other node: in either case fewer than 4,096.
module _ (x : ℕ) where
  pub arity_literal : is_literal x ≡ true → arity x ≡ 0
  unfolding arity
  arity_literal h = pick_true _ 0 (children x) h

  pub arity_inner : is_literal x ≡ false → arity x ≡ children x
  unfolding arity
  arity_inner h = pick_false _ 0 (children x) h

  pub arity_small : arity x < kind_factor
  unfolding arity
  arity_small = pick_keeps (λ k. k < kind_factor) (is_literal x) (omega arith) (children_small x)

-- A zero, which is no node, announces none.
pub arity_none : arity 0 ≡ 0
unfolding arity is_literal kind children value pick
arity_none = refl

-- The span of any numbers, one number at a time.
pub span_none : (xs : List ℕ) → span zero xs ≡ zero
unfolding span
span_none [] = refl
span_none (x ∷ xs) = refl

pub span_over : (p : ℕ) → span p [] ≡ zero
unfolding span
span_over zero = refl
span_over (suc p) = refl

pub span_more : (p x : ℕ) (xs : List ℕ) → span (suc p) (x ∷ xs) ≡ suc (span (p + arity x) xs)
unfolding span
span_more p x xs = refl

pub span_within : (p : ℕ) (xs : List ℕ) → span p xs ≤ length xs
unfolding span
span_within zero [] = omega arith
span_within zero (x ∷ xs) = omega arith
span_within (suc p) [] = omega arith
span_within (suc p) (x ∷ xs) = omega (arith, span_within (p + arity x) xs)

-- The same from a place of a list on: at the list's end, and one number further.
pub span_end : (p i : ℕ) (s : List ℕ) → length s ≤ i → span p (drop i s) ≡ zero
span_end p i s h = rw (drop_of_length-le s h) (span_over p)

pub span_step :
    (p i : ℕ) (s : List ℕ) →
    0 < p →
    i < length s →
    i + span p (drop i s) ≡ i + 1 + span (p - 1 + arity (get_or s i 0)) (drop (i + 1) s)
span_step zero i s h l = absurd (omega arith)
span_step (suc p) i s h l =
    let one : suc p - 1 ≡ p = omega arith in
    rw (drop-cons s i 0, span_more, add-one, one) (omega arith)

-- The number of a node announces the node's children.
pub arity_leaf : (l : Literal) → fits (leaf l) ≡ true → arity (number_of (leaf l)) ≡ 0
unfolding arity number_of is_literal pick fits option
arity_leaf (pos v) h = rw kind_number
arity_leaf (neg v) h = rw kind_number

pub arity_head : (c : Conn) (k : ℕ) → fits (head c k) ≡ true → arity (number_of (head c k)) ≡ k
unfolding arity pick
arity_head c k h = rw (head_inner c k h) (head_children c k h)

pub span_leaf : (l : Literal) (p : ℕ) (xs : List ℕ) → fits (leaf l) ≡ true → span (suc p) (number_of (leaf l) ∷ xs) ≡ suc (span p xs)
span_leaf l p xs h = rw (span_more, arity_leaf l h, add-zero)

pub span_head :
    (c : Conn) (k p : ℕ) (xs : List ℕ) →
    fits (head c k) ≡ true →
    span (suc p) (number_of (head c k) ∷ xs) ≡ suc (span (k + p) xs)
span_head c k p xs h = rw (span_more, arity_head c k h, add_comm p k)

-- The trees of a forest's code, before any other numbers.
fit_parts : (ns ms : List Node) → all fits (ns ++ ms) ≡ true → (all fits ns ≡ true) × (all fits ms ≡ true)
fit_parts ns ms h = and_split (all fits ns) (all fits ms) (sym (all_append fits ns ms) ∙ h)

code_parts :
    (k f : Forest) (r : List ℕ) →
    map number_of (encode k ++ encode f) ++ r ≡ map number_of (encode k) ++ (map number_of (encode f) ++ r)
code_parts k f r = rw (map-append number_of (encode k) (encode f)) (append_assoc (map number_of (encode k)) _ r)

-- So many trees as the forest has and any more: its code, and what the others take of the rest.
pub span_code :
    (f : Forest) (p : ℕ) (r : List ℕ) →
    all fits (encode f) ≡ true →
    span (size f + p) (map number_of (encode f) ++ r) ≡ length (encode f) + span p r
unfolding size encode all
span_code nil p r h = simp zero-add
span_code (lit l f) p r h =
    let s = and_split (fits (leaf l)) (all fits (encode f)) h in
    rw (suc-add, span_leaf l (size f + p) _ s.0, span_code f p r s.1, suc-add)
span_code (node c k f) p r h =
    let s = and_split (fits (head c (size k))) (all fits (encode k ++ encode f)) h in
    let t = fit_parts (encode k) (encode f) s.1 in
    rw (suc-add, span_head c (size k) (size f + p) _ s.0, code_parts k f r, span_code k (size f + p) _ t.0, span_code f p r t.1, length-append)
    (omega arith)

pub span_encode : (f : Forest) (r : List ℕ) → all fits (encode f) ≡ true → span (size f) (map number_of (encode f) ++ r) ≡ length (encode f)
span_encode f r h = simp (add-zero, span_none) at (span_code f 0 r h)

-- The first trees of a forest take the code of those trees, so the next one begins where that code ends.
pub span_first :
    (i : ℕ) (f : Forest) (r : List ℕ) →
    i ≤ size f →
    all fits (encode f) ≡ true →
    span i (map number_of (encode f) ++ r) ≡ length (encode (first i f))
span_first i f r l h =
    let whole : encode (first i f) ++ encode (after i f) ≡ encode f = sym (encode-⊕ (first i f) (after i f)) ∙ ap encode (first_after i f) in
    let part = (fit_parts (encode (first i f)) (encode (after i f)) (rw whole h)).0 in
    rw (← whole, code_parts (first i f) (after i f) r)
    (rw (size_first i f l) at (span_encode (first i f) (map number_of (encode (after i f)) ++ r) part))

-- Tree by tree, the spans are the forest's node counts.
pub spans_counts : (f : Forest) (r : List ℕ) → all fits (encode f) ≡ true → spans (size f) (map number_of (encode f) ++ r) ≡ counts f
unfolding size encode all spans counts
spans_counts nil r h = refl
spans_counts (lit l f) r h =
    let s = and_split (fits (leaf l)) (all fits (encode f)) h in
    rw (span_leaf l 0 _ s.0, span_none, spans_counts f r s.1)
spans_counts (node c k f) r h =
    let s = and_split (fits (head c (size k))) (all fits (encode k ++ encode f)) h in
    let t = fit_parts (encode k) (encode f) s.1 in
    rw (code_parts k f r, span_head c (size k) 0 _ s.0, span_code k 0 _ t.0, span_none, add-zero, drop_at (map number_of (encode k)) _ (length (encode k)) (length-map (encode k) number_of), spans_counts f r t.1)
