-- Members in their seats, told of a list of nodes: each member is one node, so they are the nodes that follow their head.
use Rattle.std.specs.Prelude.{Bool, true, false, ◌&&◌, ◌||◌, not, ◌≡◌, eqb, length, take}
use Rattle.std.proofs.Math.Bool.{and-true, and-false, and_assoc}
use mathlib.Core.List.{List, [], ◌∷◌, ◌++◌, append_assoc, append-nil}
use Rattle.std.proofs.Math.Path.{refl, sym, ap}
use Rattle.std.proofs.Common.{ap₂, ◌∙◌, eqb-true, ne_eqb}
use Prim.Native.Nat.{ℕ, zero, suc, ◌≤◌}
use native.Mathlib.Omega.{arith}
use Rattle.std.proofs.lemmas.List.{take-append-le}
use Rattle.model.specs.Literal.{option}
use Rattle.model.specs.Forest.{Conn, and, or, root, at_least, same_conn, Forest, nil, lit, node, ◌⊕◌, size, first, after}
use Rattle.model.specs.Forest.{mentions, members, seated, all_seated}
use Rattle.model.specs.Code.{Node, leaf, head, encode, push, decode}
use Rattle.theory_forms.specs.Logic.{true_false, and_split, and_join}
use Rattle.theory_forms.specs.Forests.{size_zero, first_after}
use Rattle.theory_forms.specs.Codes.{encode-⊕}

-- The head of a constant; an option that some literal names; nodes that are members; heads that members follow.
unfoldable pub bare : Conn → ℕ → Bool
bare c m = (same_conn and c || same_conn or c) && eqb m 0

unfoldable pub names : ℕ → List Node → Bool
names v [] = false
names v (leaf l ∷ ns) = eqb v (option l) || names v ns
names v (head c m ∷ ns) = names v ns

unfoldable pub apart : List Node → Bool
apart [] = true
apart (leaf l ∷ ns) = not (names (option l) ns) && apart ns
apart (head c m ∷ ns) = bare c m && apart ns

unfoldable pub followed : Conn → List Node → Bool
followed and ns = true
followed or ns = true
followed root ns = true
followed (at_least a) ns = apart ns

unfoldable pub ordered : List Node → Bool
ordered [] = true
ordered (leaf l ∷ ns) = ordered ns
ordered (head c m ∷ ns) = followed c (take m ns) && ordered ns

names_mentions : (v : ℕ) (k : Forest) (r : List Node) → members k ≡ true → names v (take (size k) (encode k ++ r)) ≡ mentions v k
unfolding names mentions members encode size
names_mentions v nil r h = refl
names_mentions v (lit l f) r h =
    ap (λ b. eqb v (option l) || b) (names_mentions v f r (and_split (not (mentions (option l) f)) (members f) h).1)
names_mentions v (node c m f) r h =
    let s = and_split ((same_conn and c || same_conn or c) && eqb (size m) 0) (members f) h in
    let none = eqb-true (size m) 0 (and_split (same_conn and c || same_conn or c) _ s.0).1 in
    rw (size_zero m none) (names_mentions v f r s.1)

apart_members : (k : Forest) (r : List Node) → apart (take (size k) (encode k ++ r)) ≡ members k
unfolding apart members encode size bare
apart_members nil r = refl
apart_members (lit l f) r = go (members f) refl (apart_members f r)
  where
    later : List Node
    later = take (size f) (encode f ++ r)

    go :
        (b : Bool) →
        members f ≡ b →
        apart later ≡ members f →
        (not (names (option l) later) && apart later) ≡ (not (mentions (option l) f) && members f)
    go true e h = ap₂ (λ x y. not x && y) (names_mentions (option l) f r e) h
    go false e h = rw (h, e) (and-false (not (names (option l) later)) ∙ sym (and-false (not (mentions (option l) f))))
apart_members (node c m f) r = go (eqb (size m) 0) refl (apart_members f r)
  where
    go :
        (b : Bool) →
        eqb (size m) 0 ≡ b →
        apart (take (size f) (encode f ++ r)) ≡ members f →
        (((same_conn and c || same_conn or c) && eqb (size m) 0) && apart (take (size f) ((encode m ++ encode f) ++ r)))
        ≡ (((same_conn and c || same_conn or c) && eqb (size m) 0) && members f)
    go true e h =
        rw (size_zero m (eqb-true (size m) 0 e)) (ap (λ x. ((same_conn and c || same_conn or c) && true) && x) h)
    go false e h = rw (e, and-false (same_conn and c || same_conn or c))

followed_seated : (c : Conn) (k : Forest) (r : List Node) → followed c (take (size k) (encode k ++ r)) ≡ seated c k
unfolding followed seated
followed_seated and k r = refl
followed_seated or k r = refl
followed_seated root k r = refl
followed_seated (at_least a) k r = apart_members k r

-- The code of a forest, and what follows it.
pub ordered_code : (f : Forest) (r : List Node) → ordered (encode f ++ r) ≡ (all_seated f && ordered r)
unfolding ordered all_seated encode
ordered_code nil r = refl
ordered_code (lit l f) r = ordered_code f r
ordered_code (node c k f) r =
    rw
    (append_assoc (encode k) (encode f) r, ordered_code k (encode f ++ r), ordered_code f r, followed_seated c k (encode f ++ r))
    (sym (and_assoc (seated c k && all_seated k) (all_seated f) (ordered r) ∙ and_assoc (seated c k) (all_seated k) (all_seated f && ordered r)))

pub seated_code : (f : Forest) → ordered (encode f) ≡ all_seated f
unfolding ordered
seated_code f = ap ordered (sym (append-nil (encode f))) ∙ ordered_code f [] ∙ and-true (all_seated f)

pub seated-⊕ : (f g : Forest) → all_seated (f ⊕ g) ≡ (all_seated f && all_seated g)
seated-⊕ f g =
    sym (seated_code (f ⊕ g))
    ∙ ap ordered (encode-⊕ f g)
    ∙ ordered_code f (encode g)
    ∙ ap (λ b. all_seated f && b) (seated_code g)

-- What is below a head, where all that it heads is in its seat.
pub seated_below : (c : Conn) (m : ℕ) (ns : List Node) → all_seated (decode (head c m ∷ ns)) ≡ true → all_seated (decode ns) ≡ true
unfolding decode push all_seated
seated_below c m ns h =
    let p = first m (decode ns) in
    let q = after m (decode ns) in
    let s = and_split (seated c p && all_seated p) (all_seated q) h in
    ap all_seated (sym (first_after m (decode ns)))
    ∙ seated-⊕ p q
    ∙ and_join (and_split (seated c p) (all_seated p) s.0).1 s.1

-- A node that is no member stands after all members of the heads before it: what stands from it on may be exchanged.
module _ (c : Conn) (m : ℕ) (xs : List Node) (busy : bare c m ≡ false) where
  members_end : (j : ℕ) (b : List Node) → apart (take j (b ++ head c m ∷ xs)) ≡ true → j ≤ length b
  unfolding apart
  members_end zero b h = omega arith
  members_end (suc j) [] h = true_false (sym (and_split (bare c m) _ h).0 ∙ busy)
  members_end (suc j) (leaf l ∷ b) h =
      omega (arith, members_end j b (and_split (not (names (option l) (take j (b ++ head c m ∷ xs)))) _ h).1)
  members_end (suc j) (head d i ∷ b) h = omega (arith, members_end j b (and_split (bare d i) _ h).1)

  followed_before :
      (d : Conn) (j : ℕ) (b ys : List Node) →
      followed d (take j (b ++ head c m ∷ xs)) ≡ true →
      followed d (take j (b ++ ys)) ≡ true
  unfolding followed
  followed_before and j b ys h = refl
  followed_before or j b ys h = refl
  followed_before root j b ys h = refl
  followed_before (at_least a) j b ys h =
      let n = members_end j b h in
      ap apart (take-append-le j b ys n ∙ sym (take-append-le j b (head c m ∷ xs) n)) ∙ h

  pub ordered_before :
      (b ys : List Node) →
      ordered (b ++ head c m ∷ xs) ≡ true →
      (ordered (head c m ∷ xs) ≡ true) × (ordered ys ≡ true → ordered (b ++ ys) ≡ true)
  unfolding ordered
  ordered_before [] ys h = (h, λ o. o)
  ordered_before (leaf l ∷ b) ys h = ordered_before b ys h
  ordered_before (head d j ∷ b) ys h =
      let s = and_split (followed d (take j (b ++ head c m ∷ xs))) _ h in
      let r = ordered_before b ys s.1 in
      (r.0, λ o. and_join (followed_before d j b ys s.0) (r.1 o))

-- Which heads are none of a constant.
pub some_child : (c : Conn) (m : ℕ) → 1 ≤ m → bare c m ≡ false
unfolding bare
some_child c m n = rw (ne_eqb m 0 (λ e. omega arith)) (and-false (same_conn and c || same_conn or c))

pub least_busy : (a m : ℕ) → bare (at_least a) m ≡ false
unfolding bare same_conn
least_busy a m = refl
