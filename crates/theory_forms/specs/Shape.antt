-- The form of a sheet's nodes.
use Rattle.std.specs.Prelude.{Bool, true, false, ◌&&◌, List, ◌∷◌, ◌≡◌, refl, ℕ, ◌≤◌, ltb, length}
use Rattle.std.proofs.Math.Bool.{and_assoc, and-false}
use Rattle.std.proofs.Common.{append-nil, sym, ap, ap₂, ◌∙◌, arith}
use Rattle.std.proofs.Math.Option.{some}
use Rattle.model.specs.Base.{all}
use Rattle.model.specs.Literal.{option}
use Rattle.model.specs.Forest.{root, Forest, nil, lit, node, size, seated, all_seated}
use Rattle.model.specs.Code.{Node, head, encode, decode, trees}
use Rattle.theory_forms.specs.Logic.{and_split, and_join}
use Rattle.theory_forms.specs.Lists.{all_append}
use Rattle.theory_forms.specs.Codes.{decode_encode, encode_decode, trees_code}
use Rattle.theory_forms.specs.Numbers.{inner, plain}
use Rattle.theory_forms.specs.Rooted.{no_root, Rooted}
use Rattle.theory_forms.specs.Fine.{placed, placed_not_root, fine, fine_node}

-- Trees are fine exactly where all nodes of their code may stand below the root and all members are in their seats.
regroup : (r s p i q j : Bool) → (((r && s) && (p && i)) && (q && j)) ≡ ((r && (p && q)) && ((s && i) && j))
regroup false s p i q j = refl
regroup true false p i q j = sym (and-false (p && q))
regroup true true false i q j = refl
regroup true true true false q j = sym (and-false q)
regroup true true true true q j = refl

pub plain_encode : (n : ℕ) (f : Forest) → fine n f ≡ (all (plain n) (encode f) && all_seated f)
unfolding all plain encode fine all_seated placed
plain_encode n nil = refl
plain_encode n (lit l f) =
    rw (plain_encode n f) (sym (and_assoc (ltb (option l) n) (all (plain n) (encode f)) (all_seated f)))
plain_encode n (node c k f) =
    rw (all_append (plain n) (encode k) (encode f), plain_encode n k, plain_encode n f)
    (regroup (inner c (size k)) (seated c k) (all (plain n) (encode k)) (all_seated k) (all (plain n) (encode f)) (all_seated f))

pub plain_parts : (n : ℕ) (f : Forest) → fine n f ≡ true → (all (plain n) (encode f) ≡ true) × (all_seated f ≡ true)
plain_parts n f h = and_split (all (plain n) (encode f)) (all_seated f) (sym (plain_encode n f) ∙ h)

-- The nodes of a sheet of n options: one tree, its root at the head and fine trees below.
pub record Shaped (n : ℕ) (ns : List Node) : Type 0 where
  pub kids : Forest
  pub spelled : ns ≡ encode (node root kids nil)
  pub fine : fine n kids ≡ true

-- The same, told of the list: after the head of the root come as many trees as it says, all their nodes plain, all members in their
-- seats; and back.
pub shaped :
    (n m : ℕ) (xs : List Node) →
    trees xs ≡ some m →
    all (plain n) xs ≡ true →
    all_seated (decode xs) ≡ true →
    Shaped n (head root m ∷ xs)
unfolding encode
shaped n m xs t h o =
    let d = encode_decode xs m t in
    record {
      kids = decode xs;
      spelled = ap₂ (λ s ys. head root s ∷ ys) (sym d.1) (sym d.0 ∙ sym (append-nil (encode (decode xs))));
      fine = plain_encode n (decode xs) ∙ and_join (ap (all (plain n)) d.0 ∙ h) o;
    }

pub shaped_flat : {n : ℕ} {ns : List Node} (s : Shaped n ns) → ns ≡ head root (size s.kids) ∷ encode s.kids
unfolding encode
shaped_flat s = s.spelled ∙ ap (λ xs. head root (size s.kids) ∷ xs) (append-nil (encode s.kids))

pub shaped_plain : {n : ℕ} {ns : List Node} (s : Shaped n ns) → all (plain n) (encode s.kids) ≡ true
shaped_plain {n} s = (plain_parts n s.kids s.fine).0

-- What its nodes are read as.
pub shaped_decode : {n : ℕ} {ns : List Node} (s : Shaped n ns) → decode ns ≡ node root s.kids nil
shaped_decode s = ap decode s.spelled ∙ decode_encode (node root s.kids nil)

pub shaped_kids : {n k : ℕ} {ns : List Node} (s : Shaped n (head root k ∷ ns)) → s.kids ≡ decode ns
shaped_kids {ns = ns} s =
    let flat = shaped_flat s in
    let below : encode s.kids ≡ ns = cc in
    sym (decode_encode s.kids) ∙ ap decode below

pub shaped_trees : {n : ℕ} {ns : List Node} → Shaped n ns → trees ns ≡ some 1
unfolding size
shaped_trees s = ap trees s.spelled ∙ trees_code (node root s.kids nil)

pub shaped_length : {n : ℕ} {ns : List Node} → Shaped n ns → 1 ≤ length ns
unfolding encode
shaped_length s = rw s.spelled (omega arith)

pub shaped_seated : {n : ℕ} {ns : List Node} → Shaped n ns → all_seated (decode ns) ≡ true
unfolding all_seated seated
shaped_seated {n} s = ap all_seated (shaped_decode s) ∙ rw (plain_parts n s.kids s.fine).1

-- The nodes of a sheet are rooted.
pub fine_no_root : (n : ℕ) (f : Forest) → fine n f ≡ true → no_root f ≡ true
unfolding no_root fine
fine_no_root n nil h = refl
fine_no_root n (lit l f) h = fine_no_root n f (and_split (ltb (option l) n) (fine n f) h).1
fine_no_root n (node c k f) h =
    let s = fine_node n c k f h in rw (placed_not_root c k s.0, fine_no_root n k s.1, fine_no_root n f s.2)

pub shaped_rooted : {n : ℕ} {ns : List Node} → Shaped n ns → Rooted ns
shaped_rooted {n} s =
    record {
      body = s.kids;
      whole = shaped_decode s;
      inside = fine_no_root n s.kids s.fine;
    }
