-- Every step keeps the form of a sheet's nodes.
use Rattle.std.specs.Prelude.{true, false, List, [], ◌∷◌, ◌++◌, ◌≡◌, ℕ, take, drop}
use Rattle.std.proofs.Math.Option.{some}
use Rattle.std.proofs.Common.{sym, ap, ◌∙◌, arith, take-append-drop}
use Rattle.model.specs.Base.{all}
use Rattle.model.specs.Forest.{Conn, and, root, Forest, nil, lit, node, ◌⊕◌, size}
use Rattle.model.specs.Code.{Node, head, encode, decode, trees}
use Rattle.model.specs.Rules.{neutral, step}
use Rattle.theory_forms.specs.Logic.{and_split, and_join}
use Rattle.theory_forms.specs.Lists.{all_append}
use Rattle.theory_forms.specs.Forests.{⊕-nil, size-⊕, groups_size}
use Rattle.theory_forms.specs.Codes.{decode_encode, encode_decode, trees_code, trees_after, trees_drop}
use Rattle.theory_forms.specs.Numbers.{plain}
use Rattle.theory_rewriting.specs.Changes.{Change, absorbed, omitted, unwrapped, spreaded, lifted, merged, factored, lowered, ended}
use Rattle.theory_rewriting.specs.Inversion.{stepped}
use Rattle.theory_forms.specs.Fine.{fine, fine-⊕, fine_node}
use Rattle.theory_rewriting.specs.FineKept.{change_fine, change_root, change_size}
use Rattle.theory_forms.specs.Shape.{plain_encode, plain_parts, Shaped, shaped, shaped_flat, shaped_trees}
use Rattle.theory_forms.specs.Seats.{bare, ordered, seated_code, ordered_before, some_child, least_busy}

-- A list of nodes in which one tree changed in its place.
pub record Changed (ns ms : List Node) : Type 0 where
  pub before : List Node
  pub conn : Conn
  pub children : Forest
  pub rest : Forest
  pub new : Forest
  pub was : ns ≡ before ++ encode (node conn children rest)
  pub became : ms ≡ before ++ encode (new ⊕ rest)
  pub done : Change conn children new

-- A step changes one tree in its place.
pub step_changed : (r p i j : ℕ) (ns : List Node) {ms : List Node} {t : ℕ} → trees ns ≡ some t → step r p i j ns ≡ some ms → Changed ns ms
step_changed r p i j ns {ms} h e =
    let s = stepped r p i j ns e in
    let w = s.rewriting in
    let u = trees_drop p ns h in
    let end = sym (encode_decode (drop p ns) u.0 u.1).0 ∙ ap encode w.was in
    record {
      before = take p ns;
      conn = w.conn;
      children = w.children;
      rest = w.rest;
      new = w.new;
      was = sym (take-append-drop p ns) ∙ ap (λ xs. take p ns ++ xs) end;
      became = s.nodes ∙ ap (λ f. take p ns ++ encode f) w.became;
      done = w.done;
    }

-- A change at the root gives the root again.
root_shaped :
    (n : ℕ) (kids : Forest) {c : Conn} {k rest new : Forest} →
    fine n kids ≡ true →
    node root kids nil ≡ node c k rest →
    Change c k new →
    Shaped n (encode (new ⊕ rest))
root_shaped n kids {c} {k} {rest} {new} h e x =
    let p : c ≡ root = cc in
    let q : k ≡ kids = cc in
    let r : rest ≡ nil = cc in
    let y : Change root kids new = rw (p, q) at x in
    let m = change_root n y h in
    record { kids = m.0; spelled = ap encode (rw r (⊕-nil new) ∙ m.1); fine = m.2 }

-- A node that changes is no constant, so no member.
change_busy : {c : Conn} {k g : Forest} → Change c k g → bare c (size k) ≡ false
unfolding size
change_busy {c} {k} (absorbed p q o e n r) = some_child c (size k) (omega arith)
change_busy {c} {k} (omitted p q e r) = some_child c (size k) (omega (arith, ap size e, size-⊕ p (node (neutral c) nil q)))
change_busy {c} {k} (unwrapped o n e r) = some_child c (size k) (omega arith)
change_busy {c} {k} (spreaded p q l o n e m r) = some_child c (size k) (omega (arith, ap size e, size-⊕ p (lit l q)))
change_busy {c} {k} (lifted p a b q l o n e r) = some_child c (size k) (omega (arith, ap size e, size-⊕ p (node and (a ⊕ lit l b) q)))
change_busy {c} {k} (merged p a q n e r) = some_child c (size k) (omega (arith, ap size e, size-⊕ p (node and a q)))
change_busy {c} {k} (factored a n e m r) = some_child c (size k) (omega (arith, groups_size k))
change_busy {c} {k} (lowered p q a n e r) = rw n (least_busy a (size k))
change_busy {c} {k} (ended a d m n e r) = rw n (least_busy a (size k))

-- A change below the root keeps the number of trees and leaves plain nodes, members in their seats.
inner_shaped :
    (n : ℕ) (kids rest : Forest) (b : List Node) {c : Conn} {k new : Forest} →
    fine n kids ≡ true →
    encode kids ≡ b ++ encode (node c k rest) →
    Change c k new →
    Shaped n (head root (size kids) ∷ b ++ encode (new ⊕ rest))
unfolding size encode
inner_shaped n kids rest b {c} {k} {new} h e x =
    let old = node c k rest in
    let sizes : size (new ⊕ rest) ≡ size old = omega (arith, size-⊕ new rest, change_size x) in
    let same = trees_after b _ _ (trees_code (new ⊕ rest) ∙ ap some sizes ∙ sym (trees_code old)) in
    let later = encode (new ⊕ rest) in
    let told = same ∙ ap trees (sym e) ∙ trees_code kids in
    let both = plain_parts n kids h in
    let s = and_split (all (plain n) b) (all (plain n) (encode old)) (sym (all_append (plain n) b (encode old)) ∙ ap (all (plain n)) (sym e) ∙ both.0) in
    let o = ordered_before c (size k) (encode k ++ encode rest) (change_busy x) b later (ap ordered (sym e) ∙ seated_code kids ∙ both.1) in
    let u = fine_node n c k rest (plain_encode n old ∙ and_join s.1 (sym (seated_code old) ∙ o.0)) in
    let v = plain_parts n (new ⊕ rest) (fine-⊕ n new rest ∙ and_join (change_fine n x u.0 u.1) u.2) in
    let code = (encode_decode (b ++ later) _ told).0 in
    shaped n (size kids) (b ++ later) told
    (all_append (plain n) b later ∙ and_join s.0 v.0)
    (sym (seated_code (decode (b ++ later))) ∙ ap ordered code ∙ o.1 (seated_code (new ⊕ rest) ∙ v.1))

pub changed_shaped : {n : ℕ} {ns ms : List Node} → Changed ns ms → Shaped n ns → Shaped n ms
changed_shaped {n} {ns} {ms} w s = go w.before w.was w.became
  where
    go : (b : List Node) → ns ≡ b ++ encode (node w.conn w.children w.rest) → ms ≡ b ++ encode (w.new ⊕ w.rest) → Shaped n ms
    go [] e f =
        let whole = sym (decode_encode _) ∙ ap decode (sym s.spelled ∙ e) ∙ decode_encode _ in
        rw f (root_shaped n s.kids s.fine whole w.done)
    go (x ∷ b) e f =
        let flat = shaped_flat s in
        let first : head root (size s.kids) ≡ x = cc in
        let inside : encode s.kids ≡ b ++ encode (node w.conn w.children w.rest) = cc in
        rw (f, ← first) (inner_shaped n s.kids w.rest b s.fine inside w.done)

-- A step keeps the form of a sheet.
pub step_shaped : (r p i j : ℕ) {n : ℕ} {ns ms : List Node} → Shaped n ns → step r p i j ns ≡ some ms → Shaped n ms
step_shaped r p i j {n} {ns} s e = changed_shaped (step_changed r p i j ns (shaped_trees s) e) s
