-- What a step did, with its family: the tree at its place became one tree, and what stands before and after it stayed.
use Rattle.std.specs.Prelude.{List, ◌++◌, ◌≡◌, ℕ, length, take, drop}
use Rattle.std.proofs.Math.Option.{some}
use Rattle.std.proofs.Math.Path.{sym, ap}
use Rattle.std.proofs.Common.{◌∙◌, arith, take-append-drop, length-take}
use Rattle.model.specs.Forest.{Conn, Forest, node, ◌⊕◌, size, after}
use Rattle.model.specs.Code.{Node, encode, decode, trees}
use Rattle.model.specs.Rules.{Family, change, turn, rewrite, step}
use Rattle.theory_forms.specs.Logic.{some_inj, then_some, only_then}
use Rattle.theory_forms.specs.Forests.{size-⊕, after-⊕}
use Rattle.theory_forms.specs.Codes.{decode_encode, encode_decode, trees_after, trees_code, trees_drop}
use Rattle.theory_rewriting.specs.Changes.{Change}
use Rattle.theory_rewriting.specs.Inversion.{rewritten}
use Rattle.theory_rewriting.specs.Bounds.{step_within}
use Rattle.theory_rewriting.specs.FineKept.{change_size}
use Rattle.theory_rewriting.specs.Turns.{family_at, family_of}
use Rattle.locality.specs.ChildPlaces.{Rest, rest_of}

pub record Turned (x : Family) (p i j : ℕ) (ns ms : List Node) : Type 0 where
  pub before : List Node
  pub conn : Conn
  pub children : Forest
  pub rest : Forest
  pub new : Forest
  pub place : length before ≡ p
  pub was : ns ≡ before ++ encode (node conn children rest)
  pub became : ms ≡ before ++ encode (new ⊕ rest)
  pub made : change x conn i j children ≡ some new
  pub done : Change conn children new

module _ {x : Family} {p i j : ℕ} {ns ms : List Node} (w : Turned x p i j ns ms) where
  -- The nodes from the place on, before and after.
  pub old_here : Rest p ns (encode (node w.conn w.children w.rest))
  old_here = rw w.was (rest_of p w.before (encode (node w.conn w.children w.rest)) w.place)

  pub new_here : Rest p ms (encode (w.new ⊕ w.rest))
  new_here = rw w.became (rest_of p w.before (encode (w.new ⊕ w.rest)) w.place)

  -- One tree becomes one tree.
  pub one_tree_new : size w.new ≡ 1
  one_tree_new = change_size w.done

  -- So there are as many trees as before.
  pub turned_trees : trees ms ≡ trees ns
  unfolding size
  turned_trees =
      let old = node w.conn w.children w.rest in
      let sizes : size (w.new ⊕ w.rest) ≡ size old = omega (arith, size-⊕ w.new w.rest, one_tree_new) in
      ap trees w.became
      ∙ trees_after w.before _ _ (trees_code (w.new ⊕ w.rest) ∙ ap some sizes ∙ sym (trees_code old))
      ∙ ap trees (sym w.was)

  -- The trees after the one at the place stayed.
  pub rest_stays : after 1 (decode (drop p ns)) ≡ after 1 (decode (drop p ms))
  unfolding after
  rest_stays =
      ap (λ xs. after 1 (decode xs)) old_here.left
      ∙ ap (after 1) (decode_encode (node w.conn w.children w.rest))
      ∙ sym (ap (λ n. after n (w.new ⊕ w.rest)) (sym one_tree_new) ∙ after-⊕ w.new w.rest)
      ∙ ap (after 1) (sym (decode_encode (w.new ⊕ w.rest)))
      ∙ ap (λ xs. after 1 (decode xs)) (sym new_here.left)

pub turned :
    (r p i j : ℕ) (ns : List Node) {ms : List Node} {t : ℕ} →
    trees ns ≡ some t →
    step r p i j ns ≡ some ms →
    Turned (family_at r) p i j ns ms
unfolding step turn
turned r p i j ns h e =
    let s = then_some (rewrite r i j (decode (drop p ns))) _ e in
    let w = rewritten r i j (decode (drop p ns)) s.1 in
    let u = trees_drop p ns h in
    let end = sym (encode_decode (drop p ns) u.0 u.1).0 ∙ ap encode w.was in
    let within = (step_within r p i j ns e).0 in
    let did = (only_then _ w.children _ w.turned).1 in
    record {
      before = take p ns;
      conn = w.conn;
      children = w.children;
      rest = w.rest;
      new = w.new;
      place = omega (arith, length-take p ns);
      was = sym (take-append-drop p ns) ∙ ap (λ xs. take p ns ++ xs) end;
      became = sym (some_inj s.2) ∙ ap (λ f. take p ns ++ encode f) w.became;
      made = ap (λ x. change x w.conn i j w.children) (sym (family_of r w.of_rule)) ∙ did;
      done = w.done;
    }
