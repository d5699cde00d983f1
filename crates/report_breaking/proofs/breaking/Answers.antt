use mathlib.Core.Bool.{true, false, ◌||◌}
use mathlib.Core.List.{List, [], ◌∷◌}
use mathlib.Core.Logic.{⊎_elim}
use mathlib.Core.Path.{◌≡◌, sym, ap, ◌∙◌}
use Prim.Native.Nat.{ℕ, suc, ◌+◌, ◌-◌, ◌%◌, ◌≤◌, ◌<◌}
use native.Mathlib.Omega.{arith}
use borrow.Author.Tests.{eqb-true, eqb-false, eq-eqb, ne_eqb}
use lib.Dec.{eqb}
use lib.ListN.{length, get_or, take, drop, set, replicate, length-drop, length-replicate}
use lib.Seq.{drop-cons, drop-length, length-take-le, get_or-take}
use Rattle.model.specs.Limits.{sheet_room, most_literals}
use Rattle.model.specs.Code.{children}
use Rattle.theory_forms.specs.Logic.{either, true_false, fails_if, pick_keeps}
use Rattle.theory_forms.specs.Scan.{is_literal}
use Rattle.theory_reading.specs.Leaves.{place_at}
use Rattle.theory_meaning.specs.Evaluation.{count}
use Rattle.theory_meaning.specs.FailedLiterals.{zero_everywhere}
use Rattle.theory_meaning.specs.NumberTrees.{with_node, tree_fails, SpellsTree}
use Rattle.theory_meaning.specs.TreeValues.{values_of, values_none, values_more, values_length, trees_of, NodeHere, node_here, tree_value}
use Rattle.report_breaking.specs.Breaking.{opposite, IsBrokenBy}
use Rattle.report_breaking.specs.Stacks.{among, begin, failing, broken, bottom, standing, tried, Blank, Apart, Stack}
use Rattle.report_breaking.proofs.Among.{among_at, among_index}
use Rattle.report_breaking.proofs.Entries.{bottom_empty, stacked_take, broken_length, broken_take}
use Rattle.report_breaking.proofs.Groups.{fail_as_they_are}
use Rattle.report_breaking.proofs.Tried.{tried_asked, tried_not, tried_none}
use Rattle.report_breaking.proofs.breaking.Goals as goal
use Rattle.report_breaking.proofs.breaking.Goals.{At-loop-i}
use Rattle.report_breaking.proofs.breaking.Invariants.{Read}

begun : (tree t places stack held : List ℕ) → length places ≡ sheet_room → length stack ≡ sheet_room → Blank held →
    Read tree t places stack held (length stack) 0 (length tree)
unfolding broken bottom among
begun tree t places stack held w d b =
    record {
      left = omega arith;
      wide = w;
      deep = d;
      blank = b;
      sound = record {
        room = omega arith;
        low = omega arith;
        stacked = rw (drop-length stack) tt;
        whole = rw (drop-length stack);
        inside = λ x h. true_false (sym h);
      };
      told = λ q. rw (drop-length stack, drop-length tree) (sym (values_none (tried t q)));
    }

module _ {tree t places stack held : List ℕ} {top end i : ℕ} (h : SpellsTree tree) (few : length tree ≤ sheet_room)
    (whole : length t ≡ most_literals) (r : Read tree t places stack held top end i) where
  -- As many entries stand on the stack as there are trees.
  entries : length (drop top stack) ≡ trees_of (drop i tree)
  entries = sym (broken_length 0 (take end places) (drop top stack)) ∙ ap length (r.told 0) ∙ values_length (tried t 0) (drop i tree)

  here : 0 < i → NodeHere tree (i - 1)
  here l = let k = r.left in node_here tree h (i - 1) (omega arith)

  -- The number before them finds its room on the stack, and its children.
  asked : 0 < i → {x : ℕ} → x ≡ get_or tree (i - 1) 0 →
      (1 ≤ top) × (is_literal x ≡ true → place_at x < most_literals) × (is_literal x ≡ false → top + children x ≤ length stack)
  asked l e =
      let n = here l in
      let p : suc (i - 1) ≡ i = omega arith in
      let low = r.sound.low in
      let deep = r.deep in
      let wide = entries in
      let left = length-drop top stack in
      let few-trees = rw p at n.few in
      let enough = rw (p, ← e) at n.enough in
      (omega arith, λ q. rw e (n.inside (rw e at q)), λ q. omega (arith, enough q))

  -- As they are, no more of the first trees fail than do not stand.
  as_they_are : (m : ℕ) → count (take m (values_of t (drop i tree))) ≤ length (take m (drop top stack)) - standing (take m (drop top stack))
  as_they_are m =
      let ls = take end places in
      let fs = drop top stack in
      let now : values_of t (drop i tree) ≡ broken most_literals ls fs =
      ap (λ u. values_of u (drop i tree)) (sym (tried_none t whole)) ∙ sym (r.told most_literals) in
      rw (now, ← broken_take most_literals m ls fs)
      (fail_as_they_are most_literals ls (take m fs) (length-take-le end places r.sound.room) (stacked_take end m fs r.sound.stacked)
      (fails_if (among most_literals ls) (λ e. omega (arith, r.sound.inside most_literals e))))

  -- A literal that is tried makes at most one member more fail.
  apart : 0 < i → {x : ℕ} → x ≡ get_or tree (i - 1) 0 → Apart x (take end places) (take (children x) (drop top stack))
  unfolding tried
  apart l {x} e six q =
      let p : suc (i - 1) ≡ i = omega arith in
      let m = children x in
      let put = rw (p, ← e) at ((here l).one_more (rw e at six) t q) in
      let one : count (take m (values_of (tried t q) (drop i tree))) ≤ suc (count (take m (values_of t (drop i tree)))) =
      pick_keeps (λ u. count (take m (values_of u (drop i tree))) ≤ suc (count (take m (values_of t (drop i tree)))))
      (eqb (get_or t (opposite q) 0) 1) (omega arith) put in
      rw (broken_take q m (take end places) (drop top stack), r.told q) (omega (arith, one, as_they_are m))

  -- What is read with it.
  more : 0 < i → {x : ℕ} → x ≡ get_or tree (i - 1) 0 → {places' stack' held' : List ℕ} {top' end' : ℕ} →
      length places' ≡ length places → length stack' ≡ length stack → end' ≤ end + 1 → Stack places' stack' top' end' →
      Blank held' →
      ((q : ℕ) → broken q (take end' places') (drop top' stack') ≡ with_node (tried t q) x (broken q (take end places) (drop top stack))) →
      Read tree t places' stack' held' top' end' (i - 1)
  more l {x} e w d below s b f =
      let p : suc (i - 1) ≡ i = omega arith in
      record {
        left = omega (arith, r.left);
        wide = w ∙ r.wide;
        deep = d ∙ r.deep;
        blank = b;
        sound = s;
        told = λ q. f q ∙ ap (with_node (tried t q) x) (r.told q) ∙ rw ((here l).numbers, values_more, p, e);
      }

-- Where all are read, one entry stands on the stack, and the literals are the tree's own.
module _ {tree t places stack held : List ℕ} {top end i : ℕ} (h : SpellsTree tree) (r : Read tree t places stack held top end i)
    (z : i ≡ 0) where
  one : (q : ℕ) → broken q (take end places) (drop top stack) ≡ tree_fails (tried t q) tree ∷ []
  one q = r.told q ∙ rw z (tree_value tree h (tried t q))

  single : length (drop top stack) ≡ 1
  single = sym (broken_length 0 (take end places) (drop top stack)) ∙ ap length (one 0)

  top_left : top < length stack
  top_left = omega (arith, length-drop top stack, single)

  entry : ℕ
  entry = get_or stack top 0

  next : drop top stack ≡ entry ∷ drop (suc top) stack
  unfolding entry
  next = drop-cons stack top 0 top_left

  -- They begin at the start.
  start : begin entry ≡ 0
  unfolding bottom
  start =
      let rest : length (drop (suc top) stack) ≡ 0 = omega (arith, single, length-drop top stack, length-drop (suc top) stack) in
      sym (bottom_empty (begin entry) (drop (suc top) stack) rest) ∙ rw next at r.sound.whole

  verdict : (q : ℕ) → (failing entry || among q (take end places)) ≡ tree_fails (tried t q) tree
  unfolding broken
  verdict q =
      let e : (failing entry || among q (drop (begin entry) (take end places)))
      ∷ broken q (take (begin entry) (take end places)) (drop (suc top) stack)
      ≡ tree_fails (tried t q) tree ∷ [] = rw next at (one q) in
      let f : (failing entry || among q (drop (begin entry) (take end places))) ≡ tree_fails (tried t q) tree = cc in
      ap (λ n. failing entry || among q (drop n (take end places))) (sym start) ∙ f

  module _ (wide : length t ≡ most_literals) where
    falls : get_or stack top 0 % 2 ≡ 1 → tree_fails t tree ≡ true
    unfolding failing entry
    falls e =
        let b : failing entry ≡ true = eq-eqb (entry % 2) 1 e in
        sym (ap (λ u. tree_fails u tree) (tried_none t wide)) ∙ sym (verdict most_literals) ∙ rw b

    module _ (odd : get_or stack top 0 % 2 ≡ 1 → ⊥) where
      exact : (q : ℕ) → among q (take end places) ≡ tree_fails (tried t q) tree
      unfolding failing entry
      exact q = let b : failing entry ≡ false = ne_eqb (entry % 2) 1 odd in rw b at (verdict q)

      stood : tree_fails t tree ≡ false
      stood =
          sym (ap (λ u. tree_fails u tree) (tried_none t wide)) ∙ sym (exact most_literals)
          ∙ fails_if (among most_literals (take end places)) (λ e. omega (arith, r.sound.inside most_literals e))

      -- A literal of the list breaks the tree; its complement does not fail, or nothing would be tried.
      breaks : (x : ℕ) → among x (take end places) ≡ true → tree_fails (set t x 1) tree ≡ true
      breaks x e = ⊎_elim
          (λ f. true_false (sym e ∙ exact x ∙ ap (λ u. tree_fails u tree) (tried_not t x (eqb-true (get_or t (opposite x) 0) 1 f)) ∙ stood))
          (λ f. ap (λ u. tree_fails u tree) (sym (tried_asked t x (eqb-false (get_or t (opposite x) 0) 1 f))) ∙ sym (exact x) ∙ e)
          (either (eqb (get_or t (opposite x) 0) 1))

      long : length (take end places) ≡ end
      long = length-take-le end places r.sound.room

      listed : (k : ℕ) → k < end → among (get_or places k 0) (take end places) ≡ true
      listed k l = rw (← get_or-take end places k 0 l) (among_at (take end places) k (omega (arith, long)))

      found : (q : ℕ) → among q (take end places) ≡ true → (k : ℕ) × (k < end) × (get_or places k 0 ≡ q)
      found q e =
          let w = among_index q (take end places) e in
          let l : w.0 < end = omega (arith, w.1, long) in
          (w.0, l, sym (get_or-take end places w.0 0 l) ∙ w.2)

      stands : IsBrokenBy t tree places end
      stands =
          record {
            few = omega (arith, r.sound.room, r.wide);
            stands = stood;
            each = λ k l. (r.sound.inside (get_or places k 0) (listed k l), breaks (get_or places k 0) (listed k l));
            all = λ q l d e. found q (exact q ∙ ap (λ u. tree_fails u tree) (tried_asked t q d) ∙ e);
          }

-- The counts at the start.
blank_zeros : Blank (replicate most_literals 0)
blank_zeros = (length-replicate {A = ℕ} most_literals 0, zero_everywhere most_literals)

pub loop-i-init : goal.loop-i-init
loop-i-init c =
    begun _ _ _ _ _ c.requires.3 c.requires.4 blank_zeros

pub read_node-next-requires : goal.read_node-next-requires
read_node-next-requires c =
    let p = c.requires in
    let r = c.loop-i.invariant in
    let l = c.loop-i-test.true in
    record {
      le_top = asked p.0 p.1 p.2 r l c.from.ensures;
      end_lt_sheet_room = (omega (arith, r.left, p.1), r.wide, r.deep, r.sound);
      failed_len = (p.2, r.blank);
      apart = apart p.0 p.1 p.2 r l c.from.ensures;
    }

pub loop-i-preserved : goal.loop-i-preserved
loop-i-preserved c =
    let call = c.read_node-next in
    let p = c.requires in
    let e = call.ensures.end_bound in
    more p.0 p.1 p.2 c.loop-i.invariant c.loop-i-test.true c.from.ensures call.auto.places call.auto.stack e.0 e.1 e.2 call.ensures.by_index

pub bounds-stack-top : goal.bounds-stack-top
bounds-stack-top c =
    top_left c.requires.0 c.loop-i.invariant (omega arith)

pub returns-then-stack-top-eq1 : goal.returns-then-stack-top-eq1
returns-then-stack-top-eq1 c =
    let p = c.requires in
    falls p.0 c.loop-i.invariant (omega arith) p.2 c.if-stack-top-eq1.true

pub returns-else-stack-top-eq1 : goal.returns-else-stack-top-eq1
returns-else-stack-top-eq1 c =
    let p = c.requires in
    stands p.0 c.loop-i.invariant (omega arith) p.2 c.if-stack-top-eq1.false
