-- From the executable rules to the relation `Change`: what an accepted rule, and an accepted step, did; and that a step is
-- accepted exactly where its rule is.
use Rattle.std.specs.Prelude.{Bool, true, ◌&&◌, not, ◌↔◌, ◌≡◌, refl, ℕ, zero, suc, ◌≤◌, leb, ltb, eqb, take, drop}
use mathlib.Core.List.{List, ◌++◌, Memᴰ}
use Rattle.std.proofs.Common.{⊎_elim, sym, ap, ◌∙◌, arith, leb-true, ltb-true, eqb-true}
use Rattle.std.proofs.Math.Option.{some, none}
use Rattle.std.proofs.lemmas.Bool.{eqb-false, not-true}
use Rattle.model.specs.Base.{all, then}
use Rattle.model.specs.Literal.{option}
use Rattle.model.specs.Forest.{Conn, and, or, root, at_least, Forest, nil, lit, node, ◌⊕◌, size, first, after, literal_at, conjunction_at, literals_only, has_unit}
use Rattle.model.specs.Code.{Node, encode, decode, conn_kind}
use Rattle.model.specs.Rules.{neutral, deciding, shares, groups, absorb, omit, unwrap, spread, lift, merge, factor, one_less, lower, drop_member}
use Rattle.model.specs.Rules.{decided, decide, renamed, rename, Family, absorbs, omits, unwraps, spreads, lifts, merges, factors, drops, decides, renames}
use Rattle.model.specs.Rules.{change, Row, table, row_of, turn, rewrite, step}
use Rattle.theory_forms.specs.Logic.{true_false, none_some, some_inj, and_split, only_some, first_some, pick_some, then_some, only_then, then_none}
use Rattle.theory_forms.specs.Lists.{all_at, get_elem?_mem}
use Rattle.theory_forms.specs.Forests.{literal_here, conjunction_here, constant_here, cut_at, grouping, conn_of_kind, mentions-⊕}
use Rattle.theory_forms.specs.Ended.{none_asked, too_many, one_asked, all_asked}
use Rattle.theory_rewriting.specs.Changes.{Change, absorbed, omitted, unwrapped, spreaded, lifted, merged, factored, lowered, ended}

-- The row of a rule is one of the table's.
pub of_table : (r : ℕ) {w : Row} → row_of r ≡ some w → Memᴰ w table
unfolding row_of
of_table zero e = none_some e
of_table (suc r) e = get_elem?_mem table r e

-- Which kinds of nodes and which fewest children a family of rules is for.
fits : ℕ → ℕ → Family → Bool
fits k n absorbs = leb 2 n && leb k 5
fits k n omits = true
fits k n unwraps = not (eqb k 5) && leb k 5
fits k n spreads = not (eqb k 3) && leb k 5
fits k n lifts = not (eqb k 4) && leb k 5
fits k n merges = eqb k 3
fits k n factors = eqb k 4
fits k n drops = eqb k 6
fits k n decides = true
fits k n renames = true

rows_fit : all (λ w. fits w.kind w.fewest w.family) table ≡ true
unfolding all table fits
rows_fit = refl

-- What a kind tells of a connective.
not_of : (c d : Conn) → not (eqb (conn_kind c) (conn_kind d)) ≡ true → c ≡ d → ⊥
not_of c d t e = eqb-false (conn_kind c) (conn_kind d) (not-true _ t) (ap conn_kind e)

is_of : (c d : Conn) → grouping d ≡ true → eqb (conn_kind c) (conn_kind d) ≡ true → c ≡ d
is_of c d g t = conn_of_kind c d g (eqb-true (conn_kind c) (conn_kind d) t)

pub least_of : (c : Conn) → eqb (conn_kind c) 6 ≡ true → (a : ℕ) × (c ≡ at_least a)
unfolding conn_kind
least_of and e = true_false (sym e)
least_of or e = true_false (sym e)
least_of root e = true_false (sym e)
least_of (at_least a) e = (a, refl)

-- Rules 4, 5, 6 and 15; 16; 17.
omits_change : (c : Conn) (i j : ℕ) (k : Forest) {g : Forest} → omit c i j k ≡ some g → Change c k g
unfolding omit
omits_change c i j k e =
    let o = only_some _ _ e in
    let here = constant_here (neutral c) i k (and_split (eqb j 0) _ o.0).1 in
    omitted (first i k) (after (suc i) k) (sym (cut_at i k _ here)) (sym o.1)

lowers_change : (a i j : ℕ) (k : Forest) {g : Forest} → lower (at_least a) i j k ≡ some g → Change (at_least a) k g
unfolding lower deciding one_less
lowers_change a i j k e =
    let o = only_some _ _ e in
    let here = constant_here and i k (and_split (eqb j 0) _ o.0).1 in
    lowered (first i k) (after (suc i) k) a refl (sym (cut_at i k _ here)) (sym o.1)

decides_change : (c : Conn) (k : Forest) {g : Forest} → decided c k ≡ some g → Change c k g
unfolding decided
decides_change and k e = none_some e
decides_change or k e = none_some e
decides_change root k e = none_some e
decides_change (at_least a) k e =
    ⊎_elim
    (λ w. ended a and nil refl (none_asked (eqb-true a 0 w.0)) (sym w.1))
    (λ w. let o = only_some (ltb (size k) a) _ w.1 in ended a or nil refl (too_many (ltb-true (size k) a o.0)) (sym o.1))
    (pick_some (eqb a 0) _ _ e)

renames_change : (c : Conn) (k : Forest) {g : Forest} → renamed c k ≡ some g → Change c k g
unfolding renamed
renames_change and k e = none_some e
renames_change or k e = none_some e
renames_change root k e = none_some e
renames_change (at_least a) k e =
    ⊎_elim
    (λ w. ended a or k refl (one_asked (eqb-true a 1 w.0)) (sym w.1))
    (λ w. let o = only_some (eqb a (size k)) _ w.1 in ended a and k refl (all_asked (eqb-true a (size k) o.0)) (sym o.1))
    (pick_some (eqb a 1) _ _ e)

-- A family of rules, where it fits, does a change.
family_change :
    (x : Family) (c : Conn) (n i j : ℕ) (k : Forest) {g : Forest} →
    fits (conn_kind c) n x ≡ true →
    n ≤ size k →
    change x c i j k ≡ some g →
    Change c k g
unfolding fits change absorb unwrap spread lift merge factor drop_member decide rename conn_kind grouping
family_change absorbs c n i j k t m e =
    let o = only_some _ _ e in
    let here = constant_here (deciding c) i k (and_split (eqb j 0) _ o.0).1 in
    let s = and_split (leb 2 n) _ t in
    absorbed (first i k) (after (suc i) k) s.1 (sym (cut_at i k _ here)) (omega (arith, leb-true 2 n s.0)) (sym o.1)
family_change omits c n i j k t m e = omits_change c i j k e
family_change unwraps c n i j k t m e =
    let o = only_some _ k e in
    let s = and_split (not (eqb (conn_kind c) 5)) _ t in
    unwrapped s.1 (not_of c root s.0) (eqb-true (size k) 1 (and_split (eqb i 0 && eqb j 0) _ o.0).1) (sym o.1)
family_change spreads c n i j k t m e =
    let w = then_some (literal_at (after i k)) _ e in
    let o = only_some _ _ w.2 in
    let here = literal_here i k w.1 in
    let inside = mentions-⊕ (option w.0) (first i k) (after (suc i) k) ∙ (and_split (eqb j 0) _ o.0).1 in
    let s = and_split (not (eqb (conn_kind c) 3)) _ t in
    spreaded (first i k) (after (suc i) k) w.0 s.1 (not_of c and s.0) (sym (cut_at i k _ here)) inside (sym o.1)
family_change lifts c n i j k t m e =
    let w = then_some (conjunction_at (after i k)) _ e in
    let inner = w.0 in
    let v = then_some (literal_at (after j inner)) _ w.2 in
    let here = conjunction_here i k w.1 ∙ ap (λ h. node and h (after (suc i) k)) (sym (cut_at j inner _ (literal_here j inner v.1))) in
    let s = and_split (not (eqb (conn_kind c) 4)) _ t in
    lifted (first i k) (first j inner) (after (suc j) inner) (after (suc i) k) v.0 s.1 (not_of c or s.0) (sym (cut_at i k _ here)) (sym (some_inj v.2))
family_change merges c n i j k t m e =
    let w = then_some (conjunction_at (after i k)) _ e in
    let o = only_some _ _ w.2 in
    let here = conjunction_here i k w.1 in
    merged (first i k) w.0 (after (suc i) k) (is_of c and refl t) (sym (cut_at i k _ here)) (sym o.1)
family_change factors c n i j k t m e =
    let w = then_some (conjunction_at (after i k)) _ e in
    let v = then_some (literal_at (after j w.0)) _ w.2 in
    let a = v.0 in
    let o = only_some _ _ v.2 in
    let least = literals_only (first i k) && not (has_unit a (first j w.0)) in
    let two = and_split (least && shares a k) (leb 2 (groups k)) o.0 in
    let shared = (and_split least (shares a k) two.0).1 in
    factored a (is_of c or refl t) shared (leb-true 2 (groups k) two.1) (sym o.1)
family_change drops c n i j k t m e =
    let a = least_of c t in
    rw a.1 (⊎_elim (omits_change (at_least a.0) i j k) (lowers_change a.0 i j k) (first_some _ _ (rw a.1 at e)))
family_change decides c n i j k t m e = decides_change c k (only_then (eqb i 0 && eqb j 0) k (decided c) e).1
family_change renames c n i j k t m e = renames_change c k (only_then (eqb i 0 && eqb j 0) k (renamed c) e).1

-- A row of the table, applied to a node with its children, does a change.
pub changed : {w : Row} → Memᴰ w table → (c : Conn) (i j : ℕ) (k : Forest) {g : Forest} → turn w c i j k ≡ some g → Change c k g
unfolding turn
changed {w} m c i j k e =
    let o = only_then (eqb w.kind (conn_kind c) && leb w.fewest (size k)) k _ e in
    let s = and_split (eqb w.kind (conn_kind c)) _ o.0 in
    let fit = all_at (λ v. fits v.kind v.fewest v.family) table rows_fit m in
    family_change w.family c w.fewest i j k (rw (eqb-true w.kind (conn_kind c) s.0) at fit) (leb-true w.fewest (size k) s.1) o.1

-- What a rule did to a forest: its row of the table turned the first tree, the trees after it stayed.
pub record Rewritten (r i j : ℕ) (f g : Forest) : Type 0 where
  pub row : Row
  pub conn : Conn
  pub children : Forest
  pub rest : Forest
  pub new : Forest
  pub was : f ≡ node conn children rest
  pub became : g ≡ new ⊕ rest
  pub of_rule : row_of r ≡ some row
  pub turned : turn row conn i j children ≡ some new
  pub done : Change conn children new

pub rewritten : (r i j : ℕ) (f : Forest) {g : Forest} → rewrite r i j f ≡ some g → Rewritten r i j f g
unfolding rewrite
rewritten r i j nil e = none_some e
rewritten r i j (lit l f) e = none_some e
rewritten r i j (node c k f) e =
    let w = then_some (row_of r) _ e in
    let t = then_some (turn w.0 c i j k) _ w.2 in
    record {
      row = w.0;
      conn = c;
      children = k;
      rest = f;
      new = t.0;
      was = refl;
      became = sym (some_inj t.2);
      of_rule = w.1;
      turned = t.1;
      done = changed (of_table r w.1) c i j k t.1;
    }

-- What a step did to a list of nodes: those before the place stayed, and the forest from the place on was rewritten.
pub record Stepped (place : ℕ) (ns ms : List Node) : Type 0 where
  pub rule : ℕ
  pub i : ℕ
  pub j : ℕ
  pub result : Forest
  pub rewriting : Rewritten rule i j (decode (drop place ns)) result
  pub nodes : ms ≡ take place ns ++ encode result

pub stepped : (r place i j : ℕ) (ns : List Node) {ms : List Node} → step r place i j ns ≡ some ms → Stepped place ns ms
unfolding step
stepped r place i j ns e =
    let w = then_some (rewrite r i j (decode (drop place ns))) _ e in
    record {
      rule = r;
      i = i;
      j = j;
      result = w.0;
      rewriting = rewritten r i j (decode (drop place ns)) w.1;
      nodes = sym (some_inj w.2);
    }

-- A step, or that there is none, from the rule on the forest that stands at the place.
pub step_some :
    (r p i j : ℕ) (ns : List Node) {f : Forest} →
    rewrite r i j (decode (drop p ns)) ≡ some f →
    step r p i j ns ≡ some (take p ns ++ encode f)
unfolding step then
step_some r p i j ns e = rw e

pub step_none : (r p i j : ℕ) (ns : List Node) → (step r p i j ns ≡ none) ↔ (rewrite r i j (decode (drop p ns)) ≡ none)
unfolding step
step_none r p i j ns = then_none (rewrite r i j (decode (drop p ns))) (λ f. take p ns ++ encode f)
