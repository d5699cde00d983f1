-- Bounds that rise, and what all bounds together tell.
use mathlib.Core.Bool.{true, false, ◌&&◌}
use mathlib.Core.List.{List}
use mathlib.Core.Logic.{◌⊎◌, inl, inr, ⊎_elim}
use mathlib.Core.Option.{none, some}
use mathlib.Core.Path.{◌≡◌, refl, sym, ap, subst, ◌∙◌}
use Prim.Native.Nat.{ℕ, zero, suc, ◌+◌, ◌≤◌, ◌<◌}
use native.Mathlib.Omega.{arith}
use borrow.Author.Count.{below_more}
use borrow.Author.Tests.{ne_eqb, eqb-true, eqb-false}
use lib.Dec.{eqb, leb}
use lib.ListN.{length, get_or, drop, set, length-set}
use lib.Seq.{get_or-set_same, get_or-set_other}
use Rattle.model.specs.Code.{encode, decode, kind, children}
use Rattle.model.specs.Base.{is_some}
use Rattle.model.specs.Literal.{Literal}
use Rattle.model.specs.Forest.{Forest, nil, lit, node, size, literal_at}
use Rattle.model.specs.Rules.{rewrite}
use Rattle.model.specs.Sheet.{used_in, nodes_in}
use Rattle.model.specs.Strategy.{least_i, least_place}
use Rattle.theory_forms.specs.Logic.{true_false, none_some, either}
use Rattle.theory_forms.specs.Scan.{is_literal}
use Rattle.theory_reading.specs.Leaves.{head_inner}
use Rattle.theory_reading.specs.Flat.{spell, Fits, fits_tree}
use Rattle.theory_rewriting.specs.Children.{first_left}
use Rattle.theory_forms.specs.Sheets.{Formed}
use Rattle.theory_reading.specs.Stretches.{forest_in, sheet_stretch}
use Rattle.rule_table.specs.Columns.{kind_for, fewest_for}
use Rattle.rule_table.specs.Headings.{headed}
use Rattle.rule_table.proofs.HeadTests.{head_wrong}
use Rattle.search_sizes.specs.Ranges.{range_more, range_join}
use Rattle.search_place.proofs.SearchLevels.{i_never, p_none}
use Rattle.search_place.proofs.LentStretch.{sheet_spelled}
use Rattle.run_bounds.specs.BoundTables.{High, Rises, Tabled, Raised, ComeTo}

pub raised_again : {s sizes t u v : List ℕ} → Raised s sizes t u → Raised s sizes u v → Raised s sizes t v
raised_again a b = record { tables = b.tables; rises = λ q. omega (arith, a.rises q, b.rises q) }

pub high_lower : {r s from to : ℕ} (t : List ℕ) → s ≤ r → High r from to t → High s from to t
high_lower t less h q a b = let x = h q a b in omega arith

pub high_rises : {r from to : ℕ} (t u : List ℕ) → Rises t u → High r from to t → High r from to u
high_rises t u rises h q a b = let x = h q a b in let y = rises q in omega arith

pub high_more : {r from : ℕ} (to : ℕ) (t : List ℕ) → High r from to t → r ≤ get_or t to 0 → High r from (to + 1) t
high_more {r} to t h here = range_more (λ q. r ≤ get_or t q 0) to h here

pub high_join : {r from : ℕ} (mid : ℕ) {to : ℕ} (t : List ℕ) → High r from mid t → High r mid to t → High r from to t
high_join {r} mid t h g = range_join (λ q. r ≤ get_or t q 0) mid h g

-- A search that passes over places whose bounds are past its rule comes to a place further on.
pub come_further :
    {rule place : ℕ} {s sizes low : List ℕ} →
    ComeTo rule place s sizes low →
    {next : ℕ} →
    next ≤ used_in s →
    High (rule + 1) place next low →
    ComeTo rule next s sizes low
come_further {place = place} {low = low} w within high =
    record {
      tables = w.tables;
      some_rule = w.some_rule;
      past_all = w.past_all;
      high = w.high;
      within = within;
      past = high_join place low w.past high;
    }

-- One entry of a table, after a store.
stored :
    (t : List ℕ) (place x q : ℕ) →
    place < length t →
    ((q ≡ place) × (get_or (set t place x) q 0 ≡ x)) ⊎ (get_or (set t place x) q 0 ≡ get_or t q 0)
stored t place x q h =
    ⊎_elim
    (λ e. let same : q ≡ place = eqb-true q place e in
    inl (same, ap (λ k. get_or (set t place x) k 0) same ∙ get_or-set_same t place x 0 h))
    (λ e. inr (get_or-set_other t place q x 0 (eqb-false q place e)))
    (either (eqb q place))

-- A sheet with its tables, and a place of it.
module _ {s sizes t : List ℕ} (w : Tabled s sizes t) where
  pub raised_same : Raised s sizes t t
  raised_same = record { tables = w; rises = λ q. omega arith }

  module _ {place : ℕ} (within : place < used_in s) where
    pub entry_there : place < length t
    entry_there = omega (arith, w.long, w.measured.sheet.used)

    -- What its bound says.
    pub bound_tells : (r : ℕ) → 1 ≤ r → r < get_or t place 0 → none ≡ least_i r place (decode (drop place (nodes_in s)))
    bound_tells r = w.right place r (omega (arith, w.measured.sheet.count))

    -- Besides, a rule that the bound has come to does not apply.
    pub tells_more :
        {rule : ℕ} →
        get_or t place 0 ≡ rule →
        none ≡ least_i rule place (decode (drop place (nodes_in s))) →
        (r : ℕ) →
        1 ≤ r →
        r < rule + 1 →
        none ≡ least_i r place (decode (drop place (nodes_in s)))
    tells_more {rule} come e r one lt =
        below_more (λ k. 1 ≤ k → none ≡ least_i k place (decode (drop place (nodes_in s)))) rule (λ k l m. bound_tells k m (omega arith))
        (λ m. e) r lt one

    -- The bound rises to a number below which no rule applies.
    pub raised_to :
        {x : ℕ} →
        get_or t place 0 ≤ x →
        ((r : ℕ) → 1 ≤ r → r < x → none ≡ least_i r place (decode (drop place (nodes_in s)))) →
        Raised s sizes t (set t place x)
    raised_to {x} up quiet =
        record {
          tables = record {
            measured = w.measured;
            long = length-set t place x ∙ w.long;
            right = λ q r inside one lt. ⊎_elim
                (λ e. subst (λ k. none ≡ least_i r k (decode (drop k (nodes_in s)))) (sym e.0) (quiet r one (omega (arith, e.1))))
                (λ e. w.right q r inside one (omega arith))
                (stored t place x q entry_there);
          };
          rises = λ q. ⊎_elim
              (λ e. omega (arith, e.1, ap (λ k. get_or t k 0) e.0))
              (λ e. omega arith)
              (stored t place x q entry_there);
        }

-- The first tree of what stands at a literal's number is that literal.
no_literal : (z : ℕ) → is_literal (get_or (spell nil z) 0 0) ≡ false
unfolding spell encode is_literal kind
no_literal zero = refl
no_literal (suc z) = refl

first_is : (f : Forest) (z : ℕ) → Fits f → is_literal (get_or (spell f z) 0 0) ≡ true → (l : Literal) × (literal_at f ≡ some l)
unfolding literal_at spell encode
first_is nil z h e = true_false (sym e ∙ no_literal z)
first_is (lit x f) z h e = (x, refl)
first_is (node c k f) z h e = true_false (sym e ∙ head_inner c (size k) (fits_tree c k f h).0)

-- There no rule applies.
literal_quiet : (r p : ℕ) (f : Forest) {l : Literal} → literal_at f ≡ some l → none ≡ least_i r p f
unfolding literal_at rewrite is_some
literal_quiet r p nil e = none_some e
literal_quiet r p (lit x f) e = i_never r p (lit x f) (λ i j. refl)
literal_quiet r p (node c k f) e = none_some e

pub literal_none :
    {s : List ℕ} →
    Formed s →
    (p : ℕ) →
    p < used_in s →
    is_literal (get_or s (2 + p) 0) ≡ true →
    (r : ℕ) →
    none ≡ least_i r p (decode (drop p (nodes_in s)))
literal_none {s} h p lt it r =
    let w = sheet_spelled h p (omega arith) in
    let f = decode (drop p (nodes_in s)) in
    let here : is_literal (get_or (spell f w.0) 0 0) ≡ true =
    ap (λ xs. is_literal (get_or xs 0 0)) (sym w.1) ∙ ap is_literal (first_left (2 + p) s) ∙ it in
    literal_quiet r p f (first_is f w.0 w.2 here).1

-- A rule for another kind of node does not apply.
pub kind_none :
    {s : List ℕ} →
    Formed s →
    (p : ℕ) →
    p < used_in s →
    (r : ℕ) →
    (kind_for r ≡ kind (get_or s (2 + p) 0) → ⊥) →
    none ≡ least_i r p (decode (drop p (nodes_in s)))
unfolding headed
kind_none {s} h p lt r other =
    let l = drop (2 + p) s in
    let w = sheet_stretch s p h (omega arith) in
    let off : headed r l ≡ false =
    ap (λ b. b && leb (fewest_for r) (children (get_or l 0 0)))
    (ne_eqb (kind (get_or l 0 0)) (kind_for r) (λ e. other (sym e ∙ ap kind (first_left (2 + p) s)))) in
    i_never r p (forest_in l) (head_wrong r w.0 off) ∙ ap (least_i r p) w.1

-- Where the search has come to a rule and a place: before the place the rule applies nowhere, and no lower rule applies at all.
module _ {rule place : ℕ} {s sizes low : List ℕ} (w : ComeTo rule place s sizes low) where
  pub none_before : (q : ℕ) → q < place → none ≡ least_i rule q (decode (drop q (nodes_in s)))
  none_before q l =
      let x = w.past q (omega arith) l in
      bound_tells w.tables {place = q} (omega (arith, w.within)) rule w.some_rule (omega arith)

  pub none_lower : (r : ℕ) → 1 ≤ r → r < rule → none ≡ least_place r (nodes_in s)
  none_lower r one lt =
      p_none r (nodes_in s) (λ q l. let x = w.high q (omega arith) (omega (arith, w.tables.measured.sheet.count)) in
      w.tables.right q r l one (omega arith))

  -- The same from the first place on.
  pub come_first : ComeTo rule 0 s sizes low
  come_first =
      record {
        tables = w.tables;
        some_rule = w.some_rule;
        past_all = w.past_all;
        high = w.high;
        within = omega arith;
        past = λ q a b. absurd (omega arith);
      }
