-- The table of a sheet's parts as it is filled: a conjunction passed, one part more.
use mathlib.Core.Bool.{true, ◌||◌}
use mathlib.Core.List.{List, ◌∷◌, map}
use mathlib.Core.Logic.{◌⊎◌, inl, inr, ⊎_elim}
use mathlib.Core.Option.{some}
use mathlib.Core.Path.{◌≡◌, sym, ap, ◌∙◌}
use Prim.Native.Nat.{ℕ, suc, ◌+◌, ◌-◌, ◌≤◌, ◌<◌}
use native.Mathlib.Omega.{arith}
use borrow.Author.Tests.{ltb-true, ltb-false}
use lib.Dec.{ltb}
use lib.ListN.{length, get_or, set, take, drop, replicate, length-set, length-drop, length-replicate}
use lib.Seq.{take-take, drop-drop, drop-cons, get_or-take, get_or-drop, length-take-le, get_or-set_same, get_or-set_other}
use Rattle.model.specs.Limits.{sheet_length}
use Rattle.model.specs.Forest.{all_seated}
use Rattle.model.specs.Code.{kind, decode, trees, node_of, number_of}
use Rattle.model.specs.Sheet.{used_in, numbers_in, nodes_in}
use Rattle.theory_forms.specs.Logic.{true_false, either, or_split, or_left, or_right}
use Rattle.theory_forms.specs.Lists.{map_drop}
use Rattle.theory_forms.specs.Codes.{trees_drop}
use Rattle.theory_reading.specs.Spans.{span, span_within}
use Rattle.theory_forms.specs.Shape.{shaped_trees, shaped_seated}
use Rattle.theory_forms.specs.Sheets.{Formed}
use Rattle.theory_meaning.specs.NumberTrees.{tree_fails}
use Rattle.theory_meaning.specs.TreeValues.{seated_from}
use Rattle.report_parts.specs.Parts.{stretch, Claimed, Part, PartFails, Parted}
use Rattle.theory_forms.specs.Lists.{drop_take}
use Rattle.theory_meaning.specs.FailedLiterals.{zero_everywhere}
use Rattle.report_parts.proofs.Parting.{conjunction_fails, none_fails, first_one, first_seated, first_or_later, first_some}
use Rattle.report_parts.proofs.Linking.{same_or_not, literal_place}

-- Stretches of a list: the first number, and a stretch cut in two.
pub stretch_first : (i e : ℕ) (s : List ℕ) → i < e → i < length s → stretch i e s ≡ get_or s i 0 ∷ stretch (i + 1) e s
stretch_first i e s h l =
    let n : e - i ≡ suc (e - (i + 1)) = omega arith in
    let m : suc i ≡ i + 1 = omega arith in
    rw (n, drop-cons s i 0 l, m)

pub stretch_number : (i e n : ℕ) (s : List ℕ) → n < e - i → get_or (stretch i e s) n 0 ≡ get_or s (i + n) 0
stretch_number i e n s h = get_or-take (e - i) (drop i s) n 0 h ∙ get_or-drop i s n 0

pub stretch_long : (i e : ℕ) (s : List ℕ) → e ≤ length s → length (stretch i e s) ≡ e - i
stretch_long i e s h = length-take-le (e - i) (drop i s) (omega (arith, length-drop i s))

module _ (i e k : ℕ) (s : List ℕ) (h : i + k ≤ e) where
  stretch_start : take k (stretch i e s) ≡ stretch i (i + k) s
  stretch_start = let n : i + k - i ≡ k = omega arith in rw n (take-take k (e - i) (drop i s) (omega arith))

  stretch_rest : drop k (stretch i e s) ≡ stretch (i + k) e s
  stretch_rest =
      let n : e - i - k ≡ e - (i + k) = omega arith in
      drop_take k (e - i) (drop i s) ∙ rw (n, drop-drop k i s)

-- The parts before i are found.
pub record Finding (s ends homes : List ℕ) (i : ℕ) : Type 0 where
  pub from : 2 ≤ i
  pub to : i ≤ 2 + used_in s
  pub wide : length ends ≡ sheet_length
  pub broad : length homes ≡ sheet_length
  pub near : (n : ℕ) → get_or homes n 0 < sheet_length
  pub passed : (j : ℕ) → (get_or ends j 0 ≡ 0 → ⊥) → get_or ends j 0 ≤ i
  pub part : (j : ℕ) → (get_or ends j 0 ≡ 0 → ⊥) → Part s j (get_or ends j 0)
  pub home : (j n : ℕ) → (get_or ends j 0 ≡ 0 → ⊥) → j ≤ n → n < get_or ends j 0 → get_or homes n 0 ≡ j
  pub whole : (t : List ℕ) → tree_fails t (numbers_in s) ≡ true → PartFails s ends t ⊎ (tree_fails t (stretch i (2 + used_in s) s) ≡ true)
  pub rest : (t : List ℕ) → tree_fails t (stretch i (2 + used_in s) s) ≡ true → tree_fails t (numbers_in s) ≡ true

pub finding_none : (s : List ℕ) {ends homes : List ℕ} → ends ≡ replicate sheet_length 0 → homes ≡ replicate sheet_length 0 →
    Finding s ends homes 2
unfolding numbers_in
finding_none s {ends} {homes} e f =
    let none : (j : ℕ) → get_or ends j 0 ≡ 0 = λ j. ap (λ t. get_or t j 0) e ∙ zero_everywhere sheet_length j in
    let n : 2 + used_in s - 2 ≡ used_in s = omega arith in
    record {
      from = omega arith;
      to = omega arith;
      wide = ap length e ∙ length-replicate {A = ℕ} sheet_length 0;
      broad = ap length f ∙ length-replicate {A = ℕ} sheet_length 0;
      near = λ m. let z : get_or homes m 0 ≡ 0 = ap (λ l. get_or l m 0) f ∙ zero_everywhere sheet_length m in omega arith;
      passed = λ j d. absurd (d (none j));
      part = λ j d. absurd (d (none j));
      home = λ j k d l m. absurd (d (none j));
      whole = λ t q. inr (rw n q);
      rest = λ t q. rw n at q;
    }

pub parted : {s ends homes : List ℕ} {i : ℕ} → Finding s ends homes i → 2 + used_in s ≤ i → Parted s ends homes
parted {s} {ends} {homes} {i} w h =
    let none : 2 + used_in s - i ≡ 0 = omega arith in
    record {
      near = w.near;
      part = w.part;
      home = w.home;
      whole = λ t q. ⊎_elim (λ p. p) (λ p. true_false (sym p ∙ rw none (none_fails t))) (w.whole t q);
    }

module _ {s ends homes : List ℕ} {i : ℕ} (sheet : Formed s) (w : Finding s ends homes i) (b : i < 2 + used_in s) where
  inside : 2 + used_in s ≤ length s
  inside = let k = sheet in omega (arith, k.used, k.whole)

  -- A conjunction, or the root, is passed.
  pub finding_head : (kind (get_or s i 0) ≡ 3) ⊎ (kind (get_or s i 0) ≡ 5) → Finding s ends homes (i + 1)
  finding_head c =
      let long = inside in
      let e = 2 + used_in s in
      let cut = stretch_first i e s b (omega arith) in
      let same : (t : List ℕ) → tree_fails t (stretch i e s) ≡ tree_fails t (stretch (i + 1) e s)
      = λ t. ap (tree_fails t) cut ∙ conjunction_fails t (get_or s i 0) (stretch (i + 1) e s) c in
      record {
        from = omega (arith, w.from);
        to = omega arith;
        wide = w.wide;
        broad = w.broad;
        near = w.near;
        passed = λ j d. omega (arith, w.passed j d);
        part = w.part;
        home = w.home;
        whole = λ t q. ⊎_elim (λ p. inl p) (λ p. inr (sym (same t) ∙ p)) (w.whole t q);
        rest = λ t q. w.rest t (same t ∙ q);
      }

  -- The numbers that are left spell trees.
  tail : stretch i (2 + used_in s) s ≡ drop (i - 2) (numbers_in s)
  unfolding numbers_in
  tail =
      let from = w.from in
      let n : used_in s - (i - 2) ≡ 2 + used_in s - i = omega arith in
      let m : 2 + (i - 2) ≡ i = omega arith in
      sym (drop_take (i - 2) (used_in s) (drop 2 s) ∙ rw (n, drop-drop (i - 2) 2 s, m))

  known : stretch i (2 + used_in s) s ≡ map number_of (map node_of (stretch i (2 + used_in s) s))
  unfolding nodes_in
  known =
      rw tail
      (ap (drop (i - 2)) sheet.numbers
      ∙ sym (map_drop number_of (i - 2) (map node_of (numbers_in s)))
      ∙ ap (map number_of) (sym (map_drop node_of (i - 2) (numbers_in s))))

  spelled : (u : ℕ) × (trees (map node_of (stretch i (2 + used_in s) s)) ≡ some u)
  unfolding nodes_in
  spelled =
      let p = trees_drop (i - 2) (nodes_in s) (shaped_trees sheet.shaped) in
      (p.0, ap (λ xs. trees (map node_of xs)) tail ∙ ap trees (map_drop node_of (i - 2) (numbers_in s)) ∙ p.1)

  seated_left : all_seated (decode (map node_of (stretch i (2 + used_in s) s))) ≡ true
  unfolding nodes_in
  seated_left =
      ap (λ xs. all_seated (decode (map node_of xs))) tail
      ∙ ap (λ ns. all_seated (decode ns)) (map_drop node_of (i - 2) (numbers_in s))
      ∙ seated_from (i - 2) (nodes_in s) (shaped_seated sheet.shaped)

  length_left : length (stretch i (2 + used_in s) s) ≡ 2 + used_in s - i
  length_left = stretch_long i (2 + used_in s) s inside

  -- The first tree of them is a part.
  module _ {k : ℕ} (same : k ≡ span 1 (stretch i (2 + used_in s) s)) where
    some_left : 0 < length (stretch i (2 + used_in s) s)
    some_left = omega (arith, length_left)

    pub part_some : 1 ≤ k
    part_some = rw same (first_some (stretch i (2 + used_in s) s) known spelled.1 some_left)

    pub part_within : i + k ≤ 2 + used_in s
    part_within = omega (arith, length_left, span_within 1 (stretch i (2 + used_in s) s))

    cut : (t : List ℕ) →
        tree_fails t (stretch i (2 + used_in s) s) ≡ (tree_fails t (stretch i (i + k) s) || tree_fails t (stretch (i + k) (2 + used_in s) s))
    cut t =
        let e = first_or_later (stretch i (2 + used_in s) s) known spelled.1 some_left t in
        let f = rw (← same, stretch_start i (2 + used_in s) k s part_within, stretch_rest i (2 + used_in s) k s part_within) at e in
        f

    here : Part s i (i + k)
    here =
        let some = part_some in
        let within = part_within in
        let from = w.from in
        let long = inside in
        let n : i + k - i ≡ k = omega arith in
        record {
          begins = from;
          goes_on = omega arith;
          ends = within;
          tree = record {
            one = ap (λ xs. trees (map node_of xs)) (sym (stretch_start i (2 + used_in s) k s within))
                ∙ rw same (first_one (stretch i (2 + used_in s) s) known spelled.1 some_left);
            inside = λ m l e.
                let short : m < i + k - i = omega (arith, stretch_long i (i + k) s (omega arith)) in
                let at_m = stretch_number i (i + k) m s short in
                rw at_m (literal_place s sheet (i + m) (omega arith) (omega arith) (rw at_m at e));
            seated =
                ap (λ xs. all_seated (decode (map node_of xs))) (sym (stretch_start i (2 + used_in s) k s within))
                ∙ rw same (first_seated (stretch i (2 + used_in s) s) known spelled.1 some_left seated_left);
          };
          counts = λ t q. w.rest t (cut t ∙ or_left (tree_fails t (stretch (i + k) (2 + used_in s) s)) q);
        }

    pub finding_part : {new : List ℕ} → Claimed i (i + k) homes new → i < sheet_length → Finding s (set ends i (i + k)) new (i + k)
    finding_part {new} claimed far =
        let some = part_some in
        let within = part_within in
        let wide = w.wide in
        let own : get_or (set ends i (i + k)) i 0 ≡ i + k = get_or-set_same ends i (i + k) 0 (omega arith) in
        let same_own : (j : ℕ) → j ≡ i → get_or (set ends i (i + k)) j 0 ≡ i + k = λ j e. ap (λ m. get_or (set ends i (i + k)) m 0) e ∙ own in
        let other : (j : ℕ) → (j ≡ i → ⊥) → get_or (set ends i (i + k)) j 0 ≡ get_or ends j 0 = λ j d. get_or-set_other ends i j (i + k) 0 d in
        let before : (j : ℕ) → (get_or ends j 0 ≡ 0 → ⊥) → j < i = λ j d. omega (arith, w.passed j d, (w.part j d).goes_on) in
        record {
          from = omega (arith, w.from);
          to = within;
          wide = length-set ends i (i + k) ∙ wide;
          broad = claimed.long ∙ w.broad;
          near = λ m. ⊎_elim
              (λ l. rw (claimed.outside m (inl (ltb-true m i l))) (w.near m))
              (λ l. ⊎_elim
              (λ g. rw (claimed.inside m (ltb-false m i l) (ltb-true m (i + k) g)) far)
              (λ g. rw (claimed.outside m (inr (ltb-false m (i + k) g))) (w.near m))
              (either (ltb m (i + k))))
              (either (ltb m i));
          passed = λ j d. ⊎_elim
              (λ e. rw (same_own j e) (omega arith))
              (λ e. rw (other j e) (omega (arith, w.passed j (λ z. d (other j e ∙ z)))))
              (same_or_not j i);
          part = λ j d. ⊎_elim
              (λ e. rw (same_own j e, e) here)
              (λ e. rw (other j e) (w.part j (λ z. d (other j e ∙ z))))
              (same_or_not j i);
          home = λ j n d l m. ⊎_elim
              (λ e. claimed.inside n (omega arith) (rw (same_own j e) at m) ∙ sym e)
              (λ e.
              let old : get_or ends j 0 ≡ 0 → ⊥ = λ z. d (other j e ∙ z) in
              let near : n < get_or ends j 0 = rw (other j e) at m in
              claimed.outside n (inl (omega (arith, w.passed j old))) ∙ w.home j n old l near)
              (same_or_not j i);
          whole = λ t q. ⊎_elim
              (λ (p : PartFails s ends t).
              let e : p.0 ≡ i → ⊥ = λ z. omega (arith, before p.0 p.1) in
              inl (p.0, λ z. p.1 (sym (other p.0 e) ∙ z), rw (other p.0 e) p.2))
              (λ p. ⊎_elim
              (λ r. inl (i, λ z. omega (arith, own), rw own r))
              (λ r. inr r)
              (or_split (tree_fails t (stretch i (i + k) s)) (tree_fails t (stretch (i + k) (2 + used_in s) s)) (sym (cut t) ∙ p)))
              (w.whole t q);
          rest = λ t q. w.rest t (cut t ∙ or_right (tree_fails t (stretch i (i + k) s)) q);
        }
