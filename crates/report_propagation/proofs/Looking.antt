-- Laws of looking at a part: what it forced is known, literal by literal, so that it is exhausted; or it fails.
use mathlib.Core.Bool.{true}
use mathlib.Core.List.{List}
use mathlib.Core.Logic.{⊎_elim}
use mathlib.Core.Path.{◌≡◌, sym, ap, ◌∙◌}
use Prim.Native.Nat.{ℕ, ◌+◌, ◌≤◌, ◌<◌}
use native.Mathlib.Omega.{arith}
use borrow.Author.Count.{below_more}
use lib.ListN.{length, get_or, set, take}
use lib.Seq.{get_or-take}
use Rattle.model.specs.Base.{pick}
use Rattle.model.specs.Limits.{sheet_room, sheet_length, most_literals}
use Rattle.model.specs.Sheet.{numbers_in}
use Rattle.theory_forms.specs.Sheets.{Formed}
use Rattle.theory_meaning.specs.NumberTrees.{tree_fails}
use Rattle.report_breaking.specs.Breaking.{opposite, IsBrokenBy}
use Rattle.report_parts.specs.Parts.{stretch, Part}
use Rattle.report_parts.proofs.Linking.{same_or_not}
use Rattle.report_parts.proofs.Finding.{stretch_long}
use Rattle.report_propagation.specs.Trails.{fresh, Facts, HasFallen, Grown, Looked}
use Rattle.report_propagation.proofs.Learning.{grown_none, grown_both, learned, Answered, answered_exhausted}

-- A part lies within its sheet.
pub part_inside : {s : List ℕ} → Formed s → {i e : ℕ} → Part s i e → (e ≤ length s) × (e ≤ sheet_length) × (length s ≡ sheet_length)
part_inside h p = let k = h in let l = p.ends in (omega (arith, k.used, k.whole), omega (arith, k.used), k.whole)

pub part_length : {s : List ℕ} → Formed s → {i e : ℕ} → Part s i e → length (stretch i e s) ≤ sheet_room
part_length {s} h {i} {e} p = let l = part_inside h p in omega (arith, l.0, l.1, stretch_long i e s l.0, p.begins)

-- A part is exhausted once it does not fail and what it forced under the table before is known.
pub looked : {s : List ℕ} → Formed s → {i e : ℕ} → Part s i e → {t trail : List ℕ} {n : ℕ} → Facts s t trail n →
    {t' trail' : List ℕ} {n' : ℕ} → Facts s t' trail' n' → Grown t trail n t' trail' n' → Answered s i e t t' →
    Looked s i e t trail n t' trail' n'
looked sheet part before after grown answered =
    record {
      facts = after;
      grown = grown;
      exhausted = λ free. answered_exhausted grown before.long after.long part (part_inside sheet part).0 free answered;
    }

-- The first literals of a list, in the part that is lent.
broken_by_first : {t tree places : List ℕ} {n : ℕ} → IsBrokenBy t tree places n → IsBrokenBy t tree (take n places) n
broken_by_first {t} {tree} {places} {n} w =
    record {
      few = w.few;
      stands = w.stands;
      each = λ k l. rw (get_or-take n places k 0 l) (w.each k l);
      all = λ q small new fall.
          let found = w.all q small new fall in
          (found.0, found.1, get_or-take n places found.0 0 found.1 ∙ found.2);
    }

-- Of the literals that break a part, the first k are known.
pub record BreaksKnown (s : List ℕ) (i e : ℕ) (t₀ trail₀ : List ℕ) (n₀ : ℕ) (places : List ℕ) (count : ℕ)
    (t trail : List ℕ) (n k : ℕ) : Type 0 where
  pub sheet : Formed s
  pub part : Part s i e
  pub start : Facts s t₀ trail₀ n₀
  pub broken : IsBrokenBy t₀ (stretch i e s) places count
  pub facts : Facts s t trail n
  pub grown : Grown t₀ trail₀ n₀ t trail n
  pub known : (j : ℕ) → j < k → get_or t (opposite (get_or places j 0)) 0 ≡ 1

module _ {s : List ℕ} {i e : ℕ} {t₀ trail₀ : List ℕ} {n₀ : ℕ} {places : List ℕ} {count : ℕ} where
  pub breaks_none : Formed s → Part s i e → Facts s t₀ trail₀ n₀ → IsBrokenBy t₀ (stretch i e s) places count →
      BreaksKnown s i e t₀ trail₀ n₀ (take count places) count t₀ trail₀ n₀ 0
  breaks_none sheet part start broken =
      record {
        sheet = sheet;
        part = part;
        start = start;
        broken = broken_by_first broken;
        facts = start;
        grown = grown_none t₀ trail₀ n₀;
        known = λ j l. absurd (omega arith);
      }

  module _ {t trail : List ℕ} {n k : ℕ} (w : BreaksKnown s i e t₀ trail₀ n₀ places count t trail n k) where
    pub breaks_more : k < count → {p : ℕ} → p ≡ get_or places k 0 → {t' trail' : List ℕ} {n' : ℕ} → n' ≡ pick (fresh t p) (n + 1) n →
        t' ≡ pick (fresh t p) (set t (opposite p) 1) t → trail' ≡ pick (fresh t p) (set trail n (opposite p)) trail →
        BreaksKnown s i e t₀ trail₀ n₀ places count t' trail' n' (k + 1)
    breaks_more l {p} z {t'} a b c =
        let here = w.broken.each k l in
        let near : p < most_literals = rw z here.0 in
        let forced : tree_fails (set t₀ p 1) (numbers_in s) ≡ true = rw z (w.part.counts (set t₀ (get_or places k 0) 1) here.1) in
        let r = learned w.start w.facts near forced a b c in
        record {
          sheet = w.sheet;
          part = w.part;
          start = w.start;
          broken = w.broken;
          facts = r.0;
          grown = grown_both w.grown r.1;
          known = below_more (λ j. get_or t' (opposite (get_or places j 0)) 0 ≡ 1) k
              (λ j m. r.1.keeps (opposite (get_or places j 0)) (w.known j m))
              (ap (λ q. get_or t' (opposite q) 0) (sym z) ∙ r.2);
        }

    -- A literal whose complement failed before was known then.
    pub breaks_all : count ≤ k → Looked s i e t₀ trail₀ n₀ t trail n
    breaks_all h = looked w.sheet w.part w.start w.facts w.grown
        (record {
          stands = w.broken.stands;
          known = λ q small fall. ⊎_elim
              (λ was. w.grown.keeps (opposite q) was)
              (λ new.
              let found = w.broken.all q small new fall in
              ap (λ p. get_or t (opposite p) 0) (sym found.2) ∙ w.known found.0 (omega (arith, found.1)))
              (same_or_not (get_or t₀ (opposite q) 0) 1);
        })

-- A part that fails under facts makes the sheet contradictory.
pub part_fallen : {s : List ℕ} {i e : ℕ} {t trail : List ℕ} {n : ℕ} → Part s i e → Facts s t trail n →
    tree_fails t (stretch i e s) ≡ true → HasFallen s t
part_fallen {t = t} part facts fall = record { falls = part.counts t fall; right = facts.right }
