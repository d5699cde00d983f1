-- Tables, entry by entry: a run of ones, and entries that go.
use mathlib.Core.List.{List, ◌++◌}
use mathlib.Core.Logic.{⊎_elim}
use mathlib.Core.Path.{◌≡◌, sym, ap, ◌∙◌}
use Prim.Native.Nat.{ℕ, ◌+◌, ◌-◌, ◌≤◌, ◌<◌}
use native.Mathlib.Omega.{arith}
use borrow.Author.Tests.{eqb-true, eqb-false}
use lib.Dec.{eqb}
use lib.ListN.{length, get_or, take, drop, set, replicate, length-drop, length-set, get_or-append}
use lib.Seq.{get_or-set_same, get_or-set_other, get_or-take, get_or-drop, get_or-append-add, length-take-le}
use Rattle.model.specs.Limits.{sheet_room}
use Rattle.theory_forms.specs.Logic.{either}
use Rattle.run_bounds_after.specs.Renewed.{Planned, Apart, Renewed}
use Rattle.run_bounds_after.specs.declared.Plan.{Plan}

pub record Ones (from to : ℕ) (t u : List ℕ) : Type 0 where
  pub ones : (q : ℕ) → from ≤ q → q < to → get_or u q 0 ≡ 1
  pub before : (q : ℕ) → q < from → get_or u q 0 ≡ get_or t q 0
  pub after : (q : ℕ) → to ≤ q → get_or u q 0 ≡ get_or t q 0

-- Entries that go: those before them stay, those after them move up.
abbrev pub gone : List ℕ → ℕ → ℕ → List ℕ
gone t at count = take at t ++ (drop (at + count) t ++ replicate count 0)

module _ (t : List ℕ) (at count : ℕ) (within : at + count ≤ length t) where
  long : length (take at t) ≡ at
  long = length-take-le at t (omega arith)

  pub gone_before : (q : ℕ) → q < at → get_or (gone t at count) q 0 ≡ get_or t q 0
  gone_before q l =
      get_or-append (take at t) (drop (at + count) t ++ replicate count 0) 0 q (omega (arith, long)) ∙ get_or-take at t q 0 l

  pub gone_after : (q : ℕ) → at ≤ q → q + count < length t → get_or (gone t at count) q 0 ≡ get_or t (q + count) 0
  gone_after q l h =
      let sum : length (take at t) + (q - at) ≡ q = omega (arith, long) in
      let place : at + count + (q - at) ≡ q + count = omega arith in
      ap (λ k. get_or (gone t at count) k 0) (sym sum)
      ∙ get_or-append-add (take at t) (drop (at + count) t ++ replicate count 0) (q - at) 0
      ∙ get_or-append (drop (at + count) t) (replicate count 0) 0 (q - at) (omega (arith, length-drop (at + count) t))
      ∙ get_or-drop (at + count) t (q - at) 0
      ∙ ap (λ k. get_or t k 0) place

-- An entry set to 1: it is, and those that are 1 stay so; any other is as it was.
keeps_one : (t : List ℕ) (a q : ℕ) → a < length t → get_or t q 0 ≡ 1 → get_or (set t a 1) q 0 ≡ 1
keeps_one t a q l e =
    ⊎_elim
    (λ x. let same : q ≡ a = eqb-true q a x in ap (λ k. get_or (set t a 1) k 0) same ∙ get_or-set_same t a 1 0 l)
    (λ x. get_or-set_other t a q 1 0 (eqb-false q a x) ∙ e)
    (either (eqb q a))

-- The whole renewal.
module _ (p : Plan) (ok : Planned p) (t o : List ℕ) (lt : length t ≡ sheet_room) (lo : length o ≡ sheet_room) where
  abbrev o1 : List ℕ
  o1 = set o p.place 1

  abbrev o2 : List ℕ
  o2 = set o1 p.inner 1

  pub l0 : p.place < length o
  l0 = omega (arith, ok)

  pub l1 : p.inner < length (set o p.place 1)
  l1 = omega (arith, ok, length-set o p.place 1)

  pub l2 : p.outer < length (set (set o p.place 1) p.inner 1)
  l2 = omega (arith, ok, length-set o p.place 1, length-set (set o p.place 1) p.inner 1)

  others : (q : ℕ) → Apart p q → get_or (set o2 p.outer 1) q 0 ≡ get_or o q 0
  others q a =
      get_or-set_other o2 p.outer q 1 0 a.outer ∙ get_or-set_other o1 p.inner q 1 0 a.inner ∙ get_or-set_other o p.place q 1 0 a.place

  pub renewed :
      Ones p.zone.from p.zone.new (gone t p.zone.new (p.zone.old - p.zone.new)) o →
      Renewed p t (set (set (set o p.place 1) p.inner 1) p.outer 1)
  renewed ones =
      let new = p.zone.new in
      let back = p.zone.old - new in
      let fits : new + back ≤ length t = omega (arith, ok) in
      record {
        moved = record {
          at_place = keeps_one o2 p.outer p.place l2 (keeps_one o1 p.inner p.place l1 (get_or-set_same o p.place 1 0 l0));
          at_inner = keeps_one o2 p.outer p.inner l2 (get_or-set_same o1 p.inner 1 0 l1);
          at_outer = get_or-set_same o2 p.outer 1 0 l2;
          before = λ q l a. others q a ∙ ones.before q l ∙ gone_before t new back fits q (omega (arith, ok));
          after = λ q l m a. others q a ∙ ones.after q l ∙ gone_after t new back fits q l (omega arith);
        };
        zone = λ q l m. keeps_one o2 p.outer q l2 (keeps_one o1 p.inner q l1 (keeps_one o p.place q l0 (ones.ones q l m)));
      }
