-- The stretch and the table from a place of a sheet on.
use mathlib.Core.List.{List}
use mathlib.Core.Path.{◌≡◌, ap, subst, ◌∙◌}
use Prim.Native.Nat.{ℕ, ◌+◌, ◌-◌, ◌≤◌, ◌<◌}
use native.Mathlib.Omega.{arith}
use lib.ListN.{length, drop, length-drop}
use lib.Seq.{drop-drop}
use Rattle.common_lists.proofs.Lent.{lent_part}
use borrow.Rule.Slice.PartMut.{mid_of}
use Rattle.model.specs.Limits.{sheet_room, sheet_length}
use Rattle.model.specs.Code.{encode, decode}
use Rattle.model.specs.Sheet.{used_in, nodes_in}
use Rattle.theory_reading.specs.Flat.{spell, Fits}
use Rattle.theory_forms.specs.Sheets.{Formed}
use Rattle.theory_reading.specs.Stretches.{Stretch, forest_in, spell_to, sheet_stretch}
use Rattle.theory_rewriting.specs.SheetPlaces.{lend}
use Rattle.search_sizes.specs.SizeTables.{SizesOf, Measured}
use Rattle.search_sizes.proofs.SizeEntries.{sizes_part, sheet_sizes}

-- The numbers of a sheet from a place on spell the trees there.
pub sheet_spelled :
    {s : List ℕ} →
    Formed s →
    (p : ℕ) →
    p ≤ used_in s →
    let f = decode (drop p (nodes_in s)) in
    (z : ℕ) × (drop (2 + p) s ≡ spell f z) × Fits f
unfolding spell_to
sheet_spelled {s} h p le =
    let w = sheet_stretch s p h le in
    let n = length (drop (2 + p) s) in
    (n - length (encode (decode (drop p (nodes_in s)))), w.0.spelled ∙ ap (λ g. spell g (n - length (encode g))) w.1, subst Fits w.1 w.0.fitting)

-- What is lent at a place: a stretch that spells the trees from there on, and the sizes of its trees.
pub record LentAt (s t : List ℕ) (p : ℕ) : Type 0 where
  pub whole : length s ≡ sheet_length
  pub within : p < sheet_room
  pub part : List ℕ
  pub table : List ℕ
  pub lent : mid_of (2 + p) (length s - (2 + p)) s ≡ part
  pub lent_table : mid_of p (length t - p) t ≡ table
  pub stretch : Stretch part
  pub long : 1 ≤ length part
  pub sizes : SizesOf part table
  pub trees : forest_in part ≡ decode (drop p (nodes_in s))

pub lent_at : {s t : List ℕ} (p : ℕ) → Measured s t → p < used_in s → LentAt s t p
lent_at {s} {t} p m lt =
    let l = lend s m.sheet p lt in
    let within : p ≤ length (drop 2 s) = omega (arith, length-drop 2 s, l.whole, l.within) in
    record {
      whole = l.whole;
      within = l.within;
      part = drop (2 + p) s;
      table = drop p t;
      lent = lent_part (2 + p) s;
      lent_table = lent_part p t;
      stretch = l.stretch;
      long = l.long;
      sizes = subst (λ xs. SizesOf xs (drop p t)) (drop-drop p 2 s) (sizes_part p (drop 2 s) t within (sheet_sizes m));
      trees = (sheet_stretch s p m.sheet (omega arith)).1;
    }
