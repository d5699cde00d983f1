-- `import_bytes::breaks_at` meets its contract: the end of the text, a space, a tab, or a line end.
use mathlib.Core.Path.{sym, ◌∙◌}
use borrow.Author.Tests.{eqb-true, le-leb}
use lib.ListN.{length}
use Rattle.std.proofs.lemmas.Bool.{false≢true}
use Rattle.import_bytes.proofs.Places.{breaks_past, breaks_space, breaks_tab, breaks_other}
use Rattle.import_bytes.proofs.breaks_at.Goals as goal
use Rattle.import_bytes.proofs.breaks_at.Goals.{then-text-at, else-text-at, then-text-at-eq32, else-text-at-eq32}

pub returns-then-text-at-eq9 : goal.returns-then-text-at-eq9
returns-then-text-at-eq9 c =
    let held = c.if-text-at-eq9.true in
    elim c.if-text-at-eq32.branch [
      | then-text-at-eq32 w ↦ elim c.if-text-at.branch [
        | then-text-at v ↦ held ∙ sym (breaks_past c.args.text.now c.args.at v.if-text-at.true)
        | else-text-at v ↦ held ∙ sym (breaks_space c.args.text.now c.args.at (eqb-true _ 32 (sym v.value-is ∙ w.if-text-at-eq32.true)))
      ]
      | else-text-at-eq32 w ↦ held ∙ sym (breaks_tab c.args.text.now c.args.at (eqb-true _ 9 (sym w.value-is ∙ held)))
    ]

pub returns-else-text-at-eq9 : goal.returns-else-text-at-eq9
returns-else-text-at-eq9 c =
    let no = c.if-text-at-eq9.false in
    elim c.if-text-at-eq32.branch [
      | then-text-at-eq32 w ↦ absurd (false≢true (sym no ∙ w.value-is ∙ w.if-text-at-eq32.true))
      | else-text-at-eq32 w ↦ elim c.if-text-at.branch [
        | then-text-at v ↦ absurd (false≢true (sym w.if-text-at-eq32.false ∙ v.value-is ∙ le-leb (length c.args.text.now) c.args.at v.if-text-at.true))
        | else-text-at v ↦ c.ends_line_at.ensures ∙ sym (breaks_other c.args.text.now c.args.at (sym v.value-is ∙ w.if-text-at-eq32.false) (sym w.value-is ∙ no))
      ]
    ]
