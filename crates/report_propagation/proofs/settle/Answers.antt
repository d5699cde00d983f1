use mathlib.Core.Path.{refl}
use native.Mathlib.Omega.{arith}
use Rattle.std.proofs.lemmas.Result.{err_from_is_err_and}
use Rattle.report_propagation.proofs.Watching.{watching_none}
use Rattle.report_propagation.proofs.Following.{fallen_report, following_looked}
use Rattle.report_propagation.proofs.Following.{following_over, following_some, following_all, followed}
use Rattle.report_propagation.proofs.settle.Goals as goal

pub look_at_all-requires : goal.look_at_all-requires
look_at_all-requires c =
    let p = c.requires in
    record { formed = p.formed; part_ends = p.parted.part; watching = watching_none _ _ p.seen_value p.failed_value p.trail_len }

pub returns-in_err-look_at_all : goal.returns-in_err-look_at_all
returns-in_err-look_at_all c =
    let h = fallen_report c.requires.formed c.in_err-look_at_all.ensures in
    let p = err_from_is_err_and c.from_residual.result c.from_residual.ensures.1 in
    record { has_report = h.0; value = rw p.1 h.1 }

pub returns-in_err-look : goal.returns-in_err-look
returns-in_err-look c =
    let h = fallen_report c.loop-n.invariant.0 c.in_err-look.ensures in
    let out = c.from_residual-in_err-look in
    let p = err_from_is_err_and out.result out.ensures.1 in
    record { has_report = h.0; value = rw p.1 h.1 }

pub loop-n-preserved-in-Some : goal.loop-n-preserved-in-Some
loop-n-preserved-in-Some c =
    let w = c.loop-n.invariant in
    let part = c.part_at-part.ensures in
    let look = rw part.1 at c.in_ok-look.ensures in
    let on = following_looked w.0 w.1 w.2 w.4 c.in-Some.ensures part.0 look in
    (w.0, w.1, w.2, omega (arith, look.grown.more), on refl refl refl)

pub loop-n-preserved-then-small-known : goal.loop-n-preserved-then-small-known
loop-n-preserved-then-small-known c =
    let w = c.loop-n.invariant in
    let e = c.turn_of-turn.ensures in
    let next = c.in_default.ensures in
    let l = c.if-small-known.true in
    (w.0, w.1, w.2, omega (arith, l), following_some w.0 w.1 w.2 w.4 next e.0 e.1 l (λ z. omega (arith, z, e.2)))

pub loop-n-preserved : goal.loop-n-preserved
loop-n-preserved c =
    let w = c.loop-n.invariant in
    let e = c.turn_of-turn-then-large-known.ensures in
    let next = c.in_default.ensures in
    let l = c.if-large-known.true in
    (w.0, w.1, w.2, w.3, following_all w.0 w.1 w.2 w.4 next e.0 e.1 l refl e.2)

pub returns-else-large-known : goal.returns-else-large-known
returns-else-large-known c =
    let w = c.loop-n.invariant in
    let over = following_over w.0 w.1 w.2 w.4 c.in_default.ensures in
    let h = followed w.0 w.1 w.4.watching over c.if-large-known.false in
    record { has_report = h.0; value = h.1 }
