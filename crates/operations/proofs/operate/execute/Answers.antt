use mathlib.Core.Path.{sym}
use Rattle.journal.proofs.Booking.{laid-books}
use Rattle.operations.proofs.Entered.{ended, operands-got, written, read_only, broken-kept}
use Rattle.operations.proofs.operate.execute.Goals as goal

pub returns-then-is_err : goal.returns-then-is_err
returns-then-is_err c = broken-kept _ _ c.walk.result c.walk.ensures c.if-is_err.ensures.value _ _ _ c.requires _ c.new.ensures

pub ask-requires : goal.ask-requires
ask-requires c =
    let e = ended c.walk.result c.if-is_err.ensures.value in
    ((laid-books c.requires).store, sym c.if-is_read.ensures, operands-got _ _ c.walk.result c.walk.ensures e.0 e.1 _ c.byte_of-k.ensures)

pub returns-then-is_read : goal.returns-then-is_read
returns-then-is_read c =
    let e = ended c.walk.result c.if-is_err.ensures.value in
    read_only _ _ c.walk.result c.walk.ensures e.0 e.1 _ c.byte_of-k.ensures _ _ _ _ c.requires (sym c.if-is_read.ensures) c.ask.ensures

pub write-requires : goal.write-requires
write-requires c =
    let e = ended c.walk.result c.if-is_err.ensures.value in
    (c.requires, sym c.if-is_read.ensures, operands-got _ _ c.walk.result c.walk.ensures e.0 e.1 _ c.byte_of-k.ensures)

pub returns : goal.returns
returns c =
    let e = ended c.walk.result c.if-is_err.ensures.value in
    written _ _ c.walk.result c.walk.ensures e.0 e.1 _ c.byte_of-k.ensures _ _ _ _ _ _ c.write.ensures
