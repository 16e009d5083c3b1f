use Rattle.journal.proofs.Turning.{turn-known, turn-place}
use Rattle.journal.proofs.turn.turn.Goals as goal

pub is_row_at-requires : goal.is_row_at-requires
is_row_at-requires c = (turn-known c.requires.place, turn-place c.requires.place)
