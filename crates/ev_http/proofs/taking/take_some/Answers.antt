use Rattle.std.proofs.Common.{take, rules}
use Rattle.ev_http.proofs.Takings.{piece_has_no_feed}
use Rattle.ev_http.proofs.taking.take_some.Goals as goal

pub returns-else-buffer-count-eq10 : goal.returns-else-buffer-count-eq10
returns-else-buffer-count-eq10 g c =
    record {
      line = (
        take c.in-Ok-Some.count c.take_line_piece.new.buffer,
        (search rules),
        (
          piece_has_no_feed c.take_line_piece.new.buffer c.in-Ok-Some.count (search rules) (search rules) (search rules) (search rules),
          (search rules),
          (search rules),
          (search rules),
        ),
      );
    }
