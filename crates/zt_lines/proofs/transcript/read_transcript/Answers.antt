use Rattle.std.proofs.Common.{sym, arith}
use Rattle.std.proofs.lemmas.List.{length-take-le}
use Rattle.zt_text.specs.Scripts.{max_script}
use Rattle.zt_lines.proofs.LineLaws.{transcript-short}
use Rattle.zt_lines.proofs.transcript.read_transcript.Goals as goal

pub slice_bounds-read_lines-end : goal.slice_bounds-read_lines-end
slice_bounds-read_lines-end c = sym (length-take-le max_script c.args.bytes.now (omega arith))

pub read_lines-requires : goal.read_lines-requires
read_lines-requires c = let size = length-take-le max_script c.args.bytes.now (omega arith) in omega arith

pub returns-else-bytes-gt-MAX_SCRIPT-clause-ok : goal.returns-else-bytes-gt-MAX_SCRIPT-clause-ok
returns-else-bytes-gt-MAX_SCRIPT-clause-ok c = rw (transcript-short c.args.bytes.now (omega arith)) c.read_lines-else-bytes-gt-MAX_SCRIPT.ensures.ok

pub returns-else-bytes-gt-MAX_SCRIPT-clause-err : goal.returns-else-bytes-gt-MAX_SCRIPT-clause-err
returns-else-bytes-gt-MAX_SCRIPT-clause-err c = rw (transcript-short c.args.bytes.now (omega arith)) c.read_lines-else-bytes-gt-MAX_SCRIPT.ensures.err
