use Rattle.ev_http.proofs.Streamed.{stream_back}
use Rattle.ev_http.proofs.laws.streams_come_back.Goals as goal

pub returns : goal.returns
returns c = stream_back
